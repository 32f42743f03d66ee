-- The scripts of the two ends of a live link: each has its own lines, and every other line is refused as one that is
-- none of them. This project's profile. Cited by the law of joint traces.
use Rattle.std.specs.Prelude.{ℕ, ◌+◌, Bool, true, false, List, [], ◌∷◌, ◌||◌, codes, Option, Some, None, Result, Ok, Err, if◌then◌else◌}
use Rattle.std.specs.List.{list_any}
use Rattle.std.specs.Str.{bytes_eq}
use Rattle.link_frames.specs.declared.frame.End.{End}
use Rattle.link_frames.specs.declared.frame.End.TheVariants as «end»
use Rattle.msd_fit.specs.declared.facts.Facts.{Facts}
use Rattle.trace_text.specs.Facts.{facts_in}
use Rattle.trace_text.specs.EntryLine.{end_word}
use Rattle.line_input.specs.Lines.{lines_of, line_fault, is_comment}
use Rattle.line_input.specs.Words.{words}
use Rattle.trace_text.specs.Script.{Said, nothing_said, said_after, Script, in_front, placed}
use Rattle.trace_text.specs.Script as any_end
use Rattle.line_input.specs.declared.reason.Reason.{Reason}
use Rattle.line_input.specs.declared.reason.Reason.TheVariants as reason
use Rattle.trace_text.specs.declared.script.ScriptLine.{ScriptLine}
use Rattle.link_parts.specs.Messages.{script_end}
use Rattle.link_parts.specs.Rounds.{Rounds, rounds_of, parts_in}
use Rattle.live_link.specs.Runs.{Run, beats_of, at_script_end}
use Rattle.live_link.specs.VehicleLive as vehicle
use Rattle.live_link.specs.PointLive as point

abbrev pub is_one_of : List (List ℕ) → List ℕ → Bool
is_one_of choices word = list_any (λ c. bytes_eq word c) choices

-- the words with which every line of an end's own begins whatever follows, but for its facts
abbrev pub own_words : End → List (List ℕ)
own_words «end».Vehicle =
    codes "trigger" ∷ codes "cancel" ∷ codes "net" ∷ codes "sleep" ∷ codes "fail" ∷ codes "tick" ∷ []
own_words «end».Point =
    codes "callback" ∷ codes "request" ∷ codes "clear" ∷ codes "hangup" ∷ codes "damaged" ∷ codes "tick" ∷ []

-- the words of fact lines
abbrev pub vehicle_fact_words : List (List ℕ)
vehicle_fact_words =
    codes "format" ∷ codes "vin" ∷ codes "kind" ∷ codes "fuel" ∷ codes "passengers" ∷ codes "extra" ∷ []

abbrev pub way_fact_words : List (List ℕ)
way_fact_words =
    codes "time" ∷ codes "place" ∷ codes "heading" ∷ codes "trusted" ∷ codes "before1" ∷ codes "before2" ∷ []

abbrev pub is_fact : List ℕ → Bool
is_fact first =
    (is_one_of vehicle_fact_words first || is_one_of way_fact_words first) || bytes_eq first (codes "set")

-- the point knows no facts
abbrev pub is_fact_of : End → List ℕ → Bool
is_fact_of «end».Vehicle first = is_fact first
is_fact_of «end».Point first = false

-- Of `fault` and `drop` the second word decides, before any count of words; without one, how many there are is wrong.
-- Of `reset` it decides where it is the only one.
abbrev pub names_end : End → List (List ℕ) → Bool
names_end e [] = true
names_end e (second ∷ rest) = bytes_eq second (end_word e)

abbrev pub resets_end : End → List (List ℕ) → Bool
resets_end e (second ∷ []) = bytes_eq second (end_word e)
resets_end e _ = true

-- whether a line may be one of the end's own, by its first words
abbrev pub is_own : End → List ℕ → List (List ℕ) → Bool
is_own e first rest =
    if is_one_of (codes "fault" ∷ codes "drop" ∷ []) first then names_end e rest
    else if bytes_eq first (codes "reset") then resets_end e rest
    else is_one_of (own_words e) first || is_fact_of e first

abbrev pub is_own_line : End → List (List ℕ) → Bool
is_own_line e [] = false
is_own_line e (first ∷ rest) = is_own e first rest

-- every other line is refused as one that begins with no word of the end's
abbrev pub line_by_words : End → List (List ℕ) → Result ScriptLine Reason
line_by_words e line = if is_own_line e line then any_end.line_by_words line else Err reason.Word

-- The point's events need no facts.
abbrev pub placed_in : End → Said → ScriptLine → Result (Option ScriptLine) Reason
placed_in «end».Vehicle said says = placed said says
placed_in «end».Point said says = Ok (Some says)

abbrev pub placed_line : End → Said → Result ScriptLine Reason → Result (Option ScriptLine) Reason
placed_line e said (Err why) = Err why
placed_line e said (Ok says) = placed_in e said says

-- what a line says in its place, nothing where it is passed over, or why it is refused
abbrev pub judged : End → Said → List ℕ → Result (Option ScriptLine) Reason
judged e said text =
    elim (line_fault text) [
      | Some why ↦ Err why
      | None ↦ if is_comment text then Ok None else placed_line e said (line_by_words e (words text))
    ]

-- the script of the lines from a number on
unfoldable pub script_from : End → Said → ℕ → List (List ℕ) → Script
script_from e said number [] = record { facts = facts_in said.facts; events = []; refused = None }
script_from e said number (text ∷ texts) = elim (judged e said text) [
  | Ok None ↦ script_from e said (number + 1) texts
  | Ok (Some says) ↦ in_front says (script_from e (said_after said says) (number + 1) texts)
  | Err why ↦
      record { facts = facts_in said.facts; events = []; refused = Some (record { line = number; reason = why }) }
]

-- the script of a text
abbrev pub script_of : End → List ℕ → Script
script_of e bytes = script_from e nothing_said 1 (lines_of bytes)

-- The runs.

-- where there are no facts there are no events
abbrev pub vehicle_run : Option Facts → Script → Rounds → Run
vehicle_run None script rounds = at_script_end 0 (script_end ∷ []) script.refused
vehicle_run (Some known) script rounds =
    vehicle.run_from (vehicle.first_live known) (parts_in rounds.messages) rounds.stop script.refused
    (beats_of script.events)

-- the run of the vehicle's end over the lines of a script and over the octets from the point
abbrev pub vehicle_over : (lines : List (List ℕ)) → (octets : List ℕ) → Run
vehicle_over lines octets =
    let s : Script = script_from «end».Vehicle nothing_said 1 lines in
    vehicle_run s.facts s (rounds_of «end».Vehicle octets)

abbrev pub vehicle_live : (script octets : List ℕ) → Run
vehicle_live script octets = vehicle_over (lines_of script) octets

-- the run of the point's end over the lines of a script and over the octets from the vehicle
abbrev pub point_over : (lines : List (List ℕ)) → (octets : List ℕ) → Run
point_over lines octets =
    let s : Script = script_from «end».Point nothing_said 1 lines in
    let r : Rounds = rounds_of «end».Point octets in
    point.run_from point.first_live r.messages r.stop s.refused (beats_of s.events)

abbrev pub point_live : (script octets : List ℕ) → Run
point_live script octets = point_over (lines_of script) octets

-- the run of either end over the lines of its script and over the octets from the other
abbrev pub run_of : End → (lines : List (List ℕ)) → (octets : List ℕ) → Run
run_of «end».Vehicle lines octets = vehicle_over lines octets
run_of «end».Point lines octets = point_over lines octets
