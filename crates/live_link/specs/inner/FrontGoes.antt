-- Where the run of the vehicle's end stands in front of the first event line of its script. Cited by private contracts
-- alone.
use Rattle.std.specs.Prelude.{◌≡◌, ℕ, ◌+◌, true, false, List, [], ◌∷◌, ◌++◌, length, Option, Some, None, Result, Ok, Err}
use Rattle.call_io.specs.Bytes.{Took}
use Rattle.line_input.specs.Lines.{IsWhole, lines_of}
use Rattle.line_input.specs.Reading.{Reading}
use Rattle.line_input.specs.Taken.{LinesSoFar}
use Rattle.link_frames.specs.declared.frame.End.TheVariants as «end»
use Rattle.link_parts.specs.Messages.{script_end}
use Rattle.link_parts.specs.Rounds.{rounds_of}
use Rattle.msd_fit.specs.declared.facts.Facts.{Facts}
use Rattle.trace_model.specs.declared.event.Event.{Event}
use Rattle.trace_text.specs.Drafts.{DraftOf}
use Rattle.trace_text.specs.Facts.{facts_in, is_one_too_many}
use Rattle.trace_text.specs.Script.{Said, Script, in_front, placed}
use Rattle.trace_text.specs.declared.draft.Draft.{Draft}
use Rattle.trace_text.specs.declared.fact_line.FactLine.{FactLine}
use Rattle.trace_text.specs.declared.script.ScriptLine.{ScriptLine}
use Rattle.trace_text.specs.declared.script.ScriptLine.TheVariants as line
use Rattle.live_link.specs.LiveOutcome.{LiveOutcome, LiveStreams, Over}
use Rattle.live_link.specs.Runs.{Run, at_script_end}
use Rattle.live_link.specs.Scripts.{script_from, vehicle_run}
use Rattle.live_link.specs.declared.answer.LiveStatus.{LiveStatus}
use Rattle.live_link.specs.declared.answer.LiveStatus.TheVariants as status
use Rattle.live_link.specs.declared.vehicle_front.Front.{Front}
use Rattle.live_link.specs.declared.vehicle_front.Front.TheVariants as front
use Rattle.live_link.specs.inner.Brought.{no_last}

-- these fact lines were said, and no event line
abbrev pub told_facts : List FactLine → Said
told_facts told = record { facts = told; eventful = false }

-- the run of a script over octets
abbrev pub run_of_script : Script → (octets : List ℕ) → Run
run_of_script script octets = vehicle_run script.facts script (rounds_of «end».Vehicle octets)

-- nothing but the script was read, and nothing written
pub record IsStill (start now : LiveStreams) : Type 0 where
  pub trace : now.trace ≡ start.trace
  pub from : now.from ≡ start.from
  pub to : now.to ≡ start.to
  pub passes : now.passes ≡ start.passes

-- These fact lines were read, and lines that are passed over.
pub record FrontOver (over : Over) (start now : LiveStreams) (reading : Reading) (draft : Draft) : Type 0 where
  pub lines : List (List ℕ)
  pub told : List FactLine
  pub so_far : LinesSoFar start.script now.script reading lines
  pub drafted : DraftOf draft told
  pub still : IsStill start now
  pub same :
      (more : List (List ℕ)) (octets : List ℕ)
      → over (lines ++ more) octets
      ≡ run_of_script (script_from «end».Vehicle (told_facts told) (length lines + 1) more) octets

-- The script has no event line.
pub record FrontEnded (over : Over) (start now : LiveStreams) : Type 0 where
  pub script : List ℕ
  pub took : Took start.script now.script script
  pub whole : IsWhole now.script script
  pub still : IsStill start now
  pub same : (octets : List ℕ) → over (lines_of script) octets ≡ at_script_end 0 (script_end ∷ []) None

-- The first event line was read, behind these facts.
pub record FirstCame (over : Over) (start now : LiveStreams) (reading : Reading) (facts : Facts) (event : Event)
    : Type 0 where
  pub lines : List (List ℕ)
  pub said : Said
  pub so_far : LinesSoFar start.script now.script reading lines
  pub known : facts_in said.facts ≡ Some facts
  pub eventful : said.eventful ≡ true
  pub still : IsStill start now
  pub same :
      (more : List (List ℕ)) (octets : List ℕ)
      → over (lines ++ more) octets
      ≡ run_of_script (in_front (line.Event event) (script_from «end».Vehicle said (length lines + 1) more)) octets

-- what follows the facts
abbrev pub IsFront : Over → (start now : LiveStreams) → Reading → Front → Type 0
IsFront over start now reading (front.First facts event) = FirstCame over start now reading facts event
IsFront over start now reading front.End = FrontEnded over start now

-- what one line more comes to, and all of them
abbrev pub FrontStep : Over → (start now : LiveStreams) → Reading → Draft → Result (Option Front) LiveStatus → Type 0
FrontStep over start now reading draft (Ok None) = FrontOver over start now reading draft
FrontStep over start now reading draft (Ok (Some what)) = IsFront over start now reading what
FrontStep over start now reading draft (Err how) = LiveOutcome no_last over start now how

abbrev pub FrontRead : Over → (start now : LiveStreams) → Reading → Result Front LiveStatus → Type 0
FrontRead over start now reading (Ok what) = IsFront over start now reading what
FrontRead over start now reading (Err how) = LiveOutcome no_last over start now how

-- what a line in front of the first event line comes to, by what it says
abbrev pub TakesInFront : List FactLine → Draft → ScriptLine → (number : ℕ) → Result (Option Front) LiveStatus → Type 0
TakesInFront told draft says number (Ok None) =
    (fact : FactLine) × (says ≡ line.Fact fact) × (is_one_too_many told fact ≡ false)
    × DraftOf draft (told ++ fact ∷ [])
TakesInFront told draft says number (Ok (Some (front.First facts event))) =
    (says ≡ line.Event event) × (facts_in told ≡ Some facts)
TakesInFront told draft says number (Ok (Some front.End)) = ⊥
TakesInFront told draft says number (Err (status.Refused bad)) =
    (bad.line ≡ number) × (placed (told_facts told) says ≡ Err bad.reason)
TakesInFront told draft says number (Err _) = ⊥
