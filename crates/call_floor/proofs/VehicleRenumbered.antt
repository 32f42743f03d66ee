-- The vehicle's table looks at no call's number.
use Rattle.std.proofs.Common.{◌≡◌, ℕ, Bool, true, false, not, List, [], ◌∷◌, ◌++◌, ◌==◌, ◌&&◌, nat_le, Option, Some, None, map, unwrap_or, if◌then◌else◌, refl, ap, sym, ◌∙◌}
use Rattle.std.proofs.lemmas.List.{map-append}
use Rattle.callback.specs.Rest.{least_standby, longest_standby}
use Rattle.link_frames.specs.declared.frame.Answer.TheVariants as answer
use Rattle.link_frames.specs.declared.frame.End.TheVariants as «end»
use Rattle.link_frames.specs.declared.frame.Frame.TheVariants as frame
use Rattle.link_frames.specs.declared.note.Note.{Note}
use Rattle.link_frames.specs.declared.note.Note.TheVariants as note
use Rattle.link_frames.specs.declared.note.Timer.{Timer}
use Rattle.link_frames.specs.declared.note.Timer.TheVariants as timer
use Rattle.link_frames.specs.declared.note.Why.TheVariants as why
use Rattle.link_frames.specs.Ranks.{Deadline, first_of, behind}
use Rattle.link_frames.specs.Requests.{is_among}
use Rattle.link_frames.specs.Row.{Row, silent}
use Rattle.msd_fit.specs.declared.cause.Cause.{Cause}
use Rattle.msd_fit.specs.declared.cause.Cause.TheVariants as cause
use Rattle.redial.specs.Series.{is_dialling, under_way}
use Rattle.redial.specs.SeriesRows as series
use Rattle.redial.specs.declared.series.Next.{Next}
use Rattle.redial.specs.declared.series.Next.TheVariants as next
use Rattle.redial.specs.declared.series.Series.{Series}
use Rattle.redial.specs.declared.series.Ticked.{Ticked}
use Rattle.redial.specs.declared.series.Turn.{Turn}
use Rattle.ivs_machine.specs.Vehicle.{Vehicle, first_vehicle, Phase, Idle, Standby, Arming, InSeries, InCall, Left, LeftIdle, LeftStandby, CallStage, Initiating, Awaiting, Sending, Confirming, Talking, is_settled}
use Rattle.ivs_machine.specs.VehicleRows.{ends, longest_call, Heard, Trigger, Cancel, Net, Answered, Failed, Incoming, Sleep, Fault, Hangup, Lost, Arrives, Reset, cancel_period, down, voices, gives, when, follows, begins, failed_attempt, moves, fails, told, ended_items, turns, rests, idles, triggers, returns, answered, called, enters, opens, takes, sends_again, acked, counts, releases, networked, is_above, is_long_open, named, unnamed, vehicle_row, aged, aged_in, at, in_stage, with_rows, deadlines, acts, unit_row}
use Rattle.call_floor.specs.Numbers.{note_with, vehicle_with}

abbrev pub vehicle_row_with : (ℕ → ℕ) → Row Vehicle → Row Vehicle
vehicle_row_with f row = record { items = map (note_with f) row.items; new = vehicle_with f row.new }

abbrev pub heard_with : (ℕ → ℕ) → Heard → Heard
heard_with f (Answered c) = Answered (f c)
heard_with f (Incoming c) = Incoming (f c)
heard_with f e = e

abbrev with_each : (ℕ → ℕ) → Option (Row Vehicle) → Option (Row Vehicle)
with_each f None = None
with_each f (Some row) = Some (vehicle_row_with f row)

-- of two rows, by the same test
either : (f : ℕ → ℕ) (b : Bool) (x y : Row Vehicle) → (if b then vehicle_row_with f x else vehicle_row_with f y) ≡ vehicle_row_with f (if b then x else y)
either f true x y = refl
either f false x y = refl

guarded : (f : ℕ → ℕ) (b : Bool) (x : Row Vehicle) → when b (vehicle_row_with f x) ≡ with_each f (when b x)
guarded f true x = refl
guarded f false x = refl

failed_same : (f : ℕ → ℕ) (o : Option ℕ) → map (note_with f) (failed_attempt o) ≡ failed_attempt o
failed_same f None = refl
failed_same f (Some n) = refl

follows_same : (f : ℕ → ℕ) (n : Next) (s : Series) (v : Vehicle) → follows n s (vehicle_with f v) ≡ vehicle_row_with f (follows n s v)
follows_same f (next.Dial n) s v = refl
follows_same f next.Pause s v = refl
follows_same f next.Seek s v = refl
follows_same f next.GaveUp s v = refl

begins_same : (f : ℕ → ℕ) (v : Vehicle) → begins (vehicle_with f v) ≡ vehicle_row_with f (begins v)
begins_same f v = follows_same f (series.begins v.network).next (series.begins v.network).new v

triggers_same : (f : ℕ → ℕ) (by : Cause) (v : Vehicle) → triggers by (vehicle_with f v) ≡ vehicle_row_with f (triggers by v)
triggers_same f by v = begins_same f (record v { cause = by; sets = 0 })

-- items of no call, and then a row
behind_same : (f : ℕ → ℕ) (items : List Note) (row other : Row Vehicle) → map (note_with f) items ≡ items → other ≡ vehicle_row_with f row → behind items other ≡ vehicle_row_with f (behind items row)
behind_same f items row other plain same =
    ap (behind items) same
    ∙ ap (λ l. record { items = l ++ map (note_with f) row.items; new = vehicle_with f row.new }) (sym plain)
    ∙ ap (λ l. record { items = l; new = vehicle_with f row.new }) (sym (map-append (note_with f) items row.items))

moves_same : (f : ℕ → ℕ) (old : Series) (o : Option Next) (new : Series) (v : Vehicle) → moves old o new (vehicle_with f v) ≡ vehicle_row_with f (moves old o new v)
moves_same f old None new v = refl
moves_same f old (Some n) new v =
    behind_same f (failed_attempt (under_way old)) (follows n new v) (follows n new (vehicle_with f v)) (failed_same f (under_way old)) (follows_same f n new v)

ended_same : (f : ℕ → ℕ) → f 0 ≡ 0 → (o : Option Timer) → map (note_with f) (ended_items o) ≡ ended_items o
ended_same f z None = refl
ended_same f z (Some t) = ap (λ c. note.Ended «end».Vehicle c t ∷ []) z

turns_same : (f : ℕ → ℕ) → f 0 ≡ 0 → (old : Series) (v : Vehicle) (o : Option Turn) (new : Series) → turns old (vehicle_with f v) o new ≡ vehicle_row_with f (turns old v o new)
turns_same f z old v None new = refl
turns_same f z old v (Some turn) new =
    behind_same f (ended_items turn.ended) (moves old (Some turn.next) new v) (moves old (Some turn.next) new (vehicle_with f v)) (ended_same f z turn.ended) (moves_same f old (Some turn.next) new v)

fails_same : (f : ℕ → ℕ) (s : Series) (v : Vehicle) → fails s (vehicle_with f v) ≡ vehicle_row_with f (fails s v)
fails_same f s v = moves_same f s (Some (series.fails s).next) (series.fails s).new v

told_same : (f : ℕ → ℕ) (up : Bool) (s : Series) (v : Vehicle) → told up s (vehicle_with f v) ≡ vehicle_row_with f (told up s v)
told_same f up s v = moves_same f s (series.told up s).next (series.told up s).new v

returns_same : (f : ℕ → ℕ) (v : Vehicle) (before : Left) → returns (vehicle_with f v) before ≡ vehicle_row_with f (returns v before)
returns_same f v LeftIdle = refl
returns_same f v LeftStandby = either f (v.standby == longest_standby) (idles v) (gives [] (record v { phase = Standby }))

named_same : (f : ℕ → ℕ) → f 0 ≡ 0 → (e : Heard) (v : Vehicle) (p : Phase) → named (heard_with f e) (vehicle_with f v) p ≡ with_each f (named e v p)
named_same f z (Trigger cause.Auto) v Idle = ap Some (triggers_same f cause.Auto v)
named_same f z (Trigger cause.Auto) v Standby = ap Some (triggers_same f cause.Auto v)
named_same f z (Trigger cause.Auto) v (Arming before) = ap Some (triggers_same f cause.Auto v)
named_same f z (Trigger cause.Test) v Idle = ap Some (triggers_same f cause.Test v)
named_same f z (Trigger cause.Test) v Standby = ap Some (triggers_same f cause.Test v)
named_same f z (Trigger cause.Manual) v Idle = refl
named_same f z (Trigger cause.Manual) v Standby = refl
named_same f z Cancel v (Arming before) = ap (λ z. Some (behind (note.Cancelled ∷ []) z)) (returns_same f v before)
named_same f z (Net false) v (InSeries s) =
    ap (λ row. when v.network (behind (note.Net false ∷ []) row)) (told_same f false s (networked false v))
    ∙ guarded f v.network (behind (note.Net false ∷ []) (told false s (networked false v)))
named_same f z (Net false) v (InCall stage) =
    ap (λ z. when v.network (behind (note.Net false ∷ down (vehicle_with f v) why.Lost ∷ []) z)) (begins_same f (networked false v))
    ∙ guarded f v.network (behind (note.Net false ∷ down v why.Lost ∷ []) (begins (networked false v)))
named_same f z (Net false) v _ = guarded f v.network (gives (note.Net false ∷ []) (networked false v))
named_same f z (Net true) v (InSeries s) =
    ap (λ row. when (not v.network) (behind (note.Net true ∷ []) row)) (told_same f true s (networked true v))
    ∙ guarded f (not v.network) (behind (note.Net true ∷ []) (told true s (networked true v)))
named_same f z (Net true) v _ = guarded f (not v.network) (gives (note.Net true ∷ []) (networked true v))
named_same f z (Answered c) v (InSeries s) = guarded f (is_dialling s.phase) (answered c v)
named_same f z Failed v (InSeries s) =
    ap (when (is_dialling s.phase)) (fails_same f s v) ∙ guarded f (is_dialling s.phase) (fails s v)
named_same f z (Incoming c) v Standby = guarded f v.network (called c v)
named_same f z Sleep v Standby = guarded f (nat_le least_standby v.standby) (idles v)
named_same f z Fault v (InCall Talking) = refl
named_same f z Fault v (InCall stage) = refl
named_same f z Hangup v (InCall stage) =
    ap (λ z. Some (behind (down (vehicle_with f v) why.Hangup ∷ []) (if is_settled v then rests (vehicle_with f v) else z))) (begins_same f v)
    ∙ ap (λ z. Some (behind (down (vehicle_with f v) why.Hangup ∷ []) z)) (either f (is_settled v) (rests v) (begins v))
named_same f z Lost v (InCall stage) =
    ap (λ z. Some (behind (down (vehicle_with f v) why.Lost ∷ []) z)) (begins_same f v)
named_same f z (Arrives (frame.Start r)) v (InCall Talking) =
    guarded f (is_above r v && is_long_open v) (behind (voices v false ∷ []) (takes r (record v { voice_for = 0 })))
named_same f z (Arrives (frame.Start r)) v (InCall stage) = guarded f (is_above r v) (takes r v)
named_same f z (Arrives (frame.Nack r)) v (InCall (Sending s)) = guarded f (r == s) (sends_again s v)
named_same f z (Arrives (frame.Ack r)) v (InCall (Sending s)) =
    guarded f (r == s) (gives (acked s v) (enters (Confirming s) (counts s v)))
named_same f z (Arrives (frame.App r answer.Positive)) v (InCall (Sending s)) =
    guarded f (r == s) (behind (acked s v) (opens (counts s v)))
named_same f z (Arrives (frame.App r answer.Positive)) v (InCall (Confirming s)) = guarded f (r == s) (opens v)
named_same f z (Arrives (frame.App r answer.Clear)) v (InCall (Sending s)) =
    guarded f (r == s) (behind (acked s v) (releases (counts s v)))
named_same f z (Arrives (frame.App r answer.Clear)) v (InCall (Confirming s)) = guarded f (r == s) (releases v)
named_same f z (Arrives (frame.App r answer.Clear)) v (InCall Talking) = guarded f (is_among r v.counted) (releases v)
named_same f z Reset v (InCall stage) =
    ap (λ c. Some (behind (down (vehicle_with f v) why.Lost ∷ []) (gives (note.Restart «end».Vehicle ∷ []) (record (first_vehicle v.facts) { network = v.network; call = c })))) (sym z)
named_same f z Reset v _ =
    ap (λ c. Some (gives (note.Restart «end».Vehicle ∷ []) (record (first_vehicle v.facts) { network = v.network; call = c }))) (sym z)
named_same f z _ v _ = refl

unnamed_same : (f : ℕ → ℕ) → f 0 ≡ 0 → (e : Heard) (v : Vehicle) → unnamed (heard_with f e) (vehicle_with f v) ≡ vehicle_row_with f (unnamed e v)
unnamed_same f z (Arrives g) v = refl
unnamed_same f z _ v = refl

chosen : (f : ℕ → ℕ) (o : Option (Row Vehicle)) (x : Row Vehicle) → unwrap_or (with_each f o) (vehicle_row_with f x) ≡ vehicle_row_with f (unwrap_or o x)
chosen f None x = refl
chosen f (Some row) x = refl

pub vehicle_hears_same : (f : ℕ → ℕ) → f 0 ≡ 0 → (v : Vehicle) (e : Heard) → vehicle_row (vehicle_with f v) (heard_with f e) ≡ vehicle_row_with f (vehicle_row v e)
vehicle_hears_same f z v e =
    ap (λ z. unwrap_or z (unnamed (heard_with f e) (vehicle_with f v))) (named_same f z e v v.phase)
    ∙ ap (unwrap_or (with_each f (named e v v.phase))) (unnamed_same f z e v)
    ∙ chosen f (named e v v.phase) (unnamed e v)

abbrev line_with : (ℕ → ℕ) → Deadline (Row Vehicle) → Deadline (Row Vehicle)
line_with f d = record { left = d.left; row = vehicle_row_with f d.row }

first_same : (f : ℕ → ℕ) (none : Row Vehicle) (ds : List (Deadline (Row Vehicle))) → first_of (vehicle_row_with f none) (map (line_with f) ds) ≡ vehicle_row_with f (first_of none ds)
first_same f none [] = refl
first_same f none (d ∷ ds) =
    ap (λ z. if d.left == 0 then vehicle_row_with f d.row else z) (first_same f none ds) ∙ either f (d.left == 0) d.row (first_of none ds)

stage_same : (f : ℕ → ℕ) (v : Vehicle) (stage : CallStage) → in_stage (vehicle_with f v) stage ≡ map (line_with f) (in_stage v stage)
stage_same f v Initiating = refl
stage_same f v Awaiting = refl
stage_same f v (Sending r) = refl
stage_same f v (Confirming r) = refl
stage_same f v Talking = refl

-- the lines of a series
series_lines : (f : ℕ → ℕ) → f 0 ≡ 0 → (s : Series) (v : Vehicle) (ds : List (Deadline Ticked)) → with_rows (λ t. turns s (vehicle_with f v) t.turn t.new) ds ≡ map (line_with f) (with_rows (λ t. turns s v t.turn t.new) ds)
series_lines f z s v [] = refl
series_lines f z s v (d ∷ ds) =
    ap (λ row. record { left = d.left; row = row } ∷ with_rows (λ t. turns s (vehicle_with f v) t.turn t.new) ds) (turns_same f z s v d.row.turn d.row.new)
    ∙ ap (λ l. record { left = d.left; row = vehicle_row_with f (turns s v d.row.turn d.row.new) } ∷ l) (series_lines f z s v ds)

-- an item of no call has the number 0, which stays
lines_same : (f : ℕ → ℕ) → f 0 ≡ 0 → (v : Vehicle) (p : Phase) → deadlines (vehicle_with f v) p ≡ map (line_with f) (deadlines v p)
lines_same f z v Idle = refl
lines_same f z v Standby =
    ap (λ c. at longest_standby v.standby (behind (note.Ended «end».Vehicle c timer.T10 ∷ []) (idles (vehicle_with f v))) ∷ []) (sym z)
lines_same f z v (Arming before) =
    ap (λ row. at cancel_period v.in_phase (behind (note.Ended «end».Vehicle 0 timer.T1 ∷ []) row) ∷ []) (triggers_same f cause.Manual v)
    ∙ ap (λ c. at cancel_period v.in_phase (behind (note.Ended «end».Vehicle c timer.T1 ∷ []) (vehicle_row_with f (triggers cause.Manual v))) ∷ []) (sym z)
lines_same f z v (InSeries s) = series_lines f z s v (series.deadlines s s.phase)
lines_same f z v (InCall stage) =
    ap (λ lines. at longest_call v.in_call (behind (ends (vehicle_with f v) timer.T2 ∷ []) (releases (vehicle_with f v))) ∷ lines) (stage_same f v stage)

aged_same : (f : ℕ → ℕ) (v : Vehicle) (p : Phase) → aged_in 1 (vehicle_with f v) p ≡ vehicle_with f (aged_in 1 v p)
aged_same f v (Arming LeftIdle) = refl
aged_same f v _ = refl

acts_same : (f : ℕ → ℕ) → f 0 ≡ 0 → (v : Vehicle) → acts (vehicle_with f v) ≡ vehicle_row_with f (acts v)
acts_same f z v =
    ap (first_of (silent (vehicle_with f v))) (lines_same f z v v.phase) ∙ first_same f (silent v) (deadlines v v.phase)

pub vehicle_passes_same : (f : ℕ → ℕ) → f 0 ≡ 0 → (v : Vehicle) → unit_row (vehicle_with f v) ≡ vehicle_row_with f (unit_row v)
vehicle_passes_same f z v = ap acts (aged_same f v v.phase) ∙ acts_same f z (aged 1 v)
