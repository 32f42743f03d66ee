-- Every row owes what it must: one search for each event, and one for each phase of a unit tick.
use Rattle.std.specs.Prelude.{◌≡◌, ◌+◌, ℕ, Bool, List, Option, Some, None, min}
use Rattle.std.proofs.Common.{rules, refl, zero, suc, true≢false}
use Rattle.std.proofs.lemmas.Bool.Decides.{nat_tests}
use Rattle.link_frames.specs.declared.frame.Answer.{Answer}
use Rattle.link_frames.specs.declared.frame.Answer.TheVariants as answer
use Rattle.link_frames.specs.declared.frame.Frame.{Frame}
use Rattle.link_frames.specs.declared.frame.Frame.TheVariants as frame
use Rattle.link_frames.specs.declared.frame.End.TheVariants as «end»
use Rattle.link_frames.specs.Legs.{made_by}
use Rattle.link_frames.specs.Owes.{elapsed, set_for}
use Rattle.link_frames.specs.Row.{Row, silent}
use Rattle.msd_fit.specs.declared.cause.Cause.{Cause}
use Rattle.redial.specs.declared.series.Phase as series
use Rattle.redial.specs.declared.series.Phase.TheVariants as series_phase
use Rattle.redial.specs.declared.series.Series.{Series}
use Rattle.ivs_machine.specs.Vehicle.{Vehicle, Phase, Idle, Standby, Arming, InSeries, InCall, Left, CallStage, octets_for, Initiating, Awaiting, Sending, Confirming, Talking}
use Rattle.ivs_machine.specs.VehicleRows.{Heard, Trigger, Cancel, Net, Answered, Failed, Incoming, Sleep, Fault, Hangup, Lost, Arrives, Reset, vehicle_row, unit_row, units}
use Rattle.ivs_machine.specs.VehicleKept.{IsKept}
use Rattle.ivs_machine.specs.VehicleOwes.{VehicleOwes, EventOwes, came, comes_up, seat_of}
use Rattle.ivs_machine.proofs.Made.{newest_for, last_for, made_again}

abbrev pub RowOwes : Heard → Type 0
RowOwes e = (v : Vehicle) → IsKept v → EventOwes (comes_up e v) v e (vehicle_row v e)

-- a vehicle that does nothing owes nothing
silent_owes : (v : Vehicle) (came : Option Frame) → IsKept v → VehicleOwes v came (seat_of v) (silent v)
silent_owes v came h = search rules

owes_trigger : (by : Cause) → RowOwes (Trigger by)
owes_trigger by v h = search rules

owes_cancel : RowOwes Cancel
owes_cancel v h = search rules

owes_net : (up : Bool) → RowOwes (Net up)
owes_net up v h = search rules

owes_answered : (c : ℕ) → RowOwes (Answered c)
owes_answered c v h = search rules

owes_failed : RowOwes Failed
owes_failed v h = search rules

owes_incoming : (c : ℕ) → RowOwes (Incoming c)
owes_incoming c v h = search rules

owes_sleep : RowOwes Sleep
owes_sleep v h = search rules

owes_fault : RowOwes Fault
owes_fault v h = search rules

owes_hangup : RowOwes Hangup
owes_hangup v h = search rules

owes_lost : RowOwes Lost
owes_lost v h = search rules

owes_reset : RowOwes Reset
owes_reset v h = search rules

owes_start : (r : ℕ) → RowOwes (Arrives (frame.Start r))
owes_start r v h = search (rules, nat_tests, newest_for)

-- what holds of the set that is sent again
abbrev IsSentAgain : ℕ → Vehicle → Type 0
IsSentAgain r v =
    (set_for r v.made ≡ Some (octets_for r v.made))
    × (made_by «end».Vehicle v.made (frame.Content r (min (v.attempt + 1) 255) (octets_for r v.made)) ≡ v.made)

nack_sending : (r s : ℕ) (v : Vehicle) → let w : Vehicle = record v { phase = InCall (Sending s) } in IsSentAgain s v → IsKept w → VehicleOwes w (Some (frame.Nack r)) (seat_of w) (vehicle_row w (Arrives (frame.Nack r)))
nack_sending r s v again h = let set = again.0 in let same = again.1 in search (rules, nat_tests)

abbrev NackOwes : ℕ → Vehicle → Type 0
NackOwes r v = IsKept v → VehicleOwes v (Some (frame.Nack r)) (seat_of v) (vehicle_row v (Arrives (frame.Nack r)))

nack_outside : (r : ℕ) (v : Vehicle) → vehicle_row v (Arrives (frame.Nack r)) ≡ silent v → NackOwes r v
nack_outside r v e h = rw e (silent_owes v (Some (frame.Nack r)) h)

nack_in : (r : ℕ) (v : Vehicle) (p : Phase) → NackOwes r (record v { phase = p })
nack_in r v Idle h = nack_outside r (record v { phase = Idle }) refl h
nack_in r v Standby h = nack_outside r (record v { phase = Standby }) refl h
nack_in r v (Arming before) h = nack_outside r (record v { phase = Arming before }) refl h
nack_in r v (InSeries s) h = nack_outside r (record v { phase = InSeries s }) refl h
nack_in r v (InCall Initiating) h = nack_outside r (record v { phase = InCall Initiating }) refl h
nack_in r v (InCall Awaiting) h = nack_outside r (record v { phase = InCall Awaiting }) refl h
nack_in r v (InCall (Sending s)) h =
    nack_sending r s v (last_for s v.made h.made h.phase.request, made_again s v.attempt (octets_for s v.made) v.made) h
nack_in r v (InCall (Confirming s)) h = nack_outside r (record v { phase = InCall (Confirming s) }) refl h
nack_in r v (InCall Talking) h = nack_outside r (record v { phase = InCall Talking }) refl h

owes_nack : (r : ℕ) → RowOwes (Arrives (frame.Nack r))
owes_nack r v h = nack_in r v v.phase h

owes_ack : (r : ℕ) → RowOwes (Arrives (frame.Ack r))
owes_ack r v h = search (rules, nat_tests, last_for)

owes_positive : (r : ℕ) → RowOwes (Arrives (frame.App r answer.Positive))
owes_positive r v h = search (rules, nat_tests, last_for)

owes_clear : (r : ℕ) → RowOwes (Arrives (frame.App r answer.Clear))
owes_clear r v h = search (rules, nat_tests, last_for)

owes_content : (r a : ℕ) (o : List ℕ) → RowOwes (Arrives (frame.Content r a o))
owes_content r a o v h = search rules

owes_init : RowOwes (Arrives frame.Init)
owes_init v h = search rules

owes_app : (r : ℕ) (a : Answer) → RowOwes (Arrives (frame.App r a))
owes_app r answer.Positive = owes_positive r
owes_app r answer.Clear = owes_clear r

owes_frame : (f : Frame) → RowOwes (Arrives f)
owes_frame frame.Init = owes_init
owes_frame (frame.Start r) = owes_start r
owes_frame (frame.Content r a o) = owes_content r a o
owes_frame (frame.Nack r) = owes_nack r
owes_frame (frame.Ack r) = owes_ack r
owes_frame (frame.App r a) = owes_app r a

pub owes_event : (e : Heard) → RowOwes e
owes_event (Trigger by) = owes_trigger by
owes_event Cancel = owes_cancel
owes_event (Net up) = owes_net up
owes_event (Answered c) = owes_answered c
owes_event Failed = owes_failed
owes_event (Incoming c) = owes_incoming c
owes_event Sleep = owes_sleep
owes_event Fault = owes_fault
owes_event Hangup = owes_hangup
owes_event Lost = owes_lost
owes_event (Arrives f) = owes_frame f
owes_event Reset = owes_reset

kept_by : (c : Option ℕ) (v : Vehicle) (e : Heard) (row : Row Vehicle) → EventOwes c v e row → IsKept row.new
kept_by (Some c) v e row h = h.kept
kept_by None v e row h = h.kept

pub row_kept : (e : Heard) (v : Vehicle) → IsKept v → IsKept (vehicle_row v e).new
row_kept e v h = kept_by (comes_up e v) v e (vehicle_row v e) (owes_event e v h)

abbrev UnitOwes : Vehicle → Type 0
UnitOwes v = IsKept v → VehicleOwes v None (elapsed (seat_of v)) (unit_row v)

unit_idle : (v : Vehicle) → UnitOwes (record v { phase = Idle })
unit_idle v h = search rules

unit_standby : (v : Vehicle) → UnitOwes (record v { phase = Standby })
unit_standby v h = search rules

unit_arming : (v : Vehicle) (before : Left) → UnitOwes (record v { phase = Arming before })
unit_arming v before h = search rules

abbrev in_series : Vehicle → Series → series.Phase → Vehicle
in_series v s phase = record v { phase = InSeries (record s { phase = phase }) }

unit_dialling : (v : Vehicle) (s : Series) (ticks : ℕ) → UnitOwes (in_series v s (series_phase.Dialling ticks))
unit_dialling v s ticks h = search rules

unit_pausing : (v : Vehicle) (s : Series) (ticks : ℕ) → UnitOwes (in_series v s (series_phase.Pausing ticks))
unit_pausing v s ticks h = search rules

unit_seeking : (v : Vehicle) (s : Series) → UnitOwes (in_series v s series_phase.Seeking)
unit_seeking v s h = search rules

unit_series : (v : Vehicle) (s : Series) (phase : series.Phase) → UnitOwes (in_series v s phase)
unit_series v s (series_phase.Dialling ticks) = unit_dialling v s ticks
unit_series v s (series_phase.Pausing ticks) = unit_pausing v s ticks
unit_series v s series_phase.Seeking = unit_seeking v s
unit_series v s series_phase.Over = λ h. absurd (true≢false h.phase.goes_on)

unit_initiating : (v : Vehicle) → UnitOwes (record v { phase = InCall Initiating })
unit_initiating v h = search rules

unit_awaiting : (v : Vehicle) → UnitOwes (record v { phase = InCall Awaiting })
unit_awaiting v h = search rules

sending_tick : (v : Vehicle) (r : ℕ) → IsSentAgain r v → UnitOwes (record v { phase = InCall (Sending r) })
sending_tick v r again h = let set = again.0 in let same = again.1 in search rules

unit_sending : (v : Vehicle) (r : ℕ) → UnitOwes (record v { phase = InCall (Sending r) })
unit_sending v r h = sending_tick v r (last_for r v.made h.made h.phase.request, made_again r v.attempt (octets_for r v.made) v.made) h

unit_confirming : (v : Vehicle) (r : ℕ) → UnitOwes (record v { phase = InCall (Confirming r) })
unit_confirming v r h = search rules

unit_talking : (v : Vehicle) → UnitOwes (record v { phase = InCall Talking })
unit_talking v h = search rules

unit_in_call : (v : Vehicle) (stage : CallStage) → UnitOwes (record v { phase = InCall stage })
unit_in_call v Initiating = unit_initiating v
unit_in_call v Awaiting = unit_awaiting v
unit_in_call v (Sending r) = unit_sending v r
unit_in_call v (Confirming r) = unit_confirming v r
unit_in_call v Talking = unit_talking v

unit_in : (v : Vehicle) (p : Phase) → UnitOwes (record v { phase = p })
unit_in v Idle = unit_idle v
unit_in v Standby = unit_standby v
unit_in v (Arming before) = unit_arming v before
unit_in v (InSeries s) = unit_series v s s.phase
unit_in v (InCall stage) = unit_in_call v stage

pub owes_unit : (v : Vehicle) → IsKept v → VehicleOwes v None (elapsed (seat_of v)) (unit_row v)
owes_unit v h = unit_in v v.phase h

-- n unit ticks leave a state that keeps what it must
pub units_kept : (n : ℕ) (v : Vehicle) → IsKept v → IsKept (units n v).new
units_kept zero v h = h
units_kept (suc n) v h = units_kept n (unit_row v).new (owes_unit v h).kept
