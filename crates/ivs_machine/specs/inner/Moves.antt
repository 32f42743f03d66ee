-- What the private moves of an `Ivs` do to its fields. This project's profile. Cited by private contracts alone.
use Rattle.std.specs.Prelude.{ℕ, List, [], ◌∷◌, ◌++◌, Option, Some, None, ◌-◌, ◌%◌, min}
use Rattle.audio_switch.specs.Switch.{muted_ticks}
use Rattle.link_frames.specs.declared.note.Note.{Note}
use Rattle.link_frames.specs.declared.note.Note.TheVariants as note
use Rattle.redial.specs.SeriesRows as series
use Rattle.redial.specs.declared.series.Next.{Next}
use Rattle.redial.specs.declared.series.Next.TheVariants as next
use Rattle.redial.specs.declared.series.Turn.{Turn}
use Rattle.ivs_machine.specs.declared.vehicle.Ivs.{Ivs}
use Rattle.ivs_machine.specs.declared.vehicle.Phase.TheVariants as phase
use Rattle.ivs_machine.specs.declared.vehicle.CallStage.{CallStage}
use Rattle.ivs_machine.specs.declared.vehicle.CallStage.TheVariants.{Initiating, Awaiting, Sending, Confirming, Talking}
use Rattle.ivs_machine.specs.VehicleRows.{failed_attempt, ended_items}

-- what follows in a series, behind an attempt that failed if one was under way: the items, and the `Ivs` then
abbrev pub next_items : Next → List Note
next_items (next.Dial n) = note.Dial n ∷ []
next_items next.Pause = []
next_items next.Seek = note.Seeking ∷ []
next_items next.GaveUp = note.GaveUp ∷ note.Standby ∷ []

abbrev pub move_items : (under_way : Option ℕ) → Next → List Note
move_items under_way next = failed_attempt under_way ++ next_items next

abbrev pub moved : Next → Ivs → Ivs
moved next.GaveUp ivs = record ivs { phase = phase.Standby; standby = 0 }
moved _ ivs = ivs

-- the `Ivs` that begins a series
abbrev pub begun : Ivs → Ivs
begun ivs =
    let first = series.begins ivs.network in
    moved first.next (record ivs { phase = phase.InSeries; redial = first.new })

-- the `Ivs` whose series is told of the network
abbrev pub told_items : (under_way : Option ℕ) → Option Next → List Note
told_items under_way None = []
told_items under_way (Some next) = move_items under_way next

abbrev pub told_by : Option Next → Ivs → Ivs
told_by None ivs = ivs
told_by (Some next) ivs = moved next ivs

-- what a timer of a series leads to, if one is at its end
abbrev pub turn_items : (under_way : Option ℕ) → Option Turn → List Note
turn_items under_way None = []
turn_items under_way (Some turn) = ended_items turn.ended ++ move_items under_way turn.next

abbrev pub turned : Option Turn → Ivs → Ivs
turned None ivs = ivs
turned (Some turn) ivs = moved turn.next ivs

-- the least ticks that a line of this stage has left
abbrev pub left_of_sum : Ivs → ℕ
left_of_sum ivs = 320 - muted_ticks ivs.call.voice.stretch

abbrev pub stage_left : Ivs → CallStage → ℕ
stage_left ivs Initiating = min (min (left_of_sum ivs) (20 - ivs.in_phase)) (5 - ivs.in_phase % 5)
stage_left ivs Awaiting = min (left_of_sum ivs) (50 - ivs.in_phase)
stage_left ivs (Sending r) = min (min (left_of_sum ivs) (200 - ivs.in_phase)) (13 - ivs.in_phase % 13)
stage_left ivs (Confirming r) = min (left_of_sum ivs) (50 - ivs.in_phase)
stage_left ivs Talking = 4294967295
