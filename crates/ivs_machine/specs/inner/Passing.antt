-- What an `Ivs` and the vehicles behind it are like while ticks pass. This project's profile. Cited by private
-- contracts alone.
use Rattle.std.specs.Prelude.{ℕ, List, IfSome, min, ◌+◌, ◌-◌, ◌^◌, ◌≤◌}
use Rattle.audio_switch.specs.Switch.{Switching}
use Rattle.audio_switch.specs.declared.switch.Stretch.{Stretch}
use Rattle.audio_switch.specs.declared.switch.Stretch.TheVariants.{Muted, Open}
use Rattle.link_frames.specs.Legs.{Kept}
use Rattle.ivs_machine.specs.declared.vehicle.Ivs.{Ivs}
use Rattle.ivs_machine.specs.IvsStands.{IvsIs}
use Rattle.ivs_machine.specs.Vehicle.{Vehicle, Phase, InCall}
use Rattle.ivs_machine.specs.VehicleKept.{IsKept, IsOfStage}
use Rattle.ivs_machine.specs.VehicleRows.{due_of}

-- this many ticks, at most as many as are due, are to pass
pub record IvsMayPass (n : ℕ) (ivs : Ivs) (v : Vehicle) : Type 0 where
  pub is : IvsIs ivs v
  pub kept : IsKept v
  pub due : IfSome (due_of v) (λ due. n ≤ due)

-- in a call the set made last is that of the request that is sent or confirmed
abbrev pub IsOfPhase : Phase → List Kept → Type 0
IsOfPhase (InCall stage) made = IsOfStage stage made
IsOfPhase _ made = Unit {0}

-- the sums of a call have grown, and no line has acted yet
pub record IvsIsDue (ivs : Ivs) (v : Vehicle) : Type 0 where
  pub is : IvsIs ivs v
  pub request : IsOfPhase v.phase v.made

-- where the code's sums of ticks stay
abbrev pub most_ticks : ℕ
most_ticks = 2 ^ 32 - 1

abbrev pub more : ℕ → ℕ → ℕ
more n ticks = min (ticks + n) most_ticks

-- each sum of a call, n ticks later
abbrev pub aged_voice : ℕ → Switching → Stretch → Switching
aged_voice n voice (Muted ticks) = record voice { stretch = Muted (ticks + min n (voice.limit - ticks)) }
aged_voice n voice (Open ticks) = record voice { stretch = Open (more n ticks) }

abbrev pub call_aged : ℕ → Ivs → Ivs
call_aged n ivs =
    record ivs {
      in_phase = more n ivs.in_phase;
      call = record ivs.call {
        ticks = more n ivs.call.ticks;
        voice = aged_voice n ivs.call.voice ivs.call.voice.stretch;
      };
    }
