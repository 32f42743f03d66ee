-- Which states of the in-vehicle system an `Ivs` stands for: one equation for all that the code determines, one
-- relation for each thing that it only stands for, and what every such state keeps. This project's profile. Cited by
-- the contracts of `Ivs`, and by what stands on it.
use Rattle.std.specs.Prelude.{◌≡◌, ℕ, List, [], ◌∷◌, min}
use Rattle.audio_switch.specs.Switch.{Switching}
use Rattle.audio_switch.specs.declared.switch.Stretch.TheVariants.{Muted, Open}
use Rattle.link_frames.specs.Legs.{Kept, muting_limit}
use Rattle.link_frames.specs.Requests.{RequestsStandFor}
use Rattle.link_frames.specs.declared.frame.End.TheVariants as «end»
use Rattle.ivs_machine.specs.declared.vehicle.Ivs.{Ivs}
use Rattle.ivs_machine.specs.declared.vehicle.Left as kept_left
use Rattle.ivs_machine.specs.declared.vehicle.Left.TheVariants as left
use Rattle.ivs_machine.specs.declared.vehicle.Phase as kept_phase
use Rattle.ivs_machine.specs.declared.vehicle.Phase.TheVariants as phase
use Rattle.ivs_machine.specs.declared.vehicle.CallStage as kept_stage
use Rattle.ivs_machine.specs.declared.vehicle.CallStage.TheVariants as stage
use Rattle.ivs_machine.specs.Vehicle.{Vehicle, Phase, Idle, Standby, Arming, InSeries, InCall, Left, LeftIdle, LeftStandby, CallStage, Initiating, Awaiting, Sending, Confirming, Talking, served, has_some}
use Rattle.ivs_machine.specs.VehicleKept.{IsKept}
use Rattle.ivs_machine.specs.VehicleRows.{most_number}

-- the stage that an `Ivs`' stage stands for
abbrev pub stage_of : kept_stage.CallStage → CallStage
stage_of stage.Initiating = Initiating
stage_of stage.Awaiting = Awaiting
stage_of (stage.Sending request) = Sending request
stage_of (stage.Confirming request) = Confirming request
stage_of stage.Talking = Talking

abbrev pub left_of : kept_left.Left → Left
left_of left.Idle = LeftIdle
left_of left.Standby = LeftStandby

abbrev pub phase_of : Ivs → kept_phase.Phase → Phase
phase_of ivs phase.Idle = Idle
phase_of ivs phase.Standby = Standby
phase_of ivs (phase.Arming before) = Arming (left_of before)
phase_of ivs phase.InSeries = InSeries ivs.redial
phase_of ivs (phase.InCall stage) = InCall (stage_of stage)

-- What the code keeps otherwise: the lists of the call, the number of sets beyond 255, and the ticks of the voice.
pub record Hidden : Type 0 where
  pub made : List Kept
  pub counted : List ℕ
  pub sets : ℕ
  pub voice_for : ℕ

abbrev pub hidden_of : Vehicle → Hidden
hidden_of v = record { made = v.made; counted = v.counted; sets = v.sets; voice_for = v.voice_for }

-- the vehicle of this `Ivs`, with what is hidden
abbrev pub vehicle_of : Ivs → Hidden → Vehicle
vehicle_of ivs hidden =
    record {
      facts = ivs.facts;
      phase = phase_of ivs ivs.phase;
      network = ivs.network;
      cause = ivs.cause;
      sets = hidden.sets;
      standby = ivs.standby;
      in_phase = ivs.in_phase;
      call = ivs.call.number;
      made = hidden.made;
      counted = hidden.counted;
      attempt = ivs.call.last_attempt;
      in_call = ivs.call.ticks;
      voice_for = hidden.voice_for;
      marked = ivs.call.settled_without_data;
    }

-- these octets are those of the set made last, if any was made
abbrev pub AreLast : List ℕ → List Kept → Type 0
AreLast octets [] = Unit {0}
AreLast octets (set ∷ sets) = set.1 ≡ octets

-- In a call the voice is muted in every stage but Talking.
abbrev pub VoiceIs : Switching → Phase → (voice_for : ℕ) → Type 0
VoiceIs voice (InCall Talking) ticks = voice ≡ record { limit = muting_limit «end».Vehicle; stretch = Open ticks }
VoiceIs voice (InCall stage) ticks = voice ≡ record { limit = muting_limit «end».Vehicle; stretch = Muted ticks }
VoiceIs voice _ ticks = Unit {0}

-- the vehicle is that of this `Ivs`
pub record IvsIs (ivs : Ivs) (v : Vehicle) : Type 0 where
  pub same : v ≡ vehicle_of ivs (hidden_of v)
  pub served : served v.made ≡ ivs.call.greatest_obeyed
  pub octets : AreLast ivs.call.set v.made
  pub counted : RequestsStandFor ivs.call.counted v.counted
  pub counts : has_some v.counted ≡ ivs.call.has_counted
  pub sets : min v.sets most_number ≡ ivs.sets_made
  pub voice : VoiceIs ivs.call.voice v.phase v.voice_for

pub record IvsStandsFor (ivs : Ivs) (v : Vehicle) : Type 0 where
  pub is : IvsIs ivs v
  pub kept : IsKept v
