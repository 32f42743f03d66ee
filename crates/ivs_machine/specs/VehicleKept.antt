-- What the states of the in-vehicle system keep among themselves, as a predicate on the state: which sums and numbers
-- go with which phase, the bounds of its ticks, and which set was made last. This project's profile. Every row of the
-- table keeps it. Cited by what an `Ivs` stands for, and by the world's invariant.
use Rattle.std.specs.Prelude.{ℕ, Bool, false, List, [], ◌∷◌, ◌≡◌, ◌≤◌, ◌<◌}
use Rattle.callback.specs.Rest.{longest_standby}
use Rattle.link_frames.specs.Legs.{Kept, muting_limit}
use Rattle.link_frames.specs.declared.frame.End.TheVariants as «end»
use Rattle.redial.specs.Series as series
use Rattle.redial.specs.declared.series.Series.{Series}
use Rattle.ivs_machine.specs.Vehicle.{Vehicle, Phase, Idle, Standby, Arming, InSeries, InCall, Left, LeftIdle, LeftStandby, CallStage, Initiating, Awaiting, Sending, Confirming, Talking, served}
use Rattle.ivs_machine.specs.VehicleRows.{cancel_period, longest_call, initiation, longest_awaiting, longest_confirming, longest_sending}

-- each set is for a request above those of all sets before it
abbrev pub AreRising : List Kept → Type 0
AreRising [] = Unit {0}
AreRising (set ∷ sets) = (served sets < set.0) × AreRising sets

-- the set made last is for this request
abbrev pub IsLast : ℕ → List Kept → Type 0
IsLast r [] = ⊥
IsLast r (set ∷ sets) = set.0 ≡ r

-- while a request is sent or confirmed, the set made last is its own
abbrev pub IsOfStage : CallStage → List Kept → Type 0
IsOfStage (Sending r) made = IsLast r made
IsOfStage (Confirming r) made = IsLast r made
IsOfStage _ made = Unit {0}

-- the ticks at which a stage ends at the latest
abbrev pub longest : CallStage → ℕ
longest Initiating = initiation
longest Awaiting = longest_awaiting
longest (Sending r) = longest_sending
longest (Confirming r) = longest_confirming
longest Talking = longest_call

-- a muted voice has ticks left to its limit
abbrev pub IsInTime : CallStage → (voice_for : ℕ) → Type 0
IsInTime Talking ticks = Unit {0}
IsInTime _ ticks = ticks < muting_limit «end».Vehicle

pub record IsCall (stage : CallStage) (in_call in_phase voice_for : ℕ) (made : List Kept) : Type 0 where
  pub call : in_call < longest_call
  pub phase_within : in_phase ≤ in_call
  pub voice_within : voice_for ≤ in_call
  pub ends : in_phase < longest stage
  pub voice : IsInTime stage voice_for
  pub request : IsOfStage stage made

-- A series goes on, and knows of the network what the vehicle knows.
pub record IsUnderway (network : Bool) (s : Series) : Type 0 where
  pub kept : series.IsKept s
  pub goes_on : series.is_over s.phase ≡ false
  pub net : s.net ≡ network

abbrev pub IsStandbyLeft : Left → (standby : ℕ) → Type 0
IsStandbyLeft LeftIdle ticks = Unit {0}
IsStandbyLeft LeftStandby ticks = ticks ≤ longest_standby

abbrev pub IsKeptIn : Vehicle → Phase → Type 0
IsKeptIn v Idle = Unit {0}
IsKeptIn v Standby = v.standby < longest_standby
IsKeptIn v (Arming before) = (v.in_phase < cancel_period) × IsStandbyLeft before v.standby
IsKeptIn v (InSeries s) = IsUnderway v.network s
IsKeptIn v (InCall stage) = IsCall stage v.in_call v.in_phase v.voice_for v.made

pub record IsKept (v : Vehicle) : Type 0 where
  pub made : AreRising v.made
  pub phase : IsKeptIn v v.phase
