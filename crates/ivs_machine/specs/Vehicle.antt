-- The state of the in-vehicle system: what it was told, what it is doing, its sums of ticks, and for its call the lists
-- of all that it made and counted, newest first. After EN 16062 and EN 16072; the numbers are this project's profile.
-- Cited by the contracts of `Ivs`, and by the world.
use Rattle.std.specs.Prelude.{ℕ, Bool, true, false, List, [], ◌∷◌, Option, Some, None, ◌==◌, ◌||◌, ◌&&◌, max, map, if◌then◌else◌}
use Rattle.link_frames.specs.Legs.{Kept}
use Rattle.msd_fit.specs.declared.cause.Cause.{Cause}
use Rattle.msd_fit.specs.declared.cause.Cause.TheVariants as cause
use Rattle.msd_fit.specs.declared.facts.Facts.{Facts}
use Rattle.redial.specs.Series as series
use Rattle.redial.specs.declared.series.Series.{Series}

-- What the vehicle waits for in a call, with its request. The voice is open in Talking alone.
pub data CallStage : Type 0 where
  Initiating : CallStage
  Awaiting : CallStage
  Sending : (request : ℕ) → CallStage
  Confirming : (request : ℕ) → CallStage
  Talking : CallStage

-- what the vehicle left for the cancel period of a manual trigger
pub data Left : Type 0 where
  LeftIdle : Left
  LeftStandby : Left

-- What the vehicle is doing; a dial series knows by itself what it is doing, with its ticks.
pub data Phase : Type 0 where
  Idle : Phase
  Standby : Phase
  Arming : Left → Phase
  InSeries : Series → Phase
  InCall : CallStage → Phase

pub record Vehicle : Type 0 where
  pub facts : Facts
  pub phase : Phase
  pub network : Bool
  pub cause : Cause
  -- the sets made since the trigger
  pub sets : ℕ
  -- the ticks of the standby
  pub standby : ℕ
  -- the ticks in Arming, or a stage of a call
  pub in_phase : ℕ
  -- The call that the vehicle is in, or else was in last: its number, the sets made in it, each with its request, the
  -- requests counted, the last attempt to send a set, the ticks in the call, the ticks for which the voice has been
  -- muted, or open, and whether T5, T7 or the muting sum ended in it or it came by callback.
  pub call : ℕ
  pub made : List Kept
  pub counted : List ℕ
  pub attempt : ℕ
  pub in_call : ℕ
  pub voice_for : ℕ
  pub marked : Bool

-- the vehicle before anything happened
abbrev pub first_vehicle : Facts → Vehicle
first_vehicle known =
    record {
      facts = known;
      phase = Idle;
      network = true;
      cause = cause.Auto;
      sets = 0;
      standby = 0;
      in_phase = 0;
      call = 0;
      made = [];
      counted = [];
      attempt = 0;
      in_call = 0;
      voice_for = 0;
      marked = false;
    }

-- the requests obeyed in the call: a set was made for each
abbrev pub obeyed : Vehicle → List ℕ
obeyed v = map (λ set. set.0) v.made

-- the greatest request for which a set was made, 0 where there is none
abbrev pub served : List Kept → ℕ
served [] = 0
served (set ∷ sets) = max set.0 (served sets)

-- the octets that were made for a request, none where no set was made for it
abbrev pub octets_for : ℕ → List Kept → List ℕ
octets_for r [] = []
octets_for r (set ∷ sets) = if set.0 == r then set.1 else octets_for r sets

-- whether there is one
abbrev pub has_some : List ℕ → Bool
has_some [] = false
has_some (r ∷ rs) = true

-- whether the call served its end, so that a hang-up is no reason to dial again
abbrev pub is_settled : Vehicle → Bool
is_settled v = v.marked || has_some v.counted

-- the number of the call that the vehicle is in
abbrev pub call_in : Vehicle → Phase → Option ℕ
call_in v (InCall stage) = Some v.call
call_in v _ = None

abbrev pub vehicle_call : Vehicle → Option ℕ
vehicle_call v = call_in v v.phase

abbrev pub is_dialling_in : Phase → Bool
is_dialling_in (InSeries s) = series.is_dialling s.phase
is_dialling_in _ = false

abbrev pub is_dialling : Vehicle → Bool
is_dialling v = is_dialling_in v.phase

abbrev pub is_standby : Phase → Bool
is_standby Standby = true
is_standby _ = false

-- whether the point may call the vehicle
abbrev pub is_reachable : Vehicle → Bool
is_reachable v = is_standby v.phase && v.network
