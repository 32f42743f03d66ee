-- When the point's end of the code stands for that of the definition, and what a step of it does. Cited by private
-- contracts alone.
use Rattle.std.specs.Prelude.{◌≡◌, ◌==◌, ℕ, Bool, false, List, Option, Some, None}
use Rattle.std.specs.List.{flat_map}
use Rattle.psap_machine.specs.Point.{Point}
use Rattle.psap_machine.specs.SessionStands.{SessionStandsFor}
use Rattle.psap_machine.specs.declared.session.Session.{Session}
use Rattle.trace_model.specs.declared.entry.Entry.{Entry}
use Rattle.trace_fit.specs.Seats.{left_by}
use Rattle.link_parts.specs.declared.part.Part.{Part}
use Rattle.live_link.specs.declared.point_end.PointEnd.{PointEnd}
use Rattle.link_parts.specs.Messages.{part_octets}
use Rattle.live_link.specs.PointLive.{LivePoint, hears_part}
use Rattle.live_link.specs.Runs.{Steps, each}
use Rattle.live_link.specs.Turns.{entries_of}

-- a session stands for one whose leg is up
pub record IsUp (session : Session) (p : Point) : Type 0 where
  pub stands : SessionStandsFor session p
  pub stays : left_by p ≡ Some p

abbrev pub SessionIs : Option Session → Option Point → Type 0
SessionIs None None = Unit {0}
SessionIs (Some session) (Some p) = IsUp session p
SessionIs _ _ = ⊥

pub record PointStandsFor (e : PointEnd) (s : LivePoint) : Type 0 where
  pub session : SessionIs e.session s.session
  pub drawn : s.drawn ≡ e.drawn
  pub rung : s.rung ≡ e.rung
  pub had : s.had ≡ e.had
  pub tick : s.tick ≡ e.tick
  pub gathered : flat_map part_octets s.gathered ≡ e.gathered.items

-- The listener grew by the entries of the step, and the end stands for what the step leaves.
pub record PointActs (grew : List Entry → Type 0) (old new : PointEnd) (step : LivePoint → Steps LivePoint)
    : Type 0 where
  pub told : (s : LivePoint) → PointStandsFor old s → grew (entries_of (step s).turns)
  pub stands : (s : LivePoint) → PointStandsFor old s → PointStandsFor new (step s).new

-- the listener grew by a part of the entries of the step
abbrev pub PointActsPartly : (partly : List Entry → Type 0) → (old : PointEnd) → (LivePoint → Steps LivePoint) → Type 0
PointActsPartly partly old step = (s : LivePoint) → PointStandsFor old s → partly (entries_of (step s).turns)

abbrev pub is_in_session : ℕ → Option Point → Bool
is_in_session c None = false
is_in_session c (Some p) = p.call == c

-- whether the session of this call is up
abbrev pub is_in : ℕ → LivePoint → Bool
is_in c s = is_in_session c s.session

-- the parts of a message, in order
abbrev pub all_parts : List Part → LivePoint → Steps LivePoint
all_parts parts s = each hears_part s parts
