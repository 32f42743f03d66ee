-- A session whose sums grow: what only the contracts of private functions of `Session` cite.
use Rattle.std.specs.Prelude.{ℕ, min, ◌+◌}
use Rattle.audio_switch.specs.Switch.{aged_within}
use Rattle.psap_machine.specs.declared.session.Session.{Session}
use Rattle.psap_machine.specs.declared.session.Phase as kept_phase
use Rattle.psap_machine.specs.declared.session.Phase.TheVariants as phase
use Rattle.psap_machine.specs.Point.{Point}
use Rattle.psap_machine.specs.PointKept.{IsKeptBy}
use Rattle.psap_machine.specs.SessionStands.{SessionIs, most_ticks}

-- the sums have grown by a unit tick, and no line has acted yet
pub record SessionIsDue (session : Session) (s : Point) : Type 0 where
  pub is : SessionIs session s
  pub kept : IsKeptBy 1 s

-- each sum of a session that runs, n ticks later
abbrev pub aged_in : ℕ → Session → kept_phase.Phase → Session
aged_in n session phase.Over = session
aged_in n session _ =
    record session {
      in_phase = min (session.in_phase + n) most_ticks;
      voice = record (session.voice) { stretch = aged_within n session.voice.limit session.voice.stretch };
    }
