-- A session that is settled does the same at an event, however many ticks passed before.
use Rattle.std.proofs.Common.{◌≡◌, ◌≤◌, ◌⊎◌, ℕ, rules}
use Rattle.link_frames.specs.Row.{Row}
use Rattle.psap_machine.specs.declared.session.Session.{Session}
use Rattle.psap_machine.specs.Point.{Point, Phase, Talking, Over}
use Rattle.psap_machine.specs.PointRows.{Heard, point_row, aged}
use Rattle.psap_machine.specs.SessionStands.{SessionStandsFor, IsSettled}

-- Where the session still only talks, it is as many ticks later; else the ticks are forgotten.
abbrev pub Leaves : ℕ → (sooner later : Point) → Phase → Type 0
Leaves n sooner later Talking = (later ≡ aged n sooner) × (20 ≤ sooner.voice_for)
Leaves n sooner later Over = later.phase ≡ Over
Leaves n sooner later _ = later ≡ sooner

pub record IsLater (n : ℕ) (sooner later : Row Point) : Type 0 where
  pub items : later.items ≡ sooner.items
  pub new : Leaves n sooner.new later.new sooner.new.phase

talking_row : (n : ℕ) (s : Point) (e : Heard) → 20 ≤ s.voice_for
    → IsLater n (point_row (record s { phase = Talking }) e) (point_row (aged n (record s { phase = Talking })) e)
talking_row n s e long = search rules

over_row : (n : ℕ) (s : Point) (e : Heard)
    → IsLater n (point_row (record s { phase = Over }) e) (point_row (aged n (record s { phase = Over })) e)
over_row n s e = search rules

pub settled_row : (n : ℕ) (kept : Session) (s : Point) (e : Heard) → IsSettled kept → SessionStandsFor kept s
    → IsLater n (point_row s e) (point_row (aged n s) e)
settled_row n kept s e settled stands = search rules

pub settles : (kept : Session) (s : Point) → SessionStandsFor kept s → s.phase ≡ Talking → 20 ≤ s.voice_for → IsSettled kept
settles kept s stands talks long = search rules

pub talks_or_over : (kept : Session) (s : Point) → SessionStandsFor kept s → IsSettled kept → (s.phase ≡ Talking) ⊎ (s.phase ≡ Over)
talks_or_over kept s stands settled = search rules
