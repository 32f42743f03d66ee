-- Lemmas on the rows of a set that comes.
use Rattle.std.proofs.Common.{◌≡◌, ◌<◌, ◌≤◌, ℕ, Bool, true, false, List, nat_eq, refl, ap, arith, ◌∙◌}
use Rattle.std.specs.Prelude.{unwrap_or}
use Rattle.std.proofs.lemmas.Bool.Decides.{nat_tests}
use Rattle.link_frames.specs.Ranks.{behind}
use Rattle.link_frames.specs.Row.{silent}
use Rattle.link_frames.specs.declared.frame.Frame.TheVariants as frame
use Rattle.psap_machine.specs.Point.{Point, Phase, Listening, Asking, Telling, Talking, Clearing, Over, greatest}
use Rattle.psap_machine.specs.PointKept.{AreInTurn}
use Rattle.psap_machine.specs.PointRows.{Arrives, point_row, content_row, shows, shown_row, with_shown, was_asked, was_shown}
use Rattle.psap_machine.specs.declared.session.Phase as kept_phase
use Rattle.psap_machine.specs.declared.session.Phase.TheVariants as phase
use Rattle.psap_machine.specs.SessionStands.{phase_of}
use Rattle.psap_machine.proofs.Asked.{asked_up_to}

content_in : (r a : ℕ) (o : List ℕ) (s : Point) (p : Phase)
    → (p ≡ Over → ⊥)
    → let t : Point = record s { phase = p } in
    point_row t (Arrives (frame.Content r a o)) ≡ unwrap_or (content_row r o t (was_asked r t) (was_shown r t)) (silent t)
content_in r a o s Listening up = refl
content_in r a o s (Asking q) up = refl
content_in r a o s (Telling q) up = refl
content_in r a o s Talking up = refl
content_in r a o s (Clearing q) up = refl
content_in r a o s Over up = absurd (up refl)

-- in a session that isn't over a set is shown where it was asked for and not shown yet
pub fresh_row : (r a : ℕ) (o : List ℕ) (s : Point)
    → (s.phase ≡ Over → ⊥)
    → was_asked r s ≡ true
    → was_shown r s ≡ false
    → point_row s (Arrives (frame.Content r a o)) ≡ behind (shows r o s) (shown_row r (with_shown r o s) s.phase)
fresh_row r a o s up asked shown =
    content_in r a o s s.phase up
    ∙ ap (λ (b : Bool). unwrap_or (content_row r o s b (was_shown r s)) (silent s)) asked
    ∙ ap (λ (b : Bool). unwrap_or (content_row r o s true b) (silent s)) shown

-- and a set that was never asked for gives nothing
pub unasked_row : (r a : ℕ) (o : List ℕ) (s : Point)
    → (s.phase ≡ Over → ⊥)
    → was_asked r s ≡ false
    → was_shown r s ≡ false
    → point_row s (Arrives (frame.Content r a o)) ≡ silent s
unasked_row r a o s up asked shown =
    content_in r a o s s.phase up
    ∙ ap (λ (b : Bool). unwrap_or (content_row r o s b (was_shown r s)) (silent s)) asked
    ∙ ap (λ (b : Bool). unwrap_or (content_row r o s false b) (silent s)) shown

-- whether a request was asked is whether it is at most the greatest
pub is_asked : (r : ℕ) (s : Point) → AreInTurn s.asked → 0 < r → r ≤ greatest s.asked → was_asked r s ≡ true
is_asked r s turn low high = asked_up_to s.asked r turn ∙ grind (arith, nat_tests)

pub is_not_asked : (r : ℕ) (s : Point) → AreInTurn s.asked → greatest s.asked < r → was_asked r s ≡ false
is_not_asked r s turn high = asked_up_to s.asked r turn ∙ grind (arith, nat_tests)

-- the set of a request that isn't the one being asked for is followed by nothing
pub shown_aside : (r : ℕ) (s : Point) (p : Phase) → (p ≡ Asking r → ⊥) → shown_row r s p ≡ silent s
shown_aside r s Listening other = refl
shown_aside r s (Asking q) other =
    let apart : q ≡ r → ⊥ = λ e. other (ap Asking e) in
    let unequal : nat_eq q r ≡ false = grind (arith, nat_tests) in
    rw unequal refl
shown_aside r s (Telling q) other = refl
shown_aside r s Talking other = refl
shown_aside r s (Clearing q) other = refl
shown_aside r s Over other = refl

-- only a session that asks for a request stands for a point that does
pub asking_kept : (p : kept_phase.Phase) (r : ℕ) → phase_of p ≡ Asking r → p ≡ phase.Asking r
asking_kept phase.Listening r e = cc
asking_kept (phase.Asking q) r e = let same : q ≡ r = cc in ap phase.Asking same
asking_kept (phase.Telling q) r e = cc
asking_kept phase.Talking r e = cc
asking_kept (phase.Clearing q) r e = cc
asking_kept phase.Over r e = cc

pub over_kept : (p : kept_phase.Phase) → phase_of p ≡ Over → p ≡ phase.Over
over_kept phase.Listening e = cc
over_kept (phase.Asking q) e = cc
over_kept (phase.Telling q) e = cc
over_kept phase.Talking e = cc
over_kept (phase.Clearing q) e = cc
over_kept phase.Over e = refl
