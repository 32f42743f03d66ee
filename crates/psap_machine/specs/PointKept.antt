-- What the states of the answering point's session keep among themselves, as a predicate on the state: how the requests
-- asked and shown go together, and the bounds of the ticks by phase. This project's profile. Every row of the table
-- keeps it. Cited by what a session stands for, and by the world's invariant.
use Rattle.std.specs.Prelude.{ℕ, true, false, List, [], ◌∷◌, ◌≡◌, ◌≤◌, ◌<◌, ◌+◌, length}
use Rattle.link_frames.specs.Legs.{Kept}
use Rattle.link_frames.specs.Requests.{is_among}
use Rattle.psap_machine.specs.Point.{Point, Phase, Listening, Asking, Telling, Talking, Clearing, Over, requests_of}
use Rattle.psap_machine.specs.PointRows.{most_requests, longest_listening, longest_asking, telling}

-- the requests asked are 1, 2 and so on, newest first
abbrev pub AreInTurn : List ℕ → Type 0
AreInTurn [] = Unit {0}
AreInTurn (r ∷ rs) = (r ≡ length rs + 1) × (r ≤ most_requests) × AreInTurn rs

-- each set that was shown was asked for, and shown once
abbrev pub AreShown : (asked : List ℕ) → List Kept → Type 0
AreShown asked [] = Unit {0}
AreShown asked (set ∷ sets) =
    (is_among set.0 asked ≡ true) × (is_among set.0 (requests_of sets) ≡ false) × AreShown asked sets

-- the request that was asked last
abbrev pub IsLast : ℕ → (asked : List ℕ) → Type 0
IsLast r [] = ⊥
IsLast r (q ∷ qs) = q ≡ r

-- The ticks of a muted phase: they are below its end, and the ticks muted are by less than `ahead` more.
pub record IsMuted (in_phase voice_for phase_end ahead : ℕ) : Type 0 where
  pub before : in_phase < phase_end
  pub low : in_phase ≤ voice_for
  pub high : voice_for < in_phase + ahead

-- By phase. The slack is 0, or 1 where the sums of a unit tick have grown and no line has acted yet.
abbrev pub IsKeptIn : (slack : ℕ) → Point → Phase → Type 0
IsKeptIn slack s Listening = IsMuted s.in_phase s.voice_for (longest_listening + slack) 1 × (s.asked ≡ [])
IsKeptIn slack s (Asking r) =
    IsMuted s.in_phase s.voice_for (longest_asking + slack) longest_listening × IsLast r s.asked
IsKeptIn slack s (Telling r) =
    IsMuted s.in_phase s.voice_for (telling + slack) (longest_listening + longest_asking)
    × (is_among r (requests_of s.shown) ≡ true)
IsKeptIn slack s Talking = s.in_phase ≡ s.voice_for
IsKeptIn slack s (Clearing r) =
    IsMuted s.in_phase s.voice_for (telling + slack) 1 × (is_among r (requests_of s.shown) ≡ true)
IsKeptIn slack s Over = Unit {0}

pub record IsKeptBy (slack : ℕ) (s : Point) : Type 0 where
  pub asked : AreInTurn s.asked
  pub shown : AreShown s.asked s.shown
  pub phase : IsKeptIn slack s s.phase

abbrev pub IsKept : Point → Type 0
IsKept s = IsKeptBy 0 s
