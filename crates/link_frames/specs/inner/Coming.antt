-- What it is for octets to have brought a reader to a stage. Cited by private contracts alone.
use Rattle.std.specs.Prelude.{◌≡◌, ◌≢◌, ◌<◌, ℕ, Bool, true, false, List, [], ◌∷◌, ◌++◌, take, slice_get, Some}
use Rattle.link_frames.specs.declared.stage.Stage.{Stage}
use Rattle.link_frames.specs.declared.stage.Stage.TheVariants as stages
use Rattle.link_frames.specs.declared.stage.Stop.{Stop}
use Rattle.link_frames.specs.declared.stage.Stop.TheVariants as stops
use Rattle.link_frames.specs.FrameOctets.{frame_octets}
use Rattle.link_frames.specs.Stages.{before, octet_of, frame_of, kept}

-- whether the next octet is one of those in front of a set
abbrev pub is_in_head : Stage → Bool
is_in_head stages.Nothing = true
is_in_head (stages.Kind kind) = true
is_in_head (stages.Content request) = true
is_in_head (stages.App request) = true
is_in_head _ = false

-- whether what comes is no frame
abbrev pub is_stopped : Stage → Bool
is_stopped (stages.Stopped stop) = true
is_stopped _ = false

-- whether less than a frame has come, and no fault
abbrev pub is_open : Stage → Bool
is_open (stages.Whole head) = false
is_open (stages.Stopped stop) = false
is_open _ = true

abbrev pub IsWrong : Stop → Type 0
IsWrong (stops.Kind octet) = 0 < octet → octet < 7 → ⊥
IsWrong (stops.Number kind) = Unit {0}
IsWrong (stops.Answer request octet) = (octet ≢ 1) × (octet ≢ 2)

-- These octets, of which those of a set are these, bring a reader from between two frames to this stage.
abbrev pub Came : (set : List ℕ) (octets : List ℕ) → Stage → Type 0
Came set octets (stages.Whole head) = octets ≡ frame_octets (frame_of set head)
Came set octets (stages.Stopped stop) = (octets ≡ before stop) × IsWrong stop
Came set octets stage = octets ≡ kept set stage

-- Behind one more octet of a head; the octet that stops it is not taken.
abbrev pub Steps : (set : List ℕ) → Stage → (octet : ℕ) → Stage → Type 0
Steps set old octet (stages.Stopped stop) = (kept set old ≡ before stop) × (octet ≡ octet_of stop) × IsWrong stop
Steps set old octet new = Came set (kept set old ++ octet ∷ []) new

-- Behind n octets of a piece, where these had come before; the octet that stops it is the next of the piece.
abbrev pub ComesTo : (set had piece : List ℕ) → (n : ℕ) → Stage → Type 0
ComesTo set had piece n (stages.Stopped stop) =
    (had ++ take n piece ≡ before stop) × (slice_get piece n ≡ Some (octet_of stop)) × IsWrong stop
ComesTo set had piece n new = Came set (had ++ take n piece) new
