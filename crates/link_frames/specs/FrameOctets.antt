-- The octets of a frame, which octets begin one, and at which octet none goes on. This project's profile.
-- Cited by the contracts of `write`, `Reader`, `Fault` and `frame_laws`.
use Rattle.std.specs.Prelude.{◌≡◌, ◌≢◌, ◌<◌, ℕ, List, [], ◌∷◌, ◌++◌, length}
use Rattle.link_frames.specs.declared.fault.Fault.{Fault}
use Rattle.link_frames.specs.declared.fault.Fault.TheVariants as faults
use Rattle.link_frames.specs.declared.frame.Answer.{Answer}
use Rattle.link_frames.specs.declared.frame.Answer.TheVariants as answers
use Rattle.link_frames.specs.declared.frame.Frame.{Frame}
use Rattle.link_frames.specs.declared.frame.Frame.TheVariants as frame

abbrev pub answer_octet : Answer → ℕ
answer_octet answers.Positive = 1
answer_octet answers.Clear = 2

-- the kind, then the request, then what the kind has besides
abbrev pub frame_octets : Frame → List ℕ
frame_octets frame.Init = 1 ∷ []
frame_octets (frame.Start request) = 2 ∷ request ∷ []
frame_octets (frame.Content request attempt octets) = 3 ∷ request ∷ attempt ∷ octets
frame_octets (frame.Nack request) = 4 ∷ request ∷ []
frame_octets (frame.Ack request) = 5 ∷ request ∷ []
frame_octets (frame.App request answer) = 6 ∷ request ∷ answer_octet answer ∷ []

-- What the type of a frame keeps: a request is 1 or more, and a set has 140 octets. That an octet is below 256 is not
-- said again: a stream is one of octets.
abbrev pub IsFrame : Frame → Type 0
IsFrame frame.Init = Unit {0}
IsFrame (frame.Start request) = 0 < request
IsFrame (frame.Content request attempt octets) = (0 < request) × (length octets ≡ 140)
IsFrame (frame.Nack request) = 0 < request
IsFrame (frame.Ack request) = 0 < request
IsFrame (frame.App request answer) = 0 < request

-- a proper prefix of a frame's octets, which may be empty
pub record IsFrameFront (octets : List ℕ) : Type 0 where
  pub frame : Frame
  pub next : ℕ
  pub more : List ℕ
  pub is_frame : IsFrame frame
  pub goes_on : frame_octets frame ≡ octets ++ next ∷ more

-- What is wrong with an octet behind these ones: a first octet outside 1 to 6, a request 0, or an answer other than 1
-- or 2.
abbrev pub IsFaulty : Fault → (before : List ℕ) → (octet : ℕ) → Type 0
IsFaulty faults.Kind before octet = (before ≡ []) × (0 < octet → octet < 7 → ⊥)
IsFaulty faults.Number before octet = (length before ≡ 1) × (octet ≡ 0)
IsFaulty faults.Answer before octet = (length before ≡ 2) × (octet ≢ 1) × (octet ≢ 2)

-- Octets that begin a frame, and behind them an octet with which no frame goes on.
pub record StopsBehind (before : List ℕ) (octet : ℕ) (fault : Fault) : Type 0 where
  pub begun : IsFrameFront before
  pub none : (f : Frame) (more : List ℕ) → IsFrame f → frame_octets f ≡ before ++ octet ∷ more → ⊥
  pub named : IsFaulty fault before octet

-- its number in a text
abbrev pub fault_code : Fault → ℕ
fault_code faults.Kind = 1
fault_code faults.Number = 2
fault_code faults.Answer = 3
