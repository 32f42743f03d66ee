-- What a reader of frames is seen as, and what one more piece of a stream makes of it. This project's profile.
-- Cited by the contracts of `Reader` and of `frame_laws`.
use Rattle.std.specs.Prelude.{◌≡◌, ◌≤◌, ℕ, ◌+◌, List, [], ◌∷◌, ◌++◌, ◌⊎◌, length, take, Option, Some, None, Result, Ok, Err}
use Rattle.link_frames.specs.declared.fault.FrameFault.{FrameFault}
use Rattle.link_frames.specs.declared.frame.Frame.{Frame}
use Rattle.link_frames.specs.FrameOctets.{frame_octets, IsFrame, IsFrameFront, StopsBehind}
use Rattle.link_frames.specs.Streams.{Holds}

pub record Reading : Type 0 where
  -- the octets of an unfinished frame
  pub kept : List ℕ
  -- the frame with which the last piece ended, if it was whole
  pub frame : Option Frame
  -- where the stream stopped being one of frames, if it did
  pub fault : Option FrameFault
  -- how many octets of the stream were taken
  pub taken : ℕ

-- the kept octets and the first n of the piece are those of a frame
pub record EndsFrame (old : Reading) (piece : List ℕ) (n : ℕ) (new : Reading) : Type 0 where
  pub frame : Frame
  pub is_frame : IsFrame frame
  pub octets : frame_octets frame ≡ old.kept ++ take n piece
  pub bound : n ≤ length piece
  pub after : new ≡ record { kept = []; frame = Some frame; fault = None; taken = old.taken + n }

-- the whole piece is taken, and less than a frame has come
pub record TakesAll (old : Reading) (piece : List ℕ) (n : ℕ) (new : Reading) : Type 0 where
  pub begun : IsFrameFront (old.kept ++ piece)
  pub all : n ≡ length piece
  pub after : new ≡ record { kept = old.kept ++ piece; frame = None; fault = None; taken = old.taken + n }

-- what is taken begins a frame, and no frame goes on with the octet behind it
pub record StopsIn (old : Reading) (piece : List ℕ) (fault : FrameFault) (new : Reading) : Type 0 where
  pub front : List ℕ
  pub more : List ℕ
  pub split : piece ≡ front ++ fault.octet ∷ more
  pub stops : StopsBehind (old.kept ++ front) fault.octet fault.fault
  pub place : fault.place ≡ old.taken + length front
  pub after : new ≡ record { kept = old.kept ++ front; frame = None; fault = Some fault; taken = fault.place }

-- what a piece makes of a reader without a fault, and what the reader then answers
abbrev pub Feeds : (old : Reading) (piece : List ℕ) → Result ℕ FrameFault → (new : Reading) → Type 0
Feeds old piece (Ok n) new = EndsFrame old piece n new ⊎ TakesAll old piece n new
Feeds old piece (Err fault) new = StopsIn old piece fault new

-- the frame with which the last piece ended, behind those before it
abbrev pub and_frame : List Frame → Option Frame → List Frame
and_frame frames None = frames
and_frame frames (Some frame) = frames ++ frame ∷ []

-- A reader without a fault that took this stream, and gave these frames.
pub record HasRead (stream : List ℕ) (frames : List Frame) (reader : Reading) : Type 0 where
  pub holds : Holds stream frames reader.kept
  pub taken : reader.taken ≡ length stream
  pub going : reader.fault ≡ None
