-- Where the command `frames` stands between two lines, and what one more line, or a part of it, comes to. This
-- project's profile. Cited by the contracts of the functions that read frames line by line.
use Rattle.std.specs.Prelude.{◌≡◌, ℕ, ◌≤◌, ◌*◌, List, [], ◌++◌, length, take, Option, Some, None, Result, Ok, Err}
use Rattle.call_io.specs.Bytes.{Grew, GrewPartly}
use Rattle.link_frames.specs.Reading.{HasRead}
use Rattle.link_frames.specs.Reading as frames
use Rattle.link_frames.specs.Streams.{Holds, FrameStops}
use Rattle.link_frames.specs.declared.fault.FrameFault.{FrameFault}
use Rattle.link_frames.specs.declared.frame.Frame.{Frame}
use Rattle.line_input.specs.declared.reason.Reason.{Reason}
use Rattle.command_base.specs.declared.refusal.Refused.{Refused}
use Rattle.command_base.specs.declared.refusal.Refused.TheVariants as refused
use Rattle.command_base.specs.declared.status.Status.{Status}
use Rattle.command_base.specs.declared.status.Status.TheVariants as status
use Rattle.set_commands.specs.Frames.{AreFrames, frame_line, frame_lines}
use Rattle.command_base.specs.Refusals.{Reply, refusal_line}
use Rattle.command_base.specs.Ends.{EndsWithText}

-- What the lines so far said: their octets joined, and the frames that ended in them.
pub record FramesSeen : Type 0 where
  pub stream : List ℕ
  pub ended : List Frame

-- the reply to lines behind them
abbrev pub FollowFrames : FramesSeen → ℕ → List (List ℕ) → Reply → Type 0
FollowFrames seen number texts r = AreFrames number texts seen.stream seen.ended r

-- The reader took the octets of the lines so far.
pub record FramesStand (before : ℕ) (seen : FramesSeen) (reader : frames.Reading) : Type 0 where
  pub read : HasRead seen.stream seen.ended reader
  pub few : reader.taken ≤ before * 256

-- an answer to a line: none, a refusal or a failed write
abbrev pub IsOfLine : Option Status → Type 0
IsOfLine None = Unit {0}
IsOfLine (Some (status.Refused why)) = Unit {0}
IsOfLine (Some status.WriteFault) = Unit {0}
IsOfLine (Some _) = ⊥

-- the line of the frame with which the last piece ended, if it was whole
abbrev pub last_line : Option Frame → List ℕ
last_line None = []
last_line (Some frame) = frame_line frame

-- A piece went on with the stream, and the lines of the frames that end in it were written.
pub record WentOn (stream : List ℕ) (ended : List Frame) (piece : List ℕ) (held held' : Option (List ℕ))
    (new : frames.Reading) : Type 0 where
  pub frames : List Frame
  pub read : HasRead (stream ++ piece) (ended ++ frames) new
  pub wrote : Grew held held' (frame_lines frames)

-- The stream stops in a piece, and that was written behind the lines of the frames that end in it.
pub record StoppedIn (stream : List ℕ) (ended : List Frame) (piece : List ℕ) (number : ℕ)
    (held held' : Option (List ℕ)) (why : Refused) : Type 0 where
  pub frames : List Frame
  pub fault : FrameFault
  pub stops : FrameStops (stream ++ piece) (ended ++ frames) fault
  pub is : why ≡ refused.Frame number fault
  pub wrote : Grew held held' (frame_lines frames ++ refusal_line why)

-- What a piece gives was written in part.
pub data CutsPiece (stream : List ℕ) (ended : List Frame) (piece : List ℕ) (number : ℕ)
    (held held' : Option (List ℕ)) : Type 0 where
  in_frames : (frames : List Frame) (unfinished : List ℕ) → Holds (stream ++ piece) (ended ++ frames) unfinished
      → GrewPartly held held' (frame_lines frames) → CutsPiece stream ended piece number held held'
  in_refusal : (frames : List Frame) (fault : FrameFault) → FrameStops (stream ++ piece) (ended ++ frames) fault
      → GrewPartly held held' (frame_lines frames ++ refusal_line (refused.Frame number fault))
      → CutsPiece stream ended piece number held held'

-- what a piece comes to behind a stream that ended these frames; no answer goes on
abbrev pub TakesPiece : (stream : List ℕ) → (ended : List Frame) → (piece : List ℕ) → (number : ℕ)
    → (held held' : Option (List ℕ)) → frames.Reading → Option Status → Type 0
TakesPiece stream ended piece number held held' new None = WentOn stream ended piece held held' new
TakesPiece stream ended piece number held held' new (Some (status.Refused why)) =
    StoppedIn stream ended piece number held held' why
TakesPiece stream ended piece number held held' new (Some status.WriteFault) =
    CutsPiece stream ended piece number held held'
TakesPiece stream ended piece number held held' new (Some _) = ⊥

-- what a piece comes to up to the end of one frame
abbrev pub TakesOn : (stream : List ℕ) → (ended : List Frame) → (piece : List ℕ) → (number : ℕ)
    → (held held' : Option (List ℕ)) → frames.Reading → Result ℕ Status → Type 0
TakesOn stream ended piece number held held' new (Ok n) = WentOn stream ended (take n piece) held held' new
TakesOn stream ended piece number held held' new (Err answer) =
    TakesPiece stream ended piece number held held' new (Some answer)

-- What a line that was read comes to behind a stream that ended these frames: it is refused, or its octets are taken.
pub data TakesLine (stream : List ℕ) (ended : List Frame) (place : Result (Option (List ℕ)) Reason) (number : ℕ)
    (held held' : Option (List ℕ)) (new : frames.Reading) (answer : Option Status) : Type 0 where
  by_line : (reason : Reason) (told : Status) → place ≡ Err reason → answer ≡ Some told
      → EndsWithText held held' (refusal_line (refused.Line (record { line = number; reason = reason })))
      (status.Refused (refused.Line (record { line = number; reason = reason }))) told
      → TakesLine stream ended place number held held' new answer
  by_octets : (piece : List ℕ) → place ≡ Ok (Some piece) → length piece ≤ 256
      → TakesPiece stream ended piece number held held' new answer
      → TakesLine stream ended place number held held' new answer
