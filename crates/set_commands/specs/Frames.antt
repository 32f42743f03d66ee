-- What `ecall frames` replies to lines with pieces of one stream of frames in hexadecimal: the line of each frame, up
-- to the first line that is refused, or the first octet with which no frame goes on; behind the last line how many
-- octets of an unfinished frame are left. This project's profile. Cited by the reply to words and an input.
use Rattle.std.specs.Prelude.{◌≡◌, ℕ, ◌+◌, List, [], ◌∷◌, ◌++◌, ◌⊎◌, length, Option, Some, None, Result, Ok, Err, codes, decimal}
use Rattle.std.specs.List.{flat_map}
use Rattle.link_frames.specs.Streams.{Holds, FrameStops}
use Rattle.link_frames.specs.declared.fault.FrameFault.{FrameFault}
use Rattle.link_frames.specs.declared.frame.Frame.{Frame}
use Rattle.line_input.specs.Characters.{newline}
use Rattle.trace_text.specs.EntryLine.{frame_words, spaced}
use Rattle.line_input.specs.Lines.{lines_of}
use Rattle.line_input.specs.declared.reason.Reason.{Reason}
use Rattle.command_base.specs.declared.refusal.Refused.TheVariants as refused
use Rattle.command_base.specs.declared.status.Status.TheVariants as status
use Rattle.set_commands.specs.Decode.{judged_set}
use Rattle.command_base.specs.Refusals.{Reply, refusal_reply, in_front_of}

-- words with a single space between two of them
abbrev pub joined : List (List ℕ) → List ℕ
joined [] = []
joined (word ∷ words) = word ++ spaced words

-- the line of a frame: its words as in an entry that sends it
unfoldable pub frame_line : Frame → List ℕ
frame_line frame = joined (frame_words frame) ++ newline ∷ []

-- the lines of some frames
abbrev pub frame_lines : List Frame → List ℕ
frame_lines frames = flat_map frame_line frames

-- the line behind the last one, by the octets of an unfinished frame
abbrev pub rest_line : List ℕ → List ℕ
rest_line rest = joined (codes "rest" ∷ decimal (length rest) ∷ []) ++ newline ∷ []

-- the text behind that of the frames
abbrev pub ClosesFrames : List ℕ → Type 0
ClosesFrames text = (rest : List ℕ) × (text ≡ rest_line rest)

-- A piece goes on with a stream that ended these frames: the frames that end in the piece stand in front of the reply
-- to the rest.
pub record EndsFrames (stream : List ℕ) (ended : List Frame) (piece : List ℕ)
    (Rest : List ℕ → List Frame → Reply → Type 0) (r : Reply) : Type 0 where
  pub frames : List Frame
  pub unfinished : List ℕ
  pub holds : Holds (stream ++ piece) (ended ++ frames) unfinished
  pub rest : Reply
  pub replied : Rest (stream ++ piece) (ended ++ frames) rest
  pub says : r ≡ in_front_of (frame_lines frames) rest

-- A stream that ended these frames stops being one of frames in a piece of it, the line of this number; the frames that
-- end in the piece stand in front.
pub record StopsInPiece (number : ℕ) (stream : List ℕ) (ended : List Frame) (piece : List ℕ) (r : Reply) : Type 0 where
  pub frames : List Frame
  pub fault : FrameFault
  pub stops : FrameStops (stream ++ piece) (ended ++ frames) fault
  pub says : r ≡ in_front_of (frame_lines frames) (refusal_reply (refused.Frame number fault))

-- the reply behind the last line
pub record TellsRest (stream : List ℕ) (ended : List Frame) (r : Reply) : Type 0 where
  pub unfinished : List ℕ
  pub holds : Holds stream ended unfinished
  pub says : r ≡ record { text = rest_line unfinished; status = status.Done }

-- the reply to a line, which is judged as one of `decode`, and to the rest behind it
abbrev pub IsLineOfFrames : ℕ → Result (Option (List ℕ)) Reason → List ℕ → List Frame
    → (Rest : List ℕ → List Frame → Reply → Type 0) → Reply → Type 0
IsLineOfFrames number (Err why) stream ended Rest r =
    r ≡ refusal_reply (refused.Line (record { line = number; reason = why }))
IsLineOfFrames number (Ok None) stream ended Rest r = Rest stream ended r
IsLineOfFrames number (Ok (Some piece)) stream ended Rest r =
    EndsFrames stream ended piece Rest r ⊎ StopsInPiece number stream ended piece r

-- The reply to lines from a number on, behind this stream, which ended these frames: the octets of all lines before,
-- joined.
abbrev pub AreFrames : ℕ → List (List ℕ) → List ℕ → List Frame → Reply → Type 0
AreFrames number [] stream ended r = TellsRest stream ended r
AreFrames number (text ∷ texts) stream ended r =
    IsLineOfFrames number (judged_set text) stream ended (AreFrames (number + 1) texts) r

-- the reply of `frames` to an input
abbrev pub IsFrames : List ℕ → Reply → Type 0
IsFrames input r = AreFrames 1 (lines_of input) [] [] r
