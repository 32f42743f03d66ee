-- Each list of lines has a reply of `frames`, behind a stream that is read so far.
use Rattle.std.specs.Prelude.{ℕ, ◌+◌, List, [], ◌∷◌, ◌++◌, Option, Some, None, Result, Ok, Err}
use Rattle.std.proofs.Common.{refl, inl, inr}
use Rattle.link_frames.specs.Streams.{Holds}
use Rattle.link_frames.specs.declared.frame.Frame.{Frame}
use Rattle.line_input.specs.declared.reason.Reason.{Reason}
use Rattle.set_commands.specs.Decode.{judged_set}
use Rattle.set_commands.specs.Frames.{AreFrames, IsLineOfFrames, frame_lines, rest_line}
use Rattle.command_base.specs.Refusals.{Reply, refusal_reply, in_front_of}
use Rattle.command_base.specs.declared.refusal.Refused.TheVariants as refused
use Rattle.command_base.specs.declared.status.Status.TheVariants as status
use Rattle.set_commands.specs.inner.FrameStreams.{Goes, goes}

-- lines have a reply behind each stream that is read so far
abbrev HaveReply : (Rest : List ℕ → List Frame → Reply → Type 0) → Type 0
HaveReply Rest = (stream : List ℕ) (ended : List Frame) (kept : List ℕ) → Holds stream ended kept
    → (r : Reply) × Rest stream ended r

-- a line has a reply, where the lines behind it have one
line_some : (number : ℕ) (place : Result (Option (List ℕ)) Reason) (Rest : List ℕ → List Frame → Reply → Type 0)
    → HaveReply Rest → HaveReply (λ stream ended r. IsLineOfFrames number place stream ended Rest r)
line_some number (Err why) Rest some stream ended kept h =
    (refusal_reply (refused.Line (record { line = number; reason = why })), refl)
line_some number (Ok None) Rest some stream ended kept h = some stream ended kept h
line_some number (Ok (Some piece)) Rest some stream ended kept h = by_piece (goes stream piece ended kept h)
  where
    by_piece : Goes stream piece ended → (r : Reply) × IsLineOfFrames number (Ok (Some piece)) stream ended Rest r
    by_piece g = elim (g.comes) [
      | inl held ↦
          (let rest : (r : Reply) × Rest (stream ++ piece) (ended ++ g.frames) r =
          some (stream ++ piece) (ended ++ g.frames) held.0 held.1 in (
            in_front_of (frame_lines g.frames) rest.0,
            inl (record {
              frames = g.frames;
              unfinished = held.0;
              holds = held.1;
              rest = rest.0;
              replied = rest.1;
              says = refl;
            }),
          ))
      | inr stopped ↦ (
        in_front_of (frame_lines g.frames) (refusal_reply (refused.Frame number stopped.0)),
        inr (record { frames = g.frames; fault = stopped.0; stops = stopped.1; says = refl }),
      )
    ]

-- each list of lines has a reply
pub frames_some : (number : ℕ) (texts : List (List ℕ)) → HaveReply (AreFrames number texts)
frames_some number [] stream ended kept h = (
  record { text = rest_line kept; status = status.Done },
  record { unfinished = kept; holds = h; says = refl },
)
frames_some number (text ∷ texts) stream ended kept h =
    line_some number (judged_set text) (AreFrames (number + 1) texts) (frames_some (number + 1) texts) stream ended
    kept h
