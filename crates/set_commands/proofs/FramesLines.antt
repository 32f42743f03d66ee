-- What a line of `frames` comes to, as for every command over lines.
use Rattle.std.specs.Prelude.{◌≡◌, ℕ, ◌+◌, ◌*◌, ◌<◌, ◌≤◌, List, [], ◌++◌, length, Option, Some, None, Result, Ok, Err}
use Rattle.std.proofs.Common.{ap, sym, refl, subst, inl, inr, arith, length-append}
use Rattle.link_frames.specs.Reading.{HasRead}
use Rattle.link_frames.specs.Reading as frames
use Rattle.link_frames.specs.Streams.{Holds, FrameStops}
use Rattle.link_frames.specs.declared.fault.FrameFault.{FrameFault}
use Rattle.link_frames.specs.declared.frame.Frame.{Frame}
use Rattle.line_input.specs.Lines.{IsLine, Numbered, most_bytes}
use Rattle.line_input.specs.Words.{only_word_of, words}
use Rattle.line_input.specs.declared.reason.Reason.{Reason}
use Rattle.set_commands.specs.Decode.{judged_set, octets_of_word, some_octets}
use Rattle.set_commands.specs.Frames.{frame_lines, rest_line}
use Rattle.command_base.specs.LineCommands.{Ends, EndsInput, EndsLine, GoesOn}
use Rattle.command_base.specs.LineCommands as lines
use Rattle.command_base.specs.Refusals.{line_of, refusal_line, refusal_reply, in_front_of}
use Rattle.command_base.specs.declared.refusal.Refused.{Refused}
use Rattle.command_base.specs.declared.refusal.Refused.TheVariants as refused
use Rattle.command_base.specs.declared.status.Status.{Status}
use Rattle.command_base.specs.declared.status.Status.TheVariants as status
use Rattle.set_commands.specs.inner.DecodeLaws.{judged_set-line}
use Rattle.command_base.specs.Ends.{EndsWithText}
use Rattle.set_commands.specs.inner.FrameLaws.{by_place}
use Rattle.set_commands.specs.inner.FrameReplies.{frames_some}
use Rattle.set_commands.specs.inner.FrameStreams.{nothing_held}
use Rattle.set_commands.specs.inner.FrameTurns.{FollowFrames, FramesSeen, FramesStand, IsOfLine, StoppedIn, TakesLine, TakesPiece}
use Rattle.set_commands.specs.inner.FrameTurns as turns
use Rattle.command_base.proofs.LineEnds as ends

-- nothing was read yet
pub frames_first : FramesStand 0 (record { stream = []; ended = [] })
    (record { kept = []; frame = None; fault = None; taken = 0 })
frames_first = record { read = record { holds = nothing_held; taken = refl; going = refl }; few = omega arith }

-- the reader has room for a line
pub reader_few : (before number : ℕ) (seen : FramesSeen) (reader : frames.Reading) → FramesStand before seen reader
    → before < number → number ≤ most_bytes → reader.taken ≤ 4294967296
reader_few before number seen reader s less most = omega (arith, s.few, less, most)

-- an answer to a line is no want of memory
pub no_memory : (answer : Option Status) → IsOfLine answer → answer ≡ Some status.Memory → ⊥
no_memory answer of is = subst (λ (a : Option Status). IsOfLine a) is of

module _ (before number : ℕ) (seen : FramesSeen) (reader reader' : frames.Reading) (line : List ℕ)
    (held held' : Option (List ℕ)) (stands : FramesStand before seen reader) (less : before < number) where
  -- the frames that end in a piece stand in front of the reply to the rest
  goes : (piece : List ℕ) (fs : List Frame) (rest : List ℕ) → judged_set line ≡ Ok (Some piece)
      → Holds (seen.stream ++ piece) (seen.ended ++ fs) rest
      → GoesOn (FollowFrames seen) (FollowFrames (record { stream = seen.stream ++ piece; ended = seen.ended ++ fs }))
      number line (frame_lines fs)
  goes piece fs rest judged h = λ texts r follows.
      by_place number line texts seen (Ok (Some piece)) (in_front_of (frame_lines fs) r) judged
      (inl (record { frames = fs; unfinished = rest; holds = h; rest = r; replied = follows; says = refl }))

  -- the stream stops in a piece
  stops : (piece : List ℕ) (fs : List Frame) (fault : FrameFault) → judged_set line ≡ Ok (Some piece)
      → FrameStops (seen.stream ++ piece) (seen.ended ++ fs) fault
      → Ends (FollowFrames seen) number line
      (in_front_of (frame_lines fs) (refusal_reply (refused.Frame number fault)))
  stops piece fs fault judged h = λ texts.
      by_place number line texts seen (Ok (Some piece))
      (in_front_of (frame_lines fs) (refusal_reply (refused.Frame number fault))) judged
      (inr (record { frames = fs; fault = fault; stops = h; says = refl }))

  -- a piece that ends the command
  ends_piece : (piece : List ℕ) → judged_set line ≡ Ok (Some piece) → (answer : Status)
      → TakesPiece seen.stream seen.ended piece number held held' reader' (Some answer)
      → EndsLine (FollowFrames seen) number line held held' answer
  ends_piece piece judged (status.Refused why) t = (
    frame_lines t.frames ++ refusal_line why,
    subst (λ (w : Refused).
        Ends (FollowFrames seen) number line
        (record { text = frame_lines t.frames ++ refusal_line w; status = status.Refused w })) (sym t.is)
        (stops piece t.frames t.fault judged t.stops),
    t.wrote,
    ap line_of t.is,
  )
  ends_piece piece judged status.WriteFault (turns.in_frames fs rest h grew) =
      ends.cut_text (FollowFrames seen) number line held held'
      (FollowFrames (record { stream = seen.stream ++ piece; ended = seen.ended ++ fs })) (frame_lines fs)
      (goes piece fs rest judged h)
      (λ texts. frames_some (number + 1) texts (seen.stream ++ piece) (seen.ended ++ fs) rest h) grew
  ends_piece piece judged status.WriteFault (turns.in_refusal fs fault h grew) =
      ends.cut_end (FollowFrames seen) number line held held'
      (in_front_of (frame_lines fs) (refusal_reply (refused.Frame number fault))) (stops piece fs fault judged h) grew
  ends_piece piece judged status.Done t = absurd t
  ends_piece piece judged status.Usage t = absurd t
  ends_piece piece judged (status.Broken place rule) t = absurd t
  ends_piece piece judged status.ReadFault t = absurd t
  ends_piece piece judged status.Memory t = absurd t
  ends_piece piece judged status.TooLong t = absurd t

  Taken : Option Status → Type 0
  Taken answer =
      lines.TakesLine {Seen = FramesSeen} FollowFrames (λ seen n texts. 0) (λ next. FramesStand number next reader') seen
      number line 0 0 held held' answer

  by_judged : (answer : Option Status)
      → TakesLine seen.stream seen.ended (judged_set line) number held held' reader' answer → Taken answer
  unfolding Taken
  by_judged answer (turns.by_line reason told judged is h) =
      subst (λ (a : Option Status). Taken a) (sym is) (
        ends.ends_refused (FollowFrames seen) number line held held'
            (refusal_line (refused.Line (record { line = number; reason = reason })))
            (refused.Line (record { line = number; reason = reason }))
            (λ texts.
            by_place number line texts seen (Err reason)
            (refusal_reply (refused.Line (record { line = number; reason = reason }))) judged refl) refl told h,
        λ texts. omega arith,
      )
  by_judged None (turns.by_octets piece judged few w) =
      let all : reader'.taken ≡ length (seen.stream ++ piece) = w.read.taken in
      let both : length (seen.stream ++ piece) ≡ length seen.stream + length piece =
      length-append seen.stream piece in
      let until : reader.taken ≡ length seen.stream = stands.read.taken in
      let fit : reader.taken ≤ before * 256 = stands.few in
      record {
        next = record { stream = seen.stream ++ piece; ended = seen.ended ++ w.frames };
        stands = record { read = w.read; few = omega (arith, less) };
        text = frame_lines w.frames;
        goes = goes piece w.frames reader'.kept judged w.read.holds;
        wrote = w.wrote;
        counted = λ texts. omega arith;
      }
  by_judged (Some answer) (turns.by_octets piece judged few t) =
      (ends_piece piece judged answer t, λ texts. omega arith)

-- what the command says of a line
pub takes_line : (before : ℕ) (seen : FramesSeen) (reader reader' : frames.Reading) (line : Numbered)
    (held held' : Option (List ℕ)) (answer : Option Status) → FramesStand before seen reader → before < line.number
    → IsLine line.text
    → TakesLine seen.stream seen.ended (some_octets (octets_of_word (only_word_of (words line.text)))) line.number held
    held' reader' answer
    → lines.TakesLine {Seen = FramesSeen} FollowFrames (λ seen n texts. 0)
    (λ next. FramesStand line.number next reader') seen line.number line.text 0 0 held held' answer
unfolding Taken
takes_line before seen reader reader' line held held' answer stands less says t =
    by_judged before line.number seen reader reader' line.text held held' stands less answer
    (subst (λ (p : Result (Option (List ℕ)) Reason).
    TakesLine seen.stream seen.ended p line.number held held' reader' answer) (sym (judged_set-line line.text says)) t)

-- what it says at the end of the input
pub takes_end : (before number : ℕ) (seen : FramesSeen) (reader : frames.Reading) (held held' : Option (List ℕ))
    (answer : Status) → FramesStand before seen reader
    → EndsWithText held held' (rest_line reader.kept) status.Done answer
    → EndsInput (FollowFrames seen) number held held' answer
takes_end before number seen reader held held' answer s (inl h) =
    subst (λ (a : Status). EndsInput (FollowFrames seen) number held held' a) (sym h.0)
    (rest_line reader.kept, record { unfinished = reader.kept; holds = s.read.holds; says = refl }, h.1)
takes_end before number seen reader held held' answer s (inr h) =
    subst (λ (a : Status). EndsInput (FollowFrames seen) number held held' a) (sym h.0) (
      h.1.0,
      record { text = h.1.1; status = status.Done },
      record {
        unfinished = reader.kept;
        holds = s.read.holds;
        says = ap (λ (t : List ℕ). record { text = t; status = status.Done }) h.1.2;
      },
      h.1.3,
    )
