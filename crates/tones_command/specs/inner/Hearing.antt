-- Which frames are kept of the entries so far, and what it means that one who writes lines and keeps the frames grew by
-- some entries. Cited by that listener, and by the contracts of private functions.
use Rattle.std.specs.Prelude.{◌≡◌, ℕ, true, false, Bool, List, [], ◌∷◌, ◌++◌, Option, Some, None, slice_get}
use Rattle.std.specs.Borrow.{GName}
use Rattle.std.proofs.Common.{sym, ◌∙◌, ap, refl, subst, append_assoc}
use Rattle.std.proofs.lemmas.List.{append-nil}
use Rattle.call_io.specs.Bytes.{Grew, GrewPartly}
use Rattle.call_io.specs.Ways.{Way, Onward}
use Rattle.call_io.proofs.BytesLemmas.{Grew-nothing, Grew-append, GrewPartly-whole, GrewPartly-after, GrewPartly-longer}
use Rattle.call_io.proofs.BlockLemmas.{Onward-nothing, Onward-append}
use Rattle.link_frames.specs.declared.frame.End.{End}
use Rattle.link_frames.specs.declared.frame.End.TheVariants as «end»
use Rattle.trace_model.specs.History.{Sent, sent_by}
use Rattle.trace_model.specs.declared.entry.Entry.{Entry}
use Rattle.trace_text.specs.EntryLine.{text_of}
use Rattle.trace_text.specs.inner.TextListenerLaws.{text_of-append}
use Rattle.tones_command.specs.declared.sent.CallFrames.{CallFrames}
use Rattle.tones_command.specs.declared.sent.SentFrames.{SentFrames}
use Rattle.tones_command.specs.declared.hearing.ToneOut.{ToneOut}

-- the frames of a call, by who sent them; none where there is no such call
abbrev pub frames_by : End → Option CallFrames → List Sent
frames_by e None = []
frames_by «end».Vehicle (Some call) = call.up
frames_by «end».Point (Some call) = call.down

-- one more frame of this end
abbrev pub with_frame : End → Sent → CallFrames → CallFrames
with_frame «end».Vehicle sent call = record call { up = call.up ++ sent ∷ [] }
with_frame «end».Point sent call = record call { down = call.down ++ sent ∷ [] }

-- who sends the frames of a direction
abbrev pub sender_of : (up : Bool) → End
sender_of true = «end».Vehicle
sender_of false = «end».Point

-- the frames kept of this end and call
abbrev pub frames_of : End → ℕ → List CallFrames → List Sent
frames_of e c calls = frames_by e (slice_get calls c)

-- The frames kept are those that these entries send.
abbrev pub FramesStandFor : SentFrames → List Entry → Type 0
FramesStandFor frames entries = (e : End) (c : ℕ) → frames_of e c frames.calls.items ≡ sent_by e c entries

-- Whatever entries they stood for, they stand for those and these.
abbrev pub FramesGrew : (old new : SentFrames) → List Entry → Type 0
FramesGrew old new entries =
    (before : List Entry) → FramesStandFor old before → FramesStandFor new (before ++ entries)

pub FramesGrew-nothing : (a : SentFrames) → FramesGrew a a []
FramesGrew-nothing a = λ before stands e c. stands e c ∙ ap (sent_by e c) (sym (append-nil before))

pub FramesGrew-append : (a b c : SentFrames) (s t : List Entry) → FramesGrew a b s → FramesGrew b c t
    → FramesGrew a c (s ++ t)
FramesGrew-append a b c s t first second = λ before stands e k.
    second (before ++ s) (first before stands) e k ∙ ap (sent_by e k) (append_assoc before s t)

-- the sink that is borrowed, as it is now, and which references to it and to the frames are
abbrev pub tone_sink : {O : Type 0} → ToneOut O → O
tone_sink to = to.out.now

abbrev pub tone_sink_name : {O : Type 0} → ToneOut O → GName
tone_sink_name to = to.out.ghost_name

abbrev pub frames_name : {O : Type 0} → ToneOut O → GName
frames_name to = to.frames.ghost_name

module _ {O : Type 0} (held : O → Option (List ℕ)) (way : O → Way) where
  -- Still the same sink and frames are borrowed; the lines of these entries were written, and their frames kept.
  abbrev pub ToneGrew : (old new : ToneOut O) → List Entry → Type 0
  ToneGrew old new entries =
      (tone_sink_name new ≡ tone_sink_name old)
      × Grew (held (tone_sink old)) (held (tone_sink new)) (text_of entries)
      × Onward (way (tone_sink old)) (way (tone_sink new))
      × (frames_name new ≡ frames_name old)
      × FramesGrew old.frames.now new.frames.now entries

  -- Still the same are borrowed, and a part of the lines was written.
  abbrev pub ToneGrewPartly : (old new : ToneOut O) → List Entry → Type 0
  ToneGrewPartly old new entries =
      (tone_sink_name new ≡ tone_sink_name old)
      × GrewPartly (held (tone_sink old)) (held (tone_sink new)) (text_of entries)
      × Onward (way (tone_sink old)) (way (tone_sink new))
      × (frames_name new ≡ frames_name old)

  pub ToneGrew-nothing : (a : ToneOut O) → ToneGrew a a []
  ToneGrew-nothing a = (
    refl,
    Grew-nothing (held (tone_sink a)),
    Onward-nothing (way (tone_sink a)),
    refl,
    FramesGrew-nothing a.frames.now,
  )

  pub ToneGrew-append : (a b c : ToneOut O) (s t : List Entry) → ToneGrew a b s → ToneGrew b c t → ToneGrew a c (s ++ t)
  ToneGrew-append a b c s t first second = (
    second.0 ∙ first.0,
    subst (Grew (held (tone_sink a)) (held (tone_sink c))) (sym (text_of-append s t))
        (Grew-append (held (tone_sink a)) (held (tone_sink b)) (held (tone_sink c)) (text_of s) (text_of t)
        first.1 second.1),
    Onward-append (way (tone_sink a)) (way (tone_sink b)) (way (tone_sink c)) first.2 second.2,
    second.3 ∙ first.3,
    FramesGrew-append a.frames.now b.frames.now c.frames.now s t first.4 second.4,
  )

  pub ToneGrewPartly-whole : (a b : ToneOut O) (s : List Entry) → ToneGrew a b s → ToneGrewPartly a b s
  ToneGrewPartly-whole a b s whole = (
    whole.0,
    GrewPartly-whole (held (tone_sink a)) (held (tone_sink b)) (text_of s) whole.1,
    whole.2,
    whole.3,
  )

  pub ToneGrewPartly-after : (a b c : ToneOut O) (s t : List Entry) → ToneGrew a b s → ToneGrewPartly b c t
      → ToneGrewPartly a c (s ++ t)
  ToneGrewPartly-after a b c s t first second = (
    second.0 ∙ first.0,
    subst (GrewPartly (held (tone_sink a)) (held (tone_sink c))) (sym (text_of-append s t))
        (GrewPartly-after (held (tone_sink a)) (held (tone_sink b)) (held (tone_sink c)) (text_of s) (text_of t)
        first.1 second.1),
    Onward-append (way (tone_sink a)) (way (tone_sink b)) (way (tone_sink c)) first.2 second.2,
    second.3 ∙ first.3,
  )

  pub ToneGrewPartly-longer : (a b : ToneOut O) (s t : List Entry) → ToneGrewPartly a b s → ToneGrewPartly a b (s ++ t)
  ToneGrewPartly-longer a b s t part = (
    part.0,
    subst (GrewPartly (held (tone_sink a)) (held (tone_sink b))) (sym (text_of-append s t))
        (GrewPartly-longer (held (tone_sink a)) (held (tone_sink b)) (text_of s) (text_of t) part.1),
    part.2,
    part.3,
  )

  -- of these entries nothing was written
  pub ToneGrewPartly-nothing : (a : ToneOut O) (s : List Entry) → ToneGrewPartly a a s
  ToneGrewPartly-nothing a s = ToneGrewPartly-longer a a [] s (ToneGrewPartly-whole a a [] (ToneGrew-nothing a))
