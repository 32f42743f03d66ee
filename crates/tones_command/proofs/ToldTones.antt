-- What is told to one who writes lines and keeps frames, as its caller sees it.
use Rattle.std.specs.Prelude.{◌≡◌, ℕ, List, [], Option, Result, Ok, Err}
use Rattle.std.proofs.Common.{subst}
use Rattle.call_io.specs.Bytes.{Grew, GrewPartly}
use Rattle.call_io.specs.Ways.{Way, Onward}
use Rattle.trace_model.specs.declared.entry.Entry.{Entry}
use Rattle.trace_model.specs.declared.event.Event.{Event}
use Rattle.trace_text.specs.EntryLine.{text_of}
use Rattle.trace_text.specs.Script.{Said}
use Rattle.trace_text.specs.declared.script.ScriptLine.{ScriptLine}
use Rattle.script_stage.specs.Stage.{Obeys}
use Rattle.script_stage.specs.declared.stage.Halt.{Halt}
use Rattle.script_stage.specs.declared.stage.Halt.TheVariants as halt
use Rattle.script_stage.specs.declared.stage.Stage.{Stage}
use Rattle.tones_command.specs.declared.hearing.ToneOut.{ToneOut}
use Rattle.tones_command.specs.declared.sent.SentFrames.{SentFrames}
use Rattle.tones_command.specs.inner.Hearing.{FramesGrew, ToneGrew, ToneGrewPartly, frames_name, tone_sink, tone_sink_name}

-- Still the same sink is written to, which went onward, and the same frames are kept.
pub record KeepsBoth {O : Type 0} (way : O → Way) (old new : ToneOut O) : Type 0 where
  pub same : tone_sink_name new ≡ tone_sink_name old
  pub onward : Onward (way (tone_sink old)) (way (tone_sink new))
  pub frames : frames_name new ≡ frames_name old

pub told_both : {O A : Type 0} (held : O → Option (List ℕ)) (way : O → Way) (old new : ToneOut O)
    (stage next : Stage) (said : Said) (events : List Event) (says : ScriptLine) (Counted : ℕ → Type 0)
    → (answer : Result A Halt) → Obeys (ToneGrew held way old new) (ToneGrewPartly held way old new) Counted stage next
    said events says answer → KeepsBoth way old new
told_both held way old new stage next said events says Counted (Ok done) h =
    record { same = h.1.0; onward = h.1.2; frames = h.1.3 }
told_both held way old new stage next said events says Counted (Err (halt.Refused why)) h =
    record { same = h.1.0; onward = h.1.2; frames = h.1.3 }
told_both held way old new stage next said events says Counted (Err (halt.Sim fault)) h =
    record { same = h.1.0; onward = h.1.2; frames = h.1.3 }

module _ {O : Type 0} (held : O → Option (List ℕ)) (way : O → Way) (old new : ToneOut O) (out out' : O)
    (frames frames' : SentFrames) (was : tone_sink old ≡ out) (is : tone_sink new ≡ out')
    (frames_were : old.frames.now ≡ frames) (frames_are : new.frames.now ≡ frames') where
  grew : (es : List Entry) → ToneGrew held way old new es
      → Grew (held out) (held out') (text_of es) × FramesGrew frames frames' es
  grew es h = (
    subst (λ (o : O). Grew (held o) (held out') (text_of es)) was
        (subst (λ (o : O). Grew (held (tone_sink old)) (held o) (text_of es)) is h.1),
    subst (λ (f : SentFrames). FramesGrew f frames' es) frames_were
        (subst (λ (f : SentFrames). FramesGrew old.frames.now f es) frames_are h.4),
  )

  partly : (es : List Entry) → ToneGrewPartly held way old new es → GrewPartly (held out) (held out') (text_of es)
  partly es h =
      subst (λ (o : O). GrewPartly (held o) (held out') (text_of es)) was
      (subst (λ (o : O). GrewPartly (held (tone_sink old)) (held o) (text_of es)) is h.1)

  pub told_obeys : {A : Type 0} (stage next : Stage) (said : Said) (events : List Event) (says : ScriptLine) (Counted : ℕ → Type 0)
      → (answer : Result A Halt) → Obeys (ToneGrew held way old new) (ToneGrewPartly held way old new) Counted stage
      next said events says answer
      → Obeys (λ es. Grew (held out) (held out') (text_of es) × FramesGrew frames frames' es)
      (λ es. GrewPartly (held out) (held out') (text_of es)) Counted stage next said events says answer
  told_obeys stage next said events says Counted (Ok done) h = (h.0, grew _ h.1, h.2, h.3, h.4)
  told_obeys stage next said events says Counted (Err (halt.Refused why)) h = (h.0, grew [] h.1, h.2)
  told_obeys stage next said events says Counted (Err (halt.Sim fault)) h = (h.0, partly _ h.1, h.2)
