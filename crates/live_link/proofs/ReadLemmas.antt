-- What a read or a write that failed says of what was read and written.
use Rattle.std.specs.Prelude.{◌≡◌, ℕ, List, Option, true, Result, Ok, Err}
use Rattle.std.proofs.Common.{refl, sym, subst, inl, inr}
use Rattle.call_io.specs.Bytes.{GrewPartly}
use Rattle.call_io.proofs.BytesLemmas.{GrewPartly-nothing}
use Rattle.line_input.specs.Reading.{Reading, ReadsLine}
use Rattle.line_input.specs.Words.{words}
use Rattle.line_input.specs.declared.fault.LineFault.{LineFault}
use Rattle.line_input.specs.declared.fault.LineFault.TheVariants as fault
use Rattle.line_input.specs.declared.reason.Reason.{Reason}
use Rattle.link_frames.specs.declared.frame.End.{End}
use Rattle.trace_text.specs.declared.fact_line.FactLine.{FactLine}
use Rattle.trace_text.specs.declared.script.ScriptLine.{ScriptLine}
use Rattle.trace_text.specs.declared.script.ScriptLine.TheVariants as line
use Rattle.live_link.specs.Scripts.{line_by_words}
use Rattle.live_link.specs.declared.answer.LiveStatus.{LiveStatus}
use Rattle.live_link.specs.declared.answer.LiveStatus.TheVariants as status
use Rattle.live_link.specs.inner.Going.{IsOfWriting, halt_of}
use Rattle.live_link.specs.inner.ScriptGoes.{ReadsEvent, ReadsNext, RefusesEvent}

-- what was not written grew by a front
pub front_of_none : (told : Option (List ℕ)) (bytes : List ℕ) → GrewPartly told told bytes
front_of_none told bytes = GrewPartly-nothing told bytes

-- what is pending could not be handed over, and no line was read
pub reads_unwritten : (old : Reading) (left : Option (List ℕ)) (how : LiveStatus) → IsOfWriting how
    → ReadsNext old old left left (Err how)
reads_unwritten old left status.WriteFault h = (refl, refl)
reads_unwritten old left status.Done h = absurd h
reads_unwritten old left (status.Refused bad) h = absurd h
reads_unwritten old left status.ReadFault h = absurd h
reads_unwritten old left status.Memory h = absurd h
reads_unwritten old left status.TooLong h = absurd h
reads_unwritten old left status.PeerEnded h = absurd h
reads_unwritten old left status.LinkCut h = absurd h
reads_unwritten old left (status.LinkFault f) h = absurd h
reads_unwritten old left status.NoLink h = absurd h

-- no line could be read
pub reads_halted : (old new : Reading) (left left' : Option (List ℕ)) (why : LineFault)
    → ReadsLine old new left left' (Err why) → ReadsNext old new left left' (Err (halt_of why))
reads_halted old new left left' (fault.Bad bad) h = h
reads_halted old new left left' fault.ReadFault h = h
reads_halted old new left left' fault.TooLong h = h

-- An event line is read.
module _ (e : End) (of_fact : Reason) (old new : Reading) (left left' : Option (List ℕ)) where
  -- no line could be read
  pub event_halted : (how : LiveStatus) → ReadsNext old new left left' (Err how)
      → ReadsEvent e of_fact old new left left' (Err how)
  event_halted (status.Refused bad) h = inl h
  event_halted status.ReadFault h = h
  event_halted status.TooLong h = h
  event_halted status.WriteFault h = h
  event_halted status.Done h = absurd h
  event_halted status.Memory h = absurd h
  event_halted status.PeerEnded h = absurd h
  event_halted status.LinkCut h = absurd h
  event_halted (status.LinkFault f) h = absurd h
  event_halted status.NoLink h = absurd h

  module _ (reads : ReadsLine old new left left' (Ok true)) where
    -- the line that was read is none of the end's
    pub event_refused : (why : Reason) → line_by_words e (words new.text) ≡ Err why
        → ReadsEvent e of_fact old new left left' (Err (status.Refused (record { line = new.lines; reason = why })))
    event_refused why is =
        inr (record {
          reads = reads;
          number = refl;
          says = subst (λ (z : Result ScriptLine Reason). RefusesEvent z of_fact why) (sym is) refl;
        })

    -- it is a fact line
    pub event_of_fact : (f : FactLine) → line_by_words e (words new.text) ≡ Ok (line.Fact f)
        → ReadsEvent e of_fact old new left left' (Err (status.Refused (record { line = new.lines; reason = of_fact })))
    event_of_fact f is =
        inr (record {
          reads = reads;
          number = refl;
          says = subst (λ (z : Result ScriptLine Reason). RefusesEvent z of_fact of_fact) (sym is) refl;
        })
