-- What reading a further line of a script comes to, for either end. Cited by private contracts alone.
use Rattle.std.specs.Prelude.{◌≡◌, ℕ, ◌⊎◌, true, false, List, Option, Some, None, Result, Ok, Err, Bool}
use Rattle.line_input.specs.Reading.{Reading, ReadsLine}
use Rattle.line_input.specs.Words.{words}
use Rattle.line_input.specs.declared.fault.LineFault.TheVariants as fault
use Rattle.line_input.specs.declared.reason.BadLine.{BadLine}
use Rattle.line_input.specs.declared.reason.Reason.{Reason}
use Rattle.link_frames.specs.declared.frame.End.{End}
use Rattle.trace_model.specs.declared.event.Event.{Event}
use Rattle.trace_text.specs.declared.script.ScriptLine.{ScriptLine}
use Rattle.trace_text.specs.declared.script.ScriptLine.TheVariants as line
use Rattle.live_link.specs.Scripts.{line_by_words}
use Rattle.live_link.specs.declared.answer.LiveStatus.{LiveStatus}
use Rattle.live_link.specs.declared.answer.LiveStatus.TheVariants as status

-- one more line was read, or none could be; before the script is read, what is pending of the trace is handed over
abbrev pub ReadsNext : (old new : Reading) → (left left' : Option (List ℕ)) → Result Bool LiveStatus → Type 0
ReadsNext old new left left' (Ok found) = ReadsLine old new left left' (Ok found)
ReadsNext old new left left' (Err (status.Refused bad)) = ReadsLine old new left left' (Err (fault.Bad bad))
ReadsNext old new left left' (Err status.ReadFault) = ReadsLine old new left left' (Err fault.ReadFault)
ReadsNext old new left left' (Err status.TooLong) = ReadsLine old new left left' (Err fault.TooLong)
ReadsNext old new left left' (Err status.WriteFault) = (new ≡ old) × (left' ≡ left)
ReadsNext old new left left' (Err _) = ⊥

-- why a line that is read by its words is no event line
abbrev pub RefusesEvent : Result ScriptLine Reason → (of_fact : Reason) → Reason → Type 0
RefusesEvent (Err why) of_fact reason = reason ≡ why
RefusesEvent (Ok (line.Fact f)) of_fact reason = reason ≡ of_fact
RefusesEvent (Ok (line.Event e)) of_fact reason = ⊥

-- this line was read, and is no event line
pub record ReadsOther (e : End) (of_fact : Reason) (old new : Reading) (left left' : Option (List ℕ)) (bad : BadLine)
    : Type 0 where
  pub reads : ReadsLine old new left left' (Ok true)
  pub number : bad.line ≡ new.lines
  pub says : RefusesEvent (line_by_words e (words new.text)) of_fact bad.reason

-- One more event line was read, none is the end of the script, or there is none that can be read. A fact line is
-- refused for this reason.
abbrev pub ReadsEvent : End → (of_fact : Reason) → (old new : Reading) → (left left' : Option (List ℕ))
    → Result (Option Event) LiveStatus → Type 0
ReadsEvent e of_fact old new left left' (Ok (Some event)) =
    ReadsLine old new left left' (Ok true) × (line_by_words e (words new.text) ≡ Ok (line.Event event))
ReadsEvent e of_fact old new left left' (Ok None) = ReadsLine old new left left' (Ok false)
ReadsEvent e of_fact old new left left' (Err (status.Refused bad)) =
    ReadsLine old new left left' (Err (fault.Bad bad)) ⊎ ReadsOther e of_fact old new left left' bad
ReadsEvent e of_fact old new left left' (Err status.ReadFault) = ReadsLine old new left left' (Err fault.ReadFault)
ReadsEvent e of_fact old new left left' (Err status.TooLong) = ReadsLine old new left left' (Err fault.TooLong)
ReadsEvent e of_fact old new left left' (Err status.WriteFault) = (new ≡ old) × (left' ≡ left)
ReadsEvent e of_fact old new left left' (Err _) = ⊥
