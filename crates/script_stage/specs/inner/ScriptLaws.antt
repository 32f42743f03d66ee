-- The script that lines say, one after another, and how often they pass the ends: laws, proved. Cited by the laws of
-- the commands that play a script.
use Rattle.std.specs.Prelude.{◌≡◌, ℕ, ◌+◌, List, [], ◌∷◌, ◌++◌, Some, None, Ok, Err}
use Rattle.std.proofs.Common.{sym, ◌∙◌, ap, refl, append_assoc}
use Rattle.std.proofs.lemmas.List.{append-nil}
use Rattle.trace_model.specs.declared.event.Event.{Event}
use Rattle.line_input.specs.declared.reason.Reason.{Reason}
use Rattle.trace_text.specs.declared.script.ScriptLine.{ScriptLine}
use Rattle.trace_text.specs.declared.script.ScriptLine.TheVariants as line
use Rattle.trace_text.specs.Facts.{facts_in}
use Rattle.line_input.specs.Lines.{line_fault, IsPassedOver, IsLine}
use Rattle.trace_text.specs.Script.{Said, Script, script_from, script_line, judged, placed_line, said_after, in_front}
use Rattle.script_stage.specs.Progress.{events_before, event_of}
use Rattle.script_stage.specs.ScriptSeen.{ScriptSeen, passes_behind_lines, script_behind}

pub judged-passed : (said : Said) (text : List ℕ) → IsPassedOver text → judged said text ≡ Ok None
judged-passed said text h = rw (judged, h.0, h.1) refl

pub judged-line : (said : Said) (text : List ℕ) → IsLine text → judged said text ≡ placed_line said (script_line text)
judged-line said text h = rw (judged, h.0, h.1) refl

pub judged-fault : (said : Said) (text : List ℕ) (why : Reason) → line_fault text ≡ Some why
    → judged said text ≡ Err why
judged-fault said text why h = rw (judged, h) refl

pub script_from-none : (said : Said) (number : ℕ)
    → script_from said number [] ≡ record { facts = facts_in said.facts; events = []; refused = None }
unfolding script_from
script_from-none said number = refl

pub script_from-line : (said : Said) (text : List ℕ) (number : ℕ) (rest : List (List ℕ)) (says : ScriptLine)
    → judged said text ≡ Ok (Some says)
    → script_from said number (text ∷ rest) ≡ in_front says (script_from (said_after said says) (number + 1) rest)
unfolding script_from
script_from-line said text number rest says h = rw (script_from, h) refl

pub script_from-bad : (said : Said) (text : List ℕ) (number : ℕ) (rest : List (List ℕ)) (why : Reason)
    → judged said text ≡ Err why
    → script_from said number (text ∷ rest)
    ≡ record { facts = facts_in said.facts; events = []; refused = Some (record { line = number; reason = why }) }
unfolding script_from
script_from-bad said text number rest why h = rw (script_from, h) refl

-- a line's events stand behind those before it
pub events_before-in_front : (events : List Event) (says : ScriptLine) (script : Script)
    → events_before events (in_front says script) ≡ events_before (events ++ event_of says) script
events_before-in_front events (line.Fact f) script = ap (λ es. events_before es script) (sym (append-nil events))
events_before-in_front events (line.Event e) script =
    ap (λ es. record script { events = es }) (sym (append_assoc events (e ∷ []) script.events))

pub script_from-comment : (said : Said) (text : List ℕ) (number : ℕ) (rest : List (List ℕ))
    → judged said text ≡ Ok None → script_from said number (text ∷ rest) ≡ script_from said (number + 1) rest
unfolding script_from
script_from-comment said text number rest h = rw (script_from, h) refl

-- lines that are passed over say nothing
pub behind_passed : (seen : ScriptSeen) (number : ℕ) (text : List ℕ) (texts : List (List ℕ)) → IsPassedOver text
    → script_behind seen number (text ∷ texts) ≡ script_behind seen (number + 1) texts
behind_passed seen number text texts passed =
    ap (events_before seen.events)
    (script_from-comment seen.said text number texts (judged-passed seen.said text passed))

-- at the end of the input it is what the lines said
pub behind_none : (seen : ScriptSeen) (number : ℕ)
    → script_behind seen number []
    ≡ record { facts = facts_in seen.said.facts; events = seen.events; refused = None }
behind_none seen number =
    ap (events_before seen.events) (script_from-none seen.said number)
    ∙ ap (λ es. record { facts = facts_in seen.said.facts; events = es; refused = None }) (append-nil seen.events)

pub passes_passed : (said : Said) (events : List Event) (text : List ℕ) (texts : List (List ℕ))
    → judged said text ≡ Ok None
    → passes_behind_lines said events (text ∷ texts) ≡ passes_behind_lines said events texts
unfolding passes_behind_lines
passes_passed said events text texts h = rw (passes_behind_lines, h) refl
