-- The law of `register` as a command over lines, proved. Cited by that command.
use Rattle.std.specs.Prelude.{◌≡◌, ℕ, List, [], ◌∷◌, Err}
use Rattle.std.proofs.Common.{sym, ◌∙◌, ap, refl, arith}
use Rattle.line_input.specs.declared.reason.Reason.{Reason}
use Rattle.trace_text.specs.Facts.{facts_in}
use Rattle.trace_text.specs.Script.{judged}
use Rattle.command_base.specs.LineCommands.{IsLined}
use Rattle.command_base.specs.Refusals.{refusal_reply}
use Rattle.command_base.specs.declared.refusal.Refused.TheVariants as refused
use Rattle.call_register.specs.Table.{table}
use Rattle.script_commands.specs.Register.{ClosesRegister}
use Rattle.script_stage.specs.ScriptTrace.{played}
use Rattle.script_stage.specs.Progress.{events_before}
use Rattle.script_commands.specs.inner.RegisterTurns.{RegisteredFrom, registered_script}
use Rattle.script_stage.specs.ScriptSeen.{ScriptSeen, passes_from, passes_behind_lines, script_behind}
use Rattle.script_stage.specs.inner.ScriptLaws.{judged-passed, judged-fault, script_from-bad, behind_passed, behind_none, passes_passed}

-- a line that is refused ends the script
pub behind_refused : (seen : ScriptSeen) (number : ℕ) (text : List ℕ) (texts : List (List ℕ)) (why : Reason)
    → judged seen.said text ≡ Err why
    → registered_script (script_behind seen number (text ∷ texts))
    ≡ refusal_reply (refused.Line (record { line = number; reason = why }))
behind_refused seen number text texts why judge =
    ap (λ s. registered_script (events_before seen.events s)) (script_from-bad seen.said text number texts why judge)

pub register_lined : (seen : ScriptSeen) → IsLined (RegisteredFrom seen) (passes_from seen)
    ClosesRegister
register_lined seen =
    record {
      done = λ number. (
        registered_script (script_behind seen number []),
        refl,
        ap (λ s. (registered_script s).status) (behind_none seen number),
        (
          table (played (facts_in seen.said.facts) seen.events),
          ap (λ s. (registered_script s).text) (behind_none seen number),
        ),
      );
      some = λ number texts. (registered_script (script_behind seen number texts), refl);
      passed = λ number text texts r passed is.
          is ∙ ap registered_script (sym (behind_passed seen number text texts passed));
      counted = λ number text texts passed.
          let same : passes_behind_lines seen.said seen.events (text ∷ texts)
          ≡ passes_behind_lines seen.said seen.events texts =
          passes_passed seen.said seen.events text texts (judged-passed seen.said text passed) in
          omega (arith, same);
      faulty = λ number text texts why fails.
          sym (behind_refused seen number text texts why (judged-fault seen.said text why fails));
    }
