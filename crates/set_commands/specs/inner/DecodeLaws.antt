-- The law of `decode` as a command over lines, proved. Cited by that command.
use Rattle.std.specs.Prelude.{◌≡◌, ℕ, ◌+◌, List, [], Option, Some, None, Result, Ok, Err}
use Rattle.std.proofs.Common.{sym, refl, subst, arith}
use Rattle.line_input.specs.Lines.{line_fault, IsPassedOver, IsLine}
use Rattle.line_input.specs.Words.{only_word_of, words}
use Rattle.line_input.specs.declared.reason.Reason.{Reason}
use Rattle.set_commands.specs.Decode.{AreDecoded, IsLineDecoded, judged_set, octets_of_word, some_octets}
use Rattle.command_base.specs.LineCommands.{IsLined}
use Rattle.command_base.specs.Outcome.{ClosesSilently}
use Rattle.command_base.specs.Refusals.{refusal_reply}
use Rattle.command_base.specs.declared.refusal.Refused.TheVariants as refused
use Rattle.command_base.specs.declared.status.Status.TheVariants as status
use Rattle.set_commands.specs.inner.DecodeReplies.{decoded_some}

pub judged_set-passed : (text : List ℕ) → IsPassedOver text → judged_set text ≡ Ok None
judged_set-passed text h = rw (judged_set, h.0, h.1) refl

pub judged_set-line : (text : List ℕ) → IsLine text
    → judged_set text ≡ some_octets (octets_of_word (only_word_of (words text)))
judged_set-line text h = rw (judged_set, h.0, h.1) refl

pub judged_set-fault : (text : List ℕ) (why : Reason) → line_fault text ≡ Some why → judged_set text ≡ Err why
judged_set-fault text why h = rw (judged_set, h) refl

-- the reply of `decode` is one to lines
pub decode_lined : IsLined AreDecoded (λ number texts. 0) ClosesSilently
decode_lined =
    record {
      done = λ number. (record { text = []; status = status.Done }, refl, refl, refl);
      some = decoded_some;
      passed = λ number text texts r passed decoded.
          subst (λ (place : Result (Option (List ℕ)) Reason).
          IsLineDecoded number place (AreDecoded (number + 1) texts) r) (sym (judged_set-passed text passed)) decoded;
      counted = λ number text texts passed. omega arith;
      faulty = λ number text texts why fails.
          subst (λ (place : Result (Option (List ℕ)) Reason).
          IsLineDecoded number place (AreDecoded (number + 1) texts)
          (refusal_reply (refused.Line (record { line = number; reason = why }))))
          (sym (judged_set-fault text why fails)) refl;
    }
