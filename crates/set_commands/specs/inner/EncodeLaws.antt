-- The law of `encode` as a command over lines, proved. Cited by that command.
use Rattle.std.specs.Prelude.{◌≡◌, ℕ, List, [], ◌∷◌, Option, Some, None, Result, Ok, Err}
use Rattle.std.proofs.Common.{◌∙◌, refl, arith}
use Rattle.line_input.specs.Lines.{line_fault, IsPassedOver, IsLine}
use Rattle.line_input.specs.declared.reason.Reason.{Reason}
use Rattle.trace_text.specs.Encode.{encode_judged, encode_line, encode_placed_line}
use Rattle.trace_text.specs.declared.encode.EncodeLine.{EncodeLine}
use Rattle.trace_text.specs.declared.fact_line.FactLine.{FactLine}
use Rattle.command_base.specs.LineCommands.{IsLined}
use Rattle.command_base.specs.Outcome.{ClosesSilently}
use Rattle.command_base.specs.Refusals.{Reply, refusal_reply}
use Rattle.command_base.specs.declared.refusal.Refused.TheVariants as refused
use Rattle.command_base.specs.declared.status.Status.TheVariants as status
use Rattle.set_commands.specs.Encode.{encoded_from}
use Rattle.set_commands.specs.inner.EncodePlaces.{IsEncoded, IsLineEncoded}

pub judged-passed : (facts : List FactLine) (text : List ℕ) → IsPassedOver text → encode_judged facts text ≡ Ok None
judged-passed facts text h = rw (encode_judged, h.0, h.1) refl

pub judged-line : (facts : List FactLine) (text : List ℕ) → IsLine text
    → encode_judged facts text ≡ encode_placed_line facts (encode_line text)
judged-line facts text h = rw (encode_judged, h.0, h.1) refl

pub judged-fault : (facts : List FactLine) (text : List ℕ) (why : Reason) → line_fault text ≡ Some why
    → encode_judged facts text ≡ Err why
judged-fault facts text why h = rw (encode_judged, h) refl

-- a line that says this in its place has this reply
pub by_place : (facts : List FactLine) (number : ℕ) (text : List ℕ) (texts : List (List ℕ))
    (place : Result (Option EncodeLine) Reason) (r : Reply) → encode_judged facts text ≡ place
    → IsLineEncoded facts number place texts r → IsEncoded facts number (text ∷ texts) r
unfolding encoded_from
by_place facts number text texts (Ok None) r judged is = is ∙ rw (encoded_from, judged) refl
by_place facts number text texts (Ok (Some says)) r judged is = is ∙ rw (encoded_from, judged) refl
by_place facts number text texts (Err why) r judged is = is ∙ rw (encoded_from, judged) refl

-- no lines are done
pub encoded_end : (facts : List FactLine) (number : ℕ)
    → IsEncoded facts number [] (record { text = []; status = status.Done })
unfolding encoded_from
encoded_end facts number = refl

-- the reply of `encode` behind facts is one to lines
pub encode_lined : (facts : List FactLine) → IsLined (IsEncoded facts) (λ number texts. 0) ClosesSilently
encode_lined facts =
    record {
      done = λ number. (record { text = []; status = status.Done }, encoded_end facts number, refl, refl);
      some = λ number texts. (encoded_from facts number texts, refl);
      passed = λ number text texts r passed is.
          by_place facts number text texts (Ok None) r (judged-passed facts text passed) is;
      counted = λ number text texts passed. omega arith;
      faulty = λ number text texts why fails.
          by_place facts number text texts (Err why)
          (refusal_reply (refused.Line (record { line = number; reason = why }))) (judged-fault facts text why fails)
          refl;
    }
