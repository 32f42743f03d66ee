-- The reply of `decode` is one to lines, and what a line of it comes to by its place.
use Rattle.std.specs.Prelude.{◌≡◌, ℕ, ◌+◌, List, [], Option, Some, None, Result, Ok, Err}
use Rattle.std.proofs.Common.{◌∙◌, sym, refl, subst, inl, inr, arith}
use Rattle.call_io.specs.Bytes.{Grew, GrewPartly}
use Rattle.per_bits.specs.declared.refusals.Refusal.{Refusal}
use Rattle.msd_values.specs.Description.{description}
use Rattle.msd_values.specs.declared.msd.Msd.{Msd}
use Rattle.msd_codec.specs.Sets.{Shows, StopsAt}
use Rattle.line_input.specs.Lines.{IsLine, Numbered}
use Rattle.line_input.specs.Words.{only_word_of, words}
use Rattle.line_input.specs.declared.reason.Reason.{Reason}
use Rattle.set_commands.specs.Decode.{AreDecoded, judged_set, octets_of_word, some_octets}
use Rattle.command_base.specs.LineCommands.{TakesLine}
use Rattle.command_base.specs.Refusals.{refusal_line}
use Rattle.command_base.specs.declared.refusal.Refused.TheVariants as refused
use Rattle.command_base.specs.declared.status.Status.{Status}
use Rattle.command_base.specs.declared.status.Status.TheVariants as status
use Rattle.set_commands.specs.inner.DecodePlaces.{FromPlace, TakesPlace}
use Rattle.command_base.specs.Ends.{EndsWithText}
use Rattle.command_base.proofs.LineEnds as ends
use Rattle.set_commands.specs.inner.DecodeReplies.{decoded_some}
use Rattle.set_commands.specs.inner.DecodeLaws.{judged_set-line}

-- a set is described, or a part of its description was written
pub set_given : (octets : List ℕ) (number : ℕ) (held held' : Option (List ℕ)) (msd : Msd) → Shows octets msd
    → Grew held held' (description msd) → TakesPlace (Ok (Some octets)) number held held' None
set_given octets number held held' msd shown grew =
    (description msd, λ texts r rest. inl (record { msd = msd; rest = r; shown = shown; replied = rest; says = refl }), grew)

pub set_cut : (octets : List ℕ) (number : ℕ) (held held' : Option (List ℕ)) (msd : Msd) → Shows octets msd
    → GrewPartly held held' (description msd)
    → TakesPlace (Ok (Some octets)) number held held' (Some status.WriteFault)
set_cut octets number held held' msd shown grew =
    ends.cut_text (FromPlace (Ok (Some octets))) number [] held held' AreDecoded (description msd)
    (λ texts r rest. inl (record { msd = msd; rest = r; shown = shown; replied = rest; says = refl }))
    (decoded_some (number + 1)) grew

-- octets are no set
pub set_stops : (octets : List ℕ) (number : ℕ) (held held' : Option (List ℕ)) (refusal : Refusal)
    → StopsAt octets refusal → (answer : Status)
    → EndsWithText held held' (refusal_line (refused.Set number refusal)) (status.Refused (refused.Set number refusal))
    answer → TakesPlace (Ok (Some octets)) number held held' (Some answer)
set_stops octets number held held' refusal stops answer h =
    ends.ends_refused (FromPlace (Ok (Some octets))) number [] held held' (refusal_line (refused.Set number refusal))
    (refused.Set number refusal) (λ texts. inr (record { refusal = refusal; stops = stops; says = refl })) refl
    answer h

-- a line that is refused
pub line_refused : (place : Result (Option (List ℕ)) Reason) (number : ℕ) (reason : Reason)
    (held held' : Option (List ℕ)) → place ≡ Err reason → (answer : Status)
    → EndsWithText held held' (refusal_line (refused.Line (record { line = number; reason = reason })))
    (status.Refused (refused.Line (record { line = number; reason = reason }))) answer
    → TakesPlace place number held held' (Some answer)
line_refused place number reason held held' placed answer h =
    subst (λ (p : Result (Option (List ℕ)) Reason). TakesPlace p number held held' (Some answer)) (sym placed)
    (ends.ends_refused (FromPlace (Err reason)) number [] held held'
    (refusal_line (refused.Line (record { line = number; reason = reason })))
    (refused.Line (record { line = number; reason = reason })) (λ texts. refl) refl answer h)

-- the place of a line of one word, and of other words
pub at_place : (line : Numbered) (text : List ℕ) (number : ℕ) (place : Result (Option (List ℕ)) Reason)
    (held held' : Option (List ℕ)) (answer : Option Status) → text ≡ line.text → number ≡ line.number → IsLine text
    → some_octets (octets_of_word (only_word_of (words text))) ≡ place → TakesPlace place number held held' answer
    → TakesPlace (judged_set line.text) line.number held held' answer
at_place line text number place held held' answer text_is number_is says placed takes =
    subst (λ (t : List ℕ). TakesPlace (judged_set t) line.number held held' answer) text_is
    (subst (λ (n : ℕ). TakesPlace (judged_set text) n held held' answer) number_is
    (subst (λ (p : Result (Option (List ℕ)) Reason). TakesPlace p number held held' answer)
    (sym (judged_set-line text says ∙ placed)) takes))

-- what the command says of a line
pub takes_line : (number : ℕ) (text : List ℕ) (held held' : Option (List ℕ)) (answer : Option Status)
    → TakesPlace (judged_set text) number held held' answer
    → TakesLine {Seen = Unit {0}} (λ seen. AreDecoded) (λ seen n texts. 0) (λ seen. Unit {0}) tt number text 0 0 held
    held' answer
takes_line number text held held' None t =
    record { next = tt; stands = tt; text = t.0; goes = t.1; wrote = t.2; counted = λ texts. omega arith }
takes_line number text held held' (Some answer) t = (t, λ texts. omega arith)
