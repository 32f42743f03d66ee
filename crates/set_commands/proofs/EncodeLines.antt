-- What a line of `encode` comes to by what it says: a fact that is taken or is one candidate too many, a set that is asked
-- for with its facts or before them, and a line that says nothing lawful; and what that is to the command.
use Rattle.std.specs.Prelude.{◌≡◌, ℕ, ◌+◌, Bool, true, false, not, cond, List, [], Option, Some, None, Result, Ok, Err}
use Rattle.std.proofs.Common.{sym, ap, refl, subst, arith}
use Rattle.call_io.specs.Bytes.{GrewPartly}
use Rattle.msd_fit.specs.Fitting.{fits}
use Rattle.msd_fit.specs.declared.cause.Cause.{Cause}
use Rattle.msd_fit.specs.declared.facts.OwnFacts.{OwnFacts}
use Rattle.line_input.specs.Lines.{Numbered, IsLine, line_answer}
use Rattle.line_input.specs.declared.reason.BadLine.{BadLine}
use Rattle.line_input.specs.declared.reason.Reason.{Reason}
use Rattle.line_input.specs.declared.reason.Reason.TheVariants as reason
use Rattle.trace_text.specs.Drafts.{DraftOf}
use Rattle.trace_text.specs.Encode.{encode_judged, encode_line, encode_placed, encode_placed_line, placed_write}
use Rattle.trace_text.specs.Facts.{is_one_too_many, own_in}
use Rattle.trace_text.specs.declared.draft.Draft.{Draft}
use Rattle.trace_text.specs.declared.encode.EncodeLine.{EncodeLine}
use Rattle.trace_text.specs.declared.encode.EncodeLine.TheVariants as line
use Rattle.trace_text.specs.declared.fact_line.FactLine.{FactLine}
use Rattle.command_base.specs.Ends.{EndsWithText}
use Rattle.command_base.specs.LineCommands.{TakesLine}
use Rattle.command_base.specs.Refusals.{refusal_line, in_front_of}
use Rattle.command_base.specs.declared.refusal.Refused.TheVariants as refused
use Rattle.command_base.specs.declared.status.Status.{Status}
use Rattle.command_base.specs.declared.status.Status.TheVariants as status
use Rattle.command_base.proofs.LineEnds as ends
use Rattle.set_commands.specs.Encode.{encoded_from, facts_behind, octets_line, set_line, written_for}
use Rattle.set_commands.specs.inner.EncodeLaws.{by_place, judged-line}
use Rattle.set_commands.specs.inner.EncodePlaces.{FromPlace, IsEncoded, TakesPlace}

-- why a line is refused was written, or a part of it
pub refuses : (facts : List FactLine) (place : Result (Option EncodeLine) Reason) (number : ℕ) (why : Reason)
    (held held' : Option (List ℕ)) (draft' : Draft) → place ≡ Err why → (answer : Status)
    → EndsWithText held held' (refusal_line (refused.Line (record { line = number; reason = why })))
    (status.Refused (refused.Line (record { line = number; reason = why }))) answer
    → TakesPlace facts place number held held' draft' (Some answer)
refuses facts place number why held held' draft' placed answer h =
    subst (λ (p : Result (Option EncodeLine) Reason). TakesPlace facts p number held held' draft' (Some answer))
    (sym placed)
    (ends.ends_refused (FromPlace facts (Err why)) number [] held held'
    (refusal_line (refused.Line (record { line = number; reason = why })))
    (refused.Line (record { line = number; reason = why })) (λ texts. refl) refl answer h)

-- a candidate more than there may be has no place
pub fifth : (facts : List FactLine) (f : FactLine) → false ≡ not (is_one_too_many facts f)
    → encode_placed facts (line.Fact f) ≡ Err reason.Many
fifth facts f many = by_test (is_one_too_many facts f) many
  where
    by_test : (b : Bool) → false ≡ not b → cond b (Err reason.Many) (Ok (Some (line.Fact f))) ≡ Err reason.Many
    by_test true h = refl
    by_test false h = absurd (cc h)

-- a set whose line was written in part
pub set_cut : (facts : List FactLine) (cause : Cause) (n number : ℕ) (held held' : Option (List ℕ)) (draft' : Draft)
    (own : OwnFacts) → Some own ≡ own_in facts → GrewPartly held held' (octets_line (fits own cause n))
    → TakesPlace facts (encode_placed facts (line.Write cause n)) number held held' draft' (Some status.WriteFault)
set_cut facts cause n number held held' draft' own is grew =
    subst (λ (p : Result (Option EncodeLine) Reason).
    TakesPlace facts p number held held' draft' (Some status.WriteFault)) (ap (λ o. placed_write o cause n) is)
    (ends.cut_text (FromPlace facts (Ok (Some (line.Write cause n)))) number [] held held' (IsEncoded facts)
    (set_line (own_in facts) cause n) (λ texts r rest. ap (in_front_of (set_line (own_in facts) cause n)) rest)
    (λ texts. (encoded_from facts (number + 1) texts, refl))
    (subst (λ (o : Option OwnFacts). GrewPartly held held' (set_line o cause n)) is grew))

-- a set that is asked for before its facts
pub missing : (facts : List FactLine) (cause : Cause) (n : ℕ) → None ≡ own_in facts
    → encode_placed facts (line.Write cause n) ≡ Err reason.Missing
missing facts cause n is = ap (λ o. placed_write o cause n) (sym is)

says_of : (l : Numbered) (says : EncodeLine) (r : Result EncodeLine Reason) → Ok says ≡ line_answer l r → r ≡ Ok says
says_of l says (Ok other) h = ap (λ s. Ok s) (cc h)
says_of l says (Err why) h = absurd (cc h)

bad_of : (l : Numbered) (bad : BadLine) (r : Result EncodeLine Reason) → Err bad ≡ line_answer l r
    → (r ≡ Err bad.reason) × (bad ≡ record { line = l.number; reason = bad.reason })
bad_of l bad (Ok other) h = absurd (cc h)
bad_of l bad (Err why) h =
    let same : bad ≡ record { line = l.number; reason = why } = cc h in
    (rw same refl, rw same refl)

-- a line that says something lawful comes to what that comes to
pub said : (line : Numbered) (says : EncodeLine) (number : ℕ) (facts : List FactLine) (held held' : Option (List ℕ))
    (draft' : Draft) (answer : Option Status) → Ok says ≡ line_answer line (encode_line line.text)
    → number ≡ line.number → TakesPlace facts (encode_placed facts says) number held held' draft' answer
    → TakesPlace facts (encode_placed_line facts (encode_line line.text)) line.number held held' draft' answer
said line says number facts held held' draft' answer read number_is takes =
    subst (λ (r : Result EncodeLine Reason).
    TakesPlace facts (encode_placed_line facts r) line.number held held' draft' answer)
    (sym (says_of line says (encode_line line.text) read))
    (subst (λ (n : ℕ). TakesPlace facts (encode_placed facts says) n held held' draft' answer) number_is takes)

-- a line that says nothing lawful is refused
pub unsaid : (line : Numbered) (bad : BadLine) (facts : List FactLine) (held held' : Option (List ℕ))
    (draft' : Draft) (answer : Status) → Err bad ≡ line_answer line (encode_line line.text)
    → EndsWithText held held' (refusal_line (refused.Line bad)) (status.Refused (refused.Line bad)) answer
    → TakesPlace facts (encode_placed_line facts (encode_line line.text)) line.number held held' draft' (Some answer)
unsaid line bad facts held held' draft' answer read h =
    let is : (encode_line line.text ≡ Err bad.reason) × (bad ≡ record { line = line.number; reason = bad.reason }) =
    bad_of line bad (encode_line line.text) read in
    refuses facts (encode_placed_line facts (encode_line line.text)) line.number bad.reason held held' draft'
    (ap (λ r. encode_placed_line facts r) is.0) answer
    (subst (λ (b : BadLine).
    EndsWithText held held' (refusal_line (refused.Line b)) (status.Refused (refused.Line b)) answer) is.1 h)

-- what the command says of a line
pub takes_line : (facts : List FactLine) (line : Numbered) (held held' : Option (List ℕ)) (draft' : Draft)
    (answer : Option Status) → IsLine line.text
    → TakesPlace facts (encode_placed_line facts (encode_line line.text)) line.number held held' draft' answer
    → TakesLine {Seen = List FactLine} IsEncoded (λ seen n texts. 0) (λ next. DraftOf draft' next) facts line.number
    line.text 0 0 held held' answer
takes_line facts line held held' draft' answer says takes =
    by_answer answer
    (subst (λ (p : Result (Option EncodeLine) Reason). TakesPlace facts p line.number held held' draft' answer)
    (sym (judged-line facts line.text says)) takes)
  where
    by_answer : (answer : Option Status)
        → TakesPlace facts (encode_judged facts line.text) line.number held held' draft' answer
        → TakesLine {Seen = List FactLine} IsEncoded (λ seen n texts. 0) (λ next. DraftOf draft' next) facts
        line.number line.text 0 0 held held' answer
    by_answer None t =
        record {
          next = facts_behind facts t.says;
          stands = t.drafted;
          text = written_for facts t.says;
          goes = λ texts r follows.
              by_place facts line.number line.text texts (Ok (Some t.says)) (in_front_of (written_for facts t.says) r)
              t.placed (ap (in_front_of (written_for facts t.says)) follows);
          wrote = t.wrote;
          counted = λ texts. omega arith;
        }
    by_answer (Some answer) t = (
      ends.ends_as (FromPlace facts (encode_judged facts line.text)) (IsEncoded facts) line.number [] line.text held
          held' (λ texts r replied. by_place facts line.number line.text texts (encode_judged facts line.text) r refl
          replied) answer t,
      λ texts. omega arith,
    )
