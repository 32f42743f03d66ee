-- Where a source tells its bytes, and these are within what an input may have, an answer that isn't cut short is the
-- whole reply to them.
use Rattle.std.specs.Prelude.{◌≡◌, ℕ, ◌+◌, ◌≤◌, ◌⊎◌, true, List, [], ◌++◌, length, Option, Some, None}
use Rattle.std.specs.Io.KnownBytes.{IsAtEnd, prepend_known}
use Rattle.std.proofs.Common.{sym, ◌∙◌, ap, refl, subst, append_assoc, inl, inr, arith, length-append}
use Rattle.std.proofs.lemmas.List.{append-nil}
use Rattle.std.proofs.lemmas.Bool.{false≢true}
use Rattle.line_input.specs.Inputs.{RunsOver}
use Rattle.line_input.specs.Lines.{IsWhole, most_bytes}
use Rattle.command_base.specs.Outcome.{IsRead, IsSettled, IsUncut, IsUnrefused, IsWholeReply, Outcome, Streams}
use Rattle.command_base.specs.Refusals.{Reply, line_of}
use Rattle.command_base.specs.declared.status.Status.{Status}
use Rattle.command_base.specs.declared.status.Status.TheVariants as status

-- what is left of bytes of which these were taken
record Left (left : Option (List ℕ)) (bytes input : List ℕ) : Type 0 where
  rest : List ℕ
  is : left ≡ Some rest
  whole : bytes ≡ input ++ rest

left_of : (left : Option (List ℕ)) (bytes input : List ℕ) → Some bytes ≡ prepend_known input left
    → Left left bytes input
left_of None bytes input h = absurd (cc)
left_of (Some rest) bytes input h = record { rest = rest; is = refl; whole = cc }

-- all of them
all_of : (left : Option (List ℕ)) (bytes input : List ℕ) → Some bytes ≡ prepend_known input left → IsAtEnd left
    → input ≡ bytes
all_of left bytes input h ended =
    let l : Left left bytes input = left_of left bytes input h in
    let none : l.rest ≡ [] = subst IsAtEnd l.is ended in
    sym (l.whole ∙ ap (λ r. input ++ r) none ∙ append-nil input)

module _ (replies : List ℕ → Reply → Type 0) (most : List ℕ → ℕ) (old new : Streams) (bytes : List ℕ)
    (told : old.left ≡ Some bytes) (few : length bytes ≤ most_bytes) where
  -- what settles the reply to what was taken settles it for all bytes
  decided : (number : ℕ) (input : List ℕ) (r : Reply) → old.left ≡ prepend_known input new.left → replies input r
      → IsSettled replies number input r ⊎ IsWhole new.left input → replies bytes r
  decided number input r took replied (inl s) =
      let l : Left new.left bytes input = left_of new.left bytes input (sym told ∙ took) in
      subst (λ (b : List ℕ). replies b r)
      (sym (l.whole ∙ ap (λ b. b ++ l.rest) s.split ∙ append_assoc s.front s.rest l.rest)) (s.holds (s.rest ++ l.rest))
  decided number input r took replied (inr w) =
      subst (λ (b : List ℕ). replies b r) (all_of new.left bytes input (sym told ∙ took) w.«end») replied

  -- an input that is too long isn't within what it may have
  too_many : (input : List ℕ) → old.left ≡ prepend_known input new.left → RunsOver (IsUnrefused replies) input → ⊥
  too_many input took over =
      let l : Left new.left bytes input = left_of new.left bytes input (sym told ∙ took) in
      let taken : length bytes ≡ length input + length l.rest = ap length l.whole ∙ length-append input l.rest in
      let parts : length input ≡ length over.front + (length over.unended + length over.rest) =
      ap length over.split
      ∙ (length-append over.front (over.unended ++ over.rest)
      ∙ ap (λ n. length over.front + n) (length-append over.unended over.rest)) in
      let full : length over.front + length over.unended ≡ most_bytes =
      sym (length-append over.front over.unended) ∙ over.full in
      absurd (omega (arith, taken, parts, full, over.beyond, few))

  pub whole_reply : (answer : Status) → IsUncut answer → Outcome replies most true old new answer
      → IsWholeReply replies bytes old.held new.held answer
  whole_reply status.Done uncut o =
      record {
        reply = o.1;
        replied =
            subst (λ (b : List ℕ). replies b o.1)
            (all_of new.left bytes o.0 (sym told ∙ o.2.took) (at_end o.0 o.4)) o.2.replied;
        status = o.3;
        wrote = o.2.wrote;
      }
    where
      at_end : (input : List ℕ) → IsRead true new.left input → IsAtEnd new.left
      at_end input (inl w) = w.«end»
      at_end input (inr none) = absurd (false≢true (sym none.0))
  whole_reply (status.Refused why) uncut o =
      record {
        reply = o.1;
        replied = decided (line_of why) o.0 o.1 o.2.took o.2.replied o.4;
        status = o.3;
        wrote = o.2.wrote;
      }
  whole_reply (status.Broken place rule) uncut o =
      record {
        reply = o.1;
        replied = decided place o.0 o.1 o.2.took o.2.replied o.4;
        status = o.3;
        wrote = o.2.wrote;
      }
  whole_reply status.TooLong uncut o = absurd (too_many o.0 o.1.took o.2)
  whole_reply status.Usage uncut o = absurd uncut
  whole_reply status.ReadFault uncut o = absurd uncut
  whole_reply status.WriteFault uncut o = absurd uncut
  whole_reply status.Memory uncut o = absurd uncut
