-- What is told of a line behind others.
use Rattle.std.proofs.Common.{◌≡◌, ℕ, ◌+◌, Bool, List, length, take, IfOk, Option, Some, Result, Ok, Err, sym, ap, subst, ◌∙◌}
use Rattle.line_input.specs.Lines.{is_comment, line_fault}
use Rattle.line_input.specs.Words.{only_word_of, words}
use Rattle.line_input.specs.declared.reason.Reason.{Reason}
use Rattle.line_input.specs.declared.reason.Reason.TheVariants as reason
use Rattle.set_commands.specs.Decode.{judged_by, judged_set, octets_of_word}
use Rattle.set_objects.specs.Told.{IsLineTold, PutsLine}
use Rattle.view_lines.specs.Fault.{most_kept}
use Rattle.view_lines.specs.Told.{Puts, Told}
use Rattle.view_lines.proofs.KeptLemmas.{kept_alike}
use Rattle.view_sets.specs.Told.{IsSetTold}

-- a line that is too long is refused for that, whatever else it says
long_set : (line : List ℕ) → line_fault line ≡ Some reason.LineLong → judged_set line ≡ Err reason.LineLong
long_set line long =
    ap (λ (z : Option Reason). judged_by z (is_comment line) (octets_of_word (only_word_of (words line)))) long

module _ (before : List (List ℕ)) (whole line : List ℕ) (number : ℕ) (counts : number ≡ length before + 1)
    (kept : line ≡ take most_kept whole) where
  same_set : judged_set line ≡ judged_set whole
  same_set =
      ap judged_set kept
      ∙ kept_alike judged_set (λ text other one two. long_set text one ∙ sym (long_set other two)) whole

  -- of what is kept of a line the same is told
  pub line_put : (old new : List ℕ) (refused : Bool) → PutsLine number (judged_set line) old new refused
      → Puts (IsSetTold before whole) old new refused
  line_put old new refused puts =
      let t : Told = record { text = puts.object; refused = refused } in record {
        text = puts.object;
        told =
            subst (λ (n : ℕ). IsLineTold n (judged_set whole) t) counts
            (subst (λ z. IsLineTold number z t) same_set puts.told);
        grew = puts.grew;
      }

  pub answer_put : {E : Type 0} (r : Result Bool E) (old new : List ℕ)
      → IfOk r (λ refused. PutsLine number (judged_set line) old new refused)
      → IfOk r (λ refused. Puts (IsSetTold before whole) old new refused × Unit {0})
  answer_put (Ok refused) old new puts = (line_put old new refused puts, tt)
  answer_put (Err e) old new puts = tt
