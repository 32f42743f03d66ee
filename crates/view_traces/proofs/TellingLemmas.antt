-- What is told of a line behind others, and what is kept of it.
use Rattle.std.proofs.Common.{◌≡◌, ℕ, ◌+◌, Bool, List, [], ◌∷◌, ◌++◌, length, take, Option, Some, Result, Err, refl, sym, ap, ◌∙◌}
use Rattle.line_input.specs.Lines.{is_comment, line_fault}
use Rattle.line_input.specs.declared.reason.Reason.{Reason}
use Rattle.line_input.specs.declared.reason.Reason.TheVariants as reason
use Rattle.trace_model.specs.declared.entry.Entry.{Entry}
use Rattle.trace_text.specs.EntryLines.{entry_of}
use Rattle.view_lines.specs.Fault.{most_kept}
use Rattle.view_lines.specs.Told.{Puts}
use Rattle.view_lines.proofs.KeptLemmas.{kept_alike}
use Rattle.view_traces.specs.Told.{IsLineTold, entry_after, entry_told, judged_by, judged_entry, tick_after, tick_behind}

-- a line that is too long is refused for that, whatever else it says
long_entry : (tick : ℕ) (line : List ℕ) → line_fault line ≡ Some reason.LineLong → judged_entry tick line ≡ Err reason.LineLong
long_entry tick line long =
    ap (λ (z : Option Reason). judged_by z (is_comment line) (entry_after tick (entry_of line))) long

-- of what is kept of a line the same is read
kept_entry : (tick : ℕ) (line : List ℕ) → judged_entry tick (take most_kept line) ≡ judged_entry tick line
kept_entry tick line =
    kept_alike (judged_entry tick) (λ text other one two. long_entry tick text one ∙ sym (long_entry tick other two)) line

-- the tick behind one more line
pub one_more : (tick : ℕ) (lines : List (List ℕ)) (line : List ℕ)
    → tick_behind tick (lines ++ line ∷ []) ≡ tick_after (tick_behind tick lines) (judged_entry (tick_behind tick lines) line)
one_more tick [] line = refl
one_more tick (first ∷ lines) line = one_more (tick_after tick (judged_entry tick first)) lines line

module _ (before : List (List ℕ)) (whole line : List ℕ) (tick number : ℕ) (judged : Result (Option Entry) Reason)
    (stands : tick ≡ tick_behind 0 before) (kept : line ≡ take most_kept whole) (is : judged ≡ judged_entry tick line) where
  pub same_entry : judged ≡ judged_entry (tick_behind 0 before) whole
  same_entry =
      is ∙ (ap (λ (n : ℕ). judged_entry n line) stands
      ∙ (ap (judged_entry (tick_behind 0 before)) kept ∙ kept_entry (tick_behind 0 before) whole))

  pub line_put : (old new : List ℕ) (refused : Bool) → number ≡ length before + 1
      → Puts (λ t. t ≡ entry_told number judged) old new refused → Puts (IsLineTold before whole) old new refused
  line_put old new refused counts puts = record {
    text = puts.text;
    told =
        puts.told ∙ (ap (λ (n : ℕ). entry_told n judged) counts ∙ ap (entry_told (length before + 1)) same_entry);
    grew = puts.grew;
  }

  pub tick_kept : (new : ℕ) → new ≡ tick_after tick judged → new ≡ tick_behind 0 (before ++ whole ∷ [])
  tick_kept new after =
      after ∙ (ap (λ (n : ℕ). tick_after n judged) stands
      ∙ (ap (tick_after (tick_behind 0 before)) same_entry ∙ sym (one_more 0 before whole)))
