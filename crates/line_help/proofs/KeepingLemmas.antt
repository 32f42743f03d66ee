-- What is kept of an input, piece by piece.
use Rattle.std.proofs.Common.{◌≡◌, ℕ, ◌+◌, ◌≤◌, List, [], ◌++◌, length, take, drop, cond, refl, sym, ap, ◌∙◌, inl, inr, arith, append_assoc, length-append, take_all, le_refl}
use Rattle.std.specs.Prelude.{count_by}
use Rattle.std.proofs.Math.Seq.{drop-length}
use Rattle.std.proofs.lemmas.List.{take-append-drop}
use Rattle.std.proofs.lemmas.List.Sums.{sum_by-append}
use Rattle.line_input.specs.Characters.{is_newline}
use Rattle.line_help.specs.Keeping.{lines_behind, Keeps}

-- counting the lines of two pieces is counting those of both
pub lines_behind-append : (ended : ℕ) (xs ys : List ℕ) → lines_behind (lines_behind ended xs) ys ≡ lines_behind ended (xs ++ ys)
lines_behind-append ended xs ys =
    let both : count_by is_newline (xs ++ ys) ≡ count_by is_newline xs + count_by is_newline ys =
    sum_by-append (λ x. cond (is_newline x) 1 0) xs ys in
    omega arith

-- where all was kept and is kept on
pub keeps_whole : (old new piece text : List ℕ) (before counted after : ℕ) → text ≡ old → counted ≡ lines_behind before []
    → new ≡ text ++ piece → after ≡ counted → Keeps old before new after piece
keeps_whole old new piece text before counted after text_is counted_is new_is after_is =
    record {
      gone = [];
      bytes = sym (new_is ∙ ap (λ l. l ++ piece) text_is);
      lines = after_is ∙ counted_is;
      enough = inl refl;
    }

-- where the front of what was kept goes
pub keeps_rest : (old new piece text : List ℕ) (before counted after count : ℕ) → text ≡ drop count old
    → counted ≡ lines_behind before (take count old) → new ≡ text ++ piece → after ≡ counted → 16384 ≤ length text
    → Keeps old before new after piece
keeps_rest old new piece text before counted after count text_is counted_is new_is after_is least =
    record {
      gone = take count old;
      bytes = ap (λ l. l ++ piece) (sym (take-append-drop count old))
          ∙ (append_assoc (take count old) (drop count old) piece
          ∙ ap (λ l. take count old ++ l) (sym (new_is ∙ ap (λ l. l ++ piece) text_is)));
      lines = after_is ∙ counted_is;
      enough = inr (omega (arith, ap length new_is, length-append text piece, least));
    }

-- where all that was kept goes, and a front of the piece
pub keeps_end : (old new piece front behind emptied still : List ℕ) (before all counted after len skipped : ℕ) → len ≡ length old
    → front ≡ take skipped piece → behind ≡ drop skipped piece → 16384 ≤ length behind → emptied ≡ drop len old
    → all ≡ lines_behind before (take len old) → still ≡ emptied → counted ≡ lines_behind all front
    → new ≡ still ++ behind → after ≡ counted → Keeps old before new after piece
keeps_end old new piece front behind emptied still before all counted after len skipped len_is front_is behind_is least emptied_is all_is still_is counted_is new_is after_is =
    record {
      gone = old ++ front;
      bytes = ap (λ l. old ++ l) (sym piece_is) ∙ (sym (append_assoc old front behind) ∙ ap (λ l. (old ++ front) ++ l) (sym new_is_behind));
      lines = after_is ∙ (counted_is ∙ (ap (λ e. lines_behind e front) (all_is ∙ ap (lines_behind before) taken) ∙ lines_behind-append before old front));
      enough = inr (omega (arith, ap length new_is_behind, least));
    }
  where
    piece_is : front ++ behind ≡ piece
    piece_is = ap (λ l. l ++ behind) front_is ∙ (ap (λ l. take skipped piece ++ l) behind_is ∙ take-append-drop skipped piece)

    taken : take len old ≡ old
    taken = ap (λ n. take n old) len_is ∙ take_all _ _ (le_refl (length old))

    none : emptied ≡ []
    none = emptied_is ∙ (ap (λ n. drop n old) len_is ∙ drop-length old)

    new_is_behind : new ≡ behind
    new_is_behind = new_is ∙ ap (λ l. l ++ behind) (still_is ∙ none)
