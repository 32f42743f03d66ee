-- A line that stands whole in the bytes at hand.
use Rattle.std.proofs.Common.{◌≡◌, ℕ, suc, ◌+◌, ◌-◌, ◌<◌, ◌≤◌, Bool, true, List, [], ◌∷◌, ◌++◌, length, drop, get_or, Option, Some, Ok, refl, sym, ap, subst, ◌∙◌, inl, arith}
use Rattle.std.specs.List.{AllByRecursion, slice_range}
use Rattle.std.proofs.lemmas.Bool.{eqb-true, eq-eqb}
use Rattle.std.proofs.lemmas.List.{append-nil, get_or-take, get_or-drop}
use Rattle.call_io.specs.Bytes.{Took}
use Rattle.call_io.proofs.BytesLemmas.{Took-nothing}
use Rattle.memchr.specs.Find.{IsFirstByte, is_byte}
use Rattle.line_input.specs.Characters.{newline}
use Rattle.line_input.specs.Feed.{Feed, IsInner}
use Rattle.line_input.specs.declared.gather.Ending.TheVariants as ending
use Rattle.line_input.specs.inner.Gathering.{GathersLine}
use Rattle.line_input.specs.inner.Lending.{LendsLine}
use Rattle.line_input.proofs.FeedLemmas.{length-slice_range, slice_range-cons, slice_range-split}

-- bytes none of which ends a line
inner_by_place : (xs : List ℕ) → ((k : ℕ) → k < length xs → is_byte newline (get_or xs k 0) ≡ true → ⊥) → AllByRecursion IsInner xs
inner_by_place [] none = tt
inner_by_place (x ∷ xs) none = (λ same. none 0 (omega arith) (eq-eqb x 10 same), inner_by_place xs (λ k inside is. none (suc k) (omega (arith, inside)) is))

-- a byte of a part
get_or-range : (block : List ℕ) (at end k : ℕ) → at + k < end → get_or (slice_range block at end) k 0 ≡ get_or block (at + k) 0
get_or-range block at end k inside = get_or-take (end - at) (drop at block) k 0 (omega (arith, inside)) ∙ get_or-drop at block k 0

-- the line in front of the first newline
pub LendsLine-first : (block : List ℕ) (at until end given len : ℕ) (ended : Bool) → end ≤ length block → until ≤ end → until ≤ at + 513 → (ended ≡ true → at ≡ end)
    → IsFirstByte (is_byte newline) (slice_range block at until) (Some len)
    → let old : Feed = record { pending = slice_range block at end; given = given; ended = ended } in
    let new : Feed = record { pending = slice_range block (at + (len + 1)) end; given = given + (len + 1); ended = ended } in LendsLine old new (slice_range block at (at + len))
LendsLine-first block at until end given len ended within order few stop first =
    let long : len < length (slice_range block at until) = first.0.high in
    let inside : at + len < until = omega (arith, long, length-slice_range block at until (omega (arith, order, within))) in
    let here : length (slice_range block at (at + len)) ≡ len = length-slice_range block at (at + len) (omega (arith, inside, order, within)) ∙ omega arith in
    let byte : get_or block (at + len) 0 ≡ newline = sym (get_or-range block at until len inside) ∙ eqb-true (get_or (slice_range block at until) len 0) newline first.1 in
    let next : slice_range block (at + len) end ≡ newline ∷ slice_range block (at + (len + 1)) end =
    slice_range-cons block (at + len) end (omega (arith, inside, order)) within
    ∙ ap (λ b. b ∷ slice_range block ((at + len) + 1) end) byte
    ∙ ap (λ n. newline ∷ slice_range block n end) (omega arith) in
    record {
      done = λ e. let same : at ≡ end = stop e in absurd (omega (arith, same, inside, order));
      pending = slice_range-split block at end len (omega (arith, inside, order)) within ∙ ap (λ (r : List ℕ). slice_range block at (at + len) ++ r) next;
      given = omega (arith, here);
      ended = refl;
      inner = inner_by_place (slice_range block at (at + len)) (λ k short is.
          let before : k < len = omega (arith, short, here) in
          first.0.before k (omega arith) before (ap (is_byte newline) (get_or-range block at until k (omega (arith, before, inside)) ∙ sym (get_or-range block at (at + len) k (omega (arith, before)))) ∙ is));
      short = omega (arith, here, inside, few);
    }

-- it is gathered, without a read
pub GathersLine-lent : (old new : Feed) (left left' : Option (List ℕ)) (line : List ℕ) → left' ≡ left → LendsLine old new line → GathersLine old new left left' line (Ok ending.Newline)
GathersLine-lent old new left left' line kept lends = record {
  done = lends.done;
  grows = omega (arith, lends.given);
  taken = [];
  draws = record {
    took = subst (λ (r : Option (List ℕ)). Took left r []) (sym kept) (Took-nothing left);
    idle = λ _. refl;
    stays = λ e. lends.ended ∙ e;
    «end» = λ e. inl (sym lends.ended ∙ e);
  };
  inner = lends.inner;
  short = lends.short;
  gathers = (append-nil old.pending ∙ lends.pending, lends.given);
}
