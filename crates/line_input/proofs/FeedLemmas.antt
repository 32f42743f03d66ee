-- What a block of bytes says of the bytes that are pending, and how takings from a source compose.
use Rattle.std.proofs.Common.{◌≡◌, ℕ, ◌+◌, ◌-◌, ◌<◌, ◌≤◌, ◌⊎◌, Bool, true, false, List, [], ◌∷◌, ◌++◌, length, take, drop, get_or, eqb, Option, Some, None, refl, sym, ap, ◌∙◌, subst, inl, inr, arith, length-take, length-drop, drop-cons, add-one, suc, Ok}
use Rattle.std.proofs.lemmas.List.{append-nil, drop-drop, take-take, take-append-drop, take_at, take_all}
use Rattle.std.proofs.lemmas.List.Sums.{prefix_len-le-length}
use Rattle.std.proofs.Math.Seq.{take-append-add}
use Rattle.std.specs.Prelude.{cond, not, min, ◌==◌}
use Rattle.std.proofs.lemmas.Bool.{eqb-true, eq-eqb, false≢true, cases_lt}
use Rattle.std.specs.List.{slice_range, position_or_len, AllByRecursion}
use Rattle.std.specs.Io.KnownBytes.{IsAtEnd}
use Rattle.call_io.specs.Bytes.{Took, EndsExactly}
use Rattle.call_io.proofs.BytesLemmas.{Took-nothing, Took-append}
use Rattle.line_input.specs.Characters.{is_newline}
use Rattle.line_input.specs.Feed.{Feed, Draws, IsInner}
use Rattle.line_input.specs.Giving.{GivesRun, run_of, NextByte}
use Rattle.line_input.specs.inner.Gathering.{Refills, KeepsFeed}

-- what is left of a part
pub slice_range-empty : (xs : List ℕ) (at end : ℕ) → end ≤ at → slice_range xs at end ≡ []
slice_range-empty xs at end past = let e : end - at ≡ 0 = omega arith in ap (λ n. take n (drop at xs)) e

pub length-slice_range : (xs : List ℕ) (at end : ℕ) → end ≤ length xs → length (slice_range xs at end) ≡ end - at
length-slice_range xs at end within = simp (length-take, length-drop) (omega arith)

-- a read of no bytes, where the source ended, left nothing
pub IsAtEnd-from_read : (left left' : Option (List ℕ)) (count : ℕ) → count ≡ 0 → EndsExactly left count → Took left left' [] → IsAtEnd left'
IsAtEnd-from_read None None count none ends took = tt
IsAtEnd-from_read None (Some ys) count none ends took = let no : ⊥ = cc in absurd no
IsAtEnd-from_read (Some xs) None count none ends took = tt
IsAtEnd-from_read (Some xs) (Some ys) count none ends took = let e : xs ≡ ys = cc in sym e ∙ ends.0 none

-- nothing is read where bytes are pending, or the source ended
pub Refills-idle : (block : List ℕ) (at end given : ℕ) (ended : Bool) (left : Option (List ℕ))
    → at ≤ end → end ≤ length block → (ended ≡ true → at ≡ end) → (at < end) ⊎ (ended ≡ true)
    → let feed : Feed = record { pending = slice_range block at end; given = given; ended = ended } in Refills feed feed left left
Refills-idle block at end given ended left order within stop why = record {
  taken = [];
  draws = record {
    took = Took-nothing left;
    idle = λ _. refl;
    stays = λ e. e;
    «end» = λ e. inl e;
  };
  done = λ e. let same : at ≡ end = stop e in slice_range-empty block at end (omega arith);
  pending = sym (append-nil (slice_range block at end));
  given = refl;
  empty = λ none. let len : end - at ≡ 0 = sym (length-slice_range block at end within) ∙ ap length none in elim why [ inl more ↦ absurd (omega arith) | inr e ↦ e ];
}

-- a block was read where no byte was pending
pub Refills-read : (block : List ℕ) (count : ℕ) (old : Feed) (left left' : Option (List ℕ))
    → old.pending ≡ [] → old.ended ≡ false → count ≤ length block → EndsExactly left count → Took left left' (take count block)
    → Refills old (record { pending = slice_range block 0 count; given = old.given; ended = eqb count 0 }) left left'
Refills-read block count old left left' none opened within ends took = record {
  taken = take count block;
  draws = record {
    took = took;
    idle = λ e. absurd (false≢true (sym opened ∙ e));
    stays = λ e. absurd (false≢true (sym opened ∙ e));
    «end» = λ e. let z : count ≡ 0 = eqb-true count 0 e in inr (IsAtEnd-from_read left left' count z ends (subst (λ n. Took left left' (take n block)) z took));
  };
  done = λ e. slice_range-empty block 0 count (let z : count ≡ 0 = eqb-true count 0 e in omega arith);
  pending = let all : count - 0 ≡ count = omega arith in ap (λ n. take n block) all ∙ ap (λ r. r ++ take count block) (sym none);
  given = refl;
  empty = λ e. eq-eqb count 0 (let len : count - 0 ≡ 0 = sym (length-slice_range block 0 count within) ∙ ap length e in omega arith);
}

-- nothing was taken
pub KeepsFeed-same : (feed : Feed) (left left' : Option (List ℕ)) → feed.pending ≡ [] → feed.ended ≡ false → left' ≡ left → KeepsFeed feed feed left left'
KeepsFeed-same feed left left' none alive kept = record {
  draws = record { took = subst (λ r. Took left r []) (sym kept) (Took-nothing left); idle = λ _. refl; stays = λ e. e; «end» = λ e. inl e };
  done = λ _. none;
  same = refl;
  none = none;
  alive = alive;
}

-- a part, by its first element
pub slice_range-cons : (xs : List ℕ) (at end : ℕ) → at < end → end ≤ length xs → slice_range xs at end ≡ get_or xs at 0 ∷ slice_range xs (at + 1) end
slice_range-cons xs at end more within =
    let inside : at < length xs = omega arith in
    let count : end - at ≡ suc (end - (at + 1)) = omega arith in
    ap (λ n. take n (drop at xs)) count ∙ ap (λ (r : List ℕ). take (suc (end - (at + 1))) r) (drop-cons xs at 0 inside) ∙ ap (λ n. get_or xs at 0 ∷ take (end - (at + 1)) (drop n xs)) (sym (add-one at))

-- the first byte that is pending is given
pub NextByte-given : (block : List ℕ) (at end given : ℕ) (ended : Bool) (old : Feed) (left left' : Option (List ℕ))
    → Refills old (record { pending = slice_range block at end; given = given; ended = ended }) left left'
    → at < end → end ≤ length block → (ended ≡ true → at ≡ end)
    → NextByte old (record { pending = slice_range block (at + 1) end; given = given + 1; ended = ended }) left left' (Ok (Some (get_or block at 0)))
NextByte-given block at end given ended old left left' filled more within stop = record {
  taken = filled.taken;
  draws = record {
    took = filled.draws.took;
    idle = filled.draws.idle;
    stays = filled.draws.stays;
    «end» = filled.draws.«end»;
  };
  done = λ e. let same : at ≡ end = stop e in absurd (omega arith);
  grows = omega (arith, filled.given);
  gives = (sym filled.pending ∙ slice_range-cons block at end more within, ap (λ n. n + 1) filled.given);
}

-- nothing was taken at first
pub Draws-nothing : (feed : Feed) (left : Option (List ℕ)) → Draws feed feed left left []
Draws-nothing feed left = record { took = Took-nothing left; idle = λ _. refl; stays = λ e. e; «end» = λ e. inl e }

IsAtEnd-stays : (left left' : Option (List ℕ)) → Took left left' [] → IsAtEnd left → IsAtEnd left'
IsAtEnd-stays None None took end = tt
IsAtEnd-stays None (Some ys) took end = let no : ⊥ = cc in absurd no
IsAtEnd-stays (Some xs) None took end = tt
IsAtEnd-stays (Some xs) (Some ys) took end = cc

-- takings one after another
pub Draws-append : (old mid new : Feed) (left between left' : Option (List ℕ)) (s t : List ℕ)
    → Draws old mid left between s → Draws mid new between left' t → Draws old new left left' (s ++ t)
Draws-append old mid new left between left' s t first second = record {
  took = Took-append left between left' s t first.took second.took;
  idle = λ e. let none : s ≡ [] = first.idle e in let none' : t ≡ [] = second.idle (first.stays e) in rw (none, none') refl;
  stays = λ e. second.stays (first.stays e);
  «end» = λ e. elim (second.«end» e) [
    | inr at ↦ inr at
    | inl m ↦ elim (first.«end» m) [
      | inl o ↦ inl o
      | inr at ↦ inr (IsAtEnd-stays between left' (subst (λ (r : List ℕ). Took between left' r) (second.idle m) second.took) at)
    ]
  ];
}

-- ---- bytes that are given on together

inner_at_first : (bytes : List ℕ) → AllByRecursion IsInner (take (position_or_len (λ b. b == 10) bytes) bytes)
inner_at_first [] = tt
inner_at_first (b ∷ bytes) =
    elim (b == 10) as (λ t. (b == 10) ≡ t → AllByRecursion IsInner (take (cond (not t) (1 + position_or_len (λ c. c == 10) bytes) 0) (b ∷ bytes))) [
      | true ↦ λ e. tt
      | false ↦ λ e. let next : suc (position_or_len (λ c. c == 10) bytes) ≡ 1 + position_or_len (λ c. c == 10) bytes = omega arith in
          subst (λ n. AllByRecursion IsInner (take n (b ∷ bytes))) next ((λ same. false≢true (sym e ∙ eq-eqb b 10 same)), inner_at_first bytes)
    ] refl

-- the place of the first newline among so many bytes, or how many these are
pub run_place : (bytes : List ℕ) (most m : ℕ) → m ≡ min (length bytes) most → position_or_len is_newline (take m bytes) ≡ position_or_len is_newline (take most bytes)
run_place bytes most m least = elim (cases_lt most (length bytes)) as (λ _. position_or_len is_newline (take m bytes) ≡ position_or_len is_newline (take most bytes)) [
  | inl below ↦ let e : m ≡ most = omega (arith, least, below) in ap (λ k. position_or_len is_newline (take k bytes)) e
  | inr past ↦ ap (position_or_len is_newline) (take_all m bytes (omega (arith, least, past)) ∙ sym (take_all most bytes (omega (arith, past))))
]

pub slice_range-split : (block : List ℕ) (at end len : ℕ) → at + len ≤ end → end ≤ length block → slice_range block at end ≡ slice_range block at (at + len) ++ slice_range block (at + len) end
slice_range-split block at end len within most =
    let xs = drop at block in
    let first : (at + len) - at ≡ len = omega arith in
    let whole : end - at ≡ len + (end - (at + len)) = omega arith in
    ap (λ n. take n xs) whole ∙ take_two len (end - (at + len)) xs (omega (arith, length-drop at block))
    ∙ ap (λ (l : List ℕ). take len xs ++ take (end - (at + len)) l) (drop-drop len at block)
    ∙ ap (λ n. take n xs ++ slice_range block (at + len) end) (sym first)
  where
    take_two : (m n : ℕ) (xs : List ℕ) → m + n ≤ length xs → take (m + n) xs ≡ take m xs ++ take n (drop m xs)
    take_two m n xs few =
        ap (λ (l : List ℕ). take (m + n) l) (sym (take-append-drop m xs)) ∙ ap (λ k. take (k + n) (take m xs ++ drop m xs)) (sym (length-take m xs ∙ omega arith)) ∙ take-append-add (take m xs) (drop m xs) n

pub run_is : (block : List ℕ) (at end given len room : ℕ) (ended : Bool) → at ≤ end → end ≤ length block → len ≡ position_or_len (λ b. b == 10) (take (min room (16777216 - given)) (slice_range block at end))
    → let old : Feed = record { pending = slice_range block at end; given = given; ended = ended } in slice_range block at (at + len) ≡ run_of old room
run_is block at end given len room ended order within is =
    let most = min room (16777216 - given) in
    let pending = slice_range block at end in
    let here : len ≤ length (take most pending) = omega (arith, is, prefix_len-le-length (λ b. not (b == 10)) (take most pending)) in
    let long : length (take most pending) ≡ min most (length pending) = length-take most pending in
    let few : len ≤ most = omega (arith, here, long) in
    let inside : len ≤ end - at = omega (arith, here, long, length-slice_range block at end within) in
    let split = slice_range-split block at end len (omega (arith, inside, order)) within in
    let run_long : length (slice_range block at (at + len)) ≡ len = length-slice_range block at (at + len) (omega (arith, inside, order, within)) ∙ omega arith in
    sym (ap (take len) split ∙ take_at (slice_range block at (at + len)) (slice_range block (at + len) end) len run_long)
    ∙ sym (take-take len most pending few)
    ∙ ap (λ n. take n (take most pending)) is

pub GivesRun-range : (block : List ℕ) (at end given len room : ℕ) (ended : Bool) → at ≤ end → end ≤ length block → len ≤ length (slice_range block at end) → len ≡ position_or_len (λ b. b == 10) (take (min room (16777216 - given)) (slice_range block at end))
    → let old : Feed = record { pending = slice_range block at end; given = given; ended = ended } in
    let new : Feed = record { pending = slice_range block (at + len) end; given = given + len; ended = ended } in GivesRun old new (run_of old room)
GivesRun-range block at end given len room ended order within few is =
    let fits : at + len ≤ end = omega (arith, few, order, length-slice_range block at end within) in
    let run = run_is block at end given len room ended order within is in
    let long : length (slice_range block at (at + len)) ≡ len = length-slice_range block at (at + len) (omega (arith, fits, within)) ∙ omega arith in
    record {
      pending = slice_range-split block at end len fits within ∙ ap (λ (l : List ℕ). l ++ slice_range block (at + len) end) run;
      given = omega (arith, long, ap length run);
      ended = refl;
      inner = inner_at_first (take (min room (16777216 - given)) (slice_range block at end));
    }
