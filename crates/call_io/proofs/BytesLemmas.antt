-- How growths of the bytes told compose, and how takings do.
use Rattle.std.proofs.Common.{◌≡◌, ℕ, List, [], ◌++◌, Option, None, Some, refl, sym, subst, ap, ◌∙◌, append_assoc, ◌+◌, ◌-◌, ◌≤◌, length, take, drop, take-add, length-drop, arith}
use Rattle.std.proofs.lemmas.List.{append-nil, take-append-drop}
use Rattle.std.proofs.lemmas.Slice.{between_to_end}
use Rattle.std.specs.Io.KnownBytes.{append_known, prepend_known}
use Rattle.call_io.specs.Bytes.{Grew, GrewPartly, Took}

pub append_known-append : (told : Option (List ℕ)) (s t : List ℕ) → append_known (append_known told s) t ≡ append_known told (s ++ t)
append_known-append None s t = refl
append_known-append (Some xs) s t = ap Some (append_assoc xs s t)

pub prepend_known-append : (s t : List ℕ) (told : Option (List ℕ)) → prepend_known s (prepend_known t told) ≡ prepend_known (s ++ t) told
prepend_known-append s t None = refl
prepend_known-append s t (Some xs) = ap Some (sym (append_assoc s t xs))

-- what is unchanged grew by nothing
pub Grew-nothing : (told : Option (List ℕ)) → Grew told told []
Grew-nothing None = refl
Grew-nothing (Some xs) = ap Some (sym (append-nil xs))

-- growths one after another
pub Grew-append : (old mid new : Option (List ℕ)) (s t : List ℕ) → Grew old mid s → Grew mid new t → Grew old new (s ++ t)
Grew-append old mid new s t first second = second ∙ ap (λ told. append_known told t) first ∙ append_known-append old s t

-- what is unchanged grew by a front of anything
pub GrewPartly-nothing : (told : Option (List ℕ)) (s : List ℕ) → GrewPartly told told s
GrewPartly-nothing told s = ([], s, refl, Grew-nothing told)

-- a growth is partly a growth
pub GrewPartly-whole : (old new : Option (List ℕ)) (s : List ℕ) → Grew old new s → GrewPartly old new s
GrewPartly-whole old new s grew = (s, [], append-nil s, grew)

-- a growth, and then a part of another
pub GrewPartly-after : (old mid new : Option (List ℕ)) (s t : List ℕ) → Grew old mid s → GrewPartly mid new t → GrewPartly old new (s ++ t)
GrewPartly-after old mid new s t grew partly =
    (s ++ partly.0, partly.1, append_assoc s partly.0 partly.1 ∙ ap (λ r. s ++ r) partly.2, Grew-append old mid new s partly.0 grew partly.3)

-- a part of a list is a part of every list that begins with it
pub GrewPartly-longer : (old new : Option (List ℕ)) (s t : List ℕ) → GrewPartly old new s → GrewPartly old new (s ++ t)
GrewPartly-longer old new s t partly =
    (partly.0, partly.1 ++ t, sym (append_assoc partly.0 partly.1 t) ∙ ap (λ r. r ++ t) partly.2, partly.3)

-- what is unchanged lost nothing
pub Took-nothing : (told : Option (List ℕ)) → Took told told []
Took-nothing None = refl
Took-nothing (Some xs) = refl

-- takings one after another
pub Took-append : (old mid new : Option (List ℕ)) (s t : List ℕ) → Took old mid s → Took mid new t → Took old new (s ++ t)
Took-append old mid new s t first second = first ∙ ap (λ told. prepend_known s told) second ∙ prepend_known-append s t new

-- the rest of a piece, as it is sliced
slice_rest : (piece : List ℕ) (n : ℕ) → take (length piece - n) (drop n piece) ≡ drop n piece
slice_rest piece n = between_to_end piece n (length piece) (omega arith)

-- a write that goes on after the first n bytes of a piece
pub Grew-take : (old mid new : Option (List ℕ)) (piece : List ℕ) (n m : ℕ)
    → n ≤ length piece
    → m ≤ length (take (length piece - n) (drop n piece))
    → Grew old mid (take n piece)
    → Grew mid new (take m (take (length piece - n) (drop n piece)))
    → (n + m ≤ length piece) × Grew old new (take (n + m) piece)
Grew-take old mid new piece n m within more first second =
    let rest : length (take (length piece - n) (drop n piece)) ≡ length piece - n = ap length (slice_rest piece n) ∙ length-drop n piece in
    let next : Grew mid new (take m (drop n piece)) = subst (λ (r : List ℕ). Grew mid new (take m r)) (slice_rest piece n) second in (
      omega arith,
      subst (λ (r : List ℕ). Grew old new r) (sym (take-add n m piece)) (Grew-append old mid new (take n piece) (take m (drop n piece)) first next),
    )

-- a write that stopped behind the first n bytes of a piece
pub GrewPartly-take : (old mid new : Option (List ℕ)) (piece : List ℕ) (n : ℕ) → Grew old mid (take n piece) → new ≡ mid → GrewPartly old new piece
GrewPartly-take old mid new piece n grew kept = (take n piece, drop n piece, take-append-drop n piece, kept ∙ grew)
