-- Pieces of a text, one behind the other.
use Rattle.std.proofs.Common.{◌≡◌, ℕ, ◌+◌, ◌<◌, Bor, OnOk, Result, Ok, Err, List, [], ◌∷◌, ◌++◌, map, take, length, slice_index_or, sym, ap, ◌∙◌, append_assoc, arith, zero, suc}
use Rattle.std.specs.List.{concat}
use Rattle.std.proofs.lemmas.List.{append-nil}

abbrev pub texts_of : List (Bor (List ℕ)) → List (List ℕ)
texts_of pieces = map (λ piece. piece.now) pieces

-- one piece more
next_piece : (i : ℕ) (pieces : List (Bor (List ℕ))) (d : Bor (List ℕ)) → i < length pieces
    → concat (texts_of (take (suc i) pieces)) ≡ concat (texts_of (take i pieces)) ++ (slice_index_or pieces i d).now
next_piece i [] d few = absurd (omega arith)
next_piece zero (piece ∷ pieces) d few = append-nil piece.now
next_piece (suc i) (piece ∷ pieces) d few =
    ap (λ text. piece.now ++ text) (next_piece i pieces d (omega arith))
    ∙ sym (append_assoc piece.now (concat (texts_of (take i pieces))) (slice_index_or pieces i d).now)

-- a piece that comes behind those before it
pub one_more : (initial text new : List ℕ) (pieces : List (Bor (List ℕ))) (i : ℕ) (d : Bor (List ℕ)) → i < length pieces
    → text ≡ initial ++ concat (texts_of (take i pieces)) → new ≡ text ++ (slice_index_or pieces i d).now
    → new ≡ initial ++ concat (texts_of (take (i + 1) pieces))
one_more initial text new pieces i d few before comes =
    let n : suc i ≡ i + 1 = omega arith in
    let piece : List ℕ = (slice_index_or pieces i d).now in
    comes
    ∙ ap (λ t. t ++ piece) before
    ∙ append_assoc initial (concat (texts_of (take i pieces))) piece
    ∙ ap (λ t. initial ++ t) (sym (next_piece i pieces d few))
    ∙ ap (λ k. initial ++ concat (texts_of (take k pieces))) n

-- three texts behind one, put there one by one
pub three : {E : Type 0} (r : Result (Unit {0}) E) (old x y z a b c : List ℕ) → a ≡ old ++ x → b ≡ a ++ y
    → OnOk r (c ≡ b ++ z) → OnOk r (c ≡ old ++ concat (x ∷ y ∷ z ∷ []))
three (Err e) old x y z a b c first second third = tt
three (Ok u) old x y z a b c first second third =
    third
    ∙ ap (λ text. text ++ z) (second ∙ ap (λ text. text ++ y) first)
    ∙ append_assoc (old ++ x) y z
    ∙ append_assoc old x (y ++ z)
    ∙ ap (λ text. old ++ (x ++ (y ++ text))) (sym (append-nil z))

-- and four
pub four : {E : Type 0} (r : Result (Unit {0}) E) (old x y z w a b c d : List ℕ) → a ≡ old ++ x → b ≡ a ++ y
    → c ≡ b ++ z → OnOk r (d ≡ c ++ w) → OnOk r (d ≡ old ++ concat (x ∷ y ∷ z ∷ w ∷ []))
four (Err e) old x y z w a b c d first second third fourth = tt
four (Ok u) old x y z w a b c d first second third fourth =
    fourth
    ∙ ap (λ text. text ++ w) (third ∙ ap (λ text. text ++ z) (second ∙ ap (λ text. text ++ y) first))
    ∙ append_assoc ((old ++ x) ++ y) z w
    ∙ append_assoc (old ++ x) y (z ++ w)
    ∙ append_assoc old x (y ++ (z ++ w))
    ∙ ap (λ text. old ++ (x ++ (y ++ (z ++ text)))) (sym (append-nil w))
