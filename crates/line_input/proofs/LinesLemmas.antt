-- Where the lines of bytes end.
use Rattle.std.proofs.Common.{◌≡◌, ℕ, ◌<◌, ◌≤◌, true, false, eqb, ltb, List, [], ◌∷◌, ◌++◌, length, Some, refl, ap, ◌∙◌, arith}
use Rattle.std.specs.List.{AllByRecursion, onto_first}
use Rattle.std.proofs.lemmas.Bool.{eqb-true, false_from_ne_true, lt-ltb}
use Rattle.line_input.specs.Feed.{IsInner}
use Rattle.line_input.specs.Lines.{lines_of, line_fault}
use Rattle.line_input.specs.declared.reason.Reason.TheVariants as reason

inner_test : (b : ℕ) → IsInner b → eqb b 10 ≡ false
inner_test b inner = false_from_ne_true (eqb b 10) (λ e. inner (eqb-true b 10 e))

lines_of-inner : (b : ℕ) (bytes : List ℕ) → IsInner b → lines_of (b ∷ bytes) ≡ onto_first b (lines_of bytes)
unfolding lines_of
lines_of-inner b bytes inner = rw (inner_test b inner) refl

-- a line that a newline ends
pub lines_of-line : (text more : List ℕ) → AllByRecursion IsInner text → lines_of (text ++ 10 ∷ more) ≡ text ∷ lines_of more
unfolding lines_of
lines_of-line [] more all = refl
lines_of-line (x ∷ xs) more all = lines_of-inner x (xs ++ 10 ∷ more) all.0 ∙ ap (onto_first x) (lines_of-line xs more all.1)

-- a last line that lacks its newline
pub lines_of-last : (text : List ℕ) → AllByRecursion IsInner text → 0 < length text → lines_of text ≡ text ∷ []
unfolding lines_of
lines_of-last [] all some = absurd (omega arith)
lines_of-last (x ∷ []) all some = lines_of-inner x [] all.0
lines_of-last (x ∷ y ∷ xs) all some = lines_of-inner x (y ∷ xs) all.0 ∙ ap (onto_first x) (lines_of-last (y ∷ xs) all.1 (omega arith))

pub lines_of-nil : lines_of [] ≡ []
unfolding lines_of
lines_of-nil = refl

-- a line that goes on
onto_first-front : (x : ℕ) (parts : List (List ℕ)) → (text : List ℕ) × (rest : List (List ℕ)) × (onto_first x parts ≡ text ∷ rest) × (1 ≤ length text)
onto_first-front x [] = (x ∷ [], [], refl, omega arith)
onto_first-front x (part ∷ parts) = (x ∷ part, parts, refl, omega arith)

-- a line has at least the bytes before its newline
pub lines_of-long : (text more : List ℕ) → AllByRecursion IsInner text → 0 < length text
    → (line : List ℕ) × (rest : List (List ℕ)) × (lines_of (text ++ more) ≡ line ∷ rest) × (length text ≤ length line)
lines_of-long [] more all some = absurd (omega arith)
lines_of-long (x ∷ []) more all some =
    let front = onto_first-front x (lines_of more) in (front.0, front.1, lines_of-inner x more all.0 ∙ front.2, front.3)
lines_of-long (x ∷ y ∷ xs) more all some =
    let tail = lines_of-long (y ∷ xs) more all.1 (omega arith) in
    (x ∷ tail.0, tail.1, lines_of-inner x (y ∷ xs ++ more) all.0 ∙ ap (onto_first x) tail.2, (omega (arith, tail.3)))

-- a line of more than 512 bytes is too long
pub line_fault-long : (text : List ℕ) → 512 < length text → line_fault text ≡ Some reason.LineLong
line_fault-long text long = let test : ltb 512 (length text) ≡ true = lt-ltb _ _ long in rw test refl
