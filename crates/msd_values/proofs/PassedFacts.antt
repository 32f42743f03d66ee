-- How texts pass through a page to a sink one after another.
use Rattle.std.proofs.Common.{◌≡◌, ℕ, List, [], ◌∷◌, ◌++◌, Option, Ok, Err, sym, subst, ap, ◌∙◌, append_assoc}
use Rattle.std.specs.Prelude.{Result, ⊤}
use Rattle.std.specs.List.{flat_map}
use Rattle.call_io.specs.declared.Failed.{Failed}
use Rattle.std.proofs.lemmas.List.{append-nil}
use Rattle.std.proofs.lemmas.List.Concat.{flat_map-append}
use Rattle.call_io.specs.Bytes.{Grew, GrewPartly}
use Rattle.call_io.proofs.BytesLemmas.{Grew-nothing, Grew-append, GrewPartly-after, GrewPartly-longer}
use Rattle.msd_values.specs.inner.Waiting.{Appends, Passed, Passes}

-- what is put on the page waits there
pub Passed-put : (told : Option (List ℕ)) {waited waits text : List ℕ} → Appends waited waits text → Passed told told waited waits text
Passed-put told appends = record { told = []; grew = Grew-nothing told; rest = appends.items }

-- the page was written, and is empty now
pub Passed-written : {old new : Option (List ℕ)} {waited waits : List ℕ} → Grew old new waited → waits ≡ [] → Passed old new waited waits []
Passed-written {old} {new} {waited} {waits} grew empty = record { told = waited; grew = grew; rest = ap (λ text. waited ++ text) empty }

-- one text, and then another
pub Passed-then : {old mid new : Option (List ℕ)} {waited between waits s t : List ℕ}
    → Passed old mid waited between s → Passed mid new between waits t → Passed old new waited waits (s ++ t)
Passed-then {old} {mid} {new} {waited} {between} {waits} {s} {t} first second = record {
  told = first.told ++ second.told;
  grew = Grew-append old mid new first.told second.told first.grew second.grew;
  rest =
      append_assoc first.told second.told waits
      ∙ ap (λ text. first.told ++ text) second.rest
      ∙ sym (append_assoc first.told between t)
      ∙ ap (λ text. text ++ t) first.rest
      ∙ append_assoc waited s t;
}

-- one text, and then a failure in the next
pub Passed-fails : {old mid new : Option (List ℕ)} {waited between s : List ℕ} (t : List ℕ)
    → Passed old mid waited between s → GrewPartly mid new (between ++ t) → GrewPartly old new (waited ++ (s ++ t))
Passed-fails {old} {mid} {new} {waited} {between} {s} t first partly =
    subst (λ (text : List ℕ). GrewPartly old new text)
    (sym (append_assoc first.told between t) ∙ ap (λ text. text ++ t) first.rest ∙ append_assoc waited s t)
    (GrewPartly-after old mid new first.told (between ++ t) first.grew partly)

-- nothing waited at first, and the page was written at last
pub Passed-whole : {old mid new : Option (List ℕ)} {waits s : List ℕ} → Passed old mid [] waits s → Grew mid new waits → Grew old new s
Passed-whole {old} {mid} {new} {waits} {s} first second =
    subst (λ (text : List ℕ). Grew old new text) first.rest (Grew-append old mid new first.told waits first.grew second)

-- or the last write failed
pub Passed-partly : {old mid new : Option (List ℕ)} {waits s : List ℕ} → Passed old mid [] waits s → GrewPartly mid new waits → GrewPartly old new s
Passed-partly {old} {mid} {new} {waits} {s} first partly =
    subst (λ (text : List ℕ). GrewPartly old new text) first.rest (GrewPartly-after old mid new first.told waits first.grew partly)

-- the same text, written otherwise
pub Passed-text : {old new : Option (List ℕ)} {waited waits s t : List ℕ} → s ≡ t → Passed old new waited waits s → Passed old new waited waits t
Passed-text {old} {new} {waited} {waits} same passed = subst (λ (text : List ℕ). Passed old new waited waits text) same passed

-- one more of the texts of a list
pub Passed-more : {X : Type 0} (f : X → List ℕ) {old mid new : Option (List ℕ)} {waited between settled waits : List ℕ} (xs : List X) (x : X)
    → Passed old mid waited between (flat_map f xs) → Passed mid new between settled [] → Appends settled waits (f x)
    → Passed old new waited waits (flat_map f (xs ++ x ∷ []))
Passed-more f {old} {mid} {new} {waited} {between} {settled} {waits} xs x passed settling appends =
    Passed-text (ap (λ text. text ++ f x) (append-nil (flat_map f xs)) ∙ ap (λ text. flat_map f xs ++ text) (sym (append-nil (f x))) ∙ sym (flat_map-append f xs (x ∷ [])))
    (Passed-then (Passed-then passed settling) (Passed-put new appends))

-- a failure before the last of the texts of a list
pub Passed-fails_at : {X : Type 0} (f : X → List ℕ) {old mid new : Option (List ℕ)} {waited between : List ℕ} (xs ys all : List X)
    → xs ++ ys ≡ all → Passed old mid waited between (flat_map f xs) → GrewPartly mid new (between ++ [])
    → GrewPartly old new (waited ++ flat_map f all)
Passed-fails_at f {old} {mid} {new} {waited} {between} xs ys all split passed partly =
    subst (λ (text : List ℕ). GrewPartly old new text)
    (ap (λ text. (waited ++ text) ++ flat_map f ys) (append-nil (flat_map f xs))
    ∙ append_assoc waited (flat_map f xs) (flat_map f ys)
    ∙ ap (λ text. waited ++ text) (sym (flat_map-append f xs ys) ∙ ap (flat_map f) split))
    (GrewPartly-longer old new (waited ++ (flat_map f xs ++ [])) (flat_map f ys) (Passed-fails [] passed partly))

-- all texts of a list passed
pub Passed-all : {X : Type 0} (f : X → List ℕ) {old new : Option (List ℕ)} {waited waits : List ℕ} (xs all : List X)
    → xs ++ [] ≡ all → Passed old new waited waits (flat_map f xs) → Passed old new waited waits (flat_map f all)
Passed-all f xs all split passed = Passed-text (ap (flat_map f) (sym (append-nil xs) ∙ split)) passed

-- a text, and then what passes with an answer
pub Passes-then : {old mid : Option (List ℕ)} {waited between s : List ℕ} (new : Option (List ℕ)) (waits t : List ℕ) (answer : Result ⊤ Failed)
    → Passed old mid waited between s → Passes answer mid new between waits t → Passes answer old new waited waits (s ++ t)
Passes-then new waits t (Ok _) first second = Passed-then first second
Passes-then new waits t (Err _) first second = Passed-fails t first second

-- a text, and then no more of it
pub Passes-last : {old mid : Option (List ℕ)} {waited between s : List ℕ} (new : Option (List ℕ)) (waits : List ℕ) (answer : Result ⊤ Failed)
    → Passed old mid waited between s → Passes answer mid new between waits [] → Passes answer old new waited waits s
Passes-last {s = s} new waits (Ok _) first second = Passed-text (append-nil s) (Passed-then first second)
Passes-last {old} {waited = waited} {s = s} new waits (Err _) first second =
    subst (λ (text : List ℕ). GrewPartly old new (waited ++ text)) (append-nil s) (Passed-fails [] first second)

-- a failure that comes before more text
pub GrewPartly-more : (old new : Option (List ℕ)) (s t more : List ℕ) → GrewPartly old new (s ++ t) → GrewPartly old new (s ++ (t ++ more))
GrewPartly-more old new s t more partly =
    subst (λ (text : List ℕ). GrewPartly old new text) (append_assoc s t more) (GrewPartly-longer old new (s ++ t) more partly)

-- a new page has nothing that waits
pub Passed-from : {old new : Option (List ℕ)} {waited waits s : List ℕ} → waited ≡ [] → Passed old new waited waits s → Passed old new [] waits s
Passed-from {old} {new} {waited} {waits} {s} empty passed = subst (λ (text : List ℕ). Passed old new text waits s) empty passed

-- a failure in the fourth and in the second of seven texts
pub GrewPartly-fourth : (old new : Option (List ℕ)) (a b c d e f g : List ℕ) → GrewPartly old new (a ++ b ++ c ++ d) → GrewPartly old new (a ++ b ++ c ++ d ++ e ++ f ++ g)
GrewPartly-fourth old new a b c d e f g partly =
    GrewPartly-longer old new (a ++ b ++ c ++ d ++ e ++ f) g
    (GrewPartly-longer old new (a ++ b ++ c ++ d ++ e) f (GrewPartly-longer old new (a ++ b ++ c ++ d) e partly))

pub GrewPartly-second : (old new : Option (List ℕ)) (a b c d e f g : List ℕ) → GrewPartly old new (a ++ b) → GrewPartly old new (a ++ b ++ c ++ d ++ e ++ f ++ g)
GrewPartly-second old new a b c d e f g partly =
    GrewPartly-fourth old new a b c d e f g
    (GrewPartly-longer old new (a ++ b ++ c) d (GrewPartly-longer old new (a ++ b) c partly))
