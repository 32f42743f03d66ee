-- The five laws of a listener, proved: for one that grows by fronts, and for a list of entries. They are laws over the
-- definitions of `Listener` alone. Cited by the listeners that keep something of what they hear.
use Rattle.std.proofs.Common.{◌≡◌, List, [], ◌++◌, sym, ap, ◌∙◌, append_assoc}
use Rattle.std.proofs.lemmas.List.{append-nil}
use Rattle.trace_model.specs.Listener.{GrewByFront, KeptGrew}
use Rattle.trace_model.specs.declared.entry.Entry.{Entry}

-- a growth is by a front, the whole
pub GrewByFront-whole : {A : Type 0} (grew : A → A → List Entry → Type 0) → (a b : A) (s : List Entry) → grew a b s
    → GrewByFront grew a b s
GrewByFront-whole grew a b s whole = (s, [], append-nil s, whole)

-- a growth, and then one by a front, are one by a front of both
pub GrewByFront-after : {A : Type 0} (grew : A → A → List Entry → Type 0)
    → ((a b c : A) (s t : List Entry) → grew a b s → grew b c t → grew a c (s ++ t))
    → (a b c : A) (s t : List Entry) → grew a b s → GrewByFront grew b c t → GrewByFront grew a c (s ++ t)
GrewByFront-after grew twice a b c s t first part =
    (s ++ part.0, part.1, append_assoc s part.0 part.1 ∙ ap (λ r. s ++ r) part.2, twice a b c s part.0 first part.3)

-- a front of some entries is a front of all that begin with them
pub GrewByFront-longer : {A : Type 0} (grew : A → A → List Entry → Type 0) → (a b : A) (s t : List Entry)
    → GrewByFront grew a b s → GrewByFront grew a b (s ++ t)
GrewByFront-longer grew a b s t part =
    (part.0, part.1 ++ t, sym (append_assoc part.0 part.1 t) ∙ ap (λ r. r ++ t) part.2, part.3)

pub KeptGrew-nothing : (a : List Entry) → KeptGrew a a []
KeptGrew-nothing a = sym (append-nil a)

pub KeptGrew-append : (a b c : List Entry) (s t : List Entry) → KeptGrew a b s → KeptGrew b c t → KeptGrew a c (s ++ t)
KeptGrew-append a b c s t first second = second ∙ ap (λ r. r ++ t) first ∙ append_assoc a s t
