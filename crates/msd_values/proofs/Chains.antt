-- How appends one after another are one.
use Rattle.std.proofs.Common.{ℕ, List, ◌++◌, ap, ◌∙◌, append_assoc}
use Rattle.msd_values.specs.inner.Waiting.{Appends}

-- a text, and then another
pub joined : {old mid new a b : List ℕ} → Appends old mid a → Appends mid new b → Appends old new (a ++ b)
joined {old} {mid} {new} {a} {b} first second = record { items = second.items ∙ ap (λ text. text ++ b) first.items ∙ append_assoc old a b }
