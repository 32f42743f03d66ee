-- What is appended behind what was appended.
use Rattle.std.specs.Prelude.{◌≡◌, ℕ, List, ◌++◌}
use Rattle.std.proofs.Common.{◌∙◌, ap, append_assoc}

pub behind : (a b e d f : List ℕ) → b ≡ a ++ d → e ≡ b ++ f → e ≡ a ++ (d ++ f)
behind a b e d f first second = second ∙ ap (λ t. t ++ f) first ∙ append_assoc a d f
