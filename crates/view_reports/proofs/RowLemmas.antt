-- Rows that are put into a table.
use Rattle.std.proofs.Common.{◌≡◌, Bool, true, false, cond, List, [], ◌∷◌, Some, refl, sym, subst, ◌∙◌}
use Rattle.std.specs.Map.{lookup}
use Rattle.std.proofs.lemmas.Bool.{false≢true}
use Rattle.indexmap.specs.IndexMap.{insert_entry}

module _ {K V : Type 0} (eq : K → K → Bool) (same : (a b : K) → eq a b ≡ true → a ≡ b) where
  -- a look-up behind one row that was put
  pub lookup_put : (es : List (K × V)) (k : K) (v : V) (q : K)
      → lookup (eq q) (insert_entry eq es k v) ≡ cond (eq q k) (Some v) (lookup (eq q) es)
  lookup_put [] k v q = refl
  lookup_put (e ∷ es) k v q = at (eq k e.0) refl (lookup_put es k v q)
    where
      both : (b : Bool)
          → cond b (Some v) (lookup (eq q) es) ≡ cond b (Some v) (cond b (Some e.1) (lookup (eq q) es))
      both true = refl
      both false = refl

      later : (b : Bool) → eq k e.0 ≡ false → eq q e.0 ≡ b → (d : Bool) → eq q k ≡ d
          → lookup (eq q) (insert_entry eq es k v) ≡ cond d (Some v) (lookup (eq q) es)
          → cond b (Some e.1) (lookup (eq q) (insert_entry eq es k v))
          ≡ cond d (Some v) (cond b (Some e.1) (lookup (eq q) es))
      later true apart here true there below =
          absurd (false≢true (sym apart ∙ subst (λ (z : K). eq z e.0 ≡ true) (same q k there) here))
      later true apart here false there below = refl
      later false apart here d there below = below

      at : (b : Bool) → eq k e.0 ≡ b
          → lookup (eq q) (insert_entry eq es k v) ≡ cond (eq q k) (Some v) (lookup (eq q) es)
          → lookup (eq q) (cond b ((e.0, v) ∷ es) (e ∷ insert_entry eq es k v))
          ≡ cond (eq q k) (Some v) (cond (eq q e.0) (Some e.1) (lookup (eq q) es))
      at true here below =
          subst
          (λ (z : K). cond (eq q e.0) (Some v) (lookup (eq q) es)
          ≡ cond (eq q z) (Some v) (cond (eq q e.0) (Some e.1) (lookup (eq q) es)))
          (sym (same k e.0 here)) (both (eq q e.0))
      at false apart below = later (eq q e.0) apart refl (eq q k) refl below
