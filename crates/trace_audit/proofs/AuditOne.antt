-- The lines of a trace have one verdict.
use Rattle.std.specs.Prelude.{◌≡◌, ◌≤◌, ◌<◌, ◌+◌, ◌⊎◌, ℕ, List, [], ◌∷◌, ◌++◌, length, Some, Ok}
use Rattle.std.proofs.Common.{refl, sym, ap, subst, ◌∙◌, inl, inr, arith, append_assoc}
use Rattle.trace_model.specs.declared.entry.Entry.{Entry}
use Rattle.line_input.specs.declared.reason.BadLine.{BadLine}
use Rattle.line_input.specs.declared.reason.Reason.{Reason}
use Rattle.trace_model.specs.Safety.{Safe}
use Rattle.trace_model.proofs.Fronts.{nothing_safe, safe_front}
use Rattle.trace_model.specs.declared.rule.Rule.{Rule}
use Rattle.trace_model.specs.declared.rule.Rule.TheVariants as rule
use Rattle.trace_audit.specs.declared.verdict.Verdict.{Verdict}
use Rattle.trace_audit.specs.declared.verdict.Verdict.TheVariants as verdict
use Rattle.trace_audit.specs.Audit.{Audits, IsBroken, IsFirst, IsRefused, IsSafeTrace, IsTrace, IsUnrefused, NeverFall, entries_of, in_front, line_says}
use Rattle.trace_model.specs.Tallies.{last_tick}
use Rattle.trace_audit.specs.Judged.{Judges}
use Rattle.trace_audit.proofs.AuditRead.{AreUnrefused, entries_append}

-- Two ways to part a list at an element are one, or one of the elements stands in front of the other.
pub data Parted (a b r s : List (List ℕ)) (x y : List ℕ) : Type 0 where
  same : a ≡ b → x ≡ y → Parted a b r s x y
  before : (m : List (List ℕ)) → b ≡ a ++ x ∷ m → Parted a b r s x y
  behind : (m : List (List ℕ)) → a ≡ b ++ y ∷ m → Parted a b r s x y

head_same : (x y : List ℕ) (r s : List (List ℕ)) → x ∷ r ≡ y ∷ s → x ≡ y
head_same x y r s e = cc

tail_same : (x y : List ℕ) (r s : List (List ℕ)) → x ∷ r ≡ y ∷ s → r ≡ s
tail_same x y r s e = cc

parted : (a b r s : List (List ℕ)) (x y : List ℕ) → a ++ x ∷ r ≡ b ++ y ∷ s → Parted a b r s x y
parted [] [] r s x y e = same refl (head_same x y r s e)
parted [] (c ∷ b) r s x y e = before b (ap (λ (z : List ℕ). z ∷ b) (sym (head_same x c r (b ++ y ∷ s) e)))
parted (c ∷ a) [] r s x y e = behind a (ap (λ (z : List ℕ). z ∷ a) (head_same c y (a ++ x ∷ r) s e))
parted (c ∷ a) (d ∷ b) r s x y e =
    under (head_same c d (a ++ x ∷ r) (b ++ y ∷ s) e) (parted a b r s x y (tail_same c d (a ++ x ∷ r) (b ++ y ∷ s) e))
  where
    under : c ≡ d → Parted a b r s x y → Parted (c ∷ a) (d ∷ b) r s x y
    under h (same p q) = same (cc) q
    under h (before m p) = before m (cc)
    under h (behind m p) = behind m (cc)

each_at : (a m : List (List ℕ)) (x : List ℕ) → AreUnrefused (a ++ x ∷ m) → IsUnrefused (line_says x)
each_at [] m x h = h.0
each_at (y ∷ a) m x h = each_at a m x h.1

fall_at : (es fs : List Entry) (x : Entry) → NeverFall (es ++ x ∷ fs) → last_tick es ≤ x.tick
fall_at [] fs x h = omega arith
fall_at (y ∷ []) fs x h = h.0
fall_at (y ∷ z ∷ es) fs x h = fall_at (z ∷ es) fs x h.1

entries_at : (a m : List (List ℕ)) (x : List ℕ) (e : Entry) → line_says x ≡ Ok (Some e) →
    entries_of (a ++ x ∷ m) ≡ entries_of a ++ e ∷ entries_of m
entries_at a m x e h = entries_append a (x ∷ m) ∙ ap (λ r. entries_of a ++ in_front r (entries_of m)) h

-- A line that is refused stands in no trace,
no_refused : (a m : List (List ℕ)) (x : List ℕ) (why : Reason) → IsTrace (a ++ x ∷ m) → IsRefused a x why → ⊥
no_refused a m x why t (inl e) = subst IsUnrefused e (each_at a m x t.each)
no_refused a m x why t (inr f) =
    let le : last_tick (entries_of a) ≤ f.0.tick =
    fall_at (entries_of a) (entries_of m) f.0 (subst (λ (es : List Entry). NeverFall es) (entries_at a m x f.0 f.1)
    t.order) in
    let lt : f.0.tick < last_tick (entries_of a) = f.2 in
    absurd (omega arith)

-- and one that breaks a rule in no safe trace.

pub last_or_none : (es : List Entry) → (es ≡ []) ⊎ ((xs : List Entry) × (x : Entry) × (es ≡ xs ++ x ∷ []))
last_or_none [] = inl refl
last_or_none (y ∷ es) = inr (at (last_or_none es))
  where
    at : (es ≡ []) ⊎ ((xs : List Entry) × (x : Entry) × (es ≡ xs ++ x ∷ [])) →
        (xs : List Entry) × (x : Entry) × (y ∷ es ≡ xs ++ x ∷ [])
    at (inl h) = ([], y, ap (λ (z : List Entry). y ∷ z) h)
    at (inr h) = (y ∷ h.0, h.1, ap (λ (z : List Entry). y ∷ z) h.2)

last_of : (xs : List Entry) (x : Entry) → last_tick (xs ++ x ∷ []) ≡ x.tick
last_of [] x = refl
last_of (y ∷ []) x = refl
last_of (y ∷ z ∷ xs) x = last_of (z ∷ xs) x

abbrev IsSafe : List Entry → Type 0
IsSafe es = Safe es (last_tick es)

safe_to : (es fs : List Entry) (now : ℕ) → Safe (es ++ fs) now → IsSafe es
safe_to es fs now h = at (last_or_none es)
  where
    at : (es ≡ []) ⊎ ((xs : List Entry) × (x : Entry) × (es ≡ xs ++ x ∷ [])) → IsSafe es
    at (inl e) = subst IsSafe (sym e) (nothing_safe 0)
    at (inr p) =
        subst IsSafe (sym p.2)
        (subst (λ (n : ℕ). Safe (p.0 ++ p.1 ∷ []) n) (sym (last_of p.0 p.1))
        (safe_front p.0 fs p.1 now
        (subst (λ (z : List Entry). Safe z now)
        (ap (λ (z : List Entry). z ++ fs) p.2 ∙ append_assoc p.0 (p.1 ∷ []) fs) h)))

breaks_none : (es : List Entry) (now : ℕ) (r : Rule) → Safe es now → Judges es now (Some r) → ⊥
breaks_none es now rule.Agreed s j = j s.agreed
breaks_none es now rule.Opened s j = j.1 s.opened
breaks_none es now rule.Bounded s j = j.2 s.bounded

no_broken : (a m : List (List ℕ)) (x : List ℕ) (r : Rule) → IsSafeTrace (a ++ x ∷ m) → IsBroken a x r → ⊥
no_broken a m x r t b =
    let whole : entries_of (a ++ x ∷ m) ≡ entries_of (a ++ x ∷ []) ++ entries_of m =
    ap entries_of (sym (append_assoc a (x ∷ []) m)) ∙ entries_append (a ++ x ∷ []) m in
    breaks_none (entries_of (a ++ x ∷ [])) (last_tick (entries_of (a ++ x ∷ []))) r
    (safe_to (entries_of (a ++ x ∷ [])) (entries_of m) (last_tick (entries_of (a ++ x ∷ m)))
    (subst (λ (z : List Entry). Safe z (last_tick (entries_of (a ++ x ∷ m)))) whole t.safe)) b.broken

one_rule : (es : List Entry) (now : ℕ) (r s : Rule) → Judges es now (Some r) → Judges es now (Some s) → r ≡ s
one_rule es now rule.Agreed rule.Agreed h k = refl
one_rule es now rule.Agreed rule.Opened h k = absurd (h k.0)
one_rule es now rule.Agreed rule.Bounded h k = absurd (h k.0)
one_rule es now rule.Opened rule.Agreed h k = absurd (k h.0)
one_rule es now rule.Opened rule.Opened h k = refl
one_rule es now rule.Opened rule.Bounded h k = absurd (h.1 k.1)
one_rule es now rule.Bounded rule.Agreed h k = absurd (k h.0)
one_rule es now rule.Bounded rule.Opened h k = absurd (k.1 h.1)
one_rule es now rule.Bounded rule.Bounded h k = refl

one_reason : (a : List (List ℕ)) (x : List ℕ) (why other : Reason) → IsRefused a x why → IsRefused a x other →
    why ≡ other
one_reason a x why other (inl h) (inl k) = cc
one_reason a x why other (inl h) (inr k) = let p = k.1 in cc
one_reason a x why other (inr h) (inl k) = let p = h.1 in cc
one_reason a x why other (inr h) (inr k) = h.3 ∙ sym k.3

-- Lines that are a safe trace have no line that ends them.
ends_none : (lines : List (List ℕ)) (n : ℕ) (Is : List (List ℕ) → List ℕ → Type 0) →
    ((a m : List (List ℕ)) (x : List ℕ) → IsSafeTrace (a ++ x ∷ m) → Is a x → ⊥) → IsSafeTrace lines →
    IsFirst lines n Is → ⊥
ends_none lines n Is out t f = out f.front f.rest f.text (subst IsSafeTrace f.split t) f.is

-- Two lines that end them are one.
record SameLine (n k : ℕ) (Is Other : List (List ℕ) → List ℕ → Type 0) : Type 0 where
  pub place : n ≡ k
  pub front : List (List ℕ)
  pub text : List ℕ
  pub is : Is front text
  pub other : Other front text

same_line : (lines : List (List ℕ)) (n k : ℕ) (Is Other : List (List ℕ) → List ℕ → Type 0) →
    ((a m : List (List ℕ)) (x : List ℕ) → IsSafeTrace (a ++ x ∷ m) → Is a x → ⊥) →
    ((a m : List (List ℕ)) (x : List ℕ) → IsSafeTrace (a ++ x ∷ m) → Other a x → ⊥) → IsFirst lines n Is →
    IsFirst lines k Other → SameLine n k Is Other
same_line lines n k Is Other out out' f g =
    at (parted f.front g.front f.rest g.rest f.text g.text (sym f.split ∙ g.split))
  where
    at : Parted f.front g.front f.rest g.rest f.text g.text → SameLine n k Is Other
    at (same p q) =
        record {
          place = f.place ∙ (ap (λ (z : List (List ℕ)). length z + 1) p ∙ sym g.place);
          front = g.front;
          text = g.text;
          is = subst (λ (z : List (List ℕ)). Is z g.text) p (subst (λ (z : List ℕ). Is f.front z) q f.is);
          other = g.is;
        }
    at (before m p) = absurd (out f.front m f.text (subst IsSafeTrace p g.safe) f.is)
    at (behind m p) = absurd (out' g.front m g.text (subst IsSafeTrace p f.safe) g.is)

refused_out : (why : Reason) (a m : List (List ℕ)) (x : List ℕ) → IsSafeTrace (a ++ x ∷ m) → IsRefused a x why → ⊥
refused_out why a m x t = no_refused a m x why t.trace

broken_out : (r : Rule) (a m : List (List ℕ)) (x : List ℕ) → IsSafeTrace (a ++ x ∷ m) → IsBroken a x r → ⊥
broken_out r a m x t = no_broken a m x r t

not_both : (lines : List (List ℕ)) (n k : ℕ) (r : Rule) (why : Reason) → IsFirst lines n (λ a x. IsBroken a x r) →
    IsFirst lines k (λ a x. IsRefused a x why) → ⊥
not_both lines n k r why f g =
    let s = same_line lines n k (λ a x. IsBroken a x r) (λ a x. IsRefused a x why) (broken_out r) (refused_out why)
    f g in
    no_refused s.front [] s.text why s.is.trace s.other

pub one_verdict : (lines : List (List ℕ)) (v w : Verdict) → Audits lines v → Audits lines w → v ≡ w
one_verdict lines (verdict.Sound n) (verdict.Sound m) h k = ap verdict.Sound (h.1 ∙ sym k.1)
one_verdict lines (verdict.Sound n) (verdict.Broken l r) h k =
    absurd (ends_none lines l (λ a x. IsBroken a x r) (broken_out r) h.0 k)
one_verdict lines (verdict.Sound n) (verdict.Bad b) h k =
    absurd (ends_none lines b.line (λ a x. IsRefused a x b.reason) (refused_out b.reason) h.0 k)
one_verdict lines (verdict.Broken l r) (verdict.Sound m) h k =
    absurd (ends_none lines l (λ a x. IsBroken a x r) (broken_out r) k.0 h)
one_verdict lines (verdict.Broken l r) (verdict.Broken j s) h k =
    let p = same_line lines l j (λ a x. IsBroken a x r) (λ a x. IsBroken a x s) (broken_out r) (broken_out s) h k in
    ap (λ (n : ℕ). verdict.Broken n r) p.place ∙ ap (verdict.Broken j) (one_rule _ _ r s p.is.broken p.other.broken)
one_verdict lines (verdict.Broken l r) (verdict.Bad b) h k = absurd (not_both lines l b.line r b.reason h k)
one_verdict lines (verdict.Bad b) (verdict.Sound m) h k =
    absurd (ends_none lines b.line (λ a x. IsRefused a x b.reason) (refused_out b.reason) k.0 h)
one_verdict lines (verdict.Bad b) (verdict.Broken j s) h k = absurd (not_both lines j b.line s b.reason k h)
one_verdict lines (verdict.Bad b) (verdict.Bad d) h k =
    let p =
    same_line lines b.line d.line (λ a x. IsRefused a x b.reason) (λ a x. IsRefused a x d.reason) (refused_out b.reason)
    (refused_out d.reason) h k in
    ap verdict.Bad (bad_same b.line d.line b.reason d.reason p.place (one_reason p.front p.text b.reason d.reason
    p.is p.other))
  where
    bad_same : (n k : ℕ) (why other : Reason) → n ≡ k → why ≡ other →
        ◌≡◌ {A = BadLine} (record { line = n; reason = why }) (record { line = k; reason = other })
    bad_same n k why other p q = rw (p, q) refl
one_verdict lines verdict.ReadFault w h k = absurd h
one_verdict lines verdict.TooLong w h k = absurd h
one_verdict lines verdict.Memory w h k = absurd h
one_verdict lines v verdict.ReadFault h k = absurd k
one_verdict lines v verdict.TooLong h k = absurd k
one_verdict lines v verdict.Memory h k = absurd k
