-- A plan says which element is asked for next, given the bits of those before: the device by which the
-- laws of spelling are proved once, for every type. A run of a plan that succeeds is a path of accepted
-- elements, two paths over the same bits are one, and a run stops exactly where the first refusal is.
use Rattle.std.proofs.Common.{◌≡◌, ℕ, ◌+◌, ◌≤◌, Bool, List, [], ◌∷◌, ◌++◌, length, take, drop, Option, Some, None, Ok, Err, refl, sym, ap, subst, ◌∙◌, append_assoc, arith, inl, inr, ◌⊎◌}
use Rattle.std.proofs.lemmas.Bool.{cases_lt, le-ltb, lt-ltb}
use Rattle.std.proofs.lemmas.List.{take_at, drop_at, take-append-drop, length-append, length-take, drop-drop}
use Rattle.per_bits.specs.Bits.{Part, behind}
use Rattle.per_bits.specs.declared.refusals.Refusal.{Refusal}
use Rattle.per_types.specs.Kinds.{Kind, width, fault, Fault, Element, bits_of}
use Rattle.per_types.specs.Stops.{Read, judged, element_at, Stops, Takes}
use Rattle.per_types.specs.Reading.{◌>>=◌}

pub data Plan (X : Type 0) : Type 0 where
  done : X → Plan X
  ask : Kind → (List Bool → Plan X) → Plan X

-- the second plan behind the first
abbrev pub chain : {X Y : Type 0} → Plan X → (X → Plan Y) → Plan Y
chain (done x) next = next x
chain (ask k next_of) next = ask k (λ b. chain (next_of b) next)

abbrev pub run : {X : Type 0} → Plan X → Part → Read X
run (done x) p = Ok (x, p)
run (ask k next_of) p = element_at k p >>= λ b. run (next_of b.0) b.1

-- the bits have the kind's width and no fault
pub record Accepted (k : Kind) (b : List Bool) : Type 0 where
  pub width : length b ≡ width k
  pub sound : fault k b ≡ None

-- the elements that the plan asks for, each accepted, up to the value
abbrev pub Path : {X : Type 0} → Plan X → List Element → X → Type 0
Path (done x) es y = (es ≡ []) × (x ≡ y)
Path (ask k next_of) [] y = ⊥
Path (ask k next_of) (e ∷ es) y = (e.kind ≡ k) × Accepted k e.bits × Path (next_of e.bits) es y

-- what is left of the plan behind the elements
abbrev pub Left : {X : Type 0} → Plan X → List Element → Plan X → Type 0
Left plan [] rest = plan ≡ rest
Left (done x) (e ∷ es) rest = ⊥
Left (ask k next_of) (e ∷ es) rest = (e.kind ≡ k) × Accepted k e.bits × Left (next_of e.bits) es rest

-- whatever was accepted, something may follow
abbrev pub Live : {X : Type 0} → Plan X → Type 0
Live (done x) = Unit {0}
Live (ask k next_of) = ((b : List Bool) × Accepted k b) × ((b : List Bool) → Accepted k b → Live (next_of b))

-- ---- one element

pub behind-behind : (p : Part) (m n : ℕ) → behind (behind p m) n ≡ behind p (m + n)
behind-behind p m n = simp (drop-drop) (ap (λ (s : ℕ). record { all = p.all; start = s; bits = drop (m + n) p.bits }) (omega arith))

pub element_at-enough : (k : Kind) (p : Part) → width k ≤ length p.bits → element_at k p ≡ judged p (width k) (fault k (take (width k) p.bits))
unfolding element_at
element_at-enough k p enough = rw (le-ltb (length p.bits) (width k) enough) refl

pub element_accepted : (k : Kind) (p : Part) (b tail : List Bool) → Accepted k b → p.bits ≡ b ++ tail → element_at k p ≡ Ok (b, behind p (length b))
element_accepted k p b tail accepted e =
    let enough : width k ≤ length p.bits = omega (arith, accepted.width, length-append b tail, ap length e) in
    let first : take (width k) p.bits ≡ b = rw e (take_at b tail (width k) accepted.width) in
    element_at-enough k p enough ∙ rw (first, accepted.sound, first, accepted.width) refl

-- what an element that was read is
pub record IsTaken (k : Kind) (p : Part) (x : List Bool × Part) : Type 0 where
  pub accepted : Accepted k x.0
  pub parts : p.bits ≡ x.0 ++ x.1.bits
  pub left : x.1 ≡ behind p (length x.0)

judged_ok : (p : Part) (n : ℕ) (f : Option Fault) (x : List Bool × Part) → judged p n f ≡ Ok x → (f ≡ None) × (x.0 ≡ take n p.bits) × (x.1 ≡ behind p n)
judged_ok p n None x e = let h : x ≡ (take n p.bits, behind p n) = cc in (refl, ap (λ (y : List Bool × Part). y.0) h, ap (λ (y : List Bool × Part). y.1) h)
judged_ok p n (Some f) x e = absurd cc

element_enough : (k : Kind) (p : Part) (x : List Bool × Part) → element_at k p ≡ Ok x → width k ≤ length p.bits
unfolding element_at
element_enough k p x e =
    elim (cases_lt (length p.bits) (width k)) [
      | inl lt ↦ absurd (let h = rw (lt-ltb (length p.bits) (width k) lt) at e in cc h)
      | inr le ↦ le
    ]

pub element_taken : (k : Kind) (p : Part) (x : List Bool × Part) → element_at k p ≡ Ok x → IsTaken k p x
element_taken k p x e =
    let enough = element_enough k p x e in
    let parts = judged_ok p (width k) (fault k (take (width k) p.bits)) x (sym (element_at-enough k p enough) ∙ e) in
    let long : length x.0 ≡ width k = ap length parts.1 ∙ omega (arith, length-take (width k) p.bits) in
    record {
      accepted = record { width = long; sound = ap (fault k) parts.1 ∙ parts.0 };
      parts = sym (take-append-drop (width k) p.bits) ∙ cc (parts.1, parts.2);
      left = rw long parts.2;
    }

judged_err : (p : Part) (n : ℕ) (f : Option Fault) (e : Refusal × Part) → judged p n f ≡ Err e → e.1 ≡ p
judged_err p n None e h = absurd cc
judged_err p n (Some f) e h = cc

pub element_refused : (k : Kind) (p : Part) (e : Refusal × Part) → element_at k p ≡ Err e → e.1 ≡ p
unfolding element_at
element_refused k p e h =
    elim (cases_lt (length p.bits) (width k)) [
      | inl lt ↦ let g = rw (lt-ltb (length p.bits) (width k) lt) at h in cc g
      | inr le ↦ judged_err p (width k) (fault k (take (width k) p.bits)) e (let g = rw (le-ltb (length p.bits) (width k) le) at h in g)
    ]

-- ---- chains of results

pub next_ok : {A B : Type 0} (r : Read A) (f : A × Part → Read B) (y : B × Part) → (r >>= f) ≡ Ok y → (x : A × Part) × (r ≡ Ok x) × (f x ≡ Ok y)
next_ok (Ok x) f y e = (x, refl, e)
next_ok (Err d) f y e = absurd cc

-- an error came first, or behind a value
pub next_err : {A B : Type 0} (r : Read A) (f : A × Part → Read B) (e : Refusal × Part) → (r >>= f) ≡ Err e → (r ≡ Err e) ⊎ ((x : A × Part) × (r ≡ Ok x) × (f x ≡ Err e))
next_err (Ok x) f e h = inr (x, refl, h)
next_err (Err d) f e h = inl cc

pub next_next : {A B C : Type 0} (r : Read A) (f : A × Part → Read B) (g : B × Part → Read C) → ((r >>= f) >>= g) ≡ (r >>= λ x. f x >>= g)
next_next (Ok x) f g = refl
next_next (Err d) f g = refl

pub next_along : {A B : Type 0} (r : Read A) (f g : A × Part → Read B) → ((x : A × Part) → f x ≡ g x) → (r >>= f) ≡ (r >>= g)
next_along (Ok x) f g h = h x
next_along (Err d) f g h = refl

-- ---- runs and paths

behind_none : (p : Part) → p ≡ behind p 0
behind_none p = ap (λ (s : ℕ). record { all = p.all; start = s; bits = p.bits }) (omega arith)

nothing : (e : Element) (es : List Element) → (e ∷ es) ≡ [] → ⊥
nothing e es h = cc

-- a value and what is left
abbrev pub value : {X : Type 0} → X → Part → Read X
value x p = Ok (x, p)

module _ {X : Type 0} where
  -- what a run that succeeded took
  pub record IsRun (plan : Plan X) (p : Part) (x : X × Part) : Type 0 where
    pub elements : List Element
    pub path : Path plan elements x.0
    pub parts : p.bits ≡ bits_of elements ++ x.1.bits
    pub left : x.1 ≡ behind p (length (bits_of elements))

  pub run-path : (plan : Plan X) (p : Part) (x : X × Part) → run plan p ≡ Ok x → IsRun plan p x
  run-path (done v) p x e =
      let h : x ≡ (v, p) = cc in
      record {
        elements = [];
        path = (refl, ap (λ (y : X × Part). y.0) (sym h));
        parts = ap (λ (y : X × Part). y.1.bits) (sym h);
        left = ap (λ (y : X × Part). y.1) h ∙ behind_none p;
      }
  run-path (ask k next_of) p x e =
      let step = next_ok (element_at k p) (λ b. run (next_of b.0) b.1) x e in
      let b = step.0 in
      let taken = element_taken k p b step.1 in
      let rest = run-path (next_of b.0) b.1 x step.2 in
      record {
        elements = record { kind = k; bits = b.0 } ∷ rest.elements;
        path = (refl, taken.accepted, rest.path);
        parts = taken.parts ∙ ap (λ (t : List Bool). b.0 ++ t) rest.parts ∙ sym (append_assoc b.0 (bits_of rest.elements) x.1.bits);
        left = rest.left ∙ ap (λ (q : Part). behind q (length (bits_of rest.elements))) taken.left
            ∙ behind-behind p (length b.0) (length (bits_of rest.elements)) ∙ ap (behind p) (sym (length-append b.0 (bits_of rest.elements)));
      }

  -- a run goes along each path
  pub path-run : (plan : Plan X) (es : List Element) (v : X) (p : Part) (tail : List Bool) → Path plan es v → p.bits ≡ bits_of es ++ tail → run plan p ≡ Ok (v, behind p (length (bits_of es)))
  path-run (done x) es v p tail path e = rw path.0 (ap (value x) (behind_none p) ∙ ap (λ (y : X). value y (behind p 0)) path.1)
  path-run (ask k next_of) [] v p tail path e = absurd path
  path-run (ask k next_of) (d ∷ es) v p tail path e =
      let front : p.bits ≡ d.bits ++ (bits_of es ++ tail) = e ∙ append_assoc d.bits (bits_of es) tail in
      let at = behind p (length d.bits) in
      let rest : at.bits ≡ bits_of es ++ tail = ap (drop (length d.bits)) front ∙ drop_at d.bits (bits_of es ++ tail) (length d.bits) refl in
      rw (element_accepted k p d.bits (bits_of es ++ tail) path.1 front)
      (path-run (next_of d.bits) es v at tail path.2 rest
      ∙ ap (value v) (behind-behind p (length d.bits) (length (bits_of es)) ∙ ap (behind p) (sym (length-append d.bits (bits_of es)))))

  -- ---- what is left of a plan

  pub left-path : (plan : Plan X) (first rest : List Element) (q : Plan X) (v : X) → Left plan first q → Path q rest v → Path plan (first ++ rest) v
  left-path plan [] rest q v left path = subst (λ (s : Plan X). Path s rest v) (sym left) path
  left-path (done x) (e ∷ es) rest q v left path = absurd left
  left-path (ask k next_of) (e ∷ es) rest q v left path = (left.0, left.1, left-path (next_of e.bits) es rest q v left.2 path)

  -- a path goes on behind what was left
  pub path-left : (plan : Plan X) (first rest : List Element) (q : Plan X) (v : X) → Left plan first q → Path plan (first ++ rest) v → Path q rest v
  path-left plan [] rest q v left path = subst (λ (s : Plan X). Path s rest v) left path
  path-left (done x) (e ∷ es) rest q v left path = absurd left
  path-left (ask k next_of) (e ∷ es) rest q v left path = path-left (next_of e.bits) es rest q v left.2 path.2

  -- the first elements of a path leave something of the plan
  pub left_of : (plan : Plan X) (first rest : List Element) (v : X) → Path plan (first ++ rest) v → (q : Plan X) × Left plan first q
  left_of plan [] rest v path = (plan, refl)
  left_of (done x) (e ∷ es) rest v path = absurd (nothing e (es ++ rest) path.0)
  left_of (ask k next_of) (e ∷ es) rest v path =
      let others = left_of (next_of e.bits) es rest v path.2 in
      (others.0, (path.0, path.1, others.1))

  pub left-run : (plan : Plan X) (first : List Element) (q : Plan X) (p : Part) (tail : List Bool) → Left plan first q → p.bits ≡ bits_of first ++ tail → run plan p ≡ run q (behind p (length (bits_of first)))
  left-run plan [] q p tail left e = ap (λ (s : Plan X). run s p) left ∙ ap (run q) (behind_none p)
  left-run (done x) (d ∷ es) q p tail left e = absurd left
  left-run (ask k next_of) (d ∷ es) q p tail left e =
      let front : p.bits ≡ d.bits ++ (bits_of es ++ tail) = e ∙ append_assoc d.bits (bits_of es) tail in
      let at = behind p (length d.bits) in
      let rest : at.bits ≡ bits_of es ++ tail = ap (drop (length d.bits)) front ∙ drop_at d.bits (bits_of es ++ tail) (length d.bits) refl in
      rw (element_accepted k p d.bits (bits_of es ++ tail) left.1 front)
      (left-run (next_of d.bits) es q at tail left.2 rest
      ∙ ap (run q) (behind-behind p (length d.bits) (length (bits_of es)) ∙ ap (behind p) (sym (length-append d.bits (bits_of es)))))

  pub live-left : (plan : Plan X) (first : List Element) (q : Plan X) → Live plan → Left plan first q → Live q
  live-left plan [] q live left = subst (λ (s : Plan X). Live s) left live
  live-left (done x) (e ∷ es) q live left = absurd left
  live-left (ask k next_of) (e ∷ es) q live left = live-left (next_of e.bits) es q (live.1 e.bits left.1) left.2

  pub live-path : (plan : Plan X) → Live plan → (v : X) × (es : List Element) × Path plan es v
  live-path (done x) live = (x, [], (refl, refl))
  live-path (ask k next_of) live =
      let b = live.0.0 in
      let rest = live-path (next_of b) (live.1 b live.0.1) in
      (rest.0, record { kind = k; bits = b } ∷ rest.1, (refl, live.0.1, rest.2))

  -- ---- where a run stops

  -- the element at which a run was refused
  pub record IsStop (plan : Plan X) (p : Part) (e : Refusal × Part) : Type 0 where
    pub first : List Element
    pub kind : Kind
    pub next_of : List Bool → Plan X
    pub tail : List Bool
    pub left : Left plan first (ask kind next_of)
    pub parts : p.bits ≡ bits_of first ++ tail
    pub refused : element_at kind (behind p (length (bits_of first))) ≡ Err e

  pub run-stop : (plan : Plan X) (p : Part) (e : Refusal × Part) → run plan p ≡ Err e → IsStop plan p e
  run-stop (done x) p e h = absurd cc
  run-stop (ask k next_of) p e h =
      elim (next_err (element_at k p) (λ b. run (next_of b.0) b.1) e h) [
        | inl refused ↦ record { first = []; kind = k; next_of = next_of; tail = p.bits; left = refl; parts = refl; refused = ap (element_at k) (sym (behind_none p)) ∙ refused }
        | inr step ↦
            let b = step.0 in
            let taken = element_taken k p b step.1 in
            let rest = run-stop (next_of b.0) b.1 e step.2 in
            record {
              first = record { kind = k; bits = b.0 } ∷ rest.first;
              kind = rest.kind;
              next_of = rest.next_of;
              tail = rest.tail;
              left = (refl, taken.accepted, rest.left);
              parts = taken.parts ∙ ap (λ (t : List Bool). b.0 ++ t) rest.parts ∙ sym (append_assoc b.0 (bits_of rest.first) rest.tail);
              refused = ap (element_at rest.kind) (ap (behind p) (length-append b.0 (bits_of rest.first)) ∙ sym (behind-behind p (length b.0) (length (bits_of rest.first)))
                  ∙ ap (λ (q : Part). behind q (length (bits_of rest.first))) (sym taken.left)) ∙ rest.refused;
            }
      ]

-- ---- a plan for what spells a value

-- the paths of the plan are the elements that spell its values
pub record Follows {X : Type 0} (Spelled : X → List Element → Type 0) (plan : Plan X) : Type 0 where
  pub asked : (v : X) (es : List Element) → Spelled v es → Path plan es v
  pub spelled : (v : X) (es : List Element) → Path plan es v → Spelled v es

module _ {X : Type 0} (Spelled : X → List Element → Type 0) (plan : Plan X) (follows : Follows Spelled plan) where
  pub run_takes : (p : Part) (x : X × Part) → run plan p ≡ Ok x → Takes Spelled p x.0 x.1
  run_takes p x e = let r = run-path plan p x e in (r.elements, follows.spelled x.0 r.elements r.path, r.parts, r.left)

  pub takes_run : (p : Part) (v : X) (q : Part) → Takes Spelled p v q → run plan p ≡ Ok (v, q)
  takes_run p v q t = path-run plan t.0 v p q.bits (follows.asked v t.0 t.1) t.2 ∙ ap (value v) (sym t.3)

  pub run_stops : Live plan → (p : Part) (e : Refusal × Part) → run plan p ≡ Err e → Stops Spelled p e.0 e.1
  run_stops live p e h =
      let s = run-stop plan p e h in
      let rest = ask s.kind s.next_of in
      let more = live-path rest (live-left plan s.first rest live s.left) in (
        s.first,
        s.kind,
        s.tail,
        record {
          lawful = (more.0, more.1, follows.spelled more.0 (s.first ++ more.1) (left-path plan s.first more.1 rest more.0 s.left more.2));
          next = λ v es spelled. next_element s.kind s.next_of es v (path-left plan s.first es rest v s.left (follows.asked v (s.first ++ es) spelled));
        },
        s.parts,
        s.refused,
      )
    where
      next_element : (k : Kind) (next_of : List Bool → Plan X) (es : List Element) (v : X) → Path (ask k next_of) es v → (e : Element) × (others : List Element) × (e.kind ≡ k) × (es ≡ e ∷ others)
      next_element k next_of [] v path = absurd path
      next_element k next_of (e ∷ es) v path = (e, es, path.0, refl)

  pub stops_run : (p : Part) (r : Refusal) (q : Part) → Stops Spelled p r q → run plan p ≡ Err (r, q)
  stops_run p r q s =
      let first = s.0 in
      let k = s.1 in
      let lawful = s.3.lawful in
      let path = follows.asked lawful.0 (first ++ lawful.1) lawful.2 in
      let rest = left_of plan first lawful.1 lawful.0 path in
      let goes = path-left plan first lawful.1 rest.0 lawful.0 rest.1 path in
      let next = s.3.next lawful.0 lawful.1 lawful.2 in
      left-run plan first rest.0 p s.2 rest.1 s.4 ∙ refused rest.0 lawful.1 lawful.0 (behind p (length (bits_of first))) k (r, q) goes next s.5
    where
      refused : (rest : Plan X) (es : List Element) (v : X) (at : Part) (k : Kind) (e : Refusal × Part) → Path rest es v
          → ((d : Element) × (others : List Element) × (d.kind ≡ k) × (es ≡ d ∷ others)) → element_at k at ≡ Err e → run rest at ≡ Err e
      refused (done x) es v at k e path next h = absurd (nothing next.0 next.1 (sym next.3 ∙ path.0))
      refused (ask j next_of) [] v at k e path next h = absurd path
      refused (ask j next_of) (d ∷ es) v at k e path next h =
          let same : j ≡ k = sym path.0 ∙ ap (λ (x : Element). x.kind) (head_of d es next.0 next.1 next.3) ∙ next.2 in
          rw (same, h) refl
        where
          head_of : (a : Element) (es : List Element) (b : Element) (ds : List Element) → (a ∷ es) ≡ (b ∷ ds) → a ≡ b
          head_of a es b ds h = cc
