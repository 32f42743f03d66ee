-- How a type is read from the readings of its components, step by step, and that readers move on.
use Rattle.std.proofs.Common.{◌≡◌, ℕ, zero, suc, ◌+◌, Bool, true, false, List, [], ◌∷◌, Option, Some, None, Result, Ok, Err, refl, sym, ap, ◌∙◌, arith, lit<}
use Rattle.std.specs.Result.{IsErrAnd, OnOk}
use Rattle.std.specs.Prelude.{ℤ, pos, ◌≤ℤ◌}
use Rattle.std.specs.List.{Contains}
use Rattle.std.proofs.lemmas.Result.{err_from_is_err_and}
use Rattle.per_bits.specs.Bits.{Part, behind}
use Rattle.per_bits.specs.Parts.{Member}
use Rattle.per_bits.specs.declared.refusals.Refusal.{Refusal}
use Rattle.per_types.specs.Kinds as kind
use Rattle.per_types.specs.Kinds.{Element, width, fault, first_bit}
use Rattle.per_types.specs.Types.{Tree, truth, number, record_of, Fields, no_fields, field, absent, Ty, boolean, integer, format, sequence, Components, no_components, required, optional, default, presence_count}
use Rattle.per_types.specs.Spelling.{Elements, PresenceElements, TruthElements, WholeElements, FormatElements}
use Rattle.per_types.specs.Stops.{Read, IsOnlyReading, HasValues, element_at}
use Rattle.per_types.specs.Reading.{◌>>=◌, Gives, truth_at, truth_at, whole_at, format_at, extended_at, presence_at, more_at, tree_at, fields_at}
use Rattle.per_types.proofs.Plans.{element_accepted, element_taken, next_ok}
use Rattle.per_types.proofs.Decided.{only_type, only_presence, only_truth, only_whole, only_format}
use Rattle.msd_codec.specs.Module.{octet, timestamp, control_type, vehicle_identification, propulsion_storage, vehicle_location, location_delta, msd_structure, known_formats, ecall_message}
use Rattle.msd_codec.specs.Formats.{format_of}
use Rattle.msd_codec.specs.Reading.{set_at}
use Rattle.msd_values.specs.declared.format.Format.{Format}
use Rattle.msd_values.specs.Format.{format_number}
use Rattle.msd_codec.specs.Trees.{optional_field, pair_tree}
use Rattle.msd_codec.specs.inner.Reading.{MovesOn}
use Rattle.msd_codec.specs.inner.Reading.{default_at, optional_at}

-- two answers are equal in their values and in what is left
pub ok_same : {X : Type 0} (x y : X × Part) → (let r : Read X = Ok x in r ≡ Ok y) → (x.0 ≡ y.0) × (x.1 ≡ y.1)
ok_same {X} x y e = let h : x ≡ y = cc e in (ap (λ (z : X × Part). z.0) h, ap (λ (z : X × Part). z.1) h)

-- ---- moving on

pub behind_moves : (p q : Part) (n : ℕ) → q ≡ behind p n → MovesOn p q
behind_moves p q n e = let start : q.start ≡ p.start + n = ap (λ (x : Part). x.start) e in record { all = ap (λ (x : Part). x.all) e; on = omega arith }

pub moves : {X : Type 0} (Spelled : X → List Element → Type 0) (reading : Part → Read X) → IsOnlyReading Spelled reading → (p q : Part) (v : X) → reading p ≡ Ok (v, q) → MovesOn p q
moves Spelled reading only p q v e =
    let takes = (only p (Ok (v, q))).0 (sym e) in
    behind_moves p q _ takes.3

pub tree_moves : (t : Ty) → HasValues t → (p q : Part) (v : Tree) → tree_at t p ≡ Ok (v, q) → MovesOn p q
tree_moves t has p q v e = moves (Elements false t) (tree_at t) (only_type t has) p q v e

pub presence_moves : (n : ℕ) (p q : Part) (v : List Bool) → presence_at n p ≡ Ok (v, q) → MovesOn p q
presence_moves n p q v e = moves (PresenceElements n) (presence_at n) (only_presence n) p q v e

pub mark_moves : (p q : Part) (v : Bool) → truth_at p ≡ Ok (v, q) → MovesOn p q
unfolding truth_at
mark_moves p q v e =
    let taken = next_ok (element_at kind.truth p) (λ b. Ok (first_bit b.0, b.1)) (v, q) e in
    let same = (ok_same _ (v, q) taken.2).1 in
    behind_moves p q _ (sym same ∙ (element_taken kind.truth p taken.0 taken.1).left)

pub moves_on : (p q r : Part) → MovesOn p q → MovesOn q r → MovesOn p r
moves_on p q r a b = record { all = b.all ∙ a.all; on = omega (arith, a.on, b.on) }

-- ---- a reader's answer

-- the exit of a `?`
pub exit : {X Y : Type 0} (view : X → Y) (r : Result X Refusal) (e : Refusal) (read : Read Y) (q : Part) → IsErrAnd r (λ y. y ≡ e) → read ≡ Err (e, q) → Gives view r read q
exit view r e read q is same = let p = err_from_is_err_and r is in rw (p.1, p.2) same

pub gives_mapped : {X Y Z : Type 0} (view : X → Y) (f : Y → Z) (r : Result X Refusal) (read : Read Y) (q : Part) → Gives view r read q → Gives (λ x. f (view x)) r (read >>= λ v. Ok (f v.0, v.1)) q
gives_mapped view f (Ok x) read q e = ap (λ s. s >>= λ v. Ok (f v.0, v.1)) e
gives_mapped view f (Err d) read q e = ap (λ s. s >>= λ v. Ok (f v.0, v.1)) e

-- ---- components

abbrev pub with_field : Tree → Read Fields → Read Fields
with_field v (Ok x) = Ok (field v x.0, x.1)
with_field v (Err e) = Err e

abbrev pub with_optional : Option Tree → Read Fields → Read Fields
with_optional v (Ok x) = Ok (optional_field v x.0, x.1)
with_optional v (Err e) = Err e

behind_field : (v : Tree) (r : Read Fields) → (r >>= λ x. Ok (field v x.0, x.1)) ≡ with_field v r
behind_field v (Ok x) = refl
behind_field v (Err e) = refl

pub none_is : (ps : List Bool) (p : Part) → fields_at no_components ps p ≡ Ok (no_fields, p)
unfolding fields_at
none_is ps p = refl

pub required_is : (t : Ty) (cs : Components) (ps : List Bool) (p q : Part) (v : Tree) (r : Read Fields) → tree_at t p ≡ Ok (v, q) → fields_at cs ps q ≡ r → fields_at (required t cs) ps p ≡ with_field v r
unfolding fields_at
required_is t cs ps p q v r e h = rw (e, h) (behind_field v r)

pub required_err : (t : Ty) (cs : Components) (ps : List Bool) (p : Part) (e : Refusal × Part) → tree_at t p ≡ Err e → fields_at (required t cs) ps p ≡ Err e
unfolding fields_at
required_err t cs ps p e h = rw h refl

pub default_is : (t : Ty) (d : Tree) (cs : Components) (b : Bool) (ps : List Bool) (p q : Part) (v : Tree) (r : Read Fields) → default_at b t d p ≡ Ok (v, q) → fields_at cs ps q ≡ r → fields_at (default t d cs) (b ∷ ps) p ≡ with_field v r
unfolding fields_at
default_is t d cs true ps p q v r e h = rw (e, h) (behind_field v r)
default_is t d cs false ps p q v r e h =
    let same = ok_same (d, p) (v, q) e in
    rw (same.0, same.1, h) (behind_field v r)

pub default_err : (t : Ty) (d : Tree) (cs : Components) (b : Bool) (ps : List Bool) (p : Part) (e : Refusal × Part) → default_at b t d p ≡ Err e → fields_at (default t d cs) (b ∷ ps) p ≡ Err e
unfolding fields_at
default_err t d cs true ps p e h = rw h refl
default_err t d cs false ps p e h = absurd cc

optional_some : (t : Ty) (p q : Part) (o : Option Tree) → optional_at true t p ≡ Ok (o, q) → (v : Tree) × (o ≡ Some v) × (tree_at t p ≡ Ok (v, q))
optional_some t p q o e =
    let found = next_ok (tree_at t p) (λ v. Ok (Some v.0, v.1)) (o, q) e in
    let same = ok_same (Some found.0.0, found.0.1) (o, q) found.2 in
    (found.0.0, sym same.0, found.1 ∙ ap (λ (x : Part). Ok (found.0.0, x)) same.1)

pub optional_is : (t : Ty) (cs : Components) (b : Bool) (ps : List Bool) (p q : Part) (o : Option Tree) (r : Read Fields) → optional_at b t p ≡ Ok (o, q) → fields_at cs ps q ≡ r → fields_at (optional t cs) (b ∷ ps) p ≡ with_optional o r
unfolding fields_at
optional_is t cs true ps p q o r e h =
    let some = optional_some t p q o e in
    rw (some.1, some.2, h) (elim r as (λ s. (s >>= λ x. Ok (field some.0 x.0, x.1)) ≡ with_optional (Some some.0) s) [ Ok x ↦ refl | Err d ↦ refl ])
optional_is t cs false ps p q o r e h =
    let same = ok_same (None, p) (o, q) e in
    rw (← same.0, same.1, h) (elim r as (λ s. (s >>= λ x. Ok (absent x.0, x.1)) ≡ with_optional None s) [ Ok x ↦ refl | Err d ↦ refl ])

pub optional_err : (t : Ty) (cs : Components) (b : Bool) (ps : List Bool) (p : Part) (e : Refusal × Part) → optional_at b t p ≡ Err e → fields_at (optional t cs) (b ∷ ps) p ≡ Err e
unfolding fields_at
optional_err t cs true ps p e h =
    let first : tree_at t p ≡ Err e = elim (tree_at t p) as (λ (r : Read Tree). (r >>= λ v. Ok (Some v.0, v.1)) ≡ Err e → r ≡ Err e) [ Ok x ↦ λ g. absurd (cc g) | Err d ↦ λ g. ap (λ (y : Refusal × Part). Err y) (let s : d ≡ e = cc g in s) ] h in
    rw first refl
optional_err t cs false ps p e h = absurd cc

-- ---- sequences

abbrev pub plain : Read Fields → Read Tree
plain (Ok x) = Ok (record_of x.0 None, x.1)
plain (Err e) = Err e

abbrev pub with_more : Bool → Read Fields → Read Tree
with_more extended fields = fields >>= λ f. more_at extended f.1 >>= λ m. Ok (record_of f.0 m.0, m.1)

behind_none : (p : Part) → behind p 0 ≡ p
behind_none p = ap (λ (s : ℕ). record { all = p.all; start = s; bits = p.bits }) (omega arith)

pub no_presence : (p : Part) → presence_at 0 p ≡ Ok ([], p)
unfolding presence_at width fault
no_presence p = element_accepted (kind.presence 0) p [] p.bits (record { width = refl; sound = refl }) refl ∙ ap (λ (q : Part). Ok ([], q)) (behind_none p)

pub plain_is : (cs : Components) (p : Part) (r : Read Fields) → presence_count cs ≡ 0 → fields_at cs [] p ≡ r → tree_at (sequence false cs) p ≡ plain r
unfolding tree_at extended_at more_at
plain_is cs p r none h =
    rw (none, no_presence p, h) (elim r as (λ s. (s >>= λ x. Ok (record_of x.0 None, x.1)) ≡ plain s) [ Ok x ↦ refl | Err d ↦ refl ])

pub marked_is : (cs : Components) (n : ℕ) (p q s : Part) (extended : Bool) (ps : List Bool) (r : Read Fields) → presence_count cs ≡ n → truth_at p ≡ Ok (extended, q) → presence_at n q ≡ Ok (ps, s) → fields_at cs ps s ≡ r → tree_at (sequence true cs) p ≡ with_more extended r
unfolding tree_at extended_at
marked_is cs n p q s extended ps r count e f h = rw (count, e, f, h) refl

pub marked_err : (cs : Components) (p : Part) (e : Refusal × Part) → truth_at p ≡ Err e → tree_at (sequence true cs) p ≡ Err e
unfolding tree_at extended_at
marked_err cs p e h = rw h refl

pub presence_err : (cs : Components) (n : ℕ) (p q : Part) (extended : Bool) (e : Refusal × Part) → presence_count cs ≡ n → truth_at p ≡ Ok (extended, q) → presence_at n q ≡ Err e → tree_at (sequence true cs) p ≡ Err e
unfolding tree_at extended_at
presence_err cs n p q extended e count f h = rw (count, f, h) refl

pub more_is : (extended : Bool) (fs : Fields) (p q : Part) (m : Option (List Member)) → more_at extended p ≡ Ok (m, q) → with_more extended (Ok (fs, p)) ≡ Ok (record_of fs m, q)
more_is extended fs p q m e = ap (λ s. s >>= λ m. Ok (record_of fs m.0, m.1)) e

pub more_err : (extended : Bool) (fs : Fields) (p : Part) (e : Refusal × Part) → more_at extended p ≡ Err e → with_more extended (Ok (fs, p)) ≡ Err e
more_err extended fs p e h = ap (λ s. s >>= λ m. Ok (record_of fs m.0, m.1)) h

pub on_ok : {X Y : Type 0} (view : X → Y) (r : Result X Refusal) (read : Read Y) (p q : Part) → ((v : Y) → read ≡ Ok (v, q) → MovesOn p q) → Gives view r read q → OnOk r (MovesOn p q)
on_ok view (Ok x) read p q moved e = moved (view x) e
on_ok view (Err d) read p q moved e = tt

-- ---- elements as types

pub truth_tree : (r : Result Bool Refusal) (p q : Part) → Gives (λ v. v) r (truth_at p) q → Gives truth r (tree_at boolean p) q
unfolding tree_at
truth_tree r p q e = gives_mapped (λ v. v) truth r (truth_at p) q e

pub whole_tree : (low high : ℤ) (p q : Part) (v w : ℤ) → whole_at low high p ≡ Ok (v, q) → v ≡ w → tree_at (integer low high) p ≡ Ok (number w, q)
unfolding tree_at
whole_tree low high p q v w e same = rw e (ap (λ (z : ℤ). Ok (number z, q)) same)

pub whole_err : (low high : ℤ) (p : Part) (e : Refusal × Part) → whole_at low high p ≡ Err e → tree_at (integer low high) p ≡ Err e
unfolding tree_at
whole_err low high p e h = rw h refl

pub whole_moves : (low high : ℤ) → low ≤ℤ high → (p q : Part) (v : ℤ) → whole_at low high p ≡ Ok (v, q) → MovesOn p q
whole_moves low high ordered p q v e = moves (WholeElements low high) (whole_at low high) (only_whole low high ordered) p q v e

pub truth_moves : (r : Result Bool Refusal) (p q : Part) → Gives (λ v. v) r (truth_at p) q → OnOk r (MovesOn p q)
truth_moves r p q e = on_ok (λ v. v) r (truth_at p) p q (λ v h. moves TruthElements truth_at only_truth p q v h) e

-- ---- the format

-- a known number is that of its format
pub known_number : (v : ℕ) → Contains known_formats v → format_number (format_of v) ≡ v
known_number v (zero, below, is) = rw (← is) refl
known_number v (suc zero, below, is) = rw (← is) refl
known_number v (suc (suc k), below, is) = absurd (omega arith)

pub format_tree : (p q : Part) (v : ℕ) → format_at known_formats p ≡ Ok (v, q) → tree_at (format known_formats) p ≡ Ok (number (pos v), q)
unfolding tree_at
format_tree p q v e = rw e refl

pub format_moves : (p q : Part) (v : ℕ) → format_at known_formats p ≡ Ok (v, q) → MovesOn p q
format_moves p q v e = moves (FormatElements known_formats) (format_at known_formats) (only_format known_formats 1 (lit< tt) (0, lit< tt, refl)) p q v e

-- the set is read by the module of its format
pub set_is : (p q : Part) (v : ℕ) (f : Format) (r : Read Tree) → format_at known_formats p ≡ Ok (v, q) → f ≡ format_of v → tree_at (ecall_message f) p ≡ r → set_at p ≡ r
unfolding set_at
set_is p q v f r e is h = rw (e, ← is, h) refl

-- a set of the format of a number that was read has this number in its tree
pub set_same : (f : Format) (v : ℕ) (q : Part) (m : Tree) → Contains known_formats v → f ≡ format_of v → (let r : Read Tree = Ok (record_of (field (number (pos v)) (field m no_fields)) None, q) in r ≡ Ok (record_of (field (number (pos (format_number f))) (field m no_fields)) None, q))
set_same f v q m known e = ap (λ (n : ℕ). Ok (record_of (field (number (pos n)) (field m no_fields)) None, q)) (sym (ap format_number e ∙ known_number v known))

pub set_err : (p : Part) (e : Refusal × Part) → format_at known_formats p ≡ Err e → set_at p ≡ Err e
unfolding set_at
set_err p e h = rw h refl

-- ---- numbers in pairs, and the structure

pub pair_is : (t : Ty) (p m q : Part) (a b x y : ℤ) → tree_at t p ≡ Ok (number a, m) → tree_at t m ≡ Ok (number b, q) → x ≡ a → y ≡ b → tree_at (sequence false (required t (required t no_components))) p ≡ Ok (pair_tree x y, q)
pair_is t p m q a b x y e h f g =
    plain_is _ _ _ refl (required_is _ _ _ _ _ _ _ e (required_is _ _ _ _ _ _ _ h (none_is _ _))) ∙ rw (f, g) refl

pub structure_is : (k : Format) (p c1 c2 c3 c4 c5 c6 c7 c8 c9 c10 c11 c12 q : Part) (extended : Bool) (b1 b2 b3 : Bool) (message control vin storage time heading : Tree) (a b x y : ℤ) (before1 before2 passengers : Option Tree) (more : Option (List Member))
    → truth_at p ≡ Ok (extended, c1) → presence_at 3 c1 ≡ Ok (b1 ∷ b2 ∷ b3 ∷ [], c2) → tree_at octet c2 ≡ Ok (message, c3) → tree_at control_type c3 ≡ Ok (control, c4) → tree_at vehicle_identification c4 ≡ Ok (vin, c5)
    → tree_at (propulsion_storage k) c5 ≡ Ok (storage, c6) → tree_at timestamp c6 ≡ Ok (time, c7) → tree_at vehicle_location c7 ≡ Ok (pair_tree a b, c8) → tree_at octet c8 ≡ Ok (heading, c9)
    → optional_at b1 location_delta c9 ≡ Ok (before1, c10) → optional_at b2 location_delta c10 ≡ Ok (before2, c11) → optional_at b3 octet c11 ≡ Ok (passengers, c12) → more_at extended c12 ≡ Ok (more, q) → x ≡ a → y ≡ b
    → tree_at (msd_structure k) p ≡ Ok (record_of (field message (field control (field vin (field storage (field time (field (pair_tree x y) (field heading (optional_field before1 (optional_field before2 (optional_field passengers no_fields)))))))))) more, q)
unfolding msd_structure
structure_is k p c1 c2 c3 c4 c5 c6 c7 c8 c9 c10 c11 c12 q extended b1 b2 b3 message control vin storage time heading a b x y before1 before2 passengers more e0 e1 e2 e3 e4 e5 e6 e7 e8 e9 e10 e11 e12 f g =
    marked_is _ _ _ _ _ _ _ _ refl e0 e1
    (required_is _ _ _ _ _ _ _ e2 (required_is _ _ _ _ _ _ _ e3 (required_is _ _ _ _ _ _ _ e4 (required_is _ _ _ _ _ _ _ e5 (required_is _ _ _ _ _ _ _ e6 (required_is _ _ _ _ _ _ _ e7 (required_is _ _ _ _ _ _ _ e8
    (optional_is _ _ _ _ _ _ _ _ e9 (optional_is _ _ _ _ _ _ _ _ e10 (optional_is _ _ _ _ _ _ _ _ e11 (none_is _ _)))))))))))
    ∙ more_is _ _ _ _ _ e12
    ∙ rw (f, g) refl
