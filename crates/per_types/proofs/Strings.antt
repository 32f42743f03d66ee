-- The plans of octet strings, object identifiers, enumerations and additions sections.
use Rattle.std.proofs.Common.{◌≡◌, ◌≢◌, ℕ, ◌+◌, ◌-◌, ◌*◌, ◌<◌, ◌≤◌, Bool, true, false, cond, ltb, leb, eqb, ◌&&◌, ◌||◌, List, [], ◌∷◌, ◌++◌, length, map, Option, Some, None, refl, sym, ap, subst, ◌∙◌, append-nil, arith}
use Rattle.std.specs.Prelude.{IsTrue, is_some}
use Rattle.std.specs.List.{list_any}
use Rattle.std.proofs.lemmas.Bool.{eqb-false, ne_eqb, leb-false, lt-leb, ltb-true, lt-ltb}
use Rattle.std.proofs.lemmas.List.{length-map}
use Rattle.std.proofs.lemmas.Nat.{pow_pos}
use Rattle.per_bits.specs.Bits.{digits, value_of, octet_bits, octets_of}
use Rattle.per_bits.specs.Parts.{Small, Length, IsOid, ArcsFrom, AreOctets, Member}
use Rattle.per_bits.proofs.Places.{length_octet_bits}
use Rattle.per_types.specs.Kinds as kind
use Rattle.per_types.specs.Kinds.{Kind, width, fault, Fault, first_bit, Element, element, bits_of, is_last, oid_fault}
use Rattle.per_types.specs.Spelling.{RootIndex, StringElements, OidElements, RootElements, AddedElements, open_cut, OpenElements, SectionElements}
use Rattle.per_types.specs.declared.index.EnumIndex.{EnumIndex}
use Rattle.per_types.specs.declared.index.EnumIndex.TheVariants.{Root, Added}
use Rattle.per_types.proofs.Widths.{only_width, has_width}
use Rattle.per_types.proofs.Cuts.{LooseOpens, LooseSection, from_loose, to_loose}
use Rattle.per_types.proofs.Plans.{Plan, done, ask, chain, Path, Accepted, Follows}
use Rattle.per_types.proofs.Octets.{octets_of-octet_bits, octet_bits-octets_of, length-octets_of, AreOctets-octets_of}
use Rattle.per_types.proofs.Leaves.{asked, chained, path_chain, no_fault, small_of, length_of, accepted_small, small_bits, accepted_length, length_bits, accepted_oid_length, oid_length_bits, accepted_open_length, open_length_bits, accepted_truth, truth_bit}

-- ---- octets

pub accepted_octets : (n : ℕ) (b : List Bool) → length b ≡ 8 * n → Accepted (kind.string_octets n) b
unfolding width fault
accepted_octets n b l = record { width = l; sound = refl }

pub octets_width : (n : ℕ) (b : List Bool) → Accepted (kind.string_octets n) b → length b ≡ 8 * n
unfolding width
octets_width n b a = a.width

-- an element of the octets with their own number
pub octets_element : (os : List ℕ) (n : ℕ) → n ≡ length os → element (kind.string_octets n) (octet_bits os) ≡ element (kind.string_octets (length os)) (octet_bits os)
octets_element os n e = rw e refl

-- octets that were read are some number of octets with their bits
pub record IsOctets (n : ℕ) (b : List Bool) : Type 0 where
  pub count : length (octets_of b) ≡ n
  pub each : AreOctets (octets_of b)
  pub bits : octet_bits (octets_of b) ≡ b

pub are_octets : (n : ℕ) (b : List Bool) → length b ≡ 8 * n → IsOctets n b
are_octets n b l = record { count = length-octets_of n b l; each = AreOctets-octets_of n b l; bits = octet_bits-octets_of n b l }

pub string_element : (n : ℕ) (b : List Bool) (rest first : List Element) → IsOctets n b → rest ≡ first
    → (element (kind.string_octets n) b ∷ rest) ≡ (element (kind.string_octets (length (octets_of b))) (octet_bits (octets_of b)) ∷ first)
string_element n b rest first i same = rw (same, i.bits, i.count) refl

abbrev pub string_plan : Plan (List ℕ)
string_plan = ask kind.string_length (λ b. ask (kind.string_octets (value_of b)) (λ o. done (octets_of o)))

pub follows_string : Follows StringElements string_plan
follows_string = record {
  asked = λ os es s.
      let h = length_of (length os) s.0 s.1 in
      rw s.3 (refl, accepted_length (length os) s.0 h, (ap kind.string_octets (sym h.reads), accepted_octets (value_of s.0) (octet_bits os) (length_octet_bits os ∙ ap (λ (n : ℕ). 8 * n) (sym h.reads)), (refl, octets_of-octet_bits os s.2)));
  spelled = λ os es path.
      let a = asked kind.string_length (λ b. ask (kind.string_octets (value_of b)) (λ o. done (octets_of o))) es os path in
      let o = asked (kind.string_octets (value_of a.bits)) (λ o. done (octets_of o)) a.rest os a.path in
      let i = are_octets (value_of a.bits) o.bits (octets_width (value_of a.bits) o.bits o.accepted) in
      subst (λ (x : List ℕ). StringElements x es) o.path.1 (
        a.bits,
        subst (λ (n : ℕ). Length n a.bits) (sym i.count) (length_bits a.bits a.accepted),
        i.each,
        a.elements ∙ ap (λ (x : List Element). element kind.string_length a.bits ∷ x) (o.elements ∙ rw (o.path.0, i.bits, i.count) refl),
      );
}

-- ---- object identifiers

no_first : (x y : Bool) (f : Fault) (g : Option Fault) → cond (x || y) (Some f) g ≡ None → (x ≡ false) × (y ≡ false) × (g ≡ None)
no_first true y f g h = absurd cc
no_first false true f g h = absurd cc
no_first false false f g h = (refl, refl, h)

and_false : (b : Bool) (c : Bool) → (b && c) ≡ false → IsTrue b → c ≡ false
and_false true c h t = h
and_false false c h t = absurd cc

false_and : (b : Bool) (o : ℕ) → (IsTrue b → o ≢ 128) → (b && eqb o 128) ≡ false
false_and true o h = ne_eqb o 128 (h refl)
false_and false o h = refl

pub arcs_sound : (begins : Bool) (at : ℕ) (os : List ℕ) → ArcsFrom begins os → oid_fault begins at os ≡ None
arcs_sound begins at [] arcs = refl
arcs_sound begins at (o ∷ []) arcs =
    let low : o < 128 = ltb-true o 128 arcs.1 in
    rw (false_and begins o arcs.0, lt-leb 128 o low) refl
arcs_sound begins at (o ∷ p ∷ os) arcs = rw (false_and begins o arcs.0) (arcs_sound (ltb o 128) (at + 1) (p ∷ os) arcs.1)

pub sound_arcs : (begins : Bool) (at : ℕ) (o : ℕ) (os : List ℕ) → oid_fault begins at (o ∷ os) ≡ None → ArcsFrom begins (o ∷ os)
sound_arcs begins at o [] h =
    let f = no_first (begins && eqb o 128) (leb 128 o) _ None h in
    ((λ t. eqb-false o 128 (and_false begins (eqb o 128) f.0 t)), lt-ltb o 128 (leb-false 128 o f.1))
sound_arcs begins at o (p ∷ os) h =
    let f = no_first (begins && eqb o 128) false _ _ h in
    ((λ t. eqb-false o 128 (and_false begins (eqb o 128) f.0 t)), sound_arcs (ltb o 128) (at + 1) p os f.2)

pub accepted_oid_octets : (os : List ℕ) (n : ℕ) → n ≡ length os → AreOctets os → ArcsFrom true os → Accepted (kind.oid_octets n) (octet_bits os)
unfolding width fault
accepted_oid_octets os n e each arcs =
    record { width = length_octet_bits os ∙ ap (λ (k : ℕ). 8 * k) (sym e); sound = ap (oid_fault true 0) (octets_of-octet_bits os each) ∙ arcs_sound true 0 os arcs }

oid_octets_width : (n : ℕ) (b : List Bool) → Accepted (kind.oid_octets n) b → length b ≡ 8 * n
unfolding width
oid_octets_width n b a = a.width

oid_octets_sound : (n : ℕ) (b : List Bool) → Accepted (kind.oid_octets n) b → oid_fault true 0 (octets_of b) ≡ None
unfolding fault
oid_octets_sound n b a = a.sound

pub sound_oid : (os : List ℕ) (n : ℕ) → length os ≡ n → n ≢ 0 → oid_fault true 0 os ≡ None → IsOid os
sound_oid [] n e some h = absurd (some (sym e))
sound_oid (o ∷ os) n e some h = ((λ (g : (o ∷ os) ≡ []). absurd cc), sound_arcs true 0 o os h)

none_nil : (os : List ℕ) → os ≢ [] → length os ≢ 0
none_nil [] h e = h refl
none_nil (o ∷ os) h e = absurd (omega arith)

abbrev pub oid_plan : Plan (List ℕ)
oid_plan = ask kind.oid_length (λ b. ask (kind.oid_octets (value_of b)) (λ o. done (octets_of o)))

pub follows_oid : Follows OidElements oid_plan
follows_oid = record {
  asked = λ os es s.
      let h = length_of (length os) s.0 s.1 in
      rw s.4 (refl, accepted_oid_length (length os) s.0 h (none_nil os s.3.0), (ap kind.oid_octets (sym h.reads), accepted_oid_octets os (value_of s.0) h.reads s.2 s.3.1, (refl, octets_of-octet_bits os s.2)));
  spelled = λ os es path.
      let a = asked kind.oid_length (λ b. ask (kind.oid_octets (value_of b)) (λ o. done (octets_of o))) es os path in
      let o = asked (kind.oid_octets (value_of a.bits)) (λ o. done (octets_of o)) a.rest os a.path in
      let i = are_octets (value_of a.bits) o.bits (oid_octets_width (value_of a.bits) o.bits o.accepted) in
      let l = oid_length_bits a.bits a.accepted in
      subst (λ (x : List ℕ). OidElements x es) o.path.1 (
        a.bits,
        subst (λ (n : ℕ). Length n a.bits) (sym i.count) l.0,
        i.each,
        sound_oid (octets_of o.bits) (value_of a.bits) i.count l.1 (oid_octets_sound (value_of a.bits) o.bits o.accepted),
        a.elements ∙ ap (λ (x : List Element). element kind.oid_length a.bits ∷ x) (o.elements ∙ rw (o.path.0, i.bits, i.count) refl),
      );
}

-- ---- enumerations

module _ (roots : ℕ) where
  pub accepted_root : (i : ℕ) (b : List Bool) → RootIndex roots i b → Accepted (kind.root roots) b
  unfolding width fault
  accepted_root i b s = record { width = only_width (roots - 1) (length b) s.width; sound = rw (lt-leb roots (value_of b) (omega (arith, s.known, s.reads))) refl }

  root_bits : (b : List Bool) → Accepted (kind.root roots) b → RootIndex roots (value_of b) b
  unfolding width fault
  root_bits b a = record { width = has_width (roots - 1) (length b) a.width; known = leb-false roots (value_of b) (no_fault _ _ None a.sound).0; reads = refl }

  -- the elements of an index of an enumeration
  abbrev pub EnumElements : EnumIndex → List Element → Type 0
  EnumElements (Root i) es = RootElements roots i es
  EnumElements (Added i) es = AddedElements i es

  abbrev pub index_plan : Bool → Plan EnumIndex
  index_plan true = ask kind.small (λ b. done (Added (value_of b)))
  index_plan false = ask (kind.root roots) (λ b. done (Root (value_of b)))

  abbrev pub enum_plan : Plan EnumIndex
  enum_plan = ask kind.truth (λ b. index_plan (first_bit b))

  mark_element : (b : List Bool) (x : Bool) → Accepted kind.truth b → first_bit b ≡ x → element kind.truth b ≡ element kind.truth (x ∷ [])
  mark_element b x a e = ap (element kind.truth) (truth_bit b a ∙ ap (λ (y : Bool). y ∷ []) e)

  index_spelled : (x : Bool) (b : List Bool) (rest es : List Element) (v : EnumIndex) → Accepted kind.truth b → first_bit b ≡ x → Path (index_plan x) rest v → es ≡ element kind.truth b ∷ rest → EnumElements v es
  index_spelled true b rest es v a e path h =
      let i = asked kind.small (λ c. done (Added (value_of c))) rest v path in
      subst (λ (y : EnumIndex). EnumElements y es) i.path.1
      (i.bits, small_bits i.bits i.accepted, h ∙ rw (mark_element b true a e) (ap (λ (r : List Element). element kind.truth (true ∷ []) ∷ r) (i.elements ∙ rw i.path.0 refl)))
  index_spelled false b rest es v a e path h =
      let i = asked (kind.root roots) (λ c. done (Root (value_of c))) rest v path in
      subst (λ (y : EnumIndex). EnumElements y es) i.path.1
      (i.bits, root_bits i.bits i.accepted, h ∙ rw (mark_element b false a e) (ap (λ (r : List Element). element kind.truth (false ∷ []) ∷ r) (i.elements ∙ rw i.path.0 refl)))

  enum_asked : (v : EnumIndex) (es : List Element) → EnumElements v es → Path enum_plan es v
  enum_asked (Root i) es s = rw s.2 (refl, accepted_truth false, (refl, accepted_root i s.0 s.1, (refl, ap (λ (j : ℕ). Root j) s.1.reads)))
  enum_asked (Added i) es s =
      let h = small_of i s.0 s.1 in
      rw s.2 (refl, accepted_truth true, (refl, accepted_small i s.0 h, (refl, ap (λ (j : ℕ). Added j) h.reads)))

  pub follows_enum : Follows EnumElements enum_plan
  follows_enum = record {
    asked = enum_asked;
    spelled = λ v es path.
        let a = asked kind.truth (λ b. index_plan (first_bit b)) es v path in
        index_spelled (first_bit a.bits) a.bits a.rest es v a.accepted refl a.path a.elements;
  }

-- ---- open types

abbrev pub open_plan : Plan (List ℕ)
open_plan = ask kind.open_length (λ b. ask (kind.string_octets (value_of b)) (λ o. done (octets_of o)))

-- what an open type's two elements are cut into
open_is : (b : List Bool) (os : List ℕ) (es : List Element) → 1 ≤ length os → Length (length os) b → AreOctets os
    → es ≡ element kind.open_length b ∷ element (kind.string_octets (length os)) (octet_bits os) ∷ [] → OpenElements os es
open_is b os es some l each e =
    let cut : es ≡ open_cut os = e ∙ ap (λ (c : List Bool). element kind.open_length c ∷ element (kind.string_octets (length os)) (octet_bits os) ∷ []) l.1 in
    let bits : bits_of es ≡ (false ∷ digits 7 (length os)) ++ octet_bits os = ap bits_of cut ∙ ap (λ (l : List Bool). (false ∷ digits 7 (length os)) ++ l) (append-nil (octet_bits os)) in
    (record { some = some; few = l.0; each = each; bits = bits }, cut)

pub follows_open : Follows OpenElements open_plan
follows_open = record {
  asked = λ os es s.
      let h = length_of (length os) (false ∷ digits 7 (length os)) (s.0.few, refl) in
      rw s.1 (
        refl,
        accepted_open_length (length os) (false ∷ digits 7 (length os)) h (λ (e : length os ≡ 0). absurd (omega (arith, e, s.0.some))),
        (ap kind.string_octets (sym h.reads), accepted_octets (value_of (false ∷ digits 7 (length os))) (octet_bits os) (length_octet_bits os ∙ ap (λ (n : ℕ). 8 * n) (sym h.reads)), (refl, octets_of-octet_bits os s.0.each)),
      );
  spelled = λ os es path.
      let a = asked kind.open_length (λ b. ask (kind.string_octets (value_of b)) (λ o. done (octets_of o))) es os path in
      let o = asked (kind.string_octets (value_of a.bits)) (λ o. done (octets_of o)) a.rest os a.path in
      let i = are_octets (value_of a.bits) o.bits (octets_width (value_of a.bits) o.bits o.accepted) in
      let l = open_length_bits a.bits a.accepted in
      subst (λ (x : List ℕ). OpenElements x es) o.path.1
      (open_is a.bits (octets_of o.bits) es (at_least (value_of a.bits) (length (octets_of o.bits)) l.1 i.count) (subst (λ (n : ℕ). Length n a.bits) (sym i.count) l.0) i.each
      (a.elements ∙ ap (λ (x : List Element). element kind.open_length a.bits ∷ x) (o.elements ∙ string_element (value_of a.bits) o.bits o.rest [] i o.path.0)));
}
  where
    at_least : (n m : ℕ) → n ≢ 0 → m ≡ n → 1 ≤ m
    at_least n m some e = omega (arith, some)

-- ---- additions

abbrev pub opens_plan : List Bool → Plan (List Member)
opens_plan [] = done []
opens_plan (false ∷ present) = chain (opens_plan present) (λ members. done (None ∷ members))
opens_plan (true ∷ present) =
    ask kind.open_length (λ b. ask (kind.string_octets (value_of b)) (λ o. chain (opens_plan present) (λ members. done (Some (octets_of o) ∷ members))))

pub path_last : {X Y : Type 0} (plan : Plan X) (f : X → Y) (es : List Element) (v : X) → Path plan es v → Path (chain plan (λ x. done (f x))) es (f v)
path_last plan f es v path = subst (λ (a : List Element). Path (chain plan (λ x. done (f x))) a (f v)) (append-nil es) (path_chain plan (λ x. done (f x)) es [] v (f v) path (refl, refl))

opens_asked : (members : List Member) (es : List Element) → LooseOpens members es → Path (opens_plan (map is_some members)) es members
opens_asked [] es s = (s, refl)
opens_asked (None ∷ members) es s = path_last (opens_plan (map is_some members)) (λ ms. None ∷ ms) es members (opens_asked members es s)
opens_asked (Some os ∷ members) es s =
    let h = length_of (length os) s.0 s.3 in
    let one : octets_of (octet_bits os) ≡ os = octets_of-octet_bits os s.4 in
    let rest = path_last (opens_plan (map is_some members)) (λ ms. Some os ∷ ms) s.1 members (opens_asked members s.1 s.5) in
    rw s.6 (
      refl,
      accepted_open_length (length os) s.0 h (λ (e : length os ≡ 0). absurd (omega (arith, s.2))),
      (
        ap kind.string_octets (sym h.reads),
        accepted_octets (value_of s.0) (octet_bits os) (length_octet_bits os ∙ ap (λ (n : ℕ). 8 * n) (sym h.reads)),
        subst (λ (x : List ℕ). Path (chain (opens_plan (map is_some members)) (λ ms. done (Some x ∷ ms))) s.1 (Some os ∷ members)) (sym one) rest,
      ),
    )

opens_spelled : (present : List Bool) (es : List Element) (members : List Member) → Path (opens_plan present) es members → LooseOpens members es × (map is_some members ≡ present)
opens_spelled [] es members path = rw (sym path.1) (path.0, refl)
opens_spelled (false ∷ present) es members path =
    let c = chained (opens_plan present) (λ ms. done (None ∷ ms)) es members path in
    let others = opens_spelled present c.first c.value c.path in
    let same : es ≡ c.first = c.elements ∙ ap (λ (x : List Element). c.first ++ x) c.then.0 ∙ append-nil c.first in
    subst (λ (ms : List Member). LooseOpens ms es × (map is_some ms ≡ false ∷ present)) c.then.1
    (subst (LooseOpens c.value) (sym same) others.0, ap (λ (x : List Bool). false ∷ x) others.1)
opens_spelled (true ∷ present) es members path =
    let a = asked kind.open_length (λ b. ask (kind.string_octets (value_of b)) (λ o. chain (opens_plan present) (λ ms. done (Some (octets_of o) ∷ ms)))) es members path in
    let o = asked (kind.string_octets (value_of a.bits)) (λ o. chain (opens_plan present) (λ ms. done (Some (octets_of o) ∷ ms))) a.rest members a.path in
    let c = chained (opens_plan present) (λ ms. done (Some (octets_of o.bits) ∷ ms)) o.rest members o.path in
    let others = opens_spelled present c.first c.value c.path in
    let i = are_octets (value_of a.bits) o.bits (octets_width (value_of a.bits) o.bits o.accepted) in
    let l = open_length_bits a.bits a.accepted in
    let same : o.rest ≡ c.first = c.elements ∙ ap (λ (x : List Element). c.first ++ x) c.then.0 ∙ append-nil c.first in
    subst (λ (ms : List Member). LooseOpens ms es × (map is_some ms ≡ true ∷ present)) c.then.1 (
      (
        a.bits,
        c.first,
        some_count (value_of a.bits) (length (octets_of o.bits)) l.1 i.count,
        subst (λ (n : ℕ). Length n a.bits) (sym i.count) l.0,
        i.each,
        others.0,
        a.elements ∙ ap (λ (x : List Element). element kind.open_length a.bits ∷ x) (o.elements ∙ string_element (value_of a.bits) o.bits o.rest c.first i same),
      ),
      ap (λ (x : List Bool). true ∷ x) others.1,
    )
  where
    some_count : (n m : ℕ) → n ≢ 0 → m ≡ n → 1 ≤ m
    some_count n m some e = omega (arith, some)

-- the presence bits of a section, n of them
any_value : (present : List Bool) → list_any (λ x. x) present ≡ true → value_of present ≢ 0
any_value [] h = absurd cc
any_value (true ∷ present) h = λ e. absurd (omega (arith, pow_pos (length present)))
any_value (false ∷ present) h = any_value present h

value_any : (present : List Bool) → value_of present ≢ 0 → list_any (λ x. x) present ≡ true
value_any [] h = absurd (h refl)
value_any (true ∷ present) h = refl
value_any (false ∷ present) h = value_any present h

any_some : (members : List Member) → list_any (λ x. x) (map is_some members) ≡ list_any is_some members
any_some [] = refl
any_some (m ∷ members) = rw (any_some members) refl

module _ (n : ℕ) where
  pub accepted_additions : (present : List Bool) → length present ≡ n → value_of present ≢ 0 → Accepted (kind.additions n) present
  unfolding width fault
  accepted_additions present l some = record { width = l; sound = rw (ne_eqb (value_of present) 0 some) refl }

  additions_bits : (present : List Bool) → Accepted (kind.additions n) present → (length present ≡ n) × (value_of present ≢ 0)
  unfolding width fault
  additions_bits present a = (a.width, eqb-false (value_of present) 0 (no_fault _ _ None a.sound).0)

abbrev pub section_plan : Plan (List Member)
section_plan = ask kind.small (λ b. ask (kind.additions (value_of b + 1)) (λ present. opens_plan present))

count_of : (members : List Member) (n : ℕ) → 1 ≤ length members → n ≡ length members - 1 → length members ≡ n + 1
count_of members n some e = omega (arith, some, e)

follows_loose : Follows LooseSection section_plan
follows_loose = record {
  asked = λ members es s.
      let h = small_of (length members - 1) s.0 s.5 in
      let count = count_of members (value_of s.0) s.2 h.reads in
      rw s.7 (
        refl,
        accepted_small (length members - 1) s.0 h,
        (
          ap kind.additions count,
          accepted_additions (value_of s.0 + 1) (map is_some members) (length-map members is_some ∙ count) (any_value (map is_some members) (any_some members ∙ s.4)),
          opens_asked members s.1 s.6,
        ),
      );
  spelled = λ members es path.
      let a = asked kind.small (λ b. ask (kind.additions (value_of b + 1)) (λ present. opens_plan present)) es members path in
      let p = asked (kind.additions (value_of a.bits + 1)) (λ present. opens_plan present) a.rest members a.path in
      let opens = opens_spelled p.bits p.rest members p.path in
      let bits = additions_bits (value_of a.bits + 1) p.bits p.accepted in
      let count : length members ≡ value_of a.bits + 1 = sym (length-map members is_some) ∙ ap length opens.1 ∙ bits.0 in
      let small = small_bits a.bits a.accepted in (
        a.bits,
        p.rest,
        omega (arith, count),
        omega (arith, count, small.0),
        sym (any_some members) ∙ ap (list_any (λ x. x)) opens.1 ∙ value_any p.bits bits.1,
        subst (λ (n : ℕ). Small n a.bits) (less_one (length members) (value_of a.bits) count) small,
        opens.0,
        a.elements ∙ ap (λ (x : List Element). element kind.small a.bits ∷ x) (p.elements ∙ additions_element (value_of a.bits + 1) (length members) p.bits (map is_some members) p.rest (sym count) (sym opens.1)),
      );
}
  where
    additions_element : (n m : ℕ) (b c : List Bool) (rest : List Element) → n ≡ m → b ≡ c → (element (kind.additions n) b ∷ rest) ≡ (element (kind.additions m) c ∷ rest)
    additions_element n m b c rest e f = rw (e, f) refl

    less_one : (m n : ℕ) → m ≡ n + 1 → n ≡ m - 1
    less_one m n e = omega (arith, e)

pub follows_section : Follows SectionElements section_plan
follows_section = record {
  asked = λ members es s. follows_loose.asked members es (to_loose members es s);
  spelled = λ members es path. from_loose members es (follows_loose.spelled members es path);
}
