-- Each reading is the run of its plan.
use Rattle.std.proofs.Common.{◌≡◌, ℕ, zero, suc, ◌+◌, ◌-◌, ◌*◌, Bool, true, false, List, [], ◌∷◌, length, take, Some, None, Ok, Err, cond, refl, sym, ap, ◌∙◌, arith}
use Rattle.std.proofs.lemmas.List.{length-append, take_at}
use Rattle.std.specs.Prelude.{ℤ, pos}
use Rattle.per_bits.specs.Bits.{Part, value_of, octets_of, front}
use Rattle.per_types.specs.declared.index.EnumIndex.TheVariants.{Added}
use Rattle.per_types.specs.Kinds as kind
use Rattle.per_types.specs.Kinds.{Kind, first_bit, width, bits_of}
use Rattle.per_types.specs.Spelling.{SectionElements}
use Rattle.per_bits.specs.Parts.{Member, members_of}
use Rattle.per_bits.proofs.SectionLaws.{members_read}
use Rattle.per_types.specs.Types.{Tree, truth, number, text, bytes, record_of, Fields, field, absent, Ty, boolean, integer, characters, octet_string, relative_oid, enumerated, format, sequence, Components, no_components, required, optional, default, presence_count}
use Rattle.per_types.specs.Stops.{Read, element_at}
use Rattle.per_types.specs.Reading.{◌>>=◌, truth_at, whole_at, presence_at, character_at, small_at, length_at, octets_at, oid_at, oid_length_at, open_length_at, string_at, object_at, added_at, root_at, enum_at, format_at, open_at, content_at, additions_at, member_at, opens_at, over_at, section_at, members_at, text_at, extended_at, more_at, index_tree, tree_at, fields_at}
use Rattle.per_types.proofs.Plans.{Plan, done, ask, chain, run, run_takes, next_next, next_along, element_taken}
use Rattle.per_types.proofs.Leaves.{truth_plan, whole_plan, presence_plan, character_plan, text_plan, format_plan, small_plan, length_plan}
use Rattle.per_types.proofs.Strings.{string_plan, oid_plan, index_plan, enum_plan, open_plan, opens_plan, section_plan, follows_section}
use Rattle.per_types.proofs.TypePlans.{plan, fields_plan, extended_plan, more_plan, with_fields}

pub run-chain : {X Y : Type 0} (p : Plan X) (next : X → Plan Y) (at : Part) → run (chain p next) at ≡ (run p at >>= λ x. run (next x.0) x.1)
run-chain (done x) next at = refl
run-chain (ask k next_of) next at =
    next_along (element_at k at) (λ b. run (chain (next_of b.0) next) b.1) (λ b. run (next_of b.0) b.1 >>= λ x. run (next x.0) x.1) (λ b. run-chain (next_of b.0) next b.1)
    ∙ sym (next_next (element_at k at) (λ b. run (next_of b.0) b.1) (λ x. run (next x.0) x.1))

-- two steps that agree, the second wherever the first leads
pub both : {A B : Type 0} (r s : Read A) (f g : A × Part → Read B) → r ≡ s → ((x : A × Part) → f x ≡ g x) → (r >>= f) ≡ (s >>= g)
both r s f g e h = next_along r f g h ∙ ap (λ (t : Read _). t >>= g) e

-- a value and what is left, with the value seen by f
abbrev pub seen : {A B : Type 0} → (A → B) → A × Part → Read B
seen f x = Ok (f x.0, x.1)

pub mapped_run : {A B : Type 0} (p : Plan A) (f : A → B) (at : Part) (r : Read A) → r ≡ run p at → (r >>= seen f) ≡ run (chain p (λ x. done (f x))) at
mapped_run p f at r e = ap (λ (s : Read _). s >>= seen f) e ∙ sym (run-chain p (λ x. done (f x)) at)

pub truth_run : (p : Part) → truth_at p ≡ run truth_plan p
unfolding truth_at
truth_run p = refl

pub whole_run : (low high : ℤ) (p : Part) → whole_at low high p ≡ run (whole_plan low high) p
unfolding whole_at
whole_run low high p = refl

keep : {A : Type 0} (r : Read A) → r ≡ (r >>= seen (λ x. x))
keep (Ok x) = refl
keep (Err e) = refl

pub presence_run : (n : ℕ) (p : Part) → presence_at n p ≡ run (presence_plan n) p
unfolding presence_at
presence_run n p = keep (element_at (kind.presence n) p)

pub character_run : (p : Part) → character_at p ≡ run character_plan p
unfolding character_at
character_run p = refl

pub small_run : (p : Part) → small_at p ≡ run small_plan p
unfolding small_at
small_run p = refl

pub length_run : (p : Part) → length_at p ≡ run length_plan p
unfolding length_at
length_run p = refl

pub format_run : (known : List ℕ) (p : Part) → format_at known p ≡ run (format_plan known) p
unfolding format_at
format_run known p = refl

pub text_run : (n : ℕ) (p : Part) → text_at n p ≡ run (text_plan n) p
unfolding text_at
text_run zero p = refl
text_run (suc n) p =
    both (character_at p) (run character_plan p) _ (λ c. run (chain (text_plan n) (λ cs. done (c.0 ∷ cs))) c.1) (character_run p)
    (λ c. mapped_run (text_plan n) (λ cs. c.0 ∷ cs) c.1 (text_at n c.1) (text_run n c.1))
    ∙ sym (run-chain character_plan (λ c. chain (text_plan n) (λ cs. done (c ∷ cs))) p)

index_run : (roots : ℕ) (x : Bool) (p : Part) → cond x (added_at p) (root_at roots p) ≡ run (index_plan roots x) p
unfolding added_at root_at small_at
index_run roots true p = next_next (element_at kind.small p) (seen value_of) (seen (λ n. Added n))
index_run roots false p = refl

pub enum_run : (roots : ℕ) (p : Part) → enum_at roots p ≡ run (enum_plan roots) p
unfolding enum_at truth_at
enum_run roots p =
    next_next (element_at kind.truth p) (seen first_bit) (λ x. cond x.0 (added_at x.1) (root_at roots x.1))
    ∙ next_along (element_at kind.truth p) (λ b. cond (first_bit b.0) (added_at b.1) (root_at roots b.1)) (λ b. run (index_plan roots (first_bit b.0)) b.1) (λ b. index_run roots (first_bit b.0) b.1)

-- ---- octets behind a length

next_known : {A B : Type 0} (r : Read A) (f g : A × Part → Read B) → ((x : A × Part) → r ≡ Ok x → f x ≡ g x) → (r >>= f) ≡ (r >>= g)
next_known (Ok x) f g h = h x refl
next_known (Err d) f g h = refl

-- the part at the front of an element's bits has its bits
element_front : (k : Kind) (p : Part) (n : ℕ) (b : List Bool × Part) → width k ≡ 8 * n → element_at k p ≡ Ok b → take (8 * n) p.bits ≡ b.0
element_front k p n b w e =
    let t = element_taken k p b e in
    ap (take (8 * n)) t.parts ∙ take_at b.0 b.1.bits (8 * n) (t.accepted.width ∙ w)

octets_step : (k : Kind) (p : Part) (n : ℕ) → width k ≡ 8 * n → (element_at k p >>= λ b. Ok (octets_of (take (8 * n) p.bits), b.1)) ≡ (element_at k p >>= seen octets_of)
octets_step k p n w = next_known (element_at k p) (λ b. Ok (octets_of (take (8 * n) p.bits), b.1)) (seen octets_of) (λ b e. ap (λ (x : List Bool). seen octets_of (x, b.1)) (element_front k p n b w e))

string_width : (n : ℕ) → width (kind.string_octets n) ≡ 8 * n
unfolding width
string_width n = refl

oid_width : (n : ℕ) → width (kind.oid_octets n) ≡ 8 * n
unfolding width
oid_width n = refl

-- the octets of a part that was read behind a length
pub string_run : (p : Part) → string_at p ≡ run string_plan p
unfolding string_at octets_at length_at
string_run p =
    ap (λ (r : Read Part). r >>= seen (λ o. octets_of o.bits)) (next_next (element_at kind.string_length p) (seen value_of) (λ n. element_at (kind.string_octets n.0) n.1 >>= λ b. Ok (front n.1 (8 * n.0), b.1)))
    ∙ next_next (element_at kind.string_length p) (λ n. element_at (kind.string_octets (value_of n.0)) n.1 >>= λ b. Ok (front n.1 (8 * value_of n.0), b.1)) (seen (λ o. octets_of o.bits))
    ∙ next_along (element_at kind.string_length p) _ (λ n. element_at (kind.string_octets (value_of n.0)) n.1 >>= seen octets_of)
    (λ n. next_next (element_at (kind.string_octets (value_of n.0)) n.1) (λ b. Ok (front n.1 (8 * value_of n.0), b.1)) (seen (λ o. octets_of o.bits))
    ∙ octets_step (kind.string_octets (value_of n.0)) n.1 (value_of n.0) (string_width (value_of n.0)))

pub oid_run : (p : Part) → object_at p ≡ run oid_plan p
unfolding object_at oid_at oid_length_at
oid_run p =
    ap (λ (r : Read Part). r >>= seen (λ o. octets_of o.bits)) (next_next (element_at kind.oid_length p) (seen value_of) (λ n. element_at (kind.oid_octets n.0) n.1 >>= λ b. Ok (front n.1 (8 * n.0), b.1)))
    ∙ next_next (element_at kind.oid_length p) (λ n. element_at (kind.oid_octets (value_of n.0)) n.1 >>= λ b. Ok (front n.1 (8 * value_of n.0), b.1)) (seen (λ o. octets_of o.bits))
    ∙ next_along (element_at kind.oid_length p) _ (λ n. element_at (kind.oid_octets (value_of n.0)) n.1 >>= seen octets_of)
    (λ n. next_next (element_at (kind.oid_octets (value_of n.0)) n.1) (λ b. Ok (front n.1 (8 * value_of n.0), b.1)) (seen (λ o. octets_of o.bits))
    ∙ octets_step (kind.oid_octets (value_of n.0)) n.1 (value_of n.0) (oid_width (value_of n.0)))

-- ---- open types

open_run : {A : Type 0} (p : Part) (next : Part × Part → Read A) → (open_at p >>= next) ≡ (element_at kind.open_length p >>= λ n. element_at (kind.string_octets (value_of n.0)) n.1 >>= λ o. next (front n.1 (8 * value_of n.0), o.1))
unfolding open_at open_length_at
open_run p next =
    ap (λ (r : Read Part). r >>= next) (next_next (element_at kind.open_length p) (seen value_of) (λ n. element_at (kind.string_octets n.0) n.1 >>= λ b. Ok (front n.1 (8 * n.0), b.1)))
    ∙ next_next (element_at kind.open_length p) (λ n. element_at (kind.string_octets (value_of n.0)) n.1 >>= λ b. Ok (front n.1 (8 * value_of n.0), b.1)) next
    ∙ next_along (element_at kind.open_length p) (λ n. (element_at (kind.string_octets (value_of n.0)) n.1 >>= λ b. Ok (front n.1 (8 * value_of n.0), b.1)) >>= next) (λ n. element_at (kind.string_octets (value_of n.0)) n.1 >>= λ o. next (front n.1 (8 * value_of n.0), o.1))
    (λ n. next_next (element_at (kind.string_octets (value_of n.0)) n.1) (λ b. Ok (front n.1 (8 * value_of n.0), b.1)) next)

pub content_run : (p : Part) → content_at p ≡ run open_plan p
unfolding content_at
content_run p =
    open_run p (seen (λ o. octets_of o.bits))
    ∙ next_along (element_at kind.open_length p) _ (λ n. element_at (kind.string_octets (value_of n.0)) n.1 >>= seen octets_of)
    (λ n. octets_step (kind.string_octets (value_of n.0)) n.1 (value_of n.0) (string_width (value_of n.0)))

-- ---- additions

-- where a reading leads, without its value
abbrev gone : {A : Type 0} → A × Part → Read (Unit {0})
gone x = Ok (tt, x.1)

gone_on : {A B : Type 0} (p : Plan A) (f : A → B) (at : Part) → (run (chain p (λ x. done (f x))) at >>= gone) ≡ (run p at >>= gone)
gone_on p f at =
    ap (λ (r : Read _). r >>= gone) (run-chain p (λ x. done (f x)) at)
    ∙ next_next (run p at) (seen f) gone

pub opens_run : (present : List Bool) (p : Part) → opens_at present p ≡ (run (opens_plan present) p >>= gone)
unfolding opens_at member_at
opens_run [] p = refl
opens_run (false ∷ present) p = opens_run present p ∙ sym (gone_on (opens_plan present) (λ ms. None ∷ ms) p)
opens_run (true ∷ present) p =
    next_next (open_at p) gone (λ m. opens_at present m.1)
    ∙ open_run p (λ o. opens_at present o.1)
    ∙ next_along (element_at kind.open_length p) _ _
    (λ n.
    next_along (element_at (kind.string_octets (value_of n.0)) n.1) (λ o. opens_at present o.1) (λ o. run (chain (opens_plan present) (λ ms. done (Some (octets_of o.0) ∷ ms))) o.1 >>= gone)
    (λ o. opens_run present o.1 ∙ sym (gone_on (opens_plan present) (λ ms. Some (octets_of o.0) ∷ ms) o.1))
    ∙ sym (next_next (element_at (kind.string_octets (value_of n.0)) n.1) (λ o. run (chain (opens_plan present) (λ ms. done (Some (octets_of o.0) ∷ ms))) o.1) gone))
    ∙ sym (next_next (element_at kind.open_length p) (λ n. element_at (kind.string_octets (value_of n.0)) n.1 >>= λ o. run (chain (opens_plan present) (λ ms. done (Some (octets_of o.0) ∷ ms))) o.1) gone)

pub over_run : (p : Part) → over_at p ≡ (run section_plan p >>= gone)
unfolding over_at small_at additions_at
over_run p =
    next_next (element_at kind.small p) (seen value_of) (λ n. element_at (kind.additions (n.0 + 1)) n.1 >>= λ present. opens_at present.0 present.1)
    ∙ next_along (element_at kind.small p) _ _
    (λ n.
    next_along (element_at (kind.additions (value_of n.0 + 1)) n.1) (λ present. opens_at present.0 present.1) (λ present. run (opens_plan present.0) present.1 >>= gone) (λ present. opens_run present.0 present.1)
    ∙ sym (next_next (element_at (kind.additions (value_of n.0 + 1)) n.1) (λ present. run (opens_plan present.0) present.1) gone))
    ∙ sym (next_next (element_at kind.small p) (λ n. element_at (kind.additions (value_of n.0 + 1)) n.1 >>= λ present. run (opens_plan present.0) present.1) gone)

-- the additions that the bits of a section spell are those that its plan gives
section_reads : (p : Part) (x : List Member × Part) → run section_plan p ≡ Ok x → members_of (take (length p.bits - length x.1.bits) p.bits) ≡ x.0
section_reads p x e =
    let t = run_takes SectionElements section_plan follows_section p x e in
    let n : length p.bits - length x.1.bits ≡ length (bits_of t.0) = omega (arith, ap length t.2, length-append (bits_of t.0) x.1.bits) in
    ap (λ (k : ℕ). members_of (take k p.bits)) n
    ∙ ap (λ (l : List Bool). members_of (take (length (bits_of t.0)) l)) t.2
    ∙ ap members_of (take_at (bits_of t.0) x.1.bits (length (bits_of t.0)) refl)
    ∙ members_read x.0 (bits_of t.0) t.1.0

pub members_run : (p : Part) → members_at p ≡ run section_plan p
unfolding members_at section_at
members_run p =
    next_next (over_at p) (λ over. Ok (front p (length p.bits - length over.1.bits), over.1)) (λ o. Ok (members_of o.0.bits, o.1))
    ∙ ap (λ (r : Read (Unit {0})). r >>= λ over. Ok (members_of (take (length p.bits - length over.1.bits) p.bits), over.1)) (over_run p)
    ∙ next_next (run section_plan p) gone (λ over. Ok (members_of (take (length p.bits - length over.1.bits) p.bits), over.1))
    ∙ next_known (run section_plan p) (λ x. Ok (members_of (take (length p.bits - length x.1.bits) p.bits), x.1)) (seen (λ ms. ms)) (λ x e. ap (λ (ms : List Member). Ok (ms, x.1)) (section_reads p x e))
    ∙ sym (keep (run section_plan p))

-- ---- all types

extended_run : (marked : Bool) (p : Part) → extended_at marked p ≡ run (extended_plan marked) p
unfolding extended_at truth_at
extended_run false p = refl
extended_run true p = refl

more_run : (extended : Bool) (p : Part) → more_at extended p ≡ run (more_plan extended) p
unfolding more_at
more_run false p = refl
more_run true p = mapped_run section_plan (λ ms. Some ms) p (members_at p) (members_run p)

with_fields_run : (extended : Bool) (fs : Fields) (p : Part) → (more_at extended p >>= seen (λ more. record_of fs more)) ≡ run (with_fields extended fs) p
with_fields_run extended fs p = mapped_run (more_plan extended) (λ more. record_of fs more) p (more_at extended p) (more_run extended p)

sequence_run : (marked : Bool) (cs : Components) → ((present : List Bool) (p : Part) → fields_at cs present p ≡ run (fields_plan cs present) p) → (p : Part) → tree_at (sequence marked cs) p ≡ run (plan (sequence marked cs)) p
unfolding tree_at
sequence_run marked cs fields p =
    both (extended_at marked p) (run (extended_plan marked) p) _ (λ extended. run (behind_mark extended.0) extended.1) (extended_run marked p)
    (λ extended.
    both (presence_at (presence_count cs) extended.1) (run (presence_plan (presence_count cs)) extended.1) _ (λ present. run (behind_presence extended.0 present.0) present.1) (presence_run (presence_count cs) extended.1)
    (λ present.
    both (fields_at cs present.0 present.1) (run (fields_plan cs present.0) present.1) _ (λ fs. run (with_fields extended.0 fs.0) fs.1) (fields present.0 present.1) (λ fs. with_fields_run extended.0 fs.0 fs.1)
    ∙ sym (run-chain (fields_plan cs present.0) (λ fs. with_fields extended.0 fs) present.1))
    ∙ sym (run-chain (presence_plan (presence_count cs)) (behind_presence extended.0) extended.1))
    ∙ sym (run-chain (extended_plan marked) behind_mark p)
  where
    behind_presence : Bool → List Bool → Plan Tree
    behind_presence extended present = chain (fields_plan cs present) (λ fs. with_fields extended fs)

    behind_mark : Bool → Plan Tree
    behind_mark extended = chain (presence_plan (presence_count cs)) (behind_presence extended)

component_run : (t : Ty) (cs : Components) (present : List Bool) (p : Part) → tree_at t p ≡ run (plan t) p → ((q : Part) → fields_at cs present q ≡ run (fields_plan cs present) q)
    → (tree_at t p >>= λ v. fields_at cs present v.1 >>= seen (λ fs. field v.0 fs)) ≡ run (chain (plan t) (λ v. chain (fields_plan cs present) (λ fs. done (field v fs)))) p
component_run t cs present p one others =
    both (tree_at t p) (run (plan t) p) (λ v. fields_at cs present v.1 >>= seen (λ fs. field v.0 fs)) (λ v. run (chain (fields_plan cs present) (λ fs. done (field v.0 fs))) v.1) one
    (λ v. mapped_run (fields_plan cs present) (λ fs. field v.0 fs) v.1 (fields_at cs present v.1) (others v.1))
    ∙ sym (run-chain (plan t) (λ v. chain (fields_plan cs present) (λ fs. done (field v fs))) p)

mutual
  unfolding tree_at fields_at

  pub tree_run : (t : Ty) (p : Part) → tree_at t p ≡ run (plan t) p
  tree_run boolean p = mapped_run truth_plan (λ v. truth v) p (truth_at p) (truth_run p)
  tree_run (integer low high) p = mapped_run (whole_plan low high) (λ v. number v) p (whole_at low high p) (whole_run low high p)
  tree_run (characters n) p = mapped_run (text_plan n) (λ v. text v) p (text_at n p) (text_run n p)
  tree_run octet_string p = mapped_run string_plan (λ v. bytes v) p (string_at p) (string_run p)
  tree_run relative_oid p = mapped_run oid_plan (λ v. bytes v) p (object_at p) (oid_run p)
  tree_run (enumerated roots) p = mapped_run (enum_plan roots) (λ v. index_tree v) p (enum_at roots p) (enum_run roots p)
  tree_run (format known) p = mapped_run (format_plan known) (λ v. number (pos v)) p (format_at known p) (format_run known p)
  tree_run (sequence marked cs) p = sequence_run marked cs (fields_run cs) p

  pub fields_run : (cs : Components) (present : List Bool) (p : Part) → fields_at cs present p ≡ run (fields_plan cs present) p
  fields_run no_components present p = refl
  fields_run (required t cs) present p = component_run t cs present p (tree_run t p) (fields_run cs present)
  fields_run (optional t cs) (true ∷ present) p = component_run t cs present p (tree_run t p) (fields_run cs present)
  fields_run (optional t cs) (false ∷ present) p = mapped_run (fields_plan cs present) (λ fs. absent fs) p (fields_at cs present p) (fields_run cs present p)
  fields_run (optional t cs) [] p = refl
  fields_run (default t d cs) (true ∷ present) p = component_run t cs present p (tree_run t p) (fields_run cs present)
  fields_run (default t d cs) (false ∷ present) p = mapped_run (fields_plan cs present) (λ fs. field d fs) p (fields_at cs present p) (fields_run cs present p)
  fields_run (default t d cs) [] p = refl
