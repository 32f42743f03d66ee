-- Whatever was accepted, something may follow: so where a type has values, each refusal comes behind the
-- first elements of a spelling.
use Rattle.std.proofs.Common.{◌≡◌, ℕ, zero, suc, ◌+◌, ◌-◌, ◌*◌, ◌^◌, ◌<◌, ◌≤◌, Bool, true, false, List, [], ◌∷◌, length, replicate, Some, None, refl, sym, ap, subst, ◌∙◌, arith}
use Rattle.std.specs.Prelude.{ℤ, pos, ◌+ℤ◌, ◌≤ℤ◌, slice_index}
use Rattle.std.specs.List.{Contains}
use Rattle.std.proofs.lemmas.Int.{ints}
use Rattle.std.proofs.lemmas.List.{length-replicate}
use Rattle.std.proofs.lemmas.Nat.{pow_pos}
use Rattle.std.proofs.Math.Nat.{mod-eq_of_lt}
use Rattle.per_bits.specs.Bits.{digits, value_of, octet_bits, octets_of}
use Rattle.per_bits.specs.Parts.{AreOctets, ArcsFrom}
use Rattle.per_bits.proofs.Digits.{length_digits, value_digits}
use Rattle.per_types.specs.Kinds as kind
use Rattle.per_types.specs.Kinds.{Kind, first_bit, alphabet, span, whole_width, root_width, Element}
use Rattle.per_types.proofs.Widths.{has_width}
use Rattle.per_types.specs.Types.{truth, number, text, bytes, record_of, field, absent, Ty, boolean, integer, characters, octet_string, relative_oid, enumerated, format, sequence, Components, no_components, required, optional, default, presence_count}
use Rattle.per_types.specs.Stops.{HasValues, HaveValues}
use Rattle.per_types.specs.Reading.{index_tree}
use Rattle.per_types.proofs.Plans.{Plan, done, chain, Live, Accepted}
use Rattle.per_types.proofs.Leaves.{live_chain, Headed, headed, accepted_truth, accepted_small, accepted_length, accepted_oid_length, accepted_open_length, accepted_presence, accepted_character, accepted_format, accepted_whole, truth_plan, whole_plan, presence_plan, character_plan, text_plan, format_plan, small_plan, length_plan}
use Rattle.per_types.proofs.Strings.{accepted_octets, accepted_oid_octets, accepted_root, accepted_additions, string_plan, oid_plan, index_plan, enum_plan, open_plan, opens_plan, section_plan}
use Rattle.per_types.proofs.TypePlans.{plan, fields_plan, extended_plan, more_plan, with_fields}

value_zeros : (n : ℕ) → value_of (replicate n false) ≡ 0
value_zeros zero = refl
value_zeros (suc n) = value_zeros n

zeros : (n : ℕ) → length (replicate n false) ≡ n
zeros n = length-replicate n false

one_length : Headed 7 1 (false ∷ digits 7 1)
one_length = headed 7 1 (false ∷ digits 7 1) (omega arith) refl

pub live_truth : Live truth_plan
live_truth = ((false ∷ [], accepted_truth false), λ b a. tt)

pub live_whole : (low high : ℤ) → low ≤ℤ high → Live (whole_plan low high)
live_whole low high h =
    let b = replicate (whole_width low high) false in
    ((b, accepted_whole low high low b (record { above = omega (arith, ints); below = h; width = has_width (span low high) (length b) (zeros (whole_width low high)); reads = ap (λ (n : ℕ). low +ℤ pos n) (value_zeros (whole_width low high)) ∙ omega (arith, ints) })), λ c a. tt)

pub live_presence : (n : ℕ) → Live (presence_plan n)
live_presence n = ((replicate n false, accepted_presence n (replicate n false) (zeros n)), λ b a. tt)

pub live_small : Live small_plan
live_small = ((false ∷ digits 6 0, accepted_small 0 (false ∷ digits 6 0) (headed 6 0 (false ∷ digits 6 0) (omega arith) refl)), λ b a. tt)

pub live_length : Live length_plan
live_length = ((false ∷ digits 7 1, accepted_length 1 (false ∷ digits 7 1) one_length), λ b a. tt)

pub live_character : Live character_plan
live_character =
    ((replicate 6 false, accepted_character (slice_index alphabet 0) (replicate 6 false) (record { width = refl; known = omega arith; reads = refl })), λ b a. tt)

live_last : {X Y : Type 0} (p : Plan X) (f : X → Y) → Live p → Live (chain p (λ x. done (f x)))
live_last p f live = live_chain p (λ x. done (f x)) live (λ x es path. tt)

pub live_text : (n : ℕ) → Live (text_plan n)
live_text zero = tt
live_text (suc n) =
    live_chain character_plan (λ c. chain (text_plan n) (λ cs. done (c ∷ cs))) live_character (λ c es path. live_last (text_plan n) (λ cs. c ∷ cs) (live_text n))

pub live_format : (known : List ℕ) (id : ℕ) → id < 256 → Contains known id → Live (format_plan known)
live_format known id small c =
    let reads : value_of (digits 8 id) ≡ id = value_digits 8 id ∙ mod-eq_of_lt (let h : id < 2 ^ 8 = small in h) in
    ((digits 8 id, accepted_format known (digits 8 id) (length_digits 8 id) (subst (Contains known) (sym reads) c)), λ b a. tt)

live_octets : (n : ℕ) → (b : List Bool) × Accepted (kind.string_octets n) b
live_octets n = (replicate (8 * n) false, accepted_octets n (replicate (8 * n) false) (zeros (8 * n)))

pub live_string : Live string_plan
live_string = ((false ∷ digits 7 1, accepted_length 1 (false ∷ digits 7 1) one_length), λ b a. (live_octets (value_of b), λ o c. tt))

small_arcs : (n : ℕ) → ArcsFrom true (replicate n 0)
small_arcs zero = refl
small_arcs (suc n) = ((λ t e. absurd (omega arith)), small_arcs n)

zero_octets : (n : ℕ) → AreOctets (replicate n 0)
zero_octets zero = tt
zero_octets (suc n) = (omega arith, zero_octets n)

pub live_oid : Live oid_plan
live_oid = (
  (false ∷ digits 7 1, accepted_oid_length 1 (false ∷ digits 7 1) one_length (λ e. absurd (omega arith))),
  λ b a. ((octet_bits (replicate (value_of b) 0), accepted_oid_octets (replicate (value_of b) 0) (value_of b) (sym (length-replicate (value_of b) 0)) (zero_octets (value_of b)) (small_arcs (value_of b))), λ o c. tt),
)

live_index : (roots : ℕ) → 1 ≤ roots → (x : Bool) → Live (index_plan roots x)
live_index roots some true = live_small
live_index roots some false =
    let b = replicate (root_width roots) false in
    ((b, accepted_root roots 0 b (record { width = has_width (roots - 1) (length b) (zeros (root_width roots)); known = some; reads = value_zeros (root_width roots) })), λ c a. tt)

pub live_enum : (roots : ℕ) → 1 ≤ roots → Live (enum_plan roots)
live_enum roots some = ((false ∷ [], accepted_truth false), λ b a. live_index roots some (first_bit b))

pub live_open : Live open_plan
live_open = ((false ∷ digits 7 1, accepted_open_length 1 (false ∷ digits 7 1) one_length (λ e. absurd (omega arith))), λ b a. (live_octets (value_of b), λ o c. tt))

pub live_opens : (present : List Bool) → Live (opens_plan present)
live_opens [] = tt
live_opens (false ∷ present) = live_last (opens_plan present) (λ ms. None ∷ ms) (live_opens present)
live_opens (true ∷ present) = (
  (false ∷ digits 7 1, accepted_open_length 1 (false ∷ digits 7 1) one_length (λ e. absurd (omega arith))),
  λ b a. (live_octets (value_of b), λ o c. live_last (opens_plan present) (λ ms. Some (octets_of o) ∷ ms) (live_opens present)),
)

one_present : (n : ℕ) → Accepted (kind.additions (n + 1)) (true ∷ replicate n false)
one_present n = accepted_additions (n + 1) (true ∷ replicate n false) (omega (arith, zeros n)) (λ e. absurd (omega (arith, pow_pos (length (replicate n false)))))

pub live_section : Live section_plan
live_section = (live_small.0, λ b a. ((true ∷ replicate (value_of b) false, one_present (value_of b)), λ present c. live_opens present))

live_extended : (marked : Bool) → Live (extended_plan marked)
live_extended false = tt
live_extended true = ((false ∷ [], accepted_truth false), λ b a. tt)

live_more : (extended : Bool) → Live (more_plan extended)
live_more false = tt
live_more true = live_last section_plan (λ ms. Some ms) live_section

-- a component and those behind it
live_component : (t : Ty) (cs : Components) (present : List Bool) → Live (plan t) → Live (fields_plan cs present) → Live (chain (plan t) (λ v. chain (fields_plan cs present) (λ fs. done (field v fs))))
live_component t cs present one others = live_chain (plan t) (λ v. chain (fields_plan cs present) (λ fs. done (field v fs))) one (λ v es p. live_last (fields_plan cs present) (λ fs. field v fs) others)

live_sequence : (marked : Bool) (cs : Components) → ((present : List Bool) → Live (fields_plan cs present)) → Live (plan (sequence marked cs))
live_sequence marked cs live =
    live_chain (extended_plan marked) (λ extended. chain (presence_plan (presence_count cs)) (λ present. chain (fields_plan cs present) (λ fs. with_fields extended fs))) (live_extended marked)
    (λ extended es p. live_chain (presence_plan (presence_count cs)) (λ present. chain (fields_plan cs present) (λ fs. with_fields extended fs)) (live_presence (presence_count cs))
    (λ present ds q. live_chain (fields_plan cs present) (λ fs. with_fields extended fs) (live present) (λ fs gs r. live_last (more_plan extended) (λ more. record_of fs more) (live_more extended))))

mutual
  pub live_type : (t : Ty) → HasValues t → Live (plan t)
  live_type boolean h = live_last truth_plan (λ v. truth v) live_truth
  live_type (integer low high) h = live_last (whole_plan low high) (λ v. number v) (live_whole low high h)
  live_type (characters n) h = live_last (text_plan n) (λ v. text v) (live_text n)
  live_type octet_string h = live_last string_plan (λ v. bytes v) live_string
  live_type relative_oid h = live_last oid_plan (λ v. bytes v) live_oid
  live_type (enumerated roots) h = live_last (enum_plan roots) (λ v. index_tree v) (live_enum roots h)
  live_type (format known) h = live_last (format_plan known) (λ v. number (pos v)) (live_format known h.0 h.1 h.2)
  live_type (sequence marked cs) h = live_sequence marked cs (live_fields cs h)

  pub live_fields : (cs : Components) → HaveValues cs → (present : List Bool) → Live (fields_plan cs present)
  live_fields no_components h present = tt
  live_fields (required t cs) h present = live_component t cs present (live_type t h.0) (live_fields cs h.1 present)
  live_fields (optional t cs) h (true ∷ present) = live_component t cs present (live_type t h.0) (live_fields cs h.1 present)
  live_fields (optional t cs) h (false ∷ present) = live_last (fields_plan cs present) (λ fs. absent fs) (live_fields cs h.1 present)
  live_fields (optional t cs) h [] = tt
  live_fields (default t d cs) h (true ∷ present) = live_component t cs present (live_type t h.0) (live_fields cs h.1 present)
  live_fields (default t d cs) h (false ∷ present) = live_last (fields_plan cs present) (λ fs. field d fs) (live_fields cs h.1 present)
  live_fields (default t d cs) h [] = tt
