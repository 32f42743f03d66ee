-- Reading as functions on bits (ITU-T X.691, unaligned variant, in this project's profile): each is a chain of
-- judged elements, and answers for every list of bits. What a reader does is said by its clause `reads`, without a
-- word on how; the laws say that these functions are the only reading of which taking or stopping holds. Cited by
-- the clauses `exact` of the readers, by the laws, and by the reading of a set of data.
use Rattle.std.specs.Prelude.{◌≡◌, ℕ, zero, suc, ◌+◌, ◌-◌, ◌*◌, ℤ, pos, ◌+ℤ◌, Bool, true, false, List, [], ◌∷◌, length, slice_index, Option, Some, None, Result, Ok, Err, if◌then◌else◌}
use Rattle.per_bits.specs.Bits.{Part, value_of, octets_of, front}
use Rattle.per_bits.specs.Parts.{Member, members_of}
use Rattle.per_bits.specs.declared.refusals.Refusal.{Refusal}
use Rattle.per_types.specs.declared.index.EnumIndex.{EnumIndex}
use Rattle.per_types.specs.declared.index.EnumIndex.TheVariants.{Root, Added}
use Rattle.per_types.specs.Kinds as kind
use Rattle.per_types.specs.Kinds.{alphabet, first_bit}
use Rattle.per_types.specs.Stops.{Read, element_at}
use Rattle.per_types.specs.Types.{Tree, truth, number, text, bytes, root, added, record_of, Fields, no_fields, field, absent, Ty, boolean, integer, characters, octet_string, relative_oid, enumerated, format, sequence, Components, no_components, required, optional, default, presence_count}

infixl 10 ◌>>=◌
abbrev pub ◌>>=◌ : {A B : Type 0} → Read A → (A × Part → Read B) → Read B
(Ok x) >>= next = next x
(Err e) >>= next = Err e

-- What a reader answered, seen by view, and where its cursor stands, are what reading gives.
abbrev pub Gives : {X Y : Type 0} → (X → Y) → Result X Refusal → Read Y → Part → Type 0
Gives view (Ok x) read new = read ≡ Ok (view x, new)
Gives view (Err e) read new = read ≡ Err (e, new)

unfoldable pub truth_at : Part → Read Bool
truth_at p = do
  b ← element_at kind.truth p
  Ok (first_bit b.0, b.1)

unfoldable pub whole_at : ℤ → ℤ → Part → Read ℤ
whole_at low high p = do
  b ← element_at (kind.whole low high) p
  Ok (low +ℤ pos (value_of b.0), b.1)

unfoldable pub presence_at : ℕ → Part → Read (List Bool)
presence_at n p = element_at (kind.presence n) p

unfoldable pub character_at : Part → Read ℕ
character_at p = do
  b ← element_at kind.character p
  Ok (slice_index alphabet (value_of b.0), b.1)

unfoldable pub small_at : Part → Read ℕ
small_at p = do
  b ← element_at kind.small p
  Ok (value_of b.0, b.1)

unfoldable pub length_at : Part → Read ℕ
length_at p = do
  b ← element_at kind.string_length p
  Ok (value_of b.0, b.1)

-- the part that has the octets of an octet string
unfoldable pub octets_at : Part → Read Part
octets_at p = do
  n ← length_at p
  b ← element_at (kind.string_octets n.0) n.1
  Ok (front n.1 (8 * n.0), b.1)

unfoldable pub oid_length_at : Part → Read ℕ
oid_length_at p = do
  b ← element_at kind.oid_length p
  Ok (value_of b.0, b.1)

-- the part that has the octets of an object identifier
unfoldable pub oid_at : Part → Read Part
oid_at p = do
  n ← oid_length_at p
  b ← element_at (kind.oid_octets n.0) n.1
  Ok (front n.1 (8 * n.0), b.1)

-- their octets
unfoldable pub string_at : Part → Read (List ℕ)
string_at p = do
  o ← octets_at p
  Ok (octets_of o.0.bits, o.1)

unfoldable pub object_at : Part → Read (List ℕ)
object_at p = do
  o ← oid_at p
  Ok (octets_of o.0.bits, o.1)

unfoldable pub added_at : Part → Read EnumIndex
added_at p = do
  n ← small_at p
  Ok (Added n.0, n.1)

unfoldable pub root_at : ℕ → Part → Read EnumIndex
root_at roots p = do
  b ← element_at (kind.root roots) p
  Ok (Root (value_of b.0), b.1)

unfoldable pub enum_at : ℕ → Part → Read EnumIndex
enum_at roots p = do
  extended ← truth_at p
  if extended.0 then added_at extended.1 else root_at roots extended.1

unfoldable pub format_at : List ℕ → Part → Read ℕ
format_at known p = do
  b ← element_at (kind.format known) p
  Ok (value_of b.0, b.1)

unfoldable pub open_length_at : Part → Read ℕ
open_length_at p = do
  b ← element_at kind.open_length p
  Ok (value_of b.0, b.1)

-- the part that has the octets of an open type
unfoldable pub open_at : Part → Read Part
open_at p = do
  n ← open_length_at p
  b ← element_at (kind.string_octets n.0) n.1
  Ok (front n.1 (8 * n.0), b.1)

-- its octets
unfoldable pub content_at : Part → Read (List ℕ)
content_at p = do
  o ← open_at p
  Ok (octets_of o.0.bits, o.1)

-- the presence bits of a section of n additions
unfoldable pub additions_at : ℕ → Part → Read (List Bool)
additions_at n p = element_at (kind.additions n) p

-- goes over an addition, which is there where its presence bit is 1
unfoldable pub member_at : Bool → Part → Read (Unit {0})
member_at false p = Ok (tt, p)
member_at true p = do
  o ← open_at p
  Ok (tt, o.1)

-- goes over the additions with these presence bits
unfoldable pub opens_at : List Bool → Part → Read (Unit {0})
opens_at [] p = Ok (tt, p)
opens_at (present ∷ others) p = do
  member ← member_at present p
  opens_at others member.1

-- goes over a section
unfoldable pub over_at : Part → Read (Unit {0})
over_at p = do
  last ← small_at p
  present ← additions_at (last.0 + 1) last.1
  opens_at present.0 present.1

-- the part that has all bits of a section
unfoldable pub section_at : Part → Read Part
section_at p = do
  over ← over_at p
  Ok (front p (length p.bits - length over.1.bits), over.1)

-- the additions that they spell
unfoldable pub members_at : Part → Read (List Member)
members_at p = do
  o ← section_at p
  Ok (members_of o.0.bits, o.1)

unfoldable pub text_at : ℕ → Part → Read (List ℕ)
text_at zero p = Ok ([], p)
text_at (suc n) p = do
  c ← character_at p
  cs ← text_at n c.1
  Ok (c.0 ∷ cs.0, cs.1)

-- the extension mark, where there is one; else it counts as 0
unfoldable pub extended_at : Bool → Part → Read Bool
extended_at false p = Ok (false, p)
extended_at true p = truth_at p

-- the additions of a SEQUENCE, which are there where its mark is 1
unfoldable pub more_at : Bool → Part → Read (Option (List Member))
more_at false p = Ok (None, p)
more_at true p = do
  members ← members_at p
  Ok (Some members.0, members.1)

abbrev pub index_tree : EnumIndex → Tree
index_tree (Root i) = root i
index_tree (Added i) = added i

-- The value of a type, and the components whose presence bits are given.
unfoldable mutual
  pub tree_at : Ty → Part → Read Tree
  tree_at boolean p = do
    v ← truth_at p
    Ok (truth v.0, v.1)
  tree_at (integer low high) p = do
    v ← whole_at low high p
    Ok (number v.0, v.1)
  tree_at (characters n) p = do
    v ← text_at n p
    Ok (text v.0, v.1)
  tree_at octet_string p = do
    v ← string_at p
    Ok (bytes v.0, v.1)
  tree_at relative_oid p = do
    v ← object_at p
    Ok (bytes v.0, v.1)
  tree_at (enumerated roots) p = do
    v ← enum_at roots p
    Ok (index_tree v.0, v.1)
  tree_at (format known) p = do
    v ← format_at known p
    Ok (number (pos v.0), v.1)
  tree_at (sequence marked cs) p = do
    extended ← extended_at marked p
    present ← presence_at (presence_count cs) extended.1
    fields ← fields_at cs present.0 present.1
    more ← more_at extended.0 fields.1
    Ok (record_of fields.0 more.0, more.1)

  pub fields_at : Components → List Bool → Part → Read Fields
  fields_at no_components present p = Ok (no_fields, p)
  fields_at (required t cs) present p = do
    v ← tree_at t p
    fields ← fields_at cs present v.1
    Ok (field v.0 fields.0, fields.1)
  fields_at (optional t cs) (true ∷ present) p = do
    v ← tree_at t p
    fields ← fields_at cs present v.1
    Ok (field v.0 fields.0, fields.1)
  fields_at (optional t cs) (false ∷ present) p = do
    fields ← fields_at cs present p
    Ok (absent fields.0, fields.1)
  fields_at (optional t cs) [] p = Ok (no_fields, p)
  fields_at (default t d cs) (true ∷ present) p = do
    v ← tree_at t p
    fields ← fields_at cs present v.1
    Ok (field v.0 fields.0, fields.1)
  fields_at (default t d cs) (false ∷ present) p = do
    fields ← fields_at cs present p
    Ok (field d fields.0, fields.1)
  fields_at (default t d cs) [] p = Ok (no_fields, p)
