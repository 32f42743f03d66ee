-- The value trees of a set of data: what its fields are in the module of its format, after EN 15722. The
-- identification number is cut behind 3, 6 and 1 characters and stands in the tree whole, a root of the
-- vehicle's type counts from 0, and a borrowed part is read as its octets or its additions. Cited by the
-- definitions of which octets show a set and which are the canonical ones, and by each reader and writer.
use Rattle.std.specs.Prelude.{◌≡◌, ℕ, ◌-◌, ℤ, pos, Bool, List, take, drop, Option, Some, None}
use Rattle.std.specs.Option.{option_map}
use Rattle.per_bits.specs.Bits.{Part, octets_of}
use Rattle.per_bits.specs.Parts.{Member, members_of}
use Rattle.per_types.specs.Types.{Tree, truth, number, text, bytes, root, added, record_of, Fields, no_fields, field, absent}
use Rattle.msd_values.specs.Format.{format_number}
use Rattle.msd_values.specs.Position.{Way}
use Rattle.msd_values.specs.declared.format.Format.{Format}
use Rattle.msd_values.specs.declared.format.Format.TheVariants.{One, Two}
use Rattle.msd_values.specs.declared.kind.VehicleKind.{VehicleKind}
use Rattle.msd_values.specs.declared.kind.VehicleKind.TheVariants.{Root, Added}
use Rattle.msd_values.specs.declared.msd.Marks.{Marks}
use Rattle.msd_values.specs.declared.msd.Extra.{Extra}
use Rattle.msd_values.specs.declared.msd.Msd.{Msd}

abbrev pub count_tree : ℕ → Tree
count_tree n = number (pos n)

-- a component that may be absent
abbrev pub optional_field : Option Tree → Fields → Fields
optional_field None fields = absent fields
optional_field (Some v) fields = field v fields

-- the additions of a section, and of one that may be absent
abbrev pub additions_of : Part → List Member
additions_of section = members_of section.bits

abbrev pub more_of : Option Part → Option (List Member)
more_of more = option_map additions_of more

abbrev pub kind_tree : VehicleKind → Tree
kind_tree (Root n) = root (n - 1)
kind_tree (Added n) = added n

abbrev pub control_tree : Bool → Bool → Bool → VehicleKind → Tree
control_tree automatic test trusted kind =
    record_of
    (field (truth automatic)
    (field (truth test)
    (field (truth trusted)
    (field (kind_tree kind) no_fields))))
    None

abbrev pub vin_tree : List ℕ → Tree
vin_tree vin =
    record_of
    (field (text (take 3 vin))
    (field (text (take 6 (drop 3 vin)))
    (field (text (take 1 (drop 9 vin)))
    (field (text (drop 10 vin)) no_fields))))
    None

-- the mark of other energies, which format 1 doesn't have
abbrev pub other_field : Format → Bool → Fields
other_field One other = no_fields
other_field Two other = field (truth other) no_fields

abbrev pub marks_fields : Format → Marks → Fields
marks_fields f fuel =
    field (truth fuel.gasoline)
    (field (truth fuel.diesel)
    (field (truth fuel.natural_gas)
    (field (truth fuel.propane)
    (field (truth fuel.electric)
    (field (truth fuel.hydrogen)
    (other_field f fuel.other))))))

abbrev pub storage_tree : Format → Marks → Option Part → Tree
storage_tree f fuel more = record_of (marks_fields f fuel) (more_of more)

abbrev pub pair_tree : ℤ → ℤ → Tree
pair_tree latitude longitude = record_of (field (number latitude) (field (number longitude) no_fields)) None

abbrev pub way_tree : Way → Tree
way_tree way = pair_tree way.latitude way.longitude

abbrev pub extra_tree : Extra → Tree
extra_tree extra =
    record_of
    (field (bytes (octets_of extra.oid.bits))
    (field (bytes (octets_of extra.content.bits)) no_fields))
    None

abbrev pub structure_tree : Msd → Tree
structure_tree msd =
    record_of
    (field (count_tree msd.message)
    (field (control_tree msd.automatic msd.test msd.trusted msd.kind)
    (field (vin_tree msd.vin)
    (field (storage_tree msd.format msd.fuel msd.fuel_more)
    (field (count_tree msd.time)
    (field (pair_tree msd.latitude msd.longitude)
    (field (count_tree msd.heading)
    (optional_field (option_map way_tree msd.before1)
    (optional_field (option_map way_tree msd.before2)
    (optional_field (option_map count_tree msd.passengers) no_fields))))))))))
    (more_of msd.set_more)

abbrev pub message_tree : Msd → Tree
message_tree msd =
    record_of
    (field (structure_tree msd)
    (optional_field (option_map extra_tree msd.extra) no_fields))
    (more_of msd.message_more)

-- the value tree of a set, which begins with the number of its format
abbrev pub tree : Msd → Tree
tree msd = record_of (field (count_tree (format_number msd.format)) (field (message_tree msd) no_fields)) None

-- the set has no part of variable length: no additional data, and no additions
pub record IsPlain (msd : Msd) : Type 0 where
  pub fuel_more : msd.fuel_more ≡ None
  pub set_more : msd.set_more ≡ None
  pub extra : msd.extra ≡ None
  pub message_more : msd.message_more ≡ None
