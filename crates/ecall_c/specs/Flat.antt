-- A set of data as the flat struct that C sees: each field of the set in its place, and each part of variable length by
-- its place and length, in bits, among the octets. Cited by `ecall_decode`.
use Rattle.std.specs.Prelude.{◌≡◌, ◌≤◌, ◌+◌, ◌%◌, ◌==◌, ◌⊎◌, if◌then◌else◌, ℕ, pos, Bool, true, false, List, length, Option, Some, None, is_some, IfSome}
use Rattle.std.proofs.Common.{ap}
use Rattle.per_bits.specs.Bits.{Part, octet_bits, part_at, octets_of}
use Rattle.per_bits.specs.Parts.{Member, Section, IsOid}
use Rattle.per_bits.specs.Reasons.{code_of}
use Rattle.per_bits.specs.declared.refusals.Refusal.{Refusal}
use Rattle.msd_values.specs.Position.{Way, IsDelta}
use Rattle.msd_values.specs.Format.{HasMarks, format_number}
use Rattle.msd_values.specs.declared.format.Format.{Format}
use Rattle.msd_values.specs.declared.format.Format.TheVariants.{One, Two}
use Rattle.msd_values.specs.declared.msd.Marks.{Marks}
use Rattle.msd_values.specs.declared.kind.VehicleKind.{VehicleKind}
use Rattle.msd_values.specs.declared.kind.VehicleKind.TheVariants.{Root, Added}
use Rattle.msd_values.specs.declared.msd.Extra.{Extra}
use Rattle.msd_values.specs.declared.msd.Msd.{Msd}
use Rattle.msd_codec.specs.Places.{LieBetween, ContentFollows, StandInPlace, parts_of}
use Rattle.msd_codec.specs.Sets.{Shows, StopsAt}
use Rattle.msd_fit.specs.Fitting.{marks_of, other_of}
use Rattle.msd_values.specs.Vin.{IsVin}
use Rattle.ecall_c.specs.declared.flat.EcallPart.{EcallPart}
use Rattle.ecall_c.specs.declared.flat.EcallWay.{EcallWay}
use Rattle.ecall_c.specs.declared.flat.EcallSet.{EcallSet}
use Rattle.ecall_c.specs.declared.flat.EcallRefusal.{EcallRefusal}

abbrev pub no_part : EcallPart
no_part = record { start = 0; len = 0; present = false }

abbrev pub part_of : Part → EcallPart
part_of p = record { start = p.start; len = length p.bits; present = true }

abbrev pub parts_of_additions : Option Part → EcallPart
parts_of_additions None = no_part
parts_of_additions (Some p) = part_of p

abbrev pub way_of : Option Way → EcallWay
way_of None = record { latitude = pos 0; longitude = pos 0; present = false }
way_of (Some w) = record { latitude = w.latitude; longitude = w.longitude; present = true }

abbrev pub kind_of : VehicleKind → ℕ × Bool
kind_of (Root n) = (n, false)
kind_of (Added n) = (n, true)

abbrev pub extra_of : Option Extra → EcallPart × EcallPart
extra_of None = (no_part, no_part)
extra_of (Some x) = (part_of x.oid, part_of x.content)

abbrev pub or_zero : Option ℕ → ℕ
or_zero None = 0
or_zero (Some n) = n

abbrev pub flat_of : Msd → EcallSet
flat_of msd =
    record {
      time = msd.time;
      latitude = msd.latitude;
      longitude = msd.longitude;
      fuel_more = parts_of_additions msd.fuel_more;
      set_more = parts_of_additions msd.set_more;
      oid = (extra_of msd.extra).0;
      content = (extra_of msd.extra).1;
      message_more = parts_of_additions msd.message_more;
      before1 = way_of msd.before1;
      before2 = way_of msd.before2;
      vin = msd.vin;
      format = format_number msd.format;
      message = msd.message;
      heading = msd.heading;
      kind = (kind_of msd.kind).0;
      kind_is_added = (kind_of msd.kind).1;
      automatic = msd.automatic;
      test = msd.test;
      trusted = msd.trusted;
      gasoline = msd.fuel.gasoline;
      diesel = msd.fuel.diesel;
      natural_gas = msd.fuel.natural_gas;
      propane = msd.fuel.propane;
      electric = msd.fuel.electric;
      hydrogen = msd.fuel.hydrogen;
      other = msd.fuel.other;
      has_passengers = is_some msd.passengers;
      passengers = or_zero msd.passengers;
    }

-- The octets show a set, its parts stand where the octets have them, and the struct is that set.
pub record ShowsFlat (octets : List ℕ) (set : EcallSet) : Type 0 where
  pub msd : Msd
  pub shown : Shows octets msd
  pub parts : LieBetween (octet_bits octets) 0 (parts_of msd) (length (octet_bits octets))
  pub content : IfSome msd.extra ContentFollows
  pub places : StandInPlace (octet_bits octets) msd
  pub flat : set ≡ flat_of msd

abbrev pub flat_refusal : Refusal → EcallRefusal
flat_refusal refusal = record { value = refusal.value; place = refusal.place; reason = code_of refusal.reason }

-- The octets stop being a set, and the struct says where, why and with which value.
pub record StopsFlat (octets : List ℕ) (flat : EcallRefusal) : Type 0 where
  pub refusal : Refusal
  pub stops : StopsAt octets refusal
  pub same : flat ≡ flat_refusal refusal

-- the part of the octets that stands at this place
abbrev pub bits_of : List ℕ → EcallPart → Part
bits_of octets p = part_at octets p.start p.len

abbrev pub section_of_flag : Bool → Part → Option Part
section_of_flag true p = Some p
section_of_flag false p = None

abbrev pub section_of : List ℕ → EcallPart → Option Part
section_of octets p = section_of_flag p.present (bits_of octets p)

abbrev pub kind_of_flag : Bool → ℕ → VehicleKind
kind_of_flag true n = Added n
kind_of_flag false n = Root n

abbrev pub way_of_flag : Bool → Way → Option Way
way_of_flag true w = Some w
way_of_flag false w = None

abbrev pub flat_way : EcallWay → Option Way
flat_way w = way_of_flag w.present (record { latitude = w.latitude; longitude = w.longitude })

abbrev pub count_of_flag : Bool → ℕ → Option ℕ
count_of_flag true n = Some n
count_of_flag false n = None

abbrev pub extra_of_flag : Bool → Part → Part → Option Extra
extra_of_flag true oid content = Some (record { oid = oid; content = content })
extra_of_flag false oid content = None

-- the format of a number, 1 or 2
abbrev pub format_of : ℕ → Format
format_of n = if n == 1 then One else Two

abbrev pub marks_in : EcallSet → Marks
marks_in set =
    record {
      gasoline = set.gasoline;
      diesel = set.diesel;
      natural_gas = set.natural_gas;
      propane = set.propane;
      electric = set.electric;
      hydrogen = set.hydrogen;
      other = set.other;
    }

-- the set that the struct is, with its parts from these octets; in format 1 it has no mark of other energies
abbrev pub msd_of : List ℕ → EcallSet → Msd
msd_of octets set =
    record {
      format = format_of set.format;
      message = set.message;
      automatic = set.automatic;
      test = set.test;
      trusted = set.trusted;
      kind = kind_of_flag set.kind_is_added set.kind;
      vin = set.vin;
      fuel = marks_of (format_of set.format) (marks_in set);
      marks = λ e. ap (λ f. other_of f set.other) e;
      fuel_more = section_of octets set.fuel_more;
      time = set.time;
      latitude = set.latitude;
      longitude = set.longitude;
      heading = set.heading;
      before1 = flat_way set.before1;
      before2 = flat_way set.before2;
      passengers = count_of_flag set.has_passengers set.passengers;
      set_more = section_of octets set.set_more;
      extra = extra_of_flag set.oid.present (bits_of octets set.oid) (bits_of octets set.content);
      message_more = section_of octets set.message_more;
    }

abbrev pub IsFormat : ℕ → Type 0
IsFormat n = (n ≡ 1) ⊎ (n ≡ 2)

abbrev pub IsKind : Bool → ℕ → Type 0
IsKind true n = n ≤ 63
IsKind false n = (1 ≤ n) × (n ≤ 13)

abbrev pub IsWay : Bool → EcallWay → Type 0
IsWay true w = IsDelta w.latitude × IsDelta w.longitude
IsWay false w = Unit {0}

abbrev pub LiesInOctets : List ℕ → EcallPart → Type 0
LiesInOctets octets p = p.start + p.len ≤ length (octet_bits octets)

abbrev pub IsSection : Bool → List ℕ → EcallPart → Type 0
IsSection true octets p = LiesInOctets octets p × ((members : List Member) × Section members (bits_of octets p).bits)
IsSection false octets p = Unit {0}

abbrev pub IsOctets : List ℕ → EcallPart → Type 0
IsOctets octets p =
    LiesInOctets octets p × (length (bits_of octets p).bits % 8 ≡ 0) × (length (bits_of octets p).bits ≤ 1016)

abbrev pub IsExtra : Bool → List ℕ → EcallPart → EcallPart → Type 0
IsExtra true octets oid content =
    IsOctets octets oid × IsOid (octets_of (bits_of octets oid).bits) × IsOctets octets content
IsExtra false octets oid content = Unit {0}

-- the struct is a set with its parts in these octets, of which there are at most 65535
pub record IsFlat (octets : List ℕ) (set : EcallSet) : Type 0 where
  pub few : length octets ≤ 65535
  pub format : IsFormat set.format
  pub marks : HasMarks (format_of set.format) (marks_in set)
  pub vin : IsVin set.vin
  pub kind : IsKind set.kind_is_added set.kind
  pub before1 : IsWay set.before1.present set.before1
  pub before2 : IsWay set.before2.present set.before2
  pub fuel_more : IsSection set.fuel_more.present octets set.fuel_more
  pub set_more : IsSection set.set_more.present octets set.set_more
  pub message_more : IsSection set.message_more.present octets set.message_more
  pub extra : IsExtra set.oid.present octets set.oid set.content
