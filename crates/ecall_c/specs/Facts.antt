-- What a vehicle knows of itself as the flat struct that C fills: which structs are facts, and the facts that they are.
-- This project's profile. Cited by the exports that make a set, and by the vehicle that knows facts.
use Rattle.std.specs.Prelude.{◌≡◌, ◌≤◌, ◌+◌, ◌==◌, ◌++◌, if◌then◌else◌, ℕ, Bool, true, false, List, [], ◌∷◌, take, drop}
use Rattle.per_bits.specs.Parts.{IsOid}
use Rattle.msd_values.specs.Vin.{IsVin}
use Rattle.msd_values.specs.declared.msd.Marks.{Marks}
use Rattle.msd_fit.specs.Candidates.{AdditionalData}
use Rattle.msd_fit.specs.declared.cause.Cause.{Cause}
use Rattle.msd_fit.specs.declared.cause.Cause.TheVariants.{Auto, Manual, Test}
use Rattle.msd_fit.specs.declared.facts.OwnFacts.{OwnFacts}
use Rattle.ecall_c.specs.Flat.{IsFormat, IsKind, IsWay, count_of_flag, flat_way, format_of}
use Rattle.ecall_c.specs.declared.facts.EcallExtra.{EcallExtra}
use Rattle.ecall_c.specs.declared.facts.EcallFacts.{EcallFacts}

-- additional data with these octets
abbrev pub data_of : EcallExtra → AdditionalData
data_of e = record { oid = take e.oid_len e.octets; content = take e.content_len (drop e.oid_len e.octets) }

-- it may be offered: an object identifier, and at most 110 octets
abbrev pub IsOffered : EcallExtra → Type 0
IsOffered e = IsOid (take e.oid_len e.octets) × (e.oid_len + e.content_len ≤ 110)

-- it isn't there, or may be offered
abbrev pub IsGood : Bool → EcallExtra → Type 0
IsGood true e = IsOffered e
IsGood false e = Unit {0}

-- what it adds to the candidates
abbrev pub given : Bool → EcallExtra → List AdditionalData
given true e = data_of e ∷ []
given false e = []

abbrev pub AreExtras : EcallFacts → Type 0
AreExtras f =
    IsGood f.extra1.present f.extra1
    × IsGood f.extra2.present f.extra2
    × IsGood f.extra3.present f.extra3
    × IsGood f.extra4.present f.extra4

-- the candidates, that which is wanted most first
abbrev pub extras_of : EcallFacts → List AdditionalData
extras_of f =
    ((given f.extra1.present f.extra1 ++ given f.extra2.present f.extra2) ++ given f.extra3.present f.extra3)
    ++ given f.extra4.present f.extra4

abbrev pub marks_known : EcallFacts → Marks
marks_known f =
    record {
      gasoline = f.gasoline;
      diesel = f.diesel;
      natural_gas = f.natural_gas;
      propane = f.propane;
      electric = f.electric;
      hydrogen = f.hydrogen;
      other = f.other;
    }

-- the struct says what a vehicle may know
pub record AreFacts (f : EcallFacts) : Type 0 where
  pub format : IsFormat f.format
  pub vin : IsVin f.vin
  pub kind : IsKind false f.kind
  pub before1 : IsWay f.before1.present f.before1
  pub before2 : IsWay f.before2.present f.before2
  pub extras : AreExtras f

abbrev pub own_of : EcallFacts → OwnFacts
own_of f =
    record {
      format = format_of f.format;
      vin = f.vin;
      kind = f.kind;
      fuel = marks_known f;
      time = f.time;
      latitude = f.latitude;
      longitude = f.longitude;
      heading = f.heading;
      trusted = f.trusted;
      before1 = flat_way f.before1;
      before2 = flat_way f.before2;
      passengers = count_of_flag f.has_passengers f.passengers;
      extras = record { items = extras_of f };
    }

abbrev pub IsCause : ℕ → Type 0
IsCause n = n ≤ 2

-- 0 a sensor of the vehicle, 1 a person, 2 a test
abbrev pub cause_of : ℕ → Cause
cause_of n = if n == 0 then Auto else (if n == 1 then Manual else Test)
