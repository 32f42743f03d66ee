-- The set of data that a vehicle makes of what it knows, as its octets: the values are those of EN 15722 and the causes
-- those of EN 16072; which additional data is put into it, that a set has at most 140 octets, and the octets 0 behind
-- it are this project's profile. Cited by `spell` and `make`.
use Rattle.std.specs.Prelude.{◌≡◌, ℕ, ◌-◌, nat_le, Bool, true, false, List, ◌++◌, length, replicate, Option, Some, None}
use Rattle.std.proofs.Common.{ap}
use Rattle.std.specs.List.{find}
use Rattle.std.specs.Option.{option_map}
use Rattle.per_bits.specs.Bits.{all_bits, room_octets}
use Rattle.per_types.specs.Types.{Tree}
use Rattle.msd_values.specs.declared.format.Format.{Format}
use Rattle.msd_values.specs.declared.format.Format.TheVariants.{One, Two}
use Rattle.msd_values.specs.declared.msd.Marks.{Marks}
use Rattle.msd_values.specs.declared.kind.VehicleKind.TheVariants.{Root}
use Rattle.msd_values.specs.declared.msd.Extra.{Extra}
use Rattle.msd_values.specs.declared.msd.Msd.{Msd}
use Rattle.msd_codec.specs.Canonical.{canonical_octets}
use Rattle.msd_codec.specs.Sets.{AreCanonical}
use Rattle.msd_codec.specs.Trees.{tree}
use Rattle.msd_fit.specs.Candidates.{AdditionalData}
use Rattle.msd_fit.specs.declared.cause.Cause.{Cause}
use Rattle.msd_fit.specs.declared.cause.Cause.TheVariants.{Auto, Manual, Test}
use Rattle.msd_fit.specs.declared.facts.OwnFacts.{OwnFacts}
use Rattle.msd_fit.specs.declared.facts.Facts.{Facts}
use Rattle.msd_fit.specs.declared.facts.Facts.TheVariants.{Own, Ready}

-- the two marks of a set that its cause sets
abbrev pub is_automatic : Cause → Bool
is_automatic Auto = true
is_automatic Manual = false
is_automatic Test = false

abbrev pub is_test : Cause → Bool
is_test Auto = false
is_test Manual = false
is_test Test = true

-- additional data in a set: its octets, borrowed from where they stand
abbrev pub extra_of : AdditionalData → Extra
extra_of extra = record { oid = all_bits extra.oid; content = all_bits extra.content }

-- the marks that a set of the format has: in format 1 not that of other energies
abbrev pub other_of : Format → Bool → Bool
other_of One other = false
other_of Two other = other

abbrev pub marks_of : Format → Marks → Marks
marks_of f fuel =
    record {
      gasoline = fuel.gasoline;
      diesel = fuel.diesel;
      natural_gas = fuel.natural_gas;
      propane = fuel.propane;
      electric = fuel.electric;
      hydrogen = fuel.hydrogen;
      other = other_of f fuel.other;
    }

-- the set with the values of the facts, this message number and this additional data, and without additions
abbrev pub set_with : OwnFacts → Cause → ℕ → Option AdditionalData → Msd
set_with facts cause number extra =
    record {
      format = facts.format;
      message = number;
      automatic = is_automatic cause;
      test = is_test cause;
      trusted = facts.trusted;
      kind = Root facts.kind;
      vin = facts.vin;
      fuel = marks_of facts.format facts.fuel;
      marks = λ e. ap (λ f. other_of f facts.fuel.other) e;
      fuel_more = None;
      time = facts.time;
      latitude = facts.latitude;
      longitude = facts.longitude;
      heading = facts.heading;
      before1 = facts.before1;
      before2 = facts.before2;
      passengers = facts.passengers;
      set_more = None;
      extra = option_map extra_of extra;
      message_more = None;
    }

-- the canonical octets of that set
abbrev pub octets_with : OwnFacts → Cause → ℕ → Option AdditionalData → List ℕ
octets_with facts cause number extra = canonical_octets (tree (set_with facts cause number extra))

-- the first candidate with which the whole set has at most 140 octets, if there is one
abbrev pub chosen : OwnFacts → Cause → ℕ → Option AdditionalData
chosen facts cause number =
    find (λ extra. nat_le (length (octets_with facts cause number (Some extra))) room_octets) facts.extras.items

-- the set that fits: with that candidate, or else without additional data
abbrev pub fitting : OwnFacts → Cause → ℕ → Msd
fitting facts cause number = set_with facts cause number (chosen facts cause number)

-- its octets
unfoldable pub fits : OwnFacts → Cause → ℕ → List ℕ
fits facts cause number = octets_with facts cause number (chosen facts cause number)

-- a set of data with octets 0 behind it, to 140
abbrev pub filled : List ℕ → List ℕ
filled octets = octets ++ replicate (room_octets - length octets) 0

-- the octets are the canonical ones of a value, and octets 0 behind them
pub record AreFilled (octets : List ℕ) (v : Tree) : Type 0 where
  pub front : List ℕ
  pub canonical : AreCanonical front v
  pub zeros : ℕ
  pub made : octets ≡ front ++ replicate zeros 0

-- the set that is made: that of what the vehicle knows, filled, or the one that was made elsewhere
unfoldable pub made : Facts → Cause → ℕ → List ℕ
made (Own facts) cause number = filled (fits facts cause number)
made (Ready octets) cause number = octets
