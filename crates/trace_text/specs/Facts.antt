-- What the fact lines of a text say together, in the order in which they came: of each kind the last counts, but for
-- additional data, whose candidates are all kept, and where a ready set came, it alone counts. This project's profile.
-- Cited by the definitions of a script and of the lines of `encode`, and by the contracts of `Draft`.
use Rattle.std.specs.Prelude.{ℕ, ℤ, pos, nat_le, Bool, false, List, [], ◌∷◌, length, Option, Some, None}
use Rattle.std.specs.List.{filter_map}
use Rattle.std.specs.Option.{option_or, unwrap_or}
use Rattle.msd_values.specs.Position.{Way}
use Rattle.msd_values.specs.declared.format.Format.{Format}
use Rattle.msd_values.specs.declared.format.Format.TheVariants as format
use Rattle.msd_values.specs.declared.msd.Marks.{Marks}
use Rattle.msd_fit.specs.Candidates.{AdditionalData}
use Rattle.msd_fit.specs.declared.facts.OwnFacts.{OwnFacts}
use Rattle.msd_fit.specs.declared.facts.Facts.{Facts}
use Rattle.msd_fit.specs.declared.facts.Facts.TheVariants as facts
use Rattle.trace_text.specs.declared.fact_line.FactLine.{FactLine}
use Rattle.trace_text.specs.declared.fact_line.FactLine.TheVariants as fact

-- the most candidates of additional data
abbrev pub most_extras : ℕ
most_extras = 4

-- what is unknown of a position, and of a heading
abbrev pub unknown_place : ℤ
unknown_place = pos 2147483647

abbrev pub unknown_heading : ℕ
unknown_heading = 255

-- the format where none is named
abbrev pub usual_format : Format
usual_format = format.Two

-- no energy
abbrev pub no_marks : Marks
no_marks = record {
  gasoline = false;
  diesel = false;
  natural_gas = false;
  propane = false;
  electric = false;
  hydrogen = false;
  other = false;
}

-- ---- what one line says of each kind

abbrev pub vin_of : FactLine → Option (List ℕ)
vin_of (fact.Vin vin) = Some vin
vin_of _ = None

abbrev pub kind_of : FactLine → Option ℕ
kind_of (fact.Kind kind) = Some kind
kind_of _ = None

abbrev pub format_of : FactLine → Option Format
format_of (fact.Format number) = Some number
format_of _ = None

abbrev pub fuel_of : FactLine → Option Marks
fuel_of (fact.Fuel fuel) = Some fuel
fuel_of _ = None

abbrev pub time_of : FactLine → Option ℕ
time_of (fact.Time time) = Some time
time_of _ = None

abbrev pub latitude_of : FactLine → Option ℤ
latitude_of (fact.Place latitude longitude) = Some latitude
latitude_of _ = None

abbrev pub longitude_of : FactLine → Option ℤ
longitude_of (fact.Place latitude longitude) = Some longitude
longitude_of _ = None

abbrev pub heading_of : FactLine → Option ℕ
heading_of (fact.Heading heading) = Some heading
heading_of _ = None

abbrev pub trusted_of : FactLine → Option Bool
trusted_of (fact.Trusted trusted) = Some trusted
trusted_of _ = None

abbrev pub before1_of : FactLine → Option Way
before1_of (fact.Before1 way) = Some way
before1_of _ = None

abbrev pub before2_of : FactLine → Option Way
before2_of (fact.Before2 way) = Some way
before2_of _ = None

abbrev pub passengers_of : FactLine → Option ℕ
passengers_of (fact.Passengers count) = Some count
passengers_of _ = None

abbrev pub extra_of : FactLine → Option AdditionalData
extra_of (fact.Extra candidate) = Some candidate
extra_of _ = None

abbrev pub ready_of : FactLine → Option (List ℕ)
ready_of (fact.Set octets) = Some octets
ready_of _ = None

-- ---- what all lines say together

-- what the last line says that says anything of a kind
abbrev pub latest : {A : Type 0} → (FactLine → Option A) → List FactLine → Option A
latest of [] = None
latest of (line ∷ lines) = option_or (latest of lines) (of line)

-- the candidates of additional data, in order
abbrev pub extras_in : List FactLine → List AdditionalData
extras_in lines = filter_map extra_of lines

-- the facts, where these three came
abbrev pub own_of : Option (List ℕ) → Option ℕ → Option ℕ → List FactLine → Option OwnFacts
own_of (Some vin) (Some kind) (Some time) lines = Some (record {
  format = unwrap_or (latest format_of lines) usual_format;
  vin = vin;
  kind = kind;
  fuel = unwrap_or (latest fuel_of lines) no_marks;
  time = time;
  latitude = unwrap_or (latest latitude_of lines) unknown_place;
  longitude = unwrap_or (latest longitude_of lines) unknown_place;
  heading = unwrap_or (latest heading_of lines) unknown_heading;
  trusted = unwrap_or (latest trusted_of lines) false;
  before1 = latest before1_of lines;
  before2 = latest before2_of lines;
  passengers = latest passengers_of lines;
  extras = record { items = extras_in lines };
})
own_of _ _ _ lines = None

-- what a vehicle knows of itself by these lines: none, where its number, its category or its time didn't come
abbrev pub own_in : List FactLine → Option OwnFacts
own_in lines = own_of (latest vin_of lines) (latest kind_of lines) (latest time_of lines) lines

abbrev pub facts_of : Option (List ℕ) → Option OwnFacts → Option Facts
facts_of (Some octets) own = Some (facts.Ready octets)
facts_of None (Some own) = Some (facts.Own own)
facts_of None None = None

-- what a vehicle's sets are made of by these lines: the ready set, where one came
abbrev pub facts_in : List FactLine → Option Facts
facts_in lines = facts_of (latest ready_of lines) (own_in lines)

-- whether a line is one candidate more than there may be
abbrev pub is_one_too_many : List FactLine → FactLine → Bool
is_one_too_many lines (fact.Extra candidate) = nat_le most_extras (length (extras_in lines))
is_one_too_many lines _ = false
