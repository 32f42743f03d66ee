-- Which fact lines a `Draft` stands for: it keeps what they say together, of each kind once. This project's profile.
-- Cited by the contracts of `Draft`.
use Rattle.std.specs.Prelude.{◌≡◌, Bool, true, false, List, Option, Some, None}
use Rattle.std.specs.Option.{unwrap_or}
use Rattle.trace_text.specs.Facts.{no_marks, usual_format, unknown_heading, unknown_place, vin_of, kind_of, format_of, fuel_of, time_of, latitude_of, longitude_of, heading_of, trusted_of, before1_of, before2_of, passengers_of, ready_of, latest, extras_in}
use Rattle.trace_text.specs.declared.draft.Draft.{Draft}
use Rattle.trace_text.specs.declared.fact_line.FactLine.{FactLine}

-- a value that is kept, where it came
abbrev pub if_came : {A : Type 0} → Bool → A → Option A
if_came true value = Some value
if_came false value = None

pub record DraftOf (draft : Draft) (lines : List FactLine) : Type 0 where
  pub vin : latest vin_of lines ≡ if_came draft.has_vin draft.own.vin
  pub kind : latest kind_of lines ≡ if_came draft.has_kind draft.own.kind
  pub time : latest time_of lines ≡ if_came draft.has_time draft.own.time
  pub format : unwrap_or (latest format_of lines) usual_format ≡ draft.own.format
  pub fuel : unwrap_or (latest fuel_of lines) no_marks ≡ draft.own.fuel
  pub latitude : unwrap_or (latest latitude_of lines) unknown_place ≡ draft.own.latitude
  pub longitude : unwrap_or (latest longitude_of lines) unknown_place ≡ draft.own.longitude
  pub heading : unwrap_or (latest heading_of lines) unknown_heading ≡ draft.own.heading
  pub trusted : unwrap_or (latest trusted_of lines) false ≡ draft.own.trusted
  pub before1 : latest before1_of lines ≡ draft.own.before1
  pub before2 : latest before2_of lines ≡ draft.own.before2
  pub passengers : latest passengers_of lines ≡ draft.own.passengers
  pub extras : extras_in lines ≡ draft.own.extras.items
  pub ready : latest ready_of lines ≡ draft.ready
