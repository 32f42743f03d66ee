-- A draft behind one line more stands for the lines and that one.
use Rattle.std.proofs.Common.{◌≡◌, List, [], ◌∷◌, ◌++◌, Option, Some, None, false, refl, ap, ◌∙◌}
use Rattle.std.specs.Option.{option_or, unwrap_or}
use Rattle.std.proofs.lemmas.List.{append-nil}
use Rattle.std.proofs.lemmas.List.Elements.{filter_map-append}
use Rattle.trace_text.specs.Facts.{no_marks, usual_format, unknown_heading, unknown_place, vin_of, kind_of, format_of, fuel_of, time_of, latitude_of, longitude_of, heading_of, trusted_of, before1_of, before2_of, passengers_of, extra_of, ready_of, latest, extras_in}
use Rattle.trace_text.specs.Drafts.{DraftOf, if_came}
use Rattle.trace_text.specs.inner.Drafting.{draft_with}
use Rattle.trace_text.specs.declared.draft.Draft.{Draft}
use Rattle.trace_text.specs.declared.fact_line.FactLine.{FactLine}
use Rattle.trace_text.specs.declared.fact_line.FactLine.TheVariants as fact

or-none : {A : Type 0} (a : Option A) → a ≡ option_or a None
or-none None = refl
or-none (Some x) = refl

or-assoc : {A : Type 0} (a b c : Option A) → option_or (option_or a b) c ≡ option_or a (option_or b c)
or-assoc None b c = refl
or-assoc (Some x) b c = refl

-- what a line behind the others says counts, where it says anything
latest-behind : {A : Type 0} (of : FactLine → Option A) (lines : List FactLine) (line : FactLine) → latest of (lines ++ line ∷ []) ≡ option_or (of line) (latest of lines)
latest-behind of [] line = or-none (of line)
latest-behind of (first ∷ lines) line =
    ap (λ o. option_or o (of first)) (latest-behind of lines line) ∙ or-assoc (of line) (latest of lines) (of first)

-- the same of a value that is kept
module _ (draft : Draft) where
  vin-with : (line : FactLine) → option_or (vin_of line) (if_came draft.has_vin draft.own.vin) ≡ if_came (draft_with draft line).has_vin (draft_with draft line).own.vin
  vin-with (fact.Vin vin) = refl
  vin-with _ = refl

  kind-with : (line : FactLine) → option_or (kind_of line) (if_came draft.has_kind draft.own.kind) ≡ if_came (draft_with draft line).has_kind (draft_with draft line).own.kind
  kind-with (fact.Kind kind) = refl
  kind-with _ = refl

  time-with : (line : FactLine) → option_or (time_of line) (if_came draft.has_time draft.own.time) ≡ if_came (draft_with draft line).has_time (draft_with draft line).own.time
  time-with (fact.Time time) = refl
  time-with _ = refl

  format-with : (line : FactLine) (lines : List FactLine) → unwrap_or (latest format_of lines) usual_format ≡ draft.own.format → unwrap_or (option_or (format_of line) (latest format_of lines)) usual_format ≡ (draft_with draft line).own.format
  format-with (fact.Format number) lines same = refl
  format-with _ lines same = same

  fuel-with : (line : FactLine) (lines : List FactLine) → unwrap_or (latest fuel_of lines) no_marks ≡ draft.own.fuel → unwrap_or (option_or (fuel_of line) (latest fuel_of lines)) no_marks ≡ (draft_with draft line).own.fuel
  fuel-with (fact.Fuel fuel) lines same = refl
  fuel-with _ lines same = same

  latitude-with : (line : FactLine) (lines : List FactLine) → unwrap_or (latest latitude_of lines) unknown_place ≡ draft.own.latitude → unwrap_or (option_or (latitude_of line) (latest latitude_of lines)) unknown_place ≡ (draft_with draft line).own.latitude
  latitude-with (fact.Place latitude longitude) lines same = refl
  latitude-with _ lines same = same

  longitude-with : (line : FactLine) (lines : List FactLine) → unwrap_or (latest longitude_of lines) unknown_place ≡ draft.own.longitude → unwrap_or (option_or (longitude_of line) (latest longitude_of lines)) unknown_place ≡ (draft_with draft line).own.longitude
  longitude-with (fact.Place latitude longitude) lines same = refl
  longitude-with _ lines same = same

  heading-with : (line : FactLine) (lines : List FactLine) → unwrap_or (latest heading_of lines) unknown_heading ≡ draft.own.heading → unwrap_or (option_or (heading_of line) (latest heading_of lines)) unknown_heading ≡ (draft_with draft line).own.heading
  heading-with (fact.Heading heading) lines same = refl
  heading-with _ lines same = same

  trusted-with : (line : FactLine) (lines : List FactLine) → unwrap_or (latest trusted_of lines) false ≡ draft.own.trusted → unwrap_or (option_or (trusted_of line) (latest trusted_of lines)) false ≡ (draft_with draft line).own.trusted
  trusted-with (fact.Trusted trusted) lines same = refl
  trusted-with _ lines same = same

  before1-with : (line : FactLine) → option_or (before1_of line) draft.own.before1 ≡ (draft_with draft line).own.before1
  before1-with (fact.Before1 way) = refl
  before1-with _ = refl

  before2-with : (line : FactLine) → option_or (before2_of line) draft.own.before2 ≡ (draft_with draft line).own.before2
  before2-with (fact.Before2 way) = refl
  before2-with _ = refl

  passengers-with : (line : FactLine) → option_or (passengers_of line) draft.own.passengers ≡ (draft_with draft line).own.passengers
  passengers-with (fact.Passengers count) = refl
  passengers-with _ = refl

  extras-with : (line : FactLine) (lines : List FactLine) → extras_in lines ≡ draft.own.extras.items → extras_in lines ++ extras_in (line ∷ []) ≡ (draft_with draft line).own.extras.items
  extras-with (fact.Extra candidate) lines same = ap (λ items. items ++ candidate ∷ []) same
  extras-with _ lines same = append-nil (extras_in lines) ∙ same

  ready-with : (line : FactLine) → option_or (ready_of line) draft.ready ≡ (draft_with draft line).ready
  ready-with (fact.Set octets) = refl
  ready-with _ = refl

-- a line behind those that a draft stands for
pub DraftOf-behind : (draft : Draft) (line : FactLine) (lines : List FactLine) → DraftOf draft lines → DraftOf (draft_with draft line) (lines ++ line ∷ [])
DraftOf-behind draft line lines stands = record {
  vin = latest-behind vin_of lines line ∙ ap (option_or (vin_of line)) stands.vin ∙ vin-with draft line;
  kind = latest-behind kind_of lines line ∙ ap (option_or (kind_of line)) stands.kind ∙ kind-with draft line;
  time = latest-behind time_of lines line ∙ ap (option_or (time_of line)) stands.time ∙ time-with draft line;
  format = ap (λ o. unwrap_or o usual_format) (latest-behind format_of lines line) ∙ format-with draft line lines stands.format;
  fuel = ap (λ o. unwrap_or o no_marks) (latest-behind fuel_of lines line) ∙ fuel-with draft line lines stands.fuel;
  latitude = ap (λ o. unwrap_or o unknown_place) (latest-behind latitude_of lines line) ∙ latitude-with draft line lines stands.latitude;
  longitude = ap (λ o. unwrap_or o unknown_place) (latest-behind longitude_of lines line) ∙ longitude-with draft line lines stands.longitude;
  heading = ap (λ o. unwrap_or o unknown_heading) (latest-behind heading_of lines line) ∙ heading-with draft line lines stands.heading;
  trusted = ap (λ o. unwrap_or o false) (latest-behind trusted_of lines line) ∙ trusted-with draft line lines stands.trusted;
  before1 = latest-behind before1_of lines line ∙ ap (option_or (before1_of line)) stands.before1 ∙ before1-with draft line;
  before2 = latest-behind before2_of lines line ∙ ap (option_or (before2_of line)) stands.before2 ∙ before2-with draft line;
  passengers = latest-behind passengers_of lines line ∙ ap (option_or (passengers_of line)) stands.passengers ∙ passengers-with draft line;
  extras = filter_map-append extra_of lines (line ∷ []) ∙ extras-with draft line lines stands.extras;
  ready = latest-behind ready_of lines line ∙ ap (option_or (ready_of line)) stands.ready ∙ ready-with draft line;
}
