-- A draft behind one line more. This project's profile. Scaffolding: cited by the contracts of private functions alone.
use Rattle.std.specs.Prelude.{nat_lt, Bool, true, false, [], ◌∷◌, ◌++◌, length, replicate, Some, None}
use Rattle.trace_text.specs.declared.draft.Draft.{Draft}
use Rattle.trace_text.specs.declared.fact_line.FactLine.{FactLine}
use Rattle.trace_text.specs.declared.fact_line.FactLine.TheVariants as fact
use Rattle.line_input.specs.Characters.{digit_zero}
use Rattle.trace_text.specs.Facts.{most_extras, no_marks, usual_format, unknown_place, unknown_heading}
use Rattle.msd_fit.specs.declared.facts.OwnFacts.{OwnFacts}

-- the facts before any line; a number of zeros, the first category and the time 0 hold places
abbrev pub first_own : OwnFacts
first_own = record {
  format = usual_format;
  vin = replicate 17 digit_zero;
  kind = 1;
  fuel = no_marks;
  time = 0;
  latitude = unknown_place;
  longitude = unknown_place;
  heading = unknown_heading;
  trusted = false;
  before1 = None;
  before2 = None;
  passengers = None;
  extras = record { items = [] };
}

-- whether a draft has room for a line: any but a candidate behind four others
abbrev pub has_room_for : Draft → FactLine → Bool
has_room_for draft (fact.Extra candidate) = nat_lt (length draft.own.extras.items) most_extras
has_room_for draft _ = true

-- the facts behind a line
abbrev pub own_with : OwnFacts → FactLine → OwnFacts
own_with own (fact.Vin vin) = record own { vin = vin }
own_with own (fact.Kind kind) = record own { kind = kind }
own_with own (fact.Format number) = record own { format = number }
own_with own (fact.Fuel fuel) = record own { fuel = fuel }
own_with own (fact.Time time) = record own { time = time }
own_with own (fact.Place latitude longitude) = record own { latitude = latitude; longitude = longitude }
own_with own (fact.Heading heading) = record own { heading = heading }
own_with own (fact.Trusted trusted) = record own { trusted = trusted }
own_with own (fact.Before1 way) = record own { before1 = Some way }
own_with own (fact.Before2 way) = record own { before2 = Some way }
own_with own (fact.Passengers count) = record own { passengers = Some count }
own_with own (fact.Extra candidate) = record own { extras = record { items = own.extras.items ++ candidate ∷ [] } }
own_with own (fact.Set octets) = own

-- the draft behind a line
abbrev pub draft_with : Draft → FactLine → Draft
draft_with draft (fact.Vin vin) = record draft { own = own_with draft.own (fact.Vin vin); has_vin = true }
draft_with draft (fact.Kind kind) = record draft { own = own_with draft.own (fact.Kind kind); has_kind = true }
draft_with draft (fact.Time time) = record draft { own = own_with draft.own (fact.Time time); has_time = true }
draft_with draft (fact.Set octets) = record draft { ready = Some octets }
draft_with draft line = record draft { own = own_with draft.own line }
