-- The object of a set of data: one line of JSON, with the values of the set's description in its order. This project's
-- profile. What is unknown or absent is null. Cited by what is told of a line.
use Rattle.std.specs.Prelude.{ℕ, Bool, true, false, ◌*◌, ◌==◌, ℤ, List, [], ◌∷◌, codes, decimal, length, if◌then◌else◌, Option, None, Some}
use Rattle.std.specs.List.{concat, flat_map}
use Rattle.std.specs.Fmt.{signed_decimal}
use Rattle.std.specs.Ordering.{int_eq}
use Rattle.hex.specs.Hex.{encode_lower}
use Rattle.per_bits.specs.Bits.{Part, octets_of}
use Rattle.per_bits.specs.Parts.{members_of, present_members}
use Rattle.msd_values.specs.Civil.{instant_text}
use Rattle.msd_values.specs.Format.{format_number}
use Rattle.msd_values.specs.Position.{Way}
use Rattle.msd_values.specs.Remarks.{remarks_of, unknown_angle}
use Rattle.msd_values.specs.Texts.{root_name}
use Rattle.msd_values.specs.declared.kind.VehicleKind.{VehicleKind}
use Rattle.msd_values.specs.declared.kind.VehicleKind.TheVariants.{Root, Added}
use Rattle.msd_values.specs.declared.msd.Msd.{Msd}
use Rattle.msd_values.specs.declared.msd.Marks.{Marks}
use Rattle.msd_values.specs.declared.msd.Extra.{Extra}
use Rattle.msd_values.specs.declared.remarks.Remarks.{Remarks}
use Rattle.set_objects.specs.Degrees.{degrees_text}
use Rattle.set_objects.specs.Json.{boolean_text, or_null}

-- the category: its name, or the number of one that was added later
unfoldable pub kind_fields : VehicleKind → List ℕ
kind_fields (Root number) =
    concat (codes ",\"kind\":\"" ∷ root_name number ∷ codes "\",\"added_kind\":null" ∷ [])
kind_fields (Added number) = concat (codes ",\"kind\":null,\"added_kind\":" ∷ decimal number ∷ [])

-- the number of the line, the format and the number of the message
unfoldable pub number_fields : ℕ → Msd → List ℕ
number_fields number msd =
    concat (
    codes "{\"line\":" ∷ decimal number
    ∷ codes ",\"format\":" ∷ decimal (format_number msd.format)
    ∷ codes ",\"message\":" ∷ decimal msd.message
    ∷ []
    )

-- whether the vehicle itself triggered the call, whether it is a test, and whether the location can be trusted
unfoldable pub truth_fields : Msd → List ℕ
truth_fields msd =
    concat (
    codes ",\"automatic\":" ∷ boolean_text msd.automatic
    ∷ codes ",\"test\":" ∷ boolean_text msd.test
    ∷ codes ",\"trusted\":" ∷ boolean_text msd.trusted
    ∷ []
    )

unfoldable pub vin_field : List ℕ → List ℕ
vin_field vin = concat (codes ",\"vin\":\"" ∷ vin ∷ codes "\"" ∷ [])

-- the first four energies
unfoldable pub first_energies : Marks → List ℕ
first_energies fuel =
    concat (
    codes ",\"fuel\":{\"gasoline\":" ∷ boolean_text fuel.gasoline
    ∷ codes ",\"diesel\":" ∷ boolean_text fuel.diesel
    ∷ codes ",\"natural_gas\":" ∷ boolean_text fuel.natural_gas
    ∷ codes ",\"propane\":" ∷ boolean_text fuel.propane
    ∷ []
    )

-- the others, and the end of their object
unfoldable pub last_energies : Marks → List ℕ
last_energies fuel =
    concat (
    codes ",\"electric\":" ∷ boolean_text fuel.electric
    ∷ codes ",\"hydrogen\":" ∷ boolean_text fuel.hydrogen
    ∷ codes ",\"other\":" ∷ boolean_text fuel.other
    ∷ codes "}" ∷ []
    )

-- a present addition: its index from 0, and its octets
unfoldable pub addition_field : ℕ × List ℕ → List ℕ
addition_field addition =
    concat (codes ",\"" ∷ decimal addition.0 ∷ codes "\":\"" ∷ encode_lower addition.1 ∷ codes "\"" ∷ [])

-- how many additions there is a presence bit for, and each present one by its index
unfoldable pub additions_object : Part → List ℕ
additions_object section =
    concat (
    codes "{\"count\":" ∷ decimal (length (members_of section.bits))
    ∷ flat_map addition_field (present_members 0 (members_of section.bits))
    ∷ codes "}" ∷ []
    )

-- a field of additions; the name stands with its comma, its quotes and its colon
unfoldable pub additions_field : (name : List ℕ) → Option Part → List ℕ
additions_field name section = concat (name ∷ or_null additions_object section ∷ [])

-- the seconds since 1970-01-01T00:00:00Z, and the instant after RFC 3339
unfoldable pub time_fields : ℕ → List ℕ
time_fields time =
    concat (codes ",\"time\":" ∷ decimal time ∷ codes ",\"time_utc\":\"" ∷ instant_text time ∷ codes "\"" ∷ [])

-- an angle, unless it is unknown
abbrev pub known_angle : ℤ → Option ℤ
known_angle angle = if int_eq angle unknown_angle then None else Some angle

-- an angle in milliarcseconds, and in degrees; the names stand with their commas, quotes and colons
unfoldable pub angle_fields : (name degrees : List ℕ) → ℤ → List ℕ
angle_fields name degrees angle =
    concat (
    name ∷ or_null signed_decimal (known_angle angle)
    ∷ degrees ∷ or_null degrees_text (known_angle angle)
    ∷ []
    )

-- a heading in steps of 2 degrees, and in degrees; the names stand with their commas, quotes and colons
unfoldable pub turned_fields : (name degrees : List ℕ) → ℕ → List ℕ
turned_fields name degrees steps = concat (name ∷ decimal steps ∷ degrees ∷ decimal (2 * steps) ∷ [])

-- the heading by whether it is unknown
abbrev pub heading_by : (unknown : Bool) → ℕ → List ℕ
heading_by true steps = codes ",\"heading\":null,\"heading_degrees\":null"
heading_by false steps = turned_fields (codes ",\"heading\":") (codes ",\"heading_degrees\":") steps

unfoldable pub heading_fields : ℕ → List ℕ
heading_fields heading = heading_by (heading == 255) heading

-- the way from an earlier location, in units of 100 milliarcseconds
unfoldable pub way_object : Way → List ℕ
way_object way =
    concat (
    codes "{\"latitude\":" ∷ signed_decimal way.latitude
    ∷ codes ",\"longitude\":" ∷ signed_decimal way.longitude
    ∷ codes "}" ∷ []
    )

-- a field of a way; the name stands with its comma, its quotes and its colon
unfoldable pub way_field : (name : List ℕ) → Option Way → List ℕ
way_field name way = concat (name ∷ or_null way_object way ∷ [])

unfoldable pub passengers_field : Option ℕ → List ℕ
passengers_field passengers = concat (codes ",\"passengers\":" ∷ or_null decimal passengers ∷ [])

-- a field of octets; the name stands with its quotes, its colon and the quote that follows
unfoldable pub octets_field : (name octets : List ℕ) → List ℕ
octets_field name octets = concat (name ∷ encode_lower octets ∷ codes "\"" ∷ [])

-- the object identifier and the data
unfoldable pub extra_object : Extra → List ℕ
extra_object extra =
    concat (
    octets_field (codes "{\"oid\":\"") (octets_of extra.oid.bits)
    ∷ octets_field (codes ",\"content\":\"") (octets_of extra.content.bits)
    ∷ codes "}" ∷ []
    )

unfoldable pub extra_field : Option Extra → List ℕ
extra_field extra = concat (codes ",\"extra\":" ∷ or_null extra_object extra ∷ [])

-- which values make no sense, the end of the object, and a newline
unfoldable pub remarks_fields : Remarks → List ℕ
remarks_fields remarks =
    concat (
    codes ",\"remarks\":{\"latitude\":" ∷ boolean_text remarks.latitude
    ∷ codes ",\"longitude\":" ∷ boolean_text remarks.longitude
    ∷ codes ",\"heading\":" ∷ boolean_text remarks.heading
    ∷ codes "}}\n" ∷ []
    )

unfoldable pub latitude_fields : ℤ → List ℕ
latitude_fields angle = angle_fields (codes ",\"latitude\":") (codes ",\"latitude_degrees\":") angle

unfoldable pub longitude_fields : ℤ → List ℕ
longitude_fields angle = angle_fields (codes ",\"longitude\":") (codes ",\"longitude_degrees\":") angle

-- when and where the set was made
unfoldable pub position_fields : Msd → List ℕ
position_fields msd =
    concat (
    time_fields msd.time ∷ latitude_fields msd.latitude ∷ longitude_fields msd.longitude ∷ []
    )

-- where the vehicle came from and went, and who is in it
unfoldable pub way_fields : Msd → List ℕ
way_fields msd =
    concat (
    heading_fields msd.heading
    ∷ way_field (codes ",\"before1\":") msd.before1
    ∷ way_field (codes ",\"before2\":") msd.before2
    ∷ passengers_field msd.passengers
    ∷ []
    )

-- what the message and the vehicle are
unfoldable pub vehicle_fields : ℕ → Msd → List ℕ
vehicle_fields number msd =
    concat (number_fields number msd ∷ truth_fields msd ∷ kind_fields msd.kind ∷ vin_field msd.vin ∷ [])

-- which energies the vehicle has
unfoldable pub fuel_fields : Msd → List ℕ
fuel_fields msd =
    concat (
    first_energies msd.fuel
    ∷ last_energies msd.fuel
    ∷ additions_field (codes ",\"fuel_more\":") msd.fuel_more
    ∷ []
    )

unfoldable pub last_fields : Msd → List ℕ
last_fields msd =
    concat (
    additions_field (codes ",\"set_more\":") msd.set_more
    ∷ extra_field msd.extra
    ∷ additions_field (codes ",\"message_more\":") msd.message_more
    ∷ remarks_fields (remarks_of msd)
    ∷ []
    )

-- the object of a set that stands in the line of this number, and a newline
unfoldable pub set_object : ℕ → Msd → List ℕ
set_object number msd =
    concat (
    vehicle_fields number msd
    ∷ fuel_fields msd
    ∷ position_fields msd
    ∷ way_fields msd
    ∷ last_fields msd
    ∷ []
    )
