-- The module of a minimum set of data in each format, as a tree of types: this project's profile, after
-- EN 15722, in the kinds of ITU-T X.691, unaligned variant. Cited by the definitions of which octets show a
-- set, by the laws, and by every reader and writer of this crate.
use Rattle.std.specs.Prelude.{ℕ, List, pos, neg_ℤ, true, false, [], ◌∷◌}
use Rattle.msd_values.specs.declared.format.Format.{Format}
use Rattle.msd_values.specs.declared.format.Format.TheVariants.{One, Two}
use Rattle.per_types.specs.Types.{truth, Ty, boolean, integer, characters, octet_string, relative_oid, enumerated, format, sequence, Components, no_components, required, optional, default}

-- a number from 0 to 255
unfoldable pub octet : Ty
octet = integer (pos 0) (pos 255)

-- seconds since 1970-01-01
unfoldable pub timestamp : Ty
timestamp = integer (pos 0) (pos 4294967295)

-- milliarcseconds
unfoldable pub angle : Ty
angle = integer (neg_ℤ (pos 2147483648)) (pos 2147483647)

-- units of 100 milliarcseconds
unfoldable pub angle_delta : Ty
angle_delta = integer (neg_ℤ (pos 512)) (pos 511)

-- M1 M2 M3 N1 N2 N3 L1e L2e L3e L4e L5e L6e L7e
unfoldable pub vehicle_type : Ty
vehicle_type = enumerated 13

-- automatic activation, test call, whether the position can be trusted, and the vehicle's type
unfoldable pub control_type : Ty
control_type =
    sequence false
    (required boolean
    (required boolean
    (required boolean
    (required vehicle_type no_components))))

-- the manufacturer, the vehicle, its model year, and its number
unfoldable pub vehicle_identification : Ty
vehicle_identification =
    sequence false
    (required (characters 3)
    (required (characters 6)
    (required (characters 1)
    (required (characters 7) no_components))))

-- other energies, which format 1 has no mark for
abbrev pub other_storage : Format → Components
other_storage One = no_components
other_storage Two = default boolean (truth false) no_components

-- gasoline, diesel, compressed natural gas, liquid propane gas, electric, hydrogen, other
unfoldable pub storages : Format → Components
storages f =
    default boolean (truth false)
    (default boolean (truth false)
    (default boolean (truth false)
    (default boolean (truth false)
    (default boolean (truth false)
    (default boolean (truth false) (other_storage f))))))

unfoldable pub propulsion_storage : Format → Ty
propulsion_storage f = sequence true (storages f)

-- latitude and longitude
unfoldable pub vehicle_location : Ty
vehicle_location = sequence false (required angle (required angle no_components))

-- latitude and longitude
unfoldable pub location_delta : Ty
location_delta = sequence false (required angle_delta (required angle_delta no_components))

-- The message identifier, control, the vehicle's identification, what it stores for its propulsion, the
-- timestamp, its location and direction, the two recent locations, and the number of passengers.
unfoldable pub msd_structure : Format → Ty
msd_structure f =
    sequence true
    (required octet
    (required control_type
    (required vehicle_identification
    (required (propulsion_storage f)
    (required timestamp
    (required vehicle_location
    (required octet
    (optional location_delta
    (optional location_delta
    (optional octet no_components))))))))))

unfoldable pub additional_data : Ty
additional_data = sequence false (required relative_oid (required octet_string no_components))

unfoldable pub msd_message : Format → Ty
msd_message f = sequence true (required (msd_structure f) (optional additional_data no_components))

-- the numbers of the formats
abbrev pub known_formats : List ℕ
known_formats = 1 ∷ 2 ∷ []

-- the number of the format, of which 1 and 2 are known, and the message of this format
unfoldable pub ecall_message : Format → Ty
ecall_message f = sequence false (required (format known_formats) (required (msd_message f) no_components))
