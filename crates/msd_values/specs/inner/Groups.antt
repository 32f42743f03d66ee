-- The lines of a description in the groups in which they are put on a page: this project's profile. Cited only by the
-- contracts of the private functions that put them there.
use Rattle.std.specs.Prelude.{ℕ, List, [], ◌++◌, Bool, true, false, ◌||◌, codes, decimal, if◌then◌else◌}
use Rattle.per_bits.specs.Bits.{Part, octets_of}
use Rattle.msd_values.specs.declared.msd.Msd.{Msd}
use Rattle.msd_values.specs.declared.remarks.Remarks.{Remarks}
use Rattle.msd_values.specs.Additions.{addition_text}
use Rattle.msd_values.specs.Format.{format_number}
use Rattle.msd_values.specs.Civil.{instant_text}
use Rattle.msd_values.specs.Description.{line}
use Rattle.msd_values.specs.Remarks.{remarks_of}
use Rattle.msd_values.specs.Texts.{or_none, truth_text, kind_text, marks_text, angle_text, heading_text, way_text}

-- what the set is, and of which vehicle
unfoldable pub vehicle_lines : Msd → List ℕ
vehicle_lines msd =
    line (codes "format") (decimal (format_number msd.format))
    ++ line (codes "message") (decimal msd.message)
    ++ line (codes "automatic") (truth_text msd.automatic)
    ++ line (codes "test") (truth_text msd.test)
    ++ line (codes "trusted") (truth_text msd.trusted)
    ++ line (codes "kind") (kind_text msd.kind)
    ++ line (codes "vin") msd.vin
    ++ line (codes "fuel") (marks_text msd.fuel)

-- when and where it was made, and who is in the vehicle
unfoldable pub place_lines : Msd → List ℕ
place_lines msd =
    line (codes "time") (decimal msd.time ++ (codes " " ++ instant_text msd.time))
    ++ line (codes "latitude") (angle_text msd.latitude)
    ++ line (codes "longitude") (angle_text msd.longitude)
    ++ line (codes "heading") (heading_text msd.heading)
    ++ line (codes "before1") (or_none way_text msd.before1)
    ++ line (codes "before2") (or_none way_text msd.before2)
    ++ line (codes "passengers") (or_none decimal msd.passengers)

-- a present addition as the section's part
abbrev pub part_text : ℕ × Part → List ℕ
part_text addition = addition_text (addition.0, octets_of addition.1.bits)

-- a word that applies, behind a space
abbrev pub spaced_if : Bool → List ℕ → List ℕ
spaced_if true word = codes " " ++ word
spaced_if false word = []

-- the remarks that apply, or none, each behind a space
abbrev pub spaced_remarks : Remarks → List ℕ
spaced_remarks remarks =
    if remarks.latitude || remarks.longitude || remarks.heading
    then spaced_if remarks.latitude (codes "latitude")
    ++ spaced_if remarks.longitude (codes "longitude")
    ++ spaced_if remarks.heading (codes "heading")
    else codes " none"

-- which values are remarked
unfoldable pub remarks_line : Msd → List ℕ
remarks_line msd = codes "remarks" ++ spaced_remarks (remarks_of msd) ++ codes "\n"
