-- The description of a set of data for people, in twenty lines: this project's profile. Each line is a name, a space,
-- the value and a newline. Cited by the contract of `describe`, and by whoever hands a description on.
use Rattle.std.specs.Prelude.{ℕ, List, [], ◌∷◌, ◌++◌, codes, decimal}
use Rattle.std.specs.List.{concat}
use Rattle.msd_values.specs.declared.msd.Msd.{Msd}
use Rattle.msd_values.specs.Additions.{additions_text}
use Rattle.msd_values.specs.Format.{format_number}
use Rattle.msd_values.specs.Civil.{instant_text}
use Rattle.msd_values.specs.Remarks.{remarks_of}
use Rattle.msd_values.specs.Texts.{or_none, truth_text, kind_text, marks_text, angle_text, heading_text, way_text, extra_text, remarks_text}

abbrev pub line : List ℕ → List ℕ → List ℕ
line name value = name ++ (codes " " ++ (value ++ codes "\n"))

-- the twenty lines, in order
unfoldable pub lines_of : Msd → List (List ℕ)
lines_of msd =
    line (codes "format") (decimal (format_number msd.format))
    ∷ line (codes "message") (decimal msd.message)
    ∷ line (codes "automatic") (truth_text msd.automatic)
    ∷ line (codes "test") (truth_text msd.test)
    ∷ line (codes "trusted") (truth_text msd.trusted)
    ∷ line (codes "kind") (kind_text msd.kind)
    ∷ line (codes "vin") msd.vin
    ∷ line (codes "fuel") (marks_text msd.fuel)
    ∷ line (codes "fuel_more") (or_none additions_text msd.fuel_more)
    ∷ line (codes "time") (decimal msd.time ++ (codes " " ++ instant_text msd.time))
    ∷ line (codes "latitude") (angle_text msd.latitude)
    ∷ line (codes "longitude") (angle_text msd.longitude)
    ∷ line (codes "heading") (heading_text msd.heading)
    ∷ line (codes "before1") (or_none way_text msd.before1)
    ∷ line (codes "before2") (or_none way_text msd.before2)
    ∷ line (codes "passengers") (or_none decimal msd.passengers)
    ∷ line (codes "set_more") (or_none additions_text msd.set_more)
    ∷ line (codes "extra") (or_none extra_text msd.extra)
    ∷ line (codes "message_more") (or_none additions_text msd.message_more)
    ∷ line (codes "remarks") (remarks_text (remarks_of msd))
    ∷ []

unfoldable pub description : Msd → List ℕ
description msd = concat (lines_of msd)
