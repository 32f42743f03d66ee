-- The lines of a description one behind the other, and in the groups in which they are put on a page.
use Rattle.std.proofs.Common.{◌≡◌, ℕ, Bool, true, false, List, [], ◌∷◌, ◌++◌, refl, append_assoc}
use Rattle.std.specs.Prelude.{codes, decimal}
use Rattle.std.specs.List.{concat}
use Rattle.std.proofs.lemmas.List.{append-nil}
use Rattle.msd_values.specs.declared.msd.Msd.{Msd}
use Rattle.msd_values.specs.declared.remarks.Remarks.{Remarks}
use Rattle.msd_values.specs.Additions.{additions_text}
use Rattle.msd_values.specs.Description.{line, lines_of, description}
use Rattle.msd_values.specs.Remarks.{remarks_of}
use Rattle.msd_values.specs.Format.{format_number}
use Rattle.msd_values.specs.Civil.{instant_text}
use Rattle.msd_values.specs.Texts.{or_none, truth_text, kind_text, marks_text, angle_text, heading_text, way_text, extra_text, remarks_text}
use Rattle.msd_values.specs.inner.Groups.{vehicle_lines, place_lines, spaced_remarks, remarks_line}

-- twenty texts one behind the other, and in groups, the last written otherwise
regroup : (a b c d e f g h i j k l m n o p q r s t last : List ℕ) → t ≡ last
    → concat (a ∷ b ∷ c ∷ d ∷ e ∷ f ∷ g ∷ h ∷ i ∷ j ∷ k ∷ l ∷ m ∷ n ∷ o ∷ p ∷ q ∷ r ∷ s ∷ t ∷ [])
    ≡ (a ++ b ++ c ++ d ++ e ++ f ++ g ++ h) ++ i ++ (j ++ k ++ l ++ m ++ n ++ o ++ p) ++ q ++ r ++ s ++ last
regroup a b c d e f g h i j k l m n o p q r s t last same = rw same (simp (append_assoc, append-nil))

-- words behind a space each are words with a space between them, behind a space
spaced : (latitude longitude heading : Bool) → (remarks : Remarks) → remarks ≡ record { latitude = latitude; longitude = longitude; heading = heading }
    → line (codes "remarks") (remarks_text remarks) ≡ codes "remarks" ++ spaced_remarks remarks ++ codes "\n"
spaced false false false remarks same = rw same refl
spaced false false true remarks same = rw same refl
spaced false true false remarks same = rw same refl
spaced false true true remarks same = rw same refl
spaced true false false remarks same = rw same refl
spaced true false true remarks same = rw same refl
spaced true true false remarks same = rw same refl
spaced true true true remarks same = rw same refl

remarks_line_is : (msd : Msd) → line (codes "remarks") (remarks_text (remarks_of msd)) ≡ remarks_line msd
unfolding remarks_line
remarks_line_is msd = spaced (remarks_of msd).latitude (remarks_of msd).longitude (remarks_of msd).heading (remarks_of msd) refl

pub description_groups : (msd : Msd) → description msd ≡
    vehicle_lines msd
    ++ line (codes "fuel_more") (or_none additions_text msd.fuel_more)
    ++ place_lines msd
    ++ line (codes "set_more") (or_none additions_text msd.set_more)
    ++ line (codes "extra") (or_none extra_text msd.extra)
    ++ line (codes "message_more") (or_none additions_text msd.message_more)
    ++ remarks_line msd
unfolding description lines_of vehicle_lines place_lines
description_groups msd =
    regroup
    (line (codes "format") (decimal (format_number msd.format)))
    (line (codes "message") (decimal msd.message))
    (line (codes "automatic") (truth_text msd.automatic))
    (line (codes "test") (truth_text msd.test))
    (line (codes "trusted") (truth_text msd.trusted))
    (line (codes "kind") (kind_text msd.kind))
    (line (codes "vin") msd.vin)
    (line (codes "fuel") (marks_text msd.fuel))
    (line (codes "fuel_more") (or_none additions_text msd.fuel_more))
    (line (codes "time") (decimal msd.time ++ (codes " " ++ instant_text msd.time)))
    (line (codes "latitude") (angle_text msd.latitude))
    (line (codes "longitude") (angle_text msd.longitude))
    (line (codes "heading") (heading_text msd.heading))
    (line (codes "before1") (or_none way_text msd.before1))
    (line (codes "before2") (or_none way_text msd.before2))
    (line (codes "passengers") (or_none decimal msd.passengers))
    (line (codes "set_more") (or_none additions_text msd.set_more))
    (line (codes "extra") (or_none extra_text msd.extra))
    (line (codes "message_more") (or_none additions_text msd.message_more))
    (line (codes "remarks") (remarks_text (remarks_of msd)))
    (remarks_line msd) (remarks_line_is msd)
