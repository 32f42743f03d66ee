-- What the two ends of a live link tell each other in a round: a message of parts, as octets, and what an item of an
-- end gives to send. This project's profile. Cited by the contracts of `write_part` and `part_of_item`, and by the runs
-- of both ends.
use Rattle.std.specs.Prelude.{ℕ, Bool, false, List, [], ◌∷◌, ◌++◌, ◌/◌, ◌%◌}
use Rattle.std.specs.List.{flat_map}
use Rattle.link_frames.specs.declared.note.Note.{Note}
use Rattle.link_frames.specs.declared.note.Note.TheVariants as note
use Rattle.link_frames.specs.declared.note.Why.{Why}
use Rattle.link_frames.specs.declared.note.Why.TheVariants as why
use Rattle.link_frames.specs.FrameOctets.{frame_octets}
use Rattle.link_parts.specs.declared.part.Part.{Part}
use Rattle.link_parts.specs.declared.part.Part.TheVariants.{Dials, Answers, Leaves, Rings, Takes, Carries}

-- a number in four octets, greatest first
abbrev pub number_octets : ℕ → List ℕ
number_octets c = c / 16777216 % 256 ∷ c / 65536 % 256 ∷ c / 256 % 256 ∷ c % 256 ∷ []

abbrev pub part_octets : Part → List ℕ
part_octets Dials = 16 ∷ []
part_octets (Answers c) = 17 ∷ number_octets c
part_octets (Leaves c) = 18 ∷ number_octets c
part_octets (Rings c) = 19 ∷ number_octets c
part_octets (Takes c) = 20 ∷ number_octets c
part_octets (Carries c f) = 32 ∷ number_octets c ++ frame_octets f

-- the octet behind a message's parts
abbrev pub message_end : ℕ
message_end = 0

-- the octet that stands in place of a message: the vehicle's script is at its end
abbrev pub script_end : ℕ
script_end = 48

abbrev pub message_octets : List Part → List ℕ
message_octets parts = flat_map part_octets parts ++ message_end ∷ []

-- That an end left a call is sent where it did so by itself, and not because the other end had left it, nor because the
-- call was lost.
abbrev pub part_left : (followed : Bool) → (call : ℕ) → Why → List Part
part_left false c why.Release = Leaves c ∷ []
part_left false c why.Hangup = Leaves c ∷ []
part_left followed c _ = []

-- What an item gives to send.
abbrev pub part_of : (followed : Bool) → Note → List Part
part_of followed (note.Dial n) = Dials ∷ []
part_of followed (note.Send e c f) = Carries c f ∷ []
part_of followed (note.Down e c w) = part_left followed c w
part_of followed _ = []

abbrev pub parts_of : (followed : Bool) → List Note → List Part
parts_of followed items = flat_map (part_of followed) items
