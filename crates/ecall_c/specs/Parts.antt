-- A part of a live message as the flat struct that C fills. This project's profile. Cited by the export that writes
-- one.
use Rattle.std.specs.Prelude.{◌≡◌, ◌≤◌, ◌<◌, ◌==◌, ◌⊎◌, if◌then◌else◌, ℕ}
use Rattle.link_parts.specs.declared.part.Part.{Part}
use Rattle.link_parts.specs.declared.part.Part.TheVariants.{Dials, Answers, Leaves, Rings, Takes, Carries}
use Rattle.ecall_c.specs.declared.messages.EcallMessagePart.{EcallMessagePart}
use Rattle.ecall_c.specs.Items.{IsFrame, frame_of}

-- A part with a number has one of 1 or more, and one that carries a frame has a frame.
abbrev pub IsNumbered : EcallMessagePart → Type 0
IsNumbered p = ((p.kind ≤ 4) ⊎ ((p.kind ≡ 5) × IsFrame p.frame)) × (0 < p.call)

abbrev pub IsPart : EcallMessagePart → Type 0
IsPart p = (p.kind ≡ 0) ⊎ IsNumbered p

abbrev pub part_of : EcallMessagePart → Part
part_of p =
    if p.kind == 0 then Dials
    else if p.kind == 1 then Answers p.call
    else if p.kind == 2 then Leaves p.call
    else if p.kind == 3 then Rings p.call
    else if p.kind == 4 then Takes p.call
    else Carries p.call (frame_of p.frame)
