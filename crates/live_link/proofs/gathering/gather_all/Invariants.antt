use Rattle.std.proofs.Common.{◌≡◌, ◌++◌, take}
use Rattle.std.specs.List.{flat_map}
use Rattle.link_parts.specs.Messages.{part_octets, parts_of}
use Rattle.live_link.proofs.gathering.gather_all.Given as goal

abbrev pub invariant-loop-note : goal.invariant-loop-note
invariant-loop-note l =
    l.octets.items ≡ l.initial.octets.items ++ flat_map part_octets (parts_of l.followed (take l.note-index l.items))
