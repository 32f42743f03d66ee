use Rattle.std.proofs.Common.{◌≡◌, take}
use Rattle.std.specs.List.{flat_map}
use Rattle.per_bits.specs.Bits.{value_of}
use Rattle.msd_codec.specs.Canonical.{character_bits}
use Rattle.msd_codec.proofs.writing.texts.number_of.Given as goal

abbrev pub invariant-loop-character : goal.invariant-loop-character
invariant-loop-character l = l.number ≡ value_of (flat_map character_bits (take l.character-index l.fn.piece))
