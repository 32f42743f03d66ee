use Rattle.std.proofs.Common.{◌≡◌, ◌-◌, ◌*◌, length, take}
use Rattle.std.specs.List.{AllPass}
use Rattle.per_bits.specs.Bits.{behind}
use Rattle.per_types.specs.Reading.{text_at}
use Rattle.msd_values.specs.Alphabet.{is_vin_character}
use Rattle.msd_codec.proofs.Identification.{text_behind}
use Rattle.msd_codec.proofs.reading.texts.known_characters.Given as goal

abbrev pub invariant-loop-i : goal.invariant-loop-i
invariant-loop-i l = record {
  read : text_at 17 l.c ≡ text_behind (take l.i l.characters) (text_at (17 - l.i) (behind l.c (6 * l.i)));
  passes : AllPass is_vin_character (take l.i l.characters);
  long : length l.characters ≡ 17;
}
