use Rattle.std.proofs.Common.{codes, refl}
use Rattle.std.proofs.lemmas.List.Sums.{AllPass-from_list_all}
use Rattle.msd_values.specs.Alphabet as alphabet
use Rattle.script_commands.proofs.trial.own_facts.Goals as goal

pub of-requires : goal.of-requires
unfolding alphabet.is_vin_character
of-requires c = (refl, AllPass-from_list_all alphabet.is_vin_character (codes "WM9VDSVDSYA123456") refl)
