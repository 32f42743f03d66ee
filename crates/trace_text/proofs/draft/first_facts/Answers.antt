use Rattle.std.proofs.Common.{refl, replicate}
use Rattle.std.proofs.lemmas.List.Sums.{AllPass-from_list_all}
use Rattle.msd_values.specs.Alphabet.{is_vin_character}
use Rattle.trace_text.proofs.draft.first_facts.Goals as goal

pub of-requires : goal.of-requires
unfolding is_vin_character
of-requires c = (refl, AllPass-from_list_all is_vin_character (replicate 17 48) refl)
