-- The names of the commands that a program takes.
use Rattle.std.proofs.Common.{◌≡◌, ℕ, List, [], ◌∷◌, ◌++◌, map, ap, ◌∙◌}
use Rattle.std.proofs.lemmas.List.{map-append}
use Rattle.clap.specs.Words.{AddsSubcommand, Shape, names_in, shape_of, subcommand_names, subcommands_of}
use Rattle.clap.specs.declared.builder.command.Command.{Command}
use Rattle.view_commands.specs.inner.Words.{name_of}

names_both : (cs ds : List Command) → names_in (cs ++ ds) ≡ names_in cs ++ names_in ds
names_both cs ds =
    ap (λ (z : List Shape). map (λ (s : Shape). s.name) z) (map-append shape_of cs ds)
    ∙ map-append (λ (s : Shape). s.name) (map shape_of cs) (map shape_of ds)

-- one command more
pub named_more : (old sub new : Command) (names : List (List ℕ)) (name : List ℕ) → AddsSubcommand old sub new
    → subcommand_names old ≡ names → name_of sub ≡ name → subcommand_names new ≡ names ++ name ∷ []
named_more old sub new names name adds before is =
    ap names_in adds.subcommands
    ∙ names_both (subcommands_of old) (adds.added ∷ [])
    ∙ ap (λ (z : List (List ℕ)). z ++ name_of adds.added ∷ []) before
    ∙ ap (λ (z : List ℕ). names ++ z ∷ []) (ap (λ z. z.now) adds.name ∙ is)
