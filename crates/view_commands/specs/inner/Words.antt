-- The name of a command among the words that the program takes. Cited by the contracts of private functions.
use Rattle.std.specs.Prelude.{ℕ, List}
use Rattle.clap.specs.declared.builder.command.Command.{Command}
use Rattle.clap.specs.declared.builder.command.Command.TheViews.{out-Command as fields_of}

abbrev pub name_of : Command → List ℕ
name_of command = (fields_of command).name.now
