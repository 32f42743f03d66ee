-- Bytes on their way from a source, and the text of the last line that was read of them. Scaffolding: cited by the
-- contracts of private functions alone.
use Rattle.std.specs.Prelude.{ℕ, List, []}
use Rattle.line_input.specs.Feed.{Feed, first_feed}

pub record Held : Type 0 where
  pub feed : Feed
  pub line : List ℕ

-- before anything was read
abbrev pub first_held : Held
first_held = record { feed = first_feed; line = [] }
