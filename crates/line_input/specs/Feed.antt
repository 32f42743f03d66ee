-- Bytes on their way from a source into lines: those that were taken and not yet given on, and how many were given on.
-- This project's profile. Cited by the definition of a reader of lines, and with it by the contract of `Lines::next`.
use Rattle.std.specs.Prelude.{◌≡◌, ◌≢◌, ℕ, ◌⊎◌, Bool, true, false, List, [], Option}
use Rattle.std.specs.Io.KnownBytes.{IsAtEnd}
use Rattle.call_io.specs.Bytes.{Took}
use Rattle.line_input.specs.Characters.{newline}

pub record Feed : Type 0 where
  -- the bytes that were taken from the source and not yet given on
  pub pending : List ℕ
  -- how many bytes were given on
  pub given : ℕ
  -- the source said that nothing is left; it isn't read again
  pub ended : Bool

-- before anything was read
abbrev pub first_feed : Feed
first_feed = record { pending = []; given = 0; ended = false }

-- These bytes were taken from the source. Behind its end none are; and where it ended, nothing is left.
pub record Draws (old new : Feed) (left left' : Option (List ℕ)) (taken : List ℕ) : Type 0 where
  pub took : Took left left' taken
  pub idle : old.ended ≡ true → taken ≡ []
  pub stays : old.ended ≡ true → new.ended ≡ true
  pub «end» : new.ended ≡ true → (old.ended ≡ true) ⊎ IsAtEnd left'

-- no byte is pending where the source ended
abbrev pub IsDone : Feed → Type 0
IsDone feed = feed.ended ≡ true → feed.pending ≡ []

-- a byte that doesn't end a line
abbrev pub IsInner : ℕ → Type 0
IsInner b = b ≢ newline
