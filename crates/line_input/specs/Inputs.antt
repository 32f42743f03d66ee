-- What is said of an input where only a front of it was read. This project's profile. Cited by what an audit and a
-- command say of the bytes that they took.
use Rattle.std.specs.Prelude.{◌≡◌, ℕ, ◌+◌, ◌<◌, ◌≤◌, List, [], ◌∷◌, ◌++◌, length}
use Rattle.std.specs.List.{AllByRecursion}
use Rattle.line_input.specs.Feed.{IsInner}
use Rattle.line_input.specs.Lines.{AreWholeLines, lines_of, most_at_once, most_bytes, most_in_line}

-- The line of this number is the last one in these bytes, and they go no further in it than to its newline, or to the
-- first byte that is too many for a line.
pub record EndsInLine (number : ℕ) (bytes : List ℕ) : Type 0 where
  pub before : List (List ℕ)
  pub text : List ℕ
  pub lines : lines_of bytes ≡ before ++ text ∷ []
  pub place : number ≡ length before + 1
  pub short : length text ≤ most_in_line + 1

-- It is settled by a front of the input that ends in the line of this number, within the bytes that an input may have:
-- whatever comes behind that front, it holds. Behind it there is no more than what was read at once with its end.
pub record IsSettledBy (Holds : List ℕ → Type 0) (number : ℕ) (input : List ℕ) : Type 0 where
  pub front : List ℕ
  pub rest : List ℕ
  pub split : input ≡ front ++ rest
  pub within : length front ≤ most_bytes
  pub ends : EndsInLine number front
  pub near : length rest ≤ most_at_once
  pub holds : (more : List ℕ) → Holds (front ++ more)

-- What was taken stops within a line, as far as it is known: whole lines, of which this holds, and then a part of a
-- line that neither ended nor is too long.
pub record StopsWithin (Holds : List ℕ → Type 0) (input : List ℕ) : Type 0 where
  pub front : List ℕ
  pub unended : List ℕ
  pub split : input ≡ front ++ unended
  pub within : length front ≤ most_bytes
  pub lines : AreWholeLines front
  pub inner : AllByRecursion IsInner unended
  pub short : length unended ≤ most_in_line
  pub holds : Holds front

-- The input has more bytes than it may have. What stands in front of the line that neither ended nor is too long, by
-- the last of these, are whole lines of which this holds; and at least one byte follows, and no more than were read at
-- once with it.
pub record RunsOver (Holds : List ℕ → Type 0) (input : List ℕ) : Type 0 where
  pub front : List ℕ
  pub unended : List ℕ
  pub rest : List ℕ
  pub split : input ≡ front ++ (unended ++ rest)
  pub full : length (front ++ unended) ≡ most_bytes
  pub beyond : 0 < length rest
  pub near : length rest ≤ most_at_once
  pub lines : AreWholeLines front
  pub inner : AllByRecursion IsInner unended
  pub short : length unended ≤ most_in_line
  pub holds : Holds front

-- What was taken goes no further than to the end of whole lines, or of one line behind them, and what was read at once
-- with that end: of the lines before it this holds.
pub record StopsNear (Holds : List (List ℕ) → Type 0) (input : List ℕ) : Type 0 where
  pub front : List ℕ
  pub rest : List ℕ
  pub split : input ≡ front ++ rest
  pub within : length front ≤ most_bytes
  pub near : length rest ≤ most_at_once
  pub before : List (List ℕ)
  pub last : List (List ℕ)
  pub lines : lines_of front ≡ before ++ last
  pub few : length last ≤ 1
  pub holds : Holds before
