-- What a reader of lines has, and what each of its answers says of the bytes that it took from its source. This
-- project's profile. Cited by the contract of `Lines`.
use Rattle.std.specs.Prelude.{◌≡◌, ℕ, ◌+◌, ◌<◌, ◌≤◌, Bool, true, false, List, [], ◌∷◌, ◌++◌, length, not, ◌==◌, ◌&&◌, Option, Some, Result, Ok, Err}
use Rattle.std.specs.List.{AllByRecursion, list_any}
use Rattle.call_io.specs.Counts.{Rose}
use Rattle.line_input.specs.Characters.{newline, number_sign, is_newline}
use Rattle.line_input.specs.Feed.{Feed, first_feed, Draws, IsDone, IsInner}
use Rattle.line_input.specs.Lines.{lines_of, line_fault, most_at_once, most_in_line, IsPassedOver, IsLine}
use Rattle.line_input.specs.declared.reason.BadLine.{BadLine}
use Rattle.line_input.specs.declared.fault.LineFault.{LineFault}
use Rattle.line_input.specs.declared.fault.LineFault.TheVariants as fault

-- A failed read comes only where the count of the source's faults rose, and any other answer only where it stood.
abbrev pub LineFaultCause : LineFault → (old new : ℕ) → Type 0
LineFaultCause (fault.Bad bad) old new = new ≡ old
LineFaultCause fault.ReadFault old new = Rose old new
LineFaultCause fault.TooLong old new = new ≡ old

pub record Reading : Type 0 where
  -- the bytes between the source and the lines
  pub feed : Feed
  -- how many lines were read, those that are passed over among them
  pub lines : ℕ
  -- the text of the last of them
  pub text : List ℕ
  -- a fault was answered
  pub failed : Bool

-- before anything was read
abbrev pub first_reading : Reading
first_reading = record { feed = first_feed; lines = 0; text = []; failed = false }

-- behind the end of the input nothing follows
abbrev pub MayFollow : Feed → List ℕ → Type 0
MayFollow feed more = feed.ended ≡ true → more ≡ []

-- whether a byte may begin a line that isn't passed over
abbrev pub may_begin_line : ℕ → Bool
may_begin_line b = not (b == newline) && not (b == number_sign)

abbrev pub begins_line : List ℕ → Bool
begins_line [] = false
begins_line (b ∷ _) = may_begin_line b

-- Whether the bytes begin with a line that isn't passed over, its newline included: the next line is known, or refused,
-- without a further byte.
abbrev pub begins_with_line : List ℕ → Bool
begins_with_line bytes = list_any is_newline bytes && begins_line bytes

-- A front of the bytes, at least one of them, is lines that are passed over and then the last line read, whatever may
-- follow.
pub record FindsLine (old new : Reading) (bytes : List ℕ) : Type 0 where
  pub front : List ℕ
  pub some : 0 < length front
  pub passed : List (List ℕ)
  pub split : bytes ≡ front ++ new.feed.pending
  pub given : new.feed.given ≡ old.feed.given + length front
  pub each : AllByRecursion IsPassedOver passed
  pub last : new.lines ≡ old.lines + length passed + 1
  pub says : IsLine new.text
  pub lines : (more : List ℕ) → MayFollow new.feed more → lines_of (front ++ more) ≡ passed ++ new.text ∷ lines_of more

-- All the bytes are lines that are passed over, and nothing follows.
pub record FindsEnd (old new : Reading) (bytes : List ℕ) : Type 0 where
  pub passed : List (List ℕ)
  pub given : new.feed.given ≡ old.feed.given + length bytes
  pub each : AllByRecursion IsPassedOver passed
  pub last : new.lines ≡ old.lines + length passed
  pub ended : new.feed.ended ≡ true
  pub lines : lines_of bytes ≡ passed

-- A front of the bytes is lines that are passed over and then one that is refused, whatever may follow: as far as to
-- its newline, to the end of the input, or to the first byte that is too many for a line.
pub record FindsBad (old new : Reading) (bytes : List ℕ) (bad : BadLine) : Type 0 where
  pub front : List ℕ
  pub passed : List (List ℕ)
  pub split : bytes ≡ front ++ new.feed.pending
  pub given : new.feed.given ≡ old.feed.given + length front
  pub each : AllByRecursion IsPassedOver passed
  pub number : bad.line ≡ old.lines + length passed + 1
  pub ends : (text : List ℕ) × (lines_of front ≡ passed ++ text ∷ []) × (length text ≤ most_in_line + 1)
  pub lines : (more : List ℕ) → MayFollow new.feed more →
      (text : List ℕ) × (rest : List (List ℕ)) × (lines_of (front ++ more) ≡ passed ++ text ∷ rest)
      × (line_fault text ≡ Some bad.reason)

-- The bytes are lines that are passed over and then a part of a line that neither ended nor is too long, and the source
-- had not ended.
pub record FindsPart (old new : Reading) (bytes : List ℕ) : Type 0 where
  pub front : List ℕ
  pub passed : List (List ℕ)
  pub «open» : List ℕ
  pub split : bytes ≡ front ++ «open»
  pub given : old.feed.given + length front ≤ new.feed.given
  pub each : AllByRecursion IsPassedOver passed
  pub inner : AllByRecursion IsInner «open»
  pub short : length «open» ≤ 512
  pub alive : new.feed.ended ≡ false
  pub lines : (more : List ℕ) → lines_of (front ++ more) ≡ passed ++ lines_of more

-- The bytes are lines that are passed over and then a line that isn't ended, nor too long, by the 16,777,216th byte of
-- the input; and at least one byte more.
pub record FindsTooMany (old : Reading) (bytes : List ℕ) : Type 0 where
  pub front : List ℕ
  pub passed : List (List ℕ)
  pub «open» : List ℕ
  pub rest : List ℕ
  pub split : bytes ≡ front ++ («open» ++ rest)
  pub full : old.feed.given + length front + length «open» ≡ 16777216
  pub beyond : 0 < length rest
  pub near : length rest ≤ most_at_once
  pub each : AllByRecursion IsPassedOver passed
  pub inner : AllByRecursion IsInner «open»
  pub short : length «open» ≤ 512
  pub lines : (more : List ℕ) → lines_of (front ++ more) ≡ passed ++ lines_of more

-- what an answer says of the bytes at hand; true is a line, false the end of the input
abbrev pub Finds : (old new : Reading) → List ℕ → Result Bool LineFault → Type 0
Finds old new bytes (Ok true) = FindsLine old new bytes × (new.failed ≡ false)
Finds old new bytes (Ok false) = FindsEnd old new bytes × (new.failed ≡ false)
Finds old new bytes (Err (fault.Bad bad)) = FindsBad old new bytes bad
Finds old new bytes (Err fault.ReadFault) = FindsPart old new bytes
Finds old new bytes (Err fault.TooLong) = FindsTooMany old bytes

-- One more line is read: of the bytes that were pending and those that were taken for it. No more are pending behind it
-- than were read at once with its end.
pub record ReadsLine (old new : Reading) (left left' : Option (List ℕ)) (answer : Result Bool LineFault) : Type 0 where
  pub done : IsDone new.feed
  pub taken : List ℕ
  pub draws : Draws old.feed new.feed left left' taken
  pub limit : new.feed.given ≤ 16777216
  pub near : length new.feed.pending ≤ most_at_once
  pub few : new.lines ≤ new.feed.given
  pub finds : Finds old new (old.feed.pending ++ taken) answer
