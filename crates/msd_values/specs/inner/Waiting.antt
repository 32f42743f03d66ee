-- How a text is put on a page, and what a sink has been told of a text that is written through a page: this project's
-- profile. Cited only by the contracts of the private functions that write a description.
use Rattle.std.specs.Prelude.{◌≡◌, ℕ, List, ◌++◌, Option, Result, Ok, Err, ⊤}
use Rattle.call_io.specs.Bytes.{Grew, GrewPartly}
use Rattle.call_io.specs.declared.Failed.{Failed}

-- The page has the text behind what it had.
pub record Appends (old new text : List ℕ) : Type 0 where
  pub items : new ≡ old ++ text

-- What waited and the text after it were told up to what waits now.
pub record Passed (old new : Option (List ℕ)) (waited waits text : List ℕ) : Type 0 where
  pub told : List ℕ
  pub grew : Grew old new told
  pub rest : told ++ waits ≡ waited ++ text

-- The text passed; or the sink failed, and was told a front of what waited and the text.
abbrev pub Passes : Result ⊤ Failed → (old new : Option (List ℕ)) → (waited waits text : List ℕ) → Type 0
Passes (Ok _) old new waited waits text = Passed old new waited waits text
Passes (Err _) old new waited waits text = GrewPartly old new (waited ++ text)
