-- What a reader that fills a place says. This project's profile. Scaffolding: cited by the contracts of private
-- functions alone.
use Rattle.std.specs.Prelude.{Bool, Option, Some, None, Result, Ok, Err, if◌then◌else◌}

-- an answer with what stands in the place that was filled; a refusal says nothing of the place
abbrev pub placed : {A B E : Type 0} → Result A E → B → Result B E
placed (Ok _) place = Ok place
placed (Err why) place = Err why

-- what stands in a place, where it was filled
abbrev pub filled : {A : Type 0} → Bool → A → Option A
filled done place = if done then Some place else None
