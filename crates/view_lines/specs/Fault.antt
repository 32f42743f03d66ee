-- How much of a line is enough to know whether it is refused for its length: one byte more than a line may have. This
-- project's profile. Cited by `LineTeller`.
use Rattle.std.specs.Prelude.{ℕ}

-- the most bytes that are kept of a line
abbrev pub most_kept : ℕ
most_kept = 513
