-- The delay of a flow of frames. This project's profile. Cited by the type `Delay`, and by the definitions of lines.
use Rattle.std.specs.Prelude.{ℕ}

-- the longest delay of a flow, in ticks
abbrev pub longest_delay : ℕ
longest_delay = 1000
