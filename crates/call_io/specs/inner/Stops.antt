-- When a writer of std stopped: this project's profile.
-- Cited only by the contract of the private function that counts what a `RealSink`'s writer answered.
use Rattle.std.specs.Prelude.{◌≡◌, ℕ, ◌<◌, List, length, Result, Ok, Err, ⊤}

-- what a writer answered of a piece is a stop: an error, or that it took nothing where there was something
abbrev pub IsStop : {E : Type 0} → Result ℕ E → List ℕ → Type 0
IsStop (Err e) piece = ⊤
IsStop (Ok n) piece = (n ≡ 0) × (0 < length piece)
