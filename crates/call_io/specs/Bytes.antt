-- What a write leaves on a sink and a read takes from a source, where the bytes are told: this project's profile.
-- Bytes are told as `Some` list of them; `None` tells nothing, and then no clause speaks of bytes.
-- The contracts of `Source`, `Sink` and `write_all` cite this file, and those of everything that is written over them.
use Rattle.std.specs.Prelude.{◌≡◌, ℕ, List, [], ◌++◌, Option, IfSome, ◌↔◌}
use Rattle.std.specs.Io.KnownBytes.{append_known, prepend_known}

-- the bytes told grew by these at their end
abbrev pub Grew : Option (List ℕ) → Option (List ℕ) → List ℕ → Type 0
Grew old new bytes = new ≡ append_known old bytes

-- the bytes told grew by a front of these
abbrev pub GrewPartly : Option (List ℕ) → Option (List ℕ) → List ℕ → Type 0
GrewPartly old new bytes = (front rest : List ℕ) × (front ++ rest ≡ bytes) × Grew old new front

-- the bytes told began with these, and lost them
abbrev pub Took : Option (List ℕ) → Option (List ℕ) → List ℕ → Type 0
Took old new bytes = old ≡ prepend_known bytes new

-- where the bytes left are told, a read of so many is a read of none exactly where nothing is left
abbrev pub EndsExactly : Option (List ℕ) → ℕ → Type 0
EndsExactly left count = IfSome left (λ bytes. (count ≡ 0) ↔ (bytes ≡ []))
