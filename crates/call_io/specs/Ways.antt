-- What a sink over a borrowed one promises beside its bytes: that it stays over the same one, and that what went on to
-- it stays there. This project's profile. The contracts of `Sink`, `write_all`, `Block` and all that is written over
-- them cite this file.
use Rattle.std.specs.Prelude.{◌≡◌, ℕ, ◌≤◌}
use Rattle.std.specs.Borrow.{GName}

-- which reference a sink writes through, and how many bytes went on to what is behind it, where these are told
pub record Way : Type 0 where
  pub name : GName
  pub sent : ℕ

-- still the same reference, and no fewer bytes
abbrev pub Onward : Way → Way → Type 0
Onward old new = (new.name ≡ old.name) × (old.sent ≤ new.sent)
