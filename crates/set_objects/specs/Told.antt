-- What is told of a line with a set of data in hexadecimal: an object, unless the line is passed over, whether or not
-- it is refused. This project's profile. What a line says is what `ecall decode` reads in it, and its set is the one
-- that its octets show. Cited by `put_line`.
use Rattle.std.specs.Prelude.{◌≡◌, ℕ, Bool, true, false, List, ◌++◌, ◌⊎◌, Option, Some, None, Result, Ok, Err}
use Rattle.per_bits.specs.declared.refusals.Refusal.{Refusal}
use Rattle.msd_values.specs.declared.msd.Msd.{Msd}
use Rattle.msd_codec.specs.Sets.{Shows, StopsAt}
use Rattle.line_input.specs.declared.reason.Reason.{Reason}
use Rattle.view_lines.specs.Refused.{line_refusal_object}
use Rattle.view_lines.specs.Told.{Told, nothing_told}
use Rattle.set_objects.specs.Bad.{set_refusal_object}
use Rattle.set_objects.specs.Object.{set_object}

-- the octets show a set, and its object is told
pub record SetTold (number : ℕ) (octets : List ℕ) (t : Told) : Type 0 where
  pub msd : Msd
  pub shown : Shows octets msd
  pub says : t ≡ record { text = set_object number msd; refused = false }

-- the octets are no set, and the object says so
pub record SetRefused (number : ℕ) (octets : List ℕ) (t : Told) : Type 0 where
  pub refusal : Refusal
  pub stops : StopsAt octets refusal
  pub says : t ≡ record { text = set_refusal_object number refusal; refused = true }

-- what is told of a line, by what `decode` reads in it
abbrev pub IsLineTold : ℕ → Result (Option (List ℕ)) Reason → Told → Type 0
IsLineTold number (Err why) t = t ≡ record { text = line_refusal_object number why; refused = true }
IsLineTold number (Ok None) t = t ≡ nothing_told
IsLineTold number (Ok (Some octets)) t = SetTold number octets t ⊎ SetRefused number octets t

-- What is told of a line, by what is read in it, came behind a text.
pub record PutsLine (number : ℕ) (judged : Result (Option (List ℕ)) Reason) (old new : List ℕ) (refused : Bool)
    : Type 0 where
  pub object : List ℕ
  pub told : IsLineTold number judged (record { text = object; refused = refused })
  pub grew : new ≡ old ++ object
