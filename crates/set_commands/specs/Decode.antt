-- What `ecall decode` replies to lines with one set of data in hexadecimal each: the description of each set, up to the
-- first line that is refused, or whose octets are no set. This project's profile. Cited by the reply to words and an
-- input.
use Rattle.std.specs.Prelude.{◌≡◌, ℕ, ◌+◌, Bool, List, [], ◌∷◌, ◌⊎◌, Option, Some, None, Result, Ok, Err, if◌then◌else◌}
use Rattle.hex.specs.Hex.{decode_of}
use Rattle.hex.specs.declared.error.FromHexError.{FromHexError}
use Rattle.per_bits.specs.declared.refusals.Refusal.{Refusal}
use Rattle.msd_values.specs.Description.{description}
use Rattle.msd_values.specs.declared.msd.Msd.{Msd}
use Rattle.msd_codec.specs.Sets.{Shows, StopsAt}
use Rattle.line_input.specs.Lines.{line_fault, is_comment, lines_of}
use Rattle.line_input.specs.Words.{only_word_of, words}
use Rattle.line_input.specs.declared.reason.Reason.{Reason}
use Rattle.line_input.specs.declared.reason.Reason.TheVariants as reason
use Rattle.command_base.specs.declared.refusal.Refused.TheVariants as refused
use Rattle.command_base.specs.declared.status.Status.TheVariants as status
use Rattle.command_base.specs.Refusals.{Reply, refusal_reply, in_front_of}

-- the octets that hexadecimal of either case stands for
abbrev pub octets_in : Result (List ℕ) FromHexError → Result (List ℕ) Reason
octets_in (Ok octets) = Ok octets
octets_in (Err e) = Err reason.Hex

-- the octets of a line, by the only word that it has
abbrev pub octets_of_word : Option (List ℕ) → Result (List ℕ) Reason
octets_of_word None = Err reason.Count
octets_of_word (Some word) = octets_in (decode_of word)

abbrev pub some_octets : Result (List ℕ) Reason → Result (Option (List ℕ)) Reason
some_octets (Ok octets) = Ok (Some octets)
some_octets (Err why) = Err why

-- a line by why it is refused whatever it says, by whether it is passed over, and by its octets
abbrev pub judged_by : Option Reason → (passed_over : Bool) → Result (List ℕ) Reason → Result (Option (List ℕ)) Reason
judged_by (Some why) passed_over octets = Err why
judged_by None passed_over octets = if passed_over then Ok None else some_octets octets

-- the octets of a line, nothing where it is passed over, or why it is refused
abbrev pub judged_set : List ℕ → Result (Option (List ℕ)) Reason
judged_set text = judged_by (line_fault text) (is_comment text) (octets_of_word (only_word_of (words text)))

-- Octets show a set, which is described in front of the rest's reply.
pub record Described (octets : List ℕ) (Rest : Reply → Type 0) (r : Reply) : Type 0 where
  pub msd : Msd
  pub rest : Reply
  pub shown : Shows octets msd
  pub replied : Rest rest
  pub says : r ≡ in_front_of (description msd) rest

-- Octets are no set, which ends the reply.
pub record Stopped (number : ℕ) (octets : List ℕ) (r : Reply) : Type 0 where
  pub refusal : Refusal
  pub stops : StopsAt octets refusal
  pub says : r ≡ refusal_reply (refused.Set number refusal)

-- the reply to a line, and to the rest behind it
abbrev pub IsLineDecoded : ℕ → Result (Option (List ℕ)) Reason → (Rest : Reply → Type 0) → Reply → Type 0
IsLineDecoded number (Err why) Rest r = r ≡ refusal_reply (refused.Line (record { line = number; reason = why }))
IsLineDecoded number (Ok None) Rest r = Rest r
IsLineDecoded number (Ok (Some octets)) Rest r = Described octets Rest r ⊎ Stopped number octets r

-- the reply to lines from a number on
abbrev pub AreDecoded : ℕ → List (List ℕ) → Reply → Type 0
AreDecoded number [] r = r ≡ record { text = []; status = status.Done }
AreDecoded number (text ∷ texts) r = IsLineDecoded number (judged_set text) (AreDecoded (number + 1) texts) r

-- the reply of `decode` to an input
abbrev pub IsDecoded : List ℕ → Reply → Type 0
IsDecoded input r = AreDecoded 1 (lines_of input) r
