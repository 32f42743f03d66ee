-- Each list of lines has a reply of `decode`.
use Rattle.std.specs.Prelude.{◌≡◌, ℕ, ◌+◌, ◌⊎◌, Bool, true, false, List, [], ◌∷◌, Option, Some, None, Result, Ok, Err, suc}
use Rattle.std.proofs.Common.{refl, inl, inr}
use Rattle.hex.specs.Hex.{decode_of, IsBytes}
use Rattle.hex.specs.declared.error.FromHexError.{FromHexError}
use Rattle.hex.proofs.HexLemmas.{decode_of-ok}
use Rattle.per_bits.specs.Parts.{AreOctets}
use Rattle.per_bits.specs.declared.refusals.Refusal.{Refusal}
use Rattle.msd_values.specs.Description.{description}
use Rattle.msd_values.specs.declared.msd.Msd.{Msd}
use Rattle.msd_codec.specs.Sets.{Shows, StopsAt}
use Rattle.msd_codec.proofs.SetLaws.{decided}
use Rattle.line_input.specs.Lines.{line_fault, is_comment}
use Rattle.line_input.specs.Words.{only_word_of, words}
use Rattle.line_input.specs.declared.reason.Reason.{Reason}
use Rattle.set_commands.specs.Decode.{octets_in, octets_of_word, some_octets, judged_by, judged_set, IsLineDecoded, AreDecoded}
use Rattle.command_base.specs.Refusals.{Reply, refusal_reply, in_front_of}
use Rattle.command_base.specs.declared.refusal.Refused.TheVariants as refused
use Rattle.command_base.specs.declared.status.Status.TheVariants as status

bytes_octets : (octets : List ℕ) → IsBytes octets → AreOctets octets
bytes_octets [] h = tt
bytes_octets (o ∷ octets) h = (h 0, bytes_octets octets (λ i. h (suc i)))

-- the octets of a line are octets, where it has some
abbrev AreSome : Result (Option (List ℕ)) Reason → Type 0
AreSome (Ok (Some octets)) = AreOctets octets
AreSome _ = Unit {0}

hex_octets : (text : List ℕ) → AreSome (some_octets (octets_in (decode_of text)))
hex_octets text = by_result (decode_of text) refl
  where
    by_result : (r : Result (List ℕ) FromHexError) → decode_of text ≡ r → AreSome (some_octets (octets_in r))
    by_result (Ok octets) h = bytes_octets octets (decode_of-ok text octets h).3
    by_result (Err e) h = tt

word_octets : (word : Option (List ℕ)) → AreSome (some_octets (octets_of_word word))
word_octets None = tt
word_octets (Some word) = hex_octets word

judged_octets : (text : List ℕ) → AreSome (judged_set text)
judged_octets text =
    by_parts (line_fault text) (is_comment text) (octets_of_word (only_word_of (words text)))
    (word_octets (only_word_of (words text)))
  where
    by_parts : (why : Option Reason) (passed_over : Bool) (octets : Result (List ℕ) Reason)
        → AreSome (some_octets octets) → AreSome (judged_by why passed_over octets)
    by_parts (Some why) passed_over octets h = tt
    by_parts None true octets h = tt
    by_parts None false octets h = h

-- a line has a reply, where the lines behind it have one
line_some : (number : ℕ) (place : Result (Option (List ℕ)) Reason) (Rest : Reply → Type 0) → AreSome place
    → (r : Reply) → Rest r → (whole : Reply) × IsLineDecoded number place Rest whole
line_some number (Err why) Rest h r rest = (refusal_reply (refused.Line (record { line = number; reason = why })), refl)
line_some number (Ok None) Rest h r rest = (r, rest)
line_some number (Ok (Some octets)) Rest h r rest = by_set (decided octets h)
  where
    by_set : ((msd : Msd) × Shows octets msd) ⊎ ((refusal : Refusal) × StopsAt octets refusal)
        → (whole : Reply) × IsLineDecoded number (Ok (Some octets)) Rest whole
    by_set (inl shows) = (
      in_front_of (description shows.0) r,
      inl (record { msd = shows.0; rest = r; shown = shows.1; replied = rest; says = refl }),
    )
    by_set (inr stops) = (
      refusal_reply (refused.Set number stops.0),
      inr (record { refusal = stops.0; stops = stops.1; says = refl }),
    )

-- each list of lines has a reply
pub decoded_some : (number : ℕ) (texts : List (List ℕ)) → (r : Reply) × AreDecoded number texts r
decoded_some number [] = (record { text = []; status = status.Done }, refl)
decoded_some number (text ∷ texts) =
    let rest : (r : Reply) × AreDecoded (number + 1) texts r = decoded_some (number + 1) texts in
    line_some number (judged_set text) (AreDecoded (number + 1) texts) (judged_octets text) rest.0 rest.1
