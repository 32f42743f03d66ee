-- The reading of octets as a function: the value that they show, or why they show none. This project's profile, over
-- ITU-T X.691, unaligned variant: the size first, then the elements of the spelling, the bits that pad, and the
-- appended octets. The laws say that it answers a value exactly where octets show it, and a refusal exactly where
-- they stop so. Cited by `decode` and `spelling_laws`.
use Rattle.std.specs.Prelude.{ℕ, ◌+◌, ◌-◌, ◌/◌, ◌%◌, ◌==◌, ◌||◌, nat_lt, min, Bool, true, false, List, [], ◌∷◌, length, take, drop, Option, Some, None, Result, Ok, Err, if◌then◌else◌}
use Rattle.per_bits.specs.Bits.{Part, octet_bits, all_bits, room_octets}
use Rattle.per_bits.specs.declared.refusals.Refusal.{Refusal}
use Rattle.per_bits.specs.declared.refusals.Reason.TheVariants.{PadBits, Trailing, Size}
use Rattle.per_types.specs.Types.{Tree}
use Rattle.per_types.specs.Stops.{Read}
use Rattle.per_types.specs.Reading.{◌>>=◌, format_at, tree_at}
use Rattle.msd_codec.specs.Module.{known_formats, ecall_message}
use Rattle.msd_codec.specs.Formats.{format_of}

-- the first bit 1 of those that begin at this place
abbrev pub pad_fault : ℕ → List Bool → Option Refusal
pad_fault place [] = None
pad_fault place (true ∷ bits) = Some (record { place = place; reason = PadBits; value = 1 })
pad_fault place (false ∷ bits) = pad_fault (place + 1) bits

-- the first octet that isn't 0 of those that begin at this place
abbrev pub appended_fault : ℕ → List ℕ → Option Refusal
appended_fault place [] = None
appended_fault place (o ∷ octets) =
    if o == 0
    then appended_fault (place + 8) octets
    else Some (record { place = place; reason = Trailing; value = o })

-- how many bits pad a spelling of so many bits
abbrev pub pad_count : ℕ → ℕ
pad_count n = (8 - n % 8) % 8

-- what is refused behind a spelling that ends at this place
abbrev pub rest_fault : List ℕ → ℕ → Option Refusal
rest_fault octets end =
    elim (pad_fault end (take (pad_count end) (drop end (octet_bits octets)))) as (λ _. Option Refusal) [
      | Some refusal ↦ Some refusal
      | None ↦ let padded_end = end + pad_count end in appended_fault padded_end (drop (padded_end / 8) octets)
    ]

-- the value, unless something is refused
abbrev pub unless : {X : Type 0} → Option Refusal → X → Result X Refusal
unless None v = Ok v
unless (Some refusal) v = Err refusal

-- the elements of the spelling, by the module of the format whose number stands first
unfoldable pub set_at : Part → Read Tree
set_at p = format_at known_formats p >>= λ id. tree_at (ecall_message (format_of id.0)) p

-- the answer, once the elements of the spelling are read
abbrev pub finished : List ℕ → Read Tree → Result Tree Refusal
finished octets (Ok x) = unless (rest_fault octets x.1.start) x.0
finished octets (Err e) = Err e.0

-- the value that the octets show, or their refusal
unfoldable pub reading_of : List ℕ → Result Tree Refusal
reading_of octets =
    if (length octets == 0) || nat_lt room_octets (length octets)
    then Err (record { place = 0; reason = Size; value = min 141 (length octets) })
    else finished octets (set_at (all_bits octets))
