-- Which requests are among those of a list, and which lists a `Requests` stands for: those with the same requests,
-- whatever their order and however often each. This project's profile. Cited by the contracts of `Requests`, and by
-- the ends, whose definitions list all that was shown and counted.
use Rattle.std.specs.Prelude.{◌≡◌, ◌<◌, ◌/◌, ◌%◌, ℕ, Bool, List, ◌==◌, get_or}
use Rattle.std.specs.Int.{bit_at}
use Rattle.std.specs.List.{list_any}
use Rattle.link_frames.specs.declared.requests.Requests.{Requests}

-- whether the request is among these
abbrev pub is_among : ℕ → List ℕ → Bool
is_among r rs = list_any (λ q. q == r) rs

-- the bit of a number among words of 64 bits
abbrev pub bit_of : List ℕ → ℕ → ℕ
bit_of words r = bit_at (get_or words (r / 64) 0) (r % 64)

-- for each number of a request, its bit is 1 where the request is among these, and else 0
unfoldable pub RequestsStandFor : Requests → List ℕ → Type 0
RequestsStandFor kept rs = (r : ℕ) → r < 256 → (bit_of kept.words r == 1) ≡ is_among r rs
