-- Which live end the words ask for: each form of words is an exact list. This project's profile. Cited by `live_words`.
use Rattle.std.specs.Prelude.{ℕ, nat_lt, List, [], ◌∷◌, Option, Some, None, codes, if◌then◌else◌}
use Rattle.std.specs.Str.{bytes_eq}
use Rattle.line_input.specs.Numbers.{positive}
use Rattle.live_link.specs.declared.answer.Live.{Live}
use Rattle.live_link.specs.declared.answer.Live.TheVariants as live_end

-- a number from 1 on that is a port
abbrev pub as_port : Option ℕ → Option ℕ
as_port None = None
as_port (Some n) = if nat_lt n 65536 then Some n else None

-- a decimal number from 1 to 65535, without leading zeros
abbrev pub port_of : List ℕ → Option ℕ
port_of text = as_port (positive text)

-- the end of a word and a port
abbrev pub end_named : List ℕ → ℕ → Option Live
end_named word port =
    if bytes_eq word (codes "vehicle") then Some (live_end.Vehicle port)
    else if bytes_eq word (codes "point") then Some (live_end.Point port)
    else None

-- the same, where the second word is a port
abbrev pub end_at : List ℕ → Option ℕ → Option Live
end_at word None = None
end_at word (Some port) = end_named word port

-- the end that the words ask for; no other words are a form of these words
abbrev pub end_of_words : List (List ℕ) → Option Live
end_of_words (word ∷ port ∷ []) = end_at word (port_of port)
end_of_words _ = None
