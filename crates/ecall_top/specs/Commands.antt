-- Which command the words name: each form of words is an exact list. This project's profile. Cited by the reply to
-- words and an input.
use Rattle.std.specs.Prelude.{ℕ, ◌^◌, ◌&&◌, nat_le, Bool, true, false, List, [], ◌∷◌, Option, Some, None, codes, if◌then◌else◌}
use Rattle.std.specs.Str.{bytes_eq}
use Rattle.line_input.specs.Numbers.{natural_below}
use Rattle.tones_command.specs.Modem.{most_noise}
use Rattle.ecall_top.specs.declared.command.Command.{Command}
use Rattle.ecall_top.specs.declared.command.Command.TheVariants as command

-- the command of one word
abbrev pub command_named : List ℕ → Option Command
command_named word =
    if bytes_eq word (codes "run") then Some command.Run
    else if bytes_eq word (codes "register") then Some command.Register
    else if bytes_eq word (codes "decode") then Some command.Decode
    else if bytes_eq word (codes "encode") then Some command.Encode
    else if bytes_eq word (codes "frames") then Some command.Frames
    else if bytes_eq word (codes "replay") then Some command.Replay
    else if bytes_eq word (codes "conform") then Some command.Conform
    else if bytes_eq word (codes "floor") then Some command.Floor
    else if bytes_eq word (codes "relay") then Some command.Relay
    else None

-- the command of a word and a number
abbrev pub command_numbered : List ℕ → ℕ → Option Command
command_numbered word number =
    if bytes_eq word (codes "make") then Some (command.Make number)
    else if bytes_eq word (codes "trial") then Some (command.Trial number)
    else None

-- the command of a word and two numbers: noise moves a sample by the first at most, and is drawn from the second on
abbrev pub command_noisy : List ℕ → (most number : ℕ) → Option Command
command_noisy word most number =
    if bytes_eq word (codes "tones") && nat_le most most_noise
    then Some (command.Tones (record { most = most; number = number }))
    else None

-- the same, where the second word is a number
abbrev pub command_at : List ℕ → Option ℕ → Option Command
command_at word None = None
command_at word (Some number) = command_numbered word number

-- the same of two numbers, where the second and the third word are numbers
abbrev pub command_noisy_at : List ℕ → (most number : Option ℕ) → Option Command
command_noisy_at word (Some most) (Some number) = command_noisy word most number
command_noisy_at word _ _ = None

-- the command that the words name; no other words are a form of words
abbrev pub command_of : List (List ℕ) → Option Command
command_of (word ∷ []) = command_named word
command_of (word ∷ number ∷ []) = command_at word (natural_below (2 ^ 32) number)
command_of (word ∷ most ∷ number ∷ []) =
    command_noisy_at word (natural_below (2 ^ 32) most) (natural_below (2 ^ 32) number)
command_of _ = None

-- whether a command plays a script, and so passes the ends of its calls
abbrev pub plays : Option Command → Bool
plays (Some command.Run) = true
plays (Some command.Register) = true
plays (Some (command.Trial number)) = true
plays (Some (command.Tones noise)) = true
plays (Some command.Floor) = true
plays (Some command.Relay) = true
plays _ = false

-- whether a command takes memory
abbrev pub takes_memory : Option Command → Bool
takes_memory (Some command.Run) = true
takes_memory (Some command.Replay) = true
takes_memory (Some command.Register) = true
takes_memory (Some (command.Trial number)) = true
takes_memory (Some (command.Tones noise)) = true
takes_memory (Some command.Floor) = true
takes_memory (Some command.Relay) = true
takes_memory _ = false

-- whether a command writes nothing before its end, but the refusal of a line
abbrev pub writes_once : Option Command → Bool
writes_once (Some command.Register) = true
writes_once (Some command.Replay) = true
writes_once (Some (command.Trial number)) = true
writes_once _ = false

-- whether a command reads an input
abbrev pub reads : Option Command → Bool
reads None = false
reads (Some (command.Make number)) = false
reads (Some (command.Trial number)) = false
reads (Some command.Conform) = false
reads _ = true
