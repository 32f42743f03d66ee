-- The lines of a floor's script: a line of one vehicle stands behind the vehicle's number; lines that name a call, or
-- are of the whole floor, stand alone. This project's profile. Cited by the contract of `read_floor_line`, and by
-- the reply of `ecall floor`.
use Rattle.std.specs.Prelude.{ℕ, ◌==◌, ◌&&◌, ◌||◌, not, Bool, true, false, List, [], ◌∷◌, codes, Option, Some, None, Result, Ok, Err, if◌then◌else◌}
use Rattle.std.specs.Str.{bytes_eq}
use Rattle.line_input.specs.Characters.{minus}
use Rattle.line_input.specs.Numbers.{is_digit}
use Rattle.line_input.specs.Words.{words}
use Rattle.line_input.specs.declared.reason.Reason.{Reason}
use Rattle.line_input.specs.declared.reason.Reason.TheVariants as reason
use Rattle.trace_text.specs.Script.{line_by_word}
use Rattle.trace_text.specs.declared.script.ScriptLine.{ScriptLine}
use Rattle.floor_text.specs.VehicleNumbers.{vehicle_number}
use Rattle.floor_text.specs.declared.line.NumberedLine.{NumberedLine}

abbrev pub begins_with_digit : List ℕ → Bool
begins_with_digit [] = false
begins_with_digit (c ∷ cs) = is_digit c

-- whether a first word is meant as a vehicle's number: it begins with a digit, or with `-` and a digit
abbrev pub is_for_vehicle : List ℕ → Bool
is_for_vehicle [] = false
is_for_vehicle (c ∷ cs) = is_digit c || (c == minus && begins_with_digit cs)

-- ---- whose a line is, by its words

-- the first words of the lines that name a call, or are of the whole floor
abbrev pub names_shared : List ℕ → Bool
names_shared first =
    bytes_eq first (codes "deliver") || bytes_eq first (codes "tick") || bytes_eq first (codes "flow")
    || bytes_eq first (codes "damaged") || bytes_eq first (codes "request") || bytes_eq first (codes "clear")
    || bytes_eq first (codes "hangup")

-- the first words of the lines whose second word says whose they are
abbrev pub names_end : List ℕ → Bool
names_end first = bytes_eq first (codes "fault") || bytes_eq first (codes "drop")

-- the second word is there, and is `vehicle`
abbrev pub is_of_vehicle : List (List ℕ) → Bool
is_of_vehicle [] = false
is_of_vehicle (second ∷ rest) = bytes_eq second (codes "vehicle")

-- the second word is there, and is another
abbrev pub is_of_other : List (List ℕ) → Bool
is_of_other [] = false
is_of_other (second ∷ rest) = not (bytes_eq second (codes "vehicle"))

-- whether a line with this first word may stand behind a vehicle's number
abbrev pub may_follow : List ℕ → List (List ℕ) → Bool
may_follow first rest = if names_end first then not (is_of_other rest) else not (names_shared first)

-- whether it may stand alone
abbrev pub may_stand_alone : List ℕ → List (List ℕ) → Bool
may_stand_alone first rest = if names_end first then not (is_of_vehicle rest) else names_shared first

-- ---- the lines

-- what a line says, and behind whose number
abbrev pub numbered : Option ℕ → Result ScriptLine Reason → Result NumberedLine Reason
numbered v (Ok says) = Ok (record { vehicle = v; says = says })
numbered v (Err why) = Err why

abbrev pub own_line : ℕ → List ℕ → List (List ℕ) → Result NumberedLine Reason
own_line v first rest = if may_follow first rest then numbered (Some v) (line_by_word first rest) else Err reason.Word

-- The words behind a vehicle's number: there is one at least, the number is in its range, and then they are judged as a
-- line of that vehicle. Which events are a vehicle's is judged where the event is known.
abbrev pub own_by_words : Option ℕ → List (List ℕ) → Result NumberedLine Reason
own_by_words v [] = Err reason.Count
own_by_words None (first ∷ rest) = Err reason.Number
own_by_words (Some v) (first ∷ rest) = own_line v first rest

abbrev pub shared_line : List ℕ → List (List ℕ) → Result NumberedLine Reason
shared_line first rest = if may_stand_alone first rest then numbered None (line_by_word first rest) else Err reason.Word

abbrev pub floor_by_words : List (List ℕ) → Result NumberedLine Reason
floor_by_words [] = Err reason.Word
floor_by_words (first ∷ rest) =
    if is_for_vehicle first then own_by_words (vehicle_number first) rest else shared_line first rest

-- what a line says by itself, or why it is refused
abbrev pub floor_line : List ℕ → Result NumberedLine Reason
floor_line text = floor_by_words (words text)
