-- The script that `ecall make` writes for a number. It has the facts of one vehicle and 2000 calls, whose times are
-- drawn by a linear congruential generator that begins with that number. This project's profile. Cited by the contract
-- of `make`, and by the reply to words and an input.
use Rattle.std.specs.Prelude.{ℕ, zero, suc, ◌+◌, ◌*◌, ◌/◌, ◌%◌, ◌^◌, List, [], ◌∷◌, ◌++◌, codes, decimal}
use Rattle.line_input.specs.Characters.{newline}
use Rattle.script_commands.specs.declared.make.CallTimes.{CallTimes}

-- how many calls a script has that is made
abbrev pub most_made : ℕ
most_made = 2000

-- a draw replaces x by this
unfoldable pub drawn : ℕ → ℕ
drawn x = (x * 1664525 + 1013904223) % 2 ^ 32

-- and gives this of the new x: the upper half of its 32 bits
unfoldable pub gives : ℕ → ℕ
gives x = x / 65536

-- x behind the four draws of a call
abbrev pub behind_call : ℕ → ℕ
behind_call x = drawn (drawn (drawn (drawn x)))

-- the times of a call by its four draws: the delay of the flow up and of the flow down, the ticks until a newer set is
-- asked for, and the ticks from then until the call is cleared
abbrev pub times_of : (a b c d : ℕ) → CallTimes
times_of a b c d = record { up = a % 40; down = b % 40; request = 20 + c % 400; clear = 20 + d % 400 }

-- the times of a call, where x stood so before its draws
abbrev pub call_times : ℕ → CallTimes
call_times x =
    times_of (gives (drawn x)) (gives (drawn (drawn x))) (gives (drawn (drawn (drawn x))))
    (gives (drawn (drawn (drawn (drawn x)))))

-- the lines of the facts
abbrev pub fact_lines : List (List ℕ)
fact_lines =
    codes "vin WM9VDSVDSYA123456" ∷ codes "kind 1" ∷ codes "fuel 1000000" ∷ codes "time 1577836800"
    ∷ codes "place 173880000 41700000" ∷ codes "heading 45" ∷ codes "trusted yes" ∷ []

-- the lines of the call of a number
abbrev pub call_lines : ℕ → CallTimes → List (List ℕ)
call_lines call times =
    (codes "flow up " ++ decimal times.up)
    ∷ (codes "flow down " ++ decimal times.down)
    ∷ codes "trigger auto"
    ∷ codes "answer"
    ∷ (codes "tick " ++ decimal times.request)
    ∷ (codes "request " ++ decimal call)
    ∷ (codes "tick " ++ decimal times.clear)
    ∷ (codes "clear " ++ decimal call)
    ∷ codes "tick 40"
    ∷ (codes "hangup " ++ decimal call)
    ∷ []

-- x behind the draws of so many calls; it begins as the number that makes the script
unfoldable pub x_behind : (seed calls : ℕ) → ℕ
x_behind seed zero = seed
x_behind seed (suc calls) = behind_call (x_behind seed calls)

-- the lines of so many calls, which are numbered from 1
unfoldable pub lines_of_calls : (seed calls : ℕ) → List (List ℕ)
lines_of_calls seed zero = []
lines_of_calls seed (suc calls) =
    lines_of_calls seed calls ++ call_lines (calls + 1) (call_times (x_behind seed calls))

-- the text of some lines, each with its newline
abbrev pub text_of_lines : List (List ℕ) → List ℕ
text_of_lines [] = []
text_of_lines (line ∷ lines) = line ++ newline ∷ text_of_lines lines

-- the script
unfoldable pub made_script : (seed : ℕ) → List ℕ
made_script seed = text_of_lines (fact_lines ++ lines_of_calls seed most_made)
