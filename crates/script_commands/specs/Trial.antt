-- What `ecall trial` replies: the five counts of the trace of the script that `make` writes for the same number, a line
-- each. This project's profile. Cited by the contract of `trial`, and by the reply to words and an input.
use Rattle.std.specs.Prelude.{◌≡◌, ℕ, ◌⊎◌, Option, List, [], ◌∷◌, ◌++◌, codes, decimal}
use Rattle.trace_text.specs.Script.{script_of}
use Rattle.trace_model.specs.Tallies.{tally_of}
use Rattle.trace_model.specs.declared.tally.Tally.{Tally}
use Rattle.command_base.specs.Ends.{EndsWithText}
use Rattle.command_base.specs.declared.status.Status.{Status}
use Rattle.command_base.specs.declared.status.Status.TheVariants as status
use Rattle.script_commands.specs.Make.{made_script, text_of_lines}
use Rattle.command_base.specs.Refusals.{Reply}
use Rattle.script_stage.specs.ScriptTrace.{script_trace}

-- the lines of the counts: entries, calls that the point took, sets shown, sets acknowledged, and the last entry's tick
abbrev pub tally_lines : Tally → List (List ℕ)
tally_lines tally =
    (codes "items " ++ decimal tally.entries)
    ∷ (codes "calls " ++ decimal tally.calls)
    ∷ (codes "shown " ++ decimal tally.shown)
    ∷ (codes "acked " ++ decimal tally.acked)
    ∷ (codes "ticks " ++ decimal tally.ticks)
    ∷ []

unfoldable pub trial_text : Tally → List ℕ
trial_text tally = text_of_lines (tally_lines tally)

-- the counts of the trace of the script that is made
unfoldable pub made_tally : (seed : ℕ) → Tally
made_tally seed = tally_of (script_trace (script_of (made_script seed)))

-- the reply of `trial` to a number
abbrev pub trial_reply : (seed : ℕ) → Reply
trial_reply seed = record { text = trial_text (made_tally seed); status = status.Done }

-- the reply was written, or a part of it, or there was no memory and nothing was
abbrev pub EndsTrial : (seed : ℕ) → (held held' : Option (List ℕ)) → (answer : Status) → Type 0
EndsTrial seed held held' answer =
    EndsWithText held held' (trial_reply seed).text status.Done answer ⊎ ((answer ≡ status.Memory) × (held' ≡ held))
