-- How the command `replay` ends by the verdict of its audit. This project's profile. Cited by the function that tells a
-- verdict.
use Rattle.std.specs.Prelude.{◌≡◌, ℕ, List, Option}
use Rattle.trace_audit.specs.declared.verdict.Verdict.{Verdict}
use Rattle.trace_audit.specs.declared.verdict.Verdict.TheVariants as verdict
use Rattle.script_commands.specs.Replay.{verdict_status, verdict_text}
use Rattle.command_base.specs.declared.status.Status.{Status}
use Rattle.command_base.specs.Ends.{EndsWithText}

-- the status of a verdict was answered, and nothing was written
abbrev pub EndsUntold : Verdict → (held held' : Option (List ℕ)) → (answer : Status) → Type 0
EndsUntold v held held' answer = (answer ≡ verdict_status v) × (held' ≡ held)

-- what an answer says of a verdict: its text was written and its status answered, or a part was written and writing
-- failed; a verdict that isn't of the lines writes nothing
abbrev pub EndsWithVerdict : Verdict → (held held' : Option (List ℕ)) → (answer : Status) → Type 0
EndsWithVerdict verdict.ReadFault held held' answer = EndsUntold verdict.ReadFault held held' answer
EndsWithVerdict verdict.TooLong held held' answer = EndsUntold verdict.TooLong held held' answer
EndsWithVerdict verdict.Memory held held' answer = EndsUntold verdict.Memory held held' answer
EndsWithVerdict v held held' answer = EndsWithText held held' (verdict_text v) (verdict_status v) answer
