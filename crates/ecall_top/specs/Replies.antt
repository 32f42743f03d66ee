-- What `ecall` replies to words and a whole input, and how often it passes the ends at most. This project's profile.
-- Cited by the contracts of `ecall` and of `reply_laws`.
use Rattle.std.specs.Prelude.{◌≡◌, ℕ, List, [], ◌∷◌, ◌++◌, Option, Some, None, codes}
use Rattle.line_input.specs.Characters.{newline}
use Rattle.trace_text.specs.Script.{script_of}
use Rattle.ecall_top.specs.declared.command.Command.{Command}
use Rattle.ecall_top.specs.declared.command.Command.TheVariants as command
use Rattle.command_base.specs.declared.status.Status.{Status}
use Rattle.command_base.specs.declared.status.Status.TheVariants as status
use Rattle.ecall_top.specs.Commands.{reads}
use Rattle.set_commands.specs.Conform.{IsConformed}
use Rattle.set_commands.specs.Decode.{IsDecoded}
use Rattle.set_commands.specs.Encode.{encode_reply}
use Rattle.set_commands.specs.Frames.{IsFrames}
use Rattle.script_commands.specs.Make.{made_script}
use Rattle.command_base.specs.Outcome.{Outcome, Streams}
use Rattle.command_base.specs.Refusals.{Reply}
use Rattle.script_commands.specs.Replay.{IsReplayed}
use Rattle.script_commands.specs.Register.{register_reply}
use Rattle.script_stage.specs.ScriptTrace.{script_passes}
use Rattle.script_commands.specs.Run.{run_reply}
use Rattle.script_commands.specs.Trial.{trial_reply}
use Rattle.tones_command.specs.Tones.{tones_passes, tones_reply}
use Rattle.floor_command.specs.FloorRun.{floor_passes, floor_reply}
use Rattle.relay_command.specs.Relay.{relay_passes, relay_reply}

abbrev pub usage_line : List ℕ
usage_line =
    codes "usage: ecall run|register|decode|encode|frames|replay|trial N|make N|conform|tones L N|floor|relay"
    ++ newline ∷ []

-- the reply to a command and an input, or to words that name none
abbrev pub Replies : Option Command → List ℕ → Reply → Type 0
Replies None input r = r ≡ record { text = usage_line; status = status.Usage }
Replies (Some command.Run) input r = r ≡ run_reply input
Replies (Some command.Register) input r = r ≡ register_reply input
Replies (Some command.Decode) input r = IsDecoded input r
Replies (Some command.Encode) input r = r ≡ encode_reply input
Replies (Some command.Frames) input r = IsFrames input r
Replies (Some command.Replay) input r = IsReplayed input r
Replies (Some (command.Make number)) input r = r ≡ record { text = made_script number; status = status.Done }
Replies (Some (command.Trial number)) input r = r ≡ trial_reply number
Replies (Some command.Conform) input r = IsConformed r.text × (r.status ≡ status.Done)
Replies (Some (command.Tones noise)) input r = r ≡ tones_reply noise input
Replies (Some command.Floor) input r = r ≡ floor_reply input
Replies (Some command.Relay) input r = r ≡ relay_reply input

-- how often the ends are passed at most for a command and an input: by playing its script
abbrev pub passes_of : Option Command → List ℕ → ℕ
passes_of (Some command.Run) input = script_passes (script_of input)
passes_of (Some command.Register) input = script_passes (script_of input)
passes_of (Some (command.Trial number)) input = script_passes (script_of (made_script number))
passes_of (Some (command.Tones noise)) input = tones_passes noise input
passes_of (Some command.Floor) input = floor_passes input
passes_of (Some command.Relay) input = relay_passes input
passes_of _ input = 0

-- what an answer to a command says of the bytes that it took and wrote, and of how often it passed the ends
abbrev pub CommandOutcome : Option Command → (old new : Streams) → Status → Type 0
CommandOutcome asked old new answer =
    Outcome (λ input r. Replies asked input r) (λ input. passes_of asked input) (reads asked) old new answer
