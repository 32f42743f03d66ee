-- Each command has one reply to each input.
use Rattle.std.specs.Prelude.{◌≡◌, ℕ, false, List, [], Option, Some, None}
use Rattle.std.proofs.Common.{sym, ◌∙◌, ap, refl}
use Rattle.line_input.specs.Lines.{lines_of}
use Rattle.trace_text.specs.Script.{nothing_said, script_from}
use Rattle.ecall_top.specs.declared.command.Command.{Command}
use Rattle.ecall_top.specs.declared.command.Command.TheVariants as command
use Rattle.command_base.specs.declared.status.Status.TheVariants as status
use Rattle.set_commands.specs.Encode.{encode_reply, encoded_from}
use Rattle.script_commands.specs.Make.{made_script}
use Rattle.command_base.specs.Refusals.{Reply}
use Rattle.script_commands.specs.Replay.{verdict_status}
use Rattle.trace_audit.specs.declared.verdict.Verdict.{Verdict}
use Rattle.trace_audit.specs.declared.verdict.Verdict.TheVariants as verdict
use Rattle.ecall_top.specs.Commands.{reads}
use Rattle.ecall_top.specs.Replies.{Replies, usage_line}
use Rattle.script_commands.specs.Register.{register_reply}
use Rattle.script_commands.specs.Run.{run_reply}
use Rattle.script_commands.specs.Trial.{trial_reply}
use Rattle.tones_command.specs.Tones.{toned_script, tones_reply}
use Rattle.floor_command.specs.FloorRun.{floor_reply}
use Rattle.floor_command.specs.FloorRun as floor_run
use Rattle.floor_command.specs.FloorScript as floor
use Rattle.floor_command.specs.FloorText as floor_text
use Rattle.relay_command.specs.Relay.{refused_from, relay_reply, relay_trace}
use Rattle.relay_text.specs.ItemLine.{text_with_desk}
use Rattle.trace_text.specs.EntryLine.{text_of}
use Rattle.line_input.specs.declared.reason.BadLine.{BadLine}
use Rattle.script_stage.specs.ScriptTrace.{ended, script_trace}
use Rattle.set_commands.proofs.Conformed.{conformed_some, conformed_one}
use Rattle.set_commands.specs.inner.FrameStreams.{nothing_held}
use Rattle.set_commands.specs.inner.FrameReplies.{frames_some}
use Rattle.script_commands.proofs.Replayed.{replayed_some, replayed_one}
use Rattle.set_commands.specs.inner.DecodeReplies.{decoded_some}
use Rattle.set_commands.proofs.OneReply.{decoded_one, frames_one}

pub replies_some : (asked : Option Command) (input : List ℕ) → (r : Reply) × Replies asked input r
replies_some None input = (record { text = usage_line; status = status.Usage }, refl)
replies_some (Some command.Run) input = (run_reply input, refl)
replies_some (Some command.Register) input = (register_reply input, refl)
replies_some (Some command.Decode) input = decoded_some 1 (lines_of input)
replies_some (Some command.Encode) input = (encode_reply input, refl)
replies_some (Some command.Frames) input = frames_some 1 (lines_of input) [] [] [] nothing_held
replies_some (Some command.Replay) input = replayed_some input
replies_some (Some (command.Make number)) input = (record { text = made_script number; status = status.Done }, refl)
replies_some (Some (command.Trial number)) input = (trial_reply number, refl)
replies_some (Some (command.Tones noise)) input = (tones_reply noise input, refl)
replies_some (Some command.Floor) input = (floor_reply input, refl)
replies_some (Some command.Relay) input = (relay_reply input, refl)
replies_some (Some command.Conform) input =
    let found = conformed_some in
    (record { text = found.0; status = status.Done }, (found.1, refl))

same_reply : (r s : Reply) → r.text ≡ s.text → r.status ≡ s.status → r ≡ s
same_reply r s texts statuses = rw (texts, statuses) refl

pub replies_one : (asked : Option Command) (input : List ℕ) (r s : Reply) → Replies asked input r
    → Replies asked input s → r ≡ s
replies_one None input r s a b = a ∙ sym b
replies_one (Some command.Run) input r s a b = a ∙ sym b
replies_one (Some command.Register) input r s a b = a ∙ sym b
replies_one (Some command.Decode) input r s a b = decoded_one 1 (lines_of input) r s a b
replies_one (Some command.Encode) input r s a b = a ∙ sym b
replies_one (Some command.Frames) input r s a b = frames_one 1 (lines_of input) [] [] r s a b
replies_one (Some command.Replay) input r s a b = replayed_one input r s a b
replies_one (Some (command.Make number)) input r s a b = a ∙ sym b
replies_one (Some (command.Trial number)) input r s a b = a ∙ sym b
replies_one (Some (command.Tones noise)) input r s a b = a ∙ sym b
replies_one (Some command.Floor) input r s a b = a ∙ sym b
replies_one (Some command.Relay) input r s a b = a ∙ sym b
replies_one (Some command.Conform) input r s a b = same_reply r s (conformed_one r.text s.text a.0 b.0) (a.1 ∙ sym b.1)

-- a command that reads nothing replies the same whatever the input is
pub unread_reply : (asked : Option Command) → reads asked ≡ false → (r : Reply) → Replies asked [] r → (more : List ℕ)
    → Replies asked more r
unread_reply None none r replied more = replied
unread_reply (Some command.Run) none r replied more = absurd (cc)
unread_reply (Some command.Register) none r replied more = absurd (cc)
unread_reply (Some command.Decode) none r replied more = absurd (cc)
unread_reply (Some command.Encode) none r replied more = absurd (cc)
unread_reply (Some command.Frames) none r replied more = absurd (cc)
unread_reply (Some command.Replay) none r replied more = absurd (cc)
unread_reply (Some (command.Make number)) none r replied more = replied
unread_reply (Some (command.Trial number)) none r replied more = replied
unread_reply (Some (command.Tones noise)) none r replied more = absurd (cc)
unread_reply (Some command.Floor) none r replied more = absurd (cc)
unread_reply (Some command.Relay) none r replied more = absurd (cc)
unread_reply (Some command.Conform) none r replied more = replied

-- no verdict is told as the usage line is
no_usage_verdict : (v : Verdict) → verdict_status v ≡ status.Usage → ⊥
no_usage_verdict (verdict.Sound items) h = absurd (cc)
no_usage_verdict (verdict.Broken place rule) h = absurd (cc)
no_usage_verdict (verdict.Bad bad) h = absurd (cc)
no_usage_verdict verdict.ReadFault h = absurd (cc)
no_usage_verdict verdict.TooLong h = absurd (cc)
no_usage_verdict verdict.Memory h = absurd (cc)

-- a text with or without a refusal behind it isn't told as the usage line is
no_usage_ended : (text : List ℕ) (o : Option BadLine) → (ended text o).status ≡ status.Usage → ⊥
no_usage_ended text None h = absurd (cc)
no_usage_ended text (Some bad) h = absurd (cc)

-- to no input a command replies with the usage line's status, so words that get it name none
pub usage_reply : (asked : Option Command) (r : Reply) → Replies asked [] r → r.status ≡ status.Usage
    → (more : List ℕ) → Replies asked more r
unfolding lines_of script_from encoded_from
usage_reply None r replied same more = replied
usage_reply (Some command.Run) r replied same more =
    let no : status.Done ≡ status.Usage = ap (λ s. s.status) (sym replied) ∙ same in absurd (cc no)
usage_reply (Some command.Register) r replied same more =
    let no : status.Done ≡ status.Usage = ap (λ s. s.status) (sym replied) ∙ same in absurd (cc no)
usage_reply (Some command.Decode) r replied same more =
    let no : status.Done ≡ status.Usage = ap (λ s. s.status) (sym replied) ∙ same in absurd (cc no)
usage_reply (Some command.Encode) r replied same more =
    let no : status.Done ≡ status.Usage = ap (λ s. s.status) (sym replied) ∙ same in absurd (cc no)
usage_reply (Some command.Frames) r replied same more =
    let no : status.Done ≡ status.Usage = ap (λ s. s.status) (sym replied.says) ∙ same in absurd (cc no)
usage_reply (Some command.Replay) r replied same more =
    absurd (no_usage_verdict replied.verdict (ap (λ s. s.status) (sym replied.says) ∙ same))
usage_reply (Some (command.Make number)) r replied same more = replied
usage_reply (Some (command.Trial number)) r replied same more = replied
usage_reply (Some (command.Tones noise)) r replied same more =
    absurd (no_usage_ended (text_of (script_trace (toned_script noise []))) (toned_script noise []).refused
    (ap (λ s. s.status) (sym replied) ∙ same))
usage_reply (Some command.Floor) r replied same more =
    absurd (no_usage_ended (floor_text.text_of (floor_run.script_trace (floor.script_of [])))
    (floor.script_of []).refused (ap (λ s. s.status) (sym replied) ∙ same))
usage_reply (Some command.Relay) r replied same more =
    absurd (no_usage_ended (text_with_desk (relay_trace [])) (refused_from nothing_said 1 (lines_of []))
    (ap (λ s. s.status) (sym replied) ∙ same))
usage_reply (Some command.Conform) r replied same more = replied
