-- The statuses that a command's reply may have.
use Rattle.std.specs.Prelude.{◌≡◌, ℕ, ◌+◌, ◌++◌, List, [], ◌∷◌, Option, Some, None, Result, Ok, Err}
use Rattle.std.proofs.Common.{sym, ap, refl, subst, inl, inr}
use Rattle.line_input.specs.Lines.{lines_of}
use Rattle.line_input.specs.declared.reason.BadLine.{BadLine}
use Rattle.line_input.specs.declared.reason.Reason.{Reason}
use Rattle.link_frames.specs.declared.frame.Frame.{Frame}
use Rattle.trace_audit.specs.declared.verdict.Verdict.{Verdict}
use Rattle.trace_audit.specs.declared.verdict.Verdict.TheVariants as verdict
use Rattle.trace_audit.specs.Audit.{Audits}
use Rattle.trace_text.specs.Encode.{encode_judged}
use Rattle.trace_text.specs.Script.{script_of}
use Rattle.trace_text.specs.declared.encode.EncodeLine.{EncodeLine}
use Rattle.trace_text.specs.declared.fact_line.FactLine.{FactLine}
use Rattle.command_base.specs.Refusals.{Reply}
use Rattle.set_commands.specs.Decode.{AreDecoded, IsLineDecoded, judged_set}
use Rattle.set_commands.specs.Encode.{encoded_from, facts_behind}
use Rattle.set_commands.specs.Frames.{AreFrames, IsLineOfFrames}
use Rattle.script_commands.specs.Register.{registered}
use Rattle.script_commands.specs.Replay.{verdict_status}
use Rattle.tones_command.specs.Tones.{toned_script}
use Rattle.floor_command.specs.FloorScript as floor
use Rattle.relay_command.specs.Relay.{refused_from}
use Rattle.trace_text.specs.Script.{nothing_said}
use Rattle.script_stage.specs.ScriptTrace.{ended, script_trace}
use Rattle.trace_model.specs.declared.entry.Entry.{Entry}
use Rattle.ecall_top.specs.declared.command.Command.{Command}
use Rattle.ecall_top.specs.declared.command.Command.TheVariants as command
use Rattle.ecall_top.specs.Completeness.{HasStatus, IsDoneOrRefused, IsJudged}
use Rattle.ecall_top.specs.Replies.{Replies}

-- a reply that has this status
abbrev Fine : Reply → Type 0
Fine r = IsDoneOrRefused r.status

-- the sets of lines are described, or one is refused
decoded_status : (number : ℕ) (texts : List (List ℕ)) (r : Reply) → AreDecoded number texts r → Fine r
decoded_status number [] r is = subst Fine (sym is) tt
decoded_status number (text ∷ texts) r is = by_place (judged_set text) is (decoded_status (number + 1) texts)
  where
    by_place : (place : Result (Option (List ℕ)) Reason) → IsLineDecoded number place (AreDecoded (number + 1) texts) r
        → ((s : Reply) → AreDecoded (number + 1) texts s → Fine s) → Fine r
    by_place (Err why) is rest = subst Fine (sym is) tt
    by_place (Ok None) is rest = rest r is
    by_place (Ok (Some octets)) (inl d) rest = subst Fine (sym d.says) (rest d.rest d.replied)
    by_place (Ok (Some octets)) (inr s) rest = subst Fine (sym s.says) tt

-- so for the frames of a stream
frames_status : (number : ℕ) (texts : List (List ℕ)) (stream : List ℕ) (before : List Frame) (r : Reply)
    → AreFrames number texts stream before r → Fine r
frames_status number [] stream before r is = subst Fine (sym is.says) tt
frames_status number (text ∷ texts) stream before r is =
    by_place (judged_set text) is (frames_status (number + 1) texts)
  where
    by_place : (place : Result (Option (List ℕ)) Reason)
        → IsLineOfFrames number place stream before (AreFrames (number + 1) texts) r
        → ((more : List ℕ) (frames : List Frame) (s : Reply) → AreFrames (number + 1) texts more frames s → Fine s)
        → Fine r
    by_place (Err why) is rest = subst Fine (sym is) tt
    by_place (Ok None) is rest = rest stream before r is
    by_place (Ok (Some piece)) (inl e) rest =
        subst Fine (sym e.says) (rest (stream ++ piece) (before ++ e.frames) e.rest e.replied)
    by_place (Ok (Some piece)) (inr s) rest = subst Fine (sym s.says) tt

-- and for the sets that lines ask for
encoded_status : (texts : List (List ℕ)) (facts : List FactLine) (number : ℕ) → Fine (encoded_from facts number texts)
unfolding encoded_from
encoded_status [] facts number = tt
encoded_status (text ∷ texts) facts number =
    by_place (encode_judged facts text) refl (λ more. encoded_status texts more (number + 1))
  where
    by_place : (place : Result (Option EncodeLine) Reason) → encode_judged facts text ≡ place
        → ((more : List FactLine) → Fine (encoded_from more (number + 1) texts))
        → Fine (encoded_from facts number (text ∷ texts))
    by_place (Err why) is rest = rw (encoded_from, is) tt
    by_place (Ok None) is rest = rw (encoded_from, is) (rest facts)
    by_place (Ok (Some says)) is rest = rw (encoded_from, is) (rest (facts_behind facts says))

ended_status : (text : List ℕ) (o : Option BadLine) → Fine (ended text o)
ended_status text None = tt
ended_status text (Some bad) = tt

registered_status : (trace : List Entry) (o : Option BadLine) → Fine (registered trace o)
registered_status trace None = tt
registered_status trace (Some bad) = tt

judged_status : (lines : List (List ℕ)) (v : Verdict) → Audits lines v → IsJudged (verdict_status v)
judged_status lines (verdict.Sound items) audits = tt
judged_status lines (verdict.Broken number rule) audits = tt
judged_status lines (verdict.Bad bad) audits = tt
judged_status lines verdict.ReadFault audits = absurd audits
judged_status lines verdict.TooLong audits = absurd audits
judged_status lines verdict.Memory audits = absurd audits

pub replies_status : (asked : Option Command) (input : List ℕ) (r : Reply) → Replies asked input r
    → HasStatus asked r.status
replies_status None input r is = ap (λ s. s.status) is
replies_status (Some command.Run) input r is =
    subst Fine (sym is) (ended_status _ (script_of input).refused)
replies_status (Some command.Register) input r is =
    subst Fine (sym is) (registered_status (script_trace (script_of input)) (script_of input).refused)
replies_status (Some command.Decode) input r is = decoded_status 1 (lines_of input) r is
replies_status (Some command.Encode) input r is = subst Fine (sym is) (encoded_status (lines_of input) [] 1)
replies_status (Some command.Frames) input r is = frames_status 1 (lines_of input) [] [] r is
replies_status (Some command.Replay) input r is =
    subst (λ (s : Reply). IsJudged s.status) (sym is.says) (judged_status (lines_of input) is.verdict is.audits)
replies_status (Some (command.Make number)) input r is = ap (λ s. s.status) is
replies_status (Some (command.Trial number)) input r is = ap (λ s. s.status) is
replies_status (Some (command.Tones noise)) input r is =
    subst Fine (sym is) (ended_status _ (toned_script noise input).refused)
replies_status (Some command.Floor) input r is =
    subst Fine (sym is) (ended_status _ (floor.script_of input).refused)
replies_status (Some command.Relay) input r is =
    subst Fine (sym is) (ended_status _ (refused_from nothing_said 1 (lines_of input)))
replies_status (Some command.Conform) input r is = is.1
