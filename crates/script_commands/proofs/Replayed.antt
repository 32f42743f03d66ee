-- How the command `replay` ends, by what the audit took and its verdict; and that each input has one reply of it.
use Rattle.std.specs.Prelude.{◌≡◌, ℕ, ◌+◌, ◌≤◌, ◌⊎◌, true, List, [], ◌++◌, length, Option}
use Rattle.std.proofs.Common.{sym, ◌∙◌, ap, refl, subst, inl, inr, arith}
use Rattle.call_io.specs.Bytes.{Took, Grew, GrewPartly}
use Rattle.call_io.proofs.BytesLemmas.{Grew-nothing}
use Rattle.line_input.specs.Inputs.{IsSettledBy}
use Rattle.line_input.specs.Lines.{IsWhole, lines_of, most_at_once, most_bytes}
use Rattle.line_input.proofs.LinesSoFar.{near_as, near_few, over_as, over_most, settled_as, within_as, within_few}
use Rattle.command_base.proofs.LineEnds.{cut_settled, settled_few}
use Rattle.trace_audit.specs.Audit.{Audits}
use Rattle.trace_audit.specs.Outcome as audit
use Rattle.trace_audit.specs.declared.verdict.Verdict.{Verdict}
use Rattle.trace_audit.specs.declared.verdict.Verdict.TheVariants as verdict
use Rattle.trace_audit.proofs.AuditSome.{some_verdict}
use Rattle.trace_audit.proofs.AuditOne.{one_verdict}
use Rattle.command_base.specs.declared.refusal.Refused.TheVariants as refused
use Rattle.command_base.specs.declared.status.Status.{Status}
use Rattle.command_base.specs.declared.status.Status.TheVariants as status
use Rattle.command_base.specs.Outcome.{Streams, Answered, CutShort, IsSettled, IsUnrefused, Outcome, ReadCause, ToldAll, ToldBefore, ToldMore}
use Rattle.command_base.specs.Refusals.{Reply, in_front_of}
use Rattle.script_commands.specs.Replay.{ClosesReplay, IsReplayed, verdict_reply, verdict_status, verdict_text}
use Rattle.script_commands.specs.inner.ReplayEnds.{EndsWithVerdict}

by_verdict : (input : List ℕ) (v : Verdict) → Audits (lines_of input) v → IsReplayed input (verdict_reply v)
by_verdict input v audits = record { verdict = v; audits = audits; says = refl }

pub replayed_some : (input : List ℕ) → (r : Reply) × IsReplayed input r
replayed_some input =
    let found : (v : Verdict) × Audits (lines_of input) v = some_verdict (lines_of input) in
    (verdict_reply found.0, by_verdict input found.0 found.1)

pub replayed_one : (input : List ℕ) (r s : Reply) → IsReplayed input r → IsReplayed input s → r ≡ s
replayed_one input r s a b =
    a.says ∙ ap verdict_reply (one_verdict (lines_of input) a.verdict b.verdict a.audits b.audits) ∙ sym b.says

-- what settles a verdict settles its reply
settled : (v : Verdict) (number : ℕ) (input : List ℕ) (left : Option (List ℕ))
    → IsSettledBy (audit.IsAudited v) number input ⊎ IsWhole left input
    → IsSettled IsReplayed number input (verdict_reply v) ⊎ IsWhole left input
settled v number input left s =
    settled_as (audit.IsAudited v) (λ bytes. IsReplayed bytes (verdict_reply v)) left number input
    (λ bytes audits. by_verdict bytes v audits) s

module _ (left left' held held' : Option (List ℕ)) (passes : ℕ) where
  abbrev old : Streams
  old = record { left = left; held = held; passes = passes }

  abbrev new : Streams
  new = record { left = left'; held = held'; passes = passes }

  abbrev Ended : Status → Type 0
  Ended answer = Outcome IsReplayed (λ input. 0) true old new answer

  -- the whole line of a verdict was written
  answered : (v : Verdict) (input : List ℕ) → audit.Answered left left' v input → Grew held held' (verdict_text v)
      → Answered IsReplayed (λ input. 0) old new input (verdict_reply v)
  answered v input a grew =
      record { took = a.took; replied = by_verdict input v a.audits; wrote = grew; counted = omega arith }

  -- the bytes of a front and what is left of a text
  front_of : (v : Verdict) (input front rest : List ℕ) → front ++ rest ≡ verdict_text v
      → IsReplayed input (verdict_reply v)
      → IsReplayed input (in_front_of front (record { text = rest; status = verdict_status v }))
  front_of v input front rest same replied =
      subst (λ (t : List ℕ). IsReplayed input (record { text = t; status = verdict_status v })) (sym same) replied

  -- a part of it was written
  cut : (v : Verdict) (number : ℕ) (input : List ℕ) → audit.Answered left left' v input
      → GrewPartly held held' (verdict_text v) → IsSettledBy (audit.IsAudited v) number input ⊎ IsWhole left' input
      → CutShort IsReplayed (λ input. 0) old new input
  cut v number input a grew s =
      cut_settled IsReplayed (λ input. 0) old passes left' held' number input grew.0 a.took grew.3
      (settled_few (audit.IsAudited v) left' number input s) (omega arith) (part input a.audits)
      (settled_as (audit.IsAudited v) (λ bytes. (r : Reply) × IsReplayed bytes (in_front_of grew.0 r)) left' number
      input part s)
    where
      part : (bytes : List ℕ) → Audits (lines_of bytes) v → (r : Reply) × IsReplayed bytes (in_front_of grew.0 r)
      part bytes audits = (
        record { text = grew.1; status = verdict_status v },
        front_of v bytes grew.0 grew.1 grew.2 (by_verdict bytes v audits),
      )

  -- nothing was written
  none_written : held' ≡ held → Grew held held' []
  none_written same = subst (λ (h : Option (List ℕ)). Grew held h []) (sym same) (Grew-nothing held)

  untold : (input : List ℕ) → Took left left' input → length input ≤ most_bytes + most_at_once → held' ≡ held
      → CutShort IsReplayed (λ input. 0) old new input
  untold input took within same =
      record {
        took = took;
        within = within;
        front = [];
        rest = input;
        split = refl;
        text = [];
        wrote = none_written same;
        begins = inl (λ more. replayed_some more);
        counted = omega arith;
      }

  told : (answer wanted : Status) → answer ≡ wanted → Ended wanted → Ended answer
  told answer wanted same o = subst Ended (sym same) o

  pub replayed : (v : Verdict) (answer : Status) → audit.Outcome left left' v → EndsWithVerdict v held held' answer
      → Ended answer
  replayed (verdict.Sound items) answer o (inl ends) =
      told answer status.Done ends.0 (
        o.0,
        verdict_reply (verdict.Sound items),
        answered (verdict.Sound items) o.0 o.1 ends.1,
        refl,
        inl o.2,
      )
  replayed (verdict.Sound items) answer o (inr ends) =
      told answer status.WriteFault ends.0 (o.0, cut (verdict.Sound items) 0 o.0 o.1 ends.1 (inr o.2))
  replayed (verdict.Broken place rule) answer o (inl ends) =
      told answer (status.Broken place rule) ends.0 (
        o.0,
        verdict_reply (verdict.Broken place rule),
        answered (verdict.Broken place rule) o.0 o.1 ends.1,
        refl,
        settled (verdict.Broken place rule) place o.0 left' o.2,
      )
  replayed (verdict.Broken place rule) answer o (inr ends) =
      told answer status.WriteFault ends.0 (o.0, cut (verdict.Broken place rule) place o.0 o.1 ends.1 o.2)
  replayed (verdict.Bad bad) answer o (inl ends) =
      told answer (status.Refused (refused.Line bad)) ends.0 (
        o.0,
        verdict_reply (verdict.Bad bad),
        answered (verdict.Bad bad) o.0 o.1 ends.1,
        refl,
        settled (verdict.Bad bad) bad.line o.0 left' o.2,
      )
  replayed (verdict.Bad bad) answer o (inr ends) =
      told answer status.WriteFault ends.0 (o.0, cut (verdict.Bad bad) bad.line o.0 o.1 ends.1 o.2)
  replayed verdict.ReadFault answer o ends =
      told answer status.ReadFault ends.0 (o.0, untold o.0 o.1 (within_few audit.IsSound o.0 o.2) ends.1)
  replayed verdict.TooLong answer o ends =
      told answer status.TooLong ends.0 (
        o.0,
        untold o.0 o.1 (over_most audit.IsSound o.0 o.2) ends.1,
        over_as audit.IsSound (IsUnrefused IsReplayed) o.0
            (λ bytes sound. (verdict_reply (verdict.Sound sound.0), by_verdict bytes (verdict.Sound sound.0) sound.1, refl))
            o.2,
      )
  replayed verdict.Memory answer o ends =
      told answer status.Memory ends.0 (o.0, untold o.0 o.1 (near_few audit.AreSound o.0 o.2) ends.1)

  abbrev Told : Status → Type 0
  Told answer = ToldBefore IsReplayed ClosesReplay left left' held held' answer

  told_as : (answer wanted : Status) → answer ≡ wanted → Told wanted → Told answer
  told_as answer wanted same t = subst Told (sym same) t

  -- nothing was to be written before a read that failed, or a line that wanted memory
  pub told_before : (v : Verdict) (answer : Status) → audit.Outcome left left' v → EndsWithVerdict v held held' answer
      → Told answer
  told_before (verdict.Sound items) answer o (inl ends) = told_as answer status.Done ends.0 tt
  told_before (verdict.Sound items) answer o (inr ends) = told_as answer status.WriteFault ends.0 tt
  told_before (verdict.Broken place rule) answer o (inl ends) = told_as answer (status.Broken place rule) ends.0 tt
  told_before (verdict.Broken place rule) answer o (inr ends) = told_as answer status.WriteFault ends.0 tt
  told_before (verdict.Bad bad) answer o (inl ends) = told_as answer (status.Refused (refused.Line bad)) ends.0 tt
  told_before (verdict.Bad bad) answer o (inr ends) = told_as answer status.WriteFault ends.0 tt
  told_before verdict.TooLong answer o ends = told_as answer status.TooLong ends.0 tt
  told_before verdict.Memory answer o ends =
      told_as answer status.Memory ends.0 (
        o.0,
        o.1,
        near_as audit.AreSound (λ lines. ToldMore IsReplayed ClosesReplay held held' lines) o.0
            (λ lines sound. record {
              text = [];
              part = [];
              wrote = none_written ends.1;
              closing = verdict_reply (verdict.Sound sound.0);
              replied = λ bytes same.
                  by_verdict bytes (verdict.Sound sound.0)
                  (subst (λ (ls : List (List ℕ)). Audits ls (verdict.Sound sound.0)) (sym same) sound.1);
              done = refl;
              closes = (sound.0, refl);
            }) o.2,
      )
  told_before verdict.ReadFault answer o ends =
      told_as answer status.ReadFault ends.0 (
        o.0,
        o.1,
        within_as audit.IsSound (λ bytes. ToldAll IsReplayed ClosesReplay held held' bytes) o.0
            (λ bytes sound. record {
              text = [];
              wrote = none_written ends.1;
              closing = verdict_reply (verdict.Sound sound.0);
              replied = by_verdict bytes (verdict.Sound sound.0) sound.1;
              done = refl;
              closes = (sound.0, refl);
            }) o.2,
      )

-- what a verdict says of failed reads holds of the answer
pub unread_by : (v : Verdict) (held held' : Option (List ℕ)) (answer : Status) (old new : ℕ)
    → EndsWithVerdict v held held' answer → audit.VerdictCause v old new → ReadCause answer old new
unread_by v held held' answer old new ends cause = by_case v ends cause
  where
    told : (wanted : Status) → answer ≡ wanted → ReadCause wanted old new → ReadCause answer old new
    told wanted same h = subst (λ (a : Status). ReadCause a old new) (sym same) h

    by_case : (v : Verdict) → EndsWithVerdict v held held' answer → audit.VerdictCause v old new
        → ReadCause answer old new
    by_case (verdict.Sound items) (inl ends) h = told status.Done ends.0 h
    by_case (verdict.Sound items) (inr ends) h = told status.WriteFault ends.0 h
    by_case (verdict.Broken place rule) (inl ends) h = told (status.Broken place rule) ends.0 h
    by_case (verdict.Broken place rule) (inr ends) h = told status.WriteFault ends.0 h
    by_case (verdict.Bad bad) (inl ends) h = told (status.Refused (refused.Line bad)) ends.0 h
    by_case (verdict.Bad bad) (inr ends) h = told status.WriteFault ends.0 h
    by_case verdict.ReadFault ends h = told status.ReadFault ends.0 h
    by_case verdict.TooLong ends h = told status.TooLong ends.0 h
    by_case verdict.Memory ends h = told status.Memory ends.0 h
