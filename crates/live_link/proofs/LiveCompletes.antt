-- What an answer says of the bytes that were taken says all of it where all bytes are told.
use Rattle.std.specs.Prelude.{◌≡◌, ℕ, ◌+◌, ◌<◌, ◌≤◌, ◌⊎◌, List, [], ◌++◌, length, Option, Some, None}
use Rattle.std.specs.Io.KnownBytes.{IsAtEnd}
use Rattle.std.proofs.Common.{refl, sym, ap, subst, ◌∙◌, inl, inr, arith, append_assoc, length-append}
use Rattle.std.proofs.lemmas.List.{append-nil}
use Rattle.call_io.specs.Bytes.{Took, Grew}
use Rattle.line_input.specs.Inputs.{RunsOver}
use Rattle.line_input.specs.Lines.{IsWhole, lines_of, most_bytes}
use Rattle.link_parts.specs.Rounds as rounds
use Rattle.live_link.specs.LiveComplete.{Completed, Completes, IsInterrupted, status_of}
use Rattle.live_link.specs.LiveOutcome.{IsDecided, IsKnown, IsSettled, IsStopped, IsTooLong, LinkRunsOver, LiveOutcome, LiveStreams, Over, Ran, WantsLine, ending_line, run_over, trace_of}
use Rattle.live_link.specs.Runs.{Ending, Run}
use Rattle.live_link.specs.Runs as ending
use Rattle.live_link.specs.declared.answer.LiveStatus.{LiveStatus}
use Rattle.live_link.specs.declared.answer.LiveStatus.TheVariants as status

-- what was told and taken is a front of what was told, and the rest is left
pub record Left (new : Option (List ℕ)) (taken all : List ℕ) : Type 0 where
  pub rest : List ℕ
  pub is : new ≡ Some rest
  pub split : all ≡ taken ++ rest

took_rest : (old new : Option (List ℕ)) (taken all : List ℕ) → Took old new taken → old ≡ Some all → Left new taken all
took_rest old None taken all took told = absurd (cc)
took_rest old (Some rest) taken all took told =
    record { rest = rest; is = refl; split = same (sym told ∙ took) }
  where
    same : Some all ≡ Some (taken ++ rest) → all ≡ taken ++ rest
    same e = cc

-- at its end nothing is left
all_taken : (new : Option (List ℕ)) (taken all : List ℕ) → Left new taken all → IsAtEnd new → all ≡ taken
all_taken new taken all l ended =
    l.split ∙ ap (λ z. taken ++ z) (none l.rest (subst (λ (z : Option (List ℕ)). IsAtEnd z) l.is ended)) ∙ append-nil taken
  where
    none : (rest : List ℕ) → IsAtEnd (Some rest) → rest ≡ []
    none rest e = e

module _ (over : Over) (old new : LiveStreams) (script octets : List ℕ) where
  -- the run over what was taken is that over all
  completed : (s o : List ℕ) (e : Ending) → Ran ending_line over old new s o e
      → run_over over script octets ≡ run_over over s o → Completed over old new script octets (status_of e)
  completed s o e r same =
      record {
        answer = ap status_of (sym r.ended) ∙ ap (λ z. status_of z.ending) (sym same);
        traced = subst (λ (z : Run). Grew old.trace new.trace (trace_of ending_line z)) (sym same) r.traced;
        sent = subst (λ (z : Run). Grew old.to new.to z.octets) (sym same) r.sent;
      }

  module _ (told_script : old.script ≡ Some script) (told_octets : old.from ≡ Some octets)
      (few_script : length script ≤ most_bytes) (few_octets : length octets ≤ most_bytes) where
    -- what was taken of the script, and the octets that decided
    decided_octets : (s o : List ℕ) (d : IsDecided over s o) → Left new.from o octets
        → (more : List ℕ) × (octets ≡ d.front ++ more)
    decided_octets s o d l = (
      d.rest ++ l.rest,
      l.split ∙ ap (λ z. z ++ l.rest) d.split ∙ append_assoc d.front d.rest l.rest,
    )

    whole_decided : (s o : List ℕ) (d : IsDecided over s o) → Left new.script s script → Left new.from o octets
        → IsWhole new.script s → run_over over script octets ≡ run_over over s o
    whole_decided s o d ls lo whole =
        let more = decided_octets s o d lo in
        ap (λ z. run_over over z octets) (all_taken new.script s script ls whole.«end»)
        ∙ ap (λ z. run_over over s z) more.1 ∙ d.same more.0

    known_decided : (s o : List ℕ) (d : IsDecided over s o) (number : ℕ) → Left new.script s script
        → Left new.from o octets → IsKnown over new.script number s o d.front
        → run_over over script octets ≡ run_over over s o
    known_decided s o d number ls lo (inr whole) = whole_decided s o d ls lo whole
    known_decided s o d number ls lo (inl k) =
        let more = decided_octets s o d lo in
        ap (λ z. run_over over z octets) (ls.split ∙ ap (λ z. z ++ ls.rest) k.split ∙ append_assoc k.front k.rest ls.rest)
        ∙ ap (λ z. run_over over (k.front ++ (k.rest ++ ls.rest)) z) more.1
        ∙ k.holds (k.rest ++ ls.rest) more.0

    settled_cut : (s o : List ℕ) → Left new.script s script → octets ≡ o → IsSettled over new.script s o
        → run_over over script octets ≡ run_over over s o
    settled_cut s o ls same (inl whole) =
        ap (λ z. run_over over z octets) (all_taken new.script s script ls whole.«end») ∙ ap (λ z. run_over over s z) same
    settled_cut s o ls same (inr settled) =
        ap (λ z. run_over over z octets) ls.split ∙ ap (λ z. run_over over (s ++ ls.rest) z) same ∙ settled ls.rest

    stopped_at : (s o : List ℕ) → Left new.script s script → Left new.from o octets → IsStopped over new.script s o
        → run_over over script octets ≡ run_over over s o
    stopped_at s o ls lo stopped = by stopped.settled
      where
        by : IsWhole new.script s
            ⊎ ((more others : List ℕ) → run_over over (s ++ more) (o ++ others) ≡ run_over over s o)
            → run_over over script octets ≡ run_over over s o
        by (inl whole) =
            ap (λ z. run_over over z octets) (all_taken new.script s script ls whole.«end»)
            ∙ ap (λ z. run_over over s z) lo.split ∙ stopped.same lo.rest
        by (inr settled) =
            ap (λ z. run_over over z octets) ls.split ∙ ap (λ z. run_over over (s ++ ls.rest) z) lo.split
            ∙ settled ls.rest lo.rest

    -- nothing is too long
    none_over : (s o : List ℕ) → Left new.script s script → Left new.from o octets → IsTooLong over s o → ⊥
    none_over s o ls lo (inl r) = by r
      where
        by : RunsOver (λ bytes. WantsLine over o (lines_of bytes)) s → ⊥
        by r =
            let all : length script ≡ length r.front + (length r.unended + length r.rest) + length ls.rest =
            ap length (ls.split ∙ ap (λ z. z ++ ls.rest) r.split)
            ∙ simp length-append (omega arith) in
            let full : length r.front + length r.unended ≡ most_bytes = sym (length-append r.front r.unended) ∙ r.full in
            let beyond : 0 < length r.rest = r.beyond in
            omega (arith, all, full, beyond, few_script)
    none_over s o ls lo (inr r) = by r
      where
        by : LinkRunsOver over s o → ⊥
        by r =
            let all : length octets ≡ length r.front + length r.rest + length lo.rest =
            ap length (lo.split ∙ ap (λ z. z ++ lo.rest) r.split)
            ∙ simp length-append (omega arith) in
            let full : length r.front ≡ most_bytes = r.full in
            let beyond : 0 < length r.rest = r.beyond in
            omega (arith, all, full, beyond, few_octets)

    answers_all : (how : LiveStatus) → LiveOutcome ending_line over old new how
        → Completed over old new script octets how ⊎ IsInterrupted how
    answers_all status.Done h =
        let ls = took_rest old.script new.script h.0 script h.2.took_script told_script in
        let lo = took_rest old.from new.from h.1 octets h.2.took_octets told_octets in
        inl (completed h.0 h.1 ending.Done h.2 (whole_decided h.0 h.1 h.4 ls lo h.3))
    answers_all (status.Refused bad) h =
        let ls = took_rest old.script new.script h.0 script h.2.took_script told_script in
        let lo = took_rest old.from new.from h.1 octets h.2.took_octets told_octets in
        inl (completed h.0 h.1 (ending.Refused bad) h.2 (known_decided h.0 h.1 h.3 bad.line ls lo h.4))
    answers_all status.PeerEnded h =
        let ls = took_rest old.script new.script h.0 script h.2.took_script told_script in
        let lo = took_rest old.from new.from h.1 octets h.2.took_octets told_octets in
        inl (completed h.0 h.1 ending.PeerEnded h.2 (known_decided h.0 h.1 h.3 h.4.0 ls lo h.4.1))
    answers_all status.LinkCut h =
        let ls = took_rest old.script new.script h.0 script h.2.took_script told_script in
        let lo = took_rest old.from new.from h.1 octets h.2.took_octets told_octets in
        inl (completed h.0 h.1 (ending.LinkStopped rounds.LinkCut) h.2
        (settled_cut h.0 h.1 ls (all_taken new.from h.1 octets lo h.4) h.3))
    answers_all (status.LinkFault f) h =
        let ls = took_rest old.script new.script h.0 script h.2.took_script told_script in
        let lo = took_rest old.from new.from h.1 octets h.2.took_octets told_octets in
        inl (completed h.0 h.1 (ending.LinkStopped (rounds.Faulty f)) h.2 (stopped_at h.0 h.1 ls lo h.3))
    answers_all status.TooLong h =
        let ls = took_rest old.script new.script h.0 script h.2.took_script told_script in
        let lo = took_rest old.from new.from h.1 octets h.2.took_octets told_octets in
        absurd (none_over h.0 h.1 ls lo h.3)
    answers_all status.ReadFault h = inr tt
    answers_all status.WriteFault h = inr tt
    answers_all status.Memory h = inr tt
    answers_all status.NoLink h = absurd h

pub completes : (over : Over) (old new : LiveStreams) (how : LiveStatus) → LiveOutcome ending_line over old new how
    → Completes over old new how
completes over old new how h script octets told_script told_octets few_script few_octets =
    answers_all over old new script octets told_script told_octets few_script few_octets how h
