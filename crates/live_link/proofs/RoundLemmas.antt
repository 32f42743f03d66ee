-- How a round of a run ends, and what was written by then.
use Rattle.std.specs.Prelude.{◌≡◌, ℕ, ◌+◌, ◌≤◌, List, ◌++◌, length}
use Rattle.std.proofs.Common.{sym, ap, subst, ◌∙◌, append_assoc}
use Rattle.call_io.specs.Bytes.{Took, GrewPartly}
use Rattle.call_io.proofs.BytesLemmas.{GrewPartly-longer, GrewPartly-whole}
use Rattle.trace_text.specs.EntryLine.{text_of}
use Rattle.trace_text.specs.inner.TextListenerLaws.{text_of-append}
use Rattle.live_link.specs.LiveOutcome.{LiveStreams, Over}
use Rattle.live_link.specs.Runs.{Run, run_behind}
use Rattle.live_link.specs.Turns.{Turn, entries_of}
use Rattle.live_link.specs.declared.answer.LiveStatus.{LiveStatus}
use Rattle.live_link.specs.declared.answer.LiveStatus.TheVariants as status
use Rattle.live_link.specs.declared.fault.EndFault.{EndFault}
use Rattle.live_link.specs.declared.fault.EndFault.TheVariants as end_fault
use Rattle.live_link.specs.declared.receiver.Receiver.{Receiver}
use Rattle.live_link.specs.inner.Brought.{Brought, CutOff, RoundEnds, Standing}
use Rattle.live_link.specs.inner.Going.{IsOfSending, IsOfWriting, failed_of}
use Rattle.live_link.proofs.Ticks.{entries_append}

-- the text of turns one behind the other
pub turns_text : (ts us : List Turn)
    → text_of (entries_of (ts ++ us)) ≡ text_of (entries_of ts) ++ text_of (entries_of us)
turns_text ts us = ap text_of (entries_append ts us) ∙ text_of-append (entries_of ts) (entries_of us)

pub run_twice : (ts us : List Turn) (xs ys : List ℕ) (run : Run)
    → run_behind ts xs (run_behind us ys run) ≡ run_behind (ts ++ us) (xs ++ ys) run
run_twice ts us xs ys run =
    ap (λ z. record run { turns = z; octets = xs ++ (ys ++ run.octets) }) (sym (append_assoc ts us run.turns))
    ∙ ap (λ z. record run { turns = (ts ++ us) ++ run.turns; octets = z }) (sym (append_assoc xs ys run.octets))

-- fronts were written of what a run writes that is this one behind these turns
abbrev pub cut_at : (over : Over) (start now : LiveStreams) (lines : List (List ℕ)) (octets : List ℕ) (turns : List Turn)
    (sent : List ℕ) (left : List (List ℕ) → Run) → Took start.from now.from octets
    → ((more : List (List ℕ)) → over (lines ++ more) octets ≡ run_behind turns sent (left more))
    → GrewPartly start.trace now.trace (text_of (entries_of turns))
    → ((more : List (List ℕ)) → GrewPartly start.to now.to (sent ++ (left more).octets))
    → ((more : List (List ℕ)) → now.passes ≤ start.passes + (left more).rounds + 1)
    → CutOff over start now lines
cut_at over start now lines octets turns sent left took same traced wrote counted =
    record {
      octets = octets;
      took = took;
      traced = λ more.
          subst (λ (z : Run). GrewPartly start.trace now.trace (text_of (entries_of z.turns))) (sym (same more))
          (subst (λ (z : List ℕ). GrewPartly start.trace now.trace z) (sym (turns_text turns (left more).turns))
          (GrewPartly-longer start.trace now.trace (text_of (entries_of turns)) (text_of (entries_of (left more).turns))
          traced));
      wrote = λ more.
          subst (λ (z : Run). GrewPartly start.to now.to z.octets) (sym (same more)) (wrote more);
      counted = λ more.
          subst (λ (z : Run). now.passes ≤ start.passes + z.rounds + 1) (sym (same more)) (counted more);
    }

-- what stands, whatever reads the octets
abbrev pub standing_of : (over : Over) (start now : LiveStreams) (r : Receiver) (lines : List (List ℕ)) (left : ℕ → Over)
    → (b : Brought over start now r lines left)
    → ((more : List (List ℕ)) (others : List ℕ)
    → now.passes ≤ start.passes + (left (length b.octets) more others).rounds + 1)
    → Standing over start now lines left
standing_of over start now r lines left b counted =
    record {
      octets = b.octets;
      pending = r.octets.pending;
      turns = b.turns;
      sent = b.sent;
      took = b.stands.so_far.took;
      within = b.stands.so_far.within;
      traced = b.traced;
      wrote = b.wrote;
      same = b.same;
      counted = counted;
    }

-- nothing more was written
abbrev pub cut_of : (over : Over) (start now : LiveStreams) (lines : List (List ℕ)) (left : ℕ → Over)
    → Standing over start now lines left → CutOff over start now lines
cut_of over start now lines left b =
    cut_at over start now lines (b.octets ++ b.pending) b.turns b.sent
    (λ more. left (length b.octets) more b.pending) b.took
    (λ more. b.same more b.pending)
    (GrewPartly-whole start.trace now.trace (text_of (entries_of b.turns)) b.traced)
    (λ more. GrewPartly-longer start.to now.to b.sent (left (length b.octets) more b.pending).octets
    (GrewPartly-whole start.to now.to b.sent b.wrote))
    (λ more. b.counted more b.pending)

-- a round that ended in writing, or for want of memory, was cut off
pub writing_ends : (over : Over) (start now : LiveStreams) (lines : List (List ℕ)) (how : LiveStatus)
    → IsOfWriting how → CutOff over start now lines → RoundEnds over start now lines how
writing_ends over start now lines status.WriteFault h c = c
writing_ends over start now lines status.Done h c = absurd h
writing_ends over start now lines (status.Refused bad) h c = absurd h
writing_ends over start now lines status.ReadFault h c = absurd h
writing_ends over start now lines status.Memory h c = absurd h
writing_ends over start now lines status.TooLong h c = absurd h
writing_ends over start now lines status.PeerEnded h c = absurd h
writing_ends over start now lines status.LinkCut h c = absurd h
writing_ends over start now lines (status.LinkFault f) h c = absurd h
writing_ends over start now lines status.NoLink h c = absurd h

pub sending_ends : (over : Over) (start now : LiveStreams) (lines : List (List ℕ)) (how : LiveStatus)
    → IsOfSending how → CutOff over start now lines → RoundEnds over start now lines how
sending_ends over start now lines status.WriteFault h c = c
sending_ends over start now lines status.Memory h c = c
sending_ends over start now lines status.Done h c = absurd h
sending_ends over start now lines (status.Refused bad) h c = absurd h
sending_ends over start now lines status.ReadFault h c = absurd h
sending_ends over start now lines status.TooLong h c = absurd h
sending_ends over start now lines status.PeerEnded h c = absurd h
sending_ends over start now lines status.LinkCut h c = absurd h
sending_ends over start now lines (status.LinkFault f) h c = absurd h
sending_ends over start now lines status.NoLink h c = absurd h

-- a step that failed was cut off
pub step_ends : (over : Over) (start now : LiveStreams) (lines : List (List ℕ)) (fault : EndFault)
    → CutOff over start now lines → RoundEnds over start now lines (failed_of fault)
step_ends over start now lines end_fault.Write c = c
step_ends over start now lines end_fault.Memory c = c
