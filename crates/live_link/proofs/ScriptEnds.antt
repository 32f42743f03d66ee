-- How a run ends at a line of its script, at the end of it, or where none can be read, for either end.
use Rattle.std.specs.Prelude.{◌≡◌, ℕ, ◌+◌, ◌≤◌, ◌⊎◌, Bool, true, false, List, [], ◌∷◌, ◌++◌, length, Option, Err}
use Rattle.std.proofs.Common.{refl, sym, ap, subst, ◌∙◌, inl, inr, append_assoc}
use Rattle.std.proofs.lemmas.Bool.{false≢true}
use Rattle.std.proofs.lemmas.List.{append-nil}
use Rattle.call_io.specs.Bytes.{Took, Grew, GrewPartly}
use Rattle.line_input.specs.Feed.{Feed}
use Rattle.line_input.specs.Lines.{IsWhole, lines_of, most_bytes}
use Rattle.line_input.specs.Reading.{MayFollow, Reading, ReadsLine}
use Rattle.line_input.specs.Taken.{LinesSoFar}
use Rattle.line_input.specs.declared.fault.LineFault.TheVariants as fault
use Rattle.line_input.proofs.LinesSoFar.{StopsAt, over_lines, settled_as, stopped_all, stopped_by, stopped_input, taken_input, taken_took}
use Rattle.line_input.proofs.Takings.{at_hand}
use Rattle.link_parts.specs.Rounds as rounds
use Rattle.trace_text.specs.EntryLine.{text_of}
use Rattle.live_link.specs.LiveOutcome.{CutShort, IsDecided, IsKnown, IsSettled, IsStopped, LinkRunsOver, LiveOutcome, LiveStreams, Over, Ran, WantsLine, run_over}
use Rattle.live_link.specs.Runs.{Ending, Run, run_behind}
use Rattle.live_link.specs.Runs as ending
use Rattle.live_link.specs.Turns.{entries_of}
use Rattle.live_link.specs.declared.answer.LiveStatus.{LiveStatus}
use Rattle.live_link.specs.declared.answer.LiveStatus.TheVariants as status
use Rattle.live_link.specs.inner.Brought.{CutOff, LinkEnded, LinkOver, RoundEnds, Standing, Stays, no_last}

-- A run that stops with no further turn, and no further octet: where these are all.
pub record IsStop (final : Run) : Type 0 where
  pub turns : final.turns ≡ []
  pub octets : final.octets ≡ []

module _ (over : Over) (start now : LiveStreams) where
  -- Where the whole of what was taken comes to a run, all of whose turns and octets were written.
  pub ran_all : (script octets : List ℕ) (run : Run) → Took start.script now.script script → Took start.from now.from octets
      → run_over over script octets ≡ run → Grew start.trace now.trace (text_of (entries_of run.turns))
      → Grew start.to now.to run.octets → now.passes ≤ start.passes + run.rounds + 1
      → Ran no_last over start now script octets run.ending
  ran_all script octets run took taken same traced wrote counted =
      record {
        took_script = took;
        took_octets = taken;
        ended = ap (λ z. z.ending) same;
        traced =
            subst (λ (z : Run). Grew start.trace now.trace (text_of (entries_of z.turns) ++ [])) (sym same)
            (subst (λ (z : List ℕ). Grew start.trace now.trace z) (sym (append-nil (text_of (entries_of run.turns)))) traced);
        sent = subst (λ (z : Run). Grew start.to now.to z.octets) (sym same) wrote;
        counted = subst (λ (z : Run). now.passes ≤ start.passes + z.rounds + 1) (sym same) counted;
      }

  cut_short : (script : List ℕ) (lines more : List (List ℕ)) (c : CutOff over start now lines)
      → Took start.script now.script script → lines_of script ≡ lines ++ more
      → CutShort no_last over start now script c.octets
  cut_short script lines more c took same =
      record {
        took_script = took;
        took_octets = c.took;
        traced =
            subst (λ (z : List (List ℕ)). GrewPartly start.trace now.trace (text_of (entries_of (over z c.octets).turns) ++ []))
            (sym same)
            (subst (λ (z : List ℕ). GrewPartly start.trace now.trace z)
            (sym (append-nil (text_of (entries_of (over (lines ++ more) c.octets).turns)))) (c.traced more));
        sent = subst (λ (z : List (List ℕ)). GrewPartly start.to now.to (over z c.octets).octets) (sym same) (c.wrote more);
        counted =
            subst (λ (z : List (List ℕ)). now.passes ≤ start.passes + (over z c.octets).rounds + 1) (sym same)
            (c.counted more);
      }

  -- The run stops at a line, whatever follows.
  module _ (lines passed : List (List ℕ)) (left : ℕ → Over) (b : Standing over start now lines left)
      (feed : Feed) (number : ℕ) (IsThis : List ℕ → Type 0)
      (stops : StopsAt start.script now.script feed (lines ++ passed) number IsThis) (final : Run) (stop : IsStop final)
      (counted : now.passes ≤ start.passes + final.rounds + 1)
      (is : (text : List ℕ) (rest : List (List ℕ)) (others : List ℕ) → IsThis text
      → left (length b.octets) (passed ++ text ∷ rest) others ≡ final) where
    abbrev pub all : Run
    all = run_behind b.turns b.sent final

    abbrev pub script : List ℕ
    script = stopped_input start.script now.script feed (lines ++ passed) number IsThis stops

    abbrev pub octets : List ℕ
    octets = b.octets ++ b.pending

    same_all : (others : List ℕ) (text : List ℕ) (rest : List (List ℕ)) → IsThis text
        → over ((lines ++ passed) ++ text ∷ rest) (b.octets ++ others) ≡ all
    same_all others text rest this =
        ap (λ z. over z (b.octets ++ others)) (append_assoc lines passed (text ∷ rest))
        ∙ b.same (passed ++ text ∷ rest) others
        ∙ ap (λ z. run_behind b.turns b.sent z) (is text rest others this)

    whole : (others : List ℕ) → over (lines_of script) (b.octets ++ others) ≡ all
    whole others =
        stopped_all start.script now.script feed (lines ++ passed) number IsThis stops
        (λ ls. over ls (b.octets ++ others) ≡ all) (same_all others)

    known : IsKnown over now.script number script octets b.octets
    known =
        settled_as (λ bytes. (others : List ℕ) → over (lines_of bytes) (b.octets ++ others) ≡ all)
        (λ bytes. (others : List ℕ) → over (lines_of bytes) (b.octets ++ others) ≡ over (lines_of script) octets)
        now.script number script (λ bytes same others. same others ∙ sym (whole b.pending))
        (stopped_by start.script now.script feed (lines ++ passed) number IsThis stops
        (λ ls. (others : List ℕ) → over ls (b.octets ++ others) ≡ all)
        (λ text rest this others. same_all others text rest this))

    abbrev decided : IsDecided over script octets
    decided =
        record {
          front = b.octets;
          rest = b.pending;
          split = refl;
          within = b.within;
          same = λ more. whole more ∙ sym (whole b.pending);
        }

    pub stops_known : (script octets : List ℕ) × Ran no_last over start now script octets final.ending
        × (d : IsDecided over script octets) × IsKnown over now.script number script octets d.front
    stops_known = (
      script,
      octets,
      ran_all script octets all stops.took b.took (whole b.pending)
          (subst (λ (z : List _). Grew start.trace now.trace (text_of (entries_of z)))
          (sym (ap (λ z. b.turns ++ z) stop.turns ∙ append-nil b.turns)) b.traced)
          (subst (λ (z : List ℕ). Grew start.to now.to z)
          (sym (ap (λ z. b.sent ++ z) stop.octets ∙ append-nil b.sent)) b.wrote)
          counted,
      decided,
      known,
    )

  -- What was taken of the script is these lines, and what follows in what is pending.
  module _ (reading : Reading) (lines : List (List ℕ)) (s : LinesSoFar start.script now.script reading lines) where
    abbrev pub taken_script : List ℕ
    taken_script = s.front ++ reading.feed.pending

    taken_lines : lines_of taken_script ≡ lines ++ lines_of reading.feed.pending
    taken_lines = s.split reading.feed.pending s.taken.done

    -- the script was read to its end
    script_whole : reading.feed.ended ≡ true → IsWhole now.script taken_script
    script_whole ended =
        record {
          «end» = s.taken.«end» ended;
          within =
              subst (λ (z : List ℕ). length z ≤ most_bytes)
              (sym (ap (λ z. s.front ++ z) (s.taken.done ended) ∙ append-nil s.front)) s.taken.within;
        }

    -- or more of it may follow
    script_more : reading.feed.ended ≡ false → (more : List ℕ)
        → lines_of (taken_script ++ more) ≡ lines ++ lines_of (reading.feed.pending ++ more)
    script_more alive more =
        ap lines_of (append_assoc s.front reading.feed.pending more)
        ∙ s.split (reading.feed.pending ++ more) (λ ended. absurd (false≢true (sym alive ∙ ended)))

    -- a run that the link stops is settled, or the script was read to its end
    link_settled : (octets : List ℕ) (run : Run) → ((more : List (List ℕ)) → over (lines ++ more) octets ≡ run)
        → IsSettled over now.script taken_script octets
    link_settled octets run same = at reading.feed.ended refl
      where
        at : (b : Bool) → reading.feed.ended ≡ b → IsSettled over now.script taken_script octets
        at true ended = inl (script_whole ended)
        at false alive =
            inr (λ more.
            ap (λ z. over z octets) (script_more alive more)
            ∙ same (lines_of (reading.feed.pending ++ more))
            ∙ sym (ap (λ z. over z octets) taken_lines ∙ same (lines_of reading.feed.pending)))

    -- and so it is where the octets stop it, whatever follows them
    link_stopped : (octets : List ℕ) (run : Run) → ((more : List (List ℕ)) → over (lines ++ more) octets ≡ run)
        → Stays over lines octets run → IsStopped over now.script taken_script octets
    link_stopped octets run same stays =
        record {
          same = λ others.
              ap (λ z. over z (octets ++ others)) taken_lines
              ∙ stays (lines_of reading.feed.pending) others ∙ sym here;
          settled = at reading.feed.ended refl;
        }
      where
        here : over (lines_of taken_script) octets ≡ run
        here = ap (λ z. over z octets) taken_lines ∙ same (lines_of reading.feed.pending)

        at : (b : Bool) → reading.feed.ended ≡ b
            → IsWhole now.script taken_script
            ⊎ ((more others : List ℕ)
            → over (lines_of (taken_script ++ more)) (octets ++ others) ≡ over (lines_of taken_script) octets)
        at true ended = inl (script_whole ended)
        at false alive =
            inr (λ more others.
            ap (λ z. over z (octets ++ others)) (script_more alive more)
            ∙ stays (lines_of (reading.feed.pending ++ more)) others ∙ sym here)

    link_ran : (stop : rounds.Stop) (e : LinkEnded over start now lines stop)
        → Ran no_last over start now taken_script e.octets (ending.LinkStopped stop)
    link_ran stop e =
        subst (λ z. Ran no_last over start now taken_script e.octets z) e.ended
        (ran_all taken_script e.octets e.run s.taken.took e.took
        (ap (λ z. over z e.octets) taken_lines ∙ e.same (lines_of reading.feed.pending)) e.traced e.wrote e.counted)

    pub short_of : (c : CutOff over start now lines) → CutShort no_last over start now taken_script c.octets
    short_of c = cut_short taken_script lines (lines_of reading.feed.pending) c s.taken.took taken_lines

    -- a run that ends within a round
    pub round_outcome : (how : LiveStatus) → RoundEnds over start now lines how → LiveOutcome no_last over start now how
    round_outcome status.LinkCut h = (
      taken_script,
      h.0.octets,
      link_ran rounds.LinkCut h.0,
      link_settled h.0.octets h.0.run h.0.same,
      h.1,
      h.2,
    )
    round_outcome (status.LinkFault f) h = (
      taken_script,
      h.0.octets,
      link_ran (rounds.Faulty f) h.0,
      link_stopped h.0.octets h.0.run h.0.same h.1,
      h.2,
    )
    round_outcome status.ReadFault h = (taken_script, h.octets, short_of h)
    round_outcome status.WriteFault h = (taken_script, h.octets, short_of h)
    round_outcome status.Memory h = (taken_script, h.octets, short_of h)
    round_outcome status.TooLong h = (taken_script, h.0.octets, short_of h.0, inr (link_over h.0 h.1))
      where
        link_over : (c : CutOff over start now lines) → LinkOver over lines c.octets
            → LinkRunsOver over taken_script c.octets
        link_over c o =
            record {
              front = o.front;
              rest = o.rest;
              split = o.split;
              full = o.full;
              beyond = o.beyond;
              wants =
                  subst (λ (z : List (List ℕ)). (over z o.front).ending ≡ ending.LinkStopped rounds.LinkCut)
                  (sym taken_lines) (o.wants (lines_of reading.feed.pending));
            }
    round_outcome status.Done h = absurd h
    round_outcome (status.Refused bad) h = absurd h
    round_outcome status.PeerEnded h = absurd h
    round_outcome status.NoLink h = absurd h

  -- A further line can't be read.
  module _ (before : Option (List ℕ)) (old new : Reading) (lines : List (List ℕ))
      (s : LinesSoFar start.script before old lines) (c : CutOff over start now lines) where
    read_more : (taken : List ℕ) → MayFollow old.feed (old.feed.pending ++ taken)
        → lines_of (taken_input start.script before now.script old new lines s taken)
        ≡ lines ++ lines_of (old.feed.pending ++ taken)
    read_more taken follows = s.split (old.feed.pending ++ taken) follows

    pub read_fails : ReadsLine old new before now.script (Err fault.ReadFault)
        → LiveOutcome no_last over start now status.ReadFault
    read_fails reads = (
      taken_input start.script before now.script old new lines s reads.taken,
      c.octets,
      cut_short (taken_input start.script before now.script old new lines s reads.taken) lines
          (lines_of (old.feed.pending ++ reads.taken)) c
          (taken_took start.script before now.script old new lines s reads.taken reads.draws)
          (read_more reads.taken (at_hand start.script before old new now.script s.front reads.taken s.taken reads.draws).follows),
    )

    pub reads_over : (reads : ReadsLine old new before now.script (Err fault.TooLong))
        → WantsLine over c.octets (lines ++ reads.finds.passed) → LiveOutcome no_last over start now status.TooLong
    reads_over reads wants = (
      taken_input start.script before now.script old new lines s reads.taken,
      c.octets,
      cut_short (taken_input start.script before now.script old new lines s reads.taken) lines
          (lines_of (old.feed.pending ++ reads.taken)) c
          (taken_took start.script before now.script old new lines s reads.taken reads.draws)
          (read_more reads.taken (at_hand start.script before old new now.script s.front reads.taken s.taken reads.draws).follows),
      inl (over_lines start.script before now.script old new lines s (WantsLine over c.octets) reads wants),
    )
