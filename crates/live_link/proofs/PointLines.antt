-- The point's end from one line of its script to the next, and behind its script.
use Rattle.std.specs.Prelude.{◌≡◌, ℕ, ◌+◌, ◌≤◌, true, false, List, [], ◌∷◌, ◌++◌, length, codes, Option, Some, None, Result, Ok, Err}
use Rattle.std.specs.List.{AllByRecursion}
use Rattle.std.proofs.Common.{refl, sym, ap, subst, ◌∙◌, inl, inr, arith, append_assoc, length-append}
use Rattle.std.proofs.lemmas.List.{append-nil}
use Rattle.call_io.specs.Bytes.{Took, GrewPartly}
use Rattle.call_io.proofs.BytesLemmas.{Grew-nothing}
use Rattle.line_input.specs.Lines.{IsLine, IsPassedOver, IsWhole, lines_of, line_fault}
use Rattle.line_input.specs.Reading.{Reading, ReadsLine, first_reading}
use Rattle.line_input.specs.Taken.{LinesSoFar}
use Rattle.line_input.specs.Words.{words}
use Rattle.line_input.specs.declared.fault.LineFault.TheVariants as fault
use Rattle.line_input.specs.declared.reason.BadLine.{BadLine}
use Rattle.line_input.specs.declared.reason.Reason.{Reason}
use Rattle.line_input.specs.declared.reason.Reason.TheVariants as reason
use Rattle.line_input.proofs.LinesSoFar.{bad_stops, found_lines, found_stops, lines_first, taken_input}
use Rattle.link_frames.specs.declared.frame.End.TheVariants as «end»
use Rattle.link_parts.specs.Rounds as rounds
use Rattle.link_parts.specs.Rounds.{Rounds, rounds_from}
use Rattle.trace_model.specs.declared.event.Event.{Event}
use Rattle.trace_text.specs.EntryLine.{text_of}
use Rattle.trace_text.specs.Facts.{facts_in}
use Rattle.trace_text.specs.Script.{Said, Script, nothing_said, said_after}
use Rattle.trace_text.specs.declared.script.ScriptLine.{ScriptLine}
use Rattle.trace_text.specs.declared.script.ScriptLine.TheVariants as line
use Rattle.live_link.specs.LiveOutcome.{CutShort, IsStopped, LinkRunsOver, LiveOutcome, LiveStreams, Over, Ran, WantsLine, run_over}
use Rattle.live_link.specs.PointLive.{first_live}
use Rattle.live_link.specs.Runs.{Beat, Run, at_script_end, beat_of, beats_of, run_behind}
use Rattle.live_link.specs.Runs as ending
use Rattle.live_link.specs.Scripts.{judged, line_by_words, placed_line, point_over, script_from}
use Rattle.live_link.specs.Turns.{entries_of}
use Rattle.live_link.specs.declared.answer.LiveStatus.{LiveStatus}
use Rattle.live_link.specs.declared.answer.LiveStatus.TheVariants as status
use Rattle.live_link.specs.declared.point_run.PointSide.{PointSide}
use Rattle.live_link.specs.inner.Brought.{CutOff, LinkEnded, LinkOver, Standing, Stays, no_last, point_behind, point_left}
use Rattle.live_link.specs.inner.PointGoes.{EndsOn, PointAt, PointOver, no_more}
use Rattle.live_link.specs.inner.PointEnd.{PointStandsFor}
use Rattle.live_link.specs.inner.Receiving.{StandsBehind}
use Rattle.live_link.specs.inner.ScriptGoes.{ReadsEvent, ReadsOther, RefusesEvent}
use Rattle.live_link.proofs.OwnScript.{judged_fault, judged_line, judged_unknown, script_behind, script_none, script_refused, script_says}
use Rattle.live_link.proofs.PointBeats.{point_counted}
use Rattle.live_link.proofs.PointWords.{IsNoFact, no_fact}
use Rattle.live_link.proofs.RoundLemmas.{cut_of, standing_of}
use Rattle.live_link.proofs.ScriptEnds.{ran_all, read_fails, reads_over, short_of, stops_known}

-- a line that is judged by its words is what they say
pub says_event : (said : Said) (text : List ℕ) (e : Event) → IsLine text
    → line_by_words «end».Point (words text) ≡ Ok (line.Event e)
    → judged «end».Point said text ≡ Ok (Some (line.Event e))
says_event said text e is says =
    judged_line «end».Point said text is ∙ ap (λ z. placed_line «end».Point said z) says

says_other : (said : Said) (text : List ℕ) (why : Reason) → IsLine text
    → RefusesEvent (line_by_words «end».Point (words text)) reason.Word why
    → judged «end».Point said text ≡ Err why
says_other said text why is says =
    judged_line «end».Point said text is
    ∙ by_says (line_by_words «end».Point (words text)) (no_fact (words text)) says
  where
    by_says : (r : Result ScriptLine Reason) → IsNoFact r → RefusesEvent r reason.Word why
        → placed_line «end».Point said r ≡ Err why
    by_says (Err other) n h = rw h refl
    by_says (Ok (line.Fact f)) n h = absurd n
    by_says (Ok (line.Event e)) n h = absurd h

-- Where a further line of the script is read, and what a line that is refused makes of the run.
module _ (over : Over) (start now : LiveStreams) (before : Option (List ℕ)) (old new : Reading)
    (lines : List (List ℕ)) (said : Said) (s : LinesSoFar start.script before old lines) (left : ℕ → Over)
    (b : Standing over start now lines left) (refusal : BadLine → Run)
    (turns : (bad : BadLine) → (refusal bad).turns ≡ []) (octets : (bad : BadLine) → (refusal bad).octets ≡ [])
    (ended : (bad : BadLine) → (refusal bad).ending ≡ ending.Refused bad)
    (counted : (bad : BadLine) → now.passes ≤ start.passes + (refusal bad).rounds + 1)
    (is : (passed : List (List ℕ)) → AllByRecursion IsPassedOver passed → (text : List ℕ) (why : Reason)
    → judged «end».Point said text ≡ Err why → (texts : List (List ℕ)) (others : List ℕ)
    → left (length b.octets) (passed ++ text ∷ texts) others
    ≡ refusal (record { line = length lines + 1 + length passed; reason = why })) where
  refused_bad : (bad : BadLine) → ReadsLine old new before now.script (Err (fault.Bad bad))
      → LiveOutcome no_last over start now (status.Refused bad)
  refused_bad bad reads =
      let k = stops_known over start now lines reads.finds.passed left b new.feed bad.line
      (λ text. line_fault text ≡ Some bad.reason)
      (bad_stops start.script before now.script old new lines s bad reads) (refusal bad)
      (record { turns = turns bad; octets = octets bad }) (counted bad)
      (λ text texts others this.
      is reads.finds.passed reads.finds.each text bad.reason (judged_fault «end».Point said text bad.reason this) texts others
      ∙ ap (λ n. refusal (record { line = n; reason = bad.reason })) (place reads)) in
      (k.0, k.1, subst (λ z. Ran no_last over start now k.0 k.1 z) (ended bad) k.2, k.3, k.4)
    where
      place : (reads : ReadsLine old new before now.script (Err (fault.Bad bad)))
          → length lines + 1 + length reads.finds.passed ≡ bad.line
      place reads = omega (arith, s.number, reads.finds.number)

  refused_other : (bad : BadLine) → ReadsOther «end».Point reason.Word old new before now.script bad
      → LiveOutcome no_last over start now (status.Refused bad)
  refused_other bad other =
      let k = stops_known over start now lines other.reads.finds.0.passed left b new.feed bad.line
      (λ text. text ≡ new.text)
      (rw other.number (found_stops start.script before now.script old new lines s other.reads)) (refusal bad)
      (record { turns = turns bad; octets = octets bad }) (counted bad)
      (λ text texts others this.
      is other.reads.finds.0.passed other.reads.finds.0.each text bad.reason
      (ap (λ z. judged «end».Point said z) this ∙ says_other said new.text bad.reason other.reads.finds.0.says other.says) texts others
      ∙ ap (λ n. refusal (record { line = n; reason = bad.reason })) (place other)) in
      (k.0, k.1, subst (λ z. Ran no_last over start now k.0 k.1 z) (ended bad) k.2, k.3, k.4)
    where
      place : (other : ReadsOther «end».Point reason.Word old new before now.script bad)
          → length lines + 1 + length other.reads.finds.0.passed ≡ bad.line
      place other = omega (arith, s.number, other.reads.finds.0.last, other.number)

  wants : (passed : List (List ℕ)) → AllByRecursion IsPassedOver passed → (octets : List ℕ)
      → WantsLine over (b.octets ++ octets) (lines ++ passed)
  wants passed each octets = (
    record { line = length lines + 1 + length passed; reason = reason.Word },
    ap (λ z. z.ending)
        (ap (λ z. over z (b.octets ++ octets)) (append_assoc lines passed (codes "$" ∷ []))
        ∙ b.same (passed ++ codes "$" ∷ []) octets
        ∙ ap (λ z. run_behind b.turns b.sent z)
        (is passed each (codes "$") reason.Word (judged_unknown «end».Point said) [] octets))
        ∙ ended (record { line = length lines + 1 + length passed; reason = reason.Word }),
  )

  abbrev pub cut : CutOff over start now lines
  cut = cut_of over start now lines left b

  -- no event line was read
  pub no_event : (how : LiveStatus) → ReadsEvent «end».Point reason.Word old new before now.script (Err how)
      → LiveOutcome no_last over start now how
  no_event (status.Refused bad) (inl reads) = refused_bad bad reads
  no_event (status.Refused bad) (inr other) = refused_other bad other
  no_event status.ReadFault reads = read_fails over start now before old new lines s cut reads
  no_event status.TooLong reads =
      reads_over over start now before old new lines s cut reads
      (wants reads.finds.passed reads.finds.each b.pending)
  no_event status.WriteFault same = at_once same.1
    where
      at_once : now.script ≡ before → LiveOutcome no_last over start now status.WriteFault
      at_once left =
          let t : LinesSoFar start.script now.script old lines = rw left s in
          (_, cut.octets, short_of over start now old lines t cut)
  no_event status.Done h = absurd h
  no_event status.Memory h = absurd h
  no_event status.PeerEnded h = absurd h
  no_event status.LinkCut h = absurd h
  no_event (status.LinkFault f) h = absurd h
  no_event status.NoLink h = absurd h

-- Between two lines of the script.
module _ (over : Over) (start now : LiveStreams) (before : Option (List ℕ)) (side : PointSide) (old new : Reading)
    (lines : List (List ℕ)) (said : Said) (s : LinesSoFar start.script before old lines)
    (at : PointAt over start now side lines (script_from «end».Point said (length lines + 1)) []) where
  abbrev pub line_left : ℕ → Over
  line_left = point_left at.left [] (script_from «end».Point said (length lines + 1))

  abbrev pub line_standing : Standing over start now lines line_left
  line_standing =
      standing_of over start now side.receiver lines line_left at.brought
      (λ more others. point_counted now.passes start.passes at.left [] (script_from «end».Point said (length lines + 1))
      (length at.brought.octets) more others at.counted)

  abbrev pub line_refusal : BadLine → Run
  line_refusal bad = at_script_end at.left.tick [] (Some bad)

  line_stops : (passed : List (List ℕ)) → AllByRecursion IsPassedOver passed → (text : List ℕ) (why : Reason)
      → judged «end».Point said text ≡ Err why → (texts : List (List ℕ)) (others : List ℕ)
      → line_left (length at.brought.octets) (passed ++ text ∷ texts) others
      ≡ line_refusal (record { line = length lines + 1 + length passed; reason = why })
  line_stops passed each text why bad texts others =
      ap (λ z. point_behind at.left [] z (rounds_from «end».Point [] [] (length at.brought.octets) others))
      (script_behind «end».Point said passed each (length lines + 1) (text ∷ texts)
      ∙ script_refused «end».Point said (length lines + 1 + length passed) text texts why bad)

  -- no event line was read
  pub line_fails : (how : LiveStatus) → ReadsEvent «end».Point reason.Word old new before now.script (Err how)
      → LiveOutcome no_last over start now how
  line_fails =
      no_event over start now before old new lines said s line_left line_standing line_refusal (λ bad. refl) (λ bad. refl)
      (λ bad. refl) (λ bad. let at_most = at.counted in omega (arith, at_most)) line_stops

  -- an event line was read
  module _ (e : Event) (reads : ReadsLine old new before now.script (Ok true))
      (says : line_by_words «end».Point (words new.text) ≡ Ok (line.Event e)) where
    abbrev pub passed : List (List ℕ)
    passed = reads.finds.0.passed

    abbrev pub all : List (List ℕ)
    all = (lines ++ passed) ++ new.text ∷ []

    abbrev pub behind : List (List ℕ) → Script
    behind more = script_from «end».Point (said_after said (line.Event e)) (length all + 1) more

    pub next_lines : LinesSoFar start.script now.script new all
    next_lines = found_lines start.script before now.script old new lines s reads

    follows : (more : List (List ℕ)) → script_from «end».Point said (length lines + 1) (passed ++ new.text ∷ more)
        ≡ (let r : Script = behind more in record r { events = e ∷ r.events })
    follows more =
        script_behind «end».Point said passed reads.finds.0.each (length lines + 1) (new.text ∷ more)
        ∙ script_says «end».Point said (length lines + 1 + length passed) new.text more (line.Event e)
        (says_event said new.text e reads.finds.0.says says)
        ∙ ap (λ n. let r : Script = script_from «end».Point (said_after said (line.Event e)) n more in record r { events = e ∷ r.events })
        (simp length-append (omega arith))

    same : (more : List (List ℕ)) (others : List ℕ) → over (all ++ more) (at.brought.octets ++ others)
        ≡ run_behind at.brought.turns at.brought.sent
        (point_left at.left (beat_of e) behind (length at.brought.octets) more others)
    same more others =
        ap (λ z. over z (at.brought.octets ++ others))
        (append_assoc (lines ++ passed) (new.text ∷ []) more ∙ append_assoc lines passed (new.text ∷ more))
        ∙ at.brought.same (passed ++ new.text ∷ more) others
        ∙ ap (λ z. run_behind at.brought.turns at.brought.sent
        (point_behind at.left [] z (rounds_from «end».Point [] [] (length at.brought.octets) others))) (follows more)

    pub next_event : PointAt over start now side all behind (beat_of e)
    next_event =
        record {
          left = at.left;
          stands = at.stands;
          counted = at.counted;
          brought =
              record {
                octets = at.brought.octets;
                turns = at.brought.turns;
                sent = at.brought.sent;
                stands = at.brought.stands;
                traced = at.brought.traced;
                wrote = at.brought.wrote;
                same = same;
              };
        }

  -- The script is at its end, and the run goes on without events.
  module _ (reads : ReadsLine old new before now.script (Ok false)) where
    abbrev pub script : List ℕ
    script = taken_input start.script before now.script old new lines s reads.taken

    abbrev pub whole_over : Over
    whole_over more octets = over (lines ++ reads.finds.0.passed) octets

    behind_all : script_from «end».Point said (length lines + 1) reads.finds.0.passed
        ≡ record { facts = facts_in said.facts; events = []; refused = None }
    behind_all =
        ap (λ z. script_from «end».Point said (length lines + 1) z) (sym (append-nil reads.finds.0.passed))
        ∙ script_behind «end».Point said reads.finds.0.passed reads.finds.0.each (length lines + 1) []
        ∙ script_none «end».Point said (length lines + 1 + length reads.finds.0.passed)

    pub on_at : PointAt whole_over start now side [] no_more []
    on_at =
        record {
          left = at.left;
          stands = at.stands;
          counted = at.counted;
          brought =
              record {
                octets = at.brought.octets;
                turns = at.brought.turns;
                sent = at.brought.sent;
                stands = at.brought.stands;
                traced = at.brought.traced;
                wrote = at.brought.wrote;
                same = λ more others.
                    at.brought.same reads.finds.0.passed others
                    ∙ ap (λ z. run_behind at.brought.turns at.brought.sent
                    (point_behind at.left [] z (rounds_from «end».Point [] [] (length at.brought.octets) others))) behind_all;
              };
        }

-- Behind its script the run ends so: all of the script was read.
module _ (over : Over) (start now : LiveStreams) (lines : List (List ℕ)) (script : List ℕ)
    (took : Took start.script now.script script) (whole : IsWhole now.script script) (same : lines_of script ≡ lines) where
  abbrev pub on_over : Over
  on_over more octets = over lines octets

  on_same : (octets : List ℕ) (run : Run) → over lines octets ≡ run → run_over over script octets ≡ run
  on_same octets run h = ap (λ z. over z octets) same ∙ h

  on_ran : (stop : rounds.Stop) (e : LinkEnded on_over start now [] stop)
      → Ran no_last over start now script e.octets (ending.LinkStopped stop)
  on_ran stop e =
      subst (λ z. Ran no_last over start now script e.octets z) e.ended
      (ran_all over start now script e.octets e.run took e.took (on_same e.octets e.run (e.same [])) e.traced e.wrote e.counted)

  on_cut : (c : CutOff on_over start now []) → CutShort no_last over start now script c.octets
  on_cut c =
      record {
        took_script = took;
        took_octets = c.took;
        traced =
            subst (λ (z : Run). GrewPartly start.trace now.trace (text_of (entries_of z.turns) ++ []))
            (sym (on_same c.octets (over lines c.octets) refl))
            (subst (λ (z : List ℕ). GrewPartly start.trace now.trace z)
            (sym (append-nil (text_of (entries_of (over lines c.octets).turns)))) (c.traced []));
        counted =
            subst (λ (z : Run). now.passes ≤ start.passes + z.rounds + 1) (sym (on_same c.octets (over lines c.octets) refl))
            (c.counted []);
        sent =
            subst (λ (z : Run). GrewPartly start.to now.to z.octets) (sym (on_same c.octets (over lines c.octets) refl))
            (c.wrote []);
      }

  pub on_outcome : (how : LiveStatus) → EndsOn on_over start now [] how → LiveOutcome no_last over start now how
  on_outcome status.Done d = (
    script,
    d.octets ++ d.pending,
    subst (λ z. Ran no_last over start now script (d.octets ++ d.pending) z) d.ended
        (ran_all over start now script (d.octets ++ d.pending) d.run took d.took
        (on_same (d.octets ++ d.pending) d.run (d.same [] d.pending)) d.traced d.wrote d.counted),
    whole,
    record {
      front = d.octets;
      rest = d.pending;
      split = refl;
      within = d.within;
      same = λ more.
          on_same (d.octets ++ more) d.run (d.same [] more)
          ∙ sym (on_same (d.octets ++ d.pending) d.run (d.same [] d.pending));
    },
  )
  on_outcome status.LinkCut h = (script, h.0.octets, on_ran rounds.LinkCut h.0, inl whole, h.1, h.2)
  on_outcome (status.LinkFault f) h = (script, h.0.octets, on_ran (rounds.Faulty f) h.0, on_stopped h.0 h.1, h.2)
    where
      on_stopped : (e : LinkEnded on_over start now [] (rounds.Faulty f)) → Stays on_over [] e.octets e.run
          → IsStopped over now.script script e.octets
      on_stopped e stays =
          record {
            same = λ others.
                on_same (e.octets ++ others) e.run (stays [] others) ∙ sym (on_same e.octets e.run (e.same []));
            settled = inl whole;
          }
  on_outcome status.ReadFault h = (script, h.octets, on_cut h)
  on_outcome status.WriteFault h = (script, h.octets, on_cut h)
  on_outcome status.Memory h = (script, h.octets, on_cut h)
  on_outcome status.TooLong h = (script, h.0.octets, on_cut h.0, inr (on_link h.0 h.1))
    where
      on_link : (c : CutOff on_over start now []) → LinkOver on_over [] c.octets → LinkRunsOver over script c.octets
      on_link c o =
          record {
            front = o.front;
            rest = o.rest;
            split = o.split;
            full = o.full;
            beyond = o.beyond;
            wants = ap (λ z. (over z o.front).ending) same ∙ o.wants [];
          }
  on_outcome (status.Refused bad) h = absurd h
  on_outcome status.PeerEnded h = absurd h
  on_outcome status.NoLink h = absurd h

-- before anything was read
pub point_first : (start : LiveStreams) (side : PointSide) → PointStandsFor side.end first_live
    → ((from : Option (List ℕ)) → StandsBehind from from side.receiver [])
    → PointOver point_over start start side first_reading
point_first start side stands behind =
    record {
      lines = [];
      said = nothing_said;
      so_far = lines_first start.script;
      at =
          record {
            left = first_live;
            stands = stands;
            counted = omega arith;
            brought =
                record {
                  octets = [];
                  turns = [];
                  sent = [];
                  stands = behind start.from;
                  traced = Grew-nothing start.trace;
                  wrote = Grew-nothing start.to;
                  same = λ more others. refl;
                };
          };
    }
