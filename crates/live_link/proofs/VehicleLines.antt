-- The vehicle's end from one line of its script to the next, and at the end of it.
use Rattle.std.specs.Prelude.{◌≡◌, ℕ, ◌≤◌, ◌+◌, true, false, List, [], ◌∷◌, ◌++◌, length, codes, Option, Some, None, Result, Ok, Err}
use Rattle.std.specs.List.{AllByRecursion}
use Rattle.std.proofs.Common.{refl, sym, ap, subst, ◌∙◌, inl, inr, arith, append_assoc, length-append}
use Rattle.std.proofs.lemmas.List.{append-nil}
use Rattle.call_io.specs.Bytes.{Took, Grew, GrewPartly}
use Rattle.call_io.proofs.BytesLemmas.{Grew-append, GrewPartly-after, GrewPartly-longer, GrewPartly-whole}
use Rattle.line_input.specs.Lines.{IsLine, IsPassedOver, line_fault}
use Rattle.line_input.specs.Reading.{Reading, ReadsLine}
use Rattle.line_input.specs.Taken.{LinesSoFar}
use Rattle.line_input.specs.Words.{words}
use Rattle.line_input.specs.declared.fault.LineFault.TheVariants as fault
use Rattle.line_input.specs.declared.reason.BadLine.{BadLine}
use Rattle.line_input.specs.declared.reason.Reason.{Reason}
use Rattle.line_input.specs.declared.reason.Reason.TheVariants as reason
use Rattle.line_input.proofs.LinesSoFar.{bad_stops, ended_lines, ended_whole, found_lines, found_stops, taken_input, taken_took}
use Rattle.link_frames.specs.declared.frame.End.TheVariants as «end»
use Rattle.link_parts.specs.Messages.{script_end}
use Rattle.link_parts.specs.Rounds.{rounds_from}
use Rattle.msd_fit.specs.declared.facts.Facts.{Facts}
use Rattle.trace_model.specs.declared.event.Event.{Event}
use Rattle.trace_text.specs.EntryLine.{text_of}
use Rattle.trace_text.specs.Facts.{facts_in}
use Rattle.trace_text.specs.Script.{Said, Script, placed_event, said_after}
use Rattle.trace_text.specs.declared.script.ScriptLine.{ScriptLine}
use Rattle.trace_text.specs.declared.script.ScriptLine.TheVariants as line
use Rattle.live_link.specs.LiveOutcome.{LiveOutcome, LiveStreams, Over, WantsLine, run_over}
use Rattle.live_link.specs.Runs.{Beat, Run, at_script_end, beat_of, run_behind}
use Rattle.live_link.specs.Scripts.{judged, line_by_words, placed_line, script_from}
use Rattle.live_link.specs.Turns.{Turn, entries_of}
use Rattle.live_link.specs.declared.answer.LiveStatus.{LiveStatus}
use Rattle.live_link.specs.declared.answer.LiveStatus.TheVariants as status
use Rattle.live_link.specs.declared.vehicle_run.VehicleSide.{VehicleSide}
use Rattle.live_link.specs.inner.Brought.{CutOff, Rest, Standing, no_last, vehicle_behind, vehicle_left}
use Rattle.live_link.specs.inner.ScriptGoes.{ReadsEvent, ReadsOther, RefusesEvent}
use Rattle.live_link.specs.inner.VehicleGoes.{VehicleAt, VehicleOver}
use Rattle.live_link.specs.inner.VehicleRun.{EndsScript}
use Rattle.live_link.proofs.OwnScript.{judged_fault, judged_line, judged_unknown, script_behind, script_none, script_refused, script_says}
use Rattle.live_link.proofs.RoundLemmas.{cut_of, standing_of}
use Rattle.live_link.proofs.VehicleBeats.{vehicle_counted}
use Rattle.live_link.proofs.ScriptEnds.{ran_all, read_fails, reads_over, short_of, stops_known}

-- Where nothing else changed.
pub still_at : (over : Over) (start old now : LiveStreams) (side : VehicleSide) (lines : List (List ℕ)) (rest : Rest)
    (pending : List Beat) → now.trace ≡ old.trace → now.from ≡ old.from → now.to ≡ old.to → now.passes ≡ old.passes
    → VehicleAt over start old side lines rest pending → VehicleAt over start now side lines rest pending
still_at over start old now side lines rest pending trace from to passes at =
    record {
      left = at.left;
      stands = at.stands;
      counted = let at_most = at.counted in omega (arith, passes, at_most);
      brought =
          record {
            octets = at.brought.octets;
            turns = at.brought.turns;
            sent = at.brought.sent;
            stands = rw from at.brought.stands;
            traced = rw trace at.brought.traced;
            wrote = rw to at.brought.wrote;
            same = at.brought.same;
          };
    }

-- Between two lines, before the script is read again.
module _ (over : Over) (start now : LiveStreams) (before : Option (List ℕ)) (side : VehicleSide) (old new : Reading)
    (lines : List (List ℕ)) (said : Said) (known : Facts) (s : LinesSoFar start.script before old lines)
    (facts : facts_in said.facts ≡ Some known) (eventful : said.eventful ≡ true)
    (at : VehicleAt over start now side lines (script_from «end».Vehicle said (length lines + 1)) []) where
  abbrev pub left : ℕ → Over
  left = vehicle_left at.left [] (script_from «end».Vehicle said (length lines + 1))

  abbrev standing : Standing over start now lines left
  standing =
      standing_of over start now side.receiver lines left at.brought
      (λ more others. vehicle_counted now.passes start.passes at.left [] (script_from «end».Vehicle said (length lines + 1))
      (length at.brought.octets) more others at.counted)

  abbrev pub number : List (List ℕ) → ℕ
  number passed = length lines + 1 + length passed

  -- a refused line ends the run
  abbrev refusal : BadLine → Run
  refusal bad = at_script_end at.left.tick (script_end ∷ []) (Some bad)

  stops_at : (passed : List (List ℕ)) → AllByRecursion IsPassedOver passed → (text : List ℕ) (why : Reason)
      → judged «end».Vehicle said text ≡ Err why → (texts : List (List ℕ)) (others : List ℕ)
      → left (length at.brought.octets) (passed ++ text ∷ texts) others
      ≡ refusal (record { line = number passed; reason = why })
  stops_at passed each text why bad texts others =
      ap (λ z. vehicle_behind at.left [] z (rounds_from «end».Vehicle [] [] (length at.brought.octets) others))
      (script_behind «end».Vehicle said passed each (length lines + 1) (text ∷ texts)
      ∙ script_refused «end».Vehicle said (number passed) text texts why bad)

  -- an event line is judged as what it says
  says_event : (text : List ℕ) (e : Event) → IsLine text
      → line_by_words «end».Vehicle (words text) ≡ Ok (line.Event e)
      → judged «end».Vehicle said text ≡ Ok (Some (line.Event e))
  says_event text e is says =
      judged_line «end».Vehicle said text is
      ∙ ap (λ z. placed_line «end».Vehicle said z) says
      ∙ ap (λ z. placed_event z e) facts

  -- and a line that is none is refused
  says_other : (text : List ℕ) (why : Reason) → IsLine text
      → RefusesEvent (line_by_words «end».Vehicle (words text)) reason.Late why
      → judged «end».Vehicle said text ≡ Err why
  says_other text why is says = judged_line «end».Vehicle said text is ∙ by_says (line_by_words «end».Vehicle (words text)) says
    where
      by_says : (r : Result ScriptLine Reason) → RefusesEvent r reason.Late why → placed_line «end».Vehicle said r ≡ Err why
      by_says (Err other) h = rw h refl
      by_says (Ok (line.Fact f)) h = rw (eventful, h) refl
      by_says (Ok (line.Event e)) h = absurd h

  -- the next event line was read
  module _ (e : Event) (reads : ReadsLine old new before now.script (Ok true))
      (says : line_by_words «end».Vehicle (words new.text) ≡ Ok (line.Event e)) where
    abbrev pub passed : List (List ℕ)
    passed = reads.finds.0.passed

    abbrev pub all : List (List ℕ)
    all = (lines ++ passed) ++ new.text ∷ []

    abbrev pub behind : List (List ℕ) → Script
    behind more = script_from «end».Vehicle (said_after said (line.Event e)) (length all + 1) more

    follows : (more : List (List ℕ)) → script_from «end».Vehicle said (length lines + 1) (passed ++ new.text ∷ more)
        ≡ (let r : Script = behind more in record r { events = e ∷ r.events })
    follows more =
        script_behind «end».Vehicle said passed reads.finds.0.each (length lines + 1) (new.text ∷ more)
        ∙ script_says «end».Vehicle said (number passed) new.text more (line.Event e)
        (says_event new.text e reads.finds.0.says says)
        ∙ ap (λ n. let r : Script = script_from «end».Vehicle (said_after said (line.Event e)) n more in record r { events = e ∷ r.events })
        (simp length-append (omega arith))

    same : (more : List (List ℕ)) (others : List ℕ) → over (all ++ more) (at.brought.octets ++ others)
        ≡ run_behind at.brought.turns at.brought.sent
        (vehicle_left at.left (beat_of e) behind (length at.brought.octets) more others)
    same more others =
        ap (λ z. over z (at.brought.octets ++ others))
        (append_assoc (lines ++ passed) (new.text ∷ []) more ∙ append_assoc lines passed (new.text ∷ more))
        ∙ at.brought.same (passed ++ new.text ∷ more) others
        ∙ ap (λ z. run_behind at.brought.turns at.brought.sent
        (vehicle_behind at.left [] z (rounds_from «end».Vehicle [] [] (length at.brought.octets) others))) (follows more)

    pub next_event : VehicleOver over start now side new (beat_of e)
    next_event =
        record {
          lines = all;
          said = said_after said (line.Event e);
          known = known;
          so_far = found_lines start.script before now.script old new lines s reads;
          facts = facts;
          eventful = refl;
          at =
              record {
                left = at.left;
                stands = at.stands;
                counted = at.counted;
                brought =
                    record {
                      octets = at.brought.octets;
                      turns = at.brought.turns;
                      sent = at.brought.sent;
                      stands = at.brought.stands;
                      traced = at.brought.traced;
                      wrote = at.brought.wrote;
                      same = same;
                    };
              };
        }

  -- a line that is refused whatever it says was read
  refused_bad : (bad : BadLine) → ReadsLine old new before now.script (Err (fault.Bad bad))
      → LiveOutcome no_last over start now (status.Refused bad)
  refused_bad bad reads =
      stops_known over start now lines reads.finds.passed left standing new.feed bad.line
      (λ text. line_fault text ≡ Some bad.reason)
      (bad_stops start.script before now.script old new lines s bad reads) (refusal bad)
      (record { turns = refl; octets = refl }) (let at_most = at.counted in omega (arith, at_most))
      (λ text texts others this.
      stops_at reads.finds.passed reads.finds.each text bad.reason (judged_fault «end».Vehicle said text bad.reason this) texts others
      ∙ ap (λ n. refusal (record { line = n; reason = bad.reason })) (place reads))
    where
      place : (reads : ReadsLine old new before now.script (Err (fault.Bad bad))) → number reads.finds.passed ≡ bad.line
      place reads = omega (arith, s.number, reads.finds.number)

  refused_other : (bad : BadLine) → ReadsOther «end».Vehicle reason.Late old new before now.script bad
      → LiveOutcome no_last over start now (status.Refused bad)
  refused_other bad other =
      stops_known over start now lines other.reads.finds.0.passed left standing new.feed bad.line
      (λ text. text ≡ new.text)
      (rw other.number (found_stops start.script before now.script old new lines s other.reads)) (refusal bad)
      (record { turns = refl; octets = refl }) (let at_most = at.counted in omega (arith, at_most))
      (λ text texts others this.
      stops_at other.reads.finds.0.passed other.reads.finds.0.each text bad.reason
      (ap (λ z. judged «end».Vehicle said z) this ∙ says_other new.text bad.reason other.reads.finds.0.says other.says) texts others
      ∙ ap (λ n. refusal (record { line = n; reason = bad.reason })) (place other))
    where
      place : (other : ReadsOther «end».Vehicle reason.Late old new before now.script bad)
          → number other.reads.finds.0.passed ≡ bad.line
      place other = omega (arith, s.number, other.reads.finds.0.last, other.number)

  -- a further line is wanted
  wants : (passed : List (List ℕ)) → AllByRecursion IsPassedOver passed → (octets : List ℕ)
      → WantsLine over (at.brought.octets ++ octets) (lines ++ passed)
  wants passed each octets = (
    record { line = number passed; reason = reason.Word },
    ap (λ z. z.ending)
        (ap (λ z. over z (at.brought.octets ++ octets)) (append_assoc lines passed (codes "$" ∷ []))
        ∙ at.brought.same (passed ++ codes "$" ∷ []) octets
        ∙ ap (λ z. run_behind at.brought.turns at.brought.sent z)
        (stops_at passed each (codes "$") reason.Word (judged_unknown «end».Vehicle said) [] octets)),
  )

  abbrev cut : CutOff over start now lines
  cut = cut_of over start now lines left standing

  -- no event line was read
  pub no_event : (how : LiveStatus) → ReadsEvent «end».Vehicle reason.Late old new before now.script (Err how)
      → LiveOutcome no_last over start now how
  no_event (status.Refused bad) (inl reads) = refused_bad bad reads
  no_event (status.Refused bad) (inr other) = refused_other bad other
  no_event status.ReadFault reads = read_fails over start now before old new lines s cut reads
  no_event status.TooLong reads =
      reads_over over start now before old new lines s cut reads
      (wants reads.finds.passed reads.finds.each side.receiver.octets.pending)
  no_event status.WriteFault same = at_once same.1
    where
      at_once : now.script ≡ before → LiveOutcome no_last over start now status.WriteFault
      at_once left =
          let t : LinesSoFar start.script now.script old lines = rw left s in
          (_, cut.octets, short_of over start now old lines t cut)
  no_event status.Done h = absurd h
  no_event status.Memory h = absurd h
  no_event status.PeerEnded h = absurd h
  no_event status.LinkCut h = absurd h
  no_event (status.LinkFault f) h = absurd h
  no_event status.NoLink h = absurd h

  -- The script is at its end, and the octet that says so goes to the other end.
  module _ (reads : ReadsLine old new before now.script (Ok false)) (to : Option (List ℕ)) where
    abbrev pub after : LiveStreams
    after = record now { to = to }

    abbrev script : List ℕ
    script = taken_input start.script before now.script old new lines s reads.taken

    abbrev final : Run
    final = at_script_end at.left.tick (script_end ∷ []) None

    abbrev octets : List ℕ
    octets = at.brought.octets ++ side.receiver.octets.pending

    behind_all : script_from «end».Vehicle said (length lines + 1) reads.finds.0.passed
        ≡ record { facts = facts_in said.facts; events = []; refused = None }
    behind_all =
        ap (λ z. script_from «end».Vehicle said (length lines + 1) z) (sym (append-nil reads.finds.0.passed))
        ∙ script_behind «end».Vehicle said reads.finds.0.passed reads.finds.0.each (length lines + 1) []
        ∙ script_none «end».Vehicle said (number reads.finds.0.passed)

    whole : (others : List ℕ)
        → run_over over script (at.brought.octets ++ others) ≡ run_behind at.brought.turns at.brought.sent final
    whole others =
        ap (λ z. over z (at.brought.octets ++ others)) (ended_lines start.script before now.script old new lines s reads)
        ∙ at.brought.same reads.finds.0.passed others
        ∙ ap (λ z. run_behind at.brought.turns at.brought.sent
        (vehicle_behind at.left [] z (rounds_from «end».Vehicle [] [] (length at.brought.octets) others))) behind_all

    took : Took start.script now.script script
    took = taken_took start.script before now.script old new lines s reads.taken reads.draws

    ends_done : Grew now.to to (script_end ∷ []) → LiveOutcome no_last over start after status.Done
    ends_done wrote = (
      script,
      octets,
      ran_all over start after script octets (run_behind at.brought.turns at.brought.sent final) took
          at.brought.stands.so_far.took (whole side.receiver.octets.pending)
          (subst (λ (z : List Turn). Grew start.trace now.trace (text_of (entries_of z))) (sym (append-nil at.brought.turns))
          at.brought.traced)
          (Grew-append start.to now.to to at.brought.sent (script_end ∷ []) at.brought.wrote wrote)
          (let at_most = at.counted in omega (arith, at_most)),
      ended_whole start.script before now.script old new lines s reads,
      record {
        front = at.brought.octets;
        rest = side.receiver.octets.pending;
        split = refl;
        within = at.brought.stands.so_far.within;
        same = λ more. whole more ∙ sym (whole side.receiver.octets.pending);
      },
    )

    ends_partly : GrewPartly now.to to (script_end ∷ []) → LiveOutcome no_last over start after status.WriteFault
    ends_partly wrote = (
      script,
      octets,
      record {
        took_script = took;
        took_octets = at.brought.stands.so_far.took;
        traced =
            subst (λ (z : Run). GrewPartly start.trace now.trace (text_of (entries_of z.turns) ++ []))
            (sym (whole side.receiver.octets.pending))
            (subst (λ (z : List Turn). GrewPartly start.trace now.trace (text_of (entries_of z) ++ []))
            (sym (append-nil at.brought.turns))
            (GrewPartly-longer start.trace now.trace (text_of (entries_of at.brought.turns)) []
            (GrewPartly-whole start.trace now.trace (text_of (entries_of at.brought.turns)) at.brought.traced)));
        sent =
            subst (λ (z : Run). GrewPartly start.to to z.octets) (sym (whole side.receiver.octets.pending))
            (GrewPartly-after start.to now.to to at.brought.sent (script_end ∷ []) at.brought.wrote wrote);
        counted =
            subst (λ (z : Run). now.passes ≤ start.passes + z.rounds + 1) (sym (whole side.receiver.octets.pending))
            (let at_most = at.counted in omega (arith, at_most));
      },
    )

    pub script_ends : (how : LiveStatus) → EndsScript now.to to how → LiveOutcome no_last over start after how
    script_ends status.Done h = ends_done h
    script_ends status.WriteFault h = ends_partly h
    script_ends (status.Refused bad) h = absurd h
    script_ends status.ReadFault h = absurd h
    script_ends status.Memory h = absurd h
    script_ends status.TooLong h = absurd h
    script_ends status.PeerEnded h = absurd h
    script_ends status.LinkCut h = absurd h
    script_ends (status.LinkFault f) h = absurd h
    script_ends status.NoLink h = absurd h
