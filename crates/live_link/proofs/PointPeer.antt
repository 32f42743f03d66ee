-- The point's end where the vehicle's script ends first, from there to the next line of its own script or to its end.
use Rattle.std.specs.Prelude.{◌≡◌, ℕ, ◌+◌, true, false, List, [], ◌∷◌, ◌++◌, length, Option, Some, None, Ok, Err}
use Rattle.std.specs.List.{AllByRecursion}
use Rattle.std.proofs.Common.{refl, sym, ap, subst, ◌∙◌, arith}
use Rattle.std.proofs.lemmas.List.{append-nil}
use Rattle.call_io.specs.Bytes.{Grew}
use Rattle.line_input.specs.Lines.{IsPassedOver}
use Rattle.line_input.specs.Reading.{Reading, ReadsLine}
use Rattle.line_input.specs.Taken.{LinesSoFar}
use Rattle.line_input.specs.Words.{words}
use Rattle.line_input.specs.declared.reason.BadLine.{BadLine}
use Rattle.line_input.specs.declared.reason.Reason.{Reason}
use Rattle.line_input.specs.declared.reason.Reason.TheVariants as reason
use Rattle.line_input.proofs.LinesSoFar.{ended_lines, ended_whole, found_stops, taken_input, taken_took}
use Rattle.link_frames.specs.declared.frame.End.TheVariants as «end»
use Rattle.trace_model.specs.declared.event.Event.{Event}
use Rattle.trace_model.specs.declared.event.Event.TheVariants as event
use Rattle.trace_text.specs.EntryLine.{text_of}
use Rattle.trace_text.specs.Script.{Said, Script, said_after}
use Rattle.trace_text.specs.declared.script.ScriptLine.TheVariants as line
use Rattle.live_link.specs.LiveOutcome.{LiveOutcome, LiveStreams, Over, run_over}
use Rattle.live_link.specs.PointLive.{LivePoint, at_peer_end, lines_follow}
use Rattle.live_link.specs.Runs.{Beat, Run, beat_of, beats_of, run_behind}
use Rattle.live_link.specs.Scripts.{judged, line_by_words, script_from}
use Rattle.live_link.specs.Turns.{Turn, entries_of}
use Rattle.live_link.specs.declared.answer.LiveStatus.{LiveStatus}
use Rattle.live_link.specs.declared.answer.LiveStatus.TheVariants as status
use Rattle.live_link.specs.inner.Brought.{Standing, no_last}
use Rattle.live_link.specs.inner.PointGoes.{PeerAt}
use Rattle.live_link.specs.inner.ScriptGoes.{ReadsEvent}
use Rattle.live_link.proofs.OwnScript.{script_behind, script_none, script_refused, script_says}
use Rattle.live_link.proofs.PointBeats.{peer_least}
use Rattle.live_link.proofs.ScriptEnds.{ran_all, stops_known}
use Rattle.live_link.proofs.PointLines.{no_event, says_event}

-- an event line is a further line
follows_event : (e : Event) (beats : List Beat) → lines_follow (beat_of e ++ beats) ≡ true
follows_event (event.Tick n) beats = refl
follows_event event.Callback beats = refl
follows_event (event.Request c) beats = refl
follows_event (event.Clear c) beats = refl
follows_event (event.Hangup c) beats = refl
follows_event (event.Damaged c) beats = refl
follows_event (event.FaultPoint c) beats = refl
follows_event (event.DropPoint c) beats = refl
follows_event (event.Reset e) beats = refl
follows_event (event.Trigger cause) beats = refl
follows_event event.Cancel beats = refl
follows_event (event.Net up) beats = refl
follows_event event.Answer beats = refl
follows_event event.Fail beats = refl
follows_event event.Sleep beats = refl
follows_event event.FaultVehicle beats = refl
follows_event event.DropVehicle beats = refl
follows_event (event.DropBoth c) beats = refl
follows_event (event.Deliver up c k) beats = refl
follows_event (event.Flow up d) beats = refl

any_refused : (s : LivePoint) (refused : Option BadLine) → at_peer_end s refused true ≡ at_peer_end s None true
any_refused s None = refl
any_refused s (Some bad) = refl

follows_peer : (s : LivePoint) (refused : Option BadLine) (e : Event) (beats : List Beat)
    → at_peer_end s refused (lines_follow (beat_of e ++ beats)) ≡ at_peer_end s None true
follows_peer s refused e beats = ap (λ b. at_peer_end s refused b) (follows_event e beats) ∙ any_refused s refused

-- The vehicle's script is at its end, and the next line decides.
module _ (over : Over) (start now : LiveStreams) (before : Option (List ℕ)) (old new : Reading)
    (lines : List (List ℕ)) (said : Said) (s : LinesSoFar start.script before old lines)
    (at : PeerAt over start now lines (script_from «end».Point said (length lines + 1))) where
  abbrev pub peer_left : ℕ → Over
  peer_left place more others =
      let r : Script = script_from «end».Point said (length lines + 1) more in
      at_peer_end at.left r.refused (lines_follow (beats_of r.events))

  abbrev pub peer_standing : Standing over start now lines peer_left
  peer_standing =
      record {
        octets = at.octets;
        pending = at.pending;
        turns = at.turns;
        sent = at.sent;
        took = at.took;
        within = at.within;
        traced = at.traced;
        wrote = at.wrote;
        same = at.same;
        counted = λ more others.
            let r : Script = script_from «end».Point said (length lines + 1) more in
            let least = peer_least at.left r.refused (lines_follow (beats_of r.events)) in
            let at_most = at.counted in omega (arith, at_most, least);
      }

  abbrev pub peer_refusal : BadLine → Run
  peer_refusal bad = at_peer_end at.left (Some bad) false

  peer_stops : (passed : List (List ℕ)) → AllByRecursion IsPassedOver passed → (text : List ℕ) (why : Reason)
      → judged «end».Point said text ≡ Err why → (texts : List (List ℕ)) (others : List ℕ)
      → peer_left (length at.octets) (passed ++ text ∷ texts) others
      ≡ peer_refusal (record { line = length lines + 1 + length passed; reason = why })
  peer_stops passed each text why bad texts others =
      ap (λ (z : Script). at_peer_end at.left z.refused (lines_follow (beats_of z.events)))
      (script_behind «end».Point said passed each (length lines + 1) (text ∷ texts)
      ∙ script_refused «end».Point said (length lines + 1 + length passed) text texts why bad)

  -- no event line was read
  pub peer_fails : (how : LiveStatus) → ReadsEvent «end».Point reason.Word old new before now.script (Err how)
      → LiveOutcome no_last over start now how
  peer_fails =
      no_event over start now before old new lines said s peer_left peer_standing peer_refusal (λ bad. refl) (λ bad. refl)
      (λ bad. refl) (λ bad. let at_most = at.counted in omega (arith, at_most)) peer_stops

  -- one was read
  pub peer_ended : (e : Event) → (reads : ReadsLine old new before now.script (Ok true))
      → line_by_words «end».Point (words new.text) ≡ Ok (line.Event e)
      → LiveOutcome no_last over start now status.PeerEnded
  peer_ended e reads says =
      let k = stops_known over start now lines reads.finds.0.passed peer_left peer_standing new.feed new.lines
      (λ text. text ≡ new.text) (found_stops start.script before now.script old new lines s reads)
      (at_peer_end at.left None true) (record { turns = refl; octets = refl })
      (let at_most = at.counted in omega (arith, at_most))
      (λ text texts others this.
      ap (λ (z : Script). at_peer_end at.left z.refused (lines_follow (beats_of z.events)))
      (script_behind «end».Point said reads.finds.0.passed reads.finds.0.each (length lines + 1) (text ∷ texts)
      ∙ script_says «end».Point said (length lines + 1 + length reads.finds.0.passed) text texts (line.Event e)
      (ap (λ z. judged «end».Point said z) this ∙ says_event said new.text e reads.finds.0.says says))
      ∙ follows reads e texts) in
      (k.0, k.1, k.2, k.3, (new.lines, k.4))
    where
      follows : (reads : ReadsLine old new before now.script (Ok true)) (e : Event) (texts : List (List ℕ))
          → (let r : Script = script_from «end».Point (said_after said (line.Event e))
          (length lines + 1 + length reads.finds.0.passed + 1) texts in
          at_peer_end at.left r.refused (lines_follow (beat_of e ++ beats_of r.events)))
          ≡ at_peer_end at.left None true
      follows reads e texts =
          let r : Script = script_from «end».Point (said_after said (line.Event e))
          (length lines + 1 + length reads.finds.0.passed + 1) texts in
          follows_peer at.left r.refused e (beats_of r.events)

  -- or the script is at its end
  pub peer_done : (reads : ReadsLine old new before now.script (Ok false))
      → LiveOutcome no_last over start now status.Done
  peer_done reads = (
    taken_input start.script before now.script old new lines s reads.taken,
    at.octets ++ at.pending,
    ran_all over start now (taken_input start.script before now.script old new lines s reads.taken) (at.octets ++ at.pending)
        (run_behind at.turns at.sent (at_peer_end at.left None false))
        (taken_took start.script before now.script old new lines s reads.taken reads.draws) at.took (all reads at.pending)
        (subst (λ (z : List Turn). Grew start.trace now.trace (text_of (entries_of z))) (sym (append-nil at.turns)) at.traced)
        (subst (λ (z : List ℕ). Grew start.to now.to z) (sym (append-nil at.sent)) at.wrote)
        (let at_most = at.counted in omega (arith, at_most)),
    ended_whole start.script before now.script old new lines s reads,
    record {
      front = at.octets;
      rest = at.pending;
      split = refl;
      within = at.within;
      same = λ more. all reads more ∙ sym (all reads at.pending);
    },
  )
    where
      all : (reads : ReadsLine old new before now.script (Ok false)) (others : List ℕ)
          → run_over over (taken_input start.script before now.script old new lines s reads.taken) (at.octets ++ others)
          ≡ run_behind at.turns at.sent (at_peer_end at.left None false)
      all reads others =
          ap (λ z. over z (at.octets ++ others)) (ended_lines start.script before now.script old new lines s reads)
          ∙ at.same reads.finds.0.passed others
          ∙ ap (λ (z : Script). run_behind at.turns at.sent (at_peer_end at.left z.refused (lines_follow (beats_of z.events))))
          (ap (λ z. script_from «end».Point said (length lines + 1) z) (sym (append-nil reads.finds.0.passed))
          ∙ script_behind «end».Point said reads.finds.0.passed reads.finds.0.each (length lines + 1) []
          ∙ script_none «end».Point said (length lines + 1 + length reads.finds.0.passed))
