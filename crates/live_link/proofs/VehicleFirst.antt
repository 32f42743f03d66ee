-- The vehicle's end at the start of its script, at its first event line, and where there is none.
use Rattle.std.specs.Prelude.{ℕ, ◌≤◌, ◌+◌, List, [], ◌∷◌, ◌++◌, length, Option, None}
use Rattle.std.proofs.Common.{refl, sym, ap, subst, ◌∙◌, arith}
use Rattle.call_io.specs.Bytes.{Grew, GrewPartly}
use Rattle.call_io.proofs.BytesLemmas.{Grew-nothing, GrewPartly-nothing, Took-nothing}
use Rattle.line_input.specs.Reading.{Reading, first_reading}
use Rattle.line_input.proofs.LinesSoFar.{lines_first}
use Rattle.link_frames.specs.declared.frame.End.TheVariants as «end»
use Rattle.link_parts.specs.Messages.{script_end}
use Rattle.link_parts.specs.Rounds.{rounds_of}
use Rattle.msd_fit.specs.declared.facts.Facts.{Facts}
use Rattle.trace_model.specs.declared.event.Event.{Event}
use Rattle.trace_text.specs.Drafts.{DraftOf}
use Rattle.trace_text.specs.EntryLine.{text_of}
use Rattle.trace_text.specs.Script.{in_front}
use Rattle.trace_text.specs.declared.draft.Draft.{Draft}
use Rattle.trace_text.specs.declared.script.ScriptLine.TheVariants as line
use Rattle.live_link.specs.LiveOutcome.{LiveOutcome, LiveStreams, Over}
use Rattle.live_link.specs.Runs.{Run, at_script_end, beat_of}
use Rattle.live_link.specs.Scripts.{script_from, vehicle_over, vehicle_run}
use Rattle.live_link.specs.Turns.{entries_of}
use Rattle.live_link.specs.VehicleLive.{first_live}
use Rattle.live_link.specs.declared.answer.LiveStatus.{LiveStatus}
use Rattle.live_link.specs.declared.answer.LiveStatus.TheVariants as status
use Rattle.live_link.specs.declared.vehicle_run.VehicleSide.{VehicleSide}
use Rattle.live_link.specs.inner.Brought.{no_last}
use Rattle.live_link.specs.inner.FrontGoes.{FirstCame, FrontEnded, FrontOver}
use Rattle.live_link.specs.inner.Receiving.{StandsBehind}
use Rattle.live_link.specs.inner.VehicleEnd.{EndStandsFor}
use Rattle.live_link.specs.inner.VehicleGoes.{VehicleOver}
use Rattle.live_link.specs.inner.VehicleRun.{EndsScript}
use Rattle.live_link.proofs.OwnScript.{facts_kept}
use Rattle.live_link.proofs.ScriptEnds.{ran_all}

-- before anything was read
pub first_front : (start : LiveStreams) (draft : Draft) → DraftOf draft []
    → FrontOver vehicle_over start start first_reading draft
first_front start draft drafted =
    record {
      lines = [];
      told = [];
      so_far = lines_first start.script;
      drafted = drafted;
      still = record { trace = refl; from = refl; to = refl; passes = refl };
      same = λ more octets. refl;
    }

-- the first event line was read
pub first_over : (over : Over) (start now : LiveStreams) (side : VehicleSide) (reading : Reading) (facts : Facts)
    (event : Event) → FirstCame over start now reading facts event → EndStandsFor side.end (first_live facts)
    → ((from : Option (List ℕ)) → StandsBehind from from side.receiver [])
    → VehicleOver over start now side reading (beat_of event)
first_over over start now side reading facts event f stands behind =
    record {
      lines = f.lines;
      said = f.said;
      known = facts;
      so_far = f.so_far;
      facts = f.known;
      eventful = f.eventful;
      at =
          record {
            left = first_live facts;
            stands = stands;
            counted = let kept = f.still.passes in omega (arith, kept);
            brought =
                record {
                  octets = [];
                  turns = [];
                  sent = [];
                  stands = rw f.still.from (behind start.from);
                  traced = rw f.still.trace (Grew-nothing start.trace);
                  wrote = rw f.still.to (Grew-nothing start.to);
                  same = λ more others.
                      f.same more others
                      ∙ ap (λ known. vehicle_run known
                      (in_front (line.Event event) (script_from «end».Vehicle f.said (length f.lines + 1) more))
                      (rounds_of «end».Vehicle others))
                      (facts_kept f.said f.eventful more (length f.lines + 1) ∙ f.known);
                };
          };
    }

-- the script has none, and the octet that says so goes to the other end
module _ (over : Over) (start now : LiveStreams) (f : FrontEnded over start now) (to : Option (List ℕ)) where
  abbrev pub after : LiveStreams
  after = record now { to = to }

  front_done : Grew now.to to (script_end ∷ []) → LiveOutcome no_last over start after status.Done
  front_done wrote = (
    f.script,
    [],
    ran_all over start after f.script [] (at_script_end 0 (script_end ∷ []) None) f.took
        (rw f.still.from (Took-nothing start.from)) (f.same []) (rw f.still.trace (Grew-nothing start.trace))
        (subst (λ (z : Option (List ℕ)). Grew z to (script_end ∷ [])) f.still.to wrote)
        (let kept = f.still.passes in omega (arith, kept)),
    f.whole,
    record { front = []; rest = []; split = refl; within = omega arith; same = λ more. f.same more ∙ sym (f.same []) },
  )

  front_partly : GrewPartly now.to to (script_end ∷ []) → LiveOutcome no_last over start after status.WriteFault
  front_partly wrote = (
    f.script,
    [],
    record {
      took_script = f.took;
      took_octets = rw f.still.from (Took-nothing start.from);
      traced =
          subst (λ (z : Run). GrewPartly start.trace now.trace (text_of (entries_of z.turns) ++ [])) (sym (f.same []))
          (rw f.still.trace (GrewPartly-nothing start.trace []));
      sent =
          subst (λ (z : Run). GrewPartly start.to to z.octets) (sym (f.same []))
          (subst (λ (z : Option (List ℕ)). GrewPartly z to (script_end ∷ [])) f.still.to wrote);
      counted =
          subst (λ (z : Run). now.passes ≤ start.passes + z.rounds + 1) (sym (f.same []))
          (let kept = f.still.passes in omega (arith, kept));
    },
  )

  pub front_ends_script : (how : LiveStatus) → EndsScript now.to to how → LiveOutcome no_last over start after how
  front_ends_script status.Done h = front_done h
  front_ends_script status.WriteFault h = front_partly h
  front_ends_script (status.Refused bad) h = absurd h
  front_ends_script status.ReadFault h = absurd h
  front_ends_script status.Memory h = absurd h
  front_ends_script status.TooLong h = absurd h
  front_ends_script status.PeerEnded h = absurd h
  front_ends_script status.LinkCut h = absurd h
  front_ends_script (status.LinkFault f) h = absurd h
  front_ends_script status.NoLink h = absurd h
