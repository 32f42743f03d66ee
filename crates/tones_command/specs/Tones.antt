-- What `ecall tones` replies to a script: what `run` replies to the lines that are left of it, where `deliver` lines
-- hand frames over through a noisy modem, and those whose frames are lost to the noise are left out. This project's
-- profile. Cited by the reply to words and an input, and by the laws of this crate.
use Rattle.std.specs.Prelude.{ℕ, ◌-◌, true, false, List, [], ◌∷◌, ◌++◌, Option, Some, None, slice_get, if◌then◌else◌}
use Rattle.std.specs.Option.{option_map}
use Rattle.link_frames.specs.declared.frame.End.TheVariants as «end»
use Rattle.link_frames.specs.declared.frame.Frame.{Frame}
use Rattle.msd_fit.specs.declared.facts.Facts.{Facts}
use Rattle.trace_model.specs.History.{Sent, sent_by}
use Rattle.trace_model.specs.declared.entry.Entry.{Entry}
use Rattle.trace_model.specs.declared.event.Event.{Event}
use Rattle.trace_model.specs.declared.event.Event.TheVariants as event
use Rattle.trace_text.specs.EntryLine.{text_of}
use Rattle.trace_text.specs.Script.{Script, script_of}
use Rattle.command_base.specs.Refusals.{Reply}
use Rattle.script_stage.specs.ScriptTrace.{ended, played, script_passes, script_trace}
use Rattle.tones_command.specs.Modem.{NoiseFrom, behind_frame, is_lost}

-- the k-th of the frames sent, from 1
abbrev pub nth_frame : ℕ → List Sent → Option Frame
nth_frame k sent = option_map (λ s. s.frame) (slice_get sent (k - 1))

-- The frame that a line has the modem carry, where these entries stand so far: of a `deliver` line the k-th that was
-- sent in that call and direction, if it was, whether or not a leg of that call is still up. No other line has one.
abbrev pub carried_for : List Entry → Event → Option Frame
carried_for entries (event.Deliver true c k) = nth_frame k (sent_by «end».Vehicle c entries)
carried_for entries (event.Deliver false c k) = nth_frame k (sent_by «end».Point c entries)
carried_for entries _ = None

-- The events so far that are left, and where x stands behind the draws so far.
pub record Toning : Type 0 where
  pub x : ℕ
  pub kept : List Event

-- behind an event that has the modem carry this frame, or none
abbrev pub behind_carried : (most : ℕ) → Toning → Event → Option Frame → Toning
behind_carried most t e None = record { x = t.x; kept = t.kept ++ e ∷ [] }
behind_carried most t e (Some frame) =
    record {
      x = behind_frame t.x frame;
      kept = if is_lost most t.x frame then t.kept else t.kept ++ e ∷ [];
    }

-- behind one more event; the trace so far is that of the events that are left
abbrev pub behind_event : (most : ℕ) → Option Facts → Toning → Event → Toning
behind_event most known t e = behind_carried most t e (carried_for (played known t.kept) e)

abbrev pub behind_events : (most : ℕ) → Option Facts → Toning → List Event → Toning
behind_events most known t [] = t
behind_events most known t (e ∷ es) = behind_events most known (behind_event most known t e) es

-- before any event
abbrev pub nothing_carried : NoiseFrom → Toning
nothing_carried noise = record { x = noise.number; kept = [] }

-- the script without the lines that are lost
abbrev pub toned : NoiseFrom → Script → Script
toned noise script =
    record script { events = (behind_events noise.most script.facts (nothing_carried noise) script.events).kept }

-- the script of an input without the lines that are lost
abbrev pub toned_script : NoiseFrom → List ℕ → Script
toned_script noise input = toned noise (script_of input)

-- the reply of `tones` to an input
abbrev pub tones_reply : NoiseFrom → List ℕ → Reply
tones_reply noise input =
    ended (text_of (script_trace (toned_script noise input))) (toned_script noise input).refused

-- how often the ends are passed at most for an input
abbrev pub tones_passes : NoiseFrom → List ℕ → ℕ
tones_passes noise input = script_passes (toned_script noise input)
