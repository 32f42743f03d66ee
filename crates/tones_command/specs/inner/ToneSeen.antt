-- What `tones` has come to behind some lines of its script, and what it replies to the others. Cited by that command.
use Rattle.std.specs.Prelude.{◌≡◌, ℕ, ◌-◌, ◌≤◌, List, Option, None}
use Rattle.link_frames.specs.declared.frame.Frame.{Frame}
use Rattle.trace_model.specs.declared.entry.Entry.{Entry}
use Rattle.trace_text.specs.EntryLine.{text_of}
use Rattle.trace_text.specs.Facts.{facts_in}
use Rattle.trace_text.specs.Script.{Said, Script, said_after, script_from}
use Rattle.trace_text.specs.declared.script.ScriptLine.{ScriptLine}
use Rattle.trace_text.specs.declared.script.ScriptLine.TheVariants as line
use Rattle.command_base.specs.Refusals.{Reply, in_front_of}
use Rattle.script_stage.specs.ScriptSeen.{IsTidy}
use Rattle.script_stage.specs.ScriptTrace.{ended, most_passes, played, script_passes, script_trace}
use Rattle.script_stage.specs.Stage.{IsEarly, StageStandsFor}
use Rattle.script_stage.specs.declared.stage.Stage.{Stage}
use Rattle.tones_command.specs.Modem.{most_noise}
use Rattle.tones_command.specs.Tones.{Toning, behind_event, behind_events, carried_for}
use Rattle.tones_command.specs.declared.modem.Modem.{Modem}
use Rattle.tones_command.specs.declared.sent.SentFrames.{SentFrames}
use Rattle.tones_command.specs.inner.Hearing.{FramesStandFor}

-- How far a sample is moved at most, what the lines so far said, and what the modem made of their events.
pub record ToneSeen : Type 0 where
  pub most : ℕ
  pub said : Said
  pub toning : Toning

-- the trace of the lines so far
abbrev pub trace_so_far : ToneSeen → List Entry
trace_so_far seen = played (facts_in seen.said.facts) seen.toning.kept

-- the frame that a line has the modem carry
abbrev pub line_carries : ToneSeen → ScriptLine → Option Frame
line_carries seen (line.Fact f) = None
line_carries seen (line.Event e) = carried_for (trace_so_far seen) e

-- what the modem makes of one more line
abbrev pub toning_behind : ToneSeen → ScriptLine → Toning
toning_behind seen (line.Fact f) = seen.toning
toning_behind seen (line.Event e) = behind_event seen.most (facts_in seen.said.facts) seen.toning e

-- behind one more line
abbrev pub seen_behind : ToneSeen → ScriptLine → ToneSeen
seen_behind seen says =
    record { most = seen.most; said = said_after seen.said says; toning = toning_behind seen says }

-- a script without the lines that are lost, behind what the modem made of others
abbrev pub left_of : (most : ℕ) → Toning → Script → Script
left_of most t script = record script { events = (behind_events most script.facts t script.events).kept }

-- the script of the lines so far and of these
abbrev pub toned_behind : ToneSeen → ℕ → List (List ℕ) → Script
toned_behind seen number texts = left_of seen.most seen.toning (script_from seen.said number texts)

abbrev pub script_reply : Script → Reply
script_reply script = ended (text_of (script_trace script)) script.refused

-- the reply to lines behind what was said: what stands behind the text so far in the reply to all
abbrev pub TonesFrom : ToneSeen → ℕ → List (List ℕ) → Reply → Type 0
TonesFrom seen number texts r =
    in_front_of (text_of (trace_so_far seen)) r ≡ script_reply (toned_behind seen number texts)

-- how often the lines so far pass the ends at most, and how often the others do
abbrev pub passes_so_far : ToneSeen → ℕ
passes_so_far seen = most_passes (facts_in seen.said.facts) seen.toning.kept

abbrev pub tones_passes_from : ToneSeen → ℕ → List (List ℕ) → ℕ
tones_passes_from seen number texts = script_passes (toned_behind seen number texts) - passes_so_far seen

-- The stage stands for what the lines said and the events that are left, the frames kept for those sent in the trace so
-- far, and the modem's draws stand behind those of the frames that it carried.
pub record IsReady (seen : ToneSeen) (stage : Stage) (frames : SentFrames) (modem : Modem) : Type 0 where
  pub stage_stands : StageStandsFor stage seen.said seen.toning.kept
  pub frames_stand : FramesStandFor frames (trace_so_far seen)
  pub most : modem.most ≡ seen.most
  pub draws : modem.x ≡ seen.toning.x

-- So it is behind so many lines.
pub record TonesStand (before : ℕ) (seen : ToneSeen) (stage : Stage) (frames : SentFrames) (modem : Modem) : Type 0
  where
    pub ready : IsReady seen stage frames modem
    pub bound : modem.most ≤ most_noise
    pub early : IsEarly stage before
    pub tidy : IsTidy seen.said seen.toning.kept
