-- What `ecall relay` replies to a script with a relay desk: its trace, and then the refusal of the first line that is
-- refused; and how often it passes the ends at most. This project's profile. Cited by the contract of `play_relay`.
use Rattle.std.specs.Prelude.{ℕ, ◌+◌, List, [], ◌∷◌, ◌++◌, Option, Some, None, Ok, Err}
use Rattle.std.specs.Option.{option_map}
use Rattle.line_input.specs.Lines.{lines_of}
use Rattle.line_input.specs.declared.reason.BadLine.{BadLine}
use Rattle.trace_model.specs.declared.event.Event.{Event}
use Rattle.trace_text.specs.Facts.{facts_in}
use Rattle.trace_text.specs.Script.{Said, nothing_said}
use Rattle.trace_text.specs.declared.script.ScriptLine.TheVariants as script
use Rattle.channel_sim.specs.Lines.{passes_within}
use Rattle.command_base.specs.Refusals.{Reply}
use Rattle.script_stage.specs.ScriptTrace.{ended}
use Rattle.relay_text.specs.ItemLine.{RelayEntry, text_with_desk}
use Rattle.relay_text.specs.RelayLines.{judged_relay, said_behind}
use Rattle.relay_text.specs.declared.line.RelayLine.{RelayLine}
use Rattle.relay_text.specs.declared.line.RelayLine.TheVariants as line
use Rattle.relay_command.specs.Scenes.{Scene, SceneStep, event_step, first_scene, order_step}

-- the scene of a line: the one that the lines before left, or the first one, which knows the facts so far
abbrev pub scene_at : Said → Option Scene → Option Scene
scene_at said (Some s) = Some s
scene_at said None = option_map first_scene (facts_in said.facts)

-- What a line gives, and the scene behind it, where there is one.
pub record LineStep : Type 0 where
  pub items : List RelayEntry
  pub scene : Option Scene

abbrev pub no_step : Option Scene → LineStep
no_step o = record { items = []; scene = o }

abbrev pub in_scene : Option Scene → (Scene → SceneStep) → LineStep
in_scene None f = no_step None
in_scene (Some s) f = record { items = (f s).items; scene = Some (f s).scene }

-- what a line does where these facts and events were said before, and this scene was left
abbrev pub line_step : Said → Option Scene → RelayLine → LineStep
line_step said scene (line.Script (script.Fact f)) = no_step scene
line_step said scene (line.Script (script.Event e)) = in_scene (scene_at said scene) (λ s. event_step s e)
line_step said scene (line.Order o) = in_scene (scene_at said scene) (λ s. order_step s o)

-- how often a line passes the ends at most
abbrev pub passes_in_scene : Option Scene → Event → ℕ
passes_in_scene None e = 0
passes_in_scene (Some s) e = passes_within s.world e

abbrev pub line_passes : Said → Option Scene → RelayLine → ℕ
line_passes said scene (line.Script (script.Fact f)) = 0
line_passes said scene (line.Script (script.Event e)) = passes_in_scene (scene_at said scene) e
line_passes said scene (line.Order o) = 0

-- the trace of lines, up to the first that is refused
unfoldable pub trace_from : Said → Option Scene → List (List ℕ) → List RelayEntry
trace_from said scene [] = []
trace_from said scene (text ∷ texts) = elim (judged_relay said text) [
  | Ok None ↦ trace_from said scene texts
  | Ok (Some says) ↦
      (line_step said scene says).items ++ trace_from (said_behind said says) (line_step said scene says).scene texts
  | Err why ↦ []
]

-- the first of these lines, from a number on, that is refused
unfoldable pub refused_from : Said → ℕ → List (List ℕ) → Option BadLine
refused_from said number [] = None
refused_from said number (text ∷ texts) = elim (judged_relay said text) [
  | Ok None ↦ refused_from said (number + 1) texts
  | Ok (Some says) ↦ refused_from (said_behind said says) (number + 1) texts
  | Err why ↦ Some (record { line = number; reason = why })
]

-- how often these lines pass the ends at most: as their world does, since the desk's clock stands beside it
unfoldable pub passes_from : Said → Option Scene → List (List ℕ) → ℕ
passes_from said scene [] = 0
passes_from said scene (text ∷ texts) = elim (judged_relay said text) [
  | Ok None ↦ passes_from said scene texts
  | Ok (Some says) ↦
      line_passes said scene says + passes_from (said_behind said says) (line_step said scene says).scene texts
  | Err why ↦ 0
]

-- the trace of an input
abbrev pub relay_trace : List ℕ → List RelayEntry
relay_trace input = trace_from nothing_said None (lines_of input)

-- the reply of `relay` to an input
abbrev pub relay_reply : List ℕ → Reply
relay_reply input = ended (text_with_desk (relay_trace input)) (refused_from nothing_said 1 (lines_of input))

-- how often it passes the ends at most
abbrev pub relay_passes : List ℕ → ℕ
relay_passes input = passes_from nothing_said None (lines_of input)
