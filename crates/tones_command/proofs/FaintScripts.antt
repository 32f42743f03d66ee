-- With faint noise nothing of a script is lost.
use Rattle.std.proofs.Common.{◌≡◌, ℕ, ◌≤◌, cond, List, [], ◌∷◌, ◌++◌, Option, Some, None, refl, ap, sym, ◌∙◌, append_assoc}
use Rattle.std.proofs.lemmas.List.{append-nil}
use Rattle.link_frames.specs.declared.frame.Frame.{Frame}
use Rattle.msd_fit.specs.declared.facts.Facts.{Facts}
use Rattle.trace_model.specs.declared.event.Event.{Event}
use Rattle.trace_text.specs.EntryLine.{text_of}
use Rattle.trace_text.specs.Script.{Script, script_of}
use Rattle.script_stage.specs.ScriptTrace.{ended, played, script_trace}
use Rattle.tones_command.specs.Modem.{NoiseFrom}
use Rattle.tones_command.specs.Tones.{Toning, behind_carried, behind_event, behind_events, carried_for, nothing_carried, toned, toned_script, tones_reply}
use Rattle.tones_command.proofs.LostFrames.{faint_kept}

carried_left : (most : ℕ) (t : Toning) (e : Event) (o : Option Frame) → most ≤ 500
    → (behind_carried most t e o).kept ≡ t.kept ++ e ∷ []
carried_left most t e None le = refl
carried_left most t e (Some frame) le = ap (λ b. cond b t.kept (t.kept ++ e ∷ [])) (faint_kept most t.x frame le)

events_left : (most : ℕ) (known : Option Facts) (t : Toning) (es : List Event) → most ≤ 500
    → (behind_events most known t es).kept ≡ t.kept ++ es
events_left most known t [] le = sym (append-nil t.kept)
events_left most known t (e ∷ es) le =
    events_left most known (behind_event most known t e) es le
    ∙ ap (λ l. l ++ es) (carried_left most t e (carried_for (played known t.kept) e) le)
    ∙ append_assoc t.kept (e ∷ []) es

whole_script : (noise : NoiseFrom) (script : Script) → noise.most ≤ 500 → toned noise script ≡ script
whole_script noise script le =
    ap (λ es. record script { events = es })
    (events_left noise.most script.facts (nothing_carried noise) script.events le)

pub faint_script : (noise : NoiseFrom) (input : List ℕ) → noise.most ≤ 500 → toned_script noise input ≡ script_of input
faint_script noise input le = whole_script noise (script_of input) le

pub faint_reply : (noise : NoiseFrom) (input : List ℕ) → noise.most ≤ 500
    → tones_reply noise input ≡ ended (text_of (script_trace (script_of input))) (script_of input).refused
faint_reply noise input le = ap (λ s. ended (text_of (script_trace s)) s.refused) (faint_script noise input le)
