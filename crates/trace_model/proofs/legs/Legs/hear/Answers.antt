use Rattle.std.specs.Prelude.{Option, nat_eq}
use Rattle.std.specs.HashMap.{get}
use Rattle.std.proofs.Common.{ap, sym, ◌∙◌}
use Rattle.trace_model.specs.LegsMoved.{changed, voice_behind}
use Rattle.trace_model.specs.LegsStand.{voice_at}
use Rattle.trace_model.specs.declared.voice.Voice.{Voice}
use Rattle.trace_model.proofs.LegsHeard.{legs_heard}
use Rattle.trace_model.proofs.LegsLemmas.{is_put, lowered, on_map}
use Rattle.trace_model.proofs.legs.Legs.hear.Goals as goal

pub returns-in-None-clause-keeps : goal.returns-in-None-clause-keeps
returns-in-None-clause-keeps c =
    λ before le h.
    lowered c.args.self.now c.lower.new.self c.args.call before c.args.now le c.lower.ensures.muted
    c.lower.ensures.voices h

pub returns-in-None-clause-stands : goal.returns-in-None-clause-stands
returns-in-None-clause-stands c =
    λ e before moves le h.
    legs_heard e c.args.self.now c.lower.new.self before (record { tick = c.args.now; note = c.args.note.now })
    c.args.call moves
    (λ q. c.lower.ensures.voices q
    ∙ ap (λ (v : Option Voice). changed (voice_at c.args.self.now) c.args.call v q)
    (sym (ap (λ (o : Option Voice). voice_behind o c.args.note.now c.args.now) (sym c.voice-before.ensures)
    ∙ (sym c.behind.ensures ∙ c.in-None.is))))
    (lowered c.args.self.now c.lower.new.self c.args.call _ c.args.now le c.lower.ensures.muted
    c.lower.ensures.voices h.keeps)
    h

pub returns-in_ok-put-in-Some-clause-keeps : goal.returns-in_ok-put-in-Some-clause-keeps
returns-in_ok-put-in-Some-clause-keeps c =
    λ before le h.
    on_map c.note_muting.result _ _
    (is_put c.args.self.now c.put.new.self c.note_muting.new.self c.args.call before c.args.now c.voice-before.result
    c.args.note.now c.in-Some.voice le c.voice-before.ensures (sym c.behind.ensures ∙ c.in-Some.is)
    c.in_ok-put-in-Some.ensures.voices c.put.ensures.muted c.note_muting.ensures.up h)
    c.note_muting.ensures.muted

pub returns-in_ok-put-in-Some-clause-stands : goal.returns-in_ok-put-in-Some-clause-stands
returns-in_ok-put-in-Some-clause-stands c =
    λ e before moves le h.
    on_map c.note_muting.result _ _
    (λ noted.
    legs_heard e c.args.self.now c.note_muting.new.self before (record { tick = c.args.now; note = c.args.note.now })
    c.args.call moves
    (λ q. ap (λ u. get nat_eq u q) c.note_muting.ensures.up
    ∙ (c.in_ok-put-in-Some.ensures.voices q
    ∙ ap (λ (v : Option Voice). changed (voice_at c.args.self.now) c.args.call v q)
    (sym (ap (λ (o : Option Voice). voice_behind o c.args.note.now c.args.now) (sym c.voice-before.ensures)
    ∙ (sym c.behind.ensures ∙ c.in-Some.is)))))
    (is_put c.args.self.now c.put.new.self c.note_muting.new.self c.args.call _ c.args.now c.voice-before.result
    c.args.note.now c.in-Some.voice le c.voice-before.ensures (sym c.behind.ensures ∙ c.in-Some.is)
    c.in_ok-put-in-Some.ensures.voices c.put.ensures.muted c.note_muting.ensures.up h.keeps noted)
    h)
    c.note_muting.ensures.muted
