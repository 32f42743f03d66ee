use Rattle.std.proofs.Common.{◌≡◌, ◌<◌, get_or, length, map, ap, sym, ◌∙◌, subst, refl}
use Rattle.std.proofs.Math.ListN.{set}
use Rattle.trace_model.specs.History.{Sent}
use Rattle.channel_sim.specs.World.{carries}
use Rattle.channel_sim.specs.inner.Acts.{pushed}
use Rattle.channel_sim.specs.inner.Beside.{CallsStand}
use Rattle.channel_sim.specs.inner.Sendings.{IsNoted}
use Rattle.channel_sim.specs.Lag.{CallsLag}
use Rattle.channel_sim.proofs.BesideLemmas.{found_number, noted_of, stand_either, stand_noted}
use Rattle.channel_sim.proofs.CallsLemmas.{found_at, posted_at, posted_elsewhere, one_sent, on_ok, on_err}
use Rattle.channel_sim.proofs.calls.post_frame.Goals as goal
use Rattle.channel_sim.proofs.calls.post_frame.Goals.{in-Vehicle+in_ok-note-in-Vehicle, in-Point+in_ok-note-in-Point}

pub invariant_of-calls : goal.invariant_of-calls
invariant_of-calls c =
    stand_noted c.calls.inside.turns c.calls.inside.up c.calls.inside.down c.note.new.self c.calls.inside.down c.calls.inside.list.items
    c.note.ensures.kept (λ d n h. h) c.calls.invariant

pub invariant_of-calls-in_err-note-in-Point : goal.invariant_of-calls-in_err-note-in-Point
invariant_of-calls-in_err-note-in-Point c =
    stand_noted c.calls.inside.turns c.calls.inside.up c.calls.inside.down c.calls.inside.up c.note-in-Point.new.self c.calls.inside.list.items
    (λ d n h. h) c.note-in-Point.ensures.kept c.calls.invariant

pub invariant_of-calls-in-Some : goal.invariant_of-calls-in-Some
invariant_of-calls-in-Some c =
    let xs = c.calls.inside.list.items in
    let now = c.match-end.calls-inside in
    let i = c.in-Some.i in
    let d = c.index_mut.result.now in
    let frame = c.args.frame.now in
    let inside : i < length xs = c.in-Some.ensures.within in
    let number = found_number c.args.number xs xs c.find.result i d refl c.calls.invariant.numbers c.find.ensures.place c.in-Some.is inside in
    let list : now.list.items ≡ xs = elim c.match-end.branch [ in-Vehicle+in_ok-note-in-Vehicle w ↦ ap (λ z. z.list.items) w.calls-inside-is | in-Point+in_ok-note-in-Point w ↦ ap (λ z. z.list.items) w.calls-inside-is ] in
    let stands : CallsStand now.turns now.up now.down xs =
    elim c.match-end.branch [
      | in-Vehicle+in_ok-note-in-Vehicle w ↦
          subst (λ z. CallsStand z.turns z.up z.down xs) (sym w.calls-inside-is)
          (stand_noted c.calls.inside.turns c.calls.inside.up c.calls.inside.down w.note.new.self c.calls.inside.down xs w.note.ensures.kept (λ e n h. h) c.calls.invariant)
      | in-Point+in_ok-note-in-Point w ↦
          subst (λ z. CallsStand z.turns z.up z.down xs) (sym w.calls-inside-is)
          (stand_noted c.calls.inside.turns c.calls.inside.up c.calls.inside.down c.calls.inside.up w.note-in-Point.new.self xs (λ e n h. h) w.note-in-Point.ensures.kept c.calls.invariant)
    ] in
    let noted : IsNoted c.args.number c.args.tick (noted_of c.args.end now.up now.down) =
    elim c.match-end.branch [
      | in-Vehicle+in_ok-note-in-Vehicle w ↦
          subst (λ e. IsNoted c.args.number c.args.tick (noted_of e now.up now.down)) (sym w.in-Vehicle.is)
          (subst (λ z. IsNoted c.args.number c.args.tick z.up) (sym w.calls-inside-is) w.in_ok-note-in-Vehicle.ensures.noted)
      | in-Point+in_ok-note-in-Point w ↦
          subst (λ e. IsNoted c.args.number c.args.tick (noted_of e now.up now.down)) (sym w.in-Point.is)
          (subst (λ z. IsNoted c.args.number c.args.tick z.down) (sym w.calls-inside-is) w.in_ok-note-in-Point.ensures.noted)
    ] in
    let value : d ≡ get_or xs i d = c.index_mut.ensures.value ∙ ap (λ zs. get_or zs i d) list in
    let sent : Sent = record { tick = c.args.tick; frame = frame } in
    subst (λ zs. CallsStand now.turns now.up now.down (set zs i c.push.new.self)) (sym list)
    (stand_either c.push.result now.turns now.up now.down xs i d c.push.new.self c.args.end c.args.tick frame
    (on_ok c.push.result (λ same. same ∙ ap (pushed c.args.end sent) value) c.push.ensures.ok)
    (on_err c.push.result (λ same. same ∙ value) c.push.ensures.err)
    (subst (λ n. IsNoted n c.args.tick (noted_of c.args.end now.up now.down)) (sym number) noted) stands)

pub returns-after-end : goal.returns-after-end
returns-after-end c =
    rw (← c.calls.view_is) (
    λ floor clock ks h above.
    let xs = c.calls.inside.list.items in
    let now = c.match-end.calls-inside in
    let i = c.in-Some.i in
    let list : now.list.items ≡ xs = elim c.match-end.branch [ in-Vehicle+in_ok-note-in-Vehicle w ↦ ap (λ z. z.list.items) w.calls-inside-is | in-Point+in_ok-note-in-Point w ↦ ap (λ z. z.list.items) w.calls-inside-is ] in
    let place = found_at floor clock c.args.number xs xs ks _ refl c.in-Some.ensures.place h above in
    let sent : Sent = record { tick = c.args.tick; frame = c.args.frame.now } in
    let value = c.index_mut.ensures.value ∙ ap (λ zs. get_or zs i c.index_mut.result.now) list in
    on_ok c.push.result
    (λ same. subst (λ x. CallsLag floor clock (set now.list.items i x) (map (carries (one_sent c.args.tick c.args.end c.args.number c.args.frame.now)) ks))
    (sym (same ∙ ap (pushed c.args.end sent) value))
    (subst (λ zs. CallsLag floor clock (set zs i (pushed c.args.end sent (get_or xs i c.index_mut.result.now))) (map (carries (one_sent c.args.tick c.args.end c.args.number c.args.frame.now)) ks)) (sym list)
    (posted_at floor clock 0 c.args.tick c.args.number c.args.end c.args.frame.now xs ks i c.index_mut.result.now h above place)))
    c.push.ensures.ok
    )

pub returns-in-None : goal.returns-in-None
returns-in-None c =
    rw (← c.calls.view_is) (
    λ floor clock ks h above.
    let place = found_at floor clock c.args.number c.calls.inside.list.items c.calls.inside.list.items ks _ refl c.in-None.ensures.place h above in
    posted_elsewhere floor clock c.args.tick c.args.number c.args.end c.args.frame.now c.calls.inside.list.items ks h place
    )
