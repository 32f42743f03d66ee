use Rattle.std.proofs.Common.{◌≡◌, ◌+◌, [], ◌∷◌, ◌++◌, take, map, ap, sym, ◌∙◌, subst}
use Rattle.trace_model.specs.History.{told}
use Rattle.channel_sim.specs.World.{carries}
use Rattle.channel_sim.specs.Lag.{CallsLag}
use Rattle.channel_sim.specs.Tidy.{AreAbove}
use Rattle.channel_sim.proofs.CallsLemmas.{all_carry, carried_numbers, carries_none}
use Rattle.trace_fit.proofs.TellingLemmas.{told-take_more}
use Rattle.channel_sim.proofs.calls.post.Goals as goal

pub loop-note-init : goal.loop-note-init
loop-note-init c = λ floor clock ks h above. subst (CallsLag floor clock c.args.calls.now) (sym (carries_none ks)) h

pub loop-note-preserved : goal.loop-note-preserved
loop-note-preserved c =
    λ floor clock ks h above.
    let front = told c.args.tick (take c.loop-note.note-index c.args.items.now) in
    let one = told c.args.tick (c.note-item.result ∷ []) in
    let more : told c.args.tick (take (c.loop-note.note-index + 1) c.args.items.now) ≡ front ++ one =
    told-take_more c.args.tick c.args.items.now c.loop-note.note-index c.note-item.result c.loop-note-test.true c.note-item.is in
    subst (CallsLag floor clock c.post_one.new.calls) (sym (ap (λ es. map (carries es) ks) more ∙ all_carry front one ks))
    (c.in_ok-post_one.ensures floor clock (map (carries front) ks) (c.loop-note.invariant floor clock ks h above) (subst (AreAbove 0) (sym (carried_numbers front ks)) above))
