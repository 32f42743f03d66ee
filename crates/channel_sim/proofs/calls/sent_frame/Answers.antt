use Rattle.std.proofs.Common.{List, refl, ap, sym, ◌∙◌, slice_get}
use Rattle.std.specs.Option.{option_map}
use Rattle.trace_model.specs.History.{Sent}
use Rattle.channel_sim.specs.Lines as lines
use Rattle.channel_sim.proofs.CallsLemmas.{found_at}
use Rattle.channel_sim.proofs.ChangeLemmas.{sent_at, no_call_of}
use Rattle.channel_sim.proofs.calls.sent_frame.Goals as goal

pub returns-in-Some : goal.returns-in-Some
returns-in-Some c =
    λ floor clock ks h above.
    let xs = c.args.calls.now.items in
    let place = found_at floor clock c.args.number xs xs ks _ refl c.in-Some.ensures.place h above in
    let sent = sent_at floor clock c.args.number xs ks c.in-Some.i c.index.result.now h place in
    c.frame.ensures ∙ ap (λ (ss : List Sent). option_map (λ s. s.frame) (slice_get ss c.args.place)) (ap (λ k. k.down) c.index.ensures ∙ sym sent.1)

pub returns-in-None : goal.returns-in-None
returns-in-None c =
    λ floor clock ks h above.
    let xs = c.args.calls.now.items in
    let place = found_at floor clock c.args.number xs xs ks _ refl c.in-None.ensures.place h above in
    ap (λ (ss : List Sent). option_map (λ s. s.frame) (slice_get ss c.args.place)) (sym (ap lines.sent_down (no_call_of c.args.number ks place)))
