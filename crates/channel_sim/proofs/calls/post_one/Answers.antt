use Rattle.channel_sim.proofs.CallsLemmas.{carries_no_send, no_send}
use Rattle.channel_sim.proofs.calls.post_one.Goals as goal

pub returns-in_default : goal.returns-in_default
returns-in_default c =
    λ floor clock ks h above.
    carries_no_send floor clock c.args.tick c.args.note.now (no_send c.args.note.now c.in_default.not-Send) c.args.calls.now ks h
