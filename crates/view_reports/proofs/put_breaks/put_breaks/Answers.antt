use Rattle.view_reports.proofs.BreaksLemmas.{one_more}
use Rattle.view_reports.proofs.put_breaks.put_breaks.Goals as goal

pub loop-broken-preserved : goal.loop-broken-preserved
loop-broken-preserved c =
    let both = one_more c.args.manner.now c.args.line c.args.tick c.loop-broken.broken-index c.args.breaks.now _
    c.args.text.now.items c.loop-broken.text.items c.put_break.new.text.items c.loop-broken.any c.in_ok-any.field-0
    c.loop-broken-test.true c.loop-broken.invariant.text c.loop-broken.invariant.any c.in_ok-any.ensures in
    record { text = both.0; any = both.1 }
