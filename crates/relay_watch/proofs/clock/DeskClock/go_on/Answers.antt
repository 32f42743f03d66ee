use Rattle.std.proofs.Common.{refl}
use Rattle.relay_desk.specs.RelayStands.{desk_of}
use Rattle.relay_watch.proofs.ClockLemmas.{go_err, go_ok, nearer_none, none_pending}
use Rattle.relay_watch.proofs.clock.DeskClock.go_on.Goals as goal

pub returns-in-None-clause-ok : goal.returns-in-None-clause-ok
returns-in-None-clause-ok g c =
    nearer_none c.args.self.now (record { relay = c.args.self.now.relay; tick = c.args.target }) c.args.target
    (g.O.Sink.held c.args.out.now) c.requires (none_pending _ (desk_of c.args.self.now.relay) c.in-None.is c.due.ensures.none)
    c.in-None.ensures.next refl

pub returns-in-Some-clause-ok : goal.returns-in-Some-clause-ok
returns-in-Some-clause-ok g c =
    go_ok c.args.self.now c.act.new.self c.args.target c.at_most-units.result c.in-Some.due c.from.result
    (g.O.Sink.held c.args.out.now) (g.O.Sink.held c.act.new.out) c.requires c.in-Some.ensures.next
    c.at_most-units.ensures.due c.at_most-units.ensures.left c.at_most-units.ensures.some c.from.ensures c.act.result
    c.act.ensures.ok

pub returns-in-Some-clause-err : goal.returns-in-Some-clause-err
returns-in-Some-clause-err g c =
    go_err c.args.self.now c.args.target c.at_most-units.result c.in-Some.due c.from.result
    (g.O.Sink.held c.args.out.now) (g.O.Sink.held c.act.new.out) c.in-Some.ensures.next
    c.at_most-units.ensures.due c.at_most-units.ensures.left c.from.ensures c.act.result c.act.ensures.err
