use Rattle.std.proofs.Common.{refl}
use Rattle.std.proofs.lemmas.Result.{err_from_is_err_and}
use Rattle.script_stage.specs.Stage.{ticks_in}
use Rattle.relay_command.proofs.TellScripts.{script_cut, script_ok}
use Rattle.relay_command.proofs.play.tell_script.Goals as goal

pub returns-clause-tells : goal.returns-clause-tells
returns-clause-tells g c = λ seen stands.
    script_ok seen c.args.stage.now c.watch_script.new.stage c.args.desk.now c.watch_script.new.desk c.reach.new.desk
    (g.O.Sink.held c.args.output.now) (g.O.Sink.held c.watch_script.new.output) (g.O.Sink.held c.reach.new.output)
    c.args.moments.now c.watch_script.new.moments c.tick.result stands c.tick.ensures c.args.says.now
    (c.in_ok-watch_script.ensures.obeys seen.said seen.events stands.stage_stands) c.reach.result
    (c.reach.ensures.ok, c.reach.ensures.err, c.reach.ensures.sim)

pub returns-in_err-watch_script-clause-tells : goal.returns-in_err-watch_script-clause-tells
returns-in_err-watch_script-clause-tells g c = λ seen stands.
    let p = err_from_is_err_and c.from_residual.result c.from_residual.ensures.1 in
    rw (p.1, p.2)
    (script_cut seen c.args.stage.now c.watch_script.new.stage c.args.desk.now c.watch_script.new.desk
    c.watch_script.new.desk (g.O.Sink.held c.args.output.now) (g.O.Sink.held c.watch_script.new.output)
    (g.O.Sink.held c.watch_script.new.output) c.args.moments.now c.watch_script.new.moments
    (ticks_in c.watch_script.new.stage) stands refl c.args.says.now c.in_err-watch_script.field-0.0
    (c.in_err-watch_script.ensures.obeys seen.said seen.events stands.stage_stands))
