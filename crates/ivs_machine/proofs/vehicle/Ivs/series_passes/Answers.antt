use Rattle.ivs_machine.proofs.SeriesPasses.{series_stands}
use Rattle.ivs_machine.proofs.vehicle.Ivs.series_passes.Goals as goal

pub returns : goal.returns
returns c =
    series_stands c.args.n c.min.result c.due.result c.args.self.now _ _ _ c.pass-turn.result
    c.requires.phase c.over.ensures.kept c.due.ensures.value c.min.ensures c.pass-turn.ensures.turn c.pass-turn.ensures.new
    (rw c.under_way-under_way.ensures at c.turns.ensures.items) c.turns.ensures.turned
