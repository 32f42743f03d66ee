use Rattle.std.specs.Prelude.{[]}
use Rattle.live_link.proofs.point_end.PointEnd.line.Goals as goal

pub returns-then-self-clause-err : goal.returns-then-self-clause-err
returns-then-self-clause-err g c =
    λ s e. g.met.H.Listener.longer _ _ [] _ (g.met.H.Listener.whole _ _ [] (g.met.H.Listener.unchanged _))
