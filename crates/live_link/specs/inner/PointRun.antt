-- Where the run of the point's end may go on. Cited by private contracts alone.
use Rattle.link_parts.specs.PartReading.{IsGoing}
use Rattle.live_link.specs.PointLive.{LivePoint}
use Rattle.live_link.specs.declared.point_end.PointEnd.{PointEnd}
use Rattle.live_link.specs.declared.point_run.PointSide.{PointSide}
use Rattle.live_link.specs.declared.receiver.Came.{Came}
use Rattle.live_link.specs.declared.receiver.Came.TheVariants as came
use Rattle.live_link.specs.inner.PointEnd.{PointStandsFor}

-- the point's end stands for one of the definition
abbrev pub Stands : PointEnd → Type 0
Stands e = (s : LivePoint) × PointStandsFor e s

-- a round may follow
pub record IsReady (side : PointSide) : Type 0 where
  pub stands : Stands side.end
  pub going : IsGoing side.receiver.reader.reader

-- behind the end of the vehicle's script none does
abbrev pub MayGoOn : Came → PointSide → Type 0
MayGoOn came.Message side = IsReady side
MayGoOn came.ScriptEnd side = Unit {0}
