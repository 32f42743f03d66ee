use Rattle.std.proofs.Common.{rules, ◌≡◌, List, [], refl, sym, subst}
use Rattle.call_floor.specs.declared.live.Live as kept_live
use Rattle.call_floor.specs.declared.seat.Seat as kept_seat
use Rattle.call_floor.specs.Floor.{floor_with}
use Rattle.call_floor.specs.FloorStands.{AreLive, SeatsStandFor}
use Rattle.call_floor.proofs.FloorRuns.{none_kept}
use Rattle.call_floor.proofs.floor.Floor.new.Goals as goal

pub returns-clause-stands : goal.returns-clause-stands
returns-clause-stands c =
    let drawn : c.new.result.items ≡ [] = search rules in
    let seats : c.new-2.result.items ≡ [] = search rules in
    let live : c.new-3.result.items ≡ [] = search rules in
    record {
      tick = refl;
      drawn = sym drawn;
      last = refl;
      seats = subst (λ (xs : List kept_seat.Seat). SeatsStandFor (floor_with []) xs []) (sym seats) tt;
      live = subst (λ (ls : List kept_live.Live). AreLive [] 1 [] ls) (sym live) tt;
      floor = none_kept;
    }
