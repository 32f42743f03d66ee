-- Between lines: what a floor that is kept stands for, as its private functions say it and as its public ones do.
use Rattle.std.proofs.Common.{ℕ, List, [], ◌∷◌}
use Rattle.call_floor.specs.declared.floor.Floor as kept_floor
use Rattle.call_floor.specs.declared.live.Live as kept_live
use Rattle.call_floor.specs.declared.seat.Seat as kept_seat
use Rattle.call_floor.specs.Floor.{Floor, Stand}
use Rattle.call_floor.specs.FloorKept.{IsKept}
use Rattle.call_floor.specs.FloorStands.{AreLive, FloorStandsFor, SeatStandsFor, SeatsStandFor}
use Rattle.call_floor.specs.inner.FloorAt.{FloorNow, Now, SeatIs, SeatsAre}

seats_now : (w : Floor) (xs : List kept_seat.Seat) (ss : List Stand) → SeatsStandFor w xs ss → SeatsAre Now w xs ss
seats_now w [] [] h = tt
seats_now w [] (s ∷ ss) h = absurd h
seats_now w (x ∷ xs) [] h = absurd h
seats_now w (x ∷ xs) (s ∷ ss) h =
    let one : SeatStandsFor w x s = h.0 in
    (record { number = one.number; world = one.world }, seats_now w xs ss h.1)

now_seats : (w : Floor) (xs : List kept_seat.Seat) (ss : List Stand) → SeatsAre Now w xs ss → SeatsStandFor w xs ss
now_seats w [] [] h = tt
now_seats w [] (s ∷ ss) h = absurd h
now_seats w (x ∷ xs) [] h = absurd h
now_seats w (x ∷ xs) (s ∷ ss) h =
    let one : SeatIs Now w x s = h.0 in
    (record { number = one.number; world = one.world }, now_seats w xs ss h.1)

pub stands_now : (kept : kept_floor.Floor) (w : Floor) → FloorStandsFor kept w → FloorNow kept w
stands_now kept w h =
    record {
      tick = h.tick;
      are = record { order = h.floor.order; seats = seats_now w kept.seats.list.items w.stands h.seats };
      drawn = h.drawn;
      last = h.last;
      live = h.live;
    }

pub now_stands : (kept : kept_floor.Floor) (w : Floor) → FloorNow kept w → IsKept w → FloorStandsFor kept w
now_stands kept w h floor =
    record {
      tick = h.tick;
      drawn = h.drawn;
      last = h.last;
      seats = now_seats w kept.seats.list.items w.stands h.are.seats;
      live = h.live;
      floor = floor;
    }

-- before a number was drawn no call is live
pub none_live : (xs ys : List Stand) (c : ℕ) (ls : List kept_live.Live) → AreLive xs c [] ls → AreLive ys c [] ls
none_live xs ys c [] h = tt
none_live xs ys c (l ∷ ls) h = absurd h
