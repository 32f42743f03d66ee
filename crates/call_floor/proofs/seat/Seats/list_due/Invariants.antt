use Rattle.std.proofs.Common.{◌≡◌, ℕ, Bool, length, take}
use Rattle.call_floor.specs.Floor.{Floor}
use Rattle.call_floor.specs.inner.FloorAt.{Amid, FloorIs, listed_turns, numbers_of}
use Rattle.call_floor.specs.inner.Placed.{IsReady}
use Rattle.call_floor.proofs.DueCalls.{all_turns}
use Rattle.call_floor.proofs.LiveCalls.{live_named}
use Rattle.call_floor.proofs.seat.Seats.list_due.Given as goal

-- the frames of the calls so far are listed
abbrev pub invariant-loop-one : goal.invariant-loop-one
invariant-loop-one l =
    record {
      lengths : (acts : ℕ → Bool) (floor : ℕ) (w : Floor) → FloorIs (Amid acts l.tick floor (λ a. l.tick) (λ a c. l.tick)) l.initial.self.list.items w → length l.room.owners.items ≡ length l.room.due.items;
      same : (acts : ℕ → Bool) (floor : ℕ) (w : Floor) → FloorIs (Amid acts l.tick floor (λ a. l.tick) (λ a c. l.tick)) l.initial.self.list.items w → FloorIs (Amid acts l.tick floor (λ a. l.tick) (λ a c. l.tick)) l.self.list.items w;
      listed : (acts : ℕ → Bool) (floor : ℕ) (w : Floor) → FloorIs (Amid acts l.tick floor (λ a. l.tick) (λ a c. l.tick)) l.initial.self.list.items w → IsReady w l.live →
          listed_turns (numbers_of w.stands) l.up l.room.owners.items l.room.due.items ≡ all_turns acts l.up w (take l.one-index (live_named (numbers_of w.stands) l.live));
    }
