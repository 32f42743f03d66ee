use Rattle.std.proofs.Common.{◌≡◌, ◌+◌, ◌^◌, ◌<◌, ◌≤◌, ℕ, Bool, length, take}
use Rattle.call_floor.specs.Floor.{Floor}
use Rattle.call_floor.specs.Tagged.{heard, FloorGrew}
use Rattle.call_floor.specs.inner.FloorAt.{Amid, FloorIs, listed_turns, numbers_of, passes_of, plays_if}
use Rattle.call_floor.proofs.seat.Seats.hand_each.Given as goal

-- the frames so far were handed over
abbrev pub invariant-loop-k : goal.invariant-loop-k
invariant-loop-k g l =
    record {
      stood : g.H.FloorListener.faults (heard l.to) ≡ g.H.FloorListener.faults (heard l.initial.to);
      came : (acts : ℕ → Bool) (floor : ℕ) (w : Floor) → FloorIs (Amid acts l.tick floor (λ a. l.tick) (λ a c. l.tick)) l.initial.self.list.items w → w.tick ≡ l.tick → length l.room.owners.items ≡ length l.room.due.items →
          FloorGrew g.H.FloorListener.grew l.initial.to l.to (plays_if acts (take l.k (listed_turns (numbers_of w.stands) l.up l.room.owners.items l.room.due.items)) w).entries
          × FloorIs (Amid acts l.tick floor (λ a. l.tick) (λ a c. l.tick)) l.self.list.items (plays_if acts (take l.k (listed_turns (numbers_of w.stands) l.up l.room.owners.items l.room.due.items)) w).floor;
      passes : (acts : ℕ → Bool) (floor : ℕ) (w : Floor) → FloorIs (Amid acts l.tick floor (λ a. l.tick) (λ a c. l.tick)) l.initial.self.list.items w → w.tick ≡ l.tick → length l.room.owners.items ≡ length l.room.due.items → l.tick < floor + 2 ^ 32 →
          l.moments ≤ l.initial.moments + passes_of (plays_if acts (take l.k (listed_turns (numbers_of w.stands) l.up l.room.owners.items l.room.due.items)) w);
    }
