use Rattle.std.proofs.Common.{◌≡◌, ◌+◌, ◌^◌, ◌<◌, ◌≤◌, ℕ, Bool, take, drop}
use Rattle.call_floor.specs.Floor.{Floor}
use Rattle.call_floor.specs.Tagged.{heard, FloorGrew}
use Rattle.call_floor.specs.inner.FloorAt.{Amid, FloorIs, numbers_of, passes_of, plays_if}
use Rattle.call_floor.specs.inner.Placed.{IsReady}
use Rattle.call_floor.proofs.Gone.{named_turns}
use Rattle.call_floor.proofs.LiveCalls.{clock_left, live_named}
use Rattle.call_floor.proofs.seat.Seats.sessions_pass.Given as goal

-- the sessions so far had their unit tick
abbrev pub invariant-loop-one : goal.invariant-loop-one
invariant-loop-one g l =
    record {
      stood : g.H.FloorListener.faults (heard l.to) ≡ g.H.FloorListener.faults (heard l.initial.to);
      came : (acts : ℕ → Bool) (floor before : ℕ) (w : Floor) → FloorIs (Amid acts l.tick floor (λ v. l.tick) (λ v c. before)) l.initial.self.list.items w → w.tick ≡ l.tick → before + 1 ≡ l.tick → IsReady w l.live →
          FloorGrew g.H.FloorListener.grew l.initial.to l.to (plays_if acts (take l.one-index (named_turns (live_named (numbers_of w.stands) l.live))) w).entries
          × FloorIs (Amid acts l.tick floor (λ v. l.tick) (clock_left before (drop l.one-index (live_named (numbers_of w.stands) l.live)))) l.self.list.items (plays_if acts (take l.one-index (named_turns (live_named (numbers_of w.stands) l.live))) w).floor;
      passes : (acts : ℕ → Bool) (floor before : ℕ) (w : Floor) → FloorIs (Amid acts l.tick floor (λ v. l.tick) (λ v c. before)) l.initial.self.list.items w → w.tick ≡ l.tick → before + 1 ≡ l.tick → IsReady w l.live → l.tick < floor + 2 ^ 32 →
          l.moments ≤ l.initial.moments + passes_of (plays_if acts (take l.one-index (named_turns (live_named (numbers_of w.stands) l.live))) w);
    }
