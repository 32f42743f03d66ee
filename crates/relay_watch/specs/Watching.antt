-- What it means that a trace with a relay desk grew by some entries of the world, or by a part of them. This project's
-- profile. Cited by the listener `Watch`.
use Rattle.std.specs.Prelude.{◌≡◌, ℕ, List, Option}
use Rattle.call_io.specs.Bytes.{GrewPartly}
use Rattle.call_io.specs.Ways.{Way, Onward}
use Rattle.trace_model.specs.declared.entry.Entry.{Entry}
use Rattle.relay_text.specs.ItemLine.{text_with_desk}
use Rattle.relay_watch.specs.Clocks.{IsTold, clock_of, follows}
use Rattle.relay_watch.specs.declared.clock.DeskClock.{DeskClock}
use Rattle.relay_watch.specs.declared.watch.Watch.{Watch}

-- the sink and the desk that a `Watch` borrows, as they are now
abbrev pub sink : {O : Type 0} → Watch O → O
sink to = to.out.now

abbrev pub desk_in : {O : Type 0} → Watch O → DeskClock
desk_in to = to.desk.now

-- Still the same sink and desk are borrowed, and the sink went onward.
pub record IsSame {O : Type 0} (way : O → Way) (old new : Watch O) : Type 0 where
  pub out : new.out.ghost_name ≡ old.out.ghost_name
  pub desk : new.desk.ghost_name ≡ old.desk.ghost_name
  pub onward : Onward (way (sink old)) (way (sink new))

abbrev pub WatchGrew : {O : Type 0} → (O → Option (List ℕ)) → (O → Way) → (old new : Watch O) → List Entry → Type 0
WatchGrew held way old new entries =
    IsSame way old new
    × IsTold (follows entries (clock_of (desk_in old))) (desk_in new) (held (sink old)) (held (sink new))

abbrev pub WatchGrewPartly : {O : Type 0} → (O → Option (List ℕ)) → (O → Way) → (old new : Watch O) → List Entry
    → Type 0
WatchGrewPartly held way old new entries =
    IsSame way old new
    × GrewPartly (held (sink old)) (held (sink new)) (text_with_desk (follows entries (clock_of (desk_in old))).items)
