-- What an end did, once it is told and posted; and one part of a step behind another.
use Rattle.std.proofs.Common.{◌≡◌, ℕ, ◌-◌, ◌≤◌, Option, Result, Ok, Err, List, ◌++◌, map, ap, sym, ◌∙◌, subst}
use Rattle.std.specs.List.{AllByRecursion}
use Rattle.link_frames.specs.declared.note.Note.{Note}
use Rattle.ivs_machine.specs.Vehicle.{Vehicle, vehicle_call}
use Rattle.trace_model.specs.declared.entry.Entry.{Entry}
use Rattle.trace_model.specs.History.{told}
use Rattle.channel_sim.specs.declared.channel.Channel as kept_channel
use Rattle.channel_sim.specs.World.{Call, World, Step, did, and_then, with_legs, carries}
use Rattle.channel_sim.specs.inner.Acts.{IsReady}
use Rattle.channel_sim.specs.Lag.{LeastPassed, VehicleLags, CallsLag, StandsAt, CameAt}
use Rattle.channel_sim.specs.Tidy.{AreAbove, CallInTime}
use Rattle.channel_sim.proofs.CallsLemmas.{carried_numbers}
use Rattle.channel_sim.proofs.TidyLemmas.{all_with_legs, with_legs_all, with_legs_above, with_legs_numbers, carried_in_time}

pub did_done : (ahead : ℕ) (floor : LeastPassed) (clock : ℕ → ℕ) (kept new : kept_channel.Channel) (w : World) (v : Vehicle) (ks : List Call) (concerned : Option ℕ) (items : List Note)
    → IsReady ahead floor clock kept w v ks concerned
    → new ≡ record kept { calls = new.calls }
    → CallsLag floor clock new.calls (with_legs (vehicle_call v) (map (carries (told w.tick items)) ks))
    → StandsAt ahead floor clock new (did w items v ks).world
did_done ahead floor clock kept new w v ks concerned items r same calls =
    let es = told w.tick items in
    record {
      tick = r.tick ∙ sym (ap (λ x. x.tick) same);
      drawn = r.drawn ∙ sym (ap (λ x. x.drawn) same);
      up_flow = r.up_flow ∙ sym (ap (λ x. x.up_flow) same);
      down_flow = r.down_flow ∙ sym (ap (λ x. x.down_flow) same);
      passed = subst (λ n. n ≤ ahead) (sym (ap (λ x. x.passed) same)) r.passed;
      from = subst (λ n. floor.waking ≤ n) (sym (ap (λ x. x.passed) same)) r.from;
      vehicle = subst (λ x. VehicleLags (ahead - x.passed) x.vehicle v) (sym same) r.vehicle;
      calls = calls;
      tidy =
          record {
            numbers = with_legs_above 0 (vehicle_call v) (map (carries es) ks) (subst (AreAbove 0) (sym (carried_numbers es ks)) r.numbers);
            below = with_legs_numbers (λ n. n ≤ w.drawn) (vehicle_call v) (map (carries es) ks) (subst (AllByRecursion (λ n. n ≤ w.drawn)) (sym (carried_numbers es ks)) r.below);
            legs = all_with_legs (vehicle_call v) (map (carries es) ks);
            frames = with_legs_all (CallInTime w.tick) (vehicle_call v) (map (carries es) ks) (carried_in_time w.tick items ks r.frames);
          };
    }

-- a part of a step after one that was done
pub came_after : {S Fault : Type 0} (grew partly : S → S → List Entry → Type 0)
    → ((a b c : S) (s t : List Entry) → grew a b s → grew b c t → grew a c (s ++ t))
    → ((a b c : S) (s t : List Entry) → grew a b s → partly b c t → partly a c (s ++ t))
    → (a b c : S) (result : Result (Unit {0}) Fault) (ahead : ℕ) (floor : LeastPassed) (clock : ℕ → ℕ) (kept : kept_channel.Channel) (first : Step) (second : World → Step)
    → grew a b first.entries
    → CameAt (grew b c) (partly b c) result ahead floor clock kept (second first.world)
    → CameAt (grew a c) (partly a c) result ahead floor clock kept (and_then first second)
came_after grew partly twice then_partly a b c (Ok k) ahead floor clock kept first second grew_first came =
    (twice a b c first.entries (second first.world).entries grew_first came.0, came.1)
came_after grew partly twice then_partly a b c (Err e) ahead floor clock kept first second grew_first came =
    then_partly a b c first.entries (second first.world).entries grew_first came
