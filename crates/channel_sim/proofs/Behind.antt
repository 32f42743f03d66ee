-- Which ends were passed behind a line, and how many ticks before.
use Rattle.std.proofs.Common.{◌≡◌, ℕ, ◌≤◌, ◌<◌, ◌+◌, ◌^◌, refl, arith}
use Rattle.trace_model.specs.declared.event.Event.{Event}
use Rattle.trace_model.specs.declared.event.Event.TheVariants as event
use Rattle.channel_sim.specs.declared.channel.Passing.{Passing}
use Rattle.channel_sim.specs.declared.channel.Passing.TheVariants as passing
use Rattle.channel_sim.specs.declared.happening.Happening.{Happening}
use Rattle.channel_sim.specs.declared.happening.Happening.TheVariants as happening
use Rattle.channel_sim.specs.World.{World}
use Rattle.channel_sim.specs.Lines.{step}
use Rattle.channel_sim.specs.WorldStands.{TicksIn}
use Rattle.channel_sim.specs.inner.Happenings.{IfAll, IfWaking, settled_behind}
use Rattle.channel_sim.proofs.Reached.{step_reaches, ticks_in}

-- where all ends are passed, those that are settled lag by less than a line's most ticks
pub late_by : (p : Passing) (start settled now : ℕ) → IfAll p (start ≤ settled) → now < start + 2 ^ 32 → IfAll p (now < settled + 2 ^ 32)
late_by passing.All start settled now exact small = omega arith
late_by passing.Waking start settled now exact small = tt

-- what holds holds where those that are settled aren't passed
pub waking_too : (p : Passing) {Holds : Type 0} → Holds → IfWaking p Holds
waking_too passing.All h = tt
waking_too passing.Waking h = h

-- no line but one of elapsed time has ticks pass
stays : (w : World) (e : Event) (h : Happening) (old new : ℕ) → ((n : ℕ) → e ≡ event.Tick n → h ≡ happening.Elapse n) → ((n : ℕ) → h ≡ happening.Elapse n → ⊥) → w.tick ≡ old → (step w e).world.tick ≡ new → new ≤ old
stays w e h old new ticks other was is =
    let few : TicksIn e (λ n. n ≤ 0) = ticks_in e (λ n same. absurd (other n (ticks n same))) in
    omega (arith, (step_reaches w e 0 few).tick)

-- so all of a world's ends stand at its tick, where they did before
pub exact_behind : (w : World) (e : Event) (h : Happening) (old new : ℕ) → ((n : ℕ) → e ≡ event.Tick n → h ≡ happening.Elapse n) → w.tick ≡ old → (step w e).world.tick ≡ new → new ≤ settled_behind h passing.All old new
exact_behind w e (happening.Elapse n) old new ticks was is = omega arith
exact_behind w e (happening.Vehicle x) old new ticks was is = stays w e (happening.Vehicle x) old new ticks (λ n wrong. cc) was is
exact_behind w e (happening.Point c x) old new ticks was is = stays w e (happening.Point c x) old new ticks (λ n wrong. cc) was is
exact_behind w e happening.DropVehicle old new ticks was is = stays w e happening.DropVehicle old new ticks (λ n wrong. cc) was is
exact_behind w e (happening.DropBoth c) old new ticks was is = stays w e (happening.DropBoth c) old new ticks (λ n wrong. cc) was is
exact_behind w e happening.Answer old new ticks was is = stays w e happening.Answer old new ticks (λ n wrong. cc) was is
exact_behind w e happening.Callback old new ticks was is = stays w e happening.Callback old new ticks (λ n wrong. cc) was is
exact_behind w e (happening.Deliver up c k) old new ticks was is = stays w e (happening.Deliver up c k) old new ticks (λ n wrong. cc) was is
exact_behind w e (happening.Flow up d) old new ticks was is = stays w e (happening.Flow up d) old new ticks (λ n wrong. cc) was is
exact_behind w e happening.ResetPoint old new ticks was is = stays w e happening.ResetPoint old new ticks (λ n wrong. cc) was is

-- and those that are settled may lag as before, where they are not passed
pub any_behind : (h : Happening) (settled tick : ℕ) → settled_behind h passing.Waking settled tick ≡ settled
any_behind (happening.Elapse n) settled tick = refl
any_behind (happening.Vehicle x) settled tick = refl
any_behind (happening.Point c x) settled tick = refl
any_behind happening.DropVehicle settled tick = refl
any_behind (happening.DropBoth c) settled tick = refl
any_behind happening.Answer settled tick = refl
any_behind happening.Callback settled tick = refl
any_behind (happening.Deliver up c k) settled tick = refl
any_behind (happening.Flow up d) settled tick = refl
any_behind happening.ResetPoint settled tick = refl
