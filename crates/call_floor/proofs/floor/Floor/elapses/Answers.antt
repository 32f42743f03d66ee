use Rattle.std.proofs.Common.{◌≡◌, ◌≤◌, ◌<◌, ◌+◌, ◌-◌, ◌^◌, refl, ap, sym, ◌∙◌, subst, arith}
use Rattle.std.proofs.lemmas.Result.{err_from_is_err_and}
use Rattle.call_floor.specs.declared.floor.Floor as kept_floor
use Rattle.call_floor.specs.Floor.{Floor, units}
use Rattle.call_floor.specs.FloorLines.{ends}
use Rattle.call_floor.specs.FloorStands.{AreLive}
use Rattle.call_floor.specs.Tagged.{heard, FloorGrew}
use Rattle.call_floor.specs.inner.FloorAt.{FloorIs, Now, Resting, passes_of}
use Rattle.call_floor.proofs.Elapsed.{by_max, live_units, next_at, quiet_all, quiet_next, quiet_on, units_cut, units_ends, units_front, units_longer, units_on, units_passed}
use Rattle.call_floor.proofs.Elapsing.{kept_ready, kept_units, units_tick}
use Rattle.call_floor.proofs.Moment.{asked_all}
use Rattle.call_floor.proofs.floor.Floor.elapses.Goals as goal

pub loop-self-init : goal.loop-self-init
loop-self-init g c =
    record {
      began = omega arith;
      within = omega arith;
      same = refl;
      stood = refl;
      passes = λ w h at kept live. omega arith;
      came =
          λ w h at kept live.
          let start = c.args.self.now.tick in
          let none : 0 ≡ start - start = omega arith in
          subst (λ n. FloorGrew g.H.FloorListener.grew c.args.to.now c.args.to.now (units n w).entries × FloorIs (Resting start) c.ask.new.self.list.items (units n w).floor) none
          ((refl, g.met.H.FloorListener.unchanged _), h);
    }

pub loop-self-preserved-then-tick-end : goal.loop-self-preserved-then-tick-end
loop-self-preserved-then-tick-end g c =
    let start = c.args.self.now.tick in
    let now = c.loop-self.self.tick in
    let last = start + c.from.result in
    let began : start ≤ now = c.loop-self.invariant.began in
    let before : now < last = c.loop-self-test.true in
    let k = now - start in
    let n = last - now in
    let sum : k + n ≡ last - start = omega (arith, began, before) in
    let xs = c.loop-self.self.seats.list.items in
    record {
      began = omega (arith, began, before);
      within = omega arith;
      same = ap (λ (z : kept_floor.Floor). record z { tick = last }) c.loop-self.invariant.same;
      stood = c.loop-self.invariant.stood;
      passes =
          λ w h at kept live.
          units_passed k n (last - start) w sum c.args.moments.now c.loop-self.moments c.loop-self.moments (c.loop-self.invariant.passes w h at kept live) (omega arith);
      came =
          λ w h at kept live.
          let so_far = c.loop-self.invariant.came w h at kept live in
          let u : Floor = (units k w).floor in
          let reached = units_tick k w in
          let late : u.tick + n + 1 ≤ c.soonest.result = omega (arith, reached, at, began, before, c.max-tick.ensures, c.if-tick-end.true) in
          let jump = quiet_on start n xs u c.args.self.now.live.items so_far.1 (quiet_all c.soonest.result (u.tick + n + 1) n xs late c.soonest.ensures.least) (kept_units k w kept) (live_units k w c.args.self.now.live.items kept live) in
          units_on g.H.FloorListener.grew g.H.FloorListener.partly k n (last - start) w sum g.met.H.FloorListener.twice start xs c.args.to.now c.loop-self.to c.loop-self.to so_far.0
          ((refl, subst (g.H.FloorListener.grew (heard c.loop-self.to) (heard c.loop-self.to)) (sym jump.told) (g.met.H.FloorListener.unchanged _)), jump.stands);
    }

pub loop-self-preserved : goal.loop-self-preserved
loop-self-preserved g c =
    let start = c.args.self.now.tick in
    let now = c.loop-self.self.tick in
    let began : start ≤ now = c.loop-self.invariant.began in
    let tick = c.max-tick.result in
    let up : now < tick = omega (arith, c.max-tick.ensures) in
    let k = now - start in
    let n = tick - now - 1 in
    let next : now + n + 1 ≡ tick = omega (arith, up) in
    let xs = c.loop-self.self.seats.list.items in
    let quiet = quiet_next c.soonest.result now tick n xs (by_max c.soonest.result now tick c.max-tick.ensures) next c.soonest.ensures.least in
    let reaches = ap (λ (z : kept_floor.Floor). z.tick) c.moment.ensures.same in
    let sum : k + (n + 1) ≡ c.moment.new.self.tick - start = omega (arith, began, up, reaches) in
    record {
      began = omega (arith, began, up, reaches);
      within = omega (arith, reaches, c.if-tick-end.false);
      same =
          c.moment.ensures.same
          ∙ ap (λ (z : kept_floor.Floor). record z { tick = tick; seats = c.moment.new.self.seats; room = c.moment.new.self.room }) c.loop-self.invariant.same
          ∙ ap (λ t. record (c.args.self.now) { tick = t; seats = c.moment.new.self.seats; room = c.moment.new.self.room }) (sym reaches);
      stood = c.in_ok-moment.ensures.faults.stood ∙ c.loop-self.invariant.stood;
      passes =
          λ w h at kept live.
          let so_far = c.loop-self.invariant.came w h at kept live in
          let u : Floor = (units k w).floor in
          let at_next = next_at start now tick k n w at (omega (arith, began)) next in
          let lives = subst (AreLive u.stands 1 u.drawn) (sym (ap (λ (z : kept_floor.Floor). z.live.items) c.loop-self.invariant.same)) (live_units k w c.args.self.now.live.items kept live) in
          let few : c.args.n < 2 ^ 32 = c.ranges.n.fits in
          let small : tick < start + 2 ^ 32 = omega (arith, c.if-tick-end.false, c.from.ensures, few) in
          units_passed k (n + 1) (c.moment.new.self.tick - start) w sum c.args.moments.now c.loop-self.moments c.moment.new.moments (c.loop-self.invariant.passes w h at kept live)
          (c.moment.ensures.passes start n u so_far.1 at_next quiet (kept_units k w kept) lives small);
      came =
          λ w h at kept live.
          let so_far = c.loop-self.invariant.came w h at kept live in
          let u : Floor = (units k w).floor in
          let at_next = next_at start now tick k n w at (omega (arith, began)) next in
          let lives = subst (AreLive u.stands 1 u.drawn) (sym (ap (λ (z : kept_floor.Floor). z.live.items) c.loop-self.invariant.same)) (live_units k w c.args.self.now.live.items kept live) in
          let did = c.in_ok-moment.ensures.step start n u so_far.1 at_next quiet (kept_units k w kept) lives in
          units_on g.H.FloorListener.grew g.H.FloorListener.partly k (n + 1) (c.moment.new.self.tick - start) w sum g.met.H.FloorListener.twice start c.moment.new.self.seats.list.items c.args.to.now c.loop-self.to c.moment.new.to so_far.0 did;
    }

pub returns-in_err-moment-clause-step : goal.returns-in_err-moment-clause-step
returns-in_err-moment-clause-step g c =
    λ w stands at kept live.
    let failed = err_from_is_err_and c.from_residual.result c.from_residual.ensures.1 in
    let start = c.args.self.now.tick in
    let now = c.loop-self.self.tick in
    let began : start ≤ now = c.loop-self.invariant.began in
    let tick = c.max-tick.result in
    let up : now < tick = omega (arith, c.max-tick.ensures) in
    let k = now - start in
    let n = tick - now - 1 in
    let next : now + n + 1 ≡ tick = omega (arith, up) in
    let xs = c.loop-self.self.seats.list.items in
    let quiet = quiet_next c.soonest.result now tick n xs (by_max c.soonest.result now tick c.max-tick.ensures) next c.soonest.ensures.least in
    let h = asked_all start c.args.self.now.seats.list.items c.ask.new.self.list.items w at c.ask.ensures stands in
    let so_far = c.loop-self.invariant.came w h at kept live in
    let u : Floor = (units k w).floor in
    let at_next = next_at start now tick k n w at (omega (arith, began)) next in
    let lives = subst (AreLive u.stands 1 u.drawn) (sym (ap (λ (z : kept_floor.Floor). z.live.items) c.loop-self.invariant.same)) (live_units k w c.args.self.now.live.items kept live) in
    let part = c.in_err-moment.ensures.step start n u so_far.1 at_next quiet (kept_units k w kept) lives in
    let within : tick ≤ start + c.from.result = omega (arith, c.if-tick-end.false) in
    let rest = (start + c.from.result) - tick in
    let front = units_cut g.H.FloorListener.grew g.H.FloorListener.partly k (n + 1) (k + (n + 1)) w refl g.met.H.FloorListener.then_partly c.args.to.now c.loop-self.to c.moment.new.to so_far.0 part in
    let sum : (k + (n + 1)) + rest ≡ c.args.n = omega (arith, began, up, within, c.from.ensures) in
    rw failed.1 (units_longer g.H.FloorListener.grew g.H.FloorListener.partly (k + (n + 1)) rest c.args.n w sum g.met.H.FloorListener.longer c.args.to.now c.moment.new.to front)

pub returns-in_err-moment-clause-passes : goal.returns-in_err-moment-clause-passes
returns-in_err-moment-clause-passes g c =
    λ w stands at kept live.
    let start = c.args.self.now.tick in
    let now = c.loop-self.self.tick in
    let began : start ≤ now = c.loop-self.invariant.began in
    let tick = c.max-tick.result in
    let up : now < tick = omega (arith, c.max-tick.ensures) in
    let k = now - start in
    let n = tick - now - 1 in
    let next : now + n + 1 ≡ tick = omega (arith, up) in
    let xs = c.loop-self.self.seats.list.items in
    let quiet = quiet_next c.soonest.result now tick n xs (by_max c.soonest.result now tick c.max-tick.ensures) next c.soonest.ensures.least in
    let h = asked_all start c.args.self.now.seats.list.items c.ask.new.self.list.items w at c.ask.ensures stands in
    let so_far = c.loop-self.invariant.came w h at kept live in
    let u : Floor = (units k w).floor in
    let at_next = next_at start now tick k n w at (omega (arith, began)) next in
    let lives = subst (AreLive u.stands 1 u.drawn) (sym (ap (λ (z : kept_floor.Floor). z.live.items) c.loop-self.invariant.same)) (live_units k w c.args.self.now.live.items kept live) in
    let few : c.args.n < 2 ^ 32 = c.ranges.n.fits in
    let small : tick < start + 2 ^ 32 = omega (arith, c.if-tick-end.false, c.from.ensures, few) in
    let did = c.moment.ensures.passes start n u so_far.1 at_next quiet (kept_units k w kept) lives small in
    let within : tick ≤ start + c.from.result = omega (arith, c.if-tick-end.false) in
    let rest = (start + c.from.result) - tick in
    let front = units_passed k (n + 1) (k + (n + 1)) w refl c.args.moments.now c.loop-self.moments c.moment.new.moments (c.loop-self.invariant.passes w h at kept live) did in
    let sum : (k + (n + 1)) + rest ≡ c.args.n = omega (arith, began, up, within, c.from.ensures) in
    let all = units_front (k + (n + 1)) rest c.args.n w sum c.args.moments.now c.moment.new.moments front in
    omega (arith, all)

pub returns-clause-step : goal.returns-clause-step
returns-clause-step g c =
    λ w stands at kept live.
    let start = c.args.self.now.tick in
    let now = c.loop-self.self.tick in
    let began : start ≤ now = c.loop-self.invariant.began in
    let within : now ≤ start + c.from.result = c.loop-self.invariant.within in
    let past : start + c.from.result ≤ now = c.loop-self-test.false in
    let h = asked_all start c.args.self.now.seats.list.items c.ask.new.self.list.items w at c.ask.ensures stands in
    let so_far = c.loop-self.invariant.came w h at kept live in
    let e : now - start ≡ c.args.n = omega (arith, began, within, past, c.from.ensures) in
    let reached = units_tick (now - start) w in
    let ended : (units (now - start) w).floor.tick ≡ start + c.from.result = omega (arith, reached, at, began, within, past) in
    subst (λ m. FloorGrew g.H.FloorListener.grew c.args.to.now c.loop-self.to (units m w).entries × FloorIs Now c.catch_up.new.self.list.items (units m w).floor) e
    (so_far.0, c.catch_up.ensures.stands start (units (now - start) w).floor so_far.1 ended)

pub returns-clause-passes : goal.returns-clause-passes
returns-clause-passes g c =
    λ w stands at kept live.
    let start = c.args.self.now.tick in
    let now = c.loop-self.self.tick in
    let began : start ≤ now = c.loop-self.invariant.began in
    let within : now ≤ start + c.from.result = c.loop-self.invariant.within in
    let past : start + c.from.result ≤ now = c.loop-self-test.false in
    let h = asked_all start c.args.self.now.seats.list.items c.ask.new.self.list.items w at c.ask.ensures stands in
    let so_far = c.loop-self.invariant.came w h at kept live in
    let front = c.loop-self.invariant.passes w h at kept live in
    let e : now - start ≡ c.args.n = omega (arith, began, within, past, c.from.ensures) in
    let reached = units_tick (now - start) w in
    let ended : (units (now - start) w).floor.tick ≡ start + c.from.result = omega (arith, reached, at, began, within, past) in
    let few : c.args.n < 2 ^ 32 = c.ranges.n.fits in
    let caught = c.catch_up.ensures.passes start (units (now - start) w).floor so_far.1 ended (omega (arith, c.from.ensures, few)) in
    let fall : ends (units (now - start) w).floor.stands ≤ ends w.stands = units_ends (now - start) w kept.order (kept_ready w c.args.self.now.live.items kept live).placed in
    subst (λ m. c.catch_up.new.moments ≤ c.args.moments.now + (passes_of (units m w) + ends w.stands)) e
    (omega (arith, front, caught, fall))
