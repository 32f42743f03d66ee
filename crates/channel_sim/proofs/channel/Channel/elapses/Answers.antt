use Rattle.channel_sim.proofs.BoundLemmas.{passes_front, passes_more, units_ends, ends_more}
use Rattle.channel_sim.specs.Passes.{passes_of}
use Rattle.std.proofs.Common.{◌≡◌, ◌≤◌, ◌+◌, ◌++◌, ◌-◌, refl, ap, sym, ◌∙◌, subst, arith, ◌<◌, ◌^◌}
use Rattle.std.proofs.lemmas.Result.{err_from_is_err_and}
use Rattle.channel_sim.specs.declared.channel.Channel.{Channel}
use Rattle.channel_sim.specs.World.{World, Step, units, and_then, ends}
use Rattle.channel_sim.specs.Lag.{StandsAt, StandsNow, level}
use Rattle.channel_sim.specs.inner.Happenings.{settled_by}
use Rattle.channel_sim.proofs.Behind.{late_by, waking_too}
use Rattle.channel_sim.proofs.Jump.{units_add}
use Rattle.channel_sim.proofs.MomentLemmas.{moment_quiet, quiet_end}
use Rattle.channel_sim.proofs.WaitLemmas.{quiet_until}
use Rattle.channel_sim.proofs.channel.Channel.elapses.Goals as goal

pub loop-self-init : goal.loop-self-init
loop-self-init g c =
    record {
      began = omega arith;
      within = omega arith;
      stood = refl;
      passes = λ settled w s. omega arith;
      came =
          λ settled w s.
          let kept = c.args.self.now in
          let none : 0 ≡ kept.tick - kept.tick = omega arith in
          subst (λ n. g.H.Listener.grew c.args.to.now c.args.to.now (units n w).entries × StandsAt kept.tick (level settled kept.tick) (λ d. kept.tick) kept (units n w).world) none
          (g.met.H.Listener.unchanged _, s);
    }

pub loop-self-preserved-then-tick-end : goal.loop-self-preserved-then-tick-end
loop-self-preserved-then-tick-end g c =
    let start = c.args.self.now.tick in
    let now = c.loop-self.self.tick in
    let last = start + c.from.result in
    let began : start ≤ now = c.loop-self.invariant.began in
    let before : now < last = c.loop-self-test.true in
    let n = last - now in
    let k = now - start in
    let ends_at : now + n ≡ last = omega arith in
    let e : last - start ≡ k + n = omega arith in
    record {
      began = omega arith;
      within = omega arith;
      stood = c.loop-self.invariant.stood;
      passes =
          λ settled w s.
          let front : Step = units k w in
          let same : units (last - start) w ≡ and_then front (units n) = ap (λ m. units m w) e ∙ units_add k n w in
          subst (λ (z : Step). c.loop-self.moments ≤ c.args.moments.now + passes_of z) (sym same)
          (passes_more front (units n) c.args.moments.now c.loop-self.moments c.loop-self.moments (c.loop-self.invariant.passes settled w s) (omega arith));
      came =
          λ settled w s.
          let so_far = c.loop-self.invariant.came settled w s in
          let front : Step = units k w in
          let late : now + n < c.first_of.result = omega (arith, c.max-tick.ensures, c.if-tick-end.true) in
          let quiet = quiet_until n now c.first_of.result c.next_moment-next.result.acts c.next_moment-next.result.up c.next_moment-next.result.down front.world c.first_of.ensures.acts c.first_of.ensures.up c.first_of.ensures.down
          (c.next_moment-next.ensures.acts (level settled start) n front.world so_far.1) (c.next_moment-next.ensures.up (level settled start) n front.world so_far.1) (c.next_moment-next.ensures.down (level settled start) n front.world so_far.1) late in
          let ended = quiet_end (level settled start) n last c.loop-self.self front.world so_far.1 quiet ends_at in
          let moved : Channel = record c.loop-self.self { tick = last } in
          let same : units (last - start) w ≡ and_then front (units n) = ap (λ m. units m w) e ∙ units_add k n w in
          subst (λ (z : Step). g.H.Listener.grew c.args.to.now c.loop-self.to z.entries × StandsAt last (level settled start) (λ d. last) moved z.world) (sym same)
          (subst (λ (z : Step). g.H.Listener.grew c.args.to.now c.loop-self.to (front.entries ++ z.entries) × StandsAt last (level settled start) (λ d. last) moved z.world) (sym ended.0)
          (g.met.H.Listener.twice _ _ _ _ _ so_far.0 (g.met.H.Listener.unchanged _), ended.1));
    }

pub loop-self-preserved : goal.loop-self-preserved
loop-self-preserved g c =
    let start = c.args.self.now.tick in
    let now = c.loop-self.self.tick in
    let began : start ≤ now = c.loop-self.invariant.began in
    let within : now ≤ (c.args.self.now.tick + c.from.result) = c.loop-self.invariant.within in
    record {
      began = omega (arith, c.moment.ensures.tick, c.max-tick.ensures);
      within = omega (arith, c.moment.ensures.tick, c.if-tick-end.false);
      stood = c.in_ok-moment.ensures.faults.stood ∙ c.loop-self.invariant.stood;
      passes =
          λ settled w s.
          let so_far = c.loop-self.invariant.came settled w s in
          let k = now - start in
          let front : Step = units k w in
          let quiet = moment_quiet (level settled start) now c.first_of.result c.loop-self.self front.world so_far.1
          (λ n low. quiet_until n now c.first_of.result c.next_moment-next.result.acts c.next_moment-next.result.up c.next_moment-next.result.down front.world c.first_of.ensures.acts c.first_of.ensures.up c.first_of.ensures.down
          (c.next_moment-next.ensures.acts (level settled start) n front.world so_far.1) (c.next_moment-next.ensures.up (level settled start) n front.world so_far.1) (c.next_moment-next.ensures.down (level settled start) n front.world so_far.1) low) in
          let n = quiet.0 in
          let next : now + n + 1 ≡ c.max-tick.result = quiet.1 ∙ sym c.max-tick.ensures in
          let few : c.args.n < 2 ^ 32 = c.ranges.n.fits in
          let small : c.max-tick.result < start + 2 ^ 32 = omega (arith, c.if-tick-end.false, c.from.ensures) in
          let did = c.moment.ensures.passes (level settled start) n front.world so_far.1 next quiet.2
          (λ late. c.next_moment-next.ensures.acts (level settled start) (n + 1) front.world so_far.1 (omega (arith, late, next)))
          (λ late. c.next_moment-next.ensures.up (level settled start) (n + 1) front.world so_far.1 (omega (arith, late, next)))
          (λ late. c.next_moment-next.ensures.down (level settled start) (n + 1) front.world so_far.1 (omega (arith, late, next))) small in
          let e : c.moment.new.self.tick - start ≡ k + (n + 1) = omega (arith, c.moment.ensures.tick) in
          let same : units (c.moment.new.self.tick - start) w ≡ and_then front (units (n + 1)) = ap (λ m. units m w) e ∙ units_add k (n + 1) w in
          subst (λ (z : Step). c.moment.new.moments ≤ c.args.moments.now + passes_of z) (sym same)
          (passes_more front (units (n + 1)) c.args.moments.now c.loop-self.moments c.moment.new.moments (c.loop-self.invariant.passes settled w s) did);
      came =
          λ settled w s.
          let so_far = c.loop-self.invariant.came settled w s in
          let k = now - start in
          let u : World = (units k w).world in
          let quiet = moment_quiet (level settled start) now c.first_of.result c.loop-self.self u so_far.1
          (λ n low. quiet_until n now c.first_of.result c.next_moment-next.result.acts c.next_moment-next.result.up c.next_moment-next.result.down u c.first_of.ensures.acts c.first_of.ensures.up c.first_of.ensures.down
          (c.next_moment-next.ensures.acts (level settled start) n u so_far.1) (c.next_moment-next.ensures.up (level settled start) n u so_far.1) (c.next_moment-next.ensures.down (level settled start) n u so_far.1) low) in
          let n = quiet.0 in
          let next : now + n + 1 ≡ c.max-tick.result = quiet.1 ∙ sym c.max-tick.ensures in
          let did = c.in_ok-moment.ensures.step (level settled start) n u so_far.1 next quiet.2
          (λ late. c.next_moment-next.ensures.acts (level settled start) (n + 1) u so_far.1 (omega (arith, late, next)))
          (λ late. c.next_moment-next.ensures.up (level settled start) (n + 1) u so_far.1 (omega (arith, late, next)))
          (λ late. c.next_moment-next.ensures.down (level settled start) (n + 1) u so_far.1 (omega (arith, late, next))) in
          let e : c.moment.new.self.tick - start ≡ k + (n + 1) = omega (arith, c.moment.ensures.tick) in
          let same : units (c.moment.new.self.tick - start) w ≡ and_then (units k w) (units (n + 1)) = ap (λ m. units m w) e ∙ units_add k (n + 1) w in
          subst (λ (z : Step). g.H.Listener.grew c.args.to.now c.moment.new.to z.entries × StandsAt c.moment.new.self.tick (level settled start) (λ d. c.moment.new.self.tick) c.moment.new.self z.world) (sym same) (
            g.met.H.Listener.twice _ _ _ _ _ so_far.0 did.0,
            subst (λ t. StandsAt t (level settled start) (λ d. t) c.moment.new.self (units (n + 1) u).world) (sym c.moment.ensures.tick) did.1,
          );
    }

pub returns-in_err-moment-clause-step : goal.returns-in_err-moment-clause-step
returns-in_err-moment-clause-step g c =
    λ settled w s low.
    let failed = err_from_is_err_and c.from_residual.result c.from_residual.ensures.1 in
    let law = g.met.H.Listener in
    let start = c.args.self.now.tick in
    let now = c.loop-self.self.tick in
    let began : start ≤ now = c.loop-self.invariant.began in
    let so_far = c.loop-self.invariant.came settled w s in
    let k = now - start in
    let u : World = (units k w).world in
    let quiet = moment_quiet (level settled start) now c.first_of.result c.loop-self.self u so_far.1
    (λ n low. quiet_until n now c.first_of.result c.next_moment-next.result.acts c.next_moment-next.result.up c.next_moment-next.result.down u c.first_of.ensures.acts c.first_of.ensures.up c.first_of.ensures.down
    (c.next_moment-next.ensures.acts (level settled start) n u so_far.1) (c.next_moment-next.ensures.up (level settled start) n u so_far.1) (c.next_moment-next.ensures.down (level settled start) n u so_far.1) low) in
    let n = quiet.0 in
    let next : now + n + 1 ≡ c.max-tick.result = quiet.1 ∙ sym c.max-tick.ensures in
    let part = c.in_err-moment.ensures.step (level settled start) n u so_far.1 next quiet.2
    (λ late. c.next_moment-next.ensures.acts (level settled start) (n + 1) u so_far.1 (omega (arith, late, next)))
    (λ late. c.next_moment-next.ensures.up (level settled start) (n + 1) u so_far.1 (omega (arith, late, next)))
    (λ late. c.next_moment-next.ensures.down (level settled start) (n + 1) u so_far.1 (omega (arith, late, next))) in
    let within : c.max-tick.result ≤ start + c.from.result = omega (arith, c.if-tick-end.false) in
    let rest = (start + c.from.result) - c.max-tick.result in
    let e : c.args.n ≡ (k + (n + 1)) + rest = omega (arith, c.from.ensures) in
    let Partly = g.H.Listener.partly c.args.to.now c.moment.new.to in
    let front : Partly (units (k + (n + 1)) w).entries = subst (λ (z : Step). Partly z.entries) (sym (units_add k (n + 1) w)) (law.then_partly _ _ _ _ _ so_far.0 part) in
    let whole = subst (λ (z : Step). Partly z.entries) (sym (ap (λ m. units m w) e ∙ units_add (k + (n + 1)) rest w)) (law.longer _ _ _ _ front) in
    rw failed.1 whole

pub returns-clause-step : goal.returns-clause-step
returns-clause-step g c =
    λ settled w s low.
    let start = c.args.self.now.tick in
    let now = c.loop-self.self.tick in
    let began : start ≤ now = c.loop-self.invariant.began in
    let within : now ≤ start + c.from.result = c.loop-self.invariant.within in
    let past : start + c.from.result ≤ now = c.loop-self-test.false in
    let so_far = c.loop-self.invariant.came settled w s in
    let e : now - start ≡ c.args.n = omega (arith, c.from.ensures) in
    subst (λ m. g.H.Listener.grew c.args.to.now c.loop-self.to (units m w).entries × StandsNow (settled_by c.args.passing settled c.catch_up.new.self.tick) c.catch_up.new.self (units m w).world) e (
      so_far.0,
      subst (λ t. StandsNow (settled_by c.args.passing settled t) c.catch_up.new.self (units (now - start) w).world) (sym c.catch_up.ensures.tick)
          (c.catch_up.ensures.caught (level settled start) (units (now - start) w).world so_far.1 (waking_too c.args.passing low)),
    )

pub returns-clause-passes : goal.returns-clause-passes
returns-clause-passes g c =
    λ settled w s low exact.
    let start = c.args.self.now.tick in
    let now = c.loop-self.self.tick in
    let began : start ≤ now = c.loop-self.invariant.began in
    let within : now ≤ start + c.from.result = c.loop-self.invariant.within in
    let past : start + c.from.result ≤ now = c.loop-self-test.false in
    let few : c.args.n < 2 ^ 32 = c.ranges.n.fits in
    let so_far = c.loop-self.invariant.came settled w s in
    let e : now - start ≡ c.args.n = omega (arith, c.from.ensures) in
    let caught = c.catch_up.ensures.passes (level settled start) (units (now - start) w).world so_far.1 (omega (arith, c.from.ensures)) (late_by c.args.passing start settled now exact (omega (arith, c.from.ensures))) in
    let fall = units_ends (now - start) w in
    subst (λ m. c.catch_up.new.moments ≤ c.args.moments.now + (passes_of (units m w) + ends w)) e
    (ends_more (passes_of (units (now - start) w)) (ends (units (now - start) w).world) (ends w) c.args.moments.now c.loop-self.moments c.catch_up.new.moments (c.loop-self.invariant.passes settled w s) caught fall)

pub returns-in_err-moment-clause-passes : goal.returns-in_err-moment-clause-passes
returns-in_err-moment-clause-passes g c =
    λ settled w s low exact.
    let start = c.args.self.now.tick in
    let now = c.loop-self.self.tick in
    let began : start ≤ now = c.loop-self.invariant.began in
    let so_far = c.loop-self.invariant.came settled w s in
    let k = now - start in
    let front : Step = units k w in
    let quiet = moment_quiet (level settled start) now c.first_of.result c.loop-self.self front.world so_far.1
    (λ n low. quiet_until n now c.first_of.result c.next_moment-next.result.acts c.next_moment-next.result.up c.next_moment-next.result.down front.world c.first_of.ensures.acts c.first_of.ensures.up c.first_of.ensures.down
    (c.next_moment-next.ensures.acts (level settled start) n front.world so_far.1) (c.next_moment-next.ensures.up (level settled start) n front.world so_far.1) (c.next_moment-next.ensures.down (level settled start) n front.world so_far.1) low) in
    let n = quiet.0 in
    let next : now + n + 1 ≡ c.max-tick.result = quiet.1 ∙ sym c.max-tick.ensures in
    let few : c.args.n < 2 ^ 32 = c.ranges.n.fits in
    let small : c.max-tick.result < start + 2 ^ 32 = omega (arith, c.if-tick-end.false, c.from.ensures) in
    let did = c.moment.ensures.passes (level settled start) n front.world so_far.1 next quiet.2
    (λ late. c.next_moment-next.ensures.acts (level settled start) (n + 1) front.world so_far.1 (omega (arith, late, next)))
    (λ late. c.next_moment-next.ensures.up (level settled start) (n + 1) front.world so_far.1 (omega (arith, late, next)))
    (λ late. c.next_moment-next.ensures.down (level settled start) (n + 1) front.world so_far.1 (omega (arith, late, next))) small in
    let within : c.max-tick.result ≤ start + c.from.result = omega (arith, c.if-tick-end.false) in
    let rest = (start + c.from.result) - c.max-tick.result in
    let e : c.args.n ≡ (k + (n + 1)) + rest = omega (arith, c.from.ensures) in
    let Few = λ (z : Step). c.moment.new.moments ≤ c.args.moments.now + passes_of z in
    let part = subst Few (sym (units_add k (n + 1) w)) (passes_more front (units (n + 1)) c.args.moments.now c.loop-self.moments c.moment.new.moments (c.loop-self.invariant.passes settled w s) did) in
    let all = subst Few (sym (ap (λ m. units m w) e ∙ units_add (k + (n + 1)) rest w)) (passes_front (units (k + (n + 1)) w) (units rest) c.args.moments.now c.moment.new.moments part) in
    omega (arith, all)
