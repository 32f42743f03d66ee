use Rattle.std.proofs.Common.{◌≡◌, ◌≤◌, ◌<◌, ◌+◌, ◌^◌, List, map, ap, refl, sym, ◌∙◌, subst, Global}
use Rattle.std.specs.List.{AllByRecursion}
use Rattle.std.specs.declared.collections.VecDeque.{VecDeque}
use Rattle.channel_sim.specs.World.{session_count}
use Rattle.channel_sim.specs.declared.calls.Calls.TheInside.{Inside}
use Rattle.channel_sim.specs.declared.calls.call.Call.{Call}
use Rattle.channel_sim.specs.Lag.{CallsLag, level}
use Rattle.channel_sim.specs.Tidy.{AreAbove}
use Rattle.channel_sim.specs.inner.Beside.{CallsStand, bare, numbers}
use Rattle.channel_sim.specs.inner.Happenings.{IfAll, IfWaking, settled_by}
use Rattle.channel_sim.specs.inner.Sendings.{IsNotedCall}
use Rattle.channel_sim.specs.inner.Turns.{IsListed}
use Rattle.channel_sim.proofs.ListedLemmas.{same_bare_numbers, same_bare_noted, watched_listed}
use Rattle.channel_sim.proofs.calls.passing.catch_up.Given.{Over}
use Rattle.channel_sim.proofs.calls.passing.catch_up.Goals as goal
use Rattle.channel_sim.proofs.calls.passing.catch_up.Goals.{in-All, in-Waking}

-- what is kept of the calls, before their turns are renewed
record IsPassed (now : Inside) : Type 0 where
  numbers : AreAbove 0 (numbers now.list.items)
  listed : AllByRecursion (IsListed now.turns) now.list.items
  noted : AllByRecursion (IsNotedCall now.up now.down) now.list.items

passed : (kept now : Inside) (list : VecDeque Call Global) (new : List Call) → CallsStand kept.turns kept.up kept.down kept.list.items
    → list.items ≡ new
    → map bare new ≡ map bare kept.list.items
    → (AllByRecursion (IsListed kept.turns) kept.list.items → AllByRecursion (IsListed kept.turns) new)
    → now ≡ record kept { list = list }
    → IsPassed now
passed kept now list new h items bares listed e =
    subst IsPassed (sym e)
    (record {
      numbers = subst (λ xs. AreAbove 0 (numbers xs)) (sym items) (subst (AreAbove 0) (sym (same_bare_numbers kept.list.items new bares)) h.numbers);
      listed = subst (AllByRecursion (IsListed kept.turns)) (sym items) (listed (watched_listed kept.turns kept.list.items h.watched));
      noted = subst (AllByRecursion (IsNotedCall kept.up kept.down)) (sym items) (same_bare_noted kept.up kept.down kept.list.items new bares h.noted);
    })

-- the calls that were passed, of either kind
is_passed : (g : Over) (c : goal.After-renew-arg-2-1 g) → IsPassed c.match-passing.calls-inside
is_passed g c =
    let kept = c.calls.inside in
    elim c.match-passing.branch [
      | in-All w ↦
          let value = w.make_contiguous.ensures.value in
          passed kept c.match-passing.calls-inside _ w.pass_each.new.calls c.calls.invariant
          (w.make_contiguous.ensures.writes_back w.pass_each.new.calls (w.pass_each.auto.calls ∙ w.make_contiguous.ensures.len))
          (w.pass_each.ensures.same ∙ ap (map bare) value)
          (subst (λ xs. AllByRecursion (IsListed kept.turns) xs → AllByRecursion (IsListed kept.turns) w.pass_each.new.calls) value (w.pass_each.ensures.listed kept.turns))
          w.calls-inside-is
      | in-Waking w ↦
          passed kept c.match-passing.calls-inside w.pass_listed.new.calls w.pass_listed.new.calls.items c.calls.invariant refl w.pass_listed.ensures.same
          (subst (λ ts. AllByRecursion (IsListed ts) kept.list.items → AllByRecursion (IsListed ts) w.pass_listed.new.calls.items) w.all.ensures.all w.pass_listed.ensures.listed)
          w.calls-inside-is
    ]

pub renew-requires : goal.renew-requires
renew-requires g c = (is_passed g c).numbers

pub invariant_of-calls : goal.invariant_of-calls
invariant_of-calls g c =
    let h = is_passed g c.before in
    record {
      numbers = h.numbers;
      watched = c.renew.ensures h.listed;
      noted = h.noted;
    }

pub returns-clause-lags : goal.returns-clause-lags
returns-clause-lags g c =
    λ floor ks h low.
    let tick = c.args.tick in
    let kept = c.calls.inside in
    let given = subst (λ xs. CallsLag floor (λ n. tick) xs ks) (sym c.calls.view_is) h in
    elim c.match-passing.branch [
      | in-All w ↦
          let items = ap (λ (z : Inside). z.list.items) w.calls-inside-is ∙ w.make_contiguous.ensures.writes_back w.pass_each.new.calls (w.pass_each.auto.calls ∙ w.make_contiguous.ensures.len) in
          subst (λ p. CallsLag (level (settled_by p floor.settled tick) tick) (λ n. tick) c.match-passing.calls-inside.list.items ks) (sym w.in-All.is)
          (subst (λ xs. CallsLag (level tick tick) (λ n. tick) xs ks) (sym items) (w.pass_each.ensures.lags floor ks (subst (λ xs. CallsLag floor (λ n. tick) xs ks) (sym w.make_contiguous.ensures.value) given)))
      | in-Waking w ↦
          let items = ap (λ (z : Inside). z.list.items) w.calls-inside-is in
          let listed = subst (λ ts. AllByRecursion (IsListed ts) kept.list.items) (sym w.all.ensures.all) (watched_listed kept.turns kept.list.items c.calls.invariant.watched) in
          let lower = subst (λ p. IfWaking p (floor.settled ≤ floor.waking)) w.in-Waking.is low in
          subst (λ p. CallsLag (level (settled_by p floor.settled tick) tick) (λ n. tick) c.match-passing.calls-inside.list.items ks) (sym w.in-Waking.is)
          (subst (λ xs. CallsLag (level floor.settled tick) (λ n. tick) xs ks) (sym items) (w.pass_listed.ensures.lags floor ks given listed lower))
    ]

pub returns-clause-passes : goal.returns-clause-passes
returns-clause-passes g c =
    λ floor ks h small late.
    let tick = c.args.tick in
    let given = subst (λ xs. CallsLag floor (λ n. tick) xs ks) (sym c.calls.view_is) h in
    elim c.match-passing.branch [
      | in-All w ↦
          let later = subst (λ p. IfAll p (tick < floor.settled + 2 ^ 32)) w.in-All.is late in
          subst (λ n. n ≤ c.args.moments.now + session_count ks) (sym w.moments-is)
          (w.pass_each.ensures.passes floor ks (subst (λ xs. CallsLag floor (λ n. tick) xs ks) (sym w.make_contiguous.ensures.value) given) small later)
      | in-Waking w ↦
          subst (λ n. n ≤ c.args.moments.now + session_count ks) (sym w.moments-is) (w.pass_listed.ensures.passes floor ks given w.all.ensures.rise small)
    ]
