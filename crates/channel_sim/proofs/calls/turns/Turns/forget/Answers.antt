use Rattle.std.proofs.Common.{◌≡◌, ◌⊎◌, ◌^◌, ◌-◌, Some, slice_get, ap, sym, subst}
use Rattle.channel_sim.specs.declared.calls.turns.Turn.{Turn}
use Rattle.channel_sim.specs.inner.Turns.{HasTurn, Rise, calls_of}
use Rattle.channel_sim.proofs.TurnLemmas.{forgotten_others, forgotten_rise, noted_rise, others_noted}
use Rattle.channel_sim.proofs.calls.turns.Turns.forget.Goals as goal

pub invariant_of-self : goal.invariant_of-self
invariant_of-self c =
    subst (λ ts. Rise (calls_of ts)) (sym c.remove.ensures.items) (forgotten_rise c.in-Ok.place c.self.inside.list.items c.self.invariant)

pub invariant_of-self-else-place-len : goal.invariant_of-self-else-place-len
invariant_of-self-else-place-len c =
    let t : Turn = record { call = c.index_mut.result.now.call; tick = 2 ^ 64 - 1 } in
    noted_rise c.self.inside.list.items c.in-Ok.place c.index_mut.result.now t (ap (λ (t : Turn). t.call) c.index_mut.ensures.value) c.self.invariant

pub returns-then-place-len : goal.returns-then-place-len
returns-then-place-len c =
    λ other n has.
    let ts = c.self.inside.list.items in
    let found : slice_get (calls_of ts) c.in-Ok.place ≡ Some c.args.call = subst (λ xs. slice_get (calls_of xs) c.in-Ok.place ≡ Some c.args.call) c.deref.ensures.value c.in-Ok.ensures.found in
    subst (λ us. (other ≡ c.args.call) ⊎ HasTurn other n us) (sym c.remove.ensures.items)
    (forgotten_others c.in-Ok.place c.args.call other n ts found (subst (HasTurn other n) (sym c.self.view_is) has))

pub returns-else-place-len : goal.returns-else-place-len
returns-else-place-len c =
    λ other n has.
    let ts = c.self.inside.list.items in
    let t : Turn = record { call = c.index_mut.result.now.call; tick = 2 ^ 64 - 1 } in
    let found : slice_get (calls_of ts) c.in-Ok.place ≡ Some c.args.call = subst (λ xs. slice_get (calls_of xs) c.in-Ok.place ≡ Some c.args.call) c.deref.ensures.value c.in-Ok.ensures.found in
    others_noted ts c.in-Ok.place t c.args.call found other n (subst (HasTurn other n) (sym c.self.view_is) has)
