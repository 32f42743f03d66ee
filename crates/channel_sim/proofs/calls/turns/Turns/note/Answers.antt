use Rattle.std.proofs.Common.{◌≡◌, ◌<◌, Some, length, slice_get, refl, ap, sym, ◌∙◌, subst, arith}
use Rattle.std.proofs.lemmas.Option.{slice_get_within}
use Rattle.std.proofs.lemmas.List.{length-map}
use Rattle.channel_sim.specs.declared.calls.turns.Turn.{Turn}
use Rattle.channel_sim.specs.inner.Turns.{HasTurn, calls_of}
use Rattle.channel_sim.proofs.TurnLemmas.{call_of, has_noted, noted_rise, others_noted}
use Rattle.channel_sim.proofs.calls.turns.Turns.note.Goals as goal

pub invariant_of-self : goal.invariant_of-self
invariant_of-self c =
    let t : Turn = record { call = c.index_mut.result.now.call; tick = c.args.tick } in
    noted_rise c.self.inside.list.items c.args.place c.index_mut.result.now t (ap (λ (t : Turn). t.call) c.index_mut.ensures.value) c.self.invariant

pub returns-then-place-len-clause-this : goal.returns-then-place-len-clause-this
returns-then-place-len-clause-this c =
    λ call e.
    let ts = c.self.inside.list.items in
    let same : ts ≡ c.args.self.now = c.self.view_is in
    let t : Turn = record { call = c.index_mut.result.now.call; tick = c.args.tick } in
    let here : slice_get (calls_of ts) c.args.place ≡ Some call = subst (λ z. slice_get (calls_of z) c.args.place ≡ Some call) (sym same) e in
    has_noted ts c.args.place t call c.args.tick here (ap (λ (t : Turn). t.call) c.index_mut.ensures.value ∙ call_of ts c.args.place c.index_mut.result.now call here) refl

pub returns-then-place-len-clause-others : goal.returns-then-place-len-clause-others
returns-then-place-len-clause-others c =
    λ call e.
    let ts = c.self.inside.list.items in
    let same : ts ≡ c.args.self.now = c.self.view_is in
    let t : Turn = record { call = c.index_mut.result.now.call; tick = c.args.tick } in
    let here : slice_get (calls_of ts) c.args.place ≡ Some call = subst (λ z. slice_get (calls_of z) c.args.place ≡ Some call) (sym same) e in
    λ other n has. others_noted ts c.args.place t call here other n (subst (HasTurn other n) (sym same) has)

pub returns-else-place-len-clause-this : goal.returns-else-place-len-clause-this
returns-else-place-len-clause-this c =
    λ call e.
    let same : c.self.inside.list.items ≡ c.args.self.now = c.self.view_is in
    let inside : c.args.place < length (calls_of c.args.self.now) = slice_get_within (calls_of c.args.self.now) c.args.place call e in
    absurd (omega (arith, length-map c.args.self.now (λ (t : Turn). t.call), ap length same, c.self.inside.list.ok.0))
