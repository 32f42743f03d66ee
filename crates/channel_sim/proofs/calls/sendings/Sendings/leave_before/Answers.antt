use Rattle.std.proofs.Common.{◌≡◌, drop, sym, ◌∙◌, subst, arith}
use Rattle.channel_sim.specs.Tidy.{AreFrom}
use Rattle.channel_sim.specs.inner.Sends.{IsFirstFrom}
use Rattle.channel_sim.proofs.SendingLemmas.{ticks, drop_ticks, left_out, first_in, rest_rises}
use Rattle.channel_sim.proofs.calls.sendings.Sendings.leave_before.Goals as goal

pub invariant_of-self : goal.invariant_of-self
invariant_of-self c =
    let list = c.self.inside.list.items in
    let old = c.first_place-old.result in
    let same : c.drop.new.self.0.items ≡ drop old list = c.drop.ensures.items ∙ c.drain.ensures.kept in
    subst (λ xs. AreFrom 0 (ticks xs)) (sym same) (subst (AreFrom 0) (sym (drop_ticks old list)) (rest_rises 0 old (ticks list) c.self.invariant))

pub returns : goal.returns
returns c =
    let list = c.self.inside.list.items in
    let old = c.first_place-old.result in
    let same : c.drop.new.self.0.items ≡ drop old list = c.drop.ensures.items ∙ c.drain.ensures.kept in
    let first : IsFirstFrom c.args.tick old (ticks list) = first_in c.args.tick old list _ c.deref.ensures.value c.first_place-old.ensures.first c.self.invariant in
    rw (← c.self.view_is) (left_out c.self.inside.since c.max-self-inside.result c.args.tick old list c.drop.new.self.0.items (omega arith) (omega arith) same first.before)
