use Rattle.std.proofs.Common.{arith, ◌+◌, ◌%◌, ◌∙◌, ap, map, drop}
use Rattle.std.specs.Prelude.{count_by}
use Rattle.std.proofs.lemmas.List.{take_rest}
use Rattle.relay_desk.specs.inner.Queue.{is_at}
use Rattle.relay_desk.specs.Waits.{ticks_in}
use Rattle.relay_desk.proofs.QueueLemmas.{front_passed, passed_queue, passed_ticks}
use Rattle.relay_desk.proofs.pending.Pending.pass.Goals as goal

pub invariant_of-self : goal.invariant_of-self
invariant_of-self c =
    let phase = (c.self.inside.phase + c.args.n) % 10 in
    let first = c.self.inside.first in
    let same = c.pass_from.ensures ∙ front_passed first phase c.self.inside.waits.items c.self.invariant.front in
    let rest = take_rest c.deref-2.result.now first ∙ ap (drop first) c.deref-2.ensures.value in
    passed_queue c.self.inside.waits.items c.pass_from.new.waits.items c.self.inside.counts c.self.inside.phase phase first
    c.count_at.result c.settled_front.result c.self.invariant (omega arith) (omega arith) same
    (c.count_at.ensures ∙ ap (count_by (is_at phase)) (take_rest _ first ∙ ap (drop first) c.deref.ensures.value))
    (rw (← rest) c.settled_front.ensures.within)
    (rw (← rest) c.settled_front.ensures.front)

pub returns : goal.returns
returns c =
    let phase = (c.self.inside.phase + c.args.n) % 10 in
    rw (← c.self.view_is)
    (ap (map (ticks_in phase))
    (c.pass_from.ensures ∙ front_passed c.self.inside.first phase c.self.inside.waits.items c.self.invariant.front)
    ∙ passed_ticks c.self.inside.phase c.args.n c.self.inside.waits.items c.self.invariant.in_ten c.self.invariant.each
    c.requires.some (rw c.self.view_is c.requires.room))
