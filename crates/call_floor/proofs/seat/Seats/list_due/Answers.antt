use Rattle.std.proofs.Common.{◌≡◌, ◌<◌, ◌≤◌, ◌+◌, ◌++◌, ℕ, suc, List, length, get_or, take, refl, ap, sym, ◌∙◌, arith}
use Rattle.call_floor.specs.Floor.{Turn}
use Rattle.call_floor.specs.inner.FloorAt.{call_turns, listed_turns, numbers_of, plays_if}
use Rattle.call_floor.proofs.DueCalls.{all_more, all_turns, live_due}
use Rattle.call_floor.proofs.Gone.{Named}
use Rattle.call_floor.proofs.LiveCalls.{live_named}
use Rattle.call_floor.proofs.Loops.{named_at, named_length, taken_all}
use Rattle.call_floor.proofs.LoopFronts.{at_self, no_live, no_name}
use Rattle.call_floor.proofs.seat.Seats.list_due.Goals as goal

pub loop-one-init : goal.loop-one-init
loop-one-init c =
    record {
      lengths = λ acts floor w h. ap length c.clear-2.ensures.items ∙ sym (ap length c.clear.ensures.items);
      same = λ acts floor w h. h;
      listed = λ acts floor w h ready. ap (λ ps. listed_turns (numbers_of w.stands) c.args.up ps c.clear.new.self.items) c.clear-2.ensures.items;
    }

pub loop-one-preserved : goal.loop-one-preserved
loop-one-preserved c =
    record {
      lengths = λ acts floor w h. c.in_ok-list_call.ensures.lengths acts floor w (c.loop-one.invariant.same acts floor w h) (c.loop-one.invariant.lengths acts floor w h);
      same = λ acts floor w h. c.list_call.ensures.same acts floor w (c.loop-one.invariant.same acts floor w h);
      listed =
          λ acts floor w h ready.
          let ls = c.args.live.now in
          let i = c.loop-one.one-index in
          let one = get_or ls i no_live in
          let ns : List ℕ = numbers_of w.stands in
          let xs : List Named = live_named ns ls in
          let v : ℕ = get_or ns one.place 0 in
          let within : i < length ls = c.loop-one-test.true in
          let named = named_length ns ls in
          let inside : i < length xs = omega (arith, within, named) in
          let it : get_or xs i no_name ≡ record { vehicle = v; number = one.call } = named_at ns ls i one no_name within (at_self ls i no_live within) in
          let did = c.in_ok-list_call.ensures.listed acts floor v w (c.loop-one.invariant.same acts floor w h) refl (c.loop-one.invariant.lengths acts floor w h) in
          let same : i + 1 ≡ suc i = omega arith in
          did
          ∙ ap (λ l. l ++ call_turns acts c.args.up v one.call w) (c.loop-one.invariant.listed acts floor w h ready)
          ∙ ap (λ (q : Named). all_turns acts c.args.up w (take i xs) ++ call_turns acts c.args.up q.vehicle q.number w) (sym it)
          ∙ sym (all_more acts c.args.up w i xs no_name inside)
          ∙ ap (λ n. all_turns acts c.args.up w (take n xs)) (sym same);
    }

pub returns-clause-listed : goal.returns-clause-listed
returns-clause-listed c =
    λ acts floor w h ready u.
    let ls = c.args.live.now in
    let ns : List ℕ = numbers_of w.stands in
    let xs : List Named = live_named ns ls in
    let past : length ls ≤ c.loop-one.one-index = c.loop-one-test.false in
    let named = named_length ns ls in
    let over : length xs ≤ c.loop-one.one-index = omega (arith, past, named) in
    ap (λ (ts : List Turn). plays_if acts ts u) (c.loop-one.invariant.listed acts floor w h ready ∙ ap (all_turns acts c.args.up w) (taken_all xs c.loop-one.one-index over))
    ∙ live_due acts c.args.up w ls ready.live u

pub returns-in_err-list_call-clause-same : goal.returns-in_err-list_call-clause-same
returns-in_err-list_call-clause-same c = λ acts floor w h. c.list_call.ensures.same acts floor w (c.loop-one.invariant.same acts floor w h)
