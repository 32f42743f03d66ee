use Rattle.std.proofs.Common.{◌≡◌, ℕ, ◌+◌, ◌-◌, ◌++◌, if◌then◌else◌, List, suc, map, ap, sym, ◌∙◌, subst, arith}
use Rattle.channel_sim.specs.World.{due_in}
use Rattle.channel_sim.specs.Handing.{due_of, sent_way}
use Rattle.std.specs.List.{AllByRecursion}
use Rattle.channel_sim.specs.declared.calls.call.Call.{Call}
use Rattle.channel_sim.specs.Lag.{CallsLag}
use Rattle.channel_sim.specs.inner.Turns.{IsAmong, Rise}
use Rattle.channel_sim.proofs.DueLemmas.{none_early, all_at}
use Rattle.channel_sim.proofs.calls.due.all_due.Goals as goal
use Rattle.channel_sim.proofs.calls.due.all_due.Goals.{then-flow-eq0-via-then-flow-eq0, then-flow-eq0-via-else-flow-eq0+then-now-delay}

pub returns-then-flow-eq0 : goal.returns-then-flow-eq0
returns-then-flow-eq0 c =
    λ floor clock ks h above in_time.
    ap (map due_of) c.clear.ensures.items
    ∙ elim c.then-flow-eq0.branch [
      | then-flow-eq0-via-then-flow-eq0 w ↦ ap (λ d. due_in (sent_way c.args.up) d c.args.now ks) (sym w.if-flow-eq0.true)
      | then-flow-eq0-via-else-flow-eq0+then-now-delay w ↦ sym (none_early (sent_way c.args.up) c.args.flow c.args.now ks (omega (arith, w.if-now-delay.true, c.from-delay.ensures)))
    ]

pub returns-in_ok-add_only_due : goal.returns-in_ok-add_only_due
returns-in_ok-add_only_due c =
    λ floor clock ks h above in_time.
    let sent = c.args.now - c.from-delay.result in
    let way = sent_way c.args.up in
    let one = subst (AllByRecursion (λ (k : Call). AllByRecursion (λ s. s.tick ≡ sent → k.number ≡ c.in-Some.number) (if c.args.up then k.up else k.down))) (sym c.all.ensures) c.in-Some.ensures in
    all_at way c.args.flow c.args.now ks (map due_of c.add_only_due.new.due.items) sent c.if-flow-eq0.false
    (omega (arith, c.if-now-delay.false, c.from-delay.ensures))
    (λ d. c.in_ok-add_only_due.ensures d floor c.args.now clock ks (subst (λ xs. CallsLag floor clock xs ks) (sym c.all.ensures) h) above in_time one
    ∙ ap (λ z. map due_of z ++ due_in way (suc d) (sent + suc d) ks) c.clear.ensures.items)

pub returns-in_ok-add_listed_due : goal.returns-in_ok-add_listed_due
returns-in_ok-add_listed_due c =
    λ floor clock ks h above in_time.
    let sent = c.args.now - c.from-delay.result in
    let way = sent_way c.args.up in
    let listed = c.list_sent.new.numbers.items in
    let known = c.if-branch.true in
    let rise = subst Rise (sym c.deref.ensures.value) (c.in_ok-list_sent.ensures.rise known) in
    let all = subst (λ (xs : List Call). AllByRecursion (λ k. AllByRecursion (λ s. s.tick ≡ sent → IsAmong k.number c.deref.result.now) (if c.args.up then k.up else k.down)) xs) (sym c.all-then-branch.ensures)
    (subst (λ (ns : List ℕ). AllByRecursion (λ (k : Call). AllByRecursion (λ s. s.tick ≡ sent → IsAmong k.number ns) (if c.args.up then k.up else k.down)) c.args.calls.now) (sym c.deref.ensures.value) (c.in_ok-list_sent.ensures.all known)) in
    all_at way c.args.flow c.args.now ks (map due_of c.add_listed_due.new.due.items) sent c.if-flow-eq0.false
    (omega (arith, c.if-now-delay.false, c.from-delay.ensures))
    (λ d. c.in_ok-add_listed_due.ensures d floor c.args.now clock ks (subst (λ xs. CallsLag floor clock xs ks) (sym c.all-then-branch.ensures) h) above in_time rise all
    ∙ ap (λ z. map due_of z ++ due_in way (suc d) (sent + suc d) ks) c.clear.ensures.items)

pub returns-in_ok-add_all_due : goal.returns-in_ok-add_all_due
returns-in_ok-add_all_due c =
    λ floor clock ks h above in_time.
    let sent = c.args.now - c.from-delay.result in
    let way = sent_way c.args.up in
    all_at way c.args.flow c.args.now ks (map due_of c.add_all_due.new.due.items) sent c.if-flow-eq0.false
    (omega (arith, c.if-now-delay.false, c.from-delay.ensures))
    (λ d. c.in_ok-add_all_due.ensures d floor c.args.now clock ks (subst (λ xs. CallsLag floor clock xs ks) (sym c.all-else-branch.ensures) h) in_time
    ∙ ap (λ z. map due_of z ++ due_in way (suc d) (sent + suc d) ks) c.clear.ensures.items)
