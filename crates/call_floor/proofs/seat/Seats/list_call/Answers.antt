use Rattle.std.proofs.Common.{◌≡◌, ◌<◌, ◌⊎◌, ◌++◌, ◌-◌, ℕ, List, OnOk, replicate, Some, option_map, false, length, get_or, refl, ap, sym, ◌∙◌, subst, arith}
use Rattle.std.proofs.lemmas.List.{append-nil}
use Rattle.channel_sim.specs.Lag.{level}
use Rattle.channel_sim.specs.Handing.{due_in_call}
use Rattle.call_floor.specs.Floor.{own, own_of}
use Rattle.call_floor.specs.inner.FloorAt.{listed_turns, numbers_of}
use Rattle.call_floor.proofs.ActingTurn.{ActsHere, acts_here, not_acting}
use Rattle.call_floor.proofs.ListedDue.{call_silent, floor_same, listed_more, on_ok, owned_more}
use Rattle.call_floor.proofs.seat.Seats.list_call.Goals as goal

pub returns-then-not-is_awake-clause-listed : goal.returns-then-not-is_awake-clause-listed
returns-then-not-is_awake-clause-listed c =
    λ acts floor v w h is_v pairs.
    let tick = c.args.tick in
    let ns : List ℕ = numbers_of w.stands in
    let off : (acts v ≡ false) ⊎ (v ≡ 0) = not_acting acts tick floor (λ a. tick) (λ a d. tick) w c.args.self.now.list.items c.args.one.place v h is_v (c.is_awake.ensures.later c.if-not-is_awake.true) in
    let old = listed_turns ns c.args.up c.args.room.now.owners.items c.args.room.now.due.items in
    sym (append-nil old) ∙ ap (λ l. old ++ l) (sym (call_silent acts c.args.up v c.args.one.call w h.order off))

pub returns-clause-same : goal.returns-clause-same
returns-clause-same c =
    λ acts floor w h.
    let tick = c.args.tick in
    floor_same acts tick floor (λ a. tick) (λ a d. tick) w c.args.self.now.list.items c.args.one.place c.index_mut.result.now c.list_due.new.self c.index_mut.ensures.value (c.is_awake.ensures.within c.if-not-is_awake.false) c.list_due.ensures.same h

pub returns-in_err-list_due-clause-same : goal.returns-in_err-list_due-clause-same
returns-in_err-list_due-clause-same c =
    λ acts floor w h.
    let tick = c.args.tick in
    floor_same acts tick floor (λ a. tick) (λ a d. tick) w c.args.self.now.list.items c.args.one.place c.index_mut.result.now c.list_due.new.self c.index_mut.ensures.value (c.is_awake.ensures.within c.if-not-is_awake.false) c.list_due.ensures.same h

pub returns-clause-listed : goal.returns-clause-listed
returns-clause-listed c =
    λ acts floor v w h is_v pairs.
    let tick = c.args.tick in
    let xs = c.args.self.now.list.items in
    let i = c.args.one.place in
    let x = c.index_mut.result.now in
    let at = c.index_mut.ensures.value in
    let low : i < length xs = c.is_awake.ensures.within c.if-not-is_awake.false in
    let it : ActsHere acts tick floor (λ a. tick) (λ a d. tick) w v x = acts_here acts tick floor (λ a. tick) (λ a d. tick) xs w v i x h is_v low at (c.is_awake.ensures.due c.if-not-is_awake.false) in
    let s = it.here.stand in
    let there : own_of v w ≡ Some (own w s) = ap (option_map (own w)) it.here.found in
    let more = c.in_ok-list_due.ensures.due tick (level floor floor) (λ d. tick) (own w s) (it.here.stands.awake it.on) in
    let counted : c.len.result ≡ length c.list_due.new.due.items = omega (arith, c.len.ensures) in
    on_ok c.own_all.result (λ owns. listed_more acts c.args.up v c.args.one.call i w (own w s) c.args.room.now.owners.items c.own_all.new.owners.items c.args.room.now.due.items c.list_due.new.due.items it.on there is_v pairs more owns) (subst (λ n. OnOk c.own_all.result (c.own_all.new.owners.items ≡ c.args.room.now.owners.items ++ replicate (n - length c.args.room.now.owners.items) i)) counted c.own_all.ensures)

pub returns-clause-lengths : goal.returns-clause-lengths
returns-clause-lengths c =
    λ acts floor w h pairs.
    let tick = c.args.tick in
    let xs = c.args.self.now.list.items in
    let i = c.args.one.place in
    let v : ℕ = get_or (numbers_of w.stands) i 0 in
    let x = c.index_mut.result.now in
    let at = c.index_mut.ensures.value in
    let low : i < length xs = c.is_awake.ensures.within c.if-not-is_awake.false in
    let it : ActsHere acts tick floor (λ a. tick) (λ a d. tick) w v x = acts_here acts tick floor (λ a. tick) (λ a d. tick) xs w v i x h refl low at (c.is_awake.ensures.due c.if-not-is_awake.false) in
    let u = own w it.here.stand in
    let more = c.in_ok-list_due.ensures.due tick (level floor floor) (λ d. tick) u (it.here.stands.awake it.on) in
    let counted : c.len.result ≡ length c.list_due.new.due.items = omega (arith, c.len.ensures) in
    on_ok c.own_all.result (λ owns. owned_more i c.args.room.now.owners.items c.own_all.new.owners.items c.args.room.now.due.items c.list_due.new.due.items (due_in_call c.args.up c.args.one.call u) pairs more owns) (subst (λ n. OnOk c.own_all.result (c.own_all.new.owners.items ≡ c.args.room.now.owners.items ++ replicate (n - length c.args.room.now.owners.items) i)) counted c.own_all.ensures)
