-- A turn that owes keeps a joint trace that fits.
use Rattle.std.specs.Prelude.{◌≡◌, ◌≤◌, ◌<◌, ◌+◌, ℕ, true, false, Bool, List, [], ◌∷◌, ◌++◌, Option, Some, None, IfSome, ◌==◌, if◌then◌else◌}
use Rattle.std.specs.List.{AllByRecursion}
use Rattle.std.proofs.Common.{refl, sym, ap, subst, ◌∙◌, arith}
use Rattle.std.proofs.lemmas.Bool.{eq-eqb, ne_eqb}
use Rattle.link_frames.specs.declared.frame.End.{End}
use Rattle.link_frames.specs.declared.frame.End.TheVariants as «end»
use Rattle.link_frames.specs.declared.frame.Frame.{Frame}
use Rattle.link_frames.specs.declared.note.Note.{Note}
use Rattle.link_frames.specs.Legs.{through, owner}
use Rattle.link_frames.specs.Owes.{Seat, OwnedBy, Along, MayGive, Owes, OwesArrival, fresh_seat, seat_moved, elapsed}
use Rattle.trace_model.specs.declared.entry.Entry.{Entry}
use Rattle.trace_model.specs.History.{told, sets_step}
use Rattle.trace_model.specs.Safety.{is_leg, is_owned, own, first_leg, leg_step}
use Rattle.trace_model.proofs.Folds.{AllOf}
use Rattle.trace_fit.specs.Order.{IsDrawn}
use Rattle.trace_fit.specs.inner.FitAt.{Came, Seats, Clocks, FitAt, Moves}
use Rattle.trace_fit.proofs.Lists.{all_append, all_into}
use Rattle.trace_fit.proofs.RowOwes.{event_kept, unit_kept, arrival_kept}
use Rattle.trace_fit.proofs.Clocks.{reclock}
use Rattle.live_link.specs.Turns.{Turn}
use Rattle.live_link.proofs.Owed.{Place, seat_for, frame_of, HearsTurn, ComesUpTurn, PassesTurn}
use Rattle.live_link.proofs.Moved.{Places, place, with_end, seats, clocks, each_end, own_seat, seat_apart, moves}

-- an item is of no call of this end whose number is above this one
abbrev pub IsBelow : End → (high : ℕ) → Option (End × ℕ) → Type 0
IsBelow e high None = Unit {0}
IsBelow e high (Some o) = o.0 ≡ e → o.1 ≤ high

abbrev pub AllBelow : End → (high : ℕ) → List Entry → Type 0
AllBelow e high t = AllByRecursion (λ x. IsBelow e high (owner x.note)) t

-- Both ends ran apart up to their places, and this is their joint trace.
pub record Joined (now : ℕ) (ps : Places) (t : List Entry) : Type 0 where
  pub last : ℕ
  pub fit : FitAt (clocks ps) (seats ps) now last t
  pub below : (e : End) → AllBelow e (place ps e).high t
  pub low : (e : End) → (place ps e).call ≤ (place ps e).high
  pub drawn : (e : End) → (place ps e).high ≤ last

-- Numbers.

unowned : (e : End) (c high : ℕ) → high < c → (o : Option (End × ℕ)) → IsBelow e high o → is_owned e c o ≡ false
unowned e c high above None h = refl
unowned e c high above (Some o) h = at e o.0 h
  where
    at : (e f : End) → (f ≡ e → o.1 ≤ high) → is_leg e c f o.1 ≡ false
    at «end».Vehicle «end».Vehicle k = ne_eqb c o.1 (λ q. absurd (omega (arith, above, k refl, q)))
    at «end».Vehicle «end».Point k = refl
    at «end».Point «end».Vehicle k = refl
    at «end».Point «end».Point k = ne_eqb c o.1 (λ q. absurd (omega (arith, above, k refl, q)))

-- nothing was told of a call of this end whose number is above
fresh : {H : Type 0} (step : H → Entry → H) (h : H) (e : End) (c high : ℕ) → high < c → (t : List Entry) →
    AllBelow e high t → through (own step e c) h t ≡ h
fresh step h e c high above [] a = refl
fresh step h e c high above (x ∷ t) a =
    let same : own step e c h x ≡ h = rw (unowned e c high above (owner x.note) a.0) refl in
    ap (λ z. through (own step e c) z t) same ∙ fresh step h e c high above t a.1

below_one : (e f : End) (c high : ℕ) → (e ≡ f → c ≤ high) → (o : Option (End × ℕ)) → OwnedBy e c o → IsBelow f high o
below_one e f c high h None a = tt
below_one e f c high h (Some o) a =
    λ same. subst (λ (z : ℕ). z ≤ high) (sym a.1) (h (sym a.0 ∙ same))

below_told : (e f : End) (c high now : ℕ) → (e ≡ f → c ≤ high) → (ns : List Note) → AllOf e c ns →
    AllBelow f high (told now ns)
below_told e f c high now h [] a = tt
below_told e f c high now h (n ∷ ns) a = (below_one e f c high h (owner n) a.0, below_told e f c high now h ns a.1)

more_one : (f : End) (low high : ℕ) → low ≤ high → (o : Option (End × ℕ)) → IsBelow f low o → IsBelow f high o
more_one f low high h None a = tt
more_one f low high h (Some o) a = λ same. omega (arith, h, a same)

below_more : (f : End) (low high : ℕ) → low ≤ high → (t : List Entry) → AllBelow f low t → AllBelow f high t
below_more f low high h t a = all_into _ _ (λ x k. more_one f low high h (owner x.note) k) t a

drawn_one : (low high : ℕ) → low ≤ high → (o : Option (End × ℕ)) → IsDrawn low o → IsDrawn high o
drawn_one low high h None a = tt
drawn_one low high h (Some o) a = omega (arith, h, a)

-- more numbers may be drawn
drawn_more : (clock : Clocks) (seat : Seats) (now low high : ℕ) (t : List Entry) → low ≤ high →
    FitAt clock seat now low t → FitAt clock seat now high t
drawn_more clock seat now low high t h fit =
    record {
      seats = fit.seats;
      in_time = fit.in_time;
      near = fit.near;
      links = fit.links;
      drawn = all_into _ _ (λ x k. drawn_one low high h (owner x.note) k) t fit.drawn;
      rises = fit.rises;
      agreed = fit.agreed;
      ordered = fit.ordered;
      safe = fit.safe;
    }

along_own : (e : End) (c : ℕ) (came : Option Frame) (s : Option Seat) (ns : List Note) →
    Along (MayGive e c came) e s ns → AllOf e c ns
along_own e c came s [] a = tt
along_own e c came s (n ∷ ns) a = (a.0.0, along_own e c came (seat_moved e s n) ns a.1)

arrival_own : (e : End) (c : ℕ) (ns : List Note) (new : Option Seat) → OwesArrival e c ns new → AllOf e c ns
arrival_own e c ns new h =
    subst (λ (z : List Note). AllOf e c z) (sym h.up)
    ((refl, refl), along_own e c None (Some fresh_seat) h.rest h.owes.given)

-- what the entries say of numbers, behind a turn
still_below : (now : ℕ) (e : End) (c : ℕ) (q : Place) (ps : Places) (t : List Entry) (ns : List Note)
    → (place ps e).high ≤ q.high
    → c ≤ q.high
    → AllOf e c ns
    → ((f : End) → AllBelow f (place ps f).high t)
    → (f : End) → AllBelow f (place (with_end e q ps) f).high (t ++ told now ns)
still_below now e c q ps t ns grows low own old =
    each_end (λ f p. AllBelow f p.high (t ++ told now ns)) e q ps
    (all_append _ t (told now ns) (below_more e (place ps e).high q.high grows t (old e))
    (below_told e e c q.high now (λ same. low) ns own))
    (λ f apart. all_append _ t (told now ns) (old f)
    (below_told e f c (place ps f).high now (λ same. absurd (apart same)) ns own))

mine : (c : ℕ) → (s : Option Seat) → IfSome s (λ k. c ≡ c)
mine c None = tt
mine c (Some k) = refl

-- The turns.

pub hears_kept : (now : ℕ) (ps : Places) (t : List Entry) (e : End) (turn : Turn) (q : Place)
    → Joined now ps t
    → (place ps e).clock ≡ now
    → IfSome (frame_of turn.came) (Came e (place ps e).call t)
    → HearsTurn e (place ps e) turn q
    → Joined now (with_end e q ps) (t ++ told now turn.items)
hears_kept now ps t e turn q j passed came h =
    let c : ℕ = (place ps e).call in
    let low : c ≤ (place ps e).high = j.low e in
    let drawn : (place ps e).high ≤ j.last = j.drawn e in
    let high : q.high ≡ (place ps e).high = h.stays.high in
    let m : Moves (clocks ps) (clocks (with_end e q ps)) (seats ps) (seats (with_end e q ps)) e c q.seat =
    moves e c q ps (mine c (place ps e).seat) h.stays.call h.clock in
    record {
      last = j.last;
      fit =
          reclock (clocks ps) (clocks (with_end e q ps)) (seats (with_end e q ps)) now j.last (t ++ told now turn.items)
          (event_kept (clocks ps) (seats ps) (seats (with_end e q ps)) now j.last t e c (frame_of turn.came) turn.items q.seat
          j.fit (omega arith) came passed
          (subst (λ (z : Option Seat). Owes e c (frame_of turn.came) z turn.items q.seat) (sym (own_seat (place ps e))) h.owes)
          (record { here = m.here; others = m.others; clocks = λ f d apart. refl }))
          (λ f d. any _ _ (same_clocks f d) (seats (with_end e q ps) f d))
          (λ f d. subst (λ (z : ℕ). now ≤ z + 1) (sym (same_clocks f d)) (j.fit.near f d));
      below =
          still_below now e c q ps t turn.items (omega arith) (omega arith) (along_own e c _ _ turn.items h.owes.given) j.below;
      low = each_end (λ f p. p.call ≤ p.high) e q ps h.stays.low (λ f apart. j.low f);
      drawn = each_end (λ f p. p.high ≤ j.last) e q ps (omega arith) (λ f apart. j.drawn f);
    }
  where
    same_clocks : (f : End) (d : ℕ) → clocks (with_end e q ps) f d ≡ clocks ps f d
    same_clocks f d = each_end (λ g p. p.clock ≡ (place ps g).clock) e q ps h.clock (λ g apart. refl) f

    any : (x y : ℕ) → x ≡ y → (o : Option Seat) → IfSome o (λ s. x ≡ y)
    any x y k None = tt
    any x y k (Some s) = k

pub comes_up_kept : (now : ℕ) (ps : Places) (t : List Entry) (e : End) (turn : Turn) (q : Place)
    → Joined now ps t
    → (place ps e).clock ≡ now
    → ComesUpTurn e (place ps e) turn q
    → Joined now (with_end e q ps) (t ++ told now turn.items)
comes_up_kept now ps t e turn q j passed h =
    let c : ℕ = q.call in
    let last : ℕ = j.last + c in
    let above : (place ps e).high < c = h.above in
    let high : q.high ≡ c = h.high in
    let m : Moves (clocks ps) (clocks (with_end e q ps)) (seats ps) (seats (with_end e q ps)) e c q.seat =
    moves e c q ps (rw h.out tt) (mine c q.seat) h.clock in
    record {
      last = last;
      fit =
          reclock (clocks ps) (clocks (with_end e q ps)) (seats (with_end e q ps)) now last (t ++ told now turn.items)
          (arrival_kept (clocks ps) (seats ps) (seats (with_end e q ps)) now last t e c turn.items q.seat
          (drawn_more (clocks ps) (seats ps) now j.last last t (omega arith) j.fit) (omega arith)
          (fresh leg_step first_leg e c (place ps e).high above t (j.below e))
          (fresh (sets_step e) [] e c (place ps e).high above t (j.below e))
          passed h.owes
          (record { here = m.here; others = m.others; clocks = λ f d apart. refl }))
          (λ f d. any _ _ (same_clocks f d) (seats (with_end e q ps) f d))
          (λ f d. subst (λ (z : ℕ). now ≤ z + 1) (sym (same_clocks f d)) (j.fit.near f d));
      below =
          still_below now e c q ps t turn.items (omega arith) (omega arith) (arrival_own e c turn.items q.seat h.owes) j.below;
      low = each_end (λ f p. p.call ≤ p.high) e q ps (omega arith) (λ f apart. j.low f);
      drawn =
          each_end (λ f p. p.high ≤ last) e q ps (omega arith)
          (λ f apart. let d : (place ps f).high ≤ j.last = j.drawn f in omega arith);
    }
  where
    same_clocks : (f : End) (d : ℕ) → clocks (with_end e q ps) f d ≡ clocks ps f d
    same_clocks f d = each_end (λ g p. p.clock ≡ (place ps g).clock) e q ps h.clock (λ g apart. refl) f

    any : (x y : ℕ) → x ≡ y → (o : Option Seat) → IfSome o (λ s. x ≡ y)
    any x y k None = tt
    any x y k (Some s) = k

-- just one leg was passed
abbrev one_passed : Clocks → (now : ℕ) → End → ℕ → Clocks
one_passed clock now e c f d = if is_leg f d e c then now else clock f d

pub passes_kept : (now : ℕ) (ps : Places) (t : List Entry) (e : End) (turn : Turn) (q : Place)
    → Joined now ps t
    → (place ps e).clock + 1 ≡ now
    → PassesTurn e (place ps e) turn q
    → Joined now (with_end e q ps) (t ++ told now turn.items)
passes_kept now ps t e turn q j next h =
    let c : ℕ = (place ps e).call in
    let low : c ≤ (place ps e).high = j.low e in
    let drawn : (place ps e).high ≤ j.last = j.drawn e in
    let high : q.high ≡ (place ps e).high = h.stays.high in
    record {
      last = j.last;
      fit =
          reclock (one_passed (clocks ps) now e c) (clocks (with_end e q ps)) (seats (with_end e q ps)) now j.last
          (t ++ told now turn.items)
          (unit_kept (clocks ps) (one_passed (clocks ps) now e c) (seats ps) (seats (with_end e q ps)) now j.last t e c
          turn.items q.seat j.fit (omega arith) next (passed e)
          (subst (λ (z : Option Seat). Owes e c None (elapsed z) turn.items q.seat) (sym (own_seat (place ps e))) h.owes)
          (moved_one e h.stays.call))
          (λ f d. clock_of e f d h.stays.call (h.clock ∙ next))
          (λ f d. near f d);
      below =
          still_below now e c q ps t turn.items (omega arith) (omega arith) (along_own e c _ _ turn.items h.owes.given) j.below;
      low = each_end (λ f p. p.call ≤ p.high) e q ps h.stays.low (λ f apart. j.low f);
      drawn = each_end (λ f p. p.high ≤ j.last) e q ps (omega arith) (λ f apart. j.drawn f);
    }
  where
    passed : (e : End) → one_passed (clocks ps) now e (place ps e).call e (place ps e).call ≡ now
    passed «end».Vehicle = rw (eq-eqb ps.vehicle.call ps.vehicle.call refl) refl
    passed «end».Point = rw (eq-eqb ps.point.call ps.point.call refl) refl

    moved_one : (e : End) → IfSome q.seat (λ k. q.call ≡ (place ps e).call) →
        Moves (clocks ps) (one_passed (clocks ps) now e (place ps e).call) (seats ps) (seats (with_end e q ps)) e (place ps e).call q.seat
    moved_one e new =
        let m : Moves (clocks ps) (clocks (with_end e (record q { clock = (place ps e).clock }) ps)) (seats ps)
        (seats (with_end e (record q { clock = (place ps e).clock }) ps)) e (place ps e).call q.seat =
        moves e (place ps e).call (record q { clock = (place ps e).clock }) ps (mine (place ps e).call (place ps e).seat) new refl in
        record {
          here = same_seat e e (place ps e).call ∙ m.here;
          others = λ f d apart. same_seat e f d ∙ m.others f d apart;
          clocks = λ f d apart. ap (λ b. if b then now else (place ps f).clock) apart;
        }
      where
        same_seat : (e f : End) (d : ℕ) →
            seats (with_end e q ps) f d ≡ seats (with_end e (record q { clock = (place ps e).clock }) ps) f d
        same_seat «end».Vehicle «end».Vehicle d = refl
        same_seat «end».Vehicle «end».Point d = refl
        same_seat «end».Point «end».Vehicle d = refl
        same_seat «end».Point «end».Point d = refl

    any : (x y : ℕ) → x ≡ y → (o : Option Seat) → IfSome o (λ s. x ≡ y)
    any x y k None = tt
    any x y k (Some s) = k

    own_clock : (d c : ℕ) (clock : ℕ) → IfSome q.seat (λ k. q.call ≡ c) → q.clock ≡ now →
        IfSome (seat_for d q) (λ s. q.clock ≡ (if d == c then now else clock))
    own_clock d c clock new k = at (d == c) refl
      where
        at : (b : Bool) → (d == c) ≡ b → IfSome (seat_for d q) (λ s. q.clock ≡ (if d == c then now else clock))
        at true x = any _ _ (k ∙ ap (λ b. if b then now else clock) (sym x)) (seat_for d q)
        at false x = rw (seat_apart c d q x new) tt

    clock_of : (e f : End) (d : ℕ) → IfSome q.seat (λ k. q.call ≡ (place ps e).call) → q.clock ≡ now →
        IfSome (seats (with_end e q ps) f d) (λ s. clocks (with_end e q ps) f d ≡ one_passed (clocks ps) now e (place ps e).call f d)
    clock_of «end».Vehicle «end».Vehicle d new k = own_clock d ps.vehicle.call ps.vehicle.clock new k
    clock_of «end».Vehicle «end».Point d new k = any _ _ refl (seat_for d ps.point)
    clock_of «end».Point «end».Vehicle d new k = any _ _ refl (seat_for d ps.vehicle)
    clock_of «end».Point «end».Point d new k = own_clock d ps.point.call ps.point.clock new k

    near : (f : End) (d : ℕ) → now ≤ clocks (with_end e q ps) f d + 1
    near f d =
        each_end (λ g p. now ≤ p.clock + 1) e q ps (let k : q.clock ≡ (place ps e).clock + 1 = h.clock in omega arith)
        (λ g apart. j.fit.near g d) f
