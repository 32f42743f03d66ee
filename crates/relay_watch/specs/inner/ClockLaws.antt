-- The laws of the relay desk with its tick, proved: what comes one behind the other is written one behind the other,
-- and ticks pass one by one or many at once. Cited by the listener of this crate and by its private functions.
use Rattle.std.specs.Prelude.{◌≡◌, ◌<◌, ℕ, zero, suc, ◌+◌, List, [], ◌∷◌, ◌++◌, map, Option}
use Rattle.std.proofs.Common.{sym, ◌∙◌, ap, refl, arith, subst, append_assoc, add-zero}
use Rattle.std.proofs.lemmas.List.{append-nil}
use Rattle.call_io.specs.Bytes.{Grew, GrewPartly}
use Rattle.call_io.proofs.BytesLemmas.{Grew-nothing, Grew-append, GrewPartly-after, GrewPartly-longer}
use Rattle.trace_model.specs.declared.entry.Entry.{Entry}
use Rattle.relay_desk.specs.Desk as desk
use Rattle.relay_desk.specs.Desk.{Row}
use Rattle.relay_text.specs.ItemLine.{relay_entry_line, text_with_desk}
use Rattle.relay_text.specs.ItemLine.{RelayEntry, OfDesk}
use Rattle.relay_watch.specs.declared.clock.DeskClock.{DeskClock}
use Rattle.relay_watch.specs.Clocks.{Clock, Came, IsTold, and_then, came_quietly, clock_of, elapses, follows, meets, row_at, ticks_once}

pub text_with_desk-append : (xs ys : List RelayEntry)
    → text_with_desk (xs ++ ys) ≡ text_with_desk xs ++ text_with_desk ys
text_with_desk-append [] ys = refl
text_with_desk-append (x ∷ xs) ys =
    ap (λ t. relay_entry_line x ++ t) (text_with_desk-append xs ys)
    ∙ sym (append_assoc (relay_entry_line x) (text_with_desk xs) (text_with_desk ys))

-- what comes behind nothing, and nothing behind it
pub then_nothing : (a : Came) → and_then a came_quietly ≡ a
then_nothing a = ap (λ is. record { items = is; clock = a.clock }) (append-nil a.items)

pub then_again : (a : Came) (f g : Clock → Came)
    → and_then (and_then a f) g ≡ and_then a (λ c. and_then (f c) g)
then_again a f g =
    let b : Came = f a.clock in
    ap (λ is. record { items = is; clock = (g b.clock).clock }) (append_assoc a.items b.items (g b.clock).items)

-- what comes is written one behind the other
pub told_then : (a : Came) (f : Clock → Came) (mid new : DeskClock) (h h1 h2 : Option (List ℕ)) → IsTold a mid h h1
    → IsTold (f (clock_of mid)) new h1 h2 → IsTold (and_then a f) new h h2
told_then a f mid new h h1 h2 first second =
    let s : IsTold (f a.clock) new h1 h2 = subst (λ (c : Clock). IsTold (f c) new h1 h2) first.clock second in
    record {
      clock = s.clock;
      wrote =
          subst (Grew h h2) (sym (text_with_desk-append a.items (f a.clock).items))
          (Grew-append h h1 h2 (text_with_desk a.items) (text_with_desk (f a.clock).items) first.wrote s.wrote);
    }

pub told_partly : (a : Came) (f : Clock → Came) (mid : DeskClock) (h h1 h2 : Option (List ℕ)) → IsTold a mid h h1
    → GrewPartly h1 h2 (text_with_desk (f (clock_of mid)).items) → GrewPartly h h2 (text_with_desk (and_then a f).items)
told_partly a f mid h h1 h2 first part =
    let s : GrewPartly h1 h2 (text_with_desk (f a.clock).items) =
    subst (λ (c : Clock). GrewPartly h1 h2 (text_with_desk (f c).items)) first.clock part in
    subst (GrewPartly h h2) (sym (text_with_desk-append a.items (f a.clock).items))
    (GrewPartly-after h h1 h2 (text_with_desk a.items) (text_with_desk (f a.clock).items) first.wrote s)

pub partly_then : (a : Came) (f : Clock → Came) (h h1 : Option (List ℕ)) → GrewPartly h h1 (text_with_desk a.items)
    → GrewPartly h h1 (text_with_desk (and_then a f).items)
partly_then a f h h1 part =
    subst (GrewPartly h h1) (sym (text_with_desk-append a.items (f a.clock).items))
    (GrewPartly-longer h h1 (text_with_desk a.items) (text_with_desk (f a.clock).items) part)

pub told_nothing : (kept : DeskClock) (h : Option (List ℕ)) → IsTold (came_quietly (clock_of kept)) kept h h
told_nothing kept h = record { clock = refl; wrote = Grew-nothing h }

-- entries one behind the other are followed one behind the other
pub follows-append : (xs ys : List Entry) (c : Clock) → follows (xs ++ ys) c ≡ and_then (follows xs c) (follows ys)
follows-append [] ys c = refl
follows-append (x ∷ xs) ys c =
    let m : Came = meets x c in
    ap (λ r. record { items = m.items ++ r.items; clock = r.clock }) (follows-append xs ys m.clock)
    ∙ sym (then_again m (follows xs) (follows ys))

-- ticks one by one, or many at once
pub elapses-add : (n m : ℕ) (c : Clock) → elapses (m + n) c ≡ and_then (elapses m c) (elapses n)
elapses-add zero m c = ap (λ k. elapses k c) (add-zero m) ∙ sym (then_nothing (elapses m c))
elapses-add (suc n) m c =
    let e : m + suc n ≡ suc (m + n) = omega arith in
    ap (λ k. elapses k c) e
    ∙ ap (λ r. and_then r ticks_once) (elapses-add n m c)
    ∙ then_again (elapses m c) (elapses n) ticks_once

-- one more tick behind ticks that bring nothing
quiet_then : (tick n : ℕ) (r : Row) → r.items ≡ []
    → and_then (row_at (tick + n) r) ticks_once ≡ row_at (tick + suc n) (desk.and_then r desk.unit)
quiet_then tick n r none =
    let e : tick + n + 1 ≡ tick + suc n = omega arith in
    ap (λ is. record {
      items = map (OfDesk (tick + n)) is ++ map (OfDesk (tick + n + 1)) (desk.unit r.desk).items;
      clock = record { desk = (desk.unit r.desk).desk; tick = tick + n + 1 };
    }) none
    ∙ ap (λ t. row_at t (desk.unit r.desk)) e
    ∙ ap (λ is. row_at (tick + suc n)
    (record { items = is ++ (desk.unit r.desk).items; desk = (desk.unit r.desk).desk })) (sym none)

-- ticks of which the last alone brings items
pub elapses_at_once : (n : ℕ) (c : Clock) → ((m : ℕ) → m < n → (desk.units m c.desk).items ≡ [])
    → elapses n c ≡ row_at (c.tick + n) (desk.units n c.desk)
elapses_at_once zero c quiet =
    ap (λ t. record { items = []; clock = record { desk = c.desk; tick = t } }) (sym (add-zero c.tick))
elapses_at_once (suc n) c quiet =
    ap (λ r. and_then r ticks_once) (elapses_at_once n c (λ m less. quiet m (omega (arith, less))))
    ∙ quiet_then c.tick n (desk.units n c.desk) (quiet n (omega arith))
