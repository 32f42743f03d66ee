-- The queue of desk requests: what its ticks are as they are kept, and behind each move.
use Rattle.std.proofs.Common.{arith, ◌≡◌, ◌<◌, ◌≤◌, ◌+◌, ◌-◌, ◌*◌, ◌%◌, ℕ, zero, suc, false, cond, eqb, List, [], ◌∷◌, ◌++◌, map, take, drop, length, get_or, set, Option, Some, None, refl, ap, sym, ◌∙◌, inl, inr, subst, zero-add}
use Rattle.std.specs.Prelude.{◌≢◌, count_by}
use Rattle.std.specs.List.{AllByRecursion}
use Rattle.std.proofs.lemmas.Bool.{cases_Bool, cases_eq, cond-false, cond-true, cond_both, eq-eqb, eqb-false, eqb-true, ne_eqb}
use Rattle.std.proofs.lemmas.List.{get_or-set_other, get_or-set_same, length-drop, length-map, map-set, set-get_or}
use Rattle.std.proofs.Math.Seq.{take-add}
use Rattle.std.proofs.lemmas.List.Sums.{sum_by-cons, sum_by-take-drop}
use Rattle.relay_desk.specs.declared.pending.Wait.{Wait}
use Rattle.relay_desk.specs.Desk.{give_up_after}
use Rattle.relay_desk.specs.inner.Queue.{HasRoom, IsQueue, IsSettled, IsWait, SomeDue, aged, is_at, passed, passed_wait, turned}
use Rattle.relay_desk.specs.Waits.{gap, ticks_in, ticks_of}
use Rattle.relay_desk.proofs.Phases.{closes, due_then, gap_idle, gap_later, gap_turn, room_then}

-- those that aren't pending have no ticks
pub settled_ticks : (n p : ℕ) (ws : List (Option Wait)) → AllByRecursion IsSettled (take n ws) → AllByRecursion IsSettled (take n (map (ticks_in p) ws))
settled_ticks zero p ws h = tt
settled_ticks (suc n) p [] h = tt
settled_ticks (suc n) p (None ∷ ws) h = (tt, settled_ticks n p ws h.1)
settled_ticks (suc n) p (Some w ∷ ws) h = absurd h.0

-- n ticks in which no turn comes
pub idle_ticks :
    (p n : ℕ) (ws : List (Option Wait)) → p < 10 → AllByRecursion IsWait ws → AllByRecursion (HasRoom (n + 1)) (map (ticks_in p) ws)
    → map (ticks_in ((p + n) % 10)) ws ≡ map (aged n) (map (ticks_in p) ws)
idle_ticks p n [] h kept room = refl
idle_ticks p n (None ∷ ws) h kept room = ap (λ (r : List (Option ℕ)). None ∷ r) (idle_ticks p n ws h kept.1 room.1)
idle_ticks p n (Some w ∷ ws) h kept room =
    let e : ticks_of ((p + n) % 10) w ≡ ticks_of p w + n = gap_idle p w.at w.resent n h kept.0.0 room.0 in
    let r = idle_ticks p n ws h kept.1 room.1 in
    cc

-- A turn, and what it leaves.

-- it is given up at its hundredth tick, and otherwise grows by n
passed_turned :
    (p n : ℕ) (w : Wait) → p < 10 → IsWait (Some w) → 1 ≤ n → HasRoom n (Some (ticks_of p w)) → w.at ≡ (p + n) % 10
    → ticks_in ((p + n) % 10) (turned w) ≡ passed n (Some (ticks_of p w))
passed_turned p n w h kept some room same =
    let later : (w.resent + 1) * 10 + gap ((p + n) % 10) w.at ≡ ticks_of p w + n =
    gap_turn p w.at w.resent n h kept.0 some room same in
    cond_both (eqb w.resent 9) None (Some (record w { resent = w.resent + 1 }))
    (λ o. ticks_in ((p + n) % 10) o ≡ passed n (Some (ticks_of p w)))
    (λ last. let r : w.resent ≡ 9 = eqb-true _ _ last in
    sym (cond-true (eqb (ticks_of p w + n) give_up_after) None (Some (ticks_of p w + n)) (eq-eqb _ _ (omega arith))))
    (λ more. let r = eqb-false w.resent 9 more in
    ap (λ t. Some t) later
    ∙ sym (cond-false (eqb (ticks_of p w + n) give_up_after) None (Some (ticks_of p w + n)) (ne_eqb _ _ (λ e. omega (arith, r)))))

passed_later :
    (p n : ℕ) (w : Wait) → p < 10 → IsWait (Some w) → HasRoom n (Some (ticks_of p w)) → w.at ≢ (p + n) % 10
    → ticks_in ((p + n) % 10) (Some w) ≡ passed n (Some (ticks_of p w))
passed_later p n w h kept room other =
    let later : ticks_of ((p + n) % 10) w ≡ ticks_of p w + n = gap_later p w.at w.resent n h kept.0 room other in
    ap (λ t. Some t) later
    ∙ sym (cond-false (eqb (ticks_of p w + n) give_up_after) None (Some (ticks_of p w + n)) (ne_eqb _ _ (λ e. omega arith)))

passed_one :
    (p n : ℕ) (w : Wait) → p < 10 → IsWait (Some w) → 1 ≤ n → HasRoom n (Some (ticks_of p w))
    → ticks_in ((p + n) % 10) (passed_wait ((p + n) % 10) (Some w)) ≡ passed n (Some (ticks_of p w))
passed_one p n w h kept some room =
    cond_both (eqb w.at ((p + n) % 10)) (turned w) (Some w)
    (λ o. ticks_in ((p + n) % 10) o ≡ passed n (Some (ticks_of p w)))
    (λ same. passed_turned p n w h kept some room (eqb-true _ _ same))
    (λ other. passed_later p n w h kept room (eqb-false _ _ other))

pub passed_ticks :
    (p n : ℕ) (ws : List (Option Wait)) → p < 10 → AllByRecursion IsWait ws → 1 ≤ n
    → AllByRecursion (HasRoom n) (map (ticks_in p) ws)
    → map (ticks_in ((p + n) % 10)) (map (passed_wait ((p + n) % 10)) ws) ≡ map (passed n) (map (ticks_in p) ws)
passed_ticks p n [] h kept some room = refl
passed_ticks p n (None ∷ ws) h kept some room =
    ap (λ (r : List (Option ℕ)). None ∷ r) (passed_ticks p n ws h kept.1 some room.1)
passed_ticks p n (Some w ∷ ws) h kept some room =
    let e = passed_one p n w h kept.0 some room.0 in
    let r = passed_ticks p n ws h kept.1 some room.1 in
    cc

-- those in front that aren't pending are left alone
pub front_passed :
    (n phase : ℕ) (ws : List (Option Wait)) → AllByRecursion IsSettled (take n ws)
    → take n ws ++ map (passed_wait phase) (drop n ws) ≡ map (passed_wait phase) ws
front_passed zero phase ws h = refl
front_passed (suc n) phase [] h = refl
front_passed (suc n) phase (None ∷ ws) h = ap (λ (r : List (Option Wait)). None ∷ r) (front_passed n phase ws h.1)
front_passed (suc n) phase (Some w ∷ ws) h = absurd h.0

still_wait : (phase : ℕ) (w : Option Wait) → IsWait w → IsWait (passed_wait phase w)
still_wait phase None h = tt
still_wait phase (Some w) h =
    cond_both (eqb w.at phase) (turned w) (Some w) IsWait
    (λ _. cond_both (eqb w.resent 9) None (Some (record w { resent = w.resent + 1 })) IsWait (λ _. tt)
    (λ more. let r = eqb-false w.resent 9 more in (h.0, omega (arith, r))))
    (λ _. h)

passed_each : (phase : ℕ) (ws : List (Option Wait)) → AllByRecursion IsWait ws → AllByRecursion IsWait (map (passed_wait phase) ws)
passed_each phase [] h = tt
passed_each phase (w ∷ ws) h = (still_wait phase w h.0, passed_each phase ws h.1)

-- a turn at one tick in ten moves none of another
still_at : (i phase : ℕ) (w : Option Wait) → i ≢ phase → is_at i (passed_wait phase w) ≡ is_at i w
still_at i phase None h = refl
still_at i phase (Some w) h =
    cond_both (eqb w.at phase) (turned w) (Some w) (λ o. is_at i o ≡ is_at i (Some w))
    (λ same. let e : w.at ≡ phase = eqb-true _ _ same in
    let no : eqb w.at i ≡ false = ne_eqb _ _ (λ f. h (sym f ∙ e)) in
    cond_both (eqb w.resent 9) None (Some (record w { resent = w.resent + 1 })) (λ o. is_at i o ≡ is_at i (Some w))
    (λ _. sym no) (λ _. refl))
    (λ _. refl)

still_counted :
    (i phase : ℕ) (ws : List (Option Wait)) → i ≢ phase → count_by (is_at i) (map (passed_wait phase) ws) ≡ count_by (is_at i) ws
still_counted i phase [] h = refl
still_counted i phase (w ∷ ws) h =
    sum_by-cons (λ x. cond (is_at i x) 1 0) (passed_wait phase w) (map (passed_wait phase) ws)
    ∙ (ap (λ b. cond b 1 0 + count_by (is_at i) (map (passed_wait phase) ws)) (still_at i phase w h)
    ∙ (ap (λ n. cond (is_at i w) 1 0 + n) (still_counted i phase ws h)
    ∙ sym (sum_by-cons (λ x. cond (is_at i x) 1 0) w ws)))

-- none of those that aren't pending is counted
none_counted : (i : ℕ) (ws : List (Option Wait)) → AllByRecursion IsSettled ws → count_by (is_at i) ws ≡ 0
none_counted i [] h = refl
none_counted i (None ∷ ws) h = sum_by-cons (λ x. cond (is_at i x) 1 0) None ws ∙ (zero-add _ ∙ none_counted i ws h.1)
none_counted i (Some w ∷ ws) h = absurd h.0

pub rest_counted :
    (i n : ℕ) (ws : List (Option Wait)) → AllByRecursion IsSettled (take n ws) → count_by (is_at i) (drop n ws) ≡ count_by (is_at i) ws
rest_counted i n ws h =
    let none : count_by (is_at i) (take n ws) ≡ 0 = none_counted i (take n ws) h in
    let both : count_by (is_at i) (take n ws) + count_by (is_at i) (drop n ws) ≡ count_by (is_at i) ws =
    sum_by-take-drop (λ x. cond (is_at i x) 1 0) ws n in
    omega arith

settled_append : (ws vs : List (Option Wait)) → AllByRecursion IsSettled ws → AllByRecursion IsSettled vs → AllByRecursion IsSettled (ws ++ vs)
settled_append [] vs a b = b
settled_append (w ∷ ws) vs a b = (a.0, settled_append ws vs a.1 b)

still_settled : (n phase : ℕ) (ws : List (Option Wait)) → AllByRecursion IsSettled (take n ws) → AllByRecursion IsSettled (take n (map (passed_wait phase) ws))
still_settled zero phase ws h = tt
still_settled (suc n) phase [] h = tt
still_settled (suc n) phase (None ∷ ws) h = (tt, still_settled n phase ws h.1)
still_settled (suc n) phase (Some w ∷ ws) h = absurd h.0

-- the queue behind the turns of one tick in ten
pub passed_queue :
    (ws new : List (Option Wait)) (counts : List ℕ) (p phase first left settled : ℕ)
    → IsQueue ws p counts first → phase < 10 → phase < length counts
    → new ≡ map (passed_wait phase) ws
    → left ≡ count_by (is_at phase) (drop first new)
    → settled ≤ length (drop first new) → AllByRecursion IsSettled (take settled (drop first new))
    → IsQueue new phase (set counts phase left) (first + settled)
passed_queue ws new counts p phase first left settled q small within same counted few front =
    let Front : List (Option Wait) → Type 0 = λ xs. AllByRecursion IsSettled (take first xs) in
    let before : Front new = subst Front (sym same) (still_settled first phase ws q.front) in
    let Each : List (Option Wait) → Type 0 = AllByRecursion IsWait in
    let long : length new ≡ length ws = ap length same ∙ length-map ws (passed_wait phase) in
    let rest : length (drop first new) ≡ length new - first = length-drop first new in
    let q_within = q.within in
    record {
      in_ten = small;
      each = subst Each (sym same) (passed_each phase ws q.each);
      counted = λ i h. elim (cases_eq i phase) [
        | inl here ↦
            ap (λ k. get_or (set counts phase left) k 0) here
            ∙ (get_or-set_same counts phase left 0 within
            ∙ (counted ∙ (rest_counted phase first new before ∙ ap (λ k. count_by (is_at k) new) (sym here))))
        | inr there ↦
            get_or-set_other counts phase i left 0 there
            ∙ (q.counted i h ∙ (sym (still_counted i phase ws there) ∙ ap (count_by (is_at i)) (sym same)))
      ];
      within = omega arith;
      front =
          let All : List (Option Wait) → Type 0 = AllByRecursion IsSettled in
          subst All (sym (take-add first settled new)) (settled_append _ _ before front);
    }

-- one that isn't pending stays so
pub settled_ticks_stay :
    (p i : ℕ) (ws : List (Option Wait)) (x : Option Wait) → x ≡ get_or ws i x → x ≡ None
    → map (ticks_in p) ws ≡ set (map (ticks_in p) ws) i None
settled_ticks_stay p i ws x at none =
    let was : get_or ws i None ≡ None = ap (λ d. get_or ws i d) (sym none) ∙ (sym at ∙ none) in
    sym (sym (map-set (ticks_in p) ws i None)
    ∙ (ap (λ o. map (ticks_in p) (set ws i o)) (sym was) ∙ ap (map (ticks_in p)) (set-get_or ws i None)))

pub settled_ticks_end : (p i : ℕ) (ws : List (Option Wait)) → map (ticks_in p) (set ws i None) ≡ set (map (ticks_in p) ws) i None
settled_ticks_end p i ws = map-set (ticks_in p) ws i None

-- How soon a turn comes.

-- the count of one and the others
split_count : (i : ℕ) (w : Option Wait) (ws : List (Option Wait)) → count_by (is_at i) (w ∷ ws) ≡ cond (is_at i w) 1 0 + count_by (is_at i) ws
split_count i w ws = sum_by-cons (λ x. cond (is_at i x) 1 0) w ws

-- none is sent at a tick in ten whose count is 0
pub not_there : (i : ℕ) (w : Wait) (ws : List (Option Wait)) → count_by (is_at i) (Some w ∷ ws) ≡ 0 → w.at ≢ i
not_there i w ws none same =
    let e : cond (is_at i (Some w)) 1 0 ≡ 1 = cond-true (eqb w.at i) 1 0 (eq-eqb _ _ same) in
    let t : 0 ≡ 1 + count_by (is_at i) ws =
    sym none ∙ (split_count i (Some w) ws ∙ ap (λ n. n + count_by (is_at i) ws) e) in
    omega (arith, t)

rest_none : (i : ℕ) (w : Option Wait) (ws : List (Option Wait)) → count_by (is_at i) (w ∷ ws) ≡ 0 → count_by (is_at i) ws ≡ 0
rest_none i w ws none = let s = split_count i w ws in omega arith

pub room_all :
    (p n : ℕ) (ws : List (Option Wait)) → p < 10 → n ≤ 10 → AllByRecursion IsWait ws
    → ((m : ℕ) → 1 ≤ m → m < n → count_by (is_at ((p + m) % 10)) ws ≡ 0)
    → AllByRecursion (HasRoom n) (map (ticks_in p) ws)
room_all p n [] h most kept none = tt
room_all p n (None ∷ ws) h most kept none =
    (tt, room_all p n ws h most kept.1 (λ m a b. rest_none _ None ws (none m a b)))
room_all p n (Some w ∷ ws) h most kept none = (
  room_then p w.at w.resent n h kept.0.0 most (λ m a b. not_there _ w ws (none m a b)),
  room_all p n ws h most kept.1 (λ m a b. rest_none _ (Some w) ws (none m a b)),
)

pub some_due :
    (p n : ℕ) (ws : List (Option Wait)) → p < 10 → 1 ≤ n → n ≤ 10 → 0 < count_by (is_at ((p + n) % 10)) ws
    → SomeDue n (map (ticks_in p) ws)
some_due p n [] h some most there = absurd (omega (arith, there))
some_due p n (None ∷ ws) h some most there =
    let s = split_count ((p + n) % 10) None ws in inr (some_due p n ws h some most (omega arith))
some_due p n (Some w ∷ ws) h some most there =
    elim (cases_Bool (is_at ((p + n) % 10) (Some w))) [
      | inl here ↦ inl (due_then p w.at w.resent n h some most (eqb-true _ _ here))
      | inr there_later ↦
          let t : count_by (is_at ((p + n) % 10)) (Some w ∷ ws) ≡ 0 + count_by (is_at ((p + n) % 10)) ws =
          split_count ((p + n) % 10) (Some w) ws
          ∙ ap (λ k. k + count_by (is_at ((p + n) % 10)) ws) (cond-false _ 1 0 there_later) in
          inr (some_due p n ws h some most (omega (arith, t, there)))
    ]

pub all_settled :
    (p : ℕ) (ws : List (Option Wait)) → p < 10 → AllByRecursion IsWait ws
    → ((m : ℕ) → 1 ≤ m → m < 11 → count_by (is_at ((p + m) % 10)) ws ≡ 0)
    → AllByRecursion IsSettled (map (ticks_in p) ws)
all_settled p [] h kept none = tt
all_settled p (None ∷ ws) h kept none = (tt, all_settled p ws h kept.1 (λ m a b. rest_none _ None ws (none m a b)))
all_settled p (Some w ∷ ws) h kept none =
    let m : ℕ = 10 - ticks_of p w % 10 in
    absurd (not_there ((p + m) % 10) w ws (none m (omega arith) (omega arith)) (closes p w.at w.resent h kept.0.0))
