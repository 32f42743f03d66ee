-- Desk requests by the places of their sets: one that is made, one that is done, and what a unit tick brings for all.
use Rattle.std.proofs.Common.{arith, ◌≡◌, ◌<◌, ◌≤◌, ◌+◌, ◌%◌, ℕ, zero, suc, true, false, cond, eqb, List, [], ◌∷◌, ◌++◌, map, take, drop, get_or, set, length, Option, Some, None, refl, ap, sym, ◌∙◌, inl, inr}
use Rattle.std.specs.Prelude.{not, ◌||◌, is_some}
use Rattle.std.specs.List.{AllByRecursion, flat_map}
use Rattle.std.proofs.lemmas.Bool.{cases_Bool, cond-false, cond-true, cond_both, ne_eqb, eq-eqb, or_from, or_left}
use Rattle.std.proofs.lemmas.List.{drop_all, drop_more, get_or_append_left, get_or_at, map-append}
use Rattle.relay_desk.specs.declared.event.RelayNote.{RelayNote}
use Rattle.relay_desk.specs.declared.turn.Turn.{Turn}
use Rattle.relay_desk.specs.declared.turn.Turn.TheVariants as turn
use Rattle.relay_desk.specs.declared.sets.DeskSet.{DeskSet}
use Rattle.relay_desk.specs.Desk.{Desk, Message, PendingRequest, give_up_after, is_pending, older, resend_after, turn_at, turn_item, turn_message, turn_pending, without}
use Rattle.relay_desk.specs.Requests.{message_at, message_of, no_set, pending_from}
use Rattle.relay_desk.specs.inner.Queue.{IsSettled, aged, passed, turn_in}
use Rattle.relay_desk.specs.inner.Sets.{turn_items, turn_place, turn_places}

-- two desks that agree in each part
pub same_desk :
    (a b : Desk) → a.last ≡ b.last → a.requests ≡ b.requests → a.forth ≡ b.forth → a.back ≡ b.back
    → a.pending ≡ b.pending → a.second ≡ b.second → a ≡ b
same_desk a b l r f k p s =
    λ i. record { last = l i; requests = r i; forth = f i; back = k i; pending = p i; second = s i }

-- One that is made.

pending_push :
    (b : ℕ) (ss : List DeskSet) (ts : List (Option ℕ)) (s : DeskSet) → length ss ≡ length ts
    → pending_from b (ss ++ s ∷ []) (ts ++ Some 0 ∷ [])
    ≡ pending_from b ss ts ++ record { message = message_of (b + length ss) s; ticks = 0 } ∷ []
pending_push b [] [] s long =
    let e : b ≡ b + 0 = omega arith in
    ap (λ n. record { message = message_of n s; ticks = 0 } ∷ []) e
pending_push b [] (t ∷ ts) s long = absurd (omega arith)
pending_push b (x ∷ ss) [] s long = absurd (omega arith)
pending_push b (x ∷ ss) (None ∷ ts) s long =
    let e : b + 1 + length ss ≡ b + suc (length ss) = omega arith in
    pending_push (b + 1) ss ts s (omega arith)
    ∙ ap (λ n. pending_from (b + 1) ss ts ++ record { message = message_of n s; ticks = 0 } ∷ []) e
pending_push b (x ∷ ss) (Some t ∷ ts) s long =
    let e : b + 1 + length ss ≡ b + suc (length ss) = omega arith in
    ap (λ (r : List PendingRequest). record { message = message_of b x; ticks = t } ∷ r)
    (pending_push (b + 1) ss ts s (omega arith)
    ∙ ap (λ n. pending_from (b + 1) ss ts ++ record { message = message_of n s; ticks = 0 } ∷ []) e)

-- the messages of sets that were there
known_messages :
    (ss : List DeskSet) (s : DeskSet) (ps : List ℕ) → AllByRecursion (λ p. p < length ss) ps
    → map (message_at (ss ++ s ∷ [])) ps ≡ map (message_at ss) ps
known_messages ss s [] known = refl
known_messages ss s (p ∷ ps) known =
    let e : message_at (ss ++ s ∷ []) p ≡ message_at ss p = ap (message_of p) (get_or_append_left ss (s ∷ []) no_set p known.0) in
    let r = known_messages ss s ps known.1 in
    cc

pub forth_push :
    (ss : List DeskSet) (s : DeskSet) (ps : List ℕ) → AllByRecursion (λ p. p < length ss) ps
    → map (message_at (ss ++ s ∷ [])) (ps ++ length ss ∷ []) ≡ map (message_at ss) ps ++ message_of (length ss) s ∷ []
forth_push ss s ps known =
    map-append (message_at (ss ++ s ∷ [])) ps (length ss ∷ [])
    ∙ (ap (λ ms. ms ++ message_at (ss ++ s ∷ []) (length ss) ∷ []) (known_messages ss s ps known)
    ∙ ap (λ x. map (message_at ss) ps ++ message_of (length ss) x ∷ []) (get_or_at ss s [] no_set (length ss) refl))

-- one that is made behind all others
pub request_push :
    (ss : List DeskSet) (ts : List (Option ℕ)) (s : DeskSet) → length ss ≡ length ts
    → pending_from 0 (ss ++ s ∷ []) (ts ++ Some 0 ∷ [])
    ≡ pending_from 0 ss ts ++ record { message = message_of (length ss) s; ticks = 0 } ∷ []
request_push ss ts s long =
    let e : 0 + length ss ≡ length ss = omega arith in
    pending_push 0 ss ts s long ∙ ap (λ n. pending_from 0 ss ts ++ record { message = message_of n s; ticks = 0 } ∷ []) e

-- One that is done.

none_below : (q b : ℕ) (ss : List DeskSet) (ts : List (Option ℕ)) → q ≤ b → is_pending q (pending_from b ss ts) ≡ false
none_below q b [] ts le = refl
none_below q b (s ∷ ss) [] le = refl
none_below q b (s ∷ ss) (None ∷ ts) le = none_below q (b + 1) ss ts (omega arith)
none_below q b (s ∷ ss) (Some t ∷ ts) le =
    or_from _ _ (ne_eqb (b + 1) q (λ e. omega arith)) (none_below q (b + 1) ss ts (omega arith))

all_below : (q b : ℕ) (ss : List DeskSet) (ts : List (Option ℕ)) → q ≤ b → without q (pending_from b ss ts) ≡ pending_from b ss ts
all_below q b [] ts le = refl
all_below q b (s ∷ ss) [] le = refl
all_below q b (s ∷ ss) (None ∷ ts) le = all_below q (b + 1) ss ts (omega arith)
all_below q b (s ∷ ss) (Some t ∷ ts) le =
    let p : PendingRequest = record { message = message_of b s; ticks = t } in
    let other : not (eqb (b + 1) q) ≡ true = ap not (ne_eqb (b + 1) q (λ e. omega arith)) in
    cond-true _ (p ∷ without q (pending_from (b + 1) ss ts)) (without q (pending_from (b + 1) ss ts)) other
    ∙ ap (λ (r : List PendingRequest). p ∷ r) (all_below q (b + 1) ss ts (omega arith))

pending_is :
    (b i : ℕ) (ss : List DeskSet) (ts : List (Option ℕ)) → length ss ≡ length ts → i < length ts
    → is_pending (b + i + 1) (pending_from b ss ts) ≡ is_some (get_or ts i None)
pending_is b i ss [] long within = absurd (omega (arith, within))
pending_is b i [] (t ∷ ts) long within = absurd (omega arith)
pending_is b zero (s ∷ ss) (None ∷ ts) long within = none_below (b + 0 + 1) (b + 1) ss ts (omega arith)
pending_is b zero (s ∷ ss) (Some t ∷ ts) long within = or_left _ _ (eq-eqb (b + 1) (b + 0 + 1) (omega arith))
pending_is b (suc i) (s ∷ ss) (None ∷ ts) long within =
    let e : b + suc i + 1 ≡ b + 1 + i + 1 = omega arith in
    ap (λ q. is_pending q (pending_from (b + 1) ss ts)) e ∙ pending_is (b + 1) i ss ts (omega arith) (omega arith)
pending_is b (suc i) (s ∷ ss) (Some t ∷ ts) long within =
    let e : b + suc i + 1 ≡ b + 1 + i + 1 = omega arith in
    ap (λ x. x || is_pending (b + suc i + 1) (pending_from (b + 1) ss ts)) (ne_eqb (b + 1) (b + suc i + 1) (λ f. omega arith))
    ∙ (ap (λ q. is_pending q (pending_from (b + 1) ss ts)) e ∙ pending_is (b + 1) i ss ts (omega arith) (omega arith))

pending_without :
    (b i : ℕ) (ss : List DeskSet) (ts : List (Option ℕ)) → length ss ≡ length ts → i < length ts
    → without (b + i + 1) (pending_from b ss ts) ≡ pending_from b ss (set ts i None)
pending_without b i ss [] long within = absurd (omega (arith, within))
pending_without b i [] (t ∷ ts) long within = absurd (omega arith)
pending_without b zero (s ∷ ss) (None ∷ ts) long within = all_below (b + 0 + 1) (b + 1) ss ts (omega arith)
pending_without b zero (s ∷ ss) (Some t ∷ ts) long within =
    let p : PendingRequest = record { message = message_of b s; ticks = t } in
    let rest : List PendingRequest = without (b + 0 + 1) (pending_from (b + 1) ss ts) in
    cond-false _ (p ∷ rest) rest (ap not (eq-eqb (b + 1) (b + 0 + 1) (omega arith))) ∙ all_below (b + 0 + 1) (b + 1) ss ts (omega arith)
pending_without b (suc i) (s ∷ ss) (None ∷ ts) long within =
    let e : b + suc i + 1 ≡ b + 1 + i + 1 = omega arith in
    ap (λ q. without q (pending_from (b + 1) ss ts)) e ∙ pending_without (b + 1) i ss ts (omega arith) (omega arith)
pending_without b (suc i) (s ∷ ss) (Some t ∷ ts) long within =
    let e : b + suc i + 1 ≡ b + 1 + i + 1 = omega arith in
    let p : PendingRequest = record { message = message_of b s; ticks = t } in
    let rest : List PendingRequest = without (b + suc i + 1) (pending_from (b + 1) ss ts) in
    cond-true _ (p ∷ rest) rest (ap not (ne_eqb (b + 1) (b + suc i + 1) (λ f. omega arith)))
    ∙ ap (λ (r : List PendingRequest). p ∷ r)
    (ap (λ q. without q (pending_from (b + 1) ss ts)) e ∙ pending_without (b + 1) i ss ts (omega arith) (omega arith))

pub request_is :
    (i : ℕ) (ss : List DeskSet) (ts : List (Option ℕ)) → length ss ≡ length ts → i < length ts
    → is_pending (i + 1) (pending_from 0 ss ts) ≡ is_some (get_or ts i None)
request_is i ss ts long within =
    let e : i + 1 ≡ 0 + i + 1 = omega arith in ap (λ q. is_pending q (pending_from 0 ss ts)) e ∙ pending_is 0 i ss ts long within

pub request_without :
    (i : ℕ) (ss : List DeskSet) (ts : List (Option ℕ)) → length ss ≡ length ts → i < length ts
    → without (i + 1) (pending_from 0 ss ts) ≡ pending_from 0 ss (set ts i None)
request_without i ss ts long within =
    let e : i + 1 ≡ 0 + i + 1 = omega arith in ap (λ q. without q (pending_from 0 ss ts)) e ∙ pending_without 0 i ss ts long within

-- What a unit tick brings.

-- those in front that aren't pending bring nothing
front_items :
    (n b k : ℕ) (ss : List DeskSet) (ts : List (Option ℕ)) → AllByRecursion IsSettled (take k ts)
    → turn_items n (b + k) (drop k ss) (drop k ts) ≡ turn_items n b ss ts
front_items n b zero ss ts h = let e : b + 0 ≡ b = omega arith in ap (λ p. turn_items n p ss ts) e
front_items n b (suc k) [] ts h = refl
front_items n b (suc k) (s ∷ ss) [] h = front_none (drop k ss)
  where
    front_none : (xs : List DeskSet) → turn_items n (b + suc k) xs [] ≡ []
    front_none [] = refl
    front_none (x ∷ xs) = refl
front_items n b (suc k) (s ∷ ss) (None ∷ ts) h =
    let e : b + suc k ≡ b + 1 + k = omega arith in
    ap (λ p. turn_items n p (drop k ss) (drop k ts)) e ∙ front_items n (b + 1) k ss ts h.1
front_items n b (suc k) (s ∷ ss) (Some t ∷ ts) h = absurd h.0

front_places :
    (n b k : ℕ) (ss : List DeskSet) (ts : List (Option ℕ)) → AllByRecursion IsSettled (take k ts)
    → turn_places n (b + k) (drop k ss) (drop k ts) ≡ turn_places n b ss ts
front_places n b zero ss ts h = let e : b + 0 ≡ b = omega arith in ap (λ p. turn_places n p ss ts) e
front_places n b (suc k) [] ts h = refl
front_places n b (suc k) (s ∷ ss) [] h = front_none (drop k ss)
  where
    front_none : (xs : List DeskSet) → turn_places n (b + suc k) xs [] ≡ []
    front_none [] = refl
    front_none (x ∷ xs) = refl
front_places n b (suc k) (s ∷ ss) (None ∷ ts) h =
    let e : b + suc k ≡ b + 1 + k = omega arith in
    ap (λ p. turn_places n p (drop k ss) (drop k ts)) e ∙ front_places n (b + 1) k ss ts h.1
front_places n b (suc k) (s ∷ ss) (Some t ∷ ts) h = absurd h.0

pub first_items :
    (n k : ℕ) (ss : List DeskSet) (ts : List (Option ℕ)) → AllByRecursion IsSettled (take k ts)
    → turn_items n k (drop k ss) (drop k ts) ≡ turn_items n 0 ss ts
first_items n k ss ts h =
    let e : k ≡ 0 + k = omega arith in ap (λ p. turn_items n p (drop k ss) (drop k ts)) e ∙ front_items n 0 k ss ts h

pub first_places :
    (n k : ℕ) (ss : List DeskSet) (ts : List (Option ℕ)) → AllByRecursion IsSettled (take k ts)
    → turn_places n k (drop k ss) (drop k ts) ≡ turn_places n 0 ss ts
first_places n k ss ts h =
    let e : k ≡ 0 + k = omega arith in ap (λ p. turn_places n p (drop k ss) (drop k ts)) e ∙ front_places n 0 k ss ts h

-- one more place
pub items_more :
    (n i : ℕ) (ss : List DeskSet) (ts : List (Option ℕ)) (d : DeskSet) → i < length ss → i < length ts
    → turn_items n i (drop i ss) (drop i ts)
    ≡ turn_item (turn_in n (get_or ts i None)) (message_of i (get_or ss i d)) ++ turn_items n (i + 1) (drop (i + 1) ss) (drop (i + 1) ts)
items_more n i ss ts d a b =
    ap (λ xs. turn_items n i xs (drop i ts)) (drop_more ss i d a)
    ∙ ap (λ ys. turn_items n i (get_or ss i d ∷ drop (i + 1) ss) ys) (drop_more ts i None b)

pub places_more :
    (n i : ℕ) (ss : List DeskSet) (ts : List (Option ℕ)) → i < length ss → i < length ts
    → turn_places n i (drop i ss) (drop i ts)
    ≡ turn_place (turn_in n (get_or ts i None)) i ++ turn_places n (i + 1) (drop (i + 1) ss) (drop (i + 1) ts)
places_more n i ss ts a b =
    ap (λ xs. turn_places n i xs (drop i ts)) (drop_more ss i no_set a)
    ∙ ap (λ ys. turn_places n i (get_or ss i no_set ∷ drop (i + 1) ss) ys) (drop_more ts i None b)

-- behind the last
pub items_end : (n i : ℕ) (ss : List DeskSet) (ts : List (Option ℕ)) → length ss ≤ i → turn_items n i (drop i ss) (drop i ts) ≡ []
items_end n i ss ts past = ap (λ xs. turn_items n i xs (drop i ts)) (drop_all i ss past)

pub places_end : (n i : ℕ) (ss : List DeskSet) (ts : List (Option ℕ)) → length ss ≤ i → turn_places n i (drop i ss) (drop i ts) ≡ []
places_end n i ss ts past = ap (λ xs. turn_places n i xs (drop i ts)) (drop_all i ss past)

pub pending_aged :
    (n b : ℕ) (ss : List DeskSet) (ts : List (Option ℕ))
    → pending_from b ss (map (aged n) ts) ≡ map (older n) (pending_from b ss ts)
pending_aged n b [] ts = refl
pending_aged n b (s ∷ ss) [] = refl
pending_aged n b (s ∷ ss) (None ∷ ts) = pending_aged n (b + 1) ss ts
pending_aged n b (s ∷ ss) (Some t ∷ ts) =
    ap (λ (r : List PendingRequest). record { message = message_of b s; ticks = t + n } ∷ r) (pending_aged n (b + 1) ss ts)

pub turn_items_are :
    (n b : ℕ) (ss : List DeskSet) (ts : List (Option ℕ))
    → turn_items n b ss ts ≡ flat_map (λ p. turn_item (turn_at p.ticks) p.message) (map (older n) (pending_from b ss ts))
turn_items_are n b [] ts = refl
turn_items_are n b (s ∷ ss) [] = refl
turn_items_are n b (s ∷ ss) (None ∷ ts) = turn_items_are n (b + 1) ss ts
turn_items_are n b (s ∷ ss) (Some t ∷ ts) =
    ap (λ (r : List RelayNote). turn_item (turn_at (t + n)) (message_of b s) ++ r) (turn_items_are n (b + 1) ss ts)

one_message :
    (all : List DeskSet) (b : ℕ) (s : DeskSet) (rest : List ℕ) (o : Turn) → message_at all b ≡ message_of b s
    → map (message_at all) (turn_place o b ++ rest) ≡ turn_message o (message_of b s) ++ map (message_at all) rest
one_message all b s rest turn.GivesUp e = refl
one_message all b s rest turn.Resends e = ap (λ (m : Message). m ∷ map (message_at all) rest) e
one_message all b s rest turn.Waits e = refl

pub turn_messages_are :
    (n b : ℕ) (all ss : List DeskSet) (ts : List (Option ℕ))
    → ((k : ℕ) → k < length ss → get_or all (b + k) no_set ≡ get_or ss k no_set)
    → map (message_at all) (turn_places n b ss ts)
    ≡ flat_map (λ p. turn_message (turn_at p.ticks) p.message) (map (older n) (pending_from b ss ts))
turn_messages_are n b all [] ts at = refl
turn_messages_are n b all (s ∷ ss) [] at = refl
turn_messages_are n b all (s ∷ ss) (None ∷ ts) at = turn_messages_are n (b + 1) all ss ts (later b all s ss at)
  where
    later : (b : ℕ) (all : List DeskSet) (s : DeskSet) (ss : List DeskSet)
        → ((k : ℕ) → k < length (s ∷ ss) → get_or all (b + k) no_set ≡ get_or (s ∷ ss) k no_set)
        → (k : ℕ) → k < length ss → get_or all (b + 1 + k) no_set ≡ get_or ss k no_set
    later b all s ss at k h =
        let e : b + 1 + k ≡ b + suc k = omega arith in ap (λ i. get_or all i no_set) e ∙ at (suc k) (omega arith)
turn_messages_are n b all (s ∷ ss) (Some t ∷ ts) at =
    let e : b ≡ b + 0 = omega arith in
    one_message all b s (turn_places n (b + 1) ss ts) (turn_at (t + n))
    (ap (message_of b) (ap (λ i. get_or all i no_set) e ∙ at 0 (omega arith)))
    ∙ ap (λ (r : List Message). turn_message (turn_at (t + n)) (message_of b s) ++ r)
    (turn_messages_are n (b + 1) all ss ts (later b all s ss at))
  where
    later : (b : ℕ) (all : List DeskSet) (s : DeskSet) (ss : List DeskSet)
        → ((k : ℕ) → k < length (s ∷ ss) → get_or all (b + k) no_set ≡ get_or (s ∷ ss) k no_set)
        → (k : ℕ) → k < length ss → get_or all (b + 1 + k) no_set ≡ get_or ss k no_set
    later b all s ss at k h =
        let e : b + 1 + k ≡ b + suc k = omega arith in ap (λ i. get_or all i no_set) e ∙ at (suc k) (omega arith)

pub turn_pending_are :
    (n b : ℕ) (ss : List DeskSet) (ts : List (Option ℕ))
    → pending_from b ss (map (passed n) ts) ≡ flat_map (λ p. turn_pending (turn_at p.ticks) p) (map (older n) (pending_from b ss ts))
turn_pending_are n b [] ts = refl
turn_pending_are n b (s ∷ ss) [] = refl
turn_pending_are n b (s ∷ ss) (None ∷ ts) = turn_pending_are n (b + 1) ss ts
turn_pending_are n b (s ∷ ss) (Some t ∷ ts) =
    let p : PendingRequest = record { message = message_of b s; ticks = t + n } in
    let rest : List PendingRequest = flat_map (λ q. turn_pending (turn_at q.ticks) q) (map (older n) (pending_from (b + 1) ss ts)) in
    elim (cases_Bool (eqb (t + n) give_up_after)) [
      | inl over ↦
          ap (λ o. pending_from b (s ∷ ss) (o ∷ map (passed n) ts)) (cond-true _ None (Some (t + n)) over)
          ∙ (turn_pending_are n (b + 1) ss ts
          ∙ sym (ap (λ o. turn_pending o p ++ rest) (cond-true _ turn.GivesUp (cond (eqb ((t + n) % resend_after) 0) turn.Resends turn.Waits) over)))
      | inr on ↦
          ap (λ o. pending_from b (s ∷ ss) (o ∷ map (passed n) ts)) (cond-false _ None (Some (t + n)) on)
          ∙ (ap (λ (r : List PendingRequest). p ∷ r) (turn_pending_are n (b + 1) ss ts)
          ∙ sym (ap (λ o. turn_pending o p ++ rest) (cond-false _ turn.GivesUp (cond (eqb ((t + n) % resend_after) 0) turn.Resends turn.Waits) on)
          ∙ cond_both (eqb ((t + n) % resend_after) 0) turn.Resends turn.Waits (λ o. turn_pending o p ++ rest ≡ p ∷ rest) (λ _. refl) (λ _. refl)))
    ]

one_known : (b m : ℕ) (rest : List ℕ) (o : Turn) → b < m → AllByRecursion (λ i. i < m) rest → AllByRecursion (λ i. i < m) (turn_place o b ++ rest)
one_known b m rest turn.GivesUp h known = known
one_known b m rest turn.Resends h known = (h, known)
one_known b m rest turn.Waits h known = known

pub places_known :
    (n b m : ℕ) (ss : List DeskSet) (ts : List (Option ℕ)) → b + length ss ≤ m
    → AllByRecursion (λ i. i < m) (turn_places n b ss ts)
places_known n b m [] ts le = tt
places_known n b m (s ∷ ss) [] le = tt
places_known n b m (s ∷ ss) (t ∷ ts) le =
    one_known b m (turn_places n (b + 1) ss ts) (turn_in n t) (omega arith) (places_known n (b + 1) m ss ts (omega arith))
