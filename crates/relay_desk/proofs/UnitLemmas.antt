-- Unit ticks of the desk: up to the next turn its pending requests grow older, and nothing else happens.
use Rattle.std.proofs.Common.{arith, ◌≡◌, ◌≤◌, ◌+◌, ◌%◌, ℕ, zero, suc, cond, eqb, List, [], ◌∷◌, ◌++◌, map, length, Option, Some, None, refl, ap, sym, ◌∙◌, inl, inr, subst}
use Rattle.std.specs.Prelude.{◌≢◌}
use Rattle.std.specs.List.{AllByRecursion, flat_map}
use Rattle.std.proofs.lemmas.Bool.{cond-false, cond_both, ne_eqb, eq-eqb, cond-true}
use Rattle.std.proofs.lemmas.List.{append-nil}
use Rattle.relay_desk.specs.declared.event.RelayNote.{RelayNote}
use Rattle.relay_desk.specs.declared.turn.Turn.TheVariants as turn
use Rattle.relay_desk.specs.declared.sets.DeskSet.{DeskSet}
use Rattle.relay_desk.specs.Desk.{Desk, IsNextTurn, Message, PendingRequest, Row, and_then, give_up_after, older, quiet_row, resend_after, turn_at, turn_item, turn_message, turn_pending, turns, unit, units}
use Rattle.relay_desk.specs.Requests.{message_of, pending_from}
use Rattle.relay_desk.specs.inner.Queue.{HasRoom, IsSettled, SomeDue}

-- it has no turn in fewer than n ticks
abbrev pub Room : ℕ → PendingRequest → Type 0
Room n p = p.ticks % resend_after + n ≤ resend_after

abbrev pub IsWaiting : PendingRequest → Type 0
IsWaiting p = turn_at p.ticks ≡ turn.Waits

-- in the midst of ten ticks a request waits
waits_at : (t n : ℕ) → 1 ≤ n → t % 10 + (n + 1) ≤ 10 → turn_at (t + n) ≡ turn.Waits
waits_at t n some room =
    cond-false (eqb (t + n) give_up_after) _ _ (ne_eqb _ _ (λ e. omega arith))
    ∙ cond-false (eqb ((t + n) % resend_after) 0) turn.Resends turn.Waits (ne_eqb _ _ (λ e. omega arith))

older_again : (n : ℕ) (ps : List PendingRequest) → map (older 1) (map (older n) ps) ≡ map (older (suc n)) ps
older_again n [] = refl
older_again n (p ∷ ps) =
    let e : p.ticks + n + 1 ≡ p.ticks + suc n = omega arith in
    let r = older_again n ps in
    let f : older 1 (older n p) ≡ older (suc n) p = ap (λ t. record p { ticks = t }) e in
    cc

older_none : (ps : List PendingRequest) → map (older 0) ps ≡ ps
older_none [] = refl
older_none (p ∷ ps) =
    let e : p.ticks + 0 ≡ p.ticks = omega arith in
    let f : older 0 p ≡ p = ap (λ t. record p { ticks = t }) e in
    let r = older_none ps in
    cc

-- what requests that wait bring: nothing
waiting_items : (ps : List PendingRequest) → AllByRecursion IsWaiting ps → flat_map (λ p. turn_item (turn_at p.ticks) p.message) ps ≡ []
waiting_items [] h = refl
waiting_items (p ∷ ps) h =
    ap (λ t. turn_item t p.message ++ flat_map (λ q. turn_item (turn_at q.ticks) q.message) ps) h.0 ∙ waiting_items ps h.1

waiting_messages : (ps : List PendingRequest) → AllByRecursion IsWaiting ps → flat_map (λ p. turn_message (turn_at p.ticks) p.message) ps ≡ []
waiting_messages [] h = refl
waiting_messages (p ∷ ps) h =
    ap (λ t. turn_message t p.message ++ flat_map (λ q. turn_message (turn_at q.ticks) q.message) ps) h.0 ∙ waiting_messages ps h.1

waiting_stay : (ps : List PendingRequest) → AllByRecursion IsWaiting ps → flat_map (λ p. turn_pending (turn_at p.ticks) p) ps ≡ ps
waiting_stay [] h = refl
waiting_stay (p ∷ ps) h =
    ap (λ t. turn_pending t p ++ flat_map (λ q. turn_pending (turn_at q.ticks) q) ps) h.0
    ∙ ap (λ (r : List PendingRequest). p ∷ r) (waiting_stay ps h.1)

waiting_turns : (ps : List PendingRequest) (d : Desk) → AllByRecursion IsWaiting ps → turns ps d ≡ quiet_row (record d { pending = ps })
waiting_turns ps d h =
    let forth : d.forth ++ flat_map (λ p. turn_message (turn_at p.ticks) p.message) ps ≡ d.forth =
    ap (λ ms. d.forth ++ ms) (waiting_messages ps h) ∙ append-nil d.forth in
    let a : Row = record { items = []; desk = record d { forth = d.forth ++ flat_map (λ p. turn_message (turn_at p.ticks) p.message) ps; pending = flat_map (λ p. turn_pending (turn_at p.ticks) p) ps } } in
    let e : turns ps d ≡ a = ap (λ is. record { items = is; desk = a.desk }) (waiting_items ps h) in
    let f : a ≡ record { items = []; desk = record d { forth = d.forth; pending = flat_map (λ p. turn_pending (turn_at p.ticks) p) ps } } =
    ap (λ ms. record { items = []; desk = record d { forth = ms; pending = a.desk.pending } }) forth in
    e ∙ (f ∙ ap (λ qs. record { items = []; desk = record d { pending = qs } }) (waiting_stay ps h))

waiting_older :
    (n : ℕ) (ps : List PendingRequest) → 1 ≤ n → AllByRecursion (Room (n + 1)) ps → AllByRecursion IsWaiting (map (older n) ps)
waiting_older n [] some room = tt
waiting_older n (p ∷ ps) some room = (waits_at p.ticks n some room.0, waiting_older n ps some room.1)

less_room : (m n : ℕ) (ps : List PendingRequest) → m ≤ n → AllByRecursion (Room n) ps → AllByRecursion (Room m) ps
less_room m n [] le room = tt
less_room m n (p ∷ ps) le room = (omega (arith, room.0), less_room m n ps le room.1)

pub units_idle :
    (n : ℕ) (d : Desk) → AllByRecursion (Room (n + 1)) d.pending
    → units n d ≡ quiet_row (record d { pending = map (older n) d.pending })
units_idle zero d room = ap (λ ps. quiet_row (record d { pending = ps })) (sym (older_none d.pending))
units_idle (suc n) d room =
    ap (λ r. and_then r unit) (units_idle n d (less_room (n + 1) (suc n + 1) d.pending (omega arith) room))
    ∙ (ap (λ ps. turns ps (record d { pending = map (older n) d.pending })) (older_again n d.pending)
    ∙ waiting_turns (map (older (suc n)) d.pending) (record d { pending = map (older n) d.pending })
    (waiting_older (suc n) d.pending (omega arith) room))

pub units_turn :
    (n : ℕ) (d : Desk) → AllByRecursion (Room (suc n)) d.pending
    → units (suc n) d ≡ turns (map (older (suc n)) d.pending) d
units_turn n d room =
    ap (λ r. and_then r unit) (units_idle n d (less_room (n + 1) (suc n) d.pending (omega arith) room))
    ∙ ap (λ ps. turns ps (record d { pending = map (older n) d.pending })) (older_again n d.pending)

-- Requests that are pending, by the places of their sets.

pub room_pending :
    (n place : ℕ) (ss : List DeskSet) (ts : List (Option ℕ)) → AllByRecursion (HasRoom n) ts
    → AllByRecursion (Room n) (pending_from place ss ts)
room_pending n place [] ts room = tt
room_pending n place (s ∷ ss) [] room = tt
room_pending n place (s ∷ ss) (None ∷ ts) room = room_pending n (place + 1) ss ts room.1
room_pending n place (s ∷ ss) (Some t ∷ ts) room = (room.0, room_pending n (place + 1) ss ts room.1)

pub settled_pending :
    (place : ℕ) (ss : List DeskSet) (ts : List (Option ℕ)) → AllByRecursion IsSettled ts → pending_from place ss ts ≡ []
settled_pending place [] ts h = refl
settled_pending place (s ∷ ss) [] h = refl
settled_pending place (s ∷ ss) (None ∷ ts) h = settled_pending (place + 1) ss ts h.1
settled_pending place (s ∷ ss) (Some t ∷ ts) h = absurd h.0

-- a turn gives an item, whichever it is
turn_gives : (t n : ℕ) (m : Message) (rest : List RelayNote) → t % 10 + n ≡ 10 → turn_item (turn_at (t + n)) m ++ rest ≢ []
turn_gives t n m rest due =
    cond_both (eqb (t + n) give_up_after) turn.GivesUp (cond (eqb ((t + n) % resend_after) 0) turn.Resends turn.Waits)
    (λ o. turn_item o m ++ rest ≢ []) (λ _ e. cc)
    (λ _. let same : cond (eqb ((t + n) % resend_after) 0) turn.Resends turn.Waits ≡ turn.Resends =
    cond-true _ turn.Resends turn.Waits (eq-eqb _ _ (omega arith)) in
    rw same (λ e. cc))

pub some_gives :
    (n place : ℕ) (ss : List DeskSet) (ts : List (Option ℕ)) → length ss ≡ length ts → SomeDue n ts
    → flat_map (λ p. turn_item (turn_at p.ticks) p.message) (map (older n) (pending_from place ss ts)) ≢ []
some_gives n place [] (t ∷ ts) long due = absurd (omega arith)
some_gives n place ss [] long due = absurd due
some_gives n place (s ∷ ss) (None ∷ ts) long (inl now) = absurd now
some_gives n place (s ∷ ss) (None ∷ ts) long (inr later) = some_gives n (place + 1) ss ts (omega arith) later
some_gives n place (s ∷ ss) (Some t ∷ ts) long (inl now) = turn_gives t n (message_of place s) _ now
some_gives n place (s ∷ ss) (Some t ∷ ts) long (inr later) =
    λ e. some_gives n (place + 1) ss ts (omega arith) later (later_none _ _ e)
  where
    later_none : (xs ys : List RelayNote) → xs ++ ys ≡ [] → ys ≡ []
    later_none [] ys e = e
    later_none (x ∷ xs) ys e = cc

-- the first item comes with the n-th tick
pub next_turn :
    (n : ℕ) (d : Desk) → 1 ≤ n → AllByRecursion (Room n) d.pending
    → flat_map (λ p. turn_item (turn_at p.ticks) p.message) (map (older n) d.pending) ≢ [] → IsNextTurn n d
next_turn zero d some room gives = absurd (omega (arith, some))
next_turn (suc n) d some room gives =
    record {
      gives = λ e. gives (sym (ap (λ (r : Row). r.items) (units_turn n d room)) ∙ e);
      quiet = λ m h. ap (λ (r : Row). r.items) (units_idle m d (less_room (m + 1) (suc n) d.pending (omega arith) room));
    }

-- where nothing is pending, none comes
pub never : (n : ℕ) (d : Desk) → d.pending ≡ [] → (units n d).items ≡ []
never n d none =
    let Rooms : List PendingRequest → Type 0 = AllByRecursion (Room (n + 1)) in
    ap (λ (r : Row). r.items) (units_idle n d (subst Rooms (sym none) tt))

-- one that is due is pending
pub some_pending :
    (n place : ℕ) (ss : List DeskSet) (ts : List (Option ℕ)) → length ss ≡ length ts → SomeDue n ts
    → pending_from place ss ts ≢ []
some_pending n place ss ts long due none =
    some_gives n place ss ts long due
    (ap (λ ps. flat_map (λ p. turn_item (turn_at p.ticks) p.message) (map (older n) ps)) none)

pub never_moves : (n : ℕ) (d : Desk) → d.pending ≡ [] → (units n d).desk ≡ d
never_moves n d none =
    let Rooms : List PendingRequest → Type 0 = AllByRecursion (Room (n + 1)) in
    ap (λ (r : Row). r.desk) (units_idle n d (subst Rooms (sym none) tt))
    ∙ (ap (λ ps. record d { pending = map (older n) ps }) none ∙ ap (λ ps. record d { pending = ps }) (sym none))

pub units_turns :
    (n : ℕ) (d : Desk) → 1 ≤ n → AllByRecursion (Room n) d.pending → units n d ≡ turns (map (older n) d.pending) d
units_turns zero d some room = absurd (omega (arith, some))
units_turns (suc n) d some room = units_turn n d room
