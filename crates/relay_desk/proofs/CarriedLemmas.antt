-- What a desk keeps fits what was seen of it, behind each event.
use Rattle.std.proofs.Common.{◌≡◌, ℕ, zero, suc, true, false, eqb, List, [], ◌∷◌, ◌++◌, map, Option, Some, None, refl, ap, sym, ◌∙◌, inl, inr, subst, append_assoc}
use Rattle.std.specs.Prelude.{◌⊎◌, IfSome, slice_get, not}
use Rattle.std.specs.List.{AllByRecursion, flat_map}
use Rattle.std.proofs.lemmas.Bool.{cond-true, cond_both, eqb-true, eq-eqb, both_ways}
use Rattle.std.proofs.lemmas.List.{append-nil, map-append}
use Rattle.relay_desk.specs.declared.event.RelayEvent.{RelayEvent}
use Rattle.relay_desk.specs.declared.event.RelayEvent.TheVariants as event
use Rattle.relay_desk.specs.declared.event.RelayNote.{RelayNote}
use Rattle.relay_desk.specs.declared.event.RelayNote.TheVariants as note
use Rattle.relay_desk.specs.declared.sets.ShownSet.{ShownSet}
use Rattle.relay_desk.specs.declared.turn.Turn.{Turn}
use Rattle.relay_desk.specs.declared.turn.Turn.TheVariants as turn
use Rattle.relay_desk.specs.Carried.{CarriedFrom, Fits, Gave, IsOfShown, Showed, Sight, WasShown, WasShownThere, sights_of}
use Rattle.relay_desk.specs.Desk.{Desk, Message, PendingRequest, Row, and_then, arrives_back, arrives_there, first_desk, goes_on, happens, hands_back, hands_forth, is_done, is_pending, kth, made, older, passes, passes_set, quiet_row, said_again, sent_forth, shown_first, shows, turn_at, turn_item, turn_message, turn_pending, unit, units, without}

-- What was seen stays seen.

pub shown_still : (c r : ℕ) (o : List ℕ) (xs ys : List Sight) → WasShown c r o xs → WasShown c r o (xs ++ ys)
shown_still c r o [] ys h = absurd h
shown_still c r o (x ∷ xs) ys (inl here) = inl here
shown_still c r o (x ∷ xs) ys (inr there) = inr (shown_still c r o xs ys there)

pub there_still : (q : ℕ) (xs ys : List Sight) → WasShownThere q xs → WasShownThere q (xs ++ ys)
there_still q [] ys h = absurd h
there_still q (x ∷ xs) ys (inl here) = inl here
there_still q (x ∷ xs) ys (inr there) = inr (there_still q xs ys there)

there_behind : (q : ℕ) (xs ys : List Sight) → WasShownThere q ys → WasShownThere q (xs ++ ys)
there_behind q [] ys h = h
there_behind q (x ∷ xs) ys h = inr (there_behind q xs ys h)

shown_behind : (c r : ℕ) (o : List ℕ) (xs ys : List Sight) → WasShown c r o ys → WasShown c r o (xs ++ ys)
shown_behind c r o [] ys h = h
shown_behind c r o (x ∷ xs) ys h = inr (shown_behind c r o xs ys h)

there_split : (q : ℕ) (xs ys : List Sight) → WasShownThere q (xs ++ ys) → WasShownThere q xs ⊎ WasShownThere q ys
there_split q [] ys h = inr h
there_split q (x ∷ xs) ys (inl here) = inl (inl here)
there_split q (x ∷ xs) ys (inr there) = elim (there_split q xs ys there) [ inl a ↦ inl (inr a) | inr b ↦ inr b ]

carried_from : (before xs ys : List Sight) → CarriedFrom before xs → CarriedFrom (before ++ xs) ys → CarriedFrom before (xs ++ ys)
carried_from before [] ys a b = let P : List Sight → Type 0 = λ f. CarriedFrom f ys in subst P (append-nil before) b
carried_from before (x ∷ xs) ys a b =
    let P : List Sight → Type 0 = λ f. CarriedFrom f ys in
    (a.0, carried_from (before ++ x ∷ []) xs ys a.1 (subst P (sym (append_assoc before (x ∷ []) xs)) b))

-- What else is seen, where it shows nothing.

-- an item that shows no set at the second point, and says of none that it is done
abbrev pub IsPlain : RelayNote → Type 0
IsPlain (note.Shown q c r o) = ⊥
IsPlain (note.Done q) = ⊥
IsPlain _ = Unit {0}

plain_carried : (before : List Sight) (items : List RelayNote) → AllByRecursion IsPlain items → CarriedFrom before (map Gave items)
plain_carried before [] h = tt
plain_carried before (note.Forth q c r o ∷ items) h = (tt, plain_carried (before ++ Gave (note.Forth q c r o) ∷ []) items h.1)
plain_carried before (note.Shown q c r o ∷ items) h = absurd h.0
plain_carried before (note.Back q ∷ items) h = (tt, plain_carried (before ++ Gave (note.Back q) ∷ []) items h.1)
plain_carried before (note.Done q ∷ items) h = absurd h.0
plain_carried before (note.GaveUp q ∷ items) h = (tt, plain_carried (before ++ Gave (note.GaveUp q) ∷ []) items h.1)
plain_carried before (note.Unshown c ∷ items) h = (tt, plain_carried (before ++ Gave (note.Unshown c) ∷ []) items h.1)
plain_carried before (note.Nothing ∷ items) h = (tt, plain_carried (before ++ Gave note.Nothing ∷ []) items h.1)

plain_there : (q : ℕ) (items : List RelayNote) → AllByRecursion IsPlain items → WasShownThere q (map Gave items) → ⊥
plain_there q [] h w = w
plain_there q (note.Forth d c r o ∷ items) h (inl w) = w
plain_there q (note.Forth d c r o ∷ items) h (inr w) = plain_there q items h.1 w
plain_there q (note.Shown d c r o ∷ items) h w = absurd h.0
plain_there q (note.Back d ∷ items) h (inl w) = w
plain_there q (note.Back d ∷ items) h (inr w) = plain_there q items h.1 w
plain_there q (note.Done d ∷ items) h w = absurd h.0
plain_there q (note.GaveUp d ∷ items) h (inl w) = w
plain_there q (note.GaveUp d ∷ items) h (inr w) = plain_there q items h.1 w
plain_there q (note.Unshown c ∷ items) h (inl w) = w
plain_there q (note.Unshown c ∷ items) h (inr w) = plain_there q items h.1 w
plain_there q (note.Nothing ∷ items) h (inl w) = w
plain_there q (note.Nothing ∷ items) h (inr w) = plain_there q items h.1 w

all_still : {A : Type 0} (P Q : A → Type 0) → ((a : A) → P a → Q a) → (xs : List A) → AllByRecursion P xs → AllByRecursion Q xs
all_still P Q f [] h = tt
all_still P Q f (x ∷ xs) h = (f x h.0, all_still P Q f xs h.1)

all_push : {A : Type 0} (P : A → Type 0) (xs ys : List A) → AllByRecursion P xs → AllByRecursion P ys → AllByRecursion P (xs ++ ys)
all_push P [] ys a b = b
all_push P (x ∷ xs) ys a b = (a.0, all_push P xs ys a.1 b)

some_still : (o : Option ShownSet) (P Q : ShownSet → Type 0) → ((s : ShownSet) → P s → Q s) → IfSome o P → IfSome o Q
some_still None P Q f h = h
some_still (Some s) P Q f h = f s h

-- The desk as it was fits what is seen with plain items behind.
fits_still : (d : Desk) (seen : List Sight) (items : List RelayNote) → AllByRecursion IsPlain items → Fits d seen → Fits d (seen ++ map Gave items)
fits_still d seen items plain fits =
    let more = map Gave items in
    record {
      carried = carried_from [] seen more fits.carried (plain_carried seen items plain);
      last = λ c. some_still (d.last c) _ _ (λ s h. shown_still c s.request s.octets seen more h) (fits.last c);
      forth = all_still _ _ (λ m h. shown_still m.call m.set.request m.set.octets seen more h) d.forth fits.forth;
      pending =
          all_still _ _
          (λ p h. shown_still p.message.call p.message.set.request p.message.set.octets seen more h) d.pending fits.pending;
      second =
          λ q. (
            (λ e. there_still q seen more ((fits.second q).0 e)),
            (λ w. elim (there_split q seen more w) [ inl a ↦ (fits.second q).1 a | inr b ↦ absurd (plain_there q items plain b) ]),
          );
      back = all_still _ _ (λ q h. there_still q seen more h) d.back fits.back;
    }

-- Each event.

-- the point shows a set
shows_fit : (c : ℕ) (s : ShownSet) (d : Desk) (seen : List Sight) → Fits d seen → Fits (shows c s d).desk (seen ++ Showed c s.request s.octets ∷ [])
shows_fit c s d seen fits =
    let more = Showed c s.request s.octets ∷ [] in
    record {
      carried = carried_from [] seen more fits.carried (tt, tt);
      last =
          λ e. cond_both (eqb c e) (Some s) (d.last e) (λ o. IfSome o (λ k. WasShown e k.request k.octets (seen ++ more)))
          (λ same. shown_behind e s.request s.octets seen more (inl (eqb-true _ _ same, refl, refl)))
          (λ _. some_still (d.last e) _ _ (λ k h. shown_still e k.request k.octets seen more h) (fits.last e));
      forth = all_still _ _ (λ m h. shown_still m.call m.set.request m.set.octets seen more h) d.forth fits.forth;
      pending =
          all_still _ _
          (λ p h. shown_still p.message.call p.message.set.request p.message.set.octets seen more h) d.pending fits.pending;
      second =
          λ q. (
            (λ e. there_still q seen more ((fits.second q).0 e)),
            (λ w. elim (there_split q seen more w) [ inl a ↦ (fits.second q).1 a | inr b ↦ elim b [ inl x ↦ absurd x | inr x ↦ absurd x ] ]),
          );
      back = all_still _ _ (λ q h. there_still q seen more h) d.back fits.back;
    }

-- a set goes on
goes_on_fits : (m : Message) (d : Desk) (seen : List Sight) → IsOfShown seen m → Fits d seen → Fits (goes_on m d).desk (seen ++ map Gave (goes_on m d).items)
goes_on_fits m d seen shown fits =
    let items : List RelayNote = sent_forth m ∷ [] in
    let still : Fits d (seen ++ map Gave items) = fits_still d seen items (tt, tt) fits in
    let known = shown_still m.call m.set.request m.set.octets seen (map Gave items) shown in
    record {
      carried = still.carried;
      last = still.last;
      forth = all_push _ d.forth (m ∷ []) still.forth (known, tt);
      pending = all_push _ d.pending (record { message = m; ticks = 0 } ∷ []) still.pending (known, tt);
      second = still.second;
      back = still.back;
    }

passes_fit : (c : ℕ) (d : Desk) (seen : List Sight) → Fits d seen → Fits (passes c d).desk (seen ++ map Gave (passes c d).items)
passes_fit c d seen fits = by_last (d.last c) (fits.last c)
  where
    by_last : (o : Option ShownSet) → IfSome o (λ s. WasShown c s.request s.octets seen)
        → Fits (passes_set c o d).desk (seen ++ map Gave (passes_set c o d).items)
    by_last None h = fits_still d seen (note.Unshown c ∷ []) (tt, tt) fits
    by_last (Some s) h = goes_on_fits (made c s d) d seen h fits

-- a message arrives at the second point
said_again_fits : (m : Message) (d : Desk) (seen : List Sight) → d.second m.desk ≡ true → Fits d seen → Fits (said_again m d).desk (seen ++ map Gave (said_again m d).items)
said_again_fits m d seen known fits =
    let items : List RelayNote = note.Back m.desk ∷ [] in
    let still : Fits d (seen ++ map Gave items) = fits_still d seen items (tt, tt) fits in
    record {
      carried = still.carried;
      last = still.last;
      forth = still.forth;
      pending = still.pending;
      second = still.second;
      back = all_push _ d.back (m.desk ∷ []) still.back ((still.second m.desk).0 known, tt);
    }

shown_first_fits : (m : Message) (d : Desk) (seen : List Sight) → d.second m.desk ≡ false → IsOfShown seen m → Fits d seen → Fits (shown_first m d).desk (seen ++ map Gave (shown_first m d).items)
shown_first_fits m d seen unknown shown fits =
    let more : List Sight = map Gave (shown_first m d).items in
    let here : WasShownThere m.desk (seen ++ more) = there_behind m.desk seen more (inl refl) in
    record {
      carried =
          carried_from [] seen more fits.carried
          ((shown, (λ w. both_ways _ unknown ((fits.second m.desk).1 w))), (tt, tt));
      last = λ c. some_still (d.last c) _ _ (λ s h. shown_still c s.request s.octets seen more h) (fits.last c);
      forth = all_still _ _ (λ n h. shown_still n.call n.set.request n.set.octets seen more h) d.forth fits.forth;
      pending =
          all_still _ _
          (λ p h. shown_still p.message.call p.message.set.request p.message.set.octets seen more h) d.pending fits.pending;
      second =
          λ q. (
            cond_both (eqb m.desk q) true (d.second q) (λ b. b ≡ true → WasShownThere q (seen ++ more))
                (λ same _. let P : ℕ → Type 0 = λ n. WasShownThere n (seen ++ more) in subst P (eqb-true _ _ same) here)
                (λ _ e. there_still q seen more ((fits.second q).0 e)),
            (λ w. elim (there_split q seen more w) [
              | inl a ↦ cond_both (eqb m.desk q) true (d.second q) (λ b. b ≡ true) (λ _. refl) (λ _. (fits.second q).1 a)
              | inr b ↦ elim b [
                | inl e ↦ cond-true (eqb m.desk q) true (d.second q) (eq-eqb _ _ e)
                | inr rest ↦ elim rest [ inl x ↦ absurd x | inr x ↦ absurd x ]
              ]
            ]),
          );
      back =
          all_push _ d.back (m.desk ∷ []) (all_still _ _ (λ q h. there_still q seen more h) d.back fits.back) (here, tt);
    }

kth_all : {A : Type 0} (P : A → Type 0) (k : ℕ) (xs : List A) → AllByRecursion P xs → IfSome (kth k xs) P
kth_all P zero xs h = tt
kth_all P (suc k) xs h = at P k xs h
  where
    at : {A : Type 0} (P : A → Type 0) (k : ℕ) (xs : List A) → AllByRecursion P xs → IfSome (slice_get xs k) P
    at P k [] h = tt
    at P zero (x ∷ xs) h = h.0
    at P (suc k) (x ∷ xs) h = at P k xs h.1

hands_forth_fits : (k : ℕ) (d : Desk) (seen : List Sight) → Fits d seen → Fits (hands_forth k d).desk (seen ++ map Gave (hands_forth k d).items)
hands_forth_fits k d seen fits = by_message (kth k d.forth) (kth_all (IsOfShown seen) k d.forth fits.forth)
  where
    by_message : (o : Option Message) → IfSome o (IsOfShown seen)
        → Fits (arrives_there o d).desk (seen ++ map Gave (arrives_there o d).items)
    by_message None h = fits_still d seen (note.Nothing ∷ []) (tt, tt) fits
    by_message (Some m) h =
        cond_both (d.second m.desk) (said_again m d) (shown_first m d)
        (λ (r : Row). Fits r.desk (seen ++ map Gave r.items))
        (λ known. said_again_fits m d seen known fits) (λ unknown. shown_first_fits m d seen unknown h fits)

-- a message arrives back
all_without : (P : PendingRequest → Type 0) (q : ℕ) (ps : List PendingRequest) → AllByRecursion P ps → AllByRecursion P (without q ps)
all_without P q [] h = tt
all_without P q (p ∷ ps) h =
    cond_both (not (eqb p.message.desk q)) (p ∷ without q ps) (without q ps) (AllByRecursion P)
    (λ _. (h.0, all_without P q ps h.1)) (λ _. all_without P q ps h.1)

is_done_fits : (q : ℕ) (d : Desk) (seen : List Sight) → WasShownThere q seen → Fits d seen → Fits (is_done q d).desk (seen ++ map Gave (is_done q d).items)
is_done_fits q d seen there fits =
    let more : List Sight = Gave (note.Done q) ∷ [] in
    record {
      carried = carried_from [] seen more fits.carried (there, tt);
      last = λ c. some_still (d.last c) _ _ (λ s h. shown_still c s.request s.octets seen more h) (fits.last c);
      forth = all_still _ _ (λ n h. shown_still n.call n.set.request n.set.octets seen more h) d.forth fits.forth;
      pending =
          all_without _ q d.pending (all_still _ _
          (λ p h. shown_still p.message.call p.message.set.request p.message.set.octets seen more h) d.pending fits.pending);
      second =
          λ p. (
            (λ e. there_still p seen more ((fits.second p).0 e)),
            (λ w. elim (there_split p seen more w) [ inl a ↦ (fits.second p).1 a | inr b ↦ elim b [ inl x ↦ absurd x | inr x ↦ absurd x ] ]),
          );
      back = all_still _ _ (λ p h. there_still p seen more h) d.back fits.back;
    }

hands_back_fits : (k : ℕ) (d : Desk) (seen : List Sight) → Fits d seen → Fits (hands_back k d).desk (seen ++ map Gave (hands_back k d).items)
hands_back_fits k d seen fits = by_message (kth k d.back) (kth_all (λ q. WasShownThere q seen) k d.back fits.back)
  where
    by_message : (o : Option ℕ) → IfSome o (λ q. WasShownThere q seen)
        → Fits (arrives_back o d).desk (seen ++ map Gave (arrives_back o d).items)
    by_message None h = fits_still d seen (note.Nothing ∷ []) (tt, tt) fits
    by_message (Some q) h =
        cond_both (is_pending q d.pending) (is_done q d) (quiet_row d) (λ (r : Row). Fits r.desk (seen ++ map Gave r.items))
        (λ _. is_done_fits q d seen h fits) (λ _. fits_still d seen [] tt fits)

-- a unit tick
turn_plain : (o : Turn) (m : Message) (rest : List RelayNote) → AllByRecursion IsPlain rest → AllByRecursion IsPlain (turn_item o m ++ rest)
turn_plain turn.GivesUp m rest h = (tt, h)
turn_plain turn.Resends m rest h = (tt, h)
turn_plain turn.Waits m rest h = h

turns_plain : (ps : List PendingRequest) → AllByRecursion IsPlain (flat_map (λ p. turn_item (turn_at p.ticks) p.message) ps)
turns_plain [] = tt
turns_plain (p ∷ ps) = turn_plain (turn_at p.ticks) p.message _ (turns_plain ps)

turn_sends : (P : Message → Type 0) (o : Turn) (m : Message) (rest : List Message) → P m → AllByRecursion P rest → AllByRecursion P (turn_message o m ++ rest)
turn_sends P turn.GivesUp m rest a h = h
turn_sends P turn.Resends m rest a h = (a, h)
turn_sends P turn.Waits m rest a h = h

turns_send : (P : Message → Type 0) (ps : List PendingRequest) → AllByRecursion (λ p. P p.message) ps
    → AllByRecursion P (flat_map (λ p. turn_message (turn_at p.ticks) p.message) ps)
turns_send P [] h = tt
turns_send P (p ∷ ps) h = turn_sends P (turn_at p.ticks) p.message _ h.0 (turns_send P ps h.1)

turn_keeps : (P : PendingRequest → Type 0) (o : Turn) (p : PendingRequest) (rest : List PendingRequest) → P p → AllByRecursion P rest
    → AllByRecursion P (turn_pending o p ++ rest)
turn_keeps P turn.GivesUp p rest a h = h
turn_keeps P turn.Resends p rest a h = (a, h)
turn_keeps P turn.Waits p rest a h = (a, h)

turns_keep : (P : PendingRequest → Type 0) (ps : List PendingRequest) → AllByRecursion P ps
    → AllByRecursion P (flat_map (λ p. turn_pending (turn_at p.ticks) p) ps)
turns_keep P [] h = tt
turns_keep P (p ∷ ps) h = turn_keeps P (turn_at p.ticks) p _ h.0 (turns_keep P ps h.1)

all_older : (P : Message → Type 0) (n : ℕ) (ps : List PendingRequest) → AllByRecursion (λ p. P p.message) ps → AllByRecursion (λ p. P p.message) (map (older n) ps)
all_older P n [] h = tt
all_older P n (p ∷ ps) h = (h.0, all_older P n ps h.1)

unit_fits : (d : Desk) (seen : List Sight) → Fits d seen → Fits (unit d).desk (seen ++ map Gave (unit d).items)
unit_fits d seen fits =
    let items : List RelayNote = (unit d).items in
    let ps : List PendingRequest = map (older 1) d.pending in
    let still : Fits d (seen ++ map Gave items) = fits_still d seen items (turns_plain ps) fits in
    let aged = all_older (IsOfShown (seen ++ map Gave items)) 1 d.pending still.pending in
    record {
      carried = still.carried;
      last = still.last;
      forth = all_push _ d.forth (flat_map (λ p. turn_message (turn_at p.ticks) p.message) ps) still.forth (turns_send _ ps aged);
      pending = turns_keep _ ps aged;
      second = still.second;
      back = still.back;
    }

-- one event and then another
both_fit : (first : Row) (second : Desk → Row) (seen : List Sight)
    → ((s : List Sight) → Fits first.desk s → Fits (second first.desk).desk (s ++ map Gave (second first.desk).items))
    → Fits first.desk (seen ++ map Gave first.items)
    → Fits (and_then first second).desk (seen ++ map Gave (and_then first second).items)
both_fit first second seen step h =
    let more = step (seen ++ map Gave first.items) h in
    let P : List Sight → Type 0 = Fits (second first.desk).desk in
    subst P
    (append_assoc seen (map Gave first.items) (map Gave (second first.desk).items)
    ∙ ap (λ (xs : List Sight). seen ++ xs) (sym (map-append Gave first.items (second first.desk).items))) more

units_fit : (n : ℕ) (d : Desk) (seen : List Sight) → Fits d seen → Fits (units n d).desk (seen ++ map Gave (units n d).items)
units_fit zero d seen fits = fits_still d seen [] tt fits
units_fit (suc n) d seen fits =
    both_fit (units n d) unit seen (λ s h. unit_fits (units n d).desk s h) (units_fit n d seen fits)

-- any event
pub event_fits : (e : RelayEvent) (d : Desk) (seen : List Sight) → Fits d seen
    → Fits (happens d e).desk (seen ++ sights_of e (happens d e).items)
event_fits (event.Shown c r o) d seen fits = shows_fit c (record { request = r; octets = o }) d seen fits
event_fits (event.Pass c) d seen fits = passes_fit c d seen fits
event_fits (event.Forth k) d seen fits = hands_forth_fits k d seen fits
event_fits (event.Back k) d seen fits = hands_back_fits k d seen fits
event_fits (event.Units n) d seen fits = units_fit n d seen fits

pub first_fits : Fits first_desk []
first_fits =
    record {
      carried = tt;
      last = λ c. tt;
      forth = tt;
      pending = tt;
      second = λ q. ((λ e. absurd cc), (λ w. absurd w));
      back = tt;
    }
