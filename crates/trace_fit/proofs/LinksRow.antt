-- A row keeps what ties the sets of a call, and what it says of a set comes behind what that rests on.
use Rattle.std.specs.Prelude.{◌≡◌, ℕ, ◌==◌, zero, suc, Bool, true, false, List, [], ◌∷◌, ◌++◌, ◌⊎◌, Option, Some, None, IfSome, ◌&&◌, if◌then◌else◌}
use Rattle.std.specs.List.{AllByRecursion}
use Rattle.std.proofs.Common.{refl, sym, ap, subst, ◌∙◌, inl, inr, append_assoc}
use Rattle.std.proofs.lemmas.Bool.{eqb-true}
use Rattle.std.proofs.lemmas.List.{append-nil}
use Rattle.link_frames.specs.declared.frame.End.{End}
use Rattle.link_frames.specs.declared.frame.End.TheVariants as «end»
use Rattle.link_frames.specs.declared.note.Note.{Note}
use Rattle.link_frames.specs.declared.note.Note.TheVariants as note
use Rattle.link_frames.specs.declared.frame.Frame.{Frame}
use Rattle.link_frames.specs.declared.frame.Frame.TheVariants as frame
use Rattle.link_frames.specs.Legs.{Kept, through, owner, sets_moved, made_by}
use Rattle.link_frames.specs.Owes.{Seat, revoiced as reseated, seat_moved, IsOf, SaysSeated, VehicleSays, PointSays, Along, or_else, set_for, HasSet, Confirms, Brings}
use Rattle.trace_model.specs.declared.entry.Entry.{Entry}
use Rattle.trace_model.specs.History.{Sent, told, sends, sent_by, sets_step, sets_of}
use Rattle.trace_model.specs.Safety.{is_leg, is_own, own, IsShown, WasShown, IsShownFirst}
use Rattle.trace_model.proofs.Folds.{through_append, is_leg_same, not_of, own_sets, passed_over, sends_none, sent_append}
use Rattle.trace_fit.specs.Links.{CarriesMade, ConfirmsShown, Links, CallLinks}
use Rattle.trace_fit.specs.Order.{IsSent, WasSent, ComesBehind}
use Rattle.trace_fit.specs.inner.FitAt.{SetsFit, Tells, CameBy, Came, FollowsFrom}
use Rattle.trace_fit.proofs.Lists.{all_append, all_into}

-- a set that was kept for a request stays
set_stays : (r : ℕ) (o : List ℕ) (m : Kept) (ms : List Kept) → set_for r ms ≡ Some o → set_for r (m ∷ ms) ≡ Some o
set_stays r o m ms h = ap (λ z. or_else z (m.0 == r) m.1) h

made_stays : (e : End) (r : ℕ) (o : List ℕ) (f : Frame) (sets : List Kept) → set_for r sets ≡ Some o →
    set_for r (made_by e sets f) ≡ Some o
made_stays «end».Vehicle r o (frame.Content q zero p) sets h = set_stays r o (q, p) sets h
made_stays «end».Vehicle r o (frame.Content q (suc a) p) sets h = h
made_stays «end».Vehicle r o _ sets h = h
made_stays «end».Point r o f sets h = h

pub sets_stay : (e : End) (r : ℕ) (o : List ℕ) (n : Note) (sets : List Kept) → set_for r sets ≡ Some o →
    set_for r (sets_moved e sets n) ≡ Some o
sets_stay e r o (note.Send f d frame) sets h = made_stays e r o frame sets h
sets_stay «end».Vehicle r o (note.Shown c q p) sets h = h
sets_stay «end».Point r o (note.Shown c q p) sets h = set_stays r o (q, p) sets h
sets_stay e r o _ sets h = h

carries_stays : (e : End) (n : Note) (made : List Kept) (f : Frame) → CarriesMade made f →
    CarriesMade (sets_moved e made n) f
carries_stays e n made (frame.Content r a o) h = sets_stay e r o n made h
carries_stays e n made _ h = tt

confirms_stays : (e : End) (n : Note) (shown : List Kept) (f : Frame) → ConfirmsShown shown f →
    ConfirmsShown (sets_moved e shown n) f
confirms_stays e n shown (frame.Ack r) h = (h.0, sets_stay e r h.0 n shown h.1)
confirms_stays e n shown (frame.App r answer) h = (h.0, sets_stay e r h.0 n shown h.1)
confirms_stays e n shown _ h = tt

-- the frames that an end sent, behind an item of its own
abbrev pub sent_moved : List Sent → ℕ → Note → List Sent
sent_moved sent now (note.Send f d frame) = sent ++ record { tick = now; frame = frame } ∷ []
sent_moved sent now _ = sent

-- One item of the vehicle.

vehicle_link : (came : Option Frame) (now : ℕ) (n : Note) (made shown : List Kept) (up down : List Sent) →
    VehicleSays came made n → Links made shown up down →
    Links (sets_moved «end».Vehicle made n) shown (sent_moved up now n) down
vehicle_link came now n made shown up down says h =
    record {
      carried = carried n says;
      same = λ r o k. sets_stay «end».Vehicle r o n made (h.same r o k);
      confirmed = h.confirmed;
    }
  where
    one : (f : End) (d : ℕ) (frame : Frame) → VehicleSays came made (note.Send f d frame) →
        CarriesMade (sets_moved «end».Vehicle made (note.Send f d frame)) frame
    one f d (frame.Content r a o) says = says
    one f d _ says = tt

    carried : (n : Note) → VehicleSays came made n →
        AllByRecursion (λ s. CarriesMade (sets_moved «end».Vehicle made n) s.frame) (sent_moved up now n)
    carried (note.Send f d frame) says =
        all_append _ up _
        (all_into _ _ (λ s k. carries_stays «end».Vehicle (note.Send f d frame) made s.frame k) up h.carried)
        (one f d frame says, tt)
    carried _ says = h.carried

-- One item of the point.

shown_same : (r q : ℕ) (o p : List ℕ) (made : List Kept) → set_for q made ≡ Some p → (x : Option (List ℕ)) →
    (x ≡ Some o → set_for r made ≡ Some o) → (b : Bool) → (b ≡ true → q ≡ r) → or_else x b p ≡ Some o →
    set_for r made ≡ Some o
shown_same r q o p made brought (Some z) old b same h = old h
shown_same r q o p made brought None old true same h =
    subst (λ (k : ℕ). set_for k made ≡ Some o) (same refl) (brought ∙ h)
shown_same r q o p made brought None old false same h = cc

-- the set that came is the one made
brings : (made : List Kept) (r : ℕ) (o : List ℕ) → (came : Option Frame) → IfSome came (CarriesMade made) →
    Brings r o came → set_for r made ≡ Some o
brings made r o (Some (frame.Content q a p)) k b =
    subst (λ (z : ℕ). set_for z made ≡ Some o) b.0 (subst (λ (z : List ℕ). set_for q made ≡ Some z) b.1 k)
brings made r o _ k b = absurd b

point_link : (came : Option Frame) (now : ℕ) (n : Note) (made shown : List Kept) (up down : List Sent) →
    IfSome came (CarriesMade made) → PointSays came shown n → Links made shown up down →
    Links made (sets_moved «end».Point shown n) up (sent_moved down now n)
point_link came now n made shown up down brought says h =
    record { carried = h.carried; same = same n says; confirmed = confirmed n says }
  where
    same : (n : Note) → PointSays came shown n → (r : ℕ) (o : List ℕ) →
        set_for r (sets_moved «end».Point shown n) ≡ Some o → set_for r made ≡ Some o
    same (note.Shown c q p) says r o k =
        shown_same r q o p made (brings made q p came brought says) (set_for r shown) (h.same r o) (q == r)
        (eqb-true q r) k
    same _ says r o k = h.same r o k

    one : (f : End) (d : ℕ) (frame : Frame) → PointSays came shown (note.Send f d frame) → ConfirmsShown shown frame
    one f d (frame.Ack r) says = says
    one f d (frame.App r answer) says = says
    one f d _ says = tt

    confirmed : (n : Note) → PointSays came shown n →
        AllByRecursion (λ s. ConfirmsShown (sets_moved «end».Point shown n) s.frame) (sent_moved down now n)
    confirmed (note.Send f d frame) says = all_append _ down _ h.confirmed (one f d frame says, tt)
    confirmed (note.Shown c q p) says =
        all_into _ _ (λ s k. confirms_stays «end».Point (note.Shown c q p) shown s.frame k) down h.confirmed
    confirmed _ says = h.confirmed

-- What one more entry of a leg does to what the entries say.

sets_one : (e : End) (c now : ℕ) (t : List Entry) (n : Note) → IsOf e c n →
    sets_of e c (t ++ record { tick = now; note = n } ∷ []) ≡ sets_moved e (sets_of e c t) n
sets_one e c now t n a =
    through_append (own (sets_step e) e c) [] t (record { tick = now; note = n } ∷ [])
    ∙ own_sets e c now (sets_of e c t) n a

sets_other : (e f : End) (c d now : ℕ) (t : List Entry) (n : Note) → is_leg f d e c ≡ false → IsOf e c n →
    sets_of f d (t ++ record { tick = now; note = n } ∷ []) ≡ sets_of f d t
sets_other e f c d now t n apart a =
    through_append (own (sets_step f) f d) [] t (record { tick = now; note = n } ∷ [])
    ∙ passed_over (sets_step f) e f c d now (sets_of f d t) apart (n ∷ []) (a, tt)

sends_moved : (e : End) (c now : ℕ) (sent : List Sent) (n : Note) → IsOf e c n →
    sent ++ sends e c now n [] ≡ sent_moved sent now n
sends_moved e c now sent (note.Send f d frame) a =
    let own : is_leg e c f d ≡ true = rw (a.0, a.1) (is_leg_same e c) in rw own refl
sends_moved e c now sent _ a = append-nil sent

sent_one : (e : End) (c now : ℕ) (t : List Entry) (n : Note) → IsOf e c n →
    sent_by e c (t ++ record { tick = now; note = n } ∷ []) ≡ sent_moved (sent_by e c t) now n
sent_one e c now t n a =
    sent_append e c t (record { tick = now; note = n } ∷ []) ∙ sends_moved e c now (sent_by e c t) n a

sent_other : (e f : End) (c d now : ℕ) (t : List Entry) (n : Note) → is_leg f d e c ≡ false → IsOf e c n →
    sent_by f d (t ++ record { tick = now; note = n } ∷ []) ≡ sent_by f d t
sent_other e f c d now t n apart a =
    sent_append f d t (record { tick = now; note = n } ∷ [])
    ∙ ap (λ z. sent_by f d t ++ z) (sends_none f d now n [] (not_of e f c d apart (owner n) a))
    ∙ append-nil (sent_by f d t)

-- The sets of a seat.

reseated_sets : (k : Seat) → (a b : Bool) → (reseated k a b).sets ≡ k.sets
reseated_sets k true true = refl
reseated_sets k false false = refl
reseated_sets k true false = refl
reseated_sets k false true = refl

sets_fit : (e : End) (s : Option Seat) (n : Note) (sets : List Kept) → SetsFit s sets →
    SetsFit (seat_moved e s n) (sets_moved e sets n)
sets_fit e None n sets h = tt
sets_fit e (Some k) (note.Down f d why) sets h = tt
sets_fit e (Some k) (note.Voice f d u v) sets h = h ∙ sym (reseated_sets k k.talks (u && v))
sets_fit e (Some k) n sets h = ap (λ z. sets_moved e z n) h

-- what a seated end says, or one that is in no call
vehicle_says : (came : Option Frame) (s : Option Seat) (n : Note) (made : List Kept) → SetsFit s made →
    SaysSeated «end».Vehicle came s n → VehicleSays came made n
vehicle_says came (Some k) n made h says = subst (λ (z : List Kept). VehicleSays came z n) (sym h) says
vehicle_says came None (note.Send f d frame) made h says = absurd says
vehicle_says came None (note.Acked c r o) made h says = absurd says
vehicle_says came None _ made h says = tt

point_says : (came : Option Frame) (s : Option Seat) (n : Note) (shown : List Kept) → SetsFit s shown →
    SaysSeated «end».Point came s n → PointSays came shown n
point_says came (Some k) n shown h says = subst (λ (z : List Kept). PointSays came z n) (sym h) says
point_says came None (note.Send f d frame) shown h says = absurd says
point_says came None (note.Shown c r o) shown h says = absurd says
point_says came None _ shown h says = tt

-- A set that the entries say was made, or shown, for a request was sent, or shown, in them.

set_new : (r q : ℕ) (o p : List ℕ) → (x : Option (List ℕ)) → (b : Bool) → (b ≡ true → q ≡ r) →
    or_else x b p ≡ Some o → (x ≡ Some o) ⊎ ((q ≡ r) × (p ≡ o))
set_new r q o p (Some z) b g h = inl h
set_new r q o p None true g h = inr (g refl, cc)
set_new r q o p None false g h = cc

same_leg : (e : End) (c d : ℕ) → is_leg e c e d ≡ true → d ≡ c
same_leg «end».Vehicle c d h = sym (eqb-true c d h)
same_leg «end».Point c d h = sym (eqb-true c d h)

unmoved : (r : ℕ) (o : List ℕ) (sets : List Kept) → (b : Bool) → set_for r (if b then sets else sets) ≡ Some o →
    set_for r sets ≡ Some o
unmoved r o sets true k = k
unmoved r o sets false k = k

show_step : (c r : ℕ) (o : List ℕ) (sets : List Kept) (now : ℕ) (n : Note) →
    set_for r (own (sets_step «end».Point) «end».Point c sets (record { tick = now; note = n })) ≡ Some o →
    (set_for r sets ≡ Some o) ⊎ IsShown c r o n
show_step c r o sets now (note.Shown d q p) h = by_leg (is_leg «end».Point c «end».Point d) (same_leg «end».Point c d) h
  where
    with_leg : d ≡ c → (set_for r sets ≡ Some o) ⊎ ((q ≡ r) × (p ≡ o)) →
        (set_for r sets ≡ Some o) ⊎ IsShown c r o (note.Shown d q p)
    with_leg e (inl k) = inl k
    with_leg e (inr k) = inr (e, k.0, k.1)

    by_leg : (b : Bool) → (b ≡ true → d ≡ c) → set_for r (if b then (q, p) ∷ sets else sets) ≡ Some o →
        (set_for r sets ≡ Some o) ⊎ IsShown c r o (note.Shown d q p)
    by_leg true f k = with_leg (f refl) (set_new r q o p (set_for r sets) (q == r) (eqb-true q r) k)
    by_leg false f k = inl k
show_step c r o sets now n h = inl (unmoved r o sets (is_own «end».Point c n) h)

make_step : (c r : ℕ) (o : List ℕ) (sets : List Kept) (now : ℕ) (n : Note) →
    set_for r (own (sets_step «end».Vehicle) «end».Vehicle c sets (record { tick = now; note = n })) ≡ Some o →
    (set_for r sets ≡ Some o) ⊎ IsSent c r o n
make_step c r o sets now (note.Send «end».Vehicle d (frame.Content q zero p)) h =
    by_leg (is_leg «end».Vehicle c «end».Vehicle d) (same_leg «end».Vehicle c d) h
  where
    with_leg : d ≡ c → (set_for r sets ≡ Some o) ⊎ ((q ≡ r) × (p ≡ o)) →
        (set_for r sets ≡ Some o) ⊎ IsSent c r o (note.Send «end».Vehicle d (frame.Content q zero p))
    with_leg e (inl k) = inl k
    with_leg e (inr k) = inr (e, k.0, k.1)

    by_leg : (b : Bool) → (b ≡ true → d ≡ c) → set_for r (if b then (q, p) ∷ sets else sets) ≡ Some o →
        (set_for r sets ≡ Some o) ⊎ IsSent c r o (note.Send «end».Vehicle d (frame.Content q zero p))
    by_leg true f k = with_leg (f refl) (set_new r q o p (set_for r sets) (q == r) (eqb-true q r) k)
    by_leg false f k = inl k
make_step c r o sets now (note.Send «end».Vehicle d _) h = inl (unmoved r o sets (is_leg «end».Vehicle c «end».Vehicle d) h)
make_step c r o sets now n h = inl (unmoved r o sets (is_own «end».Vehicle c n) h)

shown_from : (c r : ℕ) (o : List ℕ) (sets : List Kept) (t : List Entry) →
    set_for r (through (own (sets_step «end».Point) «end».Point c) sets t) ≡ Some o →
    (set_for r sets ≡ Some o) ⊎ WasShown c r o t
shown_from c r o sets [] h = inl h
shown_from c r o sets (x ∷ t) h = join (shown_from c r o (own (sets_step «end».Point) «end».Point c sets x) t h)
  where
    first : (set_for r sets ≡ Some o) ⊎ IsShown c r o x.note → (set_for r sets ≡ Some o) ⊎ WasShown c r o (x ∷ t)
    first (inl k) = inl k
    first (inr k) = inr (inl k)

    join : (set_for r (own (sets_step «end».Point) «end».Point c sets x) ≡ Some o) ⊎ WasShown c r o t →
        (set_for r sets ≡ Some o) ⊎ WasShown c r o (x ∷ t)
    join (inl k) = first (show_step c r o sets x.tick x.note k)
    join (inr k) = inr (inr k)

pub was_shown : (c r : ℕ) (o : List ℕ) (t : List Entry) → set_for r (sets_of «end».Point c t) ≡ Some o → WasShown c r o t
was_shown c r o t h = out (shown_from c r o [] t h)
  where
    out : (set_for r [] ≡ Some o) ⊎ WasShown c r o t → WasShown c r o t
    out (inl k) = cc
    out (inr k) = k

made_from : (c r : ℕ) (o : List ℕ) (sets : List Kept) (t : List Entry) →
    set_for r (through (own (sets_step «end».Vehicle) «end».Vehicle c) sets t) ≡ Some o →
    (set_for r sets ≡ Some o) ⊎ WasSent c r o t
made_from c r o sets [] h = inl h
made_from c r o sets (x ∷ t) h = join (made_from c r o (own (sets_step «end».Vehicle) «end».Vehicle c sets x) t h)
  where
    first : (set_for r sets ≡ Some o) ⊎ IsSent c r o x.note → (set_for r sets ≡ Some o) ⊎ WasSent c r o (x ∷ t)
    first (inl k) = inl k
    first (inr k) = inr (inl k)

    join : (set_for r (own (sets_step «end».Vehicle) «end».Vehicle c sets x) ≡ Some o) ⊎ WasSent c r o t →
        (set_for r sets ≡ Some o) ⊎ WasSent c r o (x ∷ t)
    join (inl k) = first (make_step c r o sets x.tick x.note k)
    join (inr k) = inr (inr k)

pub was_sent : (c r : ℕ) (o : List ℕ) (t : List Entry) → set_for r (sets_of «end».Vehicle c t) ≡ Some o → WasSent c r o t
was_sent c r o t h = out (made_from c r o [] t h)
  where
    out : (set_for r [] ≡ Some o) ⊎ WasSent c r o t → WasSent c r o t
    out (inl k) = cc
    out (inr k) = k

-- What the vehicle counts was shown: the frame that came confirms a request whose set was shown, and that is the set made.

confirmed_set : (r : ℕ) (shown : List Kept) → (came : Option Frame) → IfSome came (ConfirmsShown shown) → Confirms r came →
    HasSet r shown
confirmed_set r shown (Some (frame.Ack q)) h k = subst (λ (z : ℕ). HasSet z shown) k h
confirmed_set r shown (Some (frame.App q answer)) h k = subst (λ (z : ℕ). HasSet z shown) k h
confirmed_set r shown _ h k = absurd k

counted : (came : Option Frame) (c : ℕ) (t : List Entry) → CallLinks t c → IfSome came (Came «end».Vehicle c t) →
    (n : Note) → IsOf «end».Vehicle c n → VehicleSays came (sets_of «end».Vehicle c t) n → IsShownFirst t n
counted came c t links brought (note.Acked d r o) own says =
    let k = confirmed_set r (sets_of «end».Point c t) came brought says.0 in
    let e : Some k.0 ≡ Some o = sym (links.same r k.0 k.1) ∙ says.1 in
    subst (λ (z : ℕ). WasShown z r o t) (sym own.1) (was_shown c r o t (k.1 ∙ e))
counted came c t links brought _ own says = tt

vehicle_behind : (c : ℕ) (t : List Entry) → (n : Note) → IsOf «end».Vehicle c n → ComesBehind t n
vehicle_behind c t (note.Shown d r o) own = let e : «end».Point ≡ «end».Vehicle = own.0 in cc
vehicle_behind c t (note.Send «end».Vehicle d frame) own = tt
vehicle_behind c t (note.Send «end».Point d frame) own = let e : «end».Point ≡ «end».Vehicle = own.0 in cc
vehicle_behind c t _ own = tt

-- The point shows what was sent, and acknowledges what was shown.

point_counts_none : (c : ℕ) (t : List Entry) → (n : Note) → IsOf «end».Point c n → IsShownFirst t n
point_counts_none c t (note.Acked d r o) own = let e : «end».Vehicle ≡ «end».Point = own.0 in cc
point_counts_none c t _ own = tt

point_behind : (came : Option Frame) (c : ℕ) (t : List Entry) → IfSome came (Came «end».Point c t) →
    (n : Note) → IsOf «end».Point c n → PointSays came (sets_of «end».Point c t) n → ComesBehind t n
point_behind came c t brought (note.Shown d r o) own says =
    subst (λ (z : ℕ). WasSent z r o t) (sym own.1)
    (was_sent c r o t (brings (sets_of «end».Vehicle c t) r o came brought says))
point_behind came c t brought (note.Send «end».Point d (frame.Ack r)) own says =
    (says.0, subst (λ (z : ℕ). WasShown z r says.0 t) (sym own.1) (was_shown c r says.0 t says.1))
point_behind came c t brought (note.Send «end».Point d (frame.App r answer)) own says =
    (says.0, subst (λ (z : ℕ). WasShown z r says.0 t) (sym own.1) (was_shown c r says.0 t says.1))
point_behind came c t brought _ own says = tt

-- Whole rows.

vehicle_came : (came : Option Frame) (made made' shown shown' : List Kept) → shown' ≡ shown →
    IfSome came (CameBy «end».Vehicle made shown) → IfSome came (CameBy «end».Vehicle made' shown')
vehicle_came None made made' shown shown' e h = tt
vehicle_came (Some f) made made' shown shown' e h = subst (λ (z : List Kept). ConfirmsShown z f) (sym e) h

point_came : (came : Option Frame) (made made' shown shown' : List Kept) → made' ≡ made →
    IfSome came (CameBy «end».Point made shown) → IfSome came (CameBy «end».Point made' shown')
point_came None made made' shown shown' e h = tt
point_came (Some f) made made' shown shown' e h = subst (λ (z : List Kept). CarriesMade z f) (sym e) h

abbrev pub RowTells : ℕ → List Entry → List Entry → Type 0
RowTells c t u = CallLinks (t ++ u) c × FollowsFrom t u

nothing_told : (c : ℕ) (t : List Entry) → CallLinks t c → RowTells c t []
nothing_told c t h = (subst (λ (z : List Entry). CallLinks z c) (sym (append-nil t)) h, tt)

one_told : (c : ℕ) (t : List Entry) (x : Entry) (xs : List Entry) → IsShownFirst t x.note → ComesBehind t x.note →
    RowTells c (t ++ x ∷ []) xs → RowTells c t (x ∷ xs)
one_told c t x xs shown behind rest =
    (subst (λ (z : List Entry). CallLinks z c) (append_assoc t (x ∷ []) xs) rest.0, ((shown, behind), rest.1))

pub vehicle_tells : (came : Option Frame) (c now : ℕ) (s : Option Seat) (ns : List Note) (t : List Entry) →
    IfSome came (Came «end».Vehicle c t) → SetsFit s (sets_of «end».Vehicle c t) →
    Along (Tells «end».Vehicle c came) «end».Vehicle s ns → CallLinks t c → RowTells c t (told now ns)
vehicle_tells came c now s [] t brought fit a h = nothing_told c t h
vehicle_tells came c now s (n ∷ ns) t brought fit a h =
    let says : VehicleSays came (sets_of «end».Vehicle c t) n = vehicle_says came s n (sets_of «end».Vehicle c t) fit a.0.1 in
    let made = sets_one «end».Vehicle c now t n a.0.0 in
    let shown = sets_other «end».Vehicle «end».Point c c now t n refl a.0.0 in
    one_told c t (record { tick = now; note = n }) (told now ns) (counted came c t h brought n a.0.0 says)
    (vehicle_behind c t n a.0.0)
    (vehicle_tells came c now (seat_moved «end».Vehicle s n) ns (t ++ record { tick = now; note = n } ∷ [])
    (vehicle_came came (sets_of «end».Vehicle c t) (sets_of «end».Vehicle c (t ++ record { tick = now; note = n } ∷ []))
    (sets_of «end».Point c t) (sets_of «end».Point c (t ++ record { tick = now; note = n } ∷ [])) shown brought)
    (rw made (sets_fit «end».Vehicle s n (sets_of «end».Vehicle c t) fit)) a.1
    (rw (made, shown, sent_one «end».Vehicle c now t n a.0.0, sent_other «end».Vehicle «end».Point c c now t n refl a.0.0)
    (vehicle_link came now n (sets_of «end».Vehicle c t) (sets_of «end».Point c t) (sent_by «end».Vehicle c t)
    (sent_by «end».Point c t) says h)))

pub point_tells : (came : Option Frame) (c now : ℕ) (s : Option Seat) (ns : List Note) (t : List Entry) →
    IfSome came (Came «end».Point c t) → SetsFit s (sets_of «end».Point c t) →
    Along (Tells «end».Point c came) «end».Point s ns → CallLinks t c → RowTells c t (told now ns)
point_tells came c now s [] t brought fit a h = nothing_told c t h
point_tells came c now s (n ∷ ns) t brought fit a h =
    let says : PointSays came (sets_of «end».Point c t) n = point_says came s n (sets_of «end».Point c t) fit a.0.1 in
    let shown = sets_one «end».Point c now t n a.0.0 in
    let made = sets_other «end».Point «end».Vehicle c c now t n refl a.0.0 in
    one_told c t (record { tick = now; note = n }) (told now ns) (point_counts_none c t n a.0.0)
    (point_behind came c t brought n a.0.0 says)
    (point_tells came c now (seat_moved «end».Point s n) ns (t ++ record { tick = now; note = n } ∷ [])
    (point_came came (sets_of «end».Vehicle c t) (sets_of «end».Vehicle c (t ++ record { tick = now; note = n } ∷ []))
    (sets_of «end».Point c t) (sets_of «end».Point c (t ++ record { tick = now; note = n } ∷ [])) made brought)
    (rw shown (sets_fit «end».Point s n (sets_of «end».Point c t) fit)) a.1
    (rw (made, shown, sent_other «end».Point «end».Vehicle c c now t n refl a.0.0, sent_one «end».Point c now t n a.0.0)
    (point_link came now n (sets_of «end».Vehicle c t) (sets_of «end».Point c t) (sent_by «end».Vehicle c t)
    (sent_by «end».Point c t) brought says h)))
