-- Calls that stand for calls, one for one: found by their number, changed at a place, and what they carry.
use Rattle.std.proofs.Common.{◌≡◌, ℕ, zero, suc, ◌-◌, ◌<◌, ◌≤◌, ◌==◌, if◌then◌else◌, Bool, true, false, Option, Some, None, List, [], ◌∷◌, ◌++◌, length, get_or, map, refl, ap, sym, ◌∙◌, subst, arith, append-nil, append_assoc, Result, Ok, Err, OnOk, OnErr}
use Rattle.std.proofs.Math.ListN.{set}
use Rattle.std.specs.Option.{is_some}
use Rattle.std.proofs.lemmas.Bool.{eqb-true, eqb-false}
use Rattle.link_frames.specs.declared.frame.End.{End}
use Rattle.link_frames.specs.declared.frame.End.TheVariants as «end»
use Rattle.link_frames.specs.declared.frame.Frame.{Frame}
use Rattle.link_frames.specs.declared.note.Note.{Note}
use Rattle.link_frames.specs.declared.note.Note.TheVariants as note
use Rattle.link_frames.specs.Row.{Row}
use Rattle.psap_machine.specs.declared.session.Session.{Session}
use Rattle.psap_machine.specs.Point.{Point}
use Rattle.trace_model.specs.declared.entry.Entry.{Entry}
use Rattle.trace_model.specs.History.{Sent, told, sends, sent_by}
use Rattle.trace_model.specs.Safety.{is_leg}
use Rattle.channel_sim.specs.declared.calls.call.Call as kept_call
use Rattle.channel_sim.specs.World.{Call, call_of, session_in, session_of, seated, carries}
use Rattle.channel_sim.specs.inner.Acts.{IsUpTo, pushed, seat_items, seat_after, CallDid, SessionDid, IsCaught}
use Rattle.channel_sim.specs.Lag.{LeastPassed, SeatLags, CallLags, CallsLag}
use Rattle.channel_sim.specs.inner.Places.{place_of}
use Rattle.channel_sim.specs.Tidy.{AreAbove, numbers_of}
use Rattle.channel_sim.specs.inner.Beside.{numbers}
use Rattle.channel_sim.proofs.PlaceLemmas.{next_place-some, next_place-none, place_first, place_behind, above_nowhere}

pub same_numbers : (floor : LeastPassed) (clock : ℕ → ℕ) (xs : List kept_call.Call) (ks : List Call) → CallsLag floor clock xs ks → numbers_of ks ≡ numbers xs
same_numbers floor clock [] [] h = refl
same_numbers floor clock [] (k ∷ ks) h = absurd h
same_numbers floor clock (x ∷ xs) [] h = absurd h
same_numbers floor clock (x ∷ xs) (k ∷ ks) h = ap (λ n. n ∷ numbers_of ks) h.0.number ∙ ap (λ ns. x.number ∷ ns) (same_numbers floor clock xs ks h.1)

-- The frames that items send.

pub sends-append : (e : End) (c t : ℕ) (n : Note) (others : List Sent) → sends e c t n others ≡ sends e c t n [] ++ others
sends-append e c t (note.Send f d frame) others =
    elim (is_leg e c f d) as (λ b. (if b then record { tick = t; frame = frame } ∷ others else others) ≡ (if b then record { tick = t; frame = frame } ∷ [] else []) ++ others) [ true ↦ refl | false ↦ refl ]
sends-append e c t _ others = refl

pub sent_by-append : (e : End) (c : ℕ) (xs ys : List Entry) → sent_by e c (xs ++ ys) ≡ sent_by e c xs ++ sent_by e c ys
sent_by-append e c [] ys = refl
sent_by-append e c (x ∷ xs) ys =
    ap (sends e c x.tick x.note) (sent_by-append e c xs ys)
    ∙ sends-append e c x.tick x.note (sent_by e c xs ++ sent_by e c ys)
    ∙ sym (append_assoc (sends e c x.tick x.note []) (sent_by e c xs) (sent_by e c ys))
    ∙ ap (λ front. front ++ sent_by e c ys) (sym (sends-append e c x.tick x.note (sent_by e c xs)))

-- what a call carries of entries, and then of others
pub carries-append : (xs ys : List Entry) (k : Call) → carries (xs ++ ys) k ≡ carries ys (carries xs k)
carries-append xs ys k =
    let up : k.up ++ sent_by «end».Vehicle k.number (xs ++ ys) ≡ (k.up ++ sent_by «end».Vehicle k.number xs) ++ sent_by «end».Vehicle k.number ys =
    ap (λ z. k.up ++ z) (sent_by-append «end».Vehicle k.number xs ys) ∙ sym (append_assoc k.up _ _) in
    let down : k.down ++ sent_by «end».Point k.number (xs ++ ys) ≡ (k.down ++ sent_by «end».Point k.number xs) ++ sent_by «end».Point k.number ys =
    ap (λ z. k.down ++ z) (sent_by-append «end».Point k.number xs ys) ∙ sym (append_assoc k.down _ _) in
    ap (λ z. record k { up = z; down = k.down ++ sent_by «end».Point k.number (xs ++ ys) }) up
    ∙ ap (λ z. record k { up = (k.up ++ sent_by «end».Vehicle k.number xs) ++ sent_by «end».Vehicle k.number ys; down = z }) down

pub all_carry : (xs ys : List Entry) (ks : List Call) → map (carries (xs ++ ys)) ks ≡ map (carries ys) (map (carries xs) ks)
all_carry xs ys [] = refl
all_carry xs ys (k ∷ ks) =
    ap (λ z. z ∷ map (carries (xs ++ ys)) ks) (carries-append xs ys k) ∙ ap (λ z. carries ys (carries xs k) ∷ z) (all_carry xs ys ks)

pub carried_numbers : (es : List Entry) (ks : List Call) → numbers_of (map (carries es) ks) ≡ numbers_of ks
carried_numbers es [] = refl
carried_numbers es (k ∷ ks) = ap (λ z. k.number ∷ z) (carried_numbers es ks)

pub carries_none : (ks : List Call) → map (carries []) ks ≡ ks
carries_none [] = refl
carries_none (k ∷ ks) =
    ap (λ z. record k { up = z; down = k.down ++ [] } ∷ map (carries []) ks) (append-nil k.up)
    ∙ ap (λ z. record k { down = z } ∷ map (carries []) ks) (append-nil k.down)
    ∙ ap (λ z. k ∷ z) (carries_none ks)

-- an item that sends nothing
abbrev pub IsNoSend : Note → Type 0
IsNoSend (note.Send e c f) = ⊥
IsNoSend _ = Unit {0}

pub no_send : (n : Note) → ((e : End) (c : ℕ) (f : Frame) → n ≡ note.Send e c f → ⊥) → IsNoSend n
no_send (note.Send e c f) h = h e c f refl
no_send _ h = tt

pub none_of : {A : Type 0} (o : Option A) → ((x : A) → o ≡ Some x → ⊥) → o ≡ None
none_of None h = refl
none_of (Some x) h = absurd (h x refl)

sends_nothing : (e : End) (c t : ℕ) (n : Note) → IsNoSend n → sends e c t n [] ≡ []
sends_nothing e c t (note.Send f d frame) h = absurd h
sends_nothing e c t _ h = refl

-- the call, as it stands with the frames of this item that aren't its own
carried_call : (floor : LeastPassed) (clock : ℕ) (es : List Entry) (x : kept_call.Call) (k : Call) → sent_by «end».Vehicle k.number es ≡ [] → sent_by «end».Point k.number es ≡ [] → CallLags floor clock x k → CallLags floor clock x (carries es k)
carried_call floor clock es x k up down h =
    record {
      number = h.number;
      up = ap (λ z. k.up ++ z) up ∙ append-nil k.up ∙ h.up;
      down = ap (λ z. k.down ++ z) down ∙ append-nil k.down ∙ h.down;
      passed = h.passed;
      from = h.from;
      session = h.session;
    }

pub carries_no_send : (floor : LeastPassed) (clock : ℕ → ℕ) (t : ℕ) (n : Note) → IsNoSend n → (xs : List kept_call.Call) (ks : List Call) → CallsLag floor clock xs ks → CallsLag floor clock xs (map (carries (told t (n ∷ []))) ks)
carries_no_send floor clock t n nothing [] [] h = tt
carries_no_send floor clock t n nothing [] (k ∷ ks) h = absurd h
carries_no_send floor clock t n nothing (x ∷ xs) [] h = absurd h
carries_no_send floor clock t n nothing (x ∷ xs) (k ∷ ks) h =
    (carried_call floor (clock k.number) (told t (n ∷ [])) x k (sends_nothing «end».Vehicle k.number t n nothing) (sends_nothing «end».Point k.number t n nothing) h.0, carries_no_send floor clock t n nothing xs ks h.1)

abbrev pub one_sent : ℕ → End → ℕ → Frame → List Entry
one_sent t e c f = told t (note.Send e c f ∷ [])

sent_elsewhere : (t c d : ℕ) (e g : End) (f : Frame) → (d == c) ≡ false → sent_by g d (one_sent t e c f) ≡ []
sent_elsewhere t c d «end».Vehicle «end».Vehicle f h = ap (λ b. if b then record { tick = t; frame = f } ∷ [] else []) h
sent_elsewhere t c d «end».Vehicle «end».Point f h = refl
sent_elsewhere t c d «end».Point «end».Vehicle f h = refl
sent_elsewhere t c d «end».Point «end».Point f h = ap (λ b. if b then record { tick = t; frame = f } ∷ [] else []) h

-- a frame sent in a call that isn't among these
pub posted_elsewhere : (floor : LeastPassed) (clock : ℕ → ℕ) (t c : ℕ) (e : End) (f : Frame) (xs : List kept_call.Call) (ks : List Call) → CallsLag floor clock xs ks → place_of c (numbers_of ks) ≡ None → CallsLag floor clock xs (map (carries (one_sent t e c f)) ks)
posted_elsewhere floor clock t c e f [] [] h none = tt
posted_elsewhere floor clock t c e f [] (k ∷ ks) h none = absurd h
posted_elsewhere floor clock t c e f (x ∷ xs) [] h none = absurd h
posted_elsewhere floor clock t c e f (x ∷ xs) (k ∷ ks) h none = at (posted_elsewhere floor clock t c e f xs ks h.1) (k.number == c) refl
  where
    at : (place_of c (numbers_of ks) ≡ None → CallsLag floor clock xs (map (carries (one_sent t e c f)) ks)) → (b : Bool) → (k.number == c) ≡ b → CallsLag floor clock (x ∷ xs) (map (carries (one_sent t e c f)) (k ∷ ks))
    at further true same = let first = place_first c k.number (numbers_of ks) same in cc
    at further false other = (
      carried_call floor (clock k.number) (one_sent t e c f) x k (sent_elsewhere t c k.number e «end».Vehicle f other) (sent_elsewhere t c k.number e «end».Point f other) h.0,
      further (next_place-none (place_of c (numbers_of ks)) (sym (place_behind c k.number (numbers_of ks) other) ∙ none)),
    )

posted_here : (floor : LeastPassed) (clock t c : ℕ) (e : End) (f : Frame) (x : kept_call.Call) (k : Call) → (k.number == c) ≡ true → CallLags floor clock x k → CallLags floor clock (pushed e (record { tick = t; frame = f }) x) (carries (one_sent t e c f) k)
posted_here floor clock t c «end».Vehicle f x k same h =
    record {
      number = h.number;
      up = ap (λ b. k.up ++ (if b then record { tick = t; frame = f } ∷ [] else [])) same ∙ ap (λ z. z ++ record { tick = t; frame = f } ∷ []) h.up;
      down = append-nil k.down ∙ h.down;
      passed = h.passed;
      from = h.from;
      session = h.session;
    }
posted_here floor clock t c «end».Point f x k same h =
    record {
      number = h.number;
      up = append-nil k.up ∙ h.up;
      down = ap (λ b. k.down ++ (if b then record { tick = t; frame = f } ∷ [] else [])) same ∙ ap (λ z. z ++ record { tick = t; frame = f } ∷ []) h.down;
      passed = h.passed;
      from = h.from;
      session = h.session;
    }

-- a frame sent in the call at i
pub posted_at : (floor : LeastPassed) (clock : ℕ → ℕ) (n t c : ℕ) (e : End) (f : Frame) (xs : List kept_call.Call) (ks : List Call) (i : ℕ) (d : kept_call.Call) → CallsLag floor clock xs ks → AreAbove n (numbers_of ks) → place_of c (numbers_of ks) ≡ Some i → CallsLag floor clock (set xs i (pushed e (record { tick = t; frame = f }) (get_or xs i d))) (map (carries (one_sent t e c f)) ks)
posted_at floor clock n t c e f [] [] i d h up place = cc
posted_at floor clock n t c e f [] (k ∷ ks) i d h up place = absurd h
posted_at floor clock n t c e f (x ∷ xs) [] i d h up place = absurd h
posted_at floor clock n t c e f (x ∷ xs) (k ∷ ks) i d h up place =
    step (λ j. posted_at floor clock k.number t c e f xs ks j d h.1 up.1) (k.number == c) refl
  where
    step : ((j : ℕ) → place_of c (numbers_of ks) ≡ Some j → CallsLag floor clock (set xs j (pushed e (record { tick = t; frame = f }) (get_or xs j d))) (map (carries (one_sent t e c f)) ks)) → (b : Bool) → (k.number == c) ≡ b → CallsLag floor clock (set (x ∷ xs) i (pushed e (record { tick = t; frame = f }) (get_or (x ∷ xs) i d))) (map (carries (one_sent t e c f)) (k ∷ ks))
    step further true same =
        let first = place_first c k.number (numbers_of ks) same in
        let at : 0 ≡ i = cc in
        let here : k.number ≡ c = eqb-true k.number c same in
        subst (λ z. CallsLag floor clock (set (x ∷ xs) z (pushed e (record { tick = t; frame = f }) (get_or (x ∷ xs) z d))) (map (carries (one_sent t e c f)) (k ∷ ks))) at
        (posted_here floor (clock k.number) t c e f x k same h.0, posted_elsewhere floor clock t c e f xs ks h.1 (above_nowhere k.number c (numbers_of ks) up.1 (omega arith)))
    step further false other =
        let next = next_place-some (place_of c (numbers_of ks)) i (sym (place_behind c k.number (numbers_of ks) other) ∙ place) in
        subst (λ z. CallsLag floor clock (set (x ∷ xs) z (pushed e (record { tick = t; frame = f }) (get_or (x ∷ xs) z d))) (map (carries (one_sent t e c f)) (k ∷ ks))) (sym next.2)
        (carried_call floor (clock k.number) (one_sent t e c f) x k (sent_elsewhere t c k.number e «end».Vehicle f other) (sent_elsewhere t c k.number e «end».Point f other) h.0, further next.0 next.1)

-- Sessions found by their call.

pub seat_there : (n : ℕ) (a : Option Session) (b : Option Point) → SeatLags n a b → is_some a ≡ is_some b
seat_there n None None h = refl
seat_there n None (Some s) h = absurd h
seat_there n (Some k) None h = absurd h
seat_there n (Some k) (Some s) h = refl

pub session_behind : (c : ℕ) (k : Call) (ks : List Call) → (k.number == c) ≡ false → session_of c (k ∷ ks) ≡ session_of c ks
session_behind c k ks other = ap (λ b. session_in (if b then Some k else call_of c ks)) other

pub session_first : (c : ℕ) (k : Call) (ks : List Call) → (k.number == c) ≡ true → session_of c (k ∷ ks) ≡ k.session
session_first c k ks same = ap (λ b. session_in (if b then Some k else call_of c ks)) same

pub no_session : (c : ℕ) (ks : List Call) → place_of c (numbers_of ks) ≡ None → session_of c ks ≡ None
no_session c [] none = refl
no_session c (k ∷ ks) none = at (no_session c ks) (k.number == c) refl
  where
    at : (place_of c (numbers_of ks) ≡ None → session_of c ks ≡ None) → (b : Bool) → (k.number == c) ≡ b → session_of c (k ∷ ks) ≡ None
    at further true same = let first = place_first c k.number (numbers_of ks) same in cc
    at further false other = session_behind c k ks other ∙ further (next_place-none (place_of c (numbers_of ks)) (sym (place_behind c k.number (numbers_of ks) other) ∙ none))

pub is_there : (floor : LeastPassed) (clock : ℕ → ℕ) (c : ℕ) (xs : List kept_call.Call) (ks : List Call) (i : ℕ) (d : kept_call.Call) → CallsLag floor clock xs ks → place_of c (numbers_of ks) ≡ Some i → is_some (get_or xs i d).session ≡ is_some (session_of c ks)
is_there floor clock c [] [] i d h place = cc
is_there floor clock c [] (k ∷ ks) i d h place = absurd h
is_there floor clock c (x ∷ xs) [] i d h place = absurd h
is_there floor clock c (x ∷ xs) (k ∷ ks) i d h place = step (λ j. is_there floor clock c xs ks j d h.1) (k.number == c) refl
  where
    step : ((j : ℕ) → place_of c (numbers_of ks) ≡ Some j → is_some (get_or xs j d).session ≡ is_some (session_of c ks)) → (b : Bool) → (k.number == c) ≡ b → is_some (get_or (x ∷ xs) i d).session ≡ is_some (session_of c (k ∷ ks))
    step further true same =
        let first = place_first c k.number (numbers_of ks) same in
        let at : 0 ≡ i = cc in
        subst (λ z. is_some (get_or (x ∷ xs) z d).session ≡ is_some (session_of c (k ∷ ks))) at
        (seat_there (clock k.number - x.passed) x.session k.session h.0.session ∙ ap is_some (sym (session_first c k ks same)))
    step further false other =
        let next = next_place-some (place_of c (numbers_of ks)) i (sym (place_behind c k.number (numbers_of ks) other) ∙ place) in
        subst (λ z. is_some (get_or (x ∷ xs) z d).session ≡ is_some (session_of c (k ∷ ks))) (sym next.2)
        (further next.0 next.1 ∙ ap is_some (sym (session_behind c k ks other)))

-- where no call has this number, its session does nothing
pub seated_nowhere : (c : ℕ) (new : Option Point) (ks : List Call) → place_of c (numbers_of ks) ≡ None → seated c new ks ≡ ks
seated_nowhere c new [] none = refl
seated_nowhere c new (k ∷ ks) none = at (seated_nowhere c new ks) (k.number == c) refl
  where
    at : (place_of c (numbers_of ks) ≡ None → seated c new ks ≡ ks) → (b : Bool) → (k.number == c) ≡ b → seated c new (k ∷ ks) ≡ k ∷ ks
    at further true same = let first = place_first c k.number (numbers_of ks) same in cc
    at further false other =
        ap (λ b. if b then record k { session = new } ∷ ks else k ∷ seated c new ks) other
        ∙ ap (λ z. k ∷ z) (further (next_place-none (place_of c (numbers_of ks)) (sym (place_behind c k.number (numbers_of ks) other) ∙ none)))

pub did_nowhere : (floor : LeastPassed) (clock : ℕ → ℕ) (c : ℕ) (row : Point → Row Point) (xs : List kept_call.Call) (ks : List Call) → CallsLag floor clock xs ks → place_of c (numbers_of ks) ≡ None → SessionDid floor clock false [] xs c row ks
did_nowhere floor clock c row xs ks h none =
    record {
      items = ap (seat_items row) (sym (no_session c ks none));
      acts = λ wrong. cc;
      rests = λ same. ap (λ o. is_some (seat_after row o)) (no_session c ks none) ∙ ap is_some (sym (no_session c ks none));
      stands = subst (λ z. CallsLag floor clock xs z) (sym (seated_nowhere c (seat_after row (session_of c ks)) ks none)) h;
    }

-- the call at i did this, and its clock may have moved
pub did_at : (floor : LeastPassed) (old new : ℕ → ℕ) (n c : ℕ) (row : Point → Row Point) (done : Bool) (given : List Note) (xs : List kept_call.Call) (ks : List Call) (i : ℕ) (d x' : kept_call.Call)
    → CallsLag floor old xs ks
    → AreAbove n (numbers_of ks)
    → place_of c (numbers_of ks) ≡ Some i
    → ((j : ℕ) → (j ≡ c → ⊥) → old j ≡ new j)
    → ((k : Call) → k.number ≡ c → CallLags floor (old c) (get_or xs i d) k → CallDid floor (new c) done given x' k row)
    → SessionDid floor new done given (set xs i x') c row ks
did_at floor old new n c row done given [] [] i d x' h up place others did = cc
did_at floor old new n c row done given [] (k ∷ ks) i d x' h up place others did = absurd h
did_at floor old new n c row done given (x ∷ xs) [] i d x' h up place others did = absurd h
did_at floor old new n c row done given (x ∷ xs) (k ∷ ks) i d x' h up place others did =
    step (λ j. did_at floor old new k.number c row done given xs ks j d x' h.1 up.1) (k.number == c) refl
  where
    moved : (m : ℕ) (ys : List kept_call.Call) (ms : List Call) → c ≤ m → AreAbove m (numbers_of ms) → CallsLag floor old ys ms → CallsLag floor new ys ms
    moved m [] [] low up h = tt
    moved m [] (k ∷ ks) low up h = absurd h
    moved m (x ∷ xs) [] low up h = absurd h
    moved m (x ∷ xs) (k ∷ ks) low up h =
        let above : m < k.number = up.0 in
        (subst (λ z. CallLags floor z x k) (others k.number (λ e. absurd (omega arith))) h.0, moved k.number xs ks (omega arith) up.1 h.1)

    step : ((j : ℕ) → place_of c (numbers_of ks) ≡ Some j → ((j : ℕ) → (j ≡ c → ⊥) → old j ≡ new j) → ((k : Call) → k.number ≡ c → CallLags floor (old c) (get_or xs j d) k → CallDid floor (new c) done given x' k row) → SessionDid floor new done given (set xs j x') c row ks) → (b : Bool) → (k.number == c) ≡ b → SessionDid floor new done given (set (x ∷ xs) i x') c row (k ∷ ks)
    step further true same =
        let first = place_first c k.number (numbers_of ks) same in
        let at : 0 ≡ i = cc in
        let here : k.number ≡ c = eqb-true k.number c same in
        let one : CallDid floor (new c) done given x' k row = subst (λ z. CallLags floor (old c) (get_or (x ∷ xs) z d) k → CallDid floor (new c) done given x' k row) (sym at) (did k here) (subst (λ z. CallLags floor (old z) x k) here h.0) in
        subst (λ z. SessionDid floor new done given (set (x ∷ xs) z x') c row (k ∷ ks)) at
        (record {
          items = one.items ∙ ap (seat_items row) (sym (session_first c k ks same));
          acts = λ e. ap is_some (session_first c k ks same) ∙ one.acts e;
          rests = λ e. ap (λ o. is_some (seat_after row o)) (session_first c k ks same) ∙ one.rests e ∙ ap is_some (sym (session_first c k ks same));
          stands =
              subst (λ b. CallsLag floor new (x' ∷ xs) (if b then record k { session = seat_after row (session_of c (k ∷ ks)) } ∷ ks else k ∷ seated c (seat_after row (session_of c (k ∷ ks))) ks)) (sym same)
              (subst (λ o. CallsLag floor new (x' ∷ xs) (record k { session = seat_after row o } ∷ ks)) (sym (session_first c k ks same))
              (subst (λ z. CallLags floor (new z) x' (record k { session = seat_after row k.session })) (sym here) one.stands, moved k.number xs ks (omega arith) up.1 h.1));
        })
    step further false other =
        let next = next_place-some (place_of c (numbers_of ks)) i (sym (place_behind c k.number (numbers_of ks) other) ∙ place) in
        let rest : SessionDid floor new done given (set xs next.0 x') c row ks = further next.0 next.1 others (subst (λ z. (k : Call) → k.number ≡ c → CallLags floor (old c) (get_or (x ∷ xs) z d) k → CallDid floor (new c) done given x' k row) next.2 did) in
        subst (λ z. SessionDid floor new done given (set (x ∷ xs) z x') c row (k ∷ ks)) (sym next.2)
        (record {
          items = rest.items ∙ ap (seat_items row) (sym (session_behind c k ks other));
          acts = λ e. ap is_some (session_behind c k ks other) ∙ rest.acts e;
          rests = λ e. ap (λ o. is_some (seat_after row o)) (session_behind c k ks other) ∙ rest.rests e ∙ ap is_some (sym (session_behind c k ks other));
          stands =
              subst (λ b. CallsLag floor new (x ∷ set xs next.0 x') (if b then record k { session = seat_after row (session_of c (k ∷ ks)) } ∷ ks else k ∷ seated c (seat_after row (session_of c (k ∷ ks))) ks)) (sym other)
              (subst (λ o. CallsLag floor new (x ∷ set xs next.0 x') (k ∷ seated c (seat_after row o) ks)) (sym (session_behind c k ks other))
              (subst (λ z. CallLags floor z x k) (others k.number (eqb-false k.number c other)) h.0, rest.stands));
        })

-- the call at i of what is kept was passed up to its clock, or is settled
pub caught_at : (floor : LeastPassed) (clock : ℕ → ℕ) (c : ℕ) (xs : List kept_call.Call) (i : ℕ) (d : kept_call.Call) → IsCaught clock c xs → i < length xs → (get_or xs i d).number ≡ c → IsUpTo (clock c) (get_or xs i d)
caught_at floor clock c [] i d h inside here = absurd (omega arith)
caught_at floor clock c (x ∷ xs) zero d h inside here = h.0 here
caught_at floor clock c (x ∷ xs) (suc i) d h inside here = caught_at floor clock c xs i d h.1 (omega arith) here

-- where a call stands, by what the search found
pub found_at : (floor : LeastPassed) (clock : ℕ → ℕ) (c : ℕ) (ys xs : List kept_call.Call) (ks : List Call) (r : Option ℕ) → ys ≡ xs → (AreAbove 0 (numbers ys) → r ≡ place_of c (numbers ys)) → CallsLag floor clock xs ks → AreAbove 0 (numbers_of ks) → place_of c (numbers_of ks) ≡ r
found_at floor clock c ys xs ks r e found h above =
    let same : numbers_of ks ≡ numbers ys = same_numbers floor clock xs ks h ∙ ap numbers (sym e) in
    ap (place_of c) same ∙ sym (found (subst (AreAbove 0) same above))

pub place_within : (c : ℕ) (ns : List ℕ) (i : ℕ) → place_of c ns ≡ Some i → (i < length ns) × (get_or ns i 0 ≡ c)
place_within c [] i e = cc
place_within c (n ∷ ns) i e = at (place_within c ns) (n == c) refl
  where
    at : ((j : ℕ) → place_of c ns ≡ Some j → (j < length ns) × (get_or ns j 0 ≡ c)) → (b : Bool) → (n == c) ≡ b → (i < length (n ∷ ns)) × (get_or (n ∷ ns) i 0 ≡ c)
    at further true same =
        let first = place_first c n ns same in
        let z : 0 ≡ i = cc in
        subst (λ j. (j < length (n ∷ ns)) × (get_or (n ∷ ns) j 0 ≡ c)) z (omega arith, eqb-true n c same)
    at further false other =
        let next = next_place-some (place_of c ns) i (sym (place_behind c n ns other) ∙ e) in
        let rest = further next.0 next.1 in
        let below : next.0 < length ns = rest.0 in
        subst (λ j. (j < length (n ∷ ns)) × (get_or (n ∷ ns) j 0 ≡ c)) (sym next.2) (omega arith, rest.1)

pub number_at : (xs : List kept_call.Call) (i : ℕ) (d : kept_call.Call) → i < length xs → get_or (numbers xs) i 0 ≡ (get_or xs i d).number
number_at [] i d h = absurd (omega arith)
number_at (x ∷ xs) zero d h = refl
number_at (x ∷ xs) (suc i) d h = number_at xs i d (omega arith)

-- the call at the place has the number
pub number_found : (floor : LeastPassed) (clock : ℕ → ℕ) (c : ℕ) (xs : List kept_call.Call) (ks : List Call) (i : ℕ) (d : kept_call.Call) → CallsLag floor clock xs ks → place_of c (numbers_of ks) ≡ Some i → i < length xs → (get_or xs i d).number ≡ c
number_found floor clock c xs ks i d h place inside =
    sym (number_at xs i d inside) ∙ (place_within c (numbers xs) i (sym (ap (place_of c) (same_numbers floor clock xs ks h)) ∙ place)).1

pub on_ok : {A E P Q : Type 0} (r : Result A E) → (P → Q) → OnOk r P → OnOk r Q
on_ok (Ok a) f h = f h
on_ok (Err e) f h = h

pub on_err : {A E P Q : Type 0} (r : Result A E) → (P → Q) → OnErr r P → OnErr r Q
on_err (Ok a) f h = h
on_err (Err e) f h = f h

-- where no call has this number, the clocks of all stood
pub all_stood : (floor : LeastPassed) (old new : ℕ → ℕ) (c : ℕ) (xs : List kept_call.Call) (ks : List Call) → CallsLag floor old xs ks → place_of c (numbers_of ks) ≡ None → ((j : ℕ) → (j ≡ c → ⊥) → old j ≡ new j) → CallsLag floor new xs ks
all_stood floor old new c [] [] h none others = tt
all_stood floor old new c [] (k ∷ ks) h none others = absurd h
all_stood floor old new c (x ∷ xs) [] h none others = absurd h
all_stood floor old new c (x ∷ xs) (k ∷ ks) h none others = at (all_stood floor old new c xs ks h.1) (k.number == c) refl
  where
    at : (place_of c (numbers_of ks) ≡ None → ((j : ℕ) → (j ≡ c → ⊥) → old j ≡ new j) → CallsLag floor new xs ks) → (b : Bool) → (k.number == c) ≡ b → CallsLag floor new (x ∷ xs) (k ∷ ks)
    at further true same = let first = place_first c k.number (numbers_of ks) same in cc
    at further false other = (
      subst (λ z. CallLags floor z x k) (others k.number (eqb-false k.number c other)) h.0,
      further (next_place-none (place_of c (numbers_of ks)) (sym (place_behind c k.number (numbers_of ks) other) ∙ none)) others,
    )

pub lags_elsewhere : (floor : LeastPassed) (old new : ℕ → ℕ) (n c : ℕ) (row : Point → Row Point) (xs : List kept_call.Call) (ks : List Call) → CallsLag floor old xs ks → AreAbove n (numbers_of ks) → place_of c (numbers_of ks) ≡ None → ((j : ℕ) → (j ≡ c → ⊥) → old j ≡ new j) → SessionDid floor new false [] xs c row ks
lags_elsewhere floor old new n c row xs ks h above none others = did_nowhere floor new c row xs ks (all_stood floor old new c xs ks h none others) none
