-- The calls of a world, found by number: what becomes of them where frames are sent, where a session is another, where
-- calls leave, and where one more comes.
use Rattle.std.specs.Prelude.{◌≡◌, ◌≤◌, ◌+◌, ◌||◌, ℕ, ◌==◌, Bool, true, false, List, [], ◌∷◌, ◌++◌, Option, Some, None, IfSome, map, if◌then◌else◌}
use Rattle.std.specs.List.{AllByRecursion}
use Rattle.std.specs.Option.{is_some}
use Rattle.std.proofs.Common.{refl, sym, ap, subst, ◌∙◌, arith}
use Rattle.std.proofs.lemmas.Bool.{eqb-true, eqb-false, eq-eqb, ne_eqb, false≢true}
use Rattle.link_frames.specs.declared.frame.End.TheVariants as «end»
use Rattle.psap_machine.specs.Point.{Point}
use Rattle.trace_model.specs.declared.entry.Entry.{Entry}
use Rattle.trace_model.specs.History.{sent_by}
use Rattle.trace_model.proofs.Folds.{sent_append}
use Rattle.channel_sim.specs.World.{Call, call_of, session_in, session_of, seated, carries, with_legs}
use Rattle.trace_fit.specs.Seats.{is_number}
use Rattle.channel_sim.specs.Fit.{FramesFit, IsCall}
use Rattle.trace_fit.specs.Seats.{IsSessionOf}
use Rattle.channel_sim.specs.Tidy.{AreAbove, numbers_of, HasLeg}

-- calls in order

lower : (a b : ℕ) → a ≤ b → (ks : List Call) → AreAbove b (numbers_of ks) → AreAbove a (numbers_of ks)
lower a b h [] o = tt
lower a b h (k ∷ ks) o = (omega (arith, h, o.0), o.1)

none_below : (n c : ℕ) → c ≤ n → (ks : List Call) → AreAbove n (numbers_of ks) → session_of c ks ≡ None
none_below n c h [] o = refl
none_below n c h (k ∷ ks) o =
    let apart : (k.number == c) ≡ false = ne_eqb k.number c (λ e. absurd (omega (arith, h, o.0, e))) in
    rw apart (none_below k.number c (omega (arith, h, o.0)) ks o.1)

-- frames are sent

pub carried_session : (u : List Entry) (c : ℕ) → (ks : List Call) → session_of c (map (carries u) ks) ≡ session_of c ks
carried_session u c [] = refl
carried_session u c (k ∷ ks) = at (k.number == c) (carried_session u c ks)
  where
    at : (b : Bool) → session_of c (map (carries u) ks) ≡ session_of c ks →
        session_in (if b then Some (carries u k) else call_of c (map (carries u) ks))
        ≡ session_in (if b then Some k else call_of c ks)
    at true h = refl
    at false h = h

pub carried_listed : (u : List Entry) (c : ℕ) → (ks : List Call) → is_some (call_of c ks) ≡ true →
    is_some (call_of c (map (carries u) ks)) ≡ true
carried_listed u c [] h = h
carried_listed u c (k ∷ ks) h = at (k.number == c) (λ g. carried_listed u c ks g) h
  where
    at : (b : Bool) → (is_some (call_of c ks) ≡ true → is_some (call_of c (map (carries u) ks)) ≡ true) →
        is_some (if b then Some k else call_of c ks) ≡ true →
        is_some (if b then Some (carries u k) else call_of c (map (carries u) ks)) ≡ true
    at true rest h = refl
    at false rest h = rest h

pub carried_order : (u : List Entry) (n : ℕ) → (ks : List Call) → AreAbove n (numbers_of ks) → AreAbove n (numbers_of (map (carries u) ks))
carried_order u n [] o = tt
carried_order u n (k ∷ ks) o = (o.0, carried_order u k.number ks o.1)

pub carried_calls : (u : List Entry) (last : ℕ) → (ks : List Call) → AllByRecursion (IsCall last) ks →
    AllByRecursion (IsCall last) (map (carries u) ks)
carried_calls u last [] a = tt
carried_calls u last (k ∷ ks) a = (record { number = a.0.number; session = a.0.session }, carried_calls u last ks a.1)

pub carried_frames : (t u : List Entry) → (ks : List Call) → AllByRecursion (FramesFit t) ks →
    AllByRecursion (FramesFit (t ++ u)) (map (carries u) ks)
carried_frames t u [] a = tt
carried_frames t u (k ∷ ks) a = (
  record {
    up =
        ap (λ z. z ++ sent_by «end».Vehicle k.number u) a.0.up ∙ sym (sent_append «end».Vehicle k.number t u);
    down = ap (λ z. z ++ sent_by «end».Point k.number u) a.0.down ∙ sym (sent_append «end».Point k.number t u);
  },
  carried_frames t u ks a.1,
)

-- a session is another

pub is_listed : (c : ℕ) (ks : List Call) (s : Point) → session_of c ks ≡ Some s → is_some (call_of c ks) ≡ true
is_listed c ks s h = at (call_of c ks) h
  where
    at : (o : Option Call) → session_in o ≡ Some s → is_some o ≡ true
    at None k = cc
    at (Some x) k = refl

pub seated_here : (c : ℕ) (new : Option Point) → (ks : List Call) → is_some (call_of c ks) ≡ true →
    session_of c (seated c new ks) ≡ new
seated_here c new [] h = absurd (false≢true h)
seated_here c new (k ∷ ks) h = at (k.number == c) refl (λ g. seated_here c new ks g) h
  where
    at : (b : Bool) → (k.number == c) ≡ b → (is_some (call_of c ks) ≡ true → session_of c (seated c new ks) ≡ new) →
        is_some (if b then Some k else call_of c ks) ≡ true →
        session_of c (if b then record k { session = new } ∷ ks else k ∷ seated c new ks) ≡ new
    at true e rest h = rw e refl
    at false e rest h = rw e (rest h)

pub seated_other : (c d : ℕ) (new : Option Point) → (d == c) ≡ false → (ks : List Call) →
    session_of d (seated c new ks) ≡ session_of d ks
seated_other c d new apart [] = refl
seated_other c d new apart (k ∷ ks) = at (k.number == c) refl (seated_other c d new apart ks)
  where
    same : (b : Bool) → session_of d (seated c new ks) ≡ session_of d ks →
        session_in (if b then Some k else call_of d (seated c new ks)) ≡ session_in (if b then Some k else call_of d ks)
    same true h = refl
    same false h = h

    at : (b : Bool) → (k.number == c) ≡ b → session_of d (seated c new ks) ≡ session_of d ks →
        session_of d (if b then record k { session = new } ∷ ks else k ∷ seated c new ks) ≡ session_of d (k ∷ ks)
    at true e rest =
        let off : (k.number == d) ≡ false =
        ne_eqb k.number d (λ f. eqb-false d c apart (sym f ∙ eqb-true k.number c e)) in
        rw off refl
    at false e rest = same (k.number == d) rest

pub seated_listed : (c d : ℕ) (new : Option Point) → (ks : List Call) → is_some (call_of d ks) ≡ true →
    is_some (call_of d (seated c new ks)) ≡ true
seated_listed c d new [] h = h
seated_listed c d new (k ∷ ks) h = at (k.number == c) (λ g. seated_listed c d new ks g)
  where
    same : (b : Bool) → is_some (if b then Some k else call_of d ks) ≡ true →
        is_some (if b then Some (record k { session = new }) else call_of d ks) ≡ true
    same true h = refl
    same false h = h

    later : (is_some (call_of d ks) ≡ true → is_some (call_of d (seated c new ks)) ≡ true) → (b : Bool) →
        is_some (if b then Some k else call_of d ks) ≡ true →
        is_some (if b then Some k else call_of d (seated c new ks)) ≡ true
    later rest true h = refl
    later rest false h = rest h

    at : (b : Bool) → (is_some (call_of d ks) ≡ true → is_some (call_of d (seated c new ks)) ≡ true) →
        is_some (call_of d (if b then record k { session = new } ∷ ks else k ∷ seated c new ks)) ≡ true
    at true rest = same (k.number == d) h
    at false rest = later rest (k.number == d) h

pub seated_order : (c n : ℕ) (new : Option Point) → (ks : List Call) → AreAbove n (numbers_of ks) → AreAbove n (numbers_of (seated c new ks))
seated_order c n new [] o = tt
seated_order c n new (k ∷ ks) o = at (k.number == c) (seated_order c k.number new ks o.1)
  where
    at : (b : Bool) → AreAbove k.number (numbers_of (seated c new ks)) →
        AreAbove n (numbers_of (if b then record k { session = new } ∷ ks else k ∷ seated c new ks))
    at true rest = o
    at false rest = (o.0, rest)

pub seated_calls : (c last : ℕ) (new : Option Point) → IfSome new (IsSessionOf c) → (ks : List Call) →
    AllByRecursion (IsCall last) ks → AllByRecursion (IsCall last) (seated c new ks)
seated_calls c last new s [] a = tt
seated_calls c last new s (k ∷ ks) a = at (k.number == c) refl (seated_calls c last new s ks a.1)
  where
    at : (b : Bool) → (k.number == c) ≡ b → AllByRecursion (IsCall last) (seated c new ks) →
        AllByRecursion (IsCall last) (if b then record k { session = new } ∷ ks else k ∷ seated c new ks)
    at true e rest =
        (record { number = a.0.number; session = subst (λ (z : ℕ). IfSome new (IsSessionOf z)) (sym (eqb-true k.number c e)) s }, a.1)
    at false e rest = (a.0, rest)

pub seated_frames : (t : List Entry) (c : ℕ) (new : Option Point) → (ks : List Call) → AllByRecursion (FramesFit t) ks →
    AllByRecursion (FramesFit t) (seated c new ks)
seated_frames t c new [] a = tt
seated_frames t c new (k ∷ ks) a = at (k.number == c) (seated_frames t c new ks a.1)
  where
    at : (b : Bool) → AllByRecursion (FramesFit t) (seated c new ks) →
        AllByRecursion (FramesFit t) (if b then record k { session = new } ∷ ks else k ∷ seated c new ks)
    at true rest = (record { up = a.0.up; down = a.0.down }, a.1)
    at false rest = (a.0, rest)

-- calls leave

pub kept_all : (P : Call → Type 0) (o : Option ℕ) → (ks : List Call) → AllByRecursion P ks →
    AllByRecursion P (with_legs o ks)
kept_all P o [] a = tt
kept_all P o (k ∷ ks) a = at (is_number k.number o || is_some k.session) (kept_all P o ks a.1)
  where
    at : (b : Bool) → AllByRecursion P (with_legs o ks) →
        AllByRecursion P (if b then k ∷ with_legs o ks else with_legs o ks)
    at true rest = (a.0, rest)
    at false rest = rest

pub kept_legs : (o : Option ℕ) → (ks : List Call) → AllByRecursion (HasLeg o) (with_legs o ks)
kept_legs o [] = tt
kept_legs o (k ∷ ks) = at (is_number k.number o || is_some k.session) refl (kept_legs o ks)
  where
    at : (b : Bool) → (is_number k.number o || is_some k.session) ≡ b → AllByRecursion (HasLeg o) (with_legs o ks) →
        AllByRecursion (HasLeg o) (if b then k ∷ with_legs o ks else with_legs o ks)
    at true e rest = (e, rest)
    at false e rest = rest

-- a call that is found has a leg up
pub found_leg : (o : Option ℕ) (c : ℕ) (k : Call) → (ks : List Call) → AllByRecursion (HasLeg o) ks →
    call_of c ks ≡ Some k → (is_number c o || is_some k.session) ≡ true
found_leg o c k [] a h = cc
found_leg o c k (x ∷ ks) a h = at (x.number == c) refl (λ g. found_leg o c k ks a.1 g) h
  where
    at : (b : Bool) → (x.number == c) ≡ b → (call_of c ks ≡ Some k → (is_number c o || is_some k.session) ≡ true) →
        (if b then Some x else call_of c ks) ≡ Some k → (is_number c o || is_some k.session) ≡ true
    at true e rest g =
        let same : x ≡ k = cc in
        subst (λ (z : Call). (is_number c o || is_some z.session) ≡ true) same
        (subst (λ (z : ℕ). (is_number z o || is_some x.session) ≡ true) (eqb-true x.number c e) a.0)
    at false e rest g = rest g

pub kept_order : (o : Option ℕ) (n : ℕ) → (ks : List Call) → AreAbove n (numbers_of ks) → AreAbove n (numbers_of (with_legs o ks))
kept_order o n [] a = tt
kept_order o n (k ∷ ks) a = at (is_number k.number o || is_some k.session) (kept_order o k.number ks a.1)
  where
    at : (b : Bool) → AreAbove k.number (numbers_of (with_legs o ks)) →
        AreAbove n (numbers_of (if b then k ∷ with_legs o ks else with_legs o ks))
    at true rest = (a.0, rest)
    at false rest = lower n k.number (omega (arith, a.0)) (with_legs o ks) rest

pub kept_listed : (c : ℕ) → (ks : List Call) → is_some (call_of c ks) ≡ true →
    is_some (call_of c (with_legs (Some c) ks)) ≡ true
kept_listed c [] h = h
kept_listed c (k ∷ ks) h = at (k.number == c) refl (λ g. kept_listed c ks g) h
  where
    stays : (b : Bool) → (k.number == c) ≡ false →
        is_some (call_of c (if b then k ∷ with_legs (Some c) ks else with_legs (Some c) ks))
        ≡ is_some (call_of c (with_legs (Some c) ks))
    stays true e = rw e refl
    stays false e = refl

    at : (b : Bool) → (k.number == c) ≡ b →
        (is_some (call_of c ks) ≡ true → is_some (call_of c (with_legs (Some c) ks)) ≡ true) →
        is_some (if b then Some k else call_of c ks) ≡ true → is_some (call_of c (with_legs (Some c) (k ∷ ks))) ≡ true
    at true e rest h =
        let own : (c == k.number) ≡ true = eq-eqb c k.number (sym (eqb-true k.number c e)) in
        rw (own, e) refl
    at false e rest h = stays (is_number k.number (Some c) || is_some k.session) e ∙ rest h

pub kept_session : (o : Option ℕ) (c n : ℕ) → (ks : List Call) → AreAbove n (numbers_of ks) →
    session_of c (with_legs o ks) ≡ session_of c ks
kept_session o c n [] a = refl
kept_session o c n (k ∷ ks) a = at (is_number k.number o) k.session refl (kept_session o c k.number ks a.1)
  where
    same : (b : Bool) → session_of c (with_legs o ks) ≡ session_of c ks →
        session_in (if b then Some k else call_of c (with_legs o ks)) ≡ session_in (if b then Some k else call_of c ks)
    same true rest = refl
    same false rest = rest

    gone : (b : Bool) → (k.number == c) ≡ b → k.session ≡ None → session_of c (with_legs o ks) ≡ session_of c ks →
        session_of c (with_legs o ks) ≡ session_in (if b then Some k else call_of c ks)
    gone true e none rest =
        none_below k.number c (omega (arith, eqb-true k.number c e)) (with_legs o ks) (kept_order o k.number ks a.1) ∙ sym none
    gone false e none rest = rest

    at : (b : Bool) (s : Option Point) → k.session ≡ s → session_of c (with_legs o ks) ≡ session_of c ks →
        session_of c (if b || is_some s then k ∷ with_legs o ks else with_legs o ks) ≡ session_of c (k ∷ ks)
    at true s h rest = same (k.number == c) rest
    at false (Some s) h rest = same (k.number == c) rest
    at false None h rest = gone (k.number == c) refl h rest

-- one more call, with nobody in it at the point

pub more_session : (c : ℕ) (new : Call) → new.session ≡ None → (ks : List Call) →
    session_of c (ks ++ new ∷ []) ≡ session_of c ks
more_session c new none [] = at (new.number == c)
  where
    at : (b : Bool) → session_in (if b then Some new else None) ≡ None
    at true = none
    at false = refl
more_session c new none (k ∷ ks) = at (k.number == c) (more_session c new none ks)
  where
    at : (b : Bool) → session_of c (ks ++ new ∷ []) ≡ session_of c ks →
        session_in (if b then Some k else call_of c (ks ++ new ∷ [])) ≡ session_in (if b then Some k else call_of c ks)
    at true h = refl
    at false h = h

pub more_listed : (new : Call) → (ks : List Call) → is_some (call_of new.number (ks ++ new ∷ [])) ≡ true
more_listed new [] = rw (eq-eqb new.number new.number refl) refl
more_listed new (k ∷ ks) = at (k.number == new.number) (more_listed new ks)
  where
    at : (b : Bool) → is_some (call_of new.number (ks ++ new ∷ [])) ≡ true →
        is_some (if b then Some k else call_of new.number (ks ++ new ∷ [])) ≡ true
    at true h = refl
    at false h = h

pub more_order : (below last : ℕ) (new : Call) → new.number ≡ last + 1 → below ≤ last → (ks : List Call) →
    AllByRecursion (IsCall last) ks → AreAbove below (numbers_of ks) → AreAbove below (numbers_of (ks ++ new ∷ []))
more_order below last new e h [] a o = (omega (arith, e, h), tt)
more_order below last new e h (k ∷ ks) a o = (o.0, more_order k.number last new e a.0.number ks a.1 o.1)

-- a session that is found is its call's

pub found_session : (c last : ℕ) (s : Point) → (ks : List Call) → AllByRecursion (IsCall last) ks →
    session_of c ks ≡ Some s → IsSessionOf c s
found_session c last s [] a h = cc
found_session c last s (k ∷ ks) a h = at (k.number == c) refl (λ g. found_session c last s ks a.1 g) h
  where
    here : k.number ≡ c → (o : Option Point) → IfSome o (IsSessionOf k.number) → o ≡ Some s → IsSessionOf c s
    here e None f g = cc
    here e (Some q) f g =
        let same : q ≡ s = cc in
        subst (λ (z : Point). IsSessionOf c z) same (subst (λ (z : ℕ). IsSessionOf z q) e f)

    at : (b : Bool) → (k.number == c) ≡ b → (session_of c ks ≡ Some s → IsSessionOf c s) →
        session_in (if b then Some k else call_of c ks) ≡ Some s → IsSessionOf c s
    at true e rest g = here (eqb-true k.number c e) k.session a.0.session g
    at false e rest g = rest g
