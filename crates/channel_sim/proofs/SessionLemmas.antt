-- A session of a call that did something, in the world.
use Rattle.std.proofs.Common.{◌≡◌, ℕ, ◌-◌, ◌≤◌, ◌==◌, if◌then◌else◌, Bool, true, false, Option, Some, None, List, [], ◌∷◌, refl, ap, sym, ◌∙◌, subst}
use Rattle.std.specs.List.{AllByRecursion}
use Rattle.std.specs.Option.{is_some}
use Rattle.std.proofs.lemmas.Bool.{eqb-true, eq-eqb}
use Rattle.link_frames.specs.declared.note.Note.{Note}
use Rattle.link_frames.specs.Row.{Row}
use Rattle.ivs_machine.specs.Vehicle.{vehicle_call}
use Rattle.psap_machine.specs.Point.{Point}
use Rattle.channel_sim.specs.declared.channel.Channel as kept_channel
use Rattle.channel_sim.specs.World.{Call, World, quiet_step, did, seated, call_of, session_in, session_of, session_acts, settled}
use Rattle.channel_sim.specs.inner.Acts.{OtherHasLeg, IsReady, SessionDid, seat_items, seat_after}
use Rattle.channel_sim.specs.Lag.{LeastPassed, VehicleLags, CallsLag, StandsAt}
use Rattle.channel_sim.specs.Tidy.{HasLeg, CallInTime, numbers_of, AreAbove}

pub seated_numbers : (c : ℕ) (new : Option Point) (ks : List Call) → numbers_of (seated c new ks) ≡ numbers_of ks
seated_numbers c new [] = refl
seated_numbers c new (k ∷ ks) = at (k.number == c) (seated_numbers c new ks)
  where
    at : (b : Bool) → numbers_of (seated c new ks) ≡ numbers_of ks → numbers_of (if b then record k { session = new } ∷ ks else k ∷ seated c new ks) ≡ k.number ∷ numbers_of ks
    at true rest = refl
    at false rest = ap (λ z. k.number ∷ z) rest

pub seated_in_time : (now c : ℕ) (new : Option Point) (ks : List Call) → AllByRecursion (CallInTime now) ks → AllByRecursion (CallInTime now) (seated c new ks)
seated_in_time now c new [] h = tt
seated_in_time now c new (k ∷ ks) h = at (k.number == c) (seated_in_time now c new ks h.1)
  where
    at : (b : Bool) → AllByRecursion (CallInTime now) (seated c new ks) → AllByRecursion (CallInTime now) (if b then record k { session = new } ∷ ks else k ∷ seated c new ks)
    at true rest = (record { up = h.0.up; down = h.0.down }, h.1)
    at false rest = (h.0, rest)

others_all : (ic : Option ℕ) (c : ℕ) (ks : List Call) → AllByRecursion (HasLeg ic) ks → AllByRecursion (OtherHasLeg ic (Some c)) ks
others_all ic c [] h = tt
others_all ic c (k ∷ ks) h = ((λ other. h.0), others_all ic c ks h.1)

-- whatever becomes of a session, the other calls have their legs
pub seated_others : (ic : Option ℕ) (c : ℕ) (new : Option Point) (ks : List Call) → AllByRecursion (HasLeg ic) ks → AllByRecursion (OtherHasLeg ic (Some c)) (seated c new ks)
seated_others ic c new [] h = tt
seated_others ic c new (k ∷ ks) h = at (k.number == c) refl (seated_others ic c new ks h.1)
  where
    at : (b : Bool) → (k.number == c) ≡ b → AllByRecursion (OtherHasLeg ic (Some c)) (seated c new ks) → AllByRecursion (OtherHasLeg ic (Some c)) (if b then record k { session = new } ∷ ks else k ∷ seated c new ks)
    at true same rest =
        let here : (c == k.number) ≡ true = eq-eqb c k.number (sym (eqb-true k.number c same)) in
        ((λ other. let wrong : true ≡ false = sym here ∙ other in cc), others_all ic c ks h.1)
    at false apart rest = ((λ other. h.0), rest)

-- the session of this call became another, or left
pub seated_ready : (ahead : ℕ) (floor : LeastPassed) (old new : ℕ → ℕ) (kept moved : kept_channel.Channel) (w : World) (c : ℕ) (after : Option Point)
    → StandsAt ahead floor old kept w
    → moved ≡ record kept { calls = moved.calls }
    → CallsLag floor new moved.calls (seated c after w.calls)
    → IsReady ahead floor new moved w w.vehicle (seated c after w.calls) (Some c)
seated_ready ahead floor old new kept moved w c after s same calls =
    record {
      tick = s.tick ∙ sym (ap (λ x. x.tick) same);
      drawn = s.drawn ∙ sym (ap (λ x. x.drawn) same);
      up_flow = s.up_flow ∙ sym (ap (λ x. x.up_flow) same);
      down_flow = s.down_flow ∙ sym (ap (λ x. x.down_flow) same);
      passed = subst (λ n. n ≤ ahead) (sym (ap (λ x. x.passed) same)) s.passed;
      from = subst (λ n. floor.waking ≤ n) (sym (ap (λ x. x.passed) same)) s.from;
      vehicle = subst (λ x. VehicleLags (ahead - x.passed) x.vehicle w.vehicle) (sym same) s.vehicle;
      calls = calls;
      numbers = subst (AreAbove 0) (sym (seated_numbers c after w.calls)) s.tidy.numbers;
      below = subst (AllByRecursion (λ n. n ≤ w.drawn)) (sym (seated_numbers c after w.calls)) s.tidy.below;
      others = seated_others (vehicle_call w.vehicle) c after w.calls s.tidy.legs;
      frames = seated_in_time w.tick c after w.calls s.tidy.frames;
    }

-- a session of this call did this
pub session_ready : (ahead : ℕ) (floor : LeastPassed) (old new : ℕ → ℕ) (kept moved : kept_channel.Channel) (w : World) (c : ℕ) (done : Bool) (given : List Note) (row : Point → Row Point)
    → StandsAt ahead floor old kept w
    → moved ≡ record kept { calls = moved.calls }
    → SessionDid floor new done given moved.calls c row w.calls
    → IsReady ahead floor new moved w w.vehicle (seated c (seat_after row (session_of c w.calls)) w.calls) (Some c)
session_ready ahead floor old new kept moved w c done given row s same did =
    seated_ready ahead floor old new kept moved w c (seat_after row (session_of c w.calls)) s same did.stands

-- the step of a session that is there
pub session_step : (c : ℕ) (w : World) (row : Point → Row Point) → is_some (session_of c w.calls) ≡ true → session_acts c w row (session_of c w.calls) ≡ did w (seat_items row (session_of c w.calls)) w.vehicle (seated c (seat_after row (session_of c w.calls)) w.calls)
session_step c w row there = at (session_of c w.calls) there
  where
    at : (o : Option Point) → is_some o ≡ true → session_acts c w row o ≡ did w (seat_items row o) w.vehicle (seated c (seat_after row o) w.calls)
    at None h = cc
    at (Some s) h = refl

-- and of one that isn't
pub no_session_step : (c : ℕ) (w : World) (row : Point → Row Point) → is_some (session_of c w.calls) ≡ false → session_acts c w row (session_of c w.calls) ≡ quiet_step w
no_session_step c w row none = at (session_of c w.calls) none
  where
    at : (o : Option Point) → is_some o ≡ false → session_acts c w row o ≡ quiet_step w
    at None h = refl
    at (Some s) h = cc

no_one : {A : Type 0} (o : Option A) → is_some o ≡ false → o ≡ None
no_one None h = refl
no_one (Some x) h = cc

seated_same : (c : ℕ) (ks : List Call) → session_of c ks ≡ None → seated c None ks ≡ ks
seated_same c [] none = refl
seated_same c (k ∷ ks) none = at (k.number == c) refl (seated_same c ks)
  where
    at : (b : Bool) → (k.number == c) ≡ b → (session_of c ks ≡ None → seated c None ks ≡ ks) → seated c None (k ∷ ks) ≡ k ∷ ks
    at true same rest =
        let here : k.session ≡ None = sym (ap (λ b. session_in (if b then Some k else call_of c ks)) same) ∙ none in
        ap (λ b. if b then record k { session = None } ∷ ks else k ∷ seated c None ks) same ∙ ap (λ o. record k { session = o } ∷ ks) (sym here)
    at false apart rest =
        ap (λ b. if b then record k { session = None } ∷ ks else k ∷ seated c None ks) apart
        ∙ ap (λ z. k ∷ z) (rest (sym (ap (λ b. session_in (if b then Some k else call_of c ks)) apart) ∙ none))

-- where there is no session, what is kept stands for the same world
pub nobody_did : (ahead : ℕ) (floor : LeastPassed) (old new : ℕ → ℕ) (kept moved : kept_channel.Channel) (w : World) (c : ℕ) (done : Bool) (given : List Note) (row : Point → Row Point)
    → StandsAt ahead floor old kept w
    → moved ≡ record kept { calls = moved.calls }
    → is_some (session_of c w.calls) ≡ false
    → SessionDid floor new done given moved.calls c row w.calls
    → StandsAt ahead floor new moved w
nobody_did ahead floor old new kept moved w c done given row s same gone did =
    let none = no_one (session_of c w.calls) gone in
    record {
      tick = s.tick ∙ sym (ap (λ x. x.tick) same);
      drawn = s.drawn ∙ sym (ap (λ x. x.drawn) same);
      up_flow = s.up_flow ∙ sym (ap (λ x. x.up_flow) same);
      down_flow = s.down_flow ∙ sym (ap (λ x. x.down_flow) same);
      passed = subst (λ n. n ≤ ahead) (sym (ap (λ x. x.passed) same)) s.passed;
      from = subst (λ n. floor.waking ≤ n) (sym (ap (λ x. x.passed) same)) s.from;
      vehicle = subst (λ x. VehicleLags (ahead - x.passed) x.vehicle w.vehicle) (sym same) s.vehicle;
      calls = subst (CallsLag floor new moved.calls) (ap (λ o. seated c (seat_after row o) w.calls) none ∙ seated_same c w.calls none) did.stands;
      tidy = s.tidy;
    }

pub settled_quiet : (w : World) → settled (quiet_step w) ≡ quiet_step w
settled_quiet w = refl
