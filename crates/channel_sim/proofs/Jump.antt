-- Quiet time of a world: while no end and no frame is due, n unit ticks give nothing, and each end is n ticks on. Lemmas
-- over the definitions alone.
use Rattle.std.proofs.Common.{◌≡◌, ◌≤◌, ◌<◌, ◌+◌, ◌++◌, ℕ, false, true, zero, suc, List, [], ◌∷◌, Option, Some, None, refl, sym, ap, subst, arith, ◌∙◌, IfSome, append-nil, append_assoc, nat_eq, map, ◌⊎◌, inl, inr}
use Rattle.std.specs.Option.{option_map}
use Rattle.std.proofs.lemmas.Bool.{ne_eqb}
use Rattle.trace_model.specs.History.{Sent}
use Rattle.std.specs.List.{AllByRecursion}
use Rattle.std.proofs.lemmas.Bool.Decides.{nat_tests}
use Rattle.link_frames.specs.Row.{Row}
use Rattle.ivs_machine.specs.Vehicle.{Vehicle, vehicle_call, Phase, Idle, Standby, Arming, InSeries, InCall, LeftIdle, LeftStandby}
use Rattle.ivs_machine.specs.VehicleRows as vehicle
use Rattle.psap_machine.specs.Point.{Point}
use Rattle.psap_machine.specs.PointRows as point
use Rattle.channel_sim.specs.World.{Call, World, Step, quiet_step, and_then, unit, units, carries, with_legs, did, vehicle_did, session_did, settled, vehicle_passes, session_passes, session_acts, sessions_pass, each, call_of, session_in, session_of, seated, Due, due_frames, due_in, hands_up, hands_down, flows_up, flows_down}
use Rattle.trace_fit.specs.Seats.{left_by}
use Rattle.channel_sim.specs.Tidy.{AreAbove, ticks_of, HasLeg, IsTidy, InTime, CallInTime, numbers_of}
use Rattle.channel_sim.specs.Quiet.{SessionRests, CallRests, FramesRest, QuietFor, aged_call, aged_world}
use Rattle.channel_sim.proofs.EndJump.{vehicle_quiet, vehicle_again, point_quiet, point_none, point_again, point_live, due_above, vehicle_later, point_later}

-- Steps.

-- what a step gives, and then what another gives
abbrev pub followed : Step → Step → Step
followed first second =
    record {
      entries = first.entries ++ second.entries;
      world = second.world;
      handed = first.handed + second.handed;
    }

quiet_first : (s : Step) → followed (quiet_step s.world) s ≡ s
quiet_first s = let e : 0 + s.handed ≡ s.handed = omega arith in rw e refl

quiet_last : (s : Step) → followed s (quiet_step s.world) ≡ s
quiet_last s = let e : s.handed + 0 ≡ s.handed = omega arith in rw (append-nil, e) refl

followed_again : (a b c : Step) → followed (followed a b) c ≡ followed a (followed b c)
followed_again a b c =
    let e : a.handed + b.handed + c.handed ≡ a.handed + (b.handed + c.handed) = omega arith in rw (append_assoc, e) refl

pub units_one : (w : World) → units 1 w ≡ unit w
units_one w = quiet_last (unit w)

pub units_add : (m n : ℕ) (w : World) → units (m + n) w ≡ and_then (units m w) (units n)
units_add zero n w = let e : 0 + n ≡ n = omega arith in rw e (sym (quiet_first (units n w)))
units_add (suc m) n w =
    let e : suc m + n ≡ suc (m + n) = omega arith in
    rw e
    (ap (followed (unit w)) (units_add m n (unit w).world)
    ∙ sym (followed_again (unit w) (units m (unit w).world) (units n (units m (unit w).world).world)))

-- A row that gives nothing.

carried_none : (k : Call) → carries [] k ≡ k
carried_none k = simp append-nil

carries_none : (calls : List Call) → map (carries []) calls ≡ calls
carries_none [] = refl
carries_none (k ∷ ks) =
    ap (λ (c : Call). c ∷ map (carries []) ks) (carried_none k) ∙ ap (λ (rest : List Call). k ∷ rest) (carries_none ks)

legs_stay : (o : Option ℕ) (calls : List Call) → AllByRecursion (HasLeg o) calls → with_legs o calls ≡ calls
legs_stay o [] h = refl
legs_stay o (k ∷ ks) h = rw h.0 (ap (λ (rest : List Call). k ∷ rest) (legs_stay o ks h.1))

nothing_did : (w : World) (v : Vehicle) (calls : List Call) → AllByRecursion (HasLeg (vehicle_call v)) calls
    → did w [] v calls ≡ quiet_step (record w { vehicle = v; calls = calls })
nothing_did w v calls h =
    ap (λ (cs : List Call). quiet_step (record w { vehicle = v; calls = cs }))
    (ap (with_legs (vehicle_call v)) (carries_none calls) ∙ legs_stay (vehicle_call v) calls h)

call_in : (n : ℕ) (v : Vehicle) (p : Phase)
    → vehicle_call (vehicle.aged n (record v { phase = p })) ≡ vehicle_call (record v { phase = p })
call_in n v Idle = refl
call_in n v Standby = refl
call_in n v (Arming LeftIdle) = refl
call_in n v (Arming LeftStandby) = refl
call_in n v (InSeries s) = refl
call_in n v (InCall stage) = refl

pub call_stays : (n : ℕ) (v : Vehicle) → vehicle_call (vehicle.aged n v) ≡ vehicle_call v
call_stays n v = call_in n v v.phase

pub quiet_vehicle : (u : World) → IfSome (vehicle.due_of u.vehicle) (λ due. 1 < due)
    → AllByRecursion (HasLeg (vehicle_call u.vehicle)) u.calls
    → vehicle_passes u ≡ quiet_step (record u { vehicle = vehicle.aged 1 u.vehicle })
quiet_vehicle u h legs =
    ap (λ (row : Row Vehicle). settled (vehicle_did u row)) (vehicle_quiet u.vehicle h)
    ∙ ap settled
    (nothing_did u (vehicle.aged 1 u.vehicle) u.calls
    (subst (λ (o : Option ℕ). AllByRecursion (HasLeg o) u.calls) (sym (call_stays 1 u.vehicle)) legs))

-- The sessions. Those that were passed stand in front of those that were not.

-- the calls passed, the last one first, in front of others
abbrev pub onto : (passed rest : List Call) → List Call
onto [] rest = rest
onto (k ∷ ks) rest = onto ks (k ∷ rest)

-- all these calls have lower numbers
abbrev pub AreBelow : ℕ → List Call → Type 0
AreBelow c calls = AllByRecursion (λ k. k.number < c) calls

same_number : (c : ℕ) → nat_eq c c ≡ true
same_number c = grind (arith, nat_tests)

other_number : (a c : ℕ) → a < c → nat_eq a c ≡ false
other_number a c h = grind (arith, nat_tests)

found_behind : (c : ℕ) (passed rest : List Call) → AreBelow c passed → call_of c (onto passed rest) ≡ call_of c rest
found_behind c [] rest h = refl
found_behind c (k ∷ ks) rest h = found_behind c ks (k ∷ rest) h.1 ∙ rw (other_number k.number c h.0) refl

found_first : (k : Call) (rest : List Call) → call_of k.number (k ∷ rest) ≡ Some k
found_first k rest = rw (same_number k.number) refl

seated_behind : (c : ℕ) (new : Option Point) (passed rest : List Call) → AreBelow c passed
    → seated c new (onto passed rest) ≡ onto passed (seated c new rest)
seated_behind c new [] rest h = refl
seated_behind c new (k ∷ ks) rest h =
    seated_behind c new ks (k ∷ rest) h.1 ∙ ap (onto ks) (rw (other_number k.number c h.0) refl)

seated_first : (new : Option Point) (k : Call) (rest : List Call)
    → seated k.number new (k ∷ rest) ≡ record k { session = new } ∷ rest
seated_first new k rest = rw (same_number k.number) refl

pub all_onto : (P : Call → Type 0) → (passed rest : List Call) → AllByRecursion P passed → AllByRecursion P rest
    → AllByRecursion P (onto passed rest)
all_onto P [] rest a b = b
all_onto P (k ∷ ks) rest a b = all_onto P ks (k ∷ rest) a.1 (a.0, b)

pub below_more : (m n : ℕ) (calls : List Call) → m ≤ n → AreBelow m calls → AreBelow n calls
below_more m n [] le h = tt
below_more m n (k ∷ ks) le h = (omega (arith, h.0), below_more m n ks le h.1)

has_leg_in : (o : Option ℕ) (n : ℕ) (k : Call) (s : Option Point) → HasLeg o (record k { session = s })
    → HasLeg o (aged_call n (record k { session = s }))
has_leg_in o n k None h = h
has_leg_in o n k (Some s) h = h

pub has_leg : (o : Option ℕ) (n : ℕ) (k : Call) → HasLeg o k → HasLeg o (aged_call n k)
has_leg o n k h = has_leg_in o n k k.session h

quiet_acts : (u : World) (passed rest : List Call) (k : Call) (o : Option Point) → AreBelow k.number passed
    → AllByRecursion (HasLeg (vehicle_call u.vehicle)) (onto passed (aged_call 1 (record k { session = o }) ∷ rest))
    → IfSome o (SessionRests 1)
    → settled (session_acts k.number (record u { calls = onto passed (record k { session = o } ∷ rest) }) point.unit_row o)
    ≡ quiet_step (record u { calls = onto passed (aged_call 1 (record k { session = o }) ∷ rest) })
quiet_acts u passed rest k None below legs rests = refl
quiet_acts u passed rest k (Some s) below legs rests =
    let later : Point = point.aged 1 s in
    let here : Call = record k { session = Some s } in
    let w : World = record u { calls = onto passed (here ∷ rest) } in
    let seats : seated k.number (left_by later) w.calls ≡ onto passed (record k { session = Some later } ∷ rest) =
    ap (λ (new : Option Point). seated k.number new w.calls) (point_live 1 s rests.live)
    ∙ seated_behind k.number (Some later) passed (here ∷ rest) below
    ∙ ap (onto passed) (seated_first (Some later) here rest) in
    ap (λ (row : Row Point). settled (session_did k.number w row)) (point_quiet s rests.due)
    ∙ ap (λ (calls : List Call). settled (did w [] u.vehicle calls)) seats
    ∙ ap settled (nothing_did w u.vehicle (onto passed (record k { session = Some later } ∷ rest)) legs)

pub quiet_session : (u : World) (passed rest : List Call) (k : Call) → AreBelow k.number passed
    → AllByRecursion (HasLeg (vehicle_call u.vehicle)) (onto passed (aged_call 1 k ∷ rest))
    → CallRests 1 k
    → session_passes k.number (record u { calls = onto passed (k ∷ rest) })
    ≡ quiet_step (record u { calls = onto passed (aged_call 1 k ∷ rest) })
quiet_session u passed rest k below legs rests =
    let w : World = record u { calls = onto passed (k ∷ rest) } in
    let found : session_of k.number w.calls ≡ k.session =
    ap session_in (found_behind k.number passed (k ∷ rest) below ∙ found_first k rest) in
    ap (λ (o : Option Point). settled (session_acts k.number w point.unit_row o)) found
    ∙ quiet_acts u passed rest k k.session below legs rests

-- a quiet step, and then one that is quiet too
pub quiet_then : (a : Step) (f : World → Step) (x y : World) → a ≡ quiet_step x → f x ≡ quiet_step y
    → and_then a f ≡ quiet_step y
quiet_then a f x y first second = ap (λ (s : Step). and_then s f) first ∙ quiet_first (f x) ∙ second

quiet_rest : (n : ℕ) (u : World) (passed rest : List Call) → AreBelow (suc n) passed → AreAbove n (numbers_of rest)
    → AllByRecursion (HasLeg (vehicle_call u.vehicle)) passed
    → AllByRecursion (HasLeg (vehicle_call u.vehicle)) rest
    → AllByRecursion (CallRests 1) rest
    → each session_passes (numbers_of rest) (record u { calls = onto passed rest })
    ≡ quiet_step (record u { calls = onto passed (map (aged_call 1) rest) })
quiet_rest n u passed [] below above a b rests = refl
quiet_rest n u passed (k ∷ rest) below above a b rests =
    let o : Option ℕ = vehicle_call u.vehicle in
    let leg : HasLeg o (aged_call 1 k) = has_leg o 1 k b.0 in
    let mine : AreBelow k.number passed = below_more (suc n) k.number passed (omega (arith, above.0)) below in
    let next : AreBelow (suc k.number) passed = below_more k.number (suc k.number) passed (omega arith) mine in
    quiet_then (session_passes k.number (record u { calls = onto passed (k ∷ rest) }))
    (each session_passes (numbers_of rest))
    (record u { calls = onto passed (aged_call 1 k ∷ rest) })
    (record u { calls = onto passed (map (aged_call 1) (k ∷ rest)) })
    (quiet_session u passed rest k mine (all_onto (HasLeg o) passed (aged_call 1 k ∷ rest) a (leg, b.1)) rests.0)
    (quiet_rest k.number u (aged_call 1 k ∷ passed) rest (omega arith, next) above.1 (leg, a) b.1 rests.1)

pub quiet_sessions : (u : World) → AreAbove 0 (numbers_of u.calls)
    → AllByRecursion (HasLeg (vehicle_call u.vehicle)) u.calls
    → AllByRecursion (CallRests 1) u.calls
    → sessions_pass u ≡ quiet_step (record u { calls = map (aged_call 1) u.calls })
quiet_sessions u above legs rests = quiet_rest 0 u [] u.calls tt above tt legs rests

-- Frames.

not_now : (a tick : ℕ) → (a ≤ tick) ⊎ (tick + 1 < a) → nat_eq a (tick + 1) ≡ false
not_now a tick (inl h) = ne_eqb a (tick + 1) (λ e. omega arith)
not_now a tick (inr h) = ne_eqb a (tick + 1) (λ e. omega arith)

none_due : (c d tick : ℕ) (sends : List Sent) → FramesRest 1 (suc d) tick sends
    → due_frames c (suc d) (tick + 1) sends ≡ []
none_due c d tick [] h = refl
none_due c d tick (s ∷ ss) h = rw (not_now (s.tick + suc d) tick h.0) (none_due c d tick ss h.1)

pub none_due_in : (sent : Call → List Sent) (delay tick : ℕ) (calls : List Call)
    → AllByRecursion (λ k. FramesRest 1 delay tick (sent k)) calls
    → due_in sent delay (tick + 1) calls ≡ []
none_due_in sent zero tick calls h = refl
none_due_in sent (suc d) tick [] h = refl
none_due_in sent (suc d) tick (k ∷ ks) h =
    rw (none_due k.number d tick (sent k) h.0) (none_due_in sent (suc d) tick ks h.1)

abbrev pub QuietNext : World → Type 0
QuietNext w = QuietFor 1 w

all_mapped : (P : Call → Type 0) (f : Call → Call) → (calls : List Call) → AllByRecursion (λ k. P (f k)) calls
    → AllByRecursion P (map f calls)
all_mapped P f [] h = tt
all_mapped P f (k ∷ ks) h = (h.0, all_mapped P f ks h.1)

all_later : (P Q : Call → Type 0) → ((k : Call) → P k → Q k) → (calls : List Call) → AllByRecursion P calls
    → AllByRecursion Q calls
all_later P Q more [] h = tt
all_later P Q more (k ∷ ks) h = (more k h.0, all_later P Q more ks h.1)

pub quiet_up : (u : World) (tick : ℕ) → u.tick ≡ tick + 1
    → AllByRecursion (λ k. FramesRest 1 u.up_flow tick k.up) u.calls
    → flows_up u ≡ quiet_step u
quiet_up u tick e h =
    ap (λ (dues : List Due). each hands_up dues u)
    (ap (λ (now : ℕ). due_in (λ k. k.up) u.up_flow now u.calls) e ∙ none_due_in (λ k. k.up) u.up_flow tick u.calls h)

pub quiet_down : (u : World) (tick : ℕ) → u.tick ≡ tick + 1
    → AllByRecursion (λ k. FramesRest 1 u.down_flow tick k.down) u.calls
    → flows_down u ≡ quiet_step u
quiet_down u tick e h =
    ap (λ (dues : List Due). each hands_down dues u)
    (ap (λ (now : ℕ). due_in (λ k. k.down) u.down_flow now u.calls) e
    ∙ none_due_in (λ k. k.down) u.down_flow tick u.calls h)

-- a unit tick at which no end and no frame is due
pub quiet_unit : (w : World) → IsTidy w → QuietNext w → unit w ≡ quiet_step (aged_world 1 w)
quiet_unit w tidy quiet =
    let later : World = record w { tick = w.tick + 1 } in
    let passed : World = record later { vehicle = vehicle.aged 1 w.vehicle } in
    let end : World = aged_world 1 w in
    let legs : AllByRecursion (HasLeg (vehicle_call passed.vehicle)) w.calls =
    subst (λ (o : Option ℕ). AllByRecursion (HasLeg o) w.calls) (sym (call_stays 1 w.vehicle)) tidy.legs in
    let ends : and_then (vehicle_passes later) sessions_pass ≡ quiet_step end =
    quiet_then (vehicle_passes later) sessions_pass passed end (quiet_vehicle later quiet.ends.0 tidy.legs)
    (quiet_sessions passed tidy.numbers legs quiet.ends.1) in
    let up : AllByRecursion (λ k. FramesRest 1 w.up_flow w.tick k.up) end.calls =
    all_mapped (λ k. FramesRest 1 w.up_flow w.tick k.up) (aged_call 1) w.calls quiet.up in
    let down : AllByRecursion (λ k. FramesRest 1 w.down_flow w.tick k.down) end.calls =
    all_mapped (λ k. FramesRest 1 w.down_flow w.tick k.down) (aged_call 1) w.calls quiet.down in
    quiet_then (and_then (and_then (vehicle_passes later) sessions_pass) flows_up) flows_down end end
    (quiet_then (and_then (vehicle_passes later) sessions_pass) flows_up end end ends (quiet_up end w.tick refl up))
    (quiet_down end w.tick refl down)

-- Several quiet ticks.

same_world : (w : World) (t t' : ℕ) (v v' : Vehicle) (calls calls' : List Call) → t ≡ t' → v ≡ v' → calls ≡ calls'
    → record w { tick = t; vehicle = v; calls = calls } ≡ record w { tick = t'; vehicle = v'; calls = calls' }
same_world w t t' v v' calls calls' e f g = rw (e, f, g) refl

session_none : (o : Option Point) → option_map (point.aged 0) o ≡ o
session_none None = refl
session_none (Some s) = ap Some (point_none s)

calls_none : (calls : List Call) → map (aged_call 0) calls ≡ calls
calls_none [] = refl
calls_none (k ∷ ks) =
    ap (λ (o : Option Point). record k { session = o } ∷ map (aged_call 0) ks) (session_none k.session)
    ∙ ap (λ (rest : List Call). k ∷ rest) (calls_none ks)

-- no tick later; a standby that is at most the longest one is the same
pub world_none : (w : World) → vehicle.aged 0 w.vehicle ≡ w.vehicle → aged_world 0 w ≡ w
world_none w same =
    let e : w.tick + 0 ≡ w.tick = omega arith in
    same_world w (w.tick + 0) w.tick (vehicle.aged 0 w.vehicle) w.vehicle (map (aged_call 0) w.calls) w.calls e same
    (calls_none w.calls)

session_again : (m n : ℕ) (o : Option Point)
    → option_map (point.aged n) (option_map (point.aged m) o) ≡ option_map (point.aged (m + n)) o
session_again m n None = refl
session_again m n (Some s) = ap Some (point_again m n s)

calls_again : (m n : ℕ) (calls : List Call)
    → map (aged_call n) (map (aged_call m) calls) ≡ map (aged_call (m + n)) calls
calls_again m n [] = refl
calls_again m n (k ∷ ks) =
    ap (λ (o : Option Point). record k { session = o } ∷ map (aged_call n) (map (aged_call m) ks))
    (session_again m n k.session)
    ∙ ap (λ (rest : List Call). aged_call (m + n) k ∷ rest) (calls_again m n ks)

pub world_again : (m n : ℕ) (w : World) → aged_world n (aged_world m w) ≡ aged_world (m + n) w
world_again m n w =
    let e : w.tick + m + n ≡ w.tick + (m + n) = omega arith in
    same_world w (w.tick + m + n) (w.tick + (m + n)) (vehicle.aged n (vehicle.aged m w.vehicle))
    (vehicle.aged (m + n) w.vehicle) (map (aged_call n) (map (aged_call m) w.calls)) (map (aged_call (m + n)) w.calls) e
    (vehicle_again m n w.vehicle) (calls_again m n w.calls)

same_numbers : (n : ℕ) (calls : List Call) → numbers_of (map (aged_call n) calls) ≡ numbers_of calls
same_numbers n [] = refl
same_numbers n (k ∷ ks) = ap (λ (rest : List ℕ). k.number ∷ rest) (same_numbers n ks)

past_later : (m n : ℕ) (ticks : List ℕ) → m ≤ n → AllByRecursion (λ t. t ≤ m) ticks → AllByRecursion (λ t. t ≤ n) ticks
past_later m n [] le h = tt
past_later m n (t ∷ ts) le h = (omega (arith, h.0), past_later m n ts le h.1)

in_time_later : (m n : ℕ) (sends : List Sent) → m ≤ n → InTime m sends → InTime n sends
in_time_later m n sends le h = record { rise = h.rise; past = past_later m n (ticks_of sends) le h.past }

call_in_time : (tick n : ℕ) (k : Call) → CallInTime tick k → CallInTime (tick + n) (aged_call n k)
call_in_time tick n k h =
    record {
      up = in_time_later tick (tick + n) k.up (omega arith) h.up;
      down = in_time_later tick (tick + n) k.down (omega arith) h.down;
    }

-- a world that is tidy is so n ticks on
pub aged_tidy : (n : ℕ) (w : World) → IsTidy w → IsTidy (aged_world n w)
aged_tidy n w h =
    let o : Option ℕ = vehicle_call w.vehicle in
    let legs : AllByRecursion (HasLeg o) (map (aged_call n) w.calls) =
    all_mapped (HasLeg o) (aged_call n) w.calls
    (all_later (HasLeg o) (λ k. HasLeg o (aged_call n k)) (λ k. has_leg o n k) w.calls h.legs) in
    record {
      numbers = subst (AreAbove 0) (sym (same_numbers n w.calls)) h.numbers;
      below = subst (λ (numbers : List ℕ). AllByRecursion (λ c. c ≤ w.drawn) numbers) (sym (same_numbers n w.calls)) h.below;
      legs = subst (λ (o : Option ℕ). AllByRecursion (HasLeg o) (map (aged_call n) w.calls)) (sym (call_stays n w.vehicle)) legs;
      frames =
          all_mapped (CallInTime (w.tick + n)) (aged_call n) w.calls
          (all_later (CallInTime w.tick) (λ k. CallInTime (w.tick + n) (aged_call n k)) (call_in_time w.tick n) w.calls h.frames);
    }

-- What is quiet for some ticks is so for fewer, and n ticks on for the rest.

rests_fewer : (m n : ℕ) (o : Option Point) → m ≤ n → IfSome o (SessionRests n) → IfSome o (SessionRests m)
rests_fewer m n None le h = tt
rests_fewer m n (Some s) le h = record { due = due_above m n (point.due_of s) le h.due; live = h.live }

rests_later : (m n : ℕ) (o : Option Point) → IfSome o (SessionRests (m + n))
    → IfSome (option_map (point.aged m) o) (SessionRests n)
rests_later m n None h = tt
rests_later m n (Some s) h = record { due = point_later m n s h.due; live = point_live m s h.live }

frame_fewer : (m n a tick : ℕ) → m ≤ n → (a ≤ tick) ⊎ (tick + n < a) → (a ≤ tick) ⊎ (tick + m < a)
frame_fewer m n a tick le (inl h) = inl h
frame_fewer m n a tick le (inr h) = inr (omega arith)

frames_fewer : (m n delay tick : ℕ) (sends : List Sent) → m ≤ n → FramesRest n delay tick sends
    → FramesRest m delay tick sends
frames_fewer m n zero tick sends le h = tt
frames_fewer m n (suc d) tick [] le h = tt
frames_fewer m n (suc d) tick (s ∷ ss) le h =
    (frame_fewer m n (s.tick + suc d) tick le h.0, frames_fewer m n (suc d) tick ss le h.1)

frame_later : (m n a tick : ℕ) → (a ≤ tick) ⊎ (tick + (m + n) < a) → (a ≤ tick + m) ⊎ (tick + m + n < a)
frame_later m n a tick (inl h) = inl (omega arith)
frame_later m n a tick (inr h) = inr (omega arith)

frames_later : (m n delay tick : ℕ) (sends : List Sent) → FramesRest (m + n) delay tick sends
    → FramesRest n delay (tick + m) sends
frames_later m n zero tick sends h = tt
frames_later m n (suc d) tick [] h = tt
frames_later m n (suc d) tick (s ∷ ss) h =
    (frame_later m n (s.tick + suc d) tick h.0, frames_later m n (suc d) tick ss h.1)

pub quiet_fewer : (m n : ℕ) (w : World) → m ≤ n → QuietFor n w → QuietFor m w
quiet_fewer m n w le h =
    record {
      ends = (
        due_above m n (vehicle.due_of w.vehicle) le h.ends.0,
        all_later (CallRests n) (CallRests m) (λ k. rests_fewer m n k.session le) w.calls h.ends.1,
      );
      up =
          all_later (λ k. FramesRest n w.up_flow w.tick k.up) (λ k. FramesRest m w.up_flow w.tick k.up)
          (λ k. frames_fewer m n w.up_flow w.tick k.up le) w.calls h.up;
      down =
          all_later (λ k. FramesRest n w.down_flow w.tick k.down) (λ k. FramesRest m w.down_flow w.tick k.down)
          (λ k. frames_fewer m n w.down_flow w.tick k.down le) w.calls h.down;
    }

pub quiet_later : (m n : ℕ) (w : World) → QuietFor (m + n) w → QuietFor n (aged_world m w)
quiet_later m n w h =
    record {
      ends = (
        vehicle_later m n w.vehicle h.ends.0,
        all_mapped (CallRests n) (aged_call m) w.calls
            (all_later (CallRests (m + n)) (λ k. CallRests n (aged_call m k)) (λ k. rests_later m n k.session) w.calls h.ends.1),
      );
      up =
          all_mapped (λ k. FramesRest n w.up_flow (w.tick + m) k.up) (aged_call m) w.calls
          (all_later (λ k. FramesRest (m + n) w.up_flow w.tick k.up) (λ k. FramesRest n w.up_flow (w.tick + m) k.up)
          (λ k. frames_later m n w.up_flow w.tick k.up) w.calls h.up);
      down =
          all_mapped (λ k. FramesRest n w.down_flow (w.tick + m) k.down) (aged_call m) w.calls
          (all_later (λ k. FramesRest (m + n) w.down_flow w.tick k.down) (λ k. FramesRest n w.down_flow (w.tick + m) k.down)
          (λ k. frames_later m n w.down_flow w.tick k.down) w.calls h.down);
    }

-- n unit ticks in which no end and no frame is due
pub jump : (n : ℕ) (w : World) → IsTidy w → vehicle.aged 0 w.vehicle ≡ w.vehicle → QuietFor n w
    → units n w ≡ quiet_step (aged_world n w)
jump zero w tidy same quiet = ap quiet_step (sym (world_none w same))
jump (suc n) w tidy same quiet =
    let e : suc n ≡ 1 + n = omega arith in
    let next : World = aged_world 1 w in
    let rest : QuietFor n next = quiet_later 1 n w (subst (λ (k : ℕ). QuietFor k w) e quiet) in
    quiet_then (unit w) (units n) next (aged_world (suc n) w)
    (quiet_unit w tidy (quiet_fewer 1 (suc n) w (omega arith) quiet))
    (jump n next (aged_tidy 1 w tidy) (vehicle_again 1 0 w.vehicle) rest
    ∙ ap quiet_step (world_again 1 n w ∙ ap (λ k. aged_world k w) (sym e)))

-- the unit ticks behind quiet ones
pub units_behind : (m n : ℕ) (w : World) → IsTidy w → vehicle.aged 0 w.vehicle ≡ w.vehicle → QuietFor m w
    → units (m + n) w ≡ units n (aged_world m w)
units_behind m n w tidy same quiet =
    units_add m n w ∙ ap (λ (s : Step). and_then s (units n)) (jump m w tidy same quiet)
    ∙ quiet_first (units n (aged_world m w))
