-- Where no frame of a direction is due at a tick, none is while ends act at that tick: what they send is due later.
use Rattle.std.proofs.Common.{◌≡◌, ◌≤◌, ◌<◌, ◌+◌, ◌++◌, ◌==◌, ◌⊎◌, inl, inr, ℕ, zero, suc, Bool, true, false, if◌then◌else◌, List, [], ◌∷◌, Option, Some, None, map, refl, sym, subst, arith}
use Rattle.std.specs.List.{AllByRecursion}
use Rattle.link_frames.specs.declared.frame.End.TheVariants as «end»
use Rattle.link_frames.specs.declared.note.Note.{Note}
use Rattle.link_frames.specs.Row.{Row}
use Rattle.ivs_machine.specs.Vehicle.{Vehicle, vehicle_call}
use Rattle.ivs_machine.specs.VehicleRows as vehicle
use Rattle.psap_machine.specs.Point.{Point}
use Rattle.psap_machine.specs.PointRows as point
use Rattle.trace_model.specs.History.{Sent, told, sent_by}
use Rattle.channel_sim.specs.World as model
use Rattle.channel_sim.specs.World.{Call, World, Step, Act, Due, quiet_step, carries, seated, session_of, did, vehicle_did, session_acts, does, does_each, consequences, settled, performs, one_handed, hands_up, each, vehicle_is_in, point_is_in, due_in, flows_up, flows_down, vehicle_passes, session_passes, sessions_pass}
use Rattle.trace_fit.specs.Seats.{left_by}
use Rattle.channel_sim.specs.Quiet.{FramesRest, UpRests, DownRests, aged_call, aged_world}
use Rattle.channel_sim.proofs.Jump.{quiet_up, quiet_down}
use Rattle.channel_sim.proofs.TidyLemmas.{with_legs_all, sent_now}

-- what a call keeps, whatever happens at the tick behind this one; the flows are given
pub record Stays (P : (up down tick : ℕ) → Call → Type 0) : Type 0 where
  pub seat : (up down tick : ℕ) (k : Call) (o : Option Point) → P up down tick k → P up down tick (record k { session = o })
  pub carry : (up down tick : ℕ) (k : Call) (items : List Note) → P up down tick k → P up down tick (carries (told (tick + 1) items) k)

abbrev pub Holds : (P : (up down tick : ℕ) → Call → Type 0) → ℕ → World → Type 0
Holds P t w = (w.tick ≡ t + 1) × AllByRecursion (P w.up_flow w.down_flow t) w.calls

carried : (P : (up down tick : ℕ) → Call → Type 0) → Stays P → (up down t : ℕ) (items : List Note) (ks : List Call) → AllByRecursion (P up down t) ks → AllByRecursion (P up down t) (map (carries (told (t + 1) items)) ks)
carried P h up down t items [] all = tt
carried P h up down t items (k ∷ ks) all = (h.carry up down t k items all.0, carried P h up down t items ks all.1)

did_holds : (P : (up down tick : ℕ) → Call → Type 0) → Stays P → (t : ℕ) (w : World) (items : List Note) (v : Vehicle) (ks : List Call) → w.tick ≡ t + 1 → AllByRecursion (P w.up_flow w.down_flow t) ks → Holds P t (did w items v ks).world
did_holds P h t w items v ks e all = (
  e,
  with_legs_all (P w.up_flow w.down_flow t) (vehicle_call v) (map (carries (told w.tick items)) ks)
      (subst (λ now. AllByRecursion (P w.up_flow w.down_flow t) (map (carries (told now items)) ks)) (sym e) (carried P h w.up_flow w.down_flow t items ks all)),
)

seated_all : (P : (up down tick : ℕ) → Call → Type 0) → Stays P → (up down t c : ℕ) (o : Option Point) (ks : List Call) → AllByRecursion (P up down t) ks → AllByRecursion (P up down t) (seated c o ks)
seated_all P h up down t c o [] all = tt
seated_all P h up down t c o (k ∷ ks) all = at (k.number == c) (seated_all P h up down t c o ks all.1)
  where
    at : (b : Bool) → AllByRecursion (P up down t) (seated c o ks) → AllByRecursion (P up down t) (if b then record k { session = o } ∷ ks else k ∷ seated c o ks)
    at true rest = (h.seat up down t k o all.0, all.1)
    at false rest = (all.0, rest)

pub session_acts_holds : (P : (up down tick : ℕ) → Call → Type 0) → Stays P → (t c : ℕ) (w : World) (row : Point → Row Point) (o : Option Point) → Holds P t w → Holds P t (session_acts c w row o).world
session_acts_holds P h t c w row None s = s
session_acts_holds P h t c w row (Some p) s =
    did_holds P h t w (row p).items w.vehicle (seated c (left_by (row p).new) w.calls) s.0
    (seated_all P h w.up_flow w.down_flow t c (left_by (row p).new) w.calls s.1)

does_holds : (P : (up down tick : ℕ) → Call → Type 0) → Stays P → (t : ℕ) (a : Act) (w : World) → Holds P t w → Holds P t (does a w).world
does_holds P h t (model.Hears e) w s =
    did_holds P h t w (vehicle.vehicle_row w.vehicle e).items (vehicle.vehicle_row w.vehicle e).new w.calls s.0 s.1
does_holds P h t (model.InCall c e) w s = at (vehicle_is_in c w)
  where
    at : (b : Bool) → Holds P t (if b then vehicle_did w (vehicle.vehicle_row w.vehicle e) else quiet_step w).world
    at true = did_holds P h t w (vehicle.vehicle_row w.vehicle e).items (vehicle.vehicle_row w.vehicle e).new w.calls s.0 s.1
    at false = s
does_holds P h t (model.Session c e) w s =
    session_acts_holds P h t c w (λ p. point.point_row p e) (session_of c w.calls) s

does_each_holds : (P : (up down tick : ℕ) → Call → Type 0) → Stays P → (t : ℕ) (acts : List Act) (w : World) → Holds P t w → Holds P t (does_each acts w).world
does_each_holds P h t [] w s = s
does_each_holds P h t (a ∷ acts) w s = does_each_holds P h t acts (does a w).world (does_holds P h t a w s)

pub settled_holds : (P : (up down tick : ℕ) → Call → Type 0) → Stays P → (t : ℕ) (step : Step) → Holds P t step.world → Holds P t (settled step).world
settled_holds P h t step s = does_each_holds P h t (consequences step.entries) step.world s

pub each_holds : {A : Type 0} (P : (up down tick : ℕ) → Call → Type 0) (t : ℕ) (step : A → World → Step) (xs : List A) (w : World) → ((a : A) (u : World) → Holds P t u → Holds P t (step a u).world) → Holds P t w → Holds P t (each step xs w).world
each_holds P t step [] w one s = s
each_holds P t step (x ∷ xs) w one s = each_holds P t step xs (step x w).world one (one x w s)

ends_hold : (P : (up down tick : ℕ) → Call → Type 0) → Stays P → (t : ℕ) (w : World) → Holds P t w → Holds P t (sessions_pass (vehicle_passes w).world).world
ends_hold P h t w s =
    let u : World = (vehicle_passes w).world in
    each_holds P t session_passes (map (λ k. k.number) u.calls) u
    (λ c z held. settled_holds P h t (session_acts c z point.unit_row (session_of c z.calls)) (session_acts_holds P h t c z point.unit_row (session_of c z.calls) held))
    (settled_holds P h t (vehicle_did w (vehicle.unit_row w.vehicle)) (did_holds P h t w (vehicle.unit_row w.vehicle).items (vehicle.unit_row w.vehicle).new w.calls s.0 s.1))

hands_up_holds : (P : (up down tick : ℕ) → Call → Type 0) → Stays P → (t : ℕ) (d : Due) (w : World) → Holds P t w → Holds P t (hands_up d w).world
hands_up_holds P h t d w s = at (point_is_in d.call w)
  where
    at : (b : Bool) → Holds P t (if b then one_handed (performs (model.Session d.call (point.Arrives d.frame)) w) else quiet_step w).world
    at true =
        settled_holds P h t (does (model.Session d.call (point.Arrives d.frame)) w)
        (does_holds P h t (model.Session d.call (point.Arrives d.frame)) w s)
    at false = s

-- The frames of a direction.

sent_later : (d t : ℕ) (new : List Sent) → AllByRecursion (λ s. s.tick ≡ t + 1) new → FramesRest 1 (suc d) t new
sent_later d t [] now = tt
sent_later d t (s ∷ ss) now = (inr (omega (arith, now.0)), sent_later d t ss now.1)

frames_more : (flow t : ℕ) (ss new : List Sent) → AllByRecursion (λ s. s.tick ≡ t + 1) new → FramesRest 1 flow t ss → FramesRest 1 flow t (ss ++ new)
frames_more zero t ss new now h = tt
frames_more (suc d) t [] new now h = sent_later d t new now
frames_more (suc d) t (s ∷ ss) new now h = (h.0, frames_more (suc d) t ss new now h.1)

up_stays : Stays (λ up down tick k. FramesRest 1 up tick k.up)
up_stays =
    record {
      seat = λ up down tick k o h. h;
      carry =
          λ up down tick k items h.
          frames_more up tick k.up (sent_by «end».Vehicle k.number (told (tick + 1) items)) (sent_now «end».Vehicle k.number (tick + 1) items) h;
    }

down_stays : Stays (λ up down tick k. FramesRest 1 down tick k.down)
down_stays =
    record {
      seat = λ up down tick k o h. h;
      carry =
          λ up down tick k items h.
          frames_more down tick k.down (sent_by «end».Point k.number (told (tick + 1) items)) (sent_now «end».Point k.number (tick + 1) items) h;
    }

this_later : (n t a : ℕ) → (a ≤ t) ⊎ (t + (n + 1) < a) → (a ≤ t + n) ⊎ (t + n + 1 < a)
this_later n t a (inl h) = inl (omega arith)
this_later n t a (inr h) = inr (omega arith)

frames_on : (n flow t : ℕ) (ss : List Sent) → FramesRest (n + 1) flow t ss → FramesRest 1 flow (t + n) ss
frames_on n zero t ss h = tt
frames_on n (suc d) t [] h = tt
frames_on n (suc d) t (s ∷ ss) h = (this_later n t (s.tick + suc d) h.0, frames_on n (suc d) t ss h.1)

up_on : (n flow t : ℕ) (ks : List Call) → AllByRecursion (λ k. FramesRest (n + 1) flow t k.up) ks → AllByRecursion (λ k. FramesRest 1 flow (t + n) k.up) (map (aged_call n) ks)
up_on n flow t [] h = tt
up_on n flow t (k ∷ ks) h = (frames_on n flow t k.up h.0, up_on n flow t ks h.1)

down_on : (n flow t : ℕ) (ks : List Call) → AllByRecursion (λ k. FramesRest (n + 1) flow t k.down) ks → AllByRecursion (λ k. FramesRest 1 flow (t + n) k.down) (map (aged_call n) ks)
down_on n flow t [] h = tt
down_on n flow t (k ∷ ks) h = (frames_on n flow t k.down h.0, down_on n flow t ks h.1)

-- the world at the tick behind these quiet ones
abbrev pub next_world : ℕ → World → World
next_world n w = record (aged_world n w) { tick = (aged_world n w).tick + 1 }

-- what is not due at a tick is not handed over at it
pub none_up : (n : ℕ) (w : World) → UpRests (n + 1) w → flows_up (sessions_pass (vehicle_passes (next_world n w)).world).world ≡ quiet_step (sessions_pass (vehicle_passes (next_world n w)).world).world
none_up n w h =
    let held = ends_hold (λ up down tick k. FramesRest 1 up tick k.up) up_stays (w.tick + n) (next_world n w) (refl, up_on n w.up_flow w.tick w.calls h) in
    quiet_up (sessions_pass (vehicle_passes (next_world n w)).world).world (w.tick + n) held.0 held.1

pub none_down : (n : ℕ) (w : World) → DownRests (n + 1) w → flows_down (flows_up (sessions_pass (vehicle_passes (next_world n w)).world).world).world ≡ quiet_step (flows_up (sessions_pass (vehicle_passes (next_world n w)).world).world).world
none_down n w h =
    let u : World = (sessions_pass (vehicle_passes (next_world n w)).world).world in
    let before = ends_hold (λ up down tick k. FramesRest 1 down tick k.down) down_stays (w.tick + n) (next_world n w) (refl, down_on n w.down_flow w.tick w.calls h) in
    let held = each_holds (λ up down tick k. FramesRest 1 down tick k.down) (w.tick + n) hands_up (due_in (λ k. k.up) u.up_flow u.tick u.calls) u (hands_up_holds (λ up down tick k. FramesRest 1 down tick k.down) down_stays (w.tick + n)) before in
    quiet_down (flows_up u).world (w.tick + n) held.0 held.1
