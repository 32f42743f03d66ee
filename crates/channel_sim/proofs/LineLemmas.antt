-- Event lines at one tick, at which no end lags.
use Rattle.std.proofs.Common.{◌≡◌, ℕ, ◌≤◌, ◌&&◌, if◌then◌else◌, true, false, inl, inr, Option, Some, None, Result, Ok, Err, OnOk, OnErr, List, [], ◌∷◌, refl, ap, sym, ◌∙◌, subst, arith}
use Rattle.std.specs.Option.{is_some}
use Rattle.std.proofs.lemmas.Bool.{eq-eqb}
use Rattle.link_frames.specs.declared.note.Note.{Note}
use Rattle.link_frames.specs.declared.note.Note.TheVariants as note
use Rattle.ivs_machine.specs.Vehicle.{Vehicle, Phase, Standby, InSeries, InCall, vehicle_call, call_in, is_dialling, is_dialling_in, is_reachable, is_standby}
use Rattle.ivs_machine.specs.VehicleRows as vehicle
use Rattle.trace_model.specs.declared.entry.Entry.{Entry}
use Rattle.trace_model.specs.History.{told}
use Rattle.channel_sim.specs.declared.calls.call.Call as kept_call
use Rattle.channel_sim.specs.declared.channel.Channel as kept_channel
use Rattle.channel_sim.specs.World.{Call, World, Step, Hears, InCall, quiet_step, performs, settled, vehicle_did}
use Rattle.trace_fit.specs.Seats.{is_number}
use Rattle.channel_sim.specs.Lines.{Deed, Does, deed, in_its_call, or_nothing, item_step, nothing_step}
use Rattle.channel_sim.specs.inner.Acts.{IsCaught, IsUpTo}
use Rattle.channel_sim.specs.Lag.{CallsLag, IsFrom, StandsAt, StandsNow, CameAt, CameNow, level}
use Rattle.channel_sim.proofs.StepLemmas.{quiet_behind}

pub one_deed : (d : Deed) (w : World) → or_nothing (d ∷ []) w ≡ deed d w
one_deed d w = quiet_behind (deed d w)

-- the tick stood
pub came_now : {Fault : Type 0} (Grew Partly : List Entry → Type 0) (result : Result (Unit {0}) Fault) (settled tick : ℕ) (new : kept_channel.Channel) (s : Step) → new.tick ≡ tick → CameAt Grew Partly result tick (level settled tick) (λ c. tick) new s → CameNow Grew Partly result settled new s
came_now Grew Partly (Ok u) settled tick new s same h = (h.0, subst (λ t. StandsAt t (level settled t) (λ c. t) new s.world) (sym same) h.1)
came_now Grew Partly (Err e) settled tick new s same h = h

pub caught_now : (settled : ℕ) (kept : kept_channel.Channel) (w : World) → StandsNow settled kept w → kept.tick ≡ kept.passed
caught_now settled kept w s =
    let low : kept.tick ≤ kept.passed = s.from in
    let high : kept.passed ≤ kept.tick = s.passed in
    omega arith

is_up_to : (settled tick : ℕ) (x : kept_call.Call) → x.passed ≤ tick → IsFrom (level settled tick) x → IsUpTo tick x
is_up_to settled tick x high (inl low) = inl (omega arith)
is_up_to settled tick x high (inr low) = inr low.1

pub all_caught : (settled tick c : ℕ) (xs : List kept_call.Call) (ks : List Call) → CallsLag (level settled tick) (λ d. tick) xs ks → IsCaught (λ d. tick) c xs
all_caught settled tick c [] [] h = tt
all_caught settled tick c [] (k ∷ ks) h = absurd h
all_caught settled tick c (x ∷ xs) [] h = absurd h
all_caught settled tick c (x ∷ xs) (k ∷ ks) h =
    ((λ same. is_up_to settled tick x h.0.passed h.0.from), all_caught settled tick c xs ks h.1)

-- an item that stands alone
pub item_came : {Fault : Type 0} (settled : ℕ) (n : Note) (Grew Partly : List Entry → Type 0) (result : Result (Unit {0}) Fault) (kept : kept_channel.Channel) (w : World) → StandsNow settled kept w → OnOk result (Grew (told kept.tick (n ∷ []))) → OnErr result (Partly (told kept.tick (n ∷ []))) → CameNow Grew Partly result settled kept (item_step n w)
item_came settled n Grew Partly (Ok u) kept w s ok err = (subst (λ t. Grew (told t (n ∷ []))) (sym s.tick) ok, s)
item_came settled n Grew Partly (Err e) kept w s ok err = subst (λ t. Partly (told t (n ∷ []))) (sym s.tick) err

-- a line that applies to nothing
pub nothing_came : {Fault : Type 0} (settled : ℕ) (Grew Partly : List Entry → Type 0) (result : Result (Unit {0}) Fault) (kept : kept_channel.Channel) (w : World) → StandsNow settled kept w → OnOk result (Grew (told kept.tick (note.Nothing ∷ []))) → OnErr result (Partly (told kept.tick (note.Nothing ∷ []))) → CameNow Grew Partly result settled kept (nothing_step w)
nothing_came settled Grew Partly result kept w s ok err = item_came settled note.Nothing Grew Partly result kept w s ok err

-- what the vehicle hears in its own call
pub in_call_performs : (c : ℕ) (e : vehicle.Heard) (w : World) → is_number c (vehicle_call w.vehicle) ≡ true → performs (InCall c e) w ≡ performs (Hears e) w
in_call_performs c e w inside = ap (λ b. settled (if b then vehicle_did w (vehicle.vehicle_row w.vehicle e) else quiet_step w)) inside

pub its_call : (e : vehicle.Heard) (w : World) (call : Option ℕ) → call ≡ vehicle_call w.vehicle → is_some call ≡ true → or_nothing (in_its_call (vehicle_call w.vehicle) e) w ≡ performs (Hears e) w
its_call e w None same there = cc
its_call e w (Some c) same there =
    ap (λ o. or_nothing (in_its_call o e) w) (sym same)
    ∙ one_deed (Does (InCall c e)) w
    ∙ in_call_performs c e w (ap (is_number c) (sym same) ∙ eq-eqb c c refl)

pub no_call : (e : vehicle.Heard) (w : World) (call : Option ℕ) → call ≡ vehicle_call w.vehicle → is_some call ≡ false → or_nothing (in_its_call (vehicle_call w.vehicle) e) w ≡ nothing_step w
no_call e w None same none = ap (λ o. or_nothing (in_its_call o e) w) (sym same)
no_call e w (Some c) same none = cc

out_in : (v : Vehicle) (p : Phase) → v.phase ≡ p → is_dialling_in p ≡ true → vehicle_call v ≡ None
out_in v (InSeries s) e h = ap (call_in v) e
out_in v _ e h = cc

pub is_out_dialling : (v : Vehicle) → is_dialling v ≡ true → vehicle_call v ≡ None
is_out_dialling v h = out_in v v.phase refl h

out_of : (v : Vehicle) (p : Phase) → v.phase ≡ p → (is_standby p && v.network) ≡ true → vehicle_call v ≡ None
out_of v Standby e h = ap (call_in v) e
out_of v _ e h = cc

pub is_out_reachable : (v : Vehicle) → is_reachable v ≡ true → vehicle_call v ≡ None
is_out_reachable v h = out_of v v.phase refl h
