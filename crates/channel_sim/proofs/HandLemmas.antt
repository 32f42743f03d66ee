-- Frames handed over.
use Rattle.std.proofs.Common.{◌≡◌, ℕ, if◌then◌else◌, Bool, true, false, Option, Some, None, Result, Ok, Err, List, [], ◌∷◌, slice_get, refl, ap, sym, ◌∙◌, subst, arith}
use Rattle.std.specs.Option.{option_map}
use Rattle.link_frames.specs.declared.frame.Frame.{Frame}
use Rattle.ivs_machine.specs.VehicleRows as vehicle
use Rattle.psap_machine.specs.PointRows as point
use Rattle.trace_model.specs.declared.entry.Entry.{Entry}
use Rattle.trace_model.specs.History.{Sent}
use Rattle.channel_sim.specs.declared.channel.Channel as kept_channel
use Rattle.channel_sim.specs.World.{World, Step, Session, InCall, Hears, Due, call_of, quiet_step, one_handed, performs, settled, point_is_in, vehicle_is_in, hands_up, hands_down}
use Rattle.channel_sim.specs.Lines.{HandsUp, HandsDown, hands_one, or_nothing, sent_up, sent_down}
use Rattle.channel_sim.specs.Lag.{LeastPassed, level, CallsLag, StandsAt, StandsNow, CameAt, CameNow}
use Rattle.channel_sim.proofs.LineLemmas.{one_deed, in_call_performs}
use Rattle.channel_sim.proofs.SessionLemmas.{no_session_step}

-- the same entries, and the same world
pub record Alike (s t : Step) : Type 0 where
  pub entries : s.entries ≡ t.entries
  pub world : s.world ≡ t.world

pub came_alike : {Fault : Type 0} (Grew Partly : List Entry → Type 0) (result : Result (Unit {0}) Fault) (ahead : ℕ) (floor : LeastPassed) (clock : ℕ → ℕ) (kept : kept_channel.Channel) (s t : Step) → Alike s t → CameAt Grew Partly result ahead floor clock kept t → CameAt Grew Partly result ahead floor clock kept s
came_alike Grew Partly (Ok u) ahead floor clock kept s t h came = (subst Grew (sym h.entries) came.0, subst (StandsAt ahead floor clock kept) (sym h.world) came.1)
came_alike Grew Partly (Err e) ahead floor clock kept s t h came = subst Partly (sym h.entries) came

pub came_alike_now : {Fault : Type 0} (settled : ℕ) (Grew Partly : List Entry → Type 0) (result : Result (Unit {0}) Fault) (kept : kept_channel.Channel) (s t : Step) → Alike s t → CameNow Grew Partly result settled kept t → CameNow Grew Partly result settled kept s
came_alike_now settled Grew Partly (Ok u) kept s t h came = (subst Grew (sym h.entries) came.0, subst (StandsNow settled kept) (sym h.world) came.1)
came_alike_now settled Grew Partly (Err e) kept s t h came = subst Partly (sym h.entries) came

pub alike_step : (s t u : Step) → s ≡ t → Alike t u → Alike s u
alike_step s t u e h = record { entries = ap (λ (z : Step). z.entries) e ∙ h.entries; world = ap (λ (z : Step). z.world) e ∙ h.world }

-- a frame handed up is what the session hears
pub up_alike : (d : Due) (w : World) → Alike (hands_up d w) (performs (Session d.call (point.Arrives d.frame)) w)
up_alike d w = at (point_is_in d.call w) refl
  where
    at : (b : Bool) → point_is_in d.call w ≡ b → Alike (if b then one_handed (performs (Session d.call (point.Arrives d.frame)) w) else quiet_step w) (performs (Session d.call (point.Arrives d.frame)) w)
    at true e = record { entries = refl; world = refl }
    at false e =
        let none : performs (Session d.call (point.Arrives d.frame)) w ≡ quiet_step w = ap settled (no_session_step d.call w (λ s. point.point_row s (point.Arrives d.frame)) e) in
        record { entries = ap (λ (z : Step). z.entries) (sym none); world = ap (λ (z : Step). z.world) (sym none) }

pub down_alike : (d : Due) (w : World) → vehicle_is_in d.call w ≡ true → Alike (hands_down d w) (performs (Hears (vehicle.Arrives d.frame)) w)
down_alike d w inside =
    let same : hands_down d w ≡ one_handed (performs (InCall d.call (vehicle.Arrives d.frame)) w) = ap (λ b. if b then one_handed (performs (InCall d.call (vehicle.Arrives d.frame)) w) else quiet_step w) inside in
    let hears = in_call_performs d.call (vehicle.Arrives d.frame) w inside in
    record {
      entries = ap (λ (z : Step). z.entries) same ∙ ap (λ (z : Step). z.entries) hears;
      world = ap (λ (z : Step). z.world) same ∙ ap (λ (z : Step). z.world) hears;
    }

pub down_quiet : (d : Due) (w : World) → vehicle_is_in d.call w ≡ false → hands_down d w ≡ quiet_step w
down_quiet d w out = ap (λ b. if b then one_handed (performs (InCall d.call (vehicle.Arrives d.frame)) w) else quiet_step w) out

-- the frame that a line names
pub up_line : (c place : ℕ) (w : World) (frame : Frame) → Some frame ≡ option_map (λ s. s.frame) (if point_is_in c w then slice_get (sent_up (call_of c w.calls)) place else None) → Alike (or_nothing (if point_is_in c w then hands_one HandsUp c (slice_get (sent_up (call_of c w.calls)) place) else []) w) (performs (Session c (point.Arrives frame)) w)
up_line c place w frame e = at (point_is_in c w) (slice_get (sent_up (call_of c w.calls)) place) e
  where
    at : (b : Bool) (o : Option Sent) → Some frame ≡ option_map (λ s. s.frame) (if b then o else None) → Alike (or_nothing (if b then hands_one HandsUp c o else []) w) (performs (Session c (point.Arrives frame)) w)
    at false o e = cc
    at true None e = cc
    at true (Some s) e =
        let same : frame ≡ s.frame = cc in
        let d : Due = record { call = c; frame = s.frame } in
        alike_step (or_nothing (HandsUp d ∷ []) w) (hands_up d w) (performs (Session c (point.Arrives frame)) w) (one_deed (HandsUp d) w)
        (subst (λ f. Alike (hands_up d w) (performs (Session c (point.Arrives f)) w)) (sym same) (up_alike d w))

pub down_line : (c place : ℕ) (w : World) (frame : Frame) → Some frame ≡ option_map (λ s. s.frame) (if vehicle_is_in c w then slice_get (sent_down (call_of c w.calls)) place else None) → Alike (or_nothing (if vehicle_is_in c w then hands_one HandsDown c (slice_get (sent_down (call_of c w.calls)) place) else []) w) (performs (Hears (vehicle.Arrives frame)) w)
down_line c place w frame e = at (vehicle_is_in c w) refl (slice_get (sent_down (call_of c w.calls)) place) e
  where
    at : (b : Bool) → vehicle_is_in c w ≡ b → (o : Option Sent) → Some frame ≡ option_map (λ s. s.frame) (if b then o else None) → Alike (or_nothing (if b then hands_one HandsDown c o else []) w) (performs (Hears (vehicle.Arrives frame)) w)
    at false f o e = cc
    at true f None e = cc
    at true f (Some s) e =
        let same : frame ≡ s.frame = cc in
        let d : Due = record { call = c; frame = s.frame } in
        alike_step (or_nothing (HandsDown d ∷ []) w) (hands_down d w) (performs (Hears (vehicle.Arrives frame)) w) (one_deed (HandsDown d) w)
        (subst (λ g. Alike (hands_down d w) (performs (Hears (vehicle.Arrives g)) w)) (sym same) (down_alike d w f))

-- all ends were caught up
pub caught_all : (floor : LeastPassed) (settled : ℕ) (kept moved : kept_channel.Channel) (w : World) → StandsAt kept.tick floor (λ c. kept.tick) kept w → moved ≡ record kept { calls = moved.calls } → kept.passed ≡ kept.tick → CallsLag (level settled kept.tick) (λ c. kept.tick) moved.calls w.calls → StandsNow settled moved w
caught_all floor settled kept moved w s same passed calls =
    subst (λ x. StandsNow settled x w) (sym same)
    (record {
      tick = s.tick;
      drawn = s.drawn;
      up_flow = s.up_flow;
      down_flow = s.down_flow;
      passed = omega arith;
      from = omega arith;
      vehicle = s.vehicle;
      calls = calls;
      tidy = s.tidy;
    })
