-- A worked call over more than a day: the realistic call of `Played`, and then ticks in which nobody does anything. A
-- million unit ticks are too many to compute one by one. So the quiet ones are jumped over, by the lemma on quiet time,
-- and the others are computed: the first hundred, the one at which the longest call ends, and the one at which the
-- longest standby ends.
use Rattle.std.specs.Prelude.{◌≡◌, ◌≤◌, ◌<◌, ◌+◌, ℕ, zero, suc, true, false, IfSome, List, [], ◌∷◌, ◌++◌, length}
use Rattle.std.specs.List.{AllByRecursion}
use Rattle.std.proofs.Common.{refl, ap, ◌∙◌, add-zero, arith, inl}
use Rattle.link_frames.specs.declared.frame.End.TheVariants as «end»
use Rattle.link_frames.specs.declared.note.Note.TheVariants as note
use Rattle.link_frames.specs.declared.note.Timer.TheVariants as timer
use Rattle.link_frames.specs.declared.note.Why.TheVariants as why
use Rattle.msd_fit.specs.declared.facts.Facts.TheVariants as facts
use Rattle.msd_fit.specs.Fitting.{made}
use Rattle.msd_fit.specs.declared.cause.Cause.TheVariants as cause
use Rattle.ivs_machine.specs.Vehicle.{Vehicle, Idle, Standby, InCall, Talking}
use Rattle.ivs_machine.specs.VehicleRows as vehicle
use Rattle.trace_model.specs.declared.entry.Entry.{Entry}
use Rattle.trace_model.specs.declared.event.Event.{Event}
use Rattle.trace_model.specs.declared.event.Event.TheVariants as event
use Rattle.trace_model.specs.History.{Sent, told}
use Rattle.channel_sim.specs.World.{Call, World, Step, first_world, quiet_step, unit, units}
use Rattle.channel_sim.specs.Lines.{passes_within, trace, trace_from, world_after}
use Rattle.channel_sim.specs.Tidy.{IsTidy, AreFrom, ticks_of}
use Rattle.channel_sim.specs.Quiet.{CallRests, FramesRest, QuietFor, aged_world}
use Rattle.channel_sim.proofs.Jump.{followed, jump, units_add, units_behind}
use Rattle.channel_sim.proofs.Played.{realistic_trace}

-- the lines of the realistic call in front of its ticks
abbrev begins : List Event
begins = event.Flow true 3 ∷ event.Flow false 3 ∷ event.Trigger cause.Auto ∷ event.Answer ∷ []

abbrev begun : List ℕ → World
begun octets = world_after (first_world (facts.Ready octets)) begins

-- 100 ticks later both ends talk, and every frame was handed over
abbrev spoken : List ℕ → World
spoken octets = (units 100 (begun octets)).world

-- the tick at which the longest call ends
abbrev releases : List ℕ → Step
releases octets = unit (aged_world 35899 (spoken octets))

abbrev released : List ℕ → World
released octets = (releases octets).world

-- the tick at which the longest standby ends
abbrev falls_idle : List ℕ → Step
falls_idle octets = unit (aged_world 431999 (released octets))

abbrev idle : List ℕ → World
idle octets = (falls_idle octets).world

-- The world behind the first hundred ticks.

-- the ticks at which the vehicle sent its frames, and the point its own
abbrev up_ticks : List ℕ
up_ticks = 0 ∷ 5 ∷ 6 ∷ []

abbrev down_ticks : List ℕ
down_ticks = 3 ∷ 8 ∷ 9 ∷ 9 ∷ 14 ∷ 19 ∷ 24 ∷ 29 ∷ []

up_rises : AreFrom 0 up_ticks
up_rises = (omega arith, (omega arith, (omega arith, tt)))

down_rises : AreFrom 0 down_ticks
down_rises =
    (omega arith, (omega arith, (omega arith, (omega arith, (omega arith, (omega arith, (omega arith, (omega arith, tt))))))))

-- at this tick so many ticks have passed since each of these
abbrev Past : (delay tick : ℕ) → List ℕ → Type 0
Past delay tick ticks = AllByRecursion (λ t. t + delay ≤ tick) ticks

up_past : (delay : ℕ) → delay ≤ 3 → Past delay 100 up_ticks
up_past delay h = (omega (arith, h), (omega (arith, h), (omega (arith, h), tt)))

down_past : (delay : ℕ) → delay ≤ 3 → Past delay 100 down_ticks
down_past delay h =
    (omega (arith, h), (omega (arith, h), (omega (arith, h), (omega (arith, h), (omega (arith, h), (omega (arith, h), (omega (arith, h), (omega (arith, h), tt))))))))

in_time : (tick : ℕ) (ticks : List ℕ) → Past 0 tick ticks → AllByRecursion (λ t. t ≤ tick) ticks
in_time tick [] h = tt
in_time tick (t ∷ ts) h = let e : t + 0 ≤ tick = h.0 in (omega (arith, e), in_time tick ts h.1)

-- frames that were handed over before rest
arrived : (n delay tick : ℕ) (sends : List Sent) → Past delay tick (ticks_of sends) → FramesRest n delay tick sends
arrived n zero tick sends h = tt
arrived n (suc d) tick [] h = tt
arrived n (suc d) tick (s ∷ ss) h = (inl h.0, arrived n (suc d) tick ss h.1)

all_arrived : (sent : Call → List Sent) (n delay tick : ℕ) (calls : List Call)
    → AllByRecursion (λ k. Past delay tick (ticks_of (sent k))) calls
    → AllByRecursion (λ k. FramesRest n delay tick (sent k)) calls
all_arrived sent n delay tick [] h = tt
all_arrived sent n delay tick (k ∷ ks) h = (arrived n delay tick (sent k) h.0, all_arrived sent n delay tick ks h.1)

-- a world whose frames were all handed over
quiet_world : (n : ℕ) (w : World) → IfSome (vehicle.due_of w.vehicle) (λ due. n < due)
    → AllByRecursion (CallRests n) w.calls
    → AllByRecursion (λ k. Past w.up_flow w.tick (ticks_of k.up)) w.calls
    → AllByRecursion (λ k. Past w.down_flow w.tick (ticks_of k.down)) w.calls
    → QuietFor n w
quiet_world n w later rest up down =
    record {
      ends = (later, rest);
      up = all_arrived (λ k. k.up) n w.up_flow w.tick w.calls up;
      down = all_arrived (λ k. k.down) n w.down_flow w.tick w.calls down;
    }

spoken_tidy : (octets : List ℕ) → IsTidy (spoken octets)
spoken_tidy octets =
    record {
      numbers = (omega arith, tt);
      below = (omega arith, tt);
      legs = (refl, tt);
      frames = (
        record {
          up = record { rise = up_rises; past = in_time 100 up_ticks (up_past 0 (omega arith)) };
          down = record { rise = down_rises; past = in_time 100 down_ticks (down_past 0 (omega arith)) };
        },
        tt,
      );
    }

spoken_quiet : (n : ℕ) (octets : List ℕ) → n < 35900 → QuietFor n (spoken octets)
spoken_quiet n octets h =
    quiet_world n (spoken octets) h (record { due = tt; live = refl }, tt) (up_past 3 (omega arith), tt)
    (down_past 3 (omega arith), tt)

-- The worlds behind the call.

released_tidy : (octets : List ℕ) → IsTidy (released octets)
released_tidy octets = record { numbers = tt; below = tt; legs = tt; frames = tt }

released_quiet : (n : ℕ) (octets : List ℕ) → n < 432000 → QuietFor n (released octets)
released_quiet n octets h = record { ends = (h, tt); up = tt; down = tt }

idle_tidy : (octets : List ℕ) → IsTidy (idle octets)
idle_tidy octets = record { numbers = tt; below = tt; legs = tt; frames = tt }

idle_quiet : (n : ℕ) (octets : List ℕ) → QuietFor n (idle octets)
idle_quiet n octets = record { ends = (tt, tt); up = tt; down = tt }

-- No tick later a vehicle is the same.

still_talking : (v : Vehicle) → v.phase ≡ InCall Talking → vehicle.aged 0 v ≡ v
still_talking v e = ap (vehicle.aged_in 0 v) e ∙ simp add-zero

still_resting : (v : Vehicle) → v.phase ≡ Standby → v.standby ≡ 0 → vehicle.aged 0 v ≡ v
still_resting v e h =
    let same : (vehicle.aged_in 0 v Standby).standby ≡ v.standby = rw h refl in
    ap (vehicle.aged_in 0 v) e ∙ ap (λ (k : ℕ). record v { standby = k }) same

still_idle : (v : Vehicle) → v.phase ≡ Idle → vehicle.aged 0 v ≡ v
still_idle v e = ap (vehicle.aged_in 0 v) e

-- The line of a million ticks.

-- The numbers of ticks are variables here: a numeral that is matched on would be counted down one by one.

-- quiet ticks, one at which something happens, and others
jump_to : (n m k : ℕ) (w : World) → n ≡ m + suc k → IsTidy w → vehicle.aged 0 w.vehicle ≡ w.vehicle → QuietFor m w
    → units n w ≡ followed (unit (aged_world m w)) (units k (unit (aged_world m w)).world)
jump_to n m k w e tidy same quiet = ap (λ l. units l w) e ∙ units_behind m (suc k) w tidy same quiet

-- what the line gives, with so many ticks left behind the last at which something happens
abbrev long_line : ℕ → List ℕ → Step
long_line i octets =
    followed (units 100 (begun octets))
    (followed (releases octets) (followed (falls_idle octets) (quiet_step (aged_world i (idle octets)))))

line_is : (n k j i : ℕ) (octets : List ℕ) → n ≡ 100 + k → k ≡ 35899 + suc j → j ≡ 431999 + suc i
    → units n (begun octets) ≡ long_line i octets
line_is n k j i octets e f g =
    ap (λ l. units l (begun octets)) e ∙ units_add 100 k (begun octets)
    ∙ ap (followed (units 100 (begun octets)))
    (jump_to k 35899 j (spoken octets) f (spoken_tidy octets) (still_talking (spoken octets).vehicle refl) (spoken_quiet 35899 octets (omega arith))
    ∙ ap (followed (releases octets))
    (jump_to j 431999 i (released octets) g (released_tidy octets) (still_resting (released octets).vehicle refl refl) (released_quiet 431999 octets (omega arith))
    ∙ ap (followed (falls_idle octets)) (jump i (idle octets) (idle_tidy octets) (still_idle (idle octets).vehicle refl) (idle_quiet i octets))))

line_passes : (n k j i : ℕ) (octets : List ℕ) → n ≡ 100 + k → k ≡ 35899 + suc j → j ≡ 431999 + suc i
    → passes_within (begun octets) (event.Tick n) ≡ 33
line_passes n k j i octets e f g = ap (λ (s : Step). length s.entries + s.handed + 2) (line_is n k j i octets e f g)

-- Behind its beginning the line of a million ticks gives 20 entries, hands over 11 frames and has two ends.
pub passes-long_call : (octets : List ℕ) →
    passes_within (world_after (first_world (facts.Ready octets)) begins) (event.Tick 1000000) ≡ 33
passes-long_call octets = line_passes 1000000 999900 964000 532000 octets refl refl refl

-- The realistic call over a million ticks: the longest call ends, and then the longest standby.
abbrev long_call : List Event
long_call = begins ++ event.Tick 1000000 ∷ []

abbrev long_trace : List ℕ → List Entry
long_trace octets =
    realistic_trace octets
    ++ told 36000 (note.Ended «end».Vehicle 1 timer.T2 ∷ note.Down «end».Vehicle 1 why.Release ∷ note.Standby ∷ note.Down «end».Point 1 why.Release ∷ [])
    ++ told 468000 (note.Ended «end».Vehicle 0 timer.T10 ∷ note.Idle ∷ [])

line_trace : (n k j i : ℕ) (octets : List ℕ) → n ≡ 100 + k → k ≡ 35899 + suc j → j ≡ 431999 + suc i
    → trace (facts.Ready octets) (begins ++ event.Tick n ∷ []) ≡ long_trace octets
unfolding made
line_trace n k j i octets e f g =
    ap (λ (s : Step). trace_from (first_world (facts.Ready octets)) begins ++ s.entries ++ []) (line_is n k j i octets e f g)

pub trace-long_call : (octets : List ℕ) → trace (facts.Ready octets) long_call ≡ long_trace octets
trace-long_call octets = line_trace 1000000 999900 964000 532000 octets refl refl refl
