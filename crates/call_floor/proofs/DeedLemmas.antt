-- What a line has happen draws no call number, but where a call comes up.
use Rattle.std.proofs.Common.{ℕ, Bool, true, false, List, [], ◌∷◌, ◌++◌, ◌-◌, Option, Some, None, slice_get, if◌then◌else◌}
use Rattle.std.specs.List.{AllByRecursion}
use Rattle.link_frames.specs.declared.frame.End.TheVariants as «end»
use Rattle.link_frames.specs.declared.note.Why.TheVariants as why
use Rattle.ivs_machine.specs.Vehicle.{vehicle_call}
use Rattle.ivs_machine.specs.VehicleRows as vehicle
use Rattle.psap_machine.specs.PointRows as point
use Rattle.trace_model.specs.declared.event.Event.{Event}
use Rattle.trace_model.specs.declared.event.Event.TheVariants as event
use Rattle.trace_model.specs.History.{Sent}
use Rattle.channel_sim.specs.World.{World, InCall, Session, call_of, vehicle_is_in, point_is_in}
use Rattle.channel_sim.specs.Lines.{Deed, Does, HandsUp, HandsDown, Answers, CallsBack, when, in_its_call, at_point, sent_up, sent_down, hands_one, deeds_of}
use Rattle.channel_sim.specs.WorldStands.{NeedsCall}

abbrev pub DrawsNone : Deed → Type 0
DrawsNone Answers = ⊥
DrawsNone CallsBack = ⊥
DrawsNone _ = Unit {0}

none_when : (b : Bool) (x : Deed) → DrawsNone x → AllByRecursion DrawsNone (when b x)
none_when true x h = (h, tt)
none_when false x h = tt

none_both : (xs ys : List Deed) → AllByRecursion DrawsNone xs → AllByRecursion DrawsNone ys → AllByRecursion DrawsNone (xs ++ ys)
none_both [] ys a b = b
none_both (x ∷ xs) ys a b = (a.0, none_both xs ys a.1 b)

none_in : (o : Option ℕ) → AllByRecursion DrawsNone (in_its_call o vehicle.Lost)
none_in None = tt
none_in (Some c) = (tt, tt)

none_up : (b : Bool) (c : ℕ) (o : Option Sent) → AllByRecursion DrawsNone (if b then hands_one HandsUp c o else [])
none_up true c None = tt
none_up true c (Some s) = (tt, tt)
none_up false c o = tt

none_down : (b : Bool) (c : ℕ) (o : Option Sent) → AllByRecursion DrawsNone (if b then hands_one HandsDown c o else [])
none_down true c None = tt
none_down true c (Some s) = (tt, tt)
none_down false c o = tt

none_at : (c : ℕ) (e : point.Heard) (w : World) → AllByRecursion DrawsNone (at_point c e w)
none_at c e w = none_when (point_is_in c w) (Does (Session c e)) tt

pub draws_none : (e : Event) → (NeedsCall e → ⊥) → (w : World) → AllByRecursion DrawsNone (deeds_of w e)
draws_none event.Answer h w = absurd (h tt)
draws_none event.Callback h w = absurd (h tt)
draws_none (event.Trigger cause) h w = (tt, tt)
draws_none event.Cancel h w = (tt, tt)
draws_none (event.Net up) h w = (tt, tt)
draws_none event.Fail h w = (tt, tt)
draws_none event.Sleep h w = (tt, tt)
draws_none event.FaultVehicle h w = (tt, tt)
draws_none (event.FaultPoint c) h w = none_at c point.Fault w
draws_none (event.Damaged c) h w = none_at c point.Damaged w
draws_none (event.Request c) h w = none_at c point.Request w
draws_none (event.Clear c) h w = none_at c point.Clear w
draws_none (event.Hangup c) h w = none_at c point.Hangup w
draws_none event.DropVehicle h w = none_in (vehicle_call w.vehicle)
draws_none (event.DropPoint c) h w = none_at c (point.Ended why.Lost) w
draws_none (event.DropBoth c) h w =
    none_both (when (vehicle_is_in c w) (Does (InCall c vehicle.Lost))) (at_point c (point.Ended why.Lost) w)
    (none_when (vehicle_is_in c w) (Does (InCall c vehicle.Lost)) tt) (none_at c (point.Ended why.Lost) w)
draws_none (event.Deliver true c k) h w =
    none_up (point_is_in c w) c (slice_get (sent_up (call_of c w.calls)) (k - 1))
draws_none (event.Deliver false c k) h w =
    none_down (vehicle_is_in c w) c (slice_get (sent_down (call_of c w.calls)) (k - 1))
draws_none (event.Flow up delay) h w = tt
draws_none (event.Reset «end».Vehicle) h w = (tt, tt)
draws_none (event.Reset «end».Point) h w = tt
draws_none (event.Tick n) h w = tt
