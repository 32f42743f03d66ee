-- Each line of a script keeps a world that fits.
use Rattle.std.specs.Prelude.{◌≡◌, ◌+◌, ◌-◌, ℕ, ◌==◌, zero, suc, Bool, true, false, List, [], ◌∷◌, ◌++◌, Option, Some, None, IfSome, map, slice_get, if◌then◌else◌}
use Rattle.std.specs.List.{AllByRecursion}
use Rattle.std.proofs.Common.{ap, refl, sym, subst, ◌∙◌, arith, append_assoc}
use Rattle.std.proofs.lemmas.Bool.{eqb-true}
use Rattle.std.proofs.lemmas.List.{append-nil}
use Rattle.link_frames.specs.declared.frame.End.{End}
use Rattle.link_frames.specs.declared.frame.End.TheVariants as «end»
use Rattle.link_frames.specs.declared.note.Note.{Note}
use Rattle.link_frames.specs.declared.note.Note.TheVariants as note
use Rattle.link_frames.specs.declared.note.Why.TheVariants as why
use Rattle.link_frames.specs.Owes.{Seat, Owes, InTime}
use Rattle.ivs_machine.specs.Vehicle.{is_dialling, is_reachable, vehicle_call}
use Rattle.ivs_machine.specs.VehicleOwes.{came}
use Rattle.ivs_machine.specs.VehicleRows as vehicle
use Rattle.psap_machine.specs.PointOwes as point_owes
use Rattle.psap_machine.specs.PointRows as point
use Rattle.psap_machine.proofs.PointOwed as point_owed
use Rattle.trace_model.specs.declared.entry.Entry.{Entry}
use Rattle.trace_model.specs.declared.event.Event.{Event}
use Rattle.trace_model.specs.declared.event.Event.TheVariants as event
use Rattle.trace_model.specs.History.{Sent, told, sent_by}
use Rattle.trace_model.proofs.Folds.{sent_append}
use Rattle.channel_sim.specs.World.{Call, World, Step, Act, Hears, InCall, Session, quiet_step, and_then, call_of, point_is_in, vehicle_is_in, does, performs, hands_up, hands_down, each, unit, units}
use Rattle.channel_sim.specs.Lines.{Deed, Does, HandsUp, HandsDown, Answers, CallsBack, deed, when, in_its_call, sent_up, sent_down, hands_one, hands_place, deeds_of, item_step, or_nothing, point_resets, session_resets, step, world_after, trace_from}
use Rattle.channel_sim.specs.Fit.{seats_of, FramesFit}
use Rattle.trace_fit.specs.Links.{CallLinks}
use Rattle.trace_fit.specs.Seats.{vehicle_seat}
use Rattle.channel_sim.specs.inner.FitAt.{FitsAt, Goes, all_at}
use Rattle.trace_fit.specs.inner.FitAt.{Came, FitAt}
use Rattle.trace_fit.proofs.Lists.{all_at as element_at}
use Rattle.trace_fit.proofs.RowOwes.{event_kept}
use Rattle.channel_sim.proofs.Acts.{IsPlain, hears_goes, in_call_goes, session_act_goes, settled_goes}
use Rattle.channel_sim.proofs.Ticks.{DueFits, up_fits, down_fits, settles_all, hands_up_goes, hands_down_goes, unit_goes}
use Rattle.channel_sim.proofs.CallUp.{answer_goes, callback_goes}

-- the world fits, all ends passed up to its tick
pub record FitsNow (w : World) (t : List Entry) : Type 0 where
  pub now : ℕ
  pub last : ℕ
  pub fits : FitsAt (all_at now) now last w t

abbrev pub GoesNow : Step → List Entry → Type 0
GoesNow s t = FitsNow s.world (t ++ s.entries)

then_goes : (t : List Entry) (first : Step) (second : World → Step) → GoesNow first t →
    ((u : List Entry) → FitsNow first.world u → GoesNow (second first.world) u) → GoesNow (and_then first second) t
then_goes t first second one two =
    subst (λ (u : List Entry). FitsNow (second first.world).world u)
    (append_assoc t first.entries (second first.world).entries) (two (t ++ first.entries) one)

stays : (w : World) (t : List Entry) → FitsNow w t → GoesNow (quiet_step w) t
stays w t f = subst (λ (u : List Entry). FitsNow w u) (sym (append-nil t)) f

now_of : (now last : ℕ) (s : Step) (t : List Entry) → Goes (all_at now) now last s t → GoesNow s t
now_of now last s t g = record { now = now; last = last; fits = g }

-- An item that is of no call.

abbrev IsAlone : Note → Type 0
IsAlone note.Nothing = Unit {0}
IsAlone (note.Restart e) = Unit {0}
IsAlone _ = ⊥

alone_owes : (n : Note) → IsAlone n → (s : Option Seat) → IfSome s (InTime «end».Vehicle) →
    Owes «end».Vehicle 0 None s (n ∷ []) s
alone_owes note.Nothing a None h = record { given = ((tt, tt, tt), tt); seat = refl; in_time = tt }
alone_owes note.Nothing a (Some k) h = record { given = ((tt, tt, tt), tt); seat = refl; in_time = h }
alone_owes (note.Restart e) a None h = record { given = ((tt, tt, tt), tt); seat = refl; in_time = tt }
alone_owes (note.Restart e) a (Some k) h = record { given = ((tt, tt, tt), tt); seat = refl; in_time = h }
alone_owes _ a s h = absurd a

alone_sends : (n : Note) → IsAlone n → (e : End) (c tick : ℕ) → sent_by e c (told tick (n ∷ [])) ≡ []
alone_sends note.Nothing a e c tick = refl
alone_sends (note.Restart e) a f c tick = refl
alone_sends _ a e c tick = absurd a

item_goes : (n : Note) → IsAlone n → (w : World) (t : List Entry) → FitsNow w t → GoesNow (item_step n w) t
item_goes n alone w t f =
    let g = f.fits in
    record {
      now = f.now;
      last = f.last;
      fits =
          record {
            tick = g.tick;
            drawn = g.drawn;
            fit =
                subst (λ (z : ℕ). FitAt (all_at f.now) (seats_of w.vehicle w.calls) f.now f.last (t ++ told z (n ∷ []))) (sym g.tick)
                (event_kept (all_at f.now) (seats_of w.vehicle w.calls) (seats_of w.vehicle w.calls) f.now f.last t «end».Vehicle 0 None (n ∷ []) (vehicle_seat 0 w.vehicle) g.fit (omega arith) tt refl
                (alone_owes n alone (vehicle_seat 0 w.vehicle) (g.fit.in_time «end».Vehicle 0))
                (record { here = refl; others = λ h d a. refl; clocks = λ h d a. refl }));
            vehicle = g.vehicle;
            calls = g.calls;
            frames = same_frames w.calls g.frames;
            legs = g.legs;
            in_order = g.in_order;
            listed = g.listed;
          };
    }
  where
    none_sent : (e : End) (c : ℕ) → sent_by e c (t ++ told w.tick (n ∷ [])) ≡ sent_by e c t
    none_sent e c =
        sent_append e c t (told w.tick (n ∷ []))
        ∙ ap (λ (l : List Sent). sent_by e c t ++ l) (alone_sends n alone e c w.tick)
        ∙ append-nil (sent_by e c t)

    same_frames : (ks : List Call) → AllByRecursion (FramesFit t) ks →
        AllByRecursion (FramesFit (t ++ told w.tick (n ∷ []))) ks
    same_frames [] a = tt
    same_frames (k ∷ ks) a = (
      record {
        up = a.0.up ∙ sym (none_sent «end».Vehicle k.number);
        down = a.0.down ∙ sym (none_sent «end».Point k.number);
      },
      same_frames ks a.1,
    )

-- What a line has happen.

-- acts that bring no frame of their own
abbrev pub IsQuiet : Act → Type 0
IsQuiet (Hears (vehicle.Trigger cause)) = Unit {0}
IsQuiet (Hears vehicle.Cancel) = Unit {0}
IsQuiet (Hears (vehicle.Net up)) = Unit {0}
IsQuiet (Hears vehicle.Failed) = Unit {0}
IsQuiet (Hears vehicle.Sleep) = Unit {0}
IsQuiet (Hears vehicle.Fault) = Unit {0}
IsQuiet (Hears vehicle.Reset) = Unit {0}
IsQuiet (InCall c vehicle.Lost) = Unit {0}
IsQuiet (Session c (point.Arrives f)) = ⊥
IsQuiet (Session c e) = Unit {0}
IsQuiet _ = ⊥

-- a deed that may come in this world
abbrev pub IsReady : World → List Entry → Deed → Type 0
IsReady w t (Does a) = IsQuiet a
IsReady w t (HandsUp d) = DueFits «end».Point t d
IsReady w t (HandsDown d) = DueFits «end».Vehicle t d
IsReady w t Answers = is_dialling w.vehicle ≡ true
IsReady w t CallsBack = is_reachable w.vehicle ≡ true

-- a deed that may come behind another
abbrev pub IsLater : Deed → Type 0
IsLater (Does a) = IsQuiet a
IsLater _ = ⊥

abbrev pub AreReady : World → List Entry → List Deed → Type 0
AreReady w t [] = Unit {0}
AreReady w t (d ∷ ds) = IsReady w t d × AllByRecursion IsLater ds

told_plain : (e : vehicle.Heard) → IsQuiet (Hears e) → IsPlain e × (came e ≡ None)
told_plain (vehicle.Answered c) q = absurd q
told_plain (vehicle.Incoming c) q = absurd q
told_plain vehicle.Hangup q = absurd q
told_plain vehicle.Lost q = absurd q
told_plain (vehicle.Arrives f) q = absurd q
told_plain _ q = (tt, refl)

brings_none : (e : point.Heard) (c : ℕ) → IsQuiet (Session c e) → point_owes.came e ≡ None
brings_none (point.Arrives f) c q = absurd q
brings_none _ c q = refl

act_does : (n last : ℕ) (w : World) (t : List Entry) → FitsAt (all_at n) n last w t → (a : Act) → IsQuiet a →
    Goes (all_at n) n last (does a w) t
act_does n last w t f (Hears e) q =
    let p = told_plain e q in
    hears_goes (all_at n) n last w t e f (λ c. refl) p.0 (rw p.1 tt)
act_does n last w t f (InCall c vehicle.Lost) q = in_call_goes (all_at n) n last w t c vehicle.Lost f (λ c. refl) tt tt
act_does n last w t f (Session c e) q = session_act_goes (all_at n) n last w t c e f refl (rw (brings_none e c q) tt)
act_does n last w t f _ q = absurd q

act_goes : (w : World) (t : List Entry) → FitsNow w t → (a : Act) → IsQuiet a → GoesNow (performs a w) t
act_goes w t f a q =
    now_of f.now f.last (performs a w) t
    (settled_goes (all_at f.now) f.now f.last (settles_all f.now) (does a w) t (act_does f.now f.last w t f.fits a q))

-- the number drawn last is the world's
own_last : (w : World) (t : List Entry) (f : FitsNow w t) → FitsAt (all_at f.now) f.now w.drawn w t
own_last w t f = subst (λ (z : ℕ). FitsAt (all_at f.now) f.now z w t) (sym f.fits.drawn) f.fits

deed_goes : (w : World) (t : List Entry) → FitsNow w t → (d : Deed) → IsReady w t d → GoesNow (deed d w) t
deed_goes w t f (Does a) q = act_goes w t f a q
deed_goes w t f (HandsUp d) q = now_of f.now f.last (hands_up d w) t (hands_up_goes f.now f.last d w t f.fits q)
deed_goes w t f (HandsDown d) q = now_of f.now f.last (hands_down d w) t (hands_down_goes f.now f.last d w t f.fits q)
deed_goes w t f Answers q =
    now_of f.now (w.drawn + 1) (deed Answers w) t
    (answer_goes f.now w t (point.arriving (w.drawn + 1)) (own_last w t f) q (point_owed.owes_arriving (w.drawn + 1)))
deed_goes w t f CallsBack q =
    now_of f.now (w.drawn + 1) (deed CallsBack w) t
    (callback_goes f.now w t (point.called (w.drawn + 1)) (own_last w t f) q (point_owed.owes_called (w.drawn + 1)))

later_goes : (ds : List Deed) → AllByRecursion IsLater ds → (w : World) (t : List Entry) → FitsNow w t →
    GoesNow (each deed ds w) t
later_goes [] a w t f = stays w t f
later_goes (Does x ∷ ds) a w t f =
    then_goes t (deed (Does x) w) (each deed ds) (act_goes w t f x a.0)
    (λ u g. later_goes ds a.1 (deed (Does x) w).world u g)
later_goes (_ ∷ ds) a w t f = absurd a.0

or_nothing_goes : (ds : List Deed) (w : World) (t : List Entry) → AreReady w t ds → FitsNow w t →
    GoesNow (or_nothing ds w) t
or_nothing_goes [] w t a f = item_goes note.Nothing tt w t f
or_nothing_goes (d ∷ ds) w t a f =
    then_goes t (deed d w) (each deed ds) (deed_goes w t f d a.0) (λ u g. later_goes ds a.1 (deed d w).world u g)

-- Whatever a line has happen may come.

when_ready : (w : World) (t : List Entry) (d : Deed) → (b : Bool) → (b ≡ true → IsReady w t d) → AreReady w t (when b d)
when_ready w t d true h = (h refl, tt)
when_ready w t d false h = tt

in_its_call_ready : (w : World) (t : List Entry) → (o : Option ℕ) → AreReady w t (in_its_call o vehicle.Lost)
in_its_call_ready w t None = tt
in_its_call_ready w t (Some c) = (tt, tt)

both_ready : (w : World) (t : List Entry) (c : ℕ) → (a b : Bool) →
    AreReady w t (when a (Does (InCall c vehicle.Lost)) ++ when b (Does (Session c (point.Ended why.Lost))))
both_ready w t c true true = (tt, (tt, tt))
both_ready w t c true false = (tt, tt)
both_ready w t c false true = (tt, tt)
both_ready w t c false false = tt

-- frames of a call that was found
up_sent : (t : List Entry) (c : ℕ) → ((d : ℕ) → CallLinks t d) → (ks : List Call) → AllByRecursion (FramesFit t) ks →
    AllByRecursion (λ s. Came «end».Point c t s.frame) (sent_up (call_of c ks))
up_sent t c links [] a = tt
up_sent t c links (k ∷ ks) a = at (k.number == c) refl (up_sent t c links ks a.1)
  where
    at : (b : Bool) → (k.number == c) ≡ b → AllByRecursion (λ s. Came «end».Point c t s.frame) (sent_up (call_of c ks)) →
        AllByRecursion (λ s. Came «end».Point c t s.frame) (sent_up (if b then Some k else call_of c ks))
    at true e rest =
        subst (λ (z : ℕ). AllByRecursion (λ s. Came «end».Point z t s.frame) k.up) (eqb-true k.number c e)
        (up_fits t k (links k.number) a.0)
    at false e rest = rest

down_sent : (t : List Entry) (c : ℕ) → ((d : ℕ) → CallLinks t d) → (ks : List Call) → AllByRecursion (FramesFit t) ks →
    AllByRecursion (λ s. Came «end».Vehicle c t s.frame) (sent_down (call_of c ks))
down_sent t c links [] a = tt
down_sent t c links (k ∷ ks) a = at (k.number == c) refl (down_sent t c links ks a.1)
  where
    at : (b : Bool) → (k.number == c) ≡ b → AllByRecursion (λ s. Came «end».Vehicle c t s.frame) (sent_down (call_of c ks)) →
        AllByRecursion (λ s. Came «end».Vehicle c t s.frame) (sent_down (if b then Some k else call_of c ks))
    at true e rest =
        subst (λ (z : ℕ). AllByRecursion (λ s. Came «end».Vehicle z t s.frame) k.down) (eqb-true k.number c e)
        (down_fits t k (links k.number) a.0)
    at false e rest = rest

up_ready : (w : World) (t : List Entry) (c : ℕ) → (o : Option Sent) → IfSome o (λ s. Came «end».Point c t s.frame) →
    AreReady w t (hands_one HandsUp c o)
up_ready w t c None h = tt
up_ready w t c (Some s) h = (h, tt)

down_ready : (w : World) (t : List Entry) (c : ℕ) → (o : Option Sent) → IfSome o (λ s. Came «end».Vehicle c t s.frame) →
    AreReady w t (hands_one HandsDown c o)
down_ready w t c None h = tt
down_ready w t c (Some s) h = (h, tt)

where_in : (w : World) (t : List Entry) (ds : List Deed) → (b : Bool) → AreReady w t ds →
    AreReady w t (if b then ds else [])
where_in w t ds true h = h
where_in w t ds false h = tt

all_ready : (w : World) (t : List Entry) → FitsNow w t → (e : Event) → AreReady w t (deeds_of w e)
all_ready w t f (event.Trigger cause) = (tt, tt)
all_ready w t f event.Cancel = (tt, tt)
all_ready w t f (event.Net up) = (tt, tt)
all_ready w t f event.Answer = when_ready w t Answers (is_dialling w.vehicle) (λ h. h)
all_ready w t f event.Fail = (tt, tt)
all_ready w t f event.Callback = when_ready w t CallsBack (is_reachable w.vehicle) (λ h. h)
all_ready w t f event.Sleep = (tt, tt)
all_ready w t f event.FaultVehicle = (tt, tt)
all_ready w t f (event.FaultPoint c) = when_ready w t (Does (Session c point.Fault)) (point_is_in c w) (λ h. tt)
all_ready w t f (event.Damaged c) = when_ready w t (Does (Session c point.Damaged)) (point_is_in c w) (λ h. tt)
all_ready w t f (event.Request c) = when_ready w t (Does (Session c point.Request)) (point_is_in c w) (λ h. tt)
all_ready w t f (event.Clear c) = when_ready w t (Does (Session c point.Clear)) (point_is_in c w) (λ h. tt)
all_ready w t f (event.Hangup c) = when_ready w t (Does (Session c point.Hangup)) (point_is_in c w) (λ h. tt)
all_ready w t f event.DropVehicle = in_its_call_ready w t (vehicle_call w.vehicle)
all_ready w t f (event.DropPoint c) = when_ready w t (Does (Session c (point.Ended why.Lost))) (point_is_in c w) (λ h. tt)
all_ready w t f (event.DropBoth c) = both_ready w t c (vehicle_is_in c w) (point_is_in c w)
all_ready w t f (event.Deliver true c k) =
    where_in w t (hands_place HandsUp c k (sent_up (call_of c w.calls))) (point_is_in c w)
    (up_ready w t c (slice_get (sent_up (call_of c w.calls)) (k - 1))
    (element_at (λ s. Came «end».Point c t s.frame) (sent_up (call_of c w.calls)) (k - 1)
    (up_sent t c f.fits.fit.links w.calls f.fits.frames)))
all_ready w t f (event.Deliver false c k) =
    where_in w t (hands_place HandsDown c k (sent_down (call_of c w.calls))) (vehicle_is_in c w)
    (down_ready w t c (slice_get (sent_down (call_of c w.calls)) (k - 1))
    (element_at (λ s. Came «end».Vehicle c t s.frame) (sent_down (call_of c w.calls)) (k - 1)
    (down_sent t c f.fits.fit.links w.calls f.fits.frames)))
all_ready w t f (event.Flow up delay) = tt
all_ready w t f (event.Reset «end».Vehicle) = (tt, tt)
all_ready w t f (event.Reset «end».Point) = tt
all_ready w t f (event.Tick n) = tt

-- Steps.

pub unit_now : (w : World) (t : List Entry) → FitsNow w t → GoesNow (unit w) t
unit_now w t f = now_of (f.now + 1) f.last (unit w) t (unit_goes f.now f.last w t f.fits)

units_goes : (n : ℕ) (w : World) (t : List Entry) → FitsNow w t → GoesNow (units n w) t
units_goes zero w t f = stays w t f
units_goes (suc n) w t f = then_goes t (unit w) (units n) (unit_now w t f) (λ u g. units_goes n (unit w).world u g)

flowed : (w : World) (t : List Entry) (a b : ℕ) → FitsNow w t → FitsNow (record w { up_flow = a; down_flow = b }) t
flowed w t a b f =
    record {
      now = f.now;
      last = f.last;
      fits =
          record {
            tick = f.fits.tick;
            drawn = f.fits.drawn;
            fit = f.fits.fit;
            vehicle = f.fits.vehicle;
            calls = f.fits.calls;
            frames = f.fits.frames;
            legs = f.fits.legs;
            in_order = f.fits.in_order;
            listed = f.fits.listed;
          };
    }

each_reset_goes : (cs : List ℕ) (w : World) (t : List Entry) → FitsNow w t → GoesNow (each session_resets cs w) t
each_reset_goes [] w t f = stays w t f
each_reset_goes (c ∷ cs) w t f =
    then_goes t (session_resets c w) (each session_resets cs) (act_goes w t f (Session c point.Reset) tt)
    (λ u g. each_reset_goes cs (session_resets c w).world u g)

point_resets_goes : (w : World) (t : List Entry) → FitsNow w t → GoesNow (point_resets w) t
point_resets_goes w t f =
    let sessions : Step = each session_resets (map (λ k. k.number) w.calls) w in
    let restart : Note = note.Restart «end».Point in
    then_goes t sessions (item_step restart) (each_reset_goes (map (λ k. k.number) w.calls) w t f)
    (λ u g. item_goes restart tt sessions.world u g)

pub step_goes : (w : World) (t : List Entry) → FitsNow w t → (e : Event) → GoesNow (step w e) t
step_goes w t f (event.Flow true delay) =
    stays (record w { up_flow = delay }) t (flowed w t delay w.down_flow f)
step_goes w t f (event.Flow false delay) =
    stays (record w { down_flow = delay }) t (flowed w t w.up_flow delay f)
step_goes w t f (event.Reset «end».Point) = point_resets_goes w t f
step_goes w t f (event.Tick n) = units_goes n w t f
step_goes w t f e = or_nothing_goes (deeds_of w e) w t (all_ready w t f e) f

pub trace_goes : (es : List Event) (w : World) (t : List Entry) → FitsNow w t →
    FitsNow (world_after w es) (t ++ trace_from w es)
trace_goes [] w t f = subst (λ (u : List Entry). FitsNow w u) (sym (append-nil t)) f
trace_goes (e ∷ es) w t f =
    subst (λ (u : List Entry). FitsNow (world_after (step w e).world es) u)
    (append_assoc t (step w e).entries (trace_from (step w e).world es))
    (trace_goes es (step w e).world (t ++ (step w e).entries) (step_goes w t f e))
