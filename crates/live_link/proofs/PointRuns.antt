-- The run of the point's end owes what it must.
use Rattle.std.specs.Prelude.{◌≡◌, ◌≤◌, ◌<◌, ◌+◌, ℕ, Bool, true, false, List, [], ◌∷◌, ◌++◌, ◌==◌, ◌&&◌, nat_lt, Option, Some, None, IfSome, if◌then◌else◌}
use Rattle.std.proofs.Common.{refl, sym, ap, subst, ◌∙◌, inl, inr, arith}
use Rattle.std.proofs.lemmas.Bool.{ltb-true, eqb-true}
use Rattle.link_frames.specs.declared.frame.End.TheVariants as «end»
use Rattle.link_frames.specs.declared.note.Note.{Note}
use Rattle.link_frames.specs.declared.note.Note.TheVariants as note
use Rattle.link_frames.specs.declared.note.Why.TheVariants as why
use Rattle.link_frames.specs.Owes.{Seat, InTime, Owes, OwesArrival, elapsed}
use Rattle.link_frames.specs.Row.{Row}
use Rattle.psap_machine.specs.Point.{Point}
use Rattle.psap_machine.specs.PointKept.{IsKept}
use Rattle.psap_machine.specs.PointOwes.{PointOwes, ArrivalOwes, seat_of}
use Rattle.psap_machine.specs.PointRows.{Heard, Arrives, Damaged, Request, Clear, Fault, Hangup, Ended, Reset, point_row, unit_row, arriving, called}
use Rattle.psap_machine.proofs.PointOwed.{owes_event, owes_unit, owes_arriving, owes_called}
use Rattle.trace_model.specs.declared.event.Event.{Event}
use Rattle.trace_model.specs.declared.event.Event.TheVariants as event
use Rattle.line_input.specs.declared.reason.BadLine.{BadLine}
use Rattle.trace_fit.specs.Seats.{left_by}
use Rattle.trace_fit.specs.Seats.{point_seat, IsSessionOf}
use Rattle.trace_fit.proofs.Seats.{left_seat, left_session, ended}
use Rattle.link_parts.specs.declared.part.Part.{Part}
use Rattle.link_parts.specs.declared.part.Part.TheVariants.{Dials, Answers, Leaves, Rings, Takes, Carries}
use Rattle.link_parts.specs.Rounds.{Message, Stop}
use Rattle.link_parts.specs.Rounds.{Parts, ScriptEnd}
use Rattle.live_link.specs.Runs.{Beat, Line, Round, Steps, quiet, and_then, each}
use Rattle.live_link.specs.Turns.{Carried, Turn}
use Rattle.live_link.specs.PointLive.{LivePoint, first_live, does, gathers, loses, comes_up, draws, answers, is_rung, calls, in_session, hears_part, gives, nothing, up_hears, if_up, resets, hears_in, hears_line, passes_in, passes, round, lines_follow, at_peer_end, run_on, run_from}
use Rattle.live_link.proofs.Owed.{Place, first_place, frame_of, Stays, PassesTurn, OwedFrom, Events}
use Rattle.live_link.proofs.OwedRuns.{events_append, events_then, both, any_seat}

abbrev pub call_in : Option Point → ℕ
call_in None = 0
call_in (Some p) = p.call

abbrev pub place_with : LivePoint → Option Point → Place
place_with s o = record { clock = s.tick; call = call_in o; seat = point_seat o; high = s.had }

abbrev pub place_of : LivePoint → Place
place_of s = place_with s s.session

pub record IsGood (s : LivePoint) : Type 0 where
  pub kept : IfSome s.session IsKept
  pub in_time : IfSome (point_seat s.session) (InTime «end».Point)
  pub low : call_in s.session ≤ s.had
  pub drawn : s.had ≤ s.drawn

pub record Went (s : LivePoint) (x : Steps LivePoint) : Type 0 where
  pub events : Events «end».Point (place_of s) x.turns (place_of x.new)
  pub good : IsGood x.new

still : (s : LivePoint) → IsGood s → Went s (quiet s)
still s g = record { events = refl; good = g }

goes_on : (s : LivePoint) (first : Steps LivePoint) (second : LivePoint → Steps LivePoint) → Went s first →
    (IsGood first.new → Went first.new (second first.new)) → Went s (and_then first second)
goes_on s first second h k =
    record {
      events =
          events_append «end».Point (place_of s) (place_of first.new) (place_of (second first.new).new) first.turns
          (second first.new).turns h.events (k h.good).events;
      good = (k h.good).good;
    }

-- A session that did a row.

own_call : (c : ℕ) → (o : Option Point) → IfSome o (IsSessionOf c) → IfSome (point_seat o) (λ k. call_in o ≡ c)
own_call c None h = tt
own_call c (Some p) h = any_seat (p.call ≡ c) h.call (point_seat (Some p))

low_call : (c n : ℕ) → c ≤ n → (o : Option Point) → IfSome o (IsSessionOf c) → call_in o ≤ n
low_call c n low None h = omega arith
low_call c n low (Some p) h = subst (λ (z : ℕ). z ≤ n) (sym h.call) low

still_kept : (c : ℕ) → (o : Option Point) → IfSome o (IsSessionOf c) → IfSome o IsKept
still_kept c None h = tt
still_kept c (Some p) h = h.kept

left_stays : (s : LivePoint) (p : Point) (row : Row Point) → p.call ≤ s.had →
    IfSome (left_by row.new) (IsSessionOf p.call) → Stays (place_with s (Some p)) (place_with s (left_by row.new))
left_stays s p row low left =
    record {
      call = own_call p.call (left_by row.new) left;
      high = refl;
      low = low_call p.call s.had low (left_by row.new) left;
    }

left_good : (s : LivePoint) (came : Option Carried) (followed : Bool) (p : Point) (row : Row Point)
    → p.call ≤ s.had
    → s.had ≤ s.drawn
    → IfSome (left_by row.new) (IsSessionOf p.call)
    → IfSome (seat_of row.new) (InTime «end».Point)
    → IsGood (does s came followed row).new
left_good s came followed p row low drawn left in_time =
    record {
      kept = still_kept p.call (left_by row.new) left;
      in_time = subst (λ (z : Option Seat). IfSome z (InTime «end».Point)) (sym (left_seat row.new)) in_time;
      low = low_call p.call s.had low (left_by row.new) left;
      drawn = drawn;
    }

heard_with : (s : LivePoint) (p : Point) (came : Option Carried) (followed : Bool) (row : Row Point)
    → p.call ≤ s.had
    → s.had ≤ s.drawn
    → IfSome came (λ k. k.call ≡ p.call)
    → PointOwes p (frame_of came) (seat_of p) row
    → Events «end».Point (place_with s (Some p)) (does s came followed row).turns (place_of (does s came followed row).new)
    × IsGood (does s came followed row).new
heard_with s p came followed row low drawn own h =
    let left : IfSome (left_by row.new) (IsSessionOf p.call) = left_session p.call row.new h.kept h.call in (
      (
        place_of (does s came followed row).new,
        inl (
            record {
              now = refl;
              clock = refl;
              stays = left_stays s p row low left;
              came = own;
              owes =
                  subst (λ (z : Option Seat). Owes «end».Point p.call (frame_of came) (seat_of p) row.items z)
                  (sym (left_seat row.new)) h.owes;
            }
            ),
        refl,
      ),
      left_good s came followed p row low drawn left h.owes.in_time,
    )

heard_owed : (s : LivePoint) (p : Point) (came : Option Carried) (followed : Bool) (row : Row Point)
    → s.session ≡ Some p
    → IsGood s
    → IfSome came (λ k. k.call ≡ p.call)
    → (IsKept p → PointOwes p (frame_of came) (seat_of p) row)
    → Went s (does s came followed row)
heard_owed s p came followed row is g own owes =
    let low : p.call ≤ s.had = subst (λ (z : Option Point). call_in z ≤ s.had) is g.low in
    let kept : IsKept p = subst (λ (z : Option Point). IfSome z IsKept) is g.kept in
    let h = heard_with s p came followed row low g.drawn own (owes kept) in
    record {
      events =
          subst (λ (z : Option Point). Events «end».Point (place_with s z) (does s came followed row).turns (place_of (does s came followed row).new))
          (sym is) h.0;
      good = h.1;
    }

-- A session that comes up.

come_up : (s : LivePoint) (c : ℕ) (row : Row Point)
    → s.session ≡ None
    → s.had < c
    → c ≤ s.drawn
    → left_by row.new ≡ Some row.new
    → ArrivalOwes c row
    → Went s (comes_up c row s)
come_up s c row none above drawn stays h =
    let call : call_in (left_by row.new) ≡ c = ap call_in stays ∙ h.call in
    record {
      events = (
        place_of (comes_up c row s).new,
        inr (
            record {
              now = refl;
              clock = refl;
              out = ap point_seat none;
              above = subst (λ (z : ℕ). s.had < z) (sym call) above;
              high = sym call;
              owes =
                  subst (λ (z : ℕ). OwesArrival «end».Point z row.items (point_seat (left_by row.new))) (sym call)
                  (subst (λ (z : Option Seat). OwesArrival «end».Point c row.items z) (sym (left_seat row.new)) h.owes);
            }
            ),
        refl,
      );
      good =
          record {
            kept = subst (λ (z : Option Point). IfSome z IsKept) (sym stays) h.kept;
            in_time =
                subst (λ (z : Option Seat). IfSome z (InTime «end».Point)) (sym (left_seat row.new)) h.owes.owes.in_time;
            low = subst (λ (z : ℕ). z ≤ c) (sym call) (omega arith);
            drawn = drawn;
          };
    }

-- A session that is lost.

record Lost (s : LivePoint) (x : Steps LivePoint) : Type 0 where
  went : Went s x
  none : x.new.session ≡ None
  had : x.new.had ≡ s.had
  drawn : x.new.drawn ≡ s.drawn

lost : (s : LivePoint) → IsGood s → (o : Option Point) → s.session ≡ o → Lost s (loses s o)
lost s g None is = record { went = still s g; none = is; had = refl; drawn = refl }
lost s g (Some p) is =
    let x : Steps LivePoint = does s None false (point_row p (Ended why.Lost)) in
    record {
      went =
          goes_on s x (λ u. quiet (gathers (Leaves p.call) u))
          (heard_owed s p None false (point_row p (Ended why.Lost)) is g tt (λ kept. owes_event (Ended why.Lost) p kept))
          (λ good. record {
            events = refl;
            good = record { kept = good.kept; in_time = good.in_time; low = good.low; drawn = good.drawn };
          });
      none = ended p why.Lost;
      had = refl;
      drawn = refl;
    }

answers_went : (s : LivePoint) → IsGood s → Went s (answers s)
answers_went s g =
    let c : ℕ = s.drawn + 1 in
    let d : s.had ≤ s.drawn = g.drawn in
    let first : IsGood (draws s) = record { kept = g.kept; in_time = g.in_time; low = g.low; drawn = omega arith } in
    let l : Lost (draws s) (loses (draws s) s.session) = lost (draws s) first s.session refl in
    let u : LivePoint = (loses (draws s) s.session).new in
    let had : u.had ≡ s.had = l.had in
    let drawn : u.drawn ≡ s.drawn + 1 = l.drawn in
    let w : Went (draws s) (answers s) =
    goes_on (draws s) (loses (draws s) s.session) (λ u. and_then (comes_up c (arriving c) u) (λ w. quiet (gathers (Answers c) w))) l.went
    (λ good.
    goes_on u (comes_up c (arriving c) u) (λ w. quiet (gathers (Answers c) w))
    (come_up u c (arriving c) l.none (omega arith) (omega arith) refl (owes_arriving c))
    (λ good. record {
      events = refl;
      good = record { kept = good.kept; in_time = good.in_time; low = good.low; drawn = good.drawn };
    })) in
    record { events = w.events; good = w.good }

calls_went : (s : LivePoint) (c : ℕ) → IsGood s → is_rung c s ≡ true → Went s (calls c s)
calls_went s c g rung =
    let two = both (c == s.drawn) ((c == s.rung) && nat_lt s.had c) rung in
    let last = both (c == s.rung) (nat_lt s.had c) two.1 in
    let is : c ≡ s.drawn = eqb-true c s.drawn two.0 in
    let above : s.had < c = ltb-true s.had c last.1 in
    let l : Lost s (loses s s.session) = lost s g s.session refl in
    let u : LivePoint = (loses s s.session).new in
    let had : u.had ≡ s.had = l.had in
    let drawn : u.drawn ≡ s.drawn = l.drawn in
    goes_on s (loses s s.session) (λ u. comes_up c (called c) u) l.went
    (λ good. come_up u c (called c) l.none (omega arith) (omega arith) refl (owes_called c))

-- What a session hears.

in_session_went : (s : LivePoint) (c : ℕ) (f : Point → Steps LivePoint) (other : Steps LivePoint)
    → ((p : Point) → s.session ≡ Some p → p.call ≡ c → Went s (f p))
    → Went s other
    → Went s (in_session c s.session f other)
in_session_went s c f other here none = at s.session refl
  where
    by : (p : Point) → s.session ≡ Some p → (b : Bool) → (p.call == c) ≡ b → Went s (if b then f p else other)
    by p is true h = here p is (eqb-true p.call c h)
    by p is false h = none

    at : (o : Option Point) → s.session ≡ o → Went s (in_session c o f other)
    at None is = none
    at (Some p) is = by p is (p.call == c) refl

restart_owes : (c : ℕ) → (o : Option Seat) → IfSome o (InTime «end».Point) →
    Owes «end».Point c None o (note.Restart «end».Point ∷ []) o
restart_owes c None h = record { given = ((tt, tt, tt), tt); seat = refl; in_time = tt }
restart_owes c (Some k) h = record { given = ((tt, tt, tt), tt); seat = refl; in_time = h }

nothing_owes : (c : ℕ) → (o : Option Seat) → IfSome o (InTime «end».Point) →
    Owes «end».Point c None o (note.Nothing ∷ []) o
nothing_owes c None h = record { given = ((tt, tt, tt), tt); seat = refl; in_time = tt }
nothing_owes c (Some k) h = record { given = ((tt, tt, tt), tt); seat = refl; in_time = h }

-- an item of no session
gives_went : (s : LivePoint) (n : Note) → ((c : ℕ) (o : Option Seat) → IfSome o (InTime «end».Point) →
    Owes «end».Point c None o (n ∷ []) o) → IsGood s → Went s (gives n s)
gives_went s n item g =
    record {
      events = (
        place_of s,
        inl (
            record {
              now = refl;
              clock = refl;
              stays = record { call = same s.session; high = refl; low = g.low };
              came = tt;
              owes = item (call_in s.session) (point_seat s.session) g.in_time;
            }
            ),
        refl,
      );
      good = g;
    }
  where
    same : (o : Option Point) → IfSome (point_seat o) (λ k. call_in o ≡ call_in o)
    same o = any_seat (call_in o ≡ call_in o) refl (point_seat o)

nothing_went : (s : LivePoint) → IsGood s → Went s (nothing s)
nothing_went s g = gives_went s note.Nothing nothing_owes g

resets_went : (s : LivePoint) → IsGood s → Went s (resets s)
resets_went s g =
    goes_on s (if_up false Reset s) (gives (note.Restart «end».Point)) (at s.session refl)
    (λ good. gives_went (if_up false Reset s).new (note.Restart «end».Point) restart_owes good)
  where
    at : (o : Option Point) → s.session ≡ o → Went s (up_hears s false Reset o)
    at None is = still s g
    at (Some p) is = heard_owed s p None false (point_row p Reset) is g tt (λ kept. owes_event Reset p kept)

part_went : (s : LivePoint) (part : Part) → IsGood s → Went s (hears_part s part)
part_went s Dials g = answers_went s g
part_went s (Answers c) g = still s g
part_went s (Rings c) g = still s g
part_went s (Takes c) g = at (is_rung c s) refl
  where
    at : (b : Bool) → is_rung c s ≡ b → Went s (if b then calls c s else quiet s)
    at true h = calls_went s c g h
    at false h = still s g
part_went s (Leaves c) g =
    in_session_went s c (λ p. does s None true (point_row p (Ended why.Release))) (quiet s)
    (λ p is call. heard_owed s p None true (point_row p (Ended why.Release)) is g tt (λ kept. owes_event (Ended why.Release) p kept))
    (still s g)
part_went s (Carries c f) g =
    in_session_went s c (λ p. does s (Some (record { call = c; frame = f })) false (point_row p (Arrives f))) (quiet s)
    (λ p is call.
    heard_owed s p (Some (record { call = c; frame = f })) false (point_row p (Arrives f)) is g (sym call)
    (λ kept. owes_event (Arrives f) p kept))
    (still s g)

hears_in_went : (s : LivePoint) (c : ℕ) (e : Heard) → ((p : Point) → IsKept p → PointOwes p None (seat_of p) (point_row p e)) →
    IsGood s → Went s (hears_in c e s)
hears_in_went s c e owes g =
    in_session_went s c (λ p. does s None false (point_row p e)) (nothing s)
    (λ p is call. heard_owed s p None false (point_row p e) is g tt (owes p)) (nothing_went s g)

line_went : (s : LivePoint) (e : Event) → IsGood s → Went s (hears_line s e)
line_went s event.Callback g =
    let d : s.had ≤ s.drawn = g.drawn in
    record {
      events = refl;
      good = record { kept = g.kept; in_time = g.in_time; low = g.low; drawn = omega arith };
    }
line_went s (event.Request c) g = hears_in_went s c Request (owes_event Request) g
line_went s (event.Clear c) g = hears_in_went s c Clear (owes_event Clear) g
line_went s (event.Hangup c) g = hears_in_went s c Hangup (owes_event Hangup) g
line_went s (event.Damaged c) g = hears_in_went s c Damaged (owes_event Damaged) g
line_went s (event.FaultPoint c) g = hears_in_went s c Fault (owes_event Fault) g
line_went s (event.DropPoint c) g = hears_in_went s c (Ended why.Lost) (owes_event (Ended why.Lost)) g
line_went s (event.Reset «end».Point) g = resets_went s g
line_went s _ g = still s g

parts_went : (parts : List Part) (s : LivePoint) → IsGood s → Went s (each hears_part s parts)
parts_went [] s g = still s g
parts_went (part ∷ parts) s g =
    goes_on s (hears_part s part) (λ u. each hears_part u parts) (part_went s part g)
    (λ good. parts_went parts (hears_part s part).new good)

-- Rounds.

-- Some end passed one tick, by its only turn.
record Passed (s : LivePoint) (x : Steps LivePoint) : Type 0 where
  turn : Turn
  one : x.turns ≡ turn ∷ []
  passes : PassesTurn «end».Point (place_of s) turn (place_of x.new)
  good : IsGood x.new

passed : (s : LivePoint) → IsGood s → Passed s (passes s)
passed s g = at s.session refl
  where
    u : LivePoint
    u = record s { tick = s.tick + 1; gathered = [] }

    at : (o : Option Point) → s.session ≡ o → Passed s (passes_in u o)
    at None is =
        record {
          turn = record { tick = s.tick + 1; came = None; items = [] };
          one = refl;
          passes =
              record {
                now = refl;
                clock = refl;
                stays =
                    record {
                      call = any_seat (call_in s.session ≡ call_in s.session) refl (point_seat s.session);
                      high = refl;
                      low = g.low;
                    };
                owes =
                    subst (λ (z : Option Point). Owes «end».Point (call_in z) None (elapsed (point_seat z)) [] (point_seat z)) (sym is)
                    (record { given = tt; seat = refl; in_time = tt });
              };
          good = record { kept = g.kept; in_time = g.in_time; low = g.low; drawn = g.drawn };
        }
    at (Some p) is =
        let low : p.call ≤ s.had = subst (λ (z : Option Point). call_in z ≤ s.had) is g.low in
        let kept : IsKept p = subst (λ (z : Option Point). IfSome z IsKept) is g.kept in
        let h : PointOwes p None (elapsed (seat_of p)) (unit_row p) = owes_unit p kept in
        let left : IfSome (left_by (unit_row p).new) (IsSessionOf p.call) = left_session p.call (unit_row p).new h.kept h.call in
        record {
          turn = record { tick = s.tick + 1; came = None; items = (unit_row p).items };
          one = refl;
          passes =
              subst (λ (z : Option Point). PassesTurn «end».Point (place_with s z) (record { tick = s.tick + 1; came = None; items = (unit_row p).items }) (place_with u (left_by (unit_row p).new)))
              (sym is)
              (record {
                now = refl;
                clock = refl;
                stays =
                    record {
                      call = own_call p.call (left_by (unit_row p).new) left;
                      high = refl;
                      low = low_call p.call s.had low (left_by (unit_row p).new) left;
                    };
                owes =
                    subst (λ (z : Option Seat). Owes «end».Point p.call None (elapsed (seat_of p)) (unit_row p).items z)
                    (sym (left_seat (unit_row p).new)) h.owes;
              });
          good = left_good u None false p (unit_row p) low g.drawn left h.owes.in_time;
        }

round_owed : (n : ℕ) (s : LivePoint) (parts : List Part) (ts : List Turn)
    → IsGood s
    → (IsGood (round s parts).new → OwedFrom «end».Point n (place_of (round s parts).new) ts)
    → OwedFrom «end».Point n (place_of s) ((round s parts).turns ++ ts)
round_owed n s parts ts g next =
    let h : Passed s (passes s) = passed s g in
    let u : LivePoint = (passes s).new in
    let w : Went u (each hears_part u parts) = parts_went parts u h.good in
    subst (λ (z : List Turn). OwedFrom «end».Point n (place_of s) ((z ++ (each hears_part u parts).turns) ++ ts)) (sym h.one) (
      place_of u,
      inr h.passes,
      events_then «end».Point n (place_of u) (place_of (round s parts).new) (each hears_part u parts).turns ts w.events
          (next w.good),
    )

on_owed : (stop : Stop) (messages : List Message) (s : LivePoint) → IsGood s →
    OwedFrom «end».Point (run_on s stop messages).rounds (place_of s) (run_on s stop messages).turns
on_owed stop [] s g = omega arith
on_owed stop (ScriptEnd ∷ messages) s g = omega arith
on_owed stop (Parts parts ∷ messages) s g =
    let u : LivePoint = (round s parts).new in
    round_owed (run_on u stop messages).rounds s parts (run_on u stop messages).turns g
    (λ good. on_owed stop messages u good)

peer_owed : (s : LivePoint) (refused : Option BadLine) (follows : Bool) →
    OwedFrom «end».Point (at_peer_end s refused follows).rounds (place_of s) (at_peer_end s refused follows).turns
peer_owed s refused true = omega arith
peer_owed s None false = omega arith
peer_owed s (Some line) false = omega arith

run_owed : (messages : List Message) (stop : Stop) (refused : Option BadLine) (beats : List Beat) (s : LivePoint) →
    IsGood s → OwedFrom «end».Point (run_from s messages stop refused beats).rounds (place_of s)
    (run_from s messages stop refused beats).turns
run_owed messages stop None [] s g = on_owed stop messages s g
run_owed messages stop (Some line) [] s g = omega arith
run_owed messages stop refused (Line e ∷ beats) s g =
    let w : Went s (hears_line s e) = line_went s e g in
    let u : LivePoint = (hears_line s e).new in
    events_then «end».Point (run_from u messages stop refused beats).rounds (place_of s) (place_of u) (hears_line s e).turns
    (run_from u messages stop refused beats).turns w.events (run_owed messages stop refused beats u w.good)
run_owed [] stop refused (Round first ∷ beats) s g = omega arith
run_owed (ScriptEnd ∷ messages) stop refused (Round first ∷ beats) s g = peer_owed s refused (lines_follow beats)
run_owed (Parts parts ∷ messages) stop refused (Round first ∷ beats) s g =
    let u : LivePoint = (round s parts).new in
    round_owed (run_from u messages stop refused beats).rounds s parts (run_from u messages stop refused beats).turns g
    (λ good. run_owed messages stop refused beats u good)

pub first_owed : (messages : List Message) (stop : Stop) (refused : Option BadLine) (beats : List Beat) →
    OwedFrom «end».Point (run_from first_live messages stop refused beats).rounds first_place
    (run_from first_live messages stop refused beats).turns
first_owed messages stop refused beats =
    run_owed messages stop refused beats first_live
    (record { kept = tt; in_time = tt; low = omega arith; drawn = omega arith })
