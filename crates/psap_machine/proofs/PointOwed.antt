-- Every row owes what it must: one search for each event.
use Rattle.std.specs.Prelude.{◌≡◌, ℕ, zero, suc, Bool, true, false, List, [], ◌∷◌, Some, None, unwrap_or}
use Rattle.std.proofs.Common.{rules, refl}
use Rattle.std.proofs.lemmas.Bool.Decides.{nat_tests}
use Rattle.link_frames.specs.declared.frame.Answer.{Answer}
use Rattle.link_frames.specs.declared.frame.Frame.{Frame}
use Rattle.link_frames.specs.declared.frame.Frame.TheVariants as frame
use Rattle.link_frames.specs.declared.note.Why.{Why}
use Rattle.link_frames.specs.Owes.{HasSet, elapsed}
use Rattle.link_frames.specs.Ranks.{behind}
use Rattle.link_frames.specs.Row.{Row, silent}
use Rattle.psap_machine.specs.Point.{Point, Phase, Listening, Asking, Telling, Talking, Clearing, Over, requests_of}
use Rattle.psap_machine.specs.PointRows.{Heard, Damaged, Request, Clear, Fault, Hangup, Ended, Reset, Arrives, gives, sends, shows, shown_row, with_shown, was_asked, was_shown, content_row, point_row, unit_row, units, acts, arriving, called}
use Rattle.psap_machine.specs.PointKept.{IsKept, IsKeptBy}
use Rattle.psap_machine.specs.PointOwes.{PointOwes, ArrivalOwes, came, seat_of}
use Rattle.psap_machine.proofs.Asked.{head_among, still_among, last_among, has_set, still_shown, next_new, next_in_turn}

abbrev pub RowOwes : Heard → Type 0
RowOwes e = (s : Point) → IsKept s → PointOwes s (came e) (seat_of s) (point_row s e)

owes_fault : RowOwes Fault
owes_fault s h = search rules

owes_hangup : RowOwes Hangup
owes_hangup s h = search rules

owes_ended : (w : Why) → RowOwes (Ended w)
owes_ended w s h = search rules

owes_reset : RowOwes Reset
owes_reset s h = search rules

owes_damaged : RowOwes Damaged
owes_damaged s h = search rules

owes_init : RowOwes (Arrives frame.Init)
owes_init s h = search (rules, still_shown)

owes_start : (r : ℕ) → RowOwes (Arrives (frame.Start r))
owes_start r s h = search rules

owes_nack : (r : ℕ) → RowOwes (Arrives (frame.Nack r))
owes_nack r s h = search rules

owes_ack : (r : ℕ) → RowOwes (Arrives (frame.Ack r))
owes_ack r s h = search rules

owes_app : (r : ℕ) (a : Answer) → RowOwes (Arrives (frame.App r a))
owes_app r a s h = search rules

owes_request : RowOwes Request
owes_request s h = search (rules, nat_tests, still_shown, next_new, next_in_turn)

owes_clear : RowOwes Clear
owes_clear s h = search (rules, nat_tests, head_among, has_set)

abbrev ContentOwes : (r a : ℕ) (o : List ℕ) → Point → Row Point → Type 0
ContentOwes r a o s row = IsKept s → PointOwes s (Some (frame.Content r a o)) (seat_of s) row

-- a set comes again
content_again : (r a : ℕ) (o : List ℕ) (s : Point)
    → (s.phase ≡ Over → ⊥)
    → was_shown r s ≡ true
    → ContentOwes r a o s (gives (sends s (frame.Ack r) ∷ []) s)
content_again r a o s up shown h = let set : HasSet r s.shown = has_set r s.shown shown in search (rules, nat_tests)

-- a set comes that was asked for, and not shown yet
abbrev FreshOwes : (r a : ℕ) (o : List ℕ) → Point → Type 0
FreshOwes r a o s =
    was_asked r s ≡ true
    → was_shown r s ≡ false
    → HasSet r ((r, o) ∷ s.shown)
    → ContentOwes r a o s (behind (shows r o s) (shown_row r (with_shown r o s) s.phase))

fresh_listening : (r a : ℕ) (o : List ℕ) (s : Point) → FreshOwes r a o (record s { phase = Listening })
fresh_listening r a o s asked shown set h = search (rules, nat_tests)

fresh_asking : (r a : ℕ) (o : List ℕ) (s : Point) (q : ℕ) → FreshOwes r a o (record s { phase = Asking q })
fresh_asking r a o s q asked shown set h = search (rules, nat_tests, head_among)

fresh_telling : (r a : ℕ) (o : List ℕ) (s : Point) (q : ℕ) → FreshOwes r a o (record s { phase = Telling q })
fresh_telling r a o s q asked shown set h = search (rules, nat_tests, still_among)

fresh_talking : (r a : ℕ) (o : List ℕ) (s : Point) → FreshOwes r a o (record s { phase = Talking })
fresh_talking r a o s asked shown set h = search (rules, nat_tests)

fresh_clearing : (r a : ℕ) (o : List ℕ) (s : Point) (q : ℕ) → FreshOwes r a o (record s { phase = Clearing q })
fresh_clearing r a o s q asked shown set h = search (rules, nat_tests, still_among)

content_silent : (r a : ℕ) (o : List ℕ) (s : Point) → ContentOwes r a o s (silent s)
content_silent r a o s h = search rules

content_by : (r a : ℕ) (o : List ℕ) (s : Point)
    → (s.phase ≡ Over → ⊥)
    → FreshOwes r a o s
    → (asked shown : Bool)
    → was_asked r s ≡ asked
    → was_shown r s ≡ shown
    → ContentOwes r a o s (unwrap_or (content_row r o s asked shown) (silent s))
content_by r a o s up fresh asked true e f h = content_again r a o s up f h
content_by r a o s up fresh true false e f h =
    fresh e f (has_set r ((r, o) ∷ s.shown) (head_among r (requests_of s.shown))) h
content_by r a o s up fresh false false e f h = content_silent r a o s h

content_in : (r a : ℕ) (o : List ℕ) (s : Point) (p : Phase)
    → let t : Point = record s { phase = p } in ContentOwes r a o t (point_row t (Arrives (frame.Content r a o)))
content_in r a o s Listening =
    content_by r a o (record s { phase = Listening }) (λ e. cc) (fresh_listening r a o s) _ _ refl refl
content_in r a o s (Asking q) =
    content_by r a o (record s { phase = Asking q }) (λ e. cc) (fresh_asking r a o s q) _ _ refl refl
content_in r a o s (Telling q) =
    content_by r a o (record s { phase = Telling q }) (λ e. cc) (fresh_telling r a o s q) _ _ refl refl
content_in r a o s Talking =
    content_by r a o (record s { phase = Talking }) (λ e. cc) (fresh_talking r a o s) _ _ refl refl
content_in r a o s (Clearing q) =
    content_by r a o (record s { phase = Clearing q }) (λ e. cc) (fresh_clearing r a o s q) _ _ refl refl
content_in r a o s Over = content_silent r a o (record s { phase = Over })

owes_content : (r a : ℕ) (o : List ℕ) → RowOwes (Arrives (frame.Content r a o))
owes_content r a o s h = content_in r a o s s.phase h

owes_frame : (f : Frame) → RowOwes (Arrives f)
owes_frame frame.Init = owes_init
owes_frame (frame.Start r) = owes_start r
owes_frame (frame.Content r a o) = owes_content r a o
owes_frame (frame.Nack r) = owes_nack r
owes_frame (frame.Ack r) = owes_ack r
owes_frame (frame.App r a) = owes_app r a

pub owes_event : (e : Heard) → RowOwes e
owes_event (Arrives f) = owes_frame f
owes_event Damaged = owes_damaged
owes_event Request = owes_request
owes_event Clear = owes_clear
owes_event Fault = owes_fault
owes_event Hangup = owes_hangup
owes_event (Ended w) = owes_ended w
owes_event Reset = owes_reset

pub row_kept : (e : Heard) (s : Point) → IsKept s → IsKept (point_row s e).new
row_kept e s h = (owes_event e s h).kept

abbrev UnitOwes : Point → Type 0
UnitOwes s = IsKept s → PointOwes s None (elapsed (seat_of s)) (unit_row s)

unit_listening : (s : Point) → UnitOwes (record s { phase = Listening })
unit_listening s h = search rules

unit_asking : (s : Point) (r : ℕ) → UnitOwes (record s { phase = Asking r })
unit_asking s r h = search (rules, nat_tests, last_among)

unit_telling : (s : Point) (r : ℕ) → UnitOwes (record s { phase = Telling r })
unit_telling s r h = search (rules, nat_tests, has_set)

unit_talking : (s : Point) → UnitOwes (record s { phase = Talking })
unit_talking s h = search rules

unit_clearing : (s : Point) (r : ℕ) → UnitOwes (record s { phase = Clearing r })
unit_clearing s r h = search (rules, nat_tests, has_set)

unit_over : (s : Point) → UnitOwes (record s { phase = Over })
unit_over s h = search rules

unit_in : (s : Point) (p : Phase) → UnitOwes (record s { phase = p })
unit_in s Listening = unit_listening s
unit_in s (Asking r) = unit_asking s r
unit_in s (Telling r) = unit_telling s r
unit_in s Talking = unit_talking s
unit_in s (Clearing r) = unit_clearing s r
unit_in s Over = unit_over s

pub owes_unit : (s : Point) → IsKept s → PointOwes s None (elapsed (seat_of s)) (unit_row s)
owes_unit s h = unit_in s s.phase h

pub owes_arriving : (c : ℕ) → ArrivalOwes c (arriving c)
owes_arriving c = search rules

pub owes_called : (c : ℕ) → ArrivalOwes c (called c)
owes_called c = search rules

-- once the sums have grown, a line that acts leaves a state that keeps what it must
acts_listening : (s : Point)
    → IsKeptBy 1 (record s { phase = Listening })
    → IsKept (acts (record s { phase = Listening })).new
acts_listening s h = search rules

acts_asking : (s : Point) (r : ℕ)
    → IsKeptBy 1 (record s { phase = Asking r })
    → IsKept (acts (record s { phase = Asking r })).new
acts_asking s r h = search (rules, nat_tests)

acts_telling : (s : Point) (r : ℕ)
    → IsKeptBy 1 (record s { phase = Telling r })
    → IsKept (acts (record s { phase = Telling r })).new
acts_telling s r h = search (rules, nat_tests)

acts_clearing : (s : Point) (r : ℕ)
    → IsKeptBy 1 (record s { phase = Clearing r })
    → IsKept (acts (record s { phase = Clearing r })).new
acts_clearing s r h = search (rules, nat_tests)

acts_in : (s : Point) (p : Phase) → IsKeptBy 1 (record s { phase = p }) → IsKept (acts (record s { phase = p })).new
acts_in s Listening h = acts_listening s h
acts_in s (Asking r) h = acts_asking s r h
acts_in s (Telling r) h = acts_telling s r h
acts_in s Talking h = record { asked = h.asked; shown = h.shown; phase = h.phase }
acts_in s (Clearing r) h = acts_clearing s r h
acts_in s Over h = record { asked = h.asked; shown = h.shown; phase = h.phase }

pub acts_kept : (s : Point) → IsKeptBy 1 s → IsKept (acts s).new
acts_kept s h = acts_in s s.phase h

-- and so do any number of unit ticks
pub units_kept : (n : ℕ) (s : Point) → IsKept s → IsKept (units n s).new
units_kept zero s h = h
units_kept (suc n) s h = units_kept n (unit_row s).new (owes_unit s h).kept
