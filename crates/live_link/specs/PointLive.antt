-- The run of the point's end of a live link, over the table of a session, of which it has one at most. A round: one
-- message is read and the message gathered is written; a tick passes; the parts that were read are heard, in order;
-- then the script's lines up to the next round. This project's profile. Cited by the law of joint traces.
use Rattle.std.specs.Prelude.{ℕ, ◌+◌, Bool, true, false, List, [], ◌∷◌, ◌++◌, Option, Some, None, nat_lt, ◌&&◌, ◌==◌, if◌then◌else◌}
use Rattle.link_frames.specs.declared.note.Note.TheVariants as note
use Rattle.link_frames.specs.declared.note.Why.TheVariants as why
use Rattle.link_frames.specs.Row.{Row}
use Rattle.link_frames.specs.declared.frame.End.TheVariants as «end»
use Rattle.link_frames.specs.declared.note.Note.{Note}
use Rattle.psap_machine.specs.Point.{Point}
use Rattle.psap_machine.specs.PointRows.{Heard, Arrives, Damaged, Request, Clear, Fault, Hangup, Ended, Reset, point_row, unit_row, arriving, called}
use Rattle.trace_model.specs.declared.event.Event.{Event}
use Rattle.trace_model.specs.declared.event.Event.TheVariants as event
use Rattle.line_input.specs.declared.reason.BadLine.{BadLine}
use Rattle.trace_fit.specs.Seats.{left_by}
use Rattle.link_parts.specs.declared.part.Part.{Part}
use Rattle.link_parts.specs.declared.part.Part.TheVariants.{Dials, Answers, Leaves, Rings, Takes, Carries}
use Rattle.link_parts.specs.Messages.{message_octets, parts_of}
use Rattle.link_parts.specs.Rounds.{Message, Stop}
use Rattle.link_parts.specs.Rounds.{Parts, ScriptEnd}
use Rattle.live_link.specs.Runs.{Beat, Line, Round, Run, Done, Refused, PeerEnded, LinkStopped, run_behind, Steps, quiet, and_then, each, at_script_end}
use Rattle.live_link.specs.Turns.{Carried}

pub record LivePoint : Type 0 where
  -- the session whose leg is up
  pub session : Option Point
  -- the last call number drawn, the last one rung, and the last one that has had a session; 0 where there is none
  pub drawn : ℕ
  pub rung : ℕ
  pub had : ℕ
  pub tick : ℕ
  -- what it has to send
  pub gathered : List Part

abbrev pub first_live : LivePoint
first_live = record { session = None; drawn = 0; rung = 0; had = 0; tick = 0; gathered = [] }

-- Some session did this, at a frame that came, if one did, or because the other end had left the call.
abbrev pub does : LivePoint → (came : Option Carried) → (followed : Bool) → Row Point → Steps LivePoint
does s came followed row =
    record {
      turns = record { tick = s.tick; came = came; items = row.items } ∷ [];
      new = record s { session = left_by row.new; gathered = s.gathered ++ parts_of followed row.items };
    }

abbrev pub gathers : Part → LivePoint → LivePoint
gathers part s = record s { gathered = s.gathered ++ part ∷ [] }

-- a session whose leg is up is lost, and the vehicle is told so
abbrev pub loses : LivePoint → Option Point → Steps LivePoint
loses s None = quiet s
loses s (Some p) =
    and_then (does s None false (point_row p (Ended why.Lost))) (λ u. quiet (gathers (Leaves p.call) u))

-- a session of this number comes up, by this row
abbrev pub comes_up : ℕ → Row Point → LivePoint → Steps LivePoint
comes_up c row s = does (record s { had = c }) None false row

-- the next number is drawn
abbrev pub draws : LivePoint → LivePoint
draws s = record s { drawn = s.drawn + 1 }

-- the vehicle dials: a session of the next number comes in, and the vehicle is told the number
abbrev pub answers : LivePoint → Steps LivePoint
answers s =
    let c : ℕ = s.drawn + 1 in
    and_then (loses (draws s) s.session)
    (λ u. and_then (comes_up c (arriving c) u) (λ w. quiet (gathers (Answers c) w)))

-- the vehicle takes a call of the point
abbrev pub is_rung : ℕ → LivePoint → Bool
is_rung c s = (c == s.drawn) && ((c == s.rung) && nat_lt s.had c)

abbrev pub calls : ℕ → LivePoint → Steps LivePoint
calls c s = and_then (loses s s.session) (λ u. comes_up c (called c) u)

-- the session of this number, where its leg is up, hears this; else it is as said
abbrev pub in_session : ℕ → Option Point → (Point → Steps LivePoint) → (other : Steps LivePoint) → Steps LivePoint
in_session c None hears other = other
in_session c (Some p) hears other = if p.call == c then hears p else other

-- A part of a message; one that doesn't apply is passed over.
abbrev pub hears_part : LivePoint → Part → Steps LivePoint
hears_part s Dials = answers s
hears_part s (Takes c) = if is_rung c s then calls c s else quiet s
hears_part s (Leaves c) =
    in_session c s.session (λ p. does s None true (point_row p (Ended why.Release))) (quiet s)
hears_part s (Carries c f) =
    in_session c s.session
    (λ p. does s (Some (record { call = c; frame = f })) false (point_row p (Arrives f))) (quiet s)
hears_part s _ = quiet s

-- an item of no session
abbrev pub gives : Note → LivePoint → Steps LivePoint
gives n s = record { turns = record { tick = s.tick; came = None; items = n ∷ [] } ∷ []; new = s }

-- a line that applies to nothing: the item `nothing`
abbrev pub nothing : LivePoint → Steps LivePoint
nothing s = gives note.Nothing s

-- the session of this number hears this
abbrev pub hears_in : ℕ → Heard → LivePoint → Steps LivePoint
hears_in c e s = in_session c s.session (λ p. does s None false (point_row p e)) (nothing s)

-- a session, if there is one, hears this, because the other end had left the call or not
abbrev pub up_hears : LivePoint → (followed : Bool) → Heard → Option Point → Steps LivePoint
up_hears s followed e None = quiet s
up_hears s followed e (Some p) = does s None followed (point_row p e)

-- the session that is up hears this
abbrev pub if_up : (followed : Bool) → Heard → LivePoint → Steps LivePoint
if_up followed e s = up_hears s followed e s.session

-- the point restarts: the session that is up loses its state, and then the item stands, also where there is no session
abbrev pub resets : LivePoint → Steps LivePoint
resets s = and_then (if_up false Reset s) (gives (note.Restart «end».Point))

-- the vehicle is rung with the next number
abbrev pub rings : LivePoint → Steps LivePoint
rings s = quiet (gathers (Rings (s.drawn + 1)) (record s { drawn = s.drawn + 1; rung = s.drawn + 1 }))

-- a line of the script; a line that isn't the point's is refused before
abbrev pub hears_line : LivePoint → Event → Steps LivePoint
hears_line s event.Callback = rings s
hears_line s (event.Request c) = hears_in c Request s
hears_line s (event.Clear c) = hears_in c Clear s
hears_line s (event.Hangup c) = hears_in c Hangup s
hears_line s (event.Damaged c) = hears_in c Damaged s
hears_line s (event.FaultPoint c) = hears_in c Fault s
hears_line s (event.DropPoint c) = hears_in c (Ended why.Lost) s
hears_line s (event.Reset «end».Point) = resets s
hears_line s _ = quiet s

-- the unit tick of the session, if there is one
abbrev pub passes_in : LivePoint → Option Point → Steps LivePoint
passes_in s None = record { turns = record { tick = s.tick; came = None; items = [] } ∷ []; new = s }
passes_in s (Some p) = does s None false (unit_row p)

-- what was gathered is on its way, and a tick passes
abbrev pub passes : LivePoint → Steps LivePoint
passes s = passes_in (record s { tick = s.tick + 1; gathered = [] }) s.session

-- a round whose message has these parts
abbrev pub round : LivePoint → List Part → Steps LivePoint
round s parts = and_then (passes s) (λ u. each hears_part u parts)

-- whether a further line follows
abbrev pub lines_follow : List Beat → Bool
lines_follow [] = false
lines_follow (Line e ∷ beats) = true
lines_follow (Round true ∷ beats) = true
lines_follow (Round false ∷ beats) = lines_follow beats

-- The vehicle's script is at its end, in place of a round: the next line decides.
abbrev pub at_peer_end : LivePoint → Option BadLine → (follows : Bool) → Run
at_peer_end s refused true = record { turns = []; octets = []; rounds = s.tick; ending = PeerEnded }
at_peer_end s None false = record { turns = []; octets = []; rounds = s.tick; ending = Done }
at_peer_end s (Some line) false = record { turns = []; octets = []; rounds = s.tick; ending = Refused line }

-- behind its script the point goes on without events
abbrev pub run_on : LivePoint → Stop → List Message → Run
run_on s stop [] = record { turns = []; octets = []; rounds = s.tick; ending = LinkStopped stop }
run_on s stop (ScriptEnd ∷ messages) = at_peer_end s None false
run_on s stop (Parts parts ∷ messages) =
    let x : Steps LivePoint = round s parts in
    run_behind x.turns (message_octets s.gathered) (run_on x.new stop messages)

-- behind a script that was read to its end, or up to a line that is refused
abbrev pub run_behind_script : LivePoint → List Message → Stop → Option BadLine → Run
run_behind_script s messages stop None = run_on s stop messages
run_behind_script s messages stop (Some line) = at_script_end s.tick [] (Some line)

-- The run from a state on, with the messages that are still to come and where they stop, over what is left of a script
-- and the line at which it is refused.
abbrev pub run_from : LivePoint → List Message → Stop → Option BadLine → List Beat → Run
run_from s messages stop refused [] = run_behind_script s messages stop refused
run_from s messages stop refused (Line e ∷ beats) =
    let x : Steps LivePoint = hears_line s e in
    run_behind x.turns [] (run_from x.new messages stop refused beats)
run_from s [] stop refused (Round first ∷ beats) =
    record { turns = []; octets = []; rounds = s.tick; ending = LinkStopped stop }
run_from s (ScriptEnd ∷ messages) stop refused (Round first ∷ beats) = at_peer_end s refused (lines_follow beats)
run_from s (Parts parts ∷ messages) stop refused (Round first ∷ beats) =
    let x : Steps LivePoint = round s parts in
    run_behind x.turns (message_octets s.gathered) (run_from x.new messages stop refused beats)
