-- Frames as they are kept, and which frames a flow hands over: those of one call, up or down. A reader of `ecall` need
-- not believe it: neither `step` nor `advance` cites it. Cited by the parts of elapsed time that a `World` gives away,
-- and by private functions.
use Rattle.std.specs.Prelude.{ℕ, Bool, true, false, List, [], ◌∷◌, Option, Some, None}
use Rattle.link_frames.specs.declared.frame.Frame.{Frame}
use Rattle.link_frames.specs.declared.frame.Frame.TheVariants as frame
use Rattle.trace_model.specs.History.{Sent}
use Rattle.channel_sim.specs.declared.calls.due.Due as kept_due
use Rattle.channel_sim.specs.declared.kept.KeptFrame.{KeptFrame}
use Rattle.channel_sim.specs.declared.kept.KeptFrame.TheVariants as kept
use Rattle.channel_sim.specs.World.{Call, Due, World, Step, call_of, due_in, hands_down, hands_up}

-- the frame, with the octets of its set
abbrev pub full : KeptFrame → Frame
full kept.Init = frame.Init
full (kept.Start r) = frame.Start r
full (kept.Content r attempt set) = frame.Content r attempt set.value
full (kept.Nack r) = frame.Nack r
full (kept.Ack r) = frame.Ack r
full (kept.App r answer) = frame.App r answer

-- a frame that is due, as it is kept
abbrev pub due_of : kept_due.Due → Due
due_of d = record { call = d.call; frame = full d.frame }

-- the frames of a call sent up, or down
abbrev pub sent_way : (up : Bool) → Call → List Sent
sent_way true k = k.up
sent_way false k = k.down

-- after how many ticks the flow up, or down, hands a frame over
abbrev pub flow_way : (up : Bool) → World → ℕ
flow_way true w = w.up_flow
flow_way false w = w.down_flow

-- handing one frame over, up or down
abbrev pub hands_way : (up : Bool) → Due → World → Step
hands_way true = hands_up
hands_way false = hands_down

-- this call alone, if there is one
abbrev pub alone : Option Call → List Call
alone None = []
alone (Some k) = k ∷ []

-- the frames of the call of this number that a flow up, or down, hands over now
abbrev pub due_in_call : (up : Bool) → ℕ → World → List Due
due_in_call up c w = due_in (sent_way up) (flow_way up w) w.tick (alone (call_of c w.calls))
