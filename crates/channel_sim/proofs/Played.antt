-- The definitions played on worked calls: for every set of octets they compute the traces that stand here, which are
-- those of the protocol's description.
use Rattle.std.specs.Prelude.{◌≡◌, ◌+◌, ◌-◌, ◌*◌, ℕ, zero, suc, true, false, List, [], ◌∷◌, ◌++◌}
use Rattle.std.proofs.Common.{refl}
use Rattle.link_frames.specs.declared.frame.End.TheVariants as «end»
use Rattle.link_frames.specs.declared.frame.Answer.TheVariants as answer
use Rattle.link_frames.specs.declared.frame.Frame.TheVariants as frame
use Rattle.link_frames.specs.declared.note.Note.{Note}
use Rattle.link_frames.specs.declared.note.Note.TheVariants as note
use Rattle.link_frames.specs.declared.note.Timer.TheVariants as timer
use Rattle.link_frames.specs.declared.note.Why.TheVariants as why
use Rattle.msd_fit.specs.declared.facts.Facts.TheVariants as facts
use Rattle.msd_fit.specs.Fitting.{made}
use Rattle.msd_fit.specs.declared.cause.Cause.TheVariants as cause
use Rattle.trace_model.specs.declared.entry.Entry.{Entry}
use Rattle.trace_model.specs.declared.event.Event.{Event}
use Rattle.trace_model.specs.declared.event.Event.TheVariants as event
use Rattle.trace_model.specs.History.{told}
use Rattle.channel_sim.specs.World.{first_world}
use Rattle.channel_sim.specs.Lines.{passes_within, trace, world_after}

-- a call comes up
abbrev comes_up : List Note
comes_up =
    note.Dial 1 ∷ note.Up «end».Vehicle 1 ∷ note.Voice «end».Vehicle 1 false false ∷ note.Send «end».Vehicle 1 frame.Init
    ∷ note.Up «end».Point 1 ∷ note.Voice «end».Point 1 false false ∷ []

abbrev positive : List Note
positive = note.Send «end».Point 1 (frame.App 1 answer.Positive) ∷ []

-- A realistic call: each frame takes three ticks.
abbrev realistic_call : List Event
realistic_call =
    event.Flow true 3 ∷ event.Flow false 3 ∷ event.Trigger cause.Auto ∷ event.Answer ∷ event.Tick 100 ∷ []

abbrev pub realistic_trace : List ℕ → List Entry
realistic_trace octets =
    told 0 comes_up
    ++ told 3 (note.Send «end».Point 1 (frame.Start 1) ∷ [])
    ++ told 5 (note.Send «end».Vehicle 1 frame.Init ∷ [])
    ++ told 6 (note.Send «end».Vehicle 1 (frame.Content 1 0 octets) ∷ [])
    ++ told 8 (note.Send «end».Point 1 (frame.Start 1) ∷ [])
    ++ told 9 (note.Shown 1 1 octets ∷ note.Send «end».Point 1 (frame.Ack 1) ∷ positive)
    ++ told 12 (note.Acked 1 1 octets ∷ note.Voice «end».Vehicle 1 true true ∷ [])
    ++ told 14 positive
    ++ told 19 positive
    ++ told 24 positive
    ++ told 29 positive
    ++ told 34 (note.Voice «end».Point 1 true true ∷ [])

pub trace-realistic_call : (octets : List ℕ) → trace (facts.Ready octets) realistic_call ≡ realistic_trace octets
unfolding made
trace-realistic_call octets = refl

-- A tie: the acknowledgement that arrives in the very tick in which the wait for it ends comes too late.
abbrev tied_call : List Event
tied_call =
    event.Trigger cause.Auto ∷ event.Answer ∷ event.Deliver true 1 1 ∷ event.Deliver false 1 1 ∷ event.Deliver true 1 2
    ∷ event.Flow false 200 ∷ event.Tick 200 ∷ []

abbrev again : ℕ → List ℕ → List Note
again attempt octets = note.Send «end».Vehicle 1 (frame.Content 1 attempt octets) ∷ []

abbrev tied_trace : List ℕ → List Entry
tied_trace octets =
    told 0 comes_up
    ++ told 0 (note.Send «end».Point 1 (frame.Start 1) ∷ note.Send «end».Vehicle 1 (frame.Content 1 0 octets) ∷ [])
    ++ told 0 (note.Shown 1 1 octets ∷ note.Send «end».Point 1 (frame.Ack 1) ∷ positive)
    ++ told 5 positive
    ++ told 10 positive
    ++ told 13 (again 1 octets)
    ++ told 15 positive
    ++ told 20 positive
    ++ told 25 (note.Voice «end».Point 1 true true ∷ [])
    ++ told 26 (again 2 octets)
    ++ told 39 (again 3 octets)
    ++ told 52 (again 4 octets)
    ++ told 65 (again 5 octets)
    ++ told 78 (again 6 octets)
    ++ told 91 (again 7 octets)
    ++ told 104 (again 8 octets)
    ++ told 117 (again 9 octets)
    ++ told 130 (again 10 octets)
    ++ told 143 (again 11 octets)
    ++ told 156 (again 12 octets)
    ++ told 169 (again 13 octets)
    ++ told 182 (again 14 octets)
    ++ told 195 (again 15 octets)
    ++ told 200 (note.Ended «end».Vehicle 1 timer.T7 ∷ note.Voice «end».Vehicle 1 true true ∷ [])

pub trace-tied_call : (octets : List ℕ) → trace (facts.Ready octets) tied_call ≡ tied_trace octets
unfolding made
trace-tied_call octets = refl

-- No request comes, and then the point hangs up: both waits for data end with the voice open.
abbrev silent_call : List Event
silent_call = event.Trigger cause.Auto ∷ event.Answer ∷ event.Tick 100 ∷ event.Hangup 1 ∷ []

abbrev initiates : List Note
initiates = note.Send «end».Vehicle 1 frame.Init ∷ []

pub trace-silent_call : (octets : List ℕ) → trace (facts.Ready octets) silent_call ≡
    told 0 comes_up
    ++ told 5 initiates
    ++ told 10 initiates
    ++ told 15 initiates
    ++ told 20 (note.Ended «end».Vehicle 1 timer.T3 ∷ [])
    ++ told 50 (note.Ended «end».Point 1 timer.T4 ∷ note.Voice «end».Point 1 true true ∷ [])
    ++ told 70 (note.Ended «end».Vehicle 1 timer.T5 ∷ note.Voice «end».Vehicle 1 true true ∷ [])
    ++ told 100 (note.Down «end».Point 1 why.Hangup ∷ note.Down «end».Vehicle 1 why.Hangup ∷ note.Standby ∷ [])
unfolding made
trace-silent_call octets = refl

-- The point lets the vehicle go behind a realistic call.
pub trace-cleared_call : (octets : List ℕ) →
    trace (facts.Ready octets) (realistic_call ++ event.Clear 1 ∷ event.Tick 10 ∷ []) ≡
    realistic_trace octets
    ++ told 100 (note.Voice «end».Point 1 false false ∷ note.Send «end».Point 1 (frame.App 1 answer.Clear) ∷ [])
    ++ told 103 (note.Down «end».Vehicle 1 why.Release ∷ note.Standby ∷ note.Down «end».Point 1 why.Release ∷ [])
unfolding made
trace-cleared_call octets = refl

-- Behind its beginning the line of 100 ticks of the realistic call gives 14 entries, hands over 11 frames and has two ends.
pub passes-realistic_call : (octets : List ℕ) →
    passes_within (world_after (first_world (facts.Ready octets)) (event.Flow true 3 ∷ event.Flow false 3 ∷ event.Trigger cause.Auto ∷ event.Answer ∷ [])) (event.Tick 100) ≡ 27
unfolding made
passes-realistic_call octets = refl

-- A frame of the call that was lost reaches nobody in the call that is dialled anew.
pub trace-redialled_call : (octets : List ℕ) →
    trace (facts.Ready octets) (event.Trigger cause.Auto ∷ event.Answer ∷ event.Deliver true 1 1 ∷ event.Deliver false 1 1 ∷ event.Deliver true 1 2 ∷ event.DropBoth 1 ∷ event.Answer ∷ event.Deliver false 1 2 ∷ []) ≡
    told 0 comes_up
    ++ told 0 (note.Send «end».Point 1 (frame.Start 1) ∷ note.Send «end».Vehicle 1 (frame.Content 1 0 octets) ∷ [])
    ++ told 0 (note.Shown 1 1 octets ∷ note.Send «end».Point 1 (frame.Ack 1) ∷ positive)
    ++ told 0 (note.Down «end».Vehicle 1 why.Lost ∷ note.Dial 1 ∷ note.Down «end».Point 1 why.Lost ∷ [])
    ++ told 0 (note.Up «end».Vehicle 2 ∷ note.Voice «end».Vehicle 2 false false ∷ note.Send «end».Vehicle 2 frame.Init ∷ [])
    ++ told 0 (note.Up «end».Point 2 ∷ note.Voice «end».Point 2 false false ∷ note.Nothing ∷ [])
unfolding made
trace-redialled_call octets = refl

-- No call was reached in ten attempts; then the point calls, and asks for a set.
abbrev fails : ℕ → List Event → List Event
fails zero rest = rest
fails (suc n) rest = event.Fail ∷ event.Tick 50 ∷ fails n rest

abbrev failed : ℕ → List Entry
failed n = told ((n - 1) * 50) (note.Failed n ∷ []) ++ told (n * 50) (note.Dial (n + 1) ∷ [])

pub trace-called_back : (octets : List ℕ) →
    trace (facts.Ready octets) (event.Trigger cause.Auto ∷ event.Answer ∷ event.DropBoth 1 ∷ fails 9 (event.Fail ∷ event.Callback ∷ event.Tick 20 ∷ event.Request 2 ∷ event.Deliver false 2 1 ∷ [])) ≡
    told 0 comes_up
    ++ told 0 (note.Down «end».Vehicle 1 why.Lost ∷ note.Dial 1 ∷ note.Down «end».Point 1 why.Lost ∷ [])
    ++ failed 1 ++ failed 2 ++ failed 3 ++ failed 4 ++ failed 5 ++ failed 6 ++ failed 7 ++ failed 8 ++ failed 9
    ++ told 450 (note.Failed 10 ∷ note.GaveUp ∷ note.Standby ∷ [])
    ++ told 450 (note.Up «end».Vehicle 2 ∷ note.Voice «end».Vehicle 2 true true ∷ [])
    ++ told 450 (note.Up «end».Point 2 ∷ note.Voice «end».Point 2 true true ∷ [])
    ++ told 470 (note.Voice «end».Point 2 false false ∷ note.Send «end».Point 2 (frame.Start 1) ∷ [])
    ++ told 470 (note.Voice «end».Vehicle 2 false false ∷ note.Send «end».Vehicle 2 (frame.Content 1 0 octets) ∷ [])
unfolding made
trace-called_back octets = refl
