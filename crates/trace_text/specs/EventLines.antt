-- The event lines of a script: the form of each, and why it is refused. This project's profile. Cited by the definition
-- of a script.
use Rattle.std.specs.Prelude.{ℕ, ◌+◌, Bool, List, [], ◌∷◌, codes, Option, Some, None, Result, Ok, Err, if◌then◌else◌}
use Rattle.std.specs.Str.{bytes_eq}
use Rattle.trace_text.specs.Choices.{cause_of, direction, end_of}
use Rattle.line_input.specs.Numbers.{positive, natural_below}
use Rattle.trace_model.specs.Delays.{longest_delay}
use Rattle.trace_model.specs.declared.event.Event.{Event}
use Rattle.trace_model.specs.declared.event.Event.TheVariants as event
use Rattle.line_input.specs.declared.reason.Reason.{Reason}
use Rattle.line_input.specs.declared.reason.Reason.TheVariants as reason

-- the delay of a flow
abbrev pub delay : List ℕ → Option ℕ
delay text = natural_below (longest_delay + 1) text

-- the line of a value, or the reason where there is none
abbrev pub event_or : {A : Type 0} → Reason → (A → Event) → Option A → Result Event Reason
event_or why line (Some value) = Ok (line value)
event_or why line None = Err why

-- a line that takes no argument: `cancel`, `answer`, `fail`, `callback`, `sleep`
abbrev pub lone_line : Event → List (List ℕ) → Result Event Reason
lone_line line [] = Ok line
lone_line line _ = Err reason.Count

-- a number from 1 on, or the reason where there is none
abbrev pub number_or_reason : Option ℕ → Result ℕ Reason
number_or_reason (Some number) = Ok number
number_or_reason None = Err reason.Number

-- the only word behind the others of a line, a number from 1 on
abbrev pub only_number : List (List ℕ) → Result ℕ Reason
only_number (text ∷ []) = number_or_reason (positive text)
only_number _ = Err reason.Count

-- a line that takes a number: `damaged <call>`, `request <call>`, `clear <call>`, `hangup <call>`, and
-- `tick <1..4294967295>`
abbrev pub number_line : (ℕ → Event) → List (List ℕ) → Result Event Reason
number_line line rest = elim (only_number rest) [ Ok number ↦ Ok (line number) | Err why ↦ Err why ]

-- `trigger auto|manual|test`
abbrev pub trigger_line : List (List ℕ) → Result Event Reason
trigger_line (text ∷ []) = event_or reason.Word event.Trigger (cause_of text)
trigger_line _ = Err reason.Count

-- `net up|down`
abbrev pub net_line : List (List ℕ) → Result Event Reason
net_line (text ∷ []) = event_or reason.Word event.Net (direction text)
net_line _ = Err reason.Count

-- the arguments of `deliver` are judged from left to right
abbrev pub deliver_of : Option Bool → (call k : Option ℕ) → Result Event Reason
deliver_of None call k = Err reason.Word
deliver_of (Some up) None k = Err reason.Number
deliver_of (Some up) (Some call) None = Err reason.Number
deliver_of (Some up) (Some call) (Some k) = Ok (event.Deliver up call k)

-- `deliver up|down <call> <k>`
abbrev pub deliver_line : List (List ℕ) → Result Event Reason
deliver_line (way ∷ call ∷ k ∷ []) = deliver_of (direction way) (positive call) (positive k)
deliver_line _ = Err reason.Count

-- the arguments of `flow` are judged from left to right
abbrev pub flow_of : Option Bool → Option ℕ → Result Event Reason
flow_of None ticks = Err reason.Word
flow_of (Some up) None = Err reason.Number
flow_of (Some up) (Some ticks) = Ok (event.Flow up ticks)

-- `flow up|down <0..1000>`
abbrev pub flow_line : List (List ℕ) → Result Event Reason
flow_line (way ∷ ticks ∷ []) = flow_of (direction way) (delay ticks)
flow_line _ = Err reason.Count

-- The number of words of `fault` depends on the second one, so the second word is judged first.
abbrev pub fault_of : List ℕ → List (List ℕ) → Result Event Reason
fault_of second rest =
    if bytes_eq second (codes "vehicle") then lone_line event.FaultVehicle rest
    else if bytes_eq second (codes "point") then number_line event.FaultPoint rest
    else Err reason.Word

-- `fault vehicle`, `fault point <call>`
abbrev pub fault_line : List (List ℕ) → Result Event Reason
fault_line [] = Err reason.Count
fault_line (second ∷ rest) = fault_of second rest

-- So does that of `drop`.
abbrev pub drop_of : List ℕ → List (List ℕ) → Result Event Reason
drop_of second rest =
    if bytes_eq second (codes "vehicle") then lone_line event.DropVehicle rest
    else if bytes_eq second (codes "point") then number_line event.DropPoint rest
    else if bytes_eq second (codes "both") then number_line event.DropBoth rest
    else Err reason.Word

-- `drop vehicle`, `drop point <call>`, `drop both <call>`
abbrev pub drop_line : List (List ℕ) → Result Event Reason
drop_line [] = Err reason.Count
drop_line (second ∷ rest) = drop_of second rest

-- `reset vehicle|point`
abbrev pub reset_line : List (List ℕ) → Result Event Reason
reset_line (text ∷ []) = event_or reason.Word event.Reset (end_of text)
reset_line _ = Err reason.Count

-- an event of the channel, of either end or of time, by the first word of its line and the words behind it
abbrev pub channel_event : List ℕ → List (List ℕ) → Option (Result Event Reason)
channel_event first rest =
    if bytes_eq first (codes "deliver") then Some (deliver_line rest)
    else if bytes_eq first (codes "tick") then Some (number_line event.Tick rest)
    else if bytes_eq first (codes "flow") then Some (flow_line rest)
    else if bytes_eq first (codes "drop") then Some (drop_line rest)
    else if bytes_eq first (codes "fault") then Some (fault_line rest)
    else if bytes_eq first (codes "reset") then Some (reset_line rest)
    else None

-- an event at the vehicle
abbrev pub vehicle_event : List ℕ → List (List ℕ) → Option (Result Event Reason)
vehicle_event first rest =
    if bytes_eq first (codes "trigger") then Some (trigger_line rest)
    else if bytes_eq first (codes "cancel") then Some (lone_line event.Cancel rest)
    else if bytes_eq first (codes "net") then Some (net_line rest)
    else if bytes_eq first (codes "fail") then Some (lone_line event.Fail rest)
    else if bytes_eq first (codes "sleep") then Some (lone_line event.Sleep rest)
    else None

-- an event at the point
abbrev pub point_event : List ℕ → List (List ℕ) → Result Event Reason
point_event first rest =
    if bytes_eq first (codes "answer") then lone_line event.Answer rest
    else if bytes_eq first (codes "callback") then lone_line event.Callback rest
    else if bytes_eq first (codes "damaged") then number_line event.Damaged rest
    else if bytes_eq first (codes "request") then number_line event.Request rest
    else if bytes_eq first (codes "clear") then number_line event.Clear rest
    else if bytes_eq first (codes "hangup") then number_line event.Hangup rest
    else Err reason.Word

abbrev pub end_event : List ℕ → List (List ℕ) → Result Event Reason
end_event first rest = elim (vehicle_event first rest) [ Some says ↦ says | None ↦ point_event first rest ]

-- an event line by its first word and the words behind it
abbrev pub event_line : List ℕ → List (List ℕ) → Result Event Reason
event_line first rest = elim (channel_event first rest) [ Some says ↦ says | None ↦ end_event first rest ]
