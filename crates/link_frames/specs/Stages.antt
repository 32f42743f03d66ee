-- How far the frame of a reader has come, as the octets that it keeps, its frame and its fault. This project's profile.
-- Cited by the model of `Reader`.
use Rattle.std.specs.Prelude.{ℕ, List, [], ◌∷◌, take, Option, Some, None}
use Rattle.link_frames.specs.declared.fault.Fault.{Fault}
use Rattle.link_frames.specs.declared.fault.Fault.TheVariants as faults
use Rattle.link_frames.specs.declared.fault.FrameFault.{FrameFault}
use Rattle.link_frames.specs.declared.frame.Frame.{Frame}
use Rattle.link_frames.specs.declared.frame.Frame.TheVariants as frame
use Rattle.link_frames.specs.declared.stage.Head.{Head}
use Rattle.link_frames.specs.declared.stage.Head.TheVariants as heads
use Rattle.link_frames.specs.declared.stage.Kind.{Kind}
use Rattle.link_frames.specs.declared.stage.Kind.TheVariants as kinds
use Rattle.link_frames.specs.declared.stage.Stage.{Stage}
use Rattle.link_frames.specs.declared.stage.Stage.TheVariants as stages
use Rattle.link_frames.specs.declared.stage.Stop.{Stop}
use Rattle.link_frames.specs.declared.stage.Stop.TheVariants as stops

abbrev pub kind_octet : Kind → ℕ
kind_octet kinds.Start = 2
kind_octet kinds.Content = 3
kind_octet kinds.Nack = 4
kind_octet kinds.Ack = 5
kind_octet kinds.App = 6

-- the octets in front of one with which no frame goes on
abbrev pub before : Stop → List ℕ
before (stops.Kind octet) = []
before (stops.Number kind) = kind_octet kind ∷ []
before (stops.Answer request octet) = 6 ∷ request ∷ []

abbrev pub octet_of : Stop → ℕ
octet_of (stops.Kind octet) = octet
octet_of (stops.Number kind) = 0
octet_of (stops.Answer request octet) = octet

abbrev pub fault_of : Stop → Fault
fault_of (stops.Kind octet) = faults.Kind
fault_of (stops.Number kind) = faults.Number
fault_of (stops.Answer request octet) = faults.Answer

-- the frame with this head, and these octets where it has a set
abbrev pub frame_of : List ℕ → Head → Frame
frame_of octets heads.Init = frame.Init
frame_of octets (heads.Start request) = frame.Start request
frame_of octets (heads.Content request attempt) = frame.Content request attempt octets
frame_of octets (heads.Nack request) = frame.Nack request
frame_of octets (heads.Ack request) = frame.Ack request
frame_of octets (heads.App request answer) = frame.App request answer

-- the octets of an unfinished frame
abbrev pub kept : List ℕ → Stage → List ℕ
kept octets stages.Nothing = []
kept octets (stages.Kind kind) = kind_octet kind ∷ []
kept octets (stages.Content request) = 3 ∷ request ∷ []
kept octets (stages.App request) = 6 ∷ request ∷ []
kept octets (stages.Set request attempt filled) = 3 ∷ request ∷ attempt ∷ take filled octets
kept octets (stages.Whole head) = []
kept octets (stages.Stopped stop) = before stop

abbrev pub whole_frame : List ℕ → Stage → Option Frame
whole_frame octets (stages.Whole head) = Some (frame_of octets head)
whole_frame octets _ = None

abbrev pub fault_at : ℕ → Stage → Option FrameFault
fault_at place (stages.Stopped stop) = Some (record { place = place; octet = octet_of stop; fault = fault_of stop })
fault_at place _ = None

-- its request, or 1 where none has come
abbrev pub request_of_head : Head → ℕ
request_of_head heads.Init = 1
request_of_head (heads.Start request) = request
request_of_head (heads.Content request attempt) = request
request_of_head (heads.Nack request) = request
request_of_head (heads.Ack request) = request
request_of_head (heads.App request answer) = request

abbrev pub request_of_stop : Stop → ℕ
request_of_stop (stops.Answer request octet) = request
request_of_stop _ = 1

abbrev pub request_of : Stage → ℕ
request_of (stages.Content request) = request
request_of (stages.App request) = request
request_of (stages.Set request attempt filled) = request
request_of (stages.Whole head) = request_of_head head
request_of (stages.Stopped stop) = request_of_stop stop
request_of _ = 1

-- how many octets of a set have come
abbrev pub filled_of : Stage → ℕ
filled_of (stages.Set request attempt filled) = filled
filled_of _ = 0
