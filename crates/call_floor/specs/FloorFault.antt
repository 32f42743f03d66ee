-- Why a step of the floor fails: as a step of one vehicle's world does. This project's profile. Cited by the calls of
-- `Floor` that fail, and by the conversions into `FloorFault`.
use Rattle.std.specs.Prelude.{◌≡◌, ◌≤◌, ℕ, Result, OnOk, IfErr}
use Rattle.call_io.specs.Counts.{Rose}
use Rattle.trace_model.specs.declared.listener.Deaf.{Deaf}
use Rattle.trace_model.specs.declared.listener.Deaf.TheVariants as deaf
use Rattle.channel_sim.specs.declared.fault.SimFault.{SimFault}
use Rattle.channel_sim.specs.declared.fault.SimFault.TheVariants as sim
use Rattle.call_floor.specs.declared.fault.FloorFault.{FloorFault}
use Rattle.call_floor.specs.declared.fault.FloorFault.TheVariants as fault

-- what a fault of a vehicle's world is for the floor
abbrev pub fault_as : SimFault → FloorFault
fault_as sim.Write = fault.Write
fault_as sim.Memory = fault.Memory

-- what a listener's fault is for the floor
abbrev pub fault_of : Deaf → FloorFault
fault_of deaf.Write = fault.Write
fault_of deaf.Memory = fault.Memory

-- A failed write comes only where the count of faults rose, and want of memory only where it stood.
abbrev pub FloorFaultCause : FloorFault → (old new : ℕ) → Type 0
FloorFaultCause fault.Write old new = Rose old new
FloorFaultCause fault.Memory old new = new ≡ old

-- What the listener's count of faults says of an answer: where it is done the count stood, a failure has its cause, and
-- the count never falls.
pub record CountsFloorFaults {Done : Type 0} (result : Result Done FloorFault) (old new : ℕ) : Type 0 where
  pub stood : OnOk result (new ≡ old)
  pub cause : IfErr result (λ e. FloorFaultCause e old new)
  pub counted : old ≤ new
