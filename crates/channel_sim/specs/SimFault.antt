-- Why a step of the world fails: the listener's own fault, or want of memory, and what the listener's count of faults
-- says of it. This project's profile. Cited by `World::step`, by the parts of elapsed time that a `World` gives away,
-- by what they call, and by the conversions into `SimFault`.
use Rattle.std.specs.Prelude.{◌≡◌, ◌≤◌, ℕ, Result, OnOk, IfErr}
use Rattle.call_io.specs.Counts.{Rose}
use Rattle.trace_model.specs.declared.listener.Deaf.{Deaf}
use Rattle.trace_model.specs.declared.listener.Deaf.TheVariants as deaf
use Rattle.channel_sim.specs.declared.fault.SimFault.{SimFault}
use Rattle.channel_sim.specs.declared.fault.SimFault.TheVariants as fault

-- what a listener's fault is for the world
abbrev pub fault_of : Deaf → SimFault
fault_of deaf.Write = fault.Write
fault_of deaf.Memory = fault.Memory

-- A failed write comes only where the count of faults rose, and want of memory only where it stood.
abbrev pub SimFaultCause : SimFault → (old new : ℕ) → Type 0
SimFaultCause fault.Write old new = Rose old new
SimFaultCause fault.Memory old new = new ≡ old

-- What the listener's count of faults says of an answer: where it is done the count stood, a failure has its cause, and
-- the count never falls.
pub record CountsFaults {Done : Type 0} (result : Result Done SimFault) (old new : ℕ) : Type 0 where
  pub stood : OnOk result (new ≡ old)
  pub cause : IfErr result (λ e. SimFaultCause e old new)
  pub counted : old ≤ new
