-- Why a step of an end of a live link fails: the listener's own fault, or want of memory, and what the listener's count
-- of faults says of it. This project's profile. Cited by the contracts of both ends and by the conversions into
-- `EndFault`.
use Rattle.std.specs.Prelude.{◌≡◌, ℕ}
use Rattle.call_io.specs.Counts.{Rose}
use Rattle.trace_model.specs.declared.listener.Deaf.{Deaf}
use Rattle.trace_model.specs.declared.listener.Deaf.TheVariants as deaf
use Rattle.live_link.specs.declared.fault.EndFault.{EndFault}
use Rattle.live_link.specs.declared.fault.EndFault.TheVariants as fault

-- what a listener's fault is for an end
abbrev pub fault_of : Deaf → EndFault
fault_of deaf.Write = fault.Write
fault_of deaf.Memory = fault.Memory

-- A failed write comes only where the count of faults rose, and want of memory only where it stood.
abbrev pub EndFaultCause : EndFault → (old new : ℕ) → Type 0
EndFaultCause fault.Write old new = Rose old new
EndFaultCause fault.Memory old new = new ≡ old
