-- The last line of a trace whose run a line of the script, or an octet of the other end, ended. This project's profile.
-- Cited by what closes a run.
use Rattle.std.specs.Prelude.{List, [], ◌∷◌, ◌++◌, codes, decimal, ℕ}
use Rattle.line_input.specs.Characters.{newline}
use Rattle.line_input.specs.ReasonCode.{reason_code}
use Rattle.line_input.specs.declared.reason.BadLine.{BadLine}
use Rattle.link_parts.specs.Rounds.{part_fault_code}
use Rattle.link_parts.specs.declared.fault.LinkFault.{LinkFault}
use Rattle.trace_text.specs.EntryLine.{spaced}
use Rattle.live_link.specs.declared.answer.LiveStatus.{LiveStatus}
use Rattle.live_link.specs.declared.answer.LiveStatus.TheVariants as status

abbrev pub refusal_line : BadLine → List ℕ
refusal_line bad = codes "refused" ++ spaced (decimal bad.line ∷ decimal (reason_code bad.reason) ∷ []) ++ newline ∷ []

-- how many octets stand before it, what is wrong with it, and the octet
abbrev pub link_line : LinkFault → List ℕ
link_line f =
    codes "refused link" ++ spaced (decimal f.place ∷ decimal (part_fault_code f.fault) ∷ decimal f.octet ∷ [])
    ++ newline ∷ []

-- a run that ended otherwise has none
abbrev pub last_line : LiveStatus → List ℕ
last_line (status.Refused bad) = refusal_line bad
last_line (status.LinkFault fault) = link_line fault
last_line _ = []
