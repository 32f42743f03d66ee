use Rattle.ecall.proofs.link.leave.Given as goal

-- octets that are left to the greatest number
abbrev pub decreases-loop-left : goal.decreases-loop-left
decreases-loop-left l = l.left
