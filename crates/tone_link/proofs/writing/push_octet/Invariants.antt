use Rattle.std.proofs.Common.{◌≡◌, ◌++◌, ◌-◌, ◌/◌, ◌^◌}
use Rattle.per_bits.specs.Bits.{digits}
use Rattle.tone_link.specs.Tones.{samples_of}
use Rattle.tone_link.proofs.writing.push_octet.Given as goal

-- the samples of the first bits stand behind those that were there
abbrev pub invariant-loop-place : goal.invariant-loop-place
invariant-loop-place l = l.samples.items ≡ l.initial.samples.items ++ samples_of (digits l.place (l.octet / 2 ^ (8 - l.place)))
