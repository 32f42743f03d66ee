use Rattle.std.proofs.Common.{◌≡◌, ◌≤◌, ◌+◌, ◌++◌, map}
use Rattle.std.specs.List.{flat_map}
use Rattle.arrayvec.specs.ArrayVec.{array_vec_len}
use Rattle.call_io.specs.Ways.{Onward}
use Rattle.per_bits.specs.Parts.{members_of, present_members}
use Rattle.msd_values.specs.declared.page.TheConstants.{ADDITION, PAGE}
use Rattle.msd_values.specs.inner.Groups.{part_text}
use Rattle.msd_values.specs.inner.Waiting.{Passed}
use Rattle.msd_values.proofs.AdditionFacts.{octets_at}
use Rattle.msd_values.proofs.additions.write_present.Given as goal

abbrev pub invariant-loop-index : goal.invariant-loop-index
invariant-loop-index g l = record {
  can : (goal.iterator-loop-index g).can_next l.index-iterator;
  ends : (goal.iterator-loop-index g).is_finite l.index-iterator;
  split : map octets_at (l.yielded ++ l.index-iterator) ≡ present_members 0 (members_of l.additions.bits);
  passed : Passed (g.O.Sink.held l.initial.out) (g.O.Sink.held l.out) l.initial.page.items l.page.items (flat_map part_text l.yielded);
  room : array_vec_len l.page + ADDITION ≤ PAGE;
  stood : g.O.Sink.faults l.out ≡ g.O.Sink.faults l.initial.out;
  onward : Onward (g.O.Sink.way l.initial.out) (g.O.Sink.way l.out);
}
