use Rattle.std.proofs.Common.{◌≡◌, ◌++◌, map}
use Rattle.std.specs.List.{flat_map}
use Rattle.per_bits.specs.Parts.{members_of, present_members}
use Rattle.set_objects.specs.Object.{addition_field}
use Rattle.set_objects.proofs.PieceLemmas.{octets_at}
use Rattle.set_objects.proofs.additions.put_present.Given as goal

abbrev pub invariant-loop-index : goal.invariant-loop-index
invariant-loop-index l = record {
  can : goal.iterator-loop-index.can_next l.index-iterator;
  ends : goal.iterator-loop-index.is_finite l.index-iterator;
  split : map octets_at (l.yielded ++ l.index-iterator) ≡ present_members 0 (members_of l.additions.bits);
  text : l.text.items ≡ l.initial.text.items ++ flat_map addition_field (map octets_at l.yielded);
}
