use Rattle.std.proofs.Common.{refl, arith}
use Rattle.per_types.specs.Kinds.{width_of, width_from}
use Rattle.msd_codec.specs.Module.{vehicle_type}
use Rattle.msd_codec.proofs.Steps.{exit}
use Rattle.msd_codec.proofs.VehicleTypes.{enum_err, enum_moves, root_below, added_below, root_tree, added_tree}
use Rattle.msd_codec.proofs.reading.elements.read_vehicle_type.Goals as goal

pub read_enum-requires-clause-width : goal.read_enum-requires-clause-width
unfolding width_of width_from
read_enum-requires-clause-width c = refl

pub returns-in_err-index-clause-exact : goal.returns-in_err-index-clause-exact
unfolding vehicle_type
returns-in_err-index-clause-exact c = exit _ _ _ _ _ c.from_residual.ensures.1 (enum_err _ _ c.in_err-index.ensures.exact)

pub overflow_add-index : goal.overflow_add-index
overflow_add-index c = omega (arith, root_below _ _ _ _ c.in_ok-index.ensures.exact c.in-Root.is)

pub unwrap-requires : goal.unwrap-requires
unwrap-requires c = let below = root_below _ _ _ _ c.in_ok-index.ensures.exact c.in-Root.is in c.new.ensures.some.1 (omega arith, omega arith)

pub unwrap-requires-in-Added : goal.unwrap-requires-in-Added
unwrap-requires-in-Added c = c.new-in-Added.ensures.some.1 (added_below _ _ _ _ c.in_ok-index.ensures.exact c.in-Added.is)

pub returns-in-Root-clause-exact : goal.returns-in-Root-clause-exact
unfolding vehicle_type
returns-in-Root-clause-exact c = root_tree _ _ _ _ _ c.in_ok-index.ensures.exact c.in-Root.is (rw c.unwrap.ensures at c.new.ensures.value)

pub returns-in-Root-clause-on : goal.returns-in-Root-clause-on
returns-in-Root-clause-on c = enum_moves _ _ _ c.in_ok-index.ensures.exact

pub returns-in-Added-clause-exact : goal.returns-in-Added-clause-exact
unfolding vehicle_type
returns-in-Added-clause-exact c = added_tree _ _ _ _ _ c.in_ok-index.ensures.exact c.in-Added.is (rw c.unwrap-in-Added.ensures at c.new-in-Added.ensures.value)

pub returns-in-Added-clause-on : goal.returns-in-Added-clause-on
returns-in-Added-clause-on c = enum_moves _ _ _ c.in_ok-index.ensures.exact
