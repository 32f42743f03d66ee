use Rattle.std.proofs.Common.{arith, ◌∙◌}
use Rattle.std.proofs.lemmas.List.{length-set}
use Rattle.msd_codec.proofs.Steps.{exit}
use Rattle.msd_codec.proofs.Identification.{loop_stops, loop_more, loop_done, loop_vin, character_passes, passes_more, vin_moves}
use Rattle.msd_codec.proofs.reading.structure.read_characters.Goals as goal

pub returns-in_err-character-clause-exact : goal.returns-in_err-character-clause-exact
returns-in_err-character-clause-exact c = exit _ _ _ _ _ c.from_residual.ensures.1 (loop_stops _ _ c.loop-i.characters c.loop-i.i _ c.loop-i-test.true c.loop-i.invariant.read c.in_err-character.ensures.exact)

pub loop-i-preserved : goal.loop-i-preserved
loop-i-preserved c =
    let long = c.loop-i.invariant.long in
    record {
      read = loop_more _ _ _ c.loop-i.characters c.loop-i.i _ c.loop-i-test.true long c.loop-i.invariant.read c.in_ok-character.ensures.exact;
      passes = passes_more _ _ _ (omega arith) c.loop-i.invariant.passes (character_passes _ _ _ c.in_ok-character.ensures.exact);
      long = length-set _ _ _ ∙ long;
    }

pub returns-clause-exact : goal.returns-clause-exact
returns-clause-exact c = loop_done _ _ _ c.loop-i.i (omega arith) (omega arith) c.loop-i.invariant.long c.loop-i.invariant.read

pub returns-clause-vin : goal.returns-clause-vin
returns-clause-vin c = loop_vin _ c.loop-i.i (omega arith) (omega arith) c.loop-i.invariant.long c.loop-i.invariant.passes

pub returns-clause-on : goal.returns-clause-on
returns-clause-on c = vin_moves _ _ _ (loop_done _ _ _ c.loop-i.i (omega arith) (omega arith) c.loop-i.invariant.long c.loop-i.invariant.read)
