use Rattle.std.proofs.Common.{◌≡◌, ◌*◌, ◌≤◌, Ok, length, ap, ◌∙◌, arith}
use Rattle.std.proofs.lemmas.List.{length-set}
use Rattle.per_bits.specs.Bits.{behind}
use Rattle.msd_codec.proofs.Identification.{loop_more, loop_done, loop_vin, character_passes, passes_more}
use Rattle.msd_codec.proofs.KnownTexts.{long_enough, first_short, last_short, character_there, never_short, never_unknown}
use Rattle.msd_codec.proofs.reading.texts.known_characters.Goals as goal

pub nth_index-index-requires-clause-enough : goal.nth_index-index-requires-clause-enough
nth_index-index-requires-clause-enough c =
    long_enough c.args.c.now c.fork-front.result c.number.new.self c.fork-front.ensures.value c.in-Ok.ensures.ok.2 c.in-Ok.ensures.ok.0 c.in-Ok-number.ensures.ok.0

pub loop-i-preserved : goal.loop-i-preserved
loop-i-preserved c =
    let enough : 102 ≤ length c.args.c.now.bits =
    long_enough c.args.c.now c.fork-front.result c.number.new.self c.fork-front.ensures.value c.in-Ok.ensures.ok.2 c.in-Ok.ensures.ok.0 c.in-Ok-number.ensures.ok.0 in
    let there = character_there c.args.c.now c.loop-i.i c.from.result (omega (arith, enough)) (c.from.ensures ∙ c.nth_index-index.ensures) (omega arith) in
    let long = c.loop-i.invariant.long in
    record {
      read = loop_more _ _ _ c.loop-i.characters c.loop-i.i _ c.loop-i-test.true long c.loop-i.invariant.read there;
      passes = passes_more _ _ _ (omega arith) c.loop-i.invariant.passes (character_passes _ _ _ there);
      long = length-set _ _ _ ∙ long;
    }

pub returns-clause-exact : goal.returns-clause-exact
returns-clause-exact c =
    let all : 6 * c.loop-i.i ≡ 102 = omega arith in
    loop_done _ _ _ c.loop-i.i (omega arith) (omega arith) c.loop-i.invariant.long c.loop-i.invariant.read
    ∙ ap (λ n. Ok (c.loop-i.characters, behind c.args.c.now n)) all

pub returns-clause-enough : goal.returns-clause-enough
returns-clause-enough c =
    long_enough c.args.c.now c.fork-front.result c.number.new.self c.fork-front.ensures.value c.in-Ok.ensures.ok.2 c.in-Ok.ensures.ok.0 c.in-Ok-number.ensures.ok.0

pub returns-clause-vin : goal.returns-clause-vin
returns-clause-vin c = loop_vin _ c.loop-i.i (omega arith) (omega arith) c.loop-i.invariant.long c.loop-i.invariant.passes

pub returns-in_default-clause-none : goal.returns-in_default-clause-none
returns-in_default-clause-none c = never_short c.args.c.now (first_short c.args.c.now c.fork-front.result c.fork-front.ensures.value c.in_default.ensures.short.0)

pub returns-in_default-number-clause-none : goal.returns-in_default-number-clause-none
returns-in_default-number-clause-none c =
    never_short c.args.c.now (last_short c.args.c.now c.fork-front.result c.number.new.self c.fork-front.ensures.value c.in-Ok.ensures.ok.2 c.in_default-number.ensures.short.0)

pub returns-then-index-gt32-clause-none : goal.returns-then-index-gt32-clause-none
returns-then-index-gt32-clause-none c =
    let enough : 102 ≤ length c.args.c.now.bits =
    long_enough c.args.c.now c.fork-front.result c.number.new.self c.fork-front.ensures.value c.in-Ok.ensures.ok.2 c.in-Ok.ensures.ok.0 c.in-Ok-number.ensures.ok.0 in
    never_unknown c.args.c.now c.loop-i.characters c.loop-i.i c.nth_index-index.result c.loop-i-test.true (omega (arith, enough)) c.nth_index-index.ensures (omega arith) c.loop-i.invariant.read
