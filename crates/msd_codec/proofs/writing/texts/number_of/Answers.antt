use Rattle.std.proofs.Common.{◌≡◌, ◌<◌, ◌^◌, ◌*◌, arith, ap, sym, subst, ◌∙◌, refl, take, length}
use Rattle.std.specs.List.{flat_map}
use Rattle.std.proofs.lemmas.List.{take_all}
use Rattle.per_bits.specs.Bits.{value_of}
use Rattle.msd_codec.specs.Canonical.{character_bits}
use Rattle.msd_codec.proofs.TextNumbers.{number_small, number_next, number_below}
use Rattle.msd_codec.proofs.writing.texts.number_of.Goals as goal

pub overflow_mul-number : goal.overflow_mul-number
overflow_mul-number c = omega (arith, number_small c.args.piece.now c.loop-character.character-index c.loop-character.number c.loop-character-test.true c.requires.few c.loop-character.invariant)

pub overflow_add-number : goal.overflow_add-number
overflow_add-number c = omega (arith, c.from.ensures, c.index_of.ensures.below, number_small c.args.piece.now c.loop-character.character-index c.loop-character.number c.loop-character-test.true c.requires.few c.loop-character.invariant)

pub loop-character-preserved : goal.loop-character-preserved
loop-character-preserved c =
    number_next c.args.piece.now c.loop-character.character-index _ c.loop-character.number c.from.result c.loop-character-test.true refl c.loop-character.invariant (c.from.ensures ∙ c.index_of.ensures.value) (omega (arith, c.from.ensures, c.index_of.ensures.below))

pub returns-clause-below : goal.returns-clause-below
returns-clause-below c =
    let all : take c.loop-character.character-index c.args.piece.now ≡ c.args.piece.now = take_all c.loop-character.character-index c.args.piece.now c.loop-character-test.false in
    let is : c.loop-character.number ≡ value_of (flat_map character_bits c.args.piece.now) = c.loop-character.invariant ∙ ap (λ l. value_of (flat_map character_bits l)) all in
    subst (λ n. n < 2 ^ (6 * length c.args.piece.now)) (sym is) (number_below c.args.piece.now)
