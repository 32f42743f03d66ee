use Rattle.std.proofs.Common.{◌<◌, ◌∷◌, sym, ap, subst, ◌∙◌, arith}
use Rattle.std.specs.Prelude.{IfSome}
use Rattle.std.specs.Option.{option_copied}
use Rattle.line_input.specs.Characters.{newline}
use Rattle.line_help.specs.Lines.{IsKept}
use Rattle.line_help.specs.Parts.{parts_behind}
use Rattle.line_help.proofs.LinesLemmas.{behind_one, next_one}
use Rattle.line_help.proofs.seen.Seen.before.Goals as goal
use Rattle.line_help.proofs.seen.Seen.before.Goals.{then-says_something+then-is_whole, else-says_something}

pub loop-rest-preserved : goal.loop-rest-preserved
loop-rest-preserved c = (
  omega (arith, c.loop-rest.invariant.0),
  behind_one _ _ _ _ _ _ (c.split_part.ensures ∙ ap (λ o. c.split_part.result.0.now ∷ parts_behind newline (option_copied o)) c.in-Some.is) c.loop-rest.invariant.0 c.loop-rest.invariant.1,
  elim c.if-says_something.branch [
    | then-says_something+then-is_whole w ↦
        subst (λ found. IfSome found (λ line. (line.number < c.args.number) × IsKept c.args.self.now.ended c.args.self.now.text.now line.number line.text.now))
        (sym w.found-is) (
          omega (arith, c.loop-rest-test.true, c.saturating_sub.ensures),
          record {
            behind = omega (arith, c.loop-rest.invariant.0);
            there = next_one _ _ _ _ _ _ c.split_part.ensures c.loop-rest.invariant.0 c.loop-rest.invariant.1;
          },
        )
    | else-says_something w ↦
        subst (λ found. IfSome found (λ line. (line.number < c.args.number) × IsKept c.args.self.now.ended c.args.self.now.text.now line.number line.text.now))
        (sym w.found-is) c.loop-rest.invariant.2
  ],
)

pub returns-in-None : goal.returns-in-None
returns-in-None c = elim c.if-says_something.branch [
  | then-says_something+then-is_whole w ↦
      subst (λ found. IfSome found (λ line. (line.number < c.args.number) × IsKept c.args.self.now.ended c.args.self.now.text.now line.number line.text.now))
      (sym w.found-is) (
        omega (arith, c.loop-rest-test.true, c.saturating_sub.ensures),
        record {
          behind = omega (arith, c.loop-rest.invariant.0);
          there = next_one _ _ _ _ _ _ c.split_part.ensures c.loop-rest.invariant.0 c.loop-rest.invariant.1;
        },
      )
  | else-says_something w ↦
      subst (λ found. IfSome found (λ line. (line.number < c.args.number) × IsKept c.args.self.now.ended c.args.self.now.text.now line.number line.text.now))
      (sym w.found-is) c.loop-rest.invariant.2
]
