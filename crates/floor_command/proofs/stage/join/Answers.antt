use Rattle.std.proofs.Common.{rules, sym, ◌∙◌}
use Rattle.floor_command.proofs.BuiltFloor.{joins_with, unwrapped}
use Rattle.floor_command.proofs.stage.join.Goals as goal

pub returns-in-Ok : goal.returns-in-Ok
returns-in-Ok c =
    record {
      joins = λ known k stands drafts at floor none.
          joins_with c.unwrap-number.result k stands c.in-Some.facts c.args.floor c.in-Ok.kept
          (unwrapped c.new.result c.number.result c.unwrap-number.result c.new.ensures.value c.unwrap-number.ensures
          ∙ c.number.ensures.number known k drafts at) (sym (c.facts.ensures known k drafts at) ∙ c.in-Some.is)
          (c.in-Ok.ensures.stands stands floor) c.in-Ok.ensures.calls c.in-Ok.ensures.reached none;
    }
