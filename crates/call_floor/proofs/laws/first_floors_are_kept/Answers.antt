use Rattle.std.proofs.Common.{sym, ne_eqb}
use Rattle.call_floor.specs.Floor.{first_stand}
use Rattle.call_floor.proofs.FloorRuns.{none_kept, joins_kept, joins_only, joins_others, joined_other}
use Rattle.call_floor.proofs.laws.first_floors_are_kept.Goals as goal

pub returns : goal.returns
returns c =
    record {
      none = none_kept;
      joined = joins_kept;
      first = joins_only;
      others = λ v a known ss apart. joins_others v known ss a (ne_eqb v a (λ e. apart (sym e)));
      stands = λ v a known ss apart. joined_other (first_stand v known) a (ne_eqb v a (λ e. apart (sym e))) ss;
    }
