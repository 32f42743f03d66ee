use Rattle.std.proofs.Common.{sym}
use Rattle.call_register.proofs.RowLemmas.{heard-other}
use Rattle.call_register.proofs.register.Register.take_in.Goals as goal

pub returns-in_default : goal.returns-in_default
returns-in_default c =
    let others = heard-other c.args.item.now c.args.tick c.args.self.now in
    record {
      ok = sym (others c.in_default.not-Up c.in_default.not-Down c.in_default.not-Shown);
      err = tt;
    }
