use Rattle.std.proofs.Common.{refl, ap, sym, ◌∙◌, Some}
use Rattle.trace_text.proofs.FactLemmas.{vin_text-yes, vin_text-no}
use Rattle.trace_text.proofs.facts.read_vin_text.Goals as goal

pub returns-in-Ok : goal.returns-in-Ok
returns-in-Ok c = ap Some c.in-Ok.ensures.same ∙ sym (vin_text-yes c.args.text.now (c.in-Ok.ensures.vin.0 refl))

pub returns-in-Err : goal.returns-in-Err
returns-in-Err c = sym (vin_text-no c.args.text.now (λ vin. let never : ⊥ = cc (c.in-Err.ensures.vin.1 vin) in absurd never))
