use Rattle.std.specs.Prelude.{◌≡◌, ℕ, ◌⊎◌, false, List, Option, Result, Ok, Err, OnOk}
use Rattle.std.specs.Result.{is_err}
use Rattle.std.proofs.Common.{ap, subst, ◌∙◌, inl, inr}
use Rattle.call_io.specs.Blocks.{held, pending}
use Rattle.command_base.specs.inner.ReadEnds.{FailsWith, by_line}
use Rattle.command_base.specs.declared.status.Status.TheVariants as status
use Rattle.line_input.specs.declared.fault.LineFault.TheVariants as fault
use Rattle.line_input.proofs.PartLemmas.{no_part_at_hand}
use Rattle.command_base.proofs.CommandTurns.{fails_reading}
use Rattle.command_base.proofs.reading.read_line.Goals as goal

pub returns-in-Err-clause-reads : goal.returns-in-Err-clause-reads
returns-in-Err-clause-reads g c =
    by_line c.in-Err.fault c.in-Err.ensures.reads
    (subst (λ (h : Option (List ℕ)). FailsWith c.in-Err.fault h (held g.O.Sink.held c.fail.new.output) c.fail.result)
    c.make_way.ensures.held c.fail.ensures.fails)

ok_then : {A E : Type 0} (r : Result A E) (P : Type 0) → false ≡ is_err r → OnOk r P → P
ok_then (Ok done) P fine ok = ok
ok_then (Err e) P fine ok = absurd (cc)

emptied : {P Q : Type 0} → P ⊎ Q → (P → ⊥) → Q
emptied (inl p) none = absurd (none p)
emptied (inr q) none = q

pub returns-in-Err-clause-handed : goal.returns-in-Err-clause-handed
returns-in-Err-clause-handed g c = λ is.
    let answer : c.fail.result ≡ status.ReadFault = cc is in
    let failed : c.in-Err.fault ≡ fault.ReadFault =
    fails_reading c.in-Err.fault (held g.O.Sink.held c.make_way.new.output) (held g.O.Sink.held c.fail.new.output)
    c.fail.result c.fail.ensures.fails answer in
    let kept : c.fail.new.output ≡ c.make_way.new.output = c.fail.ensures.still failed in
    ap pending kept ∙ emptied (ok_then c.make_way.result _ c.if-is_err.ensures.value c.make_way.ensures.way)
    (λ line. no_part_at_hand c.args.lines.now c.next.new.self _ line (rw failed at c.in-Err.ensures.reads).finds)
