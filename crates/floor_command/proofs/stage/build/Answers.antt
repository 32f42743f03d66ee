use Rattle.std.proofs.Common.{◌≡◌, arith, length, ◌<◌, ◌∙◌, sym, ap, subst, Result, Err}
use Rattle.std.proofs.lemmas.Result.{err_from_is_err_and}
use Rattle.call_floor.specs.declared.floor.Floor.{Floor}
use Rattle.floor_command.specs.declared.stage.Halt.{Halt}
use Rattle.floor_command.specs.inner.FloorStage.{Builds}
use Rattle.floor_command.proofs.BuiltFloor.{at_place, built_all, built_lacks_halt, built_more, built_none, new_at}
use Rattle.floor_command.proofs.stage.build.Goals as goal

pub loop-place-init : goal.loop-place-init
loop-place-init c = λ known stands distinct.
    built_none known c.new-floor.result distinct c.new-floor.ensures.stands c.new-floor.ensures.calls
    c.new-floor.ensures.reached

pub returns-in_err-floor : goal.returns-in_err-floor
returns-in_err-floor c = λ known stands distinct.
    let less : c.loop-place.place < length known = omega (arith, c.loop-place-test.true, c.len-place-end.ensures known stands) in
    let k = at_place known c.loop-place.place less in
    let b = c.loop-place.invariant known stands distinct in
    let failed = err_from_is_err_and c.from_residual.result c.from_residual.ensures.1 in
    let lacks : Builds known (Err c.in_err-floor.field-0.0) =
    built_lacks_halt known c.loop-place.place k.0 c.loop-place.floor c.in_err-floor.field-0.0 b k.1
    (c.in_err-floor.ensures.joins known k.0 b.stands stands k.1 b.floor_stands
    (new_at known c.loop-place.place k.0 c.loop-place.floor b k.1)) in
    let is : c.from_residual.result ≡ Err c.in_err-floor.field-0.0 = failed.1 ∙ ap Err failed.2 in
    subst (λ (r : Result Floor Halt). Builds known r) (sym is) lacks

pub loop-place-preserved : goal.loop-place-preserved
loop-place-preserved c = λ known stands distinct.
    let less : c.loop-place.place < length known = omega (arith, c.loop-place-test.true, c.len-place-end.ensures known stands) in
    let k = at_place known c.loop-place.place less in
    let b = c.loop-place.invariant known stands distinct in
    built_more known c.loop-place.place k.0 c.loop-place.floor c.in_ok-floor.floor b k.1
    (c.in_ok-floor.ensures.joins known k.0 b.stands stands k.1 b.floor_stands
    (new_at known c.loop-place.place k.0 c.loop-place.floor b k.1))
