use Rattle.floor_command.proofs.stage.play.Goals as goal

pub returns-in-Ok-clause-played : goal.returns-in-Ok-clause-played
returns-in-Ok-clause-played g c = λ w stands.
    let came = c.in-Ok.ensures.step w stands in (
      came.0,
      came.1,
      c.in-Ok.ensures.calls w stands,
      c.in-Ok.ensures.reached w stands,
      c.in-Ok.ensures.passes w stands,
    )

pub returns-in-Err-clause-played : goal.returns-in-Err-clause-played
returns-in-Err-clause-played g c = λ w stands. (c.in-Err.ensures.step w stands, c.in-Err.ensures.passes w stands)
