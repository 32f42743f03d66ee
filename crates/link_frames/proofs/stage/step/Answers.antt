-- Each step is that of the function for its stage.
use Rattle.link_frames.proofs.stage.step.Goals as goal

pub returns-in-Nothing-clause-steps : goal.returns-in-Nothing-clause-steps
returns-in-Nothing-clause-steps c = λ set. rw c.in-Nothing.is (c.behind_nothing.ensures.steps set)

pub returns-in-Kind-clause-steps : goal.returns-in-Kind-clause-steps
returns-in-Kind-clause-steps c = λ set. rw c.in-Kind.is (c.behind_kind.ensures.steps set)

pub returns-in-App-clause-steps : goal.returns-in-App-clause-steps
returns-in-App-clause-steps c = λ set. rw c.in-App.is (c.behind_request.ensures.steps set)
