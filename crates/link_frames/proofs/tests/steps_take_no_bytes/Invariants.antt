use Rattle.link_frames.proofs.tests.steps_take_no_bytes.Given as goal

abbrev pub ghosts-takes_two_steps : goal.ghosts-takes_two_steps
ghosts-takes_two_steps g a = record { name = a.blank.name; parts = a.blank.parts }
