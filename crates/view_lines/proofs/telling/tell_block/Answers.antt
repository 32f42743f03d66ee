use Rattle.view_lines.proofs.telling.tell_block.Goals as goal

pub returns-in-Ok-tell_piece-clause-told : goal.returns-in-Ok-tell_piece-clause-told
returns-in-Ok-tell_piece-clause-told g c = λ left held front reads few s.
    let told = c.in-Ok-tell_piece.ensures.told left _ _ held front reads few s c.in-Ok.ensures.bytes in (_, told.0, told.1)

pub returns-in-Err-tell_piece-clause-told : goal.returns-in-Err-tell_piece-clause-told
returns-in-Err-tell_piece-clause-told g c = λ left held front reads few s.
    c.in-Err-tell_piece.ensures.told left _ _ held front reads few s c.in-Ok.ensures.bytes
