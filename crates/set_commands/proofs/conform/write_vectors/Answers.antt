use Rattle.std.proofs.Common.{rules, refl, inl, inr}
use Rattle.hex.proofs.OnLiterals.{hex_on_literals}
use Rattle.set_commands.specs.Conform.{vector_texts}
use Rattle.set_commands.specs.inner.ConformLines.{lines_from}
use Rattle.set_commands.proofs.Conformed.{is_conformed}
use Rattle.set_commands.proofs.conform.write_vectors.Goals as goal

-- each vector is hexadecimal
pub write_lines-requires-clause-hex : goal.write_lines-requires-clause-hex
unfolding hex_on_literals
write_lines-requires-clause-hex g c = search rules

pub returns-in-Ok-clause-ends : goal.returns-in-Ok-clause-ends
unfolding vector_texts
returns-in-Ok-clause-ends g c = (lines_from 1 vector_texts, is_conformed, inl (refl, c.in-Ok.ensures.whole))

pub returns-in-Err-clause-ends : goal.returns-in-Err-clause-ends
unfolding vector_texts
returns-in-Err-clause-ends g c = (lines_from 1 vector_texts, is_conformed, inr (refl, c.in-Err.ensures.partly))
