use Rattle.std.proofs.lemmas.Result.{err_from_is_err_and}
use Rattle.std.proofs.Common.{◌<◌, arith}
use Rattle.per_types.proofs.Elementwise.{character_short, character_unknown, character_ok}
use Rattle.std.proofs.Common.{Ok, Err}
use Rattle.per_types.proofs.Decided.{gives_reads, only_character}
use Rattle.per_types.specs.Spelling.{CharacterElements}
use Rattle.per_types.specs.Reading.{character_at}
use Rattle.per_types.proofs.readers.numbers.read_char.Goals as goal

pub returns-in_err-n-clause-exact : goal.returns-in_err-n-clause-exact
returns-in_err-n-clause-exact c =
    let p = err_from_is_err_and c.from_residual.result c.from_residual.ensures.1 in
    rw (p.1, p.2) (character_short c.args.c.now _ c.in_err-n.ensures.short)

pub returns-then-n-gt32-clause-exact : goal.returns-then-n-gt32-clause-exact
returns-then-n-gt32-clause-exact c = rw c.refusal.ensures (character_unknown c.args.c.now c.in_ok-n.n (record { enough = c.in_ok-n.ensures.ok.0; reads = c.in_ok-n.ensures.ok.1 }) c.if-n-gt32.true)

pub returns-clause-exact : goal.returns-clause-exact
returns-clause-exact c =
    let low : c.in_ok-n.n < 33 = omega arith in
    rw c.skip.ensures (character_ok c.args.c.now c.in_ok-n.n (record { enough = c.in_ok-n.ensures.ok.0; reads = c.in_ok-n.ensures.ok.1 }) low)

pub returns-in_err-n-clause-reads : goal.returns-in_err-n-clause-reads
returns-in_err-n-clause-reads c =
    gives_reads CharacterElements character_at only_character (λ v. v) c.args.c.now c.from_residual.result _ (returns-in_err-n-clause-exact c)

pub returns-then-n-gt32-clause-reads : goal.returns-then-n-gt32-clause-reads
returns-then-n-gt32-clause-reads c =
    gives_reads CharacterElements character_at only_character (λ v. v) c.args.c.now (Err _) _ (returns-then-n-gt32-clause-exact c)

pub returns-clause-reads : goal.returns-clause-reads
returns-clause-reads c =
    gives_reads CharacterElements character_at only_character (λ v. v) c.args.c.now (Ok _) _ (returns-clause-exact c)
