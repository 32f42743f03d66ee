use Rattle.std.proofs.Common.{◌≡◌, ◌++◌, ◌-◌, ℕ, List, refl, ap, length, min, take, ◌≤◌, ◌∙◌, arith}
use Rattle.std.proofs.lemmas.Result.{IfOk-at_ok}
use Rattle.view_lines.specs.Fault.{most_kept}
use Rattle.view_lines.proofs.KeptLemmas.{filled}
use Rattle.view_lines.proofs.teller.Teller.go_on.Goals as goal

pub returns : goal.returns
returns g c =
    let old : List ℕ = c.args.self.now.kept.items in
    let run : List ℕ = c.args.run.now in
    let few : length old ≤ 513 = omega (arith, c.len-room.ensures.value, c.len-room.ensures.fits) in
    let count : c.min-count.result ≡ min (length run) (513 - length old) =
    c.min-count.ensures ∙ ap (λ (n : ℕ). min (length run) (513 - n)) c.len-room.ensures.value in
    let took : c.try_extend_from_slice.new.self.items ≡ old ++ take c.min-count.result run =
    IfOk-at_ok (λ _. c.try_extend_from_slice.new.self.items ≡ old ++ take c.min-count.result run) c.unwrap.ensures
    c.try_extend_from_slice.ensures.ok in record {
      text = refl;
      kept = took ∙ (ap (λ (n : ℕ). old ++ take n run) count ∙ filled most_kept old run few);
      ended = refl;
      refused = refl;
      lines = refl;
    }
