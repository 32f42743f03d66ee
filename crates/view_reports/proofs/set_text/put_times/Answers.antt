use Rattle.std.proofs.Common.{◌≡◌, ◌++◌, ◌∷◌, [], ℕ, OnOk, Option, codes, subst}
use Rattle.std.specs.List.{concat}
use Rattle.view_lines.proofs.PiecesLemmas.{four}
use Rattle.view_reports.specs.EndTexts.{times_part}
use Rattle.view_reports.specs.Fields.{number_field}
use Rattle.view_reports.proofs.set_text.put_times.Goals as goal

pub returns : goal.returns
unfolding times_part
returns c =
    subst
    (λ (n : Option ℕ). OnOk c.put_number-4.result (c.put_number-4.new.text.items
    ≡ c.args.text.now.items ++ concat (number_field (codes ": sent ") (codes "-") c.args.times.now.sent
    ∷ number_field (codes ", shown ") (codes "-") c.args.times.now.shown
    ∷ number_field (codes ", acknowledged ") (codes "-") c.args.times.now.acked
    ∷ number_field (codes ", ticks ") (codes "-") n ∷ [])))
    c.ticks.ensures
    (four c.put_number-4.result c.args.text.now.items _ _ _ _ _ _ _ _ c.in_ok-put_number.ensures
    c.in_ok-put_number-2.ensures c.in_ok-put_number-3.ensures c.put_number-4.ensures)
