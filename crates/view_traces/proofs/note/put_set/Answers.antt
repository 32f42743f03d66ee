use Rattle.std.proofs.Common.{◌≡◌, ◌++◌, ◌∷◌, [], ℕ, OnOk, codes, rules, subst}
use Rattle.std.specs.List.{concat}
use Rattle.view_lines.proofs.PiecesLemmas.{three}
use Rattle.view_traces.specs.Object.{call_fields, number_field, octets_field, set_fields}
use Rattle.view_traces.proofs.note.put_set.Goals as goal

pub returns : goal.returns
unfolding set_fields
returns c =
    let same : c.from.result ≡ c.args.request = search rules in
    subst
    (λ (n : ℕ). OnOk c.put_octets.result (c.put_octets.new.text.items
    ≡ c.args.text.now.items ++ concat (call_fields c.args.word.now c.args.call
    ∷ number_field (codes ",\"request\":") n ∷ octets_field c.args.octets.now ∷ [])))
    same
    (three c.put_octets.result c.args.text.now.items _ _ _ _ _ _ c.in_ok-put_call.ensures
    c.in_ok-put_number.ensures c.put_octets.ensures)
