use Rattle.std.proofs.Common.{◌≡◌, ◌++◌, ◌∷◌, [], ℕ, OnOk, codes, rules, subst}
use Rattle.std.specs.List.{concat}
use Rattle.view_lines.proofs.PiecesLemmas.{three}
use Rattle.view_traces.specs.Object.{data_fields, number_field, octets_field, request_fields}
use Rattle.view_traces.proofs.frame.put_data.Goals as goal

pub returns : goal.returns
unfolding data_fields
returns c =
    let same : c.from.result ≡ c.args.attempt = search rules in
    subst
    (λ (n : ℕ). OnOk c.put_octets.result (c.put_octets.new.text.items
    ≡ c.args.text.now.items ++ concat (request_fields (codes "data") c.args.request
    ∷ number_field (codes ",\"attempt\":") n ∷ octets_field c.args.octets.now ∷ [])))
    same
    (three c.put_octets.result c.args.text.now.items _ _ _ _ _ _ c.in_ok-put_request.ensures
    c.in_ok-put_number.ensures c.put_octets.ensures)
