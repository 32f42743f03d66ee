use Rattle.std.proofs.Common.{rules, ◌<◌, IfSome, length, sym, subst, ◌≡◌, ◌∙◌, arith}
use Rattle.std.proofs.lemmas.List.Sorted.{answers_always}
use Rattle.std.specs.List.Sorted.{IsSearchInRange}
use Rattle.channel_sim.specs.declared.calls.call.Call.{Call}
use Rattle.channel_sim.proofs.PlaceLemmas.{found_place, searched_place, searched_within}
use Rattle.channel_sim.proofs.calls.search.Goals as goal

pub returns-then-index-number-clause-place : goal.returns-then-index-number-clause-place
returns-then-index-number-clause-place c =
    let calls = c.args.calls.now in
    let place = c.likely_place-place.result in
    let long = calls.ok.0 in
    let inside : place < length calls.items = omega (arith, long, c.len.ensures, c.if-place-len.true) in
    λ above. sym (found_place 0 c.args.number calls.items place c.index.result.now above inside (subst (λ k. k.number ≡ c.args.number) c.index.ensures c.if-index-number.true))

pub returns-clause-place : goal.returns-clause-place
returns-clause-place c =
    λ above.
    let calls = c.args.calls.now in
    let facts = c.binary_search_by_key.ensures in
    let by_key = facts.position (λ (x : Call). x.number) (answers_always _ _ _ (λ f a r g called. search rules)) in
    let bound = subst (IsSearchInRange c.binary_search_by_key.result) calls.ok.0 facts.bound in
    c.ok.ensures.value ∙ searched_place c.args.number calls.items c.binary_search_by_key.result above bound by_key

pub returns-clause-within : goal.returns-clause-within
returns-clause-within c =
    let calls = c.args.calls.now in
    let bound = subst (IsSearchInRange c.binary_search_by_key.result) calls.ok.0 c.binary_search_by_key.ensures.bound in
    subst (λ o. IfSome o (λ i. i < length calls.items)) (sym c.ok.ensures.value) (searched_within (length calls.items) c.binary_search_by_key.result bound)
