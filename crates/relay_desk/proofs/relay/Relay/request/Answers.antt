use Rattle.std.proofs.Common.{arith, refl, ◌≡◌, ◌++◌, ◌∷◌, [], ◌∙◌, ap, List, ℕ, length, map}
use Rattle.std.proofs.lemmas.List.{length_push}
use Rattle.std.proofs.lemmas.List.Elements.{recursion_from_All}
use Rattle.relay_desk.specs.declared.event.RelayNote.{RelayNote}
use Rattle.relay_desk.specs.declared.sets.DeskSet.{DeskSet}
use Rattle.relay_desk.specs.Desk.{sent_forth}
use Rattle.relay_desk.specs.Requests.{message_of, message_at, pending_from}
use Rattle.relay_desk.proofs.RequestLemmas.{forth_push, request_push, same_desk}
use Rattle.relay_desk.proofs.relay.Relay.request.Goals as goal

pub returns-clause-ok : goal.returns-clause-ok
returns-clause-ok c =
    let self = c.args.self.now in
    let ss = self.sets.items in
    let place : c.len-place.result ≡ length ss = omega (arith, c.len-place.ensures, self.sets.ok.0) in
    let sets = c.put.ensures ∙ ap (λ (xs : List DeskSet). xs ++ c.args.set ∷ []) c.make_room.ensures.items in
    let forth = c.put-2.ensures ∙ (ap (λ (xs : List ℕ). xs ++ c.len-place.result ∷ []) c.make_room-2.ensures.items
    ∙ ap (λ p. self.forth.items ++ p ∷ []) place) in (
      c.in_ok-notes.ensures
          ∙ ap (λ (n : RelayNote). n ∷ []) (c.sent.ensures ∙ ap (λ p. sent_forth (message_of p c.args.set)) place),
      same_desk _ _ refl (ap length sets ∙ length_push ss c.args.set)
          (ap (λ xs. map (message_at xs) c.put-2.new.list.items) sets
          ∙ (ap (map (message_at (ss ++ c.args.set ∷ []))) forth
          ∙ forth_push ss c.args.set self.forth.items (recursion_from_All _ _ (λ k d h. let f = self.forth_known k d h in omega (arith, self.sets.ok.0)))))
          refl
          (ap (λ xs. pending_from 0 xs c.push.new.self) sets
          ∙ (ap (pending_from 0 (ss ++ c.args.set ∷ [])) c.in_ok-push.ensures.ok ∙ request_push ss self.pending c.args.set (omega arith)))
          refl,
    )
