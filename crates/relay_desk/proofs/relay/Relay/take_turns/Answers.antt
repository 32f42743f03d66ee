use Rattle.std.proofs.Common.{arith, refl, ◌<◌, ◌++◌, ◌∙◌, ap, sym, subst, List, ℕ, length, map, get_or, zero-add}
use Rattle.std.specs.List.{All}
use Rattle.std.proofs.lemmas.List.{length-map, map-append}
use Rattle.std.proofs.lemmas.List.Elements.{All-append, All-from_recursion}
use Rattle.relay_desk.specs.Desk.{Row}
use Rattle.relay_desk.specs.Requests.{message_at, no_set, pending_from}
use Rattle.relay_desk.specs.RelayStands.{desk_of}
use Rattle.relay_desk.specs.inner.Queue.{passed}
use Rattle.relay_desk.specs.inner.Sets.{turn_places}
use Rattle.relay_desk.proofs.RequestLemmas.{places_known, same_desk, turn_items_are, turn_messages_are, turn_pending_are}
use Rattle.relay_desk.proofs.UnitLemmas.{room_pending, units_turns}
use Rattle.relay_desk.proofs.relay.Relay.take_turns.Goals as goal

pub invariant_of-self : goal.invariant_of-self
invariant_of-self c =
    let self = c.args.self.now in
    let ss = self.sets.items in
    let Known : List ℕ → Type 0 = All (λ place. place < length ss) in
    let again = c.deref.ensures.value ∙ c.in-Ok.ensures.again in
    let known : Known (turn_places c.args.n 0 ss self.pending) =
    All-from_recursion (λ place. place < length ss) _ (places_known c.args.n 0 (length ss) ss self.pending (omega arith)) in
    let old : Known self.forth.items = λ k d h. let f = self.forth_known k d h in omega (arith, self.sets.ok.0) in
    let all : Known c.extend_from_slice.new.self.items =
    subst Known (sym (c.in-Ok-extend_from_slice.ensures.items ∙ ap (λ (xs : List ℕ). self.forth.items ++ xs) again))
    (All-append (λ place. place < length ss) _ _ old known) in
    record {
      few = self.few;
      alike = ap length c.pass.ensures ∙ (length-map self.pending (passed c.args.n) ∙ self.alike);
      forth_known = λ k d h. let f = all k d h in omega (arith, self.sets.ok.0);
      back_known = self.back_known;
    }

pub returns-in-Ok-extend_from_slice-clause-ok : goal.returns-in-Ok-extend_from_slice-clause-ok
returns-in-Ok-extend_from_slice-clause-ok c =
    let self = c.args.self.now in
    let ss = self.sets.items in
    let ts = self.pending in
    let n = c.args.n in
    let d = desk_of self in
    let again = c.deref.ensures.value ∙ c.in-Ok.ensures.again in
    let forth = c.in-Ok-extend_from_slice.ensures.items ∙ ap (λ (xs : List ℕ). self.forth.items ++ xs) again in
    let row = units_turns n d c.requires.some (room_pending n 0 ss ts c.requires.room) in (
      c.in-Ok.ensures.notes ∙ (turn_items_are n 0 ss ts ∙ sym (ap (λ (r : Row). r.items) row)),
      same_desk _ _ refl refl
          (ap (map (message_at ss)) forth
          ∙ (map-append (message_at ss) self.forth.items (turn_places n 0 ss ts)
          ∙ ap (λ ms. map (message_at ss) self.forth.items ++ ms) (turn_messages_are n 0 ss ss ts (λ k h. ap (λ i. get_or ss i no_set) (zero-add k)))))
          refl (ap (pending_from 0 ss) c.pass.ensures ∙ turn_pending_are n 0 ss ts) refl
          ∙ sym (ap (λ (r : Row). r.desk) row),
    )
