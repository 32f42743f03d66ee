use Rattle.std.proofs.Common.{◌≡◌, true, false, sym, ◌∙◌, IsTrue, arith}
use Rattle.psap_machine.proofs.Content.{fresh_row, unasked_row, is_asked, is_not_asked, over_kept}
use Rattle.psap_machine.specs.PointRows.{was_asked, was_shown}
use Rattle.psap_machine.specs.Point.{Point, Over, requests_of}
use Rattle.psap_machine.specs.SessionStands.{SessionStandsFor}
use Rattle.psap_machine.proofs.session.Session.content.Goals as goal

pub returns-then-number-self : goal.returns-then-number-self
returns-then-number-self c = λ attempt.
    let up : (s : Point) → SessionStandsFor c.args.self.now s → s.phase ≡ Over → ⊥ = λ s h e.
    let over : IsTrue c.is_over.result = c.is_over.ensures.1 (over_kept c.args.self.now.phase (sym h.is.phase ∙ e)) in
    cc in
    let is_shown : (s : Point) → SessionStandsFor c.args.self.now s → was_shown c.args.request s ≡ false = λ s h.
    sym (c.has.ensures (requests_of s.shown) h.is.shown) ∙ (cc) in
    let asked : (s : Point) → SessionStandsFor c.args.self.now s → was_asked c.args.request s ≡ true = λ s h.
    is_asked c.args.request s h.kept.asked (omega arith) (omega (arith, h.is.asked)) in
    let row : (s : Point) → SessionStandsFor c.args.self.now s → _ = λ s h.
    fresh_row c.args.request attempt c.args.octets.now s (up s h) (asked s h) (is_shown s h) in
    record {
      gives = λ s h. rw (row s h) (c.shows.ensures.gives s h);
      stands = λ s h. rw (row s h) (c.shows.ensures.stands s h);
    }

pub returns-else-number-self : goal.returns-else-number-self
returns-else-number-self c = λ attempt.
    let up : (s : Point) → SessionStandsFor c.args.self.now s → s.phase ≡ Over → ⊥ = λ s h e.
    let over : IsTrue c.is_over.result = c.is_over.ensures.1 (over_kept c.args.self.now.phase (sym h.is.phase ∙ e)) in
    cc in
    let is_shown : (s : Point) → SessionStandsFor c.args.self.now s → was_shown c.args.request s ≡ false = λ s h.
    sym (c.has.ensures (requests_of s.shown) h.is.shown) ∙ (cc) in
    let asked : (s : Point) → SessionStandsFor c.args.self.now s → was_asked c.args.request s ≡ false = λ s h.
    is_not_asked c.args.request s h.kept.asked (omega (arith, h.is.asked)) in
    let row : (s : Point) → SessionStandsFor c.args.self.now s → _ = λ s h.
    unasked_row c.args.request attempt c.args.octets.now s (up s h) (asked s h) (is_shown s h) in
    record { gives = λ s h. rw (row s h) (cc); stands = λ s h. rw (row s h) h.is }
