-- No line of the point's own is a fact line.
use Rattle.std.specs.Prelude.{◌≡◌, ℕ, Bool, true, false, cond, List, [], ◌∷◌, codes, Result, Ok, Err}
use Rattle.std.specs.Str.{bytes_eq}
use Rattle.std.proofs.Common.{refl, sym, subst}
use Rattle.std.proofs.lemmas.Slice.Eq.{bytes_eq-Decides}
use Rattle.line_input.specs.declared.reason.Reason.{Reason}
use Rattle.line_input.specs.declared.reason.Reason.TheVariants as reason
use Rattle.link_frames.specs.declared.frame.End.TheVariants as «end»
use Rattle.trace_model.specs.declared.event.Event.{Event}
use Rattle.trace_text.specs.EventLines.{event_line}
use Rattle.trace_text.specs.Script.{event_says, line_by_word}
use Rattle.trace_text.specs.declared.script.ScriptLine.{ScriptLine}
use Rattle.trace_text.specs.declared.script.ScriptLine.TheVariants as line
use Rattle.live_link.specs.Scripts.{is_own, line_by_words}

abbrev pub IsNoFact : Result ScriptLine Reason → Type 0
IsNoFact (Ok (line.Fact f)) = ⊥
IsNoFact _ = Unit {0}

event_no_fact : (r : Result Event Reason) → IsNoFact (event_says r)
event_no_fact (Ok e) = tt
event_no_fact (Err why) = tt

either_no_fact : (b : Bool) (r : Result ScriptLine Reason) → IsNoFact r → IsNoFact (cond b r (Err reason.Word))
either_no_fact true r h = h
either_no_fact false r h = tt

module _ (first : List ℕ) (rest : List (List ℕ)) where
  abbrev Goal : Type 0
  Goal = IsNoFact (line_by_words «end».Point (first ∷ rest))

  at_word : (w : List ℕ) → IsNoFact (line_by_word w rest) → (b : Bool) → bytes_eq first w ≡ b
      → (bytes_eq first w ≡ false → Goal) → Goal
  at_word w known true same other =
      either_no_fact (is_own «end».Point first rest) (line_by_word first rest)
      (subst (λ (z : List ℕ). IsNoFact (line_by_word z rest)) (sym ((bytes_eq-Decides first w).0 same)) known)
  at_word w known false differs other = other differs

  no_word : bytes_eq first (codes "fault") ≡ false → bytes_eq first (codes "drop") ≡ false
      → bytes_eq first (codes "reset") ≡ false → bytes_eq first (codes "callback") ≡ false
      → bytes_eq first (codes "request") ≡ false → bytes_eq first (codes "clear") ≡ false
      → bytes_eq first (codes "hangup") ≡ false → bytes_eq first (codes "damaged") ≡ false
      → bytes_eq first (codes "tick") ≡ false → is_own «end».Point first rest ≡ false
  no_word a b c d e f g h i = rw (a, b, c, d, e, f, g, h, i) refl

  none : is_own «end».Point first rest ≡ false → Goal
  none h = subst (λ (b : Bool). IsNoFact (cond b (line_by_word first rest) (Err reason.Word))) (sym h) tt

  by_words : Goal
  by_words =
      at_word (codes "fault") (event_no_fact (event_line (codes "fault") rest)) (bytes_eq first (codes "fault")) refl (λ a.
      at_word (codes "drop") (event_no_fact (event_line (codes "drop") rest)) (bytes_eq first (codes "drop")) refl (λ b.
      at_word (codes "reset") (event_no_fact (event_line (codes "reset") rest)) (bytes_eq first (codes "reset")) refl (λ c.
      at_word (codes "callback") (event_no_fact (event_line (codes "callback") rest)) (bytes_eq first (codes "callback")) refl (λ d.
      at_word (codes "request") (event_no_fact (event_line (codes "request") rest)) (bytes_eq first (codes "request")) refl (λ e.
      at_word (codes "clear") (event_no_fact (event_line (codes "clear") rest)) (bytes_eq first (codes "clear")) refl (λ f.
      at_word (codes "hangup") (event_no_fact (event_line (codes "hangup") rest)) (bytes_eq first (codes "hangup")) refl (λ g.
      at_word (codes "damaged") (event_no_fact (event_line (codes "damaged") rest)) (bytes_eq first (codes "damaged")) refl (λ h.
      at_word (codes "tick") (event_no_fact (event_line (codes "tick") rest)) (bytes_eq first (codes "tick")) refl (λ i.
      none (no_word a b c d e f g h i))))))))))

pub no_fact : (words : List (List ℕ)) → IsNoFact (line_by_words «end».Point words)
no_fact [] = tt
no_fact (first ∷ rest) = by_words first rest
