-- What a line says with a relay desk and what it says to `run`, which doesn't see the orders to the desk: the same, where
-- it is none of these.
use Rattle.std.specs.Prelude.{◌≡◌, ℕ, Bool, true, false, List, Option, Some, None, Result, Ok, Err, if◌then◌else◌}
use Rattle.std.proofs.Common.{refl, sym, ap, ◌∙◌, subst}
use Rattle.msd_fit.specs.declared.facts.Facts.{Facts}
use Rattle.line_input.specs.Lines.{line_fault, is_comment}
use Rattle.line_input.specs.Words.{words}
use Rattle.line_input.specs.declared.reason.Reason.{Reason}
use Rattle.line_input.specs.declared.reason.Reason.TheVariants as reason
use Rattle.trace_model.specs.declared.event.Event.{Event}
use Rattle.trace_text.specs.Facts.{facts_in, is_one_too_many}
use Rattle.trace_text.specs.Script.{Said, judged, placed, placed_event, placed_line, script_line}
use Rattle.trace_text.specs.declared.fact_line.FactLine.{FactLine}
use Rattle.trace_text.specs.declared.script.ScriptLine.{ScriptLine}
use Rattle.trace_text.specs.declared.script.ScriptLine.TheVariants as script
use Rattle.relay_text.specs.RelayLines.{judged_relay, order_line, order_says, placed_order, placed_relay, placed_relay_line, placed_script, relay_line, script_says}
use Rattle.relay_text.specs.declared.line.RelayLine.{RelayLine}
use Rattle.relay_text.specs.declared.line.RelayLine.TheVariants as line
use Rattle.relay_text.specs.declared.line.RelayOrder.{RelayOrder}

-- what was said, by the facts and whether an event line came
abbrev pub said_as : List FactLine → Bool → Said
said_as facts eventful = record { facts = facts; eventful = eventful }

-- what a line says to each, by its parts
abbrev relay_by : Option (Result RelayOrder Reason) → Result ScriptLine Reason → Result RelayLine Reason
relay_by o r = elim o [ Some given ↦ order_says given | None ↦ script_says r ]

abbrev judged_by : Said → Option Reason → Bool → Result RelayLine Reason → Result (Option RelayLine) Reason
judged_by said o c r = elim o [ Some why ↦ Err why | None ↦ if c then Ok None else placed_relay_line said r ]

abbrev run_by : Said → Option Reason → Bool → Result ScriptLine Reason → Result (Option ScriptLine) Reason
run_by said o c q = elim o [ Some why ↦ Err why | None ↦ if c then Ok None else placed_line said q ]

-- a line that is no order says to both the same
own_line : (text : List ℕ) (says : ScriptLine) → relay_line text ≡ Ok (line.Script says) → script_line text ≡ Ok says
own_line text says h = by_order (order_line (words text)) (script_line text) h
  where
    by_order : (o : Option (Result RelayOrder Reason)) (r : Result ScriptLine Reason)
        → relay_by o r ≡ Ok (line.Script says) → r ≡ Ok says
    by_order (Some (Ok order)) r h = absurd (cc)
    by_order (Some (Err why)) r h = absurd (cc)
    by_order None (Ok given) h = cc
    by_order None (Err why) h = absurd (cc)

-- a fact line is placed where no event line came
fact_again : (facts : List FactLine) (a b : Bool) (f : FactLine) (says : ScriptLine) → (a ≡ false → b ≡ false)
    → placed_script (placed (said_as facts a) (script.Fact f)) ≡ Ok (Some (line.Script says))
    → placed (said_as facts b) (script.Fact f) ≡ Ok (Some says)
fact_again facts true b f says fewer h = absurd (cc)
fact_again facts false true f says fewer h = let e : true ≡ false = fewer refl in absurd (cc)
fact_again facts false false f says fewer h = by_many (is_one_too_many facts f) h
  where
    by_many : (many : Bool)
        → placed_script (if many then Err reason.Many else Ok (Some (script.Fact f))) ≡ Ok (Some (line.Script says))
        → (if many then Err reason.Many else Ok (Some (script.Fact f))) ≡ Ok (Some says)
    by_many true h = absurd (cc)
    by_many false h = cc

placed_again : (facts : List FactLine) (a b : Bool) (s says : ScriptLine) → (a ≡ false → b ≡ false)
    → placed_script (placed (said_as facts a) s) ≡ Ok (Some (line.Script says))
    → placed (said_as facts b) s ≡ Ok (Some says)
placed_again facts a b (script.Fact f) says fewer h = fact_again facts a b f says fewer h
placed_again facts a b (script.Event e) says fewer h = by_facts (facts_in facts) h
  where
    by_facts : (o : Option Facts) → placed_script (placed_event o e) ≡ Ok (Some (line.Script says))
        → placed_event o e ≡ Ok (Some says)
    by_facts None h = absurd (cc)
    by_facts (Some known) h = cc

no_order : (o : Option Facts) (order : RelayOrder) (says : ScriptLine)
    → placed_order o order ≡ Ok (Some (line.Script says)) → ⊥
no_order None order says h = absurd (cc)
no_order (Some known) order says h = absurd (cc)

-- a line of the script says to `run` what it says with the desk
pub judged_again : (facts : List FactLine) (a b : Bool) (text : List ℕ) (says : ScriptLine) → (a ≡ false → b ≡ false)
    → judged_relay (said_as facts a) text ≡ Ok (Some (line.Script says))
    → judged (said_as facts b) text ≡ Ok (Some says)
judged_again facts a b text says fewer h =
    by_fault (line_fault text) (is_comment text) (relay_line text) (script_line text) (own_line text) h
  where
    by_fault : (o : Option Reason) (c : Bool) (r : Result RelayLine Reason) (q : Result ScriptLine Reason)
        → ((s : ScriptLine) → r ≡ Ok (line.Script s) → q ≡ Ok s)
        → judged_by (said_as facts a) o c r
        ≡ Ok (Some (line.Script says))
        → run_by (said_as facts b) o c q ≡ Ok (Some says)
    by_fault (Some why) c r q own h = absurd (cc)
    by_fault None true r q own h = absurd (cc)
    by_fault None false (Err why) q own h = absurd (cc)
    by_fault None false (Ok (line.Order order)) q own h = absurd (no_order (facts_in facts) order says h)
    by_fault None false (Ok (line.Script s)) q own h =
        ap (placed_line (said_as facts b)) (own s refl) ∙ placed_again facts a b s says fewer h

-- no line that is placed says nothing
fact_says_something : (many : Bool) (f : FactLine)
    → placed_script (if many then Err reason.Many else Ok (Some (script.Fact f))) ≡ Ok None → ⊥
fact_says_something true f h = absurd (cc)
fact_says_something false f h = absurd (cc)

says_something : (facts : List FactLine) (a : Bool) (s : ScriptLine)
    → placed_script (placed (said_as facts a) s) ≡ Ok None → ⊥
says_something facts true (script.Fact f) h = absurd (cc)
says_something facts false (script.Fact f) h = fact_says_something (is_one_too_many facts f) f h
says_something facts a (script.Event e) h = by_facts (facts_in facts) h
  where
    by_facts : (o : Option Facts) → placed_script (placed_event o e) ≡ Ok None → ⊥
    by_facts None h = absurd (cc)
    by_facts (Some known) h = absurd (cc)

order_says_something : (o : Option Facts) (order : RelayOrder) → placed_order o order ≡ Ok None → ⊥
order_says_something None order h = absurd (cc)
order_says_something (Some known) order h = absurd (cc)

-- a line that is passed over with the desk is passed over by `run`
pub passed_again : (facts : List FactLine) (a b : Bool) (text : List ℕ)
    → judged_relay (said_as facts a) text ≡ Ok None → judged (said_as facts b) text ≡ Ok None
passed_again facts a b text h =
    by_fault (line_fault text) (is_comment text) (relay_line text) (script_line text) h
  where
    by_fault : (o : Option Reason) (c : Bool) (r : Result RelayLine Reason) (q : Result ScriptLine Reason)
        → judged_by (said_as facts a) o c r ≡ Ok None
        → run_by (said_as facts b) o c q ≡ Ok None
    by_fault (Some why) c r q h = absurd (cc)
    by_fault None true r q h = refl
    by_fault None false (Err why) q h = absurd (cc)
    by_fault None false (Ok (line.Order order)) q h = absurd (order_says_something (facts_in facts) order h)
    by_fault None false (Ok (line.Script s)) q h = absurd (says_something facts a s h)

-- What a line needs: an event line and an order facts, and a fact line that no event line came before it.

abbrev pub NeedsFacts : List FactLine → Bool → RelayLine → Type 0
NeedsFacts facts a (line.Script (script.Fact f)) = a ≡ false
NeedsFacts facts a (line.Script (script.Event e)) = (known : Facts) × (facts_in facts ≡ Some known)
NeedsFacts facts a (line.Order order) = (known : Facts) × (facts_in facts ≡ Some known)

-- This is what the line says, and the facts are known.
record IsKnown (given wanted : RelayLine) (o : Option Facts) : Type 0 where
  pub says : given ≡ wanted
  pub known : Facts
  pub is : o ≡ Some known

event_needs : (o : Option Facts) (e : Event) (says : RelayLine) → placed_script (placed_event o e) ≡ Ok (Some says)
    → IsKnown says (line.Script (script.Event e)) o
event_needs None e says h = absurd (cc)
event_needs (Some known) e says h = record { says = cc; known = known; is = refl }

order_needs : (o : Option Facts) (order : RelayOrder) (says : RelayLine) → placed_order o order ≡ Ok (Some says)
    → IsKnown says (line.Order order) o
order_needs None order says h = absurd (cc)
order_needs (Some known) order says h = record { says = cc; known = known; is = refl }

fact_is : (many : Bool) (f : FactLine) (says : RelayLine)
    → placed_script (if many then Err reason.Many else Ok (Some (script.Fact f))) ≡ Ok (Some says)
    → says ≡ line.Script (script.Fact f)
fact_is true f says h = absurd (cc)
fact_is false f says h = cc

line_needs : (facts : List FactLine) (a : Bool) (s says : RelayLine) → placed_relay (said_as facts a) s ≡ Ok (Some says)
    → NeedsFacts facts a says
line_needs facts true (line.Script (script.Fact f)) says h = absurd (cc)
line_needs facts false (line.Script (script.Fact f)) says h =
    subst (NeedsFacts facts false) (sym (fact_is (is_one_too_many facts f) f says h)) refl
line_needs facts a (line.Script (script.Event e)) says h =
    let given : IsKnown says (line.Script (script.Event e)) (facts_in facts) = event_needs (facts_in facts) e says h in subst (NeedsFacts facts a) (sym given.says) (given.known, given.is)
line_needs facts a (line.Order order) says h =
    let given : IsKnown says (line.Order order) (facts_in facts) = order_needs (facts_in facts) order says h in subst (NeedsFacts facts a) (sym given.says) (given.known, given.is)

pub judged_needs : (facts : List FactLine) (a : Bool) (text : List ℕ) (says : RelayLine)
    → judged_relay (said_as facts a) text ≡ Ok (Some says) → NeedsFacts facts a says
judged_needs facts a text says h = by_fault (line_fault text) (is_comment text) (relay_line text) h
  where
    by_fault : (o : Option Reason) (c : Bool) (r : Result RelayLine Reason)
        → judged_by (said_as facts a) o c r
        ≡ Ok (Some says)
        → NeedsFacts facts a says
    by_fault (Some why) c r h = absurd (cc)
    by_fault None true r h = absurd (cc)
    by_fault None false (Err why) h = absurd (cc)
    by_fault None false (Ok s) h = line_needs facts a s says h
