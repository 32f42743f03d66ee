-- The entries of the world in a trace with a relay desk are those of `run` for the lines without the orders to the desk.
use Rattle.std.specs.Prelude.{◌≡◌, ℕ, ◌+◌, Bool, true, false, List, [], ◌∷◌, ◌++◌, Option, Some, None, Result, Ok, Err}
use Rattle.std.specs.Option.{option_map}
use Rattle.std.proofs.Common.{refl, sym, ap, ◌∙◌, subst}
use Rattle.msd_fit.specs.declared.facts.Facts.{Facts}
use Rattle.line_input.specs.Lines.{lines_of}
use Rattle.line_input.specs.declared.reason.Reason.{Reason}
use Rattle.trace_model.specs.declared.event.Event.{Event}
use Rattle.trace_text.specs.Facts.{facts_in}
use Rattle.trace_text.specs.Script.{Said, Script, in_front, script_from}
use Rattle.trace_text.specs.declared.fact_line.FactLine.{FactLine}
use Rattle.trace_text.specs.declared.script.ScriptLine.TheVariants as script
use Rattle.channel_sim.specs.Lines as lines
use Rattle.channel_sim.specs.World.{World, first_world}
use Rattle.script_stage.specs.ScriptTrace.{played, script_trace}
use Rattle.script_stage.specs.inner.ScriptLaws.{script_from-comment, script_from-line, script_from-none}
use Rattle.relay_desk.specs.Desk.{happens}
use Rattle.relay_text.specs.ItemLine.{RelayEntry}
use Rattle.relay_text.specs.RelayLines.{judged_relay, said_behind}
use Rattle.relay_text.specs.declared.line.RelayLine.{RelayLine}
use Rattle.relay_text.specs.declared.line.RelayLine.TheVariants as line
use Rattle.relay_text.specs.declared.line.RelayOrder.{RelayOrder}
use Rattle.relay_watch.specs.Hears.{order_event}
use Rattle.relay_command.specs.OfRun.{of_world, script_without_orders, unless_order, without_orders}
use Rattle.relay_command.specs.Relay.{in_scene, relay_trace, scene_at, trace_from}
use Rattle.relay_command.specs.Scenes.{Scene, SceneStep, event_step, first_scene, order_step}
use Rattle.relay_command.specs.inner.Seen.{trace-none, trace-passed, trace-refused, trace-said}
use Rattle.relay_command.proofs.SameLines.{judged_again, judged_needs, passed_again, said_as}
use Rattle.relay_command.proofs.TellLines.{event_world}
use Rattle.relay_command.proofs.WorldEntries.{desk_entries, event_entries, of_world-append}

-- Lines one by one.

without-none : (said : Said) → without_orders said [] ≡ []
unfolding without_orders
without-none said = refl

module _ (said : Said) (text : List ℕ) (texts : List (List ℕ)) where
  without-passed : judged_relay said text ≡ Ok None → without_orders said (text ∷ texts) ≡ text ∷ without_orders said texts
  unfolding without_orders
  without-passed h = rw (without_orders, h) refl

  without-refused : (why : Reason) → judged_relay said text ≡ Err why → without_orders said (text ∷ texts) ≡ []
  unfolding without_orders
  without-refused why h = rw (without_orders, h) refl

  without-said : (says : RelayLine) → judged_relay said text ≡ Ok (Some says)
      → without_orders said (text ∷ texts) ≡ unless_order says text (without_orders (said_behind said says) texts)
  unfolding without_orders
  without-said says h = rw (without_orders, h) refl

-- What a script plays from a world on is these entries, and none of its lines is refused.
record IsPlayedFrom (known : Facts) (w : World) (s : Script) (items : List RelayEntry) : Type 0 where
  pub facts : s.facts ≡ Some known
  pub entries : of_world items ≡ lines.trace_from w s.events
  pub accepted : s.refused ≡ None

played_as : (known : Facts) (w : World) (s t : Script) (items more : List RelayEntry) → s ≡ t → items ≡ more
    → IsPlayedFrom known w t more → IsPlayedFrom known w s items
played_as known w s t items more same alike h =
    subst (λ (x : Script). IsPlayedFrom known w x items) (sym same)
    (subst (λ (is : List RelayEntry). IsPlayedFrom known w t is) (sym alike) h)

-- an event in front
event_played : (known : Facts) (s : Scene) (e : Event) (rest : Script) (items : List RelayEntry)
    → IsPlayedFrom known (event_step s e).scene.world rest items
    → IsPlayedFrom known s.world (in_front (script.Event e) rest) ((event_step s e).items ++ items)
event_played known s e rest items h =
    record {
      facts = h.facts;
      entries =
          of_world-append (event_step s e).items items
          ∙ ap (λ l. l ++ of_world items) (event_entries s e)
          ∙ ap (λ l. (lines.step s.world e).entries ++ l) h.entries
          ∙ ap (λ u. (lines.step s.world e).entries ++ lines.trace_from u rest.events) (event_world s e);
      accepted = h.accepted;
    }

-- an order in front
order_played : (known : Facts) (s : Scene) (o : RelayOrder) (rest : Script) (items : List RelayEntry)
    → IsPlayedFrom known s.world rest items → IsPlayedFrom known s.world rest ((order_step s o).items ++ items)
order_played known s o rest items h =
    record {
      facts = h.facts;
      entries =
          of_world-append (order_step s o).items items
          ∙ ap (λ l. l ++ of_world items) (desk_entries s.world.tick (happens s.desk (order_event o)).items)
          ∙ h.entries;
      accepted = h.accepted;
    }

-- Behind the first event line or order.

-- what was said, with and without an event line or an order
abbrev late : List FactLine → Said
late facts = said_as facts true

abbrev early : List FactLine → Said
early facts = said_as facts false

scene_as_run : (facts : List FactLine) (b : Bool) (known : Facts) (s : Scene) (number : ℕ) (texts : List (List ℕ))
    → facts_in facts ≡ Some known
    → IsPlayedFrom known s.world (script_from (said_as facts b) number (without_orders (late facts) texts))
    (trace_from (late facts) (Some s) texts)
scene_as_run facts b known s number [] h =
    played_as known s.world _ (record { facts = facts_in facts; events = []; refused = None }) _ []
    (ap (script_from (said_as facts b) number) (without-none (late facts))
    ∙ script_from-none (said_as facts b) number) (trace-none (late facts) (Some s))
    (record { facts = h; entries = refl; accepted = refl })
scene_as_run facts b known s number (text ∷ texts) h =
    by_line (judged_relay (late facts) text) refl (λ a t n. scene_as_run facts a known t n texts h)
  where
    by_line : (o : Result (Option RelayLine) Reason) → judged_relay (late facts) text ≡ o
        → ((a : Bool) (t : Scene) (n : ℕ)
        → IsPlayedFrom known t.world (script_from (said_as facts a) n (without_orders (late facts) texts))
        (trace_from (late facts) (Some t) texts))
        → IsPlayedFrom known s.world (script_from (said_as facts b) number (without_orders (late facts) (text ∷ texts)))
        (trace_from (late facts) (Some s) (text ∷ texts))
    by_line (Err why) is rest =
        played_as known s.world _ (record { facts = facts_in facts; events = []; refused = None }) _ []
        (ap (script_from (said_as facts b) number) (without-refused (late facts) text texts why is)
        ∙ script_from-none (said_as facts b) number)
        (trace-refused (late facts) (Some s) text texts why is) (record { facts = h; entries = refl; accepted = refl })
    by_line (Ok None) is rest =
        played_as known s.world _ (script_from (said_as facts b) (number + 1) (without_orders (late facts) texts)) _
        (trace_from (late facts) (Some s) texts)
        (ap (script_from (said_as facts b) number) (without-passed (late facts) text texts is)
        ∙ script_from-comment (said_as facts b) text number (without_orders (late facts) texts)
        (passed_again facts true b text is))
        (trace-passed (late facts) (Some s) text texts is) (rest b s (number + 1))
    by_line (Ok (Some (line.Script (script.Fact f)))) is rest =
        let never : true ≡ false = judged_needs facts true text (line.Script (script.Fact f)) is in absurd (cc)
    by_line (Ok (Some (line.Script (script.Event e)))) is rest =
        let more : Script = script_from (late facts) (number + 1) (without_orders (late facts) texts) in
        let items : List RelayEntry = trace_from (late facts) (Some (event_step s e).scene) texts in
        played_as known s.world _ (in_front (script.Event e) more) _ ((event_step s e).items ++ items)
        (ap (script_from (said_as facts b) number)
        (without-said (late facts) text texts (line.Script (script.Event e)) is)
        ∙ script_from-line (said_as facts b) text number (without_orders (late facts) texts) (script.Event e)
        (judged_again facts true b text (script.Event e) (λ never. absurd (cc)) is))
        (trace-said (late facts) (Some s) text texts (line.Script (script.Event e)) is)
        (event_played known s e more items (rest true (event_step s e).scene (number + 1)))
    by_line (Ok (Some (line.Order o))) is rest =
        let more : Script = script_from (said_as facts b) number (without_orders (late facts) texts) in
        let items : List RelayEntry = trace_from (late facts) (Some (order_step s o).scene) texts in
        played_as known s.world _ more _ ((order_step s o).items ++ items)
        (ap (script_from (said_as facts b) number) (without-said (late facts) text texts (line.Order o) is))
        (trace-said (late facts) (Some s) text texts (line.Order o) is)
        (order_played known s o more items (rest b (order_step s o).scene number))

-- In front of it.

-- A script plays these entries, and none of its lines is refused.
record IsPlayed (s : Script) (items : List RelayEntry) : Type 0 where
  pub entries : of_world items ≡ script_trace s
  pub accepted : s.refused ≡ None

alike_played : (s t : Script) (items more : List RelayEntry) → s ≡ t → items ≡ more → IsPlayed t more → IsPlayed s items
alike_played s t items more same alike h =
    subst (λ (x : Script). IsPlayed x items) (sym same)
    (subst (λ (is : List RelayEntry). IsPlayed t is) (sym alike) h)

played_none : (o : Option Facts) → [] ≡ played o []
played_none None = refl
played_none (Some known) = refl

nothing_played : (facts : List FactLine)
    → IsPlayed (record { facts = facts_in facts; events = []; refused = None }) []
nothing_played facts = record { entries = played_none (facts_in facts); accepted = refl }

from_first : (known : Facts) (s : Script) (items : List RelayEntry) → IsPlayedFrom known (first_world known) s items
    → IsPlayed s items
from_first known s items h =
    record { entries = h.entries ∙ ap (λ o. played o s.events) (sym h.facts); accepted = h.accepted }

-- the first scene of a line, where the facts are known
first_step : (facts : List FactLine) (known : Facts) (f : Scene → SceneStep) → facts_in facts ≡ Some known
    → in_scene (scene_at (early facts) None) f
    ≡ record { items = (f (first_scene known)).items; scene = Some (f (first_scene known)).scene }
first_step facts known f h = by_facts (facts_in facts) h
  where
    by_facts : (o : Option Facts) → o ≡ Some known
        → in_scene (option_map first_scene o) f
        ≡ record { items = (f (first_scene known)).items; scene = Some (f (first_scene known)).scene }
    by_facts None h = absurd (cc)
    by_facts (Some k) h = let same : k ≡ known = cc in ap (λ x. in_scene (Some (first_scene x)) f) same

lines_as_run : (facts : List FactLine) (number : ℕ) (texts : List (List ℕ))
    → IsPlayed (script_from (early facts) number (without_orders (early facts) texts)) (trace_from (early facts) None texts)
lines_as_run facts number [] =
    alike_played _ (record { facts = facts_in facts; events = []; refused = None }) _ []
    (ap (script_from (early facts) number) (without-none (early facts)) ∙ script_from-none (early facts) number)
    (trace-none (early facts) None) (nothing_played facts)
lines_as_run facts number (text ∷ texts) =
    by_line (judged_relay (early facts) text) refl (λ more n. lines_as_run more n texts)
  where
    by_line : (o : Result (Option RelayLine) Reason) → judged_relay (early facts) text ≡ o
        → ((more : List FactLine) (n : ℕ)
        → IsPlayed (script_from (early more) n (without_orders (early more) texts)) (trace_from (early more) None texts))
        → IsPlayed (script_from (early facts) number (without_orders (early facts) (text ∷ texts)))
        (trace_from (early facts) None (text ∷ texts))
    by_line (Err why) is rest =
        alike_played _ (record { facts = facts_in facts; events = []; refused = None }) _ []
        (ap (script_from (early facts) number) (without-refused (early facts) text texts why is)
        ∙ script_from-none (early facts) number) (trace-refused (early facts) None text texts why is)
        (nothing_played facts)
    by_line (Ok None) is rest =
        alike_played _ (script_from (early facts) (number + 1) (without_orders (early facts) texts)) _
        (trace_from (early facts) None texts)
        (ap (script_from (early facts) number) (without-passed (early facts) text texts is)
        ∙ script_from-comment (early facts) text number (without_orders (early facts) texts)
        (passed_again facts false false text is))
        (trace-passed (early facts) None text texts is) (rest facts (number + 1))
    by_line (Ok (Some (line.Script (script.Fact f)))) is rest =
        let more : List FactLine = facts ++ f ∷ [] in
        alike_played _ (script_from (early more) (number + 1) (without_orders (early more) texts)) _
        (trace_from (early more) None texts)
        (ap (script_from (early facts) number)
        (without-said (early facts) text texts (line.Script (script.Fact f)) is)
        ∙ script_from-line (early facts) text number (without_orders (early more) texts) (script.Fact f)
        (judged_again facts false false text (script.Fact f) (λ same. same) is))
        (trace-said (early facts) None text texts (line.Script (script.Fact f)) is) (rest more (number + 1))
    by_line (Ok (Some (line.Script (script.Event e)))) is rest =
        let needs = judged_needs facts false text (line.Script (script.Event e)) is in
        let s : Scene = first_scene needs.0 in
        let more : Script = script_from (late facts) (number + 1) (without_orders (late facts) texts) in
        let items : List RelayEntry = trace_from (late facts) (Some (event_step s e).scene) texts in
        alike_played _ (in_front (script.Event e) more) _ ((event_step s e).items ++ items)
        (ap (script_from (early facts) number)
        (without-said (early facts) text texts (line.Script (script.Event e)) is)
        ∙ script_from-line (early facts) text number (without_orders (late facts) texts) (script.Event e)
        (judged_again facts false false text (script.Event e) (λ same. same) is))
        (trace-said (early facts) None text texts (line.Script (script.Event e)) is
        ∙ ap (λ l. l.items ++ trace_from (late facts) l.scene texts)
        (first_step facts needs.0 (λ x. event_step x e) needs.1))
        (from_first needs.0 (in_front (script.Event e) more) ((event_step s e).items ++ items)
        (event_played needs.0 s e more items
        (scene_as_run facts true needs.0 (event_step s e).scene (number + 1) texts needs.1)))
    by_line (Ok (Some (line.Order o))) is rest =
        let needs = judged_needs facts false text (line.Order o) is in
        let s : Scene = first_scene needs.0 in
        let more : Script = script_from (early facts) number (without_orders (late facts) texts) in
        let items : List RelayEntry = trace_from (late facts) (Some (order_step s o).scene) texts in
        alike_played _ more _ ((order_step s o).items ++ items)
        (ap (script_from (early facts) number) (without-said (early facts) text texts (line.Order o) is))
        (trace-said (early facts) None text texts (line.Order o) is
        ∙ ap (λ l. l.items ++ trace_from (late facts) l.scene texts)
        (first_step facts needs.0 (λ x. order_step x o) needs.1))
        (from_first needs.0 more ((order_step s o).items ++ items)
        (order_played needs.0 s o more items
        (scene_as_run facts false needs.0 (order_step s o).scene number texts needs.1)))

pub relay_as_run : (input : List ℕ) → of_world (relay_trace input) ≡ script_trace (script_without_orders input)
relay_as_run input = (lines_as_run [] 1 (lines_of input)).entries

pub relay_accepted : (input : List ℕ) → (script_without_orders input).refused ≡ None
relay_accepted input = (lines_as_run [] 1 (lines_of input)).accepted
