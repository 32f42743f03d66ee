-- Every trace with a relay desk is carried, whatever either link loses, repeats or reorders: what the desk keeps fits what
-- was seen of it, and the entries of the world fit the world, in which each set is sent before it is shown.
use Rattle.std.specs.Prelude.{◌≡◌, ℕ, zero, suc, true, false, List, [], ◌∷◌, ◌++◌, ◌⊎◌, map, Option, Some, None, Result, Ok, Err}
use Rattle.std.specs.Option.{option_map}
use Rattle.std.proofs.Common.{refl, sym, ap, ◌∙◌, subst, inl, inr, append_assoc}
use Rattle.std.proofs.lemmas.List.{append-nil}
use Rattle.msd_fit.specs.declared.facts.Facts.{Facts}
use Rattle.link_frames.specs.declared.frame.End.TheVariants as «end»
use Rattle.link_frames.specs.declared.note.Note.{Note}
use Rattle.link_frames.specs.declared.note.Note.TheVariants as noted
use Rattle.line_input.specs.Lines.{lines_of}
use Rattle.line_input.specs.declared.reason.Reason.{Reason}
use Rattle.trace_model.specs.declared.entry.Entry.{Entry}
use Rattle.trace_model.specs.declared.event.Event.{Event}
use Rattle.trace_model.specs.declared.event.Event.TheVariants as event
use Rattle.trace_model.specs.Safety.{IsShown, WasShown}
use Rattle.trace_fit.specs.Order as behind
use Rattle.trace_fit.specs.Order.{OrderedFrom, WasSent}
use Rattle.trace_text.specs.Facts.{facts_in}
use Rattle.trace_text.specs.Script.{Said, nothing_said}
use Rattle.trace_text.specs.declared.script.ScriptLine.TheVariants as script
use Rattle.channel_sim.proofs.Whole as whole
use Rattle.channel_sim.specs.Fit.{Fit}
use Rattle.channel_sim.specs.Lines as lines
use Rattle.channel_sim.specs.World as world
use Rattle.channel_sim.specs.World.{World}
use Rattle.relay_desk.proofs.CarriedLemmas as carried
use Rattle.relay_desk.specs.Carried as seen
use Rattle.relay_desk.specs.Carried.{Fits, Gave, Showed, Sight}
use Rattle.relay_desk.specs.Desk as desk
use Rattle.relay_desk.specs.Desk.{Desk, Row, happens}
use Rattle.relay_desk.specs.declared.event.RelayEvent.TheVariants as desk_event
use Rattle.relay_desk.specs.declared.event.RelayNote.{RelayNote}
use Rattle.relay_desk.specs.declared.event.RelayNote.TheVariants as note
use Rattle.relay_text.specs.ItemLine.{RelayEntry, OfDesk, OfWorld}
use Rattle.relay_text.specs.RelayLines.{judged_relay, said_behind}
use Rattle.relay_text.specs.declared.line.RelayLine.{RelayLine}
use Rattle.relay_text.specs.declared.line.RelayLine.TheVariants as line
use Rattle.relay_text.specs.declared.line.RelayOrder.{RelayOrder}
use Rattle.relay_text.specs.declared.line.RelayOrder.TheVariants as order
use Rattle.relay_watch.specs.Hears.{hears_note, order_event}
use Rattle.relay_command.specs.Carried.{CarriedFrom, ComesBehind, IsCarried, WasShownThere}
use Rattle.relay_command.specs.OfRun.{of_world}
use Rattle.relay_command.specs.Relay.{LineStep, in_scene, line_step, relay_trace, scene_at, trace_from}
use Rattle.relay_command.specs.Scenes as scenes
use Rattle.relay_command.specs.Scenes.{Scene, SceneStep, and_then, desk_did, event_step, first_scene, hears, order_step, world_did}
use Rattle.relay_command.specs.inner.Seen.{trace-none, trace-passed, trace-refused, trace-said}
use Rattle.relay_command.proofs.WorldEntries.{desk_entries, of_world-append, world_entries}

-- What is seen of a trace at the desk.

abbrev sight_of_note : Note → List Sight
sight_of_note (noted.Shown c r o) = Showed c r o ∷ []
sight_of_note _ = []

abbrev sight_of : RelayEntry → List Sight
sight_of (OfWorld x) = sight_of_note x.note
sight_of (OfDesk tick item) = Gave item ∷ []

abbrev sights : List RelayEntry → List Sight
sights [] = []
sights (x ∷ xs) = sight_of x ++ sights xs

sights-append : (xs ys : List RelayEntry) → sights (xs ++ ys) ≡ sights xs ++ sights ys
sights-append [] ys = refl
sights-append (x ∷ xs) ys =
    ap (λ t. sight_of x ++ t) (sights-append xs ys) ∙ sym (append_assoc (sight_of x) (sights xs) (sights ys))

desk_sights : (tick : ℕ) (items : List RelayNote) → sights (map (OfDesk tick) items) ≡ map Gave items
desk_sights tick [] = refl
desk_sights tick (x ∷ xs) = ap (λ t. Gave x ∷ t) (desk_sights tick xs)

one_more_sight : (before : List RelayEntry) (x : RelayEntry) → sights (before ++ x ∷ []) ≡ sights before ++ sight_of x
one_more_sight before x =
    sights-append before (x ∷ []) ∙ ap (λ t. sights before ++ t) (append-nil (sight_of x))

-- From what is seen at the desk to the trace.

shown_back : (c r : ℕ) (o : List ℕ) (t : List RelayEntry) → seen.WasShown c r o (sights t) → WasShown c r o (of_world t)
shown_back c r o [] h = h
shown_back c r o (OfDesk tick item ∷ t) (inl here) = absurd here
shown_back c r o (OfDesk tick item ∷ t) (inr there) = shown_back c r o t there
shown_back c r o (OfWorld x ∷ t) h = by_note x.note h (shown_back c r o t)
  where
    by_note : (n : Note) → seen.WasShown c r o (sight_of_note n ++ sights t)
        → (seen.WasShown c r o (sights t) → WasShown c r o (of_world t))
        → IsShown c r o n ⊎ WasShown c r o (of_world t)
    by_note (noted.Shown d s p) (inl here) rest = inl here
    by_note (noted.Shown d s p) (inr there) rest = inr (rest there)
    by_note _ h rest = inr (rest h)

there_back : (q : ℕ) (t : List RelayEntry) → seen.WasShownThere q (sights t) → WasShownThere q t
there_back q [] h = h
there_back q (OfDesk tick item ∷ t) h = by_item item h (there_back q t)
  where
    by_item : (n : RelayNote) → seen.WasShownThere q (Gave n ∷ sights t)
        → (seen.WasShownThere q (sights t) → WasShownThere q t) → WasShownThere q (OfDesk tick n ∷ t)
    by_item (note.Shown d c r o) (inl here) rest = inl here
    by_item (note.Shown d c r o) (inr there) rest = inr (rest there)
    by_item _ (inl here) rest = absurd here
    by_item _ (inr there) rest = inr (rest there)
there_back q (OfWorld x ∷ t) h = by_note x.note h (there_back q t)
  where
    by_note : (n : Note) → seen.WasShownThere q (sight_of_note n ++ sights t)
        → (seen.WasShownThere q (sights t) → WasShownThere q t) → WasShownThere q (OfWorld x ∷ t)
    by_note (noted.Shown d s p) (inl here) rest = absurd here
    by_note (noted.Shown d s p) (inr there) rest = inr (rest there)
    by_note _ h rest = inr (rest h)

there_forth : (q : ℕ) (t : List RelayEntry) → WasShownThere q t → seen.WasShownThere q (sights t)
there_forth q [] h = h
there_forth q (OfDesk tick item ∷ t) h = by_item item h (there_forth q t)
  where
    by_item : (n : RelayNote) → WasShownThere q (OfDesk tick n ∷ t)
        → (WasShownThere q t → seen.WasShownThere q (sights t)) → seen.WasShownThere q (Gave n ∷ sights t)
    by_item (note.Shown d c r o) (inl here) rest = inl here
    by_item (note.Shown d c r o) (inr there) rest = inr (rest there)
    by_item _ (inl here) rest = absurd here
    by_item _ (inr there) rest = inr (rest there)
there_forth q (OfWorld x ∷ t) (inl here) = absurd here
there_forth q (OfWorld x ∷ t) (inr there) = by_note x.note (there_forth q t there)
  where
    by_note : (n : Note) → seen.WasShownThere q (sights t) → seen.WasShownThere q (sight_of_note n ++ sights t)
    by_note (noted.Shown d s p) h = inr h
    by_note _ h = h

-- what was seen first stands in front of what comes behind it
carried_rest : (before xs ys : List Sight) → seen.CarriedFrom before (xs ++ ys) → seen.CarriedFrom (before ++ xs) ys
carried_rest before [] ys h =
    let P : List Sight → Type 0 = λ f. seen.CarriedFrom f ys in subst P (sym (append-nil before)) h
carried_rest before (x ∷ xs) ys h =
    let P : List Sight → Type 0 = λ f. seen.CarriedFrom f ys in
    subst P (append_assoc before (x ∷ []) xs) (carried_rest (before ++ x ∷ []) xs ys h.1)

-- a set that was shown was sent before
sent_behind : (c r : ℕ) (o : List ℕ) (front xs : List Entry) → WasSent c r o front → WasSent c r o (front ++ xs)
sent_behind c r o [] xs h = absurd h
sent_behind c r o (x ∷ front) xs (inl here) = inl here
sent_behind c r o (x ∷ front) xs (inr there) = inr (sent_behind c r o front xs there)

shown_sent : (c r : ℕ) (o : List ℕ) (front xs : List Entry) → OrderedFrom front xs → WasShown c r o xs
    → WasSent c r o (front ++ xs)
shown_sent c r o front [] ordered h = absurd h
shown_sent c r o front (x ∷ xs) ordered (inr there) =
    subst (WasSent c r o) (append_assoc front (x ∷ []) xs) (shown_sent c r o (front ++ x ∷ []) xs ordered.1 there)
shown_sent c r o front (x ∷ xs) ordered (inl here) = by_note x.note ordered.0 here
  where
    by_note : (n : Note) → behind.ComesBehind front n → IsShown c r o n → WasSent c r o (front ++ x ∷ xs)
    by_note (noted.Shown d s p) sent same =
        sent_behind c r o front (x ∷ xs)
        (subst (λ z. WasSent c r z front) same.2
        (subst (λ z. WasSent c z p front) same.1 (subst (λ z. WasSent z s p front) same.0 sent)))
    by_note _ sent same = absurd same

ordered_front : (front xs ys : List Entry) → OrderedFrom front (xs ++ ys) → OrderedFrom front xs
ordered_front front [] ys h = tt
ordered_front front (x ∷ xs) ys h = (h.0, ordered_front (front ++ x ∷ []) xs ys h.1)

-- Both together.
both_from : (before xs : List RelayEntry) → seen.CarriedFrom (sights before) (sights xs)
    → OrderedFrom [] (of_world (before ++ xs)) → CarriedFrom before xs
both_from before [] h ordered = tt
both_from before (x ∷ xs) h ordered = (
  by_entry x h,
  both_from (before ++ x ∷ []) xs
      (let P : List Sight → Type 0 = λ f. seen.CarriedFrom f (sights xs) in
      subst P (sym (one_more_sight before x)) (carried_rest (sights before) (sight_of x) (sights xs) h))
      (let Q : List RelayEntry → Type 0 = λ t. OrderedFrom [] (of_world t) in
      subst Q (sym (append_assoc before (x ∷ []) xs)) ordered),
)
  where
    so_far : OrderedFrom [] (of_world before)
    so_far =
        ordered_front [] (of_world before) (of_world (x ∷ xs))
        (subst (OrderedFrom []) (of_world-append before (x ∷ xs)) ordered)

    by_entry : (y : RelayEntry) → seen.CarriedFrom (sights before) (sight_of y ++ sights xs) → ComesBehind before y
    by_entry (OfWorld e) h = tt
    by_entry (OfDesk tick (note.Shown q c r o)) h =
        let shown : WasShown c r o (of_world before) = shown_back c r o before h.0.0 in
        record {
          sent = shown_sent c r o [] (of_world before) so_far shown;
          shown = shown;
          once = λ there. h.0.1 (there_forth q before there);
        }
    by_entry (OfDesk tick (note.Done q)) h = there_back q before h.0
    by_entry (OfDesk tick (note.Forth q c r o)) h = tt
    by_entry (OfDesk tick (note.Back q)) h = tt
    by_entry (OfDesk tick (note.GaveUp q)) h = tt
    by_entry (OfDesk tick (note.Unshown c)) h = tt
    by_entry (OfDesk tick note.Nothing) h = tt

-- The world and the desk of a scene fit what came so far.
record BothFit (s : Scene) (before : List RelayEntry) : Type 0 where
  pub world : Fit s.world (of_world before)
  pub desk : Fits s.desk (sights before)

both_carried : (s : Scene) (before : List RelayEntry) → BothFit s before → IsCarried before
both_carried s before fits = both_from [] before fits.desk.carried fits.world.ordered

-- the desk hears of an item of the world
note_fits : (n : Note) (d : Desk) (before : List Sight) → Fits d before → Fits (hears_note n d) (before ++ sight_of_note n)
note_fits (noted.Shown c r o) d before fits = carried.event_fits (desk_event.Shown c r o) d before fits
note_fits _ d before fits = subst (Fits d) (sym (append-nil before)) fits

hears_fit : (es : List Entry) (d : Desk) (before : List Sight) → Fits d before
    → Fits (hears es d) (before ++ sights (map OfWorld es))
hears_fit [] d before fits = subst (Fits d) (sym (append-nil before)) fits
hears_fit (x ∷ xs) d before fits =
    subst (Fits (hears (x ∷ xs) d)) (append_assoc before (sight_of_note x.note) (sights (map OfWorld xs)))
    (hears_fit xs (hears_note x.note d) (before ++ sight_of_note x.note) (note_fits x.note d before fits))

-- the world did this
world_fits : (st : world.Step) (d : Desk) (before : List RelayEntry) → Fit st.world (of_world before ++ st.entries)
    → Fits d (sights before) → BothFit (world_did st d).scene (before ++ (world_did st d).items)
world_fits st d before fit fits =
    let items : List RelayEntry = map OfWorld st.entries in
    record {
      world =
          subst (Fit st.world)
          (sym (of_world-append before items ∙ ap (λ t. of_world before ++ t) (world_entries st.entries))) fit;
      desk =
          subst (Fits (hears st.entries d)) (sym (sights-append before items))
          (hears_fit st.entries d (sights before) fits);
    }

-- the desk did this
desk_fits : (w : World) (row : Row) (before : List RelayEntry) → Fit w (of_world before)
    → Fits row.desk (sights before ++ map Gave row.items)
    → BothFit (desk_did w row).scene (before ++ (desk_did w row).items)
desk_fits w row before fit fits =
    let items : List RelayEntry = map (OfDesk w.tick) row.items in
    record {
      world =
          subst (Fit w)
          (sym (of_world-append before items ∙ ap (λ t. of_world before ++ t) (desk_entries w.tick row.items)
          ∙ append-nil (of_world before))) fit;
      desk =
          subst (Fits row.desk)
          (sym (sights-append before items ∙ ap (λ t. sights before ++ t) (desk_sights w.tick row.items))) fits;
    }

then_fits : (first : SceneStep) (second : Scene → SceneStep) (before : List RelayEntry)
    → BothFit first.scene (before ++ first.items)
    → ((b : List RelayEntry) → BothFit first.scene b
    → BothFit (second first.scene).scene (b ++ (second first.scene).items))
    → BothFit (and_then first second).scene (before ++ (and_then first second).items)
then_fits first second before h step =
    subst (BothFit (second first.scene).scene) (append_assoc before first.items (second first.scene).items)
    (step (before ++ first.items) h)

unit_fits : (s : Scene) (before : List RelayEntry) → BothFit s before
    → BothFit (scenes.unit s).scene (before ++ (scenes.unit s).items)
unit_fits s before fits =
    then_fits (world_did (world.unit s.world) s.desk) (λ t. desk_did t.world (desk.unit t.desk)) before
    (world_fits (world.unit s.world) s.desk before (whole.unit_fits s.world (of_world before) fits.world) fits.desk)
    (λ b h. desk_fits (world.unit s.world).world (desk.unit (hears (world.unit s.world).entries s.desk)) b h.world
    (carried.event_fits (desk_event.Units 1) (hears (world.unit s.world).entries s.desk) (sights b) h.desk))

units_fit : (n : ℕ) (s : Scene) (before : List RelayEntry) → BothFit s before
    → BothFit (scenes.units n s).scene (before ++ (scenes.units n s).items)
units_fit zero s before fits = subst (BothFit s) (sym (append-nil before)) fits
units_fit (suc n) s before fits =
    then_fits (scenes.unit s) (scenes.units n) before (unit_fits s before fits)
    (λ b h. units_fit n (scenes.unit s).scene b h)

-- an event of the world in which no ticks elapse
here_fits : (s : Scene) (e : Event) (before : List RelayEntry) → BothFit s before
    → BothFit (world_did (lines.step s.world e) s.desk).scene
    (before ++ (world_did (lines.step s.world e) s.desk).items)
here_fits s e before fits =
    world_fits (lines.step s.world e) s.desk before (whole.step_fits s.world (of_world before) e fits.world) fits.desk

event_fits : (s : Scene) (e : Event) (before : List RelayEntry) → BothFit s before
    → BothFit (event_step s e).scene (before ++ (event_step s e).items)
event_fits s (event.Tick n) before fits = units_fit n s before fits
event_fits s (event.Flow true delay) before fits = here_fits s (event.Flow true delay) before fits
event_fits s (event.Flow false delay) before fits = here_fits s (event.Flow false delay) before fits
event_fits s (event.Reset «end».Point) before fits = here_fits s (event.Reset «end».Point) before fits
event_fits s (event.Reset «end».Vehicle) before fits = here_fits s (event.Reset «end».Vehicle) before fits
event_fits s (event.Trigger x) before fits = here_fits s (event.Trigger x) before fits
event_fits s event.Cancel before fits = here_fits s event.Cancel before fits
event_fits s (event.Net x) before fits = here_fits s (event.Net x) before fits
event_fits s event.Answer before fits = here_fits s event.Answer before fits
event_fits s event.Fail before fits = here_fits s event.Fail before fits
event_fits s event.Callback before fits = here_fits s event.Callback before fits
event_fits s event.Sleep before fits = here_fits s event.Sleep before fits
event_fits s event.FaultVehicle before fits = here_fits s event.FaultVehicle before fits
event_fits s (event.FaultPoint x) before fits = here_fits s (event.FaultPoint x) before fits
event_fits s (event.Damaged x) before fits = here_fits s (event.Damaged x) before fits
event_fits s (event.Request x) before fits = here_fits s (event.Request x) before fits
event_fits s (event.Clear x) before fits = here_fits s (event.Clear x) before fits
event_fits s (event.Hangup x) before fits = here_fits s (event.Hangup x) before fits
event_fits s event.DropVehicle before fits = here_fits s event.DropVehicle before fits
event_fits s (event.DropPoint x) before fits = here_fits s (event.DropPoint x) before fits
event_fits s (event.DropBoth x) before fits = here_fits s (event.DropBoth x) before fits
event_fits s (event.Deliver x c k) before fits = here_fits s (event.Deliver x c k) before fits

order_row_fits : (o : RelayOrder) (d : Desk) (before : List Sight) → Fits d before
    → Fits (happens d (order_event o)).desk (before ++ map Gave (happens d (order_event o)).items)
order_row_fits (order.Pass c) d before fits = carried.event_fits (desk_event.Pass c) d before fits
order_row_fits (order.Forth k) d before fits = carried.event_fits (desk_event.Forth k) d before fits
order_row_fits (order.Back k) d before fits = carried.event_fits (desk_event.Back k) d before fits

order_fits : (s : Scene) (o : RelayOrder) (before : List RelayEntry) → BothFit s before
    → BothFit (order_step s o).scene (before ++ (order_step s o).items)
order_fits s o before fits =
    desk_fits s.world (happens s.desk (order_event o)) before fits.world
    (order_row_fits o s.desk (sights before) fits.desk)

-- Lines.

abbrev ScenesFit : Option Scene → List RelayEntry → Type 0
ScenesFit None before = before ≡ []
ScenesFit (Some s) before = BothFit s before

scenes_carried : (o : Option Scene) (before : List RelayEntry) → ScenesFit o before → IsCarried before
scenes_carried None before none = subst IsCarried (sym none) tt
scenes_carried (Some s) before fits = both_carried s before fits

-- the scene of a line fits what came before it
at_fits : (said : Said) (o : Option Scene) (before : List RelayEntry) → ScenesFit o before
    → ScenesFit (scene_at said o) before
at_fits said (Some s) before fits = fits
at_fits said None before none = by_facts (facts_in said.facts)
  where
    by_facts : (k : Option Facts) → ScenesFit (option_map first_scene k) before
    by_facts None = none
    by_facts (Some known) =
        subst (BothFit (first_scene known)) (sym none)
        (record { world = whole.first_fits known; desk = carried.first_fits })

in_scene_fits : (o : Option Scene) (f : Scene → SceneStep) (before : List RelayEntry)
    → ((s : Scene) → BothFit s before → BothFit (f s).scene (before ++ (f s).items)) → ScenesFit o before
    → ScenesFit (in_scene o f).scene (before ++ (in_scene o f).items)
in_scene_fits None f before step none = append-nil before ∙ none
in_scene_fits (Some s) f before step fits = step s fits

line_fits : (said : Said) (o : Option Scene) (says : RelayLine) (before : List RelayEntry) → ScenesFit o before
    → ScenesFit (line_step said o says).scene (before ++ (line_step said o says).items)
line_fits said o (line.Script (script.Fact f)) before fits =
    subst (ScenesFit o) (sym (append-nil before)) fits
line_fits said o (line.Script (script.Event e)) before fits =
    in_scene_fits (scene_at said o) (λ s. event_step s e) before (λ s h. event_fits s e before h)
    (at_fits said o before fits)
line_fits said o (line.Order r) before fits =
    in_scene_fits (scene_at said o) (λ s. order_step s r) before (λ s h. order_fits s r before h)
    (at_fits said o before fits)

lines_carried : (said : Said) (o : Option Scene) (before : List RelayEntry) (texts : List (List ℕ)) → ScenesFit o before
    → IsCarried (before ++ trace_from said o texts)
lines_carried said o before [] fits =
    subst IsCarried (sym (ap (λ t. before ++ t) (trace-none said o) ∙ append-nil before))
    (scenes_carried o before fits)
lines_carried said o before (text ∷ texts) fits =
    by_line (judged_relay said text) refl (λ more p b h. lines_carried more p b texts h)
  where
    by_line : (k : Result (Option RelayLine) Reason) → judged_relay said text ≡ k
        → ((more : Said) (p : Option Scene) (b : List RelayEntry) → ScenesFit p b → IsCarried (b ++ trace_from more p texts))
        → IsCarried (before ++ trace_from said o (text ∷ texts))
    by_line (Err why) is rest =
        subst IsCarried (sym (ap (λ t. before ++ t) (trace-refused said o text texts why is) ∙ append-nil before))
        (scenes_carried o before fits)
    by_line (Ok None) is rest =
        subst IsCarried (sym (ap (λ t. before ++ t) (trace-passed said o text texts is))) (rest said o before fits)
    by_line (Ok (Some says)) is rest =
        let s : LineStep = line_step said o says in
        let items : List RelayEntry = trace_from (said_behind said says) s.scene texts in
        subst IsCarried
        (append_assoc before s.items items ∙ sym (ap (λ t. before ++ t) (trace-said said o text texts says is)))
        (rest (said_behind said says) s.scene (before ++ s.items) (line_fits said o says before fits))

pub relay_carried : (input : List ℕ) → IsCarried (relay_trace input)
relay_carried input = lines_carried nothing_said None [] (lines_of input) refl
