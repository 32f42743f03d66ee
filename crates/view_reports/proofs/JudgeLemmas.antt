-- Which rule the next entry breaks first, by what a report keeps of a trace that is safe so far.
use Rattle.std.proofs.Common.{◌≡◌, ◌≤◌, ◌↔◌, ◌-◌, ◌+◌, ◌==◌, ◌&&◌, ◌⊎◌, not, ℕ, Bool, true, false, List, [], ◌∷◌, ◌++◌, Option, Some, None, refl, sym, ap, subst, ◌∙◌, inl, inr, if◌then◌else◌}
use Rattle.std.proofs.lemmas.Bool.{true≢false}
use Rattle.link_frames.specs.Legs.{is_data_timer}
use Rattle.link_frames.specs.declared.frame.End.{End}
use Rattle.link_frames.specs.declared.frame.End.TheVariants as «end»
use Rattle.link_frames.specs.declared.note.Note.{Note}
use Rattle.link_frames.specs.declared.note.Note.TheVariants as note
use Rattle.trace_audit.proofs.RulesLemmas.{AllWithin, AreVoices, bounded_no, bounded_yes, owed_more}
use Rattle.trace_audit.specs.Judged.{Judges}
use Rattle.trace_audit.specs.RulesStand.{IsOwed}
use Rattle.trace_audit.specs.inner.Owed.{owed_behind as owed_by, owed_if_muted}
use Rattle.trace_model.proofs.Fronts.{agreed_one, opened_one}
use Rattle.trace_model.proofs.LegsHeard.{last_one}
use Rattle.trace_model.specs.Safety.{Agreed, Bounded, Opened, OwesOpening, Safe, first_leg}
use Rattle.trace_model.specs.Tallies.{last_tick}
use Rattle.trace_model.specs.declared.entry.Entry.{Entry}
use Rattle.trace_model.specs.declared.moved.LegOf.{LegOf}
use Rattle.trace_model.specs.declared.rule.Rule.{Rule}
use Rattle.trace_model.specs.declared.rule.Rule.TheVariants as rule
use Rattle.view_reports.specs.BreakTexts.{rule_of}
use Rattle.view_reports.specs.Calls.{CallRows, moved_leg, side_in}
use Rattle.view_reports.specs.Muting.{listed, long_breaks, longs_of}
use Rattle.view_reports.specs.Sides.{is_muted}
use Rattle.view_reports.specs.Watch.{breaks_at, owed_behind, owed_if, soon, unopened, unshown, watch_behind}
use Rattle.view_reports.specs.declared.breaks.Break.{Break}
use Rattle.view_reports.specs.declared.breaks.Break.TheVariants as broken
use Rattle.view_reports.specs.declared.side.Side.{Side}
use Rattle.view_reports.specs.declared.stretch.Stretch.{Stretch}
use Rattle.view_reports.specs.declared.watch.Watch.{Watch}
use Rattle.view_reports.proofs.MutingLemmas.{StretchesStand}
use Rattle.view_reports.proofs.SetLemmas.{SetsStand, sets_more}
use Rattle.view_reports.proofs.SideLemmas.{voice_kept, voices_kept, voices_more}
use Rattle.view_reports.proofs.StretchLemmas.{not_within, up_voice, within_by}
use Rattle.view_reports.proofs.StretchesMore.{stretches_more}
use Rattle.view_reports.proofs.WatchLemmas.{soon_bounds, soon_is, unopened_none, unopened_some, unshown_none, unshown_some}

long_rule : (calls : CallRows) (e : End) (now : ℕ) (ss : List Stretch) (b : Break) (bs : List Break)
    → longs_of calls e now ss ≡ b ∷ bs → rule_of b ≡ rule.Bounded
long_rule calls e now [] b bs is = cc
long_rule calls e now (s ∷ ss) b bs is =
    at (λ k. long_rule calls e now ss b bs k)
    (is_muted (side_in calls e s.call) && ((side_in calls e s.call).line == s.line)) is
  where
    at : (longs_of calls e now ss ≡ b ∷ bs → rule_of b ≡ rule.Bounded) → (d : Bool)
        → listed (if d then Some (broken.Long e s.call (now - s.since)) else None) ++ longs_of calls e now ss ≡ b ∷ bs
        → rule_of b ≡ rule.Bounded
    at more true k =
        subst (λ (z : Break). rule_of z ≡ rule.Bounded)
        (let same : broken.Long e s.call (now - s.since) ≡ b = cc in same) refl
    at more false k = more k

-- The opening that is owed.

owed_leg : (side : Side) (e : End) (c : ℕ) → owed_if side e c ≡ owed_if_muted (voice_kept side) e c
owed_leg side e c = at side.is_up side.talks
  where
    at : (u t : Bool)
        → (if u && not t then Some (record { of = e; call = c }) else None) ≡ owed_if_muted (up_voice u t side.since) e c
    at true true = refl
    at true false = refl
    at false t = refl

owed_same : (calls : CallRows) (n : Note) → owed_behind calls n ≡ owed_by (voices_kept calls) n
owed_same calls (note.Ended e c timer) =
    ap (λ (z : Option LegOf). if is_data_timer timer then z else None) (owed_leg (side_in calls e c) e c)
owed_same calls (note.Fault e c) = owed_leg (side_in calls e c) e c
owed_same calls _ = refl

-- What is kept stands for entries that are safe up to the last of them, in front of the line of this number.
pub record WatchStands (w : Watch) (t : List Entry) (number : ℕ) : Type 0 where
  pub voices : AreVoices (voices_kept w.calls) t
  pub sets : SetsStand w.sets t
  pub owed : (e : End) (c : ℕ) → OwesOpening e c first_leg t ↔ IsOwed w.owed e c
  pub vehicle : StretchesStand w.calls «end».Vehicle w.vehicle number (last_tick t)
  pub point : StretchesStand w.calls «end».Point w.point number (last_tick t)
  pub safe : Safe t (last_tick t)

module _ (w : Watch) (t : List Entry) (x : Entry) (number : ℕ) (stands : WatchStands w t number)
    (le : last_tick t ≤ x.tick) where
  abbrev all : List Entry
  all = t ++ x ∷ []

  abbrev longs : End → List Stretch → List Break
  longs e ss = long_breaks w.calls e x.tick ss

  agreed_yes : unshown w.sets x.note ≡ None → Agreed all
  agreed_yes none = (agreed_one t x).1 (stands.safe.agreed, unshown_none w.sets t x.note stands.sets none)

  agreed_no : (b : Break) → unshown w.sets x.note ≡ Some b → Agreed all → ⊥
  agreed_no b some a = (unshown_some w.sets t x.note b stands.sets some).0 ((agreed_one t x).0 a).1

  opened_yes : unopened w.owed w.calls x.note x.tick ≡ None → Opened all
  opened_yes none =
      (opened_one t x).1 (
        stands.safe.opened,
        λ e c owes. unopened_none w.owed w.calls x.note x.tick none e c ((stands.owed e c).0 owes),
      )

  opened_no : (b : Break) → unopened w.owed w.calls x.note x.tick ≡ Some b → Opened all → ⊥
  opened_no b some o =
      (unopened_some w.owed w.calls x.note x.tick b some).0
      (λ e c p. ((opened_one t x).0 o).1 e c ((stands.owed e c).1 p))

  within : longs «end».Vehicle w.vehicle ≡ [] → longs «end».Point w.point ≡ [] → AllWithin (voices_kept w.calls) x.tick
  within v p «end».Vehicle = within_by w.calls «end».Vehicle w.vehicle number (last_tick t) x.tick le stands.vehicle v
  within v p «end».Point = within_by w.calls «end».Point w.point number (last_tick t) x.tick le stands.point p

  bounded_all : soon w.calls x.note x.tick ≡ None → longs «end».Vehicle w.vehicle ≡ []
      → longs «end».Point w.point ≡ [] → Bounded all x.tick
  bounded_all none v p =
      bounded_yes (voices_kept w.calls) t x (last_tick t) stands.voices stands.safe.bounded (within v p)
      (soon_is w.calls x.note x.tick None none)

  soon_breaks : (b : Break) → soon w.calls x.note x.tick ≡ Some b → Bounded all x.tick → ⊥
  soon_breaks b some h =
      true≢false (sym (soon_is w.calls x.note x.tick (Some b) some)
      ∙ (bounded_no (voices_kept w.calls) t x stands.voices h).1)

  long_vehicle : (b : Break) (bs : List Break) → longs «end».Vehicle w.vehicle ≡ b ∷ bs → Bounded all x.tick → ⊥
  long_vehicle b bs some h =
      not_within w.calls «end».Vehicle w.vehicle number (last_tick t) x.tick le stands.vehicle b bs some
      ((bounded_no (voices_kept w.calls) t x stands.voices h).0 «end».Vehicle)

  long_point : (b : Break) (bs : List Break) → longs «end».Point w.point ≡ b ∷ bs → Bounded all x.tick → ⊥
  long_point b bs some h =
      not_within w.calls «end».Point w.point number (last_tick t) x.tick le stands.point b bs some
      ((bounded_no (voices_kept w.calls) t x stands.voices h).0 «end».Point)

  more : Safe all x.tick → longs «end».Vehicle w.vehicle ≡ [] → longs «end».Point w.point ≡ []
      → WatchStands (watch_behind w x.note number x.tick) all (number + 1)
  more safe v p = record {
    voices = voices_more w.calls t x number stands.voices;
    sets = sets_more w.sets t x stands.sets;
    owed = λ e c.
        subst (λ (z : Option LegOf). OwesOpening e c first_leg all ↔ IsOwed z e c) (sym (owed_same w.calls x.note))
        (owed_more (voices_kept w.calls) t x stands.voices e c);
    vehicle = subst
        (λ (now : ℕ). StretchesStand (watch_behind w x.note number x.tick).calls «end».Vehicle
        (watch_behind w x.note number x.tick).vehicle (number + 1) now)
        (sym (last_one t x))
        (stretches_more w.calls «end».Vehicle w.vehicle number (last_tick t) x.tick le stands.vehicle v
        (moved_leg x.note) x.note);
    point = subst
        (λ (now : ℕ). StretchesStand (watch_behind w x.note number x.tick).calls «end».Point
        (watch_behind w x.note number x.tick).point (number + 1) now)
        (sym (last_one t x))
        (stretches_more w.calls «end».Point w.point number (last_tick t) x.tick le stands.point p
        (moved_leg x.note) x.note);
    safe = subst (λ (now : ℕ). Safe all now) (sym (last_one t x)) safe;
  }

  -- what these breaks come to: there are none, and the trace stays safe, or the first is of the lowest rule that is broken
  abbrev pub ComesTo : List Break → Type 0
  ComesTo breaks =
      ((breaks ≡ []) × WatchStands (watch_behind w x.note number x.tick) (t ++ x ∷ []) (number + 1)
      × Safe (t ++ x ∷ []) x.tick)
      ⊎ ((b : Break) × (bs : List Break) × (breaks ≡ b ∷ bs) × Judges (t ++ x ∷ []) x.tick (Some (rule_of b)))

  breaks : (b : Break) (bs : List Break) (r : Rule) → rule_of b ≡ r → Judges all x.tick (Some r) → ComesTo (b ∷ bs)
  breaks b bs r is judges =
      inr (b, bs, refl, subst (λ (z : Rule). Judges all x.tick (Some z)) (sym is) judges)

  by_parts : (u o s : Option Break) (v p : List Break) → unshown w.sets x.note ≡ u
      → unopened w.owed w.calls x.note x.tick ≡ o → soon w.calls x.note x.tick ≡ s
      → longs «end».Vehicle w.vehicle ≡ v → longs «end».Point w.point ≡ p
      → ComesTo (listed u ++ (listed o ++ (listed s ++ (v ++ p))))
  by_parts (Some b) o s v p eu eo es ev ep =
      breaks b _ rule.Agreed (unshown_some w.sets t x.note b stands.sets eu).1 (agreed_no b eu)
  by_parts None (Some b) s v p eu eo es ev ep =
      breaks b _ rule.Opened (unopened_some w.owed w.calls x.note x.tick b eo).1 (agreed_yes eu, opened_no b eo)
  by_parts None None (Some b) v p eu eo es ev ep =
      breaks b _ rule.Bounded (soon_bounds w.calls x.note x.tick b es) (agreed_yes eu, opened_yes eo, soon_breaks b es)
  by_parts None None None (b ∷ v) p eu eo es ev ep =
      breaks b _ rule.Bounded (long_rule w.calls «end».Vehicle x.tick _ b v ev)
      (agreed_yes eu, opened_yes eo, long_vehicle b v ev)
  by_parts None None None [] (b ∷ p) eu eo es ev ep =
      breaks b _ rule.Bounded (long_rule w.calls «end».Point x.tick _ b p ep)
      (agreed_yes eu, opened_yes eo, long_point b p ep)
  by_parts None None None [] [] eu eo es ev ep =
      let safe : Safe all x.tick =
      record { agreed = agreed_yes eu; opened = opened_yes eo; bounded = bounded_all es ev ep } in
      inl (refl, more safe ev ep, safe)

  pub judged : ComesTo (breaks_at w x.note x.tick)
  judged =
      by_parts (unshown w.sets x.note) (unopened w.owed w.calls x.note x.tick) (soon w.calls x.note x.tick)
      (longs «end».Vehicle w.vehicle) (longs «end».Point w.point) refl refl refl refl refl
