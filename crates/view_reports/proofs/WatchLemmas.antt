-- What a report keeps of a trace that is safe so far, and which rule the next entry breaks first.
use Rattle.std.proofs.Common.{◌≡◌, ◌-◌, ◌==◌, ◌&&◌, not, nat_lt, ℕ, Bool, true, false, List, Option, Some, None, refl, sym, ap, subst, ◌∙◌, if◌then◌else◌}
use Rattle.std.specs.Option.{is_some}
use Rattle.std.proofs.lemmas.Bool.{eq-eqb, eqb-true, false≢true}
use Rattle.link_frames.specs.Legs.{least_opening}
use Rattle.link_frames.specs.declared.frame.End.{End}
use Rattle.link_frames.specs.declared.frame.End.TheVariants as «end»
use Rattle.link_frames.specs.declared.note.Note.{Note}
use Rattle.link_frames.specs.declared.note.Note.TheVariants as note
use Rattle.trace_audit.specs.RulesStand.{IsOwed}
use Rattle.trace_audit.specs.inner.Owed.{is_fresh, is_too_soon}
use Rattle.trace_model.specs.Safety.{IsShownFirst, same_end}
use Rattle.trace_model.specs.declared.entry.Entry.{Entry}
use Rattle.trace_model.specs.declared.moved.LegOf.{LegOf}
use Rattle.trace_model.specs.declared.rule.Rule.TheVariants as rule
use Rattle.view_reports.specs.BreakTexts.{rule_of}
use Rattle.view_reports.specs.Calls.{CallRows, side_in}
use Rattle.view_reports.specs.Sets.{SetRows, times_in}
use Rattle.view_reports.specs.Watch.{is_opening, soon, soon_of, unopened, unshown, unshown_by}
use Rattle.view_reports.specs.declared.breaks.Break.{Break}
use Rattle.view_reports.specs.declared.breaks.Break.TheVariants as broken
use Rattle.view_reports.specs.declared.side.Side.{Side}
use Rattle.view_reports.proofs.MutingLemmas.{and_parts}
use Rattle.view_reports.proofs.SetLemmas.{SetsStand}
use Rattle.view_reports.proofs.SideLemmas.{voice_kept, voices_kept}

-- Rule 1.

pub unshown_none : (sets : SetRows) (t : List Entry) (n : Note) → SetsStand sets t → unshown sets n ≡ None → IsShownFirst t n
unshown_none sets t (note.Acked c r o) stands is = (stands c r o).0 (at time refl is)
  where
    time : Option ℕ
    time = (times_in sets (record { call = c; request = r; octets = o })).shown

    at : (shown : Option ℕ) → time ≡ shown → unshown_by c shown ≡ None → is_some time ≡ true
    at None e k = cc
    at (Some tick) e k = ap is_some e
unshown_none sets t _ stands is = tt

pub unshown_some : (sets : SetRows) (t : List Entry) (n : Note) (b : Break) → SetsStand sets t → unshown sets n ≡ Some b
    → (IsShownFirst t n → ⊥) × (rule_of b ≡ rule.Agreed)
unshown_some sets t (note.Acked c r o) b stands is = at time refl is
  where
    time : Option ℕ
    time = (times_in sets (record { call = c; request = r; octets = o })).shown

    at : (shown : Option ℕ) → time ≡ shown → unshown_by c shown ≡ Some b
        → (IsShownFirst t (note.Acked c r o) → ⊥) × (rule_of b ≡ rule.Agreed)
    at None e k = (
      λ w. false≢true (sym (ap is_some e) ∙ (stands c r o).1 w),
      subst (λ (z : Break). rule_of z ≡ rule.Agreed) (let same : broken.Unshown c ≡ b = cc in same) refl,
    )
    at (Some tick) e k = cc
unshown_some sets t _ b stands is = cc

-- Rule 2.

same_ends : (e f : End) → same_end e f ≡ true → e ≡ f
same_ends «end».Vehicle «end».Vehicle h = refl
same_ends «end».Vehicle «end».Point h = absurd (false≢true h)
same_ends «end».Point «end».Vehicle h = absurd (false≢true h)
same_ends «end».Point «end».Point h = refl

end_itself : (e : End) → same_end e e ≡ true
end_itself «end».Vehicle = refl
end_itself «end».Point = refl

opening_is : (leg : LegOf) (n : Note) → is_opening leg n ≡ true → n ≡ note.Voice leg.of leg.call true true
opening_is leg (note.Voice e c u w) h =
    let p = and_parts (same_end e leg.of) ((c == leg.call) && (u && w)) h in
    let q = and_parts (c == leg.call) (u && w) p.1 in
    let r = and_parts u w q.1 in
    let ends : e ≡ leg.of = same_ends e leg.of p.0 in
    let calls : c ≡ leg.call = eqb-true c leg.call q.0 in
    λ i. note.Voice (ends i) (calls i) (r.0 i) (r.1 i)
opening_is leg _ h = absurd (false≢true h)

opening_itself : (leg : LegOf) → is_opening leg (note.Voice leg.of leg.call true true) ≡ true
opening_itself leg = rw (end_itself leg.of, eq-eqb leg.call leg.call refl) refl

abbrev pub Opens : Option LegOf → Note → Type 0
Opens owed n = (e : End) (c : ℕ) → IsOwed owed e c → n ≡ note.Voice e c true true

pub unopened_none : (owed : Option LegOf) (calls : CallRows) (n : Note) (now : ℕ) → unopened owed calls n now ≡ None
    → Opens owed n
unopened_none None calls n now is = λ e c h. absurd h
unopened_none (Some leg) calls n now is = at (is_opening leg n) refl is
  where
    at : (b : Bool) → is_opening leg n ≡ b
        → (if b then None else Some (broken.Unopened leg.of leg.call (now - (side_in calls leg.of leg.call).since))) ≡ None
        → Opens (Some leg) n
    at true opens k = λ e c p. opening_is leg n opens ∙ (λ i. note.Voice (p.0 i) (p.1 i) true true)
    at false opens k = cc

pub unopened_some : (owed : Option LegOf) (calls : CallRows) (n : Note) (now : ℕ) (b : Break)
    → unopened owed calls n now ≡ Some b → (Opens owed n → ⊥) × (rule_of b ≡ rule.Opened)
unopened_some None calls n now b is = cc
unopened_some (Some leg) calls n now b is = at (is_opening leg n) refl is
  where
    first : Break
    first = broken.Unopened leg.of leg.call (now - (side_in calls leg.of leg.call).since)

    at : (d : Bool) → is_opening leg n ≡ d → (if d then None else Some first) ≡ Some b
        → (Opens (Some leg) n → ⊥) × (rule_of b ≡ rule.Opened)
    at true opens k = cc
    at false opens k = (
      λ all.
          false≢true
          (sym opens ∙ (ap (is_opening leg) (all leg.of leg.call (refl, refl)) ∙ opening_itself leg)),
      subst (λ (z : Break). rule_of z ≡ rule.Opened) (let same : first ≡ b = cc in same) refl,
    )

-- Rule 3, too soon.

soon_fresh : (side : Side) (e : End) (c now : ℕ) (o : Option Break) → soon_of side e c now ≡ o
    → is_fresh (voice_kept side) now ≡ is_some o
soon_fresh side e c now o is = at side.is_up refl is
  where
    Some-soon : Option Break
    Some-soon = Some (broken.Soon e c (now - side.since))

    more : (f : Bool) → (if f then Some-soon else None) ≡ o → f ≡ is_some o
    more true k = ap is_some k
    more false k = ap is_some k

    at : (b : Bool) → side.is_up ≡ b
        → (if b && (side.talks && nat_lt (now - side.since) least_opening) then Some-soon else None) ≡ o
        → is_fresh (if b then Some (record { talks = side.talks; since = side.since }) else None) now ≡ is_some o
    at true up k = more (side.talks && nat_lt (now - side.since) least_opening) k
    at false up k = ap is_some k

soon_rule : (side : Side) (e : End) (c now : ℕ) (b : Break) → soon_of side e c now ≡ Some b → rule_of b ≡ rule.Bounded
soon_rule side e c now b is =
    at (side.is_up && (side.talks && nat_lt (now - side.since) least_opening)) is
  where
    at : (d : Bool) → (if d then Some (broken.Soon e c (now - side.since)) else None) ≡ Some b → rule_of b ≡ rule.Bounded
    at true k =
        subst (λ (z : Break). rule_of z ≡ rule.Bounded) (let same : broken.Soon e c (now - side.since) ≡ b = cc in same)
        refl
    at false k = cc

pub soon_is : (calls : CallRows) (n : Note) (now : ℕ) (o : Option Break) → soon calls n now ≡ o
    → is_too_soon (voices_kept calls) n now ≡ is_some o
soon_is calls (note.Voice e c u w) now o is = at (u && w) is
  where
    at : (b : Bool) → (if b then None else soon_of (side_in calls e c) e c now) ≡ o
        → not b && is_fresh (voices_kept calls e c) now ≡ is_some o
    at true k = ap is_some k
    at false k = soon_fresh (side_in calls e c) e c now o k
soon_is calls _ now o is = ap is_some is

pub soon_bounds : (calls : CallRows) (n : Note) (now : ℕ) (b : Break) → soon calls n now ≡ Some b → rule_of b ≡ rule.Bounded
soon_bounds calls (note.Voice e c u w) now b is = at (u && w) is
  where
    at : (d : Bool) → (if d then None else soon_of (side_in calls e c) e c now) ≡ Some b → rule_of b ≡ rule.Bounded
    at true k = cc
    at false k = soon_rule (side_in calls e c) e c now b k
soon_bounds calls _ now b is = cc
