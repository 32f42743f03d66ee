-- What one more entry does to what is kept of a trace, and which rule it breaks.
use Rattle.std.specs.Prelude.{◌≡◌, ◌≤◌, ◌<◌, ◌+◌, ◌-◌, ◌↔◌, ◌&&◌, not, nat_lt, nat_eq, ℕ, Bool, true, false, List, [], ◌∷◌, ◌++◌, Option, Some, None, Result, Ok, Err, OnOk, IsTrue, if◌then◌else◌}
use Rattle.std.specs.HashMap.{get}
use Rattle.std.proofs.Common.{refl, sym, ap, subst, ◌∙◌, arith}
use Rattle.std.proofs.lemmas.Bool.{false≢true, true≢false, eq-eqb, eqb-true}
use Rattle.std.proofs.lemmas.Bool.Decides.{Decides-ltb, not_from_Decides}
use Rattle.link_frames.specs.declared.frame.End.{End}
use Rattle.link_frames.specs.declared.frame.End.TheVariants as «end»
use Rattle.link_frames.specs.declared.note.Note.{Note}
use Rattle.link_frames.specs.declared.note.Note.TheVariants as note
use Rattle.link_frames.specs.Legs.{is_data_timer, least_opening, muting_limit, through}
use Rattle.trace_model.specs.declared.entry.Entry.{Entry}
use Rattle.trace_model.specs.Safety.{Agreed, Bounded, IsShownFirst, IsWithin, Leg, MustOpen, Opened, OwesOpening, TurnsMuted, ends_wait, first_leg, is_leg, is_own, leg_at, leg_behind, leg_step, own}
use Rattle.trace_model.proofs.Fronts.{agreed_one, bounded_one, leg_one, opened_one, step_within}
use Rattle.trace_model.specs.declared.moved.LegOf.{LegOf}
use Rattle.trace_audit.specs.declared.rules.Rules.{Rules}
use Rattle.trace_model.specs.declared.voice.Voice.{Voice}
use Rattle.trace_model.specs.Tallies.{last_tick}
use Rattle.trace_model.specs.LegsStand.{IsVoiceOf, LegsStandFor, voice_at}
use Rattle.trace_audit.specs.RulesStand.{IsOwed, RulesStandFor}
use Rattle.trace_model.specs.LegsMoved.{AreWithin}
use Rattle.trace_audit.specs.inner.Owed.{is_fresh, is_too_soon, owed_behind, owed_if_muted, voice_of}
use Rattle.trace_model.proofs.LegsHeard.{leg_here}

pub on_both : {A E : Type 0} (r : Result A E) (P Q R : Type 0) → (P → Q → R) → OnOk r P → OnOk r Q → OnOk r R
on_both (Ok x) P Q R f p q = f p q
on_both (Err e) P Q R f p q = tt

pub on_ok : {A E : Type 0} (r : Result A E) (P : Type 0) → P → OnOk r P
on_ok (Ok x) P p = p
on_ok (Err e) P p = tt

-- What must open next.

owes_from : (e : End) (c : ℕ) (leg : Leg) (t : List Entry) (x : Entry) →
    OwesOpening e c leg (t ++ x ∷ []) ↔ MustOpen e c (through (own leg_step e c) leg t) x
owes_from e c leg [] x = (λ h. h, λ h. h)
owes_from e c leg (y ∷ []) x = (λ h. h, λ h. h)
owes_from e c leg (y ∷ z ∷ t) x = owes_from e c (leg_behind e c leg y) (z ∷ t) x

pub is_this_leg : (e f : End) (c d : ℕ) → is_leg e c f d ≡ true → (f ≡ e) × (d ≡ c)
is_this_leg «end».Vehicle «end».Vehicle c d h = (refl, sym (eqb-true c d h))
is_this_leg «end».Vehicle «end».Point c d h = absurd (false≢true h)
is_this_leg «end».Point «end».Vehicle c d h = absurd (false≢true h)
is_this_leg «end».Point «end».Point c d h = (refl, sym (eqb-true c d h))

this_leg : (e f : End) (c d : ℕ) → f ≡ e → d ≡ c → is_leg e c f d ≡ true
this_leg e f c d p q = rw (p, q) (leg_here e c c ∙ eq-eqb c c refl)

owed_leg : (legs : End → ℕ → Leg) (f e : End) (d c : ℕ) (v : Option Voice) (x : Entry) → IsVoiceOf v (legs f d) →
    is_own e c x.note ≡ is_leg e c f d → ends_wait x.note ≡ true →
    (MustOpen e c (legs e c) x ↔ IsOwed (owed_if_muted v f d) e c)
owed_leg legs f e d c None x is own ends = (to, λ h. absurd h)
  where
    to : MustOpen e c (legs e c) x → ⊥
    to m =
        let p = is_this_leg e f c d (sym own ∙ m.own) in
        false≢true (sym is ∙ (rw (p.0, p.1) m.up))
owed_leg legs f e d c (Some v) x is own ends = at v.talks refl
  where
    at : (talks : Bool) → v.talks ≡ talks →
        (MustOpen e c (legs e c) x ↔ IsOwed (if talks then None else Some (record { of = f; call = d })) e c)
    at true t = (closed, λ h. absurd h)
      where
        closed : MustOpen e c (legs e c) x → ⊥
        closed m =
            let p = is_this_leg e f c d (sym own ∙ m.own) in
            true≢false (sym (is.1 ∙ t) ∙ (rw (p.0, p.1) m.muted))
    at false t = (λ m. is_this_leg e f c d (sym own ∙ m.own), due)
      where
        due : (f ≡ e) × (d ≡ c) → MustOpen e c (legs e c) x
        due p =
            record {
              own = own ∙ this_leg e f c d p.0 p.1;
              ends = ends;
              up = subst (λ (z : ℕ). (legs e z).up ≡ true) p.1 (subst (λ (g : End). (legs g d).up ≡ true) p.0 is.0);
              muted = subst (λ (z : ℕ). (legs e z).talks ≡ false) p.1
                  (subst (λ (g : End). (legs g d).talks ≡ false) p.0 (is.1 ∙ t));
            }

no_wait : (e : End) (c : ℕ) (leg : Leg) (x : Entry) → ends_wait x.note ≡ false → MustOpen e c leg x → ⊥
no_wait e c leg x h m = false≢true (sym h ∙ m.ends)

abbrev pub AreVoices : (End → ℕ → Option Voice) → List Entry → Type 0
AreVoices voices t = (e : End) (c : ℕ) → IsVoiceOf (voices e c) (leg_at e c t)

owed_note : (voices : End → ℕ → Option Voice) (t : List Entry) → AreVoices voices t →
    (now : ℕ) (n : Note) (e : End) (c : ℕ) →
    (MustOpen e c (leg_at e c t) (record { tick = now; note = n }) ↔ IsOwed (owed_behind voices n) e c)
owed_note voices t are now (note.Ended f d timer) e c = at (is_data_timer timer) refl
  where
    at : (b : Bool) → is_data_timer timer ≡ b →
        (MustOpen e c (leg_at e c t) (record { tick = now; note = note.Ended f d timer })
        ↔ IsOwed (if b then owed_if_muted (voices f d) f d else None) e c)
    at true ends = owed_leg (λ g k. leg_at g k t) f e d c (voices f d) _ (are f d) refl ends
    at false ends = (no_wait e c (leg_at e c t) _ ends, λ h. absurd h)
owed_note voices t are now (note.Fault f d) e c = owed_leg (λ g k. leg_at g k t) f e d c (voices f d) _ (are f d)
    refl refl
owed_note voices t are now _ e c = (λ m. false≢true m.ends, λ h. absurd h)

pub owed_more : (voices : End → ℕ → Option Voice) (t : List Entry) (x : Entry) → AreVoices voices t →
    (e : End) (c : ℕ) →
    (OwesOpening e c first_leg (t ++ x ∷ []) ↔ IsOwed (owed_behind voices x.note) e c)
owed_more voices t x are e c =
    let one = owes_from e c first_leg t x in
    let two = owed_note voices t are x.tick x.note e c in
    (λ h. two.0 (one.0 h), λ h. one.1 (two.1 h))

pub voices_stand : (rules : Rules) (t : List Entry) → LegsStandFor «end».Vehicle rules.vehicle t →
    LegsStandFor «end».Point rules.point t → AreVoices (voice_of rules) t
voices_stand rules t v p «end».Vehicle c = v.voices c
voices_stand rules t v p «end».Point c = p.voices c

-- Bounded.

pub within_leg : (limit now : ℕ) (o : Option Voice) (leg : Leg) → IsVoiceOf o leg →
    ((v : Voice) → o ≡ Some v → v.talks ≡ false → now ≤ v.since + limit) → leg.up ≡ true → leg.talks ≡ false →
    now ≤ leg.since + limit
within_leg limit now None leg is h up muted = absurd (false≢true (sym is ∙ up))
within_leg limit now (Some v) leg is h up muted =
    let le = h v refl (sym is.1 ∙ muted) in let same = is.2 in omega arith

pub leg_within : (limit now : ℕ) (o : Option Voice) (leg : Leg) → IsVoiceOf o leg →
    (leg.up ≡ true → leg.talks ≡ false → now ≤ leg.since + limit) → (v : Voice) → o ≡ Some v → v.talks ≡ false →
    now ≤ v.since + limit
leg_within limit now o leg is h v e muted =
    let here : IsVoiceOf (Some v) leg = subst (λ z. IsVoiceOf z leg) e is in
    let le = h here.0 (here.1 ∙ muted) in let same = here.2 in omega arith

not_fresh : (o : Option Voice) (leg : Leg) (now : ℕ) → IsVoiceOf o leg → is_fresh o now ≡ false → leg.up ≡ true →
    leg.talks ≡ true → leg.since + 20 ≤ now
not_fresh None leg now is fresh up talks = absurd (false≢true (sym is ∙ up))
not_fresh (Some v) leg now is fresh up talks =
    let t : v.talks ≡ true = sym is.1 ∙ talks in
    let far : nat_lt (now - v.since) 20 ≡ false = sym (ap (λ b. b && nat_lt (now - v.since) 20) t) ∙ fresh in
    let same = is.2 in
    let no : now - v.since < 20 → ⊥ = not_from_Decides (nat_lt (now - v.since) 20) (Decides-ltb (now - v.since) 20)
    far in
    omega arith

fresh_soon : (o : Option Voice) (leg : Leg) (now : ℕ) → IsVoiceOf o leg → is_fresh o now ≡ true →
    (leg.up ≡ true) × (leg.talks ≡ true) × (leg.since + 20 ≤ now → ⊥)
fresh_soon None leg now is fresh = absurd (false≢true fresh)
fresh_soon (Some v) leg now is fresh = at v.talks refl fresh
  where
    at : (b : Bool) → v.talks ≡ b → b && nat_lt (now - v.since) 20 ≡ true →
        (leg.up ≡ true) × (leg.talks ≡ true) × (leg.since + 20 ≤ now → ⊥)
    at true t f =
        let lt : now - v.since < 20 = (Decides-ltb (now - v.since) 20).0 f in
        let same = is.2 in
        (is.0, is.1 ∙ t, λ le. omega arith)
    at false t f = absurd (false≢true f)

late_by : (voices : End → ℕ → Option Voice) (t : List Entry) → AreVoices voices t → (now : ℕ) (n : Note) →
    is_too_soon voices n now ≡ false → (e : End) (c : ℕ) →
    TurnsMuted e c (leg_at e c t) (record { tick = now; note = n }) → (leg_at e c t).since + least_opening ≤ now
late_by voices t are now (note.Voice f d u w) soon e c m =
    let p = is_this_leg e f c d m.own in
    let fresh : is_fresh (voices f d) now ≡ false = sym (ap (λ b. b && is_fresh (voices f d) now) m.mutes) ∙ soon in
    let fresh' : is_fresh (voices e c) now ≡ false =
    subst (λ (z : ℕ). is_fresh (voices e z) now ≡ false) p.1
    (subst (λ (g : End). is_fresh (voices g d) now ≡ false) p.0 fresh) in
    not_fresh (voices e c) (leg_at e c t) now (are e c) fresh' m.up m.talks
late_by voices t are now _ soon e c m = absurd (false≢true m.mutes)

soon_by : (voices : End → ℕ → Option Voice) (t : List Entry) → AreVoices voices t → (now : ℕ) (n : Note) →
    ((e : End) (c : ℕ) → TurnsMuted e c (leg_at e c t) (record { tick = now; note = n }) →
    (leg_at e c t).since + least_opening ≤ now) → is_too_soon voices n now ≡ false
soon_by voices t are now (note.Voice f d u w) late = at (not (u && w)) refl (is_fresh (voices f d) now) refl
  where
    at : (b : Bool) → not (u && w) ≡ b → (g : Bool) → is_fresh (voices f d) now ≡ g → b && g ≡ false
    at false m g e = refl
    at true m false e = refl
    at true m true e =
        let s = fresh_soon (voices f d) (leg_at f d t) now (are f d) e in
        absurd
        (s.2 (late f d (record { own = leg_here f d d ∙ eq-eqb d d refl; mutes = m; up = s.0; talks = s.1 })))
soon_by voices t are now _ late = refl

-- the limits, by what is kept of each end
abbrev pub AllWithin : (End → ℕ → Option Voice) → ℕ → Type 0
AllWithin voices now = (e : End) → AreWithin (voices e) now (muting_limit e)

bounded_later : (t : List Entry) (before now : ℕ) → Bounded t before →
    ((e : End) (c : ℕ) → IsWithin e now (leg_at e c t)) → Bounded t now
bounded_later t before now h w = λ e c. record { each = (h e c).each; last = w e c }

pub bounded_yes : (voices : End → ℕ → Option Voice) (t : List Entry) (x : Entry) (before : ℕ) → AreVoices voices t →
    Bounded t before → AllWithin voices x.tick → is_too_soon voices x.note x.tick ≡ false →
    Bounded (t ++ x ∷ []) x.tick
bounded_yes voices t x before are h w soon =
    let within : (e : End) (c : ℕ) → IsWithin e x.tick (leg_at e c t) =
    λ e c. within_leg (muting_limit e) x.tick (voices e c) (leg_at e c t) (are e c) (w e c) in
    (bounded_one t x x.tick).1 (
      bounded_later t before x.tick h within,
      late_by voices t are x.tick x.note soon,
      λ e c. subst (λ (z : Leg). IsWithin e x.tick z) (sym (leg_one e c t x)) (step_within e c (leg_at e c t) x
          (within e c)),
    )

pub bounded_no : (voices : End → ℕ → Option Voice) (t : List Entry) (x : Entry) → AreVoices voices t →
    Bounded (t ++ x ∷ []) x.tick → AllWithin voices x.tick × (is_too_soon voices x.note x.tick ≡ false)
bounded_no voices t x are h =
    let b = (bounded_one t x x.tick).0 h in (
      λ e c v is muted. leg_within (muting_limit e) x.tick (voices e c) (leg_at e c t) (are e c) (b.0 e c).last v is
          muted,
      soon_by voices t are x.tick x.note b.1,
    )

pub opens_by : (leg : LegOf) (o : Option LegOf) (n : Note) (answer : Bool) → o ≡ Some leg →
    (IsTrue answer ↔ (n ≡ note.Voice leg.of leg.call true true)) →
    (IsTrue answer ↔ ((e : End) (c : ℕ) → IsOwed o e c → n ≡ note.Voice e c true true))
opens_by leg o n answer is h =
    subst (λ z. IsTrue answer ↔ ((e : End) (c : ℕ) → IsOwed z e c → n ≡ note.Voice e c true true)) (sym is)
    (λ a e c p. rw (← p.0, ← p.1) (h.0 a), λ all. h.1 (all leg.of leg.call (refl, refl)))

-- The rules, each by what is kept.

pub agreed_by : (t : List Entry) (x : Entry) (answer : Bool) → Agreed t → (IsTrue answer ↔ IsShownFirst t x.note) →
    (IsTrue answer ↔ Agreed (t ++ x ∷ []))
agreed_by t x answer h i = (λ a. (agreed_one t x).1 (h, i.0 a), λ a. i.1 ((agreed_one t x).0 a).1)

pub opened_by : (owed : Option LegOf) (t : List Entry) (x : Entry) (answer : Bool) → Opened t →
    ((e : End) (c : ℕ) → OwesOpening e c first_leg t ↔ IsOwed owed e c) →
    (IsTrue answer ↔ ((e : End) (c : ℕ) → IsOwed owed e c → x.note ≡ note.Voice e c true true)) →
    (IsTrue answer ↔ Opened (t ++ x ∷ []))
opened_by owed t x answer h o i = (
  λ a. (opened_one t x).1 (h, λ e c owes. i.0 a e c ((o e c).0 owes)),
  λ a. i.1 (λ e c owes. ((opened_one t x).0 a).1 e c ((o e c).1 owes)),
)

pub too_long : (rules : Rules) (e : End) (t : List Entry) (x : Entry) (answer : Bool) → RulesStandFor rules t →
    answer ≡ false → (IsTrue answer ↔ AreWithin (voice_of rules e) x.tick (muting_limit e)) →
    (IsTrue false ↔ Bounded (t ++ x ∷ []) x.tick)
too_long rules e t x answer h is i = (
  λ a. absurd (false≢true a),
  λ b. sym is ∙ i.1 ((bounded_no (voice_of rules) t
      x (voices_stand rules t h.vehicle h.point) b).0 e),
)

both_within : (rules : Rules) (now : ℕ) → AreWithin (voice_at rules.vehicle) now 320 →
    AreWithin (voice_at rules.point) now 275 → AllWithin (voice_of rules) now
both_within rules now v p «end».Vehicle = v
both_within rules now v p «end».Point = p

not_true : (b : Bool) → not b ≡ true → b ≡ false
not_true true h = sym h
not_true false h = refl

soon_same : (f g : End → ℕ → Option Voice) → ((e : End) (c : ℕ) → f e c ≡ g e c) → (n : Note) (now : ℕ) →
    is_too_soon f n now ≡ is_too_soon g n now
soon_same f g same (note.Voice e c u w) now = ap (λ o. not (u && w) && is_fresh o now) (same e c)
soon_same f g same _ now = refl

voice_same : (old new : Rules) → new.vehicle.up ≡ old.vehicle.up → new.point.up ≡ old.point.up → (e : End) (c : ℕ) →
    voice_of new e c ≡ voice_of old e c
voice_same old new v p «end».Vehicle c = ap (λ u. get nat_eq u c) v
voice_same old new v p «end».Point c = ap (λ u. get nat_eq u c) p

pub bounded_by : (rules after : Rules) (t : List Entry) (x : Entry) (soon : Bool) → RulesStandFor rules t →
    AreWithin (voice_at rules.vehicle) x.tick 320 → AreWithin (voice_at rules.point) x.tick 275 →
    after.vehicle.up ≡ rules.vehicle.up → after.point.up ≡ rules.point.up →
    soon ≡ is_too_soon (voice_of after) x.note x.tick → (IsTrue (not soon) ↔ Bounded (t ++ x ∷ []) x.tick)
bounded_by rules after t x soon h v p ups upp is =
    let are = voices_stand rules t h.vehicle h.point in
    let same : soon ≡ is_too_soon (voice_of rules) x.note x.tick =
    is ∙ soon_same (voice_of after) (voice_of rules) (voice_same rules after ups upp) x.note x.tick in (
      λ a.
          bounded_yes (voice_of rules) t x (last_tick t) are h.safe.bounded (both_within rules x.tick v p)
          (sym same ∙ not_true soon a),
      λ b. ap not (same ∙ (bounded_no (voice_of rules) t x are b).1),
    )

-- The opening that is owed behind an entry that was taken.
pub owed_taken : (rules : Rules) (t : List Entry) (x : Entry) (owed : Option LegOf) → RulesStandFor rules t →
    owed ≡ owed_behind (voice_of rules) x.note → (e : End) (c : ℕ) →
    (OwesOpening e c first_leg (t ++ x ∷ []) ↔ IsOwed owed e c)
owed_taken rules t x owed h is e c =
    subst (λ o. OwesOpening e c first_leg (t ++ x ∷ []) ↔ IsOwed o e c) (sym is)
    (owed_more (voice_of rules) t x (voices_stand rules t h.vehicle h.point) e c)
