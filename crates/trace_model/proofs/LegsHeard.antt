-- What one more entry does to the legs of an end that are kept.
use Rattle.std.specs.Prelude.{◌≡◌, ◌≤◌, ◌==◌, ◌&&◌, ℕ, Bool, true, false, List, [], ◌∷◌, ◌++◌, Option, Some, None, if◌then◌else◌}
use Rattle.std.specs.Bool.{beq}
use Rattle.std.specs.Cmp.{nat_eq_equiv}
use Rattle.std.proofs.Common.{refl, sym, ap, subst, ◌∙◌}
use Rattle.std.proofs.lemmas.Bool.{false≢true, true≢false, eqb-true}
use Rattle.link_frames.specs.declared.frame.End.{End}
use Rattle.link_frames.specs.declared.frame.End.TheVariants as «end»
use Rattle.link_frames.specs.declared.note.Note.{Note}
use Rattle.link_frames.specs.declared.note.Note.TheVariants as note
use Rattle.trace_model.specs.declared.entry.Entry.{Entry}
use Rattle.trace_model.specs.declared.legs.Legs.{Legs}
use Rattle.trace_model.specs.declared.voice.Voice.{Voice}
use Rattle.trace_model.specs.Safety.{Leg, is_leg, is_own, leg_at, leg_behind, leg_moved, leg_step, revoiced, same_end}
use Rattle.trace_model.specs.Tallies.{last_tick}
use Rattle.trace_model.specs.LegsStand.{IsVoiceOf, Keeps, LegsStandFor, voice_at}
use Rattle.trace_model.specs.LegsMoved.{Moves, MovesNone, changed, turned, voice_behind}
use Rattle.trace_model.proofs.Fronts.{leg_one}
use Rattle.trace_model.proofs.LegsLemmas.{order_later}

pub last_one : (t : List Entry) (x : Entry) → last_tick (t ++ x ∷ []) ≡ x.tick
last_one [] x = refl
last_one (y ∷ []) x = refl
last_one (y ∷ z ∷ t) x = last_one (z ∷ t) x

own_moves : (e f : End) (c d : ℕ) (n : Note) → Moves f d n → is_own e c n ≡ is_leg e c f d
own_moves e f c d (note.Up g k) h = rw (h.0, h.1) refl
own_moves e f c d (note.Down g k why) h = rw (h.0, h.1) refl
own_moves e f c d (note.Voice g k u w) h = rw (h.0, h.1) refl
own_moves e f c d _ h = absurd h

pub leg_here : (e : End) (c d : ℕ) → is_leg e c e d ≡ (d == c)
leg_here «end».Vehicle c d = nat_eq_equiv.symm c d
leg_here «end».Point c d = nat_eq_equiv.symm c d

quiet_leg : (leg : Leg) (now : ℕ) (n : Note) → MovesNone n → leg_moved leg now n ≡ leg
quiet_leg leg now (note.Up e c) h = absurd h
quiet_leg leg now (note.Down e c why) h = absurd h
quiet_leg leg now (note.Voice e c u w) h = absurd h
quiet_leg leg now _ h = refl

-- the leg behind an item that moves none, or that of another end
quiet_behind : (e : End) (c : ℕ) (leg : Leg) (x : Entry) → MovesNone x.note → leg_behind e c leg x ≡ leg
quiet_behind e c leg x h = at (is_own e c x.note)
  where
    at : (b : Bool) → (if b then leg_moved leg x.tick x.note else leg) ≡ leg
    at true = quiet_leg leg x.tick x.note h
    at false = refl

other_behind : (e f : End) (c d : ℕ) (leg : Leg) (x : Entry) → same_end e f ≡ false → Moves f d x.note →
    leg_behind e c leg x ≡ leg
other_behind e f c d leg x apart h =
    ap (λ b. if b then leg_step leg x else leg) (own_moves e f c d x.note h ∙ ap (λ b. b && (c == d)) apart)

own_behind : (e : End) (c d : ℕ) (leg : Leg) (x : Entry) → Moves e d x.note →
    leg_behind e c leg x ≡ (if d == c then leg_moved leg x.tick x.note else leg)
own_behind e c d leg x h =
    ap (λ b. if b then leg_step leg x else leg) (own_moves e e c d x.note h ∙ leg_here e c d)

turned_voice : (v : Voice) (leg : Leg) (talks : Bool) (now : ℕ) → IsVoiceOf (Some v) leg →
    IsVoiceOf (turned (Some v) talks now) (revoiced leg now leg.talks talks)
turned_voice v leg talks now h = at v.talks leg.talks talks h.1 refl refl
  where
    at : (was was' will : Bool) → was' ≡ was → v.talks ≡ was → leg.talks ≡ was' →
        IsVoiceOf (Some (if beq was will then v else record { talks = will; since = now })) (revoiced leg now was' will)
    at true true true s p q = (h.0, h.1, h.2)
    at true true false s p q = (h.0, refl, refl)
    at false false true s p q = (h.0, refl, refl)
    at false false false s p q = (h.0, h.1, h.2)
    at true false will s p q = absurd (false≢true s)
    at false true will s p q = absurd (true≢false s)

revoiced_down : (leg : Leg) (now : ℕ) (was will : Bool) → leg.up ≡ false → (revoiced leg now was will).up ≡ false
revoiced_down leg now true true h = h
revoiced_down leg now true false h = h
revoiced_down leg now false true h = h
revoiced_down leg now false false h = h

moved_voice : (v : Option Voice) (leg : Leg) (n : Note) (now : ℕ) → IsVoiceOf v leg →
    IsVoiceOf (voice_behind v n now) (leg_moved leg now n)
moved_voice None leg (note.Up e c) now h = rw h (refl, refl, refl)
moved_voice (Some v) leg (note.Up e c) now h = rw h.0 (refl, h.1, h.2)
moved_voice v leg (note.Down e c why) now h = refl
moved_voice None leg (note.Voice e c u w) now h = revoiced_down leg now leg.talks (u && w) h
moved_voice (Some v) leg (note.Voice e c u w) now h = turned_voice v leg (u && w) now h
moved_voice v leg _ now h = h

voice_more : (e : End) (voices : ℕ → Option Voice) (c d : ℕ) (leg : Leg) (x : Entry) → Moves e d x.note →
    IsVoiceOf (voices c) leg → (c ≡ d → IsVoiceOf (voices d) leg) →
    IsVoiceOf (changed voices d (voice_behind (voices d) x.note x.tick) c) (leg_behind e c leg x)
voice_more e voices c d leg x moves h here =
    subst (λ (z : Leg). IsVoiceOf (changed voices d (voice_behind (voices d) x.note x.tick) c) z)
    (sym (own_behind e c d leg x moves)) (at (d == c) refl)
  where
    at : (b : Bool) → (d == c) ≡ b →
        IsVoiceOf (if b then voice_behind (voices d) x.note x.tick else voices c)
        (if b then leg_moved leg x.tick x.note else leg)
    at true e' = moved_voice (voices d) leg x.note x.tick (here (sym (eqb-true d c e')))
    at false e' = h

pub legs_heard : (e : End) (legs legs' : Legs) (t : List Entry) (x : Entry) (call : ℕ) → Moves e call x.note →
    ((q : ℕ) → voice_at legs' q ≡ changed (voice_at legs) call (voice_behind (voice_at legs call) x.note x.tick) q) →
    Keeps (voice_at legs') legs'.muted.items x.tick → LegsStandFor e legs t → LegsStandFor e legs' (t ++ x ∷ [])
legs_heard e legs legs' t x call moves is keeps h =
    record {
      voices = λ c. subst (λ (z : Option Voice). IsVoiceOf z (leg_at e c (t ++ x ∷ []))) (sym (is c))
          (subst (λ (z : Leg). IsVoiceOf (changed (voice_at legs) call (voice_behind (voice_at legs call) x.note
          x.tick) c) z)
          (sym (leg_one e c t x))
          (voice_more e (voice_at legs) c call (leg_at e c t) x moves (h.voices c)
          (λ same. subst (λ (d : ℕ). IsVoiceOf (voice_at legs d) (leg_at e c t)) same (h.voices c))));
      keeps = subst (λ n. Keeps (voice_at legs') legs'.muted.items n) (sym (last_one t x)) keeps;
    }

stood : (e : End) (legs : Legs) (t : List Entry) (x : Entry) → ((c : ℕ) →
    leg_behind e c (leg_at e c t) x ≡ leg_at e c t) →
    last_tick t ≤ x.tick → LegsStandFor e legs t → LegsStandFor e legs (t ++ x ∷ [])
stood e legs t x same le h =
    record {
      voices = λ c. subst (λ (z : Leg). IsVoiceOf (voice_at legs c) z) (sym (leg_one e c t x ∙ same c)) (h.voices c);
      keeps = subst (λ n. Keeps (voice_at legs) legs.muted.items n) (sym (last_one t x))
          (record {
            queued = h.keeps.queued;
            order = order_later legs.muted.items (last_tick t) x.tick le
                h.keeps.order;
          });
    }

pub legs_others : (e f : End) (legs : Legs) (t : List Entry) (x : Entry) (call : ℕ) → same_end e f ≡ false →
    Moves f call x.note → last_tick t ≤ x.tick → LegsStandFor e legs t → LegsStandFor e legs (t ++ x ∷ [])
legs_others e f legs t x call apart moves = stood e legs t x (λ c. other_behind e f c call (leg_at e c t) x apart moves)

pub legs_quiet : (e : End) (legs : Legs) (t : List Entry) (x : Entry) → MovesNone x.note → last_tick t ≤ x.tick →
    LegsStandFor e legs t → LegsStandFor e legs (t ++ x ∷ [])
legs_quiet e legs t x none = stood e legs t x (λ c. quiet_behind e c (leg_at e c t) x none)
