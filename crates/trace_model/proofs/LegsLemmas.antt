-- What an item does to the voices that are kept, and to the stretches of muting beside them.
use Rattle.std.specs.Prelude.{◌≡◌, ◌≤◌, ◌<◌, ◌-◌, ◌↔◌, ◌⊎◌, ◌==◌, ◌&&◌, ◌||◌, not, ℕ, Bool, true, false, List, [], ◌∷◌, ◌++◌, Option, Some, None, Result, Ok, Err, OnOk, nat_eq, if◌then◌else◌}
use Rattle.std.specs.Borrow.{Bor}
use Rattle.std.specs.List.{AllByRecursion}
use Rattle.std.specs.Slice.{IsItemAt}
use Rattle.std.specs.HashMap.{get}
use Rattle.std.specs.Bool.{beq}
use Rattle.std.specs.Option.{option_copied}
use Rattle.std.proofs.Common.{refl, sym, ap, subst, ◌∙◌, inl, inr, arith}
use Rattle.std.proofs.lemmas.Bool.{false≢true, true≢false, eq-eqb, eqb-true}
use Rattle.link_frames.specs.declared.note.Note.{Note}
use Rattle.link_frames.specs.declared.note.Note.TheVariants as note
use Rattle.trace_model.specs.declared.legs.Legs.{Legs}
use Rattle.trace_model.specs.declared.legs.Muting.{Muting}
use Rattle.trace_model.specs.declared.voice.Voice.{Voice}
use Rattle.trace_model.specs.LegsStand.{AreInOrder, IsQueued, Keeps, voice_at}
use Rattle.trace_model.specs.LegsMoved.{AreWithin, changed, voice_behind}
use Rattle.trace_model.specs.inner.Mutings.{IsOldest, NotesMuting, is_muted_since}

-- Stretches of muting in order.

pub order_later : (ms : List Muting) (before now : ℕ) → before ≤ now → AreInOrder ms before → AreInOrder ms now
order_later [] before now le h = tt
order_later (m ∷ ms) before now le h = let first = h.0 in (omega arith, h.1, order_later ms before now le h.2)

all_reach : (s now : ℕ) (ms : List Muting) (m : Muting) → s ≤ now → m.since ≡ now →
    AllByRecursion (λ n. s ≤ n.since) ms → AllByRecursion (λ n. s ≤ n.since) (ms ++ m ∷ [])
all_reach s now [] m le e h = (omega arith, tt)
all_reach s now (n ∷ ms) m le e h = (h.0, all_reach s now ms m le e h.1)

order_more : (ms : List Muting) (m : Muting) (before now : ℕ) → before ≤ now → m.since ≡ now → AreInOrder ms before →
    AreInOrder (ms ++ m ∷ []) now
order_more [] m before now le e h = (omega arith, tt, tt)
order_more (n ∷ ms) m before now le e h =
    let first = h.0 in
    let reached : n.since ≤ now = omega arith in
    (reached, all_reach n.since now ms m reached e h.1, order_more ms m before now le e h.2)

queued_more : (c s : ℕ) (ms : List Muting) (m : Muting) → IsQueued c s ms → IsQueued c s (ms ++ m ∷ [])
queued_more c s [] m h = absurd h
queued_more c s (n ∷ ms) m (inl h) = inl h
queued_more c s (n ∷ ms) m (inr h) = inr (queued_more c s ms m h)

queued_last : (c s : ℕ) (ms : List Muting) → IsQueued c s (ms ++ (record { call = c; since = s }) ∷ [])
queued_last c s [] = inl (refl, refl)
queued_last c s (n ∷ ms) = inr (queued_last c s ms)

queued_after : (c s since : ℕ) (ms : List Muting) → AllByRecursion (λ n. s ≤ n.since) ms → IsQueued c since ms →
    s ≤ since
queued_after c s since [] h q = absurd q
queued_after c s since (n ∷ ms) h (inl q) = let first = h.0 in let same = q.1 in omega arith
queued_after c s since (n ∷ ms) h (inr q) = queued_after c s since ms h.1 q

-- A muted voice.

is_muted_here : (v : Voice) (s : ℕ) → v.talks ≡ false → v.since ≡ s → is_muted_since (Some v) s ≡ true
is_muted_here v s t e = rw t (eq-eqb v.since s e)

muted_parts : (talks : Bool) (same : Bool) → not talks && same ≡ true → (talks ≡ false) × (same ≡ true)
muted_parts true same h = absurd (false≢true h)
muted_parts false same h = (refl, h)

pub muted_voice : (o : Option Voice) (s : ℕ) → is_muted_since o s ≡ true →
    (v : Voice) × (o ≡ Some v) × (v.talks ≡ false) × (v.since ≡ s)
muted_voice None s h = absurd (false≢true h)
muted_voice (Some v) s h =
    let p = muted_parts v.talks (v.since == s) h in (v, refl, p.0, eqb-true v.since s p.1)

-- One leg goes down.

pub lowered_keeps : (voices voices' : ℕ → Option Voice) (call : ℕ) (ms : List Muting) (before now : ℕ) → before ≤ now →
    ((q : ℕ) → voices' q ≡ changed voices call None q) → Keeps voices ms before → Keeps voices' ms now
lowered_keeps voices voices' call ms before now le e h =
    record {
      queued = λ c v is muted. at c v (call == c) (sym (e c) ∙ is) muted;
      order = order_later ms before now le h.order;
    }
  where
    at : (c : ℕ) (v : Voice) (b : Bool) → (if b then None else voices c) ≡ Some v → v.talks ≡ false →
        IsQueued c v.since ms
    at c v true is muted = cc
    at c v false is muted = h.queued c v is muted

-- One leg is up with a voice.

still_muted : (w v : Voice) → w ≡ v → v.talks ≡ false → is_muted_since (Some w) v.since ≡ false → ⊥
still_muted w v same muted new =
    true≢false
    (sym (is_muted_here w v.since (ap (λ (z : Voice). z.talks) same ∙ muted) (ap (λ (z : Voice). z.since) same)) ∙ new)

some_same : (w v : Voice) → Some w ≡ Some v → w ≡ v
some_same w v e = cc

-- a muted voice that wasn't so before is muted since now
pub muted_now : (b : Option Voice) (n : Note) (now : ℕ) (v : Voice) → voice_behind b n now ≡ Some v → v.talks ≡ false →
    is_muted_since b v.since ≡ false → v.since ≡ now
muted_now None (note.Up e c) now v is muted new = sym (ap (λ (z : Voice). z.since) (some_same _ v is))
muted_now (Some w) (note.Up e c) now v is muted new = absurd (still_muted w v (some_same w v is) muted new)
muted_now b (note.Down e c why) now v is muted new = cc
muted_now None (note.Voice e c up down) now v is muted new = cc
muted_now (Some w) (note.Voice e c up down) now v is muted new = at (beq w.talks (up && down)) (some_same _ v is)
  where
    at : (s : Bool) → (if s then w else record { talks = up && down; since = now }) ≡ v → v.since ≡ now
    at true same = absurd (still_muted w v same muted new)
    at false same = sym (ap (λ (z : Voice). z.since) same)
muted_now b _ now v is muted new = absurd (still_muted v v refl muted (subst (λ o. is_muted_since o v.since ≡ false)
    is new))

put_order : (ms ms' : List Muting) (call before now : ℕ) (b : Option Voice) (n : Note) (v : Voice) → before ≤ now →
    voice_behind b n now ≡ Some v → NotesMuting call b v ms ms' → AreInOrder ms before → AreInOrder ms' now
put_order ms ms' call before now b n v le is notes h = at v.talks refl (is_muted_since b v.since) refl
  where
    at : (talks : Bool) → v.talks ≡ talks → (was : Bool) → is_muted_since b v.since ≡ was → AreInOrder ms' now
    at true t was w = subst (λ z. AreInOrder z now) (sym (notes.still (rw t refl))) (order_later ms before now le h)
    at false t true w = subst (λ z. AreInOrder z now) (sym (notes.still (rw (t, w) refl))) (order_later ms before
        now le h)
    at false t false w =
        subst (λ z. AreInOrder z now) (sym (notes.noted (rw (t, w) refl)))
        (order_more ms (record { call = call; since = v.since }) before now le (muted_now b n now v is t w) h)

grown_queue : (ms ms' : List Muting) (call : ℕ) (b : Option Voice) (v : Voice) → NotesMuting call b v ms ms' →
    (c s : ℕ) → IsQueued c s ms → IsQueued c s ms'
grown_queue ms ms' call b v notes c s h = at (v.talks || is_muted_since b v.since) refl
  where
    at : (quiet : Bool) → (v.talks || is_muted_since b v.since) ≡ quiet → IsQueued c s ms'
    at true e = subst (λ z. IsQueued c s z) (sym (notes.still e)) h
    at false e = subst (λ z. IsQueued c s z) (sym (notes.noted e)) (queued_more c s ms _ h)

put_queue : (ms ms' : List Muting) (call : ℕ) (b : Option Voice) (v : Voice) → NotesMuting call b v ms ms' →
    ((w : Voice) → b ≡ Some w → w.talks ≡ false → IsQueued call w.since ms) → v.talks ≡ false →
    IsQueued call v.since ms'
put_queue ms ms' call b v notes queued muted = at (is_muted_since b v.since) refl
  where
    at : (was : Bool) → is_muted_since b v.since ≡ was → IsQueued call v.since ms'
    at true e =
        let w = muted_voice b v.since e in
        subst (λ z. IsQueued call v.since z) (sym (notes.still (rw (muted, e) refl)))
        (subst (λ s. IsQueued call s ms) w.3 (queued w.0 w.1 w.2))
    at false e =
        subst (λ z. IsQueued call v.since z) (sym (notes.noted (rw (muted, e) refl))) (queued_last call v.since ms)

pub put_keeps : (voices voices' : ℕ →
    Option Voice) (call : ℕ) (ms ms' : List Muting) (before now : ℕ) (n : Note) (v : Voice)
    → before ≤ now → voice_behind (voices call) n now ≡ Some v →
    ((q : ℕ) → voices' q ≡ changed voices call (Some v) q) → NotesMuting call (voices call) v ms ms' →
    Keeps voices ms before → Keeps voices' ms' now
put_keeps voices voices' call ms ms' before now n v le is e notes h =
    record {
      queued = λ c w here muted. at c w (call == c) refl (sym (e c) ∙ here) muted;
      order = put_order ms ms' call before now (voices call) n v le is notes h.order;
    }
  where
    at : (c : ℕ) (w : Voice) (b : Bool) → (call == c) ≡ b → (if b then Some v else voices c) ≡ Some w →
        w.talks ≡ false →
        IsQueued c w.since ms'
    at c w true same here muted =
        let one : v ≡ w = some_same v w here in
        subst (λ d. IsQueued d w.since ms') (eqb-true call c same)
        (subst (λ (z : Voice). IsQueued call z.since ms') one
        (put_queue ms ms' call (voices call) v notes (h.queued call) (ap (λ (z : Voice). z.talks) one ∙ muted)))
    at c w false same here muted =
        grown_queue ms ms' call (voices call) v notes c w.since (h.queued c w here muted)

-- The longest stretch.

pub first_item : (items : List Muting) (o : Option (Bor Muting)) (first : Muting) → option_copied o ≡ Some first →
    IsItemAt items 0 o → (rest : List Muting) × (items ≡ first ∷ rest)
first_item [] None first is h = cc
first_item [] (Some x) first is h = let none : 0 < 0 = h.3.0 in absurd (omega arith)
first_item (m ∷ ms) None first is h = cc
first_item (m ∷ ms) (Some x) first is h = (ms, ap (λ (z : Muting). z ∷ ms) (sym h.1 ∙ here x.now first is))
  where
    here : (a b : Muting) → Some a ≡ Some b → a ≡ b
    here a b e = cc

pub front_gone : (voices : ℕ → Option Voice) (m : Muting) (ms : List Muting) (now : ℕ) →
    is_muted_since (voices m.call) m.since ≡ false → Keeps voices (m ∷ ms) now → Keeps voices ms now
front_gone voices m ms now gone h = record {
  queued = λ c v is muted. at c v is muted (h.queued c v is muted);
  order
      = h.order.2;
}
  where
    at : (c : ℕ) (v : Voice) → voices c ≡ Some v → v.talks ≡ false →
        ((m.call ≡ c) × (m.since ≡ v.since)) ⊎ IsQueued c v.since ms → IsQueued c v.since ms
    at c v is muted (inl p) =
        let here : voices m.call ≡ Some v = ap voices p.0 ∙ is in
        absurd
        (true≢false
        (sym (is_muted_here v m.since muted (sym p.1)) ∙ (sym (ap (λ o. is_muted_since o m.since) here) ∙ gone)))
    at c v is muted (inr p) = p

pub front_oldest : (voices : ℕ → Option Voice) (m : Muting) (ms : List Muting) (now : ℕ) →
    is_muted_since (voices m.call) m.since ≡ true → Keeps voices (m ∷ ms) now → IsOldest voices (Some m.since)
front_oldest voices m ms now live h =
    let w = muted_voice (voices m.call) m.since live in
    ((m.call, w.0, w.1, w.2, w.3), λ c v is muted. at c v (h.queued c v is muted))
  where
    at : (c : ℕ) (v : Voice) → ((m.call ≡ c) × (m.since ≡ v.since)) ⊎ IsQueued c v.since ms → m.since ≤ v.since
    at c v (inl p) = let same = p.1 in omega arith
    at c v (inr p) = queued_after c m.since v.since ms h.order.1 p

pub none_oldest : (voices : ℕ → Option Voice) (ms : List Muting) (now : ℕ) → ms ≡ [] → Keeps voices ms now →
    IsOldest voices None
none_oldest voices ms now e h = λ c v is muted. subst (λ z. IsQueued c v.since z) e (h.queued c v is muted)

pub within_oldest : (voices : ℕ → Option Voice) (since now limit : ℕ) → IsOldest voices (Some since) →
    (now - since ≤ limit ↔ AreWithin voices now limit)
within_oldest voices since now limit h = (
  λ le. λ c v is muted. let s = h.1 c v is muted in omega arith,
  λ w. let le = w h.0.0 h.0.1 h.0.2 h.0.3 in let same = h.0.4 in omega arith,
)

pub within_none : (voices : ℕ → Option Voice) (now limit : ℕ) → IsOldest voices None → AreWithin voices now limit
within_none voices now limit h = λ c v is muted. absurd (h c v is muted)

-- One leg moves.

pub on_map : {A E : Type 0} (r : Result A E) (P Q : Type 0) → (P → Q) → OnOk r P → OnOk r Q
on_map (Ok x) P Q f p = f p
on_map (Err e) P Q f p = tt

pub lowered : (old new : Legs) (call before now : ℕ) → before ≤ now → new.muted ≡ old.muted →
    ((q : ℕ) → voice_at new q ≡ changed (voice_at old) call None q) → Keeps (voice_at old) old.muted.items before →
    Keeps (voice_at new) new.muted.items now
lowered old new call before now le same is h =
    subst (λ q. Keeps (voice_at new) q.items now) (sym same)
    (lowered_keeps (voice_at old) (voice_at new) call old.muted.items before now le is h)

pub is_put : (old put new : Legs) (call before now : ℕ) (b : Option Voice) (n : Note) (v : Voice) → before ≤ now →
    b ≡ voice_at old call → voice_behind b n now ≡ Some v →
    ((q : ℕ) → voice_at put q ≡ changed (voice_at old) call (Some v) q) → put.muted ≡ old.muted → new.up ≡ put.up →
    Keeps (voice_at old) old.muted.items before → NotesMuting call b v put.muted.items new.muted.items →
    Keeps (voice_at new) new.muted.items now
is_put old put new call before now b n v le was is puts same up h notes =
    put_keeps (voice_at old) (voice_at new) call old.muted.items new.muted.items before now n v le
    (ap (λ o. voice_behind o n now) (sym was) ∙ is) (λ q. ap (λ u. get nat_eq u q) up ∙ puts q)
    (subst (λ o. NotesMuting call o v old.muted.items new.muted.items) was
    (subst (λ q. NotesMuting call b v q.items new.muted.items) same notes)) h
