-- When frames were sent, and in which calls: what is noted stays noted, and is found by its tick.
use Rattle.std.proofs.Common.{◌≡◌, ℕ, zero, suc, ◌<◌, ◌≤◌, ◌+◌, ◌-◌, ◌⊎◌, inl, inr, if◌then◌else◌, Bool, true, false, leb, Option, Some, None, IfSome, Result, Ok, Err, IfOk, List, [], ◌∷◌, ◌++◌, length, get_or, take, drop, map, refl, ap, sym, ◌∙◌, subst, arith, add-one, length-drop}
use Rattle.std.proofs.Math.ListN.{set}
use Rattle.std.specs.List.{AllByRecursion, Contains, dedup}
use Rattle.std.specs.List.Sorted.{IsPermutation, IsSorted, IsStrictlyIncreasing}
use Rattle.std.specs.Ordering.{nat_cmp}
use Rattle.std.proofs.lemmas.Bool.{leb-true, leb-false}
use Rattle.std.proofs.lemmas.List.Kept.{Contains-dedup_nat}
use Rattle.std.proofs.lemmas.List.Sorted.{Contains-permutation}
use Rattle.std.proofs.lemmas.Map.Keys.{IsStrictlyIncreasing-dedup}
use lib.Dec.{eqb}
use Rattle.link_frames.specs.declared.frame.Frame.{Frame}
use Rattle.trace_model.specs.History.{Sent}
use Rattle.channel_sim.specs.declared.calls.call.Call as kept
use Rattle.channel_sim.specs.declared.calls.sendings.Sending.{Sending}
use Rattle.channel_sim.specs.Quiet.{FramesRest}
use Rattle.channel_sim.specs.Tidy.{AreAbove, AreFrom}
use Rattle.channel_sim.specs.inner.Sendings.{SentSince, HasSending, IsNoted, AreNoted, IsNotedCall, IsPlaceBehind}
use Rattle.channel_sim.specs.inner.Sends.{IsFirstFrom}
use Rattle.channel_sim.specs.inner.Turns.{IsAmong, Rise}
use Rattle.channel_sim.proofs.StepLemmas.{take_all}

-- Calls whose frames are noted.

-- a call with the frames of one that is noted
same_noted : (up down : SentSince) (x y : kept.Call) → y.number ≡ x.number → y.up ≡ x.up → y.down ≡ x.down → IsNotedCall up down x → IsNotedCall up down y
same_noted up down x y number same_up same_down h =
    record {
      up = subst (AreNoted up y.number) (sym same_up) (subst (λ n. AreNoted up n x.up) (sym number) h.up);
      down = subst (AreNoted down y.number) (sym same_down) (subst (λ n. AreNoted down n x.down) (sym number) h.down);
    }

-- one call changed, but for its number and its frames
pub noted_set : (up down : SentSince) (xs : List kept.Call) (i : ℕ) (d y : kept.Call) → i < length xs → y.number ≡ (get_or xs i d).number → y.up ≡ (get_or xs i d).up → y.down ≡ (get_or xs i d).down → AllByRecursion (IsNotedCall up down) xs → AllByRecursion (IsNotedCall up down) (set xs i y)
noted_set up down [] i d y inside number same_up same_down h = absurd (omega arith)
noted_set up down (x ∷ xs) zero d y inside number same_up same_down h = (same_noted up down x y number same_up same_down h.0, h.1)
noted_set up down (x ∷ xs) (suc i) d y inside number same_up same_down h = (h.0, noted_set up down xs i d y (omega arith) number same_up same_down h.1)

-- frames of a call that were noted, where what is noted stays
frames_stay : (sent new : SentSince) (c : ℕ) (frames : List Sent) → ((c n : ℕ) → IsNoted c n sent → IsNoted c n new) → AreNoted sent c frames → AreNoted new c frames
frames_stay sent new c [] stay h = tt
frames_stay sent new c (f ∷ frames) stay h = (stay c f.tick h.0, frames_stay sent new c frames stay h.1)

-- what is noted stays
pub noted_more : (up down new_up new_down : SentSince) (xs : List kept.Call) → ((c n : ℕ) → IsNoted c n up → IsNoted c n new_up) → ((c n : ℕ) → IsNoted c n down → IsNoted c n new_down) → AllByRecursion (IsNotedCall up down) xs → AllByRecursion (IsNotedCall new_up new_down) xs
noted_more up down new_up new_down [] more_up more_down h = tt
noted_more up down new_up new_down (x ∷ xs) more_up more_down h = (
  record { up = frames_stay up new_up x.number x.up more_up h.0.up; down = frames_stay down new_down x.number x.down more_down h.0.down },
  noted_more up down new_up new_down xs more_up more_down h.1,
)

-- one frame more, which is noted
pub noted_pushed : (sent : SentSince) (c tick : ℕ) (frames : List Sent) (f : Frame) → IsNoted c tick sent → AreNoted sent c frames → AreNoted sent c (frames ++ record { tick = tick; frame = f } ∷ [])
noted_pushed sent c tick [] f noted h = (noted, tt)
noted_pushed sent c tick (x ∷ frames) f noted h = (h.0, noted_pushed sent c tick frames f noted h.1)

-- Sendings in the order of their ticks.

abbrev pub ticks : List Sending → List ℕ
ticks xs = map (λ x. x.tick) xs

-- the calls of sendings
abbrev pub calls : List Sending → List ℕ
calls xs = map (λ x. x.call) xs

take_ticks : (n : ℕ) (xs : List Sending) → ticks (take n xs) ≡ take n (ticks xs)
take_ticks zero [] = refl
take_ticks (suc n) [] = refl
take_ticks zero (x ∷ xs) = refl
take_ticks (suc n) (x ∷ xs) = ap (λ z. x.tick ∷ z) (take_ticks n xs)

pub drop_ticks : (n : ℕ) (xs : List Sending) → ticks (drop n xs) ≡ drop n (ticks xs)
drop_ticks zero xs = refl
drop_ticks (suc n) [] = refl
drop_ticks (suc n) (x ∷ xs) = drop_ticks n xs

-- each is in front of a place, or from it on
parted : (c n place : ℕ) (xs : List Sending) → HasSending c n xs → HasSending c n (take place xs) ⊎ HasSending c n (drop place xs)
parted c n zero xs has = inr has
parted c n (suc place) [] has = absurd has
parted c n (suc place) (x ∷ xs) (inl here) = inl (inl here)
parted c n (suc place) (x ∷ xs) (inr further) =
    elim (parted c n place xs further) [ inl front ↦ inl (inr front) | inr back ↦ inr back ]

-- where all ticks are below one, that of each is
low : (c n t : ℕ) (xs : List Sending) → AllByRecursion (λ x. x < t) (ticks xs) → HasSending c n xs → n < t
low c n t [] h has = absurd has
low c n t (x ∷ xs) h (inl here) = omega (arith, h.0, here.1)
low c n t (x ∷ xs) h (inr further) = low c n t xs h.1 further

-- where the ticks rise from one, that of each is not below it
high : (c n t : ℕ) (xs : List Sending) → AreFrom t (ticks xs) → HasSending c n xs → t ≤ n
high c n t [] h has = absurd has
high c n t (x ∷ xs) h (inl here) = omega (arith, h.0, here.1)
high c n t (x ∷ xs) h (inr further) =
    let least : t ≤ x.tick = h.0 in
    let more : x.tick ≤ n = high c n x.tick xs h.1 further in omega arith

-- the same from a lower tick on
pub lower : (m n : ℕ) (xs : List ℕ) → m ≤ n → AreFrom n xs → AreFrom m xs
lower m n [] le h = tt
lower m n (x ∷ xs) le h = let least : n ≤ x = h.0 in (omega arith, h.1)

-- those from a place on rise from their tick
pub rise_from : (m t place : ℕ) (xs : List ℕ) → AreFrom m xs → AllByRecursion (λ x. t ≤ x) (drop place xs) → AreFrom t (drop place xs)
rise_from m t zero [] rise h = tt
rise_from m t (suc place) [] rise h = tt
rise_from m t zero (x ∷ xs) rise h = (h.0, rise.1)
rise_from m t (suc place) (x ∷ xs) rise h = rise_from x t place xs rise.1 h

-- what stands behind a place rises
pub rest_rises : (m place : ℕ) (xs : List ℕ) → AreFrom m xs → AreFrom m (drop place xs)
rest_rises m zero xs rise = rise
rest_rises m (suc place) [] rise = tt
rest_rises m (suc place) (x ∷ xs) rise = rest_rises m place xs (lower m x xs rise.0 rise.1)

-- the old ones are left out
pub left_out : (since new t place : ℕ) (xs ys : List Sending) → since ≤ new → t ≤ new → ys ≡ drop place xs → AllByRecursion (λ x. x < t) (take place (ticks xs)) → (c n : ℕ) → IsNoted c n (record { since = since; list = xs }) → IsNoted c n (record { since = new; list = ys })
left_out since new t place xs ys le old same before c n (inl early) = inl (omega arith)
left_out since new t place xs ys le old same before c n (inr has) =
    elim (parted c n place xs has) [
      | inl front ↦ (let early : n < t = low c n t (take place xs) (subst (AllByRecursion (λ x. x < t)) (sym (take_ticks place xs)) before) front in inl (omega arith))
      | inr back ↦ inr (subst (HasSending c n) (sym same) back)
    ]

-- one more
more : (c n i : ℕ) (x : Sending) (xs : List Sending) → HasSending c n xs → HasSending c n (take i xs ++ x ∷ drop i xs)
more c n i x [] has = absurd has
more c n zero x (y ∷ xs) has = inr has
more c n (suc i) x (y ∷ xs) (inl here) = inl here
more c n (suc i) x (y ∷ xs) (inr further) = inr (more c n i x xs further)

-- the one more is among them
itself : (i : ℕ) (x : Sending) (xs : List Sending) → HasSending x.call x.tick (take i xs ++ x ∷ drop i xs)
itself zero x xs = inl (refl, refl)
itself (suc i) x [] = inl (refl, refl)
itself (suc i) x (y ∷ xs) = inr (itself i x xs)

-- what is noted stays noted where one is added
pub more_noted : (c n since i : ℕ) (x : Sending) (xs ys : List Sending) → ys ≡ take i xs ++ x ∷ drop i xs → IsNoted c n (record { since = since; list = xs }) → IsNoted c n (record { since = since; list = ys })
more_noted c n since i x xs ys same (inl early) = inl early
more_noted c n since i x xs ys same (inr has) = inr (subst (HasSending c n) (sym same) (more c n i x xs has))

-- the one more is noted
pub itself_noted : (since i : ℕ) (x : Sending) (xs ys : List Sending) → ys ≡ take i xs ++ x ∷ drop i xs → IsNoted x.call x.tick (record { since = since; list = ys })
itself_noted since i x xs ys same = inr (subst (HasSending x.call x.tick) (sym same) (itself i x xs))

-- one at a place is among them
has_at : (c n i : ℕ) (d : Sending) (xs : List Sending) → i < length xs → (get_or xs i d).call ≡ c → (get_or xs i d).tick ≡ n → HasSending c n xs
has_at c n i d [] inside call tick = absurd (omega arith)
has_at c n zero d (x ∷ xs) inside call tick = inl (call, tick)
has_at c n (suc i) d (x ∷ xs) inside call tick = inr (has_at c n i d xs (omega arith) call tick)

-- the ticks rise with one more behind those that were sent no later
pub added_rise : (m i : ℕ) (x : Sending) (xs : List Sending) → m ≤ x.tick → AreFrom m (ticks xs) → IsPlaceBehind x.tick i (ticks xs) → AreFrom m (ticks (take i xs ++ x ∷ drop i xs))
added_rise m zero x [] le rise place = (le, tt)
added_rise m (suc i) x [] le rise place = (le, tt)
added_rise m zero x (y ∷ xs) le rise place =
    let above : x.tick < y.tick = place.behind.0 in (le, (omega arith, rise.1))
added_rise m (suc i) x (y ∷ xs) le rise place =
    (rise.0, added_rise y.tick i x xs place.before.0 rise.1 (record { before = place.before.1; behind = place.behind }))

-- the first from a tick on is no later than each that was sent from it on
found_first : (m c n t place : ℕ) (xs : List Sending) (d : Sending) → AreFrom m (ticks xs) → AllByRecursion (λ x. x < t) (take place (ticks xs)) → t ≤ n → HasSending c n xs → (place < length xs) × ((get_or xs place d).tick ≤ n)
found_first m c n t place [] d rise before le has = absurd has
found_first m c n t zero (x ∷ xs) d rise before le (inl here) = (omega arith, omega (arith, here.1))
found_first m c n t zero (x ∷ xs) d rise before le (inr further) = (omega arith, high c n x.tick xs rise.1 further)
found_first m c n t (suc place) (x ∷ xs) d rise before le (inl here) =
    let early : x.tick < t = before.0 in
    let same : x.tick ≡ n = here.1 in absurd (omega arith)
found_first m c n t (suc place) (x ∷ xs) d rise before le (inr further) =
    let rest = found_first x.tick c n t place xs d rise.1 before.1 le further in
    let inside : place < length xs = rest.0 in (omega arith, rest.1)

-- each that was sent at the tick from which they rise is in front of the first of another tick
pub all_listed : (t c place : ℕ) (xs : List Sending) (d : Sending) → AreFrom t (ticks xs) → ((get_or xs place d).tick ≡ t → ⊥) → place < length xs → HasSending c t xs → IsAmong c (calls (take place xs))
all_listed t c place [] d rise other inside has = absurd has
all_listed t c zero (x ∷ xs) d rise other inside (inl here) = absurd (other here.1)
all_listed t c zero (x ∷ xs) d rise other inside (inr further) =
    let least : t ≤ x.tick = rise.0 in
    let most : x.tick ≤ t = high c t x.tick xs rise.1 further in
    absurd (other (omega arith))
all_listed t c (suc place) (x ∷ xs) d rise other inside (inl here) = inl here.0
all_listed t c (suc place) (x ∷ xs) d rise other inside (inr further) =
    inr (all_listed t c place xs d (lower t x.tick (ticks xs) rise.0 rise.1) other (omega arith) further)

-- the first of those that rise from a tick is the only one of this tick where the next is of another, or there is none
pub only_first : (t c : ℕ) (x d : Sending) (xs : List Sending) → AreFrom t (ticks xs) → (0 < length xs → (get_or xs 0 d).tick ≡ t → ⊥) → HasSending c t (x ∷ xs) → c ≡ x.call
only_first t c x d xs rise other (inl here) = sym here.0
only_first t c x d [] rise other (inr has) = absurd has
only_first t c x d (y ∷ xs) rise other (inr (inl here)) = absurd (other (omega arith) here.1)
only_first t c x d (y ∷ xs) rise other (inr (inr further)) =
    let least : t ≤ y.tick = rise.0 in
    let most : y.tick ≤ t = high c t y.tick xs rise.1 further in
    absurd (other (omega arith) (omega arith))

-- the call of each is among the calls
pub among_calls : (c n : ℕ) (xs : List Sending) → HasSending c n xs → IsAmong c (calls xs)
among_calls c n [] has = absurd has
among_calls c n (x ∷ xs) (inl here) = inl here.0
among_calls c n (x ∷ xs) (inr further) = inr (among_calls c n xs further)

-- what was sent at a tick is among those from it on
from_place : (c t place : ℕ) (xs : List Sending) → AllByRecursion (λ x. x < t) (take place (ticks xs)) → HasSending c t xs → HasSending c t (drop place xs)
from_place c t place xs before has =
    elim (parted c t place xs has) [
      | inl front ↦ (let early : t < t = low c t t (take place xs) (subst (AllByRecursion (λ x. x < t)) (sym (take_ticks place xs)) before) front in absurd (omega arith))
      | inr back ↦ back
    ]

-- what was noted from a tick on, not older than all, is not before the first from it on
pub found_noted : (since c n t place : ℕ) (xs : List Sending) (d : Sending) → since ≤ t → AreFrom 0 (ticks xs) → AllByRecursion (λ x. x < t) (take place (ticks xs)) → t ≤ n → IsNoted c n (record { since = since; list = xs }) → (place < length xs) × ((get_or xs place d).tick ≤ n)
found_noted since c n t place xs d known rise before le (inl early) = absurd (omega arith)
found_noted since c n t place xs d known rise before le (inr has) = found_first 0 c n t place xs d rise before le has

-- the first from a tick on, in the list that was looked through
pub first_in : (t place : ℕ) (xs ys : List Sending) → ys ≡ xs → (AreFrom 0 (ticks ys) → IsFirstFrom t place (ticks ys)) → AreFrom 0 (ticks xs) → IsFirstFrom t place (ticks xs)
first_in t place xs ys same found rise = subst (λ zs. IsFirstFrom t place (ticks zs)) same (found (subst (λ zs. AreFrom 0 (ticks zs)) (sym same) rise))

-- the call of one sending more
pub calls_more : (i : ℕ) (xs : List Sending) (d : Sending) → i < length xs → calls (take i xs) ++ (get_or xs i d).call ∷ [] ≡ calls (take (i + 1) xs)
calls_more i xs d inside = at i xs inside ∙ ap (λ n. calls (take n xs)) (sym (add-one i))
  where
    at : (i : ℕ) (xs : List Sending) → i < length xs → calls (take i xs) ++ (get_or xs i d).call ∷ [] ≡ calls (take (suc i) xs)
    at i [] inside = absurd (omega arith)
    at zero (x ∷ xs) inside = refl
    at (suc i) (x ∷ xs) inside = ap (λ z. x.call ∷ z) (at i xs (omega arith))

-- the last is noted
pub last_noted : (c n since : ℕ) (d : Sending) (xs ys : List Sending) → ys ≡ xs → 0 < length ys → d ≡ get_or ys (length ys - 1) d → d.call ≡ c → d.tick ≡ n → IsNoted c n (record { since = since; list = xs })
last_noted c n since d xs ys same some last call tick =
    inr (subst (HasSending c n) same (has_at c n (length ys - 1) d ys (omega arith) (sym (ap (λ s. s.call) last) ∙ call) (sym (ap (λ s. s.tick) last) ∙ tick)))

-- the place behind those up to a tick, in the list that was looked through
pub behind_in : (t place : ℕ) (xs ys : List Sending) → ys ≡ xs → (AreFrom 0 (ticks ys) → IsPlaceBehind t place (ticks ys)) → AreFrom 0 (ticks xs) → IsPlaceBehind t place (ticks xs)
behind_in t place xs ys same found rise = subst (λ zs. IsPlaceBehind t place (ticks zs)) same (found (subst (λ zs. AreFrom 0 (ticks zs)) (sym same) rise))

-- what each call has that is found at a tick from its first on, each has that is noted at it, not older than all
pub told_from : (P : ℕ → Type 0) (since c t place : ℕ) (xs ys : List Sending) → ys ≡ xs → since ≤ t → AreFrom 0 (ticks xs) → IsFirstFrom t place (ticks xs) → (AreFrom t (ticks (take (length ys - place) (drop place ys))) → (c : ℕ) → HasSending c t (take (length ys - place) (drop place ys)) → P c) → IsNoted c t (record { since = since; list = xs }) → P c
told_from P since c t place xs ys same known rise first all (inl early) = absurd (omega arith)
told_from P since c t place xs ys same known rise first all (inr has) =
    let whole : take (length ys - place) (drop place ys) ≡ drop place xs = take_all (length ys - place) (drop place ys) (omega (arith, length-drop place ys)) ∙ ap (drop place) same in
    let rest : AreFrom t (ticks (drop place xs)) = subst (AreFrom t) (sym (drop_ticks place xs)) (rise_from 0 t place (ticks xs) rise first.behind) in
    all (subst (λ zs. AreFrom t (ticks zs)) (sym whole) rest) c (subst (HasSending c t) (sym whole) (from_place c t place xs first.before has))

-- Numbers that were sorted, each once.

-- a number that is among these, by its place, and back

among_at : (c : ℕ) (ns : List ℕ) → IsAmong c ns → Contains ns c
among_at c [] has = absurd has
among_at c (n ∷ ns) (inl here) = (0, omega arith, here)
among_at c (n ∷ ns) (inr further) =
    let rest = among_at c ns further in
    let inside : rest.0 < length ns = rest.1 in
    (suc rest.0, omega arith, rest.2)

at_among : (c k : ℕ) (ns : List ℕ) → k < length ns → get_or ns k c ≡ c → IsAmong c ns
at_among c k [] inside same = absurd (omega arith)
at_among c zero (n ∷ ns) inside same = inl same
at_among c (suc k) (n ∷ ns) inside same = inr (at_among c k ns (omega arith) same)

-- numbers that rise, as `Rise` says it

rising_above : (n : ℕ) (ns : List ℕ) → IsStrictlyIncreasing (n ∷ ns) → AreAbove n ns
rising_above n [] h = tt
rising_above n (m ∷ ns) h = (h 0 (omega arith), rising_above m ns (λ k inside. further k (h (suc k) (omega arith))))
  where
    further : (k : ℕ) → get_or (n ∷ m ∷ ns) (suc k) 0 < get_or (n ∷ m ∷ ns) (suc k + 1) 0 → get_or (m ∷ ns) k 0 < get_or (m ∷ ns) (k + 1) 0
    further k less = let e : suc k + 1 ≡ suc (k + 1) = omega arith in subst (λ j. get_or (m ∷ ns) k 0 < get_or (n ∷ m ∷ ns) j 0) e less

rising : (ns : List ℕ) → IsStrictlyIncreasing ns → Rise ns
rising [] h = tt
rising (n ∷ ns) h = rising_above n ns h

-- sorted, each once: the numbers rise
pub sorted_rise : (sorted once : List ℕ) → IsSorted nat_cmp sorted → once ≡ dedup eqb sorted → Rise once
sorted_rise sorted once in_order same = subst Rise (sym same) (rising (dedup eqb sorted) (IsStrictlyIncreasing-dedup sorted in_order))

-- sorted, each once: the same are among them
pub sorted_has : (c : ℕ) (ns sorted once : List ℕ) → IsPermutation ns sorted → once ≡ dedup eqb sorted → IsAmong c ns → IsAmong c once
sorted_has c ns sorted once moved same has =
    let kept = Contains-dedup_nat sorted c (Contains-permutation ns sorted c moved (among_at c ns has)) in
    subst (IsAmong c) (sym same) (at_among c kept.0 (dedup eqb sorted) kept.1 kept.2)

-- Frames of calls by what was noted of them.

-- where what was noted from a tick on is handed over later, a flow hands over none of these frames before
frames_rest : (sent : SentSince) (c n flow now from : ℕ) (frames : List Sent) → from ≡ now - (flow - 1) → ((c t : ℕ) → IsNoted c t sent → from ≤ t → now + n < t + flow) → AreNoted sent c frames → FramesRest n flow now frames
frames_rest sent c n zero now from frames same late h = tt
frames_rest sent c n (suc d) now from [] same late h = tt
frames_rest sent c n (suc d) now from (f ∷ frames) same late h = (at (leb from f.tick) refl, frames_rest sent c n (suc d) now from frames same late h.1)
  where
    at : (b : Bool) → leb from f.tick ≡ b → (f.tick + suc d ≤ now) ⊎ (now + n < f.tick + suc d)
    at true e = inr (late c f.tick h.0 (leb-true from f.tick e))
    at false e = let early : f.tick < from = leb-false from f.tick e in inl (omega arith)

-- the same of all calls, up or down
pub all_rest : (up : Bool) (sent_up sent_down : SentSince) (n flow now from : ℕ) (xs : List kept.Call) → from ≡ now - (flow - 1) → ((c t : ℕ) → IsNoted c t (if up then sent_up else sent_down) → from ≤ t → now + n < t + flow) → AllByRecursion (IsNotedCall sent_up sent_down) xs → AllByRecursion (λ k. FramesRest n flow now (if up then k.up else k.down)) xs
all_rest up sent_up sent_down n flow now from [] same late h = tt
all_rest true sent_up sent_down n flow now from (x ∷ xs) same late h = (frames_rest sent_up x.number n flow now from x.up same late h.0.up, all_rest true sent_up sent_down n flow now from xs same late h.1)
all_rest false sent_up sent_down n flow now from (x ∷ xs) same late h = (frames_rest sent_down x.number n flow now from x.down same late h.0.down, all_rest false sent_up sent_down n flow now from xs same late h.1)

-- what the call of each that was noted at a tick has, a call with a frame of this tick has
frames_told : (P : ℕ → Type 0) (sent : SentSince) (c t : ℕ) (frames : List Sent) → ((c : ℕ) → IsNoted c t sent → P c) → AreNoted sent c frames → AllByRecursion (λ s. s.tick ≡ t → P c) frames
frames_told P sent c t [] all h = tt
frames_told P sent c t (f ∷ frames) all h = (λ same. all c (subst (λ n. IsNoted c n sent) same h.0), frames_told P sent c t frames all h.1)

-- the same of all calls, up or down
calls_told : (P : ℕ → Type 0) (up : Bool) (sent_up sent_down : SentSince) (t : ℕ) (xs : List kept.Call) → ((c : ℕ) → IsNoted c t (if up then sent_up else sent_down) → P c) → AllByRecursion (IsNotedCall sent_up sent_down) xs → AllByRecursion (λ k. AllByRecursion (λ s. s.tick ≡ t → P k.number) (if up then k.up else k.down)) xs
calls_told P up sent_up sent_down t [] all h = tt
calls_told P true sent_up sent_down t (x ∷ xs) all h = (frames_told P sent_up x.number t x.up all h.0.up, calls_told P true sent_up sent_down t xs all h.1)
calls_told P false sent_up sent_down t (x ∷ xs) all h = (frames_told P sent_down x.number t x.down all h.0.down, calls_told P false sent_up sent_down t xs all h.1)

-- the calls with a frame of a tick are listed, where it is told whether all are known
pub sent_listed : {E : Type 0} (r : Result Bool E) (up : Bool) (sent_up sent_down way : SentSince) (t : ℕ) (listed : List ℕ) (xs : List kept.Call) → way ≡ (if up then sent_up else sent_down) → IfOk r (λ known. known ≡ true → (c : ℕ) → IsNoted c t way → IsAmong c listed) → AllByRecursion (IsNotedCall sent_up sent_down) xs → IfOk r (λ known. known ≡ true → AllByRecursion (λ k. AllByRecursion (λ s. s.tick ≡ t → IsAmong k.number listed) (if up then k.up else k.down)) xs)
sent_listed (Ok known) up sent_up sent_down way t listed xs same all h =
    λ yes. calls_told (λ n. IsAmong n listed) up sent_up sent_down t xs (λ c noted. all yes c (subst (IsNoted c t) (sym same) noted)) h
sent_listed (Err e) up sent_up sent_down way t listed xs same all h = tt

-- one call alone has frames of a tick, where it is told which
pub sent_alone : (r : Option ℕ) (up : Bool) (sent_up sent_down way : SentSince) (t : ℕ) (xs : List kept.Call) → way ≡ (if up then sent_up else sent_down) → IfSome r (λ call. (c : ℕ) → IsNoted c t way → c ≡ call) → AllByRecursion (IsNotedCall sent_up sent_down) xs → IfSome r (λ call. AllByRecursion (λ k. AllByRecursion (λ s. s.tick ≡ t → k.number ≡ call) (if up then k.up else k.down)) xs)
sent_alone (Some call) up sent_up sent_down way t xs same all h =
    calls_told (λ n. n ≡ call) up sent_up sent_down t xs (λ c noted. all c (subst (IsNoted c t) (sym same) noted)) h
sent_alone None up sent_up sent_down way t xs same all h = tt
