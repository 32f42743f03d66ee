-- What is kept beside the calls, when one of them changes, goes or comes.
use Rattle.std.proofs.Common.{◌≡◌, ℕ, zero, suc, ◌<◌, ◌+◌, ◌-◌, ◌++◌, ◌⊎◌, inl, inr, List, [], ◌∷◌, Option, Some, Ok, Err, OnOk, OnErr, Result, length, get_or, refl, ap, sym, ◌∙◌, subst, arith, slice_get}
use Rattle.std.proofs.Math.ListN.{set}
use Rattle.std.specs.List.{AllByRecursion, remove}
use Rattle.link_frames.specs.declared.frame.End.{End}
use Rattle.link_frames.specs.declared.frame.End.TheVariants as «end»
use Rattle.link_frames.specs.declared.frame.Frame.{Frame}
use Rattle.trace_model.specs.History.{Sent}
use Rattle.channel_sim.specs.declared.calls.call.Call as kept
use Rattle.channel_sim.specs.declared.calls.turns.Turn.{Turn}
use Rattle.channel_sim.specs.Tidy.{AreAbove}
use Rattle.channel_sim.specs.inner.Acts.{pushed}
use Rattle.channel_sim.specs.inner.Beside.{CallsStand, numbers}
use Rattle.channel_sim.specs.inner.Sendings.{SentSince, IsNoted, IsNotedCall}
use Rattle.channel_sim.specs.inner.Turns.{HasTurn, IsWatched, OthersStay, WaitsUntil}
use Rattle.channel_sim.specs.inner.Places.{place_of}
use Rattle.channel_sim.proofs.CallsLemmas.{number_at, place_within}
use Rattle.channel_sim.proofs.PlaceLemmas.{above_less}
use Rattle.channel_sim.proofs.SendingLemmas.{noted_set, noted_more, noted_pushed}
use Rattle.channel_sim.proofs.TurnLemmas.{watched_removed, watched_set}
use Rattle.channel_sim.proofs.WakeLemmas.{written_same}

numbers_set : (xs : List kept.Call) (i : ℕ) (d y : kept.Call) → y.number ≡ (get_or xs i d).number → numbers (set xs i y) ≡ numbers xs
numbers_set [] i d y same = refl
numbers_set (x ∷ xs) zero d y same = ap (λ n. n ∷ numbers xs) same
numbers_set (x ∷ xs) (suc i) d y same = ap (λ ns. x.number ∷ ns) (numbers_set xs i d y same)

-- the call at i is another one with its number and its frames, and has its turn
pub stand_set : (ts us : List Turn) (up down : SentSince) (xs : List kept.Call) (i : ℕ) (d y : kept.Call) → i < length xs → y.number ≡ (get_or xs i d).number → y.up ≡ (get_or xs i d).up → y.down ≡ (get_or xs i d).down → OthersStay (get_or xs i d).number ts us → IsWatched us y → CallsStand ts up down xs → CallsStand us up down (set xs i y)
stand_set ts us up down xs i d y inside same same_up same_down stay one h =
    record {
      numbers = subst (AreAbove 0) (sym (numbers_set xs i d y same)) h.numbers;
      watched = watched_set ts us xs i d y h.numbers inside same stay one h.watched;
      noted = noted_set up down xs i d y inside same same_up same_down h.noted;
    }

all_but : (P : kept.Call → Type 0) (i : ℕ) (xs : List kept.Call) → AllByRecursion P xs → AllByRecursion P (remove xs i)
all_but P zero [] h = tt
all_but P (suc i) [] h = tt
all_but P zero (x ∷ xs) h = h.1
all_but P (suc i) (x ∷ xs) h = (h.0, all_but P i xs h.1)

above_but : (n i : ℕ) (xs : List kept.Call) → AreAbove n (numbers xs) → AreAbove n (numbers (remove xs i))
above_but n zero [] h = tt
above_but n (suc i) [] h = tt
above_but n zero (x ∷ xs) h = let low : n < x.number = h.0 in above_less x.number n (numbers xs) h.1 (omega arith)
above_but n (suc i) (x ∷ xs) h = (h.0, above_but x.number i xs h.1)

-- the call at i is gone, and its turn
pub stand_removed : (ts us : List Turn) (up down : SentSince) (xs : List kept.Call) (i : ℕ) (d : kept.Call) → i < length xs → OthersStay (get_or xs i d).number ts us → CallsStand ts up down xs → CallsStand us up down (remove xs i)
stand_removed ts us up down xs i d inside others h =
    record {
      numbers = above_but 0 i xs h.numbers;
      watched = watched_removed ts us xs i d h.numbers inside others h.watched;
      noted = all_but (IsNotedCall up down) i xs h.noted;
    }

all_and : (P : kept.Call → Type 0) (xs : List kept.Call) (y : kept.Call) → AllByRecursion P xs → P y → AllByRecursion P (xs ++ y ∷ [])
all_and P [] y h one = (one, tt)
all_and P (x ∷ xs) y h one = (h.0, all_and P xs y h.1 one)

-- a call came up, in which nothing was sent, and whose session isn't there yet
pub stand_added : (ts : List Turn) (up down : SentSince) (xs : List kept.Call) (y : kept.Call) → AreAbove 0 (numbers (xs ++ y ∷ [])) → IsWatched ts y → IsNotedCall up down y → CallsStand ts up down xs → CallsStand ts up down (xs ++ y ∷ [])
stand_added ts up down xs y above one noted h =
    record {
      numbers = above;
      watched = all_and (IsWatched ts) xs y h.watched one;
      noted = all_and (IsNotedCall up down) xs y h.noted noted;
    }

-- the call at a place that was found has this number
pub found_number : (c : ℕ) (ys xs : List kept.Call) (r : Option ℕ) (i : ℕ) (d : kept.Call) → ys ≡ xs → AreAbove 0 (numbers xs) → (AreAbove 0 (numbers ys) → r ≡ place_of c (numbers ys)) → r ≡ Some i → i < length xs → (get_or xs i d).number ≡ c
found_number c ys xs r i d same above found is inside =
    let place : place_of c (numbers xs) ≡ Some i = ap (λ zs. place_of c (numbers zs)) (sym same) ∙ sym (found (subst (λ zs. AreAbove 0 (numbers zs)) (sym same) above)) ∙ is in
    sym (number_at xs i d inside) ∙ (place_within c (numbers xs) i place).1

-- what stays through one change, and then through another
pub stay_both : (call : ℕ) (a b c : List Turn) → OthersStay call a b → OthersStay call b c → OthersStay call a c
stay_both call a b c first second d n h = at (first d n h)
  where
    at : (d ≡ call) ⊎ HasTurn d n b → (d ≡ call) ⊎ HasTurn d n c
    at (inl same) = inl same
    at (inr there) = second d n there

-- the call has its turn
pub noted_watched : (turns : List Turn) (call tick : ℕ) (y : kept.Call) → y.number ≡ call → HasTurn call tick turns → WaitsUntil tick y → IsWatched turns y
noted_watched turns call tick y number turn waits =
    inr (record { tick = tick; turn = subst (λ n. HasTurn n tick turns) (sym number) turn; waits = waits })

-- A frame that was sent.

all_set : (P : kept.Call → Type 0) (xs : List kept.Call) (i : ℕ) (d y : kept.Call) → (P (get_or xs i d) → P y) → AllByRecursion P xs → AllByRecursion P (set xs i y)
all_set P [] i d y one h = tt
all_set P (x ∷ xs) zero d y one h = (one h.0, h.1)
all_set P (x ∷ xs) (suc i) d y one h = (h.0, all_set P xs i d y one h.1)

pushed_watched : (ts : List Turn) (e : End) (s : Sent) (x : kept.Call) → IsWatched ts x → IsWatched ts (pushed e s x)
pushed_watched ts «end».Vehicle s x (inl sleeps) = inl sleeps
pushed_watched ts «end».Vehicle s x (inr h) = inr (record { tick = h.tick; turn = h.turn; waits = h.waits })
pushed_watched ts «end».Point s x (inl sleeps) = inl sleeps
pushed_watched ts «end».Point s x (inr h) = inr (record { tick = h.tick; turn = h.turn; waits = h.waits })

-- what is noted of the frames that this end sent
abbrev pub noted_of : End → (sent_up sent_down : SentSince) → SentSince
noted_of «end».Vehicle sent_up sent_down = sent_up
noted_of «end».Point sent_up sent_down = sent_down

pushed_noted : (up down : SentSince) (e : End) (tick : ℕ) (f : Frame) (x : kept.Call) → IsNoted x.number tick (noted_of e up down) → IsNotedCall up down x → IsNotedCall up down (pushed e (record { tick = tick; frame = f }) x)
pushed_noted up down «end».Vehicle tick f x one h = record { up = noted_pushed up x.number tick x.up f one h.up; down = h.down }
pushed_noted up down «end».Point tick f x one h = record { up = h.up; down = noted_pushed down x.number tick x.down f one h.down }

same_number : (e : End) (s : Sent) (x : kept.Call) → (pushed e s x).number ≡ x.number
same_number «end».Vehicle s x = refl
same_number «end».Point s x = refl

-- more is noted
pub stand_noted : (ts : List Turn) (up down new_up new_down : SentSince) (xs : List kept.Call) → ((c n : ℕ) → IsNoted c n up → IsNoted c n new_up) → ((c n : ℕ) → IsNoted c n down → IsNoted c n new_down) → CallsStand ts up down xs → CallsStand ts new_up new_down xs
stand_noted ts up down new_up new_down xs more_up more_down h =
    record { numbers = h.numbers; watched = h.watched; noted = noted_more up down new_up new_down xs more_up more_down h.noted }

-- an end sent a frame in the call at i, and it was noted before
pub stand_posted : (ts : List Turn) (up down : SentSince) (xs : List kept.Call) (i : ℕ) (d : kept.Call) (e : End) (tick : ℕ) (f : Frame) → IsNoted (get_or xs i d).number tick (noted_of e up down) → CallsStand ts up down xs → CallsStand ts up down (set xs i (pushed e (record { tick = tick; frame = f }) (get_or xs i d)))
stand_posted ts up down xs i d e tick f one h =
    let x = get_or xs i d in
    let s : Sent = record { tick = tick; frame = f } in
    record {
      numbers = subst (AreAbove 0) (sym (numbers_set xs i d (pushed e s x) (same_number e s x))) h.numbers;
      watched = all_set (IsWatched ts) xs i d (pushed e s x) (λ w. pushed_watched ts e s x w) h.watched;
      noted = all_set (IsNotedCall up down) xs i d (pushed e s x) (λ n. pushed_noted up down e tick f x one n) h.noted;
    }

-- whether it was kept then, or wasn't
pub stand_either : {A E : Type 0} (r : Result A E) (ts : List Turn) (up down : SentSince) (xs : List kept.Call) (i : ℕ) (d y : kept.Call) (e : End) (tick : ℕ) (f : Frame) → OnOk r (y ≡ pushed e (record { tick = tick; frame = f }) (get_or xs i d)) → OnErr r (y ≡ get_or xs i d) → IsNoted (get_or xs i d).number tick (noted_of e up down) → CallsStand ts up down xs → CallsStand ts up down (set xs i y)
stand_either (Ok a) ts up down xs i d y e tick f ok err one h = subst (λ z. CallsStand ts up down (set xs i z)) (sym ok) (stand_posted ts up down xs i d e tick f one h)
stand_either (Err b) ts up down xs i d y e tick f ok err one h = subst (λ z. CallsStand ts up down (set xs i z)) (sym err) (subst (CallsStand ts up down) (sym (written_same xs i d)) h)

-- The last number.

pub above_last : (n i : ℕ) (xs : List kept.Call) (x : kept.Call) (c : ℕ) → i + 1 ≡ length xs → slice_get xs i ≡ Some x → AreAbove n (numbers xs) → x.number < c → AreAbove n (numbers xs ++ c ∷ [])
above_last n i [] x c all last above low = cc
above_last n zero (y ∷ []) x c all last above low = let same : y ≡ x = cc in let e : y.number ≡ x.number = ap (λ z. z.number) same in (above.0, (omega (arith, e), tt))
above_last n (suc i) (y ∷ []) x c all last above low = absurd (omega (arith, all))
above_last n zero (y ∷ z ∷ zs) x c all last above low = absurd (omega (arith, all))
above_last n (suc i) (y ∷ z ∷ zs) x c all last above low = (above.0, above_last y.number i (z ∷ zs) x c (omega (arith, all)) last above.1 low)

pub last_above : (n i : ℕ) (xs : List kept.Call) (x : kept.Call) (c : ℕ) → i + 1 ≡ length xs → slice_get xs i ≡ Some x → AreAbove n (numbers xs ++ c ∷ []) → x.number < c
last_above n i [] x c all last above = cc
last_above n zero (y ∷ []) x c all last above = let same : y ≡ x = cc in let e : y.number ≡ x.number = ap (λ z. z.number) same in let low : y.number < c = above.1.0 in omega (arith, e)
last_above n (suc i) (y ∷ []) x c all last above = absurd (omega (arith, all))
last_above n zero (y ∷ z ∷ zs) x c all last above = absurd (omega (arith, all))
last_above n (suc i) (y ∷ z ∷ zs) x c all last above = last_above y.number i (z ∷ zs) x c (omega (arith, all)) last above.1

-- where there is a last one, there is one
pub some_last : (xs : List kept.Call) (x : kept.Call) → slice_get xs (length xs - 1) ≡ Some x → (length xs - 1) + 1 ≡ length xs
some_last [] x last = cc
some_last (y ∷ ys) x last = omega arith
