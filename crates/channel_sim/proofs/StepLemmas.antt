-- Steps one behind the other.
use Rattle.std.proofs.Common.{◌≡◌, ℕ, zero, suc, ◌+◌, ◌<◌, ◌≤◌, arith, List, [], ◌∷◌, ◌++◌, length, get_or, take, drop, map, refl, ap, sym, ◌∙◌, append_assoc, append-nil, add_assoc, zero-add, add-zero}
use Rattle.std.proofs.lemmas.List.{take_more, take-append-drop}
use Rattle.link_frames.specs.declared.note.Note.{Note}
use Rattle.trace_model.specs.declared.entry.Entry.{Entry}
use Rattle.trace_model.specs.History.{told}
use Rattle.trace_fit.proofs.TellingLemmas.{told-append, told-take_more}
use Rattle.channel_sim.specs.World.{World, Step, Act, quiet_step, and_then, does, does_each, consequence, consequences, each}

-- a step, and then one that is known
abbrev pub followed_by : Step → Step → Step
followed_by s t = record { entries = s.entries ++ t.entries; world = t.world; handed = s.handed + t.handed }

pub then_same : (s : Step) (f : World → Step) (t : Step) → f s.world ≡ t → and_then s f ≡ followed_by s t
then_same s f t e = ap (followed_by s) e

pub quiet_first : (t : Step) → followed_by (quiet_step t.world) t ≡ t
quiet_first t = ap (λ n. record { entries = t.entries; world = t.world; handed = n }) (zero-add t.handed)

pub quiet_before : (w : World) (f : World → Step) → and_then (quiet_step w) f ≡ f w
quiet_before w f = ap (λ n. record { entries = (f w).entries; world = (f w).world; handed = n }) (zero-add (f w).handed)

pub quiet_behind : (s : Step) → and_then s quiet_step ≡ s
quiet_behind s =
    ap (λ es. record { entries = es; world = s.world; handed = s.handed + 0 }) (append-nil s.entries)
    ∙ ap (λ n. record { entries = s.entries; world = s.world; handed = n }) (add-zero s.handed)

pub followed_assoc : (s t u : Step) → followed_by (followed_by s t) u ≡ followed_by s (followed_by t u)
followed_assoc s t u =
    ap (λ es. record { entries = es; world = u.world; handed = (s.handed + t.handed) + u.handed }) (append_assoc s.entries t.entries u.entries)
    ∙ ap (λ n. record { entries = s.entries ++ (t.entries ++ u.entries); world = u.world; handed = n }) (add_assoc s.handed t.handed u.handed)

pub does_each-append : (xs ys : List Act) (w : World) → does_each (xs ++ ys) w ≡ and_then (does_each xs w) (does_each ys)
does_each-append [] ys w = sym (quiet_before w (does_each ys))
does_each-append (x ∷ xs) ys w =
    ap (followed_by (does x w)) (does_each-append xs ys (does x w).world)
    ∙ sym (followed_assoc (does x w) (does_each xs (does x w).world) (does_each ys (does_each xs (does x w).world).world))

pub consequences-append : (xs ys : List Entry) → consequences (xs ++ ys) ≡ consequences xs ++ consequences ys
consequences-append [] ys = refl
consequences-append (x ∷ xs) ys =
    ap (λ z. consequence x.note ++ z) (consequences-append xs ys) ∙ sym (append_assoc (consequence x.note) (consequences xs) (consequences ys))

pub each-append : {A : Type 0} (step : A → World → Step) (xs ys : List A) (w : World) → each step (xs ++ ys) w ≡ and_then (each step xs w) (each step ys)
each-append step [] ys w = sym (quiet_before w (each step ys))
each-append step (x ∷ xs) ys w =
    ap (followed_by (step x w)) (each-append step xs ys (step x w).world)
    ∙ sym (followed_assoc (step x w) (each step xs (step x w).world) (each step ys (each step xs (step x w).world).world))

pub each_one : {A : Type 0} (step : A → World → Step) (x : A) (w : World) → each step (x ∷ []) w ≡ step x w
each_one step x w = quiet_behind (step x w)

-- one element more
pub each_more : {A : Type 0} (step : A → World → Step) (xs : List A) (i : ℕ) (x : A) (w : World) → i < length xs → x ≡ get_or xs i x → each step (take (i + 1) xs) w ≡ and_then (each step (take i xs) w) (step x)
each_more step xs i x w inside read =
    ap (λ z. each step z w) (take_more xs i x inside)
    ∙ each-append step (take i xs) (get_or xs i x ∷ []) w
    ∙ ap (followed_by (each step (take i xs) w)) (each_one step (get_or xs i x) (each step (take i xs) w).world ∙ ap (λ y. step y (each step (take i xs) w).world) (sym read))

-- what one item more has follow
pub follow_more : (now : ℕ) (w : World) (items : List Note) (i : ℕ) (x : Note) → i < length items → x ≡ get_or items i x → does_each (consequences (told now (take (i + 1) items))) w ≡ and_then (does_each (consequences (told now (take i items))) w) (does_each (consequence x))
follow_more now w items i x inside read =
    ap (λ es. does_each (consequences es) w) (told-take_more now items i x inside read)
    ∙ ap (λ acts. does_each acts w) (consequences-append (told now (take i items)) (record { tick = now; note = x } ∷ []) ∙ ap (λ z. consequences (told now (take i items)) ++ z) (append-nil (consequence x)))
    ∙ does_each-append (consequences (told now (take i items))) (consequence x) w

-- and what all have
pub follow_all : (now : ℕ) (w : World) (items : List Note) (n : ℕ) → does_each (consequences (told now items)) w ≡ and_then (does_each (consequences (told now (take n items))) w) (does_each (consequences (told now (drop n items))))
follow_all now w items n =
    ap (λ z. does_each (consequences (told now z)) w) (sym (take-append-drop n items))
    ∙ ap (λ es. does_each (consequences es) w) (told-append now (take n items) (drop n items))
    ∙ ap (λ acts. does_each acts w) (consequences-append (told now (take n items)) (told now (drop n items)))
    ∙ does_each-append (consequences (told now (take n items))) (consequences (told now (drop n items))) w

pub each_all : {A : Type 0} (step : A → World → Step) (xs : List A) (n : ℕ) (w : World) → each step xs w ≡ and_then (each step (take n xs) w) (each step (drop n xs))
each_all step xs n w = ap (λ z. each step z w) (sym (take-append-drop n xs)) ∙ each-append step (take n xs) (drop n xs) w

pub take_all : {A : Type 0} (n : ℕ) (xs : List A) → length xs ≤ n → take n xs ≡ xs
take_all zero [] h = refl
take_all (suc n) [] h = refl
take_all zero (x ∷ xs) h = absurd (omega arith)
take_all (suc n) (x ∷ xs) h = ap (λ z. x ∷ z) (take_all n xs (omega arith))

pub map_length : {A B : Type 0} (f : A → B) (xs : List A) → length (map f xs) ≡ length xs
map_length f [] = refl
map_length f (x ∷ xs) = ap suc (map_length f xs)

map_get : {A B : Type 0} (f : A → B) (xs : List A) (i : ℕ) (x : A) → i < length xs → f (get_or xs i x) ≡ get_or (map f xs) i (f x)
map_get f [] i x h = absurd (omega arith)
map_get f (y ∷ ys) zero x h = refl
map_get f (y ∷ ys) (suc i) x h = map_get f ys i x (omega arith)

pub map_at : {A B : Type 0} (f : A → B) (xs : List A) (i : ℕ) (x : A) → i < length xs → x ≡ get_or xs i x → f x ≡ get_or (map f xs) i (f x)
map_at f xs i x inside read = ap f read ∙ map_get f xs i x inside
