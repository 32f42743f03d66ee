-- How much noise each bit of a frame has, as it is received.
use Rattle.std.proofs.Common.{◌≡◌, ℕ, ◌+◌, ◌*◌, ◌%◌, ◌<◌, ◌≤◌, zero, suc, ℤ, pos, negsuc, neg_ℤ, ◌+ℤ◌, ◌-ℤ◌, ◌≤ℤ◌, unsigned_abs, List, [], ◌∷◌, length, take, drop, refl, ap, sym, subst, ◌∙◌, arith}
use Rattle.std.proofs.lemmas.Int.{ints}
use Rattle.std.proofs.lemmas.List.{length-take}
use Rattle.std.proofs.lemmas.Nat.{mod_below}
use Rattle.tone_link.specs.Noise.{distance, EachNoise}
use Rattle.tones_command.specs.Modem.{drawn, gives, moved_by, received}

pub length_received : (most x : ℕ) (sent : List ℤ) → length (received most x sent) ≡ length sent
length_received most x [] = refl
length_received most x (sample ∷ sent) = ap (λ n. suc n) (length_received most (drawn x) sent)

-- x behind some draws
abbrev draws_on : (n x : ℕ) → ℕ
draws_on zero x = x
draws_on (suc n) x = draws_on n (drawn x)

drop_received : (n most x : ℕ) (sent : List ℤ) → drop n (received most x sent) ≡ received most (draws_on n x) (drop n sent)
drop_received zero most x sent = refl
drop_received (suc n) most x [] = refl
drop_received (suc n) most x (sample ∷ sent) = drop_received n most (drawn x) sent

take_received : (n most x : ℕ) (sent : List ℤ) → take n (received most x sent) ≡ received most x (take n sent)
take_received zero most x sent = refl
take_received (suc n) most x [] = refl
take_received (suc n) most x (sample ∷ sent) =
    ap (λ l. (sample +ℤ moved_by most (drawn x)) ∷ l) (take_received n most (drawn x) sent)

abs_most : (z : ℤ) (n : ℕ) → z ≤ℤ pos n → neg_ℤ z ≤ℤ pos n → unsigned_abs z ≤ n
abs_most (pos k) n p q = omega (arith, ints)
abs_most (negsuc k) n p q = omega (arith, ints)

moved_most : (sample : ℤ) (most r : ℕ) → r < 2 * most + 1
    → unsigned_abs ((sample +ℤ (pos r -ℤ pos most)) -ℤ sample) ≤ most
moved_most sample most r h =
    abs_most ((sample +ℤ (pos r -ℤ pos most)) -ℤ sample) most (omega (arith, ints)) (omega (arith, ints))

-- so many samples add so much at most
distance_most : (n most x : ℕ) (sent : List ℤ) → length sent ≤ n → distance sent (received most x sent) ≤ n * most
distance_most n most x [] le = omega arith
distance_most zero most x (sample ∷ sent) le = absurd (omega (arith, le))
distance_most (suc n) most x (sample ∷ sent) le =
    let rest = distance_most n most (drawn x) sent (omega (arith, le)) in
    let here = moved_most sample most (gives (drawn x) % (2 * most + 1))
    (mod_below (gives (drawn x)) (2 * most + 1) (omega arith)) in
    let more : suc n * most ≡ n * most + most = grind arith in
    omega (arith, rest, here, more)

-- and so each bit no more than eight times as much
pub bit_noise : (most x : ℕ) (sent : List ℤ) → EachNoise (λ noise. noise ≤ 8 * most) sent (received most x sent)
bit_noise most x sent i within =
    let here : List ℤ = take 8 (drop (8 * i) sent) in
    let same : take 8 (drop (8 * i) (received most x sent)) ≡ received most (draws_on (8 * i) x) here =
    ap (λ l. take 8 l) (drop_received (8 * i) most x sent) ∙ take_received 8 most (draws_on (8 * i) x) (drop (8 * i) sent) in
    subst (λ (l : List ℤ). distance here l ≤ 8 * most) (sym same)
    (distance_most 8 most (draws_on (8 * i) x) here (omega (arith, length-take 8 (drop (8 * i) sent))))

pub each_less : (P Q : ℕ → Type 0) (sent heard : List ℤ) → ((n : ℕ) → P n → Q n) → EachNoise P sent heard
    → EachNoise Q sent heard
each_less P Q sent heard less each i within = less _ (each i within)
