-- What a block of samples says where noise has changed those of some bits.
use Rattle.std.proofs.Common.{◌≡◌, ℕ, ◌+◌, ◌*◌, ◌<◌, ◌≤◌, ℤ, Bool, List, [], ◌∷◌, ◌++◌, length, ap, refl, sym, subst, arith, drop, take, ◌∙◌, append_assoc, length-append, length-drop}
use Rattle.std.proofs.lemmas.Grind.{flat_map-append}
use Rattle.std.proofs.lemmas.List.{drop_at, take_at, length-take}
use Rattle.tone_link.specs.Noise.{distance, EachNoise}
use Rattle.tone_link.specs.Tones.{samples_at, samples_of, samples_of_bit}
use Rattle.tone_link.specs.ToneReading.{AreSaid}
use Rattle.tone_link.proofs.NoiseLemmas.{faint_said, noisy_said}
use Rattle.tone_link.proofs.Written.{length_samples, length_samples_of_bit}

-- the eight samples behind those of some bits
samples_behind : (front : List Bool) (bit : Bool) (bits : List Bool)
    → samples_at (samples_of (front ++ bit ∷ bits)) (length front) ≡ samples_of_bit bit
samples_behind front bit bits =
    ap (λ l. take 8 (drop (8 * length front) l)) (flat_map-append samples_of_bit front (bit ∷ bits))
    ∙ ap (λ l. take 8 l) (drop_at (samples_of front) (samples_of (bit ∷ bits)) (8 * length front) (length_samples front))
    ∙ take_at (samples_of_bit bit) (samples_of bits) 8 (length_samples_of_bit bit)

-- the bits sent are these, some in front and some behind, and so many samples were received
pub record IsSent (sent front bits : List Bool) (received : List ℤ) : Type 0 where
  pub split : sent ≡ front ++ bits
  pub count : length received ≡ 8 * length sent

next_sent : (sent front : List Bool) (bit : Bool) (bits : List Bool) (received : List ℤ)
    → IsSent sent front (bit ∷ bits) received → IsSent sent (front ++ bit ∷ []) bits received
next_sent sent front bit bits received s =
    record { split = s.split ∙ sym (append_assoc front (bit ∷ []) bits); count = s.count }

-- the noise of the next bit, and how many samples it has
pub record NoiseHere (noise : ℕ → Type 0) (bit : Bool) (here : List ℤ) : Type 0 where
  pub long : length here ≡ 8
  pub little : noise (distance (samples_of_bit bit) here)

noise_here : (noise : ℕ → Type 0) (sent front : List Bool) (bit : Bool) (bits : List Bool) (received : List ℤ)
    → IsSent sent front (bit ∷ bits) received → EachNoise noise (samples_of sent) received
    → NoiseHere noise bit (samples_at received (length front))
noise_here noise sent front bit bits received s each =
    let within : 8 * length front < length (samples_of sent) =
    omega (arith, length_samples sent, ap length s.split, length-append front (bit ∷ bits)) in
    let room : 8 * length front + 8 ≤ length received = omega (arith, s.count, ap length s.split, length-append front (bit ∷ bits)) in
    let at : samples_at (samples_of sent) (length front) ≡ samples_of_bit bit =
    ap (λ l. samples_at (samples_of l) (length front)) s.split ∙ samples_behind front bit bits in
    record {
      long = omega (arith, length-take 8 (drop (8 * length front) received), length-drop (8 * length front) received);
      little = subst (λ (l : List ℤ). noise (distance l (samples_at received (length front)))) at (each (length front) within);
    }

-- with noise below 12000 no other bits are said
pub noisy_bits : (sent front bits said : List Bool) (received : List ℤ)
    → IsSent sent front bits received → EachNoise (λ noise. noise < 12000) (samples_of sent) received
    → AreSaid received (length front) said → length said ≡ length bits → said ≡ bits
noisy_bits sent front [] [] received s each are e = refl
noisy_bits sent front [] (x ∷ said) received s each are e = absurd (omega arith)
noisy_bits sent front (bit ∷ bits) [] received s each are e = absurd (omega arith)
noisy_bits sent front (bit ∷ bits) (x ∷ said) received s each are e =
    let here = noise_here (λ noise. noise < 12000) sent front bit bits received s each in
    let same : x ≡ bit = noisy_said bit x (samples_at received (length front)) here.long here.little are.0 in
    let place : length front + 1 ≡ length (front ++ bit ∷ []) = sym (length-append front (bit ∷ [])) in
    let rest : said ≡ bits =
    noisy_bits sent (front ++ bit ∷ []) bits said received (next_sent sent front bit bits received s) each
    (subst (λ (k : ℕ). AreSaid received k said) place are.1) (omega arith) in
    cc

-- with noise of at most 4000 the bits sent are said
pub faint_bits : (sent front bits : List Bool) (received : List ℤ)
    → IsSent sent front bits received → EachNoise (λ noise. noise ≤ 4000) (samples_of sent) received
    → AreSaid received (length front) bits
faint_bits sent front [] received s each = tt
faint_bits sent front (bit ∷ bits) received s each =
    let here = noise_here (λ noise. noise ≤ 4000) sent front bit bits received s each in
    let place : length (front ++ bit ∷ []) ≡ length front + 1 = length-append front (bit ∷ []) in (
      faint_said bit (samples_at received (length front)) here.long here.little,
      subst (λ (k : ℕ). AreSaid received k bits) place
          (faint_bits sent (front ++ bit ∷ []) bits received (next_sent sent front bit bits received s) each),
    )
