-- Samples are read in one way, and noise within its bounds leaves the frame what it is.
use Rattle.std.proofs.Common.{◌≡◌, ℕ, ◌+◌, ◌*◌, ◌<◌, ◌≤◌, ℤ, List, [], length, ap, refl, sym, subst, arith, ◌∙◌, ◌⊎◌, inl, inr, Result, Ok, Err, append-nil}
use Rattle.link_frames.proofs.FrameLemmas.{same_frame}
use Rattle.link_frames.specs.FrameOctets.{frame_octets, IsFrame}
use Rattle.link_frames.specs.declared.frame.Frame.{Frame}
use Rattle.link_frames.specs.declared.frame.Frame.TheVariants as frame
use Rattle.per_bits.proofs.Octets.{octets_of_bits}
use Rattle.per_bits.proofs.Places.{length_octet_bits}
use Rattle.per_bits.specs.Bits.{octet_bits, octets_of}
use Rattle.per_bits.specs.Parts.{AreOctets}
use Rattle.tone_link.proofs.NoisyBits.{faint_bits, noisy_bits, IsSent}
use Rattle.tone_link.proofs.Said.{none_unsure, same_bits_said}
use Rattle.tone_link.proofs.Written.{length_samples}
use Rattle.tone_link.specs.Noise.{EachNoise}
use Rattle.tone_link.specs.ToneReading.{IsBlock, IsFirstUnsure, IsUnsure, ReadsAs, SaysNeither, SayOctets}
use Rattle.tone_link.specs.Tones.{frame_samples, sum_of_bit}
use Rattle.tone_link.specs.declared.fault.ToneFault.{ToneFault}
use Rattle.tone_link.specs.declared.fault.ToneFault.TheVariants as fault

-- octets with the same bits are the same
same_octets : (a b : List ℕ) → AreOctets a → AreOctets b → octet_bits a ≡ octet_bits b → a ≡ b
same_octets a b p q e = sym (octets_of_bits a p) ∙ ap octets_of e ∙ octets_of_bits b q

-- samples say one list of octets
say_once : (samples : List ℤ) (a b : List ℕ) → SayOctets samples a → SayOctets samples b → a ≡ b
say_once samples a b p q =
    let long : length (octet_bits a) ≡ length (octet_bits b) =
    omega (arith, p.count, q.count, length_octet_bits a, length_octet_bits b) in
    same_octets a b p.each q.each (same_bits_said samples 0 (octet_bits a) (octet_bits b) p.said q.said long)

-- samples that say octets have no unsure bit
sure : (samples : List ℤ) (octets : List ℕ) (bit : ℕ) (sum : ℤ) → SayOctets samples octets → IsFirstUnsure samples bit sum → ⊥
sure samples octets bit sum p u =
    none_unsure samples 0 bit (octet_bits octets) p.said (omega (arith, p.count, u.within, length_octet_bits octets))
    (subst (λ (k : ℕ). SaysNeither (sum_of_bit samples k)) (let e : bit ≡ 0 + bit = omega arith in e)
    (subst SaysNeither u.is_sum u.neither))

not_before : (samples : List ℤ) (a b : ℕ) (x y : ℤ) → IsFirstUnsure samples a x → IsFirstUnsure samples b y → a < b → ⊥
not_before samples a b x y p q less =
    none_unsure samples 0 a q.before q.said (omega (arith, q.place))
    (subst (λ (k : ℕ). SaysNeither (sum_of_bit samples k)) (let e : a ≡ 0 + a = omega arith in e)
    (subst SaysNeither p.is_sum p.neither))

same_place : (samples : List ℤ) (a b : ℕ) (x y : ℤ) → IsFirstUnsure samples a x → IsFirstUnsure samples b y → a ≡ b
same_place samples a b x y p q =
    let left : a < b → ⊥ = not_before samples a b x y p q in
    let right : b < a → ⊥ = not_before samples b a y x q p in
    omega (arith, left, right)

same_frames : (f g : Frame) → IsFrame f → IsFrame g → frame_octets f ≡ frame_octets g → f ≡ g
same_frames f g p q e = (same_frame f g [] p q (sym e ∙ sym (append-nil (frame_octets f)))).0

-- samples are read in one way
pub read_once : (samples : List ℤ) (a b : Result Frame ToneFault) → ReadsAs samples a → ReadsAs samples b → a ≡ b
read_once samples (Ok f) (Ok g) p q = ap Ok (same_frames f g p.1 q.1 (say_once samples (frame_octets f) (frame_octets g) p.2 q.2))
read_once samples (Ok f) (Err (fault.Size n)) p q = absurd (q.0 p.0)
read_once samples (Ok f) (Err (fault.Unsure bit sum)) p q = absurd (sure samples (frame_octets f) bit sum p.2 q.1)
read_once samples (Ok f) (Err (fault.NotFrame n)) p q =
    absurd (q.1.3 f p.1 (say_once samples (frame_octets f) q.1.0 p.2 q.1.1))
read_once samples (Err (fault.Size n)) (Ok g) p q = absurd (p.0 q.0)
read_once samples (Err (fault.Size n)) (Err (fault.Size m)) p q = ap (λ k. Err (fault.Size k)) (p.1 ∙ sym q.1)
read_once samples (Err (fault.Size n)) (Err (fault.Unsure bit sum)) p q = absurd (p.0 q.0)
read_once samples (Err (fault.Size n)) (Err (fault.NotFrame m)) p q = absurd (p.0 q.0)
read_once samples (Err (fault.Unsure bit sum)) (Ok g) p q = absurd (sure samples (frame_octets g) bit sum q.2 p.1)
read_once samples (Err (fault.Unsure bit sum)) (Err (fault.Size m)) p q = absurd (q.0 p.0)
read_once samples (Err (fault.Unsure a x)) (Err (fault.Unsure b y)) p q =
    let place : a ≡ b = same_place samples a b x y p.1 q.1 in
    let left : x ≡ sum_of_bit samples a = p.1.is_sum in
    let right : y ≡ sum_of_bit samples b = q.1.is_sum in
    cc
read_once samples (Err (fault.Unsure bit sum)) (Err (fault.NotFrame m)) p q =
    absurd (sure samples q.1.0 bit sum q.1.1 p.1)
read_once samples (Err (fault.NotFrame n)) (Ok g) p q =
    absurd (p.1.3 g q.1 (say_once samples (frame_octets g) p.1.0 q.2 p.1.1))
read_once samples (Err (fault.NotFrame n)) (Err (fault.Size m)) p q = absurd (q.0 p.0)
read_once samples (Err (fault.NotFrame n)) (Err (fault.Unsure bit sum)) p q =
    absurd (sure samples p.1.0 bit sum p.1.1 q.1)
read_once samples (Err (fault.NotFrame n)) (Err (fault.NotFrame m)) p q =
    let same : p.1.0 ≡ q.1.0 = say_once samples p.1.0 q.1.0 p.1.1 q.1.1 in
    let left : length p.1.0 ≡ n = p.1.2 in
    let right : length q.1.0 ≡ m = q.1.2 in
    cc

-- a frame has 1 to 143 octets
pub frame_sizes : (f : Frame) → IsFrame f → (0 < length (frame_octets f)) × (length (frame_octets f) ≤ 143)
frame_sizes frame.Init p = (omega arith, omega arith)
frame_sizes (frame.Start request) p = (omega arith, omega arith)
frame_sizes (frame.Content request attempt octets) p = (omega arith, omega (arith, p.1))
frame_sizes (frame.Nack request) p = (omega arith, omega arith)
frame_sizes (frame.Ack request) p = (omega arith, omega arith)
frame_sizes (frame.App request answer) p = (omega arith, omega arith)

-- as many samples as a frame has are a block
frame_count : (samples : List ℤ) (f : Frame) → length samples ≡ length (frame_samples f) → length samples ≡ 64 * length (frame_octets f)
frame_count samples f e =
    omega (arith, e, length_samples (octet_bits (frame_octets f)), length_octet_bits (frame_octets f))

pub frame_block : (samples : List ℤ) (f : Frame) → IsFrame f → length samples ≡ length (frame_samples f) → IsBlock samples
frame_block samples f is e =
    let count = frame_count samples f e in
    let sizes = frame_sizes f is in
    record { some = omega arith; whole = omega arith; most = omega arith }

frame_sent : (samples : List ℤ) (f : Frame) → length samples ≡ length (frame_samples f)
    → IsSent (octet_bits (frame_octets f)) [] (octet_bits (frame_octets f)) samples
frame_sent samples f e = record { split = refl; count = e ∙ length_samples (octet_bits (frame_octets f)) }

noisy_octets : (samples : List ℤ) (f : Frame) (octets : List ℕ) → AreOctets (frame_octets f)
    → length samples ≡ length (frame_samples f) → EachNoise (λ noise. noise < 12000) (frame_samples f) samples
    → SayOctets samples octets → octets ≡ frame_octets f
noisy_octets samples f octets small e each say =
    let long : length (octet_bits octets) ≡ length (octet_bits (frame_octets f)) =
    omega (arith, say.count, frame_count samples f e, length_octet_bits octets, length_octet_bits (frame_octets f)) in
    same_octets octets (frame_octets f) say.each small
    (noisy_bits (octet_bits (frame_octets f)) [] (octet_bits (frame_octets f)) (octet_bits octets) samples
    (frame_sent samples f e) each say.said long)

-- with noise below 12000 in each bit a frame is read as itself, or a bit is unsure
pub read_noisy : (samples : List ℤ) (r : Result Frame ToneFault) (f : Frame) → ReadsAs samples r
    → IsFrame f → AreOctets (frame_octets f) → length samples ≡ length (frame_samples f)
    → EachNoise (λ noise. noise < 12000) (frame_samples f) samples → (r ≡ Ok f) ⊎ IsUnsure r
read_noisy samples (Ok g) f p is small e each =
    inl (ap Ok (same_frames g f p.1 is (noisy_octets samples f (frame_octets g) small e each p.2)))
read_noisy samples (Err (fault.Size n)) f p is small e each = absurd (p.0 (frame_block samples f is e))
read_noisy samples (Err (fault.Unsure bit sum)) f p is small e each = inr tt
read_noisy samples (Err (fault.NotFrame n)) f p is small e each =
    absurd (p.1.3 f is (sym (noisy_octets samples f p.1.0 small e each p.1.1)))

-- with noise of at most 4000 in each bit it is read as itself
pub read_faint : (samples : List ℤ) (r : Result Frame ToneFault) (f : Frame) → ReadsAs samples r
    → IsFrame f → AreOctets (frame_octets f) → length samples ≡ length (frame_samples f)
    → EachNoise (λ noise. noise ≤ 4000) (frame_samples f) samples → r ≡ Ok f
read_faint samples r f p is small e each =
    read_once samples r (Ok f) p (
      frame_block samples f is e,
      is,
      record {
        each = small;
        count = frame_count samples f e;
        said = faint_bits (octet_bits (frame_octets f)) [] (octet_bits (frame_octets f)) samples (frame_sent samples f e) each;
      },
    )
