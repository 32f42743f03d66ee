-- Which frames are lost: those that the modem refuses; and none where the noise is faint.
use Rattle.std.proofs.Common.{◌≡◌, ℕ, ◌+◌, ◌*◌, ◌<◌, ◌≤◌, ◌⊎◌, zero, suc, ℤ, Bool, true, false, ◌||◌, List, [], ◌∷◌, length, Result, Ok, Err, is_err, inl, inr, refl, ap, subst, ◌∙◌, arith}
use Rattle.std.proofs.lemmas.Int.{ints}
use Rattle.link_frames.specs.FrameOctets.{frame_octets, IsFrame}
use Rattle.link_frames.specs.declared.frame.Frame.{Frame}
use Rattle.per_bits.specs.Bits.{octet_bits}
use Rattle.per_bits.specs.Parts.{AreOctets}
use Rattle.tone_link.specs.ToneReading.{AreSaid, IsUnsure, ReadsAs, Says, SaysNeither}
use Rattle.tone_link.specs.Tones.{frame_samples, sum_of_bit}
use Rattle.tone_link.specs.declared.fault.ToneFault.{ToneFault}
use Rattle.tone_link.specs.declared.fault.ToneFault.TheVariants as fault
use Rattle.tone_link.proofs.NoisyBits.{faint_bits}
use Rattle.tone_link.proofs.ToneLaws.{read_noisy}
use Rattle.tone_link.proofs.Written.{length_samples}
use Rattle.tones_command.specs.Modem.{has_unsure, is_lost, is_unsure, most_noise, received}
use Rattle.tones_command.proofs.NoiseWithin.{bit_noise, each_less, length_received}

said_sure : (sum : ℤ) (bit : Bool) → Says sum bit → is_unsure sum ≡ false
said_sure sum true h = grind (arith, ints)
said_sure sum false h = grind (arith, ints)

neither_unsure : (sum : ℤ) → SaysNeither sum → is_unsure sum ≡ true
neither_unsure sum h = let low = h.0 in let high = h.1 in grind (arith, ints)

-- where all bits are said, none is unsure
none_unsure : (samples : List ℤ) (i : ℕ) (bits : List Bool) → AreSaid samples i bits
    → has_unsure samples i (length bits) ≡ false
none_unsure samples i [] said = refl
none_unsure samples i (bit ∷ bits) said =
    ap (λ b. b || has_unsure samples (i + 1) (length bits)) (said_sure (sum_of_bit samples i) bit said.0)
    ∙ none_unsure samples (i + 1) bits said.1

or_true : (a b : Bool) → b ≡ true → (a || b) ≡ true
or_true true b h = refl
or_true false b h = h

-- where one isn't, it is
one_unsure : (samples : List ℤ) (i k bits : ℕ) → k < bits → SaysNeither (sum_of_bit samples (i + k))
    → has_unsure samples i bits ≡ true
one_unsure samples i k zero less neither = absurd (omega (arith, less))
one_unsure samples i zero (suc bits) less neither =
    ap (λ b. b || has_unsure samples (i + 1) bits)
    (neither_unsure (sum_of_bit samples i)
    (subst (λ (n : ℕ). SaysNeither (sum_of_bit samples n)) (let e : i + 0 ≡ i = omega arith in e) neither))
one_unsure samples i (suc k) (suc bits) less neither =
    or_true (is_unsure (sum_of_bit samples i)) (has_unsure samples (i + 1) bits)
    (one_unsure samples (i + 1) k bits (omega (arith, less))
    (subst (λ (n : ℕ). SaysNeither (sum_of_bit samples n)) (let e : i + suc k ≡ i + 1 + k = omega arith in e) neither))

heard_count : (most x : ℕ) (frame : Frame)
    → length (received most x (frame_samples frame)) ≡ 8 * length (octet_bits (frame_octets frame))
heard_count most x frame =
    length_received most x (frame_samples frame) ∙ length_samples (octet_bits (frame_octets frame))

-- noise of so much in each sample is faint
pub faint_kept : (most x : ℕ) (frame : Frame) → most ≤ 500 → is_lost most x frame ≡ false
unfolding is_lost
faint_kept most x frame le =
    none_unsure (received most x (frame_samples frame)) 0 (octet_bits (frame_octets frame))
    (faint_bits (octet_bits (frame_octets frame)) [] (octet_bits (frame_octets frame))
    (received most x (frame_samples frame)) (record { split = refl; count = heard_count most x frame })
    (each_less (λ n. n ≤ 8 * most) (λ n. n ≤ 4000) (frame_samples frame) (received most x (frame_samples frame))
    (λ n h. omega (arith, h, le)) (bit_noise most x (frame_samples frame))))

lost_as : (most x : ℕ) (frame : Frame) (answer : Result Frame ToneFault)
    → ReadsAs (received most x (frame_samples frame)) answer → (answer ≡ Ok frame) ⊎ IsUnsure answer
    → is_lost most x frame ≡ is_err answer
unfolding is_lost
lost_as most x frame (Ok heard) reads (inl same) =
    let is : heard ≡ frame = cc in
    none_unsure (received most x (frame_samples frame)) 0 (octet_bits (frame_octets frame))
    (subst (λ (f : Frame). AreSaid (received most x (frame_samples frame)) 0 (octet_bits (frame_octets f))) is reads.2.said)
lost_as most x frame (Ok heard) reads (inr unsure) = absurd unsure
lost_as most x frame (Err why) reads (inl same) = absurd cc
lost_as most x frame (Err (fault.Size n)) reads (inr unsure) = absurd unsure
lost_as most x frame (Err (fault.NotFrame n)) reads (inr unsure) = absurd unsure
lost_as most x frame (Err (fault.Unsure bit sum)) reads (inr unsure) =
    let samples : List ℤ = received most x (frame_samples frame) in
    one_unsure samples 0 bit (length (octet_bits (frame_octets frame)))
    (omega (arith, reads.1.within, heard_count most x frame))
    (subst (λ (n : ℕ). SaysNeither (sum_of_bit samples n)) (let e : bit ≡ 0 + bit = omega arith in e)
    (subst SaysNeither reads.1.is_sum reads.1.neither))

-- noise that may be drawn is below what makes a bit the other one
heard_or_unsure : (most x : ℕ) (frame : Frame) (answer : Result Frame ToneFault) → most ≤ most_noise → IsFrame frame
    → AreOctets (frame_octets frame) → ReadsAs (received most x (frame_samples frame)) answer
    → (answer ≡ Ok frame) ⊎ IsUnsure answer
heard_or_unsure most x frame answer le is octets reads =
    read_noisy (received most x (frame_samples frame)) answer frame reads is octets
    (length_received most x (frame_samples frame))
    (each_less (λ n. n ≤ 8 * most) (λ n. n < 12000) (frame_samples frame) (received most x (frame_samples frame))
    (λ n h. omega (arith, h, le)) (bit_noise most x (frame_samples frame)))

-- a frame is lost where the modem refuses it
pub lost_refused : (most x : ℕ) (frame : Frame) (answer : Result Frame ToneFault) → most ≤ most_noise → IsFrame frame
    → AreOctets (frame_octets frame) → ReadsAs (received most x (frame_samples frame)) answer
    → is_lost most x frame ≡ is_err answer
lost_refused most x frame answer le is octets reads =
    lost_as most x frame answer reads (heard_or_unsure most x frame answer le is octets reads)

same_heard : (frame heard : Frame) (answer : Result Frame ToneFault) → answer ≡ Ok heard
    → (answer ≡ Ok frame) ⊎ IsUnsure answer → heard ≡ frame
same_heard frame heard answer e (inl same) = cc
same_heard frame heard answer e (inr unsure) = absurd (subst IsUnsure e unsure)

-- and else it is heard as itself
pub heard_itself : (most x : ℕ) (frame heard : Frame) → most ≤ most_noise → IsFrame frame
    → AreOctets (frame_octets frame) → ReadsAs (received most x (frame_samples frame)) (Ok heard) → heard ≡ frame
heard_itself most x frame heard le is octets reads =
    same_heard frame heard (Ok heard) refl (heard_or_unsure most x frame (Ok heard) le is octets reads)
