-- What a frame's samples are received as, sample by sample, and what is sent of it.
use Rattle.std.proofs.Common.{◌≡◌, ℕ, ◌+◌, ◌<◌, ◌≤◌, ℤ, pos, negsuc, ◌+ℤ◌, Bool, true, false, List, [], ◌∷◌, ◌++◌, length, get_or, drop, zero, suc, arith, refl, ap, sym, ◌∙◌, append_assoc, length-append}
use Rattle.std.specs.List.{AllByRecursion}
use Rattle.std.proofs.lemmas.Int.{ints}
use Rattle.std.proofs.lemmas.List.{at_drop_all, at_drop_more}
use Rattle.tone_link.specs.Tones.{samples_of, samples_of_bit}
use Rattle.tones_command.specs.Modem.{behind_samples, drawn, moved_by, received}
use Rattle.tones_command.specs.inner.Loud.{AreSamplesSent, IsSampleSent}

all_behind : (P : ℤ → Type 0) (xs ys : List ℤ) → AllByRecursion P xs → AllByRecursion P ys → AllByRecursion P (xs ++ ys)
all_behind P [] ys a b = b
all_behind P (x ∷ xs) ys a b = (a.0, all_behind P xs ys a.1 b)

low_sent : IsSampleSent (negsuc 999)
low_sent = (omega (arith, ints), omega (arith, ints))

high_sent : IsSampleSent (pos 1000)
high_sent = (omega (arith, ints), omega (arith, ints))

bit_sent : (bit : Bool) → AreSamplesSent (samples_of_bit bit)
bit_sent true =
    (high_sent, (high_sent, (low_sent, (high_sent, (low_sent, (low_sent, (high_sent, (low_sent, tt))))))))
bit_sent false =
    (low_sent, (low_sent, (high_sent, (low_sent, (high_sent, (high_sent, (low_sent, (high_sent, tt))))))))

-- the samples of bits are such as are sent
pub bits_sent : (bits : List Bool) → AreSamplesSent (samples_of bits)
bits_sent [] = tt
bits_sent (bit ∷ bits) = all_behind IsSampleSent (samples_of_bit bit) (samples_of bits) (bit_sent bit) (bits_sent bits)

-- each sample is such a one
pub sent_at : (samples : List ℤ) (i : ℕ) (d : ℤ) → AreSamplesSent samples → i < length samples
    → IsSampleSent (get_or samples i d)
sent_at [] i d all h = absurd (omega arith)
sent_at (x ∷ xs) zero d all h = all.0
sent_at (x ∷ xs) (suc i) d all h = sent_at xs i d all.1 (omega arith)

-- Those received so far, and what the others are received as, are all; and so for the draws.
pub record ReceivedSoFar (most start x i : ℕ) (sent heard : List ℤ) : Type 0 where
  pub items : heard ++ received most x (drop i sent) ≡ received most start sent
  pub draws : behind_samples x (drop i sent) ≡ behind_samples start sent
  pub count : length heard ≡ i

pub none_received : (most start : ℕ) (sent : List ℤ) → ReceivedSoFar most start start 0 sent []
none_received most start sent = record { items = refl; draws = refl; count = refl }

pub one_received : (most start x i : ℕ) (sent heard : List ℤ) (d : ℤ) → i < length sent
    → ReceivedSoFar most start x i sent heard
    → ReceivedSoFar most start (drawn x) (i + 1) sent (heard ++ (get_or sent i d +ℤ moved_by most (drawn x)) ∷ [])
one_received most start x i sent heard d h so =
    record {
      items =
          append_assoc heard ((get_or sent i d +ℤ moved_by most (drawn x)) ∷ []) (received most (drawn x) (drop (i + 1) sent))
          ∙ ap (λ l. heard ++ l) (sym (at_drop_more (received most x) sent i d h))
          ∙ so.items;
      draws = sym (at_drop_more (behind_samples x) sent i d h) ∙ so.draws;
      count = length-append heard ((get_or sent i d +ℤ moved_by most (drawn x)) ∷ []) ∙ ap (λ n. n + 1) so.count;
    }

pub all_received : (most start x i : ℕ) (sent heard : List ℤ) → length sent ≤ i
    → ReceivedSoFar most start x i sent heard
    → (heard ≡ received most start sent) × (x ≡ behind_samples start sent)
all_received most start x i sent heard h so = (
  sym (append-nothing heard) ∙ ap (λ l. heard ++ l) (sym (at_drop_all (received most x) sent i h)) ∙ so.items,
  sym (at_drop_all (behind_samples x) sent i h) ∙ so.draws,
)
  where
    append-nothing : (xs : List ℤ) → xs ++ [] ≡ xs
    append-nothing [] = refl
    append-nothing (x ∷ xs) = ap (λ l. x ∷ l) (append-nothing xs)
