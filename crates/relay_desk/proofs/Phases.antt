-- Ticks in tens: how long ago a message was sent, n ticks later.
use Rattle.std.proofs.Common.{arith, ◌≡◌, ◌<◌, ◌≤◌, ◌+◌, ◌-◌, ◌*◌, ◌%◌, ℕ}
use Rattle.std.specs.Prelude.{◌≢◌}
use Rattle.std.proofs.Common.{inl, inr}
use Rattle.std.proofs.lemmas.Bool.{cases_lt}
use Rattle.relay_desk.specs.Waits.{gap}

-- the ticks of a request that is made now
pub fresh : (phase : ℕ) → phase < 10 → 0 * 10 + gap phase phase ≡ 0
fresh phase h = omega arith

-- n ticks later, where its turn doesn't come before and not then
pub gap_later :
    (phase at resent n : ℕ) → phase < 10 → at < 10 → (resent * 10 + gap phase at) % 10 + n ≤ 10 → at ≢ (phase + n) % 10
    → resent * 10 + gap ((phase + n) % 10) at ≡ resent * 10 + gap phase at + n
gap_later phase at resent n h a room other = omega arith

-- n ticks later, where its turn comes then
pub gap_turn :
    (phase at resent n : ℕ) → phase < 10 → at < 10 → 1 ≤ n → (resent * 10 + gap phase at) % 10 + n ≤ 10 → at ≡ (phase + n) % 10
    → (resent + 1) * 10 + gap ((phase + n) % 10) at ≡ resent * 10 + gap phase at + n
gap_turn phase at resent n h a some room same = omega arith

-- n ticks later, where its turn comes later
pub gap_idle :
    (phase at resent n : ℕ) → phase < 10 → at < 10 → (resent * 10 + gap phase at) % 10 + (n + 1) ≤ 10
    → resent * 10 + gap ((phase + n) % 10) at ≡ resent * 10 + gap phase at + n
gap_idle phase at resent n h a room = omega arith

-- its turn comes in n ticks, where it is sent at the tick in ten that is then
pub due_then :
    (phase at resent n : ℕ) → phase < 10 → 1 ≤ n → n ≤ 10 → at ≡ (phase + n) % 10
    → (resent * 10 + gap phase at) % 10 + n ≡ 10
due_then phase at resent n h some most same = omega arith

-- in so many ticks its turn comes
pub closes : (phase at resent : ℕ) → phase < 10 → at < 10 → at ≡ (phase + (10 - (resent * 10 + gap phase at) % 10)) % 10
closes phase at resent h a = omega arith

-- its turn comes in n ticks or more, where it is sent at none of the ticks in ten before
pub room_then :
    (phase at resent n : ℕ) → phase < 10 → at < 10 → n ≤ 10
    → ((m : ℕ) → 1 ≤ m → m < n → at ≢ (phase + m) % 10)
    → (resent * 10 + gap phase at) % 10 + n ≤ 10
room_then phase at resent n h a most none =
    elim (cases_lt (10 - (resent * 10 + gap phase at) % 10) n) [
      | inl before ↦ absurd (none _ (omega arith) before (closes phase at resent h a))
      | inr behind ↦ omega arith
    ]
