-- For how many ticks a desk request is pending, of which the tick in ten is kept at which its message is sent, and how
-- often it was sent again. This project's profile. Cited by the model of what a `Relay` keeps of its pending requests.
use Rattle.std.specs.Prelude.{◌+◌, ◌-◌, ◌*◌, ◌%◌, ℕ, Option, Some, None}
use Rattle.relay_desk.specs.declared.pending.Wait.{Wait}

-- how many ticks ago the message was sent, at this tick in ten
abbrev pub gap : (phase at : ℕ) → ℕ
gap phase at = (phase + 10 - at) % 10

abbrev pub ticks_of : ℕ → Wait → ℕ
ticks_of phase w = w.resent * 10 + gap phase w.at

abbrev pub ticks_in : ℕ → Option Wait → Option ℕ
ticks_in phase None = None
ticks_in phase (Some w) = Some (ticks_of phase w)
