-- What closing a run makes of the causes of its end.
use Rattle.std.specs.Prelude.{◌≡◌, ℕ, true, false, Result, Ok, Err, OnOk, OnErr}
use Rattle.std.specs.Result.{is_err}
use Rattle.std.proofs.Common.{refl, inl, inr}
use Rattle.call_io.specs.Counts.{Rose}
use Rattle.live_link.specs.declared.answer.LiveStatus.{LiveStatus}
use Rattle.live_link.specs.declared.answer.LiveStatus.TheVariants as status
use Rattle.live_link.specs.inner.Closing.{CloseCause, has_failed}

pub closes_failed : (how : LiveStatus) (o : ℕ) → has_failed how ≡ true → CloseCause how how o o
closes_failed status.Done o h = absurd (cc)
closes_failed (status.Refused b) o h = absurd (cc)
closes_failed status.ReadFault o h = (refl, refl)
closes_failed status.WriteFault o h = (refl, refl)
closes_failed status.Memory o h = absurd (cc)
closes_failed status.TooLong o h = absurd (cc)
closes_failed status.PeerEnded o h = absurd (cc)
closes_failed status.LinkCut o h = absurd (cc)
closes_failed (status.LinkFault f) o h = absurd (cc)
closes_failed status.NoLink o h = absurd (cc)

pub closes_whole : (how : LiveStatus) (o o' : ℕ) → has_failed how ≡ false → o' ≡ o → CloseCause how how o o'
closes_whole status.Done o o' h k = inl (refl, k)
closes_whole (status.Refused b) o o' h k = inl (refl, k)
closes_whole status.ReadFault o o' h k = (refl, k)
closes_whole status.WriteFault o o' h k = (refl, k)
closes_whole status.Memory o o' h k = inl (refl, k)
closes_whole status.TooLong o o' h k = inl (refl, k)
closes_whole status.PeerEnded o o' h k = inl (refl, k)
closes_whole status.LinkCut o o' h k = inl (refl, k)
closes_whole (status.LinkFault f) o o' h k = inl (refl, k)
closes_whole status.NoLink o o' h k = inl (refl, k)

pub closes_cut : (how : LiveStatus) (o o' : ℕ) → has_failed how ≡ false → Rose o o' → CloseCause how status.WriteFault o o'
closes_cut status.Done o o' h k = inr (refl, k)
closes_cut (status.Refused b) o o' h k = inr (refl, k)
closes_cut status.ReadFault o o' h k = absurd (cc)
closes_cut status.WriteFault o o' h k = absurd (cc)
closes_cut status.Memory o o' h k = inr (refl, k)
closes_cut status.TooLong o o' h k = inr (refl, k)
closes_cut status.PeerEnded o o' h k = inr (refl, k)
closes_cut status.LinkCut o o' h k = inr (refl, k)
closes_cut (status.LinkFault f) o o' h k = inr (refl, k)
closes_cut status.NoLink o o' h k = inr (refl, k)

-- what holds of a call that failed, and of one that did not
pub of_err : {T E : Type 0} (P : Type 0) (r : Result T E) → is_err r ≡ true → OnErr r P → P
of_err P (Ok x) h p = absurd (cc)
of_err P (Err e) h p = p

pub of_ok : {T E : Type 0} (P : Type 0) (r : Result T E) → is_err r ≡ false → OnOk r P → P
of_ok P (Ok x) h p = p
of_ok P (Err e) h p = absurd (cc)
