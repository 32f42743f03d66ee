-- Frames that are kept and the frames that they stand for.
use Rattle.std.proofs.Common.{◌≡◌, ℕ, zero, suc, ◌<◌, ◌≤◌, List, [], ◌∷◌, ◌++◌, length, get_or, map, refl, ap, ◌∙◌, arith, Some, None, slice_get}
use Rattle.std.proofs.lemmas.List.{map-append}
use Rattle.std.specs.Option.{option_map}
use Rattle.link_frames.specs.declared.frame.Frame.{Frame}
use Rattle.channel_sim.specs.declared.kept.KeptFrame.{KeptFrame}
use Rattle.channel_sim.specs.declared.sends.KeptSent.{KeptSent}
use Rattle.channel_sim.specs.Sends.{sent_of}
use Rattle.channel_sim.specs.Handing.{full}

-- one frame more, in all that is kept
pub pushed_view : (fs : List KeptSent) (t : ℕ) (f : KeptFrame) (w : Frame) → full f ≡ w → map sent_of (fs ++ record { tick = t; frame = f } ∷ []) ≡ map sent_of fs ++ record { tick = t; frame = w } ∷ []
pushed_view fs t f w same =
    map-append sent_of fs (record { tick = t; frame = f } ∷ [])
    ∙ ap (λ v. map sent_of fs ++ record { tick = t; frame = v } ∷ []) same

pub frame_at : (fs : List KeptSent) (i : ℕ) (d : KeptSent) → i < length fs → option_map (λ s. s.frame) (slice_get (map sent_of fs) i) ≡ Some (full (get_or fs i d).frame)
frame_at [] i d inside = absurd (omega arith)
frame_at (f ∷ fs) zero d inside = refl
frame_at (f ∷ fs) (suc i) d inside = frame_at fs i d (omega arith)

pub no_frame_at : (fs : List KeptSent) (i : ℕ) → length fs ≤ i → option_map (λ s. s.frame) (slice_get (map sent_of fs) i) ≡ None
no_frame_at [] i past = refl
no_frame_at (f ∷ fs) zero past = absurd (omega arith)
no_frame_at (f ∷ fs) (suc i) past = no_frame_at fs i (omega arith)

-- the ticks are those that are kept
pub same_ticks : (fs : List KeptSent) → map (λ s. s.tick) (map sent_of fs) ≡ map (λ s. s.tick) fs
same_ticks [] = refl
same_ticks (f ∷ fs) = ap (λ rest. f.tick ∷ rest) (same_ticks fs)

pub same_count : (fs : List KeptSent) → length (map sent_of fs) ≡ length fs
same_count [] = refl
same_count (f ∷ fs) = ap suc (same_count fs)

pub tick_at : (fs : List KeptSent) (i : ℕ) (d : KeptSent) → i < length fs → slice_get (map (λ s. s.tick) (map sent_of fs)) i ≡ Some (get_or fs i d).tick
tick_at [] i d inside = absurd (omega arith)
tick_at (f ∷ fs) zero d inside = refl
tick_at (f ∷ fs) (suc i) d inside = tick_at fs i d (omega arith)

pub no_tick_at : (fs : List KeptSent) (i : ℕ) → length fs ≤ i → slice_get (map (λ s. s.tick) (map sent_of fs)) i ≡ None
no_tick_at [] i past = refl
no_tick_at (f ∷ fs) zero past = absurd (omega arith)
no_tick_at (f ∷ fs) (suc i) past = no_tick_at fs i (omega arith)
