-- What one piece of a stream says of whether it is one whole frame.
use Rattle.std.proofs.Common.{◌≡◌, ◌<◌, ◌≤◌, ◌∙◌, ℕ, List, [], ◌++◌, inl, inr, Some, Ok, length, take, drop, ap, sym, subst, arith}
use Rattle.std.proofs.lemmas.List.{take-append-drop, length-drop}
use Rattle.std.proofs.lemmas.Grind.{common_steps}
use Rattle.link_frames.proofs.FrameLemmas.{same_frame}
use Rattle.link_frames.specs.FrameOctets.{frame_octets, IsFrame}
use Rattle.link_frames.specs.Reading.{Feeds, Reading}
use Rattle.link_frames.specs.declared.frame.Frame.{Frame}
use Rattle.tone_link.specs.ToneReading.{IsNoFrame}

-- less than all was taken
pub part_taken : (octets : List ℕ) (n : ℕ) (old new : Reading) → old.kept ≡ [] → Feeds old octets (Ok n) new
    → n < length octets → IsNoFrame octets
part_taken octets n old new none (inl ends) less f is e =
    let begins : frame_octets f ≡ frame_octets ends.frame ++ drop n octets =
    e ∙ sym (take-append-drop n octets)
    ∙ ap (λ l. l ++ drop n octets) (sym (ends.octets ∙ ap (λ l. l ++ take n octets) none)) in
    let nothing : drop n octets ≡ [] = (same_frame ends.frame f (drop n octets) ends.is_frame is begins).1 in
    omega (arith, ap length nothing, length-drop n octets)
part_taken octets n old new none (inr all) less f is e = absurd (omega (arith, all.all))

take_all : (n : ℕ) (xs : List ℕ) → length xs ≤ n → take n xs ≡ xs
take_all n xs le = grind (arith, common_steps)

-- all was taken, and the last octet ended a frame
pub all_taken : (octets : List ℕ) (n : ℕ) (old new : Reading) (f : Frame) → old.kept ≡ [] → Feeds old octets (Ok n) new
    → length octets ≤ n → new.frame ≡ Some f → IsFrame f × (frame_octets f ≡ octets)
all_taken octets n old new f none (inl ends) le e =
    let same : ends.frame ≡ f = let after = ap (λ r. r.frame) ends.after in cc in
    let all : frame_octets ends.frame ≡ octets =
    ends.octets ∙ ap (λ l. l ++ take n octets) none ∙ take_all n octets le in
    (subst IsFrame same ends.is_frame, ap frame_octets (sym same) ∙ all)
all_taken octets n old new f none (inr all) le e = let after = ap (λ r. r.frame) all.after in absurd cc
