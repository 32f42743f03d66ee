-- Each list of lines has one reply at most of `decode` and of `frames`. Cited by the law that each input has one reply.
use Rattle.std.specs.Prelude.{◌≡◌, ℕ, ◌+◌, List, [], ◌∷◌, ◌++◌, Option, Some, None, Result, Ok, Err}
use Rattle.std.proofs.Common.{sym, ◌∙◌, ap, subst, inl, inr}
use Rattle.link_frames.proofs.StreamLemmas.{holds_or_stops, one_reading}
use Rattle.link_frames.specs.declared.fault.FrameFault.{FrameFault}
use Rattle.link_frames.specs.declared.frame.Frame.{Frame}
use Rattle.line_input.specs.declared.reason.Reason.{Reason}
use Rattle.msd_codec.proofs.SetLaws.{apart, one_text, answer_read}
use Rattle.msd_codec.specs.Sets.{StopsAt}
use Rattle.msd_codec.specs.Trees.{tree}
use Rattle.msd_values.specs.Description.{description}
use Rattle.per_bits.specs.declared.refusals.Refusal.{Refusal}
use Rattle.command_base.specs.Refusals.{Reply, refusal_reply, in_front_of}
use Rattle.command_base.specs.declared.refusal.Refused.TheVariants as refused
use Rattle.command_base.specs.declared.status.Status.TheVariants as status
use Rattle.set_commands.specs.Decode.{judged_set, IsLineDecoded, AreDecoded}
use Rattle.set_commands.specs.Frames.{AreFrames, EndsFrames, IsLineOfFrames, frame_lines, rest_line}
use Rattle.set_commands.specs.inner.FrameStreams.{same_ended, same_stopped}

-- ---- decode

one_refusal : (octets : List ℕ) (r s : Refusal) → StopsAt octets r → StopsAt octets s → r ≡ s
one_refusal octets r s a b =
    let e : Err r ≡ Err s = answer_read octets (Err r) a ∙ sym (answer_read octets (Err s) b) in
    cc e

-- a line has one reply, where the lines behind it have one
decoded_line_one : (number : ℕ) (place : Result (Option (List ℕ)) Reason) (Rest : Reply → Type 0)
    → ((r s : Reply) → Rest r → Rest s → r ≡ s) → (r s : Reply) → IsLineDecoded number place Rest r
    → IsLineDecoded number place Rest s → r ≡ s
decoded_line_one number (Err why) Rest one r s a b = a ∙ sym b
decoded_line_one number (Ok None) Rest one r s a b = one r s a b
decoded_line_one number (Ok (Some octets)) Rest one r s (inl a) (inl b) =
    a.says
    ∙ (ap (λ text. in_front_of text a.rest) (one_text octets a.msd b.msd a.shown b.shown)
    ∙ (ap (in_front_of (description b.msd)) (one a.rest b.rest a.replied b.replied) ∙ sym b.says))
decoded_line_one number (Ok (Some octets)) Rest one r s (inl a) (inr b) =
    absurd (apart octets (tree a.msd) b.refusal a.shown b.stops)
decoded_line_one number (Ok (Some octets)) Rest one r s (inr a) (inl b) =
    absurd (apart octets (tree b.msd) a.refusal b.shown a.stops)
decoded_line_one number (Ok (Some octets)) Rest one r s (inr a) (inr b) =
    a.says ∙ (ap (λ refusal. refusal_reply (refused.Set number refusal))
    (one_refusal octets a.refusal b.refusal a.stops b.stops) ∙ sym b.says)

-- each list of lines has one reply
pub decoded_one : (number : ℕ) (texts : List (List ℕ)) (r s : Reply) → AreDecoded number texts r
    → AreDecoded number texts s → r ≡ s
decoded_one number [] r s a b = a ∙ sym b
decoded_one number (text ∷ texts) r s a b =
    decoded_line_one number (judged_set text) (AreDecoded (number + 1) texts) (decoded_one (number + 1) texts) r s a b

-- ---- frames

-- lines have one reply at most
abbrev HaveOne : (Rest : List ℕ → List Frame → Reply → Type 0) → Type 0
HaveOne Rest = (stream : List ℕ) (ended : List Frame) (r s : Reply) → Rest stream ended r → Rest stream ended s → r ≡ s

-- so a piece has, where it ends frames
ends_one : (stream : List ℕ) (ended : List Frame) (piece : List ℕ) (Rest : List ℕ → List Frame → Reply → Type 0)
    → HaveOne Rest → (r s : Reply) → EndsFrames stream ended piece Rest r → EndsFrames stream ended piece Rest s
    → r ≡ s
ends_one stream ended piece Rest one r s a b =
    let same : a.frames ≡ b.frames =
    same_ended (stream ++ piece) ended a.frames b.frames a.unfinished b.unfinished a.holds b.holds in
    let replied : Rest (stream ++ piece) (ended ++ b.frames) a.rest =
    subst (λ (fs : List Frame). Rest (stream ++ piece) (ended ++ fs) a.rest) same a.replied in
    let rest : a.rest ≡ b.rest = one (stream ++ piece) (ended ++ b.frames) a.rest b.rest replied b.replied in
    a.says
    ∙ (ap (λ (fs : List Frame). in_front_of (frame_lines fs) a.rest) same
    ∙ (ap (in_front_of (frame_lines b.frames)) rest ∙ sym b.says))

frames_line_one : (number : ℕ) (place : Result (Option (List ℕ)) Reason) (Rest : List ℕ → List Frame → Reply → Type 0)
    → HaveOne Rest → HaveOne (λ stream ended r. IsLineOfFrames number place stream ended Rest r)
frames_line_one number (Err why) Rest one stream ended r s a b = a ∙ sym b
frames_line_one number (Ok None) Rest one stream ended r s a b = one stream ended r s a b
frames_line_one number (Ok (Some piece)) Rest one stream ended r s (inl a) (inl b) =
    ends_one stream ended piece Rest one r s a b
frames_line_one number (Ok (Some piece)) Rest one stream ended r s (inl a) (inr b) =
    absurd
    (holds_or_stops (stream ++ piece) (ended ++ a.frames) (ended ++ b.frames) a.unfinished b.fault a.holds b.stops)
frames_line_one number (Ok (Some piece)) Rest one stream ended r s (inr a) (inl b) =
    absurd
    (holds_or_stops (stream ++ piece) (ended ++ b.frames) (ended ++ a.frames) b.unfinished a.fault b.holds a.stops)
frames_line_one number (Ok (Some piece)) Rest one stream ended r s (inr a) (inr b) =
    let same : (a.frames ≡ b.frames) × (a.fault ≡ b.fault) =
    same_stopped (stream ++ piece) ended a.frames b.frames a.fault b.fault a.stops b.stops in
    a.says
    ∙ (ap (λ (fs : List Frame). in_front_of (frame_lines fs) (refusal_reply (refused.Frame number a.fault))) same.0
    ∙ (ap (λ (f : FrameFault). in_front_of (frame_lines b.frames) (refusal_reply (refused.Frame number f))) same.1
    ∙ sym b.says))

-- each list of lines has one reply
pub frames_one : (number : ℕ) (texts : List (List ℕ)) → HaveOne (AreFrames number texts)
frames_one number [] stream ended r s a b =
    a.says
    ∙ (ap (λ (rest : List ℕ). record { text = rest_line rest; status = status.Done })
    (one_reading stream ended ended a.unfinished b.unfinished a.holds b.holds).1 ∙ sym b.says)
frames_one number (text ∷ texts) stream ended r s a b =
    frames_line_one number (judged_set text) (AreFrames (number + 1) texts) (frames_one (number + 1) texts) stream ended r s
    a b
