-- What one more octet makes of octets that begin a frame; so each stream has a reading.
use Rattle.std.proofs.Common.{◌≡◌, ◌<◌, ◌+◌, ◌∙◌, ℕ, zero, suc, List, [], ◌∷◌, ◌++◌, length, refl, sym, ap, subst, arith, append-nil, append_assoc, length-append, ◌⊎◌, inl, inr}
use Rattle.link_frames.specs.declared.fault.Fault.{Fault}
use Rattle.link_frames.specs.declared.fault.Fault.TheVariants as faults
use Rattle.link_frames.specs.declared.fault.FrameFault.{FrameFault}
use Rattle.link_frames.specs.declared.frame.Answer.TheVariants as answers
use Rattle.link_frames.specs.declared.frame.Frame.{Frame}
use Rattle.link_frames.specs.declared.frame.Frame.TheVariants as frame
use Rattle.link_frames.specs.declared.stage.Kind.{Kind}
use Rattle.link_frames.specs.declared.stage.Kind.TheVariants as kinds
use Rattle.link_frames.specs.declared.stage.Stop.TheVariants as stops
use Rattle.link_frames.specs.FrameOctets.{frame_octets, IsFrame, IsFrameFront, StopsBehind}
use Rattle.link_frames.specs.Stages.{kind_octet}
use Rattle.link_frames.specs.Streams.{all_octets, Holds, FrameStops}
use Rattle.link_frames.proofs.FeedLemmas.{zeros, zeros-length, nothing_begins, kind_begins, app_begins, request_begins, set_begins, stop_stops}
use Rattle.link_frames.proofs.FrameLemmas.{not_nil}
use Rattle.link_frames.proofs.StreamLemmas.{all_behind, each_behind, joined}

-- the octet ends a frame
record Ends (front : List ℕ) (octet : ℕ) : Type 0 where
  frame : Frame
  is_frame : IsFrame frame
  octets : frame_octets frame ≡ front ++ octet ∷ []

-- no frame goes on with the octet
record Stops (front : List ℕ) (octet : ℕ) : Type 0 where
  fault : Fault
  stops : StopsBehind front octet fault

abbrev Next : List ℕ → ℕ → Type 0
Next front octet = Ends front octet ⊎ (IsFrameFront (front ++ octet ∷ []) ⊎ Stops front octet)

first_next : (octet : ℕ) → Next [] octet
first_next zero =
    inr (inr (record {
      fault = faults.Kind;
      stops = stop_stops (stops.Kind 0) (omega arith)
          (λ low high. omega arith);
    }))
first_next (suc zero) = inl (record { frame = frame.Init; is_frame = tt; octets = refl })
first_next (suc (suc zero)) = inr (inl (kind_begins kinds.Start))
first_next (suc (suc (suc zero))) = inr (inl (kind_begins kinds.Content))
first_next (suc (suc (suc (suc zero)))) = inr (inl (kind_begins kinds.Nack))
first_next (suc (suc (suc (suc (suc zero))))) = inr (inl (kind_begins kinds.Ack))
first_next (suc (suc (suc (suc (suc (suc zero)))))) = inr (inl (kind_begins kinds.App))
first_next (suc (suc (suc (suc (suc (suc (suc n))))))) =
    let octet : ℕ = suc (suc (suc (suc (suc (suc (suc n)))))) in
    inr (inr (record {
      fault = faults.Kind;
      stops = stop_stops (stops.Kind octet) (omega arith)
          (λ low high. omega arith);
    }))

request_next : (kind : Kind) (octet : ℕ) → Next (kind_octet kind ∷ []) octet
request_next kind zero =
    inr (inr (record { fault = faults.Number; stops = stop_stops (stops.Number kind) (omega arith) tt }))
request_next kinds.Start (suc n) = inl (record { frame = frame.Start (suc n); is_frame = omega arith; octets = refl })
request_next kinds.Content (suc n) = inr (inl (request_begins (suc n) (omega arith)))
request_next kinds.Nack (suc n) = inl (record { frame = frame.Nack (suc n); is_frame = omega arith; octets = refl })
request_next kinds.Ack (suc n) = inl (record { frame = frame.Ack (suc n); is_frame = omega arith; octets = refl })
request_next kinds.App (suc n) = inr (inl (app_begins (suc n) (omega arith)))

answer_next : (request octet : ℕ) → 0 < request → Next (6 ∷ request ∷ []) octet
answer_next request zero h =
    inr (inr (record {
      fault = faults.Answer;
      stops = stop_stops (stops.Answer request 0) h
          (omega arith, omega arith);
    }))
answer_next request (suc zero) h =
    inl (record { frame = frame.App request answers.Positive; is_frame = h; octets = refl })
answer_next request (suc (suc zero)) h =
    inl (record { frame = frame.App request answers.Clear; is_frame = h; octets = refl })
answer_next request (suc (suc (suc n))) h =
    let octet : ℕ = suc (suc (suc n)) in
    inr (inr (record {
      fault = faults.Answer;
      stops = stop_stops (stops.Answer request octet) h
          (omega arith, omega arith);
    }))

set_next : (request attempt : ℕ) (octets : List ℕ) (next : ℕ) (more : List ℕ) (octet : ℕ)
    → 0 < request
    → length (octets ++ next ∷ more) ≡ 140
    → Next (3 ∷ request ∷ attempt ∷ octets) octet
set_next request attempt octets next [] octet h size =
    let before : length (octets ++ next ∷ []) ≡ length octets + 1 = length-append octets (next ∷ []) in
    let behind : length (octets ++ octet ∷ []) ≡ length octets + 1 = length-append octets (octet ∷ []) in
    let same : length (octets ++ octet ∷ []) ≡ 140 = omega arith in
    inl (record { frame = frame.Content request attempt (octets ++ octet ∷ []); is_frame = (h, same); octets = refl })
set_next request attempt octets next (y ∷ more) octet h size =
    let before : length (octets ++ next ∷ y ∷ more) ≡ length octets + length (next ∷ y ∷ more) =
    length-append octets (next ∷ y ∷ more) in
    let behind : length (octets ++ octet ∷ y ∷ more) ≡ length octets + length (octet ∷ y ∷ more) =
    length-append octets (octet ∷ y ∷ more) in
    let same : length (octets ++ octet ∷ y ∷ more) ≡ 140 = omega arith in
    inr (inl (record {
      frame = frame.Content request attempt (octets ++ octet ∷ y ∷ more);
      next = y;
      more = more;
      is_frame = (h, same);
      goes_on = ap (λ (xs : List ℕ). 3 ∷ request ∷ attempt ∷ xs) (sym (append_assoc octets (octet ∷ []) (y ∷ more)));
    }))

second_next : (f : Frame) (kind next : ℕ) (more : List ℕ) (octet : ℕ)
    → frame_octets f ≡ kind ∷ next ∷ more
    → Next (kind ∷ []) octet
second_next frame.Init kind next more octet e = absurd cc
second_next (frame.Start r) kind next more octet e =
    let same : 2 ≡ kind = cc in rw (← same) (request_next kinds.Start octet)
second_next (frame.Content r a os) kind next more octet e =
    let same : 3 ≡ kind = cc in rw (← same) (request_next kinds.Content octet)
second_next (frame.Nack r) kind next more octet e =
    let same : 4 ≡ kind = cc in rw (← same) (request_next kinds.Nack octet)
second_next (frame.Ack r) kind next more octet e =
    let same : 5 ≡ kind = cc in rw (← same) (request_next kinds.Ack octet)
second_next (frame.App r a) kind next more octet e =
    let same : 6 ≡ kind = cc in rw (← same) (request_next kinds.App octet)

third_next : (f : Frame) (kind request next : ℕ) (more : List ℕ) (octet : ℕ)
    → IsFrame f
    → frame_octets f ≡ kind ∷ request ∷ next ∷ more
    → Next (kind ∷ request ∷ []) octet
third_next (frame.Content r a os) kind request next more octet is e =
    let same : 3 ≡ kind = cc in
    let number : r ≡ request = cc in
    let begun : IsFrameFront (3 ∷ r ∷ octet ∷ []) = set_begins zeros r octet 0 zeros-length is.0 (omega arith) in
    rw (← same, ← number) (inr (inl begun))
third_next (frame.App r a) kind request next more octet is e =
    let same : 6 ≡ kind = cc in
    let number : r ≡ request = cc in
    rw (← same, ← number) (answer_next r octet is)
third_next f kind request next more octet is e = absurd cc

later_next : (f : Frame) (kind request attempt : ℕ) (octets : List ℕ) (next : ℕ) (more : List ℕ) (octet : ℕ)
    → IsFrame f
    → frame_octets f ≡ kind ∷ request ∷ attempt ∷ (octets ++ next ∷ more)
    → Next (kind ∷ request ∷ attempt ∷ octets) octet
later_next (frame.Content r a os) kind request attempt octets next more octet is e =
    let same : 3 ≡ kind = cc in
    let number : r ≡ request = cc in
    let repeat : a ≡ attempt = cc in
    let set : os ≡ octets ++ next ∷ more = cc in
    rw (← same, ← number, ← repeat) (set_next r a octets next more octet is.0 (ap length (sym set) ∙ is.1))
later_next (frame.App r a) kind request attempt octets next more octet is e =
    let none : octets ++ next ∷ more ≡ [] = cc in absurd (not_nil octets more next none)
later_next f kind request attempt octets next more octet is e = absurd cc

next_octet : (front : List ℕ) (octet : ℕ) → IsFrameFront front → Next front octet
next_octet [] octet begun = first_next octet
next_octet (kind ∷ []) octet begun = second_next begun.frame kind begun.next begun.more octet begun.goes_on
next_octet (kind ∷ request ∷ []) octet begun =
    third_next begun.frame kind request begun.next begun.more octet begun.is_frame begun.goes_on
next_octet (kind ∷ request ∷ attempt ∷ octets) octet begun =
    later_next begun.frame kind request attempt octets begun.next begun.more octet begun.is_frame begun.goes_on

-- the stream is frames and a rest, or it stops
abbrev pub Reads : List ℕ → Type 0
Reads stream =
    ((frames : List Frame) × (rest : List ℕ) × Holds stream frames rest)
    ⊎ ((frames : List Frame) × (fault : FrameFault) × FrameStops stream frames fault)

reads_on : (before : List ℕ) (frames : List Frame) (front : List ℕ)
    → Holds before frames front
    → (octets : List ℕ)
    → Reads (before ++ octets)
reads_on before frames front h [] = inl (frames, front, rw (append-nil before) h)
reads_on before frames front h (octet ∷ octets) =
    let apart : (before ++ octet ∷ []) ++ octets ≡ before ++ octet ∷ octets = append_assoc before (octet ∷ []) octets in
    let one : before ++ octet ∷ [] ≡ all_octets frames ++ (front ++ octet ∷ []) =
    joined frames before front (octet ∷ []) h.whole in
    elim (next_octet front octet h.begun) [
      | inl e ↦
          (let last : frame_octets e.frame ≡ front ++ octet ∷ [] = e.octets in
          let more : all_octets (frames ++ e.frame ∷ []) ≡ all_octets frames ++ frame_octets e.frame =
          all_behind frames e.frame in
          let nil : all_octets (frames ++ e.frame ∷ []) ++ [] ≡ all_octets (frames ++ e.frame ∷ []) =
          append-nil (all_octets (frames ++ e.frame ∷ [])) in
          let whole : before ++ octet ∷ [] ≡ all_octets (frames ++ e.frame ∷ []) ++ [] = cc in
          subst (λ (s : List ℕ). Reads s) apart (reads_on (before ++ octet ∷ []) (frames ++ e.frame ∷ []) []
          (record { each = each_behind frames e.frame h.each e.is_frame; begun = nothing_begins; whole = whole })
          octets))
      | inr n ↦
          (elim n [
            | inl begun ↦
                subst (λ (s : List ℕ). Reads s) apart (reads_on (before ++ octet ∷ []) frames (front ++ octet ∷ [])
                (record { each = h.each; begun = begun; whole = one }) octets)
            | inr s ↦
                inr (
                  frames,
                  record { place = length (all_octets frames ++ front); octet = octet; fault = s.fault },
                  record {
                    before = front;
                    more = octets;
                    each = h.each;
                    stops = s.stops;
                    whole = joined frames before front (octet ∷ octets) h.whole;
                    place = refl;
                  },
                )
          ])
    ]

pub some_reading : (stream : List ℕ) → Reads stream
some_reading stream = reads_on [] [] [] (record { each = tt; begun = nothing_begins; whole = refl }) stream
