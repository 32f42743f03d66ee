-- What the reader of a part makes of the octets of a frame.
use Rattle.std.specs.Prelude.{◌≡◌, ◌≤◌, ◌+◌, ℕ, List, [], ◌∷◌, ◌++◌, length, take, Some, None, Ok, Err}
use Rattle.std.proofs.Common.{refl, sym, ap, subst, ◌∙◌, inl, inr, arith, length-append}
use Rattle.std.proofs.lemmas.List.{append-nil}
use Rattle.link_frames.specs.declared.fault.FrameFault.{FrameFault}
use Rattle.link_frames.specs.declared.frame.Frame.{Frame}
use Rattle.link_frames.specs.declared.frame.Frame.TheVariants as frame
use Rattle.link_frames.specs.FrameOctets.{frame_octets, IsFrame, IsFrameFront, StopsBehind}
use Rattle.link_frames.specs.Reading.{Reading, StopsIn, Feeds}
use Rattle.link_frames.proofs.FeedLemmas.{nothing_begins}
use Rattle.link_parts.specs.Rounds.{More, Whole, Wrong, carried, next_frame, number_of}
use Rattle.link_parts.specs.declared.fault.PartFault.{PartFault}
use Rattle.link_parts.specs.declared.fault.PartFault.TheVariants as wrong
use Rattle.link_parts.specs.declared.part.Part.TheVariants.{Carries}
use Rattle.link_parts.specs.declared.part_reader.PartReader.{PartReader}
use Rattle.link_parts.specs.declared.part_reader.PartStage.TheVariants as stage
use Rattle.link_parts.specs.PartReading.{IsBegun, Says}
use Rattle.link_parts.proofs.FrameNext.{ends_frame, goes_on_frame, stops_frame}

frame_length : (f : Frame) → IsFrame f → length (frame_octets f) ≤ 143
frame_length frame.Init h = omega arith
frame_length (frame.Start r) h = omega arith
frame_length (frame.Content r a octets) h = omega (arith, h.1)
frame_length (frame.Nack r) h = omega arith
frame_length (frame.Ack r) h = omega arith
frame_length (frame.App r answer) h = omega arith

front_few : (kept : List ℕ) → IsFrameFront kept → length kept ≤ 142
front_few kept h =
    let whole : length (frame_octets h.frame) ≡ length kept + length (h.next ∷ h.more) =
    ap length h.goes_on ∙ length-append kept (h.next ∷ h.more) in
    let most : length (frame_octets h.frame) ≤ 143 = frame_length h.frame h.is_frame in
    omega arith

pub may_feed : (r : Reading) → IsBegun r → r.taken + 1 ≤ 9223372036854775808
may_feed r h =
    let few : length r.kept ≤ 142 = front_few r.kept h.begun in
    let taken : r.taken ≡ length r.kept = h.taken in
    omega arith

pub first_begun : IsBegun (record { kept = []; frame = None; fault = None; taken = 0 })
first_begun = record { going = refl; taken = refl; begun = nothing_begins }

-- One octet is fed.

one_split : (front more : List ℕ) (o p : ℕ) → o ∷ [] ≡ front ++ p ∷ more → (front ≡ []) × (o ≡ p)
one_split [] more o p h = (refl, cc)
one_split (x ∷ []) more o p h = cc
one_split (x ∷ y ∷ front) more o p h = cc

pub stop_says : (old new : Reading) (o : ℕ) (fault : FrameFault) → StopsIn old (o ∷ []) fault new →
    next_frame old.kept o ≡ Wrong (wrong.Frame fault.fault)
stop_says old new o fault h =
    let s : (h.front ≡ []) × (o ≡ fault.octet) = one_split h.front h.more o fault.octet h.split in
    stops_frame old.kept o fault.fault
    (subst (λ (z : ℕ). StopsBehind old.kept z fault.fault) (sym s.1)
    (subst (λ (z : List ℕ). StopsBehind z fault.octet fault.fault) (ap (λ z. old.kept ++ z) s.0 ∙ append-nil old.kept) h.stops))

pub record KeepsOne (old new : Reading) (o : ℕ) : Type 0 where
  pub next : next_frame old.kept o ≡ More
  pub kept : new.kept ≡ old.kept ++ o ∷ []
  pub begun : IsBegun new

pub keeps_one : (old new : Reading) (o n : ℕ) → IsBegun old → new.frame ≡ None → Feeds old (o ∷ []) (Ok n) new →
    KeepsOne old new o
keeps_one old new o n begun none (inl h) =
    let some : new.frame ≡ Some h.frame = ap (λ z. z.frame) h.after in
    let wrong : None ≡ Some h.frame = sym none ∙ some in
    cc
keeps_one old new o n begun none (inr h) =
    let count : n ≡ 1 = h.all in
    record {
      next = goes_on_frame old.kept o h.begun;
      kept = ap (λ z. z.kept) h.after;
      begun =
          record {
            going = ap (λ z. z.fault) h.after;
            taken =
                ap (λ z. z.taken) h.after
                ∙ (let old_taken : old.taken ≡ length old.kept = begun.taken in
                let longer : length (old.kept ++ o ∷ []) ≡ length old.kept + length (o ∷ []) = length-append old.kept (o ∷ []) in
                let same : old.taken + n ≡ length (old.kept ++ o ∷ []) = omega arith in
                same)
                ∙ ap (λ z. length z.kept) (sym h.after);
            begun = subst (λ (z : Reading). IsFrameFront z.kept) (sym h.after) h.begun;
          };
    }

pub ends_one : (old new : Reading) (o n : ℕ) (f : Frame) → n ≡ 1 → new.frame ≡ Some f → Feeds old (o ∷ []) (Ok n) new →
    next_frame old.kept o ≡ Whole f
ends_one old new o n f one some (inr h) =
    let none : new.frame ≡ None = ap (λ z. z.frame) h.after in
    let wrong : None ≡ Some f = sym none ∙ some in
    cc
ends_one old new o n f one some (inl h) =
    let same : Some h.frame ≡ Some f = sym (ap (λ z. z.frame) h.after) ∙ some in
    let is : h.frame ≡ f = cc in
    subst (λ (z : Frame). next_frame old.kept o ≡ Whole z) is
    (ends_frame h.frame h.is_frame old.kept o
    (h.octets ∙ ap (λ z. old.kept ++ take z (o ∷ [])) one))

-- What the reader of a part answers to it.

pub says_wrong : (old new : Reading) (a b c d o : ℕ) (fault : FrameFault) (code : PartFault) (reader : PartReader)
    → code ≡ wrong.Frame fault.fault
    → StopsIn old (o ∷ []) fault new
    → Says (carried (number_of 0 (a ∷ b ∷ c ∷ d ∷ [])) (next_frame old.kept o)) (32 ∷ a ∷ b ∷ c ∷ d ∷ old.kept) o (Err code) reader
says_wrong old new a b c d o fault code reader is h = rw (stop_says old new o fault h) is

pub says_more : (old new : Reading) (a b c d o n : ℕ) (reader : PartReader)
    → IsBegun old
    → reader ≡ record { stage = stage.InFrame a b c d; reader = new }
    → new.frame ≡ None
    → Feeds old (o ∷ []) (Ok n) new
    → Says (carried (number_of 0 (a ∷ b ∷ c ∷ d ∷ [])) (next_frame old.kept o)) (32 ∷ a ∷ b ∷ c ∷ d ∷ old.kept) o (Ok None) reader
says_more old new a b c d o n reader begun is none h =
    let k : KeepsOne old new o = keeps_one old new o n begun none h in
    rw (k.next, is) (ap (λ z. 32 ∷ a ∷ b ∷ c ∷ d ∷ z) k.kept, k.begun)

pub says_whole : (old new : Reading) (a b c d o n call : ℕ) (f : Frame) (reader : PartReader)
    → reader ≡ record { stage = stage.Nothing; reader = new }
    → n ≡ 1
    → new.frame ≡ Some f
    → call ≡ number_of 0 (a ∷ b ∷ c ∷ d ∷ [])
    → Feeds old (o ∷ []) (Ok n) new
    → Says (carried (number_of 0 (a ∷ b ∷ c ∷ d ∷ [])) (next_frame old.kept o)) (32 ∷ a ∷ b ∷ c ∷ d ∷ old.kept) o
    (Ok (Some (Carries call f))) reader
says_whole old new a b c d o n call f reader is one some number h =
    rw (ends_one old new o n f one some h, is) (ap (λ z. Carries z f) number, refl, tt)
