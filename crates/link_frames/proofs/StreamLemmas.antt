-- A stream has one reading, and pieces of it are read as the whole is.
use Rattle.std.proofs.Common.{◌≡◌, ◌≤◌, ◌+◌, ◌-◌, ◌∙◌, ℕ, List, [], ◌∷◌, ◌++◌, length, take, drop, Some, None, Result, Ok, Err, refl, sym, ap, subst, arith, append-nil, append_assoc, length-append, length-drop, inl, inr}
use Rattle.std.specs.List.{AllByRecursion}
use Rattle.std.proofs.lemmas.List.{take_all, length-take-le, take-append-drop}
use Rattle.link_frames.specs.declared.fault.FrameFault.{FrameFault}
use Rattle.link_frames.specs.declared.fault.Fault.{Fault}
use Rattle.link_frames.specs.declared.frame.Frame.{Frame}
use Rattle.link_frames.specs.FrameOctets.{frame_octets, IsFrame, IsFrameFront}
use Rattle.link_frames.specs.Streams.{all_octets, Holds, FrameStops}
use Rattle.link_frames.specs.Reading.{Reading, EndsFrame, TakesAll, StopsIn, Feeds, HasRead, and_frame}
use Rattle.link_frames.proofs.FeedLemmas.{nothing_begins, resting_at, stopped_at}
use Rattle.link_frames.proofs.FrameLemmas.{HasNoFrame, front_has_none, stop_has_none, stop_begins_none, same_front, same_stop, SameStop}

-- up to a rest that has no whole frame in front, a stream is of one list of frames
pub same_frames : (fs gs : List Frame) (x y : List ℕ)
    → AllByRecursion IsFrame fs
    → AllByRecursion IsFrame gs
    → HasNoFrame x
    → HasNoFrame y
    → all_octets fs ++ x ≡ all_octets gs ++ y
    → (fs ≡ gs) × (x ≡ y)
same_frames [] [] x y p q a b e = (refl, e)
same_frames [] (g ∷ gs) x y p q a b e =
    absurd (a g (all_octets gs ++ y) q.0 (e ∙ append_assoc (frame_octets g) (all_octets gs) y))
same_frames (f ∷ fs) [] x y p q a b e =
    absurd (b f (all_octets fs ++ x) p.0 (sym e ∙ append_assoc (frame_octets f) (all_octets fs) x))
same_frames (f ∷ fs) (g ∷ gs) x y p q a b e =
    let front : (f ≡ g) × (all_octets fs ++ x ≡ all_octets gs ++ y) =
    same_front f g (all_octets fs ++ x) (all_octets gs ++ y) p.0 q.0
    (sym (append_assoc (frame_octets f) (all_octets fs) x) ∙ (e ∙ append_assoc (frame_octets g) (all_octets gs) y)) in
    let rest : (fs ≡ gs) × (x ≡ y) = same_frames fs gs x y p.1 q.1 a b front.1 in
    let head : f ≡ g = front.0 in
    let tail : fs ≡ gs = rest.0 in
    (cc, rest.1)

pub one_reading : (stream : List ℕ) (fs gs : List Frame) (x y : List ℕ)
    → Holds stream fs x
    → Holds stream gs y
    → (fs ≡ gs) × (x ≡ y)
one_reading stream fs gs x y p q =
    same_frames fs gs x y p.each q.each (front_has_none x p.begun) (front_has_none y q.begun) (sym p.whole ∙ q.whole)

pub holds_or_stops : (stream : List ℕ) (fs gs : List Frame) (x : List ℕ) (fault : FrameFault)
    → Holds stream fs x
    → FrameStops stream gs fault
    → ⊥
holds_or_stops stream fs gs x fault p q =
    let same : (fs ≡ gs) × (x ≡ q.before ++ fault.octet ∷ q.more) =
    same_frames fs gs x (q.before ++ fault.octet ∷ q.more) p.each q.each (front_has_none x p.begun)
    (stop_has_none q.before q.more fault.octet fault.fault q.stops) (sym p.whole ∙ q.whole) in
    stop_begins_none q.before q.more fault.octet fault.fault q.stops
    (subst (λ (octets : List ℕ). IsFrameFront octets) same.1 p.begun)

abbrev fault_of : ℕ → ℕ → Fault → FrameFault
fault_of place octet fault = record { place = place; octet = octet; fault = fault }

pub same_fault_here : (f g : FrameFault) → f.place ≡ g.place → f.octet ≡ g.octet → f.fault ≡ g.fault → f ≡ g
same_fault_here f g p q r =
    let same : fault_of f.place f.octet f.fault ≡ fault_of g.place g.octet g.fault = cc in same

pub one_stop : (stream : List ℕ) (fs gs : List Frame) (f g : FrameFault)
    → FrameStops stream fs f
    → FrameStops stream gs g
    → (fs ≡ gs) × (f ≡ g)
one_stop stream fs gs f g p q =
    let same : (fs ≡ gs) × (p.before ++ f.octet ∷ p.more ≡ q.before ++ g.octet ∷ q.more) =
    same_frames fs gs (p.before ++ f.octet ∷ p.more) (q.before ++ g.octet ∷ q.more) p.each q.each
    (stop_has_none p.before p.more f.octet f.fault p.stops) (stop_has_none q.before q.more g.octet g.fault q.stops)
    (sym p.whole ∙ q.whole) in
    let stop : SameStop p.before q.before p.more q.more f.octet g.octet f.fault g.fault =
    same_stop p.before q.before p.more q.more f.octet g.octet f.fault g.fault p.stops q.stops same.1 in
    let frames : fs ≡ gs = same.0 in
    let before : p.before ≡ q.before = stop.before in
    let octets : length (all_octets fs ++ p.before) ≡ length (all_octets gs ++ q.before) = cc in
    (frames, same_fault_here f g (p.place ∙ (octets ∙ sym q.place)) stop.octet stop.fault)

-- one more frame behind others
pub all_behind : (fs : List Frame) (f : Frame) → all_octets (fs ++ f ∷ []) ≡ all_octets fs ++ frame_octets f
all_behind [] f = append-nil (frame_octets f)
all_behind (g ∷ fs) f =
    ap (λ (octets : List ℕ). frame_octets g ++ octets) (all_behind fs f)
    ∙ sym (append_assoc (frame_octets g) (all_octets fs) (frame_octets f))

pub each_behind : (fs : List Frame) (f : Frame)
    → AllByRecursion IsFrame fs
    → IsFrame f
    → AllByRecursion IsFrame (fs ++ f ∷ [])
each_behind [] f p q = (q, tt)
each_behind (g ∷ fs) f p q = (p.0, each_behind fs f p.1 q)

-- what came of the next frame, and a piece whose front goes on with it
pub joined : (frames : List Frame) (stream had front : List ℕ)
    → stream ≡ all_octets frames ++ had
    → stream ++ front ≡ all_octets frames ++ (had ++ front)
joined frames stream had front e =
    ap (λ (octets : List ℕ). octets ++ front) e ∙ append_assoc (all_octets frames) had front

length_taken : (stream piece : List ℕ) (n : ℕ) → n ≤ length piece → length (stream ++ take n piece) ≡ length stream + n
length_taken stream piece n h =
    let front : length (take n piece) ≡ n = length-take-le n piece h in
    omega (arith, length-append stream (take n piece))

-- the frames behind a piece that ended with one
read_frame : (stream piece : List ℕ) (frames : List Frame) (n : ℕ) (old new : Reading)
    → HasRead stream frames old
    → EndsFrame old piece n new
    → HasRead (stream ++ take n piece) (and_frame frames new.frame) new
read_frame stream piece frames n old new p q =
    let size : length (stream ++ take n piece) ≡ length stream + n = length_taken stream piece n q.bound in
    let taken : old.taken ≡ length stream = p.taken in
    let whole : stream ++ take n piece ≡ all_octets frames ++ (old.kept ++ take n piece) =
    joined frames stream old.kept (take n piece) p.holds.whole in
    let octets : frame_octets q.frame ≡ old.kept ++ take n piece = q.octets in
    let more : all_octets (frames ++ q.frame ∷ []) ≡ all_octets frames ++ frame_octets q.frame =
    all_behind frames q.frame in
    let nil : all_octets (frames ++ q.frame ∷ []) ++ [] ≡ all_octets (frames ++ q.frame ∷ []) =
    append-nil (all_octets (frames ++ q.frame ∷ [])) in
    rw q.after (record {
      holds = record { each = each_behind frames q.frame p.holds.each q.is_frame; begun = nothing_begins; whole = cc };
      taken = omega arith;
      going = refl;
    })

-- the rest behind a piece that was taken whole
read_rest : (stream piece : List ℕ) (frames : List Frame) (n : ℕ) (old new : Reading)
    → HasRead stream frames old
    → TakesAll old piece n new
    → HasRead (stream ++ take n piece) (and_frame frames new.frame) new
read_rest stream piece frames n old new p q =
    let all : n ≡ length piece = q.all in
    let front : take n piece ≡ piece = take_all n piece (omega arith) in
    let size : length (stream ++ piece) ≡ length stream + length piece = length-append stream piece in
    let taken : old.taken ≡ length stream = p.taken in
    rw (q.after, front) (record {
      holds =
          record { each = p.holds.each; begun = q.begun; whole = joined frames stream old.kept piece p.holds.whole };
      taken = omega arith;
      going = refl;
    })

-- a piece goes on with the stream that was read
pub goes_on : (stream piece : List ℕ) (frames : List Frame) (n : ℕ) (old new : Reading)
    → HasRead stream frames old
    → Feeds old piece (Ok n) new
    → HasRead (stream ++ take n piece) (and_frame frames new.frame) new
goes_on stream piece frames n old new p q =
    elim q [
      | inl whole ↦ read_frame stream piece frames n old new p whole
      | inr rest ↦ read_rest stream piece frames n
          old new p rest
    ]

-- where a reader stops, the stream stops
pub stops_there : (stream piece : List ℕ) (frames : List Frame) (fault : FrameFault) (old new : Reading)
    → HasRead stream frames old
    → Feeds old piece (Err fault) new
    → FrameStops (stream ++ piece) frames fault
stops_there stream piece frames fault old new p q =
    let whole : stream ++ q.front ≡ all_octets frames ++ (old.kept ++ q.front) =
    joined frames stream old.kept q.front p.holds.whole in
    let size : length (stream ++ q.front) ≡ length stream + length q.front = length-append stream q.front in
    let same : length (stream ++ q.front) ≡ length (all_octets frames ++ (old.kept ++ q.front)) = ap length whole in
    let taken : old.taken ≡ length stream = p.taken in
    let place : fault.place ≡ old.taken + length q.front = q.place in
    record {
      before = old.kept ++ q.front;
      more = q.more;
      each = p.holds.each;
      stops = q.stops;
      whole =
          joined frames stream old.kept piece p.holds.whole
          ∙ (ap (λ (octets : List ℕ). all_octets frames ++ (old.kept ++ octets)) q.split
          ∙ ap (λ (octets : List ℕ). all_octets frames ++ octets) (sym (append_assoc old.kept q.front
          (fault.octet ∷ q.more))));
      place = omega arith;
    }

-- the octets kept and a piece, where it ends a frame
ends_whole : (old : Reading) (piece : List ℕ) (n : ℕ) (new : Reading) (q : EndsFrame old piece n new)
    → old.kept ++ piece ≡ frame_octets q.frame ++ drop n piece
ends_whole old piece n new q =
    let whole : take n piece ++ drop n piece ≡ piece = take-append-drop n piece in
    let apart : (old.kept ++ take n piece) ++ drop n piece ≡ old.kept ++ (take n piece ++ drop n piece) =
    append_assoc old.kept (take n piece) (drop n piece) in
    let octets : frame_octets q.frame ≡ old.kept ++ take n piece = q.octets in
    cc

stops_whole : (old : Reading) (piece : List ℕ) (fault : FrameFault) (new : Reading) (q : StopsIn old piece fault new)
    → old.kept ++ piece ≡ (old.kept ++ q.front) ++ fault.octet ∷ q.more
stops_whole old piece fault new q =
    ap (λ (octets : List ℕ). old.kept ++ octets) q.split ∙ sym (append_assoc old.kept q.front (fault.octet ∷ q.more))

abbrev ended : Frame → ℕ → Reading
ended f t = record { kept = []; frame = Some f; fault = None; taken = t }

-- a piece ends one frame
ends_once : (old : Reading) (piece : List ℕ) (m n : ℕ) (a b : Reading)
    → EndsFrame old piece m a
    → EndsFrame old piece n b
    → (m ≡ n) × (a ≡ b)
ends_once old piece m n a b p q =
    let same : (p.frame ≡ q.frame) × (drop m piece ≡ drop n piece) =
    same_front p.frame q.frame (drop m piece) (drop n piece) p.is_frame q.is_frame
    (sym (ends_whole old piece m a p) ∙ ends_whole old piece n b q) in
    let rest : length piece - m ≡ length piece - n =
    sym (length-drop m piece) ∙ (ap length same.1 ∙ length-drop n piece) in
    let bound : m ≤ length piece = p.bound in
    let other : n ≤ length piece = q.bound in
    let count : m ≡ n = omega arith in
    let frame : p.frame ≡ q.frame = same.0 in
    let one : ended p.frame (old.taken + m) ≡ ended q.frame (old.taken + n) = cc in
    (count, p.after ∙ (one ∙ sym q.after))

takes_once : (old : Reading) (piece : List ℕ) (m n : ℕ) (a b : Reading)
    → TakesAll old piece m a
    → TakesAll old piece n b
    → (m ≡ n) × (a ≡ b)
takes_once old piece m n a b p q =
    let count : m ≡ n = p.all ∙ sym q.all in
    (count, p.after ∙ (ap (λ (k : ℕ). resting_at (old.kept ++ piece) (old.taken + k)) count ∙ sym q.after))

stops_once : (old : Reading) (piece : List ℕ) (f g : FrameFault) (a b : Reading)
    → StopsIn old piece f a
    → StopsIn old piece g b
    → (f ≡ g) × (a ≡ b)
stops_once old piece f g a b p q =
    let stop : SameStop (old.kept ++ p.front) (old.kept ++ q.front) p.more q.more f.octet g.octet f.fault g.fault =
    same_stop (old.kept ++ p.front) (old.kept ++ q.front) p.more q.more f.octet g.octet f.fault g.fault p.stops q.stops
    (sym (stops_whole old piece f a p) ∙ stops_whole old piece g b q) in
    let kept : old.kept ++ p.front ≡ old.kept ++ q.front = stop.before in
    let size : length old.kept + length p.front ≡ length old.kept + length q.front =
    sym (length-append old.kept p.front) ∙ (ap length kept ∙ length-append old.kept q.front) in
    let here : f.place ≡ old.taken + length p.front = p.place in
    let there : g.place ≡ old.taken + length q.front = q.place in
    let place : f.place ≡ g.place = omega arith in
    let fault : f ≡ g = same_fault_here f g place stop.octet stop.fault in
    let one : stopped_at (old.kept ++ p.front) f ≡ stopped_at (old.kept ++ q.front) g = cc in
    (fault, p.after ∙ (one ∙ sym q.after))

ends_or_takes : (old : Reading) (piece : List ℕ) (m n : ℕ) (a b : Reading)
    → EndsFrame old piece m a
    → TakesAll old piece n b
    → ⊥
ends_or_takes old piece m n a b p q =
    front_has_none (old.kept ++ piece) q.begun p.frame (drop m piece) p.is_frame (ends_whole old piece m a p)

ends_or_stops : (old : Reading) (piece : List ℕ) (m : ℕ) (f : FrameFault) (a b : Reading)
    → EndsFrame old piece m a
    → StopsIn old piece f b
    → ⊥
ends_or_stops old piece m f a b p q =
    stop_has_none (old.kept ++ q.front) q.more f.octet f.fault q.stops p.frame (drop m piece) p.is_frame
    (sym (stops_whole old piece f b q) ∙ ends_whole old piece m a p)

takes_or_stops : (old : Reading) (piece : List ℕ) (m : ℕ) (f : FrameFault) (a b : Reading)
    → TakesAll old piece m a
    → StopsIn old piece f b
    → ⊥
takes_or_stops old piece m f a b p q =
    stop_begins_none (old.kept ++ q.front) q.more f.octet f.fault q.stops
    (subst (λ (octets : List ℕ). IsFrameFront octets) (stops_whole old piece f b q) p.begun)

-- a piece makes one thing of a reader
pub feeds_once : (old : Reading) (piece : List ℕ) (x y : Result ℕ FrameFault) (a b : Reading)
    → Feeds old piece x a
    → Feeds old piece y b
    → (x ≡ y) × (a ≡ b)
feeds_once old piece (Ok m) (Ok n) a b p q =
    let same : (m ≡ n) × (a ≡ b) =
    elim p [
      | inl whole ↦ elim q [
        | inl other ↦ ends_once old piece m n a b whole other
        | inr other ↦ absurd (ends_or_takes old piece m n a b whole other)
      ]
      | inr rest ↦ elim q [
        | inl other ↦ absurd (ends_or_takes old piece n m b a other rest)
        | inr other ↦ takes_once old piece m n a b rest other
      ]
    ] in
    (ap Ok same.0, same.1)
feeds_once old piece (Ok m) (Err g) a b p q =
    elim p [
      | inl whole ↦ absurd (ends_or_stops old piece m g a b whole q)
      | inr rest ↦ absurd (takes_or_stops old piece m g a b rest q)
    ]
feeds_once old piece (Err f) (Ok n) a b p q =
    elim q [
      | inl whole ↦ absurd (ends_or_stops old piece n f b a whole p)
      | inr rest ↦ absurd (takes_or_stops old piece n f b a rest p)
    ]
feeds_once old piece (Err f) (Err g) a b p q =
    let same : (f ≡ g) × (a ≡ b) = stops_once old piece f g a b p q in (ap Err same.0, same.1)
