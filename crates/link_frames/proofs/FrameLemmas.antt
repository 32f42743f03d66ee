-- No frame's octets begin another's, and what begins a frame, or stops one, has no whole frame in front.
use Rattle.std.proofs.Common.{◌≡◌, ◌+◌, ◌∙◌, ℕ, List, [], ◌∷◌, ◌++◌, length, refl, sym, ap, subst, arith, append-nil, append_assoc, length-append, ◌⊎◌, inl, inr}
use Rattle.link_frames.specs.declared.fault.Fault.{Fault}
use Rattle.link_frames.specs.declared.fault.Fault.TheVariants as faults
use Rattle.link_frames.specs.declared.frame.Answer.{Answer}
use Rattle.link_frames.specs.declared.frame.Answer.TheVariants as answers
use Rattle.link_frames.specs.declared.frame.Frame.{Frame}
use Rattle.link_frames.specs.declared.frame.Frame.TheVariants as frame
use Rattle.link_frames.specs.FrameOctets.{answer_octet, frame_octets, IsFrame, IsFrameFront, IsFaulty, StopsBehind}

-- nothing is behind a list that is as long as all of it
nothing_behind : (xs ys more : List ℕ) (n : ℕ) → length xs ≡ n → length ys ≡ n → ys ≡ xs ++ more → more ≡ []
nothing_behind xs ys [] n a b e = refl
nothing_behind xs ys (m ∷ more) n a b e =
    let longer : length ys ≡ length xs + length (m ∷ more) = ap length e ∙ length-append xs (m ∷ more) in
    absurd (omega arith)

same_answer : (a b : Answer) → answer_octet a ≡ answer_octet b → a ≡ b
same_answer answers.Positive answers.Positive e = refl
same_answer answers.Clear answers.Clear e = refl
same_answer a b e = absurd cc

-- no frame's octets are a proper prefix of another's
pub same_frame : (f g : Frame) (more : List ℕ)
    → IsFrame f
    → IsFrame g
    → frame_octets g ≡ frame_octets f ++ more
    → (f ≡ g) × (more ≡ [])
same_frame frame.Init frame.Init more p q e = (refl, cc)
same_frame (frame.Start r) (frame.Start s) more p q e = (cc, cc)
same_frame (frame.Content r a xs) (frame.Content s b ys) more p q e =
    let rest : ys ≡ xs ++ more = cc in
    let none : more ≡ [] = nothing_behind xs ys more 140 p.1 q.1 rest in
    let nil : xs ++ [] ≡ xs = append-nil xs in
    let same : xs ≡ ys = cc in
    (cc, none)
same_frame (frame.Nack r) (frame.Nack s) more p q e = (cc, cc)
same_frame (frame.Ack r) (frame.Ack s) more p q e = (cc, cc)
same_frame (frame.App r a) (frame.App s b) more p q e =
    let same : answer_octet a ≡ answer_octet b = cc in
    let answer : a ≡ b = same_answer a b same in
    (cc, cc)
same_frame f g more p q e = absurd cc

-- b goes on where a ends
pub record GoesOn (a b x y : List ℕ) : Type 0 where
  pub rest : List ℕ
  pub longer : b ≡ a ++ rest
  pub behind : x ≡ rest ++ y

-- of two fronts of one list the longer one begins with the other
pub meet : (a b x y : List ℕ) → a ++ x ≡ b ++ y → GoesOn a b x y ⊎ GoesOn b a y x
meet [] b x y e = inl (record { rest = b; longer = refl; behind = e })
meet (u ∷ a) [] x y e = inr (record { rest = u ∷ a; longer = refl; behind = sym e })
meet (u ∷ a) (v ∷ b) x y e =
    let head : u ≡ v = cc in
    let tails : a ++ x ≡ b ++ y = cc in
    elim (meet a b x y tails) [
      | inl g ↦
          (let longer : b ≡ a ++ g.rest = g.longer in inl (record { rest = g.rest; longer = cc; behind = g.behind }))
      | inr g ↦
          (let longer : a ≡ b ++ g.rest = g.longer in inr (record { rest = g.rest; longer = cc; behind = g.behind }))
    ]

-- no whole frame stands in front
abbrev pub HasNoFrame : List ℕ → Type 0
HasNoFrame octets = (f : Frame) (more : List ℕ) → IsFrame f → octets ≡ frame_octets f ++ more → ⊥

-- a list that has an element isn't empty
pub not_nil : (xs ys : List ℕ) (y : ℕ) → xs ++ y ∷ ys ≡ [] → ⊥
not_nil [] ys y e = cc
not_nil (x ∷ xs) ys y e = cc

pub front_has_none : (octets : List ℕ) → IsFrameFront octets → HasNoFrame octets
front_has_none octets front f more is e =
    let all : frame_octets front.frame ≡ octets ++ front.next ∷ front.more = front.goes_on in
    let apart : (frame_octets f ++ more) ++ front.next ∷ front.more ≡ frame_octets f ++
    (more ++ front.next ∷ front.more) =
    append_assoc (frame_octets f) more (front.next ∷ front.more) in
    let begins : frame_octets front.frame ≡ frame_octets f ++ (more ++ front.next ∷ front.more) = cc in
    not_nil more front.more front.next
    ((same_frame f front.frame (more ++ front.next ∷ front.more) is front.is_frame begins).1)

-- with an octet that stops a frame none begins
pub stop_begins_none : (before more : List ℕ) (octet : ℕ) (fault : Fault)
    → StopsBehind before octet fault
    → IsFrameFront (before ++ octet ∷ more)
    → ⊥
stop_begins_none before more octet fault stops front =
    stops.none front.frame (more ++ front.next ∷ front.more) front.is_frame
    (front.goes_on ∙ append_assoc before (octet ∷ more) (front.next ∷ front.more))

stop_has_none_at : (before more rest behind : List ℕ) (octet : ℕ) (fault : Fault) (f : Frame)
    → StopsBehind before octet fault
    → IsFrame f
    → frame_octets f ≡ before ++ rest
    → octet ∷ more ≡ rest ++ behind
    → ⊥
stop_has_none_at before more [] behind octet fault f stops is longer next =
    front_has_none before stops.begun f [] is (sym (append-nil before) ∙ (sym longer
    ∙ sym (append-nil (frame_octets f))))
stop_has_none_at before more (r ∷ rest) behind octet fault f stops is longer next =
    let same : octet ≡ r = cc in
    stops.none f rest is (rw same longer)

pub stop_has_none : (before more : List ℕ) (octet : ℕ) (fault : Fault)
    → StopsBehind before octet fault
    → HasNoFrame (before ++ octet ∷ more)
stop_has_none before more octet fault stops f behind is e =
    elim (meet before (frame_octets f) (octet ∷ more) behind e) [
      | inl g ↦ stop_has_none_at before more g.rest behind octet fault f stops is g.longer g.behind
      | inr g ↦ front_has_none before stops.begun f g.rest is g.longer
    ]

-- two frames in front of one list are the same
pub same_front : (f g : Frame) (x y : List ℕ)
    → IsFrame f
    → IsFrame g
    → frame_octets f ++ x ≡ frame_octets g ++ y
    → (f ≡ g) × (x ≡ y)
same_front f g x y p q e =
    elim (meet (frame_octets f) (frame_octets g) x y e) [
      | inl m ↦
          (let same : (f ≡ g) × (m.rest ≡ []) = same_frame f g m.rest p q m.longer in
          (same.0, m.behind ∙ ap (λ (r : List ℕ). r ++ y) same.1))
      | inr m ↦
          (let same : (g ≡ f) × (m.rest ≡ []) = same_frame g f m.rest q p m.longer in
          (sym same.0, sym (m.behind ∙ ap (λ (r : List ℕ). r ++ x) same.1)))
    ]

-- an octet has one fault at most
pub same_fault : (f g : Fault) (before : List ℕ) (octet : ℕ) → IsFaulty f before octet → IsFaulty g before octet → f ≡ g
same_fault faults.Kind faults.Kind before octet p q = refl
same_fault faults.Number faults.Number before octet p q = refl
same_fault faults.Answer faults.Answer before octet p q = refl
same_fault faults.Kind faults.Number before octet p q =
    let none : length before ≡ 0 = ap length p.0 in absurd (omega arith)
same_fault faults.Kind faults.Answer before octet p q =
    let none : length before ≡ 0 = ap length p.0 in absurd (omega arith)
same_fault faults.Number faults.Kind before octet p q =
    let none : length before ≡ 0 = ap length q.0 in absurd (omega arith)
same_fault faults.Answer faults.Kind before octet p q =
    let none : length before ≡ 0 = ap length q.0 in absurd (omega arith)
same_fault faults.Number faults.Answer before octet p q = absurd (omega arith)
same_fault faults.Answer faults.Number before octet p q = absurd (omega arith)

-- Two octets of one list that stop a frame are one and the same.
pub record SameStop (a b x y : List ℕ) (m n : ℕ) (f g : Fault) : Type 0 where
  pub before : a ≡ b
  pub octet : m ≡ n
  pub fault : f ≡ g
  pub more : x ≡ y

same_stop_at : (a b x y rest : List ℕ) (m n : ℕ) (f g : Fault)
    → StopsBehind a m f
    → StopsBehind b n g
    → b ≡ a ++ rest
    → m ∷ x ≡ rest ++ n ∷ y
    → SameStop a b x y m n f g
same_stop_at a b x y [] m n f g p q longer next =
    let nil : a ++ [] ≡ a = append-nil a in
    let same : a ≡ b = cc in
    let octet : m ≡ n = cc in
    let here : IsFaulty g a m = rw (same, octet) q.named in
    record { before = same; octet = octet; fault = same_fault f g a m p.named here; more = cc }
same_stop_at a b x y (r ∷ rest) m n f g p q longer next =
    let same : m ≡ r = cc in
    let here : b ≡ a ++ m ∷ rest = rw same longer in
    absurd (stop_begins_none a rest m f p (subst (λ (octets : List ℕ). IsFrameFront octets) here q.begun))

turned : (a b x y : List ℕ) (m n : ℕ) (f g : Fault) → SameStop b a y x n m g f → SameStop a b x y m n f g
turned a b x y m n f g s = record { before = sym s.before; octet = sym s.octet; fault = sym s.fault; more = sym s.more }

pub same_stop : (a b x y : List ℕ) (m n : ℕ) (f g : Fault)
    → StopsBehind a m f
    → StopsBehind b n g
    → a ++ m ∷ x ≡ b ++ n ∷ y
    → SameStop a b x y m n f g
same_stop a b x y m n f g p q e =
    elim (meet a b (m ∷ x) (n ∷ y) e) [
      | inl go ↦ same_stop_at a b x y go.rest m n f g p q go.longer go.behind
      | inr go ↦ turned a b x y m n f g (same_stop_at b a y x go.rest n m g f q p go.longer go.behind)
    ]
