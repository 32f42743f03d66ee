-- What one more octet makes of a frame that has begun, told by the octets of frames: a reader of frames that is fed one
-- octet at a time answers by it.
use Rattle.std.specs.Prelude.{◌≡◌, ◌≢◌, ◌≤◌, ◌<◌, ◌+◌, ℕ, zero, suc, Bool, true, false, List, [], ◌∷◌, ◌++◌, ◌==◌, ◌&&◌, length, nat_le, replicate, if◌then◌else◌}
use Rattle.std.proofs.Common.{refl, sym, ap, subst, ◌∙◌, arith, length-append}
use Rattle.std.proofs.lemmas.List.{length-replicate}
use Rattle.std.proofs.lemmas.Bool.{eq-eqb, ne_eqb, leb-true}
use Rattle.link_frames.specs.declared.fault.Fault.{Fault}
use Rattle.link_frames.specs.declared.fault.Fault.TheVariants as faults
use Rattle.link_frames.specs.declared.frame.Answer.TheVariants as answers
use Rattle.link_frames.specs.declared.frame.Frame.{Frame}
use Rattle.link_frames.specs.declared.frame.Frame.TheVariants as frame
use Rattle.link_frames.specs.FrameOctets.{answer_octet, frame_octets, IsFrame, IsFrameFront, StopsBehind}
use Rattle.link_parts.specs.declared.fault.PartFault.TheVariants as wrong
use Rattle.link_parts.specs.Rounds.{Next, More, Whole, Wrong, frame_of_one, frame_of_two, answered_frame, content_frame, frame_behind, next_frame}

both : (a b : Bool) → (a && b) ≡ true → (a ≡ true) × (b ≡ true)
both true b h = (refl, h)
both false b h = cc

no_nil : (xs : List ℕ) (o : ℕ) → [] ≡ xs ++ o ∷ [] → ⊥
no_nil [] o h = cc
no_nil (x ∷ xs) o h = cc

-- An octet with which a frame ends.

positive : (r : ℕ) → 0 < r → (r == 0) ≡ false
positive r h = ne_eqb r 0 (λ e. absurd (omega (arith, h, e)))

ends_one : (kept : List ℕ) (o : ℕ) → 1 ∷ [] ≡ kept ++ o ∷ [] → next_frame kept o ≡ Whole frame.Init
ends_one [] o h = let same : 1 ≡ o = cc in subst (λ (z : ℕ). frame_of_one z ≡ Whole frame.Init) same refl
ends_one (k ∷ kept) o h = absurd (no_nil kept o cc)

ends_two : (kind r : ℕ) (f : Frame) → ((kind == 1) ≡ false) → frame_of_two kind r ≡ Whole f → (kept : List ℕ) (o : ℕ) →
    kind ∷ r ∷ [] ≡ kept ++ o ∷ [] → next_frame kept o ≡ Whole f
ends_two kind r f other is [] o h = cc
ends_two kind r f other is (k ∷ []) o h =
    let one : kind ≡ k = cc in
    let same : r ≡ o = cc in
    subst (λ (z : ℕ). frame_of_two z o ≡ Whole f) one (subst (λ (z : ℕ). frame_of_two kind z ≡ Whole f) same is)
ends_two kind r f other is (k ∷ q ∷ kept) o h = absurd (no_nil kept o cc)

ends_app : (r a : ℕ) (f : Frame) → answered_frame r a ≡ Whole f → (kept : List ℕ) (o : ℕ) →
    6 ∷ r ∷ a ∷ [] ≡ kept ++ o ∷ [] → next_frame kept o ≡ Whole f
ends_app r a f is [] o h = cc
ends_app r a f is (k ∷ []) o h = cc
ends_app r a f is (k ∷ q ∷ []) o h =
    let kind : 6 ≡ k = cc in
    let request : r ≡ q = cc in
    let same : a ≡ o = cc in
    subst (λ (z : ℕ). frame_behind z q [] o ≡ Whole f) kind
    (subst (λ (z : ℕ). answered_frame z o ≡ Whole f) request (subst (λ (z : ℕ). answered_frame r z ≡ Whole f) same is))
ends_app r a f is (k ∷ q ∷ p ∷ kept) o h = absurd (no_nil kept o cc)

ends_content : (r a : ℕ) (octets : List ℕ) → length octets ≡ 140 → (kept : List ℕ) (o : ℕ) →
    3 ∷ r ∷ a ∷ octets ≡ kept ++ o ∷ [] → next_frame kept o ≡ Whole (frame.Content r a octets)
ends_content r a octets full [] o h = cc
ends_content r a octets full (k ∷ []) o h = cc
ends_content r a octets full (k ∷ q ∷ kept) o h =
    let kind : 3 ≡ k = cc in
    let request : r ≡ q = cc in
    let rest : a ∷ octets ≡ kept ++ o ∷ [] = cc in
    subst (λ (z : ℕ). frame_behind z q kept o ≡ Whole (frame.Content r a octets)) kind
    (subst (λ (z : ℕ). content_frame z (kept ++ o ∷ []) ≡ Whole (frame.Content r a octets)) request
    (subst (λ (z : List ℕ). content_frame r z ≡ Whole (frame.Content r a octets)) rest
    (ap (λ b. if b then Whole (frame.Content r a octets) else More) (eq-eqb (length octets) 140 full))))

pub ends_frame : (f : Frame) → IsFrame f → (kept : List ℕ) (o : ℕ) → frame_octets f ≡ kept ++ o ∷ [] →
    next_frame kept o ≡ Whole f
ends_frame frame.Init h kept o e = ends_one kept o e
ends_frame (frame.Start r) h kept o e = ends_two 2 r (frame.Start r) refl (rw (positive r h) refl) kept o e
ends_frame (frame.Content r a octets) h kept o e = ends_content r a octets h.1 kept o e
ends_frame (frame.Nack r) h kept o e = ends_two 4 r (frame.Nack r) refl (rw (positive r h) refl) kept o e
ends_frame (frame.Ack r) h kept o e = ends_two 5 r (frame.Ack r) refl (rw (positive r h) refl) kept o e
ends_frame (frame.App r answers.Positive) h kept o e = ends_app r 1 (frame.App r answers.Positive) refl kept o e
ends_frame (frame.App r answers.Clear) h kept o e = ends_app r 2 (frame.App r answers.Clear) refl kept o e

-- An octet with which a frame goes on.

not_none : (xs ys : List ℕ) (o y : ℕ) → [] ≡ (xs ++ o ∷ []) ++ y ∷ ys → ⊥
not_none [] ys o y h = cc
not_none (x ∷ xs) ys o y h = cc

begins_two : (kind r : ℕ) → frame_of_one kind ≡ More → (kept more : List ℕ) (o next : ℕ) →
    kind ∷ r ∷ [] ≡ (kept ++ o ∷ []) ++ next ∷ more → next_frame kept o ≡ More
begins_two kind r is [] more o next h =
    let same : kind ≡ o = cc in subst (λ (z : ℕ). frame_of_one z ≡ More) same is
begins_two kind r is (k ∷ []) more o next h = cc
begins_two kind r is (k ∷ q ∷ kept) more o next h = absurd (not_none kept more o next cc)

begins_app : (r a : ℕ) → 0 < r → (kept more : List ℕ) (o next : ℕ) →
    6 ∷ r ∷ a ∷ [] ≡ (kept ++ o ∷ []) ++ next ∷ more → next_frame kept o ≡ More
begins_app r a some [] more o next h =
    let same : 6 ≡ o = cc in subst (λ (z : ℕ). frame_of_one z ≡ More) same refl
begins_app r a some (k ∷ []) more o next h =
    let kind : 6 ≡ k = cc in
    let same : r ≡ o = cc in
    subst (λ (z : ℕ). frame_of_two z o ≡ More) kind
    (subst (λ (z : ℕ). frame_of_two 6 z ≡ More) same (rw (positive r some) refl))
begins_app r a some (k ∷ q ∷ []) more o next h = cc
begins_app r a some (k ∷ q ∷ p ∷ kept) more o next h = absurd (not_none kept more o next cc)

short_content : (r a : ℕ) (octets more : List ℕ) (next : ℕ) → (xs : List ℕ) → length octets ≡ 140 →
    a ∷ octets ≡ xs ++ next ∷ more → content_frame r xs ≡ More
short_content r a octets more next [] full h = refl
short_content r a octets more next (x ∷ xs) full h =
    let rest : octets ≡ xs ++ next ∷ more = cc in
    let long : length octets ≡ length xs + length (next ∷ more) = ap length rest ∙ length-append xs (next ∷ more) in
    ap (λ b. if b then Whole (frame.Content r x xs) else More)
    (ne_eqb (length xs) 140 (λ e. absurd (omega (arith, full, long, e))))

begins_content : (r a : ℕ) (octets : List ℕ) → 0 < r → length octets ≡ 140 → (kept more : List ℕ) (o next : ℕ) →
    3 ∷ r ∷ a ∷ octets ≡ (kept ++ o ∷ []) ++ next ∷ more → next_frame kept o ≡ More
begins_content r a octets some full [] more o next h =
    let same : 3 ≡ o = cc in subst (λ (z : ℕ). frame_of_one z ≡ More) same refl
begins_content r a octets some full (k ∷ []) more o next h =
    let kind : 3 ≡ k = cc in
    let same : r ≡ o = cc in
    subst (λ (z : ℕ). frame_of_two z o ≡ More) kind
    (subst (λ (z : ℕ). frame_of_two 3 z ≡ More) same (rw (positive r some) refl))
begins_content r a octets some full (k ∷ q ∷ kept) more o next h =
    let kind : 3 ≡ k = cc in
    let rest : a ∷ octets ≡ (kept ++ o ∷ []) ++ next ∷ more = cc in
    subst (λ (z : ℕ). frame_behind z q kept o ≡ More) kind
    (short_content q a octets more next (kept ++ o ∷ []) full rest)

begins_init : (kept more : List ℕ) (o next : ℕ) → 1 ∷ [] ≡ (kept ++ o ∷ []) ++ next ∷ more → next_frame kept o ≡ More
begins_init [] more o next h = cc
begins_init (k ∷ kept) more o next h = absurd (not_none kept more o next cc)

begins_frame : (f : Frame) → IsFrame f → (kept more : List ℕ) (o next : ℕ) →
    frame_octets f ≡ (kept ++ o ∷ []) ++ next ∷ more → next_frame kept o ≡ More
begins_frame frame.Init h kept more o next e = begins_init kept more o next e
begins_frame (frame.Start r) h kept more o next e = begins_two 2 r refl kept more o next e
begins_frame (frame.Content r a octets) h kept more o next e = begins_content r a octets h.0 h.1 kept more o next e
begins_frame (frame.Nack r) h kept more o next e = begins_two 4 r refl kept more o next e
begins_frame (frame.Ack r) h kept more o next e = begins_two 5 r refl kept more o next e
begins_frame (frame.App r answer) h kept more o next e = begins_app r (answer_octet answer) h kept more o next e

pub goes_on_frame : (kept : List ℕ) (o : ℕ) → IsFrameFront (kept ++ o ∷ []) → next_frame kept o ≡ More
goes_on_frame kept o front = begins_frame front.frame front.is_frame kept front.more o front.next front.goes_on

-- An octet with which none goes on.

abbrev one_of : Bool → Next Frame
one_of b = if b then More else Wrong (wrong.Frame faults.Kind)

wrong_kind : (o : ℕ) → (0 < o → o < 7 → ⊥) → frame_of_one o ≡ Wrong (wrong.Frame faults.Kind)
wrong_kind zero h = refl
wrong_kind (suc n) h =
    let high : suc n < 7 → ⊥ = h (omega arith) in
    rw (ne_eqb (suc n) 1 (λ e. high (omega (arith, e)))) (by (nat_le 2 (suc n) && nat_le (suc n) 6) refl)
  where
    by : (b : Bool) → (nat_le 2 (suc n) && nat_le (suc n) 6) ≡ b → one_of b ≡ Wrong (wrong.Frame faults.Kind)
    by false e = refl
    by true e =
        let two : (nat_le 2 (suc n) ≡ true) × (nat_le (suc n) 6 ≡ true) = both (nat_le 2 (suc n)) (nat_le (suc n) 6) e in
        absurd (h (omega arith) (let low : suc n ≤ 6 = leb-true (suc n) 6 two.1 in omega arith))

wrong_number : (kept : List ℕ) (o : ℕ) → length kept ≡ 1 → o ≡ 0 → next_frame kept o ≡ Wrong (wrong.Frame faults.Number)
wrong_number [] o one none = cc
wrong_number (k ∷ []) o one none = subst (λ (z : ℕ). frame_of_two k z ≡ Wrong (wrong.Frame faults.Number)) (sym none) refl
wrong_number (k ∷ q ∷ kept) o one none = absurd (omega arith)

no_answer : (r o : ℕ) → o ≢ 1 → o ≢ 2 → answered_frame r o ≡ Wrong (wrong.Frame faults.Answer)
no_answer r o a b = rw (ne_eqb o 1 a, ne_eqb o 2 b) refl

-- of two octets that begin a frame, with which some octet doesn't go on, the first is that of an answer
answers_only : (f : Frame) → IsFrame f → (k r o next : ℕ) (more : List ℕ) → frame_octets f ≡ k ∷ r ∷ next ∷ more →
    ((g : Frame) (rest : List ℕ) → IsFrame g → frame_octets g ≡ k ∷ r ∷ o ∷ rest → ⊥) → k ≡ 6
answers_only frame.Init h k r o next more e none = cc
answers_only (frame.Start q) h k r o next more e none = cc
answers_only (frame.Content q a octets) h k r o next more e none =
    let kind : 3 ≡ k = cc in
    let request : q ≡ r = cc in
    absurd (none (frame.Content q o (replicate 140 0)) (replicate 140 0) (h.0, length-replicate {A = ℕ} 140 0)
    (rw (sym kind, sym request) refl))
answers_only (frame.Nack q) h k r o next more e none = cc
answers_only (frame.Ack q) h k r o next more e none = cc
answers_only (frame.App q answer) h k r o next more e none = cc

wrong_answer : (kept : List ℕ) (o : ℕ) → length kept ≡ 2 → o ≢ 1 → o ≢ 2 → IsFrameFront kept →
    ((g : Frame) (rest : List ℕ) → IsFrame g → frame_octets g ≡ kept ++ o ∷ rest → ⊥) → next_frame kept o ≡ Wrong (wrong.Frame faults.Answer)
wrong_answer [] o long a b front none = cc
wrong_answer (k ∷ []) o long a b front none = absurd (omega arith)
wrong_answer (k ∷ r ∷ []) o long a b front none =
    let kind : k ≡ 6 = answers_only front.frame front.is_frame k r o front.next front.more front.goes_on none in
    subst (λ (z : ℕ). frame_behind z r [] o ≡ Wrong (wrong.Frame faults.Answer)) (sym kind) (no_answer r o a b)
wrong_answer (k ∷ r ∷ q ∷ kept) o long a b front none = absurd (omega arith)

pub stops_frame : (kept : List ℕ) (o : ℕ) (fault : Fault) → StopsBehind kept o fault →
    next_frame kept o ≡ Wrong (wrong.Frame fault)
stops_frame kept o faults.Kind h =
    subst (λ (z : List ℕ). next_frame z o ≡ Wrong (wrong.Frame faults.Kind)) (sym h.named.0) (wrong_kind o h.named.1)
stops_frame kept o faults.Number h = wrong_number kept o h.named.0 h.named.1
stops_frame kept o faults.Answer h = wrong_answer kept o h.named.0 h.named.1 h.named.2 h.begun h.none
