-- What a stage says of the octets that came to it, as what a piece makes of a reader.
use Rattle.std.proofs.Common.{◌≡◌, ◌≤◌, ◌<◌, ◌+◌, ◌∙◌, ℕ, zero, suc, true, false, List, [], ◌∷◌, ◌++◌, Some, None, Ok, length, take, drop, replicate, get_or, refl, sym, ap, subst, arith, append-nil, ◌⊎◌, inl, inr}
use Rattle.std.specs.Prelude.{slice_get}
use Rattle.std.proofs.lemmas.List.{take-append-drop, drop_more, take_all, length-take-le, length-replicate}
use Rattle.std.proofs.lemmas.Option.{slice_get_within, get_or_from_slice_get}
use Rattle.link_frames.specs.declared.fault.FrameFault.{FrameFault}
use Rattle.link_frames.specs.declared.frame.Answer.TheVariants as answers
use Rattle.link_frames.specs.declared.frame.Frame.{Frame}
use Rattle.link_frames.specs.declared.frame.Frame.TheVariants as frame
use Rattle.link_frames.specs.declared.stage.Head.{Head}
use Rattle.link_frames.specs.declared.stage.Head.TheVariants as heads
use Rattle.link_frames.specs.declared.stage.Kind.{Kind}
use Rattle.link_frames.specs.declared.stage.Kind.TheVariants as kinds
use Rattle.link_frames.specs.declared.stage.Stage.{Stage}
use Rattle.link_frames.specs.declared.stage.Stage.TheVariants as stages
use Rattle.link_frames.specs.declared.stage.Stop.{Stop}
use Rattle.link_frames.specs.declared.stage.Stop.TheVariants as stops
use Rattle.link_frames.specs.FrameOctets.{frame_octets, IsFrame, IsFrameFront, StopsBehind}
use Rattle.link_frames.specs.Reading.{Reading, TakesAll, StopsIn, Feeds}
use Rattle.link_frames.specs.Stages.{kind_octet, before, octet_of, fault_of, frame_of, kept, whole_frame, fault_at, request_of, request_of_head, request_of_stop, filled_of}
use Rattle.link_frames.proofs.FrameLemmas.{front_has_none}
use Rattle.link_frames.specs.inner.Coming.{is_open, is_stopped, IsWrong, ComesTo}

unfoldable pub zeros : List ℕ
zeros = replicate 140 0

pub zeros-length : length zeros ≡ 140
unfolding zeros
zeros-length = length-replicate {A = ℕ} 140 0

-- each kind of frame that has a request begins one
pub kind_begins : (kind : Kind) → IsFrameFront (kind_octet kind ∷ [])
kind_begins kinds.Start = record { frame = frame.Start 1; next = 1; more = []; is_frame = omega arith; goes_on = refl }
kind_begins kinds.Content =
    record {
      frame = frame.Content 1 0 zeros;
      next = 1;
      more = 0 ∷ zeros;
      is_frame = (omega arith, zeros-length);
      goes_on = refl;
    }
kind_begins kinds.Nack = record { frame = frame.Nack 1; next = 1; more = []; is_frame = omega arith; goes_on = refl }
kind_begins kinds.Ack = record { frame = frame.Ack 1; next = 1; more = []; is_frame = omega arith; goes_on = refl }
kind_begins kinds.App =
    record { frame = frame.App 1 answers.Positive; next = 1; more = 1 ∷ []; is_frame = omega arith; goes_on = refl }

pub nothing_begins : IsFrameFront []
nothing_begins = record { frame = frame.Init; next = 1; more = []; is_frame = tt; goes_on = refl }

pub app_begins : (request : ℕ) → 0 < request → IsFrameFront (6 ∷ request ∷ [])
app_begins request h =
    record { frame = frame.App request answers.Positive; next = 1; more = []; is_frame = h; goes_on = refl }

pub request_begins : (request : ℕ) → 0 < request → IsFrameFront (3 ∷ request ∷ [])
request_begins request h =
    record {
      frame = frame.Content request 0 zeros;
      next = 0;
      more = zeros;
      is_frame = (h, zeros-length);
      goes_on = refl;
    }

pub set_begins : (set : List ℕ) (request attempt filled : ℕ)
    → length set ≡ 140
    → 0 < request
    → filled < 140
    → IsFrameFront (3 ∷ request ∷ attempt ∷ take filled set)
set_begins set request attempt filled size h part =
    let within : filled < length set = omega arith in
    let next : drop filled set ≡ get_or set filled 0 ∷ drop (filled + 1) set = drop_more set filled 0 within in
    let whole : take filled set ++ drop filled set ≡ set = take-append-drop filled set in
    record {
      frame = frame.Content request attempt set;
      next = get_or set filled 0;
      more = drop (filled + 1) set;
      is_frame = (h, size);
      goes_on = cc;
    }

-- less than a frame begins one
open_begins : (set : List ℕ) (stage : Stage)
    → length set ≡ 140
    → 0 < request_of stage
    → filled_of stage < 140
    → is_open stage ≡ true
    → IsFrameFront (kept set stage)
open_begins set stages.Nothing size h part going = nothing_begins
open_begins set (stages.Kind kind) size h part going = kind_begins kind
open_begins set (stages.Content request) size h part going = request_begins request h
open_begins set (stages.App request) size h part going = app_begins request h
open_begins set (stages.Set request attempt filled) size h part going =
    set_begins set request attempt filled size h part
open_begins set stage size h part going = absurd cc

-- a whole stage is a frame
head_is_frame : (set : List ℕ) (head : Head) → length set ≡ 140 → 0 < request_of_head head → IsFrame (frame_of set head)
head_is_frame set heads.Init size h = tt
head_is_frame set (heads.Start request) size h = h
head_is_frame set (heads.Content request attempt) size h = (h, size)
head_is_frame set (heads.Nack request) size h = h
head_is_frame set (heads.Ack request) size h = h
head_is_frame set (heads.App request answer) size h = h

-- a frame's first octet is one of six
first_octet : (f : Frame) (octet : ℕ) (more : List ℕ) → frame_octets f ≡ octet ∷ more → (0 < octet) × (octet < 7)
first_octet frame.Init octet more e = let same : 1 ≡ octet = cc in (omega arith, omega arith)
first_octet (frame.Start r) octet more e = let same : 2 ≡ octet = cc in (omega arith, omega arith)
first_octet (frame.Content r a os) octet more e = let same : 3 ≡ octet = cc in (omega arith, omega arith)
first_octet (frame.Nack r) octet more e = let same : 4 ≡ octet = cc in (omega arith, omega arith)
first_octet (frame.Ack r) octet more e = let same : 5 ≡ octet = cc in (omega arith, omega arith)
first_octet (frame.App r a) octet more e = let same : 6 ≡ octet = cc in (omega arith, omega arith)

-- its second is no 0
second_octet : (f : Frame) (kind : ℕ) (more : List ℕ) → IsFrame f → frame_octets f ≡ kind ∷ 0 ∷ more → ⊥
second_octet frame.Init kind more is e = cc
second_octet (frame.Start r) kind more is e = let same : r ≡ 0 = cc in omega arith
second_octet (frame.Content r a os) kind more is e = let same : r ≡ 0 = cc in let some : 0 < r = is.0 in omega arith
second_octet (frame.Nack r) kind more is e = let same : r ≡ 0 = cc in omega arith
second_octet (frame.Ack r) kind more is e = let same : r ≡ 0 = cc in omega arith
second_octet (frame.App r a) kind more is e = let same : r ≡ 0 = cc in omega arith

-- an answer is one of two
answer_is : (f : Frame) (request octet : ℕ) (more : List ℕ)
    → frame_octets f ≡ 6 ∷ request ∷ octet ∷ more
    → (octet ≡ 1) ⊎ (octet ≡ 2)
answer_is (frame.App r answers.Positive) request octet more e = inl cc
answer_is (frame.App r answers.Clear) request octet more e = inr cc
answer_is f request octet more e = absurd cc

-- where a reader stops, no frame goes on
pub stop_stops : (stop : Stop)
    → 0 < request_of_stop stop
    → IsWrong stop
    → StopsBehind (before stop) (octet_of stop) (fault_of stop)
stop_stops (stops.Kind octet) h wrong = record {
  begun = nothing_begins;
  none = λ f more is e. (let range : (0 < octet) × (octet < 7) = first_octet f octet more e in wrong range.0 range.1);
  named = (refl, wrong);
}
stop_stops (stops.Number kind) h wrong = record {
  begun = kind_begins kind;
  none = λ f more is e. second_octet f (kind_octet kind) more is e;
  named = (refl, refl);
}
stop_stops (stops.Answer request octet) h wrong = record {
  begun = app_begins request h;
  none = λ f more is e. elim (answer_is f request octet more e) [ inl one ↦ wrong.0 one | inr two ↦ wrong.1 two ];
  named = (refl, wrong.0, wrong.1);
}

-- a reader whose set has these octets, at this stage, when so many octets of the stream were taken
abbrev pub reading_at : List ℕ → Stage → ℕ → Reading
reading_at set stage taken = record {
  kept = kept set stage;
  frame = whole_frame set stage;
  fault = fault_at taken stage;
  taken = taken;
}

-- an element in its place
element_at : (xs : List ℕ) (n x : ℕ)
    → slice_get xs n ≡ Some x
    → (xs ≡ take n xs ++ x ∷ drop (n + 1) xs) × (n < length xs)
element_at xs n x e =
    let within : n < length xs = slice_get_within xs n x e in
    let here : get_or xs n 0 ≡ x = get_or_from_slice_get xs n x 0 e in
    let next : drop n xs ≡ get_or xs n 0 ∷ drop (n + 1) xs = drop_more xs n 0 within in
    let whole : take n xs ++ drop n xs ≡ xs = take-append-drop n xs in
    (cc, within)

abbrev pub stopped_at : List ℕ → FrameFault → Reading
stopped_at octets f = record { kept = octets; frame = None; fault = Some f; taken = f.place }

abbrev pub resting_at : List ℕ → ℕ → Reading
resting_at octets taken = record { kept = octets; frame = None; fault = None; taken = taken }

-- less than a frame has come
feeds_rest : (old : Reading) (set piece : List ℕ) (n : ℕ) (stage : Stage)
    → length set ≡ 140
    → 0 < request_of stage
    → filled_of stage < 140
    → is_open stage ≡ true
    → n ≡ length piece
    → old.kept ++ take n piece ≡ kept set stage
    → whole_frame set stage ≡ None
    → fault_at (old.taken + n) stage ≡ None
    → TakesAll old piece n (reading_at set stage (old.taken + n))
feeds_rest old set piece n stage size h part going all comes whole fault =
    let front : take n piece ≡ piece = take_all n piece (omega arith) in
    let kept_now : kept set stage ≡ old.kept ++ piece = cc in
    record {
      begun = subst (λ (octets : List ℕ). IsFrameFront octets) kept_now (open_begins set stage size h part going);
      all = all;
      after = rw (whole, fault) (ap (λ (octets : List ℕ). resting_at octets (old.taken + n)) kept_now);
    }

-- it stopped
pub feeds_err : (old : Reading) (set piece : List ℕ) (n : ℕ) (stage : Stage) (fault : FrameFault)
    → 0 < request_of stage
    → ComesTo set old.kept piece n stage
    → fault_at (old.taken + n) stage ≡ Some fault
    → StopsIn old piece fault (reading_at set stage (old.taken + n))
feeds_err old set piece n (stages.Stopped stop) fault h comes e =
    let at : (piece ≡ take n piece ++ octet_of stop ∷ drop (n + 1) piece) × (n < length piece) =
    element_at piece n (octet_of stop) comes.1 in
    let size : length (take n piece) ≡ n =
    (let within : n ≤ length piece = omega arith in length-take-le n piece within) in
    let here : FrameFault = record { place = old.taken + n; octet = octet_of stop; fault = fault_of stop } in
    let same : here ≡ fault = cc in
    let P : FrameFault → Type 0 = λ f. StopsIn old piece f (reading_at set (stages.Stopped stop) (old.taken + n)) in
    subst P same (record {
      front = take n piece;
      more = drop (n + 1) piece;
      split = at.0;
      stops =
          subst (λ (octets : List ℕ). StopsBehind octets (octet_of stop) (fault_of stop)) (sym comes.0)
          (stop_stops stop h comes.2);
      place = omega arith;
      after = ap (λ (octets : List ℕ). stopped_at octets here) (sym comes.0);
    })
feeds_err old set piece n stage fault h comes e = absurd cc

-- it didn't stop
pub feeds_ok : (old : Reading) (set piece : List ℕ) (n : ℕ) (stage : Stage)
    → length set ≡ 140
    → 0 < request_of stage
    → filled_of stage < 140
    → n ≤ length piece
    → (is_open stage ≡ true → n ≡ length piece)
    → ComesTo set old.kept piece n stage
    → fault_at (old.taken + n) stage ≡ None
    → Feeds old piece (Ok n) (reading_at set stage (old.taken + n))
feeds_ok old set piece n (stages.Whole head) size h part bound ends comes e = inl (record {
  frame = frame_of set head;
  is_frame = head_is_frame set head size h;
  octets = sym comes;
  bound = bound;
  after = refl;
})
feeds_ok old set piece n (stages.Stopped stop) size h part bound ends comes e = absurd cc
feeds_ok old set piece n stage size h part bound ends comes e =
    inr (feeds_rest old set piece n stage size h part refl (ends refl) comes refl refl)

pub not_stopped : (taken : ℕ) (stage : Stage) → fault_at taken stage ≡ None → is_stopped stage ≡ false
not_stopped taken (stages.Stopped stop) e = absurd cc
not_stopped taken stage e = refl

-- a reader without a fault keeps what begins a frame
pub keeps_front : (set : List ℕ) (stage : Stage)
    → length set ≡ 140
    → 0 < request_of stage
    → filled_of stage < 140
    → is_stopped stage ≡ false
    → IsFrameFront (kept set stage)
keeps_front set (stages.Whole head) size h part going = nothing_begins
keeps_front set (stages.Stopped stop) size h part going = absurd cc
keeps_front set stage size h part going = open_begins set stage size h part refl

-- of a piece that isn't empty some octet is taken
pub feeds_some : (old new : Reading) (piece : List ℕ) (n : ℕ)
    → IsFrameFront old.kept
    → Feeds old piece (Ok n) new
    → 0 < length piece
    → 0 < n
feeds_some old new piece (suc n) begun feeds some = omega arith
feeds_some old new piece zero begun feeds some =
    elim feeds [
      | inl whole ↦
          absurd (front_has_none old.kept begun whole.frame [] whole.is_frame
          (sym (append-nil old.kept) ∙ (sym whole.octets ∙ sym (append-nil (frame_octets whole.frame)))))
      | inr rest ↦ (let all : zero ≡ length piece = rest.all in omega arith)
    ]
