-- How far a frame has come behind one more octet of its head, and behind more octets of its set.
use Rattle.std.proofs.Common.{◌≡◌, ◌≤◌, ◌<◌, ◌+◌, ◌∙◌, ℕ, true, false, List, [], ◌∷◌, ◌++◌, Some, length, take, drop, sym, ap, subst, arith, append-nil, append_assoc, inl, inr, get_or}
use Rattle.std.proofs.lemmas.List.{take-append-drop, take-take, drop-take, take_more, take_all}
use Rattle.std.proofs.lemmas.Option.{slice_get-get_or}
use Rattle.std.proofs.lemmas.Bool.{cases_lt}
use Rattle.link_frames.specs.declared.stage.Head.TheVariants as heads
use Rattle.link_frames.specs.declared.stage.Stage.{Stage}
use Rattle.link_frames.specs.declared.stage.Stage.TheVariants as stages
use Rattle.link_frames.specs.Stages.{kept}
use Rattle.link_frames.specs.inner.Coming.{is_in_head, is_open, is_stopped, Came, ComesTo, Steps}

-- a front of a list in two parts
pub take_two : (n m : ℕ) (xs : List ℕ) → take (n + m) xs ≡ take n xs ++ take m (drop n xs)
take_two n m xs =
    let within : n ≤ n + m = omega arith in
    let front : take n (take (n + m) xs) ≡ take n xs = take-take n (n + m) xs within in
    let rest : drop n (take (n + m) xs) ≡ take m (drop n xs) = drop-take n m xs in
    let whole : take n (take (n + m) xs) ++ drop n (take (n + m) xs) ≡ take (n + m) xs =
    take-append-drop n (take (n + m) xs) in
    cc

-- before any octet of a piece
pub comes_first : (set piece : List ℕ) (stage : Stage)
    → is_open stage ≡ true
    → ComesTo set (kept set stage) piece 0 stage
comes_first set piece (stages.Whole head) h = absurd cc
comes_first set piece (stages.Stopped stop) h = absurd cc
comes_first set piece stage h = append-nil (kept set stage)

in_head : (set had piece : List ℕ) (n : ℕ) (stage : Stage)
    → is_in_head stage ≡ true
    → ComesTo set had piece n stage
    → had ++ take n piece ≡ kept set stage
in_head set had piece n stages.Nothing h c = c
in_head set had piece n (stages.Kind kind) h c = c
in_head set had piece n (stages.Content request) h c = c
in_head set had piece n (stages.App request) h c = c
in_head set had piece n stage h c = absurd cc

stepped : (set : List ℕ) (old : Stage) (octet : ℕ) (new : Stage)
    → is_stopped new ≡ false
    → Steps set old octet new
    → Came set (kept set old ++ octet ∷ []) new
stepped set old octet (stages.Stopped stop) h s = absurd cc
stepped set old octet new h s = s

came : (set had piece : List ℕ) (n : ℕ) (new : Stage)
    → is_stopped new ≡ false
    → Came set (had ++ take n piece) new
    → ComesTo set had piece n new
came set had piece n (stages.Stopped stop) h s = absurd cc
came set had piece n new h s = s

-- one more octet of a head is taken
pub comes_on : (set had piece : List ℕ) (n : ℕ) (old new : Stage)
    → is_in_head old ≡ true
    → n < length piece
    → ComesTo set had piece n old
    → Steps set old (get_or piece n 0) new
    → is_stopped new ≡ false
    → ComesTo set had piece (n + 1) new
comes_on set had piece n old new head within comes steps going =
    let now : had ++ take n piece ≡ kept set old = in_head set had piece n old head comes in
    let one : take (n + 1) piece ≡ take n piece ++ get_or piece n 0 ∷ [] = take_more piece n 0 within in
    let apart : (had ++ take n piece) ++ get_or piece n 0 ∷ [] ≡ had ++ (take n piece ++ get_or piece n 0 ∷ []) =
    append_assoc had (take n piece) (get_or piece n 0 ∷ []) in
    let same : kept set old ++ get_or piece n 0 ∷ [] ≡ had ++ take (n + 1) piece = cc in
    came set had piece (n + 1) new going
    (subst (λ (octets : List ℕ). Came set octets new) same (stepped set old (get_or piece n 0) new going steps))

-- no frame goes on with the next octet
pub comes_stopped : (set had piece : List ℕ) (n : ℕ) (old new : Stage)
    → is_in_head old ≡ true
    → n < length piece
    → ComesTo set had piece n old
    → Steps set old (get_or piece n 0) new
    → is_stopped new ≡ true
    → ComesTo set had piece n new
comes_stopped set had piece n old (stages.Stopped stop) head within comes steps stopped = (
  in_head set had piece n old head comes ∙ steps.0,
  slice_get-get_or piece n 0 within ∙ ap Some steps.1,
  steps.2,
)
comes_stopped set had piece n old new head within comes steps stopped = absurd cc

-- m more octets of a set are taken
pub comes_in_set : (old new had piece : List ℕ) (request attempt filled n m : ℕ) (stage : Stage)
    → length new ≡ 140
    → filled + m ≤ 140
    → take (filled + m) new ≡ take filled old ++ take m (drop n piece)
    → (filled + m ≡ 140 → stage ≡ stages.Whole (heads.Content request attempt))
    → (filled + m < 140 → stage ≡ stages.Set request attempt (filled + m))
    → ComesTo old had piece n (stages.Set request attempt filled)
    → ComesTo new had piece (n + m) stage
comes_in_set old new had piece request attempt filled n m stage size bound behind whole part comes =
    let two : take (n + m) piece ≡ take n piece ++ take m (drop n piece) = take_two n m piece in
    let apart : (had ++ take n piece) ++ take m (drop n piece) ≡ had ++ (take n piece ++ take m (drop n piece)) =
    append_assoc had (take n piece) (take m (drop n piece)) in
    let now : had ++ take n piece ≡ 3 ∷ request ∷ attempt ∷ take filled old = comes in
    let front : (3 ∷ request ∷ attempt ∷ take filled old) ++ take m (drop n piece) ≡ 3 ∷ request ∷ attempt ∷ take
    (filled + m) new =
    ap (λ (xs : List ℕ). 3 ∷ request ∷ attempt ∷ xs) (sym behind) in
    let all : had ++ take (n + m) piece ≡ 3 ∷ request ∷ attempt ∷ take (filled + m) new = cc in
    elim (cases_lt (filled + m) 140) [
      | inr e ↦
          (let full : filled + m ≡ 140 = omega arith in
          let every : take (filled + m) new ≡ new = take_all (filled + m) new (omega arith) in
          rw (whole full) (all ∙ ap (λ (xs : List ℕ). 3 ∷ request ∷ attempt ∷ xs) every))
      | inl below ↦ rw (part below) all
    ]
