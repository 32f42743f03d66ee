-- How a teller goes on: with bytes of a line, at a newline, and at the end of the input.
use Rattle.std.proofs.Common.{◌≡◌, ℕ, ◌+◌, ◌<◌, ◌||◌, Bool, false, List, [], ◌∷◌, ◌++◌, length, take, refl, sym, ap, subst, ◌∙◌, append_assoc, arith, length-append}
use Rattle.std.specs.List.{AllByRecursion}
use Rattle.std.proofs.lemmas.List.{append-nil, length-take}
use Rattle.line_input.specs.Feed.{IsInner}
use Rattle.line_input.specs.Lines.{lines_of}
use Rattle.line_input.proofs.LinesLemmas.{lines_of-last, lines_of-line, lines_of-nil}
use Rattle.view_lines.specs.Fault.{most_kept}
use Rattle.view_lines.specs.Told.{AreTold, Told}
use Rattle.view_lines.specs.inner.Standing.{StandsAt}
use Rattle.view_lines.proofs.KeptLemmas.{take_again}
use Rattle.view_lines.proofs.ToldLemmas.{AreTold-more}

all_append : (xs ys : List ℕ) → AllByRecursion IsInner xs → AllByRecursion IsInner ys → AllByRecursion IsInner (xs ++ ys)
all_append [] ys first second = second
all_append (x ∷ xs) ys first second = (first.0, all_append xs ys first.1 second)

none_left : (xs : List ℕ) → length xs ≡ 0 → xs ≡ []
none_left [] none = refl
none_left (x ∷ xs) none = absurd (omega arith)

module _ (tells : List (List ℕ) → List ℕ → Told → Type 0) (heard : List (List ℕ) → Type 0) where
  -- nothing was taken
  pub stands_first : heard [] → StandsAt tells heard [] [] [] 0 false
  stands_first hears = record {
    lines = [];
    part = [];
    inner = tt;
    split = λ more. refl;
    few = omega arith;
    keeps = refl;
    counts = refl;
    told = refl;
    hears = hears;
  }

  -- the line goes on
  pub stands_on : (front text kept : List ℕ) (number : ℕ) (refused : Bool) (run : List ℕ)
      → StandsAt tells heard front text kept number refused → AllByRecursion IsInner run
      → StandsAt tells heard (front ++ run) text (take most_kept (kept ++ run)) number refused
  stands_on front text kept number refused run s inner = record {
    lines = s.lines;
    part = s.part ++ run;
    inner = all_append s.part run s.inner inner;
    split = λ more.
        ap lines_of (append_assoc front run more)
        ∙ (s.split (run ++ more) ∙ ap (λ (z : List ℕ). s.lines ++ lines_of z) (sym (append_assoc s.part run more)));
    few = omega (arith, s.few, length-append front run);
    keeps = ap (λ (z : List ℕ). take most_kept (z ++ run)) s.keeps ∙ take_again most_kept s.part run;
    counts = s.counts;
    told = s.told;
    hears = s.hears;
  }

  module _ (front text kept : List ℕ) (number : ℕ) (refused : Bool) (s : StandsAt tells heard front text kept number refused)
      (t : Told) (is : tells s.lines s.part t) where
    one_more : AreTold tells [] (s.lines ++ s.part ∷ []) (record { text = text ++ t.text; refused = refused || t.refused })
    one_more = AreTold-more tells s.lines [] s.part (record { text = text; refused = refused }) t s.told is

    -- a newline ends the line
    pub stands_line : (heard' : List (List ℕ) → Type 0) → heard' (s.lines ++ s.part ∷ [])
        → StandsAt tells heard' (front ++ 10 ∷ []) (text ++ t.text) [] (number + 1) (refused || t.refused)
    stands_line heard' hears = record {
      lines = s.lines ++ s.part ∷ [];
      part = [];
      inner = tt;
      split = λ more.
          ap lines_of (append_assoc front (10 ∷ []) more)
          ∙ (s.split (10 ∷ more)
          ∙ (ap (λ (z : List (List ℕ)). s.lines ++ z) (lines_of-line s.part more s.inner)
          ∙ sym (append_assoc s.lines (s.part ∷ []) (lines_of more))));
      few = omega (arith, s.few, length-append front (10 ∷ []), length-append s.lines (s.part ∷ []));
      keeps = refl;
      counts = omega (arith, s.counts, length-append s.lines (s.part ∷ []));
      told = one_more;
      hears = hears;
    }

    last_lines : 0 < length kept → s.lines ++ s.part ∷ [] ≡ lines_of front
    last_lines some =
        let size : length kept ≡ length (take most_kept s.part) = ap length s.keeps in
        let long : 0 < length s.part = omega (arith, size, length-take most_kept s.part) in
        sym (ap lines_of (sym (append-nil front))
        ∙ (s.split []
        ∙ ap (λ (z : List (List ℕ)). s.lines ++ z) (ap lines_of (append-nil s.part) ∙ lines_of-last s.part s.inner long)))

    -- the input ends it
    pub told_last : 0 < length kept → AreTold tells [] (lines_of front) (record { text = text ++ t.text; refused = refused || t.refused })
    told_last some =
        subst (λ (z : List (List ℕ)). AreTold tells [] z (record { text = text ++ t.text; refused = refused || t.refused }))
        (last_lines some) one_more

    pub heard_last : 0 < length kept → (heard' : List (List ℕ) → Type 0) → heard' (s.lines ++ s.part ∷ []) → heard' (lines_of front)
    heard_last some heard' hears = subst heard' (last_lines some) hears

  module _ (front text kept : List ℕ) (number : ℕ) (refused : Bool) (s : StandsAt tells heard front text kept number refused)
      (none : length kept ≡ 0) where
    all_lines : s.lines ≡ lines_of front
    all_lines =
        let size : length kept ≡ length (take most_kept s.part) = ap length s.keeps in
        let empty : length s.part ≡ 0 = omega (arith, size, none, length-take most_kept s.part) in
        sym (ap lines_of (sym (append-nil front))
        ∙ (s.split []
        ∙ (ap (λ (z : List ℕ). s.lines ++ lines_of (z ++ [])) (none_left s.part empty)
        ∙ (ap (λ (z : List (List ℕ)). s.lines ++ z) lines_of-nil ∙ append-nil s.lines))))

    -- the input ends behind a newline
    pub told_all : AreTold tells [] (lines_of front) (record { text = text; refused = refused })
    told_all = subst (λ (z : List (List ℕ)). AreTold tells [] z (record { text = text; refused = refused })) all_lines s.told

    pub heard_all : heard (lines_of front)
    heard_all = subst heard all_lines s.hears
