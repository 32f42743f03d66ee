-- What the functions of a teller do to where it stands.
use Rattle.std.proofs.Common.{◌≡◌, ◌++◌, ◌∷◌, ◌+◌, ◌||◌, Bool, [], List, ℕ, length, OnOk, Result, Ok, Err, take, sym, ap, ◌∙◌, subst, append_assoc, arith}
use Rattle.std.specs.List.{AllByRecursion}
use Rattle.line_input.specs.Feed.{IsInner}
use Rattle.line_input.specs.Lines.{lines_of}
use Rattle.view_lines.specs.Fault.{most_kept}
use Rattle.view_lines.specs.Told.{AreTold, Puts, Told}
use Rattle.view_lines.specs.declared.teller.Teller.{Teller}
use Rattle.view_lines.specs.inner.Standing.{EndsInput, GoesOn, HearsLine, Stands, StandsAt, TellsLine}
use Rattle.view_lines.proofs.PutLemmas.{put_behind}
use Rattle.view_lines.proofs.StandsLemmas.{heard_last, stands_line, stands_on, told_last}

-- the same by its parts
pub same_place : (tells : List (List ℕ) → List ℕ → Told → Type 0) (heard : List (List ℕ) → Type 0)
    (front text text' kept kept' : List ℕ) (number number' : ℕ) (refused refused' : Bool) → text ≡ text' → kept ≡ kept'
    → number ≡ number' → refused ≡ refused' → StandsAt tells heard front text kept number refused
    → StandsAt tells heard front text' kept' number' refused'
same_place tells heard front text text' kept kept' number number' refused refused' a b c d s =
    subst (λ z. StandsAt tells heard front z kept' number' refused') a
    (subst (λ z. StandsAt tells heard front text z number' refused') b
    (subst (λ z. StandsAt tells heard front text kept z refused') c
    (subst (λ z. StandsAt tells heard front text kept number z) d s)))

module _ {T : Type 0} (tells : List (List ℕ) → List ℕ → Told → Type 0) (heard : T → List (List ℕ) → Type 0) where
  -- the line goes on
  pub gone_on : (old new : Teller T) (run : List ℕ) → GoesOn old new run → AllByRecursion IsInner run → (front handed : List ℕ)
      → Stands tells heard front handed old → Stands tells heard (front ++ run) handed new
  gone_on old new run goes inner front handed s =
      subst (λ (z : T). StandsAt tells (heard z) (front ++ run) (handed ++ new.text.items) new.kept.items new.ended new.refused)
      (sym goes.lines)
      (same_place tells (heard old.lines) (front ++ run) (handed ++ old.text.items) (handed ++ new.text.items)
      (take most_kept (old.kept.items ++ run)) new.kept.items old.ended new.ended old.refused new.refused
      (ap (λ (z : List ℕ). handed ++ z) (sym goes.text)) (sym goes.kept) (sym goes.ended) (sym goes.refused)
      (stands_on tells (heard old.lines) front (handed ++ old.text.items) old.kept.items old.ended old.refused run s inner))

  module _ (old new : Teller T) (ts : TellsLine tells heard old new) (front handed : List ℕ)
      (s : Stands tells heard front handed old) where
    hears : HearsLine tells (heard new.lines) s.lines s.part old.text.items new.text.items ts.refused
    hears = ts.hears s.lines s.part s.hears s.counts s.keeps

    told : Told
    told = record { text = hears.0.text; refused = ts.refused }

    -- a newline ends it, and it is told
    pub newline_told : Stands tells heard (front ++ 10 ∷ []) handed new
    unfolding told
    newline_told =
        same_place tells (heard new.lines) (front ++ 10 ∷ []) ((handed ++ old.text.items) ++ hears.0.text)
        (handed ++ new.text.items) [] new.kept.items (old.ended + 1) new.ended (old.refused || ts.refused) new.refused
        (put_behind (tells s.lines s.part) handed old.text.items new.text.items ts.refused hears.0)
        (sym ts.kept) (sym ts.ended) (sym ts.any)
        (stands_line tells (heard old.lines) front (handed ++ old.text.items) old.kept.items old.ended old.refused s
        (record { text = hears.0.text; refused = ts.refused }) hears.0.told (heard new.lines) hears.1)

    -- the input ends within it
    pub input_told : (length old.kept.items ≡ 0 → ⊥) → EndsInput tells heard front handed new
    input_told some = record {
      told =
          subst (λ (z : Bool). AreTold tells [] (lines_of front) (record { text = handed ++ new.text.items; refused = z }))
          (sym ts.any)
          (subst
          (λ (z : List ℕ). AreTold tells [] (lines_of front) (record { text = z; refused = old.refused || ts.refused }))
          (put_behind (tells s.lines s.part) handed old.text.items new.text.items ts.refused hears.0)
          (told_last tells (heard old.lines) front (handed ++ old.text.items) old.kept.items old.ended old.refused s
          (record { text = hears.0.text; refused = ts.refused }) hears.0.told (omega arith)));
      hears =
          heard_last tells (heard old.lines) front (handed ++ old.text.items) old.kept.items old.ended old.refused s
          (record { text = hears.0.text; refused = ts.refused }) hears.0.told (omega arith) (heard new.lines) hears.1;
    }

  pub line_ended : {E : Type 0} (old mid new : Teller T) (rest : List ℕ) (r : Result Unit E) → AllByRecursion IsInner rest
      → GoesOn old mid rest → OnOk r (TellsLine tells heard mid new)
      → OnOk r ((front handed : List ℕ) → Stands tells heard front handed old
      → Stands tells heard (front ++ (rest ++ 10 ∷ [])) handed new)
  line_ended old mid new rest (Ok done) inner goes ts = λ front handed s.
      subst (λ (z : List ℕ). Stands tells heard z handed new) (append_assoc front rest (10 ∷ []))
      (newline_told mid new ts (front ++ rest) handed (gone_on old mid rest goes inner front handed s))
  line_ended old mid new rest (Err e) inner goes ts = tt

  pub last_told : {E : Type 0} (old new : Teller T) (r : Result Unit E) → (length old.kept.items ≡ 0 → ⊥)
      → OnOk r (TellsLine tells heard old new)
      → OnOk r ((front handed : List ℕ) → Stands tells heard front handed old → EndsInput tells heard front handed new)
  last_told old new (Ok done) some ts = λ front handed s. input_told old new ts front handed s some
  last_told old new (Err e) some ts = tt
