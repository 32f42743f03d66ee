-- What the lines that were read say of an input: where a line was found, or couldn't be read, and at the end.
use Rattle.std.specs.Prelude.{◌≡◌, ℕ, ◌+◌, ◌<◌, ◌≤◌, ◌⊎◌, Bool, true, false, List, [], ◌∷◌, ◌++◌, length, Option, Some, None, Ok, Err}
use Rattle.std.specs.Io.KnownBytes.{IsAtEnd}
use Rattle.std.proofs.Common.{sym, ◌∙◌, ap, refl, subst, append_assoc, inl, inr, arith, length-append}
use Rattle.std.proofs.lemmas.Bool.{cases_lt, false≢true}
use Rattle.std.proofs.lemmas.List.{append-nil}
use Rattle.call_io.specs.Bytes.{Took}
use Rattle.line_input.specs.Feed.{Draws, Feed, IsDone}
use Rattle.line_input.specs.Inputs.{EndsInLine, IsSettledBy, RunsOver, StopsNear, StopsWithin}
use Rattle.line_input.specs.Lines.{IsWhole, line_fault, lines_of, most_at_once, most_bytes}
use Rattle.line_input.specs.Reading.{FindsBad, FindsLine, FindsPart, FindsTooMany, MayFollow, Reading, ReadsLine, first_reading}
use Rattle.line_input.specs.Taken.{LinesSoFar}
use Rattle.line_input.specs.declared.fault.LineFault.TheVariants as fault
use Rattle.line_input.specs.declared.reason.BadLine.{BadLine}
use Rattle.line_input.specs.declared.reason.Reason.{Reason}
use Rattle.line_input.specs.declared.reason.Reason.TheVariants as reason
use Rattle.line_input.proofs.LinesLemmas.{line_fault-long}
use Rattle.line_input.proofs.Takings.{AtHand, at_end, at_hand, front_follows, front_whole, front_within, still_open, taken_behind, taken_first, taken_whole, too_many_follow, too_many_whole, whole_end}
use Rattle.line_input.proofs.WholeLines.{whole_append, whole_lines}

-- What is settled settles all that it implies,
pub settled_as : (Holds Holds' : List ℕ → Type 0) (left : Option (List ℕ)) (number : ℕ) (input : List ℕ)
    → ((bytes : List ℕ) → Holds bytes → Holds' bytes) → IsSettledBy Holds number input ⊎ IsWhole left input
    → IsSettledBy Holds' number input ⊎ IsWhole left input
settled_as Holds Holds' left number input gives (inl s) =
    inl (record {
      front = s.front;
      rest = s.rest;
      split = s.split;
      within = s.within;
      ends = s.ends;
      near = s.near;
      holds = λ more. gives (s.front ++ more) (s.holds more);
    })
settled_as Holds Holds' left number input gives (inr w) = inr w

-- and so for an input that is too long.
pub over_as : (Holds Holds' : List ℕ → Type 0) (input : List ℕ) → ((bytes : List ℕ) → Holds bytes → Holds' bytes)
    → RunsOver Holds input → RunsOver Holds' input
over_as Holds Holds' input gives o =
    record {
      front = o.front;
      unended = o.unended;
      rest = o.rest;
      split = o.split;
      full = o.full;
      beyond = o.beyond;
      near = o.near;
      lines = o.lines;
      inner = o.inner;
      short = o.short;
      holds = gives o.front o.holds;
    }

-- nothing was read yet
pub lines_first : (start : Option (List ℕ)) → LinesSoFar start start first_reading []
lines_first start =
    record { front = []; taken = taken_first start; split = λ more follows. refl; number = refl }

-- and where what was taken stops within a line
pub within_as : (Holds Holds' : List ℕ → Type 0) (input : List ℕ) → ((bytes : List ℕ) → Holds bytes → Holds' bytes)
    → StopsWithin Holds input → StopsWithin Holds' input
within_as Holds Holds' input gives s =
    record {
      front = s.front;
      unended = s.unended;
      split = s.split;
      within = s.within;
      lines = s.lines;
      inner = s.inner;
      short = s.short;
      holds = gives s.front s.holds;
    }

-- what was taken then is no more than an input may have, and what is read at once
pub over_most : (Holds : List ℕ → Type 0) (input : List ℕ) → RunsOver Holds input
    → length input ≤ most_bytes + most_at_once
over_most Holds input o =
    let parts : length input ≡ length (o.front ++ o.unended) + length o.rest =
    ap length (o.split ∙ sym (append_assoc o.front o.unended o.rest)) ∙ length-append (o.front ++ o.unended) o.rest in
    omega (arith, parts, o.full, o.near)

pub within_few : (Holds : List ℕ → Type 0) (input : List ℕ) → StopsWithin Holds input
    → length input ≤ most_bytes + most_at_once
within_few Holds input s =
    let parts : length input ≡ length s.front + length s.unended = ap length s.split ∙ length-append s.front s.unended in
    omega (arith, parts, s.within, s.short)

no_lines : lines_of [] ≡ []
unfolding lines_of
no_lines = refl

-- what stops near a line is no more than an input may have, and what is read at once
pub near_few : (Holds : List (List ℕ) → Type 0) (input : List ℕ) → StopsNear Holds input
    → length input ≤ most_bytes + most_at_once
near_few Holds input s =
    let parts : length input ≡ length s.front + length s.rest = ap length s.split ∙ length-append s.front s.rest in
    omega (arith, parts, s.within, s.near)

pub near_as : (Holds Holds' : List (List ℕ) → Type 0) (input : List ℕ)
    → ((lines : List (List ℕ)) → Holds lines → Holds' lines) → StopsNear Holds input → StopsNear Holds' input
near_as Holds Holds' input gives s =
    record {
      front = s.front;
      rest = s.rest;
      split = s.split;
      within = s.within;
      near = s.near;
      before = s.before;
      last = s.last;
      lines = s.lines;
      few = s.few;
      holds = gives s.before s.holds;
    }

-- the lines so far are those of their bytes
lines_front : (start now : Option (List ℕ)) (reading : Reading) (lines : List (List ℕ))
    → (s : LinesSoFar start now reading lines) → lines_of s.front ≡ lines
lines_front start now reading lines s =
    ap lines_of (sym (append-nil s.front))
    ∙ (s.split [] (λ _. refl)
    ∙ (ap (λ (z : List (List ℕ)). lines ++ z) no_lines ∙ append-nil lines))

-- where the last of them ended the reading, it stops near that line
pub line_near : (start now : Option (List ℕ)) (reading : Reading) (before last : List (List ℕ))
    → (s : LinesSoFar start now reading (before ++ last)) → length last ≤ 1
    → (Holds : List (List ℕ) → Type 0) → Holds before → StopsNear Holds (s.front ++ reading.feed.pending)
line_near start now reading before last s few Holds holds =
    record {
      front = s.front;
      rest = reading.feed.pending;
      split = refl;
      within = s.taken.within;
      near = s.taken.near;
      before = before;
      last = last;
      lines = lines_front start now reading (before ++ last) s;
      few = few;
      holds = holds;
    }

-- where the input was read to its end, it stops there
pub whole_near : (left : Option (List ℕ)) (input : List ℕ) (lines : List (List ℕ)) → lines_of input ≡ lines
    → IsWhole left input → (Holds : List (List ℕ) → Type 0) → Holds lines → StopsNear Holds input
whole_near left input lines same whole Holds holds =
    record {
      front = input;
      rest = [];
      split = sym (append-nil input);
      within = whole.within;
      near = omega arith;
      before = lines;
      last = [];
      lines = same ∙ sym (append-nil lines);
      few = omega arith;
      holds = holds;
    }

-- a line that isn't refused is short
short_line : (text : List ℕ) → line_fault text ≡ None → length text ≤ 513
short_line text fine = elim (cases_lt 512 (length text)) [
  | inl long ↦ (let both : ◌≡◌ {A = Option Reason} (Some reason.LineLong) None = sym (line_fault-long text long) ∙ fine in absurd (cc))
  | inr short ↦ omega (arith, short)
]

-- The reading stops at a line: so much of the input is in lines, and whatever may follow it, these lines stand in front
-- of one that is as said. No more of it was taken than to that line, and what was read at once with its end.
pub record StopsAt (start left : Option (List ℕ)) (feed : Feed) (before : List (List ℕ)) (number : ℕ)
    (IsThis : List ℕ → Type 0) : Type 0 where
  pub front : List ℕ
  pub took : Took start left (front ++ feed.pending)
  pub done : IsDone feed
  pub at_end : feed.ended ≡ true → IsAtEnd left
  pub within : length front ≤ most_bytes
  pub near : length feed.pending ≤ most_at_once
  pub ends : EndsInLine number front
  pub place : number ≡ length before + 1
  pub lines :
      (more : List ℕ) → MayFollow feed more
      → (text : List ℕ) × (rest : List (List ℕ)) × (lines_of (front ++ more) ≡ before ++ text ∷ rest) × IsThis text

module _ (start left : Option (List ℕ)) (feed : Feed) (before : List (List ℕ)) (number : ℕ)
    (IsThis : List ℕ → Type 0) (s : StopsAt start left feed before number IsThis) where
  -- what was taken
  abbrev pub stopped_input : List ℕ
  stopped_input = s.front ++ feed.pending

  -- is no more than an input may have, and what is read at once
  pub stopped_few : length stopped_input ≤ most_bytes + most_at_once
  stopped_few = simp length-append (omega (arith, s.within, s.near))

  module _ (Holds : List (List ℕ) → Type 0)
      (is : (text : List ℕ) (rest : List (List ℕ)) → IsThis text → Holds (before ++ text ∷ rest)) where
    abbrev HoldsOf : List ℕ → Type 0
    HoldsOf bytes = Holds (lines_of bytes)

    -- what holds of all such lines holds whatever may follow,
    pub stopped_front : (more : List ℕ) → MayFollow feed more → HoldsOf (s.front ++ more)
    stopped_front more follows =
        let l = s.lines more follows in subst Holds (sym l.2) (is l.0 l.1 l.3)

    -- of all that was taken,
    pub stopped_all : HoldsOf stopped_input
    stopped_all = stopped_front feed.pending s.done

    -- and is settled, or the input is whole
    pub stopped_by : IsSettledBy HoldsOf number stopped_input ⊎ IsWhole left stopped_input
    stopped_by = at feed.ended refl
      where
        at : (b : Bool) → feed.ended ≡ b → IsSettledBy HoldsOf number stopped_input ⊎ IsWhole left stopped_input
        at true ended =
            inr (record {
              «end» = s.at_end ended;
              within =
                  subst (λ (z : List ℕ). length z ≤ most_bytes)
                  (sym (ap (λ (z : List ℕ). s.front ++ z) (s.done ended) ∙ append-nil s.front)) s.within;
            })
        at false ended =
            inl (record {
              front = s.front;
              rest = feed.pending;
              split = refl;
              within = s.within;
              ends = s.ends;
              near = s.near;
              holds = λ more. stopped_front more (λ other. absurd (false≢true (sym ended ∙ other)));
            })

module _ (start now left : Option (List ℕ)) (old new : Reading) (lines : List (List ℕ))
    (s : LinesSoFar start now old lines) where
  split_behind : (front more : List ℕ) (passed rest : List (List ℕ)) → MayFollow old.feed (front ++ more)
      → lines_of (front ++ more) ≡ passed ++ rest
      → lines_of ((s.front ++ front) ++ more) ≡ (lines ++ passed) ++ rest
  split_behind front more passed rest follows same =
      ap lines_of (append_assoc s.front front more)
      ∙ (s.split (front ++ more) follows
      ∙ (ap (λ (z : List (List ℕ)). lines ++ z) same ∙ sym (append_assoc lines passed rest)))

  -- a line was found
  pub found_lines : (reads : ReadsLine old new now left (Ok true))
      → LinesSoFar start left new ((lines ++ reads.finds.0.passed) ++ new.text ∷ [])
  found_lines reads =
      let f : FindsLine old new (old.feed.pending ++ reads.taken) = reads.finds.0 in
      let hand : AtHand old new (old.feed.pending ++ reads.taken) =
      at_hand start now old new left s.front reads.taken s.taken reads.draws in
      record {
        front = s.front ++ f.front;
        taken = taken_behind start now old new left s.front s.taken reads;
        split = λ more follows.
            split_behind f.front more f.passed (new.text ∷ lines_of more)
            (front_follows old new (old.feed.pending ++ reads.taken) f.front more hand f.split follows)
            (f.lines more follows)
            ∙ sym (append_assoc (lines ++ f.passed) (new.text ∷ []) (lines_of more));
        number = simp length-append (omega (arith, s.number, f.last));
      }

  -- and the reading may stop there
  pub found_stops : (reads : ReadsLine old new now left (Ok true))
      → StopsAt start left new.feed (lines ++ reads.finds.0.passed) new.lines (λ text. text ≡ new.text)
  found_stops reads =
      let f : FindsLine old new (old.feed.pending ++ reads.taken) = reads.finds.0 in
      let hand : AtHand old new (old.feed.pending ++ reads.taken) =
      at_hand start now old new left s.front reads.taken s.taken reads.draws in
      record {
        front = s.front ++ f.front;
        took = (taken_behind start now old new left s.front s.taken reads).took;
        done = reads.done;
        at_end = at_end start now old new left s.front reads.taken s.taken reads.draws;
        within = front_within start now old new s.front f.front s.taken f.given reads.limit;
        near = reads.near;
        ends =
            record {
              before = lines ++ f.passed;
              text = new.text;
              lines =
                  ap lines_of (sym (append-nil (s.front ++ f.front)))
                  ∙ split_behind f.front [] f.passed (new.text ∷ [])
                  (front_follows old new (old.feed.pending ++ reads.taken) f.front [] hand f.split (λ _. refl))
                  (f.lines [] (λ _. refl) ∙ ap (λ (z : List (List ℕ)). f.passed ++ new.text ∷ z) no_lines);
              place = simp length-append (omega (arith, s.number, f.last));
              short = short_line new.text f.says.0;
            };
        place = simp length-append (omega (arith, s.number, f.last));
        lines = λ more follows. (
          new.text,
          lines_of more,
          split_behind f.front more f.passed (new.text ∷ lines_of more)
              (front_follows old new (old.feed.pending ++ reads.taken) f.front more hand f.split follows)
              (f.lines more follows),
          refl,
        );
      }

  -- a line that is refused whatever it says stops it
  pub bad_stops : (bad : BadLine) → (reads : ReadsLine old new now left (Err (fault.Bad bad)))
      → StopsAt start left new.feed (lines ++ reads.finds.passed) bad.line
      (λ text. line_fault text ≡ Some bad.reason)
  bad_stops bad reads =
      let f : FindsBad old new (old.feed.pending ++ reads.taken) bad = reads.finds in
      let hand : AtHand old new (old.feed.pending ++ reads.taken) =
      at_hand start now old new left s.front reads.taken s.taken reads.draws in
      record {
        front = s.front ++ f.front;
        took =
            subst (λ (z : List ℕ). Took start left z)
            (front_whole s.front (old.feed.pending ++ reads.taken) f.front new.feed.pending f.split)
            (taken_whole start now old new left s.front reads.taken s.taken reads.draws);
        done = reads.done;
        at_end = at_end start now old new left s.front reads.taken s.taken reads.draws;
        within = front_within start now old new s.front f.front s.taken f.given reads.limit;
        near = reads.near;
        ends =
            record {
              before = lines ++ f.passed;
              text = f.ends.0;
              lines =
                  s.split f.front (front_only f hand)
                  ∙ (ap (λ (z : List (List ℕ)). lines ++ z) f.ends.1 ∙ sym (append_assoc lines f.passed (f.ends.0 ∷ [])));
              place = simp length-append (omega (arith, s.number, f.number));
              short = f.ends.2;
            };
        place = simp length-append (omega (arith, s.number, f.number));
        lines = λ more follows.
            let l = f.lines more follows in (
              l.0,
              l.1,
              split_behind f.front more f.passed (l.0 ∷ l.1)
                  (front_follows old new (old.feed.pending ++ reads.taken) f.front more hand f.split follows) l.2,
              l.3,
            );
      }
    where
      front_only : (f : FindsBad old new (old.feed.pending ++ reads.taken) bad)
          → AtHand old new (old.feed.pending ++ reads.taken) → MayFollow old.feed f.front
      front_only f hand ended =
          sym (append-nil f.front)
          ∙ front_follows old new (old.feed.pending ++ reads.taken) f.front [] hand f.split (λ _. refl) ended

  -- what was taken where no line was found
  abbrev pub taken_input : List ℕ → List ℕ
  taken_input taken = s.front ++ (old.feed.pending ++ taken)

  pub taken_took : (taken : List ℕ) → Draws old.feed new.feed now left taken → Took start left (taken_input taken)
  taken_took taken draws = taken_whole start now old new left s.front taken s.taken draws

  -- where what was read is all, these are its lines
  pub ended_lines : (reads : ReadsLine old new now left (Ok false))
      → lines_of (taken_input reads.taken) ≡ lines ++ reads.finds.0.passed
  ended_lines reads =
      s.split (old.feed.pending ++ reads.taken)
      (at_hand start now old new left s.front reads.taken s.taken reads.draws).follows
      ∙ ap (λ (z : List (List ℕ)). lines ++ z) reads.finds.0.lines

  pub ended_whole : (reads : ReadsLine old new now left (Ok false)) → IsWhole left (taken_input reads.taken)
  ended_whole reads = whole_end start now old new left s.front reads.taken s.taken reads.draws reads.limit reads.finds.0

  -- the input is too long
  pub over_lines : (Holds : List (List ℕ) → Type 0) → (reads : ReadsLine old new now left (Err fault.TooLong))
      → Holds (lines ++ reads.finds.passed)
      → RunsOver (λ bytes. Holds (lines_of bytes)) (taken_input reads.taken)
  unfolding lines_of
  over_lines Holds reads holds =
      let f : FindsTooMany old (old.feed.pending ++ reads.taken) = reads.finds in
      let hand : AtHand old new (old.feed.pending ++ reads.taken) =
      at_hand start now old new left s.front reads.taken s.taken reads.draws in
      let same : lines_of ((s.front ++ f.front) ++ []) ≡ (lines ++ f.passed) ++ [] =
      split_behind f.front [] f.passed [] (too_many_follow old new (old.feed.pending ++ reads.taken) hand f)
      (f.lines []) in
      record {
        front = s.front ++ f.front;
        unended = f.«open»;
        rest = f.rest;
        split = ap (λ b. s.front ++ b) f.split ∙ sym (append_assoc s.front f.front (f.«open» ++ f.rest));
        full = simp length-append (omega (arith, s.taken.given, f.full));
        beyond = f.beyond;
        near = f.near;
        lines = too_many_whole start now old new left s.front reads.taken s.taken reads.draws f;
        inner = f.inner;
        short = f.short;
        holds =
            subst (λ (b : List ℕ). Holds (lines_of b)) (append-nil (s.front ++ f.front))
            (subst Holds (sym (same ∙ append-nil (lines ++ f.passed))) holds);
      }

  -- The source couldn't be read within a line.
  pub part_lines : (Holds : List (List ℕ) → Type 0) → (reads : ReadsLine old new now left (Err fault.ReadFault))
      → Holds (lines ++ reads.finds.passed) → StopsWithin (λ bytes. Holds (lines_of bytes)) (taken_input reads.taken)
  part_lines Holds reads holds =
      let f : FindsPart old new (old.feed.pending ++ reads.taken) = reads.finds in
      let alive : old.feed.ended ≡ false = still_open old new reads.draws.stays f.alive in
      let same : lines_of ((s.front ++ f.front) ++ []) ≡ (lines ++ f.passed) ++ [] =
      split_behind f.front [] f.passed [] (λ ended. absurd (false≢true (sym alive ∙ ended)))
      (f.lines [] ∙ ap (λ (z : List (List ℕ)). f.passed ++ z) no_lines) in
      record {
        front = s.front ++ f.front;
        unended = f.«open»;
        split = ap (λ b. s.front ++ b) f.split ∙ sym (append_assoc s.front f.front f.«open»);
        within = rw (length-append s.front f.front) (omega (arith, s.taken.given, f.given, reads.limit));
        lines = whole_append s.front f.front (s.taken.lines alive) (whole_lines f.front f.passed f.lines);
        inner = f.inner;
        short = f.short;
        holds =
            subst (λ (b : List ℕ). Holds (lines_of b)) (append-nil (s.front ++ f.front))
            (subst Holds (sym (same ∙ append-nil (lines ++ f.passed))) holds);
      }

  -- how many lines were read
  pub lines_counted : (reads : ReadsLine old new now left (Ok true)) → (old.lines < new.lines) × (new.lines ≤ most_bytes)
  lines_counted reads = (omega (arith, reads.finds.0.last), omega (arith, reads.few, reads.limit))
