-- Lines that were passed over, and what stands behind them.
use Rattle.std.proofs.Common.{◌≡◌, ℕ, ◌+◌, ◌<◌, ◌≤◌, Bool, true, false, List, [], ◌∷◌, ◌++◌, length, Option, Some, None, Ok, Err, refl, sym, ap, ◌∙◌, subst, arith, append_assoc, length-append}
use Rattle.std.specs.Prelude.{◌&&◌}
use Rattle.std.specs.List.{AllByRecursion, list_any}
use Rattle.std.proofs.lemmas.Bool.{eqb-true, false≢true}
use Rattle.std.proofs.lemmas.List.{append-nil, nil_from_length}
use Rattle.line_input.specs.declared.fault.LineFault.{LineFault}
use Rattle.line_input.specs.declared.fault.LineFault.TheVariants as fault
use Rattle.line_input.specs.declared.gather.Ending.{Ending}
use Rattle.line_input.specs.declared.gather.Ending.TheVariants as ending
use Rattle.line_input.specs.declared.kind.LineKind.TheVariants as kind
use Rattle.line_input.specs.declared.reason.Reason.{Reason}
use Rattle.line_input.specs.declared.reason.Reason.TheVariants as reason
use Rattle.line_input.specs.Characters.{newline, number_sign, is_newline}
use Rattle.line_input.specs.Feed.{Feed, Draws, IsDone}
use Rattle.line_input.specs.inner.Gathering.{GathersLine, GathersText}
use Rattle.line_input.specs.Lines.{lines_of, line_fault, is_comment, IsPassedOver, IsLine}
use Rattle.line_input.specs.Reading.{Reading, MayFollow, Finds, ReadsLine, may_begin_line, begins_line, begins_with_line}
use Rattle.line_input.specs.inner.Kinds.{reading, kind_from, kind_of_gathered}
use Rattle.line_input.proofs.FeedLemmas.{Draws-nothing, Draws-append}
use Rattle.line_input.proofs.GatherLemmas.{AllByRecursion-push}
use Rattle.line_input.proofs.LinesLemmas.{lines_of-line, lines_of-last, lines_of-nil, lines_of-long, line_fault-long}

-- A front of the bytes is one line, whatever may follow.
pub record Cuts (old new : Feed) (bytes text : List ℕ) : Type 0 where
  pub piece : List ℕ
  pub split : bytes ≡ piece ++ new.pending
  pub given : new.given ≡ old.given + length piece
  pub some : 0 < length piece
  pub lines : (more : List ℕ) → MayFollow new more → lines_of (piece ++ more) ≡ text ∷ lines_of more

-- A front of the bytes begins a line that is refused, whatever may follow, and goes no further than it must.
pub record CutsBad (old new : Feed) (bytes : List ℕ) (why : Reason) : Type 0 where
  pub piece : List ℕ
  pub split : bytes ≡ piece ++ new.pending
  pub given : new.given ≡ old.given + length piece
  pub some : 0 < length piece
  pub ends : (text : List ℕ) × (lines_of piece ≡ text ∷ []) × (length text ≤ 513)
  pub lines : (more : List ℕ) → MayFollow new more →
      (text : List ℕ) × (rest : List (List ℕ)) × (lines_of (piece ++ more) ≡ text ∷ rest) × (line_fault text ≡ Some why)

length-push : (text : List ℕ) (b : ℕ) → length (text ++ b ∷ []) ≡ length text + 1
length-push text b = length-append text (b ∷ [])

-- by a newline
pub Cuts-newline : (old new : Feed) (left left' : Option (List ℕ)) (text : List ℕ)
    → (line : GathersLine old new left left' text (Ok ending.Newline)) → Cuts old new (old.pending ++ line.taken) text
Cuts-newline old new left left' text line = record {
  piece = text ++ 10 ∷ [];
  split = line.gathers.0 ∙ sym (append_assoc text (10 ∷ []) new.pending);
  given = omega (arith, line.gathers.1, length-push text 10);
  some = omega (arith, length-push text 10);
  lines = λ more _. ap lines_of (append_assoc text (10 ∷ []) more) ∙ lines_of-line text more line.inner;
}

-- by the end of the input
pub Cuts-end : (old new : Feed) (left left' : Option (List ℕ)) (text : List ℕ)
    → (line : GathersLine old new left left' text (Ok ending.InputEnd)) → 0 < length text → Cuts old new (old.pending ++ line.taken) text
Cuts-end old new left left' text line some = record {
  piece = text;
  split = line.gathers.0 ∙ sym (append-nil text) ∙ ap (λ (r : List ℕ). text ++ r) (sym (line.done line.gathers.1));
  given = line.gathers.2;
  some = some;
  lines = λ more follows. let none : more ≡ [] = follows line.gathers.1 in
      ap (λ (r : List ℕ). lines_of (text ++ r)) none ∙ ap lines_of (append-nil text) ∙ lines_of-last text line.inner some
      ∙ ap (λ (r : List (List ℕ)). text ∷ r) (sym lines_of-nil) ∙ ap (λ (r : List ℕ). text ∷ lines_of r) (sym none);
}

-- a split line that is refused
pub CutsBad-line : (old new : Feed) (bytes text : List ℕ) (why : Reason) → Cuts old new bytes text → length text ≤ 512 → line_fault text ≡ Some why → CutsBad old new bytes why
CutsBad-line old new bytes text why cut short bad = record {
  piece = cut.piece;
  split = cut.split;
  given = cut.given;
  some = cut.some;
  ends = (text, ap lines_of (sym (append-nil cut.piece)) ∙ cut.lines [] (λ _. refl) ∙ ap (λ (r : List (List ℕ)). text ∷ r) lines_of-nil, omega arith);
  lines = λ more follows. (text, lines_of more, cut.lines more follows, bad);
}

-- a line that is too long
pub CutsBad-full : (old new : Feed) (left left' : Option (List ℕ)) (text : List ℕ)
    → (line : GathersLine old new left left' text (Ok ending.Full)) → CutsBad old new (old.pending ++ line.taken) reason.LineLong
CutsBad-full old new left left' text line =
    let b : ℕ = line.gathers.0 in
    let len : length (text ++ b ∷ []) ≡ 513 = omega (arith, length-push text b, line.gathers.2) in
    record {
      piece = text ++ b ∷ [];
      split = line.gathers.3 ∙ sym (append_assoc text (b ∷ []) new.pending);
      given = omega (arith, line.gathers.4, length-push text b);
      some = omega arith;
      ends = (text ++ b ∷ [], lines_of-last (text ++ b ∷ []) (AllByRecursion-push text b line.inner line.gathers.1) (omega arith), omega arith);
      lines = λ more _. let long = lines_of-long (text ++ b ∷ []) more (AllByRecursion-push text b line.inner line.gathers.1) (omega arith) in
          (long.0, long.1, long.2, line_fault-long long.0 (omega (arith, long.3)));
    }

-- what was skimmed: lines that are passed over
pub record Skimmed (old now : Reading) (left left' : Option (List ℕ)) : Type 0 where
  pub done : IsDone now.feed
  pub taken : List ℕ
  pub draws : Draws old.feed now.feed left left' taken
  pub front : List ℕ
  pub passed : List (List ℕ)
  pub split : old.feed.pending ++ taken ≡ front ++ now.feed.pending
  pub given : now.feed.given ≡ old.feed.given + length front
  pub each : AllByRecursion IsPassedOver passed
  pub counted : now.lines ≡ old.lines + length passed
  pub few : now.lines ≤ now.feed.given
  pub lines : (more : List ℕ) → MayFollow now.feed more → lines_of (front ++ more) ≡ passed ++ lines_of more

pub Skimmed-none : (feed : Feed) (lines : ℕ) (text : List ℕ) (left : Option (List ℕ)) → IsDone feed → lines ≤ feed.given
    → Skimmed (reading feed lines text) (reading feed lines text) left left
Skimmed-none feed lines text left done few = record {
  done = done;
  taken = [];
  draws = Draws-nothing feed left;
  front = [];
  passed = [];
  split = append-nil feed.pending;
  given = omega arith;
  each = tt;
  counted = omega arith;
  few = few;
  lines = λ more _. refl;
}

-- the bytes at hand after a further line, by what was skimmed
skim_more : (old now : Reading) (left between : Option (List ℕ)) → (so : Skimmed old now left between) → (more piece rest : List ℕ)
    → now.feed.pending ++ more ≡ piece ++ rest → old.feed.pending ++ (so.taken ++ more) ≡ (so.front ++ piece) ++ rest
skim_more old now left between so more piece rest cut =
    sym (append_assoc old.feed.pending so.taken more) ∙ ap (λ (r : List ℕ). r ++ more) so.split ∙ append_assoc so.front now.feed.pending more
    ∙ ap (λ (r : List ℕ). so.front ++ r) cut ∙ sym (append_assoc so.front piece rest)

-- nothing is cut behind the end of the input
before_end : (now new : Feed) (between left' : Option (List ℕ)) (taken piece rest : List ℕ) → IsDone now → Draws now new between left' taken
    → now.pending ++ taken ≡ piece ++ rest → 0 < length (piece ++ rest) → (more : List ℕ) → MayFollow now more
before_end now new between left' taken piece rest done draws cut some more = λ ended.
    let none : now.pending ++ taken ≡ [] = rw (done ended, draws.idle ended) refl in
    let empty : length (piece ++ rest) ≡ 0 = ap length (sym cut ∙ none) in
    absurd (omega arith)

AllByRecursion-one : (passed : List (List ℕ)) (text : List ℕ) → AllByRecursion IsPassedOver passed → IsPassedOver text → AllByRecursion IsPassedOver (passed ++ text ∷ [])
AllByRecursion-one [] text all here = (here, tt)
AllByRecursion-one (x ∷ xs) text all here = (all.0, AllByRecursion-one xs text all.1 here)

-- the lines of what was skimmed and one line more
lines_behind : (old now : Reading) (new : Feed) (left between left' : Option (List ℕ)) (taken text : List ℕ)
    → (so : Skimmed old now left between) → Draws now.feed new between left' taken → (cut : Cuts now.feed new (now.feed.pending ++ taken) text)
    → (more : List ℕ) → MayFollow new more → lines_of ((so.front ++ cut.piece) ++ more) ≡ so.passed ++ text ∷ lines_of more
lines_behind old now new left between left' taken text so draws cut more follows =
    let some : 0 < length (cut.piece ++ new.pending) = omega (arith, length-append cut.piece new.pending, cut.some) in
    ap lines_of (append_assoc so.front cut.piece more)
    ∙ so.lines (cut.piece ++ more) (before_end now.feed new between left' taken cut.piece new.pending so.done draws cut.split some (cut.piece ++ more))
    ∙ ap (λ (r : List (List ℕ)). so.passed ++ r) (cut.lines more follows)

-- one line more that is passed over
pub Skimmed-more : (old now : Reading) (new : Feed) (left between left' : Option (List ℕ)) (taken text : List ℕ)
    → Skimmed old now left between → Draws now.feed new between left' taken → IsDone new → Cuts now.feed new (now.feed.pending ++ taken) text → IsPassedOver text
    → Skimmed old (reading new (now.lines + 1) text) left left'
Skimmed-more old now new left between left' taken text so draws done cut passed = record {
  done = done;
  taken = so.taken ++ taken;
  draws = Draws-append old.feed now.feed new left between left' so.taken taken so.draws draws;
  front = so.front ++ cut.piece;
  passed = so.passed ++ text ∷ [];
  split = skim_more old now left between so taken cut.piece new.pending cut.split;
  given = omega (arith, so.given, cut.given, length-append so.front cut.piece);
  each = AllByRecursion-one so.passed text so.each passed;
  counted = omega (arith, so.counted, length-append so.passed (text ∷ []));
  few = omega (arith, so.few, cut.given, cut.some);
  lines = λ more follows. lines_behind old now new left between left' taken text so draws cut more follows ∙ sym (append_assoc so.passed (text ∷ []) (lines_of more));
}

-- a line
pub ReadsLine-found : (old now : Reading) (new : Feed) (left between left' : Option (List ℕ)) (taken text : List ℕ)
    → Skimmed old now left between → Draws now.feed new between left' taken → IsDone new → new.given ≤ 16777216 → length new.pending ≤ 8192 → Cuts now.feed new (now.feed.pending ++ taken) text → IsLine text
    → ReadsLine old (reading new (now.lines + 1) text) left left' (Ok true)
ReadsLine-found old now new left between left' taken text so draws done limit near cut says = record {
  done = done;
  taken = so.taken ++ taken;
  draws = Draws-append old.feed now.feed new left between left' so.taken taken so.draws draws;
  limit = limit;
  near = near;
  few = omega (arith, so.few, cut.given, cut.some);
  finds = (
    record {
      front = so.front ++ cut.piece;
      some = omega (arith, cut.some, length-append so.front cut.piece);
      passed = so.passed;
      split = skim_more old now left between so taken cut.piece new.pending cut.split;
      given = omega (arith, so.given, cut.given, length-append so.front cut.piece);
      each = so.each;
      last = omega (arith, so.counted);
      says = says;
      lines = lines_behind old now new left between left' taken text so draws cut;
    },
    refl,
  );
}

-- a line that is refused
pub ReadsLine-bad : (old now : Reading) (new : Feed) (left between left' : Option (List ℕ)) (taken text : List ℕ) (why : Reason)
    → Skimmed old now left between → Draws now.feed new between left' taken → IsDone new → new.given ≤ 16777216 → length new.pending ≤ 8192 → CutsBad now.feed new (now.feed.pending ++ taken) why
    → ReadsLine old (reading new (now.lines + 1) text) left left' (Err (fault.Bad (record { line = now.lines + 1; reason = why })))
ReadsLine-bad old now new left between left' taken text why so draws done limit near cut =
    let some : 0 < length (cut.piece ++ new.pending) = omega (arith, length-append cut.piece new.pending, cut.some) in
    record {
      done = done;
      taken = so.taken ++ taken;
      draws = Draws-append old.feed now.feed new left between left' so.taken taken so.draws draws;
      limit = limit;
      near = near;
      few = omega (arith, so.few, cut.given, cut.some);
      finds = record {
        front = so.front ++ cut.piece;
        passed = so.passed;
        split = skim_more old now left between so taken cut.piece new.pending cut.split;
        given = omega (arith, so.given, cut.given, length-append so.front cut.piece);
        each = so.each;
        number = omega (arith, so.counted);
        ends = (
          cut.ends.0,
          so.lines cut.piece (before_end now.feed new between left' taken cut.piece new.pending so.done draws cut.split some cut.piece)
              ∙ ap (λ (r : List (List ℕ)). so.passed ++ r) cut.ends.1,
          cut.ends.2,
        );
        lines = λ more follows. let bad = cut.lines more follows in (
          bad.0,
          bad.1,
          ap lines_of (append_assoc so.front cut.piece more)
              ∙ so.lines (cut.piece ++ more) (before_end now.feed new between left' taken cut.piece new.pending so.done draws cut.split some (cut.piece ++ more))
              ∙ ap (λ (r : List (List ℕ)). so.passed ++ r) bad.2,
          bad.3,
        );
      };
    }

-- the end of the input
pub ReadsLine-end : (old now : Reading) (new : Feed) (left between left' : Option (List ℕ)) (text : List ℕ)
    → Skimmed old now left between → (line : GathersLine now.feed new between left' text (Ok ending.InputEnd)) → new.given ≤ 16777216 → length new.pending ≤ 8192 → length text ≡ 0
    → ReadsLine old (reading new now.lines text) left left' (Ok false)
ReadsLine-end old now new left between left' text so line limit near none =
    let empty : text ≡ [] = nil_from_length text none in
    let at_hand : now.feed.pending ++ line.taken ≡ [] = line.gathers.0 ∙ empty in
    let all : old.feed.pending ++ (so.taken ++ line.taken) ≡ so.front =
    skim_more old now left between so line.taken [] [] at_hand ∙ append-nil (so.front ++ []) ∙ append-nil so.front in
    record {
      done = line.done;
      taken = so.taken ++ line.taken;
      draws = Draws-append old.feed now.feed new left between left' so.taken line.taken so.draws line.draws;
      limit = limit;
      near = near;
      few = omega (arith, so.few, line.gathers.2);
      finds = (
        record {
          passed = so.passed;
          given = omega (arith, so.given, line.gathers.2, ap length all);
          each = so.each;
          last = so.counted;
          ended = line.gathers.1;
          lines = ap lines_of (all ∙ sym (append-nil so.front)) ∙ so.lines [] (λ _. refl) ∙ ap (λ (r : List (List ℕ)). so.passed ++ r) lines_of-nil ∙ append-nil so.passed;
        },
        refl,
      );
    }

-- a fault of the source or of the input's length
pub ReadsLine-fault : (old now : Reading) (new : Feed) (left between left' : Option (List ℕ)) (text : List ℕ) (e : LineFault)
    → Skimmed old now left between → GathersLine now.feed new between left' text (Err e) → new.given ≤ 16777216 → length new.pending ≤ 8192
    → ReadsLine old (reading new now.lines text) left left' (Err e)
ReadsLine-fault old now new left between left' text e so line limit near = record {
  done = line.done;
  taken = so.taken ++ line.taken;
  draws = Draws-append old.feed now.feed new left between left' so.taken line.taken so.draws line.draws;
  limit = limit;
  near = near;
  few = omega (arith, so.few, line.grows);
  finds = fault_finds e line.gathers;
}
  where
    fault_finds : (e : LineFault) → GathersText now.feed new (now.feed.pending ++ line.taken) text (Err e)
        → Finds old (reading new now.lines text) (old.feed.pending ++ (so.taken ++ line.taken)) (Err e)
    fault_finds (fault.Bad bad) gathers = absurd gathers
    fault_finds fault.ReadFault gathers =
        let at_hand : now.feed.pending ++ line.taken ≡ text ++ [] = gathers.0 ∙ sym (append-nil text) in
        record {
          front = so.front;
          passed = so.passed;
          «open» = text;
          split = skim_more old now left between so line.taken text [] at_hand ∙ append-nil (so.front ++ text);
          given = omega (arith, so.given, gathers.2);
          each = so.each;
          inner = line.inner;
          short = line.short;
          alive = gathers.1;
          lines = λ more. so.lines more (λ ended. absurd (false≢true (sym gathers.1 ∙ line.draws.stays ended)));
        }
    fault_finds fault.TooLong gathers = let beyond : 0 < length new.pending = gathers.1 in record {
      front = so.front;
      passed = so.passed;
      «open» = text;
      rest = new.pending;
      split = skim_more old now left between so line.taken text new.pending gathers.0 ∙ append_assoc so.front text new.pending;
      full = omega (arith, so.given, gathers.2);
      beyond = beyond;
      near = near;
      each = so.each;
      inner = line.inner;
      short = line.short;
      lines = λ more. so.lines more (before_end now.feed new between left' line.taken text new.pending so.done line.draws gathers.0 (omega (arith, length-append text new.pending)) more);
    }

-- what a split line is
from_says : (fault : Option Reason) (comment : Bool) → kind_from fault comment ≡ kind.Says → (fault ≡ None) × (comment ≡ false)
from_says (Some why) comment e = let no : ⊥ = cc in absurd no
from_says None true e = let no : ⊥ = cc in absurd no
from_says None false e = (refl, refl)

from_passed : (fault : Option Reason) (comment : Bool) → kind_from fault comment ≡ kind.PassedOver → (fault ≡ None) × (comment ≡ true)
from_passed (Some why) comment e = let no : ⊥ = cc in absurd no
from_passed None true e = (refl, refl)
from_passed None false e = let no : ⊥ = cc in absurd no

from_refused : (fault : Option Reason) (comment : Bool) (why : Reason) → kind_from fault comment ≡ kind.Refused why → fault ≡ Some why
from_refused (Some r) comment why e = cc
from_refused None true why e = let no : ⊥ = cc in absurd no
from_refused None false why e = let no : ⊥ = cc in absurd no

from_none : (fault : Option Reason) (comment : Bool) → kind_from fault comment ≡ kind.NoLine → ⊥
from_none (Some why) comment e = cc
from_none None true e = cc
from_none None false e = cc

-- a line that was gathered and isn't refused is cut off
pub Cuts-says : (old new : Feed) (left left' : Option (List ℕ)) (how : Ending) (text : List ℕ)
    → (line : GathersLine old new left left' text (Ok how)) → kind_of_gathered how text ≡ kind.Says → Cuts old new (old.pending ++ line.taken) text × IsLine text
Cuts-says old new left left' ending.Full text line e = let no : ⊥ = cc in absurd no
Cuts-says old new left left' ending.Newline text line e = (Cuts-newline old new left left' text line, from_says (line_fault text) (is_comment text) e)
Cuts-says old new left left' ending.InputEnd [] line e = let no : ⊥ = cc in absurd no
Cuts-says old new left left' ending.InputEnd (b ∷ bytes) line e =
    (Cuts-end old new left left' (b ∷ bytes) line (omega arith), from_says (line_fault (b ∷ bytes)) (is_comment (b ∷ bytes)) e)

pub Cuts-passed : (old new : Feed) (left left' : Option (List ℕ)) (how : Ending) (text : List ℕ)
    → (line : GathersLine old new left left' text (Ok how)) → kind_of_gathered how text ≡ kind.PassedOver → Cuts old new (old.pending ++ line.taken) text × IsPassedOver text
Cuts-passed old new left left' ending.Full text line e = let no : ⊥ = cc in absurd no
Cuts-passed old new left left' ending.Newline text line e = (Cuts-newline old new left left' text line, from_passed (line_fault text) (is_comment text) e)
Cuts-passed old new left left' ending.InputEnd [] line e = let no : ⊥ = cc in absurd no
Cuts-passed old new left left' ending.InputEnd (b ∷ bytes) line e =
    (Cuts-end old new left left' (b ∷ bytes) line (omega arith), from_passed (line_fault (b ∷ bytes)) (is_comment (b ∷ bytes)) e)

-- one that is refused
pub CutsBad-refused : (old new : Feed) (left left' : Option (List ℕ)) (how : Ending) (text : List ℕ) (why : Reason)
    → (line : GathersLine old new left left' text (Ok how)) → kind_of_gathered how text ≡ kind.Refused why → CutsBad old new (old.pending ++ line.taken) why
CutsBad-refused old new left left' ending.Full text why line e =
    let long : reason.LineLong ≡ why = cc in subst (CutsBad old new (old.pending ++ line.taken)) long (CutsBad-full old new left left' text line)
CutsBad-refused old new left left' ending.Newline text why line e =
    CutsBad-line old new (old.pending ++ line.taken) text why (Cuts-newline old new left left' text line) line.short (from_refused (line_fault text) (is_comment text) why e)
CutsBad-refused old new left left' ending.InputEnd [] why line e = let no : ⊥ = cc in absurd no
CutsBad-refused old new left left' ending.InputEnd (b ∷ bytes) why line e =
    CutsBad-line old new (old.pending ++ line.taken) (b ∷ bytes) why (Cuts-end old new left left' (b ∷ bytes) line (omega arith)) line.short (from_refused (line_fault (b ∷ bytes)) (is_comment (b ∷ bytes)) why e)

-- no line
pub GathersLine-none : (old new : Feed) (left left' : Option (List ℕ)) (how : Ending) (text : List ℕ)
    → GathersLine old new left left' text (Ok how) → kind_of_gathered how text ≡ kind.NoLine → GathersLine old new left left' text (Ok ending.InputEnd) × (length text ≡ 0)
GathersLine-none old new left left' ending.Full text line e = let no : ⊥ = cc in absurd no
GathersLine-none old new left left' ending.Newline text line e = absurd (from_none (line_fault text) (is_comment text) e)
GathersLine-none old new left left' ending.InputEnd [] line e = (line, refl)
GathersLine-none old new left left' ending.InputEnd (b ∷ bytes) line e = absurd (from_none (line_fault (b ∷ bytes)) (is_comment (b ∷ bytes)) e)

-- what begins with a line that isn't passed over isn't passed over
no_comment : (pending taken text rest : List ℕ) → pending ++ taken ≡ text ++ newline ∷ rest → is_comment text ≡ true → begins_line pending ≡ true → ⊥
no_comment [] taken text rest cut comment begins = false≢true begins
no_comment (b ∷ pending) taken [] rest cut comment begins =
    let first : b ≡ newline = cc in false≢true (ap may_begin_line (sym first) ∙ begins)
no_comment (b ∷ pending) taken (x ∷ text) rest cut comment begins =
    let first : b ≡ x = cc in
    let sign : x ≡ number_sign = eqb-true x number_sign comment in
    false≢true (ap may_begin_line (sym (first ∙ sign)) ∙ begins)

pub begins_too : (bytes : List ℕ) → begins_with_line bytes ≡ true → begins_line bytes ≡ true
begins_too bytes both = by_test (list_any is_newline bytes) both
  where
    by_test : (t : Bool) → (t && begins_line bytes) ≡ true → begins_line bytes ≡ true
    by_test true e = e
    by_test false e = absurd (false≢true e)

pub newline_too : (bytes : List ℕ) → begins_with_line bytes ≡ true → list_any is_newline bytes ≡ true
newline_too bytes both = by_test (list_any is_newline bytes) refl both
  where
    by_test : (t : Bool) → list_any is_newline bytes ≡ t → (t && begins_line bytes) ≡ true → list_any is_newline bytes ≡ true
    by_test true e both = e
    by_test false e both = absurd (false≢true both)

pub passed_none : (old new : Feed) (left left' : Option (List ℕ)) (how : Ending) (text : List ℕ)
    → (line : GathersLine old new left left' text (Ok how)) → kind_of_gathered how text ≡ kind.PassedOver → begins_with_line old.pending ≡ true → ⊥
passed_none old new left left' ending.Full text line e begins = let no : ⊥ = cc in no
passed_none old new left left' ending.Newline text line e begins =
    no_comment old.pending line.taken text new.pending line.gathers.0 (from_passed (line_fault text) (is_comment text) e).1 (begins_too old.pending begins)
passed_none old new left left' ending.InputEnd [] line e begins = let no : ⊥ = cc in no
passed_none old new left left' ending.InputEnd (b ∷ bytes) line e begins =
    no_comment old.pending (line.taken ++ newline ∷ []) (b ∷ bytes) [] (sym (append_assoc old.pending line.taken (newline ∷ [])) ∙ ap (λ (r : List ℕ). r ++ newline ∷ []) line.gathers.0)
    (from_passed (line_fault (b ∷ bytes)) (is_comment (b ∷ bytes)) e).1 (begins_too old.pending begins)

pub begins_still : (now old : Feed) → now ≡ old → begins_with_line old.pending ≡ true → begins_with_line now.pending ≡ true
begins_still now old same begins = ap (λ (f : Feed). begins_with_line f.pending) same ∙ begins
