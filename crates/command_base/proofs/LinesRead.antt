-- What the lines that were read say of the reply of a command that reads its input line by line. It holds for every
-- command whose reply is one to lines (`IsLined`).
use Rattle.std.specs.Prelude.{◌≡◌, ℕ, ◌+◌, ◌≤◌, ◌⊎◌, Bool, true, false, List, [], ◌∷◌, ◌++◌, length, Option, Some, Ok, Err}
use Rattle.std.specs.Io.KnownBytes.{IsAtEnd}
use Rattle.std.specs.List.{AllByRecursion}
use Rattle.std.proofs.Common.{sym, ◌∙◌, ap, refl, subst, append_assoc, inl, inr, arith}
use Rattle.std.proofs.lemmas.List.{append-nil}
use Rattle.std.proofs.lemmas.Bool.{false≢true}
use Rattle.call_io.specs.Bytes.{Took, Grew, GrewPartly}
use Rattle.call_io.proofs.BytesLemmas.{Grew-append, Grew-nothing}
use Rattle.line_input.specs.declared.reason.BadLine.{BadLine}
use Rattle.line_input.specs.declared.fault.LineFault.TheVariants as fault
use Rattle.line_input.specs.Feed.{Draws, Feed}
use Rattle.line_input.specs.Inputs.{IsSettledBy, RunsOver}
use Rattle.line_input.specs.Lines.{IsWhole, lines_of, line_fault, most_at_once, most_bytes, IsPassedOver}
use Rattle.line_input.specs.Reading.{Reading, MayFollow, ReadsLine}
use Rattle.command_base.specs.declared.status.Status.TheVariants as status
use Rattle.command_base.specs.declared.refusal.Refused.TheVariants as refused
use Rattle.command_base.specs.LineCommands.{IsLined, GoesOn, Ends, Begins}
use Rattle.command_base.specs.Outcome.{Streams, Answered, CutShort, IsUnrefused, Outcome, ToldAll, ToldBefore, ToldMore}
use Rattle.command_base.specs.Refusals.{Reply, refusal_reply, in_front_of}
use Rattle.command_base.specs.inner.Standing.{LinesStanding}
use Rattle.command_base.proofs.LineEnds.{cut_settled, settled_few}
use Rattle.line_input.specs.Taken.{LinesSoFar}
use Rattle.line_input.proofs.LinesSoFar.{StopsAt, bad_stops, ended_lines, ended_whole, found_lines, found_stops, line_near, over_lines, over_most, part_lines, settled_as, stopped_all, stopped_by, stopped_few, stopped_input, taken_input, taken_took, whole_near, within_as}
use Rattle.line_input.proofs.Takings.{at_end, at_hand}

-- sums that a count of passes goes through
count_on : (now m m' start all : ℕ) → now + m ≤ start + all → m' ≤ m → now + m' ≤ start + all
count_on now m m' start all h k = omega (arith, h, k)

count_past : (now now' m start all : ℕ) → now + m ≤ start + all → now' ≤ now + m → now' ≤ start + all
count_past now now' m start all h k = omega (arith, h, k)

count_next : (now now' m m' start all : ℕ) → now + m ≤ start + all → now' + m' ≤ now + m → now' + m' ≤ start + all
count_next now now' m m' start all h k = omega (arith, h, k)

count_here : (now m start all : ℕ) → now + m ≤ start + all → now ≤ start + all
count_here now m start all h = omega (arith, h)

-- What a command that ended at a line took, and its reply to that.
pub record Ending (Replies : List (List ℕ) → Reply → Type 0) (most : List (List ℕ) → ℕ) (start : Streams) (passes : ℕ)
    (left : Option (List ℕ)) (number : ℕ) (r : Reply) : Type 0 where
  pub input : List ℕ
  pub took : Took start.left left input
  pub replied : Replies (lines_of input) r
  pub counted : passes ≤ start.passes + most (lines_of input)
  pub settled : IsSettledBy (λ bytes. Replies (lines_of bytes) r) number input ⊎ IsWhole left input

module _ (Replies : List (List ℕ) → Reply → Type 0) (most : List (List ℕ) → ℕ)
    (Rest : ℕ → List (List ℕ) → Reply → Type 0) (passing : ℕ → List (List ℕ) → ℕ) (closes : List ℕ → Type 0)
    (lined : IsLined Rest passing closes) where
  abbrev pub replies : List ℕ → Reply → Type 0
  replies bytes r = Replies (lines_of bytes) r

  abbrev pub most_of : List ℕ → ℕ
  most_of bytes = most (lines_of bytes)

  -- lines that are passed over show nothing
  passed_replied : (passed : List (List ℕ)) (number : ℕ) (rest : List (List ℕ)) (r : Reply)
      → AllByRecursion IsPassedOver passed → Rest (number + length passed) rest r → Rest number (passed ++ rest) r
  passed_replied [] number rest r each replied = subst (λ (n : ℕ). Rest n rest r) (omega arith) replied
  passed_replied (text ∷ passed) number rest r each replied =
      lined.passed number text (passed ++ rest) r each.0
      (passed_replied passed (number + 1) rest r each.1 (subst (λ (n : ℕ). Rest n rest r) (omega arith) replied))

  -- and pass no ends
  passed_counted : (passed : List (List ℕ)) (number : ℕ) (rest : List (List ℕ)) → AllByRecursion IsPassedOver passed
      → passing (number + length passed) rest ≤ passing number (passed ++ rest)
  passed_counted [] number rest each =
      let same : number ≡ number + 0 = omega arith in
      subst (λ (n : ℕ). passing n rest ≤ passing number rest) same (omega arith)
  passed_counted (text ∷ passed) number rest each =
      let here : passing (number + 1) (passed ++ rest) ≤ passing number (text ∷ (passed ++ rest)) =
      lined.counted number text (passed ++ rest) each.0 in
      let there : passing (number + 1 + length passed) rest ≤ passing (number + 1) (passed ++ rest) =
      passed_counted passed (number + 1) rest each.1 in
      let same : number + 1 + length passed ≡ number + length (text ∷ passed) = omega arith in
      subst (λ (n : ℕ). passing n rest ≤ passing number (text ∷ (passed ++ rest))) same
      (omega (arith, here, there))

  -- a text in front of another in front of a reply
  pub in_front_twice : (lines : List (List ℕ)) (text more : List ℕ) (r : Reply)
      → Replies lines (in_front_of text (in_front_of more r)) → Replies lines (in_front_of (text ++ more) r)
  in_front_twice lines text more r replied =
      subst (λ (t : List ℕ). Replies lines (record { text = t; status = r.status }))
      (sym (append_assoc text more r.text)) replied

  module _ (start now : Streams) (old : Reading) (s : LinesStanding Replies most Rest passing start now old) where
    -- behind lines that are passed over the reply goes on,
    pub behind_replied : (passed : List (List ℕ)) (number : ℕ) → AllByRecursion IsPassedOver passed
        → old.lines + 1 + length passed ≡ number → (texts : List (List ℕ)) (r : Reply) → Rest number texts r
        → Replies ((s.lines ++ passed) ++ texts) (in_front_of s.text r)
    behind_replied passed number each same texts r replied =
        subst (λ (ls : List (List ℕ)). Replies ls (in_front_of s.text r)) (sym (append_assoc s.lines passed texts))
        (s.read (passed ++ texts) r
        (passed_replied passed (old.lines + 1) texts r each (subst (λ (n : ℕ). Rest n texts r) (sym same) replied)))

    -- and so does the count
    pub behind_counted : (passed : List (List ℕ)) (number : ℕ) → AllByRecursion IsPassedOver passed
        → old.lines + 1 + length passed ≡ number → (texts : List (List ℕ))
        → now.passes + passing number texts ≤ start.passes + most ((s.lines ++ passed) ++ texts)
    behind_counted passed number each same texts =
        let few : passing number texts ≤ passing (old.lines + 1) (passed ++ texts) =
        subst (λ (n : ℕ). passing n texts ≤ passing (old.lines + 1) (passed ++ texts)) same
        (passed_counted passed (old.lines + 1) texts each) in
        subst (λ (ls : List (List ℕ)). now.passes + passing number texts ≤ start.passes + most ls)
        (sym (append_assoc s.lines passed texts))
        (count_on now.passes (passing (old.lines + 1) (passed ++ texts)) (passing number texts) start.passes
        (most (s.lines ++ (passed ++ texts))) (s.counted (passed ++ texts)) few)

    -- a reply begins with the text so far
    pub begun : (more : List ℕ) → MayFollow old.feed more
        → (r : Reply) × replies (s.so_far.front ++ more) (in_front_of s.text r)
    begun more follows =
        let rest : (r : Reply) × Rest (old.lines + 1) (lines_of more) r = lined.some (old.lines + 1) (lines_of more) in (
          rest.0,
          subst (λ (ls : List (List ℕ)). Replies ls (in_front_of s.text rest.0)) (sym (s.so_far.split more follows))
              (s.read (lines_of more) rest.0 rest.1),
        )

    -- where no line follows those that are passed over, the reply is done, and closes so
    abbrev Closed : List (List ℕ) → Type 0
    Closed ls = (r : Reply) × Replies ls (in_front_of s.text r) × (r.status ≡ status.Done) × closes r.text

    closed : (passed : List (List ℕ)) → AllByRecursion IsPassedOver passed → Closed (s.lines ++ passed)
    closed passed each =
        let n : ℕ = old.lines + 1 + length passed in
        let here : (r : Reply) × Rest n [] r × (r.status ≡ status.Done) × closes r.text = lined.done n in (
          here.0,
          subst (λ (ls : List (List ℕ)). Replies ls (in_front_of s.text here.0))
              (append-nil (s.lines ++ passed)) (behind_replied passed n each refl [] here.0 here.1),
          here.2,
          here.3,
        )

    -- and where this part of a further line's text was written, too
    told_more : (passed : List (List ℕ)) → AllByRecursion IsPassedOver passed → (held : Option (List ℕ))
        → (part : List ℕ) → Grew now.held held part
        → ToldMore replies closes start.held held (s.lines ++ passed)
    told_more passed each held part grew =
        let here : Closed (s.lines ++ passed) = closed passed each in
        record {
          text = s.text;
          part = part;
          wrote = Grew-append start.held now.held held s.text part s.wrote grew;
          closing = here.0;
          replied = λ bytes same.
              subst (λ (ls : List (List ℕ)). Replies ls (in_front_of s.text here.0)) (sym same) here.1;
          done = here.2;
          closes = here.3;
        }

    -- the command ended where the reading stops
    ending_at : (passes : ℕ) (left : Option (List ℕ)) (feed : Feed) (before : List (List ℕ)) (number : ℕ)
        (IsThis : List ℕ → Type 0) (stops : StopsAt start.left left feed before number IsThis) (r : Reply)
        → ((text : List ℕ) (rest : List (List ℕ)) → IsThis text → Replies (before ++ text ∷ rest) r)
        → ((text : List ℕ) (rest : List (List ℕ)) → IsThis text
        → passes ≤ start.passes + most (before ++ text ∷ rest))
        → Ending Replies most start passes left number r
    ending_at passes left feed before number IsThis stops r replied few =
        let Holds : List (List ℕ) → Type 0 = λ ls. Replies ls r in
        record {
          input = stopped_input start.left left feed before number IsThis stops;
          took = stops.took;
          replied = stopped_all start.left left feed before number IsThis stops Holds replied;
          counted =
              stopped_all start.left left feed before number IsThis stops (λ ls. passes ≤ start.passes + most ls) few;
          settled = stopped_by start.left left feed before number IsThis stops Holds replied;
        }

    -- a line that is refused for its length or its bytes
    pub ending_bad : (new : Reading) (left : Option (List ℕ)) (bad : BadLine)
        → ReadsLine old new now.left left (Err (fault.Bad bad))
        → Ending Replies most start now.passes left bad.line (in_front_of s.text (refusal_reply (refused.Line bad)))
    ending_bad new left bad reads =
        let passed : List (List ℕ) = reads.finds.passed in
        let r : Reply = refusal_reply (refused.Line bad) in
        let place : old.lines + 1 + length passed ≡ bad.line = omega (arith, reads.finds.number) in
        ending_at now.passes left new.feed (s.lines ++ passed) bad.line (λ text. line_fault text ≡ Some bad.reason)
        (bad_stops start.left now.left left old new s.lines s.so_far bad reads) (in_front_of s.text r)
        (λ text rest fails. behind_replied passed bad.line reads.finds.each place (text ∷ rest) r
        (lined.faulty bad.line text rest bad.reason fails))
        (λ text rest fails. count_here now.passes (passing bad.line (text ∷ rest)) start.passes
        (most ((s.lines ++ passed) ++ text ∷ rest))
        (behind_counted passed bad.line reads.finds.each place (text ∷ rest)))

    module _ (new : Reading) (left : Option (List ℕ)) (reads : ReadsLine old new now.left left (Ok true)) where
      abbrev pub passed : List (List ℕ)
      passed = reads.finds.0.passed

      place : old.lines + 1 + length passed ≡ new.lines
      place = omega (arith, reads.finds.0.last)

      abbrev pub stops : StopsAt start.left left new.feed (s.lines ++ passed) new.lines (λ text. text ≡ new.text)
      stops = found_stops start.left now.left left old new s.lines s.so_far reads

      -- behind a line that is found, the reply goes on with that line
      pub line_replied : (r : Reply) (texts : List (List ℕ)) → Rest new.lines (new.text ∷ texts) r
          → Replies ((s.lines ++ passed) ++ new.text ∷ texts) (in_front_of s.text r)
      line_replied r texts replied =
          behind_replied passed new.lines reads.finds.0.each place (new.text ∷ texts) r replied

      -- and so does the count
      line_counted : (texts : List (List ℕ))
          → now.passes + passing new.lines (new.text ∷ texts)
          ≤ start.passes + most ((s.lines ++ passed) ++ new.text ∷ texts)
      line_counted texts = behind_counted passed new.lines reads.finds.0.each place (new.text ∷ texts)

      -- a line that ends the command by what it says
      pub ending_line : (passes : ℕ) (r : Reply) → Ends Rest new.lines new.text r
          → ((texts : List (List ℕ)) → passes ≤ now.passes + passing new.lines (new.text ∷ texts))
          → Ending Replies most start passes left new.lines (in_front_of s.text r)
      ending_line passes r ends few =
          ending_at passes left new.feed (s.lines ++ passed) new.lines (λ text. text ≡ new.text) stops
          (in_front_of s.text r)
          (λ text rest same. subst (λ (t : List ℕ). Replies ((s.lines ++ passed) ++ t ∷ rest) (in_front_of s.text r))
          (sym same) (line_replied r rest (ends rest)))
          (λ text rest same. subst (λ (t : List ℕ). passes ≤ start.passes + most ((s.lines ++ passed) ++ t ∷ rest))
          (sym same)
          (count_past now.passes passes (passing new.lines (new.text ∷ rest)) start.passes
          (most ((s.lines ++ passed) ++ new.text ∷ rest)) (line_counted rest) (few rest)))

      -- a text with which a reply to a line begins was written, and no more
      pub cut_line : (passes : ℕ) (held : Option (List ℕ)) (text : List ℕ) → Begins Rest new.lines new.text text
          → Grew now.held held text
          → ((texts : List (List ℕ)) → passes ≤ now.passes + passing new.lines (new.text ∷ texts))
          → CutShort replies most_of start (record { left = left; held = held; passes = passes })
          (stopped_input start.left left new.feed (s.lines ++ passed) new.lines (λ t. t ≡ new.text) stops)
      cut_line passes held text begins grew few =
          cut_settled replies most_of start passes left held new.lines
          (stopped_input start.left left new.feed (s.lines ++ passed) new.lines (λ t. t ≡ new.text) stops)
          (s.text ++ text) stops.took (Grew-append start.held now.held held s.text text s.wrote grew)
          (stopped_few start.left left new.feed (s.lines ++ passed) new.lines (λ t. t ≡ new.text) stops)
          (stopped_all start.left left new.feed (s.lines ++ passed) new.lines (λ t. t ≡ new.text) stops
          (λ ls. passes ≤ start.passes + most ls)
          (λ t rest same. subst (λ (z : List ℕ). passes ≤ start.passes + most ((s.lines ++ passed) ++ z ∷ rest))
          (sym same)
          (count_past now.passes passes (passing new.lines (new.text ∷ rest)) start.passes
          (most ((s.lines ++ passed) ++ new.text ∷ rest)) (line_counted rest) (few rest))))
          (stopped_all start.left left new.feed (s.lines ++ passed) new.lines (λ t. t ≡ new.text) stops Holds goes)
          (stopped_by start.left left new.feed (s.lines ++ passed) new.lines (λ t. t ≡ new.text) stops Holds goes)
        where
          Holds : List (List ℕ) → Type 0
          Holds ls = (r : Reply) × Replies ls (in_front_of (s.text ++ text) r)

          goes : (t : List ℕ) (rest : List (List ℕ)) → t ≡ new.text → Holds ((s.lines ++ passed) ++ t ∷ rest)
          goes t rest same =
              let r : (r : Reply) × Rest new.lines (new.text ∷ rest) (in_front_of text r) = begins rest in
              subst (λ (z : List ℕ). Holds ((s.lines ++ passed) ++ z ∷ rest)) (sym same) (
                r.0,
                in_front_twice ((s.lines ++ passed) ++ new.text ∷ rest) s.text text r.0
                    (line_replied (in_front_of text r.0) rest r.1),
              )

      -- a line wanted memory, behind this part of what it gives
      pub line_told : (held : Option (List ℕ)) (part : List ℕ) → Grew now.held held part
          → ToldBefore replies closes start.left left start.held held status.Memory
      line_told held part grew =
          let so : LinesSoFar start.left left new ((s.lines ++ passed) ++ new.text ∷ []) =
          found_lines start.left now.left left old new s.lines s.so_far reads in (
            so.front ++ new.feed.pending,
            so.taken.took,
            line_near start.left left new (s.lines ++ passed) (new.text ∷ []) so (omega arith)
                (λ ls. ToldMore replies closes start.held held ls)
                (told_more passed reads.finds.0.each held part grew),
          )

      -- a line gave its text, and the reply goes on
      pub goes_on : (Next : ℕ → List (List ℕ) → Reply → Type 0) (passing' : ℕ → List (List ℕ) → ℕ) (passes : ℕ)
          (held : Option (List ℕ)) (text : List ℕ) → GoesOn Rest Next new.lines new.text text
          → ((texts : List (List ℕ)) → passes + passing' (new.lines + 1) texts
          ≤ now.passes + passing new.lines (new.text ∷ texts)) → Grew now.held held text
          → LinesStanding Replies most Next passing' start (record { left = left; held = held; passes = passes }) new
      goes_on Next passing' passes held text gives few grew =
          record {
            lines = (s.lines ++ passed) ++ new.text ∷ [];
            so_far = found_lines start.left now.left left old new s.lines s.so_far reads;
            text = s.text ++ text;
            read = λ texts r replied.
                in_front_twice (((s.lines ++ passed) ++ new.text ∷ []) ++ texts) s.text text r
                (subst (λ (ls : List (List ℕ)). Replies ls (in_front_of s.text (in_front_of text r)))
                (sym (append_assoc (s.lines ++ passed) (new.text ∷ []) texts))
                (line_replied (in_front_of text r) texts (gives texts r replied)));
            wrote = Grew-append start.held now.held held s.text text s.wrote grew;
            counted = λ texts.
                subst (λ (ls : List (List ℕ)). passes + passing' (new.lines + 1) texts ≤ start.passes + most ls)
                (sym (append_assoc (s.lines ++ passed) (new.text ∷ []) texts))
                (count_next now.passes passes (passing new.lines (new.text ∷ texts)) (passing' (new.lines + 1) texts)
                start.passes (most ((s.lines ++ passed) ++ new.text ∷ texts)) (line_counted texts) (few texts));
          }

    -- the whole reply of a line that ends the command was written
    pub ends_answered : (passes : ℕ) (left held : Option (List ℕ)) (number : ℕ) (r : Reply)
        (e : Ending Replies most start passes left number (in_front_of s.text r)) → Grew now.held held r.text
        → Answered replies most_of start (record { left = left; held = held; passes = passes }) e.input
        (in_front_of s.text r)
    ends_answered passes left held number r e grew =
        record {
          took = e.took;
          replied = e.replied;
          wrote = Grew-append start.held now.held held s.text r.text s.wrote grew;
          counted = e.counted;
        }

    -- it could not be written whole
    pub cut_refused : (passes : ℕ) (left held : Option (List ℕ)) (number : ℕ) (r : Reply)
        → Ending Replies most start passes left number (in_front_of s.text r) → GrewPartly now.held held r.text
        → Outcome replies most_of true start (record { left = left; held = held; passes = passes }) status.WriteFault
    cut_refused passes left held number r e grew = (
      e.input,
      cut_settled replies most_of start passes left held number e.input (s.text ++ grew.0) e.took
          (Grew-append start.held now.held held s.text grew.0 s.wrote grew.3)
          (settled_few (λ bytes. replies bytes (in_front_of s.text r)) left number e.input e.settled) e.counted
          (part e.input e.replied)
          (settled_as (λ bytes. replies bytes (in_front_of s.text r))
          (λ bytes. (r : Reply) × replies bytes (in_front_of (s.text ++ grew.0) r)) left number e.input part e.settled),
    )
      where
        part : (input : List ℕ) → replies input (in_front_of s.text r)
            → (r : Reply) × replies input (in_front_of (s.text ++ grew.0) r)
        part input replied = (
          record { text = grew.1; status = r.status },
          subst (λ (t : List ℕ). replies input (record { text = t; status = r.status }))
              (ap (λ t. s.text ++ t) (sym grew.2) ∙ sym (append_assoc s.text grew.0 grew.1)) replied,
        )

    module _ (new : Reading) (left : Option (List ℕ)) where
      -- what was taken where no line was found
      abbrev pub taken_all : List ℕ → List ℕ
      taken_all taken = taken_input start.left now.left left old new s.lines s.so_far taken

      -- the reply to an input that was read to its end
      pub end_replied : (r : Reply) (reads : ReadsLine old new now.left left (Ok false))
          → Rest (old.lines + 1 + length reads.finds.0.passed) [] r
          → replies (taken_all reads.taken) (in_front_of s.text r)
      end_replied r reads ends =
          let passed : List (List ℕ) = reads.finds.0.passed in
          let same : lines_of (taken_all reads.taken) ≡ (s.lines ++ passed) ++ [] =
          ended_lines start.left now.left left old new s.lines s.so_far reads ∙ sym (append-nil (s.lines ++ passed)) in
          subst (λ (ls : List (List ℕ)). Replies ls (in_front_of s.text r)) (sym same)
          (behind_replied passed (old.lines + 1 + length passed) reads.finds.0.each refl [] r ends)

      -- the count where all that was taken is read
      pub all_counted : (taken : List ℕ) → Draws old.feed new.feed now.left left taken
          → now.passes ≤ start.passes + most_of (taken_all taken)
      all_counted taken draws =
          let more : List ℕ = old.feed.pending ++ taken in
          subst (λ (ls : List (List ℕ)). now.passes ≤ start.passes + most ls)
          (sym (s.so_far.split more
          (at_hand start.left now.left old new left s.so_far.front taken s.so_far.taken draws).follows))
          (count_here now.passes (passing (old.lines + 1) (lines_of more)) start.passes
          (most (s.lines ++ lines_of more)) (s.counted (lines_of more)))

      -- what was written so far, where nothing more is
      pub cut_here : (taken : List ℕ) → Draws old.feed new.feed now.left left taken
          → length (taken_all taken) ≤ most_bytes + most_at_once
          → CutShort replies most_of start (record now { left = left }) (taken_all taken)
      cut_here taken draws few =
          record {
            took = taken_took start.left now.left left old new s.lines s.so_far taken draws;
            within = few;
            front = s.so_far.front;
            rest = old.feed.pending ++ taken;
            split = refl;
            text = s.text;
            wrote = s.wrote;
            begins = by_end old.feed.ended refl;
            counted = all_counted taken draws;
          }
        where
          by_end : (b : Bool) → old.feed.ended ≡ b
              → ((more : List ℕ) → (r : Reply) × replies (s.so_far.front ++ more) (in_front_of s.text r))
              ⊎ (IsAtEnd left × ((r : Reply) × replies (taken_all taken) (in_front_of s.text r)))
          by_end false open_ended =
              inl (λ more. begun more (λ ended. absurd (false≢true (sym open_ended ∙ ended))))
          by_end true ended =
              inr (
                at_end start.left now.left old new left s.so_far.front taken s.so_far.taken draws (draws.stays ended),
                begun (old.feed.pending ++ taken)
                    (at_hand start.left now.left old new left s.so_far.front taken s.so_far.taken draws).follows,
              )

      -- the input is too long
      pub too_long : ReadsLine old new now.left left (Err fault.TooLong)
          → Outcome replies most_of true start (record now { left = left }) status.TooLong
      too_long reads =
          let here : Closed (s.lines ++ reads.finds.passed) = closed reads.finds.passed reads.finds.each in
          let over : RunsOver (IsUnrefused replies) (taken_all reads.taken) =
          over_lines start.left now.left left old new s.lines s.so_far
          (λ ls. (r : Reply) × Replies ls r × (r.status ≡ status.Done)) reads
          (in_front_of s.text here.0, here.1, here.2) in (
            taken_all reads.taken,
            cut_here reads.taken reads.draws (over_most _ (taken_all reads.taken) over),
            over,
          )

      -- the end of the input wanted memory
      pub end_told : ReadsLine old new now.left left (Ok false)
          → ToldBefore replies closes start.left left start.held now.held status.Memory
      end_told reads =
          let passed : List (List ℕ) = reads.finds.0.passed in (
            taken_all reads.taken,
            taken_took start.left now.left left old new s.lines s.so_far reads.taken reads.draws,
            whole_near left (taken_all reads.taken) (s.lines ++ passed)
                (ended_lines start.left now.left left old new s.lines s.so_far reads)
                (ended_whole start.left now.left left old new s.lines s.so_far reads)
                (λ ls. ToldMore replies closes start.held now.held ls)
                (told_more passed reads.finds.0.each now.held [] (Grew-nothing now.held)),
          )

      -- the source couldn't be read
      pub unread_told : ReadsLine old new now.left left (Err fault.ReadFault)
          → ToldBefore replies closes start.left left start.held now.held status.ReadFault
      unread_told reads = (
        taken_all reads.taken,
        taken_took start.left now.left left old new s.lines s.so_far reads.taken reads.draws,
        within_as (λ bytes. Closed (lines_of bytes)) (λ bytes. ToldAll replies closes start.held now.held bytes)
            (taken_all reads.taken)
            (λ bytes here. record {
              text = s.text;
              wrote = s.wrote;
              closing = here.0;
              replied = here.1;
              done = here.2;
              closes = here.3;
            })
            (part_lines start.left now.left left old new s.lines s.so_far Closed reads
            (closed reads.finds.passed reads.finds.each)),
      )
