-- What a turn of the loop over lines comes to, by what the command does with a line and at the end.
use Rattle.std.specs.Prelude.{◌≡◌, ℕ, ◌+◌, ◌<◌, ◌≤◌, true, false, List, [], Option, Some, None, Ok, MatchOption, length}
use Rattle.std.proofs.Common.{◌∙◌, arith, refl, subst, sym, inl, inr}
use Rattle.call_io.proofs.BytesLemmas.{Grew-nothing}
use Rattle.line_input.proofs.LinesSoFar.{lines_counted, lines_first}
use Rattle.line_input.specs.Lines.{Numbered, most_bytes}
use Rattle.line_input.specs.Reading.{Reading, ReadsLine, first_reading}
use Rattle.command_base.specs.LineCommands.{IsLined, IsQuietLine, IsQuietTurn, TakesLine, EndsInput, EndsLine}
use Rattle.command_base.specs.declared.status.Status.{Status}
use Rattle.command_base.specs.declared.status.Status.TheVariants as status
use Rattle.command_base.specs.Outcome.{Streams, ReadCause}
use Rattle.command_base.specs.Refusals.{Reply}
use Rattle.command_base.specs.inner.ReadEnds.{EndsReading, FailsWith, by_line, in_front}
use Rattle.line_input.specs.declared.fault.LineFault.{LineFault}
use Rattle.line_input.specs.declared.fault.LineFault.TheVariants as fault
use Rattle.command_base.specs.inner.Standing.{CommandStanding, EndsWith, TurnsTo}
use Rattle.command_base.proofs.LinesEnded as endings
use Rattle.command_base.proofs.LinesRead as lines

module _ {Seen : Type 0} (Rest : Seen → ℕ → List (List ℕ) → Reply → Type 0) (most : Seen → ℕ → List (List ℕ) → ℕ)
    (first : Seen) (closes : List ℕ → Type 0) where
  -- the command stands at its beginning
  pub stands_first : (Stands : ℕ → Seen → Type 0) (start : Streams) → Stands 0 first
      → CommandStanding Rest most first Stands start start first_reading
  stands_first Stands start stands =
      record {
        seen = first;
        stands = stands;
        lines =
            record {
              lines = [];
              so_far = lines_first start.left;
              text = [];
              read = λ texts r replied. replied;
              wrote = Grew-nothing start.held;
              counted = λ texts. omega arith;
            };
      }

  -- a line was read, with all as it was written, and the command took it
  pub found : (Stands Stands' : ℕ → Seen → Type 0)
      → ((before : ℕ) (seen : Seen) → Stands before seen → IsLined (Rest seen) (most seen) closes)
      → (start now : Streams) (passes : ℕ) (old new : Reading) (line : Numbered) (left between held : Option (List ℕ))
      → between ≡ now.held → line ≡ record { number = new.lines; text = new.text }
      → ReadsLine old new now.left left (Ok true) → (answer : Option Status)
      → ((before : ℕ) (seen : Seen) → Stands before seen → before < line.number
      → TakesLine Rest most (Stands' line.number) seen line.number line.text now.passes passes between held answer)
      → CommandStanding Rest most first Stands start now old
      → TurnsTo Rest most first closes Stands' start (record { left = left; held = held; passes = passes }) old new answer
  found Stands Stands' lined start now passes old new line left between held same line_is reads answer takes s =
      by_answer answer
      (subst (λ (h : Option (List ℕ)).
      TakesLine Rest most (Stands' new.lines) s.seen new.lines new.text now.passes passes h held answer) same
      (subst (λ (l : Numbered).
      TakesLine Rest most (Stands' l.number) s.seen l.number l.text now.passes passes between held answer) line_is
      (takes old.lines s.seen s.stands
      (subst (λ (l : Numbered). old.lines < l.number) (sym line_is) (counted.0)))))
    where
      is_lined : IsLined (Rest s.seen) (most s.seen) closes
      is_lined = lined old.lines s.seen s.stands

      counted : (old.lines < new.lines) × (new.lines ≤ most_bytes)
      counted = lines_counted start.left now.left left old new s.lines.lines s.lines.so_far reads

      by_answer : (answer : Option Status)
          → TakesLine Rest most (Stands' new.lines) s.seen new.lines new.text now.passes passes now.held held answer
          → TurnsTo Rest most first closes Stands' start (record { left = left; held = held; passes = passes }) old new answer
      by_answer None t = (
        record {
          seen = t.next;
          stands = t.stands;
          lines =
              lines.goes_on (Rest first 1) (most first 1) (Rest s.seen) (most s.seen) closes is_lined start now old s.lines new
              left reads (Rest t.next) (most t.next) passes held t.text t.goes t.counted t.wrote;
        },
        counted.0,
        counted.1,
      )
      by_answer (Some answer) t = (
        endings.ends_line (Rest first 1) (most first 1) (Rest s.seen) (most s.seen) closes is_lined start now old s.lines
            passes new left held reads answer t.0 t.1,
        endings.told_line (Rest first 1) (most first 1) (Rest s.seen) (most s.seen) closes is_lined start now old s.lines
            new left held reads answer t.0,
      )

  -- the end of the input was read, with all as it was written, and the command ended there
  pub finished : (Stands : ℕ → Seen → Type 0)
      → ((before : ℕ) (seen : Seen) → Stands before seen → IsLined (Rest seen) (most seen) closes)
      → (start now : Streams) (old new : Reading) (left between held : Option (List ℕ)) → between ≡ now.held
      → ReadsLine old new now.left left (Ok false) → (answer : Status)
      → ((before : ℕ) (seen : Seen) → Stands before seen → (number : ℕ)
      → EndsInput (Rest seen) number between held answer)
      → CommandStanding Rest most first Stands start now old
      → EndsWith Rest most first closes start (record now { left = left; held = held }) answer
  finished Stands lined start now old new left between held same reads answer ends s = (
    endings.ended (Rest first 1) (most first 1) (Rest s.seen) (most s.seen) closes (lined old.lines s.seen s.stands)
        start now old s.lines new left held reads answer e,
    endings.told_input (Rest first 1) (most first 1) (Rest s.seen) (most s.seen) closes
        (lined old.lines s.seen s.stands) start now old s.lines new left held reads n answer e,
  )
    where
      n : ℕ
      n = old.lines + 1 + length reads.finds.0.passed

      e : EndsInput (Rest s.seen) n now.held held answer
      e =
          subst (λ (h : Option (List ℕ)). EndsInput (Rest s.seen) n h held answer) same
          (ends old.lines s.seen s.stands n)

  -- a line that wasn't read ends the command
  pub unread : (Stands : ℕ → Seen → Type 0)
      → ((before : ℕ) (seen : Seen) → Stands before seen → IsLined (Rest seen) (most seen) closes)
      → (start now : Streams) (old new : Reading) (left held : Option (List ℕ)) (answer : Status)
      → EndsReading old new now.left left now.held held answer → CommandStanding Rest most first Stands start now old
      → EndsWith Rest most first closes start (record now { left = left; held = held }) answer
  unread Stands lined start now old new left held answer ends s = (
    endings.unread (Rest first 1) (most first 1) (Rest s.seen) (most s.seen) closes (lined old.lines s.seen s.stands)
        start now old s.lines new left held answer ends,
    endings.told_unread (Rest first 1) (most first 1) (Rest s.seen) (most s.seen) closes
        (lined old.lines s.seen s.stands) start now old s.lines new left held answer ends,
  )

  -- no read fails where a line was taken
  pub line_reads : (Stands : Seen → Type 0) (seen : Seen) (number : ℕ) (line : List ℕ) (passes passes' : ℕ)
      (held held' : Option (List ℕ)) (old new : ℕ) → new ≡ old → (answer : Option Status)
      → TakesLine Rest most Stands seen number line passes passes' held held' answer
      → MatchOption answer (new ≡ old) (λ a. ReadCause a old new)
  line_reads Stands seen number line passes passes' held held' old new same None t = same
  line_reads Stands seen number line passes passes' held held' old new same (Some (status.Refused why)) t = same
  line_reads Stands seen number line passes passes' held held' old new same (Some (status.Broken place rule)) t = same
  line_reads Stands seen number line passes passes' held held' old new same (Some status.WriteFault) t = same
  line_reads Stands seen number line passes passes' held held' old new same (Some status.Memory) t = same
  line_reads Stands seen number line passes passes' held held' old new same (Some status.Done) t = same
  line_reads Stands seen number line passes passes' held held' old new same (Some status.Usage) t = same
  line_reads Stands seen number line passes passes' held held' old new same (Some status.TooLong) t = same
  line_reads Stands seen number line passes passes' held held' old new same (Some status.ReadFault) t = absurd t.0

  -- nor at the end
  pub end_reads : (seen : Seen) (number : ℕ) (held held' : Option (List ℕ)) (old new : ℕ) → new ≡ old
      → (answer : Status) → EndsInput (Rest seen) number held held' answer → ReadCause answer old new
  end_reads seen number held held' old new same (status.Refused why) e = same
  end_reads seen number held held' old new same (status.Broken place rule) e = same
  end_reads seen number held held' old new same status.WriteFault e = same
  end_reads seen number held held' old new same status.Memory e = same
  end_reads seen number held held' old new same status.Done e = same
  end_reads seen number held held' old new same status.Usage e = same
  end_reads seen number held held' old new same status.TooLong e = same
  end_reads seen number held held' old new same status.ReadFault e = absurd e

  -- a line that was taken, or not for want of memory, was taken in silence
  pub line_silent : (Stands : Seen → Type 0) (seen : Seen) (number : ℕ) (line : List ℕ) (passes passes' : ℕ)
      (held between held' : Option (List ℕ)) → between ≡ held → (answer : Option Status)
      → TakesLine Rest most Stands seen number line passes passes' between held' answer
      → (IsQuietLine answer → held' ≡ between) → IsQuietTurn answer → held' ≡ held
  line_silent Stands seen number line passes passes' held between held' same None t silent quiet = silent tt ∙ same
  line_silent Stands seen number line passes passes' held between held' same (Some status.Memory) t silent quiet =
      silent tt ∙ same
  line_silent Stands seen number line passes passes' held between held' same (Some status.ReadFault) t silent quiet =
      absurd t.0
  line_silent Stands seen number line passes passes' held between held' same (Some status.TooLong) t silent quiet =
      absurd t.0
  line_silent Stands seen number line passes passes' held between held' same (Some (status.Refused why)) t silent q =
      absurd q
  line_silent Stands seen number line passes passes' held between held' same (Some (status.Broken p r)) t silent q =
      absurd q
  line_silent Stands seen number line passes passes' held between held' same (Some status.Done) t silent q = absurd q
  line_silent Stands seen number line passes passes' held between held' same (Some status.Usage) t silent q = absurd q
  line_silent Stands seen number line passes passes' held between held' same (Some status.WriteFault) t silent q =
      absurd q

  -- so is the end
  pub end_silent : (seen : Seen) (number : ℕ) (held between held' : Option (List ℕ)) → between ≡ held
      → (answer : Status) → EndsInput (Rest seen) number between held' answer → IsQuietTurn (Some answer)
      → held' ≡ held
  end_silent seen number held between held' same status.Memory e quiet = e ∙ same
  end_silent seen number held between held' same status.ReadFault e quiet = absurd e
  end_silent seen number held between held' same status.TooLong e quiet = absurd e
  end_silent seen number held between held' same (status.Refused why) e quiet = absurd quiet
  end_silent seen number held between held' same (status.Broken p r) e quiet = absurd quiet
  end_silent seen number held between held' same status.Done e quiet = absurd quiet
  end_silent seen number held between held' same status.Usage e quiet = absurd quiet
  end_silent seen number held between held' same status.WriteFault e quiet = absurd quiet

-- and a line that wasn't read
pub unread_silent : (old new : Reading) (left left' held held' : Option (List ℕ)) (answer : Status)
    → EndsReading old new left left' held held' answer → IsQuietTurn (Some answer) → held' ≡ held
unread_silent old new left left' held held' answer (by_line (fault.Bad bad) reads (inl h)) quiet =
    absurd (subst (λ (a : Status). IsQuietTurn (Some a)) h.0 quiet)
unread_silent old new left left' held held' answer (by_line (fault.Bad bad) reads (inr h)) quiet =
    absurd (subst (λ (a : Status). IsQuietTurn (Some a)) h.0 quiet)
unread_silent old new left left' held held' answer (by_line fault.ReadFault reads fails) quiet = fails.1
unread_silent old new left left' held held' answer (by_line fault.TooLong reads fails) quiet = fails.1
unread_silent old new left left' held held' answer (in_front is left_is held_is) quiet = held_is

-- a line that is found stands behind those before it
pub found_less : (old new : Reading) (line : Numbered) (left left' : Option (List ℕ))
    → line ≡ record { number = new.lines; text = new.text } → ReadsLine old new left left' (Ok true)
    → old.lines < line.number
found_less old new line left left' line_is reads =
    let less : old.lines < new.lines = omega (arith, reads.finds.0.last) in
    subst (λ (l : Numbered). old.lines < l.number) (sym line_is) less

-- no command ends so at a line, nor at the end
line_reads_on : (Rest : ℕ → List (List ℕ) → Reply → Type 0) (number : ℕ) (line : List ℕ)
    (held held' : Option (List ℕ)) (answer : Status) → EndsLine Rest number line held held' answer
    → answer ≡ status.ReadFault → ⊥
line_reads_on Rest number line held held' status.ReadFault e is = e
line_reads_on Rest number line held held' (status.Refused why) e is = cc
line_reads_on Rest number line held held' (status.Broken place rule) e is = cc
line_reads_on Rest number line held held' status.WriteFault e is = cc
line_reads_on Rest number line held held' status.Memory e is = cc
line_reads_on Rest number line held held' status.Done e is = cc
line_reads_on Rest number line held held' status.Usage e is = cc
line_reads_on Rest number line held held' status.TooLong e is = cc

pub taken_on : {Seen : Type 0} (Rest : Seen → ℕ → List (List ℕ) → Reply → Type 0)
    (most : Seen → ℕ → List (List ℕ) → ℕ) (Stands : Seen → Type 0) (seen : Seen) (number : ℕ) (line : List ℕ)
    (passes passes' : ℕ) (held held' : Option (List ℕ)) (answer : Option Status)
    → TakesLine Rest most Stands seen number line passes passes' held held' answer
    → answer ≡ Some status.ReadFault → ⊥
taken_on Rest most Stands seen number line passes passes' held held' None t is = cc
taken_on Rest most Stands seen number line passes passes' held held' (Some answer) t is =
    line_reads_on (Rest seen) number line held held' answer t.0 (cc is)

pub end_reads_on : (Rest : ℕ → List (List ℕ) → Reply → Type 0) (number : ℕ) (held held' : Option (List ℕ))
    (answer : Status) → EndsInput Rest number held held' answer → answer ≡ status.ReadFault → ⊥
end_reads_on Rest number held held' status.ReadFault e is = e
end_reads_on Rest number held held' (status.Refused why) e is = cc
end_reads_on Rest number held held' (status.Broken place rule) e is = cc
end_reads_on Rest number held held' status.WriteFault e is = cc
end_reads_on Rest number held held' status.Memory e is = cc
end_reads_on Rest number held held' status.Done e is = cc
end_reads_on Rest number held held' status.Usage e is = cc
end_reads_on Rest number held held' status.TooLong e is = cc

-- where nothing more is written behind a line that couldn't be read, a read failed
pub fails_reading : (f : LineFault) (held held' : Option (List ℕ)) (answer : Status) → FailsWith f held held' answer
    → answer ≡ status.ReadFault → f ≡ fault.ReadFault
fails_reading fault.ReadFault held held' answer h is = refl
fails_reading (fault.Bad bad) held held' answer (inl h) is = absurd (let both = sym h.0 ∙ is in cc)
fails_reading (fault.Bad bad) held held' answer (inr h) is = absurd (let both = sym h.0 ∙ is in cc)
fails_reading fault.TooLong held held' answer h is = absurd (let both = sym h.0 ∙ is in cc)
