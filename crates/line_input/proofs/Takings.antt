-- What one more line takes of the source of a reader of lines.
use Rattle.std.specs.Prelude.{◌≡◌, ℕ, ◌+◌, ◌<◌, ◌≤◌, ◌⊎◌, Bool, true, false, List, [], ◌∷◌, ◌++◌, length, Option, Some, None, Ok}
use Rattle.std.specs.Io.KnownBytes.{IsAtEnd}
use Rattle.std.proofs.Common.{sym, ◌∙◌, ap, refl, subst, append_assoc, inl, inr, arith, length-append}
use Rattle.std.proofs.lemmas.List.{append-nil}
use Rattle.std.proofs.lemmas.Bool.{false≢true}
use Rattle.call_io.specs.Bytes.{Took}
use Rattle.call_io.proofs.BytesLemmas.{Took-append, Took-nothing}
use Rattle.line_input.specs.Feed.{Draws, IsDone}
use Rattle.line_input.specs.Reading.{Reading, MayFollow, first_reading, FindsLine, FindsEnd, FindsTooMany, ReadsLine}
use Rattle.line_input.specs.Lines.{AreWholeLines, IsWhole, lines_of, most_bytes}
use Rattle.line_input.specs.Taken.{TakenSoFar}
use Rattle.line_input.proofs.WholeLines.{whole_lines, whole_append}

-- nothing was taken yet
pub taken_first : (start : Option (List ℕ)) → TakenSoFar start start first_reading []
taken_first start =
    record {
      took = Took-nothing start;
      given = refl;
      within = omega arith;
      near = omega arith;
      alive = refl;
      done = λ e. refl;
      «end» = λ e. absurd (false≢true e);
      lines = λ e. inl refl;
    }

-- Where nothing may follow what is at hand, it is nothing itself.
pub record AtHand (old new : Reading) (bytes : List ℕ) : Type 0 where
  pub follows : MayFollow old.feed bytes
  pub stays : old.feed.ended ≡ true → new.feed.ended ≡ true

pub at_hand : (start now : Option (List ℕ)) (old new : Reading) (left : Option (List ℕ)) (front taken : List ℕ)
    → TakenSoFar start now old front → Draws old.feed new.feed now left taken
    → AtHand old new (old.feed.pending ++ taken)
at_hand start now old new left front taken s draws =
    record {
      follows = λ ended. rw (s.done ended, draws.idle ended) refl;
      stays = draws.stays;
    }

pub front_follows : (old new : Reading) (bytes front more : List ℕ) → AtHand old new bytes
    → bytes ≡ front ++ new.feed.pending → MayFollow new.feed more → MayFollow old.feed (front ++ more)
front_follows old new bytes front more hand whole follows ended =
    let none : bytes ≡ [] = hand.follows ended in
    rw (front_nil front new.feed.pending (sym whole ∙ none)) (follows (hand.stays ended))
  where
    front_nil : (front rest : List ℕ) → front ++ rest ≡ [] → front ≡ []
    front_nil [] rest h = refl
    front_nil (b ∷ front) rest h = absurd (cc)

-- where a byte follows, there are bytes
some_bytes : (front unended rest : List ℕ) → 0 < length rest → front ++ (unended ++ rest) ≡ [] → ⊥
some_bytes [] [] [] h e = absurd (omega arith)
some_bytes [] [] (b ∷ rest) h e = cc
some_bytes [] (b ∷ unended) rest h e = cc
some_bytes (b ∷ front) unended rest h e = cc

-- where more bytes were taken than an input may have, the source had not ended before
pub too_many_follow : (old new : Reading) (bytes : List ℕ) → AtHand old new bytes → (f : FindsTooMany old bytes)
    → MayFollow old.feed (f.front ++ [])
too_many_follow old new bytes hand f ended =
    absurd (some_bytes f.front f.«open» f.rest f.beyond (sym f.split ∙ hand.follows ended))

pub taken_whole : (start now : Option (List ℕ)) (old new : Reading) (left : Option (List ℕ)) (front taken : List ℕ)
    → TakenSoFar start now old front → Draws old.feed new.feed now left taken
    → Took start left (front ++ (old.feed.pending ++ taken))
taken_whole start now old new left front taken s draws =
    let P : List ℕ → Type 0 = λ z. Took start left z in
    subst P (append_assoc front old.feed.pending taken)
    (Took-append start now left (front ++ old.feed.pending) taken s.took draws.took)

-- where the source said that nothing is left, nothing is left
pub at_end : (start now : Option (List ℕ)) (old new : Reading) (left : Option (List ℕ)) (front taken : List ℕ)
    → TakenSoFar start now old front → Draws old.feed new.feed now left taken → new.feed.ended ≡ true
    → IsAtEnd left
at_end start now old new left front taken s draws ended = by_end (draws.«end» ended)
  where
    same_left : (a b : Option (List ℕ)) → Took a b [] → a ≡ b
    same_left a None h = h
    same_left a (Some xs) h = h

    by_end : (old.feed.ended ≡ true) ⊎ IsAtEnd left → IsAtEnd left
    by_end (inr h) = h
    by_end (inl h) =
        let P : List ℕ → Type 0 = λ z. Took now left z in
        subst IsAtEnd (same_left now left (subst P (draws.idle h) draws.took)) (s.«end» h)

-- the lines that were given have no more bytes than an input may have
pub front_within : (start now : Option (List ℕ)) (old new : Reading) (front piece : List ℕ) →
    TakenSoFar start now old front
    → new.feed.given ≡ old.feed.given + length piece → new.feed.given ≤ most_bytes
    → length (front ++ piece) ≤ most_bytes
front_within start now old new front piece s given limit = simp length-append (omega (arith, s.given, given, limit))

-- an input that was read to its end is whole
pub whole_end : (start now : Option (List ℕ)) (old new : Reading) (left : Option (List ℕ)) (front taken : List ℕ)
    → TakenSoFar start now old front → Draws old.feed new.feed now left taken → new.feed.given ≤ most_bytes
    → FindsEnd old new (old.feed.pending ++ taken) → IsWhole left (front ++ (old.feed.pending ++ taken))
whole_end start now old new left front taken s draws limit f =
    record {
      «end» = at_end start now old new left front taken s draws f.ended;
      within = front_within start now old new front (old.feed.pending ++ taken) s f.given limit;
    }

-- so is one whose last line, which ended with it, was refused
pub whole_last : (start now : Option (List ℕ)) (old new : Reading) (left : Option (List ℕ)) (front piece taken : List ℕ)
    → TakenSoFar start now old front → Draws old.feed new.feed now left taken → IsDone new.feed
    → length piece ≤ most_bytes → front ++ (old.feed.pending ++ taken) ≡ piece ++ new.feed.pending
    → new.feed.ended ≡ true → IsWhole left (front ++ (old.feed.pending ++ taken))
whole_last start now old new left front piece taken s draws done within split ended =
    record {
      «end» = at_end start now old new left front taken s draws ended;
      within =
          subst (λ (z : List ℕ). length z ≤ most_bytes)
          (sym (split ∙ (ap (λ rest. piece ++ rest) (done ended) ∙ append-nil piece))) within;
    }

pub front_whole : (front bytes piece pending : List ℕ) → bytes ≡ piece ++ pending
    → front ++ bytes ≡ (front ++ piece) ++ pending
front_whole front bytes piece pending h = ap (λ b. front ++ b) h ∙ sym (append_assoc front piece pending)

-- a source that didn't end had not ended before
pub still_open : (old new : Reading) → (old.feed.ended ≡ true → new.feed.ended ≡ true) → new.feed.ended ≡ false
    → old.feed.ended ≡ false
still_open old new stays open_ended = by_end old.feed.ended refl
  where
    by_end : (b : Bool) → old.feed.ended ≡ b → old.feed.ended ≡ false
    by_end false e = e
    by_end true e = absurd (false≢true (sym open_ended ∙ stays e))

-- the lines up to one that is found are whole, where the source didn't end
pub line_whole : (old new : Reading) (bytes : List ℕ) → (f : FindsLine old new bytes) → new.feed.ended ≡ false
    → AreWholeLines f.front
line_whole old new bytes f open_ended =
    whole_lines f.front (f.passed ++ new.text ∷ [])
    (λ more. f.lines more (λ ended. absurd (false≢true (sym open_ended ∙ ended))) ∙ sym
    (append_assoc f.passed (new.text ∷ []) (lines_of more)))

-- the lines in front of a byte that is one too many are whole
pub too_many_whole : (start now : Option (List ℕ)) (old new : Reading) (left : Option (List ℕ)) (front taken : List ℕ)
    → TakenSoFar start now old front → (draws : Draws old.feed new.feed now left taken)
    → (f : FindsTooMany old (old.feed.pending ++ taken)) → AreWholeLines (front ++ f.front)
too_many_whole start now old new left front taken s draws f =
    whole_append front f.front (s.lines (by_end old.feed.ended refl)) (whole_lines f.front f.passed f.lines)
  where
    by_end : (b : Bool) → old.feed.ended ≡ b → old.feed.ended ≡ false
    by_end false e = e
    by_end true e =
        absurd (some_bytes f.front f.«open» f.rest f.beyond
        (sym f.split ∙ (at_hand start now old new left front taken s draws).follows e))

-- a line more was given
pub taken_behind : (start now : Option (List ℕ)) (old new : Reading) (left : Option (List ℕ)) (front : List ℕ) →
    TakenSoFar start now old front → (reads : ReadsLine old new now left (Ok true))
    → TakenSoFar start left new (front ++ reads.finds.0.front)
taken_behind start now old new left front s reads =
    let f : FindsLine old new (old.feed.pending ++ reads.taken) = reads.finds.0 in
    record {
      took =
          let P : List ℕ → Type 0 = λ z. Took start left z in
          subst P (front_whole front (old.feed.pending ++ reads.taken) f.front new.feed.pending f.split)
          (taken_whole start now old new left front reads.taken s reads.draws);
      given = simp length-append (omega (arith, s.given, f.given));
      within = front_within start now old new front f.front s f.given reads.limit;
      near = reads.near;
      alive = reads.finds.1;
      done = reads.done;
      «end» = λ e. at_end start now old new left front reads.taken s reads.draws e;
      lines =
          λ open_ended. whole_append front f.front (s.lines (still_open old new reads.draws.stays open_ended))
          (line_whole old new (old.feed.pending ++ reads.taken) f open_ended);
    }
