-- What stands written of a trace wherever writing ended: the whole lines of a safe trace, and less than a line.
use Rattle.std.specs.Prelude.{◌≡◌, ℕ, ◌<◌, Bool, List, [], ◌∷◌, ◌++◌, Option, Some, None, length, drop, get_or}
use Rattle.std.specs.Io.KnownBytes.{append_known}
use Rattle.std.proofs.Common.{sym, ◌∙◌, ap, refl, subst, append_assoc, inl, inr, arith}
use Rattle.std.proofs.lemmas.List.{append-nil, append_cancel_left}
use Rattle.call_io.specs.Bytes.{Grew, GrewPartly}
use Rattle.trace_text.specs.EntryLine.{line_of, text_of}
use Rattle.trace_model.specs.Safety.{Safe}
use Rattle.trace_text.specs.Script.{script_of}
use Rattle.trace_model.specs.Tallies.{last_tick}
use Rattle.trace_model.specs.declared.entry.Entry.{Entry}
use Rattle.line_input.specs.declared.reason.BadLine.{BadLine}
use Rattle.trace_model.proofs.Fronts.{nothing_safe, safe_front}
use Rattle.script_commands.specs.CutTraces.{AreSafeLines, IsSafelyCut}
use Rattle.command_base.specs.Outcome.{CutShort, Outcome, Streams}
use Rattle.command_base.specs.Refusals.{Reply, refusal_line}
use Rattle.script_stage.specs.ScriptTrace.{ended, script_tick, script_trace}
use Rattle.script_commands.specs.Run.{run_reply}
use Rattle.command_base.specs.declared.refusal.Refused.TheVariants as refused
use Rattle.command_base.specs.declared.status.Status.{Status}
use Rattle.command_base.specs.declared.status.Status.TheVariants as status
use Rattle.command_base.proofs.LineEnds.{cut_partly}
use Rattle.script_stage.proofs.SafeTraces.{script_safe}

-- Of two ways to cut a list, one cuts further behind.
data CutTwice (a b c d : List ℕ) : Type 0 where
  further : (e : List ℕ) → c ≡ a ++ e → b ≡ e ++ d → CutTwice a b c d
  nearer : (e : List ℕ) → 0 < length e → a ≡ c ++ e → CutTwice a b c d

cut_twice : (a b c d : List ℕ) → a ++ b ≡ c ++ d → CutTwice a b c d
cut_twice [] b c d h = further c refl h
cut_twice (x ∷ a) b [] d h = nearer (x ∷ a) (omega arith) refl
cut_twice (x ∷ a) b (y ∷ c) d h = behind (ap (λ l. get_or l 0 0) h) (cut_twice a b c d (ap (λ l. drop 1 l) h))
  where
    behind : x ≡ y → CutTwice a b c d → CutTwice (x ∷ a) b (y ∷ c) d
    behind same (further e p q) = further e (ap (λ z. z ∷ c) (sym same) ∙ ap (λ l. x ∷ l) p) q
    behind same (nearer e some p) = nearer e some (ap (λ z. z ∷ a) same ∙ ap (λ l. y ∷ l) p)

tick_last : (xs : List Entry) (x : Entry) → last_tick (xs ++ x ∷ []) ≡ x.tick
tick_last [] x = refl
tick_last (y ∷ []) x = refl
tick_last (y ∷ z ∷ xs) x = tick_last (z ∷ xs) x

text_last : (xs : List Entry) (x : Entry) → text_of (xs ++ x ∷ []) ≡ text_of xs ++ line_of x
text_last [] x = append-nil (line_of x)
text_last (y ∷ xs) x = ap (λ l. line_of y ++ l) (text_last xs x) ∙ sym (append_assoc (line_of y) (text_of xs) (line_of x))

-- the line that refuses, where a line is refused
abbrev tail_of : Option BadLine → List ℕ
tail_of None = []
tail_of (Some bad) = refusal_line (refused.Line bad)

safe_lines : (done : List Entry) → Safe done (last_tick done) → AreSafeLines (text_of done)
safe_lines done h = record { entries = done; safe = h; says = refl }

-- behind all entries: nothing more, the refusal, or a part of it
cut_last : (done : List Entry) → Safe done (last_tick done) → (o : Option BadLine) → (front rest : List ℕ)
    → tail_of o ≡ front ++ rest → IsSafelyCut (text_of done ++ front)
cut_last done safe None [] rest h = record {
  lines = text_of done;
  unended = [];
  split = refl;
  whole = inl (safe_lines done safe);
  part = inl refl;
}
cut_last done safe None (x ∷ front) rest h =
    let none : length (x ∷ (front ++ rest)) ≡ 0 = sym (ap length h) in absurd (omega arith)
cut_last done safe (Some bad) front [] h = record {
  lines = text_of done ++ front;
  unended = [];
  split = sym (append-nil (text_of done ++ front));
  whole = inr (record {
    traced = text_of done;
    bad = bad;
    safe = safe_lines done safe;
    says = ap (λ l. text_of done ++ l) (sym (h ∙ append-nil front));
  });
  part = inl refl;
}
cut_last done safe (Some bad) front (x ∷ rest) h = record {
  lines = text_of done;
  unended = front;
  split = refl;
  whole = inl (safe_lines done safe);
  part = inr (record { rest = x ∷ rest; some = omega arith; line = inr (bad, sym h) });
}

cut_from : (done es : List Entry) (now : ℕ) → Safe (done ++ es) now → Safe done (last_tick done) → (o : Option BadLine)
    → (front rest : List ℕ) → text_of es ++ tail_of o ≡ front ++ rest → IsSafelyCut (text_of done ++ front)
cut_from done [] now all safe o front rest h = cut_last done safe o front rest h
cut_from done (x ∷ es) now all safe o front rest h =
    by_cut (λ e q. cut_from more es now (subst (λ l. Safe l now) (sym (append_assoc done (x ∷ []) es)) all) more_safe o e rest q)
    (cut_twice (line_of x) (text_of es ++ tail_of o) front rest
    (sym (append_assoc (line_of x) (text_of es) (tail_of o)) ∙ h))
  where
    more : List Entry
    more = done ++ x ∷ []

    more_safe : Safe more (last_tick more)
    more_safe = subst (λ now. Safe more now) (sym (tick_last done x)) (safe_front done es x now all)

    by_cut : ((e : List ℕ) → text_of es ++ tail_of o ≡ e ++ rest → IsSafelyCut (text_of more ++ e))
        → CutTwice (line_of x) (text_of es ++ tail_of o) front rest → IsSafelyCut (text_of done ++ front)
    by_cut later (further e p q) =
        subst IsSafelyCut
        (ap (λ l. l ++ e) (text_last done x) ∙ append_assoc (text_of done) (line_of x) e
        ∙ ap (λ l. text_of done ++ l) (sym p))
        (later e q)
    by_cut later (nearer e some p) = record {
      lines = text_of done;
      unended = front;
      split = refl;
      whole = inl (safe_lines done safe);
      part = inr (record { rest = e; some = some; line = inl (x, sym p) });
    }

ended_text : (text : List ℕ) (o : Option BadLine) → (ended text o).text ≡ text ++ tail_of o
ended_text text None = sym (append-nil text)
ended_text text (Some bad) = refl

-- a front of the reply to a script is cut safely
front_cut : (input front rest : List ℕ) → front ++ rest ≡ (run_reply input).text → IsSafelyCut front
front_cut input front rest h =
    let script = script_of input in
    cut_from [] (script_trace script) (script_tick script) (script_safe script) (nothing_safe 0) script.refused front rest
    (sym (h ∙ ended_text (text_of (script_trace script)) script.refused))

-- the bytes told
abbrev told_or_none : Option (List ℕ) → List ℕ
told_or_none None = []
told_or_none (Some bytes) = bytes

-- what a sink that tells its bytes grew by
grown : (before written front : List ℕ) → Some (before ++ written) ≡ append_known (Some before) front → written ≡ front
grown before written front h = append_cancel_left before written front (ap told_or_none h)

-- where the sink grew by a front of the reply
partly_cut : (input : List ℕ) (r : Reply) → r ≡ run_reply input → (old new : Option (List ℕ)) → GrewPartly old new r.text
    → (before written : List ℕ) → old ≡ Some before → new ≡ Some (before ++ written) → IsSafelyCut written
partly_cut input r same old new grew before written was is =
    let front : List ℕ = grew.0 in
    let found : Some (before ++ written) ≡ append_known (Some before) front =
    sym is ∙ grew.3 ∙ ap (λ o. append_known o front) was in
    subst IsSafelyCut (sym (grown before written front found))
    (front_cut input front grew.1 (grew.2 ∙ ap (λ r. r.text) same))

whole_cut : (input : List ℕ) (r : Reply) → r ≡ run_reply input → (old new : Option (List ℕ)) → Grew old new r.text
    → (before written : List ℕ) → old ≡ Some before → new ≡ Some (before ++ written) → IsSafelyCut written
whole_cut input r same old new grew = partly_cut input r same old new (r.text, [], append-nil r.text, grew)

cut_short : (most : List ℕ → ℕ) (old new : Streams) (input : List ℕ)
    → CutShort (λ bytes r. r ≡ run_reply bytes) most old new input
    → (before written : List ℕ) → old.held ≡ Some before → new.held ≡ Some (before ++ written) → IsSafelyCut written
cut_short most old new input c =
    let found = cut_partly (λ bytes r. r ≡ run_reply bytes) most old new input c in
    partly_cut input found.0 found.1 old.held new.held found.2

-- however `run` ended
pub run_cut : (most : List ℕ → ℕ) (reads : Bool) (old new : Streams) (answer : Status)
    → Outcome (λ bytes r. r ≡ run_reply bytes) most reads old new answer → (before written : List ℕ)
    → old.held ≡ Some before → new.held ≡ Some (before ++ written) → IsSafelyCut written
run_cut most reads old new status.Done o = whole_cut o.0 o.1 o.2.replied old.held new.held o.2.wrote
run_cut most reads old new status.Usage o = whole_cut [] o.0 o.1.replied old.held new.held o.1.wrote
run_cut most reads old new (status.Refused why) o = whole_cut o.0 o.1 o.2.replied old.held new.held o.2.wrote
run_cut most reads old new (status.Broken place rule) o = whole_cut o.0 o.1 o.2.replied old.held new.held o.2.wrote
run_cut most reads old new status.ReadFault o = cut_short most old new o.0 o.1
run_cut most reads old new status.WriteFault o = cut_short most old new o.0 o.1
run_cut most reads old new status.Memory o = cut_short most old new o.0 o.1
run_cut most reads old new status.TooLong o = cut_short most old new o.0 o.1
