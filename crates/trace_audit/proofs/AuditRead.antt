-- What the lines that were read say of the verdict of an audit, and how an audit ends.
use Rattle.std.specs.Prelude.{◌≡◌, ◌≤◌, ◌+◌, ◌⊎◌, ℕ, true, false, List, [], ◌∷◌, ◌++◌, length, Option, Some, None, Result, Ok, Err}
use Rattle.std.specs.List.{AllByRecursion}
use Rattle.std.proofs.Common.{refl, sym, ap, subst, ◌∙◌, inl, inr, arith, length-append}
use Rattle.std.proofs.lemmas.List.{append-nil}
use Rattle.trace_model.specs.declared.entry.Entry.{Entry}
use Rattle.line_input.specs.declared.fault.LineFault.{LineFault}
use Rattle.line_input.specs.declared.fault.LineFault.TheVariants as fault
use Rattle.line_input.specs.declared.reason.BadLine.{BadLine}
use Rattle.line_input.specs.declared.reason.Reason.{Reason}
use Rattle.line_input.specs.declared.reason.Reason.TheVariants as reason
use Rattle.trace_text.specs.EntryLines.{entry_of}
use Rattle.line_input.specs.Feed.{Feed}
use Rattle.line_input.specs.Inputs.{IsSettledBy}
use Rattle.line_input.specs.Lines.{IsWhole, IsLine, IsPassedOver, Numbered, line_fault}
use Rattle.line_input.specs.Reading.{FindsLine, Reading, ReadsLine, first_reading}
use Rattle.line_input.specs.Taken.{LinesSoFar}
use Rattle.trace_model.specs.Safety.{Safe}
use Rattle.trace_audit.specs.declared.audit_lines.Heard.{Heard}
use Rattle.trace_model.specs.declared.rule.Rule.{Rule}
use Rattle.trace_audit.specs.declared.rules.Rules.{Rules}
use Rattle.trace_audit.specs.declared.verdict.Verdict.{Verdict}
use Rattle.trace_audit.specs.declared.verdict.Verdict.TheVariants as verdict
use Rattle.trace_audit.specs.Audit.{Audits, IsBroken, IsFirst, IsRefused, IsSafeTrace, IsTrace, IsUnrefused, NeverFall, entries_of, in_front, line_says, some_entry}
use Rattle.trace_model.specs.Tallies.{last_tick}
use Rattle.trace_audit.specs.Judged.{Judges}
use Rattle.trace_audit.specs.Outcome.{Answered, AreSound, IsAudited, Outcome}
use Rattle.trace_audit.specs.RulesStand.{RulesStandFor}
use Rattle.trace_audit.specs.inner.AuditTurns.{HeardStandsFor, Hears, HearsLine, Standing, Turn, verdict_of}
use Rattle.line_input.proofs.LinesSoFar.{StopsAt, bad_stops, ended_lines, ended_whole, found_lines, found_stops, line_near, lines_counted, lines_first, over_lines, part_lines, stopped_all, stopped_by, stopped_input, taken_input, taken_took}
use Rattle.trace_model.proofs.LegsHeard.{last_one}

-- What a line says.

pub says_fault : (text : List ℕ) (why : Reason) → line_fault text ≡ Some why → line_says text ≡ Err why
says_fault text why h = rw (line_says, h) refl

pub says_passed : (text : List ℕ) → IsPassedOver text → line_says text ≡ Ok None
says_passed text h = rw (line_says, h.0, h.1) refl

pub says_line : (text : List ℕ) → IsLine text → line_says text ≡ some_entry (entry_of text)
says_line text h = rw (line_says, h.0, h.1) refl

-- Lines one behind the other.

front_append : (r : Result (Option Entry) Reason) (xs ys : List Entry) → in_front r (xs ++ ys) ≡ in_front r xs ++ ys
front_append (Ok None) xs ys = refl
front_append (Ok (Some x)) xs ys = refl
front_append (Err why) xs ys = refl

pub entries_append : (a b : List (List ℕ)) → entries_of (a ++ b) ≡ entries_of a ++ entries_of b
entries_append [] b = refl
entries_append (text ∷ a) b =
    ap (in_front (line_says text)) (entries_append a b) ∙ front_append (line_says text) (entries_of a) (entries_of b)

entries_passed : (passed : List (List ℕ)) → AllByRecursion IsPassedOver passed → entries_of passed ≡ []
entries_passed [] each = refl
entries_passed (text ∷ passed) each =
    ap (λ r. in_front r (entries_of passed)) (says_passed text each.0) ∙ entries_passed passed each.1

pub entries_behind : (lines passed : List (List ℕ)) → AllByRecursion IsPassedOver passed →
    entries_of (lines ++ passed) ≡ entries_of lines
entries_behind lines passed each =
    entries_append lines passed ∙ (ap (λ es. entries_of lines ++ es) (entries_passed passed each)
    ∙ append-nil (entries_of lines))

abbrev pub AreUnrefused : List (List ℕ) → Type 0
AreUnrefused lines = AllByRecursion (λ text. IsUnrefused (line_says text)) lines

pub unrefused_append : (a b : List (List ℕ)) → AreUnrefused a → AreUnrefused b → AreUnrefused (a ++ b)
unrefused_append [] b h k = k
unrefused_append (text ∷ a) b h k = (h.0, unrefused_append a b h.1 k)

unrefused_passed : (passed : List (List ℕ)) → AllByRecursion IsPassedOver passed → AreUnrefused passed
unrefused_passed [] each = tt
unrefused_passed (text ∷ passed) each =
    (subst IsUnrefused (sym (says_passed text each.0)) tt, unrefused_passed passed each.1)

front_few : (r : Result (Option Entry) Reason) (xs : List Entry) → length (in_front r xs) ≤ length xs + 1
front_few (Ok None) xs = omega arith
front_few (Ok (Some x)) xs = omega arith
front_few (Err why) xs = omega arith

entries_few : (lines : List (List ℕ)) → length (entries_of lines) ≤ length lines
entries_few [] = omega arith
entries_few (text ∷ lines) = omega (arith, front_few (line_says text) (entries_of lines), entries_few lines)

pub fall_more : (es : List Entry) (x : Entry) → NeverFall es → last_tick es ≤ x.tick → NeverFall (es ++ x ∷ [])
fall_more [] x h le = tt
fall_more (y ∷ []) x h le = (le, tt)
fall_more (y ∷ z ∷ es) x h le = (h.0, fall_more (z ∷ es) x h.1 le)

-- what is kept says that the lines, and those passed over behind them, are a safe trace
safe_lines : (lines passed : List (List ℕ)) (heard : Heard) → AreUnrefused lines → AllByRecursion IsPassedOver passed →
    HeardStandsFor heard (entries_of lines) → IsSafeTrace (lines ++ passed)
safe_lines lines passed heard each over h =
    let P : List Entry → Type 0 = λ es. NeverFall es in
    let Q : List Entry → Type 0 = λ es. Safe es (last_tick es) in
    record {
      trace = record {
        each = unrefused_append lines passed each (unrefused_passed passed over);
        order = subst P (sym (entries_behind lines passed over)) h.order;
      };
      safe = subst Q (sym (entries_behind lines passed over)) h.rules.safe;
    }

sound_lines : (lines passed : List (List ℕ)) (heard : Heard) → AreUnrefused lines → AllByRecursion IsPassedOver passed →
    HeardStandsFor heard (entries_of lines) → Audits (lines ++ passed) (verdict.Sound heard.items)
sound_lines lines passed heard each over h =
    (safe_lines lines passed heard each over h, h.items ∙ ap length (sym (entries_behind lines passed over)))

-- A line more that says an entry.

pub more_entries : (front : List (List ℕ)) (text : List ℕ) (x : Entry) → line_says text ≡ Ok (Some x) →
    entries_of (front ++ text ∷ []) ≡ entries_of front ++ x ∷ []
more_entries front text x says = entries_append front (text ∷ []) ∙ ap (λ r. entries_of front ++ in_front r []) says

pub trace_more : (front : List (List ℕ)) (text : List ℕ) (x : Entry) → line_says text ≡ Ok (Some x) → IsSafeTrace front →
    last_tick (entries_of front) ≤ x.tick → IsTrace (front ++ text ∷ [])
trace_more front text x says h le =
    record {
      each = unrefused_append front (text ∷ []) h.trace.each (subst IsUnrefused (sym says) tt, tt);
      order = subst (λ (es : List Entry). NeverFall es) (sym (more_entries front text x says))
          (fall_more (entries_of front) x h.trace.order le);
    }

pub judged_more : (front : List (List ℕ)) (text : List ℕ) (x : Entry) (o : Option Rule) → line_says text ≡ Ok (Some x) →
    Judges (entries_of front ++ x ∷ []) x.tick o →
    Judges (entries_of (front ++ text ∷ [])) (last_tick (entries_of (front ++ text ∷ []))) o
judged_more front text x o says j =
    subst (λ (es : List Entry). Judges es (last_tick es) o) (sym (more_entries front text x says))
    (subst (λ (n : ℕ). Judges (entries_of front ++ x ∷ []) n o) (sym (last_one (entries_of front) x)) j)

pub items_few : (start now : Option (List ℕ)) (reading : Reading) (heard : Heard) → Standing start now reading heard →
    heard.items ≤ reading.lines
items_few start now reading heard s = omega (arith, s.stands.items, s.so_far.number, entries_few s.lines)

-- Nothing was read yet.
pub audit_first : (start : Option (List ℕ)) (heard : Heard) → HeardStandsFor heard [] →
    Standing start start first_reading heard
audit_first start heard h = record { lines = []; so_far = lines_first start; each = tt; stands = h }

-- An audit ends where the reading stops.

abbrev Ends : (start left : Option (List ℕ)) → (number : ℕ) → Verdict → Type 0
Ends start left number v =
    (input : List ℕ) × Answered start left v input × (IsSettledBy (IsAudited v) number input ⊎ IsWhole left input)

ends_at : (start left : Option (List ℕ)) (feed : Feed) (before : List (List ℕ)) (number : ℕ)
    (IsThis : List ℕ → Type 0) (s : StopsAt start left feed before number IsThis) (v : Verdict) →
    ((text : List ℕ) (rest : List (List ℕ)) → IsThis text → Audits (before ++ text ∷ rest) v) →
    Ends start left number v
ends_at start left feed before number IsThis s v is =
    let Holds : List (List ℕ) → Type 0 = λ lines. Audits lines v in (
      stopped_input start left feed before number IsThis s,
      record { took = s.took; audits = stopped_all start left feed before number IsThis s Holds is },
      stopped_by start left feed before number IsThis s Holds is,
    )

pub is_first : (front : List (List ℕ)) (text : List ℕ) (rest : List (List ℕ)) (number : ℕ)
    (Is : List (List ℕ) → List ℕ → Type 0) → number ≡ length front + 1 → IsSafeTrace front → Is front text →
    IsFirst (front ++ text ∷ rest) number Is
is_first front text rest number Is place safe is =
    record { front = front; text = text; rest = rest; split = refl; place = place; safe = safe; is = is }

-- A line that says something was found.
record Found (start left : Option (List ℕ)) (new : Reading) (heard : Heard) : Type 0 where
  pub before : List (List ℕ)
  pub so_far : LinesSoFar start left new (before ++ new.text ∷ [])
  pub stops : StopsAt start left new.feed before new.lines (λ text. text ≡ new.text)
  pub safe : IsSafeTrace before
  pub stands : HeardStandsFor heard (entries_of before)
  pub says : line_says new.text ≡ some_entry (entry_of new.text)

found : (start now left : Option (List ℕ)) (old new : Reading) (heard : Heard) → Standing start now old heard →
    ReadsLine old new now left (Ok true) → Found start left new heard
found start now left old new heard s reads =
    let f : FindsLine old new (old.feed.pending ++ reads.taken) = reads.finds.0 in
    record {
      before = s.lines ++ f.passed;
      so_far = found_lines start now left old new s.lines s.so_far reads;
      stops = found_stops start now left old new s.lines s.so_far reads;
      safe = safe_lines s.lines f.passed heard s.each f.each s.stands;
      stands = subst (λ (es : List Entry). HeardStandsFor heard es) (sym (entries_behind s.lines f.passed f.each))
          s.stands;
      says = says_line new.text f.says;
    }

module _ (start left : Option (List ℕ)) (new : Reading) (heard : Heard) (k : Found start left new heard) where
  -- The audit goes on behind a line that says an entry.
  goes_on : (heard' : Heard) (x : Entry) → line_says new.text ≡ Ok (Some x) →
      HeardStandsFor heard' (entries_of k.before ++ x ∷ []) → Standing start left new heard'
  goes_on heard' x says h =
      record {
        lines = k.before ++ new.text ∷ [];
        so_far = k.so_far;
        each = unrefused_append k.before (new.text ∷ []) k.safe.trace.each (subst IsUnrefused (sym says) tt, tt);
        stands = subst (λ (es : List Entry). HeardStandsFor heard' es) (sym (more_entries k.before new.text x says)) h;
      }

  line_ends : (v : Verdict) → ((rest : List (List ℕ)) → Audits (k.before ++ new.text ∷ rest) v) → Ends start left new.lines v
  line_ends v is =
      ends_at start left new.feed k.before new.lines (λ text. text ≡ new.text) k.stops v
      (λ text rest same. subst (λ (t : List ℕ). Audits (k.before ++ t ∷ rest) v) (sym same) (is rest))

  -- It ends with a line that is refused,
  line_refused : (why : Reason) → IsRefused k.before new.text why →
      Ends start left new.lines (verdict.Bad (record { line = new.lines; reason = why }))
  line_refused why is =
      line_ends (verdict.Bad (record { line = new.lines; reason = why }))
      (λ rest. is_first k.before new.text rest new.lines (λ front text. IsRefused front text why) k.stops.place k.safe
      is)

  -- or that breaks a rule.
  line_breaks : (x : Entry) (broken : Rule) → line_says new.text ≡ Ok (Some x) →
      last_tick (entries_of k.before) ≤ x.tick → Judges (entries_of k.before ++ x ∷ []) x.tick (Some broken) →
      Ends start left new.lines (verdict.Broken new.lines broken)
  line_breaks x broken says le judged =
      line_ends (verdict.Broken new.lines broken)
      (λ rest. is_first k.before new.text rest new.lines (λ front text. IsBroken front text broken) k.stops.place k.safe
      (record {
        trace = trace_more k.before new.text x says k.safe le;
        broken = judged_more k.before new.text x (Some broken) says judged;
      }))

  -- what a turn comes to behind a line that was found, by what was heard of it
  abbrev TurnsFound : Heard → Option Verdict → Type 0
  TurnsFound heard' None = Standing start left new heard'
  TurnsFound heard' (Some answer) = Outcome start left answer

  heard_entry : (heard' : Heard) (x : Entry) → line_says new.text ≡ Ok (Some x) → (answer : Option Verdict) →
      Hears (entries_of k.before) new.lines x heard' answer → TurnsFound heard' answer
  heard_entry heard' x says None h = goes_on heard' x says h.1
  heard_entry heard' x says (Some (verdict.Bad bad)) h =
      subst (λ (b : BadLine). Ends start left b.line (verdict.Bad b)) (sym h.1)
      (line_refused reason.Number (inr (x, says, h.0, refl)))
  heard_entry heard' x says (Some (verdict.Broken line broken)) h =
      subst (λ (n : ℕ). Ends start left n (verdict.Broken n broken)) (sym h.0) (line_breaks x broken says h.1 h.2)
  heard_entry heard' x says (Some verdict.Memory) h = (
    k.so_far.front ++ new.feed.pending,
    k.so_far.taken.took,
    line_near start left new k.before (new.text ∷ []) k.so_far (omega arith) AreSound
        (heard.items, (k.safe, k.stands.items)),
  )
  heard_entry heard' x says (Some (verdict.Sound items)) h = absurd h
  heard_entry heard' x says (Some verdict.ReadFault) h = absurd h
  heard_entry heard' x says (Some verdict.TooLong) h = absurd h

  heard_line : (heard' : Heard) (says : Result Entry Reason) → line_says new.text ≡ some_entry says →
      (answer : Option Verdict) → HearsLine (entries_of k.before) new.lines says heard' answer →
      TurnsFound heard' answer
  heard_line heard' (Ok x) is answer h = heard_entry heard' x is answer h
  heard_line heard' (Err why) is answer h =
      subst (λ (a : Option Verdict). TurnsFound heard' a) (sym h) (line_refused why (inl is))

-- A line was read and judged.
pub turn_found : (start now left : Option (List ℕ)) (old new : Reading) (heard heard' : Heard) (line : Numbered) →
    line ≡ record { number = new.lines; text = new.text } → ReadsLine old new now left (Ok true) →
    (answer : Option Verdict) →
    ((before : List Entry) → HeardStandsFor heard before →
    HearsLine before line.number (entry_of line.text) heard' answer) →
    Standing start now old heard → Turn start left old new heard' answer
turn_found start now left old new heard heard' line is reads answer hears s =
    let k : Found start left new heard = found start now left old new heard s reads in
    let P : Numbered → Type 0 = λ l. HearsLine (entries_of k.before) l.number (entry_of l.text) heard' answer in
    counted answer
    (heard_line start left new heard k heard' (entry_of new.text) k.says answer
    (subst P is (hears (entries_of k.before) k.stands)))
  where
    counted : (answer : Option Verdict) →
        TurnsFound start left new heard (found start now left old new heard s reads) heard' answer →
        Turn start left old new heard' answer
    counted None t = let few = lines_counted start now left old new s.lines s.so_far reads in (t, few.0, few.1)
    counted (Some verdict) t = t

-- The end of the input was read.
pub turn_ended : (start now left : Option (List ℕ)) (old new : Reading) (heard : Heard) →
    ReadsLine old new now left (Ok false) →
    Standing start now old heard → Outcome start left (verdict.Sound heard.items)
turn_ended start now left old new heard reads s = (
  taken_input start now left old new s.lines s.so_far reads.taken,
  record {
    took = taken_took start now left old new s.lines s.so_far reads.taken reads.draws;
    audits = subst (λ (z : List (List ℕ)). Audits z (verdict.Sound heard.items))
        (sym (ended_lines start now left old new s.lines s.so_far reads))
        (sound_lines s.lines reads.finds.0.passed heard s.each reads.finds.0.each s.stands);
  },
  ended_whole start now left old new s.lines s.so_far reads,
)

-- There was no further line.
pub turn_unread : (start now left : Option (List ℕ)) (old new : Reading) (heard : Heard) (why : LineFault) →
    ReadsLine old new now left (Err why) → Standing start now old heard → Outcome start left (verdict_of why)
turn_unread start now left old new heard (fault.Bad bad) reads s =
    let stops = bad_stops start now left old new s.lines s.so_far bad reads in
    let before : List (List ℕ) = s.lines ++ reads.finds.passed in
    ends_at start left new.feed before bad.line (λ text. line_fault text ≡ Some bad.reason) stops (verdict.Bad bad)
    (λ text rest fails. is_first before text rest bad.line (λ front line. IsRefused front line bad.reason) stops.place
    (safe_lines s.lines reads.finds.passed heard s.each reads.finds.each s.stands)
    (inl (says_fault text bad.reason fails)))
turn_unread start now left old new heard fault.ReadFault reads s = (
  taken_input start now left old new s.lines s.so_far reads.taken,
  taken_took start now left old new s.lines s.so_far reads.taken reads.draws,
  part_lines start now left old new s.lines s.so_far
      (λ lines. (items : ℕ) × Audits lines (verdict.Sound items)) reads
      (heard.items, sound_lines s.lines reads.finds.passed heard s.each reads.finds.each s.stands),
)
turn_unread start now left old new heard fault.TooLong reads s = (
  taken_input start now left old new s.lines s.so_far reads.taken,
  taken_took start now left old new s.lines s.so_far reads.taken reads.draws,
  over_lines start now left old new s.lines s.so_far
      (λ lines. (items : ℕ) × Audits lines (verdict.Sound items)) reads
      (heard.items, sound_lines s.lines reads.finds.passed heard s.each reads.finds.each s.stands),
)

-- One more entry was taken.
pub taken_entry : (heard : Heard) (rules : Rules) (before : List Entry) (x : Entry) → HeardStandsFor heard before →
    last_tick before ≤ x.tick → RulesStandFor rules (before ++ x ∷ []) →
    HeardStandsFor (record { rules = rules; tick = x.tick; items = heard.items + 1 }) (before ++ x ∷ [])
taken_entry heard rules before x h le stands =
    record {
      rules = stands;
      tick = sym (last_one before x);
      items = simp length-append (omega (arith, h.items));
      order = fall_more before x h.order le;
    }
