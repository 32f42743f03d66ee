-- The verdict that a report comes to is that of an audit.
use Rattle.std.proofs.Common.{◌≡◌, ◌≤◌, ◌<◌, ◌+◌, ◌⊎◌, nat_lt, ℕ, Bool, true, false, List, [], ◌∷◌, ◌++◌, length, Option, Some, None, Result, Ok, Err, refl, sym, ap, subst, ◌∙◌, inl, inr, arith, append_assoc, length-append, if◌then◌else◌}
use Rattle.std.specs.Option.{option_or, unwrap_or}
use Rattle.std.proofs.lemmas.Bool.{false≢true}
use Rattle.std.proofs.lemmas.Bool.Decides.{Decides-ltb, not_from_Decides}
use Rattle.std.proofs.lemmas.List.{append-nil}
use Rattle.line_input.specs.Lines.{is_comment, line_fault}
use Rattle.line_input.specs.declared.reason.Reason.{Reason}
use Rattle.line_input.specs.declared.reason.Reason.TheVariants as reason
use Rattle.link_frames.specs.declared.frame.End.{End}
use Rattle.link_frames.specs.declared.frame.End.TheVariants as «end»
use Rattle.trace_audit.proofs.AuditRead.{entries_append, is_first, judged_more, more_entries, says_fault, says_line, says_passed, trace_more, unrefused_append}
use Rattle.trace_audit.proofs.RulesLemmas.{AreVoices}
use Rattle.trace_audit.specs.Audit.{Audits, IsBroken, IsRefused, IsSafeTrace, IsUnrefused, NeverFall, entries_of, in_front, line_says, some_entry}
use Rattle.trace_audit.specs.declared.verdict.Verdict.{Verdict}
use Rattle.trace_audit.specs.declared.verdict.Verdict.TheVariants as verdict
use Rattle.trace_model.proofs.Fronts.{nothing_safe}
use Rattle.trace_model.proofs.LegsHeard.{last_one}
use Rattle.trace_model.specs.Safety.{Safe}
use Rattle.trace_model.specs.Tallies.{last_tick}
use Rattle.trace_model.specs.declared.entry.Entry.{Entry}
use Rattle.trace_text.specs.EntryLines.{entry_of}
use Rattle.view_reports.specs.BreakTexts.{rule_of}
use Rattle.view_reports.specs.Calls.{CallRows}
use Rattle.view_reports.specs.First.{first_from, first_rule, line_verdict, reported_verdict}
use Rattle.view_reports.specs.Told.{watch_after}
use Rattle.view_reports.specs.Watch.{breaks_at, no_watch, watch_behind}
use Rattle.view_reports.specs.declared.breaks.Break.{Break}
use Rattle.view_reports.specs.declared.stretch.Stretch.{Stretch}
use Rattle.view_reports.specs.declared.watch.Watch.{Watch}
use Rattle.view_reports.proofs.JudgeLemmas.{ComesTo, WatchStands, judged}
use Rattle.view_reports.proofs.MutingLemmas.{StretchesStand}
use Rattle.view_reports.proofs.SideLemmas.{voices_kept}
use Rattle.view_traces.specs.Told.{entry_after, judged_by, judged_entry, tick_after}

-- What a line says, by what is read in it behind an entry of a tick.
abbrev SaysAs : (tick : ℕ) → List ℕ → Result (Option Entry) Reason → Type 0
SaysAs tick text (Ok None) = line_says text ≡ Ok None
SaysAs tick text (Ok (Some x)) = (line_says text ≡ Ok (Some x)) × (tick ≤ x.tick)
SaysAs tick text (Err why) =
    (line_says text ≡ Err why)
    ⊎ ((x : Entry) × (line_says text ≡ Ok (Some x)) × (x.tick < tick) × (why ≡ reason.Number))

says_as : (tick : ℕ) (text : List ℕ) → SaysAs tick text (judged_entry tick text)
says_as tick text = at (line_fault text) refl (is_comment text) refl (entry_of text) refl
  where
    entry : (x : Entry) → line_says text ≡ Ok (Some x) → (b : Bool) → nat_lt x.tick tick ≡ b
        → SaysAs tick text (if b then Err reason.Number else Ok (Some x))
    entry x says true falls = inr (x, says, (Decides-ltb x.tick tick).0 falls, refl)
    entry x says false falls =
        let no : x.tick < tick → ⊥ = not_from_Decides (nat_lt x.tick tick) (Decides-ltb x.tick tick) falls in
        (says, omega arith)

    at : (f : Option Reason) → line_fault text ≡ f → (c : Bool) → is_comment text ≡ c → (r : Result Entry Reason)
        → entry_of text ≡ r → SaysAs tick text (judged_by f c (entry_after tick r))
    at (Some why) fault c comment r is = inl (says_fault text why fault)
    at None fault true comment r is = says_passed text (fault, comment)
    at None fault false comment (Err why) is = inl (says_line text (fault, comment) ∙ ap some_entry is)
    at None fault false comment (Ok x) is =
        entry x (says_line text (fault, comment) ∙ ap some_entry is) (nat_lt x.tick tick) refl

-- A line that is passed over.

over_entries : (front : List (List ℕ)) (text : List ℕ) → line_says text ≡ Ok None
    → entries_of (front ++ text ∷ []) ≡ entries_of front
over_entries front text says =
    entries_append front (text ∷ [])
    ∙ (ap (λ r. entries_of front ++ in_front r []) says ∙ append-nil (entries_of front))

over_safe : (front : List (List ℕ)) (text : List ℕ) → line_says text ≡ Ok None → IsSafeTrace front
    → IsSafeTrace (front ++ text ∷ [])
over_safe front text says h =
    let same = over_entries front text says in
    record {
      trace = record {
        each = unrefused_append front (text ∷ []) h.trace.each (subst IsUnrefused (sym says) tt, tt);
        order = subst (λ (es : List Entry). NeverFall es) (sym same) h.trace.order;
      };
      safe = subst (λ (es : List Entry). Safe es (last_tick es)) (sym same) h.safe;
    }

stretches_later : (calls : CallRows) (e : End) (ss : List Stretch) (number now : ℕ)
    → StretchesStand calls e ss number now → StretchesStand calls e ss (number + 1) now
stretches_later calls e ss number now h = record {
  each = λ q k. let one = h.each q k in let low = one.before in record { before = omega arith; since = one.since };
  lines = λ c. let low = h.lines c in omega arith;
  among = h.among;
  order = h.order;
}

stands_later : (w : Watch) (t : List Entry) (number : ℕ) → WatchStands w t number → WatchStands w t (number + 1)
stands_later w t number h = record {
  voices = h.voices;
  sets = h.sets;
  owed = h.owed;
  vehicle = stretches_later w.calls «end».Vehicle w.vehicle number (last_tick t) h.vehicle;
  point = stretches_later w.calls «end».Point w.point number (last_tick t) h.point;
  safe = h.safe;
}

-- Lines behind a front that is a safe trace.

-- the verdict on these lines, where nothing in them is wrong unless this is
abbrev AuditsAs : Option Verdict → List (List ℕ) → Type 0
AuditsAs o lines = Audits lines (unwrap_or o (verdict.Sound (length (entries_of lines))))

module _ (front : List (List ℕ)) (text : List ℕ) (rest : List (List ℕ)) (tick number : ℕ) (w : Watch)
    (safe : IsSafeTrace front) (stands : WatchStands w (entries_of front) number)
    (ticks : tick ≡ last_tick (entries_of front)) (counts : number ≡ length front + 1) where
  abbrev More : Type 0
  More = (tick' : ℕ) (w' : Watch) → IsSafeTrace (front ++ text ∷ [])
      → WatchStands w' (entries_of (front ++ text ∷ [])) (number + 1)
      → tick' ≡ last_tick (entries_of (front ++ text ∷ []))
      → AuditsAs (first_from tick' (number + 1) w' rest) ((front ++ text ∷ []) ++ rest)

  abbrev Here : Result (Option Entry) Reason → Type 0
  Here j = AuditsAs
      (option_or (line_verdict w number j) (first_from (tick_after tick j) (number + 1) (watch_after w number j) rest))
      (front ++ text ∷ rest)

  on : (o : Option Verdict) → AuditsAs o ((front ++ text ∷ []) ++ rest) → AuditsAs o (front ++ text ∷ rest)
  on o h = subst (AuditsAs o) (append_assoc front (text ∷ []) rest) h

  refused : (why : Reason) → SaysAs tick text (Err why) → Here (Err why)
  refused why says =
      is_first front text rest number (λ front text. IsRefused front text why) counts safe (is says)
    where
      is : SaysAs tick text (Err why) → IsRefused front text why
      is (inl h) = inl h
      is (inr h) = inr (h.0, h.1, subst (λ (n : ℕ). h.0.tick < n) ticks h.2, h.3)

  passed : More → line_says text ≡ Ok None → Here (Ok None)
  passed more says =
      let same = over_entries front text says in
      on (first_from tick (number + 1) w rest)
      (more tick w (over_safe front text says safe)
      (subst (λ (es : List Entry). WatchStands w es (number + 1)) (sym same)
      (stands_later w (entries_of front) number stands))
      (ticks ∙ sym (ap last_tick same)))

  entry : More → (x : Entry) → line_says text ≡ Ok (Some x) → tick ≤ x.tick → Here (Ok (Some x))
  entry more x says le = at (judged w (entries_of front) x number stands le')
    where
      le' : last_tick (entries_of front) ≤ x.tick
      le' = subst (λ (n : ℕ). n ≤ x.tick) ticks le

      w' : Watch
      w' = watch_behind w x.note number x.tick

      later : Option Verdict
      later = first_from x.tick (number + 1) w' rest

      same : entries_of (front ++ text ∷ []) ≡ entries_of front ++ x ∷ []
      same = more_entries front text x says

      at : ComesTo w (entries_of front) x number stands le' (breaks_at w x.note x.tick)
          → AuditsAs (option_or (first_rule number (breaks_at w x.note x.tick)) later) (front ++ text ∷ rest)
      at (inl h) =
          subst (λ (bs : List Break). AuditsAs (option_or (first_rule number bs) later) (front ++ text ∷ rest)) (sym h.0)
          (on later
          (more x.tick w'
          (record {
            trace = trace_more front text x says safe le';
            safe = judged_more front text x None says h.2;
          })
          (subst (λ (es : List Entry). WatchStands w' es (number + 1)) (sym same) h.1)
          (sym (ap last_tick same ∙ last_one (entries_of front) x))))
      at (inr h) =
          subst (λ (bs : List Break). AuditsAs (option_or (first_rule number bs) later) (front ++ text ∷ rest)) (sym h.2)
          (is_first front text rest number (λ front text. IsBroken front text (rule_of h.0)) counts safe
          (record {
            trace = trace_more front text x says safe le';
            broken = judged_more front text x (Some (rule_of h.0)) says h.3;
          }))

  pub one_line : More → Here (judged_entry tick text)
  one_line more = at (judged_entry tick text) (says_as tick text)
    where
      at : (j : Result (Option Entry) Reason) → SaysAs tick text j → Here j
      at (Err why) says = refused why says
      at (Ok None) says = passed more says
      at (Ok (Some x)) says = entry more x says.0 says.1

verdict_from : (front rest : List (List ℕ)) (tick number : ℕ) (w : Watch) → IsSafeTrace front
    → WatchStands w (entries_of front) number → tick ≡ last_tick (entries_of front) → number ≡ length front + 1
    → AuditsAs (first_from tick number w rest) (front ++ rest)
verdict_from front [] tick number w safe stands ticks counts =
    subst (AuditsAs None) (sym (append-nil front)) (safe, refl)
verdict_from front (text ∷ rest) tick number w safe stands ticks counts =
    one_line front text rest tick number w safe stands ticks counts
    (λ tick' w' safe' stands' ticks'.
    verdict_from (front ++ text ∷ []) rest tick' (number + 1) w' safe' stands' ticks'
    (let n = length-append front (text ∷ []) in omega (arith, n, counts)))

-- Nothing was heard.

no_stretches : (e : End) → StretchesStand [] e [] 1 0
no_stretches «end».Vehicle = record {
  each = λ q h. absurd h;
  lines = λ c. omega arith;
  among = λ c h. absurd (false≢true h);
  order = tt;
}
no_stretches «end».Point = record {
  each = λ q h. absurd h;
  lines = λ c. omega arith;
  among = λ c h. absurd (false≢true h);
  order = tt;
}

no_voices : AreVoices (voices_kept []) []
no_voices «end».Vehicle c = refl
no_voices «end».Point c = refl

none_stands : WatchStands no_watch [] 1
none_stands = record {
  voices = no_voices;
  sets = λ c r o. (λ a. absurd (false≢true a), λ h. absurd h);
  owed = λ e c. (λ h. h, λ h. h);
  vehicle = no_stretches «end».Vehicle;
  point = no_stretches «end».Point;
  safe = nothing_safe 0;
}

pub first_verdict : (lines : List (List ℕ)) → Audits lines (reported_verdict lines)
first_verdict lines =
    verdict_from [] lines 0 1 no_watch
    (record { trace = record { each = tt; order = tt }; safe = nothing_safe 0 }) none_stands refl (omega arith)
