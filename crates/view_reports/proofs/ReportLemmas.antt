-- What is kept and told of a line behind others.
use Rattle.std.proofs.Common.{◌≡◌, ℕ, ◌+◌, ◌++◌, ◌∷◌, [], List, Bool, Option, Result, Ok, Err, IfOk, OnOk, length, take, sym, ap, subst, ◌∙◌, arith}
use Rattle.line_input.specs.declared.reason.Reason.{Reason}
use Rattle.trace_model.specs.declared.entry.Entry.{Entry}
use Rattle.view_lines.specs.Fault.{most_kept}
use Rattle.view_lines.specs.Told.{Puts}
use Rattle.view_reports.specs.Told.{IsReported, entry_reported, watch_after, watch_from, watch_of}
use Rattle.view_reports.specs.Watch.{no_watch}
use Rattle.view_reports.specs.declared.manner.Manner.{Manner}
use Rattle.view_reports.specs.declared.report.Report.{Report}
use Rattle.view_reports.specs.declared.watch.Watch.{Watch}
use Rattle.view_reports.specs.inner.Heard.{HasHeard}
use Rattle.view_traces.specs.Told.{judged_entry, tick_after, tick_behind}
use Rattle.view_traces.proofs.TellingLemmas.{same_entry, tick_kept}

-- what is kept behind one more line
watch_more : (tick number : ℕ) (w : Watch) (lines : List (List ℕ)) (line : List ℕ)
    → watch_from tick number w (lines ++ line ∷ [])
    ≡ watch_after (watch_from tick number w lines) (number + length lines) (judged_entry (tick_behind tick lines) line)
watch_more tick number w [] line =
    let n : number ≡ number + 0 = omega arith in
    ap (λ (k : ℕ). watch_after w k (judged_entry tick line)) n
watch_more tick number w (first ∷ lines) line =
    let after : ℕ = tick_after tick (judged_entry tick first) in
    let behind : Watch = watch_after w number (judged_entry tick first) in
    let n : (number + 1) + length lines ≡ number + length (first ∷ lines) = omega arith in
    watch_more after (number + 1) behind lines line
    ∙ ap
    (λ (k : ℕ). watch_after (watch_from after (number + 1) behind lines) k (judged_entry (tick_behind after lines) line)) n

pub watch_one : (before : List (List ℕ)) (line : List ℕ)
    → watch_of (before ++ line ∷ [])
    ≡ watch_after (watch_of before) (length before + 1) (judged_entry (tick_behind 0 before) line)
watch_one before line =
    let n : 1 + length before ≡ length before + 1 = omega arith in
    watch_more 0 1 no_watch before line
    ∙ ap (λ (k : ℕ). watch_after (watch_of before) k (judged_entry (tick_behind 0 before) line)) n

-- what is told of one more line, and what is kept then
pub line_reported : {E : Type 0} (r : Result Bool E) (before : List (List ℕ)) (whole line : List ℕ)
    (report report' : Report) (number : ℕ) (judged : Result (Option Entry) Reason) (old new : List ℕ)
    → HasHeard report before → number ≡ length before + 1 → line ≡ take most_kept whole
    → judged ≡ judged_entry report.tick line
    → IfOk r (λ refused. Puts (λ t. t ≡ entry_reported report.manner report.watch number judged) old new refused)
    → OnOk r (report'.watch ≡ watch_after report.watch number judged)
    → OnOk r (report'.tick ≡ tick_after report.tick judged)
    → IfOk r (λ refused. Puts (IsReported report.manner before whole) old new refused
    × HasHeard report' (before ++ whole ∷ []))
line_reported (Err e) before whole line report report' number judged old new heard counts kept is puts watch tick = tt
line_reported (Ok refused) before whole line report report' number judged old new heard counts kept is puts watch tick =
    let same : judged ≡ judged_entry (tick_behind 0 before) whole =
    same_entry before whole line report.tick number judged heard.tick kept is in
    let m : Manner = report.manner in (
      record {
        text = puts.text;
        told =
            puts.told
            ∙ ap (λ (w : Watch). entry_reported m w number judged) heard.watch
            ∙ ap (λ (n : ℕ). entry_reported m (watch_of before) n judged) counts
            ∙ ap (entry_reported m (watch_of before) (length before + 1)) same;
        grew = puts.grew;
      },
      record {
        watch =
            watch
            ∙ ap (λ (w : Watch). watch_after w number judged) heard.watch
            ∙ ap (λ (n : ℕ). watch_after (watch_of before) n judged) counts
            ∙ ap (watch_after (watch_of before) (length before + 1)) same
            ∙ sym (watch_one before whole);
        tick = tick_kept before whole line report.tick number judged heard.tick kept is report'.tick tick;
      },
    )

-- the same in the manner that is known
pub in_manner : {E : Type 0} (r : Result Bool E) (before : List (List ℕ)) (whole : List ℕ) (m n : Manner)
    (old new : List ℕ) (report : Report) → m ≡ n → report.manner ≡ m
    → IfOk r (λ refused. Puts (IsReported m before whole) old new refused × HasHeard report (before ++ whole ∷ []))
    → IfOk r (λ refused. Puts (IsReported n before whole) old new refused
    × ((report.manner ≡ n) × HasHeard report (before ++ whole ∷ [])))
in_manner (Err e) before whole m n old new report same is told = tt
in_manner (Ok refused) before whole m n old new report same is told =
    (subst (λ (k : Manner). Puts (IsReported k before whole) old new refused) same told.0, (is ∙ same, told.1))
