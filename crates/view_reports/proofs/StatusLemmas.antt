-- Whether a report says that something is wrong.
use Rattle.std.proofs.Common.{◌≡◌, ◌+◌, ◌||◌, ℕ, Bool, true, false, cond, List, [], ◌∷◌, ◌++◌, length, Option, Some, None, Result, Ok, Err, refl, ap, ◌∙◌, arith, length-append}
use Rattle.std.specs.Option.{is_some, option_or}
use Rattle.line_input.specs.declared.reason.Reason.{Reason}
use Rattle.link_frames.specs.declared.frame.End.{End}
use Rattle.trace_audit.specs.declared.verdict.Verdict.{Verdict}
use Rattle.trace_model.specs.declared.entry.Entry.{Entry}
use Rattle.view_lines.specs.Told.{AreTold, Told, nothing_told}
use Rattle.view_reports.specs.First.{first_from, first_rule, first_told, line_verdict}
use Rattle.view_reports.specs.Told.{IsReported, break_text, breaks_told, entry_reported, is_judged, watch_after, watch_of}
use Rattle.view_reports.specs.Watch.{breaks_at}
use Rattle.view_reports.specs.declared.breaks.Break.{Break}
use Rattle.view_reports.specs.declared.manner.Manner.{Manner}
use Rattle.view_reports.specs.declared.watch.Watch.{Watch}
use Rattle.view_reports.proofs.ReportLemmas.{watch_one}
use Rattle.view_traces.specs.Told.{judged_entry, tick_after, tick_behind}
use Rattle.view_traces.proofs.TellingLemmas.{one_more}

module _ (m : Manner) (both : m.end ≡ None) where
  breaks_some : (number tick : ℕ) (bs : List Break)
      → (breaks_told m number tick bs).refused ≡ is_some (first_rule number bs)
  breaks_some number tick [] = refl
  breaks_some number tick (b ∷ bs) = at (is_judged m.end b) (ap (λ (e : Option End). is_judged e b) both)
    where
      one : Told
      one = record { text = break_text m.layout number tick b; refused = true }

      at : (d : Bool) → d ≡ true → (cond d one nothing_told).refused || (breaks_told m number tick bs).refused ≡ true
      at true is = refl
      at false is = cc

  entry_some : (w : Watch) (number : ℕ) (j : Result (Option Entry) Reason)
      → (entry_reported m w number j).refused ≡ is_some (line_verdict w number j)
  entry_some w number (Err why) = refl
  entry_some w number (Ok None) = refl
  entry_some w number (Ok (Some entry)) = breaks_some number entry.tick (breaks_at w entry.note entry.tick)

  or_some : (a b : Option Verdict) → is_some a || is_some b ≡ is_some (option_or a b)
  or_some None b = refl
  or_some (Some v) b = refl

  told_some : (before lines : List (List ℕ)) (t : Told) → AreTold (IsReported m) before lines t
      → t.refused ≡ is_some (first_from (tick_behind 0 before) (length before + 1) (watch_of before) lines)
  told_some before [] t told = ap (λ (z : Told). z.refused) told
  told_some before (line ∷ lines) t told =
      let j : Result (Option Entry) Reason = judged_entry (tick_behind 0 before) line in
      let w : Watch = watch_of before in
      let number : ℕ = length before + 1 in
      let counts : length (before ++ line ∷ []) + 1 ≡ number + 1 =
      let n = length-append before (line ∷ []) in omega (arith, n) in
      let later : told.1.refused
      ≡ is_some (first_from (tick_after (tick_behind 0 before) j) (number + 1) (watch_after w number j) lines) =
      told_some (before ++ line ∷ []) lines told.1 told.3
      ∙ ap (λ (n : ℕ). is_some (first_from n (length (before ++ line ∷ []) + 1) (watch_of (before ++ line ∷ [])) lines))
      (one_more 0 before line)
      ∙ ap
      (λ (n : ℕ). is_some (first_from (tick_after (tick_behind 0 before) j) n (watch_of (before ++ line ∷ [])) lines))
      counts
      ∙ ap (λ (z : Watch). is_some (first_from (tick_after (tick_behind 0 before) j) (number + 1) z lines))
      (watch_one before line) in
      ap (λ (z : Told). z.refused) told.4
      ∙ ap (λ (z : Told). z.refused || told.1.refused) told.2
      ∙ ap (λ (b : Bool). b || told.1.refused) (entry_some w number j)
      ∙ ap (λ (b : Bool). is_some (line_verdict w number j) || b) later
      ∙ or_some (line_verdict w number j)
      (first_from (tick_after (tick_behind 0 before) j) (number + 1) (watch_after w number j) lines)

pub told_status : (m : Manner) (lines : List (List ℕ)) (t : Told) → m.end ≡ None → AreTold (IsReported m) [] lines t
    → t.refused ≡ is_some (first_told lines)
told_status m lines t both told = told_some m both [] lines t told
