-- The counts of a trace behind one entry more, and the laws of the listener `Tally`. This project's profile.
-- Scaffolding: cited by the contracts of private functions, and by the listener's laws.
use Rattle.std.proofs.Common.{ℕ, ◌+◌, Bool, true, List, [], ◌++◌, sym, ap, ◌∙◌, append_assoc}
use Rattle.std.specs.Prelude.{min, if◌then◌else◌}
use Rattle.std.proofs.lemmas.List.{append-nil}
use Rattle.trace_model.specs.Tallies.{TallyGrew, is_acked, is_answered, is_shown, most_counted, tally_of}
use Rattle.trace_model.specs.declared.entry.Entry.{Entry}
use Rattle.trace_model.specs.declared.tally.Tally.{Tally}

-- a count behind one entry more
abbrev pub one_more : ℕ → Bool → ℕ
one_more count counts = if counts then min (count + 1) most_counted else count

-- the counts behind an entry
abbrev pub tallied : Tally → Entry → Tally
tallied tally entry = record {
  entries = one_more tally.entries true;
  calls = one_more tally.calls (is_answered entry.note);
  shown = one_more tally.shown (is_shown entry.note);
  acked = one_more tally.acked (is_acked entry.note);
  ticks = entry.tick;
}

pub TallyGrew-nothing : (a : Tally) → TallyGrew a a []
TallyGrew-nothing a heard is = is ∙ ap tally_of (sym (append-nil heard))

pub TallyGrew-append : (a b c : Tally) (s t : List Entry) → TallyGrew a b s → TallyGrew b c t → TallyGrew a c (s ++ t)
TallyGrew-append a b c s t first second heard is =
    second (heard ++ s) (first heard is) ∙ ap tally_of (append_assoc heard s t)
