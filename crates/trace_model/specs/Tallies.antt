-- What a trace comes to: how many entries it has, how many of these are a leg of the point that came up, a set that was
-- shown and one that was acknowledged, and the tick of its last entry. This project's profile. Cited by the listener
-- `Tally`.
use Rattle.std.specs.Prelude.{◌≡◌, ℕ, min, Bool, true, false, List, [], ◌∷◌, ◌++◌, length}
use Rattle.std.specs.List.{filter}
use Rattle.link_frames.specs.declared.frame.End.TheVariants as «end»
use Rattle.link_frames.specs.declared.note.Note.{Note}
use Rattle.link_frames.specs.declared.note.Note.TheVariants as note
use Rattle.trace_model.specs.declared.entry.Entry.{Entry}
use Rattle.trace_model.specs.declared.tally.Tally.{Tally}

-- the most that is counted
abbrev pub most_counted : ℕ
most_counted = 18446744073709551615

-- how many entries a list has, up to that
abbrev pub count : List Entry → ℕ
count entries = min (length entries) most_counted

-- `up point`
abbrev pub is_answered : Note → Bool
is_answered (note.Up «end».Point call) = true
is_answered _ = false

-- `shown`
abbrev pub is_shown : Note → Bool
is_shown (note.Shown call request octets) = true
is_shown _ = false

-- `acked`
abbrev pub is_acked : Note → Bool
is_acked (note.Acked call request octets) = true
is_acked _ = false

-- the entries whose items pass a test
abbrev pub those : (Note → Bool) → List Entry → List Entry
those test entries = filter (λ entry. test entry.note) entries

-- the tick of the last entry, and 0 where there is none
abbrev pub last_tick : List Entry → ℕ
last_tick [] = 0
last_tick (entry ∷ []) = entry.tick
last_tick (_ ∷ next ∷ entries) = last_tick (next ∷ entries)

abbrev pub tally_of : List Entry → Tally
tally_of entries = record {
  entries = count entries;
  calls = count (those is_answered entries);
  shown = count (those is_shown entries);
  acked = count (those is_acked entries);
  ticks = last_tick entries;
}

-- Of whatever list the counts were, they are those of that list followed by these entries.
abbrev pub TallyGrew : (old new : Tally) → List Entry → Type 0
TallyGrew old new entries = (heard : List Entry) → old ≡ tally_of heard → new ≡ tally_of (heard ++ entries)
