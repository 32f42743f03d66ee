-- The line of an item of the relay desk or of the second point, among the lines of a trace: its tick, the word `relay`,
-- and the words of the item; and the text of a trace with such items. This project's profile. Cited by the reply of
-- `relay`.
use Rattle.std.specs.Prelude.{ℕ, List, [], ◌∷◌, ◌++◌, codes, decimal}
use Rattle.hex.specs.Hex.{encode_lower}
use Rattle.line_input.specs.Characters.{newline}
use Rattle.relay_desk.specs.declared.event.RelayNote.{RelayNote}
use Rattle.relay_desk.specs.declared.event.RelayNote.TheVariants as note
use Rattle.trace_text.specs.EntryLine.{line_of, spaced}
use Rattle.trace_model.specs.declared.entry.Entry.{Entry}

-- What a trace with a relay desk has: an entry of the world, or an item of the desk or of the second point at a tick.
pub data RelayEntry : Type 0 where
  OfWorld : Entry → RelayEntry
  OfDesk : (tick : ℕ) → RelayNote → RelayEntry

-- the words of an item: its octets are lower-case hexadecimal
abbrev pub item_words : RelayNote → List (List ℕ)
item_words (note.Forth desk call request octets) =
    codes "send" ∷ codes "forth" ∷ decimal desk ∷ decimal call ∷ decimal request ∷ encode_lower octets ∷ []
item_words (note.Shown desk call request octets) =
    codes "shown" ∷ decimal desk ∷ decimal call ∷ decimal request ∷ encode_lower octets ∷ []
item_words (note.Back desk) = codes "send" ∷ codes "back" ∷ decimal desk ∷ []
item_words (note.Done desk) = codes "done" ∷ decimal desk ∷ []
item_words (note.GaveUp desk) = codes "gaveup" ∷ decimal desk ∷ []
item_words (note.Unshown call) = codes "unshown" ∷ decimal call ∷ []
item_words note.Nothing = codes "nothing" ∷ []

-- the line of an item at a tick, its newline included
abbrev pub item_line : ℕ → RelayNote → List ℕ
item_line tick item = decimal tick ++ spaced (codes "relay" ∷ item_words item) ++ newline ∷ []

abbrev pub relay_entry_line : RelayEntry → List ℕ
relay_entry_line (OfWorld entry) = line_of entry
relay_entry_line (OfDesk tick item) = item_line tick item

-- the lines of a trace, one behind the other
abbrev pub text_with_desk : List RelayEntry → List ℕ
text_with_desk [] = []
text_with_desk (x ∷ xs) = relay_entry_line x ++ text_with_desk xs
