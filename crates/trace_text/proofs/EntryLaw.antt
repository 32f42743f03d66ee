-- A line is read as an entry exactly where it is the line of the entry.
use Rattle.std.proofs.Common.{◌≡◌, ℕ, ◌<◌, ◌^◌, List, [], ◌∷◌, ◌++◌, decimal, Ok, refl, sym, ap, subst, ◌∙◌, arith}
use Rattle.std.specs.Prelude.{◌↔◌}
use Rattle.std.proofs.lemmas.List.{append_cancel_right}
use Rattle.trace_text.specs.EntryLine.{line_of, note_words, spaced}
use Rattle.trace_text.specs.EntryLines.{IsEntry, IsNote, entry_of, entry_by_words, next_tick, note_by_words}
use Rattle.line_input.specs.Words.{words}
use Rattle.trace_model.specs.declared.entry.Entry.{Entry}
use Rattle.trace_text.proofs.EntryBack.{notes-say}
use Rattle.trace_text.proofs.EntryForth.{note-reads}
use Rattle.trace_text.proofs.EntryNumbers.{natural_below-decimal, word-decimal}
use Rattle.trace_text.proofs.EntryReads.{followed-back, made-back, tick-next}
use Rattle.trace_text.proofs.EntryWords.{behind, text-words, words-front}

line-cut : (entry : Entry) → line_of entry ≡ (decimal entry.tick ++ spaced (note_words entry.note)) ++ 10 ∷ []
line-cut entry = refl

pub entry-reads : (text : List ℕ) (entry : Entry) → IsEntry entry → line_of entry ≡ text ++ 10 ∷ [] → entry_of text ≡ Ok entry
unfolding IsEntry entry_of
entry-reads text entry is line =
    let body : text ≡ decimal entry.tick ++ spaced (note_words entry.note) =
    append_cancel_right _ _ (10 ∷ []) (sym line ∙ line-cut entry) in
    let cut : words text ≡ decimal entry.tick ∷ behind (note_words entry.note) =
    ap words body ∙ words-front (decimal entry.tick) (note_words entry.note) (word-decimal entry.tick is.0) in
    ap entry_by_words cut
    ∙ rw (natural_below-decimal (2 ^ 64) entry.tick (omega arith) is.0, note-reads entry.note is.1) refl

pub entry-back : (text : List ℕ) (entry : Entry) → entry_of text ≡ Ok entry → IsEntry entry × (line_of entry ≡ text ++ 10 ∷ [])
unfolding IsEntry entry_of
entry-back text entry e =
    let a = followed-back (next_tick (words text)) _ entry e in
    let m = made-back (λ n. record { tick = a.value; note = n }) (note_by_words a.rest) entry a.goes in
    let t = tick-next (words text) a.value a.rest a.says in
    let n = notes-say a.rest m.0 m.1 in
    let body : text ≡ decimal a.value ++ spaced (note_words m.0) =
    text-words text (decimal a.value) a.rest t.0 ∙ ap (λ (l : List ℕ). decimal a.value ++ l) n.line in
    let made : Entry = record { tick = a.value; note = m.0 } in
    subst (λ (x : Entry). ((x.tick < 2 ^ 64) × IsNote x.note) × (line_of x ≡ text ++ 10 ∷ [])) m.2
    ((t.1, n.valid), line-cut made ∙ ap (λ (l : List ℕ). l ++ 10 ∷ []) (sym body))

pub entry-law : (text : List ℕ) (entry : Entry) → entry_of text ≡ Ok entry ↔ IsEntry entry × (line_of entry ≡ text ++ 10 ∷ [])
entry-law text entry = (entry-back text entry, λ h. entry-reads text entry h.0 h.1)
