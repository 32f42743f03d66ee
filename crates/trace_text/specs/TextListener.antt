-- What it means that the text of a trace grew by the lines of some entries, or by a part of them. This project's
-- profile. Cited by the listener `TextOut`.
use Rattle.std.specs.Prelude.{◌≡◌, ℕ, List, Option}
use Rattle.std.specs.Borrow.{GName}
use Rattle.call_io.specs.Bytes.{Grew, GrewPartly}
use Rattle.call_io.specs.Ways.{Way, Onward}
use Rattle.trace_model.specs.declared.entry.Entry.{Entry}
use Rattle.trace_text.specs.EntryLine.{text_of}
use Rattle.trace_text.specs.declared.text_out.TextOut.{TextOut}

-- the sink that a `TextOut` borrows, as it is now
abbrev pub sink : {O : Type 0} → TextOut O → O
sink to = to.out.now

-- which reference to a sink a `TextOut` borrows
abbrev pub sink_name : {O : Type 0} → TextOut O → GName
sink_name to = to.out.ghost_name

-- Still the same sink is borrowed, which went onward, and its told bytes grew by exactly the lines of these entries.
abbrev pub TextGrew : {O : Type 0} → (O → Option (List ℕ)) → (O → Way) → (old new : TextOut O) → List Entry → Type 0
TextGrew held way old new entries =
    (sink_name new ≡ sink_name old)
    × Grew (held (sink old)) (held (sink new)) (text_of entries)
    × Onward (way (sink old)) (way (sink new))

-- Still the same sink is borrowed, which went onward, and its told bytes grew by a front of the bytes of these lines.
abbrev pub TextGrewPartly : {O : Type 0} → (O → Option (List ℕ)) → (O → Way) → (old new : TextOut O) → List Entry
    → Type 0
TextGrewPartly held way old new entries =
    (sink_name new ≡ sink_name old)
    × GrewPartly (held (sink old)) (held (sink new)) (text_of entries)
    × Onward (way (sink old)) (way (sink new))
