-- The lines of a floor's trace, and what it means that a text grew by the lines of some entries, or by a part of them.
-- This project's profile. Cited by the reply of `ecall floor`, and by the listener `FloorTextOut`.
use Rattle.std.specs.Prelude.{◌≡◌, ℕ, List, [], ◌∷◌, ◌++◌, Option}
use Rattle.std.specs.Borrow.{GName}
use Rattle.call_io.specs.Bytes.{Grew, GrewPartly}
use Rattle.call_io.specs.Ways.{Way, Onward}
use Rattle.floor_text.specs.VehicleText.{vehicle_line}
use Rattle.call_floor.specs.declared.entry.FloorEntry.{FloorEntry}
use Rattle.floor_command.specs.declared.listener.FloorTextOut.{FloorTextOut}

-- the lines of some entries, one behind the other
abbrev pub text_of : List FloorEntry → List ℕ
text_of [] = []
text_of (x ∷ xs) = vehicle_line x.vehicle x.entry ++ text_of xs

-- the sink that a `FloorTextOut` borrows, as it is now
abbrev pub sink : {O : Type 0} → FloorTextOut O → O
sink to = to.out.now

-- which reference to a sink it borrows
abbrev pub sink_name : {O : Type 0} → FloorTextOut O → GName
sink_name to = to.out.ghost_name

-- Still the same sink is borrowed, which went onward, and its told bytes grew by exactly the lines of these entries.
abbrev pub TextGrew : {O : Type 0} → (O → Option (List ℕ)) → (O → Way) → (old new : FloorTextOut O) → List FloorEntry
    → Type 0
TextGrew held way old new entries =
    (sink_name new ≡ sink_name old)
    × Grew (held (sink old)) (held (sink new)) (text_of entries)
    × Onward (way (sink old)) (way (sink new))

-- Still the same sink is borrowed, which went onward, and its told bytes grew by a front of the bytes of these lines.
abbrev pub TextGrewPartly : {O : Type 0} → (O → Option (List ℕ)) → (O → Way) → (old new : FloorTextOut O)
    → List FloorEntry → Type 0
TextGrewPartly held way old new entries =
    (sink_name new ≡ sink_name old)
    × GrewPartly (held (sink old)) (held (sink new)) (text_of entries)
    × Onward (way (sink old)) (way (sink new))
