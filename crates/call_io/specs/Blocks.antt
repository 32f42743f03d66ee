-- What contracts see of a block of output between a program and its sink: this project's profile.
-- The contracts of `Block` cite this file. What was written through a block is what its sink holds, followed by what is
-- pending.
use Rattle.std.specs.Prelude.{ℕ, ◌-◌, List, Option, length, slice_range}
use Rattle.std.specs.Borrow.{GName}
use Rattle.std.specs.Io.KnownBytes.{append_known}
use Rattle.std.specs.Option.{option_map_or}
use Rattle.call_io.specs.Ways.{Way}
use Rattle.call_io.specs.declared.block.Block.{Block}
use Rattle.call_io.specs.declared.block.TheConstants.{ROOM}

-- the sink that a block borrows, as it is now
abbrev pub sink : {O : Type 0} → Block O → O
sink block = block.out.now

-- which reference to a sink a block borrows
abbrev pub sink_name : {O : Type 0} → Block O → GName
sink_name block = block.out.ghost_name

-- the bytes that were written to the block and not yet to its sink
abbrev pub pending : {O : Type 0} → Block O → List ℕ
pending block = slice_range block.bytes block.start block.end

-- how many more bytes the block takes before the sink gets any
abbrev pub free : {O : Type 0} → Block O → ℕ
free block = ROOM - block.end

-- the bytes written, where the sink tells its own: those that the sink holds, and then those pending
abbrev pub held : {O : Type 0} → (O → Option (List ℕ)) → Block O → Option (List ℕ)
held of_sink block = append_known (of_sink (sink block)) (pending block)

-- the reference to the sink, and how many bytes the sink tells
abbrev pub way : {O : Type 0} → (O → Option (List ℕ)) → Block O → Way
way of_sink block = record { name = sink_name block; sent = option_map_or length (of_sink (sink block)) 0 }
