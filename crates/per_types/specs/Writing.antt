-- What a writer of one kind does to a buffer: it appends the bits of the elements that spell its value, or it
-- appends nothing where they don't fit in the room of a set of data, which is this project's profile. Cited by
-- each writer.
use Rattle.std.specs.Prelude.{◌≡◌, ℕ, ◌+◌, ◌<◌, ◌≤◌, Bool, List, ◌++◌, length, Result, Ok, Err}
use Rattle.per_types.specs.declared.index.EnumIndex.{EnumIndex}
use Rattle.per_types.specs.declared.index.EnumIndex.TheVariants.{Root, Added}
use Rattle.per_bits.specs.Bits.{room_bits}
use Rattle.per_types.specs.Kinds.{Element, bits_of}
use Rattle.per_types.specs.Spelling.{RootElements, AddedElements}

-- On Ok the bits of such elements stand behind the old ones. On Err they would be too many, and the old
-- ones stand as they stood.
abbrev pub AppendsSpelling : {X E : Type 0} → (List Element → Type 0) → List Bool → Result X E → List Bool → Type 0
AppendsSpelling Spelled old (Ok x) new =
    (es : List Element) × Spelled es × (length old + length (bits_of es) ≤ room_bits) × (new ≡ old ++ bits_of es)
AppendsSpelling Spelled old (Err e) new =
    (es : List Element) × Spelled es × (room_bits < length old + length (bits_of es)) × (new ≡ old)

-- an index of an extensible enumeration with so many roots
abbrev pub EnumElements : ℕ → EnumIndex → List Element → Type 0
EnumElements roots (Root i) es = RootElements roots i es
EnumElements roots (Added i) es = AddedElements i es

-- such an index: of one of the roots, or a small number
abbrev pub IsIndex : ℕ → EnumIndex → Type 0
IsIndex roots (Root i) = i < roots
IsIndex roots (Added i) = i ≤ 63
