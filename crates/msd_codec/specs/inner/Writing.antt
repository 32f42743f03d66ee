-- Scaffolding of the writers of this crate: what a writer does to the buffer, which has room for one set of
-- data, and how many bits it needs, in terms of the elements of the canonical spelling (ITU-T X.691, unaligned
-- variant, in this project's profile) of what it writes. Cited by private writers and lengths alone.
use Rattle.std.specs.Prelude.{◌≡◌, ℕ, ◌+◌, ◌<◌, Bool, true, not, IsTrue, List, [], ◌∷◌, ◌++◌, length, Option, IfSome, IfNone, Result, OnOk, OnErr}
use Rattle.per_bits.specs.Bits.{room_bits}
use Rattle.msd_values.specs.declared.format.Format.{Format}
use Rattle.msd_values.specs.declared.format.Format.TheVariants.{One, Two}
use Rattle.msd_values.specs.declared.msd.Marks.{Marks}
use Rattle.per_types.specs.Kinds.{Element, bits_of}
use Rattle.per_types.specs.Types.{Tree, Ty}
use Rattle.per_types.specs.Spelling.{Elements, TruthElements}

-- On Ok the bits of such elements stand behind the old ones. On Err the bits of no such elements have room.
pub record Puts {X E : Type 0} (Spelled : List Element → Type 0) (old : List Bool)
    (result : Result X E) (new : List Bool) : Type 0 where
  pub ok : OnOk result ((es : List Element) × Spelled es × (new ≡ old ++ bits_of es))
  pub full : OnErr result ((es : List Element) → Spelled es → room_bits < length old + length (bits_of es))

-- there are such elements, and they have so many bits
pub record HasLength (Spelled : List Element → Type 0) (bits : ℕ) : Type 0 where
  pub elements : List Element
  pub spelled : Spelled elements
  pub count : bits ≡ length (bits_of elements)

-- the canonical spelling of the value
pub record Canon (t : Ty) (v : Tree) (es : List Element) : Type 0 where
  pub spelled : Elements true t v es

-- an OPTIONAL component: its value, or nothing
pub record Optional (t : Ty) (v : Option Tree) (es : List Element) : Type 0 where
  pub some : IfSome v (λ x. Elements true t x es)
  pub none : IfNone v (es ≡ [])

-- the marks that a format has
abbrev pub other_marks : Format → Bool → List Bool
other_marks One other = []
other_marks Two other = other ∷ []

abbrev pub marks_of : Format → Marks → List Bool
marks_of f fuel =
    fuel.gasoline ∷ fuel.diesel ∷ fuel.natural_gas ∷ fuel.propane ∷ fuel.electric ∷ fuel.hydrogen
    ∷ other_marks f fuel.other

-- a BOOLEAN DEFAULT FALSE, which is written where it is true
pub record Flag (v : Bool) (es : List Element) : Type 0 where
  pub written : IsTrue v → TruthElements true es
  pub left : IsTrue (not v) → es ≡ []
