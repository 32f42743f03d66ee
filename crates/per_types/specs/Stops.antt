-- What a reader may do: take exactly the bits of a spelling, or stop at the first element that is refused,
-- after this project's profile of refusals. An element is judged on its own, and too few bits come first. Cited
-- by each reader and by the laws of spelling.
use Rattle.std.specs.Prelude.{◌≡◌, ◌↔◌, ℕ, ◌+◌, ◌<◌, ◌≤◌, ◌≤ℤ◌, Bool, nat_lt, List, ◌∷◌, ◌++◌, length, take, Option, Some, None, Result, Ok, Err, if◌then◌else◌}
use Rattle.std.specs.List.{Contains}
use Rattle.per_bits.specs.Bits.{Part, behind}
use Rattle.per_bits.specs.declared.refusals.Refusal.{Refusal}
use Rattle.per_bits.specs.declared.refusals.Reason.TheVariants.{Short}
use Rattle.per_types.specs.Kinds.{Kind, width, fault, Fault, Element, bits_of}
use Rattle.per_types.specs.Types.{Ty, boolean, integer, characters, octet_string, relative_oid, enumerated, format, sequence, Components, no_components, required, optional, default}

-- An answer and where it leaves the cursor: the value and what is left behind it, or the refusal and what is
-- left from the refused element's first bit on.
abbrev pub Read : Type 0 → Type 0
Read X = Result (X × Part) (Refusal × Part)

-- the element's n bits, or its fault
abbrev pub judged : Part → ℕ → Option Fault → Read (List Bool)
judged p n None = Ok (take n p.bits, behind p n)
judged p n (Some f) = Err (record { place = p.start + f.offset; reason = f.reason; value = f.value }, p)

-- An element of this kind at the front of the bits, judged on its own: too few bits first, with the
-- number of bits wanted, and then its one fault.
unfoldable pub element_at : Kind → Part → Read (List Bool)
element_at k p =
    if nat_lt (length p.bits) (width k)
    then Err (record { place = p.start; reason = Short; value = width k }, p)
    else judged p (width k) (fault k (take (width k) p.bits))

-- These are the first elements of some spelling, and each spelling that begins with them has next an
-- element of this kind. Spelled says which elements spell a value.
pub record Next {X : Type 0} (Spelled : X → List Element → Type 0) (first : List Element) (k : Kind) : Type 0 where
  pub lawful : (v : X) × (rest : List Element) × Spelled v (first ++ rest)
  pub next :
      (v : X) (rest : List Element) → Spelled v (first ++ rest) → (e : Element) × (others : List Element)
      × (e.kind ≡ k) × (rest ≡ e ∷ others)

-- Reading from at is refused in this way, and stands behind it at the refused element's first bit.
abbrev pub Stops : {X : Type 0} → (X → List Element → Type 0) → Part → Refusal → Part → Type 0
Stops Spelled at refusal behind_it =
    (first : List Element) × (k : Kind) × (tail : List Bool) × Next Spelled first k × (at.bits ≡ bits_of first ++ tail)
    × (element_at k (behind at (length (bits_of first))) ≡ Err (refusal, behind_it))

-- Reading from at takes exactly the bits of a spelling of the value, and stands behind it right behind them.
abbrev pub Takes : {X : Type 0} → (X → List Element → Type 0) → Part → X → Part → Type 0
Takes Spelled at v behind_it =
    (es : List Element) × Spelled v es × (at.bits ≡ bits_of es ++ behind_it.bits)
    × (behind_it ≡ behind at (length (bits_of es)))

-- What a reader answered at the cursor old, seen by view, and where its cursor stands now: it took exactly the
-- bits of a spelling of its answer, or it was refused at the first element that doesn't fit, and stands there.
abbrev pub Reads : {X Y : Type 0} → (Y → List Element → Type 0) → (X → Y) → Part → Result X Refusal → Part → Type 0
Reads Spelled view old (Ok x) new = Takes Spelled old (view x) new
Reads Spelled view old (Err e) new = Stops Spelled old e new

-- what a reading gives is what is spelled there, or why nothing is
abbrev pub IsReading : {X : Type 0} → (X → List Element → Type 0) → Part → Read X → Type 0
IsReading Spelled at (Ok x) = Takes Spelled at x.0 x.1
IsReading Spelled at (Err e) = Stops Spelled at e.0 e.1

-- The reading of any part is the one answer that says what is spelled there or why nothing is: so of taking
-- and stopping exactly one holds, with one value and one refusal.
abbrev pub IsOnlyReading : {X : Type 0} → (X → List Element → Type 0) → (Part → Read X) → Type 0
IsOnlyReading {X} Spelled reading = (p : Part) (answer : Read X) → (answer ≡ reading p) ↔ IsReading Spelled p answer

-- The types that have values: a number's bounds are in order, an enumeration has a root, and one of the
-- known formats is a number from 0 to 255.
abbrev mutual
  pub HasValues : Ty → Type 0
  HasValues boolean = Unit {0}
  HasValues (integer low high) = low ≤ℤ high
  HasValues (characters n) = Unit {0}
  HasValues octet_string = Unit {0}
  HasValues relative_oid = Unit {0}
  HasValues (enumerated roots) = 1 ≤ roots
  HasValues (format known) = (id : ℕ) × (id < 256) × Contains known id
  HasValues (sequence marked cs) = HaveValues cs

  pub HaveValues : Components → Type 0
  HaveValues no_components = Unit {0}
  HaveValues (required t cs) = HasValues t × HaveValues cs
  HaveValues (optional t cs) = HasValues t × HaveValues cs
  HaveValues (default t d cs) = HasValues t × HaveValues cs
