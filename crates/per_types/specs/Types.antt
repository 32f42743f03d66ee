-- Types, as the finite trees that a module of ASN.1 spells out, and their values. The kinds of type are
-- those of this project's profile of ITU-T X.680 and X.691. Cited by the definitions of spelling and by
-- the laws.
use Rattle.std.specs.Prelude.{ℕ, ◌+◌, ℤ, Bool, List, Option}
use Rattle.per_bits.specs.Parts.{Member}

-- The value of a type. A record has a value or an absence for each component, and its additions where
-- it has some.
mutual
  pub data Tree : Type 0 where
    truth : Bool → Tree
    number : ℤ → Tree
    -- characters of the VIN alphabet
    text : List ℕ → Tree
    bytes : List ℕ → Tree
    root : ℕ → Tree
    added : ℕ → Tree
    record_of : Fields → Option (List Member) → Tree

  pub data Fields : Type 0 where
    no_fields : Fields
    field : Tree → Fields → Fields
    absent : Fields → Fields

mutual
  pub data Ty : Type 0 where
    boolean : Ty
    -- an integer from the first bound to the second
    integer : ℤ → ℤ → Ty
    -- so many characters of the VIN alphabet
    characters : ℕ → Ty
    octet_string : Ty
    relative_oid : Ty
    -- an extensible enumeration with so many roots
    enumerated : ℕ → Ty
    -- a number from 0 to 255 that says the format of what follows, one of those listed
    format : List ℕ → Ty
    -- with an extension mark or without one
    sequence : Bool → Components → Ty

  pub data Components : Type 0 where
    no_components : Components
    required : Ty → Components → Components
    optional : Ty → Components → Components
    default : Ty → Tree → Components → Components

-- how many components may be absent from a spelling
abbrev pub presence_count : Components → ℕ
presence_count no_components = 0
presence_count (required t cs) = presence_count cs
presence_count (optional t cs) = 1 + presence_count cs
presence_count (default t d cs) = 1 + presence_count cs
