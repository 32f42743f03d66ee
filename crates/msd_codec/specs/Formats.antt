-- The format of a value of the module: the one whose number the value begins with. A spelling of such a value is one by
-- the module of format 1 with number 1, or by the module of format 2 with number 2. Cited by the definitions of which
-- octets show a set, of the canonical ones, and of the reading, and by `decode`, `encode` and the laws.
use Rattle.std.specs.Prelude.{ℕ, ◌==◌, pos, false, List, if◌then◌else◌}
use Rattle.msd_values.specs.declared.format.Format.{Format}
use Rattle.msd_values.specs.declared.format.Format.TheVariants.{One, Two}
use Rattle.per_types.specs.Kinds.{Element}
use Rattle.per_types.specs.Types.{Tree, number, record_of, field, Ty}
use Rattle.per_types.specs.Spelling.{Elements}
use Rattle.msd_codec.specs.Module.{ecall_message}

-- the format of a number, 1 or 2
abbrev pub format_of : ℕ → Format
format_of n = if n == 1 then One else Two

-- the format whose number a value begins with
abbrev pub format_in : Tree → Format
format_in (record_of (field (number (pos n)) fs) more) = format_of n
format_in _ = Two

-- the module by which a value is spelled
abbrev pub module_of : Tree → Ty
module_of v = ecall_message (format_in v)

-- the elements of a value, with defaults that may be written out
abbrev pub SetElements : Tree → List Element → Type 0
SetElements v es = Elements false (module_of v) v es
