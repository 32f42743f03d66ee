-- A fact of few octets, on its way from its line to a fact line. This project's profile. Scaffolding: cited by the
-- contracts of private functions alone.
use Rattle.std.specs.Prelude.{ℕ, List, codes, Option, Some, None, Result, Ok, Err, if◌then◌else◌}
use Rattle.std.specs.Str.{bytes_eq}
use Rattle.trace_text.specs.Encode.{fact_says, other_by_word}
use Rattle.trace_text.specs.FactLines.{extra_line}
use Rattle.trace_text.specs.declared.encode.EncodeLine.{EncodeLine}
use Rattle.trace_text.specs.declared.fact_line.FactLine.{FactLine}
use Rattle.trace_text.specs.declared.fact_line.FactLine.TheVariants as fact
use Rattle.trace_text.specs.declared.fact_line.ShortFact.{ShortFact}
use Rattle.trace_text.specs.declared.fact_line.ShortFact.TheVariants as short
use Rattle.line_input.specs.declared.reason.Reason.{Reason}

-- the same fact
abbrev pub fact_of : ShortFact → FactLine
fact_of (short.Vin vin) = fact.Vin vin
fact_of (short.Kind kind) = fact.Kind kind
fact_of (short.Format number) = fact.Format number
fact_of (short.Fuel fuel) = fact.Fuel fuel
fact_of (short.Time time) = fact.Time time
fact_of (short.Place latitude longitude) = fact.Place latitude longitude
fact_of (short.Heading heading) = fact.Heading heading
fact_of (short.Trusted trusted) = fact.Trusted trusted
fact_of (short.Before1 way) = fact.Before1 way
fact_of (short.Before2 way) = fact.Before2 way
fact_of (short.Passengers count) = fact.Passengers count

-- what a line says by which it is told
abbrev pub said : Result ShortFact Reason → Result FactLine Reason
said (Ok f) = Ok (fact_of f)
said (Err why) = Err why

-- the same, or else this
abbrev pub says_or : Option (Result ShortFact Reason) → Option (Result FactLine Reason) →
    Option (Result FactLine Reason)
says_or (Some says) other = Some (said says)
says_or None other = other

-- additional data, where the first word is theirs
abbrev pub extra_fact : List ℕ → List (List ℕ) → Option (Result FactLine Reason)
extra_fact first rest = if bytes_eq first (codes "extra") then Some (extra_line rest) else None

-- a line of `encode` that tells no short fact
abbrev pub long_by_word : List ℕ → List (List ℕ) → Result EncodeLine Reason
long_by_word first rest =
    elim (extra_fact first rest) [ Some says ↦ fact_says says | None ↦ other_by_word first rest ]
