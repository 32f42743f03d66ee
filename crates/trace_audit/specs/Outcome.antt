-- What a verdict says of the bytes that an audit took from its source, and of the reads that failed. This project's
-- profile. Cited by the contract of `audit`. Where a source doesn't tell its bytes, nothing is said of them.
use Rattle.std.specs.Prelude.{◌≡◌, ℕ, ◌⊎◌, List, Option}
use Rattle.call_io.specs.Bytes.{Took}
use Rattle.call_io.specs.Counts.{Rose}
use Rattle.line_input.specs.Inputs.{IsSettledBy, RunsOver, StopsNear, StopsWithin}
use Rattle.line_input.specs.Lines.{IsWhole, lines_of}
use Rattle.trace_audit.specs.Audit.{Audits}
use Rattle.trace_audit.specs.declared.verdict.Verdict.{Verdict}
use Rattle.trace_audit.specs.declared.verdict.Verdict.TheVariants as verdict

-- the verdict on the lines of these bytes is this one
abbrev pub IsAudited : Verdict → List ℕ → Type 0
IsAudited v bytes = Audits (lines_of bytes) v

-- these lines are a safe trace
abbrev pub AreSound : List (List ℕ) → Type 0
AreSound lines = (items : ℕ) × Audits lines (verdict.Sound items)

-- the lines of these bytes are
abbrev pub IsSound : List ℕ → Type 0
IsSound bytes = AreSound (lines_of bytes)

-- these bytes were taken, and this is the verdict on their lines
pub record Answered (left left' : Option (List ℕ)) (v : Verdict) (input : List ℕ) : Type 0 where
  pub took : Took left left' input
  pub audits : Audits (lines_of input) v

-- what a verdict says of the bytes taken: no more than to the line that it names, to the failed read, or to the line
-- behind safe ones that wanted memory, and what was read at once with that
abbrev pub Outcome : (left left' : Option (List ℕ)) → Verdict → Type 0
Outcome left left' (verdict.Sound items) =
    (input : List ℕ) × Answered left left' (verdict.Sound items) input × IsWhole left' input
Outcome left left' (verdict.Broken line rule) =
    (input : List ℕ) × Answered left left' (verdict.Broken line rule) input
    × (IsSettledBy (IsAudited (verdict.Broken line rule)) line input ⊎ IsWhole left' input)
Outcome left left' (verdict.Bad bad) =
    (input : List ℕ) × Answered left left' (verdict.Bad bad) input
    × (IsSettledBy (IsAudited (verdict.Bad bad)) bad.line input ⊎ IsWhole left' input)
Outcome left left' verdict.ReadFault = (input : List ℕ) × Took left left' input × StopsWithin IsSound input
Outcome left left' verdict.TooLong = (input : List ℕ) × Took left left' input × RunsOver IsSound input
Outcome left left' verdict.Memory = (input : List ℕ) × Took left left' input × StopsNear AreSound input

-- what a verdict says of the source's count of faults: a read failed, or else none did
abbrev pub VerdictCause : Verdict → (old new : ℕ) → Type 0
VerdictCause verdict.ReadFault old new = Rose old new
VerdictCause _ old new = new ≡ old
