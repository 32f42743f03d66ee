-- What contracts see of a source that keeps what it gave last. Cited by the contracts of `Watch`.
use Rattle.std.specs.Prelude.{ℕ, List}
use Rattle.line_help.specs.declared.watch.Watch.{Watch}

-- the source that it reads
abbrev pub source_of : {S : Type 0} → Watch S → S
source_of watch = watch.source

-- the bytes that it keeps
abbrev pub text_of : {S : Type 0} → Watch S → List ℕ
text_of watch = watch.kept.text.items

-- how many lines ended in front of them
abbrev pub ended_of : {S : Type 0} → Watch S → ℕ
ended_of watch = watch.kept.ended
