-- How many bits additional data adds to the canonical spelling of the set of own facts.
use Rattle.std.proofs.Common.{◌≡◌, ℕ, ◌+◌, true, false, length, Option, Some, None, refl, arith}
use Rattle.std.proofs.lemmas.List.{length-append}
use Rattle.per_types.specs.Types.{Tree, record_of, Fields, no_fields, field, absent, Ty, format, sequence, Components, no_components, required, optional}
use Rattle.msd_values.specs.declared.format.Format.{Format}
use Rattle.msd_values.specs.Format.{format_number}
use Rattle.msd_codec.specs.Module.{additional_data, known_formats, msd_structure, msd_message, ecall_message}
use Rattle.msd_codec.specs.Trees.{count_tree, extra_tree, structure_tree, tree}
use Rattle.msd_codec.specs.Canonical.{presence_bits, canonical_bits, written_bits}
use Rattle.msd_fit.specs.declared.cause.Cause.{Cause}
use Rattle.msd_fit.specs.declared.facts.OwnFacts.{OwnFacts}
use Rattle.msd_fit.specs.Candidates.{AdditionalData}
use Rattle.msd_fit.specs.Fitting.{extra_of, set_with}
use Rattle.msd_fit.specs.inner.Lengths.{data_bits}

-- ---- records

-- the parts of a record without additions, behind its mark where it has one
plain_long : (cs : Components) (fs : Fields) → length (canonical_bits (sequence false cs) (record_of fs None)) ≡ length (presence_bits cs fs) + length (written_bits cs fs)
unfolding canonical_bits written_bits
plain_long cs fs = simp length-append (omega arith)

marked_long : (cs : Components) (fs : Fields) → length (canonical_bits (sequence true cs) (record_of fs None)) ≡ 1 + length (presence_bits cs fs) + length (written_bits cs fs)
unfolding canonical_bits written_bits
marked_long cs fs = simp length-append (omega arith)

required_long : (t : Ty) (cs : Components) (v : Tree) (fs : Fields) → length (written_bits (required t cs) (field v fs)) ≡ length (canonical_bits t v) + length (written_bits cs fs)
unfolding canonical_bits written_bits
required_long t cs v fs = length-append (canonical_bits t v) (written_bits cs fs)

present_long : (t : Ty) (cs : Components) (v : Tree) (fs : Fields) → length (written_bits (optional t cs) (field v fs)) ≡ length (canonical_bits t v) + length (written_bits cs fs)
unfolding canonical_bits written_bits
present_long t cs v fs = length-append (canonical_bits t v) (written_bits cs fs)

nothing_long : length (written_bits no_components no_fields) ≡ 0
unfolding written_bits
nothing_long = refl

-- ---- the message, and the set

without_data : (f : Format) (s : Tree) → length (canonical_bits (msd_message f) (record_of (field s (absent no_fields)) None)) ≡ 2 + length (canonical_bits (msd_structure f) s)
unfolding msd_message presence_bits written_bits
without_data f s = rw (marked_long _ _, required_long) (omega arith)

with_data : (f : Format) (s d : Tree) → length (canonical_bits (msd_message f) (record_of (field s (field d no_fields)) None)) ≡ 2 + length (canonical_bits (msd_structure f) s) + length (canonical_bits additional_data d)
unfolding msd_message presence_bits
with_data f s d = rw (marked_long _ _, required_long, present_long, nothing_long) (omega arith)

whole_long : (f : Format) (v : Tree) → length (canonical_bits (ecall_message f) (record_of (field (count_tree (format_number f)) (field v no_fields)) None)) ≡ length (canonical_bits (format known_formats) (count_tree (format_number f))) + length (canonical_bits (msd_message f) v)
unfolding ecall_message presence_bits
whole_long f v = rw (plain_long _ _, required_long, required_long, nothing_long) (omega arith)

abbrev pub set_bits : OwnFacts → Cause → ℕ → Option AdditionalData → ℕ
set_bits facts cause n extra = length (canonical_bits (ecall_message facts.format) (tree (set_with facts cause n extra)))

pub data_added :
    (facts : OwnFacts) (cause : Cause) (n : ℕ) (extra : AdditionalData)
    → set_bits facts cause n (Some extra) ≡ set_bits facts cause n None + data_bits extra
data_added facts cause n extra =
    let f : Format = facts.format in
    let s : Tree = structure_tree (set_with facts cause n None) in
    let plain : Tree = record_of (field s (absent no_fields)) None in
    let d : Tree = extra_tree (extra_of extra) in
    omega (
      arith,
      whole_long f plain,
      without_data f s,
      whole_long f (record_of (field s (field d no_fields)) None),
      with_data f s d,
    )
