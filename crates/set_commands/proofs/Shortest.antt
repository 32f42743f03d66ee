-- The canonical spelling of a value is no longer than any other, so the canonical octets of a set that some octets show
-- have room.
use Rattle.std.proofs.Common.{◌≡◌, ℕ, suc, ◌+◌, ◌*◌, ◌-◌, ◌/◌, ◌≤◌, Bool, true, false, List, [], ◌∷◌, ◌++◌, length, replicate, Option, Some, None, refl, sym, ap, ◌∙◌, arith}
use Rattle.std.specs.Prelude.{◌%◌, pos, if◌then◌else◌}
use Rattle.std.proofs.lemmas.List.{length-append, length-replicate}
use Rattle.per_bits.specs.Bits.{padding, padded, room_bits}
use Rattle.per_bits.specs.Parts.{Member}
use Rattle.per_bits.proofs.Octets.{length_octets_of}
use Rattle.per_types.specs.Kinds.{Element, element, bits_of}
use Rattle.per_types.specs.Kinds as kind
use Rattle.per_types.specs.Types.{Tree, truth, number, text, bytes, root, added, record_of, Fields, no_fields, field, absent, Ty, boolean, integer, characters, octet_string, relative_oid, enumerated, format, sequence, Components, no_components, required, optional, default, presence_count}
use Rattle.per_types.specs.Spelling.{Elements, Present, MoreElements, mark_elements}
use Rattle.msd_codec.specs.Formats.{module_of}
use Rattle.msd_codec.specs.Canonical.{canonical_bits, presence_bits, written_bits, more_bits, same_tree}
use Rattle.msd_codec.specs.Sets.{ShowsTree}
use Rattle.msd_codec.proofs.CanonicalBits.{canonical_is, same_tree_decides}
use Rattle.msd_codec.proofs.Puts.{bits_long}
use Rattle.msd_codec.proofs.Rest.{pads_whole}

same_length : (b c : List Bool) → b ≡ c → length c ≤ length b
same_length b c e = omega (arith, ap length e)

more_length : (marked : Bool) (more : Option (List Member)) (es : List Element) → MoreElements marked more es
    → length (more_bits more) ≡ length (bits_of es)
more_length marked None es s = sym (ap (λ (l : List Element). length (bits_of l)) s)
more_length false (Some members) es s = absurd s
more_length true (Some members) es s = sym (ap (λ (l : List Element). length (bits_of l)) s.1)

-- parts that are no longer than others, one behind the other
both_long : (es a rest : List Element) (b c : List Bool) → es ≡ a ++ rest → length b ≤ length (bits_of a)
    → length c ≤ length (bits_of rest) → length (b ++ c) ≤ length (bits_of es)
both_long es a rest b c e h k =
    omega (arith, h, k, length-append b c, ap (λ (l : List Element). length (bits_of l)) e, bits_long a rest)

default_long : (es a rest : List Element) (same : Bool) (b c : List Bool) → es ≡ a ++ rest
    → length b ≤ length (bits_of a) → length c ≤ length (bits_of rest)
    → length ((if same then [] else b) ++ c) ≤ length (bits_of es)
default_long es a rest true b c e h k =
    omega (arith, k, ap (λ (l : List Element). length (bits_of l)) e, bits_long a rest)
default_long es a rest false b c e h k = both_long es a rest b c e h k

same_written : (same : Bool) (b c : List Bool) (es : List Element) → same ≡ true → length c ≤ length (bits_of es)
    → length ((if same then [] else b) ++ c) ≤ length (bits_of es)
same_written same b c es e h = rw e h

-- a sequence by its parts
sequence_long : (es mark parts sect : List Element) (n : ℕ) (present p w m : List Bool)
    → es ≡ mark ++ element (kind.presence n) present ∷ (parts ++ sect) → length p ≡ length present
    → length w ≤ length (bits_of parts) → length m ≡ length (bits_of sect)
    → length (bits_of mark ++ p ++ w ++ m) ≤ length (bits_of es)
sequence_long es mark parts sect n present p w m e f g h =
    let behind = element (kind.presence n) present ∷ (parts ++ sect) in
    omega (
      arith,
      f,
      g,
      h,
      ap (λ (l : List Element). length (bits_of l)) e,
      bits_long mark behind,
      length-append present (bits_of (parts ++ sect)),
      bits_long parts sect,
      length-append (bits_of mark ++ p ++ w) m,
      length-append (bits_of mark ++ p) w,
      length-append (bits_of mark) p,
    )

mutual
  unfolding canonical_bits written_bits presence_bits

  shortest : (t : Ty) (v : Tree) (es : List Element) → Elements false t v es
      → length (canonical_bits t v) ≤ length (bits_of es)
  shortest boolean (truth v) es s =
      same_length (bits_of es) _ (canonical_is boolean (truth v) (bits_of es) (es, s, refl))
  shortest (integer low high) (number v) es s =
      same_length (bits_of es) _ (canonical_is (integer low high) (number v) (bits_of es) (es, s, refl))
  shortest (characters n) (text cs) es s =
      same_length (bits_of es) _ (canonical_is (characters n) (text cs) (bits_of es) (es, s, refl))
  shortest octet_string (bytes os) es s =
      same_length (bits_of es) _ (canonical_is octet_string (bytes os) (bits_of es) (es, s, refl))
  shortest relative_oid (bytes os) es s =
      same_length (bits_of es) _ (canonical_is relative_oid (bytes os) (bits_of es) (es, s, refl))
  shortest (enumerated roots) (root i) es s =
      same_length (bits_of es) _ (canonical_is (enumerated roots) (root i) (bits_of es) (es, s, refl))
  shortest (enumerated roots) (added i) es s =
      same_length (bits_of es) _ (canonical_is (enumerated roots) (added i) (bits_of es) (es, s, refl))
  shortest (format known) (number (pos v)) es s =
      same_length (bits_of es) _ (canonical_is (format known) (number (pos v)) (bits_of es) (es, s, refl))
  shortest (sequence marked cs) (record_of fs more) es s =
      let parts = components_long cs fs s.0 s.1 s.3 in
      sequence_long es (mark_elements marked more) s.1 s.2 (presence_count cs) s.0 _ _ _ s.5 parts.0 parts.1
      (more_length marked more s.2 s.4)
  shortest _ _ es s = absurd s

  components_long : (cs : Components) (fs : Fields) (present : List Bool) (es : List Element)
      → Present false cs fs present es
      → (length (presence_bits cs fs) ≡ length present) × (length (written_bits cs fs) ≤ length (bits_of es))
  components_long no_components no_fields [] es s = (refl, omega arith)
  components_long (required t cs) (field v fs) present es s =
      let others = components_long cs fs present s.1 s.3 in
      (others.0, both_long es s.0 s.1 _ _ s.4 (shortest t v s.0 s.2) others.1)
  components_long (optional t cs) (absent fs) (false ∷ present) es s =
      let others = components_long cs fs present es s in
      (ap suc others.0, others.1)
  components_long (optional t cs) (field v fs) (true ∷ present) es s =
      let others = components_long cs fs present s.1 s.3 in
      (ap suc others.0, both_long es s.0 s.1 _ _ s.4 (shortest t v s.0 s.2) others.1)
  components_long (default t d cs) (field v fs) (false ∷ present) es s =
      let others = components_long cs fs present es s.1 in
      (ap suc others.0, same_written (same_tree v d) _ _ es ((same_tree_decides v d).1 s.0) others.1)
  components_long (default t d cs) (field v fs) (true ∷ present) es s =
      let others = components_long cs fs present s.1 s.4 in
      (ap suc others.0, default_long es s.0 s.1 (same_tree v d) _ _ s.5 (shortest t v s.0 s.3) others.1)
  components_long _ _ _ es s = absurd s

-- a spelling is no longer than its padded octets
spelling_long : (b : List Bool) → length b ≤ 8 * length (padded b)
spelling_long b =
    let pads = (8 - length b % 8) % 8 in
    let long : length (b ++ padding (length b)) ≡ length b + pads =
    length-append b (padding (length b)) ∙ ap (λ n. length b + n) (length-replicate pads false) in
    let octets : length (padded b) ≡ (length b + pads) / 8 =
    length_octets_of ((length b + pads) / 8) (b ++ padding (length b)) (long ∙ pads_whole (length b)) in
    omega (arith, octets, pads_whole (length b))

-- the canonical octets of what octets show have room
pub shown_fits : (octets : List ℕ) (v : Tree) → ShowsTree octets v
    → length (canonical_bits (module_of v) v) ≤ room_bits
shown_fits octets v s =
    let short = shortest (module_of v) v s.spells.0 s.spells.1 in
    omega (
      arith,
      short,
      s.size.1,
      ap length s.spells.2,
      spelling_long s.spelling,
      ap length s.made,
      length-append (padded s.spelling) (replicate s.appended 0),
    )
