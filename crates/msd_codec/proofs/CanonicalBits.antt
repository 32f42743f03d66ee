-- The canonical spelling of a value is the one that the function gives.
use Rattle.std.proofs.Common.{◌≡◌, ℕ, zero, suc, ◌-◌, ◌<◌, Bool, true, false, not, ◌&&◌, List, [], ◌∷◌, ◌++◌, length, Option, Some, None, Result, Ok, Err, refl, sym, ap, ◌∙◌, arith, append_assoc, append-nil, ◌≢◌}
use Rattle.std.specs.Prelude.{ℤ, pos, ◌==◌, slice_index, is_err, if◌then◌else◌}
use Rattle.std.specs.Bool.{Decides}
use Rattle.std.specs.Cmp.{booleans_Decides}
use Rattle.std.specs.Cmp.Lexicographic.{pointwise_decides, bytes_decides}
use Rattle.std.specs.List.{flat_map}
use Rattle.std.specs.Option.{option_eq}
use Rattle.std.proofs.lemmas.Bool.{eqb-true, agree_below, agree_below_at}
use Rattle.std.proofs.lemmas.Bool.Decides.{Decides-int_eq, Decides-eqb}
use Rattle.std.proofs.lemmas.Int.{ints}
use Rattle.per_bits.specs.Bits.{digits, value_of, octet_bits, padded, room_bits}
use Rattle.per_bits.specs.Parts.{Member}
use Rattle.per_bits.proofs.Digits.{digits_value}
use Rattle.per_types.specs.Kinds as kind
use Rattle.per_types.specs.Kinds.{Element, element, bits_of, alphabet, span, whole_width, root_width, width_of}
use Rattle.per_types.specs.Types.{Tree, truth, number, text, bytes, root, added, record_of, Fields, no_fields, field, absent, Ty, boolean, integer, characters, octet_string, relative_oid, enumerated, format, sequence, Components, no_components, required, optional, default, presence_count}
use Rattle.per_types.specs.Spelling.{Whole, Character, RootIndex, TextElements, MoreElements, mark_elements, Elements, Present, Canonical}
use Rattle.per_types.proofs.Widths.{only_width}
use Rattle.msd_codec.specs.Formats.{module_of}
use Rattle.msd_codec.specs.Canonical.{alphabet_index, same_additions, same_tree, same_fields, character_bits, string_bits, more_bits, presence_bits, canonical_bits, written_bits, canonical_octets}
use Rattle.msd_codec.specs.Sets.{AreCanonical, NeedsMoreBits}
use Rattle.msd_codec.specs.inner.Writing.{Puts, HasLength, Canon}
use Rattle.msd_codec.proofs.Puts.{bits_append}

-- ---- the test of two values says whether they are the same

option_decides : {X : Type 0} {E : X → X → Bool} → ((x y : X) → Decides (E x y) (x ≡ y)) → (o p : Option X) → Decides (option_eq E o p) (o ≡ p)
option_decides d None None = (λ h. refl, λ e. refl)
option_decides d None (Some y) = (λ h. absurd cc, λ e. absurd cc)
option_decides d (Some x) None = (λ h. absurd cc, λ e. absurd cc)
option_decides {X} d (Some x) (Some y) = (λ h. ap (λ (z : X). Some z) ((d x y).0 h), λ e. (d x y).1 (cc e))

additions_decide : (more others : Option (List Member)) → Decides (same_additions more others) (more ≡ others)
additions_decide = option_decides (pointwise_decides (option_decides bytes_decides))

and_true : (a b : Bool) → (a && b) ≡ true → (a ≡ true) × (b ≡ true)
and_true true b h = (refl, h)
and_true false b h = absurd cc

true_and : (a b : Bool) → a ≡ true → b ≡ true → (a && b) ≡ true
true_and a b e f = rw (e, f) refl

join_record : (fs gs : Fields) (more others : Option (List Member)) → fs ≡ gs → more ≡ others → record_of fs more ≡ record_of gs others
join_record fs gs more others e f = rw (e, f) refl

join_field : (v w : Tree) (fs gs : Fields) → v ≡ w → fs ≡ gs → field v fs ≡ field w gs
join_field v w fs gs e f = rw (e, f) refl

mutual
  unfolding same_tree same_fields

  tree_is : (v w : Tree) → same_tree v w ≡ true → v ≡ w
  tree_is (truth v) (truth w) h = ap (λ (x : Bool). truth x) ((booleans_Decides v w).0 h)
  tree_is (number v) (number w) h = ap (λ (x : ℤ). number x) ((Decides-int_eq v w).0 h)
  tree_is (text cs) (text ds) h = ap (λ (x : List ℕ). text x) ((bytes_decides cs ds).0 h)
  tree_is (bytes os) (bytes ps) h = ap (λ (x : List ℕ). bytes x) ((bytes_decides os ps).0 h)
  tree_is (root i) (root j) h = ap (λ (x : ℕ). root x) ((Decides-eqb i j).0 h)
  tree_is (added i) (added j) h = ap (λ (x : ℕ). added x) ((Decides-eqb i j).0 h)
  tree_is (record_of fs more) (record_of gs others) h =
      let both = and_true (same_fields fs gs) (same_additions more others) h in
      join_record fs gs more others (fields_are fs gs both.0) ((additions_decide more others).0 both.1)
  tree_is _ _ h = absurd cc

  fields_are : (fs gs : Fields) → same_fields fs gs ≡ true → fs ≡ gs
  fields_are no_fields no_fields h = refl
  fields_are (field v fs) (field w gs) h =
      let both = and_true (same_tree v w) (same_fields fs gs) h in
      join_field v w fs gs (tree_is v w both.0) (fields_are fs gs both.1)
  fields_are (absent fs) (absent gs) h = ap (λ (x : Fields). absent x) (fields_are fs gs h)
  fields_are _ _ h = absurd cc

mutual
  unfolding same_tree same_fields

  tree_itself : (v : Tree) → same_tree v v ≡ true
  tree_itself (truth v) = (booleans_Decides v v).1 refl
  tree_itself (number v) = (Decides-int_eq v v).1 refl
  tree_itself (text cs) = (bytes_decides cs cs).1 refl
  tree_itself (bytes os) = (bytes_decides os os).1 refl
  tree_itself (root i) = (Decides-eqb i i).1 refl
  tree_itself (added i) = (Decides-eqb i i).1 refl
  tree_itself (record_of fs more) = true_and _ _ (fields_themselves fs) ((additions_decide more more).1 refl)

  fields_themselves : (fs : Fields) → same_fields fs fs ≡ true
  fields_themselves no_fields = refl
  fields_themselves (field v fs) = true_and _ _ (tree_itself v) (fields_themselves fs)
  fields_themselves (absent fs) = fields_themselves fs

pub same_tree_decides : (v w : Tree) → Decides (same_tree v w) (v ≡ w)
same_tree_decides v w = (tree_is v w, λ e. ap (λ (x : Tree). same_tree v x) (sym e) ∙ tree_itself v)

-- ---- single elements

whole_bits : (low high v : ℤ) (b : List Bool) → Whole low high v b → b ≡ digits (whole_width low high) (span low v)
whole_bits low high v b s =
    let reads : value_of b ≡ span low v = omega (arith, ints, s.reads) in
    sym (digits_value b) ∙ ap (λ n. digits n (value_of b)) (only_width (span low high) (length b) s.width) ∙ ap (digits (whole_width low high)) reads

root_bits : (roots i : ℕ) (b : List Bool) → RootIndex roots i b → b ≡ digits (root_width roots) i
root_bits roots i b s = sym (digits_value b) ∙ ap (λ n. digits n (value_of b)) (only_width (roots - 1) (length b) s.width) ∙ ap (digits (root_width roots)) s.reads

format_bits : (v : ℕ) (b : List Bool) → length b ≡ 8 → v ≡ value_of b → b ≡ digits 8 v
format_bits v b long is = sym (digits_value b) ∙ ap (λ n. digits n (value_of b)) long ∙ ap (digits 8) (sym is)

places : agree_below (λ i. alphabet_index (slice_index alphabet i) == i) (λ i. true) 33 ≡ true
unfolding alphabet_index
places = refl

pub place_is : (i : ℕ) → i < length alphabet → alphabet_index (slice_index alphabet i) ≡ i
place_is i h = eqb-true (alphabet_index (slice_index alphabet i)) i (agree_below_at (λ j. alphabet_index (slice_index alphabet j) == j) (λ j. true) 33 i places h)

character_is : (c : ℕ) (b : List Bool) → Character c b → b ≡ character_bits c
character_is c b s =
    let place : alphabet_index c ≡ value_of b = ap alphabet_index (sym s.reads) ∙ place_is (value_of b) s.known in
    sym (digits_value b) ∙ ap (λ n. digits n (value_of b)) s.width ∙ ap (digits 6) (sym place)

pub text_is : (n : ℕ) (cs : List ℕ) (es : List Element) → TextElements n cs es → bits_of es ≡ flat_map character_bits cs
text_is zero [] es s = ap bits_of s
text_is (suc n) (c ∷ cs) es s =
    ap bits_of s.4 ∙ bits_append s.0 s.1
    ∙ ap (λ (l : List Bool). l ++ bits_of s.1) (ap bits_of s.2.2 ∙ append-nil s.2.0 ∙ character_is c s.2.0 s.2.1)
    ∙ ap (λ (l : List Bool). character_bits c ++ l) (text_is n cs s.1 s.3)
text_is zero (c ∷ cs) es s = absurd s
text_is (suc n) [] es s = absurd s

string_is : (k : kind.Kind) (n : ℕ) (os : List ℕ) (b : List Bool) (es : List Element) → b ≡ false ∷ digits 7 (length os)
    → es ≡ element k b ∷ element (kind.string_octets n) (octet_bits os) ∷ [] → bits_of es ≡ string_bits os
string_is k n os b es long e =
    ap bits_of e ∙ ap (λ (l : List Bool). b ++ l) (append-nil (octet_bits os)) ∙ ap (λ (l : List Bool). l ++ octet_bits os) long

oid_is : (k : kind.Kind) (n : ℕ) (os : List ℕ) (b : List Bool) (es : List Element) → b ≡ false ∷ digits 7 (length os)
    → es ≡ element k b ∷ element (kind.oid_octets n) (octet_bits os) ∷ [] → bits_of es ≡ string_bits os
oid_is k n os b es long e =
    ap bits_of e ∙ ap (λ (l : List Bool). b ++ l) (append-nil (octet_bits os)) ∙ ap (λ (l : List Bool). l ++ octet_bits os) long

more_is : (marked : Bool) (more : Option (List Member)) (es : List Element) → MoreElements marked more es → bits_of es ≡ more_bits more
more_is marked None es s = ap bits_of s
more_is false (Some members) es s = absurd s
more_is true (Some members) es s = ap bits_of s.1

-- ---- values and components

chosen : {X : Type 0} (b : Bool) (x y : X) → b ≡ true → (if b then x else y) ≡ x
chosen b x y e = rw e refl

other : {X : Type 0} (b : Bool) (x y : X) → b ≡ false → (if b then x else y) ≡ y
other b x y e = rw e refl

differs : (v w : Tree) → v ≢ w → same_tree v w ≡ false
differs v w h = by (same_tree v w) refl
  where
    by : (b : Bool) → same_tree v w ≡ b → b ≡ false
    by true e = absurd (h ((same_tree_decides v w).0 e))
    by false e = refl

-- a component that equals its default is left out, and another one is written
left : (b : Bool) (present others : List Bool) → b ≡ true → present ≡ others → false ∷ present ≡ not b ∷ others
left b present others e f = rw (e, f) refl

written : (b : Bool) (present others : List Bool) → b ≡ false → present ≡ others → true ∷ present ≡ not b ∷ others
written b present others e f = rw (e, f) refl

nothing : (b : Bool) (x y z : List Bool) → b ≡ true → y ≡ z → y ≡ (if b then [] else x) ++ z
nothing b x y z e f = rw e f

one_alone : (k : kind.Kind) (b c : List Bool) (es : List Element) → es ≡ element k b ∷ [] → b ≡ c → bits_of es ≡ c
one_alone k b c es e same = ap bits_of e ∙ append-nil b ∙ same

behind_mark : (m : Bool) (k : kind.Kind) (b c : List Bool) (es : List Element) → es ≡ element kind.truth (m ∷ []) ∷ element k b ∷ [] → b ≡ c → bits_of es ≡ m ∷ c
behind_mark m k b c es e same = ap bits_of e ∙ ap (λ (l : List Bool). m ∷ l) (append-nil b ∙ same)

two_parts : (es a rest : List Element) (b c : List Bool) → es ≡ a ++ rest → bits_of a ≡ b → bits_of rest ≡ c → bits_of es ≡ b ++ c
two_parts es a rest b c e f g = ap bits_of e ∙ bits_append a rest ∙ rw (f, g) refl

sequence_is : (es mark parts sect : List Element) (n : ℕ) (present p b c : List Bool) → es ≡ mark ++ element (kind.presence n) present ∷ (parts ++ sect)
    → present ≡ p → bits_of parts ≡ b → bits_of sect ≡ c → bits_of es ≡ bits_of mark ++ p ++ b ++ c
sequence_is es mark parts sect n present p b c e f g h =
    ap bits_of e ∙ bits_append mark (element (kind.presence n) present ∷ (parts ++ sect))
    ∙ ap (λ (l : List Bool). bits_of mark ++ (present ++ l)) (bits_append parts sect)
    ∙ rw (f, g, h, append_assoc, append_assoc) refl

mutual
  unfolding canonical_bits written_bits presence_bits

  bits_are : (t : Ty) (v : Tree) (es : List Element) → Elements true t v es → bits_of es ≡ canonical_bits t v
  bits_are boolean (truth v) es s = ap bits_of s
  bits_are (integer low high) (number v) es s = one_alone (kind.whole low high) s.0 _ es s.2 (whole_bits low high v s.0 s.1)
  bits_are (characters n) (text cs) es s = text_is n cs es s
  bits_are octet_string (bytes os) es s = string_is kind.string_length (length os) os s.0 es s.1.1 s.3
  bits_are relative_oid (bytes os) es s = oid_is kind.oid_length (length os) os s.0 es s.1.1 s.4
  bits_are (enumerated roots) (root i) es s = behind_mark false (kind.root roots) s.0 _ es s.2 (root_bits roots i s.0 s.1)
  bits_are (enumerated roots) (added i) es s = behind_mark true kind.small s.0 _ es s.2 s.1.1
  bits_are (format known) (number (pos v)) es s = one_alone (kind.format known) s.0 _ es s.4 (format_bits v s.0 s.1 s.3)
  bits_are (sequence marked cs) (record_of fs more) es s =
      let parts = components_are cs fs s.0 s.1 s.3 in
      sequence_is es (mark_elements marked more) s.1 s.2 (presence_count cs) s.0 _ _ _ s.5 parts.0 parts.1 (more_is marked more s.2 s.4)
  bits_are _ _ es s = absurd s

  components_are : (cs : Components) (fs : Fields) (present : List Bool) (es : List Element) → Present true cs fs present es → (present ≡ presence_bits cs fs) × (bits_of es ≡ written_bits cs fs)
  components_are no_components no_fields [] es s = (refl, ap bits_of s)
  components_are (required t cs) (field v fs) present es s =
      let others = components_are cs fs present s.1 s.3 in
      (others.0, two_parts es s.0 s.1 _ _ s.4 (bits_are t v s.0 s.2) others.1)
  components_are (optional t cs) (absent fs) (false ∷ present) es s =
      let others = components_are cs fs present es s in
      (ap (λ (l : List Bool). false ∷ l) others.0, others.1)
  components_are (optional t cs) (field v fs) (true ∷ present) es s =
      let others = components_are cs fs present s.1 s.3 in
      (ap (λ (l : List Bool). true ∷ l) others.0, two_parts es s.0 s.1 _ _ s.4 (bits_are t v s.0 s.2) others.1)
  components_are (default t d cs) (field v fs) (false ∷ present) es s =
      let others = components_are cs fs present es s.1 in
      let same = (same_tree_decides v d).1 s.0 in
      (left (same_tree v d) present _ same others.0, nothing (same_tree v d) (canonical_bits t v) _ _ same others.1)
  components_are (default t d cs) (field v fs) (true ∷ present) es s =
      let others = components_are cs fs present s.1 s.4 in
      let apart = differs v d (s.2 refl) in
      (written (same_tree v d) present _ apart others.0, two_parts es s.0 s.1 _ _ s.5 (bits_are t v s.0 s.3 ∙ sym (other (same_tree v d) [] (canonical_bits t v) apart)) others.1)
  components_are _ _ _ es s = absurd s

-- ---- the laws

pub canonical_is : (t : Ty) (v : Tree) (b : List Bool) → Canonical t v b → b ≡ canonical_bits t v
canonical_is t v b c = c.2 ∙ bits_are t v c.0 c.1

pub octets_are : (v : Tree) (o : List ℕ) → AreCanonical o v → o ≡ canonical_octets v
octets_are v o c = c.made ∙ ap padded (canonical_is (module_of v) v c.spelling c.canonical)

pub needed : (v : Tree) (n : ℕ) → NeedsMoreBits v n → (n ≡ length (canonical_bits (module_of v) v)) × (room_bits < n)
needed v n s = (s.count ∙ ap length (canonical_is (module_of v) v s.spelling s.canonical), omega (arith, s.long, s.count))

-- what a writer that went on put into an empty buffer
pub put_alone : {X E : Type 0} (t : Ty) (v : Tree) (old new : List Bool) (r : Result X E) → Puts (Canon t v) old r new → old ≡ [] → is_err r ≡ false → new ≡ canonical_bits t v
put_alone t v old new (Ok x) p none good = p.ok.2 ∙ ap (λ (l : List Bool). l ++ bits_of p.ok.0) none ∙ bits_are t v p.ok.0 p.ok.1.spelled
put_alone t v old new (Err x) p none good = absurd cc

-- how many bits a counted spelling has
pub length_is : (t : Ty) (v : Tree) (n : ℕ) → HasLength (Canon t v) n → n ≡ length (canonical_bits t v)
length_is t v n h = h.count ∙ ap length (bits_are t v h.elements h.spelled.spelled)
