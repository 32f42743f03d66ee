-- How many bits the canonical spelling of a value has, one component behind the other.
use Rattle.std.proofs.Common.{◌≡◌, ℕ, suc, ◌+◌, ◌*◌, ◌^◌, ◌<◌, ◌≤◌, Bool, true, false, List, [], ◌∷◌, ◌++◌, length, take, drop, Option, Some, None, Result, refl, sym, ap, subst, ◌∙◌, arith, lit<, w32}
use Rattle.std.specs.Prelude.{is_some, ℤ, pos, neg_ℤ, ◌-ℤ◌, ◌≤ℤ◌, unsigned_abs}
use Rattle.std.specs.Int.{from_bool}
use Rattle.std.specs.Option.{option_map}
use Rattle.std.specs.List.{AllPass}
use Rattle.std.proofs.lemmas.Int.{ints}
use Rattle.std.proofs.lemmas.List.{length-append, length-take, length-drop}
use Rattle.std.proofs.lemmas.List.Elements.{All-head, All-tail, All-take, All-drop}
use Rattle.std.proofs.lemmas.Grind.{get_or_default_zero}
use Rattle.per_bits.specs.Bits.{Part, digits, octets_of}
use Rattle.per_bits.specs.Parts.{Member, Section, IsOid, members_of}
use Rattle.per_bits.proofs.SectionLaws.{members_read}
use Rattle.per_bits.proofs.Digits.{length_digits}
use Rattle.per_types.specs.Kinds as kind
use Rattle.per_types.specs.Kinds.{Element, element, bits_of, alphabet, whole_width, width_of, width_from}
use Rattle.per_types.specs.Types.{Tree, truth, number, text, bytes, record_of, Fields, no_fields, field, Ty, boolean, integer, characters, octet_string, relative_oid, format, sequence, Components, no_components, required, optional, presence_count}
use Rattle.per_types.specs.Spelling.{Elements, Present, MoreElements, SectionElements, TextElements}
use mir.Val.{SFits}
use Rattle.per_types.proofs.Written.{Spelled, whole_spelled, character_spelled, section_elements, format_spelled, string_spelled, string_long, oid_spelled}
use Rattle.per_types.proofs.Canonicals.{one_section}
use Rattle.per_types.specs.Writing.{AppendsSpelling}
use Rattle.msd_values.specs.Alphabet.{is_vin_character}
use Rattle.msd_values.specs.Position.{Way, IsDelta}
use Rattle.msd_values.specs.Vin.{IsVin}
use Rattle.msd_values.specs.declared.msd.Extra.{Extra}
use Rattle.msd_codec.specs.Module.{angle, angle_delta, location_delta, vehicle_identification, known_formats, additional_data}
use Rattle.msd_values.specs.Format.{format_number}
use Rattle.msd_values.specs.declared.format.Format.{Format}
use Rattle.msd_values.specs.declared.format.Format.TheVariants.{One, Two}
use Rattle.msd_codec.specs.Trees.{optional_field, more_of, way_tree, vin_tree, extra_tree}
use Rattle.msd_codec.specs.inner.Writing.{Puts, HasLength, Canon, Optional, Flag}
use Rattle.msd_codec.proofs.Puts.{bits_long, put_of, optional_join, flag_join, Flags}
use Rattle.msd_codec.proofs.Texts.{is_known, text_long}

pub counted : {Is : List Element → Type 0} {m n : ℕ} → HasLength Is m → n ≡ m → HasLength Is n
counted h e = record { elements = h.elements; spelled = h.spelled; count = e ∙ h.count }

-- ---- the components that are left, and the additions behind them

pub record RestHasLength (marked : Bool) (cs : Components) (fs : Fields) (more : Option (List Member)) (ps : List Bool) (bits : ℕ) : Type 0 where
  pub parts : List Element
  pub sect : List Element
  pub present : Present true cs fs ps parts
  pub additions : MoreElements marked more sect
  pub count : bits ≡ length (bits_of parts) + length (bits_of sect)

pub rest_none : RestHasLength false no_components no_fields None [] 0
rest_none = record { parts = []; sect = []; present = refl; additions = refl; count = refl }

pub rest_more_length : {more : Option (List Member)} {n : ℕ} → HasLength (MoreElements true more) n → RestHasLength true no_components no_fields more [] n
rest_more_length h = record { parts = []; sect = h.elements; present = refl; additions = h.spelled; count = h.count ∙ omega arith }

pub required_length : {marked : Bool} {more : Option (List Member)} {cs : Components} {fs : Fields} {ps : List Bool} {t : Ty} {v : Tree} {m n : ℕ} → HasLength (Canon t v) m → RestHasLength marked cs fs more ps n → RestHasLength marked (required t cs) (field v fs) more ps (m + n)
required_length h r = record {
  parts = h.elements ++ r.parts;
  sect = r.sect;
  present = (h.elements, r.parts, h.spelled.spelled, r.present, refl);
  additions = r.additions;
  count = omega (arith, h.count, r.count, bits_long h.elements r.parts);
}

pub optional_length : {marked : Bool} {more : Option (List Member)} {cs : Components} {fs : Fields} {ps : List Bool} {t : Ty} {m n : ℕ} (o : Option Tree) → HasLength (Optional t o) m → RestHasLength marked cs fs more ps n → RestHasLength marked (optional t cs) (optional_field o fs) more (is_some o ∷ ps) (m + n)
optional_length {marked} {more} {cs} {fs} {ps} {t} {m} {n} o h r = record {
  parts = h.elements ++ r.parts;
  sect = r.sect;
  present = optional_join t o cs fs ps h.elements r.parts h.spelled r.present;
  additions = r.additions;
  count = omega (arith, h.count, r.count, bits_long h.elements r.parts);
}

pub flag_length : {marked : Bool} {more : Option (List Member)} {cs : Components} {fs : Fields} {ps : List Bool} {v : Bool} {m n : ℕ} → HasLength (Flag v) m → RestHasLength marked cs fs more ps n → RestHasLength marked (Flags cs) (field (truth v) fs) more (v ∷ ps) (m + n)
flag_length {marked} {more} {cs} {fs} {ps} {v} {m} {n} h r = record {
  parts = h.elements ++ r.parts;
  sect = r.sect;
  present = flag_join v cs fs ps h.elements r.parts h.spelled r.present;
  additions = r.additions;
  count = omega (arith, h.count, r.count, bits_long h.elements r.parts);
}

pub plain_length : {cs : Components} {fs : Fields} {n : ℕ} → RestHasLength false cs fs None [] n → HasLength (Canon (sequence false cs) (record_of fs None)) n
plain_length {cs} {fs} {n} r = record {
  elements = element (kind.presence (presence_count cs)) [] ∷ (r.parts ++ r.sect);
  spelled = record { spelled = ([], r.parts, r.sect, r.present, r.additions, refl) };
  count = r.count ∙ sym (bits_long r.parts r.sect);
}

pub marked_length : {cs : Components} {fs : Fields} {more : Option (List Member)} {ps : List Bool} {n : ℕ} → RestHasLength true cs fs more ps n → HasLength (Canon (sequence true cs) (record_of fs more)) (suc (length ps + n))
marked_length {cs} {fs} {more} {ps} {n} r = record {
  elements = element kind.truth (is_some more ∷ []) ∷ element (kind.presence (presence_count cs)) ps ∷ (r.parts ++ r.sect);
  spelled = record { spelled = (ps, r.parts, r.sect, r.present, r.additions, refl) };
  count = ap suc (omega (arith, r.count, bits_long r.parts r.sect, length-append ps (bits_of (r.parts ++ r.sect))));
}

-- ---- single components

pub spelled_length : (t : Ty) (v : Tree) (b : List Bool) (n : ℕ) → Spelled (Elements true t v) b → length b ≡ n → HasLength (Canon t v) n
spelled_length t v b n s long = record { elements = s.elements; spelled = record { spelled = s.spell }; count = sym (ap length s.bits ∙ long) }

pub optional_none : (t : Ty) (o : Option Tree) → o ≡ None → HasLength (Optional t o) 0
optional_none t None e = record { elements = []; spelled = record { some = tt; none = refl }; count = refl }
optional_none t (Some v) e = absurd cc

pub optional_some : (t : Ty) (o : Option Tree) (v : Tree) (n : ℕ) → o ≡ Some v → HasLength (Canon t v) n → HasLength (Optional t o) n
optional_some t None v n e h = absurd cc
optional_some t (Some w) v n e h =
    let same : v ≡ w = cc e in
    record { elements = h.elements; spelled = record { some = subst (λ (x : Tree). Elements true t x h.elements) same h.spelled.spelled; none = tt }; count = h.count }

pub whole_length : (low high v : ℤ) (width : ℕ) → width ≡ whole_width low high → low ≤ℤ v → v ≤ℤ high → unsigned_abs (v -ℤ low) < 2 ^ width → HasLength (Canon (integer low high) (number v)) width
whole_length low high v width wide above below small = spelled_length (integer low high) (number v) _ width (whole_spelled low high v width (unsigned_abs (v -ℤ low)) wide above below refl small) (length_digits width _)

pub length_same : {t : Ty} {v : Tree} {n : ℕ} (w : Tree) → v ≡ w → HasLength (Canon t v) n → HasLength (Canon t w) n
length_same {t} {v} {n} w e h = subst (λ (x : Tree). HasLength (Canon t x) n) e h

pub angle_length : (z : ℤ) → SFits w32 z → HasLength (Canon angle (number z)) 32
unfolding angle width_of width_from
angle_length z fits = whole_length (neg_ℤ (pos 2147483648)) (pos 2147483647) z 32 refl (grind (arith, ints, fits.sfits)) (grind (arith, ints, fits.sfits)) (grind (arith, ints, fits.sfits))

delta_length : (z : ℤ) → IsDelta z → HasLength (Canon angle_delta (number z)) 10
unfolding angle_delta width_of width_from
delta_length z range = whole_length (neg_ℤ (pos 512)) (pos 511) z 10 refl range.0 range.1 (grind (arith, ints, range.0, range.1))

pub way_length : (way : Way) → IsDelta way.latitude → IsDelta way.longitude → HasLength (Canon location_delta (way_tree way)) 20
unfolding location_delta
way_length way north east = plain_length (required_length (delta_length way.latitude north) (required_length (delta_length way.longitude east) rest_none))

pub truth_length : (v : Bool) → HasLength (Canon boolean (truth v)) 1
truth_length v = record { elements = element kind.truth (v ∷ []) ∷ []; spelled = record { spelled = refl }; count = refl }

pub format_length : (f : Format) → HasLength (Canon (format known_formats) (number (pos (format_number f)))) 8
format_length One = spelled_length (format known_formats) (number (pos 1)) (digits 8 1) 8 (format_spelled known_formats 1 1 refl (lit< tt) (0, lit< tt, refl)) (length_digits 8 1)
format_length Two = spelled_length (format known_formats) (number (pos 2)) (digits 8 2) 8 (format_spelled known_formats 2 2 refl (lit< tt) (1, lit< tt, refl)) (length_digits 8 2)

pub flag_bits : (v : Bool) (n : ℕ) → n ≡ from_bool v → HasLength (Flag v) n
flag_bits true n e = record { elements = element kind.truth (true ∷ []) ∷ []; spelled = record { written = λ h. refl; left = λ h. absurd (cc h) }; count = e }
flag_bits false n e = record { elements = []; spelled = record { written = λ h. absurd (cc h); left = λ h. refl }; count = e }

pub text_spelled : (cs : List ℕ) → AllPass is_vin_character cs → (es : List Element) × TextElements (length cs) cs es
text_spelled [] pass = ([], refl)
text_spelled (c ∷ cs) pass =
    let known = is_known c (All-head (λ x. is_vin_character x ≡ true) c cs pass) in
    let first = character_spelled c known.0 known.0 refl known.1 (sym (get_or_default_zero alphabet known.0 c known.1) ∙ known.2) in
    let rest = text_spelled cs (All-tail (λ x. is_vin_character x ≡ true) c cs pass) in
    (first.elements ++ rest.0, (first.elements, rest.0, first.spell, rest.1, refl))

pub text_length : (n : ℕ) (cs : List ℕ) → length cs ≡ n → AllPass is_vin_character cs → HasLength (Canon (characters n) (text cs)) (6 * n)
text_length n cs long pass =
    let s = text_spelled cs pass in
    let spelled : TextElements n cs s.0 = subst (λ (k : ℕ). TextElements k cs s.0) long s.1 in
    record { elements = s.0; spelled = record { spelled = spelled }; count = sym (text_long n cs s.0 spelled) }

piece_passes : (n off : ℕ) (v : List ℕ) → AllPass is_vin_character v → AllPass is_vin_character (take n (drop off v))
piece_passes n off v pass = All-take (λ x. is_vin_character x ≡ true) n (drop off v) (All-drop (λ x. is_vin_character x ≡ true) off v pass)

piece_long : (n off : ℕ) (v : List ℕ) → length v ≡ 17 → n + off ≤ 17 → length (take n (drop off v)) ≡ n
piece_long n off v long within = length-take n (drop off v) ∙ omega (arith, length-drop off v, long)

pub vin_length : (v : List ℕ) → IsVin v → HasLength (Canon vehicle_identification (vin_tree v)) 102
unfolding vehicle_identification
vin_length v vin =
    plain_length
    (required_length (text_length 3 (take 3 v) (piece_long 3 0 v vin.0 (omega arith)) (piece_passes 3 0 v vin.1))
    (required_length (text_length 6 (take 6 (drop 3 v)) (piece_long 6 3 v vin.0 (omega arith)) (piece_passes 6 3 v vin.1))
    (required_length (text_length 1 (take 1 (drop 9 v)) (piece_long 1 9 v vin.0 (omega arith)) (piece_passes 1 9 v vin.1))
    (required_length (text_length 7 (drop 10 v) (omega (arith, length-drop 10 v, vin.0)) (All-drop (λ x. is_vin_character x ≡ true) 10 v vin.1)) rest_none))))

-- ---- additional data

-- octets, as many as are counted
pub record AreCounted (p : Part) (count : ℕ) : Type 0 where
  pub whole : length p.bits ≡ 8 * count
  pub few : count ≤ 127
  pub number : count ≡ length (octets_of p.bits)

oid_length : (p : Part) (n : ℕ) → AreCounted p n → IsOid (octets_of p.bits) → HasLength (Canon relative_oid (bytes (octets_of p.bits))) (8 + 8 * n)
oid_length p n s oid = spelled_length relative_oid (bytes (octets_of p.bits)) _ (8 + 8 * n) (oid_spelled p p n n refl s.whole s.few s.number refl oid) (string_long p p n n refl s.whole)

string_length : (p : Part) (n : ℕ) → AreCounted p n → HasLength (Canon octet_string (bytes (octets_of p.bits))) (8 + 8 * n)
string_length p n s = spelled_length octet_string (bytes (octets_of p.bits)) _ (8 + 8 * n) (string_spelled p p n n refl s.whole s.few s.number refl) (string_long p p n n refl s.whole)

pub data_length : (x : Extra) (p : Part) (m n : ℕ) → p ≡ x.oid → AreCounted p m → IsOid (octets_of x.oid.bits) → AreCounted x.content n → HasLength (Canon additional_data (extra_tree x)) (8 + 8 * m + (8 + 8 * n + 0))
unfolding additional_data
data_length x p m n is counted_oid oid counted_content =
    plain_length (required_length (oid_length x.oid m (subst (λ (q : Part). AreCounted q m) is counted_oid) oid) (required_length (string_length x.content n counted_content) rest_none))

pub extra_length : (o : Option Extra) (x : Extra) (n : ℕ) → o ≡ Some x → HasLength (Canon additional_data (extra_tree x)) n → HasLength (Optional additional_data (option_map extra_tree o)) n
extra_length o x n e h = optional_some additional_data (option_map extra_tree o) (extra_tree x) n (ap (λ (y : Option Extra). option_map extra_tree y) e) h

-- ---- additions

pub more_length : (a : Part) (members : List Member) → Section members a.bits → HasLength (MoreElements true (Some (members_of a.bits))) (length a.bits)
more_length a members h =
    let s = section_elements members a.bits h in
    record { elements = s.elements; spelled = subst (λ (ms : List Member). SectionElements ms s.elements) (sym (members_read members a.bits h)) s.spell; count = sym (ap length s.bits) }

pub more_some_length : (o : Option Part) (a : Part) → o ≡ Some a → ((members : List Member) × Section members a.bits) → HasLength (MoreElements true (more_of o)) (length a.bits)
more_some_length o a e s = subst (λ (x : Option Part). HasLength (MoreElements true (more_of x)) (length a.bits)) (sym e) (more_length a s.0 s.1)

pub more_none_length : HasLength (MoreElements true None) 0
more_none_length = record { elements = []; spelled = refl; count = refl }

-- ---- a section that is written

pub more_put : {X E : Type 0} (o : Option Part) (a p : Part) (old new : List Bool) (r : Result X E) → o ≡ Some a → p ≡ a → AppendsSpelling (SectionElements (members_of p.bits)) old r new → Puts (MoreElements true (more_of o)) old r new
more_put o a p old new r e same write =
    let here : AppendsSpelling (SectionElements (members_of a.bits)) old r new = subst (λ (x : Part). AppendsSpelling (SectionElements (members_of x.bits)) old r new) same write in
    subst (λ (x : Option Part). Puts (MoreElements true (more_of x)) old r new) (sym e) (put_of (SectionElements (members_of a.bits)) old new r (λ b d x y. ap bits_of (one_section (members_of a.bits) b d x y)) here)
