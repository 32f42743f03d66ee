-- Each value of the module's types is that of a set of data: its borrowed parts are made of the bits that
-- spell them.
use Rattle.std.proofs.Common.{◌≡◌, ℕ, zero, suc, Bool, true, false, List, [], ◌∷◌, ◌++◌, length, Option, Some, None, refl, sym, ap, subst, ◌∙◌, arith}
use Rattle.std.specs.Prelude.{ℤ, pos, negsuc, IfSome}
use Rattle.std.specs.Option.{option_map}
use Rattle.std.proofs.lemmas.Int.{ints}
use Rattle.per_bits.specs.Bits.{Part, octets_of, all_bits}
use Rattle.per_bits.specs.Parts.{Member}
use Rattle.per_bits.proofs.Octets.{octets_of_bits}
use Rattle.per_types.specs.Kinds.{Element, bits_of}
use Rattle.per_types.specs.Types.{Tree, truth, number, text, bytes, root, added, record_of, Fields, no_fields, field, absent, Ty, boolean, integer, characters, octet_string, relative_oid, enumerated, format, sequence, Components, no_components, required, optional, default}
use Rattle.per_types.specs.Spelling.{Elements, Present, MoreElements, TextElements}
use Rattle.per_bits.proofs.SectionLaws.{members_read}
use Rattle.msd_values.specs.Position.{Way}
use Rattle.msd_values.specs.declared.kind.VehicleKind.{VehicleKind}
use Rattle.msd_values.specs.declared.kind.VehicleKind.TheVariants.{Root, Added}
use Rattle.msd_values.specs.declared.msd.Marks.{Marks}
use Rattle.msd_values.specs.declared.msd.Extra.{Extra}
use Rattle.msd_values.specs.declared.msd.Msd.{Msd}
use Rattle.msd_codec.specs.Module.{octet, timestamp, angle, angle_delta, vehicle_type, control_type, vehicle_identification, other_storage, storages, propulsion_storage, vehicle_location, location_delta, msd_structure, additional_data, known_formats, msd_message, ecall_message}
use Rattle.msd_codec.specs.Trees.{count_tree, optional_field, more_of, kind_tree, control_tree, vin_tree, other_field, storage_tree, way_tree, extra_tree, structure_tree, message_tree, tree}
use Rattle.msd_codec.proofs.Steps.{known_number}
use Rattle.msd_codec.specs.Formats.{format_in, module_of}
use Rattle.msd_values.specs.Format.{format_number, HasMarks}
use Rattle.msd_values.specs.declared.format.Format.{Format}
use Rattle.msd_values.specs.declared.format.Format.TheVariants.{One, Two}
use Rattle.std.specs.List.{Contains}
use Rattle.msd_codec.proofs.Identification.{cut}

-- ---- single elements

count_with : (low high : ℕ) (t : Tree) (es : List Element) → Elements false (integer (pos low) (pos high)) t es → (n : ℕ) × (count_tree n ≡ t)
count_with low high (number (pos n)) es s = (n, refl)
count_with low high (number (negsuc n)) es s = absurd (omega (arith, ints, s.1.above))
count_with low high _ es s = absurd s

number_with : (low high : ℤ) (t : Tree) (es : List Element) → Elements false (integer low high) t es → (z : ℤ) × (number z ≡ t)
number_with low high (number z) es s = (z, refl)
number_with low high _ es s = absurd s

truth_of : (t : Tree) (es : List Element) → Elements false boolean t es → (b : Bool) × (truth b ≡ t)
truth_of (truth b) es s = (b, refl)
truth_of _ es s = absurd s

kind_with : (t : Tree) (es : List Element) → Elements false (enumerated 13) t es → (kind : VehicleKind) × (kind_tree kind ≡ t)
kind_with (root i) es s = (Root (suc i), ap root (omega arith))
kind_with (added i) es s = (Added i, refl)
kind_with _ es s = absurd s

text_size : (n : ℕ) (cs : List ℕ) (es : List Element) → TextElements n cs es → length cs ≡ n
text_size zero [] es s = refl
text_size (suc n) (c ∷ cs) es s = ap suc (text_size n cs s.1 s.3)
text_size zero (c ∷ cs) es s = absurd s
text_size (suc n) [] es s = absurd s

text_with : (n : ℕ) (t : Tree) (es : List Element) → Elements false (characters n) t es → (cs : List ℕ) × (length cs ≡ n) × (text cs ≡ t)
text_with n (text cs) es s = (cs, text_size n cs es s, refl)
text_with n _ es s = absurd s

string_with : (t : Tree) (es : List Element) → Elements false octet_string t es → (part : Part) × (bytes (octets_of part.bits) ≡ t)
string_with (bytes os) es s = (all_bits os, ap bytes (octets_of_bits os s.2))
string_with _ es s = absurd s

oid_with : (t : Tree) (es : List Element) → Elements false relative_oid t es → (part : Part) × (bytes (octets_of part.bits) ≡ t)
oid_with (bytes os) es s = (all_bits os, ap bytes (octets_of_bits os s.2))
oid_with _ es s = absurd s

-- the number of a format is that of the format which it names
format_with : (t : Tree) (fs : Fields) (es : List Element) → Elements false (format known_formats) t es → count_tree (format_number (format_in (record_of (field t fs) None))) ≡ t
format_with (number (pos n)) fs es s = ap count_tree (known_number n (subst (λ (k : ℕ). Contains known_formats k) (sym s.3) s.2))
format_with (number (negsuc n)) fs es s = absurd s
format_with _ fs es s = absurd s

more_part : (more : Option (List Member)) (es : List Element) → MoreElements true more es → (o : Option Part) × (more_of o ≡ more)
more_part None es s = (None, refl)
more_part (Some members) es s = (Some (record { all = bits_of es; start = 0; bits = bits_of es }), ap (λ (ms : List Member). Some ms) (members_read members (bits_of es) s.0))

-- ---- sequences

record_is : {fs gs : Fields} {m n : Option (List Member)} → fs ≡ gs → m ≡ n → record_of fs m ≡ record_of gs n
record_is e f = rw (e, f) refl

field_is : {a b : Tree} {fs gs : Fields} → a ≡ b → fs ≡ gs → field a fs ≡ field b gs
field_is e f = rw (e, f) refl

optional_same : {a b : Option Tree} {fs gs : Fields} → a ≡ b → fs ≡ gs → optional_field a fs ≡ optional_field b gs
optional_same e f = rw (e, f) refl

-- some elements spell the value; and the components, by some presence bits
record IsSpelled (t : Ty) (v : Tree) : Type 0 where
  elements : List Element
  spelled : Elements false t v elements

record AreSpelled (cs : Components) (fs : Fields) : Type 0 where
  present : List Bool
  elements : List Element
  spelled : Present false cs fs present elements

record Sequence (marked : Bool) (cs : Components) (t : Tree) : Type 0 where
  fields : Fields
  more : Option (List Member)
  is : record_of fields more ≡ t
  parts : AreSpelled cs fields
  behind_it : List Element
  additions : MoreElements marked more behind_it

sequence_with : (marked : Bool) (cs : Components) (t : Tree) (es : List Element) → Elements false (sequence marked cs) t es → Sequence marked cs t
sequence_with marked cs (record_of fs more) es s =
    record { fields = fs; more = more; is = refl; parts = record { present = s.0; elements = s.1; spelled = s.3 }; behind_it = s.2; additions = s.4 }
sequence_with marked cs _ es s = absurd s

sequence_of : {marked : Bool} {cs : Components} {t : Tree} → IsSpelled (sequence marked cs) t → Sequence marked cs t
sequence_of {marked} {cs} {t} s = sequence_with marked cs t s.elements s.spelled

no_more : (more : Option (List Member)) (es : List Element) → MoreElements false more es → None ≡ more
no_more None es s = refl
no_more (Some members) es s = absurd s

record Required (t : Ty) (cs : Components) (fs : Fields) : Type 0 where
  value : Tree
  others : Fields
  is : field value others ≡ fs
  spelled : IsSpelled t value
  more : AreSpelled cs others

required_with : (t : Ty) (cs : Components) (fs : Fields) (present : List Bool) (es : List Element) → Present false (required t cs) fs present es → Required t cs fs
required_with t cs (field v fs) present es s =
    record { value = v; others = fs; is = refl; spelled = record { elements = s.0; spelled = s.2 }; more = record { present = present; elements = s.1; spelled = s.3 } }
required_with t cs _ present es s = absurd s

required_of : {t : Ty} {cs : Components} {fs : Fields} → AreSpelled (required t cs) fs → Required t cs fs
required_of {t} {cs} {fs} s = required_with t cs fs s.present s.elements s.spelled

record Optional (t : Ty) (cs : Components) (fs : Fields) : Type 0 where
  value : Option Tree
  others : Fields
  is : optional_field value others ≡ fs
  spelled : IfSome value (λ v. IsSpelled t v)
  more : AreSpelled cs others

optional_with : (t : Ty) (cs : Components) (fs : Fields) (present : List Bool) (es : List Element) → Present false (optional t cs) fs present es → Optional t cs fs
optional_with t cs (field v fs) (true ∷ present) es s =
    record { value = Some v; others = fs; is = refl; spelled = record { elements = s.0; spelled = s.2 }; more = record { present = present; elements = s.1; spelled = s.3 } }
optional_with t cs (absent fs) (false ∷ present) es s = record { value = None; others = fs; is = refl; spelled = tt; more = record { present = present; elements = es; spelled = s } }
optional_with t cs _ _ es s = absurd s

optional_of : {t : Ty} {cs : Components} {fs : Fields} → AreSpelled (optional t cs) fs → Optional t cs fs
optional_of {t} {cs} {fs} s = optional_with t cs fs s.present s.elements s.spelled

-- a BOOLEAN DEFAULT FALSE
record Flagged (cs : Components) (fs : Fields) : Type 0 where
  value : Bool
  others : Fields
  is : field (truth value) others ≡ fs
  more : AreSpelled cs others

flagged_with : (cs : Components) (fs : Fields) (present : List Bool) (es : List Element) → Present false (default boolean (truth false) cs) fs present es → Flagged cs fs
flagged_with cs (field v fs) (true ∷ present) es s =
    let b = truth_of v s.0 s.3 in
    record { value = b.0; others = fs; is = field_is b.1 refl; more = record { present = present; elements = s.1; spelled = s.4 } }
flagged_with cs (field v fs) (false ∷ present) es s = record { value = false; others = fs; is = field_is (sym s.0) refl; more = record { present = present; elements = es; spelled = s.1 } }
flagged_with cs _ _ es s = absurd s

flagged_of : {cs : Components} {fs : Fields} → AreSpelled (default boolean (truth false) cs) fs → Flagged cs fs
flagged_of {cs} {fs} s = flagged_with cs fs s.present s.elements s.spelled

none_with : (fs : Fields) (present : List Bool) (es : List Element) → Present false no_components fs present es → no_fields ≡ fs
none_with no_fields present es s = refl
none_with _ present es s = absurd s

none_of : {fs : Fields} → AreSpelled no_components fs → no_fields ≡ fs
none_of {fs} s = none_with fs s.present s.elements s.spelled

-- ---- elements as types

count_of : (low high : ℕ) (t : Tree) → IsSpelled (integer (pos low) (pos high)) t → (n : ℕ) × (count_tree n ≡ t)
count_of low high t s = count_with low high t s.elements s.spelled

number_of : (low high : ℤ) (t : Tree) → IsSpelled (integer low high) t → (z : ℤ) × (number z ≡ t)
number_of low high t s = number_with low high t s.elements s.spelled

kind_of : (t : Tree) → IsSpelled (enumerated 13) t → (kind : VehicleKind) × (kind_tree kind ≡ t)
kind_of t s = kind_with t s.elements s.spelled

text_of : (n : ℕ) (t : Tree) → IsSpelled (characters n) t → (cs : List ℕ) × (length cs ≡ n) × (text cs ≡ t)
text_of n t s = text_with n t s.elements s.spelled

string_of : (t : Tree) → IsSpelled octet_string t → (part : Part) × (bytes (octets_of part.bits) ≡ t)
string_of t s = string_with t s.elements s.spelled

oid_of : (t : Tree) → IsSpelled relative_oid t → (part : Part) × (bytes (octets_of part.bits) ≡ t)
oid_of t s = oid_with t s.elements s.spelled

-- ---- the module's types

control_of : (t : Tree) → IsSpelled control_type t → (automatic test trusted : Bool) × (kind : VehicleKind) × (control_tree automatic test trusted kind ≡ t)
unfolding control_type vehicle_type
control_of t s =
    let whole_of = sequence_of s in
    let a = required_of whole_of.parts in
    let b = required_of a.more in
    let c = required_of b.more in
    let d = required_of c.more in
    let automatic = truth_of a.value a.spelled.elements a.spelled.spelled in
    let test = truth_of b.value b.spelled.elements b.spelled.spelled in
    let trusted = truth_of c.value c.spelled.elements c.spelled.spelled in
    let kind = kind_of d.value d.spelled in
    let last = field_is kind.1 (none_of d.more) ∙ d.is in
    (automatic.0, test.0, trusted.0, kind.0, record_is (field_is automatic.1 (field_is test.1 (field_is trusted.1 last ∙ c.is) ∙ b.is) ∙ a.is) (no_more _ _ whole_of.additions) ∙ whole_of.is)

vin_of : (t : Tree) → IsSpelled vehicle_identification t → (vin : List ℕ) × (vin_tree vin ≡ t)
unfolding vehicle_identification
vin_of t s =
    let whole_of = sequence_of s in
    let a = required_of whole_of.parts in
    let b = required_of a.more in
    let c = required_of b.more in
    let d = required_of c.more in
    let u = text_of 3 a.value a.spelled in
    let v = text_of 6 b.value b.spelled in
    let w = text_of 1 c.value c.spelled in
    let x = text_of 7 d.value d.spelled in
    let parts = cut u.0 v.0 w.0 x.0 u.1 v.1 w.1 x.1 in
    let last = field_is (ap text parts.3 ∙ x.2) (none_of d.more) ∙ d.is in
    let third = field_is (ap text parts.2 ∙ w.2) last ∙ c.is in
    let second = field_is (ap text parts.1 ∙ v.2) third ∙ b.is in
    (u.0 ++ (v.0 ++ (w.0 ++ x.0)), record_is (field_is (ap text parts.0 ∙ u.2) second ∙ a.is) (no_more _ _ whole_of.additions) ∙ whole_of.is)

-- the mark of other energies, which is not set in format 1
other_of : (f : Format) (fs : Fields) → AreSpelled (other_storage f) fs → (other : Bool) × (other_field f other ≡ fs) × (f ≡ One → other ≡ false)
other_of One fs s = (false, none_of s, λ e. refl)
other_of Two fs s = let g = flagged_of s in (g.value, field_is refl (none_of g.more) ∙ g.is, λ e. absurd cc)

storage_of : (form : Format) (t : Tree) → IsSpelled (propulsion_storage form) t → (fuel : Marks) × (more : Option Part) × (storage_tree form fuel more ≡ t) × HasMarks form fuel
unfolding propulsion_storage storages
storage_of form t s =
    let whole_of = sequence_of s in
    let a = flagged_of whole_of.parts in
    let b = flagged_of a.more in
    let c = flagged_of b.more in
    let d = flagged_of c.more in
    let e = flagged_of d.more in
    let f = flagged_of e.more in
    let other = other_of form f.others f.more in
    let more = more_part whole_of.more whole_of.behind_it whole_of.additions in
    let later = field_is refl (field_is refl (field_is refl other.1 ∙ f.is) ∙ e.is) ∙ d.is in
    let fields = field_is refl (field_is refl (field_is refl later ∙ c.is) ∙ b.is) ∙ a.is in
    let fuel : Marks = record { gasoline = a.value; diesel = b.value; natural_gas = c.value; propane = d.value; electric = e.value; hydrogen = f.value; other = other.0 } in
    (fuel, more.0, record_is fields more.1 ∙ whole_of.is, other.2)

pair_of : (low high : ℤ) (t : Tree) → IsSpelled (sequence false (required (integer low high) (required (integer low high) no_components))) t → (way : Way) × (way_tree way ≡ t)
pair_of low high t s =
    let whole_of = sequence_of s in
    let a = required_of whole_of.parts in
    let b = required_of a.more in
    let north = number_of low high a.value a.spelled in
    let east = number_of low high b.value b.spelled in
    (record { latitude = north.0; longitude = east.0 }, record_is (field_is north.1 (field_is east.1 (none_of b.more) ∙ b.is) ∙ a.is) (no_more _ _ whole_of.additions) ∙ whole_of.is)

location_of : (t : Tree) → IsSpelled vehicle_location t → (way : Way) × (way_tree way ≡ t)
unfolding vehicle_location angle
location_of t s = pair_of _ _ t s

delta_of : (t : Tree) → IsSpelled location_delta t → (way : Way) × (way_tree way ≡ t)
unfolding location_delta angle_delta
delta_of t s = pair_of _ _ t s

octet_of : (t : Tree) → IsSpelled octet t → (n : ℕ) × (count_tree n ≡ t)
unfolding octet
octet_of t s = count_of 0 255 t s

timestamp_of : (t : Tree) → IsSpelled timestamp t → (n : ℕ) × (count_tree n ≡ t)
unfolding timestamp
timestamp_of t s = count_of 0 4294967295 t s

extra_of : (t : Tree) → IsSpelled additional_data t → (extra : Extra) × (extra_tree extra ≡ t)
unfolding additional_data
extra_of t s =
    let whole_of = sequence_of s in
    let a = required_of whole_of.parts in
    let b = required_of a.more in
    let oid = oid_of a.value a.spelled in
    let content = string_of b.value b.spelled in
    (record { oid = oid.0; content = content.0 }, record_is (field_is oid.1 (field_is content.1 (none_of b.more) ∙ b.is) ∙ a.is) (no_more _ _ whole_of.additions) ∙ whole_of.is)

-- a component that may be absent, where each value of its type is some thing's
maybe_of : {X : Type 0} (t : Ty) (view : X → Tree) → ((v : Tree) → IsSpelled t v → (x : X) × (view x ≡ v)) → (value : Option Tree) → IfSome value (λ v. IsSpelled t v) → (o : Option X) × (option_map view o ≡ value)
maybe_of t view each None s = (None, refl)
maybe_of t view each (Some v) s = let x = each v s in (Some x.0, ap (λ (y : Tree). Some y) x.1)

structure_of : (form : Format) (extra : Option Extra) (message_more : Option Part) (t : Tree) → IsSpelled (msd_structure form) t → (msd : Msd) × (structure_tree msd ≡ t) × (msd.extra ≡ extra) × (msd.message_more ≡ message_more) × (msd.format ≡ form)
unfolding msd_structure
structure_of form extra message_more t s =
    let whole_of = sequence_of s in
    let a = required_of whole_of.parts in
    let b = required_of a.more in
    let c = required_of b.more in
    let d = required_of c.more in
    let e = required_of d.more in
    let f = required_of e.more in
    let g = required_of f.more in
    let h = optional_of g.more in
    let i = optional_of h.more in
    let j = optional_of i.more in
    let message = octet_of a.value a.spelled in
    let control = control_of b.value b.spelled in
    let vin = vin_of c.value c.spelled in
    let storage = storage_of form d.value d.spelled in
    let time = timestamp_of e.value e.spelled in
    let location = location_of f.value f.spelled in
    let heading = octet_of g.value g.spelled in
    let before1 = maybe_of location_delta way_tree delta_of h.value h.spelled in
    let before2 = maybe_of location_delta way_tree delta_of i.value i.spelled in
    let passengers = maybe_of octet count_tree octet_of j.value j.spelled in
    let more = more_part whole_of.more whole_of.behind_it whole_of.additions in
    let options = optional_same before1.1 (optional_same before2.1 (optional_same passengers.1 (none_of j.more) ∙ j.is) ∙ i.is) ∙ h.is in
    let later = field_is time.1 (field_is location.1 (field_is heading.1 options ∙ g.is) ∙ f.is) ∙ e.is in
    let fields = field_is message.1 (field_is control.4 (field_is vin.1 (field_is storage.2 later ∙ d.is) ∙ c.is) ∙ b.is) ∙ a.is in (
      record {
        format = form;
        message = message.0;
        automatic = control.0;
        test = control.1;
        trusted = control.2;
        kind = control.3;
        vin = vin.0;
        fuel = storage.0;
        marks = storage.3;
        fuel_more = storage.1;
        time = time.0;
        latitude = location.0.latitude;
        longitude = location.0.longitude;
        heading = heading.0;
        before1 = before1.0;
        before2 = before2.0;
        passengers = passengers.0;
        set_more = more.0;
        extra = extra;
        message_more = message_more;
      },
      record_is fields more.1 ∙ whole_of.is,
      refl,
      refl,
      refl,
    )

message_of : (form : Format) (t : Tree) → IsSpelled (msd_message form) t → (msd : Msd) × (message_tree msd ≡ t) × (msd.format ≡ form)
unfolding msd_message
message_of form t s =
    let whole_of = sequence_of s in
    let a = required_of whole_of.parts in
    let b = optional_of a.more in
    let extra = maybe_of additional_data extra_tree extra_of b.value b.spelled in
    let more = more_part whole_of.more whole_of.behind_it whole_of.additions in
    let msd = structure_of form extra.0 more.0 a.value a.spelled in
    let further : option_map extra_tree msd.0.extra ≡ b.value = ap (λ (o : Option Extra). option_map extra_tree o) msd.2 ∙ extra.1 in
    let additions : more_of msd.0.message_more ≡ whole_of.more = ap (λ (o : Option Part). more_of o) msd.3 ∙ more.1 in
    (msd.0, record_is (field_is msd.1 (optional_same further (none_of b.more) ∙ b.is) ∙ a.is) additions ∙ whole_of.is, msd.4)

-- each value of a module with the number of its format is a set of data
pub set_of : (t : Tree) (es : List Element) → Elements false (module_of t) t es → (msd : Msd) × (tree msd ≡ t)
unfolding ecall_message
set_of t es s =
    let spelled : IsSpelled (module_of t) t = record { elements = es; spelled = s } in
    let whole_of = sequence_of spelled in
    let a = required_of whole_of.parts in
    let b = required_of a.more in
    let msd = message_of (format_in t) b.value b.spelled in
    let rest = field_is msd.1 (none_of b.more) ∙ b.is in
    let whole = record_is (field_is refl rest ∙ a.is) (no_more _ _ whole_of.additions) ∙ whole_of.is in
    let id = ap (λ (v : Tree). count_tree (format_number (format_in v))) (sym whole) ∙ format_with a.value _ a.spelled.elements a.spelled.spelled in
    (msd.0, record_is (field_is (ap (λ (f : Format). count_tree (format_number f)) msd.2 ∙ id) refl) refl ∙ whole)
