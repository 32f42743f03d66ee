-- The two modules as one: the elements up to the number of the format are the same in both, and what follows is read by
-- the module that this number names. So the reading of a set is the only one.
use Rattle.std.proofs.Common.{◌≡◌, ℕ, Bool, false, List, [], ◌∷◌, ◌++◌, Ok, Err, refl, sym, ap, subst, ◌∙◌, append-nil, lit<, arith}
use Rattle.std.proofs.lemmas.Int.{ints}
use Rattle.std.specs.Prelude.{pos, negsuc, Option}
use Rattle.std.specs.List.{Contains}
use Rattle.per_bits.specs.Bits.{Part, value_of}
use Rattle.per_bits.specs.Parts.{Member}
use Rattle.msd_values.specs.declared.format.Format.{Format}
use Rattle.msd_values.specs.declared.format.Format.TheVariants.{One, Two}
use Rattle.per_types.specs.Kinds as kind
use Rattle.per_types.specs.Kinds.{Element, element, bits_of}
use Rattle.per_types.specs.Types.{Tree, number, record_of, Fields, field, format, Components, no_components, required}
use Rattle.per_types.specs.Spelling.{Elements, Present, Spells}
use Rattle.per_types.specs.Stops.{Read, IsOnlyReading, HasValues, HaveValues, element_at}
use Rattle.per_types.specs.Reading.{◌>>=◌, format_at, presence_at, tree_at}
use Rattle.per_types.proofs.Plans.{Plan, done, ask, run, Path, Live, Follows}
use Rattle.per_types.proofs.TypePlans.{plan, follows_type, plan_asked}
use Rattle.per_types.proofs.Lives.{live_type}
use Rattle.per_types.proofs.Readings.{tree_run}
use Rattle.per_types.proofs.Decided.{only_reading, one_path}
use Rattle.msd_codec.specs.Module.{octet, timestamp, angle, angle_delta, vehicle_type, control_type, vehicle_identification, other_storage, storages, propulsion_storage, vehicle_location, location_delta, msd_structure, additional_data, known_formats, msd_message, ecall_message}
use Rattle.msd_codec.specs.Formats.{format_of, format_in, module_of, SetElements}
use Rattle.msd_codec.specs.Reading.{set_at}
use Rattle.msd_values.specs.Format.{format_number}
use Rattle.msd_values.specs.declared.msd.Msd.{Msd}
use Rattle.msd_codec.specs.Trees.{tree}
use Rattle.msd_codec.proofs.Steps.{no_presence}

-- ---- each type of the modules has values

has_octet : HasValues octet
unfolding octet
has_octet = omega (arith, ints)

has_timestamp : HasValues timestamp
unfolding timestamp
has_timestamp = omega (arith, ints)

has_location : HasValues vehicle_location
unfolding vehicle_location angle
has_location = (omega (arith, ints), (omega (arith, ints), tt))

has_delta : HasValues location_delta
unfolding location_delta angle_delta
has_delta = (omega (arith, ints), (omega (arith, ints), tt))

has_control : HasValues control_type
unfolding control_type vehicle_type
has_control = (tt, (tt, (tt, (omega arith, tt))))

has_identification : HasValues vehicle_identification
unfolding vehicle_identification
has_identification = (tt, (tt, (tt, (tt, tt))))

has_other : (f : Format) → HaveValues (other_storage f)
has_other One = tt
has_other Two = (tt, tt)

has_storage : (f : Format) → HasValues (propulsion_storage f)
unfolding propulsion_storage storages
has_storage f = (tt, (tt, (tt, (tt, (tt, (tt, has_other f))))))

has_structure : (f : Format) → HasValues (msd_structure f)
unfolding msd_structure
has_structure f = (has_octet, (has_control, (has_identification, (has_storage f, (has_timestamp, (has_location, (has_octet, (has_delta, (has_delta, (has_octet, tt))))))))))

has_extra : HasValues additional_data
unfolding additional_data
has_extra = (tt, (tt, tt))

has_message : (f : Format) → HasValues (msd_message f)
unfolding msd_message
has_message f = (has_structure f, (has_extra, tt))

has_values : (f : Format) → HasValues (ecall_message f)
unfolding ecall_message
has_values f = ((1, lit< tt, (0, lit< tt, refl)), (has_message f, tt))

-- the module of a set of data is that of its format
pub format_is : (f : Format) → format_of (format_number f) ≡ f
format_is One = refl
format_is Two = refl

pub module_is : (msd : Msd) → module_of (tree msd) ≡ ecall_message msd.format
module_is msd = ap ecall_message (format_is msd.format)

-- ---- what a spelled value begins with

-- no presence bits, and the number of the format
pub record Begins (v : Tree) (es : List Element) : Type 0 where
  pub id : ℕ
  pub bits : List Bool
  pub present : List Bool
  pub rest : List Element
  pub reads : id ≡ value_of bits
  pub known : Contains known_formats id
  pub named : format_in v ≡ format_of id
  pub elements : es ≡ element (kind.presence 0) present ∷ element (kind.format known_formats) bits ∷ rest

begins_in : (cs : Components) (fs : Fields) (more : Option (List Member)) (present : List Bool) (parts sect es : List Element) → Present false (required (format known_formats) cs) fs present parts
    → es ≡ element (kind.presence 0) present ∷ (parts ++ sect) → Begins (record_of fs more) es
begins_in cs (field (number (pos n)) fs) more present parts sect es s e = record {
  id = n;
  bits = s.2.0;
  present = present;
  rest = s.1 ++ sect;
  reads = s.2.3;
  known = subst (λ (k : ℕ). Contains known_formats k) (sym s.2.3) s.2.2;
  named = refl;
  elements = e ∙ ap (λ (l : List Element). element (kind.presence 0) present ∷ (l ++ sect)) (s.4 ∙ ap (λ (l : List Element). l ++ s.1) s.2.4);
}
begins_in cs (field (number (negsuc n)) fs) more present parts sect es s e = absurd s.2
begins_in cs (field _ fs) more present parts sect es s e = absurd s.2
begins_in cs _ more present parts sect es s e = absurd s

pub begins : (f : Format) (v : Tree) (es : List Element) → Elements false (ecall_message f) v es → Begins v es
unfolding ecall_message
begins f (record_of fs more) es s = begins_in (required (msd_message f) no_components) fs more s.0 s.1 s.2 es s.3 s.5
begins f _ es s = absurd s

-- ---- the plan of both

abbrev behind_ask : Plan Tree → List Bool → Plan Tree
behind_ask (done v) b = done v
behind_ask (ask k next_of) b = next_of b

-- what is asked behind the presence bits, of which there are none, and the number of the format
abbrev rest_plan : Format → List Bool → List Bool → Plan Tree
rest_plan f present b = behind_ask (behind_ask (plan (ecall_message f)) present) b

abbrev set_plan : Plan Tree
set_plan = ask (kind.presence 0) (λ present. ask (kind.format known_formats) (λ b. rest_plan (format_of (value_of b)) present b))

named_path : (f : Format) (v : Tree) (present b : List Bool) (rest : List Element) → f ≡ format_of (value_of b) → Path (plan (ecall_message f)) (element (kind.presence 0) present ∷ element (kind.format known_formats) b ∷ rest) v
    → Path set_plan (element (kind.presence 0) present ∷ element (kind.format known_formats) b ∷ rest) v
unfolding ecall_message
named_path f v present b rest e path = subst (λ (g : Format). Path (plan (ecall_message g)) (element (kind.presence 0) present ∷ element (kind.format known_formats) b ∷ rest) v) e path

set_asked : (v : Tree) (es : List Element) → SetElements v es → Path set_plan es v
set_asked v es s =
    let b = begins (format_in v) v es s in
    subst (λ (l : List Element). Path set_plan l v) (sym b.elements)
    (named_path (format_in v) v b.present b.bits b.rest (b.named ∙ ap format_of b.reads) (subst (λ (l : List Element). Path (plan (module_of v)) l v) b.elements (plan_asked (module_of v) v es s)))

second : (a b c d : Element) (es ds : List Element) → (a ∷ b ∷ es) ≡ (c ∷ d ∷ ds) → b ≡ d
second a b c d es ds h = cc

set_spelled : (v : Tree) (es : List Element) → Path set_plan es v → SetElements v es
unfolding ecall_message
set_spelled v [] path = absurd path
set_spelled v (e ∷ []) path = absurd path.2
set_spelled v (e ∷ d ∷ es) path =
    let f = format_of (value_of d.bits) in
    let s : Elements false (ecall_message f) v (e ∷ d ∷ es) = (follows_type (ecall_message f)).spelled v (e ∷ d ∷ es) path in
    let b = begins f v (e ∷ d ∷ es) s in
    let same : format_in v ≡ f = b.named ∙ ap format_of (b.reads ∙ ap (λ (x : Element). value_of x.bits) (sym (second e d _ _ es b.rest b.elements))) in
    subst (λ (g : Format). Elements false (ecall_message g) v (e ∷ d ∷ es)) (sym same) s

follows_set : Follows SetElements set_plan
follows_set = record { asked = set_asked; spelled = set_spelled }

live_set : Live set_plan
unfolding ecall_message
live_set =
    let live = λ (f : Format). live_type (ecall_message f) (has_values f) in
    ((live Two).0, λ present a. (((live Two).1 present a).0, λ b c. ((live (format_of (value_of b))).1 present a).1 b c))

-- ---- the reading of both

run_by : (f : Format) (p : Part) (d : List Bool × Part) → element_at (kind.format known_formats) p ≡ Ok d → run (plan (ecall_message f)) p ≡ run (rest_plan f [] d.0) d.1
unfolding ecall_message presence_at
run_by f p d h = rw (no_presence p, h) refl

set_run : (p : Part) → set_at p ≡ run set_plan p
unfolding set_at format_at presence_at
set_run p =
    rw (no_presence p)
    (elim (element_at (kind.format known_formats) p) as (λ (r : Read (List Bool)). element_at (kind.format known_formats) p ≡ r
    → ((r >>= λ b. Ok (value_of b.0, b.1)) >>= λ id. tree_at (ecall_message (format_of id.0)) p) ≡ (r >>= λ b. run (rest_plan (format_of (value_of b.0)) [] b.0) b.1)) [
      | Ok d ↦ λ h. tree_run (ecall_message (format_of (value_of d.0))) p ∙ run_by (format_of (value_of d.0)) p d h
      | Err e ↦ λ h. refl
    ] refl)

pub only_set : IsOnlyReading SetElements set_at
only_set = only_reading SetElements set_plan follows_set live_set set_at set_run

-- ---- no spelling begins another one, of either module

pub no_prefix : (v w : Tree) (b c tail : List Bool) → Spells (module_of v) v b → Spells (module_of w) w c → c ≡ b ++ tail → tail ≡ []
no_prefix v w b c tail s r e =
    (one_path set_plan s.0 r.0 v w tail (set_asked v s.0 s.1) (set_asked w r.0 r.1) (sym r.2 ∙ e ∙ ap (λ (x : List Bool). x ++ tail) s.2)).0

pub one_value : (v w : Tree) (b : List Bool) → Spells (module_of v) v b → Spells (module_of w) w b → v ≡ w
one_value v w b s r =
    (one_path set_plan s.0 r.0 v w [] (set_asked v s.0 s.1) (set_asked w r.0 r.1) (sym r.2 ∙ s.2 ∙ sym (append-nil (bits_of s.0)))).1
