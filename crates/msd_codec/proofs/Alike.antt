-- Two sets of data of one value tree are alike in all that a description says.
use Rattle.std.proofs.Common.{◌≡◌, ℕ, zero, suc, ◌-◌, Bool, false, List, [], ◌++◌, take, drop, Option, Some, None, refl, sym, ap, ◌∙◌}
use Rattle.std.specs.Prelude.{ℤ, pos, unsigned_abs}
use Rattle.std.specs.Option.{option_map}
use Rattle.std.proofs.lemmas.List.{take-append-drop, drop-drop}
use Rattle.per_bits.specs.Bits.{Part, octets_of}
use Rattle.per_bits.specs.Parts.{Member, members_of}
use Rattle.per_types.specs.Types.{Tree, truth, number, text, bytes, record_of, Fields, no_fields, field, absent}
use Rattle.msd_values.specs.Position.{Way}
use Rattle.msd_values.specs.declared.kind.VehicleKind.{VehicleKind}
use Rattle.msd_values.specs.declared.kind.VehicleKind.TheVariants.{Root, Added}
use Rattle.msd_values.specs.declared.msd.Marks.{Marks}
use Rattle.msd_values.specs.declared.msd.Extra.{Extra}
use Rattle.msd_values.specs.declared.msd.Msd.{Msd}
use Rattle.msd_values.specs.Additions.{additions_text}
use Rattle.msd_values.specs.Texts.{or_none, kind_text, extra_text}
use Rattle.msd_values.specs.Description.{description, lines_of}
use Rattle.msd_codec.specs.Trees.{count_tree, optional_field, more_of, kind_tree, vin_tree, way_tree, extra_tree, marks_fields, structure_tree, message_tree, tree}
use Rattle.msd_codec.specs.Formats.{format_in}
use Rattle.msd_codec.proofs.BothFormats.{format_is}
use Rattle.msd_values.specs.Format.{HasMarks}
use Rattle.msd_values.specs.declared.format.Format.{Format}
use Rattle.msd_values.specs.declared.format.Format.TheVariants.{One, Two}

-- ---- what a tree is made of

-- the components and the additions of a record
abbrev parts_in : Tree → Fields
parts_in (record_of fs more) = fs
parts_in _ = no_fields

abbrev more_in : Tree → Option (List Member)
more_in (record_of fs more) = more
more_in _ = None

-- the first component, if it is there, and the others
abbrev first_in : Fields → Option Tree
first_in (field v fs) = Some v
first_in _ = None

abbrev others_in : Fields → Fields
others_in (field v fs) = fs
others_in (absent fs) = fs
others_in no_fields = no_fields

-- the first component where there is one
abbrev value_in : Fields → Tree
value_in (field v fs) = v
value_in _ = truth false

abbrev truth_in : Tree → Bool
truth_in (truth b) = b
truth_in _ = false

abbrev number_in : Tree → ℤ
number_in (number z) = z
number_in _ = pos 0

abbrev text_in : Tree → List ℕ
text_in (text cs) = cs
text_in _ = []

abbrev bytes_in : Tree → List ℕ
bytes_in (bytes os) = os
bytes_in _ = []

abbrev count_in : Tree → ℕ
count_in t = unsigned_abs (number_in t)

abbrev way_in : Tree → Way
way_in t = record { latitude = number_in (value_in (parts_in t)); longitude = number_in (value_in (others_in (parts_in t))) }

first_of : (o : Option Tree) (fs : Fields) → first_in (optional_field o fs) ≡ o
first_of None fs = refl
first_of (Some v) fs = refl

others_of : (o : Option Tree) (fs : Fields) → others_in (optional_field o fs) ≡ fs
others_of None fs = refl
others_of (Some v) fs = refl

firsts : (a b : Option Tree) (fs gs : Fields) → optional_field a fs ≡ optional_field b gs → a ≡ b
firsts a b fs gs e = sym (first_of a fs) ∙ ap first_in e ∙ first_of b gs

others : (a b : Option Tree) (fs gs : Fields) → optional_field a fs ≡ optional_field b gs → fs ≡ gs
others a b fs gs e = sym (others_of a fs) ∙ ap others_in e ∙ others_of b gs

-- things are equal where their trees are, if a tree says which thing it is of
unmapped : {X : Type 0} (view : X → Tree) (back : Tree → X) → ((x : X) → back (view x) ≡ x) → (o : Option X) → option_map back (option_map view o) ≡ o
unmapped view back is None = refl
unmapped view back is (Some x) = ap (λ y. Some y) (is x)

same_things : {X : Type 0} (view : X → Tree) (back : Tree → X) → ((x : X) → back (view x) ≡ x) → (o p : Option X) → option_map view o ≡ option_map view p → o ≡ p
same_things view back is o p e = sym (unmapped view back is o) ∙ ap (λ (t : Option Tree). option_map back t) e ∙ unmapped view back is p

-- the four texts of an identification are all of it
vin_joined : (vin : List ℕ) → take 3 vin ++ (take 6 (drop 3 vin) ++ (take 1 (drop 9 vin) ++ drop 10 vin)) ≡ vin
vin_joined vin =
    ap (λ (l : List ℕ). take 3 vin ++ (take 6 (drop 3 vin) ++ l)) (ap (λ (l : List ℕ). take 1 (drop 9 vin) ++ l) (sym (drop-drop 1 9 vin)) ∙ take-append-drop 1 (drop 9 vin))
    ∙ ap (λ (l : List ℕ). take 3 vin ++ l) (ap (λ (l : List ℕ). take 6 (drop 3 vin) ++ l) (sym (drop-drop 6 3 vin)) ∙ take-append-drop 6 (drop 3 vin))
    ∙ take-append-drop 3 vin

-- Two sets of data that are alike: equal values, parts of equal octets, and equal additions.
pub record AreAlike (v w : Msd) : Type 0 where
  pub format : v.format ≡ w.format
  pub message : v.message ≡ w.message
  pub automatic : v.automatic ≡ w.automatic
  pub test : v.test ≡ w.test
  pub trusted : v.trusted ≡ w.trusted
  pub kind : kind_tree v.kind ≡ kind_tree w.kind
  pub vin : v.vin ≡ w.vin
  pub fuel : v.fuel ≡ w.fuel
  pub fuel_more : more_of v.fuel_more ≡ more_of w.fuel_more
  pub time : v.time ≡ w.time
  pub latitude : v.latitude ≡ w.latitude
  pub longitude : v.longitude ≡ w.longitude
  pub heading : v.heading ≡ w.heading
  pub before1 : v.before1 ≡ w.before1
  pub before2 : v.before2 ≡ w.before2
  pub passengers : v.passengers ≡ w.passengers
  pub set_more : more_of v.set_more ≡ more_of w.set_more
  pub extra : option_map extra_tree v.extra ≡ option_map extra_tree w.extra
  pub message_more : more_of v.message_more ≡ more_of w.message_more

vin_same : (v w : List ℕ) → vin_tree v ≡ vin_tree w → v ≡ w
vin_same v w e =
    sym (vin_joined v)
    ∙ ap (λ (t : Tree).
    text_in (value_in (parts_in t))
    ++ (text_in (value_in (others_in (parts_in t)))
    ++ (text_in (value_in (others_in (others_in (parts_in t))))
    ++ text_in (value_in (others_in (others_in (others_in (parts_in t)))))))) e
    ∙ vin_joined w

abbrev fuel_in : Fields → Marks
fuel_in a =
    let b = others_in a in
    let c = others_in b in
    let d = others_in c in
    let e = others_in d in
    let f = others_in e in
    record {
      gasoline = truth_in (value_in a);
      diesel = truth_in (value_in b);
      natural_gas = truth_in (value_in c);
      propane = truth_in (value_in d);
      electric = truth_in (value_in e);
      hydrogen = truth_in (value_in f);
      other = truth_in (value_in (others_in f));
    }

abbrev later : (n : ℕ) → Fields → Fields
later zero fs = fs
later (suc n) fs = later n (others_in fs)

-- the component with this index
abbrev component_in : ℕ → Tree → Tree
component_in n t = value_in (later n (parts_in t))

-- the mark of other energies is not in the tree in format 1, where it is not set
fuel_back : (f : Format) (fuel : Marks) → HasMarks f fuel → fuel_in (marks_fields f fuel) ≡ fuel
fuel_back One fuel none = ap (λ (other : Bool). record { gasoline = fuel.gasoline; diesel = fuel.diesel; natural_gas = fuel.natural_gas; propane = fuel.propane; electric = fuel.electric; hydrogen = fuel.hydrogen; other = other }) (sym (none refl))
fuel_back Two fuel none = refl

pub are_alike : (v w : Msd) → tree v ≡ tree w → AreAlike v w
are_alike v w e =
    let m : message_tree v ≡ message_tree w = ap (component_in 1) e in
    let s : structure_tree v ≡ structure_tree w = ap (component_in 0) m in
    let control = ap (component_in 1) s in
    let storage = ap (component_in 3) s in
    let location = ap (component_in 5) s in
    let options = ap (λ (t : Tree). later 7 (parts_in t)) s in
    let options2 = others _ _ _ _ options in
    let options3 = others _ _ _ _ options2 in
    record {
      format = sym (format_is v.format) ∙ ap format_in e ∙ format_is w.format;
      message = ap (λ (t : Tree). count_in (component_in 0 t)) s;
      automatic = ap (λ (t : Tree). truth_in (component_in 0 t)) control;
      test = ap (λ (t : Tree). truth_in (component_in 1 t)) control;
      trusted = ap (λ (t : Tree). truth_in (component_in 2 t)) control;
      kind = ap (component_in 3) control;
      vin = vin_same v.vin w.vin (ap (component_in 2) s);
      fuel = sym (fuel_back v.format v.fuel v.marks) ∙ ap (λ (t : Tree). fuel_in (parts_in t)) storage ∙ fuel_back w.format w.fuel w.marks;
      fuel_more = ap more_in storage;
      time = ap (λ (t : Tree). count_in (component_in 4 t)) s;
      latitude = ap (λ (t : Tree). number_in (component_in 0 t)) location;
      longitude = ap (λ (t : Tree). number_in (component_in 1 t)) location;
      heading = ap (λ (t : Tree). count_in (component_in 6 t)) s;
      before1 = same_things way_tree way_in (λ x. refl) v.before1 w.before1 (firsts _ _ _ _ options);
      before2 = same_things way_tree way_in (λ x. refl) v.before2 w.before2 (firsts _ _ _ _ options2);
      passengers = same_things count_tree count_in (λ x. refl) v.passengers w.passengers (firsts _ _ _ _ options3);
      set_more = ap more_in s;
      extra = firsts _ _ _ _ (ap (λ (t : Tree). later 1 (parts_in t)) m);
      message_more = ap more_in m;
    }

-- ---- what is said of alike sets

more_text : (a b : Option Part) → more_of a ≡ more_of b → or_none additions_text a ≡ or_none additions_text b
more_text None None e = refl
more_text None (Some q) e = absurd cc
more_text (Some p) None e = absurd cc
more_text (Some p) (Some q) e = let same : members_of p.bits ≡ members_of q.bits = cc e in rw same refl

extra_said : (a b : Option Extra) → option_map extra_tree a ≡ option_map extra_tree b → or_none extra_text a ≡ or_none extra_text b
extra_said None None e = refl
extra_said None (Some y) e = absurd cc
extra_said (Some x) None e = absurd cc
extra_said (Some x) (Some y) e =
    let same : extra_tree x ≡ extra_tree y = cc e in
    let oid : octets_of x.oid.bits ≡ octets_of y.oid.bits = ap (λ (t : Tree). bytes_in (component_in 0 t)) same in
    let content : octets_of x.content.bits ≡ octets_of y.content.bits = ap (λ (t : Tree). bytes_in (component_in 1 t)) same in
    rw (oid, content) refl

kind_said : (a b : VehicleKind) → kind_tree a ≡ kind_tree b → kind_text a ≡ kind_text b
kind_said (Root m) (Root n) e = let same : m - 1 ≡ n - 1 = cc e in rw same refl
kind_said (Root m) (Added n) e = absurd cc
kind_said (Added m) (Root n) e = absurd cc
kind_said (Added m) (Added n) e = let same : m ≡ n = cc e in rw same refl

pub described : (v w : Msd) → AreAlike v w → description v ≡ description w
unfolding description lines_of
described v w s =
    rw (
      s.format,
      s.message,
      s.automatic,
      s.test,
      s.trusted,
      kind_said _ _ s.kind,
      s.vin,
      s.fuel,
      more_text _ _ s.fuel_more,
      s.time,
      s.latitude,
      s.longitude,
      s.heading,
      s.before1,
      s.before2,
      s.passengers,
      more_text _ _ s.set_more,
      extra_said _ _ s.extra,
      more_text _ _ s.message_more,
    ) refl
