-- The plan of each type, and that its paths are the elements that spell the type's values.
use Rattle.std.proofs.Common.{◌≡◌, ℕ, Bool, true, false, List, [], ◌∷◌, ◌++◌, length, Option, Some, None, refl, sym, ap, subst, ◌∙◌, append-nil, arith}
use Rattle.std.specs.Prelude.{pos, is_some}
use Rattle.per_bits.specs.Parts.{Member}
use Rattle.per_types.specs.declared.index.EnumIndex.{EnumIndex}
use Rattle.per_types.specs.declared.index.EnumIndex.TheVariants.{Root, Added}
use Rattle.per_types.specs.Kinds as kind
use Rattle.per_types.specs.Kinds.{first_bit, Element, element}
use Rattle.per_types.specs.Types.{Tree, truth, number, text, bytes, root, added, record_of, Fields, no_fields, field, absent, Ty, boolean, integer, characters, octet_string, relative_oid, enumerated, format, sequence, Components, no_components, required, optional, default, presence_count}
use Rattle.per_types.specs.Spelling.{Elements, Present, MoreElements, SectionElements, mark_elements}
use Rattle.per_types.specs.Reading.{index_tree}
use Rattle.per_types.proofs.Plans.{Plan, done, ask, chain, Path, Follows}
use Rattle.per_types.proofs.Leaves.{asked, chained, path_chain, truth_plan, follows_truth, whole_plan, follows_whole, presence_plan, follows_presence, text_plan, follows_text, format_plan, follows_format, accepted_truth, truth_bit}
use Rattle.per_types.proofs.Strings.{string_plan, follows_string, oid_plan, follows_oid, EnumElements, enum_plan, follows_enum, section_plan, follows_section, path_last}

abbrev pub extended_plan : Bool → Plan Bool
extended_plan false = done false
extended_plan true = ask kind.truth (λ b. done (first_bit b))

abbrev pub more_plan : Bool → Plan (Option (List Member))
more_plan false = done None
more_plan true = chain section_plan (λ members. done (Some members))

-- the additions, the components before them, and the whole SEQUENCE, from what stands before
abbrev pub with_more : Fields → Option (List Member) → Plan Tree
with_more fs more = done (record_of fs more)

abbrev pub with_fields : Bool → Fields → Plan Tree
with_fields extended fs = chain (more_plan extended) (with_more fs)

abbrev mutual
  pub plan : Ty → Plan Tree
  plan boolean = chain truth_plan (λ v. done (truth v))
  plan (integer low high) = chain (whole_plan low high) (λ v. done (number v))
  plan (characters n) = chain (text_plan n) (λ v. done (text v))
  plan octet_string = chain string_plan (λ v. done (bytes v))
  plan relative_oid = chain oid_plan (λ v. done (bytes v))
  plan (enumerated roots) = chain (enum_plan roots) (λ v. done (index_tree v))
  plan (format known) = chain (format_plan known) (λ v. done (number (pos v)))
  plan (sequence marked cs) =
      chain (extended_plan marked) (λ extended. chain (presence_plan (presence_count cs)) (λ present. chain (fields_plan cs present) (λ fs. with_fields extended fs)))

  pub fields_plan : Components → List Bool → Plan Fields
  fields_plan no_components present = done no_fields
  fields_plan (required t cs) present = chain (plan t) (λ v. chain (fields_plan cs present) (λ fs. done (field v fs)))
  fields_plan (optional t cs) (true ∷ present) = chain (plan t) (λ v. chain (fields_plan cs present) (λ fs. done (field v fs)))
  fields_plan (optional t cs) (false ∷ present) = chain (fields_plan cs present) (λ fs. done (absent fs))
  fields_plan (optional t cs) [] = done no_fields
  fields_plan (default t d cs) (true ∷ present) = chain (plan t) (λ v. chain (fields_plan cs present) (λ fs. done (field v fs)))
  fields_plan (default t d cs) (false ∷ present) = chain (fields_plan cs present) (λ fs. done (field d fs))
  fields_plan (default t d cs) [] = done no_fields

-- ---- the two directions, for one mapped value

-- a value of which the path gives the image
pub record Mapped {X Y : Type 0} (Spelled : X → List Element → Type 0) (f : X → Y) (es : List Element) (v : Y) : Type 0 where
  pub value : X
  pub spelled : Spelled value es
  pub image : f value ≡ v

pub mapped : {X Y : Type 0} (Spelled : X → List Element → Type 0) (plan : Plan X) (f : X → Y) (es : List Element) (v : Y) → Follows Spelled plan → Path (chain plan (λ x. done (f x))) es v → Mapped Spelled f es v
mapped Spelled plan f es v follows path =
    let c = chained plan (λ x. done (f x)) es v path in
    record {
      value = c.value;
      spelled = subst (Spelled c.value) (sym (c.elements ∙ ap (λ (r : List Element). c.first ++ r) c.then.0 ∙ append-nil c.first)) (follows.spelled c.value c.first c.path);
      image = c.then.1;
    }

-- a component and those behind it
pub record Split (t : Ty) (cs : Components) (present : List Bool) (es : List Element) (fs : Fields) : Type 0 where
  pub value : Tree
  pub others : Fields
  pub first : List Element
  pub rest : List Element
  pub path : Path (plan t) first value
  pub then : Path (fields_plan cs present) rest others
  pub fields : field value others ≡ fs
  pub elements : es ≡ first ++ rest

pub split : (t : Ty) (cs : Components) (present : List Bool) (es : List Element) (fs : Fields) → Path (chain (plan t) (λ v. chain (fields_plan cs present) (λ others. done (field v others)))) es fs → Split t cs present es fs
split t cs present es fs path =
    let c = chained (plan t) (λ v. chain (fields_plan cs present) (λ others. done (field v others))) es fs path in
    let d = chained (fields_plan cs present) (λ others. done (field c.value others)) c.rest fs c.then in
    record {
      value = c.value;
      others = d.value;
      first = c.first;
      rest = d.first;
      path = c.path;
      then = d.path;
      fields = d.then.1;
      elements = c.elements ∙ ap (λ (r : List Element). c.first ++ r) (d.elements ∙ ap (λ (r : List Element). d.first ++ r) d.then.0 ∙ append-nil d.first);
    }

pub joined : (t : Ty) (cs : Components) (present : List Bool) (v : Tree) (fs : Fields) (a rest : List Element) → Path (plan t) a v → Path (fields_plan cs present) rest fs → Path (chain (plan t) (λ w. chain (fields_plan cs present) (λ others. done (field w others)))) (a ++ rest) (field v fs)
joined t cs present v fs a rest path then =
    path_chain (plan t) (λ w. chain (fields_plan cs present) (λ others. done (field w others))) a rest v (field v fs) path
    (path_last (fields_plan cs present) (λ others. field v others) rest fs then)

-- ---- marks and additions

more_asked : (marked : Bool) (more : Option (List Member)) (es : List Element) → MoreElements marked more es → Path (more_plan (is_some more)) es more
more_asked marked None es s = (s, refl)
more_asked false (Some members) es s = absurd s
more_asked true (Some members) es s = path_last section_plan (λ ms. Some ms) es members (follows_section.asked members es s)

mark_asked : (marked : Bool) (more : Option (List Member)) (es : List Element) → MoreElements marked more es → Path (extended_plan marked) (mark_elements marked more) (is_some more)
mark_asked false None es s = (refl, refl)
mark_asked false (Some members) es s = absurd s
mark_asked true more es s = (refl, accepted_truth (is_some more), (refl, refl))

more_spelled : (marked extended : Bool) (a es : List Element) (more : Option (List Member)) → Path (extended_plan marked) a extended → Path (more_plan extended) es more → MoreElements marked more es × (a ≡ mark_elements marked more)
more_spelled marked false a es None mark path = (path.0, unmarked marked a mark)
  where
    unmarked : (m : Bool) (d : List Element) → Path (extended_plan m) d false → d ≡ mark_elements m None
    unmarked false d p = p.0
    unmarked true d p =
        let e = asked kind.truth (λ b. done (first_bit b)) d false p in
        e.elements ∙ rw e.path.0 (ap (λ (x : List Bool). element kind.truth x ∷ []) (truth_bit e.bits e.accepted ∙ ap (λ (x : Bool). x ∷ []) e.path.1))
more_spelled marked false a es (Some members) mark path = absurd (let h = path.1 in cc)
more_spelled false true a es more mark path = absurd (let h = mark.1 in cc)
more_spelled true true a es None mark path = absurd (none (mapped SectionElements section_plan (λ ms. Some ms) es None follows_section path))
  where
    none : Mapped SectionElements (λ ms. Some ms) es None → ⊥
    none m = let h = m.image in cc
more_spelled true true a es (Some members) mark path =
    let m = mapped SectionElements section_plan (λ ms. Some ms) es (Some members) follows_section path in
    let e = asked kind.truth (λ b. done (first_bit b)) a true mark in
    let same : m.value ≡ members = some_is m.value members m.image in (
      subst (λ (ms : List Member). SectionElements ms es) same m.spelled,
      e.elements ∙ rw e.path.0 (ap (λ (x : List Bool). element kind.truth x ∷ []) (truth_bit e.bits e.accepted ∙ ap (λ (x : Bool). x ∷ []) e.path.1)),
    )
  where
    some_is : (x y : List Member) → Some x ≡ Some y → x ≡ y
    some_is x y h = cc

-- ---- a SEQUENCE, given its components

present_count : (canonical : Bool) (cs : Components) (fs : Fields) (present : List Bool) (es : List Element) → Present canonical cs fs present es → length present ≡ presence_count cs
present_count canonical no_components no_fields [] es s = refl
present_count canonical (required t cs) (field v fs) present es s = present_count canonical cs fs present s.1 s.3
present_count canonical (optional t cs) (absent fs) (false ∷ present) es s = omega (arith, present_count canonical cs fs present es s)
present_count canonical (optional t cs) (field v fs) (true ∷ present) es s = omega (arith, present_count canonical cs fs present s.1 s.3)
present_count canonical (default t d cs) (field v fs) (false ∷ present) es s = omega (arith, present_count canonical cs fs present es s.1)
present_count canonical (default t d cs) (field v fs) (true ∷ present) es s = omega (arith, present_count canonical cs fs present s.1 s.4)
present_count canonical _ _ _ es s = absurd s

sequence_asked : (marked : Bool) (cs : Components) (fs : Fields) (more : Option (List Member)) (present : List Bool) (parts sect : List Element)
    → length present ≡ presence_count cs → Path (fields_plan cs present) parts fs → MoreElements marked more sect
    → Path (plan (sequence marked cs)) (mark_elements marked more ++ element (kind.presence (presence_count cs)) present ∷ (parts ++ sect)) (record_of fs more)
sequence_asked marked cs fs more present parts sect count path additions =
    let behind_fields = path_last (more_plan (is_some more)) (λ m. record_of fs m) sect more (more_asked marked more sect additions) in
    let behind_presence = path_chain (fields_plan cs present) (λ gs. with_fields (is_some more) gs) parts sect fs (record_of fs more) path behind_fields in
    let behind_mark = path_chain (presence_plan (presence_count cs)) (λ p. chain (fields_plan cs p) (λ gs. with_fields (is_some more) gs)) (element (kind.presence (presence_count cs)) present ∷ []) (parts ++ sect) present (record_of fs more)
    ((follows_presence (presence_count cs)).asked present (element (kind.presence (presence_count cs)) present ∷ []) (count, refl)) behind_presence in
    path_chain (extended_plan marked) (λ extended. chain (presence_plan (presence_count cs)) (λ p. chain (fields_plan cs p) (λ gs. with_fields extended gs)))
    (mark_elements marked more) (element (kind.presence (presence_count cs)) present ∷ (parts ++ sect)) (is_some more) (record_of fs more) (mark_asked marked more sect additions) behind_mark

-- what the path of a SEQUENCE is made of
pub record Sequenced (marked : Bool) (cs : Components) (es : List Element) (v : Tree) : Type 0 where
  pub present : List Bool
  pub fields : Fields
  pub more : Option (List Member)
  pub parts : List Element
  pub sect : List Element
  pub count : length present ≡ presence_count cs
  pub path : Path (fields_plan cs present) parts fields
  pub additions : MoreElements marked more sect
  pub value : record_of fields more ≡ v
  pub elements : es ≡ mark_elements marked more ++ element (kind.presence (presence_count cs)) present ∷ (parts ++ sect)

sequenced : (marked : Bool) (cs : Components) (es : List Element) (v : Tree) → Path (plan (sequence marked cs)) es v → Sequenced marked cs es v
sequenced marked cs es v path =
    let m = chained (extended_plan marked) (λ extended. chain (presence_plan (presence_count cs)) (λ p. chain (fields_plan cs p) (λ gs. with_fields extended gs))) es v path in
    let p = chained (presence_plan (presence_count cs)) (λ q. chain (fields_plan cs q) (λ gs. with_fields m.value gs)) m.rest v m.then in
    let f = chained (fields_plan cs p.value) (λ gs. with_fields m.value gs) p.rest v p.then in
    let a = chained (more_plan m.value) (with_more f.value) f.rest v f.then in
    let presence = (follows_presence (presence_count cs)).spelled p.value p.first p.path in
    let both = more_spelled marked m.value m.first a.first a.value m.path a.path in
    record {
      present = p.value;
      fields = f.value;
      more = a.value;
      parts = f.first;
      sect = a.first;
      count = presence.0;
      path = f.path;
      additions = both.0;
      value = a.then.1;
      elements = joins es m.first m.rest p.first p.rest f.first f.rest a.first a.rest (mark_elements marked a.value) (element (kind.presence (presence_count cs)) p.value) m.elements p.elements f.elements a.elements both.1 presence.1 a.then.0;
    }
  where
    joins : (es a r b s c u d z mark : List Element) (e : Element) → es ≡ a ++ r → r ≡ b ++ s → s ≡ c ++ u → u ≡ d ++ z → a ≡ mark → b ≡ e ∷ [] → z ≡ [] → es ≡ mark ++ e ∷ (c ++ d)
    joins es a r b s c u d z mark e h1 h2 h3 h4 h5 h6 h7 = rw (h1, h2, h3, h4, h5, h6, h7, append-nil d) refl

-- ---- all types

mutual
  pub plan_asked : (t : Ty) (v : Tree) (es : List Element) → Elements false t v es → Path (plan t) es v
  plan_asked boolean (truth v) es s = path_last truth_plan (λ x. truth x) es v (follows_truth.asked v es s)
  plan_asked (integer low high) (number v) es s = path_last (whole_plan low high) (λ x. number x) es v ((follows_whole low high).asked v es s)
  plan_asked (characters n) (text cs) es s = path_last (text_plan n) (λ x. text x) es cs ((follows_text n).asked cs es s)
  plan_asked octet_string (bytes os) es s = path_last string_plan (λ x. bytes x) es os (follows_string.asked os es s)
  plan_asked relative_oid (bytes os) es s = path_last oid_plan (λ x. bytes x) es os (follows_oid.asked os es s)
  plan_asked (enumerated roots) (root i) es s = path_last (enum_plan roots) (λ x. index_tree x) es (Root i) ((follows_enum roots).asked (Root i) es s)
  plan_asked (enumerated roots) (added i) es s = path_last (enum_plan roots) (λ x. index_tree x) es (Added i) ((follows_enum roots).asked (Added i) es s)
  plan_asked (format known) (number (pos v)) es s = path_last (format_plan known) (λ x. number (pos x)) es v ((follows_format known).asked v es s)
  plan_asked (sequence marked cs) (record_of fs more) es s =
      rw s.5 (sequence_asked marked cs fs more s.0 s.1 s.2 (present_count false cs fs s.0 s.1 s.3) (fields_asked cs fs s.0 s.1 s.3) s.4)
  plan_asked _ _ es s = absurd s

  pub fields_asked : (cs : Components) (fs : Fields) (present : List Bool) (es : List Element) → Present false cs fs present es → Path (fields_plan cs present) es fs
  fields_asked no_components no_fields [] es s = (s, refl)
  fields_asked (required t cs) (field v fs) present es s = rw s.4 (joined t cs present v fs s.0 s.1 (plan_asked t v s.0 s.2) (fields_asked cs fs present s.1 s.3))
  fields_asked (optional t cs) (absent fs) (false ∷ present) es s = path_last (fields_plan cs present) (λ x. absent x) es fs (fields_asked cs fs present es s)
  fields_asked (optional t cs) (field v fs) (true ∷ present) es s = rw s.4 (joined t cs present v fs s.0 s.1 (plan_asked t v s.0 s.2) (fields_asked cs fs present s.1 s.3))
  fields_asked (default t d cs) (field v fs) (false ∷ present) es s =
      subst (λ (w : Tree). Path (fields_plan (default t d cs) (false ∷ present)) es (field w fs)) (sym s.0)
      (path_last (fields_plan cs present) (λ x. field d x) es fs (fields_asked cs fs present es s.1))
  fields_asked (default t d cs) (field v fs) (true ∷ present) es s = rw s.5 (joined t cs present v fs s.0 s.1 (plan_asked t v s.0 s.3) (fields_asked cs fs present s.1 s.4))
  fields_asked _ _ _ es s = absurd s

enum_elements : (roots : ℕ) (v : EnumIndex) (es : List Element) → EnumElements roots v es → Elements false (enumerated roots) (index_tree v) es
enum_elements roots (Root i) es s = s
enum_elements roots (Added i) es s = s

mutual
  pub plan_spelled : (t : Ty) (v : Tree) (es : List Element) → Path (plan t) es v → Elements false t v es
  plan_spelled boolean v es path =
      let m = mapped _ truth_plan (λ x. truth x) es v follows_truth path in subst (λ (w : Tree). Elements false boolean w es) m.image m.spelled
  plan_spelled (integer low high) v es path =
      let m = mapped _ (whole_plan low high) (λ x. number x) es v (follows_whole low high) path in subst (λ (w : Tree). Elements false (integer low high) w es) m.image m.spelled
  plan_spelled (characters n) v es path =
      let m = mapped _ (text_plan n) (λ x. text x) es v (follows_text n) path in subst (λ (w : Tree). Elements false (characters n) w es) m.image m.spelled
  plan_spelled octet_string v es path =
      let m = mapped _ string_plan (λ x. bytes x) es v follows_string path in subst (λ (w : Tree). Elements false octet_string w es) m.image m.spelled
  plan_spelled relative_oid v es path =
      let m = mapped _ oid_plan (λ x. bytes x) es v follows_oid path in subst (λ (w : Tree). Elements false relative_oid w es) m.image m.spelled
  plan_spelled (enumerated roots) v es path =
      let m = mapped _ (enum_plan roots) (λ x. index_tree x) es v (follows_enum roots) path in subst (λ (w : Tree). Elements false (enumerated roots) w es) m.image (enum_elements roots m.value es m.spelled)
  plan_spelled (format known) v es path =
      let m = mapped _ (format_plan known) (λ x. number (pos x)) es v (follows_format known) path in subst (λ (w : Tree). Elements false (format known) w es) m.image m.spelled
  plan_spelled (sequence marked cs) v es path =
      let s = sequenced marked cs es v path in
      subst (λ (w : Tree). Elements false (sequence marked cs) w es) s.value
      (s.present, s.parts, s.sect, fields_spelled cs s.fields s.present s.parts s.count s.path, s.additions, s.elements)

  pub fields_spelled : (cs : Components) (fs : Fields) (present : List Bool) (es : List Element) → length present ≡ presence_count cs → Path (fields_plan cs present) es fs → Present false cs fs present es
  fields_spelled no_components fs [] es count path = subst (λ (gs : Fields). Present false no_components gs [] es) path.1 path.0
  fields_spelled no_components fs (x ∷ present) es count path = absurd (omega arith)
  fields_spelled (required t cs) fs present es count path =
      let s = split t cs present es fs path in
      subst (λ (gs : Fields). Present false (required t cs) gs present es) s.fields
      (s.first, s.rest, plan_spelled t s.value s.first s.path, fields_spelled cs s.others present s.rest count s.then, s.elements)
  fields_spelled (optional t cs) fs [] es count path = absurd (omega arith)
  fields_spelled (optional t cs) fs (true ∷ present) es count path =
      let s = split t cs present es fs path in
      subst (λ (gs : Fields). Present false (optional t cs) gs (true ∷ present) es) s.fields
      (s.first, s.rest, plan_spelled t s.value s.first s.path, fields_spelled cs s.others present s.rest (omega arith) s.then, s.elements)
  fields_spelled (optional t cs) fs (false ∷ present) es count path =
      let c = chained (fields_plan cs present) (λ gs. done (absent gs)) es fs path in
      let same : es ≡ c.first = c.elements ∙ ap (λ (r : List Element). c.first ++ r) c.then.0 ∙ append-nil c.first in
      subst (λ (gs : Fields). Present false (optional t cs) gs (false ∷ present) es) c.then.1
      (subst (Present false cs c.value present) (sym same) (fields_spelled cs c.value present c.first (omega arith) c.path))
  fields_spelled (default t d cs) fs [] es count path = absurd (omega arith)
  fields_spelled (default t d cs) fs (true ∷ present) es count path =
      let s = split t cs present es fs path in
      subst (λ (gs : Fields). Present false (default t d cs) gs (true ∷ present) es) s.fields
      (s.first, s.rest, (λ t. absurd cc), plan_spelled t s.value s.first s.path, fields_spelled cs s.others present s.rest (omega arith) s.then, s.elements)
  fields_spelled (default t d cs) fs (false ∷ present) es count path =
      let c = chained (fields_plan cs present) (λ gs. done (field d gs)) es fs path in
      let same : es ≡ c.first = c.elements ∙ ap (λ (r : List Element). c.first ++ r) c.then.0 ∙ append-nil c.first in
      subst (λ (gs : Fields). Present false (default t d cs) gs (false ∷ present) es) c.then.1
      (refl, subst (Present false cs c.value present) (sym same) (fields_spelled cs c.value present c.first (omega arith) c.path))

pub follows_type : (t : Ty) → Follows (Elements false t) (plan t)
follows_type t = record { asked = plan_asked t; spelled = plan_spelled t }
