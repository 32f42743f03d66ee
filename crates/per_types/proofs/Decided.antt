-- The laws of spelling and reading, from the plans.
use Rattle.std.proofs.Common.{◌≡◌, ℕ, ◌+◌, ◌<◌, ◌≤◌, Bool, false, List, [], ◌∷◌, ◌++◌, length, Result, Ok, Err, refl, sym, ap, ◌∙◌, append-nil, arith}
use Rattle.std.specs.Prelude.{ℤ, ◌≤ℤ◌}
use Rattle.std.specs.List.{Contains}
use Rattle.std.proofs.lemmas.List.{length-append}
use Rattle.per_bits.specs.Bits.{Part, behind}
use Rattle.per_types.specs.Kinds.{Element, bits_of}
use Rattle.per_types.specs.Types.{Tree, Ty}
use Rattle.per_types.specs.Spelling.{Elements, Spells, TruthElements, WholeElements, PresenceElements, CharacterElements, SmallElements, LengthElements, StringElements, OidElements, FormatElements, OpenElements, SectionElements}
use Rattle.per_types.specs.Reading.{◌>>=◌, Gives}
use Rattle.per_bits.specs.declared.refusals.Refusal.{Refusal}
use Rattle.per_types.specs.Stops.{Read, Reads, IsReading, IsOnlyReading, HasValues}
use Rattle.per_types.specs.Reading.{truth_at, whole_at, presence_at, character_at, small_at, length_at, string_at, object_at, format_at, content_at, members_at, tree_at}
use Rattle.per_types.specs.declared.index.EnumIndex.{EnumIndex}
use Rattle.per_types.specs.declared.index.EnumIndex.TheVariants.{Root, Added}
use Rattle.per_types.specs.Writing.{EnumElements}
use Rattle.per_types.specs.Reading.{enum_at}
use Rattle.per_types.proofs.Strings.{EnumElements as IndexElements, enum_plan, follows_enum}
use Rattle.per_types.proofs.Lives.{live_enum}
use Rattle.per_types.proofs.Readings.{enum_run}
use Rattle.per_types.proofs.Plans.{Plan, value, Follows, Live, Path, run, path-run, run_takes, takes_run, run_stops, stops_run}
use Rattle.per_types.proofs.Leaves.{truth_plan, follows_truth, whole_plan, follows_whole, presence_plan, follows_presence, character_plan, follows_character, small_plan, follows_small, length_plan, follows_length, format_plan, follows_format}
use Rattle.per_types.proofs.Strings.{string_plan, follows_string, oid_plan, follows_oid, open_plan, follows_open, section_plan, follows_section}
use Rattle.per_types.proofs.TypePlans.{plan, follows_type, plan_asked}
use Rattle.per_types.proofs.Lives.{live_truth, live_whole, live_presence, live_character, live_small, live_length, live_string, live_oid, live_format, live_open, live_section, live_type}
use Rattle.per_types.proofs.Readings.{truth_run, whole_run, presence_run, character_run, small_run, length_run, string_run, oid_run, format_run, content_run, members_run, tree_run}

module _ {X : Type 0} (Spelled : X → List Element → Type 0) (p : Plan X) (follows : Follows Spelled p) (live : Live p) (reading : Part → Read X) (same : (at : Part) → reading at ≡ run p at) where
  is_reading : (at : Part) (answer : Read X) → answer ≡ run p at → IsReading Spelled at answer
  is_reading at (Ok x) e = run_takes Spelled p follows at x (sym e)
  is_reading at (Err d) e = run_stops Spelled p follows live at d (sym e)

  is_answer : (at : Part) (answer : Read X) → IsReading Spelled at answer → answer ≡ run p at
  is_answer at (Ok x) r = sym (takes_run Spelled p follows at x.0 x.1 r)
  is_answer at (Err d) r = sym (stops_run Spelled p follows at d.0 d.1 r)

  pub only_reading : IsOnlyReading Spelled reading
  only_reading at answer = ((λ e. is_reading at answer (e ∙ same at)), (λ r. is_answer at answer r ∙ sym (same at)))

pub only_truth : IsOnlyReading TruthElements truth_at
only_truth = only_reading TruthElements truth_plan follows_truth live_truth truth_at truth_run

pub only_whole : (low high : ℤ) → low ≤ℤ high → IsOnlyReading (WholeElements low high) (whole_at low high)
only_whole low high h = only_reading (WholeElements low high) (whole_plan low high) (follows_whole low high) (live_whole low high h) (whole_at low high) (whole_run low high)

-- ---- enumerations

index_to : (roots : ℕ) (i : EnumIndex) (es : List Element) → EnumElements roots i es → IndexElements roots i es
index_to roots (Root i) es s = s
index_to roots (Added i) es s = s

index_from : (roots : ℕ) (i : EnumIndex) (es : List Element) → IndexElements roots i es → EnumElements roots i es
index_from roots (Root i) es s = s
index_from roots (Added i) es s = s

follows_index : (roots : ℕ) → Follows (EnumElements roots) (enum_plan roots)
follows_index roots = record {
  asked = λ i es s. (follows_enum roots).asked i es (index_to roots i es s);
  spelled = λ i es path. index_from roots i es ((follows_enum roots).spelled i es path);
}

pub only_enum : (roots : ℕ) → 1 ≤ roots → IsOnlyReading (EnumElements roots) (enum_at roots)
only_enum roots some = only_reading (EnumElements roots) (enum_plan roots) (follows_index roots) (live_enum roots some) (enum_at roots) (enum_run roots)

pub only_presence : (n : ℕ) → IsOnlyReading (PresenceElements n) (presence_at n)
only_presence n = only_reading (PresenceElements n) (presence_plan n) (follows_presence n) (live_presence n) (presence_at n) (presence_run n)

pub only_character : IsOnlyReading CharacterElements character_at
only_character = only_reading CharacterElements character_plan follows_character live_character character_at character_run

pub only_small : IsOnlyReading SmallElements small_at
only_small = only_reading SmallElements small_plan follows_small live_small small_at small_run

pub only_length : IsOnlyReading LengthElements length_at
only_length = only_reading LengthElements length_plan follows_length live_length length_at length_run

pub only_string : IsOnlyReading StringElements string_at
only_string = only_reading StringElements string_plan follows_string live_string string_at string_run

pub only_object : IsOnlyReading OidElements object_at
only_object = only_reading OidElements oid_plan follows_oid live_oid object_at oid_run

pub only_format : (known : List ℕ) (id : ℕ) → id < 256 → Contains known id → IsOnlyReading (FormatElements known) (format_at known)
only_format known id small c = only_reading (FormatElements known) (format_plan known) (follows_format known) (live_format known id small c) (format_at known) (format_run known)

pub only_open : IsOnlyReading OpenElements content_at
only_open = only_reading OpenElements open_plan follows_open live_open content_at content_run

pub only_members : IsOnlyReading SectionElements members_at
only_members = only_reading SectionElements section_plan follows_section live_section members_at members_run

pub only_type : (t : Ty) → HasValues t → IsOnlyReading (Elements false t) (tree_at t)
only_type t h = only_reading (Elements false t) (plan t) (follows_type t) (live_type t h) (tree_at t) (tree_run t)

-- ---- no spelling begins another

value_is : {X : Type 0} (v w : X) (p q : Part) → value v p ≡ value w q → (v ≡ w) × (p ≡ q)
value_is v w p q e = let h : (v, p) ≡ (w, q) = cc in (ap (λ (x : _ × Part). x.0) h, ap (λ (x : _ × Part). x.1) h)

no_tail : (tail : List Bool) → length tail ≡ 0 → tail ≡ []
no_tail [] h = refl
no_tail (x ∷ tail) h = absurd (omega arith)

pub one_path : {X : Type 0} (p : Plan X) (es ds : List Element) (v w : X) (tail : List Bool) → Path p es v → Path p ds w → bits_of ds ≡ bits_of es ++ tail → (tail ≡ []) × (v ≡ w)
one_path p es ds v w tail path other e =
    let at : Part = record { all = []; start = 0; bits = bits_of ds } in
    let first = path-run p es v at tail path e in
    let second = path-run p ds w at [] other (sym (append-nil (bits_of ds))) in
    let both = value_is v w (behind at (length (bits_of es))) (behind at (length (bits_of ds))) (sym first ∙ second) in
    let place : 0 + length (bits_of es) ≡ 0 + length (bits_of ds) = ap (λ (q : Part). q.start) both.1 in
    (no_tail tail (omega (arith, place, ap length e, length-append (bits_of es) tail)), both.0)

pub no_prefix : (t : Ty) (v w : Tree) (b c tail : List Bool) → Spells t v b → Spells t w c → c ≡ b ++ tail → tail ≡ []
no_prefix t v w b c tail s r e =
    (one_path (plan t) s.0 r.0 v w tail (plan_asked t v s.0 s.1) (plan_asked t w r.0 r.1) (sym r.2 ∙ e ∙ ap (λ (x : List Bool). x ++ tail) s.2)).0

pub one_value : (t : Ty) (v w : Tree) (b : List Bool) → Spells t v b → Spells t w b → v ≡ w
one_value t v w b s r =
    (one_path (plan t) s.0 r.0 v w [] (plan_asked t v s.0 s.1) (plan_asked t w r.0 r.1) (sym r.2 ∙ s.2 ∙ sym (append-nil (bits_of s.0)))).1

-- ---- what a reader does, from the reading that it gives

pub gives_reads : {X Y : Type 0} (Spelled : Y → List Element → Type 0) (reading : Part → Read Y) → IsOnlyReading Spelled reading
    → (view : X → Y) (old : Part) (r : Result X Refusal) (new : Part) → Gives view r (reading old) new → Reads Spelled view old r new
gives_reads Spelled reading only view old (Ok x) new g = (only old (Ok (view x, new))).0 (sym g)
gives_reads Spelled reading only view old (Err e) new g = (only old (Err (e, new))).0 (sym g)

-- the same, where the reader hands out a part that is read on
pub part_reads : {X Y Z : Type 0} (Spelled : Z → List Element → Type 0) (parts : Part → Read Y) (f : Y → Z) (reading : Part → Read Z) → IsOnlyReading Spelled reading → ((p : Part) → reading p ≡ (parts p >>= λ o. Ok (f o.0, o.1)))
    → (view : X → Y) (old : Part) (r : Result X Refusal) (new : Part) → Gives view r (parts old) new → Reads Spelled (λ x. f (view x)) old r new
part_reads Spelled parts f reading only same view old (Ok x) new g =
    (only old (Ok (f (view x), new))).0 (sym (same old ∙ ap (λ (r : Read _). r >>= λ o. Ok (f o.0, o.1)) g))
part_reads Spelled parts f reading only same view old (Err e) new g =
    (only old (Err (e, new))).0 (sym (same old ∙ ap (λ (r : Read _). r >>= λ o. Ok (f o.0, o.1)) g))
