-- Drafts by vehicle, and what one more fact line makes of them.
use Rattle.std.specs.Prelude.{◌≡◌, ℕ, zero, suc, ◌+◌, ◌<◌, ◌≤◌, ◌==◌, not, Bool, true, false, List, [], ◌∷◌, ◌++◌, length, map, position, nat_lt, Option, Some, None, Result, Ok, Err, IfOk, OnOk, set, slice_get, cond}
use Rattle.std.specs.List.{AllByRecursion, position_or_len}
use Rattle.std.proofs.Common.{refl, sym, ap, subst, ◌∙◌, arith, get_or}
use Rattle.std.proofs.lemmas.Bool.{false_from_ne_true, lt-ltb, ltb-true, false≢true}
use Rattle.std.proofs.lemmas.List.Sums.{position_or_len_is}
use Rattle.memchr.specs.Find.{IsFirstByte, is_byte}
use Rattle.trace_text.specs.Drafts.{DraftOf}
use Rattle.trace_text.specs.Facts.{is_one_too_many}
use Rattle.trace_text.specs.declared.draft.Draft.{Draft}
use Rattle.trace_text.specs.declared.fact_line.FactLine.{FactLine}
use Rattle.trace_text.specs.declared.fact_line.FactLine.TheVariants as fact
use Rattle.floor_text.specs.VehicleFacts.{AreDrafts, DraftsStandFor, VehicleFacts, has_facts, lines_for, with_fact}
use Rattle.floor_text.specs.VehicleNumbers.{IsVehicle}
use Rattle.floor_text.specs.declared.drafts.Drafts.{Drafts}
use Rattle.floor_text.specs.inner.DraftAt.{AddsAt, IsBehind}

abbrev pub numbers_of : List VehicleFacts → List ℕ
numbers_of known = map (λ k. k.number) known

-- where the first fact lines of a vehicle stand, or how many vehicles have some
abbrev pub place_of : ℕ → List VehicleFacts → ℕ
place_of v known = position_or_len (λ b. b == v) (numbers_of known)

-- The draft at a place is of these lines, and with one line more the drafts are these.
pub record Placed (i : ℕ) (ds : List Draft) (lines : List FactLine) (with_line : FactLine → List VehicleFacts) (has : Bool)
    : Type 0 where
  pub inside : i < length ds
  pub draft : Draft
  pub stands : slice_get ds i ≡ Some draft
  pub of_lines : DraftOf draft lines
  pub put : (d : Draft) (f : FactLine) → DraftOf d (lines ++ f ∷ []) → AreDrafts (set ds i d) (with_line f)
  pub there : has ≡ true

pub found : (v : ℕ) (ds : List Draft) (known : List VehicleFacts) → AreDrafts ds known
    → place_of v known < length (numbers_of known)
    → Placed (place_of v known) ds (lines_for v known) (λ f. with_fact v f known) (has_facts v known)
found v [] [] are less = absurd (omega (arith, less))
found v [] (k ∷ ks) are less = absurd are
found v (d ∷ ds) [] are less = absurd are
found v (d ∷ ds) (k ∷ ks) are less =
    by_test (k.number == v) less (found v ds ks are.1)
  where
    by_test : (b : Bool) → cond (not b) (1 + place_of v ks) 0 < length (numbers_of (k ∷ ks))
        → (place_of v ks < length (numbers_of ks)
        → Placed (place_of v ks) ds (lines_for v ks) (λ f. with_fact v f ks) (has_facts v ks))
        → Placed (cond (not b) (1 + place_of v ks) 0) (d ∷ ds) (cond b k.lines (lines_for v ks))
        (λ f. cond b (record { number = k.number; lines = k.lines ++ f ∷ [] } ∷ ks) (k ∷ with_fact v f ks))
        (cond b true (has_facts v ks))
    by_test true less rest =
        record {
          inside = omega arith;
          draft = d;
          stands = refl;
          of_lines = are.0;
          put = λ e f h. (h, are.1);
          there = refl;
        }
    by_test false less rest =
        let more : 1 + place_of v ks ≡ suc (place_of v ks) = omega arith in
        let r = rest (omega (arith, less)) in
        subst (λ i. Placed i (d ∷ ds) (lines_for v ks) (λ f. k ∷ with_fact v f ks) (has_facts v ks)) (sym more)
        (record {
          inside = omega (arith, r.inside);
          draft = r.draft;
          stands = r.stands;
          of_lines = r.of_lines;
          put = λ e f h. (are.0, r.put e f h);
          there = r.there;
        })

-- the numbers stay as they are where the vehicle has facts
pub numbers-with_fact : (v : ℕ) (f : FactLine) (known : List VehicleFacts) → has_facts v known ≡ true
    → numbers_of (with_fact v f known) ≡ numbers_of known
numbers-with_fact v f [] there = absurd (false≢true there)
numbers-with_fact v f (k ∷ ks) there = by_test (k.number == v) there (numbers-with_fact v f ks)
  where
    by_test : (b : Bool) → cond b true (has_facts v ks) ≡ true
        → (has_facts v ks ≡ true → numbers_of (with_fact v f ks) ≡ numbers_of ks)
        → numbers_of (cond b (record { number = k.number; lines = k.lines ++ f ∷ [] } ∷ ks) (k ∷ with_fact v f ks))
        ≡ numbers_of (k ∷ ks)
    by_test true there rest = refl
    by_test false there rest = ap (λ (ns : List ℕ). k.number ∷ ns) (rest there)

abbrev pub AreVehicles : List VehicleFacts → Type 0
AreVehicles known = AllByRecursion (λ k. IsVehicle k.number) known

pub vehicles-with_fact : (v : ℕ) (f : FactLine) (known : List VehicleFacts) → IsVehicle v → AreVehicles known
    → AreVehicles (with_fact v f known)
vehicles-with_fact v f [] is are = (is, tt)
vehicles-with_fact v f (k ∷ ks) is are = by_test (k.number == v) (vehicles-with_fact v f ks is are.1)
  where
    by_test : (b : Bool) → AreVehicles (with_fact v f ks)
        → AreVehicles (cond b (record { number = k.number; lines = k.lines ++ f ∷ [] } ∷ ks) (k ∷ with_fact v f ks))
    by_test true rest = (are.0, are.1)
    by_test false rest = (are.0, rest)

-- A vehicle that has no fact line: it stands behind the others with its first one.
pub record Absent (v : ℕ) (known : List VehicleFacts) : Type 0 where
  pub lines : lines_for v known ≡ []
  pub behind : (f : FactLine) → with_fact v f known ≡ known ++ record { number = v; lines = f ∷ [] } ∷ []
  pub none : has_facts v known ≡ false

pub absent : (v : ℕ) (known : List VehicleFacts) → (place_of v known < length (numbers_of known) → ⊥) → Absent v known
absent v [] past = record { lines = refl; behind = λ f. refl; none = refl }
absent v (k ∷ ks) past =
    let h = here (k.number == v) past (absent v ks) in record { lines = h.0; behind = h.1; none = h.2 }
  where
    here : (b : Bool) → (cond (not b) (1 + place_of v ks) 0 < length (numbers_of (k ∷ ks)) → ⊥)
        → ((place_of v ks < length (numbers_of ks) → ⊥) → Absent v ks)
        → (cond b k.lines (lines_for v ks) ≡ [])
        × ((f : FactLine) → cond b (record { number = k.number; lines = k.lines ++ f ∷ [] } ∷ ks) (k ∷ with_fact v f ks)
        ≡ (k ∷ ks) ++ record { number = v; lines = f ∷ [] } ∷ [])
        × (cond b true (has_facts v ks) ≡ false)
    here true past rest = absurd (past (omega arith))
    here false past rest =
        let r = rest (λ less. past (omega (arith, less))) in
        (r.lines, λ f. ap (λ (ns : List VehicleFacts). k ∷ ns) (r.behind f), r.none)

numbers-append : (known : List VehicleFacts) (k : VehicleFacts)
    → numbers_of (known ++ k ∷ []) ≡ numbers_of known ++ k.number ∷ []
numbers-append [] k = refl
numbers-append (x ∷ xs) k = ap (λ (ns : List ℕ). x.number ∷ ns) (numbers-append xs k)

drafts-append : (ds : List Draft) (known : List VehicleFacts) (d : Draft) (k : VehicleFacts) → AreDrafts ds known
    → DraftOf d k.lines → AreDrafts (ds ++ d ∷ []) (known ++ k ∷ [])
drafts-append [] [] d k are is = (is, tt)
drafts-append [] (x ∷ xs) d k are is = absurd are
drafts-append (e ∷ ds) [] d k are is = absurd are
drafts-append (e ∷ ds) (x ∷ xs) d k are is = (are.0, drafts-append ds xs d k are.1 is)

vehicles-append : (known : List VehicleFacts) (k : VehicleFacts) → AreVehicles known → IsVehicle k.number
    → AreVehicles (known ++ k ∷ [])
vehicles-append [] k are is = (is, tt)
vehicles-append (x ∷ xs) k are is = (are.0, vehicles-append xs k are.1 is)

-- ---- a place that was looked for

not_below_itself : (n : ℕ) → nat_lt n n ≡ false
not_below_itself n = false_from_ne_true (nat_lt n n) (λ e. let below : n < n = ltb-true n n e in absurd (omega arith))

abbrev is_number : ℕ → ℕ → Bool
is_number v b = b == v

-- where a number stands, as a search of bytes finds it
pub first_number : (v : ℕ) (xs : List ℕ) (r : Option ℕ) → IsFirstByte (is_byte v) xs r
    → r ≡ position (λ b. b == v) xs
first_number v xs None nowhere =
    let none : position_or_len (is_number v) xs ≡ length xs =
    position_or_len_is (is_number v) xs (length xs) 0 (omega arith)
    (λ k inside. false_from_ne_true (is_number v (get_or xs k 0)) (λ e. nowhere k (omega arith) inside e))
    (λ beyond. absurd (omega arith)) in
    sym (ap (λ n. cond (nat_lt n (length xs)) (Some n) None) none
    ∙ ap (λ t. cond t (Some (length xs)) None) (not_below_itself (length xs)))
first_number v xs (Some at) first =
    let there : position_or_len (is_number v) xs ≡ at =
    position_or_len_is (is_number v) xs at 0 (let inside = first.0.high in omega arith)
    (λ k before. false_from_ne_true (is_number v (get_or xs k 0)) (λ e. first.0.before k (omega arith) before e))
    (λ inside. first.1) in
    sym (ap (λ n. cond (nat_lt n (length xs)) (Some n) None) there
    ∙ ap (λ t. cond t (Some at) None) (lt-ltb at (length xs) first.0.high))

abbrev place_in : ℕ → List ℕ → Option ℕ
place_in v ns = position (λ b. b == v) ns

record IsPlace (v : ℕ) (ns : List ℕ) (i : ℕ) : Type 0 where
  is : i ≡ position_or_len (λ b. b == v) ns
  inside : position_or_len (λ b. b == v) ns < length ns

some_place : (v : ℕ) (ns : List ℕ) (i : ℕ) → Some i ≡ place_in v ns → IsPlace v ns i
some_place v ns i found = by_test (nat_lt n (length ns)) refl found
  where
    n : ℕ
    n = position_or_len (λ b. b == v) ns

    by_test : (b : Bool) → nat_lt n (length ns) ≡ b → Some i ≡ cond b (Some n) None → IsPlace v ns i
    by_test true test found = record { is = cc; inside = ltb-true n (length ns) test }
    by_test false test found = absurd (cc)

no_place : (v : ℕ) (ns : List ℕ) → None ≡ place_in v ns → position_or_len (λ b. b == v) ns < length ns → ⊥
no_place v ns none less = by_test (nat_lt n (length ns)) refl none
  where
    n : ℕ
    n = position_or_len (λ b. b == v) ns

    by_test : (b : Bool) → nat_lt n (length ns) ≡ b → None ≡ cond b (Some n) None → ⊥
    by_test true test none = cc
    by_test false test none = let never : nat_lt n (length ns) ≡ true = grind arith in absurd cc

-- ---- the draft at a place

pub length-drafts : (ds : List Draft) (known : List VehicleFacts) → AreDrafts ds known → length ds ≡ length known
length-drafts [] [] are = refl
length-drafts [] (k ∷ ks) are = absurd are
length-drafts (d ∷ ds) [] are = absurd are
length-drafts (d ∷ ds) (k ∷ ks) are = let same : length ds ≡ length ks = length-drafts ds ks are.1 in omega (arith, same)

pub length-numbers : (known : List VehicleFacts) → length (numbers_of known) ≡ length known
length-numbers [] = refl
length-numbers (k ∷ ks) = let same : length (numbers_of ks) ≡ length ks = length-numbers ks in omega (arith, same)

-- what stands at a place, by either reading
pub get_or-some : {X : Type 0} (xs : List X) (i : ℕ) (d x : X) → slice_get xs i ≡ Some x → get_or xs i d ≡ x
get_or-some [] i d x at = absurd cc
get_or-some (y ∷ ys) zero d x at = cc
get_or-some (y ∷ ys) (suc i) d x at = get_or-some ys i d x at

-- a place in front of the end has a vehicle
pub at_place : (known : List VehicleFacts) (i : ℕ) → i < length known → (k : VehicleFacts) × (slice_get known i ≡ Some k)
at_place [] i less = absurd (omega (arith, less))
at_place (k ∷ ks) zero less = (k, refl)
at_place (k ∷ ks) (suc i) less = at_place ks i (omega (arith, less))

-- a place in range has a draft, and it is of these lines
pub record DraftAtPlace (ds : List Draft) (i : ℕ) (lines : List FactLine) : Type 0 where
  pub draft : Draft
  pub at : slice_get ds i ≡ Some draft
  pub of_lines : DraftOf draft lines

pub draft_at : (ds : List Draft) (known : List VehicleFacts) (i : ℕ) (k : VehicleFacts) → AreDrafts ds known
    → slice_get known i ≡ Some k → DraftAtPlace ds i k.lines
draft_at [] [] i k are at = absurd cc
draft_at [] (x ∷ xs) i k are at = absurd are
draft_at (d ∷ ds) [] i k are at = absurd are
draft_at (d ∷ ds) (x ∷ xs) zero k are at =
    let same : x ≡ k = cc in
    record { draft = d; at = refl; of_lines = subst (λ (y : VehicleFacts). DraftOf d y.lines) same are.0 }
draft_at (d ∷ ds) (x ∷ xs) (suc i) k are at =
    let r = draft_at ds xs i k are.1 at in record { draft = r.draft; at = r.at; of_lines = r.of_lines }

-- and its number is that of a vehicle
pub number_at : (known : List VehicleFacts) (i : ℕ) (k : VehicleFacts) → AreVehicles known
    → slice_get known i ≡ Some k → (slice_get (numbers_of known) i ≡ Some k.number) × IsVehicle k.number
number_at [] i k are at = absurd cc
number_at (x ∷ xs) zero k are at =
    let same : x ≡ k = cc in
    (ap (λ (y : VehicleFacts). Some y.number) same, subst (λ (y : VehicleFacts). IsVehicle y.number) same are.0)
number_at (x ∷ xs) (suc i) k are at = number_at xs i k are.1 at

-- a first line is no candidate too many
one_is_few : (g : FactLine) → is_one_too_many [] g ≡ false
one_is_few (fact.Extra candidate) = refl
one_is_few _ = refl

-- ---- what `add` comes to

-- the line goes to the draft of a vehicle that has one
pub added : (v : ℕ) (f : FactLine) (old new : Drafts) (known : List VehicleFacts) (i : ℕ) (room : Bool)
    → DraftsStandFor old known → Some i ≡ position (λ b. b == v) old.numbers.items → IsVehicle v
    → new.numbers ≡ old.numbers
    → ((lines : List FactLine) (d : Draft) → slice_get old.drafts.items i ≡ Some d → DraftOf d lines
    → AddsAt i old.drafts.items new.drafts.items lines f room)
    → (room ≡ not (is_one_too_many (lines_for v known) f))
    × (room ≡ true → DraftsStandFor new (with_fact v f known))
added v f old new known i room stands at is same adds =
    let here = some_place v (numbers_of known) i
    (at ∙ ap (λ (ns : List ℕ). position (λ b. b == v) ns) stands.numbers) in
    let place = found v old.drafts.items known stands.drafts_are here.inside in
    let a = adds (lines_for v known) place.draft
    (subst (λ n. slice_get old.drafts.items n ≡ Some place.draft) (sym here.is) place.stands) place.of_lines in (
      a.answer,
      λ is_room.
          record {
            numbers =
                ap (λ n. n.items) same ∙ stands.numbers ∙ sym (numbers-with_fact v f known place.there);
            drafts_are =
                subst (λ (ds : List Draft). AreDrafts ds (with_fact v f known))
                (ap (λ n. set old.drafts.items n a.draft) (sym here.is) ∙ sym a.put)
                (place.put a.draft f (a.taken is_room));
            ranged = vehicles-with_fact v f known is stands.ranged;
          },
    )

-- the first line of a vehicle makes a draft behind the others
pub joined : (v : ℕ) (f : FactLine) (old new : Drafts) (known : List VehicleFacts) (room : Bool)
    → DraftsStandFor old known → None ≡ position (λ b. b == v) old.numbers.items → IsVehicle v → room ≡ true
    → new.numbers.items ≡ old.numbers.items ++ v ∷ [] → IsBehind old.drafts.items new.drafts.items f
    → (room ≡ not (is_one_too_many (lines_for v known) f))
    × (room ≡ true → DraftsStandFor new (with_fact v f known))
joined v f old new known room stands at is is_room numbers behind =
    let a = absent v known
    (no_place v (numbers_of known) (at ∙ ap (λ (ns : List ℕ). position (λ b. b == v) ns) stands.numbers)) in
    let k : VehicleFacts = record { number = v; lines = f ∷ [] } in (
      is_room ∙ sym (ap (λ (ls : List FactLine). not (is_one_too_many ls f)) a.lines ∙ ap not (one_is_few f)),
      λ _.
          record {
            numbers =
                numbers ∙ ap (λ (ns : List ℕ). ns ++ v ∷ []) stands.numbers ∙ sym (numbers-append known k)
                ∙ ap numbers_of (sym (a.behind f));
            drafts_are =
                subst (λ (ks : List VehicleFacts). AreDrafts new.drafts.items ks) (sym (a.behind f))
                (subst (λ (ds : List Draft). AreDrafts ds (known ++ k ∷ [])) (sym behind.behind)
                (drafts-append old.drafts.items known behind.draft k stands.drafts_are behind.first));
            ranged =
                subst AreVehicles (sym (a.behind f)) (vehicles-append known k stands.ranged is);
          },
    )

-- whether a vehicle has a fact line is whether it has a place
pub has_some : (v : ℕ) (old : Drafts) (known : List VehicleFacts) (i : ℕ) → DraftsStandFor old known
    → Some i ≡ position (λ b. b == v) old.numbers.items → has_facts v known ≡ true
has_some v old known i stands at =
    let here = some_place v (numbers_of known) i
    (at ∙ ap (λ (ns : List ℕ). position (λ b. b == v) ns) stands.numbers) in
    (found v old.drafts.items known stands.drafts_are here.inside).there

pub has_none : (v : ℕ) (old : Drafts) (known : List VehicleFacts) → DraftsStandFor old known
    → None ≡ position (λ b. b == v) old.numbers.items → has_facts v known ≡ false
has_none v old known stands at =
    (absent v known
    (no_place v (numbers_of known) (at ∙ ap (λ (ns : List ℕ). position (λ b. b == v) ns) stands.numbers))).none

-- where a vehicle has a place, there is a draft at it
pub inside_drafts : (v : ℕ) (old : Drafts) (known : List VehicleFacts) (i : ℕ) → DraftsStandFor old known
    → Some i ≡ position (λ b. b == v) old.numbers.items → i < length old.drafts.items
inside_drafts v old known i stands at =
    let here = some_place v (numbers_of known) i
    (at ∙ ap (λ (ns : List ℕ). position (λ b. b == v) ns) stands.numbers) in
    let place = found v old.drafts.items known stands.drafts_are here.inside in
    subst (λ n. n < length old.drafts.items) (sym here.is) place.inside

-- behind a first line a draft is of that line
pub behind_first : (old new : List Draft) (f : FactLine) (first draft : Draft)
    → ((lines : List FactLine) → DraftOf first lines → is_one_too_many lines f ≡ false → DraftOf draft (lines ++ f ∷ []))
    → DraftOf first [] → new ≡ old ++ draft ∷ [] → IsBehind old new f
behind_first old new f first draft taken none is =
    record { draft = draft; behind = is; first = taken [] none (one_is_few f) }

-- the same of an answer that may want memory
pub joined_if : {E : Type 0} (v : ℕ) (f : FactLine) (old new : Drafts) (known : List VehicleFacts) (r : Result Bool E)
    → DraftsStandFor old known → None ≡ position (λ b. b == v) old.numbers.items → IsVehicle v
    → IfOk r (λ room. room ≡ true) → OnOk r (new.numbers.items ≡ old.numbers.items ++ v ∷ [])
    → OnOk r (IsBehind old.drafts.items new.drafts.items f)
    → IfOk r (λ room. (room ≡ not (is_one_too_many (lines_for v known) f))
    × (room ≡ true → DraftsStandFor new (with_fact v f known)))
joined_if v f old new known (Ok room) stands at is is_room numbers behind =
    joined v f old new known room stands at is is_room numbers behind
joined_if v f old new known (Err why) stands at is is_room numbers behind = tt
