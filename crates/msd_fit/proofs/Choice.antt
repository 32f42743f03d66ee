-- The set that fits: the code counts bits, and the definition octets.
use Rattle.std.proofs.Common.{◌≡◌, ℕ, ◌+◌, ◌-◌, ◌*◌, ◌/◌, ◌%◌, ◌<◌, ◌≤◌, nat_le, Bool, true, false, List, [], ◌∷◌, ◌++◌, length, Option, Some, None, Result, Ok, Err, refl, sym, ap, subst, ◌∙◌, arith}
use Rattle.std.specs.Prelude.{IsOk, IfErr}
use Rattle.std.specs.List.{find}
use Rattle.std.specs.Option.{option_map}
use Rattle.std.proofs.lemmas.List.{length-append, length-replicate}
use Rattle.std.proofs.lemmas.Bool.{cond_both}
use Rattle.std.proofs.lemmas.Bool.Decides.{nat_tests}
use Rattle.per_bits.specs.Bits.{padding, padded, room_bits, room_octets}
use Rattle.per_bits.proofs.Octets.{length_octets_of}
use Rattle.msd_values.specs.declared.msd.Extra.{Extra}
use Rattle.msd_values.specs.declared.msd.Msd.{Msd}
use Rattle.msd_values.specs.declared.format.Format.{Format}
use Rattle.msd_codec.proofs.BothFormats.{module_is}
use Rattle.msd_codec.specs.Module.{ecall_message}
use Rattle.per_types.specs.Types.{Tree, record_of, no_fields, field}
use Rattle.msd_codec.specs.Trees.{IsPlain, extra_tree, optional_field, tree}
use Rattle.msd_codec.specs.Sets.{AreCanonical}
use Rattle.msd_codec.specs.Canonical.{canonical_bits}
use Rattle.msd_fit.specs.Candidates.{AdditionalData}
use Rattle.msd_fit.specs.Fitting.{extra_of, set_with, octets_with, chosen, fitting, filled, AreFilled}
use Rattle.msd_fit.specs.declared.cause.Cause.{Cause}
use Rattle.msd_fit.specs.declared.facts.OwnFacts.{OwnFacts}
use Rattle.msd_fit.specs.declared.facts.Facts.{Facts}
use Rattle.msd_fit.specs.declared.facts.Facts.TheVariants.{Own}
use Rattle.msd_fit.specs.inner.Lengths.{data_bits}
use Rattle.msd_fit.proofs.Lengths.{set_bits, data_added}

-- ---- bits and octets

eighths : (n : ℕ) → n + (8 - n % 8) % 8 ≡ 8 * ((n + 7) / 8)
eighths n = omega arith

padded_long : (b : List Bool) → length (padded b) ≡ (length b + 7) / 8
padded_long b =
    length_octets_of ((length b + 7) / 8) (b ++ padding (length b))
    (length-append b (padding (length b)) ∙ ap (λ k. length b + k) (length-replicate ((8 - length b % 8) % 8) false) ∙ eighths (length b))

test_of_bits : (n m k : ℕ) → n ≡ (m + 7) / 8 → m ≡ k → nat_le n 140 ≡ nat_le k 1120
test_of_bits n m k e f = grind (arith, nat_tests)

room_left : (len extra : ℕ) → len ≤ 1120 → nat_le (len + extra) 1120 ≡ nat_le extra (1120 - len)
room_left len extra few = grind (arith, nat_tests)

-- ---- the choice

octets_long :
    (facts : OwnFacts) (cause : Cause) (n : ℕ) (extra : Option AdditionalData)
    → length (octets_with facts cause n extra) ≡ (set_bits facts cause n extra + 7) / 8
octets_long facts cause n extra =
    ap (λ t. length (padded (canonical_bits t (tree (set_with facts cause n extra))))) (module_is (set_with facts cause n extra))
    ∙ padded_long (canonical_bits (ecall_message facts.format) (tree (set_with facts cause n extra)))

test_same : (facts : OwnFacts) (cause : Cause) (n : ℕ) (extra : AdditionalData) → set_bits facts cause n None ≤ 1120 → nat_le (length (octets_with facts cause n (Some extra))) room_octets ≡ nat_le (data_bits extra) (room_bits - set_bits facts cause n None)
test_same facts cause n extra few =
    test_of_bits _ _ _ (octets_long facts cause n (Some extra)) (data_added facts cause n extra)
    ∙ room_left (set_bits facts cause n None) (data_bits extra) few

found_same : {X : Type 0} (p q : X → Bool) → ((x : X) → p x ≡ q x) → (xs : List X) → find p xs ≡ find q xs
found_same p q e xs = ap (λ r. find r xs) (λ i x. e x i)

-- what `spell` counted and found: the bits of the set without additional data, how many are left, and the candidate
pub record Found (facts : OwnFacts) (cause : Cause) (n len room : ℕ) (found : Option AdditionalData) : Type 0 where
  pub counted : len ≡ set_bits facts cause n None
  pub few : len ≤ 1120
  pub left : room ≡ 1120 - len
  pub first : found ≡ find (λ extra. nat_le (data_bits extra) room) facts.extras.items

pub found_is :
    (facts : OwnFacts) (cause : Cause) (n : ℕ) (plain : Msd) (len room : ℕ) (candidates : List AdditionalData) (found : Option AdditionalData)
    → tree plain ≡ tree (set_with facts cause n None) → plain.format ≡ facts.format → IsPlain plain
    → len ≡ length (canonical_bits (ecall_message plain.format) (tree plain)) → (IsPlain plain → len ≤ 302)
    → room ≡ 1120 - len → candidates ≡ facts.extras.items → found ≡ find (λ extra. nat_le (data_bits extra) room) candidates
    → Found facts cause n len room found
found_is facts cause n plain len room candidates found same form nothing count few left all first =
    record {
      counted = count ∙ ap (λ f. length (canonical_bits (ecall_message f) (tree plain))) form ∙ ap (λ t. length (canonical_bits (ecall_message facts.format) t)) same;
      few = omega (arith, few nothing);
      left = left;
      first = first ∙ ap (find (λ extra. nat_le (data_bits extra) room)) all;
    }

-- the tree of a set with this additional data put into it
abbrev tree_with : Tree → Option Tree → Tree
tree_with (record_of (field id (field (record_of (field s old) more) none)) rest) extra =
    record_of (field id (field (record_of (field s (optional_field extra no_fields)) more) none)) rest
tree_with v extra = v

abbrev pub with_extra : Msd → Option Extra → Msd
with_extra msd extra =
    record {
      format = msd.format;
      message = msd.message;
      automatic = msd.automatic;
      test = msd.test;
      trusted = msd.trusted;
      kind = msd.kind;
      vin = msd.vin;
      fuel = msd.fuel;
      marks = msd.marks;
      fuel_more = msd.fuel_more;
      time = msd.time;
      latitude = msd.latitude;
      longitude = msd.longitude;
      heading = msd.heading;
      before1 = msd.before1;
      before2 = msd.before2;
      passengers = msd.passengers;
      set_more = msd.set_more;
      extra = extra;
      message_more = msd.message_more;
    }

pub put_in :
    (facts : OwnFacts) (cause : Cause) (n : ℕ) (plain : Msd) (extra : Option Extra) (found : Option AdditionalData)
    → tree plain ≡ tree (set_with facts cause n None) → extra ≡ option_map extra_of found
    → tree (with_extra plain extra) ≡ tree (set_with facts cause n found)
put_in facts cause n plain extra found same e =
    ap (λ v. tree_with v (option_map extra_tree extra)) same
    ∙ ap (λ o. tree_with (tree (set_with facts cause n None)) (option_map extra_tree o)) e

-- it is the candidate that the definition chooses
choice_is :
    {facts : OwnFacts} {cause : Cause} {n len room : ℕ} {found : Option AdditionalData}
    → Found facts cause n len room found → found ≡ chosen facts cause n
choice_is {facts} {cause} {n} h =
    h.first
    ∙ ap (λ k. find (λ extra. nat_le (data_bits extra) k) facts.extras.items) (h.left ∙ ap (λ k. 1120 - k) h.counted)
    ∙ sym (found_same _ _ (λ extra. test_same facts cause n extra (omega (arith, h.few, h.counted))) facts.extras.items)

-- so the set is the one that fits
pub set_is :
    {facts : OwnFacts} {cause : Cause} {n len room : ℕ} {found : Option AdditionalData} (v : Tree)
    → Found facts cause n len room found → v ≡ tree (set_with facts cause n found) → v ≡ tree (fitting facts cause n)
set_is {facts} {cause} {n} v h e = e ∙ ap (λ extra. tree (set_with facts cause n extra)) (choice_is h)

-- ---- it has room

within : (facts : OwnFacts) (cause : Cause) (n room : ℕ) (xs : List AdditionalData) → set_bits facts cause n None + room ≤ 1120 → set_bits facts cause n (find (λ extra. nat_le (data_bits extra) room) xs) ≤ 1120
within facts cause n room [] few = omega (arith, few)
within facts cause n room (x ∷ xs) few =
    let P : Option AdditionalData → Type 0 = λ o. set_bits facts cause n o ≤ 1120 in
    let rest = within facts cause n room xs few in
    cond_both (nat_le (data_bits x) room) (Some x) (find (λ extra. nat_le (data_bits extra) room) xs) P (λ h. let there : data_bits x ≤ room = grind (arith, nat_tests) in omega (arith, few, there, data_added facts cause n x)) (λ h. rest)

has_room :
    {facts : OwnFacts} {cause : Cause} {n len room : ℕ} {found : Option AdditionalData}
    → Found facts cause n len room found → set_bits facts cause n found ≤ room_bits
has_room {facts} {cause} {n} {len} {room} h =
    let P : Option AdditionalData → Type 0 = λ o. set_bits facts cause n o ≤ 1120 in
    subst P (sym h.first) (within facts cause n room facts.extras.items (omega (arith, h.counted, h.few, h.left)))

-- and it is written
pub is_written :
    {A E : Type 0} {facts : OwnFacts} {cause : Cause} {n len room : ℕ} {found : Option AdditionalData} (bits : E → ℕ) (msd : Msd) (r : Result A E)
    → Found facts cause n len room found → tree msd ≡ tree (set_with facts cause n found) → msd.format ≡ facts.format
    → IfErr r (λ e. (bits e ≡ length (canonical_bits (ecall_message msd.format) (tree msd))) × (room_bits < bits e)) → IsOk r
is_written bits msd (Ok x) h same form long = refl
is_written {A} {E} {facts} bits msd (Err e) h same form long =
    absurd (omega (arith, has_room h, long.0, long.1, ap (λ f. length (canonical_bits (ecall_message f) (tree msd))) form, ap (λ t. length (canonical_bits (ecall_message facts.format) t)) same))

-- ---- what `make` does

-- the set of own facts is the canonical one, and octets 0 behind it
pub made_of :
    (facts : Facts) (mine : OwnFacts) (cause : Cause) (n : ℕ) (front octets : List ℕ)
    → facts ≡ Own mine → AreCanonical front (tree (fitting mine cause n)) → octets ≡ filled front
    → (own : OwnFacts) → facts ≡ Own own → AreFilled octets (tree (fitting own cause n))
made_of facts mine cause n front octets is canonical made own e =
    let same : mine ≡ own = cc (is, e) in
    record {
      front = front;
      canonical = subst (λ f. AreCanonical front (tree (fitting f cause n))) same canonical;
      zeros = room_octets - length front;
      made = made;
    }
