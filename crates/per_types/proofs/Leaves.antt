-- The plans of the kinds, and that their paths are the elements that spell a value.
use Rattle.std.proofs.Common.{◌≡◌, ◌≢◌, ℕ, zero, suc, ◌^◌, ◌<◌, Bool, true, false, cond, eqb, List, [], ◌∷◌, ◌++◌, length, Option, Some, None, refl, sym, ap, subst, ◌∙◌, append-nil, arith}
use Rattle.std.proofs.Math.Nat.{mod-eq_of_lt}
use Rattle.std.proofs.lemmas.Int.{ints}
use Rattle.std.proofs.lemmas.List.Folds.{Any-from_list_any, list_any_at}
use Rattle.std.specs.Prelude.{ℤ, pos, ◌+ℤ◌, ◌-ℤ◌, ◌≤ℤ◌, int_lt, slice_index}
use Rattle.std.specs.List.{Contains, list_any}
use Rattle.std.proofs.lemmas.Bool.{ne_eqb, eqb-false, eq-eqb, eqb-true, leb-false, lt-leb}
use Rattle.per_bits.specs.Bits.{digits, value_of}
use Rattle.per_bits.specs.Parts.{Small, Length}
use Rattle.per_bits.proofs.Digits.{length_digits, value_digits, digits_value, value_below}
use Rattle.per_types.specs.Kinds as kind
use Rattle.per_types.specs.Kinds.{Kind, width, fault, Fault, at_once, first_bit, Element, element, bits_of, alphabet, span, is_last, oid_fault}
use Rattle.per_types.specs.Spelling.{Whole, Character, TruthElements, SmallElements, LengthElements, WholeElements, PresenceElements, CharacterElements, TextElements, FormatElements}
use Rattle.per_types.proofs.Widths.{only_width, has_width}
use Rattle.per_types.proofs.Plans.{Plan, done, ask, chain, Path, Live, Accepted, Follows}

-- ---- paths taken apart and put together

pub record Asked {X : Type 0} (k : Kind) (next_of : List Bool → Plan X) (es : List Element) (v : X) : Type 0 where
  pub bits : List Bool
  pub rest : List Element
  pub accepted : Accepted k bits
  pub path : Path (next_of bits) rest v
  pub elements : es ≡ element k bits ∷ rest

pub asked : {X : Type 0} (k : Kind) (next_of : List Bool → Plan X) (es : List Element) (v : X) → Path (ask k next_of) es v → Asked k next_of es v
asked k next_of [] v path = absurd path
asked k next_of (e ∷ es) v path = record { bits = e.bits; rest = es; accepted = path.1; path = path.2; elements = ap (λ (j : Kind). element j e.bits ∷ es) path.0 }

pub record Chained {X Y : Type 0} (plan : Plan X) (next : X → Plan Y) (es : List Element) (v : Y) : Type 0 where
  pub value : X
  pub first : List Element
  pub rest : List Element
  pub path : Path plan first value
  pub then : Path (next value) rest v
  pub elements : es ≡ first ++ rest

pub chained : {X Y : Type 0} (plan : Plan X) (next : X → Plan Y) (es : List Element) (v : Y) → Path (chain plan next) es v → Chained plan next es v
chained (done x) next es v path = record { value = x; first = []; rest = es; path = (refl, refl); then = path; elements = refl }
chained (ask k next_of) next [] v path = absurd path
chained (ask k next_of) next (e ∷ es) v path =
    let c = chained (next_of e.bits) next es v path.2 in
    record { value = c.value; first = e ∷ c.first; rest = c.rest; path = (path.0, path.1, c.path); then = c.then; elements = ap (λ (ds : List Element). e ∷ ds) c.elements }

pub path_chain : {X Y : Type 0} (plan : Plan X) (next : X → Plan Y) (a rest : List Element) (x : X) (v : Y) → Path plan a x → Path (next x) rest v → Path (chain plan next) (a ++ rest) v
path_chain (done y) next a rest x v path then = rw path.0 (subst (λ (z : _). Path (next z) rest v) (sym path.1) then)
path_chain (ask k next_of) next [] rest x v path then = absurd path
path_chain (ask k next_of) next (e ∷ es) rest x v path then = (path.0, path.1, path_chain (next_of e.bits) next es rest x v path.2 then)

pub live_chain : {X Y : Type 0} (plan : Plan X) (next : X → Plan Y) → Live plan → ((x : X) (es : List Element) → Path plan es x → Live (next x)) → Live (chain plan next)
live_chain (done x) next live after = after x [] (refl, refl)
live_chain (ask k next_of) next live after =
    (live.0, λ b accepted. live_chain (next_of b) next (live.1 b accepted) (λ x es path. after x (element k b ∷ es) (refl, accepted, path)))

-- ---- one bit

pub one_bit : (b : List Bool) → length b ≡ 1 → b ≡ first_bit b ∷ []
one_bit [] l = absurd (omega arith)
one_bit (x ∷ []) l = refl
one_bit (x ∷ y ∷ b) l = absurd (omega arith)

pub accepted_truth : (x : Bool) → Accepted kind.truth (x ∷ [])
unfolding width fault
accepted_truth x = record { width = refl; sound = refl }

pub truth_bit : (b : List Bool) → Accepted kind.truth b → b ≡ first_bit b ∷ []
unfolding width fault
truth_bit b a = one_bit b a.width

abbrev pub truth_plan : Plan Bool
truth_plan = ask kind.truth (λ b. done (first_bit b))

pub follows_truth : Follows TruthElements truth_plan
follows_truth = record {
  asked = λ v es spelled. rw spelled (refl, accepted_truth v, (refl, refl));
  spelled = λ v es path.
      let a = asked kind.truth (λ b. done (first_bit b)) es v path in
      a.elements ∙ rw (a.path.0, truth_bit a.bits a.accepted, a.path.1) refl;
}

-- ---- a zero bit and a number

pub no_fault : (c : Bool) (f : Fault) (g : Option Fault) → cond c (Some f) g ≡ None → (c ≡ false) × (g ≡ None)
no_fault true f g h = absurd cc
no_fault false f g h = (refl, h)

pub record Headed (w n : ℕ) (b : List Bool) : Type 0 where
  pub width : length b ≡ suc w
  pub zero_bit : first_bit b ≡ false
  pub reads : value_of b ≡ n

pub headed : (w n : ℕ) (b : List Bool) → n < 2 ^ w → b ≡ false ∷ digits w n → Headed w n b
headed w n b small e = rw e (record { width = ap suc (length_digits w n); zero_bit = refl; reads = value_digits w n ∙ mod-eq_of_lt small })

pub record Plain (w : ℕ) (b : List Bool) : Type 0 where
  pub small : value_of b < 2 ^ w
  pub spelled : b ≡ false ∷ digits w (value_of b)

pub plain : (w : ℕ) (b : List Bool) → length b ≡ suc w → first_bit b ≡ false → Plain w b
plain w [] l f = absurd (omega arith)
plain w (true ∷ b) l f = absurd cc
plain w (false ∷ b) l f =
    let long : length b ≡ w = omega arith in
    record { small = omega (arith, value_below b, ap (λ (k : ℕ). 2 ^ k) long); spelled = ap (λ (x : List Bool). false ∷ x) (sym (digits_value b) ∙ ap (λ (k : ℕ). digits k (value_of b)) long) }

pub small_of : (n : ℕ) (b : List Bool) → Small n b → Headed 6 n b
small_of n b s = headed 6 n b (omega (arith, s.0)) s.1

pub length_of : (n : ℕ) (b : List Bool) → Length n b → Headed 7 n b
length_of n b s = headed 7 n b (omega (arith, s.0)) s.1

pub accepted_small : (n : ℕ) (b : List Bool) → Headed 6 n b → Accepted kind.small b
unfolding width fault
accepted_small n b h = record { width = h.width; sound = rw h.zero_bit refl }

pub small_bits : (b : List Bool) → Accepted kind.small b → Small (value_of b) b
unfolding width fault
small_bits b a = let p = plain 6 b a.width (no_fault (first_bit b) _ None a.sound).0 in (omega (arith, p.small), p.spelled)

pub accepted_length : (n : ℕ) (b : List Bool) → Headed 7 n b → Accepted kind.string_length b
unfolding width fault
accepted_length n b h = record { width = h.width; sound = rw h.zero_bit refl }

pub length_bits : (b : List Bool) → Accepted kind.string_length b → Length (value_of b) b
unfolding width fault
length_bits b a = let p = plain 7 b a.width (no_fault (first_bit b) _ None a.sound).0 in (omega (arith, p.small), p.spelled)

eqb_zero : (n : ℕ) → n ≢ 0 → eqb n 0 ≡ false
eqb_zero n h = ne_eqb n 0 h

zero_eqb : (n : ℕ) → eqb n 0 ≡ false → n ≢ 0
zero_eqb n h = eqb-false n 0 h

pub accepted_oid_length : (n : ℕ) (b : List Bool) → Headed 7 n b → n ≢ 0 → Accepted kind.oid_length b
unfolding width fault
accepted_oid_length n b h some = record { width = h.width; sound = rw (h.zero_bit, h.reads, eqb_zero n some) refl }

pub accepted_open_length : (n : ℕ) (b : List Bool) → Headed 7 n b → n ≢ 0 → Accepted kind.open_length b
unfolding width fault
accepted_open_length n b h some = record { width = h.width; sound = rw (h.zero_bit, h.reads, eqb_zero n some) refl }

pub oid_length_bits : (b : List Bool) → Accepted kind.oid_length b → Length (value_of b) b × (value_of b ≢ 0)
unfolding width fault
oid_length_bits b a =
    let outer = no_fault (first_bit b) _ _ a.sound in
    let p = plain 7 b a.width outer.0 in
    ((omega (arith, p.small), p.spelled), zero_eqb (value_of b) (no_fault (eqb (value_of b) 0) _ None outer.1).0)

pub open_length_bits : (b : List Bool) → Accepted kind.open_length b → Length (value_of b) b × (value_of b ≢ 0)
unfolding width fault
open_length_bits b a =
    let outer = no_fault (first_bit b) _ _ a.sound in
    let p = plain 7 b a.width outer.0 in
    ((omega (arith, p.small), p.spelled), zero_eqb (value_of b) (no_fault (eqb (value_of b) 0) _ None outer.1).0)

abbrev pub small_plan : Plan ℕ
small_plan = ask kind.small (λ b. done (value_of b))

pub follows_small : Follows SmallElements small_plan
follows_small = record {
  asked = λ n es s. let h = small_of n s.0 s.1 in rw s.2 (refl, accepted_small n s.0 h, (refl, h.reads));
  spelled = λ n es path.
      let a = asked kind.small (λ b. done (value_of b)) es n path in
      (a.bits, subst (λ (m : ℕ). Small m a.bits) a.path.1 (small_bits a.bits a.accepted), a.elements ∙ rw a.path.0 refl);
}

abbrev pub length_plan : Plan ℕ
length_plan = ask kind.string_length (λ b. done (value_of b))

pub follows_length : Follows LengthElements length_plan
follows_length = record {
  asked = λ n es s. let h = length_of n s.0 s.1 in rw s.2 (refl, accepted_length n s.0 h, (refl, h.reads));
  spelled = λ n es path.
      let a = asked kind.string_length (λ b. done (value_of b)) es n path in
      (a.bits, subst (λ (m : ℕ). Length m a.bits) a.path.1 (length_bits a.bits a.accepted), a.elements ∙ rw a.path.0 refl);
}

-- ---- numbers, characters and indices

module _ (low high : ℤ) where
  not_above : (n : ℕ) → int_lt (high -ℤ low) (pos n) ≡ false → (low +ℤ pos n) ≤ℤ high
  not_above n h = grind (arith, ints)

  in_range : (v : ℤ) (n : ℕ) → v ≤ℤ high → low +ℤ pos n ≡ v → int_lt (high -ℤ low) (pos n) ≡ false
  in_range v n h e = grind (arith, ints)

  not_below : (n : ℕ) → low ≤ℤ (low +ℤ pos n)
  not_below n = omega (arith, ints)

  pub accepted_whole : (v : ℤ) (b : List Bool) → Whole low high v b → Accepted (kind.whole low high) b
  unfolding width fault
  accepted_whole v b w = record { width = only_width (span low high) (length b) w.width; sound = rw (in_range v (value_of b) w.below w.reads) refl }

  whole_bits : (b : List Bool) → Accepted (kind.whole low high) b → Whole low high (low +ℤ pos (value_of b)) b
  unfolding width fault
  whole_bits b a =
      record { above = not_below (value_of b); below = not_above (value_of b) (no_fault (int_lt (high -ℤ low) (pos (value_of b))) _ None a.sound).0; width = has_width (span low high) (length b) a.width; reads = refl }

  abbrev pub whole_plan : Plan ℤ
  whole_plan = ask (kind.whole low high) (λ b. done (low +ℤ pos (value_of b)))

  pub follows_whole : Follows (WholeElements low high) whole_plan
  follows_whole = record {
    asked = λ v es s. rw s.2 (refl, accepted_whole v s.0 s.1, (refl, s.1.reads));
    spelled = λ v es path.
        let a = asked (kind.whole low high) (λ b. done (low +ℤ pos (value_of b))) es v path in
        (a.bits, subst (λ (x : ℤ). Whole low high x a.bits) a.path.1 (whole_bits a.bits a.accepted), a.elements ∙ rw a.path.0 refl);
  }

abbrev pub presence_plan : ℕ → Plan (List Bool)
presence_plan n = ask (kind.presence n) (λ b. done b)

pub accepted_presence : (n : ℕ) (b : List Bool) → length b ≡ n → Accepted (kind.presence n) b
unfolding width fault
accepted_presence n b l = record { width = l; sound = refl }

pub presence_width : (n : ℕ) (b : List Bool) → Accepted (kind.presence n) b → length b ≡ n
unfolding width
presence_width n b a = a.width

pub follows_presence : (n : ℕ) → Follows (PresenceElements n) (presence_plan n)
follows_presence n = record {
  asked = λ b es s. rw s.1 (refl, accepted_presence n b s.0, (refl, refl));
  spelled = λ v es path.
      let a = asked (kind.presence n) (λ b. done b) es v path in
      (ap length (sym a.path.1) ∙ presence_width n a.bits a.accepted, a.elements ∙ rw (a.path.0, a.path.1) refl);
}

pub accepted_character : (c : ℕ) (b : List Bool) → Character c b → Accepted kind.character b
unfolding width fault
accepted_character c b s = record { width = s.width; sound = rw (lt-leb (length alphabet) (value_of b) s.known) refl }

character_bits : (b : List Bool) → Accepted kind.character b → Character (slice_index alphabet (value_of b)) b
unfolding width fault
character_bits b a = record { width = a.width; known = leb-false (length alphabet) (value_of b) (no_fault _ _ None a.sound).0; reads = refl }

abbrev pub character_plan : Plan ℕ
character_plan = ask kind.character (λ b. done (slice_index alphabet (value_of b)))

pub follows_character : Follows CharacterElements character_plan
follows_character = record {
  asked = λ c es s. rw s.2 (refl, accepted_character c s.0 s.1, (refl, s.1.reads));
  spelled = λ c es path.
      let a = asked kind.character (λ b. done (slice_index alphabet (value_of b))) es c path in
      (a.bits, subst (λ (x : ℕ). Character x a.bits) a.path.1 (character_bits a.bits a.accepted), a.elements ∙ rw a.path.0 refl);
}

abbrev pub text_plan : ℕ → Plan (List ℕ)
text_plan zero = done []
text_plan (suc n) = chain character_plan (λ c. chain (text_plan n) (λ cs. done (c ∷ cs)))

pub follows_text : (n : ℕ) → Follows (TextElements n) (text_plan n)
follows_text n = record { asked = text_asked n; spelled = text_spelled n }
  where
    text_asked : (n : ℕ) (cs : List ℕ) (es : List Element) → TextElements n cs es → Path (text_plan n) es cs
    text_asked zero [] es s = (s, refl)
    text_asked zero (c ∷ cs) es s = absurd s
    text_asked (suc n) [] es s = absurd s
    text_asked (suc n) (c ∷ cs) es s =
        let more = path_chain (text_plan n) (λ ds. done (c ∷ ds)) s.1 [] cs (c ∷ cs) (text_asked n cs s.1 s.3) (refl, refl) in
        rw s.4 (path_chain character_plan (λ d. chain (text_plan n) (λ ds. done (d ∷ ds))) s.0 s.1 c (c ∷ cs) (follows_character.asked c s.0 s.2) (subst (λ (x : _). Path (chain (text_plan n) (λ ds. done (c ∷ ds))) x (c ∷ cs)) (append-nil s.1) more))

    text_spelled : (n : ℕ) (cs : List ℕ) (es : List Element) → Path (text_plan n) es cs → TextElements n cs es
    text_spelled zero [] es path = path.0
    text_spelled zero (c ∷ cs) es path = absurd cc
    text_spelled (suc n) cs es path =
        let one = chained character_plan (λ d. chain (text_plan n) (λ ds. done (d ∷ ds))) es cs path in
        let more = chained (text_plan n) (λ ds. done (one.value ∷ ds)) one.rest cs one.then in
        subst (λ (x : List ℕ). TextElements (suc n) x es) more.then.1 (
          one.first,
          more.first,
          follows_character.spelled one.value one.first one.path,
          text_spelled n more.value more.first more.path,
          one.elements ∙ ap (λ (x : List Element). one.first ++ x) (more.elements ∙ ap (λ (x : List Element). more.first ++ x) more.then.0 ∙ append-nil more.first),
        )

-- ---- formats

is_known : (known : List ℕ) (v : ℕ) → Contains known v → list_any (λ id. eqb id v) known ≡ true
is_known known v c = list_any_at (λ id. eqb id v) known c.0 v c.1 (eq-eqb _ v c.2)

known_is : (known : List ℕ) (v : ℕ) → list_any (λ id. eqb id v) known ≡ true → Contains known v
known_is known v h =
    let a = Any-from_list_any (λ id. eqb id v) known h in
    let same : a.1 ≡ v = eqb-true a.1 v a.4 in
    subst (Contains known) same (a.0, a.2, a.3)

no_other : (c : Bool) (f : Fault) → cond c None (Some f) ≡ None → c ≡ true
no_other true f h = refl
no_other false f h = absurd cc

module _ (known : List ℕ) where
  pub accepted_format : (b : List Bool) → length b ≡ 8 → Contains known (value_of b) → Accepted (kind.format known) b
  unfolding width fault
  accepted_format b l c = record { width = l; sound = rw (is_known known (value_of b) c) refl }

  format_bits : (b : List Bool) → Accepted (kind.format known) b → (length b ≡ 8) × Contains known (value_of b)
  unfolding width fault
  format_bits b a = (a.width, known_is known (value_of b) (no_other _ _ a.sound))

  abbrev pub format_plan : Plan ℕ
  format_plan = ask (kind.format known) (λ b. done (value_of b))

  pub follows_format : Follows (FormatElements known) format_plan
  follows_format = record {
    asked = λ v es s. rw s.4 (refl, accepted_format s.0 s.1 s.2, (refl, sym s.3));
    spelled = λ v es path.
        let a = asked (kind.format known) (λ b. done (value_of b)) es v path in
        let f = format_bits a.bits a.accepted in
        (a.bits, f.0, f.1, sym a.path.1, a.elements ∙ rw a.path.0 refl);
  }
