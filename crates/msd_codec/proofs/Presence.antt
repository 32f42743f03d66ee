-- The number that presence bits read.
use Rattle.std.proofs.Common.{◌≡◌, ℕ, ◌+◌, ◌*◌, ◌^◌, ◌<◌, ◌≤◌, Bool, true, false, List, [], ◌∷◌, ◌++◌, length, take, get_or, Result, Ok, Err, refl, sym, ap, subst, ◌∙◌, arith}
use Rattle.std.specs.Prelude.{OnOk}
use Rattle.std.specs.Int.{from_bool}
use Rattle.std.proofs.lemmas.List.{take_more}
use Rattle.std.proofs.lemmas.Grind.{pow_more}
use Rattle.per_bits.specs.Bits.{value_of, digits, room_bits}
use Rattle.per_bits.proofs.Digits.{value_append, digits_value}
use Rattle.per_types.specs.Kinds.{bits_of}
use Rattle.per_types.specs.Spelling.{PresenceElements}
use Rattle.per_types.specs.Writing.{AppendsSpelling}
use Rattle.msd_codec.specs.inner.Writing.{Puts}
use Rattle.msd_codec.proofs.Puts.{put_of}

one_value : (b : Bool) → value_of (b ∷ []) ≡ from_bool b
one_value true = refl
one_value false = refl

one_below : (b : Bool) → from_bool b < 2
one_below true = omega arith
one_below false = omega arith

pub presence_more : (ps : List Bool) (i n b : ℕ) → i < length ps → n ≡ value_of (take i ps) → n < 2 ^ i → b ≡ from_bool (get_or ps i false) → (2 * n + b ≡ value_of (take (i + 1) ps)) × (2 * n + b < 2 ^ (i + 1))
presence_more ps i n b h is low e =
    let bit = get_or ps i false in
    let value : value_of (take (i + 1) ps) ≡ value_of (take i ps) * 2 + from_bool bit = ap value_of (take_more ps i false h) ∙ value_append (take i ps) (bit ∷ []) ∙ ap (λ k. value_of (take i ps) * 2 + k) (one_value bit) in
    (omega (arith, value, is, e), omega (arith, low, e, one_below bit, pow_more 2 i))

pub presence_put : {X E : Type 0} (ps : List Bool) (n : ℕ) (old new : List Bool) (r : Result X E) → n ≡ value_of ps → AppendsSpelling (PresenceElements (length ps) (digits (length ps) n)) old r new → Puts (PresenceElements (length ps) ps) old r new
presence_put ps n old new r is w =
    let same : digits (length ps) n ≡ ps = ap (digits (length ps)) is ∙ digits_value ps in
    put_of (PresenceElements (length ps) ps) old new r (λ a b s t. ap bits_of (s.1 ∙ sym t.1)) (subst (λ (qs : List Bool). AppendsSpelling (PresenceElements (length ps) qs) old r new) same w)

-- bits that were put as the number that they read
pub bits_put : {X E : Type 0} (ps : List Bool) (n : ℕ) (old new : List Bool) (r : Result X E) → n ≡ value_of ps → OnOk r ((length old + length ps ≤ room_bits) × (new ≡ old ++ digits (length ps) n)) → OnOk r (new ≡ old ++ ps)
bits_put ps n old new (Ok x) is h = h.1 ∙ ap (λ (l : List Bool). old ++ l) (ap (digits (length ps)) is ∙ digits_value ps)
bits_put ps n old new (Err e) is h = tt

pub three_value : (a b c : Bool) (x y z : ℕ) → x ≡ from_bool a → y ≡ from_bool b → z ≡ from_bool c → 4 * x + 2 * y + z ≡ value_of (a ∷ b ∷ c ∷ [])
three_value true true true x y z e f g = omega (arith, e, f, g)
three_value true true false x y z e f g = omega (arith, e, f, g)
three_value true false true x y z e f g = omega (arith, e, f, g)
three_value true false false x y z e f g = omega (arith, e, f, g)
three_value false true true x y z e f g = omega (arith, e, f, g)
three_value false true false x y z e f g = omega (arith, e, f, g)
three_value false false true x y z e f g = omega (arith, e, f, g)
three_value false false false x y z e f g = omega (arith, e, f, g)
