-- Texts of the alphabet as they are written, a character at a time, and the cut of an identification.
use Rattle.std.proofs.Common.{◌≡◌, ℕ, zero, suc, ◌+◌, ◌-◌, ◌*◌, ◌<◌, ◌≤◌, Bool, List, [], ◌∷◌, ◌++◌, length, take, drop, get_or, Result, Ok, refl, sym, ap, subst, ◌∙◌, arith, append_assoc, append-nil}
use Rattle.std.specs.Prelude.{true}
use Rattle.std.specs.List.{AllPass, Contains}
use Rattle.std.specs.Result.{IsErrAnd}
use Rattle.std.proofs.lemmas.Bool.{eqb-true}
use Rattle.std.proofs.lemmas.List.{length-append, length-take, length-drop, take_more, take_all}
use Rattle.std.proofs.lemmas.List.Elements.{All-take, All-drop}
use Rattle.std.proofs.lemmas.Map.Views.{Contains-from_any}
use Rattle.per_types.specs.Kinds.{Element, bits_of, alphabet}
use Rattle.per_types.specs.Types.{text, characters}
use Rattle.per_types.specs.Spelling.{CharacterElements, TextElements}
use Rattle.msd_values.specs.Alphabet.{is_vin_character}
use Rattle.msd_values.specs.Vin.{IsVin}
use Rattle.msd_codec.specs.inner.Writing.{Puts, Canon}
use Rattle.msd_codec.proofs.Puts.{bits_append, bits_long, errs}

pub is_known : (c : ℕ) → is_vin_character c ≡ true → Contains alphabet c
unfolding is_vin_character
is_known c h = Contains-from_any (λ x y e. sym (eqb-true y x e)) c alphabet h

character_long : (c : ℕ) (es : List Element) → CharacterElements c es → length (bits_of es) ≡ 6
character_long c es s = ap (λ (l : List Element). length (bits_of l)) s.2 ∙ ap length (append-nil s.0) ∙ s.1.width

pub text_long : (n : ℕ) (cs : List ℕ) (es : List Element) → TextElements n cs es → length (bits_of es) ≡ 6 * n
text_long zero [] es s = ap (λ (l : List Element). length (bits_of l)) s
text_long (suc n) (c ∷ cs) es s =
    ap (λ (l : List Element). length (bits_of l)) s.4 ∙ bits_long s.0 s.1 ∙ omega (arith, character_long c s.0 s.2, text_long n cs s.1 s.3)
text_long zero (c ∷ cs) es s = absurd s
text_long (suc n) [] es s = absurd s

text_more : (n : ℕ) (cs : List ℕ) (c : ℕ) (es a : List Element) → TextElements n cs es → CharacterElements c a → TextElements (suc n) (cs ++ c ∷ []) (es ++ a)
text_more zero [] c es a s h = (a, [], h, refl, ap (λ (l : List Element). l ++ a) s ∙ sym (append-nil a))
text_more (suc n) (d ∷ cs) c es a s h = (s.0, s.1 ++ a, s.2, text_more n cs c s.1 a s.3 h, ap (λ (l : List Element). l ++ a) s.4 ∙ append_assoc s.0 s.1 a)
text_more zero (d ∷ cs) c es a s h = absurd s
text_more (suc n) [] c es a s h = absurd s

-- the first characters of a text stand in the buffer
abbrev pub WrittenText : List ℕ → ℕ → List Bool → List Bool → Type 0
WrittenText cs i old mid = (es : List Element) × TextElements i (take i cs) es × (mid ≡ old ++ bits_of es)

pub text_next : (cs : List ℕ) (i c : ℕ) (old mid new : List Bool) (a : List Element) → i < length cs → c ≡ get_or cs i 0 → WrittenText cs i old mid → CharacterElements c a → new ≡ mid ++ bits_of a → WrittenText cs (i + 1) old new
text_next cs i c old mid new a h is (es, s, e) k f =
    let next : suc i ≡ i + 1 = omega arith in
    let front : take i cs ++ c ∷ [] ≡ take (i + 1) cs = ap (λ (x : ℕ). take i cs ++ x ∷ []) is ∙ sym (take_more cs i 0 h) in (
      es ++ a,
      subst (λ (n : ℕ). TextElements n (take (i + 1) cs) (es ++ a)) next (subst (λ (l : List ℕ). TextElements (suc i) l (es ++ a)) front (text_more i (take i cs) c es a s k)),
      f ∙ ap (λ (l : List Bool). l ++ bits_of a) e ∙ append_assoc old (bits_of es) (bits_of a) ∙ ap (λ (l : List Bool). old ++ l) (sym (bits_append es a)),
    )

pub text_done : {X E : Type 0} (cs : List ℕ) (i : ℕ) (old new : List Bool) (x : X) → length cs ≤ i → i ≤ length cs → WrittenText cs i old new → (let r : Result X E = Ok x in Puts (Canon (characters (length cs)) (text cs)) old r new)
text_done cs i old new x low high (es, s, e) =
    let all : i ≡ length cs = omega arith in
    let whole : take i cs ≡ cs = take_all i cs low in
    record { ok = (es, record { spelled = subst (λ (n : ℕ). TextElements n cs es) all (subst (λ (l : List ℕ). TextElements i l es) whole s) }, e); full = tt }

pub text_stop : {X E : Type 0} {r : Result X E} (P : E → Type 0) (cs : List ℕ) (i c : ℕ) (old mid new : List Bool) → IsErrAnd r P → i < length cs → WrittenText cs i old mid → ((a : List Element) × CharacterElements c a × (1120 < length mid + length (bits_of a))) → Puts (Canon (characters (length cs)) (text cs)) old r new
text_stop {X} {E} {r} P cs i c old mid new is h (es, s, e) (a, k, full) =
    errs P r is (λ s. Puts (Canon (characters (length cs)) (text cs)) old s new)
    (λ d. record {
      ok = tt;
      full = λ ds whole. let here : length mid ≡ length old + length (bits_of es) = ap length e ∙ length-append old (bits_of es) in
          omega (arith, full, here, text_long i (take i cs) es s, character_long c a k, text_long (length cs) cs ds whole.spelled);
    })

-- ---- the cut of an identification

pub cut_type : {t v : List ℕ} (n off : ℕ) → n + off ≤ 17 → t ≡ v → IsVin v → characters (length (take n (drop off t))) ≡ characters n
cut_type {t} {v} n off within e vin =
    let long : length t ≡ 17 = ap length e ∙ vin.0 in
    ap characters (length-take n (drop off t) ∙ omega (arith, length-drop off t, long))

-- the last seven characters
last_cut : {t v : List ℕ} → t ≡ v → take (length t - 10) (drop 10 t) ≡ drop 10 v
last_cut {t} {v} e = take_all (length t - 10) (drop 10 t) (omega (arith, length-drop 10 t)) ∙ ap (drop 10) e

pub last_type : {t v : List ℕ} → t ≡ v → IsVin v → characters (length (take (length t - 10) (drop 10 t))) ≡ characters 7
last_type {t} {v} e vin = ap characters (ap length (last_cut e) ∙ omega (arith, length-drop 10 v, vin.0))

pub last_text : {t v : List ℕ} → t ≡ v → text (take (length t - 10) (drop 10 t)) ≡ text (drop 10 v)
last_text {t} {v} e = ap text (last_cut e)

pub piece_passes : {t v : List ℕ} (n off : ℕ) → t ≡ v → IsVin v → AllPass is_vin_character (take n (drop off t))
piece_passes {t} {v} n off e vin = subst (λ (l : List ℕ). AllPass is_vin_character (take n (drop off l))) (sym e) (All-take (λ x. is_vin_character x ≡ true) n (drop off v) (All-drop (λ x. is_vin_character x ≡ true) off v vin.1))

pub last_passes : {t v : List ℕ} → t ≡ v → IsVin v → AllPass is_vin_character (take (length t - 10) (drop 10 t))
last_passes {t} {v} e vin = piece_passes (length t - 10) 10 e vin
