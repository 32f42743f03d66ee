-- The reading of a vehicle's identification number, a character at a time, and its cut into four texts.
use Rattle.std.proofs.Common.{◌≡◌, ℕ, zero, suc, ◌+◌, ◌-◌, ◌<◌, ◌≤◌, Bool, true, false, List, [], ◌∷◌, ◌++◌, length, take, drop, set, Ok, Err, refl, sym, ap, subst, ◌∙◌, arith, append_assoc, append-nil}
use Rattle.std.specs.Prelude.{◌==◌, ◌||◌, slice_index}
use Rattle.std.specs.List.{list_any, AllPass}
use Rattle.std.proofs.lemmas.Bool.{eq-eqb}
use Rattle.std.proofs.lemmas.List.{length-append, take_at, drop_at}
use Rattle.std.proofs.lemmas.List.Elements.{All-push, All-same}
use Rattle.std.proofs.Math.Seq.{take-suc-set, take-length}
use Rattle.per_bits.specs.Bits.{Part, value_of}
use Rattle.per_bits.specs.declared.refusals.Refusal.{Refusal}
use Rattle.per_types.specs.Types.{Tree, text, characters}
use Rattle.per_types.specs.Stops.{Read}
use Rattle.per_types.specs.Reading.{◌>>=◌, character_at, text_at, tree_at}
use Rattle.per_types.proofs.Plans.{next_ok}
use Rattle.per_types.proofs.Decided.{only_character}
use Rattle.msd_values.specs.Alphabet.{alphabet, is_vin_character}
use Rattle.msd_codec.specs.Module.{vehicle_identification}
use Rattle.msd_codec.specs.Trees.{vin_tree}
use Rattle.msd_values.specs.Vin.{IsVin}
use Rattle.msd_codec.specs.inner.Reading.{MovesOn}
use Rattle.msd_codec.proofs.Steps.{ok_same, tree_moves, plain_is, required_is, required_err, none_is}

-- ---- a character at a time

abbrev pub text_behind : List ℕ → Read (List ℕ) → Read (List ℕ)
text_behind cs (Ok x) = Ok (cs ++ x.0, x.1)
text_behind cs (Err e) = Err e

pub text_begins : (r : Read (List ℕ)) → r ≡ text_behind [] r
text_begins (Ok x) = refl
text_begins (Err e) = refl

behind_one : (cs : List ℕ) (v : ℕ) (r : Read (List ℕ)) → text_behind cs (r >>= λ x. Ok (v ∷ x.0, x.1)) ≡ text_behind (cs ++ v ∷ []) r
behind_one cs v (Ok x) = ap (λ (l : List ℕ). Ok (l, x.1)) (sym (append_assoc cs (v ∷ []) x.0))
behind_one cs v (Err e) = refl

pub text_step : (m n : ℕ) (p q : Part) (v : ℕ) (cs : List ℕ) → m ≡ suc n → character_at p ≡ Ok (v, q) → text_behind cs (text_at m p) ≡ text_behind (cs ++ v ∷ []) (text_at n q)
unfolding text_at
text_step m n p q v cs size e = rw (size, e) (behind_one cs v (text_at n q))

pub text_stops : (m n : ℕ) (p : Part) (cs : List ℕ) (e : Refusal × Part) → m ≡ suc n → character_at p ≡ Err e → text_behind cs (text_at m p) ≡ Err e
unfolding text_at
text_stops m n p cs e size h = rw (size, h) refl

pub text_done : (m : ℕ) (p : Part) (cs : List ℕ) → m ≡ 0 → text_behind cs (text_at m p) ≡ Ok (cs ++ [], p)
unfolding text_at
text_done m p cs size = rw size refl

either_true : (a b : Bool) → b ≡ true → (a || b) ≡ true
either_true true b e = refl
either_true false b e = e

any_at : (xs : List ℕ) (i : ℕ) → i < length xs → list_any (λ x. x == slice_index xs i) xs ≡ true
any_at [] i h = absurd (omega arith)
any_at (x ∷ xs) zero h = ap (λ (b : Bool). b || list_any (λ y. y == x) xs) (eq-eqb x x refl)
any_at (x ∷ xs) (suc i) h = either_true (x == slice_index xs i) _ (any_at xs i (omega arith))

pub character_passes : (p q : Part) (v : ℕ) → character_at p ≡ Ok (v, q) → is_vin_character v ≡ true
unfolding is_vin_character
character_passes p q v e =
    let takes = (only_character p (Ok (v, q))).0 (sym e) in
    let character = takes.1.1 in
    subst (λ (c : ℕ). list_any (λ x. x == c) alphabet ≡ true) character.reads (any_at alphabet (value_of takes.1.0) character.known)

pub one_more : (cs : List ℕ) (i v : ℕ) → i < length cs → take (i + 1) (set cs i v) ≡ take i cs ++ v ∷ []
one_more cs i v h = let next : i + 1 ≡ suc i = omega arith in ap (λ n. take n (set cs i v)) next ∙ take-suc-set cs i v h

pub passes_more : (cs : List ℕ) (i v : ℕ) → i < length cs → AllPass is_vin_character (take i cs) → is_vin_character v ≡ true → AllPass is_vin_character (take (i + 1) (set cs i v))
passes_more cs i v h pass more = All-same (λ x. is_vin_character x ≡ true) (take (i + 1) (set cs i v)) (take i cs ++ v ∷ []) (one_more cs i v h) (All-push (λ x. is_vin_character x ≡ true) (take i cs) v pass more)

pub whole_text : (cs : List ℕ) (i : ℕ) → length cs ≡ i → take i cs ≡ cs
whole_text cs i e = subst (λ n. take n cs ≡ cs) e (take-length cs)

-- ---- four texts

text_size : (n : ℕ) (p q : Part) (cs : List ℕ) → text_at n p ≡ Ok (cs, q) → length cs ≡ n
unfolding text_at
text_size zero p q cs e = ap length (sym (ok_same ([], p) (cs, q) e).0)
text_size (suc n) p q cs e =
    let c = next_ok (character_at p) (λ c. text_at n c.1 >>= λ cs. Ok (c.0 ∷ cs.0, cs.1)) (cs, q) e in
    let rest = next_ok (text_at n c.0.1) (λ cs. Ok (c.0.0 ∷ cs.0, cs.1)) (cs, q) c.2 in
    let same = ok_same (c.0.0 ∷ rest.0.0, rest.0.1) (cs, q) rest.2 in
    ap length (sym same.0) ∙ omega (arith, text_size n c.0.1 rest.0.1 rest.0.0 rest.1)

-- texts one behind the other
abbrev joined : Read (List ℕ) → (Part → Read (List ℕ)) → Read (List ℕ)
joined r next = r >>= λ x. next x.1 >>= λ y. Ok (x.0 ++ y.0, y.1)

joined_one : (v : ℕ) (r : Read (List ℕ)) (next : Part → Read (List ℕ)) → (joined r next >>= λ x. Ok (v ∷ x.0, x.1)) ≡ joined (r >>= λ x. Ok (v ∷ x.0, x.1)) next
joined_one v (Err e) next = refl
joined_one v (Ok x) next = elim (next x.1) as (λ (s : Read (List ℕ)). ((s >>= λ y. Ok (x.0 ++ y.0, y.1)) >>= λ z. Ok (v ∷ z.0, z.1)) ≡ (s >>= λ y. Ok ((v ∷ x.0) ++ y.0, y.1))) [ Ok y ↦ refl | Err e ↦ refl ]

joined_none : (p : Part) (r : Read (List ℕ)) → r ≡ (r >>= λ y. Ok ([] ++ y.0, y.1))
joined_none p (Ok x) = refl
joined_none p (Err e) = refl

text_split : (m n : ℕ) (p : Part) → text_at (m + n) p ≡ joined (text_at m p) (text_at n)
unfolding text_at
text_split zero n p = let none : 0 + n ≡ n = omega arith in ap (λ k. text_at k p) none ∙ joined_none p (text_at n p)
text_split (suc m) n p =
    let size : suc m + n ≡ suc (m + n) = omega arith in
    ap (λ k. text_at k p) size
    ∙ elim (character_at p) as (λ (r : Read ℕ). (r >>= λ c. text_at (m + n) c.1 >>= λ cs. Ok (c.0 ∷ cs.0, cs.1)) ≡ joined (r >>= λ c. text_at m c.1 >>= λ cs. Ok (c.0 ∷ cs.0, cs.1)) (text_at n)) [
      | Err e ↦ refl
      | Ok c ↦ ap (λ (r : Read (List ℕ)). r >>= λ cs. Ok (c.0 ∷ cs.0, cs.1)) (text_split m n c.1) ∙ joined_one c.0 (text_at m c.1) (text_at n)
    ]

text_tree : (n : ℕ) (p q : Part) (cs : List ℕ) → text_at n p ≡ Ok (cs, q) → tree_at (characters n) p ≡ Ok (text cs, q)
unfolding tree_at
text_tree n p q cs e = rw e refl

text_err : (n : ℕ) (p : Part) (e : Refusal × Part) → text_at n p ≡ Err e → tree_at (characters n) p ≡ Err e
unfolding tree_at
text_err n p e h = rw h refl

-- the cut of four texts that stand one behind the other
pub cut : (a b c d : List ℕ) → length a ≡ 3 → length b ≡ 6 → length c ≡ 1 → length d ≡ 7 → (let v = a ++ (b ++ (c ++ d)) in (take 3 v ≡ a) × (take 6 (drop 3 v) ≡ b) × (take 1 (drop 9 v) ≡ c) × (drop 10 v ≡ d))
cut a b c d la lb lc ld =
    let second : drop 3 (a ++ (b ++ (c ++ d))) ≡ b ++ (c ++ d) = drop_at a (b ++ (c ++ d)) 3 la in
    let third : drop 9 (a ++ (b ++ (c ++ d))) ≡ c ++ d =
    ap (drop 9) (sym (append_assoc a b (c ++ d))) ∙ drop_at (a ++ b) (c ++ d) 9 (omega (arith, length-append a b)) in
    let last : drop 10 (a ++ (b ++ (c ++ d))) ≡ d =
    ap (drop 10) (sym (append_assoc a b (c ++ d)) ∙ sym (append_assoc (a ++ b) c d)) ∙ drop_at ((a ++ b) ++ c) d 10 (omega (arith, length-append (a ++ b) c, length-append a b)) in
    (take_at a (b ++ (c ++ d)) 3 la, ap (take 6) second ∙ take_at b (c ++ d) 6 lb, ap (take 1) third ∙ take_at c d 1 lc, last)

abbrev seen : Read (List ℕ) → Read Tree
seen r = r >>= λ v. Ok (vin_tree v.0, v.1)

split_all : (p : Part) → text_at 17 p ≡ joined (text_at 3 p) (λ a. joined (text_at 6 a) (λ b. joined (text_at 1 b) (text_at 7)))
split_all p =
    text_split 3 14 p
    ∙ elim (text_at 3 p) as (λ (r : Read (List ℕ)). joined r (text_at 14) ≡ joined r (λ a. joined (text_at 6 a) (λ b. joined (text_at 1 b) (text_at 7)))) [
      | Err e ↦ refl
      | Ok x ↦ ap (λ (r : Read (List ℕ)). r >>= λ y. Ok (x.0 ++ y.0, y.1))
          (text_split 6 8 x.1
          ∙ elim (text_at 6 x.1) as (λ (r : Read (List ℕ)). joined r (text_at 8) ≡ joined r (λ b. joined (text_at 1 b) (text_at 7))) [
            | Err e ↦ refl
            | Ok y ↦ ap (λ (r : Read (List ℕ)). r >>= λ z. Ok (y.0 ++ z.0, z.1)) (text_split 1 7 y.1)
          ])
    ]

vin_of : (p a b c d : Part) (u v w x : List ℕ) → text_at 3 p ≡ Ok (u, a) → text_at 6 a ≡ Ok (v, b) → text_at 1 b ≡ Ok (w, c) → text_at 7 c ≡ Ok (x, d) → tree_at vehicle_identification p ≡ seen (text_at 17 p)
unfolding vehicle_identification
vin_of p a b c d u v w x e f g h =
    let parts = cut u v w x (text_size 3 p a u e) (text_size 6 a b v f) (text_size 1 b c w g) (text_size 7 c d x h) in
    plain_is _ p _ refl (required_is _ _ _ _ _ _ _ (text_tree 3 p a u e) (required_is _ _ _ _ _ _ _ (text_tree 6 a b v f) (required_is _ _ _ _ _ _ _ (text_tree 1 b c w g) (required_is _ _ _ _ _ _ _ (text_tree 7 c d x h) (none_is _ _)))))
    ∙ sym (ap seen (split_all p) ∙ rw (e, f, g, h, parts.0, parts.1, parts.2, parts.3) refl)

pub vin_is : (p : Part) → tree_at vehicle_identification p ≡ seen (text_at 17 p)
unfolding vehicle_identification
vin_is p =
    elim (text_at 3 p) as (λ (r : Read (List ℕ)). text_at 3 p ≡ r → tree_at vehicle_identification p ≡ seen (text_at 17 p)) [
      | Err d ↦ λ e. plain_is _ p _ refl (required_err _ _ _ _ _ (text_err 3 p d e)) ∙ sym (ap seen (split_all p) ∙ rw e refl)
      | Ok a ↦ λ e. elim (text_at 6 a.1) as (λ (r : Read (List ℕ)). text_at 6 a.1 ≡ r → tree_at vehicle_identification p ≡ seen (text_at 17 p)) [
        | Err d ↦ λ f. plain_is _ p _ refl (required_is _ _ _ _ _ _ _ (text_tree 3 p a.1 a.0 e) (required_err _ _ _ _ _ (text_err 6 a.1 d f))) ∙ sym (ap seen (split_all p) ∙ rw (e, f) refl)
        | Ok b ↦ λ f. elim (text_at 1 b.1) as (λ (r : Read (List ℕ)). text_at 1 b.1 ≡ r → tree_at vehicle_identification p ≡ seen (text_at 17 p)) [
          | Err d ↦ λ g. plain_is _ p _ refl (required_is _ _ _ _ _ _ _ (text_tree 3 p a.1 a.0 e) (required_is _ _ _ _ _ _ _ (text_tree 6 a.1 b.1 b.0 f) (required_err _ _ _ _ _ (text_err 1 b.1 d g)))) ∙ sym (ap seen (split_all p) ∙ rw (e, f, g) refl)
          | Ok c ↦ λ g. elim (text_at 7 c.1) as (λ (r : Read (List ℕ)). text_at 7 c.1 ≡ r → tree_at vehicle_identification p ≡ seen (text_at 17 p)) [
            | Err d ↦ λ h. plain_is _ p _ refl (required_is _ _ _ _ _ _ _ (text_tree 3 p a.1 a.0 e) (required_is _ _ _ _ _ _ _ (text_tree 6 a.1 b.1 b.0 f) (required_is _ _ _ _ _ _ _ (text_tree 1 b.1 c.1 c.0 g) (required_err _ _ _ _ _ (text_err 7 c.1 d h))))) ∙ sym (ap seen (split_all p) ∙ rw (e, f, g, h) refl)
            | Ok d ↦ λ h. vin_of p a.1 b.1 c.1 d.1 a.0 b.0 c.0 d.0 e f g h
          ] refl
        ] refl
      ] refl
    ] refl

pub vin_ok : (p q : Part) (cs : List ℕ) → text_at 17 p ≡ Ok (cs, q) → tree_at vehicle_identification p ≡ Ok (vin_tree cs, q)
vin_ok p q cs e = vin_is p ∙ ap seen e

pub vin_err : (p : Part) (e : Refusal × Part) → text_at 17 p ≡ Err e → tree_at vehicle_identification p ≡ Err e
vin_err p e h = vin_is p ∙ ap seen h

-- ---- the loop

pub loop_stops : (p c : Part) (cs : List ℕ) (i : ℕ) (e : Refusal × Part) → i < 17 → text_at 17 p ≡ text_behind (take i cs) (text_at (17 - i) c) → character_at c ≡ Err e → text_at 17 p ≡ Err e
loop_stops p c cs i e h read stop = read ∙ text_stops (17 - i) (16 - i) c (take i cs) e (omega arith) stop

pub loop_more : (p c q : Part) (cs : List ℕ) (i v : ℕ) → i < 17 → length cs ≡ 17 → text_at 17 p ≡ text_behind (take i cs) (text_at (17 - i) c) → character_at c ≡ Ok (v, q) → text_at 17 p ≡ text_behind (take (i + 1) (set cs i v)) (text_at (17 - (i + 1)) q)
loop_more p c q cs i v h long read more =
    let size : 16 - i ≡ 17 - (i + 1) = omega arith in
    read ∙ text_step (17 - i) (16 - i) c q v (take i cs) (omega arith) more
    ∙ ap (λ (l : List ℕ). text_behind l (text_at (16 - i) q)) (sym (one_more cs i v (omega arith)))
    ∙ ap (λ n. text_behind (take (i + 1) (set cs i v)) (text_at n q)) size

pub loop_done : (p c : Part) (cs : List ℕ) (i : ℕ) → 17 ≤ i → i ≤ 17 → length cs ≡ 17 → text_at 17 p ≡ text_behind (take i cs) (text_at (17 - i) c) → text_at 17 p ≡ Ok (cs, c)
loop_done p c cs i low high long read =
    let all : i ≡ 17 = omega arith in
    read ∙ text_done (17 - i) c (take i cs) (omega arith) ∙ ap (λ (l : List ℕ). Ok (l, c)) (append-nil (take i cs) ∙ ap (λ n. take n cs) all ∙ whole_text cs 17 long)

pub loop_vin : (cs : List ℕ) (i : ℕ) → 17 ≤ i → i ≤ 17 → length cs ≡ 17 → AllPass is_vin_character (take i cs) → IsVin cs
loop_vin cs i low high long pass =
    let all : i ≡ 17 = omega arith in
    (long, All-same (λ x. is_vin_character x ≡ true) cs (take i cs) (sym (ap (λ n. take n cs) all ∙ whole_text cs 17 long)) pass)

pub vin_moves : (p q : Part) (cs : List ℕ) → text_at 17 p ≡ Ok (cs, q) → MovesOn p q
vin_moves p q cs e = tree_moves (characters 17) tt p q _ (text_tree 17 p q cs e)
