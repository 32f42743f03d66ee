-- What writers put, one component behind the other.
use Rattle.std.proofs.Common.{◌≡◌, ℕ, suc, ◌+◌, ◌<◌, Bool, true, false, List, [], ◌∷◌, ◌++◌, length, Option, Some, None, Result, Ok, Err, refl, sym, ap, subst, ◌∙◌, arith, append_assoc, append-nil}
use Rattle.std.specs.Prelude.{is_some, OnOk, OnErr, ℤ}
use Rattle.std.specs.Option.{option_map}
use Rattle.std.specs.Result.{IsErrAnd}
use Rattle.std.proofs.lemmas.List.{length-append}
use Rattle.per_bits.specs.Parts.{Member}
use Rattle.per_types.specs.Kinds as kind
use Rattle.per_types.specs.Kinds.{Element, element, bits_of}
use Rattle.per_types.specs.Types.{Tree, truth, number, record_of, Fields, no_fields, field, absent, Ty, boolean, integer, sequence, Components, no_components, required, optional, default, presence_count}
use Rattle.per_types.specs.Spelling.{Elements, Present, MoreElements, TruthElements, PresenceElements, WholeElements}
use Rattle.per_types.specs.Writing.{AppendsSpelling}
use Rattle.per_types.proofs.Canonicals.{one_canonical}
use Rattle.msd_codec.specs.Trees.{optional_field, pair_tree}
use Rattle.msd_codec.specs.inner.Writing.{Puts, Canon, Optional, Flag}

pub bits_append : (a b : List Element) → bits_of (a ++ b) ≡ bits_of a ++ bits_of b
bits_append [] b = refl
bits_append (e ∷ a) b = ap (λ (l : List Bool). e.bits ++ l) (bits_append a b) ∙ sym (append_assoc e.bits (bits_of a) (bits_of b))

pub bits_long : (a b : List Element) → length (bits_of (a ++ b)) ≡ length (bits_of a) + length (bits_of b)
bits_long a b = ap length (bits_append a b) ∙ length-append (bits_of a) (bits_of b)

-- ---- one component

-- all elements that spell something have the same bits
abbrev pub AreSame : (List Element → Type 0) → Type 0
AreSame Spelled = (a b : List Element) → Spelled a → Spelled b → bits_of a ≡ bits_of b

pub canon_same : (t : Ty) (v : Tree) → AreSame (Canon t v)
canon_same t v a b s r = one_canonical t v (bits_of a) (bits_of b) (a, s.spelled, refl) (b, r.spelled, refl)

pub put_of : {X E : Type 0} (Spelled : List Element → Type 0) (old new : List Bool) (r : Result X E) → AreSame Spelled → AppendsSpelling Spelled old r new → Puts Spelled old r new
put_of Spelled old new (Ok x) same w = record { ok = (w.0, w.1, w.3); full = tt }
put_of Spelled old new (Err e) same w =
    record { ok = tt; full = λ es s. let long : length (bits_of w.0) ≡ length (bits_of es) = ap length (same w.0 es w.1 s) in omega (arith, w.2, long) }

pub put_canon : {X E : Type 0} (t : Ty) (v : Tree) (old new : List Bool) (r : Result X E) → AppendsSpelling (Elements true t v) old r new → Puts (Canon t v) old r new
put_canon t v old new (Ok x) w = record { ok = (w.0, record { spelled = w.1 }, w.3); full = tt }
put_canon t v old new (Err e) w =
    record { ok = tt; full = λ es s. let long : length (bits_of w.0) ≡ length (bits_of es) = ap length (canon_same t v w.0 es (record { spelled = w.1 }) s) in omega (arith, w.2, long) }

pub put_whole : {X E : Type 0} (low high u v : ℤ) (old new : List Bool) (r : Result X E) → u ≡ v → AppendsSpelling (WholeElements low high u) old r new → Puts (Canon (integer low high) (number v)) old r new
put_whole low high u v old new r e w = put_canon (integer low high) (number v) old new r (subst (λ (z : ℤ). AppendsSpelling (WholeElements low high z) old r new) e w)

optional_same : (t : Ty) (o : Option Tree) → AreSame (Optional t o)
optional_same t None a b s r = ap bits_of (s.none ∙ sym r.none)
optional_same t (Some v) a b s r = canon_same t v a b (record { spelled = s.some }) (record { spelled = r.some })

flag_same : (v : Bool) → AreSame (Flag v)
flag_same true a b s r = ap bits_of (s.written refl ∙ sym (r.written refl))
flag_same false a b s r = ap bits_of (s.left refl ∙ sym (r.left refl))

-- nothing was to be written
pub put_nothing : {X E : Type 0} (Spelled : List Element → Type 0) (old new : List Bool) (r : Result X E) (x : X) → r ≡ Ok x → new ≡ old → Spelled [] → Puts Spelled old r new
put_nothing Spelled old new (Ok y) x is same s = record { ok = ([], s, same ∙ sym (append-nil old)); full = tt }
put_nothing Spelled old new (Err e) x is same s = absurd cc

-- ---- the components that are left, and the additions behind them

pub record PutsRest {X E : Type 0} (marked : Bool) (cs : Components) (fs : Fields) (more : Option (List Member)) (present : List Bool) (old : List Bool) (r : Result X E) (new : List Bool) : Type 0 where
  pub ok : OnOk r ((parts sect : List Element) × Present true cs fs present parts × MoreElements marked more sect × (new ≡ old ++ bits_of (parts ++ sect)))
  pub full : OnErr r ((ps : List Bool) (parts sect : List Element) → Present true cs fs ps parts → MoreElements marked more sect → 1120 < length old + length (bits_of (parts ++ sect)))

present_count : (cs : Components) (fs : Fields) (present : List Bool) (es : List Element) → Present true cs fs present es → length present ≡ presence_count cs
present_count no_components no_fields [] es s = refl
present_count (required t cs) (field v fs) present es s = present_count cs fs present s.1 s.3
present_count (optional t cs) (absent fs) (false ∷ present) es s = omega (arith, present_count cs fs present es s)
present_count (optional t cs) (field v fs) (true ∷ present) es s = omega (arith, present_count cs fs present s.1 s.3)
present_count (default t d cs) (field v fs) (false ∷ present) es s = omega (arith, present_count cs fs present es s.1)
present_count (default t d cs) (field v fs) (true ∷ present) es s = omega (arith, present_count cs fs present s.1 s.4)
present_count _ _ _ es s = absurd s

-- the bits behind what was put
further : (old mid new : List Bool) (a parts sect : List Element) → mid ≡ old ++ bits_of a → new ≡ mid ++ bits_of (parts ++ sect) → new ≡ old ++ bits_of ((a ++ parts) ++ sect)
further old mid new a parts sect e f =
    f ∙ ap (λ (l : List Bool). l ++ bits_of (parts ++ sect)) e ∙ append_assoc old (bits_of a) (bits_of (parts ++ sect))
    ∙ ap (λ (l : List Bool). old ++ l) (sym (bits_append a (parts ++ sect)) ∙ ap bits_of (sym (append_assoc a parts sect)))

-- There is no room for a whole, where there is none for what follows its first part.
no_room : (old mid : List Bool) (a b parts rest sect : List Element) → mid ≡ old ++ bits_of a → bits_of a ≡ bits_of b → parts ≡ b ++ rest → 1120 < length mid + length (bits_of (rest ++ sect)) → 1120 < length old + length (bits_of (parts ++ sect))
no_room old mid a b parts rest sect e same is h =
    let first : length mid ≡ length old + length (bits_of b) = ap length e ∙ length-append old (bits_of a) ∙ ap (λ (l : List Bool). length old + length l) same in
    let whole : length (bits_of (parts ++ sect)) ≡ length (bits_of b) + length (bits_of rest) + length (bits_of sect) = ap (λ (l : List Element). length (bits_of (l ++ sect))) is ∙ bits_long (b ++ rest) sect ∙ ap (λ n. n + length (bits_of sect)) (bits_long b rest) in
    omega (arith, h, first, whole, bits_long rest sect)

no_room_first : (old : List Bool) (b parts rest sect : List Element) → parts ≡ b ++ rest → 1120 < length old + length (bits_of b) → 1120 < length old + length (bits_of (parts ++ sect))
no_room_first old b parts rest sect is h =
    let whole : length (bits_of (parts ++ sect)) ≡ length (bits_of b) + length (bits_of rest) + length (bits_of sect) = ap (λ (l : List Element). length (bits_of (l ++ sect))) is ∙ bits_long (b ++ rest) sect ∙ ap (λ n. n + length (bits_of sect)) (bits_long b rest) in
    omega (arith, h, whole)

pub rest_more : {X E : Type 0} {r : Result X E} {marked : Bool} {more : Option (List Member)} {old new : List Bool} → Puts (MoreElements marked more) old r new → PutsRest marked no_components no_fields more [] old r new
rest_more {X} {E} {r} {marked} {more} {old} {new} p =
    elim r as (λ s. Puts (MoreElements marked more) old s new → PutsRest marked no_components no_fields more [] old s new) [
      | Ok x ↦ λ p. record { ok = ([], p.ok.0, refl, p.ok.1, p.ok.2); full = tt }
      | Err e ↦ λ p. record { ok = tt; full = λ ps parts sect present s. none ps parts sect present (p.full sect s) }
    ] p
  where
    none : (ps : List Bool) (parts sect : List Element) → Present true no_components no_fields ps parts → 1120 < length old + length (bits_of sect) → 1120 < length old + length (bits_of (parts ++ sect))
    none [] parts sect present h = omega (arith, h, bits_long parts sect)
    none (b ∷ ps) parts sect present h = absurd present

pub required_next : {X E Y : Type 0} {r : Result X E} {marked : Bool} {more : Option (List Member)} {cs : Components} {fs : Fields} {ps : List Bool} {t : Ty} {v : Tree} {old mid new : List Bool} {y : Y}
    → (let first : Result Y E = Ok y in Puts (Canon t v) old first mid) → PutsRest marked cs fs more ps mid r new → PutsRest marked (required t cs) (field v fs) more ps old r new
required_next {X} {E} {Y} {r} {marked} {more} {cs} {fs} {ps} {t} {v} {old} {mid} {new} {y} p q =
    elim r as (λ s. PutsRest marked cs fs more ps mid s new → PutsRest marked (required t cs) (field v fs) more ps old s new) [
      | Ok x ↦ λ q. record { ok = (p.ok.0 ++ q.ok.0, q.ok.1, (p.ok.0, q.ok.0, p.ok.1.spelled, q.ok.2, refl), q.ok.3, further old mid new p.ok.0 q.ok.0 q.ok.1 p.ok.2 q.ok.4); full = tt }
      | Err e ↦ λ q. record { ok = tt; full = λ qs parts sect present s. no_room old mid p.ok.0 present.0 parts present.1 sect p.ok.2 (canon_same t v p.ok.0 present.0 p.ok.1 (record { spelled = present.2 })) present.4 (q.full qs present.1 sect present.3 s) }
    ] q

-- a result that is an error
pub errs : {X E : Type 0} (P : E → Type 0) (r : Result X E) → IsErrAnd r P → (Q : Result X E → Type 0) → ((e : E) → Q (Err e)) → Q r
errs P (Ok x) is Q h = absurd is
errs P (Err e) is Q h = h e

pub required_stop : {X E Y : Type 0} {r : Result X E} {marked : Bool} {more : Option (List Member)} {cs : Components} {fs : Fields} {ps : List Bool} {t : Ty} {v : Tree} {old mid new : List Bool} {e : E} (P : E → Type 0)
    → IsErrAnd r P → (let first : Result Y E = Err e in Puts (Canon t v) old first mid) → PutsRest marked (required t cs) (field v fs) more ps old r new
required_stop {X} {E} {Y} {r} {marked} {more} {cs} {fs} {ps} {t} {v} {old} {mid} {new} {e} P is p =
    errs P r is (λ s. PutsRest marked (required t cs) (field v fs) more ps old s new)
    (λ d. record { ok = tt; full = λ qs parts sect present s. no_room_first old present.0 parts present.1 sect present.4 (p.full present.0 (record { spelled = present.2 })) })

-- the last component of a SEQUENCE without a mark
pub required_last : {X E : Type 0} {r : Result X E} {t : Ty} {v : Tree} {old new : List Bool} → Puts (Canon t v) old r new → PutsRest false (required t no_components) (field v no_fields) None [] old r new
required_last {X} {E} {r} {t} {v} {old} {new} p =
    elim r as (λ s. Puts (Canon t v) old s new → PutsRest false (required t no_components) (field v no_fields) None [] old s new) [
      | Ok x ↦ λ p. record { ok = (p.ok.0 ++ [], [], (p.ok.0, [], p.ok.1.spelled, refl, refl), refl, p.ok.2 ∙ ap (λ (l : List Element). old ++ bits_of l) (sym (append-nil (p.ok.0 ++ []) ∙ append-nil p.ok.0))); full = tt }
      | Err e ↦ λ p. record { ok = tt; full = λ qs parts sect present s. no_room_first old present.0 parts present.1 sect present.4 (p.full present.0 (record { spelled = present.2 })) }
    ] p

-- what a presence bit says of an OPTIONAL component
optional_split : (t : Ty) (o : Option Tree) (cs : Components) (fs : Fields) (qs : List Bool) (parts : List Element) → Present true (optional t cs) (optional_field o fs) qs parts
    → (rs : List Bool) × (a rest : List Element) × Optional t o a × Present true cs fs rs rest × (parts ≡ a ++ rest)
optional_split t None cs fs (false ∷ qs) parts s = (qs, [], parts, record { some = tt; none = refl }, s, refl)
optional_split t None cs fs (true ∷ qs) parts s = absurd s
optional_split t None cs fs [] parts s = absurd s
optional_split t (Some v) cs fs (true ∷ qs) parts s = (qs, s.0, s.1, record { some = s.2; none = tt }, s.3, s.4)
optional_split t (Some v) cs fs (false ∷ qs) parts s = absurd s
optional_split t (Some v) cs fs [] parts s = absurd s

pub optional_join : (t : Ty) (o : Option Tree) (cs : Components) (fs : Fields) (ps : List Bool) (a rest : List Element) → Optional t o a → Present true cs fs ps rest → Present true (optional t cs) (optional_field o fs) (is_some o ∷ ps) (a ++ rest)
optional_join t None cs fs ps a rest s present = subst (λ (l : List Element). Present true cs fs ps l) (ap (λ (l : List Element). l ++ rest) (sym s.none)) present
optional_join t (Some v) cs fs ps a rest s present = (a, rest, s.some, present, refl)

pub optional_next : {X E Y : Type 0} {r : Result X E} {marked : Bool} {more : Option (List Member)} {cs : Components} {fs : Fields} {ps : List Bool} {t : Ty} {old mid new : List Bool} {y : Y} (o : Option Tree)
    → (let first : Result Y E = Ok y in Puts (Optional t o) old first mid) → PutsRest marked cs fs more ps mid r new → PutsRest marked (optional t cs) (optional_field o fs) more (is_some o ∷ ps) old r new
optional_next {X} {E} {Y} {r} {marked} {more} {cs} {fs} {ps} {t} {old} {mid} {new} {y} o p q =
    elim r as (λ s. PutsRest marked cs fs more ps mid s new → PutsRest marked (optional t cs) (optional_field o fs) more (is_some o ∷ ps) old s new) [
      | Ok x ↦ λ q. record { ok = (p.ok.0 ++ q.ok.0, q.ok.1, optional_join t o cs fs ps p.ok.0 q.ok.0 p.ok.1 q.ok.2, q.ok.3, further old mid new p.ok.0 q.ok.0 q.ok.1 p.ok.2 q.ok.4); full = tt }
      | Err e ↦ λ q. record { ok = tt; full = λ qs parts sect present s. let h = optional_split t o cs fs qs parts present in no_room old mid p.ok.0 h.1 parts h.2 sect p.ok.2 (optional_same t o p.ok.0 h.1 p.ok.1 h.3) h.5 (q.full h.0 h.2 sect h.4 s) }
    ] q

pub optional_stop : {X E Y : Type 0} {r : Result X E} {marked : Bool} {more : Option (List Member)} {cs : Components} {ps : List Bool} {t : Ty} {old mid new : List Bool} {e : E} (P : E → Type 0) (fs : Fields) (o : Option Tree)
    → IsErrAnd r P → (let first : Result Y E = Err e in Puts (Optional t o) old first mid) → PutsRest marked (optional t cs) (optional_field o fs) more ps old r new
optional_stop {X} {E} {Y} {r} {marked} {more} {cs} {ps} {t} {old} {mid} {new} {e} P fs o is p =
    errs P r is (λ s. PutsRest marked (optional t cs) (optional_field o fs) more ps old s new)
    (λ d. record { ok = tt; full = λ qs parts sect present s. let h = optional_split t o cs fs qs parts present in no_room_first old h.1 parts h.2 sect h.5 (p.full h.1 h.3) })

-- what a presence bit says of a BOOLEAN DEFAULT FALSE
abbrev pub Flags : Components → Components
Flags cs = default boolean (truth false) cs

flag_split : (v : Bool) (cs : Components) (fs : Fields) (qs : List Bool) (parts : List Element) → Present true (Flags cs) (field (truth v) fs) qs parts
    → (rs : List Bool) × (a rest : List Element) × Flag v a × Present true cs fs rs rest × (parts ≡ a ++ rest)
flag_split true cs fs (true ∷ qs) parts s = (qs, s.0, s.1, record { written = λ h. s.3; left = λ h. absurd (cc h) }, s.4, s.5)
flag_split true cs fs (false ∷ qs) parts s = absurd (let h = s.0 in cc h)
flag_split false cs fs (true ∷ qs) parts s = absurd (s.2 refl refl)
flag_split false cs fs (false ∷ qs) parts s = (qs, [], parts, record { written = λ h. absurd (cc h); left = λ h. refl }, s.1, refl)
flag_split v cs fs [] parts s = absurd s

pub flag_join : (v : Bool) (cs : Components) (fs : Fields) (ps : List Bool) (a rest : List Element) → Flag v a → Present true cs fs ps rest → Present true (Flags cs) (field (truth v) fs) (v ∷ ps) (a ++ rest)
flag_join true cs fs ps a rest s present = (a, rest, (λ h e. absurd (cc e)), s.written refl, present, refl)
flag_join false cs fs ps a rest s present = (refl, subst (λ (l : List Element). Present true cs fs ps l) (ap (λ (l : List Element). l ++ rest) (sym (s.left refl))) present)

pub flag_next : {X E Y : Type 0} {r : Result X E} {marked : Bool} {more : Option (List Member)} {cs : Components} {fs : Fields} {ps : List Bool} {v : Bool} {old mid new : List Bool} {y : Y}
    → (let first : Result Y E = Ok y in Puts (Flag v) old first mid) → PutsRest marked cs fs more ps mid r new → PutsRest marked (Flags cs) (field (truth v) fs) more (v ∷ ps) old r new
flag_next {X} {E} {Y} {r} {marked} {more} {cs} {fs} {ps} {v} {old} {mid} {new} {y} p q =
    elim r as (λ s. PutsRest marked cs fs more ps mid s new → PutsRest marked (Flags cs) (field (truth v) fs) more (v ∷ ps) old s new) [
      | Ok x ↦ λ q. record { ok = (p.ok.0 ++ q.ok.0, q.ok.1, flag_join v cs fs ps p.ok.0 q.ok.0 p.ok.1 q.ok.2, q.ok.3, further old mid new p.ok.0 q.ok.0 q.ok.1 p.ok.2 q.ok.4); full = tt }
      | Err e ↦ λ q. record { ok = tt; full = λ qs parts sect present s. let h = flag_split v cs fs qs parts present in no_room old mid p.ok.0 h.1 parts h.2 sect p.ok.2 (flag_same v p.ok.0 h.1 p.ok.1 h.3) h.5 (q.full h.0 h.2 sect h.4 s) }
    ] q

pub flag_stop : {X E Y : Type 0} {r : Result X E} {marked : Bool} {more : Option (List Member)} {cs : Components} {fs : Fields} {ps : List Bool} {v : Bool} {old mid new : List Bool} {e : E} (P : E → Type 0)
    → IsErrAnd r P → (let first : Result Y E = Err e in Puts (Flag v) old first mid) → PutsRest marked (Flags cs) (field (truth v) fs) more ps old r new
flag_stop {X} {E} {Y} {r} {marked} {more} {cs} {fs} {ps} {v} {old} {mid} {new} {e} P is p =
    errs P r is (λ s. PutsRest marked (Flags cs) (field (truth v) fs) more ps old s new)
    (λ d. record { ok = tt; full = λ qs parts sect present s. let h = flag_split v cs fs qs parts present in no_room_first old h.1 parts h.2 sect h.5 (p.full h.1 h.3) })

-- ---- a SEQUENCE

-- the bits of a SEQUENCE without a mark
plain_long : (n : ℕ) (qs : List Bool) (parts sect : List Element) (es : List Element) → es ≡ element (kind.presence n) qs ∷ (parts ++ sect) → length (bits_of es) ≡ length qs + length (bits_of (parts ++ sect))
plain_long n qs parts sect es e = ap (λ (l : List Element). length (bits_of l)) e ∙ length-append qs (bits_of (parts ++ sect))

pub plain : {X E : Type 0} {r : Result X E} {cs : Components} {fs : Fields} {old new : List Bool} → presence_count cs ≡ 0 → PutsRest false cs fs None [] old r new → Puts (Canon (sequence false cs) (record_of fs None)) old r new
plain {X} {E} {r} {cs} {fs} {old} {new} none p =
    elim r as (λ s. PutsRest false cs fs None [] old s new → Puts (Canon (sequence false cs) (record_of fs None)) old s new) [
      | Ok x ↦ λ p. record { ok = (element (kind.presence (presence_count cs)) [] ∷ (p.ok.0 ++ p.ok.1), record { spelled = ([], p.ok.0, p.ok.1, p.ok.2, p.ok.3, refl) }, p.ok.4); full = tt }
      | Err e ↦ λ p. record { ok = tt; full = λ es c. let s = c.spelled in omega (arith, p.full s.0 s.1 s.2 s.3 s.4, plain_long (presence_count cs) s.0 s.1 s.2 es s.5) }
    ] p

marked_long : (n : ℕ) (m : Bool) (qs : List Bool) (parts sect : List Element) (es : List Element) → es ≡ element kind.truth (m ∷ []) ∷ element (kind.presence n) qs ∷ (parts ++ sect) → length (bits_of es) ≡ suc (length qs + length (bits_of (parts ++ sect)))
marked_long n m qs parts sect es e = ap (λ (l : List Element). length (bits_of l)) e ∙ ap suc (length-append qs (bits_of (parts ++ sect)))

marked_put : (old mark mid new : List Bool) (m : Bool) (ps : List Bool) (a b parts : List Element) (n : ℕ) → mark ≡ old ++ bits_of a → a ≡ element kind.truth (m ∷ []) ∷ [] → mid ≡ mark ++ bits_of b → b ≡ element (kind.presence n) ps ∷ [] → new ≡ mid ++ bits_of parts
    → new ≡ old ++ (m ∷ (ps ++ bits_of parts))
marked_put old mark mid new m ps a b parts n e is f are g =
    g ∙ ap (λ (l : List Bool). l ++ bits_of parts) (f ∙ rw (are, append-nil ps) refl ∙ ap (λ (l : List Bool). l ++ ps) (e ∙ rw is refl))
    ∙ append_assoc (old ++ (m ∷ [])) ps (bits_of parts) ∙ append_assoc old (m ∷ []) (ps ++ bits_of parts)

abbrev mark_alone : Bool → List Element
mark_alone m = element kind.truth (m ∷ []) ∷ []

abbrev presence_alone : ℕ → List Bool → List Element
presence_alone n ps = element (kind.presence n) ps ∷ []

mark_room : (old mark : List Bool) (m : Bool) (a : List Element) → mark ≡ old ++ bits_of a → a ≡ mark_alone m → length mark ≡ length old + 1
mark_room old mark m a e is = ap length e ∙ length-append old (bits_of a) ∙ ap (λ (l : List Element). length old + length (bits_of l)) is

presence_room : (qs : List Bool) (b : List Element) (n : ℕ) → b ≡ presence_alone n qs → length qs ≡ n → length (bits_of b) ≡ n
presence_room qs b n is long = ap (λ (l : List Element). length (bits_of l)) is ∙ ap length (append-nil qs) ∙ long

pub marked : {X E Y Z : Type 0} {r : Result X E} {cs : Components} {fs : Fields} {more : Option (List Member)} {ps qs : List Bool} {n : ℕ} {m : Bool} {old mark mid new : List Bool} {y : Y} {z : Z}
    → presence_count cs ≡ n → m ≡ is_some more → qs ≡ ps → (let first : Result Y E = Ok y in Puts (TruthElements m) old first mark) → (let second : Result Z E = Ok z in Puts (PresenceElements n qs) mark second mid) → PutsRest true cs fs more ps mid r new
    → Puts (Canon (sequence true cs) (record_of fs more)) old r new
marked {X} {E} {Y} {Z} {r} {cs} {fs} {more} {ps} {qs} {n} {m} {old} {mark} {mid} {new} {y} {z} count is_marked are first second p =
    elim r as (λ s. PutsRest true cs fs more ps mid s new → Puts (Canon (sequence true cs) (record_of fs more)) old s new) [
      | Ok x ↦ λ p. record {
        ok = (
          element kind.truth (is_some more ∷ []) ∷ element (kind.presence (presence_count cs)) ps ∷ (p.ok.0 ++ p.ok.1),
          record { spelled = (ps, p.ok.0, p.ok.1, p.ok.2, p.ok.3, refl) },
          marked_put old mark mid new (is_some more) ps first.ok.0 second.ok.0 (p.ok.0 ++ p.ok.1) n first.ok.2 (first.ok.1 ∙ ap mark_alone is_marked) second.ok.2 (second.ok.1.1 ∙ ap (presence_alone n) are) p.ok.4,
        );
        full = tt;
      }
      | Err e ↦ λ p. record {
        ok = tt;
        full = λ es c. let s = c.spelled in
            let one : length mark ≡ length old + 1 = mark_room old mark m first.ok.0 first.ok.2 first.ok.1 in
            let two : length mid ≡ length mark + n = ap length second.ok.2 ∙ length-append mark (bits_of second.ok.0) ∙ ap (λ k. length mark + k) (presence_room qs second.ok.0 n second.ok.1.1 second.ok.1.0) in
            omega (arith, p.full s.0 s.1 s.2 s.3 s.4, marked_long (presence_count cs) (is_some more) s.0 s.1 s.2 es s.5, present_count cs fs s.0 s.1 s.3, count, one, two);
      }
    ] p

pub mark_stop : {X E Y : Type 0} {r : Result X E} {m : Bool} {old mark new : List Bool} {e : E} (P : E → Type 0) (cs : Components) (fs : Fields) (more : Option (List Member))
    → IsErrAnd r P → (let first : Result Y E = Err e in Puts (TruthElements m) old first mark) → Puts (Canon (sequence true cs) (record_of fs more)) old r new
mark_stop {X} {E} {Y} {r} {m} {old} {mark} {new} {e} P cs fs more is first =
    errs P r is (λ s. Puts (Canon (sequence true cs) (record_of fs more)) old s new)
    (λ d. record { ok = tt; full = λ es c. let s = c.spelled in let h = first.full (element kind.truth (m ∷ []) ∷ []) refl in omega (arith, h, marked_long (presence_count cs) (is_some more) s.0 s.1 s.2 es s.5) })

pub presence_stop : {X E Y Z : Type 0} {r : Result X E} {qs : List Bool} {n : ℕ} {m : Bool} {old mark mid new : List Bool} {y : Y} {e : E} (P : E → Type 0) (cs : Components) (fs : Fields) (more : Option (List Member))
    → presence_count cs ≡ n → length qs ≡ n → IsErrAnd r P → (let first : Result Y E = Ok y in Puts (TruthElements m) old first mark) → (let second : Result Z E = Err e in Puts (PresenceElements n qs) mark second mid)
    → Puts (Canon (sequence true cs) (record_of fs more)) old r new
presence_stop {X} {E} {Y} {Z} {r} {qs} {n} {m} {old} {mark} {mid} {new} {y} {e} P cs fs more count long is first second =
    errs P r is (λ s. Puts (Canon (sequence true cs) (record_of fs more)) old s new)
    (λ d. record {
      ok = tt;
      full = λ es c. let s = c.spelled in let h = second.full (element (kind.presence n) qs ∷ []) (long, refl) in
          let one : length mark ≡ length old + 1 = mark_room old mark m first.ok.0 first.ok.2 first.ok.1 in
          let two : length (qs ++ []) ≡ n = ap length (append-nil qs) ∙ long in
          omega (arith, h, one, two, marked_long (presence_count cs) (is_some more) s.0 s.1 s.2 es s.5, present_count cs fs s.0 s.1 s.3, count);
    })

-- ---- the same value, seen otherwise

pub canon_is : {X E : Type 0} {r : Result X E} {t : Ty} {v : Tree} {old new : List Bool} (u : Ty) (w : Tree) → t ≡ u → v ≡ w → Puts (Canon t v) old r new → Puts (Canon u w) old r new
canon_is {X} {E} {r} {t} {v} {old} {new} u w e f p = subst (λ (k : Ty). Puts (Canon k w) old r new) e (subst (λ (x : Tree). Puts (Canon t x) old r new) f p)

pub mapped_some : {X Y : Type 0} (f : X → Y) (o : Option X) → is_some o ≡ is_some (option_map f o)
mapped_some f None = refl
mapped_some f (Some x) = refl

pub one_bit : {a b : Bool} → a ≡ b → (a ∷ []) ≡ (b ∷ [])
one_bit e = ap (λ (x : Bool). x ∷ []) e

pub three_bits : {a b c x y z : Bool} → a ≡ x → b ≡ y → c ≡ z → (a ∷ b ∷ c ∷ []) ≡ (x ∷ y ∷ z ∷ [])
three_bits e f g = rw (e, f, g) refl

pub pair_same : {a b x y : ℤ} → a ≡ x → b ≡ y → pair_tree a b ≡ pair_tree x y
pair_same e f = rw (e, f) refl
