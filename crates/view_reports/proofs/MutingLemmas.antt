-- What is kept of an end's stretches of muting says which of its voices are muted for too long.
use Rattle.std.proofs.Common.{◌≡◌, ◌≤◌, ◌<◌, ◌-◌, ◌==◌, ◌&&◌, ◌⊎◌, ℕ, Bool, true, false, List, [], ◌∷◌, ◌++◌, Option, Some, None, refl, sym, subst, ◌∙◌, inl, inr, arith, if◌then◌else◌}
use Rattle.std.specs.List.{AllByRecursion}
use Rattle.std.proofs.lemmas.Bool.{eqb-true, false≢true, true≢false}
use Rattle.std.proofs.lemmas.Bool.Decides.{Decides-ltb}
use Rattle.link_frames.specs.declared.frame.End.{End}
use Rattle.view_reports.specs.Calls.{CallRows, side_in}
use Rattle.view_reports.specs.Muting.{is_over, left_in, listed, long_of, longs_of, over_in}
use Rattle.view_reports.specs.Sides.{is_muted}
use Rattle.view_reports.specs.declared.breaks.Break.{Break}
use Rattle.view_reports.specs.declared.breaks.Break.TheVariants as broken
use Rattle.view_reports.specs.declared.side.Side.{Side}
use Rattle.view_reports.specs.declared.stretch.Stretch.{Stretch}

-- it is among these stretches
abbrev pub IsAmong : Stretch → List Stretch → Type 0
IsAmong q [] = ⊥
IsAmong q (s ∷ ss) = (q ≡ s) ⊎ IsAmong q ss

-- They stand in the order in which they began, none behind this tick.
abbrev pub AreOrdered : List Stretch → (now : ℕ) → Type 0
AreOrdered [] now = Unit {0}
AreOrdered (s ∷ ss) now = (s.since ≤ now) × AllByRecursion (λ (r : Stretch). s.since ≤ r.since) ss × AreOrdered ss now

-- A stretch began in front of the line of this number; where it is that of its leg, its ticks count from the same.
pub record IsOf (side : Side) (number : ℕ) (s : Stretch) : Type 0 where
  pub before : s.line < number
  pub since : side.line ≡ s.line → side.since ≡ s.since

abbrev pub stretch_of : ℕ → Side → Stretch
stretch_of c side = record { call = c; line = side.line; since = side.since }

-- What is kept of the stretches of an end stands for its legs: each that is muted is among them.
pub record StretchesStand (calls : CallRows) (e : End) (stretches : List Stretch) (number now : ℕ) : Type 0 where
  pub each : (q : Stretch) → IsAmong q stretches → IsOf (side_in calls e q.call) number q
  pub lines : (c : ℕ) → (side_in calls e c).line < number
  pub among : (c : ℕ) → is_muted (side_in calls e c) ≡ true → IsAmong (stretch_of c (side_in calls e c)) stretches
  pub order : AreOrdered stretches now

among_all : (P : Stretch → Type 0) (ss : List Stretch) (q : Stretch) → AllByRecursion P ss → IsAmong q ss → P q
among_all P [] q all h = absurd h
among_all P (s ∷ ss) q all (inl h) = subst P (sym h) all.0
among_all P (s ∷ ss) q all (inr h) = among_all P ss q all.1 h

over_more : (limit now : ℕ) (s q : Stretch) → s.since ≤ q.since → is_over limit now q ≡ true → is_over limit now s ≡ true
over_more limit now s q le over =
    let gt : limit < now - q.since = (Decides-ltb limit (now - q.since)).0 over in
    let far : limit < now - s.since = omega arith in
    (Decides-ltb limit (now - s.since)).1 far

-- one whose bound has passed is among those at the front
pub among_over : (limit now before : ℕ) (ss : List Stretch) (q : Stretch) → AreOrdered ss before → IsAmong q ss
    → is_over limit now q ≡ true → IsAmong q (over_in limit now ss)
among_over limit now before [] q order h over = absurd h
among_over limit now before (s ∷ ss) q order (inl h) over =
    subst (λ (b : Bool). IsAmong q (if b then s ∷ over_in limit now ss else []))
    (sym (subst (λ (z : Stretch). is_over limit now z ≡ true) h over)) (inl h)
among_over limit now before (s ∷ ss) q order (inr h) over =
    subst (λ (b : Bool). IsAmong q (if b then s ∷ over_in limit now ss else []))
    (sym (over_more limit now s q (among_all (λ (r : Stretch). s.since ≤ r.since) ss q order.1 h) over))
    (inr (among_over limit now before ss q order.2 h over))

-- and one whose bound hasn't is left
pub among_left : (limit now : ℕ) (ss : List Stretch) (q : Stretch) → IsAmong q ss → is_over limit now q ≡ false
    → IsAmong q (left_in limit now ss)
among_left limit now [] q h under = absurd h
among_left limit now (s ∷ ss) q h under =
    at (λ k. among_left limit now ss q k under) (is_over limit now s) refl h
  where
    at : (IsAmong q ss → IsAmong q (left_in limit now ss)) → (b : Bool) → is_over limit now s ≡ b
        → (q ≡ s) ⊎ IsAmong q ss → IsAmong q (if b then left_in limit now ss else s ∷ ss)
    at more true over (inl same) =
        absurd (true≢false (sym over ∙ subst (λ (z : Stretch). is_over limit now z ≡ false) same under))
    at more true over (inr behind) = more behind
    at more false over k = k

-- those that are left were there
pub left_among : (limit now : ℕ) (ss : List Stretch) (q : Stretch) → IsAmong q (left_in limit now ss) → IsAmong q ss
left_among limit now [] q h = h
left_among limit now (s ∷ ss) q h = at (λ k. left_among limit now ss q k) (is_over limit now s) h
  where
    at : (IsAmong q (left_in limit now ss) → IsAmong q ss) → (b : Bool)
        → IsAmong q (if b then left_in limit now ss else s ∷ ss) → (q ≡ s) ⊎ IsAmong q ss
    at more true k = inr (more k)
    at more false k = k

pub over_among : (limit now : ℕ) (ss : List Stretch) (q : Stretch) → IsAmong q (over_in limit now ss)
    → IsAmong q ss × (is_over limit now q ≡ true)
over_among limit now [] q h = absurd h
over_among limit now (s ∷ ss) q h = at (λ k. over_among limit now ss q k) (is_over limit now s) refl h
  where
    on : (IsAmong q (over_in limit now ss) → IsAmong q ss × (is_over limit now q ≡ true))
        → (q ≡ s) ⊎ IsAmong q (over_in limit now ss) → is_over limit now s ≡ true
        → ((q ≡ s) ⊎ IsAmong q ss) × (is_over limit now q ≡ true)
    on more (inl same) over = (inl same, subst (λ (z : Stretch). is_over limit now z ≡ true) (sym same) over)
    on more (inr behind) over = let p = more behind in (inr p.0, p.1)

    at : (IsAmong q (over_in limit now ss) → IsAmong q ss × (is_over limit now q ≡ true)) → (b : Bool)
        → is_over limit now s ≡ b → IsAmong q (if b then s ∷ over_in limit now ss else [])
        → ((q ≡ s) ⊎ IsAmong q ss) × (is_over limit now q ≡ true)
    at more true over k = on more k over
    at more false over k = absurd k

pub left_ordered : (limit now before after : ℕ) (ss : List Stretch) → before ≤ after → AreOrdered ss before
    → AreOrdered (left_in limit now ss) after
left_ordered limit now before after [] le h = tt
left_ordered limit now before after (s ∷ ss) le h =
    at (left_ordered limit now before after ss le h.2) (is_over limit now s)
  where
    later : (rs : List Stretch) → AreOrdered rs before → AreOrdered rs after
    later [] k = tt
    later (r ∷ rs) k = let first = k.0 in (omega arith, k.1, later rs k.2)

    at : AreOrdered (left_in limit now ss) after → (b : Bool)
        → AreOrdered (if b then left_in limit now ss else s ∷ ss) after
    at rest true = rest
    at rest false = later (s ∷ ss) h

-- one more at this tick
pub more_ordered : (ss : List Stretch) (s : Stretch) (now : ℕ) → s.since ≡ now → AreOrdered ss now → AreOrdered (ss ++ s ∷ []) now
more_ordered [] s now is h = (omega arith, tt, tt)
more_ordered (r ∷ ss) s now is h = (h.0, reach ss h.1, more_ordered ss s now is h.2)
  where
    reach : (rs : List Stretch) → AllByRecursion (λ (z : Stretch). r.since ≤ z.since) rs
        → AllByRecursion (λ (z : Stretch). r.since ≤ z.since) (rs ++ s ∷ [])
    reach [] k = let first = h.0 in (omega arith, tt)
    reach (z ∷ rs) k = (k.0, reach rs k.1)

pub append_among : (ss rs : List Stretch) (q : Stretch) → IsAmong q (ss ++ rs) → IsAmong q ss ⊎ IsAmong q rs
append_among [] rs q h = inr h
append_among (s ∷ ss) rs q (inl h) = inl (inl h)
append_among (s ∷ ss) rs q (inr h) = by (append_among ss rs q h)
  where
    by : IsAmong q ss ⊎ IsAmong q rs → ((q ≡ s) ⊎ IsAmong q ss) ⊎ IsAmong q rs
    by (inl k) = inl (inr k)
    by (inr k) = inr k

pub among_front : (ss rs : List Stretch) (q : Stretch) → IsAmong q ss → IsAmong q (ss ++ rs)
among_front [] rs q h = absurd h
among_front (s ∷ ss) rs q (inl h) = inl h
among_front (s ∷ ss) rs q (inr h) = inr (among_front ss rs q h)

pub among_back : (ss rs : List Stretch) (q : Stretch) → IsAmong q rs → IsAmong q (ss ++ rs)
among_back [] rs q h = h
among_back (s ∷ ss) rs q h = inr (among_back ss rs q h)

-- The breaks of stretches whose bound has passed.

listed_none : (o : Option Break) (bs : List Break) → listed o ++ bs ≡ [] → (o ≡ None) × (bs ≡ [])
listed_none None bs h = (refl, h)
listed_none (Some b) bs h = cc

pub none_long : (calls : CallRows) (e : End) (now : ℕ) (ss : List Stretch) (q : Stretch) → longs_of calls e now ss ≡ []
    → IsAmong q ss → long_of (side_in calls e q.call) e q now ≡ None
none_long calls e now [] q none h = absurd h
none_long calls e now (s ∷ ss) q none h =
    let parts = listed_none (long_of (side_in calls e s.call) e s now) (longs_of calls e now ss) none in
    on parts.0 (λ k. none_long calls e now ss q parts.1 k) h
  where
    on : long_of (side_in calls e s.call) e s now ≡ None
        → (IsAmong q ss → long_of (side_in calls e q.call) e q now ≡ None) → (q ≡ s) ⊎ IsAmong q ss
        → long_of (side_in calls e q.call) e q now ≡ None
    on first more (inl same) = subst (λ (z : Stretch). long_of (side_in calls e z.call) e z now ≡ None) (sym same) first
    on first more (inr behind) = more behind

-- a break is of a stretch whose leg is still muted since its line
pub record IsLongOf (calls : CallRows) (e : End) (q : Stretch) : Type 0 where
  pub muted : is_muted (side_in calls e q.call) ≡ true
  pub line : (side_in calls e q.call).line ≡ q.line

pub and_parts : (a b : Bool) → a && b ≡ true → (a ≡ true) × (b ≡ true)
and_parts true b h = (refl, h)
and_parts false b h = absurd (false≢true h)

pub some_long : (calls : CallRows) (e : End) (now : ℕ) (ss : List Stretch) (b : Break) (bs : List Break)
    → longs_of calls e now ss ≡ b ∷ bs → (q : Stretch) × IsAmong q ss × IsLongOf calls e q
some_long calls e now [] b bs some = cc
some_long calls e now (s ∷ ss) b bs some =
    at (λ k. some_long calls e now ss b bs k)
    (is_muted (side_in calls e s.call) && ((side_in calls e s.call).line == s.line)) refl some
  where
    at : (longs_of calls e now ss ≡ b ∷ bs → (q : Stretch) × IsAmong q ss × IsLongOf calls e q) → (d : Bool)
        → is_muted (side_in calls e s.call) && ((side_in calls e s.call).line == s.line) ≡ d
        → listed (if d then Some (broken.Long e s.call (now - s.since)) else None) ++ longs_of calls e now ss ≡ b ∷ bs
        → (q : Stretch) × IsAmong q (s ∷ ss) × IsLongOf calls e q
    at more true is k =
        let p = and_parts (is_muted (side_in calls e s.call)) ((side_in calls e s.call).line == s.line) is in
        (s, inl refl, record { muted = p.0; line = eqb-true (side_in calls e s.call).line s.line p.1 })
    at more false is k = let r = more k in (r.0, inr r.1, r.2)
