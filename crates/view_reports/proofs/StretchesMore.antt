-- The stretches of muting that are kept of an end, behind one more entry.
use Rattle.std.proofs.Common.{◌≡◌, ◌≤◌, ◌<◌, ◌+◌, ◌==◌, ◌&&◌, ◌⊎◌, ℕ, Bool, true, false, List, [], ◌∷◌, ◌++◌, Option, Some, None, refl, sym, ap, subst, ◌∙◌, inl, inr, arith, if◌then◌else◌}
use Rattle.std.proofs.lemmas.Bool.{eq-eqb, eqb-true}
use Rattle.std.proofs.lemmas.List.{append-nil}
use Rattle.link_frames.specs.Legs.{muting_limit}
use Rattle.link_frames.specs.declared.frame.End.{End}
use Rattle.link_frames.specs.declared.note.Note.{Note}
use Rattle.trace_audit.proofs.RulesLemmas.{is_this_leg}
use Rattle.trace_model.specs.Safety.{same_end}
use Rattle.trace_model.specs.declared.moved.LegOf.{LegOf}
use Rattle.view_reports.specs.Calls.{CallRows, calls_moved, side_in}
use Rattle.view_reports.specs.Muting.{begun_by, left_in, longs_of, over_in}
use Rattle.view_reports.specs.Sides.{is_muted}
use Rattle.view_reports.specs.declared.stretch.Stretch.{Stretch}
use Rattle.view_reports.proofs.MutingLemmas.{AreOrdered, IsAmong, IsOf, StretchesStand, among_back, among_front, among_left, and_parts, append_among, left_among, left_ordered, more_ordered, stretch_of}
use Rattle.view_reports.proofs.StretchLemmas.{IsMine, Same, Since, leg_since, no_break}

-- the stretch that begins is that of the leg, in this line at this tick
begun_parts : (o : Option LegOf) (e : End) (calls : CallRows) (number now : ℕ) (q : Stretch)
    → IsAmong q (begun_by o e calls number now)
    → ((side_in calls e q.call).line ≡ number) × (q.line ≡ number) × (q.since ≡ now)
begun_parts None e calls number now q h = absurd h
begun_parts (Some leg) e calls number now q h =
    at (same_end e leg.of && (is_muted (side_in calls e leg.call) && ((side_in calls e leg.call).line == number))) refl h
  where
    at : (b : Bool)
        → same_end e leg.of && (is_muted (side_in calls e leg.call) && ((side_in calls e leg.call).line == number)) ≡ b
        → IsAmong q (if b then record { call = leg.call; line = number; since = now } ∷ [] else [])
        → ((side_in calls e q.call).line ≡ number) × (q.line ≡ number) × (q.since ≡ now)
    at false is k = absurd k
    at true is (inr k) = absurd k
    at true is (inl same) =
        let p = (and_parts (is_muted (side_in calls e leg.call)) ((side_in calls e leg.call).line == number)
        (and_parts (same_end e leg.of) _ is).1).1 in (
          ap (λ (z : Stretch). (side_in calls e z.call).line) same ∙ eqb-true (side_in calls e leg.call).line number p,
          ap (λ (z : Stretch). z.line) same,
          ap (λ (z : Stretch). z.since) same,
        )

-- a leg that this item moves, and that is muted since this line, begins one
begins : (o : Option LegOf) (e : End) (calls : CallRows) (number now c : ℕ) → IsMine o e c
    → is_muted (side_in calls e c) ≡ true → (side_in calls e c).line ≡ number → (side_in calls e c).since ≡ now
    → IsAmong (stretch_of c (side_in calls e c)) (begun_by o e calls number now)
begins None e calls number now c mine muted line since = absurd mine
begins (Some leg) e calls number now c mine muted line since =
    let p = is_this_leg e leg.of c leg.call mine in
    let muted' : is_muted (side_in calls e leg.call) ≡ true =
    subst (λ (z : ℕ). is_muted (side_in calls e z) ≡ true) (sym p.1) muted in
    let line' : (side_in calls e leg.call).line == number ≡ true =
    eq-eqb (side_in calls e leg.call).line number (ap (λ (z : ℕ). (side_in calls e z).line) p.1 ∙ line) in
    let own : same_end e leg.of ≡ true = (and_parts (same_end e leg.of) (c == leg.call) mine).0 in
    let test : same_end e leg.of && (is_muted (side_in calls e leg.call) && ((side_in calls e leg.call).line == number))
    ≡ true = rw (own, muted', line') refl in
    subst
    (λ (b : Bool). IsAmong (stretch_of c (side_in calls e c))
    (if b then record { call = leg.call; line = number; since = now } ∷ [] else []))
    (sym test)
    (inl (λ i. record { call = sym p.1 i; line = line i; since = since i }))

begun_ordered : (o : Option LegOf) (e : End) (calls : CallRows) (number now : ℕ) (ss : List Stretch) → AreOrdered ss now
    → AreOrdered (ss ++ begun_by o e calls number now) now
begun_ordered None e calls number now ss h = subst (λ (z : List Stretch). AreOrdered z now) (sym (append-nil ss)) h
begun_ordered (Some leg) e calls number now ss h =
    at (same_end e leg.of && (is_muted (side_in calls e leg.call) && ((side_in calls e leg.call).line == number)))
  where
    at : (b : Bool)
        → AreOrdered (ss ++ (if b then record { call = leg.call; line = number; since = now } ∷ [] else [])) now
    at true = more_ordered ss (record { call = leg.call; line = number; since = now }) now refl h
    at false = subst (λ (z : List Stretch). AreOrdered z now) (sym (append-nil ss)) h

module _ (calls : CallRows) (e : End) (ss : List Stretch) (number before now : ℕ) (le : before ≤ now)
    (stands : StretchesStand calls e ss number before)
    (none : longs_of calls e now (over_in (muting_limit e) now ss) ≡ []) (o : Option LegOf) (n : Note) where
  abbrev after : CallRows
  after = calls_moved o calls n number now

  line_more : (c : ℕ) → (side_in after e c).line < number + 1
  line_more c = at (leg_since calls o n number now e c)
    where
      at : Same (side_in calls e c) (side_in after e c) ⊎ (Since (side_in after e c) number now × IsMine o e c)
          → (side_in after e c).line < number + 1
      at (inl same) = let low = stands.lines c in let line = same.line in omega arith
      at (inr since) = let line = since.0.line in omega arith

  is_of : (q : Stretch) → IsOf (side_in calls e q.call) number q → IsOf (side_in after e q.call) (number + 1) q
  is_of q h = record { before = let low = h.before in omega arith; since = at (leg_since calls o n number now e q.call) }
    where
      at : Same (side_in calls e q.call) (side_in after e q.call)
          ⊎ (Since (side_in after e q.call) number now × IsMine o e q.call)
          → (side_in after e q.call).line ≡ q.line → (side_in after e q.call).since ≡ q.since
      at (inl same) here = same.since ∙ h.since (sym same.line ∙ here)
      at (inr since) here =
          let low = h.before in let line = since.0.line in
          let no : q.line < q.line = omega arith in
          absurd (omega arith)

  is_new : (q : Stretch) → ((side_in after e q.call).line ≡ number) × (q.line ≡ number) × (q.since ≡ now)
      → IsOf (side_in after e q.call) (number + 1) q
  is_new q p = record {
    before = let line = p.1 in omega arith;
    since = at (leg_since calls o n number now e q.call);
  }
    where
      at : Same (side_in calls e q.call) (side_in after e q.call)
          ⊎ (Since (side_in after e q.call) number now × IsMine o e q.call)
          → (side_in after e q.call).line ≡ q.line → (side_in after e q.call).since ≡ q.since
      at (inl same) here =
          let low = stands.lines q.call in let line = same.line in let there = p.0 in absurd (omega arith)
      at (inr since) here = since.0.since ∙ sym p.2

  each_more : (q : Stretch) → IsAmong q (left_in (muting_limit e) now ss ++ begun_by o e after number now)
      → IsOf (side_in after e q.call) (number + 1) q
  each_more q h =
      at (append_among (left_in (muting_limit e) now ss) (begun_by o e after number now) q h)
    where
      at : IsAmong q (left_in (muting_limit e) now ss) ⊎ IsAmong q (begun_by o e after number now)
          → IsOf (side_in after e q.call) (number + 1) q
      at (inl k) = is_of q (stands.each q (left_among (muting_limit e) now ss q k))
      at (inr k) = is_new q (begun_parts o e after number now q k)

  among_more : (c : ℕ) → is_muted (side_in after e c) ≡ true
      → IsAmong (stretch_of c (side_in after e c)) (left_in (muting_limit e) now ss ++ begun_by o e after number now)
  among_more c muted = at (leg_since calls o n number now e c)
    where
      at : Same (side_in calls e c) (side_in after e c) ⊎ (Since (side_in after e c) number now × IsMine o e c)
          → IsAmong (stretch_of c (side_in after e c)) (left_in (muting_limit e) now ss ++ begun_by o e after number now)
      at (inl same) =
          let q : Stretch = stretch_of c (side_in calls e c) in
          let is : q ≡ stretch_of c (side_in after e c) =
          λ i. record { call = c; line = sym same.line i; since = sym same.since i } in
          let was = same.muted muted in
          subst
          (λ (z : Stretch). IsAmong z (left_in (muting_limit e) now ss ++ begun_by o e after number now)) is
          (among_front (left_in (muting_limit e) now ss) (begun_by o e after number now) q
          (among_left (muting_limit e) now ss q (stands.among c was)
          (no_break calls e ss number before now le stands none c was)))
      at (inr since) =
          among_back (left_in (muting_limit e) now ss) (begun_by o e after number now) (stretch_of c (side_in after e c))
          (begins o e after number now c since.1 muted since.0.line since.0.since)

  pub stretches_more : StretchesStand after e (left_in (muting_limit e) now ss ++ begun_by o e after number now)
      (number + 1) now
  stretches_more = record {
    each = each_more;
    lines = line_more;
    among = among_more;
    order = begun_ordered o e after number now (left_in (muting_limit e) now ss)
        (left_ordered (muting_limit e) now before now ss le stands.order);
  }
