-- What one more entry does to the stretches of muting that are kept of an end.
use Rattle.std.proofs.Common.{◌≡◌, ◌≤◌, ◌<◌, ◌-◌, ◌+◌, ◌&&◌, ◌⊎◌, not, nat_lt, ℕ, Bool, true, false, List, [], ◌∷◌, Option, Some, None, refl, sym, ap, subst, ◌∙◌, inl, inr, arith, if◌then◌else◌}
use Rattle.std.proofs.lemmas.Bool.{eq-eqb, false≢true}
use Rattle.std.proofs.lemmas.Bool.Decides.{Decides-ltb, not_from_Decides}
use Rattle.link_frames.specs.Legs.{muting_limit}
use Rattle.link_frames.specs.declared.frame.End.{End}
use Rattle.link_frames.specs.declared.note.Note.{Note}
use Rattle.link_frames.specs.declared.note.Note.TheVariants as note
use Rattle.link_frames.specs.declared.note.Why.{Why}
use Rattle.trace_audit.proofs.RulesLemmas.{is_this_leg}
use Rattle.trace_model.specs.LegsMoved.{AreWithin}
use Rattle.trace_model.specs.Safety.{is_leg}
use Rattle.trace_model.specs.declared.moved.LegOf.{LegOf}
use Rattle.trace_model.specs.declared.voice.Voice.{Voice}
use Rattle.view_reports.specs.Calls.{CallRows, calls_moved, side_in}
use Rattle.view_reports.specs.Muting.{is_over, long_of, longs_of, over_in}
use Rattle.view_reports.specs.Sides.{is_muted, side_behind, turned}
use Rattle.view_reports.specs.declared.breaks.Break.{Break}
use Rattle.view_reports.specs.declared.breaks.Break.TheVariants as broken
use Rattle.view_reports.specs.declared.side.Side.{Side}
use Rattle.view_reports.specs.declared.stretch.Stretch.{Stretch}
use Rattle.view_reports.proofs.MutingLemmas.{StretchesStand, among_over, none_long, over_among, some_long, stretch_of}
use Rattle.view_reports.proofs.SideLemmas.{side_put, voice_kept, voices_kept}

abbrev pub up_voice : (up talks : Bool) → ℕ → Option Voice
up_voice up talks since = if up then Some (record { talks = talks; since = since }) else None

-- A leg is muted since the same line, if it is muted, or since this one.
pub record Same (side side' : Side) : Type 0 where
  pub line : side'.line ≡ side.line
  pub since : side'.since ≡ side.since
  pub muted : is_muted side' ≡ true → is_muted side ≡ true

pub record Since (side' : Side) (number now : ℕ) : Type 0 where
  pub line : side'.line ≡ number
  pub since : side'.since ≡ now

module _ (s l number now : ℕ) (came went : Option ℕ) (why : Option Why) where
  abbrev with : (up talks : Bool) → Side
  with up talks = record {
    is_up = up;
    talks = talks;
    since = s;
    line = l;
    came = came;
    went = went;
    why = why;
  }

  turned_since : (talks will : Bool)
      → Same (with true talks) (turned (with true talks) number now will)
      ⊎ Since (turned (with true talks) number now will) number now
  turned_since true true = inl (record { line = refl; since = refl; muted = λ h. h })
  turned_since true false = inr (record { line = refl; since = refl })
  turned_since false true = inr (record { line = refl; since = refl })
  turned_since false false = inl (record { line = refl; since = refl; muted = λ h. h })

  side_since : (up talks : Bool) (n : Note)
      → Same (with up talks) (side_behind (with up talks) n number now)
      ⊎ Since (side_behind (with up talks) n number now) number now
  side_since true talks (note.Up e c) = inl (record { line = refl; since = refl; muted = λ h. h })
  side_since false talks (note.Up e c) = inr (record { line = refl; since = refl })
  side_since up talks (note.Down e c w) =
      inl (record { line = refl; since = refl; muted = λ h. absurd (false≢true h) })
  side_since true talks (note.Voice e c u w) = turned_since talks (u && w)
  side_since false talks (note.Voice e c u w) = inl (record { line = refl; since = refl; muted = λ h. h })
  side_since up talks _ = inl (record { line = refl; since = refl; muted = λ h. h })

-- the item moves this leg
abbrev pub IsMine : Option LegOf → End → ℕ → Type 0
IsMine None e c = ⊥
IsMine (Some leg) e c = is_leg e c leg.of leg.call ≡ true

same_side : (side : Side) → Same side side
same_side side = record { line = refl; since = refl; muted = λ h. h }

pub leg_since : (calls : CallRows) (o : Option LegOf) (n : Note) (number now : ℕ) (e : End) (c : ℕ)
    → Same (side_in calls e c) (side_in (calls_moved o calls n number now) e c)
    ⊎ (Since (side_in (calls_moved o calls n number now) e c) number now × IsMine o e c)
leg_since calls None n number now e c = inl (same_side (side_in calls e c))
leg_since calls (Some leg) n number now e c =
    subst
    (λ (z : Side). Same (side_in calls e c) z
    ⊎ (Since z number now × (is_leg e c leg.of leg.call ≡ true)))
    (sym (side_put calls e leg.of c leg.call moved)) (at (is_leg e c leg.of leg.call) refl)
  where
    here : Side
    here = side_in calls leg.of leg.call

    moved : Side
    moved = side_behind here n number now

    at : (b : Bool) → is_leg e c leg.of leg.call ≡ b
        → Same (side_in calls e c) (if b then moved else side_in calls e c)
        ⊎ (Since (if b then moved else side_in calls e c) number now × (is_leg e c leg.of leg.call ≡ true))
    at false is = inl (same_side (side_in calls e c))
    at true is =
        by (is_this_leg e leg.of c leg.call is)
        (side_since here.since here.line number now here.came here.went here.why here.is_up here.talks n)
      where
        by : (leg.of ≡ e) × (leg.call ≡ c) → Same here moved ⊎ Since moved number now
            → Same (side_in calls e c) moved ⊎ (Since moved number now × (is_leg e c leg.of leg.call ≡ true))
        by p (inl h) =
            inl
            (subst (λ (z : ℕ). Same (side_in calls e z) moved) p.1
            (subst (λ (z : End). Same (side_in calls z leg.call) moved) p.0 h))
        by p (inr h) = inr (h, is)

module _ (calls : CallRows) (e : End) (ss : List Stretch) (number before now : ℕ) (le : before ≤ now)
    (stands : StretchesStand calls e ss number before) where
  -- a muted voice whose stretch is over has a break
  pub no_break : longs_of calls e now (over_in (muting_limit e) now ss) ≡ [] → (c : ℕ)
      → is_muted (side_in calls e c) ≡ true
      → is_over (muting_limit e) now (stretch_of c (side_in calls e c)) ≡ false
  no_break none c muted = at (is_over (muting_limit e) now q) refl
    where
      q : Stretch
      q = stretch_of c (side_in calls e c)

      at : (b : Bool) → is_over (muting_limit e) now q ≡ b → is_over (muting_limit e) now q ≡ false
      at false is = is
      at true is =
          let absent = none_long calls e now (over_in (muting_limit e) now ss) q none
          (among_over (muting_limit e) now before ss q stands.order (stands.among c muted) is) in
          let there : long_of (side_in calls e c) e q now ≡ Some (broken.Long e c (now - (side_in calls e c).since)) =
          rw (muted, eq-eqb (side_in calls e c).line (side_in calls e c).line refl) refl in
          let no : Some (broken.Long e c (now - (side_in calls e c).since)) ≡ None = sym there ∙ absent in
          cc

  muted_voice : (side : Side) (v : Voice) → voice_kept side ≡ Some v → v.talks ≡ false
      → (is_muted side ≡ true) × (side.since ≡ v.since)
  muted_voice side v is muted = at side.is_up refl is
    where
      at : (b : Bool) → side.is_up ≡ b
          → up_voice b side.talks side.since ≡ Some v
          → (is_muted side ≡ true) × (side.since ≡ v.since)
      at true up h =
          let same : (◌≡◌ {A = Voice} (record { talks = side.talks; since = side.since }) v) = cc in
          let quiet : side.talks ≡ false = ap (λ (z : Voice). z.talks) same ∙ muted in
          (rw (up, quiet) refl, ap (λ (z : Voice). z.since) same)
      at false up h = cc

  pub within_by : longs_of calls e now (over_in (muting_limit e) now ss) ≡ []
      → AreWithin (voices_kept calls e) now (muting_limit e)
  within_by none = λ c v is muted.
      let p = muted_voice (side_in calls e c) v is muted in
      let under = no_break none c p.0 in
      let no : muting_limit e < now - (side_in calls e c).since → ⊥ =
      not_from_Decides (nat_lt (muting_limit e) (now - (side_in calls e c).since))
      (Decides-ltb (muting_limit e) (now - (side_in calls e c).since)) under in
      let same = p.1 in
      omega arith

  pub not_within : (b : Break) (bs : List Break) → longs_of calls e now (over_in (muting_limit e) now ss) ≡ b ∷ bs
      → AreWithin (voices_kept calls e) now (muting_limit e) → ⊥
  not_within b bs some within =
      let found = some_long calls e now (over_in (muting_limit e) now ss) b bs some in
      let q : Stretch = found.0 in
      let side : Side = side_in calls e q.call in
      let there = over_among (muting_limit e) now ss q found.1 in
      let same : side.since ≡ q.since = (stands.each q there.0).since found.2.line in
      let gt : muting_limit e < now - q.since = (Decides-ltb (muting_limit e) (now - q.since)).0 there.1 in
      let le' : now ≤ side.since + muting_limit e =
      within q.call (record { talks = false; since = side.since }) (open_voice side found.2.muted) refl in
      omega arith
    where
      open_voice : (side : Side) → is_muted side ≡ true
          → voice_kept side ≡ up_voice true false side.since
      open_voice side muted = at side.is_up side.talks refl refl muted
        where
          at : (u t : Bool) → side.is_up ≡ u → side.talks ≡ t → u && not t ≡ true
              → up_voice u side.talks side.since ≡ up_voice true false side.since
          at true true p r h = absurd (false≢true h)
          at true false p r h = ap (λ (z : Bool). up_voice true z side.since) r
          at false t p r h = absurd (false≢true h)
