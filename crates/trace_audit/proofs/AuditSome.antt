-- The lines of a trace have a verdict: whether a rule is broken can be decided.
use Rattle.std.specs.Prelude.{◌≡◌, ◌≤◌, ◌<◌, ◌+◌, ◌⊎◌, ◌↔◌, ℕ, Bool, true, false, List, [], ◌∷◌, ◌++◌, length, nat_eq, Option, Some, None, Result, Ok, Err, if◌then◌else◌}
use Rattle.std.specs.List.{AllByRecursion}
use Rattle.std.specs.Cmp.Lexicographic.{bytes_decides, pointwise}
use Rattle.std.proofs.Common.{refl, sym, ap, subst, ◌∙◌, inl, inr, arith, append_assoc}
use Rattle.std.proofs.lemmas.Bool.{cases_eq, false≢true, true≢false}
use Rattle.std.proofs.lemmas.Bool.Decides.{leb_tells}
use Rattle.std.proofs.lemmas.List.{append-nil}
use Rattle.link_frames.specs.declared.frame.End.{End}
use Rattle.link_frames.specs.declared.frame.End.TheVariants as «end»
use Rattle.link_frames.specs.declared.note.Note.{Note}
use Rattle.link_frames.specs.declared.note.Note.TheVariants as note
use Rattle.link_frames.specs.Legs.{muting_limit, owner, through}
use Rattle.trace_model.specs.declared.entry.Entry.{Entry}
use Rattle.line_input.specs.declared.reason.Reason.{Reason}
use Rattle.line_input.specs.declared.reason.Reason.TheVariants as reason
use Rattle.trace_model.specs.Safety.{Agreed, Bounded, IsShown, IsShownFirst, IsWithin, Leg, Opened, OwesOpening, Safe, WasShown, first_leg, is_owned, leg_at, leg_behind, leg_step, own}
use Rattle.trace_model.proofs.Fronts.{agreed_one, nothing_safe, opened_one}
use Rattle.trace_model.specs.declared.rule.Rule.{Rule}
use Rattle.trace_model.specs.declared.rule.Rule.TheVariants as rule
use Rattle.trace_model.specs.declared.moved.LegOf.{LegOf}
use Rattle.trace_audit.specs.declared.verdict.Verdict.{Verdict}
use Rattle.trace_audit.specs.declared.verdict.Verdict.TheVariants as verdict
use Rattle.trace_model.specs.declared.voice.Voice.{Voice}
use Rattle.trace_audit.specs.Audit.{Audits, IsBroken, IsRefused, IsSafeTrace, IsUnrefused, NeverFall, entries_of, in_front, line_says}
use Rattle.trace_model.specs.Tallies.{last_tick}
use Rattle.trace_audit.specs.Judged.{Judges}
use Rattle.trace_model.specs.LegsStand.{IsVoiceOf}
use Rattle.trace_audit.specs.RulesStand.{IsOwed}
use Rattle.trace_audit.specs.inner.Owed.{is_too_soon, owed_behind}
use Rattle.trace_audit.proofs.AuditOne.{last_or_none}
use Rattle.trace_audit.proofs.AuditRead.{entries_append, is_first, judged_more, trace_more, unrefused_append}
use Rattle.trace_audit.proofs.RulesLemmas.{AreVoices, bounded_no, bounded_yes, is_this_leg, leg_within, owed_more, within_leg}

abbrev Decided : Type 0 → Type 0
Decided P = P ⊎ (P → ⊥)

-- Agreed.

octets_decided : (o p : List ℕ) → Decided (o ≡ p)
octets_decided o p = at (pointwise nat_eq o p) refl
  where
    at : (b : Bool) → pointwise nat_eq o p ≡ b → Decided (o ≡ p)
    at true e = inl ((bytes_decides o p).0 e)
    at false e = inr (λ q. true≢false (sym ((bytes_decides o p).1 q) ∙ e))

three : (P Q R : Type 0) → Decided P → Decided Q → Decided R → Decided (P × Q × R)
three P Q R (inl p) (inl q) (inl r) = inl (p, q, r)
three P Q R (inl p) (inl q) (inr r) = inr (λ h. r h.2)
three P Q R (inl p) (inr q) d = inr (λ h. q h.1)
three P Q R (inr p) c d = inr (λ h. p h.0)

shown_decided : (c r : ℕ) (o : List ℕ) (n : Note) → Decided (IsShown c r o n)
shown_decided c r o (note.Shown d s p) =
    three (d ≡ c) (s ≡ r) (p ≡ o) (cases_eq d c) (cases_eq s r) (octets_decided p o)
shown_decided c r o _ = inr (λ h. h)

was_decided : (c r : ℕ) (o : List ℕ) (t : List Entry) → Decided (WasShown c r o t)
was_decided c r o [] = inr (λ h. h)
was_decided c r o (x ∷ t) = at (shown_decided c r o x.note) (was_decided c r o t)
  where
    at : Decided (IsShown c r o x.note) → Decided (WasShown c r o t) → Decided (IsShown c r o x.note ⊎ WasShown c r o t)
    at (inl h) d = inl (inl h)
    at (inr h) (inl k) = inl (inr k)
    at (inr h) (inr k) = inr none
      where
        none : IsShown c r o x.note ⊎ WasShown c r o t → ⊥
        none (inl p) = h p
        none (inr p) = k p

first_decided : (t : List Entry) (n : Note) → Decided (IsShownFirst t n)
first_decided t (note.Acked c r o) = was_decided c r o t
first_decided t _ = inl tt

agreed_decided : (t : List Entry) (x : Entry) → Agreed t → Decided (Agreed (t ++ x ∷ []))
agreed_decided t x h = at (first_decided t x.note)
  where
    at : Decided (IsShownFirst t x.note) → Decided (Agreed (t ++ x ∷ []))
    at (inl k) = inl ((agreed_one t x).1 (h, k))
    at (inr k) = inr (λ a. k ((agreed_one t x).0 a).1)

-- The voices of all legs.

abbrev kept_if : Bool → Leg → Option Voice
kept_if true leg = Some (record { talks = leg.talks; since = leg.since })
kept_if false leg = None

is_kept : (b : Bool) (leg : Leg) → leg.up ≡ b → IsVoiceOf (kept_if b leg) leg
is_kept true leg e = (e, refl, refl)
is_kept false leg e = e

abbrev voices_in : List Entry → End → ℕ → Option Voice
voices_in t e c = kept_if (leg_at e c t).up (leg_at e c t)

are_in : (t : List Entry) → AreVoices (voices_in t) t
are_in t = λ e c. is_kept (leg_at e c t).up (leg_at e c t) refl

-- Opened.

voice_decided : (e f : End) (c d : ℕ) (u w : Bool) → Decided (note.Voice f d u w ≡ note.Voice e c true true)
voice_decided e f c d false w = inr (λ h. cc)
voice_decided e f c d true false = inr (λ h. cc)
voice_decided «end».Vehicle «end».Point c d true true = inr (λ h. cc)
voice_decided «end».Point «end».Vehicle c d true true = inr (λ h. cc)
voice_decided «end».Vehicle «end».Vehicle c d true true = at (cases_eq d c)
  where
    at : Decided (d ≡ c) → Decided (note.Voice «end».Vehicle d true true ≡ note.Voice «end».Vehicle c true true)
    at (inl h) = inl (ap (λ (z : ℕ). note.Voice «end».Vehicle z true true) h)
    at (inr h) = inr (λ k. h (cc))
voice_decided «end».Point «end».Point c d true true = at (cases_eq d c)
  where
    at : Decided (d ≡ c) → Decided (note.Voice «end».Point d true true ≡ note.Voice «end».Point c true true)
    at (inl h) = inl (ap (λ (z : ℕ). note.Voice «end».Point z true true) h)
    at (inr h) = inr (λ k. h (cc))

opens_decided : (e : End) (c : ℕ) (n : Note) → Decided (n ≡ note.Voice e c true true)
opens_decided e c (note.Voice f d u w) = voice_decided e f c d u w
opens_decided e c _ = inr (λ h. cc)

record OwedBehind (t : List Entry) : Type 0 where
  pub owed : Option LegOf
  pub is : (e : End) (c : ℕ) → OwesOpening e c first_leg t ↔ IsOwed owed e c

owed_at_end : (t : List Entry) → OwedBehind t
owed_at_end t = at (last_or_none t)
  where
    at : (t ≡ []) ⊎ ((xs : List Entry) × (x : Entry) × (t ≡ xs ++ x ∷ [])) → OwedBehind t
    at (inl e) = subst OwedBehind (sym e) (record { owed = None; is = λ f c. (λ h. h, λ h. h) })
    at (inr p) =
        subst OwedBehind (sym p.2)
        (record { owed = owed_behind (voices_in p.0) p.1.note; is = owed_more (voices_in p.0) p.0 p.1 (are_in p.0) })

opened_decided : (t : List Entry) (x : Entry) → Opened t → Decided (Opened (t ++ x ∷ []))
opened_decided t x h = let o = owed_at_end t in at o.owed o.is
  where
    at : (owed : Option LegOf) → ((e : End) (c : ℕ) → OwesOpening e c first_leg t ↔ IsOwed owed e c) →
        Decided (Opened (t ++ x ∷ []))
    at None is = inl ((opened_one t x).1 (h, λ e c owes. absurd ((is e c).0 owes)))
    at (Some leg) is = by (opens_decided leg.of leg.call x.note)
      where
        by : Decided (x.note ≡ note.Voice leg.of leg.call true true) → Decided (Opened (t ++ x ∷ []))
        by (inl e) =
            inl ((opened_one t x).1 (h, λ f c owes. let p = (is f c).0 owes in e ∙ (rw (p.0, p.1) refl)))
        by (inr e) = inr (λ o. e (((opened_one t x).0 o).1 leg.of leg.call ((is leg.of leg.call).1 (refl, refl))))

-- Bounded.

le_decided : (a b : ℕ) → Decided (a ≤ b)
le_decided a b = elim (leb_tells a b) [ inl h ↦ inl h.1 | inr h ↦ inr (λ le. let lt = h.1 in absurd (omega arith)) ]

within_decided : (e : End) (now : ℕ) (leg : Leg) → Decided (IsWithin e now leg)
within_decided e now leg = at leg.up refl leg.talks refl (le_decided now (leg.since + muting_limit e))
  where
    at : (u : Bool) → leg.up ≡ u → (v : Bool) → leg.talks ≡ v → Decided (now ≤ leg.since + muting_limit e) →
        Decided (IsWithin e now leg)
    at false p v q d = inl (λ up muted. absurd (false≢true (sym p ∙ up)))
    at true p true q d = inl (λ up muted. absurd (true≢false (sym q ∙ muted)))
    at true p false q (inl le) = inl (λ up muted. le)
    at true p false q (inr le) = inr (λ w. le (w p q))

abbrev WithinOwner : List Entry → ℕ → Option (End × ℕ) → Type 0
WithinOwner t now None = Unit {0}
WithinOwner t now (Some o) = IsWithin o.0 now (leg_at o.0 o.1 t)

abbrev AreOwners : List Entry → ℕ → List Entry → Type 0
AreOwners t now s = AllByRecursion (λ y. WithinOwner t now (owner y.note)) s

owner_decided : (t : List Entry) (now : ℕ) (o : Option (End × ℕ)) → Decided (WithinOwner t now o)
owner_decided t now None = inl tt
owner_decided t now (Some o) = within_decided o.0 now (leg_at o.0 o.1 t)

owners_decided : (t : List Entry) (now : ℕ) (s : List Entry) → Decided (AreOwners t now s)
owners_decided t now [] = inl tt
owners_decided t now (y ∷ s) = at (owner_decided t now (owner y.note)) (owners_decided t now s)
  where
    at : Decided (WithinOwner t now (owner y.note)) → Decided (AreOwners t now s) →
        Decided (WithinOwner t now (owner y.note) × AreOwners t now s)
    at (inl h) (inl k) = inl (h, k)
    at (inl h) (inr k) = inr (λ p. k p.1)
    at (inr h) d = inr (λ p. h p.0)

owner_all : (t : List Entry) (now : ℕ) → ((e : End) (c : ℕ) → IsWithin e now (leg_at e c t)) → (o : Option (End × ℕ)) →
    WithinOwner t now o
owner_all t now w None = tt
owner_all t now w (Some o) = w o.0 o.1

owners_all : (t : List Entry) (now : ℕ) → ((e : End) (c : ℕ) → IsWithin e now (leg_at e c t)) → (s : List Entry) →
    AreOwners t now s
owners_all t now w [] = tt
owners_all t now w (y ∷ s) = (owner_all t now w (owner y.note), owners_all t now w s)

owner_within : (t : List Entry) (now : ℕ) (e : End) (c : ℕ) (o : Option (End × ℕ)) → is_owned e c o ≡ true →
    WithinOwner t now o → IsWithin e now (leg_at e c t)
owner_within t now e c None own w = absurd (false≢true own)
owner_within t now e c (Some o) own w =
    let p = is_this_leg e o.0 c o.1 own in
    subst (λ (d : ℕ). IsWithin e now (leg_at e d t)) p.1 (subst (λ (f : End). IsWithin f now (leg_at f o.1 t)) p.0 w)

moved_or_not : (t : List Entry) (now : ℕ) (e : End) (c : ℕ) (s : List Entry) (leg : Leg) → AreOwners t now s →
    IsWithin e now (leg_at e c t) ⊎ (through (own leg_step e c) leg s ≡ leg)
moved_or_not t now e c [] leg h = inr refl
moved_or_not t now e c (y ∷ s) leg h =
    at (is_owned e c (owner y.note)) refl (moved_or_not t now e c s leg h.1)
  where
    Rest : Leg → Type 0
    Rest z = IsWithin e now (leg_at e c t) ⊎ (through (own leg_step e c) z s ≡ leg)

    at : (b : Bool) → is_owned e c (owner y.note) ≡ b → Rest leg → Rest (leg_behind e c leg y)
    at true q rest = inl (owner_within t now e c (owner y.note) q h.0)
    at false q rest = subst Rest (sym (ap (λ b. if b then leg_step leg y else leg) q)) rest

all_within : (t : List Entry) (now : ℕ) → AreOwners t now t → (e : End) (c : ℕ) → IsWithin e now (leg_at e c t)
all_within t now h e c = at (moved_or_not t now e c t first_leg h)
  where
    at : IsWithin e now (leg_at e c t) ⊎ (leg_at e c t ≡ first_leg) → IsWithin e now (leg_at e c t)
    at (inl w) = w
    at (inr k) = subst (λ (z : Leg). IsWithin e now z) (sym k) (λ up muted. absurd (false≢true up))

bounded_decided : (t : List Entry) (x : Entry) (before : ℕ) → Bounded t before → Decided (Bounded (t ++ x ∷ []) x.tick)
bounded_decided t x before h = at (owners_decided t x.tick t) (is_too_soon (voices_in t) x.note x.tick) refl
  where
    at : Decided (AreOwners t x.tick t) → (b : Bool) → is_too_soon (voices_in t) x.note x.tick ≡ b →
        Decided (Bounded (t ++ x ∷ []) x.tick)
    at (inl w) false soon =
        inl
        (bounded_yes (voices_in t) t x before (are_in t) h
        (λ e c v is muted.
        leg_within (muting_limit e) x.tick (voices_in t e c) (leg_at e c t) (are_in t e c)
        (all_within t x.tick w e c) v is muted) soon)
    at (inl w) true soon = inr (λ b. true≢false (sym soon ∙ (bounded_no (voices_in t) t x (are_in t) b).1))
    at (inr w) b soon =
        inr
        (λ k.
        w (owners_all t x.tick
        (λ e c.
        within_leg (muting_limit e) x.tick (voices_in t e c) (leg_at e c t) (are_in t e c)
        ((bounded_no (voices_in t) t x (are_in t) k).0 e c)) t))

-- Which rule is broken first.
some_rule : (t : List Entry) (x : Entry) → Safe t (last_tick t) → (o : Option Rule) × Judges (t ++ x ∷ []) x.tick o
some_rule t x h =
    at (agreed_decided t x h.agreed) (opened_decided t x h.opened) (bounded_decided t x (last_tick t) h.bounded)
  where
    at : Decided (Agreed (t ++ x ∷ [])) → Decided (Opened (t ++ x ∷ [])) → Decided (Bounded (t ++ x ∷ []) x.tick) →
        (o : Option Rule) × Judges (t ++ x ∷ []) x.tick o
    at (inr a) o b = (Some rule.Agreed, a)
    at (inl a) (inr o) b = (Some rule.Opened, (a, o))
    at (inl a) (inl o) (inr b) = (Some rule.Bounded, (a, o, b))
    at (inl a) (inl o) (inl b) = (None, record { agreed = a; opened = o; bounded = b })

-- Lines have a verdict, behind a front that is a safe trace.

abbrev HasVerdict : List (List ℕ) → Type 0
HasVerdict lines = (v : Verdict) × Audits lines v

safe_over : (front : List (List ℕ)) (text : List ℕ) → line_says text ≡ Ok None → IsSafeTrace front →
    IsSafeTrace (front ++ text ∷ [])
safe_over front text says h =
    let same : entries_of (front ++ text ∷ []) ≡ entries_of front =
    entries_append front (text ∷ [])
    ∙ (ap (λ r. entries_of front ++ in_front r []) says ∙ append-nil (entries_of front)) in
    record {
      trace = record {
        each = unrefused_append front (text ∷ []) h.trace.each (subst IsUnrefused (sym says) tt, tt);
        order = subst (λ (es : List Entry). NeverFall es) (sym same) h.trace.order;
      };
      safe = subst (λ (es : List Entry). Safe es (last_tick es)) (sym same) h.safe;
    }

verdict_from : (front rest : List (List ℕ)) → IsSafeTrace front → HasVerdict (front ++ rest)
verdict_from front [] h =
    subst HasVerdict (sym (append-nil front)) (verdict.Sound (length (entries_of front)), (h, refl))
verdict_from front (text ∷ rest) h = at (λ more. verdict_from (front ++ text ∷ []) rest more) (line_says text) refl
  where
    on : ((front ++ text ∷ []) ++ rest ≡ front ++ text ∷ rest) → HasVerdict ((front ++ text ∷ []) ++ rest) →
        HasVerdict (front ++ text ∷ rest)
    on same v = subst HasVerdict same v

    judged : (IsSafeTrace (front ++ text ∷ []) → HasVerdict ((front ++ text ∷ []) ++ rest)) → (x : Entry) →
        line_says text ≡ Ok (Some x) → last_tick (entries_of front) ≤ x.tick → (o : Option Rule) →
        Judges (entries_of front ++ x ∷ []) x.tick o → HasVerdict (front ++ text ∷ rest)
    judged more x says le None j =
        on (append_assoc front (text ∷ []) rest)
        (more (record { trace = trace_more front text x says h le; safe = judged_more front text x None says j }))
    judged more x says le (Some broken) j = (
      verdict.Broken (length front + 1) broken,
      is_first front text rest (length front + 1) (λ front text. IsBroken front text broken) refl h
          (record { trace = trace_more front text x says h le; broken = judged_more front text x (Some broken) says j }),
    )

    refused : (why : Reason) → IsRefused front text why → HasVerdict (front ++ text ∷ rest)
    refused why is = (
      verdict.Bad (record { line = length front + 1; reason = why }),
      is_first front text rest (length front + 1) (λ front text. IsRefused front text why) refl h is,
    )

    entry : (IsSafeTrace (front ++ text ∷ []) → HasVerdict ((front ++ text ∷ []) ++ rest)) → (x : Entry) →
        line_says text ≡ Ok (Some x) → Decided (last_tick (entries_of front) ≤ x.tick) →
        HasVerdict (front ++ text ∷ rest)
    entry more x says (inl le) = let r = some_rule (entries_of front) x h.safe in judged more x says le r.0 r.1
    entry more x says (inr gt) =
        let lt : x.tick < last_tick (entries_of front) = omega arith in
        refused reason.Number (inr (x, says, lt, refl))

    at : (IsSafeTrace (front ++ text ∷ []) → HasVerdict ((front ++ text ∷ []) ++ rest)) →
        (r : Result (Option Entry) Reason) → line_says text ≡ r → HasVerdict (front ++ text ∷ rest)
    at more (Err why) says = refused why (inl says)
    at more (Ok None) says = on (append_assoc front (text ∷ []) rest) (more (safe_over front text says h))
    at more (Ok (Some x)) says = entry more x says (le_decided (last_tick (entries_of front)) x.tick)

pub some_verdict : (lines : List (List ℕ)) → HasVerdict lines
some_verdict lines =
    verdict_from [] lines (record { trace = record { each = tt; order = tt }; safe = nothing_safe 0 })
