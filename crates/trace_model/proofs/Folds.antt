-- Steps for each element of a list, and which entries the steps of a leg pass over.
use Rattle.std.specs.Prelude.{◌≡◌, ℕ, Bool, true, false, List, [], ◌∷◌, ◌++◌, ◌==◌, Option, Some, None, if◌then◌else◌}
use Rattle.std.specs.List.{AllByRecursion}
use Rattle.std.proofs.Common.{refl, sym, ap, subst, ◌∙◌}
use Rattle.std.proofs.lemmas.Bool.{eq-eqb, eqb-true}
use Rattle.link_frames.specs.declared.frame.End.{End}
use Rattle.link_frames.specs.declared.frame.End.TheVariants as «end»
use Rattle.link_frames.specs.declared.note.Note.{Note}
use Rattle.link_frames.specs.declared.note.Note.TheVariants as note
use Rattle.link_frames.specs.Legs.{Kept, through, owner, sets_moved}
use Rattle.link_frames.specs.Owes.{IsOf, OwnedBy}
use Rattle.trace_model.specs.declared.entry.Entry.{Entry}
use Rattle.trace_model.specs.History.{Sent, told, sends, sent_by, sets_step}
use Rattle.trace_model.specs.Safety.{is_leg, is_owned, is_own, own, Leg, leg_moved, leg_step}

pub through_append : {H A : Type 0} (step : H → A → H) (h : H) (xs ys : List A) →
    through step h (xs ++ ys) ≡ through step (through step h xs) ys
through_append step h [] ys = refl
through_append step h (x ∷ xs) ys = through_append step (step h x) xs ys

-- what holds of one leg, and of every other, holds of each
pub each_leg : (P : End → ℕ → Type 0) (e : End) (c : ℕ) → P e c →
    ((f : End) (d : ℕ) → is_leg f d e c ≡ false → P f d) → (f : End) (d : ℕ) → P f d
each_leg P «end».Vehicle c here others «end».Vehicle d = at (d == c) refl
  where
    at : (b : Bool) → (d == c) ≡ b → P «end».Vehicle d
    at true h = subst (λ (z : ℕ). P «end».Vehicle z) (sym (eqb-true d c h)) here
    at false h = others «end».Vehicle d h
each_leg P «end».Vehicle c here others «end».Point d = others «end».Point d refl
each_leg P «end».Point c here others «end».Vehicle d = others «end».Vehicle d refl
each_leg P «end».Point c here others «end».Point d = at (d == c) refl
  where
    at : (b : Bool) → (d == c) ≡ b → P «end».Point d
    at true h = subst (λ (z : ℕ). P «end».Point z) (sym (eqb-true d c h)) here
    at false h = others «end».Point d h

-- items of one leg alone, or of none
abbrev pub AllOf : End → ℕ → List Note → Type 0
AllOf e c ns = AllByRecursion (IsOf e c) ns

pub is_leg_same : (e : End) (c : ℕ) → is_leg e c e c ≡ true
is_leg_same «end».Vehicle c = eq-eqb c c refl
is_leg_same «end».Point c = eq-eqb c c refl

-- what is of one leg is of no other
pub not_of : (e f : End) (c d : ℕ) → is_leg f d e c ≡ false → (o : Option (End × ℕ)) → OwnedBy e c o →
    is_owned f d o ≡ false
not_of e f c d apart None h = refl
not_of e f c d apart (Some o) h =
    subst (λ (g : End). is_leg f d g o.1 ≡ false) (sym h.0)
    (subst (λ (k : ℕ). is_leg f d e k ≡ false) (sym h.1) apart)

-- another leg's steps pass over these items
pub passed_over : {H : Type 0} (step : H → Entry → H) (e f : End) (c d now : ℕ) (h : H) → is_leg f d e c ≡ false →
    (ns : List Note) → AllOf e c ns → through (own step f d) h (told now ns) ≡ h
passed_over step e f c d now h apart [] a = refl
passed_over step e f c d now h apart (n ∷ ns) a =
    let x : Entry = record { tick = now; note = n } in
    let same : own step f d h x ≡ h = rw (not_of e f c d apart (owner n) a.0) refl in
    ap (λ z. through (own step f d) z (told now ns)) same ∙ passed_over step e f c d now h apart ns a.1

-- an item of this leg, or of none, moves it, where items of none move nothing
own_by : {H : Type 0} (step : H → Entry → H) (e : End) (c : ℕ) (h : H) (x : Entry) → (o : Option (End × ℕ)) →
    OwnedBy e c o → (o ≡ None → step h x ≡ h) → (if is_owned e c o then step h x else h) ≡ step h x
own_by step e c h x None a f = sym (f refl)
own_by step e c h x (Some o) a f =
    let own : is_leg e c o.0 o.1 ≡ true = rw (a.0, a.1) (is_leg_same e c) in rw own refl

pub own_step : {H : Type 0} (step : H → Entry → H) (e : End) (c : ℕ) (h : H) (x : Entry) → IsOf e c x.note →
    (owner x.note ≡ None → step h x ≡ h) → own step e c h x ≡ step h x
own_step step e c h x a f = own_by step e c h x (owner x.note) a f

pub unowned_leg : (leg : Leg) (now : ℕ) (n : Note) → owner n ≡ None → leg_moved leg now n ≡ leg
unowned_leg leg now (note.Up f d) h = cc
unowned_leg leg now (note.Down f d why) h = cc
unowned_leg leg now (note.Voice f d u v) h = cc
unowned_leg leg now _ h = refl

pub unowned_sets : (e : End) (sets : List Kept) (n : Note) → owner n ≡ None → sets_moved e sets n ≡ sets
unowned_sets e sets (note.Send f d frame) h = cc
unowned_sets e sets (note.Shown c r o) h = cc
unowned_sets e sets _ h = refl

pub own_leg : (e : End) (c now : ℕ) (leg : Leg) (n : Note) → IsOf e c n →
    own leg_step e c leg (record { tick = now; note = n }) ≡ leg_moved leg now n
own_leg e c now leg n a = own_step leg_step e c leg (record { tick = now; note = n }) a (unowned_leg leg now n)

pub own_sets : (e : End) (c now : ℕ) (sets : List Kept) (n : Note) → IsOf e c n →
    own (sets_step e) e c sets (record { tick = now; note = n }) ≡ sets_moved e sets n
own_sets e c now sets n a =
    own_step (sets_step e) e c sets (record { tick = now; note = n }) a (unowned_sets e sets n)

-- The frames sent.

sends_append : (e : End) (c now : ℕ) (n : Note) (xs ys : List Sent) →
    sends e c now n (xs ++ ys) ≡ sends e c now n xs ++ ys
sends_append e c now (note.Send f d frame) xs ys = at (is_leg e c f d)
  where
    at : (b : Bool) → (if b then record { tick = now; frame = frame } ∷ (xs ++ ys) else xs ++ ys)
        ≡ (if b then record { tick = now; frame = frame } ∷ xs else xs) ++ ys
    at true = refl
    at false = refl
sends_append e c now _ xs ys = refl

pub sent_append : (e : End) (c : ℕ) (xs ys : List Entry) → sent_by e c (xs ++ ys) ≡ sent_by e c xs ++ sent_by e c ys
sent_append e c [] ys = refl
sent_append e c (x ∷ xs) ys =
    ap (sends e c x.tick x.note) (sent_append e c xs ys)
    ∙ sends_append e c x.tick x.note (sent_by e c xs) (sent_by e c ys)

-- an item that isn't this leg's sends nothing for it
pub sends_none : (e : End) (c now : ℕ) (n : Note) (others : List Sent) → is_own e c n ≡ false →
    sends e c now n others ≡ others
sends_none e c now (note.Send f d frame) others h = rw h refl
sends_none e c now _ others h = refl

pub sent_over : (e f : End) (c d now : ℕ) → is_leg f d e c ≡ false → (ns : List Note) → AllOf e c ns →
    sent_by f d (told now ns) ≡ []
sent_over e f c d now apart [] a = refl
sent_over e f c d now apart (n ∷ ns) a =
    sends_none f d now n (sent_by f d (told now ns)) (not_of e f c d apart (owner n) a.0)
    ∙ sent_over e f c d now apart ns a.1
