-- The point's table looks at no call's number.
use Rattle.std.proofs.Common.{◌≡◌, ℕ, Bool, true, false, List, [], ◌∷◌, ◌==◌, ◌+◌, nat_lt, Option, Some, None, map, unwrap_or, if◌then◌else◌, refl, ap, ◌∙◌}
use Rattle.link_frames.specs.declared.note.Note.TheVariants as note
use Rattle.link_frames.specs.declared.frame.Frame.TheVariants as frame
use Rattle.link_frames.specs.Ranks.{Deadline, first_of, behind}
use Rattle.link_frames.specs.Row.{Row, silent}
use Rattle.psap_machine.specs.Point.{Point, Phase, Listening, Asking, Telling, Talking, Clearing, Over, greatest}
use Rattle.link_frames.specs.declared.frame.Answer.TheVariants as answer
use Rattle.link_frames.specs.Legs.{Kept}
use Rattle.psap_machine.specs.PointRows.{sends, enters, shows, with_shown, voices, asks, switched, most_requests, Heard, Damaged, Request, Clear, Fault, Hangup, Ended, Arrives, Reset, gives, named, unnamed, point_row, content_row, shown_row, next_row, clear_row, busy, is_long_open, was_asked, was_shown, aged, aged_in, acts, deadlines, unit_row, arriving, called}
use Rattle.call_floor.specs.Numbers.{note_with, point_with}

abbrev pub point_row_with : (ℕ → ℕ) → Row Point → Row Point
point_row_with f row = record { items = map (note_with f) row.items; new = point_with f row.new }

abbrev with_each : (ℕ → ℕ) → Option (Row Point) → Option (Row Point)
with_each f None = None
with_each f (Some row) = Some (point_row_with f row)

-- of two rows, by the same test
either : (f : ℕ → ℕ) (b : Bool) (x y : Row Point) → (if b then point_row_with f x else point_row_with f y) ≡ point_row_with f (if b then x else y)
either f true x y = refl
either f false x y = refl

shown_same : (f : ℕ → ℕ) (r : ℕ) (s : Point) (p : Phase) → shown_row r (point_with f s) p ≡ point_row_with f (shown_row r s p)
shown_same f r s (Asking q) =
    either f (q == r) (gives (sends s (frame.App r answer.Positive) ∷ []) (enters (Telling r) s)) (silent s)
shown_same f r s p = refl

content_same : (f : ℕ → ℕ) (r : ℕ) (octets : List ℕ) (s : Point) (asked shown : Bool) → content_row r octets (point_with f s) asked shown ≡ with_each f (content_row r octets s asked shown)
content_same f r octets s asked true = refl
content_same f r octets s true false =
    ap (λ z. Some (behind (shows r octets (point_with f s)) z)) (shown_same f r (with_shown r octets s) s.phase)
content_same f r octets s false false = refl

next_same : (f : ℕ → ℕ) (s : Point) → next_row (point_with f s) ≡ point_row_with f (next_row s)
next_same f s =
    either f (nat_lt (greatest s.asked) most_requests) (behind (voices s false ∷ []) (asks (greatest s.asked + 1) (switched s))) (gives (note.Spent s.call ∷ []) s)

clear_same : (f : ℕ → ℕ) (s : Point) (sets : List Kept) → clear_row (point_with f s) sets ≡ point_row_with f (clear_row s sets)
clear_same f s [] = refl
clear_same f s (set ∷ sets) = refl

named_same : (f : ℕ → ℕ) (e : Heard) (s : Point) (p : Phase) → named e (point_with f s) p ≡ with_each f (named e s p)
named_same f e s Over = refl
named_same f (Arrives frame.Init) s Listening = refl
named_same f (Arrives (frame.Content r attempt octets)) s _ = content_same f r octets s (was_asked r s) (was_shown r s)
named_same f Damaged s (Asking r) = refl
named_same f Request s Talking = ap Some (ap (λ z. if is_long_open s then z else busy (point_with f s)) (next_same f s) ∙ either f (is_long_open s) (next_row s) (busy s))
named_same f Request s _ = refl
named_same f Clear s Talking = ap Some (ap (λ z. if is_long_open s then z else busy (point_with f s)) (clear_same f s s.shown) ∙ either f (is_long_open s) (clear_row s s.shown) (busy s))
named_same f Clear s _ = refl
named_same f Fault s Talking = refl
named_same f Fault s _ = refl
named_same f Hangup s _ = refl
named_same f (Ended w) s _ = refl
named_same f Reset s _ = refl
named_same f _ s _ = refl

unnamed_same : (f : ℕ → ℕ) (e : Heard) (s : Point) → unnamed e (point_with f s) ≡ point_row_with f (unnamed e s)
unnamed_same f (Arrives g) s = refl
unnamed_same f _ s = refl

chosen : (f : ℕ → ℕ) (o : Option (Row Point)) (x : Row Point) → unwrap_or (with_each f o) (point_row_with f x) ≡ point_row_with f (unwrap_or o x)
chosen f None x = refl
chosen f (Some row) x = refl

pub point_hears_same : (f : ℕ → ℕ) (s : Point) (e : Heard) → point_row (point_with f s) e ≡ point_row_with f (point_row s e)
point_hears_same f s e =
    ap (λ z. unwrap_or z (unnamed e (point_with f s))) (named_same f e s s.phase)
    ∙ ap (λ z. unwrap_or (with_each f (named e s s.phase)) z) (unnamed_same f e s)
    ∙ chosen f (named e s s.phase) (unnamed e s)

abbrev line_with : (ℕ → ℕ) → Deadline (Row Point) → Deadline (Row Point)
line_with f d = record { left = d.left; row = point_row_with f d.row }

first_same : (f : ℕ → ℕ) (none : Row Point) (ds : List (Deadline (Row Point))) → first_of (point_row_with f none) (map (line_with f) ds) ≡ point_row_with f (first_of none ds)
first_same f none [] = refl
first_same f none (d ∷ ds) =
    ap (λ z. if d.left == 0 then point_row_with f d.row else z) (first_same f none ds) ∙ either f (d.left == 0) d.row (first_of none ds)

lines_same : (f : ℕ → ℕ) (s : Point) (p : Phase) → deadlines (point_with f s) p ≡ map (line_with f) (deadlines s p)
lines_same f s Listening = refl
lines_same f s (Asking r) = refl
lines_same f s (Telling r) = refl
lines_same f s Talking = refl
lines_same f s (Clearing r) = refl
lines_same f s Over = refl

aged_same : (f : ℕ → ℕ) (s : Point) (p : Phase) → aged_in 1 (point_with f s) p ≡ point_with f (aged_in 1 s p)
aged_same f s Over = refl
aged_same f s _ = refl

acts_same : (f : ℕ → ℕ) (s : Point) → acts (point_with f s) ≡ point_row_with f (acts s)
acts_same f s =
    ap (first_of (silent (point_with f s))) (lines_same f s s.phase) ∙ first_same f (silent s) (deadlines s s.phase)

pub point_passes_same : (f : ℕ → ℕ) (s : Point) → unit_row (point_with f s) ≡ point_row_with f (unit_row s)
point_passes_same f s = ap acts (aged_same f s s.phase) ∙ acts_same f (aged 1 s)

pub arriving_same : (f : ℕ → ℕ) (c : ℕ) → arriving (f c) ≡ point_row_with f (arriving c)
arriving_same f c = refl

pub called_same : (f : ℕ → ℕ) (c : ℕ) → called (f c) ≡ point_row_with f (called c)
called_same f c = refl
