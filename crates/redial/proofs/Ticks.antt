-- Several unit ticks at once: up to the tick at which a line acts, the sums grow and nothing else happens.
use Rattle.std.proofs.Common.{rules, arith, ◌≡◌, ◌≤◌, ◌<◌, ◌+◌, ◌-◌, ℕ, zero, suc, List, [], ◌∷◌, Option, Some, None, refl, ap, ◌∙◌, sym, IfSome, IsSome, option_to_list, add-zero, min, subst, ◌≢◌}
use Rattle.std.proofs.lemmas.Bool.Decides.{nat_tests}
use Rattle.link_frames.proofs.RanksLemmas.{EachLeaves, due_leaves, none_acts}
use Rattle.redial.specs.declared.series.Phase.{Phase}
use Rattle.redial.specs.declared.series.Phase.TheVariants.{Dialling, Pausing, Seeking, Over}
use Rattle.redial.specs.declared.series.Series.{Series}
use Rattle.redial.specs.declared.series.Ticked.{Ticked}
use Rattle.redial.specs.declared.series.Turn.{Turn}
use Rattle.redial.specs.Series.{IsKept, IsKeptIn, DialsWithin, PausesWithin, SeeksWithin, longest_attempt, pause, window}
use Rattle.redial.specs.SeriesRows.{Units, quiet, deadlines, grown, acts, unit_tick, and_then, unit_ticks, due_of}

-- the series in this phase
abbrev pub in_phase : Series → Phase → Series
in_phase s phase = record s { phase = phase }

-- that each line has at least n ticks left
abbrev pub Leaves : ℕ → Series → Type 0
Leaves n s = EachLeaves n (deadlines s s.phase)

abbrev pub units_of : Ticked → Units
units_of t = record { turns = option_to_list t.turn; new = t.new }

-- each line of a series that keeps what it must has a tick left
kept_leaves : (s : Series) (phase : Phase) → IsKeptIn (in_phase s phase) phase → Leaves 1 (in_phase s phase)
kept_leaves s (Dialling ticks) kept = (omega arith, tt)
kept_leaves s (Pausing ticks) kept = (omega arith, (omega arith, tt))
kept_leaves s Seeking kept = (omega arith, tt)
kept_leaves s Over kept = tt

-- a tick later as many less one
one_less : (n : ℕ) (s : Series) (phase : Phase) → Leaves (suc n) (in_phase s phase) → Leaves n (grown 1 (in_phase s phase))
one_less n s (Dialling ticks) h = (omega arith, tt)
one_less n s (Pausing ticks) h = (omega arith, (omega arith, tt))
one_less n s Seeking h = (omega arith, tt)
one_less n s Over h = tt

grown_again : (n : ℕ) (s : Series) (phase : Phase) → grown n (grown 1 (in_phase s phase)) ≡ grown (suc n) (in_phase s phase)
grown_again n s (Dialling ticks) =
    let e : ticks + 1 + n ≡ ticks + suc n = omega arith in let f : s.ticks + 1 + n ≡ s.ticks + suc n = omega arith in rw (e, f) refl
grown_again n s (Pausing ticks) =
    let e : ticks + 1 + n ≡ ticks + suc n = omega arith in let f : s.ticks + 1 + n ≡ s.ticks + suc n = omega arith in rw (e, f) refl
grown_again n s Seeking = let f : s.ticks + 1 + n ≡ s.ticks + suc n = omega arith in rw f refl
grown_again n s Over = refl

grown_none : (s : Series) (phase : Phase) → grown 0 (in_phase s phase) ≡ in_phase s phase
grown_none s (Dialling ticks) = simp add-zero
grown_none s (Pausing ticks) = simp add-zero
grown_none s Seeking = simp add-zero
grown_none s Over = refl

pub none_grown : (s : Series) → grown 0 s ≡ s
none_grown s = grown_none s s.phase

units_of_one : (turn : Option Turn) (new : Series) → and_then turn (record { turns = []; new = new }) ≡ units_of (record { turn = turn; new = new })
units_of_one None new = refl
units_of_one (Some turn) new = refl

-- a tick that gives nothing, and those behind it
quiet_first : (n : ℕ) (s : Series) (t : Ticked) → t ≡ quiet s → and_then t.turn (unit_ticks n t.new) ≡ unit_ticks n s
quiet_first n s t e = rw e refl

quiet_tick : (n : ℕ) (s : Series) → Leaves (suc n) (grown 1 s) → unit_tick s ≡ quiet (grown 1 s)
quiet_tick n s h = none_acts n (quiet (grown 1 s)) (deadlines (grown 1 s) (grown 1 s).phase) h

-- n ticks in which no line acts
quiet_ticks : (n : ℕ) (s : Series) → Leaves n (grown 1 s) → (unit_ticks n s).turns ≡ []
quiet_ticks zero s h = refl
quiet_ticks (suc n) s h =
    ap (λ (u : Units). u.turns) (quiet_first n (grown 1 s) (unit_tick s) (quiet_tick n s h))
    ∙ quiet_ticks n (grown 1 s) (one_less n (grown 1 s) (grown 1 s).phase h)

-- n ticks of which only the last may bring something
ticks_act : (n : ℕ) (s : Series) → Leaves n (grown 1 s) → unit_ticks (suc n) s ≡ units_of (acts (grown (suc n) s))
ticks_act zero s h = units_of_one (unit_tick s).turn (unit_tick s).new
ticks_act (suc n) s h =
    quiet_first (suc n) (grown 1 s) (unit_tick s) (quiet_tick n s h)
    ∙ ticks_act n (grown 1 s) (one_less n (grown 1 s) (grown 1 s).phase h)
    ∙ ap (λ (g : Series). units_of (acts g)) (grown_again (suc n) s s.phase)

leaves : (n : ℕ) (s : Series) → IfSome (due_of s) (λ due. suc n ≤ due) → Leaves n (grown 1 s)
leaves n s h = due_leaves n (deadlines (grown 1 s) (grown 1 s).phase) h

-- any number of ticks that are no more than due, of a series that keeps what it must
pub unit_ticks_is : (n : ℕ) (s : Series) → IsKept s → IfSome (due_of s) (λ due. n ≤ due) → unit_ticks n s ≡ units_of (acts (grown n s))
unit_ticks_is zero s kept h =
    sym (ap (λ (g : Series). units_of (acts g)) (grown_none s s.phase)
    ∙ ap units_of (none_acts 0 (quiet s) (deadlines s s.phase) (kept_leaves s s.phase kept)))
unit_ticks_is (suc n) s kept h = ticks_act n s (leaves n s h)

-- such a series keeps it
abbrev KeepsAfter : ℕ → Series → Type 0
KeepsAfter n s = IsKept s → IfSome (due_of s) (λ due. n ≤ due) → IsKept (acts (grown n s)).new

kept_dialling : (n ticks : ℕ) (s : Series) → DialsWithin s ticks → n ≤ longest_attempt - ticks
    → IsKept (acts (grown n (in_phase s (Dialling ticks)))).new
kept_dialling n ticks s kept h = search rules

kept_pausing : (n ticks : ℕ) (s : Series) → PausesWithin s ticks → n ≤ window - s.ticks → n ≤ pause - ticks
    → IsKept (acts (grown n (in_phase s (Pausing ticks)))).new
kept_pausing n ticks s kept h i = search rules

kept_seeking : (n : ℕ) (s : Series) → SeeksWithin s → n ≤ window - s.ticks → IsKept (acts (grown n (in_phase s Seeking))).new
kept_seeking n s kept h = search rules

kept_later : (n : ℕ) (s : Series) (phase : Phase) → KeepsAfter n (in_phase s phase)
kept_later n s (Dialling ticks) kept h = kept_dialling n ticks (in_phase s (Dialling ticks)) kept (omega arith)
kept_later n s (Pausing ticks) kept h =
    kept_pausing n ticks (in_phase s (Pausing ticks)) kept (omega arith) (omega arith)
kept_later n s Seeking kept h = kept_seeking n (in_phase s Seeking) kept (omega arith)
kept_later n s Over kept h = kept

-- once as many ticks passed as are due, a line acts
abbrev ActsWhenDue : Series → Type 0
ActsWhenDue s = IsKept s → (due : ℕ) → due_of s ≡ Some due → IsSome (acts (grown due s)).turn

due_dialling : (s : Series) (ticks : ℕ) → ActsWhenDue (in_phase s (Dialling ticks))
due_dialling s ticks h due e = search (rules, nat_tests)

due_pausing : (s : Series) (ticks : ℕ) → ActsWhenDue (in_phase s (Pausing ticks))
due_pausing s ticks h due e = search (rules, nat_tests)

due_seeking : (s : Series) → ActsWhenDue (in_phase s Seeking)
due_seeking s h due e = search (rules, nat_tests)

pub due_acts : (s : Series) (phase : Phase) → ActsWhenDue (in_phase s phase)
due_acts s (Dialling ticks) h due e = due_dialling s ticks h due e
due_acts s (Pausing ticks) h due e = due_pausing s ticks h due e
due_acts s Seeking h due e = due_seeking s h due e
due_acts s Over h due e = cc

some_listed : (turn : Option Turn) → IsSome turn → option_to_list turn ≢ []
some_listed None h = λ e. cc
some_listed (Some turn) h = λ e. cc

pub turns_at_due : (due : ℕ) (s : Series) → IsKept s → Some due ≡ due_of s → (unit_ticks due s).turns ≢ []
turns_at_due due s kept is =
    rw (unit_ticks_is due s kept (subst (λ (d : Option ℕ). IfSome d (λ d. due ≤ d)) is (omega arith)))
    (some_listed (acts (grown due s)).turn (due_acts s s.phase kept due (sym is)))

-- before that none does
pub before_due : (n due : ℕ) (s : Series) → Some due ≡ due_of s → n < due → (unit_ticks n s).turns ≡ []
before_due n due s is lt =
    quiet_ticks n s (leaves n s (subst (λ (d : Option ℕ). IfSome d (λ d. suc n ≤ d)) is (omega arith)))

-- What the code computes is what as many unit ticks give.
pub passes : (n : ℕ) (s g : Series) (t : Ticked) → g ≡ grown n s → t ≡ acts g → IsKept s → IfSome (due_of s) (λ due. n ≤ due)
    → units_of t ≡ unit_ticks n s
passes n s g t grows does kept h = ap units_of (does ∙ ap acts grows) ∙ sym (unit_ticks_is n s kept h)

pub keeps : (n : ℕ) (s g : Series) (t : Ticked) → g ≡ grown n s → t ≡ acts g → IsKept s → IfSome (due_of s) (λ due. n ≤ due)
    → IsKept t.new
keeps n s g t grows does kept h =
    subst (λ (u : Ticked). IsKept u.new) (sym (does ∙ ap acts grows)) (kept_later n s s.phase kept h)
