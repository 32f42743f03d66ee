-- The text of a script that is made, line by line and call by call.
use Rattle.std.proofs.Common.{◌≡◌, ℕ, ◌+◌, ◌-◌, ◌≤◌, zero, suc, Option, List, [], ◌∷◌, ◌++◌, refl, sym, ap, subst, ◌∙◌, append_assoc, arith}
use Rattle.std.proofs.lemmas.List.{append-nil}
use Rattle.call_io.specs.Bytes.{Grew, GrewPartly}
use Rattle.call_io.proofs.BytesLemmas.{Grew-append, GrewPartly-after, GrewPartly-longer}
use Rattle.script_commands.specs.declared.make.CallTimes.{CallTimes}
use Rattle.script_commands.specs.Make.{behind_call, call_lines, call_times, fact_lines, lines_of_calls, made_script, most_made, text_of_lines, x_behind}
use Rattle.script_commands.specs.inner.Made.{AppendsLine, text_of_call}

-- ---- line by line

pub text_of_lines-append : (a b : List (List ℕ)) → text_of_lines (a ++ b) ≡ text_of_lines a ++ text_of_lines b
text_of_lines-append [] b = refl
text_of_lines-append (line ∷ a) b =
    ap (λ (t : List ℕ). line ++ 10 ∷ t) (text_of_lines-append a b)
    ∙ sym (append_assoc line (10 ∷ text_of_lines a) (text_of_lines b))

-- this text is the text of these lines
pub record AreLines (text : List ℕ) (lines : List (List ℕ)) : Type 0 where
  pub says : text ≡ text_of_lines lines

pub no_lines : (text : List ℕ) → text ≡ [] → AreLines text []
no_lines text none = record { says = none }

-- one line more
pub line_more : {old new line : List ℕ} {lines : List (List ℕ)} → AreLines old lines → AppendsLine old new line
    → AreLines new (lines ++ line ∷ [])
line_more {old} {new} {line} {lines} before one = record {
  says =
      one.says
      ∙ ap (λ (t : List ℕ). t ++ (line ++ 10 ∷ [])) before.says
      ∙ sym (text_of_lines-append lines (line ∷ []));
}

-- ---- call by call

pub x_behind-none : (seed : ℕ) → x_behind seed 0 ≡ seed
unfolding x_behind
x_behind-none seed = refl

-- the script up to so many calls
pub script_so_far : (seed calls : ℕ) → List ℕ
script_so_far seed calls = text_of_lines (fact_lines ++ lines_of_calls seed calls)

pub script_so_far-none : (seed : ℕ) → text_of_lines fact_lines ≡ script_so_far seed 0
unfolding script_so_far lines_of_calls
script_so_far-none seed = refl

pub script_so_far-all : (seed : ℕ) → script_so_far seed most_made ≡ made_script seed
unfolding script_so_far made_script
script_so_far-all seed = refl

script_so_far-suc : (seed calls : ℕ)
    → script_so_far seed (suc calls)
    ≡ script_so_far seed calls ++ text_of_call (calls + 1) (call_times (x_behind seed calls))
unfolding script_so_far lines_of_calls text_of_call
script_so_far-suc seed calls =
    ap text_of_lines (sym (append_assoc fact_lines (lines_of_calls seed calls)
    (call_lines (calls + 1) (call_times (x_behind seed calls)))))
    ∙ text_of_lines-append (fact_lines ++ lines_of_calls seed calls)
    (call_lines (calls + 1) (call_times (x_behind seed calls)))

-- a text that another begins with
record Begins (a b : List ℕ) : Type 0 where
  rest : List ℕ
  whole : a ++ rest ≡ b

-- the script up to some calls is a front of it up to more
begins_more : (seed calls more : ℕ) → Begins (script_so_far seed calls) (script_so_far seed (calls + more))
begins_more seed calls zero =
    record { rest = []; whole = append-nil (script_so_far seed calls) ∙ ap (script_so_far seed) (omega arith) }
begins_more seed calls (suc more) =
    let fewer = begins_more seed calls more in
    let one = text_of_call (calls + more + 1) (call_times (x_behind seed (calls + more))) in
    record {
      rest = fewer.rest ++ one;
      whole =
          sym (append_assoc (script_so_far seed calls) fewer.rest one)
          ∙ ap (λ (t : List ℕ). t ++ one) fewer.whole
          ∙ sym (script_so_far-suc seed (calls + more))
          ∙ ap (script_so_far seed) (omega arith);
    }

begins_script : (seed calls : ℕ) → calls ≤ most_made → Begins (script_so_far seed calls) (made_script seed)
begins_script seed calls most =
    let e : calls + (most_made - calls) ≡ most_made = omega arith in
    subst (Begins (script_so_far seed calls)) (ap (script_so_far seed) e ∙ script_so_far-all seed)
    (begins_more seed calls (most_made - calls))

partly_script : (old new : Option (List ℕ)) (seed calls : ℕ) → calls ≤ most_made
    → GrewPartly old new (script_so_far seed calls) → GrewPartly old new (made_script seed)
partly_script old new seed calls most partly =
    let begins : Begins (script_so_far seed calls) (made_script seed) = begins_script seed calls most in
    subst (λ (t : List ℕ). GrewPartly old new t) begins.whole
    (GrewPartly-longer old new (script_so_far seed calls) begins.rest partly)

-- a part of the facts is a part of the script
pub partly_facts : (old new : Option (List ℕ)) (seed : ℕ) → GrewPartly old new (text_of_lines fact_lines)
    → GrewPartly old new (made_script seed)
partly_facts old new seed partly =
    partly_script old new seed 0 (omega arith)
    (subst (λ (t : List ℕ). GrewPartly old new t) (script_so_far-none seed) partly)

-- the facts are the script's first lines
pub facts_written : (old new : Option (List ℕ)) (seed : ℕ) → Grew old new (text_of_lines fact_lines)
    → Grew old new (script_so_far seed 0)
facts_written old new seed grew = subst (λ (t : List ℕ). Grew old new t) (script_so_far-none seed) grew

-- and all calls are its last
pub script_written : (old new : Option (List ℕ)) (seed calls : ℕ) → calls ≡ most_made
    → Grew old new (script_so_far seed calls) → Grew old new (made_script seed)
script_written old new seed calls all grew =
    subst (λ (t : List ℕ). Grew old new t) (ap (script_so_far seed) all ∙ script_so_far-all seed) grew

-- the script up to one call more, by the times that were drawn for it
one_more : (seed calls x : ℕ) (times : CallTimes) → x ≡ x_behind seed calls → times ≡ call_times x
    → script_so_far seed calls ++ text_of_call (calls + 1) times ≡ script_so_far seed (calls + 1)
one_more seed calls x times is drawn =
    ap (λ (t : CallTimes). script_so_far seed calls ++ text_of_call (calls + 1) t) (drawn ∙ ap call_times is)
    ∙ sym (script_so_far-suc seed calls)
    ∙ ap (script_so_far seed) (omega arith)

-- one call more
pub call_written : (old mid new : Option (List ℕ)) (seed calls : ℕ) (times : CallTimes) (x : ℕ)
    → x ≡ x_behind seed calls → times ≡ call_times x
    → Grew old mid (script_so_far seed calls)
    → Grew mid new (text_of_call (calls + 1) times)
    → Grew old new (script_so_far seed (calls + 1))
call_written old mid new seed calls times x is drawn before one =
    subst (λ (t : List ℕ). Grew old new t) (one_more seed calls x times is drawn)
    (Grew-append old mid new (script_so_far seed calls) (text_of_call (calls + 1) times) before one)

-- a part of one call more
pub call_cut : (old mid new : Option (List ℕ)) (seed calls : ℕ) (times : CallTimes) (x : ℕ) → calls + 1 ≤ most_made
    → x ≡ x_behind seed calls → times ≡ call_times x
    → Grew old mid (script_so_far seed calls)
    → GrewPartly mid new (text_of_call (calls + 1) times)
    → GrewPartly old new (made_script seed)
call_cut old mid new seed calls times x most is drawn before part =
    partly_script old new seed (calls + 1) most
    (subst (λ (t : List ℕ). GrewPartly old new t) (one_more seed calls x times is drawn)
    (GrewPartly-after old mid new (script_so_far seed calls) (text_of_call (calls + 1) times) before part))

x_behind-suc : (seed calls : ℕ) → x_behind seed (suc calls) ≡ behind_call (x_behind seed calls)
unfolding x_behind
x_behind-suc seed calls = refl

-- where the draws stand behind one call more
pub x_behind-more : (seed calls x y : ℕ) → x ≡ x_behind seed calls → y ≡ behind_call x → y ≡ x_behind seed (calls + 1)
x_behind-more seed calls x y is more =
    more ∙ ap behind_call is ∙ sym (x_behind-suc seed calls) ∙ ap (x_behind seed) (omega arith)
