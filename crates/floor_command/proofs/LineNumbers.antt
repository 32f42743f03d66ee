-- A line that stands behind a number stands behind that of a vehicle.
use Rattle.std.specs.Prelude.{◌≡◌, ℕ, ◌+◌, ◌<◌, ◌≤◌, ◌&&◌, nat_lt, Bool, true, false, cond, List, [], ◌∷◌, Option, Some, None, Result, Ok, Err, IfOk, IfSome}
use Rattle.std.proofs.Common.{refl, sym, subst, arith, ◌∙◌}
use Rattle.std.proofs.lemmas.Bool.{ltb-true}
use Rattle.line_input.proofs.NumberLemmas.{first_true, second_true, number_of-plain}
use Rattle.line_input.specs.Numbers.{is_plain_number, number_of}
use Rattle.line_input.specs.Words.{words}
use Rattle.line_input.specs.declared.reason.Reason.{Reason}
use Rattle.line_input.specs.declared.reason.Reason.TheVariants as reason
use Rattle.trace_text.specs.Script.{line_by_word}
use Rattle.trace_text.specs.declared.script.ScriptLine.{ScriptLine}
use Rattle.floor_text.specs.VehicleLines.{floor_by_words, floor_line, is_for_vehicle, may_follow, may_stand_alone, numbered, own_by_words, shared_line}
use Rattle.floor_text.specs.VehicleNumbers.{IsVehicle, vehicle_number}
use Rattle.floor_text.specs.declared.line.NumberedLine.{NumberedLine}

abbrev pub HasVehicle : NumberedLine → Type 0
HasVehicle l = IfSome l.vehicle IsVehicle

vehicle_number-range : (text : List ℕ) → IfSome (vehicle_number text) IsVehicle
vehicle_number-range text = by_test (is_plain_number text && nat_lt (number_of text) 65) refl
  where
    by_test : (b : Bool) → (is_plain_number text && nat_lt (number_of text) 65) ≡ b
        → IfSome (cond b (Some (number_of text)) None) IsVehicle
    by_test true test =
        let low = number_of-plain text (first_true (is_plain_number text) (nat_lt (number_of text) 65) test) in
        let high : number_of text < 65 =
        ltb-true (number_of text) 65 (second_true (is_plain_number text) (nat_lt (number_of text) 65) test) in
        (low, omega (arith, high))
    by_test false test = tt

numbered-range : (v : Option ℕ) (r : Result ScriptLine Reason) → IfSome v IsVehicle → IfOk (numbered v r) HasVehicle
numbered-range v (Ok says) is = is
numbered-range v (Err why) is = tt

if_may : (b : Bool) (v : Option ℕ) (r : Result ScriptLine Reason) → IfSome v IsVehicle
    → IfOk (cond b (numbered v r) (Err reason.Word)) HasVehicle
if_may true v r is = numbered-range v r is
if_may false v r is = tt

own-range : (v : Option ℕ) (rest : List (List ℕ)) → IfSome v IsVehicle → IfOk (own_by_words v rest) HasVehicle
own-range v [] is = tt
own-range None (first ∷ rest) is = tt
own-range (Some v) (first ∷ rest) is = if_may (may_follow first rest) (Some v) (line_by_word first rest) is

by_words : (ws : List (List ℕ)) → IfOk (floor_by_words ws) HasVehicle
by_words [] = tt
by_words (first ∷ rest) = by_test (is_for_vehicle first)
  where
    by_test : (b : Bool)
        → IfOk (cond b (own_by_words (vehicle_number first) rest) (shared_line first rest)) HasVehicle
    by_test true = own-range (vehicle_number first) rest (vehicle_number-range first)
    by_test false = if_may (may_stand_alone first rest) None (line_by_word first rest) tt

pub line_number : (text : List ℕ) → IfOk (floor_line text) HasVehicle
line_number text = by_words (words text)
