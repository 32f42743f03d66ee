-- What is told of a break of a rule: an object, or a sentence, each a line. This project's profile. Cited by what is
-- told of a line of a trace in a report.
use Rattle.std.specs.Prelude.{ℕ, List, [], ◌∷◌, codes, decimal, Option, Some, None}
use Rattle.std.specs.List.{concat}
use Rattle.link_frames.specs.Legs.{least_opening, muting_limit}
use Rattle.link_frames.specs.declared.frame.End.{End}
use Rattle.link_frames.specs.declared.frame.End.TheVariants as «end»
use Rattle.trace_model.specs.Rules.{rule_number}
use Rattle.trace_model.specs.declared.rule.Rule.{Rule}
use Rattle.trace_model.specs.declared.rule.Rule.TheVariants as rule
use Rattle.trace_text.specs.EntryLine.{end_word}
use Rattle.view_reports.specs.Fields.{number_field}
use Rattle.view_reports.specs.declared.breaks.Break.{Break}
use Rattle.view_reports.specs.declared.breaks.Break.TheVariants as broken

-- the rule that is broken
abbrev pub rule_of : Break → Rule
rule_of (broken.Unshown c) = rule.Agreed
rule_of (broken.Unopened e c muted) = rule.Opened
rule_of (broken.Soon e c opened) = rule.Bounded
rule_of (broken.Long e c muted) = rule.Bounded

-- the end at which it is broken: a set is acknowledged at the vehicle
abbrev pub end_of_break : Break → End
end_of_break (broken.Unshown c) = «end».Vehicle
end_of_break (broken.Unopened e c muted) = e
end_of_break (broken.Soon e c opened) = e
end_of_break (broken.Long e c muted) = e

abbrev pub call_of : Break → ℕ
call_of (broken.Unshown c) = c
call_of (broken.Unopened e c muted) = c
call_of (broken.Soon e c opened) = c
call_of (broken.Long e c muted) = c

-- for how many ticks the voice was muted
abbrev pub muted_of : Break → Option ℕ
muted_of (broken.Unopened e c muted) = Some muted
muted_of (broken.Long e c muted) = Some muted
muted_of _ = None

-- for how many ticks it was open
abbrev pub open_of : Break → Option ℕ
open_of (broken.Soon e c opened) = Some opened
open_of _ = None

-- the bound that is passed
abbrev pub bound_of : Break → Option ℕ
bound_of (broken.Soon e c opened) = Some least_opening
bound_of (broken.Long e c muted) = Some (muting_limit e)
bound_of _ = None

-- where a break is, at the front of its object
unfoldable pub break_head : (line tick : ℕ) → Break → List ℕ
break_head line tick b =
    concat (
    codes "{\"report\":\"break\",\"line\":" ∷ decimal line
    ∷ codes ",\"tick\":" ∷ decimal tick
    ∷ codes ",\"rule\":" ∷ decimal (rule_number (rule_of b))
    ∷ codes ",\"end\":\"" ∷ end_word (end_of_break b)
    ∷ codes "\",\"call\":" ∷ decimal (call_of b) ∷ []
    )

unfoldable pub break_object : (line tick : ℕ) → Break → List ℕ
break_object line tick b =
    concat (
    break_head line tick b
    ∷ number_field (codes ",\"muted\":") (codes "null") (muted_of b)
    ∷ number_field (codes ",\"open\":") (codes "null") (open_of b)
    ∷ number_field (codes ",\"bound\":") (codes "null") (bound_of b)
    ∷ codes "}\n" ∷ []
    )

-- the same at the front of its sentence
unfoldable pub break_place : (line tick : ℕ) → Break → List ℕ
break_place line tick b =
    concat (
    codes "line " ∷ decimal line
    ∷ codes ", tick " ∷ decimal tick
    ∷ codes ", rule " ∷ decimal (rule_number (rule_of b))
    ∷ codes ", " ∷ end_word (end_of_break b)
    ∷ codes ", call " ∷ decimal (call_of b) ∷ []
    )

-- what is wrong: the voice that must open isn't opened
unfoldable pub unopened_part : (muted : ℕ) → List ℕ
unopened_part muted =
    concat (codes ": the voice isn't opened, muted for " ∷ decimal muted ∷ codes " ticks\n" ∷ [])

-- a voice is muted too soon
unfoldable pub soon_part : (opened : ℕ) → List ℕ
soon_part opened =
    concat (
    codes ": the voice is muted, open for " ∷ decimal opened
    ∷ codes " ticks, least " ∷ decimal least_opening ∷ codes "\n" ∷ []
    )

-- a voice is muted for too long
unfoldable pub long_part : (muted most : ℕ) → List ℕ
long_part muted most =
    concat (
    codes ": the voice is muted for " ∷ decimal muted
    ∷ codes " ticks, most " ∷ decimal most ∷ codes "\n" ∷ []
    )

abbrev pub break_part : Break → List ℕ
break_part (broken.Unshown c) = codes ": a set is acknowledged that was not shown before\n"
break_part (broken.Unopened e c muted) = unopened_part muted
break_part (broken.Soon e c opened) = soon_part opened
break_part (broken.Long e c muted) = long_part muted (muting_limit e)

unfoldable pub break_sentence : (line tick : ℕ) → Break → List ℕ
break_sentence line tick b = concat (break_place line tick b ∷ break_part b ∷ [])
