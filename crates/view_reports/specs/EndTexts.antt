-- What is told of a call and of a set behind all lines: an object, or a sentence, each a line. This project's
-- profile. Cited by what is told at the end of a trace in a report.
use Rattle.std.specs.Prelude.{ℕ, ◌-◌, List, [], ◌∷◌, codes, decimal, Option, Some, None}
use Rattle.std.specs.List.{concat}
use Rattle.hex.specs.Hex.{encode_lower}
use Rattle.link_frames.specs.declared.note.Why.{Why}
use Rattle.trace_text.specs.EntryLine.{why_word}
use Rattle.view_reports.specs.Fields.{number_field}
use Rattle.view_reports.specs.declared.call.Call.{Call}
use Rattle.view_reports.specs.declared.handled.SetOf.{SetOf}
use Rattle.view_reports.specs.declared.side.Side.{Side}
use Rattle.view_reports.specs.declared.times.Times.{Times}

-- why a leg went down, at the end of its object
unfoldable pub why_field : Option Why → List ℕ
why_field None = codes ",\"why\":null}"
why_field (Some why) = concat (codes ",\"why\":\"" ∷ why_word why ∷ codes "\"}" ∷ [])

-- what a leg came to; the name stands with all that is in front of the object
unfoldable pub side_object : (name : List ℕ) → Side → List ℕ
side_object name side =
    concat (
    name
    ∷ number_field (codes "{\"up\":") (codes "null") side.came
    ∷ number_field (codes ",\"down\":") (codes "null") side.went
    ∷ why_field side.why ∷ []
    )

unfoldable pub call_head : ℕ → List ℕ
call_head number = concat (codes "{\"report\":\"call\",\"call\":" ∷ decimal number ∷ [])

unfoldable pub call_object : ℕ → Call → List ℕ
call_object number call =
    concat (
    call_head number
    ∷ side_object (codes ",\"vehicle\":") call.vehicle
    ∷ side_object (codes ",\"point\":") call.point
    ∷ codes "}\n" ∷ []
    )

-- why a leg went down, at the end of its part of a sentence
unfoldable pub why_part : Option Why → List ℕ
why_part None = []
why_part (Some why) = concat (codes ", " ∷ why_word why ∷ [])

-- what a leg came to
unfoldable pub side_part : (name : List ℕ) → Side → List ℕ
side_part name side =
    concat (
    name
    ∷ number_field (codes " up ") (codes "-") side.came
    ∷ number_field (codes ", down ") (codes "-") side.went
    ∷ why_part side.why ∷ []
    )

unfoldable pub call_place : ℕ → List ℕ
call_place number = concat (codes "call " ∷ decimal number ∷ [])

unfoldable pub call_sentence : ℕ → Call → List ℕ
call_sentence number call =
    concat (
    call_place number
    ∷ side_part (codes ": vehicle") call.vehicle
    ∷ side_part (codes "; point") call.point
    ∷ codes "\n" ∷ []
    )

-- behind how many ticks a set was acknowledged, where it was sent and acknowledged
abbrev pub ticks_between : (sent acked : Option ℕ) → Option ℕ
ticks_between None acked = None
ticks_between (Some sent) None = None
ticks_between (Some sent) (Some acked) = Some (acked - sent)

unfoldable pub set_head : SetOf → List ℕ
set_head set =
    concat (
    codes "{\"report\":\"set\",\"call\":" ∷ decimal set.call
    ∷ codes ",\"request\":" ∷ decimal set.request ∷ []
    )

-- the octets of a set, at the end of its object
unfoldable pub octets_field : List ℕ → List ℕ
octets_field octets = concat (codes ",\"octets\":\"" ∷ encode_lower octets ∷ codes "\"}\n" ∷ [])

unfoldable pub set_object : SetOf → Times → List ℕ
set_object set times =
    concat (
    set_head set
    ∷ number_field (codes ",\"sent\":") (codes "null") times.sent
    ∷ number_field (codes ",\"shown\":") (codes "null") times.shown
    ∷ number_field (codes ",\"acked\":") (codes "null") times.acked
    ∷ number_field (codes ",\"ticks\":") (codes "null") (ticks_between times.sent times.acked)
    ∷ octets_field set.octets ∷ []
    )

unfoldable pub set_place : SetOf → List ℕ
set_place set = concat (codes "call " ∷ decimal set.call ∷ codes ", request " ∷ decimal set.request ∷ [])

unfoldable pub times_part : Times → List ℕ
times_part times =
    concat (
    number_field (codes ": sent ") (codes "-") times.sent
    ∷ number_field (codes ", shown ") (codes "-") times.shown
    ∷ number_field (codes ", acknowledged ") (codes "-") times.acked
    ∷ number_field (codes ", ticks ") (codes "-") (ticks_between times.sent times.acked) ∷ []
    )

unfoldable pub set_sentence : SetOf → Times → List ℕ
set_sentence set times = concat (set_place set ∷ times_part times ∷ codes "\n" ∷ [])
