-- The words of a line that are one of a few. This project's profile. Cited by the definitions of the lines of a script,
-- of a trace and of `encode`.
use Rattle.std.specs.Prelude.{ℕ, Bool, true, false, List, codes, Option, Some, None, if◌then◌else◌}
use Rattle.std.specs.Str.{bytes_eq}
use Rattle.link_frames.specs.declared.frame.End.{End}
use Rattle.link_frames.specs.declared.frame.End.TheVariants as «end»
use Rattle.msd_values.specs.declared.format.Format.{Format}
use Rattle.msd_values.specs.declared.format.Format.TheVariants as format
use Rattle.msd_fit.specs.declared.cause.Cause.{Cause}
use Rattle.msd_fit.specs.declared.cause.Cause.TheVariants as cause

-- `up` or `down`
abbrev pub direction : List ℕ → Option Bool
direction text =
    if bytes_eq text (codes "up") then Some true else if bytes_eq text (codes "down") then Some false else None

-- `vehicle` or `point`
abbrev pub end_of : List ℕ → Option End
end_of text =
    if bytes_eq text (codes "vehicle") then Some «end».Vehicle
    else if bytes_eq text (codes "point") then Some «end».Point
    else None

-- `yes` or `no`
abbrev pub yes_or_no : List ℕ → Option Bool
yes_or_no text =
    if bytes_eq text (codes "yes") then Some true else if bytes_eq text (codes "no") then Some false else None

-- the format of a set of data, by its number
abbrev pub format_choice : List ℕ → Option Format
format_choice text =
    if bytes_eq text (codes "1") then Some format.One else if bytes_eq text (codes "2") then Some format.Two else None

-- what triggered a call
abbrev pub cause_of : List ℕ → Option Cause
cause_of text =
    if bytes_eq text (codes "auto") then Some cause.Auto
    else if bytes_eq text (codes "manual") then Some cause.Manual
    else if bytes_eq text (codes "test") then Some cause.Test
    else None
