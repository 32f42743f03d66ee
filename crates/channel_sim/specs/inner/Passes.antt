-- How often the session of a call is passed. Cited by the private functions on the calls of a `World` alone.
use Rattle.std.specs.Prelude.{ℕ, Option, if◌then◌else◌}
use Rattle.std.specs.Option.{is_some}
use Rattle.psap_machine.specs.Point.{Point}

-- once, where there is a session
abbrev pub once_if : Option Point → ℕ
once_if o = if is_some o then 1 else 0
