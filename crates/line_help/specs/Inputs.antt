-- What the input of a command has on its lines. Cited by the contract of `Input::of_command`.
use Rattle.std.specs.Prelude.{ℕ, List, Option, Some, None, codes, if◌then◌else◌}
use Rattle.std.specs.Str.{bytes_eq}
use Rattle.line_help.specs.declared.input.Input.{Input}
use Rattle.line_help.specs.declared.input.Input.TheVariants as input

-- what the command of this name reads
abbrev pub input_of : List ℕ → Option Input
input_of name =
    if bytes_eq name (codes "run") then Some input.Script
    else if bytes_eq name (codes "register") then Some input.Script
    else if bytes_eq name (codes "tones") then Some input.Script
    else if bytes_eq name (codes "relay") then Some input.RelayScript
    else if bytes_eq name (codes "floor") then Some input.Floor
    else if bytes_eq name (codes "encode") then Some input.Facts
    else if bytes_eq name (codes "replay") then Some input.Trace
    else if bytes_eq name (codes "decode") then Some input.Octets
    else if bytes_eq name (codes "frames") then Some input.Octets
    else None
