-- The numbers of the rules by which a trace is safe. This project's profile. Cited by `Rule::number`, and by the line
-- that says which rule a trace breaks.
use Rattle.std.specs.Prelude.{ℕ}
use Rattle.trace_model.specs.declared.rule.Rule.{Rule}
use Rattle.trace_model.specs.declared.rule.Rule.TheVariants as rule

-- the number by which a reply names a rule
abbrev pub rule_number : Rule → ℕ
rule_number rule.Agreed = 1
rule_number rule.Opened = 2
rule_number rule.Bounded = 3
