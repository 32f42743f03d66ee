use Rattle.std.proofs.Common.{sym, ◌∙◌}
use Rattle.std.proofs.lemmas.Str.{IsUtf8-from_ascii}
use Rattle.line_input.proofs.NumberLemmas.{IsAscii-digits, positive-from_parse}
use Rattle.line_input.proofs.numbers.read_digits.Goals as goal

pub from_utf8_unchecked-digits-requires : goal.from_utf8_unchecked-digits-requires
from_utf8_unchecked-digits-requires c =
    IsUtf8-from_ascii c.args.text.now (IsAscii-digits c.args.text.now (sym c.are_digits.ensures ∙ c.if-not-are_digits.false))

pub returns : goal.returns
returns c =
    rw (c.ok.ensures.value, ← c.from_utf8_unchecked-digits.ensures) (positive-from_parse 64 c.from_utf8_unchecked-digits.result.now _ (rw c.from_utf8_unchecked-digits.ensures c.requires) c.parse.ensures.value.0)
