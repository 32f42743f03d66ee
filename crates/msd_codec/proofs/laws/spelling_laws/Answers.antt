use Rattle.msd_codec.proofs.BothFormats as both
use Rattle.msd_codec.proofs.SetLaws as laws
use Rattle.msd_codec.proofs.CanonicalBits as bits
use Rattle.msd_codec.specs.Trees.{tree}
use Rattle.msd_codec.proofs.laws.spelling_laws.Goals as goal

pub returns-clause-no_prefix : goal.returns-clause-no_prefix
returns-clause-no_prefix c = both.no_prefix

pub returns-clause-one_value : goal.returns-clause-one_value
returns-clause-one_value c = both.one_value

pub returns-clause-module : goal.returns-clause-module
returns-clause-module c = both.module_is

pub returns-clause-shown : goal.returns-clause-shown
returns-clause-shown c = laws.canonical_shows

pub returns-clause-canonical : goal.returns-clause-canonical
returns-clause-canonical c = laws.canonical_one

pub returns-clause-again : goal.returns-clause-again
returns-clause-again c = λ octets v w. laws.read_again octets (tree v) (tree w)

pub returns-clause-one_shown : goal.returns-clause-one_shown
returns-clause-one_shown c = laws.one_shown

pub returns-clause-one_stop : goal.returns-clause-one_stop
returns-clause-one_stop c = laws.one_stop

pub returns-clause-decided : goal.returns-clause-decided
returns-clause-decided c = laws.decided

pub returns-clause-apart : goal.returns-clause-apart
returns-clause-apart c = laws.apart

pub returns-clause-one_text : goal.returns-clause-one_text
returns-clause-one_text c = laws.one_text

pub returns-clause-spelled : goal.returns-clause-spelled
returns-clause-spelled c = bits.canonical_is

pub returns-clause-octets : goal.returns-clause-octets
returns-clause-octets c = bits.octets_are

pub returns-clause-read : goal.returns-clause-read
returns-clause-read c = laws.read_exactly

pub returns-clause-refused : goal.returns-clause-refused
returns-clause-refused c = laws.refused_exactly
