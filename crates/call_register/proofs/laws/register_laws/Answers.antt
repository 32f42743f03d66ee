use Rattle.std.proofs.Common.{sym}
use Rattle.msd_codec.proofs.SetLaws.{shows_read, stops_read}
use Rattle.msd_codec.specs.Trees.{tree}
use Rattle.call_register.proofs.PlainLemmas.{quoted-hexadecimal, quoted-vin}
use Rattle.call_register.proofs.VinLemmas.{vin_of_read, vin_of-refused}
use Rattle.call_register.proofs.laws.register_laws.Goals as goal

pub returns-clause-shown : goal.returns-clause-shown
returns-clause-shown c = λ octets msd shows. vin_of_read octets msd (sym (shows_read octets (tree msd) shows))

pub returns-clause-stopped : goal.returns-clause-stopped
returns-clause-stopped c = λ octets refusal stops. vin_of-refused octets refusal (sym (stops_read octets refusal stops))

pub returns-clause-digits : goal.returns-clause-digits
returns-clause-digits c = quoted-hexadecimal

pub returns-clause-number : goal.returns-clause-number
returns-clause-number c = quoted-vin
