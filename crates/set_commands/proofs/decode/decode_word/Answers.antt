use Rattle.std.proofs.Common.{rules, ◌≡◌, Ok}
use Rattle.hex.specs.Hex.{decode_of}
use Rattle.line_input.specs.declared.reason.Reason.TheVariants as reason
use Rattle.set_commands.specs.Decode.{octets_in, some_octets}
use Rattle.set_commands.proofs.DecodeLines.{line_refused}
use Rattle.set_commands.proofs.WordsGiven.{no_hex, hex_read}
use Rattle.set_commands.proofs.decode.decode_word.Goals as goal

pub returns-in-Err-clause-takes : goal.returns-in-Err-clause-takes
returns-in-Err-clause-takes g c =
    line_refused (some_octets (octets_in (decode_of c.args.word.now))) c.args.number reason.Hex
    (g.O.Sink.held c.args.output.now) (g.O.Sink.held c.refuse_line.new.output)
    (no_hex c.args.word.now _ c.in-Err.field-0 _ (search rules) c.in-Err.ensures.value) c.refuse_line.result
    c.refuse_line.ensures.ends

pub returns-in-Ok-clause-takes : goal.returns-in-Ok-clause-takes
returns-in-Ok-clause-takes g c =
    let read : decode_of c.args.word.now ≡ Ok c.decode_to_slice.new.out =
    hex_read c.args.word.now _ c.decode_to_slice.new.out c.in-Ok.field-0 (search rules) c.in-Ok.ensures.value in
    rw read (search rules)
