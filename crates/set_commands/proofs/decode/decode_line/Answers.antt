use Rattle.std.proofs.Common.{ap, sym, refl, Some}
use Rattle.line_input.specs.Words.{only_word_of, words}
use Rattle.line_input.specs.declared.reason.Reason.TheVariants as reason
use Rattle.set_commands.specs.Decode.{octets_of_word, some_octets}
use Rattle.set_commands.proofs.DecodeLines.{at_place, line_refused}
use Rattle.set_commands.proofs.WordsGiven.{short_word}
use Rattle.set_commands.proofs.decode.decode_line.Goals as goal

pub returns-in-Some-clause-takes : goal.returns-in-Some-clause-takes
returns-in-Some-clause-takes g c =
    at_place c.args.line.now c.text.result.now c.number.result _ (g.O.Sink.held c.args.output.now)
    (g.O.Sink.held c.decode_word.new.output) c.decode_word.result c.text.ensures.text c.number.ensures
    c.text.ensures.line (ap (λ word. some_octets (octets_of_word word)) (sym (c.in-Some.ensures {u = tt})))
    c.decode_word.ensures.takes

pub returns-in-None-clause-takes : goal.returns-in-None-clause-takes
returns-in-None-clause-takes g c =
    at_place c.args.line.now c.text.result.now c.number-in-None.result
    (some_octets (octets_of_word (only_word_of (words c.text.result.now)))) (g.O.Sink.held c.args.output.now)
    (g.O.Sink.held c.refuse_line.new.output) (Some c.refuse_line.result) c.text.ensures.text c.number-in-None.ensures
    c.text.ensures.line refl
    (line_refused (some_octets (octets_of_word (only_word_of (words c.text.result.now)))) c.number-in-None.result
    reason.Count (g.O.Sink.held c.args.output.now) (g.O.Sink.held c.refuse_line.new.output)
    (ap (λ word. some_octets (octets_of_word word)) (sym (c.in-None.ensures {u = tt}))) c.refuse_line.result
    c.refuse_line.ensures.ends)

pub decode_word-requires : goal.decode_word-requires
decode_word-requires g c =
    short_word c.text.result.now c.in-Some.word.now c.text.ensures.line.0 (c.in-Some.ensures {u = tt})
