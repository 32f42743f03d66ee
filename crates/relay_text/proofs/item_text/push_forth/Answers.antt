use Rattle.std.proofs.Common.{◌∷◌, [], codes, decimal}
use Rattle.hex.specs.Hex.{encode_lower}
use Rattle.line_input.specs.Characters.{space}
use Rattle.trace_text.specs.EntryLine.{spaced}
use Rattle.relay_text.proofs.Behind.{behind}
use Rattle.relay_text.proofs.item_text.push_forth.Goals as goal

pub returns-clause-bytes : goal.returns-clause-bytes
returns-clause-bytes c =
    behind c.args.line.now.items c.push_word.new.line.items c.push_message.new.line.items (space ∷ codes "send")
    (spaced (codes "forth" ∷ decimal c.args.desk ∷ decimal c.args.call ∷ decimal c.args.request
    ∷ encode_lower c.args.octets.now ∷ []))
    c.push_word.ensures.bytes c.push_message.ensures.bytes
