use Rattle.msd_codec.proofs.TextNumbers.{text_put}
use Rattle.msd_codec.proofs.writing.texts.write_text.Goals as goal

pub returns : goal.returns
returns c = text_put c.args.piece.now c.number_of.result c.args.to.now c.put.new.self c.put.result c.requires.pass c.number_of.ensures.value c.put.ensures.ok c.put.ensures.full
