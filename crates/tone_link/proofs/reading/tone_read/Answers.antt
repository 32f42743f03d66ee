use Rattle.tone_link.proofs.ToneLaws.{read_faint, read_noisy, read_once}
use Rattle.tone_link.proofs.reading.tone_read.Goals as goal

pub returns-clause-only : goal.returns-clause-only
returns-clause-only c answer reads = read_once c.args.samples.now c.read_block.result answer c.read_block.ensures reads

pub returns-clause-noisy : goal.returns-clause-noisy
returns-clause-noisy c f = read_noisy c.args.samples.now c.read_block.result f c.read_block.ensures

pub returns-clause-faint : goal.returns-clause-faint
returns-clause-faint c f = read_faint c.args.samples.now c.read_block.result f c.read_block.ensures
