use Rattle.view_traces.proofs.TellingLemmas.{line_put, tick_kept}
use Rattle.view_traces.proofs.telling.TraceLinesLineTeller.put_line.Goals as goal

pub returns : goal.returns
returns c = λ before whole stands counts kept. (
  line_put before whole c.args.line.now c.args.self.now.tick c.args.number c.judge_line-judged.result stands kept
      c.judge_line-judged.ensures c.args.text.now.items c.put_told.new.text.items c.in_ok-refused.refused counts
      c.in_ok-refused.ensures,
  tick_kept before whole c.args.line.now c.args.self.now.tick c.args.number c.judge_line-judged.result stands kept
      c.judge_line-judged.ensures c.tick_after-self.result c.tick_after-self.ensures,
)
