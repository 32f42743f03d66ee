use Rattle.live_link.proofs.LiveRuns.{all_safe, earlier_safe}
use Rattle.live_link.proofs.laws.joint_is_safe.Goals as goal

pub returns : goal.returns
returns c = record { safe = all_safe; earlier = earlier_safe }
