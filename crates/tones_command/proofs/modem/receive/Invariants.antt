use Rattle.tones_command.proofs.Received.{ReceivedSoFar}
use Rattle.tones_command.proofs.modem.receive.Given as goal

abbrev pub invariant-loop-sample : goal.invariant-loop-sample
invariant-loop-sample l = ReceivedSoFar l.most l.initial.x l.x l.sample-index l.sent l.heard.items
