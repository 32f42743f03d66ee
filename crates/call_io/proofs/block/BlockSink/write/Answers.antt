use Rattle.std.proofs.Common.{◌≡◌, ◌∙◌, ap, take, length, ◌≤◌, arith}
use Rattle.std.specs.Io.KnownBytes.{append_known}
use Rattle.call_io.specs.Blocks.{held}
use Rattle.call_io.proofs.BlockLemmas.{held-more}
use Rattle.call_io.proofs.block.BlockSink.write.Goals as goal
use Rattle.call_io.proofs.block.BlockSink.write.Goals.{then-self-eq-ROOM+in_ok-empty, else-self-eq-ROOM}

pub returns-clause-bytes : goal.returns-clause-bytes
returns-clause-bytes g c =
    let same : held g.O.Sink.held c.if-self-eq-ROOM.self ≡ held g.O.Sink.held c.args.self.now =
    elim c.if-self-eq-ROOM.branch [
      | then-self-eq-ROOM+in_ok-empty w ↦ ap (held g.O.Sink.held) w.self-is ∙ w.empty.ensures.held
      | else-self-eq-ROOM w ↦ ap (held g.O.Sink.held) w.self-is
    ] in
    let order : c.if-self-eq-ROOM.self.start ≤ c.if-self-eq-ROOM.self.end = c.if-self-eq-ROOM.self.in_order in
    let within : c.if-self-eq-ROOM.self.end ≤ length c.if-self-eq-ROOM.self.bytes = omega arith in
    held-more _ _ _ _ _ _ _ order within c.put-n.ensures.behind
    ∙ ap (λ told. append_known told (take c.put-n.result c.args.piece.now)) same
