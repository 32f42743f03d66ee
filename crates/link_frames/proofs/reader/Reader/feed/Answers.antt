-- What the stage says is what the piece makes of the reader, and a piece makes one thing of it.
use Rattle.std.proofs.Common.{◌≡◌, ◌∙◌, None, Ok, Err, sym, ap, subst}
use Rattle.link_frames.specs.FrameOctets.{IsFrameFront}
use Rattle.link_frames.specs.Reading.{Reading}
use Rattle.link_frames.specs.Stages.{kept, fault_at}
use Rattle.link_frames.proofs.FeedLemmas.{feeds_err, feeds_ok, feeds_some, keeps_front, not_stopped, reading_at}
use Rattle.link_frames.proofs.StreamLemmas.{feeds_once}
use Rattle.link_frames.proofs.reader.Reader.feed.Goals as goal

pub returns-in-Some-fault-clause-fed : goal.returns-in-Some-fault-clause-fed
returns-in-Some-fault-clause-fed c = rw (← c.self.view_is) (λ going.
    feeds_err (reading_at c.self.inside.octets c.self.inside.stage c.self.inside.taken) c.take_piece-stage.new.octets
    c.args.piece.now c.take_piece-stage.result.1 c.take_piece-stage.result.0 c.in-Some-fault.fault
    c.take_piece-stage.ensures.request c.take_piece-stage.ensures.comes (sym c.fault-2.ensures ∙ c.in-Some-fault.is))

pub returns-in-Some-fault-clause-only : goal.returns-in-Some-fault-clause-only
returns-in-Some-fault-clause-only c = λ going answer new feeds.
    feeds_once c.args.self.now c.args.piece.now (Err c.in-Some-fault.fault) answer _ new
    (returns-in-Some-fault-clause-fed c going) feeds

pub returns-in-None-clause-fed : goal.returns-in-None-clause-fed
returns-in-None-clause-fed c = rw (← c.self.view_is) (λ going.
    feeds_ok (reading_at c.self.inside.octets c.self.inside.stage c.self.inside.taken) c.take_piece-stage.new.octets
    c.args.piece.now c.take_piece-stage.result.1 c.take_piece-stage.result.0 c.take_piece-stage.array_long
    c.take_piece-stage.ensures.request
    c.take_piece-stage.ensures.filled c.take_piece-stage.ensures.bound c.take_piece-stage.ensures.ends
    c.take_piece-stage.ensures.comes (sym c.fault-2.ensures ∙ c.in-None.is))

pub returns-in-None-clause-only : goal.returns-in-None-clause-only
returns-in-None-clause-only c = λ going answer new feeds.
    feeds_once c.args.self.now c.args.piece.now (Ok c.take_piece-stage.result.1) answer _ new
    (returns-in-None-clause-fed c going) feeds

pub returns-in-None-clause-some : goal.returns-in-None-clause-some
returns-in-None-clause-some c = λ some.
    let none : fault_at c.self.inside.taken c.self.inside.stage ≡ None =
    ap (λ (r : Reading). r.fault) c.self.view_is ∙ sym c.in_default.ensures in
    let begun : IsFrameFront (kept c.self.inside.octets c.self.inside.stage) =
    keeps_front c.self.inside.octets c.self.inside.stage c.self.invariant.2 c.self.invariant.0 c.self.invariant.1
    (not_stopped c.self.inside.taken c.self.inside.stage none) in
    feeds_some c.args.self.now _ c.args.piece.now c.take_piece-stage.result.1
    (subst (λ (r : Reading). IsFrameFront r.kept) c.self.view_is begun)
    (returns-in-None-clause-fed c (sym c.in_default.ensures)) some
