use Rattle.std.proofs.Common.{[], ◌++◌, ap, ◌∙◌}
use Rattle.std.proofs.lemmas.Result.{on_ok_weaker}
use Rattle.link_frames.specs.declared.note.Note.TheVariants as note
use Rattle.trace_model.specs.History.{sends}
use Rattle.tones_command.proofs.SentLemmas.{call_more}
use Rattle.tones_command.proofs.sent.SentFrames.push.Goals as goal

pub returns : goal.returns
returns c =
    on_ok_weaker c.push.result
    (λ more e k.
    call_more e c.args.end k c.args.call c.args.tick c.args.frame.now c.reach.new.self.calls.items
    c.index_mut.result.now c.push.new.self c.in_ok-reach.ensures.place c.index_mut.ensures.value more
    ∙ ap (λ l. l ++ sends e k c.args.tick (note.Send c.args.end c.args.call c.args.frame.now) [])
    (c.in_ok-reach.ensures.same e k)) c.push.ensures
