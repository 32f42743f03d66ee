use Rattle.std.proofs.Common.{[], ◌++◌, ap, sym, ◌∙◌}
use Rattle.std.proofs.lemmas.Result.{on_ok_weaker}
use Rattle.trace_model.specs.History.{sends}
use Rattle.tones_command.specs.inner.Hearing.{frames_of}
use Rattle.tones_command.proofs.SentLemmas.{kept_grew, kept_same}
use Rattle.tones_command.proofs.sent.SentFrames.keep.Goals as goal

pub returns-in-Send : goal.returns-in-Send
returns-in-Send c =
    on_ok_weaker c.push.result
    (λ more. kept_grew c.args.self.now c.push.new.self c.args.entry.now
    (λ e k. more e k
    ∙ ap (λ n. frames_of e k c.args.self.now.calls.items ++ sends e k c.args.entry.now.tick n [])
    (sym c.in-Send.is))) c.push.ensures

pub returns-in_default : goal.returns-in_default
returns-in_default c = kept_same c.args.self.now c.args.entry.now c.in_default.not-Send
