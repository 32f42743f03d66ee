use Rattle.std.proofs.Common.{ℕ, List, ◌-◌, ◌++◌, ap, ◌∙◌, take, length, arith}
use Rattle.std.specs.Prelude.{◌==◌, min}
use Rattle.std.specs.List.{slice_range, position_or_len}
use Rattle.line_input.specs.Giving.{run_of}
use Rattle.line_input.specs.inner.Held.{Held}
use Rattle.line_input.proofs.FeedLemmas.{GivesRun-range, run_is}
use Rattle.line_input.proofs.block.Block.put_run.Goals as goal

pub returns-clause-run : goal.returns-clause-run
returns-clause-run c =
    let feed = c.self.inside in
    let pending = slice_range feed.block feed.at feed.«end» in
    let most = c.min-most.ensures ∙ ap (λ n. min (512 - n) (16777216 - feed.given)) c.len-room.ensures.value in
    rw (← c.self.view_is) (GivesRun-range feed.block feed.at feed.«end» feed.given c.run_len-len.result (512 - length c.args.text.now.items) feed.ended c.self.invariant.0 (omega arith) c.run_len-len.ensures.within
    (c.run_len-len.ensures.place ∙ ap (λ n. position_or_len (λ b. b == 10) (take n pending)) most))

pub returns-clause-text : goal.returns-clause-text
returns-clause-text c =
    let feed = c.self.inside in
    let pending = slice_range feed.block feed.at feed.«end» in
    let room = 512 - length c.args.text.now.items in
    let most = c.min-most.ensures ∙ ap (λ n. min (512 - n) (16777216 - feed.given)) c.len-room.ensures.value in
    let run = run_is feed.block feed.at feed.«end» feed.given c.run_len-len.result room feed.ended c.self.invariant.0 (omega arith)
    (c.run_len-len.ensures.place ∙ ap (λ n. position_or_len (λ b. b == 10) (take n pending)) most) in
    (rw c.unwrap.ensures at c.try_extend_from_slice.ensures.ok)
    ∙ ap (λ (l : List ℕ). c.args.text.now.items ++ l) (run ∙ ap (λ (h : Held). run_of h.feed room) c.self.view_is)
