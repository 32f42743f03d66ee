use Rattle.std.proofs.Common.{ap, sym, ◌∙◌, Some}
use Rattle.tone_link.proofs.FrameFed.{all_taken, part_taken}
use Rattle.tone_link.proofs.reading.whole_frame.Goals as goal

pub returns-then-count-octets : goal.returns-then-count-octets
returns-then-count-octets c =
    let k = c.new-reader.ensures in part_taken c.args.octets.now c.in-Ok.count c.new-reader.result c.feed.new.self (ap (λ r. r.kept) k) (c.in-Ok.ensures.fed (ap (λ r. r.fault) k)) c.if-count-octets.true

pub returns-in-Some : goal.returns-in-Some
returns-in-Some c =
    let k = c.new-reader.ensures in
    all_taken c.args.octets.now c.in-Ok.count c.new-reader.result c.feed.new.self c.own.result (ap (λ r. r.kept) k) (c.in-Ok.ensures.fed (ap (λ r. r.fault) k))
    c.if-count-octets.false (sym c.in-Some.ensures ∙ ap (λ f. Some f) (sym c.own.ensures))
