use Rattle.std.proofs.Common.{refl, sym, ◌∙◌, ap, arith, Some, ◌≤◌, ◌<◌}
use Rattle.link_parts.proofs.PartLemmas.{may_feed, says_wrong, says_more, says_whole}
use Rattle.link_parts.proofs.part_reader.PartReader.frame.Goals as goal

pub feed-requires : goal.feed-requires
feed-requires c = may_feed c.args.self.now.reader c.requires.going

pub returns-in-Err : goal.returns-in-Err
returns-in-Err c =
    says_wrong c.args.self.now.reader c.feed.new.self c.args.a c.args.b c.args.c c.args.d c.args.octet c.in-Err.fault _ _
    refl (c.in-Err.ensures.fed c.requires.going.going)

pub returns-in-None : goal.returns-in-None
returns-in-None c =
    says_more c.args.self.now.reader c.feed.new.self c.args.a c.args.b c.args.c c.args.d c.args.octet c.in-Ok.field-0 _
    c.requires.going (ap (λ z. record { stage = z; reader = c.feed.new.self }) c.requires.stage)
    (sym c.in-None.ensures) (c.in-Ok.ensures.fed c.requires.going.going)

pub returns-in-Some : goal.returns-in-Some
returns-in-Some c =
    let most : c.in-Ok.field-0 ≤ 1 = c.in-Ok.ensures.bound in
    let some : 0 < c.in-Ok.field-0 = c.in-Ok.ensures.some (omega arith) in
    says_whole c.args.self.now.reader c.feed.new.self c.args.a c.args.b c.args.c c.args.d c.args.octet c.in-Ok.field-0
    c.number.result c.own.result _ refl (omega arith) (sym c.in-Some.ensures ∙ ap Some (sym c.own.ensures)) c.number.ensures (c.in-Ok.ensures.fed c.requires.going.going)
