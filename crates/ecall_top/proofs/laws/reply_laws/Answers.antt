use Rattle.std.proofs.Common.{refl}
use Rattle.ecall_top.proofs.ReplyLaws.{replies_some, replies_one}
use Rattle.ecall_top.proofs.StatusLaws.{replies_status}
use Rattle.ecall_top.proofs.laws.reply_laws.Goals as goal

pub returns-clause-replied : goal.returns-clause-replied
returns-clause-replied c = replies_some

pub returns-clause-one : goal.returns-clause-one
returns-clause-one c = replies_one

pub returns-clause-statuses : goal.returns-clause-statuses
returns-clause-statuses c = replies_status

pub returns-clause-in_place : goal.returns-clause-in_place
returns-clause-in_place c = λ number. (refl, (refl, (refl, (refl, (refl, (refl, tt))))))

pub returns-clause-unplayed : goal.returns-clause-unplayed
returns-clause-unplayed c = λ number. (refl, (refl, (refl, (refl, (refl, (refl, (refl, tt)))))))

pub returns-clause-once : goal.returns-clause-once
returns-clause-once c = λ number. (refl, (refl, (refl, tt)))

pub returns-clause-unread : goal.returns-clause-unread
returns-clause-unread c = λ number. (refl, (refl, (refl, (refl, tt))))
