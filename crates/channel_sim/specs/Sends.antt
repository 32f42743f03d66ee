-- Which frames those of a `Sends` stand for, each with its tick. This project's profile. Cited by the model of `Sends`,
-- and so by what ties a world's calls to those of the definitions.
use Rattle.trace_model.specs.History.{Sent}
use Rattle.channel_sim.specs.declared.sends.KeptSent.{KeptSent}
use Rattle.channel_sim.specs.Handing.{full}

abbrev pub sent_of : KeptSent → Sent
sent_of s = record { tick = s.tick; frame = full s.frame }
