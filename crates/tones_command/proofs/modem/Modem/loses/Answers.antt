use Rattle.std.proofs.Common.{ap, sym, subst, ◌∙◌}
use Rattle.link_frames.specs.FrameOctets.{frame_octets}
use Rattle.per_bits.specs.Bits.{octet_bits}
use Rattle.tone_link.specs.ToneReading.{ReadsAs}
use Rattle.tones_command.specs.Modem.{behind_frame, behind_samples, received}
use Rattle.tones_command.specs.inner.Loud.{AreSamplesSent}
use Rattle.tones_command.proofs.LostFrames.{lost_refused}
use Rattle.tones_command.proofs.Received.{bits_sent}
use Rattle.tones_command.proofs.modem.Modem.loses.Goals as goal

pub receive-requires-clause-sent : goal.receive-requires-clause-sent
receive-requires-clause-sent c =
    subst AreSamplesSent (sym (c.as_slice.ensures.value ∙ c.rewrite_tones.ensures))
    (bits_sent (octet_bits (frame_octets c.args.frame.now)))

pub returns-clause-lost : goal.returns-clause-lost
returns-clause-lost c =
    let sent = c.as_slice.ensures.value ∙ c.rewrite_tones.ensures in
    let heard = c.as_slice-2.ensures.value ∙ c.receive.ensures.items
    ∙ ap (received c.args.self.now.most c.args.self.now.x) sent in
    c.is_err.ensures.value
    ∙ sym (lost_refused c.args.self.now.most c.args.self.now.x c.args.frame.now c.tone_read.result c.requires
    c.frame_laws.ensures.is_frame c.frame_laws.ensures.octets
    (subst (λ samples. ReadsAs samples c.tone_read.result) heard c.tone_read.ensures.reads))

pub returns-clause-x : goal.returns-clause-x
unfolding behind_frame
returns-clause-x c =
    c.receive.ensures.x
    ∙ ap (behind_samples c.args.self.now.x) (c.as_slice.ensures.value ∙ c.rewrite_tones.ensures)
