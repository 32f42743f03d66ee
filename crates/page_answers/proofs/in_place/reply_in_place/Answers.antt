use Rattle.std.specs.Prelude.{Some}
use Rattle.std.proofs.Common.{ap, refl}
use Rattle.std.proofs.lemmas.Bool.{false≢true}
use Rattle.call_io.specs.Blocks.{held}
use Rattle.command_base.specs.declared.status.Status.TheVariants as status
use Rattle.script_commands.specs.Make.{made_script}
use Rattle.ecall_top.specs.declared.command.Command.TheVariants as command
use Rattle.ecall_top.proofs.Unread.{named, text_reads_on, written}
use Rattle.page_answers.proofs.in_place.reply_in_place.Goals as goal

pub returns-in-Decode-clause-ends : goal.returns-in-Decode-clause-ends
returns-in-Decode-clause-ends g c =
    named (Some c.args.command) (Some command.Decode) _ _ c.decode_sets.result (ap Some c.in-Decode.is)
    (record {
      outcome = c.decode_sets.ensures.outcome 0;
      told = c.decode_sets.ensures.told;
      silent = λ once cut. absurd (false≢true once);
      unread = tt;
    })

pub returns-in-Encode-clause-ends : goal.returns-in-Encode-clause-ends
returns-in-Encode-clause-ends g c =
    named (Some c.args.command) (Some command.Encode) _ _ c.encode_sets.result (ap Some c.in-Encode.is)
    (record {
      outcome = c.encode_sets.ensures.outcome 0;
      told = c.encode_sets.ensures.told;
      silent = λ once cut. absurd (false≢true once);
      unread = tt;
    })

pub returns-in-Frames-clause-ends : goal.returns-in-Frames-clause-ends
returns-in-Frames-clause-ends g c =
    named (Some c.args.command) (Some command.Frames) _ _ c.read_frames.result (ap Some c.in-Frames.is)
    (record {
      outcome = c.read_frames.ensures.outcome 0;
      told = c.read_frames.ensures.told;
      silent = λ once cut. absurd (false≢true once);
      unread = tt;
    })

pub returns-in-Make-clause-ends : goal.returns-in-Make-clause-ends
returns-in-Make-clause-ends g c =
    named (Some c.args.command) (Some (command.Make c.in-Make.number)) _ _ c.make_script.result (ap Some c.in-Make.is)
    (written (Some (command.Make c.in-Make.number)) (g.I.Source.left c.args.input.now)
    (held g.O.Sink.held c.args.output.now) (held g.O.Sink.held c.make_script.new.output) 0
    (made_script c.in-Make.number) c.make_script.result (λ input. refl) refl refl (λ ends. ends)
    c.make_script.ensures.ends)

pub returns-in-Conform-clause-ends : goal.returns-in-Conform-clause-ends
returns-in-Conform-clause-ends g c =
    named (Some c.args.command) (Some command.Conform) _ _ c.write_vectors.result (ap Some c.in-Conform.is)
    (let ends = c.write_vectors.ensures.ends in
    written (Some command.Conform) (g.I.Source.left c.args.input.now) (held g.O.Sink.held c.args.output.now)
    (held g.O.Sink.held c.write_vectors.new.output) 0 ends.0 c.write_vectors.result
    (λ input. (ends.1, refl)) refl refl (λ ended. ended) ends.2)

pub returns-in-Make-clause-handed : goal.returns-in-Make-clause-handed
returns-in-Make-clause-handed g c = λ is.
    absurd (text_reads_on _ _ _ status.Done c.make_script.result c.make_script.ensures.ends (λ same. cc) is)

pub returns-in-Conform-clause-handed : goal.returns-in-Conform-clause-handed
returns-in-Conform-clause-handed g c = λ is.
    absurd (text_reads_on _ _ _ status.Done c.write_vectors.result c.write_vectors.ensures.ends.2 (λ same. cc) is)
