use Rattle.std.specs.Prelude.{map}
use Rattle.std.specs.String.{string_bytes}
use Rattle.std.proofs.Common.{sym, ◌∙◌, ap, refl, Some, None}
use Rattle.std.proofs.lemmas.Bool.{false≢true}
use Rattle.call_io.specs.Blocks.{held, pending}
use Rattle.command_base.specs.declared.status.Status.{Status}
use Rattle.command_base.specs.declared.status.Status.TheVariants as status
use Rattle.command_base.specs.Outcome.{IsCutSilently}
use Rattle.std.proofs.Common.{rules, subst}
use Rattle.ecall_top.specs.Commands.{command_of}
use Rattle.ecall_top.specs.declared.command.Command.TheVariants as command
use Rattle.script_commands.specs.Make.{made_script}
use Rattle.ecall_top.proofs.Unread.{cut_quiet, named, text_reads_on, trial_reads_on, tried, used, written}
use Rattle.ecall_top.proofs.reply.Goals as goal

pub returns-in-Some-Run-clause-ends : goal.returns-in-Some-Run-clause-ends
returns-in-Some-Run-clause-ends g c =
    named (command_of (map string_bytes c.args.words.now)) (Some command.Run) _ _ c.run_script.result
    (search rules)
    (record {
      outcome = c.run_script.ensures.outcome;
      told = c.run_script.ensures.told;
      silent = λ once cut. absurd (false≢true once);
      unread = tt;
    })

pub returns-in-Some-Register-clause-ends : goal.returns-in-Some-Register-clause-ends
returns-in-Some-Register-clause-ends g c =
    named (command_of (map string_bytes c.args.words.now)) (Some command.Register) _ _ c.keep_register.result
    (search rules)
    (record {
      outcome = c.keep_register.ensures.outcome;
      told = c.keep_register.ensures.told;
      silent = λ once cut. c.keep_register.ensures.silent (cut_quiet c.keep_register.result cut);
      unread = tt;
    })

pub returns-in-Some-Tones-clause-ends : goal.returns-in-Some-Tones-clause-ends
returns-in-Some-Tones-clause-ends g c =
    named (command_of (map string_bytes c.args.words.now)) (Some (command.Tones c.in-Some-Tones.noise)) _ _ c.play_tones.result
    (search rules)
    (record {
      outcome = c.play_tones.ensures.outcome;
      told = c.play_tones.ensures.told;
      silent = λ once cut. absurd (false≢true once);
      unread = tt;
    })

pub returns-in-Some-Floor-clause-ends : goal.returns-in-Some-Floor-clause-ends
returns-in-Some-Floor-clause-ends g c =
    named (command_of (map string_bytes c.args.words.now)) (Some command.Floor) _ _ c.play_floor.result
    (search rules)
    (record {
      outcome = c.play_floor.ensures.outcome;
      told = c.play_floor.ensures.told;
      silent = λ once cut. absurd (false≢true once);
      unread = tt;
    })

pub returns-in-Some-Relay-clause-ends : goal.returns-in-Some-Relay-clause-ends
returns-in-Some-Relay-clause-ends g c =
    named (command_of (map string_bytes c.args.words.now)) (Some command.Relay) _ _ c.play_relay.result
    (search rules)
    (record {
      outcome = c.play_relay.ensures.outcome;
      told = c.play_relay.ensures.told;
      silent = λ once cut. absurd (false≢true once);
      unread = tt;
    })

pub returns-in-Some-Decode-clause-ends : goal.returns-in-Some-Decode-clause-ends
returns-in-Some-Decode-clause-ends g c =
    named (command_of (map string_bytes c.args.words.now)) (Some command.Decode) _ _ c.decode_sets.result
    (search rules)
    (record {
      outcome = c.decode_sets.ensures.outcome c.args.moments.now;
      told = c.decode_sets.ensures.told;
      silent = λ once cut. absurd (false≢true once);
      unread = tt;
    })

pub returns-in-Some-Encode-clause-ends : goal.returns-in-Some-Encode-clause-ends
returns-in-Some-Encode-clause-ends g c =
    named (command_of (map string_bytes c.args.words.now)) (Some command.Encode) _ _ c.encode_sets.result
    (search rules)
    (record {
      outcome = c.encode_sets.ensures.outcome c.args.moments.now;
      told = c.encode_sets.ensures.told;
      silent = λ once cut. absurd (false≢true once);
      unread = tt;
    })

pub returns-in-Some-Frames-clause-ends : goal.returns-in-Some-Frames-clause-ends
returns-in-Some-Frames-clause-ends g c =
    named (command_of (map string_bytes c.args.words.now)) (Some command.Frames) _ _ c.read_frames.result
    (search rules)
    (record {
      outcome = c.read_frames.ensures.outcome c.args.moments.now;
      told = c.read_frames.ensures.told;
      silent = λ once cut. absurd (false≢true once);
      unread = tt;
    })

pub returns-in-Some-Replay-clause-ends : goal.returns-in-Some-Replay-clause-ends
returns-in-Some-Replay-clause-ends g c =
    named (command_of (map string_bytes c.args.words.now)) (Some command.Replay) _ _ c.replay_trace.result
    (search rules)
    (record {
      outcome = c.replay_trace.ensures.outcome c.args.moments.now;
      told = c.replay_trace.ensures.told;
      silent = λ once cut. ap (held g.O.Sink.held) (c.replay_trace.ensures.silent cut);
      unread = tt;
    })

pub returns-in-Some-Make-clause-ends : goal.returns-in-Some-Make-clause-ends
returns-in-Some-Make-clause-ends g c =
    named (command_of (map string_bytes c.args.words.now)) (Some (command.Make c.in-Some-Make.number)) _ _ c.make_script.result
    (search rules)
    (written (Some (command.Make c.in-Some-Make.number)) (g.I.Source.left c.args.input.now)
    (held g.O.Sink.held c.args.output.now) (held g.O.Sink.held c.make_script.new.output) c.args.moments.now
    (made_script c.in-Some-Make.number) c.make_script.result (λ input. refl) refl refl (λ ends. ends)
    c.make_script.ensures.ends)

pub returns-in-Some-Trial-clause-ends : goal.returns-in-Some-Trial-clause-ends
returns-in-Some-Trial-clause-ends g c =
    named (command_of (map string_bytes c.args.words.now)) (Some (command.Trial c.in-Some-Trial.number)) _ _ c.try_script.result
    (search rules)
    (tried c.in-Some-Trial.number (g.I.Source.left c.args.input.now) (held g.O.Sink.held c.args.output.now)
    (held g.O.Sink.held c.try_script.new.output) c.args.moments.now c.try_script.new.moments c.try_script.result
    c.try_script.ensures.passes c.try_script.ensures.ends)

pub returns-in-Some-Conform-clause-ends : goal.returns-in-Some-Conform-clause-ends
returns-in-Some-Conform-clause-ends g c =
    named (command_of (map string_bytes c.args.words.now)) (Some command.Conform) _ _ c.write_vectors.result
    (search rules)
    (let ends = c.write_vectors.ensures.ends in
    written (Some command.Conform) (g.I.Source.left c.args.input.now) (held g.O.Sink.held c.args.output.now)
    (held g.O.Sink.held c.write_vectors.new.output) c.args.moments.now ends.0 c.write_vectors.result
    (λ input. (ends.1, refl)) refl refl (λ ended. ended) ends.2)

pub returns-in-None-clause-ends : goal.returns-in-None-clause-ends
returns-in-None-clause-ends g c =
    named (command_of (map string_bytes c.args.words.now)) None _ _ c.usage.result (sym c.read_command-command.ensures ∙ c.in-None.is)
    (used (g.I.Source.left c.args.input.now) (held g.O.Sink.held c.args.output.now)
    (held g.O.Sink.held c.usage.new.output) c.args.moments.now c.usage.result c.usage.ensures.ends)

pub returns-in-Some-Replay-clause-handed : goal.returns-in-Some-Replay-clause-handed
returns-in-Some-Replay-clause-handed g c = λ is.
    ap pending (c.replay_trace.ensures.silent (subst (λ (a : Status). IsCutSilently a) (sym is) tt)) ∙ c.requires

pub returns-in-Some-Make-clause-handed : goal.returns-in-Some-Make-clause-handed
returns-in-Some-Make-clause-handed g c = λ is.
    absurd (text_reads_on _ _ _ status.Done c.make_script.result c.make_script.ensures.ends (λ same. cc) is)

pub returns-in-Some-Trial-clause-handed : goal.returns-in-Some-Trial-clause-handed
returns-in-Some-Trial-clause-handed g c = λ is.
    absurd (trial_reads_on c.in-Some-Trial.number _ _ c.try_script.result c.try_script.ensures.ends is)

pub returns-in-Some-Conform-clause-handed : goal.returns-in-Some-Conform-clause-handed
returns-in-Some-Conform-clause-handed g c = λ is.
    absurd (text_reads_on _ _ _ status.Done c.write_vectors.result c.write_vectors.ensures.ends.2 (λ same. cc) is)

pub returns-in-None-clause-handed : goal.returns-in-None-clause-handed
returns-in-None-clause-handed g c = λ is.
    absurd (text_reads_on _ _ _ status.Usage c.usage.result c.usage.ensures.ends (λ same. cc) is)
