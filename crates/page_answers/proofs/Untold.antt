-- What a page is told where there was no memory to begin with: nothing was taken, and nothing was written.
use Rattle.std.specs.Prelude.{◌≡◌, ℕ, List, [], Option, Some}
use Rattle.std.proofs.Common.{ap, refl, inl, arith}
use Rattle.call_io.proofs.BytesLemmas.{Took-nothing}
use Rattle.command_base.specs.Outcome.{CutShort}
use Rattle.command_base.specs.Refusals.{Reply}
use Rattle.command_base.specs.Status.{status_code}
use Rattle.command_base.specs.declared.status.Status.TheVariants as status
use Rattle.ecall_top.specs.Replies.{Replies, passes_of}
use Rattle.ecall_top.specs.declared.command.Command.{Command}
use Rattle.page_room.specs.Answers.{Answers}

pub untold : ((asked : Option Command) (input : List ℕ) → (reply : Reply) × Replies asked input reply)
    → (asked : Option Command) (input text : List ℕ) (code : ℕ) → text ≡ [] → code ≡ status_code status.Memory
    → Answers asked input text code
untold replied asked input text code nothing number =
    record {
      answer = status.Memory;
      number = number;
      ends = (input, ([], nothing_told));
      readable = λ is. cc;
      full = λ is. absurd cc;
    }
  where
    nothing_told : CutShort (λ bytes r. Replies asked bytes r) (λ bytes. passes_of asked bytes)
        (record { left = Some input; held = Some []; passes = 0 }) (record { left = Some input; held = Some text; passes = 0 }) []
    nothing_told =
        record {
          took = Took-nothing (Some input);
          within = omega arith;
          front = [];
          rest = [];
          split = refl;
          text = [];
          wrote = ap Some nothing;
          begins = inl (λ more. replied asked more);
          counted = omega arith;
        }
