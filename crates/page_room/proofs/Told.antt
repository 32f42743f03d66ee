-- From how a command ended over room that is lent to what a page is told of it.
use Rattle.std.specs.Prelude.{◌≡◌, ℕ, ◌<◌, Bool, List, [], length, Option, Some}
use Rattle.std.proofs.Common.{refl, subst, sym, inl, inr, arith}
use Rattle.call_io.specs.Counts.{Rose}
use Rattle.command_base.specs.Outcome.{Answered, CutShort, Outcome, ReadCause, Streams, WriteCause}
use Rattle.command_base.specs.Refusals.{Reply}
use Rattle.command_base.specs.Status.{status_code}
use Rattle.command_base.specs.declared.status.Status.{Status}
use Rattle.command_base.specs.declared.status.Status.TheVariants as status
use Rattle.ecall_top.specs.Commands.{reads}
use Rattle.ecall_top.specs.Replies.{CommandOutcome, Replies, passes_of}
use Rattle.ecall_top.specs.declared.command.Command.{Command}
use Rattle.page_room.specs.Answers.{Answers}
use Rattle.page_room.specs.declared.outlet.TheConstants.{ROOM}

-- a count of faults that stays at 0 doesn't rise
stays : Rose 0 0 → ⊥
stays (inl less) = omega arith
stays (inr last) = omega arith

-- one that rose from 0 is above it
above : (faults : ℕ) → Rose 0 faults → 0 < faults
above faults (inl less) = less
above faults (inr last) = omega arith

-- where the source counts no fault, no read failed
reads_on : (answer : Status) → ReadCause answer 0 0 → answer ≡ status.ReadFault → ⊥
reads_on answer cause is = stays (subst (λ (a : Status). ReadCause a 0 0) is cause)

-- where a write failed, the sink counts a fault
faulty : (answer : Status) (faults : ℕ) → WriteCause answer 0 faults → answer ≡ status.WriteFault → 0 < faults
faulty answer faults cause is = above faults (subst (λ (a : Status). WriteCause a 0 faults) is cause)

-- how often ends were passed is told to nobody
module _ (replies : List ℕ → Reply → Type 0) (most : List ℕ → ℕ) (left held left' held' : Option (List ℕ))
    (passes : ℕ) where
  abbrev before : Streams
  before = record { left = left; held = held; passes = 0 }

  abbrev after : ℕ → Streams
  after n = record { left = left'; held = held'; passes = n }

  uncounted_reply : (input : List ℕ) (r : Reply) → Answered replies most before (after passes) input r
      → Answered replies most before (after 0) input r
  uncounted_reply input r a =
      record { took = a.took; replied = a.replied; wrote = a.wrote; counted = omega arith }

  uncounted_cut : (input : List ℕ) → CutShort replies most before (after passes) input
      → CutShort replies most before (after 0) input
  uncounted_cut input c =
      record {
        took = c.took;
        within = c.within;
        front = c.front;
        rest = c.rest;
        split = c.split;
        text = c.text;
        wrote = c.wrote;
        begins = c.begins;
        counted = omega arith;
      }

  uncounted : (may_read : Bool) (answer : Status) → Outcome replies most may_read before (after passes) answer
      → Outcome replies most may_read before (after 0) answer
  uncounted may_read status.Done o = (o.0, o.1, uncounted_reply o.0 o.1 o.2, o.3, o.4)
  uncounted may_read status.Usage o = (o.0, uncounted_reply [] o.0 o.1, o.2)
  uncounted may_read (status.Refused why) o = (o.0, o.1, uncounted_reply o.0 o.1 o.2, o.3, o.4)
  uncounted may_read (status.Broken number rule) o = (o.0, o.1, uncounted_reply o.0 o.1 o.2, o.3, o.4)
  uncounted may_read status.ReadFault o = (o.0, uncounted_cut o.0 o.1)
  uncounted may_read status.WriteFault o = (o.0, uncounted_cut o.0 o.1)
  uncounted may_read status.Memory o = (o.0, uncounted_cut o.0 o.1)
  uncounted may_read status.TooLong o = (o.0, uncounted_cut o.0 o.1, o.2)

-- the outcome over an input and a sink that are lent, by what the two are worth
from_nothing : (asked : Option Command) (given input left empty text written : List ℕ) (none passes : ℕ)
    (answer : Status) → given ≡ input → empty ≡ [] → text ≡ written → none ≡ 0
    → CommandOutcome asked (record { left = Some given; held = Some empty; passes = none })
    (record { left = Some left; held = Some written; passes = passes }) answer
    → CommandOutcome asked (record { left = Some input; held = Some []; passes = 0 })
    (record { left = Some left; held = Some text; passes = 0 }) answer
from_nothing asked given input left empty text written none passes answer same nothing copied fresh outcome =
    let new : ℕ → Streams = λ n. record { left = Some left; held = Some written; passes = n } in
    let first = subst (λ (g : List ℕ). CommandOutcome asked
    (record { left = Some g; held = Some empty; passes = none }) (new passes) answer) same outcome in
    let second = subst (λ (e : List ℕ). CommandOutcome asked
    (record { left = Some input; held = Some e; passes = none }) (new passes) answer) nothing first in
    let third = subst (λ (n : ℕ). CommandOutcome asked
    (record { left = Some input; held = Some []; passes = n }) (new passes) answer) fresh second in
    let fourth = uncounted (λ bytes r. Replies asked bytes r) (λ bytes. passes_of asked bytes) (Some input) (Some [])
    (Some left) (Some written) passes (reads asked) answer third in
    subst (λ (t : List ℕ). CommandOutcome asked (record { left = Some input; held = Some []; passes = 0 })
    (record { left = Some left; held = Some t; passes = 0 }) answer) (sym copied) fourth

-- what a page is told by a command that ended so
pub told : (asked : Option Command) (given input left empty text written : List ℕ)
    (none passes calm faults code : ℕ) (answer : Status) → given ≡ input → empty ≡ [] → text ≡ written → none ≡ 0
    → calm ≡ 0 → code ≡ status_code answer
    → CommandOutcome asked (record { left = Some given; held = Some empty; passes = none })
    (record { left = Some left; held = Some written; passes = passes }) answer
    → ReadCause answer 0 0 → WriteCause answer calm faults → (0 < faults → length text ≡ ROOM)
    → Answers asked input text code
told asked given input left empty text written none passes calm faults code answer same nothing copied fresh quiet
    number outcome read write full =
    record {
      answer = answer;
      number = number;
      ends = (
        left,
        from_nothing asked given input left empty text written none passes answer same nothing copied fresh outcome,
      );
      readable = reads_on answer read;
      full = λ is. full (faulty answer faults (subst (λ (n : ℕ). WriteCause answer n faults) quiet write) is);
    }

-- where there was memory, the number is another one
pub remembers : (answer : Status) (code : ℕ) → code ≡ status_code answer → (answer ≡ status.Memory → ⊥) → code ≡ 6 → ⊥
remembers status.Memory code number had is = absurd (had refl)
remembers status.Done code number had is = omega arith
remembers status.Usage code number had is = omega arith
remembers (status.Refused why) code number had is = omega arith
remembers (status.Broken line rule) code number had is = omega arith
remembers status.ReadFault code number had is = omega arith
remembers status.WriteFault code number had is = omega arith
remembers status.TooLong code number had is = omega arith
