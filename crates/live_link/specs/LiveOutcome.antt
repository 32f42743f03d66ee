-- What an answer of an end of a live link says of the bytes that it took of its script and of the other end, of what it
-- wrote of its trace and to the other end, and of how many rounds it passed. `over` is its run over the lines of a
-- script and over octets. This project's profile. Cited by the contracts of `live_vehicle`, `live_point` and `live`.
-- Where a source or a sink doesn't tell its bytes, nothing is said of them.
use Rattle.std.specs.Prelude.{◌≡◌, ℕ, ◌+◌, ◌<◌, ◌≤◌, ◌⊎◌, List, [], ◌∷◌, ◌++◌, length, codes, Option}
use Rattle.std.specs.Io.KnownBytes.{IsAtEnd}
use Rattle.call_io.specs.Bytes.{Took, Grew, GrewPartly}
use Rattle.line_input.specs.Inputs.{IsSettledBy, RunsOver}
use Rattle.line_input.specs.Lines.{IsWhole, lines_of, most_bytes}
use Rattle.line_input.specs.declared.reason.BadLine.{BadLine}
use Rattle.link_parts.specs.Rounds as rounds
use Rattle.trace_text.specs.EntryLine.{text_of}
use Rattle.live_link.specs.LastLine.{link_line, refusal_line}
use Rattle.live_link.specs.Runs.{Ending, Run}
use Rattle.live_link.specs.Runs as ending
use Rattle.live_link.specs.Turns.{entries_of}
use Rattle.live_link.specs.declared.answer.LiveStatus.{LiveStatus}
use Rattle.live_link.specs.declared.answer.LiveStatus.TheVariants as status

-- The bytes told by the script and the other end, and by the trace and what goes to the other end; and how many rounds
-- were passed.
pub record LiveStreams : Type 0 where
  pub script : Option (List ℕ)
  pub trace : Option (List ℕ)
  pub from : Option (List ℕ)
  pub to : Option (List ℕ)
  pub passes : ℕ

abbrev pub streams : (script trace from to : Option (List ℕ)) → (passes : ℕ) → LiveStreams
streams script trace from to passes = record { script = script; trace = trace; from = from; to = to; passes = passes }

-- an end's run over the lines of a script and over octets
abbrev pub Over : Type 0
Over = (lines : List (List ℕ)) → (octets : List ℕ) → Run

abbrev pub run_over : Over → (script octets : List ℕ) → Run
run_over over script octets = over (lines_of script) octets

-- the last line of a run that a line, or an octet of the other end, ended
abbrev pub ending_line : Ending → List ℕ
ending_line (ending.Refused bad) = refusal_line bad
ending_line (ending.LinkStopped (rounds.Faulty fault)) = link_line fault
ending_line _ = []

-- what a run writes of its trace, with this last line
abbrev pub trace_of : (last : Ending → List ℕ) → Run → List ℕ
trace_of last run = text_of (entries_of run.turns) ++ last run.ending

module _ (last : Ending → List ℕ) (over : Over) where
  -- These bytes were taken, and answered whole: what was written is exactly that of the run over them.
  pub record Ran (old new : LiveStreams) (script octets : List ℕ) (how : Ending) : Type 0 where
    pub took_script : Took old.script new.script script
    pub took_octets : Took old.from new.from octets
    pub ended : (run_over over script octets).ending ≡ how
    pub traced : Grew old.trace new.trace (trace_of last (run_over over script octets))
    pub sent : Grew old.to new.to (run_over over script octets).octets
    -- the round in which the run ended may have been begun
    pub counted : new.passes ≤ old.passes + (run_over over script octets).rounds + 1

  -- These bytes were taken, and the answer was cut short: of its trace and to the other end a front was written of what
  -- the run over them writes.
  pub record CutShort (old new : LiveStreams) (script octets : List ℕ) : Type 0 where
    pub took_script : Took old.script new.script script
    pub took_octets : Took old.from new.from octets
    pub traced : GrewPartly old.trace new.trace (trace_of last (run_over over script octets))
    pub sent : GrewPartly old.to new.to (run_over over script octets).octets
    -- the round in which it was cut short may have been begun
    pub counted : new.passes ≤ old.passes + (run_over over script octets).rounds + 1

-- The octets of the other end that decided the run are within those that it may have: whatever comes behind them, the
-- run is the same.
pub record IsDecided (over : Over) (script octets : List ℕ) : Type 0 where
  pub front : List ℕ
  pub rest : List ℕ
  pub split : octets ≡ front ++ rest
  pub within : length front ≤ most_bytes
  pub same : (more : List ℕ) → run_over over script (front ++ more) ≡ run_over over script octets

-- The run is decided by the line of this number, whatever comes behind it and behind this front of the octets, or the
-- script was read to its end.
abbrev pub IsKnown : Over → (left : Option (List ℕ)) → (number : ℕ) → (script octets front : List ℕ) → Type 0
IsKnown over left number script octets front =
    IsSettledBy (λ bytes. (more : List ℕ) → run_over over bytes (front ++ more) ≡ run_over over script octets)
    number script
    ⊎ IsWhole left script

-- The run is the same for every script that begins with these bytes, or the script was read to its end.
abbrev pub IsSettled : Over → (left : Option (List ℕ)) → (script octets : List ℕ) → Type 0
IsSettled over left script octets =
    IsWhole left script ⊎ ((more : List ℕ) → run_over over (script ++ more) octets ≡ run_over over script octets)

-- The octets stop the run, whatever follows them: it is the same for every script that begins with these bytes, or the
-- script was read to its end.
pub record IsStopped (over : Over) (left : Option (List ℕ)) (script octets : List ℕ) : Type 0 where
  pub same : (others : List ℕ) → run_over over script (octets ++ others) ≡ run_over over script octets
  pub settled :
      IsWhole left script
      ⊎ ((more others : List ℕ) → run_over over (script ++ more) (octets ++ others) ≡ run_over over script octets)

-- the run comes to a further line behind these: one that is refused whatever it is behind would be refused
abbrev pub WantsLine : Over → (octets : List ℕ) → List (List ℕ) → Type 0
WantsLine over octets lines =
    (bad : BadLine) × ((over (lines ++ codes "$" ∷ []) octets).ending ≡ ending.Refused bad)

-- The other end wrote more octets than may be taken: behind those the run is still within a round.
pub record LinkRunsOver (over : Over) (script octets : List ℕ) : Type 0 where
  pub front : List ℕ
  pub rest : List ℕ
  pub split : octets ≡ front ++ rest
  pub full : length front ≡ most_bytes
  pub beyond : 0 < length rest
  pub wants : (run_over over script front).ending ≡ ending.LinkStopped rounds.LinkCut

-- the 16,777,217th byte of the script, or of the other end's octets, was taken where the run wanted more
abbrev pub IsTooLong : Over → (script octets : List ℕ) → Type 0
IsTooLong over script octets =
    RunsOver (λ bytes. WantsLine over octets (lines_of bytes)) script ⊎ LinkRunsOver over script octets

-- What an answer says of the bytes taken and written.
abbrev pub LiveOutcome : (last : Ending → List ℕ) → Over → (old new : LiveStreams) → LiveStatus → Type 0
LiveOutcome last over old new status.Done =
    (script octets : List ℕ) × Ran last over old new script octets ending.Done × IsWhole new.script script
    × IsDecided over script octets
LiveOutcome last over old new (status.Refused bad) =
    (script octets : List ℕ) × Ran last over old new script octets (ending.Refused bad)
    × (d : IsDecided over script octets) × IsKnown over new.script bad.line script octets d.front
LiveOutcome last over old new status.PeerEnded =
    (script octets : List ℕ) × Ran last over old new script octets ending.PeerEnded
    × (d : IsDecided over script octets) × ((number : ℕ) × IsKnown over new.script number script octets d.front)
LiveOutcome last over old new status.LinkCut =
    (script octets : List ℕ) × Ran last over old new script octets (ending.LinkStopped rounds.LinkCut)
    × IsSettled over new.script script octets × IsAtEnd new.from × (length octets ≤ most_bytes)
LiveOutcome last over old new (status.LinkFault fault) =
    (script octets : List ℕ) × Ran last over old new script octets (ending.LinkStopped (rounds.Faulty fault))
    × IsStopped over new.script script octets × (fault.place < most_bytes)
LiveOutcome last over old new status.ReadFault =
    (script octets : List ℕ) × CutShort last over old new script octets
LiveOutcome last over old new status.WriteFault =
    (script octets : List ℕ) × CutShort last over old new script octets
LiveOutcome last over old new status.Memory =
    (script octets : List ℕ) × CutShort last over old new script octets
LiveOutcome last over old new status.TooLong =
    (script octets : List ℕ) × CutShort last over old new script octets × IsTooLong over script octets
LiveOutcome last over old new status.NoLink = ⊥
