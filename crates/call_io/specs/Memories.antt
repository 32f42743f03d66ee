-- What contracts see of a source and a sink over memory, whose calls fail as they were told: this project's profile.
-- The contracts of `MemSource`, `MemSink` and `CalmSource` cite this file.
use Rattle.std.specs.Prelude.{ℕ, ◌<◌, ◌≤◌, ◌⊎◌, List, length, Contains}
use Rattle.call_io.specs.Counts.{count_up}

-- the calls that fail, by their numbers from 1; how many calls there were, and how many of them failed
pub record Plan : Type 0 where
  pub fails : List ℕ
  pub calls : ℕ
  pub faults : ℕ

-- the next call is one of those that fail
abbrev pub NextFails : Plan → Type 0
NextFails p = Contains p.fails (count_up p.calls)

-- after a call that succeeded
abbrev pub plan_after : Plan → Plan
plan_after p = record p { calls = count_up p.calls }

-- after a call that failed
abbrev pub plan_after_fault : Plan → Plan
plan_after_fault p = record p { calls = count_up p.calls; faults = count_up p.faults }

-- a source: the bytes still to come, and the most that one call gives
pub record Supply : Type 0 where
  pub left : List ℕ
  pub most : ℕ
  pub plan : Plan

-- a sink: the bytes written, and how many it has room for
pub record Store : Type 0 where
  pub held : List ℕ
  pub room : ℕ
  pub plan : Plan

-- the next write of this piece fails: it is listed, or there is something to write and no room
abbrev pub WriteFails : Store → List ℕ → Type 0
WriteFails s piece = NextFails s.plan ⊎ ((0 < length piece) × (s.room ≤ length s.held))
