-- How far the reader of a part has come, and what one more octet makes of it. Cited by the contracts of
-- `MessageReader` and of the reader of parts within it.
use Rattle.std.specs.Prelude.{◌≡◌, ℕ, List, [], ◌∷◌, ◌++◌, length, Option, Some, None, Result, Ok, Err}
use Rattle.link_frames.specs.FrameOctets.{IsFrameFront}
use Rattle.link_frames.specs.Reading.{Reading}
use Rattle.link_parts.specs.Rounds.{Next, More, Whole, Wrong}
use Rattle.link_parts.specs.declared.fault.PartFault.{PartFault}
use Rattle.link_parts.specs.declared.part.Part.{Part}
use Rattle.link_parts.specs.declared.part_reader.Kind.{Kind}
use Rattle.link_parts.specs.declared.part_reader.Kind.TheVariants as kind
use Rattle.link_parts.specs.declared.part_reader.PartReader.{PartReader}
use Rattle.link_parts.specs.declared.part_reader.PartStage.{PartStage}
use Rattle.link_parts.specs.declared.part_reader.PartStage.TheVariants as stage

abbrev pub kind_octet : Kind → ℕ
kind_octet kind.Answers = 17
kind_octet kind.Leaves = 18
kind_octet kind.Rings = 19
kind_octet kind.Takes = 20
kind_octet kind.Carries = 32

-- the octets of an unfinished part
abbrev pub kept_in : PartStage → (frame : List ℕ) → List ℕ
kept_in stage.Nothing frame = []
kept_in (stage.One k) frame = kind_octet k ∷ []
kept_in (stage.Two k a) frame = kind_octet k ∷ a ∷ []
kept_in (stage.Three k a b) frame = kind_octet k ∷ a ∷ b ∷ []
kept_in (stage.Four k a b c) frame = kind_octet k ∷ a ∷ b ∷ c ∷ []
kept_in (stage.InFrame a b c d) frame = 32 ∷ a ∷ b ∷ c ∷ d ∷ frame

abbrev pub kept_of : PartReader → List ℕ
kept_of r = kept_in r.stage r.reader.kept

-- the reader of frames stands in a frame
pub record IsBegun (r : Reading) : Type 0 where
  pub going : r.fault ≡ None
  pub taken : r.taken ≡ length r.kept
  pub begun : IsFrameFront r.kept

abbrev pub IsGoingIn : PartStage → Reading → Type 0
IsGoingIn (stage.InFrame a b c d) r = IsBegun r
IsGoingIn _ r = Unit {0}

abbrev pub IsGoing : PartReader → Type 0
IsGoing r = IsGoingIn r.stage r.reader

-- what an octet behind these makes of a part, by what was answered
abbrev pub Says : Next Part → (kept : List ℕ) → (octet : ℕ) → Result (Option Part) PartFault → (new : PartReader)
    → Type 0
Says More kept octet (Ok None) new = (kept_of new ≡ kept ++ octet ∷ []) × IsGoing new
Says (Whole part) kept octet (Ok (Some p)) new = (p ≡ part) × (kept_of new ≡ []) × IsGoing new
Says (Wrong fault) kept octet (Err f) new = f ≡ fault
Says _ kept octet _ new = ⊥
