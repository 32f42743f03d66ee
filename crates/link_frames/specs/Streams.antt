-- Which frames a stream of octets holds, and where it stops being one of frames. This project's profile.
-- Cited by the contract of `frame_laws`.
use Rattle.std.specs.Prelude.{◌≡◌, ℕ, List, ◌∷◌, ◌++◌, length}
use Rattle.std.specs.List.{AllByRecursion, flat_map}
use Rattle.link_frames.specs.declared.fault.FrameFault.{FrameFault}
use Rattle.link_frames.specs.declared.frame.Frame.{Frame}
use Rattle.link_frames.specs.FrameOctets.{frame_octets, IsFrame, IsFrameFront, StopsBehind}

-- the octets of these frames, one behind the other
abbrev pub all_octets : List Frame → List ℕ
all_octets frames = flat_map frame_octets frames

-- the stream is these frames, and then less than a whole one
pub record Holds (stream : List ℕ) (frames : List Frame) (rest : List ℕ) : Type 0 where
  pub each : AllByRecursion IsFrame frames
  pub begun : IsFrameFront rest
  pub whole : stream ≡ all_octets frames ++ rest

-- the stream is these frames, then what begins one, and then, in this place, an octet with which none goes on
pub record FrameStops (stream : List ℕ) (frames : List Frame) (fault : FrameFault) : Type 0 where
  pub before : List ℕ
  pub more : List ℕ
  pub each : AllByRecursion IsFrame frames
  pub stops : StopsBehind before fault.octet fault.fault
  pub whole : stream ≡ all_octets frames ++ (before ++ fault.octet ∷ more)
  pub place : fault.place ≡ length (all_octets frames ++ before)
