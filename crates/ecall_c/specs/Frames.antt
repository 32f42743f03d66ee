-- What octets come to, from the beginning of a frame on: a whole frame at their front, or an octet with which no frame
-- goes on. This project's profile. Cited by the export that reads frames.
use Rattle.std.specs.Prelude.{◌≡◌, ◌≤◌, ℕ, List, ◌∷◌, ◌++◌, length, take}
use Rattle.link_frames.specs.declared.fault.Fault.{Fault}
use Rattle.link_frames.specs.declared.frame.Frame.{Frame}
use Rattle.link_frames.specs.FrameOctets.{IsFrame, StopsBehind, fault_code, frame_octets}
use Rattle.ecall_c.specs.declared.frame.EcallFrame.{EcallFrame}
use Rattle.ecall_c.specs.Items.{flat_frame}

-- the first octets, so many of them, are those of a frame, and the struct is that frame
pub record GivesFrame (octets : List ℕ) (taken : ℕ) (flat : EcallFrame) : Type 0 where
  pub frame : Frame
  pub is_frame : IsFrame frame
  pub same : flat ≡ flat_frame frame
  pub front : frame_octets frame ≡ take taken octets
  pub bound : taken ≤ length octets

-- the first octets, so many of them, begin a frame, and with the octet behind them no frame goes on
pub record StopsAt (octets : List ℕ) (taken octet code : ℕ) : Type 0 where
  pub front : List ℕ
  pub more : List ℕ
  pub split : octets ≡ front ++ octet ∷ more
  pub fault : Fault
  pub stops : StopsBehind front octet fault
  pub place : taken ≡ length front
  pub named : code ≡ fault_code fault
