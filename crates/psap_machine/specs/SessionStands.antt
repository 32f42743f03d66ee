-- Which states of the answering point's session a `Session` stands for: one equation for each of its fields, where its
-- two sums agree up to the greatest u32, and what every such state keeps. This project's profile. Cited by the
-- contracts of `Session`, and by what stands on it.
use Rattle.std.specs.Prelude.{◌≡◌, ◌≤◌, ◌⊎◌, ℕ, List, [], ◌∷◌, Option, Some, None, min, ◌-◌, ◌^◌}
use Rattle.audio_switch.specs.Switch.{Switching, open_ticks}
use Rattle.audio_switch.specs.declared.switch.Stretch.TheVariants.{Muted, Open}
use Rattle.link_frames.specs.Legs.{Kept, least_opening, muting_limit}
use Rattle.link_frames.specs.Requests.{RequestsStandFor}
use Rattle.link_frames.specs.declared.frame.End.TheVariants as «end»
use Rattle.psap_machine.specs.declared.session.Session.{Session}
use Rattle.psap_machine.specs.declared.session.Phase as kept_phase
use Rattle.psap_machine.specs.declared.session.Phase.TheVariants as phase
use Rattle.psap_machine.specs.Point.{Point, Phase, Listening, Asking, Telling, Talking, Clearing, Over, greatest, requests_of}
use Rattle.psap_machine.specs.PointKept.{IsKept}

-- the phase that a session's phase stands for
abbrev pub phase_of : kept_phase.Phase → Phase
phase_of phase.Listening = Listening
phase_of (phase.Asking request) = Asking request
phase_of (phase.Telling request) = Telling request
phase_of phase.Talking = Talking
phase_of (phase.Clearing request) = Clearing request
phase_of phase.Over = Over

-- where the code's sums of ticks stay
abbrev pub most_ticks : ℕ
most_ticks = 2 ^ 32 - 1

-- the request shown last, if any
abbrev pub last_shown : List Kept → Option ℕ
last_shown [] = None
last_shown (set ∷ sets) = Some set.0

-- The voice is muted in every phase but Talking; once the session is over it counts no more.
abbrev pub VoiceIs : Switching → Phase → (voice_for : ℕ) → Type 0
VoiceIs voice Over ticks = Unit {0}
VoiceIs voice Talking ticks = voice ≡ record { limit = muting_limit «end».Point; stretch = Open (min ticks most_ticks) }
VoiceIs voice _ ticks = voice ≡ record { limit = muting_limit «end».Point; stretch = Muted ticks }

pub record SessionIs (session : Session) (s : Point) : Type 0 where
  pub call : s.call ≡ session.call
  pub phase : s.phase ≡ phase_of session.phase
  pub asked : greatest s.asked ≡ session.asked
  pub shown : RequestsStandFor session.shown (requests_of s.shown)
  pub last : last_shown s.shown ≡ session.last
  pub ticks : min s.in_phase most_ticks ≡ session.in_phase
  pub voice : VoiceIs session.voice s.phase s.voice_for

pub record SessionStandsFor (session : Session) (s : Point) : Type 0 where
  pub is : SessionIs session s
  pub kept : IsKept s

-- The session is settled: it only talks, and has for so long that the desk may ask or let go, or it is over. It does
-- nothing however many ticks pass, and at an event it does the same however many passed.
abbrev pub IsSettled : Session → Type 0
IsSettled session =
    ((session.phase ≡ phase.Talking) × (least_opening ≤ open_ticks session.voice.stretch))
    ⊎ (session.phase ≡ phase.Over)

-- the session, if there is one, is settled
abbrev pub AtRest : Option Session → Type 0
AtRest None = Unit {0}
AtRest (Some session) = IsSettled session
