-- What a flow hands over at a tick, before anything is listed. This project's profile. Cited by private functions.
use Rattle.std.specs.Prelude.{◌≡◌, List, [], ◌∷◌, ⊤}
use Rattle.channel_sim.specs.World.{Due}
use Rattle.channel_sim.specs.Handing.{due_of}
use Rattle.channel_sim.specs.declared.calls.due.Handover.{Handover}
use Rattle.channel_sim.specs.declared.calls.due.Handover.TheVariants as handover

-- it is these frames; of those that are to be listed nothing is said
abbrev pub IsHandover : Handover → List Due → Type 0
IsHandover handover.Nothing due = due ≡ []
IsHandover (handover.One one) due = due ≡ due_of one ∷ []
IsHandover handover.Many due = ⊤
