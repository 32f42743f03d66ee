-- What a run has taken of the other end, and what the reading of a message comes to. Cited by private contracts alone.
use Rattle.std.specs.Prelude.{◌≡◌, ℕ, ◌+◌, ◌<◌, ◌≤◌, ◌==◌, true, List, [], ◌∷◌, ◌++◌, length, min, Option, Some, None, Result, Ok, Err}
use Rattle.std.specs.Io.KnownBytes.{IsAtEnd}
use Rattle.call_io.specs.Bytes.{Took}
use Rattle.line_input.specs.Feed.{Feed, IsDone}
use Rattle.line_input.specs.Lines.{most_bytes}
use Rattle.link_frames.specs.declared.frame.End.{End}
use Rattle.link_parts.specs.MessageReading.{IsBefore, TakesTo}
use Rattle.link_parts.specs.PartReading.{IsGoing, kept_of}
use Rattle.link_parts.specs.Rounds.{Rounds, ScriptEnd, LinkCut, Faulty, Taken, and_message, rounds_from}
use Rattle.link_parts.specs.declared.fault.LinkFault.{LinkFault}
use Rattle.link_parts.specs.declared.message_reader.Taking.{Taking}
use Rattle.link_parts.specs.declared.message_reader.Taking.TheVariants as taking
use Rattle.link_parts.specs.declared.part.Part.{Part}
use Rattle.live_link.specs.declared.answer.LiveStatus.{LiveStatus}
use Rattle.live_link.specs.declared.answer.LiveStatus.TheVariants as status
use Rattle.live_link.specs.declared.receiver.Came.{Came}
use Rattle.live_link.specs.declared.receiver.Came.TheVariants as came
use Rattle.live_link.specs.declared.receiver.Receiver.{Receiver}

-- These octets were given on, and what was taken beyond them is pending.
pub record OctetsSoFar (start now : Option (List ℕ)) (feed : Feed) (octets : List ℕ) : Type 0 where
  pub took : Took start now (octets ++ feed.pending)
  pub given : feed.given ≡ length octets
  pub within : length octets ≤ most_bytes
  pub done : IsDone feed
  pub at_end : feed.ended ≡ true → IsAtEnd now

-- The receiver stands behind these octets, and before a message.
pub record StandsBehind (start now : Option (List ℕ)) (r : Receiver) (octets : List ℕ) : Type 0 where
  pub so_far : OctetsSoFar start now r.octets octets
  pub place : r.place ≡ length octets
  pub before : IsBefore r.reader

-- The receiver stands behind these octets and then more of them, with these whole parts of a message.
pub record StandsWithin (e : End) (start now : Option (List ℕ)) (r : Receiver) (octets more : List ℕ)
    (parts : List Part) : Type 0 where
  pub so_far : OctetsSoFar start now r.octets (octets ++ more)
  pub place : r.place ≡ length (octets ++ more)
  pub going : IsGoing r.reader.reader
  pub none : r.reader.none ≡ (length parts == 0)
  pub reads :
      (rest : List ℕ)
      → rounds_from e [] [] (length octets) (more ++ rest)
      ≡ rounds_from e parts (kept_of r.reader.reader) (length (octets ++ more)) rest

-- no message is whole
abbrev pub cut : Rounds
cut = record { messages = []; stop = LinkCut }

abbrev pub faulty : LinkFault → Rounds
faulty fault = record { messages = []; stop = Faulty fault }

-- The other end ended within a message, or before one.
pub record CutWithin (e : End) (start now : Option (List ℕ)) (octets : List ℕ) : Type 0 where
  pub more : List ℕ
  pub took : Took start now (octets ++ more)
  pub within : length (octets ++ more) ≤ most_bytes
  pub at_end : IsAtEnd now
  pub reads : rounds_from e [] [] (length octets) more ≡ cut

-- No message goes on with the last of these octets.
pub record FaultyWithin (e : End) (start now : Option (List ℕ)) (octets : List ℕ) (fault : LinkFault) : Type 0 where
  pub more : List ℕ
  pub took : Took start now (octets ++ more)
  pub place : fault.place < most_bytes
  pub reads : (rest : List ℕ) → rounds_from e [] [] (length octets) (more ++ rest) ≡ faulty fault

-- The other end wrote more octets than may be taken, and by the last that may be, the message isn't whole.
pub record OverWithin (e : End) (start now : Option (List ℕ)) (octets : List ℕ) : Type 0 where
  pub more : List ℕ
  pub rest : List ℕ
  pub took : Took start now (octets ++ (more ++ rest))
  pub full : length (octets ++ more) ≡ most_bytes
  pub beyond : 0 < length rest
  pub reads : rounds_from e [] [] (length octets) more ≡ cut

-- these octets were taken, and more
pub record TookMore (start now : Option (List ℕ)) (octets : List ℕ) : Type 0 where
  pub more : List ℕ
  pub took : Took start now (octets ++ more)

-- what stands of a message that an error stopped
abbrev pub Stops : End → (start now : Option (List ℕ)) → (octets : List ℕ) → LiveStatus → Type 0
Stops e start now octets status.LinkCut = CutWithin e start now octets
Stops e start now octets (status.LinkFault fault) = FaultyWithin e start now octets fault
Stops e start now octets status.ReadFault = TookMore start now octets
Stops e start now octets status.TooLong = OverWithin e start now octets
Stops e start now octets status.Memory = TookMore start now octets
Stops e start now octets _ = ⊥

-- The message is whole.
pub record MessageCame (e : End) (start now : Option (List ℕ)) (new : Receiver) (octets more : List ℕ)
    (parts : List Part) : Type 0 where
  pub stands : StandsBehind start now new (octets ++ more)
  pub reads :
      (rest : List ℕ)
      → rounds_from e [] [] (length octets) (more ++ rest)
      ≡ and_message parts (rounds_from e [] [] (length (octets ++ more)) rest)

-- In place of a message, the vehicle's script is at its end.
pub record ScriptEnded (e : End) (start now : Option (List ℕ)) (new : Receiver) (octets more : List ℕ) : Type 0 where
  pub so_far : OctetsSoFar start now new.octets (octets ++ more)
  pub reads :
      (rest : List ℕ)
      → rounds_from e [] [] (length octets) (more ++ rest) ≡ record { messages = ScriptEnd ∷ []; stop = LinkCut }

-- what one octet more comes to, behind these whole parts
abbrev pub TakesOctet : End → (start now : Option (List ℕ)) → (new : Receiver) → (octets : List ℕ) → List Part
    → Result Taking LiveStatus → Type 0
TakesOctet e start now new octets parts (Ok taking.GoesOn) =
    (more : List ℕ) × StandsWithin e start now new octets more parts
TakesOctet e start now new octets parts (Ok (taking.Part part)) =
    (more : List ℕ) × StandsWithin e start now new octets more (parts ++ part ∷ [])
TakesOctet e start now new octets parts (Ok taking.Message) =
    (more : List ℕ) × MessageCame e start now new octets more parts
TakesOctet e start now new octets parts (Ok taking.ScriptEnd) =
    (more : List ℕ) × ScriptEnded e start now new octets more
TakesOctet e start now new octets parts (Err how) = Stops e start now octets how

-- the same, with the parts kept: a message goes on, or it came
abbrev pub TakesStep : End → (start now : Option (List ℕ)) → (new : Receiver) → (octets : List ℕ) → List Part
    → Result (Option Came) LiveStatus → Type 0
TakesStep e start now new octets parts (Ok None) =
    (more : List ℕ) × StandsWithin e start now new octets more parts
TakesStep e start now new octets parts (Ok (Some came.Message)) =
    (more : List ℕ) × MessageCame e start now new octets more parts
TakesStep e start now new octets parts (Ok (Some came.ScriptEnd)) =
    (more : List ℕ) × ScriptEnded e start now new octets more
TakesStep e start now new octets parts (Err how) = Stops e start now octets how

-- what the reading of a message comes to
abbrev pub Receives : End → (start now : Option (List ℕ)) → (new : Receiver) → (octets : List ℕ) → List Part
    → Result Came LiveStatus → Type 0
Receives e start now new octets parts (Ok came.Message) =
    (more : List ℕ) × MessageCame e start now new octets more parts
Receives e start now new octets parts (Ok came.ScriptEnd) =
    (more : List ℕ) × ScriptEnded e start now new octets more
Receives e start now new octets parts (Err how) = Stops e start now octets how

-- what an octet that was read makes of the receiver
abbrev pub Hears : Taken → (octet : ℕ) → (old new : Receiver) → Result Taking LiveStatus → Type 0
Hears taken octet old new (Ok t) =
    TakesTo taken old.reader (Ok t) new.reader × (new.octets ≡ old.octets)
    × (new.place ≡ min (old.place + 1) 4294967295)
Hears taken octet old new (Err (status.LinkFault f)) =
    TakesTo taken old.reader (Err f.fault) new.reader × (new.octets ≡ old.octets) × (f.place ≡ old.place)
    × (f.octet ≡ octet)
Hears taken octet old new (Err _) = ⊥
