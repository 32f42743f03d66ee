-- A round of the vehicle's end, from one exchange of messages to the next.
use Rattle.std.specs.Prelude.{◌≡◌, ℕ, ◌+◌, ◌≤◌, Bool, List, [], ◌∷◌, ◌++◌, length, Option, Ok}
use Rattle.std.proofs.Common.{refl, sym, ap, subst, ◌∙◌, arith, append_assoc}
use Rattle.std.proofs.lemmas.List.{append-nil}
use Rattle.call_io.specs.Bytes.{Took, Grew, GrewPartly}
use Rattle.call_io.proofs.BytesLemmas.{Grew-append, GrewPartly-after, GrewPartly-longer, GrewPartly-whole}
use Rattle.link_frames.specs.declared.frame.End.TheVariants as «end»
use Rattle.line_input.specs.declared.reason.BadLine.{BadLine}
use Rattle.link_parts.specs.Messages.{message_end, message_octets}
use Rattle.link_parts.specs.Rounds.{LinkCut, Faulty, Rounds, Stop, and_message, parts_in, rounds_from}
use Rattle.link_parts.specs.declared.fault.LinkFault.{LinkFault}
use Rattle.link_parts.specs.declared.part.Part.{Part}
use Rattle.trace_model.specs.declared.entry.Entry.{Entry}
use Rattle.trace_text.specs.EntryLine.{text_of}
use Rattle.live_link.specs.LiveOutcome.{LiveStreams, Over}
use Rattle.live_link.specs.Runs.{Beat, Round, Line, Run, Steps, beats_of, run_behind}
use Rattle.live_link.specs.Runs as ending
use Rattle.live_link.specs.Turns.{Turn, entries_of}
use Rattle.live_link.specs.VehicleLive.{LiveVehicle, round, run_from}
use Rattle.live_link.specs.declared.answer.LiveStatus.{LiveStatus}
use Rattle.live_link.specs.declared.answer.LiveStatus.TheVariants as status
use Rattle.live_link.specs.declared.vehicle_end.VehicleEnd.{VehicleEnd}
use Rattle.live_link.specs.declared.vehicle_run.VehicleSide.{VehicleSide}
use Rattle.live_link.specs.inner.Brought.{CutOff, LinkEnded, Rest, RoundEnds, vehicle_behind, vehicle_left}
use Rattle.live_link.specs.declared.receiver.Came.{Came}
use Rattle.live_link.specs.declared.receiver.Came.TheVariants as came
use Rattle.live_link.specs.inner.Going.{MayReceive}
use Rattle.live_link.specs.inner.Receiving.{FaultyWithin, MessageCame, Receives, Stops, cut, faulty}
use Rattle.live_link.specs.inner.VehicleEnd.{Acts, ActsPartly, EndStandsFor}
use Rattle.live_link.specs.inner.VehicleGoes.{Exchanged, VehicleAt}
use Rattle.live_link.proofs.RoundLemmas.{cut_at, run_twice, turns_text}
use Rattle.live_link.proofs.VehicleBeats.{round_tick, vehicle_counted}

-- what an end that stands before a round writes first is its message, whatever comes of the round
first_octets : (s : LiveVehicle) (messages : List (List Part)) (stop : Stop) (refused : Option BadLine) (first : Bool)
    (beats : List Beat)
    → (rest : List ℕ)
    × ((run_from s messages stop refused (Round first ∷ beats)).octets ≡ message_octets s.gathered ++ rest)
first_octets s [] stop refused first beats = ([], sym (append-nil (message_octets s.gathered)))
first_octets s (parts ∷ messages) stop refused first beats =
    ((run_from (round s parts).new messages stop refused beats).octets, refl)

-- a run whose link stops before the round's message is whole
abbrev stopped : LiveVehicle → Stop → Run
stopped s stop =
    record { turns = []; octets = message_octets s.gathered; rounds = s.tick; ending = ending.LinkStopped stop }

-- Where an end stood before a round, whose message was written, and another read in part.
module _ (over : Over) (start old now : LiveStreams) (side : VehicleSide) (lines : List (List ℕ)) (rest : Rest)
    (first : Bool) (pending : List Beat) (at : VehicleAt over start old side lines rest (Round first ∷ pending)) where
  pub over_rounds : (more : List (List ℕ)) (taken : List ℕ) (r : Rounds)
      → rounds_from «end».Vehicle [] [] (length at.brought.octets) taken ≡ r
      → over (lines ++ more) (at.brought.octets ++ taken)
      ≡ run_behind at.brought.turns at.brought.sent (vehicle_behind at.left (Round first ∷ pending) (rest more) r)
  over_rounds more taken r reads =
      at.brought.same more taken
      ∙ ap (λ z. run_behind at.brought.turns at.brought.sent (vehicle_behind at.left (Round first ∷ pending) (rest more) z)) reads

  -- the message that is written first goes in part
  pub sends_partly : now.from ≡ old.from → now.trace ≡ old.trace → now.passes ≡ old.passes
      → GrewPartly old.to now.to (message_octets at.left.gathered) → CutOff over start now lines
  sends_partly from trace passes partly =
      cut_at over start now lines (at.brought.octets ++ side.receiver.octets.pending) at.brought.turns at.brought.sent
      (λ more. vehicle_left at.left (Round first ∷ pending) rest (length at.brought.octets) more side.receiver.octets.pending)
      (subst (λ (z : Option (List ℕ)). Took start.from z (at.brought.octets ++ side.receiver.octets.pending)) (sym from)
      at.brought.stands.so_far.took)
      (λ more. at.brought.same more side.receiver.octets.pending)
      (subst (λ (z : Option (List ℕ)). GrewPartly start.trace z (text_of (entries_of at.brought.turns))) (sym trace)
      (GrewPartly-whole start.trace old.trace (text_of (entries_of at.brought.turns)) at.brought.traced))
      wrote
      (λ more. vehicle_counted now.passes start.passes at.left (Round first ∷ pending) rest (length at.brought.octets) more
      side.receiver.octets.pending (let at_most = at.counted in omega (arith, passes, at_most)))
    where
      wrote : (more : List (List ℕ))
          → GrewPartly start.to now.to (at.brought.sent
          ++ (vehicle_left at.left (Round first ∷ pending) rest (length at.brought.octets) more side.receiver.octets.pending).octets)
      wrote more =
          let r = rounds_from «end».Vehicle [] [] (length at.brought.octets) side.receiver.octets.pending in
          let f = first_octets at.left (parts_in r.messages) r.stop (rest more).refused first (pending ++ beats_of (rest more).events) in
          subst (λ (z : List ℕ). GrewPartly start.to now.to (at.brought.sent ++ z)) (sym f.1)
          (GrewPartly-after start.to old.to now.to at.brought.sent (message_octets at.left.gathered ++ f.0) at.brought.wrote
          (GrewPartly-longer old.to now.to (message_octets at.left.gathered) f.0 partly))

  module _ (trace : now.trace ≡ old.trace) (wrote : Grew old.to now.to (message_octets at.left.gathered)) where
    pub traced : Grew start.trace now.trace (text_of (entries_of at.brought.turns))
    traced = subst (λ (z : Option (List ℕ)). Grew start.trace z (text_of (entries_of at.brought.turns))) (sym trace) at.brought.traced

    pub all_sent : Grew start.to now.to (at.brought.sent ++ message_octets at.left.gathered)
    all_sent = Grew-append start.to old.to now.to at.brought.sent (message_octets at.left.gathered) at.brought.wrote wrote

    -- the message that is read second does not come whole
    abbrev pub link_ends : (stop : Stop) (more : List ℕ) → now.passes ≡ old.passes
        → Took start.from now.from (at.brought.octets ++ more)
        → rounds_from «end».Vehicle [] [] (length at.brought.octets) more ≡ record { messages = []; stop = stop }
        → LinkEnded over start now lines stop
    link_ends stop more passes took reads =
        record {
          octets = at.brought.octets ++ more;
          run = run_behind at.brought.turns at.brought.sent (stopped at.left stop);
          took = took;
          same = λ others. over_rounds others more (record { messages = []; stop = stop }) reads;
          ended = refl;
          traced =
              subst (λ (z : List Turn). Grew start.trace now.trace (text_of (entries_of z)))
              (sym (append-nil at.brought.turns)) traced;
          wrote = all_sent;
          counted = let at_most = at.counted in omega (arith, passes, at_most);
        }

    all_octets : (more : List ℕ) (others : List (List ℕ))
        → GrewPartly start.to now.to (at.brought.sent
        ++ (vehicle_left at.left (Round first ∷ pending) rest (length at.brought.octets) others more).octets)
    all_octets more others =
        let r = rounds_from «end».Vehicle [] [] (length at.brought.octets) more in
        let f = first_octets at.left (parts_in r.messages) r.stop (rest others).refused first (pending ++ beats_of (rest others).events) in
        subst (λ (z : List ℕ). GrewPartly start.to now.to (at.brought.sent ++ z)) (sym f.1)
        (subst (λ (z : List ℕ). GrewPartly start.to now.to z)
        (append_assoc at.brought.sent (message_octets at.left.gathered) f.0)
        (GrewPartly-longer start.to now.to (at.brought.sent ++ message_octets at.left.gathered) f.0
        (GrewPartly-whole start.to now.to (at.brought.sent ++ message_octets at.left.gathered) all_sent)))

    abbrev message_cut : now.passes ≡ old.passes → (more : List ℕ) → Took start.from now.from (at.brought.octets ++ more)
        → CutOff over start now lines
    message_cut passes more took =
        cut_at over start now lines (at.brought.octets ++ more) at.brought.turns at.brought.sent
        (λ others. vehicle_left at.left (Round first ∷ pending) rest (length at.brought.octets) others more) took
        (λ others. at.brought.same others more)
        (GrewPartly-whole start.trace now.trace (text_of (entries_of at.brought.turns)) traced) (all_octets more)
        (λ others. vehicle_counted now.passes start.passes at.left (Round first ∷ pending) rest (length at.brought.octets)
        others more (let at_most = at.counted in omega (arith, passes, at_most)))

    -- no message goes on with an octet, whatever follows it
    link_faulty : (f : LinkFault) → now.passes ≡ old.passes
        → FaultyWithin «end».Vehicle start.from now.from at.brought.octets f
        → RoundEnds over start now lines (status.LinkFault f)
    link_faulty f passes h = (
      link_ends (Faulty f) h.more passes h.took
          (ap (λ z. rounds_from «end».Vehicle [] [] (length at.brought.octets) z) (sym (append-nil h.more)) ∙ h.reads []),
      λ more others.
          ap (λ z. over (lines ++ more) z) (append_assoc at.brought.octets h.more others)
          ∙ over_rounds more (h.more ++ others) (faulty f) (h.reads others),
      h.place,
    )

    pub reads_none : (how : LiveStatus) → now.passes ≡ old.passes
        → Stops «end».Vehicle start.from now.from at.brought.octets how → RoundEnds over start now lines how
    reads_none status.LinkCut passes h = (link_ends LinkCut h.more passes h.took h.reads, h.at_end, h.within)
    reads_none (status.LinkFault f) passes h = link_faulty f passes h
    reads_none status.ReadFault passes h = message_cut passes h.more h.took
    reads_none status.Memory passes h = message_cut passes h.more h.took
    reads_none status.TooLong passes h = (
      message_cut passes (h.more ++ h.rest) h.took,
      record {
        front = at.brought.octets ++ h.more;
        rest = h.rest;
        split = sym (append_assoc at.brought.octets h.more h.rest);
        full = h.full;
        beyond = h.beyond;
        wants = λ others. ap (λ z. z.ending) (over_rounds others h.more cut h.reads);
      },
    )
    reads_none status.Done passes h = absurd h
    reads_none (status.Refused bad) passes h = absurd h
    reads_none status.WriteFault passes h = absurd h
    reads_none status.PeerEnded passes h = absurd h
    reads_none status.NoLink passes h = absurd h

    -- it comes whole
    pub reads_message : (side' : VehicleSide) (more : List ℕ) → now.passes ≡ old.passes → side'.end ≡ side.end
        → MessageCame «end».Vehicle start.from now.from side'.receiver at.brought.octets more side'.parts.items
        → Exchanged over start now side' lines rest pending
    reads_message side' more passes same message =
        record {
          left = at.left;
          stands = subst (λ (z : VehicleEnd). EndStandsFor z at.left) (sym same) at.stands;
          counted = let at_most = at.counted in omega (arith, passes, at_most);
          octets = at.brought.octets ++ more;
          turns = at.brought.turns;
          sent = at.brought.sent ++ message_octets at.left.gathered;
          behind = message.stands;
          traced = traced;
          wrote = all_sent;
          same = λ others octets.
              ap (λ z. over (lines ++ others) z) (append_assoc at.brought.octets more octets)
              ∙ over_rounds others (more ++ octets)
              (and_message side'.parts.items (rounds_from «end».Vehicle [] [] (length (at.brought.octets ++ more)) octets))
              (message.reads octets)
              ∙ run_twice at.brought.turns (round at.left side'.parts.items).turns at.brought.sent (message_octets at.left.gathered)
              (vehicle_left (round at.left side'.parts.items).new pending rest (length (at.brought.octets ++ more)) others octets);
        }

    -- what is read in its place comes to no round
    pub reads_what : (side' : VehicleSide) → now.passes ≡ old.passes → side'.end ≡ side.end → (what : Came)
        → MayReceive what «end».Vehicle side'.receiver
        → Receives «end».Vehicle start.from now.from side'.receiver at.brought.octets side'.parts.items (Ok what)
        → Exchanged over start now side' lines rest pending
    reads_what side' passes same came.Message may h = reads_message side' h.0 passes same h.1
    reads_what side' passes same came.ScriptEnd may h = absurd may

-- the octets of what was gathered are those of the message
pub message_is : (e : VehicleEnd) (s : LiveVehicle) (gathered : List ℕ) → EndStandsFor e s → gathered ≡ e.gathered.items
    → gathered ++ message_end ∷ [] ≡ message_octets s.gathered
message_is e s gathered stands same = ap (λ z. z ++ message_end ∷ []) (same ∙ sym stands.gathered)

-- The round goes on behind the exchange.
module _ (over : Over) (start old now : LiveStreams) (side : VehicleSide) (lines : List (List ℕ)) (rest : Rest)
    (pending : List Beat) (x : Exchanged over start old side lines rest pending) (from : now.from ≡ old.from)
    (to : now.to ≡ old.to) where
  -- all of it is told
  pub tells_round : (grew : List Entry → Type 0) (side' : VehicleSide)
      → ((es : List Entry) → grew es → Grew old.trace now.trace (text_of es))
      → Acts grew side.end side'.end (λ s. round s side.parts.items) → side'.receiver ≡ side.receiver
      → now.passes ≤ old.passes + 1 → (round x.left side.parts.items).new.tick ≡ x.left.tick + 1
      → VehicleAt over start now side' lines rest pending
  tells_round grew side' is acts same passes tick =
      record {
        left = (round x.left side.parts.items).new;
        stands = acts.stands x.left x.stands;
        counted = let at_most = x.counted in omega (arith, passes, at_most, tick);
        brought =
            record {
              octets = x.octets;
              turns = x.turns ++ (round x.left side.parts.items).turns;
              sent = x.sent;
              stands = rw same (rw from x.behind);
              traced =
                  subst (λ (z : List ℕ). Grew start.trace now.trace z)
                  (sym (turns_text x.turns (round x.left side.parts.items).turns))
                  (Grew-append start.trace old.trace now.trace (text_of (entries_of x.turns))
                  (text_of (entries_of (round x.left side.parts.items).turns)) x.traced
                  (is (entries_of (round x.left side.parts.items).turns) (acts.told x.left x.stands)));
              wrote = rw to x.wrote;
              same = x.same;
            };
      }

  -- a part of it is told
  pub tells_partly : (partly : List Entry → Type 0)
      → ((es : List Entry) → partly es → GrewPartly old.trace now.trace (text_of es))
      → ActsPartly partly side.end (λ s. round s side.parts.items) → now.passes ≤ old.passes + 1
      → CutOff over start now lines
  tells_partly partly is acts passes =
      cut_at over start now lines (x.octets ++ side.receiver.octets.pending)
      (x.turns ++ (round x.left side.parts.items).turns) x.sent
      (λ more. vehicle_left (round x.left side.parts.items).new pending rest (length x.octets) more side.receiver.octets.pending)
      (rw from x.behind.so_far.took)
      (λ more. x.same more side.receiver.octets.pending)
      (subst (λ (z : List ℕ). GrewPartly start.trace now.trace z)
      (sym (turns_text x.turns (round x.left side.parts.items).turns))
      (GrewPartly-after start.trace old.trace now.trace (text_of (entries_of x.turns))
      (text_of (entries_of (round x.left side.parts.items).turns)) x.traced
      (is (entries_of (round x.left side.parts.items).turns) (acts x.left x.stands))))
      (λ more. GrewPartly-longer start.to now.to x.sent
      (vehicle_left (round x.left side.parts.items).new pending rest (length x.octets) more side.receiver.octets.pending).octets
      (GrewPartly-whole start.to now.to x.sent (rw to x.wrote)))
      (λ more. vehicle_counted now.passes start.passes (round x.left side.parts.items).new pending rest (length x.octets) more
      side.receiver.octets.pending
      (let at_most = x.counted in let tick = round_tick x.left side.parts.items in omega (arith, passes, at_most, tick)))
