-- A round of the point's end, from one message that it reads to the next, and the end of the vehicle's script in place of
-- one.
use Rattle.std.specs.Prelude.{◌≡◌, ℕ, zero, suc, ◌+◌, ◌≤◌, Bool, false, List, [], ◌∷◌, ◌++◌, length, Option, None, Result, Ok, Err, replicate}
use Rattle.std.proofs.Common.{refl, sym, ap, subst, ◌∙◌, arith, append_assoc}
use Rattle.std.proofs.lemmas.List.{append-nil}
use Rattle.call_io.specs.Bytes.{Took, Grew, GrewPartly}
use Rattle.call_io.proofs.BytesLemmas.{Grew-append, GrewPartly-after, GrewPartly-longer, GrewPartly-whole}
use Rattle.link_frames.specs.declared.frame.End.TheVariants as «end»
use Rattle.link_parts.specs.Messages.{message_end, message_octets}
use Rattle.link_parts.specs.declared.fault.LinkFault.{LinkFault}
use Rattle.link_parts.specs.Rounds.{LinkCut, Faulty, Message, Parts, Rounds, ScriptEnd, Stop, and_message, rounds_from}
use Rattle.trace_model.specs.declared.entry.Entry.{Entry}
use Rattle.trace_text.specs.EntryLine.{text_of}
use Rattle.live_link.specs.LiveOutcome.{LiveStreams, Over}
use Rattle.live_link.specs.PointLive.{LivePoint, at_peer_end, lines_follow, round, run_from, run_on}
use Rattle.live_link.specs.Runs.{Beat, Round, Run, beats_of, run_behind}
use Rattle.live_link.specs.Runs as ending
use Rattle.live_link.specs.Turns.{Turn, entries_of}
use Rattle.live_link.specs.declared.answer.LiveStatus.{LiveStatus}
use Rattle.live_link.specs.declared.answer.LiveStatus.TheVariants as status
use Rattle.live_link.specs.declared.point_end.PointEnd.{PointEnd}
use Rattle.live_link.specs.declared.point_run.PointSide.{PointSide}
use Rattle.live_link.specs.declared.receiver.Came.{Came}
use Rattle.live_link.specs.declared.receiver.Came.TheVariants as came
use Rattle.live_link.specs.inner.Brought.{CutOff, LinkEnded, Rest, RoundEnds, point_behind, point_left}
use Rattle.live_link.specs.inner.PointEnd.{PointActs, PointActsPartly, PointStandsFor}
use Rattle.live_link.specs.inner.PointGoes.{DoneAt, EndsOn, PeerAt, PointAt, PointRead, ReadsRound, no_more}
use Rattle.live_link.specs.inner.Receiving.{FaultyWithin, MessageCame, Receives, ScriptEnded, Stops, cut, faulty}
use Rattle.live_link.proofs.PointBeats.{point_counted, round_tick}
use Rattle.live_link.proofs.RoundLemmas.{cut_at, cut_of, run_twice, standing_of, turns_text}

-- a run whose link stops before the round's message is whole
abbrev stopped : LivePoint → Stop → Run
stopped s stop = record { turns = []; octets = []; rounds = s.tick; ending = ending.LinkStopped stop }

-- rounds that are left of a line are no further line
pub rounds_follow : (n : ℕ) (beats : List Beat) → lines_follow (replicate n (Round false) ++ beats) ≡ lines_follow beats
rounds_follow zero beats = refl
rounds_follow (suc n) beats = rounds_follow n beats

-- Where an end stood before a round, with so many more of the line's to come behind it.
module _ (over : Over) (start old now : LiveStreams) (side : PointSide) (lines : List (List ℕ)) (rest : Rest)
    (first : Bool) (later : ℕ)
    (at : PointAt over start old side lines rest (Round first ∷ replicate later (Round false))) where
  abbrev pub pending : List Beat
  pending = replicate later (Round false)

  pub over_rounds : (more : List (List ℕ)) (taken : List ℕ) (r : Rounds)
      → rounds_from «end».Point [] [] (length at.brought.octets) taken ≡ r
      → over (lines ++ more) (at.brought.octets ++ taken)
      ≡ run_behind at.brought.turns at.brought.sent (point_behind at.left (Round first ∷ pending) (rest more) r)
  over_rounds more taken r reads =
      at.brought.same more taken
      ∙ ap (λ z. run_behind at.brought.turns at.brought.sent (point_behind at.left (Round first ∷ pending) (rest more) z)) reads

  module _ (trace : now.trace ≡ old.trace) (to : now.to ≡ old.to) (passes : now.passes ≡ old.passes) where
    pub traced : Grew start.trace now.trace (text_of (entries_of at.brought.turns))
    traced = subst (λ (z : Option (List ℕ)). Grew start.trace z (text_of (entries_of at.brought.turns))) (sym trace) at.brought.traced

    pub wrote : Grew start.to now.to at.brought.sent
    wrote = subst (λ (z : Option (List ℕ)). Grew start.to z at.brought.sent) (sym to) at.brought.wrote

    -- the message does not come whole
    abbrev pub link_ends : (stop : Stop) (more : List ℕ) → Took start.from now.from (at.brought.octets ++ more)
        → rounds_from «end».Point [] [] (length at.brought.octets) more ≡ record { messages = []; stop = stop }
        → LinkEnded over start now lines stop
    link_ends stop more took reads =
        record {
          octets = at.brought.octets ++ more;
          run = run_behind at.brought.turns at.brought.sent (stopped at.left stop);
          took = took;
          same = λ others. over_rounds others more (record { messages = []; stop = stop }) reads;
          ended = refl;
          traced =
              subst (λ (z : List Turn). Grew start.trace now.trace (text_of (entries_of z)))
              (sym (append-nil at.brought.turns)) traced;
          wrote = subst (λ (z : List ℕ). Grew start.to now.to z) (sym (append-nil at.brought.sent)) wrote;
          counted = let at_most = at.counted in omega (arith, passes, at_most);
        }

    abbrev pub message_cut : (more : List ℕ) → Took start.from now.from (at.brought.octets ++ more)
        → CutOff over start now lines
    message_cut more took =
        cut_at over start now lines (at.brought.octets ++ more) at.brought.turns at.brought.sent
        (λ others. point_left at.left (Round first ∷ pending) rest (length at.brought.octets) others more) took
        (λ others. at.brought.same others more)
        (GrewPartly-whole start.trace now.trace (text_of (entries_of at.brought.turns)) traced)
        (λ others. GrewPartly-longer start.to now.to at.brought.sent
        (point_left at.left (Round first ∷ pending) rest (length at.brought.octets) others more).octets
        (GrewPartly-whole start.to now.to at.brought.sent wrote))
        (λ others. point_counted now.passes start.passes at.left (Round first ∷ pending) rest (length at.brought.octets) others
        more (let at_most = at.counted in omega (arith, passes, at_most)))

    -- no message goes on with an octet, whatever follows it
    link_faulty : (f : LinkFault) → FaultyWithin «end».Point start.from now.from at.brought.octets f
        → RoundEnds over start now lines (status.LinkFault f)
    link_faulty f h = (
      link_ends (Faulty f) h.more h.took
          (ap (λ z. rounds_from «end».Point [] [] (length at.brought.octets) z) (sym (append-nil h.more)) ∙ h.reads []),
      λ more others.
          ap (λ z. over (lines ++ more) z) (append_assoc at.brought.octets h.more others)
          ∙ over_rounds more (h.more ++ others) (faulty f) (h.reads others),
      h.place,
    )

    pub reads_none : (how : LiveStatus) → Stops «end».Point start.from now.from at.brought.octets how
        → RoundEnds over start now lines how
    reads_none status.LinkCut h = (link_ends LinkCut h.more h.took h.reads, h.at_end, h.within)
    reads_none (status.LinkFault f) h = link_faulty f h
    reads_none status.ReadFault h = message_cut h.more h.took
    reads_none status.Memory h = message_cut h.more h.took
    reads_none status.TooLong h = (
      message_cut (h.more ++ h.rest) h.took,
      record {
        front = at.brought.octets ++ h.more;
        rest = h.rest;
        split = sym (append_assoc at.brought.octets h.more h.rest);
        full = h.full;
        beyond = h.beyond;
        wants = λ others. ap (λ z. z.ending) (over_rounds others h.more cut h.reads);
      },
    )
    reads_none status.Done h = absurd h
    reads_none (status.Refused bad) h = absurd h
    reads_none status.WriteFault h = absurd h
    reads_none status.PeerEnded h = absurd h
    reads_none status.NoLink h = absurd h

    module _ (side' : PointSide) (same : side'.end ≡ side.end) where
      -- it comes whole
      reads_message : (more : List ℕ)
          → MessageCame «end».Point start.from now.from side'.receiver at.brought.octets more side'.parts.items
          → PointRead over start now side' lines rest pending
      reads_message more message =
          record {
            left = at.left;
            stands = subst (λ (z : PointEnd). PointStandsFor z at.left) (sym same) at.stands;
            counted = let at_most = at.counted in omega (arith, passes, at_most);
            octets = at.brought.octets ++ more;
            turns = at.brought.turns;
            sent = at.brought.sent;
            behind = message.stands;
            traced = traced;
            wrote = wrote;
            same = λ others octets.
                ap (λ z. over (lines ++ others) z) (append_assoc at.brought.octets more octets)
                ∙ over_rounds others (more ++ octets)
                (and_message side'.parts.items (rounds_from «end».Point [] [] (length (at.brought.octets ++ more)) octets))
                (message.reads octets)
                ∙ run_twice at.brought.turns (round at.left side'.parts.items).turns at.brought.sent (message_octets at.left.gathered)
                (point_left (round at.left side'.parts.items).new pending rest (length (at.brought.octets ++ more)) others octets);
          }

      -- in its place the vehicle's script is at its end
      reads_end : (more : List ℕ) → ScriptEnded «end».Point start.from now.from side'.receiver at.brought.octets more
          → PeerAt over start now lines rest
      reads_end more ended =
          record {
            left = at.left;
            octets = at.brought.octets ++ more;
            pending = side'.receiver.octets.pending;
            turns = at.brought.turns;
            sent = at.brought.sent;
            counted = let at_most = at.counted in omega (arith, passes, at_most);
            took = ended.so_far.took;
            within = ended.so_far.within;
            traced = traced;
            wrote = wrote;
            same = λ others octets.
                ap (λ z. over (lines ++ others) z) (append_assoc at.brought.octets more octets)
                ∙ over_rounds others (more ++ octets) (record { messages = ScriptEnd ∷ []; stop = LinkCut }) (ended.reads octets)
                ∙ ap (λ z. run_behind at.brought.turns at.brought.sent (at_peer_end at.left (rest others).refused z))
                (rounds_follow later (beats_of (rest others).events));
          }

      pub reads_what : (what : Came)
          → Receives «end».Point start.from now.from side'.receiver at.brought.octets side'.parts.items (Ok what)
          → ReadsRound over start now side' lines rest pending (Ok what)
      reads_what came.Message h = reads_message h.0 h.1
      reads_what came.ScriptEnd h = reads_end h.0 h.1

      pub reads_round : (answer : Result Came LiveStatus)
          → Receives «end».Point start.from now.from side'.receiver at.brought.octets side'.parts.items answer
          → ReadsRound over start now side' lines rest pending answer
      reads_round (Ok what) h = reads_what what h
      reads_round (Err how) h = reads_none how h

-- the octets of what was gathered are those of the message
pub message_is : (e : PointEnd) (s : LivePoint) (gathered : List ℕ) → PointStandsFor e s → gathered ≡ e.gathered.items
    → gathered ++ message_end ∷ [] ≡ message_octets s.gathered
message_is e s gathered stands same = ap (λ z. z ++ message_end ∷ []) (same ∙ sym stands.gathered)

-- A message that was read is answered.
module _ (over : Over) (start old now : LiveStreams) (side : PointSide) (lines : List (List ℕ)) (rest : Rest)
    (pending : List Beat) (x : PointRead over start old side lines rest pending) (from : now.from ≡ old.from) where
  abbrev pub turned : List Turn
  turned = x.turns ++ (round x.left side.parts.items).turns

  abbrev pub further : List (List ℕ) → Run
  further more =
      point_left (round x.left side.parts.items).new pending rest (length x.octets) more side.receiver.octets.pending

  taken : Took start.from now.from (x.octets ++ side.receiver.octets.pending)
  taken = rw from x.behind.so_far.took

  further_counted : (more : List (List ℕ)) → now.passes ≤ start.passes + x.left.tick + 1
      → now.passes ≤ start.passes + (further more).rounds + 1
  further_counted more at_most =
      let tick = round_tick x.left side.parts.items in
      point_counted now.passes start.passes (round x.left side.parts.items).new pending rest (length x.octets) more
      side.receiver.octets.pending (omega (arith, at_most, tick))

  -- its own message goes in part
  pub sends_partly : now.trace ≡ old.trace → now.passes ≡ old.passes
      → GrewPartly old.to now.to (message_octets x.left.gathered) → CutOff over start now lines
  sends_partly trace passes partly =
      cut_at over start now lines (x.octets ++ side.receiver.octets.pending) turned
      (x.sent ++ message_octets x.left.gathered) further taken (λ more. x.same more side.receiver.octets.pending)
      (rw trace
      (subst (λ (z : List ℕ). GrewPartly start.trace old.trace z)
      (sym (turns_text x.turns (round x.left side.parts.items).turns))
      (GrewPartly-longer start.trace old.trace (text_of (entries_of x.turns))
      (text_of (entries_of (round x.left side.parts.items).turns))
      (GrewPartly-whole start.trace old.trace (text_of (entries_of x.turns)) x.traced))))
      (λ more. GrewPartly-longer start.to now.to (x.sent ++ message_octets x.left.gathered) (further more).octets
      (GrewPartly-after start.to old.to now.to x.sent (message_octets x.left.gathered) x.wrote partly))
      (λ more. further_counted more (let at_most = x.counted in omega (arith, passes, at_most)))

  module _ (wrote : Grew old.to now.to (message_octets x.left.gathered)) where
    all_sent : Grew start.to now.to (x.sent ++ message_octets x.left.gathered)
    all_sent = Grew-append start.to old.to now.to x.sent (message_octets x.left.gathered) x.wrote wrote

    -- all of the round is told
    pub tells_round : (grew : List Entry → Type 0) (side' : PointSide)
        → ((es : List Entry) → grew es → Grew old.trace now.trace (text_of es))
        → PointActs grew side.end side'.end (λ s. round s side.parts.items) → side'.receiver ≡ side.receiver
        → now.passes ≤ old.passes + 1 → (round x.left side.parts.items).new.tick ≡ x.left.tick + 1
        → PointAt over start now side' lines rest pending
    tells_round grew side' is acts same passes tick =
        record {
          left = (round x.left side.parts.items).new;
          stands = acts.stands x.left x.stands;
          counted = let at_most = x.counted in omega (arith, passes, at_most, tick);
          brought =
              record {
                octets = x.octets;
                turns = turned;
                sent = x.sent ++ message_octets x.left.gathered;
                stands = rw same (rw from x.behind);
                traced =
                    subst (λ (z : List ℕ). Grew start.trace now.trace z)
                    (sym (turns_text x.turns (round x.left side.parts.items).turns))
                    (Grew-append start.trace old.trace now.trace (text_of (entries_of x.turns))
                    (text_of (entries_of (round x.left side.parts.items).turns)) x.traced
                    (is (entries_of (round x.left side.parts.items).turns) (acts.told x.left x.stands)));
                wrote = all_sent;
                same = x.same;
              };
        }

    -- a part of it is told
    pub tells_partly : (partly : List Entry → Type 0)
        → ((es : List Entry) → partly es → GrewPartly old.trace now.trace (text_of es))
        → PointActsPartly partly side.end (λ s. round s side.parts.items) → now.passes ≤ old.passes + 1
        → CutOff over start now lines
    tells_partly partly is acts passes =
        cut_at over start now lines (x.octets ++ side.receiver.octets.pending) turned
        (x.sent ++ message_octets x.left.gathered) further taken (λ more. x.same more side.receiver.octets.pending)
        (subst (λ (z : List ℕ). GrewPartly start.trace now.trace z)
        (sym (turns_text x.turns (round x.left side.parts.items).turns))
        (GrewPartly-after start.trace old.trace now.trace (text_of (entries_of x.turns))
        (text_of (entries_of (round x.left side.parts.items).turns)) x.traced
        (is (entries_of (round x.left side.parts.items).turns) (acts x.left x.stands))))
        (λ more. GrewPartly-longer start.to now.to (x.sent ++ message_octets x.left.gathered) (further more).octets
        (GrewPartly-whole start.to now.to (x.sent ++ message_octets x.left.gathered) all_sent))
        (λ more. further_counted more (let at_most = x.counted in omega (arith, passes, at_most)))

-- Behind its script the run goes on as rounds of a line that has no end.

on_by_round : (s : LivePoint) (messages : List Message) (stop : Stop) (first : Bool)
    → run_from s messages stop None (Round first ∷ []) ≡ run_on s stop messages
on_by_round s [] stop first = refl
on_by_round s (ScriptEnd ∷ messages) stop first = refl
on_by_round s (Parts parts ∷ messages) stop first = refl

pub goes_round : (over : Over) (start now : LiveStreams) (side : PointSide) (lines : List (List ℕ))
    → PointAt over start now side lines no_more [] → PointAt over start now side lines no_more (Round false ∷ [])
goes_round over start now side lines at =
    record {
      left = at.left;
      stands = at.stands;
      counted = at.counted;
      brought =
          record {
            octets = at.brought.octets;
            turns = at.brought.turns;
            sent = at.brought.sent;
            stands = at.brought.stands;
            traced = at.brought.traced;
            wrote = at.brought.wrote;
            same = λ more others.
                let r = rounds_from «end».Point [] [] (length at.brought.octets) others in
                at.brought.same more others
                ∙ ap (λ z. run_behind at.brought.turns at.brought.sent z) (sym (on_by_round at.left r.messages r.stop false));
          };
    }

-- Behind its script the run is done where the vehicle's script is at its end.
pub on_done : (over : Over) (start now : LiveStreams) (lines : List (List ℕ)) → PeerAt over start now lines no_more
    → DoneAt over start now lines
on_done over start now lines at =
    record {
      octets = at.octets;
      pending = at.pending;
      run = run_behind at.turns at.sent (at_peer_end at.left None false);
      took = at.took;
      within = at.within;
      ended = refl;
      traced =
          subst (λ (z : List Turn). Grew start.trace now.trace (text_of (entries_of z))) (sym (append-nil at.turns)) at.traced;
      wrote = subst (λ (z : List ℕ). Grew start.to now.to z) (sym (append-nil at.sent)) at.wrote;
      counted = let at_most = at.counted in omega (arith, at_most);
      same = λ more others. at.same more others;
    }

-- how a round ends is how the run ends behind its script
pub on_ends : (over : Over) (start now : LiveStreams) (lines : List (List ℕ)) (how : LiveStatus)
    → RoundEnds over start now lines how → EndsOn over start now lines how
on_ends over start now lines status.LinkCut h = h
on_ends over start now lines (status.LinkFault f) h = h
on_ends over start now lines status.ReadFault h = h
on_ends over start now lines status.WriteFault h = h
on_ends over start now lines status.Memory h = h
on_ends over start now lines status.TooLong h = h
on_ends over start now lines status.Done h = absurd h
on_ends over start now lines (status.Refused bad) h = absurd h
on_ends over start now lines status.PeerEnded h = absurd h
on_ends over start now lines status.NoLink h = absurd h

-- nothing more was written
pub on_cut : (over : Over) (start now : LiveStreams) (side : PointSide) (lines : List (List ℕ)) (rest : Rest)
    (pending : List Beat) → PointAt over start now side lines rest pending → CutOff over start now lines
on_cut over start now side lines rest pending at =
    let left = point_left at.left pending rest in
    cut_of over start now lines left
    (standing_of over start now side.receiver lines left at.brought
    (λ more others. point_counted now.passes start.passes at.left pending rest (length at.brought.octets) more others at.counted))

-- Where nothing else changed.
module _ (over : Over) (start old now : LiveStreams) (lines : List (List ℕ)) (rest : Rest) (trace : now.trace ≡ old.trace)
    (from : now.from ≡ old.from) (to : now.to ≡ old.to) (passes : now.passes ≡ old.passes) where
  pub still_at : (side : PointSide) (pending : List Beat) → PointAt over start old side lines rest pending
      → PointAt over start now side lines rest pending
  still_at side pending at =
      record {
        left = at.left;
        stands = at.stands;
        counted = let at_most = at.counted in omega (arith, passes, at_most);
        brought =
            record {
              octets = at.brought.octets;
              turns = at.brought.turns;
              sent = at.brought.sent;
              stands = rw from at.brought.stands;
              traced = rw trace at.brought.traced;
              wrote = rw to at.brought.wrote;
              same = at.brought.same;
            };
      }

  pub still_peer : PeerAt over start old lines rest → PeerAt over start now lines rest
  still_peer at =
      record {
        left = at.left;
        octets = at.octets;
        pending = at.pending;
        turns = at.turns;
        sent = at.sent;
        counted = let at_most = at.counted in omega (arith, passes, at_most);
        took = rw from at.took;
        within = at.within;
        traced = rw trace at.traced;
        wrote = rw to at.wrote;
        same = at.same;
      }
