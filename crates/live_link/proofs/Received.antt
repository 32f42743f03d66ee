-- How a message is read, octet by octet.
use Rattle.std.specs.Prelude.{◌≡◌, ℕ, ◌+◌, ◌≤◌, ◌⊎◌, ◌==◌, true, false, List, [], ◌∷◌, ◌++◌, length, min, Option, Some, None, Result, Ok, Err}
use Rattle.std.specs.Io.KnownBytes.{IsAtEnd}
use Rattle.std.proofs.Common.{refl, sym, ap, subst, ◌∙◌, inl, inr, arith, append_assoc, length-append}
use Rattle.std.proofs.lemmas.Bool.{ne_eqb}
use Rattle.std.proofs.lemmas.List.{append-nil}
use Rattle.call_io.specs.Bytes.{Took}
use Rattle.call_io.proofs.BytesLemmas.{Took-append, Took-nothing}
use Rattle.line_input.specs.Feed.{Draws, Feed, first_feed}
use Rattle.line_input.specs.Giving.{NextByte}
use Rattle.line_input.specs.Lines.{most_bytes}
use Rattle.line_input.specs.declared.fault.LineFault.{LineFault}
use Rattle.line_input.specs.declared.fault.LineFault.TheVariants as fault
use Rattle.link_frames.specs.declared.frame.End.{End}
use Rattle.link_parts.specs.MessageReading.{TakesTo}
use Rattle.link_parts.specs.PartReading.{kept_of}
use Rattle.link_parts.specs.Rounds.{Rounds, ScriptEnd, LinkCut, Faulty, Taken, GoesOn, Gives, EndsMessage, EndsScript, Stops as StopsAt, and_message, rounds_from, take_octet}
use Rattle.link_parts.specs.declared.fault.LinkFault.{LinkFault}
use Rattle.link_parts.specs.declared.fault.PartFault.{PartFault}
use Rattle.link_parts.specs.declared.message_reader.Taking.{Taking}
use Rattle.link_parts.specs.declared.message_reader.Taking.TheVariants as taking
use Rattle.link_parts.specs.declared.part.Part.{Part}
use Rattle.live_link.specs.declared.answer.LiveStatus.{LiveStatus}
use Rattle.live_link.specs.declared.answer.LiveStatus.TheVariants as status
use Rattle.live_link.specs.declared.receiver.Came.{Came}
use Rattle.live_link.specs.declared.receiver.Came.TheVariants as came
use Rattle.live_link.specs.declared.receiver.Receiver.{Receiver}
use Rattle.live_link.specs.inner.Going.{Notes, halt_of}
use Rattle.live_link.specs.inner.Receiving.{OctetsSoFar, StandsBehind, StandsWithin, cut, faulty, MessageCame, ScriptEnded, Hears, CutWithin, FaultyWithin, TookMore, Stops, TakesOctet, TakesStep, Receives}

-- Octets.

pub nothing_taken : (start : Option (List ℕ)) → OctetsSoFar start start first_feed []
nothing_taken start =
    record {
      took = Took-nothing start;
      given = refl;
      within = omega arith;
      done = λ e. refl;
      at_end = λ e. absurd (cc);
    }

pub all_taken : (start now left : Option (List ℕ)) (old new : Feed) (z taken : List ℕ) → OctetsSoFar start now old z
    → Draws old new now left taken → Took start left (z ++ (old.pending ++ taken))
all_taken start now left old new z taken s draws =
    subst (λ (w : List ℕ). Took start left w) (append_assoc z old.pending taken)
    (Took-append start now left (z ++ old.pending) taken s.took draws.took)

pub still_end : (start now left : Option (List ℕ)) (old new : Feed) (z taken : List ℕ) → OctetsSoFar start now old z
    → Draws old new now left taken → new.ended ≡ true → IsAtEnd left
still_end start now left old new z taken s draws ended = by_end (draws.«end» ended)
  where
    same_left : (a b : Option (List ℕ)) → Took a b [] → a ≡ b
    same_left a None h = h
    same_left a (Some xs) h = h

    by_end : (old.ended ≡ true) ⊎ IsAtEnd left → IsAtEnd left
    by_end (inr h) = h
    by_end (inl h) =
        subst IsAtEnd (same_left now left (subst (λ (w : List ℕ). Took now left w) (draws.idle h) draws.took)) (s.at_end h)

pub octet_given : (start now left : Option (List ℕ)) (old new : Feed) (z : List ℕ) (o : ℕ) → OctetsSoFar start now old z
    → NextByte old new now left (Ok (Some o)) → new.given ≤ most_bytes → OctetsSoFar start left new (z ++ o ∷ [])
octet_given start now left old new z o s r limit =
    record {
      took =
          subst (λ (w : List ℕ). Took start left w)
          (ap (λ w. z ++ w) r.gives.0 ∙ sym (append_assoc z (o ∷ []) new.pending))
          (all_taken start now left old new z r.taken s r.draws);
      given = simp length-append (omega (arith, s.given, r.gives.1));
      within = simp length-append (omega (arith, s.given, r.gives.1, limit));
      done = r.done;
      at_end = λ e. still_end start now left old new z r.taken s r.draws e;
    }

-- Messages.

abbrev by_taken : End → List Part → (kept : List ℕ) → (place o : ℕ) → List ℕ → Taken → Rounds
by_taken e parts kept place o rest (GoesOn more) = rounds_from e parts more (place + 1) rest
by_taken e parts kept place o rest (Gives part) = rounds_from e (parts ++ part ∷ []) [] (place + 1) rest
by_taken e parts kept place o rest EndsMessage = and_message parts (rounds_from e [] [] (place + 1) rest)
by_taken e parts kept place o rest EndsScript = record { messages = ScriptEnd ∷ []; stop = LinkCut }
by_taken e parts kept place o rest (StopsAt f) =
    record { messages = []; stop = Faulty (record { place = place; fault = f; octet = o }) }

is_by : (e : End) (parts : List Part) (kept : List ℕ) (place o : ℕ) (rest : List ℕ) (t : Taken)
    → take_octet e (length parts == 0) kept o ≡ t
    → rounds_from e parts kept place (o ∷ rest) ≡ by_taken e parts kept place o rest t
is_by e parts kept place o rest (GoesOn more) h = rw (rounds_from, h) refl
is_by e parts kept place o rest (Gives part) h = rw (rounds_from, h) refl
is_by e parts kept place o rest EndsMessage h = rw (rounds_from, h) refl
is_by e parts kept place o rest EndsScript h = rw (rounds_from, h) refl
is_by e parts kept place o rest (StopsAt f) h = rw (rounds_from, h) refl

-- what an octet makes of the rounds, within a message
module _ (e : End) (start now left : Option (List ℕ)) (old : Receiver) (octets more : List ℕ) (parts : List Part) (o : ℕ)
    (s : StandsWithin e start now old octets more parts) where
  abbrev pub next : Taken
  next = take_octet e old.reader.none (kept_of old.reader.reader) o

  behind : (t : Taken) → next ≡ t → (rest : List ℕ)
      → rounds_from e [] [] (length octets) ((more ++ o ∷ []) ++ rest)
      ≡ by_taken e parts (kept_of old.reader.reader) (length (octets ++ more)) o rest t
  behind t h rest =
      ap (λ z. rounds_from e [] [] (length octets) z) (append_assoc more (o ∷ []) rest)
      ∙ s.reads (o ∷ rest)
      ∙ is_by e parts (kept_of old.reader.reader) (length (octets ++ more)) o rest t
      (ap (λ b. take_octet e b (kept_of old.reader.reader) o) (sym s.none) ∙ h)

  one_more : length (octets ++ (more ++ o ∷ [])) ≡ length (octets ++ more) + 1
  one_more = simp length-append (omega arith)

  module _ (new : Receiver) (z : OctetsSoFar start left new.octets ((octets ++ more) ++ o ∷ [])) where
    given : OctetsSoFar start left new.octets (octets ++ (more ++ o ∷ []))
    given = subst (λ (w : List ℕ). OctetsSoFar start left new.octets w) (append_assoc octets more (o ∷ [])) z

    pub goes_on : new.place ≡ length (octets ++ more) + 1 → TakesTo next old.reader (Ok taking.GoesOn) new.reader
        → StandsWithin e start left new octets (more ++ o ∷ []) parts
    goes_on place h = at next refl h
      where
        at : (t : Taken) → next ≡ t → TakesTo t old.reader (Ok taking.GoesOn) new.reader
            → StandsWithin e start left new octets (more ++ o ∷ []) parts
        at (GoesOn kept) is k =
            record {
              so_far = given;
              place = place ∙ sym one_more;
              going = k.2;
              none = k.0 ∙ s.none;
              reads = λ rest.
                  behind (GoesOn kept) is rest
                  ∙ ap (λ w. rounds_from e parts w (length (octets ++ more) + 1) rest) (sym k.1)
                  ∙ ap (λ n. rounds_from e parts (kept_of new.reader.reader) n rest) (sym one_more);
            }
        at (Gives part) is k = absurd k
        at EndsMessage is k = absurd k
        at EndsScript is k = absurd k
        at (StopsAt f) is k = absurd k

    pub gives_part : (part : Part) → new.place ≡ length (octets ++ more) + 1
        → TakesTo next old.reader (Ok (taking.Part part)) new.reader
        → StandsWithin e start left new octets (more ++ o ∷ []) (parts ++ part ∷ [])
    gives_part part place h = at next refl h
      where
        some : (length (parts ++ part ∷ []) == 0) ≡ false
        some =
            ne_eqb (length (parts ++ part ∷ [])) 0
            (λ e. let l : length (parts ++ part ∷ []) ≡ length parts + 1 = length-append parts (part ∷ []) in omega (arith, e, l))

        at : (t : Taken) → next ≡ t → TakesTo t old.reader (Ok (taking.Part part)) new.reader
            → StandsWithin e start left new octets (more ++ o ∷ []) (parts ++ part ∷ [])
        at (Gives p) is k =
            record {
              so_far = given;
              place = place ∙ sym one_more;
              going = k.3;
              none = k.1 ∙ sym some;
              reads = λ rest.
                  behind (Gives p) is rest
                  ∙ ap (λ w. rounds_from e (parts ++ w ∷ []) [] (length (octets ++ more) + 1) rest) (sym k.0)
                  ∙ ap (λ w. rounds_from e (parts ++ part ∷ []) w (length (octets ++ more) + 1) rest) (sym k.2)
                  ∙ ap (λ n. rounds_from e (parts ++ part ∷ []) (kept_of new.reader.reader) n rest) (sym one_more);
            }
        at (GoesOn kept) is k = absurd k
        at EndsMessage is k = absurd k
        at EndsScript is k = absurd k
        at (StopsAt f) is k = absurd k

    pub ends_message : new.place ≡ length (octets ++ more) + 1 → TakesTo next old.reader (Ok taking.Message) new.reader
        → MessageCame e start left new octets (more ++ o ∷ []) parts
    ends_message place h = at next refl h
      where
        at : (t : Taken) → next ≡ t → TakesTo t old.reader (Ok taking.Message) new.reader
            → MessageCame e start left new octets (more ++ o ∷ []) parts
        at EndsMessage is k =
            record {
              stands = record { so_far = given; place = place ∙ sym one_more; before = k };
              reads = λ rest.
                  behind EndsMessage is rest
                  ∙ ap (λ n. and_message parts (rounds_from e [] [] n rest)) (sym one_more);
            }
        at (GoesOn kept) is k = absurd k
        at (Gives p) is k = absurd k
        at EndsScript is k = absurd k
        at (StopsAt f) is k = absurd k

    pub ends_script : TakesTo next old.reader (Ok taking.ScriptEnd) new.reader
        → ScriptEnded e start left new octets (more ++ o ∷ [])
    ends_script h = at next refl h
      where
        at : (t : Taken) → next ≡ t → TakesTo t old.reader (Ok taking.ScriptEnd) new.reader
            → ScriptEnded e start left new octets (more ++ o ∷ [])
        at EndsScript is k = record { so_far = given; reads = λ rest. behind EndsScript is rest }
        at (GoesOn kept) is k = absurd k
        at (Gives p) is k = absurd k
        at EndsMessage is k = absurd k
        at (StopsAt f) is k = absurd k

    pub faulty_at : (f : PartFault) → TakesTo next old.reader (Err f) new.reader → (rest : List ℕ)
        → rounds_from e [] [] (length octets) ((more ++ o ∷ []) ++ rest)
        ≡ record { messages = []; stop = Faulty (record { place = length (octets ++ more); fault = f; octet = o }) }
    faulty_at f h = at next refl h
      where
        at : (t : Taken) → next ≡ t → TakesTo t old.reader (Err f) new.reader → (rest : List ℕ)
            → rounds_from e [] [] (length octets) ((more ++ o ∷ []) ++ rest)
            ≡ record { messages = []; stop = Faulty (record { place = length (octets ++ more); fault = f; octet = o }) }
        at (StopsAt g) is k = λ rest.
            behind (StopsAt g) is rest
            ∙ ap (λ w. record { messages = []; stop = Faulty (record { place = length (octets ++ more); fault = w; octet = o }) }) (sym k)
        at (GoesOn kept) is k = absurd k
        at (Gives p) is k = absurd k
        at EndsMessage is k = absurd k
        at EndsScript is k = absurd k

-- no octet follows
pub cut_within : (e : End) (start now : Option (List ℕ)) (r : Receiver) (octets more : List ℕ) (parts : List Part)
    → StandsWithin e start now r octets more parts → rounds_from e [] [] (length octets) more ≡ cut
cut_within e start now r octets more parts s =
    ap (λ z. rounds_from e [] [] (length octets) z) (sym (append-nil more)) ∙ s.reads []

-- before the first octet of a message
pub begins : (e : End) (start now : Option (List ℕ)) (r : Receiver) (octets : List ℕ) → StandsBehind start now r octets
    → StandsWithin e start now r octets [] []
begins e start now r octets s =
    record {
      so_far = subst (λ (z : List ℕ). OctetsSoFar start now r.octets z) (sym (append-nil octets)) s.so_far;
      place = s.place ∙ ap length (sym (append-nil octets));
      going = s.before.going;
      none = s.before.none;
      reads = λ rest.
          ap (λ w. rounds_from e [] w (length octets) rest) (sym s.before.kept)
          ∙ ap (λ z. rounds_from e [] (kept_of r.reader.reader) (length z) rest) (sym (append-nil octets));
    }

-- no octet follows
pub takes_end : (e : End) (start now left : Option (List ℕ)) (old : Receiver) (new : Feed) (octets more : List ℕ)
    (parts : List Part) → StandsWithin e start now old octets more parts → NextByte old.octets new now left (Ok None)
    → CutWithin e start left octets
takes_end e start now left old new octets more parts s r =
    record {
      more = more;
      took =
          subst (λ (w : List ℕ). Took start left w)
          (ap (λ w. (octets ++ more) ++ w) r.gives.0 ∙ append-nil (octets ++ more))
          (all_taken start now left old.octets new (octets ++ more) r.taken s.so_far r.draws);
      within = s.so_far.within;
      at_end = still_end start now left old.octets new (octets ++ more) r.taken s.so_far r.draws r.gives.1;
      reads = cut_within e start now old octets more parts s;
    }

-- no octet could be read
pub takes_none : (e : End) (start now left : Option (List ℕ)) (old : Receiver) (new : Feed) (octets more : List ℕ)
    (parts : List Part) (why : LineFault) → StandsWithin e start now old octets more parts
    → NextByte old.octets new now left (Err why) → Stops e start left octets (halt_of why)
takes_none e start now left old new octets more parts (fault.Bad bad) s r = absurd r.gives
takes_none e start now left old new octets more parts fault.ReadFault s r =
    record {
      more = more ++ (old.octets.pending ++ r.taken);
      took =
          subst (λ (w : List ℕ). Took start left w) (append_assoc octets more (old.octets.pending ++ r.taken))
          (all_taken start now left old.octets new (octets ++ more) r.taken s.so_far r.draws);
    }
takes_none e start now left old new octets more parts fault.TooLong s r =
    record {
      more = more;
      rest = old.octets.pending ++ r.taken;
      took =
          subst (λ (w : List ℕ). Took start left w) (append_assoc octets more (old.octets.pending ++ r.taken))
          (all_taken start now left old.octets new (octets ++ more) r.taken s.so_far r.draws);
      full = sym s.so_far.given ∙ r.gives.1;
      beyond = r.gives.0;
      reads = cut_within e start now old octets more parts s;
    }

-- an octet was read
module _ (e : End) (start now left : Option (List ℕ)) (old : Receiver) (feed : Feed) (octets more : List ℕ)
    (parts : List Part) (o : ℕ) (s : StandsWithin e start now old octets more parts)
    (r : NextByte old.octets feed now left (Ok (Some o))) (limit : feed.given ≤ most_bytes) where
  so_far : OctetsSoFar start left feed ((octets ++ more) ++ o ∷ [])
  so_far = octet_given start now left old.octets feed (octets ++ more) o s.so_far r limit

  at_new : (new : Receiver) → new.octets ≡ feed → OctetsSoFar start left new.octets ((octets ++ more) ++ o ∷ [])
  at_new new same = subst (λ (f : Feed). OctetsSoFar start left f ((octets ++ more) ++ o ∷ [])) (sym same) so_far

  place_more : (new : Receiver) → new.place ≡ min (old.place + 1) 4294967295 → new.place ≡ length (octets ++ more) + 1
  place_more new place = let at : old.place ≡ length (octets ++ more) = s.place in omega (arith, s.so_far.within, place, at)

  pub takes_octet : (new : Receiver) (answer : Result Taking LiveStatus)
      → Hears (take_octet e old.reader.none (kept_of old.reader.reader) o) o (record old { octets = feed }) new answer
      → TakesOctet e start left new octets parts answer
  takes_octet new (Ok taking.GoesOn) h =
      (more ++ o ∷ [], goes_on e start now left old octets more parts o s new (at_new new h.1) (place_more new h.2) h.0)
  takes_octet new (Ok (taking.Part p)) h =
      (more ++ o ∷ [], gives_part e start now left old octets more parts o s new (at_new new h.1) p (place_more new h.2) h.0)
  takes_octet new (Ok taking.Message) h =
      (more ++ o ∷ [], ends_message e start now left old octets more parts o s new (at_new new h.1) (place_more new h.2) h.0)
  takes_octet new (Ok taking.ScriptEnd) h =
      (more ++ o ∷ [], ends_script e start now left old octets more parts o s new (at_new new h.1) h.0)
  takes_octet new (Err (status.LinkFault f)) h =
      faults f h.2 h.3 (faulty_at e start now left old octets more parts o s new (at_new new h.1) f.fault h.0)
    where
      faults : (f : LinkFault) → f.place ≡ old.place → f.octet ≡ o
          → ((rest : List ℕ) → rounds_from e [] [] (length octets) ((more ++ o ∷ []) ++ rest)
          ≡ faulty (record { place = length (octets ++ more); fault = f.fault; octet = o }))
          → FaultyWithin e start left octets f
      faults f place octet reads =
          record {
            more = (more ++ o ∷ []) ++ feed.pending;
            took =
                subst (λ (w : List ℕ). Took start left w)
                (append_assoc (octets ++ more) (o ∷ []) feed.pending
                ∙ append_assoc octets more (o ∷ feed.pending)
                ∙ ap (λ w. octets ++ w) (sym (append_assoc more (o ∷ []) feed.pending)))
                so_far.took;
            place =
                let at : old.place ≡ length (octets ++ more) = s.place in
                let one : length ((octets ++ more) ++ o ∷ []) ≡ length (octets ++ more) + 1 = length-append (octets ++ more) (o ∷ []) in
                omega (arith, so_far.within, place, at, one);
            reads = λ rest.
                ap (λ z. rounds_from e [] [] (length octets) z) (append_assoc (more ++ o ∷ []) feed.pending rest)
                ∙ reads (feed.pending ++ rest)
                ∙ ap (λ n. faulty (record { place = n; fault = f.fault; octet = o })) (sym s.place ∙ sym place)
                ∙ ap (λ n. faulty (record { place = f.place; fault = f.fault; octet = n })) (sym octet);
          }
  takes_octet new (Err status.Done) h = absurd h
  takes_octet new (Err (status.Refused b)) h = absurd h
  takes_octet new (Err status.ReadFault) h = absurd h
  takes_octet new (Err status.WriteFault) h = absurd h
  takes_octet new (Err status.Memory) h = absurd h
  takes_octet new (Err status.TooLong) h = absurd h
  takes_octet new (Err status.PeerEnded) h = absurd h
  takes_octet new (Err status.LinkCut) h = absurd h
  takes_octet new (Err status.NoLink) h = absurd h

-- a part that came is kept, or there is no memory for it
pub notes_step : (e : End) (start now : Option (List ℕ)) (new : Receiver) (octets : List ℕ) (parts parts' : List Part)
    (given : Taking) (answer : Result (Option Came) LiveStatus) → TakesOctet e start now new octets parts (Ok given)
    → Notes given parts parts' answer → TakesStep e start now new octets parts' answer
notes_step e start now new octets parts parts' taking.GoesOn (Ok None) s n =
    (s.0, subst (λ (ps : List Part). StandsWithin e start now new octets s.0 ps) (sym n) s.1)
notes_step e start now new octets parts parts' (taking.Part p) (Ok None) s n =
    (s.0, subst (λ (ps : List Part). StandsWithin e start now new octets s.0 ps) (sym n) s.1)
notes_step e start now new octets parts parts' taking.Message (Ok (Some came.Message)) s n =
    (s.0, subst (λ (ps : List Part). MessageCame e start now new octets s.0 ps) (sym n) s.1)
notes_step e start now new octets parts parts' taking.ScriptEnd (Ok (Some came.ScriptEnd)) s n = s
notes_step e start now new octets parts parts' (taking.Part p) (Err status.Memory) s n = within s.0 s.1
  where
    within : (more : List ℕ) → StandsWithin e start now new octets more (parts ++ p ∷ []) → TookMore start now octets
    within more w =
        record {
          more = more ++ new.octets.pending;
          took = subst (λ (z : List ℕ). Took start now z) (append_assoc octets more new.octets.pending) w.so_far.took;
        }
notes_step e start now new octets parts parts' taking.GoesOn (Ok (Some c)) s n = absurd n
notes_step e start now new octets parts parts' (taking.Part p) (Ok (Some c)) s n = absurd n
notes_step e start now new octets parts parts' taking.Message (Ok None) s n = absurd n
notes_step e start now new octets parts parts' taking.Message (Ok (Some came.ScriptEnd)) s n = absurd n
notes_step e start now new octets parts parts' taking.ScriptEnd (Ok None) s n = absurd n
notes_step e start now new octets parts parts' taking.ScriptEnd (Ok (Some came.Message)) s n = absurd n
notes_step e start now new octets parts parts' taking.GoesOn (Err how) s n = absurd n
notes_step e start now new octets parts parts' taking.Message (Err how) s n = absurd n
notes_step e start now new octets parts parts' taking.ScriptEnd (Err how) s n = absurd n
notes_step e start now new octets parts parts' (taking.Part p) (Err status.Done) s n = absurd n
notes_step e start now new octets parts parts' (taking.Part p) (Err (status.Refused b)) s n = absurd n
notes_step e start now new octets parts parts' (taking.Part p) (Err status.ReadFault) s n = absurd n
notes_step e start now new octets parts parts' (taking.Part p) (Err status.WriteFault) s n = absurd n
notes_step e start now new octets parts parts' (taking.Part p) (Err status.TooLong) s n = absurd n
notes_step e start now new octets parts parts' (taking.Part p) (Err status.PeerEnded) s n = absurd n
notes_step e start now new octets parts parts' (taking.Part p) (Err status.LinkCut) s n = absurd n
notes_step e start now new octets parts parts' (taking.Part p) (Err (status.LinkFault f)) s n = absurd n
notes_step e start now new octets parts parts' (taking.Part p) (Err status.NoLink) s n = absurd n

-- what came in a step is what the reading of the message comes to
pub receives_came : (e : End) (start now : Option (List ℕ)) (new : Receiver) (octets : List ℕ) (parts : List Part)
    (what : Came) → TakesStep e start now new octets parts (Ok (Some what)) → Receives e start now new octets parts (Ok what)
receives_came e start now new octets parts came.Message h = h
receives_came e start now new octets parts came.ScriptEnd h = h
