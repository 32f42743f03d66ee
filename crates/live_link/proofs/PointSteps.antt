-- What the point's end does where a session is lost and another comes up.
use Rattle.std.specs.Prelude.{◌≡◌, ◌≤◌, ◌+◌, ℕ, IfSome, true, List, [], ◌∷◌, ◌++◌, None, if◌then◌else◌}
use Rattle.std.proofs.Common.{refl, sym, ap, subst, ◌∙◌, ◌<◌, arith, append_assoc, length, get_or, take, drop}
use Rattle.std.proofs.lemmas.List.{append-nil, take_more, take-append-drop}
use Rattle.link_frames.specs.Ranks.{Deadline, soonest}
use Rattle.link_frames.specs.declared.note.Why.{Why}
use Rattle.psap_machine.specs.Point.{Point}
use Rattle.psap_machine.specs.PointRows.{Ended, arriving, called, point_row, unit_row, units, due_of, aged, deadlines}
use Rattle.trace_model.specs.declared.entry.Entry.{Entry}
use Rattle.trace_fit.specs.Seats.{left_by}
use Rattle.trace_fit.proofs.Seats.{ended}
use Rattle.link_parts.specs.Messages.{number_octets, part_octets}
use Rattle.live_link.specs.PointLive.{LivePoint, answers, calls, comes_up, draws, gathers, hears_part, is_rung, loses}
use Rattle.live_link.specs.Runs.{Steps, quiet, and_then, each}
use Rattle.live_link.specs.Turns.{Turn, entries_of}
use Rattle.link_parts.specs.declared.part.Part.{Part}
use Rattle.link_parts.specs.declared.part.Part.TheVariants.{Answers, Takes}
use Rattle.live_link.specs.declared.point_end.PointEnd.{PointEnd}
use Rattle.live_link.specs.inner.PointEnd.{PointActs, PointActsPartly, PointStandsFor, all_parts}
use Rattle.live_link.proofs.GatherLemmas.{octets_append}
use Rattle.live_link.proofs.Ticks.{entries_append}

pub lost_left : (p : Point) (w : Why) → left_by (point_row p (Ended w)).new ≡ None
lost_left p w = ended p w

-- One tick.

soonest_least : {A : Type 0} → (ds : List (Deadline A)) → IfSome (soonest ds) (λ due. 1 ≤ due)
soonest_least [] = tt
soonest_least (d ∷ ds) = omega arith

pub due_least : (p : Point) → IfSome (due_of p) (λ due. 1 ≤ due)
due_least p = let next : Point = aged 1 p in soonest_least (deadlines next next.phase)

pub one_unit : (p : Point) → (units 1 p).items ≡ (unit_row p).items
one_unit p = append-nil (unit_row p).items

-- One step behind another.

pub then_acts : (grew grew' all : List Entry → Type 0) (old mid new : PointEnd) (first second : LivePoint → Steps LivePoint)
    → PointActs grew old mid first
    → PointActs grew' mid new second
    → ((s t : List Entry) → grew s → grew' t → all (s ++ t))
    → PointActs all old new (λ s. and_then (first s) second)
then_acts grew grew' all old mid new first second h k join =
    record {
      told =
          λ s e.
          subst all (sym (entries_append (first s).turns (second (first s).new).turns))
          (join (entries_of (first s).turns) (entries_of (second (first s).new).turns) (h.told s e) (k.told (first s).new (h.stands s e)));
      stands = λ s e. k.stands (first s).new (h.stands s e);
    }

pub then_partly : (grew partly' all : List Entry → Type 0) (old mid : PointEnd) (first second : LivePoint → Steps LivePoint)
    → PointActs grew old mid first
    → PointActsPartly partly' mid second
    → ((s t : List Entry) → grew s → partly' t → all (s ++ t))
    → PointActsPartly all old (λ s. and_then (first s) second)
then_partly grew partly' all old mid first second h k join =
    λ s e.
    subst all (sym (entries_append (first s).turns (second (first s).new).turns))
    (join (entries_of (first s).turns) (entries_of (second (first s).new).turns) (h.told s e) (k (first s).new (h.stands s e)))

pub first_partly : (partly' all : List Entry → Type 0) (old : PointEnd) (first second : LivePoint → Steps LivePoint)
    → PointActsPartly partly' old first
    → ((s t : List Entry) → partly' s → all (s ++ t))
    → PointActsPartly all old (λ s. and_then (first s) second)
first_partly partly' all old first second h join =
    λ s e.
    subst all (sym (entries_append (first s).turns (second (first s).new).turns))
    (join (entries_of (first s).turns) (entries_of (second (first s).new).turns) (h s e))

-- a part more to send
gather_acts : (grew : List Entry → Type 0) (old new last : PointEnd) (step : LivePoint → Steps LivePoint) (part : Part)
    → PointActs grew old new step
    → last ≡ record new { gathered = last.gathered }
    → last.gathered.items ≡ new.gathered.items ++ part_octets part
    → PointActs grew old last (λ s. and_then (step s) (λ w. quiet (gathers part w)))
gather_acts grew old new last step part h same more =
    record {
      told = λ s e. subst (λ (z : List Turn). grew (entries_of z)) (sym (append-nil (step s).turns)) (h.told s e);
      stands = λ s e. further (step s).new (h.stands s e);
    }
  where
    further : (u : LivePoint) → PointStandsFor new u → PointStandsFor last (gathers part u)
    further u e =
        subst (λ (z : PointEnd). PointStandsFor z (gathers part u)) (sym same)
        (record {
          session = e.session;
          drawn = e.drawn;
          rung = e.rung;
          had = e.had;
          tick = e.tick;
          gathered =
              octets_append u.gathered (part ∷ [])
              ∙ ap (λ z. z ++ (part_octets part ++ [])) e.gathered
              ∙ ap (λ z. new.gathered.items ++ z) (append-nil (part_octets part))
              ∙ sym more;
        })

-- The vehicle dials.

abbrev answered : ℕ → LivePoint → Steps LivePoint
answered c s =
    and_then (loses s s.session) (λ u. and_then (comes_up c (arriving c) u) (λ w. quiet (gathers (Answers c) w)))

draws_stands : (e : PointEnd) (s : LivePoint) → PointStandsFor e s →
    PointStandsFor (record e { drawn = e.drawn + 1 }) (draws s)
draws_stands e s h =
    record {
      session = h.session;
      drawn = ap (λ n. n + 1) h.drawn;
      rung = h.rung;
      had = h.had;
      tick = h.tick;
      gathered = h.gathered;
    }

answered_is : (e : PointEnd) (s : LivePoint) → PointStandsFor e s → answers s ≡ answered (e.drawn + 1) (draws s)
answered_is e s h = ap (λ n. answered (n + 1) (draws s)) h.drawn

dials_acts : (all : List Entry → Type 0) (old last : PointEnd) →
    PointActs all (record old { drawn = old.drawn + 1 }) last (answered (old.drawn + 1)) →
    PointActs all old last (λ s. answers s)
dials_acts all old last h =
    record {
      told =
          λ s e.
          subst (λ (z : Steps LivePoint). all (entries_of z.turns)) (sym (answered_is old s e))
          (h.told (draws s) (draws_stands old s e));
      stands =
          λ s e.
          subst (λ (z : Steps LivePoint). PointStandsFor last z.new) (sym (answered_is old s e))
          (h.stands (draws s) (draws_stands old s e));
    }

dials_partly : (all : List Entry → Type 0) (old : PointEnd) →
    PointActsPartly all (record old { drawn = old.drawn + 1 }) (answered (old.drawn + 1)) →
    PointActsPartly all old (λ s. answers s)
dials_partly all old h =
    λ s e.
    subst (λ (z : Steps LivePoint). all (entries_of z.turns)) (sym (answered_is old s e))
    (h (draws s) (draws_stands old s e))

pub answers_acts : (grew grew' all : List Entry → Type 0) (old mid new last : PointEnd)
    → PointActs grew (record old { drawn = old.drawn + 1 }) mid (λ s. loses s s.session)
    → PointActs grew' mid new (comes_up (old.drawn + 1) (arriving (old.drawn + 1)))
    → last ≡ record new { gathered = last.gathered }
    → last.gathered.items ≡ new.gathered.items ++ 17 ∷ number_octets (old.drawn + 1)
    → ((s t : List Entry) → grew s → grew' t → all (s ++ t))
    → PointActs all old last (λ s. answers s)
answers_acts grew grew' all old mid new last h k same more join =
    let c : ℕ = old.drawn + 1 in
    dials_acts all old last
    (then_acts grew grew' all (record old { drawn = c }) mid last (λ s. loses s s.session) (λ u. and_then (comes_up c (arriving c) u) (λ w. quiet (gathers (Answers c) w))) h
    (gather_acts grew' mid new last (comes_up c (arriving c)) (Answers c) k same more) join)

pub answers_lost : (partly' all : List Entry → Type 0) (old : PointEnd)
    → PointActsPartly partly' (record old { drawn = old.drawn + 1 }) (λ s. loses s s.session)
    → ((s t : List Entry) → partly' s → all (s ++ t))
    → PointActsPartly all old (λ s. answers s)
answers_lost partly' all old h join =
    let c : ℕ = old.drawn + 1 in
    dials_partly all old
    (first_partly partly' all (record old { drawn = c }) (λ s. loses s s.session) (λ u. and_then (comes_up c (arriving c) u) (λ w. quiet (gathers (Answers c) w))) h join)

pub answers_partly : (grew partly' all : List Entry → Type 0) (old mid : PointEnd)
    → PointActs grew (record old { drawn = old.drawn + 1 }) mid (λ s. loses s s.session)
    → PointActsPartly partly' mid (comes_up (old.drawn + 1) (arriving (old.drawn + 1)))
    → ((s t : List Entry) → grew s → partly' t → all (s ++ t))
    → PointActsPartly all old (λ s. answers s)
answers_partly grew partly' all old mid h k join =
    let c : ℕ = old.drawn + 1 in
    dials_partly all old
    (then_partly grew partly' all (record old { drawn = c }) mid (λ s. loses s s.session) (λ u. and_then (comes_up c (arriving c) u) (λ w. quiet (gathers (Answers c) w))) h
    (λ s e. subst (λ (z : List Turn). partly' (entries_of z)) (sym (append-nil (comes_up c (arriving c) s).turns)) (k s e)) join)

-- The vehicle takes the point's call.

calls_is : (c : ℕ) (s : LivePoint) → is_rung c s ≡ true → hears_part s (Takes c) ≡ calls c s
calls_is c s h = ap (λ b. if b then calls c s else quiet s) h

pub takes_acts : (grew grew' all : List Entry → Type 0) (old mid new : PointEnd) (c : ℕ)
    → ((s : LivePoint) → PointStandsFor old s → is_rung c s ≡ true)
    → PointActs grew old mid (λ s. loses s s.session)
    → PointActs grew' mid new (comes_up c (called c))
    → ((s t : List Entry) → grew s → grew' t → all (s ++ t))
    → PointActs all old new (λ s. hears_part s (Takes c))
takes_acts grew grew' all old mid new c rung h k join =
    let both : PointActs all old new (λ s. and_then (loses s s.session) (comes_up c (called c))) =
    then_acts grew grew' all old mid new (λ s. loses s s.session) (comes_up c (called c)) h k join in
    record {
      told = λ s e. subst (λ (z : Steps LivePoint). all (entries_of z.turns)) (sym (calls_is c s (rung s e))) (both.told s e);
      stands = λ s e. subst (λ (z : Steps LivePoint). PointStandsFor new z.new) (sym (calls_is c s (rung s e))) (both.stands s e);
    }

pub takes_lost : (partly' all : List Entry → Type 0) (old : PointEnd) (c : ℕ)
    → ((s : LivePoint) → PointStandsFor old s → is_rung c s ≡ true)
    → PointActsPartly partly' old (λ s. loses s s.session)
    → ((s t : List Entry) → partly' s → all (s ++ t))
    → PointActsPartly all old (λ s. hears_part s (Takes c))
takes_lost partly' all old c rung h join =
    λ s e.
    subst (λ (z : Steps LivePoint). all (entries_of z.turns)) (sym (calls_is c s (rung s e)))
    (first_partly partly' all old (λ s. loses s s.session) (comes_up c (called c)) h join s e)

pub takes_partly : (grew partly' all : List Entry → Type 0) (old mid : PointEnd) (c : ℕ)
    → ((s : LivePoint) → PointStandsFor old s → is_rung c s ≡ true)
    → PointActs grew old mid (λ s. loses s s.session)
    → PointActsPartly partly' mid (comes_up c (called c))
    → ((s t : List Entry) → grew s → partly' t → all (s ++ t))
    → PointActsPartly all old (λ s. hears_part s (Takes c))
takes_partly grew partly' all old mid c rung h k join =
    λ s e.
    subst (λ (z : Steps LivePoint). all (entries_of z.turns)) (sym (calls_is c s (rung s e)))
    (then_partly grew partly' all old mid (λ s. loses s s.session) (comes_up c (called c)) h k join s e)

-- The parts of a message, one behind the other.

each_append : (xs ys : List Part) (s : LivePoint) →
    each hears_part s (xs ++ ys) ≡ and_then (each hears_part s xs) (λ u. each hears_part u ys)
each_append [] ys s = refl
each_append (x ∷ xs) ys s =
    let u : LivePoint = (hears_part s x).new in
    ap (λ z. record { turns = (hears_part s x).turns ++ z.turns; new = z.new }) (each_append xs ys u)
    ∙ ap (λ z. record { turns = z; new = (each hears_part (each hears_part u xs).new ys).new })
    (sym (append_assoc (hears_part s x).turns (each hears_part u xs).turns (each hears_part (each hears_part u xs).new ys).turns))

all_more : (parts : List Part) (i : ℕ) (part : Part) → i < length parts → part ≡ get_or parts i part → (s : LivePoint) →
    all_parts (take (i + 1) parts) s ≡ and_then (all_parts (take i parts) s) (λ u. all_parts (part ∷ []) u)
all_more parts i part inside read s =
    ap (λ z. all_parts z s) (take_more parts i part inside ∙ ap (λ z. take i parts ++ z ∷ []) (sym read))
    ∙ each_append (take i parts) (part ∷ []) s

all_around : (parts : List Part) (i : ℕ) (part : Part) → i < length parts → part ≡ get_or parts i part → (s : LivePoint) →
    all_parts parts s
    ≡ and_then (all_parts (take i parts) s) (λ u. and_then (all_parts (part ∷ []) u) (λ w. all_parts (drop (i + 1) parts) w))
all_around parts i part inside read s =
    ap (λ z. all_parts z s) (sym (take-append-drop (i + 1) parts))
    ∙ each_append (take (i + 1) parts) (drop (i + 1) parts) s
    ∙ ap (λ z. and_then z (λ w. all_parts (drop (i + 1) parts) w)) (all_more parts i part inside read s)
    ∙ ap (λ z. record { turns = z; new = (all_parts (drop (i + 1) parts) (all_parts (part ∷ []) (all_parts (take i parts) s).new).new).new })
    (append_assoc (all_parts (take i parts) s).turns (all_parts (part ∷ []) (all_parts (take i parts) s).new).turns
    (all_parts (drop (i + 1) parts) (all_parts (part ∷ []) (all_parts (take i parts) s).new).new).turns)

one_entries : (part : Part) (s : LivePoint) → entries_of (all_parts (part ∷ []) s).turns ≡ entries_of (hears_part s part).turns
one_entries part s = ap entries_of (append-nil (hears_part s part).turns)

pub parts_first : (grew : List Entry → Type 0) (e : PointEnd) → grew [] → PointActs grew e e (all_parts [])
parts_first grew e h = record { told = λ s k. h; stands = λ s k. k }

pub parts_more : (grew grew' all : List Entry → Type 0) (old mid new : PointEnd) (parts : List Part) (i : ℕ) (part : Part)
    → i < length parts
    → part ≡ get_or parts i part
    → PointActs grew old mid (all_parts (take i parts))
    → PointActs grew' mid new (λ s. hears_part s part)
    → ((s t : List Entry) → grew s → grew' t → all (s ++ t))
    → PointActs all old new (all_parts (take (i + 1) parts))
parts_more grew grew' all old mid new parts i part inside read h k join =
    let both : PointActs all old new (λ s. and_then (all_parts (take i parts) s) (λ u. hears_part u part)) =
    then_acts grew grew' all old mid new (all_parts (take i parts)) (λ u. hears_part u part) h k join in
    record {
      told =
          λ s e.
          subst all
          (entries_append (all_parts (take i parts) s).turns (hears_part (all_parts (take i parts) s).new part).turns
          ∙ ap (λ z. entries_of (all_parts (take i parts) s).turns ++ z) (sym (one_entries part (all_parts (take i parts) s).new))
          ∙ sym (entries_append (all_parts (take i parts) s).turns (all_parts (part ∷ []) (all_parts (take i parts) s).new).turns)
          ∙ ap (λ z. entries_of z.turns) (sym (all_more parts i part inside read s)))
          (both.told s e);
      stands =
          λ s e.
          subst (λ (z : Steps LivePoint). PointStandsFor new z.new) (sym (all_more parts i part inside read s)) (both.stands s e);
    }

pub parts_partly : (grew partly' all : List Entry → Type 0) (old mid : PointEnd) (parts : List Part) (i : ℕ) (part : Part)
    → i < length parts
    → part ≡ get_or parts i part
    → PointActs grew old mid (all_parts (take i parts))
    → PointActsPartly partly' mid (λ s. hears_part s part)
    → ((s t u : List Entry) → grew s → partly' t → all (s ++ (t ++ u)))
    → PointActsPartly all old (all_parts parts)
parts_partly grew partly' all old mid parts i part inside read h k join =
    λ s e.
    let u : LivePoint = (all_parts (take i parts) s).new in
    let w : LivePoint = (all_parts (part ∷ []) u).new in
    subst all
    (ap (λ z. entries_of (all_parts (take i parts) s).turns ++ (z ++ entries_of (all_parts (drop (i + 1) parts) w).turns)) (sym (one_entries part u))
    ∙ ap (λ z. entries_of (all_parts (take i parts) s).turns ++ z) (sym (entries_append (all_parts (part ∷ []) u).turns (all_parts (drop (i + 1) parts) w).turns))
    ∙ sym (entries_append (all_parts (take i parts) s).turns ((all_parts (part ∷ []) u).turns ++ (all_parts (drop (i + 1) parts) w).turns))
    ∙ ap (λ z. entries_of z.turns) (sym (all_around parts i part inside read s)))
    (join (entries_of (all_parts (take i parts) s).turns) (entries_of (hears_part u part).turns)
    (entries_of (all_parts (drop (i + 1) parts) w).turns) (h.told s e) (k u (h.stands s e)))
