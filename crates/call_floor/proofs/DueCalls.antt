-- The frames that are due in the live calls, call by call, are those that a flow hands over.
use Rattle.std.proofs.Common.{◌≡◌, ℕ, zero, suc, Bool, true, false, List, [], ◌∷◌, ◌++◌, ◌+◌, ◌<◌, ◌≤◌, inl, inr, Option, Some, None, length, map, get_or, take, drop, replicate, if◌then◌else◌, refl, ap, sym, ◌∙◌, subst, arith, append_assoc}
use Rattle.channel_sim.specs.declared.calls.due.Due as kept_due
use Rattle.channel_sim.specs.Handing.{alone, due_in_call, due_of, flow_way, hands_way, sent_way}
use Rattle.channel_sim.specs.World.{Call, World, call_of, due_in}
use Rattle.call_floor.specs.declared.live.Live as kept_live
use Rattle.call_floor.specs.Floor.{Floor, Stand, Turn, stand_of, own, own_of, calls_at, placed, calls_from, hand_turns, due_turns}
use Rattle.call_floor.specs.FloorStands.{IsOf, AreLive}
use Rattle.call_floor.specs.inner.FloorAt.{call_turns, call_turns_in, flow_of, flow_turns, listed_turns, numbers_of, plays_if}
use Rattle.call_floor.proofs.Gone.{Named}
use Rattle.call_floor.proofs.LiveCalls.{live_named, got}
use Rattle.call_floor.proofs.Sleeping.{kept_turns, kept_append, kept_hands, append_none, due_more, same_kept}
use Rattle.call_floor.proofs.UnitApart.{due_none}

-- those of these calls, one behind the other
abbrev pub all_turns : (ℕ → Bool) → Bool → Floor → List Named → List Turn
all_turns acts up w [] = []
all_turns acts up w (x ∷ xs) = call_turns acts up x.vehicle x.number w ++ all_turns acts up w xs

flow_own : (up : Bool) (w : Floor) (s : Stand) → flow_way up (own w s) ≡ flow_of up w
flow_own true w s = refl
flow_own false w s = refl

-- one call
call_due : (up : Bool) (v c : ℕ) (w : Floor) → call_turns_in up v c (own_of v w) ≡ due_turns (hands_way up) (sent_way up) (flow_of up w) w.tick (placed v (call_of c (calls_at (stand_of v w.stands))))
call_due up v c w = by (stand_of v w.stands)
  where
    one : (s : Stand) (o : Option Call) → hand_turns v (hands_way up) (due_in (sent_way up) (flow_of up w) w.tick (alone o)) ≡ due_turns (hands_way up) (sent_way up) (flow_of up w) w.tick (placed v o)
    one s None = ap (hand_turns v (hands_way up)) (due_none (sent_way up) (flow_of up w) w.tick)
    one s (Some k) = sym (append_none (hand_turns v (hands_way up) (due_in (sent_way up) (flow_of up w) w.tick (k ∷ []))))

    by : (o : Option Stand) → call_turns_in up v c (Rattle.std.proofs.Common.option_map (own w) o) ≡ due_turns (hands_way up) (sent_way up) (flow_of up w) w.tick (placed v (call_of c (calls_at o)))
    by None = refl
    by (Some s) =
        ap (λ n. hand_turns v (hands_way up) (due_in (sent_way up) n w.tick (alone (call_of c s.calls)))) (flow_own up w s) ∙ one s (call_of c s.calls)

kept_call : (acts : ℕ → Bool) (up : Bool) (v c : ℕ) (w : Floor) → kept_turns acts (call_turns acts up v c w) ≡ (if acts v then due_turns (hands_way up) (sent_way up) (flow_of up w) w.tick (placed v (call_of c (calls_at (stand_of v w.stands)))) else [])
kept_call acts up v c w = by (acts v) refl
  where
    hands : (b : Bool) → acts v ≡ b → (o : Option World) → kept_turns acts (if b then call_turns_in up v c o else []) ≡ (if b then call_turns_in up v c o else [])
    hands true e None = refl
    hands true e (Some u) =
        kept_hands acts v (hands_way up) (due_in_call up c u) ∙ ap (λ b. if b then hand_turns v (hands_way up) (due_in_call up c u) else []) e
    hands false e o = refl

    by : (b : Bool) → acts v ≡ b → kept_turns acts (if b then call_turns_in up v c (own_of v w) else []) ≡ (if b then due_turns (hands_way up) (sent_way up) (flow_of up w) w.tick (placed v (call_of c (calls_at (stand_of v w.stands)))) else [])
    by true e = hands true e (own_of v w) ∙ call_due up v c w
    by false e = refl

none_if : (b : Bool) (ts : List Turn) → ts ≡ [] → (if b then ts else []) ≡ []
none_if true ts e = e
none_if false ts e = refl

kept_flow : (acts : ℕ → Bool) (up : Bool) (w : Floor) (c : ℕ) (ds : List ℕ) (ls : List kept_live.Live) → AreLive w.stands c ds ls → kept_turns acts (all_turns acts up w (live_named (numbers_of w.stands) ls)) ≡ kept_turns acts (due_turns (hands_way up) (sent_way up) (flow_of up w) w.tick (calls_from w.stands c ds))
kept_flow acts up w c [] [] h = refl
kept_flow acts up w c [] (l ∷ ls) h = absurd h
kept_flow acts up w c (d ∷ ds) [] h =
    kept_flow acts up w (suc c) ds [] h.1
    ∙ ap (λ o. kept_turns acts (due_turns (hands_way up) (sent_way up) (flow_of up w) w.tick (placed d o ++ calls_from w.stands (suc c) ds))) (sym h.0)
kept_flow acts up w c (d ∷ ds) (l ∷ ls) (inl h) =
    kept_flow acts up w (suc c) ds (l ∷ ls) h.1
    ∙ ap (λ o. kept_turns acts (due_turns (hands_way up) (sent_way up) (flow_of up w) w.tick (placed d o ++ calls_from w.stands (suc c) ds))) (sym h.0)
kept_flow acts up w c (d ∷ ds) (l ∷ ls) (inr h) =
    let one : IsOf w.stands d c l = h.0 in
    let ns : List ℕ = numbers_of w.stands in
    let rest : List Turn = all_turns acts up w (live_named ns ls) in
    kept_append acts (call_turns acts up (get_or ns l.place 0) l.call w) rest
    ∙ ap (λ n. kept_turns acts (call_turns acts up n l.call w) ++ kept_turns acts rest) (got ns l.place d one.place)
    ∙ ap (λ n. kept_turns acts (call_turns acts up d n w) ++ kept_turns acts rest) one.call
    ∙ ap (λ l. l ++ kept_turns acts rest) (kept_call acts up d c w)
    ∙ ap (λ l. (if acts d then due_turns (hands_way up) (sent_way up) (flow_of up w) w.tick (placed d (call_of c (calls_at (stand_of d w.stands)))) else []) ++ l) (kept_flow acts up w (suc c) ds ls h.1)
    ∙ sym (due_more acts (hands_way up) (sent_way up) (flow_of up w) w.tick d (call_of c (calls_at (stand_of d w.stands))) (calls_from w.stands (suc c) ds))

pub live_due : (acts : ℕ → Bool) (up : Bool) (w : Floor) (ls : List kept_live.Live) → AreLive w.stands 1 w.drawn ls → (u : Floor) → plays_if acts (all_turns acts up w (live_named (numbers_of w.stands) ls)) u ≡ plays_if acts (flow_turns up w) u
live_due acts up w ls h u =
    same_kept acts (all_turns acts up w (live_named (numbers_of w.stands) ls)) (flow_turns up w) (kept_flow acts up w 1 w.drawn ls h) u

-- one call more
pub all_more : (acts : ℕ → Bool) (up : Bool) (w : Floor) (i : ℕ) (xs : List Named) (d : Named) → i < length xs → all_turns acts up w (take (suc i) xs) ≡ all_turns acts up w (take i xs) ++ call_turns acts up (get_or xs i d).vehicle (get_or xs i d).number w
all_more acts up w i [] d low = absurd (omega arith)
all_more acts up w zero (x ∷ xs) d low = append_none (call_turns acts up x.vehicle x.number w)
all_more acts up w (suc i) (x ∷ xs) d low =
    ap (λ l. call_turns acts up x.vehicle x.number w ++ l) (all_more acts up w i xs d (omega arith))
    ∙ sym (append_assoc (call_turns acts up x.vehicle x.number w) (all_turns acts up w (take i xs)) (call_turns acts up (get_or xs i d).vehicle (get_or xs i d).number w))

-- Frames listed behind those that are listed.

pub listed_append : (ns : List ℕ) (up : Bool) (ps qs : List ℕ) (ds es : List kept_due.Due) → length ps ≡ length ds → listed_turns ns up (ps ++ qs) (ds ++ es) ≡ listed_turns ns up ps ds ++ listed_turns ns up qs es
listed_append ns up [] qs [] es same = refl
listed_append ns up [] qs (d ∷ ds) es same = absurd (omega (arith, same))
listed_append ns up (p ∷ ps) qs [] es same = absurd (omega (arith, same))
listed_append ns up (p ∷ ps) qs (d ∷ ds) es same =
    ap (λ l. record { vehicle = get_or ns p 0; act = hands_way up (due_of d) } ∷ l) (listed_append ns up ps qs ds es (omega (arith, same)))
