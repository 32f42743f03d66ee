-- A line that sets a flow, for each vehicle that is kept, one behind the other.
use Rattle.std.proofs.Common.{◌≡◌, ℕ, true, false, List, [], Some, length, map, refl, ap, sym, ◌∙◌, subst}
use Rattle.trace_model.specs.declared.event.Event.{Event}
use Rattle.trace_model.specs.declared.event.Event.TheVariants as event
use Rattle.channel_sim.specs.Lines.{step, passes_within}
use Rattle.channel_sim.specs.World.{World}
use Rattle.channel_sim.specs.WorldStands.{NeedsCall, WorldStandsFor}
use Rattle.call_floor.specs.declared.entry.FloorEntry.{FloorEntry}
use Rattle.call_floor.specs.declared.floor.Floor as kept_floor
use Rattle.call_floor.specs.declared.listener.Tagged.{Tagged}
use Rattle.call_floor.specs.declared.seat.Seat as kept_seat
use Rattle.call_floor.specs.Floor.{Floor, Stand, entry_of, own, stand_of}
use Rattle.call_floor.specs.FloorStands.{AreLive}
use Rattle.call_floor.specs.Tagged.{heard, FloorGrew, TaggedGrew}
use Rattle.call_floor.specs.inner.Changes.{ArePaired}
use Rattle.call_floor.specs.inner.FloorAt.{FloorIs, FloorNow, IsFlow, Now, flow_step, numbers_of}
use Rattle.call_floor.proofs.Paired.{paired}

-- one that set its flow
abbrev pub IsFlowed : Event → kept_seat.Seat → kept_seat.Seat → Type 0
IsFlowed e x y = (y.number ≡ x.number) × ((u : World) → WorldStandsFor x.world u → WorldStandsFor y.world (step u e).world)

pub flow_says : (e : Event) → IsFlow e → (u : World) → (step u e).entries ≡ []
flow_says (event.Flow true delay) h u = refl
flow_says (event.Flow false delay) h u = refl
flow_says _ h u = absurd h

pub flow_passes : (e : Event) → IsFlow e → (u : World) → passes_within u e ≡ 0
flow_passes (event.Flow up delay) h u = refl
flow_passes _ h u = absurd h

pub flow_draws : (e : Event) → IsFlow e → NeedsCall e → ⊥
flow_draws (event.Flow up delay) h needs = needs
flow_draws _ h needs = absurd h

pub flow_elapses : (e : Event) → IsFlow e → (n : ℕ) → e ≡ event.Tick n → ⊥
flow_elapses e h n is = subst IsFlow is h

flow_own : (e : Event) → IsFlow e → (w : Floor) (s : Stand) → (step (own w s) e).world ≡ own (flow_step e w).floor s
flow_own (event.Flow true delay) h w s = refl
flow_own (event.Flow false delay) h w s = refl
flow_own _ h w s = absurd h

-- what stays of the floor
pub record FlowStays (w u : Floor) : Type 0 where
  pub tick : u.tick ≡ w.tick
  pub stands : u.stands ≡ w.stands
  pub drawn : u.drawn ≡ w.drawn

flow_stays : (e : Event) (w : Floor) → FlowStays w (flow_step e w).floor
flow_stays (event.Flow true delay) w = record { tick = refl; stands = refl; drawn = refl }
flow_stays (event.Flow false delay) w = record { tick = refl; stands = refl; drawn = refl }
flow_stays _ w = record { tick = refl; stands = refl; drawn = refl }

pub flow_told : (e : Event) (w : Floor) → (flow_step e w).entries ≡ []
flow_told (event.Flow true delay) w = refl
flow_told (event.Flow false delay) w = refl
flow_told _ w = refl

some_stand : (a b : Stand) → Some a ≡ Some b → a ≡ b
some_stand a b e = cc

flowed_all : (e : Event) → IsFlow e → (xs ys : List kept_seat.Seat) (w : Floor) → ArePaired (IsFlowed e) xs ys → FloorIs Now xs w → FloorIs Now ys (flow_step e w).floor
flowed_all e is xs ys w p h =
    paired (IsFlowed e) Now Now w (flow_step e w).floor (λ x y q. q.0) one xs ys p (ap numbers_of (flow_stays e w).stands) h
  where
    one : (x y : kept_seat.Seat) (s t : Stand) → IsFlowed e x y → s.number ≡ x.number → s.number ≡ t.number → stand_of s.number w.stands ≡ Some s → stand_of t.number (flow_step e w).floor.stands ≡ Some t → WorldStandsFor x.world (own w s) → WorldStandsFor y.world (own (flow_step e w).floor t)
    one x y s t q kept same found behind r =
        let there : stand_of t.number w.stands ≡ Some t = ap (stand_of t.number) (sym (flow_stays e w).stands) ∙ behind in
        let here : s ≡ t = some_stand s t (sym found ∙ ap (λ m. stand_of m w.stands) same ∙ there) in
        subst (λ (z : Stand). WorldStandsFor y.world (own (flow_step e w).floor z)) here
        (subst (WorldStandsFor y.world) (flow_own e is w s) (q.1 (own w s) r))

-- behind the line the floor that is kept stands for the one with this flow
pub flow_now : (e : Event) → IsFlow e → (old new : kept_floor.Floor) (w : Floor) → new ≡ record old { seats = new.seats } → ArePaired (IsFlowed e) old.seats.list.items new.seats.list.items → FloorNow old w → FloorNow new (flow_step e w).floor
flow_now e is old new w same p h =
    let stays : FlowStays w (flow_step e w).floor = flow_stays e w in
    record {
      tick = stays.tick ∙ h.tick ∙ sym (ap (λ (z : kept_floor.Floor). z.tick) same);
      are = flowed_all e is old.seats.list.items new.seats.list.items w p h.are;
      drawn = stays.drawn ∙ h.drawn ∙ sym (ap (λ (z : kept_floor.Floor). z.drawn.items) same);
      last = ap length stays.drawn ∙ h.last ∙ sym (ap (λ (z : kept_floor.Floor). z.last) same);
      live =
          subst (λ ls. AreLive (flow_step e w).floor.stands 1 (flow_step e w).floor.drawn ls) (sym (ap (λ (z : kept_floor.Floor). z.live.items) same))
          (subst (λ ds. AreLive (flow_step e w).floor.stands 1 ds old.live.items) (sym stays.drawn)
          (subst (λ ss. AreLive ss 1 w.drawn old.live.items) (sym stays.stands) h.live));
    }

-- What was told by one that tells nothing.
module _ {H : Type 0} (Told : H → H → List FloorEntry → Type 0) (e : Event) (is : IsFlow e) (u : World) where
  pub flow_grew : (old new : Tagged H) → TaggedGrew Told old new (step u e).entries → FloorGrew Told old new []
  flow_grew old new h =
      (h.0, subst (λ es. Told (heard old) (heard new) (map (entry_of old.vehicle) es)) (flow_says e is u) h.2)
