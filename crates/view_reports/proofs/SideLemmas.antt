-- What is kept of a leg says what the entries say of it.
use Rattle.std.proofs.Common.{◌≡◌, ◌==◌, ◌&&◌, ℕ, nat_eq, Bool, true, false, List, [], ◌∷◌, ◌++◌, Option, Some, None, refl, sym, ap, subst, ◌∙◌, if◌then◌else◌}
use Rattle.std.specs.Map.{lookup}
use Rattle.std.specs.Option.{unwrap_or}
use Rattle.std.proofs.lemmas.Bool.{eqb-true}
use Rattle.indexmap.specs.IndexMap.{insert_entry}
use Rattle.link_frames.specs.declared.frame.End.{End}
use Rattle.link_frames.specs.declared.frame.End.TheVariants as «end»
use Rattle.link_frames.specs.declared.note.Note.{Note}
use Rattle.link_frames.specs.declared.note.Note.TheVariants as note
use Rattle.link_frames.specs.declared.note.Why.{Why}
use Rattle.trace_audit.proofs.RulesLemmas.{AreVoices, is_this_leg}
use Rattle.trace_model.specs.LegsStand.{IsVoiceOf}
use Rattle.trace_model.specs.Safety.{Leg, is_leg, is_own, leg_at, leg_moved, revoiced, same_end}
use Rattle.trace_model.specs.declared.entry.Entry.{Entry}
use Rattle.trace_model.specs.declared.voice.Voice.{Voice}
use Rattle.trace_model.proofs.Fronts.{leg_one}
use Rattle.view_reports.specs.Calls.{CallRows, call_behind, call_in, calls_behind, no_call, side_in, side_of, with_side}
use Rattle.view_reports.specs.Sides.{side_behind, turned}
use Rattle.view_reports.specs.declared.call.Call.{Call}
use Rattle.view_reports.specs.declared.side.Side.{Side}
use Rattle.view_reports.proofs.RowLemmas.{lookup_put}

-- the voice of a leg, where it is up
abbrev pub voice_kept : Side → Option Voice
voice_kept side = if side.is_up then Some (record { talks = side.talks; since = side.since }) else None

abbrev pub voices_kept : CallRows → End → ℕ → Option Voice
voices_kept calls e c = voice_kept (side_in calls e c)

revoiced_down : (leg : Leg) (now : ℕ) (was will : Bool) → leg.up ≡ false → (revoiced leg now was will).up ≡ false
revoiced_down leg now true true h = h
revoiced_down leg now true false h = h
revoiced_down leg now false true h = h
revoiced_down leg now false false h = h

module _ (s l line now : ℕ) (came went : Option ℕ) (why : Option Why) where
  abbrev side_with : (up talks : Bool) → Side
  side_with up talks = record {
    is_up = up;
    talks = talks;
    since = s;
    line = l;
    came = came;
    went = went;
    why = why;
  }

  turned_leg : (talks will : Bool) (leg : Leg) → IsVoiceOf (Some (record { talks = talks; since = s })) leg
      → IsVoiceOf (voice_kept (turned (side_with true talks) line now will)) (revoiced leg now talks will)
  turned_leg true true leg h = (h.0, h.1, h.2)
  turned_leg true false leg h = (h.0, refl, refl)
  turned_leg false true leg h = (h.0, refl, refl)
  turned_leg false false leg h = (h.0, h.1, h.2)

  leg_kept : (up talks : Bool) (leg : Leg) (n : Note) → IsVoiceOf (voice_kept (side_with up talks)) leg
      → IsVoiceOf (voice_kept (side_behind (side_with up talks) n line now)) (leg_moved leg now n)
  leg_kept false talks leg (note.Up e c) h = rw h (refl, refl, refl)
  leg_kept true talks leg (note.Up e c) h = rw h.0 (refl, h.1, h.2)
  leg_kept up talks leg (note.Down e c w) h = refl
  leg_kept false talks leg (note.Voice e c u w) h = revoiced_down leg now leg.talks (u && w) h
  leg_kept true talks leg (note.Voice e c u w) h =
      subst
      (λ (z : Bool). IsVoiceOf (voice_kept (turned (side_with true talks) line now (u && w))) (revoiced leg now z (u && w)))
      (sym h.1) (turned_leg talks (u && w) leg h)
  leg_kept up talks leg _ h = h

-- what an item of its leg makes of it
side_kept : (side : Side) (leg : Leg) (n : Note) (line now : ℕ) → IsVoiceOf (voice_kept side) leg
    → IsVoiceOf (voice_kept (side_behind side n line now)) (leg_moved leg now n)
side_kept side leg n line now =
    leg_kept side.since side.line line now side.came side.went side.why side.is_up side.talks leg n

-- the leg of an end in a call, behind one call that was put
pub side_put : (calls : CallRows) (e f : End) (c d : ℕ) (moved : Side)
    → side_in (insert_entry nat_eq calls d (with_side (call_in calls d) f moved)) e c
    ≡ (if is_leg e c f d then moved else side_in calls e c)
side_put calls e f c d moved =
    ap (λ (o : Option Call). side_of (unwrap_or o no_call) e)
    (lookup_put nat_eq eqb-true calls d (with_side (call_in calls d) f moved) c)
    ∙ at (c == d) refl e f
  where
    at : (b : Bool) → (c == d) ≡ b → (e f : End)
        → side_of (unwrap_or (if b then Some (with_side (call_in calls d) f moved) else lookup (nat_eq c) calls) no_call) e
        ≡ (if same_end e f && b then moved else side_in calls e c)
    at true h «end».Vehicle «end».Vehicle = refl
    at true h «end».Vehicle «end».Point = ap (λ (z : ℕ). side_in calls «end».Vehicle z) (sym (eqb-true c d h))
    at true h «end».Point «end».Vehicle = ap (λ (z : ℕ). side_in calls «end».Point z) (sym (eqb-true c d h))
    at true h «end».Point «end».Point = refl
    at false h «end».Vehicle «end».Vehicle = refl
    at false h «end».Vehicle «end».Point = refl
    at false h «end».Point «end».Vehicle = refl
    at false h «end».Point «end».Point = refl

stays : (b : Bool) (o : Option Voice) (leg : Leg) → IsVoiceOf o leg → IsVoiceOf o (if b then leg else leg)
stays true o leg h = h
stays false o leg h = h

moved_one : (calls : CallRows) (leg : Leg) (f : End) (d : ℕ) (n : Note) (line now : ℕ) (e : End) (c : ℕ)
    → IsVoiceOf (voices_kept calls e c) leg
    → IsVoiceOf (voices_kept (insert_entry nat_eq calls d (call_behind (call_in calls d) f n line now)) e c)
    (if is_leg e c f d then leg_moved leg now n else leg)
moved_one calls leg f d n line now e c h =
    subst (λ (z : Side). IsVoiceOf (voice_kept z) (if is_leg e c f d then leg_moved leg now n else leg))
    (sym (side_put calls e f c d (side_behind (side_in calls f d) n line now))) (at (is_leg e c f d) refl)
  where
    at : (b : Bool) → is_leg e c f d ≡ b
        → IsVoiceOf (voice_kept (if b then side_behind (side_in calls f d) n line now else side_in calls e c))
        (if b then leg_moved leg now n else leg)
    at true is =
        let p = is_this_leg e f c d is in
        side_kept (side_in calls f d) leg n line now
        (subst (λ (z : ℕ). IsVoiceOf (voices_kept calls f z) leg) (sym p.1)
        (subst (λ (z : End). IsVoiceOf (voices_kept calls z c) leg) (sym p.0) h))
    at false is = h

note_kept : (calls : CallRows) (leg : Leg) (n : Note) (line now : ℕ) (e : End) (c : ℕ)
    → IsVoiceOf (voices_kept calls e c) leg
    → IsVoiceOf (voices_kept (calls_behind calls n line now) e c) (if is_own e c n then leg_moved leg now n else leg)
note_kept calls leg (note.Up f d) line now e c h = moved_one calls leg f d (note.Up f d) line now e c h
note_kept calls leg (note.Down f d why) line now e c h = moved_one calls leg f d (note.Down f d why) line now e c h
note_kept calls leg (note.Voice f d u w) line now e c h = moved_one calls leg f d (note.Voice f d u w) line now e c h
note_kept calls leg n line now e c h = stays (is_own e c n) (voices_kept calls e c) leg h

-- the voices behind one more entry
pub voices_more : (calls : CallRows) (t : List Entry) (x : Entry) (line : ℕ) → AreVoices (voices_kept calls) t
    → AreVoices (voices_kept (calls_behind calls x.note line x.tick)) (t ++ x ∷ [])
voices_more calls t x line are = λ e c.
    subst (λ (z : Leg). IsVoiceOf (voices_kept (calls_behind calls x.note line x.tick) e c) z) (sym (leg_one e c t x))
    (note_kept calls (leg_at e c t) x.note line x.tick e c (are e c))
