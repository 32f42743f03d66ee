use Rattle.std.proofs.Common.{[], ◌++◌, ◌∙◌, ◌∷◌, refl, subst, sym, ℕ}
use Rattle.link_frames.specs.declared.frame.End.TheVariants as «end»
use Rattle.trace_model.specs.Safety.{Safe}
use Rattle.trace_model.specs.declared.legs.Legs.{Legs}
use Rattle.trace_audit.specs.declared.shown.Shown.{Shown}
use Rattle.trace_model.specs.LegsStand.{LegsStandFor}
use Rattle.trace_audit.specs.ShownStands.{ShownStandsFor}
use Rattle.trace_model.proofs.LegsLemmas.{on_map}
use Rattle.trace_model.proofs.LegsHeard.{last_one}
use Rattle.trace_audit.proofs.RulesLemmas.{owed_taken}
use Rattle.trace_audit.proofs.rules.Rules.take.Goals as goal

pub returns : goal.returns
returns c =
    λ before h le safe.
    let t = before ++ c.args.entry.now ∷ [] in
    on_map c.show.result _ _
    (λ shown. record {
      vehicle = subst (λ (z : Legs). LegsStandFor «end».Vehicle z t) (sym c.show.ensures.vehicle)
          (c.in_ok-move_leg.ensures.vehicle before le h.vehicle);
      point = subst (λ (z : Legs). LegsStandFor «end».Point z t) (sym c.show.ensures.point)
          (c.in_ok-move_leg.ensures.point before le h.point);
      shown = shown;
      owed = owed_taken c.args.self.now before c.args.entry.now c.show.new.self.owed h
          (c.show.ensures.owed ∙ (c.move_leg.ensures.owed ∙ c.owes-self.ensures));
      safe = subst (λ (n : ℕ). Safe t n) (sym (last_one before c.args.entry.now)) safe;
    })
    (c.show.ensures.shown before c.args.entry.now refl
    (subst (λ (z : Shown). ShownStandsFor z before) (sym c.move_leg.ensures.shown) h.shown))
