use Rattle.std.proofs.Common.{refl, subst, sym}
use Rattle.link_frames.specs.declared.note.Note.{Note}
use Rattle.trace_audit.proofs.ShownLemmas.{ShowsNone, kept_by, none_shown}
use Rattle.trace_audit.proofs.rules.Rules.show.Goals as goal

pub returns-in_default : goal.returns-in_default
returns-in_default c =
    record {
      shown = λ before x same h. kept_by c.args.self.now.shown before x
          (subst (λ (n : Note). ShowsNone n) (sym same) (none_shown c.args.note.now c.in_default.not-Shown)) h;
      vehicle = refl;
      point = refl;
      owed = refl;
    }
