use Rattle.std.proofs.Common.{inl, refl}
use Rattle.set_objects.specs.Object.{set_object}
use Rattle.set_objects.proofs.line.put_octets_told.Goals as goal

pub returns-in_ok-put_set-in-Ok : goal.returns-in_ok-put_set-in-Ok
returns-in_ok-put_set-in-Ok c = record {
  object = set_object c.args.number c.in-Ok.msd;
  told = inl (record { msd = c.in-Ok.msd; shown = c.in-Ok.ensures.shown; says = refl });
  grew = c.in_ok-put_set-in-Ok.ensures;
}
