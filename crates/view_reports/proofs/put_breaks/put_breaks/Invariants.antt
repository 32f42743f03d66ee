use Rattle.std.proofs.Common.{◌≡◌, ◌++◌, take}
use Rattle.view_reports.specs.Told.{breaks_told}
use Rattle.view_reports.proofs.put_breaks.put_breaks.Given as goal

abbrev pub invariant-loop-broken : goal.invariant-loop-broken
invariant-loop-broken l = record {
  text : l.text.items
      ≡ l.initial.text.items ++ (breaks_told l.manner l.line l.tick (take l.broken-index l.breaks)).text;
  any : l.any ≡ (breaks_told l.manner l.line l.tick (take l.broken-index l.breaks)).refused;
}
