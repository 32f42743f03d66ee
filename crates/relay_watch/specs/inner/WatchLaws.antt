-- The five laws of a listener, proved for entries with a relay desk between them. Cited by the listener `Watch`.
use Rattle.std.specs.Prelude.{ℕ, List, [], ◌++◌, Option}
use Rattle.std.proofs.Common.{sym, ◌∙◌, refl, subst}
use Rattle.call_io.specs.Bytes.{GrewPartly}
use Rattle.call_io.specs.Ways.{Way}
use Rattle.call_io.proofs.BytesLemmas.{GrewPartly-whole}
use Rattle.call_io.proofs.BlockLemmas.{Onward-nothing, Onward-append}
use Rattle.trace_model.specs.declared.entry.Entry.{Entry}
use Rattle.relay_text.specs.ItemLine.{text_with_desk}
use Rattle.relay_watch.specs.declared.watch.Watch.{Watch}
use Rattle.relay_watch.specs.Watching.{IsSame, WatchGrew, WatchGrewPartly, desk_in, sink}
use Rattle.relay_watch.specs.inner.ClockLaws.{follows-append, partly_then, told_nothing, told_partly, told_then}
use Rattle.relay_watch.specs.Clocks.{Came, IsTold, clock_of, follows}

module _ {O : Type 0} (held : O → Option (List ℕ)) (way : O → Way) where
  same_then : (a b c : Watch O) → IsSame way a b → IsSame way b c → IsSame way a c
  same_then a b c first second =
      record {
        out = second.out ∙ first.out;
        desk = second.desk ∙ first.desk;
        onward = Onward-append (way (sink a)) (way (sink b)) (way (sink c)) first.onward second.onward;
      }

  pub WatchGrew-nothing : (a : Watch O) → WatchGrew held way a a []
  WatchGrew-nothing a = (
    record { out = refl; desk = refl; onward = Onward-nothing (way (sink a)) },
    told_nothing (desk_in a) (held (sink a)),
  )

  pub WatchGrew-append : (a b c : Watch O) (s t : List Entry) → WatchGrew held way a b s → WatchGrew held way b c t
      → WatchGrew held way a c (s ++ t)
  WatchGrew-append a b c s t first second = (
    same_then a b c first.0 second.0,
    subst (λ (r : Came). IsTold r (desk_in c) (held (sink a)) (held (sink c)))
        (sym (follows-append s t (clock_of (desk_in a))))
        (told_then (follows s (clock_of (desk_in a))) (follows t) (desk_in b) (desk_in c)
        (held (sink a)) (held (sink b)) (held (sink c)) first.1 second.1),
  )

  pub WatchGrewPartly-whole : (a b : Watch O) (s : List Entry) → WatchGrew held way a b s
      → WatchGrewPartly held way a b s
  WatchGrewPartly-whole a b s whole = (
    whole.0,
    GrewPartly-whole (held (sink a)) (held (sink b)) (text_with_desk (follows s (clock_of (desk_in a))).items)
        whole.1.wrote,
  )

  pub WatchGrewPartly-after : (a b c : Watch O) (s t : List Entry) → WatchGrew held way a b s
      → WatchGrewPartly held way b c t → WatchGrewPartly held way a c (s ++ t)
  WatchGrewPartly-after a b c s t first second = (
    same_then a b c first.0 second.0,
    subst (λ (r : Came). GrewPartly (held (sink a)) (held (sink c)) (text_with_desk r.items))
        (sym (follows-append s t (clock_of (desk_in a))))
        (told_partly (follows s (clock_of (desk_in a))) (follows t) (desk_in b) (held (sink a)) (held (sink b))
        (held (sink c)) first.1 second.1),
  )

  pub WatchGrewPartly-longer : (a b : Watch O) (s t : List Entry) → WatchGrewPartly held way a b s
      → WatchGrewPartly held way a b (s ++ t)
  WatchGrewPartly-longer a b s t part = (
    part.0,
    subst (λ (r : Came). GrewPartly (held (sink a)) (held (sink b)) (text_with_desk r.items))
        (sym (follows-append s t (clock_of (desk_in a))))
        (partly_then (follows s (clock_of (desk_in a))) (follows t) (held (sink a)) (held (sink b)) part.1),
  )
