-- The five laws of a floor's listener, proved for lines on a sink. They are laws over the definitions of `FloorText`
-- alone. Cited by the listener `FloorTextOut`.
use Rattle.std.proofs.Common.{◌≡◌, ℕ, List, [], ◌∷◌, ◌++◌, Option, refl, sym, subst, ap, ◌∙◌, append_assoc}
use Rattle.call_io.specs.Bytes.{Grew, GrewPartly}
use Rattle.call_io.proofs.BytesLemmas.{Grew-nothing, Grew-append, GrewPartly-whole, GrewPartly-after, GrewPartly-longer}
use Rattle.call_io.specs.Ways.{Way}
use Rattle.call_io.proofs.BlockLemmas.{Onward-nothing, Onward-append}
use Rattle.floor_text.specs.VehicleText.{vehicle_line}
use Rattle.call_floor.specs.declared.entry.FloorEntry.{FloorEntry}
use Rattle.floor_command.specs.FloorText.{sink, text_of, TextGrew, TextGrewPartly}
use Rattle.floor_command.specs.declared.listener.FloorTextOut.{FloorTextOut}

-- the lines of two lists of entries are those of the one behind those of the other
pub text_of-append : (s t : List FloorEntry) → text_of (s ++ t) ≡ text_of s ++ text_of t
text_of-append [] t = refl
text_of-append (x ∷ s) t =
    ap (λ r. vehicle_line x.vehicle x.entry ++ r) (text_of-append s t)
    ∙ sym (append_assoc (vehicle_line x.vehicle x.entry) (text_of s) (text_of t))

module _ {O : Type 0} (held : O → Option (List ℕ)) (way : O → Way) where
  pub TextGrew-nothing : (a : FloorTextOut O) → TextGrew held way a a []
  TextGrew-nothing a = (refl, Grew-nothing (held (sink a)), Onward-nothing (way (sink a)))

  pub TextGrew-append : (a b c : FloorTextOut O) (s t : List FloorEntry) → TextGrew held way a b s
      → TextGrew held way b c t
      → TextGrew held way a c (s ++ t)
  TextGrew-append a b c s t first second = (
    second.0 ∙ first.0,
    subst (Grew (held (sink a)) (held (sink c))) (sym (text_of-append s t))
        (Grew-append (held (sink a)) (held (sink b)) (held (sink c)) (text_of s) (text_of t) first.1 second.1),
    Onward-append (way (sink a)) (way (sink b)) (way (sink c)) first.2 second.2,
  )

  pub TextGrewPartly-whole : (a b : FloorTextOut O) (s : List FloorEntry) → TextGrew held way a b s
      → TextGrewPartly held way a b s
  TextGrewPartly-whole a b s whole =
      (whole.0, GrewPartly-whole (held (sink a)) (held (sink b)) (text_of s) whole.1, whole.2)

  pub TextGrewPartly-after : (a b c : FloorTextOut O) (s t : List FloorEntry) → TextGrew held way a b s
      → TextGrewPartly held way b c t → TextGrewPartly held way a c (s ++ t)
  TextGrewPartly-after a b c s t first second = (
    second.0 ∙ first.0,
    subst (GrewPartly (held (sink a)) (held (sink c))) (sym (text_of-append s t))
        (GrewPartly-after (held (sink a)) (held (sink b)) (held (sink c)) (text_of s) (text_of t) first.1 second.1),
    Onward-append (way (sink a)) (way (sink b)) (way (sink c)) first.2 second.2,
  )

  pub TextGrewPartly-longer : (a b : FloorTextOut O) (s t : List FloorEntry) → TextGrewPartly held way a b s
      → TextGrewPartly held way a b (s ++ t)
  TextGrewPartly-longer a b s t part = (
    part.0,
    subst (GrewPartly (held (sink a)) (held (sink b))) (sym (text_of-append s t))
        (GrewPartly-longer (held (sink a)) (held (sink b)) (text_of s) (text_of t) part.1),
    part.2,
  )
