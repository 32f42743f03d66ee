-- The five laws of a listener, proved for lines on a sink. They are laws over the definitions of `TextListener` alone.
-- Cited by the listener `TextOut`.
use Rattle.std.proofs.Common.{◌≡◌, ℕ, List, [], ◌∷◌, ◌++◌, Option, refl, sym, subst, ap, ◌∙◌, append_assoc}
use Rattle.call_io.specs.Bytes.{Grew, GrewPartly}
use Rattle.call_io.proofs.BytesLemmas.{Grew-nothing, Grew-append, GrewPartly-whole, GrewPartly-after, GrewPartly-longer}
use Rattle.call_io.specs.Ways.{Way}
use Rattle.call_io.proofs.BlockLemmas.{Onward-nothing, Onward-append}
use Rattle.trace_model.specs.declared.entry.Entry.{Entry}
use Rattle.trace_text.specs.EntryLine.{line_of, text_of}
use Rattle.trace_text.specs.TextListener.{sink, TextGrew, TextGrewPartly}
use Rattle.trace_text.specs.declared.text_out.TextOut.{TextOut}

-- the lines of two lists of entries are those of the one behind those of the other
pub text_of-append : (s t : List Entry) → text_of (s ++ t) ≡ text_of s ++ text_of t
text_of-append [] t = refl
text_of-append (x ∷ s) t =
    ap (λ r. line_of x ++ r) (text_of-append s t) ∙ sym (append_assoc (line_of x) (text_of s) (text_of t))

module _ {O : Type 0} (held : O → Option (List ℕ)) (way : O → Way) where
  pub TextGrew-nothing : (a : TextOut O) → TextGrew held way a a []
  TextGrew-nothing a = (refl, Grew-nothing (held (sink a)), Onward-nothing (way (sink a)))

  pub TextGrew-append : (a b c : TextOut O) (s t : List Entry) → TextGrew held way a b s → TextGrew held way b c t
      → TextGrew held way a c (s ++ t)
  TextGrew-append a b c s t first second = (
    second.0 ∙ first.0,
    subst (Grew (held (sink a)) (held (sink c))) (sym (text_of-append s t))
        (Grew-append (held (sink a)) (held (sink b)) (held (sink c)) (text_of s) (text_of t) first.1 second.1),
    Onward-append (way (sink a)) (way (sink b)) (way (sink c)) first.2 second.2,
  )

  pub TextGrewPartly-whole : (a b : TextOut O) (s : List Entry) → TextGrew held way a b s
      → TextGrewPartly held way a b s
  TextGrewPartly-whole a b s whole =
      (whole.0, GrewPartly-whole (held (sink a)) (held (sink b)) (text_of s) whole.1, whole.2)

  pub TextGrewPartly-after : (a b c : TextOut O) (s t : List Entry) → TextGrew held way a b s
      → TextGrewPartly held way b c t → TextGrewPartly held way a c (s ++ t)
  TextGrewPartly-after a b c s t first second = (
    second.0 ∙ first.0,
    subst (GrewPartly (held (sink a)) (held (sink c))) (sym (text_of-append s t))
        (GrewPartly-after (held (sink a)) (held (sink b)) (held (sink c)) (text_of s) (text_of t) first.1 second.1),
    Onward-append (way (sink a)) (way (sink b)) (way (sink c)) first.2 second.2,
  )

  pub TextGrewPartly-longer : (a b : TextOut O) (s t : List Entry) → TextGrewPartly held way a b s
      → TextGrewPartly held way a b (s ++ t)
  TextGrewPartly-longer a b s t part = (
    part.0,
    subst (GrewPartly (held (sink a)) (held (sink b))) (sym (text_of-append s t))
        (GrewPartly-longer (held (sink a)) (held (sink b)) (text_of s) (text_of t) part.1),
    part.2,
  )
