-- What a block tells while it is emptied and filled, and what its sink got once its borrow is over.
use Rattle.std.proofs.Common.{◌≡◌, ℕ, List, [], ◌++◌, Option, None, Some, refl, sym, subst, ap, ◌∙◌, ◌+◌, ◌-◌, ◌≤◌, length, take, drop, arith, take-append-drop}
use Rattle.std.specs.List.{between}
use Rattle.std.specs.Option.{option_map_or}
use Rattle.std.specs.Io.KnownBytes.{append_known}
use Rattle.std.proofs.lemmas.List.{length-append, length-take, drop-append-le, drop-drop}
use Rattle.std.proofs.lemmas.Slice.{between_is}
use Rattle.call_io.specs.Bytes.{Grew, GrewPartly}
use Rattle.call_io.specs.Ways.{Way, Onward}
use Rattle.call_io.specs.Blocks.{sink, pending, held, way}
use Rattle.call_io.specs.declared.block.Block.{Block}
use Rattle.std.proofs.Math.Seq.{take-append_seam, take-append-add}
use Rattle.call_io.proofs.BytesLemmas.{append_known-append, Grew-nothing, GrewPartly-nothing, GrewPartly-longer}

-- a front of what was pending went on to the sink, and the rest is pending
pub handed-on : (told told' : Option (List ℕ)) (bytes : List ℕ) (start end n : ℕ)
    → Grew told told' (take n (between start end bytes))
    → append_known told' (between (start + n) end bytes) ≡ append_known told (between start end bytes)
handed-on told told' bytes start end n grew =
    ap (λ t. append_known t (between (start + n) end bytes)) grew
    ∙ append_known-append told (take n (between start end bytes)) (between (start + n) end bytes)
    ∙ ap (append_known told) (ap (λ r. take n (between start end bytes) ++ r) rest ∙ take-append-drop n (between start end bytes))
  where
    rest : between (start + n) end bytes ≡ drop n (between start end bytes)
    rest = between_is bytes (start + n) end ∙ sym (drop-drop n start (take end bytes)) ∙ ap (drop n) (sym (between_is bytes start end))

-- a way goes on from where it is
pub Onward-nothing : (way : Way) → Onward way way
Onward-nothing way = (refl, omega arith)

-- and on from where it went
pub Onward-append : (old mid new : Way) → Onward old mid → Onward mid new → Onward old new
Onward-append old mid new first second = (second.0 ∙ first.0, omega arith)

-- what grew tells no fewer bytes
pub told_more : (told told' : Option (List ℕ)) (s : List ℕ) → Grew told told' s → option_map_or length told 0 ≤ option_map_or length told' 0
told_more None told' s grew = omega arith
told_more (Some xs) told' s grew =
    rw grew (omega (arith, length-append xs s))

-- bytes put behind what was pending are pending behind it
pub pending-more : (old new more : List ℕ) (start end n : ℕ) → start ≤ end → end ≤ length old
    → take (end + n) new ≡ take end old ++ more
    → between start (end + n) new ≡ between start end old ++ more
pending-more old new more start end n order within put =
    between_is new start (end + n)
    ∙ ap (drop start) put
    ∙ drop-append-le start (take end old) more (omega (arith, length-take end old))
    ∙ ap (λ r. r ++ more) (sym (between_is old start end))

-- and so what the block tells grew by them
pub held-more : (told : Option (List ℕ)) (old new more : List ℕ) (start end n : ℕ) → start ≤ end → end ≤ length old
    → take (end + n) new ≡ take end old ++ more
    → Grew (append_known told (between start end old)) (append_known told (between start (end + n) new)) more
held-more told old new more start end n order within put =
    ap (append_known told) (pending-more old new more start end n order within put)
    ∙ sym (append_known-append told (between start end old) more)

-- what grew to no fewer bytes, and ends with these, grew by a front
front_of : (told told' : Option (List ℕ)) (waits text : List ℕ)
    → append_known told' waits ≡ append_known told text
    → option_map_or length told 0 ≤ option_map_or length told' 0
    → GrewPartly told told' text
front_of None None waits text same more = GrewPartly-nothing None text
front_of None (Some ys) waits text same more = absurd cc
front_of (Some xs) None waits text same more = absurd cc
front_of (Some xs) (Some ys) waits text same more = (
  take (length ys - length xs) text,
  drop (length ys - length xs) text,
  take-append-drop (length ys - length xs) text,
  ap Some (
      sym (take-append_seam ys waits)
      ∙ ap (take (length ys)) both
      ∙ ap (λ n. take n (xs ++ text)) longer
      ∙ take-append-add xs text (length ys - length xs)
      ),
)
  where
    both : ys ++ waits ≡ xs ++ text
    both = cc

    longer : length ys ≡ length xs + (length ys - length xs)
    longer = omega arith

-- what a sink got through a block, told of the sink itself: of the block when nothing was pending, and of it now
append_known-nil : (told : Option (List ℕ)) → append_known told [] ≡ told
append_known-nil told = sym (Grew-nothing told)

module _ {O : Type 0} (of_sink : O → Option (List ℕ)) (old new : Block O) (text : List ℕ) (began : pending old ≡ []) where
  -- with nothing pending, it grew by exactly what was written through the block
  pub Grew_through : pending new ≡ [] → Grew (held of_sink old) (held of_sink new) text → Grew (of_sink (sink old)) (of_sink (sink new)) text
  Grew_through ended grew =
      sym (append_known-nil (of_sink (sink new)))
      ∙ ap (append_known (of_sink (sink new))) (sym ended)
      ∙ grew
      ∙ ap (λ told. append_known told text) (ap (append_known (of_sink (sink old))) began ∙ append_known-nil (of_sink (sink old)))

  -- always, it grew by a front of it
  pub GrewPartly_through : Onward (way of_sink old) (way of_sink new) → GrewPartly (held of_sink old) (held of_sink new) text → GrewPartly (of_sink (sink old)) (of_sink (sink new)) text
  GrewPartly_through onward partly =
      let told : held of_sink old ≡ of_sink (sink old) = ap (append_known (of_sink (sink old))) began ∙ append_known-nil (of_sink (sink old)) in
      let front = front_of (of_sink (sink old)) (of_sink (sink new)) (pending new) partly.0 (partly.3 ∙ ap (λ t. append_known t partly.0) told) onward.1 in
      subst (GrewPartly (of_sink (sink old)) (of_sink (sink new))) partly.2 (GrewPartly-longer _ _ partly.0 partly.1 front)
