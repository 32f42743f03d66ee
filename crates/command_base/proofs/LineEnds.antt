-- How a line ends a command over lines, by what was written of its reply.
use Rattle.std.specs.Prelude.{◌≡◌, ℕ, ◌+◌, ◌≤◌, ◌⊎◌, true, List, [], ◌∷◌, ◌++◌, length, Option}
use Rattle.std.proofs.Common.{◌∙◌, sym, subst, ap, refl, append_assoc, inl, inr, arith, length-append}
use Rattle.call_io.specs.Bytes.{Grew, GrewPartly, Took}
use Rattle.line_input.specs.Inputs.{IsSettledBy}
use Rattle.line_input.specs.Lines.{IsWhole, most_at_once, most_bytes}
use Rattle.command_base.specs.LineCommands.{GoesOn, Ends, EndsLine}
use Rattle.command_base.specs.Outcome.{Answered, CutShort, Outcome, Streams}
use Rattle.command_base.specs.Refusals.{Reply, in_front_of, line_of}
use Rattle.command_base.specs.declared.refusal.Refused.{Refused}
use Rattle.command_base.specs.declared.status.Status.{Status}
use Rattle.command_base.specs.declared.status.Status.TheVariants as status
use Rattle.command_base.specs.Ends.{EndsWithText}

module _ (Rest : ℕ → List (List ℕ) → Reply → Type 0) (number : ℕ) (line : List ℕ) (held held' : Option (List ℕ)) where
  -- a part of what a line gives was written
  pub cut_text : (Next : ℕ → List (List ℕ) → Reply → Type 0) (text : List ℕ) → GoesOn Rest Next number line text
      → ((texts : List (List ℕ)) → (r : Reply) × Next (number + 1) texts r) → GrewPartly held held' text
      → EndsLine Rest number line held held' status.WriteFault
  cut_text Next text goes some grew = (
    grew.0,
    λ texts.
        let rest : (r : Reply) × Next (number + 1) texts r = some texts in (
          in_front_of grew.1 rest.0,
          subst (λ (t : List ℕ). Rest number (line ∷ texts) (record { text = t; status = rest.0.status }))
              (ap (λ t. t ++ rest.0.text) (sym grew.2) ∙ append_assoc grew.0 grew.1 rest.0.text)
              (goes texts rest.0 rest.1),
        ),
    grew.3,
  )

  -- a part of the whole reply was written
  pub cut_end : (r : Reply) → Ends Rest number line r → GrewPartly held held' r.text
      → EndsLine Rest number line held held' status.WriteFault
  cut_end r ends grew = (
    grew.0,
    λ texts. (
      record { text = grew.1; status = r.status },
      subst (λ (t : List ℕ). Rest number (line ∷ texts) (record { text = t; status = r.status })) (sym grew.2)
          (ends texts),
    ),
    grew.3,
  )

  -- the refusal of a line was written, or a part of it
  pub ends_refused : (text : List ℕ) (why : Refused)
      → Ends Rest number line (record { text = text; status = status.Refused why }) → line_of why ≡ number
      → (answer : Status) → EndsWithText held held' text (status.Refused why) answer
      → EndsLine Rest number line held held' answer
  ends_refused text why ends here answer (inl h) =
      subst (λ (a : Status). EndsLine Rest number line held held' a) (sym h.0) (text, ends, h.1, here)
  ends_refused text why ends here answer (inr h) =
      subst (λ (a : Status). EndsLine Rest number line held held' a) (sym h.0)
      (cut_end (record { text = text; status = status.Refused why }) ends h.1)

-- a line that ends the command by replies of one kind ends it by those of another, where each of these is one
pub ends_as : (Rest Rest' : ℕ → List (List ℕ) → Reply → Type 0) (number : ℕ) (line line' : List ℕ)
    (held held' : Option (List ℕ))
    → ((texts : List (List ℕ)) (r : Reply) → Rest number (line ∷ texts) r → Rest' number (line' ∷ texts) r)
    → (answer : Status) → EndsLine Rest number line held held' answer → EndsLine Rest' number line' held held' answer
ends_as Rest Rest' number line line' held held' same (status.Refused why) e =
    (e.0, λ texts. same texts (record { text = e.0; status = status.Refused why }) (e.1 texts), e.2, e.3)
ends_as Rest Rest' number line line' held held' same (status.Broken place rule) e =
    (e.0, λ texts. same texts (record { text = e.0; status = status.Broken place rule }) (e.1 texts), e.2, e.3)
ends_as Rest Rest' number line line' held held' same status.WriteFault e =
    (e.0, λ texts. ((e.1 texts).0, same texts (in_front_of e.0 (e.1 texts).0) (e.1 texts).1), e.2)
ends_as Rest Rest' number line line' held held' same status.Memory e =
    (e.0, λ texts. ((e.1 texts).0, same texts (in_front_of e.0 (e.1 texts).0) (e.1 texts).1), e.2)
ends_as Rest Rest' number line line' held held' same status.Done e = absurd e
ends_as Rest Rest' number line line' held held' same status.Usage e = absurd e
ends_as Rest Rest' number line line' held held' same status.ReadFault e = absurd e
ends_as Rest Rest' number line line' held held' same status.TooLong e = absurd e

-- what an answer that was cut short says depends on passes by their count alone
cut_counted : (replies : List ℕ → Reply → Type 0) (most most' : List ℕ → ℕ) (left left' held held' : Option (List ℕ))
    (passes passes' other other' : ℕ) (input : List ℕ)
    → CutShort replies most (record { left = left; held = held; passes = passes })
    (record { left = left'; held = held'; passes = passes' }) input → other' ≤ other + most' input
    → CutShort replies most' (record { left = left; held = held; passes = other })
    (record { left = left'; held = held'; passes = other' }) input
cut_counted replies most most' left left' held held' passes passes' other other' input c counted =
    record {
      took = c.took;
      within = c.within;
      front = c.front;
      rest = c.rest;
      split = c.split;
      text = c.text;
      wrote = c.wrote;
      begins = c.begins;
      counted = counted;
    }

-- so of a command that passes no ends
cut_passes : (replies : List ℕ → Reply → Type 0) (left left' held held' : Option (List ℕ)) (passes : ℕ)
    (input : List ℕ)
    → CutShort replies (λ bytes. 0) (record { left = left; held = held; passes = 0 })
    (record { left = left'; held = held'; passes = 0 }) input
    → CutShort replies (λ bytes. 0) (record { left = left; held = held; passes = passes })
    (record { left = left'; held = held'; passes = passes }) input
cut_passes replies left left' held held' passes input c =
    cut_counted replies (λ bytes. 0) (λ bytes. 0) left left' held held' 0 0 passes passes input c (omega arith)

-- and so does what one that answered whole says
answered_passes : (replies : List ℕ → Reply → Type 0) (left left' held held' : Option (List ℕ)) (passes : ℕ)
    (input : List ℕ) (r : Reply)
    → Answered replies (λ bytes. 0) (record { left = left; held = held; passes = 0 })
    (record { left = left'; held = held'; passes = 0 }) input r
    → Answered replies (λ bytes. 0) (record { left = left; held = held; passes = passes })
    (record { left = left'; held = held'; passes = passes }) input r
answered_passes replies left left' held held' passes input r a =
    record { took = a.took; replied = a.replied; wrote = a.wrote; counted = omega arith }

-- a command that passes no ends leaves any count of them as it was
pub any_passes : (replies : List ℕ → Reply → Type 0) (left left' held held' : Option (List ℕ)) (passes : ℕ)
    (answer : Status)
    → Outcome replies (λ bytes. 0) true (record { left = left; held = held; passes = 0 })
    (record { left = left'; held = held'; passes = 0 }) answer
    → Outcome replies (λ bytes. 0) true (record { left = left; held = held; passes = passes })
    (record { left = left'; held = held'; passes = passes }) answer
any_passes replies left left' held held' passes status.Done o =
    (o.0, o.1, answered_passes replies left left' held held' passes o.0 o.1 o.2, o.3, o.4)
any_passes replies left left' held held' passes status.Usage o =
    (o.0, answered_passes replies left left' held held' passes [] o.0 o.1, o.2)
any_passes replies left left' held held' passes (status.Refused why) o =
    (o.0, o.1, answered_passes replies left left' held held' passes o.0 o.1 o.2, o.3, o.4)
any_passes replies left left' held held' passes (status.Broken place rule) o =
    (o.0, o.1, answered_passes replies left left' held held' passes o.0 o.1 o.2, o.3, o.4)
any_passes replies left left' held held' passes status.ReadFault o =
    (o.0, cut_passes replies left left' held held' passes o.0 o.1)
any_passes replies left left' held held' passes status.WriteFault o =
    (o.0, cut_passes replies left left' held held' passes o.0 o.1)
any_passes replies left left' held held' passes status.Memory o =
    (o.0, cut_passes replies left left' held held' passes o.0 o.1)
any_passes replies left left' held held' passes status.TooLong o =
    (o.0, cut_passes replies left left' held held' passes o.0 o.1, o.2)

-- a greater bound of passes is one, too
cut_more : (replies : List ℕ → Reply → Type 0) (most most' : List ℕ → ℕ) (old new : Streams)
    → ((input : List ℕ) → most input ≤ most' input) → (input : List ℕ) → CutShort replies most old new input
    → CutShort replies most' old new input
cut_more replies most most' old new more input c =
    cut_counted replies most most' old.left new.left old.held new.held old.passes new.passes old.passes new.passes input c
    (omega (arith, c.counted, more input))

pub most_more : (replies : List ℕ → Reply → Type 0) (most most' : List ℕ → ℕ) (old new : Streams)
    → ((input : List ℕ) → most input ≤ most' input) → (answer : Status) → Outcome replies most true old new answer
    → Outcome replies most' true old new answer
most_more replies most most' old new more status.Done o = (
  o.0,
  o.1,
  record { took = o.2.took; replied = o.2.replied; wrote = o.2.wrote; counted = omega (arith, o.2.counted, more o.0) },
  o.3,
  o.4,
)
most_more replies most most' old new more status.Usage o = (
  o.0,
  record { took = o.1.took; replied = o.1.replied; wrote = o.1.wrote; counted = omega (arith, o.1.counted, more []) },
  o.2,
)
most_more replies most most' old new more (status.Refused why) o = (
  o.0,
  o.1,
  record { took = o.2.took; replied = o.2.replied; wrote = o.2.wrote; counted = omega (arith, o.2.counted, more o.0) },
  o.3,
  o.4,
)
most_more replies most most' old new more (status.Broken place rule) o = (
  o.0,
  o.1,
  record { took = o.2.took; replied = o.2.replied; wrote = o.2.wrote; counted = omega (arith, o.2.counted, more o.0) },
  o.3,
  o.4,
)
most_more replies most most' old new more status.ReadFault o = (o.0, cut_more replies most most' old new more o.0 o.1)
most_more replies most most' old new more status.WriteFault o = (o.0, cut_more replies most most' old new more o.0 o.1)
most_more replies most most' old new more status.Memory o = (o.0, cut_more replies most most' old new more o.0 o.1)
most_more replies most most' old new more status.TooLong o =
    (o.0, cut_more replies most most' old new more o.0 o.1, o.2)

-- an answer that was cut short wrote a front of a reply to what was taken
pub cut_partly : (replies : List ℕ → Reply → Type 0) (most : List ℕ → ℕ) (old new : Streams) (input : List ℕ)
    → (c : CutShort replies most old new input)
    → (r : Reply) × replies input r × GrewPartly old.held new.held r.text
cut_partly replies most old new input c = elim (c.begins) [
  | inl more ↦
      (let r : (r : Reply) × replies (c.front ++ c.rest) (in_front_of c.text r) = more c.rest in (
        in_front_of c.text r.0,
        subst (λ (b : List ℕ). replies b (in_front_of c.text r.0)) (sym c.split) r.1,
        (c.text, r.0.text, refl, c.wrote),
      ))
  | inr «end» ↦ (in_front_of c.text «end».1.0, «end».1.1, (c.text, «end».1.0.text, refl, c.wrote))
]

-- a text with which a reply to what was taken begins was written, and that is settled, or the input is whole
pub cut_settled : (replies : List ℕ → Reply → Type 0) (most : List ℕ → ℕ) (start : Streams) (passes : ℕ)
    (left held : Option (List ℕ)) (number : ℕ) (input text : List ℕ)
    → Took start.left left input → Grew start.held held text → length input ≤ most_bytes + most_at_once
    → passes ≤ start.passes + most input → ((r : Reply) × replies input (in_front_of text r))
    → IsSettledBy (λ bytes. (r : Reply) × replies bytes (in_front_of text r)) number input ⊎ IsWhole left input
    → CutShort replies most start (record { left = left; held = held; passes = passes }) input
cut_settled replies most start passes left held number input text took wrote within counted all (inl s) =
    record {
      took = took;
      within = within;
      front = s.front;
      rest = s.rest;
      split = s.split;
      text = text;
      wrote = wrote;
      begins = inl s.holds;
      counted = counted;
    }
cut_settled replies most start passes left held number input text took wrote within counted all (inr w) =
    record {
      took = took;
      within = within;
      front = [];
      rest = input;
      split = refl;
      text = text;
      wrote = wrote;
      begins = inr (w.«end», all);
      counted = counted;
    }

-- what is settled, or whole, is no more than an input may have and what is read at once
pub settled_few : (Holds : List ℕ → Type 0) (left : Option (List ℕ)) (number : ℕ) (input : List ℕ)
    → IsSettledBy Holds number input ⊎ IsWhole left input → length input ≤ most_bytes + most_at_once
settled_few Holds left number input (inl s) =
    let parts : length input ≡ length s.front + length s.rest = ap length s.split ∙ length-append s.front s.rest in
    omega (arith, parts, s.within, s.near)
settled_few Holds left number input (inr w) = omega (arith, w.within)
