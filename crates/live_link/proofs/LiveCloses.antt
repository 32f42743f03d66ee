-- What closing a run makes of what its end says.
use Rattle.std.specs.Prelude.{◌≡◌, ℕ, true, List, [], ◌∷◌, ◌++◌, Option, Some, None}
use Rattle.std.specs.Io.KnownBytes.{append_known}
use Rattle.std.proofs.Common.{refl, sym, ap, subst, ◌∙◌, inl, inr}
use Rattle.std.proofs.lemmas.List.{append-nil}
use Rattle.call_io.specs.Blocks.{held, pending, sink, way}
use Rattle.call_io.specs.Bytes.{Grew, GrewPartly}
use Rattle.call_io.specs.Ways.{Onward}
use Rattle.call_io.specs.declared.block.Block.{Block}
use Rattle.call_io.proofs.BlockLemmas.{GrewPartly_through}
use Rattle.call_io.proofs.BytesLemmas.{Grew-append, Grew-nothing, GrewPartly-after, GrewPartly-longer, GrewPartly-whole}
use Rattle.link_parts.specs.Rounds as rounds
use Rattle.trace_text.specs.EntryLine.{text_of}
use Rattle.live_link.specs.LastLine.{last_line}
use Rattle.live_link.specs.LiveOutcome.{CutShort, LiveOutcome, LiveStreams, Over, Ran, ending_line, run_over}
use Rattle.live_link.specs.Runs.{Ending, Run}
use Rattle.live_link.specs.Runs as ending
use Rattle.live_link.specs.Turns.{entries_of}
use Rattle.live_link.specs.declared.answer.LiveStatus.{LiveStatus}
use Rattle.live_link.specs.declared.answer.LiveStatus.TheVariants as status
use Rattle.live_link.specs.inner.Brought.{no_last}
use Rattle.live_link.specs.inner.Closing.{Closes, has_failed}

-- a front of nothing is nothing
nothing_more : (a b : Option (List ℕ)) → GrewPartly a b [] → (text : List ℕ) (start : Option (List ℕ))
    → GrewPartly start a text → GrewPartly start b text
nothing_more a b p text start h = same (whole p.0 p.1 p.2)
  where
    whole : (front rest : List ℕ) → front ++ rest ≡ [] → front ≡ []
    whole [] rest e = refl
    whole (x ∷ front) rest e = absurd (cc)

    unmoved : (o : Option (List ℕ)) (new : Option (List ℕ)) → Grew o new [] → new ≡ o
    unmoved None new e = e
    unmoved (Some xs) new e = e ∙ ap Some (append-nil xs)

    same : p.0 ≡ [] → GrewPartly start b text
    same none =
        subst (λ (z : Option (List ℕ)). GrewPartly start z text)
        (sym (unmoved a b (subst (λ (w : List ℕ). Grew a b w) none p.3))) h

-- how a run ended, and its answer before it is closed
module _ (over : Over) (start now : LiveStreams) (t : Option (List ℕ)) where
  abbrev pub after : LiveStreams
  after = record now { trace = t }

  -- The whole trace was written, and its last line.
  ran_closes : (e : Ending) (script octets : List ℕ) → Ran no_last over start now script octets e
      → Grew now.trace t (ending_line e) → Ran ending_line over start after script octets e
  ran_closes e script octets r grew =
      record {
        took_script = r.took_script;
        took_octets = r.took_octets;
        ended = r.ended;
        traced =
            subst (λ (z : Ending). Grew start.trace t (text_of (entries_of (run_over over script octets).turns) ++ ending_line z))
            (sym r.ended)
            (Grew-append start.trace now.trace t (text_of (entries_of (run_over over script octets).turns)) (ending_line e)
            (subst (λ (z : List ℕ). Grew start.trace now.trace z)
            (append-nil (text_of (entries_of (run_over over script octets).turns))) r.traced) grew);
        sent = r.sent;
        counted = r.counted;
      }

  -- or a part of them
  ran_fails : (e : Ending) (script octets : List ℕ) → Ran no_last over start now script octets e
      → ((text : List ℕ) → Grew start.trace now.trace text → GrewPartly start.trace t (text ++ ending_line e))
      → CutShort ending_line over start after script octets
  ran_fails e script octets r part =
      record {
        took_script = r.took_script;
        took_octets = r.took_octets;
        traced =
            subst (λ (z : Ending). GrewPartly start.trace t (text_of (entries_of (run_over over script octets).turns) ++ ending_line z))
            (sym r.ended)
            (part (text_of (entries_of (run_over over script octets).turns))
            (subst (λ (z : List ℕ). Grew start.trace now.trace z)
            (append-nil (text_of (entries_of (run_over over script octets).turns))) r.traced));
        sent = GrewPartly-whole start.to now.to (run_over over script octets).octets r.sent;
        counted = r.counted;
      }

  cut_closes : (script octets : List ℕ) → CutShort no_last over start now script octets
      → ((text : List ℕ) → GrewPartly start.trace now.trace text → GrewPartly start.trace t text)
      → CutShort ending_line over start after script octets
  cut_closes script octets c part =
      record {
        took_script = c.took_script;
        took_octets = c.took_octets;
        traced =
            GrewPartly-longer start.trace t (text_of (entries_of (run_over over script octets).turns))
            (ending_line (run_over over script octets).ending)
            (part (text_of (entries_of (run_over over script octets).turns))
            (subst (λ (z : List ℕ). GrewPartly start.trace now.trace z)
            (append-nil (text_of (entries_of (run_over over script octets).turns))) c.traced));
        sent = c.sent;
        counted = c.counted;
      }

  module _ (how : LiveStatus)
      (whole : (text : List ℕ) → Grew start.trace now.trace text → GrewPartly start.trace t (text ++ last_line how))
      (part : last_line how ≡ [] → (text : List ℕ) → GrewPartly start.trace now.trace text → GrewPartly start.trace t text)
    where
      all_closes : LiveOutcome no_last over start now how → Grew now.trace t (last_line how)
          → LiveOutcome ending_line over start after how
      all_closes h grew = at how h grew whole part
        where
          at : (how : LiveStatus) → LiveOutcome no_last over start now how → Grew now.trace t (last_line how)
              → ((text : List ℕ) → Grew start.trace now.trace text → GrewPartly start.trace t (text ++ last_line how))
              → (last_line how ≡ [] → (text : List ℕ) → GrewPartly start.trace now.trace text → GrewPartly start.trace t text)
              → LiveOutcome ending_line over start after how
          at status.Done h grew w p = (h.0, h.1, ran_closes ending.Done h.0 h.1 h.2 grew, h.3, h.4)
          at (status.Refused bad) h grew w p = (h.0, h.1, ran_closes (ending.Refused bad) h.0 h.1 h.2 grew, h.3, h.4)
          at status.PeerEnded h grew w p = (h.0, h.1, ran_closes ending.PeerEnded h.0 h.1 h.2 grew, h.3, h.4)
          at status.LinkCut h grew w p =
              (h.0, h.1, ran_closes (ending.LinkStopped rounds.LinkCut) h.0 h.1 h.2 grew, h.3, h.4, h.5)
          at (status.LinkFault f) h grew w p =
              (h.0, h.1, ran_closes (ending.LinkStopped (rounds.Faulty f)) h.0 h.1 h.2 grew, h.3, h.4)
          at status.ReadFault h grew w p = (h.0, h.1, cut_closes h.0 h.1 h.2 (p refl))
          at status.WriteFault h grew w p = (h.0, h.1, cut_closes h.0 h.1 h.2 (p refl))
          at status.Memory h grew w p = (h.0, h.1, cut_closes h.0 h.1 h.2 (p refl))
          at status.TooLong h grew w p = (h.0, h.1, cut_closes h.0 h.1 h.2 (p refl), h.3)
          at status.NoLink h grew w p = absurd h

      fails : LiveOutcome no_last over start now how → LiveOutcome ending_line over start after status.WriteFault
      fails h = at how h whole part
        where
          at : (how : LiveStatus) → LiveOutcome no_last over start now how
              → ((text : List ℕ) → Grew start.trace now.trace text → GrewPartly start.trace t (text ++ last_line how))
              → (last_line how ≡ [] → (text : List ℕ) → GrewPartly start.trace now.trace text → GrewPartly start.trace t text)
              → LiveOutcome ending_line over start after status.WriteFault
          at status.Done h w p = (h.0, h.1, ran_fails ending.Done h.0 h.1 h.2 w)
          at (status.Refused bad) h w p = (h.0, h.1, ran_fails (ending.Refused bad) h.0 h.1 h.2 w)
          at status.PeerEnded h w p = (h.0, h.1, ran_fails ending.PeerEnded h.0 h.1 h.2 w)
          at status.LinkCut h w p = (h.0, h.1, ran_fails (ending.LinkStopped rounds.LinkCut) h.0 h.1 h.2 w)
          at (status.LinkFault f) h w p = (h.0, h.1, ran_fails (ending.LinkStopped (rounds.Faulty f)) h.0 h.1 h.2 w)
          at status.ReadFault h w p = (h.0, h.1, cut_closes h.0 h.1 h.2 (p refl))
          at status.WriteFault h w p = (h.0, h.1, cut_closes h.0 h.1 h.2 (p refl))
          at status.Memory h w p = (h.0, h.1, cut_closes h.0 h.1 h.2 (p refl))
          at status.TooLong h w p = (h.0, h.1, cut_closes h.0 h.1 h.2 (p refl))
          at status.NoLink h w p = absurd h

      -- a failed read or write is the answer, and nothing more was written
      kept : LiveOutcome no_last over start now how → has_failed how ≡ true → LiveOutcome ending_line over start after how
      kept h failed = at how h failed part
        where
          at : (how : LiveStatus) → LiveOutcome no_last over start now how → has_failed how ≡ true
              → (last_line how ≡ [] → (text : List ℕ) → GrewPartly start.trace now.trace text → GrewPartly start.trace t text)
              → LiveOutcome ending_line over start after how
          at status.ReadFault h failed p = (h.0, h.1, cut_closes h.0 h.1 h.2 (p refl))
          at status.WriteFault h failed p = (h.0, h.1, cut_closes h.0 h.1 h.2 (p refl))
          at status.Done h failed p = absurd (cc)
          at (status.Refused bad) h failed p = absurd (cc)
          at status.PeerEnded h failed p = absurd (cc)
          at status.LinkCut h failed p = absurd (cc)
          at (status.LinkFault f) h failed p = absurd (cc)
          at status.Memory h failed p = absurd (cc)
          at status.TooLong h failed p = absurd (cc)
          at status.NoLink h failed p = absurd h

      pub closes_outcome : (answer : LiveStatus) → LiveOutcome no_last over start now how
          → Closes how answer now.trace t → LiveOutcome ending_line over start after answer
      closes_outcome answer h (inl c) =
          subst (λ (z : LiveStatus). LiveOutcome ending_line over start after z) (sym c.0) (all_closes h c.1)
      closes_outcome answer h (inr (inl c)) =
          subst (λ (z : LiveStatus). LiveOutcome ending_line over start after z) (sym c.0) (kept h c.1)
      closes_outcome answer h (inr (inr c)) =
          subst (λ (z : LiveStatus). LiveOutcome ending_line over start after z) (sym c) (fails h)

-- Through a block, in which nothing was pending at first.
module _ {O : Type 0} (of_sink : O → Option (List ℕ)) (first old new : Block O) (began : pending first ≡ [])
    (onward : Onward (way of_sink first) (way of_sink new)) (how : LiveStatus)
    (partly : GrewPartly (held of_sink old) (held of_sink new) (last_line how)) where
  pub whole_through : (text : List ℕ) → Grew (held of_sink first) (held of_sink old) text
      → GrewPartly (of_sink (sink first)) (of_sink (sink new)) (text ++ last_line how)
  whole_through text grew =
      GrewPartly_through of_sink first new (text ++ last_line how) began onward
      (GrewPartly-after (held of_sink first) (held of_sink old) (held of_sink new) text (last_line how) grew partly)

  pub part_through : last_line how ≡ [] → (text : List ℕ) → GrewPartly (held of_sink first) (held of_sink old) text
      → GrewPartly (of_sink (sink first)) (of_sink (sink new)) text
  part_through none text grew =
      GrewPartly_through of_sink first new text began onward
      (nothing_more (held of_sink old) (held of_sink new)
      (subst (λ (z : List ℕ). GrewPartly (held of_sink old) (held of_sink new) z) none partly) text (held of_sink first) grew)

-- The run was told through a block, in which nothing was pending at first, and closed.
pub closes_through : {O : Type 0} (of_sink : O → Option (List ℕ)) (first old new : Block O) (over : Over)
    (start now : LiveStreams) (how answer : LiveStatus) → pending first ≡ []
    → Onward (way of_sink first) (way of_sink new)
    → GrewPartly (held of_sink old) (held of_sink new) (last_line how)
    → LiveOutcome no_last over (record start { trace = held of_sink first }) (record now { trace = held of_sink old }) how
    → Closes how answer (held of_sink old) (of_sink (sink new))
    → LiveOutcome ending_line over (record start { trace = of_sink (sink first) })
    (record now { trace = of_sink (sink new) }) answer
closes_through of_sink first old new over start now how answer began onward partly ended closed =
    closes_outcome over (record start { trace = of_sink (sink first) }) (record now { trace = held of_sink old })
    (of_sink (sink new)) how
    (λ text grew.
    whole_through of_sink first old new began onward how partly text
    (subst (λ (z : Option (List ℕ)). Grew z (held of_sink old) text) (sym told) grew))
    (λ none text grew.
    part_through of_sink first old new began onward how partly none text
    (subst (λ (z : Option (List ℕ)). GrewPartly z (held of_sink old) text) (sym told) grew))
    answer
    (subst (λ (z : Option (List ℕ)). LiveOutcome no_last over (record start { trace = z }) (record now { trace = held of_sink old }) how) told ended)
    closed
  where
    told : held of_sink first ≡ of_sink (sink first)
    told = ap (append_known (of_sink (sink first))) began ∙ sym (Grew-nothing (of_sink (sink first)))
