-- How telling an input goes on, is cut short, and ends.
use Rattle.std.proofs.Common.{◌≡◌, ◌++◌, ◌≤◌, Bool, true, false, [], List, ℕ, length, Option, refl, sym, ap, ◌∙◌, subst, inl, inr}
use Rattle.std.specs.Io.KnownBytes.{IsAtEnd}
use Rattle.std.proofs.lemmas.List.{append-nil}
use Rattle.call_io.specs.Bytes.{Grew, GrewPartly, Took}
use Rattle.call_io.proofs.BytesLemmas.{Grew-append, Grew-nothing, GrewPartly-after, GrewPartly-whole, Took-append, Took-nothing}
use Rattle.view_lines.specs.Outcome.{IsFrontTold, Outcome, ToldPartly, ToldRead, ToldWhole, most_lines}
use Rattle.view_lines.specs.Told.{IsInputTold, Told}
use Rattle.view_lines.specs.declared.answer.Answer.TheVariants as answer
use Rattle.view_lines.specs.declared.teller.Stop.{Stop}
use Rattle.view_lines.specs.declared.teller.Stop.TheVariants as stop
use Rattle.view_lines.specs.declared.teller.Teller.{Teller}
use Rattle.view_lines.specs.inner.Standing.{Stands, StandsAt}
use Rattle.view_lines.specs.inner.Telling.{HandsOn, SoFar, answer_of, whole_answer}
use Rattle.view_lines.proofs.TellerLemmas.{same_place}

module _ {T : Type 0} (tells : List (List ℕ) → List ℕ → Told → Type 0) (ends : List (List ℕ) → Told → Type 0)
    (heard : T → List (List ℕ) → Type 0) where
  -- a whole input
  whole_outcome : (left left' held held' : Option (List ℕ)) (refused : Bool) → ToldWhole tells ends left left' held held' refused
      → Outcome tells ends left left' held held' (whole_answer refused)
  whole_outcome left left' held held' true told = told
  whole_outcome left left' held held' false told = told

  -- nothing was taken
  pub so_far_first : (left held : Option (List ℕ)) (t : Teller T) → Stands tells heard [] [] t → t.text.items ≡ []
      → SoFar tells ends heard left left held held t []
  so_far_first left held t s empty = record {
    took = Took-nothing left;
    handed = [];
    wrote = Grew-nothing held;
    stands =
        same_place tells (heard t.lines) [] t.text.items [] t.kept.items t.kept.items t.ended t.ended t.refused t.refused
        empty refl refl refl s;
    empty = empty;
  }

  module _ (left left' held held' : Option (List ℕ)) (t : Teller T) (front : List ℕ)
      (s : SoFar tells ends heard left left' held held' t front) where
    -- the teller has no text at hand
    pub at_hand : Stands tells heard front s.handed t
    at_hand =
        same_place tells (heard t.lines) front s.handed (s.handed ++ t.text.items) t.kept.items t.kept.items t.ended t.ended
        t.refused t.refused (sym (append-nil s.handed) ∙ ap (λ (z : List ℕ). s.handed ++ z) (sym s.empty)) refl refl refl
        s.stands

    front_told : IsFrontTold tells front (record { text = s.handed; refused = t.refused })
    front_told = record {
      lines = s.stands.lines;
      front = record { part = s.stands.part; inner = s.stands.inner; split = s.stands.split };
      are = s.stands.told;
    }

    -- a read failed
    pub read_failed : ToldRead tells ends left left' held held'
    read_failed = record {
      input = front;
      took = s.took;
      told = record { text = s.handed; refused = t.refused };
      are = front_told;
      wrote = s.wrote;
    }

    -- it stopped within more bytes, and nothing more was written
    stopped_within : (left'' : Option (List ℕ)) (piece : List ℕ) → Took left' left'' piece
        → ToldPartly tells ends left left'' held held'
    stopped_within left'' piece took = record {
      input = front ++ piece;
      took = Took-append left left' left'' front piece s.took took;
      front = front;
      rest = piece;
      split = refl;
      told = record { text = s.handed; refused = t.refused };
      are = inl front_told;
      wrote = GrewPartly-whole held held' s.handed s.wrote;
    }

    pub stopped_in : (left'' : Option (List ℕ)) (piece : List ℕ) → Took left' left'' piece → (e : Stop)
        → (e ≡ stop.TooLong → (front' handed : List ℕ) → Stands tells heard front' handed t → most_lines ≤ length (front' ++ piece))
        → Outcome tells ends left left'' held held' (answer_of e)
    stopped_in left'' piece took stop.Memory most = stopped_within left'' piece took
    stopped_in left'' piece took stop.TooLong most = (
      stopped_within left'' piece took,
      record {
        input = front ++ piece;
        took = Took-append left left' left'' front piece s.took took;
        many = most refl front s.handed at_hand;
      },
    )

    -- and so behind the end of the input
    pub stopped_last : (e : Stop)
        → (e ≡ stop.TooLong → (front' handed : List ℕ) → Stands tells heard front' handed t → most_lines ≤ length front')
        → Outcome tells ends left left' held held' (answer_of e)
    stopped_last e most =
        stopped_in left' [] (Took-nothing left') e
        (λ is front' handed stands. subst (λ (z : List ℕ). most_lines ≤ length z) (sym (append-nil front')) (most is front' handed stands))

    -- there were as many reads as are counted
    pub ran_out : most_lines ≤ length front → Outcome tells ends left left' held held' answer.TooLong
    ran_out many = (
      stopped_within left' [] (Took-nothing left'),
      record { input = front; took = s.took; many = many },
    )

    module _ (left'' held'' : Option (List ℕ)) (piece : List ℕ) (took : Took left' left'' piece) (mid : Teller T)
        (stands : Stands tells heard (front ++ piece) s.handed mid) where
      -- more bytes were taken, and what is told of their lines was handed on
      pub piece_told : (new : Teller T) → HandsOn mid new → Grew held' held'' mid.text.items
          → SoFar tells ends heard left left'' held held'' new (front ++ piece)
      piece_told new hands grew = record {
        took = Took-append left left' left'' front piece s.took took;
        handed = s.handed ++ mid.text.items;
        wrote = Grew-append held held' held'' s.handed mid.text.items s.wrote grew;
        stands =
            subst
            (λ (z : T). StandsAt tells (heard z) (front ++ piece) (s.handed ++ mid.text.items) new.kept.items new.ended new.refused)
            (sym hands.lines)
            (same_place tells (heard mid.lines) (front ++ piece) (s.handed ++ mid.text.items) (s.handed ++ mid.text.items)
            mid.kept.items new.kept.items mid.ended new.ended mid.refused new.refused refl (sym hands.kept)
            (sym hands.ended) (sym hands.refused) stands);
        empty = hands.text;
      }

      -- or a part of them
      pub piece_cut : GrewPartly held' held'' mid.text.items → ToldPartly tells ends left left'' held held''
      piece_cut partly = record {
        input = front ++ piece;
        took = Took-append left left' left'' front piece s.took took;
        front = front ++ piece;
        rest = [];
        split = sym (append-nil (front ++ piece));
        told = record { text = s.handed ++ mid.text.items; refused = mid.refused };
        are = inl (record {
          lines = stands.lines;
          front = record { part = stands.part; inner = stands.inner; split = stands.split };
          are = stands.told;
        });
        wrote = GrewPartly-after held held' held'' s.handed mid.text.items s.wrote partly;
      }

    module _ («end» : IsAtEnd left') (held'' : Option (List ℕ)) (mid : Teller T)
        (told : IsInputTold tells ends front (record { text = s.handed ++ mid.text.items; refused = mid.refused })) where
      -- the whole input was told, and that was handed on
      pub all_told : (refused : Bool) → mid.refused ≡ refused → Grew held' held'' mid.text.items
          → Outcome tells ends left left' held held'' (whole_answer refused)
      all_told refused same grew = whole_outcome left left' held held'' refused (record {
        input = front;
        took = s.took;
        «end» = «end»;
        text = s.handed ++ mid.text.items;
        told =
            subst (λ (z : Bool). IsInputTold tells ends front (record { text = s.handed ++ mid.text.items; refused = z })) same
            told;
        wrote = Grew-append held held' held'' s.handed mid.text.items s.wrote grew;
      })

      pub all_cut : GrewPartly held' held'' mid.text.items → ToldPartly tells ends left left' held held''
      all_cut partly = record {
        input = front;
        took = s.took;
        front = front;
        rest = [];
        split = sym (append-nil front);
        told = record { text = s.handed ++ mid.text.items; refused = mid.refused };
        are = inr (told, «end»);
        wrote = GrewPartly-after held held' held'' s.handed mid.text.items s.wrote partly;
      }
