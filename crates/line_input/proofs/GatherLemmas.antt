-- A line that is being gathered, and how it ends.
use Rattle.std.proofs.Common.{◌≡◌, ℕ, ◌+◌, ◌<◌, ◌≤◌, ◌≢◌, true, false, eqb, List, [], ◌∷◌, ◌++◌, length, Option, Some, None, Ok, Err, refl, sym, ap, subst, ◌∙◌, arith, append_assoc, length-append}
use Rattle.std.specs.Prelude.{◌||◌}
use Rattle.std.specs.List.{AllByRecursion, list_any}
use Rattle.std.proofs.lemmas.List.{append-nil}
use Rattle.std.proofs.lemmas.Bool.{eq-eqb, eqb-true, false≢true, false_from_ne_true}
use Rattle.std.proofs.lemmas.List.Folds.{list_any-append}
use Rattle.line_input.specs.declared.fault.LineFault.{LineFault}
use Rattle.line_input.specs.declared.fault.LineFault.TheVariants as fault
use Rattle.line_input.specs.declared.gather.Ending.TheVariants as ending
use Rattle.line_input.specs.Characters.{newline, is_newline}
use Rattle.line_input.specs.Feed.{Feed, Draws, IsInner}
use Rattle.line_input.specs.Giving.{NextByte, GivesByte, GivesRun}
use Rattle.line_input.specs.inner.Gathering.{GathersLine, GathersText}
use Rattle.line_input.proofs.FeedLemmas.{Draws-nothing, Draws-append}

-- these bytes of a line were gathered
pub record Gathering (old now : Feed) (left left' : Option (List ℕ)) (text : List ℕ) : Type 0 where
  pub taken : List ℕ
  pub draws : Draws old now left left' taken
  pub inner : AllByRecursion IsInner text
  pub bytes : old.pending ++ taken ≡ text ++ now.pending
  pub given : now.given ≡ old.given + length text
  pub short : length text ≤ 512

pub Gathering-none : (feed : Feed) (left : Option (List ℕ)) → Gathering feed feed left left []
Gathering-none feed left = record { taken = []; draws = Draws-nothing feed left; inner = tt; bytes = append-nil feed.pending; given = omega arith; short = omega arith }

pub AllByRecursion-push : (text : List ℕ) (b : ℕ) → AllByRecursion IsInner text → IsInner b → AllByRecursion IsInner (text ++ b ∷ [])
AllByRecursion-push [] b all here = (here, tt)
AllByRecursion-push (x ∷ xs) b all here = (all.0, AllByRecursion-push xs b all.1 here)

-- the bytes at hand after a further read, by what was gathered
bytes_more : (old now : Feed) (left between : Option (List ℕ)) (text more : List ℕ) → (so : Gathering old now left between text)
    → old.pending ++ (so.taken ++ more) ≡ text ++ (now.pending ++ more)
bytes_more old now left between text more so =
    sym (append_assoc old.pending so.taken more) ∙ ap (λ (r : List ℕ). r ++ more) so.bytes ∙ append_assoc text now.pending more

-- one byte more of the line
pub Gathering-more : (old now new : Feed) (left between left' : Option (List ℕ)) (text : List ℕ) (b : ℕ)
    → Gathering old now left between text → NextByte now new between left' (Ok (Some b)) → IsInner b → length text < 512
    → Gathering old new left left' (text ++ b ∷ [])
Gathering-more old now new left between left' text b so next inner room = record {
  taken = so.taken ++ next.taken;
  draws = Draws-append old now new left between left' so.taken next.taken so.draws next.draws;
  inner = AllByRecursion-push text b so.inner inner;
  bytes = bytes_more old now left between text next.taken so ∙ ap (λ (r : List ℕ). text ++ r) next.gives.0 ∙ sym (append_assoc text (b ∷ []) new.pending);
  given = let len : length (text ++ b ∷ []) ≡ length text + 1 = length-append text (b ∷ []) in omega (arith, so.given, next.gives.1);
  short = let len : length (text ++ b ∷ []) ≡ length text + 1 = length-append text (b ∷ []) in omega arith;
}

AllByRecursion-append : (a b : List ℕ) → AllByRecursion IsInner a → AllByRecursion IsInner b → AllByRecursion IsInner (a ++ b)
AllByRecursion-append [] b all more = more
AllByRecursion-append (x ∷ a) b all more = (all.0, AllByRecursion-append a b all.1 more)

-- bytes at hand more of the line
pub Gathering-run : (old now new : Feed) (left left' : Option (List ℕ)) (text whole run : List ℕ) → Gathering old now left left' text → GivesRun now new run → whole ≡ text ++ run → length whole ≤ 512 → Gathering old new left left' whole
Gathering-run old now new left left' text whole run so gives is short =
    let bytes : old.pending ++ so.taken ≡ text ++ (run ++ new.pending) = so.bytes ∙ ap (λ (r : List ℕ). text ++ r) gives.pending in
    record {
      taken = so.taken;
      draws = record {
        took = so.draws.took;
        idle = so.draws.idle;
        stays = λ e. gives.ended ∙ so.draws.stays e;
        «end» = λ e. so.draws.«end» (sym gives.ended ∙ e);
      };
      inner = subst (λ (l : List ℕ). AllByRecursion IsInner l) (sym is) (AllByRecursion-append text run so.inner gives.inner);
      bytes = bytes ∙ sym (append_assoc text run new.pending) ∙ ap (λ (l : List ℕ). l ++ new.pending) (sym is);
      given = omega (arith, so.given, gives.given, ap length is, length-append text run);
      short = short;
    }

-- the input ended
pub GathersLine-end : (old now new : Feed) (left between left' : Option (List ℕ)) (text : List ℕ)
    → Gathering old now left between text → NextByte now new between left' (Ok None) → GathersLine old new left left' text (Ok ending.InputEnd)
GathersLine-end old now new left between left' text so next = record {
  done = next.done;
  grows = omega (arith, so.given, next.grows);
  taken = so.taken ++ next.taken;
  draws = Draws-append old now new left between left' so.taken next.taken so.draws next.draws;
  inner = so.inner;
  short = so.short;
  gathers = (bytes_more old now left between text next.taken so ∙ ap (λ (r : List ℕ). text ++ r) next.gives.0 ∙ append-nil text, next.gives.1, next.gives.2 ∙ so.given);
}

-- a newline was taken
pub GathersLine-newline : (old now new : Feed) (left between left' : Option (List ℕ)) (text : List ℕ) (b : ℕ)
    → Gathering old now left between text → NextByte now new between left' (Ok (Some b)) → b ≡ 10 → GathersLine old new left left' text (Ok ending.Newline)
GathersLine-newline old now new left between left' text b so next newline = record {
  done = next.done;
  grows = omega (arith, so.given, next.grows);
  taken = so.taken ++ next.taken;
  draws = Draws-append old now new left between left' so.taken next.taken so.draws next.draws;
  inner = so.inner;
  short = so.short;
  gathers = (bytes_more old now left between text next.taken so ∙ ap (λ (r : List ℕ). text ++ r) next.gives.0 ∙ ap (λ n. text ++ n ∷ new.pending) newline, omega (arith, so.given, next.gives.1));
}

-- a byte was taken for which there is no room
pub GathersLine-full : (old now new : Feed) (left between left' : Option (List ℕ)) (text : List ℕ) (b : ℕ)
    → Gathering old now left between text → NextByte now new between left' (Ok (Some b)) → IsInner b → length text ≡ 512
    → GathersLine old new left left' text (Ok ending.Full)
GathersLine-full old now new left between left' text b so next inner full = record {
  done = next.done;
  grows = omega (arith, so.given, next.grows);
  taken = so.taken ++ next.taken;
  draws = Draws-append old now new left between left' so.taken next.taken so.draws next.draws;
  inner = so.inner;
  short = so.short;
  gathers = (b, inner, full, bytes_more old now left between text next.taken so ∙ ap (λ (r : List ℕ). text ++ r) next.gives.0, omega (arith, so.given, next.gives.1));
}

-- a fault came
pub GathersLine-fault : (old now new : Feed) (left between left' : Option (List ℕ)) (text : List ℕ) (e : LineFault)
    → Gathering old now left between text → NextByte now new between left' (Err e) → GathersLine old new left left' text (Err e)
GathersLine-fault old now new left between left' text e so next = record {
  done = next.done;
  grows = omega (arith, so.given, next.grows);
  taken = so.taken ++ next.taken;
  draws = Draws-append old now new left between left' so.taken next.taken so.draws next.draws;
  inner = so.inner;
  short = so.short;
  gathers = fault_text e next.gives;
}
  where
    fault_text : (e : LineFault) → GivesByte now new (now.pending ++ next.taken) (Err e) → GathersText old new (old.pending ++ (so.taken ++ next.taken)) text (Err e)
    fault_text (fault.Bad bad) gives = gives
    fault_text fault.ReadFault gives = (
      bytes_more old now left between text next.taken so ∙ ap (λ (r : List ℕ). text ++ r) gives.0 ∙ append-nil text,
      gives.1,
      omega (arith, so.given, next.grows),
    )
    fault_text fault.TooLong gives = (
      bytes_more old now left between text next.taken so ∙ ap (λ (r : List ℕ). text ++ r) gives.2,
      subst (λ (r : List ℕ). 0 < length r) gives.2 gives.0,
      omega (arith, so.given, gives.1),
    )

-- a line that isn't full has room
pub below_full : (n : ℕ) → false ≡ eqb n 512 → n ≤ 512 → n < 512
below_full n unequal most = let different : n ≢ 512 = λ e. false≢true (unequal ∙ eq-eqb n 512 e) in omega arith

-- ---- a newline at hand

pub inner_none : (run : List ℕ) → AllByRecursion IsInner run → list_any is_newline run ≡ false
inner_none [] all = refl
inner_none (b ∷ run) all =
    let here : is_newline b ≡ false = false_from_ne_true (is_newline b) (λ e. all.0 (eqb-true b newline e)) in
    rw here (inner_none run all.1)

-- it stands behind bytes of which none ends a line
pub newline_behind : (run rest : List ℕ) → AllByRecursion IsInner run → list_any is_newline (run ++ rest) ≡ true → list_any is_newline rest ≡ true
newline_behind run rest inner some =
    ap (λ t. t || list_any is_newline rest) (sym (inner_none run inner)) ∙ sym (list_any-append is_newline run rest) ∙ some

pub newline_after_run : (old new : Feed) (run : List ℕ) → GivesRun old new run → list_any is_newline old.pending ≡ true → list_any is_newline new.pending ≡ true
newline_after_run old new run gives some = newline_behind run new.pending gives.inner (ap (list_any is_newline) (sym gives.pending) ∙ some)

pub newline_is_some : (bytes : List ℕ) → list_any is_newline bytes ≡ true → 0 < length bytes
newline_is_some [] some = absurd (false≢true some)
newline_is_some (b ∷ bytes) some = omega arith

-- and it still stands behind a byte that doesn't end the line
pub newline_after_byte : (old new : Feed) (left left' : Option (List ℕ)) (b : ℕ) → NextByte old new left left' (Ok (Some b)) → IsInner b
    → list_any is_newline old.pending ≡ true → list_any is_newline new.pending ≡ true
newline_after_byte old new left left' b next inner some =
    let all : list_any is_newline (old.pending ++ next.taken) ≡ true =
    list_any-append is_newline old.pending next.taken ∙ ap (λ t. t || list_any is_newline next.taken) some in
    newline_behind (b ∷ []) new.pending (inner, tt) (ap (list_any is_newline) (sym next.gives.0) ∙ all)

pub run_is_some : (old new : Feed) (run : List ℕ) → GivesRun old new run → list_any is_newline old.pending ≡ true → 0 < length new.pending
run_is_some old new run gives some = newline_is_some new.pending (newline_after_run old new run gives some)
