-- The law of `tones` as a command over lines, proved. Cited by that command.
use Rattle.std.specs.Prelude.{◌≡◌, ℕ, ◌+◌, ◌≤◌, Bool, true, false, cond, List, [], ◌∷◌, ◌++◌, Option, Some, None, Ok, Err}
use Rattle.std.proofs.Common.{sym, ◌∙◌, ap, refl, arith, subst, append_assoc, inl, inr}
use Rattle.std.proofs.lemmas.List.{append-nil}
use Rattle.link_frames.specs.declared.frame.Frame.{Frame}
use Rattle.msd_fit.specs.declared.facts.Facts.{Facts}
use Rattle.trace_model.specs.declared.entry.Entry.{Entry}
use Rattle.trace_model.specs.declared.event.Event.{Event}
use Rattle.trace_text.specs.EntryLine.{text_of}
use Rattle.trace_text.specs.inner.TextListenerLaws.{text_of-append}
use Rattle.line_input.specs.declared.reason.BadLine.{BadLine}
use Rattle.line_input.specs.declared.reason.Reason.{Reason}
use Rattle.trace_text.specs.declared.script.ScriptLine.{ScriptLine}
use Rattle.trace_text.specs.declared.script.ScriptLine.TheVariants as line
use Rattle.trace_text.specs.Facts.{facts_in}
use Rattle.trace_text.specs.Script.{Script, judged, said_after, script_from}
use Rattle.channel_sim.specs.Lines.{trace_from, world_after}
use Rattle.channel_sim.specs.World.{first_world}
use Rattle.command_base.specs.LineCommands.{IsLined}
use Rattle.command_base.specs.Outcome.{ClosesSilently}
use Rattle.command_base.specs.Refusals.{in_front_of, refusal_line, refusal_reply}
use Rattle.command_base.specs.declared.refusal.Refused.TheVariants as refused
use Rattle.command_base.specs.declared.status.Status.TheVariants as status
use Rattle.script_stage.specs.ScriptSeen.{IsTidy}
use Rattle.script_stage.specs.ScriptTrace.{ended, most_passes, played, script_passes}
use Rattle.script_stage.specs.inner.ScriptLaws.{judged-fault, judged-passed, script_from-bad, script_from-comment, script_from-line, script_from-none}
use Rattle.script_stage.specs.inner.TraceLaws.{facts_kept, played-nothing, trace_from-append}
use Rattle.script_stage.proofs.ScriptSoFar.{bound_from-append, most_passes-nothing}
use Rattle.tones_command.specs.Modem.{is_lost}
use Rattle.tones_command.specs.Tones.{Toning, behind_carried, behind_event, behind_events, carried_for}
use Rattle.tones_command.specs.inner.ToneSeen.{ToneSeen, TonesFrom, left_of, passes_so_far, script_reply, seen_behind, toned_behind, tones_passes_from, trace_so_far}

-- what is left of more events stands behind what was left
pub record LeftMore (t u : Toning) : Type 0 where
  pub more : List Event
  pub kept : u.kept ≡ t.kept ++ more

carried_more : (most : ℕ) (t : Toning) (e : Event) (o : Option Frame) → LeftMore t (behind_carried most t e o)
carried_more most t e None = record { more = e ∷ []; kept = refl }
carried_more most t e (Some frame) =
    let found = by (is_lost most t.x frame) in record { more = found.0; kept = found.1 }
  where
    by : (b : Bool) → (more : List Event) × (cond b t.kept (t.kept ++ e ∷ []) ≡ t.kept ++ more)
    by true = ([], sym (append-nil t.kept))
    by false = (e ∷ [], refl)

event_more : (most : ℕ) (known : Option Facts) (t : Toning) (e : Event) → LeftMore t (behind_event most known t e)
event_more most known t e = carried_more most t e (carried_for (played known t.kept) e)

pub events_more : (most : ℕ) (known : Option Facts) (t : Toning) (es : List Event)
    → LeftMore t (behind_events most known t es)
events_more most known t [] = record { more = []; kept = sym (append-nil t.kept) }
events_more most known t (e ∷ es) =
    let first = event_more most known t e in
    let rest = events_more most known (behind_event most known t e) es in
    record {
      more = first.more ++ rest.more;
      kept = rest.kept ∙ ap (λ l. l ++ rest.more) first.kept ∙ append_assoc t.kept first.more rest.more;
    }

-- entries that others begin with
record BeginsWith (a b : List Entry) : Type 0 where
  rest : List Entry
  whole : b ≡ a ++ rest

played_more : (o : Option Facts) (es fs : List Event) → BeginsWith (played o es) (played o (es ++ fs))
played_more None es fs = record { rest = []; whole = refl }
played_more (Some known) es fs =
    record {
      rest = trace_from (world_after (first_world known) es) fs;
      whole = trace_from-append (first_world known) es fs;
    }

passes_more : (o : Option Facts) (es fs : List Event) → most_passes o es ≤ most_passes o (es ++ fs)
passes_more None es fs = omega arith
passes_more (Some known) es fs = omega (arith, bound_from-append (first_world known) es fs)

-- a text that another begins with
pub record TextBegins (a b : List ℕ) : Type 0 where
  pub rest : List ℕ
  pub whole : a ++ rest ≡ b

ended_begins : (a b : List Entry) (o : Option BadLine) → TextBegins (text_of a) (ended (text_of (a ++ b)) o).text
ended_begins a b None = record { rest = text_of b; whole = sym (text_of-append a b) }
ended_begins a b (Some bad) =
    record {
      rest = text_of b ++ refusal_line (refused.Line bad);
      whole =
          sym (append_assoc (text_of a) (text_of b) (refusal_line (refused.Line bad)))
          ∙ ap (λ t. t ++ refusal_line (refused.Line bad)) (sym (text_of-append a b));
    }

-- the text so far is a front of the text of the reply
pub tones_begin : (seen : ToneSeen) → IsTidy seen.said seen.toning.kept → (texts : List (List ℕ)) (number : ℕ)
    → TextBegins (text_of (trace_so_far seen)) (script_reply (toned_behind seen number texts)).text
tones_begin seen (inl eventful) texts number =
    let rest : Script = script_from seen.said number texts in
    let same : rest.facts ≡ facts_in seen.said.facts = facts_kept seen.said eventful texts number in
    let left = events_more seen.most rest.facts seen.toning rest.events in
    let begins = played_more (facts_in seen.said.facts) seen.toning.kept left.more in
    subst (λ (es : List Entry). TextBegins (text_of (trace_so_far seen)) (ended (text_of es) rest.refused).text)
    (sym (ap (played rest.facts) left.kept
    ∙ ap (λ o. played o (seen.toning.kept ++ left.more)) same ∙ begins.whole))
    (ended_begins (trace_so_far seen) begins.rest rest.refused)
tones_begin seen (inr none) texts number =
    record {
      rest = (script_reply (toned_behind seen number texts)).text;
      whole =
          ap (λ t. text_of t ++ (script_reply (toned_behind seen number texts)).text)
          (ap (played (facts_in seen.said.facts)) none ∙ played-nothing (facts_in seen.said.facts));
    }

-- the lines so far pass the ends no more often than all
pub tones_pass : (seen : ToneSeen) → IsTidy seen.said seen.toning.kept → (texts : List (List ℕ)) (number : ℕ)
    → passes_so_far seen ≤ script_passes (toned_behind seen number texts)
tones_pass seen (inl eventful) texts number =
    let rest : Script = script_from seen.said number texts in
    let same : rest.facts ≡ facts_in seen.said.facts = facts_kept seen.said eventful texts number in
    let left = events_more seen.most rest.facts seen.toning rest.events in
    subst (λ (n : ℕ). passes_so_far seen ≤ n)
    (sym (ap (most_passes rest.facts) left.kept ∙ ap (λ o. most_passes o (seen.toning.kept ++ left.more)) same))
    (passes_more (facts_in seen.said.facts) seen.toning.kept left.more)
tones_pass seen (inr none) texts number =
    let nothing : passes_so_far seen ≡ 0 =
    ap (most_passes (facts_in seen.said.facts)) none ∙ most_passes-nothing (facts_in seen.said.facts) in
    omega (arith, nothing)

-- a line that is passed over says nothing
pub toned_passed : (seen : ToneSeen) (number : ℕ) (text : List ℕ) (texts : List (List ℕ))
    → judged seen.said text ≡ Ok None
    → toned_behind seen number (text ∷ texts) ≡ toned_behind seen (number + 1) texts
toned_passed seen number text texts h =
    ap (left_of seen.most seen.toning) (script_from-comment seen.said text number texts h)

-- a line that says something says it in front of the others
pub toned_said : (seen : ToneSeen) (number : ℕ) (text : List ℕ) (texts : List (List ℕ)) (says : ScriptLine)
    → judged seen.said text ≡ Ok (Some says)
    → toned_behind seen number (text ∷ texts) ≡ toned_behind (seen_behind seen says) (number + 1) texts
toned_said seen number text texts (line.Fact f) h =
    ap (left_of seen.most seen.toning) (script_from-line seen.said text number texts (line.Fact f) h)
toned_said seen number text texts (line.Event e) h =
    let rest : Script = script_from (said_after seen.said (line.Event e)) (number + 1) texts in
    let same : rest.facts ≡ facts_in seen.said.facts =
    facts_kept (said_after seen.said (line.Event e)) refl texts (number + 1) in
    ap (left_of seen.most seen.toning) (script_from-line seen.said text number texts (line.Event e) h)
    ∙ ap (λ o. record rest {
      events = (behind_events seen.most rest.facts (behind_event seen.most o seen.toning e) rest.events).kept;
    }) same

-- a line that is refused ends the script
pub tones_refused : (seen : ToneSeen) (number : ℕ) (text : List ℕ) (texts : List (List ℕ)) (why : Reason)
    → judged seen.said text ≡ Err why
    → script_reply (toned_behind seen number (text ∷ texts))
    ≡ in_front_of (text_of (trace_so_far seen))
    (refusal_reply (refused.Line (record { line = number; reason = why })))
tones_refused seen number text texts why h =
    ap (λ s. script_reply (left_of seen.most seen.toning s)) (script_from-bad seen.said text number texts why h)

-- behind the last line nothing is said
pub tones_done : (seen : ToneSeen) (number : ℕ)
    → TonesFrom seen number [] (record { text = []; status = status.Done })
tones_done seen number =
    ap (λ t. record { text = t; status = status.Done }) (append-nil (text_of (trace_so_far seen)))
    ∙ ap (λ s. script_reply (left_of seen.most seen.toning s)) (sym (script_from-none seen.said number))

pub tones_lined : (seen : ToneSeen) → IsTidy seen.said seen.toning.kept
    → IsLined (TonesFrom seen) (tones_passes_from seen) ClosesSilently
tones_lined seen tidy =
    record {
      done = λ number. (record { text = []; status = status.Done }, tones_done seen number, refl, refl);
      some = λ number texts.
          let begins = tones_begin seen tidy texts number in
          let answer = (script_reply (toned_behind seen number texts)).status in (
            record { text = begins.rest; status = answer },
            ap (λ t. record { text = t; status = answer }) begins.whole,
          );
      passed = λ number text texts r passed is.
          is ∙ ap script_reply (sym (toned_passed seen number text texts (judged-passed seen.said text passed)));
      counted = λ number text texts passed.
          let same : script_passes (toned_behind seen number (text ∷ texts))
          ≡ script_passes (toned_behind seen (number + 1) texts) =
          ap script_passes (toned_passed seen number text texts (judged-passed seen.said text passed)) in
          omega (arith, same);
      faulty = λ number text texts why fails.
          sym (tones_refused seen number text texts why (judged-fault seen.said text why fails));
    }
