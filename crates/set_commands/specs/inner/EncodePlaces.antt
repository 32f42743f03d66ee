-- What a line of `encode` comes to behind facts, by what it says in its place. This project's profile. Cited by the
-- command and by the functions that carry out a line.
use Rattle.std.specs.Prelude.{◌≡◌, ℕ, ◌+◌, List, [], ◌∷◌, Option, Some, None, Result, Ok, Err}
use Rattle.call_io.specs.Bytes.{Grew}
use Rattle.line_input.specs.declared.reason.Reason.{Reason}
use Rattle.trace_text.specs.Drafts.{DraftOf}
use Rattle.trace_text.specs.declared.draft.Draft.{Draft}
use Rattle.trace_text.specs.declared.encode.EncodeLine.{EncodeLine}
use Rattle.trace_text.specs.declared.fact_line.FactLine.{FactLine}
use Rattle.command_base.specs.LineCommands.{EndsLine}
use Rattle.command_base.specs.Refusals.{Reply, refusal_reply, in_front_of}
use Rattle.command_base.specs.declared.refusal.Refused.TheVariants as refused
use Rattle.command_base.specs.declared.status.Status.{Status}
use Rattle.set_commands.specs.Encode.{encoded_from, facts_behind, written_for}

-- the reply to lines behind these facts
abbrev pub IsEncoded : List FactLine → ℕ → List (List ℕ) → Reply → Type 0
IsEncoded facts number texts r = r ≡ encoded_from facts number texts

-- the reply to a line that says this in its place, and to those behind it
abbrev pub IsLineEncoded : List FactLine → ℕ → Result (Option EncodeLine) Reason → (texts : List (List ℕ)) → Reply
    → Type 0
IsLineEncoded facts number (Ok None) texts r = r ≡ encoded_from facts (number + 1) texts
IsLineEncoded facts number (Ok (Some says)) texts r =
    r ≡ in_front_of (written_for facts says) (encoded_from (facts_behind facts says) (number + 1) texts)
IsLineEncoded facts number (Err why) texts r =
    r ≡ refusal_reply (refused.Line (record { line = number; reason = why }))

-- the same of lines, whatever the first has
abbrev pub FromPlace : List FactLine → Result (Option EncodeLine) Reason → ℕ → List (List ℕ) → Reply → Type 0
FromPlace facts place number [] r = ⊥
FromPlace facts place number (line ∷ texts) r = IsLineEncoded facts number place texts r

-- A line may stand: the draft has what it says, too, and what is written for it grew the output.
pub record Obeyed (facts : List FactLine) (place : Result (Option EncodeLine) Reason) (held held' : Option (List ℕ))
    (draft' : Draft) : Type 0 where
  pub says : EncodeLine
  pub placed : place ≡ Ok (Some says)
  pub drafted : DraftOf draft' (facts_behind facts says)
  pub wrote : Grew held held' (written_for facts says)

-- what the line comes to
abbrev pub TakesPlace : List FactLine → Result (Option EncodeLine) Reason → ℕ → (held held' : Option (List ℕ)) → Draft
    → Option Status → Type 0
TakesPlace facts place number held held' draft' None = Obeyed facts place held held' draft'
TakesPlace facts place number held held' draft' (Some answer) =
    EndsLine (FromPlace facts place) number [] held held' answer
