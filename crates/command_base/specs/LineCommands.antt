-- What a command over lines owes for each line and at the end of its input. `Rest` is its reply to the lines from a
-- number on, and `most` how often these lines pass the ends at most; both may depend on what the lines before said.
-- This project's profile. Cited by the trait `LineCommand` and by its loop.
use Rattle.std.specs.Prelude.{◌≡◌, ℕ, ◌+◌, ◌≤◌, List, [], ◌∷◌, Option, Some, None}
use Rattle.std.specs.Borrow.{GName}
use Rattle.call_io.specs.Bytes.{Grew}
use Rattle.line_input.specs.Lines.{line_fault, IsPassedOver}
use Rattle.line_input.specs.declared.reason.Reason.{Reason}
use Rattle.command_base.specs.declared.refusal.Refused.TheVariants as refused
use Rattle.command_base.specs.declared.status.Status.{Status}
use Rattle.command_base.specs.declared.status.Status.TheVariants as status
use Rattle.command_base.specs.Refusals.{Reply, refusal_reply, in_front_of, line_of}

-- How often a command passed the ends, and by which reference it counts that.
pub record Count : Type 0 where
  pub name : GName
  pub passes : ℕ

-- A reply to lines: each list of lines has one, and where no line follows it is done, and closes so; lines that are
-- passed over say nothing and pass no ends, and a line that is refused whatever it says ends it.
pub record IsLined (Rest : ℕ → List (List ℕ) → Reply → Type 0) (most : ℕ → List (List ℕ) → ℕ)
    (closes : List ℕ → Type 0) : Type 0 where
  pub done : (number : ℕ) → (r : Reply) × Rest number [] r × (r.status ≡ status.Done) × closes r.text
  pub some : (number : ℕ) (texts : List (List ℕ)) → (r : Reply) × Rest number texts r
  pub passed : (number : ℕ) (text : List ℕ) (texts : List (List ℕ)) (r : Reply) → IsPassedOver text
      → Rest (number + 1) texts r → Rest number (text ∷ texts) r
  pub counted : (number : ℕ) (text : List ℕ) (texts : List (List ℕ)) → IsPassedOver text
      → most (number + 1) texts ≤ most number (text ∷ texts)
  pub faulty : (number : ℕ) (text : List ℕ) (texts : List (List ℕ)) (why : Reason) → line_fault text ≡ Some why
      → Rest number (text ∷ texts) (refusal_reply (refused.Line (record { line = number; reason = why })))

-- A line gives this text, and the reply goes on as Next says.
abbrev pub GoesOn : (Rest Next : ℕ → List (List ℕ) → Reply → Type 0) → ℕ → (line text : List ℕ) → Type 0
GoesOn Rest Next number line text =
    (texts : List (List ℕ)) (r : Reply) → Next (number + 1) texts r → Rest number (line ∷ texts) (in_front_of text r)

-- Whatever lines follow a line, the reply is this one.
abbrev pub Ends : (Rest : ℕ → List (List ℕ) → Reply → Type 0) → ℕ → (line : List ℕ) → Reply → Type 0
Ends Rest number line r = (texts : List (List ℕ)) → Rest number (line ∷ texts) r

-- Whatever lines follow a line, a reply to them begins with this text.
abbrev pub Begins : (Rest : ℕ → List (List ℕ) → Reply → Type 0) → ℕ → (line text : List ℕ) → Type 0
Begins Rest number line text = (texts : List (List ℕ)) → (r : Reply) × Rest number (line ∷ texts) (in_front_of text r)

-- what an answer that ends the command at a line says of it: this is the whole reply, whatever follows, and it names
-- that line; or what was written begins a reply, whatever follows
abbrev pub EndsLine : (Rest : ℕ → List (List ℕ) → Reply → Type 0) → ℕ → List ℕ → (held held' : Option (List ℕ))
    → Status → Type 0
EndsLine Rest number line held held' (status.Refused why) =
    (text : List ℕ) × Ends Rest number line (record { text = text; status = status.Refused why }) × Grew held held' text
    × (line_of why ≡ number)
EndsLine Rest number line held held' (status.Broken place rule) =
    (text : List ℕ) × Ends Rest number line (record { text = text; status = status.Broken place rule })
    × Grew held held' text × (place ≡ number)
EndsLine Rest number line held held' status.WriteFault =
    (text : List ℕ) × Begins Rest number line text × Grew held held' text
EndsLine Rest number line held held' status.Memory =
    (text : List ℕ) × Begins Rest number line text × Grew held held' text
EndsLine Rest number line held held' _ = ⊥

module _ {Seen : Type 0} (Rest : Seen → ℕ → List (List ℕ) → Reply → Type 0) (most : Seen → ℕ → List (List ℕ) → ℕ)
  where
    -- The command stands behind the line, which gave this text.
    pub record StandsBehind (Stands : Seen → Type 0) (seen : Seen) (number : ℕ) (line : List ℕ) (passes passes' : ℕ)
        (held held' : Option (List ℕ)) : Type 0 where
      pub next : Seen
      pub stands : Stands next
      pub text : List ℕ
      pub goes : GoesOn (Rest seen) (Rest next) number line text
      pub wrote : Grew held held' text
      pub counted :
          (texts : List (List ℕ))
          → passes' + most next (number + 1) texts ≤ passes + most seen number (line ∷ texts)

    -- what a line that was read comes to; no answer goes on
    abbrev pub TakesLine : (Stands : Seen → Type 0) → Seen → (number : ℕ) → (line : List ℕ) → (passes passes' : ℕ)
        → (held held' : Option (List ℕ)) → Option Status → Type 0
    TakesLine Stands seen number line passes passes' held held' None =
        StandsBehind Stands seen number line passes passes' held held'
    TakesLine Stands seen number line passes passes' held held' (Some answer) =
        EndsLine (Rest seen) number line held held' answer
        × ((texts : List (List ℕ)) → passes' ≤ passes + most seen number (line ∷ texts))

-- what an answer at the end of the input says: this is the whole reply, or what was written is a front of one; where
-- there is no memory nothing was written
abbrev pub EndsInput : (Rest : ℕ → List (List ℕ) → Reply → Type 0) → ℕ → (held held' : Option (List ℕ)) → Status
    → Type 0
EndsInput Rest number held held' status.Done =
    (text : List ℕ) × Rest number [] (record { text = text; status = status.Done }) × Grew held held' text
EndsInput Rest number held held' (status.Broken place rule) =
    (text : List ℕ) × Rest number [] (record { text = text; status = status.Broken place rule }) × Grew held held' text
EndsInput Rest number held held' status.WriteFault =
    (text : List ℕ) × (r : Reply) × Rest number [] (in_front_of text r) × Grew held held' text
EndsInput Rest number held held' status.Memory = held' ≡ held
EndsInput Rest number held held' _ = ⊥

-- a line was taken, or there was no memory for it
abbrev pub IsQuietLine : Option Status → Type 0
IsQuietLine None = Unit {0}
IsQuietLine (Some status.Memory) = Unit {0}
IsQuietLine (Some _) = ⊥

-- the command stands behind a line, or was cut short with no failed write
abbrev pub IsQuietTurn : Option Status → Type 0
IsQuietTurn None = Unit {0}
IsQuietTurn (Some status.Memory) = Unit {0}
IsQuietTurn (Some status.ReadFault) = Unit {0}
IsQuietTurn (Some status.TooLong) = Unit {0}
IsQuietTurn (Some _) = ⊥
