-- The frames kept, with one more, and those that the modem carries.
use Rattle.std.proofs.Common.{◌≡◌, ◌≢◌, ℕ, ◌-◌, ◌<◌, ◌==◌, zero, suc, Bool, true, false, List, [], ◌∷◌, ◌++◌, Some, None, length, slice_get, slice_set, slice_index_or, cond, append_assoc, refl, ap, sym, ◌∙◌, arith}
use Rattle.std.specs.Option.{option_map}
use Rattle.std.proofs.lemmas.List.{append-nil}
use Rattle.link_frames.specs.declared.frame.End.{End}
use Rattle.link_frames.specs.declared.frame.End.TheVariants as «end»
use Rattle.link_frames.specs.declared.frame.Frame.{Frame}
use Rattle.link_frames.specs.declared.note.Note.{Note}
use Rattle.link_frames.specs.declared.note.Note.TheVariants as note
use Rattle.trace_model.specs.History.{Sent, sends, sent_by}
use Rattle.trace_model.specs.declared.entry.Entry.{Entry}
use Rattle.trace_model.specs.declared.event.Event.{Event}
use Rattle.trace_model.specs.declared.event.Event.TheVariants as event
use Rattle.trace_model.specs.Safety.{is_leg}
use Rattle.tones_command.specs.Tones.{carried_for, nth_frame}
use Rattle.tones_command.specs.declared.sent.CallFrames.{CallFrames}
use Rattle.tones_command.specs.declared.sent.SentFrames.{SentFrames}
use Rattle.tones_command.specs.inner.Hearing.{FramesGrew, FramesStandFor, frames_by, frames_of, sender_of, with_frame}

sends-append : (e : End) (c t : ℕ) (n : Note) (others : List Sent) → sends e c t n others ≡ sends e c t n [] ++ others
sends-append e c t (note.Send f d frame) others =
    elim (is_leg e c f d) as (λ b. cond b (record { tick = t; frame = frame } ∷ others) others
    ≡ cond b (record { tick = t; frame = frame } ∷ []) [] ++ others) [ true ↦ refl | false ↦ refl ]
sends-append e c t _ others = refl

sent_by-append : (e : End) (c : ℕ) (xs ys : List Entry) → sent_by e c (xs ++ ys) ≡ sent_by e c xs ++ sent_by e c ys
sent_by-append e c [] ys = refl
sent_by-append e c (x ∷ xs) ys =
    ap (sends e c x.tick x.note) (sent_by-append e c xs ys)
    ∙ sends-append e c x.tick x.note (sent_by e c xs ++ sent_by e c ys)
    ∙ sym (append_assoc (sends e c x.tick x.note []) (sent_by e c xs) (sent_by e c ys))
    ∙ ap (λ front. front ++ sent_by e c ys) (sym (sends-append e c x.tick x.note (sent_by e c xs)))

-- an item that sends nothing
pub sends_nothing : (e : End) (c t : ℕ) (n : Note) → ((f : End) (d : ℕ) (frame : Frame) → n ≢ note.Send f d frame)
    → sends e c t n [] ≡ []
sends_nothing e c t (note.Send f d frame) other = absurd (other f d frame refl)
sends_nothing e c t _ other = refl

-- the frames that an entry sends stand behind those before it
pub kept_grew : (old new : SentFrames) (entry : Entry)
    → ((e : End) (c : ℕ)
    → frames_of e c new.calls.items ≡ frames_of e c old.calls.items ++ sends e c entry.tick entry.note [])
    → FramesGrew old new (entry ∷ [])
kept_grew old new entry more = λ before stands e c.
    more e c
    ∙ ap (λ l. l ++ sends e c entry.tick entry.note []) (stands e c)
    ∙ sym (sent_by-append e c before (entry ∷ []))

pub kept_same : (frames : SentFrames) (entry : Entry)
    → ((f : End) (d : ℕ) (frame : Frame) → entry.note ≢ note.Send f d frame) → FramesGrew frames frames (entry ∷ [])
kept_same frames entry other =
    kept_grew frames frames entry (λ e c.
    sym (append-nil (frames_of e c frames.calls.items))
    ∙ ap (λ l. frames_of e c frames.calls.items ++ l) (sym (sends_nothing e c entry.tick entry.note other)))

-- a place more in which nothing was sent
pub place_more : (e : End) (c : ℕ) (calls : List CallFrames)
    → frames_of e c (calls ++ record { up = []; down = [] } ∷ []) ≡ frames_of e c calls
place_more «end».Vehicle zero [] = refl
place_more «end».Point zero [] = refl
place_more e (suc c) [] = refl
place_more e zero (call ∷ calls) = refl
place_more e (suc c) (call ∷ calls) = place_more e c calls

-- the frames of one end of a call with one more of either
one_more : (e f : End) (s : Sent) (call : CallFrames)
    → frames_by e (Some (with_frame f s call)) ≡ frames_by e (Some call) ++ sends e 0 s.tick (note.Send f 0 s.frame) []
one_more «end».Vehicle «end».Vehicle s call = refl
one_more «end».Vehicle «end».Point s call = sym (append-nil call.up)
one_more «end».Point «end».Vehicle s call = sym (append-nil call.down)
one_more «end».Point «end».Point s call = refl

sends_apart : (e f : End) (c d t : ℕ) (frame : Frame) → (c == d) ≡ false → sends e c t (note.Send f d frame) [] ≡ []
sends_apart «end».Vehicle «end».Vehicle c d t frame h = ap (λ b. cond b (record { tick = t; frame = frame } ∷ []) []) h
sends_apart «end».Vehicle «end».Point c d t frame h = refl
sends_apart «end».Point «end».Vehicle c d t frame h = refl
sends_apart «end».Point «end».Point c d t frame h = ap (λ b. cond b (record { tick = t; frame = frame } ∷ []) []) h

suc_same : (c i : ℕ) → (c == i) ≡ (suc c == suc i)
suc_same c i = grind arith

sends_further : (e f : End) (c i t : ℕ) (frame : Frame)
    → sends e c t (note.Send f i frame) [] ≡ sends e (suc c) t (note.Send f (suc i) frame) []
sends_further «end».Vehicle «end».Vehicle c i t frame = ap (λ b. cond b (record { tick = t; frame = frame } ∷ []) []) (suc_same c i)
sends_further «end».Vehicle «end».Point c i t frame = refl
sends_further «end».Point «end».Vehicle c i t frame = refl
sends_further «end».Point «end».Point c i t frame = ap (λ b. cond b (record { tick = t; frame = frame } ∷ []) []) (suc_same c i)

-- a frame more in one call
pub call_more : (e f : End) (c i t : ℕ) (frame : Frame) (calls : List CallFrames) (old new : CallFrames)
    → i < length calls → old ≡ slice_index_or calls i old
    → new ≡ with_frame f (record { tick = t; frame = frame }) old
    → frames_of e c (slice_set calls i new) ≡ frames_of e c calls ++ sends e c t (note.Send f i frame) []
call_more e f c i t frame [] old new less is more = absurd (omega (arith, less))
call_more e f zero zero t frame (call ∷ calls) old new less is more =
    ap (λ k. frames_by e (Some k)) (more ∙ ap (with_frame f (record { tick = t; frame = frame })) is)
    ∙ one_more e f (record { tick = t; frame = frame }) call
call_more e f (suc c) zero t frame (call ∷ calls) old new less is more =
    sym (append-nil (frames_of e c calls))
    ∙ ap (λ l. frames_of e c calls ++ l)
    (sym (sends_apart e f (suc c) 0 t frame (let apart : (suc c == 0) ≡ false = grind arith in apart)))
call_more e f zero (suc i) t frame (call ∷ calls) old new less is more =
    sym (append-nil (frames_by e (Some call)))
    ∙ ap (λ l. frames_by e (Some call) ++ l)
    (sym (sends_apart e f 0 (suc i) t frame (let apart : (0 == suc i) ≡ false = grind arith in apart)))
call_more e f (suc c) (suc i) t frame (call ∷ calls) old new less is more =
    call_more e f c i t frame calls old new (omega (arith, less)) is more
    ∙ ap (λ l. frames_of e c calls ++ l) (sends_further e f c i t frame)

-- the frame that an event has the modem carry
pub carried_is : (up : Bool) (c k : ℕ) (frames : SentFrames) (entries : List Entry) → FramesStandFor frames entries
    → option_map (λ s. s.frame) (slice_get (frames_of (sender_of up) c frames.calls.items) (k - 1))
    ≡ carried_for entries (event.Deliver up c k)
carried_is true c k frames entries stands = ap (nth_frame k) (stands «end».Vehicle c)
carried_is false c k frames entries stands = ap (nth_frame k) (stands «end».Point c)

-- no other event has one
pub carried_none : (entries : List Entry) (e : Event)
    → ((up : Bool) (c k : ℕ) → e ≢ event.Deliver up c k) → None ≡ carried_for entries e
carried_none entries (event.Deliver up c k) other = absurd (other up c k refl)
carried_none entries _ other = refl
