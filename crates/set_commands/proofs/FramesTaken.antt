-- What a piece of a stream comes to, by what its front comes to and what follows that; and what a line comes to.
use Rattle.std.specs.Prelude.{◌≡◌, ℕ, ◌+◌, ◌-◌, ◌*◌, ◌≤◌, List, [], ◌∷◌, ◌++◌, length, take, drop, Option, Some, None, Result, Ok, Err}
use Rattle.std.proofs.Common.{sym, ◌∙◌, ap, refl, subst, append_assoc, inl, inr, arith, length-drop, take-add}
use Rattle.std.proofs.lemmas.List.{append-nil, take_all, take-append-drop}
use Rattle.std.proofs.lemmas.List.Concat.{flat_map-append}
use Rattle.std.proofs.lemmas.Slice.{between_to_end}
use Rattle.call_io.specs.Bytes.{Grew, GrewPartly}
use Rattle.call_io.proofs.BytesLemmas.{Grew-append, GrewPartly-after, GrewPartly-longer}
use Rattle.hex.specs.Hex.{decode_of}
use Rattle.hex.proofs.HexLemmas.{decode_of-ok}
use Rattle.link_frames.specs.Reading.{Reading, Feeds, HasRead, and_frame}
use Rattle.link_frames.specs.Streams.{Holds, FrameStops}
use Rattle.link_frames.specs.declared.fault.FrameFault.{FrameFault}
use Rattle.link_frames.specs.declared.frame.Frame.{Frame}
use Rattle.link_frames.specs.declared.frame.Frame.TheVariants as frame
use Rattle.link_frames.proofs.StreamLemmas as streams
use Rattle.line_input.specs.Characters.{space}
use Rattle.trace_text.specs.EntryLine.{frame_words, spaced}
use Rattle.line_input.specs.Lines.{Numbered}
use Rattle.line_input.specs.Words.{only_word_of, words}
use Rattle.line_input.specs.declared.reason.Reason.{Reason}
use Rattle.line_input.specs.declared.reason.Reason.TheVariants as reason
use Rattle.set_commands.specs.Decode.{octets_in, octets_of_word, some_octets}
use Rattle.set_commands.specs.Frames.{frame_line, frame_lines, joined}
use Rattle.command_base.specs.Refusals.{refusal_line}
use Rattle.command_base.specs.declared.refusal.Refused.TheVariants as refused
use Rattle.command_base.specs.declared.status.Status.{Status}
use Rattle.command_base.specs.declared.status.Status.TheVariants as status
use Rattle.command_base.specs.Ends.{EndsWithText}
use Rattle.set_commands.specs.inner.FrameTurns.{WentOn, CutsPiece, in_frames, in_refusal, TakesPiece, TakesLine, by_line, last_line}
use Rattle.set_commands.specs.inner.FrameStreams.{Goes, goes}

-- the words of a frame behind a space each are those behind one
pub spaced_frame : (f : Frame) → spaced (frame_words f) ≡ space ∷ joined (frame_words f)
spaced_frame frame.Init = refl
spaced_frame (frame.Start request) = refl
spaced_frame (frame.Content request attempt octets) = refl
spaced_frame (frame.Nack request) = refl
spaced_frame (frame.Ack request) = refl
spaced_frame (frame.App request answer) = refl

lines_both : (fs gs : List Frame) → frame_lines fs ++ frame_lines gs ≡ frame_lines (fs ++ gs)
lines_both fs gs = sym (flat_map-append frame_line fs gs)

-- a piece in two parts, behind a stream
parts : (stream a b c : List ℕ) → a ++ b ≡ c → (stream ++ a) ++ b ≡ stream ++ c
parts stream a b c whole = append_assoc stream a b ∙ ap (λ (octets : List ℕ). stream ++ octets) whole

-- what is read of a stream in two parts, and of frames in two parts
held_in_parts : (stream a b c : List ℕ) (ended fs gs : List Frame) (rest : List ℕ) → a ++ b ≡ c
    → Holds ((stream ++ a) ++ b) ((ended ++ fs) ++ gs) rest → Holds (stream ++ c) (ended ++ (fs ++ gs)) rest
held_in_parts stream a b c ended fs gs rest whole h =
    subst (λ (frames : List Frame). Holds (stream ++ c) frames rest) (append_assoc ended fs gs)
    (subst (λ (octets : List ℕ). Holds octets ((ended ++ fs) ++ gs) rest) (parts stream a b c whole) h)

stops_in_parts : (stream a b c : List ℕ) (ended fs gs : List Frame) (fault : FrameFault) → a ++ b ≡ c
    → FrameStops ((stream ++ a) ++ b) ((ended ++ fs) ++ gs) fault → FrameStops (stream ++ c) (ended ++ (fs ++ gs)) fault
stops_in_parts stream a b c ended fs gs fault whole h =
    subst (λ (frames : List Frame). FrameStops (stream ++ c) frames fault) (append_assoc ended fs gs)
    (subst (λ (octets : List ℕ). FrameStops octets ((ended ++ fs) ++ gs) fault) (parts stream a b c whole) h)

read_in_parts : (stream a b c : List ℕ) (ended fs gs : List Frame) (reader : Reading) → a ++ b ≡ c
    → HasRead ((stream ++ a) ++ b) ((ended ++ fs) ++ gs) reader → HasRead (stream ++ c) (ended ++ (fs ++ gs)) reader
read_in_parts stream a b c ended fs gs reader whole h =
    subst (λ (frames : List Frame). HasRead (stream ++ c) frames reader) (append_assoc ended fs gs)
    (subst (λ (octets : List ℕ). HasRead octets ((ended ++ fs) ++ gs) reader) (parts stream a b c whole) h)

-- the text of frames in two parts, and of a refusal behind them
refusal_in_parts : (fs gs : List Frame) (refusal : List ℕ)
    → frame_lines fs ++ (frame_lines gs ++ refusal) ≡ frame_lines (fs ++ gs) ++ refusal
refusal_in_parts fs gs refusal =
    sym (append_assoc (frame_lines fs) (frame_lines gs) refusal)
    ∙ ap (λ (text : List ℕ). text ++ refusal) (lines_both fs gs)

-- nothing was taken of a piece
pub nothing_taken : (stream : List ℕ) (ended : List Frame) (held : Option (List ℕ)) (reader : Reading)
    → HasRead stream ended reader → Grew held held [] → WentOn stream ended [] held held reader
nothing_taken stream ended held reader read still =
    record {
      frames = [];
      read =
          subst (λ (frames : List Frame). HasRead (stream ++ []) frames reader) (sym (append-nil ended))
          (subst (λ (octets : List ℕ). HasRead octets ended reader) (sym (append-nil stream)) read);
      wrote = still;
    }

-- a part behind a part
pub then_on : (stream a b c : List ℕ) (ended : List Frame) (held mid held' : Option (List ℕ)) (old new : Reading)
    → a ++ b ≡ c → (w : WentOn stream ended a held mid old)
    → WentOn (stream ++ a) (ended ++ w.frames) b mid held' new → WentOn stream ended c held held' new
then_on stream a b c ended held mid held' old new whole w v =
    record {
      frames = w.frames ++ v.frames;
      read = read_in_parts stream a b c ended w.frames v.frames new whole v.read;
      wrote =
          subst (λ (text : List ℕ). Grew held held' text) (lines_both w.frames v.frames)
          (Grew-append held mid held' (frame_lines w.frames) (frame_lines v.frames) w.wrote v.wrote);
    }

-- frames whose lines were written in part, and what may follow them
then_cut : (stream a b c : List ℕ) (ended fs : List Frame) (kept : List ℕ) (number : ℕ) (held held' : Option (List ℕ))
    → a ++ b ≡ c → Holds (stream ++ a) (ended ++ fs) kept → GrewPartly held held' (frame_lines fs)
    → CutsPiece stream ended c number held held'
then_cut stream a b c ended fs kept number held held' whole h grew =
    let g : Goes (stream ++ a) b (ended ++ fs) = goes (stream ++ a) b (ended ++ fs) kept h in
    elim (g.comes) [
      | inl more ↦
          in_frames (fs ++ g.frames) more.0
          (held_in_parts stream a b c ended fs g.frames more.0 whole more.1)
          (subst (λ (text : List ℕ). GrewPartly held held' text) (lines_both fs g.frames)
          (GrewPartly-longer held held' (frame_lines fs) (frame_lines g.frames) grew))
      | inr stop ↦
          in_refusal (fs ++ g.frames) stop.0 (stops_in_parts stream a b c ended fs g.frames stop.0 whole stop.1)
          (subst (λ (text : List ℕ). GrewPartly held held' text)
          (refusal_in_parts fs g.frames (refusal_line (refused.Frame number stop.0)))
          (GrewPartly-longer held held' (frame_lines fs)
          (frame_lines g.frames ++ refusal_line (refused.Frame number stop.0)) grew))
    ]

-- a part that ends the command, behind a part
pub then_answer : (stream a b c : List ℕ) (ended : List Frame) (number : ℕ) (held mid held' : Option (List ℕ))
    (old new new' : Reading) → a ++ b ≡ c → (w : WentOn stream ended a held mid old) → (answer : Status)
    → TakesPiece (stream ++ a) (ended ++ w.frames) b number mid held' new (Some answer)
    → TakesPiece stream ended c number held held' new' (Some answer)
then_answer stream a b c ended number held mid held' old new new' whole w (status.Refused why) t =
    record {
      frames = w.frames ++ t.frames;
      fault = t.fault;
      stops = stops_in_parts stream a b c ended w.frames t.frames t.fault whole t.stops;
      is = t.is;
      wrote =
          subst (λ (text : List ℕ). Grew held held' text) (refusal_in_parts w.frames t.frames (refusal_line why))
          (Grew-append held mid held' (frame_lines w.frames) (frame_lines t.frames ++ refusal_line why) w.wrote
          t.wrote);
    }
then_answer stream a b c ended number held mid held' old new new' whole w status.WriteFault
    (in_frames fs rest h grew) =
    in_frames (w.frames ++ fs) rest (held_in_parts stream a b c ended w.frames fs rest whole h)
    (subst (λ (text : List ℕ). GrewPartly held held' text) (lines_both w.frames fs)
    (GrewPartly-after held mid held' (frame_lines w.frames) (frame_lines fs) w.wrote grew))
then_answer stream a b c ended number held mid held' old new new' whole w status.WriteFault
    (in_refusal fs fault h grew) =
    in_refusal (w.frames ++ fs) fault (stops_in_parts stream a b c ended w.frames fs fault whole h)
    (subst (λ (text : List ℕ). GrewPartly held held' text)
    (refusal_in_parts w.frames fs (refusal_line (refused.Frame number fault)))
    (GrewPartly-after held mid held' (frame_lines w.frames)
    (frame_lines fs ++ refusal_line (refused.Frame number fault)) w.wrote grew))
then_answer stream a b c ended number held mid held' old new new' whole w status.Done t = absurd t
then_answer stream a b c ended number held mid held' old new new' whole w status.Usage t = absurd t
then_answer stream a b c ended number held mid held' old new new' whole w (status.Broken place rule) t = absurd t
then_answer stream a b c ended number held mid held' old new new' whole w status.ReadFault t = absurd t
then_answer stream a b c ended number held mid held' old new new' whole w status.Memory t = absurd t
then_answer stream a b c ended number held mid held' old new new' whole w status.TooLong t = absurd t

-- the rest of a piece, as it is sliced
abbrev rest_of : ℕ → List ℕ → List ℕ
rest_of n piece = take (length piece - n) (drop n piece)

rest_is : (n : ℕ) (piece : List ℕ) → rest_of n piece ≡ drop n piece
rest_is n piece = between_to_end piece n (length piece) (omega arith)

pub rest_length : (n : ℕ) (piece : List ℕ) → length (rest_of n piece) ≡ length piece - n
rest_length n piece = ap length (rest_is n piece) ∙ length-drop n piece

-- a piece of which n octets and then m more went on with the stream
pub piece_on : (stream piece : List ℕ) (ended : List Frame) (n m : ℕ) (held mid held' : Option (List ℕ))
    (old new : Reading) → WentOn stream ended (take n piece) held mid old
    → ((s : List ℕ) (e : List Frame) → HasRead s e old → WentOn s e (take m (rest_of n piece)) mid held' new)
    → WentOn stream ended (take (n + m) piece) held held' new
piece_on stream piece ended n m held mid held' old new w more =
    then_on stream (take n piece) (take m (drop n piece)) (take (n + m) piece) ended held mid held' old new
    (sym (take-add n m piece)) w
    (subst (λ (rest : List ℕ). WentOn (stream ++ take n piece) (ended ++ w.frames) (take m rest) mid held' new)
    (rest_is n piece) (more (stream ++ take n piece) (ended ++ w.frames) w.read))

-- a piece of which n octets went on with the stream, and the rest ends the command
pub piece_answer : (stream piece : List ℕ) (ended : List Frame) (n number : ℕ) (held mid held' : Option (List ℕ))
    (old new new' : Reading) (answer : Status) → WentOn stream ended (take n piece) held mid old
    → ((s : List ℕ) (e : List Frame) → HasRead s e old
    → TakesPiece s e (rest_of n piece) number mid held' new (Some answer))
    → TakesPiece stream ended piece number held held' new' (Some answer)
piece_answer stream piece ended n number held mid held' old new new' answer w more =
    then_answer stream (take n piece) (drop n piece) piece ended number held mid held' old new new'
    (take-append-drop n piece) w answer
    (subst (λ (rest : List ℕ).
    TakesPiece (stream ++ take n piece) (ended ++ w.frames) rest number mid held' new (Some answer)) (rest_is n piece)
    (more (stream ++ take n piece) (ended ++ w.frames) w.read))

-- all octets of a piece went on with the stream
pub piece_whole : (stream piece : List ℕ) (ended : List Frame) (n : ℕ) (held held' : Option (List ℕ)) (new : Reading)
    → length piece ≤ n → WentOn stream ended (take n piece) held held' new → WentOn stream ended piece held held' new
piece_whole stream piece ended n held held' new all w =
    subst (λ (octets : List ℕ). WentOn stream ended octets held held' new) (take_all n piece all) w

-- what a frame adds, if one was whole
abbrev frames_in : Option Frame → List Frame
frames_in None = []
frames_in (Some frame) = frame ∷ []

added : (ended : List Frame) (frame : Option Frame) → and_frame ended frame ≡ ended ++ frames_in frame
added ended None = sym (append-nil ended)
added ended (Some frame) = refl

line_added : (frame : Option Frame) → last_line frame ≡ frame_lines (frames_in frame)
line_added None = refl
line_added (Some frame) = sym (append-nil (frame_line frame))

fed : (stream piece : List ℕ) (ended : List Frame) (n : ℕ) (old new : Reading) → HasRead stream ended old
    → Feeds old piece (Ok n) new → HasRead (stream ++ take n piece) (ended ++ frames_in new.frame) new
fed stream piece ended n old new read feeds =
    subst (λ (frames : List Frame). HasRead (stream ++ take n piece) frames new) (added ended new.frame)
    (streams.goes_on stream piece ended n old new read feeds)

-- a piece was taken up to the end of one frame, which was written
pub went_on : (stream piece : List ℕ) (ended : List Frame) (n : ℕ) (held held' : Option (List ℕ)) (old new : Reading)
    → Feeds old piece (Ok n) new → Grew held held' (last_line new.frame) → HasRead stream ended old
    → WentOn stream ended (take n piece) held held' new
went_on stream piece ended n held held' old new feeds grew read =
    record {
      frames = frames_in new.frame;
      read = fed stream piece ended n old new read feeds;
      wrote = subst (λ (text : List ℕ). Grew held held' text) (line_added new.frame) grew;
    }

-- the frame could not be written whole
pub cut_frame : (stream piece : List ℕ) (ended : List Frame) (n number : ℕ) (held held' : Option (List ℕ))
    (old new : Reading) → take n piece ++ drop n piece ≡ piece → Feeds old piece (Ok n) new
    → GrewPartly held held' (last_line new.frame) → HasRead stream ended old
    → CutsPiece stream ended piece number held held'
cut_frame stream piece ended n number held held' old new whole feeds grew read =
    then_cut stream (take n piece) (drop n piece) piece ended (frames_in new.frame) new.kept number held held' whole
    (fed stream piece ended n old new read feeds).holds
    (subst (λ (text : List ℕ). GrewPartly held held' text) (line_added new.frame) grew)

-- the stream stops in a piece, which was written, or a part of it
pub stopped : (stream piece : List ℕ) (ended : List Frame) (fault : FrameFault) (number : ℕ)
    (held held' : Option (List ℕ)) (old new : Reading) → Feeds old piece (Err fault) new → (answer : Status)
    → EndsWithText held held' (refusal_line (refused.Frame number fault)) (status.Refused (refused.Frame number fault))
    answer → HasRead stream ended old → TakesPiece stream ended piece number held held' new (Some answer)
stopped stream piece ended fault number held held' old new feeds answer ends read = by_end ends
  where
    stops : FrameStops (stream ++ piece) (ended ++ []) fault
    stops =
        subst (λ (frames : List Frame). FrameStops (stream ++ piece) frames fault) (sym (append-nil ended))
        (streams.stops_there stream piece ended fault old new read feeds)

    by_end : EndsWithText held held' (refusal_line (refused.Frame number fault))
        (status.Refused (refused.Frame number fault)) answer
        → TakesPiece stream ended piece number held held' new (Some answer)
    by_end (inl h) =
        subst (λ (a : Status). TakesPiece stream ended piece number held held' new (Some a)) (sym h.0)
        (record { frames = []; fault = fault; stops = stops; is = refl; wrote = h.1 })
    by_end (inr h) =
        subst (λ (a : Status). TakesPiece stream ended piece number held held' new (Some a)) (sym h.0)
        (in_refusal [] fault stops h.1)

-- what feeding a piece leaves
pub feeds_on : (old new : Reading) (piece : List ℕ) (n : ℕ) → Feeds old piece (Ok n) new
    → (new.fault ≡ None) × (new.taken ≡ old.taken + n)
feeds_on old new piece n (inl e) = (ap (λ (r : Reading). r.fault) e.after, ap (λ (r : Reading). r.taken) e.after)
feeds_on old new piece n (inr e) = (ap (λ (r : Reading). r.fault) e.after, ap (λ (r : Reading). r.taken) e.after)

-- a line that is refused for what it says
pub refuses : (stream : List ℕ) (ended : List Frame) (place : Result (Option (List ℕ)) Reason) (number : ℕ)
    (reason : Reason) (held held' : Option (List ℕ)) (new : Reading) → place ≡ Err reason → (answer : Status)
    → EndsWithText held held' (refusal_line (refused.Line (record { line = number; reason = reason })))
    (status.Refused (refused.Line (record { line = number; reason = reason }))) answer
    → TakesLine stream ended place number held held' new (Some answer)
refuses stream ended place number reason held held' new placed answer ends = by_line reason answer placed refl ends

-- the octets of a line have room
pub few_octets : (text octets : List ℕ) → decode_of text ≡ Ok octets → length text ≤ 512 → length octets ≤ 256
few_octets text octets read short =
    let twice : length text ≡ 2 * length octets = (decode_of-ok text octets read).2 in omega (arith, twice, short)

-- a line that hasn't one word is refused
pub other_words : (stream : List ℕ) (ended : List Frame) (line : Numbered) (text : List ℕ) (number : ℕ)
    (held held' : Option (List ℕ)) (new : Reading) → text ≡ line.text → number ≡ line.number
    → None ≡ only_word_of (words text) → (answer : Status)
    → EndsWithText held held' (refusal_line (refused.Line (record { line = number; reason = reason.Count })))
    (status.Refused (refused.Line (record { line = number; reason = reason.Count }))) answer
    → TakesLine stream ended (some_octets (octets_of_word (only_word_of (words line.text)))) line.number held held' new
    (Some answer)
other_words stream ended line text number held held' new text_is number_is none answer ends =
    subst (λ (t : List ℕ).
    TakesLine stream ended (some_octets (octets_of_word (only_word_of (words t)))) line.number held held' new
    (Some answer)) text_is
    (subst (λ (n : ℕ).
    TakesLine stream ended (some_octets (octets_of_word (only_word_of (words text)))) n held held' new (Some answer))
    number_is
    (refuses stream ended (some_octets (octets_of_word (only_word_of (words text)))) number reason.Count held held' new
    (ap (λ word. some_octets (octets_of_word word)) (sym none)) answer ends))

-- a line of one word
pub one_word : (stream : List ℕ) (ended : List Frame) (line : Numbered) (text word : List ℕ) (number : ℕ)
    (held held' : Option (List ℕ)) (new : Reading) (answer : Option Status) → text ≡ line.text → number ≡ line.number
    → Some word ≡ only_word_of (words text)
    → TakesLine stream ended (some_octets (octets_in (decode_of word))) number held held' new answer
    → TakesLine stream ended (some_octets (octets_of_word (only_word_of (words line.text)))) line.number held held' new
    answer
one_word stream ended line text word number held held' new answer text_is number_is only takes =
    subst (λ (t : List ℕ).
    TakesLine stream ended (some_octets (octets_of_word (only_word_of (words t)))) line.number held held' new answer)
    text_is
    (subst (λ (n : ℕ).
    TakesLine stream ended (some_octets (octets_of_word (only_word_of (words text)))) n held held' new answer) number_is
    (subst (λ (w : Option (List ℕ)).
    TakesLine stream ended (some_octets (octets_of_word w)) number held held' new answer) only takes))
