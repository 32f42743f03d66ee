-- The words of an entry are read as the entry.
use Rattle.std.proofs.Common.{◌≡◌, ℕ, ◌<◌, ◌^◌, true, List, [], ◌∷◌, ◌++◌, codes, decimal, Some, Ok, refl, sym, ap, ◌∙◌, arith}
use Rattle.std.specs.Str.{bytes_eq}
use Rattle.std.proofs.lemmas.Slice.Eq.{bytes_eq-Decides}
use Rattle.hex.specs.Hex.{encode_lower}
use Rattle.link_frames.specs.declared.frame.Frame.{Frame}
use Rattle.link_frames.specs.declared.frame.Frame.TheVariants as frame
use Rattle.link_frames.specs.declared.note.Note.{Note}
use Rattle.link_frames.specs.declared.note.Note.TheVariants as note
use Rattle.trace_text.specs.EntryLine.{frame_words, note_words, spaced}
use Rattle.trace_text.specs.EntryLines.{IsCall, IsDial, IsFrame, IsNote, IsRequest, IsSet, frame_by_words, note_by_words, summed}
use Rattle.line_input.specs.Numbers.{natural_below, positive_below}
use Rattle.trace_text.specs.Summary.{summary_words}
use Rattle.trace_text.specs.declared.entries.kinds.Item.TheVariants as item
use Rattle.trace_text.proofs.EntryChoicesBack.{answer-read, end-read, item-read, net-read, timer-read, voice-read, why-read}
use Rattle.trace_text.proofs.EntryNumbers.{natural_below-decimal, positive_below-decimal, word-decimal}
use Rattle.trace_text.proofs.EntryOctets.{set_octets-encode, word-encode}
use Rattle.trace_text.proofs.EntryWords.{AreWords, IsWord, behind, behind-words, spaced-behind, words-front}

-- words are read as they are
behind-all : (ws : List (List ℕ)) → AreWords ws → behind ws ≡ ws
behind-all [] h = refl
behind-all (w ∷ ws) h = words-front w ws h.0 ∙ ap (λ (l : List (List ℕ)). w ∷ l) (behind-all ws h.1)

call-word : (call : ℕ) → IsCall call → IsWord (decimal call)
call-word call h = word-decimal call (omega arith)

call-read : (call : ℕ) → IsCall call → natural_below (2 ^ 32) (decimal call) ≡ Some call
call-read call h = natural_below-decimal (2 ^ 32) call (omega arith) h

request-word : (request : ℕ) → IsRequest request → IsWord (decimal request)
request-word request h = let most = h.1 in word-decimal request (omega arith)

request-read : (request : ℕ) → IsRequest request → positive_below 256 (decimal request) ≡ Some request
request-read request h = positive_below-decimal 256 request (omega arith) h.0 h.1

dial-word : (attempt : ℕ) → IsDial attempt → IsWord (decimal attempt)
dial-word attempt h = let most = h.1 in word-decimal attempt (omega arith)

dial-read : (attempt : ℕ) → IsDial attempt → positive_below 11 (decimal attempt) ≡ Some attempt
dial-read attempt h = let most = h.1 in positive_below-decimal 11 attempt (omega arith) h.0 (omega arith)

attempt-word : (attempt : ℕ) → attempt < 256 → IsWord (decimal attempt)
attempt-word attempt h = word-decimal attempt (omega arith)

attempt-read : (attempt : ℕ) → attempt < 256 → natural_below 256 (decimal attempt) ≡ Some attempt
attempt-read attempt h = natural_below-decimal 256 attempt (omega arith) h

-- ---- frames

words-frame : (f : Frame) → IsFrame f → AreWords (frame_words f)
words-frame frame.Init h = (refl, tt)
words-frame (frame.Start r) h = (refl, (request-word r h, tt))
words-frame (frame.Content r a o) h = (refl, (request-word r h.0, (attempt-word a h.1, (word-encode o h.2, tt))))
words-frame (frame.Nack r) h = (refl, (request-word r h, tt))
words-frame (frame.Ack r) h = (refl, (request-word r h, tt))
words-frame (frame.App r a) h = (refl, (request-word r h, ((answer-read a).1, tt)))

frame-reads : (f : Frame) → IsFrame f → frame_by_words (frame_words f) ≡ Ok f
frame-reads frame.Init h = refl
frame-reads (frame.Start r) h = rw (request-read r h) refl
frame-reads (frame.Content r a o) h = rw (request-read r h.0, attempt-read a h.1, set_octets-encode o h.2) refl
frame-reads (frame.Nack r) h = rw (request-read r h) refl
frame-reads (frame.Ack r) h = rw (request-read r h) refl
frame-reads (frame.App r a) h = rw (request-read r h, (answer-read a).0) refl

-- ---- items

summed-reads : (m : Note) (octets : List ℕ) (ws : List (List ℕ)) → spaced ws ≡ spaced (summary_words octets) → summed m octets ws ≡ Ok m
summed-reads m octets ws e =
    let test : bytes_eq (spaced (summary_words octets)) (spaced ws) ≡ true = (bytes_eq-Decides _ _).1 (sym e) in
    rw test refl

shown-reads : (c r : ℕ) (o : List ℕ) → IsCall c → IsRequest r → IsSet o → note_by_words (behind (note_words (note.Shown c r o))) ≡ Ok (note.Shown c r o)
shown-reads c r o call request set =
    let front = codes "shown" ∷ decimal c ∷ decimal r ∷ encode_lower o ∷ [] in
    let w : behind (front ++ summary_words o) ≡ front ++ behind (summary_words o) =
    behind-words front (summary_words o) (refl, (call-word c call, (request-word r request, (word-encode o set, tt)))) in
    ap note_by_words w
    ∙ rw ((item-read item.Shown).0, call-read c call, request-read r request, set_octets-encode o set)
    (summed-reads (note.Shown c r o) o (behind (summary_words o)) (spaced-behind (summary_words o)))

pub note-reads : (n : Note) → IsNote n → note_by_words (behind (note_words n)) ≡ Ok n
note-reads (note.Dial a) h =
    ap note_by_words (behind-all (note_words (note.Dial a)) (refl, (dial-word a h, tt)))
    ∙ rw ((item-read item.Dial).0, dial-read a h) refl
note-reads (note.Failed a) h =
    ap note_by_words (behind-all (note_words (note.Failed a)) (refl, (dial-word a h, tt)))
    ∙ rw ((item-read item.Failed).0, dial-read a h) refl
note-reads note.GaveUp h = ap note_by_words (behind-all (note_words note.GaveUp) (refl, tt)) ∙ rw ((item-read item.GaveUp).0) refl
note-reads note.Seeking h = ap note_by_words (behind-all (note_words note.Seeking) (refl, tt)) ∙ rw ((item-read item.Seeking).0) refl
note-reads note.Arming h = ap note_by_words (behind-all (note_words note.Arming) (refl, tt)) ∙ rw ((item-read item.Arming).0) refl
note-reads note.Cancelled h = ap note_by_words (behind-all (note_words note.Cancelled) (refl, tt)) ∙ rw ((item-read item.Cancelled).0) refl
note-reads note.Standby h = ap note_by_words (behind-all (note_words note.Standby) (refl, tt)) ∙ rw ((item-read item.Standby).0) refl
note-reads note.Idle h = ap note_by_words (behind-all (note_words note.Idle) (refl, tt)) ∙ rw ((item-read item.Idle).0) refl
note-reads note.Nothing h = ap note_by_words (behind-all (note_words note.Nothing) (refl, tt)) ∙ rw ((item-read item.Nothing).0) refl
note-reads (note.Net up) h =
    ap note_by_words (behind-all (note_words (note.Net up)) (refl, ((net-read up).1, tt)))
    ∙ rw ((item-read item.Net).0, (net-read up).0) refl
note-reads (note.Up e c) h =
    ap note_by_words (behind-all (note_words (note.Up e c)) (refl, ((end-read e).1, (call-word c h, tt))))
    ∙ rw ((item-read item.Up).0, (end-read e).0, call-read c h) refl
note-reads (note.Down e c y) h =
    ap note_by_words (behind-all (note_words (note.Down e c y)) (refl, ((end-read e).1, (call-word c h, ((why-read y).1, tt)))))
    ∙ rw ((item-read item.Down).0, (end-read e).0, call-read c h, (why-read y).0) refl
note-reads (note.Voice e c u d) h =
    ap note_by_words (behind-all (note_words (note.Voice e c u d)) (refl, ((end-read e).1, (call-word c h, ((voice-read u).1, ((voice-read d).1, tt))))))
    ∙ rw ((item-read item.Voice).0, (end-read e).0, call-read c h, (voice-read u).0, (voice-read d).0) refl
note-reads (note.Send e c f) h =
    ap note_by_words (behind-all (note_words (note.Send e c f)) (refl, ((end-read e).1, (call-word c h.0, words-frame f h.1))))
    ∙ rw ((item-read item.Send).0, (end-read e).0, call-read c h.0, frame-reads f h.1) refl
note-reads (note.Shown c r o) h = shown-reads c r o h.0 h.1 h.2
note-reads (note.Acked c r o) h =
    ap note_by_words (behind-all (note_words (note.Acked c r o)) (refl, (call-word c h.0, (request-word r h.1, (word-encode o h.2, tt)))))
    ∙ rw ((item-read item.Acked).0, call-read c h.0, request-read r h.1, set_octets-encode o h.2) refl
note-reads (note.Ended e c t) h =
    ap note_by_words (behind-all (note_words (note.Ended e c t)) (refl, ((end-read e).1, (call-word c h, ((timer-read t).1, tt)))))
    ∙ rw ((item-read item.Ended).0, (end-read e).0, call-read c h, (timer-read t).0) refl
note-reads (note.Fault e c) h =
    ap note_by_words (behind-all (note_words (note.Fault e c)) (refl, ((end-read e).1, (call-word c h, tt))))
    ∙ rw ((item-read item.Fault).0, (end-read e).0, call-read c h) refl
note-reads (note.Busy c) h =
    ap note_by_words (behind-all (note_words (note.Busy c)) (refl, (call-word c h, tt)))
    ∙ rw ((item-read item.Busy).0, call-read c h) refl
note-reads (note.Spent c) h =
    ap note_by_words (behind-all (note_words (note.Spent c)) (refl, (call-word c h, tt)))
    ∙ rw ((item-read item.Spent).0, call-read c h) refl
note-reads (note.Unshown c) h =
    ap note_by_words (behind-all (note_words (note.Unshown c)) (refl, (call-word c h, tt)))
    ∙ rw ((item-read item.Unshown).0, call-read c h) refl
note-reads (note.Restart e) h =
    ap note_by_words (behind-all (note_words (note.Restart e)) (refl, ((end-read e).1, tt)))
    ∙ rw ((item-read item.Restart).0, (end-read e).0) refl
