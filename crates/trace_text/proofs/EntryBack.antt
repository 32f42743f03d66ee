-- An item that was read of words is one whose words these are.
use Rattle.std.proofs.Common.{◌≡◌, ℕ, List, ◌∷◌, codes, decimal, ◌++◌, Ok, Err, refl, sym, ap, subst, ◌∙◌}
use Rattle.std.specs.Str.{bytes_eq}
use Rattle.std.proofs.lemmas.Bool.{cond_both}
use Rattle.std.proofs.lemmas.Slice.Eq.{bytes_eq-Decides}
use Rattle.hex.specs.Hex.{encode_lower}
use Rattle.link_frames.specs.declared.note.Note.{Note}
use Rattle.link_frames.specs.declared.note.Note.TheVariants as note
use Rattle.trace_text.specs.Choices.{direction, end_of}
use Rattle.trace_text.specs.EntryChoices.{item_of, timer_of, voice_of, why_of}
use Rattle.trace_text.specs.EntryLine.{end_word, net_word, timer_word, voice_word, why_word, spaced}
use Rattle.trace_text.specs.EntryLines.{next_end, next_leg, next_net, next_set, next_timer, next_voice, next_why, next_item, note_by_words, note_of, summed, net_note, down_note, voice_note, send_note, shown_note, acked_note, ended_note, restart_note, frame_by_words}
use Rattle.trace_text.specs.Summary.{summary_words}
use Rattle.trace_text.specs.declared.entries.kinds.Item.{Item}
use Rattle.trace_text.specs.declared.entries.kinds.Item.TheVariants as item
use Rattle.line_input.specs.declared.reason.Reason.TheVariants as reason
use Rattle.trace_text.proofs.EntryChoicesBack.{end-back, item-back, item_word, net-back, timer-back, voice-back, why-back}
use Rattle.trace_text.proofs.EntryReads.{Says, call-note, choice-next, dial-note, followed-back, frames-back, last-back, last-note, leg-next, leg-note, made-back, note-same, set-next}

net-says : (ws : List (List ℕ)) (n : Note) → net_note ws ≡ Ok n → Says (codes "net" ∷ ws) n
net-says ws n e =
    let a = followed-back (next_net ws) _ n e in
    let l = last-back (note.Net a.value) a.rest n a.goes in
    let p = choice-next _ net_word direction net-back ws a.value a.rest a.says in
    note-same _ (note.Net a.value) n
    (ap (λ (l : List (List ℕ)). codes "net" ∷ l) (p ∙ ap (λ (l : List (List ℕ)). net_word a.value ∷ l) l.0)) tt l.1

restart-says : (ws : List (List ℕ)) (n : Note) → restart_note ws ≡ Ok n → Says (codes "restart" ∷ ws) n
restart-says ws n e =
    let a = followed-back (next_end ws) _ n e in
    let l = last-back (note.Restart a.value) a.rest n a.goes in
    let p = choice-next _ end_word end_of end-back ws a.value a.rest a.says in
    note-same _ (note.Restart a.value) n
    (ap (λ (l : List (List ℕ)). codes "restart" ∷ l) (p ∙ ap (λ (l : List (List ℕ)). end_word a.value ∷ l) l.0)) tt l.1

down-says : (ws : List (List ℕ)) (n : Note) → down_note ws ≡ Ok n → Says (codes "down" ∷ ws) n
down-says ws n e =
    let a = followed-back (next_leg ws) _ n e in
    let b = followed-back (next_why a.rest) _ n a.goes in
    let l = last-back (note.Down a.value.0 a.value.1 b.value) b.rest n b.goes in
    let p = leg-next ws a.value a.rest a.says in
    let q = choice-next _ why_word why_of why-back a.rest b.value b.rest b.says in
    note-same _ (note.Down a.value.0 a.value.1 b.value) n
    (ap (λ (l : List (List ℕ)). codes "down" ∷ l) (p.0 ∙ ap (λ (l : List (List ℕ)). end_word a.value.0 ∷ decimal a.value.1 ∷ l)
    (q ∙ ap (λ (l : List (List ℕ)). why_word b.value ∷ l) l.0)))
    p.1 l.1

ended-says : (ws : List (List ℕ)) (n : Note) → ended_note ws ≡ Ok n → Says (codes "ended" ∷ ws) n
ended-says ws n e =
    let a = followed-back (next_leg ws) _ n e in
    let b = followed-back (next_timer a.rest) _ n a.goes in
    let l = last-back (note.Ended a.value.0 a.value.1 b.value) b.rest n b.goes in
    let p = leg-next ws a.value a.rest a.says in
    let q = choice-next _ timer_word timer_of timer-back a.rest b.value b.rest b.says in
    note-same _ (note.Ended a.value.0 a.value.1 b.value) n
    (ap (λ (l : List (List ℕ)). codes "ended" ∷ l) (p.0 ∙ ap (λ (l : List (List ℕ)). end_word a.value.0 ∷ decimal a.value.1 ∷ l)
    (q ∙ ap (λ (l : List (List ℕ)). timer_word b.value ∷ l) l.0)))
    p.1 l.1

voice-says : (ws : List (List ℕ)) (n : Note) → voice_note ws ≡ Ok n → Says (codes "voice" ∷ ws) n
voice-says ws n e =
    let a = followed-back (next_leg ws) _ n e in
    let b = followed-back (next_voice a.rest) _ n a.goes in
    let d = followed-back (next_voice b.rest) _ n b.goes in
    let l = last-back (note.Voice a.value.0 a.value.1 b.value d.value) d.rest n d.goes in
    let p = leg-next ws a.value a.rest a.says in
    let q = choice-next _ voice_word voice_of voice-back a.rest b.value b.rest b.says in
    let r = choice-next _ voice_word voice_of voice-back b.rest d.value d.rest d.says in
    note-same _ (note.Voice a.value.0 a.value.1 b.value d.value) n
    (ap (λ (l : List (List ℕ)). codes "voice" ∷ l) (p.0 ∙ ap (λ (l : List (List ℕ)). end_word a.value.0 ∷ decimal a.value.1 ∷ l)
    (q ∙ ap (λ (l : List (List ℕ)). voice_word b.value ∷ l) (r ∙ ap (λ (l : List (List ℕ)). voice_word d.value ∷ l) l.0))))
    p.1 l.1

send-says : (ws : List (List ℕ)) (n : Note) → send_note ws ≡ Ok n → Says (codes "send" ∷ ws) n
send-says ws n e =
    let a = followed-back (next_leg ws) _ n e in
    let m = made-back (note.Send a.value.0 a.value.1) (frame_by_words a.rest) n a.goes in
    let p = leg-next ws a.value a.rest a.says in
    let f = frames-back a.rest m.0 m.1 in
    note-same _ (note.Send a.value.0 a.value.1 m.0) n
    (ap (λ (l : List (List ℕ)). codes "send" ∷ l) (p.0 ∙ ap (λ (l : List (List ℕ)). end_word a.value.0 ∷ decimal a.value.1 ∷ l) f.line))
    (p.1, f.valid) m.2

acked-says : (ws : List (List ℕ)) (n : Note) → acked_note ws ≡ Ok n → Says (codes "acked" ∷ ws) n
acked-says ws n e =
    let a = followed-back (next_set ws) _ n e in
    let l = last-back (note.Acked a.value.0 a.value.1 a.value.2) a.rest n a.goes in
    let p = set-next ws a.value a.rest a.says in
    note-same _ (note.Acked a.value.0 a.value.1 a.value.2) n
    (ap (λ (l : List (List ℕ)). codes "acked" ∷ l)
    (p.0 ∙ ap (λ (l : List (List ℕ)). decimal a.value.0 ∷ decimal a.value.1 ∷ encode_lower a.value.2 ∷ l) l.0))
    p.1 l.1

summed-back : (m : Note) (octets : List ℕ) (ws : List (List ℕ)) (n : Note) → summed m octets ws ≡ Ok n
    → (spaced ws ≡ spaced (summary_words octets)) × (m ≡ n)
summed-back m octets ws n e =
    cond_both (bytes_eq (spaced (summary_words octets)) (spaced ws)) (Ok m) (Err reason.Word)
    (λ r. r ≡ Ok n → (spaced ws ≡ spaced (summary_words octets)) × (m ≡ n))
    (λ yes same. let is : m ≡ n = cc in (sym ((bytes_eq-Decides (spaced (summary_words octets)) (spaced ws)).0 yes), is))
    (λ _ same. let never : ⊥ = cc in absurd never) e

shown-says : (ws : List (List ℕ)) (n : Note) → shown_note ws ≡ Ok n → Says (codes "shown" ∷ ws) n
shown-says ws n e =
    let a = followed-back (next_set ws) _ n e in
    let m = note.Shown a.value.0 a.value.1 a.value.2 in
    let l = summed-back m a.value.2 a.rest n a.goes in
    let p = set-next ws a.value a.rest a.says in
    subst (Says (codes "shown" ∷ ws)) l.1
    (record {
      line = ap (λ (l : List (List ℕ)). spaced (codes "shown" ∷ l)) p.0
          ∙ ap (λ (l : List ℕ). 32 ∷ (codes "shown" ++ (32 ∷ (decimal a.value.0 ++ (32 ∷ (decimal a.value.1 ++ (32 ∷ (encode_lower a.value.2 ++ l)))))))) l.0;
      valid = p.1;
    })

note-says : (i : Item) (ws : List (List ℕ)) (n : Note) → note_of i ws ≡ Ok n → Says (item_word i ∷ ws) n
note-says item.Dial ws n e = dial-note (codes "dial") note.Dial (λ v. refl) (λ v h. h) ws n e
note-says item.Failed ws n e = dial-note (codes "failed") note.Failed (λ v. refl) (λ v h. h) ws n e
note-says item.GaveUp ws n e = last-note (codes "gaveup") note.GaveUp refl tt ws n e
note-says item.Seeking ws n e = last-note (codes "seeking") note.Seeking refl tt ws n e
note-says item.Arming ws n e = last-note (codes "arming") note.Arming refl tt ws n e
note-says item.Cancelled ws n e = last-note (codes "cancelled") note.Cancelled refl tt ws n e
note-says item.Standby ws n e = last-note (codes "standby") note.Standby refl tt ws n e
note-says item.Idle ws n e = last-note (codes "idle") note.Idle refl tt ws n e
note-says item.Nothing ws n e = last-note (codes "nothing") note.Nothing refl tt ws n e
note-says item.Net ws n e = net-says ws n e
note-says item.Up ws n e = leg-note (codes "up") note.Up (λ e v. refl) (λ e v h. h) ws n e
note-says item.Down ws n e = down-says ws n e
note-says item.Voice ws n e = voice-says ws n e
note-says item.Send ws n e = send-says ws n e
note-says item.Shown ws n e = shown-says ws n e
note-says item.Acked ws n e = acked-says ws n e
note-says item.Ended ws n e = ended-says ws n e
note-says item.Fault ws n e = leg-note (codes "fault") note.Fault (λ e v. refl) (λ e v h. h) ws n e
note-says item.Busy ws n e = call-note (codes "busy") note.Busy (λ v. refl) (λ v h. h) ws n e
note-says item.Spent ws n e = call-note (codes "spent") note.Spent (λ v. refl) (λ v h. h) ws n e
note-says item.Unshown ws n e = call-note (codes "unshown") note.Unshown (λ v. refl) (λ v h. h) ws n e
note-says item.Restart ws n e = restart-says ws n e

pub notes-say : (ws : List (List ℕ)) (n : Note) → note_by_words ws ≡ Ok n → Says ws n
notes-say ws n e =
    let a = followed-back (next_item ws) note_of n e in
    let i = choice-next _ item_word item_of item-back ws a.value a.rest a.says in
    subst (λ (l : List (List ℕ)). Says l n) (sym i) (note-says a.value a.rest n a.goes)
