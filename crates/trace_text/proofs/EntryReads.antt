-- The words of a line that were read say what they stand for, and the words of an entry are read.
use Rattle.std.proofs.Common.{◌≡◌, ℕ, ◌<◌, ◌≤◌, ◌^◌, List, [], ◌∷◌, codes, decimal, Option, Some, None, Result, Ok, Err, refl, sym, ap, subst, ◌∙◌, arith}
use Rattle.hex.specs.Hex.{encode_lower}
use Rattle.link_frames.specs.declared.frame.End.{End}
use Rattle.link_frames.specs.declared.frame.Frame.{Frame}
use Rattle.link_frames.specs.declared.frame.Frame.TheVariants as frame
use Rattle.link_frames.specs.declared.note.Note.{Note}
use Rattle.trace_text.specs.Choices.{end_of}
use Rattle.trace_text.specs.EntryChoices.{answer_of, kind_of}
use Rattle.trace_text.specs.EntryLine.{answer_word, end_word, frame_words, note_words, spaced}
use Rattle.trace_text.specs.EntryLines.{IsCall, IsDial, IsFrame, IsNote, IsRequest, IsSet, Taken, taken, judged, followed, made, last, next_answer, next_attempt, next_call, next_dial, next_end, next_kind, next_leg, next_octets, next_request, next_set, next_tick, only_call, only_dial, only_leg, only_request, frame_of, frame_by_words, leg_note}
use Rattle.line_input.specs.Numbers.{natural_below, positive_below}
use Rattle.trace_text.specs.declared.entries.kinds.FrameKind.{FrameKind}
use Rattle.trace_text.specs.declared.entries.kinds.FrameKind.TheVariants as kind
use Rattle.line_input.specs.declared.reason.Reason.{Reason}
use Rattle.trace_text.proofs.EntryChoicesBack.{Names, answer-back, end-back, kind-back, kind_word}
use Rattle.trace_text.proofs.EntryNumbers.{natural_below-back, positive_below-back}
use Rattle.trace_text.proofs.EntryOctets.{set_octets-back}

-- ---- the steps, undone

-- a word was there, and says this
pub record Took {A : Type 0} (judge : List ℕ → Option A) (words : List (List ℕ)) (value : A) (rest : List (List ℕ)) : Type 0 where
  pub word : List ℕ
  pub is : words ≡ word ∷ rest
  pub says : judge word ≡ Some value

ok-same : {X : Type 0} (x y : X) → ◌≡◌ {A = Result X Reason} (Ok x) (Ok y) → x ≡ y
ok-same x y e = cc

judged-back : {A : Type 0} (why : Reason) (judge : List ℕ → Option A) (word : List ℕ) (ws : List (List ℕ)) (o : Option A) (v : A) (rest : List (List ℕ))
    → judge word ≡ o → judged why o ws ≡ Ok (v, rest) → Took judge (word ∷ ws) v rest
judged-back {A = A} why judge word ws (Some x) v rest is e =
    let both : (x, ws) ≡ (v, rest) = ok-same _ _ e in
    let value : x ≡ v = ap (λ (p : A × List (List ℕ)). p.0) both in
    let left : ws ≡ rest = ap (λ (p : A × List (List ℕ)). p.1) both in
    record { word = word; is = ap (λ (l : List (List ℕ)). word ∷ l) left; says = is ∙ ap Some value }
judged-back why judge word ws None v rest is e = let never : ⊥ = cc in absurd never

taken-back : {A : Type 0} (why : Reason) (judge : List ℕ → Option A) (ws : List (List ℕ)) (v : A) (rest : List (List ℕ))
    → taken why judge ws ≡ Ok (v, rest) → Took judge ws v rest
taken-back why judge [] v rest e = let never : ⊥ = cc in absurd never
taken-back why judge (w ∷ ws) v rest e = judged-back why judge w ws (judge w) v rest refl e

-- what was said, and what followed
pub record Went {A B : Type 0} (said : Taken A) (more : A → List (List ℕ) → Result B Reason) (answer : B) : Type 0 where
  pub value : A
  pub rest : List (List ℕ)
  pub says : said ≡ Ok (value, rest)
  pub goes : more value rest ≡ Ok answer

pub followed-back : {A B : Type 0} (said : Taken A) (more : A → List (List ℕ) → Result B Reason) (b : B) → followed said more ≡ Ok b → Went said more b
followed-back (Ok found) more b e = record { value = found.0; rest = found.1; says = refl; goes = e }
followed-back (Err why) more b e = let never : ⊥ = cc in absurd never

pub made-back : {A B : Type 0} (make : A → B) (r : Result A Reason) (b : B) → made make r ≡ Ok b → (a : A) × (r ≡ Ok a) × (make a ≡ b)
made-back make (Ok a) b e = let same : make a ≡ b = cc in (a, refl, same)
made-back make (Err why) b e = let never : ⊥ = cc in absurd never

pub last-back : {A : Type 0} (value : A) (ws : List (List ℕ)) (b : A) → last value ws ≡ Ok b → (ws ≡ []) × (value ≡ b)
last-back value [] b e = let same : value ≡ b = cc in (refl, same)
last-back value (w ∷ ws) b e = let never : ⊥ = cc in absurd never

-- ---- the kinds of words

pub choice-next : {A : Type 0} (why : Reason) (name : A → List ℕ) (judge : List ℕ → Option A) → ((text : List ℕ) → Names name text (judge text))
    → (ws : List (List ℕ)) (v : A) (rest : List (List ℕ)) → taken why judge ws ≡ Ok (v, rest) → ws ≡ name v ∷ rest
choice-next why name judge names ws v rest e =
    let t = taken-back why judge ws v rest e in t.is ∙ ap (λ (w : List ℕ). w ∷ rest) ((names t.word).back v t.says)

pub natural-next : (why : Reason) (limit : ℕ) → limit ≤ 2 ^ 64 → (ws : List (List ℕ)) (v : ℕ) (rest : List (List ℕ))
    → taken why (natural_below limit) ws ≡ Ok (v, rest) → (ws ≡ decimal v ∷ rest) × (v < limit)
natural-next why limit most ws v rest e =
    let t = taken-back why (natural_below limit) ws v rest e in
    let n = natural_below-back limit t.word v most t.says in
    (t.is ∙ ap (λ (w : List ℕ). w ∷ rest) n.0, n.1)

positive-next : (why : Reason) (limit : ℕ) → limit ≤ 2 ^ 64 → (ws : List (List ℕ)) (v : ℕ) (rest : List (List ℕ))
    → taken why (positive_below limit) ws ≡ Ok (v, rest) → (ws ≡ decimal v ∷ rest) × (0 < v) × (v < limit)
positive-next why limit most ws v rest e =
    let t = taken-back why (positive_below limit) ws v rest e in
    let n = positive_below-back limit t.word v most t.says in
    (t.is ∙ ap (λ (w : List ℕ). w ∷ rest) n.0, n.1, n.2)

pub tick-next : (ws : List (List ℕ)) (v : ℕ) (rest : List (List ℕ)) → next_tick ws ≡ Ok (v, rest) → (ws ≡ decimal v ∷ rest) × (v < 2 ^ 64)
tick-next = natural-next _ (2 ^ 64) (omega arith)

call-next : (ws : List (List ℕ)) (v : ℕ) (rest : List (List ℕ)) → next_call ws ≡ Ok (v, rest) → (ws ≡ decimal v ∷ rest) × IsCall v
call-next = natural-next _ (2 ^ 32) (omega arith)

attempt-next : (ws : List (List ℕ)) (v : ℕ) (rest : List (List ℕ)) → next_attempt ws ≡ Ok (v, rest) → (ws ≡ decimal v ∷ rest) × (v < 256)
attempt-next = natural-next _ 256 (omega arith)

request-next : (ws : List (List ℕ)) (v : ℕ) (rest : List (List ℕ)) → next_request ws ≡ Ok (v, rest) → (ws ≡ decimal v ∷ rest) × IsRequest v
request-next ws v rest e = let n = positive-next _ 256 (omega arith) ws v rest e in (n.0, (n.1, n.2))

dial-next : (ws : List (List ℕ)) (v : ℕ) (rest : List (List ℕ)) → next_dial ws ≡ Ok (v, rest) → (ws ≡ decimal v ∷ rest) × IsDial v
dial-next ws v rest e = let n = positive-next _ 11 (omega arith) ws v rest e in (n.0, (n.1, omega (arith, n.2)))

octets-next : (ws : List (List ℕ)) (v : List ℕ) (rest : List (List ℕ)) → next_octets ws ≡ Ok (v, rest) → (ws ≡ encode_lower v ∷ rest) × IsSet v
octets-next ws v rest e =
    let t = taken-back _ _ ws v rest e in
    let o = set_octets-back t.word v t.says in
    (t.is ∙ ap (λ (w : List ℕ). w ∷ rest) o.0, o.1)

pub leg-next : (ws : List (List ℕ)) (leg : End × ℕ) (rest : List (List ℕ)) → next_leg ws ≡ Ok (leg, rest)
    → (ws ≡ end_word leg.0 ∷ decimal leg.1 ∷ rest) × IsCall leg.1
leg-next ws leg rest e =
    let a = followed-back (next_end ws) _ (leg, rest) e in
    let b = followed-back (next_call a.rest) _ (leg, rest) a.goes in
    let same : ((a.value, b.value), b.rest) ≡ (leg, rest) = ok-same _ _ b.goes in
    let p = choice-next _ end_word end_of end-back ws a.value a.rest a.says in
    let q = call-next a.rest b.value b.rest b.says in (
      p ∙ ap (λ (l : List (List ℕ)). end_word a.value ∷ l) q.0 ∙ ap (λ (x : (End × ℕ) × List (List ℕ)). end_word x.0.0 ∷ decimal x.0.1 ∷ x.1) same,
      subst (λ (x : (End × ℕ) × List (List ℕ)). IsCall x.0.1) same q.1,
    )

pub set-next : (ws : List (List ℕ)) (set : ℕ × ℕ × List ℕ) (rest : List (List ℕ)) → next_set ws ≡ Ok (set, rest)
    → (ws ≡ decimal set.0 ∷ decimal set.1 ∷ encode_lower set.2 ∷ rest) × (IsCall set.0 × IsRequest set.1 × IsSet set.2)
set-next ws set rest e =
    let a = followed-back (next_call ws) _ (set, rest) e in
    let b = followed-back (next_request a.rest) _ (set, rest) a.goes in
    let d = followed-back (next_octets b.rest) _ (set, rest) b.goes in
    let same : ((a.value, b.value, d.value), d.rest) ≡ (set, rest) = ok-same _ _ d.goes in
    let p = call-next ws a.value a.rest a.says in
    let q = request-next a.rest b.value b.rest b.says in
    let r = octets-next b.rest d.value d.rest d.says in (
      p.0
          ∙ ap (λ (l : List (List ℕ)). decimal a.value ∷ l) (q.0 ∙ ap (λ (l : List (List ℕ)). decimal b.value ∷ l) r.0)
          ∙ ap (λ (x : (ℕ × ℕ × List ℕ) × List (List ℕ)). decimal x.0.0 ∷ decimal x.0.1 ∷ encode_lower x.0.2 ∷ x.1) same,
      subst (λ (x : (ℕ × ℕ × List ℕ) × List (List ℕ)). IsCall x.0.0 × IsRequest x.0.1 × IsSet x.0.2) same (p.1, q.1, r.1),
    )

-- one value and nothing behind it
only-next : {A : Type 0} (next : List (List ℕ) → Taken A) (front : A → List (List ℕ) → List (List ℕ)) (P : A → Type 0)
    → ((ws : List (List ℕ)) (v : A) (rest : List (List ℕ)) → next ws ≡ Ok (v, rest) → (ws ≡ front v rest) × P v)
    → (ws : List (List ℕ)) (a : A) → followed (next ws) last ≡ Ok a → (ws ≡ front a []) × P a
only-next next front P back ws a e =
    let w = followed-back (next ws) last a e in
    let l = last-back w.value w.rest a w.goes in
    let p = back ws w.value w.rest w.says in
    (p.0 ∙ ap (front w.value) l.0 ∙ ap (λ v. front v []) l.1, subst P l.1 p.1)

-- ---- frames

pub record SaysFrame (ws : List (List ℕ)) (f : Frame) : Type 0 where
  pub line : ws ≡ frame_words f
  pub valid : IsFrame f

frame-same : (ws : List (List ℕ)) (m f : Frame) → ws ≡ frame_words m → IsFrame m → m ≡ f → SaysFrame ws f
frame-same ws m f is valid same = subst (SaysFrame ws) same (record { line = is; valid = valid })

request-frame : (word : List ℕ) (make : ℕ → Frame) → ((r : ℕ) → word ∷ decimal r ∷ [] ≡ frame_words (make r)) → ((r : ℕ) → IsRequest r → IsFrame (make r))
    → (ws : List (List ℕ)) (f : Frame) → made make (only_request ws) ≡ Ok f → SaysFrame (word ∷ ws) f
request-frame word make names valid ws f e =
    let m = made-back make (only_request ws) f e in
    let p = only-next next_request (λ v rest. decimal v ∷ rest) IsRequest request-next ws m.0 m.1 in
    frame-same (word ∷ ws) (make m.0) f (ap (λ (l : List (List ℕ)). word ∷ l) p.0 ∙ names m.0) (valid m.0 p.1) m.2

frame-back : (k : FrameKind) (ws : List (List ℕ)) (f : Frame) → frame_of k ws ≡ Ok f → SaysFrame (kind_word k ∷ ws) f
frame-back kind.Init ws f e =
    let l = last-back frame.Init ws f e in frame-same _ frame.Init f (ap (λ (l : List (List ℕ)). codes "init" ∷ l) l.0) tt l.1
frame-back kind.Start ws f e = request-frame (codes "start") frame.Start (λ r. refl) (λ r h. h) ws f e
frame-back kind.Data ws f e =
    let a = followed-back (next_request ws) _ f e in
    let b = followed-back (next_attempt a.rest) _ f a.goes in
    let d = followed-back (next_octets b.rest) _ f b.goes in
    let l = last-back (frame.Content a.value b.value d.value) d.rest f d.goes in
    let p = request-next ws a.value a.rest a.says in
    let q = attempt-next a.rest b.value b.rest b.says in
    let r = octets-next b.rest d.value d.rest d.says in
    frame-same _ (frame.Content a.value b.value d.value) f
    (ap (λ (l : List (List ℕ)). codes "data" ∷ l) (p.0 ∙ ap (λ (l : List (List ℕ)). decimal a.value ∷ l)
    (q.0 ∙ ap (λ (l : List (List ℕ)). decimal b.value ∷ l) (r.0 ∙ ap (λ (l : List (List ℕ)). encode_lower d.value ∷ l) l.0))))
    (p.1, q.1, r.1) l.1
frame-back kind.Nack ws f e = request-frame (codes "nack") frame.Nack (λ r. refl) (λ r h. h) ws f e
frame-back kind.Ack ws f e = request-frame (codes "ack") frame.Ack (λ r. refl) (λ r h. h) ws f e
frame-back kind.App ws f e =
    let a = followed-back (next_request ws) _ f e in
    let b = followed-back (next_answer a.rest) _ f a.goes in
    let l = last-back (frame.App a.value b.value) b.rest f b.goes in
    let p = request-next ws a.value a.rest a.says in
    let q = choice-next _ answer_word answer_of answer-back a.rest b.value b.rest b.says in
    frame-same _ (frame.App a.value b.value) f
    (ap (λ (l : List (List ℕ)). codes "app" ∷ l) (p.0 ∙ ap (λ (l : List (List ℕ)). decimal a.value ∷ l)
    (q ∙ ap (λ (l : List (List ℕ)). answer_word b.value ∷ l) l.0)))
    p.1 l.1

pub frames-back : (ws : List (List ℕ)) (f : Frame) → frame_by_words ws ≡ Ok f → SaysFrame ws f
frames-back ws f e =
    let a = followed-back (next_kind ws) frame_of f e in
    let k = choice-next _ kind_word kind_of kind-back ws a.value a.rest a.says in
    subst (λ (l : List (List ℕ)). SaysFrame l f) (sym k) (frame-back a.value a.rest f a.goes)

-- ---- items

-- words that are those of an item, each behind a space
pub record Says (ws : List (List ℕ)) (n : Note) : Type 0 where
  pub line : spaced ws ≡ spaced (note_words n)
  pub valid : IsNote n

pub note-same : (ws : List (List ℕ)) (m n : Note) → ws ≡ note_words m → IsNote m → m ≡ n → Says ws n
note-same ws m n is valid same = subst (Says ws) same (record { line = ap spaced is; valid = valid })

pub last-note : (word : List ℕ) (m : Note) → word ∷ [] ≡ note_words m → IsNote m → (ws : List (List ℕ)) (n : Note) → last m ws ≡ Ok n → Says (word ∷ ws) n
last-note word m names valid ws n e =
    let l = last-back m ws n e in note-same _ m n (ap (λ (l : List (List ℕ)). word ∷ l) l.0 ∙ names) valid l.1

pub dial-note : (word : List ℕ) (make : ℕ → Note) → ((v : ℕ) → word ∷ decimal v ∷ [] ≡ note_words (make v)) → ((v : ℕ) → IsDial v → IsNote (make v))
    → (ws : List (List ℕ)) (n : Note) → made make (only_dial ws) ≡ Ok n → Says (word ∷ ws) n
dial-note word make names valid ws n e =
    let m = made-back make (only_dial ws) n e in
    let p = only-next next_dial (λ v rest. decimal v ∷ rest) IsDial dial-next ws m.0 m.1 in
    note-same _ (make m.0) n (ap (λ (l : List (List ℕ)). word ∷ l) p.0 ∙ names m.0) (valid m.0 p.1) m.2

pub call-note : (word : List ℕ) (make : ℕ → Note) → ((v : ℕ) → word ∷ decimal v ∷ [] ≡ note_words (make v)) → ((v : ℕ) → IsCall v → IsNote (make v))
    → (ws : List (List ℕ)) (n : Note) → made make (only_call ws) ≡ Ok n → Says (word ∷ ws) n
call-note word make names valid ws n e =
    let m = made-back make (only_call ws) n e in
    let p = only-next next_call (λ v rest. decimal v ∷ rest) IsCall call-next ws m.0 m.1 in
    note-same _ (make m.0) n (ap (λ (l : List (List ℕ)). word ∷ l) p.0 ∙ names m.0) (valid m.0 p.1) m.2

pub leg-note : (word : List ℕ) (make : End → ℕ → Note) → ((e : End) (v : ℕ) → word ∷ end_word e ∷ decimal v ∷ [] ≡ note_words (make e v))
    → ((e : End) (v : ℕ) → IsCall v → IsNote (make e v)) → (ws : List (List ℕ)) (n : Note) → leg_note make ws ≡ Ok n → Says (word ∷ ws) n
leg-note word make names valid ws n e =
    let m = made-back (λ (leg : End × ℕ). make leg.0 leg.1) (only_leg ws) n e in
    let p = only-next next_leg (λ leg rest. end_word leg.0 ∷ decimal leg.1 ∷ rest) (λ leg. IsCall leg.1) leg-next ws m.0 m.1 in
    note-same _ (make m.0.0 m.0.1) n (ap (λ (l : List (List ℕ)). word ∷ l) p.0 ∙ names m.0.0 m.0.1) (valid m.0.0 m.0.1 p.1) m.2
