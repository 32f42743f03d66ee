-- The words of an entry's line that are one of a few: what is read of each, and which word was read.
use Rattle.std.proofs.Common.{◌≡◌, ℕ, Bool, true, false, cond, List, codes, Option, Some, None, refl, ap, ◌∙◌}
use Rattle.std.specs.Option.{option_or}
use Rattle.std.specs.Str.{bytes_eq}
use Rattle.std.proofs.lemmas.Bool.{cond_both}
use Rattle.std.proofs.lemmas.Slice.Eq.{bytes_eq-Decides}
use Rattle.link_frames.specs.declared.frame.Answer.{Answer}
use Rattle.link_frames.specs.declared.frame.Answer.TheVariants as answer
use Rattle.link_frames.specs.declared.frame.End.{End}
use Rattle.link_frames.specs.declared.frame.End.TheVariants as «end»
use Rattle.link_frames.specs.declared.note.Timer.{Timer}
use Rattle.link_frames.specs.declared.note.Timer.TheVariants as timer
use Rattle.link_frames.specs.declared.note.Why.{Why}
use Rattle.link_frames.specs.declared.note.Why.TheVariants as why
use Rattle.trace_text.specs.Choices.{direction, end_of}
use Rattle.trace_text.specs.EntryChoices.{answer_of, call_item, dial_item, first_timer, item_of, kind_of, last_timer, leg_item, other_item, rest_item, timer_of, vehicle_item, voice_of, why_of}
use Rattle.trace_text.specs.EntryLine.{answer_word, end_word, net_word, timer_word, voice_word, why_word}
use Rattle.trace_text.specs.declared.entries.kinds.FrameKind.{FrameKind}
use Rattle.trace_text.specs.declared.entries.kinds.FrameKind.TheVariants as kind
use Rattle.trace_text.specs.declared.entries.kinds.Item.{Item}
use Rattle.trace_text.specs.declared.entries.kinds.Item.TheVariants as item
use Rattle.trace_text.proofs.EntryWords.{IsWord}

abbrev pub item_word : Item → List ℕ
item_word item.Dial = codes "dial"
item_word item.Failed = codes "failed"
item_word item.GaveUp = codes "gaveup"
item_word item.Seeking = codes "seeking"
item_word item.Arming = codes "arming"
item_word item.Cancelled = codes "cancelled"
item_word item.Standby = codes "standby"
item_word item.Idle = codes "idle"
item_word item.Nothing = codes "nothing"
item_word item.Net = codes "net"
item_word item.Up = codes "up"
item_word item.Down = codes "down"
item_word item.Voice = codes "voice"
item_word item.Send = codes "send"
item_word item.Shown = codes "shown"
item_word item.Acked = codes "acked"
item_word item.Ended = codes "ended"
item_word item.Fault = codes "fault"
item_word item.Busy = codes "busy"
item_word item.Spent = codes "spent"
item_word item.Unshown = codes "unshown"
item_word item.Restart = codes "restart"

abbrev pub kind_word : FrameKind → List ℕ
kind_word kind.Init = codes "init"
kind_word kind.Start = codes "start"
kind_word kind.Data = codes "data"
kind_word kind.Nack = codes "nack"
kind_word kind.Ack = codes "ack"
kind_word kind.App = codes "app"

-- ---- one choice

-- a choice was read of its name
pub record Names {A : Type 0} (name : A → List ℕ) (text : List ℕ) (read : Option A) : Type 0 where
  pub back : (v : A) → read ≡ Some v → text ≡ name v

names-none : {A : Type 0} (name : A → List ℕ) (text : List ℕ) → Names name text None
names-none name text = record { back = λ v e. let never : ⊥ = cc in absurd never }

names-choice : {A : Type 0} (name : A → List ℕ) (text word : List ℕ) (a : A) (rest : Option A) → word ≡ name a → Names name text rest
    → Names name text (cond (bytes_eq text word) (Some a) rest)
names-choice name text word a rest is more = record {
  back = λ v e. cond_both (bytes_eq text word) (Some a) rest (λ r. r ≡ Some v → text ≡ name v)
      (λ yes same. let first : a ≡ v = cc in (bytes_eq-Decides text word).0 yes ∙ is ∙ ap name first) (λ _ same. more.back v same) e;
}

names-or : {A : Type 0} (name : A → List ℕ) (text : List ℕ) (a b : Option A) → Names name text a → Names name text b
    → Names name text (option_or a b)
names-or name text None b first second = second
names-or name text (Some v) b first second = first

pub end-back : (text : List ℕ) → Names end_word text (end_of text)
end-back text =
    names-choice end_word text (codes "vehicle") «end».Vehicle _ refl
    (names-choice end_word text (codes "point") «end».Point _ refl
    (names-none end_word text))

pub why-back : (text : List ℕ) → Names why_word text (why_of text)
why-back text =
    names-choice why_word text (codes "release") why.Release _ refl
    (names-choice why_word text (codes "hangup") why.Hangup _ refl
    (names-choice why_word text (codes "lost") why.Lost _ refl
    (names-none why_word text)))

pub voice-back : (text : List ℕ) → Names voice_word text (voice_of text)
voice-back text =
    names-choice voice_word text (codes "open") true _ refl
    (names-choice voice_word text (codes "muted") false _ refl
    (names-none voice_word text))

pub net-back : (text : List ℕ) → Names net_word text (direction text)
net-back text =
    names-choice net_word text (codes "up") true _ refl
    (names-choice net_word text (codes "down") false _ refl
    (names-none net_word text))

pub answer-back : (text : List ℕ) → Names answer_word text (answer_of text)
answer-back text =
    names-choice answer_word text (codes "positive") answer.Positive _ refl
    (names-choice answer_word text (codes "clear") answer.Clear _ refl
    (names-none answer_word text))

first_timer-back : (text : List ℕ) → Names timer_word text (first_timer text)
first_timer-back text =
    names-choice timer_word text (codes "T1") timer.T1 _ refl
    (names-choice timer_word text (codes "T2") timer.T2 _ refl
    (names-choice timer_word text (codes "T3") timer.T3 _ refl
    (names-choice timer_word text (codes "T4") timer.T4 _ refl
    (names-choice timer_word text (codes "T5") timer.T5 _ refl
    (names-choice timer_word text (codes "T6") timer.T6 _ refl
    (names-none timer_word text))))))

last_timer-back : (text : List ℕ) → Names timer_word text (last_timer text)
last_timer-back text =
    names-choice timer_word text (codes "T7") timer.T7 _ refl
    (names-choice timer_word text (codes "T8") timer.T8 _ refl
    (names-choice timer_word text (codes "T10") timer.T10 _ refl
    (names-choice timer_word text (codes "TD") timer.TD _ refl
    (names-choice timer_word text (codes "TW") timer.TW _ refl
    (names-choice timer_word text (codes "sum") timer.Sum _ refl
    (names-none timer_word text))))))

pub timer-back : (text : List ℕ) → Names timer_word text (timer_of text)
timer-back text = names-or timer_word text (first_timer text) (last_timer text) (first_timer-back text) (last_timer-back text)

pub kind-back : (text : List ℕ) → Names kind_word text (kind_of text)
kind-back text =
    names-choice kind_word text (codes "data") kind.Data _ refl
    (names-choice kind_word text (codes "init") kind.Init _ refl
    (names-choice kind_word text (codes "start") kind.Start _ refl
    (names-choice kind_word text (codes "nack") kind.Nack _ refl
    (names-choice kind_word text (codes "ack") kind.Ack _ refl
    (names-choice kind_word text (codes "app") kind.App _ refl
    (names-none kind_word text))))))

leg_item-back : (text : List ℕ) → Names item_word text (leg_item text)
leg_item-back text =
    names-choice item_word text (codes "send") item.Send _ refl
    (names-choice item_word text (codes "ended") item.Ended _ refl
    (names-choice item_word text (codes "voice") item.Voice _ refl
    (names-choice item_word text (codes "up") item.Up _ refl
    (names-choice item_word text (codes "down") item.Down _ refl
    (names-choice item_word text (codes "fault") item.Fault _ refl
    (names-none item_word text))))))

call_item-back : (text : List ℕ) → Names item_word text (call_item text)
call_item-back text =
    names-choice item_word text (codes "shown") item.Shown _ refl
    (names-choice item_word text (codes "acked") item.Acked _ refl
    (names-choice item_word text (codes "busy") item.Busy _ refl
    (names-choice item_word text (codes "spent") item.Spent _ refl
    (names-choice item_word text (codes "unshown") item.Unshown _ refl
    (names-none item_word text)))))

dial_item-back : (text : List ℕ) → Names item_word text (dial_item text)
dial_item-back text =
    names-choice item_word text (codes "dial") item.Dial _ refl
    (names-choice item_word text (codes "failed") item.Failed _ refl
    (names-choice item_word text (codes "net") item.Net _ refl
    (names-choice item_word text (codes "gaveup") item.GaveUp _ refl
    (names-choice item_word text (codes "seeking") item.Seeking _ refl
    (names-none item_word text)))))

rest_item-back : (text : List ℕ) → Names item_word text (rest_item text)
rest_item-back text =
    names-choice item_word text (codes "arming") item.Arming _ refl
    (names-choice item_word text (codes "cancelled") item.Cancelled _ refl
    (names-choice item_word text (codes "standby") item.Standby _ refl
    (names-choice item_word text (codes "idle") item.Idle _ refl
    (names-choice item_word text (codes "nothing") item.Nothing _ refl
    (names-choice item_word text (codes "restart") item.Restart _ refl
    (names-none item_word text))))))

pub item-back : (text : List ℕ) → Names item_word text (item_of text)
unfolding item_of
item-back text =
    names-or item_word text (leg_item text) (other_item text) (leg_item-back text)
    (names-or item_word text (call_item text) (vehicle_item text) (call_item-back text)
    (names-or item_word text (dial_item text) (rest_item text) (dial_item-back text) (rest_item-back text)))

-- ---- what is read of each name, and that it is a word

pub end-read : (v : End) → (end_of (end_word v) ≡ Some v) × IsWord (end_word v)
end-read «end».Vehicle = (refl, refl)
end-read «end».Point = (refl, refl)

pub why-read : (v : Why) → (why_of (why_word v) ≡ Some v) × IsWord (why_word v)
why-read why.Release = (refl, refl)
why-read why.Hangup = (refl, refl)
why-read why.Lost = (refl, refl)

pub voice-read : (v : Bool) → (voice_of (voice_word v) ≡ Some v) × IsWord (voice_word v)
voice-read true = (refl, refl)
voice-read false = (refl, refl)

pub net-read : (v : Bool) → (direction (net_word v) ≡ Some v) × IsWord (net_word v)
net-read true = (refl, refl)
net-read false = (refl, refl)

pub answer-read : (v : Answer) → (answer_of (answer_word v) ≡ Some v) × IsWord (answer_word v)
answer-read answer.Positive = (refl, refl)
answer-read answer.Clear = (refl, refl)

pub timer-read : (v : Timer) → (timer_of (timer_word v) ≡ Some v) × IsWord (timer_word v)
timer-read timer.T1 = (refl, refl)
timer-read timer.T2 = (refl, refl)
timer-read timer.T3 = (refl, refl)
timer-read timer.T4 = (refl, refl)
timer-read timer.T5 = (refl, refl)
timer-read timer.T6 = (refl, refl)
timer-read timer.T7 = (refl, refl)
timer-read timer.T8 = (refl, refl)
timer-read timer.T10 = (refl, refl)
timer-read timer.TD = (refl, refl)
timer-read timer.TW = (refl, refl)
timer-read timer.Sum = (refl, refl)

pub kind-read : (v : FrameKind) → (kind_of (kind_word v) ≡ Some v) × IsWord (kind_word v)
kind-read kind.Data = (refl, refl)
kind-read kind.Init = (refl, refl)
kind-read kind.Start = (refl, refl)
kind-read kind.Nack = (refl, refl)
kind-read kind.Ack = (refl, refl)
kind-read kind.App = (refl, refl)

pub item-read : (v : Item) → (item_of (item_word v) ≡ Some v) × IsWord (item_word v)
unfolding item_of
item-read item.Send = (refl, refl)
item-read item.Ended = (refl, refl)
item-read item.Voice = (refl, refl)
item-read item.Up = (refl, refl)
item-read item.Down = (refl, refl)
item-read item.Fault = (refl, refl)
item-read item.Shown = (refl, refl)
item-read item.Acked = (refl, refl)
item-read item.Busy = (refl, refl)
item-read item.Spent = (refl, refl)
item-read item.Unshown = (refl, refl)
item-read item.Dial = (refl, refl)
item-read item.Failed = (refl, refl)
item-read item.Net = (refl, refl)
item-read item.GaveUp = (refl, refl)
item-read item.Seeking = (refl, refl)
item-read item.Arming = (refl, refl)
item-read item.Cancelled = (refl, refl)
item-read item.Standby = (refl, refl)
item-read item.Idle = (refl, refl)
item-read item.Nothing = (refl, refl)
item-read item.Restart = (refl, refl)
