use Rattle.std.proofs.Common.{◌≡◌, ◌++◌, ◌∷◌, [], refl, ap, sym, ◌∙◌, IsTrue}
use Rattle.link_frames.specs.declared.frame.End.TheVariants as «end»
use Rattle.link_frames.specs.declared.frame.Frame.TheVariants as frame
use Rattle.link_frames.specs.declared.note.Note.TheVariants as note
use Rattle.psap_machine.specs.Point.{Point, Asking}
use Rattle.psap_machine.specs.PointRows.{with_shown}
use Rattle.psap_machine.specs.SessionStands.{SessionStandsFor}
use Rattle.psap_machine.proofs.Content.{shown_aside, asking_kept}
use Rattle.psap_machine.proofs.session.Session.shows.Goals as goal

pub returns-else-asks_for : goal.returns-else-asks_for
returns-else-asks_for c =
    let aside : (s : Point) → SessionStandsFor c.args.self.now s → s.phase ≡ Asking c.args.request → ⊥ = λ s h e.
    let asks : IsTrue c.asks_for.result =
    c.asks_for.ensures.1 (asking_kept c.args.self.now.phase c.args.request (sym h.is.phase ∙ e)) in
    cc in
    record {
      gives = λ s h.
          rw (shown_aside c.args.request (with_shown c.args.request c.args.octets.now s) s.phase (aside s h))
          (let call : s.call ≡ c.args.self.now.call = h.is.call in
          let told : c.acknowledges.new.items.items ≡ note.Shown c.args.self.now.call c.args.request c.args.octets.now ∷ note.Send «end».Point c.args.self.now.call (frame.Ack c.args.request) ∷ [] =
          c.acknowledges.ensures ∙ ap (λ z. z ++ note.Send «end».Point c.args.self.now.call (frame.Ack c.args.request) ∷ []) (c.put.ensures ∙ ap (λ z. z ++ note.Shown c.args.self.now.call c.args.request c.args.octets.now ∷ []) c.requires.none) in
          cc);
      stands = λ s h.
          rw (shown_aside c.args.request (with_shown c.args.request c.args.octets.now s) s.phase (aside s h))
          record {
            call = h.is.call;
            phase = h.is.phase;
            asked = h.is.asked;
            shown = c.add.ensures _ h.is.shown;
            last = refl;
            ticks = h.is.ticks;
            voice = h.is.voice;
          };
    }
