-- The vehicle's end in front of the first event line of its script.
use Rattle.std.specs.Prelude.{◌≡◌, ℕ, ◌+◌, ◌≤◌, true, false, List, [], ◌∷◌, ◌++◌, length, codes, Option, Some, None, Result, Ok, Err}
use Rattle.std.specs.List.{AllByRecursion}
use Rattle.std.proofs.Common.{refl, sym, ap, ◌∙◌, arith, append_assoc, length-append}
use Rattle.std.proofs.lemmas.List.{append-nil}
use Rattle.call_io.proofs.BytesLemmas.{Grew-nothing, Took-nothing}
use Rattle.line_input.specs.Lines.{IsPassedOver, line_fault}
use Rattle.line_input.specs.Reading.{Reading, ReadsLine}
use Rattle.line_input.specs.Taken.{LinesSoFar}
use Rattle.line_input.specs.Words.{words}
use Rattle.line_input.specs.declared.fault.LineFault.TheVariants as fault
use Rattle.line_input.specs.declared.reason.BadLine.{BadLine}
use Rattle.line_input.specs.declared.reason.Reason.{Reason}
use Rattle.line_input.specs.declared.reason.Reason.TheVariants as reason
use Rattle.line_input.proofs.LinesSoFar.{bad_stops, ended_lines, ended_whole, found_lines, found_stops, taken_input, taken_took}
use Rattle.link_frames.specs.declared.frame.End.TheVariants as «end»
use Rattle.link_parts.specs.Messages.{script_end}
use Rattle.link_parts.specs.Rounds.{rounds_of}
use Rattle.msd_fit.specs.declared.facts.Facts.{Facts}
use Rattle.trace_model.specs.declared.event.Event.{Event}
use Rattle.trace_text.specs.Facts.{facts_in, is_one_too_many}
use Rattle.trace_text.specs.Script.{in_front, placed, said_after}
use Rattle.trace_text.specs.declared.draft.Draft.{Draft}
use Rattle.trace_text.specs.declared.fact_line.FactLine.{FactLine}
use Rattle.trace_text.specs.declared.script.ScriptLine.{ScriptLine}
use Rattle.trace_text.specs.declared.script.ScriptLine.TheVariants as line
use Rattle.live_link.specs.LiveOutcome.{LiveOutcome, LiveStreams, Over, WantsLine}
use Rattle.live_link.specs.Runs.{Run, at_script_end}
use Rattle.live_link.specs.Scripts.{judged, line_by_words, placed_line, script_from, vehicle_run}
use Rattle.live_link.specs.declared.answer.LiveStatus.{LiveStatus}
use Rattle.live_link.specs.declared.answer.LiveStatus.TheVariants as status
use Rattle.live_link.specs.declared.vehicle_front.Front.{Front}
use Rattle.live_link.specs.declared.vehicle_front.Front.TheVariants as front
use Rattle.live_link.specs.inner.Brought.{CutOff, Standing, no_last}
use Rattle.live_link.specs.inner.FrontGoes.{FrontEnded, FrontStep, IsStill, TakesInFront, run_of_script, told_facts}
use Rattle.live_link.specs.inner.ScriptGoes.{ReadsNext}
use Rattle.live_link.proofs.OwnScript.{judged_fault, judged_line, judged_unknown, script_behind, script_none, script_refused, script_says}
use Rattle.live_link.proofs.RoundLemmas.{cut_of}
use Rattle.live_link.proofs.ScriptEnds.{read_fails, reads_over, short_of, stops_known}

-- where there are no events, facts decide nothing
no_events : (known : Option Facts) (facts : Option Facts) (octets : List ℕ) (refused : Option BadLine)
    → vehicle_run known (record { facts = facts; events = []; refused = refused }) (rounds_of «end».Vehicle octets)
    ≡ at_script_end 0 (script_end ∷ []) refused
no_events None facts octets refused = refl
no_events (Some k) facts octets refused = refl

-- In front of the first event line, before the script is read again.
module _ (over : Over) (start now : LiveStreams) (before : Option (List ℕ)) (old new : Reading)
    (lines : List (List ℕ)) (told : List FactLine) (s : LinesSoFar start.script before old lines)
    (still : IsStill start now)
    (same : (more : List (List ℕ)) (octets : List ℕ)
    → over (lines ++ more) octets ≡ run_of_script (script_from «end».Vehicle (told_facts told) (length lines + 1) more) octets)
  where
    abbrev left : ℕ → Over
    left place more octets = run_of_script (script_from «end».Vehicle (told_facts told) (length lines + 1) more) octets

    abbrev standing : Standing over start now lines left
    standing =
        record {
          octets = [];
          pending = [];
          turns = [];
          sent = [];
          took = rw still.from (Took-nothing start.from);
          within = omega arith;
          traced = rw still.trace (Grew-nothing start.trace);
          wrote = rw still.to (Grew-nothing start.to);
          same = same;
          counted = λ more octets. let kept = still.passes in omega (arith, kept);
        }

    abbrev number : List (List ℕ) → ℕ
    number passed = length lines + 1 + length passed

    abbrev refusal : BadLine → Run
    refusal bad = at_script_end 0 (script_end ∷ []) (Some bad)

    stops_at : (passed : List (List ℕ)) → AllByRecursion IsPassedOver passed → (text : List ℕ) (why : Reason)
        → judged «end».Vehicle (told_facts told) text ≡ Err why → (texts : List (List ℕ)) (others : List ℕ)
        → left 0 (passed ++ text ∷ texts) others ≡ refusal (record { line = number passed; reason = why })
    stops_at passed each text why bad texts others =
        ap (λ z. run_of_script z others)
        (script_behind «end».Vehicle (told_facts told) passed each (length lines + 1) (text ∷ texts)
        ∙ script_refused «end».Vehicle (told_facts told) (number passed) text texts why bad)
        ∙ no_events (facts_in told) (facts_in told) others (Some (record { line = number passed; reason = why }))

    few : (bad : BadLine) → now.passes ≤ start.passes + (refusal bad).rounds + 1
    few bad = let kept = still.passes in omega (arith, kept)

    refused_bad : (bad : BadLine) → ReadsLine old new before now.script (Err (fault.Bad bad))
        → LiveOutcome no_last over start now (status.Refused bad)
    refused_bad bad reads =
        stops_known over start now lines reads.finds.passed left standing new.feed bad.line
        (λ text. line_fault text ≡ Some bad.reason)
        (bad_stops start.script before now.script old new lines s bad reads) (refusal bad)
        (record { turns = refl; octets = refl }) (few bad)
        (λ text texts others this.
        stops_at reads.finds.passed reads.finds.each text bad.reason (judged_fault «end».Vehicle (told_facts told) text bad.reason this)
        texts others
        ∙ ap (λ n. refusal (record { line = n; reason = bad.reason })) (place reads))
      where
        place : (reads : ReadsLine old new before now.script (Err (fault.Bad bad))) → number reads.finds.passed ≡ bad.line
        place reads = omega (arith, s.number, reads.finds.number)

    -- a line that may not stand here was read
    pub refused_here : (bad : BadLine) → (reads : ReadsLine old new before now.script (Ok true)) → bad.line ≡ new.lines
        → placed_line «end».Vehicle (told_facts told) (line_by_words «end».Vehicle (words new.text)) ≡ Err bad.reason
        → LiveOutcome no_last over start now (status.Refused bad)
    refused_here bad reads line why =
        stops_known over start now lines reads.finds.0.passed left standing new.feed bad.line
        (λ text. text ≡ new.text)
        (rw line (found_stops start.script before now.script old new lines s reads)) (refusal bad)
        (record { turns = refl; octets = refl }) (few bad)
        (λ text texts others this.
        stops_at reads.finds.0.passed reads.finds.0.each text bad.reason
        (ap (λ z. judged «end».Vehicle (told_facts told) z) this
        ∙ judged_line «end».Vehicle (told_facts told) new.text reads.finds.0.says ∙ why) texts others
        ∙ ap (λ n. refusal (record { line = n; reason = bad.reason })) (place reads))
      where
        place : (reads : ReadsLine old new before now.script (Ok true)) → number reads.finds.0.passed ≡ bad.line
        place reads = omega (arith, s.number, reads.finds.0.last, line)

    wants : (passed : List (List ℕ)) → AllByRecursion IsPassedOver passed → (octets : List ℕ)
        → WantsLine over octets (lines ++ passed)
    wants passed each octets = (
      record { line = number passed; reason = reason.Word },
      ap (λ z. z.ending)
          (ap (λ z. over z octets) (append_assoc lines passed (codes "$" ∷ []))
          ∙ same (passed ++ codes "$" ∷ []) octets
          ∙ stops_at passed each (codes "$") reason.Word (judged_unknown «end».Vehicle (told_facts told)) [] octets),
    )

    abbrev cut : CutOff over start now lines
    cut = cut_of over start now lines left standing

    -- no line was read
    pub no_line : (how : LiveStatus) → ReadsNext old new before now.script (Err how)
        → LiveOutcome no_last over start now how
    no_line (status.Refused bad) reads = refused_bad bad reads
    no_line status.ReadFault reads = read_fails over start now before old new lines s cut reads
    no_line status.TooLong reads =
        reads_over over start now before old new lines s cut reads (wants reads.finds.passed reads.finds.each [])
    no_line status.WriteFault kept = at_once kept.1
      where
        at_once : now.script ≡ before → LiveOutcome no_last over start now status.WriteFault
        at_once left =
            let t : LinesSoFar start.script now.script old lines = rw left s in
            (_, cut.octets, short_of over start now old lines t cut)
    no_line status.Done h = absurd h
    no_line status.Memory h = absurd h
    no_line status.PeerEnded h = absurd h
    no_line status.LinkCut h = absurd h
    no_line (status.LinkFault f) h = absurd h
    no_line status.NoLink h = absurd h

    -- the script has no event line
    pub front_ends : ReadsLine old new before now.script (Ok false) → FrontEnded over start now
    front_ends reads =
        record {
          script = taken_input start.script before now.script old new lines s reads.taken;
          took = taken_took start.script before now.script old new lines s reads.taken reads.draws;
          whole = ended_whole start.script before now.script old new lines s reads;
          still = still;
          same = λ octets.
              ap (λ z. over z octets) (ended_lines start.script before now.script old new lines s reads)
              ∙ same reads.finds.0.passed octets
              ∙ ap (λ z. run_of_script z octets) (behind_all reads)
              ∙ no_events (facts_in told) (facts_in told) octets None;
        }
      where
        behind_all : (reads : ReadsLine old new before now.script (Ok false))
            → script_from «end».Vehicle (told_facts told) (length lines + 1) reads.finds.0.passed
            ≡ record { facts = facts_in told; events = []; refused = None }
        behind_all reads =
            ap (λ z. script_from «end».Vehicle (told_facts told) (length lines + 1) z) (sym (append-nil reads.finds.0.passed))
            ∙ script_behind «end».Vehicle (told_facts told) reads.finds.0.passed reads.finds.0.each (length lines + 1) []
            ∙ script_none «end».Vehicle (told_facts told) (number reads.finds.0.passed)

    -- a line was read
    module _ (reads : ReadsLine old new before now.script (Ok true)) where
      abbrev passed : List (List ℕ)
      passed = reads.finds.0.passed

      abbrev all : List (List ℕ)
      all = (lines ++ passed) ++ new.text ∷ []

      so_far : LinesSoFar start.script now.script new all
      so_far = found_lines start.script before now.script old new lines s reads

      behind : (says : ScriptLine) → judged «end».Vehicle (told_facts told) new.text ≡ Ok (Some says)
          → (more : List (List ℕ)) (octets : List ℕ)
          → over (all ++ more) octets
          ≡ run_of_script (in_front says (script_from «end».Vehicle (said_after (told_facts told) says) (length all + 1) more)) octets
      behind says judge more octets =
          ap (λ z. over z octets)
          (append_assoc (lines ++ passed) (new.text ∷ []) more ∙ append_assoc lines passed (new.text ∷ more))
          ∙ same (passed ++ new.text ∷ more) octets
          ∙ ap (λ z. run_of_script z octets)
          (script_behind «end».Vehicle (told_facts told) passed reads.finds.0.each (length lines + 1) (new.text ∷ more)
          ∙ script_says «end».Vehicle (told_facts told) (number passed) new.text more says judge
          ∙ ap (λ n. in_front says (script_from «end».Vehicle (said_after (told_facts told) says) n more))
          (simp length-append (omega arith)))

      -- and says this
      module _ (says : ScriptLine) (is : line_by_words «end».Vehicle (words new.text) ≡ Ok says) where
        here : judged «end».Vehicle (told_facts told) new.text ≡ placed (told_facts told) says
        here =
            judged_line «end».Vehicle (told_facts told) new.text reads.finds.0.says
            ∙ ap (λ z. placed_line «end».Vehicle (told_facts told) z) is

        a_fact : (fact : FactLine) → says ≡ line.Fact fact → is_one_too_many told fact ≡ false
            → placed (told_facts told) says ≡ Ok (Some (line.Fact fact))
        a_fact fact this room = rw (this, room) refl

        an_event : (event : Event) (facts : Facts) → says ≡ line.Event event → facts_in told ≡ Some facts
            → placed (told_facts told) says ≡ Ok (Some (line.Event event))
        an_event event facts this known = rw (this, known) refl

        pub front_takes : (draft : Draft) (answer : Result (Option Front) LiveStatus)
            → TakesInFront told draft says new.lines answer → FrontStep over start now new draft answer
        front_takes draft (Ok None) h =
            record {
              lines = all;
              told = told ++ h.0 ∷ [];
              so_far = so_far;
              drafted = h.3;
              still = still;
              same = behind (line.Fact h.0) (here ∙ a_fact h.0 h.1 h.2);
            }
        front_takes draft (Ok (Some (front.First facts event))) h =
            record {
              lines = all;
              said = said_after (told_facts told) (line.Event event);
              so_far = so_far;
              known = h.1;
              eventful = refl;
              still = still;
              same = behind (line.Event event) (here ∙ an_event event facts h.0 h.1);
            }
        front_takes draft (Ok (Some front.End)) h = absurd h
        front_takes draft (Err (status.Refused bad)) h =
            refused_here bad reads h.0 (ap (λ z. placed_line «end».Vehicle (told_facts told) z) is ∙ h.1)
        front_takes draft (Err status.Done) h = absurd h
        front_takes draft (Err status.ReadFault) h = absurd h
        front_takes draft (Err status.WriteFault) h = absurd h
        front_takes draft (Err status.Memory) h = absurd h
        front_takes draft (Err status.TooLong) h = absurd h
        front_takes draft (Err status.PeerEnded) h = absurd h
        front_takes draft (Err status.LinkCut) h = absurd h
        front_takes draft (Err (status.LinkFault f)) h = absurd h
        front_takes draft (Err status.NoLink) h = absurd h
