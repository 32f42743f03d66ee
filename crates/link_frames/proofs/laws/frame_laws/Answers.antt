-- The laws, from the lemmas on frames and on streams.
use Rattle.std.proofs.Common.{refl}
use Rattle.link_frames.proofs.FeedLemmas.{nothing_begins}
use Rattle.link_frames.proofs.FrameLemmas.{same_frame}
use Rattle.link_frames.proofs.NextLemmas.{some_reading}
use Rattle.link_frames.proofs.StreamLemmas as streams
use Rattle.link_frames.proofs.laws.frame_laws.Goals as goal

pub returns-clause-apart : goal.returns-clause-apart
returns-clause-apart c = same_frame

pub returns-clause-some_reading : goal.returns-clause-some_reading
returns-clause-some_reading c = some_reading

pub returns-clause-one_reading : goal.returns-clause-one_reading
returns-clause-one_reading c = streams.one_reading

pub returns-clause-one_stop : goal.returns-clause-one_stop
returns-clause-one_stop c = streams.one_stop

pub returns-clause-not_both : goal.returns-clause-not_both
returns-clause-not_both c = streams.holds_or_stops

pub returns-clause-begins : goal.returns-clause-begins
returns-clause-begins c = record {
  holds = record { each = tt; begun = nothing_begins; whole = refl };
  taken = refl;
  going = refl;
}

pub returns-clause-goes_on : goal.returns-clause-goes_on
returns-clause-goes_on c = streams.goes_on

pub returns-clause-stops : goal.returns-clause-stops
returns-clause-stops c = streams.stops_there
