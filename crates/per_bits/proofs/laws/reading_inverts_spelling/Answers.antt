use Rattle.per_bits.proofs.SectionLaws.{members_read, open_read, open_left}
use Rattle.per_bits.proofs.laws.reading_inverts_spelling.Goals as goal

pub returns-clause-section : goal.returns-clause-section
returns-clause-section c = members_read

pub returns-clause-octets : goal.returns-clause-octets
returns-clause-octets c = open_read

pub returns-clause-rest : goal.returns-clause-rest
returns-clause-rest c = open_left
