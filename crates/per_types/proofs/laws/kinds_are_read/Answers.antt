use Rattle.per_types.proofs.Decided.{only_truth, only_whole, only_presence, only_character, only_small, only_length, only_string, only_object, only_format, only_open, only_members, only_enum}
use Rattle.per_types.proofs.laws.kinds_are_read.Goals as goal

pub returns-clause-truth : goal.returns-clause-truth
returns-clause-truth c = only_truth

pub returns-clause-whole : goal.returns-clause-whole
returns-clause-whole c = only_whole

pub returns-clause-presence : goal.returns-clause-presence
returns-clause-presence c = only_presence

pub returns-clause-character : goal.returns-clause-character
returns-clause-character c = only_character

pub returns-clause-small : goal.returns-clause-small
returns-clause-small c = only_small

pub returns-clause-length : goal.returns-clause-length
returns-clause-length c = only_length

pub returns-clause-string : goal.returns-clause-string
returns-clause-string c = only_string

pub returns-clause-object : goal.returns-clause-object
returns-clause-object c = only_object

pub returns-clause-format : goal.returns-clause-format
returns-clause-format c = only_format

pub returns-clause-open_type : goal.returns-clause-open_type
returns-clause-open_type c = only_open

pub returns-clause-section : goal.returns-clause-section
returns-clause-section c = only_members

pub returns-clause-enumeration : goal.returns-clause-enumeration
returns-clause-enumeration c = only_enum
