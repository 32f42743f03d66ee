-- the same seats at other clocks
pub mod Clocks
-- the rows at which a call comes up
pub mod ComingUp
-- a row of a leg, told: the entries say of the leg where the end is
pub mod LegRow
-- a row keeps what ties the sets of a call
pub mod LinksRow
-- what holds of each element of a list
pub mod Lists
-- a row keeps a trace that fits
pub mod RowKept
-- a row that owes keeps a trace that fits
pub mod RowOwes
-- a leg that is safe, as the rules have it
pub mod SafeLegs
-- both ends as seats in their calls
pub mod Seats
-- the entries of items that are told one behind the other
pub mod TellingLemmas
