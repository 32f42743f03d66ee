-- The alphabet of a vehicle identification number, after ISO 3779: digits and capital letters without I, O
-- and Q, in the order of their indices. Cited by the kinds of per_types and by the values of msd_values.
use Rattle.std.specs.Prelude.{ℕ, List, codes}

-- the ASCII codes of the thirty-three characters
abbrev pub alphabet : List ℕ
alphabet = codes "0123456789ABCDEFGHJKLMNPRSTUVWXYZ"
