-- The ends of a list of partitions, and how many there are.
use Rattle.std.proofs.Common.{◌≤◌, List, [], ◌∷◌, length, arith}
use Rattle.partition_index.specs.Entries.{IsNumbered, Numbered, StandApart, first_string, last_among, last_string, string_bytes}

-- the last of them is one that may be indexed
pub last_is : (p : Numbered) (ps : List Numbered) → StandApart (p ∷ ps) → IsNumbered (last_among p ps)
last_is p [] h = h.0
last_is p (q ∷ ps) h = last_is q ps h.2

-- there are no more than their strings have bytes
pub count_most : (ps : List Numbered) → StandApart ps → length ps ≤ string_bytes ps
count_most [] h = omega arith
count_most (p ∷ ps) h = omega (arith, count_most ps h.2, h.0.some)

-- the strings that are held are short
pub first_short : (ps : List Numbered) → StandApart ps → length (first_string ps) ≤ 1024
first_short [] h = omega arith
first_short (p ∷ ps) h = h.0.most

pub last_short : (ps : List Numbered) → StandApart ps → length (last_string ps) ≤ 1024
last_short [] h = omega arith
last_short (p ∷ ps) h = (last_is p ps h).most
