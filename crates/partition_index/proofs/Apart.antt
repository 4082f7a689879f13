-- Lists of partitions whose strings stand apart: their entries ascend.
use Rattle.std.proofs.Common.{◌≡◌, ℕ, suc, ◌*◌, ◌^◌, ◌-◌, ◌<◌, ◌≤◌, List, [], ◌∷◌, length, take, arith, refl}
use Rattle.std.specs.Prelude.{ℤ, pos, negsuc, ◌≤ℤ◌, ◌<ℤ◌, Option, Some, None}
use Rattle.std.proofs.lemmas.Int.{ints}
use Rattle.std.proofs.lemmas.List.{length-take}
use Rattle.std.proofs.lemmas.List.Elements.{All-from_recursion, All-take, recursion_from_All}
use Rattle.byteorder.specs.Numbers.{length-bytes_high_first}
use Rattle.byte_order.specs.Strings.{first_of, unique_size}
use Rattle.byte_order.proofs.Sizes.{below_by, mirrored}
use Rattle.bti_nodes.specs.Payloads.{bytes_for, doubled, signed_bytes}
use Rattle.bti_nodes.proofs.Numbers.{counted}
use Rattle.page_packer.specs.Tree.{AreEntries, AscendFrom, IsBelow, IsEntry, key_bytes}
use Rattle.partition_index.specs.Entries.{AreNumbered, IsApartBelow, IsNumbered, Numbered, StandApart, index_entries_from, entry_between, index_entries, string_bytes, strings_of}

-- ---- a payload

doubled_few : (z : ℤ) → negsuc (2 ^ 55 - 1) ≤ℤ z → z <ℤ pos (2 ^ 55) → doubled z < 2 ^ 56
doubled_few (pos n) l h = grind (arith, ints)
doubled_few (negsuc n) l h = grind (arith, ints)

signed_length : (z : ℤ) → length (signed_bytes z) ≡ bytes_for (doubled z)
signed_length (pos n) = length-bytes_high_first (bytes_for (2 * n)) n
signed_length (negsuc n) = length-bytes_high_first (bytes_for (2 * n)) _

-- ---- a key

is_entry : (before : Option (List ℕ)) (p : Numbered) (behind : Option (List ℕ)) → IsNumbered p → IsEntry (entry_between before p behind)
is_entry before p behind h =
    let k = counted (doubled p.number) (doubled_few p.number h.low h.high) in
    let long = signed_length p.number in
    let is_byte : ℕ → Type 0 = λ b. b < 256 in
    record {
      bytes = recursion_from_All is_byte _ (All-take is_byte (unique_size before p.string behind) p.string (All-from_recursion is_byte p.string h.bytes));
      paid = omega (arith, long, k.some.0);
      short = omega (arith, long, k.some.1);
    }

-- the keys of two strings that stand apart
keys_apart : (before : Option (List ℕ)) (p q : Numbered) (behind : Option (List ℕ)) → IsApartBelow p.string q.string
    → IsBelow (entry_between before p (Some q.string)).key (entry_between (Some p.string) q behind).key
keys_apart before p q behind h =
    below_by p.string q.string (unique_size before p.string (Some q.string)) (unique_size (Some p.string) q.string behind) h.0 h.1
    (omega arith) (omega (arith, mirrored p.string q.string))

-- ---- all keys

-- the empty key is below each other
above_none : (key : List ℕ) (n : ℕ) → 0 < length key → IsBelow [] (take (suc n) key)
above_none [] n h = absurd (omega (arith, h))
above_none (x ∷ key) n h = refl

ascend_from : (last : List ℕ) (before : Option (List ℕ)) (p : Numbered) (ps : List Numbered) → StandApart (p ∷ ps)
    → IsBelow last (entry_between before p (first_of (strings_of ps))).key → AscendFrom last (index_entries_from before (p ∷ ps))
ascend_from last before p [] h low = (low, is_entry before p None h.0, tt)
ascend_from last before p (q ∷ ps) h low =
    let here = entry_between before p (Some q.string) in
    (low, is_entry before p (Some q.string) h.0, ascend_from here.key (Some p.string) q ps h.2 (keys_apart before p q (first_of (strings_of ps)) h.1))

-- the entries of the index ascend
pub are_entries : (ps : List Numbered) → StandApart ps → AreEntries (index_entries ps)
are_entries [] h = tt
are_entries (p ∷ ps) h = ascend_from [] None p ps h (above_none p.string _ h.0.some)

-- the keys have no more bytes than the strings
few_bytes : (before : Option (List ℕ)) (ps : List Numbered) → key_bytes (index_entries_from before ps) ≤ string_bytes ps
few_bytes before [] = omega arith
few_bytes before (p ∷ ps) =
    let n = unique_size before p.string (first_of (strings_of ps)) in
    omega (arith, few_bytes (Some p.string) ps, length-take n p.string)

pub few_keys : (ps : List Numbered) → AreNumbered ps → key_bytes (index_entries ps) ≤ 2 ^ 30
few_keys ps h = omega (arith, few_bytes None ps, h.few)
