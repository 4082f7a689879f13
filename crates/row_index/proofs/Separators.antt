-- The separators of blocks: they are the row index, and ascend.
use Rattle.std.proofs.Common.{◌≡◌, ℕ, zero, suc, ◌<◌, ◌≤◌, List, [], ◌∷◌, length, take, arith, refl, ap, ◌∙◌}
use Rattle.std.proofs.lemmas.List.{length-take}
use Rattle.std.proofs.lemmas.List.Elements.{All-from_recursion, All-take, recursion_from_All}
use Rattle.std.proofs.lemmas.Cmp.{nat_list_cmp_total}
use Rattle.std.specs.declared.cmp.Ordering.{Ordering}
use Rattle.std.specs.declared.cmp.Ordering.TheVariants.{Less, Equal, Greater}
use Rattle.std.specs.Ordering.{nat_cmp, ordering_reverse, ordering_then}
use Rattle.byteorder.specs.Numbers.{length-bytes_high_first}
use Rattle.key_types.specs.Table.{string_cmp}
use Rattle.byte_order.specs.Strings.{IsSeparatorLength, separator_size}
use Rattle.byte_order.proofs.Sizes.{separator_size_is}
use Rattle.bti_nodes.specs.Payloads.{bytes_for, unsigned_bytes}
use Rattle.bti_nodes.proofs.Numbers.{counted}
use Rattle.page_packer.specs.Tree.{AreEntries, AscendFrom, IsBelow, IsEntry, key_bytes}
use Rattle.row_index.specs.Entries.{AreBlocks, Block, IsBlock, block_bytes, separator_entries, separator_entry}
use Rattle.row_index.specs.Laws.{EntriesAreRowIndex}

-- ---- one separator

shortest : (b : Block) → IsBlock b → IsSeparatorLength b.before b.first (separator_size b.before b.first)
shortest b h = separator_size_is b.before b.first h.above

pub entries_are_row_index : EntriesAreRowIndex
entries_are_row_index [] h = tt
entries_are_row_index (b ∷ bs) h =
    (record { size = separator_size b.before b.first; shortest = shortest b h.0; key = refl; payload = refl }, entries_are_row_index bs h.2)

is_entry : (b : Block) → IsBlock b → IsEntry (separator_entry b)
is_entry b h =
    let k = counted b.offset h.few in
    let long : length (unsigned_bytes b.offset) ≡ bytes_for b.offset = length-bytes_high_first (bytes_for b.offset) b.offset in
    let is_byte : ℕ → Type 0 = λ x. x < 256 in
    record {
      bytes = recursion_from_All is_byte _ (All-take is_byte (separator_size b.before b.first) b.first (All-from_recursion is_byte b.first h.bytes));
      paid = omega (arith, long, k.some.0);
      short = omega (arith, long, k.some.1);
    }

-- a first string isn't empty
pub some_first : (b : Block) → IsBlock b → 0 < length b.first
some_first b h = let s = shortest b h in omega (arith, s.most)

-- ---- the order of two

-- a prefix of what is below a string is below it
front_below : (n : ℕ) (a b : List ℕ) → string_cmp a b ≡ Less → string_cmp (take n a) b ≡ Less
front_below zero [] b h = h
front_below zero (x ∷ a) [] h = cc
front_below zero (x ∷ a) (y ∷ b) h = refl
front_below (suc n) [] b h = h
front_below (suc n) (x ∷ a) [] h = cc
front_below (suc n) (x ∷ a) (y ∷ b) h = by (nat_cmp x y) h (front_below n a b)
  where
    by : (o : Ordering) → ordering_then o (string_cmp a b) ≡ Less → (string_cmp a b ≡ Less → string_cmp (take n a) b ≡ Less)
        → ordering_then o (string_cmp (take n a) b) ≡ Less
    by Less h rest = refl
    by Equal h rest = rest h
    by Greater h rest = h

-- what isn't above a string is below what that is below
not_above : (a b c : List ℕ) → (string_cmp b a ≡ Less → ⊥) → string_cmp b c ≡ Less → string_cmp a c ≡ Less
not_above a b c unmet low = by (string_cmp a b) refl
  where
    by : (o : Ordering) → string_cmp a b ≡ o → string_cmp a c ≡ Less
    by Less is = nat_list_cmp_total.trans a b c is low
    by Equal is = nat_list_cmp_total.congr a b c is ∙ low
    by Greater is = absurd (unmet (nat_list_cmp_total.antisymm b a ∙ ap ordering_reverse is))

-- a separator is below what is above the string before a later block
above_separator : (b : Block) (before key : List ℕ) → (string_cmp before b.first ≡ Less → ⊥) → string_cmp before key ≡ Less → IsBelow (separator_entry b).key key
above_separator b before key unmet low = front_below (separator_size b.before b.first) b.first key (not_above b.first before key unmet low)

-- ---- all of them

ascend_from : (last : List ℕ) (b : Block) (bs : List Block) → AreBlocks (b ∷ bs) → IsBelow last (separator_entry b).key → AscendFrom last (separator_entries (b ∷ bs))
ascend_from last b [] h low = (low, is_entry b h.0, tt)
ascend_from last b (c ∷ bs) h low =
    (low, is_entry b h.0, ascend_from (separator_entry b).key c bs h.2 (above_separator b c.before (separator_entry c).key h.1 (shortest c h.2.0).above))

-- the empty key is below each other
above_none : (b : Block) → IsBlock b → IsBelow [] (separator_entry b).key
above_none b h = by b.first (some_first b h)
  where
    by : (first : List ℕ) → 0 < length first → IsBelow [] (take (separator_size b.before b.first) first)
    by [] some = absurd (omega (arith, some))
    by (x ∷ first) some = refl

pub are_entries : (bs : List Block) → AreBlocks bs → AreEntries (separator_entries bs)
are_entries [] h = tt
are_entries (b ∷ bs) h = ascend_from [] b bs h (above_none b h.0)

-- the keys have no more bytes than the strings
pub few_keys : (bs : List Block) → key_bytes (separator_entries bs) ≤ block_bytes bs
few_keys [] = omega arith
few_keys (b ∷ bs) = omega (arith, few_keys bs, length-take (separator_size b.before b.first) b.first)

-- there are no more blocks than their strings have bytes
pub few_blocks : (bs : List Block) → AreBlocks bs → length bs ≤ block_bytes bs
few_blocks [] h = omega arith
few_blocks (b ∷ bs) h = omega (arith, few_blocks bs h.2, some_first b h.0)
