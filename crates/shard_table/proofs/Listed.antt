-- What a cursor over all shards has left.
use Rattle.std.proofs.Common.{◌≡◌, ℕ, zero, suc, ◌+◌, Bool, true, false, cond, List, [], ◌∷◌, ◌++◌, drop, slice_get, Some, refl, sym, ◌∙◌, ap, subst, arith}
use Rattle.key_types.specs.Table.{Entry}
use Rattle.trie_rule.specs.Seats.{KeptWords}
use Rattle.shard_freeze.specs.Cursor.{CursorAt, GivesInto}
use Rattle.shard_freeze.specs.Sorted.{entries_from, entries_made, reaches}
use Rattle.shard_table.specs.Together.{TableCursorAt, left_in, shard_entries}

-- no key is below the empty string
reached : (key : List ℕ) → reaches [] key ≡ true
reached [] = refl
reached (b ∷ bs) = refl

pub from_first : (es : List Entry) → entries_from [] es ≡ es
from_first [] = refl
from_first (e ∷ es) =
    ap (λ (t : Bool). cond t (e ∷ entries_from [] es) (entries_from [] es)) (reached e.0) ∙ ap (λ (xs : List Entry). e ∷ xs) (from_first es)

-- the entries of a shard and of those behind it
pub left_from : (shards : List KeptWords) (i : ℕ) (shard : KeptWords) → slice_get shards i ≡ Some shard
    → entries_made shard.made ++ shard_entries (drop (i + 1) shards) ≡ shard_entries (drop i shards)
left_from [] i shard e = absurd (cc)
left_from (s ∷ shards) zero shard e = let is : s ≡ shard = cc in ap (λ (k : KeptWords). entries_made k.made ++ shard_entries shards) (sym is)
left_from (s ∷ shards) (suc i) shard e =
    let next : suc i + 1 ≡ suc (i + 1) = omega arith in
    ap (λ (k : ℕ). entries_made shard.made ++ shard_entries (drop k (s ∷ shards))) next ∙ left_from shards i shard e

module _ (shards : List KeptWords) (i : ℕ) (shard : KeptWords) (cursor : CursorAt) (there : slice_get shards i ≡ Some shard)
    (left : cursor.left ≡ entries_from [] (entries_made shard.made)) where
  -- a cursor that begins a shard
  pub begins_shard : left_in shards (record { shard = i; cursor = cursor }) ≡ shard_entries (drop i shards)
  begins_shard =
      ap (λ (es : List Entry). es ++ shard_entries (drop (i + 1) shards)) (left ∙ from_first (entries_made shard.made)) ∙ left_from shards i shard there

-- where no entry was given, none was left
pub none_given : (left left' : List Entry) (some : Bool) (key value : List ℕ) → some ≡ false → GivesInto left some key value left' → left ≡ []
none_given left left' true key value e h = cc
none_given left left' false key value e h = h.0

-- the entry that was given was the first
pub next_given : (left left' : List Entry) (some : Bool) (key value : List ℕ) → some ≡ true → GivesInto left some key value left' → left ≡ (key, value) ∷ left'
next_given left left' true key value e h = h
next_given left left' false key value e h = cc
