-- A shard with room for all puts is never full, and the puts of one batch among all.
use Rattle.std.proofs.Common.{◌≡◌, ℕ, zero, suc, ◌<◌, List, [], ◌∷◌, ◌++◌, length, take, drop, slice_get, slice_index_or, Some, sym, ◌∙◌, ap, subst, arith, append_assoc}
use Rattle.std.specs.List.{AllByRecursion}
use Rattle.trie_rule.specs.declared.views.WriteView.{WriteView}
use Rattle.trie_rule.specs.Rule.{opening_write_view}
use Rattle.trie_writer.specs.Written.{LacksRoom}
use Rattle.script_text.specs.Puts.{Batch, Get, Put}
use Rattle.script_text.specs.Script.{gets_of, puts_of}
use Rattle.script_run.specs.Legal.{shard_puts}
use Rattle.script_run.specs.Runs.{HasRoom, IsFullAt, MakesPuts}
use Rattle.script_run.proofs.Makes.{makes_one, makes_parted, shard_both}

pub item_is : {X : Type 0} (xs : List X) (i : ℕ) (x : X) → i < length xs → slice_index_or xs i x ≡ x → slice_get xs i ≡ Some x
item_is [] i x less e = absurd (omega (arith, less))
item_is (y ∷ xs) zero x less e = ap (λ (z : _). Some z) e
item_is (y ∷ xs) (suc i) x less e = item_is xs i x (omega (arith, less)) e

pub puts_parted : (batches : List Batch) (n : ℕ) (batch : Batch) → slice_get batches n ≡ Some batch
    → puts_of batches ≡ puts_of (take n batches) ++ (batch.puts ++ puts_of (drop (suc n) batches))
puts_parted [] n batch at = absurd (cc)
puts_parted (b ∷ batches) zero batch at = let is : b ≡ batch = cc in ap (λ (x : Batch). x.puts ++ puts_of batches) is
puts_parted (b ∷ batches) (suc n) batch at =
    ap (λ (l : List Put). b.puts ++ l) (puts_parted batches n batch at) ∙ sym (append_assoc b.puts (puts_of (take n batches)) (batch.puts ++ puts_of (drop (suc n) batches)))

-- what holds of all holds of those of one batch
left_all : {X : Type 0} (P : X → Type 0) (xs ys : List X) → AllByRecursion P (xs ++ ys) → AllByRecursion P xs
left_all P [] ys h = tt
left_all P (x ∷ xs) ys (h, hs) = (h, left_all P xs ys hs)

right_all : {X : Type 0} (P : X → Type 0) (xs ys : List X) → AllByRecursion P (xs ++ ys) → AllByRecursion P ys
right_all P [] ys h = h
right_all P (x ∷ xs) ys (h, hs) = right_all P xs ys hs

pub batch_puts : (P : Put → Type 0) (batches : List Batch) (n : ℕ) (batch : Batch) → slice_get batches n ≡ Some batch → AllByRecursion P (puts_of batches) → AllByRecursion P batch.puts
batch_puts P [] n batch at all = absurd (cc)
batch_puts P (b ∷ batches) zero batch at all = let is : b ≡ batch = cc in subst (λ (x : Batch). AllByRecursion P x.puts) is (left_all P b.puts (puts_of batches) all)
batch_puts P (b ∷ batches) (suc n) batch at all = batch_puts P batches n batch at (right_all P b.puts (puts_of batches) all)

pub batch_gets : (P : Get → Type 0) (batches : List Batch) (n : ℕ) (batch : Batch) → slice_get batches n ≡ Some batch → AllByRecursion P (gets_of batches) → AllByRecursion P batch.gets
batch_gets P [] n batch at all = absurd (cc)
batch_gets P (b ∷ batches) zero batch at all = let is : b ≡ batch = cc in subst (λ (x : Batch). AllByRecursion P x.gets) is (left_all P b.gets (gets_of batches) all)
batch_gets P (b ∷ batches) (suc n) batch at all = batch_gets P batches n batch at (right_all P b.gets (gets_of batches) all)

pub all_at : {X : Type 0} (P : X → Type 0) (xs : List X) (i : ℕ) (x : X) → slice_get xs i ≡ Some x → AllByRecursion P xs → P x
all_at P [] i x at all = absurd (cc)
all_at P (y ∷ xs) zero x at (h, hs) = let is : y ≡ x = cc in subst P is h
all_at P (y ∷ xs) (suc i) x at (h, hs) = all_at P xs i x at hs

pub never_full : (cells : ℕ) (bounds : List (List ℕ)) (all before own after : List Put) → all ≡ before ++ (own ++ after) → HasRoom cells bounds all → (i line : ℕ) → IsFullAt cells bounds before own i line → ⊥
never_full cells bounds all before own after parts room i line full =
    let shard = shard_puts bounds i in
    let there = room i in
    let shards : shard all ≡ (shard before ++ full.made) ++ (full.put ∷ (full.left ++ shard after)) =
    ap (λ (l : List Put). shard l) parts ∙ shard_both bounds i before (own ++ after) ∙ ap (λ (l : List Put). shard before ++ l) (shard_both bounds i own after)
    ∙ ap (λ (l : List Put). shard before ++ (l ++ shard after)) full.parts
    ∙ ap (λ (l : List Put). shard before ++ l) (append_assoc full.made (full.put ∷ full.left) (shard after))
    ∙ sym (append_assoc (shard before) full.made (full.put ∷ (full.left ++ shard after))) in
    let made = subst (λ (l : List Put). MakesPuts (opening_write_view cells) l there.0) shards there.1 in
    let parted = makes_parted (opening_write_view cells) (shard before ++ full.made) (full.put ∷ (full.left ++ shard after)) there.0 made in
    let same : full.view ≡ parted.0 = makes_one (opening_write_view cells) (shard before ++ full.made) full.view parted.0 full.makes parted.1 in
    parted.2.0 (subst (λ (v : WriteView). LacksRoom v (full.put.partition ++ full.put.clustering) full.put.value) same full.full)
