-- The shards of a closed table, and the map of all puts.
use Rattle.std.proofs.Common.{◌≡◌, ℕ, suc, ◌+◌, ◌<◌, Bool, true, false, cond, List, [], ◌∷◌, ◌++◌, length, slice_get, Some, refl, sym, ◌∙◌, ap, arith}
use Rattle.std.specs.Prelude.{nat_eq, count_by}
use Rattle.std.specs.List.{AllByRecursion}
use Rattle.std.specs.declared.cmp.Ordering.{Ordering}
use Rattle.std.specs.declared.cmp.Ordering.TheVariants.{Less, Equal, Greater}
use Rattle.std.specs.Ordering.{is_le, nat_cmp, ordering_then}
use Rattle.std.specs.FinMap as map_of
use Rattle.key_types.specs.Table.{Entry, string_cmp, table_of}
use Rattle.trie_rule.specs.Rule.{opening_write_view}
use Rattle.trie_rule.specs.Seats.{CellsAt, KeptWords, WriterAt}
use Rattle.shard_freeze.specs.Sorted.{put_entries}
use Rattle.shard_table.specs.declared.workers.Workers.{Workers}
use Rattle.shard_table.specs.Seats.{AreEach, AreWorkers, IsClosed, IsFreeWriter}
use Rattle.shard_table.specs.Shards.{is_reached, shard_index}
use Rattle.shard_table.specs.Together.{HoldPuts, puts_in, shard_entries}
use Rattle.shard_table.proofs.Each.{each_length}
use Rattle.shard_table.proofs.Between.{count_more}
use Rattle.shard_table.proofs.Together.{shards_list}
use Rattle.script_text.specs.Puts.{Put}
use Rattle.script_text.specs.Script.{entries_of, entry_of_put}
use Rattle.script_run.specs.Legal.{shard_puts}
use Rattle.script_run.specs.Runs.{IsRunPut}
use Rattle.script_run.specs.Steps.{HaveMadePuts}
use Rattle.script_run.proofs.Makes.{puts_made}

-- ---- the shard of a key is that of its partition

-- a bound that doesn't begin with all of a string is on the same side of every longer one
same_side : (b p c : List ℕ) → ((rest : List ℕ) → b ≡ p ++ rest → rest ≡ []) → is_reached (p ++ c) b ≡ is_reached p b
same_side [] [] [] h = refl
same_side [] [] (z ∷ c) h = refl
same_side [] (y ∷ p) c h = refl
same_side (x ∷ b) [] c h = let none : x ∷ b ≡ [] = h (x ∷ b) refl in absurd (cc)
same_side (x ∷ b) (y ∷ p) c h = by (nat_cmp x y) refl (same_side b p c)
  where
    by : (o : Ordering) → nat_cmp x y ≡ o → (((rest : List ℕ) → b ≡ p ++ rest → rest ≡ []) → is_reached (p ++ c) b ≡ is_reached p b)
        → is_le (ordering_then o (string_cmp b (p ++ c))) ≡ is_le (ordering_then o (string_cmp b p))
    by Less e behind = refl
    by Greater e behind = refl
    by Equal e behind =
        let same : x ≡ y = map_of.nat_cmp-IsAntisymmetric x y e in
        behind (λ rest is. h rest (ap (λ (l : List ℕ). x ∷ l) is ∙ ap (λ (z : ℕ). z ∷ p ++ rest) same))

module _ (bounds : List (List ℕ)) where
  same_count : (p c : List ℕ) (bs : List (List ℕ)) → ((i : ℕ) (b rest : List ℕ) → slice_get bs i ≡ Some b → b ≡ p ++ rest → rest ≡ [])
      → count_by (is_reached (p ++ c)) bs ≡ count_by (is_reached p) bs
  same_count p c [] h = refl
  same_count p c (b ∷ bs) h =
      count_more (is_reached (p ++ c)) b bs
      ∙ ap (λ (t : Bool). cond t 1 0 + count_by (is_reached (p ++ c)) bs) (same_side b p c (λ rest is. h 0 b rest refl is))
      ∙ ap (λ (n : ℕ). cond (is_reached p b) 1 0 + n) (same_count p c bs (λ i. h (suc i)))
      ∙ sym (count_more (is_reached p) b bs)

  kept_or_not : (s t : Bool) (p : Put) (puts : List Put) (entries : List Entry) → s ≡ t → entries_of puts ≡ entries
      → entries_of (cond s (p ∷ puts) puts) ≡ cond t (entry_of_put p ∷ entries) entries
  kept_or_not true true p puts entries e h = ap (λ (l : List Entry). entry_of_put p ∷ l) h
  kept_or_not true false p puts entries e h = absurd (cc)
  kept_or_not false true p puts entries e h = absurd (cc)
  kept_or_not false false p puts entries e h = h

  shard_has : (i : ℕ) (puts : List Put) → AllByRecursion (IsRunPut bounds) puts → entries_of (shard_puts bounds i puts) ≡ puts_in bounds i (entries_of puts)
  shard_has i [] h = refl
  shard_has i (p ∷ puts) (h, hs) =
      kept_or_not (nat_eq (shard_index bounds p.partition) i) (nat_eq (shard_index bounds (p.partition ++ p.clustering)) i) p (shard_puts bounds i puts) (puts_in bounds i (entries_of puts))
      (sym (ap (λ (n : ℕ). nat_eq n i) (same_count p.partition p.clustering bounds h.whole))) (shard_has i puts hs)

  -- ---- the shards of the closed table hold them

  hold : (puts : List Put) (i : ℕ) (writers : List WriterAt) (frozen : List KeptWords) → AreEach IsClosed writers frozen
      → ((j : ℕ) (s : WriterAt) → slice_get writers j ≡ Some s → put_entries s.knows.made ≡ puts_in bounds (i + j) (entries_of puts))
      → i + length writers ≡ length bounds + 1 → HoldPuts bounds i (entries_of puts) frozen
  hold puts i [] [] h made long = omega (arith, long)
  hold puts i [] (f ∷ frozen) h made long = absurd h
  hold puts i (s ∷ writers) [] h made long = absurd h
  hold puts i (s ∷ writers) (f ∷ frozen) (h, hs) made long = (
    ap put_entries h.made ∙ made 0 s refl ∙ ap (λ (n : ℕ). puts_in bounds n (entries_of puts)) (first i),
    hold puts (i + 1) writers frozen hs (λ j t at. made (suc j) t at ∙ ap (λ (n : ℕ). puts_in bounds n (entries_of puts)) (next i j)) (omega (arith, long)),
  )
    where
      first : (i : ℕ) → i + 0 ≡ i
      first i = omega arith

      next : (i j : ℕ) → i + suc j ≡ (i + 1) + j
      next i j = omega arith

  from_first : (j : ℕ) → j ≡ 0 + j
  from_first j = omega arith

  pub closed_entries : (cells : ℕ) (shards : List CellsAt) (w : Workers) (puts : List Put) (frozen : List KeptWords) → length shards ≡ length bounds + 1 → AreWorkers shards w
      → HaveMadePuts cells bounds puts w → AllByRecursion (IsRunPut bounds) puts → AreEach IsClosed w.writers.items frozen
      → shard_entries frozen ≡ map_of.entries (table_of (entries_of puts))
  closed_entries cells shards w puts frozen count are made all closed =
      shards_list bounds (entries_of puts) frozen
      (hold puts 0 w.writers.items frozen closed
      (λ j s at.
      puts_made (opening_write_view cells) (shard_puts bounds j puts) s.knows (made j s at) ∙ shard_has j puts all ∙ ap (λ (n : ℕ). puts_in bounds n (entries_of puts)) (from_first j))
      (omega (arith, count, each_length IsFreeWriter shards w.writers.items are.writing)))

  pub closed_some : (shards : List CellsAt) (w : Workers) (frozen : List KeptWords) → length shards ≡ length bounds + 1 → AreWorkers shards w → AreEach IsClosed w.writers.items frozen
      → 0 < length frozen
  closed_some shards w frozen count are closed =
      omega (arith, count, each_length IsFreeWriter shards w.writers.items are.writing, each_length IsClosed w.writers.items frozen closed)
