-- The lines of a closed table's entries, one behind the other.
use Rattle.std.proofs.Common.{◌≡◌, ℕ, ◌+◌, ◌≤◌, List, [], ◌∷◌, ◌++◌, sym, subst, ◌∙◌, ap, arith, append_assoc}
use Rattle.key_types.specs.Columns.{Columns}
use Rattle.key_types.specs.Table.{Entry}
use Rattle.flush_walk.specs.Entries.{clustering_in, partition_in, row_at, row_count}
use Rattle.flush_walk.specs.TableEntries.{AreTableEntries}
use Rattle.row_text.specs.Printed.{entry_line, entry_lines}

pub row_few : (clustering : List ℕ) → row_at clustering ≤ 1
row_few [] = omega arith
row_few (b ∷ bs) = omega arith

-- ---- entries one behind the other

module _ (columns : Columns) (left left' : List Entry) (key value partition clustering : List ℕ) (next : left ≡ (key, value) ∷ left') (is_partition : partition ≡ partition_in columns key)
    (is_clustering : clustering ≡ clustering_in columns key) (are : AreTableEntries columns left) where
  first_are : AreTableEntries columns ((key, value) ∷ left')
  first_are = subst (AreTableEntries columns) next are

  pub rest_are : AreTableEntries columns left'
  rest_are = first_are.1

  parts : partition ++ clustering ≡ key
  parts = ap (λ (p : List ℕ). p ++ clustering) is_partition ∙ ap (λ (c : List ℕ). partition_in columns key ++ c) is_clustering ∙ first_are.0.parts

  -- the line of the next entry is behind the others
  pub next_line : (out out' all : List ℕ) → out' ≡ out ++ entry_line columns (partition ++ clustering, value) → out ++ entry_lines columns left ≡ all → out' ++ entry_lines columns left' ≡ all
  next_line out out' all is lines =
      ap (λ (o : List ℕ). o ++ entry_lines columns left') (is ∙ ap (λ (k : List ℕ). out ++ entry_line columns (k, value)) parts)
      ∙ append_assoc out (entry_line columns (key, value)) (entry_lines columns left')
      ∙ ap (λ (es : List Entry). out ++ entry_lines columns es) (sym next) ∙ lines

  -- and it is counted
  pub next_count : (count step all : ℕ) → step ≡ row_at clustering → count + row_count columns left ≡ all → (count + step) + row_count columns left' ≡ all
  next_count count step all is counted =
      let first : row_count columns left ≡ row_at (clustering_in columns key) + row_count columns left' = ap (row_count columns) next in
      let own : step ≡ row_at (clustering_in columns key) = is ∙ ap row_at is_clustering in
      omega (arith, first, own, counted)
