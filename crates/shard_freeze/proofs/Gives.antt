-- What a walk gives that is at a record or at its end, and what it has left at its start.
use Rattle.std.proofs.Common.{◌≡◌, ◌≢◌, ℕ, ◌+◌, ◌≤◌, List, [], ◌∷◌, ◌++◌, slice_get, Some, sym, ap, ◌∙◌, arith}
use Rattle.std.proofs.Common.{inl, inr}
use Rattle.std.specs.Prelude.{◌⊎◌}
use Rattle.cell_layout.specs.declared.Kind.TheVariants.{Nothing, Content}
use Rattle.cell_layout.specs.Pointers.{kind_at, record_cell}
use Rattle.key_types.specs.Table.{Entry}
use Rattle.trie_image.specs.declared.Put.{Put}
use Rattle.trie_image.specs.declared.Owner.TheVariants.{RecordCell}
use Rattle.trie_image.specs.declared.Ledger.{Ledger}
use Rattle.trie_image.specs.Image.{reading, root_of}
use Rattle.trie_image.specs.Paths.{HasPath}
use Rattle.trie_image.specs.WellFormed.{IsWellFormed}
use Rattle.trie_image.proofs.Owners.{content_of}
use Rattle.trie_machine.specs.State.{HasImage}
use Rattle.shard_freeze.specs.declared.walk.Level.{Level}
use Rattle.shard_freeze.specs.Sorted.{entries_made, entries_from}
use Rattle.shard_freeze.specs.Listing.{record_value, entries_seen_from}
use Rattle.shard_freeze.specs.Walk.{level_left, levels_left, left_by_parts, IsAt}
use Rattle.shard_freeze.specs.Cursor.{IsRecordValue}
use Rattle.shard_freeze.proofs.Puts.{value_is}
use Rattle.shard_freeze.proofs.Lists.{root_lists}
use Rattle.shard_freeze.proofs.Levels.{passed_left}
use Rattle.shard_freeze.proofs.Moves.{record_left}

-- a walk that is settled, by its parts
abbrev pub Settled : List Level → Level → ℕ → Type 0
Settled below top here = (kind_at here ≡ Some Content) ⊎ ((here ≡ 0) × (256 ≤ top.next) × (below ≡ []))

pub end_left : (w : List ℕ) (value : ℕ → List ℕ) (key : List ℕ) (below : List Level) (top : Level) (here : ℕ) → Settled below top here → here ≡ 0 → left_by_parts (reading w) value key below top here ≡ []
end_left w value key below top here (inl k) none = let e : kind_at here ≡ Some Nothing = ap kind_at none in absurd (cc)
end_left w value key below top here (inr (at, past, all)) none =
    ap (λ (x : ℕ). left_by_parts (reading w) value key below top x) none
    ∙ ap (λ (ls : List Level). level_left (reading w) value key top ++ levels_left (reading w) value key ls) all
    ∙ ap (λ (es : List Entry). es ++ []) (passed_left w value key top past)

pub at_record : (below : List Level) (top : Level) (here : ℕ) → Settled below top here → here ≢ 0 → kind_at here ≡ Some Content
at_record below top here (inl k) ne = k
at_record below top here (inr (at, past, all)) ne = absurd (ne at)

module _ (w : List ℕ) (g : Ledger) (cells : ℕ) (ok : IsWellFormed w g cells) where
  pub record_of_content : (p : ℕ) (q : List ℕ) → HasPath g p q → kind_at p ≡ Some Content → (n : ℕ) × (put : Put) × (slice_get g.puts n ≡ Some put) × (put.cell ≡ record_cell p)
  record_of_content p q at k = let i = content_of g p q at k in
      let cell = ok.image.each (record_cell p) (RecordCell i.0 0) i.2 in
      let both : Some cell.0 ≡ Some i.1 = sym cell.1 ∙ i.3 in let is_put : cell.0 ≡ i.1 = cc in
      let first : record_cell p ≡ (cell.0).cell + 0 = cell.2.place in
      let same : (cell.0).cell ≡ (i.1).cell = ap (λ (x : Put). x.cell) is_put in
      (i.0, i.1, i.3, omega (arith, first, same))

module _ (w : List ℕ) (made : List Put) (cells used : ℕ) (has : HasImage w cells used made) where
  pub record_given : (key : List ℕ) (below : List Level) (top : Level) (here : ℕ) → IsAt has.ledger key below top here → here ≢ 0 → kind_at here ≡ Some Content → (bytes : List ℕ) → IsRecordValue w (record_cell here) bytes
      → left_by_parts (reading w) (record_value made) key below top here ≡ (key, bytes) ∷ left_by_parts (reading w) (record_value made) key below top 0
  record_given key below top here at ne k bytes is =
      let i = record_of_content w has.ledger cells has.image here key (at.here_is ne) k in
      let value : record_value made (record_cell here) ≡ bytes = ap (λ (puts : List Put). record_value puts (record_cell here)) (sym has.puts_are) ∙ ap (record_value has.ledger.puts) (sym i.3)
      ∙ value_is w has.ledger cells has.image i.0 i.1 i.2 ∙ sym (is has.ledger cells has.image i.0 i.1 i.2 i.3) in
      record_left w has.ledger cells has.image key below top here at ne k (record_value made)
      ∙ ap (λ (v : List ℕ). (key, v) ∷ left_by_parts (reading w) (record_value made) key below top 0) value

  pub root_entries : (from : List ℕ) (here : ℕ) → here ≡ root_of w → entries_from from (entries_seen_from (reading w) (record_value made) 2048 here) ≡ entries_from from (entries_made made)
  root_entries from here is = ap (λ (p : ℕ). entries_from from (entries_seen_from (reading w) (record_value made) 2048 p)) is
      ∙ ap (λ (puts : List Put). entries_from from (entries_seen_from (reading w) (record_value puts) 2048 (root_of w))) (sym has.puts_are)
      ∙ ap (entries_from from) (root_lists w has.ledger cells has.image)
      ∙ ap (λ (puts : List Put). entries_from from (entries_made puts)) has.puts_are
