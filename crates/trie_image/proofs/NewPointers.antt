-- The kinds of the pointers that a put makes, and what a prefix cell's words say.
use Rattle.std.proofs.Common.{◌≡◌, ◌≢◌, ℕ, ◌+◌, ◌*◌, ◌%◌, ◌^◌, ◌<◌, ◌≤◌, false, true, List, Option, Some, refl, ap, ◌∙◌, arith, ne_eqb, le-leb}
use Rattle.std.proofs.lemmas.Bool.{lt-leb}
use Rattle.cell_layout.specs.declared.Kind.{Kind}
use Rattle.cell_layout.specs.declared.Kind.TheVariants as kind
use Rattle.cell_layout.specs.Words.{half_of}
use Rattle.cell_layout.specs.Pointers.{kind_at, kind_at_offset, record_cell}
use Rattle.cell_layout.specs.Cells.{prefix_words}
use Rattle.cell_layout.proofs.CellBytes.{pair_low, pair_high}
use Rattle.trie_image.specs.Image.{field, child_of, content_record, record_of}
use Rattle.trie_image.specs.Stores.{content_of}
use Rattle.trie_image.proofs.CellWords.{Stands}

-- a pointer with this offset into a cell other than 0
pub offset_kind : (p x o : ℕ) → p ≡ 32 * x + o → 1 ≤ x → x < 2 ^ 26 → o < 32 → kind_at p ≡ kind_at_offset o
offset_kind p x o e low high l = let ne : p ≢ 0 = λ z. omega arith in let small : p < 2 ^ 31 = omega arith in let offset : p % 32 ≡ o = omega arith in rw (ne_eqb p 0 ne, lt-leb (2 ^ 31) p small) (ap (λ (n : ℕ). kind_at_offset n) offset)

pub high_kind : (p : ℕ) → 2 ^ 31 ≤ p → kind_at p ≡ Some kind.Content
high_kind p l = let ne : p ≢ 0 = λ z. omega arith in rw (ne_eqb p 0 ne, le-leb (2 ^ 31) p l) refl

-- the content pointer to a new record
module _ (w : List ℕ) (used : ℕ) (small : used < 2 ^ 31) where
  pub content_kind : kind_at (content_of used) ≡ Some kind.Content
  content_kind = high_kind (content_of used) (omega arith)

  pub content_there : content_of used ≢ 0
  content_there z = omega arith

  pub content_cell : record_cell (content_of used) ≡ used
  content_cell = omega arith

  pub content_is : record_of w (content_of used) (kind_at (content_of used)) ≡ Some used
  content_is = ap (λ (k : Option Kind). record_of w (content_of used) k) content_kind ∙ ap (λ (x : ℕ). Some x) content_cell

  pub content_record_is : content_record (content_of used) (kind_at (content_of used)) ≡ Some used
  content_record_is = ap (λ (k : Option Kind). content_record (content_of used) k) content_kind ∙ ap (λ (x : ℕ). Some x) content_cell

-- content has no children, and its own record
pub content_leaf : (w : List ℕ) (p a : ℕ) → kind_at p ≡ Some kind.Content → child_of w p a (kind_at p) ≡ 0
content_leaf w p a k = ap (λ (x : Option Kind). child_of w p a x) k

-- a prefix cell's fields
module _ (w : List ℕ) (c content node : ℕ) (h : Stands w c (prefix_words content node)) (fits : content < 2 ^ 32) where
  pub prefix_content : field w c 0 ≡ content
  prefix_content = ap (λ (x : ℕ). half_of x false) (h 0 (omega arith)) ∙ pair_low content node fits

  pub prefix_node : field w c 1 ≡ node
  prefix_node = ap (λ (x : ℕ). half_of x true) (h 0 (omega arith)) ∙ pair_high content node fits
