-- The word that a place loads lies in the image.
use Rattle.std.proofs.Common.{◌≡◌, ℕ, ◌+◌, ◌*◌, ◌/◌, ◌%◌, ◌<◌, List, length, Some, arith}
use Rattle.cell_layout.proofs.Added.{slot_small}
use Rattle.cell_layout.specs.Words.{ItemsAreBytes}
use Rattle.cell_layout.proofs.CellBytes.{byte_there}
use Rattle.trie_image.specs.declared.Role.{Role}
use Rattle.trie_image.specs.declared.Role.TheVariants.{Root, Chain, Order, Slot, Top, Mid, Leaf, Prefix, Head}
use Rattle.trie_image.specs.declared.Place.{Place}
use Rattle.trie_image.specs.declared.Owner.{Owner}
use Rattle.trie_image.specs.declared.Owner.TheVariants.{HeadCell, RecordCell, ChainCell, SparseCell, TopCell, MidCell, LeafCell, PrefixCell}
use Rattle.trie_image.specs.declared.Ledger.{Ledger}
use Rattle.trie_image.specs.Image.{word_of}
use Rattle.trie_image.specs.Paths.{owner}
use Rattle.trie_image.specs.Cell.{IsImage}
use Rattle.trie_image.specs.Place.{word_at, next_word_of, IsPlaceAt, IsPlace}
use Rattle.trie_image.proofs.Owners.{content_of, chain_of, sparse_of, split_node_of, prefix_of}
use Rattle.trie_image.proofs.Kept.{own_inside}

module _ (w : List ℕ) (g : Ledger) (cells : ℕ) (ok : IsImage w g cells) (key : List ℕ) (bytes : ItemsAreBytes key) where
  -- a word of a cell that has an owner
  within : (c i : ℕ) (o : Owner) → owner g c ≡ Some o → i < 4 → 4 * c + i < length w
  within c i o e l = let inside = own_inside g.owners c o e in omega (arith, ok.size, ok.capacity)

  place_within : (p part taken : ℕ) (role : Role) → IsPlaceAt w g key p part taken role → word_at role p part < length w
  place_within p part taken Root h = within 0 1 HeadCell ok.head (omega arith)
  place_within p part taken Head (at, e, le) = let o = content_of g p key at e in within _ 0 (RecordCell o.0 0) o.2 (omega arith)
  place_within p part taken Prefix (at, e, le) = within (p / 32) 0 (PrefixCell _) (prefix_of g p _ at e) (omega arith)
  place_within p part taken Chain (at, e, le) = let o = chain_of g p _ at e in within (p / 32) (p % 32 / 8) (ChainCell o.0 o.1) o.2 (omega arith)
  place_within p part taken Order (at, e, le) = within (p / 32) 3 (SparseCell _) (sparse_of g p _ at e) (omega arith)
  place_within p part taken Slot (b, at, e, next, slot) = within (p / 32) (part / 2) (SparseCell _) (sparse_of g p _ at e) (let l = slot_small (word_of w (p / 32) 3) b part slot in omega (arith, l))
  place_within p part taken Top (at, e, next) = within (p / 32) (part / 64 / 2) (TopCell _) (split_node_of g p _ at e) (let l = byte_there key taken part bytes next in omega (arith, l))
  place_within p part taken Mid (t, o, top, next) = within (p / 32) (part / 8 % 8 / 2) (MidCell t (part / 64)) o (omega arith)
  place_within p part taken Leaf (t, o, top, next) = within (p / 32) (part % 8 / 2) (LeafCell t (part / 64) (part / 8 % 8)) o (omega arith)

pub place_inside : (w : List ℕ) (g : Ledger) (cells : ℕ) (key : List ℕ) (pl : Place) → IsImage w g cells → IsPlace w g key pl → next_word_of pl < length w
place_inside w g cells key pl ok place = place_within w g cells ok key place.bytes pl.ptr pl.part pl.taken pl.role place.role
