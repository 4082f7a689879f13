-- The rule at the start, and what stands in the words at the end.
use Rattle.std.proofs.Common.{◌≡◌, ℕ, zero, suc, ◌*◌, ◌^◌, ◌≤◌, List, [], ◌∷◌, get_or, replicate, Option, Some, None, refl, sym, ap, ◌∙◌, subst, arith}
use mathlib.Core.Option.{some, some-injective, some-ne-none}
use lib.ListN.{get_elem?}
use Rattle.atomic_table.specs.Table.{Me, opening, Final, Seen}
use Rattle.trie_machine.specs.declared.Reader.{Reader}
use Rattle.trie_machine.specs.State.{IsMachine, HasImage}
use Rattle.trie_machine.proofs.Readers.{is_opening}
use Rattle.trie_rule.specs.declared.views.WriteView.{WriteView}
use Rattle.trie_rule.specs.declared.views.ReadView.{ReadView}
use Rattle.trie_rule.specs.declared.views.View.{View}
use Rattle.trie_rule.specs.declared.views.View.TheVariants.{Writes, Reads}
use Rattle.trie_rule.specs.Fields.{done_of}
use Rattle.trie_rule.specs.Rule.{Knows, Running, opening_view, opening_write_view, reader_of, state_of, write_view_of}
use Rattle.trie_rule.proofs.Keeps.{opens}

-- the table at the start
pub opening_machine : (cells : ℕ) (rs : List (Option Reader)) (n : ℕ) → 1024 ≤ cells → cells ≤ 2 ^ 22 → rs ≡ [] → IsMachine (state_of (opening_write_view cells) rs)
opening_machine cells rs n least most e = is_opening cells 0 (replicate (4 * cells) 0) [] rs (omega arith) most refl refl e

no_views : (v : View) (o : Option Reader) → reader_of v ≡ None → (j : ℕ) (r : Reader) → get_elem? (reader_of v ∷ []) j ≡ some (Some r) → ⊥
no_views v o none_ zero r e = let h : reader_of v ≡ Some r = some-injective (reader_of v) (Some r) e in cc
no_views v o none_ (suc j) r e = some-ne-none (Some r) (sym e)

pub starts : (S : Type 0) (cells : ℕ) (words : List ℕ) → 1024 ≤ cells → cells ≤ 2 ^ 22 → words ≡ replicate (4 * cells) 0 → Running {S = S} cells (opening words [] (opening_view cells))
starts S cells words least most is =
    let w : WriteView = opening_write_view cells in
    let ok = opening_machine cells [] 0 least most refl in (
      0,
      w,
      record {
        is_machine = record { image = ok.image; writing = ok.writing; readers = λ j r e. absurd (no_views (opening_view cells) None refl j r e) };
        sized = refl;
        words_are = is;
        alone = one;
        reads = none_read;
      },
    )
  where
    one : (j : ℕ) (v : WriteView) → get_elem? (opening_view cells ∷ []) j ≡ some (Writes v) → (j ≡ 0) × (v ≡ opening_write_view cells)
    one zero v e = let h : Writes (opening_write_view cells) ≡ Writes v = some-injective (Writes (opening_write_view cells)) (Writes v) e in (refl, cc)
    one (suc j) v e = absurd (some-ne-none (Writes v) (sym e))

    none_read : (j : ℕ) (r : ReadView) → get_elem? (opening_view cells ∷ []) j ≡ some (Reads r) → Knows (opening_write_view cells) r
    none_read zero r e = let h : Writes (opening_write_view cells) ≡ Reads r = some-injective (Writes (opening_write_view cells)) (Reads r) e in absurd (cc)
    none_read (suc j) r e = absurd (some-ne-none (Reads r) (sym e))

-- the first seat's view
pub opened : {S : Type 0} (me : Me S View) (words cells : ℕ) → 1024 ≤ cells → cells ≤ 2 ^ 22 → me ≡ (opening_view cells, []) → words ≡ 4 * cells
    → let w : WriteView = write_view_of me.0 in (me ≡ (Writes w, [])) × (words ≡ 4 * w.cells) × (1 ≡ w.used) × (0 ≡ done_of w.begun) × IsMachine (state_of w [])
opened {S} me words cells least most me_is words_are =
    let is : write_view_of me.0 ≡ opening_write_view cells = ap (λ (m : Me S View). write_view_of m.0) me_is in
    subst (λ (x : WriteView). (me ≡ (Writes x, [])) × (words ≡ 4 * x.cells) × (1 ≡ x.used) × (0 ≡ done_of x.begun) × IsMachine (state_of x [])) (sym is) (me_is, words_are, refl, refl, opening_machine cells [] 0 least most refl)

module _ (S : Type 0) (cells id : ℕ) where
  pub closes : (me : Me S View) (ws : List ℕ) (xs : List S) → me ≡ (Writes (write_view_of me.0), []) → Final (Seen (Running {S = S} cells) id me.0) ws xs → let w : WriteView = write_view_of me.0 in (ws ≡ w.image) × HasImage ws w.cells w.used w.made
  closes me ws xs is f =
      let w : WriteView = write_view_of me.0 in
      let r = opens S cells 0 id f.0 w f.1.0 (f.1.1 ∙ ap (λ (m : Me S View). some m.0) is) in
      let e : ws ≡ w.image = sym f.2 ∙ r.words_are in
      (e, subst (λ (l : List ℕ). HasImage l w.cells w.used w.made) (sym e) r.is_machine.image)

pub word_at : (l : List ℕ) (i x : ℕ) → get_elem? l i ≡ some x → x ≡ get_or l i 0
word_at [] i x e = absurd (some-ne-none x (sym e))
word_at (y ∷ ys) zero x e = sym (some-injective y x e)
word_at (y ∷ ys) (suc i) x e = word_at ys i x e
