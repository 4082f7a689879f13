-- The value of a key's last put: by the first cell of its record, and in the sorted map.
use Rattle.std.proofs.Common.{◌≡◌, ◌≢◌, ℕ, zero, suc, ◌+◌, ◌<◌, List, [], ◌∷◌, slice_get, Option, Some, None, refl, sym, ap, ◌∙◌, subst, arith, eq-eqb, ne_eqb}
use Rattle.std.proofs.Common.{⊎_elim}
use Rattle.std.proofs.lemmas.Bool.{cases_eq}
use Rattle.std.specs.FinMap as map_of
use Rattle.key_types.specs.Table.{Entry, LacksKey, IsLastValue}
use Rattle.key_types.proofs.Puts.{gets_last}
use Rattle.trie_image.specs.declared.Put.{Put}
use Rattle.trie_image.specs.declared.Owner.TheVariants.{RecordCell}
use Rattle.trie_image.specs.declared.Ledger.{Ledger}
use Rattle.trie_image.specs.Paths.{owner}
use Rattle.trie_image.specs.Puts.{MapsTo}
use Rattle.trie_image.specs.WellFormed.{IsWellFormed}
use Rattle.shard_freeze.specs.Sorted.{put_entries, table_made}
use Rattle.shard_freeze.specs.Listing.{record_value}

-- no two puts have the same first cell, but for the value
abbrev HaveOwnCells : List Put → Type 0
HaveOwnCells puts = (m n : ℕ) (a b : Put) → slice_get puts m ≡ Some a → slice_get puts n ≡ Some b → a.cell ≡ b.cell → a.value ≡ b.value

value_at_cell : (puts : List Put) → HaveOwnCells puts → (n : ℕ) (put : Put) → slice_get puts n ≡ Some put → record_value puts put.cell ≡ put.value
value_at_cell [] own n put at = absurd (cc)
value_at_cell (p ∷ ps) own zero put at = let e : p ≡ put = cc in let same : p.cell ≡ put.cell = ap (λ (x : Put). x.cell) e in
    rw (eq-eqb p.cell put.cell same) (ap (λ (x : Put). x.value) e)
value_at_cell (p ∷ ps) own (suc n) put at = ⊎_elim
    (λ (same : p.cell ≡ put.cell). rw (eq-eqb p.cell put.cell same) (own 0 (suc n) p put refl at same))
    (λ (ne : p.cell ≢ put.cell). rw (ne_eqb p.cell put.cell ne) (value_at_cell ps (λ m k a b x y e. own (suc m) (suc k) a b x y e) n put at))
    (cases_eq p.cell put.cell)

-- ---- the last put as an entry

lacks_all : (key : List ℕ) (puts : List Put) → ((m : ℕ) (put : Put) → slice_get puts m ≡ Some put → put.key ≢ key) → LacksKey key (put_entries puts)
lacks_all key [] h = tt
lacks_all key (p ∷ ps) h = ((λ e. h 0 p refl (sym e)), lacks_all key ps (λ m put at. h (suc m) put at))

last_entry : (key : List ℕ) (puts : List Put) (n : ℕ) (put : Put) → slice_get puts n ≡ Some put → put.key ≡ key → ((m : ℕ) (later : Put) → n < m → slice_get puts m ≡ Some later → later.key ≢ key) → IsLastValue key put.value (put_entries puts)
last_entry key [] n put at is later = absurd (cc)
last_entry key (p ∷ ps) zero put at is later = let e : p ≡ put = cc in
    ([], put_entries ps, ap (λ (x : Put). (x.key, x.value) ∷ put_entries ps) e ∙ ap (λ (k : List ℕ). (k, put.value) ∷ put_entries ps) is, lacks_all key ps (λ m q there. later (suc m) q (omega arith) there))
last_entry key (p ∷ ps) (suc n) put at is later = let i = last_entry key ps n put at is (λ m q more there. later (suc m) q (omega (arith, more)) there) in
    ((p.key, p.value) ∷ i.0, i.1, ap (λ (l : List Entry). (p.key, p.value) ∷ l) i.2, i.3)

module _ (w : List ℕ) (g : Ledger) (cells : ℕ) (ok : IsWellFormed w g cells) where
  same_number : (m n j k : ℕ) → Some (RecordCell m j) ≡ Some (RecordCell n k) → m ≡ n
  same_number m n j k e = cc

  own_cells : HaveOwnCells g.puts
  own_cells m n a b x y same =
      let first : owner g (a.cell + 0) ≡ Some (RecordCell m 0) = ok.puts.records m 0 a x (omega arith) in
      let second : owner g (b.cell + 0) ≡ Some (RecordCell n 0) = ok.puts.records n 0 b y (omega arith) in
      let number : m ≡ n = same_number m n 0 0 (sym first ∙ ap (λ (c : ℕ). owner g (c + 0)) same ∙ second) in
      let there : Some a ≡ Some b = sym x ∙ ap (λ (i : ℕ). slice_get g.puts i) number ∙ y in
      let e : a ≡ b = cc in ap (λ (p : Put). p.value) e

  pub value_is : (n : ℕ) (put : Put) → slice_get g.puts n ≡ Some put → record_value g.puts put.cell ≡ put.value
  value_is n put at = value_at_cell g.puts own_cells n put at

  abbrev pub valued_by : (ℕ → List ℕ) → Option ℕ → Option (List ℕ)
  valued_by v None = None
  valued_by v (Some cell) = Some (v cell)

  pub value_found : (k : List ℕ) (o : Option ℕ) → MapsTo g.puts k o → valued_by (record_value g.puts) o ≡ map_of.get (table_made g.puts) k
  value_found k None none = sym ((gets_last.none (put_entries g.puts) k).1 (lacks_all k g.puts none))
  value_found k (Some cell) (n, put, last, is) =
      sym ((gets_last.some (put_entries g.puts) k (record_value g.puts cell)).1
      (subst (λ (v : List ℕ). IsLastValue k v (put_entries g.puts)) (sym (value_is n put last.is_there) ∙ ap (record_value g.puts) is) (last_entry k g.puts n put last.is_there last.same_key last.last)))
