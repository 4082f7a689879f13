-- The puts of a batch as a shard's writer makes them, and as the script has them.
use Rattle.std.proofs.Common.{◌≡◌, ℕ, Bool, true, false, cond, List, [], ◌∷◌, ◌++◌, refl, sym, ◌∙◌, ap, subst, append_assoc}
use Rattle.std.specs.Prelude.{nat_eq}
use Rattle.std.proofs.lemmas.List.{append-nil, map-append}
use Rattle.std.proofs.lemmas.List.Elements.{filter-append}
use Rattle.key_types.specs.Table.{Entry}
use Rattle.trie_image.specs.declared.Put.{Put as CellPut}
use Rattle.trie_image.specs.Publish.{put_at}
use Rattle.trie_image.specs.Stores.{stores_of}
use Rattle.trie_rule.specs.declared.views.WriteView.{WriteView}
use Rattle.trie_rule.specs.Rule.{opening_write_view}
use Rattle.trie_writer.specs.Written.{LacksRoom, put_view}
use Rattle.shard_freeze.specs.Sorted.{put_entries}
use Rattle.shard_table.specs.Seats.{AreEach}
use Rattle.shard_table.specs.Shards.{shard_index}
use Rattle.script_text.specs.Pieces.{LendsPut}
use Rattle.load_work.specs.Puts.{Makes, StopsAt, goes_to, puts_of as lines_to}
use Rattle.script_text.specs.Puts.{Put}
use Rattle.script_text.specs.declared.spans.PutLine.{PutLine}
use Rattle.script_text.specs.Script.{entries_of}
use Rattle.script_run.specs.Legal.{shard_puts}
use Rattle.script_run.specs.Runs.{IsFullAt, MakesPuts}

-- ---- the puts of a shard

module _ (bounds : List (List ℕ)) (i : ℕ) where
  kept_by : (s t : Bool) (p : PutLine) (q : Put) (lines : List PutLine) (puts : List Put) → s ≡ t → LendsPut p q → AreEach LendsPut lines puts
      → AreEach LendsPut (cond s (p ∷ lines) lines) (cond t (q ∷ puts) puts)
  kept_by true true p q lines puts e h hs = (h, hs)
  kept_by true false p q lines puts e h hs = cc
  kept_by false true p q lines puts e h hs = cc
  kept_by false false p q lines puts e h hs = hs

  pub lent_shard : (lines : List PutLine) (puts : List Put) → AreEach LendsPut lines puts → AreEach LendsPut (lines_to bounds i lines) (shard_puts bounds i puts)
  lent_shard [] [] h = tt
  lent_shard [] (q ∷ puts) h = absurd h
  lent_shard (p ∷ lines) [] h = absurd h
  lent_shard (p ∷ lines) (q ∷ puts) (h, hs) =
      kept_by (goes_to bounds i p) (nat_eq (shard_index bounds q.partition) i) p q (lines_to bounds i lines) (shard_puts bounds i puts)
      (ap (λ (s : List ℕ). nat_eq (shard_index bounds s) i) h.1) h (lent_shard lines puts hs)

-- the parts of lists that belong together
pub each_parted : (made : List PutLine) (put : PutLine) (left : List PutLine) (puts : List Put) → AreEach LendsPut (made ++ put ∷ left) puts
    → (made' : List Put) × (put' : Put) × (left' : List Put) × (puts ≡ made' ++ put' ∷ left') × AreEach LendsPut made made' × LendsPut put put'
each_parted [] put left [] h = absurd h
each_parted [] put left (q ∷ puts) (h, hs) = ([], q, puts, refl, tt, h)
each_parted (p ∷ made) put left [] h = absurd h
each_parted (p ∷ made) put left (q ∷ puts) (h, hs) =
    let r = each_parted made put left puts hs in (q ∷ r.0, r.1, r.2, ap (λ (l : List Put). q ∷ l) r.3, (h, r.4), r.5)

pub each_parted_back : (lines : List PutLine) (made' : List Put) (put' : Put) (left' : List Put) → AreEach LendsPut lines (made' ++ put' ∷ left')
    → (made : List PutLine) × (put : PutLine) × (left : List PutLine) × (lines ≡ made ++ put ∷ left) × AreEach LendsPut made made' × LendsPut put put'
each_parted_back [] [] put' left' h = absurd h
each_parted_back [] (q ∷ made') put' left' h = absurd h
each_parted_back (p ∷ lines) [] put' left' (h, hs) = ([], p, lines, refl, tt, h)
each_parted_back (p ∷ lines) (q ∷ made') put' left' (h, hs) =
    let r = each_parted_back lines made' put' left' hs in (p ∷ r.0, r.1, r.2, ap (λ (l : List PutLine). p ∷ l) r.3, (h, r.4), r.5)

-- ---- they are made

-- a put of this key and value, and those behind it
abbrev Goes : WriteView → List Put → WriteView → List ℕ → List ℕ → Type 0
Goes w puts w' key value = (LacksRoom w key value → ⊥) × MakesPuts (put_view w key value (stores_of w.image w.used key value)) puts w'

abbrev GoesLent : WriteView → List PutLine → WriteView → List ℕ → List ℕ → Type 0
GoesLent w lines w' key value = (LacksRoom w key value → ⊥) × Makes (put_view w key value (stores_of w.image w.used key value)) lines w'

pub made_puts : (w : WriteView) (lines : List PutLine) (puts : List Put) (w' : WriteView) → AreEach LendsPut lines puts → Makes w lines w' → MakesPuts w puts w'
made_puts w [] [] w' h m = m
made_puts w [] (q ∷ puts) w' h m = absurd h
made_puts w (p ∷ lines) [] w' h m = absurd h
made_puts w (p ∷ lines) (q ∷ puts) w' (h, hs) m =
    let next = put_view w p.key.now p.value.now (stores_of w.image w.used p.key.now p.value.now) in
    let own : Goes w puts w' p.key.now p.value.now = (m.0, made_puts next lines puts w' hs m.1) in
    subst (λ (k : List ℕ). Goes w puts w' k q.value) h.2 (subst (λ (v : List ℕ). Goes w puts w' p.key.now v) h.3 own)

pub made_lines : (w : WriteView) (lines : List PutLine) (puts : List Put) (w' : WriteView) → AreEach LendsPut lines puts → MakesPuts w puts w' → Makes w lines w'
made_lines w [] [] w' h m = m
made_lines w [] (q ∷ puts) w' h m = absurd h
made_lines w (p ∷ lines) [] w' h m = absurd h
made_lines w (p ∷ lines) (q ∷ puts) w' (h, hs) m =
    let key = q.partition ++ q.clustering in
    let next = put_view w key q.value (stores_of w.image w.used key q.value) in
    let own : GoesLent w lines w' key q.value = (m.0, made_lines next lines puts w' hs m.1) in
    subst (λ (k : List ℕ). GoesLent w lines w' k p.value.now) (sym h.2) (subst (λ (v : List ℕ). GoesLent w lines w' key v) (sym h.3) own)

pub puts_made : (w : WriteView) (puts : List Put) (w' : WriteView) → MakesPuts w puts w' → put_entries w'.made ≡ put_entries w.made ++ entries_of puts
puts_made w [] w' m = ap (λ (v : WriteView). put_entries v.made) m ∙ sym (append-nil (put_entries w.made))
puts_made w (p ∷ puts) w' m =
    let key = p.partition ++ p.clustering in
    let one : CellPut = put_at key p.value w.used in
    puts_made (put_view w key p.value (stores_of w.image w.used key p.value)) puts w' m.1
    ∙ ap (λ (es : List Entry). es ++ entries_of puts) (map-append (λ (q : CellPut). (q.key, q.value)) w.made (one ∷ []))
    ∙ append_assoc (put_entries w.made) ((key, p.value) ∷ []) (entries_of puts)

pub makes_both : (w : WriteView) (xs ys : List Put) (v w' : WriteView) → MakesPuts w xs v → MakesPuts v ys w' → MakesPuts w (xs ++ ys) w'
makes_both w [] ys v w' m n = subst (λ (u : WriteView). MakesPuts u ys w') m n
makes_both w (x ∷ xs) ys v w' m n =
    let key = x.partition ++ x.clustering in
    (m.0, makes_both (put_view w key x.value (stores_of w.image w.used key x.value)) xs ys v w' m.1 n)

pub makes_parted : (w : WriteView) (xs ys : List Put) (w' : WriteView) → MakesPuts w (xs ++ ys) w' → (v : WriteView) × MakesPuts w xs v × MakesPuts v ys w'
makes_parted w [] ys w' m = (w, refl, m)
makes_parted w (x ∷ xs) ys w' m =
    let key = x.partition ++ x.clustering in
    let r = makes_parted (put_view w key x.value (stores_of w.image w.used key x.value)) xs ys w' m.1 in (r.0, (m.0, r.1), r.2)

pub makes_one : (w : WriteView) (xs : List Put) (v v' : WriteView) → MakesPuts w xs v → MakesPuts w xs v' → v ≡ v'
makes_one w [] v v' m n = m ∙ sym n
makes_one w (x ∷ xs) v v' m n =
    let key = x.partition ++ x.clustering in makes_one (put_view w key x.value (stores_of w.image w.used key x.value)) xs v v' m.1 n.1

pub shard_both : (bounds : List (List ℕ)) (i : ℕ) (xs ys : List Put) → shard_puts bounds i (xs ++ ys) ≡ shard_puts bounds i xs ++ shard_puts bounds i ys
shard_both bounds i xs ys = filter-append (λ (p : Put). nat_eq (shard_index bounds p.partition) i) xs ys

-- ---- a shard without room

module _ (cells : ℕ) (bounds : List (List ℕ)) (before puts : List Put) (lines : List PutLine) (i line : ℕ) (lent : AreEach LendsPut lines puts) (view : WriteView)
    (base : MakesPuts (opening_write_view cells) (shard_puts bounds i before) view) where
  pub full_puts : (t : WriteView) → StopsAt view (lines_to bounds i lines) line t → IsFullAt cells bounds before puts i line
  full_puts t stops =
      let p = each_parted stops.made stops.put stops.left (shard_puts bounds i puts) (subst (λ (l : List PutLine). AreEach LendsPut l (shard_puts bounds i puts)) stops.puts_are (lent_shard bounds i lines puts lent)) in
      record {
        made = p.0;
        put = p.1;
        left = p.2;
        parts = p.3;
        view = t;
        makes = makes_both (opening_write_view cells) (shard_puts bounds i before) p.0 view t base (made_puts view stops.made p.0 t p.4 stops.makes);
        full = subst (λ (k : List ℕ). LacksRoom t k p.1.value) p.5.2 (subst (λ (v : List ℕ). LacksRoom t stops.put.key.now v) p.5.3 stops.full);
        is = stops.line_is ∙ p.5.0;
      }

  pub full_lines : IsFullAt cells bounds before puts i line → (t : WriteView) × StopsAt view (lines_to bounds i lines) line t
  full_lines full =
      let p = each_parted_back (lines_to bounds i lines) full.made full.put full.left (subst (AreEach LendsPut (lines_to bounds i lines)) full.parts (lent_shard bounds i lines puts lent)) in
      let parts = makes_parted (opening_write_view cells) (shard_puts bounds i before) full.made full.view full.makes in
      let same : parts.0 ≡ view = makes_one (opening_write_view cells) (shard_puts bounds i before) parts.0 view parts.1 base in
      let makes : MakesPuts view full.made full.view = subst (λ (v : WriteView). MakesPuts v full.made full.view) same parts.2 in (
        full.view,
        record {
          made = p.0;
          put = p.1;
          left = p.2;
          puts_are = p.3;
          makes = made_lines view p.0 full.made full.view p.4 makes;
          full =
              subst (λ (k : List ℕ). LacksRoom full.view k p.1.value.now) (sym p.5.2)
              (subst (λ (v : List ℕ). LacksRoom full.view (full.put.partition ++ full.put.clustering) v) (sym p.5.3) full.full);
          line_is = full.is ∙ sym p.5.0;
        },
      )
