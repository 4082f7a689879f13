-- One shard filled with all puts of a script.
use Rattle.std.proofs.Common.{◌≡◌, ℕ, zero, suc, ◌+◌, true, false, List, [], ◌∷◌, ◌++◌, length, take, drop, set, slice_get, Some, None, Result, Ok, Err, refl, sym, ◌∙◌, ap, subst, arith, append_assoc}
use Rattle.std.specs.Prelude.{IfErr, IfOk, is_err}
use Rattle.std.proofs.lemmas.List.{take-append-drop}
use Rattle.trie_image.specs.Stores.{stores_of}
use Rattle.trie_rule.specs.declared.views.WriteView.{WriteView}
use Rattle.trie_rule.specs.Rule.{opening_write_view}
use Rattle.trie_rule.specs.Seats.{CellsAt, WriterAt}
use Rattle.trie_writer.specs.declared.Full.{Full}
use Rattle.trie_writer.specs.Written.{LacksRoom, MakesPut, MayWrite, full_of, put_view}
use Rattle.shard_table.specs.Seats.{AreEach, IsFreeWriter}
use Rattle.load_work.proofs.Lists.{dropped}
use Rattle.script_text.specs.declared.spans.PutLine.{PutLine}
use Rattle.script_text.specs.Pieces.{LendsPutAt}
use Rattle.script_text.specs.Puts.{Batch, Put}
use Rattle.script_text.specs.Script.{puts_of}
use Rattle.script_run.specs.Legal.{shard_puts}
use Rattle.script_run.specs.Runs.{IsFullAt, MakesPuts}
use Rattle.script_run.specs.Steps.{StopsBefore}
use Rattle.script_run.proofs.Makes.{made_puts, makes_both}
use Rattle.script_run.proofs.Printed.{puts_snoc, take_next}
use Rattle.script_run.proofs.Room.{puts_parted}

-- ---- a put of a batch

-- the put was made, or there was no room for it
made_ok : (w w' : WriteView) (key value : List ℕ) (r : Result ℕ Full) → is_err r ≡ false → IfOk r (λ n. MakesPut w w' key value n)
    → (LacksRoom w key value → r ≡ Err (full_of w key value)) → (LacksRoom w key value → ⊥) × (w' ≡ put_view w key value (stores_of w.image w.used key value))
made_ok w w' key value (Ok n) e made full = ((λ lacks. let bad : Ok n ≡ Err (full_of w key value) = full lacks in absurd (cc)), made.next)
made_ok w w' key value (Err f) e made full = let bad : true ≡ false = e in absurd (cc)

pub next_idle : (v v' : WriteView) (key value : List ℕ) (r : Result ℕ Full) → is_err r ≡ false → IfOk r (λ k. MakesPut v v' key value k) → v'.begun ≡ None
next_idle v v' key value (Ok n) e made = ap (λ (w : WriteView). w.begun) made.next
next_idle v v' key value (Err f) e made = let bad : true ≡ false = e in absurd (cc)

pub next_made : (w v v' : WriteView) (puts : List Put) (n : ℕ) (line : PutLine) (r : Result ℕ Full) → LendsPutAt puts n line → is_err r ≡ false
    → IfOk r (λ k. MakesPut v v' line.key.now line.value.now k) → (LacksRoom v line.key.now line.value.now → r ≡ Err (full_of v line.key.now line.value.now))
    → MakesPuts w (take n puts) v → MakesPuts w (take (n + 1) puts) v'
next_made w v v' puts n line r (put, at, lent) e made full so_far =
    let one = made_ok v v' line.key.now line.value.now r e made full in
    subst (λ (l : List Put). MakesPuts w l v') (sym (take_next puts n put at))
    (makes_both w (take n puts) (put ∷ []) v v' so_far (made_puts v (line ∷ []) (put ∷ []) v' (lent, tt) one))

lacks_room : (w : WriteView) (key value : List ℕ) (r : Result ℕ Full) → is_err r ≡ true → IfErr r (λ _. LacksRoom w key value) → LacksRoom w key value
lacks_room w key value (Ok n) e h = let bad : false ≡ true = e in absurd (cc)
lacks_room w key value (Err f) e h = h

pub stops_here : (w v : WriteView) (puts : List Put) (n : ℕ) (line : PutLine) (r : Result ℕ Full) → LendsPutAt puts n line → is_err r ≡ true
    → IfErr r (λ _. LacksRoom v line.key.now line.value.now) → MakesPuts w (take n puts) v → StopsBefore w puts line.line
stops_here w v puts n line r (put, at, lent) e full so_far = record {
  made = take n puts;
  put = put;
  left = drop (suc n) puts;
  parts = sym (take-append-drop n puts) ∙ ap (λ (l : List Put). take n puts ++ l) (dropped puts n put at);
  view = v;
  makes = so_far;
  full =
      subst (λ (k : List ℕ). LacksRoom v k put.value) lent.2
      (subst (λ (x : List ℕ). LacksRoom v line.key.now x) lent.3 (lacks_room v line.key.now line.value.now r e full));
  is = lent.0;
}

-- ---- the one shard

pub one_shard : (puts : List Put) → shard_puts [] 0 puts ≡ puts
one_shard [] = refl
one_shard (p ∷ puts) = ap (λ (l : List Put). p ∷ l) (one_shard puts)

module _ (cells : ℕ) (batches : List Batch) (n : ℕ) (batch : Batch) (at : slice_get batches n ≡ Some batch) (v : WriteView)
    (made : MakesPuts (opening_write_view cells) (puts_of (take n batches)) v) where
  pub batch_made : (v' : WriteView) → MakesPuts v batch.puts v' → MakesPuts (opening_write_view cells) (puts_of (take (n + 1) batches)) v'
  batch_made v' own =
      subst (λ (l : List Put). MakesPuts (opening_write_view cells) l v') (sym (ap puts_of (take_next batches n batch at) ∙ puts_snoc (take n batches) batch))
      (makes_both (opening_write_view cells) (puts_of (take n batches)) batch.puts v v' made own)

  pub full_here : (line : ℕ) → StopsBefore v batch.puts line → IsFullAt cells [] [] (puts_of batches) 0 line
  full_here line stops =
      let before = puts_of (take n batches) in
      let after = puts_of (drop (suc n) batches) in record {
        made = before ++ stops.made;
        put = stops.put;
        left = stops.left ++ after;
        parts =
            one_shard (puts_of batches) ∙ puts_parted batches n batch at ∙ ap (λ (l : List Put). before ++ (l ++ after)) stops.parts
            ∙ ap (λ (l : List Put). before ++ l) (append_assoc stops.made (stops.put ∷ stops.left) after)
            ∙ sym (append_assoc before stops.made (stops.put ∷ (stops.left ++ after)));
        view = stops.view;
        makes = makes_both (opening_write_view cells) before stops.made v stops.view made stops.makes;
        full = stops.full;
        is = stops.is;
      }

-- the seat of the one shard is put back
pub seat_back : (shards : List CellsAt) (writers : List WriterAt) (c : CellsAt) (s : WriterAt) → length shards ≡ 1 → AreEach IsFreeWriter shards writers → slice_get shards 0 ≡ Some c
    → MayWrite c s → AreEach IsFreeWriter shards (set writers 0 s)
seat_back [] writers c s one are at may = absurd (omega (arith, one))
seat_back (x ∷ []) [] c s one are at may = absurd are
seat_back (x ∷ []) (t ∷ []) c s one are at may =
    let is : x ≡ c = cc in (subst (λ (y : CellsAt). IsFreeWriter y s) (sym is) (record { own = may.0; idle = may.1 }), tt)
seat_back (x ∷ []) (t ∷ u ∷ writers) c s one are at may = absurd are.1
seat_back (x ∷ y ∷ shards) writers c s one are at may = absurd (omega (arith, one))

-- what one shard's writer has made, the only one of its table
pub one_made : (cells : ℕ) (puts : List Put) (writers : List WriterAt) (s : WriterAt) → length writers ≡ 1 → MakesPuts (opening_write_view cells) puts s.knows
    → (i : ℕ) (t : WriterAt) → slice_get (set writers 0 s) i ≡ Some t → MakesPuts (opening_write_view cells) (shard_puts [] i puts) t.knows
one_made cells puts [] s one made i t at = absurd (omega (arith, one))
one_made cells puts (u ∷ []) s one made zero t at =
    let is : s ≡ t = cc in
    subst (λ (l : List Put). MakesPuts (opening_write_view cells) l t.knows) (sym (one_shard puts)) (subst (λ (x : WriterAt). MakesPuts (opening_write_view cells) puts x.knows) is made)
one_made cells puts (u ∷ []) s one made (suc i) t at = absurd (cc)
one_made cells puts (u ∷ z ∷ writers) s one made i t at = absurd (omega (arith, one))
