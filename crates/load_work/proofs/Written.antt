-- The puts that a writer made, one after the other.
use Rattle.std.proofs.Common.{◌≡◌, ℕ, suc, ◌+◌, ◌<◌, true, List, [], ◌∷◌, ◌++◌, length, take, drop, slice_index_or, refl, sym, subst}
use Rattle.trie_rule.specs.declared.views.WriteView.{WriteView}
use Rattle.script_text.specs.declared.spans.PutLine.{PutLine}
use Rattle.load_work.specs.Puts.{Makes, StopsAt, HasNoRoom, after_put, goes_to, puts_of}
use Rattle.load_work.proofs.Lists.{any_default, filter_next, filter_parted}

pub makes_more : (w w' w'' : WriteView) (ps qs : List PutLine) → Makes w ps w' → Makes w' qs w'' → Makes w (ps ++ qs) w''
makes_more w w' w'' [] qs a b = subst (λ (v : WriteView). Makes v qs w'') a b
makes_more w w' w'' (p ∷ ps) qs (room, a) b = (room, makes_more (after_put w p) w' w'' ps qs a b)

-- the writer made the shard's puts before put number k, and comes to this one
module _ (bounds : List (List ℕ)) (i : ℕ) (w w' w'' : WriteView) (puts : List PutLine) (k : ℕ) (d : PutLine) (less : k < length puts) (makes : Makes w (puts_of bounds i (take k puts)) w') where
  abbrev here : PutLine
  here = slice_index_or puts k d

  pub goes_on : Makes w' (puts_of bounds i (here ∷ [])) w'' → Makes w (puts_of bounds i (take (k + 1) puts)) w''
  goes_on more = subst (λ (l : List PutLine). Makes w l w'') (sym (filter_next (goes_to bounds i) puts k here less (any_default puts k d here less))) (makes_more w w' w'' (puts_of bounds i (take k puts)) (puts_of bounds i (here ∷ [])) makes more)

  pub stops : goes_to bounds i here ≡ true → w'' ≡ w' → HasNoRoom w' here → StopsAt w (puts_of bounds i puts) here.line w''
  stops goes same full = record {
    made = puts_of bounds i (take k puts);
    put = here;
    left = puts_of bounds i (drop (suc k) puts);
    puts_are = filter_parted (goes_to bounds i) puts k here less (any_default puts k d here less) goes;
    makes = subst (λ (v : WriteView). Makes w (puts_of bounds i (take k puts)) v) (sym same) makes;
    full = subst (λ (v : WriteView). HasNoRoom v here) (sym same) full;
    line_is = refl;
  }
