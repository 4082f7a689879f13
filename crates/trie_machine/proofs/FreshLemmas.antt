-- What is fresh stays so when a put is added, what the map has is fresh, and what is fresh is a legal answer.
use Rattle.std.proofs.Common.{◌≡◌, ℕ, ◌+◌, ◌<◌, ◌≤◌, max, List, [], ◌∷◌, ◌++◌, length, take, slice_get, Option, Some, None, sym, subst, refl, arith, length-append}
use Rattle.trie_image.specs.declared.Put.{Put}
use Rattle.trie_image.specs.declared.Rec.{Rec}
use Rattle.trie_image.specs.Puts.{MapsTo, IsRecOf, HasLastPut}
use Rattle.trie_machine.specs.Fresh.{NoPutBetween, IsFresh, answer_at, IsAnswer}
use Rattle.trie_machine.specs.Laws.{LawLongerAnswer}
use Rattle.trie_machine.proofs.Lists.{get_inside, get_longer, get_shorter, get_last, get_taken, taken_has, take_longer}

-- what the map has is fresh for every base
pub fresh_map : (puts : List Put) (key : List ℕ) (base : ℕ) (o : Option ℕ) → MapsTo puts key o → IsFresh puts key base o
fresh_map puts key base None none_ = λ n put low high at. none_ n put at
fresh_map puts key base (Some cell) (n, put, last, is) = (n, put, last.is_there, last.same_key, is, λ m later low high at. last.last m later (omega arith) at)

module _ (puts : List Put) (new : Put) (key : List ℕ) (base : ℕ) (most : base ≤ length puts) where
  between_longer : (low : ℕ) → NoPutBetween puts key low base → NoPutBetween (puts ++ new ∷ []) key low base
  between_longer low h n put above below at = h n put above below (get_shorter puts (new ∷ []) n put (omega arith) at)

  -- what was fresh before a put is so after it
  pub fresh_longer : (o : Option ℕ) → IsFresh puts key base o → IsFresh (puts ++ new ∷ []) key base o
  fresh_longer None h = between_longer 0 h
  fresh_longer (Some cell) (n, put, at, same, is, h) = (n, put, get_longer puts (new ∷ []) n put at, same, is, between_longer (n + 1) h)

  -- and so is the put itself, for its key
  pub fresh_new : (o : Option ℕ) → key ≡ new.key → o ≡ Some new.cell → IsFresh (puts ++ new ∷ []) key base o
  fresh_new o same is = subst (IsFresh (puts ++ new ∷ []) key base) (sym is) (length puts, new, get_last puts new, sym same, refl, λ n put low high at. absurd (omega arith))

-- no put of the key is among the first ones
pub absent_answer : (puts : List Put) (key : List ℕ) (base : ℕ) → base ≤ length puts → IsFresh puts key base None → IsAnswer puts base key None (answer_at base None)
absent_answer puts key base most fresh = record {
  at_is = refl;
  least = omega arith;
  most = most;
  map = λ m put at. let t = get_taken base puts m put at in fresh m put (omega arith) t.0 t.1;
}

-- the found record is that of the last put of the key among the first ones
pub found_answer : (puts : List Put) (key : List ℕ) (base : ℕ) (rec : Rec) (n : ℕ) (put : Put) → base ≤ length puts → put.key ≡ key → IsRecOf puts n put rec → NoPutBetween puts key (n + 1) base → IsAnswer puts base key (Some rec) (answer_at base (Some rec))
found_answer puts key base rec n put most same is none_ =
    let inside : n < length puts = get_inside puts n put is.is_there in let number : rec.number ≡ n + 1 = is.number in
    let there : slice_get (take (max base rec.number) puts) n ≡ Some put = taken_has (max base rec.number) puts n put (omega arith) is.is_there in record {
      at_is = refl;
      least = omega arith;
      most = omega arith;
      map = (n, put, record { is_there = there; same_key = same; last = λ m later above at. let t = get_taken (max base rec.number) puts m later at in none_ m later (omega arith) (omega (arith, t.0)) t.1 }, record { is_there = there; cell = is.cell; number = is.number; len = is.len });
    }

pub longer_answer : LawLongerAnswer
longer_answer puts more base at key hit ok = let long = length-append puts more in record {
  at_is = ok.at_is;
  least = ok.least;
  most = omega (arith, ok.most);
  map = subst (λ (l : List Put). HasLastPut l key hit) (sym (take_longer at puts more ok.most)) ok.map;
}
