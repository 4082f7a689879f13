-- The nodes on the way of a walk, when the walk's key changes behind them, when one is added and when the last one is passed.
use Rattle.std.proofs.Common.{◌≡◌, ℕ, zero, suc, ◌+◌, ◌-◌, ◌*◌, ◌<◌, ◌≤◌, nat_lt, Bool, true, false, cond, List, [], ◌∷◌, ◌++◌, length, take, refl, sym, ap, ◌∙◌, subst, arith, append_assoc, append-nil, length-append, mul_comm}
use Rattle.std.proofs.lemmas.Bool.{ltb-false}
use Rattle.std.proofs.lemmas.List.{length-take-le}
use Rattle.std.proofs.lemmas.Nat.{mul-add-lt}
use Rattle.key_types.specs.Table.{Entry}
use Rattle.trie_image.specs.declared.Ledger.{Ledger}
use Rattle.trie_image.specs.Image.{reading}
use Rattle.trie_image.specs.Paths.{HasPath}
use Rattle.shard_freeze.specs.declared.walk.Level.{Level}
use Rattle.shard_freeze.specs.Listing.{prefixed, children_entries, entries_seen}
use Rattle.shard_freeze.specs.Walk.{level_left, levels_left, IsLevel, IsStack, steps_under, level_size, levels_size, kept_levels}
use Rattle.shard_freeze.proofs.Left.{under_past}

-- ---- keys with the same first bytes

pub same_front : (key bs : List ℕ) (n d : ℕ) → n ≤ d → d ≤ length key → take n (take d key ++ bs) ≡ take n key
same_front key bs zero d l m = refl
same_front key bs (suc n) zero l m = absurd (omega arith)
same_front [] bs (suc n) (suc d) l m = absurd (omega arith)
same_front (x ∷ key) bs (suc n) (suc d) l m = ap (λ (k : List ℕ). x ∷ k) (same_front key bs n d (omega arith) (omega arith))

long_front : (key bs : List ℕ) (n d : ℕ) → n ≤ d → d ≤ length key → n ≤ length (take d key ++ bs)
long_front key bs n d l m = omega (arith, length-append (take d key) bs, length-take-le d key m)

module _ (g : Ledger) where
  pub rekey_level : (key bs : List ℕ) (d : ℕ) (l : Level) → IsLevel g key l → l.depth ≤ d → d ≤ length key → IsLevel g (take d key ++ bs) l
  rekey_level key bs d l is low high = record {
    depth = long_front key bs l.depth d low high;
    next = is.next;
    path = λ more. subst (HasPath g l.node) (sym (same_front key bs l.depth d low high)) (is.path more);
    kind = is.kind;
  }

  pub low_high : (key : List ℕ) (low high : ℕ) (ls : List Level) → IsStack g key low high ls → low ≤ high
  low_high key low high [] h = h
  low_high key low high (l ∷ ls) (le, is, are) = omega (arith, le, low_high key l.depth high ls are)

  pub rekey_levels : (key bs : List ℕ) (d low high : ℕ) (ls : List Level) → IsStack g key low high ls → high ≤ d → d ≤ length key → IsStack g (take d key ++ bs) low high ls
  rekey_levels key bs d low high [] h most fits = h
  rekey_levels key bs d low high (l ∷ ls) (le, is, are) most fits =
      (le, rekey_level key bs d l is (omega (arith, low_high key l.depth high ls are, most)) fits, rekey_levels key bs d l.depth high ls are most fits)

  pub raise_levels : (key : List ℕ) (low high more : ℕ) (ls : List Level) → IsStack g key low high ls → high ≤ more → IsStack g key low more ls
  raise_levels key low high more [] h le = omega arith
  raise_levels key low high more (l ∷ ls) (least, is, are) le = (least, is, raise_levels key l.depth high more ls are le)

  pub push_level : (key : List ℕ) (low more : ℕ) (top : Level) (ls : List Level) → IsStack g key low top.depth ls → IsLevel g key top → top.depth ≤ more → IsStack g key low more (ls ++ top ∷ [])
  push_level key low more top [] h is le = (h, is, le)
  push_level key low more top (l ∷ ls) (least, has, are) is le = (least, has, push_level key l.depth more top ls are is le)

  pub pop_level : (key : List ℕ) (low high : ℕ) (top : Level) (ls : List Level) → IsStack g key low high (ls ++ top ∷ []) → IsStack g key low top.depth ls × IsLevel g key top
  pop_level key low high top [] (least, is, le) = (least, is)
  pop_level key low high top (l ∷ ls) (least, has, are) = let i = pop_level key l.depth high top ls are in ((least, has, i.0), i.1)

  pub kept_are : (key : List ℕ) (more : ℕ) (top : Level) (ls : List Level) → IsStack g key 0 top.depth ls → IsLevel g key top → top.depth ≤ more → IsStack g key 0 more (kept_levels ls top)
  kept_are key more top ls are is le = by (nat_lt top.next 256) refl
    where
      by : (b : Bool) → nat_lt top.next 256 ≡ b → IsStack g key 0 more (cond b (ls ++ top ∷ []) ls)
      by true e = push_level key 0 more top ls are is le
      by false e = raise_levels key 0 top.depth more ls are le

module _ (w : List ℕ) (value : ℕ → List ℕ) where
  pub level_same : (key bs : List ℕ) (d : ℕ) (l : Level) → l.depth ≤ d → d ≤ length key → level_left (reading w) value (take d key ++ bs) l ≡ level_left (reading w) value key l
  level_same key bs d l low high = ap (λ (q : List ℕ). prefixed q (children_entries (reading w) value (entries_seen (reading w) value (2047 - l.depth)) l.node l.next (256 - l.next))) (same_front key bs l.depth d low high)

  pub levels_same : (g : Ledger) (key bs : List ℕ) (d low high : ℕ) (ls : List Level) → IsStack g key low high ls → high ≤ d → d ≤ length key → levels_left (reading w) value (take d key ++ bs) ls ≡ levels_left (reading w) value key ls
  levels_same g key bs d low high [] h most fits = refl
  levels_same g key bs d low high (l ∷ ls) (le, is, are) most fits =
      ap (λ (es : List Entry). es ++ level_left (reading w) value (take d key ++ bs) l) (levels_same g key bs d l.depth high ls are most fits)
      ∙ ap (λ (es : List Entry). levels_left (reading w) value key ls ++ es) (level_same key bs d l (omega (arith, low_high g key l.depth high ls are, most)) fits)

  pub pushed_left : (key : List ℕ) (top : Level) (ls : List Level) → levels_left (reading w) value key (ls ++ top ∷ []) ≡ level_left (reading w) value key top ++ levels_left (reading w) value key ls
  pushed_left key top [] = sym (append-nil (level_left (reading w) value key top))
  pushed_left key top (l ∷ ls) = ap (λ (es : List Entry). es ++ level_left (reading w) value key l) (pushed_left key top ls) ∙ append_assoc (level_left (reading w) value key top) (levels_left (reading w) value key ls) (level_left (reading w) value key l)

  pub passed_left : (key : List ℕ) (l : Level) → 256 ≤ l.next → level_left (reading w) value key l ≡ []
  passed_left key l past = ap (prefixed (take l.depth key)) (under_past w value (entries_seen (reading w) value (2047 - l.depth)) l.node l.next past)

  pub kept_left : (key : List ℕ) (top : Level) (ls : List Level) → levels_left (reading w) value key (kept_levels ls top) ≡ level_left (reading w) value key top ++ levels_left (reading w) value key ls
  kept_left key top ls = by (nat_lt top.next 256) refl
    where
      by : (b : Bool) → nat_lt top.next 256 ≡ b → levels_left (reading w) value key (cond b (ls ++ top ∷ []) ls) ≡ level_left (reading w) value key top ++ levels_left (reading w) value key ls
      by true e = pushed_left key top ls
      by false e = ap (λ (es : List Entry). es ++ levels_left (reading w) value key ls) (sym (passed_left key top (ltb-false top.next 256 e)))

-- ---- sizes

pub weight_more : (n : ℕ) → steps_under (suc n) ≡ 1 + 257 * (1 + steps_under n)
unfolding steps_under
weight_more n = refl

pub pushed_size : (top : Level) (ls : List Level) → levels_size (ls ++ top ∷ []) ≡ level_size top + levels_size ls
pushed_size top [] = refl
pushed_size top (l ∷ ls) = omega (arith, pushed_size top ls)

pub kept_size : (top : Level) (ls : List Level) → levels_size (kept_levels ls top) ≤ level_size top + levels_size ls
kept_size top ls = by (nat_lt top.next 256) refl
  where
    by : (b : Bool) → nat_lt top.next 256 ≡ b → levels_size (cond b (ls ++ top ∷ []) ls) ≤ level_size top + levels_size ls
    by true e = omega (arith, pushed_size top ls)
    by false e = omega arith

-- a later byte, and all steps under the child at an earlier one
pub later_size : (next byte x : ℕ) → next ≤ byte → byte < 256 → (257 - (byte + 1)) * (1 + x) + x < (257 - next) * (1 + x)
later_size next byte x l m = let more = mul-add-lt (257 - (byte + 1)) (1 + x) x (257 - next) (omega arith) (omega arith) in let turned = mul_comm (1 + x) (257 - next) in omega (arith, more, turned)
