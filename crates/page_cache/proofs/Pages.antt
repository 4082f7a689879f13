-- Pages that were read, and pages that are held before and after one of them is used.
use Rattle.std.proofs.Common.{◌≡◌, ℕ, zero, suc, ◌-◌, ◌*◌, ◌≤◌, Bool, true, false, List, [], ◌∷◌, length, take, drop, min, Option, Some, None, Result, Ok, Err, IsErr, IsSome, IfSome, refl, sym, ◌∙◌, ap, subst, arith}
use Rattle.std.proofs.lemmas.List.{take_all, take_min}
use Rattle.std.proofs.lemmas.Grind.{common_steps}
use Rattle.std.specs.Prelude.{if◌then◌else◌, ◌==◌, ◌&&◌, cond, is_some, IsTrue}
use Rattle.std.specs.Option.{option_map_or}
use Rattle.lru.specs.LruCache.{LruCache, lru_cache, promoted, put_entries}
use Rattle.std.specs.Map.{keys_of, lookup, lookup_entry, remove_entry}
use Rattle.std.specs.declared.cmp.Ordering.{Ordering}
use Rattle.std.specs.declared.cmp.Ordering.TheVariants.{Less, Equal, Greater}
use Rattle.std.specs.FinMap as map
use Rattle.std.specs.Ordering.{nat_cmp, ordering_then, eq_by_cmp, is_eq}
use Rattle.outside.specs.declared.store.FileId.{FileId}
use Rattle.outside.specs.declared.store.Part.{Part}
use Rattle.outside.specs.declared.stream.Failed.{Failed}
use Rattle.outside.specs.Files.{Files, bytes_of, ReadsBytes, file_cmp, place_of, part_at, part_at-place_of}
use Rattle.outside.specs.Pages.{page_of}
use Rattle.page_cache.specs.declared.key.PageKey.{PageKey}
use Rattle.page_cache.specs.Key.{same_page, same_page_equiv, same_number}
use Rattle.page_cache.specs.Pages.{HeldPages, Honest, AreOf, Uses, others, used_last}

-- what a read of a whole page gives is the page
pub is_page : (files : Option Files) (file : FileId) (number at n : ℕ) (into b : List ℕ) → ReadsBytes {E = Failed} files file at (Ok n) into → at ≡ number * 4096 → length into ≡ 4096 → b ≡ take n into
    → IfSome files (λ m. b ≡ page_of (bytes_of m file) number)
is_page None file number at n into b r a l e = tt
is_page (Some m) file number at n into b r a l e =
    let xs = drop at (bytes_of m file) in
    let four : n ≡ min 4096 (length xs) = r.0 ∙ ap (λ k. min k (length xs)) l in
    let start : at ≡ 4096 * number = omega arith in
    e ∙ r.1 ∙ ap (λ k. take k xs) four ∙ take_min 4096 xs ∙ ap (λ k. take 4096 (drop k (bytes_of m file))) start

-- ---- the same page

both_true : (a b : Bool) → IsTrue (a && b) → (a ≡ true) × (b ≡ true)
both_true true b h = (refl, h)
both_true false true h = cc
both_true false false h = cc

both_tie : (a b : Ordering) → is_eq (ordering_then a b) ≡ true → (a ≡ Equal) × (b ≡ Equal)
both_tie Equal Equal h = (refl, refl)
both_tie Equal Less h = cc
both_tie Equal Greater h = cc
both_tie Less b h = cc
both_tie Greater b h = cc

part_equal : (p q : Part) → place_of p ≡ place_of q → p ≡ q
part_equal p q h = sym (part_at-place_of p) ∙ ap part_at h ∙ part_at-place_of q

file_equal : (a b : FileId) → eq_by_cmp file_cmp a b ≡ true → a ≡ b
file_equal a b h =
    let two = both_tie (nat_cmp a.generation b.generation) (nat_cmp (place_of a.part) (place_of b.part)) h in
    let g = map.nat_cmp-IsAntisymmetric a.generation b.generation two.0 in
    let p = part_equal a.part b.part (map.nat_cmp-IsAntisymmetric (place_of a.part) (place_of b.part) two.1) in
    λ i. record { generation = g i; part = p i }

pub same_key : (a b : PageKey) → same_page a b ≡ true → a ≡ b
same_key a b h =
    let two = both_true (eq_by_cmp file_cmp a.file b.file) (a.number == b.number) h in
    let f = file_equal a.file b.file two.0 in
    let n = same_number a.number b.number two.1 in
    λ i. record { file = f i; number = n i }

-- the keys without one, of the entries without the one under it
other_keys : (key : PageKey) (es : HeldPages) → keys_of (remove_entry (same_page key) es) ≡ others key (keys_of es)
other_keys key [] = refl
other_keys key (e ∷ es) = by (same_page key e.0) (other_keys key es)
  where
    by : (t : Bool) → keys_of (remove_entry (same_page key) es) ≡ others key (keys_of es) → keys_of (cond t es (e ∷ remove_entry (same_page key) es)) ≡ (if t then keys_of es else e.0 ∷ others key (keys_of es))
    by true h = refl
    by false h = ap (λ ks. e.0 ∷ ks) h

-- an entry that is found
record Found (key : PageKey) (es : HeldPages) (e : PageKey × List ℕ) : Type 0 where
  pub same : same_page key e.0 ≡ true
  pub value : lookup (same_page key) es ≡ Some e.1
  pub count : suc (length (others key (keys_of es))) ≡ length es
  pub true_of : (files : Files) → AreOf files es → (e.1 ≡ page_of (bytes_of files e.0.file) e.0.number) × AreOf files (remove_entry (same_page key) es)

found : (key : PageKey) (es : HeldPages) (e : PageKey × List ℕ) → lookup_entry (same_page key) es ≡ Some e → Found key es e
found key [] e h = cc
found key (x ∷ es) e h = by (λ h. found key es e h) (same_page key x.0) refl h
  where
    by : (lookup_entry (same_page key) es ≡ Some e → Found key es e) → (t : Bool) → same_page key x.0 ≡ t → cond t (Some x) (lookup_entry (same_page key) es) ≡ Some e → Found key (x ∷ es) e
    by rest true s h =
        let here : x ≡ e = cc in
        record {
          same = subst (λ (y : PageKey × List ℕ). same_page key y.0 ≡ true) here s;
          value = ap (λ t. cond t (Some x.1) (lookup (same_page key) es)) s ∙ ap (λ (y : PageKey × List ℕ). Some y.1) here;
          count = ap (λ t. suc (length (if t then keys_of es else x.0 ∷ others key (keys_of es)))) s ∙ grind (arith, common_steps);
          true_of = λ files a. (subst (λ (y : PageKey × List ℕ). y.1 ≡ page_of (bytes_of files y.0.file) y.0.number) here a.0, subst (λ t. AreOf files (cond t es (x ∷ remove_entry (same_page key) es))) (sym s) a.1);
        }
    by rest false s h =
        let on = rest h in
        record {
          same = on.same;
          value = ap (λ t. cond t (Some x.1) (lookup (same_page key) es)) s ∙ on.value;
          count = ap (λ t. suc (length (if t then keys_of es else x.0 ∷ others key (keys_of es)))) s ∙ ap suc on.count;
          true_of = λ files a. let more = on.true_of files a.1 in (more.0, subst (λ t. AreOf files (cond t es (x ∷ remove_entry (same_page key) es))) (sym s) (a.0, more.1));
        }

-- none is found
none_found : (key : PageKey) (es : HeldPages) → lookup_entry (same_page key) es ≡ None → (lookup (same_page key) es ≡ None) × (others key (keys_of es) ≡ keys_of es)
none_found key [] h = (refl, refl)
none_found key (x ∷ es) h = by (λ h. none_found key es h) (same_page key x.0) h
  where
    by : (lookup_entry (same_page key) es ≡ None → (lookup (same_page key) es ≡ None) × (others key (keys_of es) ≡ keys_of es)) → (t : Bool) → cond t (Some x) (lookup_entry (same_page key) es) ≡ None
        → (cond t (Some x.1) (lookup (same_page key) es) ≡ None) × ((if t then keys_of es else x.0 ∷ others key (keys_of es)) ≡ x.0 ∷ keys_of es)
    by rest true h = cc
    by rest false h = let on = rest h in (on.0, ap (λ ks. x.0 ∷ ks) on.1)

-- what holds of the pages after a page was used
pub record After (key : PageKey) (old new : HeldPages) (files : Option Files) : Type 0 where
  pub honest : Honest files new
  pub keys : keys_of new ≡ used_last key (keys_of old)
  pub held : IsSome (lookup (same_page key) new)

first_held : (key : PageKey) (e : PageKey × List ℕ) (es : HeldPages) → same_page key e.0 ≡ true → IsSome (lookup (same_page key) (e ∷ es))
first_held key e es h = ap (λ t. is_some (cond t (Some e.1) (lookup (same_page key) es))) h

still_of : (files : Option Files) (key : PageKey) (es : HeldPages) (e : PageKey × List ℕ) → Found key es e → Honest files es → Honest files (e ∷ remove_entry (same_page key) es)
still_of None key es e f h = tt
still_of (Some m) key es e f h = f.true_of m h

promote_by : (key : PageKey) (es : HeldPages) (o : Option (PageKey × List ℕ)) (files : Option Files) → lookup_entry (same_page key) es ≡ o → length es ≤ 64 → is_some (lookup (same_page key) es) ≡ true → Honest files es
    → After key es (option_map_or (λ e. e ∷ remove_entry (same_page key) es) o es) files
promote_by key es None files h l some honest = let none = (none_found key es h).0 in cc
promote_by key es (Some e) files h l some honest =
    let f = found key es e h in
    let same = same_key key e.0 f.same in
    record {
      honest = still_of files key es e f honest;
      keys = ap (λ k. k ∷ keys_of (remove_entry (same_page key) es)) (sym same) ∙ ap (λ ks. key ∷ ks) (other_keys key es) ∙ sym (take_all 64 (key ∷ others key (keys_of es)) (omega (arith, f.count)));
      held = first_held key e (remove_entry (same_page key) es) f.same;
    }

after_promote : (key : PageKey) (old es new : HeldPages) (files : Option Files) → es ≡ old → new ≡ promoted (same_page key) es → length es ≤ 64 → is_some (lookup (same_page key) es) ≡ true → Honest files old → After key old new files
after_promote key old es new files e n l some honest =
    subst (λ (x : HeldPages). After key old x files) (sym n)
    (subst (λ (o : HeldPages). After key o (promoted (same_page key) es) files) e (promote_by key es (lookup_entry (same_page key) es) files refl l some (subst (Honest files) (sym e) honest)))

absent_by : (key : PageKey) (es : HeldPages) (o : Option (PageKey × List ℕ)) → lookup_entry (same_page key) es ≡ o → is_some (lookup (same_page key) es) ≡ false → o ≡ None
absent_by key es None h none = refl
absent_by key es (Some e) h none = let some = (found key es e h).value in cc

absent : (key : PageKey) (es : HeldPages) → is_some (lookup (same_page key) es) ≡ false → lookup_entry (same_page key) es ≡ None
absent key es none = absent_by key es (lookup_entry (same_page key) es) refl none

-- a page that is not held is not promoted
pub not_promoted : (key : PageKey) (es : HeldPages) → is_some (lookup (same_page key) es) ≡ false → promoted (same_page key) es ≡ es
not_promoted key es none = ap (λ o. option_map_or (λ e. e ∷ remove_entry (same_page key) es) o es) (absent key es none)

keys_take : (n : ℕ) (es : HeldPages) → keys_of (take n es) ≡ take n (keys_of es)
keys_take zero es = refl
keys_take (suc n) [] = refl
keys_take (suc n) (e ∷ es) = ap (λ ks. e.0 ∷ ks) (keys_take n es)

are_of_take : (m : Files) (n : ℕ) (es : HeldPages) → AreOf m es → AreOf m (take n es)
are_of_take m zero es h = tt
are_of_take m (suc n) [] h = tt
are_of_take m (suc n) (e ∷ es) h = (h.0, are_of_take m n es h.1)

with_page : (files : Option Files) (key : PageKey) (v : List ℕ) (es : HeldPages) → Honest files es → IfSome files (λ m. v ≡ page_of (bytes_of m key.file) key.number) → Honest files ((key, v) ∷ take 63 es)
with_page None key v es h e = tt
with_page (Some m) key v es h e = (e, are_of_take m 63 es h)

itself : (key : PageKey) → same_page key key ≡ true
itself key = same_page_equiv.refl key

put_new : (key : PageKey) (v : List ℕ) (es : HeldPages) (files : Option Files) → is_some (lookup (same_page key) es) ≡ false → Honest files es → IfSome files (λ m. v ≡ page_of (bytes_of m key.file) key.number)
    → After key es ((key, v) ∷ take 63 es) files
put_new key v es files none h e = record {
  honest = with_page files key v es h e;
  keys = ap (λ ks. key ∷ ks) (keys_take 63 es) ∙ ap (λ ks. key ∷ take 63 ks) (sym (none_found key es (absent key es none)).1);
  held = first_held key (key, v) (take 63 es) (itself key);
}

put_is : (key : PageKey) (v : List ℕ) (es : HeldPages) (cap : ℕ) → cap ≡ 64 → is_some (lookup (same_page key) es) ≡ false → put_entries same_page (lru_cache es cap) key v ≡ (key, v) ∷ take 63 es
put_is key v es cap c none =
    ap (λ o. option_map_or (λ e. (e.0, v) ∷ remove_entry (same_page key) es) o ((key, v) ∷ take (cap - 1) es)) (absent key es none) ∙ ap (λ n. (key, v) ∷ take (n - 1) es) c

after_put : (key : PageKey) (v : List ℕ) (old es new : HeldPages) (cap : ℕ) (files : Option Files) → es ≡ old → new ≡ put_entries same_page (lru_cache es cap) key v → cap ≡ 64 → is_some (lookup (same_page key) es) ≡ false → Honest files old
    → IfSome files (λ m. v ≡ page_of (bytes_of m key.file) key.number) → After key old new files
after_put key v old es new cap files e n c none honest page =
    subst (λ (x : HeldPages). After key old x files) (sym (n ∙ put_is key v es cap c none))
    (subst (λ (o : HeldPages). After key o ((key, v) ∷ take 63 es) files) e (put_new key v es files none (subst (Honest files) (sym e) honest) page))

-- a page that is held was looked for
pub after_held : (key : PageKey) (old es : HeldPages) (looked : LruCache PageKey (List ℕ)) (cap : ℕ) (files : Option Files) → es ≡ old → length es ≤ cap → cap ≡ 64 → looked ≡ lru_cache (promoted (same_page key) es) cap
    → is_some (lookup (same_page key) es) ≡ true → Honest files old → After key old looked.entries files
after_held key old es looked cap files e few c l some honest = after_promote key old es looked.entries files e (ap (λ (x : LruCache PageKey (List ℕ)). x.entries) l) (omega (arith, few, c)) some honest

-- a page that is not held was looked for, and then put
pub after_missing : (key : PageKey) (v : List ℕ) (old es : HeldPages) (looked new : LruCache PageKey (List ℕ)) (cap : ℕ) (files : Option Files) → es ≡ old → is_some (lookup (same_page key) es) ≡ false → looked ≡ lru_cache (promoted (same_page key) es) cap → cap ≡ 64
    → new ≡ lru_cache (put_entries same_page looked key v) looked.cap → Honest files old → IfSome files (λ m. v ≡ page_of (bytes_of m key.file) key.number) → After key old new.entries files
after_missing key v old es looked new cap files e none l c n honest page =
    let kept : looked.entries ≡ es = ap (λ (x : LruCache PageKey (List ℕ)). x.entries) l ∙ not_promoted key es none in
    let room : looked.cap ≡ 64 = ap (λ (x : LruCache PageKey (List ℕ)). x.cap) l ∙ c in
    after_put key v old looked.entries new.entries looked.cap files (kept ∙ e) (ap (λ (x : LruCache PageKey (List ℕ)). x.entries) n) room (ap (λ (x : HeldPages). is_some (lookup (same_page key) x)) kept ∙ none) honest page

-- what the cache gives is the file's page
found_true : (m : Files) (key : PageKey) (es : HeldPages) (bytes : List ℕ) → AreOf m es → lookup (same_page key) es ≡ Some bytes → bytes ≡ page_of (bytes_of m key.file) key.number
found_true m key [] bytes a h = cc
found_true m key (e ∷ es) bytes a h = by (λ h. found_true m key es bytes a.1 h) (same_page key e.0) refl h
  where
    by : (lookup (same_page key) es ≡ Some bytes → bytes ≡ page_of (bytes_of m key.file) key.number) → (t : Bool) → same_page key e.0 ≡ t → cond t (Some e.1) (lookup (same_page key) es) ≡ Some bytes → bytes ≡ page_of (bytes_of m key.file) key.number
    by rest true s h = let here : e.1 ≡ bytes = cc in sym here ∙ a.0 ∙ ap (λ (k : PageKey). page_of (bytes_of m k.file) k.number) (sym (same_key key e.0 s))
    by rest false s h = rest h

pub told_page : (files : Option Files) (key : PageKey) (es : HeldPages) (bytes : List ℕ) → Honest files es → lookup (same_page key) es ≡ Some bytes → IfSome files (λ m. bytes ≡ page_of (bytes_of m key.file) key.number)
told_page None key es bytes h e = tt
told_page (Some m) key es bytes h e = found_true m key es bytes h e

-- a call that ends in an error leaves the pages as they were
pub unchanged : {T E : Type 0} (files : Option Files) (file : FileId) (number : ℕ) (old new : HeldPages) (result : Result T E) → IsErr result → new ≡ old → Honest files old → Uses files file number old result new
unchanged files file number old new (Ok x) h e honest = cc
unchanged files file number old new (Err x) h e honest = record { honest = subst (Honest files) (sym e) honest; ok = tt; err = e }
