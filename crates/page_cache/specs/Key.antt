-- When two pages are the same.
use Rattle.std.specs.Prelude.{◌≡◌, ℕ, ◌&&◌, ◌==◌, Bool, true, false, IsTrue, refl}
use Rattle.std.specs.Cmp.{IsEquivalence, and_equiv, on_equiv, nat_eq_equiv, eq_by_cmp_equiv}
use Rattle.std.specs.Ordering.{eq_by_cmp}
use Rattle.std.specs.Hash as fed
use Rattle.std.proofs.Common.{ap, arith}
use Rattle.std.proofs.lemmas.Bool.Decides.{nat_tests}
use Rattle.outside.specs.Files.{file_cmp, file_cmp_total}
use Rattle.page_cache.specs.declared.key.PageKey.{PageKey}

-- the same file and the same number
abbrev pub same_page : PageKey → PageKey → Bool
same_page a b = eq_by_cmp file_cmp a.file b.file && (a.number == b.number)

-- that is an equivalence
pub same_page_equiv : IsEquivalence same_page
same_page_equiv =
    and_equiv (on_equiv (λ (k : PageKey). k.file) (eq_by_cmp_equiv file_cmp_total))
    (on_equiv (λ (k : PageKey). k.number) nat_eq_equiv)

second : (a b : Bool) → IsTrue (a && b) → IsTrue b
second true b h = h
second false true h = refl
second false false h = h

pub same_number : (m n : ℕ) → (m == n) ≡ true → m ≡ n
same_number m n h = grind (arith, nat_tests)

-- pages that are the same are fed to a hasher alike
pub same_hash : (a b : PageKey) → IsTrue (same_page a b) → fed.u64 a.number ≡ fed.u64 b.number
same_hash a b h =
    ap fed.u64 (same_number a.number b.number (second (eq_by_cmp file_cmp a.file b.file) (a.number == b.number) h))
