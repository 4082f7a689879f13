-- What one turn of the loop over the partitions keeps.
use Rattle.std.proofs.Common.{◌≡◌, ◌≢◌, ℕ, ◌+◌, ◌-◌, ◌≤◌, List, [], length, Option, None, Some, IfSome, refl, ap, sym, subst, arith}
use Rattle.std.specs.Prelude.{◌<◌}
use Rattle.std.specs.declared.cmp.Ordering.TheVariants.{Less}
use Rattle.key_types.specs.Kinds.{Kinds}
use Rattle.key_types.specs.Table.{string_cmp}
use Rattle.key_decode.specs.Strings.{IsStringOf}
use Rattle.byte_order.specs.Strings.{Differ}
use Rattle.table_files.proofs.Strings.{string_some}
use Rattle.data_walk.specs.declared.data_walk.PartitionSum.{PartitionSum}
use Rattle.partition_check.specs.Partitions.{key_behind}
use Rattle.partition_check.proofs.Indexed.{differ}

-- how much is left to go: nothing where the walk passed no partition
abbrev pub left_of : Option PartitionSum → ℕ → ℕ
left_of None n = 0
left_of (Some sum) n = n + 1

pub left_less : (here : PartitionSum) (behind : Option PartitionSum) (at at' limit limit' : ℕ) → limit' ≡ limit → IfSome behind (λ _. (at < at') × (at' ≤ limit'))
    → left_of behind (limit' - at') < left_of (Some here) (limit - at)
left_less here None at at' limit limit' same on = omega arith
left_less here (Some sum) at at' limit limit' same on = omega (arith, on.0, on.1, same)

-- a string of a key type has a byte
pub some_string : (ts : Kinds) (string : List ℕ) → IsStringOf ts string → string ≢ []
some_string ts string is none = omega (arith, string_some ts string is, ap length none)

-- the string behind a partition is one of the table too,
pub string_behind : (ts : Kinds) (key next : List ℕ) (behind : Option PartitionSum) → IfSome behind (λ _. IsStringOf ts next × (string_cmp key next ≡ Less))
    → IfSome behind (λ _. IsStringOf ts next)
string_behind ts key next None told = tt
string_behind ts key next (Some sum) told = told.0

-- and differs from that of the partition
pub differs_behind : (ts : Kinds) (key next : List ℕ) (behind : Option PartitionSum) → IsStringOf ts key → IfSome behind (λ _. IsStringOf ts next × (string_cmp key next ≡ Less))
    → key_behind behind next ≢ [] → Differ key (key_behind behind next)
differs_behind ts key next None is told some = absurd (some refl)
differs_behind ts key next (Some sum) is told some = differ ts key next is told.0 told.1

pub differs_after : (ts : Kinds) (key kept next : List ℕ) (behind : Option PartitionSum) → kept ≡ key → IsStringOf ts key → IfSome behind (λ _. IsStringOf ts next × (string_cmp key next ≡ Less))
    → IfSome behind (λ _. kept ≢ [] → Differ kept next)
differs_after ts key kept next None same is told = tt
differs_after ts key kept next (Some sum) same is told = λ some. subst (λ (k : List ℕ). Differ k next) (sym same) (differ ts key next is told.0 told.1)

-- before the first partition nothing stands
pub differs_first : (key next : List ℕ) (behind : Option PartitionSum) → key ≡ [] → IfSome behind (λ _. key ≢ [] → Differ key next)
differs_first key next None none = tt
differs_first key next (Some sum) none = λ some. absurd (some none)
