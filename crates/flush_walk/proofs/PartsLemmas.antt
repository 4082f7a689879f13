-- How the string of an entry's key parts.
use Rattle.std.proofs.Common.{◌≡◌, ℕ, ◌+◌, ◌-◌, true, List, ◌++◌, length, take, drop, arith, refl, sym, ◌∙◌, ap, length-append}
use Rattle.std.proofs.Math.Seq.{take-append_seam, drop-append_seam}
use Rattle.key_types.specs.Columns.{Columns}
use Rattle.key_types.specs.Kinds.{Kinds}
use Rattle.key_types.specs.Table.{Entry}
use Rattle.key_decode.specs.Reading.{values_at}
use Rattle.key_decode.specs.Strings.{IsStringOf, BeginsString}
use Rattle.key_decode.proofs.Known.{read_of, taken}
use Rattle.flush_walk.specs.Entries.{partition_in, clustering_in, has_some, rest_behind}
use Rattle.flush_walk.specs.TableEntries.{IsTableEntry}
use Rattle.key_types.specs.Kinds.{Vals, EachFits, end, more, none, and}
use Rattle.byte_comparable.specs.Encoding.{key_string}

module _ (columns : Columns) where
  -- behind a partition's string the row's is found
  pub row_part : (key string rest : List ℕ) → IsStringOf columns.partition string → key ≡ string ++ rest → clustering_in columns key ≡ rest
  row_part key string rest is e =
      let read = read_of columns.partition string rest is in
      ap (λ (k : List ℕ). rest_behind (values_at columns.partition k)) e ∙ ap rest_behind read.2

  pub parted : (key string rest : List ℕ) → IsStringOf columns.partition string → key ≡ string ++ rest → (partition_in columns key ≡ string) × (clustering_in columns key ≡ rest)
  parted key string rest is e =
      let behind = row_part key string rest is e in
      let all : length key ≡ length string + length rest = ap length e ∙ length-append string rest in
      let front : length key - length (clustering_in columns key) ≡ length string = omega (arith, ap length behind, all) in
      (ap (λ (n : ℕ). take n key) front ∙ ap (take (length string)) e ∙ take-append_seam string rest, behind)

  pub entry_begins : (entry : Entry) → IsTableEntry columns entry → BeginsString columns.partition entry.0
  entry_begins entry is = (partition_in columns entry.0, clustering_in columns entry.0, (is.partition, sym is.parts))

  -- parted at the length of the partition's string
  pub split_there : (key : List ℕ) (n : ℕ) → BeginsString columns.partition key
      → ((string rest : List ℕ) → IsStringOf columns.partition string × (key ≡ string ++ rest) → length string ≡ n)
      → (take n key ≡ partition_in columns key) × (drop n key ≡ clustering_in columns key)
  split_there key n (string, rest, (is, e)) only =
      let long = only string rest (is, e) in
      let parts = parted key string rest is e in (
        ap (λ (m : ℕ). take m key) (sym long) ∙ ap (take (length string)) e ∙ take-append_seam string rest ∙ sym parts.0,
        ap (λ (m : ℕ). drop m key) (sym long) ∙ ap (drop (length string)) e ∙ drop-append_seam string rest ∙ sym parts.1,
      )

-- a string of a key is never empty
pub some_key : (ts : Kinds) (vs : Vals) → EachFits ts vs → has_some (key_string ts vs) ≡ true
some_key end none fits = refl
some_key end (and v vs) fits = absurd fits
some_key (more t ts) none fits = absurd fits
some_key (more t ts) (and v vs) fits = refl

pub some_string : (ts : Kinds) (string : List ℕ) → IsStringOf ts string → has_some string ≡ true
some_string ts string (vs, is) = let p = taken ts string vs is in ap has_some (sym p.1) ∙ some_key ts vs p.0
