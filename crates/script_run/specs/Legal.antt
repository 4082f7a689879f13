-- What the gets of a script may be answered while its puts are made: a legal text. This project's own.
use Rattle.std.specs.Prelude.{◌≡◌, ◌<◌, ◌≤◌, ℕ, nat_eq, List, [], ◌∷◌, ◌++◌, length, take, filter, slice_get, Option, None, Some, unwrap_or, codes}
use Rattle.std.specs.Fmt.{decimal}
use Rattle.std.specs.FinMap as map
use Rattle.key_types.specs.declared.schema.ValueType.{ValueType}
use Rattle.key_types.specs.Columns.{Columns}
use Rattle.key_types.specs.Table.{table_of}
use Rattle.key_text.specs.Written.{value_literal}
use Rattle.script_text.specs.Puts.{Put, Get, Batch}
use Rattle.script_text.specs.Script.{entries_of, gets_of}
use Rattle.shard_table.specs.Shards.{shard_index}

-- ---- puts and shards

-- those of the puts that go to shard i, in the order of their lines
abbrev pub shard_puts : List (List ℕ) → ℕ → List Put → List Put
shard_puts bounds i puts = filter (λ put. nat_eq (shard_index bounds put.partition) i) puts

-- the shard of a get's key
abbrev pub shard_asked : List (List ℕ) → Get → ℕ
shard_asked bounds get = shard_index bounds get.partition

-- those of the puts that go there
abbrev pub puts_asked : List (List ℕ) → Get → List Put → List Put
puts_asked bounds get puts = shard_puts bounds (shard_asked bounds get) puts

-- ---- an answer

-- the value that some puts leave at a get's key, where they leave one
abbrev pub value_after : Get → List Put → Option (List ℕ)
value_after get puts = map.get (table_of (entries_of puts)) (get.partition ++ get.clustering)

-- the type of the value at a key with this string within its partition: that of rows, or that of static values
abbrev pub type_behind : Columns → List ℕ → ValueType
type_behind columns [] = unwrap_or columns.static_value columns.value
type_behind columns (b ∷ bs) = columns.value

-- a value's literal, or `none`
abbrev pub value_text : ValueType → Option (List ℕ) → List ℕ
value_text type None = codes "none"
value_text type (Some value) = value_literal type value

-- and behind it the number of puts after which it holds
abbrev pub answer_line : Columns → Get → Option (List ℕ) → ℕ → List ℕ
answer_line columns get value n = value_text (type_behind columns get.clustering) value ++ codes " @" ++ decimal n ++ codes "\n"

-- ---- a legal text

module _ (columns : Columns) (bounds : List (List ℕ)) where
  -- a get's number lies between the count of its shard's puts in earlier batches and that with those of its own batch too
  pub record IsNumber (before through : List Put) (get : Get) (n : ℕ) : Type 0 where
    pub least : length (puts_asked bounds get before) ≤ n
    pub most : n ≤ length (puts_asked bounds get through)

  -- the line says what the first n puts of its shard leave at the key
  abbrev pub line_after : List Put → Get → ℕ → List ℕ
  line_after through get n = answer_line columns get (value_after get (take n (puts_asked bounds get through))) n

  -- a line for each get of a batch, with these numbers
  abbrev pub AreLines : List Put → List Put → List Get → List ℕ → List ℕ → Type 0
  AreLines before through [] [] text = text ≡ []
  AreLines before through [] (n ∷ numbers) text = ⊥
  AreLines before through (get ∷ gets) [] text = ⊥
  AreLines before through (get ∷ gets) (n ∷ numbers) text =
      IsNumber before through get n
      × ((rest : List ℕ) × (text ≡ line_after through get n ++ rest) × AreLines before through gets numbers rest)

  -- the lines of some batches, which stand behind these puts
  abbrev pub AreBatchLines : List Put → List Batch → List ℕ → List ℕ → Type 0
  AreBatchLines before [] numbers text = (numbers ≡ []) × (text ≡ [])
  AreBatchLines before (batch ∷ batches) numbers text =
      (own : List ℕ) × (others : List ℕ) × (lines : List ℕ) × (rest : List ℕ) × (numbers ≡ own ++ others) × (text ≡ lines ++ rest)
      × AreLines before (before ++ batch.puts) batch.gets own lines
      × AreBatchLines (before ++ batch.puts) batches others rest

  -- the numbers of one reader at one shard never fall
  abbrev pub NumbersRise : List Get → List ℕ → Type 0
  NumbersRise gets numbers = (i j : ℕ) (g h : Get) (m n : ℕ) → i < j → slice_get gets i ≡ Some g → slice_get gets j ≡ Some h
      → slice_get numbers i ≡ Some m → slice_get numbers j ≡ Some n
      → g.reader ≡ h.reader → shard_asked bounds g ≡ shard_asked bounds h → m ≤ n

  -- A line for each get of the batches, in order: its key's value after a number of its shard's puts that lie between those of
  -- earlier batches and those up to its own, never fewer than an earlier line said for the same reader and shard.
  pub record IsLegalText (batches : List Batch) (text : List ℕ) : Type 0 where
    pub numbers : List ℕ
    pub lines : AreBatchLines [] batches numbers text
    pub rise : NumbersRise (gets_of batches) numbers
