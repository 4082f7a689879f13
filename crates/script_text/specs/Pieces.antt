-- The puts and gets of a batch, cut out of its buffer. This project's own.
use Rattle.std.specs.Prelude.{◌≡◌, ◌≤◌, ◌+◌, ℕ, List, [], ◌∷◌, ◌++◌, map, take, drop, slice_get, Some}
use Rattle.script_text.specs.declared.spans.KeySpan.{KeySpan}
use Rattle.script_text.specs.declared.spans.PutSpan.{PutSpan}
use Rattle.script_text.specs.declared.spans.GetSpan.{GetSpan}
use Rattle.script_text.specs.declared.spans.PutLine.{PutLine}
use Rattle.script_text.specs.declared.spans.GetLine.{GetLine}
use Rattle.script_text.specs.Puts.{Put, Get, Batch}

-- so many bytes from a place on
abbrev pub piece_from : ℕ → ℕ → List ℕ → List ℕ
piece_from start n buffer = take n (drop start buffer)

-- the string of the partition, and behind it that of the row within it
abbrev pub partition_cut : List ℕ → KeySpan → List ℕ
partition_cut buffer key = piece_from key.start key.partition buffer

abbrev pub clustering_cut : List ℕ → KeySpan → List ℕ
clustering_cut buffer key = piece_from (key.start + key.partition) key.clustering buffer

-- where both end
abbrev pub end_of : KeySpan → ℕ
end_of key = (key.start + key.partition) + key.clustering

-- a put, whose value stands behind its key
abbrev pub put_in : List ℕ → PutSpan → Put
put_in buffer span = record { line = span.line; partition = partition_cut buffer span.key; clustering = clustering_cut buffer span.key; value = piece_from (end_of span.key) span.value buffer }

-- a get
abbrev pub get_in : List ℕ → GetSpan → Get
get_in buffer span = record { line = span.line; reader = span.reader; partition = partition_cut buffer span.key; clustering = clustering_cut buffer span.key }

-- a batch
abbrev pub batch_in : List ℕ → List PutSpan → List GetSpan → Batch
batch_in buffer puts gets = record { puts = map (put_in buffer) puts; gets = map (get_in buffer) gets }

-- a put or a get lies in a buffer of this length
abbrev pub PutLies : ℕ → PutSpan → Type 0
PutLies n span = end_of span.key + span.value ≤ n

abbrev pub GetLies : ℕ → GetSpan → Type 0
GetLies n span = end_of span.key ≤ n

-- so all of them
abbrev pub PutsLie : ℕ → List PutSpan → Type 0
PutsLie n [] = Unit {0}
PutsLie n (span ∷ spans) = PutLies n span × PutsLie n spans

abbrev pub GetsLie : ℕ → List GetSpan → Type 0
GetsLie n [] = Unit {0}
GetsLie n (span ∷ spans) = GetLies n span × GetsLie n spans

-- what is lent of a put: its line, the string of its partition, that of its whole key, and its value
abbrev pub LendsPut : PutLine → Put → Type 0
LendsPut lent put = (lent.line ≡ put.line) × (lent.partition.now ≡ put.partition) × (lent.key.now ≡ put.partition ++ put.clustering) × (lent.value.now ≡ put.value)

-- of a get: its line, its reader, the string of its partition, and that of its whole key
abbrev pub LendsGet : GetLine → Get → Type 0
LendsGet lent get = (lent.line ≡ get.line) × (lent.reader ≡ get.reader) × (lent.partition.now ≡ get.partition) × (lent.key.now ≡ get.partition ++ get.clustering)

-- so of the one at a place of a list
abbrev pub LendsPutAt : List Put → ℕ → PutLine → Type 0
LendsPutAt puts i lent = (put : Put) × (slice_get puts i ≡ Some put) × LendsPut lent put

abbrev pub LendsGetAt : List Get → ℕ → GetLine → Type 0
LendsGetAt gets i lent = (get : Get) × (slice_get gets i ≡ Some get) × LendsGet lent get
