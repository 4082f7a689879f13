-- The bytes of a data file spell one list of partitions.
use Rattle.std.proofs.Common.{◌≡◌, ◌∙◌, ℕ, List, [], ◌∷◌, ◌++◌, Option, None, Some, refl, sym, ap, append_assoc}
use Rattle.key_types.specs.Columns.{Columns}
use Rattle.key_types.specs.declared.schema.ValueType.{ValueType}
use Rattle.data_file.specs.Listing.{ArePartitions, FitsStaticType, Lists, Partition, Row, data_bytes, end_bytes, static_part_bytes, partition_bytes, row_bytes, rows_bytes}
use Rattle.length_prefix.specs.Counted.{counted}
use Rattle.length_prefix.proofs.Counts.{counted-same}
use Rattle.data_file.proofs.Counted.{behind_first}

pub row_front : (c v r d w s : List ℕ) → row_bytes c v ++ r ≡ row_bytes d w ++ s → (c ≡ d) × (v ≡ w) × (r ≡ s)
row_front c v r d w s e =
    let both : 1 ∷ (counted c ++ (counted v ++ r)) ≡ 1 ∷ (counted d ++ (counted w ++ s)) = sym (behind_first c v r) ∙ e ∙ behind_first d w s in
    let tails : counted c ++ (counted v ++ r) ≡ counted d ++ (counted w ++ s) = cc in
    let first = counted-same c d (counted v ++ r) (counted w ++ s) tails in
    let second = counted-same v w r s first.1 in
    (first.0, second.0, second.1)

-- a row and more behind it, grouped
grouped : (row : Row) (rows : List Row) (t : List ℕ) → rows_bytes (row ∷ rows) ++ t ≡ row_bytes row.clustering row.value ++ (rows_bytes rows ++ t)
grouped row rows t = append_assoc (row_bytes row.clustering row.value) (rows_bytes rows) t

-- rows that end with an end mark
rows_front : (rows others : List Row) (t u : List ℕ) → rows_bytes rows ++ 0 ∷ t ≡ rows_bytes others ++ 0 ∷ u → (rows ≡ others) × (t ≡ u)
rows_front [] [] t u e = (refl, cc)
rows_front [] (row ∷ rows) t u e = let apart : 0 ∷ t ≡ row_bytes row.clustering row.value ++ (rows_bytes rows ++ 0 ∷ u) = e ∙ grouped row rows (0 ∷ u) in cc
rows_front (row ∷ rows) [] t u e = let apart : row_bytes row.clustering row.value ++ (rows_bytes rows ++ 0 ∷ t) ≡ 0 ∷ u = sym (grouped row rows (0 ∷ t)) ∙ e in cc
rows_front (row ∷ rows) (other ∷ others) t u e =
    let fronts = row_front row.clustering row.value (rows_bytes rows ++ 0 ∷ t) other.clustering other.value (rows_bytes others ++ 0 ∷ u)
    (sym (grouped row rows (0 ∷ t)) ∙ e ∙ grouped other others (0 ∷ u)) in
    let rest = rows_front rows others t u fronts.2 in
    let same : row ≡ other = λ i. record { clustering = fronts.0 i; value = fronts.1 i } in
    let same_rest : rows ≡ others = rest.0 in
    (λ i. same i ∷ same_rest i, rest.1)

-- the static part
pub static_part_front : (static : Option ValueType) (a b : Option (List ℕ)) (r s : List ℕ) → FitsStaticType static a → FitsStaticType static b
    → static_part_bytes static a ++ r ≡ static_part_bytes static b ++ s → (a ≡ b) × (r ≡ s)
static_part_front None None None r s f g e = (refl, e)
static_part_front None None (Some y) r s f g e = absurd g
static_part_front None (Some x) b r s f g e = absurd f
static_part_front (Some type) None None r s f g e = (refl, cc)
static_part_front (Some type) None (Some y) r s f g e = cc
static_part_front (Some type) (Some x) None r s f g e = cc
static_part_front (Some type) (Some x) (Some y) r s f g e =
    let tails : counted x ++ r ≡ counted y ++ s = cc in
    let same = counted-same x y r s tails in
    (ap Some same.0, same.1)

parts : (static : Option ValueType) (p : Partition) (t : List ℕ)
    → partition_bytes static p ++ t ≡ counted p.key ++ (static_part_bytes static p.static_part ++ (rows_bytes p.rows ++ 0 ∷ t))
parts static p t =
    append_assoc (counted p.key) (static_part_bytes static p.static_part ++ (rows_bytes p.rows ++ end_bytes)) t
    ∙ ap (λ x. counted p.key ++ x) (append_assoc (static_part_bytes static p.static_part) (rows_bytes p.rows ++ end_bytes) t
    ∙ ap (λ x. static_part_bytes static p.static_part ++ x) (append_assoc (rows_bytes p.rows) end_bytes t))

partition_front : (static : Option ValueType) (p q : Partition) (t u : List ℕ) → FitsStaticType static p.static_part → FitsStaticType static q.static_part
    → partition_bytes static p ++ t ≡ partition_bytes static q ++ u → (p ≡ q) × (t ≡ u)
partition_front static p q t u f g e =
    let heads = counted-same p.key q.key (static_part_bytes static p.static_part ++ (rows_bytes p.rows ++ 0 ∷ t)) (static_part_bytes static q.static_part ++ (rows_bytes q.rows ++ 0 ∷ u))
    (sym (parts static p t) ∙ e ∙ parts static q u) in
    let static_part = static_part_front static p.static_part q.static_part (rows_bytes p.rows ++ 0 ∷ t) (rows_bytes q.rows ++ 0 ∷ u) f g heads.1 in
    let rows = rows_front p.rows q.rows t u static_part.1 in
    let same : p ≡ q = λ i. record { key = heads.0 i; static_part = static_part.0 i; rows = rows.0 i } in
    (same, rows.1)

data_front : (columns : Columns) (ps qs : List Partition) → ArePartitions columns ps → ArePartitions columns qs
    → data_bytes columns.static_value ps ≡ data_bytes columns.static_value qs → ps ≡ qs
data_front columns [] [] f g e = refl
data_front columns [] (q ∷ qs) f g e = cc
data_front columns (p ∷ ps) [] f g e = cc
data_front columns (p ∷ ps) (q ∷ qs) f g e =
    let first = partition_front columns.static_value p q (data_bytes columns.static_value ps) (data_bytes columns.static_value qs) f.1 g.1 e in
    let same : p ≡ q = first.0 in
    let rest : ps ≡ qs = data_front columns ps qs f.3 g.3 first.1 in
    λ i. same i ∷ rest i

pub listing_unique : (columns : Columns) (bytes : List ℕ) (ps qs : List Partition) → Lists columns bytes ps → Lists columns bytes qs → ps ≡ qs
listing_unique columns bytes ps qs (e, f) (d, g) = data_front columns ps qs f g (sym e ∙ d)
