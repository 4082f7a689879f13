-- The files of a generation in a store, as one of them grows.
use Rattle.std.proofs.Common.{◌≡◌, ◌≢◌, ℕ, cond, List, [], ◌∷◌, ◌++◌, take, drop, Option, None, Some, Ok, Err, inl, inr, unwrap_or, refl, sym, ◌∙◌, ap, subst, arith}
use Rattle.std.proofs.lemmas.List.{append-nil, take-append-drop}
use Rattle.std.specs.declared.cmp.Ordering.{Ordering}
use Rattle.std.specs.declared.cmp.Ordering.TheVariants.{Less, Equal, Greater}
use Rattle.std.specs.Ordering.{is_eq, nat_cmp, ordering_then}
use Rattle.std.specs.FinMap as map
use Rattle.outside.specs.Told.{WhereTold}
use Rattle.outside.specs.Files.{Appends, Files, LeavesPrefix, bytes_of, file_cmp, file_cmp_total, part_at, part_at-place_of, place_of}
use Rattle.outside.specs.declared.store.FileId.{FileId}
use Rattle.outside.proofs.Sets.{bytes_of-same}
use Rattle.data_file.specs.Writing.{GrowsBy}
use Rattle.page_packer.specs.Packing.{AppendsSome}
use Rattle.table_files.specs.Names.{data_id, partitions_id, rows_id, schema_id}
use Rattle.flush_walk.specs.Growing.{FourFiles, HaveBytes}

-- ---- two files

both_tie : (r s : Ordering) → ordering_then r s ≡ Equal → (r ≡ Equal) × (s ≡ Equal)
both_tie Less s e = cc
both_tie Equal s e = (refl, e)
both_tie Greater s e = cc

pub same_file : map.IsAntisymmetric file_cmp
same_file x y e =
    let ties = both_tie (nat_cmp x.generation y.generation) (nat_cmp (place_of x.part) (place_of y.part)) e in
    let generations : x.generation ≡ y.generation = map.nat_cmp-IsAntisymmetric x.generation y.generation ties.0 in
    let places : place_of x.part ≡ place_of y.part = map.nat_cmp-IsAntisymmetric (place_of x.part) (place_of y.part) ties.1 in
    let parts : x.part ≡ y.part = sym (part_at-place_of x.part) ∙ ap part_at places ∙ part_at-place_of y.part in
    λ i. record { generation = generations i; part = parts i }

pub get-other : (files : Files) (file : FileId) (bytes : List ℕ) (other : FileId) → other ≢ file → map.get (map.insert files file bytes) other ≡ map.get files other
get-other files file bytes other apart = map.get-insert file_cmp_total files file bytes other ∙ by (file_cmp other file) refl
  where
    by : (o : Ordering) → file_cmp other file ≡ o → cond (is_eq o) (Some bytes) (map.get files other) ≡ map.get files other
    by Less e = refl
    by Equal e = absurd (apart (same_file other file e))
    by Greater e = refl

-- files of different parts
pub parts_apart : (a b : FileId) → (place_of a.part ≡ place_of b.part → ⊥) → a ≢ b
parts_apart a b unlike e = unlike (ap (λ (f : FileId). place_of f.part) e)

-- ---- a file that grew

pub grown_same : (old new : Files) (file : FileId) (b : List ℕ) → GrowsBy old new file b → bytes_of new file ≡ bytes_of old file ++ b
grown_same old new file b (inl is) = ap (λ (m : Files). bytes_of m file) is ∙ bytes_of-same old file (bytes_of old file ++ b)
grown_same old new file b (inr (none, same)) =
    ap (λ (m : Files). bytes_of m file) same ∙ sym (append-nil (bytes_of old file)) ∙ ap (λ (bs : List ℕ). bytes_of old file ++ bs) (sym none)

pub grown_other : (old new : Files) (file : FileId) (b : List ℕ) → GrowsBy old new file b → (other : FileId) → other ≢ file → map.get new other ≡ map.get old other
grown_other old new file b (inl is) other apart = ap (λ (m : Files). map.get m other) is ∙ get-other old file (bytes_of old file ++ b) other apart
grown_other old new file b (inr (none, same)) other apart = ap (λ (m : Files). map.get m other) same

pub grown_bytes : (old new : Files) (file : FileId) (b : List ℕ) → GrowsBy old new file b → (other : FileId) → other ≢ file → bytes_of new other ≡ bytes_of old other
grown_bytes old new file b grows other apart = ap (λ (o : Option (List ℕ)). unwrap_or o []) (grown_other old new file b grows other apart)

other_generation : (g : ℕ) (old new : Files) (file : FileId) (b : List ℕ) → file.generation ≡ g → GrowsBy old new file b → (other : FileId) → other.generation ≢ g → map.get new other ≡ map.get old other
other_generation g old new file b is grows other apart = grown_other old new file b grows other (λ e. apart (ap (λ (f : FileId). f.generation) e ∙ is))

-- ---- the four files

module _ (g : ℕ) (a : FourFiles) (b whole : List ℕ) (old mid new : Files) (h : HaveBytes g a old mid) where
  pub listing_grown : whole ≡ a.listing ++ b → GrowsBy mid new (data_id g) b → HaveBytes g (record a { listing = whole }) old new
  listing_grown is grows = record {
    listing = grown_same mid new (data_id g) b grows ∙ ap (λ (bs : List ℕ). bs ++ b) h.listing ∙ sym is;
    rows = grown_bytes mid new (data_id g) b grows (rows_id g) (parts_apart (rows_id g) (data_id g) (λ (e : ◌≡◌ {A = ℕ} 2 0). omega arith)) ∙ h.rows;
    partitions = grown_bytes mid new (data_id g) b grows (partitions_id g) (parts_apart (partitions_id g) (data_id g) (λ (e : ◌≡◌ {A = ℕ} 1 0). omega arith)) ∙ h.partitions;
    schema = grown_bytes mid new (data_id g) b grows (schema_id g) (parts_apart (schema_id g) (data_id g) (λ (e : ◌≡◌ {A = ℕ} 3 0). omega arith)) ∙ h.schema;
    others = λ file apart. other_generation g mid new (data_id g) b refl grows file apart ∙ h.others file apart;
  }

  pub rows_grown : whole ≡ a.rows ++ b → GrowsBy mid new (rows_id g) b → HaveBytes g (record a { rows = whole }) old new
  rows_grown is grows = record {
    listing = grown_bytes mid new (rows_id g) b grows (data_id g) (parts_apart (data_id g) (rows_id g) (λ (e : ◌≡◌ {A = ℕ} 0 2). omega arith)) ∙ h.listing;
    rows = grown_same mid new (rows_id g) b grows ∙ ap (λ (bs : List ℕ). bs ++ b) h.rows ∙ sym is;
    partitions = grown_bytes mid new (rows_id g) b grows (partitions_id g) (parts_apart (partitions_id g) (rows_id g) (λ (e : ◌≡◌ {A = ℕ} 1 2). omega arith)) ∙ h.partitions;
    schema = grown_bytes mid new (rows_id g) b grows (schema_id g) (parts_apart (schema_id g) (rows_id g) (λ (e : ◌≡◌ {A = ℕ} 3 2). omega arith)) ∙ h.schema;
    others = λ file apart. other_generation g mid new (rows_id g) b refl grows file apart ∙ h.others file apart;
  }

  pub partitions_grown : whole ≡ a.partitions ++ b → GrowsBy mid new (partitions_id g) b → HaveBytes g (record a { partitions = whole }) old new
  partitions_grown is grows = record {
    listing = grown_bytes mid new (partitions_id g) b grows (data_id g) (parts_apart (data_id g) (partitions_id g) (λ (e : ◌≡◌ {A = ℕ} 0 1). omega arith)) ∙ h.listing;
    rows = grown_bytes mid new (partitions_id g) b grows (rows_id g) (parts_apart (rows_id g) (partitions_id g) (λ (e : ◌≡◌ {A = ℕ} 2 1). omega arith)) ∙ h.rows;
    partitions = grown_same mid new (partitions_id g) b grows ∙ ap (λ (bs : List ℕ). bs ++ b) h.partitions ∙ sym is;
    schema = grown_bytes mid new (partitions_id g) b grows (schema_id g) (parts_apart (schema_id g) (partitions_id g) (λ (e : ◌≡◌ {A = ℕ} 3 1). omega arith)) ∙ h.schema;
    others = λ file apart. other_generation g mid new (partitions_id g) b refl grows file apart ∙ h.others file apart;
  }

  pub schema_grown : whole ≡ a.schema ++ b → GrowsBy mid new (schema_id g) b → HaveBytes g (record a { schema = whole }) old new
  schema_grown is grows = record {
    listing = grown_bytes mid new (schema_id g) b grows (data_id g) (parts_apart (data_id g) (schema_id g) (λ (e : ◌≡◌ {A = ℕ} 0 3). omega arith)) ∙ h.listing;
    rows = grown_bytes mid new (schema_id g) b grows (rows_id g) (parts_apart (rows_id g) (schema_id g) (λ (e : ◌≡◌ {A = ℕ} 2 3). omega arith)) ∙ h.rows;
    partitions = grown_bytes mid new (schema_id g) b grows (partitions_id g) (parts_apart (partitions_id g) (schema_id g) (λ (e : ◌≡◌ {A = ℕ} 1 3). omega arith)) ∙ h.partitions;
    schema = grown_same mid new (schema_id g) b grows ∙ ap (λ (bs : List ℕ). bs ++ b) h.schema ∙ sym is;
    others = λ file apart. other_generation g mid new (schema_id g) b refl grows file apart ∙ h.others file apart;
  }

-- ---- where the files are told

pub told_then : {A : Type 0} (f0 f1 f2 : Option A) (P Q R : A → A → Type 0) → ((x y z : A) → P x y → Q y z → R x z) → WhereTold f0 f1 P → WhereTold f1 f2 Q → WhereTold f0 f2 R
told_then None None None P Q R step p q = tt
told_then None None (Some z) P Q R step p q = absurd q
told_then None (Some y) f2 P Q R step p q = absurd p
told_then (Some x) None f2 P Q R step p q = absurd p
told_then (Some x) (Some y) None P Q R step p q = absurd q
told_then (Some x) (Some y) (Some z) P Q R step p q = step x y z p q

pub told_so : {A : Type 0} (f0 f1 : Option A) (P R : A → A → Type 0) → ((x y : A) → P x y → R x y) → WhereTold f0 f1 P → WhereTold f0 f1 R
told_so None None P R step p = tt
told_so None (Some y) P R step p = absurd p
told_so (Some x) None P R step p = absurd p
told_so (Some x) (Some y) P R step p = step x y p

pub told_none : {A : Type 0} (f : Option A) (P : A → A → Type 0) → ((x : A) → P x x) → WhereTold f f P
told_none None P same = tt
told_none (Some x) P same = same x

-- ---- what an append makes of a file

-- it grew by these bytes, or by a front of them
abbrev pub GrewAll : Option Files → Option Files → FileId → List ℕ → Type 0
GrewAll f0 f1 file bytes = WhereTold f0 f1 (λ xs ys. GrowsBy xs ys file bytes)

abbrev pub GrowsFront : Files → Files → FileId → List ℕ → Type 0
GrowsFront old new file bytes = (front : List ℕ) × (rest : List ℕ) × (bytes ≡ front ++ rest) × GrowsBy old new file front

abbrev pub GrewFront : Option Files → Option Files → FileId → List ℕ → Type 0
GrewFront f0 f1 file bytes = WhereTold f0 f1 (λ xs ys. GrowsFront xs ys file bytes)

prefix_grew : (old new : Files) (file : FileId) (bytes : List ℕ) → LeavesPrefix old new file bytes → GrowsFront old new file bytes
prefix_grew old new file bytes (inl same) = ([], bytes, refl, inr (refl, same))
prefix_grew old new file bytes (inr (k, few, is)) = (take k bytes, drop k bytes, sym (take-append-drop k bytes), inl is)

pub appends_all : {T : Type 0} (E : Type 0) (f0 f1 : Option Files) (file : FileId) (x : T) (bytes : List ℕ) → Appends {E = E} f0 f1 file (Ok x) bytes → GrewAll f0 f1 file bytes
appends_all E f0 f1 file x bytes p = told_so f0 f1 _ _ (λ xs ys q. inl q.0) p

pub appends_front : (T : Type 0) {E : Type 0} (f0 f1 : Option Files) (file : FileId) (e : E) (bytes : List ℕ) → Appends {T = T} f0 f1 file (Err e) bytes → GrewFront f0 f1 file bytes
appends_front T f0 f1 file e bytes p = told_so f0 f1 _ _ (λ xs ys q. prefix_grew xs ys file bytes q) p

pub some_all : {T : Type 0} (E : Type 0) (f0 f1 : Option Files) (file : FileId) (x : T) (bytes : List ℕ) → AppendsSome {E = E} f0 f1 file (Ok x) bytes → GrewAll f0 f1 file bytes
some_all E f0 f1 file x [] p = subst (λ (f : Option Files). GrewAll f0 f file []) (sym p) (told_none f0 _ (λ xs. inr (refl, refl)))
some_all E f0 f1 file x (b ∷ bytes) p = appends_all E f0 f1 file x (b ∷ bytes) p

pub some_front : (T : Type 0) {E : Type 0} (f0 f1 : Option Files) (file : FileId) (e : E) (bytes : List ℕ) → AppendsSome {T = T} f0 f1 file (Err e) bytes → GrewFront f0 f1 file bytes
some_front T f0 f1 file e [] p = subst (λ (f : Option Files). GrewFront f0 f file []) (sym p) (told_none f0 _ (λ xs. ([], [], refl, inr (refl, refl))))
some_front T f0 f1 file e (b ∷ bytes) p = appends_front T f0 f1 file e (b ∷ bytes) p
