-- One more piece for one of the growing files.
use Rattle.std.proofs.Common.{◌≡◌, Bool, true, false, ℕ, ◌+◌, List, [], ◌∷◌, ◌++◌, length, Option, None, Some, Result, Ok, Err, IfOk, IsErr, OnOk, refl, sym, ◌∙◌, ap, subst, arith}
use Rattle.std.proofs.lemmas.Bool.Decides.{nat_tests}
use Rattle.std.proofs.lemmas.List.{append_assoc, append-nil, length-append}
use Rattle.std.specs.Prelude.{◌==◌, is_some, if◌then◌else◌}
use Rattle.outside.specs.Files.{Appends, Files}
use Rattle.outside.specs.Told.{WhereTold}
use Rattle.outside.specs.declared.store.FileId.{FileId}
use Rattle.key_types.specs.declared.schema.ValueType.{ValueType}
use Rattle.data_file.specs.Listing.{row_bytes, rows_bytes, static_bytes, static_part_bytes}
use Rattle.data_file.specs.Writing.{GrowsBy, PutsAllBut, PutsButHeld, Writing}
use Rattle.page_packer.specs.Packing.{AppendsSome}
use Rattle.page_packer.specs.Early.{IsBeginning}
use Rattle.partition_index.specs.File.{early_index}
use Rattle.partition_index.specs.Entries.{Numbered}
use Rattle.partition_index.specs.Writing.{HasRoom, Indexing, WritesIndex, with_partition}
use Rattle.partition_index.specs.declared.writer.PartitionWriter.{PartitionWriter}
use Rattle.row_index.specs.Entries.{Block}
use Rattle.row_index.specs.Writing.{GoesBehind, RowIndexing, WritesRowIndex, begun_entry_at, early_rows, with_block, with_finished}
use Rattle.row_index.specs.declared.writer.RowWriter.{RowWriter}
use Rattle.table_files.specs.Names.{data_id, partitions_id, rows_id}
use Rattle.flush_walk.specs.declared.growing.GrowingFiles.{GrowingFiles}
use Rattle.flush_walk.specs.Current.{with_blocks}
use Rattle.flush_walk.specs.Given.{rows_given}
use Rattle.flush_walk.specs.Growing.{AreCut, CutOff, FourFiles, Growing, Grows, HaveBytes, Moves, StandsNow, Torn, standing, with_bytes}
use Rattle.flush_walk.proofs.Stores.{GrewAll, GrewFront, GrowsFront, appends_all, appends_front, some_all, some_front, listing_grown, partitions_grown, rows_grown, told_so, told_then}

pub all_prefix : (bytes : List ℕ) → IsBeginning bytes bytes
all_prefix bytes = ([], sym (append-nil bytes))

-- ---- bytes for Data.db

module _ (s s' : GrowingFiles) (t : Growing) (bytes : List ℕ) where
  joined : (front pending more held : List ℕ) → t.listing ≡ front ++ pending → pending ++ bytes ≡ more ++ held → t.listing ++ bytes ≡ (front ++ more) ++ held
  joined front pending more held e f =
      ap (λ (bs : List ℕ). bs ++ bytes) e ∙ append_assoc front pending bytes ∙ ap (λ (bs : List ℕ). front ++ bs) f ∙ sym (append_assoc front more held)

  listing_stands : (xs ys zs : Files) → StandsNow s t xs ys → PutsAllBut ys zs (data_id t.generation) (s.listing.pending ++ bytes) s'.listing.pending → StandsNow s' (with_bytes t bytes) xs zs
  listing_stands xs ys zs (front, e, h) (more, f, grows) = (
    front ++ more,
    joined front s.listing.pending more s'.listing.pending e f,
    listing_grown t.generation (standing t front) more (front ++ more) xs ys zs h refl grows,
  )

  listing_cut : (xs ys zs : Files) → StandsNow s t xs ys → (left : List ℕ) × PutsAllBut ys zs (data_id t.generation) (s.listing.pending ++ bytes) left
      → (part : FourFiles) × AreCut part (standing (with_bytes t bytes) (t.listing ++ bytes)) × HaveBytes t.generation part xs zs
  listing_cut xs ys zs (front, e, h) (left, (more, f, grows)) = (
    standing t (front ++ more),
    record {
      listing = (left, joined front s.listing.pending more left e f);
      rows = all_prefix (early_rows t.rows);
      partitions = all_prefix (early_index t.index.partitions);
      schema = refl;
    },
    listing_grown t.generation (standing t front) more (front ++ more) xs ys zs h refl grows,
  )

  -- a call of the writer of Data.db, whatever came of it
  pub listing_moves : {T E : Type 0} (r : Result T E) (f0 f1 : Option Files) → Grows s t f0 → s'.rows ≡ s.rows → s'.partitions ≡ s.partitions
      → s'.listing.file ≡ s.listing.file → OnOk r (s'.listing.position ≡ s.listing.position + length bytes)
      → PutsButHeld f0 f1 s.listing.file r (s.listing.pending ++ bytes) s'.listing.pending → Moves r s' (with_bytes t bytes) f1
  listing_moves (Ok x) f0 f1 h rows partitions file position put = record {
    position = position ∙ ap (λ (n : ℕ). n + length bytes) h.position ∙ sym (length-append t.listing bytes);
    listing_file = file ∙ h.listing_file;
    rows = subst (λ w. WritesRowIndex w t.rows) (sym rows) h.rows;
    rows_file = h.rows_file;
    index = subst (λ w. WritesIndex w t.index) (sym partitions) h.index;
    index_file = h.index_file;
    files = told_then t.before f0 f1 _ _ _ listing_stands h.files
        (subst (λ (f : FileId). WhereTold f0 f1 (λ xs ys. PutsAllBut xs ys f (s.listing.pending ++ bytes) s'.listing.pending)) h.listing_file put);
  }
  listing_moves (Err e) f0 f1 h rows partitions file position put =
      told_then t.before f0 f1 _ _ _ listing_cut h.files
      (subst (λ (f : FileId). WhereTold f0 f1 (λ xs ys. (left : List ℕ) × PutsAllBut xs ys f (s.listing.pending ++ bytes) left)) h.listing_file put)

-- ---- more of the row index

module _ (s s' : GrowingFiles) (t : Growing) (w : RowIndexing) (bytes : List ℕ) (is : early_rows w ≡ early_rows t.rows ++ bytes) where
  abbrev with_rows : Growing
  with_rows = record t { rows = w }

  rows_stand : s'.listing ≡ s.listing → (xs ys zs : Files) → StandsNow s t xs ys → GrowsBy ys zs (rows_id t.generation) bytes → StandsNow s' with_rows xs zs
  rows_stand same xs ys zs (front, e, h) grows = (
    front,
    e ∙ ap (λ (l : Writing). front ++ l.pending) (sym same),
    rows_grown t.generation (standing t front) bytes (early_rows w) xs ys zs h is grows,
  )

  rows_cut : (xs ys zs : Files) → StandsNow s t xs ys → GrowsFront ys zs (rows_id t.generation) bytes
      → (part : FourFiles) × AreCut part (standing with_rows t.listing) × HaveBytes t.generation part xs zs
  rows_cut xs ys zs (front, e, h) (more, rest, f, grows) = (
    record (standing t front) { rows = early_rows t.rows ++ more },
    record {
      listing = (s.listing.pending, e);
      rows = (rest, is ∙ ap (λ (bs : List ℕ). early_rows t.rows ++ bs) f ∙ sym (append_assoc (early_rows t.rows) more rest));
      partitions = all_prefix (early_index t.index.partitions);
      schema = refl;
    },
    rows_grown t.generation (standing t front) more (early_rows t.rows ++ more) xs ys zs h refl grows,
  )

  module _ (f0 f1 : Option Files) (h : Grows s t f0) (file : w.file ≡ t.rows.file) where
    rows_moved : WritesRowIndex s'.rows w → s'.listing ≡ s.listing → s'.partitions ≡ s.partitions → GrewAll f0 f1 t.rows.file bytes → Grows s' with_rows f1
    rows_moved rows listing partitions grew = record {
      position = ap (λ (l : Writing). l.position) listing ∙ h.position;
      listing_file = ap (λ (l : Writing). l.file) listing ∙ h.listing_file;
      rows = rows;
      rows_file = file ∙ h.rows_file;
      index = subst (λ i. WritesIndex i t.index) (sym partitions) h.index;
      index_file = h.index_file;
      files = told_then t.before f0 f1 _ _ _ (rows_stand listing) h.files (subst (λ (f : FileId). GrewAll f0 f1 f bytes) h.rows_file grew);
    }

    rows_torn : GrewFront f0 f1 t.rows.file bytes → Torn with_rows f1
    rows_torn grew = told_then t.before f0 f1 _ _ _ rows_cut h.files (subst (λ (f : FileId). GrewFront f0 f1 f bytes) h.rows_file grew)

    -- a call of the writer of Rows.db that appends some bytes, or none,
    pub some_rows_move : {T E : Type 0} (r : Result T E) → OnOk r (WritesRowIndex s'.rows w) → s'.listing ≡ s.listing → s'.partitions ≡ s.partitions
        → AppendsSome f0 f1 t.rows.file r bytes → Moves r s' with_rows f1
    some_rows_move {E = E} (Ok x) rows listing partitions put = rows_moved rows listing partitions (some_all E f0 f1 t.rows.file x bytes put)
    some_rows_move {T = T} (Err e) rows listing partitions put = rows_torn (some_front T f0 f1 t.rows.file e bytes put)

    -- or that appends them in any case
    pub all_rows_move : {T E : Type 0} (r : Result T E) → OnOk r (WritesRowIndex s'.rows w) → s'.listing ≡ s.listing → s'.partitions ≡ s.partitions
        → Appends f0 f1 t.rows.file r bytes → Moves r s' with_rows f1
    all_rows_move {E = E} (Ok x) rows listing partitions put = rows_moved rows listing partitions (appends_all E f0 f1 t.rows.file x bytes put)
    all_rows_move {T = T} (Err e) rows listing partitions put = rows_torn (appends_front T f0 f1 t.rows.file e bytes put)

-- ---- more of the partition index

module _ (s s' : GrowingFiles) (t : Growing) (w : Indexing) (bytes : List ℕ) (is : early_index w.partitions ≡ early_index t.index.partitions ++ bytes) where
  abbrev with_index : Growing
  with_index = record t { index = w }

  index_stands : s'.listing ≡ s.listing → (xs ys zs : Files) → StandsNow s t xs ys → GrowsBy ys zs (partitions_id t.generation) bytes → StandsNow s' with_index xs zs
  index_stands same xs ys zs (front, e, h) grows = (
    front,
    e ∙ ap (λ (l : Writing). front ++ l.pending) (sym same),
    partitions_grown t.generation (standing t front) bytes (early_index w.partitions) xs ys zs h is grows,
  )

  index_cut : (xs ys zs : Files) → StandsNow s t xs ys → GrowsFront ys zs (partitions_id t.generation) bytes
      → (part : FourFiles) × AreCut part (standing with_index t.listing) × HaveBytes t.generation part xs zs
  index_cut xs ys zs (front, e, h) (more, rest, f, grows) = (
    record (standing t front) { partitions = early_index t.index.partitions ++ more },
    record {
      listing = (s.listing.pending, e);
      rows = all_prefix (early_rows t.rows);
      partitions = (
        rest,
        is ∙ ap (λ (bs : List ℕ). early_index t.index.partitions ++ bs) f ∙ sym (append_assoc (early_index t.index.partitions) more rest),
      );
      schema = refl;
    },
    partitions_grown t.generation (standing t front) more (early_index t.index.partitions ++ more) xs ys zs h refl grows,
  )

  -- a call of the writer of Partitions.db, whatever came of it
  pub index_moves : {T E : Type 0} (r : Result T E) (f0 f1 : Option Files) → Grows s t f0 → w.file ≡ t.index.file → OnOk r (WritesIndex s'.partitions w)
      → s'.listing ≡ s.listing → s'.rows ≡ s.rows → AppendsSome f0 f1 t.index.file r bytes → Moves r s' with_index f1
  index_moves {E = E} (Ok x) f0 f1 h file index listing rows put = record {
    position = ap (λ (l : Writing). l.position) listing ∙ h.position;
    listing_file = ap (λ (l : Writing). l.file) listing ∙ h.listing_file;
    rows = subst (λ i. WritesRowIndex i t.rows) (sym rows) h.rows;
    rows_file = h.rows_file;
    index = index;
    index_file = file ∙ h.index_file;
    files = told_then t.before f0 f1 _ _ _ (index_stands listing) h.files
        (subst (λ (f : FileId). GrewAll f0 f1 f bytes) h.index_file (some_all E f0 f1 t.index.file x bytes put));
  }
  index_moves {T = T} (Err e) f0 f1 h file index listing rows put =
      told_then t.before f0 f1 _ _ _ index_cut h.files (subst (λ (f : FileId). GrewFront f0 f1 f bytes) h.index_file (some_front T f0 f1 t.index.file e bytes put))

-- ---- at the end of a call

-- what the row index was given with one block more
pub written_block : {T E : Type 0} (r : Result T E) (old new : RowWriter) (w : RowIndexing) (b : Block) → GoesBehind old w b
    → OnOk r ((v : RowIndexing) → GoesBehind old v b → WritesRowIndex new (with_block v b)) → OnOk r (WritesRowIndex new (with_block w b))
written_block (Ok x) old new w b behind all = all w behind
written_block (Err e) old new w b behind all = tt

-- with a partition that ended
pub written_partition : {T E : Type 0} (r : Result T E) (old new : RowWriter) (w : RowIndexing) (string : List ℕ) (at : ℕ) → WritesRowIndex old w
    → OnOk r ((v : RowIndexing) → WritesRowIndex old v → WritesRowIndex new (with_finished v string at)) → OnOk r (WritesRowIndex new (with_finished w string at))
written_partition (Ok x) old new w string at h all = all w h
written_partition (Err e) old new w string at h all = tt

pub at_begun : {E : Type 0} (s : GrowingFiles) (f0 : Option Files) (r : Result ℕ E) → IfOk r (λ at. (w : RowIndexing) → WritesRowIndex s.rows w → at ≡ begun_entry_at w)
    → IfOk r (λ at. (t : Growing) → Grows s t f0 → at ≡ begun_entry_at t.rows)
at_begun s f0 (Ok at) all = λ t h. all t.rows h.rows
at_begun s f0 (Err e) all = tt

-- what the partition index was given with one more
pub written_index : {T E : Type 0} (r : Result T E) (old new : PartitionWriter) (w : Indexing) (p : Numbered) → WritesIndex old w → HasRoom w p
    → OnOk r ((v : Indexing) → WritesIndex old v → HasRoom v p → WritesIndex new (with_partition v p)) → OnOk r (WritesIndex new (with_partition w p))
written_index (Ok x) old new w p h room all = all w h room
written_index (Err e) old new w p h room all = tt

-- an error is answered on
pub torn_as : {T E R G : Type 0} (r : Result T E) (r' : Result R G) (s s' : GrowingFiles) (t : Growing) (f : Option Files) → IsErr r → IsErr r' → Moves r s t f → Moves r' s' t f
torn_as (Ok x) r' s s' t f bad worse p = cc
torn_as (Err e) (Ok x) s s' t f bad worse p = cc
torn_as (Err e) (Err e') s s' t f bad worse p = p

-- ---- where there may be nothing to write

pub nothing_moved : (s : GrowingFiles) (t : Growing) (f : Option Files) → Grows s t f → Grows s (with_bytes t []) f
nothing_moved s t f h =
    let same : t ≡ with_bytes t [] = λ i. record t { listing = sym (append-nil t.listing) i } in
    subst (λ (u : Growing). Grows s u f) same h

module _ (s s' : GrowingFiles) (t : Growing) (f0 f1 : Option Files) (h : Grows s t f0) (rows : s'.rows ≡ s.rows) (partitions : s'.partitions ≡ s.partitions)
    (file : s'.listing.file ≡ s.listing.file) where
  -- the row of an entry that is not a static value
  pub row_moves : {T E : Type 0} (clustering value : List ℕ) (r : Result T E) → (length clustering == 0) ≡ false
      → OnOk r (s'.listing.position ≡ s.listing.position + length (row_bytes clustering value))
      → PutsButHeld f0 f1 s.listing.file r (s.listing.pending ++ row_bytes clustering value) s'.listing.pending
      → Moves r s' (with_bytes t (rows_bytes (rows_given clustering value))) f1
  row_moves [] value r some position put = cc
  row_moves (b ∷ clustering) value r some position put =
      subst (λ (bs : List ℕ). Moves r s' (with_bytes t bs) f1) (sym (append-nil (row_bytes (b ∷ clustering) value)))
      (listing_moves s s' t (row_bytes (b ∷ clustering) value) r f0 f1 h rows partitions file position put)

  -- the static part of a partition in a table with a static type
  pub static_moves : {T E : Type 0} (static : Option ValueType) (value : Option (List ℕ)) (r : Result T E) → is_some static ≡ true
      → OnOk r (s'.listing.position ≡ s.listing.position + length (static_bytes value))
      → PutsButHeld f0 f1 s.listing.file r (s.listing.pending ++ static_bytes value) s'.listing.pending
      → Moves r s' (with_bytes t (static_part_bytes static value)) f1
  static_moves None value r some position put = cc
  static_moves (Some type) value r some position put = listing_moves s s' t (static_bytes value) r f0 f1 h rows partitions file position put

some_length : (b : ℕ) (bs : List ℕ) → (length (b ∷ bs) == 0) ≡ true → ⊥
some_length b bs e = grind (arith, nat_tests)

pub no_row : (s : GrowingFiles) (t : Growing) (f : Option Files) (clustering value : List ℕ) → (length clustering == 0) ≡ true → Grows s t f
    → Grows s (with_bytes t (rows_bytes (rows_given clustering value))) f
no_row s t f [] value none h = nothing_moved s t f h
no_row s t f (b ∷ clustering) value none h = absurd (some_length b clustering none)

pub no_static_part : (s : GrowingFiles) (t : Growing) (f : Option Files) (static : Option ValueType) (value : Option (List ℕ)) → is_some static ≡ false → Grows s t f
    → Grows s (with_bytes t (static_part_bytes static value)) f
no_static_part s t f None value none h = nothing_moved s t f h
no_static_part s t f (Some type) value none h = cc

-- ---- one piece behind the other

pub prefix_on : (a b c : List ℕ) → IsBeginning a b → IsBeginning b c → IsBeginning a c
prefix_on a b c (x, e) (y, f) = (x ++ y, f ∙ ap (λ (bs : List ℕ). bs ++ y) e ∙ append_assoc a x y)

cut_step : (a b part : FourFiles) → IsBeginning a.listing b.listing → IsBeginning a.rows b.rows → IsBeginning a.partitions b.partitions → AreCut part a → AreCut part b
cut_step a b part listing rows partitions h = record {
  listing = prefix_on part.listing a.listing b.listing h.listing listing;
  rows = prefix_on part.rows a.rows b.rows h.rows rows;
  partitions = prefix_on part.partitions a.partitions b.partitions h.partitions partitions;
  schema = h.schema;
}

-- a part of what stands is a part of what goes on from there
pub cut_on : (t : Growing) (a b : FourFiles) (f : Option Files) → IsBeginning a.listing b.listing → IsBeginning a.rows b.rows → IsBeginning a.partitions b.partitions
    → CutOff t a f → CutOff t b f
cut_on t a b f listing rows partitions cut = told_so t.before f _ _ (λ old new p. (p.0, cut_step a b p.0 listing rows partitions p.1, p.2)) cut

pub torn_of : {T E : Type 0} (r : Result T E) (s : GrowingFiles) (t : Growing) (f : Option Files) → IsErr r → Moves r s t f → Torn t f
torn_of (Ok x) s t f bad p = cc
torn_of (Err e) s t f bad p = p

pub moves_err : {T E : Type 0} (r : Result T E) (s : GrowingFiles) (t : Growing) (f : Option Files) → IsErr r → Torn t f → Moves r s t f
moves_err (Ok x) s t f bad p = cc
moves_err (Err e) s t f bad p = p

module _ (t : Growing) (a b c : List ℕ) (f : Option Files) where
  pub first_torn : Torn (with_bytes t a) f → Torn (with_bytes t (a ++ (b ++ c))) f
  first_torn torn =
      cut_on t _ _ f (b ++ c, sym (append_assoc t.listing a (b ++ c))) (all_prefix (early_rows t.rows)) (all_prefix (early_index t.index.partitions)) torn

  pub second_torn : (b' : List ℕ) → b' ≡ b → Torn (with_bytes (with_bytes t a) b') f → Torn (with_bytes t (a ++ (b ++ c))) f
  second_torn b' is torn =
      let all : t.listing ++ (a ++ (b ++ c)) ≡ ((t.listing ++ a) ++ b') ++ c =
      ap (λ (x : List ℕ). t.listing ++ x) (sym (append_assoc a b c)) ∙ sym (append_assoc t.listing (a ++ b) c)
      ∙ ap (λ (x : List ℕ). x ++ c) (sym (append_assoc t.listing a b) ∙ ap (λ (x : List ℕ). (t.listing ++ a) ++ x) (sym is)) in
      cut_on t _ _ f (c, all) (all_prefix (early_rows t.rows)) (all_prefix (early_index t.index.partitions)) torn

  three_are : (b' : List ℕ) → b' ≡ b → with_bytes (with_bytes (with_bytes t a) b') c ≡ with_bytes t (a ++ (b ++ c))
  three_are b' is =
      let all : ((t.listing ++ a) ++ b') ++ c ≡ t.listing ++ (a ++ (b ++ c)) =
      ap (λ (x : List ℕ). ((t.listing ++ a) ++ x) ++ c) is ∙ append_assoc (t.listing ++ a) b c ∙ append_assoc t.listing a (b ++ c) in
      λ i. record t { listing = all i }

  pub three_grow : (s : GrowingFiles) (b' : List ℕ) → b' ≡ b → Grows s (with_bytes (with_bytes (with_bytes t a) b') c) f → Grows s (with_bytes t (a ++ (b ++ c))) f
  three_grow s b' is h = subst (λ (u : Growing). Grows s u f) (three_are b' is) h

  pub third_torn : (b' : List ℕ) → b' ≡ b → Torn (with_bytes (with_bytes (with_bytes t a) b') c) f → Torn (with_bytes t (a ++ (b ++ c))) f
  third_torn b' is torn = subst (λ (u : Growing). Torn u f) (three_are b' is) torn

-- where no block begins
pub no_block : (s : GrowingFiles) (t : Growing) (f : Option Files) (b : Bool) (block : Block) → b ≡ false → Grows s t f
    → Grows s (with_blocks t (if b then block ∷ [] else [])) f
no_block s t f true block none h = absurd (true_false none)
  where
    true_false : ◌≡◌ {A = Bool} true false → ⊥
    true_false e = cc
no_block s t f false block none h =
    let same : t ≡ with_blocks t [] = λ i. record t { rows = record t.rows { begun = sym (append-nil t.rows.begun) i } } in
    subst (λ (u : Growing). Grows s u f) same h

-- what stands is a part of itself
pub grows_torn : (s : GrowingFiles) (t : Growing) (f : Option Files) → Grows s t f → Torn t f
grows_torn s t f h =
    told_so t.before f _ _
    (λ old new p. (
      standing t p.0,
      record { listing = (s.listing.pending, p.1); rows = all_prefix (early_rows t.rows); partitions = all_prefix (early_index t.index.partitions); schema = refl },
      p.2,
    )) h.files
