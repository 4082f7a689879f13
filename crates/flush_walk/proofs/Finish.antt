-- The end of a table: the three files are there, and then Schema.txt.
use Rattle.std.proofs.Common.{◌≡◌, ℕ, List, [], ◌++◌, Option, Some, Result, Ok, Err, IsErr, inl, arith, refl, sym, ◌∙◌, ap, subst}
use Rattle.std.proofs.lemmas.List.{append_assoc, append-nil}
use Rattle.std.specs.FinMap as map
use Rattle.outside.specs.Files.{Appends, Files, bytes_of}
use Rattle.outside.specs.Told.{WhereTold}
use Rattle.outside.specs.declared.store.FileId.{FileId}
use Rattle.outside.proofs.Sets.{get-same}
use Rattle.data_file.specs.Writing.{AppendsWhole, GrowsBy, PutsAllBut}
use Rattle.page_packer.specs.Early.{IsBeginning}
use Rattle.partition_index.specs.File.{early_index, last_index_bytes, partition_file}
use Rattle.partition_index.proofs.Settled.{index_ends}
use Rattle.row_index.specs.Entries.{Block}
use Rattle.row_index.specs.File.{row_file}
use Rattle.row_index.specs.Writing.{early_rows}
use Rattle.row_index.proofs.Growing.{all_stand}
use Rattle.table_files.specs.Names.{data_id, partitions_id, rows_id}
use Rattle.flush_walk.specs.declared.growing.GrowingFiles.{GrowingFiles}
use Rattle.flush_walk.specs.Growing.{AreCut, AreThree, CutOff, Ends, FourFiles, Growing, Grows, HaveBytes, StandsNow, ended, standing}
use Rattle.flush_walk.proofs.Moves.{all_prefix}
use Rattle.flush_walk.proofs.Stores.{GrewFront, GrowsFront, appends_front, grown_other, listing_grown, partitions_grown, parts_apart, rows_grown, told_then}

-- ---- what was made

abbrev Made1 : Growing → Files → Files → Type 0
Made1 t old new = (map.get new (data_id t.generation) ≡ Some t.listing) × HaveBytes t.generation (standing t t.listing) old new

abbrev Made2 : Growing → Files → Files → Type 0
Made2 t old new = (map.get new (rows_id t.generation) ≡ Some (early_rows t.rows)) × Made1 t old new

module _ (s : GrowingFiles) (t : Growing) (f0 : Option Files) (h : Grows s t f0) (none : t.rows.begun ≡ []) where
  rows_whole : early_rows t.rows ≡ row_file t.rows.done
  rows_whole = ap (λ (bs : List Block). early_rows (record t.rows { begun = bs })) none ∙ all_stand t.rows.done

  index_whole : partition_file t.index.partitions ≡ early_index t.index.partitions ++ last_index_bytes t.index.partitions
  index_whole = index_ends t.index.partitions h.index.trie.fine

  rows_part : IsBeginning (early_rows t.rows) (row_file t.rows.done)
  rows_part = ([], sym rows_whole ∙ sym (append-nil (early_rows t.rows)))

  index_part : IsBeginning (early_index t.index.partitions) (partition_file t.index.partitions)
  index_part = (last_index_bytes t.index.partitions, index_whole)

  -- ---- Data.db

  listing_made : (xs ys zs : Files) → StandsNow s t xs ys → zs ≡ map.insert ys (data_id t.generation) (bytes_of ys (data_id t.generation) ++ s.listing.pending) → Made1 t xs zs
  listing_made xs ys zs (front, e, k) is = (
    ap (λ (m : Files). map.get m (data_id t.generation)) is ∙ get-same ys (data_id t.generation) (bytes_of ys (data_id t.generation) ++ s.listing.pending)
        ∙ ap (λ (bs : List ℕ). Some (bs ++ s.listing.pending)) k.listing ∙ ap Some (sym e),
    listing_grown t.generation (standing t front) s.listing.pending t.listing xs ys zs k e (inl is),
  )

  listing_stops : (xs ys zs : Files) → StandsNow s t xs ys → (left : List ℕ) × PutsAllBut ys zs (data_id t.generation) s.listing.pending left
      → (part : FourFiles) × AreCut part (ended t) × HaveBytes t.generation part xs zs
  listing_stops xs ys zs (front, e, k) (left, (more, f, grows)) = (
    standing t (front ++ more),
    record {
      listing = (left, e ∙ ap (λ (bs : List ℕ). front ++ bs) f ∙ sym (append_assoc front more left));
      rows = rows_part;
      partitions = index_part;
      schema = refl;
    },
    listing_grown t.generation (standing t front) more (front ++ more) xs ys zs k refl grows,
  )

  pub listing_ends : {T : Type 0} (E : Type 0) (x : T) (f1 : Option Files) → AppendsWhole {E = E} f0 f1 s.listing.file (Ok x) s.listing.pending → WhereTold t.before f1 (Made1 t)
  listing_ends E x f1 put =
      told_then t.before f0 f1 _ _ _ listing_made h.files
      (subst (λ (f : FileId). WhereTold f0 f1 (λ xs ys. ys ≡ map.insert xs f (bytes_of xs f ++ s.listing.pending))) h.listing_file put)

  pub listing_cut_off : {T E : Type 0} (r : Result T E) (f1 : Option Files) → IsErr r → AppendsWhole f0 f1 s.listing.file r s.listing.pending → CutOff t (ended t) f1
  listing_cut_off (Ok x) f1 bad put = cc
  listing_cut_off (Err e) f1 bad put =
      told_then t.before f0 f1 _ _ _ listing_stops h.files
      (subst (λ (f : FileId). WhereTold f0 f1 (λ xs ys. (left : List ℕ) × PutsAllBut xs ys f s.listing.pending left)) h.listing_file put)

  -- ---- Rows.db

  rows_made : (xs ys zs : Files) → Made1 t xs ys → zs ≡ map.insert ys (rows_id t.generation) (bytes_of ys (rows_id t.generation) ++ []) → Made2 t xs zs
  rows_made xs ys zs (got, k) is =
      let grows : GrowsBy ys zs (rows_id t.generation) [] = inl is in (
        ap (λ (m : Files). map.get m (rows_id t.generation)) is ∙ get-same ys (rows_id t.generation) (bytes_of ys (rows_id t.generation) ++ [])
            ∙ ap Some (append-nil (bytes_of ys (rows_id t.generation)) ∙ k.rows),
        (
          grown_other ys zs (rows_id t.generation) [] grows (data_id t.generation) (parts_apart (data_id t.generation) (rows_id t.generation) (λ (e : ◌≡◌ {A = ℕ} 0 2). omega arith)) ∙ got,
          rows_grown t.generation (standing t t.listing) [] (early_rows t.rows) xs ys zs k (sym (append-nil (early_rows t.rows))) grows,
        ),
      )

  rows_stop : (xs ys zs : Files) → Made1 t xs ys → GrowsFront ys zs (rows_id t.generation) [] → (part : FourFiles) × AreCut part (ended t) × HaveBytes t.generation part xs zs
  rows_stop xs ys zs (got, k) (front, rest, e, grows) = (
    record (standing t t.listing) { rows = early_rows t.rows ++ front },
    record {
      listing = all_prefix t.listing;
      rows = (rest, sym rows_whole ∙ sym (append-nil (early_rows t.rows)) ∙ ap (λ (bs : List ℕ). early_rows t.rows ++ bs) e ∙ sym (append_assoc (early_rows t.rows) front rest));
      partitions = index_part;
      schema = refl;
    },
    rows_grown t.generation (standing t t.listing) front (early_rows t.rows ++ front) xs ys zs k refl grows,
  )

  pub rows_end : {T : Type 0} (E : Type 0) (x : T) (f1 f2 : Option Files) → WhereTold t.before f1 (Made1 t) → Appends {E = E} f1 f2 t.rows.file (Ok x) [] → WhereTold t.before f2 (Made2 t)
  rows_end E x f1 f2 made put =
      told_then t.before f1 f2 _ _ _ (λ xs ys zs p q. rows_made xs ys zs p q.0) made
      (subst (λ (f : FileId). Appends {E = E} f1 f2 f (Ok x) []) h.rows_file put)

  pub rows_cut_off : {T E : Type 0} (r : Result T E) (f1 f2 : Option Files) → IsErr r → WhereTold t.before f1 (Made1 t) → Appends f1 f2 t.rows.file r [] → CutOff t (ended t) f2
  rows_cut_off (Ok x) f1 f2 bad made put = cc
  rows_cut_off {T = T} (Err e) f1 f2 bad made put =
      told_then t.before f1 f2 _ _ _ rows_stop made (subst (λ (f : FileId). GrewFront f1 f2 f []) h.rows_file (appends_front T f1 f2 t.rows.file e [] put))

  -- ---- Partitions.db

  three_made : (xs ys zs : Files) → Made2 t xs ys
      → zs ≡ map.insert ys (partitions_id t.generation) (bytes_of ys (partitions_id t.generation) ++ last_index_bytes t.index.partitions) → AreThree t.generation (ended t) xs zs
  three_made xs ys zs (rows, (listing, k)) is =
      let last = last_index_bytes t.index.partitions in
      let grows : GrowsBy ys zs (partitions_id t.generation) last = inl is in
      let all = partitions_grown t.generation (standing t t.listing) last (partition_file t.index.partitions) xs ys zs k index_whole grows in
      record {
        listing = grown_other ys zs (partitions_id t.generation) last grows (data_id t.generation) (parts_apart (data_id t.generation) (partitions_id t.generation) (λ (e : ◌≡◌ {A = ℕ} 0 1). omega arith)) ∙ listing;
        rows = grown_other ys zs (partitions_id t.generation) last grows (rows_id t.generation) (parts_apart (rows_id t.generation) (partitions_id t.generation) (λ (e : ◌≡◌ {A = ℕ} 2 1). omega arith)) ∙ rows ∙ ap Some rows_whole;
        partitions =
            ap (λ (m : Files). map.get m (partitions_id t.generation)) is ∙ get-same ys (partitions_id t.generation) (bytes_of ys (partitions_id t.generation) ++ last)
            ∙ ap (λ (bs : List ℕ). Some (bs ++ last)) k.partitions ∙ ap Some (sym index_whole);
        schema = all.schema;
        others = all.others;
      }

  index_stops : (xs ys zs : Files) → Made2 t xs ys → GrowsFront ys zs (partitions_id t.generation) (last_index_bytes t.index.partitions)
      → (part : FourFiles) × AreCut part (ended t) × HaveBytes t.generation part xs zs
  index_stops xs ys zs (rows, (listing, k)) (front, rest, e, grows) = (
    record (standing t t.listing) { partitions = early_index t.index.partitions ++ front },
    record {
      listing = all_prefix t.listing;
      rows = rows_part;
      partitions = (
        rest,
        index_whole ∙ ap (λ (bs : List ℕ). early_index t.index.partitions ++ bs) e ∙ sym (append_assoc (early_index t.index.partitions) front rest),
      );
      schema = refl;
    },
    partitions_grown t.generation (standing t t.listing) front (early_index t.index.partitions ++ front) xs ys zs k refl grows,
  )

  pub index_end : {T E : Type 0} (r : Result T E) (f2 f3 : Option Files) → WhereTold t.before f2 (Made2 t) → Appends f2 f3 t.index.file r (last_index_bytes t.index.partitions) → Ends r t f3
  index_end {E = E} (Ok x) f2 f3 made put =
      told_then t.before f2 f3 _ _ _ (λ xs ys zs p q. three_made xs ys zs p q.0) made
      (subst (λ (f : FileId). Appends {E = E} f2 f3 f (Ok x) (last_index_bytes t.index.partitions)) h.index_file put)
  index_end {T = T} (Err e) f2 f3 made put =
      told_then t.before f2 f3 _ _ _ index_stops made
      (subst (λ (f : FileId). GrewFront f2 f3 f (last_index_bytes t.index.partitions)) h.index_file (appends_front T f2 f3 t.index.file e (last_index_bytes t.index.partitions) put))

pub ends_err : {T E : Type 0} (r : Result T E) (t : Growing) (f : Option Files) → IsErr r → CutOff t (ended t) f → Ends r t f
ends_err (Ok x) t f bad cut = cc
ends_err (Err e) t f bad cut = cut
