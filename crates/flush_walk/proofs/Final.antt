-- The four files of a table, when its writer has ended.
use Rattle.std.proofs.Common.{◌≡◌, ◌≢◌, ◌⊎◌, ℕ, ◌<◌, ◌≤◌, List, [], ◌++◌, Option, Some, None, Result, Ok, Err, IsErr, IfSome, inl, inr, unwrap_or, arith, refl, sym, ◌∙◌, ap, subst}
use Rattle.std.proofs.lemmas.Bool.{cases_lt}
use Rattle.std.proofs.lemmas.List.{append-nil}
use Rattle.std.specs.FinMap as map
use Rattle.outside.specs.Files.{Appends, Files, bytes_of, file_cmp_total}
use Rattle.outside.specs.Told.{WhereTold}
use Rattle.outside.specs.declared.store.FileId.{FileId}
use Rattle.outside.specs.declared.store.Part.{Part}
use Rattle.outside.specs.declared.store.Part.TheVariants.{Data, Partitions, Rows, Schema}
use Rattle.outside.proofs.Sets.{get-same}
use Rattle.data_file.specs.Listing.{Partition, data_bytes}
use Rattle.data_file.specs.declared.writer.Counts.{Counts}
use Rattle.page_packer.specs.Early.{IsBeginning}
use Rattle.table_files.specs.IndexMeaning.{IndexFilesStand}
use Rattle.table_files.specs.Indexes.{partitions_file, placed}
use Rattle.table_files.specs.Names.{data_id, partitions_id, rows_id, schema_id}
use Rattle.table_files.specs.SchemaFile.{schema_file_text}
use Rattle.table_files.specs.Standing.{AreOfTable}
use Rattle.table_files.proofs.Indexed.{indexes_stand}
use Rattle.flush_walk.specs.declared.writer.TableWriter.{TableWriter}
use Rattle.flush_walk.specs.Given.{Flushing, growing_of, partitions_given, turned}
use Rattle.flush_walk.specs.Growing.{AreCut, AreThree, CutOff, Ends, FourFiles, Growing, HaveBytes, Torn, ended}
use Rattle.flush_walk.specs.Writing.{AddsFour, AreBegun, AreCounts, BeginsFiles, FinishesTable, IndexGiven, StandForGiven, WritesTable, files_of_table}
use Rattle.flush_walk.proofs.Moves.{all_prefix}
use Rattle.flush_walk.proofs.Prefixes.{torn_begun}
use Rattle.flush_walk.proofs.Stores.{GrowsFront, appends_front, get-other, parts_apart, same_file, schema_grown, told_so, told_then}

-- ---- four files set in the files

module _ (g : ℕ) (four : FourFiles) (old : Files) where
  abbrev set1 : Files
  set1 = map.insert old (data_id g) four.listing

  abbrev set2 : Files
  set2 = map.insert set1 (rows_id g) four.rows

  abbrev set3 : Files
  set3 = map.insert set2 (partitions_id g) four.partitions

  abbrev set4 : Files
  set4 = map.insert set3 (schema_id g) four.schema

  get_listing : map.get set4 (data_id g) ≡ Some four.listing
  get_listing =
      get-other set3 (schema_id g) four.schema (data_id g) (parts_apart (data_id g) (schema_id g) (λ (e : ◌≡◌ {A = ℕ} 0 3). omega arith))
      ∙ get-other set2 (partitions_id g) four.partitions (data_id g) (parts_apart (data_id g) (partitions_id g) (λ (e : ◌≡◌ {A = ℕ} 0 1). omega arith))
      ∙ get-other set1 (rows_id g) four.rows (data_id g) (parts_apart (data_id g) (rows_id g) (λ (e : ◌≡◌ {A = ℕ} 0 2). omega arith))
      ∙ get-same old (data_id g) four.listing

  get_rows : map.get set4 (rows_id g) ≡ Some four.rows
  get_rows =
      get-other set3 (schema_id g) four.schema (rows_id g) (parts_apart (rows_id g) (schema_id g) (λ (e : ◌≡◌ {A = ℕ} 2 3). omega arith))
      ∙ get-other set2 (partitions_id g) four.partitions (rows_id g) (parts_apart (rows_id g) (partitions_id g) (λ (e : ◌≡◌ {A = ℕ} 2 1). omega arith))
      ∙ get-same set1 (rows_id g) four.rows

  get_partitions : map.get set4 (partitions_id g) ≡ Some four.partitions
  get_partitions =
      get-other set3 (schema_id g) four.schema (partitions_id g) (parts_apart (partitions_id g) (schema_id g) (λ (e : ◌≡◌ {A = ℕ} 1 3). omega arith))
      ∙ get-same set2 (partitions_id g) four.partitions

  get_others : (q : FileId) → q.generation ≢ g → map.get set4 q ≡ map.get old q
  get_others q apart =
      get-other set3 (schema_id g) four.schema q (λ e. apart (ap (λ (f : FileId). f.generation) e))
      ∙ get-other set2 (partitions_id g) four.partitions q (λ e. apart (ap (λ (f : FileId). f.generation) e))
      ∙ get-other set1 (rows_id g) four.rows q (λ e. apart (ap (λ (f : FileId). f.generation) e))
      ∙ get-other old (data_id g) four.listing q (λ e. apart (ap (λ (f : FileId). f.generation) e))

-- files of which these are there, and all others as they were
pub record AreFour (g : ℕ) (four : FourFiles) (old new : Files) : Type 0 where
  pub listing : map.get new (data_id g) ≡ Some four.listing
  pub rows : map.get new (rows_id g) ≡ Some four.rows
  pub partitions : map.get new (partitions_id g) ≡ Some four.partitions
  pub schema : map.get new (schema_id g) ≡ Some four.schema
  pub others : (file : FileId) → file.generation ≢ g → map.get new file ≡ map.get old file

module _ (g : ℕ) (four : FourFiles) (old new : Files) (h : AreFour g four old new) where
  get_of : (part : Part) → map.get new (record { generation = g; part = part }) ≡ map.get (set4 g four old) (record { generation = g; part = part })
  get_of Data = h.listing ∙ sym (get_listing g four old)
  get_of Partitions = h.partitions ∙ sym (get_partitions g four old)
  get_of Rows = h.rows ∙ sym (get_rows g four old)
  get_of Schema = h.schema ∙ sym (get-same (set3 g four old) (schema_id g) four.schema)

  get_same_generation : (q : FileId) → q.generation ≡ g → map.get new q ≡ map.get (set4 g four old) q
  get_same_generation q is =
      let e : ◌≡◌ {A = FileId} (record { generation = g; part = q.part }) q = λ i. record { generation = sym is i; part = q.part } in
      subst (λ (f : FileId). map.get new f ≡ map.get (set4 g four old) f) e (get_of q.part)

  get_all : (q : FileId) → map.get new q ≡ map.get (set4 g four old) q
  get_all q = by (cases_lt q.generation g) (cases_lt g q.generation)
    where
      by : (q.generation < g) ⊎ (g ≤ q.generation) → (g < q.generation) ⊎ (q.generation ≤ g) → map.get new q ≡ map.get (set4 g four old) q
      by (inl low) other = h.others q (λ e. omega (arith, low, e)) ∙ sym (get_others g four old q (λ e. omega (arith, low, e)))
      by (inr low) (inl high) = h.others q (λ e. omega (arith, high, e)) ∙ sym (get_others g four old q (λ e. omega (arith, high, e)))
      by (inr low) (inr high) = get_same_generation q (omega (arith, low, high))

  adds_four : AddsFour g four old new
  adds_four = map.same_map file_cmp_total same_file new (set4 g four old) get_all

get_bytes : (m : Files) (file : FileId) (bytes : List ℕ) → map.get m file ≡ Some bytes → bytes_of m file ≡ bytes
get_bytes m file bytes is = ap (λ (o : Option (List ℕ)). unwrap_or o []) is

-- they have these bytes
pub added_have : (g : ℕ) (four : FourFiles) (old new : Files) → AddsFour g four old new → HaveBytes g four old new
added_have g four old new is =
    subst (λ (m : Files). HaveBytes g four old m) (sym is)
    (record {
      listing = get_bytes (set4 g four old) (data_id g) four.listing (get_listing g four old);
      rows = get_bytes (set4 g four old) (rows_id g) four.rows (get_rows g four old);
      partitions = get_bytes (set4 g four old) (partitions_id g) four.partitions (get_partitions g four old);
      schema = get_bytes (set4 g four old) (schema_id g) four.schema (get-same (set3 g four old) (schema_id g) four.schema);
      others = get_others g four old;
    })

-- all of them is a part
pub all_begun : (four : FourFiles) → AreBegun four four
all_begun four = record {
  listing = all_prefix four.listing;
  rows = all_prefix four.rows;
  partitions = all_prefix four.partitions;
  schema = all_prefix four.schema;
  last = λ some. (refl, refl, refl);
}

-- ---- one table

module _ (w : Flushing) (table : AreOfTable w.columns (partitions_given w)) where
  abbrev t : Growing
  t = growing_of (turned w)

  abbrev all : List Partition
  all = partitions_given w

  abbrev text : List ℕ
  text = schema_file_text w.columns

  listing_is : data_bytes w.columns.static_value all ++ [] ≡ data_bytes w.columns.static_value all
  listing_is = append-nil (data_bytes w.columns.static_value all)

  cut_begun : (part : FourFiles) → AreCut part (ended t) → AreBegun part (files_of_table w.columns all)
  cut_begun part cut = record {
    listing = subst (λ (bs : List ℕ). IsBeginning part.listing bs) listing_is cut.listing;
    rows = cut.rows;
    partitions = cut.partitions;
    schema = (text, ap (λ (bs : List ℕ). bs ++ text) (sym cut.schema));
    last = λ some. absurd (some cut.schema);
  }

  pub closed_torn_begun : (f : Option Files) → Torn t f → BeginsFiles w all f
  closed_torn_begun f torn = torn_begun (turned w) f torn all table ([], sym (append-nil all))

  pub cut_off_begun : (f : Option Files) → CutOff t (ended t) f → BeginsFiles w all f
  cut_off_begun f cut = told_so w.before f _ _ (λ old new p. (p.0, cut_begun p.0 p.1, p.2)) cut

  three_bytes : (old mid : Files) → AreThree w.generation (ended t) old mid → HaveBytes w.generation (ended t) old mid
  three_bytes old mid k = record {
    listing = get_bytes mid (data_id w.generation) (ended t).listing k.listing;
    rows = get_bytes mid (rows_id w.generation) (ended t).rows k.rows;
    partitions = get_bytes mid (partitions_id w.generation) (ended t).partitions k.partitions;
    schema = k.schema;
    others = k.others;
  }

  schema_stops : (old mid new : Files) → AreThree w.generation (ended t) old mid → GrowsFront mid new (schema_id w.generation) text
      → (part : FourFiles) × AreBegun part (files_of_table w.columns all) × HaveBytes w.generation part old new
  schema_stops old mid new k (front, rest, e, grows) = (
    record (ended t) { schema = front },
    record {
      listing = ([], sym listing_is ∙ sym (append-nil (data_bytes w.columns.static_value all ++ [])));
      rows = all_prefix (ended t).rows;
      partitions = all_prefix (ended t).partitions;
      schema = (rest, e);
      last = λ some. (listing_is, refl, refl);
    },
    schema_grown w.generation (ended t) front front old mid new (three_bytes old mid k) refl grows,
  )

  pub schema_begun : {T E : Type 0} (r : Result T E) (f0 f1 : Option Files) → IsErr r → WhereTold w.before f0 (AreThree w.generation (ended t))
      → Appends f0 f1 (schema_id w.generation) r text → BeginsFiles w all f1
  schema_begun (Ok x) f0 f1 bad three put = cc
  schema_begun {T = T} (Err e) f0 f1 bad three put =
      told_then w.before f0 f1 _ _ _ schema_stops three (appends_front T f0 f1 (schema_id w.generation) e text put)

  four_are : (old mid new : Files) → AreThree w.generation (ended t) old mid → new ≡ map.insert mid (schema_id w.generation) (bytes_of mid (schema_id w.generation) ++ text)
      → AreFour w.generation (files_of_table w.columns all) old new
  four_are old mid new k is =
      let other : (q : FileId) → q ≢ schema_id w.generation → map.get new q ≡ map.get mid q =
      λ q apart. ap (λ (m : Files). map.get m q) is ∙ get-other mid (schema_id w.generation) (bytes_of mid (schema_id w.generation) ++ text) q apart in
      record {
        listing = other (data_id w.generation) (parts_apart (data_id w.generation) (schema_id w.generation) (λ (e : ◌≡◌ {A = ℕ} 0 3). omega arith)) ∙ k.listing ∙ ap Some listing_is;
        rows = other (rows_id w.generation) (parts_apart (rows_id w.generation) (schema_id w.generation) (λ (e : ◌≡◌ {A = ℕ} 2 3). omega arith)) ∙ k.rows;
        partitions = other (partitions_id w.generation) (parts_apart (partitions_id w.generation) (schema_id w.generation) (λ (e : ◌≡◌ {A = ℕ} 1 3). omega arith)) ∙ k.partitions;
        schema =
            ap (λ (m : Files). map.get m (schema_id w.generation)) is ∙ get-same mid (schema_id w.generation) (bytes_of mid (schema_id w.generation) ++ text)
            ∙ ap (λ (bs : List ℕ). Some (bs ++ text)) k.schema;
        others = λ q apart. other q (λ e. apart (ap (λ (f : FileId). f.generation) e)) ∙ k.others q apart;
      }

  module _ (f0 f1 : Option Files) (three : WhereTold w.before f0 (AreThree w.generation (ended t))) where
    pub four_there : {T : Type 0} (E : Type 0) (x : T) → Appends {E = E} f0 f1 (schema_id w.generation) (Ok x) text → WhereTold w.before f1 (AreFour w.generation (files_of_table w.columns all))
    four_there E x put = told_then w.before f0 f1 _ _ _ (λ old mid new p q. four_are old mid new p q.0) three put

  pub adds : (f1 : Option Files) → WhereTold w.before f1 (AreFour w.generation (files_of_table w.columns all)) → WhereTold w.before f1 (AddsFour w.generation (files_of_table w.columns all))
  adds f1 four = told_so w.before f1 _ _ (λ old new p. adds_four w.generation (files_of_table w.columns all) old new p) four

  indexes : (old new : Files) → AreFour w.generation (files_of_table w.columns all) old new → IndexGiven w new
  indexes old new k =
      let given = placed w.columns.static_value all in
      subst (λ (bs : List ℕ). IndexFilesStand bs (bytes_of new (rows_id w.generation)) given) (sym (get_bytes new (partitions_id w.generation) _ k.partitions))
      (subst (λ (bs : List ℕ). IndexFilesStand (partitions_file w.columns.static_value all) bs given) (sym (get_bytes new (rows_id w.generation) _ k.rows))
      (indexes_stand w.columns all table))

  stands_for : (old new : Files) → AreFour w.generation (files_of_table w.columns all) old new → StandForGiven w new
  stands_for old new k have map' same = record {
    held = record {
      partitions = all;
      listed = (get_bytes new (data_id w.generation) _ k.listing, table.are);
      ascend = table.ascend;
      rows = table.rows;
      same = sym same;
    };
    indexes = indexes old new k;
    schema = (have, get_bytes new (schema_id w.generation) text k.schema);
  }

  told_end : (f0 f1 : Option Files) (Q : Files → Files → Type 0) (S : Files → Type 0) → ((x y : Files) → Q x y → S y) → WhereTold f0 f1 Q → IfSome f1 S
  told_end None None Q S step q = tt
  told_end None (Some y) Q S step q = absurd q
  told_end (Some x) None Q S step q = absurd q
  told_end (Some x) (Some y) Q S step q = step x y q

  pub stand : (f1 : Option Files) → WhereTold w.before f1 (AreFour w.generation (files_of_table w.columns all)) → IfSome f1 (StandForGiven w)
  stand f1 four = told_end w.before f1 _ _ stands_for four

  pub indexed : (f1 : Option Files) → WhereTold w.before f1 (AreFour w.generation (files_of_table w.columns all)) → IfSome f1 (IndexGiven w)
  indexed f1 four = told_end w.before f1 _ _ indexes four

-- ---- the end of the call

pub finishes_err : {E : Type 0} (r : Result Counts E) (s : TableWriter) (f0 f1 : Option Files) → IsErr r
    → ((w : Flushing) → WritesTable s w f0 → BeginsFiles w (partitions_given w) f1) → FinishesTable s f0 f1 r
finishes_err (Ok x) s f0 f1 bad all = cc
finishes_err (Err e) s f0 f1 bad all = record { adds = tt; stand = tt; indexed = tt; counts = tt; begun = all }

pub counts_turned : (counts : Counts) (w : Flushing) → AreCounts counts (partitions_given (turned w)) → AreCounts counts (partitions_given w)
counts_turned counts w h = subst (AreCounts counts) (append-nil (partitions_given w)) h

pub ends_cut : {T E : Type 0} (r : Result T E) (t : Growing) (f : Option Files) → IsErr r → Ends r t f → CutOff t (ended t) f
ends_cut (Ok x) t f bad p = cc
ends_cut (Err e) t f bad p = p
