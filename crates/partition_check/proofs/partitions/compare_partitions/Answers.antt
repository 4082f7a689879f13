use Rattle.std.proofs.Common.{◌≡◌, ◌≢◌, ◌∙◌, List, [], ℕ, Option, IfSome, Result, Ok, Err, refl, ap, sym, subst, arith, rules}
use Rattle.std.specs.Prelude.{⊤}
use Rattle.outside.specs.Files.{Files, bytes_of}
use Rattle.outside.specs.declared.store.FileId.{FileId}
use Rattle.outside.specs.declared.store.Part.TheVariants.{Partitions}
use Rattle.key_types.specs.Columns.{columns_of}
use Rattle.key_decode.specs.Strings.{IsStringOf}
use Rattle.byte_order.specs.Strings.{Differ}
use Rattle.bti_reader.specs.Walks.{last_given}
use Rattle.bti_reader.specs.Ways.{Progress}
use Rattle.data_file.specs.declared.reading.DataError.TheVariants.{NoMemory}
use Rattle.data_walk.specs.declared.data_walk.DataWalk.{DataWalk}
use Rattle.data_walk.specs.declared.data_walk.PartitionSum.{PartitionSum}
use Rattle.data_walk.specs.declared.refusal.Refusal.{Refusal}
use Rattle.data_walk.specs.declared.refusal.Refusal.TheVariants.{Unread}
use Rattle.data_walk.specs.DataWalk.{FindsPartition, OverFile}
use Rattle.path_check.specs.Paths.{EndsPaths}
use Rattle.partition_check.specs.Partitions.{ChecksPath, key_behind, unique_path}
use Rattle.partition_check.proofs.Beside.{Beside, Compares, beside_clash, beside_end, beside_fault, beside_on, beside_start, beside_stop}
use Rattle.partition_check.proofs.Turns.{differs_after, differs_behind, differs_first, some_string, string_behind}
use Rattle.partition_check.proofs.partitions.compare_partitions.Goals as goal

pub partitions-init : goal.partitions-init
partitions-init g c =
    let columns = columns_of c.args.schema.now in
    let files = g.K.Store.files c.args.store.now in
    let paths = c.args.paths.now in
    record {
      came = beside_start columns c.args.file paths.file c.args.root c.args.walk.now c.args.first (last_given paths.way) files c.new-at.result.key c.new-at.ensures.key;
      string = c.requires.first;
      differs = differs_first c.new-at.result.key c.args.walk.now.key c.args.first c.new-at.ensures.key;
      paths = refl;
      honest = c.requires.honest;
      stands = c.requires.stands;
      same = refl;
      later = omega arith;
    }

pub returns-in_err-go_on-clause-told : goal.returns-in_err-go_on-clause-told
returns-in_err-go_on-clause-told g c =
    let columns = columns_of c.args.schema.now in
    let files = g.K.Store.files c.args.store.now in
    let start = c.args.paths.now in
    let at = c.partitions in
    let e : Refusal = Unread NoMemory in
    let is : c.from_residual.result ≡ Err e = search rules in
    subst (λ (r : Result ⊤ Refusal). Compares columns c.args.file start.file c.args.root c.args.walk.now c.args.first (last_given start.way) files r) (sym is)
    (beside_fault columns c.args.file start.file c.args.root c.args.walk.now c.args.first (last_given start.way) files at.at.key at.sum at.walk (last_given at.paths.way) e tt at.invariant.came)

pub returns-in_err-sum-clause-told : goal.returns-in_err-sum-clause-told
returns-in_err-sum-clause-told g c =
    let columns = columns_of c.args.schema.now in
    let files = g.K.Store.files c.args.store.now in
    let start = c.args.paths.now in
    let at = c.partitions in
    let e : Refusal = c.in_err-sum.field-0.0 in
    let step = subst (λ (f : Option Files). OverFile f c.args.file (FindsPartition columns) at.walk c.next.new.self (Err e)) at.invariant.same c.in_err-sum.ensures.told in
    let came = subst (λ (o : Option PartitionSum). Beside columns c.args.file start.file c.args.root c.args.walk.now c.args.first (last_given start.way) files at.at.key o at.walk (last_given at.paths.way))
    c.in-Some.is at.invariant.came in
    let is : c.from_residual-in_err-sum.result ≡ Err e = search rules in
    subst (λ (r : Result ⊤ Refusal). Compares columns c.args.file start.file c.args.root c.args.walk.now c.args.first (last_given start.way) files r) (sym is)
    (beside_stop columns c.args.file start.file c.args.root c.args.walk.now c.args.first (last_given start.way) files at.at.key c.in-Some.here at.walk c.next.new.self (last_given at.paths.way) e step came)

pub path-path-requires-clause-some : goal.path-path-requires-clause-some
path-path-requires-clause-some g c = λ none.
    let columns = columns_of c.args.schema.now in
    let at = c.partitions in
    let string = subst (λ (o : Option PartitionSum). IfSome o (λ _. IsStringOf columns.partition at.walk.key)) c.in-Some.is at.invariant.string in
    let same : c.go_on.new.self.key ≡ at.walk.key = search rules in
    some_string columns.partition at.walk.key string (sym same ∙ none)

pub path-path-requires-clause-behind : goal.path-path-requires-clause-behind
path-path-requires-clause-behind g c =
    let columns = columns_of c.args.schema.now in
    let at = c.partitions in
    let string = subst (λ (o : Option PartitionSum). IfSome o (λ _. IsStringOf columns.partition at.walk.key)) c.in-Some.is at.invariant.string in
    let same : c.go_on.new.self.key ≡ at.walk.key = search rules in
    let next : c.key_behind.result.now ≡ key_behind c.in_ok-sum.sum c.next.new.self.key = search rules in
    let told = differs_behind columns.partition at.walk.key c.next.new.self.key c.in_ok-sum.sum string c.in_ok-sum.ensures.key in
    subst (λ (k : List ℕ). c.key_behind.result.now ≢ [] → Differ k c.key_behind.result.now) (sym same)
    (subst (λ (n : List ℕ). n ≢ [] → Differ at.walk.key n) (sym next) told)

pub returns-in_err-check_path-clause-told : goal.returns-in_err-check_path-clause-told
returns-in_err-check_path-clause-told g c =
    let columns = columns_of c.args.schema.now in
    let files = g.K.Store.files c.args.store.now in
    let start = c.args.paths.now in
    let at = c.partitions in
    let walk : DataWalk = c.next.new.self in
    let e : Refusal = c.in_err-check_path.field-0.0 in
    let last = last_given at.paths.way in
    let given = last_given c.check_path.new.paths.way in
    let unchanged = c.in_ok-sum.ensures.files ∙ at.invariant.same in
    let step = subst (λ (f : Option Files). OverFile f c.args.file (FindsPartition columns) at.walk walk (Ok c.in_ok-sum.sum)) at.invariant.same c.in_ok-sum.ensures.told in
    let came = subst (λ (o : Option PartitionSum). Beside columns c.args.file start.file c.args.root c.args.walk.now c.args.first (last_given start.way) files at.at.key o at.walk last)
    c.in-Some.is at.invariant.came in
    let same : c.go_on.new.self.key ≡ at.walk.key = search rules in
    let wanted : c.path-path.result.now ≡ unique_path at.at.key c.go_on.new.self.key (key_behind c.in_ok-sum.sum walk.key) = search rules in
    let file : at.paths.file ≡ start.file = ap (λ (p : Progress). p.file) at.invariant.paths in
    let there = subst (λ (f : Option Files). IfSome f (λ m. ChecksPath (bytes_of m at.paths.file) c.args.root last c.path-path.result.now c.in-Some.here given (Err e))) unchanged c.in_err-check_path.ensures.told in
    let checks = subst (λ (f : FileId). IfSome files (λ m. ChecksPath (bytes_of m f) c.args.root last c.path-path.result.now c.in-Some.here given (Err e))) file there in
    let is : c.from_residual-in_err-check_path.result ≡ Err e = search rules in
    subst (λ (r : Result ⊤ Refusal). Compares columns c.args.file start.file c.args.root c.args.walk.now c.args.first (last_given start.way) files r) (sym is)
    (beside_clash columns c.args.file start.file c.args.root c.args.walk.now c.args.first (last_given start.way) files at.at.key c.path-path.result.now c.go_on.new.self.key c.in-Some.here c.in_ok-sum.sum
    at.walk walk last given e step same wanted checks came)

pub partitions-preserved : goal.partitions-preserved
partitions-preserved g c =
    let columns = columns_of c.args.schema.now in
    let files = g.K.Store.files c.args.store.now in
    let start = c.args.paths.now in
    let at = c.partitions in
    let walk : DataWalk = c.next.new.self in
    let behind : Option PartitionSum = c.in_ok-sum.sum in
    let last = last_given at.paths.way in
    let given = last_given c.check_path.new.paths.way in
    let unchanged = c.in_ok-sum.ensures.files ∙ at.invariant.same in
    let step = subst (λ (f : Option Files). OverFile f c.args.file (FindsPartition columns) at.walk walk (Ok behind)) at.invariant.same c.in_ok-sum.ensures.told in
    let came = subst (λ (o : Option PartitionSum). Beside columns c.args.file start.file c.args.root c.args.walk.now c.args.first (last_given start.way) files at.at.key o at.walk last)
    c.in-Some.is at.invariant.came in
    let string = subst (λ (o : Option PartitionSum). IfSome o (λ _. IsStringOf columns.partition at.walk.key)) c.in-Some.is at.invariant.string in
    let same : c.go_on.new.self.key ≡ at.walk.key = search rules in
    let wanted : c.path-path.result.now ≡ unique_path at.at.key c.go_on.new.self.key (key_behind behind walk.key) = search rules in
    let file : at.paths.file ≡ start.file = ap (λ (p : Progress). p.file) at.invariant.paths in
    let there = subst (λ (f : Option Files). IfSome f (λ m. ChecksPath (bytes_of m at.paths.file) c.args.root last c.path-path.result.now c.in-Some.here given (Ok tt))) unchanged c.in_ok-check_path.ensures.told in
    let checks = subst (λ (f : FileId). IfSome files (λ m. ChecksPath (bytes_of m f) c.args.root last c.path-path.result.now c.in-Some.here given (Ok tt))) file there in
    record {
      came = beside_on columns c.args.file start.file c.args.root c.args.walk.now c.args.first (last_given start.way) files at.at.key c.path-path.result.now c.go_on.new.self.key c.in-Some.here behind at.walk walk
          last given step same wanted checks came;
      string = string_behind columns.partition at.walk.key walk.key behind c.in_ok-sum.ensures.key;
      differs = differs_after columns.partition at.walk.key c.go_on.new.self.key walk.key behind same string c.in_ok-sum.ensures.key;
      paths = c.in_ok-check_path.ensures.same ∙ ap (λ (p : Progress). record p { way = c.check_path.new.paths.way }) at.invariant.paths;
      honest = c.in_ok-check_path.ensures.honest;
      stands = c.in_ok-check_path.ensures.stands;
      same = c.in_ok-check_path.ensures.files ∙ unchanged;
      later = omega (arith, c.in_ok-check_path.ensures.later, c.in_ok-sum.ensures.later, at.invariant.later);
    }

pub returns-clause-told : goal.returns-clause-told
returns-clause-told g c =
    let columns = columns_of c.args.schema.now in
    let files = g.K.Store.files c.args.store.now in
    let start = c.args.paths.now in
    let at = c.partitions in
    let file : at.paths.file ≡ start.file = ap (λ (p : Progress). p.file) at.invariant.paths in
    let root : at.paths.root ≡ c.args.root = ap (λ (p : Progress). p.root) at.invariant.paths ∙ c.requires.root in
    let result : Result ⊤ Refusal = c.check_end.result in
    let there = subst (λ (f : Option Files). IfSome f (λ m. EndsPaths Partitions (bytes_of m at.paths.file) at.paths.root (last_given at.paths.way) result)) at.invariant.same c.check_end.ensures.told in
    let ends = subst (λ (f : FileId). IfSome files (λ m. EndsPaths Partitions (bytes_of m f) at.paths.root (last_given at.paths.way) result)) file there in
    let ended = subst (λ (n : ℕ). IfSome files (λ m. EndsPaths Partitions (bytes_of m start.file) n (last_given at.paths.way) result)) root ends in
    beside_end columns c.args.file start.file c.args.root c.args.walk.now c.args.first (last_given start.way) files at.at.key at.sum at.walk (last_given at.paths.way) result c.in_default.is ended at.invariant.came
