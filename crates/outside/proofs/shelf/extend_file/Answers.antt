use Rattle.std.proofs.Common.{◌≡◌, ◌∙◌, ◌++◌, List, ℕ, OnOk, OnErr, Result, Ok, Err, ap, subst, sym}
use Rattle.std.specs.declared.alloc.AllocError.{AllocError}
use Rattle.std.specs.BTreeMap.{BTreeMap, WritesThrough, get_by}
use Rattle.std.proofs.Common.{None, Some}
use Rattle.std.specs.FinMap as map
use Rattle.outside.specs.declared.store.FileId.{FileId}
use Rattle.outside.specs.Files.{bytes_of, file_cmp, files_of}
use Rattle.outside.proofs.Shelves.{files_of-extended, files_of-same, inserted_new}
use Rattle.outside.proofs.shelf.extend_file.Goals as goal

extended : (r : Result (Unit {0}) AllocError) (m n : BTreeMap FileId (List ℕ)) (k : FileId) (old new piece : List ℕ) → Some old ≡ get_by (file_cmp k) m
    → WritesThrough file_cmp (file_cmp k) m new n → OnOk r (new ≡ old ++ piece)
    → OnOk r (files_of n ≡ map.insert (files_of m) k (bytes_of (files_of m) k ++ piece))
extended (Ok u) m n k old new piece is h e = files_of-extended m n k old piece is (subst (λ (v : List ℕ). WritesThrough file_cmp (file_cmp k) m v n) e h)
extended (Err u) m n k old new piece is h e = tt

kept : (r : Result (Unit {0}) AllocError) (m n : BTreeMap FileId (List ℕ)) (k : FileId) (old new : List ℕ) → Some old ≡ get_by (file_cmp k) m
    → WritesThrough file_cmp (file_cmp k) m new n → OnErr r (new ≡ old) → OnErr r (files_of n ≡ files_of m)
kept (Ok u) m n k old new is h e = tt
kept (Err u) m n k old new is h e = files_of-same m n k old is (subst (λ (v : List ℕ). WritesThrough file_cmp (file_cmp k) m v n) e h)

added : (r : Result (Unit {0}) AllocError) (l m n : BTreeMap FileId (List ℕ)) (k : FileId) (bytes piece : List ℕ) → l ≡ m → None ≡ get_by (file_cmp k) m
    → bytes ≡ piece → OnOk r (files_of n ≡ map.insert (files_of l) k bytes)
    → OnOk r (files_of n ≡ map.insert (files_of m) k (bytes_of (files_of m) k ++ piece))
added (Ok u) l m n k bytes piece before is same e = e ∙ ap (λ (f : BTreeMap FileId (List ℕ)). map.insert (files_of f) k bytes) before ∙ subst (λ (v : List ℕ). map.insert (files_of m) k v ≡ map.insert (files_of m) k (bytes_of (files_of m) k ++ piece)) (sym same) (inserted_new m k piece is)
added (Err u) l m n k bytes piece before is same e = tt

pub returns-in-Some-clause-ok : goal.returns-in-Some-clause-ok
returns-in-Some-clause-ok c =
    extended c.extend.result c.args.files.now (c.get_mut.follows.lender c.extend.new.self) c.args.file c.in-Some.bytes.now c.extend.new.self c.args.piece.now c.in-Some.ensures.value
    (c.get_mut.follows.holds c.extend.new.self) c.extend.ensures.ok

pub returns-in-Some-clause-err : goal.returns-in-Some-clause-err
returns-in-Some-clause-err c =
    kept c.extend.result c.args.files.now (c.get_mut.follows.lender c.extend.new.self) c.args.file c.in-Some.bytes.now c.extend.new.self c.in-Some.ensures.value
    (c.get_mut.follows.holds c.extend.new.self) c.extend.ensures.err

pub returns-in_ok-from_slice-in-None-clause-ok : goal.returns-in_ok-from_slice-in-None-clause-ok
returns-in_ok-from_slice-in-None-clause-ok c =
    added c.set_file.result _ c.args.files.now c.set_file.new.files c.args.file c.in_ok-from_slice-in-None.field-0 c.args.piece.now
    c.get_mut.follows.holds-at-none c.in-None.ensures.value
    c.in_ok-from_slice-in-None.ensures c.set_file.ensures.ok
