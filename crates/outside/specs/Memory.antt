-- What contracts see of a source, a sink and a store in memory.
use Rattle.std.specs.Prelude.{ℕ, List, refl}
use Rattle.std.specs.Coded.{Coded, code_by, coded_list, coded_ℕ, coded×}
use Rattle.std.specs.FinMap as map
use Rattle.outside.specs.Files.{Files, file_code}
use Rattle.outside.specs.declared.script.Fail.{Fail}

-- a source: the bytes that are left, how many a pull gives at most, the calls that fail, the calls so far and the
-- failures so far
pub record Feed : Type 0 where
  pub left : List ℕ
  pub piece : ℕ
  pub fails : List ℕ
  pub calls : ℕ
  pub faults : ℕ

-- a sink: what was written, the calls that fail, the calls so far and the failures so far
pub record Drain : Type 0 where
  pub written : List ℕ
  pub fails : List Fail
  pub calls : ℕ
  pub faults : ℕ

-- a store: its files, the calls that fail, the calls so far, the failures so far and the reads so far
pub record Shelf : Type 0 where
  pub files : Files
  pub fails : List Fail
  pub calls : ℕ
  pub faults : ℕ
  pub reads : ℕ

-- how proofs store a scripted failure, and a store
abbrev pub fail_code : Coded Fail
fail_code = code_by (ℕ × ℕ) (coded× coded_ℕ coded_ℕ) (λ f. (f.call, f.keep)) (λ p. record { call = p.0; keep = p.1 }) (λ _. refl)

abbrev pub shelf_code : Coded Shelf
shelf_code =
    code_by (Files × (List Fail × (ℕ × (ℕ × ℕ))))
    (coded× (map.code file_code (coded_list coded_ℕ)) (coded× (coded_list fail_code) (coded× coded_ℕ (coded× coded_ℕ coded_ℕ))))
    (λ s. (s.files, (s.fails, (s.calls, (s.faults, s.reads)))))
    (λ p. record { files = p.0; fails = p.1.0; calls = p.1.1.0; faults = p.1.1.1.0; reads = p.1.1.1.1 })
    (λ _. refl)
