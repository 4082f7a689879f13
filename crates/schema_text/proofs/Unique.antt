-- What follows for the answers to a text from its having one meaning at most.
use Rattle.std.proofs.Common.{◌≡◌, ℕ, ◌+◌, ◌≤◌, Bool, true, false, List, length, Result, Ok, Err, refl, sym, ◌∙◌, ap, arith, subst}
use Rattle.key_types.specs.declared.schema.Schema.{Schema}
use Rattle.schema_text.specs.declared.reading.SchemaError.{SchemaError}
use Rattle.schema_text.specs.declared.reading.SchemaError.TheVariants as error
use Rattle.key_types.specs.Columns.{Columns, columns_of}
use Rattle.schema_text.specs.Bounds.{has_few, is_flat, KeepsBounds}
use Rattle.schema_text.specs.Grammar.{IsSchemaText}
use Rattle.schema_text.specs.Canonical.{canonical}
use Rattle.schema_text.specs.Parts.{Bounded}
use Rattle.schema_text.specs.Answers.{Parses, ReadsSchemaText}
use Rattle.schema_text.specs.Laws.{IsSchemaRead}
use Rattle.schema_text.proofs.Bounded.{bounds}
use Rattle.schema_text.proofs.Parsed.{Whole, all}
use Rattle.schema_text.proofs.Written.{canonical_text}

same_ok : (s t : Columns) (got : Result Columns ℕ) → got ≡ Ok s → got ≡ Ok t → s ≡ t
same_ok s t got e h = cc

pub one : (s t : Columns) (bytes : List ℕ) → IsSchemaText s bytes → IsSchemaText t bytes → s ≡ t
one s t bytes h k = same_ok s t (Whole (length bytes + 1) bytes) (all (length bytes + 1) bytes s (omega arith) h) (all (length bytes + 1) bytes t (omega arith) k)

pub written : (s : Columns) → KeepsBounds s → IsSchemaText s (canonical s)
written s h = canonical_text s (bounds s h).0

pub apart : (b : Bool) → b ≡ true → b ≡ false → ⊥
apart true h k = cc
apart false h k = cc

-- what a whole text of the columns, within the bounds or not, is answered
pub parsed : (bytes : List ℕ) (s : Columns) (result : Result Schema SchemaError) → IsSchemaText s bytes → Bounded s result → Parses bytes result
parsed bytes s (Ok r) is h = subst (λ (x : Columns). IsSchemaText x bytes) (sym h) is
parsed bytes s (Err error.TooMany) is h = (s, is, h)
parsed bytes s (Err error.TooDeep) is h = (s, is, h.0, h.1)
parsed bytes s (Err (error.BadText at)) is h = absurd h
parsed bytes s (Err (error.TooLong n)) is h = absurd h
parsed bytes s (Err error.NoMemory) is h = tt

-- a text of a schema is read as that schema
pub read_as : (s : Columns) (bytes : List ℕ) (result : Result Schema SchemaError) → KeepsBounds s → IsSchemaText s bytes → Parses bytes result → IsSchemaRead s result
read_as s bytes (Ok r) h is p = one (columns_of r) s bytes p is
read_as s bytes (Err (error.BadText at)) h is p = p.0 s is
read_as s bytes (Err error.TooMany) h is p = apart (has_few s) (bounds s h).1 (ap has_few (one s p.0 bytes is p.1) ∙ p.2)
read_as s bytes (Err error.TooDeep) h is p = apart (is_flat s) (bounds s h).2 (ap is_flat (one s p.0 bytes is p.1) ∙ p.3)
read_as s bytes (Err (error.TooLong n)) h is p = p
read_as s bytes (Err error.NoMemory) h is p = tt

pub read_back : (s : Columns) (result : Result Schema SchemaError) → KeepsBounds s → length (canonical s) ≤ 2000 → ReadsSchemaText (canonical s) result → IsSchemaRead s result
read_back s (Ok r) h k p = read_as s (canonical s) (Ok r) h (written s h) p.1
read_back s (Err (error.BadText at)) h k p = read_as s (canonical s) (Err (error.BadText at)) h (written s h) p.1
read_back s (Err error.TooMany) h k p = read_as s (canonical s) (Err error.TooMany) h (written s h) p.1
read_back s (Err error.TooDeep) h k p = read_as s (canonical s) (Err error.TooDeep) h (written s h) p.1
read_back s (Err (error.TooLong n)) h k p = omega arith
read_back s (Err error.NoMemory) h k p = tt

-- no schema has the text as its canonical text where the text is refused
pub refused : (s : Columns) (bytes : List ℕ) (e : SchemaError) → KeepsBounds s → bytes ≡ canonical s → Parses bytes (Err e) → (e ≡ error.NoMemory → ⊥) → ⊥
refused s bytes (error.BadText at) h w p m = p.0 s (subst (IsSchemaText s) (sym w) (written s h))
refused s bytes error.TooMany h w p m = read_as s bytes (Err error.TooMany) h (subst (IsSchemaText s) (sym w) (written s h)) p
refused s bytes error.TooDeep h w p m = read_as s bytes (Err error.TooDeep) h (subst (IsSchemaText s) (sym w) (written s h)) p
refused s bytes (error.TooLong n) h w p m = p
refused s bytes error.NoMemory h w p m = m refl
