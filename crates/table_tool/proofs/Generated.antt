-- The schema and the bounds of generated scripts: their texts are accepted.
use Rattle.std.proofs.Common.{◌≡◌, ℕ, List, [], ◌∷◌, ◌++◌, codes, pos, None, Err, refl, subst, arith}
use Rattle.std.specs.Str.{IsUtf8}
use Rattle.key_types.specs.Columns.{Columns}
use Rattle.key_types.specs.Kinds.{Kinds, Vals, and, big, bytes, end, int, more, none, number, reversed, text}
use Rattle.key_types.specs.declared.schema.ValueType.TheVariants.{Text}
use Rattle.byte_comparable.specs.Encoding.{key_string}
use Rattle.schema_text.specs.Canonical.{canonical}
use Rattle.schema_text.specs.Grammar.{IsSchemaText}
use Rattle.schema_text.specs.Laws.{SchemaTexts}
use Rattle.bounds_text.specs.Bounds.{IsBoundsText}
use Rattle.bounds_text.specs.Steps.{HasReadBounds}
use Rattle.bounds_text.proofs.Ahead.{answered}
use Rattle.bounds_text.proofs.Standing.{ends_utf8, finish, start, step}
use Rattle.command_line.specs.declared.command.WordsError.{WordsError}
use Rattle.command_line.specs.declared.command.WordsError.TheVariants as error
use Rattle.table_tool.specs.Request.{IsNoSchema, IsSchemaOf, ReadsBounds, ReadsSchema, generated_bounds, generated_schema}

abbrev partition : Kinds
partition = more text (more int end)

abbrev generated_columns : Columns
generated_columns = record { partition = partition; clustering = more (reversed big) end; value = Text; static_value = None }

is_canonical : canonical generated_columns ≡ generated_schema
is_canonical = refl

module _ (texts : SchemaTexts) where
  is_schema : IsSchemaOf generated_schema generated_columns
  is_schema = record {
    short = omega arith;
    bounds = refl;
    is = subst (IsSchemaText generated_columns) is_canonical (texts.written generated_columns refl);
  }

  pub schema_accepted : IsNoSchema generated_schema → ⊥
  schema_accepted refused = refused generated_columns is_schema

  same_columns : (columns : Columns) → IsSchemaOf generated_schema columns → generated_columns ≡ columns
  same_columns columns is = texts.one generated_columns columns generated_schema is_schema.is is.is

-- the partition of a text and 0
abbrev vals : List ℕ → Vals
vals name = and (bytes name) (and (number (pos 0)) none)

utf8 : IsUtf8 generated_bounds
unfolding lib.Utf8.encode
utf8 = (generated_bounds, (refl, refl))

abbrev second : List ℕ
second = codes "('u5', 0) ('u8', 0)"

abbrev third : List ℕ
third = codes "('u8', 0)"

abbrev bound : List ℕ → List ℕ
bound name = key_string partition (vals name)

-- the bounds that were read so far
abbrev first_bound : List (List ℕ)
first_bound = bound (codes "u3") ∷ []

abbrev two_bounds : List (List ℕ)
two_bounds = bound (codes "u3") ∷ bound (codes "u5") ∷ []

at_first : HasReadBounds partition generated_bounds [] generated_bounds
at_first = start generated_columns generated_bounds

at_second : HasReadBounds partition generated_bounds first_bound second
at_second =
    step generated_columns generated_bounds [] generated_bounds at_first (bound (codes "u3")) second
    (answered partition generated_bounds second (bound (codes "u3")) (vals (codes "u3")) None refl refl
    (ends_utf8 generated_columns generated_bounds [] generated_bounds at_first utf8) (omega arith) refl).0
    (omega arith) (omega arith) (λ few. absurd (omega arith))

at_third : HasReadBounds partition generated_bounds two_bounds third
at_third =
    step generated_columns generated_bounds first_bound second at_second (bound (codes "u5")) third
    (answered partition second third (bound (codes "u5")) (vals (codes "u5")) None refl refl
    (ends_utf8 generated_columns generated_bounds first_bound second at_second utf8) (omega arith) refl).0
    (omega arith) (omega arith) (λ few. refl)

abbrev all_bounds : List (List ℕ)
all_bounds = two_bounds ++ bound (codes "u8") ∷ []

at_end : HasReadBounds partition generated_bounds all_bounds []
at_end =
    step generated_columns generated_bounds two_bounds third at_third (bound (codes "u8")) []
    (answered partition third [] (bound (codes "u8")) (vals (codes "u8")) None refl refl
    (ends_utf8 generated_columns generated_bounds two_bounds third at_third utf8) (omega arith) refl).0
    (omega arith) (omega arith) (λ few. refl)

are_bounds : IsBoundsText generated_columns generated_bounds all_bounds
are_bounds = finish generated_columns generated_bounds all_bounds [] at_end refl

-- ---- so only memory may be wanting

pub schema_memory : SchemaTexts → (e : WordsError) → ReadsSchema generated_schema (Err e) → e ≡ error.NoMemory
schema_memory texts error.Usage refused = absurd (schema_accepted texts refused)
schema_memory texts error.NoMemory refused = refl

pub bounds_memory : SchemaTexts → (columns : Columns) → IsSchemaOf generated_schema columns → (e : WordsError) → ReadsBounds columns generated_bounds (Err e) → e ≡ error.NoMemory
bounds_memory texts columns is error.Usage refused =
    absurd (refused all_bounds (subst (λ (c : Columns). IsBoundsText c generated_bounds all_bounds) (same_columns texts columns is) are_bounds))
bounds_memory texts columns is error.NoMemory refused = refl
