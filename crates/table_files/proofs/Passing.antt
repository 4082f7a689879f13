-- What stands next in a file decides how a walk goes on.
use Rattle.std.proofs.lemmas.List.{drop-drop}
use Rattle.std.proofs.Math.Seq.{drop-append_seam}
use Rattle.std.proofs.Common.{◌≡◌, ◌≢◌, ℕ, ◌+◌, List, [], ◌∷◌, ◌++◌, length, drop, Option, None, Some, IsSome, refl, sym, ◌∙◌, ap, append_assoc, subst}
use Rattle.key_types.specs.Table.{Entry}
use Rattle.bti_nodes.specs.declared.damage.Cause.TheVariants.{BadHead, BadRow}
use Rattle.bti_nodes.specs.declared.damage.Damage.{Damage}
use Rattle.data_file.specs.Answers.{damage_at}
use Rattle.key_types.specs.Columns.{Columns}
use Rattle.key_decode.specs.Strings.{IsStringOf}
use Rattle.key_types.specs.declared.schema.ValueType.{ValueType}
use Rattle.data_file.specs.Listing.{head_bytes, static_part_bytes, row_bytes, static_bytes, FitsStaticType, IsRow}
use Rattle.data_file.specs.Reading.{NoStaticPart, NoHead, NoRow}
use Rattle.length_prefix.proofs.Counts.{counted-same}
use Rattle.data_file.proofs.Unique.{static_part_front, row_front}
use Rattle.table_files.specs.Walk.{Walks, ends, bad_head, bad_static_part, head, row, closes, bad_row, Passes, Stops}
use Rattle.table_files.specs.Standing.{static_entries}

-- what is behind the bytes that stand at a place
pub behind : (file bytes rest : List ℕ) (at : ℕ) → drop at file ≡ bytes ++ rest → drop (at + length bytes) file ≡ rest
behind file bytes rest at e = sym (drop-drop (length bytes) at file) ∙ ap (drop (length bytes)) e ∙ drop-append_seam bytes rest

module _ (columns : Columns) where
  -- ---- bytes

  -- a walk that has these entries first, and goes on over the rest
  abbrev Goes : List Entry → Option (List ℕ) → ℕ → List ℕ → List Entry → Option Damage → Type 0
  Goes entries inside at rest all stop = (more : List Entry) × (all ≡ entries ++ more) × Walks columns inside at rest more stop

  -- a head and a static part behind it are the only ones
  heads_same : (key key' : List ℕ) (static_part static_part' : Option (List ℕ)) (rest rest' : List ℕ) → FitsStaticType columns.static_value static_part → FitsStaticType columns.static_value static_part'
      → (head_bytes key ++ static_part_bytes columns.static_value static_part) ++ rest ≡ (head_bytes key' ++ static_part_bytes columns.static_value static_part') ++ rest'
      → (key ≡ key') × (static_part ≡ static_part') × (rest ≡ rest')
  heads_same key key' static_part static_part' rest rest' f f' e =
      let heads = counted-same key key' (static_part_bytes columns.static_value static_part ++ rest) (static_part_bytes columns.static_value static_part' ++ rest')
      (sym (append_assoc (head_bytes key) (static_part_bytes columns.static_value static_part) rest) ∙ e ∙ append_assoc (head_bytes key') (static_part_bytes columns.static_value static_part') rest') in
      let parts = static_part_front columns.static_value static_part static_part' rest rest' f f' heads.1 in
      (heads.0, parts.0, parts.1)

  is_static : (static : Option ValueType) (static_part : Option (List ℕ)) → IsSome static → static_part_bytes static static_part ≡ static_bytes static_part
  is_static None static_part some = cc
  is_static (Some type) static_part some = refl

  -- where no static part begins, none stands behind the head
  static_part_apart : (key key' : List ℕ) (static_part : Option (List ℕ)) (rest rest' : List ℕ) → FitsStaticType columns.static_value static_part → IsSome columns.static_value → NoStaticPart columns rest'
      → (head_bytes key ++ static_part_bytes columns.static_value static_part) ++ rest ≡ head_bytes key' ++ rest' → ⊥
  static_part_apart key key' static_part rest rest' f some no_part e =
      let heads = counted-same key key' (static_part_bytes columns.static_value static_part ++ rest) rest' (sym (append_assoc (head_bytes key) (static_part_bytes columns.static_value static_part) rest) ∙ e) in
      no_part static_part (f, (rest, sym heads.1 ∙ ap (λ bs. bs ++ rest) (is_static columns.static_value static_part some)))

  head_only : (at : ℕ) (key : List ℕ) (static_part : Option (List ℕ)) (bytes rest : List ℕ) (all : List Entry) (stop : Option Damage) → IsStringOf columns.partition key
      → FitsStaticType columns.static_value static_part → bytes ≡ (head_bytes key ++ static_part_bytes columns.static_value static_part) ++ rest → Walks columns None at bytes all stop
      → Goes (static_entries key static_part) (Some key) (at + length (head_bytes key ++ static_part_bytes columns.static_value static_part)) rest all stop
  head_only at key static_part bytes rest all stop is f e (ends _) = cc
  head_only at key static_part bytes rest all stop is f e (bad_head _ _ some no_head) =
      absurd (no_head key (is, (static_part_bytes columns.static_value static_part ++ rest, e ∙ append_assoc (head_bytes key) (static_part_bytes columns.static_value static_part) rest)))
  head_only at key static_part bytes rest all stop is f e (head _ key' static_part' _ rest' entries _ is' f' e' walk) =
      let same = heads_same key' key static_part' static_part rest' rest f' f (sym e' ∙ e) in (
        entries,
        (λ i. static_entries (same.0 i) (same.1 i) ++ entries),
        subst (λ (r : List ℕ). Walks columns (Some key) (at + length (head_bytes key ++ static_part_bytes columns.static_value static_part)) r entries stop) same.2
            (subst (λ (o : Option (List ℕ)). Walks columns (Some key) (at + length (head_bytes key ++ static_part_bytes columns.static_value o)) rest' entries stop) same.1
            (subst (λ (k : List ℕ). Walks columns (Some k) (at + length (head_bytes k ++ static_part_bytes columns.static_value static_part')) rest' entries stop) same.0 walk)),
      )
  head_only at key static_part bytes rest all stop is f e (bad_static_part _ key' _ rest' is' some e' no_part) = absurd (static_part_apart key key' static_part rest rest' f some no_part (sym e ∙ e'))

  row_only : (at : ℕ) (key c v bytes rest : List ℕ) (all : List Entry) (stop : Option Damage) → IsRow columns c v → bytes ≡ row_bytes c v ++ rest
      → Walks columns (Some key) at bytes all stop → Goes ((key ++ c, v) ∷ []) (Some key) (at + length (row_bytes c v)) rest all stop
  row_only at key c v bytes rest all stop is e (row _ _ c' v' _ rest' entries _ is' e' walk) =
      let same = row_front c' v' rest' c v rest (sym e' ∙ e) in (
        entries,
        (λ i. (key ++ same.0 i, same.1 i) ∷ entries),
        subst (λ (r : List ℕ). Walks columns (Some key) (at + length (row_bytes c v)) r entries stop) same.2
            (subst (λ (b : List ℕ). Walks columns (Some key) (at + length (row_bytes c b)) rest' entries stop) same.1
            (subst (λ (a : List ℕ). Walks columns (Some key) (at + length (row_bytes a v')) rest' entries stop) same.0 walk)),
      )
  row_only at key c v bytes rest all stop is e (closes _ _ _ rest' _ _ e' walk) = let apart : 0 ∷ rest' ≡ row_bytes c v ++ rest = sym e' ∙ e in cc
  row_only at key c v bytes rest all stop is e (bad_row _ _ _ none) = absurd (none.0 c v (is, (rest, e)))

  end_only : (at : ℕ) (key bytes rest : List ℕ) (all : List Entry) (stop : Option Damage) → bytes ≡ 0 ∷ rest
      → Walks columns (Some key) at bytes all stop → Goes [] None (at + 1) rest all stop
  end_only at key bytes rest all stop e (row _ _ c v _ rest' entries _ is e' walk) = let apart : 0 ∷ rest ≡ row_bytes c v ++ rest' = sym e ∙ e' in cc
  end_only at key bytes rest all stop e (closes _ _ _ rest' _ _ e' walk) =
      let both : 0 ∷ rest' ≡ 0 ∷ rest = sym e' ∙ e in let same : rest' ≡ rest = cc in (all, refl, subst (λ (r : List ℕ). Walks columns None (at + 1) r all stop) same walk)
  end_only at key bytes rest all stop e (bad_row _ _ _ none) = absurd (none.1 (rest, e))

  file_end_only : (at : ℕ) (bytes : List ℕ) (all : List Entry) (stop : Option Damage) → bytes ≡ [] → Walks columns None at bytes all stop → (all ≡ []) × (stop ≡ None)
  file_end_only at bytes all stop e (ends _) = (refl, refl)
  file_end_only at bytes all stop e (bad_head _ _ some none) = absurd (some e)
  file_end_only at bytes all stop e (head _ key static_part _ rest _ _ is f e' walk) = cc
  file_end_only at bytes all stop e (bad_static_part _ key _ rest is some e' no_part) = cc

  bad_head_only : (at : ℕ) (bytes : List ℕ) (all : List Entry) (stop : Option Damage) → bytes ≢ [] → NoHead columns bytes
      → Walks columns None at bytes all stop → (all ≡ []) × (stop ≡ Some (damage_at at BadHead))
  bad_head_only at bytes all stop some none (ends _) = absurd (some refl)
  bad_head_only at bytes all stop some none (bad_head _ _ some' none') = (refl, refl)
  bad_head_only at bytes all stop some none (head _ key static_part _ rest _ _ is f e walk) =
      absurd (none key (is, (static_part_bytes columns.static_value static_part ++ rest, e ∙ append_assoc (head_bytes key) (static_part_bytes columns.static_value static_part) rest)))
  bad_head_only at bytes all stop some none (bad_static_part _ key _ rest is _ e no_part) = absurd (none key (is, (rest, e)))

  bad_static_part_only : (at : ℕ) (key bytes rest : List ℕ) (all : List Entry) (stop : Option Damage) → IsStringOf columns.partition key → IsSome columns.static_value
      → bytes ≡ head_bytes key ++ rest → NoStaticPart columns rest → Walks columns None at bytes all stop → (all ≡ []) × (stop ≡ Some (damage_at (at + length (head_bytes key)) BadRow))
  bad_static_part_only at key bytes rest all stop is some e no_part (ends _) = cc
  bad_static_part_only at key bytes rest all stop is some e no_part (bad_head _ _ some' no_head) = absurd (no_head key (is, (rest, e)))
  bad_static_part_only at key bytes rest all stop is some e no_part (head _ key' static_part' _ rest' entries _ is' f' e' walk) = absurd (static_part_apart key' key static_part' rest' rest f' some no_part (sym e' ∙ e))
  bad_static_part_only at key bytes rest all stop is some e no_part (bad_static_part _ key' _ rest' is' some' e' no_part') =
      let same = counted-same key' key rest' rest (sym e' ∙ e) in (refl, ap (λ (k : List ℕ). Some (damage_at (at + length (head_bytes k)) BadRow)) same.0)

  bad_row_only : (at : ℕ) (key bytes : List ℕ) (all : List Entry) (stop : Option Damage) → NoRow columns bytes
      → Walks columns (Some key) at bytes all stop → (all ≡ []) × (stop ≡ Some (damage_at at BadRow))
  bad_row_only at key bytes all stop none (row _ _ c v _ rest entries _ is e walk) = absurd (none.0 c v (is, (rest, e)))
  bad_row_only at key bytes all stop none (closes _ _ _ rest _ _ e walk) = absurd (none.1 (rest, e))
  bad_row_only at key bytes all stop none (bad_row _ _ _ none') = (refl, refl)

  -- ---- places of a file

  module _ (file : List ℕ) where
    moved : (inside : Option (List ℕ)) (at : ℕ) (front rest : List ℕ) (entries : List Entry) (stop : Option Damage) → drop at file ≡ front ++ rest
        → Walks columns inside (at + length front) (drop (at + length front) file) entries stop → Walks columns inside (at + length front) rest entries stop
    moved inside at front rest entries stop e walk = subst (λ (r : List ℕ). Walks columns inside (at + length front) r entries stop) (behind file front rest at e) walk

    goes_there : (inside : Option (List ℕ)) (at : ℕ) (front rest : List ℕ) (entries all : List Entry) (stop : Option Damage) → drop at file ≡ front ++ rest
        → Goes entries inside (at + length front) rest all stop → Goes entries inside (at + length front) (drop (at + length front) file) all stop
    goes_there inside at front rest entries all stop e (more, is, walk) =
        (more, is, subst (λ (r : List ℕ). Walks columns inside (at + length front) r more stop) (sym (behind file front rest at e)) walk)

    pub head_passes : (at : ℕ) (key : List ℕ) (static_part : Option (List ℕ)) (rest : List ℕ) → IsStringOf columns.partition key → FitsStaticType columns.static_value static_part
        → drop at file ≡ (head_bytes key ++ static_part_bytes columns.static_value static_part) ++ rest
        → Passes columns file None at (static_entries key static_part) (Some key) (at + length (head_bytes key ++ static_part_bytes columns.static_value static_part))
    head_passes at key static_part rest is f e =
        let front : List ℕ = head_bytes key ++ static_part_bytes columns.static_value static_part in
        record {
          onward = λ more stop walk. head at key static_part (drop at file) rest more stop is f e (moved (Some key) at front rest more stop e walk);
          only = λ all stop walk. goes_there (Some key) at front rest (static_entries key static_part) all stop e (head_only at key static_part (drop at file) rest all stop is f e walk);
        }

    pub row_passes : (at : ℕ) (key c v rest : List ℕ) → IsRow columns c v → drop at file ≡ row_bytes c v ++ rest
        → Passes columns file (Some key) at ((key ++ c, v) ∷ []) (Some key) (at + length (row_bytes c v))
    row_passes at key c v rest is e = record {
      onward = λ more stop walk. row at key c v (drop at file) rest more stop is e (moved (Some key) at (row_bytes c v) rest more stop e walk);
      only = λ all stop walk. goes_there (Some key) at (row_bytes c v) rest ((key ++ c, v) ∷ []) all stop e (row_only at key c v (drop at file) rest all stop is e walk);
    }

    pub end_passes : (at : ℕ) (key rest : List ℕ) → drop at file ≡ 0 ∷ rest → Passes columns file (Some key) at [] None (at + 1)
    end_passes at key rest e = record {
      onward = λ more stop walk. closes at key (drop at file) rest more stop e (moved None at (0 ∷ []) rest more stop e walk);
      only = λ all stop walk. goes_there None at (0 ∷ []) rest [] all stop e (end_only at key (drop at file) rest all stop e walk);
    }

    pub file_end_stops : (at : ℕ) → drop at file ≡ [] → Stops columns file None at [] None
    file_end_stops at e = record {
      here = subst (λ (b : List ℕ). Walks columns None at b [] None) (sym e) (ends at);
      only = λ all other walk. file_end_only at (drop at file) all other e walk;
    }

    pub bad_head_stops : (at : ℕ) → drop at file ≢ [] → NoHead columns (drop at file) → Stops columns file None at [] (Some (damage_at at BadHead))
    bad_head_stops at some none = record {
      here = bad_head at (drop at file) some none;
      only = λ all other walk. bad_head_only at (drop at file) all other some none walk;
    }

    pub bad_static_part_stops : (at : ℕ) (key rest : List ℕ) → IsStringOf columns.partition key → IsSome columns.static_value → drop at file ≡ head_bytes key ++ rest → NoStaticPart columns rest
        → Stops columns file None at [] (Some (damage_at (at + length (head_bytes key)) BadRow))
    bad_static_part_stops at key rest is some e no_part = record {
      here = bad_static_part at key (drop at file) rest is some e no_part;
      only = λ all other walk. bad_static_part_only at key (drop at file) rest all other is some e no_part walk;
    }

    pub bad_row_stops : (at : ℕ) (key : List ℕ) → NoRow columns (drop at file) → Stops columns file (Some key) at [] (Some (damage_at at BadRow))
    bad_row_stops at key none = record {
      here = bad_row at key (drop at file) none;
      only = λ all other walk. bad_row_only at key (drop at file) all other none walk;
    }
