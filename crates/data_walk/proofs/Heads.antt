-- Steps of a walk over the head of a partition.
use Rattle.std.proofs.Common.{◌≡◌, ◌≢◌, ◌∙◌, ℕ, ◌+◌, Bool, List, [], ◌++◌, length, drop, Option, Some, Err, Ok, refl, sym, ap, subst, arith, append_assoc, length-append}
use Rattle.std.proofs.Math.Seq.{drop-append_seam}
use Rattle.std.specs.Prelude.{◌⊎◌, ◌<◌, is_some}
use Rattle.std.specs.declared.cmp.Ordering.TheVariants.{Less}
use Rattle.bti_nodes.specs.declared.damage.Cause.TheVariants.{BadHead, BadRow}
use Rattle.outside.specs.declared.store.Part.TheVariants.{Data}
use Rattle.key_types.specs.Columns.{Columns}
use Rattle.key_types.specs.Table.{string_cmp}
use Rattle.key_decode.proofs.Known.{string_length}
use Rattle.data_file.specs.Listing.{head_bytes, static_part_bytes}
use Rattle.data_file.specs.Reading.{BeginsHead, NoHead, NoStaticPart}
use Rattle.table_reader.specs.Parts.{IsStaticPartBehind, NoStaticPartBehind}
use Rattle.table_reader.specs.Window.{Continues, HasEnough, Unread}
use Rattle.table_reader.proofs.ScanSteps.{no_head_there, no_part_there, parts_there, passed_by, some_there}
use Rattle.data_walk.specs.declared.data_walk.DataWalk.{DataWalk}
use Rattle.data_walk.specs.declared.refusal.Refusal.{Refusal}
use Rattle.data_walk.specs.declared.clash.Clash.TheVariants.{Order}
use Rattle.data_walk.specs.Refusals.{IsFault, clash_at, damaged_at}
use Rattle.data_walk.specs.DataWalk.{Enters, OverAll, StopsAtHead, behind_head, place_of}
use Rattle.data_walk.proofs.Rows.{passed_window}

module _ (columns : Columns) (walk walk' : DataWalk) where
  refused_so : (e f : Refusal) → e ≡ f → ((file : List ℕ) → Continues file walk.window → StopsAtHead columns file (place_of walk) f) → OverAll (Enters columns) walk walk' (Err e)
  refused_so e f is stops = subst (λ (x : Refusal). OverAll (Enters columns) walk walk' (Err x)) (sym is) (λ file c. (stops file c, tt))

  head_there : (file key : List ℕ) → BeginsHead columns walk.window.bytes key → Continues file walk.window → BeginsHead columns (drop walk.window.at file) key
  head_there file key (string, (more, e)) c =
      (string, (more ++ c.rest, c.is ∙ ap (λ (b : List ℕ). b ++ c.rest) e ∙ append_assoc (head_bytes key) more c.rest))

  pub bad_head : (e : Refusal) (at : ℕ) → at ≡ walk.window.at → e ≡ damaged_at at BadHead → HasEnough walk.window → walk.window.bytes ≢ [] → NoHead columns walk.window.bytes
      → OverAll (Enters columns) walk walk' (Err e)
  bad_head e at place is full some no_head =
      refused_so e (damaged_at walk.window.at BadHead) (is ∙ ap (λ (n : ℕ). damaged_at n BadHead) place)
      (λ file c. StopsAtHead.bad (λ none. some_there columns walk.window.bytes c.rest some (sym c.is ∙ none)) (no_head_there columns file walk.window c full no_head))

  pub low_head : (e : Refusal) (at : ℕ) (key : List ℕ) → at ≡ walk.window.at → e ≡ clash_at Data at Order → BeginsHead columns walk.window.bytes key
      → (string_cmp walk.key key ≡ Less → ⊥) → OverAll (Enters columns) walk walk' (Err e)
  low_head e at key place is begins low =
      refused_so e (clash_at Data walk.window.at Order) (is ∙ ap (λ (n : ℕ). clash_at Data n Order) place)
      (λ file c. StopsAtHead.order key (head_there file key begins c) low)

  pub bad_part : (e : Refusal) (at n : ℕ) (key : List ℕ) → at ≡ walk.window.at → e ≡ damaged_at (at + n) BadRow → HasEnough walk.window → BeginsHead columns walk.window.bytes key
      → n ≡ length (head_bytes key) → string_cmp walk.key key ≡ Less → NoStaticPartBehind columns (drop n walk.window.bytes) → OverAll (Enters columns) walk walk' (Err e)
  bad_part e at n key place is full (string, (more, f)) size above (static, no_part) =
      let w : Unread = walk.window in
      let rest : drop n w.bytes ≡ more = ap (λ (m : ℕ). drop m w.bytes) size ∙ ap (drop (length (head_bytes key))) f ∙ drop-append_seam (head_bytes key) more in
      let told = subst (λ (bs : List ℕ). (NoStaticPart columns bs × (length bs < 65538)) ⊎ ((behind : List ℕ) → NoStaticPart columns (bs ++ behind))) rest no_part in
      refused_so e (damaged_at (walk.window.at + length (head_bytes key)) BadRow)
      (is ∙ ap (λ (p : ℕ). damaged_at (p + n) BadRow) place ∙ ap (λ (m : ℕ). damaged_at (walk.window.at + m) BadRow) size)
      (λ file c. StopsAtHead.bad_static_part key (more ++ c.rest) string static (c.is ∙ ap (λ (b : List ℕ). b ++ c.rest) f ∙ append_assoc (head_bytes key) more c.rest) above
      (no_part_there columns file w key more (string_length columns.partition key string) f c full told))

  pub faulty_head : (e : Refusal) → IsFault e → OverAll (Enters columns) walk walk' (Err e)
  faulty_head e fault = refused_so e e refl (λ file c. StopsAtHead.fault e fault)

  pub enters : (n count : ℕ) (key : List ℕ) (static_part : Option (List ℕ)) (has_static : Bool) → walk'.window ≡ passed_by n walk.window → n ≡ length (head_bytes key) + count
      → BeginsHead columns walk.window.bytes key → IsStaticPartBehind columns (drop (length (head_bytes key)) walk.window.bytes) static_part count → string_cmp walk.key key ≡ Less
      → has_static ≡ is_some static_part → walk'.key ≡ key → walk'.head ≡ walk.window.at → walk'.row ≡ [] → walk'.block ≡ walk.window.at → walk'.rows ≡ 0
      → OverAll (Enters columns) walk walk' (Ok (Some has_static))
  enters n count key static_part has_static window size (string, (more, e)) (fits, long, (behind, g)) above has key_is head row block rows =
      let front : List ℕ = head_bytes key ++ static_part_bytes columns.static_value static_part in
      let all : walk.window.bytes ≡ front ++ behind = parts_there columns walk.window.bytes key more behind static_part e g in
      let whole : n ≡ length front = omega (arith, length-append (head_bytes key) (static_part_bytes columns.static_value static_part)) in
      let place : place_of walk' ≡ record (behind_head (place_of walk) key (length front)) { before = walk'.before } = λ i. record {
        at = (ap (λ (u : Unread). u.at) window ∙ ap (λ (m : ℕ). walk.window.at + m) whole) i;
        key = key_is i;
        head = head i;
        before = walk'.before;
        row = row i;
        block = block i;
        rows = rows i;
      } in
      λ file c. (
        (key, static_part, (string, fits, (behind ++ c.rest, c.is ∙ ap (λ (b : List ℕ). b ++ c.rest) all ∙ append_assoc front behind c.rest), above), has, place),
        passed_window file walk.window walk'.window n window (omega (arith, ap length all, length-append front behind)) c,
      )
