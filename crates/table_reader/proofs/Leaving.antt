-- What a scan has left after a call.
use Rattle.std.proofs.Common.{◌≡◌, ◌∙◌, ℕ, ◌&&◌, Bool, true, false, cond, List, [], ◌∷◌, ◌++◌, drop, Option, None, Some, Ok, Err, inl, inr, refl, sym, ap, subst}
use Rattle.std.proofs.lemmas.Cmp.{nat_list_cmp_total}
use Rattle.std.proofs.lemmas.List.{append-nil}
use Rattle.std.specs.List.{AllByRecursion}
use Rattle.std.specs.FinMap as map
use Rattle.std.specs.declared.cmp.Ordering.{Ordering}
use Rattle.std.specs.declared.cmp.Ordering.TheVariants.{Less, Equal, Greater}
use Rattle.std.specs.Ordering.{ordering_reverse}
use Rattle.key_types.specs.Columns.{Columns}
use Rattle.key_types.specs.Table.{Entry, string_cmp}
use Rattle.bti_nodes.specs.declared.damage.Damage.{Damage}
use Rattle.data_file.specs.declared.reading.DataError.TheVariants.{StoreFault, Damaged, NoMemory}
use Rattle.table_files.specs.Walk.{Stops, Walks}
use Rattle.table_files.proofs.Passing.{file_end_stops, head_passes, row_passes}
use Rattle.table_reader.specs.declared.seek.BoundString.{BoundString}
use Rattle.table_reader.specs.declared.walker.EntryStrings.{EntryStrings}
use Rattle.table_reader.specs.Laws.{bound_bytes}
use Rattle.table_reader.specs.Left.{EntriesAscend, HasLeft, IsBound, ScansGiveRange, is_from, is_in_range, is_not_greater, is_not_less, is_up_to, range_of}
use Rattle.table_reader.specs.Ranges.{GivesEntry, IsEntryAbove, IsEntryBelow, IsEntryOf, IsOpen, IsPast, PassesBelow, Scanning, entries_of, entry_of}
use Rattle.table_reader.proofs.Orders.{order_of_strings}

-- ---- tests of the order

not_less : (o : Ordering) → (o ≡ Less → ⊥) → is_not_less o ≡ true
not_less Less ne = absurd (ne refl)
not_less Equal ne = refl
not_less Greater ne = refl

not_greater : (o : Ordering) → (o ≡ Greater → ⊥) → is_not_greater o ≡ true
not_greater Less ne = refl
not_greater Equal ne = refl
not_greater Greater ne = absurd (ne refl)

and_false : (b : Bool) → (b && false) ≡ false
and_false true = refl
and_false false = refl

-- a key above one that isn't below a string is above the string
above_on : (o : Ordering) (key next bound : List ℕ) → string_cmp key bound ≡ o → is_not_less o ≡ true → string_cmp key next ≡ Less → string_cmp next bound ≡ Greater
above_on Less key next bound is high low = cc
above_on Equal key next bound is high low =
    let same : key ≡ bound = map.slice_cmp-IsAntisymmetric map.nat_cmp-IsAntisymmetric key bound is in
    nat_list_cmp_total.antisymm next bound ∙ ap ordering_reverse (subst (λ (k : List ℕ). string_cmp k next ≡ Less) same low)
above_on Greater key next bound is high low =
    let under : string_cmp bound key ≡ Less = nat_list_cmp_total.antisymm bound key ∙ ap ordering_reverse is in
    nat_list_cmp_total.antisymm next bound ∙ ap ordering_reverse (nat_list_cmp_total.trans bound key next under low)

module _ (columns : Columns) where
  below_out : (from to : Option BoundString) (e : EntryStrings) → IsBound columns from → IsEntryOf columns e → IsEntryBelow from e → is_in_range from to (entry_of e) ≡ false
  below_out None to e bound is below = absurd below
  below_out (Some b) to e bound is below =
      ap (λ (o : Ordering). is_not_less o && is_up_to to (entry_of e).0) (sym (order_of_strings columns b e bound is) ∙ below)

  from_true : (from : Option BoundString) (e : EntryStrings) → IsBound columns from → IsEntryOf columns e → (IsEntryBelow from e → ⊥) → is_from from (entry_of e).0 ≡ true
  from_true None e bound is apart = refl
  from_true (Some b) e bound is apart =
      not_less (string_cmp (entry_of e).0 (bound_bytes b)) (λ low. apart (order_of_strings columns b e bound is ∙ low))

  up_true : (to : Option BoundString) (e : EntryStrings) → IsBound columns to → IsEntryOf columns e → (IsEntryAbove to e → ⊥) → is_up_to to (entry_of e).0 ≡ true
  up_true None e bound is apart = refl
  up_true (Some b) e bound is apart =
      not_greater (string_cmp (entry_of e).0 (bound_bytes b)) (λ high. apart (order_of_strings columns b e bound is ∙ high))

  above_false : (to : Option BoundString) (e : EntryStrings) → IsBound columns to → IsEntryOf columns e → IsEntryAbove to e → is_up_to to (entry_of e).0 ≡ false
  above_false None e bound is above = absurd above
  above_false (Some b) e bound is above = ap is_not_greater (sym (order_of_strings columns b e bound is) ∙ above)

  skips : (from to : Option BoundString) (passed : List EntryStrings) (more : List Entry) → IsBound columns from → AllByRecursion (IsEntryOf columns) passed → AllByRecursion (IsEntryBelow from) passed
      → range_of from to (entries_of passed ++ more) ≡ range_of from to more
  skips from to [] more bound are below = refl
  skips from to (e ∷ passed) more bound (is, are) (low, below) =
      ap (λ (b : Bool). cond b (entry_of e ∷ range_of from to (entries_of passed ++ more)) (range_of from to (entries_of passed ++ more))) (below_out from to e bound is low)
      ∙ skips from to passed more bound are below

-- ---- entries that ascend

pub ascend_tail : (front more : List Entry) → EntriesAscend (front ++ more) → EntriesAscend more
ascend_tail [] more ascend = ascend
ascend_tail (e ∷ front) more ascend = ascend_tail front more ascend.1

later_from : (from : Option BoundString) (key next : List ℕ) → is_from from key ≡ true → string_cmp key next ≡ Less → is_from from next ≡ true
later_from None key next high low = refl
later_from (Some b) key next high low = ap is_not_less (above_on (string_cmp key (bound_bytes b)) key next (bound_bytes b) refl high low)

all_from : (from to : Option BoundString) (e : Entry) (entries : List Entry) → is_from from e.0 ≡ true → AllByRecursion (λ (f : Entry). string_cmp e.0 f.0 ≡ Less) entries
    → range_of from to entries ≡ range_of None to entries
all_from from to e [] high low = refl
all_from from to e (f ∷ entries) high (less, low) =
    let test : is_in_range from to f ≡ is_up_to to f.0 = ap (λ (b : Bool). b && is_up_to to f.0) (later_from from e.0 f.0 high less) in
    let rest = all_from from to e entries high low in
    (λ i. cond (test i) (f ∷ rest i) (rest i))

later_above : (to : Option BoundString) (key next : List ℕ) → is_up_to to key ≡ false → string_cmp key next ≡ Less → is_up_to to next ≡ false
later_above None key next high low = cc
later_above (Some b) key next high low = ap is_not_greater (above_on (string_cmp key (bound_bytes b)) key next (bound_bytes b) refl (greater_high (string_cmp key (bound_bytes b)) high) low)
  where
    greater_high : (o : Ordering) → is_not_greater o ≡ false → is_not_less o ≡ true
    greater_high Less h = cc
    greater_high Equal h = refl
    greater_high Greater h = refl

all_above : (from to : Option BoundString) (e : Entry) (entries : List Entry) → is_up_to to e.0 ≡ false → AllByRecursion (λ (f : Entry). string_cmp e.0 f.0 ≡ Less) entries → range_of from to entries ≡ []
all_above from to e [] high low = refl
all_above from to e (f ∷ entries) high (less, low) =
    let out : is_in_range from to f ≡ false = ap (λ (b : Bool). is_from from f.0 && b) (later_above to e.0 f.0 high less) ∙ and_false (is_from from f.0) in
    ap (λ (b : Bool). cond b (f ∷ range_of from to entries) (range_of from to entries)) out ∙ all_above from to e entries high low

none_left : (from to : Option BoundString) (e : Entry) (entries : List Entry) → is_up_to to e.0 ≡ false → EntriesAscend (e ∷ entries) → range_of from to (e ∷ entries) ≡ []
none_left from to e entries high ascend =
    let out : is_in_range from to e ≡ false = ap (λ (b : Bool). is_from from e.0 && b) high ∙ and_false (is_from from e.0) in
    ap (λ (b : Bool). cond b (e ∷ range_of from to entries) (range_of from to entries)) out ∙ all_above from to e entries high ascend.0

-- ---- what is left

module _ (columns : Columns) (file : List ℕ) where
  passes_left : (scan scan' : Scanning) (left : List Entry) → HasLeft columns file scan left → PassesBelow columns file scan scan' → HasLeft columns file scan' left
  passes_left scan scan' left h p =
      let on = p.walk.only h.entries None h.walk in
      let strings = p.strings h.is_open in
      record {
        is_open = strings.0;
        from = subst (IsBound columns) (sym p.from) h.from;
        to = subst (IsBound columns) (sym p.to) h.to;
        entries = on.0;
        walk = on.2;
        ascend = ascend_tail (entries_of p.passed) on.0 (subst EntriesAscend on.1 h.ascend);
        range = h.range ∙ ap (range_of scan.from scan.to) on.1 ∙ skips columns scan.from scan.to p.passed on.0 h.from strings.1 p.below
            ∙ (λ i. range_of (sym p.from i) (sym p.to i) on.0);
      }

  gives_left : (scan scan' : Scanning) (left : List Entry) (entry : EntryStrings) → HasLeft columns file scan left → GivesEntry columns file scan scan' entry
      → (rest : List Entry) × (left ≡ entry_of entry ∷ rest) × HasLeft columns file scan' rest
  gives_left scan scan' left entry h g =
      let on = g.walk.only h.entries None h.walk in
      let is = g.strings h.is_open in
      let ascend = subst EntriesAscend on.1 h.ascend in
      let high = from_true columns scan.from entry h.from is g.not_below in
      let within : is_in_range scan.from scan.to (entry_of entry) ≡ true =
      ap (λ (b : Bool). b && is_up_to scan.to (entry_of entry).0) high ∙ up_true columns scan.to entry h.to is g.not_above in
      let rest = range_of None scan.to on.0 in (
        rest,
        h.range ∙ ap (range_of scan.from scan.to) on.1
            ∙ ap (λ (b : Bool). cond b (entry_of entry ∷ range_of scan.from scan.to on.0) (range_of scan.from scan.to on.0)) within
            ∙ ap (λ (es : List Entry). entry_of entry ∷ es) (all_from scan.from scan.to (entry_of entry) on.0 high ascend.0),
        record {
          is_open = subst (IsOpen columns) (sym g.inside) is.partition;
          from = subst (IsBound columns) (sym g.from) tt;
          to = subst (IsBound columns) (sym g.to) h.to;
          entries = on.0;
          walk = on.2;
          ascend = ascend.1;
          range = (λ i. range_of (sym g.from i) (sym g.to i) on.0);
        },
      )

  past_left : (inside : Option (List ℕ)) (at : ℕ) (from to : Option BoundString) (entries : List Entry) → IsOpen columns inside → IsBound columns to
      → Walks columns inside at (drop at file) entries None → EntriesAscend entries → IsPast columns file inside at to → range_of from to entries ≡ []
  past_left None at from to entries is_open bound walk ascend (inl empty) =
      ap (range_of from to) ((file_end_stops columns file at empty).only entries None walk).0
  past_left None at from to entries is_open bound walk ascend (inr (key, value, (string, fits, (rest, e)), above)) =
      let on = (head_passes columns file at key (Some value) rest string fits e).only entries None walk in
      let entry : EntryStrings = record { partition = key; clustering = None; value = value } in
      let high : is_up_to to key ≡ false =
      subst (λ (k : List ℕ). is_up_to to k ≡ false) (append-nil key) (above_false columns to entry bound (record { partition = string; clustering = tt }) above) in
      ap (range_of from to) on.1 ∙ none_left from to (key, value) on.0 high (subst EntriesAscend on.1 ascend)
  past_left (Some key) at from to entries is_open bound walk ascend (clustering, value, (is, (rest, e)), above) =
      let on = (row_passes columns file at key clustering value rest is e).only entries None walk in
      let entry : EntryStrings = record { partition = key; clustering = Some clustering; value = value } in
      let high : is_up_to to (entry_of entry).0 ≡ false = above_false columns to entry bound (record { partition = is_open; clustering = is.0 }) above in
      ap (range_of from to) on.1 ∙ none_left from to (entry_of entry) on.0 high (subst EntriesAscend on.1 ascend)

  no_stop : (scan : Scanning) (left : List Entry) (damage : Damage) → HasLeft columns file scan left → Stops columns file scan.inside scan.window.at [] (Some damage) → ⊥
  no_stop scan left damage h stops = let other = (stops.only h.entries None h.walk).1 in cc

pub scans_give_range : ScansGiveRange
scans_give_range columns file scan scan' left (Ok (Some entry)) h (mid, p, g) = gives_left columns file mid scan' left entry (passes_left columns file scan mid left h p) g
scans_give_range columns file scan scan' left (Ok None) h (p, past) =
    let there = passes_left columns file scan scan' left h p in
    (there.range ∙ past_left columns file scan'.inside scan'.window.at scan'.from scan'.to there.entries there.is_open there.to there.walk there.ascend past, there)
scans_give_range columns file scan scan' left (Err (Damaged damage)) h (p, stops) = no_stop columns file scan' left damage (passes_left columns file scan scan' left h p) stops
scans_give_range columns file scan scan' left (Err StoreFault) h p = passes_left columns file scan scan' left h p
scans_give_range columns file scan scan' left (Err NoMemory) h p = passes_left columns file scan scan' left h p
