-- The entries that neighbours determine are the index that all strings determine.
use Rattle.std.proofs.Common.{◌≡◌, ◌≢◌, ℕ, ◌<◌, List, [], ◌∷◌, ◌++◌, length, arith, refl, sym, subst}
use Rattle.std.proofs.lemmas.List.{append_assoc}
use Rattle.std.specs.Prelude.{Some}
use Rattle.byte_order.specs.Strings.{AreAscending, Differ, first_of, last_of, unique_size}
use Rattle.byte_order.specs.Laws.{DiffersFrom}
use Rattle.byte_order.proofs.Among.{unique_among_all}
use Rattle.byte_order.proofs.Sizes.{never_longer, unique_size_is}
use Rattle.partition_index.specs.Entries.{AreIndexed, IsApartBelow, IsFollowed, IsIndexed, Numbered, StandApart, index_entries_from, entry_between, strings_of}
use Rattle.partition_index.specs.Laws.{EntriesAreIndex}

-- ---- strings apart

pub some_string : (key : List ℕ) → 0 < length key → key ≢ []
some_string [] h = absurd (omega (arith, h))
some_string (x ∷ key) h = λ e. cc

-- neither of two strings that stand apart is the beginning of the other
pub differ : (a b : List ℕ) → IsApartBelow a b → Differ a b
differ a b h = (h.1, never_longer a b h.0)

pub differs_behind : (key : List ℕ) (ps : List Numbered) → IsFollowed key ps → DiffersFrom key (first_of (strings_of ps))
differs_behind key [] h = tt
differs_behind key (p ∷ ps) h = differ key p.string h

pub differs_before : (a b : List ℕ) → IsApartBelow a b → Differ b a
differs_before a b h = (never_longer a b h.0, h.1)

-- ---- all strings ascend

ascending : (p : Numbered) (ps : List Numbered) → StandApart (p ∷ ps) → AreAscending (p.string ∷ strings_of ps)
ascending p [] h = tt
ascending p (q ∷ ps) h = (h.1.0, ascending q ps h.2)

last_behind : (before : List (List ℕ)) (key : List ℕ) → last_of (before ++ key ∷ []) ≡ Some key
last_behind [] key = refl
last_behind (x ∷ []) key = refl
last_behind (x ∷ y ∷ before) key = last_behind (y ∷ before) key

-- ---- the index

one_indexed : (before : List (List ℕ)) (p : Numbered) (ps : List Numbered) → AreAscending (before ++ p.string ∷ strings_of ps) → StandApart (p ∷ ps)
    → DiffersFrom p.string (last_of before) → IsIndexed p (before ++ strings_of ps) (entry_between (last_of before) p (first_of (strings_of ps)))
one_indexed before p ps up h low =
    let behind = first_of (strings_of ps) in
    let size = unique_size (last_of before) p.string behind in
    let beside = unique_size_is (last_of before) p.string behind (some_string p.string h.0.some) low (differs_behind p.string ps h.1) in
    record { size = size; unique = unique_among_all before p.string (strings_of ps) size up beside; key = refl; payload = refl }

indexed : (before : List (List ℕ)) (p : Numbered) (ps : List Numbered) → AreAscending (before ++ p.string ∷ strings_of ps) → StandApart (p ∷ ps)
    → DiffersFrom p.string (last_of before) → AreIndexed before (p ∷ ps) (index_entries_from (last_of before) (p ∷ ps))
indexed before p [] up h low = (one_indexed before p [] up h low, tt)
indexed before p (q ∷ ps) up h low =
    let to : List (List ℕ) = before ++ p.string ∷ [] in
    let above : AreAscending (to ++ q.string ∷ strings_of ps) = subst AreAscending (sym (append_assoc before (p.string ∷ []) (q.string ∷ strings_of ps))) up in
    let last = last_behind before p.string in
    let apart : DiffersFrom q.string (last_of to) = subst (DiffersFrom q.string) (sym last) (differs_before p.string q.string h.1) in
    (one_indexed before p (q ∷ ps) up h low, subst (λ o. AreIndexed to (q ∷ ps) (index_entries_from o (q ∷ ps))) last (indexed to q ps above h.2 apart))

pub entries_are_index : EntriesAreIndex
entries_are_index [] h = tt
entries_are_index (p ∷ ps) h = indexed [] p ps (ascending p ps h.ascend) h.ascend tt
