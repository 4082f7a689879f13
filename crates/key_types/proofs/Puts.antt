-- What a get of the map that puts leave answers.
use Rattle.std.proofs.Common.{◌≡◌, Bool, true, false, cond, ℕ, List, [], ◌∷◌, ◌++◌, Option, Some, None, inl, inr, arith, refl, sym, ◌∙◌, ap}
use Rattle.std.proofs.lemmas.Bool.Decides.{nat_tests}
use Rattle.std.specs.Prelude.{◌≢◌, ◌↔◌, ◌⊎◌}
use Rattle.std.specs.declared.cmp.Ordering.{Ordering}
use Rattle.std.specs.declared.cmp.Ordering.TheVariants.{Less, Equal, Greater}
use Rattle.std.specs.Ordering.{nat_cmp, eq_by_cmp, is_eq, ordering_then}
use Rattle.std.specs.Cmp.Lexicographic.{slice_cmp, nat_list_cmp_total}
use Rattle.std.specs.FinMap as map
use Rattle.key_types.specs.Table.{Entry, Table, string_cmp, table_after, table_of, LacksKey, IsLastValue, GetsLastPut, value_over, IsOver}

-- ---- equal keys

alone : (x : ℕ) → nat_cmp x x ≡ Equal
alone x = grind (arith, nat_tests)

itself : (key : List ℕ) → string_cmp key key ≡ Equal
itself [] = refl
itself (x ∷ xs) = ap (λ (o : Ordering). ordering_then o (slice_cmp nat_cmp xs xs)) (alone x) ∙ itself xs

is_key : (key other : List ℕ) → eq_by_cmp string_cmp key other ≡ true → key ≡ other
is_key key other e = map.slice_cmp-IsAntisymmetric map.nat_cmp-IsAntisymmetric key other (tied (string_cmp key other) e)
  where
    tied : (o : Ordering) → is_eq o ≡ true → o ≡ Equal
    tied Less h = cc
    tied Equal h = refl
    tied Greater h = cc

tied_itself : (key : List ℕ) → eq_by_cmp string_cmp key key ≡ true
tied_itself key = ap is_eq (itself key)

other_key : (key other : List ℕ) → key ≢ other → eq_by_cmp string_cmp key other ≡ false
other_key key other apart = by (eq_by_cmp string_cmp key other) refl
  where
    by : (b : Bool) → eq_by_cmp string_cmp key other ≡ b → eq_by_cmp string_cmp key other ≡ false
    by true e = absurd (apart (is_key key other e))
    by false e = e

-- ---- the value that puts leave of a key, from that before them

abbrev value_after : List ℕ → Option (List ℕ) → List Entry → Option (List ℕ)
value_after key before [] = before
value_after key before (put ∷ puts) = value_after key (cond (eq_by_cmp string_cmp key put.0) (Some put.1) before) puts

gets : (table : Table) (puts : List Entry) (key : List ℕ) → map.get (table_after table puts) key ≡ value_after key (map.get table key) puts
gets table [] key = refl
gets table (put ∷ puts) key =
    gets (map.insert table put.0 put.1) puts key ∙ ap (λ (o : Option (List ℕ)). value_after key o puts) (map.get-insert nat_list_cmp_total table put.0 put.1 key)

gets_of : (puts : List Entry) (key : List ℕ) → map.get (table_of puts) key ≡ value_after key None puts
gets_of puts key = gets map.empty puts key ∙ ap (λ (o : Option (List ℕ)). value_after key o puts) (map.get-empty string_cmp key)

-- ---- one list behind another

joined : (table : Table) (first second : List Entry) → table_after table (first ++ second) ≡ table_after (table_after table first) second
joined table [] second = refl
joined table (put ∷ first) second = joined (map.insert table put.0 put.1) first second

over_over : (o newer older : Option (List ℕ)) → value_over o (value_over newer older) ≡ value_over (value_over o newer) older
over_over (Some v) newer older = refl
over_over None newer older = refl

over_by : (b : Bool) (v : List ℕ) (before : Option (List ℕ)) → cond b (Some v) before ≡ value_over (cond b (Some v) None) before
over_by true v before = refl
over_by false v before = refl

after_over : (key : List ℕ) (puts : List Entry) (before : Option (List ℕ)) → value_after key before puts ≡ value_over (value_after key None puts) before
after_over key [] before = refl
after_over key (put ∷ puts) before =
    let b = eq_by_cmp string_cmp key put.0 in
    after_over key puts (cond b (Some put.1) before)
    ∙ ap (value_over (value_after key None puts)) (over_by b put.1 before)
    ∙ over_over (value_after key None puts) (cond b (Some put.1) None) before
    ∙ ap (λ (o : Option (List ℕ)). value_over o before) (sym (after_over key puts (cond b (Some put.1) None)))

pub is_over : IsOver
is_over first second key =
    ap (λ (t : Table). map.get t key) (joined map.empty first second) ∙ gets (table_of first) second key ∙ after_over key second (map.get (table_of first) key)
    ∙ ap (λ (o : Option (List ℕ)). value_over o (map.get (table_of first) key)) (sym (gets_of second key))

-- ---- the last put

no_put : (key : List ℕ) (puts : List Entry) (before : Option (List ℕ)) → LacksKey key puts → value_after key before puts ≡ before
no_put key [] before h = refl
no_put key (put ∷ puts) before h =
    ap (λ (b : Bool). value_after key (cond b (Some put.1) before) puts) (other_key key put.0 h.0) ∙ no_put key puts before h.1

after_both : (key : List ℕ) (first second : List Entry) (before : Option (List ℕ)) → value_after key before (first ++ second) ≡ value_after key (value_after key before first) second
after_both key [] second before = refl
after_both key (put ∷ first) second before = after_both key first second (cond (eq_by_cmp string_cmp key put.0) (Some put.1) before)

last_gives : (key value : List ℕ) (puts : List Entry) → IsLastValue key value puts → value_after key None puts ≡ Some value
last_gives key value puts (front, rest, is, none) =
    ap (value_after key None) is ∙ after_both key front ((key, value) ∷ rest) None
    ∙ ap (λ (b : Bool). value_after key (cond b (Some value) (value_after key None front)) rest) (tied_itself key) ∙ no_put key rest (Some value) none

abbrev Left : List ℕ → List ℕ → Option (List ℕ) → List Entry → Type 0
Left key value before puts = ((before ≡ Some value) × LacksKey key puts) ⊎ IsLastValue key value puts

one_more : (b : Bool) (key value : List ℕ) (before : Option (List ℕ)) (put : Entry) (puts : List Entry) → eq_by_cmp string_cmp key put.0 ≡ b
    → Left key value (cond b (Some put.1) before) puts → Left key value before (put ∷ puts)
one_more b key value before put puts e (inr (front, rest, is, none)) = inr (put ∷ front, rest, ap (λ l. put ∷ l) is, none)
one_more true key value before put puts e (inl (is, none)) =
    let same : put.1 ≡ value = cc in
    inr ([], puts, ap (λ (k : List ℕ). (k, put.1) ∷ puts) (sym (is_key key put.0 e)) ∙ ap (λ (v : List ℕ). (key, v) ∷ puts) same, none)
one_more false key value before put puts e (inl (is, none)) = inl (is, ((λ same. untied (sym e ∙ ap (λ k. eq_by_cmp string_cmp key k) (sym same) ∙ tied_itself key)), none))
  where
    untied : false ≡ true → ⊥
    untied h = cc

given_by : (key value : List ℕ) (puts : List Entry) (before : Option (List ℕ)) → value_after key before puts ≡ Some value → Left key value before puts
given_by key value [] before h = inl (h, tt)
given_by key value (put ∷ puts) before h =
    one_more (eq_by_cmp string_cmp key put.0) key value before put puts refl (given_by key value puts (cond (eq_by_cmp string_cmp key put.0) (Some put.1) before) h)

gives_last : (key value : List ℕ) (puts : List Entry) → value_after key None puts ≡ Some value → IsLastValue key value puts
gives_last key value puts h = from (given_by key value puts None h)
  where
    from : Left key value None puts → IsLastValue key value puts
    from (inl (is, none)) = cc
    from (inr last) = last

none_by : (b : Bool) (key : List ℕ) (before : Option (List ℕ)) (put : Entry) (puts : List Entry) → eq_by_cmp string_cmp key put.0 ≡ b
    → (cond b (Some put.1) before ≡ None) × LacksKey key puts → (before ≡ None) × LacksKey key (put ∷ puts)
none_by true key before put puts e (is, none) = cc
none_by false key before put puts e (is, none) = (is, ((λ same. untied (sym e ∙ ap (λ k. eq_by_cmp string_cmp key k) (sym same) ∙ tied_itself key)), none))
  where
    untied : false ≡ true → ⊥
    untied h = cc

gives_none : (key : List ℕ) (puts : List Entry) (before : Option (List ℕ)) → value_after key before puts ≡ None → (before ≡ None) × LacksKey key puts
gives_none key [] before h = (h, tt)
gives_none key (put ∷ puts) before h =
    none_by (eq_by_cmp string_cmp key put.0) key before put puts refl (gives_none key puts (cond (eq_by_cmp string_cmp key put.0) (Some put.1) before) h)

pub gets_last : GetsLastPut
gets_last = record {
  some = λ puts key value. ((λ h. gives_last key value puts (sym (gets_of puts key) ∙ h)), (λ is. gets_of puts key ∙ last_gives key value puts is));
  none = λ puts key. ((λ h. (gives_none key puts None (sym (gets_of puts key) ∙ h)).1), (λ is. gets_of puts key ∙ no_put key puts None is));
}
