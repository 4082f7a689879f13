-- The answers of all readers, put into the order of the gets from the last one on.
use Rattle.std.proofs.Common.{rules, ◌≡◌, ◌≢◌, ◌⊎◌, ℕ, zero, suc, ◌<◌, Bool, true, false, cond, List, [], ◌∷◌, ◌++◌, length, take, drop, set, All, vec_len, slice_get, slice_index_or, Some, inl, inr, sym, ap, ◌∙◌, subst, length-append, append_assoc, arith}
use Rattle.std.specs.Prelude.{reverse}
use Rattle.std.specs.Global.{Vec}
use Rattle.std.proofs.lemmas.List.{reverse-append, length-reverse}
use Rattle.std.proofs.lemmas.Option.{slice_get-get_or, slice_get_within}
use Rattle.shard_table.specs.Seats.{AreEach}
use Rattle.shard_table.proofs.Seated.{item_there}
use Rattle.script_text.specs.declared.spans.GetLine.{GetLine}
use Rattle.load_work.specs.declared.batch.Answer.{Answer}
use Rattle.load_work.specs.Reads.{is_of, gets_of}
use Rattle.load_work.specs.Merge.{answers_of, IsMerge}
use Rattle.load_work.proofs.Lists.{dropped, taken, filter_more, set_cases, item_at}

own_get : (g : GetLine) → is_of g.reader g ≡ true
own_get g = search rules

other_get : (g : GetLine) (q : ℕ) → q ≢ g.reader → is_of q g ≡ false
other_get g q ne = let turned : g.reader ≢ q = λ e. ne (sym e) in search rules

module _ (gets : List GetLine) (m : ℕ) (g : GetLine) (at : slice_get gets m ≡ Some g) where
  gets_taken : (q : ℕ) → gets_of q (take (suc m) gets) ≡ gets_of q (take m gets) ++ gets_of q (g ∷ [])
  gets_taken q = ap (gets_of q) (taken gets m g at) ∙ filter_more (is_of q) (take m gets) (g ∷ [])

  pub own_taken : length (gets_of g.reader (take (suc m) gets)) ≡ suc (length (gets_of g.reader (take m gets)))
  own_taken =
      let e : gets_of g.reader (take (suc m) gets) ≡ gets_of g.reader (take m gets) ++ g ∷ [] = gets_taken g.reader ∙ ap (λ (b : Bool). gets_of g.reader (take m gets) ++ cond b (g ∷ []) []) (own_get g) in
      omega (arith, ap length e, length-append (gets_of g.reader (take m gets)) (g ∷ []))

  pub other_taken : (q : ℕ) → q ≢ g.reader → length (gets_of q (take (suc m) gets)) ≡ length (gets_of q (take m gets))
  other_taken q ne =
      let e : gets_of q (take (suc m) gets) ≡ gets_of q (take m gets) ++ [] = gets_taken q ∙ ap (λ (b : Bool). gets_of q (take m gets) ++ cond b (g ∷ []) []) (other_get g q ne) in
      omega (arith, ap length e, length-append (gets_of q (take m gets)) [])

  module _ (answers : List Answer) (a : Answer) where
    answers_turned : (q : ℕ) → answers_of q (drop m gets) (reverse (answers ++ a ∷ [])) ≡ cond (is_of q g) (a ∷ answers_of q (drop (suc m) gets) (reverse answers)) (answers_of q (drop (suc m) gets) (reverse answers))
    answers_turned q = ap (λ (l : List GetLine). answers_of q l (reverse (answers ++ a ∷ []))) (dropped gets m g at) ∙ ap (answers_of q (g ∷ drop (suc m) gets)) (reverse-append answers (a ∷ []))

    own_answers : answers_of g.reader (drop m gets) (reverse (answers ++ a ∷ [])) ≡ a ∷ answers_of g.reader (drop (suc m) gets) (reverse answers)
    own_answers = answers_turned g.reader ∙ ap (λ (b : Bool). cond b (a ∷ answers_of g.reader (drop (suc m) gets) (reverse answers)) (answers_of g.reader (drop (suc m) gets) (reverse answers))) (own_get g)

    other_answers : (q : ℕ) → q ≢ g.reader → answers_of q (drop m gets) (reverse (answers ++ a ∷ [])) ≡ answers_of q (drop (suc m) gets) (reverse answers)
    other_answers q ne = answers_turned q ∙ ap (λ (b : Bool). cond b (a ∷ answers_of q (drop (suc m) gets) (reverse answers)) (answers_of q (drop (suc m) gets) (reverse answers))) (other_get g q ne)

    module _ (lists : List (Vec Answer)) (old new : Vec Answer) (there : slice_get lists g.reader ≡ Some old) (popped : old.items ≡ new.items ++ a ∷ []) where
      long_case : ((q : ℕ) (list : Vec Answer) → slice_get lists q ≡ Some list → length list.items ≡ length (gets_of q (take (suc m) gets)))
          → (q : ℕ) (list : Vec Answer) → ((q ≡ g.reader) × (new ≡ list)) ⊎ ((q ≢ g.reader) × (slice_get lists q ≡ Some list)) → length list.items ≡ length (gets_of q (take m gets))
      long_case was q list (inl h) =
          let one : length new.items ≡ length (gets_of g.reader (take m gets)) = omega (arith, was g.reader old there, own_taken, ap length popped, length-append new.items (a ∷ [])) in
          subst (λ (n : ℕ). length list.items ≡ length (gets_of n (take m gets))) (sym h.0) (subst (λ (l : Vec Answer). length l.items ≡ length (gets_of g.reader (take m gets))) h.1 one)
      long_case was q list (inr h) = was q list h.1 ∙ other_taken q h.0

      pub long_more : ((q : ℕ) (list : Vec Answer) → slice_get lists q ≡ Some list → length list.items ≡ length (gets_of q (take (suc m) gets)))
          → (q : ℕ) (list : Vec Answer) → slice_get (set lists g.reader new) q ≡ Some list → length list.items ≡ length (gets_of q (take m gets))
      long_more was q list at' = long_case was q list (set_cases lists g.reader q new list at')

      module _ (firsts : List (Vec Answer)) (was : (q : ℕ) (all list : Vec Answer) → slice_get firsts q ≡ Some all → slice_get lists q ≡ Some list → all.items ≡ list.items ++ answers_of q (drop (suc m) gets) (reverse answers)) where
        each_case : (q : ℕ) (all list : Vec Answer) → slice_get firsts q ≡ Some all → ((q ≡ g.reader) × (new ≡ list)) ⊎ ((q ≢ g.reader) × (slice_get lists q ≡ Some list)) → all.items ≡ list.items ++ answers_of q (drop m gets) (reverse (answers ++ a ∷ []))
        each_case q all list from (inl h) =
            let first : slice_get firsts g.reader ≡ Some all = subst (λ (n : ℕ). slice_get firsts n ≡ Some all) h.0 from in
            let rest = answers_of g.reader (drop (suc m) gets) (reverse answers) in
            let one : all.items ≡ new.items ++ answers_of g.reader (drop m gets) (reverse (answers ++ a ∷ [])) =
            was g.reader all old first there ∙ ap (λ (l : List Answer). l ++ rest) popped ∙ append_assoc new.items (a ∷ []) rest ∙ ap (λ (l : List Answer). new.items ++ l) (sym own_answers) in
            subst (λ (n : ℕ). all.items ≡ list.items ++ answers_of n (drop m gets) (reverse (answers ++ a ∷ []))) (sym h.0)
            (subst (λ (l : Vec Answer). all.items ≡ l.items ++ answers_of g.reader (drop m gets) (reverse (answers ++ a ∷ []))) h.1 one)
        each_case q all list from (inr h) = was q all list from h.1 ∙ ap (λ (l : List Answer). list.items ++ l) (sym (other_answers q h.0))

        pub merged_more : (q : ℕ) (all list : Vec Answer) → slice_get firsts q ≡ Some all → slice_get (set lists g.reader new) q ≡ Some list → all.items ≡ list.items ++ answers_of q (drop m gets) (reverse (answers ++ a ∷ []))
        merged_more q all list from to = each_case q all list from (set_cases lists g.reader q new list to)

-- the next get, whose reader's last answer is taken
module _ (gets : List GetLine) (m k : ℕ) (e : k ≡ suc m) (d : GetLine) (less : m < length gets) (firsts lists : Vec (Vec Answer)) (readers : All (λ (g : GetLine). g.reader < vec_len firsts) gets) (count : vec_len lists ≡ vec_len firsts)
    (old : Vec Answer) (value : old ≡ slice_index_or lists.items (slice_index_or gets m d).reader old) (long : (q : ℕ) (list : Vec Answer) → slice_get lists.items q ≡ Some list → length list.items ≡ length (gets_of q (take k gets))) where
  abbrev get : GetLine
  get = slice_index_or gets m d

  get_at : slice_get gets m ≡ Some get
  get_at = slice_get-get_or gets m d less

  list_there : slice_get lists.items get.reader ≡ Some old
  list_there = item_there lists get.reader old (omega (arith, readers m d less, count)) value

  long_now : (q : ℕ) (list : Vec Answer) → slice_get lists.items q ≡ Some list → length list.items ≡ length (gets_of q (take (suc m) gets))
  long_now q list at = subst (λ (n : ℕ). length list.items ≡ length (gets_of q (take n gets))) e (long q list at)

  pub never_empty : old.items ≡ [] → ⊥
  never_empty empty = omega (arith, long_now get.reader old list_there, own_taken gets m get get_at, ap length empty)

  module _ (answers : List Answer) (a : Answer) (new : Vec Answer) (popped : old.items ≡ new.items ++ a ∷ []) where
    pub next_long : (q : ℕ) (list : Vec Answer) → slice_get (set lists.items get.reader new) q ≡ Some list → length list.items ≡ length (gets_of q (take m gets))
    next_long = long_more gets m get get_at answers a lists.items old new list_there popped long_now

    pub next_merged : (longer : List Answer) → longer ≡ answers ++ a ∷ [] → ((q : ℕ) (all list : Vec Answer) → slice_get firsts.items q ≡ Some all → slice_get lists.items q ≡ Some list → all.items ≡ list.items ++ answers_of q (drop k gets) (reverse answers))
        → (q : ℕ) (all list : Vec Answer) → slice_get firsts.items q ≡ Some all → slice_get (set lists.items get.reader new) q ≡ Some list → all.items ≡ list.items ++ answers_of q (drop m gets) (reverse longer)
    next_merged longer is was q all list from to =
        subst (λ (l : List Answer). all.items ≡ list.items ++ answers_of q (drop m gets) (reverse l)) (sym is)
        (merged_more gets m get get_at answers a lists.items old new list_there popped firsts.items
        (λ p all' list' from' to'. subst (λ (n : ℕ). all'.items ≡ list'.items ++ answers_of p (drop n gets) (reverse answers)) e (was p all' list' from' to')) q all list from to)

-- each answer is taken
pub all_merged : (gets : List GetLine) (firsts lists : Vec (Vec Answer)) (answers turned : List Answer) (k : ℕ) → k ≡ 0 → turned ≡ reverse answers → vec_len lists ≡ vec_len firsts → length answers ≡ length (drop k gets)
    → ((q : ℕ) (list : Vec Answer) → slice_get lists.items q ≡ Some list → length list.items ≡ length (gets_of q (take k gets)))
    → ((q : ℕ) (all list : Vec Answer) → slice_get firsts.items q ≡ Some all → slice_get lists.items q ≡ Some list → all.items ≡ list.items ++ answers_of q (drop k gets) (reverse answers))
    → IsMerge gets firsts.items turned
all_merged gets firsts lists answers turned k e is count len long each =
    subst (IsMerge gets firsts.items) (sym is) (record {
      len = length-reverse answers ∙ len ∙ ap (λ (n : ℕ). length (drop n gets)) e;
      each = λ q all at.
          let list = item_at lists.items q (omega (arith, slice_get_within firsts.items q all at, count, firsts.ok.0, lists.ok.0)) in
          let none : length list.0.items ≡ 0 = long q list.0 list.1 ∙ ap (λ (n : ℕ). length (gets_of q (take n gets))) e in
          ap (λ (n : ℕ). answers_of q (drop n gets) (reverse answers)) (sym e) ∙ sym (rest_alone all.items list.0.items (answers_of q (drop k gets) (reverse answers)) none (each q all list.0 at list.1));
    })
  where
    rest_alone : (xs ys zs : List Answer) → length ys ≡ 0 → xs ≡ ys ++ zs → xs ≡ zs
    rest_alone xs [] zs n e = e
    rest_alone xs (y ∷ ys) zs n e = absurd (omega arith)

-- what holds of each reader's gets and answers holds of all
module _ (P : GetLine → Answer → Type 0) (q : ℕ) where
  tail : (b : Bool) (g : GetLine) (a : Answer) (gets : List GetLine) (answers : List Answer) → AreEach P (cond b (g ∷ gets) gets) (cond b (a ∷ answers) answers) → AreEach P gets answers
  tail true g a gets answers h = h.1
  tail false g a gets answers h = h

  pub of_all : (gets : List GetLine) (answers : List Answer) (i : ℕ) (g : GetLine) (a : Answer) → AreEach P (gets_of q gets) (answers_of q gets answers) → slice_get gets i ≡ Some g → slice_get answers i ≡ Some a → g.reader ≡ q → P g a
  of_all [] answers i g a each at to is = absurd (cc)
  of_all (h ∷ gets) [] i g a each at to is = absurd (cc)
  of_all (h ∷ gets) (b ∷ answers) zero g a each at to is =
      let same_get : h ≡ g = cc in let same_answer : b ≡ a = cc in
      let mine : is_of q h ≡ true = ap (λ (x : GetLine). is_of q x) same_get ∙ ap (λ (n : ℕ). is_of n g) (sym is) ∙ own_get g in
      let now = subst (λ (t : Bool). AreEach P (cond t (h ∷ gets_of q gets) (gets_of q gets)) (cond t (b ∷ answers_of q gets answers) (answers_of q gets answers))) mine each in
      subst (λ (x : GetLine). P x a) same_get (subst (P h) same_answer now.0)
  of_all (h ∷ gets) (b ∷ answers) (suc i) g a each at to is = of_all gets answers i g a (tail (is_of q h) h b (gets_of q gets) (answers_of q gets answers) each) at to is

-- where answers stand among those of their reader
module _ (q : ℕ) where
  own_head : (h : GetLine) (gets : List GetLine) (b : Answer) (answers : List Answer) → h.reader ≡ q → answers_of q (h ∷ gets) (b ∷ answers) ≡ b ∷ answers_of q gets answers
  own_head h gets b answers is = ap (λ (t : Bool). cond t (b ∷ answers_of q gets answers) (answers_of q gets answers)) (ap (λ (n : ℕ). is_of n h) (sym is) ∙ own_get h)

  place_behind : (t : Bool) (b : Answer) (rest : List Answer) (i : ℕ) (a : Answer) → slice_get rest i ≡ Some a → (m : ℕ) × (slice_get (cond t (b ∷ rest) rest) m ≡ Some a)
  place_behind true b rest i a at = (suc i, at)
  place_behind false b rest i a at = (i, at)

  places_behind : (t : Bool) (c : Answer) (rest : List Answer) (i j : ℕ) (a b : Answer) → i < j → slice_get rest i ≡ Some a → slice_get rest j ≡ Some b → (m n : ℕ) × (m < n) × (slice_get (cond t (c ∷ rest) rest) m ≡ Some a) × (slice_get (cond t (c ∷ rest) rest) n ≡ Some b)
  places_behind true c rest i j a b less at to = (suc i, suc j, omega (arith, less), at, to)
  places_behind false c rest i j a b less at to = (i, j, less, at, to)

  place : (gets : List GetLine) (answers : List Answer) (i : ℕ) (g : GetLine) (a : Answer) → slice_get gets i ≡ Some g → slice_get answers i ≡ Some a → g.reader ≡ q → (m : ℕ) × (slice_get (answers_of q gets answers) m ≡ Some a)
  place [] answers i g a at to is = absurd (cc)
  place (h ∷ gets) [] i g a at to is = absurd (cc)
  place (h ∷ gets) (b ∷ answers) zero g a at to is =
      let same : h ≡ g = cc in let there : slice_get (b ∷ answers_of q gets answers) 0 ≡ Some a = to in
      (0, subst (λ (l : List Answer). slice_get l 0 ≡ Some a) (sym (own_head h gets b answers (ap (λ (x : GetLine). x.reader) same ∙ is))) there)
  place (h ∷ gets) (b ∷ answers) (suc i) g a at to is = let p = place gets answers i g a at to is in place_behind (is_of q h) b (answers_of q gets answers) p.0 a p.1

  pub places : (gets : List GetLine) (answers : List Answer) (i j : ℕ) (g h : GetLine) (a b : Answer) → i < j → slice_get gets i ≡ Some g → slice_get gets j ≡ Some h → slice_get answers i ≡ Some a → slice_get answers j ≡ Some b → g.reader ≡ q → h.reader ≡ q
      → (m n : ℕ) × (m < n) × (slice_get (answers_of q gets answers) m ≡ Some a) × (slice_get (answers_of q gets answers) n ≡ Some b)
  places [] answers i j g h a b less gi gj ai aj is it = absurd (cc)
  places (x ∷ gets) [] i j g h a b less gi gj ai aj is it = absurd (cc)
  places (x ∷ gets) (y ∷ answers) i zero g h a b less gi gj ai aj is it = absurd (omega arith)
  places (x ∷ gets) (y ∷ answers) zero (suc j) g h a b less gi gj ai aj is it =
      let p = place gets answers j h b gj aj it in let same : x ≡ g = cc in
      let e = own_head x gets y answers (ap (λ (z : GetLine). z.reader) same ∙ is) in
      let first : slice_get (y ∷ answers_of q gets answers) 0 ≡ Some a = ai in
      let second : slice_get (y ∷ answers_of q gets answers) (suc p.0) ≡ Some b = p.1 in
      (0, suc p.0, omega arith, subst (λ (l : List Answer). slice_get l 0 ≡ Some a) (sym e) first, subst (λ (l : List Answer). slice_get l (suc p.0) ≡ Some b) (sym e) second)
  places (x ∷ gets) (y ∷ answers) (suc i) (suc j) g h a b less gi gj ai aj is it =
      let p = places gets answers i j g h a b (omega (arith, less)) gi gj ai aj is it in places_behind (is_of q x) y (answers_of q gets answers) p.0 p.1 a b p.2 p.3 p.4
