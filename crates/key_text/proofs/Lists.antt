-- Lists of components are read exactly, and so are values of every type.
use Rattle.std.proofs.Common.{◌≡◌, ℕ, true, false, List, [], ◌∷◌, ◌++◌, refl, sym, ◌∙◌, ap, arith, subst, inl}
use Rattle.std.specs.Prelude.{codes, replicate, pos}
use Rattle.grammar.specs.Exact.{Read, Exact, NextIs}
use Rattle.grammar.specs.Reading.{then_read, Then, map_read, Mapped, ends, IsEnd, sign_at, IsSign, NoSpace, spaces_at, AreSpaces}
use Rattle.grammar.proofs.Octets.{are_bytes, bytes_both}
use Rattle.grammar.proofs.Bind.{bind_exact}
use Rattle.grammar.proofs.Map.{map_exact}
use Rattle.grammar.proofs.Tokens.{ends_exact}
use Rattle.grammar.proofs.Choices.{spaces_exact}
use Rattle.grammar.proofs.Signs.{sign_exact, next_exact, Heads, sign_heads, map_heads, heads_begin, begins_as, empty_begins, HasText, sign_text, map_text, then_text}
use Rattle.key_types.specs.Kinds.{Kind, tiny, small, int, big, text, blob, boolean, tuple, reversed, Kinds, end, more, Val, number, bytes, truth, values, Vals, none, and}
use Rattle.key_text.specs.Grammar.{IsLiteral, AreLiterals, AreFurther, IsList, IsText}
use Rattle.key_text.specs.Reading.{no_close}
use Rattle.key_text.proofs.Plain.{value_at, all_at, rest_at, list_at, Follow}
use Rattle.key_text.proofs.Composed.{exact_as, close_end, end_space, number_kind_exact, tiny_from, small_from, int_from, big_from, text_value_exact, blob_value_exact, truth_value_exact, Head, spaced_head, token_head}

-- ---- what may stand behind values

abbrev pub Closes : Vals → ℕ → Type 0
Closes _ b = no_close b ≡ false

follow_comma : (t : Kind) → Follow t 44
follow_comma tiny = refl
follow_comma small = refl
follow_comma int = refl
follow_comma big = refl
follow_comma text = refl
follow_comma blob = refl
follow_comma boolean = refl
follow_comma (tuple ts) = refl
follow_comma (reversed t) = follow_comma t

follow_close : (t : Kind) (b : ℕ) → no_close b ≡ false → Follow t b
follow_close tiny b h = close_end b h
follow_close small b h = close_end b h
follow_close int b h = close_end b h
follow_close big b h = close_end b h
follow_close text b h = close_end b h
follow_close blob b h = close_end b h
follow_close boolean b h = close_end b h
follow_close (tuple ts) b h = end_space b (close_end b h)
follow_close (reversed t) b h = follow_close t b h

further_begins : (t : Kind) (ts : Kinds) (vs : Vals) (bs rest : List ℕ) → AreFurther ts vs bs → NextIs (λ b. no_close b ≡ false) rest → NextIs (Follow t) (bs ++ rest)
further_begins t end none bs rest is h = empty_begins (Follow t) bs rest is (begins_as (λ b. no_close b ≡ false) (Follow t) (follow_close t) rest h)
further_begins t end (and v vs) bs rest is h = absurd is
further_begins t (more u us) none bs rest is h = absurd is
further_begins t (more u us) (and v vs) bs rest (comma, first, behind, sign, lit, further, e) h =
    subst (λ (l : List ℕ). NextIs (Follow t) (l ++ rest)) (sym (e ∙ ap (λ l. l ++ (first ++ behind)) sign.1)) (follow_comma t)

-- ---- how values begin, and that each type has one

pub literal_heads : (t : Kind) → Heads NoSpace (IsLiteral t)
literal_heads tiny v bs h = spaced_head h.0 bs h.1 h.3 (token_head tiny v h.0 h.2)
literal_heads small v bs h = spaced_head h.0 bs h.1 h.3 (token_head small v h.0 h.2)
literal_heads int v bs h = spaced_head h.0 bs h.1 h.3 (token_head int v h.0 h.2)
literal_heads big v bs h = spaced_head h.0 bs h.1 h.3 (token_head big v h.0 h.2)
literal_heads text v bs h = spaced_head h.0 bs h.1 h.3 (token_head text v h.0 h.2)
literal_heads blob v bs h = spaced_head h.0 bs h.1 h.3 (token_head blob v h.0 h.2)
literal_heads boolean v bs h = spaced_head h.0 bs h.1 h.3 (token_head boolean v h.0 h.2)
literal_heads (tuple ts) (number z) bs h = absurd h
literal_heads (tuple ts) (bytes b) bs h = absurd h
literal_heads (tuple ts) (truth b) bs h = absurd h
literal_heads (tuple ts) (values vs) bs h = (40, replicate h.3.0 32 ++ (h.1 ++ h.2), h.6 ∙ ap (λ l. l ++ (h.1 ++ h.2)) h.3.1, refl)
literal_heads (reversed t) v bs h = literal_heads t v bs h

mutual
  value_some : (t : Kind) → HasText (IsLiteral t)
  value_some tiny = (number (pos 0), codes "0", (codes "0", 0, inl (refl, refl), refl), are_bytes (codes "0") refl)
  value_some small = (number (pos 0), codes "0", (codes "0", 0, inl (refl, refl), refl), are_bytes (codes "0") refl)
  value_some int = (number (pos 0), codes "0", (codes "0", 0, inl (refl, refl), refl), are_bytes (codes "0") refl)
  value_some big = (number (pos 0), codes "0", (codes "0", 0, inl (refl, refl), refl), are_bytes (codes "0") refl)
  value_some text = (bytes [], codes "''", (codes "''", 0, refl, refl), are_bytes (codes "''") refl)
  value_some blob = (bytes [], codes "0x", (codes "0x", 0, ([], refl, refl), refl), are_bytes (codes "0x") refl)
  value_some boolean = (truth true, codes "true", (codes "true", 0, refl, refl), are_bytes (codes "true") refl)
  value_some (tuple ts) =
      let h = all_some ts in
      (values h.0, 40 ∷ (h.1 ++ 41 ∷ []), (codes "(", h.1, codes ")", (0, refl), h.2, (0, refl), refl), (omega arith, bytes_both h.1 (codes ")") h.3 (are_bytes (codes ")") refl)))
  value_some (reversed t) = value_some t

  all_some : (ts : Kinds) → HasText (AreLiterals ts)
  all_some end = (none, [], refl, tt)
  all_some (more t ts) =
      let h = value_some t in
      let k = rest_some ts in
      (and h.0 k.0, h.1 ++ k.1, (h.1, k.1, h.2, k.2, refl), bytes_both h.1 k.1 h.3 k.3)

  rest_some : (ts : Kinds) → HasText (AreFurther ts)
  rest_some end = (none, [], refl, tt)
  rest_some (more t ts) =
      let h = value_some t in
      let k = rest_some ts in
      (and h.0 k.0, 44 ∷ (h.1 ++ k.1), (codes ",", h.1, k.1, (0, refl), h.2, k.2, refl), (omega arith, bytes_both h.1 k.1 h.3 k.3))

-- ---- a component and those behind it

module _ (t : Kind) (ts : Kinds) (one : Exact (value_at t) (IsLiteral t) (λ _ b. Follow t b)) (two : Exact (rest_at ts) (AreFurther ts) Closes) where
  abbrev item_at : Read Vals
  item_at = then_read (value_at t) (λ v. map_read (and v) (rest_at ts))

  abbrev IsItem : Vals → List ℕ → Type 0
  IsItem = Then (IsLiteral t) (λ v. Mapped (and v) (AreFurther ts))

  item_exact : Exact item_at IsItem Closes
  item_exact = bind_exact (value_at t) (λ v. map_read (and v) (rest_at ts)) (IsLiteral t) (λ v. Mapped (and v) (AreFurther ts)) (λ _ b. Follow t b) Closes
      one (λ v. map_exact (and v) (rest_at ts) (AreFurther ts) Closes Closes two (λ vs c h. h) (λ vs c h. h)) (λ v. map_text (and v) (AreFurther ts) (rest_some ts))
      (λ v vs bs rest is h. further_begins t ts is.0 bs rest is.1 h)

  item_text : HasText IsItem
  item_text = then_text (IsLiteral t) (λ v. Mapped (and v) (AreFurther ts)) (value_some t) (λ v. map_text (and v) (AreFurther ts) (rest_some ts))

  item_heads : Heads NoSpace IsItem
  item_heads vs bs is = let p = literal_heads t is.0 is.1 is.3 in (p.0, p.1 ++ is.2, is.5 ∙ ap (λ l. l ++ is.2) p.2, p.3)

  item_to : (vs : Vals) (bs : List ℕ) → IsItem vs bs → AreLiterals (more t ts) vs bs
  item_to vs bs (v, first, rest, lit, (ws, further, same), e) = subst (λ (x : Vals). AreLiterals (more t ts) x bs) (sym same) (first, rest, lit, further, e)

  item_from : (vs : Vals) (bs : List ℕ) → AreLiterals (more t ts) vs bs → IsItem vs bs
  item_from none bs is = absurd is
  item_from (and v ws) bs (first, rest, lit, further, e) = (v, first, rest, lit, (ws, further, refl), e)

  abbrev IsComma : Vals → List ℕ → Type 0
  IsComma = Then (IsSign 44) (λ _. IsItem)

  comma_to : (vs : Vals) (bs : List ℕ) → IsComma vs bs → AreFurther (more t ts) vs bs
  comma_to vs bs (u, comma, behind, sign, (v, first, rest, lit, (ws, further, same), e), f) =
      subst (λ (x : Vals). AreFurther (more t ts) x bs) (sym same) (comma, first, rest, sign, lit, further, f ∙ ap (λ l. comma ++ l) e)

  comma_from : (vs : Vals) (bs : List ℕ) → AreFurther (more t ts) vs bs → IsComma vs bs
  comma_from none bs is = absurd is
  comma_from (and v ws) bs (comma, first, rest, sign, lit, further, e) = (tt, comma, first ++ rest, sign, (v, first, rest, lit, (ws, further, refl), refl), e)

  more_all : Exact item_at (AreLiterals (more t ts)) Closes
  more_all = exact_as item_at IsItem (AreLiterals (more t ts)) Closes item_exact item_to item_from

  more_rest : Exact (then_read (sign_at 44) (λ _. item_at)) (AreFurther (more t ts)) Closes
  more_rest = exact_as (then_read (sign_at 44) (λ _. item_at)) IsComma (AreFurther (more t ts)) Closes
      (next_exact (sign_at 44) (λ _. item_at) (IsSign 44) (λ _. IsItem) Closes (sign_exact 44 (omega arith)) (λ _. item_exact) (λ _. item_text) (λ _. item_heads)) comma_to comma_from

end_to : (vs : Vals) (bs : List ℕ) → IsEnd none vs bs → AreLiterals end vs bs
end_to vs bs is = subst (λ (x : Vals). AreLiterals end x bs) (sym is.0) is.1

end_from : (vs : Vals) (bs : List ℕ) → AreLiterals end vs bs → IsEnd none vs bs
end_from none bs is = (refl, is)
end_from (and v vs) bs is = absurd is

further_to : (vs : Vals) (bs : List ℕ) → IsEnd none vs bs → AreFurther end vs bs
further_to vs bs is = subst (λ (x : Vals). AreFurther end x bs) (sym is.0) is.1

further_from : (vs : Vals) (bs : List ℕ) → AreFurther end vs bs → IsEnd none vs bs
further_from none bs is = (refl, is)
further_from (and v vs) bs is = absurd is

-- ---- in parentheses

abbrev IsInside : {A : Type 0} → (Vals → A) → Kinds → A → List ℕ → Type 0
IsInside f ts = Then (AreLiterals ts) (λ vs. Mapped (λ _. f vs) (IsSign 41))

abbrev IsBetween : {A : Type 0} → (Vals → A) → Kinds → A → List ℕ → Type 0
IsBetween f ts = Then (IsSign 40) (λ _. IsInside f ts)

module _ {A : Type 0} (f : Vals → A) (ts : Kinds) (one : Exact (all_at ts) (AreLiterals ts) Closes) where
  abbrev inside_at : Read A
  inside_at = then_read (all_at ts) (λ vs. map_read (λ _. f vs) (sign_at 41))

  inside_exact : Exact inside_at (IsInside f ts) (λ _. NoSpace)
  inside_exact = bind_exact (all_at ts) (λ vs. map_read (λ _. f vs) (sign_at 41)) (AreLiterals ts) (λ vs. Mapped (λ _. f vs) (IsSign 41)) Closes (λ _. NoSpace)
      one (λ vs. map_exact (λ _. f vs) (sign_at 41) (IsSign 41) (λ _. NoSpace) (λ _. NoSpace) (sign_exact 41 (omega arith)) (λ s c h. h) (λ s c h. h)) (λ vs. map_text (λ _. f vs) (IsSign 41) (sign_text 41 (omega arith)))
      (λ vs a bs rest is h. heads_begin (λ b. no_close b ≡ false) (Mapped (λ _. f vs) (IsSign 41)) (map_heads (λ b. no_close b ≡ false) (λ _. f vs) (IsSign 41) (sign_heads 41 (λ b. no_close b ≡ false) refl)) a bs rest is)

  inside_text : HasText (IsInside f ts)
  inside_text = then_text (AreLiterals ts) (λ vs. Mapped (λ _. f vs) (IsSign 41)) (all_some ts) (λ vs. map_text (λ _. f vs) (IsSign 41) (sign_text 41 (omega arith)))

  all_head : (us : Kinds) (vs : Vals) (front last : List ℕ) → AreLiterals us vs front → Head last → Head (front ++ last)
  all_head end none front last is h = subst (λ (l : List ℕ). Head (l ++ last)) (sym is) h
  all_head end (and v vs) front last is h = absurd is
  all_head (more t us) none front last is h = absurd is
  all_head (more t us) (and v vs) front last (first, rest, lit, further, e) h =
      let p = literal_heads t v first lit in
      (p.0, (p.1 ++ rest) ++ last, ap (λ l. l ++ last) (e ∙ ap (λ l. l ++ rest) p.2), p.3)

  inside_heads : Heads NoSpace (IsInside f ts)
  inside_heads a bs (vs, front, last, is, (u, sign, same), e) =
      let p = all_head ts vs front last is (41, replicate sign.0 32, sign.1, refl) in
      (p.0, p.1, e ∙ p.2, p.3)

  pub between_exact : Exact (then_read (sign_at 40) (λ _. inside_at)) (IsBetween f ts) (λ _. NoSpace)
  between_exact = next_exact (sign_at 40) (λ _. inside_at) (IsSign 40) (λ _. (IsInside f ts)) (λ _. NoSpace) (sign_exact 40 (omega arith)) (λ _. inside_exact) (λ _. inside_text) (λ _. inside_heads)

tuple_to : (ts : Kinds) (v : Val) (bs : List ℕ) → Then (IsSign 40) (λ _. Then (AreLiterals ts) (λ vs. Mapped (λ _. values vs) (IsSign 41))) v bs → IsLiteral (tuple ts) v bs
tuple_to ts v bs (u, left, behind, sign, (vs, inside, right, all, (w, last, same), e), f) =
    subst (λ (x : Val). IsLiteral (tuple ts) x bs) (sym same) (left, inside, right, sign, all, last, f ∙ ap (λ l. left ++ l) e)

tuple_from : (ts : Kinds) (v : Val) (bs : List ℕ) → IsLiteral (tuple ts) v bs → Then (IsSign 40) (λ _. Then (AreLiterals ts) (λ vs. Mapped (λ _. values vs) (IsSign 41))) v bs
tuple_from ts (number z) bs is = absurd is
tuple_from ts (bytes b) bs is = absurd is
tuple_from ts (truth b) bs is = absurd is
tuple_from ts (values vs) bs (left, inside, right, sign, all, last, e) = (tt, left, inside ++ right, sign, (vs, inside, right, all, (tt, last, refl), refl), e)

list_to : (ts : Kinds) (vs : Vals) (bs : List ℕ) → Then (IsSign 40) (λ _. Then (AreLiterals ts) (λ ws. Mapped (λ _. ws) (IsSign 41))) vs bs → IsList ts vs bs
list_to ts vs bs (u, left, behind, sign, (ws, inside, right, all, (w, last, same), e), f) =
    subst (λ (x : Vals). IsList ts x bs) (sym same) (left, inside, right, sign, all, last, f ∙ ap (λ l. left ++ l) e)

list_from : (ts : Kinds) (vs : Vals) (bs : List ℕ) → IsList ts vs bs → Then (IsSign 40) (λ _. Then (AreLiterals ts) (λ ws. Mapped (λ _. ws) (IsSign 41))) vs bs
list_from ts vs bs (left, inside, right, sign, all, last, e) = (tt, left, inside ++ right, sign, (vs, inside, right, all, (tt, last, refl), refl), e)

mutual
  pub value_exact : (t : Kind) → Exact (value_at t) (IsLiteral t) (λ _ b. Follow t b)
  value_exact tiny = number_kind_exact (IsLiteral tiny) (λ z bs h. h) tiny_from
  value_exact small = number_kind_exact (IsLiteral small) (λ z bs h. h) small_from
  value_exact int = number_kind_exact (IsLiteral int) (λ z bs h. h) int_from
  value_exact big = number_kind_exact (IsLiteral big) (λ z bs h. h) big_from
  value_exact text = text_value_exact
  value_exact blob = blob_value_exact
  value_exact boolean = truth_value_exact
  value_exact (tuple ts) = exact_as (value_at (tuple ts)) (IsBetween values ts) (IsLiteral (tuple ts)) (λ _. NoSpace) (between_exact values ts (all_exact ts)) (tuple_to ts) (tuple_from ts)
  value_exact (reversed t) = value_exact t

  pub all_exact : (ts : Kinds) → Exact (all_at ts) (AreLiterals ts) Closes
  all_exact end = exact_as (ends no_close none) (IsEnd none) (AreLiterals end) Closes (ends_exact no_close none) end_to end_from
  all_exact (more t ts) = more_all t ts (value_exact t) (rest_exact ts)

  pub rest_exact : (ts : Kinds) → Exact (rest_at ts) (AreFurther ts) Closes
  rest_exact end = exact_as (ends no_close none) (IsEnd none) (AreFurther end) Closes (ends_exact no_close none) further_to further_from
  rest_exact (more t ts) = more_rest t ts (value_exact t) (rest_exact ts)

pub list_exact : (ts : Kinds) → Exact (list_at ts) (IsList ts) (λ _. NoSpace)
list_exact ts = exact_as (list_at ts) (IsBetween (λ vs. vs) ts) (IsList ts) (λ _. NoSpace) (between_exact (λ vs. vs) ts (all_exact ts)) (list_to ts) (list_from ts)

-- ---- behind spaces

pub list_heads : (ts : Kinds) → Heads NoSpace (IsList ts)
list_heads ts vs bs h = (40, replicate h.3.0 32 ++ (h.1 ++ h.2), h.6 ∙ ap (λ l. l ++ (h.1 ++ h.2)) h.3.1, refl)

pub list_some : (ts : Kinds) → HasText (IsList ts)
list_some ts =
    let h = all_some ts in
    (h.0, 40 ∷ (h.1 ++ 41 ∷ []), (codes "(", h.1, codes ")", (0, refl), h.2, (0, refl), refl), (omega arith, bytes_both h.1 (codes ")") h.3 (are_bytes (codes ")") refl)))

module _ {A : Type 0} (r : Read A) (Is : A → List ℕ → Type 0) (follow : A → ℕ → Type 0) (one : Exact r Is follow) (heads : Heads NoSpace Is) (some : HasText Is) where
  abbrev pub spaced_at : Read A
  spaced_at = then_read spaces_at (λ _. r)

  text_to : (a : A) (bs : List ℕ) → Then AreSpaces (λ _. Is) a bs → IsText Is a bs
  text_to a bs (u, spaces, rest, is, h, e) = (is.0, rest, e ∙ ap (λ l. l ++ rest) is.1, h)

  text_from : (a : A) (bs : List ℕ) → IsText Is a bs → Then AreSpaces (λ _. Is) a bs
  text_from a bs (n, rest, e, h) = (tt, replicate n 32, rest, (n, refl), h, e)

  pub text_exact : Exact spaced_at (IsText Is) follow
  text_exact = exact_as spaced_at (Then AreSpaces (λ _. Is)) (IsText Is) follow (next_exact spaces_at (λ _. r) AreSpaces (λ _. Is) follow spaces_exact (λ _. one) (λ _. some) (λ _. heads)) text_to text_from

pub value_text_exact : (t : Kind) → Exact (then_read spaces_at (λ _. value_at t)) (IsText (IsLiteral t)) (λ _ b. Follow t b)
value_text_exact t = text_exact (value_at t) (IsLiteral t) (λ _ b. Follow t b) (value_exact t) (literal_heads t) (value_some t)

pub list_text_exact : (ts : Kinds) → Exact (then_read spaces_at (λ _. list_at ts)) (IsText (IsList ts)) (λ _. NoSpace)
list_text_exact ts = text_exact (list_at ts) (IsList ts) (λ _. NoSpace) (list_exact ts) (list_heads ts) (list_some ts)
