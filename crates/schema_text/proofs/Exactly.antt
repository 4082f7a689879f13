-- Types are read exactly, by induction on the fuel.
use Rattle.std.proofs.Common.{◌≡◌, ℕ, zero, suc, ◌==◌, Bool, true, false, List, [], ◌∷◌, ◌++◌, Err, Option, Some, None, refl, sym, ◌∙◌, ap, arith, subst, append_assoc, inl, inr}
use Rattle.std.specs.Prelude.{codes}
use Rattle.std.proofs.lemmas.Bool.Decides.{nat_tests}
use Rattle.key_types.specs.Kinds.{Kind, int, tuple, Kinds, end, more}
use Rattle.grammar.specs.Exact.{Read, Exact, NextIs}
use Rattle.grammar.specs.Reading.{then_read, Then, is_letter, AfterGap, map_read, Mapped, ends, IsEnd, token, IsToken, sign_at, IsSign, NoSpace}
use Rattle.grammar.proofs.Octets.{are_bytes}
use Rattle.grammar.proofs.Bind.{bind_exact}
use Rattle.grammar.proofs.Choice.{either_exact}
use Rattle.grammar.proofs.Map.{map_exact}
use Rattle.grammar.proofs.Perhaps.{perhaps_exact}
use Rattle.grammar.proofs.Tokens.{token_exact, token_heads, ends_exact}
use Rattle.grammar.proofs.Choices.{AfterWord, one_of_exact}
use Rattle.grammar.proofs.Signs.{sign_exact, next_exact, Heads, sign_heads, then_heads, map_heads, heads_begin, begins_as, empty_begins, HasText, sign_text, token_text, end_text, map_text, then_text}
use Rattle.schema_text.specs.Reading.{simple_at, tuple_by, is_r, turn_at, type_with, no_type_end, type_closing_at, kind_by, no_types_close, listed, more_by, behind_by, base_at, types_at}
use Rattle.schema_text.proofs.Relation.{first_type, other_types, IsSimple, IsTupleOf, IsTuple, IsTurn, IsClosing, IsKindBy, IsFurther, IsMoreBy, IsBehind, IsBase, IsTypes}

-- ---- bytes

end_space : (b : ℕ) → no_type_end b ≡ false → (b == 32) ≡ false
end_space b h = grind (arith, nat_tests)

end_letter : (b : ℕ) → no_type_end b ≡ false → is_letter b ≡ false
end_letter b h = grind (arith, nat_tests)

end_r : (b : ℕ) → no_type_end b ≡ false → is_r b ≡ false
end_r b h = grind (arith, nat_tests)

close_end : (b : ℕ) → no_types_close b ≡ false → no_type_end b ≡ false
close_end b h = grind (arith, nat_tests)

close_comma : (b : ℕ) → no_types_close b ≡ false → (b == 44) ≡ false
close_comma b h = grind (arith, nat_tests)

letter_space : (b : ℕ) → is_letter b ≡ true → NoSpace b
letter_space b h = grind (arith, nat_tests)

pub gap_end : (s : Bool) (b : ℕ) → no_type_end b ≡ false → AfterGap true s b
gap_end true b h = end_space b h
gap_end false b h = (end_space b h, end_letter b h)

abbrev pub Letter : ℕ → Type 0
Letter b = is_letter b ≡ true

pub as_letters : {A : Type 0} (Is : A → List ℕ → Type 0) → Heads Letter Is → Heads NoSpace Is
as_letters Is h a bytes is = let p = h a bytes is in (p.0, p.1, p.2, letter_space p.0 p.3)

-- ---- the types of one word

simple_exact : Exact simple_at IsSimple AfterWord
simple_exact = one_of_exact first_type other_types
    (are_bytes (codes "tinyint") refl, (are_bytes (codes "smallint") refl, (are_bytes (codes "int") refl, (are_bytes (codes "bigint") refl, (are_bytes (codes "text") refl, (are_bytes (codes "blob") refl, are_bytes (codes "boolean") refl)))))) refl

pub token_letter : (c : ℕ) (cs : List ℕ) → is_letter c ≡ true → Heads Letter (IsToken (c ∷ cs))
token_letter c cs e s bytes is = let p = token_heads (c ∷ cs) s bytes is in (c, cs ++ p.0, p.1, e)

simple_heads : Heads Letter IsSimple
simple_heads a bytes (inl is) = token_letter 116 _ refl is.0 bytes is.1
simple_heads a bytes (inr (inl is)) = token_letter 115 _ refl is.0 bytes is.1
simple_heads a bytes (inr (inr (inl is))) = token_letter 105 _ refl is.0 bytes is.1
simple_heads a bytes (inr (inr (inr (inl is)))) = token_letter 98 _ refl is.0 bytes is.1
simple_heads a bytes (inr (inr (inr (inr (inl is))))) = token_letter 116 _ refl is.0 bytes is.1
simple_heads a bytes (inr (inr (inr (inr (inr (inl is)))))) = token_letter 98 _ refl is.0 bytes is.1
simple_heads a bytes (inr (inr (inr (inr (inr (inr is)))))) = token_letter 98 _ refl is.0 bytes is.1

simple_text : HasText IsSimple
simple_text = let t = token_text (codes "int") (are_bytes (codes "int") refl) in ((int, t.0), t.1, inr (inr (inl (t.0, t.2, refl))), t.3)

-- ---- `reversed`, or nothing

abbrev AfterTurn : Option Bool → ℕ → Type 0
AfterTurn None b = is_r b ≡ false
AfterTurn (Some s) b = AfterGap true s b

abbrev reversed_read : Read (Option Bool)
reversed_read = map_read Some (token true (codes "reversed"))

reversed_exact : Exact reversed_read (Mapped Some (IsToken (codes "reversed"))) AfterTurn
reversed_exact = map_exact Some (token true (codes "reversed")) (IsToken (codes "reversed")) (AfterGap true) AfterTurn (token_exact true (codes "reversed") (are_bytes (codes "reversed") refl)) (λ s c h. h) (λ s c h. h)

weaken : Exact {A = Option Bool} (ends is_r None) (IsEnd None) (λ _ b. is_r b ≡ false) → Exact {A = Option Bool} (ends is_r None) (IsEnd None) AfterTurn
weaken one = record {
  found = one.found;
  all = λ o front rest is h. one.all o front rest is (subst (λ (x : Option Bool). NextIs (AfterTurn x) rest → NextIs (λ b. is_r b ≡ false) rest) (sym is.0) (λ k. k) h);
  next = λ bytes o b bs h.
      let p = one.found bytes o (b ∷ bs) h in
      subst (λ (x : Option Bool). AfterTurn x b) (sym p.2.0) (one.next bytes o b bs h);
  stops = one.stops;
}

turn_exact : (s : Bool) → Exact (turn_at s) (IsTurn s) AfterTurn
turn_exact true = perhaps_exact 114 None reversed_read (Mapped Some (IsToken (codes "reversed"))) AfterTurn AfterTurn reversed_exact
    (λ o bytes is. let p = token_heads (codes "reversed") is.0 bytes is.1 in (codes "eversed" ++ p.0, p.1))
    (λ o bytes is b h. h) (λ bytes o rest e b h. h) (λ b h. h) (λ b h. h)
turn_exact false = weaken (ends_exact is_r None)

turn_text : (s : Bool) → HasText (IsTurn s)
turn_text true = (None, [], inr (refl, refl), tt)
turn_text false = (None, [], (refl, refl), tt)

turn_end : (o : Option Bool) (b : ℕ) → no_type_end b ≡ false → AfterTurn o b
turn_end None b h = end_r b h
turn_end (Some s) b h = gap_end s b h

-- ---- a type, from what it is made of

abbrev pub AfterKind : Kind → ℕ → Type 0
AfterKind _ b = no_type_end b ≡ false

closing_exact : (x : Kind × Bool) → Exact (type_closing_at x.1 x.0) (IsClosing x) AfterKind
closing_exact x = bind_exact (turn_at x.1) (λ o. ends no_type_end (type_with o x.0)) (IsTurn x.1) (λ o. IsEnd (type_with o x.0)) AfterTurn AfterKind
    (turn_exact x.1) (λ o. ends_exact no_type_end (type_with o x.0)) (λ o. end_text (type_with o x.0))
    (λ o k bytes rest is h. empty_begins (AfterTurn o) bytes rest is.1 (begins_as (λ b. no_type_end b ≡ false) (AfterTurn o) (turn_end o) rest h))

turn_begins : (s : Bool) (o : Option Bool) (front after : List ℕ) → IsTurn s o front → NextIs (AfterGap true s) after → NextIs (AfterGap true s) (front ++ after)
turn_begins true o front after (inl is) h = let p = token_heads (codes "reversed") is.0 front is.1 in subst (λ (l : List ℕ). NextIs (AfterGap true true) (l ++ after)) (sym p.1) refl
turn_begins true o front after (inr is) h = empty_begins (AfterGap true true) front after is.1 h
turn_begins false o front after is h = empty_begins (AfterGap true false) front after is.1 h

closing_begins : (x : Kind × Bool) (t : Kind) (bytes rest : List ℕ) → IsClosing x t bytes → NextIs (AfterKind t) rest → NextIs (AfterWord x) (bytes ++ rest)
closing_begins x t bytes rest is h =
    let ending = empty_begins (AfterWord x) is.2 rest is.4.1 (begins_as (λ b. no_type_end b ≡ false) (AfterWord x) (gap_end x.1) rest h) in
    subst (λ (l : List ℕ). NextIs (AfterWord x) (l ++ rest)) (sym is.5)
    (subst (λ (l : List ℕ). NextIs (AfterWord x) l) (sym (append_assoc is.1 is.2 rest)) (turn_begins x.1 is.0 is.1 (is.2 ++ rest) is.3 ending))

pub kind_exact : (base : Read (Kind × Bool)) (Base : Kind × Bool → List ℕ → Type 0) → Exact base Base AfterWord → Exact (kind_by base) (IsKindBy Base) AfterKind
kind_exact base Base one = bind_exact base (λ x. type_closing_at x.1 x.0) Base IsClosing AfterWord AfterKind
    one closing_exact (λ x. then_text (IsTurn x.1) (λ o. IsEnd (type_with o x.0)) (turn_text x.1) (λ o. end_text (type_with o x.0))) closing_begins

-- ---- lists of types

abbrev pub AfterKinds : Kinds → ℕ → Type 0
AfterKinds _ b = no_types_close b ≡ false

-- what stands behind a further type
abbrev AfterMore : Option Kinds → ℕ → Type 0
AfterMore None b = (b == 44) ≡ false
AfterMore (Some ts) b = no_types_close b ≡ false

abbrev comma_then : Read Kinds → Read Kinds
comma_then types = then_read (sign_at 44) (λ _. types)

more_exact : (types : Read Kinds) (Types : Kinds → List ℕ → Type 0) → Exact types Types AfterKinds → Heads Letter Types → HasText Types → Exact (more_by types) (IsMoreBy Types) AfterMore
more_exact types Types one heads some = perhaps_exact 44 None (map_read Some (comma_then types)) (IsFurther Types) AfterMore AfterMore
    (map_exact Some (comma_then types) (Then (IsSign 44) (λ _. Types)) AfterKinds AfterMore
    (next_exact (sign_at 44) (λ _. types) (IsSign 44) (λ _. Types) AfterKinds (sign_exact 44 (omega arith)) (λ _. one) (λ _. some) (λ _. as_letters Types heads))
    (λ ts c h. h) (λ ts c h. h))
    (λ o bytes is. let t = is.1 in (_, t.5 ∙ ap (λ l. l ++ t.2) t.3.1))
    (λ o bytes is b h. more_follow o b bytes is h) (λ bytes o rest e b h. h) (λ b h. h) (λ b h. h)
  where
    more_follow : (o : Option Kinds) (b : ℕ) (bytes : List ℕ) → IsFurther Types o bytes → AfterMore o b → AfterMore o b
    more_follow o b bytes is h = h

more_end : (o : Option Kinds) (b : ℕ) → no_types_close b ≡ false → AfterMore o b
more_end None b h = close_comma b h
more_end (Some ts) b h = h

comma_begins : (t : Kind) (Types : Kinds → List ℕ → Type 0) (o : Option Kinds) (front after : List ℕ) → IsMoreBy Types o front → NextIs (AfterKind t) after → NextIs (AfterKind t) (front ++ after)
comma_begins t Types o front after (inl is) h = let w = is.1 in subst (λ (l : List ℕ). NextIs (AfterKind t) (l ++ after)) (sym (w.5 ∙ ap (λ l. l ++ w.2) w.3.1)) refl
comma_begins t Types o front after (inr is) h = empty_begins (AfterKind t) front after is.1 h

behind_exact : (types : Read Kinds) (Types : Kinds → List ℕ → Type 0) (t : Kind) → Exact types Types AfterKinds → Heads Letter Types → HasText Types → Exact (behind_by types t) (IsBehind Types t) AfterKinds
behind_exact types Types t one heads some = bind_exact (more_by types) (λ o. ends no_types_close (listed t o)) (IsMoreBy Types) (λ o. IsEnd (listed t o)) AfterMore AfterKinds
    (more_exact types Types one heads some) (λ o. ends_exact no_types_close (listed t o)) (λ o. end_text (listed t o))
    (λ o ks bytes rest is h. empty_begins (AfterMore o) bytes rest is.1 (begins_as (λ b. no_types_close b ≡ false) (AfterMore o) (more_end o) rest h))

behind_begins : (Types : Kinds → List ℕ → Type 0) (t : Kind) (ts : Kinds) (bytes rest : List ℕ) → IsBehind Types t ts bytes → NextIs (AfterKinds ts) rest → NextIs (AfterKind t) (bytes ++ rest)
behind_begins Types t ts bytes rest is h =
    let ending = empty_begins (AfterKind t) is.2 rest is.4.1 (begins_as (λ b. no_types_close b ≡ false) (AfterKind t) close_end rest h) in
    subst (λ (l : List ℕ). NextIs (AfterKind t) (l ++ rest)) (sym is.5)
    (subst (λ (l : List ℕ). NextIs (AfterKind t) l) (sym (append_assoc is.1 is.2 rest)) (comma_begins t Types is.0 is.1 (is.2 ++ rest) is.3 ending))

behind_text : (Types : Kinds → List ℕ → Type 0) (t : Kind) → HasText (IsBehind Types t)
behind_text Types t = (listed t None, [], (None, [], [], inr (refl, refl), (refl, refl), refl), tt)

kinds_exact : (kind : Read Kind) (AKind : Kind → List ℕ → Type 0) (types : Read Kinds) (Types : Kinds → List ℕ → Type 0) → Exact kind AKind AfterKind → Exact types Types AfterKinds → Heads Letter Types → HasText Types
    → Exact (then_read kind (behind_by types)) (Then AKind (IsBehind Types)) AfterKinds
kinds_exact kind AKind types Types one two heads some =
    bind_exact kind (behind_by types) AKind (IsBehind Types) AfterKind AfterKinds one (λ t. behind_exact types Types t two heads some) (behind_text Types) (behind_begins Types)

last_exact : (kind : Read Kind) (AKind : Kind → List ℕ → Type 0) → Exact kind AKind AfterKind → Exact (then_read kind (λ t. ends no_types_close (more t end))) (Then AKind (λ t. IsEnd (more t end))) AfterKinds
last_exact kind AKind one = bind_exact kind (λ t. ends no_types_close (more t end)) AKind (λ t. IsEnd (more t end)) AfterKind AfterKinds
    one (λ t. ends_exact no_types_close (more t end)) (λ t. end_text (more t end))
    (λ t ks bytes rest is h. empty_begins (AfterKind t) bytes rest is.1 (begins_as (λ b. no_types_close b ≡ false) (AfterKind t) close_end rest h))

-- ---- tuples

open_gap : (s : Bool) → AfterGap true s 60
open_gap true = refl
open_gap false = (refl, refl)

abbrev tuple_of : Kinds → Read (Kind × Bool)
tuple_of ts = map_read (λ _. (tuple ts, true)) (sign_at 62)

tuple_of_exact : (ts : Kinds) → Exact (tuple_of ts) (IsTupleOf ts) AfterWord
tuple_of_exact ts = map_exact (λ _. (tuple ts, true)) (sign_at 62) (IsSign 62) (λ _. NoSpace) AfterWord (sign_exact 62 (omega arith)) (λ s c h. h) (λ s c h. h)

tuple_of_text : (ts : Kinds) → HasText (IsTupleOf ts)
tuple_of_text ts = map_text (λ _. (tuple ts, true)) (IsSign 62) (sign_text 62 (omega arith))

module _ (types : Read Kinds) (Types : Kinds → List ℕ → Type 0) (one : Exact types Types AfterKinds) (heads : Heads Letter Types) (some : HasText Types) where
  abbrev inside : Read (Kind × Bool)
  inside = then_read types tuple_of

  abbrev IsInside : Kind × Bool → List ℕ → Type 0
  IsInside = Then Types IsTupleOf

  inside_exact : Exact inside IsInside AfterWord
  inside_exact = bind_exact types tuple_of Types IsTupleOf AfterKinds AfterWord one tuple_of_exact tuple_of_text
      (λ ts x bytes rest is h. heads_begin (λ b. no_types_close b ≡ false) (IsTupleOf ts) (map_heads (λ b. no_types_close b ≡ false) (λ _. (tuple ts, true)) (IsSign 62) (sign_heads 62 (λ b. no_types_close b ≡ false) refl)) x bytes rest is)

  inside_text : HasText IsInside
  inside_text = then_text Types IsTupleOf some tuple_of_text

  opened_exact : Exact (then_read (sign_at 60) (λ _. inside)) (Then (IsSign 60) (λ _. IsInside)) AfterWord
  opened_exact = next_exact (sign_at 60) (λ _. inside) (IsSign 60) (λ _. IsInside) AfterWord (sign_exact 60 (omega arith)) (λ _. inside_exact) (λ _. inside_text) (λ _. then_heads NoSpace Types IsTupleOf (as_letters Types heads))

  opened_text : HasText (Then (IsSign 60) (λ _. IsInside))
  opened_text = then_text (IsSign 60) (λ _. IsInside) (sign_text 60 (omega arith)) (λ _. inside_text)

  tuple_exact : Exact (tuple_by types) (IsTuple Types) AfterWord
  tuple_exact = bind_exact (token true (codes "tuple")) (λ _. then_read (sign_at 60) (λ _. inside)) (IsToken (codes "tuple")) (λ _. Then (IsSign 60) (λ _. IsInside)) (AfterGap true) AfterWord
      (token_exact true (codes "tuple") (are_bytes (codes "tuple") refl)) (λ _. opened_exact) (λ _. opened_text)
      (λ s x bytes rest is h. heads_begin (AfterGap true s) (Then (IsSign 60) (λ _. IsInside)) (then_heads (AfterGap true s) (IsSign 60) (λ _. IsInside) (sign_heads 60 (AfterGap true s) (open_gap s))) x bytes rest is)

-- ---- by induction on the fuel

tuple_heads : (Types : Kinds → List ℕ → Type 0) → Heads Letter (IsTuple Types)
tuple_heads Types = then_heads Letter (IsToken (codes "tuple")) (λ _. Then (IsSign 60) (λ _. Then Types IsTupleOf)) (token_letter 116 (codes "uple") refl)

pub base_heads : (fuel : ℕ) → Heads Letter (IsBase fuel)
base_heads zero a bytes is = simple_heads a bytes is
base_heads (suc fuel) a bytes (inl is) = simple_heads a bytes is
base_heads (suc fuel) a bytes (inr is) = tuple_heads (IsTypes fuel) a bytes is

pub types_heads : (fuel : ℕ) → Heads Letter (IsTypes fuel)
types_heads zero = then_heads Letter (IsKindBy IsSimple) (λ t. IsEnd (more t end)) (then_heads Letter IsSimple IsClosing simple_heads)
types_heads (suc fuel) = then_heads Letter (IsKindBy (IsBase fuel)) (IsBehind (IsTypes fuel)) (then_heads Letter (IsBase fuel) IsClosing (base_heads fuel))

base_text : (fuel : ℕ) → HasText (IsBase fuel)
base_text zero = simple_text
base_text (suc fuel) = (simple_text.0, simple_text.1, inl simple_text.2, simple_text.3)

closing_text : (x : Kind × Bool) → HasText (IsClosing x)
closing_text x = then_text (IsTurn x.1) (λ o. IsEnd (type_with o x.0)) (turn_text x.1) (λ o. end_text (type_with o x.0))

pub types_text : (fuel : ℕ) → HasText (IsTypes fuel)
types_text zero = then_text (IsKindBy IsSimple) (λ t. IsEnd (more t end)) (then_text IsSimple IsClosing simple_text closing_text) (λ t. end_text (more t end))
types_text (suc fuel) = then_text (IsKindBy (IsBase fuel)) (IsBehind (IsTypes fuel)) (then_text (IsBase fuel) IsClosing (base_text fuel) closing_text) (behind_text (IsTypes fuel))

-- a tuple is no type of one word
no_simple : (Types : Kinds → List ℕ → Type 0) (a : Kind × Bool) (bytes rest : List ℕ) → IsTuple Types a bytes → (n : ℕ) × (simple_at (bytes ++ rest) ≡ Err n)
no_simple Types a bytes rest is =
    let p = token_heads (codes "tuple") is.0 is.1 is.3 in
    (_, ap (λ l. simple_at (l ++ rest)) (is.5 ∙ ap (λ l. l ++ is.2) p.1))

mutual
  pub base_exact : (fuel : ℕ) → Exact (base_at fuel) (IsBase fuel) AfterWord
  base_exact zero = simple_exact
  base_exact (suc fuel) = either_exact simple_at (tuple_by (types_at fuel)) IsSimple (IsTuple (IsTypes fuel)) AfterWord
      simple_exact (tuple_exact (types_at fuel) (IsTypes fuel) (types_exact fuel) (types_heads fuel) (types_text fuel))
      (λ a bytes rest is h. no_simple (IsTypes fuel) a bytes rest is)

  pub types_exact : (fuel : ℕ) → Exact (types_at fuel) (IsTypes fuel) AfterKinds
  types_exact zero = last_exact (kind_by simple_at) (IsKindBy IsSimple) (kind_exact simple_at IsSimple simple_exact)
  types_exact (suc fuel) = kinds_exact (kind_by (base_at fuel)) (IsKindBy (IsBase fuel)) (types_at fuel) (IsTypes fuel)
      (kind_exact (base_at fuel) (IsBase fuel) (base_exact fuel)) (types_exact fuel) (types_heads fuel) (types_text fuel)
