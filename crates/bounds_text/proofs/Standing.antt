-- How a reading of bounds goes on from where it stands, and how it ends.
use Rattle.std.proofs.Common.{◌≡◌, ℕ, ◌<◌, ◌≤◌, List, [], ◌∷◌, ◌++◌, length, Err, refl, sym, ◌∙◌, ap, arith, subst, append_assoc, length-append}
use Rattle.std.specs.Prelude.{replicate}
use Rattle.std.proofs.lemmas.List.{append-nil}
use Rattle.std.specs.Str.{IsUtf8}
use Rattle.grammar.specs.Exact.{NextIs}
use Rattle.grammar.specs.Reading.{NoSpace, without_spaces}
use Rattle.grammar.proofs.Tokens.{skipped, skips, no_space_left}
use Rattle.key_types.specs.Columns.{Columns}
use Rattle.byte_comparable.specs.Strings.{longest_string}
use Rattle.bounds_text.specs.declared.reading.BoundsError.{BoundsError}
use Rattle.bounds_text.specs.declared.reading.BoundsError.TheVariants.{Refused, NoMemory}
use Rattle.bounds_text.specs.Bounds.{AreBoundLists, IsBoundsText, ReadsBounds, OneBoundsText}
use Rattle.bounds_text.specs.Steps.{EndsUtf8, BeginsWithBound, LacksBound, IsAboveAll, LacksPlace, HasReadBounds}
use Rattle.bounds_text.proofs.Ahead.{one_bound}
use Rattle.bounds_text.proofs.Ascending.{above, ascend_more, all_more, behind_all}
use Rattle.bounds_text.proofs.Parted.{begins, none_left, first_left, parted, one_more}

no_space : (text left : List ℕ) → without_spaces text ≡ left → NextIs NoSpace left
no_space text [] e = tt
no_space text (b ∷ bs) e = no_space_left text b bs e

module _ (columns : Columns) (text : List ℕ) where
  -- the lists of a text stand behind its spaces
  lists_of : (bounds : List (List ℕ)) → IsBoundsText columns text bounds → AreBoundLists columns.partition bounds (without_spaces text)
  lists_of bounds h =
      let (n, rest, e, lists) = h.lists in
      subst (AreBoundLists columns.partition bounds) (sym (ap without_spaces e ∙ skips n rest (begins columns.partition bounds rest lists))) lists

  pub start : HasReadBounds columns.partition text [] (without_spaces text)
  start = record {
    read = [];
    parts = refl;
    lists = refl;
    next = no_space text (without_spaces text) refl;
    short = tt;
    few = omega arith;
    ascend = λ i some inside. absurd (omega arith);
  }

  module _ (bounds : List (List ℕ)) (left : List ℕ) (stands : HasReadBounds columns.partition text bounds left) where
    pub step : (bound behind : List ℕ) → BeginsWithBound columns.partition left bound behind → length bound ≤ longest_string → length bounds < 7 → IsAboveAll bounds bound
        → HasReadBounds columns.partition text (bounds ++ bound ∷ []) behind
    step bound behind h short room high = record {
      read = stands.read ++ h.list;
      parts = stands.parts ∙ ap (λ l. stands.read ++ l) h.parts ∙ sym (append_assoc stands.read h.list behind);
      lists = one_more columns.partition bounds stands.read left bound behind stands.lists h;
      next = h.next;
      short = all_more (λ bound. length bound ≤ longest_string) bounds bound stands.short short;
      few = let l = length-append bounds (bound ∷ []) in omega arith;
      ascend = ascend_more bounds bound stands.ascend high;
    }

    pub finish : left ≡ [] → IsBoundsText columns text bounds
    finish none =
        let p = skipped text in
        let e : without_spaces text ≡ stands.read = stands.parts ∙ ap (λ l. stands.read ++ l) none ∙ append-nil stands.read in
        record { lists = (p.0, without_spaces text, p.1, subst (AreBoundLists columns.partition bounds) (sym e) stands.lists); short = stands.short; few = stands.few; ascend = stands.ascend }

    -- the bytes left end the text
    pub ends_utf8 : IsUtf8 text → EndsUtf8 left
    ends_utf8 utf8 =
        let p = skipped text in
        let spaces = replicate p.0 32 in
        (spaces ++ stands.read, subst IsUtf8 (p.1 ∙ ap (λ l. spaces ++ l) stands.parts ∙ sym (append_assoc spaces stands.read left)) utf8)

    -- the bounds of the text are those read, and those of the bytes left
    rest_of : (all : List (List ℕ)) → IsBoundsText columns text all → (more : List (List ℕ)) × (all ≡ bounds ++ more) × AreBoundLists columns.partition more left
    rest_of all h = parted columns.partition bounds all stands.read left stands.lists stands.next (subst (AreBoundLists columns.partition all) stands.parts (lists_of all h))

    -- where some bytes are left, there is one more bound
    next_of : (all : List (List ℕ)) → IsBoundsText columns text all → (left ≡ [] → ⊥)
        → (bound : List ℕ) × (more : List (List ℕ)) × (behind : List ℕ) × (all ≡ bounds ++ bound ∷ more) × BeginsWithBound columns.partition left bound behind
    next_of all h some =
        let (rest, e, lists) = rest_of all h in
        let (bound, more, behind, f, k) = first_left columns.partition rest left lists some in
        (bound, more, behind, e ∙ ap (λ l. bounds ++ l) f, k)

    -- no bound at the front of bytes, or none that may follow those read: the text is none of bounds
    pub none_found : (e : BoundsError) → (left ≡ [] → ⊥) → LacksBound columns.partition left e → ReadsBounds columns text (Err e)
    none_found NoMemory some h = tt
    none_found Refused some h = λ all is.
        let (bound, more, behind, e, k) = next_of all is some in
        h bound behind k (behind_all (λ bound. length bound ≤ longest_string) bounds more bound (subst (IsBoundsText columns text) e is).short)

    pub none_added : (bound behind : List ℕ) (e : BoundsError) → BeginsWithBound columns.partition left bound behind → length behind < length left → LacksPlace bounds bound e → ReadsBounds columns text (Err e)
    none_added bound behind NoMemory k less h = tt
    none_added bound behind Refused k less h = λ all is.
        let (next, more, others, e, l) = next_of all is (λ none. (let n = ap length none in omega arith)) in
        let here = subst (IsBoundsText columns text) e is in
        let count = length-append bounds (next ∷ more) in
        let few = here.few in
        h (omega arith) (subst (IsAboveAll bounds) (one_bound columns.partition left next bound others behind l k).0 (above bounds more next here.ascend))

pub one_text : OneBoundsText
one_text columns text bounds others h k =
    let stands : HasReadBounds columns.partition text bounds [] = record {
      read = without_spaces text;
      parts = sym (append-nil (without_spaces text));
      lists = lists_of columns text bounds h;
      next = tt;
      short = h.short;
      few = h.few;
      ascend = h.ascend;
    } in
    let (more, e, lists) = rest_of columns text bounds [] stands others k in
    sym (e ∙ ap (λ l. bounds ++ l) (none_left columns.partition more lists) ∙ append-nil bounds)
