-- Lines that say something are read exactly, and their first number is marked that passes its type.
use Rattle.std.proofs.Common.{◌≡◌, ℕ, ◌==◌, Bool, true, false, List, [], ◌∷◌, ◌++◌, Option, Some, None, refl, sym, ◌∙◌, ap, arith, subst, append_assoc, inl, inr}
use Rattle.std.specs.Prelude.{⊤, codes, replicate}
use Rattle.std.proofs.lemmas.List.{append-nil}
use Rattle.grammar.specs.Exact.{Read, Exact, NextIs}
use Rattle.grammar.specs.Reading.{by_first, Either, Mapped, map_read, token, IsToken, AfterGap, sign_at, IsSign, IsEnd, NoSpace, then_read, spaces_at}
use Rattle.grammar.proofs.Octets.{are_bytes}
use Rattle.grammar.proofs.Tokens.{token_exact, token_heads, ends_exact}
use Rattle.grammar.proofs.First.{first_exact}
use Rattle.grammar.proofs.Map.{map_exact}
use Rattle.grammar.proofs.Signs.{sign_exact, Heads, heads_begin, HasText, end_text}
use Rattle.key_types.specs.declared.schema.ValueType.{ValueType}
use Rattle.key_types.specs.declared.schema.ValueType.TheVariants.{Text, Blob}
use Rattle.key_types.specs.Kinds.{text, blob, Val, bytes, Vals, AreBytes}
use Rattle.key_text.specs.Grammar.{IsLiteral, IsText}
use Rattle.key_text.specs.Outside.{NumbersFit, AllNumbersFit, ValuePasses}
use Rattle.key_text.specs.Reading.{no_end}
use Rattle.key_text.specs.Marking.{marked_at}
use Rattle.key_text.proofs.Plain.{value_at}
use Rattle.key_text.proofs.Composed.{exact_as}
use Rattle.key_text.proofs.Lists.{value_exact, literal_heads, text_exact}
use Rattle.key_text.proofs.Tracked.{Tracks, value_tracked}
use Rattle.key_types.specs.Columns.{Columns}
use Rattle.byte_comparable.specs.Order.{Key}
use Rattle.script_text.specs.Grammar.{LineText, no_text, put_text, get_text, sync_text, value_kind, IsSet, IsPut, IsGet, IsCommand}
use Rattle.script_text.specs.Passing.{CommandPasses}
use Rattle.script_text.specs.Reading.{KeyedText, unmarked, any_byte, line_end_at, asked_at, set_at, verb_at, put_said, get_said, put_said_at, get_said_at, sync_said_at, is_p, is_g, command_at}
use Rattle.script_text.proofs.Paired.{both, Both, both_exact, Never, unmarked_tracked, mapped_tracked, first_tracked, paired_tracked}
use Rattle.script_text.proofs.Keys as keys
use Rattle.script_text.proofs.Keys.{RowNumbers}

-- ---- what is set

-- what may stand behind a value
abbrev Closing : ℕ → Type 0
Closing b = no_end b ≡ false

abbrev plain_set : ValueType → Read Val
plain_set t = both (λ _ v. v) (sign_at 61) (value_at (value_kind t))

column_exact : (t : ValueType) → Exact (value_at (value_kind t)) (IsLiteral (value_kind t)) (λ _. Closing)
column_exact Text = value_exact text
column_exact Blob = value_exact blob

column_text : (t : ValueType) → HasText (IsLiteral (value_kind t))
column_text Text = (bytes [], codes "''", (codes "''", 0, refl, refl), are_bytes (codes "''") refl)
column_text Blob = (bytes [], codes "0x", (codes "0x", 0, ([], refl, refl), refl), are_bytes (codes "0x") refl)

set_to : (t : ValueType) (v : Val) (bs : List ℕ) → Both (λ _ w. w) (IsSign 61) (IsLiteral (value_kind t)) v bs → IsSet t v bs
set_to t v bs (u, equals, value, sign, (w, lit, same), e) = (equals, value, sign, subst (λ (x : Val). IsLiteral (value_kind t) x value) (sym same) lit, e)

set_from : (t : ValueType) (v : Val) (bs : List ℕ) → IsSet t v bs → Both (λ _ w. w) (IsSign 61) (IsLiteral (value_kind t)) v bs
set_from t v bs (equals, value, sign, lit, e) = (tt, equals, value, sign, (v, lit, refl), e)

pub set_exact : (t : ValueType) → Exact (plain_set t) (IsSet t) (λ _. Closing)
set_exact t = exact_as (plain_set t) (Both (λ _ w. w) (IsSign 61) (IsLiteral (value_kind t))) (IsSet t) (λ _. Closing)
    (both_exact (λ _ w. w) (sign_at 61) (value_at (value_kind t)) (IsSign 61) (IsLiteral (value_kind t)) (λ _. NoSpace) Closing (sign_exact 61 (omega arith)) (column_exact t) (column_text t)
    (λ u v bs rest is h. heads_begin NoSpace (IsLiteral (value_kind t)) (literal_heads (value_kind t)) v bs rest is)) (set_to t) (set_from t)

pub set_text : (t : ValueType) → HasText (IsSet t)
set_text t = let h = column_text t in (h.0, 61 ∷ h.1, (61 ∷ [], h.1, (0, refl), h.2, refl), (omega arith, h.3))

set_heads : (t : ValueType) (Holds : ℕ → Type 0) → Holds 61 → Heads Holds (IsSet t)
set_heads t Holds h v bs is = (61, replicate is.2.0 32 ++ is.1, is.4 ∙ ap (λ l. l ++ is.1) is.2.1, h)

no_number : (t : ValueType) (bs : List ℕ) (at : ℕ) → ValuePasses (value_kind t) bs at → ⊥
no_number Text bs at h = h.1.2
no_number Blob bs at h = h.1.2

pub set_tracked : (t : ValueType) → Tracks (IsSet t) Never (λ _. ⊤) (set_at t) (plain_set t)
set_tracked t = paired_tracked (λ _ w. w) (unmarked (sign_at 61)) (marked_at (value_kind t)) (sign_at 61) (value_at (value_kind t)) (IsSign 61) (IsLiteral (value_kind t)) (IsSet t) Never (ValuePasses (value_kind t)) Never
    (λ _. ⊤) (NumbersFit (value_kind t)) (λ _. ⊤)
    (unmarked_tracked (sign_at 61) (IsSign 61) (λ _. NoSpace) (sign_exact 61 (omega arith))) (value_tracked (value_kind t))
    (λ u v front behind sign lit. (front, behind, sign, lit, refl)) (λ u v h k. tt) (λ v front behind at h is. h) (λ u front behind at is h k. no_number t behind at k)

after_word : (spaced : Bool) → AfterGap true spaced 61
after_word true = refl
after_word false = (refl, refl)

pub set_begins : (t : ValueType) (spaced : Bool) (v : Val) (bs rest : List ℕ) → IsSet t v bs → NextIs Closing rest → NextIs (AfterGap true spaced) (bs ++ rest)
set_begins t spaced v bs rest is h = heads_begin (AfterGap true spaced) (IsSet t) (set_heads t (AfterGap true spaced) (after_word spaced)) v bs rest is

-- ---- the end of a line

-- nothing may stand behind it
abbrev Nothing : ℕ → Type 0
Nothing b = any_byte b ≡ false

pub end_exact : Exact line_end_at (IsEnd tt) (λ _. Nothing)
end_exact = ends_exact any_byte tt

pub end_tracked : Tracks (IsEnd tt) Never (λ _. ⊤) (unmarked line_end_at) line_end_at
end_tracked = unmarked_tracked line_end_at (IsEnd tt) (λ _. Nothing) end_exact

pub end_begins : (spaced : Bool) (v : ⊤) (bs rest : List ℕ) → IsEnd tt v bs → NextIs Nothing rest → NextIs (AfterGap true spaced) (bs ++ rest)
end_begins spaced v bs [] is h = subst (λ (l : List ℕ). NextIs (AfterGap true spaced) (l ++ [])) (sym is.1) tt
end_begins spaced v bs (b ∷ rest) is h = cc

-- ---- what a line says

module _ (s : Columns) where
  -- all numbers of a key fit
  abbrev pub KeyNumbers : Key → Type 0
  KeyNumbers key = AllNumbersFit s.partition key.partition × RowNumbers s key.clustering

  -- so of a line
  abbrev pub LineNumbers : LineText → Type 0
  LineNumbers no_text = Unit {0}
  LineNumbers (put_text p) = KeyNumbers p.key
  LineNumbers (get_text key) = KeyNumbers key
  LineNumbers sync_text = Unit {0}

  -- what may stand behind it
  abbrev pub AfterLine : LineText → ℕ → Type 0
  AfterLine no_text b = ⊥
  AfterLine (put_text p) b = Closing b
  AfterLine (get_text key) b = Nothing b
  AfterLine sync_text b = Nothing b

  -- ---- that it puts

  pub put_octets : AreBytes (codes "put")
  put_octets = are_bytes (codes "put") refl

  abbrev PutIs : KeyedText Val → List ℕ → Type 0
  PutIs = keys.VerbIs s set_at plain_set IsSet Closing set_exact set_tracked set_text set_begins (codes "put") put_octets

  abbrev PutNumbersPass : List ℕ → ℕ → Type 0
  PutNumbersPass = keys.VerbPasses s set_at plain_set IsSet Closing set_exact set_tracked set_text set_begins (codes "put") put_octets

  abbrev plain_put : Read (KeyedText Val)
  plain_put = keys.plain_verb s set_at plain_set IsSet Closing set_exact set_tracked set_text set_begins (codes "put") put_octets

  put_to : (x : KeyedText Val) (bs : List ℕ) → PutIs x bs → IsCommand s (put_said x) bs
  put_to (vs, (Some cs, v)) bs (word, behind, w, (list, rest, l, (row, set, r, is, e), f), g) =
      (s.value, word, list ++ row, set, w, (list, row, l, r, refl), refl, is, g ∙ ap (λ x. word ++ x) (f ∙ ap (λ x. list ++ x) e ∙ sym (append_assoc list row set)))
  put_to (vs, (None, v)) bs (word, behind, w, (list, rest, l, (t, static, set, fixed, k, is, e), f), g) =
      (t, word, list ++ static, set, w, (list, static, l, (t, fixed, k), refl), fixed, is, g ∙ ap (λ x. word ++ x) (f ∙ ap (λ x. list ++ x) e ∙ sym (append_assoc list static set)))

  put_from_by : (vs : Vals) (cs : Option Vals) (v : Val) (bs : List ℕ) → IsPut s (record { key = record { partition = vs; clustering = cs }; value = v }) bs → PutIs (vs, (cs, v)) bs
  put_from_by vs (Some cs) v bs (t, word, key, set, w, (list, row, l, r, e), typed, is, f) = (
    word,
    list ++ (row ++ set),
    w,
    (list, row ++ set, l, (row, set, r, subst (λ (x : ValueType). IsSet x v set) typed is, refl), refl),
    f ∙ ap (λ x. word ++ x) (ap (λ x. x ++ set) e ∙ append_assoc list row set),
  )
  put_from_by vs None v bs (t, word, key, set, w, (list, static, l, (u, some, k), e), typed, is, f) = (
    word,
    list ++ (static ++ set),
    w,
    (list, static ++ set, l, (t, static, set, typed, k, is, refl), refl),
    f ∙ ap (λ x. word ++ x) (ap (λ x. x ++ set) e ∙ append_assoc list static set),
  )

  put_passes : (bs : List ℕ) (at : ℕ) → PutNumbersPass bs at → CommandPasses s bs at
  put_passes bs at (word, behind, k, w, (list, rest, f, inl (h, Some cs, v, (row, set, r, is, e))), g, place) = inl (
    s.value,
    word,
    list ++ row,
    set,
    k,
    v,
    w,
    (list, row, refl, inl (h, Some cs, r, refl)),
    is,
    g ∙ ap (λ x. word ++ x) (f ∙ ap (λ x. list ++ x) e ∙ sym (append_assoc list row set)),
    place,
  )
  put_passes bs at (word, behind, k, w, (list, rest, f, inl (h, None, v, (t, static, set, fixed, q, is, e))), g, place) = inl (
    t,
    word,
    list ++ static,
    set,
    k,
    v,
    w,
    (list, static, refl, inl (h, None, (t, fixed, q), fixed)),
    is,
    g ∙ ap (λ x. word ++ x) (f ∙ ap (λ x. list ++ x) e ∙ sym (append_assoc list static set)),
    place,
  )
  put_passes bs at (word, behind, k, w, (list, rest, f, inr (vs, j, l, n, (row, set, v, e, h, is), same)), g, place) = inl (
    s.value,
    word,
    list ++ row,
    set,
    k,
    v,
    w,
    (list, row, refl, inr (vs, j, l, n, h, refl, same)),
    is,
    g ∙ ap (λ x. word ++ x) (f ∙ ap (λ x. list ++ x) e ∙ sym (append_assoc list row set)),
    place,
  )

  put_exact : Exact (map_read put_said plain_put) (Mapped put_said PutIs) AfterLine
  put_exact = map_exact put_said plain_put PutIs (λ _. Closing) AfterLine (keys.verb_exact s set_at plain_set IsSet Closing set_exact set_tracked set_text set_begins (codes "put") put_octets) (λ x c h. h) (λ x c h. h)

  put_tracked : Tracks (IsCommand s) (CommandPasses s) LineNumbers (put_said_at s) (map_read put_said plain_put)
  put_tracked = mapped_tracked put_said (verb_at s set_at (codes "put")) plain_put PutIs (IsCommand s) PutNumbersPass (CommandPasses s)
      (keys.KeyedNumbers s set_at plain_set IsSet Closing set_exact set_tracked set_text set_begins) LineNumbers
      (keys.verb_tracked s set_at plain_set IsSet Closing set_exact set_tracked set_text set_begins (codes "put") put_octets) put_to put_passes (λ x h. h)

  -- ---- that it asks

  pub get_octets : AreBytes (codes "get")
  get_octets = are_bytes (codes "get") refl

  abbrev ended : ValueType → Read ⊤
  ended t = line_end_at

  abbrev IsEnded : ValueType → ⊤ → List ℕ → Type 0
  IsEnded t = IsEnd tt

  abbrev GetIs : KeyedText ⊤ → List ℕ → Type 0
  GetIs = keys.VerbIs s asked_at ended IsEnded Nothing (λ t. end_exact) (λ t. end_tracked) (λ t. end_text tt) (λ t. end_begins) (codes "get") get_octets

  abbrev GetNumbersPass : List ℕ → ℕ → Type 0
  GetNumbersPass = keys.VerbPasses s asked_at ended IsEnded Nothing (λ t. end_exact) (λ t. end_tracked) (λ t. end_text tt) (λ t. end_begins) (codes "get") get_octets

  abbrev plain_get : Read (KeyedText ⊤)
  plain_get = keys.plain_verb s asked_at ended IsEnded Nothing (λ t. end_exact) (λ t. end_tracked) (λ t. end_text tt) (λ t. end_begins) (codes "get") get_octets

  -- nothing behind the last part
  nothing_behind : (list part behind rest bs word whole : List ℕ) → bs ≡ word ++ whole → whole ≡ list ++ rest → rest ≡ part ++ behind → behind ≡ [] → bs ≡ word ++ (list ++ part)
  nothing_behind list part behind rest bs word whole g f e none =
      g ∙ ap (λ x. word ++ x) (f ∙ ap (λ x. list ++ x) (e ∙ ap (λ x. part ++ x) none ∙ append-nil part))

  get_to : (x : KeyedText ⊤) (bs : List ℕ) → GetIs x bs → IsCommand s (get_said x) bs
  get_to (vs, (Some cs, v)) bs (word, behind, w, (list, rest, l, (row, end, r, is, e), f), g) =
      (word, list ++ row, w, (list, row, l, r, refl), nothing_behind list row end rest bs word behind g f e is.1)
  get_to (vs, (None, v)) bs (word, behind, w, (list, rest, l, (t, static, end, fixed, k, is, e), f), g) =
      (word, list ++ static, w, (list, static, l, (t, fixed, k), refl), nothing_behind list static end rest bs word behind g f e is.1)

  get_from_by : (vs : Vals) (cs : Option Vals) (bs : List ℕ) → IsGet s (record { partition = vs; clustering = cs }) bs → GetIs (vs, (cs, tt)) bs
  get_from_by vs (Some cs) bs (word, key, w, (list, row, l, r, e), f) = (
    word,
    list ++ (row ++ []),
    w,
    (list, row ++ [], l, (row, [], r, (refl, refl), refl), refl),
    f ∙ ap (λ x. word ++ x) (e ∙ ap (λ x. list ++ x) (sym (append-nil row))),
  )
  get_from_by vs None bs (word, key, w, (list, static, l, (t, fixed, k), e), f) = (
    word,
    list ++ (static ++ []),
    w,
    (list, static ++ [], l, (t, static, [], fixed, k, (refl, refl), refl), refl),
    f ∙ ap (λ x. word ++ x) (e ∙ ap (λ x. list ++ x) (sym (append-nil static))),
  )

  get_passes : (bs : List ℕ) (at : ℕ) → GetNumbersPass bs at → CommandPasses s bs at
  get_passes bs at (word, behind, k, w, (list, rest, f, inl (h, Some cs, v, (row, end, r, is, e))), g, place) =
      inr (s.value, word, list ++ row, k, w, (list, row, refl, inl (h, Some cs, r, refl)), nothing_behind list row end rest bs word behind g f e is.1, place)
  get_passes bs at (word, behind, k, w, (list, rest, f, inl (h, None, v, (t, static, end, fixed, q, is, e))), g, place) =
      inr (t, word, list ++ static, k, w, (list, static, refl, inl (h, None, (t, fixed, q), fixed)), nothing_behind list static end rest bs word behind g f e is.1, place)
  get_passes bs at (word, behind, k, w, (list, rest, f, inr (vs, j, l, n, (row, end, v, e, h, is), same)), g, place) =
      inr (s.value, word, list ++ row, k, w, (list, row, refl, inr (vs, j, l, n, h, refl, same)), nothing_behind list row end rest bs word behind g f e is.1, place)

  get_exact : Exact (map_read get_said plain_get) (Mapped get_said GetIs) AfterLine
  get_exact = map_exact get_said plain_get GetIs (λ _. Nothing) AfterLine
      (keys.verb_exact s asked_at ended IsEnded Nothing (λ t. end_exact) (λ t. end_tracked) (λ t. end_text tt) (λ t. end_begins) (codes "get") get_octets) (λ x c h. h) (λ x c h. h)

  get_tracked : Tracks (IsCommand s) (CommandPasses s) LineNumbers (get_said_at s) (map_read get_said plain_get)
  get_tracked = mapped_tracked get_said (verb_at s asked_at (codes "get")) plain_get GetIs (IsCommand s) GetNumbersPass (CommandPasses s)
      (keys.KeyedNumbers s asked_at ended IsEnded Nothing (λ t. end_exact) (λ t. end_tracked) (λ t. end_text tt) (λ t. end_begins)) LineNumbers
      (keys.verb_tracked s asked_at ended IsEnded Nothing (λ t. end_exact) (λ t. end_tracked) (λ t. end_text tt) (λ t. end_begins) (codes "get") get_octets) get_to get_passes (λ x h. h)

  -- ---- that it ends a batch

  abbrev said_sync : Bool → ⊤ → LineText
  said_sync _ _ = sync_text

  abbrev plain_sync : Read LineText
  plain_sync = both said_sync (token true (codes "sync")) line_end_at

  abbrev SyncIs : LineText → List ℕ → Type 0
  SyncIs = Both said_sync (IsToken (codes "sync")) (IsEnd tt)

  sync_word : Exact (token true (codes "sync")) (IsToken (codes "sync")) (AfterGap true)
  sync_word = token_exact true (codes "sync") (are_bytes (codes "sync") refl)

  sync_only : (said : LineText) (bs : List ℕ) → SyncIs said bs → said ≡ sync_text
  sync_only said bs (spaced, word, end, w, (u, is, same), e) = same

  sync_to : (said : LineText) (bs : List ℕ) → SyncIs said bs → IsCommand s said bs
  sync_to said bs (spaced, word, end, w, (u, is, same), e) =
      subst (λ (l : LineText). IsCommand s l bs) (sym same) (spaced, subst (λ (l : List ℕ). IsToken (codes "sync") spaced l) (sym (e ∙ ap (λ x. word ++ x) is.1 ∙ append-nil word)) w)

  sync_plain : Exact plain_sync SyncIs (λ _. Nothing)
  sync_plain = both_exact said_sync (token true (codes "sync")) line_end_at (IsToken (codes "sync")) (IsEnd tt) (AfterGap true) Nothing sync_word end_exact (end_text tt) (λ spaced v bs rest is h. end_begins spaced v bs rest is h)

  sync_exact : Exact plain_sync SyncIs AfterLine
  sync_exact = record {
    found = sync_plain.found;
    all = λ said front rest is h. sync_plain.all said front rest is (subst (λ (l : LineText). NextIs (AfterLine l) rest) (sync_only said front is) h);
    next = λ bs said b rest h.
        let p = sync_plain.found bs said (b ∷ rest) h in
        subst (λ (l : LineText). AfterLine l b) (sym (sync_only said p.0 p.2)) (sync_plain.next bs said b rest h);
    stops = sync_plain.stops;
  }

  sync_tracked : Tracks (IsCommand s) (CommandPasses s) LineNumbers sync_said_at plain_sync
  sync_tracked = paired_tracked said_sync (unmarked (token true (codes "sync"))) (unmarked line_end_at) (token true (codes "sync")) line_end_at (IsToken (codes "sync")) (IsEnd tt) (IsCommand s) Never Never (CommandPasses s)
      (λ _. ⊤) (λ _. ⊤) LineNumbers (unmarked_tracked (token true (codes "sync")) (IsToken (codes "sync")) (AfterGap true) sync_word) end_tracked
      (λ spaced v front behind w is. (spaced, subst (λ (l : List ℕ). IsToken (codes "sync") spaced l) (sym (ap (λ x. front ++ x) is.1 ∙ append-nil front)) w))
      (λ spaced v h k. tt) (λ v front behind at h is. absurd h) (λ spaced front behind at w h k. absurd k)

  -- ---- each of them

  abbrev Others : LineText → List ℕ → Type 0
  Others = Either (Mapped get_said GetIs) SyncIs

  abbrev Commands : LineText → List ℕ → Type 0
  Commands = Either (Mapped put_said PutIs) Others

  put_heads : (said : LineText) (bs : List ℕ) → Mapped put_said PutIs said bs → (cs : List ℕ) × (bs ≡ 112 ∷ cs)
  put_heads said bs (x, is, same) =
      let p = keys.verb_heads s set_at plain_set IsSet Closing set_exact set_tracked set_text set_begins (codes "put") put_octets x bs is in
      (codes "ut" ++ p.0, p.1)

  get_heads : (said : LineText) (bs : List ℕ) → Mapped get_said GetIs said bs → (cs : List ℕ) × (bs ≡ 103 ∷ cs)
  get_heads said bs (x, is, same) =
      let p = keys.verb_heads s asked_at ended IsEnded Nothing (λ t. end_exact) (λ t. end_tracked) (λ t. end_text tt) (λ t. end_begins) (codes "get") get_octets x bs is in
      (codes "et" ++ p.0, p.1)

  sync_heads : (said : LineText) (bs : List ℕ) → SyncIs said bs → (cs : List ℕ) × (bs ≡ 115 ∷ cs)
  sync_heads said bs (spaced, word, end, w, is, e) = let p = token_heads (codes "sync") spaced word w in (codes "ync" ++ (p.0 ++ end), e ∙ ap (λ l. l ++ end) p.1)

  put_first : (said : LineText) (bs : List ℕ) → Mapped put_said PutIs said bs → (c : ℕ) × (cs : List ℕ) × (bs ≡ c ∷ cs) × (is_p c ≡ true)
  put_first said bs is = let p = put_heads said bs is in (112, p.0, p.1, refl)

  get_first : (said : LineText) (bs : List ℕ) → Mapped get_said GetIs said bs → (c : ℕ) × (cs : List ℕ) × (bs ≡ c ∷ cs) × (is_g c ≡ true)
  get_first said bs is = let p = get_heads said bs is in (103, p.0, p.1, refl)

  sync_first : (said : LineText) (bs : List ℕ) → SyncIs said bs → (c : ℕ) × (cs : List ℕ) × (bs ≡ c ∷ cs) × (is_g c ≡ false)
  sync_first said bs is = let p = sync_heads said bs is in (115, p.0, p.1, refl)

  others_first : (said : LineText) (bs : List ℕ) → Others said bs → (c : ℕ) × (cs : List ℕ) × (bs ≡ c ∷ cs) × (is_p c ≡ false)
  others_first said bs (inl is) = let p = get_heads said bs is in (103, p.0, p.1, refl)
  others_first said bs (inr is) = let p = sync_heads said bs is in (115, p.0, p.1, refl)

  put_some : HasText PutIs
  put_some = keys.verb_text s set_at plain_set IsSet Closing set_exact set_tracked set_text set_begins (codes "put") put_octets

  get_some : HasText GetIs
  get_some = keys.verb_text s asked_at ended IsEnded Nothing (λ t. end_exact) (λ t. end_tracked) (λ t. end_text tt) (λ t. end_begins) (codes "get") get_octets

  abbrev pub plain_command : Read LineText
  plain_command = by_first is_p (map_read put_said plain_put) (by_first is_g (map_read get_said plain_get) plain_sync)

  command_to : (said : LineText) (bs : List ℕ) → Commands said bs → IsCommand s said bs
  command_to said bs (inl (x, is, same)) = subst (λ (l : LineText). IsCommand s l bs) (sym same) (put_to x bs is)
  command_to said bs (inr (inl (x, is, same))) = subst (λ (l : LineText). IsCommand s l bs) (sym same) (get_to x bs is)
  command_to said bs (inr (inr is)) = sync_to said bs is

  command_from : (said : LineText) (bs : List ℕ) → IsCommand s said bs → Commands said bs
  command_from no_text bs is = absurd is
  command_from (put_text p) bs is = inl ((p.key.partition, (p.key.clustering, p.value)), put_from_by p.key.partition p.key.clustering p.value bs is, refl)
  command_from (get_text key) bs is = inr (inl ((key.partition, (key.clustering, tt)), get_from_by key.partition key.clustering bs is, refl))
  command_from sync_text bs is = inr (inr (is.0, bs, [], is.1, (tt, (refl, refl), refl), sym (append-nil bs)))

  pub command_exact : Exact plain_command (IsCommand s) AfterLine
  command_exact = exact_as plain_command Commands (IsCommand s) AfterLine
      (first_exact is_p (map_read put_said plain_put) (by_first is_g (map_read get_said plain_get) plain_sync) (Mapped put_said PutIs) Others AfterLine put_exact
      (first_exact is_g (map_read get_said plain_get) plain_sync (Mapped get_said GetIs) SyncIs AfterLine get_exact sync_exact get_first sync_first (let h = get_some in (h.1, get_said h.0, (h.0, h.2, refl), h.3)))
      put_first others_first (let h = put_some in (h.1, put_said h.0, (h.0, h.2, refl), h.3))) command_to command_from

  pub command_tracked : Tracks (IsCommand s) (CommandPasses s) LineNumbers (command_at s) plain_command
  command_tracked = first_tracked is_p (IsCommand s) (CommandPasses s) LineNumbers (put_said_at s) (λ mark. by_first is_g (get_said_at s mark) (sync_said_at mark)) (map_read put_said plain_put)
      (by_first is_g (map_read get_said plain_get) plain_sync) put_tracked
      (first_tracked is_g (IsCommand s) (CommandPasses s) LineNumbers (get_said_at s) sync_said_at (map_read get_said plain_get) plain_sync get_tracked sync_tracked)

  -- it begins with a letter
  pub command_heads : (said : LineText) (bs : List ℕ) → IsCommand s said bs → (c : ℕ) × (cs : List ℕ) × (bs ≡ c ∷ cs) × (NoSpace c × ((c == 45) ≡ false))
  command_heads said bs is = by (command_from said bs is)
    where
      by : Commands said bs → (c : ℕ) × (cs : List ℕ) × (bs ≡ c ∷ cs) × (NoSpace c × ((c == 45) ≡ false))
      by (inl is) = let p = put_heads said bs is in (112, p.0, p.1, (refl, refl))
      by (inr (inl is)) = let p = get_heads said bs is in (103, p.0, p.1, (refl, refl))
      by (inr (inr is)) = let p = sync_heads said bs is in (115, p.0, p.1, (refl, refl))

  -- and some bytes are such a line
  pub command_text : HasText (IsCommand s)
  command_text = let h = put_some in (put_said h.0, h.1, put_to h.0 h.1 h.2, h.3)

  pub spaced_command_exact : Exact (then_read spaces_at (λ _. plain_command)) (IsText (IsCommand s)) AfterLine
  spaced_command_exact = text_exact plain_command (IsCommand s) AfterLine command_exact (λ said bs is. let h = command_heads said bs is in (h.0, h.1, h.2, h.3.0)) command_text
