-- The bytes of a value, copied word by word, and what a reader knew of a list of puts.
use Rattle.std.proofs.Common.{◌≡◌, ℕ, zero, suc, ◌+◌, ◌-◌, ◌*◌, ◌<◌, ◌≤◌, Bool, true, false, List, length, take, ◌++◌, slice_index, Option, refl, sym, ap, ◌∙◌, subst, arith, append_assoc}
use Rattle.std.specs.Prelude.{nat_lt}
use Rattle.std.specs.Int.{w64, to_le_bytes}
use Rattle.std.proofs.lemmas.List.{ext_get_or, length-take-le, get_or-append-add, get_or_append_left}
use Rattle.std.proofs.lemmas.Bool.{ltb-true, ltb-false}
use Rattle.std.proofs.Math.Seq.{take-append_seam}
use Rattle.cell_layout.specs.Words.{byte_of}
use Rattle.trie_image.specs.declared.Put.{Put}
use Rattle.trie_image.specs.declared.Rec.{Rec}
use Rattle.trie_image.specs.Puts.{IsRecOf, HasLastPut}
use Rattle.trie_machine.specs.Events.{HasWord, value_word_at}
use Rattle.trie_rule.specs.declared.views.ReadView.{ReadView}
use Rattle.trie_rule.specs.Rule.{IsStartOf}
use Rattle.trie_rule.specs.Kinds.{HasValuesBelow, IsValueWord}
use Rattle.trie_reader.specs.Read.{HasAnswer, KeepsWhatWasTold, IsSeenRecord, IsPieceOf, IsCopying}

-- a word of a value is one of the record's put
abbrev has_word : (puts : List Put) (rec : Rec) (i n : ℕ) (put : Put) → IsRecOf puts n put rec → 8 * i < rec.length → HasWord puts rec i
has_word puts rec i n put is less = record { number = n; put = put; is_record = is; more = omega (arith, less, is.len) }

pub piece_below : (words : ℕ) (puts : List Put) (rec : Rec) (i : ℕ) → HasValuesBelow words puts → IsSeenRecord puts rec → 8 * i < rec.length → value_word_at rec i < words
piece_below words puts rec i below s less = below rec i (has_word puts rec i s.0 s.1 s.2 less)

-- what the load of such a word gives
pub piece_given : (puts : List Put) (rec : Rec) (i loaded : ℕ) → IsValueWord puts (value_word_at rec i) loaded → 8 * i < rec.length → IsPieceOf puts rec i loaded
piece_given puts rec i loaded gives less = λ n put is. gives rec i (has_word puts rec i n put is less) (λ k. value_word_at rec i)

-- a word more
pub copies_on : (puts : List Put) (rec : Rec) (old new : List ℕ) (place word : ℕ) → IsCopying puts rec old (8 * place) → IsPieceOf puts rec place word → length old ≡ rec.length
    → ((i : ℕ) → i < 8 * place → slice_index new i ≡ slice_index old i) → ((i : ℕ) → i < 8 → 8 * place + i < length old → slice_index new (8 * place + i) ≡ byte_of word i) → IsCopying puts rec new (8 * (place + 1))
copies_on puts rec old new place word c piece size before bytes = λ n put is i less inside. by n put is i less inside (nat_lt i (8 * place)) (λ k. nat_lt i (8 * place))
  where
    by : (n : ℕ) (put : Put) → IsRecOf puts n put rec → (i : ℕ) → i < 8 * (place + 1) → i < rec.length → (t : Bool) → nat_lt i (8 * place) ≡ t → slice_index new i ≡ slice_index put.value i
    by n put is i less inside true e = let below = ltb-true i (8 * place) e in before i below ∙ c n put is i below inside
    by n put is i less inside false e =
        let above : 8 * place ≤ i = ltb-false i (8 * place) e in
        let here : i ≡ 8 * place + (i - 8 * place) = omega (arith, above) in
        ap (λ (j : ℕ). slice_index new j) here ∙ bytes (i - 8 * place) (omega (arith, above, less)) (omega (arith, above, inside, size))
        ∙ piece n put is (i - 8 * place) (omega (arith, above, less)) ∙ ap (λ (j : ℕ). slice_index put.value j) (sym here)

-- a byte of a word, as it is written
pub byte_written : (word i : ℕ) → i < 8 → slice_index (to_le_bytes w64 word) i ≡ byte_of word i
byte_written word zero h = omega arith
byte_written word (suc zero) h = refl
byte_written word (suc (suc zero)) h = refl
byte_written word (suc (suc (suc zero))) h = refl
byte_written word (suc (suc (suc (suc zero)))) h = refl
byte_written word (suc (suc (suc (suc (suc zero))))) h = refl
byte_written word (suc (suc (suc (suc (suc (suc zero)))))) h = refl
byte_written word (suc (suc (suc (suc (suc (suc (suc zero))))))) h = refl
byte_written word (suc (suc (suc (suc (suc (suc (suc (suc i)))))))) h = absurd (omega arith)

pub part_written : (at i : ℕ) (out part rest : List ℕ) → at ≤ length out → i < length part → slice_index (take at out ++ (part ++ rest)) (at + i) ≡ slice_index part i
part_written at i out part rest inside less =
    ap (λ (k : ℕ). slice_index (take at out ++ (part ++ rest)) (k + i)) (sym (length-take-le at out inside))
    ∙ get_or-append-add (take at out) (part ++ rest) i 0 ∙ get_or_append_left part rest 0 i less

-- all bytes
pub copied_all : (puts : List Put) (rec : Rec) (bytes : List ℕ) (at n : ℕ) (put : Put) → IsCopying puts rec bytes at → IsRecOf puts n put rec → length bytes ≡ rec.length → rec.length ≤ at → bytes ≡ put.value
copied_all puts rec bytes at n put c is size past = ext_get_or 0 bytes put.value (size ∙ is.len) (λ i less. c n put is i (omega (arith, less, size, past)) (omega (arith, less, size)))

-- an answer that stands for no more puts than those of a list that was known stands for exactly these
pub told_kept : (r q : ReadView) (key : List ℕ) (hit : Option Rec) (at : ℕ) → HasAnswer r q key hit at → IsStartOf r.seen q.seen → KeepsWhatWasTold r key hit at
told_kept r q key hit at a more = λ told start reaches few.
    let all : q.seen ≡ told ++ (start.0 ++ more.0) = more.1 ∙ ap (λ (l : List Put). l ++ more.0) start.1 ∙ append_assoc told start.0 more.0 in
    let same : at ≡ length told = omega (arith, a.least, a.is.least, reaches, few) in
    subst (λ (l : List Put). HasLastPut l key hit) ((λ k. take (same k) (all k)) ∙ take-append_seam told (start.0 ++ more.0)) a.is.map
