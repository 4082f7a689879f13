-- What stands in a buffer stays there when more is put behind it, and what was put last is cut out again.
use Rattle.std.proofs.Common.{◌≡◌, ◌≤◌, ◌<◌, ◌+◌, ℕ, zero, suc, List, [], ◌∷◌, ◌++◌, length, take, drop, Some, refl, sym, ◌∙◌, ap, arith, append_assoc, length-append}
use Rattle.std.specs.Prelude.{map, slice_get, slice_index_or}
use Rattle.std.proofs.lemmas.List.{append-nil, take-append-le, drop-append-le}
use Rattle.std.proofs.Math.Seq.{drop-append_seam, take-append_seam}
use Rattle.script_text.specs.declared.spans.KeySpan.{KeySpan}
use Rattle.script_text.specs.declared.spans.PutSpan.{PutSpan}
use Rattle.script_text.specs.declared.spans.GetSpan.{GetSpan}
use Rattle.script_text.specs.Pieces.{piece_from, end_of, put_in, get_in, PutLies, GetLies, PutsLie, GetsLie}

-- ---- a longer buffer

length-drop : (n : ℕ) (bs : List ℕ) → n ≤ length bs → length (drop n bs) + n ≡ length bs
length-drop zero bs h = omega arith
length-drop (suc n) [] h = absurd (omega arith)
length-drop (suc n) (b ∷ bs) h = let e = length-drop n bs (omega arith) in omega arith

piece_stays : (buffer more : List ℕ) (start n : ℕ) → start + n ≤ length buffer → piece_from start n (buffer ++ more) ≡ piece_from start n buffer
piece_stays buffer more start n h =
    let e = length-drop start buffer (omega arith) in
    ap (take n) (drop-append-le start buffer more (omega arith)) ∙ take-append-le n (drop start buffer) more (omega arith)

module _ (buffer more : List ℕ) where
  put_stays : (span : PutSpan) → PutLies (length buffer) span → put_in (buffer ++ more) span ≡ put_in buffer span
  put_stays span h = rw (
    piece_stays buffer more span.key.start span.key.partition (omega arith),
    piece_stays buffer more (span.key.start + span.key.partition) span.key.clustering (omega arith),
    piece_stays buffer more (end_of span.key) span.value (omega arith),
  ) refl

  get_stays : (span : GetSpan) → GetLies (length buffer) span → get_in (buffer ++ more) span ≡ get_in buffer span
  get_stays span h = rw (
    piece_stays buffer more span.key.start span.key.partition (omega arith),
    piece_stays buffer more (span.key.start + span.key.partition) span.key.clustering (omega arith),
  ) refl

  pub puts_stay : (spans : List PutSpan) → PutsLie (length buffer) spans → map (put_in (buffer ++ more)) spans ≡ map (put_in buffer) spans
  puts_stay [] h = refl
  puts_stay (span ∷ spans) h = ap (λ put. put ∷ map (put_in (buffer ++ more)) spans) (put_stays span h.0) ∙ ap (λ puts. put_in buffer span ∷ puts) (puts_stay spans h.1)

  pub gets_stay : (spans : List GetSpan) → GetsLie (length buffer) spans → map (get_in (buffer ++ more)) spans ≡ map (get_in buffer) spans
  gets_stay [] h = refl
  gets_stay (span ∷ spans) h = ap (λ get. get ∷ map (get_in (buffer ++ more)) spans) (get_stays span h.0) ∙ ap (λ gets. get_in buffer span ∷ gets) (gets_stay spans h.1)

pub puts_lie_still : (n m : ℕ) (spans : List PutSpan) → n ≤ m → PutsLie n spans → PutsLie m spans
puts_lie_still n m [] l h = tt
puts_lie_still n m (span ∷ spans) l h = ((let k = h.0 in omega arith), puts_lie_still n m spans l h.1)

pub gets_lie_still : (n m : ℕ) (spans : List GetSpan) → n ≤ m → GetsLie n spans → GetsLie m spans
gets_lie_still n m [] l h = tt
gets_lie_still n m (span ∷ spans) l h = ((let k = h.0 in omega arith), gets_lie_still n m spans l h.1)

-- ---- one more span

pub puts_lie_with : (n : ℕ) (spans : List PutSpan) (span : PutSpan) → PutsLie n spans → PutLies n span → PutsLie n (spans ++ span ∷ [])
puts_lie_with n [] span h k = (k, tt)
puts_lie_with n (first ∷ spans) span h k = (h.0, puts_lie_with n spans span h.1 k)

pub gets_lie_with : (n : ℕ) (spans : List GetSpan) (span : GetSpan) → GetsLie n spans → GetLies n span → GetsLie n (spans ++ span ∷ [])
gets_lie_with n [] span h k = (k, tt)
gets_lie_with n (first ∷ spans) span h k = (h.0, gets_lie_with n spans span h.1 k)

-- ---- what was put last

-- a part between two others
pub between : (before part behind buffer : List ℕ) (start n : ℕ) → buffer ≡ before ++ (part ++ behind) → start ≡ length before → n ≡ length part → piece_from start n buffer ≡ part
between before part behind buffer start n e f g =
    ap (piece_from start n) e ∙ ap (λ k. piece_from k n (before ++ (part ++ behind))) f ∙ ap (take n) (drop-append_seam before (part ++ behind)) ∙ ap (λ k. take k (part ++ behind)) g ∙ take-append_seam part behind

module _ (before partition clustering value buffer : List ℕ) (whole : buffer ≡ before ++ (partition ++ (clustering ++ value))) where
  second : buffer ≡ (before ++ partition) ++ (clustering ++ value)
  second = whole ∙ sym (append_assoc before partition (clustering ++ value))

  third : buffer ≡ ((before ++ partition) ++ clustering) ++ (value ++ [])
  third = second ∙ sym (append_assoc (before ++ partition) clustering value) ∙ ap (λ l. ((before ++ partition) ++ clustering) ++ l) (sym (append-nil value))

  second_place : length (before ++ partition) ≡ length before + length partition
  second_place = length-append before partition

  third_place : length ((before ++ partition) ++ clustering) ≡ (length before + length partition) + length clustering
  third_place = length-append (before ++ partition) clustering ∙ ap (λ n. n + length clustering) second_place

  pub total : length buffer ≡ ((length before + length partition) + length clustering) + length value
  total = ap length third ∙ length-append ((before ++ partition) ++ clustering) (value ++ []) ∙ ap (λ n. n + length (value ++ [])) third_place
      ∙ ap (λ l. ((length before + length partition) + length clustering) + length l) (append-nil value)

  module _ (key : KeySpan) (at : key.start ≡ length before) (first_length : key.partition ≡ length partition) (second_length : key.clustering ≡ length clustering) where
    place : key.start + key.partition ≡ length (before ++ partition)
    place = (let e = second_place in omega arith)

    end_place : end_of key ≡ length ((before ++ partition) ++ clustering)
    end_place = (let e = third_place in omega arith)

    pub put_cut : (span : PutSpan) → span.key ≡ key → span.value ≡ length value → put_in buffer span ≡ record { line = span.line; partition = partition; clustering = clustering; value = value }
    put_cut span same last = rw (
      same,
      between before partition (clustering ++ value) buffer key.start key.partition whole at first_length,
      between (before ++ partition) clustering value buffer (key.start + key.partition) key.clustering second place second_length,
      between ((before ++ partition) ++ clustering) value [] buffer (end_of key) span.value third end_place last,
    ) refl

    pub get_cut : (span : GetSpan) → span.key ≡ key → get_in buffer span ≡ record { line = span.line; reader = span.reader; partition = partition; clustering = clustering }
    get_cut span same = rw (
      same,
      between before partition (clustering ++ value) buffer key.start key.partition whole at first_length,
      between (before ++ partition) clustering value buffer (key.start + key.partition) key.clustering second place second_length,
    ) refl

-- ---- one of several

pub put_at : (buffer : List ℕ) (n : ℕ) (spans : List PutSpan) (i : ℕ) (d : PutSpan) → i < length (map (put_in buffer) spans) → PutsLie n spans
    → PutLies n (slice_index_or spans i d) × (slice_get (map (put_in buffer) spans) i ≡ Some (put_in buffer (slice_index_or spans i d)))
put_at buffer n [] i d l h = absurd (omega arith)
put_at buffer n (span ∷ spans) zero d l h = (h.0, refl)
put_at buffer n (span ∷ spans) (suc i) d l h = put_at buffer n spans i d (omega arith) h.1

pub get_at : (buffer : List ℕ) (n : ℕ) (spans : List GetSpan) (i : ℕ) (d : GetSpan) → i < length (map (get_in buffer) spans) → GetsLie n spans
    → GetLies n (slice_index_or spans i d) × (slice_get (map (get_in buffer) spans) i ≡ Some (get_in buffer (slice_index_or spans i d)))
get_at buffer n [] i d l h = absurd (omega arith)
get_at buffer n (span ∷ spans) zero d l h = (h.0, refl)
get_at buffer n (span ∷ spans) (suc i) d l h = get_at buffer n spans i d (omega arith) h.1
