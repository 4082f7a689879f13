-- Loads of a find, one after the other.
use Rattle.std.proofs.Common.{◌≡◌, ℕ, ◌+◌, ◌*◌, ◌<◌, List, length, ◌++◌, sym, ap, ◌∙◌, subst, arith, append_assoc}
use Rattle.trie_image.specs.declared.Put.{Put}
use Rattle.trie_image.specs.declared.Place.{Place}
use Rattle.trie_image.specs.declared.Advance.{Advance}
use Rattle.trie_image.specs.declared.Advance.TheVariants.{On, Found, Absent}
use Rattle.trie_image.specs.Place.{next_word_of, measure_of}
use Rattle.trie_machine.specs.declared.Reader.{Reader}
use Rattle.trie_machine.specs.Events.{reader_after, LoadTells}
use Rattle.trie_rule.specs.declared.views.ReadView.{ReadView}
use Rattle.trie_rule.specs.Rule.{IsStartOf}
use Rattle.trie_rule.specs.Seats.{FindMoves}
use Rattle.trie_reader.specs.Passing.{find_at, finding, PassesWords, CountsSteps, IsThere}

pub starts_trans : (xs ys zs : List Put) → IsStartOf xs ys → IsStartOf ys zs → IsStartOf xs zs
starts_trans xs ys zs a b = (a.0 ++ b.0, b.1 ∙ ap (λ (l : List Put). l ++ b.0) a.1 ∙ append_assoc xs a.0 b.0)

-- one load
pub loaded : (r q : ReadView) (base : ℕ) (place : Place) (key : List ℕ) (outcome : Advance) → r.reader ≡ finding base place key → FindMoves r.reader.find r outcome q → PassesWords r q base place key outcome
loaded r q base place key outcome at moves =
    let m = moves (find_at base place key) (ap (λ (x : Reader). x.find) at) in
    let move = m.2 in record {
      cells = ap (λ (x : ReadView). x.cells) move.next;
      seen = move.seen;
      reader = ap (λ (x : ReadView). x.reader) move.next ∙ (λ k. reader_after (at k) (find_at base place key) (sym m.1 k));
      tells = subst (λ (a : Advance). LoadTells q.seen (4 * r.cells) (find_at base place key) a) (sym m.1) move.tells;
    }

-- what it counts, and where the reader is then
pub counted : (puts : List Put) (words old new : ℕ) (base : ℕ) (place : Place) (key : List ℕ) (outcome : Advance) → LoadTells puts words (find_at base place key) outcome → new ≡ old + 1 → CountsSteps old new place (length key) outcome
counted puts words old new base place key (On next) t one = omega (arith, t.1, one)
counted puts words old new base place key (Found rec) t one = omega (arith, one)
counted puts words old new base place key Absent t one = omega (arith, one)

pub there : (r q : ReadView) (base : ℕ) (place : Place) (key : List ℕ) (outcome : Advance) → PassesWords r q base place key outcome → IsThere q base key outcome
there r q base place key (On next) p = p.reader
there r q base place key (Found rec) p = tt
there r q base place key Absent p = tt

-- one pass after another
further : (puts : List Put) (words words' base : ℕ) (from place : Place) (key : List ℕ) (outcome : Advance) → words' ≡ words → measure_of place (length key) < measure_of from (length key) → LoadTells puts words' (find_at base place key) outcome → LoadTells puts words (find_at base from key) outcome
further puts words words' base from place key (On next) same falls t = (subst (λ (w : ℕ). next_word_of next < w) same t.0, omega (arith, t.1, falls))
further puts words words' base from place key (Found rec) same falls t = t
further puts words words' base from place key Absent same falls t = t

same_reader : (base : ℕ) (from place : Place) (key : List ℕ) (outcome : Advance) → reader_after (finding base place key) (find_at base place key) outcome ≡ reader_after (finding base from key) (find_at base from key) outcome
same_reader base from place key (On next) = λ k. finding base next key
same_reader base from place key (Found rec) = λ k. reader_after (finding base from key) (find_at base from key) (Found rec)
same_reader base from place key Absent = λ k. reader_after (finding base from key) (find_at base from key) Absent

pub passes_on : (r s q : ReadView) (base : ℕ) (from place : Place) (key : List ℕ) (outcome : Advance) → PassesWords r s base from key (On place) → PassesWords s q base place key outcome → PassesWords r q base from key outcome
passes_on r s q base from place key outcome a b = record {
  cells = b.cells ∙ a.cells;
  seen = starts_trans r.seen s.seen q.seen a.seen b.seen;
  reader = b.reader ∙ same_reader base from place key outcome;
  tells = further q.seen (4 * r.cells) (4 * s.cells) base from place key outcome (ap (λ (c : ℕ). 4 * c) a.cells) a.tells.1 b.tells;
}

pub counts_on : (n old new : ℕ) (from place : Place) (len : ℕ) (outcome : Advance) → CountsSteps n old from len (On place) → CountsSteps old new place len outcome → CountsSteps n new from len outcome
counts_on n old new from place len (On next) a b = omega (arith, a, b)
counts_on n old new from place len (Found rec) a b = omega (arith, a, b)
counts_on n old new from place len Absent a b = omega (arith, a, b)
