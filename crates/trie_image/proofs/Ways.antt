-- What a place's load leads to.
use Rattle.std.proofs.Common.{◌≡◌, ℕ, List, slice_index, sym}
use Rattle.trie_image.specs.declared.Place.{Place}
use Rattle.trie_image.specs.declared.Advance.{Advance}
use Rattle.trie_image.specs.declared.Advance.TheVariants.{On, Found, Absent}
use Rattle.trie_image.specs.Place.{next_word_of, outcome_of}
use Rattle.trie_image.specs.Way.{OnTheWay, LeadsTo}
use Rattle.trie_image.proofs.Falls.{on_falls}
use Rattle.trie_image.proofs.WellFormedLemmas.{goes_on, ends_found, ends_absent}

module _ (w key : List ℕ) (pl : Place) (word : ℕ) (way : OnTheWay w key pl) (loaded : word ≡ slice_index w (next_word_of pl)) where
  pub leads : (a : Advance) → a ≡ outcome_of pl word key → LeadsTo w key pl a
  leads (On next) e = ((λ g cells ok. let i = way g cells ok in goes_on w g cells key pl word ok i.0 i.1 loaded next e), on_falls pl next word key (sym e))
  leads (Found rec) e = λ g cells ok. let i = way g cells ok in ends_found w g cells key pl word ok i.0 i.1 loaded rec e
  leads Absent e = λ g cells ok. let i = way g cells ok in ends_absent w g cells key pl word ok i.0 i.1 loaded e
