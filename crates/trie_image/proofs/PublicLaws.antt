-- The proofs of the public laws that the crates above stand on, each under the law's name.
use Rattle.std.proofs.Common.{slice_index, refl, arith}
use Rattle.trie_image.specs.Place.{next_word_of, outcome_of}
use Rattle.trie_image.specs.Laws.{LawFalls, LawAdvance, LawOpening, LawStart, LawInside, LawSame, LawFresh, LawShape, LawRecordWord}
use Rattle.trie_image.specs.Way.{LawLeads}
use Rattle.trie_image.specs.NextStore.{LawNextStore}
use Rattle.trie_image.proofs.Falls.{on_falls}
use Rattle.trie_image.proofs.Advances.{advances}
use Rattle.trie_image.proofs.Inside.{place_inside}
use Rattle.trie_image.proofs.Kept.{fresh}
use Rattle.trie_image.proofs.WellFormedLemmas.{keeps_well_formed}
use Rattle.trie_image.proofs.Opening.{opening}
use Rattle.trie_image.proofs.StoreShape.{shape}
use Rattle.trie_image.proofs.NextStores.{next_stores}
use Rattle.trie_image.proofs.RecordWords.{record_words}
use Rattle.trie_image.proofs.Ways.{leads}

pub law_falls : LawFalls
law_falls = on_falls

pub law_advance : LawAdvance
law_advance = advances

pub law_opening : LawOpening
law_opening = opening

pub law_start : LawStart
law_start = ((λ w g key bytes. (record { bytes = bytes; role = refl }, refl)), λ len. omega arith)

pub law_inside : LawInside
law_inside = place_inside

pub law_same : LawSame
law_same = keeps_well_formed

pub law_fresh : LawFresh
law_fresh = fresh

pub law_shape : LawShape
law_shape = shape

pub law_next_store : LawNextStore
law_next_store = next_stores

pub law_record_word : LawRecordWord
law_record_word = record_words

pub law_leads : LawLeads
law_leads = λ w key pl way. leads w key pl (slice_index w (next_word_of pl)) way refl (outcome_of pl (slice_index w (next_word_of pl)) key) refl
