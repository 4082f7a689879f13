-- The words of an image after stores. This project's own.
use Rattle.std.specs.Prelude.{ℕ, List, [], ◌∷◌, slice_set}
use Rattle.trie_image.specs.declared.WordStore.{WordStore}

-- the words after the stores, each in its turn
abbrev pub after : List ℕ → List WordStore → List ℕ
after w [] = w
after w (s ∷ stores) = after (slice_set w s.word s.value) stores
