-- More bytes in front of what is read.
use Rattle.std.proofs.Common.{◌≡◌, ℕ, List, [], ◌∷◌, ◌++◌, Result, Ok, Err, refl}
use Rattle.std.proofs.lemmas.List.{append_assoc}
use Rattle.grammar.specs.Reading.{onto, with_front}

pub behind_push : (front : List ℕ) (b : ℕ) (read : Result (List ℕ × List ℕ) ℕ) → with_front (front ++ b ∷ []) read ≡ with_front front (onto b read)
behind_push front b (Ok x) = rw append_assoc refl
behind_push front b (Err e) = refl

pub behind_more : (front more : List ℕ) (read : Result (List ℕ × List ℕ) ℕ) → with_front (front ++ more) read ≡ with_front front (with_front more read)
behind_more front more (Ok x) = rw append_assoc refl
behind_more front more (Err e) = refl
