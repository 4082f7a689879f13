use Rattle.std.proofs.Common.{◌≡◌, true, false, [], ◌∷◌, ◌++◌, codes, refl, Ok, Err}
use Rattle.clap.specs.Words.{Text}
use Rattle.clap.proofs.OnLiterals.{clap_on_literals}
use Rattle.command_line.specs.Reading.{found_in, is_refused, said_in}
use Rattle.command_line.specs.Said.{key, encode, decode}
use Rattle.command_line.specs.declared.command.WordsError.TheVariants.{Usage}
use Rattle.command_line.proofs.laws.law_key.Goals as goal

key_plain : is_refused (codes "key") ≡ false
unfolding is_refused
key_plain = refl

clustering_plain : is_refused (codes "--clustering") ≡ false
unfolding is_refused
clustering_plain = refl

schema_plain : (v : Text) → is_refused (codes "--schema=" ++ v) ≡ false
unfolding is_refused
schema_plain v = refl

encode_plain : (v : Text) → is_refused (codes "--encode=" ++ v) ≡ false
unfolding is_refused
encode_plain v = refl

decode_plain : (v : Text) → is_refused (codes "--decode=" ++ v) ≡ false
unfolding is_refused
decode_plain v = refl

found_encode : (v w : Text) → said_in (found_in (codes "key" ∷ (codes "--schema=" ++ v) ∷ (codes "--encode=" ++ w) ∷ [])) ≡ Ok (key v false (encode w))
unfolding clap_on_literals found_in
found_encode v w = refl

found_decode : (v w : Text) → said_in (found_in (codes "key" ∷ (codes "--decode=" ++ w) ∷ codes "--clustering" ∷ (codes "--schema=" ++ v) ∷ [])) ≡ Ok (key v true (decode w))
unfolding clap_on_literals found_in
found_decode v w = refl

found_both : (v w x : Text) → said_in (found_in (codes "key" ∷ (codes "--schema=" ++ v) ∷ (codes "--encode=" ++ w) ∷ (codes "--decode=" ++ x) ∷ [])) ≡ Err Usage
unfolding clap_on_literals found_in
found_both v w x = refl

pub returns-clause-encodes : goal.returns-clause-encodes
returns-clause-encodes c = λ v w. rw (key_plain, schema_plain v, encode_plain w) (found_encode v w)

pub returns-clause-decodes : goal.returns-clause-decodes
returns-clause-decodes c = λ v w. rw (key_plain, decode_plain w, clustering_plain, schema_plain v) (found_decode v w)

pub returns-clause-takes_one : goal.returns-clause-takes_one
returns-clause-takes_one c = λ v w x. rw (key_plain, schema_plain v, encode_plain w, decode_plain x) (found_both v w x)
