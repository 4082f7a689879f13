-- What the answer of `clap` says of the words.
use Rattle.std.proofs.Common.{◌≡◌, ◌↔◌, ◌∙◌, true, false, List, [], ◌∷◌, Option, Result, Ok, Err, inl, inr, subst, sym, refl}
use Rattle.clap.specs.Words.{App, HasKind, IsAmong, Kinds, Row, Text, fault_of, is_simple, is_simple_and_free, kind_of, subcommand_of}
use Rattle.clap.specs.declared.Error.{Error}
use Rattle.clap.specs.declared.error.ErrorKind.TheVariants.{OutOfMemory}
use Rattle.clap.proofs.OnLiterals.{clap_on_literals}
use Rattle.command_line.specs.Grammar.{tool}
use Rattle.command_line.specs.Reading.{found_in, is_faultless}
use Rattle.command_line.specs.declared.command.WordsError.{WordsError}
use Rattle.command_line.specs.declared.command.WordsError.TheVariants.{Usage, NoMemory}
use Rattle.command_line.specs.Said.{AnswersCommand}

pub tool_is_simple : is_simple_and_free tool ≡ true
unfolding clap_on_literals
tool_is_simple = refl

is_faultless-not : (kinds : Kinds) → (kinds ≡ [] → ⊥) → is_faultless kinds ≡ false
is_faultless-not [] not = absurd (not refl)
is_faultless-not (k ∷ ks) not = refl

tool_is_plain : is_simple tool ≡ true
unfolding clap_on_literals
tool_is_plain = refl

-- an error that is told as Usage has another cause than memory
pub usage_is_other : (e : Error) (told : WordsError) → (told ≡ NoMemory) ↔ (kind_of e ≡ OutOfMemory) → told ≡ Usage → kind_of e ≡ OutOfMemory → ⊥
usage_is_other e told h usage memory = let both : Usage ≡ NoMemory = sym usage ∙ h.1 memory in cc both

-- an error for another cause than memory is a fault of the words
pub faulty : (kinds : Kinds) (e : Error) → HasKind kinds e → (kind_of e ≡ OutOfMemory → ⊥) → kinds ≡ [] → ⊥
faulty kinds e (inl memory) other none = other memory
faulty kinds e (inr among) other none = subst (λ (ks : Kinds). IsAmong (kind_of e) ks) none among

pub found_fault : (app : App) (words : List Text) (e : Error) → app ≡ tool
    → (is_simple_and_free app ≡ true → HasKind (fault_of app words) e) → (kind_of e ≡ OutOfMemory → ⊥)
    → found_in words ≡ Err Usage
unfolding found_in
found_fault app words e is kinds other =
    let h = subst (λ (a : App). (is_simple_and_free a ≡ true) → HasKind (fault_of a words) e) is kinds tool_is_simple in
    rw (is_faultless-not (fault_of tool words) (faulty (fault_of tool words) e h other)) refl

pub found_ok : {P : Type 0} (app : App) (words : List Text) (rows : Option (Text × List Row)) → app ≡ tool
    → (is_simple_and_free app ≡ true → fault_of app words ≡ []) → (is_simple app ≡ true → P × (rows ≡ subcommand_of app words))
    → found_in words ≡ Ok rows
unfolding found_in
found_ok {P} app words rows is none at =
    let h = subst (λ (a : App). (is_simple_and_free a ≡ true) → fault_of a words ≡ []) is none tool_is_simple in
    let r = subst (λ (a : App). (is_simple a ≡ true) → P × (rows ≡ subcommand_of a words)) is at tool_is_plain in
    rw (h, sym r.1) refl

pub answers_err : {X Y : Type 0} (view : X → Y) (e : WordsError) (expected : Result Y WordsError)
    → (e ≡ Usage → expected ≡ Err Usage) → AnswersCommand view (Err e) expected
answers_err view Usage expected h = h refl
answers_err view NoMemory expected h = tt
