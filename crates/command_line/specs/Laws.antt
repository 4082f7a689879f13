-- What the words of the commands mean, for values of any text.
use Rattle.std.specs.Prelude.{◌≡◌, Bool, true, false, [], ◌∷◌, ◌++◌, codes, Ok, Err, if◌then◌else◌, ◌==◌}
use Rattle.clap.specs.Walk.{Text}
use Rattle.command_line.specs.Reading.{command_of, is_refused}
use Rattle.command_line.specs.Said.{list, key, encode, decode}
use Rattle.command_line.specs.declared.command.WordsError.TheVariants.{Usage}

-- the text doesn't begin with a hyphen
abbrev pub begins_plainly : Text → Bool
begins_plainly [] = true
begins_plainly (b ∷ bs) = if b == 45 then false else true

-- `list --schema v` is `list` of the schema v, with 262,144 cells, where v neither begins with a hyphen nor is a refused word
abbrev pub ListIsRead : Type 0
ListIsRead = (v : Text) → begins_plainly v ≡ true → is_refused v ≡ false
    → command_of (codes "list" ∷ codes "--schema" ∷ v ∷ []) ≡ Ok (list v 262144)

-- `list --schema=v` is `list` of the schema v, whatever v is
abbrev pub ListIsReadAttached : Type 0
ListIsReadAttached = (v : Text) → command_of (codes "list" ∷ (codes "--schema=" ++ v) ∷ []) ≡ Ok (list v 262144)

-- `key --schema=v --encode=w` shows the string of the list w, whatever v and w are
abbrev pub KeyEncodes : Type 0
KeyEncodes = (v w : Text) → command_of (codes "key" ∷ (codes "--schema=" ++ v) ∷ (codes "--encode=" ++ w) ∷ []) ≡ Ok (key v false (encode w))

-- `key --decode=w --clustering --schema=v` shows the list within the partition of the string w, whatever v and w are
abbrev pub KeyDecodes : Type 0
KeyDecodes = (v w : Text) → command_of (codes "key" ∷ (codes "--decode=" ++ w) ∷ codes "--clustering" ∷ (codes "--schema=" ++ v) ∷ []) ≡ Ok (key v true (decode w))

-- both options are Usage, whatever their texts are
abbrev pub KeyTakesOne : Type 0
KeyTakesOne = (v w x : Text) → command_of (codes "key" ∷ (codes "--schema=" ++ v) ∷ (codes "--encode=" ++ w) ∷ (codes "--decode=" ++ x) ∷ []) ≡ Err Usage
