-- Bytes of a file that were read and are not yet used. This project's own.
use Rattle.std.specs.Prelude.{◌≡◌, ◌⊎◌, ℕ, ◌+◌, ◌*◌, ◌≤◌, Bool, true, false, List, [], ◌++◌, length, drop}

-- the unused bytes, the place of the first of them, the length of the file, and whether the file ends behind the bytes
pub record Unread : Type 0 where
  pub bytes : List ℕ
  pub at : ℕ
  pub limit : ℕ
  pub whole : Bool

-- the unused bytes are the file's from their place on, and all of them where the file ends behind them
pub record Continues (file : List ℕ) (window : Unread) : Type 0 where
  pub rest : List ℕ
  pub is : drop window.at file ≡ window.bytes ++ rest
  pub ended : window.whole ≡ true → rest ≡ []
  pub long : length file ≡ window.limit

-- no row is longer than this, and no head with its static part
abbrev pub enough : ℕ
enough = 66564

-- the longest row is among the unused bytes, or they are all
abbrev pub HasEnough : Unread → Type 0
HasEnough window = (window.whole ≡ true) ⊎ (enough ≤ length window.bytes)

-- a file is read by pages of so many bytes
abbrev pub page_size : ℕ
page_size = 4096

-- a window that was read ahead has at most so many bytes
abbrev pub most_ahead : ℕ
most_ahead = 86016

-- the place up to which the file was read
abbrev pub read_to : Unread → ℕ
read_to window = window.at + length window.bytes

-- the last page of a file may have any number of bytes, and counts as a whole one
abbrev pub last_page : Bool → ℕ
last_page true = page_size
last_page false = 0

-- from one window to another there were so many reads at most as whole pages were read
abbrev pub PaysReads : Unread → Unread → ℕ → ℕ → Type 0
PaysReads window window' before after =
    page_size * after + read_to window + last_page window.whole
    ≤ page_size * before + read_to window' + last_page window'.whole
