-- Pages that a cache holds.
use Rattle.std.specs.Prelude.{◌≡◌, ℕ, List, [], ◌∷◌, take, Option, Some, None, OnOk, OnErr, Result, if◌then◌else◌}
use Rattle.std.specs.Map.{keys_of, lookup}
use Rattle.outside.specs.declared.store.FileId.{FileId}
use Rattle.outside.specs.Files.{Files, bytes_of}
use Rattle.outside.specs.Pages.{page_of}
use Rattle.page_cache.specs.declared.key.PageKey.{PageKey}
use Rattle.page_cache.specs.Key.{same_page}

-- the pages that are held, none twice, and their bytes; the last used first
abbrev pub HeldPages : Type 0
HeldPages = List (PageKey × List ℕ)

-- the page of that number of a file
abbrev pub page_key : FileId → ℕ → PageKey
page_key file number = record { file = file; number = number }

-- the pages of a list but that page
abbrev pub others : PageKey → List PageKey → List PageKey
others key [] = []
others key (k ∷ ks) = if same_page key k then ks else k ∷ others key ks

-- this page first, then the others in their order, cut to 64
abbrev pub used_last : PageKey → List PageKey → List PageKey
used_last key ks = take 64 (key ∷ others key ks)

-- each page that is held is that page of its file
abbrev pub AreOf : Files → HeldPages → Type 0
AreOf files [] = Unit {0}
AreOf files (p ∷ ps) = (p.1 ≡ page_of (bytes_of files p.0.file) p.0.number) × AreOf files ps

-- where the files are told, each page that is held is that page of its file as it stands
abbrev pub Honest : Option Files → HeldPages → Type 0
Honest None ps = Unit {0}
Honest (Some files) ps = AreOf files ps

-- the bytes of a page, where it is held
abbrev pub page_in : FileId → ℕ → HeldPages → Option (List ℕ)
page_in file number ps = lookup (same_page (page_key file number)) ps

-- What a call for a page does to the pages that are held. At Ok the page is the last used; after an Err they are as
-- before.
pub record Uses {T E : Type 0} (files : Option Files) (file : FileId) (number : ℕ)
    (old : HeldPages) (result : Result T E) (new : HeldPages) : Type 0 where
  pub honest : Honest files new
  pub ok : OnOk result (keys_of new ≡ used_last (page_key file number) (keys_of old))
  pub err : OnErr result (new ≡ old)
