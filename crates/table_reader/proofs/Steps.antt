-- Steps of a get, one behind the other.
use Rattle.std.proofs.Common.{◌≡◌, ℕ, ◌+◌, ◌≤◌, List, length, Option, None, Some, IfSome, Result, Ok, Err, OnOk, inl, inr, arith, refl, subst, sym}
use Rattle.std.specs.Prelude.{ℤ}
use Rattle.outside.specs.Files.{Files}
use Rattle.bti_nodes.specs.declared.damage.Damage.{Damage}
use Rattle.bti_reader.proofs.Asking.{join, join3}
use Rattle.data_file.specs.declared.reading.DataError.{DataError}
use Rattle.data_file.specs.declared.reading.DataError.TheVariants.{StoreFault, Damaged, NoMemory}
use Rattle.index_files.specs.declared.footer.FooterNumbers.{FooterNumbers}
use Rattle.index_files.specs.Reading.{partition_place}
use Rattle.key_types.specs.Columns.{Columns}
use Rattle.table_reader.specs.declared.fault.TableFault.{TableFault}
use Rattle.table_reader.specs.declared.place.PartitionAt.{PartitionAt}
use Rattle.table_reader.specs.Gets.{FindsHead, FindsInside, FindsThere, Found, Gets, IfThere, LeadsTo, TableBytes, Then, bytes_in, number_in}
use Rattle.table_reader.specs.Reads.{Ends, IsBounded, IsWithinThere, clustering_length}

-- a step that ended well, and what followed it
pub step_ok : {A B : Type 0} (Step : Result A Damage → Type 0) (Rest : A → Result B Damage → Type 0) (x : A) (r : Result B DataError)
    → Step (Ok x) → Ends (Rest x) r → Ends (Then Step Rest) r
step_ok Step Rest x (Ok value) step rest = inr (x, step, rest)
step_ok Step Rest x (Err (Damaged damage)) step rest = inr (x, step, rest)
step_ok Step Rest x (Err StoreFault) step rest = tt
step_ok Step Rest x (Err NoMemory) step rest = tt

-- one that ended in damage, or not at all
pub step_err : {A B : Type 0} (Step : Result A Damage → Type 0) (Rest : A → Result B Damage → Type 0) (e : DataError) → Ends Step (Err e)
    → Ends (Then Step Rest) (Err e)
step_err Step Rest (Damaged damage) step = inl (damage, step, refl)
step_err Step Rest StoreFault step = tt
step_err Step Rest NoMemory step = tt

-- the partition is the key's
pub there_found : (fs gs hs : Option Files) (columns : Columns) (generation : ℕ) (key : List ℕ) (wanted : Option (List ℕ)) (number : ℤ) (there : PartitionAt) (behind : ℕ)
    (r : Result (Option (List ℕ)) DataError) → gs ≡ fs → hs ≡ gs → IfSome fs (λ m. LeadsTo (bytes_in columns m generation) (partition_place number) (Ok there))
    → IfSome gs (λ m. FindsHead (bytes_in columns m generation) key there.head (Ok (Some behind)))
    → IfSome hs (λ m. Ends (FindsInside (bytes_in columns m generation) there wanted behind) r)
    → IfSome fs (λ m. Ends (FindsThere (bytes_in columns m generation) key wanted number) r)
there_found fs gs hs columns generation key wanted number there behind r same also leads head inside =
    join3 fs gs hs same also head leads inside (λ m h l i.
    let t = bytes_in columns m generation in
    let Rest : PartitionAt → Found → Type 0 = λ p. Then (FindsHead t key p.head) (λ b. IfThere b (FindsInside t p wanted)) in
    step_ok (LeadsTo t (partition_place number)) Rest there r l
    (step_ok (FindsHead t key there.head) (λ b. IfThere b (FindsInside t there wanted)) (Some behind) r h i))

-- it is another's
pub there_none : (fs gs : Option Files) (columns : Columns) (generation : ℕ) (key : List ℕ) (wanted : Option (List ℕ)) (number : ℤ) (there : PartitionAt)
    → gs ≡ fs → IfSome fs (λ m. LeadsTo (bytes_in columns m generation) (partition_place number) (Ok there))
    → IfSome gs (λ m. FindsHead (bytes_in columns m generation) key there.head (Ok None))
    → IfSome fs (λ m. Ends (FindsThere (bytes_in columns m generation) key wanted number) (Ok None))
there_none fs gs columns generation key wanted number there same leads head =
    join fs gs same head leads (λ m h l.
    let t = bytes_in columns m generation in
    let Rest : PartitionAt → Found → Type 0 = λ p. Then (FindsHead t key p.head) (λ b. IfThere b (FindsInside t p wanted)) in
    step_ok (LeadsTo t (partition_place number)) Rest there (Ok None) l
    (step_ok (FindsHead t key there.head) (λ b. IfThere b (FindsInside t there wanted)) None (Ok None) h refl))

-- the index has a number for the key
pub number_found : (fs gs : Option Files) (columns : Columns) (generation : ℕ) (footer : FooterNumbers) (key : List ℕ) (wanted : Option (List ℕ)) (number : ℤ)
    (r : Result (Option (List ℕ)) DataError) → gs ≡ fs → IfSome fs (λ m. Ok (Some number) ≡ number_in (bytes_in columns m generation).partitions footer key)
    → IfSome gs (λ m. Ends (FindsThere (bytes_in columns m generation) key wanted number) r)
    → IfSome fs (λ m. Ends (Gets (bytes_in columns m generation) footer key wanted) r)
number_found fs gs columns generation footer key wanted number r same found there =
    join fs gs same there found (λ m h n.
    let t = bytes_in columns m generation in
    let Step : Result (Option ℤ) Damage → Type 0 = λ found. found ≡ number_in t.partitions footer key in
    step_ok Step (λ found. IfThere found (FindsThere t key wanted)) (Some number) r n h)

-- how often the store is read then
counted : (t : TableBytes) (footer : FooterNumbers) (key : List ℕ) (wanted : Option (List ℕ)) (number : ℤ) (first before after : ℕ)
    → Ok (Some number) ≡ number_in t.partitions footer key → before ≤ first + (length key + 1)
    → ((most : ℕ) → IsWithinThere t number wanted most → after ≤ before + 45 + clustering_length wanted + most) → IsBounded t footer key wanted first after
counted t footer key wanted number first before after found few reads most within =
    let more = reads most (within number (sym found)) in
    omega (arith, more, few)

pub number_reads : (fs gs : Option Files) (columns : Columns) (generation : ℕ) (footer : FooterNumbers) (key : List ℕ) (wanted : Option (List ℕ)) (number : ℤ)
    (r : Result (Option (List ℕ)) DataError) (first before after : ℕ) → gs ≡ fs → IfSome fs (λ m. Ok (Some number) ≡ number_in (bytes_in columns m generation).partitions footer key)
    → before ≤ first + (length key + 1)
    → IfSome gs (λ m. OnOk r ((most : ℕ) → IsWithinThere (bytes_in columns m generation) number wanted most → after ≤ before + 45 + clustering_length wanted + most))
    → IfSome fs (λ m. OnOk r (IsBounded (bytes_in columns m generation) footer key wanted first after))
number_reads fs gs columns generation footer key wanted number (Err e) first before after same found few reads = join fs gs same reads found (λ m h n. tt)
number_reads fs gs columns generation footer key wanted number (Ok value) first before after same found few reads =
    join fs gs same reads found (λ m h n. counted (bytes_in columns m generation) footer key wanted number first before after n few h)

-- ---- the footer of a table

-- what is said of the footer that is loaded
pub has_bound : (fs : Option Files) (loaded : Option FooterNumbers) (footer : FooterNumbers) (r : Result (Option (List ℕ)) TableFault) (value : Option (List ℕ))
    (Q : Files → FooterNumbers → Type 0) → loaded ≡ Some footer → r ≡ Ok value → IfSome fs (λ m. Q m footer) → IfSome fs (λ m. IfSome loaded (λ f. OnOk r (Q m f)))
has_bound None loaded footer r value Q is ok told = tt
has_bound (Some m) loaded footer r value Q is ok told =
    subst (λ (f : Option FooterNumbers). IfSome f (λ x. OnOk r (Q m x))) (sym is) (subst (λ (x : Result (Option (List ℕ)) TableFault). OnOk x (Q m footer)) (sym ok) told)

-- nothing is said after an error
pub no_bound : (fs : Option Files) (loaded : Option FooterNumbers) (r : Result (Option (List ℕ)) TableFault) (e : TableFault) (Q : Files → FooterNumbers → Type 0) → r ≡ Err e
    → IfSome fs (λ m. IfSome loaded (λ f. OnOk r (Q m f)))
no_bound None loaded r e Q is = tt
no_bound (Some m) None r e Q is = tt
no_bound (Some m) (Some f) r e Q is = subst (λ (x : Result (Option (List ℕ)) TableFault). OnOk x (Q m f)) (sym is) tt
