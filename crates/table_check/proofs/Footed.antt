-- The footer that a file's last bytes have is the file's.
use Rattle.std.proofs.Common.{◌≡◌, ◌∙◌, ◌⊎◌, ℕ, ◌-◌, ◌≤◌, ◌^◌, List, ◌++◌, length, take, drop, Ok, Err, ap, arith, subst, sym, append_assoc}
use Rattle.outside.specs.declared.store.Part.TheVariants.{Partitions}
use Rattle.bti_nodes.specs.declared.damage.Cause.TheVariants.{BadFooter}
use Rattle.key_types.specs.Columns.{Columns}
use Rattle.length_prefix.specs.Counted.{counted}
use Rattle.data_file.specs.declared.reading.DataError.TheVariants.{Damaged}
use Rattle.index_files.specs.declared.footer.FooterNumbers.{FooterNumbers}
use Rattle.index_files.specs.Footers.{EndsInNone, IsFooter, NoFooter}
use Rattle.index_files.specs.Reading.{file_damage, footer_place}
use Rattle.index_files.proofs.Footers.{grouped, same_ends}
use Rattle.index_files.proofs.Told.{IsTail, tail_of}
use Rattle.partition_index.specs.File.{behind_trie, footer}
use Rattle.data_walk.specs.declared.refusal.Refusal.{Refusal}
use Rattle.data_walk.specs.declared.refusal.Refusal.TheVariants.{Unread}
use Rattle.data_walk.specs.declared.clash.Clash.TheVariants.{Key}
use Rattle.data_walk.specs.Refusals.{clash_at}
use Rattle.table_check.specs.Footing.{ChecksFooter, ComparesFooter, EndsInThis, HasFooterOf}
use Rattle.table_check.proofs.Once.{footer_long}

-- a file that ends with the numbers of its footer
spelled_file : (columns : Columns) (file front first last : List ℕ) (numbers : FooterNumbers)
    → (is : IsFooter columns file first last numbers)
    → file ≡ front ++ footer numbers.strings numbers.partitions numbers.root
    → file ≡ is.trie ++ behind_trie first last (length is.trie) numbers.partitions numbers.root
spelled_file columns file front first last numbers is ends =
    let written = footer numbers.strings numbers.partitions numbers.root in
    let strings = is.trie ++ (counted first ++ counted last) in
    let whole : strings ++ is.end ≡ front ++ written = sym (grouped is.trie (counted first) (counted last) is.end)
    ∙ sym is.stands ∙ ends in
    let same = (same_ends strings front is.end written
    (is.count ∙ sym (footer_long numbers.strings numbers.partitions numbers.root)) whole).1 in
    is.stands
    ∙ ap (λ (l : List ℕ). is.trie ++ (counted first ++ (counted last ++ l))) same
    ∙ ap (λ (n : ℕ). is.trie ++ behind_trie first last n numbers.partitions numbers.root) (sym is.place)

module _ (columns : Columns) (size start : ℕ) (tail first last : List ℕ) (s : start ≡ size - 2076) where
  tail_is : (file : List ℕ) → size ≡ length file → tail ≡ take 2076 (drop (size - 2076) file) → IsTail file start tail
  tail_is file n t = tail_of file size start tail n s (t ∙ ap (λ k. take 2076 (drop k file)) (sym s))

  module _ (there last_there : List ℕ) (numbers : FooterNumbers)
      (ends : EndsInThis columns start tail there last_there numbers) where
    is_of : (file : List ℕ) → IsTail file start tail → IsFooter columns file there last_there numbers
    is_of file t = subst (λ (f : List ℕ). IsFooter columns f there last_there numbers) t.joined
        (ends.ends (take start file) t.before)

    pub compares_same : (position : ℕ) → size ≤ 2 ^ 64 - 1 → position ≡ footer_place size
        → (there ≡ first) × (last_there ≡ last)
        → ComparesFooter columns size tail first last (Ok (record { position = position; numbers = numbers }))
    compares_same position short place (one, other) file n t =
        let i = tail_is file n t in
        let is = is_of file i in
        let front = take start file ++ ends.spelled.0 in
        let written = footer numbers.strings numbers.partitions numbers.root in
        let spelled : file ≡ front ++ written =
        sym i.joined ∙ ap (λ l. take start file ++ l) ends.spelled.1
        ∙ sym (append_assoc (take start file) ends.spelled.0 written) in
        subst (λ (l : List ℕ). HasFooterOf columns file first l (record { position = position; numbers = numbers }))
        other (
        subst (λ (l : List ℕ). HasFooterOf columns file l last_there
        (record { position = position; numbers = numbers })) one (
        record {
          is = is;
          stands = spelled_file columns file front there last_there numbers is spelled;
          place = place ∙ ap footer_place n;
          short = omega (arith, short, n);
          few = ends.few;
        }
        )
        )

    pub compares_other : (position : ℕ) (e : Refusal) → position ≡ footer_place size
        → e ≡ clash_at Partitions position Key
        → ((there ≡ first) × (last_there ≡ last) → ⊥) → ComparesFooter columns size tail first last (Err e)
    compares_other position e place is differ file n t =
        subst (λ (x : Refusal). ChecksFooter columns file first last (Err x)) (sym is) (
          ap (λ k. record { part = Partitions; position = k; clash = Key }) (place ∙ ap footer_place n),
          record {
            first_there = there;
            last_there = last_there;
            numbers = numbers;
            is = is_of file (tail_is file n t);
            differ = λ one other. differ (one, other);
          },
        )

  pub compares_none : (position : ℕ) (e : Refusal) → position ≡ footer_place size
      → e ≡ Unread (Damaged (file_damage Partitions position BadFooter))
      → ((start ≡ 0) ⊎ (2076 ≤ length tail) → EndsInNone columns start tail)
      → ComparesFooter columns size tail first last (Err e)
  compares_none position e place is none file n t =
      let i = tail_is file n t in
      subst (λ (x : Refusal). ChecksFooter columns file first last (Err x)) (sym is) (
        ap (λ k. file_damage Partitions k BadFooter) (place ∙ ap footer_place n),
        subst (NoFooter columns) i.joined (none i.enough (take start file) i.before),
      )
