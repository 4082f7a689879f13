-- The kinds of step: how each changes the view of its seat, and what it tells. This project's own.
use Rattle.std.specs.Prelude.{◌≡◌, ℕ, ◌+◌, ◌*◌, ◌/◌, ◌<◌, ◌≤◌, max, List, [], ◌∷◌, ◌++◌, length, slice_index, slice_set, Option, Some, None, Bool, true, false, nat_le}
use Rattle.atomic_table.specs.Table.{Me, Step}
use Rattle.trie_image.specs.declared.Put.{Put}
use Rattle.trie_image.specs.declared.Rec.{Rec}
use Rattle.trie_image.specs.declared.Advance.{Advance}
use Rattle.trie_image.specs.declared.StoreKind.{StoreKind}
use Rattle.trie_image.specs.declared.StoreKind.TheVariants.{Prepare, Publish, Finish}
use Rattle.trie_image.specs.declared.WordStore.{WordStore}
use Rattle.trie_image.specs.Puts.{IsKey, IsValue}
use Rattle.trie_image.specs.Place.{outcome_of}
use Rattle.trie_image.specs.Stores.{stores_of, cost}
use Rattle.trie_image.specs.Publish.{put_at}
use Rattle.trie_machine.specs.declared.Begun.{Begun}
use Rattle.trie_machine.specs.declared.Find.{Find}
use Rattle.trie_machine.specs.declared.Reader.{Reader}
use Rattle.trie_machine.specs.State.{HasImage}
use Rattle.trie_machine.specs.Events.{with_done, resting, starting, reader_after, LoadTells, HasWord, value_word_at, IsWordOf}
use Rattle.trie_rule.specs.declared.views.WriteView.{WriteView}
use Rattle.trie_rule.specs.declared.views.ReadView.{ReadView}
use Rattle.trie_rule.specs.declared.views.View.{View}
use Rattle.trie_rule.specs.declared.views.View.TheVariants.{Writes, Reads}
use Rattle.trie_rule.specs.Rule.{IsStartOf, write_view_of, read_view_of}

-- the put under way, or the one that is asked for, of which no store is made
abbrev pub begun_by : WriteView → List ℕ → List ℕ → Option Begun → Begun
begun_by w key value None = record { key = key; value = value; done = []; left = stores_of w.image w.used key value }
begun_by w key value (Some b) = b

abbrev pub begun_or : WriteView → List ℕ → List ℕ → Begun
begun_or w key value = begun_by w key value w.begun

-- a put of this key and value may begin where none is under way, or go on where it is the one
abbrev pub MayPut : WriteView → List ℕ → List ℕ → Option Begun → Type 0
MayPut w key value None = IsKey key × IsValue value × (w.used + cost (length key) (length value) ≤ w.cells)
MayPut w key value (Some b) = (b.key ≡ key) × (b.value ≡ value)

-- the writer's view after the store s of the put b, where these stores are left, by the store's kind: the publishing one
-- takes the put's cells, of which the stores before filled four words each
abbrev pub after_store : WriteView → Begun → WordStore → List WordStore → StoreKind → WriteView
after_store w b s left Prepare = record w {
  image = slice_set w.image s.word s.value;
  begun = Some (with_done b s left);
}
after_store w b s left Publish = record w {
  image = slice_set w.image s.word s.value;
  used = w.used + length b.done / 4;
  made = w.made ++ put_at b.key b.value w.used ∷ [];
  begun = Some (with_done b s left);
}
after_store w b s left Finish = record w { image = slice_set w.image s.word s.value; begun = None }

-- after the first of the stores that are left
abbrev pub wrote_by : WriteView → Begun → List WordStore → WriteView
wrote_by w b [] = w
wrote_by w b (s ∷ left) = after_store w b s left s.kind

-- after the next store of the put under way, or the first one of the put that is asked for
abbrev pub wrote : WriteView → List ℕ → List ℕ → WriteView
wrote w key value = wrote_by w (begun_or w key value) (begun_or w key value).left

-- a reader's view that has seen these puts
abbrev pub read_view_with : ReadView → List Put → Reader → ReadView
read_view_with r seen reader = record { cells = r.cells; seen = seen; left = []; right = []; reader = reader }

-- a reader with this front, and a find that begins where there is a key
abbrev pub reader_with : ℕ → Option (List ℕ) → Reader
reader_with front None = resting front
reader_with front (Some key) = starting front key

-- a find of such a key may begin
abbrev pub MayFind : Option (List ℕ) → Type 0
MayFind None = Unit {0}
MayFind (Some key) = IsKey key

-- the words are those of a well-formed image for the puts made, and word 0 counts them where no put is under way
abbrev pub IsStanding : WriteView → Type 0
IsStanding w = HasImage w.image w.cells w.used w.made × (w.begun ≡ None → slice_index w.image 0 ≡ length w.made)

-- the words of these puts' values lie below this number
abbrev pub HasValuesBelow : ℕ → List Put → Type 0
HasValuesBelow words puts = (rec : Rec) (i : ℕ) → HasWord puts rec i → value_word_at rec i < words

-- a word that is a word i of the value of one of these puts has its bytes
abbrev pub IsValueWord : List Put → ℕ → ℕ → Type 0
IsValueWord puts word loaded = (rec : Rec) (i : ℕ) (has : HasWord puts rec i) → word ≡ value_word_at rec i
    → IsWordOf has.put.value i loaded

module _ {S : Type 0} where
  -- Look: nothing changes, and the writer learns the word of its image
  abbrev pub LookShows : Step S → Me S View → ℕ → Me S View → Type 0
  LookShows st me n me' = let w : WriteView = write_view_of me.0 in
      (me' ≡ me) × (n ≡ slice_index w.image st.word) × IsStanding w

  -- Prepare, Publish and Finish: the next store is made
  abbrev pub StoreShows : List ℕ → List ℕ → Step S → Me S View → ℕ → Me S View → Type 0
  StoreShows key value st me n me' = me' ≡ (Writes (wrote (write_view_of me.0) key value), me.1)

  -- the reader goes on as `now`, and has seen at least what it had, whose values lie in the table
  pub record ReaderGoesOn (me : Me S View) (now : Reader) (seen : List Put) (me' : Me S View) : Type 0 where
    pub more : IsStartOf (read_view_of me.0).seen seen
    pub front : now.front ≤ length seen
    pub next : me' ≡ (Reads (read_view_with (read_view_of me.0) seen now), me.1)
    pub values : HasValuesBelow (4 * (read_view_of me.0).cells) seen

  -- Front: the front is raised to the number that was loaded, and a find begins where there is a key
  abbrev pub FrontShows : Option (List ℕ) → Step S → Me S View → ℕ → Me S View → Type 0
  FrontShows key st me n me' = let r : ReadView = read_view_of me.0 in
      (seen : List Put) × ReaderGoesOn me (reader_with (max r.reader.front n) key) seen me'

  -- Look and Copy, where no find is under way: nothing changes, a word of the value of a put that was seen has its bytes,
  -- and what is kept of the last join starts what was seen. Load, where one is: it moves, or ends with a legal answer
  abbrev pub LoadShowsBy : Option Find → Step S → Me S View → ℕ → Me S View → Type 0
  LoadShowsBy None st me n me' = let r : ReadView = read_view_of me.0 in
      (me' ≡ me) × IsStartOf r.left r.seen × IsStartOf r.right r.seen × IsValueWord r.seen st.word n
  LoadShowsBy (Some f) st me n me' = let r : ReadView = read_view_of me.0 in
      let outcome : Advance = outcome_of f.place n f.key in
      (seen : List Put)
      × ReaderGoesOn me (reader_after r.reader f outcome) seen me' × LoadTells seen (4 * r.cells) f outcome

  abbrev pub LoadShows : Step S → Me S View → ℕ → Me S View → Type 0
  LoadShows st me n me' = LoadShowsBy (read_view_of me.0).reader.find st me n me'

-- Split: a reader that has seen all puts, with the count of word 0 as its front
abbrev pub told_read_view : WriteView → ReadView
told_read_view w = record {
  cells = w.cells;
  seen = w.made;
  left = [];
  right = [];
  reader = resting (slice_index w.image 0);
}

abbrev pub told_view : View → View
told_view v = Reads (told_read_view (write_view_of v))

abbrev pub pick_puts : Bool → List Put → List Put → List Put
pick_puts true xs ys = ys
pick_puts false xs ys = xs

-- the longer of two lists
abbrev pub longer_puts : List Put → List Put → List Put
longer_puts xs ys = pick_puts (nat_le (length xs) (length ys)) xs ys

-- Join: the greater front and the longer list; both lists are kept until the next step
abbrev pub joined_read_view : ReadView → ReadView → ReadView
joined_read_view r q = record {
  cells = r.cells;
  seen = longer_puts r.seen q.seen;
  left = r.seen;
  right = q.seen;
  reader = resting (max r.reader.front q.reader.front);
}

abbrev pub joined_view : View → View → View
joined_view v u = Reads (joined_read_view (read_view_of v) (read_view_of u))
