-- The rule of the table: its words and what its seats know are at all times a state of the trie machine. This project's
-- own.
use Rattle.std.specs.Prelude.{◌≡◌, ℕ, ◌*◌, ◌≤◌, List, [], ◌++◌, map, length, replicate, Option, Some, None}
use mathlib.Core.Option.{some}
use lib.ListN.{get_elem?}
use Rattle.atomic_table.specs.Table.{State}
use Rattle.trie_image.specs.declared.Put.{Put}
use Rattle.trie_machine.specs.declared.Reader.{Reader}
use Rattle.trie_machine.specs.State.{MachineState, IsMachine}
use Rattle.trie_machine.specs.Events.{resting}
use Rattle.trie_rule.specs.declared.views.WriteView.{WriteView}
use Rattle.trie_rule.specs.declared.views.ReadView.{ReadView}
use Rattle.trie_rule.specs.declared.views.View.{View}
use Rattle.trie_rule.specs.declared.views.View.TheVariants.{Spent, Writes, Reads}

-- the list ys starts with xs
abbrev pub IsStartOf : List Put → List Put → Type 0
IsStartOf xs ys = (rest : List Put) × (ys ≡ xs ++ rest)

-- the machine that the writer's view and these readers are together
abbrev pub state_of : WriteView → List (Option Reader) → MachineState
state_of w readers = record {
  cells = w.cells;
  words = w.image;
  used = w.used;
  puts = w.made;
  begun = w.begun;
  readers = readers;
}

-- the reader of a view; the writer's view and a spent one have none
abbrev pub reader_of : View → Option Reader
reader_of (Reads r) = Some r.reader
reader_of (Writes w) = None
reader_of Spent = None

-- the machine that the writer's view and all views are together; the readers are numbered as their seats are
abbrev pub assembled : WriteView → List View → MachineState
assembled w views = state_of w (map reader_of views)

-- these puts are a start of those that are made, and no more than a reader has seen
abbrev pub IsKnownPart : List Put → List Put → List Put → Type 0
IsKnownPart xs seen made = IsStartOf xs made × (length xs ≤ length seen)

-- what a reader knows is true of the writer: it has seen a start of the puts, at least as many as its front says, and
-- what it keeps of the last join is such a start too
pub record Knows (w : WriteView) (r : ReadView) : Type 0 where
  pub cells : r.cells ≡ w.cells
  pub seen : IsStartOf r.seen w.made
  pub front : r.reader.front ≤ length r.seen
  pub left : IsKnownPart r.left r.seen w.made
  pub right : IsKnownPart r.right r.seen w.made

module _ {S : Type 0} where
  -- the table's words and all views are a state of the machine, where the seat of this number, and no other, is the
  -- writer's
  pub record RunsAt (cells : ℕ) (s : State S View) (writer : ℕ) (w : WriteView) : Type 0 where
    pub is_machine : IsMachine (assembled w s.views)
    pub sized : w.cells ≡ cells
    pub words_are : s.words ≡ w.image
    pub alone : (j : ℕ) (v : WriteView) → get_elem? s.views j ≡ some (Writes v) → (j ≡ writer) × (v ≡ w)
    pub reads : (j : ℕ) (r : ReadView) → get_elem? s.views j ≡ some (Reads r) → Knows w r

  -- the running rule, by the number of cells
  abbrev pub Running : ℕ → State S View → Type 0
  Running cells s = (writer : ℕ) × (w : WriteView) × RunsAt cells s writer w

-- what the first seat knows: all words are 0, cell 0 alone is taken, and no put is made or under way
abbrev pub opening_write_view : ℕ → WriteView
opening_write_view cells = record { cells = cells; image = replicate (4 * cells) 0; used = 1; made = []; begun = None }

abbrev pub opening_view : ℕ → View
opening_view cells = Writes (opening_write_view cells)

-- what stands in for the writer's view where a seat is of another kind, and for a reader's
abbrev pub no_write_view : WriteView
no_write_view = record { cells = 0; image = []; used = 0; made = []; begun = None }

abbrev pub no_read_view : ReadView
no_read_view = record { cells = 0; seen = []; left = []; right = []; reader = resting 0 }

-- the writer's view in a view, and the reader's
abbrev pub write_view_of : View → WriteView
write_view_of (Writes w) = w
write_view_of (Reads r) = no_write_view
write_view_of Spent = no_write_view

abbrev pub read_view_of : View → ReadView
read_view_of (Reads r) = r
read_view_of (Writes w) = no_read_view
read_view_of Spent = no_read_view
