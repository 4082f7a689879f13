-- What the lines of a script spell: puts, gets, and the ends of batches. This project's own.
use Rattle.std.specs.Prelude.{ℕ, ◌+◌, List, [], ◌∷◌}
use Rattle.key_types.specs.Kinds.{Val, bytes}
use Rattle.key_types.specs.Columns.{Columns}
use Rattle.byte_comparable.specs.Encoding.{key_string}
use Rattle.byte_comparable.specs.Order.{within_string}
use Rattle.script_text.specs.Puts.{Put, Get}
use Rattle.script_text.specs.Grammar.{PutText, LineText, no_text, put_text, get_text, sync_text}

-- nothing; or a put or a get, with its strings; or the end of a batch
pub data Line : Type 0 where
  no_line : Line
  put_line : Put → Line
  get_line : Get → Line
  sync_line : Line

-- the bytes of a text or blob
abbrev pub value_bytes : Val → List ℕ
value_bytes (bytes b) = b
value_bytes _ = []

-- the put of a line with this number: the strings of its key, and the bytes of its value
abbrev pub spelled_put : Columns → ℕ → PutText → Put
spelled_put s number p =
    record { line = number; partition = key_string s.partition p.key.partition; clustering = within_string s.clustering p.key.clustering; value = value_bytes p.value }

-- what is said on the line with this number, with its strings; a get goes to this reader
abbrev pub spelled_line : Columns → ℕ → ℕ → LineText → Line
spelled_line s number reader no_text = no_line
spelled_line s number reader (put_text p) = put_line (spelled_put s number p)
spelled_line s number reader (get_text key) =
    get_line (record { line = number; reader = reader; partition = key_string s.partition key.partition; clustering = within_string s.clustering key.clustering })
spelled_line s number reader sync_text = sync_line

-- ---- several lines

-- the number of gets up to and with a line, where there are so many before it
abbrev pub gets_after : Line → ℕ → ℕ
gets_after no_line gets = gets
gets_after (put_line p) gets = gets
gets_after (get_line g) gets = gets + 1
gets_after sync_line gets = gets

-- the puts of some lines in their order
abbrev pub puts_in : List Line → List Put
puts_in [] = []
puts_in (no_line ∷ lines) = puts_in lines
puts_in (put_line p ∷ lines) = p ∷ puts_in lines
puts_in (get_line g ∷ lines) = puts_in lines
puts_in (sync_line ∷ lines) = puts_in lines

-- the gets of some lines in their order
abbrev pub gets_in : List Line → List Get
gets_in [] = []
gets_in (no_line ∷ lines) = gets_in lines
gets_in (put_line p ∷ lines) = gets_in lines
gets_in (get_line g ∷ lines) = g ∷ gets_in lines
gets_in (sync_line ∷ lines) = gets_in lines
