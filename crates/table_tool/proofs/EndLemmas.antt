-- Statuses, counts of faults, and what was written in two parts: the ends of all commands stand on it.
use Rattle.std.proofs.Common.{◌≡◌, ◌⊎◌, ℕ, ◌+◌, ◌≤◌, List, ◌++◌, length, take, Option, None, Some, inl, inr, refl, sym, ap, ◌∙◌, arith, append_assoc, length-append}
use Rattle.std.proofs.Math.Seq.{take-append-add}
use Rattle.outside.specs.Causes.{Rose}
use Rattle.outside.specs.Told.{WhereTold}
use Rattle.table_tool.specs.declared.status.Status.{Status}
use Rattle.table_tool.specs.declared.status.Status.TheVariants as status
use Rattle.table_tool.specs.FaultLine.{fault_line}
use Rattle.table_tool.specs.Outcome.{AppendsPrefix, IsOrNoMemory, Says, SaysRefusal}

-- a count that rose after a while rose
pub earlier : (sink mid sink' : ℕ) → sink ≤ mid → Rose mid sink' → Rose sink sink'
earlier sink mid sink' before rose = omega arith

-- the status, or want of memory
pub either : (expected result : Status) → IsOrNoMemory expected result → (result ≡ expected) ⊎ (result ≡ status.NoMemory)
either expected status.NoMemory is = inr refl
either expected status.Ok is = inl is
either expected status.Usage is = inl is
either expected status.Key is = inl is
either expected (status.BadLine line cause) is = inl is
either expected (status.Full line) is = inl is
either expected status.SourceFault is = inl is
either expected status.SinkFault is = inl is
either expected status.StoreFault is = inl is
either expected (status.Damaged damage) is = inl is
either expected status.Unfinished is = inl is
either expected status.Exists is = inl is
either expected status.TooLarge is = inl is
either expected (status.Unsound mismatch) is = inl is

-- and so it is with a prefix of what is held behind it
pub cut_prefix : (written between written' : Option (List ℕ)) (pushed text lines : List ℕ) → pushed ++ text ≡ lines → WhereTold written between (λ before after. after ≡ before ++ pushed)
    → WhereTold between written' (AppendsPrefix text) → WhereTold written written' (AppendsPrefix lines)
cut_prefix None None None pushed text lines is told more = tt
cut_prefix None None (Some c) pushed text lines is told more = absurd more
cut_prefix None (Some b) c pushed text lines is told more = absurd told
cut_prefix (Some a) None c pushed text lines is told more = absurd told
cut_prefix (Some a) (Some b) None pushed text lines is told more = absurd more
cut_prefix (Some a) (Some b) (Some c) pushed text lines is told (k, short, e) = (
  length pushed + k,
  omega (arith, ap length is, length-append pushed text),
  e ∙ (ap (λ t. t ++ take k text) told ∙ (append_assoc a pushed (take k text) ∙ ap (λ t. a ++ t) (sym (take-append-add pushed text k) ∙ ap (take (length pushed + k)) is))),
)

-- what was said of a refusal after a while was said
module _ (sink mid sink' : ℕ) (before : sink ≤ mid) where
  says_from : (text x y : List ℕ) → Says text mid sink' x y → Says text sink sink' x y
  says_from text x y (inl e) = inl e
  says_from text x y (inr (rose, cut)) = inr (earlier sink mid sink' before rose, cut)

  pub says_earlier : (s : Status) (x y : List ℕ) → SaysRefusal s mid sink' x y → SaysRefusal s sink sink' x y
  says_earlier status.Ok x y is = tt
  says_earlier status.Usage x y is = says_from (fault_line status.Usage) x y is
  says_earlier status.Key x y is = says_from (fault_line status.Key) x y is
  says_earlier (status.BadLine line cause) x y is = says_from (fault_line (status.BadLine line cause)) x y is
  says_earlier (status.Full line) x y is = says_from (fault_line (status.Full line)) x y is
  says_earlier status.SourceFault x y is = says_from (fault_line status.SourceFault) x y is
  says_earlier status.SinkFault x y is = tt
  says_earlier status.StoreFault x y is = says_from (fault_line status.StoreFault) x y is
  says_earlier (status.Damaged damage) x y is = says_from (fault_line (status.Damaged damage)) x y is
  says_earlier status.Unfinished x y is = says_from (fault_line status.Unfinished) x y is
  says_earlier status.Exists x y is = says_from (fault_line status.Exists) x y is
  says_earlier status.TooLarge x y is = says_from (fault_line status.TooLarge) x y is
  says_earlier (status.Unsound mismatch) x y is = says_from (fault_line (status.Unsound mismatch)) x y is
  says_earlier status.NoMemory x y is = is
