-- What the words ask for, and nothing else.
use Rattle.std.proofs.Common.{◌≡◌, ℕ, Bool, true, false, arith, List, Option, map, Result, Ok, Err, inl, inr, refl, sym, ◌∙◌, ap, subst}
use Rattle.std.specs.Prelude.{string_bytes, ◌⊎◌}
use Rattle.std.specs.declared.string.String.{String}
use Rattle.std.specs.declared.alloc.Global.{Global}
use Rattle.key_types.specs.Columns.{Columns}
use Rattle.schema_text.proofs.Short.{short}
use Rattle.schema_text.proofs.Unique.{one}
use Rattle.command_line.specs.Said.{Said, Way, check, gen, get, key, list, load, scan}
use Rattle.command_line.specs.Reading.{command_of}
use Rattle.command_line.specs.declared.command.WordsError.TheVariants as error
use Rattle.command_line.specs.declared.command.WordsError.{WordsError}
use Rattle.bounds_text.proofs.Standing.{one_text}
use Rattle.bounds_text.specs.Bounds.{IsBoundsText, OneBoundsText}
use Rattle.table_tool.specs.Loading.{LoadAsked}
use Rattle.command_line.specs.Said.{said_of, way_of}
use Rattle.command_line.specs.declared.command.Command.TheVariants as command
use Rattle.command_line.specs.declared.command.KeyArguments.{KeyArguments}
use Rattle.table_tool.specs.declared.request.GeneratedScript.{GeneratedScript}
use Rattle.table_tool.specs.declared.request.Request.{Request}
use Rattle.table_tool.specs.declared.request.Request.TheVariants as request
use Rattle.table_tool.specs.Request.{AreRefused, AskCheck, AskGen, AskGet, AskKey, AskList, AskLoad, AskPrint, AskScan, Asks, IsNoSchema, IsSchemaOf, LoadsScript, ReadsKey, ReadsSchema, Say, SaysLoad, generated_bounds, generated_schema, part_kinds, said_way}
use Rattle.key_types.specs.Kinds.{Kinds}
use Rattle.key_tool.specs.declared.request.KeyWay.{KeyWay}
use Rattle.key_tool.specs.declared.request.KeyWay.TheVariants.{Encode, Decode}
use Rattle.table_files.specs.SchemaFile.{HaveSchemaFile}

same_said : (r : Result Said WordsError) (a b : Said) → r ≡ Ok a → r ≡ Ok b → a ≡ b
same_said r a b e f = let both : ◌≡◌ {A = Result Said WordsError} (Ok a) (Ok b) = sym e ∙ f in cc

one_bounds : OneBoundsText
one_bounds = one_text

-- a text is of one schema
one_schema_of : (text : List ℕ) (c d : Columns) → IsSchemaOf text c → IsSchemaOf text d → c ≡ d
one_schema_of text c d is also = one c d text is.is also.is

-- ---- `list`

module _ (words : List (String Global)) (columns : Columns) (cells : ℕ) where
  pub list_one : AskList words columns cells → (others : Columns) (more : ℕ) → AskList words others more → (columns ≡ others) × (cells ≡ more)
  list_one (text, say, is) others more (text', say', is') =
      let texts : list text cells ≡ list text' more = same_said _ _ _ say say' in
      let same : text ≡ text' = cc in
      let count : cells ≡ more = cc in
      (one_schema_of text' columns others (subst (λ (t : List ℕ). IsSchemaOf t columns) same is) is', count)

  pub list_not_refused : AskList words columns cells → AreRefused words → ⊥
  list_not_refused (text, say, is) (inl e) = let both = sym say ∙ e in cc
  list_not_refused (text, say, is) (inr (inl (text', inl (more, say'), none))) =
      let texts : list text cells ≡ list text' more = same_said _ _ _ say say' in
      let same : text ≡ text' = cc in
      none columns (subst (λ (t : List ℕ). IsSchemaOf t columns) same is)
  list_not_refused (text, say, is) (inr (inl (text', inr (inl (bounds, more, readers, say')), none))) =
      let texts : list text cells ≡ load text' bounds more readers = same_said _ _ _ say say' in cc
  list_not_refused (text, say, is) (inr (inl (text', inr (inr (clustering, way, say')), none))) =
      let texts : list text cells ≡ key text' clustering way = same_said _ _ _ say say' in cc
  list_not_refused (text, say, is) (inr (inr (others, bounds, (text', more, readers, say', is'), none))) =
      let texts : list text cells ≡ load text' bounds more readers = same_said _ _ _ say say' in cc

-- ---- `load`

module _ (words : List (String Global)) (asked : LoadAsked) where
  pub load_one : AskLoad words asked → (others : LoadAsked) → AskLoad words others → asked ≡ others
  load_one (text, bounds, say, is, of) others (text', bounds', say', is', of') =
      let texts : load text bounds asked.cells asked.readers ≡ load text' bounds' others.cells others.readers = same_said _ _ _ say say' in
      let same : text ≡ text' = cc in
      let bound : bounds ≡ bounds' = cc in
      let cells : asked.cells ≡ others.cells = cc in
      let readers : asked.readers ≡ others.readers = cc in
      let columns = one_schema_of text' asked.columns others.columns (subst (λ (t : List ℕ). IsSchemaOf t asked.columns) same is) is' in
      let strings = one_bounds others.columns bounds' asked.bounds others.bounds
      (subst (λ (c : Columns). IsBoundsText c bounds' asked.bounds) columns (subst (λ (t : List ℕ). IsBoundsText asked.columns t asked.bounds) bound of)) of' in
      λ i. record { columns = columns i; bounds = strings i; cells = cells i; readers = readers i }

  pub load_not_refused : AskLoad words asked → AreRefused words → ⊥
  load_not_refused (text, bounds, say, is, of) (inl e) = let both = sym say ∙ e in cc
  load_not_refused (text, bounds, say, is, of) (inr (inl (text', inl (more, say'), none))) =
      let texts : load text bounds asked.cells asked.readers ≡ list text' more = same_said _ _ _ say say' in cc
  load_not_refused (text, bounds, say, is, of) (inr (inl (text', inr (inl (bounds', more, readers, say')), none))) =
      let texts : load text bounds asked.cells asked.readers ≡ load text' bounds' more readers = same_said _ _ _ say say' in
      let same : text ≡ text' = cc in
      none asked.columns (subst (λ (t : List ℕ). IsSchemaOf t asked.columns) same is)
  load_not_refused (text, bounds, say, is, of) (inr (inl (text', inr (inr (clustering, way, say')), none))) =
      let texts : load text bounds asked.cells asked.readers ≡ key text' clustering way = same_said _ _ _ say say' in cc
  load_not_refused (text, bounds, say, is, of) (inr (inr (others, bounds', (text', more, readers, say', is'), none))) =
      let texts : load text bounds asked.cells asked.readers ≡ load text' bounds' more readers = same_said _ _ _ say say' in
      let same : text ≡ text' = cc in
      let bound : bounds ≡ bounds' = cc in
      let columns = one_schema_of text' asked.columns others (subst (λ (t : List ℕ). IsSchemaOf t asked.columns) same is) is' in
      none asked.bounds (subst (λ (c : Columns). IsBoundsText c bounds' asked.bounds) columns (subst (λ (t : List ℕ). IsBoundsText asked.columns t asked.bounds) bound of))

-- a schema's text is short enough for Schema.txt
pub short_schema : (text : List ℕ) (columns : Columns) → IsSchemaOf text columns → HaveSchemaFile columns
short_schema text columns is = (is.bounds, (let long = short columns text is.is in let few = is.short in omega arith))

-- ---- `key`

same_way : (v w : KeyWay) (a b : List ℕ) → said_way v a ≡ said_way w b → (v ≡ w) × (a ≡ b)
same_way Encode Encode a b e = (refl, cc)
same_way Encode Decode a b e = cc
same_way Decode Encode a b e = cc
same_way Decode Decode a b e = (refl, cc)

module _ (words : List (String Global)) (kinds : Kinds) (way : KeyWay) (text : List ℕ) where
  -- the same types, way and text are asked for
  pub key_one : AskKey words kinds way text → (kinds' : Kinds) (way' : KeyWay) (text' : List ℕ) → AskKey words kinds' way' text' → (kinds ≡ kinds') × (way ≡ way') × (text ≡ text')
  key_one (schema, columns, clustering, say, is, of) kinds' way' text' (schema', columns', clustering', say', is', of') =
      let texts : key schema clustering (said_way way text) ≡ key schema' clustering' (said_way way' text') = same_said _ _ _ say say' in
      let same : schema ≡ schema' = cc in
      let part : clustering ≡ clustering' = cc in
      let ways : said_way way text ≡ said_way way' text' = cc in
      let one = one_schema_of schema' columns columns' (subst (λ (t : List ℕ). IsSchemaOf t columns) same is) is' in
      let both = same_way way way' text text' ways in
      (of ∙ ap (λ (b : Bool). part_kinds b columns) part ∙ ap (part_kinds clustering') one ∙ sym of', both.0, both.1)

-- ---- words ask for one command

-- the commands
pub data Name : Type 0 where
  ToList : Name
  ToLoad : Name
  ToGet : Name
  ToScan : Name
  ToCheck : Name
  ToKey : Name
  ToPrint : Name
  ToGen : Name

-- which of them is said
abbrev gen_name : Bool → Name
gen_name true = ToPrint
gen_name false = ToGen

abbrev name_of : Said → Name
name_of (list schema cells) = ToList
name_of (load schema bounds cells readers) = ToLoad
name_of (get text) = ToGet
name_of (scan from to) = ToScan
name_of check = ToCheck
name_of (key schema clustering way) = ToKey
name_of (gen seed count gets print cells readers) = gen_name print

module _ (words : List (String Global)) where
  -- the words say this command
  abbrev pub Names : Name → Type 0
  Names name = (said : Said) × Say words said × (name_of said ≡ name)

  pub one_name : (a b : Name) → Names a → Names b → a ≡ b
  one_name a b (said, say, is) (said', say', is') = sym is ∙ ap name_of (same_said _ said said' say say') ∙ is'

  pub list_names : (columns : Columns) (cells : ℕ) → AskList words columns cells → Names ToList
  list_names columns cells (text, say, is) = (list text cells, say, refl)

  pub load_names : (asked : LoadAsked) → AskLoad words asked → Names ToLoad
  load_names asked (text, bounds, say, is, of) = (load text bounds asked.cells asked.readers, say, refl)

  pub get_names : (text : List ℕ) → AskGet words text → Names ToGet
  get_names text say = (get text, say, refl)

  pub scan_names : (from to : Option (List ℕ)) → AskScan words from to → Names ToScan
  scan_names from to say = (scan from to, say, refl)

  pub check_names : AskCheck words → Names ToCheck
  check_names say = (check, say, refl)

  pub key_names : (kinds : Kinds) (way : KeyWay) (text : List ℕ) → AskKey words kinds way text → Names ToKey
  key_names kinds way text (schema, columns, clustering, say, is, of) = (key schema clustering (said_way way text), say, refl)

  pub print_names : (script : GeneratedScript) → AskPrint words script → Names ToPrint
  print_names script (cells, readers, say) = (gen script.seed script.count script.gets true cells readers, say, refl)

  pub gen_names : (script : GeneratedScript) (asked : LoadAsked) → AskGen words script asked → Names ToGen
  gen_names script asked (say, is) = (gen script.seed script.count script.gets false asked.cells asked.readers, say, refl)

  pub says_names : SaysLoad words → Names ToLoad ⊎ Names ToGen
  says_names (inl (text, bounds, cells, readers, say)) = inl (load text bounds cells readers, say, refl)
  says_names (inr (seed, count, gets, cells, readers, say)) = inr (gen seed count gets false cells readers, say, refl)

  -- words that say something else than `list`, `load` and `key` aren't refused by a text
  abbrev IsOther : Said → Type 0
  IsOther said = ((text : List ℕ) (cells : ℕ) → said ≡ list text cells → ⊥) × ((text bounds : List ℕ) (cells readers : ℕ) → said ≡ load text bounds cells readers → ⊥)
      × ((text : List ℕ) (clustering : Bool) (way : Way) → said ≡ key text clustering way → ⊥)

  other_not_refused : (said : Said) → IsOther said → Say words said → AreRefused words → ⊥
  other_not_refused said other say (inl e) = let both = sym say ∙ e in cc
  other_not_refused said other say (inr (inl (text, inl (cells, say'), none))) = other.0 text cells (same_said _ said (list text cells) say say')
  other_not_refused said other say (inr (inl (text, inr (inl (bounds, cells, readers, say')), none))) =
      other.1 text bounds cells readers (same_said _ said (load text bounds cells readers) say say')
  other_not_refused said other say (inr (inl (text, inr (inr (clustering, way, say')), none))) = other.2 text clustering way (same_said _ said (key text clustering way) say say')
  other_not_refused said other say (inr (inr (others, bounds, (text, cells, readers, say', is'), none))) =
      other.1 text bounds cells readers (same_said _ said (load text bounds cells readers) say say')

  pub get_not_refused : (text : List ℕ) → AskGet words text → AreRefused words → ⊥
  get_not_refused text say are =
      other_not_refused (get text) (λ text cells e. cc, λ text bounds cells readers e. cc, λ text clustering way e. cc) say are

  pub scan_not_refused : (from to : Option (List ℕ)) → AskScan words from to → AreRefused words → ⊥
  scan_not_refused from to say are =
      other_not_refused (scan from to) (λ text cells e. cc, λ text bounds cells readers e. cc, λ text clustering way e. cc) say are

  pub check_not_refused : AskCheck words → AreRefused words → ⊥
  check_not_refused say are = other_not_refused check (λ text cells e. cc, λ text bounds cells readers e. cc, λ text clustering way e. cc) say are

  pub print_not_refused : (script : GeneratedScript) → AskPrint words script → AreRefused words → ⊥
  print_not_refused script (cells, readers, say) are =
      other_not_refused (gen script.seed script.count script.gets true cells readers)
      (λ text cells e. cc, λ text bounds cells readers e. cc, λ text clustering way e. cc) say are

  pub gen_not_refused : (script : GeneratedScript) (asked : LoadAsked) → AskGen words script asked → AreRefused words → ⊥
  gen_not_refused script asked (say, is) are =
      other_not_refused (gen script.seed script.count script.gets false asked.cells asked.readers)
      (λ text cells e. cc, λ text bounds cells readers e. cc, λ text clustering way e. cc) say are

  pub key_not_refused : (kinds : Kinds) (way : KeyWay) (text : List ℕ) → AskKey words kinds way text → AreRefused words → ⊥
  key_not_refused kinds way text (schema, columns, clustering, say, is, of) (inl e) = let both = sym say ∙ e in cc
  key_not_refused kinds way text (schema, columns, clustering, say, is, of) (inr (inl (other, inl (cells, say'), none))) =
      let texts : key schema clustering (said_way way text) ≡ list other cells = same_said _ _ _ say say' in cc
  key_not_refused kinds way text (schema, columns, clustering, say, is, of) (inr (inl (other, inr (inl (bounds, cells, readers, say')), none))) =
      let texts : key schema clustering (said_way way text) ≡ load other bounds cells readers = same_said _ _ _ say say' in cc
  key_not_refused kinds way text (schema, columns, clustering, say, is, of) (inr (inl (other, inr (inr (clustering', way', say')), none))) =
      let texts : key schema clustering (said_way way text) ≡ key other clustering' way' = same_said _ _ _ say say' in
      let same : schema ≡ other = cc in
      none columns (subst (λ (t : List ℕ). IsSchemaOf t columns) same is)
  key_not_refused kinds way text (schema, columns, clustering, say, is, of) (inr (inr (others, bounds, (other, cells, readers, say', is'), none))) =
      let texts : key schema clustering (said_way way text) ≡ load other bounds cells readers = same_said _ _ _ say say' in cc

-- ---- `scan` and `gen`

module _ (words : List (String Global)) where
  pub get_one : (text text' : List ℕ) → AskGet words text → AskGet words text' → text ≡ text'
  get_one text text' say say' = let texts : get text ≡ get text' = same_said _ _ _ say say' in cc

  pub scan_one : (from to from' to' : Option (List ℕ)) → AskScan words from to → AskScan words from' to' → (from ≡ from') × (to ≡ to')
  scan_one from to from' to' say say' = let texts : scan from to ≡ scan from' to' = same_said _ _ _ say say' in (cc, cc)

  same_script : (a b : GeneratedScript) → a.seed ≡ b.seed → a.count ≡ b.count → a.gets ≡ b.gets → a ≡ b
  same_script a b seed count gets = λ i. record { seed = seed i; count = count i; gets = gets i }

  pub print_one : (a b : GeneratedScript) → AskPrint words a → AskPrint words b → a ≡ b
  print_one a b (cells, readers, say) (cells', readers', say') =
      let texts : gen a.seed a.count a.gets true cells readers ≡ gen b.seed b.count b.gets true cells' readers' = same_said _ _ _ say say' in
      let seed : a.seed ≡ b.seed = cc in
      let count : a.count ≡ b.count = cc in
      let gets : a.gets ≡ b.gets = cc in
      same_script a b seed count gets

  pub gen_one : (a b : GeneratedScript) (asked asked' : LoadAsked) → AskGen words a asked → AskGen words b asked' → (a ≡ b) × (asked ≡ asked')
  gen_one a b asked asked' (say, is) (say', is') =
      let texts : gen a.seed a.count a.gets false asked.cells asked.readers ≡ gen b.seed b.count b.gets false asked'.cells asked'.readers =
      same_said _ _ _ say say' in
      let cells : asked.cells ≡ asked'.cells = cc in
      let readers : asked.readers ≡ asked'.readers = cc in
      let seed : a.seed ≡ b.seed = cc in
      let count : a.count ≡ b.count = cc in
      let gets : a.gets ≡ b.gets = cc in
      let columns = one_schema_of generated_schema asked.columns asked'.columns is.schema is'.schema in
      let strings = one_bounds asked'.columns generated_bounds asked.bounds asked'.bounds
      (subst (λ (c : Columns). IsBoundsText c generated_bounds asked.bounds) columns is.bounds) is'.bounds in
      (same_script a b seed count gets, λ i. record { columns = columns i; bounds = strings i; cells = cells i; readers = readers i })

-- ---- whether the words say `load`, or `gen` without `--print`

module _ (words : List (String Global)) where
  pub says_other : (name : Name) → Names words name → (name ≡ ToLoad → ⊥) → (name ≡ ToGen → ⊥) → ¬ (LoadsScript words)
  says_other name says other more (inl (asked, ask)) = other (one_name words name ToLoad says (load_names words asked ask))
  says_other name says other more (inr (script, asked, ask)) = more (one_name words name ToGen says (gen_names words script asked ask))

  pub says_none : command_of (map string_bytes words) ≡ Err error.Usage → ¬ (LoadsScript words)
  says_none none (inl (asked, (text, bounds, say', is, of))) = let both = sym none ∙ say' in cc
  says_none none (inr (script, asked, (say', is))) = let both = sym none ∙ say' in cc

  -- words that say one of the two, or are refused, ask for no other command
  pub load_no_other : (name : Name) → (name ≡ ToLoad → ⊥) → (name ≡ ToGen → ⊥) → (AreRefused words → ⊥)
      → SaysLoad words ⊎ AreRefused words → Names words name → ⊥
  load_no_other name other more sound (inl says) names = by (says_names words says)
    where
      by : Names words ToLoad ⊎ Names words ToGen → ⊥
      by (inl loads) = other (one_name words name ToLoad names loads)
      by (inr gens) = more (one_name words name ToGen names gens)
  load_no_other name other more sound (inr are) names = sound are

-- ---- what is answered

module _ (words : List (String Global)) where
  -- a text that is refused as the schema of a `list`, or of a `load`
  pub refused_list : (text shown : List ℕ) (cells : ℕ) (r : Result Request WordsError) (e : WordsError) → r ≡ Err e → shown ≡ text → Say words (list text cells) → ReadsSchema shown (Err e) → Asks words r
  refused_list text shown cells r error.Usage is same say none =
      subst (Asks words) (sym is) (inr (inl (text, inl (cells, say), subst IsNoSchema same none)))
  refused_list text shown cells r error.NoMemory is same say none = subst (Asks words) (sym is) tt

  pub refused_load : (text shown bounds : List ℕ) (cells readers : ℕ) (r : Result Request WordsError) (e : WordsError) → r ≡ Err e → shown ≡ text → Say words (load text bounds cells readers)
      → ReadsSchema shown (Err e) → Asks words r
  refused_load text shown bounds cells readers r error.Usage is same say none =
      subst (Asks words) (sym is) (inr (inl (text, inr (inl (bounds, cells, readers, say)), subst IsNoSchema same none)))
  refused_load text shown bounds cells readers r error.NoMemory is same say none = subst (Asks words) (sym is) tt

  -- what the values of `key` ask for
  pub asks_key : (arguments : KeyArguments) (r : Result Request WordsError) → Say words (said_of (command.Key arguments)) → ReadsKey arguments r → Asks words r
  asks_key arguments (Ok (request.List asked)) say reads = absurd reads
  asks_key arguments (Ok (request.Load asked)) say reads = absurd reads
  asks_key arguments (Ok (request.Get text)) say reads = absurd reads
  asks_key arguments (Ok (request.Scan asked)) say reads = absurd reads
  asks_key arguments (Ok request.Check) say reads = absurd reads
  asks_key arguments (Ok (request.Print script)) say reads = absurd reads
  asks_key arguments (Ok (request.Gen asked)) say reads = absurd reads
  asks_key arguments (Ok (request.Key asked)) say (columns, is, kinds, way) = (
    string_bytes arguments.schema,
    columns,
    arguments.clustering,
    subst (λ (w : Way). Say words (key (string_bytes arguments.schema) arguments.clustering w)) way say,
    is,
    kinds,
  )
  asks_key arguments (Err error.Usage) say none =
      inr (inl (string_bytes arguments.schema, inr (inr (arguments.clustering, way_of arguments.way, say)), none))
  asks_key arguments (Err error.NoMemory) say reads = tt
