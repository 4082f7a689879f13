-- How a run ends, by what the words ask for.
use Rattle.std.proofs.Common.{◌≡◌, ℕ, List, [], Option, Some, None, Err, inl, inr, refl, sym, subst, arith, ⊎_elim}
use Rattle.std.proofs.lemmas.List.{append-nil}
use Rattle.outside.specs.Files.{Files}
use Rattle.std.specs.declared.string.String.{String}
use Rattle.std.specs.declared.alloc.Global.{Global}
use Rattle.key_types.specs.Columns.{Columns}
use Rattle.key_types.specs.Kinds.{Kinds}
use Rattle.key_tool.specs.declared.request.KeyWay.{KeyWay}
use Rattle.table_tool.specs.declared.status.Status.{Status}
use Rattle.table_tool.specs.declared.status.Status.TheVariants as status
use Rattle.table_tool.specs.Getting.{GetEnds, ShowsAs}
use Rattle.table_tool.specs.Generating.{GenEnds, PrintEnds, script_bytes}
use Rattle.table_tool.specs.declared.request.GeneratedScript.{GeneratedScript}
use Rattle.get_tool.specs.declared.error.GetError.TheVariants as get_error
use Rattle.get_tool.proofs.ShowReads.{few_shown}
use Rattle.table_tool.specs.Keys.{KeyEnds}
use Rattle.table_reader.specs.declared.fault.TableFault.TheVariants as fault
use Rattle.table_tool.specs.Checking.{CheckEnds}
use Rattle.table_tool.specs.Listing.{ListEnds}
use Rattle.table_tool.specs.Loading.{LoadAsked, LoadEnds}
use Rattle.table_tool.specs.Outcome.{IsOrNoMemory, UsageEnds}
use Rattle.table_tool.specs.Outside.{FaultRose, Outside, outside_of}
use Rattle.table_tool.specs.Request.{AreRefused, AskCheck, AskGen, AskGet, AskKey, AskList, AskLoad, AskPrint, AskScan, AskSome}
use Rattle.table_tool.specs.Run.{RunEnds}
use Rattle.scan_tool.specs.declared.error.ScanError.TheVariants as scan_error
use Rattle.scan_tool.proofs.Counting.{few_printed}
use Rattle.table_tool.specs.First.{first_generation}
use Rattle.table_tool.specs.Scanning.{EndsAs, ScanEnds}
use Rattle.table_tool.proofs.EndLemmas.{either}
use Rattle.table_tool.proofs.LoadLemmas.{every}
use Rattle.table_tool.proofs.Told.{told_none}
use Rattle.table_tool.proofs.RequestLemmas.{Name, Names, ToCheck, ToGen, ToGet, ToKey, ToList, ToLoad, ToPrint, ToScan, check_names, check_not_refused, gen_names, gen_not_refused, gen_one, get_names, get_not_refused, get_one, key_names, key_not_refused, key_one, list_names, list_not_refused, list_one, load_names, load_not_refused, load_one, one_name, print_names, print_not_refused, print_one, scan_names, scan_not_refused, scan_one}

module _ (words : List (String Global)) (before after : Outside) (result : Status) where
  -- the words say this command, and are not refused: how it ends is all that has to be shown
  module _ (name : Name) (names : Names words name) (faults : FaultRose before after result) (some : AskSome words) (sound : AreRefused words → ⊥) where
    run_of : (name ≡ ToList → (columns : Columns) (cells : ℕ) → AskList words columns cells → ListEnds columns cells before after result)
        → (name ≡ ToLoad → (asked : LoadAsked) → AskLoad words asked → LoadEnds asked before after result)
        → (name ≡ ToGet → (text : List ℕ) → AskGet words text → GetEnds text before after result)
        → (name ≡ ToScan → (from to : Option (List ℕ)) → AskScan words from to → ScanEnds from to before after result)
        → (name ≡ ToCheck → AskCheck words → CheckEnds before after result)
        → (name ≡ ToKey → (kinds : Kinds) (way : KeyWay) (text : List ℕ) → AskKey words kinds way text → KeyEnds kinds way text before after result)
        → (name ≡ ToPrint → (script : GeneratedScript) → AskPrint words script → PrintEnds script before after result)
        → (name ≡ ToGen → (script : GeneratedScript) (asked : LoadAsked) → AskGen words script asked → GenEnds (script_bytes script) asked before after result)
        → RunEnds words before after result
    run_of lists loads gets scans checks keys prints gens = record {
      faults = faults;
      decided = inr (inr some);
      refused = λ also. absurd (sound also);
      list = λ columns cells also. lists (one_name words name ToList names (list_names words columns cells also)) columns cells also;
      load = λ asked also. loads (one_name words name ToLoad names (load_names words asked also)) asked also;
      get = λ text also. gets (one_name words name ToGet names (get_names words text also)) text also;
      scan = λ from to also. scans (one_name words name ToScan names (scan_names words from to also)) from to also;
      check = λ also. checks (one_name words name ToCheck names (check_names words also)) also;
      key = λ kinds way text also. keys (one_name words name ToKey names (key_names words kinds way text also)) kinds way text also;
      print = λ script also. prints (one_name words name ToPrint names (print_names words script also)) script also;
      gen = λ script asked also. gens (one_name words name ToGen names (gen_names words script asked also)) script asked also;
    }

  pub list_run : (columns : Columns) (cells : ℕ) → AskList words columns cells → ListEnds columns cells before after result → RunEnds words before after result
  list_run columns cells ask ends = run_of ToList (list_names words columns cells ask) ends.faults (inl (columns, cells, ask))
      (list_not_refused words columns cells ask)
      (λ e others more also.
      let one = list_one words columns cells ask others more also in
      subst (λ (n : ℕ). ListEnds others n before after result) one.1 (subst (λ (c : Columns). ListEnds c cells before after result) one.0 ends))
      (λ e asked also. cc) (λ e text also. cc) (λ e from to also. cc) (λ e also. cc) (λ e kinds way text also. cc) (λ e script also. cc) (λ e script asked also. cc)

  pub load_run : (asked : LoadAsked) → AskLoad words asked → LoadEnds asked before after result → RunEnds words before after result
  load_run asked ask ends = run_of ToLoad (load_names words asked ask) ends.faults (inr (inl (asked, ask))) (load_not_refused words asked ask)
      (λ e columns cells also. cc)
      (λ e others also. subst (λ (a : LoadAsked). LoadEnds a before after result) (load_one words asked ask others also) ends)
      (λ e text also. cc) (λ e from to also. cc) (λ e also. cc) (λ e kinds way text also. cc) (λ e script also. cc) (λ e script asked also. cc)

  pub get_run : (text : List ℕ) → AskGet words text → GetEnds text before after result → RunEnds words before after result
  get_run text ask ends = run_of ToGet (get_names words text ask) ends.faults (inr (inr (inl (text, ask)))) (get_not_refused words text ask)
      (λ e columns cells also. cc) (λ e asked also. cc)
      (λ e other also. subst (λ (t : List ℕ). GetEnds t before after result) (get_one words text other ask also) ends)
      (λ e from to also. cc) (λ e also. cc) (λ e kinds way text also. cc) (λ e script also. cc) (λ e script asked also. cc)

  pub scan_run : (from to : Option (List ℕ)) → AskScan words from to → ScanEnds from to before after result → RunEnds words before after result
  scan_run from to ask ends = run_of ToScan (scan_names words from to ask) ends.faults (inr (inr (inr (inl (from, to, ask)))))
      (scan_not_refused words from to ask)
      (λ e columns cells also. cc) (λ e asked also. cc) (λ e text also. cc)
      (λ e from' to' also.
      let one = scan_one words from to from' to' ask also in
      subst (λ (t : Option (List ℕ)). ScanEnds from' t before after result) one.1 (subst (λ (f : Option (List ℕ)). ScanEnds f to before after result) one.0 ends))
      (λ e also. cc) (λ e kinds way text also. cc) (λ e script also. cc) (λ e script asked also. cc)

  pub check_run : AskCheck words → CheckEnds before after result → RunEnds words before after result
  check_run ask ends = run_of ToCheck (check_names words ask) ends.faults (inr (inr (inr (inr (inl ask)))))
      (check_not_refused words ask)
      (λ e columns cells also. cc) (λ e asked also. cc) (λ e text also. cc) (λ e from to also. cc) (λ e also. ends)
      (λ e kinds way text also. cc) (λ e script also. cc) (λ e script asked also. cc)

  key_same : (kinds kinds' : Kinds) (way way' : KeyWay) (text text' : List ℕ) → (kinds ≡ kinds') × (way ≡ way') × (text ≡ text') → KeyEnds kinds way text before after result
      → KeyEnds kinds' way' text' before after result
  key_same kinds kinds' way way' text text' (of, ways, texts) ends =
      subst (λ (t : List ℕ). KeyEnds kinds' way' t before after result) texts
      (subst (λ (w : KeyWay). KeyEnds kinds' w text before after result) ways (subst (λ (k : Kinds). KeyEnds k way text before after result) of ends))

  pub key_run : (kinds : Kinds) (way : KeyWay) (text : List ℕ) → AskKey words kinds way text → KeyEnds kinds way text before after result → RunEnds words before after result
  key_run kinds way text ask ends = run_of ToKey (key_names words kinds way text ask) ends.faults (inr (inr (inr (inr (inr (inl (kinds, way, text, ask)))))))
      (key_not_refused words kinds way text ask)
      (λ e columns cells also. cc) (λ e asked also. cc) (λ e text also. cc) (λ e from to also. cc) (λ e also. cc)
      (λ e kinds' way' text' also. key_same kinds kinds' way way' text text' (key_one words kinds way text ask kinds' way' text' also) ends)
      (λ e script also. cc) (λ e script asked also. cc)

  pub print_run : (script : GeneratedScript) → AskPrint words script → PrintEnds script before after result → RunEnds words before after result
  print_run script ask ends = run_of ToPrint (print_names words script ask) ends.faults (inr (inr (inr (inr (inr (inr (inl (script, ask))))))))
      (print_not_refused words script ask)
      (λ e columns cells also. cc) (λ e asked also. cc) (λ e text also. cc) (λ e from to also. cc) (λ e also. cc) (λ e kinds way text also. cc)
      (λ e other also. subst (λ (s : GeneratedScript). PrintEnds s before after result) (print_one words script other ask also) ends)
      (λ e script asked also. cc)

  pub gen_run : (script : GeneratedScript) (asked : LoadAsked) → AskGen words script asked → GenEnds (script_bytes script) asked before after result → RunEnds words before after result
  gen_run script asked ask ends = run_of ToGen (gen_names words script asked ask) ends.faults (inr (inr (inr (inr (inr (inr (inr (script, asked, ask))))))))
      (gen_not_refused words script asked ask)
      (λ e columns cells also. cc) (λ e asked also. cc) (λ e text also. cc) (λ e from to also. cc) (λ e also. cc) (λ e kinds way text also. cc) (λ e script also. cc)
      (λ e script' asked' also.
      let one = gen_one words script script' asked asked' ask also in
      subst (λ (a : LoadAsked). GenEnds (script_bytes script') a before after result) one.1
      (subst (λ (s : GeneratedScript). GenEnds (script_bytes s) asked before after result) one.0 ends))

  -- Usage and want of memory are no faults
  no_fault : IsOrNoMemory status.Usage result → FaultRose before after result
  no_fault is = ⊎_elim (λ (e : result ≡ status.Usage). subst (λ (r : Status). FaultRose before after r) (sym e) tt)
      (λ (e : result ≡ status.NoMemory). subst (λ (r : Status). FaultRose before after r) (sym e) tt) (either status.Usage result is)

  pub usage_run : AreRefused words → UsageEnds before after result → RunEnds words before after result
  usage_run are ends = record {
    faults = no_fault ends.possible;
    decided = inr (inl are);
    refused = λ also. ends;
    list = λ others cells also. absurd (list_not_refused words others cells also are);
    load = λ others also. absurd (load_not_refused words others also are);
    get = λ text also. absurd (get_not_refused words text also are);
    scan = λ from to also. absurd (scan_not_refused words from to also are);
    check = λ also. absurd (check_not_refused words also are);
    key = λ kinds way text also. absurd (key_not_refused words kinds way text also are);
    print = λ script also. absurd (print_not_refused words script also are);
    gen = λ script asked also. absurd (gen_not_refused words script asked also are);
  }

-- `load` where memory ran out before anything was asked or written
module _ (left : Option (List ℕ)) (source : ℕ) (w : Option (List ℕ)) (sink : ℕ) (files : Option Files) (store reads : ℕ) where
  pub load_memory : (asked : LoadAsked) → LoadEnds asked (outside_of left source w sink files store reads) (outside_of left source w sink files store reads) status.NoMemory
  load_memory asked = record {
    possible = tt;
    faults = tt;
    exists_only = every files _ (λ old also. cc);
    exists = every files _ (λ old there. (tt, refl, (refl, refl)));
    unread = λ also. (refl, refl);
    refused = every left _ (λ bytes. tt);
    full = every left _ (λ bytes line also. cc);
    written = every left _ (λ bytes. told_none w _ (λ x. ([], inl refl, sym (append-nil x))));
    refusal = λ early. absurd early;
    done = every left _ (λ bytes also. cc);
    complete = every files _ (λ old. every left _ (λ bytes none quiet still kept fits. tt));
    kept = tt;
    changes = every left _ (λ bytes. told_none files _ (λ xs. inl refl));
  }

-- want of memory before anything was asked or written, whatever the words
module _ (words : List (String Global)) (left : Option (List ℕ)) (source : ℕ) (w : Option (List ℕ)) (sink : ℕ) (files : Option Files) (store reads : ℕ) where
  abbrev now : Outside
  now = outside_of left source w sink files store reads

  list_memory : (columns : Columns) (cells : ℕ) → ListEnds columns cells now now status.NoMemory
  list_memory columns cells = record {
    possible = tt;
    faults = tt;
    decided = every left _ (λ bytes. tt);
    full = every left _ (λ bytes line also. cc);
    complete = every left _ (λ bytes quiet still fits. tt);
    rows = every left _ (λ bytes text is. told_none w _ (λ x. tt));
    refusal = told_none w _ (λ x. refl);
    store = (refl, refl, refl);
  }

  key_memory : (kinds : Kinds) (way : KeyWay) (text : List ℕ) → KeyEnds kinds way text now now status.NoMemory
  key_memory kinds way text = record {
    possible = tt;
    faults = tt;
    refused_only = λ also. cc;
    refused = λ none. tt;
    line = λ line shows. told_none w _ (λ x. refl);
    complete = λ line shows still. tt;
    refusal = told_none w _ (λ x. refl);
    source = (refl, refl);
    store = (refl, refl, refl);
  }

  get_memory : (text : List ℕ) → GetEnds text now now status.NoMemory
  get_memory text = record {
    possible = tt;
    faults = tt;
    shown = (Err get_error.NoMemory, every files _ (λ m. tt), memory_shown);
    stand = every files _ (λ m columns table stand. (Err get_error.NoMemory, tt, memory_shown));
    complete = every files _ (λ m columns table asked stand named still quiet. tt);
    reads = few_shown files first_generation text reads reads (omega arith);
    source = (refl, refl);
    files = refl;
  }
    where
      memory_shown : ShowsAs (Err get_error.NoMemory) now now status.NoMemory
      memory_shown = record { ends = refl; written = told_none w _ (λ x. refl) }

  scan_memory : (from to : Option (List ℕ)) → ScanEnds from to now now status.NoMemory
  scan_memory from to = record {
    possible = tt;
    faults = tt;
    printed = (Err scan_error.NoMemory, w, inl (told_none w _ (λ x. refl)), nothing_behind);
    stand = every files _ (λ m columns table stand. (Err scan_error.NoMemory, w, inl (told_none w _ (λ x. refl)), nothing_behind));
    complete = every files _ (λ m columns table stand names still quiet. tt);
    reads = few_printed files first_generation from to reads reads (omega arith);
    source = (refl, refl);
    files = refl;
  }
    where
      nothing_behind : EndsAs (Err scan_error.NoMemory) w now now status.NoMemory
      nothing_behind = record { ends = refl; behind = told_none w _ (λ x. refl) }

  check_memory : CheckEnds now now status.NoMemory
  check_memory = record {
    possible = tt;
    faults = tt;
    verdict = (Err fault.NoMemory, every files _ (λ m. tt), record { ends = refl; written = told_none w _ (λ x. refl) });
    complete = every files _ (λ m columns table stand still quiet. tt);
    source = (refl, refl);
    files = refl;
  }

  print_memory : (script : GeneratedScript) → PrintEnds script now now status.NoMemory
  print_memory script = record {
    possible = tt;
    faults = tt;
    printed = told_none w _ (λ x. refl);
    complete = λ still. tt;
    source = (refl, refl);
    store = (refl, refl, refl);
  }

  pub gen_memory : (bytes : List ℕ) (asked : LoadAsked) → GenEnds bytes asked now now status.NoMemory
  gen_memory bytes asked = record {
    load = (Some bytes, load_memory (Some bytes) 0 None sink files store reads asked);
    faults = tt;
    written = told_none w _ (λ x. refl);
    source = (refl, refl);
  }

  pub memory_run : RunEnds words now now status.NoMemory
  memory_run = record {
    faults = tt;
    decided = inl refl;
    refused = λ are. record { possible = tt; refusal = told_none w _ (λ x. refl); source = (refl, refl); store = (refl, refl, refl) };
    list = λ columns cells ask. list_memory columns cells;
    load = λ asked ask. load_memory left source w sink files store reads asked;
    get = λ text ask. get_memory text;
    scan = λ from to ask. scan_memory from to;
    check = λ ask. check_memory;
    key = λ kinds way text ask. key_memory kinds way text;
    print = λ script ask. print_memory script;
    gen = λ script asked ask. gen_memory (script_bytes script) asked;
  }
