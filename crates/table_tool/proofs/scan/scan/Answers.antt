use Rattle.std.proofs.Common.{List, ℕ, Option, Ok, Err, ap, refl, subst, option_map}
use Rattle.std.specs.Prelude.{IfSome}
use Rattle.std.specs.String.{string_bytes}
use Rattle.std.specs.Option.{option_copied}
use Rattle.scan_tool.specs.declared.error.ScanError.{ScanError}
use Rattle.scan_tool.specs.declared.error.ScanError.TheVariants as scan_error
use Rattle.scan_tool.specs.PrintReads.{PrintsWithin}
use Rattle.scan_tool.specs.Printing.{PrintsRange}
use Rattle.table_tool.specs.First.{first_generation}
use Rattle.table_tool.specs.declared.status.Status.TheVariants as status
use Rattle.table_tool.proofs.ScanLemmas.{scan_ends}
use Rattle.table_tool.proofs.EndLemmas.{says_earlier}
use Rattle.table_tool.proofs.Told.{told_none, told_so}
use Rattle.table_tool.proofs.scan.scan.Goals as goal

pub returns-in-Ok : goal.returns-in-Ok
returns-in-Ok g c =
    λ left faults.
    scan_ends _ _ left faults (g.O.Sink.written c.args.out.now) (g.O.Sink.written c.print_range.new.out) _ _ _ _ _ _ _ _ _ (Ok tt) status.Ok
    (subst (λ (f : Option (List ℕ)). PrintsRange (g.K.Store.files c.args.store.now) first_generation f (option_map string_bytes c.args.bounds.now.to) (g.O.Sink.written c.args.out.now) (g.O.Sink.written c.print_range.new.out) (Ok tt)) c.bytes_of-from.ensures
    (subst (λ (t : Option (List ℕ)). PrintsRange (g.K.Store.files c.args.store.now) first_generation (option_copied c.bytes_of-from.result) t (g.O.Sink.written c.args.out.now) (g.O.Sink.written c.print_range.new.out) (Ok tt)) c.bytes_of-to.ensures
    c.in-Ok.ensures.prints))
    (record { ends = refl; behind = told_none (g.O.Sink.written c.print_range.new.out) _ (λ x. refl) })
    c.print_range.ensures.files (λ e. cc) (λ e. cc)
    (subst (λ (f : Option (List ℕ)). IfSome (g.K.Store.files c.args.store.now) (λ m. PrintsWithin m first_generation f (option_map string_bytes c.args.bounds.now.to) (g.K.Store.reads c.args.store.now) (g.K.Store.reads c.print_range.new.store))) c.bytes_of-from.ensures
    (subst (λ (t : Option (List ℕ)). IfSome (g.K.Store.files c.args.store.now) (λ m. PrintsWithin m first_generation (option_copied c.bytes_of-from.result) t (g.K.Store.reads c.args.store.now) (g.K.Store.reads c.print_range.new.store))) c.bytes_of-to.ensures c.in-Ok.ensures.reads))

pub returns-in-Err-Usage : goal.returns-in-Err-Usage
returns-in-Err-Usage g c =
    λ left faults.
    let e = c.in-Err-Usage.ensures in
    scan_ends _ _ left faults (g.O.Sink.written c.args.out.now) (g.O.Sink.written c.print_range.new.out) (g.O.Sink.written c.refuse.new.out) _ _ _ _ _ _ _ _ (Err scan_error.Usage) c.refuse.result
    (subst (λ (f : Option (List ℕ)). PrintsRange (g.K.Store.files c.args.store.now) first_generation f (option_map string_bytes c.args.bounds.now.to) (g.O.Sink.written c.args.out.now) (g.O.Sink.written c.print_range.new.out) (Err scan_error.Usage)) c.bytes_of-from.ensures
    (subst (λ (t : Option (List ℕ)). PrintsRange (g.K.Store.files c.args.store.now) first_generation (option_copied c.bytes_of-from.result) t (g.O.Sink.written c.args.out.now) (g.O.Sink.written c.print_range.new.out) (Err scan_error.Usage)) c.bytes_of-to.ensures
    (subst (λ (f : ScanError). PrintsRange (g.K.Store.files c.args.store.now) first_generation (option_copied c.bytes_of-from.result) (option_copied c.bytes_of-to.result) (g.O.Sink.written c.args.out.now) (g.O.Sink.written c.print_range.new.out) (Err f)) c.in-Err-Usage.field-0-is e.prints)))
    (record {
      ends = c.refuse.ensures.status;
      behind = told_so (g.O.Sink.written c.print_range.new.out) (g.O.Sink.written c.refuse.new.out) _ _ (says_earlier (g.O.Sink.faults c.args.out.now) (g.O.Sink.faults c.print_range.new.out) (g.O.Sink.faults c.refuse.new.out) e.later c.refuse.result) c.refuse.ensures.told;
    })
    e.files (λ also. cc) (λ also. cc)
    (subst (λ (f : Option (List ℕ)). IfSome (g.K.Store.files c.args.store.now) (λ m. PrintsWithin m first_generation f (option_map string_bytes c.args.bounds.now.to) (g.K.Store.reads c.args.store.now) (g.K.Store.reads c.print_range.new.store))) c.bytes_of-from.ensures
    (subst (λ (t : Option (List ℕ)). IfSome (g.K.Store.files c.args.store.now) (λ m. PrintsWithin m first_generation (option_copied c.bytes_of-from.result) t (g.K.Store.reads c.args.store.now) (g.K.Store.reads c.print_range.new.store))) c.bytes_of-to.ensures e.reads))

pub returns-in-Err-SinkFault : goal.returns-in-Err-SinkFault
returns-in-Err-SinkFault g c =
    λ left faults.
    let e = c.in-Err-SinkFault.ensures in
    scan_ends _ _ left faults (g.O.Sink.written c.args.out.now) (g.O.Sink.written c.print_range.new.out) (g.O.Sink.written c.print_range.new.out) _ _ _ _ _ _ _ _ (Err scan_error.SinkFault) status.SinkFault
    (subst (λ (f : Option (List ℕ)). PrintsRange (g.K.Store.files c.args.store.now) first_generation f (option_map string_bytes c.args.bounds.now.to) (g.O.Sink.written c.args.out.now) (g.O.Sink.written c.print_range.new.out) (Err scan_error.SinkFault)) c.bytes_of-from.ensures
    (subst (λ (t : Option (List ℕ)). PrintsRange (g.K.Store.files c.args.store.now) first_generation (option_copied c.bytes_of-from.result) t (g.O.Sink.written c.args.out.now) (g.O.Sink.written c.print_range.new.out) (Err scan_error.SinkFault)) c.bytes_of-to.ensures
    (subst (λ (f : ScanError). PrintsRange (g.K.Store.files c.args.store.now) first_generation (option_copied c.bytes_of-from.result) (option_copied c.bytes_of-to.result) (g.O.Sink.written c.args.out.now) (g.O.Sink.written c.print_range.new.out) (Err f)) c.in-Err-SinkFault.field-0-is e.prints)))
    (record { ends = refl; behind = told_none (g.O.Sink.written c.print_range.new.out) _ (λ x. refl) })
    e.files (λ also. cc) (λ also. e.fault (ap Err c.in-Err-SinkFault.field-0-is))
    (subst (λ (f : Option (List ℕ)). IfSome (g.K.Store.files c.args.store.now) (λ m. PrintsWithin m first_generation f (option_map string_bytes c.args.bounds.now.to) (g.K.Store.reads c.args.store.now) (g.K.Store.reads c.print_range.new.store))) c.bytes_of-from.ensures
    (subst (λ (t : Option (List ℕ)). IfSome (g.K.Store.files c.args.store.now) (λ m. PrintsWithin m first_generation (option_copied c.bytes_of-from.result) t (g.K.Store.reads c.args.store.now) (g.K.Store.reads c.print_range.new.store))) c.bytes_of-to.ensures e.reads))

pub returns-in-Err-StoreFault : goal.returns-in-Err-StoreFault
returns-in-Err-StoreFault g c =
    λ left faults.
    let e = c.in-Err-StoreFault.ensures in
    scan_ends _ _ left faults (g.O.Sink.written c.args.out.now) (g.O.Sink.written c.print_range.new.out) (g.O.Sink.written c.refuse-in-Err-StoreFault.new.out) _ _ _ _ _ _ _ _ (Err scan_error.StoreFault) c.refuse-in-Err-StoreFault.result
    (subst (λ (f : Option (List ℕ)). PrintsRange (g.K.Store.files c.args.store.now) first_generation f (option_map string_bytes c.args.bounds.now.to) (g.O.Sink.written c.args.out.now) (g.O.Sink.written c.print_range.new.out) (Err scan_error.StoreFault)) c.bytes_of-from.ensures
    (subst (λ (t : Option (List ℕ)). PrintsRange (g.K.Store.files c.args.store.now) first_generation (option_copied c.bytes_of-from.result) t (g.O.Sink.written c.args.out.now) (g.O.Sink.written c.print_range.new.out) (Err scan_error.StoreFault)) c.bytes_of-to.ensures
    (subst (λ (f : ScanError). PrintsRange (g.K.Store.files c.args.store.now) first_generation (option_copied c.bytes_of-from.result) (option_copied c.bytes_of-to.result) (g.O.Sink.written c.args.out.now) (g.O.Sink.written c.print_range.new.out) (Err f)) c.in-Err-StoreFault.field-0-is e.prints)))
    (record {
      ends = c.refuse-in-Err-StoreFault.ensures.status;
      behind = told_so (g.O.Sink.written c.print_range.new.out) (g.O.Sink.written c.refuse-in-Err-StoreFault.new.out) _ _ (says_earlier (g.O.Sink.faults c.args.out.now) (g.O.Sink.faults c.print_range.new.out) (g.O.Sink.faults c.refuse-in-Err-StoreFault.new.out) e.later c.refuse-in-Err-StoreFault.result) c.refuse-in-Err-StoreFault.ensures.told;
    })
    e.files (λ also. e.store_fault (ap Err c.in-Err-StoreFault.field-0-is)) (λ also. cc)
    (subst (λ (f : Option (List ℕ)). IfSome (g.K.Store.files c.args.store.now) (λ m. PrintsWithin m first_generation f (option_map string_bytes c.args.bounds.now.to) (g.K.Store.reads c.args.store.now) (g.K.Store.reads c.print_range.new.store))) c.bytes_of-from.ensures
    (subst (λ (t : Option (List ℕ)). IfSome (g.K.Store.files c.args.store.now) (λ m. PrintsWithin m first_generation (option_copied c.bytes_of-from.result) t (g.K.Store.reads c.args.store.now) (g.K.Store.reads c.print_range.new.store))) c.bytes_of-to.ensures e.reads))

pub returns-in-Err-Damaged : goal.returns-in-Err-Damaged
returns-in-Err-Damaged g c =
    λ left faults.
    let e = c.in-Err-Damaged.ensures in
    scan_ends _ _ left faults (g.O.Sink.written c.args.out.now) (g.O.Sink.written c.print_range.new.out) (g.O.Sink.written c.refuse-in-Err-Damaged.new.out) _ _ _ _ _ _ _ _ (Err (scan_error.Damaged c.in-Err-Damaged.damage)) c.refuse-in-Err-Damaged.result
    (subst (λ (f : Option (List ℕ)). PrintsRange (g.K.Store.files c.args.store.now) first_generation f (option_map string_bytes c.args.bounds.now.to) (g.O.Sink.written c.args.out.now) (g.O.Sink.written c.print_range.new.out) (Err (scan_error.Damaged c.in-Err-Damaged.damage))) c.bytes_of-from.ensures
    (subst (λ (t : Option (List ℕ)). PrintsRange (g.K.Store.files c.args.store.now) first_generation (option_copied c.bytes_of-from.result) t (g.O.Sink.written c.args.out.now) (g.O.Sink.written c.print_range.new.out) (Err (scan_error.Damaged c.in-Err-Damaged.damage))) c.bytes_of-to.ensures
    (subst (λ (f : ScanError). PrintsRange (g.K.Store.files c.args.store.now) first_generation (option_copied c.bytes_of-from.result) (option_copied c.bytes_of-to.result) (g.O.Sink.written c.args.out.now) (g.O.Sink.written c.print_range.new.out) (Err f)) c.in-Err-Damaged.field-0-is e.prints)))
    (record {
      ends = c.refuse-in-Err-Damaged.ensures.status;
      behind = told_so (g.O.Sink.written c.print_range.new.out) (g.O.Sink.written c.refuse-in-Err-Damaged.new.out) _ _ (says_earlier (g.O.Sink.faults c.args.out.now) (g.O.Sink.faults c.print_range.new.out) (g.O.Sink.faults c.refuse-in-Err-Damaged.new.out) e.later c.refuse-in-Err-Damaged.result) c.refuse-in-Err-Damaged.ensures.told;
    })
    e.files (λ also. cc) (λ also. cc)
    (subst (λ (f : Option (List ℕ)). IfSome (g.K.Store.files c.args.store.now) (λ m. PrintsWithin m first_generation f (option_map string_bytes c.args.bounds.now.to) (g.K.Store.reads c.args.store.now) (g.K.Store.reads c.print_range.new.store))) c.bytes_of-from.ensures
    (subst (λ (t : Option (List ℕ)). IfSome (g.K.Store.files c.args.store.now) (λ m. PrintsWithin m first_generation (option_copied c.bytes_of-from.result) t (g.K.Store.reads c.args.store.now) (g.K.Store.reads c.print_range.new.store))) c.bytes_of-to.ensures e.reads))

pub returns-in-Err-Unfinished : goal.returns-in-Err-Unfinished
returns-in-Err-Unfinished g c =
    λ left faults.
    let e = c.in-Err-Unfinished.ensures in
    scan_ends _ _ left faults (g.O.Sink.written c.args.out.now) (g.O.Sink.written c.print_range.new.out) (g.O.Sink.written c.refuse-in-Err-Unfinished.new.out) _ _ _ _ _ _ _ _ (Err scan_error.Unfinished) c.refuse-in-Err-Unfinished.result
    (subst (λ (f : Option (List ℕ)). PrintsRange (g.K.Store.files c.args.store.now) first_generation f (option_map string_bytes c.args.bounds.now.to) (g.O.Sink.written c.args.out.now) (g.O.Sink.written c.print_range.new.out) (Err scan_error.Unfinished)) c.bytes_of-from.ensures
    (subst (λ (t : Option (List ℕ)). PrintsRange (g.K.Store.files c.args.store.now) first_generation (option_copied c.bytes_of-from.result) t (g.O.Sink.written c.args.out.now) (g.O.Sink.written c.print_range.new.out) (Err scan_error.Unfinished)) c.bytes_of-to.ensures
    (subst (λ (f : ScanError). PrintsRange (g.K.Store.files c.args.store.now) first_generation (option_copied c.bytes_of-from.result) (option_copied c.bytes_of-to.result) (g.O.Sink.written c.args.out.now) (g.O.Sink.written c.print_range.new.out) (Err f)) c.in-Err-Unfinished.field-0-is e.prints)))
    (record {
      ends = c.refuse-in-Err-Unfinished.ensures.status;
      behind = told_so (g.O.Sink.written c.print_range.new.out) (g.O.Sink.written c.refuse-in-Err-Unfinished.new.out) _ _ (says_earlier (g.O.Sink.faults c.args.out.now) (g.O.Sink.faults c.print_range.new.out) (g.O.Sink.faults c.refuse-in-Err-Unfinished.new.out) e.later c.refuse-in-Err-Unfinished.result) c.refuse-in-Err-Unfinished.ensures.told;
    })
    e.files (λ also. cc) (λ also. cc)
    (subst (λ (f : Option (List ℕ)). IfSome (g.K.Store.files c.args.store.now) (λ m. PrintsWithin m first_generation f (option_map string_bytes c.args.bounds.now.to) (g.K.Store.reads c.args.store.now) (g.K.Store.reads c.print_range.new.store))) c.bytes_of-from.ensures
    (subst (λ (t : Option (List ℕ)). IfSome (g.K.Store.files c.args.store.now) (λ m. PrintsWithin m first_generation (option_copied c.bytes_of-from.result) t (g.K.Store.reads c.args.store.now) (g.K.Store.reads c.print_range.new.store))) c.bytes_of-to.ensures e.reads))

pub returns-in-Err-NoMemory : goal.returns-in-Err-NoMemory
returns-in-Err-NoMemory g c =
    λ left faults.
    let e = c.in-Err-NoMemory.ensures in
    scan_ends _ _ left faults (g.O.Sink.written c.args.out.now) (g.O.Sink.written c.print_range.new.out) (g.O.Sink.written c.print_range.new.out) _ _ _ _ _ _ _ _ (Err scan_error.NoMemory) status.NoMemory
    (subst (λ (f : Option (List ℕ)). PrintsRange (g.K.Store.files c.args.store.now) first_generation f (option_map string_bytes c.args.bounds.now.to) (g.O.Sink.written c.args.out.now) (g.O.Sink.written c.print_range.new.out) (Err scan_error.NoMemory)) c.bytes_of-from.ensures
    (subst (λ (t : Option (List ℕ)). PrintsRange (g.K.Store.files c.args.store.now) first_generation (option_copied c.bytes_of-from.result) t (g.O.Sink.written c.args.out.now) (g.O.Sink.written c.print_range.new.out) (Err scan_error.NoMemory)) c.bytes_of-to.ensures
    (subst (λ (f : ScanError). PrintsRange (g.K.Store.files c.args.store.now) first_generation (option_copied c.bytes_of-from.result) (option_copied c.bytes_of-to.result) (g.O.Sink.written c.args.out.now) (g.O.Sink.written c.print_range.new.out) (Err f)) c.in-Err-NoMemory.field-0-is e.prints)))
    (record { ends = refl; behind = told_none (g.O.Sink.written c.print_range.new.out) _ (λ x. refl) })
    e.files (λ also. cc) (λ also. cc)
    (subst (λ (f : Option (List ℕ)). IfSome (g.K.Store.files c.args.store.now) (λ m. PrintsWithin m first_generation f (option_map string_bytes c.args.bounds.now.to) (g.K.Store.reads c.args.store.now) (g.K.Store.reads c.print_range.new.store))) c.bytes_of-from.ensures
    (subst (λ (t : Option (List ℕ)). IfSome (g.K.Store.files c.args.store.now) (λ m. PrintsWithin m first_generation (option_copied c.bytes_of-from.result) t (g.K.Store.reads c.args.store.now) (g.K.Store.reads c.print_range.new.store))) c.bytes_of-to.ensures e.reads))
