use Rattle.std.proofs.Common.{List, ℕ, Ok, Err, Result, inl, inr, subst, sym}
use Rattle.std.specs.Prelude.{IfSome}
use Rattle.outside.specs.Told.{WhereTold}
use Rattle.table_check.specs.declared.verdict.Verdict.{Verdict}
use Rattle.table_check.specs.declared.verdict.Verdict.TheVariants.{Sound, Unsound}
use Rattle.table_check.specs.Check.{Checks}
use Rattle.table_reader.specs.declared.fault.TableFault.{TableFault}
use Rattle.table_reader.specs.declared.fault.TableFault.TheVariants as fault
use Rattle.table_tool.specs.Checking.{sound_line}
use Rattle.table_tool.specs.First.{first_generation}
use Rattle.table_tool.specs.Outcome.{PrintsText}
use Rattle.table_tool.specs.declared.status.Status.TheVariants as status
use Rattle.table_tool.proofs.CheckLemmas.{check_ends, ended_line, said_line}
use Rattle.table_tool.proofs.GetLemmas.{never}
use Rattle.table_tool.proofs.check.check.Goals as goal

pub returns-in-Ok : goal.returns-in-Ok
returns-in-Ok g c =
    λ left faults.
    let e = c.in-Ok-Sound.ensures in
    check_ends left faults _ _ _ _ _ _ _ _ _ _ (Ok (Sound c.in-Ok-Sound.counts)) c.print.result
    (subst (λ (v : Verdict). IfSome (g.K.Store.files c.args.store.now) (λ m. Checks m first_generation (Ok v))) c.in-Ok-Sound.field-0-is e.checks)
    (record {
      ends = ended_line c.print.result c.print.ensures.cases;
      written = said_line _ _ (sound_line c.in-Ok-Sound.counts) _ c.print.result c.in-Ok.ensures
          (subst (λ (t : List ℕ). WhereTold (g.O.Sink.written c.args.out.now) (g.O.Sink.written c.print.new.out) (PrintsText t c.print.result)) c.as_slice.ensures c.print.ensures.told);
    })
    e.files (λ also. cc) c.print.ensures.fault

pub returns-in-Ok-Unsound : goal.returns-in-Ok-Unsound
returns-in-Ok-Unsound g c =
    λ left faults.
    let e = c.in-Ok-Unsound.ensures in
    check_ends left faults _ _ _ _ _ _ _ _ _ _ (Ok (Unsound c.in-Ok-Unsound.mismatch)) c.refuse.result
    (subst (λ (v : Verdict). IfSome (g.K.Store.files c.args.store.now) (λ m. Checks m first_generation (Ok v))) c.in-Ok-Unsound.field-0-is e.checks)
    (record { ends = c.refuse.ensures.status; written = c.refuse.ensures.told })
    e.files (λ also. cc) (λ sunk. absurd (never c.refuse.result (status.Unsound c.in-Ok-Unsound.mismatch) (λ is. cc) c.refuse.ensures.status sunk))

pub returns-in-Err-Damaged : goal.returns-in-Err-Damaged
returns-in-Err-Damaged g c =
    λ left faults.
    let e = c.in-Err-Damaged.ensures in
    check_ends left faults _ _ _ _ _ _ _ _ _ _ (Err (fault.Damaged c.in-Err-Damaged.damage)) c.refuse-in-Err-Damaged.result
    (subst (λ (f : TableFault). IfSome (g.K.Store.files c.args.store.now) (λ m. Checks m first_generation (Err f))) c.in-Err-Damaged.field-0-is e.checks)
    (record { ends = c.refuse-in-Err-Damaged.ensures.status; written = c.refuse-in-Err-Damaged.ensures.told })
    e.files (λ also. cc)
    (λ sunk. absurd (never c.refuse-in-Err-Damaged.result (status.Damaged c.in-Err-Damaged.damage) (λ is. cc) c.refuse-in-Err-Damaged.ensures.status sunk))
