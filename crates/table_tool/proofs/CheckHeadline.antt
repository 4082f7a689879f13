-- Every `get` and every `scan` over files that `check` found sound.
use Rattle.std.proofs.Common.{◌≡◌, Option, Some, Result, Ok, Err, subst}
use Rattle.std.specs.Prelude.{IfSome}
use Rattle.outside.specs.Files.{Files}
use Rattle.table_reader.specs.declared.fault.TableFault.{TableFault}
use Rattle.table_reader.specs.declared.fault.TableFault.TheVariants as fault
use Rattle.table_check.specs.declared.verdict.Verdict.{Verdict}
use Rattle.table_check.specs.declared.verdict.Verdict.TheVariants.{Sound, Unsound}
use Rattle.table_check.specs.Check.{Checks}
use Rattle.table_tool.specs.declared.status.Status.TheVariants as status
use Rattle.table_tool.specs.Checking.{CheckEnds, SaysVerdict}
use Rattle.table_tool.specs.First.{first_generation}
use Rattle.table_tool.specs.Laws.{AgreeWithData, HeadlineOfChecks}
use Rattle.table_tool.specs.Outside.{Outside}
use Rattle.table_tool.proofs.GetHeadline.{printed, well}
use Rattle.table_tool.proofs.Headline as range

module _ (files : Files) (before after : Outside) (told : before.files ≡ Some files) (ends : CheckEnds before after status.Ok) where
  agree_by : (v : Result Verdict TableFault) → Checks files first_generation v → SaysVerdict v before after status.Ok → AgreeWithData files
  agree_by (Ok (Sound counts)) sound ended = record {
    columns = sound.columns;
    table = sound.table;
    schema = sound.stands.schema;
    listed = sound.stands.held;
    gets = λ words text key from after' result ask names there run. record {
      printed = printed sound.columns sound.table text key names from after' files result there (run.get text ask) sound.stands;
      complete = well sound.columns sound.table text key names from after' files result there (run.get text ask) sound.stands;
    };
    scans = λ words from to lower upper old new result ask first second there run. record {
      printed = range.all_printed sound.columns files sound.table from to lower upper first second old new result there (run.scan from to ask) sound.stands;
      complete = range.well sound.columns files sound.table from to lower upper first second old new result there (run.scan from to ask) sound.stands;
    };
  }
  agree_by (Ok (Unsound mismatch)) none ended = absurd (let e = ended.ends in cc)
  agree_by (Err fault.StoreFault) is ended = absurd (let e = ended.ends in cc)
  agree_by (Err (fault.Damaged damage)) none ended = absurd (let e = ended.ends in cc)
  agree_by (Err fault.Unfinished) none ended = absurd (let e = ended.ends in cc)
  agree_by (Err fault.NoMemory) is ended = absurd (let e = ended.ends in cc)

  pub agree : AgreeWithData files
  agree = agree_by ends.verdict.0
      (subst (λ (o : Option Files). IfSome o (λ m. Checks m first_generation ends.verdict.0)) told ends.verdict.1) ends.verdict.2

pub checks : HeadlineOfChecks
checks words files before after ask told ends = agree files before after told (ends.check ask)
