use Rattle.std.proofs.Common.{map}
use Rattle.std.specs.String.{string_bytes}
use Rattle.clap.specs.Words.{app_of, subcommand_rows_of}
use Rattle.command_line.specs.Reading.{found_in}
use Rattle.command_line.proofs.Faulty.{answers_err, found_fault, found_ok, usage_is_other}
use Rattle.command_line.proofs.reading.matches_of.Goals as goal

pub returns-in-Err : goal.returns-in-Err
returns-in-Err c =
    let words = map string_bytes c.args.words.now in
    answers_err subcommand_rows_of c.error_of.result (found_in words) (λ usage.
    found_fault (app_of c.in_ok-tool.field-0) words c.in-Err.e c.in_ok-tool.ensures c.in-Err.ensures.kinds (usage_is_other c.in-Err.e c.error_of.result c.error_of.ensures usage))

pub returns-in-Ok : goal.returns-in-Ok
returns-in-Ok c =
    found_ok (app_of c.in_ok-tool.field-0) (map string_bytes c.args.words.now) (subcommand_rows_of c.in-Ok.matches)
    c.in_ok-tool.ensures c.in-Ok.ensures.kinds c.in-Ok.ensures.matches
