use Rattle.std.proofs.Common.{◌∙◌}
use Rattle.byte_comparable.specs.Encoding.{key_string}
use Rattle.row_text.proofs.PrintedLemmas.{is_row_entry, is_static_entry, row_named, static_line_named}
use Rattle.flush_walk.proofs.PartsLemmas.{some_key}
use Rattle.row_text.proofs.laws.law_keys_are_named.Goals as goal

pub returns : goal.returns
returns c = record {
  row = λ columns partition clustering value fits within. (
    row_named columns partition clustering value fits within,
    is_row_entry columns partition (key_string columns.clustering clustering) value fits ∙ some_key columns.clustering clustering within,
  );
  static_part = λ columns type partition value is fits. (static_line_named columns type partition value is fits, is_static_entry columns partition value fits);
}
