use Rattle.std.proofs.Common.{◌≡◌, List, ℕ, [], length, eqb-true, ap, sym, ◌∙◌, ◌++◌}
use Rattle.std.proofs.lemmas.List.{append-nil, nil_from_length}
use Rattle.key_types.specs.Columns.{columns_of}
use Rattle.row_text.specs.Printed.{entry_line}
use Rattle.row_text.proofs.PrintedLemmas.{ok_so}
use Rattle.table_tool.proofs.printing.put_entry.Goals as goal

pub returns-then-is_empty : goal.returns-then-is_empty
returns-then-is_empty c =
    let empty : c.args.clustering.now ≡ [] = nil_from_length c.args.clustering.now (eqb-true (length c.args.clustering.now) 0 (sym c.is_empty.ensures ∙ c.if-is_empty.true)) in
    ok_so c.put_static.result _ _
    (λ put key is. put key is ∙ ap (λ (k : List ℕ). c.args.out.now ++ entry_line (columns_of c.args.schema.now) (k, c.args.value.now)) (sym (append-nil key) ∙ ap (λ (b : List ℕ). key ++ b) (sym empty)))
    c.put_static.ensures
