use Rattle.std.proofs.Common.{List, ℕ, IfSome, Option, refl, sym, subst}
use Rattle.key_types.specs.Columns.{columns_of}
use Rattle.key_decode.specs.Strings.{IsStringOf}
use Rattle.key_printing.specs.Texts.{IsTextOf}
use Rattle.row_text.proofs.PrintedLemmas.{ok_so}
use Rattle.scan_tool.proofs.Lined.{row_put, static_put}
use Rattle.scan_tool.proofs.lines.Lines.put.Goals as goal

pub returns-in-Some-clause-line : goal.returns-in-Some-clause-line
returns-in-Some-clause-line c =
    let columns = columns_of c.args.schema.now in
    let entry = c.args.entry.now in
    let kept : IsTextOf columns.partition entry.partition c.turn_text.new.text =
    subst (λ (k : List ℕ). IsTextOf columns.partition k c.turn_text.new.text) c.as_slice-partition.ensures c.in_ok-turn_text.ensures.text in
    let text : IsTextOf columns.partition entry.partition c.as_slice-text.result.now =
    subst (λ (t : List ℕ). IsTextOf columns.partition entry.partition t) (sym c.as_slice-text.ensures) kept in
    let string : IsStringOf columns.clustering c.in-Some.clustering =
    subst (λ (o : Option (List ℕ)). IfSome o (IsStringOf columns.clustering)) c.in-Some.is c.requires.entry.clustering in
    ok_so c.put_row.result _ _
    (λ put. row_put columns entry c.args.self.now _ c.as_slice-text.result.now c.as_slice-value.result.now c.as_slice-value.ensures text c.in-Some.clustering c.as_slice.result.now c.in-Some.is c.as_slice.ensures string
    (put entry.partition text) refl)
    c.put_row.ensures

pub returns-in-Some-clause-held : goal.returns-in-Some-clause-held
returns-in-Some-clause-held c =
    let columns = columns_of c.args.schema.now in
    ok_so c.put_row.result _ _
    (λ put some. subst (λ (s : List ℕ). IsTextOf columns.partition s c.turn_text.new.text) (sym c.in_ok-turn_text.ensures.last) c.in_ok-turn_text.ensures.text)
    c.put_row.ensures

pub returns-in-None-clause-line : goal.returns-in-None-clause-line
returns-in-None-clause-line c =
    let columns = columns_of c.args.schema.now in
    let entry = c.args.entry.now in
    let kept : IsTextOf columns.partition entry.partition c.turn_text.new.text =
    subst (λ (k : List ℕ). IsTextOf columns.partition k c.turn_text.new.text) c.as_slice-partition.ensures c.in_ok-turn_text.ensures.text in
    let text : IsTextOf columns.partition entry.partition c.as_slice-text.result.now =
    subst (λ (t : List ℕ). IsTextOf columns.partition entry.partition t) (sym c.as_slice-text.ensures) kept in
    ok_so c.put_static.result _ _
    (λ put. static_put columns entry c.args.self.now _ c.as_slice-text.result.now c.as_slice-value.result.now c.as_slice-value.ensures text c.in-None.is (put entry.partition text) refl)
    c.put_static.ensures
