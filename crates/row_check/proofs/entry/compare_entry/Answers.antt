use Rattle.std.proofs.Common.{◌≡◌, ◌≢◌, Err, sym, subst, rules}
use Rattle.std.specs.Prelude.{pos}
use Rattle.outside.specs.declared.store.Part.TheVariants.{Rows}
use Rattle.data_walk.specs.declared.refusal.Refusal.{Refusal}
use Rattle.path_check.specs.Paths.{number_clash}
use Rattle.row_check.specs.Entries.{ComparesEntry}
use Rattle.row_check.proofs.entry.compare_entry.Goals as goal

pub returns-then-ne : goal.returns-then-ne
returns-then-ne c =
    let a = c.args in
    let other : a.partition.now ≢ a.key.now = search rules in
    subst (λ (e : Refusal). ComparesEntry a.at a.partition.now a.numbers a.key.now a.sum (Err e)) (sym c.clash_at.ensures)
    (ComparesEntry.other_key other)

pub returns-then-numbers-sum : goal.returns-then-numbers-sum
returns-then-numbers-sum c =
    let a = c.args in
    let same : a.partition.now ≡ a.key.now = search rules in
    let other : a.numbers.position ≢ a.sum.position = search rules in
    let told : c.number_clash.result ≡ number_clash Rows a.at (pos a.numbers.position) (pos a.sum.position) = search rules in
    subst (λ (e : Refusal). ComparesEntry a.at a.partition.now a.numbers a.key.now a.sum (Err e)) (sym told)
    (ComparesEntry.other_position same other)

pub returns-then-numbers-sum-2 : goal.returns-then-numbers-sum-2
returns-then-numbers-sum-2 c =
    let a = c.args in
    let same : a.partition.now ≡ a.key.now = search rules in
    let there : a.numbers.position ≡ a.sum.position = search rules in
    let other : a.numbers.blocks ≢ a.sum.blocks = search rules in
    let told : c.number_clash-then-numbers-sum-2.result ≡ number_clash Rows a.at (pos a.numbers.blocks) (pos a.sum.blocks) = search rules in
    subst (λ (e : Refusal). ComparesEntry a.at a.partition.now a.numbers a.key.now a.sum (Err e)) (sym told)
    (ComparesEntry.other_blocks same there other)

pub returns : goal.returns
returns c =
    let a = c.args in
    let same : a.partition.now ≡ a.key.now = search rules in
    let there : a.numbers.position ≡ a.sum.position = search rules in
    let blocks : a.numbers.blocks ≡ a.sum.blocks = search rules in
    ComparesEntry.same same there blocks
