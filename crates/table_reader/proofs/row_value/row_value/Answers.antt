use Rattle.std.proofs.Common.{◌≡◌, ◌⊎◌, ◌∙◌, ℕ, ◌+◌, ◌-◌, ◌<◌, ◌≤◌, ap, arith, false, inl, inr, length, length-append, refl, subst, sym}
use Rattle.std.proofs.lemmas.List.{length-drop}
use Rattle.key_types.specs.Columns.{columns_of}
use Rattle.page_cache.specs.Pages.{Honest}
use Rattle.data_file.proofs.Found.{none_held}
use Rattle.table_reader.specs.declared.block.Stop.{Stop}
use Rattle.table_reader.specs.Rows.{IsCutAt, StopsAt}
use Rattle.table_reader.proofs.Held.{GoesOn, back_is, counted_reads, cut_at_end, goes_on, most_reads, nearer, none_passed}
use Rattle.table_reader.proofs.row_value.row_value.Goals as goal

pub pages-init : goal.pages-init
pages-init g c =
    let none : length c.new-held.result ≡ 0 = ap length c.new-held.ensures in
    record {
      honest = subst (λ f. Honest f c.args.pages.now) (sym c.in_ok-is_beyond.ensures.files) c.requires.honest;
      same = c.in_ok-is_beyond.ensures.files;
      front = none_held (g.K.Store.files c.is_beyond.new.store) c.data_id-file.result c.args.block.rows c.new-held.result c.new-held.ensures;
      rest = λ end. cc;
      within = omega arith;
      inside = inl refl;
      short = inl none;
      onward = none_passed (columns_of c.args.schema.now) c.args.key.now c.args.block c.new-held.result;
      most = λ few. omega (arith, c.in_ok-is_beyond.ensures.reads);
      count = λ open_file. inl (none, omega (arith, c.in_ok-is_beyond.ensures.reads));
      later = omega (arith, c.in_ok-is_beyond.ensures.later);
    }

pub returns-then-ended-clause-value : goal.returns-then-ended-clause-value
returns-then-ended-clause-value g c =
    let rest = c.split_at.result.1.now in
    let left = back_is c.as_slice.result.now c.pages.held c.split_at.result.0.now rest c.pages.passed c.as_slice.ensures c.split_at.ensures.by_index.0 c.split_at.ensures.front_len in
    let cut = subst (λ (s : Stop). StopsAt (columns_of c.args.schema.now) c.args.key.now c.args.block.limit (c.args.block.rows + c.pages.passed) rest s) c.in-Err-Short.field-0-is
    c.in-Err-Short.ensures.stops in
    cut_at_end (g.K.Store.files c.args.store.now) (g.K.Store.files c.pages.store) c.args.generation c.data_id-file.result (columns_of c.args.schema.now) c.args.key.now c.args.block
    c.pages.held rest c.pages.passed c.in-Err-Short.place c.damaged-then-ended.result c.pages.invariant.same c.data_id-file.ensures (c.pages.invariant.rest c.if-ended.true) left
    c.pages.invariant.onward cut c.damaged-then-ended.ensures

pub pages-preserved : goal.pages-preserved
pages-preserved g c =
    let rest = c.split_at.result.1.now in
    let inv = c.pages.invariant in
    let left = back_is c.as_slice.result.now c.pages.held c.split_at.result.0.now rest c.pages.passed c.as_slice.ensures c.split_at.ensures.by_index.0 c.split_at.ensures.front_len in
    let cut : IsCutAt (columns_of c.args.schema.now) c.args.key.now c.args.block.limit (c.args.block.rows + c.pages.passed) rest c.in-Err-Short.place =
    subst (λ (s : Stop). StopsAt (columns_of c.args.schema.now) c.args.key.now c.args.block.limit (c.args.block.rows + c.pages.passed) rest s) c.in-Err-Short.field-0-is
    c.in-Err-Short.ensures.stops in
    let there : c.in-Err-Short.place ≡ c.args.block.rows + c.pages.passed + cut.passed = cut.there in
    let passed : c.in-Err-Short.place - c.args.block.rows ≡ c.pages.passed + cut.passed = omega arith in
    let on = c.in_ok-ended-in-Err-Short.ensures.on in
    let sum : length c.read_on.new.held ≡ length c.pages.held + length on.0 = ap length on.1 ∙ length-append c.pages.held on.0 in
    let rest_len : length rest ≡ length c.pages.held - c.pages.passed = ap length left ∙ length-drop c.pages.passed c.pages.held in
    let few : length c.pages.held < c.pages.passed + cut.passed + 66564 = omega (arith, cut.few, rest_len, inv.within) in
    let more : length on.0 ≤ 4096 = on.2 in
    let open_file : c.pages.ended ≡ false = c.if-ended.false in
    let before = inv.count open_file in
    let reads : g.K.Store.reads c.read_on.new.store ≤ g.K.Store.reads c.pages.store + 1 = c.in_ok-ended-in-Err-Short.ensures.reads in
    let low : (c.pages.passed + cut.passed ≡ 0) ⊎ (c.in-Err-Short.place < c.args.block.limit) = nearer c.args.block.rows c.args.block.limit c.pages.passed cut.passed c.in-Err-Short.place there inv.inside cut.inside in
    record {
      honest = c.in_ok-ended-in-Err-Short.ensures.honest;
      same = c.in_ok-ended-in-Err-Short.ensures.files ∙ inv.same;
      front = c.in_ok-ended-in-Err-Short.ensures.front;
      rest = c.in_ok-ended-in-Err-Short.ensures.ended;
      within = omega (arith, cut.within, inv.within);
      inside = elim low [ inl none ↦ inl (passed ∙ none) | inr below ↦ inr (omega arith) ];
      short = inr (omega arith);
      onward = subst (λ (n : ℕ). GoesOn (columns_of c.args.schema.now) c.args.key.now c.args.block n c.read_on.new.held) (sym passed)
          (goes_on (columns_of c.args.schema.now) c.args.key.now c.args.block c.pages.passed c.in-Err-Short.place c.pages.held rest on.0 c.read_on.new.held inv.within left inv.onward cut on.1);
      most = λ near. most_reads (g.K.Store.reads c.args.store.now) (g.K.Store.reads c.pages.store) (g.K.Store.reads c.read_on.new.store) c.args.block.rows c.args.block.limit
          (length c.pages.held) (c.pages.passed + cut.passed) c.in-Err-Short.place (omega arith) near low few reads before;
      count = λ goes. inr (counted_reads (g.K.Store.reads c.args.store.now) (g.K.Store.reads c.pages.store) (g.K.Store.reads c.read_on.new.store) c.args.block.rows
          (length c.pages.held) (length c.read_on.new.held) (c.in_ok-ended-in-Err-Short.ensures.grown goes) reads before);
      later = omega (arith, c.in_ok-ended-in-Err-Short.ensures.later, inv.later);
    }
