use Rattle.std.proofs.Common.{◌≡◌, ℕ, List, ◌+◌, ◌*◌, ◌<◌, ◌≤◌, ◌∙◌, arith, ap, false, inl, inr, length, refl, rules}
use Rattle.data_file.proofs.Found.{early_stays, none_held}
use Rattle.data_file.proofs.reading.read_static_part.Goals as goal
use Rattle.data_file.specs.Answers.{IsStaticPart}
use Rattle.key_types.specs.Columns.{columns_of}

pub pages-init : goal.pages-init
pages-init g c =
    let none : length c.new-held.result ≡ 0 = ap length c.new-held.ensures in
    record {
      front = none_held (g.K.Store.files c.args.store.now) c.args.file c.args.at c.new-held.result c.new-held.ensures;
      rest = λ end. cc;
      same = refl;
      short = omega arith;
      most = omega arith;
      pages = λ open_file. omega arith;
      later = omega arith;
    }

pub returns-in-Some-clause-part : goal.returns-in-Some-clause-part
returns-in-Some-clause-part g c =
    early_stays (g.K.Store.files c.args.store.now) (g.K.Store.files c.pages.store) c.args.file c.args.at c.pages.held c.as_slice.result.now
    (λ (b : List ℕ). IsStaticPart (columns_of c.args.schema.now) b c.args.at c.in-Some.found) c.pages.invariant.same c.as_slice.ensures c.pages.invariant.front c.in-Some.ensures.told

pub pages-preserved : goal.pages-preserved
pages-preserved g c =
    let few : length c.as_slice.result.now < 65538 = c.early_static_part.ensures.few (search rules) in
    let held : length c.as_slice.result.now ≡ length c.pages.held = ap length c.as_slice.ensures in
    let going : c.pages.ended ≡ false = search rules in
    let before : 4096 * g.K.Store.reads c.pages.store ≤ 4096 * g.K.Store.reads c.args.store.now + length c.pages.held = c.pages.invariant.pages going in
    let reads : g.K.Store.reads c.read_more.new.store ≤ g.K.Store.reads c.pages.store + 1 = c.in_ok-ended.ensures.reads in
    let page : length c.read_more.new.held ≤ length c.pages.held + 4096 = c.in_ok-ended.ensures.page in
    let first = c.pages.invariant.later in
    let then_later = c.in_ok-ended.ensures.later in
    record {
      front = c.in_ok-ended.ensures.front;
      rest = c.in_ok-ended.ensures.ended;
      same = c.in_ok-ended.ensures.files ∙ c.pages.invariant.same;
      short = omega arith;
      most = omega arith;
      pages = λ more. elim c.in_ok-ended.ensures.grown [ inl end ↦ cc | inr grown ↦ omega arith ];
      later = omega arith;
    }
