use Rattle.std.proofs.Common.{rules, ◌≡◌, true, false, get_or, sym, ◌∙◌, ap, subst}
use Rattle.bti_nodes.specs.Spelling.{bytes_in}
use Rattle.page_packer.specs.declared.boxes.Branch.{Branch}
use Rattle.page_packer.specs.declared.boxes.Link.{Link}
use Rattle.page_packer.specs.Tree.{Tree, Branches, tree}
use Rattle.page_packer.specs.Boxes.{branches_of, and_last, EndsUnder, IsWeighed}
use Rattle.page_packer.proofs.Boxed.{add_here, add_below, put_after, on_ok, kept, WeighedBox}
use Rattle.page_packer.proofs.boxes.+add_key.Goals as goal

-- the node of a box, and its branches with that node's behind them
abbrev node : Branch → Tree
node b = tree (bytes_in b.payload) (branches_of b.children)

abbrev boxed : Branch → Branches
boxed b = and_last (branches_of b.before) b.byte (node b)

pub returns-then-not-ends_under-clause-added : goal.returns-then-not-ends_under-clause-added
returns-then-not-ends_under-clause-added t c =
    let no : c.ends_under.result ≡ false = search rules in
    on_ok c.put_behind.result _ _ (λ e. e ∙ put_after c.args.link.now c.args.key.now (bytes_in c.args.payload) c.in-len1-up.len_at_least (λ u. (let yes = c.ends_under.ensures.1 u in cc))) c.put_behind.ensures.behind

pub returns-then-is_empty-clause-added : goal.returns-then-is_empty-clause-added
returns-then-is_empty-clause-added t c =
    let b = c.deref_mut-branch.result.now in
    let view : branches_of c.args.link.now ≡ boxed b = ap branches_of c.in-Last.is ∙ ap boxed (sym c.deref_mut-branch.ensures.value) in
    let yes : c.ends_under.result ≡ true = search rules in
    let under : c.in-Last.branch.value.byte ≡ get_or c.args.key.now 0 0 = subst (λ (l : Link). EndsUnder l (get_or c.args.key.now 0 0)) c.in-Last.is (c.ends_under.ensures.0 yes) in
    add_here c.args.key.now (branches_of b.before) b.byte (bytes_in b.payload) (bytes_in c.args.payload) (branches_of b.children) _ c.in-len1-up.len_at_least
    (ap (λ (x : Branch). x.byte) c.deref_mut-branch.ensures.value ∙ under) (sym c.is_empty.ensures ∙ c.if-is_empty.true) view

pub returns-else-is_empty-clause-added : goal.returns-else-is_empty-clause-added
returns-else-is_empty-clause-added t c =
    let b = c.deref_mut-branch.result.now in
    let view : branches_of c.args.link.now ≡ boxed b = ap branches_of c.in-Last.is ∙ ap boxed (sym c.deref_mut-branch.ensures.value) in
    let yes : c.ends_under.result ≡ true = search rules in
    let under : c.in-Last.branch.value.byte ≡ get_or c.args.key.now 0 0 = subst (λ (l : Link). EndsUnder l (get_or c.args.key.now 0 0)) c.in-Last.is (c.ends_under.ensures.0 yes) in
    on_ok c.add_key.result _ _ (λ e. add_below c.args.key.now (branches_of b.before) b.byte (bytes_in b.payload) (bytes_in c.args.payload) (branches_of b.children) (branches_of c.add_key.new.link) _ c.in-len1-up.len_at_least
    (ap (λ (x : Branch). x.byte) c.deref_mut-branch.ensures.value ∙ under) (sym c.is_empty.ensures ∙ c.if-is_empty.false) view e) c.add_key.ensures.added

pub returns-in-empty-clause-kept : goal.returns-in-empty-clause-kept
returns-in-empty-clause-kept t c = kept c.args.link.now c.requires

pub returns-then-is_empty-clause-kept : goal.returns-then-is_empty-clause-kept
returns-then-is_empty-clause-kept t c =
    let box : WeighedBox c.deref_mut-branch.result.now = subst WeighedBox (sym c.deref_mut-branch.ensures.value) (subst IsWeighed c.in-Last.is c.requires) in
    (kept c.deref_mut-branch.result.now.children box.2, box.3)

pub returns-else-is_empty-clause-kept : goal.returns-else-is_empty-clause-kept
returns-else-is_empty-clause-kept t c =
    let box : WeighedBox c.deref_mut-branch.result.now = subst WeighedBox (sym c.deref_mut-branch.ensures.value) (subst IsWeighed c.in-Last.is c.requires) in
    on_ok c.add_key.result _ _ (λ e. (e, box.3)) c.add_key.ensures.kept
