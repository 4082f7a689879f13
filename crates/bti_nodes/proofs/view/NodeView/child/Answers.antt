use Rattle.std.proofs.Common.{◌≡◌, ◌<◌, ℕ, List, sym, ◌∙◌, ap, length, get_or, None, arith}
use Rattle.std.proofs.lemmas.List.FromFn.{length-map-range_with_len, get_or-map-range_with_len}
use Rattle.bti_nodes.specs.declared.table.Kind.{Kind}
use Rattle.bti_nodes.specs.Grammar.{Node, node_by, child_by}
use Rattle.bti_nodes.proofs.view.NodeView.child.Goals as goal

within : (kind : Kind) (places : ℕ) (bytes : List ℕ) (n : Node) (i : ℕ) → node_by kind places bytes ≡ n → i < length n.places → i < places
unfolding node_by
within kind places bytes n i e below =
    let same : places ≡ length n.places = sym (length-map-range_with_len (child_by kind places bytes) 0 places) ∙ ap (λ (n : Node). length n.places) e in
    omega arith

seen : (kind : Kind) (places : ℕ) (bytes : List ℕ) (n : Node) (i : ℕ) → node_by kind places bytes ≡ n → i < length n.places → child_by kind places bytes i ≡ get_or n.places i None
unfolding node_by
seen kind places bytes n i e below =
    sym (get_or-map-range_with_len (child_by kind places bytes) 0 places i i None (within kind places bytes n i e below) (omega arith))
    ∙ ap (λ (n : Node). get_or n.places i None) e

pub child_at-requires-clause-place : goal.child_at-requires-clause-place
child_at-requires-clause-place c =
    let v = c.self.inside in
    within v.kind v.places v.bytes.now c.args.self.now c.args.place c.self.view_is c.requires

pub returns : goal.returns
returns c =
    let v = c.self.inside in
    c.child_at.ensures ∙ seen v.kind v.places v.bytes.now c.args.self.now c.args.place c.self.view_is c.requires
