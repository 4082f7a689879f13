use Rattle.cell_layout.proofs.sparse.+order_with.Given as goal

abbrev pub decreases-order_with : goal.decreases-order_with
decreases-order_with l = l.left
