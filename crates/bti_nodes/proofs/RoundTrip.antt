-- What is written is parsed to the same node, in each of the types that are written.
use Rattle.std.proofs.Common.{◌≡◌, ℕ, zero, suc, ◌^◌, ◌<◌, ◌≤◌, true, List, [], ◌∷◌, ◌++◌, length, map, refl, arith}
use Rattle.std.proofs.lemmas.Bool.Decides.{nat_tests}
use Rattle.std.specs.Result.{IsOkAnd}
use Rattle.std.specs.List.{AllByRecursion}
use Rattle.bti_nodes.specs.declared.table.Shape.{Shape}
use Rattle.bti_nodes.specs.declared.table.Shape.TheVariants.{Leaf, Short, Single, Sparse, Dense}
use Rattle.bti_nodes.specs.declared.node.Child.{Child}
use Rattle.bti_nodes.specs.Grammar.{node_at}
use Rattle.bti_nodes.specs.Spelling.{Parts, IsNode, IsNear, outline_of, shape_holds, chosen, kind_of_number, node_bytes, greatest, last_letter, distance_of}
use Rattle.bti_nodes.specs.Laws.{WrittenIsRead}
use Rattle.bti_nodes.proofs.Rows.{near_greatest}
use Rattle.bti_nodes.proofs.Choice.{is_choice, fits_held}
use Rattle.bti_nodes.proofs.Least.{shape_of_held}
use Rattle.bti_nodes.proofs.Sizes.{row_8, row_12, row_16, row_24, row_32, row_40}
use Rattle.bti_nodes.proofs.Packed.{one_1, one_2, reads_8, reads_12, reads_16, reads_24, reads_32, reads_40}
use Rattle.bti_nodes.proofs.Again.{FitsIn, ShapeIs, Again, Means}
use Rattle.bti_nodes.proofs.AgainFew.{leaf_again, single_again, near_again, far_again}
use Rattle.bti_nodes.proofs.AgainMany.{sparse_again, dense_again}

by_number : (m : ℕ) → 1 ≤ m → m ≤ 14 → Again m (kind_of_number m)
by_number zero a b = absurd (omega arith)
by_number (suc zero) a b = near_again
by_number (suc (suc zero)) a b = single_again 2 8 1 (omega arith) refl refl one_1
by_number (suc (suc (suc zero))) a b = far_again
by_number (suc (suc (suc (suc zero)))) a b = single_again 4 16 2 (omega arith) refl refl one_2
by_number (suc (suc (suc (suc (suc zero))))) a b = sparse_again 5 8 (omega arith) refl row_8 reads_8
by_number (suc (suc (suc (suc (suc (suc zero)))))) a b = sparse_again 6 12 (omega arith) refl row_12 reads_12
by_number (suc (suc (suc (suc (suc (suc (suc zero))))))) a b = sparse_again 7 16 (omega arith) refl row_16 reads_16
by_number (suc (suc (suc (suc (suc (suc (suc (suc zero)))))))) a b = sparse_again 8 24 (omega arith) refl row_24 reads_24
by_number (suc (suc (suc (suc (suc (suc (suc (suc (suc zero))))))))) a b = sparse_again 9 40 (omega arith) refl row_40 reads_40
by_number (suc (suc (suc (suc (suc (suc (suc (suc (suc (suc zero)))))))))) a b = dense_again 10 12 (omega arith) refl row_12 reads_12
by_number (suc (suc (suc (suc (suc (suc (suc (suc (suc (suc (suc zero))))))))))) a b = dense_again 11 16 (omega arith) refl row_16 reads_16
by_number (suc (suc (suc (suc (suc (suc (suc (suc (suc (suc (suc (suc zero)))))))))))) a b = dense_again 12 24 (omega arith) refl row_24 reads_24
by_number (suc (suc (suc (suc (suc (suc (suc (suc (suc (suc (suc (suc (suc zero))))))))))))) a b = dense_again 13 32 (omega arith) refl row_32 reads_32
by_number (suc (suc (suc (suc (suc (suc (suc (suc (suc (suc (suc (suc (suc (suc zero)))))))))))))) a b = dense_again 14 40 (omega arith) refl row_40 reads_40
by_number (suc (suc (suc (suc (suc (suc (suc (suc (suc (suc (suc (suc (suc (suc (suc m))))))))))))))) a b = absurd (omega arith)

all_fit : (width position : ℕ) (cs : List Child) → greatest cs < 2 ^ width → AllByRecursion IsNear cs → AllByRecursion (λ d. d ≤ position) (map distance_of cs) → AllByRecursion (FitsIn width position) (map distance_of cs)
all_fit width position [] g near back = tt
all_fit width position (c ∷ cs) g near back = ((near.0.0, back.0, omega arith), all_fit width position cs (omega arith) near.1 back.1)

shape_is : (shape : Shape) (p : Parts) → 0 < length p.children → shape_holds shape (outline_of p) ≡ true → ShapeIs shape p
shape_is Leaf p some h = absurd (grind (arith, nat_tests))
shape_is Short p some h = (grind (arith, nat_tests), grind (arith, nat_tests))
shape_is Single p some h = grind (arith, nat_tests)
shape_is Sparse p some h = (some, grind (arith, nat_tests))
shape_is Dense p some h = some

trip : (payload : List ℕ) (cs : List Child) (rest : List ℕ) (position : ℕ) → IsNode (record { payload = payload; children = cs }) → last_letter cs < 256 → AllByRecursion (λ d. d ≤ position) (map distance_of cs)
    → IsOkAnd (node_at (node_bytes (record { payload = payload; children = cs }) ++ rest) position) (Means payload cs)
unfolding node_bytes chosen
trip payload [] rest position node last back =
    leaf_again (record { payload = payload; children = [] }) rest position (record { short = node.short; order = tt; last = last; fits = tt; shape = (refl, omega (arith, node.some)) })
trip payload (c ∷ cs) rest position node last back =
    let p : Parts = record { payload = payload; children = c ∷ cs } in
    let o = outline_of p in
    let choice = is_choice o (omega arith) (near_greatest (c ∷ cs) node.near) in
    let m = chosen o in
    by_number m choice.written.0 choice.written.1 p rest position (record {
      short = node.short;
      order = node.order;
      last = last;
      fits = all_fit (kind_of_number m).width position (c ∷ cs) (fits_held (kind_of_number m) o choice.held) node.near back;
      shape = shape_is (kind_of_number m).shape p (omega arith) (shape_of_held (kind_of_number m) o choice.held);
    })

pub round_trip : WrittenIsRead
round_trip p rest position node last back = trip p.payload p.children rest position node last back
