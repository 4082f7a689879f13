-- The sixteen types of nodes, a row each: how the children stand, and how many bits a distance has.
use Rattle.std.specs.Prelude.{List, [], ◌∷◌}
use Rattle.bti_nodes.specs.declared.table.Kind.{Kind}
use Rattle.bti_nodes.specs.declared.table.Shape.TheVariants.{Leaf, Short, Single, Sparse, Dense}

abbrev pub kinds : List Kind
kinds =
    record { shape = Leaf; width = 0 }  -- PAYLOAD_ONLY
    ∷ record { shape = Short; width = 4 }  -- SINGLE_NOPAYLOAD_4
    ∷ record { shape = Single; width = 8 }  -- SINGLE_8
    ∷ record { shape = Short; width = 12 }  -- SINGLE_NOPAYLOAD_12
    ∷ record { shape = Single; width = 16 }  -- SINGLE_16
    ∷ record { shape = Sparse; width = 8 }  -- SPARSE_8
    ∷ record { shape = Sparse; width = 12 }  -- SPARSE_12
    ∷ record { shape = Sparse; width = 16 }  -- SPARSE_16
    ∷ record { shape = Sparse; width = 24 }  -- SPARSE_24
    ∷ record { shape = Sparse; width = 40 }  -- SPARSE_40
    ∷ record { shape = Dense; width = 12 }  -- DENSE_12
    ∷ record { shape = Dense; width = 16 }  -- DENSE_16
    ∷ record { shape = Dense; width = 24 }  -- DENSE_24
    ∷ record { shape = Dense; width = 32 }  -- DENSE_32
    ∷ record { shape = Dense; width = 40 }  -- DENSE_40
    ∷ record { shape = Dense; width = 64 }  -- LONG_DENSE
    ∷ []
