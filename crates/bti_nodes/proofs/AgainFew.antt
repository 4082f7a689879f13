-- What is written with no child or one is parsed to the same node.
use Rattle.std.proofs.Common.{◌≡◌, ℕ, ◌+◌, ◌*◌, ◌/◌, ◌%◌, ◌^◌, ◌<◌, ◌≤◌, true, List, [], ◌∷◌, ◌++◌, length, take, drop, get_or, Option, Some, refl, ◌∙◌, ap, arith, append_assoc, length-append}
use Rattle.std.proofs.lemmas.Bool.Decides.{nat_tests}
use Rattle.std.specs.Prelude.{if◌then◌else◌, nat_lt, ◌&&◌, max}
use Rattle.std.specs.Result.{IsOkAnd}
use Rattle.byteorder.specs.Endian.{big_bytes}
use Rattle.byteorder.specs.Numbers.{length-bytes_high_first}
use Rattle.bti_nodes.specs.declared.table.Kind.{Kind}
use Rattle.bti_nodes.specs.declared.table.Shape.TheVariants.{Leaf, Short, Single}
use Rattle.bti_nodes.specs.declared.node.Child.{Child}
use Rattle.bti_nodes.specs.Table.{kinds}
use Rattle.bti_nodes.specs.Grammar.{byte_at, node_kind_at, places_of, body_len, payload_len, letter_at, distance_at, child_at_distance, child_by, in_order, points_back, payload_stands, node_at, bits_at}
use Rattle.bti_nodes.specs.Spelling.{body}
use Rattle.bti_nodes.specs.Laws.{standing}
use Rattle.bti_nodes.proofs.Packed.{Whole, bits_behind}
use Rattle.bti_nodes.proofs.Again.{Good, Again, Means, again, good_distance, own_len, short_len, child_again, behind}

leaf_by : (payload rest : List ℕ) (position : ℕ) → length payload ≤ 7 → 0 < length payload → IsOkAnd (node_at (((16 * 0 + length payload) ∷ payload) ++ rest) position) (Means payload [])
unfolding in_order
leaf_by payload rest position short some =
    let n = length payload in
    let head = 16 * 0 + n in
    let bytes = (head ∷ payload) ++ rest in
    let high : head / 16 ≡ 0 = omega arith in
    let low : head % 16 ≡ n = omega arith in
    let kind : Kind = record { shape = Leaf; width = 0 } in
    let paid : payload_len Leaf (byte_at bytes 0 % 16) ≡ n = ap (λ k. if nat_lt k 8 then k else 0) low ∙ own_len n short in
    again kind 0 position bytes payload [] (ap (λ k. get_or kinds k kind) high) refl (omega (arith, paid, length-append payload rest)) refl (λ i l. absurd (omega arith))
    (ap (λ k. nat_lt 0 k && nat_lt k 8) low ∙ grind (arith, nat_tests)) (behind (head ∷ []) payload rest 1 _ refl paid) refl

leaf_of : (payload : List ℕ) (cs : List Child) (rest : List ℕ) (position : ℕ) → length payload ≤ 7 → length cs ≡ 0 → 0 < length payload → IsOkAnd (node_at (((16 * 0 + length payload) ∷ payload) ++ rest) position) (Means payload cs)
leaf_of payload [] rest position short none some = leaf_by payload rest position short some
leaf_of payload (c ∷ cs) rest position short none some = absurd (omega arith)

pub leaf_again : Again 0 (record { shape = Leaf; width = 0 })
leaf_again p rest position good = leaf_of p.payload p.children rest position good.short good.shape.0 good.shape.1

-- one child
one : (kind : Kind) (position letter d : ℕ) (bytes payload : List ℕ) → node_kind_at bytes ≡ kind → places_of kind.shape bytes ≡ 1
    → body_len kind.shape kind.width 1 + payload_len kind.shape (byte_at bytes 0 % 16) ≤ length bytes → in_order kind.shape 1 bytes ≡ true
    → points_back kind.shape 1 position 0 d ≡ true → payload_stands kind.shape (byte_at bytes 0 % 16) ≡ true
    → take (payload_len kind.shape (byte_at bytes 0 % 16)) (drop (body_len kind.shape kind.width 1) bytes) ≡ payload
    → letter_at kind.shape kind.width bytes 0 ≡ letter → distance_at kind.shape kind.width 1 bytes 0 ≡ d → 0 < d → IsOkAnd (node_at bytes position) (Means payload (record { byte = letter; distance = d } ∷ []))
unfolding child_by
one kind position letter d bytes payload k n size order back stands paid here far some =
    let first : child_by kind 1 bytes 0 ≡ Some (record { byte = letter; distance = d }) =
    ap (λ l. child_at_distance l (distance_at kind.shape kind.width 1 bytes 0)) here ∙ ap (λ x. child_at_distance letter x) far ∙ child_again letter d some in
    let each : (i : ℕ) → i < 1 → points_back kind.shape 1 position i (distance_at kind.shape kind.width 1 bytes i) ≡ true =
    λ i l. (let e : i ≡ 0 = omega arith in ap (λ j. points_back kind.shape 1 position j (distance_at kind.shape kind.width 1 bytes j)) e ∙ ap (λ x. points_back kind.shape 1 position 0 x) far ∙ back) in
    again kind 1 position bytes payload (record { byte = letter; distance = d } ∷ []) k n size order each stands paid (ap (λ (c : Option Child). standing (c ∷ [])) first)

single_by : (number width j letter d : ℕ) (payload rest : List ℕ) (position : ℕ) → number < 16 → width ≡ 8 * j → get_or kinds number (record { shape = Leaf; width = 0 }) ≡ record { shape = Single; width = width } → Whole j
    → length payload ≤ 7 → 0 < d → d ≤ position → d < 2 ^ width
    → IsOkAnd (node_at ((((16 * number + length payload) ∷ letter ∷ big_bytes (width / 8) d) ++ payload) ++ rest) position) (Means payload (record { byte = letter; distance = d } ∷ []))
unfolding in_order letter_at distance_at
single_by number width j letter d payload rest position small eight kind_is whole short some back fits =
    let n = length payload in
    let head = 16 * number + n in
    let bytes = ((head ∷ letter ∷ big_bytes (width / 8) d) ++ payload) ++ rest in
    let kind : Kind = record { shape = Single; width = width } in
    let high : head / 16 ≡ number = omega arith in
    let low : head % 16 ≡ n = omega arith in
    let count : width / 8 ≡ j = omega arith in
    let paid : payload_len Single (byte_at bytes 0 % 16) ≡ n = ap (λ k. if nat_lt k 8 then k else 0) low ∙ own_len n short in
    let long = length-bytes_high_first (width / 8) d in
    let at : 16 + 0 * width ≡ 8 * length (head ∷ letter ∷ []) + 0 = omega arith in
    let row : bytes ≡ (head ∷ letter ∷ []) ++ (big_bytes (width / 8) d ++ (payload ++ rest)) = ap (λ l. head ∷ letter ∷ l) (append_assoc (big_bytes (width / 8) d) payload rest) in
    let far : bits_at bytes (16 + 0 * width) width ≡ d =
    ap (λ k. bits_at bytes k width) at ∙ ap (λ l. bits_at l (8 * length (head ∷ letter ∷ []) + 0) width) row ∙ bits_behind (head ∷ letter ∷ []) (big_bytes (width / 8) d ++ (payload ++ rest)) 0 width
    ∙ ap (λ k. bits_at (big_bytes k d ++ (payload ++ rest)) 0 width) count ∙ ap (λ w. bits_at (big_bytes j d ++ (payload ++ rest)) 0 w) eight ∙ whole d (payload ++ rest) (omega (arith, ap (λ w. 2 ^ w) eight)) in
    one kind position letter d bytes payload (ap (λ k. get_or kinds k (record { shape = Leaf; width = 0 })) high ∙ kind_is) refl
    (omega (arith, paid, long, length-append (big_bytes (width / 8) d ++ payload) rest, length-append (big_bytes (width / 8) d) payload)) refl (good_distance d position some back)
    (ap (λ k. nat_lt k 8) low ∙ short_len n short) (behind (head ∷ letter ∷ big_bytes (width / 8) d) payload rest _ _ (omega (arith, long)) paid) refl far some

single_of : (number width j : ℕ) (payload : List ℕ) (cs : List Child) (rest : List ℕ) (position : ℕ) → number < 16 → width ≡ 8 * j → get_or kinds number (record { shape = Leaf; width = 0 }) ≡ record { shape = Single; width = width } → Whole j
    → Good (record { shape = Single; width = width }) (record { payload = payload; children = cs }) position
    → IsOkAnd (node_at ((body number Single width (length payload) cs ++ payload) ++ rest) position) (Means payload cs)
single_of number width j payload [] rest position small eight kind_is whole good = absurd (omega (arith, good.shape))
single_of number width j payload (c ∷ []) rest position small eight kind_is whole good =
    let f = good.fits.0 in
    let same : max c.distance 0 ≡ c.distance = omega arith in
    rw same (single_by number width j c.byte c.distance payload rest position small eight kind_is whole good.short f.0 f.1 f.2)
single_of number width j payload (c ∷ d ∷ cs) rest position small eight kind_is whole good = absurd (omega (arith, good.shape))

pub single_again : (number width j : ℕ) → number < 16 → width ≡ 8 * j → get_or kinds number (record { shape = Leaf; width = 0 }) ≡ record { shape = Single; width = width } → Whole j → Again number (record { shape = Single; width = width })
single_again number width j small eight kind_is whole p rest position good = single_of number width j p.payload p.children rest position small eight kind_is whole good

near_by : (letter d : ℕ) (rest : List ℕ) (position : ℕ) → 0 < d → d ≤ position → d < 16
    → IsOkAnd (node_at ((16 + d) % 256 ∷ letter ∷ rest) position) (Means [] (record { byte = letter; distance = d } ∷ []))
unfolding in_order letter_at distance_at bits_at
near_by letter d rest position some back fits =
    let high : (16 + d) % 256 / 16 ≡ 1 = omega arith in
    one (record { shape = Short; width = 4 }) position letter d ((16 + d) % 256 ∷ letter ∷ rest) [] (ap (λ k. get_or kinds k (record { shape = Leaf; width = 0 })) high) refl (omega arith) refl
    (good_distance d position some back) refl refl refl (omega arith) some

far_by : (letter d : ℕ) (rest : List ℕ) (position : ℕ) → 0 < d → d ≤ position → d < 4096
    → IsOkAnd (node_at ((12288 + d) / 256 % 256 ∷ (12288 + d) % 256 ∷ letter ∷ rest) position) (Means [] (record { byte = letter; distance = d } ∷ []))
unfolding in_order letter_at distance_at bits_at
far_by letter d rest position some back fits =
    let high : (12288 + d) / 256 % 256 / 16 ≡ 3 = omega arith in
    one (record { shape = Short; width = 12 }) position letter d ((12288 + d) / 256 % 256 ∷ (12288 + d) % 256 ∷ letter ∷ rest) [] (ap (λ k. get_or kinds k (record { shape = Leaf; width = 0 })) high) refl (omega arith) refl
    (good_distance d position some back) refl refl refl (omega arith) some

near_of : (payload : List ℕ) (cs : List Child) (rest : List ℕ) (position : ℕ) → Good (record { shape = Short; width = 4 }) (record { payload = payload; children = cs }) position
    → IsOkAnd (node_at ((body 1 Short 4 (length payload) cs ++ payload) ++ rest) position) (Means payload cs)
near_of (x ∷ xs) cs rest position good = absurd (omega (arith, good.shape.1))
near_of [] [] rest position good = absurd (omega (arith, good.shape.0))
near_of [] (c ∷ []) rest position good =
    let f = good.fits.0 in
    let same : max c.distance 0 ≡ c.distance = omega arith in
    rw same (near_by c.byte c.distance rest position f.0 f.1 (omega (arith, f.2)))
near_of [] (c ∷ d ∷ cs) rest position good = absurd (omega (arith, good.shape.0))

far_of : (payload : List ℕ) (cs : List Child) (rest : List ℕ) (position : ℕ) → Good (record { shape = Short; width = 12 }) (record { payload = payload; children = cs }) position
    → IsOkAnd (node_at ((body 3 Short 12 (length payload) cs ++ payload) ++ rest) position) (Means payload cs)
far_of (x ∷ xs) cs rest position good = absurd (omega (arith, good.shape.1))
far_of [] [] rest position good = absurd (omega (arith, good.shape.0))
far_of [] (c ∷ []) rest position good =
    let f = good.fits.0 in
    let same : max c.distance 0 ≡ c.distance = omega arith in
    rw same (far_by c.byte c.distance rest position f.0 f.1 (omega (arith, f.2)))
far_of [] (c ∷ d ∷ cs) rest position good = absurd (omega (arith, good.shape.0))

pub near_again : Again 1 (record { shape = Short; width = 4 })
near_again p rest position good = near_of p.payload p.children rest position good

pub far_again : Again 3 (record { shape = Short; width = 12 })
far_again p rest position good = far_of p.payload p.children rest position good
