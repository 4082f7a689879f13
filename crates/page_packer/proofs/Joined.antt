-- Branches that are packed one by one, the last behind the others.
use Rattle.std.proofs.Common.{◌≡◌, ℕ, ◌+◌, ◌-◌, ◌^◌, ◌<◌, ◌≤◌, List, [], ◌∷◌, ◌++◌, length, take, drop, map, refl, sym, ◌∙◌, ap, subst, arith, append_assoc, length-append}
use Rattle.std.proofs.Math.Seq.{drop-append_seam}
use Rattle.std.proofs.lemmas.List.{append-nil, length-map, take_at}
use Rattle.std.specs.List.{AllByRecursion}
use Rattle.bti_nodes.specs.Spelling.{bytes_in, letter_of, IsAscending, IsNear, IsNode}
use Rattle.page_packer.specs.declared.work.Stood.{Stood}
use Rattle.page_packer.specs.declared.boxes.Link.{Link, End, Last'}
use Rattle.page_packer.specs.Tree.{Tree, Branches, tree, end, branch, weights, letters}
use Rattle.page_packer.specs.Sound.{Ascend}
use Rattle.page_packer.specs.Layout.{Laid, LaidUnder, packed, packed_under, node_at_place, seen_from, beside}
use Rattle.page_packer.specs.Boxes.{branches_of, and_last, weight_in}
use Rattle.page_packer.proofs.Pages.{SameLetters, Between, seen_letters}
use Rattle.page_packer.proofs.Boxed.{weights_last}

-- branches that were laid, with one more behind them
abbrev pub beside_last : ℕ → LaidUnder → Laid → LaidUnder
beside_last b under laid = record { bytes = under.bytes ++ laid.bytes; children = under.children ++ record { byte = b; position = laid.root } ∷ [] }

abbrev pub laid_under : List ℕ → List Stood → LaidUnder
laid_under bytes children = record { bytes = bytes; children = children }

packed_last : (bs : Branches) (b : ℕ) (t : Tree) (p : ℕ) → packed_under (and_last bs b t) p ≡ beside_last b (packed_under bs p) (packed t (p + length (packed_under bs p).bytes))
packed_last end b t p =
    let z : p + 0 ≡ p = omega arith in
    ap (λ (l : List ℕ). laid_under l (record { byte = b; position = (packed t p).root } ∷ [])) (append-nil (packed t p).bytes)
    ∙ ap (λ q. beside_last b (laid_under [] []) (packed t q)) (sym z)
packed_last (branch c u bs) b t p =
    let first = packed u p in
    let next = p + length first.bytes in
    let rest = packed_under bs next in
    let far : next + length rest.bytes ≡ p + length (first.bytes ++ rest.bytes) = omega (arith, length-append first.bytes rest.bytes) in
    let laid = packed t (p + length (first.bytes ++ rest.bytes)) in
    ap (beside c first) (packed_last bs b t next) ∙ ap (λ q. beside c first (beside_last b rest (packed t q))) far
    ∙ ap (λ l. laid_under l (record { byte = c; position = first.root } ∷ (rest.children ++ record { byte = b; position = laid.root } ∷ []))) (sym (append_assoc first.bytes rest.bytes laid.bytes))

regroup : (a b c d : List ℕ) → ((a ++ b) ++ c) ++ d ≡ a ++ (b ++ (c ++ d))
regroup a b c d = simp append_assoc

-- what a packed node and the branches before it append
pub joined : (out0 out1 out2 out3 : List ℕ) (s0 s1 s2 s3 s4 : List Stood) (start base at byte : ℕ) (q : List ℕ) (bs cs all : Branches)
    → out1 ≡ out0 ++ (packed_under bs (start + length out0)).bytes → s1 ≡ s0 ++ (packed_under bs (start + length out0)).children → base ≡ length s1
    → out2 ≡ out1 ++ (packed_under cs (start + length out1)).bytes → s2 ≡ s1 ++ (packed_under cs (start + length out1)).children → at ≡ start + length out2
    → out3 ≡ out2 ++ node_at_place q (drop base s2) at → s3 ≡ take base s2 → s4 ≡ s3 ++ record { byte = byte; position = at } ∷ [] → all ≡ and_last bs byte (tree q cs)
    → (out3 ≡ out0 ++ (packed_under all (start + length out0)).bytes) × (s4 ≡ s0 ++ (packed_under all (start + length out0)).children)
joined out0 out1 out2 out3 s0 s1 s2 s3 s4 start base at byte q bs cs all e1 f1 n e2 f2 m e3 f3 f4 v =
    let p0 = start + length out0 in
    let p1 = start + length out1 in
    let u0 = packed_under bs p0 in
    let u1 = packed_under cs p1 in
    let kids : drop base s2 ≡ u1.children = ap (λ k. drop k s2) n ∙ ap (drop (length s1)) f2 ∙ drop-append_seam s1 u1.children in
    let far : p1 ≡ p0 + length u0.bytes = omega (arith, ap length e1, length-append out0 u0.bytes) in
    let at_is : at ≡ p1 + length u1.bytes = omega (arith, m, ap length e2, length-append out1 u1.bytes) in
    let whole : packed_under all p0 ≡ beside_last byte u0 (packed (tree q cs) p1) =
    ap (λ (x : Branches). packed_under x p0) v ∙ packed_last bs byte (tree q cs) p0 ∙ ap (λ p. beside_last byte u0 (packed (tree q cs) p)) (sym far) in
    let last = node_at_place q u1.children (p1 + length u1.bytes) in
    let node : node_at_place q (drop base s2) at ≡ last = ap (λ k. node_at_place q k at) kids ∙ ap (node_at_place q u1.children) at_is in
    let front : s3 ≡ s0 ++ u0.children = f3 ∙ ap (λ k. take k s2) n ∙ ap (take (length s1)) f2 ∙ take_at s1 u1.children (length s1) refl ∙ f1 in (
      e3 ∙ ap (λ x. out2 ++ x) node ∙ ap (λ x. x ++ last) (e2 ∙ ap (λ x. x ++ u1.bytes) e1) ∙ regroup out0 u0.bytes u1.bytes last ∙ ap (λ (l : LaidUnder). out0 ++ l.bytes) (sym whole),
      f4 ∙ ap (λ x. x ++ record { byte = byte; position = at } ∷ []) front ∙ ap (λ p. (s0 ++ u0.children) ++ record { byte = byte; position = p } ∷ []) at_is
          ∙ append_assoc s0 u0.children (record { byte = byte; position = p1 + length u1.bytes } ∷ []) ∙ ap (λ (l : LaidUnder). s0 ++ l.children) (sym whole),
    )

pub all_before : (low high : ℕ) (cs : List Stood) → Between low high cs → AllByRecursion (λ s. s.position ≤ high) cs
all_before low high [] h = tt
all_before low high (c ∷ cs) h = (omega (arith, h.1), all_before low high cs h.2)

again : (low high at : ℕ) (cs : List Stood) → low ≡ high → IsAscending low (map (seen_from at) cs) → IsAscending high (map (seen_from at) cs)
again low high at cs e h = subst (λ n. IsAscending n (map (seen_from at) cs)) e h

ascending : (low at : ℕ) (bs : Branches) (cs : List Stood) → Ascend low bs → SameLetters bs cs → IsAscending low (map (seen_from at) cs)
ascending low at end [] a s = tt
ascending low at end (c ∷ cs) a s = absurd s
ascending low at (branch b t bs) [] a s = absurd s
ascending low at (branch b t bs) (c ∷ cs) a s = (omega (arith, a.0, s.0), again (b + 1) (c.byte + 1) at cs (omega (arith, s.0)) (ascending (b + 1) at bs cs a.2 s.1))

near : (low at : ℕ) (cs : List Stood) → Between low at cs → at - low < 2 ^ 40 → AllByRecursion IsNear (map (seen_from at) cs)
near low at [] h l = tt
near low at (c ∷ cs) h l = ((omega (arith, h.0, h.1), omega (arith, h.0, h.1)), near low at cs h.2 l)

-- a node whose children stand near can be written
pub node_fine : (q : List ℕ) (bs : Branches) (cs : List Stood) (low at : ℕ) → length q ≤ 7 → 0 < length q + length (letters bs) → Ascend 0 bs → SameLetters bs cs → Between low at cs → at - low < 2 ^ 40
    → IsNode (record { payload = q; children = map (seen_from at) cs })
node_fine q bs cs low at short full a s between close = record {
  short = short;
  some = omega (arith, full, length-map (map (seen_from at) cs) letter_of, ap length (seen_letters bs cs at s));
  order = ascending 0 at bs cs a s;
  near = near low at cs between close;
}

pub weight_is : (link : Link) → weight_in link ≡ weights (branches_of link)
weight_is End = refl
weight_is (Last' p byte w so_far payload children before) =
    let a = weight_is before in
    let b = weight_is children in
    omega (arith, a, b, weights_last (branches_of before) byte (tree (bytes_in payload) (branches_of children)))
