-- Branches that are laid one by one, the last behind the others.
use Rattle.std.proofs.Common.{◌≡◌, ℕ, ◌+◌, ◌*◌, ◌^◌, ◌<◌, ◌≤◌, Bool, true, false, List, [], ◌∷◌, ◌++◌, length, take, drop, map, Result, Ok, Err, refl, sym, ◌∙◌, ap, arith, append_assoc, length-append}
use Rattle.std.proofs.Math.Seq.{drop-append_seam}
use Rattle.std.proofs.lemmas.List.{append-nil, take_at}
use Rattle.std.proofs.lemmas.Bool.Decides.{nat_tests}
use Rattle.std.specs.Prelude.{if◌then◌else◌, OnOk}
use Rattle.std.specs.List.{AllByRecursion}
use Rattle.bti_nodes.specs.declared.node.Child.{Child}
use Rattle.bti_nodes.specs.declared.outline.Outline.{Outline}
use Rattle.bti_nodes.specs.Spelling.{bytes_in, zeros, outline_by, outline_size}
use Rattle.bti_nodes.proofs.Sizes.{size_is_length}
use Rattle.page_packer.specs.declared.work.Stood.{Stood}
use Rattle.page_packer.specs.declared.boxes.Link.{Link, End, Last'}
use Rattle.page_packer.specs.Tree.{Tree, Branches, tree, end, branch, weight}
use Rattle.page_packer.specs.Sound.{Ascend, IsFull, Sound, SoundUnder, count, counts}
use Rattle.page_packer.specs.Layout.{Laid, LaidUnder, lay, lay_under, packed, packed_under, node_at_place, beside, light, shifted, closed_in_page, gap, seen_from}
use Rattle.page_packer.specs.Boxes.{branches_of, and_last, count_in, IsSoundLink}
use Rattle.page_packer.specs.Work.{closed_alone}
use Rattle.page_packer.proofs.Length.{zeros_len, lay_under_len}
use Rattle.page_packer.proofs.Boxed.{ascend_before, sound_before, sound_last}
use Rattle.page_packer.proofs.Joined.{beside_last, laid_under, joined}

chosen_laid : (b : Bool) (x y : Laid) → b ≡ true → (if b then x else y) ≡ x
chosen_laid true x y h = refl
chosen_laid false x y h = cc

other_laid : (b : Bool) (x y : Laid) → b ≡ false → (if b then x else y) ≡ y
other_laid true x y h = cc
other_laid false x y h = refl

pub lay_light_is : (q : List ℕ) (bs : Branches) (p : ℕ) → weight (tree q bs) ≤ 4096 → lay (tree q bs) p ≡ shifted (gap p (weight (tree q bs))) (packed (tree q bs) (p + gap p (weight (tree q bs))))
lay_light_is q bs p h =
    let t = tree q bs in
    let yes : light t ≡ true = grind (arith, nat_tests) in
    chosen_laid (light t) (shifted (gap p (weight t)) (packed t (p + gap p (weight t)))) (closed_in_page q (lay_under bs p) (p + length (lay_under bs p).bytes)) yes

pub lay_heavy_is : (q : List ℕ) (bs : Branches) (p : ℕ) → 4096 < weight (tree q bs) → lay (tree q bs) p ≡ closed_in_page q (lay_under bs p) (p + length (lay_under bs p).bytes)
lay_heavy_is q bs p h =
    let t = tree q bs in
    let no : light t ≡ false = grind (arith, nat_tests) in
    other_laid (light t) (shifted (gap p (weight t)) (packed t (p + gap p (weight t)))) (closed_in_page q (lay_under bs p) (p + length (lay_under bs p).bytes)) no

lay_last : (bs : Branches) (b : ℕ) (t : Tree) (p : ℕ) → lay_under (and_last bs b t) p ≡ beside_last b (lay_under bs p) (lay t (p + length (lay_under bs p).bytes))
lay_last end b t p =
    let z : p + 0 ≡ p = omega arith in
    ap (λ (l : List ℕ). laid_under l (record { byte = b; position = (lay t p).root } ∷ [])) (append-nil (lay t p).bytes)
    ∙ ap (λ q. beside_last b (laid_under [] []) (lay t q)) (sym z)
lay_last (branch c u bs) b t p =
    let first = lay u p in
    let next = p + length first.bytes in
    let rest = lay_under bs next in
    let far : next + length rest.bytes ≡ p + length (first.bytes ++ rest.bytes) = omega (arith, length-append first.bytes rest.bytes) in
    let laid = lay t (p + length (first.bytes ++ rest.bytes)) in
    ap (beside c first) (lay_last bs b t next) ∙ ap (λ q. beside c first (beside_last b rest (lay t q))) far
    ∙ ap (λ l. laid_under l (record { byte = c; position = first.root } ∷ (rest.children ++ record { byte = b; position = laid.root } ∷ []))) (sym (append_assoc first.bytes rest.bytes laid.bytes))

-- what a laid node and the branches before it append
pub laid_more : (out0 out1 out2 : List ℕ) (s0 s1 s2 : List Stood) (start byte : ℕ) (t : Tree) (bs all : Branches)
    → out1 ≡ out0 ++ (lay_under bs (start + length out0)).bytes → s1 ≡ s0 ++ (lay_under bs (start + length out0)).children
    → out2 ≡ out1 ++ (lay t (start + length out1)).bytes → s2 ≡ s1 ++ record { byte = byte; position = (lay t (start + length out1)).root } ∷ [] → all ≡ and_last bs byte t
    → (out2 ≡ out0 ++ (lay_under all (start + length out0)).bytes) × (s2 ≡ s0 ++ (lay_under all (start + length out0)).children)
laid_more out0 out1 out2 s0 s1 s2 start byte t bs all e1 f1 e2 f2 v =
    let p0 = start + length out0 in
    let p1 = start + length out1 in
    let u0 = lay_under bs p0 in
    let far : p1 ≡ p0 + length u0.bytes = omega (arith, ap length e1, length-append out0 u0.bytes) in
    let whole : lay_under all p0 ≡ beside_last byte u0 (lay t p1) =
    ap (λ (x : Branches). lay_under x p0) v ∙ lay_last bs byte t p0 ∙ ap (λ p. beside_last byte u0 (lay t p)) (sym far) in (
      e2 ∙ ap (λ x. x ++ (lay t p1).bytes) e1 ∙ append_assoc out0 u0.bytes (lay t p1).bytes ∙ ap (λ (l : LaidUnder). out0 ++ l.bytes) (sym whole),
      f2 ∙ ap (λ x. x ++ record { byte = byte; position = (lay t p1).root } ∷ []) f1 ∙ append_assoc s0 u0.children (record { byte = byte; position = (lay t p1).root } ∷ []) ∙ ap (λ (l : LaidUnder). s0 ++ l.children) (sym whole),
    )

-- what a light node appends
pub light_closed : (out0 out1 out2 out3 : List ℕ) (s0 s1 s2 s3 : List Stood) (start base room at byte : ℕ) (q : List ℕ) (cs : Branches)
    → weight (tree q cs) ≤ 4096 → room ≡ gap (start + length out0) (weight (tree q cs)) → out1 ≡ out0 ++ zeros room → base ≡ length s0
    → out2 ≡ out1 ++ (packed_under cs (start + length out1)).bytes → s1 ≡ s0 ++ (packed_under cs (start + length out1)).children → at ≡ start + length out2
    → out3 ≡ out2 ++ node_at_place q (drop base s1) at → s2 ≡ take base s1 → s3 ≡ s2 ++ record { byte = byte; position = at } ∷ []
    → (out3 ≡ out0 ++ (lay (tree q cs) (start + length out0)).bytes) × (s3 ≡ s0 ++ record { byte = byte; position = (lay (tree q cs) (start + length out0)).root } ∷ [])
light_closed out0 out1 out2 out3 s0 s1 s2 s3 start base room at byte q cs small r e1 n e2 f2 m e3 f3 f4 =
    let t = tree q cs in
    let p0 = start + length out0 in
    let p1 = start + length out1 in
    let one = joined out1 out1 out2 out3 s0 s0 s1 s2 s3 start base at byte q end cs (branch byte t end) (sym (append-nil out1)) (sym (append-nil s0)) n e2 f2 m e3 f3 f4 refl in
    let far : p1 ≡ p0 + room = omega (arith, ap length e1, length-append out0 (zeros room), zeros_len room) in
    let moved : packed t p1 ≡ packed t (p0 + room) = ap (packed t) far in
    let whole : shifted room (packed t p1) ≡ lay t p0 =
    ap (λ (l : Laid). shifted room l) moved ∙ ap (λ k. shifted k (packed t (p0 + k))) r ∙ sym (lay_light_is q cs p0 small) in (
      one.0 ∙ ap (λ l. out1 ++ l) (append-nil (packed t p1).bytes) ∙ ap (λ x. x ++ (packed t p1).bytes) e1 ∙ append_assoc out0 (zeros room) (packed t p1).bytes ∙ ap (λ (l : Laid). out0 ++ l.bytes) whole,
      one.1 ∙ ap (λ (l : Laid). s0 ++ record { byte = byte; position = l.root } ∷ []) whole,
    )

regroup : (a b c d : List ℕ) → (a ++ b) ++ (c ++ d) ≡ a ++ ((b ++ c) ++ d)
regroup a b c d = simp append_assoc

-- what a heavy node appends
pub heavy_closed : (out1 out2 out3 : List ℕ) (s1 s2 s3 : List Stood) (start base at byte : ℕ) (q : List ℕ) (cs : Branches)
    → 4096 < weight (tree q cs) → base ≡ length s1
    → out2 ≡ out1 ++ (lay_under cs (start + length out1)).bytes → s2 ≡ s1 ++ (lay_under cs (start + length out1)).children → at ≡ start + length out2
    → out3 ≡ out2 ++ (closed_alone q (drop base s2) at).bytes → s3 ≡ take base s2 ++ record { byte = byte; position = (closed_alone q (drop base s2) at).root } ∷ []
    → (out3 ≡ out1 ++ (lay (tree q cs) (start + length out1)).bytes) × (s3 ≡ s1 ++ record { byte = byte; position = (lay (tree q cs) (start + length out1)).root } ∷ [])
heavy_closed out1 out2 out3 s1 s2 s3 start base at byte q cs big n e2 f2 m e3 f3 =
    let t = tree q cs in
    let p1 = start + length out1 in
    let u = lay_under cs p1 in
    let to = p1 + length u.bytes in
    let kids : drop base s2 ≡ u.children = ap (λ k. drop k s2) n ∙ ap (drop (length s1)) f2 ∙ drop-append_seam s1 u.children in
    let kept : take base s2 ≡ s1 = ap (λ k. take k s2) n ∙ ap (take (length s1)) f2 ∙ take_at s1 u.children (length s1) refl in
    let at_is : at ≡ to = omega (arith, m, ap length e2, length-append out1 u.bytes) in
    let alone : closed_alone q (drop base s2) at ≡ closed_alone q u.children to = ap (λ k. closed_alone q k at) kids ∙ ap (closed_alone q u.children) at_is in
    let room = gap to (length (node_at_place q u.children to)) in
    let whole = lay_heavy_is q cs p1 big in (
      e3 ∙ ap (λ (l : Laid). out2 ++ l.bytes) alone ∙ ap (λ x. x ++ (closed_alone q u.children to).bytes) e2 ∙ regroup out1 u.bytes (zeros room) (node_at_place q u.children (to + room)) ∙ ap (λ (l : Laid). out1 ++ l.bytes) (sym whole),
      f3 ∙ ap (λ x. x ++ record { byte = byte; position = (closed_alone q (drop base s2) at).root } ∷ []) kept ∙ ap (λ (l : Laid). s1 ++ record { byte = byte; position = l.root } ∷ []) alone
          ∙ ap (λ (l : Laid). s1 ++ record { byte = byte; position = l.root } ∷ []) (sym whole),
    )

pub counts_last : (bs : Branches) (b : ℕ) (t : Tree) → counts (and_last bs b t) ≡ counts bs + count t
counts_last end b t = omega arith
counts_last (branch c u bs) b t = let h = counts_last bs b t in omega (arith, h)

pub count_is : (link : Link) → count_in link ≡ counts (branches_of link)
count_is End = refl
count_is (Last' p byte w so_far payload children before) =
    let a = count_is before in
    let b = count_is children in
    omega (arith, a, b, counts_last (branches_of before) byte (tree (bytes_in payload) (branches_of children)))

-- sound branches in boxes
pub sound_link : (link : Link) → Ascend 0 (branches_of link) → SoundUnder (branches_of link) → IsSoundLink link
sound_link End a s = tt
sound_link (Last' p byte w so_far payload children before) a s =
    let bs = branches_of before in
    let t = tree (bytes_in payload) (branches_of children) in
    let here = sound_last bs byte t s in
    (here.0.0, here.0.1, here.0.2, here.1, sound_link children here.0.1 here.0.2, sound_link before (ascend_before 0 bs byte t a) (sound_before bs byte t s))

sound_more : (bs : Branches) (b : ℕ) (t : Tree) → SoundUnder bs → Sound t → IsFull t → SoundUnder (and_last bs b t)
sound_more end b t s h f = (h, f, tt)
sound_more (branch c u bs) b t s h f = (s.0, s.1, sound_more bs b t s.2 h f)

pub link_sound : (link : Link) → IsSoundLink link → SoundUnder (branches_of link)
link_sound End h = tt
link_sound (Last' p byte w so_far payload children before) h =
    sound_more (branches_of before) byte (tree (bytes_in payload) (branches_of children)) (link_sound before h.5) (h.0, h.1, h.2) h.3

-- where the branches' children stand among those that wait
pub kids_are : (base : ℕ) (s1 s2 kids : List Stood) → base ≡ length s1 → s2 ≡ s1 ++ kids → drop base s2 ≡ kids
kids_are base s1 s2 kids n f = ap (λ k. drop k s2) n ∙ ap (drop (length s1)) f ∙ drop-append_seam s1 kids

-- where the next node goes
pub end_is : (start n at : ℕ) (out1 out2 bytes : List ℕ) → out2 ≡ out1 ++ bytes → n ≡ length out2 → at ≡ start + n → start + length out1 + length bytes ≡ at
end_is start n at out1 out2 bytes e m a = omega (arith, m, a, ap length e, length-append out1 bytes)

pub later : (low high : ℕ) (cs : List Stood) → low ≤ high → AllByRecursion (λ s. s.position ≤ low) cs → AllByRecursion (λ s. s.position ≤ high) cs
later low high [] l h = tt
later low high (c ∷ cs) l h = (omega (arith, h.0), later low high cs l h.1)

-- the size that is reckoned for a node
pub node_size_is : (q : List ℕ) (kids : List Stood) (at size : ℕ) (seen : List Child) (o : Outline) → seen ≡ map (seen_from at) kids → o ≡ outline_by (length q) seen → size ≡ outline_size o → size ≡ length (node_at_place q kids at)
node_size_is q kids at size seen o h k m =
    m ∙ ap outline_size k ∙ ap (λ s. outline_size (outline_by (length q) s)) h ∙ sym (size_is_length (record { payload = q; children = map (seen_from at) kids }))

-- the bytes and the place of a node behind its room
pub alone_bytes : (out0 out1 out2 q : List ℕ) (kids : List Stood) (at room : ℕ) → room ≡ gap at (length (node_at_place q kids at)) → out1 ≡ out0 ++ zeros room → out2 ≡ out1 ++ node_at_place q kids (at + room)
    → out2 ≡ out0 ++ (closed_alone q kids at).bytes
alone_bytes out0 out1 out2 q kids at room r e1 e2 =
    e2 ∙ ap (λ x. x ++ node_at_place q kids (at + room)) e1 ∙ append_assoc out0 (zeros room) (node_at_place q kids (at + room)) ∙ ap (λ k. out0 ++ (zeros k ++ node_at_place q kids (at + k))) r

pub alone_root : (s1 s2 : List Stood) (q : List ℕ) (kids : List Stood) (at room byte : ℕ) → room ≡ gap at (length (node_at_place q kids at)) → s2 ≡ s1 ++ record { byte = byte; position = at + room } ∷ []
    → s2 ≡ s1 ++ record { byte = byte; position = (closed_alone q kids at).root } ∷ []
alone_root s1 s2 q kids at room byte r e = e ∙ ap (λ k. s1 ++ record { byte = byte; position = at + k } ∷ []) r

-- how much sound boxes append
pub laid_short : (link : Link) (out0 out2 : List ℕ) (p : ℕ) → IsSoundLink link → count_in link ≤ 2 ^ 31 → out2 ≡ out0 ++ (lay_under (branches_of link) p).bytes → length out2 ≤ length out0 + 30 * count_in link
laid_short link out0 out2 p s small e =
    let n = count_is link in
    let l = lay_under_len (branches_of link) p (link_sound link s) (omega (arith, n, small)) in
    omega (arith, ap length e, length-append out0 (lay_under (branches_of link) p).bytes, n, l)

pub on_both : {T E : Type 0} (r : Result T E) (P Q R : Type 0) → (P → Q → R) → OnOk r P → OnOk r Q → OnOk r R
on_both (Ok x) P Q R f h k = f h k
on_both (Err e) P Q R f h k = h
