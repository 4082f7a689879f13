-- The gets that a reader made, one after the other.
use Rattle.std.proofs.Common.{◌≡◌, ◌⊎◌, ℕ, zero, suc, ◌<◌, ◌≤◌, List, [], ◌∷◌, ◌++◌, length, take, set, slice_get, Option, Some, None, IfSome, inl, inr, refl, sym, ap, ◌∙◌, subst, length-append, append_assoc, append-nil, arith}
use Rattle.trie_image.specs.declared.Put.{Put}
use Rattle.trie_image.specs.declared.Rec.{Rec}
use Rattle.trie_image.specs.Puts.{HasLastPut}
use Rattle.trie_rule.specs.Rule.{IsStartOf}
use Rattle.trie_rule.specs.Seats.{ReaderAt}
use Rattle.trie_reader.specs.Read.{IsSeenRecord}
use Rattle.shard_table.specs.Seats.{AreEach}
use Rattle.shard_table.proofs.Each.{each_length, each_at, each_more}
use Rattle.script_text.specs.declared.spans.GetLine.{GetLine}
use Rattle.load_work.specs.declared.batch.Answer.{Answer}
use Rattle.load_work.specs.Reads.{HasGrown, IsAnswered, AnswersTo, HasRead, AnswersRise}
use Rattle.load_work.proofs.Lists.{old_or_last, get_before}

module _ {X Y : Type 0} (P : X → Y → Type 0) where
  -- another item in the second list
  pub each_set : (xs : List X) (ys : List Y) (i : ℕ) (x : X) (y : Y) → AreEach P xs ys → slice_get xs i ≡ Some x → P x y → AreEach P xs (set ys i y)
  each_set [] ys i x y h at new = absurd (cc)
  each_set (x' ∷ xs) [] i x y h at new = absurd h
  each_set (x' ∷ xs) (y' ∷ ys) zero x y (h, hs) at new = let e : x' ≡ x = cc in (subst (λ (z : X). P z y) (sym e) new, hs)
  each_set (x' ∷ xs) (y' ∷ ys) (suc i) x y (h, hs) at new = (h, each_set xs ys i x y hs at new)

  pub inside_each : (xs : List X) (ys : List Y) (i : ℕ) → AreEach P xs ys → i < length xs → i < length ys
  inside_each xs ys i h less = omega (arith, less, each_length P xs ys h)

  -- the item that belongs to one of the second list
  pub each_partner : (xs : List X) (ys : List Y) (i : ℕ) (y : Y) → AreEach P xs ys → slice_get ys i ≡ Some y → (x : X) × (slice_get xs i ≡ Some x) × P x y
  each_partner [] [] i y h at = absurd (cc)
  each_partner [] (y' ∷ ys) i y h at = absurd h
  each_partner (x ∷ xs) [] i y h at = absurd h
  each_partner (x ∷ xs) (y' ∷ ys) zero y (h, hs) at = let e : y' ≡ y = cc in (x, refl, subst (P x) e h)
  each_partner (x ∷ xs) (y' ∷ ys) (suc i) y (h, hs) at = each_partner xs ys i y hs at

pub each_with_itself : {X : Type 0} (P : X → X → Type 0) (xs : List X) → ((x : X) → P x x) → AreEach P xs xs
each_with_itself P [] same = tt
each_with_itself P (x ∷ xs) same = (same x, each_with_itself P xs same)

pub each_weaker : {X Y : Type 0} (P Q : X → Y → Type 0) (xs : List X) (ys : List Y) → ((x : X) (y : Y) → P x y → Q x y) → AreEach P xs ys → AreEach Q xs ys
each_weaker P Q [] [] f h = tt
each_weaker P Q [] (y ∷ ys) f h = absurd h
each_weaker P Q (x ∷ xs) [] f h = absurd h
each_weaker P Q (x ∷ xs) (y ∷ ys) f (h, hs) = (f x y h, each_weaker P Q xs ys f hs)

pub each_chain : {X : Type 0} (P : X → X → Type 0) (xs ys zs : List X) → ((x y z : X) → P x y → P y z → P x z) → AreEach P xs ys → AreEach P ys zs → AreEach P xs zs
each_chain P [] [] zs f a b = b
each_chain P [] (y ∷ ys) zs f a b = absurd a
each_chain P (x ∷ xs) [] zs f a b = absurd a
each_chain P (x ∷ xs) (y ∷ ys) [] f a b = absurd b
each_chain P (x ∷ xs) (y ∷ ys) (z ∷ zs) f (a, more) (b, rest) = (f x y z a b, each_chain P xs ys zs f more rest)

pub set_there : {X : Type 0} (xs : List X) (i : ℕ) (x : X) → i < length xs → slice_get (set xs i x) i ≡ Some x
set_there [] i x less = absurd (omega arith)
set_there (y ∷ ys) zero x less = refl
set_there (y ∷ ys) (suc i) x less = set_there ys i x (omega arith)

pub grown_same : (s : ReaderAt) → HasGrown s s
grown_same s = record { seen = ([], sym (append-nil s.knows.seen)); front = omega arith }

pub grown_on : (s t u : ReaderAt) → HasGrown s t → HasGrown t u → HasGrown s u
grown_on s t u a b = record {
  seen = (a.seen.0 ++ b.seen.0, b.seen.1 ∙ ap (λ (l : List Put). l ++ b.seen.0) a.seen.1 ∙ append_assoc s.knows.seen a.seen.0 b.seen.0);
  front = omega (arith, a.front, b.front);
}

-- the first puts of a list are those of a longer one
pub take_longer : (made rest : List Put) (n : ℕ) → n ≤ length made → take n (made ++ rest) ≡ take n made
take_longer made rest zero le = refl
take_longer [] rest (suc n) le = absurd (omega arith)
take_longer (p ∷ made) rest (suc n) le = ap (λ (l : List Put). p ∷ l) (take_longer made rest n (omega arith))

seen_longer : (seen later : List Put) (rec : Rec) → IsStartOf seen later → IsSeenRecord seen rec → IsSeenRecord later rec
seen_longer seen later rec start (n, put, is) = (
  n,
  put,
  record {
    is_there = subst (λ (l : List Put). slice_get l n ≡ Some put) (sym start.1) (get_before seen start.0 n put is.is_there);
    cell = is.cell;
    number = is.number;
    len = is.len;
  },
)

hit_longer : (seen later : List Put) (hit : Option Rec) → IsStartOf seen later → IfSome hit (IsSeenRecord seen) → IfSome hit (IsSeenRecord later)
hit_longer seen later None start h = h
hit_longer seen later (Some rec) start h = seen_longer seen later rec start h

-- an answer stays one where its seat has grown
pub answered_longer : (s t u : ReaderAt) (g : GetLine) (a : Answer) → IsAnswered s t g a → HasGrown t u → IsAnswered s u g a
answered_longer s t u g a is more = record {
  least = is.least;
  most = omega (arith, is.most, more.front);
  inside = omega (arith, is.inside, ap length more.seen.1, length-append t.knows.seen more.seen.0);
  map = subst (λ (l : List Put). HasLastPut l g.key.now a.hit) (sym (ap (take a.at) more.seen.1 ∙ take_longer t.knows.seen more.seen.0 a.at is.inside)) is.map;
  hit = hit_longer t.knows.seen u.knows.seen a.hit more.seen is.hit;
}

-- and where it knew less before
answered_earlier : (r s t : ReaderAt) (g : GetLine) (a : Answer) → HasGrown r s → IsAnswered s t g a → IsAnswered r t g a
answered_earlier r s t g a more is = record { least = omega (arith, is.least, more.front); most = is.most; inside = is.inside; map = is.map; hit = is.hit }

module _ (bounds : List (List ℕ)) (first before after : List ReaderAt) (was : AreEach HasGrown first before) (more : AreEach HasGrown before after) where
  pub read_longer : (g : GetLine) (a : Answer) → HasRead bounds first before g a → HasRead bounds first after g a
  read_longer g a read = record {
    names = read.names;
    inside = read.inside;
    is = λ s u at to. let p = each_partner HasGrown before after a.shard u more to in answered_longer s p.0 u g a (read.is s p.0 at p.1) p.2;
  }

  pub read_now : (g : GetLine) (a : Answer) → HasRead bounds before after g a → HasRead bounds first after g a
  read_now g a read = record {
    names = read.names;
    inside = omega (arith, read.inside, each_length HasGrown first before was);
    is = λ s u at to. let p = each_partner HasGrown before after a.shard u more to in
        answered_earlier s p.0 u g a (each_at HasGrown first before a.shard s p.0 was at p.1) (read.is p.0 u p.1 to);
  }

  -- one get more
  pub reads_more : (gets : List GetLine) (answers : List Answer) (g : GetLine) (a : Answer) → AreEach (HasRead bounds first before) gets answers → HasRead bounds before after g a → AreEach (HasRead bounds first after) (gets ++ g ∷ []) (answers ++ a ∷ [])
  reads_more gets answers g a reads now = each_more (HasRead bounds first after) gets answers g a (each_weaker (HasRead bounds first before) (HasRead bounds first after) gets answers read_longer reads) (read_now g a now)

-- the answer of the seat at the get's shard
pub read_at : (bounds : List (List ℕ)) (seats : List ReaderAt) (i : ℕ) (s t : ReaderAt) (g : GetLine) (a : Answer) → AnswersTo bounds g a → a.shard ≡ i → i < length seats → slice_get seats i ≡ Some s → IsAnswered s t g a → HasRead bounds seats (set seats i t) g a
read_at bounds seats i s t g a names e less here is = record {
  names = names;
  inside = omega (arith, e, less);
  is = λ s' t' at to.
      let at' : slice_get seats i ≡ Some s' = subst (λ (n : ℕ). slice_get seats n ≡ Some s') e at in
      let to' : slice_get (set seats i t) i ≡ Some t' = subst (λ (n : ℕ). slice_get (set seats i t) n ≡ Some t') e to in
      let there : slice_get (set seats i t) i ≡ Some t = set_there seats i t less in
      let p : s ≡ s' = cc in let q : t ≡ t' = cc in
      subst (λ (z : ReaderAt). IsAnswered z t' g a) p (subst (λ (z : ReaderAt). IsAnswered s z g a) q is);
}

-- the item of the second list that belongs to one of the first
pub each_other : {X Y : Type 0} (P : X → Y → Type 0) (xs : List X) (ys : List Y) (i : ℕ) (x : X) → AreEach P xs ys → slice_get xs i ≡ Some x → (y : Y) × (slice_get ys i ≡ Some y) × P x y
each_other P [] [] i x h at = absurd (cc)
each_other P [] (y ∷ ys) i x h at = absurd h
each_other P (x' ∷ xs) [] i x h at = absurd h
each_other P (x' ∷ xs) (y ∷ ys) zero x (h, hs) at = let e : x' ≡ x = cc in (y, refl, subst (λ (z : _). P z y) e h)
each_other P (x' ∷ xs) (y ∷ ys) (suc i) x (h, hs) at = each_other P xs ys i x hs at

answer_inside : (l : List Answer) (i : ℕ) (x : Answer) → slice_get l i ≡ Some x → i < length l
answer_inside [] i x at = absurd (cc)
answer_inside (y ∷ l) zero x at = omega arith
answer_inside (y ∷ l) (suc i) x at = omega (arith, answer_inside l i x at)

pub rises_more : (answers : List Answer) (a : Answer) → AnswersRise answers → ((i : ℕ) (b : Answer) → slice_get answers i ≡ Some b → b.shard ≡ a.shard → b.at ≤ a.at) → AnswersRise (answers ++ a ∷ [])
rises_more answers a rise last i j b c less at to same = by (old_or_last answers a b i at) (old_or_last answers a c j to)
  where
    by : (slice_get answers i ≡ Some b) ⊎ ((i ≡ length answers) × (a ≡ b)) → (slice_get answers j ≡ Some c) ⊎ ((j ≡ length answers) × (a ≡ c)) → b.at ≤ c.at
    by (inl here) (inl there) = rise i j b c less here there same
    by (inl here) (inr (e, is)) = subst (λ (z : Answer). b.at ≤ z.at) is (last i b here (same ∙ ap (λ (z : Answer). z.shard) (sym is)))
    by (inr (e, is)) (inl there) = absurd (omega (arith, e, less, answer_inside answers j c there))
    by (inr (e, is)) (inr (f, it)) = absurd (omega (arith, e, f, less))

module _ (bounds : List (List ℕ)) (first before after : List ReaderAt) (was : AreEach HasGrown first before) (more : AreEach HasGrown before after) where
  -- the next answer stands for no fewer puts than those before it at its shard
  pub rises_now : (gets : List GetLine) (answers : List Answer) (g : GetLine) (a : Answer) (s : ReaderAt) → AreEach (HasRead bounds first before) gets answers → HasRead bounds before after g a → slice_get before a.shard ≡ Some s → AnswersRise answers → AnswersRise (answers ++ a ∷ [])
  rises_now gets answers g a s reads now here rise = rises_more answers a rise (λ i b at same.
      let p = each_partner (HasRead bounds first before) gets answers i b reads at in
      let here' : slice_get before b.shard ≡ Some s = subst (λ (n : ℕ). slice_get before n ≡ Some s) (sym same) here in
      let f = each_partner HasGrown first before b.shard s was here' in
      let u = each_other HasGrown before after a.shard s more here in
      omega (arith, (p.2.is f.0 s f.1 here').most, (now.is s u.0 here u.1).least))

none_there : (answers : List Answer) (i : ℕ) (a b : Answer) → answers ≡ [] → slice_get answers i ≡ Some a → a.at ≤ b.at
none_there [] i a b e at = absurd (cc)
none_there (x ∷ answers) i a b e at = absurd (cc)

pub rises_alone : (answers : List Answer) → answers ≡ [] → AnswersRise answers
rises_alone answers e i j a b less at to same = none_there answers i a b e at
