-- Turns of a walk are the search for the next path.
use Rattle.std.proofs.Common.{◌≡◌, ◌≢◌, ℕ, zero, suc, ◌+◌, ◌-◌, Bool, true, false, List, [], ◌∷◌, ◌++◌, take, drop, Option, Some, None, Result, Ok, Err, refl, sym, ◌∙◌, ap, subst, arith, append_assoc, append-nil}
use Rattle.std.proofs.lemmas.Bool.Decides.{nat_tests}
use Rattle.std.specs.Prelude.{if◌then◌else◌, ◌==◌}
use Rattle.outside.specs.declared.store.Part.{Part}
use Rattle.bti_nodes.specs.declared.node.Child.{Child}
use Rattle.bti_nodes.specs.Grammar.{Node, child_under}
use Rattle.bti_nodes.specs.Children.{least_child}
use Rattle.bti_nodes.specs.Trie.{Wrong, node_in}
use Rattle.data_file.specs.declared.reading.DataError.{DataError}
use Rattle.data_file.specs.declared.reading.DataError.TheVariants.{StoreFault, NoMemory, Damaged}
use Rattle.bti_reader.specs.declared.ask.Question.TheVariants.{Least}
use Rattle.bti_reader.specs.declared.ask.Turn.{Turn}
use Rattle.bti_reader.specs.declared.ask.Hit.{Hit}
use Rattle.bti_reader.specs.declared.way.PathHit.{PathHit}
use Rattle.bti_reader.specs.declared.way.Start.{Start}
use Rattle.bti_reader.specs.Searches.{Answer, deeper, or_next, asked, in_child, own_or, first_path, above_from}
use Rattle.bti_reader.specs.Steps.{hit_at, payload_number, turn_in, turn_of, SearchAnswers}
use Rattle.bti_reader.specs.Walks.{path_answer, deepers, start_answer}
use Rattle.bti_reader.proofs.Asking.{first_step}

abbrev PathReply : Type 0
PathReply = Result (Option PathHit) DataError

abbrev with_way : Result Turn DataError → (Turn → PathReply) → PathReply
with_way (Err e) go = Err e
with_way (Ok t) go = go t

abbrev hit_path : List ℕ → Option Hit → PathReply → PathReply
hit_path taken None other = other
hit_path taken (Some hit) other = Ok (Some (record { path = taken; node = hit.node; number = hit.number }))

abbrev child_path : Option Child → (Child → PathReply) → PathReply → PathReply
child_path None go other = other
child_path (Some c) go other = go c

own_way : (part : Part) (taken : List ℕ) (passed position : ℕ) (payload : List ℕ) (x : Answer) → path_answer part taken (own_or position payload x) ≡ hit_path taken (hit_at part passed position payload) (path_answer part taken x)
own_way part taken passed position [] x = refl
own_way part taken passed position (y ∷ ys) x = ap (λ l. Ok (Some (record { path = l; node = position; number = payload_number part (y ∷ ys) }))) (append-nil taken)

deeper_way : (part : Part) (taken : List ℕ) (b : ℕ) (a : Answer) → path_answer part taken (deeper b a) ≡ path_answer part (taken ++ b ∷ []) a
deeper_way part taken b (Err w) = refl
deeper_way part taken b (Ok None) = refl
deeper_way part taken b (Ok (Some p)) = ap (λ l. Ok (Some (record { path = l; node = p.node; number = payload_number part p.payload }))) (sym (append_assoc taken (b ∷ []) p.path))

child_way : (part : Part) (taken : List ℕ) (position : ℕ) (c : Option Child) (go : ℕ → Answer) → path_answer part taken (in_child c position go (Ok None)) ≡ child_path c (λ c. path_answer part (taken ++ c.byte ∷ []) (go (position - c.distance))) (Ok None)
child_way part taken position None go = refl
child_way part taken position (Some c) go = deeper_way part taken c.byte (go (position - c.distance))

abbrev first_turn : Part → List ℕ → List ℕ → ℕ → Turn → PathReply
first_turn part file taken position t = hit_path taken t.hit (child_path t.child (λ c. path_answer part (taken ++ c.byte ∷ []) (first_path file (position - c.distance))) (Ok None))

first_way_is : (part : Part) (file taken : List ℕ) (passed position : ℕ) → path_answer part taken (first_path file position) ≡ with_way (turn_in part Least passed position (node_in file position)) (first_turn part file taken position)
first_way_is part file taken passed position = ap (path_answer part taken) (first_step file position) ∙ by (first_path file) (node_in file position)
  where
    by : (go : ℕ → Answer) (r : Result Node Wrong) → path_answer part taken (asked r (λ n. own_or position n.payload (in_child (least_child n.places) position go (Ok None)))) ≡ with_way (turn_in part Least passed position r) (λ t. hit_path taken t.hit (child_path t.child (λ c. path_answer part (taken ++ c.byte ∷ []) (go (position - c.distance))) (Ok None)))
    by go (Err w) = refl
    by go (Ok n) = own_way part taken passed position n.payload (in_child (least_child n.places) position go (Ok None)) ∙ ap (hit_path taken (hit_at part passed position n.payload)) (child_way part taken position (least_child n.places) go)

err_way : (e : DataError) (x : Result Turn DataError) (go : Turn → PathReply) → SearchAnswers {A = Turn} (Err e) x → SearchAnswers {A = Option PathHit} (Err e) (with_way x go)
err_way StoreFault x go h = tt
err_way NoMemory x go h = tt
err_way (Damaged d) x go h = ap (λ r. with_way r go) h

pub same_way : (r x y : PathReply) → x ≡ y → SearchAnswers r x → SearchAnswers r y
same_way r x y e h = subst (SearchAnswers r) e h

pub way_err : (part : Part) (file taken start_taken : List ℕ) (passed position start : ℕ) (e : DataError) → SearchAnswers {A = Turn} (Err e) (turn_in part Least passed position (node_in file position))
    → path_answer part taken (first_path file position) ≡ path_answer part start_taken (first_path file start) → SearchAnswers {A = Option PathHit} (Err e) (path_answer part start_taken (first_path file start))
way_err part file taken start_taken passed position start e h inv =
    same_way (Err e) _ _ (sym (first_way_is part file taken passed position) ∙ inv) (err_way e (turn_in part Least passed position (node_in file position)) (first_turn part file taken position) h)

pub way_hit : (part : Part) (file taken start_taken : List ℕ) (passed position start : ℕ) (t : Turn) (hit : Hit) (found : PathHit) → SearchAnswers (Ok t) (turn_in part Least passed position (node_in file position)) → t.hit ≡ Some hit
    → found ≡ record { path = taken; node = hit.node; number = hit.number }
    → path_answer part taken (first_path file position) ≡ path_answer part start_taken (first_path file start) → SearchAnswers (Ok (Some found)) (path_answer part start_taken (first_path file start))
way_hit part file taken start_taken passed position start t hit found p h e inv =
    sym inv ∙ first_way_is part file taken passed position ∙ ap (λ x. with_way x (first_turn part file taken position)) p
    ∙ ap (λ x. hit_path taken x (child_path t.child (λ c. path_answer part (taken ++ c.byte ∷ []) (first_path file (position - c.distance))) (Ok None))) h
    ∙ ap (λ x. Ok (Some x)) (sym e)

pub way_on : (part : Part) (file taken then_taken start_taken : List ℕ) (passed position start : ℕ) (t : Turn) (c : Child) → SearchAnswers (Ok t) (turn_in part Least passed position (node_in file position)) → t.hit ≡ None → t.child ≡ Some c → then_taken ≡ taken ++ c.byte ∷ []
    → path_answer part taken (first_path file position) ≡ path_answer part start_taken (first_path file start) → path_answer part then_taken (first_path file (position - c.distance)) ≡ path_answer part start_taken (first_path file start)
way_on part file taken then_taken start_taken passed position start t c p h k e inv =
    let go : Child → PathReply = λ c. path_answer part (taken ++ c.byte ∷ []) (first_path file (position - c.distance)) in
    ap (λ l. path_answer part l (first_path file (position - c.distance))) e
    ∙ sym (sym inv ∙ first_way_is part file taken passed position ∙ ap (λ x. with_way x (first_turn part file taken position)) p
    ∙ ap (λ x. hit_path taken x (child_path t.child go (Ok None))) h ∙ ap (λ x. child_path x go (Ok None)) k)

-- answers behind bytes
pub deepers_err : (bs : List ℕ) (w : Wrong) → deepers bs (Err w) ≡ Err w
deepers_err [] w = refl
deepers_err (b ∷ bs) w = ap (deeper b) (deepers_err bs w)

pub deepers_more : (bs : List ℕ) (b : ℕ) (a : Answer) → deepers (bs ++ b ∷ []) a ≡ deepers bs (deeper b a)
deepers_more [] b a = refl
deepers_more (c ∷ bs) b a = ap (deeper c) (deepers_more bs b a)

pub next_some : (x y : Answer) → x ≢ Ok None → or_next x y ≡ x
next_some (Err w) y h = refl
next_some (Ok None) y h = absurd (h refl)
next_some (Ok (Some p)) y h = refl

pub path_deepers : (part : Part) (taken bs : List ℕ) (a : Answer) → path_answer part taken (deepers bs a) ≡ path_answer part (taken ++ bs) a
path_deepers part taken [] a = ap (λ l. path_answer part l a) (sym (append-nil taken))
path_deepers part taken (b ∷ bs) a = deeper_way part taken b (deepers bs a) ∙ path_deepers part (taken ++ b ∷ []) bs a ∙ ap (λ l. path_answer part l a) (append_assoc taken (b ∷ []) bs)

pub end_of_turn : (part : Part) (file : List ℕ) (passed position : ℕ) (t : Turn) → SearchAnswers (Ok t) (turn_in part Least passed position (node_in file position)) → above_from false file position [] ≡ in_child t.child position (first_path file) (Ok None)
end_of_turn part file passed position t p = by (first_path file) (node_in file position) p
  where
    by : (first : ℕ → Answer) (r : Result Node Wrong) → SearchAnswers (Ok t) (turn_in part Least passed position r) → asked r (λ n. in_child (least_child n.places) position first (Ok None)) ≡ in_child t.child position first (Ok None)
    by first (Err w) p = cc
    by first (Ok n) p =
        let same : turn_of part Least passed position n ≡ t = cc in
        ap (λ (t : Turn). in_child t.child position first (Ok None)) same

pub under_letter : (b : ℕ) (cs : List (Option Child)) (c : Child) → child_under b cs ≡ Some c → c.byte ≡ b
under_letter b [] c h = cc
under_letter b (None ∷ cs) c h = under_letter b cs c h
under_letter b (Some x ∷ cs) c h = by (λ h. under_letter b cs c h) (x.byte == b) refl h
  where
    by : (child_under b cs ≡ Some c → c.byte ≡ b) → (t : Bool) → (x.byte == b) ≡ t → (if t then Some x else child_under b cs) ≡ Some c → c.byte ≡ b
    by rest true e h = let same : x ≡ c = cc in let at : x.byte ≡ b = grind (arith, nat_tests) in sym (ap (λ (x : Child). x.byte) same) ∙ at
    by rest false e h = rest h

pub take_more : (n b : ℕ) (key after : List ℕ) → drop n key ≡ b ∷ after → take n key ++ b ∷ [] ≡ take (n + 1) key
take_more zero b [] after h = cc
take_more zero b (x ∷ key) after h = let same : x ≡ b = cc in ap (λ y. y ∷ []) (sym same)
take_more (suc n) b [] after h = cc
take_more (suc n) b (x ∷ key) after h = let e : suc n + 1 ≡ suc (n + 1) = omega arith in rw e (ap (λ l. x ∷ l) (take_more n b key after h))

-- the path of a start
pub after_path : (part : Part) (file key taken : List ℕ) (s : Start) (whole : Answer) (r : PathReply) → taken ≡ take s.passed key ++ s.byte ∷ [] → start_answer file key (Some s) ≡ whole → SearchAnswers r (path_answer part taken (first_path file s.start)) → SearchAnswers r (path_answer part [] whole)
after_path part file key taken s whole r e h a =
    same_way r _ _ (ap (λ l. path_answer part l (first_path file s.start)) e ∙ sym (path_deepers part [] (take s.passed key ++ s.byte ∷ []) (first_path file s.start)) ∙ ap (path_answer part []) h) a
