use Rattle.std.proofs.Common.{◌≡◌, ◌∙◌, ◌+◌, ◌++◌, true, false, Option, None, ap, sym, subst, List, ℕ, arith, length, drop, rules}
use Rattle.std.proofs.lemmas.Bool.{eqb-false}
use Rattle.std.specs.Option.{option_copied}
use Rattle.data_file.specs.Listing.{head_bytes}
use Rattle.data_file.specs.Reading.{BeginsHead, NoHead}
use Rattle.key_types.specs.Columns.{columns_of}
use Rattle.table_reader.specs.declared.walker.EntryStrings.{EntryStrings}
use Rattle.table_reader.specs.Parts.{GivesStatic, IsStaticPartBehind, NoStaticPartBehind}
use Rattle.table_reader.specs.Ranges.{IsBelow, inside_of}
use Rattle.table_reader.specs.StepsOver.{IsAny}
use Rattle.table_reader.proofs.ScanSteps.{bad_head, bad_part, enters_giving, enters_passing, any_static, is_outside, moves_head, room_there, static_above, static_lies_below}
use Rattle.table_reader.proofs.walker.Walker.enter.Goals as goal

pub returns-in_default : goal.returns-in_default
returns-in_default c =
    let columns = columns_of c.args.schema.now in
    bad_head columns c.args.self.now c.damaged.result c.at-at.result c.requires.outside c.requires.full
    (λ empty. eqb-false (length c.unread-bytes.result.now) 0 (sym c.is_empty.ensures ∙ c.if-is_empty.false) (ap length (c.unread-bytes.ensures.bytes ∙ empty)))
    (subst (λ (b : List ℕ). NoHead columns b) c.unread-bytes.ensures.bytes (c.head_in.ensures.none (search rules))) c.at-at.ensures c.damaged.ensures

pub returns-then-is_static_above : goal.returns-then-is_static_above
returns-then-is_static_above c =
    let columns = columns_of c.args.schema.now in
    let key = c.in-Some.key.now in
    let head : ℕ = 2 + length key in
    let static_part = option_copied c.in-Some-static_part_behind.static_part in
    let count = c.in-Some-static_part_behind.length in
    let begins : BeginsHead columns c.unread-bytes.result.now key = search rules in
    let part : IsStaticPartBehind columns (drop head c.unread-bytes.result.now) static_part count = search rules in
    let long : head ≡ length (head_bytes key) = omega arith in
    static_above columns c.args.self.now key static_part count c.requires.outside (subst (λ (b : List ℕ). BeginsHead columns b key) c.unread-bytes.ensures.bytes begins)
    (subst (λ (b : List ℕ). IsStaticPartBehind columns (drop (length (head_bytes key)) b) static_part count) c.unread-bytes.ensures.bytes
    (subst (λ (n : ℕ). IsStaticPartBehind columns (drop n c.unread-bytes.result.now) static_part count) long part))
    (c.is_static_above.ensures.0 c.if-is_static_above.true)

pub returns-in_default-static_part_behind : goal.returns-in_default-static_part_behind
returns-in_default-static_part_behind c =
    let columns = columns_of c.args.schema.now in
    let head = 2 + length c.in-Some.key.now in
    let begins : BeginsHead columns c.unread-bytes.result.now c.in-Some.key.now = search rules in
    let no_part : NoStaticPartBehind columns (drop head c.unread-bytes.result.now) = c.static_part_behind.ensures.none (search rules) in
    bad_part columns c.args.self.now c.damaged-in_default-static_part_behind.result c.in-Some.key.now c.at-at.result head c.requires.outside c.requires.full
    (subst (λ (b : List ℕ). BeginsHead columns b c.in-Some.key.now) c.unread-bytes.ensures.bytes begins) (omega arith)
    (subst (λ (b : List ℕ). NoStaticPartBehind columns (drop head b)) c.unread-bytes.ensures.bytes no_part) c.at-at.ensures c.damaged-in_default-static_part_behind.ensures

pub returns-in_default-given : goal.returns-in_default-given
returns-in_default-given c =
    let columns = columns_of c.args.schema.now in
    let walk = c.args.self.now in
    let key = c.in-Some.key.now in
    let head : ℕ = 2 + length key in
    let static_part = option_copied c.in-Some-static_part_behind.static_part in
    let count = c.in-Some-static_part_behind.length in
    let begins : BeginsHead columns c.unread-bytes.result.now key = search rules in
    let part : IsStaticPartBehind columns (drop head c.unread-bytes.result.now) static_part count = search rules in
    let long : head ≡ length (head_bytes key) = omega arith in
    let none : c.in_ok-given.given ≡ None = search rules in
    let given = subst (λ (o : Option EntryStrings). GivesStatic walk.from key static_part o) none c.in_ok-given.ensures in
    let moves = moves_head columns (IsBelow walk.from) walk.window c.pass.new.self (head + count) (inside_of walk) key static_part count
    (room_there walk.window _ c.unread-bytes.ensures.bytes c.unread-bytes.ensures.inside) (is_outside walk c.requires.outside) c.pass.ensures (omega arith)
    (subst (λ (b : List ℕ). BeginsHead columns b key) c.unread-bytes.ensures.bytes begins)
    (subst (λ (b : List ℕ). IsStaticPartBehind columns (drop (length (head_bytes key)) b) static_part count) c.unread-bytes.ensures.bytes
    (subst (λ (n : ℕ). IsStaticPartBehind columns (drop n c.unread-bytes.result.now) static_part count) long part))
    (static_lies_below columns walk.from key static_part given) in
    let same : c.extend.new.self ≡ key = c.in_ok-extend.ensures.ok ∙ ap (λ (l : List ℕ). l ++ key) c.truncate.ensures in
    enters_passing columns walk c.pass.new.self key c.extend.new.self static_part same begins.0 given moves

pub returns : goal.returns
returns c =
    let columns = columns_of c.args.schema.now in
    let walk = c.args.self.now in
    let key = c.in-Some.key.now in
    let head : ℕ = 2 + length key in
    let static_part = option_copied c.in-Some-static_part_behind.static_part in
    let count = c.in-Some-static_part_behind.length in
    let begins : BeginsHead columns c.unread-bytes.result.now key = search rules in
    let part : IsStaticPartBehind columns (drop head c.unread-bytes.result.now) static_part count = search rules in
    let long : head ≡ length (head_bytes key) = omega arith in
    let moves = moves_head columns IsAny walk.window c.pass.new.self (head + count) (inside_of walk) key static_part count
    (room_there walk.window _ c.unread-bytes.ensures.bytes c.unread-bytes.ensures.inside) (is_outside walk c.requires.outside) c.pass.ensures (omega arith)
    (subst (λ (b : List ℕ). BeginsHead columns b key) c.unread-bytes.ensures.bytes begins)
    (subst (λ (b : List ℕ). IsStaticPartBehind columns (drop (length (head_bytes key)) b) static_part count) c.unread-bytes.ensures.bytes
    (subst (λ (n : ℕ). IsStaticPartBehind columns (drop n c.unread-bytes.result.now) static_part count) long part))
    (any_static columns key static_part) in
    let same : c.extend.new.self ≡ key = c.in_ok-extend.ensures.ok ∙ ap (λ (l : List ℕ). l ++ key) c.truncate.ensures in
    enters_giving columns walk c.pass.new.self key c.extend.new.self static_part c.in-Some-given.entry same begins.0
    (subst (λ (o : Option EntryStrings). GivesStatic walk.from key static_part o) c.in-Some-given.is c.in_ok-given.ensures)
    (λ above. let apart : true ≡ false = sym (c.is_static_above.ensures.1 above) ∙ c.if-is_static_above.false in cc) moves
