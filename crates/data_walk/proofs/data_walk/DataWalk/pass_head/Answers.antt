use Rattle.std.proofs.Common.{◌≡◌, ◌∙◌, ◌+◌, Bool, true, false, Option, Err, refl, ap, sym, subst, List, ℕ, Result, length, drop, arith, rules}
use Rattle.std.proofs.lemmas.Bool.{eqb-false}
use Rattle.std.specs.Option.{option_copied}
use Rattle.std.specs.declared.cmp.Ordering.TheVariants.{Less}
use Rattle.data_file.specs.Listing.{head_bytes}
use Rattle.data_file.specs.Reading.{BeginsHead, NoHead}
use Rattle.data_file.specs.declared.reading.DataError.TheVariants.{NoMemory}
use Rattle.key_types.specs.Columns.{columns_of}
use Rattle.key_types.specs.Table.{string_cmp}
use Rattle.table_reader.specs.Parts.{IsStaticPartBehind, NoStaticPartBehind}
use Rattle.data_walk.specs.declared.data_walk.DataWalk.{DataWalk}
use Rattle.data_walk.specs.declared.refusal.Refusal.{Refusal}
use Rattle.data_walk.specs.declared.refusal.Refusal.TheVariants.{Unread}
use Rattle.data_walk.specs.DataWalk.{Enters, OverAll}
use Rattle.data_walk.proofs.Heads.{bad_head, bad_part, enters, faulty_head, low_head}
use Rattle.data_walk.proofs.data_walk.DataWalk.pass_head.Goals as goal

pub returns-in_default-clause-told : goal.returns-in_default-clause-told
returns-in_default-clause-told c =
    let columns = columns_of c.args.schema.now in
    let walk : DataWalk = c.args.self.now in
    bad_head columns walk walk c.damaged_at.result c.at-at.result c.at-at.ensures c.damaged_at.ensures c.requires.full
    (λ empty. eqb-false (length c.unread-bytes.result.now) 0 (sym c.is_empty.ensures ∙ c.if-is_empty.false) (ap length (c.unread-bytes.ensures.bytes ∙ empty)))
    (subst (λ (b : List ℕ). NoHead columns b) c.unread-bytes.ensures.bytes (c.head_in.ensures.none (search rules)))

pub returns-then-not-ascends-clause-told : goal.returns-then-not-ascends-clause-told
returns-then-not-ascends-clause-told c =
    let columns = columns_of c.args.schema.now in
    let walk : DataWalk = c.args.self.now in
    let key = c.in-Some.key.now in
    let begins : BeginsHead columns c.unread-bytes.result.now key = search rules in
    let off : c.ascends.result ≡ false = search rules in
    low_head columns walk walk c.clash_at.result c.at-at.result key c.at-at.ensures c.clash_at.ensures
    (subst (λ (b : List ℕ). BeginsHead columns b key) c.unread-bytes.ensures.bytes begins)
    (λ above. let apart : true ≡ false = sym (c.ascends.ensures.1 (subst (λ (k : List ℕ). string_cmp k key ≡ Less) (sym c.as_slice.ensures) above)) ∙ off in cc)

pub returns-in_default-static_part_behind-clause-told : goal.returns-in_default-static_part_behind-clause-told
returns-in_default-static_part_behind-clause-told c =
    let columns = columns_of c.args.schema.now in
    let walk : DataWalk = c.args.self.now in
    let key = c.in-Some.key.now in
    let head : ℕ = 2 + length key in
    let begins : BeginsHead columns c.unread-bytes.result.now key = search rules in
    let on : c.ascends.result ≡ true = search rules in
    let no_part : NoStaticPartBehind columns (drop head c.unread-bytes.result.now) = c.static_part_behind.ensures.none (search rules) in
    bad_part columns walk walk c.damaged_at-in_default-static_part_behind.result c.at-at.result head key c.at-at.ensures c.damaged_at-in_default-static_part_behind.ensures c.requires.full
    (subst (λ (b : List ℕ). BeginsHead columns b key) c.unread-bytes.ensures.bytes begins) (omega arith)
    (subst (λ (k : List ℕ). string_cmp k key ≡ Less) c.as_slice.ensures (c.ascends.ensures.0 on))
    (subst (λ (b : List ℕ). NoStaticPartBehind columns (drop head b)) c.unread-bytes.ensures.bytes no_part)

pub returns-in_err-replace-clause-told : goal.returns-in_err-replace-clause-told
returns-in_err-replace-clause-told c =
    let columns = columns_of c.args.schema.now in
    let walk : DataWalk = c.args.self.now in
    let after : DataWalk = record walk { key = c.replace.new.held } in
    let is : c.from_residual.result ≡ Err (Unread NoMemory) = search rules in
    subst (λ (r : Result (Option Bool) Refusal). OverAll (Enters columns) walk after r) (sym is) (faulty_head columns walk after (Unread NoMemory) tt)

pub returns-clause-told : goal.returns-clause-told
returns-clause-told c =
    let columns = columns_of c.args.schema.now in
    let walk : DataWalk = c.args.self.now in
    let after : DataWalk = record walk { window = c.pass.new.self; key = c.replace.new.held; head = c.at-at.result; block = c.at-at.result; rows = 0; row = c.truncate.new.self } in
    let key = c.in-Some.key.now in
    let head : ℕ = 2 + length key in
    let static_part = option_copied c.in-Some-static_part_behind.static_part in
    let count = c.in-Some-static_part_behind.length in
    let begins : BeginsHead columns c.unread-bytes.result.now key = search rules in
    let on : c.ascends.result ≡ true = search rules in
    let part : IsStaticPartBehind columns (drop head c.unread-bytes.result.now) static_part count = search rules in
    let long : head ≡ length (head_bytes key) = omega arith in
    enters columns walk after (head + count) count key static_part c.is_some-has_static.result c.pass.ensures (omega arith)
    (subst (λ (b : List ℕ). BeginsHead columns b key) c.unread-bytes.ensures.bytes begins)
    (subst (λ (b : List ℕ). IsStaticPartBehind columns (drop (length (head_bytes key)) b) static_part count) c.unread-bytes.ensures.bytes
    (subst (λ (n : ℕ). IsStaticPartBehind columns (drop n c.unread-bytes.result.now) static_part count) long part))
    (subst (λ (k : List ℕ). string_cmp k key ≡ Less) c.as_slice.ensures (c.ascends.ensures.0 on))
    (search rules) (search rules) c.at-at.ensures (search rules) c.at-at.ensures refl
