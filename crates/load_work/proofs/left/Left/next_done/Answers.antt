use Rattle.std.proofs.Common.{◌≡◌, ◌∷◌, ◌++◌, [], Option, None, ap, ◌∙◌}
use Rattle.load_work.specs.declared.jobs.Done.{Done}
use Rattle.load_work.proofs.Lists.{empty_vec}
use Rattle.load_work.proofs.Taking.{never_none, next_run}
use Rattle.load_work.proofs.left.Left.next_done.Goals as goal

pub unreachable-requires : goal.unreachable-requires
unreachable-requires c =
    let r = c.requires in let others = c.pop.new.self.items in
    let e : c.args.self.now.places.items ≡ others ++ None ∷ [] = c.in-Some-None.ensures.items ∙ ap (λ (p : Option Done). others ++ p ∷ []) c.in-Some-None.field-0-is in
    let empty : c.args.self.now.done.items ≡ [] = empty_vec c.args.self.now.done c.in-None-pop.ensures.cases.0 in
    never_none r.0 r.1 r.2 r.3 r.4 c.args.self.now.places.items others c.args.self.now.done.items r.5 e empty

pub returns-in-Some-clause-run : goal.returns-in-Some-clause-run
returns-in-Some-clause-run c table puts gets job workers left =
    let others = c.pop.new.self.items in
    let e : c.args.self.now.places.items ≡ others ++ None ∷ [] = c.in-Some-None.ensures.items ∙ ap (λ (p : Option Done). others ++ p ∷ []) c.in-Some-None.field-0-is in
    (next_run table puts gets job workers c.args.self.now.places.items others c.args.self.now.done.items c.pop-in-Some-None.new.self.items c.in-Some.done left e c.in-Some.ensures.items).1

pub returns-in-Some-clause-left : goal.returns-in-Some-clause-left
returns-in-Some-clause-left c table puts gets job workers left =
    let others = c.pop.new.self.items in
    let e : c.args.self.now.places.items ≡ others ++ None ∷ [] = c.in-Some-None.ensures.items ∙ ap (λ (p : Option Done). others ++ p ∷ []) c.in-Some-None.field-0-is in
    (next_run table puts gets job workers c.args.self.now.places.items others c.args.self.now.done.items c.pop-in-Some-None.new.self.items c.in-Some.done left e c.in-Some.ensures.items).0
