use Rattle.std.proofs.Common.{◌≡◌, take}
use Rattle.trie_image.proofs.plan.plan_put.Given as goal

-- the stores before the place are in the list
abbrev pub invariant-stores : goal.invariant-stores
invariant-stores l = l.stores ≡ take l.place l.plan
