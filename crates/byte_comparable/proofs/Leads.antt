-- Values that fit are leading values that fit.
use Rattle.key_types.specs.Kinds.{Kinds, end, more, Vals, none, and, EachFits}
use Rattle.byte_comparable.specs.Encoding.{LeadFits}

pub leads : (ts : Kinds) (vs : Vals) → EachFits ts vs → LeadFits ts vs
leads end none f = tt
leads end (and v vs) f = tt
leads (more t ts) none f = tt
leads (more t ts) (and v vs) f = (f.0, leads ts vs f.1)
