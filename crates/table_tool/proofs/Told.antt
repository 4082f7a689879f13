-- What is said where two objects are told.
use Rattle.std.proofs.Common.{Option, None, Some, IfSome}
use Rattle.outside.specs.Told.{WhereTold}

pub told_then : {A : Type 0} (f0 f1 f2 : Option A) (P Q R : A → A → Type 0) → ((x y z : A) → P x y → Q y z → R x z) → WhereTold f0 f1 P → WhereTold f1 f2 Q → WhereTold f0 f2 R
told_then None None None P Q R step p q = tt
told_then None None (Some z) P Q R step p q = absurd q
told_then None (Some y) f2 P Q R step p q = absurd p
told_then (Some x) None f2 P Q R step p q = absurd p
told_then (Some x) (Some y) None P Q R step p q = absurd q
told_then (Some x) (Some y) (Some z) P Q R step p q = step x y z p q

pub told_so : {A : Type 0} (f0 f1 : Option A) (P R : A → A → Type 0) → ((x y : A) → P x y → R x y) → WhereTold f0 f1 P → WhereTold f0 f1 R
told_so None None P R step p = tt
told_so None (Some y) P R step p = absurd p
told_so (Some x) None P R step p = absurd p
told_so (Some x) (Some y) P R step p = step x y p

pub told_none : {A : Type 0} (f : Option A) (P : A → A → Type 0) → ((x : A) → P x x) → WhereTold f f P
told_none None P same = tt
told_none (Some x) P same = same x

pub told_end : {A : Type 0} (f0 f1 : Option A) (Q : A → A → Type 0) (S : A → Type 0) → ((x y : A) → Q x y → S y) → WhereTold f0 f1 Q → IfSome f1 S
told_end None None Q S step q = tt
told_end None (Some y) Q S step q = absurd q
told_end (Some x) None Q S step q = absurd q
told_end (Some x) (Some y) Q S step q = step x y q
