-- What a call returned Ok for, by two of its clauses.
use Rattle.std.specs.Prelude.{Result, Ok, Err, OnOk}

pub both : {X E : Type 0} (r : Result X E) (P Q R : Type 0) → (P → Q → R) → OnOk r P → OnOk r Q → OnOk r R
both (Ok x) P Q R join p q = join p q
both (Err e) P Q R join p q = tt
