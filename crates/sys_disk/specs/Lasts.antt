-- What a source that may change while it is read keeps beside its reads.
use Rattle.std.specs.Prelude.{◌≡◌, ℕ, List, Bool, IsTrue}

-- it holds what it held, is as long, and has not failed
pub record HoldsStill {A : Type 0} (models : Bool) (its_content : A → List ℕ) (its_size its_faults : A → ℕ)
    (old new : A)
    : Type 0 where
  pub content : IsTrue models → its_content new ≡ its_content old
  pub size : its_size new ≡ its_size old
  pub faults : its_faults new ≡ its_faults old
