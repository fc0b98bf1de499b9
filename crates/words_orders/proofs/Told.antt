-- What is told of a word that is no number, or has no room.
use Rattle.std.proofs.Common.{rules, ◌≡◌, ℕ, ◌<◌, ◌^◌, List, Bool, Option, Some, None}
use Rattle.std.specs.Prelude.{◌↔◌, IsTrue, IfSome, is_some}
use Rattle.words_values.specs.NumberWord.{IsNumber}
use Rattle.words_orders.specs.Refused.{HasNumber}

pub none_is_some : (m : ℕ) → None ≡ Some m → ⊥
none_is_some m e = search (rules, e)

pub some_number : (r : Option ℕ) (b : Bool) (word : List ℕ) → b ≡ is_some r → IfSome r (λ n. IsNumber word n)
    → IfSome r (λ n. n < 2 ^ 64)
    → ((n : ℕ) → IsNumber word n → n < 2 ^ 64 → r ≡ Some n) → IsTrue b ↔ HasNumber word
some_number None b word e value fits accepts =
    (λ t. absurd (search (rules, t, e)), λ h. absurd (none_is_some h.0 (accepts h.0 h.1 h.2)))
some_number (Some n) b word e value fits accepts = (λ t. (n, value, fits), λ h. e)
