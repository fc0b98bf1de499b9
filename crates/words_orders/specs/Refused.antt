-- Words that are rejected.
use Rattle.std.specs.Prelude.{◌≡◌, ◌↔◌, ◌<◌, ◌^◌, ℕ, List, Bool, Option, Some, None, Result, Ok, Err, IsTrue}
use Rattle.std.specs.Prelude.{string_bytes}
use Rattle.words_orders.specs.declared.fault.WordsFault.{WordsFault}
use Rattle.words_orders.specs.declared.fault.WordsFault.TheVariants.{Usage, Misread, BadNumber, NotTaken, Memory}
use Rattle.words_orders.specs.Reads.{IsReadFor}
use Rattle.words_sayings.specs.Rows.{Shape}
use Rattle.words_values.specs.NumberWord.{IsNumber}

-- the words themselves are wrong: no allocation failed, and clap did not read them in another way than the table
abbrev pub IsOfWords : WordsFault → Type 0
IsOfWords (Usage error) = Unit {0}
IsOfWords (Misread error) = ⊥
IsOfWords (BadNumber told is_number asked) = Unit {0}
IsOfWords (NotTaken instead) = Unit {0}
IsOfWords Memory = ⊥

-- nothing is found, and that is for the words
abbrev pub FindsNone : {X : Type 0} → Result (Option X) WordsFault → Type 0
FindsNone (Ok None) = Unit {0}
FindsNone (Ok (Some found)) = ⊥
FindsNone (Err fault) = IsOfWords fault

-- a word that encodes a number of 64 bits
abbrev pub HasNumber : List ℕ → Type 0
HasNumber word = (n : ℕ) × IsNumber word n × (n < 2 ^ 64)

-- the message about a word that gives no number to a row
pub record IsToldOf (row : Shape) (word told : List ℕ) (is_number : Bool) : Type 0 where
  pub same : told ≡ word
  pub unread : (n : ℕ) → IsReadFor row word n → ⊥
  pub number : IsTrue is_number ↔ HasNumber word

-- an error for such a word, or for a failed allocation
abbrev pub TellsNoNumber : Shape → List ℕ → Bool → WordsFault → Type 0
TellsNoNumber row word is_verbose (Usage error) = ⊥
TellsNoNumber row word is_verbose (Misread error) = ⊥
TellsNoNumber row word is_verbose (BadNumber told is_number asked) =
    IsToldOf row word (string_bytes told) is_number × (asked ≡ is_verbose)
TellsNoNumber row word is_verbose Memory = Unit {0}
TellsNoNumber row word is_verbose (NotTaken instead) = (n : ℕ) → IsReadFor row word n → ⊥
