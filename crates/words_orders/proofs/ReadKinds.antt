-- The number that a word gives to a row, by the kind of its value.
use Rattle.std.proofs.Common.{◌≡◌, ℕ, List, arith, refl, ap, Some}
use Rattle.std.specs.Prelude.{true, false}
use Rattle.words_values.specs.declared.rows.Value.{Value}
use Rattle.words_values.specs.declared.rows.Value.TheVariants.{File, Number, LongNumber, Count, Text, CommandLine, Os}
use Rattle.words_values.specs.declared.rows.Value.TheVariants.{Name, IsGiven, PythonNumber, LongPythonNumber, OsVersion}
use Rattle.words_values.specs.declared.rows.Value.TheVariants.{PatchLevel, NotTaken}
use Rattle.words_values.specs.NumberWord.{IsRead}
use Rattle.words_orders.specs.Reads.{IsReadBy, takes}
use Rattle.words_sayings.specs.Rows.{names_in, plain_value}
use Rattle.std.proofs.lemmas.Bool.Decides.{nat_tests}

pub reads_by : (v : Value) (word : List ℕ) (n : ℕ) → IsRead v word n → takes v word n ≡ true
    → IsReadBy (plain_value v) (names_in v) word n
reads_by File word n r t = (r, omega arith)
reads_by Number word n r t = (r, omega arith)
reads_by LongNumber word n r t = (r, omega arith)
reads_by (Count least) word n r t = (r, grind (arith, nat_tests))
reads_by Text word n r t = (r, omega arith)
reads_by CommandLine word n r t = (r, omega arith)
reads_by Os word n r t = (r, omega arith)
reads_by (Name names) word n r t = (t, r)
reads_by IsGiven word n r t = (r, omega arith)
reads_by PythonNumber word n r t = (r, omega arith)
reads_by LongPythonNumber word n r t = (r, omega arith)
reads_by OsVersion word n r t = (r, omega arith)
reads_by PatchLevel word n r t = (r, omega arith)
reads_by NotTaken word n r t = (r, omega arith)

pub read_from : (v : Value) (word : List ℕ) (n : ℕ) → IsReadBy (plain_value v) (names_in v) word n → IsRead v word n
read_from File word n r = r.0
read_from Number word n r = r.0
read_from LongNumber word n r = r.0
read_from (Count least) word n r = r.0
read_from Text word n r = r.0
read_from CommandLine word n r = r.0
read_from Os word n r = r.0
read_from (Name names) word n r = r.1
read_from IsGiven word n r = r.0
read_from PythonNumber word n r = r.0
read_from LongPythonNumber word n r = r.0
read_from OsVersion word n r = r.0
read_from PatchLevel word n r = r.0
read_from NotTaken word n r = r.0

pub taken_from : (v : Value) (word : List ℕ) (n : ℕ) → IsReadBy (plain_value v) (names_in v) word n
    → takes v word n ≡ true
taken_from File word n r = refl
taken_from Number word n r = refl
taken_from LongNumber word n r = refl
taken_from (Count least) word n r = grind (arith, nat_tests)
taken_from Text word n r = refl
taken_from CommandLine word n r = refl
taken_from Os word n r = refl
taken_from (Name names) word n r = r.0
taken_from IsGiven word n r = refl
taken_from PythonNumber word n r = refl
taken_from LongPythonNumber word n r = refl
taken_from OsVersion word n r = refl
taken_from PatchLevel word n r = refl
taken_from NotTaken word n r = refl

pub same_taken : (v : Value) (word : List ℕ) (m n : ℕ) → Some m ≡ Some n → takes v word m ≡ takes v word n
same_taken v word m n e = let same : m ≡ n = cc in ap (takes v word) same
