-- The orders that the words of the two runs ask for.
use Rattle.std.proofs.Common.{◌≡◌, ℕ, true, false, List, [], ◌∷◌, ◌++◌, map, Some, codes, bytes_eq, refl, sym, ap}
use Rattle.std.proofs.Common.{subst, ◌∙◌}
use Rattle.std.specs.Prelude.{unwrap_or}
use Rattle.std.proofs.lemmas.Bool.{true≢false}
use Rattle.std.proofs.lemmas.Slice.Eq.{bytes_eq-Decides}
use Rattle.words_orders.specs.declared.answers.Answer.{Answer}
use Rattle.words_orders.specs.declared.order.BootTask.{BootTask}
use Rattle.words_orders.specs.declared.order.BootTask.TheVariants as boot
use Rattle.words_orders.specs.declared.order.Order.{Order}
use Rattle.words_orders.specs.declared.order.PackOrder.{PackOrder}
use Rattle.words_orders.specs.declared.order.Task.TheVariants as tasks
use Rattle.words_orders.specs.declared.rows.Work.TheVariants as works
use Rattle.words_orders.specs.Asked.{AreAnswers, Asks, AsksPack, IsOrderOf, command_in, saying_of_answer, word_named}
use Rattle.words_orders.specs.Asked.{words_behind, words_named}
use Rattle.words_orders.specs.Table.{flag, name_of, rows_of, work_of, work_of_boot}
use Rattle.words_sayings.specs.Rows.{Shape}
use Rattle.words_sayings.specs.Words.{Saying, answers_due, by_place, is_plain, nothing, of_row, says, says_after}
use Rattle.words_sayings.specs.Words.{words_by_place, words_say}
use Rattle.law_boot.specs.Said.{is_said}
use Rattle.law_words.proofs.Asking.{answers_say, output_is, plain_more, word_is, words_said}
use Rattle.law_words.proofs.Command.{AnswersSay}
use Rattle.law_words.proofs.Due.{sayings_for, words_for}
use Rattle.law_words.proofs.Reading.{ArePackWords, SaysBefore, mapped, pack_rows, says_before}
use Rattle.law_words.proofs.Values.{first}

-- ---- the task

is_other : (a b : List ℕ) → bytes_eq a b ≡ false → a ≡ b → ⊥
is_other a b t e = true≢false (sym ((bytes_eq-Decides a b).1 e) ∙ t)

pack_task : (task : BootTask) → codes "pack" ≡ name_of (work_of_boot task)
    → (order : PackOrder) × (task ≡ boot.Pack order)
pack_task (boot.Pack order) e = (order, refl)
pack_task (boot.Repack input order) e = absurd (is_other (codes "pack") (codes "repack") refl e)
pack_task (boot.Unpack input folder with_words) e = absurd (is_other (codes "pack") (codes "unpack") refl e)
pack_task (boot.Info input with_check with_hex) e = absurd (is_other (codes "pack") (codes "info") refl e)

abbrev IsUnpack : BootTask → Type 0
IsUnpack (boot.Pack order) = ⊥
IsUnpack (boot.Repack input order) = ⊥
IsUnpack (boot.Unpack input folder with_words) = Unit {0}
IsUnpack (boot.Info input with_check with_hex) = ⊥

unpack_task : (task : BootTask) → codes "unpack" ≡ name_of (work_of_boot task) → IsUnpack task
unpack_task (boot.Pack order) e = absurd (is_other (codes "unpack") (codes "pack") refl e)
unpack_task (boot.Repack input order) e = absurd (is_other (codes "unpack") (codes "repack") refl e)
unpack_task (boot.Unpack input folder with_words) e = tt
unpack_task (boot.Info input with_check with_hex) e = absurd (is_other (codes "unpack") (codes "info") refl e)

-- a task of this name, which these words ask for behind it
pub record NamedTask (name : List ℕ) (behind : List (List ℕ)) (task : BootTask) : Type 0 where
  pub name_is : name ≡ name_of (work_of_boot task)
  pub said : List Saying
  pub reads : words_say (rows_of (work_of_boot task)) behind ≡ Some said
  pub all : List Answer
  pub answers : AreAnswers (rows_of (work_of_boot task)) said all
  pub asks : Asks all (tasks.Boot task)

pub named_task : (words : List (List ℕ)) (order : Order) (task : BootTask) (name : List ℕ) (behind : List (List ℕ))
    → IsOrderOf words order → order.task ≡ tasks.Boot task → command_in words ≡ Some name → words_behind words ≡ behind
    → NamedTask name behind task
named_task words order task name behind asked is named rest = record {
  name_is = ap (λ o. unwrap_or o name) (sym named ∙ asked.named) ∙ ap (λ t. name_of (work_of t)) is;
  said = asked.said;
  reads = sym (ap (words_say (rows_of (work_of order.task))) rest
      ∙ ap (λ t. words_say (rows_of (work_of t)) behind) is) ∙ asked.reads;
  all = asked.all;
  answers = subst (λ t. AreAnswers (rows_of (work_of t)) asked.said asked.all) is asked.answers;
  asks = subst (Asks asked.all) is asked.asks;
}

-- ---- `pack`

pub record PackAsked (words : List (List ℕ)) (out : List ℕ) (task : BootTask) : Type 0 where
  pub order : PackOrder
  pub is : task ≡ boot.Pack order
  pub all : List Answer
  pub asks : AsksPack all order
  pub say : AnswersSay words all
  pub output : word_named (codes "OUT") all ≡ out

pub pack_asked : (words : List (List ℕ)) (out : List ℕ) (task : BootTask) → ArePackWords words
    → is_said (codes "escaped") words ≡ true → is_plain out ≡ true
    → NamedTask (codes "pack") (words ++ (out ∷ [])) task → PackAsked words out task
pack_asked words out task are escaped plain n =
    let t = pack_task task n.name_is in
    let reads : words_say pack_rows (words ++ (out ∷ [])) ≡ Some n.said =
    subst (λ t. words_say (rows_of (work_of_boot t)) (words ++ (out ∷ [])) ≡ Some n.said) t.1 n.reads in
    let answers : AreAnswers pack_rows n.said n.all =
    subst (λ t. AreAnswers (rows_of (work_of_boot t)) n.said n.all) t.1 n.answers in
    let s = words_said pack_rows (words ++ (out ∷ [])) n.said reads in
    let b = says_before words (out ∷ []) are n.said s.0 in
    let m = plain_more pack_rows out [] b.0 plain b.1 in
    let later : b.0 ≡ by_place out ∷ [] = m.2 ∙ ap (λ l. by_place out ∷ l) (none_said m.0 m.1) in
    let before : SaysBefore words n.said (by_place out ∷ []) = subst (SaysBefore words n.said) later b.2 in
    let due : map saying_of_answer n.all ≡ answers_due pack_rows n.said (out ∷ []) =
    answers.are ∙ ap (answers_due pack_rows n.said) before.placed in
    record {
      order = t.0;
      is = t.1;
      all = n.all;
      asks = subst (λ t. Asks n.all (tasks.Boot t)) t.1 n.asks;
      say = answers_say words out n.said n.all before s.1 due answers.read escaped;
      output = output_is words out n.said n.all before s.1 due;
    }
  where
    none_said : (said : List Saying) → Some [] ≡ Some said → said ≡ []
    none_said said e = ap (λ o. unwrap_or o said) (sym e)

-- ---- `unpack`

-- what the answers say of IN, DIR and the flag
abbrev pub AsksUnpackOf : List ℕ → List ℕ → BootTask → Type 0
AsksUnpackOf input folder (boot.Pack order) = ⊥
AsksUnpackOf input folder (boot.Repack own order) = ⊥
AsksUnpackOf input folder (boot.Unpack own onto with_words) =
    (own.now ≡ input) × (onto.now ≡ folder) × (with_words ≡ true)
AsksUnpackOf input folder (boot.Info own with_check with_hex) = ⊥

abbrev unpack_rows : List Shape
unpack_rows = rows_of works.Unpack

-- all that these words say
abbrev unpack_said : List ℕ → List ℕ → List Saying
unpack_said input folder =
    of_row (flag (codes "words")) (codes "true") ∷ by_place input ∷ by_place folder ∷ []

unpack_says : (input folder : List ℕ) (said : List Saying) → is_plain input ≡ true → is_plain folder ≡ true
    → says false unpack_rows (codes "--words" ∷ input ∷ folder ∷ []) ≡ Some said → said ≡ unpack_said input folder
unpack_says input folder said p q e =
    let flag_said = of_row (flag (codes "words")) (codes "true") in
    let a = mapped (λ l. flag_said ∷ l) (says_after false unpack_rows nothing (input ∷ folder ∷ [])) said e in
    let b = plain_more unpack_rows input (folder ∷ []) a.0 p a.1 in
    let c = plain_more unpack_rows folder [] b.0 q b.1 in
    let none : c.0 ≡ [] = ap (λ o. unwrap_or o c.0) (sym c.1) in
    a.2 ∙ ap (λ l. flag_said ∷ l) (b.2 ∙ ap (λ l. by_place input ∷ l) (c.2 ∙ ap (λ l. by_place folder ∷ l) none))

pub unpack_asked : (input folder : List ℕ) (task : BootTask) → is_plain input ≡ true → is_plain folder ≡ true
    → NamedTask (codes "unpack") (codes "--words" ∷ input ∷ folder ∷ []) task → AsksUnpackOf input folder task
unpack_asked input folder (boot.Pack order) p q n = absurd (unpack_task (boot.Pack order) n.name_is)
unpack_asked input folder (boot.Repack own order) p q n = absurd (unpack_task (boot.Repack own order) n.name_is)
unpack_asked input folder (boot.Info own c h) p q n = absurd (unpack_task (boot.Info own c h) n.name_is)
unpack_asked input folder (boot.Unpack own onto with_words) p q n =
    let s = words_said unpack_rows (codes "--words" ∷ input ∷ folder ∷ []) n.said n.reads in
    let said = unpack_says input folder n.said p q s.0 in
    let due : map saying_of_answer n.all
    ≡ answers_due unpack_rows (unpack_said input folder) (input ∷ folder ∷ []) =
    n.answers.are ∙ ap (λ l. answers_due unpack_rows l (words_by_place l)) said in
    let words : (name : List ℕ) → words_named name n.all
    ≡ map (λ s. s.word) (sayings_for name unpack_rows (unpack_said input folder) (input ∷ folder ∷ [])) =
    λ name. words_for name unpack_rows (unpack_said input folder) (input ∷ folder ∷ []) n.all due in (
      n.asks.0 ∙ word_is n.all (codes "IN") ∙ ap (λ l. unwrap_or (first l) []) (words (codes "IN")),
      n.asks.1 ∙ word_is n.all (codes "DIR") ∙ ap (λ l. unwrap_or (first l) []) (words (codes "DIR")),
      n.asks.2 ∙ ap (λ w. bytes_eq w (codes "true")) (word_is n.all (codes "words")
          ∙ ap (λ l. unwrap_or (first l) []) (words (codes "words"))),
    )
