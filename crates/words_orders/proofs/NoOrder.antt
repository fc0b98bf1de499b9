-- Why words ask for no order.
use Rattle.std.proofs.Common.{◌≡◌, ◌∙◌, ℕ, List, refl, sym, ap, subst, Some, None}
use Rattle.std.specs.Prelude.{bytes_eq}
use Rattle.std.proofs.lemmas.Slice.Eq.{bytes_eq-Decides}
use Rattle.words_orders.specs.declared.answers.Answer.{Answer}
use Rattle.words_orders.specs.declared.order.Order.{Order}
use Rattle.words_orders.specs.declared.rows.Work.{Work}
use Rattle.words_orders.specs.declared.rows.Work.TheVariants as works
use Rattle.words_orders.specs.Asked.{AreAnswers, IsOrderOf, IsSplit}
use Rattle.words_orders.specs.Table.{all_works, name_of, rows_of, telling_rows, work_named, work_of}
use Rattle.words_sayings.specs.Words.{Saying, words_say}
use Rattle.words_sayings.proofs.Mapped.{found_passes}

pub none_some : {X : Type 0} (x : X) → None ≡ Some x → ⊥
none_some x e = absurd (cc)

some_same : {X : Type 0} (x y : X) → Some x ≡ Some y → x ≡ y
some_same x y e = cc

pub work_named-name_of : (work : Work) → work_named (name_of work) ≡ Some work
work_named-name_of works.Expand = refl
work_named-name_of works.List = refl
work_named-name_of works.Sparse = refl
work_named-name_of works.Cut = refl
work_named-name_of works.Flash = refl
work_named-name_of works.Verify = refl
work_named-name_of works.Pack = refl
work_named-name_of works.Repack = refl
work_named-name_of works.Unpack = refl
work_named-name_of works.Info = refl
work_named-name_of works.Completions = refl

-- the command of a name
pub named_is : (word : List ℕ) (work : Work) → Some work ≡ work_named word → word ≡ name_of work
named_is word work e = sym ((bytes_eq-Decides (name_of work) word).0
    (found_passes (λ w. bytes_eq (name_of w) word) all_works work e))

-- no command has it
pub none_named : (word : List ℕ) (work : Work) → None ≡ work_named word → Some word ≡ Some (name_of work) → ⊥
none_named word work none e =
    none_some work (none ∙ ap work_named (some_same word (name_of work) e) ∙ work_named-name_of work)

module _ (words : List (List ℕ)) (name : List ℕ) (work : Work) (front behind : List (List ℕ))
    (split : IsSplit words name work front behind) (order : Order) (o : IsOrderOf words order) where
  same_work : work ≡ work_of order.task
  same_work = some_same work (work_of order.task)
      (sym (work_named-name_of work) ∙ ap work_named (sym split.name_is
      ∙ some_same name (name_of (work_of order.task)) (sym split.named ∙ o.named))
      ∙ work_named-name_of (work_of order.task))

  -- what stands before the command is none of its flags
  pub no_front : None ≡ words_say telling_rows front → ⊥
  no_front none = none_some o.before (none ∙ ap (words_say telling_rows) split.front_is ∙ o.first)

  own_said : words_say (rows_of work) behind ≡ Some o.said
  own_said = ap (λ w. words_say (rows_of w) behind) same_work
      ∙ ap (words_say (rows_of (work_of order.task))) split.behind_is ∙ o.reads

  -- a word behind it says nothing
  pub no_said : None ≡ words_say (rows_of work) behind → ⊥
  no_said none = none_some o.said (none ∙ own_said)

  -- what is said has no answers
  pub no_answers : (said : List Saying) → Some said ≡ words_say (rows_of work) behind
      → ((all : List Answer) → AreAnswers (rows_of work) said all → ⊥) → ⊥
  no_answers said is none =
      none o.all (subst (λ s. AreAnswers (rows_of work) s o.all) (some_same o.said said (sym own_said ∙ sym is))
      (subst (λ w. AreAnswers (rows_of w) o.said o.all) (sym same_work) o.answers))
