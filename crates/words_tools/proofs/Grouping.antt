-- The state of ramdisk fragments, one answer further.
use Rattle.std.proofs.Common.{◌≡◌, ◌∙◌, ◌+◌, ◌<◌, ℕ, List, [], ◌∷◌, ◌++◌, sym, ap, subst, drop, length, get_or}
use Rattle.std.specs.Borrow.{Bor}
use Rattle.std.specs.List.{AllZip}
use Rattle.std.specs.Prelude.{Bool, true, if◌then◌else◌}
use Rattle.std.proofs.lemmas.Slice.Zip.{all_zipped_more}
use Rattle.std.proofs.lemmas.List.{append_assoc, drop_more}
use Rattle.words_orders.specs.declared.answers.Answer.{Answer}
use Rattle.words_tools.specs.Fragments.{BoardSaid, FragmentSaid, GroupSaid, board_by}
use Rattle.words_tools.specs.Fragments.{boards_said, count_behind, ended_by, fragments_said, group_behind}

-- texts are there of some, and the rest makes up the whole
pub record ToldSoFar {X : Type 0} (R : X → Bor (List ℕ) → Type 0) (whole rest : List X) (texts : List (Bor (List ℕ)))
    : Type 0 where
  pub done : List X
  pub so_far : AllZip R done texts
  pub behind : done ++ rest ≡ whole

told_more : {X : Type 0} (R : X → Bor (List ℕ) → Type 0) (whole here rest rest' : List X)
    (texts texts' : List (Bor (List ℕ))) → (told : ToldSoFar R whole rest texts) → rest ≡ here ++ rest'
    → AllZip R (told.done ++ here) texts' → ToldSoFar R whole rest' texts'
told_more R whole here rest rest' texts texts' told split more = record {
  done = told.done ++ here;
  so_far = more;
  behind = append_assoc told.done here rest' ∙ ap (λ l. told.done ++ l) (sym split) ∙ told.behind;
}

pub fragment_more : (R : FragmentSaid → Bor (List ℕ) → Type 0) (whole : List FragmentSaid) (g g' : GroupSaid)
    (said : List Answer) (i : ℕ) (d : Answer) (texts texts' : List (Bor (List ℕ))) → i < length said
    → g' ≡ group_behind g (get_or said i d) → (told : ToldSoFar R whole (fragments_said g (drop i said)) texts)
    → AllZip R (told.done ++ ended_by g (get_or said i d)) texts'
    → ToldSoFar R whole (fragments_said g' (drop (i + 1) said)) texts'
fragment_more R whole g g' said i d texts texts' below behind told more =
    told_more R whole (ended_by g (get_or said i d)) _ _ texts texts' told
    (ap (fragments_said g) (drop_more said i d below)
    ∙ ap (λ h. ended_by g (get_or said i d) ++ fragments_said h (drop (i + 1) said)) (sym behind)) more

pub board_more : (R : BoardSaid → Bor (List ℕ) → Type 0) (whole : List BoardSaid) (n n' : ℕ)
    (said : List Answer) (i : ℕ) (d : Answer) (texts texts' : List (Bor (List ℕ))) → i < length said
    → n' ≡ count_behind n (get_or said i d) → (told : ToldSoFar R whole (boards_said n (drop i said)) texts)
    → AllZip R (told.done ++ board_by n (get_or said i d)) texts'
    → ToldSoFar R whole (boards_said n' (drop (i + 1) said)) texts'
board_more R whole n n' said i d texts texts' below behind told more =
    told_more R whole (board_by n (get_or said i d)) _ _ texts texts' told
    (ap (boards_said n) (drop_more said i d below)
    ∙ ap (λ h. board_by n (get_or said i d) ++ boards_said h (drop (i + 1) said)) (sym behind)) more

-- ---- the text of one

pub told_one : {X : Type 0} (R : X → Bor (List ℕ) → Type 0) (is : Bool) (done : List X) (x : X)
    (texts texts' : List (Bor (List ℕ))) (text : Bor (List ℕ)) → is ≡ true → R x text → texts' ≡ texts ++ (text ∷ [])
    → AllZip R done texts → AllZip R (done ++ (if is then x ∷ [] else [])) texts'
told_one R is done x texts texts' text holds here more so_far =
    subst (λ l. AllZip R (done ++ (if is then x ∷ [] else [])) l) (sym more)
    (subst (λ b. AllZip R (done ++ (if b then x ∷ [] else [])) (texts ++ (text ∷ []))) (sym holds)
    (all_zipped_more R done texts x text so_far here))
