-- `part_mut` lends a part of the array as a slice. The borrow checker shows no write-back clause for a part of a `[T;
-- N]`, so this proof walks the code by hand.
use mathlib.Core.Path.{◌≡◌, refl, sym, ap, ◌∙◌}
use Prim.Native.Nat.{ℕ, ◌+◌, ◌-◌, ◌≤◌}
use native.Mathlib.Omega.{arith}
use mathlib.Core.List.{List, [], ◌∷◌, ◌++◌}
use seplogic.Ra.Ura.{Ura}
use mir.Syntax.{named, w64}
use mir.Val.{Val}
use base.Logic.{SProp, ent, sep, ex, emp, guard, via}
use base.Fml.{Fml, Lft, GName, Share, ftrue, flft}
use types.Logic.{Logic, sem}
use types.Mut.{open_ref}
use types.Kit.{Item, Step, step, prop, use0, check, ‵, ◌⊛◌, raw, given, some, later, ◌$◌, ◌∵◌, !, qed, by, move, keep}
use types.Kit.{drop, split, split3, join, learn, fsplit, fsplit3, use1, use2, await, pick, suffices, frame, done}
use types.Kit.{updating, group, now, show, rewrite}
use denote.Array.{Array}
use denote.Builtin.{RefMutOf, u8, usize}
use denote.Exit.{yes, no}
use denote.Follow.{follows}
use denote.Memory.{mem}
use denote.Plain.{uint_vals, uint_Tells}
use denote.RattleType.{owns}
use denote.Ref.{MutRef, mut_vals, mut_Tells}
use denote.Signature.{plain}
use denote.Steps.{nothing, heard}
use denote.Triple.Walked.{Stays, stay_dropped, walk_of, ends_at, Goes-dropped, Goes-spent_ref}
use lib.ListN.{length, take, drop as drop_list, take-append-drop, length-drop, length-append}
use types.SemTy.{cells}
use types.Part.{agg}
use types.Run.{bin, stop, fld, addr, and_then, no_more, returns, enter}
use types.ByLocal.{alloc_all, pass_all, free_all, look_at, get, through, sets}
use denote.FollowSlice.{lends_Elements}
use denote.Slice.{MutSlice, Room, slice_val}
use borrow.Table.Elements.{at, at_byte, cut_app, join_app, length-take-le}
use contract.Monad.{fact, fact_i}
use Rattle.std.proofs.raw_atomic.Walks.{proved}
use Rattle.std.proofs.Common.{append_assoc}
use Rattle.std.proofs.lemmas.List.{drop-drop}
use Rattle.abt_io.specs.declared.window.Window.{Window}
use Rattle.abt_io.specs.Window.{with_part}
use Rattle.abt_io.proofs.WindowMemory.{start, Left, bytes_out, bytes_in}
use Rattle.abt_io.specs.contracts.window.Window.{the_row as S}
use Rattle.abt_io.specs.contracts.window.Window.part_mut as f
use Rattle.abt_io.proofs.window.Window.part_mut.Statement.{statement}
use Rattle.abt_io.proofs.window.Window.part_mut.Code as code

abbrev stayed : Stays f.ended.signature.params f.ended.kept
stayed = (
  stay_dropped (RefMutOf (0 ∷ []) tt (plain (λ _. S)) (λ _. tt)) no,
  (stay_dropped (plain (λ _. usize)) yes, (stay_dropped (plain (λ _. usize)) yes, tt)),
)

-- an `ensures` of two facts
says_both : {M : Type 1} {𝓤 : Ura M} {𝓛 : Logic 𝓤} {K : Type 0} {Γ : List (Item 𝓤)} → K → {φ ψ : Type 0} {P : SProp 𝓤}
    → φ → ψ → Step K 𝓛 Γ (prop P) Γ (prop (sep 𝓤 P (sep 𝓤 (fact 𝓤 φ) (fact 𝓤 ψ))))
says_both {𝓤 = 𝓤} {𝓛 = 𝓛} t {φ} {ψ} {P} x y = step (λ s. record {
  prf = via 𝓤 P s.prf (qed 𝓛 (raw P ∷ []) {P = sep 𝓤 P (sep 𝓤 (fact 𝓤 φ) (fact 𝓤 ψ))} ∵ (
      frame ! $ use0 𝓛 (raw (fact 𝓤 ψ)) (fact_i 𝓤 ψ (emp 𝓤) y) $ use0 𝓛 (raw (fact 𝓤 φ))
      (fact_i 𝓤 φ (emp 𝓤) x) $ done !));
})

module _ {M : Type 1} {𝓤 : Ura M} (𝓛 : Logic 𝓤) (κ : Lft) (q : Share) (b o : ℕ) (γ : GName) (d : Window) (m n : ℕ) where
  open 𝓛 use {H, A}

  abbrev p : ℕ
  p = start o

  abbrev front : List ℕ
  front = take m d.bytes

  abbrev mid : List ℕ
  mid = take (n - m) (drop_list m d.bytes)

  abbrev back : List ℕ
  back = drop_list n d.bytes

  abbrev after : List ℕ → Window
  after ws = with_part d m n ws

  abbrev bytes : List ℕ → ℕ → Fml
  bytes ws = cells (mem u8) ws b

  abbrev past : ℕ → ℕ → ℕ
  past = λ (k i : ℕ). at k (mem u8).size i

  -- where the part begins
  abbrev from : ℕ
  from = past p (length front)

  abbrev Rest : SProp 𝓤
  Rest = sep 𝓤 (sem 𝓛 (bytes front p)) (sep 𝓤 (sem 𝓛 (bytes back (past from (length mid)))) (Left 𝓛 b o))

  whole : m ≤ n → front ++ (mid ++ back) ≡ d.bytes
  whole order =
      ap (λ (l : List ℕ). front ++ (mid ++ l)) (ap (λ (k : ℕ). drop_list k d.bytes) (omega arith)
      ∙ sym (drop-drop (n - m) m d.bytes))
      ∙ ap (λ (l : List ℕ). front ++ l) (take-append-drop (n - m) (drop_list m d.bytes)) ∙ take-append-drop m d.bytes

  put : m ≤ n → n ≤ 65536 → length d.bytes ≡ 65536 → (ws : List ℕ) → length ws ≡ length mid
      → ent 𝓤 (sep 𝓤 (sem 𝓛 (bytes ws from)) Rest) (sem 𝓛 ((mem S).own_at (after ws) b o))
  put order within long ws e =
      let same : front ++ (ws ++ back) ≡ (after ws).bytes = sym (append_assoc front ws back) in
      let all : length (after ws).bytes ≡ 65536 =
      omega (
        arith,
        e,
        ap length same,
        ap length (whole order),
        length-append front (ws ++ back),
        length-append ws back,
        length-append front (mid ++ back),
        length-append mid back,
      ) in
      qed 𝓛 (‵ (bytes ws from) ∷ ‵ (bytes front p) ∷ ‵ (bytes back (past from (length mid))) ∷ raw (Left 𝓛 b o) ∷ []) ∵
      rewrite ! 2 (λ (k : ℕ). ‵ (bytes back (past from k))) (sym e) refl $ move ! (0 ∷ 2 ∷ []) $
      use2 𝓛 (‵ (bytes (ws ++ back) from)) (join_app 𝓛 (mem u8) ws back b from) $ move ! (1 ∷ 0 ∷ []) $
      use2 𝓛 (‵ (bytes (front ++ (ws ++ back)) p)) (join_app 𝓛 (mem u8) front (ws ++ back) b p) $
      rewrite ! 0 (λ (l : List ℕ). ‵ (bytes l p)) same refl $
      by ! (bytes_in 𝓛 b o (after ws) all)

  abbrev lent : ℕ → ℕ → GName → Item 𝓤
  lent s k δ = ‵ ((MutSlice (named 0) κ u8).own_val (record { ref_ptr = (b, s); ghost_name = δ; now = mid })
      (slice_val (b, s) k ∷ [])) ⊛ ‵ (flft κ q) ⊛ ‵ (follows S (Array u8 0) γ δ after)

  abbrev Lent : ℕ → ℕ → GName → SProp 𝓤
  Lent s k δ = sep 𝓤 (sem 𝓛
      ((MutSlice (named 0) κ u8).own_val (record { ref_ptr = (b, s); ghost_name = δ; now = mid }) (slice_val (b, s) k
      ∷ []))) (sep 𝓤 (A.lft κ q) (sem 𝓛 (follows S (Array u8 0) γ δ after)))

  -- and the window is whole
  abbrev lent_whole : ℕ → ℕ → GName → Item 𝓤
  lent_whole s k δ = given (length d.bytes ≡ 65536) (lent s k δ)

  abbrev Lent_whole : ℕ → ℕ → GName → SProp 𝓤
  Lent_whole s k δ = guard 𝓤 (length d.bytes ≡ 65536) (Lent s k δ)

  lends : m ≤ n → n ≤ 65536 → (vs : List Val)
      → ent 𝓤 (sep 𝓤 (sem 𝓛
      ((MutRef (named 0) κ S).own_val (record { ref_ptr = (b, o); ghost_name = γ; now = d }) vs)) (A.lft κ q))
      (H.⇛ (ex 𝓤 (Lent_whole (m + p) (n - m))))
  lends order within vs =
      qed 𝓛 (‵ ((MutRef (named 0) κ S).own_val (record { ref_ptr = (b, o); ghost_name = γ; now = d }) vs)
      ∷ ‵ (flft κ q) ∷ []) ∵
      updating ! $ fsplit3 ! $ drop ! $ open_ref ! tt (mem S) {b = b} {o = o} $
      use1 𝓛 (given (length d.bytes ≡ 65536) (‵ (bytes d.bytes p) ⊛ raw (Left 𝓛 b o))) (bytes_out 𝓛 b o d) $
      learn ! (λ long. split ! $
      let first : length front ≡ m = length-take-le m d.bytes (omega arith) in
      let count : length mid ≡ n - m =
      length-take-le (n - m) (drop_list m d.bytes) (omega (arith, length-drop m d.bytes)) in
      let place : from ≡ m + p = at_byte p (length front) ∙ ap (λ (k : ℕ). k + p) first in
      let room : Room u8 (length mid) = (omega arith, omega arith) in
      rewrite ! 0 (λ (l : List ℕ). ‵ (bytes l p)) (sym (whole order)) refl $
      use1 𝓛 (‵ (bytes front p) ⊛ ‵ (bytes (mid ++ back) from)) (cut_app 𝓛 (mem u8) front (mid ++ back) b p) $
      split ! $ move ! (1 ∷ []) $
      use1 𝓛 (‵ (bytes mid from) ⊛ ‵ (bytes back (past from (length mid)))) (cut_app 𝓛 (mem u8) mid back b from) $
      split ! $ move ! (2 ∷ 1 ∷ 3 ∷ []) $ group ! 3 $ move ! (2 ∷ 3 ∷ 4 ∷ 1 ∷ 0 ∷ []) $ group ! 5 $
      use1 𝓛 (later (some (lent from (length mid))))
      (lends_Elements 𝓛 S u8 after (named 0) κ q b o b from γ mid room Rest (put order within long) (S.coded.code d)
      (S.coded.code d)) $
      await ! tt $ pick ! (λ δ. rewrite ! 0 (λ (k : ℕ). lent from k δ) count refl $ rewrite ! 0
      (λ (s : ℕ). lent s (n - m) δ) place refl $ now ! $ show !
      (Lent_whole (m + p) (n - m)) δ $ check ! long $ done !))

pub part_mut_spec : {M : Type 1} → statement M
part_mut_spec 𝓤 𝓛 𝓜 𝓡 wired =
    let c = f.clauses 𝓛 𝓜.mem 𝓡.returns in let W = walk_of 𝓛 f.ended stayed c in
    let goes = Goes-dropped 𝓛 1 (plain (λ _. usize)) yes (λ κs x w. refl) in
    proved 𝓛 f.ended stayed c 𝓜 𝓡 (Goes-spent_ref 𝓛 1 (0 ∷ []) tt (plain (λ _. S)), (goes, (goes, tt)))
    f.Key.name code.function (code.unfolded 𝓤 𝓛.H 𝓜 𝓡 wired)
    (λ κs. (mut_vals, (uint_vals w64, (uint_vals w64, tt))))
    (λ κs. (mut_Tells (named 0) κs.0 S, (uint_Tells w64, (uint_Tells w64, tt)))) (λ κs qs bounds a _ are.
    let b = a.0.ref_ptr.0 in let o = a.0.ref_ptr.1 in let γ = a.0.ghost_name in let d = a.0.now in let m = a.1.0 in
    let n = a.1.1.0 in
    let κ = κs.0 in let q = qs.0 in
    let y : W.Ghost = ((κs, qs, bounds, a, (mut_vals a.0, (uint_vals w64 m, (uint_vals w64 n, tt)))), tt) in
    qed 𝓛 (((‵ (flft κ q) ⊛ ‵ ftrue) ⊛ ‵ (owns (MutRef (named 0) κ S ∷ usize ∷ usize ∷ []) a (
      mut_vals a.0,
      (uint_vals w64 m, (uint_vals w64 n, tt)),
    ))) ∷ (raw (fact 𝓤 (m ≤ n)) ⊛ raw (fact 𝓤 (n ≤ 65536))) ∷ []) ∵
    move ! (1 ∷ []) $ split ! $ heard ! _ (λ order. heard ! _ (λ within.
    split ! $ split ! $ move ! (2 ∷ []) $ fsplit ! $ keep ! (0 ∷ 2 ∷ []) $
    -- [self; its token]
    enter ! _ _ _ _ _ $ alloc_all !
    (λ l. pass_all ! refl (
      (tt, tt),
      ((tt, record { fits = are.1.0.1 }), ((tt, record { fits = are.1.1.0.1 }), tt)),
    ) $
    sets ! (addr ! (through ! refl (fld ! refl (stop !)))) refl (tt, tt) $
    sets ! (bin ! (get ! refl) (get ! refl) tt) refl (tt, tt) $
    sets ! (bin ! (get ! refl) (get ! refl) order) refl (tt, record { fits = omega (arith, are.1.1.0.1) }) $
    sets ! (addr ! (through ! refl (stop !))) refl (tt, tt) $
    sets ! (agg ! (and_then ! (get ! refl) (and_then ! (get ! refl) (no_more !)))) refl
    (tt, (tt, (record { fits = omega (arith, are.1.1.0.1) }, tt))) $
    use2 𝓛 (later (some (lent_whole 𝓛 κ q b o γ d m n (m + start o) (n - m))))
    (lends 𝓛 κ q b o γ d m n order within (mut_vals a.0)) $
    await ! tt $ pick ! (λ δ. learn ! (λ long.
    returns ! (look_at ! 0 refl) $ free_all ! refl $ keep ! (0 ∷ []) $ split3 ! $
    -- [the slice; the token; what self follows]
    suffices ! _ (ends_at 𝓛 f.ended stayed c y (slice_val (b, m + start o) (n - m))
    (record { ref_ptr = (b, m + start o); ghost_name = δ; now = take (n - m) (drop_list m d.bytes) })
    (tt, (tt, (tt, tt))) (tt, (tt, (tt, tt)))) $
    nothing ! $ nothing ! $ join ! $ nothing ! $ join ! $ nothing ! $ join ! $ nothing ! $ move ! (3 ∷ 0
    ∷ []) $ join ! $
    move ! (1 ∷ 2 ∷ []) $ join ! $ move ! (1 ∷ 0 ∷ []) $ join ! $ frame ! $
    says_both ! refl (length-take-le (n - m) (drop_list m d.bytes) (omega (arith, length-drop m d.bytes))) $ done
    !))))))
