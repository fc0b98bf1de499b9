-- An empty body. The borrow is opened and closed at another ghost value.
use Rattle.abt_io.proofs.Steps.{[], ◌∷◌, refl, proved, id⊢, ftrue, flft, named, vunit, ‵, ◌⊛◌, ◌$◌, ◌∵◌, !, qed, done}
use Rattle.abt_io.proofs.Steps.{move, keep, use1, split, join, fsplit3, feq_i, suffices, frame, group, enter, of_opd}
use Rattle.abt_io.proofs.Steps.{unit_lit, returns, alloc_all, pass_all, free_all, look_at, sets, yes, MutRef, mut_vals}
use Rattle.abt_io.proofs.Steps.{mut_Tells, plain, opens, closes, Stays, walk_of, says, stay_ref, Goes-ref, ends_at}
use denote.Ref.{ShrRef, shr_vals, shr_Tells}
use denote.Triple.Walked.{stay_none_ref, Goes-none_ref}
use Rattle.mem_disk.specs.contracts.counted.Counted.call as f
use Rattle.mem_disk.proofs.counted.Counted.call.Statement.{statement}
use Rattle.mem_disk.proofs.counted.Counted.call.Code as code
use Rattle.sys_refusals.specs.contracts.refusal.HostFault.{the_row as S}
use Rattle.mem_disk.specs.contracts.counted.Counted.{the_row as R}
use Rattle.mem_disk.specs.declared.counted.Counted.{Counted}
use Rattle.sys_disk.specs.Counts.{added, call_of}

abbrev stayed : Stays f.ended.signature.params f.ended.kept
stayed = (stay_ref (0 ∷ []) tt (plain (λ _. R)), (stay_none_ref (1 ∷ []) tt (plain (λ _. S)) yes, tt))

pub call_spec : {M : Type 1} → statement M
call_spec 𝓤 𝓛 𝓜 𝓡 wired =
    let c = f.clauses 𝓛 𝓜.mem 𝓡.returns in let W = walk_of 𝓛 f.ended stayed c in
    proved 𝓛 f.ended stayed c 𝓜 𝓡 (
      Goes-ref 𝓛 2 0 tt (plain (λ _. R)),
      (Goes-none_ref 𝓛 2 (1 ∷ []) tt (plain (λ _. S)) yes, tt),
    )
    f.Key.name code.function (code.unfolded 𝓤 𝓛.H 𝓜 𝓡 wired)
    (λ κs. (mut_vals, (shr_vals, tt))) (λ κs. (mut_Tells (named 0) κs.0 R, (shr_Tells (named 1) κs.1.0 S, tt)))
    (λ κs qs bounds a _ are.
    let b = a.0.ref_ptr.0 in let o = a.0.ref_ptr.1 in let h = a.0.now in let s = a.1.0 in let vs = mut_vals a.0 in
    let h' : Counted = record { counts = added h.counts (call_of s.now) } in
    let y : W.Ghost = ((κs, qs, bounds, a, (vs, (shr_vals s, tt))), tt) in
    qed 𝓛 (((‵ (flft κs.0 qs.0) ⊛ (‵ (flft κs.1.0 qs.1.0) ⊛ ‵ ftrue)) ⊛ ‵ ((MutRef (named 0) κs.0 R).own_val a.0 vs) ⊛
    (‵ ((ShrRef (named 1) κs.1.0 S).own_val s (shr_vals s)) ⊛ ‵ ftrue)) ∷ ‵ ftrue ∷ []) ∵
    split ! $ split ! $ move ! (2 ∷ []) $ split ! $ keep ! (0 ∷ 1 ∷ 2 ∷ 3 ∷ []) $
    -- [self; the other and nothing; the token of self; the token of the other]
    enter ! _ _ _ _ _ $ alloc_all ! (λ l. pass_all ! refl ((tt, tt), ((tt, tt), tt)) $
    fsplit3 ! $ move ! (1 ∷ 2 ∷ 4 ∷ []) $ opens ! tt R b o (λ us.
    sets ! (of_opd ! (unit_lit !)) refl (tt, tt) $
    move ! (1 ∷ []) $ use1 𝓛 (‵ (R.own_val h' us)) (id⊢ 𝓤 _) $ move ! (1 ∷ 0 ∷ []) $ closes ! tt R h' us b o $
    returns ! (look_at ! 0 refl) $ free_all ! refl $ move ! (3 ∷ []) $
    -- [self in three parts; the token of self; the other and nothing; the token of the other]
    suffices ! _ (ends_at 𝓛 f.ended stayed c y vunit tt (h', (tt, tt)) (tt, (tt, tt))) $ says ! refl $
    group ! 3 $ move ! (0 ∷ 2 ∷ []) $ join ! $ move ! (1 ∷ 2 ∷ []) $ join ! $ frame ! $ frame ! $
    feq_i ! _ (vunit ∷ []) _ refl $ done !)))
