-- What was sent and what is held of what a spool took.
use Rattle.std.proofs.Common.{◌≡◌, ℕ, ◌+◌, ◌-◌, ◌≤◌, List, ◌++◌, length, take, drop, sym, ◌∙◌, ap, arith}
use Rattle.std.proofs.Common.{length-drop}
use Rattle.std.proofs.lemmas.List.{length-take-le, take_all, take-append-drop, drop-append-le}
use Rattle.std.proofs.Math.Seq.{drop-append-add}
use Rattle.abt_io.specs.Moment.{put_at}
use Rattle.abt_io.specs.Over.{and_put}
use Rattle.abt_io.specs.Frame.{Logged, last_cut, and_bytes}
use Rattle.sys_file.proofs.Puts.{laid_held}
use Rattle.sys_devices.specs.Writes.{since_cut}

-- the same where all that was sent stands
pub laid_behind : (sent held x : List ℕ) (at : ℕ) → length sent ≤ at → at + length x ≤ length sent + length held
    → sent ++ put_at held (at - length sent) x ≡ put_at (sent ++ held) at x
laid_behind sent held x at le fits =
    let n = length sent in
    let all : take n sent ≡ sent = take_all n sent (omega arith) in
    let place : n + (at - n) ≡ at = omega (arith, le) in
    ap (λ (l : List ℕ). l ++ put_at held (at - n) x) (sym all)
    ∙ laid_held sent held x n (at - n) (omega arith) (omega (arith, le, fits))
    ∙ ap (λ (k : ℕ). put_at (take n sent ++ held) k x) place
    ∙ ap (λ (l : List ℕ). put_at (l ++ held) at x) all

-- behind what is left out
drop_put : (c x : List ℕ) (n at : ℕ) → n ≤ at → at + length x ≤ length c
    → drop n (put_at c at x) ≡ put_at (drop n c) (at - n) x
drop_put c x n at le fits =
    let f = take n c in
    let b = drop n c in
    let laid = put_at b (at - n) x in
    let long : length f ≡ n = length-take-le n c (omega (arith, le, fits)) in
    let behind : length b ≡ length c - n = length-drop n c in
    let place : at ≡ n + (at - n) = omega (arith, le) in
    let end : n ≡ length f + 0 = omega (arith, long) in
    ap (λ (l : List ℕ). drop n (put_at l at x)) (sym (take-append-drop n c))
    ∙ ap (λ (k : ℕ). drop n (put_at (f ++ b) k x)) place
    ∙ ap (drop n) (sym (laid_held c b x n (at - n) (omega (arith, le, fits)) (omega (arith, le, fits, behind))))
    ∙ ap (λ (k : ℕ). drop k (f ++ laid)) end
    ∙ drop-append-add f laid 0

-- what a spool took is laid over as all that it was given is
pub laid_since : (sent held sent' held' x : List ℕ) (g g' : Logged) (cleared at : ℕ) → sent ++ held ≡ since_cut g
    → sent' ++ held' ≡ put_at (sent ++ held) (at - cleared) x → g' ≡ and_put g at x → cleared ≡ last_cut g.cuts
    → cleared ≤ at → at + length x ≤ length g.bytes → sent' ++ held' ≡ since_cut g'
laid_since sent held sent' held' x g g' cleared at before e logged cut le fits =
    e ∙ ap (λ (l : List ℕ). put_at l (at - cleared) x) before
    ∙ ap (λ (k : ℕ). put_at (drop k g.bytes) (at - cleared) x) (sym cut)
    ∙ sym (drop_put g.bytes x cleared at le fits)
    ∙ ap (λ (k : ℕ). drop k (put_at g.bytes at x)) cut
    ∙ sym (ap since_cut logged)

-- what a spool took goes behind all that it took since its last clear
pub took : (sent held sent' held' x : List ℕ) (g g' : Logged) (used : ℕ) → sent ++ held ≡ since_cut g
    → sent' ++ held' ≡ (sent ++ held) ++ x → g' ≡ and_bytes g x → last_cut g.cuts + used ≡ length g.bytes
    → sent' ++ held' ≡ since_cut g'
took sent held sent' held' x g g' used before e logged long =
    e ∙ ap (λ (l : List ℕ). l ++ x) before
    ∙ sym (drop-append-le (last_cut g.cuts) g.bytes x (omega (arith, long)))
    ∙ sym (ap since_cut logged)
