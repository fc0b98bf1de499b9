-- Headers that are taken back, and bytes that are written at the end of what stands, or over it.
use Rattle.std.proofs.Common.{◌≡◌, ℕ, ◌+◌, ◌≤◌, Bool, List, [], ◌++◌, length, take, drop, refl, sym, ap, ◌∙◌, arith}
use Rattle.std.proofs.Common.{append-nil, length-append}
use Rattle.std.proofs.Math.ListN.{length-take}
use Rattle.std.proofs.lemmas.List.{take_all, drop_all}
use Rattle.abt_io.specs.Frame.{Logged, and_bytes}
use Rattle.abt_io.specs.Moment.{put_at}
use Rattle.abt_io.specs.Over.{and_put}
use Rattle.sys_file.proofs.Fronts.{begins_take, front_stays}
use Rattle.sys_outputs.specs.Late.{TakesBack, whole}

pub takes_none : (models : Bool) (sent : ℕ) (c held : List ℕ) → TakesBack models sent c c held held
takes_none models sent c held = record { file = λ t. refl; front = λ t. begins_take sent c; held_length = refl }

pub takes_then : (models : Bool) (sent : ℕ) (a b c h i k : List ℕ) → TakesBack models sent a b h i
    → TakesBack models sent b c i k → TakesBack models sent a c h k
takes_then models sent a b c h i k x y = record {
  file = λ t. y.file t ∙ x.file t;
  front = λ t. front_stays (take sent a) b c sent (x.front t) (omega (arith, length-take sent a)) (y.front t);
  held_length = y.held_length ∙ x.held_length;
}

-- bytes that are written over what was sent, where nothing is buffered
pub whole_over : (c new held x : List ℕ) (g g' : Logged) (sent at : ℕ) → held ≡ [] → c ≡ g.bytes → new ≡ put_at c at x
    → g' ≡ and_put g at x → length new ≤ sent → whole new sent held ≡ g'.bytes
whole_over c new held x g g' sent at none same written logged le =
    ap (λ (l : List ℕ). take sent new ++ l) none ∙ append-nil (take sent new) ∙ take_all sent new le ∙ written
    ∙ ap (λ (l : List ℕ). put_at l at x) same ∙ sym (ap (λ (l : Logged). l.bytes) logged)

put_end : (c x : List ℕ) (at : ℕ) → length c ≡ at → put_at c at x ≡ c ++ x
put_end c x at e =
    ap (λ (l : List ℕ). (l ++ x) ++ drop (at + length x) c) (take_all at c (omega (arith, e)))
    ∙ ap (λ (l : List ℕ). (c ++ x) ++ l) (drop_all (at + length x) c (omega (arith, e)))
    ∙ append-nil (c ++ x)

-- the same behind it
pub whole_behind : (c new held x : List ℕ) (g g' : Logged) (sent n : ℕ) → held ≡ [] → c ≡ g.bytes
    → new ≡ put_at c sent x → g' ≡ and_bytes g x → length c ≡ sent → length x ≡ n
    → whole new (sent + n) held ≡ g'.bytes
whole_behind c new held x g g' sent n none same written logged long some =
    let end : new ≡ c ++ x = written ∙ put_end c x sent long in
    let le : length new ≤ sent + n = omega (arith, ap length end, length-append c x, long, some) in
    ap (λ (l : List ℕ). take (sent + n) new ++ l) none ∙ append-nil (take (sent + n) new)
    ∙ take_all (sent + n) new le ∙ end
    ∙ ap (λ (l : List ℕ). l ++ x) same ∙ sym (ap (λ (l : Logged). l.bytes) logged)
