-- Whose fault a part and a result are, and how much is read at a turn.
use Rattle.std.proofs.Common.{Result}
use Rattle.std.proofs.Common.{◌≡◌, ℕ, ◌<◌, ◌≤◌, ◌+◌, ◌-◌, ◌∙◌, Bool, true, false, refl, arith, ap, eq-eqb, ne_eqb}
use Rattle.std.proofs.Common.{lt-ltb, le-ltb, ◌==◌, nat_lt, inl, inr, eqb-true, if◌then◌else◌, ◌&&◌}
use Rattle.abt_sparse.specs.Cause.{full_in_fault, full_answered}
use Rattle.abt_sparse.specs.declared.fault.SparseFault.{SparseFault}
use Rattle.abt_sparse.specs.declared.fault.SparseFault.TheVariants as faults
use Rattle.abt_sparse.specs.declared.kind.ChunkKind.{ChunkKind}
use Rattle.abt_sparse.specs.declared.kind.ChunkKind.TheVariants as kinds
use Rattle.abt_io.specs.declared.device.DeviceFault.{DeviceFault}
use Rattle.abt_chunks.specs.declared.walk.Phase.{Phase}
use Rattle.abt_chunks.specs.declared.walk.Phase.TheVariants as phases
use Rattle.abt_chunks.specs.declared.walk.Walk.{Walk}
use Rattle.abt_chunks.specs.declared.walk.Part.{Part}
use Rattle.abt_chunks.specs.declared.walk.Part.TheVariants as parts
use Rattle.abt_chunks.specs.declared.walk.Turn.{Turn}
use Rattle.abt_chunks.specs.declared.walk.Turn.TheVariants as turns
use Rattle.abt_chunks.specs.Cause.{full_in_part, full_since, UnlessCut}
use Rattle.abt_chunks.specs.Cause.{wanted, wanted_in, head_wanted, data_wanted}
use Rattle.abt_chunks.specs.Expanding.{IsGoing, answer_of}
use Rattle.abt_chunks.specs.Turns.{AtTurn, ask_of, IsWalkOver, SpentBy}
use Rattle.abt_chunks.specs.Parts.{Caused}
use Rattle.abt_chunks.specs.ListingAhead.{at_end, is_between, is_spent}
use Rattle.abt_chunks.specs.Ahead.{due_of}
use Rattle.std.proofs.lemmas.Bool.{cases_Bool}

pub since_going : {X : Type 0} (p : Phase) (r : Result X SparseFault) → IsGoing p → full_since p r ≡ full_answered r
since_going phases.Header r going = refl
since_going phases.Body r going = refl
since_going phases.Done r going = absurd going
since_going (phases.Failed f) r going = absurd going

pub asks_none : (turn : Turn) (s : Walk) → AtTurn turn s → IsWalkOver s.phase → ask_of turn s ≡ 0
asks_none turns.Header s h over = absurd (rw h at over)
asks_none turns.Extra s h over = absurd (rw h.0 at over)
asks_none turns.Raw s h over = absurd (rw h.0 at over)
asks_none turns.Word s h over = absurd (rw h.0 at over)
asks_none turns.Fill s h over = refl
asks_none turns.Gap s h over = refl
asks_none turns.Chunk s h over = absurd (rw h.0 at over)
asks_none turns.End s h over = refl
asks_none turns.Over s h over = refl

-- ---- refusals within a chunk

pub cut_of : (f : SparseFault) (P : Type 0) → P → UnlessCut f P
cut_of (faults.Truncated at) P h = tt
cut_of (faults.Read d) P h = tt
cut_of (faults.Write d) P h = tt
cut_of f P h = h

pub cut_map : (f : SparseFault) (P Q : Type 0) → (P → Q) → UnlessCut f P → UnlessCut f Q
cut_map (faults.Truncated at) P Q g h = tt
cut_map (faults.Read d) P Q g h = tt
cut_map (faults.Write d) P Q g h = tt
cut_map f P Q g h = g h

-- ---- how much is read

pub some_of : (n a b : ℕ) → 0 < n → (if n == 0 then a else b) ≡ b
some_of n a b lt = let e : (n == 0) ≡ false = ne_eqb _ _ (λ q. absurd (omega (arith, q))) in
    ap (λ (v : Bool). if v then a else b) e

pub none_of : (n a b : ℕ) → n ≡ 0 → (if n == 0 then a else b) ≡ a
none_of n a b q = let e : (n == 0) ≡ true = eq-eqb _ _ q in ap (λ (v : Bool). if v then a else b) e

data_word : (k : ChunkKind) (due : Bool) (raw words head : ℕ) → due_of k ≡ true → due ≡ true
    → data_wanted k due raw words head ≡ 4
data_word kinds.Raw due raw words head d e = absurd cc
data_word kinds.Fill due raw words head d e = rw e refl
data_word kinds.Skip due raw words head d e = absurd cc
data_word kinds.Crc due raw words head d e = rw e refl

data_spent : (k : ChunkKind) (due : Bool) (raw words head : ℕ) → SpentBy k due raw words
    → data_wanted k due raw words head ≡ head
data_spent kinds.Raw due raw words head e = none_of raw head raw e
data_spent kinds.Fill due raw words head e = rw e.0 (none_of words head 0 e.1)
data_spent kinds.Skip due raw words head e = none_of words head 0 e
data_spent kinds.Crc due raw words head e = rw e refl

body_wanted : (s : Walk) → s.phase ≡ phases.Body → s.extra ≡ 0
    → wanted s ≡ data_wanted s.kind s.due s.raw s.words (head_wanted s)
body_wanted s p e = ap (λ (q : Phase). wanted_in q s) p
    ∙ none_of s.extra (data_wanted s.kind s.due s.raw s.words (head_wanted s)) s.extra e

extra_wanted : (s : Walk) → s.phase ≡ phases.Body → 0 < s.extra → wanted s ≡ s.extra
extra_wanted s p e = ap (λ (q : Phase). wanted_in q s) p
    ∙ some_of s.extra (data_wanted s.kind s.due s.raw s.words (head_wanted s)) s.extra e

raw_wanted : (k : ChunkKind) (due : Bool) (raw words head : ℕ) → k ≡ kinds.Raw → 0 < raw
    → data_wanted k due raw words head ≡ raw
raw_wanted k due raw words head e lt = ap (λ (j : ChunkKind). data_wanted j due raw words head) e
    ∙ some_of raw head raw lt

pub more_heads : (s : Walk) → s.index < s.header.total_chunks → head_wanted s ≡ 12
more_heads s lt = ap (λ (v : Bool). if v then 12 else 0) (lt-ltb _ _ lt)

pub no_heads : (s : Walk) → s.header.total_chunks ≤ s.index → head_wanted s ≡ 0
no_heads s le = ap (λ (v : Bool). if v then 12 else 0) (le-ltb _ _ le)

pub asked_wanted : (turn : Turn) (s : Walk) → AtTurn turn s → ask_of turn s ≤ wanted s
asked_wanted turns.Header s h = let e : wanted s ≡ 28 = ap (λ (q : Phase). wanted_in q s) h in omega (arith, e)
asked_wanted turns.Extra s h = omega (arith, extra_wanted s h.0 h.1)
asked_wanted turns.Raw s h = let e : wanted s ≡ s.raw =
    body_wanted s h.0 h.1 ∙ raw_wanted s.kind s.due s.raw s.words (head_wanted s) h.2 h.3 in omega (arith, e)
asked_wanted turns.Word s h = let e : wanted s ≡ 4 =
    body_wanted s h.0 h.1 ∙ data_word s.kind s.due s.raw s.words (head_wanted s) h.2 h.3 in omega (arith, e)
asked_wanted turns.Fill s h = omega arith
asked_wanted turns.Gap s h = omega arith
asked_wanted turns.Chunk s h = let e : wanted s ≡ 12 =
    body_wanted s h.0 h.1 ∙ data_spent s.kind s.due s.raw s.words (head_wanted s) h.2 ∙ more_heads s h.3 in
    omega (arith, e)
asked_wanted turns.End s h = omega arith
asked_wanted turns.Over s h = omega arith

both_left : (a b : Bool) → (a && b) ≡ true → a ≡ true
both_left true b e = refl
both_left false b e = e

both_right : (a b : Bool) → (a && b) ≡ true → b ≡ true
both_right true b e = e
both_right false b e = absurd cc

spent_by : (k : ChunkKind) (due : Bool) (raw words : ℕ) → is_spent k due raw words ≡ true → SpentBy k due raw words
spent_by kinds.Raw due raw words e = eqb-true _ _ e
spent_by kinds.Fill true raw words e = absurd cc
spent_by kinds.Fill false raw words e = (refl, eqb-true _ _ e)
spent_by kinds.Skip due raw words e = eqb-true _ _ e
spent_by kinds.Crc true raw words e = absurd cc
spent_by kinds.Crc false raw words e = refl

at_most_head : (s : Walk) → head_wanted s ≤ 12
at_most_head s = elim (cases_Bool (nat_lt s.index s.header.total_chunks)) [
  | inl e ↦ let q : head_wanted s ≡ 12 = ap (λ (v : Bool). if v then 12 else 0) e in omega (arith, q)
  | inr e ↦ let q : head_wanted s ≡ 0 = ap (λ (v : Bool). if v then 12 else 0) e in omega (arith, q)
]

-- after a whole chunk no more than the next one's header
pub wanted_between : (s : Walk) → s.phase ≡ phases.Body → at_end s ≡ true → wanted s ≤ 12
wanted_between s p e =
    let x : s.extra ≡ 0 = eqb-true _ _ (both_left (s.extra == 0) (is_spent s.kind s.due s.raw s.words) e) in
    let q : wanted s ≡ head_wanted s =
    body_wanted s p x ∙ data_spent s.kind s.due s.raw s.words (head_wanted s)
    (spent_by s.kind s.due s.raw s.words (both_right (s.extra == 0) (is_spent s.kind s.due s.raw s.words) e)) in
    omega (arith, q, at_most_head s)

-- a listing that is refused between two chunks, for what the next one says
pub bounded_next : (f : SparseFault) (p : Phase) (s : Walk) (a b : ℕ) → s.phase ≡ p → is_between p s ≡ true
    → (s.phase ≡ phases.Body → UnlessCut f (at_end s ≡ true)) → (IsWalkOver p → b ≡ a) → b - a ≤ wanted s
    → UnlessCut f (b ≤ a + 12)
bounded_next f phases.Header s a b q between refuse over more = absurd cc
bounded_next f phases.Body s a b q between refuse over more =
    cut_map f (at_end s ≡ true) (b ≤ a + 12) (λ e. let w = wanted_between s q e in omega (arith, more, w)) (refuse q)
bounded_next f phases.Done s a b q between refuse over more = cut_of f (b ≤ a + 12) (omega (arith, over tt))
bounded_next f (phases.Failed g) s a b q between refuse over more = cut_of f (b ≤ a + 12) (omega (arith, over tt))
