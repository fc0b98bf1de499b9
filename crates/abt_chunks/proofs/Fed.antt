-- What a walk that is fed in pieces takes whole.
use Rattle.std.proofs.Common.{◌≡◌, ℕ, ◌<◌, ◌∙◌, Bool, true, false, refl, ap}
use Rattle.abt_sparse.specs.declared.kind.ChunkKind.{ChunkKind}
use Rattle.abt_sparse.specs.declared.kind.ChunkKind.TheVariants as kinds
use Rattle.abt_chunks.specs.declared.walk.Phase.{Phase}
use Rattle.abt_chunks.specs.declared.walk.Phase.TheVariants as phases
use Rattle.abt_chunks.specs.declared.walk.Walk.{Walk}
use Rattle.abt_chunks.specs.declared.walk.Turn.{Turn}
use Rattle.abt_chunks.specs.declared.walk.Turn.TheVariants as turns
use Rattle.abt_chunks.specs.Ahead.{due_of}
use Rattle.abt_chunks.specs.Cause.{head_wanted}
use Rattle.abt_chunks.specs.Feeding.{whole_in, whole_in_data, whole_next, whole_of}
use Rattle.abt_chunks.specs.Turns.{AtTurn, IsWalkOver, SpentBy}
use Rattle.abt_chunks.proofs.Causes.{none_of, some_of, more_heads, no_heads}

word_whole : (k : ChunkKind) (due : Bool) (raw words head : ℕ) → due_of k ≡ true → due ≡ true → whole_in_data k due raw
    words head ≡ 4
word_whole kinds.Raw due raw words head d e = absurd cc
word_whole kinds.Fill due raw words head d e = rw e refl
word_whole kinds.Skip due raw words head d e = absurd cc
word_whole kinds.Crc due raw words head d e = rw e refl

spent_whole : (k : ChunkKind) (due : Bool) (raw words head : ℕ) → SpentBy k due raw words → whole_in_data k due raw
    words head ≡ head
spent_whole kinds.Raw due raw words head e = none_of raw head 0 e
spent_whole kinds.Fill due raw words head e = rw e.0 (none_of words head 0 e.1)
spent_whole kinds.Skip due raw words head e = none_of words head 0 e
spent_whole kinds.Crc due raw words head e = rw e refl

raw_whole : (k : ChunkKind) (due : Bool) (raw words head : ℕ) → k ≡ kinds.Raw → 0 < raw → whole_in_data k due raw words
    head ≡ 0
raw_whole k due raw words head e lt = ap (λ (j : ChunkKind). whole_in_data j due raw words head) e
    ∙ some_of raw head 0 lt

fill_whole : (k : ChunkKind) (due : Bool) (raw words head : ℕ) → k ≡ kinds.Fill → due ≡ false → 0 < words →
    whole_in_data k due raw words head ≡ 0
fill_whole k due raw words head e d lt = rw (e, d) (some_of words head 0 lt)

gap_whole : (k : ChunkKind) (due : Bool) (raw words head : ℕ) → k ≡ kinds.Skip → 0 < words → whole_in_data k due raw
    words head ≡ 0
gap_whole k due raw words head e lt = rw e (some_of words head 0 lt)

in_body : (s : Walk) → s.phase ≡ phases.Body → s.extra ≡ 0 → whole_next s ≡ whole_in_data s.kind s.due s.raw s.words
    (head_wanted s)
in_body s p e = ap (λ (q : Phase). whole_in q s) p ∙ none_of s.extra (whole_in_data s.kind s.due s.raw s.words
    (head_wanted s)) 0 e

when_over : (p : Phase) (s : Walk) → IsWalkOver p → whole_in p s ≡ 0
when_over phases.Header s o = absurd o
when_over phases.Body s o = absurd o
when_over phases.Done s o = refl
when_over (phases.Failed f) s o = refl

pub whole_at : (turn : Turn) (s : Walk) → AtTurn turn s → whole_next s ≡ whole_of turn
whole_at turns.Header s h = ap (λ (q : Phase). whole_in q s) h
whole_at turns.Extra s h = ap (λ (q : Phase). whole_in q s) h.0
    ∙ some_of s.extra (whole_in_data s.kind s.due s.raw s.words (head_wanted s)) 0 h.1
whole_at turns.Raw s h = in_body s h.0 h.1 ∙ raw_whole s.kind s.due s.raw s.words (head_wanted s) h.2 h.3
whole_at turns.Word s h = in_body s h.0 h.1 ∙ word_whole s.kind s.due s.raw s.words (head_wanted s) h.2 h.3
whole_at turns.Fill s h = in_body s h.0 h.1 ∙ fill_whole s.kind s.due s.raw s.words (head_wanted s) h.2 h.3 h.4
whole_at turns.Gap s h = in_body s h.0 h.1 ∙ gap_whole s.kind s.due s.raw s.words (head_wanted s) h.2 h.3
whole_at turns.Chunk s h = in_body s h.0 h.1 ∙ spent_whole s.kind s.due s.raw s.words (head_wanted s) h.2
    ∙ more_heads s h.3
whole_at turns.End s h = in_body s h.0 h.1 ∙ spent_whole s.kind s.due s.raw s.words (head_wanted s) h.2 ∙ no_heads s h.3
whole_at turns.Over s h = when_over s.phase s h
