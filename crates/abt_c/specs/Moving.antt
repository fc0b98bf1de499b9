-- What a call did with its input, and that reading ends, in the numbers of a state.
use Rattle.std.specs.Prelude.{◌≡◌, ℕ, ◌+◌, ◌-◌, ◌*◌, ◌^◌, ◌<◌, ◌≤◌, Bool, true, if◌then◌else◌, ◌==◌, ◌&&◌, min}
use Rattle.abt_chunks.specs.ListingAhead.{is_spent}
use Rattle.abt_c.specs.declared.state.AbtPart.{AbtPart}
use Rattle.abt_c.specs.declared.state.AbtSparse.{AbtSparse}
use Rattle.abt_c.specs.Standing.{state_kind}

-- nothing is left of the chunk whose header was read last
abbrev pub chunk_ended : AbtSparse → Bool
chunk_ended s = (s.extra == 0) && is_spent (state_kind s) (s.due == 1) s.raw s.words

-- how much is left to do: bytes and words of a chunk, and 2 ^ 68, more than any chunk takes, for each to come
abbrev pub left_to_do : AbtSparse → ℕ
left_to_do s =
    if s.phase == 0 then 2 ^ 102
    else if s.phase == 1 then 1 + (s.extra + s.raw + s.words + (if s.due == 1 then 1 else 0))
    + (s.total_chunks - s.index) * 2 ^ 68
    else 0

-- What a result leaves. After each part but the end and a fault less is left to do, so one of these comes. Both are
-- kept, to be returned again.
pub record Nears (o : AbtPart) (s s' : AbtSparse) : Type 0 where
  pub falls : 1 ≤ o.kind → o.kind ≤ 4 → left_to_do s' < left_to_do s
  pub end : o.kind ≡ 5 → s'.phase ≡ 2
  pub fault : o.kind ≡ 6 → (s'.phase ≡ 3) × (s'.fault ≡ o.fault) × (s'.detail ≡ o.detail)

-- What a call that was given n bytes made of them. Raw bytes are all that came of those that are left; a header or a
-- word used one at least; a fill and a gap come whole. These use none, nor does the end.
pub record Moves (o : AbtPart) (s s' : AbtSparse) (n : ℕ) : Type 0 where
  pub raw : o.kind ≡ 1 → (0 < o.used) × (o.used ≡ min s.raw n)
  pub fill : o.kind ≡ 2 → (o.used ≡ 0) × (chunk_ended s' ≡ true)
  pub skip : o.kind ≡ 3 → (o.used ≡ 0) × (chunk_ended s' ≡ true)
  pub nothing : o.kind ≡ 4 → 0 < o.used
  pub end : o.kind ≡ 5 → o.used ≡ 0
  pub nears : Nears o s s'
