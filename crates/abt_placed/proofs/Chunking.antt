-- A chunk that has ended, as the first of those that are left.
use Rattle.std.proofs.Common.{inl, inr, ◌⊎◌, ◌≡◌, ℕ, suc, ◌+◌, ◌-◌, ◌*◌, ◌<◌, ◌≤◌, min, true, false, List, [], ◌∷◌}
use Rattle.std.proofs.Common.{◌++◌, length, take, drop, refl, sym, ap, ◌∙◌, arith, append_assoc, length-append}
use Rattle.std.specs.List.{AllByRecursion}
use Rattle.abt_sparse.specs.Block.{Block, Raw, Fill, Skip, AreBlocks}
use Rattle.abt_sparse.specs.Chunk.{chunks_of}
use Rattle.abt_runs.specs.Part.{AllOf, IsRaw, raw_of, is_end}
use Rattle.abt_runs.proofs.Alike.{Ended, runs_apart}
use Rattle.abt_runs.specs.declared.part.RunKind.{RunKind}
use Rattle.abt_runs.specs.declared.part.RunKind.TheVariants as kinds
use Rattle.abt_pieces.specs.Write.{front_bytes, chunk_len}
use Rattle.abt_sparsify.specs.Sparsify.{chunks_in, bytes_of, cut_bytes}
use Rattle.abt_pieces.proofs.Writing.{run_data}
use Rattle.abt_sparsify.proofs.Sparsing.{no_cut, one_cut, first_cut, cut_next}

-- the leading raw blocks, and the others
pub record RawFront (l : List Block) : Type 0 where
  pub front : List Block
  pub rest : List Block
  pub whole : l ≡ front ++ rest
  pub raws : AllByRecursion IsRaw front
  pub ended : Ended kinds.Raw rest

raw_front : (l : List Block) → RawFront l
raw_front [] = record { front = []; rest = []; whole = refl; raws = tt; ended = tt }
raw_front (Raw x ∷ l) = let r = raw_front l in
    record {
      front = Raw x ∷ r.front;
      rest = r.rest;
      whole = ap (λ (y : List Block). Raw x ∷ y) r.whole;
      raws = (tt, r.raws);
      ended = r.ended;
    }
raw_front (Fill w ∷ l) = record { front = []; rest = Fill w ∷ l; whole = refl; raws = tt; ended = refl }
raw_front (Skip ∷ l) = record { front = []; rest = Skip ∷ l; whole = refl; raws = tt; ended = refl }

raws_both : (xs ys : List Block) → AllByRecursion IsRaw xs → AllByRecursion IsRaw ys → AllByRecursion IsRaw (xs ++ ys)
raws_both [] ys h k = k
raws_both (x ∷ xs) ys h k = (h.0, raws_both xs ys h.1 k)

blocks_front : (b : ℕ) (xs ys : List Block) → AreBlocks b (xs ++ ys) → AreBlocks b xs
blocks_front b [] ys h = tt
blocks_front b (x ∷ xs) ys h = (h.0, blocks_front b xs ys h.1)

blocks_back : (b : ℕ) (xs ys : List Block) → AreBlocks b (xs ++ ys) → AreBlocks b ys
blocks_back b [] ys h = h
blocks_back b (x ∷ xs) ys h = blocks_back b xs ys h.1

-- a chunk of q blocks is first
pub record OneChunk (b r : ℕ) (k : RunKind) (g rest whole : List Block) : Type 0 where
  pub bytes : bytes_of r whole ≡ front_bytes k (length g) (chunk_len k (length g) b)
      ++ (run_data k g ++ bytes_of r rest)
  pub count : length (chunks_of r whole) ≡ suc (length (chunks_of r rest))

-- the chunks of the leading raw blocks, and of the others
pub record RawCut (r : ℕ) (g rest : List Block) : Type 0 where
  pub bytes : bytes_of r (g ++ rest) ≡ cut_bytes r g ++ bytes_of r rest
  pub count : length (chunks_of r (g ++ rest)) ≡ chunks_in kinds.Raw (length g) r + length (chunks_of r rest)

raw_cut : (b r : ℕ) (g rest : List Block) → 0 < r → AllByRecursion IsRaw g → AreBlocks b g → Ended kinds.Raw rest
    → RawCut r g rest
raw_cut b r [] rest some raws good e = let z = no_cut r some in record { bytes = refl; count = rw z (omega arith) }
raw_cut b r (x ∷ g) rest some raws good e =
    let c = first_cut b r kinds.Raw (x ∷ g) rest ((x ∷ g) ++ rest)
    (runs_apart kinds.Raw (x ∷ g) rest raws (omega arith) e) some raws (omega arith) good in
    record { bytes = c.bytes; count = c.count }

append_three : (g h t : List Block) → g ++ (h ++ t) ≡ (g ++ h) ++ t
append_three g h t = sym (append_assoc g h t)

drop_front : (g h : List Block) → drop (length g) (g ++ h) ≡ h
drop_front [] h = refl
drop_front (x ∷ g) h = drop_front g h

take_front : (g h : List Block) → take (length g) (g ++ h) ≡ g
take_front [] h = refl
take_front (x ∷ g) h = ap (λ (l : List Block). x ∷ l) (take_front g h)

-- where the rest begins with no raw block, there is no leading one
no_more : (rest h t : List Block) → Ended kinds.Raw rest → rest ≡ h ++ t → AllByRecursion IsRaw h → length h ≡ 0
no_more rest [] t e whole raws = refl
no_more rest (Raw x ∷ h) t e whole raws = let f : Ended kinds.Raw (Raw x ∷ (h ++ t)) = rw whole at e in
    absurd (let z : true ≡ false = f in cc)
no_more rest (Fill w ∷ h) t e whole raws = absurd raws.0
no_more rest (Skip ∷ h) t e whole raws = absurd raws.0

-- raw blocks that fill a chunk, or all adjacent ones
pub raw_chunk_first : (b r : ℕ) (g rest : List Block) → 0 < r → 0 < length g → length g ≤ r → AllByRecursion IsRaw g
    → AreBlocks b (g ++ rest) → (Ended kinds.Raw rest) ⊎ (length g ≡ r) → OneChunk b r kinds.Raw g rest (g ++ rest)
raw_chunk_first b r g rest some more few raws good how =
    let f = raw_front rest in
    let h = f.front in
    let t = f.rest in
    let gh = g ++ h in
    let n : length gh ≡ length g + length h = length-append g h in
    let all : AllByRecursion IsRaw gh = raws_both g h raws f.raws in
    let whole : g ++ rest ≡ gh ++ t = ap (λ (l : List Block). g ++ l) f.whole ∙ append_three g h t in
    let fine : AreBlocks b (gh ++ t) = rw whole at good in
    let goodgh : AreBlocks b gh = blocks_front b gh t fine in
    let goodh : AreBlocks b h = blocks_back b g h goodgh in
    let q : length g ≡ min (length gh) r = elim how [
      | inl e ↦ let z = no_more rest h t e f.whole f.raws in omega (arith, n, z, few)
      | inr e ↦ omega (arith, n, e)
    ] in
    let c = raw_cut b r gh t some all goodgh f.ended in
    let d = raw_cut b r h t some f.raws goodh f.ended in
    let x = cut_next b r gh (length g) some (omega (arith, n, more)) q all goodgh in
    let ys : run_data kinds.Raw g ≡ raw_of (take (length g) gh) = sym (ap raw_of (take_front g h)) in
    let zs : cut_bytes r (drop (length g) gh) ≡ cut_bytes r h = ap (cut_bytes r) (drop_front g h) in
    let front = front_bytes kinds.Raw (length g) (12 + length g * b) in
    let back : bytes_of r rest ≡ cut_bytes r h ++ bytes_of r t = ap (bytes_of r) f.whole ∙ d.bytes in
    let o : chunks_in kinds.Raw (length gh) r ≡ suc (chunks_in kinds.Raw (length h) r) =
    one_cut (length gh) r some (omega (arith, n, more))
    ∙ ap (λ (m : ℕ). suc (chunks_in kinds.Raw m r)) (let z : length gh - min (length gh) r ≡ length h = omega
    (arith, n, q) in z) in
    let cr : length (chunks_of r rest) ≡ chunks_in kinds.Raw (length h) r + length (chunks_of r t) =
    ap (λ (l : List Block). length (chunks_of r l)) f.whole ∙ d.count in
    record {
      bytes = ap (bytes_of r) whole ∙ c.bytes ∙ ap (λ (l : List ℕ). l ++ bytes_of r t) (x.bytes
          ∙ ap (λ (l : List ℕ). front ++ (l ++ cut_bytes r (drop (length g) gh))) (sym ys)
          ∙ ap (λ (l : List ℕ). front ++ (raw_of g ++ l)) zs)
          ∙ append_assoc front (raw_of g ++ cut_bytes r h) (bytes_of r t)
          ∙ ap (λ (l : List ℕ). front ++ l) (append_assoc (raw_of g) (cut_bytes r h) (bytes_of r t)
          ∙ ap (λ (l : List ℕ). raw_of g ++ l) (sym back));
      count = ap (λ (l : List Block). length (chunks_of r l)) whole ∙ c.count
          ∙ (let z : chunks_in kinds.Raw (length gh) r + length (chunks_of r t) ≡ suc
          (length (chunks_of r rest)) = omega (arith, o, cr) in z);
    }

-- any chunk that has ended
pub chunk_first : (b r : ℕ) (k : RunKind) (g rest : List Block) → 0 < r → 0 < length g
    → (k ≡ kinds.Raw → length g ≤ r) → is_end k ≡ false → AllOf k g → AreBlocks b (g ++ rest) → (Ended k rest)
    ⊎ ((k ≡ kinds.Raw) × (length g ≡ r))
    → OneChunk b r k g rest (g ++ rest)
chunk_first b r kinds.Raw g rest some more few on all good how =
    raw_chunk_first b r g rest some more (few refl) all good (elim how [ inl e ↦ inl e | inr e ↦ inr e.1 ])
chunk_first b r (kinds.Fill w) g rest some more few on all good (inr e) =
    absurd (let z : kinds.Fill w ≡ kinds.Raw = e.0 in cc)
chunk_first b r (kinds.Fill w) g rest some more few on all good (inl e) =
    let c = first_cut b r (kinds.Fill w) g rest (g ++ rest) (runs_apart (kinds.Fill w) g rest all more e) some all
    more (blocks_front b g rest good) in
    record {
      bytes = c.bytes;
      count = c.count
          ∙ (let z : 1 + length (chunks_of r rest) ≡ suc (length (chunks_of r rest)) = omega arith in z);
    }
chunk_first b r kinds.Skip g rest some more few on all good (inr e) = absurd (let z : kinds.Skip ≡ kinds.Raw = e.0 in
    cc)
chunk_first b r kinds.Skip g rest some more few on all good (inl e) =
    let c = first_cut b r kinds.Skip g rest (g ++ rest) (runs_apart kinds.Skip g rest all more e) some all more
    (blocks_front b g rest good) in
    record {
      bytes = c.bytes;
      count = c.count
          ∙ (let z : 1 + length (chunks_of r rest) ≡ suc (length (chunks_of r rest)) = omega arith in z);
    }
chunk_first b r kinds.End g rest some more few on all good how = absurd cc
