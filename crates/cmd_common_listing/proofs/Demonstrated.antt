-- What the built-in image gives, and the line that shows it.
use Rattle.std.proofs.Common.{◌≡◌, ℕ, ◌<◌, Option, List, [], ◌∷◌, ◌++◌, Result, Ok, Err, length, take, drop, min, codes}
use Rattle.std.proofs.Common.{refl, sym, ap, subst, ◌∙◌, arith, take_all}
use Rattle.hex.specs.Hex.{encode_lower, encode_with}
use Rattle.abt_sparse.specs.declared.fault.SparseFault.{SparseFault}
use Rattle.abt_sparse.specs.declared.fault.SparseFault.TheVariants as faults
use Rattle.abt_sparse.specs.Block.{expansion}
use Rattle.abt_sparse.specs.Chunk.{Header, Chunk, Raws, Fills, Skips, classed}
use Rattle.abt_sparse.specs.Fails.{Fails}
use Rattle.abt_sparse.specs.Reading.{Outcome, Image, Fault, outcome, body_at, chunks_at, chunk_at, checked_header}
use Rattle.abt_sparse.specs.Reading.{header_at}
use Rattle.abt_chunks.specs.declared.progress.Expanded.{Expanded}
use Rattle.abt_sparse.proofs.Exactly.{failed_is, spelled_is}
use Rattle.abt_chunks.specs.Expanding.{ExpandingRises}
use Rattle.abt_chunks.specs.Whole.{Expands, Expansion}
use Rattle.cmd_common_listing.specs.Demo.{demo_bytes, demo_image, demo_line}

demo_header : Header
demo_header = record {
  minor = 0;
  file_hdr_sz = 28;
  chunk_hdr_sz = 12;
  blk_sz = 4;
  total_blks = 3;
  total_chunks = 3;
  image_checksum = 0;
}

demo_chunks : List Chunk
demo_chunks = Raws (codes "ABCD" ∷ []) ∷ Fills (4 ∷ 3 ∷ 2 ∷ 1 ∷ []) 1 ∷ Skips 1 ∷ []

is_image : outcome demo_image ≡ Image demo_header demo_chunks []
unfolding outcome body_at chunks_at chunk_at checked_header header_at demo_header demo_chunks
is_image = refl

-- what an image gives
given_by : Outcome → List ℕ
given_by (Image h cs rest) = expansion h.blk_sz (classed cs)
given_by (Fault f given) = []

IsAnImage : Outcome → Type 0
IsAnImage (Image h cs rest) = Unit {0}
IsAnImage (Fault f given) = ⊥

gives_bytes : given_by (outcome demo_image) ≡ demo_bytes
unfolding outcome body_at chunks_at chunk_at checked_header header_at given_by
gives_bytes = refl

is_an_image : IsAnImage (outcome demo_image)
unfolding outcome body_at chunks_at chunk_at checked_header header_at IsAnImage
is_an_image = tt

no_fault : (f : SparseFault) (given : List (Option ℕ)) → Fails demo_image f given → ⊥
unfolding IsAnImage
no_fault f given p = subst IsAnImage (failed_is demo_image f given p) is_an_image

given_whole : (e : Expanded) (new rest : List ℕ) → Expansion e [] new demo_image rest → new ≡ demo_bytes
unfolding given_by
given_whole e new rest p = p.written ∙ sym (ap given_by (spelled_is demo_image p.header p.chunks rest p.spelled))
    ∙ gives_bytes

-- devices that never fail leave no refusal of an image
given : (a : Result Expanded SparseFault) (new rest : List ℕ)
    → Expands a [] new demo_image rest → ExpandingRises a 0 0 0 0 → new ≡ demo_bytes
given (Ok e) new rest p r = given_whole e new rest p
given (Err (faults.Read d)) new rest p r = absurd (let q : 0 < 0 = r in omega arith)
given (Err (faults.Write d)) new rest p r = absurd (let q : 0 < 0 = r in omega arith)
given (Err faults.Magic) new rest p r = absurd (no_fault _ p.given p.fails)
given (Err (faults.Major n)) new rest p r = absurd (no_fault _ p.given p.fails)
given (Err (faults.FileHeaderSize n)) new rest p r = absurd (no_fault _ p.given p.fails)
given (Err (faults.ChunkHeaderSize n)) new rest p r = absurd (no_fault _ p.given p.fails)
given (Err (faults.BlockSize n)) new rest p r = absurd (no_fault _ p.given p.fails)
given (Err (faults.ChunkType c k)) new rest p r = absurd (no_fault _ p.given p.fails)
given (Err (faults.ChunkLength c)) new rest p r = absurd (no_fault _ p.given p.fails)
given (Err (faults.TooManyBlocks c)) new rest p r = absurd (no_fault _ p.given p.fails)
given (Err (faults.TooFewBlocks n)) new rest p r = absurd (no_fault _ p.given p.fails)
given (Err (faults.Truncated n)) new rest p r = absurd (no_fault _ p.given p.fails)

-- the same, behind nothing, of an input that is the image
pub image_gives : (a : Result Expanded SparseFault) (old input rest new : List ℕ) → old ≡ [] → input ≡ demo_image
    → Expands a old new input rest → ExpandingRises a 0 0 0 0 → new ≡ demo_bytes
image_gives a old input rest new none same p r =
    let q = subst (λ (l : List ℕ). Expands a l new input rest) none p in
    given a new rest (subst (λ (l : List ℕ). Expands a [] new l rest) same q) r

pub from_front : (k : ℕ) (bytes image : List ℕ) → k ≡ 0 → bytes ≡ image → drop k bytes ≡ image
from_front k bytes image none same = ap (λ (n : ℕ). drop n bytes) none ∙ same

-- what is kept of twelve bytes is all of them
pub kept_is : (bytes tape : List ℕ) (used : ℕ) → length bytes ≡ 12 → used ≡ min 12 (length tape)
    → take used bytes ≡ take used tape → tape ≡ demo_bytes → bytes ≡ demo_bytes
kept_is bytes tape used long count kept e =
    let twelve : used ≡ 12 = count ∙ ap (λ (l : List ℕ). min 12 (length l)) e in
    sym (take_all 12 bytes (omega arith)) ∙ ap (λ (n : ℕ). take n bytes) (sym twelve) ∙ kept
    ∙ ap (λ (n : ℕ). take n tape) twelve ∙ ap (take 12) e

pub line_is : (bytes line : List ℕ) → line ≡ codes "expand " ++ (encode_lower bytes ++ codes "\n")
    → bytes ≡ demo_bytes → line ≡ demo_line
unfolding encode_with
line_is bytes line e b =
    let computed : codes "expand " ++ (encode_lower demo_bytes ++ codes "\n") ≡ demo_line = refl in
    e ∙ ap (λ (l : List ℕ). codes "expand " ++ (encode_lower l ++ codes "\n")) b ∙ computed
