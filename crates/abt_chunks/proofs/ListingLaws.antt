-- What a listing is, apart from how it is found.
use Rattle.std.proofs.Common.{◌≡◌, ℕ, suc, ◌+◌, ◌<◌, ◌≤◌, List, [], ◌∷◌, ◌++◌, length, Some, Result, Ok, Err, true}
use Rattle.std.proofs.Common.{false, refl, ap, ◌∙◌, append-nil, arith, length-append, nat_lt, lt-ltb, le-ltb}
use Rattle.abt_sparse.specs.declared.fault.SparseFault.{SparseFault}
use Rattle.abt_sparse.specs.declared.fault.SparseFault.TheVariants.{TooFewBlocks, Truncated}
use Rattle.abt_sparse.specs.Chunk.{Header, IsHeader, header_record, Chunk, count, SpellsChunks}
use Rattle.abt_sparse.specs.Reading.{checked_header}
use Rattle.abt_sparse.specs.Fails.{ChunkFails, Front, HeaderFails, Spells, SpellsHeader, counted_in}
use Rattle.abt_sparse.proofs.Exactly.{behind_header}
use Rattle.abt_sparse.proofs.Fields.{checked-again}
use Rattle.abt_sparse.proofs.ChunkLaws.{spells_got}
use Rattle.abt_sparse.proofs.Failing.{header_failed, chunk_failed}
use Rattle.abt_chunks.specs.Listing.{Listing, ListingsAreRight, headless, info_of, infos, listing_from, listing_of}
use Rattle.abt_chunks.specs.ListingAhead.{shown_before}
use Rattle.abt_chunks.proofs.Listed.{header_cut, listing_got, listing_bad, listing_done, listing_few}

-- chunks that are encoded in a row are shown in a row
shown_chunks : (h : Header) (size : ℕ) (cs : List Chunk) (i have : ℕ) (y rest : List ℕ) → SpellsChunks h cs y rest
    → i + length cs ≤ h.total_chunks → have + counted_in cs ≤ h.total_blks
    → listing_from h size i have y ≡ shown_before (infos i cs)
    (listing_from h size (i + length cs) (have + counted_in cs) rest)
shown_chunks h size [] i have y rest s few room =
    let a : i + 0 ≡ i = omega arith in
    let b : have + 0 ≡ have = omega arith in
    rw (a, b, s) refl
shown_chunks h size (c ∷ cs) i have y rest s few room =
    let got = spells_got h size i have c s.0 s.1 s.2 (omega (arith, room)) in
    let a : (i + 1) + length cs ≡ i + suc (length cs) = omega arith in
    let b : (have + count c) + counted_in cs ≡ have + (count c + counted_in cs) = omega arith in
    rw s.3 (listing_got h size i have (s.0 ++ s.1) c (count c) s.1 (omega (arith, few)) got
    ∙ ap (λ (l : Listing). shown_before (info_of i c ∷ []) l)
    (rw (a, b) at (shown_chunks h size cs (i + 1) (have + count c) s.1 rest s.4 (omega (arith, few))
    (omega (arith, room)))))

-- after a header that is encoded
pub listing_behind_header : (x : List ℕ) (h : Header) (after : List ℕ) → SpellsHeader x h after
    → listing_of x ≡ listing_from h (length x) 0 0 after
unfolding listing_of
listing_behind_header x h after s =
    let b = behind_header x h after s in
    let t : nat_lt (length x) 28 ≡ false = le-ltb _ _ b.0 in
    let u : nat_lt (length x) h.file_hdr_sz ≡ false = le-ltb _ _ b.2 in
    rw (t, b.1, u, b.3) refl

listing_of_front : (x : List ℕ) (h : Header) (cs : List Chunk) (y : List ℕ) → Front x h cs y
    → listing_of x ≡ shown_before (infos 0 cs) (listing_from h (length x) (length cs) (counted_in cs) y)
listing_of_front x h cs y f =
    let a : 0 + length cs ≡ length cs = omega arith in
    let b : 0 + counted_in cs ≡ counted_in cs = omega arith in
    listing_behind_header x h f.after f.header
    ∙ rw (a, b) at (shown_chunks h (length x) cs 0 0 f.after y f.chunks (omega (arith, f.within))
    (omega (arith, f.room)))

before_end : (l : Listing) (cs : List Chunk) (h : Header) (e : Result (List ℕ) SparseFault)
    → (let z : Listing = record { head = Some h; shown = []; ending = e } in l ≡ z)
    → (let z : Listing = record { head = Some h; shown = infos 0 cs; ending = e } in shown_before (infos 0 cs) l ≡ z)
before_end l cs h e q = rw (q, append-nil) refl

listed_image : (x : List ℕ) (h : Header) (cs : List Chunk) (rest : List ℕ) → Spells x h cs rest
    → listing_of x ≡ record { head = Some h; shown = infos 0 cs; ending = Ok rest }
listed_image x h cs rest s =
    listing_of_front x h cs rest s.front
    ∙ before_end _ cs h (Ok rest) (listing_done h (length x) (length cs) (counted_in cs) rest
    (omega (arith, s.whole)) s.full)

listed_bad_chunk : (x : List ℕ) (h : Header) (cs : List Chunk) (y : List ℕ) (f : SparseFault) (came : List ℕ)
    → Front x h cs y → length cs < h.total_chunks
    → ChunkFails h (length x) (length cs) (counted_in cs) y f came
    → listing_of x ≡ record { head = Some h; shown = infos 0 cs; ending = Err f }
listed_bad_chunk x h cs y f came front more fails =
    listing_of_front x h cs y front
    ∙ before_end _ cs h (Err f) (listing_bad h (length x) (length cs) (counted_in cs) y f came more
    (chunk_failed h (length x) (length cs) (counted_in cs) y f came fails))

listed_too_few : (x : List ℕ) (h : Header) (cs : List Chunk) (y : List ℕ) → Front x h cs y
    → length cs ≡ h.total_chunks → counted_in cs < h.total_blks
    → listing_of x ≡ record { head = Some h; shown = infos 0 cs; ending = Err (TooFewBlocks (counted_in cs)) }
listed_too_few x h cs y front all lt =
    listing_of_front x h cs y front
    ∙ before_end _ cs h (Err (TooFewBlocks (counted_in cs))) (listing_few h (length x) (length cs) (counted_in cs) y
    (omega (arith, all)) (λ e. omega (arith, e, lt)))

listed_bad_header : (x : List ℕ) (f : SparseFault) → 28 ≤ length x → HeaderFails x f → listing_of x ≡ headless f
unfolding listing_of
listed_bad_header x f long fails =
    let t : nat_lt (length x) 28 ≡ false = le-ltb _ _ long in
    let u : checked_header x ≡ Err f = header_failed x f fails in
    rw (t, u) refl

listed_cut_header : (x : List ℕ) (h : Header) (y : List ℕ) → IsHeader h → x ≡ header_record h ++ y
    → length x < h.file_hdr_sz → listing_of x ≡ headless (Truncated (length x))
unfolding listing_of
listed_cut_header x h y is e lt =
    let long : length x ≡ 28 + length y = ap length e ∙ length-append (header_record h) y in
    let good : checked_header x ≡ Ok h = ap checked_header e ∙ checked-again h y is in
    let t : nat_lt (length x) 28 ≡ false = le-ltb _ _ (omega (arith, long)) in
    let u : nat_lt (length x) h.file_hdr_sz ≡ true = lt-ltb _ _ lt in
    rw (t, good, u) refl

pub listings_right : ListingsAreRight
listings_right = record {
  image = listed_image;
  bad_chunk = listed_bad_chunk;
  too_few = listed_too_few;
  no_image = header_cut;
  bad_header = listed_bad_header;
  cut_header = listed_cut_header;
}
