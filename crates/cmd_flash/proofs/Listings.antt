-- A listing that was printed is that of an image, and one that was refused has its fault.
use Rattle.std.proofs.Common.{◌≡◌, ℕ, ◌<◌, List, [], ◌++◌, sym, ◌∙◌, ap, subst}
use Rattle.std.specs.Prelude.{Option, Some, Result, Ok, Err, OnOk, IfErr, unwrap_or, flat_map}
use Rattle.abt_io.specs.Bytes.{AreBytes}
use Rattle.abt_sparse.specs.declared.fault.SparseFault.{SparseFault}
use Rattle.abt_sparse.specs.Chunk.{Header, Chunk}
use Rattle.abt_sparse.specs.Fails.{Fails, IsOutcome, Spells, no_image, bad_header, cut_header, bad_chunk, too_few}
use Rattle.abt_sparse.specs.Reading.{Outcome, Image, Fault, outcome}
use Rattle.abt_sparse.proofs.Exactly.{is_so}
use Rattle.abt_chunks.specs.declared.progress.ChunkInfo.{ChunkInfo}
use Rattle.abt_chunks.specs.Listing.{infos, listing_of}
use Rattle.abt_chunks.specs.Expanding.{UnlessExpandingDevice}
use Rattle.abt_chunks.proofs.Finishing.{unless_map}
use Rattle.abt_chunks.proofs.ListingLaws.{listings_right}
use Rattle.cmd_common_listing.specs.Listed.{Listed, ReadTold, ListingRefuses, WriteTold, chunk_line, header_line}
use Rattle.cmd_flash.specs.Listing.{IsListed, IsUnlisted}
use Rattle.cmd_flash.proofs.Causes.{unlisted_for}

-- an image and its listing
pub record ListedAs (x rest : List ℕ) (header : Header) (shown : List ChunkInfo) : Type 0 where
  pub chunks : List Chunk
  pub spelled : Spells x header chunks rest
  pub infos : shown ≡ infos 0 chunks

abbrev fault_or : SparseFault → Result (List ℕ) SparseFault → SparseFault
fault_or d (Ok x) = d
fault_or d (Err f) = f

abbrev rest_or : Result (List ℕ) SparseFault → List ℕ
rest_or (Ok x) = x
rest_or (Err f) = []

abbrev IsOkay : Result (List ℕ) SparseFault → Type 0
IsOkay (Ok x) = Unit {0}
IsOkay (Err f) = ⊥

-- bytes with a fault have a listing that ends with it
fault_ends : (x : List ℕ) (f : SparseFault) (given : List (Option ℕ)) → Fails x f given → (listing_of x).ending ≡ Err f
fault_ends x _ _ (no_image short) = ap (λ l. l.ending) (listings_right.no_image x short)
fault_ends x _ _ (bad_header f long fails) = ap (λ l. l.ending) (listings_right.bad_header x f long fails)
fault_ends x _ _ (cut_header h y fits is short) = ap (λ l. l.ending) (listings_right.cut_header x h y fits is short)
fault_ends x _ _ (bad_chunk h cs y f came front few fails) =
    ap (λ l. l.ending) (listings_right.bad_chunk x h cs y f came front few fails)
fault_ends x _ _ (too_few h cs y front all short) = ap (λ l. l.ending) (listings_right.too_few x h cs y front all short)

image_in : (x rest : List ℕ) (header : Header) (shown : List ChunkInfo) (o : Outcome) → IsOutcome x o
    → listing_of x ≡ record { head = Some header; shown = shown; ending = Ok rest } → ListedAs x rest header shown
image_in x rest header shown (Image h cs left) is l =
    let own = listings_right.image x h cs left is in
    let same : h ≡ header = ap (λ k. unwrap_or k.head header) (sym own ∙ l) in
    let behind : left ≡ rest = ap (λ k. rest_or k.ending) (sym own ∙ l) in
    record {
      chunks = cs;
      spelled = subst (λ g. Spells x g cs rest) same (subst (λ y. Spells x h cs y) behind is);
      infos = sym (ap (λ k. k.shown) (sym own ∙ l));
    }
image_in x rest header shown (Fault f given) is l =
    absurd (subst IsOkay (sym (ap (λ k. k.ending) l) ∙ fault_ends x f given is) tt)

-- what was printed whole is an image
pub image_listed : (x rest : List ℕ) (header : Header) (shown : List ChunkInfo) → AreBytes x
    → listing_of x ≡ record { head = Some header; shown = shown; ending = Ok rest } → ListedAs x rest header shown
image_listed x rest header shown bytes l = image_in x rest header shown (outcome x) (is_so x bytes) l

fault_in : (x : List ℕ) (f : SparseFault) (o : Outcome) → IsOutcome x o → (listing_of x).ending ≡ Err f
    → (given : List (Option ℕ)) × Fails x f given
fault_in x f (Image h cs left) is ends =
    absurd (subst IsOkay (sym (ap (λ l. l.ending) (listings_right.image x h cs left is)) ∙ ends) tt)
fault_in x f (Fault g given) is ends =
    (given, subst (λ e. Fails x e given) (ap (fault_or g) (sym (fault_ends x g given is) ∙ ends)) is)

-- a fault that was told is the first of these bytes
pub fault_listed : (x : List ℕ) (f : SparseFault) → AreBytes x → (listing_of x).ending ≡ Err f
    → (given : List (Option ℕ)) × Fails x f given
fault_listed x f bytes ends = fault_in x f (outcome x) (is_so x bytes) ends

-- ---- what printing a listing says of the bytes

pub listed_whole : {X : Type 0} (r : Result X SparseFault) (x y : List ℕ) (P : List ℕ → Type 0) → AreBytes x
    → OnOk r (Listed x y P) → OnOk r (IsListed x P)
listed_whole (Ok u) x y P bytes l =
    let image = image_listed x y l.header l.chunks bytes l.image in
    record {
      header = l.header;
      chunks = image.chunks;
      rest = y;
      spelled = image.spelled;
      shown = subst (λ i. P (header_line l.header ++ flat_map chunk_line i)) image.infos l.holds;
    }
listed_whole (Err f) x y P bytes l = tt

pub unlisted : (r : Result (Unit {0}) SparseFault) (x : List ℕ) (n n' w w' : ℕ) (P : List ℕ → Type 0) → AreBytes x
    → IfErr r (λ f. UnlessExpandingDevice f (ListingRefuses (listing_of x) f P)) → ReadTold r n n'
    → IfErr r (λ f. WriteTold f w w')
    → IfErr r (λ f. IsUnlisted (n < n') (w < w') f x)
unlisted (Ok u) x n n' w w' P bytes h read write = tt
unlisted (Err f) x n n' w w' P bytes h read write =
    unlisted_for f n n' w w' x (unless_map f (ListingRefuses (listing_of x) f P) ((given : List (Option ℕ))
    × Fails x f given)
    (λ r. fault_listed x f bytes r.ending) h) read write

pub read_clean : (r : Result (Unit {0}) SparseFault) (n n' : ℕ) → ReadTold r n n' → OnOk r (n' ≡ n)
read_clean (Ok u) n n' told = told
read_clean (Err f) n n' told = tt
