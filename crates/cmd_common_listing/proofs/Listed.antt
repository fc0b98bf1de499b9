-- The lines of a listing, behind what was printed.
use Rattle.std.proofs.Common.{◌≡◌, ◌≤◌, ℕ, true, List, [], ◌∷◌, ◌++◌, Option, Result, Ok, Err, IfErr, IsNone, OnOk}
use Rattle.std.proofs.Common.{flat_map, refl, sym, ap, subst, ◌∙◌, arith, append-nil}
use Rattle.std.proofs.lemmas.Grind.{flat_map-append}
use Rattle.std.proofs.lemmas.List.{flat_map_more}
use Rattle.abt_sparse.specs.Chunk.{Header}
use Rattle.abt_sparse.specs.declared.fault.SparseFault.{SparseFault}
use Rattle.abt_sparse.specs.declared.fault.SparseFault.TheVariants as faults
use Rattle.abt_sparse.specs.View.{view}
use Rattle.abt_chunks.specs.declared.progress.ChunkInfo.{ChunkInfo}
use Rattle.abt_chunks.specs.declared.walk.Phase.TheVariants as phases
use Rattle.abt_chunks.specs.declared.walk.Walk.{Walk}
use Rattle.abt_chunks.specs.Cause.{Clean}
use Rattle.abt_chunks.specs.Expanding.{ExpandingRises, UnlessExpandingDevice}
use Rattle.abt_chunks.specs.Listing.{Listing, headless, listing_of}
use Rattle.abt_chunks.specs.ListingAhead.{at_end, shown_before, upcoming}
use Rattle.sys_text.specs.declared.text_output.Text.{Text}
use Rattle.abt_chunks.proofs.Finishing.{unless_map}
use Rattle.sys_text.specs.Shown.{text_in}
use Rattle.cmd_common_listing.specs.Listed.{Listed, ReadTold, ListingRefuses, chunk_line, head_text, header_line}
use Rattle.cmd_common_listing.specs.Listed.{listing_text}
use Rattle.sys_text.specs.Printed.{Prints, PrintsFront}
use Rattle.cmd_common_listing.proofs.Counting.{head_upcoming, shown_twice, with_ending}
use Rattle.sys_text.proofs.Printing.{both_printed, front_behind, printed_as, printed_none, text_whole}

module _ {O : Type 0} (written : O → List ℕ) (counts : O → ℕ) where
  pub listed_printed : {A E : Type 0} (s t u : Text O) (x y z : List ℕ) (w : Walk) (r : Result A E)
      → listing_of x ≡ upcoming w y → w.phase ≡ phases.Body → at_end w ≡ true
      → Prints written counts s t (header_line (view w.header))
      → OnOk r (((upcoming w y).ending ≡ Ok z) × Prints written counts t u (flat_map chunk_line (upcoming w y).shown))
      → OnOk r (Listed x z (Prints written counts s u))
  listed_printed s t u x y z w (Ok a) opened body ended header chunks = record {
    header = view w.header;
    chunks = (upcoming w y).shown;
    image = opened ∙ with_ending (upcoming w y) (view w.header) (Ok z) (head_upcoming w y body ended) chunks.0;
    holds = both_printed written counts s t u _ _ header chunks.1;
  }
  listed_printed s t u x y z w (Err e) opened body ended header chunks = tt

  -- the header's line, and a beginning of the chunks' lines
  pub listing_begun : (s t u : Text O) (x y : List ℕ) (w : Walk) → listing_of x ≡ upcoming w y → w.phase ≡ phases.Body
      → at_end w ≡ true
      → Prints written counts s t (header_line (view w.header))
      → PrintsFront written counts t u (flat_map chunk_line (upcoming w y).shown)
      → PrintsFront written counts s u (listing_text (listing_of x))
  listing_begun s t u x y w opened body ended header chunks =
      let text = ap (λ (h : Option Header). head_text h ++ flat_map chunk_line (upcoming w y).shown)
      (sym (head_upcoming w y body ended)) ∙ ap listing_text (sym opened) in
      subst (PrintsFront written counts s u) text (front_behind written counts s t u _ _ header chunks)

  -- the lines of the first chunks
  pub chunks_begun : (s t : Text O) (l : List ChunkInfo) (done rest : List ChunkInfo) → l ≡ done ++ rest
      → Prints written counts s t (flat_map chunk_line done) → PrintsFront written counts s t (flat_map chunk_line l)
  chunks_begun s t l done rest e p = record {
    done = flat_map chunk_line done;
    rest = flat_map chunk_line rest;
    whole = ap (flat_map chunk_line) e ∙ flat_map-append chunk_line done rest;
    prints = p;
  }

  -- one line more
  pub one_chunk_more : (s t u : Text O) (l before behind : Listing) (done : List ChunkInfo) (info : ChunkInfo)
      → l ≡ shown_before done before → before ≡ shown_before (info ∷ []) behind
      → Prints written counts s t (flat_map chunk_line done) → Prints written counts t u (chunk_line info)
      → (l ≡ shown_before (done ++ info ∷ []) behind)
      × Prints written counts s u (flat_map chunk_line (done ++ info ∷ []))
  one_chunk_more s t u l before behind done info so_far next printed this = (
    so_far ∙ ap (shown_before done) next ∙ shown_twice done (info ∷ []) behind,
    subst (λ (text : List ℕ). Prints written counts s u text) (flat_map_more chunk_line [] done info)
        (both_printed written counts s t u _ _ printed this),
  )

  pub nothing_begun : (s : Text O) (text : List ℕ) → PrintsFront written counts s s text
  nothing_begun s text = record {
    done = [];
    rest = text;
    whole = refl;
    prints = printed_none written counts s;
  }

  -- ---- an image that is refused

  -- its header
  pub header_refused : (s : Text O) (l : Listing) (f : SparseFault) → l ≡ headless f
      → ListingRefuses l f (Prints written counts s s)
  header_refused s l f e = record {
    ending = ap (λ (k : Listing). k.ending) e;
    holds = subst (λ (k : Listing). Prints written counts s s (listing_text k)) (sym e) (printed_none written counts s);
  }

  -- what is still to come, behind the lines of the chunks before it
  pub chunks_refused : (s t : Text O) (f : SparseFault) (all left : Listing) (done : List ChunkInfo)
      → all ≡ shown_before done left
      → Prints written counts s t (flat_map chunk_line done) → (left.shown ≡ []) × (left.ending ≡ Err f)
      → (all.ending ≡ Err f) × Prints written counts s t (flat_map chunk_line all.shown)
  chunks_refused s t f all left done so_far printed fails =
      let shown : all.shown ≡ done = ap (λ (l : Listing). l.shown) so_far
      ∙ ap (λ (l : List ChunkInfo). done ++ l) fails.0 ∙ append-nil done in (
        ap (λ (l : Listing). l.ending) so_far ∙ fails.1,
        subst (λ (l : List ChunkInfo). Prints written counts s t (flat_map chunk_line l)) (sym shown) printed,
      )

  -- the chunks, behind the header's line
  pub listing_refused : {A : Type 0} (s t u : Text O) (x y : List ℕ) (w : Walk) (r : Result A SparseFault)
      → listing_of x ≡ upcoming w y → w.phase ≡ phases.Body → at_end w ≡ true
      → Prints written counts s t (header_line (view w.header))
      → IfErr r (λ f. UnlessExpandingDevice f (((upcoming w y).ending ≡ Err f)
      × Prints written counts t u (flat_map chunk_line (upcoming w y).shown)))
      → IfErr r (λ f. UnlessExpandingDevice f (ListingRefuses (listing_of x) f (Prints written counts s u)))
  listing_refused s t u x y w (Ok a) opened body ended header chunks = tt
  listing_refused s t u x y w (Err f) opened body ended header chunks =
      let text = ap (λ (h : Option Header). head_text h ++ flat_map chunk_line (upcoming w y).shown)
      (sym (head_upcoming w y body ended)) ∙ ap listing_text (sym opened) in
      unless_map f _ _ (λ p. record {
        ending = ap (λ (l : Listing). l.ending) opened ∙ p.0;
        holds = subst (Prints written counts s u) text (both_printed written counts s t u _ _ header p.1);
      }) chunks

  -- and all of it went to the output
  pub refused_written : {A : Type 0} (r : Result A SparseFault) (l : Listing) (s t u : Text O) (old new : List ℕ)
      → IfErr r (λ f. UnlessExpandingDevice f (ListingRefuses l f (Prints written counts s t)))
      → Prints written counts t u [] → IsNone u.fault
      → text_in u.held.bytes u.held.used ≡ [] → text_in s.held.bytes s.held.used ≡ [] → written s.output.now ≡ old
      → written u.output.now ≡ new
      → IfErr r (λ f. UnlessExpandingDevice f (ListingRefuses l f (λ text. new ≡ old ++ text)))
  refused_written (Ok a) l s t u old new refused last none sent held from to = tt
  refused_written (Err f) l s t u old new refused last none sent held from to =
      unless_map f _ _ (λ p. record {
        ending = p.ending;
        holds = text_whole written counts {A = ℕ} {E = SparseFault} (Ok 0) s u old new (listing_text l)
            (printed_as written counts s u _ _ (append-nil (listing_text l))
            (both_printed written counts s t u _ [] p.holds last)) none sent held from to;
      }) refused

-- ---- who failed

pub read_told : (f : SparseFault) (a b c : ℕ) → b ≡ a → ExpandingRises {X = ℕ} (Err f) b c 0 0
    → Clean {X = ℕ} (Err f) b c 0 0 → ReadTold {X = ℕ} (Err f) a c
read_told (faults.Read d) a b c e rises clean = omega (arith, e, rises)
read_told (faults.Write d) a b c e rises clean = omega (arith, e, clean)
read_told f a b c e rises clean = clean.0 ∙ e

pub reads_rise : {X : Type 0} (r : Result X SparseFault) (a b : ℕ) → ReadTold r a b → a ≤ b
reads_rise (Err (faults.Read d)) a b told = omega (arith, told)
reads_rise (Err (faults.Write d)) a b told = told
reads_rise r a b told = omega (arith, told)
