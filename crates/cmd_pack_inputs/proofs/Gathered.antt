-- The parts and the fragments of an image, gathered one after another.
use Rattle.std.proofs.Common.{inl, inr, arith, ◌⊎◌, ◌+◌, ◌≡◌, ◌<◌, ◌≤◌, ℕ, List, [], ◌∷◌, ◌++◌, Some, None, sym}
use Rattle.std.proofs.Common.{◌∙◌, ap, subst, length, take, get_or, length-append}
use Rattle.std.proofs.lemmas.Bool.{false≢true}
use Rattle.std.specs.Prelude.{Err, IfErr, IfOk, Ok, OnOk, Result, is_some, unwrap_or}
use Rattle.sys_refusals.specs.declared.refusal.HostFault.{HostFault}
use Rattle.sys_refusals.specs.declared.refusal.HostRefusal.{HostRefusal}
use Rattle.std.proofs.lemmas.List.{get_or-map, length-map, map-append, take_all, take_more}
use Rattle.std.proofs.lemmas.List.Elements.{Contains-push_cases, Contains-get_or}
use Rattle.std.proofs.lemmas.List.Sums.{sum_by-append}
use Rattle.std.specs.Borrow.{Bor}
use Rattle.std.specs.List.{All}
use Rattle.std.specs.Prelude.{Contains, map}
use Rattle.abt_headers.specs.declared.sections.Section.{Section}
use Rattle.abt_sections.specs.declared.spec.FragmentSpec.{FragmentSpec}
use Rattle.sys_disk.specs.Counts.{failure_of}
use Rattle.sys_disk.specs.World.{World, OpenFiles, OpensFile, counting}
use Rattle.abt_sections.specs.Cause.{total}
use Rattle.cmd_common_fields.specs.Board.{BoardFits, IsBoardWord}
use Rattle.cmd_common_fields.specs.Options.{option_of}
use Rattle.cmd_common_fields.specs.declared.board_word.BoardWord.{BoardWord}
use Rattle.cmd_common_boot.specs.Given.{found}
use Rattle.cmd_common_boot.proofs.Calls.{same_counting}
use Rattle.cmd_common_boot.specs.declared.fault.BootCommandFault.{BootCommandFault}
use Rattle.cmd_common_boot.specs.declared.fault.BootCommandFault.TheVariants as commands
use Rattle.cmd_common_boot.specs.declared.pack_texts.FragmentText.{FragmentText}
use Rattle.cmd_common_boot.specs.declared.pack_texts.OptionText.{OptionText}
use Rattle.cmd_common_boot.specs.declared.part_rows.PartRow.{PartRow}
use Rattle.cmd_pack_inputs.specs.Opening.{OpensMore, StopsOpening}
use Rattle.cmd_pack_inputs.specs.Parts.{AddsFragment, AreFragmentsOf, ArePartsOf, IsFragmentOf, IsFragmentInput}
use Rattle.cmd_pack_inputs.specs.Parts.{IsPartBy}
use Rattle.cmd_pack_inputs.specs.Parts.{IsPartInput, IsPathOf}
use Rattle.cmd_pack_inputs.specs.BadBoards.{IsBadBoard}
use Rattle.cmd_pack_inputs.proofs.Openings.{opens_file, opens_none, opens_then, stops_more, stops_then}

-- ---- parts

pub parts_more : (w : World) (o : List OptionText) (own : Section → List ℕ → Type 0) (ss : List Section)
    (xs : List (List ℕ)) (s : Section) (x : List ℕ) → ArePartsOf w o own ss xs
    → IsPartBy w (found o (option_of s)) (own s) x → ArePartsOf w o own (ss ++ (s ∷ [])) (xs ++ (x ∷ []))
parts_more w o own [] [] s x are is = (is, tt)
parts_more w o own [] (y ∷ xs) s x are is = absurd are
parts_more w o own (t ∷ ss) [] s x are is = absurd are
parts_more w o own (t ∷ ss) (y ∷ xs) s x are is = (are.0, parts_more w o own ss xs s x are.1 is)

-- the sections of the rows so far, and one more
more_sections : (rows : List PartRow) (i : ℕ) (d : PartRow) → i < length rows
    → map (λ (r : PartRow). r.section) (take (i + 1) rows)
    ≡ map (λ (r : PartRow). r.section) (take i rows) ++ ((get_or rows i d).section ∷ [])
more_sections rows i d there =
    ap (map (λ (r : PartRow). r.section)) (take_more rows i d there)
    ∙ map-append (λ (r : PartRow). r.section) (take i rows) (get_or rows i d ∷ [])

-- after one row more: these are the parts of the rows so far
pub parts_so_far : {P : Type 0} (content : P → List ℕ) (w w' : World) (o : List OptionText)
    (own : Section → List ℕ → Type 0) (rows : List PartRow) (i : ℕ) (d : PartRow) (ps ps' : List P) (p : P)
    → i < length rows → All (λ (r : PartRow). r.option.now ≡ option_of r.section) rows → ps' ≡ ps ++ (p ∷ []) → w' ≡ w
    → ArePartsOf w o own (map (λ (r : PartRow). r.section) (take i rows)) (map content ps)
    → IsPartBy w' (found o (get_or rows i d).option.now) (own (get_or rows i d).section) (content p)
    → ArePartsOf w o own (map (λ (r : PartRow). r.section) (take (i + 1) rows)) (map content ps')
parts_so_far content w w' o own rows i d ps ps' p there named more same are part =
    let row = get_or rows i d in
    let front = map (λ (r : PartRow). r.section) (take i rows) in
    let here : IsPartBy w (found o row.option.now) (own row.section) (content p)
    = subst (λ v. IsPartBy v (found o row.option.now) (own row.section) (content p)) same part in
    let one : IsPartBy w (found o (option_of row.section)) (own row.section) (content p)
    = subst (λ n. IsPartBy w (found o n) (own row.section) (content p)) (named i d there) here in
    let all : ArePartsOf w o own (front ++ (row.section ∷ [])) (map content ps ++ (content p ∷ []))
    = parts_more w o own front (map content ps) row.section (content p) are one in
    let them : map content ps' ≡ map content ps ++ (content p ∷ [])
    = ap (map content) more ∙ map-append content ps (p ∷ []) in
    subst (λ xs. ArePartsOf w o own (map (λ (r : PartRow). r.section) (take (i + 1) rows)) xs) (sym them)
    (subst (λ ss. ArePartsOf w o own ss (map content ps ++ (content p ∷ []))) (sym (more_sections rows i d there)) all)

pub parts_all : (w : World) (o : List OptionText) (own : Section → List ℕ → Type 0) (rows : List PartRow) (i : ℕ)
    (ss : List Section) (xs : List (List ℕ)) → length rows ≤ i → map (λ (r : PartRow). r.section) rows ≡ ss
    → ArePartsOf w o own (map (λ (r : PartRow). r.section) (take i rows)) xs → ArePartsOf w o own ss xs
parts_all w o own rows i ss xs end is are =
    subst (λ l. ArePartsOf w o own l xs) (ap (map (λ (r : PartRow). r.section)) (take_all i rows end) ∙ is) are

-- of one more, no read has failed either
pub none_read : {P : Type 0} (faults : P → ℕ) (ps ps' : List P) (p : P) → ps' ≡ ps ++ (p ∷ []) → total faults ps ≡ 0
    → faults p ≡ 0 → total faults ps' ≡ 0
none_read faults ps ps' p more none zero =
    let e : total faults ps' ≡ total faults ps + (0 + faults p)
    = ap (total faults) more ∙ sum_by-append faults ps (p ∷ []) in
    omega (arith, e, none, zero)

pub none_at_all : {P : Type 0} (faults : P → ℕ) (ps : List P) → ps ≡ [] → total faults ps ≡ 0
none_at_all faults ps none = ap (total faults) none

-- ---- the paths of parts

pub no_paths : (o : List OptionText) (path : List ℕ) → IsPartInput o [] path → ⊥
no_paths o path is = omega (arith, is.is_one.1)

path_split : (o : List OptionText) (ss : List Section) (s : Section) (path : List ℕ)
    → IsPartInput o (ss ++ (s ∷ [])) path → IsPartInput o ss path ⊎ IsPathOf o (option_of s) path
path_split o ss s path is = elim (Contains-push_cases ss s is.section is.is_one) [
  | inl before ↦ inl (record { section = is.section; is_one = before; is_path = is.is_path })
  | inr same ↦ inr (subst (λ t. IsPathOf o (option_of t) path) (sym same) is.is_path)
]

pub paths_so_far : (w w' : World) (o : List OptionText) (rows : List PartRow) (i : ℕ) (d : PartRow)
    (h h' h'' : OpenFiles) → i < length rows → All (λ (r : PartRow). r.option.now ≡ option_of r.section) rows → w' ≡ w
    → OpensMore (IsPartInput o (map (λ (r : PartRow). r.section) (take i rows))) w h h'
    → OpensMore (IsPathOf o (get_or rows i d).option.now) w' h' h''
    → OpensMore (IsPartInput o (map (λ (r : PartRow). r.section) (take (i + 1) rows))) w h h''
paths_so_far w w' o rows i d h h' h'' there named same before more =
    let row = get_or rows i d in
    let front = map (λ (r : PartRow). r.section) (take i rows) in
    subst (λ l. OpensMore (IsPartInput o l) w h h'') (sym (more_sections rows i d there))
    (opens_then (IsPartInput o front) (IsPathOf o row.option.now) (IsPartInput o (front ++ (row.section ∷ [])))
    w w' h h' h'' same before more
    (λ p q. subst (λ n. IsPartInput o front p ⊎ IsPathOf o n p) (sym (named i d there))
    (path_split o front row.section p q)))

pub paths_all : (w : World) (o : List OptionText) (rows : List PartRow) (i : ℕ) (ss : List Section) (h h' : OpenFiles)
    → length rows ≤ i → map (λ (r : PartRow). r.section) rows ≡ ss
    → OpensMore (IsPartInput o (map (λ (r : PartRow). r.section) (take i rows))) w h h'
    → OpensMore (IsPartInput o ss) w h h'
paths_all w o rows i ss h h' end is opens =
    subst (λ l. OpensMore (IsPartInput o l) w h h')
    (ap (map (λ (r : PartRow). r.section)) (take_all i rows end) ∙ is) opens

-- the path of a row is one of all
row_path : (o : List OptionText) (rows : List PartRow) (i : ℕ) (d : PartRow) (ss : List Section) (path : List ℕ)
    → i < length rows → All (λ (r : PartRow). r.option.now ≡ option_of r.section) rows
    → map (λ (r : PartRow). r.section) rows ≡ ss → IsPathOf o (get_or rows i d).option.now path → IsPartInput o ss path
row_path o rows i d ss path there named sections of_row =
    let row = get_or rows i d in
    let long = length-map rows (λ (r : PartRow). r.section) in
    let one : Contains (map (λ (r : PartRow). r.section) rows) row.section
    = subst (Contains (map (λ (r : PartRow). r.section) rows))
    (get_or-map (λ (r : PartRow). r.section) rows i d row.section there)
    (Contains-get_or (map (λ (r : PartRow). r.section) rows) i row.section (omega (arith, long, there))) in
    record {
      section = row.section;
      is_one = subst (λ l. Contains l row.section) sections one;
      is_path = subst (λ n. IsPathOf o n path) (named i d there) of_row;
    }

-- a row's file was not opened
pub row_stops : (w : World) (o : List OptionText) (rows : List PartRow) (i : ℕ) (d : PartRow) (ss : List Section)
    (h h' h'' : OpenFiles) (f : HostFault) → i < length rows → All
    (λ (r : PartRow). r.option.now ≡ option_of r.section) rows
    → map (λ (r : PartRow). r.section) rows ≡ ss
    → OpensMore (IsPartInput o (map (λ (r : PartRow). r.section) (take i rows))) w h h'
    → StopsOpening (IsPathOf o (get_or rows i d).option.now) h' h'' f → StopsOpening (IsPartInput o ss) h h'' f
row_stops w o rows i d ss h h' h'' f there named sections before stops =
    stops_then (IsPartInput o (map (λ (r : PartRow). r.section) (take i rows)))
    (IsPathOf o (get_or rows i d).option.now)
    (IsPartInput o ss) w h h' h'' f before stops (λ p q. row_path o rows i d ss p there named sections q)

-- ---- fragments

pub fragments_more : (w : World) (ts : List FragmentText) (ss : List FragmentSpec) (xs : List (List ℕ))
    (t : FragmentText) (s : FragmentSpec) (x : List ℕ) → AreFragmentsOf w ts ss xs → IsFragmentOf w t s x
    → AreFragmentsOf w (ts ++ (t ∷ [])) (ss ++ (s ∷ [])) (xs ++ (x ∷ []))
fragments_more w [] [] [] t s x are is = (is, tt)
fragments_more w [] [] (y ∷ xs) t s x are is = absurd are
fragments_more w [] (z ∷ ss) [] t s x are is = absurd are
fragments_more w [] (z ∷ ss) (y ∷ xs) t s x are is = absurd are
fragments_more w (v ∷ ts) [] [] t s x are is = absurd are
fragments_more w (v ∷ ts) [] (y ∷ xs) t s x are is = absurd are
fragments_more w (v ∷ ts) (z ∷ ss) [] t s x are is = absurd are
fragments_more w (v ∷ ts) (z ∷ ss) (y ∷ xs) t s x are is = (are.0, fragments_more w ts ss xs t s x are.1 is)

pub fragments_so_far : (w w' : World) (texts items : List FragmentText) (i : ℕ) (d : FragmentText)
    (specs specs' : List FragmentSpec) (xs xs' : List (List ℕ)) → items ≡ texts → i < length items
    → d ≡ get_or items i d → w' ≡ w → AreFragmentsOf w (take i texts) specs xs → AddsFragment w' d specs specs' xs xs'
    → AreFragmentsOf w (take (i + 1) texts) specs' xs'
fragments_so_far w w' texts items i d specs specs' xs xs' all there at same are adds =
    let text = get_or texts i d in
    let within : i < length texts = subst (λ l. i < length l) all there in
    let more : AddsFragment w text specs specs' xs xs'
    = subst (λ v. AddsFragment v text specs specs' xs xs') same
    (subst (λ l. AddsFragment w' (get_or l i d) specs specs' xs xs') all
    (subst (λ x. AddsFragment w' x specs specs' xs xs') at adds)) in
    let them : AreFragmentsOf w (take i texts ++ (text ∷ [])) (specs ++ (more.spec ∷ [])) (xs ++ (more.ramdisk ∷ []))
    = fragments_more w (take i texts) specs xs text more.spec more.ramdisk are more.is in
    subst (λ l. AreFragmentsOf w l specs' xs') (sym (take_more texts i d within))
    (subst (λ l. AreFragmentsOf w (take i texts ++ (text ∷ [])) l xs') (sym more.more_specs)
    (subst (λ l. AreFragmentsOf w (take i texts ++ (text ∷ [])) (specs ++ (more.spec ∷ [])) l) (sym more.more_ramdisks)
    them))

pub fragments_all : (w : World) (texts items : List FragmentText) (i : ℕ) (specs : List FragmentSpec)
    (xs : List (List ℕ)) → items ≡ texts → length items ≤ i → AreFragmentsOf w (take i texts) specs xs
    → AreFragmentsOf w texts specs xs
fragments_all w texts items i specs xs all end are =
    subst (λ l. AreFragmentsOf w l specs xs) (take_all i texts (subst (λ l. length l ≤ i) all end)) are

pub no_fragments : (path : List ℕ) → IsFragmentInput [] path → ⊥
no_fragments path is = omega (arith, is.is_one.1)

fragment_split : (ts : List FragmentText) (t : FragmentText) (path : List ℕ) → IsFragmentInput (ts ++ (t ∷ [])) path
    → IsFragmentInput ts path ⊎ (path ≡ t.path.items)
fragment_split ts t path is = elim (Contains-push_cases ts t is.text is.is_one) [
  | inl before ↦ inl (record { text = is.text; is_one = before; is_path = is.is_path })
  | inr same ↦ inr (is.is_path ∙ ap (λ (x : FragmentText). x.path.items) (sym same))
]

pub files_so_far : (w w' : World) (texts items : List FragmentText) (i : ℕ) (d : FragmentText) (h h' h'' : OpenFiles)
    → items ≡ texts → i < length items → d ≡ get_or items i d → w' ≡ w
    → OpensMore (IsFragmentInput (take i texts)) w h h' → OpensMore (λ path. path ≡ d.path.items) w' h' h''
    → OpensMore (IsFragmentInput (take (i + 1) texts)) w h h''
files_so_far w w' texts items i d h h' h'' all there at same before more =
    let text = get_or texts i d in
    let within : i < length texts = subst (λ l. i < length l) all there in
    let now : OpensMore (λ path. path ≡ text.path.items) w' h' h''
    = subst (λ l. OpensMore (λ path. path ≡ (get_or l i d).path.items) w' h' h'') all
    (subst (λ (x : FragmentText). OpensMore (λ path. path ≡ x.path.items) w' h' h'') at more) in
    subst (λ l. OpensMore (IsFragmentInput l) w h h'') (sym (take_more texts i d within))
    (opens_then (IsFragmentInput (take i texts)) (λ path. path ≡ text.path.items)
    (IsFragmentInput (take i texts ++ (text ∷ []))) w w' h h' h'' same before now
    (λ p q. fragment_split (take i texts) text p q))

pub files_all : (w : World) (texts items : List FragmentText) (i : ℕ) (h h' : OpenFiles) → items ≡ texts
    → length items ≤ i → OpensMore (IsFragmentInput (take i texts)) w h h' → OpensMore (IsFragmentInput texts) w h h'
files_all w texts items i h h' all end opens =
    subst (λ l. OpensMore (IsFragmentInput l) w h h') (take_all i texts (subst (λ l. length l ≤ i) all end)) opens

-- a fragment's file was not opened
pub file_stops : (w : World) (texts items : List FragmentText) (i : ℕ) (d : FragmentText) (h h' h'' : OpenFiles)
    (f : HostFault) → items ≡ texts → i < length items → d ≡ get_or items i d
    → OpensMore (IsFragmentInput (take i texts)) w h h' → StopsOpening (λ path. path ≡ d.path.items) h' h'' f
    → StopsOpening (IsFragmentInput texts) h h'' f
file_stops w texts items i d h h' h'' f all there at before stops =
    stops_then (IsFragmentInput (take i texts)) (λ path. path ≡ d.path.items) (IsFragmentInput texts)
    w h h' h'' f before stops
    (λ p q. record {
      text = d;
      is_one = subst (Contains texts) (sym at)
          (subst (λ l. Contains l (get_or items i d)) all (Contains-get_or items i d there));
      is_path = q;
    })

-- ---- one fragment with its file

pub fragment_added : {R E P : Type 0} (r : Result R E) (specs_of : R → List FragmentSpec) (sources_of : R → List P)
    (content : P → List ℕ) (w : World) (text : FragmentText) (spec : FragmentSpec) (p : P) (path : List ℕ)
    (h h' : OpenFiles)
    (specs : List FragmentSpec) (sources : List P) → text.spec ≡ Some spec → path ≡ text.path.items
    → OpensFile w path (content p) h h' → IfOk r (λ x. specs_of x ≡ specs ++ (spec ∷ []))
    → IfOk r (λ x. sources_of x ≡ sources ++ (p ∷ []))
    → IfOk r (λ x. AddsFragment w text specs (specs_of x) (map content sources) (map content (sources_of x)))
fragment_added (Ok x) specs_of sources_of content w text spec p path h h' specs sources said at o longer more = record {
  spec = spec;
  ramdisk = content p;
  is = record { said = said; holds = record { file = o.file; there = ap w.at (sym at) ∙ o.there; holds = sym o.held } };
  more_specs = longer;
  more_ramdisks = ap (map content) more ∙ map-append content sources (p ∷ []);
}
fragment_added (Err e) specs_of sources_of content w text spec p path h h' specs sources said at o longer more = tt

pub fragment_unread : {R E P : Type 0} (r : Result R E) (sources_of : R → List P) (faults : P → ℕ) (p : P)
    (sources : List P) → faults p ≡ 0 → IfOk r (λ x. sources_of x ≡ sources ++ (p ∷ []))
    → IfOk r (λ x. total faults (sources_of x) ≡ total faults sources)
fragment_unread (Ok x) sources_of faults p sources zero more =
    let e : total faults (sources_of x) ≡ total faults sources + (0 + faults p)
    = ap (total faults) more ∙ sum_by-append faults sources (p ∷ []) in
    omega (arith, e, zero)
fragment_unread (Err e) sources_of faults p sources zero more = tt

-- ---- board ids

pub bad_board : (words : List (List ℕ)) (count count' : ℕ) (word : Bor (List ℕ)) (f : BootCommandFault)
    → f ≡ commands.BadBoardId word → count ≡ count'
    → Contains words word.now × ((b : BoardWord) → IsBoardWord word.now b → BoardFits b → b.fragment < count → ⊥)
    → IsBadBoard words count' f
bad_board words count count' word f is same why =
    subst (IsBadBoard words count') (sym is) (record {
      is_one = why.0;
      sets_none = λ b shape fits there. why.1 b shape fits (omega (arith, same, there));
    })

-- ---- a file that was opened, or none

only_path : (options : List OptionText) (name path q : List ℕ) (option : OptionText) → found options name ≡ Some option
    → path ≡ option.bytes.items → IsPathOf options name q → q ≡ path
only_path options name path q option given is of =
    of.is_path ∙ ap (λ (o : OptionText). o.bytes.items) (ap (λ o. unwrap_or o option) (sym of.given ∙ given)) ∙ sym is

pub option_opens : {X E : Type 0} (r : Result X E) (content : X → List ℕ) (options : List OptionText)
    (name path : List ℕ) (option : OptionText) (w : World) (h h' : OpenFiles) → found options name ≡ Some option
    → path ≡ option.bytes.items → IfOk r (λ p. OpensFile w path (content p) h h')
    → OnOk r (OpensMore (IsPathOf options name) w h h')
option_opens (Ok p) content options name path option w h h' given is opened =
    opens_file (IsPathOf options name) w path (content p) h h' opened
    (λ q of. only_path options name path q option given is of)
option_opens (Err e) content options name path option w h h' given is opened = tt

pub option_stops : {X E : Type 0} (r : Result X E) (fault : E → HostFault) (options : List OptionText)
    (name path : List ℕ) (option : OptionText) (h h' : OpenFiles) → found options name ≡ Some option
    → path ≡ option.bytes.items → IfErr r (λ e. StopsOpening (λ p. p ≡ path) h h' (fault e))
    → IfErr r (λ e. StopsOpening (IsPathOf options name) h h' (fault e))
option_stops (Ok p) fault options name path option h h' given is stops = tt
option_stops (Err e) fault options name path option h h' given is stops =
    stops_more (λ p. p ≡ path) (IsPathOf options name) h h' (fault e) stops
    (λ p same. record { option = option; given = given; is_path = same ∙ is })

pub own_opens : {X : Type 0} (r : Result X HostRefusal) (options : List OptionText) (name : List ℕ) (w : World)
    (h h' : OpenFiles) → found options name ≡ None → h' ≡ counting (failure_of r) h
    → OnOk r (OpensMore (IsPathOf options name) w h h')
own_opens (Ok p) options name w h h' none held =
    opens_none (IsPathOf options name) w h h' (held ∙ same_counting h)
    (λ q of. false≢true (ap is_some (sym none ∙ of.given)))
own_opens (Err e) options name w h h' none held = tt

pub parts_none : {P : Type 0} (content : P → List ℕ) (w : World) (o : List OptionText) (own : Section → List ℕ → Type 0)
    (ps : List P) → ps ≡ [] → ArePartsOf w o own [] (map content ps)
parts_none content w o own ps none = subst (λ l. ArePartsOf w o own [] (map content l)) (sym none) tt

pub one_longer : {X : Type 0} (xs ys : List X) (x : X) (n : ℕ) → ys ≡ xs ++ (x ∷ []) → length xs ≡ n → length ys ≡ n + 1
one_longer xs ys x n is long =
    let e : length ys ≡ length xs + 1 = ap length is ∙ length-append xs (x ∷ []) in omega (arith, e, long)

pub fragments_none : {P : Type 0} (content : P → List ℕ) (w : World) (specs : List FragmentSpec) (ps : List P)
    → specs ≡ [] → ps ≡ [] → AreFragmentsOf w [] specs (map content ps)
fragments_none content w specs ps no_specs none =
    subst (λ l. AreFragmentsOf w [] l (map content ps)) (sym no_specs)
    (subst (λ l. AreFragmentsOf w [] [] (map content l)) (sym none) tt)
