-- No part of a piece is left, and no piece has the image's own file.
use Rattle.std.proofs.Common.{inl, inr, arith, ◌⊎◌, ◌+◌, ◌≡◌, ℕ, ◌<◌, List, length, Some, None, Bool}
use Rattle.std.proofs.Common.{sym, ◌∙◌, ap, subst, below_more}
use Rattle.std.specs.Prelude.{Option, unwrap_or, Contains, OnErr, Result, Ok, Err}
use Rattle.std.proofs.lemmas.List.Elements.{Contains-push}
use Rattle.abt_pieces.specs.Turn.{HasAt}
use Rattle.abt_sparse.specs.Block.{Block}
use Rattle.abt_sparse.specs.Pieces.{pieces}
use Rattle.sys_disk.specs.Among.{GoesAmong}
use Rattle.sys_disk.specs.Images.{EmptiesAt, Leaves}
use Rattle.sys_disk.specs.World.{World, OpenFiles, OpensFile, Creates, IsFree, MayWrite, SparesRest, Spares}
use Rattle.cmd_common_sparse.specs.PieceNames.{Naming}
use Rattle.cmd_cut.specs.Cutting.{AddsNone, CutsSoFar, IsImageOfBlocks, path_in_turn}
use Rattle.cmd_cut.specs.Leaving.{AreFreeInTurn, AreThere, BeginsCut, HoldsNoPartOfPiece, HoldsNoneOrPiece}
use Rattle.cmd_cut.specs.Leaving.{KeepsOrHolds, LeavesNoPart, LooksAtPieces, SparesImage, begun, beside}
use Rattle.cmd_cut.specs.Leaving.{kept, looked, no_image, unbegun}
use Rattle.cmd_cut.specs.Leaving.{unchanged, unlooked, whole}
use Rattle.cmd_cut.specs.Sparsing.{HoldsNoSparse}
use Rattle.cmd_cut.proofs.Answered.{torn}

one : (o : Option ℕ) (f g : ℕ) → o ≡ Some f → o ≡ Some g → f ≡ g
one o f g a b = ap (λ p. unwrap_or p 0) (sym a ∙ b)

-- ---- the file of one piece

-- it was let go, or could not be finished
pub none_left : (ps : List (List ℕ)) (made : ℕ) (o : Option ℕ) (x : List ℕ) (w : World) → HoldsNoSparse x
    → Leaves o x w → HoldsNoneOrPiece ps made o w
none_left ps made None x w none left = tt
none_left ps made (Some f) x w none (inl same) = inl (subst HoldsNoSparse (sym same) none)
none_left ps made (Some f) x w none (inr front) = inl (torn _ front)

pub whole_left : (ps : List (List ℕ)) (made : ℕ) (o : Option ℕ) (x : List ℕ) (w : World) → HasAt ps made x
    → Leaves o x w → HoldsNoneOrPiece ps made o w
whole_left ps made None x w has left = tt
whole_left ps made (Some f) x w has (inl same) = inr (subst (HasAt ps made) (sym same) has)
whole_left ps made (Some f) x w has (inr front) = inl (torn _ front)

-- it could not be created
pub holds_emptied : (ps : List (List ℕ)) (made : ℕ) (path : List ℕ) (a b : World) → EmptiesAt path a b
    → KeepsOrHolds ps made path a b
holds_emptied ps made path a b empties = λ f at. elim (empties f at) [
  | inl same ↦ inl same
  | inr none ↦ inr (inl (inl (subst (λ l. length l < 4) (sym none) (omega arith))))
]

-- it was begun
pub holds_left : {X E : Type 0} (r : Result X E) (ps : List (List ℕ)) (made : ℕ) (path : List ℕ) (h h' : OpenFiles)
    (a b c : World) → Creates path h h' a b → SparesRest h'.output b c
    → OnErr r (HoldsNoneOrPiece ps made h'.output c) → OnErr r (KeepsOrHolds ps made path a c)
holds_left (Ok x) ps made path h h' a b c created rest left = tt
holds_left (Err e) ps made path h h' a b c created rest left = λ f at.
    let t : Spares created.file b c = subst (λ k. SparesRest k.output b c) created.begins rest in
    let is : created.file ≡ f = one (c.at path) created.file f (t.paths path created.file created.there) at in
    let it : HoldsNoSparse (c.holds created.file) ⊎ HasAt ps made (c.holds created.file)
    = subst (λ k. HoldsNoneOrPiece ps made k.output c) created.begins left in
    inr (subst (λ g. HoldsNoSparse (c.holds g) ⊎ HasAt ps made (c.holds g)) is it)

-- ---- all files, on the way

-- while all that were begun are whole
pub no_part_yet : (names : Naming) (ps : List (List ℕ)) (n : ℕ) (h h' : OpenFiles) (a b : World)
    → CutsSoFar names ps n n h h' a b → (f : ℕ) → HoldsNoPartOfPiece names ps a b f
no_part_yet names ps n h h' a b cuts f = elim (cuts.goes.files f) [
  | inl same ↦ kept same
  | inr there ↦
      let is = there.is_named in
      let s = cuts.stand is.index is.below in
      let at : b.at (path_in_turn names (is.index + 1)) ≡ Some f
      = subst (λ p. b.at p ≡ Some f) is.is_path there.there in
      let same : s.made.file ≡ f = one _ s.made.file f s.made.there at in
      whole is.index at (subst (HasAt ps is.index)
      (sym s.made.holds ∙ ap (λ g. b.holds g) same) s.is_next)
]

-- what was not changed further
later : (names : Naming) (ps : List (List ℕ)) (a b c : World) (f : ℕ)
    → ((p : List ℕ) (g : ℕ) → b.at p ≡ Some g → c.at p ≡ Some g) → c.holds f ≡ b.holds f
    → HoldsNoPartOfPiece names ps a b f → HoldsNoPartOfPiece names ps a c f
later names ps a b c f leads same (kept e) = kept (same ∙ e)
later names ps a b c f leads same (no_image none) = no_image (subst HoldsNoSparse (sym same) none)
later names ps a b c f leads same (whole j at has) =
    whole j (leads (path_in_turn names (j + 1)) f at) (subst (HasAt ps j) (sym same) has)

-- the next piece could not be written
pub no_part_stop : (names : Naming) (ps : List (List ℕ)) (n : ℕ) (path : List ℕ) (h h' h'' : OpenFiles) (a b c : World)
    → path ≡ path_in_turn names (n + 1) → CutsSoFar names ps n n h h' a b → AddsNone h' h'' b c
    → GoesAmong (λ p. (p ≡ path) × MayWrite p h') h' h'' b c → KeepsOrHolds ps n path b c → (f : ℕ)
    → HoldsNoPartOfPiece names ps a c f
no_part_stop names ps n path h h' h'' a b c is_path cuts none goes broken f =
    let before : HoldsNoPartOfPiece names ps a b f = no_part_yet names ps n h h' a b cuts f in
    elim (goes.files f) [
      | inl same ↦ later names ps a b c f none.keeps.leads same before
      | inr there ↦
          let at : c.at path ≡ Some f = subst (λ p. c.at p ≡ Some f) there.is_named.0 there.there in
          elim (broken f at) [
            | inl same ↦ later names ps a b c f none.keeps.leads same before
            | inr (inl none_there) ↦ no_image none_there
            | inr (inr has) ↦ whole n (subst (λ p. c.at p ≡ Some f) is_path at) has
          ]
    ]

pub no_part_same : (over : List ℕ → Bool) (names : Naming) (ps : List (List ℕ)) (a b : World) → b ≡ a
    → LeavesNoPart over names ps a b
no_part_same over names ps a b same = λ all f. kept (ap (λ w. w.holds f) same)

pub no_part_between : (over : List ℕ → Bool) (names : Naming) (ps : List (List ℕ)) (a a1 b c : World) → a1 ≡ a → c ≡ b
    → LeavesNoPart over names ps a1 b → LeavesNoPart over names ps a c
no_part_between over names ps a a1 b c first last leaves =
    subst (λ (w : World). LeavesNoPart over names ps w c) first
    (subst (λ (w : World). LeavesNoPart over names ps a1 w) (sym last) leaves)

-- ---- the look

pub free_more : (names : Naming) (n : ℕ) (path : List ℕ) (held : OpenFiles) (w : World)
    → path ≡ path_in_turn names (n + 1) → AreFreeInTurn names n held w → IsFree path held w
    → AreFreeInTurn names (n + 1) held w
free_more names n path held w is_path all free =
    below_more (λ j. AreThere names j w → IsFree (path_in_turn names (j + 1)) held w) n all
    (λ there. subst (λ p. IsFree p held w) is_path free)

-- ---- the image, and the file that holds it

pub begun_of : (raw : Option ℕ) (size size' limit limit' : ℕ) (l l' : List Block) (over : List ℕ → Bool)
    (names : Naming) (word x : List ℕ) (h : OpenFiles) (a b : World) → IsImageOfBlocks raw size l x
    → size' ≡ size → limit' ≡ limit → l' ≡ l → LooksAtPieces names word h a b
    → LeavesNoPart over names (pieces limit' size' l') a b → BeginsCut raw limit over names word x h a b
begun_of raw size size' limit limit' l l' over names word x h a b image sized limited listed looks leaves =
    begun size l image looks
    (subst (λ (n : ℕ). LeavesNoPart over names (pieces n size l) a b) limited
    (subst (λ (n : ℕ). LeavesNoPart over names (pieces limit' n l) a b) sized
    (subst (λ (k : List Block). LeavesNoPart over names (pieces limit' size' k) a b) listed leaves)))

-- the image's file is read, so no name that is free leads to it
not_free : (path p bytes : List ℕ) (h h' : OpenFiles) (a b : World) → (o : OpensFile a path bytes h h') → b ≡ a
    → IsFree p h' b → ¬ (a.at p ≡ Some o.file)
not_free path p bytes h h' a b o same free at =
    (free o.file (ap (λ w. w.at p) same ∙ at)).0
    (subst (λ k. Contains k.read o.file) (sym o.taken) (Contains-push h.read o.file))

there_as : (names : Naming) (j : ℕ) (a b : World) → b ≡ a → AreThere names j a → AreThere names j b
there_as names j a b same there = subst (λ (w : World). AreThere names j w) (sym same) there

looked_file : (raw : Option ℕ) (limit size : ℕ) (blocks : List Block) (over : List ℕ → Bool) (names : Naming)
    (word path bytes : List ℕ) (h h' : OpenFiles) (a b c : World) → (o : OpensFile a path bytes h h') → b ≡ a
    → IsImageOfBlocks raw size blocks bytes → LooksAtPieces names word h' b c
    → LeavesNoPart over names (pieces limit size blocks) b c → SparesImage raw limit over names word path a c
looked_file raw limit size blocks over names word path bytes h h' a b c o same image (unlooked still) leaves =
    unchanged (still ∙ same)
looked_file raw limit size blocks over names word path bytes h h' a b c o same image (looked free own) leaves =
    beside o.file o.there size blocks (subst (λ x. IsImageOfBlocks raw size blocks x) o.held image)
    (λ j below there. not_free path (path_in_turn names (j + 1)) bytes h h' a b o same
    (free j below (there_as names j a b same there)))
    (λ is. not_free path word bytes h h' a b o same (own is))
    (subst (λ (w : World). LeavesNoPart over names (pieces limit size blocks) w c) same leaves)

spares_file : (raw : Option ℕ) (limit : ℕ) (over : List ℕ → Bool) (names : Naming) (word path bytes : List ℕ)
    (h h' : OpenFiles) (a b c : World) → OpensFile a path bytes h h' → b ≡ a
    → BeginsCut raw limit over names word bytes h' b c → SparesImage raw limit over names word path a c
spares_file raw limit over names word path bytes h h' a b c o same (unbegun still) = unchanged (still ∙ same)
spares_file raw limit over names word path bytes h h' a b c o same (begun size blocks image looks leaves) =
    looked_file raw limit size blocks over names word path bytes h h' a b c o same image looks leaves

pub spares_file_as : (raw raw' : Option ℕ) (limit : ℕ) (over : List ℕ → Bool) (names : Naming)
    (word path bytes : List ℕ) (h h' : OpenFiles) (a b c : World) → raw ≡ raw' → OpensFile a path bytes h h' → b ≡ a
    → BeginsCut raw' limit over names word bytes h' b c → SparesImage raw limit over names word path a c
spares_file_as raw raw' limit over names word path bytes h h' a b c is o same begins =
    spares_file raw limit over names word path bytes h h' a b c o same
    (subst (λ (k : Option ℕ). BeginsCut k limit over names word bytes h' b c) (sym is) begins)
