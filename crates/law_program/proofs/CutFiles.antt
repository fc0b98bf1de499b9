-- What `cut` leaves are the files of the pieces.
use Rattle.std.proofs.Common.{inl, inr, arith, ◌≡◌, ◌+◌, ◌<◌, ◌≤◌, ◌⊎◌, ℕ, zero, suc, List, [], ◌∷◌, map, drop, length}
use Rattle.std.proofs.Common.{get_or, Option, Some, None, refl, sym, ◌∙◌, ap, subst}
use Rattle.std.proofs.lemmas.List.{drop_all, drop_more}
use Rattle.abt_sparse.specs.Block.{Block, expansion}
use Rattle.abt_sparse.specs.Chunk.{classed}
use Rattle.abt_sparse.specs.Pieces.{flashed, pieces}
use Rattle.sys_disk.specs.World.{World, OpenFiles}
use Rattle.cmd_common_sparse.specs.PieceNames.{Naming}
use Rattle.cmd_cut.specs.Cutting.{IsPiecePath, PiecesStand}
use Rattle.sys_disk.specs.Among.{IsAmong}
use Rattle.cmd_expand.specs.Overlaying.{LeadTo}
use Rattle.law_program.specs.InTurn.{CutsInTurn, CutThenExpanded, CutThenFlashed, HoldPieces, IsCuttable, IsNoPiece}
use Rattle.law_program.specs.InTurn.{piece_paths}
use Rattle.law_program.proofs.ProgramCuts.{expanded_together, flashed_in_turn_are}

-- the files of the pieces behind j others
record Files (names : Naming) (ps : List (List ℕ)) (j k : ℕ) (w : World) : Type 0 where
  files : List ℕ
  lead : LeadTo w (piece_paths names (j + 1) k) files
  hold : map w.holds files ≡ drop j ps

files_of : (names : Naming) (ps : List (List ℕ)) (n j k : ℕ) (held : OpenFiles) (w : World) → n ≡ length ps → j + k ≡ n
    → PiecesStand names ps n held w → Files names ps j k w
files_of names ps n j zero held w all e stand =
    record { files = []; lead = refl; hold = sym (drop_all j ps (omega (arith, all, e))) }
files_of names ps n j (suc k) held w all e stand =
    let here = stand j (omega (arith, e)) in
    let rest = files_of names ps n (j + 1) k held w all (omega (arith, e)) stand in
    let more : drop j ps ≡ get_or ps j [] ∷ drop (j + 1) ps = drop_more ps j [] (omega (arith, all, e)) in
    let first : here.bytes ≡ get_or ps j [] = ap (λ l. get_or l 0 []) (sym here.is_next.at ∙ more) in
    record {
      files = here.made.file ∷ rest.files;
      lead = ap (λ x. x ∷ map w.at (piece_paths names (j + 1 + 1) k)) here.made.there
          ∙ ap (λ l. Some here.made.file ∷ l) rest.lead;
      hold = ap (λ x. x ∷ map w.holds rest.files) (here.made.holds ∙ first)
          ∙ ap (λ l. get_or ps j [] ∷ l) rest.hold ∙ sym more;
    }

abbrev cuttable : (limit : ℕ) (input : List ℕ) (names : Naming) (held held' : OpenFiles) (a b : World)
    (cut : CutsInTurn limit input names held held' a b)
    → IsCuttable limit (a.holds cut.done.from)
cuttable limit input names held held' a b cut =
    let i = cut.done.image in
    record {
      header = i.header;
      chunks = i.chunks;
      rest = i.rest;
      spelled = i.spelled;
      room = subst (λ n. 64 + n ≤ limit) i.sized cut.done.granted;
      low = cut.low;
    }

held_pieces : (limit : ℕ) (input : List ℕ) (names : Naming) (held held' : OpenFiles) (a b : World)
    (cut : CutsInTurn limit input names held held' a b)
    → HoldPieces limit (a.holds cut.done.from) (cuttable limit input names held held' a b cut)
    (piece_paths names 1 cut.done.count) b
held_pieces limit input names held held' a b cut =
    let i = cut.done.image in
    let ps = pieces limit cut.done.size cut.done.blocks in
    let n = cut.done.count in
    let all : 0 + n ≡ n = omega arith in
    let f = files_of names ps n 0 n held' b cut.done.all all cut.done.first.stand in
    record {
      files = f.files;
      lead = f.lead;
      hold = f.hold ∙ ap (λ s. pieces limit s cut.done.blocks) i.sized ∙ ap (pieces limit i.header.blk_sz) i.holds;
    }

no_piece : (prefix : List ℕ) (read : List ℕ) (a b : World) (onto : ℕ) → IsNoPiece prefix b onto
    → (b.holds onto ≡ a.holds onto) ⊎ IsAmong (IsPiecePath prefix) read b onto → b.holds onto ≡ a.holds onto
no_piece prefix read a b onto no_file (inl same) = same
no_piece prefix read a b onto no_file (inr under) =
    absurd (no_file under.is_named.0 (ap b.at (sym under.is_named.1) ∙ under.there))

pub cut_then_flashed : CutThenFlashed
cut_then_flashed limit input partition names held held' a b c onto cut at no_file each =
    let x = a.holds cut.done.from in
    flashed_in_turn_are limit x partition (piece_paths names 1 cut.done.count) b c onto
    (cuttable limit input names held held' a b cut) (held_pieces limit input names held held' a b cut)
    (cut.only.leads partition onto at) each
    ∙ ap (λ p. flashed p x) (no_piece names.prefix held.read a b onto no_file (cut.only.files onto))

pub cut_then_expanded : CutThenExpanded
cut_then_expanded limit input output names held held' a b c cut out =
    let i = cut.done.image in
    expanded_together limit (a.holds cut.done.from) output (piece_paths names 1 cut.done.count) b c
    (cuttable limit input names held held' a b cut) (held_pieces limit input names held held' a b cut) out
    ∙ ap (λ s. expansion s (classed i.chunks)) (sym i.sized) ∙ ap (expansion cut.done.size) (sym i.holds)
