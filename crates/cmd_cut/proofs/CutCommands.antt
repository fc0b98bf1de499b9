-- One piece more, and all of them.
use Rattle.std.proofs.Common.{inl, inr, arith, ◌⊎◌, ◌+◌, ◌-◌, ◌*◌, ◌≡◌, ℕ, zero, suc, ◌<◌, ◌≤◌, List, [], ◌∷◌, Some}
use Rattle.std.proofs.Common.{None, Bool, true, false, refl, sym, ◌∙◌, ap, subst, below_more, length}
use Rattle.std.proofs.Common.{length-append}
use Rattle.std.specs.Prelude.{unwrap_or, Contains, if◌then◌else◌, ◌&&◌, Option, is_none, option_map, codes, bytes_eq}
use Rattle.std.proofs.lemmas.Bool.{false≢true}
use Rattle.std.proofs.lemmas.List.{length-map}
use Rattle.abt_sparse.specs.Block.{Block}
use Rattle.abt_sparse.specs.Chunk.{piece}
use Rattle.abt_sparse.specs.Runs.{frames, segments}
use Rattle.abt_sparse.specs.Pieces.{pieces}
use Rattle.abt_pieces.specs.Cutter.{Made, Passed, has_more, segments_left}
use Rattle.abt_pieces.specs.declared.stage.CutterStage.{CutterStage}
use Rattle.abt_pieces.specs.declared.stage.CutterStage.TheVariants.{Between, Done}
use Rattle.sys_refusals.specs.Paths.{path_out, path_of, is_standard, numbered, in_folder}
use Rattle.sys_refusals.specs.declared.place.FileArg.{FileArg}
use Rattle.cmd_common_sparse.specs.PieceNames.{Naming, naming_of, number_in_turn}
use Rattle.cmd_common_sparse.specs.declared.piece_files.PieceNaming.{PieceNaming}
use Rattle.sys_disk.specs.World.{World, OpenFiles, MayWrite}
use Rattle.cmd_cut.specs.Cutting.{AddsNone, AddsPiece, AreApart, CutsSoFar, IsFirstPiecePath, MayWritePiece}
use Rattle.cmd_cut.specs.Cutting.{PieceStands, OnlyLeaves, PiecesStand, path_in_turn, piece_path}
use Rattle.sys_disk.specs.Among.{GoesAmong, IsMade, KeepsMade}
use Rattle.sys_disk.proofs.Amongs.{made_later, goes_more, goes_still, goes_then}

-- ---- nothing was cut yet

pub cuts_none : (names : Naming) (ps : List (List ℕ)) (m : ℕ) (h : OpenFiles) (a : World) → h.output ≡ None
    → CutsSoFar names ps 0 m h h a a
cuts_none names ps m h a closed = record {
  goes = goes_still (IsFirstPiecePath names m h) h a;
  may = λ p may. may;
  stand = λ j below. absurd (omega (arith, below));
  apart = λ i j f first next at. absurd (omega (arith, next));
  closed = closed;
  is_synced = refl;
  synced = omega arith;
}

-- ---- one piece more

one_file : (o : Option ℕ) (f g : ℕ) → o ≡ Some f → o ≡ Some g → f ≡ g
one_file o f g a b = ap (λ p. unwrap_or p 0) (sym a ∙ b)

stands_later : (names : Naming) (ps : List (List ℕ)) (n : ℕ) (h h' : OpenFiles) (a b : World) → KeepsMade h h' a b
    → PiecesStand names ps n h a → PiecesStand names ps n h' b
stands_later names ps n h h' a b keeps stand j below =
    let s = stand j below in
    record {
      bytes = s.bytes;
      is_next = s.is_next;
      made = made_later h h' a b (path_in_turn names (j + 1)) s.bytes keeps s.made;
    }

-- the path of a stored piece leads to its file
file_of : (names : Naming) (ps : List (List ℕ)) (j : ℕ) (h h' : OpenFiles) (a b : World) (f : ℕ) → KeepsMade h h' a b
    → (s : PieceStands names ps j h a) → b.at (path_in_turn names (j + 1)) ≡ Some f → s.made.file ≡ f
file_of names ps j h h' a b f keeps s at =
    one_file (b.at (path_in_turn names (j + 1))) s.made.file f
    (keeps.leads (path_in_turn names (j + 1)) s.made.file s.made.there) at

apart_more : (names : Naming) (ps : List (List ℕ)) (n : ℕ) (h h' : OpenFiles) (a b : World) → KeepsMade h h' a b
    → PiecesStand names ps n h a → AreApart names n a
    → ((f : ℕ) → b.at (path_in_turn names (n + 1)) ≡ Some f → ¬ Contains h.begun f) → AreApart names (n + 1) b
apart_more names ps n h h' a b keeps stand apart fresh = λ i j f first next at at'.
    below_more (λ (k : ℕ). (i f : ℕ) → i < k → b.at (path_in_turn names (i + 1)) ≡ Some f
    → b.at (path_in_turn names (k + 1)) ≡ Some f → ⊥) n
    (λ k below i f first at at'.
    let s = stand i (omega (arith, first, below)) in
    let t = stand k below in
    apart i k t.made.file first below
    (s.made.there ∙ ap Some (file_of names ps i h h' a b f keeps s at
    ∙ sym (file_of names ps k h h' a b f keeps t at')))
    t.made.there)
    (λ i f first at at'.
    let s = stand i first in
    fresh f at' (subst (λ g. Contains h.begun g) (file_of names ps i h h' a b f keeps s at) s.made.listed))
    j next i f first at at'

apart_later : (names : Naming) (ps : List (List ℕ)) (n : ℕ) (h h' : OpenFiles) (a b : World) → KeepsMade h h' a b
    → PiecesStand names ps n h a → AreApart names n a → AreApart names n b
apart_later names ps n h h' a b keeps stand apart = λ i j f first next at at'.
    let s = stand i (omega (arith, first, next)) in
    let t = stand j next in
    apart i j t.made.file first next
    (s.made.there ∙ ap Some (file_of names ps i h h' a b f keeps s at ∙ sym (file_of names ps j h h' a b f keeps t
    at')))
    t.made.there

-- of which the files are
one_more : (names : Naming) (n : ℕ) (path : List ℕ) (h h' h'' : OpenFiles) (a b c : World)
    → path ≡ path_in_turn names (n + 1) → GoesAmong (IsFirstPiecePath names n h) h h' a b
    → ((p : List ℕ) → MayWrite p h' → MayWrite p h) → GoesAmong (λ p. (p ≡ path) × MayWrite p h') h' h'' b c
    → GoesAmong (IsFirstPiecePath names (n + 1) h) h h'' a c
one_more names n path h h' h'' a b c is_path first may next =
    goes_then (IsFirstPiecePath names (n + 1) h) h h' h'' a b c
    (goes_more (IsFirstPiecePath names n h) (IsFirstPiecePath names (n + 1) h) h h' a b
    (λ p is. record {
      allowed = is.allowed;
      index = is.index;
      below = omega (arith, is.below);
      is_path = is.is_path;
    }) first)
    (goes_more (λ p. (p ≡ path) × MayWrite p h') (IsFirstPiecePath names (n + 1) h) h' h'' b c
    (λ p is. record { allowed = may p is.1; index = n; below = omega arith; is_path = is.0 ∙ is_path }) next)

pub cuts_left : (names : Naming) (ps : List (List ℕ)) (n m : ℕ) (h h' : OpenFiles) (a b : World)
    → CutsSoFar names ps n m h h' a b → OnlyLeaves (MayWritePiece names.prefix h) h h' a b
cuts_left names ps n m h h' a b cuts = record {
  only = goes_more (IsFirstPiecePath names m h) (MayWritePiece names.prefix h) h h' a b
      (λ p is. ((number_in_turn names.from_zero (is.index + 1), is.is_path), is.allowed)) cuts.goes;
  closed = cuts.closed;
}

synced_more : (b : Bool) (s s' s'' n : ℕ) → s' ≡ s + n * (if b then 1 else 0) → s'' ≡ s' + (if b then 1 else 0)
    → s'' ≡ s + (n + 1) * (if b then 1 else 0)
synced_more true s s' s'' n first next = omega (arith, first, next)
synced_more false s s' s'' n first next = omega (arith, first, next)

pub cuts_more : (names : Naming) (ps : List (List ℕ)) (n : ℕ) (path : List ℕ) (h h' h'' : OpenFiles) (a b c : World)
    → path ≡ path_in_turn names (n + 1) → CutsSoFar names ps n n h h' a b → AddsPiece ps n path h' h'' b c
    → GoesAmong (λ p. (p ≡ path) × MayWrite p h') h' h'' b c → CutsSoFar names ps (n + 1) (n + 1) h h'' a c
cuts_more names ps n path h h' h'' a b c is_path cuts adds goes = record {
  goes = one_more names n path h h' h'' a b c is_path cuts.goes cuts.may goes;
  may = λ p may. cuts.may p (adds.may p may);
  stand = below_more (λ j. PieceStands names ps j h'' c) n (stands_later names ps n h' h'' b c adds.keeps cuts.stand)
      (record {
        bytes = adds.bytes;
        is_next = adds.is_next;
        made = subst (λ p. IsMade h'' c p adds.bytes) is_path adds.written;
      });
  apart = apart_more names ps n h' h'' b c adds.keeps cuts.stand cuts.apart
      (λ f at. adds.fresh f (subst (λ p. c.at p ≡ Some f) (sym is_path) at));
  closed = adds.keeps.closed;
  is_synced = adds.is_synced ∙ cuts.is_synced;
  synced = synced_more h.is_synced h.syncs h'.syncs h''.syncs n cuts.synced
      (subst (λ y. h''.syncs ≡ h'.syncs + (if y then 1 else 0)) cuts.is_synced adds.synced);
}

-- it could not be written
pub cuts_stop : (names : Naming) (ps : List (List ℕ)) (n : ℕ) (path : List ℕ) (h h' h'' : OpenFiles) (a b c : World)
    → path ≡ path_in_turn names (n + 1) → CutsSoFar names ps n n h h' a b → AddsNone h' h'' b c
    → GoesAmong (λ p. (p ≡ path) × MayWrite p h') h' h'' b c → CutsSoFar names ps n (n + 1) h h'' a c
cuts_stop names ps n path h h' h'' a b c is_path cuts none goes = record {
  goes = one_more names n path h h' h'' a b c is_path cuts.goes cuts.may goes;
  may = λ p may. cuts.may p (none.may p may);
  stand = stands_later names ps n h' h'' b c none.keeps cuts.stand;
  apart = apart_later names ps n h' h'' b c none.keeps cuts.stand cuts.apart;
  closed = none.keeps.closed;
  is_synced = none.is_synced ∙ cuts.is_synced;
  synced = none.synced ∙ cuts.synced;
}

-- ---- the path of a piece

is_no_standard : (x y : Bool) → (x && (y && false)) ≡ false
is_no_standard true true = refl
is_no_standard true false = refl
is_no_standard false true = refl
is_no_standard false false = refl

pub piece_path_of : (p : FileArg) (prefix : List ℕ) (n : ℕ) → p.folder ≡ None → p.number ≡ Some n → p.name.now ≡ prefix
    → path_of p ≡ piece_path prefix n
piece_path_of p prefix n folder number name =
    ap (λ o. in_folder (option_map (λ s. s.now) o) (numbered p.name.now p.number)) folder
    ∙ ap (λ o. numbered p.name.now o) number ∙ ap (λ x. numbered x (Some n)) name

pub piece_place : (p : FileArg) (prefix : List ℕ) (n : ℕ) → p.folder ≡ None → p.number ≡ Some n → p.name.now ≡ prefix
    → path_out p ≡ piece_path prefix n
piece_place p prefix n folder number name =
    let none : is_standard p ≡ false
    = ap (λ o. bytes_eq p.name.now (codes "-") && (is_none p.folder && is_none o)) number
    ∙ is_no_standard (bytes_eq p.name.now (codes "-")) (is_none p.folder) in
    ap (λ b. if b then codes "/dev/stdout" else path_of p) none ∙ piece_path_of p prefix n folder number name

-- of the file that was counted last
pub path_behind : (p : FileArg) (names before begun : PieceNaming) (count n : ℕ) → p.folder ≡ None
    → p.number ≡ Some (number_in_turn begun.is_from_zero count) → p.name ≡ before.prefix → begun ≡ before
    → before ≡ names → count ≡ n → path_out p ≡ path_in_turn (naming_of names) n
path_behind p names before begun count n folder number name same is behind =
    piece_place p names.prefix.now (number_in_turn names.is_from_zero n) folder
    (number ∙ ap (λ k. Some (number_in_turn k.is_from_zero count)) (same ∙ is)
    ∙ ap (λ k. Some (number_in_turn names.is_from_zero k)) behind)
    (ap (λ s. s.now) name ∙ ap (λ k. k.prefix.now) is)

pub path_behind_of : (p : FileArg) (names before begun : PieceNaming) (count n : ℕ) → p.folder ≡ None
    → p.number ≡ Some (number_in_turn begun.is_from_zero count) → p.name ≡ before.prefix → begun ≡ before
    → before ≡ names → count ≡ n → path_of p ≡ path_in_turn (naming_of names) n
path_behind_of p names before begun count n folder number name same is behind =
    piece_path_of p names.prefix.now (number_in_turn names.is_from_zero n) folder
    (number ∙ ap (λ k. Some (number_in_turn k.is_from_zero count)) (same ∙ is)
    ∙ ap (λ k. Some (number_in_turn names.is_from_zero k)) behind)
    (ap (λ s. s.now) name ∙ ap (λ k. k.prefix.now) is)

-- ---- all of them

length-frames : (before : ℕ) (parts : List (List Block)) → length (frames before parts) ≡ length parts
length-frames before [] = refl
length-frames before (s ∷ ss) = ap suc (length-frames (before + length s) ss)

pub all_made : (b limit made first : ℕ) (l : List Block) (st : CutterStage) → st ≡ Done
    → Made b limit l made (segments_left b limit l first st) → made ≡ length (pieces limit b l)
all_made b limit made first l st done m =
    let so : Made b limit l made [] = subst (λ s. Made b limit l made (segments_left b limit l first s)) done m in
    let parts : length (pieces limit b l) ≡ length (segments limit b l)
    = length-map (frames 0 (segments limit b l)) (piece b) ∙ length-frames 0 (segments limit b l) in
    omega (arith, parts, ap length so.all, length-append so.before [], so.count)

-- ---- the position of the cutter in the loop

-- of an image of n blocks: between two pieces, or after the last; there is at least one
pub record StandsNow (n made block : ℕ) (st : CutterStage) : Type 0 where
  pub where_is : (st ≡ Between) ⊎ (st ≡ Done)
  pub inside : block ≤ n
  pub going : st ≡ Between → (made ≡ 0) ⊎ (block < n)
  pub some : st ≡ Done → 0 < made

-- how many blocks are left, and 1 more, unless all is done
abbrev pub left_of : ℕ → ℕ → CutterStage → ℕ
left_of n block st = if has_more st then (n + 1) - block else 0

pub still_between : (st : CutterStage) → (st ≡ Between) ⊎ (st ≡ Done) → has_more st ≡ true → st ≡ Between
still_between st (inl between) more = between
still_between st (inr done) more = absurd (false≢true (sym (ap has_more done) ∙ more))

pub now_done : (st : CutterStage) → (st ≡ Between) ⊎ (st ≡ Done) → has_more st ≡ false → st ≡ Done
now_done st (inr done) none = done
now_done st (inl between) none = absurd (false≢true (sym none ∙ ap has_more between))

e_below : (e n : ℕ) → (e < n) ⊎ (n ≤ e)
e_below zero zero = inr (omega arith)
e_below zero (suc n) = inl (omega arith)
e_below (suc e) zero = inr (omega arith)
e_below (suc e) (suc n) = elim (e_below e n) [
  | inl below ↦ inl (omega (arith, below))
  | inr past ↦ inr (omega (arith, past))
]

-- after a piece from block s up to e
pub stands_more : (n made made' s e block : ℕ) (st : CutterStage) → Passed n s e st → made' ≡ made + 1 → block ≡ e
    → StandsNow n made' block st
stands_more n made made' s e block st passed one_more at = elim (e_below e n) [
  | inl below ↦ record {
    where_is = inl (passed.between below);
    inside = omega (arith, at, passed.within);
    going = λ between. inr (omega (arith, at, below));
    some = λ done. omega (arith, one_more);
  }
  | inr past ↦ record {
    where_is = inr (passed.done past);
    inside = omega (arith, at, passed.within);
    going = λ between. absurd (false≢true (sym (ap has_more (passed.done past)) ∙ ap has_more between));
    some = λ done. omega (arith, one_more);
  }
]

-- a piece of a prefix of fewer than 2^32 blocks may be counted
pub countable : (n made block : ℕ) (st : CutterStage) → StandsNow n made block st → st ≡ Between → made ≤ block
    → n < 4294967296
    → made < 4294967295
countable n made block st stands between left few = elim (stands.going between) [
  | inl none ↦ omega (arith, none)
  | inr below ↦ omega (arith, below, left, few)
]
