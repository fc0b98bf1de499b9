-- What opening an input, a partition and a file for pieces, and closing them, leave together.
use Rattle.std.proofs.Common.{◌≡◌, ◌≢◌, ℕ, ◌+◌, ◌≤◌, arith, List, [], ◌∷◌, ◌++◌, Bool, true, length, Option}
use Rattle.std.proofs.Common.{None, Some, sym, ◌∙◌, ap, subst}
use Rattle.std.specs.Prelude.{Contains, if◌then◌else◌, unwrap_or}
use Rattle.std.proofs.lemmas.List.Elements.{Contains-append_left, Contains-push}
use Rattle.abt_io.specs.Moment.{Past, past_of_file}
use Rattle.sys_disk.specs.Counts.{Cause, Counts}
use Rattle.sys_disk.specs.InPlace.{ClosesPart, OpensPart, in_place, is_settled}
use Rattle.sys_disk.specs.Spools.{OpensSpool, closed_spool, through}
use Rattle.sys_disk.specs.World.{World, OpenFiles, Spares, OpensFile, OnlyAt, untouched, in_output, Ends, SparesRest}
use Rattle.sys_disk.specs.World.{KeepsFile, MayWrite, SparesInUse, counting, number_of, reading}
use Rattle.sys_disk.proofs.Closings.{apart_from}
use Rattle.sys_disk.proofs.Worlds.{apart, may_behind, spared_behind, spared_if_may, spares_trans}
use Rattle.cmd_flash.specs.InPieces.{Across, SparesBoth}
use Rattle.cmd_flash.specs.Through.{ClosesSpool}

-- all three were closed
pub record Crossed (input path spool x p p' : List ℕ) (old new : World) (h h3 h4 h5 h' : OpenFiles) (n k m : Counts)
    (past : Past)
    : Type 1 where
  pub across : (P : List ℕ → List ℕ → List ℕ → Type 0) → P x p p' → Across input path spool old new P
  pub others : SparesBoth path spool h old new
  pub kept : KeepsFile input old new
  pub began : (cause : Cause) → h3.counts.failed cause ≡ h.counts.failed cause
  pub grew : (cause : Cause) → h3.counts.failed cause ≤ h4.counts.failed cause
  pub behind : (cause : Cause) → h5.counts.failed cause ≡ h4.counts.failed cause + n.failed cause
  pub failed : (cause : Cause) → h'.counts.failed cause
      ≡ h4.counts.failed cause + (n.failed cause + k.failed cause + m.failed cause)
  pub synced : is_settled past ≡ true → h'.syncs ≡ h.syncs + 1
  pub closed : h'.part ≡ None
  pub keeps : h'.keeps ≡ h3.keeps

-- which files were read when the third was opened
read_then : (h h' h'' : OpenFiles) (f g : ℕ) → h' ≡ reading f h → h'' ≡ in_place g h' → h''.read ≡ h.read ++ (f ∷ [])
read_then h h' h'' f g r o = ap (λ (q : OpenFiles). q.read) o ∙ ap (λ (q : OpenFiles). q.read) r

-- the file that is written in place is not the third
apart_third : (h' h'' : OpenFiles) (f s : ℕ) → h'' ≡ in_place f h' → ¬ Contains h''.begun s → f ≢ s
apart_third h' h'' f s o fresh same =
    fresh (subst (λ (q : OpenFiles). Contains q.begun s) (sym o)
    (subst (λ (z : ℕ). Contains (z ∷ h'.begun) s) (sym same)
    (Contains-append_left (s ∷ []) h'.begun s (Contains-push [] s))))

part_then : (b : Bool) (h' h'' h3 h4 h5 : OpenFiles) (f s : ℕ) (m n : Counts) → h'' ≡ in_place f h'
    → h3 ≡ through b s h'' → h4 ≡ closed_spool m h3
    → h5 ≡ counting n h4 → h5.part ≡ Some f
part_then b h' h'' h3 h4 h5 f s m n o t c l =
    ap (λ (q : OpenFiles). q.part) l ∙ ap (λ (q : OpenFiles). q.part) c ∙ ap (λ (q : OpenFiles). q.part) t
    ∙ ap (λ (q : OpenFiles). q.part) o

-- what may be written after both were opened
may_across : (spool input path x p : List ℕ) (a a' : World) (h h' h'' : OpenFiles) → OpensFile a input x h h'
    → OpensPart a' path p h' h'' → MayWrite spool h'' → MayWrite spool h
may_across spool input path x p a a' h h' h'' r o may =
    may_behind spool input x h h' a r (subst (λ (q : OpenFiles). MayWrite spool q) o.taken may)

-- only the third has changed when the partition is closed
spared : {k : Bool} (spool : List ℕ) (a a' a'' a3 a4 a5 : World) (h'' h3 : OpenFiles) → a' ≡ a → a'' ≡ a'
    → (s : OpensSpool k spool h'' h3 a'' a3)
    → SparesRest h3.spool a3 a4 → a5 ≡ a4 → Spares s.file a a5
spared spool a a' a'' a3 a4 a5 h'' h3 same same' s rest last =
    let closed : Spares s.file a3 a4 = subst (λ (q : OpenFiles). SparesRest q.spool a3 a4) s.begins rest in
    subst (λ (w : World). Spares s.file w a5) (same' ∙ same)
    (subst (λ (w : World). Spares s.file a'' w) (sym last) (spares_trans s.file a'' a3 a4 s.spares closed))

-- the partition that is closed is the one that was opened
pub this_across : {keeping : Bool} (spool : List ℕ) (past past' : Past) (a b : World) (h h3 h4 h5 : OpenFiles)
    (n : Counts) → past ≡ past_of_file (number_of h.part) → past'.file ≡ past.file → OpensSpool keeping spool h h3 a b
    → ClosesSpool h3 h4 → h5 ≡ counting n h4 → past'.file ≡ number_of h5.part
this_across spool past past' a b h h3 h4 h5 n opened same s cs gone =
    let part : h5.part ≡ h.part =
    ap (λ (q : OpenFiles). q.part) gone ∙ ap (λ (q : OpenFiles). q.part) cs.closed
    ∙ ap (λ (q : OpenFiles). q.part) s.begins in
    same ∙ ap (λ (q : Past). q.file) opened ∙ sym (ap number_of part)

failed_then : (h4 h5 h6 : OpenFiles) (n k : Counts) (past : Past) (d : Bool) (cause : Cause) → h5 ≡ counting n h4
    → (c : ClosesPart d past k h5 h6)
    → h6.counts.failed cause ≡ h4.counts.failed cause + (n.failed cause + k.failed cause + c.more.failed cause)
failed_then h4 h5 h6 n k past d cause l c =
    let one : h5.counts.failed cause ≡ h4.counts.failed cause + n.failed cause =
    ap (λ (q : OpenFiles). q.counts.failed cause) l in
    let two : h6.counts.failed cause ≡ h5.counts.failed cause + k.failed cause + c.more.failed cause =
    ap (λ (q : OpenFiles). q.counts.failed cause) c.closed in
    omega (arith, one, two)

grown : (h3 h4 : OpenFiles) (cause : Cause) → ClosesSpool h3 h4 → h3.counts.failed cause ≤ h4.counts.failed cause
grown h3 h4 cause c =
    let one : h4.counts.failed cause ≡ h3.counts.failed cause + c.failures.failed cause =
    ap (λ (q : OpenFiles). q.counts.failed cause) c.closed in
    omega (arith, one)

pub crossed : {b : Bool} (input path spool x p p' : List ℕ) (a a' a'' a3 a4 a5 c : World)
    (h h' h'' h3 h4 h5 h6 : OpenFiles) (n k : Counts)
    (past : Past) (d : Bool) → OpensFile a input x h h' → a' ≡ a → OpensPart a' path p h' h'' → a'' ≡ a'
    → OpensSpool b spool h'' h3 a'' a3 → ClosesSpool h3 h4 → SparesRest h3.spool a3 a4 → h5 ≡ counting n h4 → a5 ≡ a4
    → Ends h5.part p' a5 c → c.at ≡ a5.at → (q : ClosesPart d past k h5 h6)
    → Crossed input path spool x p p' a c h h3 h4 h5 h6 n k q.more past
crossed input path spool x p p' a a' a'' a3 a4 a5 c h h' h'' h3 h4 h5 h6 n k past d r same o same' s cs rest l last
    ends
    paths closed =
    let opened : OpensPart a path p h' h'' = subst (λ (w : World). OpensPart w path p h' h'') same o in
    let one : Spares s.file a a5 = spared spool a a' a'' a3 a4 a5 h'' h3 same same' s rest last in
    let part : h5.part ≡ Some opened.file =
    part_then _ h' h'' h3 h4 h5 opened.file s.file cs.failures n opened.taken s.begins cs.closed l in
    let after : (c.holds opened.file ≡ p') × Spares opened.file a5 c = subst (λ (q : Option ℕ). Ends q p' a5 c) part
    ends in
    let two : r.file ≢ opened.file = apart_from input path x p a h h' h'' r opened in
    let three : r.file ≢ s.file =
    apart h.read h''.read r.file s.file (read_then h h' h'' r.file opened.file r.taken opened.taken) s.free in
    let at : c.at spool ≡ Some s.file =
    ap (λ (g : List ℕ → Option ℕ). g spool) paths ∙ ap (λ (w : World). w.at spool) last
    ∙ (subst (λ (q : OpenFiles). SparesRest q.spool a3 a4) s.begins rest).paths spool s.file s.there in
    record {
      across = λ P so. record {
        from = r.file;
        onto = opened.file;
        through = s.file;
        there = r.there;
        here = opened.there;
        third = at;
        apart = two;
        apart_from = three;
        apart_onto = apart_third h' h'' opened.file s.file opened.taken s.fresh;
        so = subst (λ (z : List ℕ). P (a.holds r.file) (a.holds opened.file) z) (sym after.0)
            (subst (λ (z : List ℕ). P (a.holds r.file) z p') opened.held (subst (λ (z : List ℕ). P z p p') r.held so));
      };
      others = record {
        paths = λ q f there. ap (λ (g : List ℕ → Option ℕ). g q) paths ∙ one.paths q f there;
        files = λ f none none'. after.1.files f (λ e. none (subst (λ g. a.at path ≡ Some g) (sym e) opened.there))
            ∙ one.files f (λ e. none' (subst (λ g. c.at spool ≡ Some g) (sym e) at));
        in_use = spared_if_may path h a c (may_behind path input x h h' a r opened.allowed);
        spool_in_use = spared_if_may spool h a c
            (may_across spool input path x p a a h h' h'' r opened s.allowed);
      };
      kept = λ f there.
          let is : r.file ≡ f = ap (λ q. unwrap_or q 0) (sym r.there ∙ there) in
          after.1.files f (λ e. two (is ∙ e)) ∙ one.files f (λ e. three (is ∙ e));
      began = λ cause. ap (λ (q : OpenFiles). q.counts.failed cause) s.begins
          ∙ ap (λ (q : OpenFiles). q.counts.failed cause) opened.taken
          ∙ ap (λ (q : OpenFiles). q.counts.failed cause) r.taken;
      grew = λ cause. grown h3 h4 cause cs;
      behind = λ cause. ap (λ (q : OpenFiles). q.counts.failed cause) l;
      failed = λ cause. failed_then h4 h5 h6 n k past d cause l closed;
      synced = λ settled. ap (λ (q : OpenFiles). q.syncs) closed.closed
          ∙ ap (λ (t : Bool). h5.syncs + (if t then 1 else 0)) settled
          ∙ ap (λ (q : OpenFiles). q.syncs + 1) l ∙ ap (λ (q : OpenFiles). q.syncs + 1) cs.closed
          ∙ ap (λ (q : OpenFiles). q.syncs + 1) s.begins ∙ ap (λ (q : OpenFiles). q.syncs + 1) opened.taken
          ∙ ap (λ (q : OpenFiles). q.syncs + 1) r.taken;
      closed = ap (λ (q : OpenFiles). q.part) closed.closed;
      keeps = ap (λ (q : OpenFiles). q.keeps) closed.closed ∙ ap (λ (q : OpenFiles). q.keeps) l
          ∙ ap (λ (q : OpenFiles). q.keeps) cs.closed;
    }

-- ---- a third file that could not be opened

only_paths : (read spool : List ℕ) (a b c : World) → b ≡ a → OnlyAt read spool b c → (q : List ℕ) (f : ℕ)
    → a.at q ≡ Some f → c.at q ≡ Some f
only_paths read spool a b c same (untouched still) q f there = ap (λ (w : World). w.at q) (still ∙ same) ∙ there
only_paths read spool a b c same (in_output file at free spares) q f there =
    spares.paths q f (subst (λ (w : World). w.at q ≡ Some f) (sym same) there)

only_files : (read spool : List ℕ) (a b c : World) → b ≡ a → OnlyAt read spool b c → (f : ℕ)
    → ¬ (c.at spool ≡ Some f) → c.holds f ≡ a.holds f
only_files read spool a b c same (untouched still) f other = ap (λ (w : World). w.holds f) (still ∙ same)
only_files read spool a b c same (in_output file at free spares) f other =
    spares.files f (λ e. other (subst (λ g. c.at spool ≡ Some g) (sym e) at)) ∙ ap (λ (w : World). w.holds f) same

pub only_both : (read input path spool x p : List ℕ) (a a' b c : World) (h h' h'' : OpenFiles)
    → OpensFile a input x h h' → a' ≡ a → OpensPart a' path p h' h'' → b ≡ a' → OnlyAt read spool b c
    → SparesInUse spool h'' b c → SparesBoth path spool h a c
only_both read input path spool x p a a' b c h h' h'' r same o same' only guarded = record {
  paths = only_paths read spool a b c (same' ∙ same) only;
  files = λ f none none'. only_files read spool a b c (same' ∙ same) only f none';
  in_use = spared_if_may path h a c (may_behind path input x h h' a r o.allowed);
  spool_in_use = spared_behind spool input x h h' a a' c r same (λ used refused.
      subst (λ (q : OpenFiles). SparesInUse spool q b c) o.taken guarded used refused ∙ same');
}

beside : (input path : List ℕ) (read read' : List ℕ) (f : ℕ) (old new : World) → old.at input ≡ Some f
    → read' ≡ read ++ (f ∷ []) → OnlyAt read' path old new → KeepsFile input old new
beside input path read read' f old new at e (untouched same) = λ g there. ap (λ (w : World). w.holds g) same
beside input path read read' f old new at e (in_output file here free spares) =
    λ g there. spares.files g (λ same. apart read read' f file e free
    (ap (λ (q : Option ℕ). unwrap_or q 0) (sym at ∙ there) ∙ same))

pub only_kept : (input path spool x p : List ℕ) (a a' a'' c : World) (h h' h'' : OpenFiles) → OpensFile a input x h h'
    → a' ≡ a
    → OpensPart a' path p h' h'' → a'' ≡ a' → OnlyAt h''.read spool a'' c → KeepsFile input a c
only_kept input path spool x p a a' a'' c h h' h'' r same o same' only =
    beside input spool h.read h''.read r.file a c r.there (read_then h h' h'' r.file o.file r.taken o.taken)
    (subst (λ (w : World). OnlyAt h''.read spool w c) (same' ∙ same) only)

-- the partition holds what it held, also where its path was the third
pub part_kept : (path p : List ℕ) (a a' a'' : World) (now : ℕ → List ℕ) (h' h'' : OpenFiles) → a' ≡ a
    → OpensPart a' path p h' h'' → a'' ≡ a' → ((f : ℕ) → Contains h''.begun f → now f ≡ a''.holds f)
    → (f : ℕ) → a.at path ≡ Some f → now f ≡ a.holds f
part_kept path p a a' a'' now h' h'' same o same' keeps = λ g there.
    let here : a.at path ≡ Some o.file = subst (λ (w : World). w.at path ≡ Some o.file) same o.there in
    let is : o.file ≡ g = ap (λ (q : Option ℕ). unwrap_or q 0) (sym here ∙ there) in
    let among : Contains h''.begun g =
    subst (λ (q : OpenFiles). Contains q.begun g) (sym o.taken) (subst (λ (z : ℕ). Contains (z ∷ h'.begun) g) (sym is)
    (Contains-append_left (g ∷ []) h'.begun g (Contains-push [] g))) in
    keeps g among ∙ ap (λ (w : World). w.holds g) (same' ∙ same)
