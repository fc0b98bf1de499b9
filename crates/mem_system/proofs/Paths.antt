-- The name of a file in its folder, and the paths of a system.
use Rattle.std.proofs.Common.{◌≡◌, ◌≢◌, ◌⊎◌, inl, inr, ℕ, zero, suc, ◌<◌, List, [], ◌∷◌, ◌++◌, length, get_or}
use Rattle.std.proofs.Common.{drop, ◌+◌, Option, Some, None, true, false, Bool, sym, ◌∙◌, ap, subst, refl, arith}
use Rattle.std.proofs.Common.{Contains, codes}
use Rattle.std.specs.Prelude.{◌==◌, cond, bytes_eq, string_bytes, map}
use Rattle.std.proofs.lemmas.Bool.{cond-true, cond-false, cases_Bool, eq-eqb, ne_eqb}
use Rattle.std.proofs.lemmas.List.{drop_more, get_or-map, length-map}
use Rattle.std.proofs.lemmas.Slice.Eq.{bytes_eq-Decides}
use Rattle.sys_file.specs.Folders.{IsName, IsIn, ListsFolder}
use Rattle.sys_file.specs.System.{HasStreams}
use Rattle.mem_files.specs.Stored.{leads}
use Rattle.mem_files.specs.declared.stored.MemoryFile.{MemoryFile}
use Rattle.mem_files.specs.declared.stored.MemoryPath.{MemoryPath}
use Rattle.mem_files.proofs.Paths.{leads_more, leads_new}
use Rattle.mem_system.specs.Names.{behind_slash, name_in, names_of}
use Rattle.mem_system.specs.Table.{MayLead, stored_in}

abbrev pub HasNoSlash : List ℕ → Type 0
HasNoSlash name = (i : ℕ) → i < length name → get_or name i 0 ≢ 47

-- a text without a slash
behind_none : (name here : List ℕ) → HasNoSlash name → behind_slash name here ≡ here
unfolding behind_slash
behind_none [] here none = refl
behind_none (c ∷ cs) here none = cond-false _ _ _ (ne_eqb c 47 (none 0 (omega arith)))
    ∙ behind_none cs here (λ i l. none (suc i) (omega (arith, l)))

either : (b : Bool) (x y z : List ℕ) → x ≡ z → y ≡ z → cond b x y ≡ z
either true x y z same other = same
either false x y z same other = other

-- a name after a slash
behind_last : (front name here : List ℕ) → HasNoSlash name → behind_slash (front ++ (47 ∷ name)) here ≡ name
unfolding behind_slash
behind_last [] name here none =
    cond-true (47 == 47) (behind_slash name name) (behind_slash name here) (eq-eqb 47 47 refl)
    ∙ behind_none name name none
behind_last (c ∷ cs) name here none =
    either (c == 47) (behind_slash (cs ++ (47 ∷ name)) (cs ++ (47 ∷ name))) (behind_slash (cs ++ (47 ∷ name)) here) name
    (behind_last cs name (cs ++ (47 ∷ name)) none) (behind_last cs name here none)

pub name_alone : (name : List ℕ) → HasNoSlash name → name ≡ name_in name
name_alone name none = sym (behind_none name name none)

pub name_after : (path front name : List ℕ) → HasNoSlash name → path ≡ front ++ (47 ∷ name) → name ≡ name_in path
name_after path front name none e =
    sym (ap (λ p. behind_slash p path) e ∙ behind_last front name path none)

-- a file that is in a folder has this name
name_inside : (folder name path : List ℕ) → IsName name → IsIn folder name path → name_in path ≡ name
name_inside folder name path is (inl after) = sym (name_after path folder name is.without_slash after)
name_inside folder name path is (inr (inl alone)) =
    ap name_in alone.1 ∙ sym (name_alone name is.without_slash)
name_inside folder name path is (inr (inr top)) = sym (name_after path [] name is.without_slash top.1)

in_rest : (xs : List (List ℕ)) (x y : List ℕ) → Contains xs x → Contains (y ∷ xs) x
in_rest xs x y c = (suc c.0, omega (arith, c.1), c.2)

-- a path that leads to a file has its name among these
leads_named : (ps : List MemoryPath) (path : List ℕ) → leads ps path ≢ None → Contains (names_of ps) (name_in path)
unfolding leads
leads_named [] path some = absurd (some refl)
leads_named (p ∷ ps) path some = elim (cases_Bool (bytes_eq path (string_bytes p.name))) [
  | inl same ↦ (0, omega arith, ap name_in (sym ((bytes_eq-Decides path (string_bytes p.name)).0 same)))
  | inr other ↦
      in_rest (names_of ps) (name_in path) (name_in (string_bytes p.name))
      (leads_named ps path (λ e. some (cond-false _ _ _ other ∙ e)))
]

pub lists_all : (ps : List MemoryPath) (folder : List ℕ) (names : List (List ℕ)) → names ≡ names_of ps
    → ListsFolder (leads ps) folder names
lists_all ps folder names all name path is inside some =
    subst (λ l. Contains l name) (sym all)
    (subst (λ n. Contains (names_of ps) n) (name_inside folder name path is inside) (leads_named ps path some))

-- a path that led nowhere leads to a file
pub may_lead : (ps ps' : List MemoryPath) (q : MemoryPath) → ps' ≡ ps ++ (q ∷ []) → MayLead (leads ps) (leads ps')
may_lead ps ps' q more p f there = ap (λ l. leads l p) more ∙ leads_more ps q p f there

pub leads_there : (ps ps' : List MemoryPath) (q : MemoryPath) (path : List ℕ) → ps' ≡ ps ++ (q ∷ [])
    → leads ps path ≡ None → string_bytes q.name ≡ path → leads ps' path ≡ Some q.file
leads_there ps ps' q path more none named = ap (λ l. leads l path) more ∙ leads_new ps q path none named

pub streams_stay : (ps ps' : List MemoryPath) → MayLead (leads ps) (leads ps') → HasStreams 0 1 (leads ps)
    → HasStreams 0 1 (leads ps')
streams_stay ps ps' may has = record { input = may _ _ has.input; output = may _ _ has.output }

-- the paths of both streams
none_yet : (q : MemoryPath) (path : List ℕ) → bytes_eq path (string_bytes q.name) ≡ false → leads (q ∷ []) path ≡ None
unfolding leads
none_yet q path other = cond-false _ _ _ other

nowhere : (path : List ℕ) → leads [] path ≡ None
unfolding leads
nowhere path = refl

pub none_at_first : (ps : List MemoryPath) (name : List ℕ) → ps ≡ [] → leads ps name ≡ None
none_at_first ps name none = ap (λ l. leads l name) none ∙ nowhere name

pub none_at_second : (ps ps' : List MemoryPath) (q : MemoryPath) (name : List ℕ) → ps ≡ [] → ps' ≡ ps ++ (q ∷ [])
    → string_bytes q.name ≡ codes "/dev/stdin" → name ≡ codes "/dev/stdout" → leads ps' name ≡ None
none_at_second ps ps' q name none more first second =
    ap (λ l. leads l name) (more ∙ ap (λ l. l ++ (q ∷ [])) none)
    ∙ none_yet q name (ap (bytes_eq name) first ∙ ap (λ l. bytes_eq l (codes "/dev/stdin")) second)

-- the next of these texts
pub next_of : {X : Type 0} (text : X → List ℕ) (xs : List X) (i : ℕ) (x : X) (now : List ℕ) → i < length xs
    → x ≡ get_or xs i x → now ≡ text x → drop i (map text xs) ≡ now ∷ drop (i + 1) (map text xs)
next_of text xs i x now below is same =
    drop_more (map text xs) i [] (subst (λ n. i < n) (sym (length-map xs text)) below)
    ∙ ap (λ h. h ∷ drop (i + 1) (map text xs)) (get_or-map text xs i x [] below ∙ ap text (sym is) ∙ sym same)

-- an empty file more: the first is empty still
pub first_empty : (files files' : List MemoryFile) (file : MemoryFile) → files' ≡ files ++ (file ∷ [])
    → file.bytes.items ≡ [] → stored_in files 0 ≡ [] → stored_in files' 0 ≡ []
first_empty [] files' file more empty quiet = ap (λ l. stored_in l 0) more ∙ empty
first_empty (f ∷ fs) files' file more empty quiet = ap (λ l. stored_in l 0) more ∙ quiet
