-- What paths lead to and files hold after one of them was written, or a path was made.
use Rattle.std.proofs.Common.{arith, suc, drop, ◌+◌, ◌≡◌, ◌≢◌, ℕ, ◌<◌, ◌≤◌, List, [], ◌∷◌, ◌++◌, Option, Some}
use Rattle.std.proofs.Common.{None, refl, sym, ◌∙◌, ap, subst}
use Rattle.std.specs.Prelude.{get_or, set, length, cond, bytes_eq, string_bytes, Bool, true, false}
use Rattle.std.proofs.lemmas.List.{map-set, get_or-set_same, get_or-set_other, drop_all, length-map}
use Rattle.std.proofs.Math.Seq.{drop-cons}
use Rattle.std.proofs.lemmas.Option.{none-some}
use Rattle.std.proofs.lemmas.Bool.{cond-true, cond-false}
use Rattle.std.proofs.lemmas.Slice.Eq.{bytes_eq-Decides}
use Rattle.mem_files.specs.Stored.{contents, leads}
use Rattle.mem_files.specs.declared.stored.MemoryFile.{MemoryFile}
use Rattle.mem_files.specs.declared.stored.MemoryPath.{MemoryPath}

more_test : (b : Bool) (x r r' : Option ℕ) (f : ℕ) → (r ≡ Some f → r' ≡ Some f) → cond b x r ≡ Some f
    → cond b x r' ≡ Some f
more_test true x r r' f h e = e
more_test false x r r' f h e = h e

-- a path that leads to a file leads there after one more
pub leads_more : (ps : List MemoryPath) (q : MemoryPath) (path : List ℕ) (f : ℕ) → leads ps path ≡ Some f
    → leads (ps ++ (q ∷ [])) path ≡ Some f
unfolding leads
leads_more [] q path f e = absurd (none-some f e)
leads_more (p ∷ ps) q path f e =
    more_test (bytes_eq path (string_bytes p.name)) (Some p.file) (leads ps path) (leads (ps ++ (q ∷ [])) path) f
    (leads_more ps q path f) e

new_test : (b : Bool) (x : ℕ) (r r' : Option ℕ) (f : ℕ) → (r ≡ None → r' ≡ Some f) → cond b (Some x) r ≡ None
    → cond b (Some x) r' ≡ Some f
new_test true x r r' f h e = absurd (none-some x (sym e))
new_test false x r r' f h e = h e

-- the path at a place of the list, and those behind it
pub leads_at : (ps : List MemoryPath) (i : ℕ) (q : MemoryPath) (name : List ℕ) → i < length ps → q ≡ get_or ps i q
    → leads (drop i ps) name ≡ cond (bytes_eq name (string_bytes q.name)) (Some q.file) (leads (drop (suc i) ps) name)
unfolding leads
leads_at ps i q name below is = ap (λ l. leads l name) (drop-cons ps i q below)
    ∙ ap (λ p. cond (bytes_eq name (string_bytes p.name)) (Some p.file) (leads (drop (suc i) ps) name)) (sym is)

pub leads_none : (name : List ℕ) → leads [] name ≡ None
unfolding leads
leads_none name = refl

-- a path that led nowhere leads to the file that was made for it
pub leads_new : (ps : List MemoryPath) (q : MemoryPath) (path : List ℕ) → leads ps path ≡ None
    → string_bytes q.name ≡ path → leads (ps ++ (q ∷ [])) path ≡ Some q.file
unfolding leads
leads_new [] q path none named = cond-true _ _ _ ((bytes_eq-Decides path (string_bytes q.name)).1 (sym named))
leads_new (p ∷ ps) q path none named =
    new_test (bytes_eq path (string_bytes p.name)) p.file (leads ps path) (leads (ps ++ (q ∷ [])) path) q.file
    (λ e. leads_new ps q path e named) none

pub holds_other : (fs : List MemoryFile) (i : ℕ) (x : MemoryFile) (f : ℕ) → f ≢ i
    → get_or (contents (set fs i x)) f [] ≡ get_or (contents fs) f []
holds_other fs i x f other = ap (λ l. get_or l f []) (map-set (λ y. y.bytes.items) fs i x)
    ∙ get_or-set_other (contents fs) i f x.bytes.items [] other

pub holds_new : (fs : List MemoryFile) (i : ℕ) (x : MemoryFile) → i < length fs
    → get_or (contents (set fs i x)) i [] ≡ x.bytes.items
holds_new fs i x below = ap (λ l. get_or l i []) (map-set (λ y. y.bytes.items) fs i x)
    ∙ get_or-set_same (contents fs) i x.bytes.items []
    (subst (λ n. i < n) (sym (length-map fs (λ y. y.bytes.items))) below)

-- the path that a loop has come to has this name
pub found_here : (ps : List MemoryPath) (i : ℕ) (q : MemoryPath) (name now : List ℕ) (b : Bool) → i < length ps
    → q ≡ get_or ps i q → leads ps name ≡ leads (drop i ps) name → b ≡ bytes_eq name now → now ≡ string_bytes q.name
    → b ≡ true → Some q.file ≡ leads ps name
found_here ps i q name now b below is kept test named holds =
    let t : bytes_eq name (string_bytes q.name) ≡ true = ap (bytes_eq name) (sym named) ∙ sym test ∙ holds in
    sym (kept ∙ leads_at ps i q name below is ∙ cond-true _ _ _ t)

-- it has another name
pub found_behind : (ps : List MemoryPath) (i : ℕ) (q : MemoryPath) (name now : List ℕ) (b : Bool) → i < length ps
    → q ≡ get_or ps i q → leads ps name ≡ leads (drop i ps) name → b ≡ bytes_eq name now → now ≡ string_bytes q.name
    → b ≡ false → leads ps name ≡ leads (drop (i + 1) ps) name
found_behind ps i q name now b below is kept test named fails =
    let t : bytes_eq name (string_bytes q.name) ≡ false = ap (bytes_eq name) (sym named) ∙ sym test ∙ fails in
    let e : suc i ≡ i + 1 = omega arith in
    kept ∙ leads_at ps i q name below is ∙ cond-false _ _ _ t ∙ ap (λ k. leads (drop k ps) name) e

-- none has
pub found_nowhere : (ps : List MemoryPath) (i : ℕ) (name : List ℕ) → length ps ≤ i
    → leads ps name ≡ leads (drop i ps) name → None ≡ leads ps name
found_nowhere ps i name past kept =
    sym (kept ∙ ap (λ l. leads l name) (drop_all i ps past) ∙ leads_none name)
