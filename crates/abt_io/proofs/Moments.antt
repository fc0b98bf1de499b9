-- Moments of a partition.
use Rattle.std.proofs.Common.{◌≡◌, ℕ, ◌+◌, ◌-◌, ◌≤◌, Bool, false, List, [], ◌∷◌, ◌++◌, length, take, drop, refl, sym}
use Rattle.std.proofs.Common.{◌∙◌, ap, subst, arith, append_assoc, length-append}
use Rattle.std.proofs.lemmas.List.{take_at, take_rest, drop-drop, length-take-le}
use Rattle.std.proofs.Math.Seq.{drop-append-add}
use Rattle.std.proofs.lemmas.Bool.Decides.{nat_tests}
use Rattle.abt_io.proofs.Parts.{take_plus}
use Rattle.std.specs.List.{AllByRecursion}
use Rattle.abt_io.specs.Moment.{Moment, Past, Keeps, KeepsUnsynced, EachSince, Through, moment_of, wrote, settled}
use Rattle.abt_io.specs.Moment.{in_range, put_at}

-- one state more, which is now
pub one_more : (old new : Past) (content : List ℕ) → new.moments ≡ moment_of new content ∷ old.moments
    → EachSince old.moments new.moments (λ m. m ≡ moment_of new content)
one_more old new content e = record { fresh = moment_of new content ∷ []; joined = e; each = (refl, tt) }

pub one_wrote : (old new : Past) (content : List ℕ) (at n : ℕ) → new ≡ wrote old content at n
    → EachSince old.moments new.moments (λ m. m ≡ moment_of new content)
one_wrote old new content at n e = subst (λ p. EachSince old.moments p.moments (λ m. m ≡ moment_of p content)) (sym e)
    (one_more old (wrote old content at n) content refl)

pub one_settled : (old new : Past) (content : List ℕ) → new ≡ settled old content
    → EachSince old.moments new.moments (λ m. m ≡ moment_of new content)
one_settled old new content e = subst (λ p. EachSince old.moments p.moments (λ m. m ≡ moment_of p content)) (sym e)
    (one_more old (settled old content) content refl)

All_joined : (P : Moment → Type 0) (xs ys : List Moment) → AllByRecursion P xs → AllByRecursion P ys
    → AllByRecursion P (xs ++ ys)
All_joined P [] ys h k = k
All_joined P (x ∷ xs) ys h k = (h.0, All_joined P xs ys h.1 k)

All_weaker : (P Q : Moment → Type 0) → ((m : Moment) → P m → Q m) → (xs : List Moment) → AllByRecursion P xs
    → AllByRecursion Q xs
All_weaker P Q f [] h = h
All_weaker P Q f (x ∷ xs) h = (f x h.0, All_weaker P Q f xs h.1)

-- no call was made
pub none_since : (ms : List Moment) (P : Moment → Type 0) → EachSince ms ms P
none_since ms P = record { fresh = []; joined = refl; each = tt }

-- one run of calls after another
pub since_then : (a b c : List Moment) (P : Moment → Type 0) → EachSince a b P → EachSince b c P → EachSince a c P
since_then a b c P h k = record {
  fresh = k.fresh ++ h.fresh;
  joined = k.joined ∙ ap (λ (l : List Moment). k.fresh ++ l) h.joined ∙ sym (append_assoc k.fresh h.fresh a);
  each = All_joined P k.fresh h.fresh k.each h.each;
}

pub since_weaker : (a b : List Moment) (P Q : Moment → Type 0) → ((m : Moment) → P m → Q m) → EachSince a b P
    → EachSince a b Q
since_weaker a b P Q f h = record { fresh = h.fresh; joined = h.joined; each = All_weaker P Q f h.fresh h.each }

-- each state of the calls is like the last, which has P
pub since_last : (a b : List Moment) (last : Moment) (P : Moment → Type 0) → P last → EachSince a b (λ m. m ≡ last)
    → EachSince a b P
since_last a b last P p = since_weaker a b (λ m. m ≡ last) P (λ m e. subst P (sym e) p)

pub keeps_same : (touched : ℕ → Bool) (m : Moment) → Keeps touched m m
keeps_same touched m = record { same = refl; size = refl; bytes = λ i t. refl; pending = λ i t p. p }

pub keeps_then : (touched : ℕ → Bool) (a b c : Moment) → Keeps touched a b → Keeps touched b c → Keeps touched a c
keeps_then touched a b c h k = record {
  same = k.same ∙ h.same;
  size = k.size ∙ h.size;
  bytes = λ i t. k.bytes i t ∙ h.bytes i t;
  pending = λ i t p. k.pending i t (h.pending i t p);
}

pub keeps_within : (touched more : ℕ → Bool) (a b : Moment) → ((i : ℕ) → more i ≡ false → touched i ≡ false)
    → Keeps touched a b → Keeps more a b
keeps_within touched more a b f h = record {
  same = h.same;
  size = h.size;
  bytes = λ i t. h.bytes i (f i t);
  pending = λ i t p. h.pending i (f i t) p;
}

-- a part of a range
pub within_part : (at d k n i : ℕ) → d + k ≤ n → in_range at n i ≡ false → in_range (at + d) k i ≡ false
within_part at d k n i le h = grind (arith, nat_tests)

-- one call more, which touches only what may be touched, and in which no sync succeeds
pub unsynced_more : (touched inner : ℕ → Bool) (m0 m m' : Moment) (a b c : List Moment)
    → ((i : ℕ) → touched i ≡ false → inner i ≡ false)
    → Keeps touched m0 m → Keeps inner m m' → EachSince a b (KeepsUnsynced touched m0) → EachSince b c (λ x. x ≡ m')
    → m'.synced ≡ m0.synced → Keeps touched m0 m' × EachSince a c (KeepsUnsynced touched m0)
unsynced_more touched inner m0 m m' a b c f h k so_far now same =
    let kept = keeps_then touched m0 m m' h (keeps_within inner touched m m' f k) in (
      kept,
      since_then a b c (KeepsUnsynced touched m0) so_far (since_last b c m' (KeepsUnsynced touched m0) record
          { kept = kept; synced = same } now),
    )

-- a write that goes on where the last one ended
pub put_then : (c x y : List ℕ) (at : ℕ) → at + length x ≤ length c
    → put_at (put_at c at x) (at + length x) y ≡ put_at c at (x ++ y)
put_then c x y at le =
    let a = take at c ++ x in
    let r = drop (at + length x) c in
    let long : length a ≡ at + length x =
    omega (arith, length-append (take at c) x, length-take-le at c (omega arith)) in
    let front : take (at + length x) (a ++ r) ≡ a = take_at a r (at + length x) long in
    let back : drop (at + length x + length y) (a ++ r) ≡ drop (at + length (x ++ y)) c =
    ap (λ (k : ℕ). drop (k + length y) (a ++ r)) (sym long) ∙ drop-append-add a r (length y)
    ∙ drop-drop (length y) (at + length x) c ∙ ap (λ (k : ℕ). drop k c) (omega (arith, length-append x y)) in
    ap (λ (l : List ℕ). l ++ y ++ drop (at + length x + length y) (a ++ r)) front
    ∙ ap (λ (l : List ℕ). a ++ y ++ l) back
    ∙ ap (λ (l : List ℕ). l ++ drop (at + length (x ++ y)) c) (append_assoc (take at c) x y)

-- one write more of `bytes`, from `&bytes[d..]`
pub put_on : (c now new bytes : List ℕ) (at d n : ℕ) → d ≤ length bytes → at + d ≤ length c
    → now ≡ put_at c at (take d bytes) → new ≡ put_at now (at + d) (take n (take (length bytes - d) (drop d bytes)))
    → new ≡ put_at c at (take (d + n) bytes)
put_on c now new bytes at d n le room before e =
    let long = length-take-le d bytes le in
    let rest = take n (drop d bytes) in
    e ∙ ap (λ (l : List ℕ). put_at now (at + d) (take n l)) (take_rest bytes d)
    ∙ ap (λ (l : List ℕ). put_at l (at + d) rest) before
    ∙ ap (λ (k : ℕ). put_at (put_at c at (take d bytes)) (at + k) rest) (sym long)
    ∙ put_then c (take d bytes) rest at (omega arith)
    ∙ ap (put_at c at) (take_plus d n bytes)

-- one run of calls after another, which both touch only what may be touched
pub runs_joined : (touched : ℕ → Bool) (m0 m m' : Moment) (a b c : List Moment) → Keeps touched m0 m
    → Keeps touched m m' → EachSince a b (Keeps touched m0) → EachSince b c (Keeps touched m)
    → Keeps touched m0 m' × EachSince a c (Keeps touched m0)
runs_joined touched m0 m m' a b c h k so_far then_on = (
  keeps_then touched m0 m m' h k,
  since_then a b c (Keeps touched m0) so_far
      (since_weaker b c (Keeps touched m) (Keeps touched m0) (λ n e. keeps_then touched m0 m n h e) then_on),
)

through_from : (touched : ℕ → Bool) (m0 m : Moment) (ns : List Moment) → Keeps touched m0 m → Through touched m ns
    → AllByRecursion (Keeps touched m0) ns
through_from touched m0 m [] h k = tt
through_from touched m0 m (n ∷ ns) h k =
    let now = keeps_then touched m0 m n h k.0 in
    (now, through_from touched m0 n ns now k.1)

-- each state of a run keeps what isn't touched as it was at the first
pub through_all : (touched : ℕ → Bool) (m : Moment) (ns : List Moment) → Through touched m ns
    → AllByRecursion (Keeps touched m) ns
through_all touched m ns k = through_from touched m m ns (keeps_same touched m) k
