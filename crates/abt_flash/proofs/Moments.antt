-- Moments of a flash.
use Rattle.std.proofs.Common.{◌≡◌, ℕ, ◌+◌, ◌*◌, ◌≤◌, Bool, false, List, [], ◌∷◌, ◌++◌, length, replicate, suc, Option}
use Rattle.std.proofs.Common.{Some, sym, ap, ◌∙◌, arith, inl, inr, refl, subst}
use Rattle.std.specs.List.{concat}
use Rattle.std.specs.Prelude.{slice_get}
use Rattle.abt_io.specs.Moment.{Moment, Keeps, KeepsUnsynced, EachSince, in_range, put_at}
use Rattle.abt_io.proofs.Moments.{keeps_then, keeps_within, since_then, since_weaker, none_since, put_then}
use Rattle.abt_io.proofs.Words.{words_add, length_words}
use Rattle.abt_flash.specs.Laying.{During}

-- a run of calls that touch only what is touched, after another
pub unsynced_then : (touched inner : ℕ → Bool) (m0 m m' : Moment) (a b c : List Moment)
    → ((i : ℕ) → touched i ≡ false → inner i ≡ false)
    → Keeps touched m0 m → m.synced ≡ m0.synced → Keeps inner m m' → EachSince a b (KeepsUnsynced touched m0)
    → EachSince b c (KeepsUnsynced inner m)
    → Keeps touched m0 m' × EachSince a c (KeepsUnsynced touched m0)
unsynced_then touched inner m0 m m' a b c f h same k so_far now = (
  keeps_then touched m0 m m' h (keeps_within inner touched m m' f k),
  since_then a b c (KeepsUnsynced touched m0) so_far
      (since_weaker b c (KeepsUnsynced inner m) (KeepsUnsynced touched m0)
      (λ n e. record {
        kept = keeps_then touched m0 m n h (keeps_within inner touched m n f e.kept);
        synced = e.synced ∙ same;
      }) now),
)

-- some more words after those that are written
pub words_more : (c now new part w : List ℕ) (at done some : ℕ) → length w ≡ 4 → at + 4 * done ≤ length c
    → now ≡ put_at c at (concat (replicate done w)) → part ≡ concat (replicate some w)
    → new ≡ put_at now (at + 4 * done) part → new ≡ put_at c at (concat (replicate (done + some) w))
words_more c now new part w at done some l room before p e =
    let x = concat (replicate done w) in
    let long : length x ≡ 4 * done = length_words done w l in
    e ∙ ap (λ (q : List ℕ). put_at q (at + 4 * done) part) before
    ∙ ap (λ (k : ℕ). put_at (put_at c at x) (at + k) part) (sym long)
    ∙ put_then c x part at (omega (arith, long, room))
    ∙ ap (λ (q : List ℕ). put_at c at (x ++ q)) p
    ∙ ap (put_at c at) (sym (words_add done some w))

-- a call in which no sync succeeds, as one that lasts to a state e
pub during_unsynced : (touched : ℕ → Bool) (m e : Moment) (a b : List Moment)
    → EachSince a b (KeepsUnsynced touched m) → EachSince a b (During touched m e)
during_unsynced touched m e a b h =
    since_weaker a b (KeepsUnsynced touched m) (During touched m e)
    (λ n k. record { kept = k.kept; synced = inl k.synced }) h

-- a call whose states are all like its last
pub during_last : (touched : ℕ → Bool) (m e : Moment) (a b : List Moment) → Keeps touched m e
    → EachSince a b (λ n. n ≡ e) → EachSince a b (During touched m e)
during_last touched m e a b k h =
    since_weaker a b (λ n. n ≡ e) (During touched m e)
    (λ n q. record { kept = subst (λ (x : Moment). Keeps touched m x) (sym q) k; synced = inr q }) h

pub during_none : (touched : ℕ → Bool) (m e : Moment) (a : List Moment) → EachSince a a (During touched m e)
during_none touched m e a = none_since a (During touched m e)

-- what may be touched may grow
pub during_within : (touched more : ℕ → Bool) (m e : Moment) (a b : List Moment)
    → ((i : ℕ) → more i ≡ false → touched i ≡ false) → EachSince a b (During touched m e)
    → EachSince a b (During more m e)
during_within touched more m e a b f h =
    since_weaker a b (During touched m e) (During more m e)
    (λ n k. record { kept = keeps_within touched more m n f k.kept; synced = k.synced }) h

-- where no sync succeeded, none did before
pub unsynced_during : (touched : ℕ → Bool) (m e : Moment) (a b : List Moment) → e.synced ≡ m.synced
    → EachSince a b (During touched m e) → EachSince a b (KeepsUnsynced touched m)
unsynced_during touched m e a b same h = since_weaker a b (During touched m e) (KeepsUnsynced touched m)
    (λ n k. record {
      kept = k.kept;
      synced = elim k.synced [
        | inl q ↦ q
        | inr q ↦ ap (λ (x : Moment). x.synced) q
            ∙ same
      ];
    }) h

-- a step after others: what is touched grows from one to the next
pub during_then : (touched inner : ℕ → Bool) (m0 m e : Moment) (a b c : List Moment)
    → ((i : ℕ) → touched i ≡ false → inner i ≡ false)
    → Keeps touched m0 m → m.synced ≡ m0.synced → EachSince a b (KeepsUnsynced touched m0)
    → EachSince b c (During inner m e) → EachSince a c (During touched m0 e)
during_then touched inner m0 m e a b c f h same so_far now =
    since_then a b c (During touched m0 e) (during_unsynced touched m0 e a b so_far)
    (since_weaker b c (During inner m e) (During touched m0 e)
    (λ n k. record {
      kept = keeps_then touched m0 m n h (keeps_within inner touched m n f k.kept);
      synced = elim k.synced [ inl q ↦ inl (q ∙ same) | inr q ↦ inr q ];
    }) now)

-- ---- a sync

some_of : (x y : ℕ) → (let a : Option ℕ = Some x in let b : Option ℕ = Some y in a ≡ b) → x ≡ y
some_of x y e = cc

ext_slice : (xs ys : List ℕ) → length xs ≡ length ys → ((i : ℕ) → slice_get xs i ≡ slice_get ys i) → xs ≡ ys
ext_slice [] [] e h = refl
ext_slice [] (y ∷ ys) e h = absurd (omega (arith, e))
ext_slice (x ∷ xs) [] e h = absurd (omega (arith, e))
ext_slice (x ∷ xs) (y ∷ ys) e h =
    let rest : xs ≡ ys = ext_slice xs ys (omega (arith, e)) (λ i. h (suc i)) in
    let here : x ≡ y = some_of x y (h 0) in
    cc

-- what touches nothing leaves the content
pub same_content : (m n : Moment) → Keeps (λ _. false) m n → n.content ≡ m.content
same_content m n k = ext_slice n.content m.content k.size (λ i. k.bytes i refl)

-- a write of n bytes, where no sync succeeds
pub during_put : (at n k : ℕ) (m e : Moment) (a b : List Moment) → n ≡ k
    → EachSince a b (KeepsUnsynced (in_range at n) m) → EachSince a b (During (in_range at k) m e)
during_put at n k m e a b same h =
    subst (λ (j : ℕ). EachSince a b (During (in_range at j) m e)) same (during_unsynced (in_range at n) m e a b h)

-- a sync
pub during_sync : (touched : ℕ → Bool) (m e : Moment) (a b : List Moment) → Keeps (λ _. false) m e
    → EachSince a b (λ n. n ≡ e) → EachSince a b (During touched m e)
during_sync touched m e a b k h = during_last touched m e a b (keeps_within (λ _. false) touched m e (λ i t. refl) k) h

pub unsynced_within : (touched more : ℕ → Bool) (m : Moment) (a b : List Moment)
    → ((i : ℕ) → more i ≡ false → touched i ≡ false) → EachSince a b (KeepsUnsynced touched m)
    → EachSince a b (KeepsUnsynced more m)
unsynced_within touched more m a b f h =
    since_weaker a b (KeepsUnsynced touched m) (KeepsUnsynced more m)
    (λ n k. record { kept = keeps_within touched more m n f k.kept; synced = k.synced }) h
