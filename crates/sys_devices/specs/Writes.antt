-- The calls of a device that buffers writes: `sent` was written to its file, and `held` will be appended to that.
use Rattle.std.specs.Prelude.{◌≡◌, ◌<◌, ◌≤◌, ◌+◌, ◌++◌, ◌⊎◌, [], ℕ, List, Bool, IsTrue, false, Result, IfOk, IfErr}
use Rattle.std.specs.Prelude.{OnOk, OnErr, IsErr, length, take, drop, replicate}
use Rattle.abt_io.specs.Count.{count_of}
use Rattle.abt_io.specs.Frame.{Logged, last_cut, nothing_logged}
use Rattle.abt_io.specs.declared.device.DeviceFault.{DeviceFault}
use Rattle.abt_io.specs.declared.device.DeviceFault.TheVariants.{Failed}
use Rattle.sys_file.specs.File.{Begins}

-- all that a spool took since the last clear
abbrev pub since_cut : Logged → List ℕ
since_cut g = drop (last_cut g.cuts) g.bytes

-- a file has no magic number: it is empty, or begins with four zeros
abbrev pub LeavesNoMagic : List ℕ → Type 0
LeavesNoMagic content = (content ≡ []) ⊎ Begins (replicate 4 0) content

-- a prefix of these bytes was taken, a nonempty one if there are bytes; nothing if some buffered bytes are lost
pub record TakesSome (r : Result ℕ DeviceFault) (bytes : List ℕ) (lost lost' : Bool) : Type 0 where
  pub within : count_of r ≤ length bytes
  pub progress : IfOk r (λ n. 0 < length bytes → 0 < n)
  pub failed : IfErr r (λ e. e ≡ Failed)
  pub still : IsTrue lost → IsErr r
  pub found : OnOk r (lost' ≡ false)

-- the same of one write, after all that was sent
pub record SendsSome (r : Result ℕ DeviceFault) (bytes held held' sent sent' : List ℕ) (lost lost' : Bool)
    (used used' : ℕ) : Type 0 where
  pub takes : TakesSome r bytes lost lost'
  pub more_sent : sent' ≡ sent ++ take (count_of r) bytes
  pub same_held : held' ≡ held
  pub more_used : used' ≡ used + count_of r

-- all buffered bytes were written, or some of them are lost, now or before, and are still buffered
pub record Flushes {X : Type 0} (r : Result X DeviceFault) (held held' sent sent' : List ℕ) (lost lost' : Bool)
    (used used' : ℕ) : Type 0 where
  pub none : OnOk r (held' ≡ [])
  pub whole : sent' ++ held' ≡ sent ++ held
  pub grows : Begins sent sent'
  pub found : OnOk r (lost' ≡ false)
  pub is_lost : OnErr r (IsTrue lost')
  pub still : IsTrue lost → IsErr r
  pub failed : IfErr r (λ e. e ≡ Failed)
  pub same_used : used' ≡ used

-- nothing was taken yet since the clear; or what was taken is unchanged, and lost
pub record Clears {X : Type 0} (r : Result X DeviceFault) (held held' sent sent' : List ℕ) (lost' : Bool) : Type 0 where
  pub none : OnOk r (held' ≡ [])
  pub empty : OnOk r (sent' ≡ [])
  pub found : OnOk r (lost' ≡ false)
  pub kept_held : OnErr r (held' ≡ held)
  pub kept_sent : OnErr r (sent' ≡ sent)
  pub is_lost : OnErr r (IsTrue lost')
  pub failed : IfErr r (λ e. e ≡ Failed)

-- a new spool: nothing was taken, and its file is unchanged
pub record StartsSpool (log : Logged) (capacity asked : ℕ) (lost : Bool) (stale stands : ℕ) : Type 0 where
  pub nothing : log ≡ nothing_logged
  pub as_asked : capacity ≡ asked
  pub found : lost ≡ false
  pub as_stood : stale ≡ stands

-- it is over this file, its bytes come from this one, and no read has failed because that has changed
pub record StandsOver {F A : Type 0} (its_file file : F) (its_source source : A) (is_short : Bool) : Type 0 where
  pub same_file : its_file ≡ file
  pub same_source : its_source ≡ source
  pub not_short : is_short ≡ false

-- what was taken is unchanged
pub record LeavesTaken (held held' : List ℕ) (sent sent' : Logged) (lost lost' : Bool) (used used' : ℕ)
    : Type 0 where
  pub same_held : held' ≡ held
  pub same_sent : sent' ≡ sent
  pub same_lost : lost' ≡ lost
  pub same_used : used' ≡ used

-- the same except for the buffered bytes, where they were overwritten
pub record LaysHeld (laid : Bool) (held held' : List ℕ) (sent sent' : Logged) (lost lost' : Bool) (used used' : ℕ)
    : Type 0 where
  pub kept : laid ≡ false → held' ≡ held
  pub same_sent : sent' ≡ sent
  pub same_lost : lost' ≡ lost
  pub same_used : used' ≡ used

-- nothing follows what was sent any more, or what was taken is lost
pub record CutsBehind {X : Type 0} (r : Result X DeviceFault) (held held' : List ℕ) (sent sent' : Logged)
    (lost lost' : Bool) (used used' stale' : ℕ) : Type 0 where
  pub cut : OnOk r (stale' ≡ 0)
  pub same_held : held' ≡ held
  pub same_sent : sent' ≡ sent
  pub kept : OnOk r (lost' ≡ lost)
  pub is_lost : OnErr r (IsTrue lost')
  pub failed : IfErr r (λ e. e ≡ Failed)
  pub same_used : used' ≡ used
