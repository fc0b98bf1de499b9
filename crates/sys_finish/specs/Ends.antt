-- The result of finishing an output.
use Rattle.std.specs.Prelude.{◌≡◌, [], ℕ, List, Bool, IsTrue, false}
use Rattle.abt_io.specs.Moment.{Past}
use Rattle.sys_disk.specs.World.{HasMost}
use Rattle.sys_finish.specs.declared.target.Ended.{Ended}

-- It took all that was given. If its file models its content, the file holds exactly that. If it was to be synced,
-- nothing of it is pending.
pub record EndsWith {F : Type 0} (models : Bool) (stands : F → List ℕ) (past : F → Past) (is_synced : Bool)
    (given : List ℕ) (ended : Ended F) : Type 0 where
  pub took : ended.sent.state.bytes ≡ given
  pub exact : IsTrue models → stands ended.file ≡ given
  pub settled : IsTrue models → IsTrue is_synced → (past ended.file).pending ≡ []

-- The file of an output as it is after a failure. It holds all that was given, if that is returned. It begins with most
-- of that, unless it may be marred.
pub record LetsMostGo (models : Bool) (stands : List ℕ) (is_whole is_marred : Bool) (given : List ℕ) : Type 0 where
  pub whole : IsTrue models → IsTrue is_whole → stands ≡ given
  pub most : IsTrue models → is_marred ≡ false → HasMost given stands
