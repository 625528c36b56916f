-- Sets that can be checked.
use Rattle.std.specs.Prelude.{◌≡◌, true}
use Rattle.name_limits.specs.Limits.{is_word, is_path}
use Rattle.channel_file.specs.Limits.{AreListed}
use Rattle.channel_deps.specs.declared.set.SetTask.{SetTask}

-- The given channels can stand in a list: at most 256 of different names, which keep their limits. The folder of the clones has
-- 1 to 4,096 bytes, none below 32 and none 127.
pub record FitsSet (s : SetTask) : Type 0 where
  pub channels : AreListed s.channels
  pub path : is_path s.clones ≡ true
  pub word : is_word s.clones ≡ true
