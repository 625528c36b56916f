-- Why bytes are no text of a cache.
use Rattle.std.specs.Prelude.{◌≡◌, ◌≢◌, ℕ, ◌≤◌, ◌<◌, ◌^◌, List, ◌++◌, length, codes, decimal}
use Rattle.std.specs.List.{flat_map}
use Rattle.auth_cache.specs.declared.fail.CacheFail.{CacheFail}
use Rattle.auth_cache.specs.declared.fail.CacheFail.TheVariants.{Version, Form, Memory}
use Rattle.auth_cache.specs.declared.front.Recorded.{Recorded}
use Rattle.auth_cache.specs.Lines.{line, Begins}
use Rattle.auth_cache.specs.Text.{spelling, IsRecorded}

-- the first line names another version than 1
pub record NamesVersion (text : List ℕ) (n : ℕ) : Type 0 where
  pub other : n ≢ 1
  pub fits : n < 2 ^ 32
  pub rest : List ℕ
  pub whole : text ≡ line (codes "guix-auth-cache " ++ decimal n) ++ rest

-- lines that both the bytes and some text of a cache begin with
pub record Fits (lines : List (List ℕ)) (bytes : List ℕ) : Type 0 where
  pub here : Begins lines bytes
  pub parts : Recorded
  pub is : IsRecorded parts
  pub there : Begins lines (spelling parts)

-- no text of a cache, and this is the length of the longest front of lines that fit
pub record IsFormFault (bytes : List ℕ) (at : ℕ) : Type 0 where
  pub no_other_version : (n : ℕ) → NamesVersion bytes n → ⊥
  pub no_text : (parts : Recorded) → IsRecorded parts → bytes ≢ spelling parts
  pub front : List (List ℕ)
  pub fits : Fits front bytes
  pub size : length (flat_map line front) ≡ at
  pub longest : (lines : List (List ℕ)) → Fits lines bytes → length (flat_map line lines) ≤ at

abbrev pub IsFault : List ℕ → CacheFail → Type 0
IsFault bytes (Version n) = NamesVersion bytes n
IsFault bytes (Form at) = IsFormFault bytes at
IsFault bytes Memory = Unit {0}
