-- What is found in the text of a cache.
use Rattle.std.specs.Prelude.{◌≡◌, ◌≢◌, ℕ, List, []}
use Rattle.std.specs.List.{AllByRecursion}
use Rattle.object_frames.specs.Id.{IsId}
use Rattle.authorizations.specs.declared.scope.Scope.{Scope}
use Rattle.auth_cache.specs.Entries.{AreEntries}
use Rattle.auth_cache.specs.Text.{IsScope, text_of}

-- a scope and commits, as a text can record them
pub record CanBeRecorded (scope : Scope) (ids : List (List ℕ)) : Type 0 where
  pub scope_is : IsScope scope
  pub each : AllByRecursion IsId ids
  pub commits : AreEntries ids

-- the bytes are the text of a scope and commits; these are the commits where that scope is the given one, and else
-- there are none
pub record IsFound (bytes : List ℕ) (scope : Scope) (entries : List (List ℕ)) : Type 0 where
  pub recorded : Scope
  pub ids : List (List ℕ)
  pub is : CanBeRecorded recorded ids
  pub whole : bytes ≡ text_of recorded ids
  pub same : recorded ≡ scope → entries ≡ ids
  pub other : recorded ≢ scope → entries ≡ []
