-- When a target is authentic, and which commit is refused first.
use Rattle.std.specs.Prelude.{◌≡◌, ◌⊎◌, Some, None, IsSome}
use Rattle.child_ports.specs.KeySet.{Keys}
use Rattle.authorizations.specs.declared.scope.Scope.{Scope}
use Rattle.commit_graph.specs.Covers.{IsNew, IsRelated, ComesBefore}
use Rattle.auth_rules.specs.declared.cause.Cause.{Cause}
use Rattle.auth_rules.specs.World.{World, Id}
use Rattle.auth_rules.specs.Rules.{cause, intro_cause}
use Rattle.commit_history.specs.Members.{history, IsWhole}

-- The target is authentic under a scope and the keys of its keyring: what it and the introduction reach can be judged, the
-- introduction has no cause of refusal, one of the two reaches the other, and no commit that only the target reaches has one.
pub record IsAuthentic (w : World) (s : Scope) (keys : Keys) (target : Id) : Type 0 where
  pub whole : IsWhole w target s.intro
  pub introduced : intro_cause w s keys ≡ None
  pub related : IsRelated (history w) target s.intro
  pub authorised : (c : Id) → IsNew (history w) target s.intro c → cause w s keys c ≡ None

-- The first commit of the difference that is refused, and its cause: it has the least generation, and then the least id.
pub record IsFirstRefused (w : World) (s : Scope) (keys : Keys) (target c : Id) (why : Cause) : Type 0 where
  pub within : IsNew (history w) target s.intro c
  pub refused : cause w s keys c ≡ Some why
  pub first : (d : Id) → IsNew (history w) target s.intro d → IsSome (cause w s keys d) → (c ≡ d) ⊎ ComesBefore (history w) c d
