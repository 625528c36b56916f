-- The cause of the introduction, by what was read of it.
use Rattle.std.proofs.Common.{◌≡◌, List, [], ◌∷◌, Option, Ok, Err, is_some, sym, ap, ◌∙◌}
use Rattle.std.specs.Option.{option_and_then}
use Rattle.std.specs.Result.{result_err}
use Rattle.child_ports.specs.KeySet.{Keys}
use Rattle.child_ports.specs.declared.fingerprint.Fingerprint.{Fingerprint}
use Rattle.authorizations.specs.declared.scope.Scope.{Scope}
use Rattle.auth_rules.specs.declared.cause.Cause.{Cause}
use Rattle.auth_rules.specs.declared.cause.RuleFail.{RuleFail}
use Rattle.auth_rules.specs.declared.cause.RuleFail.TheVariants.{Refused, GitFault, SigFault, Memory}
use Rattle.auth_rules.specs.declared.root.Root.{Root}
use Rattle.auth_rules.specs.World.{World}
use Rattle.auth_rules.specs.Rules.{root_of, root_fault, has_file, judgement, judged_of, signer, signature_cause, other_signer, intro_cause}
use Rattle.auth_rules.specs.Answers.{AnswersBy}
use Rattle.auth_rules.proofs.FirstLemmas.{first-found, first-next}
use Rattle.auth_rules.proofs.CauseLemmas.{signature_is}

module _ (w : World) (s : Scope) (keys : Keys) {T : Type 0} (IsValue : T → Type 0) (root : Root) (is : root_of w s.intro ≡ Ok root) where
  abbrev later : List (Option Cause)
  later = signature_cause (judged_of w s.intro) (has_file w s.intro) keys ∷ option_and_then (other_signer s) (signer w s.intro) ∷ []

  -- its signature is refused
  pub intro_refused : (IsKey : Fingerprint → Type 0) (fail : RuleFail)
      → AnswersBy (signature_cause (judgement w root.commit) (is_some root.file) keys) IsKey (Err fail) → AnswersBy (intro_cause w s keys) IsValue (Err fail)
  intro_refused IsKey (Refused found) e =
      first-next (root_fault w s.intro) later (ap result_err is)
      ∙ first-found (signature_cause (judged_of w s.intro) (has_file w s.intro) keys) _ found (sym (signature_is w s.intro root is keys) ∙ e)
  intro_refused IsKey GitFault e = tt
  intro_refused IsKey SigFault e = tt
  intro_refused IsKey Memory e = tt
