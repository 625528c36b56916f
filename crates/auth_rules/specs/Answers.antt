-- What the checks of one commit answer.
use Rattle.std.specs.Prelude.{◌≡◌, ℕ, [], ◌∷◌, Bool, true, false, Option, Some, None, Result, Ok, Err, is_none, if◌then◌else◌}
use Rattle.std.specs.FinMap as map
use Rattle.child_ports.specs.Causes.{one_more}
use Rattle.commit_graph.specs.History.{Commits, Holds, IsParent}
use Rattle.auth_rules.specs.declared.cause.What.{What}
use Rattle.auth_rules.specs.declared.cause.Cause.{Cause}
use Rattle.auth_rules.specs.declared.cause.RuleFail.{RuleFail}
use Rattle.auth_rules.specs.declared.cause.RuleFail.TheVariants.{Refused, GitFault, SigFault, Memory}
use Rattle.auth_rules.specs.declared.read_fail.ReadFail.{ReadFail}
use Rattle.auth_rules.specs.declared.read_fail.ReadFail.TheVariants as read
use Rattle.auth_rules.specs.World.{World, Id}
use Rattle.auth_rules.specs.Rules.{parents_of, first, root_fault, unreadable, unsigned, judged_of}

-- ---- the graph

-- the graph holds the commit, the parents that it lists for it, and the parents that it lists for these
pub record HoldsFamily (held : Commits) (c : Id) : Type 0 where
  pub itself : Holds held c
  pub parents : (p : Id) → IsParent held c p → Holds held p
  pub grandparents : (p q : Id) → IsParent held c p → IsParent held p q → Holds held q

-- the graph lists the parents that its commits name, and none for a commit that can't be read
abbrev pub ListsParents : World → Commits → Type 0
ListsParents w held = (c : Id) → Holds held c → map.get held c ≡ Some (parents_of w c)

-- ---- answers

-- Ok with such a value exactly where there is no cause, else refused with the cause. A fault and want of memory have clauses
-- of their own.
abbrev pub AnswersBy : {T : Type 0} → Option Cause → (T → Type 0) → Result T RuleFail → Type 0
AnswersBy cause IsValue (Ok value) = (cause ≡ None) × IsValue value
AnswersBy cause IsValue (Err (Refused found)) = cause ≡ Some found
AnswersBy cause IsValue (Err GitFault) = Unit {0}
AnswersBy cause IsValue (Err SigFault) = Unit {0}
AnswersBy cause IsValue (Err Memory) = Unit {0}

-- What a reading answered is this, unless a call failed or memory was wanting.
abbrev pub Reads : {T : Type 0} → Result T ReadFail → Result T What → Type 0
Reads (Ok found) value = value ≡ Ok found
Reads (Err (read.Unreadable what)) value = value ≡ Err what
Reads (Err read.GitFault) value = Unit {0}
Reads (Err read.Memory) value = Unit {0}

-- ---- faults

abbrev pub is_git_fault : {T : Type 0} → Result T RuleFail → Bool
is_git_fault (Err GitFault) = true
is_git_fault _ = false

abbrev pub is_sig_fault : {T : Type 0} → Result T RuleFail → Bool
is_sig_fault (Err SigFault) = true
is_sig_fault _ = false

abbrev pub is_read_fault : {T : Type 0} → Result T ReadFail → Bool
is_read_fault (Err read.GitFault) = true
is_read_fault _ = false

-- ---- questions

-- gpgv is asked of a signed commit for which all that is consulted can be read
abbrev pub is_asked : World → Id → Bool
is_asked w c = is_none (first (unreadable w c ∷ unsigned (judged_of w c) ∷ []))

-- of the introduction likewise, where only it and its root tree are consulted
abbrev pub is_intro_asked : World → Id → Bool
is_intro_asked w i = is_none (first (root_fault w i ∷ unsigned (judged_of w i) ∷ []))

-- the count of questions is one more where one was due, and else as before
abbrev pub AskedWhen : Bool → ℕ → ℕ → Type 0
AskedWhen due before now = now ≡ (if due then one_more before else before)

-- the questions that a verdict took: one where it was due, else none. A fault and want of memory may come before it or behind it.
abbrev pub Asks : {T : Type 0} → Bool → Result T RuleFail → ℕ → ℕ → Type 0
Asks due (Ok value) before now = AskedWhen due before now
Asks due (Err (Refused cause)) before now = AskedWhen due before now
Asks due (Err GitFault) before now = Unit {0}
Asks due (Err SigFault) before now = Unit {0}
Asks due (Err Memory) before now = Unit {0}
