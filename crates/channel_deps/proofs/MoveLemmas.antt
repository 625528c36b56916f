-- Moves, step by step.
use Rattle.std.proofs.Common.{◌≡◌, ◌≢◌, ℕ, Bool, true, false, List, [], ◌∷◌, ◌++◌, length, take, Option, Some, None, Ok, Err, refl, sym, ap, subst, ◌∙◌, codes}
use Rattle.std.specs.Prelude.{Result}
use Rattle.std.proofs.Math.Seq.{take-append_seam}
use Rattle.std.proofs.lemmas.Bool.{false≢true}
use Rattle.std.proofs.lemmas.List.{same_from_push}
use Rattle.hex.specs.Hex.{encode_lower, decode_sized}
use Rattle.hex.proofs.HexLemmas.{decode_sized-encode_lower}
use Rattle.child_ports.specs.declared.git.GitRow.{GitRow}
use Rattle.object_frames.specs.Id.{IsId}
use Rattle.object_frames.proofs.IdLemmas.{length-hex}
use Rattle.commit_graph.specs.declared.relation.Relation.{Relation}
use Rattle.commit_graph.specs.declared.relation.Relation.TheVariants as relation
use Rattle.auth_rules.specs.declared.cause.What.{What}
use Rattle.auth_rules.specs.declared.cause.What.TheVariants.{Missing}
use Rattle.auth_rules.specs.World.{Id, world_of, commit_at}
use Rattle.auth_engine.specs.declared.engine_fail.EngineFail.{EngineFail}
use Rattle.channel_clone.specs.Relations.{IsRelationAnswer}
use Rattle.channel_file.specs.declared.channel.Channel.{Channel}
use Rattle.channel_deps.specs.declared.set.Move.{Move}
use Rattle.channel_deps.specs.declared.set.Move.TheVariants.{New, Lost}
use Rattle.channel_deps.specs.declared.set_fail.SetFail.{SetFail}
use Rattle.channel_deps.specs.declared.set_fail.SetFail.TheVariants as fail
use Rattle.channel_deps.specs.declared.set_fail.SetFail.TheVariants.{Record, DeployedMissing}
use Rattle.channel_deps.specs.Answers.{Gives, OnFinding}
use Rattle.channel_deps.specs.Moves.{record_of, if_allowed, move_by, IsMoveBetween, IsMoveFrom, IsRecorded, IsMoveOver, IsMoveIn}
use Rattle.channel_deps.specs.Steps.{IsOrMemory, IsToldOf, TellsMissing, judged_move, related_move}
use Rattle.channel_deps.proofs.AnswerLemmas.{gives_finding, finding_on, refused_finding, one_gives, told_is}

related : (allowed : Bool) (channel : Channel) (old new : Id) (r : Relation) → judged_move allowed channel (related_move r) old new ≡ move_by allowed channel old new r
related true channel old new relation.Same = refl
related true channel old new relation.Ancestor = refl
related true channel old new relation.Descendant = refl
related true channel old new relation.Unrelated = refl
related false channel old new relation.Same = refl
related false channel old new relation.Ancestor = refl
related false channel old new relation.Descendant = refl
related false channel old new relation.Unrelated = refl

lost_is : (allowed : Bool) (channel : Channel) (old new : Id) → judged_move allowed channel Lost old new ≡ if_allowed allowed Lost (DeployedMissing channel.name old)
lost_is true channel old new = refl
lost_is false channel old new = refl

-- ---- the bytes of a record

pub one_digits : (bytes digits : List ℕ) (id : Id) → bytes ≡ digits ++ 10 ∷ [] → IsId id × (digits ≡ encode_lower id) → IsRecorded bytes id
one_digits bytes digits id is read = (read.0, is ∙ ap (λ (l : List ℕ). l ++ codes "\n") read.1)

pub no_digits : (bytes digits : List ℕ) → bytes ≡ digits ++ 10 ∷ [] → ((id : Id) → IsId id → digits ≢ encode_lower id) → (id : Id) → ¬ IsRecorded bytes id
no_digits bytes digits is none id read = none id read.0 (same_from_push digits (encode_lower id) 10 10 (sym is ∙ read.1)).0

-- two records of one text are of one commit
one_record : (a b : Id) (bytes : List ℕ) → IsRecorded bytes a → IsRecorded bytes b → a ≡ b
one_record a b bytes first second =
    let text : record_of a ≡ record_of b = sym first.1 ∙ second.1 in
    let long : length (encode_lower a) ≡ length (encode_lower b) = length-hex a first.0 ∙ sym (length-hex b second.0) in
    let digits : encode_lower a ≡ encode_lower b = sym (take-append_seam (encode_lower a) (codes "\n"))
    ∙ ap (λ (l : List ℕ). take (length (encode_lower a)) l) text ∙ ap (λ (n : ℕ). take n (record_of b)) long ∙ take-append_seam (encode_lower b) (codes "\n") in
    let read = sym (decode_sized-encode_lower a 20 first.0.count first.0.bytes) ∙ ap (λ (l : List ℕ). decode_sized l 20) digits ∙ decode_sized-encode_lower b 20 second.0.count second.0.bytes in
    cc

-- ---- whether a commit is missing

pub tells_there : {T : Type 0} (found : Result T What) (x : T) → found ≡ Ok x → TellsMissing found (Ok false)
tells_there found x is = ((λ no. absurd (false≢true no)), λ missing. absurd (cc))

pub tells_missing : {T : Type 0} (found : Result T What) → found ≡ Err Missing → TellsMissing found (Ok true)
tells_missing found is = ((λ _. is), λ _. refl)

pub tells_other : {T : Type 0} (found : Result T What) (what : What) → found ≡ Err what → what ≢ Missing → TellsMissing found (Ok false)
tells_other found what is other = ((λ no. absurd (false≢true no)), λ missing. let same : what ≡ Missing = cc in absurd (other same))

pub untold : {T : Type 0} (B : Type 0) (found : Result T What) (e : SetFail) (P : Type 0) → TellsMissing found (Err e) → OnFinding {T = B} (Err e) P
untold B found fail.GitFault P told = tt
untold B found fail.SigFault P told = tt
untold B found fail.KeepFault P told = tt
untold B found fail.Memory P told = tt
untold B found e P told = absurd told

-- ---- the move

module _ (rows : List GitRow) (dir : List ℕ) (allowed : Bool) (channel : Channel) (old new : Id) where
  pub between : (r : Relation) (result : Result Move SetFail) → IsRelationAnswer (world_of rows dir [] []) old new (Ok r) → Gives result (judged_move allowed channel (related_move r) old new)
      → OnFinding result (IsMoveBetween rows dir allowed channel old new result)
  between r result answer given = gives_finding result (judged_move allowed channel (related_move r) old new) (IsMoveBetween rows dir allowed channel old new) given (Ok r, answer, tt, related allowed channel old new r)

  pub not_related : (e : EngineFail) (answer : SetFail) → IsRelationAnswer (world_of rows dir [] []) old new (Err e) → IsToldOf channel e answer
      → OnFinding {T = Move} (Err answer) (IsMoveBetween rows dir allowed channel old new (Err answer))
  not_related e answer found told = told_is channel e answer (IsMoveBetween rows dir allowed channel old new) told (λ plain. (Err e, found, plain, refl))

  pub lost : (result : Result Move SetFail) → commit_at rows dir old ≡ Err Missing → Gives result (judged_move allowed channel Lost old new) → OnFinding result (IsMoveFrom rows dir allowed channel old new result)
  lost result missing given = gives_finding result (judged_move allowed channel Lost old new) (IsMoveFrom rows dir allowed channel old new) given (record {
    lost = λ _. lost_is allowed channel old new;
    there = λ other. absurd (other missing);
  })

  pub there : (result : Result Move SetFail) → commit_at rows dir old ≢ Err Missing → OnFinding result (IsMoveBetween rows dir allowed channel old new result) → OnFinding result (IsMoveFrom rows dir allowed channel old new result)
  there result other moved = finding_on result (IsMoveBetween rows dir allowed channel old new result) (IsMoveFrom rows dir allowed channel old new result) (λ step. record {
    lost = λ missing. absurd (other missing);
    there = λ _. step;
  }) moved

  pub recorded : (bytes : List ℕ) (result : Result Move SetFail) → IsRecorded bytes old → OnFinding result (IsMoveFrom rows dir allowed channel old new result) → OnFinding result (IsMoveOver rows dir allowed channel new bytes result)
  recorded bytes result is moved = finding_on result (IsMoveFrom rows dir allowed channel old new result) (IsMoveOver rows dir allowed channel new bytes result) (λ step. (
    (λ other same. subst (λ (c : Id). IsMoveFrom rows dir allowed channel c new result) (one_record old other bytes is same) step),
    (λ none. absurd (none old is)),
  )) moved

module _ (rows : List GitRow) (dir : List ℕ) (allowed : Bool) (channel : Channel) (new : Id) where
  pub no_record : (bytes : List ℕ) (answer : SetFail) → ((old : Id) → ¬ IsRecorded bytes old) → IsOrMemory (Record channel.name) answer → OnFinding {T = Move} (Err answer) (IsMoveOver rows dir allowed channel new bytes (Err answer))
  no_record bytes answer none told = gives_finding (Err answer) (Err (Record channel.name)) (IsMoveOver rows dir allowed channel new bytes) (one_gives Move (Record channel.name) answer told) ((λ old is. absurd (none old is)), λ _. refl)

  pub nothing_kept : (kept : Option (List ℕ)) → ◌≡◌ {A = Result (Option (List ℕ)) SetFail} (Ok None) (Ok kept) → IsMoveIn rows kept dir allowed channel new (Ok New)
  nothing_kept kept is = let none : None ≡ kept = cc in subst (λ (k : Option (List ℕ)). IsMoveIn rows k dir allowed channel new (Ok New)) none refl

  pub kept_over : (kept : Option (List ℕ)) (bytes : List ℕ) (result : Result Move SetFail) → ◌≡◌ {A = Result (Option (List ℕ)) SetFail} (Ok (Some bytes)) (Ok kept) → OnFinding result (IsMoveOver rows dir allowed channel new bytes result)
      → OnFinding result (IsMoveIn rows kept dir allowed channel new result)
  kept_over kept bytes result is moved = let some : Some bytes ≡ kept = cc in subst (λ (k : Option (List ℕ)). OnFinding result (IsMoveIn rows k dir allowed channel new result)) some moved

  pub not_loaded : (kept : Option (List ℕ)) (e : SetFail) → Gives {T = Option (List ℕ)} (Err e) (Ok kept) → OnFinding {T = Move} (Err e) (IsMoveIn rows kept dir allowed channel new (Err e))
  not_loaded kept e given = refused_finding Move e (Ok kept) (IsMoveIn rows kept dir allowed channel new (Err e)) given (λ is. absurd (cc))
