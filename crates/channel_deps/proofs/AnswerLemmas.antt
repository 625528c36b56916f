-- Answers that stand for what is so, and refusals that are told with a channel's name.
use Rattle.std.proofs.Common.{◌≡◌, ◌≢◌, ⊎_elim, false, Err, refl, sym, subst}
use Rattle.std.specs.Prelude.{Result}
use Rattle.auth_engine.specs.Answers as engine
use Rattle.auth_engine.specs.declared.engine_fail.EngineFail.{EngineFail}
use Rattle.auth_engine.specs.declared.engine_fail.EngineFail.TheVariants as why
use Rattle.channel_file.specs.declared.channel.Channel.{Channel}
use Rattle.channel_file.specs.declared.fail.ChannelFail.{ChannelFail}
use Rattle.channel_file.specs.declared.fail.ChannelFail.TheVariants as file
use Rattle.sexp_reader.specs.declared.fail.SexpFail.TheVariants as sexp
use Rattle.channel_deps.specs.declared.set_fail.SetFail.{SetFail}
use Rattle.channel_deps.specs.declared.set_fail.SetFail.TheVariants as fail
use Rattle.channel_deps.specs.Answers.{is_git_fault, is_sig_fault, is_keep_fault, OnFinding, Gives, IsPlainFail}
use Rattle.channel_deps.specs.Steps.{IsOrMemory, IsToldOf, IsMetadataTold}

-- an answer that is a value has what the value has
pub gives_finding : {A : Type 0} (result value : Result A SetFail) (P : Result A SetFail → Type 0) → Gives result value → P value → OnFinding result (P result)
gives_finding (Err fail.GitFault) value P given has = tt
gives_finding (Err fail.SigFault) value P given has = tt
gives_finding (Err fail.KeepFault) value P given has = tt
gives_finding (Err fail.Memory) value P given has = tt
gives_finding result value P given has = subst P (sym given) has

pub finding_on : {A : Type 0} (result : Result A SetFail) (P Q : Type 0) → (P → Q) → OnFinding result P → OnFinding result Q
finding_on (Err fail.GitFault) P Q next has = tt
finding_on (Err fail.SigFault) P Q next has = tt
finding_on (Err fail.KeepFault) P Q next has = tt
finding_on (Err fail.Memory) P Q next has = tt
finding_on result P Q next has = next has

-- a refusal is the same of a part and of the whole
pub refusal_on : (A B : Type 0) (e : SetFail) (P Q : Type 0) → (P → Q) → OnFinding {T = A} (Err e) P → OnFinding {T = B} (Err e) Q
refusal_on A B fail.GitFault P Q next has = tt
refusal_on A B fail.SigFault P Q next has = tt
refusal_on A B fail.KeepFault P Q next has = tt
refusal_on A B fail.Memory P Q next has = tt
refusal_on A B e P Q next has = next has

-- the same where the part is known
pub refused_finding : {A : Type 0} (B : Type 0) (e : SetFail) (value : Result A SetFail) (Q : Type 0) → Gives {T = A} (Err e) value → (Err e ≡ value → Q) → OnFinding {T = B} (Err e) Q
refused_finding B fail.GitFault value Q given next = tt
refused_finding B fail.SigFault value Q given next = tt
refused_finding B fail.KeepFault value Q given next = tt
refused_finding B fail.Memory value Q given next = tt
refused_finding B e value Q given next = next given

pub refused_gives : {A B : Type 0} (e : SetFail) (value : Result A SetFail) (whole : Result B SetFail) → Gives {T = A} (Err e) value → (Err e ≡ value → Err e ≡ whole) → Gives {T = B} (Err e) whole
refused_gives fail.GitFault value whole given next = tt
refused_gives fail.SigFault value whole given next = tt
refused_gives fail.KeepFault value whole given next = tt
refused_gives fail.Memory value whole given next = tt
refused_gives e value whole given next = next given

-- ---- one refusal, or want of memory

itself : (A : Type 0) (e : SetFail) → Gives {T = A} (Err e) (Err e)
itself A fail.GitFault = tt
itself A fail.SigFault = tt
itself A fail.KeepFault = tt
itself A fail.Memory = tt
itself A e = refl

pub one_gives : (A : Type 0) (e answer : SetFail) → IsOrMemory e answer → Gives {T = A} (Err answer) (Err e)
one_gives A e answer told = ⊎_elim
    (λ same. subst (λ (a : SetFail). Gives {T = A} (Err a) (Err e)) (sym same) (itself A e))
    (λ none. subst (λ (a : SetFail). Gives {T = A} (Err a) (Err e)) (sym none) tt)
    told

-- ---- a refusal that is told with a channel's name

pub told_gives : {A B : Type 0} (channel : Channel) (e : EngineFail) (answer : SetFail) (value : Result A EngineFail) (whole : Result B SetFail) → IsToldOf channel e answer → engine.Gives {T = A} (Err e) value
    → (Err e ≡ value → Err (fail.Channel channel.name e) ≡ whole) → Gives {T = B} (Err answer) whole
told_gives {A} {B} channel why.GitFault answer value whole told given next = subst (λ (a : SetFail). Gives {T = B} (Err a) whole) (sym told) tt
told_gives {A} {B} channel why.SigFault answer value whole told given next = subst (λ (a : SetFail). Gives {T = B} (Err a) whole) (sym told) tt
told_gives {A} {B} channel why.KeepFault answer value whole told given next = subst (λ (a : SetFail). Gives {T = B} (Err a) whole) (sym told) tt
told_gives {A} {B} channel why.Memory answer value whole told given next = subst (λ (a : SetFail). Gives {T = B} (Err a) whole) (sym told) tt
told_gives {A} {B} channel e answer value whole told given next = ⊎_elim
    (λ same. subst (λ (a : SetFail). Gives {T = B} (Err a) whole) (sym same) (next given))
    (λ none. subst (λ (a : SetFail). Gives {T = B} (Err a) whole) (sym none) tt)
    told

pub told_finding : {B : Type 0} (A : Type 0) (channel : Channel) (e : EngineFail) (answer : SetFail) (Fact : Type 0) (P : Result B SetFail → Type 0) → IsToldOf channel e answer → engine.OnFinding {T = A} (Err e) Fact
    → (Fact → P (Err (fail.Channel channel.name e))) → OnFinding {T = B} (Err answer) (P (Err answer))
told_finding {B} A channel why.GitFault answer Fact P told has next = subst (λ (a : SetFail). OnFinding {T = B} (Err a) (P (Err a))) (sym told) tt
told_finding {B} A channel why.SigFault answer Fact P told has next = subst (λ (a : SetFail). OnFinding {T = B} (Err a) (P (Err a))) (sym told) tt
told_finding {B} A channel why.KeepFault answer Fact P told has next = subst (λ (a : SetFail). OnFinding {T = B} (Err a) (P (Err a))) (sym told) tt
told_finding {B} A channel why.Memory answer Fact P told has next = subst (λ (a : SetFail). OnFinding {T = B} (Err a) (P (Err a))) (sym told) tt
told_finding {B} A channel e answer Fact P told has next = ⊎_elim
    (λ same. subst (λ (a : SetFail). OnFinding {T = B} (Err a) (P (Err a))) (sym same) (next has))
    (λ none. subst (λ (a : SetFail). OnFinding {T = B} (Err a) (P (Err a))) (sym none) tt)
    told

-- whether it is a fault of git, of gpgv, and of the keeper
pub record SameFaults (A B : Type 0) (e : EngineFail) (answer : SetFail) : Type 0 where
  pub git : engine.is_git_fault {T = A} (Err e) ≡ is_git_fault {T = B} (Err answer)
  pub sig : engine.is_sig_fault {T = A} (Err e) ≡ is_sig_fault {T = B} (Err answer)
  pub keep : engine.is_keep_fault {T = A} (Err e) ≡ is_keep_fault {T = B} (Err answer)

pub told_faults : {A B : Type 0} (channel : Channel) (e : EngineFail) (answer : SetFail) → IsToldOf channel e answer → SameFaults A B e answer
told_faults {A} {B} channel why.GitFault answer told = subst (λ (a : SetFail). SameFaults A B why.GitFault a) (sym told) (record { git = refl; sig = refl; keep = refl })
told_faults {A} {B} channel why.SigFault answer told = subst (λ (a : SetFail). SameFaults A B why.SigFault a) (sym told) (record { git = refl; sig = refl; keep = refl })
told_faults {A} {B} channel why.KeepFault answer told = subst (λ (a : SetFail). SameFaults A B why.KeepFault a) (sym told) (record { git = refl; sig = refl; keep = refl })
told_faults {A} {B} channel why.Memory answer told = subst (λ (a : SetFail). SameFaults A B why.Memory a) (sym told) (record { git = refl; sig = refl; keep = refl })
told_faults {A} {B} channel e answer told = ⊎_elim
    (λ same. subst (λ (a : SetFail). SameFaults A B e a) (sym same) (record { git = refl; sig = refl; keep = refl }))
    (λ none. subst (λ (a : SetFail). SameFaults A B e a) (sym none) (record { git = refl; sig = refl; keep = refl }))
    told

pub told_is : {B : Type 0} (channel : Channel) (e : EngineFail) (answer : SetFail) (P : Result B SetFail → Type 0) → IsToldOf channel e answer → ((¬ engine.IsStop e) → P (Err (fail.Channel channel.name e))) → OnFinding {T = B} (Err answer) (P (Err answer))
told_is {B} channel why.GitFault answer P told has = subst (λ (a : SetFail). OnFinding {T = B} (Err a) (P (Err a))) (sym told) tt
told_is {B} channel why.SigFault answer P told has = subst (λ (a : SetFail). OnFinding {T = B} (Err a) (P (Err a))) (sym told) tt
told_is {B} channel why.KeepFault answer P told has = subst (λ (a : SetFail). OnFinding {T = B} (Err a) (P (Err a))) (sym told) tt
told_is {B} channel why.Memory answer P told has = subst (λ (a : SetFail). OnFinding {T = B} (Err a) (P (Err a))) (sym told) tt
told_is {B} channel e answer P told has = ⊎_elim
    (λ same. subst (λ (a : SetFail). OnFinding {T = B} (Err a) (P (Err a))) (sym same) (has (λ stop. stop)))
    (λ none. subst (λ (a : SetFail). OnFinding {T = B} (Err a) (P (Err a))) (sym none) tt)
    told

-- ---- what is told with a name is plain

pub told_plain : (channel : Channel) (e : EngineFail) (answer : SetFail) → IsToldOf channel e answer → IsPlainFail answer
told_plain channel why.GitFault answer told = subst IsPlainFail (sym told) tt
told_plain channel why.SigFault answer told = subst IsPlainFail (sym told) tt
told_plain channel why.KeepFault answer told = subst IsPlainFail (sym told) tt
told_plain channel why.Memory answer told = subst IsPlainFail (sym told) tt
told_plain channel e answer told = ⊎_elim
    (λ same. subst IsPlainFail (sym same) (λ stop. stop))
    (λ none. subst IsPlainFail (sym none) tt)
    told

pub metadata_plain : (channel : Channel) (e : ChannelFail) (answer : SetFail) → e ≢ file.Sexp sexp.Memory → IsMetadataTold channel e answer → IsPlainFail answer
metadata_plain channel file.Memory answer other told = subst IsPlainFail (sym told) tt
metadata_plain channel e answer other told = ⊎_elim
    (λ same. subst IsPlainFail (sym same) ((λ is. absurd (cc)), other))
    (λ none. subst IsPlainFail (sym none) tt)
    told

-- ---- what is told of metadata is no fault

pub record NoFault (B : Type 0) (answer : SetFail) : Type 0 where
  pub git : is_git_fault {T = B} (Err answer) ≡ false
  pub sig : is_sig_fault {T = B} (Err answer) ≡ false
  pub keep : is_keep_fault {T = B} (Err answer) ≡ false

pub metadata_no_fault : {B : Type 0} (channel : Channel) (e : ChannelFail) (answer : SetFail) → IsMetadataTold channel e answer → NoFault B answer
metadata_no_fault {B} channel file.Memory answer told = subst (λ (a : SetFail). NoFault B a) (sym told) (record { git = refl; sig = refl; keep = refl })
metadata_no_fault {B} channel e answer told = ⊎_elim
    (λ same. subst (λ (a : SetFail). NoFault B a) (sym same) (record { git = refl; sig = refl; keep = refl }))
    (λ none. subst (λ (a : SetFail). NoFault B a) (sym none) (record { git = refl; sig = refl; keep = refl }))
    told
