-- Target and metadata of a channel, step by step.
use Rattle.std.proofs.Common.{◌≡◌, ℕ, List, Option, Ok, Err, refl, sym, subst, ◌∙◌, codes}
use Rattle.std.specs.Prelude.{Result}
use Rattle.std.specs.Result.{result_map_both}
use Rattle.std.proofs.lemmas.List.Elements.{All-nil}
use Rattle.child_ports.specs.declared.git.GitRow.{GitRow}
use Rattle.channel_file.specs.declared.channel.Channel.{Channel}
use Rattle.channel_file.specs.declared.channel.Metadata.{Metadata}
use Rattle.channel_file.specs.declared.fail.ChannelFail.{ChannelFail}
use Rattle.channel_file.specs.declared.fail.ChannelFail.TheVariants as fault
use Rattle.channel_file.specs.Limits.{IsFit, IsFitMetadata}
use Rattle.channel_file.specs.Reading as reads
use Rattle.auth_rules.specs.World.{Id, onward}
use Rattle.auth_engine.specs.Answers as engine
use Rattle.auth_engine.specs.declared.engine_fail.EngineFail.{EngineFail}
use Rattle.channel_clone.specs.Files.{file_of}
use Rattle.channel_clone.specs.Resolving.{resolved}
use Rattle.channel_deps.specs.declared.set_fail.SetFail.{SetFail}
use Rattle.channel_deps.specs.declared.set_fail.SetFail.TheVariants.{Channel as OfChannel, Metadata as OfMetadata}
use Rattle.channel_deps.specs.declared.known.Known.{Known}
use Rattle.channel_deps.specs.Answers.{Gives}
use Rattle.channel_deps.specs.Places.{target_names}
use Rattle.channel_deps.specs.Reading.{in_channel, no_metadata, metadata_in, known_in}
use Rattle.channel_deps.specs.Steps.{IsToldOf, IsMetadataTold}
use Rattle.channel_deps.proofs.AnswerLemmas.{refused_gives, told_gives, one_gives}

abbrev pub with_metadata : Channel → Id → Result Metadata ChannelFail → Result Known SetFail
with_metadata channel target found = onward (result_map_both (λ x. x) (OfMetadata channel.name) found) (λ metadata. Ok (record { target = target; metadata = metadata }))

abbrev pub with_file : Channel → Id → Option (List ℕ) → Result Known SetFail
with_file channel target file = with_metadata channel target (metadata_in file)

abbrev pub with_target : List GitRow → List ℕ → Channel → Id → Result Known SetFail
with_target rows dir channel target = onward (in_channel channel (file_of rows dir target (codes ".guix-channel"))) (with_file channel target)

-- what says nothing keeps its limits
pub nothing_fit : IsFitMetadata no_metadata
nothing_fit = record { directory = tt; url = tt; keyring_reference = tt; news_file = tt; dependencies = All-nil IsFit }

-- a target is told with the channel's name
pub target_told : (channel : Channel) (e : EngineFail) (answer : SetFail) (found : Result Id EngineFail) → IsToldOf channel e answer → engine.Gives {T = Id} (Err e) found → Gives {T = Id} (Err answer) (in_channel channel found)
target_told channel e answer found told given = told_gives channel e answer found (in_channel channel found) told given (λ is. subst (λ (r : Result Id EngineFail). Err (OfChannel channel.name e) ≡ in_channel channel r) is refl)

pub target_found : (channel : Channel) (target : Id) (found : Result Id EngineFail) → Ok target ≡ found → Gives {T = Id} (Ok target) (in_channel channel found)
target_found channel target found is = subst (λ (r : Result Id EngineFail). Ok target ≡ in_channel channel r) is refl

module _ (rows : List GitRow) (dir : List ℕ) (channel : Channel) where
  pub no_target : (e : SetFail) → Gives {T = Id} (Err e) (in_channel channel (resolved rows dir (target_names channel))) → Gives {T = Known} (Err e) (known_in rows dir channel)
  no_target e given = refused_gives e (in_channel channel (resolved rows dir (target_names channel))) (known_in rows dir channel) given
      (λ is. subst (λ (r : Result Id SetFail). ◌≡◌ {A = Result Known SetFail} (Err e) (onward r (with_target rows dir channel))) is refl)

  pub no_file : (target : Id) (e : EngineFail) (answer : SetFail) → Ok target ≡ in_channel channel (resolved rows dir (target_names channel)) → engine.Gives {T = Option (List ℕ)} (Err e) (file_of rows dir target (codes ".guix-channel"))
      → IsToldOf channel e answer → Gives {T = Known} (Err answer) (known_in rows dir channel)
  no_file target e answer found given told = told_gives channel e answer (file_of rows dir target (codes ".guix-channel")) (known_in rows dir channel) told given
      (λ is. subst (λ (r : Result Id SetFail). ◌≡◌ {A = Result Known SetFail} (Err (OfChannel channel.name e)) (onward r (with_target rows dir channel))) found
      (subst (λ (f : Result (Option (List ℕ)) EngineFail). ◌≡◌ {A = Result Known SetFail} (Err (OfChannel channel.name e)) (onward (in_channel channel f) (with_file channel target))) is refl))

  -- the rest follows from the metadata
  pub file_read : (target : Id) (file : Option (List ℕ)) → Ok target ≡ in_channel channel (resolved rows dir (target_names channel)) → Ok file ≡ file_of rows dir target (codes ".guix-channel") → with_file channel target file ≡ known_in rows dir channel
  file_read target file found is = subst (λ (r : Result Id SetFail). with_file channel target file ≡ onward r (with_target rows dir channel)) found
      (subst (λ (f : Result (Option (List ℕ)) EngineFail). with_file channel target file ≡ onward (in_channel channel f) (with_file channel target)) is refl)

  pub all_read : (target : Id) (file : Option (List ℕ)) (metadata : Metadata) → Ok target ≡ in_channel channel (resolved rows dir (target_names channel)) → Ok file ≡ file_of rows dir target (codes ".guix-channel")
      → metadata_in file ≡ Ok metadata → Gives {T = Known} (Ok (record { target = target; metadata = metadata })) (known_in rows dir channel)
  all_read target file metadata found is read = subst (λ (k : Result Known SetFail). Ok (record { target = target; metadata = metadata }) ≡ k) (file_read target file found is)
      (subst (λ (m : Result Metadata ChannelFail). Ok (record { target = target; metadata = metadata }) ≡ with_metadata channel target m) (sym read) refl)

  one_fault : (target : Id) (file : Option (List ℕ)) (e : ChannelFail) (answer : SetFail) → Ok target ≡ in_channel channel (resolved rows dir (target_names channel)) → Ok file ≡ file_of rows dir target (codes ".guix-channel")
      → metadata_in file ≡ Err e → Gives {T = Known} (Err answer) (Err (OfMetadata channel.name e)) → Gives {T = Known} (Err answer) (known_in rows dir channel)
  one_fault target file e answer found is read given = subst (λ (k : Result Known SetFail). Gives {T = Known} (Err answer) k)
      (subst (λ (m : Result Metadata ChannelFail). Err (OfMetadata channel.name e) ≡ with_metadata channel target m) (sym read) refl ∙ file_read target file found is) given

  pub no_metadata_read : (target : Id) (file : Option (List ℕ)) (e : ChannelFail) (answer : SetFail) → Ok target ≡ in_channel channel (resolved rows dir (target_names channel)) → Ok file ≡ file_of rows dir target (codes ".guix-channel")
      → reads.Gives {A = Metadata} (Err e) (metadata_in file) → IsMetadataTold channel e answer → Gives {T = Known} (Err answer) (known_in rows dir channel)
  no_metadata_read target file fault.Memory answer found is read told = subst (λ (a : SetFail). Gives {T = Known} (Err a) (known_in rows dir channel)) (sym told) tt
  no_metadata_read target file e answer found is read told = one_fault target file e answer found is read (one_gives Known (OfMetadata channel.name e) answer told)
