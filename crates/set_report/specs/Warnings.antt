-- The warnings on the channels of an accepted set. They are this project's own.
use Rattle.std.specs.Prelude.{ℕ, bytes_eq, if◌then◌else◌, Option, Some, None, List, [], ◌++◌, codes}
use Rattle.std.specs.List.{flat_map}
use Rattle.channel_deps.specs.declared.set.Member.{Member}
use Rattle.channel_deps.specs.declared.set.SetVerdict.{SetVerdict}
use Rattle.auth_report.specs.Parts.{line_of, shown}

-- the warning on a mirror
abbrev pub mirror_line : List ℕ → List ℕ → List ℕ → List ℕ
mirror_line name url primary = line_of (codes "warning: channel " ++ shown name ++ codes " is fetched from " ++ shown url ++ codes ", a mirror of " ++ shown primary)

-- the same where a channel is fetched from this address and says, if anything, that it is at another
abbrev mirror_of : List ℕ → List ℕ → Option (List ℕ) → List ℕ
mirror_of name url None = []
mirror_of name url (Some primary) = if bytes_eq primary url then [] else mirror_line name url primary

-- the warning on a channel that is fetched from elsewhere than it says
abbrev pub mirror_warning : Member → List ℕ
mirror_warning member = mirror_of member.name member.url member.primary

-- the warning on a channel that isn't authenticated
abbrev pub unauthenticated_line : List ℕ → List ℕ
unauthenticated_line name = line_of (codes "warning: channel " ++ shown name ++ codes " has no introduction and is not authenticated")

-- the warning on a channel without an introduction
abbrev pub unauthenticated_warning : Member → List ℕ
unauthenticated_warning member = if member.introduced then [] else unauthenticated_line member.name

abbrev pub member_warnings : Member → List ℕ
member_warnings member = mirror_warning member ++ unauthenticated_warning member

abbrev pub set_warnings_text : SetVerdict → List ℕ
set_warnings_text verdict = flat_map member_warnings verdict.members
