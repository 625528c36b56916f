-- What an accepted set came to: a line for each member.
use Rattle.std.specs.Prelude.{ℕ, List, ◌++◌, codes}
use Rattle.std.specs.List.{flat_map}
use Rattle.hex.specs.Hex.{encode_lower}
use Rattle.channel_deps.specs.declared.set.Move.{Move}
use Rattle.channel_deps.specs.declared.set.Move.TheVariants.{New, Same, Forward, Back, Unrelated, Lost}
use Rattle.channel_deps.specs.declared.set.Standing.{Standing}
use Rattle.channel_deps.specs.declared.set.Standing.TheVariants.{Authentic, Older, Unchecked}
use Rattle.channel_deps.specs.declared.set.Member.{Member}
use Rattle.channel_deps.specs.declared.set.SetVerdict.{SetVerdict}
use Rattle.auth_report.specs.Parts.{shown}

abbrev pub move_word : Move → List ℕ
move_word New = codes "new"
move_word Same = codes "same"
move_word Forward = codes "forward"
move_word Back = codes "back"
move_word Unrelated = codes "unrelated"
move_word Lost = codes "lost"

abbrev pub standing_word : Standing → List ℕ
standing_word Authentic = codes "authentic"
standing_word Older = codes "older"
standing_word Unchecked = codes "unchecked"

-- `NAME SP TARGET SP MOVE SP STANDING LF`
abbrev pub member_line : Member → List ℕ
member_line member = shown member.name ++ codes " " ++ encode_lower member.target ++ codes " " ++ move_word member.moved ++ codes " " ++ standing_word member.standing ++ codes "\n"

abbrev pub set_lines_text : SetVerdict → List ℕ
set_lines_text verdict = flat_map member_line verdict.members
