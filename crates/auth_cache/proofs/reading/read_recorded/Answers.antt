use Rattle.std.proofs.Common.{Some, None, sym, ◌∙◌, subst, refl, length}
use Rattle.auth_cache.specs.Reading.{Gives}
use Rattle.auth_cache.proofs.ReadingLemmas.{recorded_none, recorded_cut, other_version, first_version}
use Rattle.auth_cache.proofs.reading.read_recorded.Goals as goal

pub returns-in_default : goal.returns-in_default
returns-in_default c = recorded_none c.args.bytes.now c.in_default.ensures.cut

pub returns-in_default-version_on : goal.returns-in_default-version_on
returns-in_default-version_on c =
    let cut = c.in-Some.ensures.cut in
    recorded_cut c.args.bytes.now c.in-Some.line.now c.in-Some.rest.now None cut.0 cut.1 c.in_default-version_on.ensures

pub returns-then-version-ne1 : goal.returns-then-version-ne1
returns-then-version-ne1 c =
    let cut = c.in-Some.ensures.cut in
    recorded_cut c.args.bytes.now c.in-Some.line.now c.in-Some.rest.now (Some c.in-Some-version_on.version) cut.0 cut.1 c.in-Some-version_on.ensures
    ∙ other_version c.in-Some-version_on.version _ c.in-Some.rest.now c.if-version-ne1.true

pub returns : goal.returns
returns c =
    let cut = c.in-Some.ensures.cut in
    let same =
    recorded_cut c.args.bytes.now c.in-Some.line.now c.in-Some.rest.now (Some c.in-Some-version_on.version) cut.0 cut.1 c.in-Some-version_on.ensures
    ∙ first_version c.in-Some-version_on.version (length c.args.bytes.now) c.args.bytes.now c.in-Some.line.now c.in-Some.rest.now c.if-version-ne1.false refl cut.1 in
    subst (Gives c.read_lines.result) (sym same) c.read_lines.ensures
