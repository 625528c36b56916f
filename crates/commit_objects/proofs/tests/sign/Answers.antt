use Rattle.std.proofs.Common.{◌-◌, [], ◌∷◌, take, length}
use Rattle.std.proofs.lemmas.Bool.Decides.{Decides-eqb}
use Rattle.std.proofs.lemmas.Slice.Eq.{ends_is}
use Rattle.commit_objects.proofs.tests.sign.Goals as goal

pub write_commit-requires-clause-lines : goal.write_commit-requires-clause-lines
write_commit-requires-clause-lines c =
    let s = c.args.signature.now in (take (length s - 1) s, (ends_is Decides-eqb s (10 ∷ []) c.ends_with.result c.ends_with.ensures.value).0 c.if-not-ends_with.false)
