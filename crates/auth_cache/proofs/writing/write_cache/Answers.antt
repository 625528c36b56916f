use Rattle.std.proofs.Common.{◌++◌, ap, ◌∙◌, subst}
use Rattle.std.specs.List.{AllByRecursion, flat_map}
use Rattle.object_frames.specs.Id.{IsId}
use Rattle.auth_cache.specs.Reading.{cache_of}
use Rattle.auth_cache.specs.Text.{commit_line, heading}
use Rattle.auth_cache.proofs.CacheLemmas.{written, can_be, cache_same}
use Rattle.auth_cache.proofs.writing.write_cache.Goals as goal

pub returns-clause-text : goal.returns-clause-text
returns-clause-text c =
    let scope = c.args.scope.now in
    written scope c.args.entries.now c.as_slice.result.now c.push_heading.new.text c.push_keys.new.text c.push_commits.new.text c.extend.new.self c.as_slice.ensures.keys c.as_slice.ensures.ascending
    (c.in_ok-push_heading.ensures.text ∙ ap (λ t. t ++ heading scope.intro scope.signer scope.keyring_tree) c.new-text.ensures)
    c.in_ok-push_keys.ensures.text
    (c.in_ok-push_commits.ensures.text ∙ ap (λ ids. c.push_keys.new.text ++ flat_map commit_line ids) c.as_slice-2.ensures.ids)
    c.in_ok-extend.ensures.ok

pub returns-clause-recorded : goal.returns-clause-recorded
returns-clause-recorded c =
    can_be c.args.scope.now c.args.entries.now c.as_slice.result.now c.as_slice.ensures.keys c.as_slice.ensures.ascending c.in_ok-push_heading.ensures.parts c.in_ok-push_keys.ensures.each
    (subst (AllByRecursion IsId) c.as_slice-2.ensures.ids c.in_ok-push_commits.ensures.each) c.as_slice-2.ensures.entries

pub returns-clause-reads_back : goal.returns-clause-reads_back
returns-clause-reads_back c = ap (λ t. cache_of t c.args.scope.now) (returns-clause-text c) ∙ cache_same c.args.scope.now c.args.entries.now (returns-clause-recorded c)
