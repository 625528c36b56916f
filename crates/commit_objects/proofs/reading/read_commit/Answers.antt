use Rattle.std.proofs.Common.{◌-◌, length, ap, ◌∙◌, refl, Some, None, Ok, Err, List, ℕ}
use Rattle.std.proofs.lemmas.Result.{err_from_is_err_and}
use Rattle.commit_objects.specs.declared.commit.Commit.{Commit}
use Rattle.commit_objects.specs.Form.{sha1_form}
use Rattle.commit_objects.specs.Reading.{Gives, commit_of}
use Rattle.commit_objects.proofs.CommitLemmas.{further_fault, unsigned_commit, signed_commit, heading_long}
use Rattle.commit_objects.proofs.FurtherLemmas.{sha1_words}
use Rattle.commit_objects.proofs.OneReading.{gives_commit, gives_fault, gives_only}
use Rattle.commit_objects.proofs.reading.read_commit.Goals as goal

pub returns-in_err-heading : goal.returns-in_err-heading
returns-in_err-heading c =
    let content = c.args.content.now in
    let p = err_from_is_err_and c.from_residual.result c.from_residual.ensures.1 in
    rw (p.1, p.2) (
    let fault = c.in_err-heading.ensures.fault in
    let exact : Gives (Err c.in_err-heading.field-0.0) (commit_of content) = gives_fault content c.in_err-heading.field-0.0 fault in
    record { exact = exact; found = tt; only = gives_only content (Err c.in_err-heading.field-0.0) exact; fault = fault }
    )

pub returns-in_err-signed : goal.returns-in_err-signed
returns-in_err-signed c =
    let content = c.args.content.now in
    let p = err_from_is_err_and c.from_residual-in_err-signed.result c.from_residual-in_err-signed.ensures.1 in
    let head = c.in_ok-heading.ensures.found in
    let fault = further_fault sha1_form content c.in_ok-heading.heading.tree c.in_ok-heading.heading.rest.now c.in_ok-heading.heading.parents head c.in_err-signed.field-0.0 c.in_err-signed.ensures.fault in
    let exact : Gives (Err c.in_err-signed.field-0.0) (commit_of content) = gives_fault content c.in_err-signed.field-0.0 fault in
    rw (p.1, p.2) (record { exact = exact; found = tt; only = gives_only content (Err c.in_err-signed.field-0.0) exact; fault = fault })

pub returns-in_ok-value-in-Some : goal.returns-in_ok-value-in-Some
returns-in_ok-value-in-Some c =
    let content = c.args.content.now in
    let tree = c.in_ok-heading.heading.tree in
    let parents = c.in_ok-heading.heading.parents in
    let text = c.in_ok-heading.heading.rest.now in
    let head = c.in_ok-heading.ensures.found in
    let s = c.in-Some.signed in
    let found = c.in_ok-signed.ensures.found in
    let so_far = rw c.in-Some.is at found.1 in
    let made = c.in_ok-value-in-Some.ensures in
    let commit : Commit = record { tree = tree; parents = parents; signature = Some c.from_vec.result; payload = c.from_vec-in-Some.result } in
    let is = signed_commit sha1_form content tree text parents head found.0 sha1_words s.before.now s.value.now s.more.now s.after.now so_far commit (length content - length text)
    (heading_long sha1_form content tree text parents head) refl refl (ap (λ (v : List ℕ). Some v) (c.from_vec.ensures ∙ made.0)) (c.from_vec-in-Some.ensures ∙ made.1) in
    let exact = gives_commit content commit is in
    record { exact = exact; found = is; only = gives_only content (Ok commit) exact; fault = tt }

pub returns-in_ok-from_slice-in-None : goal.returns-in_ok-from_slice-in-None
returns-in_ok-from_slice-in-None c =
    let content = c.args.content.now in
    let tree = c.in_ok-heading.heading.tree in
    let parents = c.in_ok-heading.heading.parents in
    let head = c.in_ok-heading.ensures.found in
    let found = c.in_ok-signed.ensures.found in
    let so_far = rw c.in-None.is at found.1 in
    let commit : Commit = record { tree = tree; parents = parents; signature = None; payload = c.in_ok-from_slice-in-None.field-0 } in
    let is = unsigned_commit sha1_form content tree c.in_ok-heading.heading.rest.now parents head found.0 so_far commit refl refl refl c.in_ok-from_slice-in-None.ensures in
    let exact = gives_commit content commit is in
    record { exact = exact; found = is; only = gives_only content (Ok commit) exact; fault = tt }
