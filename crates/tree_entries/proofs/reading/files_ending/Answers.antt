use Rattle.std.proofs.Common.{◌&&◌, Ok, Err, List, sym, ap, ap₂, ◌∙◌, arith}
use Rattle.tree_entries.specs.declared.entry.Entry.{Entry}
use Rattle.tree_entries.specs.declared.fail.TreeFail.TheVariants.{Twice}
use Rattle.tree_entries.specs.Asked.{file_again}
use Rattle.tree_entries.specs.Reading.{files_of, Gives}
use Rattle.tree_entries.proofs.WalkLemmas.{once_all}
use Rattle.tree_entries.proofs.AskedLemmas.{gives_only, only_files, place, stops_gives, stops_fault, twice_gives, twice_fault, shorter, walked_more, is_tree, ends_gives, files_of_all, FilesBy, is_among, some_left, none_left, file_is_again, sought_of, no_file, files_pushed, files_kept}
use Rattle.tree_entries.proofs.reading.files_ending.Goals as goal
use Rattle.tree_entries.proofs.reading.files_ending.Goals.{then-is_file+then-ends_with+in_ok-file+in_ok-push, else-is_file, else-is_file-via-then-is_file+else-ends_with, else-is_file-via-else-is_file}

pub returns-in-Err : goal.returns-in-Err
returns-in-Err c =
    let content = c.args.content.now in
    let suffix = c.args.suffix.now in
    let rest = c.entries.rest.now in
    let w = c.entries.invariant in
    let some = some_left rest c.is_empty.result c.is_empty.ensures c.entries-test.true in
    let exact : Gives (Err c.in-Err.fail) (files_of content suffix) = stops_gives (file_again suffix) content rest (FilesBy suffix c.entries.files) w (files_of_all suffix) c.in-Err.fail some c.in-Err.ensures in
    record {
      exact = exact;
      found = tt;
      only = λ answer is. gives_only (Err c.in-Err.fail) (files_of content suffix) answer exact (only_files content suffix answer is);
      fault = stops_fault (file_again suffix) content rest (FilesBy suffix c.entries.files) w c.in-Err.fail some c.in-Err.ensures;
    }

pub returns-then-has_name : goal.returns-then-has_name
returns-then-has_name c =
    let content = c.args.content.now in
    let suffix = c.args.suffix.now in
    let rest = c.entries.rest.now in
    let w = c.entries.invariant in
    let reads = c.in-Ok.ensures in
    let some = some_left rest c.is_empty.result c.is_empty.ensures c.entries-test.true in
    let told = c.has_name.ensures ∙ ap (λ l. is_among c.in-Ok.entry.name.now l) c.as_slice.ensures in
    let again = file_is_again suffix w.es reads.read c.entries.files c.in-Ok.entry.name.now c.has_name.result w.holds (ap (λ (e : Entry). e.name) reads.shows) told ∙ c.if-has_name.true in
    let fail = Twice (place (file_again suffix) content rest (FilesBy suffix c.entries.files) w) in
    let exact : Gives (Err fail) (files_of content suffix) = twice_gives (file_again suffix) content rest (FilesBy suffix c.entries.files) w (files_of_all suffix) _ _ reads some again in
    record {
      exact = exact;
      found = tt;
      only = λ answer is. gives_only (Err fail) (files_of content suffix) answer exact (only_files content suffix answer is);
      fault = twice_fault (file_again suffix) content rest (FilesBy suffix c.entries.files) w _ _ reads some again;
    }

pub entries-smaller : goal.entries-smaller
entries-smaller c =
    let rest = c.entries.rest.now in
    let some = some_left rest c.is_empty.result c.is_empty.ensures c.entries-test.true in
    omega (arith, shorter (file_again c.args.suffix.now) c.args.content.now rest (FilesBy c.args.suffix.now c.entries.files) c.entries.invariant _ _ c.in-Ok.ensures some)

pub entries-preserved : goal.entries-preserved
entries-preserved c =
    let suffix = c.args.suffix.now in
    let rest = c.entries.rest.now in
    let w = c.entries.invariant in
    let reads = c.in-Ok.ensures in
    let some = some_left rest c.is_empty.result c.is_empty.ensures c.entries-test.true in
    let told = c.has_name.ensures ∙ ap (λ l. is_among c.in-Ok.entry.name.now l) c.as_slice.ensures in
    let fresh = file_is_again suffix w.es reads.read c.entries.files c.in-Ok.entry.name.now c.has_name.result w.holds (ap (λ (e : Entry). e.name) reads.shows) told ∙ c.if-has_name.false in
    let later = FilesBy suffix c.if-is_file.files in
    let more = walked_more (file_again suffix) c.args.content.now rest (FilesBy suffix c.entries.files) w _ _ reads some fresh later in
    elim c.if-is_file.branch [
      | then-is_file+then-ends_with+in_ok-file+in_ok-push v ↦
          let sought = sought_of suffix reads.read _ c.is_file.result v.ends_with.result reads.shows c.is_file.ensures v.ends_with.ensures.value ∙ ap₂ (λ a b. a && b) v.if-is_file.true v.if-ends_with.true in
          more (files_pushed suffix w.es reads.read c.entries.files c.if-is_file.files v.in_ok-file.file w.holds sought (v.files-is ∙ v.in_ok-push.ensures.ok) (v.in_ok-file.ensures ∙ reads.shows))
      | else-is_file v ↦
          more (files_kept suffix w.es reads.read c.entries.files c.if-is_file.files w.holds (elim v.else-is_file.branch [
            | else-is_file-via-then-is_file+else-ends_with u ↦ sought_of suffix reads.read _ c.is_file.result u.ends_with.result reads.shows c.is_file.ensures u.ends_with.ensures.value ∙ ap₂ (λ a b. a && b) u.if-is_file.true u.if-ends_with.false
            | else-is_file-via-else-is_file u ↦ no_file suffix reads.read _ c.is_file.result reads.shows c.is_file.ensures u.if-is_file.false
          ]) v.files-is)
    ]

pub returns : goal.returns
returns c =
    let content = c.args.content.now in
    let suffix = c.args.suffix.now in
    let rest = c.entries.rest.now in
    let w = c.entries.invariant in
    let over = none_left rest c.is_empty.result c.is_empty.ensures c.entries-test.false in
    let exact : Gives (Ok c.entries.files) (files_of content suffix) =
    ends_gives (file_again suffix) content rest (FilesBy suffix c.entries.files) w (files_of_all suffix) over ∙ ap (λ (a : List Entry). Ok a) (sym w.holds) in
    record {
      exact = exact;
      found = record { entries = w.es; tree = is_tree (file_again suffix) content rest (FilesBy suffix c.entries.files) w over; once = once_all (file_again suffix) w.es w.once; answer_is = w.holds };
      only = λ answer is. gives_only (Ok c.entries.files) (files_of content suffix) answer exact (only_files content suffix answer is);
      fault = tt;
    }
