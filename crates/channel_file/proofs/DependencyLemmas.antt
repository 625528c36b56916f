-- A dependency, step by step.
use Rattle.std.proofs.Common.{◌≡◌, ℕ, List, codes, sym, ap, ◌∙◌}
use Rattle.std.specs.Prelude.{Option, Ok, Err, unwrap_or}
use Rattle.sexp_reader.specs.Tree.{Tree}
use Rattle.channel_file.specs.Dependencies.{name_of, url_of, branch_of, commit_of, introduction_of, dependency_of}
use Rattle.channel_file.specs.Reading.{Gives}
use Rattle.channel_file.specs.declared.channel.Channel.{Channel}
use Rattle.channel_file.specs.declared.channel.Introduction.{Introduction}
use Rattle.channel_file.specs.declared.fail.ChannelFail.{ChannelFail}
use Rattle.channel_file.proofs.ReadingLemmas.{gives_fault}

name_first : (index : ℕ) (fields : List Tree) (fault : ChannelFail) → name_of index fields ≡ Err fault → dependency_of index fields ≡ Err fault
unfolding dependency_of
name_first index fields fault is = rw is

pub bad_name : (index : ℕ) (fields : List Tree) (fault : ChannelFail) → name_of index fields ≡ Err fault → Gives (Err fault) (dependency_of index fields)
bad_name index fields fault is = gives_fault fault _ (name_first index fields fault is)

url_next : (index : ℕ) (fields : List Tree) (name : List ℕ) (fault : ChannelFail) → name_of index fields ≡ Ok name → url_of fields ≡ Err fault → dependency_of index fields ≡ Err fault
unfolding dependency_of
url_next index fields name fault n is = rw (n, is)

pub bad_url : (index : ℕ) (fields : List Tree) (name : List ℕ) (fault : ChannelFail) → name_of index fields ≡ Ok name → url_of fields ≡ Err fault → Gives (Err fault) (dependency_of index fields)
bad_url index fields name fault n is = gives_fault fault _ (url_next index fields name fault n is)

branch_next : (index : ℕ) (fields : List Tree) (name url : List ℕ) (fault : ChannelFail) → name_of index fields ≡ Ok name → url_of fields ≡ Ok url → branch_of fields ≡ Err fault → dependency_of index fields ≡ Err fault
unfolding dependency_of
branch_next index fields name url fault n u is = rw (n, u, is)

pub bad_branch : (index : ℕ) (fields : List Tree) (name url : List ℕ) (fault : ChannelFail) → name_of index fields ≡ Ok name → url_of fields ≡ Ok url → branch_of fields ≡ Err fault → Gives (Err fault) (dependency_of index fields)
bad_branch index fields name url fault n u is = gives_fault fault _ (branch_next index fields name url fault n u is)

commit_next : (index : ℕ) (fields : List Tree) (name url : List ℕ) (branch : Option (List ℕ)) (fault : ChannelFail) → name_of index fields ≡ Ok name → url_of fields ≡ Ok url → branch_of fields ≡ Ok branch → commit_of fields ≡ Err fault → dependency_of index fields ≡ Err fault
unfolding dependency_of
commit_next index fields name url branch fault n u b is = rw (n, u, b, is)

pub bad_commit : (index : ℕ) (fields : List Tree) (name url : List ℕ) (branch : Option (List ℕ)) (fault : ChannelFail) → name_of index fields ≡ Ok name → url_of fields ≡ Ok url → branch_of fields ≡ Ok branch → commit_of fields ≡ Err fault → Gives (Err fault) (dependency_of index fields)
bad_commit index fields name url branch fault n u b is = gives_fault fault _ (commit_next index fields name url branch fault n u b is)

introduction_next : (index : ℕ) (fields : List Tree) (name url : List ℕ) (branch commit : Option (List ℕ)) (fault : ChannelFail) → name_of index fields ≡ Ok name → url_of fields ≡ Ok url → branch_of fields ≡ Ok branch → commit_of fields ≡ Ok commit → introduction_of fields ≡ Err fault → dependency_of index fields ≡ Err fault
unfolding dependency_of
introduction_next index fields name url branch commit fault n u b c is = rw (n, u, b, c, is)

pub bad_introduction : (index : ℕ) (fields : List Tree) (name url : List ℕ) (branch commit : Option (List ℕ)) (fault : ChannelFail) → name_of index fields ≡ Ok name → url_of fields ≡ Ok url → branch_of fields ≡ Ok branch → commit_of fields ≡ Ok commit → introduction_of fields ≡ Err fault → Gives (Err fault) (dependency_of index fields)
bad_introduction index fields name url branch commit fault n u b c is = gives_fault fault _ (introduction_next index fields name url branch commit fault n u b c is)

whole_dependency : (index : ℕ) (fields : List Tree) (name url : List ℕ) (branch commit : Option (List ℕ)) (introduction : Option Introduction) → name_of index fields ≡ Ok name → url_of fields ≡ Ok url → branch_of fields ≡ Ok branch → commit_of fields ≡ Ok commit → introduction_of fields ≡ Ok introduction
    → dependency_of index fields ≡ Ok (record { name = name; url = url; branch = unwrap_or branch (codes "master"); commit = commit; introduction = introduction })
unfolding dependency_of
whole_dependency index fields name url branch commit introduction n u b c i = rw (n, u, b, c, i)

pub dependency_made : (index : ℕ) (fields : List Tree) (name url : List ℕ) (branch commit : Option (List ℕ)) (introduction : Option Introduction) (taken : List ℕ) (channel : Channel) → name_of index fields ≡ Ok name → url_of fields ≡ Ok url → branch_of fields ≡ Ok branch → commit_of fields ≡ Ok commit → introduction_of fields ≡ Ok introduction
    → taken ≡ unwrap_or branch (codes "master") → channel ≡ record { name = name; url = url; branch = taken; commit = commit; introduction = introduction } → dependency_of index fields ≡ Ok channel
dependency_made index fields name url branch commit introduction taken channel n u b c i t is =
    whole_dependency index fields name url branch commit introduction n u b c i ∙ ap (λ (x : Channel). Ok x) (sym (is ∙ rw t))
