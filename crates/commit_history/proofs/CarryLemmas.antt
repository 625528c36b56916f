-- What a graph says of its commits holds in the world's history, and the other way round for what it holds. The lemmas on the
-- graph that is answered come last.
use Rattle.std.proofs.Common.{◌≡◌, ℕ, List, [], ◌∷◌, ap, subst, arith, Contains, inl, inr, ⊎_elim, is_some}
use Rattle.std.specs.List.{slice_index_or}
use Rattle.commit_graph.specs.declared.relation.Relation.{Relation}
use Rattle.commit_graph.specs.declared.relation.Relation.TheVariants.{Same, Ancestor, Descendant, Unrelated}
use Rattle.commit_graph.specs.Chains.{IsChain, Reaches, IsGeneration}
use Rattle.commit_graph.specs.Covers.{IsWithin, IsCovered, AreUncovered, ComesBefore}
use Rattle.commit_graph.specs.History as commits
use Rattle.commit_graph.specs.History.{Commits, History, Name, Holds, IsParent}
use Rattle.commit_graph.specs.Relation.{IsRelation}
use Rattle.commit_graph.proofs.ChainLemmas.{reach_itself, reach_all}
use Rattle.commit_graph.proofs.CoveredLemmas.{IsWithin-parent}
use Rattle.auth_rules.specs.World.{World}
use Rattle.auth_rules.specs.Rules.{parents_of}
use Rattle.auth_rules.specs.Answers.{HoldsFamily, ListsParents}
use Rattle.auth_rules.proofs.CauseLemmas.{whole_family}
use Rattle.commit_history.specs.Answers.{HoldsHistory}
use Rattle.commit_history.specs.Members.{history, IsMember}

-- ---- the graph lists what the commits name

module _ (w : World) (held : Commits) (lists : ListsParents w held) where
  pub parent_there : (c p : Name) → IsParent held c p → history w c p
  parent_there c p parent =
      let named = lists c (ap is_some parent.given) in
      let given = parent.given in
      let same : parent.parents ≡ parents_of w c = cc in
      subst (λ ps. Contains ps p) same parent.listed

  pub parent_back : (c p : Name) → Holds held c → history w c p → IsParent held c p
  parent_back c p holds parent = record { parents = parents_of w c; given = lists c holds; listed = parent }

  pub chain_there : (c : Name) (rest : List Name) → IsChain (IsParent held) c rest → IsChain (history w) c rest
  chain_there c [] h = tt
  chain_there c (p ∷ rest) h = (parent_there c p h.0, chain_there p rest h.1)

  pub reaches_there : (a b : Name) → Reaches (IsParent held) a b → Reaches (history w) a b
  reaches_there a b r = record { rest = r.rest; chain = chain_there a r.rest r.chain; ends = r.ends }

  within_there : (target intro c : Name) → IsWithin (IsParent held) target intro c → IsWithin (history w) target intro c
  within_there target intro c (inl r) = inl (reaches_there target c r)
  within_there target intro c (inr r) = inr (reaches_there intro c r)

  pub covered_there : (target intro : Name) (entries : List Name) (c : Name) → IsCovered (IsParent held) target intro entries c → IsCovered (history w) target intro entries c
  covered_there target intro entries c (inl r) = inl (reaches_there intro c r)
  covered_there target intro entries c (inr e) = inr (record {
    entry = e.entry;
    listed = e.listed;
    counts = within_there target intro e.entry e.counts;
    reaches = reaches_there e.entry c e.reaches;
  })

  -- ---- and it holds the parents of what it holds

  module _ (whole : commits.IsWhole held) where
    pub chain_back : (c : Name) (rest : List Name) → Holds held c → IsChain (history w) c rest → IsChain (IsParent held) c rest
    chain_back c [] holds h = tt
    chain_back c (p ∷ rest) holds h = let parent = parent_back c p holds h.0 in (parent, chain_back p rest (whole c p parent) h.1)

    pub reaches_back : (a b : Name) → Holds held a → Reaches (history w) a b → Reaches (IsParent held) a b
    reaches_back a b holds r = record { rest = r.rest; chain = chain_back a r.rest holds r.chain; ends = r.ends }

    pub reach_held : (a b : Name) → Holds held a → Reaches (IsParent held) a b → Holds held b
    reach_held a b holds r = reach_all (Holds held) (λ c p h parent. whole c p parent) holds r

    pub generation_there : (c : Name) (n : ℕ) → Holds held c → IsGeneration (IsParent held) c n → IsGeneration (history w) c n
    generation_there c n holds g = record {
      rest = g.rest;
      chain = chain_there c g.rest g.chain;
      count = g.count;
      greatest = λ others chain. g.greatest others (chain_back c others holds chain);
    }

    pub generation_back : (c : Name) (n : ℕ) → Holds held c → IsGeneration (history w) c n → IsGeneration (IsParent held) c n
    generation_back c n holds g = record {
      rest = g.rest;
      chain = chain_back c g.rest holds g.chain;
      count = g.count;
      greatest = λ others chain. g.greatest others (chain_there c others chain);
    }

    before_there : (a b : Name) → Holds held a → Holds held b → ComesBefore (IsParent held) a b → ComesBefore (history w) a b
    before_there a b held_a held_b h = record {
      first = h.first;
      second = h.second;
      first_is = generation_there a h.first held_a h.first_is;
      second_is = generation_there b h.second held_b h.second_is;
      before = h.before;
    }

    within_back : (target intro c : Name) → Holds held target → Holds held intro → IsWithin (history w) target intro c → IsWithin (IsParent held) target intro c
    within_back target intro c held_target held_intro (inl r) = inl (reaches_back target c held_target r)
    within_back target intro c held_target held_intro (inr r) = inr (reaches_back intro c held_intro r)

    within_held : (target intro c : Name) → Holds held target → Holds held intro → IsWithin (IsParent held) target intro c → Holds held c
    within_held target intro c held_target held_intro (inl r) = reach_held target c held_target r
    within_held target intro c held_target held_intro (inr r) = reach_held intro c held_intro r

    pub covered_back : (target intro : Name) (entries : List Name) (c : Name) → Holds held target → Holds held intro
        → IsCovered (history w) target intro entries c → IsCovered (IsParent held) target intro entries c
    covered_back target intro entries c held_target held_intro (inl r) = inl (reaches_back intro c held_intro r)
    covered_back target intro entries c held_target held_intro (inr e) =
        let counts = within_back target intro e.entry held_target held_intro e.counts in
        inr (record {
          entry = e.entry;
          listed = e.listed;
          counts = counts;
          reaches = reaches_back e.entry c (within_held target intro e.entry held_target held_intro counts) e.reaches;
        })

    pub uncovered_there : (target intro : Name) (entries commits : List Name) → Holds held target → Holds held intro
        → AreUncovered (IsParent held) target intro entries commits → AreUncovered (history w) target intro entries commits
    uncovered_there target intro entries commits held_target held_intro h = record {
      reached = λ k d low. reaches_there target (slice_index_or commits k d) (h.reached k d low);
      bare = λ k d low covered. h.bare k d low (covered_back target intro entries (slice_index_or commits k d) held_target held_intro covered);
      complete = λ c r. ⊎_elim (λ listed. inl listed) (λ covered. inr (covered_there target intro entries c covered)) (h.complete c (reaches_back target c held_target r));
      order = λ i j d lt low. before_there (slice_index_or commits i d) (slice_index_or commits j d)
          (reach_held target (slice_index_or commits i d) held_target (h.reached i d (omega arith)))
          (reach_held target (slice_index_or commits j d) held_target (h.reached j d low))
          (h.order i j d lt low);
    }

    pub relation_there : (old new : Name) (r : Relation) → Holds held old → Holds held new → IsRelation (IsParent held) old new r → IsRelation (history w) old new r
    relation_there old new Same held_old held_new h = h
    relation_there old new Ancestor held_old held_new h = (h.0, reaches_there new old h.1)
    relation_there old new Descendant held_old held_new h = (h.0, reaches_there old new h.1)
    relation_there old new Unrelated held_old held_new h = (λ r. h.0 (reaches_back new old held_new r), λ r. h.1 (reaches_back old new held_old r))

-- ---- the graph that is answered

module _ (w : World) (target intro : Name) (graph : History) (holds : HoldsHistory w target intro graph) where
  pub target_held : Holds graph.held target
  target_held = (holds.members target).1 (inl (reach_itself target))

  pub intro_held : Holds graph.held intro
  intro_held = (holds.members intro).1 (inr (reach_itself intro))

  pub graph_whole : commits.IsWhole graph.held
  graph_whole c p parent = (holds.members p).1 (IsWithin-parent (history w) target intro c p ((holds.members c).0 (ap is_some parent.given)) (parent_there w graph.held holds.lists c p parent))

  pub member_held : (c : Name) → IsMember w target intro c → Holds graph.held c
  member_held c member = (holds.members c).1 member

  pub member_family : (c : Name) → IsMember w target intro c → HoldsFamily graph.held c
  member_family c member = whole_family graph.held c (member_held c member) graph_whole

  pub member_reaches : (a b : Name) → Reaches (IsParent graph.held) a b → Reaches (history w) a b
  member_reaches a b r = reaches_there w graph.held holds.lists a b r

  pub member_reaches_back : (a b : Name) → IsMember w target intro a → Reaches (history w) a b → Reaches (IsParent graph.held) a b
  member_reaches_back a b member r = reaches_back w graph.held holds.lists graph_whole a b (member_held a member) r

  pub member_generation : (c : Name) (n : ℕ) → IsMember w target intro c → IsGeneration (IsParent graph.held) c n → IsGeneration (history w) c n
  member_generation c n member g = generation_there w graph.held holds.lists graph_whole c n (member_held c member) g

  pub member_generation_back : (c : Name) (n : ℕ) → IsMember w target intro c → IsGeneration (history w) c n → IsGeneration (IsParent graph.held) c n
  member_generation_back c n member g = generation_back w graph.held holds.lists graph_whole c n (member_held c member) g

  pub history_uncovered : (entries commits : List Name) → AreUncovered (IsParent graph.held) target intro entries commits → AreUncovered (history w) target intro entries commits
  history_uncovered entries commits h = uncovered_there w graph.held holds.lists graph_whole target intro entries commits target_held intro_held h

  pub member_relation : (old new : Name) (r : Relation) → IsMember w target intro old → IsMember w target intro new → IsRelation (IsParent graph.held) old new r → IsRelation (history w) old new r
  member_relation old new r member_old member_new h = relation_there w graph.held holds.lists graph_whole old new r (member_held old member_old) (member_held new member_new) h
