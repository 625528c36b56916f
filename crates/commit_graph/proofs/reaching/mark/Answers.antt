use Rattle.std.proofs.Common.{sym, ◌∙◌, arith}
use Rattle.commit_graph.proofs.PlaceLemmas.{places_more}
use Rattle.commit_graph.proofs.reaching.mark.Goals as goal

pub returns-clause-places : goal.returns-clause-places
returns-clause-places c = places_more c.args.nodes.now.entries c.set_place.new.nodes.entries c.args.work.now.items c.push_reserved.new.self.items c.args.id c.len-place.result c.requires.places (sym c.is_marked.ensures ∙ c.if-is_marked.false) c.requires.held c.push_reserved.ensures.items (omega (arith, c.args.work.now.ok.0, c.len-place.ensures)) c.set_place.ensures.places
