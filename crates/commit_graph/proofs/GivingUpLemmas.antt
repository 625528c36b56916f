-- Commits are given up one after another.
use Rattle.std.proofs.Common.{◌≡◌, ℕ, ◌+◌, ◌≤◌, Bool, true, false, cond, ◌||◌, List, [], ◌∷◌, Option, Some, None, refl, ap, ◌∙◌, arith}
use Rattle.std.specs.Option.{option_map}
use Rattle.commit_graph.specs.declared.node.Node.{Node}
use Rattle.commit_graph.specs.declared.level.Level.{Level}
use Rattle.commit_graph.specs.declared.level.Level.TheVariants.{Entered, Endless}
use Rattle.commit_graph.specs.History.{Name}
use Rattle.commit_graph.specs.Walk.{same_name, is_in}
use Rattle.commit_graph.specs.Level.{level_at, total, undecided, steps_left, at_most_one, SetsLevel, GivesUp}
use Rattle.commit_graph.proofs.OrderLemmas.{names_equiv}

given_id : (o : Option Level) → o ≡ option_map (λ before. before) o
given_id None = refl
given_id (Some l) = refl

pub gave_none : (nodes : List (Name × Node)) → GivesUp nodes nodes []
gave_none nodes = record { held = refl; size = refl; undecided = omega arith; left = omega arith; levels = λ q. given_id (level_at nodes q) }

twice : (a b : Bool) (o : Option Level) → option_map (λ before. cond a Endless before) (option_map (λ before. cond b Endless before) o) ≡ option_map (λ before. cond (a || b) Endless before) o
twice a b None = refl
twice true b (Some l) = refl
twice false b (Some l) = refl

fewer_left : (gone : List Name) (x : Name) (left_new left_now left_old : ℕ) → left_new + steps_left (cond (is_in gone x) Endless Entered) ≡ left_now + 0 → left_now + at_most_one gone ≤ left_old → left_new + 1 ≤ left_old
fewer_left [] x a b c e h = omega arith
fewer_left (y ∷ gone) x a b c e h = omega arith

pub gave_more : (old now new : List (Name × Node)) (gone : List Name) (x : Name) → GivesUp old now gone → SetsLevel now new x Endless → level_at old x ≡ Some Entered → GivesUp old new (x ∷ gone)
gave_more old now new gone x gives sets at =
    let here : level_at now x ≡ Some (cond (is_in gone x) Endless Entered) = gives.levels x ∙ ap (option_map (λ before. cond (is_in gone x) Endless before)) at in
    let count = sets.count undecided _ here in
    let count_left = sets.count steps_left _ here in
    record {
      held = sets.held ∙ gives.held;
      size = sets.size ∙ gives.size;
      undecided = omega (arith, count, gives.undecided);
      left = fewer_left gone x (total steps_left new) (total steps_left now) (total steps_left old) count_left gives.left;
      levels = λ q. sets.levels q ∙ ap (option_map (λ before. cond (same_name x q) Endless before)) (gives.levels q) ∙ twice (same_name x q) (is_in gone q) (level_at old q)
          ∙ ap (λ b. option_map (λ before. cond (b || is_in gone q) Endless before) (level_at old q)) (names_equiv.symm x q);
    }
