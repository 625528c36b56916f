-- The lines of a text, one line or block at a time.
use Rattle.std.proofs.Common.{◌≡◌, ℕ, zero, suc, ◌-◌, ◌≤◌, Bool, true, false, cond, Option, Some, None, List, [], ◌∷◌, ◌++◌, length, refl, sym, ap, ◌∙◌, subst, arith, append_assoc, append-nil}
use Rattle.std.specs.Prelude.{Result, Ok, Err, IfSome}
use Rattle.keyring_branch.specs.Fail.{onward, Gives}
use Rattle.keyring_branch.specs.Armour.{is_begin}
use Rattle.keyring_branch.specs.ArmourReading.{block_of, with_block, contents_from, contents_of}
use Rattle.keyring_branch.specs.Lines.{lines_of}
use Rattle.keyring_branch.specs.declared.key_fail.KeyFail.{KeyFail}
use Rattle.keyring_branch.specs.declared.key_fail.KeyFail.TheVariants as fail
use Rattle.keyring_branch.specs.declared.block.Block.{Block}

-- these contents stand before those
abbrev pub ahead : List ℕ → Result (List ℕ) KeyFail → Result (List ℕ) KeyFail
ahead before reading = onward reading (λ contents. Ok (before ++ contents))

ahead_none : (reading : Result (List ℕ) KeyFail) → ahead [] reading ≡ reading
ahead_none (Ok contents) = refl
ahead_none (Err fault) = refl

ahead_more : (before content : List ℕ) (reading : Result (List ℕ) KeyFail) → ahead before (ahead content reading) ≡ ahead (before ++ content) reading
ahead_more before content (Ok contents) = ap (λ (l : List ℕ). Ok l) (sym (append_assoc before content contents))
ahead_more before content (Err fault) = refl

pub next_step : (count total : ℕ) (lines : List (List ℕ)) (line : List ℕ) (next : List (List ℕ)) → lines ≡ line ∷ next → length lines ≤ count
    → (less : ℕ) × (count ≡ suc less) × (contents_from count total lines ≡ cond (is_begin line) (with_block (total - length next) (block_of next) (contents_from less total)) (contents_from less total next))
unfolding contents_from
next_step zero total lines line next is enough = absurd (omega (arith, ap length is, enough))
next_step (suc less) total lines line next is enough = (less, refl, ap (contents_from (suc less) total) is)

pub over : (count total : ℕ) → contents_from count total [] ≡ Ok []
unfolding contents_from
over count total = refl

-- lines have been passed, blocks among them read, and a rest is left
pub record Joined (text rest contents : List ℕ) : Type 0 where
  pub count : ℕ
  pub enough : length (lines_of rest) ≤ count
  pub within : length (lines_of rest) ≤ length (lines_of text)
  pub reading : contents_of text ≡ ahead contents (contents_from count (length (lines_of text)) (lines_of rest))

pub joined_none : (text : List ℕ) → Joined text text []
unfolding contents_of
joined_none text = record { count = length (lines_of text); enough = omega arith; within = omega arith; reading = sym (ahead_none (contents_of text)) }

module _ (text rest contents : List ℕ) (w : Joined text rest contents) (line next : List ℕ) (is : lines_of rest ≡ line ∷ lines_of next) where
  abbrev total : ℕ
  total = length (lines_of text)

  fewer : length (lines_of rest) ≡ suc (length (lines_of next))
  fewer = ap length is

  read : (t : Bool) → is_begin line ≡ t → (less : ℕ) × (w.count ≡ suc less) × (contents_of text ≡ ahead contents (cond t (with_block (total - length (lines_of next)) (block_of (lines_of next)) (contents_from less total)) (contents_from less total (lines_of next))))
  read t begins =
      let step = next_step w.count total (lines_of rest) line (lines_of next) is w.enough in
      (step.0, step.1, w.reading ∙ ap (ahead contents) (step.2 ∙ ap (λ b. cond b (with_block (total - length (lines_of next)) (block_of (lines_of next)) (contents_from step.0 total)) (contents_from step.0 total (lines_of next))) begins))

  -- another line than BEGIN
  pub passed : is_begin line ≡ false → Joined text next contents
  passed other =
      let step = read false other in
      let less : w.count ≡ suc step.0 = step.1 in
      record { count = step.0; enough = omega (arith, w.enough, less, fewer); within = omega (arith, w.within, fewer); reading = step.2 }

  -- a block
  pub joined_block : is_begin line ≡ true → (content behind new : List ℕ) → block_of (lines_of next) ≡ Some (content, lines_of behind) → length (lines_of behind) ≤ length (lines_of next) → new ≡ contents ++ content → Joined text behind new
  joined_block begins content behind new block small put =
      let step = read true begins in
      let less : w.count ≡ suc step.0 = step.1 in
      record {
        count = step.0;
        enough = omega (arith, w.enough, less, fewer);
        within = omega (arith, w.within, fewer);
        reading = step.2 ∙ ap (λ (b : Option (List ℕ × List (List ℕ))). ahead contents (with_block (total - length (lines_of next)) b (contents_from step.0 total))) block
            ∙ ahead_more contents content _ ∙ ap (λ l. ahead l (contents_from step.0 total (lines_of behind))) (sym put);
      }

  -- no block
  pub block_fault : is_begin line ≡ true → block_of (lines_of next) ≡ None → (number : ℕ) → number ≡ total - length (lines_of next) → Gives {A = List ℕ} (Err (fail.Armor number)) (contents_of text)
  block_fault begins block number at =
      let step = read true begins in
      step.2 ∙ ap (λ (b : Option (List ℕ × List (List ℕ))). ahead contents (with_block (total - length (lines_of next)) b (contents_from step.0 total))) block ∙ ap (λ n. Err (fail.Armor n)) (sym at)

pub joined_all : (text rest contents : List ℕ) → Joined text rest contents → lines_of rest ≡ [] → Gives (Ok contents) (contents_of text)
joined_all text rest contents w end =
    w.reading ∙ ap (ahead contents) (ap (contents_from w.count (length (lines_of text))) end ∙ over w.count (length (lines_of text))) ∙ ap (λ (l : List ℕ). Ok l) (append-nil contents)

pub no_more_lines : (found : Option Block) (block : Block) (most : ℕ) → found ≡ Some block → IfSome found (λ b. length (lines_of b.rest.now) ≤ most) → length (lines_of block.rest.now) ≤ most
no_more_lines found block most is h = subst (λ (f : Option Block). IfSome f (λ b. length (lines_of b.rest.now) ≤ most)) is h
