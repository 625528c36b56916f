-- Texts by their grammar, and their reading.
use Rattle.std.proofs.Common.{◌≡◌, inl, inr, ℕ, zero, suc, ◌-◌, ◌≤◌, true, false, cond, Option, Some, None, List, [], ◌∷◌, ◌++◌, length, refl, sym, ap, ◌∙◌, subst, arith, append_assoc, length-append}
use Rattle.std.specs.Prelude.{Result, Ok, Err}
use Rattle.std.specs.List.{AllByRecursion}
use Rattle.keyring_branch.specs.Armour.{is_begin, IsBlock, Part, IsPart, part_lines, part_contents, IsArmour}
use Rattle.keyring_branch.specs.ArmourReading.{block_of, with_block, contents_from}
use Rattle.keyring_branch.specs.declared.key_fail.KeyFail.{KeyFail}
use Rattle.keyring_branch.specs.declared.key_fail.KeyFail.TheVariants as fail
use Rattle.keyring_branch.proofs.ArmourLemmas.{ahead, next_step, over}
use Rattle.keyring_branch.proofs.GrammarLemmas.{block_read, block_written}

-- ---- one part more

-- parts, and then a BEGIN line behind which no block stands; the number of lines that are left says in which line
pub record BadFrom (total : ℕ) (lines : List (List ℕ)) (fault : KeyFail) : Type 0 where
  pub before : List Part
  pub first : List ℕ
  pub behind : List (List ℕ)
  pub each : AllByRecursion IsPart before
  pub begin : is_begin first ≡ true
  pub no_block : (block rest : List (List ℕ)) (content : List ℕ) → behind ≡ block ++ rest → IsBlock block content → ⊥
  pub whole : lines ≡ part_lines before ++ first ∷ behind
  pub fault_is : fault ≡ fail.Armor (total - length behind)

-- what lines give is in the grammar, and so is a fault
abbrev pub Says : ℕ → List (List ℕ) → Result (List ℕ) KeyFail → Type 0
Says total lines (Ok contents) = IsArmour lines contents
Says total lines (Err fault) = BadFrom total lines fault

no_lines : (lines : List (List ℕ)) → lines ≡ [] → IsArmour lines []
no_lines lines is = record { parts = []; each = tt; whole = is; joined = refl }

line_is : (line : List ℕ) → is_begin line ≡ false → IsPart (record { lines = line ∷ []; content = [] })
line_is line other = inl (record { line = line; other = other; alone = refl; nothing = refl })

block_is : (first : List ℕ) (block : List (List ℕ)) (content : List ℕ) → is_begin first ≡ true → IsBlock block content → IsPart (record { lines = first ∷ block; content = content })
block_is first block content begin is = inr (record { first = first; behind = block; begin = begin; block = is; whole = refl })

line_more : (total : ℕ) (line : List ℕ) (lines : List (List ℕ)) (reading : Result (List ℕ) KeyFail) → is_begin line ≡ false → Says total lines reading → Says total (line ∷ lines) reading
line_more total line lines (Ok contents) other a = record {
  parts = record { lines = line ∷ []; content = [] } ∷ a.parts;
  each = (line_is line other, a.each);
  whole = ap (λ l. line ∷ l) a.whole;
  joined = a.joined;
}
line_more total line lines (Err fault) other b = record {
  before = record { lines = line ∷ []; content = [] } ∷ b.before;
  first = b.first;
  behind = b.behind;
  each = (line_is line other, b.each);
  begin = b.begin;
  no_block = b.no_block;
  whole = ap (λ l. line ∷ l) b.whole;
  fault_is = b.fault_is;
}

block_more : (total : ℕ) (first : List ℕ) (block rest : List (List ℕ)) (content : List ℕ) (reading : Result (List ℕ) KeyFail) → is_begin first ≡ true → IsBlock block content → Says total rest reading → Says total (first ∷ (block ++ rest)) (ahead content reading)
block_more total first block rest content (Ok contents) begin is a = record {
  parts = record { lines = first ∷ block; content = content } ∷ a.parts;
  each = (block_is first block content begin is, a.each);
  whole = ap (λ l. first ∷ (block ++ l)) a.whole;
  joined = ap (λ l. content ++ l) a.joined;
}
block_more total first block rest content (Err fault) begin is b = record {
  before = record { lines = first ∷ block; content = content } ∷ b.before;
  first = b.first;
  behind = b.behind;
  each = (block_is first block content begin is, b.each);
  begin = b.begin;
  no_block = b.no_block;
  whole = ap (λ l. first ∷ (block ++ l)) b.whole ∙ ap (λ l. first ∷ l) (sym (append_assoc block (part_lines b.before) (b.first ∷ b.behind)));
  fault_is = b.fault_is;
}

no_block_there : (behind : List (List ℕ)) → block_of behind ≡ None → (block rest : List (List ℕ)) (content : List ℕ) → behind ≡ block ++ rest → IsBlock block content → ⊥
no_block_there behind none block rest content is b =
    let there : block_of behind ≡ Some (content, rest) = ap block_of is ∙ block_written block rest content b in
    let clash : ◌≡◌ {A = Option (List ℕ × List (List ℕ))} None (Some (content, rest)) = sym none ∙ there in
    cc

-- ---- what lines give

pub says : (count total : ℕ) (lines : List (List ℕ)) → length lines ≤ count → Says total lines (contents_from count total lines)
unfolding contents_from
says count total [] enough = no_lines [] refl
says zero total (line ∷ lines) enough = absurd (omega arith)
says (suc count) total (line ∷ lines) enough =
    elim (is_begin line) as (λ t. is_begin line ≡ t → Says total (line ∷ lines) (cond t (with_block (total - length lines) (block_of lines) (contents_from count total)) (contents_from count total lines))) [
      | true ↦ λ begin. elim (block_of lines) as (λ found. block_of lines ≡ found → Says total (line ∷ lines) (with_block (total - length lines) found (contents_from count total))) [
        | None ↦ λ none. record { before = []; first = line; behind = lines; each = tt; begin = begin; no_block = no_block_there lines none; whole = refl; fault_is = refl }
        | Some block ↦ λ is.
            let read = block_read lines block.1 block.0 is in
            let fewer : length block.1 ≤ count = omega (arith, ap length read.2, length-append read.0 block.1, enough) in
            subst (λ (l : List (List ℕ)). Says total (line ∷ l) (ahead block.0 (contents_from count total block.1))) (sym read.2)
            (block_more total line read.0 block.1 block.0 (contents_from count total block.1) begin read.1 (says count total block.1 fewer))
      ] refl
      | false ↦ λ other. line_more total line lines (contents_from count total lines) other (says count total lines (omega (arith, enough)))
    ] refl

-- ---- what is in the grammar

pub parts_written : (count total : ℕ) (parts : List Part) → AllByRecursion IsPart parts → length (part_lines parts) ≤ count → contents_from count total (part_lines parts) ≡ Ok (part_contents parts)
parts_written count total [] each enough = over count total
parts_written count total (part ∷ parts) each enough = elim each.0 [
  | inl passed ↦
      let is : part_lines (part ∷ parts) ≡ passed.line ∷ part_lines parts = ap (λ (l : List (List ℕ)). l ++ part_lines parts) passed.alone in
      let step = next_step count total (part_lines (part ∷ parts)) passed.line (part_lines parts) is enough in
      let less : count ≡ suc step.0 = step.1 in
      let fewer : length (part_lines parts) ≤ step.0 = omega (arith, ap length is, less, enough) in
      step.2
      ∙ ap (λ t. cond t (with_block (total - length (part_lines parts)) (block_of (part_lines parts)) (contents_from step.0 total)) (contents_from step.0 total (part_lines parts))) passed.other
      ∙ parts_written step.0 total parts each.1 fewer
      ∙ ap (λ (c : List ℕ). Ok (c ++ part_contents parts)) (sym passed.nothing)
  | inr whole ↦
      let behind : List (List ℕ) = whole.behind ++ part_lines parts in
      let is : part_lines (part ∷ parts) ≡ whole.first ∷ behind = ap (λ (l : List (List ℕ)). l ++ part_lines parts) whole.whole in
      let step = next_step count total (part_lines (part ∷ parts)) whole.first behind is enough in
      let less : count ≡ suc step.0 = step.1 in
      let fewer : length (part_lines parts) ≤ step.0 = omega (arith, ap length is, length-append whole.behind (part_lines parts), less, enough) in
      step.2
      ∙ ap (λ t. cond t (with_block (total - length behind) (block_of behind) (contents_from step.0 total)) (contents_from step.0 total behind)) whole.begin
      ∙ ap (λ (b : Option (List ℕ × List (List ℕ))). with_block (total - length behind) b (contents_from step.0 total)) (block_written whole.behind (part_lines parts) part.content whole.block)
      ∙ ap (ahead part.content) (parts_written step.0 total parts each.1 fewer)
]
