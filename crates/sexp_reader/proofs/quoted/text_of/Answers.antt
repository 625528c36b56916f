use Rattle.std.proofs.Common.{[], ◌∷◌, ◌++◌, length, drop, ap, sym, ◌∙◌, refl, subst, arith}
use Rattle.sexp_reader.proofs.RunLemmas.{Partly, Partly-length, Partly-plain, Partly-more, IsQuoted-escape, is_backslash, first_is, stops-open, stops-open_escape, stops-escape}
use Rattle.sexp_reader.proofs.quoted.text_of.Goals as goal
use Rattle.sexp_reader.proofs.quoted.text_of.Goals.{In_ok-push}

-- what was read after the run of plain bytes
after_plain : (c : In_ok-push) → Partly c.args.text.now c.push.new.self c.cut_plain.result.1.now
after_plain c =
    subst (λ found. Partly c.args.text.now found c.cut_plain.result.1.now) (sym c.in_ok-push.ensures.ok)
    (Partly-plain c.args.text.now c.loop-found.found c.loop-found.rest.now c.cut_plain.result.0.now c.cut_plain.result.1.now c.loop-found.invariant.partly c.cut_plain.ensures)

pub returns-in_default : goal.returns-in_default
returns-in_default c = λ so_far levels.
    ([], stops-open c.args.text.now c.push.new.self c.cut_plain.result.1.now so_far levels (after_plain (goal.at.returns-in_default c).In_ok-push) c.in_default.ensures, refl, omega arith)

pub returns-then-quote-eq34 : goal.returns-then-quote-eq34
returns-then-quote-eq34 c =
    let p = after_plain (goal.at.returns-then-quote-eq34 c).In_ok-push in
    let next = c.cut_plain.result.1.now in
    let cell = first_is next c.past_first-after.result.now c.in-Some.quote 34 c.in-Some.ensures c.if-quote-eq34.true c.past_first-after.ensures in
    (c.past_first-after.utf8, (p.written, p.whole ∙ ap (λ r. p.written ++ r) cell, p.is))

pub returns-in_default-first_byte : goal.returns-in_default-first_byte
returns-in_default-first_byte c = λ so_far levels.
    let p = after_plain (goal.at.returns-in_default-first_byte c).In_ok-push in
    let next = c.cut_plain.result.1.now in
    let after = c.past_first-after.result.now in
    let cell = first_is next after c.in-Some.quote 92 c.in-Some.ensures (is_backslash next c.in-Some.quote c.cut_plain.ensures.end c.in-Some.ensures c.if-quote-eq34.false) c.past_first-after.ensures in
    ([], stops-open_escape c.args.text.now c.push.new.self next so_far levels p (cell ∙ ap (λ r. 92 ∷ r) c.in_default-first_byte.ensures), refl, omega arith)

pub returns-in_default-escaped : goal.returns-in_default-escaped
returns-in_default-escaped c = λ so_far levels.
    let p = after_plain (goal.at.returns-in_default-escaped c).In_ok-push in
    let next = c.cut_plain.result.1.now in
    let after = c.past_first-after.result.now in
    let letter = c.in-Some-first_byte.letter in
    let cell = first_is next after c.in-Some.quote 92 c.in-Some.ensures (is_backslash next c.in-Some.quote c.cut_plain.ensures.end c.in-Some.ensures c.if-quote-eq34.false) c.past_first-after.ensures in
    (letter ∷ drop 1 after, stops-escape c.args.text.now c.push.new.self next so_far levels letter (drop 1 after) p (cell ∙ ap (λ r. 92 ∷ r) c.in-Some-first_byte.ensures) c.in_default-escaped.ensures, ap length (sym c.in-Some-first_byte.ensures), omega (arith, Partly-length c.args.text.now c.push.new.self next p, ap length cell))

pub loop-found-preserved : goal.loop-found-preserved
loop-found-preserved c =
    let p = after_plain (goal.at.loop-found-preserved c).In_ok-push in
    let next = c.cut_plain.result.1.now in
    let after = c.past_first-after.result.now in
    let rest = c.past_first-rest.result.now in
    let letter = c.in-Some-first_byte.letter in
    let stands = c.in-Some-escaped.ensures in
    let cell = first_is next after c.in-Some.quote 92 c.in-Some.ensures (is_backslash next c.in-Some.quote c.cut_plain.ensures.end c.in-Some.ensures c.if-quote-eq34.false) c.past_first-after.ensures in
    let cell2 = first_is after rest letter letter c.in-Some-first_byte.ensures refl c.past_first-rest.ensures in
    record {
      utf8 = c.past_first-rest.utf8;
      partly = subst (λ found. Partly c.args.text.now found rest) (sym (c.in_ok-push-2.ensures.ok ∙ ap (λ s. c.push.new.self ++ s) stands.2))
          (Partly-more c.args.text.now c.push.new.self next (stands.0 ∷ []) (92 ∷ letter ∷ []) rest p (cell ∙ ap (λ r. 92 ∷ r) cell2) (IsQuoted-escape letter stands.0 stands.1));
    }
