-- What a piece of an answer tells of the whole answer.
use Rattle.std.proofs.Common.{◌≡◌, ◌≢◌, inl, inr, ℕ, ◌+◌, List, [], ◌∷◌, ◌++◌, take, length, refl, sym, ap, ◌∙◌, subst, arith, append_assoc, length-append}
use Rattle.std.proofs.lemmas.List.{append-nil, take-append-le}
use Rattle.object_frames.specs.Line.{IsPiece}
use Rattle.object_frames.specs.Frame.{Begins, IsLongest}
use Rattle.object_frames.proofs.LineLemmas.{same_line, line_is_piece, front_in_piece}
use Rattle.object_frames.proofs.HeaderLemmas.{LineIn}

nothing : (xs : List ℕ) → length xs ≡ 0 → xs ≡ []
nothing [] e = refl
nothing (x ∷ xs) e = absurd (omega arith)

module _ (Line : List ℕ → Type 0) (room : ℕ) (in_room : (line : List ℕ) → Line line → LineIn room line) (whole piece rest : List ℕ) (kind : IsPiece room piece rest)
    (is : whole ≡ piece ++ rest) where
  -- the longest front of a line in the piece is that in the whole
  pub longest_whole : (at : ℕ) → IsLongest Line piece at → IsLongest Line whole at
  longest_whole at l =
      let size : length whole ≡ length piece + length rest = ap length is ∙ length-append piece rest in
      record {
        within = let h = l.within in omega arith;
        begins = (l.begins.0, subst (λ (f : List ℕ). Line (f ++ l.begins.0)) (sym (ap (take at) is ∙ take-append-le at piece rest l.within)) l.begins.1);
        longest = λ n lt le b.
            let line = in_room (take n whole ++ b.0) b.1 in
            let short = front_in_piece room whole piece rest line.text b.0 n kind is line.plain line.fits le line.whole in
            l.longest n lt short (b.0, subst (λ (f : List ℕ). Line (f ++ b.0)) (ap (take n) is ∙ take-append-le n piece rest short) b.1);
      }

  -- no line at the front of the whole, where the piece is none
  pub none_whole : (Line piece → ⊥) → (line more : List ℕ) → Line line → whole ≢ line ++ more
  none_whole isnt line more h e =
      let l = in_room line h in
      let got = line_is_piece room whole piece rest l.text more kind is l.plain l.fits (e ∙ ap (λ w. w ++ more) l.whole ∙ append_assoc l.text (10 ∷ []) more) in
      isnt (subst Line (l.whole ∙ sym got.0) h)

  -- a piece that begins a line and is none is all of the answer
  end_piece : (more : List ℕ) → Line (piece ++ more) → (Line piece → ⊥) → length more ≡ 0 → rest ≡ []
  end_piece more h isnt e = absurd (isnt (subst Line (ap (λ l. piece ++ l) (nothing more e) ∙ append-nil piece) h))

  by_kind : IsPiece room piece rest → (more : List ℕ) → Line (piece ++ more) → (Line piece → ⊥) → rest ≡ []
  by_kind (inl line) more h isnt =
      let l = in_room (piece ++ more) h in
      let same = same_line line.0 l.text more [] line.1 l.plain (sym (append_assoc line.0 (10 ∷ []) more) ∙ ap (λ w. w ++ more) (sym line.2) ∙ l.whole) in
      end_piece more h isnt (ap length same.1)
  by_kind (inr (no_end, inl end)) more h isnt = end
  by_kind (inr (no_end, inr full)) more h isnt =
      let l = in_room (piece ++ more) h in
      let size : length piece + length more ≡ length l.text + 1 = sym (length-append piece more) ∙ ap length l.whole ∙ length-append l.text (10 ∷ []) in
      let fits = l.fits in
      end_piece more h isnt (omega arith)

  pub all_of_it : Begins Line piece → (Line piece → ⊥) → whole ≡ piece
  all_of_it b isnt = is ∙ ap (λ r. piece ++ r) (by_kind kind b.0 b.1 isnt) ∙ append-nil piece
