-- What the first line of an answer says.
use Rattle.std.proofs.Common.{◌≡◌, ◌≢◌, inl, inr, ℕ, ◌+◌, ◌^◌, ◌≤◌, ◌<◌, List, [], ◌∷◌, ◌++◌, take, length, refl, sym, ap, ◌∙◌, subst, arith, append_assoc, length-append}
use Rattle.std.proofs.Math.Seq.{take-length}
use Rattle.child_ports.specs.Git.{missing, ambiguous, IsName}
use Rattle.object_frames.specs.declared.kind.Kind.{Kind}
use Rattle.object_frames.specs.declared.head.Head.{Head}
use Rattle.object_frames.specs.declared.head.Head.TheVariants.{Missing, Object, Odd, Cut}
use Rattle.object_frames.specs.Id.{IsId}
use Rattle.object_frames.specs.Line.{IsPiece}
use Rattle.object_frames.specs.Frame.{header_line, IsHeaderLine, Begins, IsLongest}
use Rattle.object_frames.specs.Fronts.{front_of}
use Rattle.object_frames.specs.Head.{StartsWith, IsHead, IsOddHead, IsSmallHead}
use Rattle.object_frames.proofs.HeaderLemmas.{line_of_header, length-header}
use Rattle.object_frames.proofs.PieceLemmas.{longest_whole, none_whole, all_of_it}
use Rattle.object_frames.proofs.LongestLemmas.{front_longest}

pub no_header_line : (name line : List ℕ) → line ≢ missing name → line ≢ ambiguous name
    → ((id : List ℕ) (kind : Kind) (size : ℕ) → IsId id → size < 10 ^ 18 → line ≢ header_line id kind size ++ 10 ∷ []) → IsHeaderLine name line → ⊥
no_header_line name line m a h (inl e) = m e
no_header_line name line m a h (inr (inl e)) = a e
no_header_line name line m a h (inr (inr o)) = h o.id o.kind o.size o.is_id o.small o.whole

pub odd_is_head : (name line : List ℕ) → (IsHeaderLine name line → ⊥) → (head : Head) → IsOddHead name line head → IsHead name line head
odd_is_head name line isnt Missing odd = absurd odd
odd_is_head name line isnt (Object header) odd = absurd odd
odd_is_head name line isnt (Odd at) odd = (isnt, odd)
odd_is_head name line isnt (Cut at) odd = (isnt, odd)

pub small_head : (name line : List ℕ) (head : Head) → IsHead name line head → IsSmallHead head
small_head name line Missing said = tt
small_head name line (Object header) said =
    let has = said.0 in
    (has.size, omega (arith, has.len, length-header header.id header.kind header.size has.id has.size))
small_head name line (Odd at) said = tt
small_head name line (Cut at) said = tt

module _ (name whole line rest : List ℕ) (room : ℕ) (is_name : IsName name) (for_name : length name + 11 ≤ room) (for_header : 67 ≤ room)
    (piece : IsPiece room line rest) (is : whole ≡ line ++ rest) where
  none : (IsHeaderLine name line → ⊥) → (l more : List ℕ) → IsHeaderLine name l → whole ≢ l ++ more
  none = none_whole (IsHeaderLine name) room (λ l. line_of_header room name l is_name for_name for_header) whole line rest piece is

  -- no line of one kind at the front, where the piece is none
  no_front : (l : List ℕ) → IsHeaderLine name l → line ≢ l → (more : List ℕ) → whole ≢ l ++ more
  no_front l header other more = none_whole (λ w. w ≡ l) room (λ w e. line_of_header room name w is_name for_name for_header (subst (IsHeaderLine name) (sym e) header)) whole line rest piece is
      other l more refl

  -- what the line says the bytes begin with
  pub starts : (head : Head) → IsHead name line head → StartsWith name whole head rest
  starts Missing (inl said) = inl (is ∙ ap (λ l. l ++ rest) said)
  starts Missing (inr said) = inr (is ∙ ap (λ l. l ++ rest) said)
  starts (Object header) said = (
    record {
      id = said.0.id;
      size = said.0.size;
      len = said.0.len;
      whole = is ∙ ap (λ l. l ++ rest) said.0.whole ∙ append_assoc (header_line header.id header.kind header.size) (10 ∷ []) rest;
    },
    no_front (missing name) (inl refl) said.1,
    no_front (ambiguous name) (inr (inl refl)) said.2,
  )
  starts (Odd at) said =
      let fits = said.1.1 in
      let size : length whole ≡ length line + length rest = ap length is ∙ length-append line rest in (
        none said.0,
        subst (IsLongest (IsHeaderLine name) whole) (sym said.1.0)
            (longest_whole (IsHeaderLine name) room (λ l. line_of_header room name l is_name for_name for_header) whole line rest piece is (front_of name line) (front_longest name line)),
        omega arith,
      )
  starts (Cut at) said =
      let long = front_longest name line in
      let full : front_of name line ≡ length line = omega (arith, long.within, said.1.1) in
      let begins : Begins (IsHeaderLine name) line = subst (Begins (IsHeaderLine name)) (ap (λ (n : ℕ). take n line) full ∙ take-length line) long.begins in
      let same = all_of_it (IsHeaderLine name) room (λ l. line_of_header room name l is_name for_name for_header) whole line rest piece is begins said.0 in
      (none said.0, subst (Begins (IsHeaderLine name)) (sym same) begins, said.1.0 ∙ ap length (sym same))
