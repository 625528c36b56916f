-- Names that git can be asked, without blanks.
use Rattle.std.proofs.Common.{◌≡◌, ℕ, Bool, ◌+◌, ◌≤◌, true, false, ◌&&◌, not, eqb, nat_le, List, [], ◌∷◌, ◌++◌, length, refl, sym, ap, ◌∙◌, arith, length-append, codes}
use Rattle.std.specs.List.{list_all}
use Rattle.std.proofs.lemmas.Bool.{false≢true, and_parts, leb-true}
use Rattle.hex.specs.Hex.{encode_lower}
use Rattle.byte_cuts.specs.Cuts.{Lacks}
use Rattle.object_frames.specs.Id.{IsId}
use Rattle.object_frames.proofs.IdLemmas.{length-hex, no_end_hex}
use Rattle.stand_world.specs.Names.{is_name_byte, is_name}
use Rattle.stand_world.specs.World.{branch_name, remote_name, commit_name}
use Rattle.stand_world.proofs.ObjectLemmas.{lacks_id}

-- of at most so many bytes, none of them a blank or a line feed
pub record IsPlain (most : ℕ) (name : List ℕ) : Type 0 where
  pub short : length name ≤ most
  pub one_word : Lacks 32 name
  pub one_line : Lacks 10 name

lacks_append : (end : ℕ) (xs ys : List ℕ) → Lacks end xs → Lacks end ys → Lacks end (xs ++ ys)
lacks_append end [] ys h k = k
lacks_append end (x ∷ xs) ys h k = (h.0, lacks_append end xs ys h.1 k)

-- bytes of a form lack one that isn't of it
lacks_other : (form : ℕ → Bool) (end : ℕ) (xs : List ℕ) → form end ≡ false → list_all form xs ≡ true → Lacks end xs
lacks_other form end [] other h = tt
lacks_other form end (x ∷ xs) other h =
    let both = and_parts (form x) (list_all form xs) h in
    (λ e. false≢true (sym other ∙ ap form (sym e) ∙ both.0), lacks_other form end xs other both.1)

pub plain_append : (a b : ℕ) (xs ys : List ℕ) → IsPlain a xs → IsPlain b ys → IsPlain (a + b) (xs ++ ys)
plain_append a b xs ys one two =
    let short_one : length xs ≤ a = one.short in
    let short_two : length ys ≤ b = two.short in
    record {
      short = omega (arith, length-append xs ys);
      one_word = lacks_append 32 xs ys one.one_word two.one_word;
      one_line = lacks_append 10 xs ys one.one_line two.one_line;
    }

-- a word of the program, by computation
pub plain_word : (word : List ℕ) → list_all (λ b. not (eqb b 32)) word ≡ true → list_all (λ b. not (eqb b 10)) word ≡ true → IsPlain (length word) word
plain_word word one two = record {
  short = omega arith;
  one_word = lacks_other (λ b. not (eqb b 32)) 32 word refl one;
  one_line = lacks_other (λ b. not (eqb b 10)) 10 word refl two;
}

pub plain_id : (id : List ℕ) → IsId id → IsPlain 40 (encode_lower id)
plain_id id is = record { short = omega (arith, length-hex id is); one_word = lacks_id id is; one_line = no_end_hex id is.bytes }

pub plain_name : (name : List ℕ) → is_name name ≡ true → IsPlain 16 name
plain_name name h =
    let first = and_parts (nat_le 1 (length name) && nat_le (length name) 16) (list_all is_name_byte name) h in
    let sizes = and_parts (nat_le 1 (length name)) (nat_le (length name) 16) first.0 in
    record {
      short = leb-true (length name) 16 sizes.1;
      one_word = lacks_other is_name_byte 32 name refl first.1;
      one_line = lacks_other is_name_byte 10 name refl first.1;
    }

pub plain_commit : (most : ℕ) (name : List ℕ) → IsPlain most name → IsPlain (most + 9) (commit_name name)
unfolding commit_name
plain_commit most name is = plain_append most 9 name (codes "^{commit}") is (plain_word (codes "^{commit}") refl refl)

pub plain_branch : (most : ℕ) (name : List ℕ) → IsPlain most name → IsPlain (11 + most) (branch_name name)
unfolding branch_name
plain_branch most name is = plain_append 11 most (codes "refs/heads/") name (plain_word (codes "refs/heads/") refl refl) is

pub plain_remote : (most : ℕ) (name : List ℕ) → IsPlain most name → IsPlain (20 + most) (remote_name name)
unfolding remote_name
plain_remote most name is = plain_append 20 most (codes "refs/remotes/origin/") name (plain_word (codes "refs/remotes/origin/") refl refl) is
