-- Ids of objects are digests: 20 bytes, told by their digits.
use Rattle.std.proofs.Common.{◌≡◌, ℕ, zero, suc, ◌*◌, List, [], ◌∷◌, ◌++◌, length, refl, ap, ◌∙◌, arith, length-append}
use Rattle.std.specs.Prelude.{slice_index}
use Rattle.std.specs.Int.{w32, to_be_bytes}
use Rattle.hex.specs.Hex.{IsBytes, encode_lower, decode_of}
use Rattle.hex.proofs.HexLemmas.{decode_of-encode_lower, decode_of-same}
use Rattle.sha1.specs.Sha1.{sha1, digest_bytes, hash_after}
use Rattle.object_frames.specs.Id.{IsId}
use Rattle.object_frames.specs.Object.{object_id}
use Rattle.object_frames.specs.declared.kind.Kind.{Kind}

word_bytes : (n : ℕ) → IsBytes (to_be_bytes w32 n)
word_bytes n zero = omega arith
word_bytes n (suc zero) = omega arith
word_bytes n (suc (suc zero)) = omega arith
word_bytes n (suc (suc (suc zero))) = omega arith
word_bytes n (suc (suc (suc (suc i)))) = omega arith

bytes_append : (xs ys : List ℕ) → IsBytes xs → IsBytes ys → IsBytes (xs ++ ys)
bytes_append [] ys h k = k
bytes_append (x ∷ xs) ys h k = more (bytes_append xs ys (λ j. h (suc j)) k)
  where
    more : IsBytes (xs ++ ys) → IsBytes (x ∷ (xs ++ ys))
    more rest zero = h 0
    more rest (suc i) = rest i

no_bytes : IsBytes []
no_bytes i = omega arith

digest_is : (hash : List ℕ) (n : ℕ) → (length (digest_bytes hash n) ≡ n * 4) × IsBytes (digest_bytes hash n)
unfolding digest_bytes
digest_is hash zero = (refl, no_bytes)
digest_is hash (suc n) =
    let before = digest_is hash n in
    (omega (arith, length-append (digest_bytes hash n) (to_be_bytes w32 (slice_index hash n)), before.0), bytes_append (digest_bytes hash n) (to_be_bytes w32 (slice_index hash n)) before.1 (word_bytes (slice_index hash n)))

-- a digest has 20 bytes
pub digest_id : (message : List ℕ) → IsId (sha1 message)
unfolding sha1
digest_id message = let is = digest_is (hash_after _ _) 5 in record { count = is.0; bytes = is.1 }

pub object_is_id : (kind : Kind) (content : List ℕ) → IsId (object_id kind content)
object_is_id kind content = digest_id _

-- ids with the same digits are one
pub same_id : (i j : List ℕ) → IsId i → IsId j → encode_lower i ≡ encode_lower j → i ≡ j
same_id i j is js digits = decode_of-same (encode_lower i) i j (decode_of-encode_lower i is.bytes) (ap decode_of digits ∙ decode_of-encode_lower j js.bytes)
