-- The worked examples, computed.
use Rattle.std.proofs.Common.{◌≡◌, ℕ, ◌<◌, zero, suc, List, [], ◌∷◌, ◌++◌, codes, refl, arith, length, slice_index}
use Rattle.std.specs.Prelude.{Bool, true, false, ◌&&◌, Some, None, Ok, Err, nat_lt}
use Rattle.std.specs.List.{list_all}
use Rattle.std.specs.Str.{IsAscii}
use Rattle.std.proofs.lemmas.Bool.Decides.{nat_tests}
use Rattle.std.proofs.lemmas.Str.{IsUtf8-from_ascii, is_utf8-from_IsUtf8}
use Rattle.hex.specs.Hex.{decode_pairs}
use Rattle.child_ports.specs.declared.fingerprint.Fingerprint.{Fingerprint}
use Rattle.sexp_reader.specs.Reading.{first_datum, read, placed, between}
use Rattle.channel_file.specs.Channels.{channel_of, channels_of}
use Rattle.channel_file.specs.Dependencies.{dependency_of}
use Rattle.channel_file.specs.Metadata.{metadata_from, metadata_of}
use Rattle.channel_file.specs.declared.fail.ChannelFail.TheVariants as fail

and_parts : (a b : Bool) → (a && b) ≡ true → (a ≡ true) × (b ≡ true)
and_parts true b is = (refl, is)
and_parts false b is = absurd (cc)

below : (b : ℕ) → nat_lt b 128 ≡ true → b < 128
below b is = grind (arith, nat_tests)

ascii : (bs : List ℕ) → list_all (λ b. nat_lt b 128) bs ≡ true → IsAscii bs
ascii [] is = λ i. omega arith
ascii (b ∷ bs) is = λ i. elim i as (λ (j : ℕ). slice_index (b ∷ bs) j < 128) [
  | zero ↦ below b (and_parts _ _ is).0
  | suc j ↦ ascii bs (and_parts _ _ is).1 j
]

-- what ASCII reads as
as_read : (bytes : List ℕ) → list_all (λ b. nat_lt b 128) bytes ≡ true → first_datum bytes ≡ placed (length bytes) (read between [] bytes)
unfolding first_datum
as_read bytes is = rw (is_utf8-from_IsUtf8 bytes (IsUtf8-from_ascii bytes (ascii bytes is))) refl

-- ---- a list of channels

no_channels : channels_of (codes "(list)") ≡ Ok []
unfolding channels_of channel_of read decode_pairs
no_channels = rw (as_read (codes "(list)") refl) refl

cons_named : channels_of (codes "(cons (channel) %default-channels)") ≡ Err (fail.Evaluates (codes "cons"))
unfolding channels_of channel_of read decode_pairs
cons_named = rw (as_read (codes "(cons (channel) %default-channels)") refl) refl

-- as `guix describe --format=channels` writes it
abbrev guix : List ℕ
guix = codes "(list (channel\n"
    ++ codes "        (name 'guix)\n"
    ++ codes "        (url \"https://git.savannah.gnu.org/git/guix.git\")\n"
    ++ codes "        (branch \"master\")\n"
    ++ codes "        (commit \"9edb3f66fd807b096b48283debdcddccfea34bad\")\n"
    ++ codes "        (introduction\n"
    ++ codes "          (make-channel-introduction\n"
    ++ codes "            \"9edb3f66fd807b096b48283debdcddccfea34bad\"\n"
    ++ codes "            (openpgp-fingerprint\n"
    ++ codes "              \"BBB0 2DDF 2CEA F6A8 0D1D  E643 A2A0 6DF2 A33A 54FA\")))))"

abbrev guix_commit : List ℕ
guix_commit = 158 ∷ 219 ∷ 63 ∷ 102 ∷ 253 ∷ 128 ∷ 123 ∷ 9 ∷ 107 ∷ 72 ∷ 40 ∷ 61 ∷ 235 ∷ 220 ∷ 221 ∷ 204 ∷ 254 ∷ 163 ∷ 75 ∷ 173 ∷ []

abbrev guix_signer : Fingerprint
guix_signer = record { 0 = 187 ∷ 176 ∷ 45 ∷ 223 ∷ 44 ∷ 234 ∷ 246 ∷ 168 ∷ 13 ∷ 29 ∷ 230 ∷ 67 ∷ 162 ∷ 160 ∷ 109 ∷ 242 ∷ 163 ∷ 58 ∷ 84 ∷ 250 ∷ [] }

guix_channel : channels_of guix ≡ Ok (record {
  name = codes "guix";
  url = codes "https://git.savannah.gnu.org/git/guix.git";
  branch = codes "master";
  commit = Some guix_commit;
  introduction = Some (record { commit = guix_commit; signer = guix_signer });
} ∷ [])
unfolding channels_of channel_of read decode_pairs
guix_channel = rw (as_read guix refl) refl

-- ---- metadata

-- as Guix's manual has it
abbrev collection : List ℕ
collection = codes "(channel\n"
    ++ codes " (version 0)\n"
    ++ codes " (dependencies\n"
    ++ codes "  (channel\n"
    ++ codes "   (name some-collection)\n"
    ++ codes "   (url \"https://example.org/first-collection.git\")\n"
    ++ codes "   (introduction\n"
    ++ codes "    (channel-introduction\n"
    ++ codes "     (version 0)\n"
    ++ codes "     (commit \"a8883b58dc82e167c96506cf05095f37c2c2c6cd\")\n"
    ++ codes "     (signer \"CABB A931 C0FF EEC6 900D  0CFB 090B 1199 3D9A EBB5\"))))))"

collection_dependency : metadata_of collection ≡ Ok (record {
  directory = None;
  url = None;
  keyring_reference = None;
  news_file = None;
  dependencies = record {
    name = codes "some-collection";
    url = codes "https://example.org/first-collection.git";
    branch = codes "master";
    commit = None;
    introduction = Some (record {
      commit = 168 ∷ 136 ∷ 59 ∷ 88 ∷ 220 ∷ 130 ∷ 225 ∷ 103 ∷ 201 ∷ 101 ∷ 6 ∷ 207 ∷ 5 ∷ 9 ∷ 95 ∷ 55 ∷ 194 ∷ 194 ∷ 198 ∷ 205 ∷ [];
      signer = record { 0 = 202 ∷ 187 ∷ 169 ∷ 49 ∷ 192 ∷ 255 ∷ 238 ∷ 198 ∷ 144 ∷ 13 ∷ 12 ∷ 251 ∷ 9 ∷ 11 ∷ 17 ∷ 153 ∷ 61 ∷ 154 ∷ 235 ∷ 181 ∷ [] };
    });
  } ∷ [];
})
unfolding metadata_of metadata_from dependency_of read decode_pairs
collection_dependency = rw (as_read collection refl) refl
