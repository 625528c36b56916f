-- Toy keys: a packet by OpenPGP's form of a version 4 key (RFC 4880, sections 4.2.1 and 5.5.2) with the name in place of
-- the key's material.
use Rattle.std.specs.Prelude.{ℕ, ◌+◌, List, ◌∷◌, ◌++◌, length, codes}
use Rattle.keyring_branch.specs.Packets.{fingerprint_of_body}
use Rattle.stand_world.specs.declared.key.Key.{Key}

-- version 4, no time, algorithm 1, and the name
abbrev pub key_body : List ℕ → List ℕ
key_body name = 4 ∷ 0 ∷ 0 ∷ 0 ∷ 0 ∷ 1 ∷ name

-- a packet of the old form with tag 6 and a length of one byte
abbrev pub key_packet : List ℕ → List ℕ
key_packet name = 0x98 ∷ (6 + length name) ∷ key_body name

-- the key of this name
abbrev pub key_of : List ℕ → Key
key_of name = record { name = name; file = name ++ codes ".key"; packet = key_packet name; print = fingerprint_of_body (key_body name) }
