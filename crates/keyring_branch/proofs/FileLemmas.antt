-- Key files by their grammar, and their reading.
use Rattle.std.proofs.Common.{◌≡◌, ◌≢◌, ◌⊎◌, inl, inr, ℕ, ◌+◌, ◌-◌, true, false, cond, List, [], ◌∷◌, length, refl, sym, ap, ◌∙◌, subst, arith, length-append}
use Rattle.std.specs.Prelude.{Result, Ok, Err, IfOk, IfErr}
use Rattle.std.specs.FinSet.{from_list}
use Rattle.child_ports.specs.KeySet.{Keys, key_cmp}
use Rattle.child_ports.specs.declared.fingerprint.Fingerprint.{Fingerprint}
use Rattle.keyring_branch.specs.Lines.{lines_of}
use Rattle.keyring_branch.specs.Armour.{IsArmour, part_lines, is_binary, IsDearmored}
use Rattle.keyring_branch.specs.ArmourFaults.{HasBadBlock, IsArmourFault}
use Rattle.keyring_branch.specs.ArmourReading.{contents_from, contents_of, dearmored}
use Rattle.keyring_branch.specs.Fail.{onward, Gives}
use Rattle.keyring_branch.specs.KeyFile.{IsKeyFile, IsKeyFault, part_of, keys_of}
use Rattle.keyring_branch.specs.PacketFaults.{IsFrontFault, HasBadPacket}
use Rattle.keyring_branch.specs.PacketReading.{packets_of, some_keys, packet_keys}
use Rattle.keyring_branch.specs.Packets.{Packet, IsRun, keys_among}
use Rattle.keyring_branch.specs.declared.key_fail.KeyFail.{KeyFail}
use Rattle.keyring_branch.specs.declared.key_fail.KeyFail.TheVariants as fail
use Rattle.keyring_branch.specs.declared.key_file.KeyPart.{KeyPart}
use Rattle.keyring_branch.proofs.TextLemmas.{BadFrom, Says, says, parts_written}
use Rattle.keyring_branch.proofs.RunLemmas.{BadRun, RunSays, run_says, run_written}

-- ---- out of its armour

abbrev total : List ℕ → ℕ
total file = length (lines_of file)

text_says : (text : List ℕ) → Says (total text) (lines_of text) (contents_of text)
unfolding contents_of
text_says text = says (total text) (total text) (lines_of text) (omega arith)

text_written : (text contents : List ℕ) → IsArmour (lines_of text) contents → contents_of text ≡ Ok contents
unfolding contents_of
text_written text contents a =
    ap (contents_from (total text) (total text)) a.whole ∙ parts_written (total text) (total text) a.parts a.each (omega (arith, ap length a.whole)) ∙ ap (λ (l : List ℕ). Ok l) (sym a.joined)

abbrev DearmorSays : List ℕ → Result (List ℕ) KeyFail → Type 0
DearmorSays file (Ok bytes) = IsDearmored file bytes
DearmorSays file (Err fault) = (is_binary file ≡ false) × BadFrom (total file) (lines_of file) fault

as_text : (file : List ℕ) (r : Result (List ℕ) KeyFail) → is_binary file ≡ false → Says (total file) (lines_of file) r → DearmorSays file r
as_text file (Ok contents) text a = inr (text, a)
as_text file (Err fault) text b = (text, b)

dearmored_says : (file : List ℕ) → DearmorSays file (dearmored file)
unfolding dearmored
dearmored_says file = elim (is_binary file) as (λ t. is_binary file ≡ t → DearmorSays file (cond t (Ok file) (contents_of file))) [
  | true ↦ λ is. inl (is, refl)
  | false ↦ λ is. as_text file (contents_of file) is (text_says file)
] refl

dearmored_written : (file bytes : List ℕ) → IsDearmored file bytes → dearmored file ≡ Ok bytes
unfolding dearmored
dearmored_written file bytes is = elim is [
  | inl binary ↦ ap (λ t. cond t (Ok file) (contents_of file)) binary.0 ∙ ap (λ (l : List ℕ). Ok l) (sym binary.1)
  | inr text ↦ ap (λ t. cond t (Ok file) (contents_of file)) text.0 ∙ text_written file bytes text.1
]

says_of : (file : List ℕ) (r : Result (List ℕ) KeyFail) → dearmored file ≡ r → DearmorSays file r
says_of file r is = subst (DearmorSays file) is (dearmored_says file)

bad_block : (file : List ℕ) (number : ℕ) → BadFrom (total file) (lines_of file) (fail.Armor number) → HasBadBlock (lines_of file) number
bad_block file number b =
    let at : number ≡ total file - length b.behind = armor b.fault_is in
    let size : total file ≡ length (part_lines b.before) + (length b.behind + 1) = ap length b.whole ∙ length-append (part_lines b.before) (b.first ∷ b.behind) ∙ omega arith in
    record {
      before = b.before;
      first = b.first;
      behind = b.behind;
      each = b.each;
      begin = b.begin;
      no_block = b.no_block;
      at = omega (arith, at, size);
      whole = b.whole;
    }
  where
    armor : {m n : ℕ} → fail.Armor m ≡ fail.Armor n → m ≡ n
    armor e = cc

armour_fault : (file : List ℕ) (fault : KeyFail) → (is_binary file ≡ false) × BadFrom (total file) (lines_of file) fault → IsArmourFault file fault
armour_fault file (fail.Armor number) b = (b.0, bad_block file number b.1)
armour_fault file (fail.Packet at) b = let clash = b.1.fault_is in cc
armour_fault file (fail.Length at) b = let clash = b.1.fault_is in cc
armour_fault file fail.NoKey b = let clash = b.1.fault_is in cc
armour_fault file fail.Memory b = tt

pub is_dearmored : (file : List ℕ) (r : Result (List ℕ) KeyFail) → Gives r (dearmored file) → IfOk r (IsDearmored file)
is_dearmored file (Ok bytes) is = says_of file (Ok bytes) is
is_dearmored file (Err fault) is = tt

pub only_dearmored : (file : List ℕ) (r : Result (List ℕ) KeyFail) → Gives r (dearmored file) → (bytes : List ℕ) → IsDearmored file bytes → Gives r (Ok bytes)
only_dearmored file r gives bytes is = subst (Gives r) (dearmored_written file bytes is) gives

given : {A : Type 0} (fault : KeyFail) (reading : Result A KeyFail) → Gives (Err fault) reading → (fault ≡ fail.Memory) ⊎ (reading ≡ Err fault)
given (fail.Armor n) reading is = inr is
given (fail.Packet n) reading is = inr is
given (fail.Length n) reading is = inr is
given fail.NoKey reading is = inr is
given fail.Memory reading is = inl refl

pub is_armour_fault : (file : List ℕ) (r : Result (List ℕ) KeyFail) → Gives r (dearmored file) → IfErr r (IsArmourFault file)
is_armour_fault file (Ok bytes) gives = tt
is_armour_fault file (Err fault) gives = elim (given fault (dearmored file) gives) [
  | inl memory ↦ subst (IsArmourFault file) (sym memory) tt
  | inr is ↦ armour_fault file fault (says_of file (Err fault) is)
]

-- ---- keys

abbrev KeysSay : List ℕ → Result Keys KeyFail → Type 0
KeysSay bytes (Ok keys) = (packets : List Packet) × IsRun bytes packets × (keys_among packets ≢ []) × (keys ≡ from_list (keys_among packets))
KeysSay bytes (Err fault) = (BadRun 0 bytes fault) ⊎ ((fault ≡ fail.NoKey) × ((packets : List Packet) × IsRun bytes packets × (keys_among packets ≡ [])))

listed_say : (bytes : List ℕ) (packets : List Packet) (listed : List Fingerprint) → IsRun bytes packets → keys_among packets ≡ listed → KeysSay bytes (some_keys listed)
listed_say bytes packets [] run is = inr (refl, (packets, run, is))
listed_say bytes packets (key ∷ keys) run is = (packets, run, λ none. absurd (key_there (sym is ∙ none)), ap (λ (l : List Fingerprint). from_list {R = key_cmp} l) (sym is))
  where
    key_there : {k : Fingerprint} {ks : List Fingerprint} → k ∷ ks ≡ [] → ⊥
    key_there e = cc

run_keys_say : (bytes : List ℕ) (r : Result (List Packet) KeyFail) → RunSays 0 bytes r → KeysSay bytes (onward r (λ packets. some_keys (keys_among packets)))
run_keys_say bytes (Ok packets) run = listed_say bytes packets (keys_among packets) run refl
run_keys_say bytes (Err fault) bad = inl bad

keys_say : (bytes : List ℕ) → KeysSay bytes (packet_keys bytes)
unfolding packet_keys
keys_say bytes = run_keys_say bytes (packets_of bytes) (run_says (length bytes) 0 bytes (omega arith))

some_listed : (listed : List Fingerprint) → listed ≢ [] → some_keys listed ≡ Ok (from_list listed)
some_listed [] some = absurd (some refl)
some_listed (key ∷ keys) some = refl

keys_written : (bytes : List ℕ) (packets : List Packet) → IsRun bytes packets → keys_among packets ≢ [] → packet_keys bytes ≡ Ok (from_list (keys_among packets))
unfolding packet_keys
keys_written bytes packets run some =
    ap (λ (r : Result (List Packet) KeyFail). onward r (λ packets. some_keys (keys_among packets))) (run_written (length bytes) 0 bytes packets run (omega arith)) ∙ some_listed (keys_among packets) some

-- ---- a file

bad_packet : (bytes : List ℕ) (fault : KeyFail) → BadRun 0 bytes fault → HasBadPacket bytes fault
bad_packet bytes fault b =
    let here : 0 + length b.front ≡ length b.front = omega arith in
    record { before = b.before; front = b.front; rest = b.rest; run = b.run; whole = b.whole; wrong = subst (λ (k : ℕ). IsFrontFault k b.rest fault) here b.wrong }

no_other : (at : ℕ) (rest : List ℕ) (number : ℕ) → IsFrontFault at rest (fail.Armor number) → ⊥
no_other at [] number h = h
no_other at (b ∷ rest) number h = h

no_want : (at : ℕ) (rest : List ℕ) → IsFrontFault at rest fail.NoKey → ⊥
no_want at [] h = h
no_want at (b ∷ rest) h = h

packet_fault : (file bytes : List ℕ) (fault : KeyFail) → IsDearmored file bytes → KeysSay bytes (Err fault) → IsKeyFault file fault
packet_fault file bytes (fail.Armor number) is say = elim say [
  | inl bad ↦ absurd (no_other (0 + length bad.front) bad.rest number bad.wrong)
  | inr none ↦ let clash = none.0 in cc
]
packet_fault file bytes (fail.Packet at) is say = elim say [
  | inl bad ↦ record { bytes = bytes; dearmored = is; bad = bad_packet bytes (fail.Packet at) bad }
  | inr none ↦ let clash = none.0 in cc
]
packet_fault file bytes (fail.Length at) is say = elim say [
  | inl bad ↦ record { bytes = bytes; dearmored = is; bad = bad_packet bytes (fail.Length at) bad }
  | inr none ↦ let clash = none.0 in cc
]
packet_fault file bytes fail.NoKey is say = elim say [
  | inl bad ↦ absurd (no_want (0 + length bad.front) bad.rest bad.wrong)
  | inr none ↦ record { packets = none.1.0; holds = record { bytes = bytes; dearmored = is; run = none.1.1 }; none = none.1.2 }
]
packet_fault file bytes fail.Memory is say = tt

abbrev FileSays : List ℕ → Result Keys KeyFail → Type 0
FileSays file (Ok keys) = IsKeyFile file keys
FileSays file (Err fault) = IsKeyFault file fault

with_keys : (file bytes : List ℕ) (r : Result Keys KeyFail) → IsDearmored file bytes → KeysSay bytes r → FileSays file r
with_keys file bytes (Ok keys) is say = record { packets = say.0; holds = record { bytes = bytes; dearmored = is; run = say.1 }; some = say.2; set = say.3 }
with_keys file bytes (Err fault) is say = packet_fault file bytes fault is say

fault_of_file : (file : List ℕ) (fault : KeyFail) → IsArmourFault file fault → IsKeyFault file fault
fault_of_file file (fail.Armor number) h = h
fault_of_file file (fail.Packet at) h = absurd h
fault_of_file file (fail.Length at) h = absurd h
fault_of_file file fail.NoKey h = absurd h
fault_of_file file fail.Memory h = tt

abbrev part : List ℕ → Keys → KeyPart
part bytes keys = record { bytes = bytes; keys = keys }

-- the keys that follow what was dearmored
keys_behind : (r : Result (List ℕ) KeyFail) → onward (onward r (λ bytes. onward (packet_keys bytes) (λ keys. Ok (part bytes keys)))) (λ (p : KeyPart). Ok p.keys) ≡ onward r packet_keys
keys_behind (Ok bytes) = kept bytes (packet_keys bytes)
  where
    kept : (bytes : List ℕ) (k : Result Keys KeyFail) → onward (onward k (λ keys. Ok (part bytes keys))) (λ (p : KeyPart). Ok p.keys) ≡ k
    kept bytes (Ok keys) = refl
    kept bytes (Err fault) = refl
keys_behind (Err fault) = refl

keys_of_is : (file : List ℕ) → keys_of file ≡ onward (dearmored file) packet_keys
unfolding part_of
keys_of_is file = keys_behind (dearmored file)

file_behind : (file : List ℕ) (r : Result (List ℕ) KeyFail) → DearmorSays file r → FileSays file (onward r packet_keys)
file_behind file (Ok bytes) is = with_keys file bytes (packet_keys bytes) is (keys_say bytes)
file_behind file (Err fault) b = fault_of_file file fault (armour_fault file fault b)

file_says : (file : List ℕ) (r : Result Keys KeyFail) → keys_of file ≡ r → FileSays file r
file_says file r is = subst (FileSays file) (sym (keys_of_is file) ∙ is) (file_behind file (dearmored file) (dearmored_says file))

pub is_key_file : (file : List ℕ) (r : Result Keys KeyFail) → Gives r (keys_of file) → IfOk r (IsKeyFile file)
is_key_file file (Ok keys) is = file_says file (Ok keys) is
is_key_file file (Err fault) is = tt

keys_read : (file : List ℕ) (keys : Keys) → IsKeyFile file keys → keys_of file ≡ Ok keys
keys_read file keys is =
    keys_of_is file ∙ ap (λ (b : Result (List ℕ) KeyFail). onward b packet_keys) (dearmored_written file is.holds.bytes is.holds.dearmored)
    ∙ keys_written is.holds.bytes is.packets is.holds.run is.some ∙ ap (λ (k : Keys). Ok k) (sym is.set)

pub only_key_file : (file : List ℕ) (r : Result Keys KeyFail) → Gives r (keys_of file) → (keys : Keys) → IsKeyFile file keys → Gives r (Ok keys)
only_key_file file r gives keys is = subst (Gives r) (keys_read file keys is) gives

pub is_key_fault : (file : List ℕ) (r : Result Keys KeyFail) → Gives r (keys_of file) → IfErr r (IsKeyFault file)
is_key_fault file (Ok keys) gives = tt
is_key_fault file (Err fault) gives = elim (given fault (keys_of file) gives) [
  | inl memory ↦ subst (IsKeyFault file) (sym memory) tt
  | inr is ↦ file_says file (Err fault) is
]

-- ---- packets and keys

both_read : (file : List ℕ) (p : KeyPart) → dearmored file ≡ Ok p.bytes → packet_keys p.bytes ≡ Ok p.keys → IsDearmored file p.bytes × IsKeyFile file p.keys
both_read file p is has =
    let there = says_of file (Ok p.bytes) is in
    (there, with_keys file p.bytes (Ok p.keys) there (subst (KeysSay p.bytes) has (keys_say p.bytes)))

pub part_read : (file : List ℕ) (p : KeyPart) → part_of file ≡ Ok p → IsDearmored file p.bytes × IsKeyFile file p.keys
unfolding part_of
part_read file p e =
    elim (dearmored file) as (λ r. dearmored file ≡ r → onward r (λ bytes. onward (packet_keys bytes) (λ keys. Ok (part bytes keys))) ≡ Ok p → IsDearmored file p.bytes × IsKeyFile file p.keys) [
      | Err fault ↦ λ is h. cc
      | Ok bytes ↦ λ is h. elim (packet_keys bytes) as (λ k. packet_keys bytes ≡ k → onward k (λ keys. Ok (part bytes keys)) ≡ Ok p → IsDearmored file p.bytes × IsKeyFile file p.keys) [
        | Err fault ↦ λ has k. cc
        | Ok keys ↦ λ has k.
            let same : part bytes keys ≡ p = cc in
            both_read file p (is ∙ ap (λ (q : KeyPart). Ok q.bytes) same) (ap packet_keys (sym (ap (λ (q : KeyPart). q.bytes) same)) ∙ has ∙ ap (λ (q : KeyPart). Ok q.keys) same)
      ] refl h
    ] refl e

pub part_written : (file : List ℕ) (p : KeyPart) → IsDearmored file p.bytes → IsKeyFile file p.keys → part_of file ≡ Ok p
unfolding part_of
part_written file p is keyed =
    let read : dearmored file ≡ Ok p.bytes = dearmored_written file p.bytes is in
    let has : packet_keys p.bytes ≡ Ok p.keys = sym (keys_of_is file ∙ ap (λ (b : Result (List ℕ) KeyFail). onward b packet_keys) read) ∙ keys_read file p.keys keyed in
    ap (λ (r : Result (List ℕ) KeyFail). onward r (λ bytes. onward (packet_keys bytes) (λ keys. Ok (part bytes keys)))) read ∙ ap (λ (k : Result Keys KeyFail). onward k (λ keys. Ok (part p.bytes keys))) has
