-- A run of packets, one packet at a time.
use Rattle.std.proofs.Common.{◌≡◌, ◌≢◌, ℕ, zero, suc, ◌+◌, ◌-◌, ◌≤◌, ◌<◌, ◌==◌, Bool, true, false, cond, ◌||◌, List, [], ◌∷◌, ◌++◌, length, map, filter, refl, sym, ap, ◌∙◌, arith, append_assoc, append-nil}
use Rattle.std.specs.Prelude.{Result, Ok, Err}
use Rattle.std.specs.FinSet.{from_list, insert, empty, contains, len, contains-empty, contains-insert, empty_of_len, len-empty, from_list_push}
use Rattle.std.specs.Ordering.{is_eq}
use Rattle.std.proofs.lemmas.Bool.{false≢true, eqb-true}
use Rattle.std.proofs.lemmas.List.{map-append}
use Rattle.std.proofs.lemmas.List.Elements.{filter-append}
use Rattle.std.specs.Cmp.{tied_itself}
use Rattle.child_ports.specs.KeySet.{key_cmp, Keys}
use Rattle.child_ports.specs.declared.fingerprint.Fingerprint.{Fingerprint}
use Rattle.child_ports.proofs.KeySetLemmas.{key_cmp_total, key_cmp-IsAntisymmetric}
use Rattle.keyring_branch.specs.Fail.{onward, Gives}
use Rattle.keyring_branch.specs.PacketReading.{front_of, packets_from, packets_of, some_keys, packet_keys}
use Rattle.keyring_branch.specs.Packets.{Packet, is_key, fingerprint_of, keys_among}
use Rattle.keyring_branch.specs.declared.key_fail.KeyFail.{KeyFail}
use Rattle.keyring_branch.specs.declared.key_fail.KeyFail.TheVariants as fail

pub gives_fault : {A : Type 0} (fault : KeyFail) (reading : Result A KeyFail) → reading ≡ Err fault → Gives (Err fault) reading
gives_fault (fail.Armor n) reading is = is
gives_fault (fail.Packet n) reading is = is
gives_fault (fail.Length n) reading is = is
gives_fault fail.NoKey reading is = is
gives_fault fail.Memory reading is = tt

-- these packets stand before those
abbrev pub behind : List Packet → Result (List Packet) KeyFail → Result (List Packet) KeyFail
behind passed (Ok packets) = Ok (passed ++ packets)
behind passed (Err fault) = Err fault

behind_one : (passed : List Packet) (packet : Packet) (rest : Result (List Packet) KeyFail) → behind passed (onward rest (λ packets. Ok (packet ∷ packets))) ≡ behind (passed ++ packet ∷ []) rest
behind_one passed packet (Ok packets) = ap (λ (l : List Packet). Ok l) (sym (append_assoc passed (packet ∷ []) packets))
behind_one passed packet (Err fault) = refl

behind_none : (rest : Result (List Packet) KeyFail) → behind [] rest ≡ rest
behind_none (Ok packets) = refl
behind_none (Err fault) = refl

-- what follows a packet that was read
abbrev after_front : ℕ → ℕ → ℕ → Packet × List ℕ → Result (List Packet) KeyFail
after_front less at size front = onward (packets_from less (at + (size - length front.1)) front.1) (λ packets. Ok (front.0 ∷ packets))

next_packet : (count at : ℕ) (rest : List ℕ) → rest ≢ [] → length rest ≤ count → (less : ℕ) × (count ≡ suc less) × (packets_from count at rest ≡ onward (front_of at rest) (after_front less at (length rest)))
unfolding packets_from
next_packet count at [] some enough = absurd (some refl)
next_packet zero at (b ∷ rest) some enough = absurd (omega arith)
next_packet (suc less) at (b ∷ rest) some enough = (less, refl, refl)

over : (count at : ℕ) → packets_from count at [] ≡ Ok []
unfolding packets_from
over count at = refl

key_added : (passed : List Packet) (packet : Packet) → is_key packet ≡ true → keys_among (passed ++ packet ∷ []) ≡ keys_among passed ++ fingerprint_of packet ∷ []
key_added passed packet is =
    ap (map fingerprint_of) (filter-append is_key passed (packet ∷ [])) ∙ map-append fingerprint_of (filter is_key passed) (filter is_key (packet ∷ []))
    ∙ ap (λ t. keys_among passed ++ map fingerprint_of (cond t (packet ∷ []) [])) is

none_added : (passed : List Packet) (packet : Packet) → is_key packet ≡ false → keys_among (passed ++ packet ∷ []) ≡ keys_among passed
none_added passed packet is =
    ap (map fingerprint_of) (filter-append is_key passed (packet ∷ [])) ∙ map-append fingerprint_of (filter is_key passed) (filter is_key (packet ∷ []))
    ∙ ap (λ t. keys_among passed ++ map fingerprint_of (cond t (packet ∷ []) [])) is ∙ append-nil (keys_among passed)

-- packets have been passed, and a rest is left
pub record Walked (bytes rest : List ℕ) (keys : Keys) : Type 0 where
  pub passed : List Packet
  pub count : ℕ
  pub enough : length rest ≤ count
  pub within : length rest ≤ length bytes
  pub set : keys ≡ from_list (keys_among passed)
  pub reading : packets_of bytes ≡ behind passed (packets_from count (length bytes - length rest) rest)

pub walked_none : (bytes : List ℕ) → Walked bytes bytes empty
walked_none bytes =
    let start : length bytes - length bytes ≡ 0 = omega arith in
    record {
      passed = [];
      count = length bytes;
      enough = omega arith;
      within = omega arith;
      set = refl;
      reading = sym (behind_none (packets_of bytes)) ∙ ap (λ k. behind [] (packets_from (length bytes) k bytes)) (sym start);
    }

module _ (bytes rest : List ℕ) (keys : Keys) (w : Walked bytes rest keys) (some : rest ≢ []) where
  abbrev place : ℕ
  place = length bytes - length rest

  reads : (r : Result (Packet × List ℕ) KeyFail) → front_of place rest ≡ r → (less : ℕ) × (w.count ≡ suc less) × (packets_of bytes ≡ behind w.passed (onward r (after_front less place (length rest))))
  reads r is =
      let next = next_packet w.count place rest some w.enough in
      (next.0, next.1, w.reading ∙ ap (behind w.passed) (next.2 ∙ ap (λ (q : Result (Packet × List ℕ) KeyFail). onward q (after_front next.0 place (length rest))) is))

  -- the packet at the front is at fault
  pub stops : (fault : KeyFail) → front_of place rest ≡ Err fault → Gives {A = Keys} (Err fault) (packet_keys bytes)
  unfolding packet_keys
  stops fault is = gives_fault fault (packet_keys bytes) (ap (λ (r : Result (List Packet) KeyFail). onward r (λ packets. some_keys (keys_among packets))) (reads (Err fault) is).2)

  -- one packet more
  more : (packet : Packet) (next : List ℕ) (now : Keys) → front_of place rest ≡ Ok (packet, next) → length next < length rest → now ≡ from_list (keys_among (w.passed ++ packet ∷ [])) → Walked bytes next now
  more packet next now is shorter set =
      let read = reads (Ok (packet, next)) is in
      let less : w.count ≡ suc read.0 = read.1 in
      let at : place + (length rest - length next) ≡ length bytes - length next = omega (arith, w.within) in
      record {
        passed = w.passed ++ packet ∷ [];
        count = read.0;
        enough = omega (arith, w.enough, less);
        within = omega (arith, w.within);
        set = set;
        reading = read.2 ∙ behind_one w.passed packet _ ∙ ap (λ k. behind (w.passed ++ packet ∷ []) (packets_from read.0 k next)) at;
      }

  pub walked_key : (packet : Packet) (next : List ℕ) (now : Keys) → front_of place rest ≡ Ok (packet, next) → length next < length rest → is_key packet ≡ true → now ≡ insert keys (fingerprint_of packet) → Walked bytes next now
  walked_key packet next now front shorter is put = more packet next now front shorter
      (put ∙ ap (λ (s : Keys). insert s (fingerprint_of packet)) w.set
      ∙ sym (from_list_push key_cmp_total key_cmp-IsAntisymmetric (keys_among w.passed) (fingerprint_of packet))
      ∙ ap (λ (l : List Fingerprint). from_list {R = key_cmp} l) (sym (key_added w.passed packet is)))

  pub walked_other : (packet : Packet) (next : List ℕ) (now : Keys) → front_of place rest ≡ Ok (packet, next) → length next < length rest → is_key packet ≡ false → now ≡ keys → Walked bytes next now
  walked_other packet next now front shorter is same = more packet next now front shorter
      (same ∙ w.set ∙ ap (λ (l : List Fingerprint). from_list {R = key_cmp} l) (sym (none_added w.passed packet is)))

-- ---- the end

all_read : (bytes rest : List ℕ) (keys : Keys) (w : Walked bytes rest keys) → rest ≡ [] → packet_keys bytes ≡ some_keys (keys_among w.passed)
unfolding packet_keys
all_read bytes rest keys w end =
    let last : packets_from w.count (length bytes - length rest) rest ≡ Ok [] = ap (λ (l : List ℕ). packets_from w.count (length bytes - length rest) l) end ∙ over w.count (length bytes - length rest) in
    let whole : packets_of bytes ≡ Ok w.passed = w.reading ∙ ap (behind w.passed) last ∙ ap (λ (l : List Packet). Ok l) (append-nil w.passed) in
    ap (λ (r : Result (List Packet) KeyFail). onward r (λ packets. some_keys (keys_among packets))) whole

not_empty : (key : Fingerprint) (keys : List Fingerprint) → len (from_list {R = key_cmp} (key ∷ keys)) ≢ 0
not_empty key keys none =
    let is : from_list {R = key_cmp} (key ∷ keys) ≡ empty = empty_of_len _ none in
    let there : contains (from_list {R = key_cmp} (key ∷ keys)) key ≡ true = contains-insert key_cmp_total (from_list keys) key key ∙ ap (λ b. b || contains (from_list {R = key_cmp} keys) key) (ap is_eq (tied_itself key_cmp_total key)) in
    false≢true (sym (contains-empty key_cmp key) ∙ ap (λ (s : Keys). contains s key) (sym is) ∙ there)

no_key : (listed : List Fingerprint) → len (from_list {R = key_cmp} listed) ≡ 0 → some_keys listed ≡ Err fail.NoKey
no_key [] none = refl
no_key (key ∷ keys) none = absurd (not_empty key keys none)

keys_there : (listed : List Fingerprint) → len (from_list {R = key_cmp} listed) ≢ 0 → some_keys listed ≡ Ok (from_list listed)
keys_there [] some = absurd (some (len-empty key_cmp))
keys_there (key ∷ keys) some = refl

pub ends_without : (bytes rest : List ℕ) (keys : Keys) → Walked bytes rest keys → rest ≡ [] → len keys ≡ 0 → Gives {A = Keys} (Err fail.NoKey) (packet_keys bytes)
ends_without bytes rest keys w end none = all_read bytes rest keys w end ∙ no_key (keys_among w.passed) (ap len (sym w.set) ∙ none)

pub ends_with : (bytes rest : List ℕ) (keys : Keys) → Walked bytes rest keys → rest ≡ [] → len keys ≢ 0 → Gives (Ok keys) (packet_keys bytes)
ends_with bytes rest keys w end some =
    all_read bytes rest keys w end ∙ keys_there (keys_among w.passed) (λ none. some (ap len w.set ∙ none)) ∙ ap (λ (k : Keys). Ok k) (sym w.set)

-- ---- as the code says it

pub some_left : (rest : List ℕ) (t : Bool) → t ≡ (length rest == 0) → t ≡ false → rest ≢ []
some_left [] t is off e = false≢true (sym off ∙ is)
some_left (b ∷ rest) t is off e = cc

pub none_left : (rest : List ℕ) (t : Bool) → t ≡ (length rest == 0) → t ≡ true → rest ≡ []
none_left [] t is on = refl
none_left (b ∷ rest) t is on = absurd (omega (arith, eqb-true (length (b ∷ rest)) 0 (sym is ∙ on)))
