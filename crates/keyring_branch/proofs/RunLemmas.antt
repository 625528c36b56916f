-- Packets by their grammar, and their reading.
use Rattle.std.proofs.Common.{◌≡◌, ◌≢◌, ℕ, zero, suc, ◌+◌, ◌-◌, ◌≤◌, ◌==◌, ◌&&◌, true, false, cond, nat_lt, Some, None, List, [], ◌∷◌, ◌++◌, length, take, drop, refl, sym, ap, ◌∙◌, subst, arith, append_assoc}
use Rattle.std.specs.Prelude.{Result, Ok, Err}
use Rattle.std.proofs.lemmas.Bool.{ltb-true, ltb-false, le-ltb, eqb-true, eqb-false, ne_eqb}
use Rattle.std.proofs.lemmas.List.{take-append-drop, length-append, length-take-le}
use Rattle.std.proofs.Math.Seq.{take-append_seam, drop-append_seam}
use Rattle.keyring_branch.specs.Fail.{onward}
use Rattle.keyring_branch.specs.PacketFaults.{NoPacket, IsFrontFault}
use Rattle.keyring_branch.specs.PacketReading.{with_body, with_length, front_of, packets_from}
use Rattle.keyring_branch.specs.Packets.{Packet, tag_of, length_of, is_key, IsHead, IsPacket, IsRun}
use Rattle.keyring_branch.specs.declared.key_fail.KeyFail.{KeyFail}
use Rattle.keyring_branch.specs.declared.key_fail.KeyFail.TheVariants as fail
use Rattle.keyring_branch.proofs.LengthLemmas.{length_local}

-- ---- the packet at the front

headed : (at first : ℕ) (bytes : List ℕ) → nat_lt first 128 ≡ false → (tag_of first == 0) ≡ false → front_of at (first ∷ bytes) ≡ with_length at (tag_of first) (length_of first bytes)
unfolding front_of
headed at first bytes marked tagged =
    ap (λ t. cond t (Err (fail.Packet at)) (cond (tag_of first == 0) (Err (fail.Packet at)) (with_length at (tag_of first) (length_of first bytes)))) marked
    ∙ ap (λ t. cond t (Err (fail.Packet at)) (with_length at (tag_of first) (length_of first bytes))) tagged

-- a key that is short enough
fits : (packet : Packet) → (is_key packet ≡ true → length packet.body ≤ 65535) → (is_key packet && nat_lt 65535 (length packet.body)) ≡ false
fits packet h = elim (is_key packet) as (λ t. (t ≡ true → length packet.body ≤ 65535) → (t && nat_lt 65535 (length packet.body)) ≡ false) [
  | true ↦ λ k. le-ltb 65535 (length packet.body) (k refl)
  | false ↦ λ k. refl
] h

is_short : (packet : Packet) → (is_key packet && nat_lt 65535 (length packet.body)) ≡ false → is_key packet ≡ true → length packet.body ≤ 65535
is_short packet h key = ltb-false 65535 (length packet.body) (ap (λ t. t && nat_lt 65535 (length packet.body)) (sym key) ∙ h)

whole_body : (at tag : ℕ) (body rest : List ℕ) → (is_key (record { tag = tag; body = body }) && nat_lt 65535 (length body)) ≡ false → with_length at tag (Some (length body, body ++ rest)) ≡ Ok (record { tag = tag; body = body }, rest)
whole_body at tag body rest short =
    let enough : nat_lt (length (body ++ rest)) (length body) ≡ false = le-ltb (length (body ++ rest)) (length body) (omega (arith, length-append body rest)) in
    ap (λ t. cond t (Err (fail.Length at)) (with_body at (record { tag = tag; body = take (length body) (body ++ rest) }) (drop (length body) (body ++ rest)))) enough
    ∙ ap (λ (b : List ℕ). with_body at (record { tag = tag; body = b }) (drop (length body) (body ++ rest))) (take-append_seam body rest)
    ∙ ap (λ (l : List ℕ). with_body at (record { tag = tag; body = body }) l) (drop-append_seam body rest)
    ∙ ap (λ t. cond t (Err (fail.Length at)) (Ok (record { tag = tag; body = body }, rest))) short

pub front_written : (at : ℕ) (front rest : List ℕ) (packet : Packet) → IsPacket front packet → front_of at (front ++ rest) ≡ Ok (packet, rest)
front_written at front rest packet is =
    let shape : front ++ rest ≡ is.first ∷ (is.size ++ (packet.body ++ rest)) = ap (λ (l : List ℕ). l ++ rest) is.whole ∙ ap (λ (l : List ℕ). is.first ∷ l) (append_assoc is.size packet.body rest) in
    let same : packet ≡ record { tag = tag_of is.first; body = packet.body } = ap (λ (t : ℕ). record { tag = t; body = packet.body }) is.tag_is in
    let short : (is_key (record { tag = tag_of is.first; body = packet.body }) && nat_lt 65535 (length packet.body)) ≡ false = ap (λ (p : Packet). is_key p && nat_lt 65535 (length packet.body)) (sym same) ∙ fits packet is.short_key in
    ap (front_of at) shape
    ∙ headed at is.first (is.size ++ (packet.body ++ rest)) (le-ltb is.first 128 is.head.marked) (ne_eqb (tag_of is.first) 0 is.head.tagged)
    ∙ ap (with_length at (tag_of is.first)) ((length_local is.first).more is.size (length packet.body) (packet.body ++ rest) is.sized)
    ∙ whole_body at (tag_of is.first) packet.body rest short
    ∙ ap (λ (p : Packet). Ok (p, rest)) (sym same)

refused : (at : ℕ) (bytes : List ℕ) (fault : KeyFail) → front_of at bytes ≡ Err fault → NoPacket bytes
refused at bytes fault none front rest packet is p =
    let there : front_of at bytes ≡ Ok (packet, rest) = ap (front_of at) is ∙ front_written at front rest packet p in
    let clash : ◌≡◌ {A = Result (Packet × List ℕ) KeyFail} (Err fault) (Ok (packet, rest)) = sym none ∙ there in
    cc

-- the packet at the front, or its fault
abbrev pub FrontSays : ℕ → List ℕ → Result (Packet × List ℕ) KeyFail → Type 0
FrontSays at bytes (Ok read) = (front : List ℕ) × IsPacket front read.0 × (bytes ≡ front ++ read.1)
FrontSays at bytes (Err fault) = IsFrontFault at bytes fault

packet_is : (first n : ℕ) (bytes rest : List ℕ) → IsHead first → length_of first bytes ≡ Some (n, rest) → n ≤ length rest → (is_key (record { tag = tag_of first; body = take n rest }) && nat_lt 65535 (length (take n rest))) ≡ false
    → (front : List ℕ) × IsPacket front (record { tag = tag_of first; body = take n rest }) × (first ∷ bytes ≡ front ++ drop n rest)
packet_is first n bytes rest head is enough short =
    let s = (length_local first).split bytes n rest is in
    let count : n ≡ length (take n rest) = sym (length-take-le n rest enough) in (
      first ∷ (s.0 ++ take n rest),
      record {
        first = first;
        size = s.0;
        head = head;
        tag_is = refl;
        sized = s.2 ∙ ap (λ (k : ℕ). Some (k, [])) count;
        short_key = is_short (record { tag = tag_of first; body = take n rest }) short;
        whole = refl;
      },
      ap (λ (l : List ℕ). first ∷ l) (s.1 ∙ ap (λ (l : List ℕ). s.0 ++ l) (sym (take-append-drop n rest)) ∙ sym (append_assoc s.0 (take n rest) (drop n rest))),
    )

sized_says : (at first n : ℕ) (bytes rest : List ℕ) → IsHead first → front_of at (first ∷ bytes) ≡ with_length at (tag_of first) (Some (n, rest)) → length_of first bytes ≡ Some (n, rest) → FrontSays at (first ∷ bytes) (with_length at (tag_of first) (Some (n, rest)))
sized_says at first n bytes rest head is read =
    elim (nat_lt (length rest) n) as (λ t. nat_lt (length rest) n ≡ t → front_of at (first ∷ bytes) ≡ cond t (Err (fail.Length at)) (with_body at (record { tag = tag_of first; body = take n rest }) (drop n rest))
    → FrontSays at (first ∷ bytes) (cond t (Err (fail.Length at)) (with_body at (record { tag = tag_of first; body = take n rest }) (drop n rest)))) [
      | true ↦ λ few e. (refl, head, refused at (first ∷ bytes) (fail.Length at) e)
      | false ↦ λ many e.
          elim (is_key (record { tag = tag_of first; body = take n rest }) && nat_lt 65535 (length (take n rest)))
          as (λ t. (is_key (record { tag = tag_of first; body = take n rest }) && nat_lt 65535 (length (take n rest))) ≡ t → front_of at (first ∷ bytes) ≡ cond t (Err (fail.Length at)) (Ok (record { tag = tag_of first; body = take n rest }, drop n rest))
          → FrontSays at (first ∷ bytes) (cond t (Err (fail.Length at)) (Ok (record { tag = tag_of first; body = take n rest }, drop n rest)))) [
            | true ↦ λ long e. (refl, head, refused at (first ∷ bytes) (fail.Length at) e)
            | false ↦ λ short e. packet_is first n bytes rest head read (ltb-false (length rest) n many) short
          ] refl e
    ] refl is

pub front_says : (at : ℕ) (bytes : List ℕ) → bytes ≢ [] → FrontSays at bytes (front_of at bytes)
unfolding front_of
front_says at [] some = absurd (some refl)
front_says at (first ∷ bytes) some =
    elim (nat_lt first 128) as (λ t. nat_lt first 128 ≡ t → FrontSays at (first ∷ bytes) (cond t (Err (fail.Packet at)) (cond (tag_of first == 0) (Err (fail.Packet at)) (with_length at (tag_of first) (length_of first bytes))))) [
      | true ↦ λ low. (refl, λ (head : IsHead first). omega (arith, ltb-true first 128 low, head.marked))
      | false ↦ λ high. elim (tag_of first == 0) as (λ t. (tag_of first == 0) ≡ t → FrontSays at (first ∷ bytes) (cond t (Err (fail.Packet at)) (with_length at (tag_of first) (length_of first bytes)))) [
        | true ↦ λ none. (refl, λ (head : IsHead first). head.tagged (eqb-true (tag_of first) 0 none))
        | false ↦ λ tagged.
            let head : IsHead first = record { marked = ltb-false first 128 high; tagged = eqb-false (tag_of first) 0 tagged } in
            elim (length_of first bytes) as (λ l. length_of first bytes ≡ l → FrontSays at (first ∷ bytes) (with_length at (tag_of first) l)) [
              | None ↦ λ is. (refl, head, refused at (first ∷ bytes) (fail.Length at) (headed at first bytes high tagged ∙ ap (with_length at (tag_of first)) is))
              | Some read ↦ λ is. sized_says at first read.0 bytes read.1 head (headed at first bytes high tagged ∙ ap (with_length at (tag_of first)) is) is
            ] refl
      ] refl
    ] refl

-- ---- the packets

-- packets, and then something that isn't one, where the first byte is at this offset
pub record BadRun (at : ℕ) (bytes : List ℕ) (fault : KeyFail) : Type 0 where
  pub before : List Packet
  pub front : List ℕ
  pub rest : List ℕ
  pub run : IsRun front before
  pub whole : bytes ≡ front ++ rest
  pub wrong : IsFrontFault (at + length front) rest fault

abbrev pub RunSays : ℕ → List ℕ → Result (List Packet) KeyFail → Type 0
RunSays at bytes (Ok packets) = IsRun bytes packets
RunSays at bytes (Err fault) = BadRun at bytes fault

packet_more : (at now : ℕ) (front rest : List ℕ) (packet : Packet) (reading : Result (List Packet) KeyFail) → IsPacket front packet → now ≡ at + length front → RunSays now rest reading → RunSays at (front ++ rest) (onward reading (λ packets. Ok (packet ∷ packets)))
packet_more at now front rest packet (Ok packets) is place run = (front, rest, refl, is, run)
packet_more at now front rest packet (Err fault) is place bad =
    let there : now + length bad.front ≡ at + length (front ++ bad.front) = omega (arith, place, length-append front bad.front) in
    record {
      before = packet ∷ bad.before;
      front = front ++ bad.front;
      rest = bad.rest;
      run = (front, bad.front, refl, is, bad.run);
      whole = ap (λ (l : List ℕ). front ++ l) bad.whole ∙ sym (append_assoc front bad.front bad.rest);
      wrong = subst (λ (k : ℕ). IsFrontFault k bad.rest fault) there bad.wrong;
    }

at_front : (at : ℕ) (bytes : List ℕ) (fault : KeyFail) → IsFrontFault at bytes fault → BadRun at bytes fault
at_front at bytes fault wrong =
    let here : at ≡ at + 0 = omega arith in
    record { before = []; front = []; rest = bytes; run = refl; whole = refl; wrong = subst (λ (k : ℕ). IsFrontFault k bytes fault) here wrong }

-- a packet has bytes
some_bytes : (front : List ℕ) (packet : Packet) → IsPacket front packet → 1 ≤ length front
some_bytes front packet is = omega (arith, ap length is.whole)

pub run_says : (count at : ℕ) (bytes : List ℕ) → length bytes ≤ count → RunSays at bytes (packets_from count at bytes)
unfolding packets_from
run_says count at [] enough = refl
run_says zero at (b ∷ bytes) enough = absurd (omega arith)
run_says (suc count) at (b ∷ bytes) enough =
    elim (front_of at (b ∷ bytes)) as (λ r. FrontSays at (b ∷ bytes) r → RunSays at (b ∷ bytes) (onward r (λ front. onward (packets_from count (at + (length (b ∷ bytes) - length front.1)) front.1) (λ packets. Ok (front.0 ∷ packets))))) [
      | Ok read ↦ λ says.
          let some : 1 ≤ length says.0 = some_bytes says.0 read.0 says.1 in
          let size : length (b ∷ bytes) ≡ length says.0 + length read.1 = ap length says.2 ∙ length-append says.0 read.1 in
          let place : at + (length (b ∷ bytes) - length read.1) ≡ at + length says.0 = omega (arith, size) in
          subst (λ (l : List ℕ). RunSays at l (onward (packets_from count (at + (length (b ∷ bytes) - length read.1)) read.1) (λ packets. Ok (read.0 ∷ packets)))) (sym says.2)
          (packet_more at (at + (length (b ∷ bytes) - length read.1)) says.0 read.1 read.0 (packets_from count (at + (length (b ∷ bytes) - length read.1)) read.1) says.1 place
          (run_says count (at + (length (b ∷ bytes) - length read.1)) read.1 (omega (arith, size, some, enough))))
      | Err fault ↦ λ says. at_front at (b ∷ bytes) fault says
    ] (front_says at (b ∷ bytes) (λ e. cc))

pub run_written : (count at : ℕ) (bytes : List ℕ) (packets : List Packet) → IsRun bytes packets → length bytes ≤ count → packets_from count at bytes ≡ Ok packets
unfolding packets_from
run_written count at [] [] run enough = refl
run_written count at (b ∷ bytes) [] run enough = cc
run_written count at [] (packet ∷ packets) run enough =
    let size : 0 ≡ length run.0 + length run.1 = ap length run.2 ∙ length-append run.0 run.1 in
    absurd (omega (arith, size, some_bytes run.0 packet run.3))
run_written zero at (b ∷ bytes) (packet ∷ packets) run enough = absurd (omega arith)
run_written (suc count) at (b ∷ bytes) (packet ∷ packets) run enough =
    let size : length (b ∷ bytes) ≡ length run.0 + length run.1 = ap length run.2 ∙ length-append run.0 run.1 in
    let front : front_of at (b ∷ bytes) ≡ Ok (packet, run.1) = ap (front_of at) run.2 ∙ front_written at run.0 run.1 packet run.3 in
    ap (λ (r : Result (Packet × List ℕ) KeyFail). onward r (λ front. onward (packets_from count (at + (length (b ∷ bytes) - length front.1)) front.1) (λ packets. Ok (front.0 ∷ packets)))) front
    ∙ ap (λ (r : Result (List Packet) KeyFail). onward r (λ packets. Ok (packet ∷ packets))) (run_written count (at + (length (b ∷ bytes) - length run.1)) run.1 packets run.4 (omega (arith, size, some_bytes run.0 packet run.3, enough)))
