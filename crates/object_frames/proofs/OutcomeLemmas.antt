-- What an answer stands for, by what was read of it.
use Rattle.std.proofs.Common.{◌≡◌, ◌≢◌, inl, inr, ℕ, ◌+◌, ◌≤◌, ◌<◌, Bool, true, false, not, nat_eq, nat_lt, nat_le, Result, Ok, Err, List, [], ◌∷◌, ◌++◌, take, drop, length, refl, sym, ap, ◌∙◌, subst, arith, append_assoc, get_or, bytes_eq, eq-eqb}
use Rattle.std.specs.Prelude.{◌==◌, if◌then◌else◌, IfOk, IfErr, OnOk, slice_index}
use Rattle.std.specs.List.{list_all}
use Rattle.std.proofs.lemmas.Bool.{cases_lt, cases_eq, eqb-true, ne_eqb, false≢true}
use Rattle.std.proofs.lemmas.Bool.Decides.{nat_tests}
use Rattle.std.proofs.lemmas.Slice.Eq.{bytes_eq-Decides}
use Rattle.std.proofs.lemmas.List.{append-nil, take-append-drop, drop_more, length-take-le}
use Rattle.std.proofs.lemmas.List.Sums.{AllPass-from_list_all, list_all-from_AllPass}
use Rattle.child_ports.specs.Git.{missing, ambiguous}
use Rattle.child_ports.specs.Framed.{IsFramed, IsTypeWord, object_frame, is_lower_hex_digit}
use Rattle.hex.specs.Hex.{encode_lower}
use Rattle.object_frames.specs.declared.kind.Kind.{Kind}
use Rattle.object_frames.specs.declared.kind.Kind.TheVariants.{Commit, Tree, Blob, Tag}
use Rattle.object_frames.specs.declared.header.Header.{Header}
use Rattle.object_frames.specs.declared.head.Head.{Head}
use Rattle.object_frames.specs.declared.head.Head.TheVariants as head
use Rattle.object_frames.specs.declared.body.Body.{Body}
use Rattle.object_frames.specs.declared.body.Body.TheVariants.{Whole, Cut, Open}
use Rattle.object_frames.specs.declared.object.Fetched.{Fetched}
use Rattle.object_frames.specs.declared.object.Fetched.TheVariants.{Missing, Found}
use Rattle.object_frames.specs.declared.frame_fail.FrameFail.{FrameFail}
use Rattle.object_frames.specs.declared.frame_fail.FrameFail.TheVariants as fails
use Rattle.object_frames.specs.Object.{type_word, object_id}
use Rattle.object_frames.specs.Frame.{header_line}
use Rattle.object_frames.specs.Head.{HasHeader, StartsWith, line_len, head_of}
use Rattle.object_frames.specs.Body.{body_of}
use Rattle.child_ports.specs.Named.{is_full_id}
use Rattle.object_frames.specs.Fetched.{IsFullId, IsFetched, IsGenuine, IsOfId, is_other_id, object_of, by_body, by_head, fetched_of, Gives}
use Rattle.object_frames.specs.Faults.{IsFrameFault, IsTaken, IsHeaded, MayBlame, FetchFailsByCount}
use Rattle.object_frames.specs.Id.{IsId}
use Rattle.object_frames.proofs.DigestLemmas.{object_is_id, same_id}
use Rattle.object_frames.proofs.IdLemmas.{length-hex, hex_digits, hex_full}
use Rattle.object_frames.proofs.ReadingLemmas.{head_is, rest_at, length_at}

-- ---- the function, step by step

not_false : (b : Bool) → not b ≡ false → b ≡ true
not_false true e = refl
not_false false e = cc

not_true : (b : Bool) → not b ≡ true → b ≡ false
not_true true e = cc
not_true false e = refl

-- by the result of a test that two ids differ
pub object_wrong : (header : Header) (content computed : List ℕ) → computed ≡ object_id header.kind content → not (bytes_eq computed header.id) ≡ true
    → Err (fails.WrongId header.id computed) ≡ object_of header content
unfolding object_of
object_wrong header content computed is test =
    let found : Fetched = Found (record { id = header.id; kind = header.kind; content = content }) in
    ap (λ v. if v then Ok found else Err (fails.WrongId header.id computed)) (sym (not_true (bytes_eq computed header.id) test))
    ∙ ap (λ c. if bytes_eq c header.id then Ok found else Err (fails.WrongId header.id c)) is

pub object_right : (header : Header) (content computed : List ℕ) → computed ≡ object_id header.kind content → not (bytes_eq computed header.id) ≡ false
    → Ok (Found (record { id = header.id; kind = header.kind; content = content })) ≡ object_of header content
unfolding object_of
object_right header content computed is test =
    let found : Fetched = Found (record { id = header.id; kind = header.kind; content = content }) in
    ap (λ v. if v then Ok found else Err (fails.WrongId header.id computed)) (sym (not_false (bytes_eq computed header.id) test))
    ∙ ap (λ c. if bytes_eq c header.id then Ok found else Err (fails.WrongId header.id c)) is

pub fetched_by : (limit : ℕ) (name answer : List ℕ) (head : Head) (rest : List ℕ) → StartsWith name answer head rest → fetched_of limit name answer ≡ by_head limit name head rest
unfolding fetched_of
fetched_by limit name answer head.Missing rest said = ap (λ h. by_head limit name h (drop (line_len answer + 1) answer)) (head_is name answer head.Missing rest said)
fetched_by limit name answer (head.Odd at) rest said = ap (λ h. by_head limit name h (drop (line_len answer + 1) answer)) (head_is name answer (head.Odd at) rest said)
fetched_by limit name answer (head.Cut at) rest said = ap (λ h. by_head limit name h (drop (line_len answer + 1) answer)) (head_is name answer (head.Cut at) rest said)
fetched_by limit name answer (head.Object header) rest said =
    ap (λ h. by_head limit name h (drop (line_len answer + 1) answer)) (head_is name answer (head.Object header) rest said)
    ∙ ap (by_head limit name (head.Object header)) (rest_at answer header rest said.0)

module _ (limit : ℕ) (name : List ℕ) (header : Header) (rest : List ℕ) where
  abbrev within : Bool → Result Fetched FrameFail
  within v = if v then Err (fails.TooLarge header.size) else by_body header (body_of header.size rest)

  pub by_other : is_other_id name header.id ≡ true → by_head limit name (head.Object header) rest ≡ Err (fails.OtherId header.id)
  by_other e = ap (λ v. if v then Err (fails.OtherId header.id) else within (nat_lt limit header.size)) e

  pub by_asked : is_other_id name header.id ≡ false → by_head limit name (head.Object header) rest ≡ within (nat_lt limit header.size)
  by_asked e = ap (λ v. if v then Err (fails.OtherId header.id) else within (nat_lt limit header.size)) e

  pub by_large : is_other_id name header.id ≡ false → limit < header.size → by_head limit name (head.Object header) rest ≡ Err (fails.TooLarge header.size)
  by_large e lt = let t : nat_lt limit header.size ≡ true = grind (arith, nat_tests) in by_asked e ∙ ap within t

  pub by_rest : is_other_id name header.id ≡ false → header.size ≤ limit → by_head limit name (head.Object header) rest ≡ by_body header (body_of header.size rest)
  by_rest e le = let t : nat_lt limit header.size ≡ false = grind (arith, nat_tests) in by_asked e ∙ ap within t

-- ---- results

pub gives_it : (r value : Result Fetched FrameFail) → r ≡ value → Gives r value
gives_it (Ok fetched) value e = sym e
gives_it (Err fails.Failed) value e = tt
gives_it (Err fails.Memory) value e = tt
gives_it (Err (fails.Header at)) value e = sym e
gives_it (Err (fails.Truncated at)) value e = sym e
gives_it (Err (fails.OtherId id)) value e = sym e
gives_it (Err (fails.TooLarge size)) value e = sym e
gives_it (Err fails.NoEnd) value e = sym e
gives_it (Err (fails.WrongId claimed computed)) value e = sym e

-- no call fails, and none is made, once the content is there
pub object_cause : (header : Header) (content : List ℕ) (before now : ℕ) → now ≡ before → (r : Result Fetched FrameFail) → r ≡ object_of header content → FetchFailsByCount before now r
unfolding object_of
object_cause header content before now same r is =
    let computed = object_id header.kind content in
    let found : Fetched = Found (record { id = header.id; kind = header.kind; content = content }) in
    subst (FetchFailsByCount before now) (sym is)
    (elim (bytes_eq computed header.id) as (λ v. FetchFailsByCount before now (if v then Ok found else Err (fails.WrongId header.id computed))) [ true ↦ same | false ↦ same ])

pub on_ok : (P : Type 0) (r : Result Fetched FrameFail) → P → OnOk r P
on_ok P (Ok x) p = p
on_ok P (Err e) p = tt

-- what the answer stands for
abbrev pub IsOutcome : ℕ → List ℕ → List ℕ → Result Fetched FrameFail → Type 0
IsOutcome limit name answer (Ok fetched) = IsFetched limit name answer fetched
IsOutcome limit name answer (Err fail) = IsFrameFault limit name answer fail

pub found_of : (limit : ℕ) (name answer : List ℕ) (Told : Type 0) (r : Result Fetched FrameFail) → (Told → IsOutcome limit name answer r) → IfOk r (λ fetched. Told → IsFetched limit name answer fetched)
found_of limit name answer Told (Ok fetched) h = h
found_of limit name answer Told (Err fail) h = tt

may_blame : (limit : ℕ) (name answer : List ℕ) (fail : FrameFail) → IsFrameFault limit name answer fail → MayBlame (IsFrameFault limit name answer) fail
may_blame limit name answer fails.Failed h = tt
may_blame limit name answer fails.Memory h = tt
may_blame limit name answer (fails.Header at) h = h
may_blame limit name answer (fails.Truncated at) h = h
may_blame limit name answer (fails.OtherId id) h = h
may_blame limit name answer (fails.TooLarge size) h = h
may_blame limit name answer fails.NoEnd h = h
may_blame limit name answer (fails.WrongId claimed computed) h = h

pub fault_of : (limit : ℕ) (name answer : List ℕ) (Told : Type 0) (r : Result Fetched FrameFail) → (Told → IsOutcome limit name answer r)
    → IfErr r (λ fail. Told → MayBlame (IsFrameFault limit name answer) fail)
fault_of limit name answer Told (Ok fetched) h = tt
fault_of limit name answer Told (Err fail) h = λ told. may_blame limit name answer fail (h told)

-- ---- frames

is_word : (kind : Kind) → IsTypeWord (type_word kind)
is_word Commit = inl refl
is_word Tree = inr (inl refl)
is_word Blob = inr (inr (inl refl))
is_word Tag = inr (inr (inr refl))

-- a frame by its header line
frame_line : (id : List ℕ) (kind : Kind) (content : List ℕ) → object_frame (encode_lower id) (type_word kind) content ≡ header_line id kind (length content) ++ 10 ∷ (content ++ 10 ∷ [])
frame_line id kind content = append_assoc (header_line id kind (length content)) (10 ∷ content) (10 ∷ [])

module _ (name answer : List ℕ) (framed : IsFramed name answer) (header : Header) (rest content end : List ℕ) (has : HasHeader answer header rest)
    (size : length content ≡ header.size) (more : rest ≡ content ++ 10 ∷ end) where
  abbrev frame : List ℕ
  frame = object_frame (encode_lower header.id) (type_word header.kind) content

  split : answer ≡ frame ++ end
  split =
      let line : header_line header.id header.kind header.size ≡ header_line header.id header.kind (length content) = ap (header_line header.id header.kind) (sym size) in
      has.whole ∙ ap (λ r. header_line header.id header.kind header.size ++ 10 ∷ r) more
      ∙ ap (λ l. l ++ 10 ∷ (content ++ 10 ∷ end)) line
      ∙ ap (λ l. header_line header.id header.kind (length content) ++ 10 ∷ l) (sym (append_assoc content (10 ∷ []) end))
      ∙ sym (append_assoc (header_line header.id header.kind (length content)) (10 ∷ (content ++ 10 ∷ [])) end)
      ∙ ap (λ l. l ++ end) (sym (frame_line header.id header.kind content))

  -- nothing follows the frame
  pub frame_end : end ≡ []
  frame_end = framed frame end split (inr (inr (record {
    digits = encode_lower header.id;
    word = type_word header.kind;
    content = content;
    count = inl (length-hex header.id has.id);
    hex = AllPass-from_list_all is_lower_hex_digit (encode_lower header.id) (hex_digits header.id has.id.bytes);
    kind = is_word header.kind;
    size = omega (arith, has.size, size);
    whole = refl;
  })))

  frame_whole : answer ≡ frame
  frame_whole = split ∙ ap (λ l. frame ++ l) frame_end ∙ append-nil frame

-- ---- the id that was asked for

full_if : (name : List ℕ) → is_full_id name ≡ true → IsFullId name
unfolding is_full_id
full_if name e =
    elim (nat_eq (length name) 40) as (λ v. v ≡ nat_eq (length name) 40 → (if v then list_all is_lower_hex_digit name else false) ≡ true → IsFullId name) [
      | true ↦ λ t h. record { count = eqb-true _ _ (sym t); digits = AllPass-from_list_all is_lower_hex_digit name h }
      | false ↦ λ t h. absurd (false≢true h)
    ] refl e

full_is : (name : List ℕ) → IsFullId name → is_full_id name ≡ true
unfolding is_full_id
full_is name is =
    ap (λ v. if v then list_all is_lower_hex_digit name else false) (eq-eqb (length name) 40 is.count) ∙ list_all-from_AllPass is_lower_hex_digit name is.digits

other_if : (name id : List ℕ) → is_other_id name id ≡ true → IsFullId name × (name ≢ encode_lower id)
unfolding is_other_id
other_if name id e =
    elim (is_full_id name) as (λ v. v ≡ is_full_id name → (if v then not (bytes_eq name (encode_lower id)) else false) ≡ true → IsFullId name × (name ≢ encode_lower id)) [
      | true ↦ λ t h. (full_if name (sym t), λ same. false≢true (sym (not_true _ h) ∙ (bytes_eq-Decides name (encode_lower id)).1 same))
      | false ↦ λ t h. absurd (false≢true h)
    ] refl e

asked_if : (name id : List ℕ) → is_other_id name id ≡ false → IsFullId name → name ≡ encode_lower id
unfolding is_other_id
asked_if name id e full =
    let test = sym (ap (λ v. if v then not (bytes_eq name (encode_lower id)) else false) (full_is name full)) ∙ e in
    (bytes_eq-Decides name (encode_lower id)).0 (not_false (bytes_eq name (encode_lower id)) test)

-- ---- by the header line and the bytes after it

module _ (limit : ℕ) (name answer : List ℕ) (framed : IsFramed name answer) (header : Header) (rest : List ℕ) (has : HasHeader answer header rest) where
  headed : IsHeaded answer header.id header.kind header.size rest
  headed = record { is_id = has.id; small = has.size; whole = has.whole }

  abbrev size : ℕ
  size = header.size

  content : List ℕ
  content = take size rest

  end : List ℕ
  end = drop (size + 1) rest

  module _ (asked : is_other_id name header.id ≡ false) (fits : size ≤ limit) where
    taken : IsTaken limit name answer header.id header.kind size rest
    taken = record { headed = headed; asked = asked_if name header.id asked; within = fits }

    module _ (long : size < length rest) where
      count : length content ≡ size
      unfolding content
      count = length-take-le size rest (omega arith)

      parts : rest ≡ content ++ get_or rest size 0 ∷ end
      unfolding content end
      parts = sym (take-append-drop size rest) ∙ ap (λ r. take size rest ++ r) (drop_more rest size 0 long)

      taken_parts : IsTaken limit name answer header.id header.kind (length content) (content ++ get_or rest size 0 ∷ end)
      taken_parts =
          subst (IsTaken limit name answer header.id header.kind (length content)) parts (subst (λ (n : ℕ). IsTaken limit name answer header.id header.kind n rest) (sym count) taken)

      of_open : get_or rest size 0 ≢ 10 → IsOutcome limit name answer (Err fails.NoEnd)
      of_open other = record { id = header.id; kind = header.kind; content = content; byte = get_or rest size 0; rest = end; taken = taken_parts; other = other }

      of_whole : get_or rest size 0 ≡ 10 → IsOutcome limit name answer (object_of header content)
      unfolding object_of
      of_whole e =
          let computed = object_id header.kind content in
          let found : Fetched = Found (record { id = header.id; kind = header.kind; content = content }) in
          let more : rest ≡ content ++ 10 ∷ end = parts ∙ ap (λ (c : ℕ). content ++ c ∷ end) e in
          let small = has.size in
          let n = count in
          elim (bytes_eq computed header.id) as (λ v. v ≡ bytes_eq computed header.id → IsOutcome limit name answer (if v then Ok found else Err (fails.WrongId header.id computed))) [
            | true ↦ λ t. record {
              is_id = has.id;
              whole = frame_whole name answer framed header rest content end has count more;
              small = omega arith;
              within = omega arith;
              digest = sym ((bytes_eq-Decides computed header.id).0 (sym t));
              asked = asked_if name header.id asked;
            }
            | false ↦ λ t. record {
              kind = header.kind;
              content = content;
              rest = end;
              taken = subst (λ (c : ℕ). IsTaken limit name answer header.id header.kind (length content) (content ++ c ∷ end)) e taken_parts;
              digest = refl;
              other = λ same. false≢true (t ∙ (bytes_eq-Decides computed header.id).1 (sym same));
            }
          ] refl

      of_end : IsOutcome limit name answer (by_body header (if slice_index rest size == 10 then Whole (take size rest) else Open))
      unfolding content
      of_end =
          elim (cases_eq (get_or rest size 0) 10) [
            | inl e ↦ subst (λ (v : Bool). IsOutcome limit name answer (by_body header (if v then Whole (take size rest) else Open))) (sym (eq-eqb _ _ e)) (of_whole e)
            | inr other ↦ subst (λ (v : Bool). IsOutcome limit name answer (by_body header (if v then Whole (take size rest) else Open))) (sym (ne_eqb _ _ other)) (of_open other)
          ]

    of_body : IsOutcome limit name answer (by_body header (body_of size rest))
    of_body =
        elim (cases_lt size (length rest)) [
          | inl long ↦
              let t : nat_le (length rest) size ≡ false = grind (arith, nat_tests) in
              subst (λ (v : Bool). IsOutcome limit name answer (by_body header (if v then Cut (length rest) else (if slice_index rest size == 10 then Whole (take size rest) else Open)))) (sym t) (of_end long)
          | inr short ↦
              let t : nat_le (length rest) size ≡ true = grind (arith, nat_tests) in
              subst (λ (v : Bool). IsOutcome limit name answer (by_body header (if v then Cut (length rest) else (if slice_index rest size == 10 then Whole (take size rest) else Open)))) (sym t)
              (sym (length_at answer header rest has), inr (record { id = header.id; kind = header.kind; size = size; rest = rest; taken = taken; short = short }))
        ]

  of_object : IsOutcome limit name answer (by_head limit name (head.Object header) rest)
  of_object =
      elim (is_other_id name header.id) as (λ v. v ≡ is_other_id name header.id
      → IsOutcome limit name answer (if v then Err (fails.OtherId header.id) else within limit name header rest (nat_lt limit header.size))) [
        | true ↦ λ e.
            let is = other_if name header.id (sym e) in
            record { kind = header.kind; size = size; rest = rest; headed = headed; full = is.0; other = is.1 }
        | false ↦ λ e.
            elim (cases_lt limit size) [
              | inl beyond ↦
                  let t : nat_lt limit size ≡ true = grind (arith, nat_tests) in
                  subst (λ (v : Bool). IsOutcome limit name answer (within limit name header rest v)) (sym t)
                  (record { id = header.id; kind = header.kind; rest = rest; headed = headed; asked = asked_if name header.id (sym e); beyond = beyond })
              | inr fits ↦
                  let t : nat_lt limit size ≡ false = grind (arith, nat_tests) in
                  subst (λ (v : Bool). IsOutcome limit name answer (within limit name header rest v)) (sym t) (of_body (sym e) fits)
            ]
      ] refl

pub outcome : (limit : ℕ) (name answer : List ℕ) → IsFramed name answer → (h : Head) (rest : List ℕ) → StartsWith name answer h rest → IsOutcome limit name answer (by_head limit name h rest)
outcome limit name answer framed head.Missing rest (inl e) = inl (e ∙ ap (λ r. missing name ++ r) (framed (missing name) rest e (inl refl)) ∙ append-nil (missing name))
outcome limit name answer framed head.Missing rest (inr e) = inr (e ∙ ap (λ r. ambiguous name ++ r) (framed (ambiguous name) rest e (inr (inl refl))) ∙ append-nil (ambiguous name))
outcome limit name answer framed (head.Odd at) rest said = record { none = said.0; longest = said.1; longer = said.2 }
outcome limit name answer framed (head.Cut at) rest said = (said.2, inl (record { none = said.0; begins = said.1 }))
outcome limit name answer framed (head.Object header) rest said = of_object limit name answer framed header rest said.0

-- what a fetch finds is what the answer stands for
pub outcome_is : (limit : ℕ) (name answer : List ℕ) → IsFramed name answer → (h : Head) (rest : List ℕ) → StartsWith name answer h rest
    → (value : Result Fetched FrameFail) → by_head limit name h rest ≡ value → IsOutcome limit name answer value
outcome_is limit name answer framed h rest said value is = subst (IsOutcome limit name answer) is (outcome limit name answer framed h rest said)

-- ---- whatever git answers

abbrev pub IsGiven : ℕ → List ℕ → Result Fetched FrameFail → Type 0
IsGiven limit name result = IfOk result (IsGenuine limit name)

-- an object that was read whole is genuine
pub genuine_of : (limit : ℕ) (name : List ℕ) (header : Header) (content : List ℕ) → is_other_id name header.id ≡ false → length content ≤ limit
    → (result : Result Fetched FrameFail) → result ≡ object_of header content → IsGiven limit name result
unfolding object_of
genuine_of limit name header content asked fits result is =
    let computed = object_id header.kind content in
    let found : Fetched = Found (record { id = header.id; kind = header.kind; content = content }) in
    subst (IsGiven limit name) (sym is)
    (elim (bytes_eq computed header.id) as (λ v. v ≡ bytes_eq computed header.id → IsGiven limit name (if v then Ok found else Err (fails.WrongId header.id computed))) [
      | true ↦ λ t. record { digest = sym ((bytes_eq-Decides computed header.id).0 (sym t)); within = fits; asked = asked_if name header.id asked }
      | false ↦ λ t. tt
    ] refl)

-- what is given for an id in full has this id
pub given_of_id : (limit : ℕ) (id : List ℕ) → IsId id → (result : Result Fetched FrameFail) → IsGiven limit (encode_lower id) result
    → IfOk result (IsOfId limit id)
given_of_id limit id is (Ok Missing) h = tt
given_of_id limit id is (Ok (Found object)) h =
    let digits : encode_lower id ≡ encode_lower object.id = h.asked (full_if (encode_lower id) (hex_full id is)) in
    let same : id ≡ object.id = same_id id object.id is (subst IsId (sym h.digest) (object_is_id object.kind object.content)) digits in
    record { same = sym same; digest = same ∙ h.digest; within = h.within }
given_of_id limit id is (Err fail) h = tt

-- ---- the function answers neither of the free faults

abbrev pub IsAnswer : Result Fetched FrameFail → Type 0
IsAnswer (Ok fetched) = Unit {0}
IsAnswer (Err fails.Failed) = ⊥
IsAnswer (Err fails.Memory) = ⊥
IsAnswer (Err fail) = Unit {0}

object_answers : (header : Header) (content : List ℕ) → IsAnswer (object_of header content)
unfolding object_of
object_answers header content =
    let computed = object_id header.kind content in
    let found : Fetched = Found (record { id = header.id; kind = header.kind; content = content }) in
    elim (bytes_eq computed header.id) as (λ v. IsAnswer (if v then Ok found else Err (fails.WrongId header.id computed))) [ true ↦ tt | false ↦ tt ]

body_answers : (header : Header) (body : Body) → IsAnswer (by_body header body)
body_answers header (Whole content) = object_answers header content
body_answers header (Cut n) = tt
body_answers header Open = tt

head_answers : (limit : ℕ) (name : List ℕ) (h : Head) (rest : List ℕ) → IsAnswer (by_head limit name h rest)
head_answers limit name head.Missing rest = tt
head_answers limit name (head.Odd at) rest = tt
head_answers limit name (head.Cut at) rest = tt
head_answers limit name (head.Object header) rest =
    elim (is_other_id name header.id) as (λ v. IsAnswer (if v then Err (fails.OtherId header.id) else within limit name header rest (nat_lt limit header.size))) [
      | true ↦ tt
      | false ↦ elim (nat_lt limit header.size) as (λ v. IsAnswer (within limit name header rest v)) [ true ↦ tt | false ↦ body_answers header (body_of header.size rest) ]
    ]

-- what a fetch finds is never `Failed` and never `Memory`
pub fetched_answers : (limit : ℕ) (name answer : List ℕ) → IsAnswer (fetched_of limit name answer)
unfolding fetched_of
fetched_answers limit name answer = head_answers limit name (head_of name answer) (drop (line_len answer + 1) answer)
