-- Commits that are judged one after another.
use Rattle.std.proofs.Common.{◌≡◌, ℕ, ◌+◌, ◌<◌, Bool, true, false, cond, List, [], ◌∷◌, ◌++◌, length, take, drop, get_or, Option, Some, None, is_none, Ok, Err, refl, sym, ap, ap₂, subst, ◌∙◌, arith, All, add-one}
use Rattle.std.specs.Prelude.{IsTrue}
use Rattle.std.proofs.Math.Seq.{take-length, drop-cons}
use Rattle.std.proofs.lemmas.List.{map-append, length-append, take-append-drop, take_more}
use Rattle.std.proofs.lemmas.List.Elements.{All-nil, All-push}
use Rattle.child_ports.specs.KeySet.{Keys}
use Rattle.child_ports.specs.declared.git.GitRow.{GitRow}
use Rattle.child_ports.specs.declared.sig.SigRow.{SigRow}
use Rattle.child_ports.specs.declared.fingerprint.Fingerprint.{Fingerprint}
use Rattle.authorizations.specs.declared.scope.Scope.{Scope}
use Rattle.auth_rules.specs.declared.cause.Cause.{Cause}
use Rattle.auth_rules.specs.Answers.{is_asked, AskedWhen}
use Rattle.auth_rules.specs.Rules.{first, cause, signer, unreadable, unsigned, signature_cause, judged_of, has_file}
use Rattle.auth_rules.specs.World.{World, Id, world_of}
use Rattle.auth_engine.specs.Judging.{AreSigned, FirstRefused, JudgesAll, AsksAll, JudgesOne, AsksOne, more, questions}
use Rattle.auth_engine.specs.declared.engine_fail.EngineFail.{EngineFail}
use Rattle.auth_engine.specs.declared.engine_fail.EngineFail.TheVariants.{Name, Keyring, Cache, TooMany, Object, Cycle, Intro, Unrelated, Commit, GitFault, SigFault, KeepFault, Memory}

-- what a call says under the meanings that the ports have by now is so under those that they had at first
pub since_first : (P : World → Type 0) (dir : List ℕ) (tells tells_now sig_tells sig_tells_now : Bool) (rows rows_now : List GitRow) (sigs sigs_now : List SigRow) (ring ring_now : List ℕ)
    → tells_now ≡ tells → rows_now ≡ rows → sig_tells_now ≡ sig_tells → sigs_now ≡ sigs → ring_now ≡ ring
    → (IsTrue tells_now → IsTrue sig_tells_now → P (world_of rows_now dir sigs_now ring_now)) → IsTrue tells → IsTrue sig_tells → P (world_of rows dir sigs ring)
since_first P dir tells tells_now sig_tells sig_tells_now rows rows_now sigs sigs_now ring ring_now same_tells same_rows same_sig_tells same_sigs same_ring h told sig_told =
    subst (λ xs. P (world_of xs dir sigs ring)) same_rows
    (subst (λ xs. P (world_of rows_now dir xs ring)) same_sigs
    (subst (λ xs. P (world_of rows_now dir sigs_now xs)) same_ring
    (h (subst IsTrue (sym same_tells) told) (subst IsTrue (sym same_sig_tells) sig_told))))

-- a question that was due, as one more
pub asked_when : (due : Bool) (before now : ℕ) → AskedWhen due before now → now ≡ more (cond due 1 0) before
asked_when true before now h = h
asked_when false before now h = omega arith

-- the list, around a place of it
around : (ids : List Id) (i : ℕ) (c : Id) → i < length ids → c ≡ get_or ids i c → ids ≡ take i ids ++ c ∷ drop (i + 1) ids
around ids i c low at = sym (take-append-drop i ids) ∙ ap (λ rest. take i ids ++ rest) (drop-cons ids i c low ∙ ap₂ (λ (x : Id) (k : ℕ). x ∷ drop k ids) (sym at) (sym (add-one i)))

one_further : (ids : List Id) (i : ℕ) (c : Id) → i < length ids → c ≡ get_or ids i c → take (i + 1) ids ≡ take i ids ++ c ∷ []
one_further ids i c low at = take_more ids i c low ∙ ap (λ (x : Id). take i ids ++ x ∷ []) (sym at)

module _ (w : World) (s : Scope) (keys : Keys) where
  -- a commit that has no cause against it was asked about
  none_first : {A : Type 0} (o p : Option A) (rest : List (Option A)) → first (o ∷ p ∷ rest) ≡ None → (o ≡ None) × (p ≡ None)
  none_first (Some x) p rest e = cc
  none_first None (Some x) rest e = cc
  none_first None None rest e = (refl, refl)

  head_none : {A : Type 0} (o : Option A) (rest : List (Option A)) → first (o ∷ rest) ≡ None → o ≡ None
  head_none (Some x) rest e = cc
  head_none None rest e = refl

  pub was_asked : (c : Id) → cause w s keys c ≡ None → is_asked w c ≡ true
  was_asked c e =
      let both = none_first (unreadable w c) (signature_cause (judged_of w c) (has_file w c) keys) _ e in
      ap₂ (λ o p. is_none (first (o ∷ p ∷ []))) both.0 (head_none (unsigned (judged_of w c)) _ both.1)

  -- these commits were judged, a question for each
  pub record SoFar (front : List Id) (signers : List Fingerprint) (before now : ℕ) : Type 0 where
    pub judged : AreSigned w s keys front signers
    pub asked : now ≡ more (length front) before

  pub begins : (before : ℕ) → SoFar [] [] before before
  begins before = record { judged = record { causeless = All-nil (λ c. cause w s keys c ≡ None); signed = refl }; asked = omega arith }

  counted : (n m before now next : ℕ) → m ≡ n + 1 → now ≡ more n before → next ≡ more 1 now → next ≡ more m before
  counted n m before now next e h k = omega arith

  pub goes_on : (ids : List Id) (i : ℕ) (c : Id) (signers : List Fingerprint) (key : Fingerprint) (before now next : ℕ) → i < length ids → c ≡ get_or ids i c
      → SoFar (take i ids) signers before now → JudgesOne w s keys c (Ok key) → AsksOne w c (Ok key) now next → SoFar (take (i + 1) ids) (signers ++ key ∷ []) before next
  goes_on ids i c signers key before now next low at far judges asks = subst (λ front. SoFar front (signers ++ key ∷ []) before next) (sym (one_further ids i c low at)) (record {
    judged = record {
      causeless = All-push (λ c. cause w s keys c ≡ None) (take i ids) c far.judged.causeless judges.0;
      signed = map-append (signer w) (take i ids) (c ∷ []) ∙ ap₂ (λ a b. a ++ b ∷ []) far.judged.signed judges.1 ∙ sym (map-append Some signers (key ∷ []));
    };
    asked = counted (length (take i ids)) (length (take i ids ++ c ∷ [])) before now next (length-append (take i ids) (c ∷ [])) far.asked
        (subst (λ due. next ≡ more (cond due 1 0) now) (was_asked c judges.0) asks);
  })

  pub all_judged : (ids : List Id) (n : ℕ) (signers : List Fingerprint) (before now : ℕ) → n ≡ length ids → SoFar (take n ids) signers before now → SoFar ids signers before now
  all_judged ids n signers before now e far = subst (λ front. SoFar front signers before now) (ap (λ k. take k ids) e ∙ take-length ids) far

  abbrev refused_there : (ids : List Id) (i : ℕ) (c : Id) (why : Cause) → i < length ids → c ≡ get_or ids i c
      → All (λ c. cause w s keys c ≡ None) (take i ids) → cause w s keys c ≡ Some why → FirstRefused w s keys ids c why
  refused_there ids i c why low at passed refused = record { front = take i ids; rest = drop (i + 1) ids; parts = around ids i c low at; passed = passed; refused = refused }

  summed : (n m before now next : ℕ) → now ≡ more n before → next ≡ more m now → next ≡ more (n + m) before
  summed n m before now next h k = omega arith

  -- the answer at the commit where it stops
  module _ (ids : List Id) (i : ℕ) (c : Id) (signers : List Fingerprint) (before now : ℕ) (low : i < length ids) (at : c ≡ get_or ids i c) (far : SoFar (take i ids) signers before now) where
    pub stops : (fail : EngineFail) → JudgesOne w s keys c (Err fail) → JudgesAll w s keys ids (Err fail)
    stops (Commit id why) h = subst (λ x. FirstRefused w s keys ids x why) (sym h.0) (refused_there ids i c why low at far.judged.causeless h.1)
    stops GitFault h = tt
    stops SigFault h = tt
    stops Memory h = tt
    stops (Name which what) h = h
    stops (Keyring fail) h = h
    stops (Cache fail) h = h
    stops KeepFault h = h
    stops TooMany h = h
    stops (Object id what) h = h
    stops (Cycle id) h = h
    stops (Intro id why) h = h
    stops (Unrelated target intro) h = h

    pub stops_asking : (fail : EngineFail) (next : ℕ) → JudgesOne w s keys c (Err fail) → AsksOne w c (Err fail) now next → AsksAll w s keys ids (Err fail) before next
    stops_asking (Commit id why) next h asks = subst (λ x. AsksAll w s keys ids (Err (Commit x why)) before next) (sym h.0)
        (refused_there ids i c why low at far.judged.causeless h.1, summed (length (take i ids)) (questions w c) before now next far.asked asks)
    stops_asking GitFault next h asks = tt
    stops_asking SigFault next h asks = tt
    stops_asking Memory next h asks = tt
    stops_asking (Name which what) next h asks = h
    stops_asking (Keyring fail) next h asks = h
    stops_asking (Cache fail) next h asks = h
    stops_asking KeepFault next h asks = h
    stops_asking TooMany next h asks = h
    stops_asking (Object id what) next h asks = h
    stops_asking (Cycle id) next h asks = h
    stops_asking (Intro id why) next h asks = h
    stops_asking (Unrelated target intro) next h asks = h
