-- A read from a place in known bytes.
use Rattle.std.proofs.Common.{◌≡◌, ℕ, ◌+◌, ◌≤◌, ◌<◌, List, ◌++◌, take, drop, length, sym, ap, ◌∙◌, arith, take-append-drop}
use Rattle.std.proofs.lemmas.List.{drop-drop, drop_all}
use Rattle.child_ports.specs.Git.{Hands}

-- n bytes from a place on were handed out
pub handed : (bytes buf : List ℕ) (at n : ℕ) → take n buf ≡ take n (drop at bytes) → at + n ≤ length bytes
    → (0 < length buf → at < length bytes → 0 < n) → Hands (drop at bytes) (drop (at + n) bytes) n buf
handed bytes buf at n front within some = record {
  front = sym (take-append-drop n (drop at bytes)) ∙ ap (λ l. take n (drop at bytes) ++ l) (drop-drop n at bytes) ∙ ap (λ l. l ++ drop (at + n) bytes) (sym front);
  none = λ zero room. drop_all at bytes (grind arith);
}
