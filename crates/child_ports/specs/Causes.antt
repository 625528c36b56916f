-- Faults of a port and their count.
use Rattle.std.specs.Prelude.{◌≡◌, ℕ, ◌+◌, ◌-◌, ◌^◌, ◌≤◌, ◌<◌, min, max, Result, Ok, Err, MatchResult, MatchBool, Bool}
use Rattle.child_ports.specs.declared.fail.PortFail.{PortFail}
use Rattle.child_ports.specs.declared.fail.PortFail.TheVariants.{Failed, Memory}

-- one more, up to the last u64
abbrev pub one_more : ℕ → ℕ
one_more count = max count (min (count + 1) (2 ^ 64 - 1))

-- The count is as before or one more, up to the last u64.
abbrev pub AtMostOnce : ℕ → ℕ → Type 0
AtMostOnce before now = (before ≤ now) × (now ≤ one_more before)

-- The count has risen, or stands at the last u64.
abbrev pub Rose : ℕ → ℕ → Type 0
Rose before now = one_more before ≤ now

-- No call failed: the count is as before, and below its last value.
abbrev pub Stayed : ℕ → ℕ → Type 0
Stayed before now = (now ≡ before) × (now < 2 ^ 64 - 1)

-- An `Err` comes only where the count rose, and an `Ok` leaves it.
abbrev pub FailsByCount : {T E : Type 0} → ℕ → ℕ → Result T E → Type 0
FailsByCount before now result = MatchResult result (λ _. now ≡ before) (λ _. Rose before now)

-- `Failed` comes only where the count rose, and any other answer leaves it.
abbrev pub PortFailsByCount : {T : Type 0} → ℕ → ℕ → Result T PortFail → Type 0
PortFailsByCount before now (Ok x) = now ≡ before
PortFailsByCount before now (Err Failed) = Rose before now
PortFailsByCount before now (Err Memory) = now ≡ before

-- A port's fault is the answer exactly where a call on the port failed: then the count rose, and else it is as before.
abbrev pub RoseWhen : Bool → ℕ → ℕ → Type 0
RoseWhen is_fault before now = MatchBool is_fault (Rose before now) (now ≡ before)
