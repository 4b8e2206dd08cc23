-- The flags and the count of a gate's word, and what each step makes of them.
use Rattle.std.proofs.Common.{◌≡◌, ℕ, ◌+◌, ◌-◌, ◌*◌, ◌/◌, ◌%◌, ◌^◌, ◌<◌, Bool, true, false, not, eqb, refl, sym, ap, ◌∙◌, arith, bit_or, bit_and}
use Rattle.std.proofs.lemmas.Nat.{or_block, and_block}
use Rattle.std.specs.Int.Bits.{or_zero_r, and_zero_r}
use Rattle.hub_core.specs.GateMachine.{Gate, flags_of, word_of, count_in, has_bit, busy, word}
use Rattle.hub_gate.specs.declared.word.Flag.{Flag}
use Rattle.hub_gate.specs.declared.word.Flag.TheVariants.{Enabled, Moved, Closed}
use Rattle.hub_gate.specs.Flags.{flag_bit, flagged_gate}

flags_small : (e m c : Bool) → flags_of e m c < 256
flags_small true true true = omega arith
flags_small true true false = omega arith
flags_small true false true = omega arith
flags_small true false false = omega arith
flags_small false true true = omega arith
flags_small false true false = omega arith
flags_small false false true = omega arith
flags_small false false false = omega arith

-- a number of 8 bits meets the flags of a word alone
meets_flags : (op : ℕ → ℕ → ℕ) → ((a b x y : ℕ) → x < 2 ^ 8 → y < 2 ^ 8 → op (a * 2 ^ 8 + x) (b * 2 ^ 8 + y) ≡ op a b * 2 ^ 8 + op x y) → (e m c : Bool) (k b : ℕ) → b < 256 → op (word_of e m c k) b ≡ op k 0 * 256 + op (flags_of e m c) b
meets_flags op block e m c k b small =
    let F : ℕ = flags_of e m c in
    let low : F < 256 = flags_small e m c in
    let x : k * 256 + F ≡ F + 256 * k = omega arith in
    let y : 0 * 256 + b ≡ b = omega arith in
    (λ i. op (sym x i) (sym y i)) ∙ block k 0 F b low small

-- the flags, by cases
flags : (P : Bool → Bool → Bool → Type 0) → P true true true → P true true false → P true false true → P true false false → P false true true → P false true false → P false false true → P false false false → (e m c : Bool) → P e m c
flags P a b c' d e' f g h true true true = a
flags P a b c' d e' f g h true true false = b
flags P a b c' d e' f g h true false true = c'
flags P a b c' d e' f g h true false false = d
flags P a b c' d e' f g h false true true = e'
flags P a b c' d e' f g h false true false = f
flags P a b c' d e' f g h false false true = g
flags P a b c' d e' f g h false false false = h

bit_small : (flag : Flag) → flag_bit flag < 256
bit_small Enabled = omega arith
bit_small Moved = omega arith
bit_small Closed = omega arith

-- a flag is set by its bit
or_word : (e m c : Bool) (k b with_bit : ℕ) → b < 256 → bit_or (flags_of e m c) b ≡ with_bit → bit_or (word_of e m c k) b ≡ with_bit + 256 * k
or_word e m c k b with_bit small is =
    let met = meets_flags bit_or (or_block 8) e m c k b small in
    let z = or_zero_r k in
    omega (arith, met, z, is)

pub or_flag : {R : Type 0} (flag : Flag) (g : Gate R) → bit_or (word g) (flag_bit flag) ≡ word (flagged_gate flag g)
or_flag Enabled g = or_word g.enabled g.moved g.closed (busy g) 1 _ (bit_small Enabled) (flags (λ x y z. bit_or (flags_of x y z) 1 ≡ flags_of true y z) refl refl refl refl refl refl refl refl g.enabled g.moved g.closed)
or_flag Moved g = or_word g.enabled g.moved g.closed (busy g) 2 _ (bit_small Moved) (flags (λ x y z. bit_or (flags_of x y z) 2 ≡ flags_of x true z) refl refl refl refl refl refl refl refl g.enabled g.moved g.closed)
or_flag Closed g = or_word g.enabled g.moved g.closed (busy g) 4 _ (bit_small Closed) (flags (λ x y z. bit_or (flags_of x y z) 4 ≡ flags_of x y true) refl refl refl refl refl refl refl refl g.enabled g.moved g.closed)

-- the flag among the three
abbrev pub flag_among : Flag → Bool → Bool → Bool → Bool
flag_among Enabled e m c = e
flag_among Moved e m c = m
flag_among Closed e m c = c

-- a flag is read by its bit
reads_alone : (flag : Flag) (e m c : Bool) → has_bit (flags_of e m c) (flag_bit flag) ≡ flag_among flag e m c
reads_alone Enabled e m c = flags (λ x y z. has_bit (flags_of x y z) 1 ≡ x) refl refl refl refl refl refl refl refl e m c
reads_alone Moved e m c = flags (λ x y z. has_bit (flags_of x y z) 2 ≡ y) refl refl refl refl refl refl refl refl e m c
reads_alone Closed e m c = flags (λ x y z. has_bit (flags_of x y z) 4 ≡ z) refl refl refl refl refl refl refl refl e m c

pub reads_flag : (flag : Flag) (e m c : Bool) (k : ℕ) → has_bit (word_of e m c k) (flag_bit flag) ≡ flag_among flag e m c
reads_flag flag e m c k =
    let met = meets_flags bit_and (and_block 8) e m c k (flag_bit flag) (bit_small flag) in
    let z = and_zero_r k in
    let same : bit_and (word_of e m c k) (flag_bit flag) ≡ bit_and (flags_of e m c) (flag_bit flag) = omega (arith, met, z) in
    ap (λ n. not (eqb n 0)) same ∙ reads_alone flag e m c

pub reads_count : (e m c : Bool) (k : ℕ) → count_in (word_of e m c k) ≡ k
reads_count e m c k = count_of (flags_of e m c) k (flags_small e m c)
  where
    count_of : (F k : ℕ) → F < 256 → (F + 256 * k) / 256 ≡ k
    count_of F k low = omega arith

-- a line adds itself, and takes itself off
pub counts_up : (e m c : Bool) (k : ℕ) → k < 2 ^ 32 → (word_of e m c k + 256) % 2 ^ 64 ≡ word_of e m c (k + 1)
counts_up e m c k room = count_up (flags_of e m c) k (flags_small e m c) room
  where
    count_up : (F k : ℕ) → F < 256 → k < 2 ^ 32 → (F + 256 * k + 256) % 2 ^ 64 ≡ F + 256 * (k + 1)
    count_up F k low room = omega arith

pub counts_down : (e m c : Bool) (k : ℕ) → k < 2 ^ 32 → (word_of e m c (k + 1) + (2 ^ 64 - 256)) % 2 ^ 64 ≡ word_of e m c k
counts_down e m c k room = count_down (flags_of e m c) k (flags_small e m c) room
  where
    count_down : (F k : ℕ) → F < 256 → k < 2 ^ 32 → (F + 256 * (k + 1) + (2 ^ 64 - 256)) % 2 ^ 64 ≡ F + 256 * k
    count_down F k low room = omega arith
