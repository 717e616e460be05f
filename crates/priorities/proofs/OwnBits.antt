-- The output of a cell goes by six bits of its record and by no other: MUTE_ST, the cell's own DCC bit and the four bits of its duty. So it
-- goes by no bit of another cell.
-- Assumes nothing.
use mathlib.Core.Path.{◌≡◌, refl, sym, ap, ◌∙◌}
use mathlib.Core.Bool.{Bool, true, false, cond}
use mathlib.Core.List.{List}
use mathlib.Core.Logic.{inl, inr}
use Prim.Native.Nat.{ℕ, ◌+◌, ◌-◌, ◌/◌, ◌%◌, ◌^◌, ◌≤◌, ◌<◌}
use native.Mathlib.Nat.{div-one}
use native.Mathlib.Omega.{arith}
use lib.Dec.{eqb, leb, ltb}
use lib.ListN.{length, get_or}
use lib.Seq.{get_or-set_same, get_or-set_other, set_out}
use borrow.Author.Tests.{eqb-true, eqb-false, leb-true, leb-false, ltb-true, ltb-false}
use Rattle.laws.specs.Bits.{◌⊕◌, odd, bit_at}
use Rattle.laws.proofs.BitAt.{bit_flip, low_flip, high_flip}
use Rattle.records.specs.Record.{cell_count, status_bits, dcc_bits, pwm_a, pwm_b, byte_of}
use Rattle.priorities.specs.declared.outputs.Events.{Events}
use Rattle.priorities.specs.Switches.{muted, dcc, duty_byte, duty}
use Rattle.priorities.specs.Table27.{output_of}
use Rattle.priorities.specs.OwnBits.{flipped, duty_at, duty_bit, Own}
use Rattle.priorities.proofs.Cells.{dcc_byte, in_group_a, in_group_b}
use Rattle.priorities.proofs.Deciding.{by_switches}

-- ---- what is read of a byte, where a flip of a bit there leaves it

module _ {A : Type 0} (f : ℕ → A) (at bit place : ℕ) (r : List ℕ) where
  here : at ≡ place → ((x : ℕ) → f (x ⊕ 2 ^ bit) ≡ f x) → (b : Bool) → ltb at (length r) ≡ b → f (get_or (flipped at bit r) place 0) ≡ f (get_or r place 0)
  here e stays true h =
      ap (λ (p : ℕ). f (get_or (flipped at bit r) p 0)) (sym e)
      ∙ ap f (get_or-set_same r at (get_or r at 0 ⊕ 2 ^ bit) 0 (ltb-true at (length r) h))
      ∙ stays (get_or r at 0)
      ∙ ap (λ (p : ℕ). f (get_or r p 0)) e
  here e stays false h = ap (λ (l : List ℕ). f (get_or l place 0)) (set_out r at (get_or r at 0 ⊕ 2 ^ bit) (ltb-false at (length r) h))

  pub read_flipped : (at ≡ place → (x : ℕ) → f (x ⊕ 2 ^ bit) ≡ f x) → f (get_or (flipped at bit r) place 0) ≡ f (get_or r place 0)
  read_flipped stays = by (eqb at place) refl
    where
      by : (b : Bool) → eqb at place ≡ b → f (get_or (flipped at bit r) place 0) ≡ f (get_or r place 0)
      by true e = let same = eqb-true at place e in here same (stays same) (ltb at (length r)) refl
      by false e = ap f (get_or-set_other r at place (get_or r at 0 ⊕ 2 ^ bit) 0 (λ p. eqb-false at place e (sym p)))

module _ (r : List ℕ) (c : ℕ) (first : 1 ≤ c) (last : c ≤ cell_count) where
  -- the byte of a duty, by its place in the record
  duty_read : duty_byte r c ≡ get_or r (duty_at c) 0
  duty_read = by (leb c 12) refl
    where
      by : (b : Bool) → leb c 12 ≡ b → duty_byte r c ≡ get_or r (cond b (pwm_a.at + (c - 1) / 2) (pwm_b.at + (c - 13) / 2)) 0
      by true e = sym (in_group_a r c first (leb-true c 12 e))
      by false e = sym (in_group_b r c (leb-false c 12 e) last)

-- ---- by their places

pub dcc-at : (r : List ℕ) (c : ℕ) → 1 ≤ c → c ≤ cell_count → dcc r c ≡ bit_at ((c - 1) % 8) (get_or r (dcc_bits.at + (c - 1) / 8) 0)
unfolding dcc
dcc-at r c first last = ap (bit_at ((c - 1) % 8)) (sym (dcc_byte r c first last))

pub duty-at : (r : List ℕ) (c : ℕ) → 1 ≤ c → c ≤ cell_count → duty r c ≡ get_or r (duty_at c) 0 / 2 ^ duty_bit c % 16
unfolding duty
duty-at r c first last =
    by (odd c) (duty_byte r c) ∙ ap (λ (n : ℕ). n / 2 ^ duty_bit c % 16) (duty_read r c first last)
  where
    by : (b : Bool) (n : ℕ) → cond b (n % 16) (n / 16 % 16) ≡ n / 2 ^ cond b 0 4 % 16
    by true n = ap (λ (m : ℕ). m % 16) (sym (div-one n))
    by false n = refl

-- the half of a byte that is a duty
abbrev half : Bool → ℕ → ℕ
half b n = cond b (n % 16) (n / 16 % 16)

half-flipped : (b : Bool) (bit n : ℕ) → bit < 8 → ((cond b 0 4 ≤ bit) × (bit < cond b 0 4 + 4) → ⊥) → half b (n ⊕ 2 ^ bit) ≡ half b n
half-flipped true bit n h apart = by (ltb bit 4) refl
  where
    by : (t : Bool) → ltb bit 4 ≡ t → (n ⊕ 2 ^ bit) % 16 ≡ n % 16
    by true e = absurd (apart (omega arith, omega (arith, ltb-true bit 4 e)))
    by false e = low_flip 4 bit n (ltb-false bit 4 e)
half-flipped false bit n h apart = by (ltb bit 4) refl
  where
    by : (t : Bool) → ltb bit 4 ≡ t → (n ⊕ 2 ^ bit) / 16 % 16 ≡ n / 16 % 16
    by true e = ap (λ (m : ℕ). m % 16) (high_flip 4 bit n (ltb-true bit 4 e))
    by false e = absurd (apart (ltb-false bit 4 e, omega arith))

-- ---- no other bit

module _ (r : List ℕ) (c : ℕ) (first : 1 ≤ c) (last : c ≤ cell_count) (at bit : ℕ) (small : bit < 8) (other : Own c at bit → ⊥) where
  same-muted : muted (flipped at bit r) ≡ muted r
  unfolding muted byte_of
  same-muted = read_flipped (bit_at 4) at bit status_bits.at r (λ e x. bit_flip 4 bit x (λ k. other (inl (e, sym k))))

  same-dcc : dcc (flipped at bit r) c ≡ dcc r c
  unfolding dcc
  same-dcc =
      let k = (c - 1) % 8 in
      let there : bit_at k (get_or (flipped at bit r) (dcc_bits.at + (c - 1) / 8) 0) ≡ bit_at k (get_or r (dcc_bits.at + (c - 1) / 8) 0) =
      read_flipped (bit_at k) at bit (dcc_bits.at + (c - 1) / 8) r (λ e x. bit_flip k bit x (λ p. other (inr (inl (e, sym p))))) in
      ap (bit_at k) (sym (dcc_byte (flipped at bit r) c first last)) ∙ there ∙ ap (bit_at k) (dcc_byte r c first last)

  same-duty : duty (flipped at bit r) c ≡ duty r c
  unfolding duty
  same-duty =
      let there : half (odd c) (get_or (flipped at bit r) (duty_at c) 0) ≡ half (odd c) (get_or r (duty_at c) 0) =
      read_flipped (half (odd c)) at bit (duty_at c) r (λ e x. half-flipped (odd c) bit x small (λ p. other (inr (inr (e, p))))) in
      ap (half (odd c)) (duty_read (flipped at bit r) c first last) ∙ there ∙ ap (half (odd c)) (sym (duty_read r c first last))

  pub no_other_bit : (events : Events) (phase : ℕ) → output_of events phase (flipped at bit r) c ≡ output_of events phase r c
  no_other_bit events phase = by_switches events phase (flipped at bit r) r c same-muted same-dcc same-duty
