-- A register that is moved on: turned by one, and the element that was its first, now the last, replaced by the new one. So the part of a state
-- that is its register, lent and moved on, comes back as the state moved on.
-- Assumes nothing.
use mathlib.Core.Path.{◌≡◌, refl, ap, ap₂, ◌∙◌}
use mathlib.Core.List.{List, [], ◌∷◌, ◌++◌}
use Prim.Native.Nat.{ℕ, suc, ◌+◌, ◌-◌, ◌*◌, ◌<◌}
use native.Mathlib.Omega.{arith}
use lib.ListN.{length, get_or, set, take, drop}
use lib.Seq.{set_at}
use borrow.Rule.Slice.PartMut.{put_mid}
use Rattle.laws.proofs.LentParts.{part_back}
use Rattle.clock_state.specs.State.{windows_at, chained_in, register_in}
use Rattle.clocking.specs.Bytes.{shifted}

module _ {A : Type 0} where
  pub turned : (l : List A) (a : A) → 0 < length l → set (drop 1 l ++ take 1 l) (length l - 1) a ≡ drop 1 (l ++ a ∷ [])
  turned [] a h = absurd (omega arith)
  turned (x ∷ xs) a h = let last : length xs ≡ suc (length xs) - 1 = omega arith in set_at xs x [] a (suc (length xs) - 1) last

  -- a register of nothing lets nothing in
  pub nothing : (l : List A) (a : A) → length l ≡ 0 → (a ≡ get_or l 0 a) × (l ≡ drop 1 (l ++ a ∷ []))
  nothing [] a e = (refl, refl)
  nothing (x ∷ xs) a e = absurd (omega arith)

-- ---- the register of a state: lent, and come back

module _ (w byte : ℕ) (s : List ℕ) {n : ℕ} (its : n ≡ chained_in s) where
  -- the register, as it is lent
  abbrev pub lent : List ℕ
  lent = take (windows_at + w * n - windows_at) (drop windows_at s)

  lent-register : lent ≡ register_in w (chained_in s) s
  unfolding register_in
  lent-register =
      let size : windows_at + w * n - windows_at ≡ w * n = omega arith in
      ap (λ (k : ℕ). take k (drop windows_at s)) (size ∙ ap (λ (k : ℕ). w * k) its)

  pub first_of_register : {first : ℕ} → first ≡ get_or lent 0 byte → first ≡ get_or (register_in w (chained_in s) s) 0 byte
  first_of_register e = e ∙ ap (λ (r : List ℕ). get_or r 0 byte) lent-register

  pub shifted_by : {after : List ℕ} → after ≡ drop 1 (lent ++ byte ∷ []) → put_mid windows_at (windows_at + w * n - windows_at) s after ≡ shifted w byte s
  unfolding shifted
  shifted_by {after} e =
      part_back windows_at (w * n) s after
      ∙ ap₂ (λ (x : List ℕ) (k : ℕ). take windows_at s ++ x ++ drop (windows_at + w * k) s) (e ∙ ap (λ (r : List ℕ). drop 1 (r ++ byte ∷ [])) lent-register) its
